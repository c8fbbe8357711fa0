-- A message that no layer refuses is sent in the framing of the layer on the link.
use Rattle.std.proofs.Common.{◌≡◌, ◌≤◌, ◌∷◌, ◌++◌, ◌||◌, ◌&&◌, ◌∙◌, not, [], sym, ap, refl, arith, ℕ, List, Bool, true, false, bytes_eq, length, ltb, ◌^◌, nat_lt, Option, Some, None, Result, Ok, Err, OnOk, OnErr, IfErr, max, if◌then◌else◌}
use Rattle.std.specs.List.{list_any}
use Rattle.std.proofs.lemmas.Bool.{ltb-false}
use Rattle.rand_core.specs.Stream.{Stream}
use Rattle.dill_base.specs.declared.errno.Errno.{Errno}
use Rattle.dill_base.specs.declared.errno.Errno.TheVariants.{Einval, Emsgsize}
use Rattle.dill_frames.specs.Prefix.{prefix_due, prefix_spelling}
use Rattle.dill_frames.specs.Suffix.{suffix_due, is_at, place_of}
use Rattle.dill_stack.specs.declared.placed.Base.{Base}
use Rattle.dill_stack.specs.declared.placed.Base.TheVariants as base
use Rattle.std.specs.Str.{is_utf8}
use Rattle.dill_ws.specs.declared.side.Side.{Side}
use Rattle.dill_ws.specs.declared.side.Side.TheVariants.{Client, Server}
use Rattle.dill_ws.specs.Frames.{frame_bytes}
use Rattle.dill_stack.specs.Layers.{AmongFields, TermLayer, Placed, Prefix, Suffix, Term, Http, Ws}
use Rattle.dill_stack.specs.Held.{Held, Plain}
use Rattle.dill_stack.specs.Composed.{spelled, composed, drawn_key, random_after, data_frame, key_of, masks, is_masking, is_invalid, is_refused, is_too_long, is_any, message_limit, and_then}
use Rattle.dill_stack.specs.Refusals.{first_fault, send_fault, line_fault, is_done}
use Rattle.dill_stack.specs.Refusing.{fault_of, is_fault_with, refused_by}
use Rattle.dill_stack.specs.Sending.{frame, line, queued, with_line}
use Rattle.dill_stack.specs.declared.fault.StackFault.{StackFault}
use Rattle.dill_stack.specs.declared.fault.StackFault.TheVariants.{Refused, NoMemory}
use Rattle.dill_stack.specs.Rooms.{Stocked}
use Rattle.dill_stack.specs.Doing.{IsDone, IsLacking, IsKey, Changes, on_link}
use Rattle.dill_stack.specs.Standing.{tower, base_layers, ws_layer}
use Rattle.dill_stack.proofs.Towers.{free_of}

-- no refusal: each of its tests has failed
pub open_fault : (a b c d e : Bool) → first_fault a b c d e ≡ None → (a ≡ false) × (e ≡ false)
open_fault true b c d e h = cc
open_fault false true c d e h = cc
open_fault false false true d e h = cc
open_fault false false false true e h = cc
open_fault false false false false true h = cc
open_fault false false false false false h = (refl, refl)

or_false : (a b : Bool) → a || b ≡ false → (a ≡ false) × (b ≡ false)
or_false true b h = cc
or_false false b h = (refl, h)

-- the message is short, and no layer refuses it
pub open_send : (m : List ℕ) (s : Held) → send_fault m false s ≡ None → (nat_lt message_limit (length m) ≡ false) × (is_refused s.layers m ≡ false)
unfolding send_fault is_too_long
open_send m s h = or_false (nat_lt message_limit (length m)) (is_refused s.layers m) (open_fault (is_invalid s.layers m) false (is_done s) s.sending.broken (nat_lt message_limit (length m) || is_refused s.layers m) h).1

pub short_send : (m : List ℕ) (s : Held) → send_fault m false s ≡ None → length m ≤ 1048576
short_send m s h = ltb-false 1048576 (length m) (open_send m s h).0

ok_of : (b : Bool) (w : List ℕ) (e : Errno) (f g : List ℕ → Result (List ℕ) Errno) → g w ≡ Ok w → fault_of (and_then (if b then Ok w else Err e) f) ≡ None → and_then (if b then Ok w else Err e) g ≡ Ok w
ok_of true w e f g h k = h
ok_of false w e f g h k = cc

frame_key : (key : List ℕ) (b : Bool) (w v : List ℕ) → fault_of (and_then (if b then Err Einval else Ok w) (spelled [] [])) ≡ None → and_then (if b then Err Einval else Ok v) (spelled key []) ≡ Ok v
frame_key key true w v h = cc
frame_key key false w v h = refl

key_base : (key : List ℕ) (b : Base) (m : List ℕ) → refused_by (base_layers b) m ≡ None → spelled key (base_layers b) m ≡ Ok (on_link key (base_layers b) m)
unfolding prefix_due suffix_due
key_base key base.Bytes m h = refl
key_base key (base.Prefix form) m h = ok_of (ltb (length m) (256 ^ form.size)) (prefix_spelling form m) Emsgsize (spelled [] []) (spelled key []) refl h
key_base key (base.Suffix end) m h = ok_of (is_at (length m) (place_of end (m ++ end))) (m ++ end) Einval (spelled [] []) (spelled key []) refl h
key_base key (base.Http http) m h = cc
key_base key (base.Ws framed) m h = frame_key key (framed.text && not (is_utf8 m)) (data_frame (ws_layer framed) [] m) (data_frame (ws_layer framed) key m) h

key_step : (key : List ℕ) (t : TermLayer) (below : List Placed) (m w : List ℕ) (b : Bool) → bytes_eq m t.terminal ≡ b → (refused_by below m ≡ None → spelled key below m ≡ Ok w) → refused_by (Term t ∷ below) m ≡ None → spelled key (Term t ∷ below) m ≡ Ok w
key_step key t below m w true e f h = let k : Some Einval ≡ None = sym (ap fault_of (ap (λ (b : Bool). if b then Err Einval else spelled [] below m) e)) ∙ h in cc
key_step key t below m w false e f h = rw e (f (sym (ap (λ b. fault_of (if b then Err Einval else spelled [] below m)) e) ∙ h))

-- What is not refused is spelled by the layer on the link alone.
pub key_tower : (key : List ℕ) (ts : List TermLayer) (b : Base) (m : List ℕ) → refused_by (tower ts (base_layers b)) m ≡ None → spelled key (tower ts (base_layers b)) m ≡ Ok (on_link key (tower ts (base_layers b)) m)
key_tower key [] b m h = key_base key b m h
key_tower key (t ∷ ts) b m h = key_step key t (tower ts (base_layers b)) m (on_link key (tower ts (base_layers b)) m) (bytes_eq m t.terminal) refl (key_tower key ts b m) h

-- only the layer on the link masks
pub masks_tower : (ts : List TermLayer) (below : List Placed) → list_any is_masking (tower ts below) ≡ list_any is_masking below
masks_tower [] below = refl
masks_tower (t ∷ ts) below = masks_tower ts below

pub keyed : (side : Side) (key other : List ℕ) → (side ≡ Client → key ≡ other) → key_of side key ≡ key_of side other
keyed Client key other k = ap Some (k refl)
keyed Server key other k = refl

-- What is sent doesn't depend on the key of a stack that doesn't mask.
pub on_key : (layers : List Placed) (key : List ℕ) (m : List ℕ) (random : Stream) → IsKey key layers random → on_link key layers m ≡ on_link (drawn_key random).0 layers m
on_key [] key m random h = refl
on_key (Prefix form ∷ below) key m random h = refl
on_key (Suffix end ∷ below) key m random h = refl
on_key (Term t ∷ below) key m random h = on_key below key m random h
on_key (Http http ∷ below) key m random h = refl
on_key (Ws ws ∷ below) key m random h = ap (λ o. frame_bytes true (if ws.text then 1 else 2) o m) (keyed ws.side key (drawn_key random).0 (λ e. h (ap (λ side. masks side || list_any is_masking below) e)))

not_any : (o : Option Errno) → is_fault_with is_any o ≡ false → o ≡ None
not_any None h = refl
not_any (Some e) h = cc

pub none_of : (layers : List Placed) (m : List ℕ) → is_refused layers m ≡ false → refused_by layers m ≡ None
none_of layers m h = not_any (refused_by layers m) (free_of layers m ∙ h)

pub composed_tower : (ts : List TermLayer) (b : Base) (m : List ℕ) (random : Stream) → nat_lt message_limit (length m) ≡ false → refused_by (tower ts (base_layers b)) m ≡ None → composed (tower ts (base_layers b)) m random ≡ Ok (on_link (drawn_key random).0 (tower ts (base_layers b)) m, random_after (tower ts (base_layers b)) random)
unfolding composed
composed_tower ts b m random l h = rw (l, key_tower (drawn_key random).0 ts b m h) refl

pub frames : (m : List ℕ) (ts : List TermLayer) (b : Base) (s : Held) (random : Stream) → s.layers ≡ tower ts (base_layers b) → send_fault m false s ≡ None → frame m random s ≡ Ok (queued Plain (on_link (drawn_key random).0 s.layers m) s, random_after s.layers random)
unfolding frame
frames m ts b s random e h =
    let c : composed s.layers m random ≡ Ok (on_link (drawn_key random).0 s.layers m, random_after s.layers random) = rw e (composed_tower ts b m random (open_send m s h).0 (none_of (tower ts (base_layers b)) m (ap (λ l. is_refused l m) (sym e) ∙ (open_send m s h).1))) in
    rw (h, c) refl

pub frame_refused : (m : List ℕ) (s : Held) (random : Stream) (e : Errno) → send_fault m false s ≡ Some e → frame m random s ≡ Err e
unfolding frame
frame_refused m s random e h = rw h refl

-- A message has gone into the queue.
pub framed : (key m : List ℕ) (due : Result (Held × Stream) Errno) (before now : Stocked) (random left : Stream) → due ≡ Ok (queued Plain (on_link (drawn_key random).0 before.held.layers m) before.held, random_after before.held.layers random) → now ≡ record before { held = queued Plain (on_link key before.held.layers m) before.held } → IsKey key before.held.layers random → left ≡ random_after before.held.layers random → IsDone due before now left
framed key m due before now random left d n k l =
    rw n record {
      due = d ∙ ap (λ x. Ok (queued Plain x before.held, random_after before.held.layers random)) (sym (on_key before.held.layers key m random k)) ∙ ap (λ x. Ok (queued Plain (on_link key before.held.layers m) before.held, x)) (sym l);
      rest = refl;
    }

pub lacking : (due : Result (Held × Stream) Errno) (x : Held × Stream) (before now : Stocked) (random : Stream) → due ≡ Ok x → now ≡ before → IsLacking due before now random random
lacking due x before now random d e = record { due = rw d refl; same = e; kept = refl }

pub line_refused : (first : Bool) (w : List ℕ) (s : Held) (e : Errno) → line_fault first false s ≡ Some e → line first w s ≡ Err e
unfolding line
line_refused first w s e h = rw h refl

pub lines : (first : Bool) (w : List ℕ) (s : Held) → line_fault first false s ≡ None → line first w s ≡ Ok (with_line AmongFields w s)
unfolding line
lines first w s h = rw h refl

-- what became of a line that isn't refused
pub lined : (r : Result (Unit {0}) StackFault) (w : List ℕ) (due : Result Held Errno) (before now : Stocked) → due ≡ Ok (with_line AmongFields w before.held) → OnOk r (now ≡ record before { held = with_line AmongFields w before.held }) → OnErr r (now ≡ before) → IfErr r (λ e. e ≡ NoMemory) → Changes due r before now
lined (Ok u) w due before now d o e n = (d ∙ ap Ok (sym (ap (λ x. x.held) o)), rw o refl)
lined (Err NoMemory) w due before now d o e n = (rw d refl, e)
lined (Err (Refused f)) w due before now d o e n = cc
