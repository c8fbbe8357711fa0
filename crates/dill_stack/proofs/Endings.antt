-- The end of the top layer goes out in the framing of the layer on the link.
use Rattle.std.proofs.Common.{◌≡◌, ◌≤◌, ◌∷◌, ◌++◌, ◌||◌, ◌∙◌, [], sym, ap, refl, arith, ℕ, List, true, false, length, Bool, not, Some, None, Ok, Err, le-ltb, if◌then◌else◌}
use Rattle.std.specs.List.{list_any}
use Rattle.dill_ws.specs.Frames.{frame_bytes}
use Rattle.rand_core.specs.Stream.{Stream}
use Rattle.dill_base.specs.declared.errno.Errno.{Errno}
use Rattle.dill_stack.specs.declared.placed.Base.{Base}
use Rattle.dill_stack.specs.declared.placed.Base.TheVariants as base
use Rattle.dill_stack.specs.Layers.{HttpLayer, TermLayer, Placed, Prefix, Suffix, Term, Http, Ws}
use Rattle.dill_stack.specs.Held.{Held, Plain, Leaves}
use Rattle.dill_stack.specs.Composed.{composed, random_after, is_masking, masks, drawn_key}
use Rattle.dill_stack.specs.Refusals.{done_fault}
use Rattle.dill_stack.specs.Rooms.{Stocked}
use Rattle.dill_stack.specs.Sending.{with_end, done, is_sent, item_of}
use Rattle.dill_stack.specs.declared.parting.Parting.{Parting}
use Rattle.dill_stack.specs.Parting.{parting_fault, close_payload, with_parting, detach_start, detach_finish}
use Rattle.dill_stack.specs.declared.want.ReadOut.TheVariants.{Need}
use Rattle.dill_stack.specs.Doing.{IsKey, on_link, below_end, below_parting}
use Rattle.dill_stack.specs.Standing.{has_end_of, is_frames_top, is_top_done, closed_base, base_key, tower, base_layers, ends_of, ending_of, done_top, HasBase, HasEnds, IsTower, JoinsWithin}
use Rattle.dill_stack.proofs.Sends.{composed_tower, on_key, keyed, masks_tower}
use Rattle.dill_stack.proofs.Towers.{on_tower}

ends_done : (ts : List TermLayer) (below : List Placed) → HasEnds ts below → HasEnds (done_top ts) below
ends_done [] below h = tt
ends_done (t ∷ ts) below h = h

based_done : (ts : List TermLayer) (b : Base) → HasBase ts b → HasBase (done_top ts) b
based_done ts base.Bytes h = ap done_top h
based_done ts (base.Prefix form) h = tt
based_done ts (base.Suffix end) h = tt
based_done ts (base.Http http) h = ap done_top h
based_done ts (base.Ws framed) h = tt

pub stack_done : (ts : List TermLayer) (b : Base) (room : ℕ) → IsTower ts b room → IsTower (done_top ts) b room
stack_done ts b room i = record { fits = i.fits; based = based_done ts b i.based; ends = ends_done ts (base_layers b) i.ends; room = i.room }

-- the stack with the end of its top queued
abbrev pub ended_top : List ℕ → List TermLayer → Base → Held → Held
ended_top key ts b s = record s { layers = tower (done_top ts) (base_layers b); queue = s.queue ++ ending_of key (base_layers b) ts }

pub ends_top : (key : List ℕ) (ts : List TermLayer) (b : Base) (random : Stream) (s : Held) → 1 ≤ length ts → HasEnds ts (base_layers b) → IsKey key (below_end (tower ts (base_layers b))) random → with_end (tower ts (base_layers b)) random s ≡ Ok (ended_top key ts b s, random_after (below_end (tower ts (base_layers b))) random)
ends_top key [] b random s l h k = absurd (omega (arith, l))
ends_top key (t ∷ ts) b random s l h k =
    let c : composed (tower ts (base_layers b)) t.terminal random ≡ Ok (on_link key (base_layers b) t.terminal, random_after (tower ts (base_layers b)) random) = composed_tower ts b t.terminal random (le-ltb 1048576 (length t.terminal) (omega (arith, h.0))) h.1 ∙ ap (λ w. Ok (w, random_after (tower ts (base_layers b)) random)) (sym (on_key (tower ts (base_layers b)) key t.terminal random k) ∙ on_tower key ts (base_layers b) t.terminal) in
    rw c refl

ends_tower : (ts : List TermLayer) (b : Base) → ends_of (tower ts (base_layers b)) ≡ ts
ends_tower [] base.Bytes = refl
ends_tower [] (base.Prefix form) = refl
ends_tower [] (base.Suffix end) = refl
ends_tower [] (base.Http http) = refl
ends_tower [] (base.Ws framed) = refl
ends_tower (t ∷ ts) b = ap (λ xs. t ∷ xs) (ends_tower ts b)

pub none_ends : (ts : List TermLayer) (b : Base) → ends_of (tower ts (base_layers b)) ≡ [] → ts ≡ []
none_ends ts b h = sym (ends_tower ts b) ∙ h

pub done_refused : (random : Stream) (s : Held) (e : Errno) → done_fault false s ≡ Some e → done random s ≡ Err e
unfolding done
done_refused random s e h = rw h refl

pub dones : (random : Stream) (s : Held) → done_fault false s ≡ None → done random s ≡ with_end s.layers random s
unfolding done
dones random s h = rw h refl

-- A framing has no end to send.
pub ends_nothing : (layers : List Placed) (ts : List TermLayer) (b : Base) (random : Stream) (s : Held) → layers ≡ tower ts (base_layers b) → ts ≡ [] → (b ≡ base.Bytes → ⊥) → ((x : HttpLayer) → b ≡ base.Http x → ⊥) → with_end layers random s ≡ Ok (s, random)
ends_nothing layers ts b random s h e n m = rw h (rw e (alone b n m))
  where
    alone : (b : Base) → (b ≡ base.Bytes → ⊥) → ((x : HttpLayer) → b ≡ base.Http x → ⊥) → with_end (base_layers b) random s ≡ Ok (s, random)
    alone base.Bytes n m = absurd (n refl)
    alone (base.Prefix form) n m = refl
    alone (base.Suffix end) n m = refl
    alone (base.Http http) n m = absurd (m http refl)
    alone (base.Ws framed) n m = refl

-- What a detach sends for the top layer that isn't one of frames: its end, where it has one to send.
pub parts_tower : (p : Parting) (ts : List TermLayer) (b : Base) (random : Stream) (s : Held) → is_frames_top (tower ts (base_layers b)) ≡ false → with_parting p (tower ts (base_layers b)) random s ≡ (if has_end_of (tower ts (base_layers b)) then with_end (tower ts (base_layers b)) random s else Ok (s, random))
parts_tower p [] base.Bytes random s f = refl
parts_tower p [] (base.Prefix form) random s f = refl
parts_tower p [] (base.Suffix end) random s f = refl
parts_tower p [] (base.Http http) random s f = refl
parts_tower p [] (base.Ws framed) random s f = cc
parts_tower p (t ∷ ts) b random s f = refl

pub parts : (p : Parting) (layers : List Placed) (ts : List TermLayer) (b : Base) (random : Stream) (s : Held) (c : Bool) → layers ≡ tower ts (base_layers b) → is_frames_top (tower ts (base_layers b)) ≡ false → has_end_of (tower ts (base_layers b)) ≡ c → with_parting p layers random s ≡ (if c then with_end layers random s else Ok (s, random))
parts p layers ts b random s c e f h = rw e (parts_tower p ts b random s f ∙ ap (λ x. if x then with_end (tower ts (base_layers b)) random s else Ok (s, random)) h)

pub not_frames : (ts : List TermLayer) (below : List Placed) → 1 ≤ length ts → false ≡ is_frames_top (tower ts below)
not_frames [] below h = absurd (omega (arith, h))
not_frames (t ∷ ts) below h = refl

pub end_masks : (ts : List TermLayer) (below : List Placed) → 1 ≤ length ts → list_any is_masking below ≡ list_any is_masking (below_end (tower ts below))
end_masks [] below h = absurd (omega (arith, h))
end_masks (t ∷ ts) below h = sym (masks_tower ts below)

part_if : (d : Bool) (layers : List Placed) (c : Bool) → d ≡ c → list_any is_masking (if d then [] else layers) ≡ (if c then false else list_any is_masking layers)
part_if true layers true h = refl
part_if false layers false h = refl
part_if true layers false h = cc
part_if false layers true h = cc

pub done_part : (ts : List TermLayer) (below : List Placed) → is_top_done ts ≡ true → false ≡ list_any is_masking (below_parting (tower ts below))
done_part [] below h = cc
done_part (t ∷ ts) below h = sym (part_if t.done (tower ts below) true h)

pub undone_part : (ts : List TermLayer) (below : List Placed) → 1 ≤ length ts → is_top_done ts ≡ false → list_any is_masking below ≡ list_any is_masking (below_parting (tower ts below))
undone_part [] below l h = absurd (omega (arith, l))
undone_part (t ∷ ts) below l h = sym (part_if t.done (tower ts below) false h ∙ masks_tower ts below)

-- A close frame is queued for a layer of frames on top.
abbrev pub closed_top : Parting → List ℕ → List TermLayer → Base → Held → Held
closed_top p key ts b s = record s { layers = tower ts (base_layers (closed_base b)); queue = s.queue ++ item_of Plain (frame_bytes true 8 (base_key b key) (close_payload p)) }

pub closes : (p : Parting) (key : List ℕ) (ts : List TermLayer) (b : Base) (random : Stream) (s : Held) → is_frames_top (tower ts (base_layers b)) ≡ true → IsKey key (below_parting (tower ts (base_layers b))) random → with_parting p (tower ts (base_layers b)) random s ≡ Ok (closed_top p key ts b s, random_after (below_parting (tower ts (base_layers b))) random)
closes p key [] base.Bytes random s h k = cc
closes p key [] (base.Prefix form) random s h k = cc
closes p key [] (base.Suffix end) random s h k = cc
closes p key [] (base.Http http) random s h k = cc
closes p key [] (base.Ws framed) random s h k = ap (λ o. Ok (record s { layers = base_layers (closed_base (base.Ws framed)); queue = s.queue ++ item_of Plain (frame_bytes true 8 o (close_payload p)) }, random_after (base_layers (base.Ws framed)) random)) (sym (keyed framed.side key (drawn_key random).0 (λ e. k (ap (λ side. masks side || false) e))))
closes p key (t ∷ ts) b random s h k = cc

pub stack_closed : (ts : List TermLayer) (b : Base) (room : ℕ) → is_frames_top (tower ts (base_layers b)) ≡ true → IsTower ts b room → IsTower ts (closed_base b) room
stack_closed [] base.Bytes room h i = i
stack_closed [] (base.Prefix form) room h i = i
stack_closed [] (base.Suffix end) room h i = i
stack_closed [] (base.Http http) room h i = i
stack_closed [] (base.Ws framed) room h i = record { fits = i.fits; based = tt; ends = tt; room = i.room }
stack_closed (t ∷ ts) b room h i = absurd (never h)
  where
    never : false ≡ true → ⊥
    never e = cc

pub joins_closed : (n : ℕ) (b : Base) → JoinsWithin n b → JoinsWithin n (closed_base b)
joins_closed n base.Bytes j = j
joins_closed n (base.Prefix form) j = j
joins_closed n (base.Suffix end) j = j
joins_closed n (base.Http http) j = j
joins_closed n (base.Ws framed) j = j

-- without ends by terminal messages no end is masked
pub end_plain : (layers : List Placed) (ts : List TermLayer) (b : Base) (random : Stream) → layers ≡ tower ts (base_layers b) → ts ≡ [] → random_after (below_end layers) random ≡ random
end_plain layers ts b random h e = rw h (rw e (alone b))
  where
    alone : (b : Base) → random_after (below_end (base_layers b)) random ≡ random
    alone base.Bytes = refl
    alone (base.Prefix form) = refl
    alone (base.Suffix end) = refl
    alone (base.Http http) = refl
    alone (base.Ws framed) = refl

-- the layers that mask it are those that mask the end
pub masks_same : (layers : List Placed) → is_frames_top layers ≡ false → has_end_of layers ≡ true → below_parting layers ≡ below_end layers
masks_same [] f h = refl
masks_same (Prefix form ∷ below) f h = refl
masks_same (Suffix end ∷ below) f h = refl
masks_same (Term t ∷ below) f h = undone_masks t.done h
  where
    undone_masks : (d : Bool) → not d ≡ true → (if d then [] else below) ≡ below
    undone_masks true h = cc
    undone_masks false h = refl
masks_same (Http http ∷ below) f h = refl
masks_same (Ws ws ∷ below) f h = cc

pub masks_none : (layers : List Placed) (random : Stream) → is_frames_top layers ≡ false → has_end_of layers ≡ false → random_after (below_parting layers) random ≡ random
masks_none [] random f h = refl
masks_none (Prefix form ∷ below) random f h = refl
masks_none (Suffix end ∷ below) random f h = refl
masks_none (Term t ∷ below) random f h = done_masks t.done h
  where
    done_masks : (d : Bool) → not d ≡ false → random_after (if d then [] else below) random ≡ random
    done_masks true h = refl
    done_masks false h = cc
masks_none (Http http ∷ below) random f h = refl
masks_none (Ws ws ∷ below) random f h = cc

pub start_refused : (p : Parting) (random : Stream) (s : Held) (e : Errno) → parting_fault s ≡ Some e → detach_start p random s ≡ Err e
unfolding detach_start
start_refused p random s e h = rw h refl

pub starts : (p : Parting) (random : Stream) (s : Held) → parting_fault s ≡ None → detach_start p random s ≡ with_parting p s.layers random (record s { task = Leaves })
unfolding detach_start
starts p random s h = rw h refl

-- A detach waits until all that was queued has gone.
pub finish_waits : (random : Stream) (s : Held) → is_sent s ≡ false → detach_finish random s ≡ record { stack = s; said = Need; random = random }
unfolding detach_finish
finish_waits random s h = rw h refl
