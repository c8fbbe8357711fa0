-- Which bytes show a refusal of a WebSocket layer.
use Rattle.std.proofs.Common.{◌≡◌, ◌⊎◌, inl, inr, ◌≤◌, ◌<◌, ◌+◌, ◌%◌, [], ◌∷◌, ◌++◌, List, ℕ, zero, suc, length, take, drop, slice_index, ltb, arith, sym, ap, ◌∙◌, refl, subst, Bool, true, false, not, ◌&&◌, le-ltb, lt-ltb, append-nil, append_assoc, length-append, Option, Some, None, if◌then◌else◌}
use Rattle.std.specs.Prelude.{◌==◌, is_some, nat_lt, nat_le, IsUtf8}
use Rattle.std.specs.Option.{unwrap_or}
use Rattle.std.specs.Str.{is_utf8}
use Rattle.std.proofs.lemmas.Bool.{le-leb, leb-true, eqb-true, ltb-true}
use Rattle.std.proofs.lemmas.Str.{IsUtf8-from_is_utf8}
use Rattle.std.proofs.lemmas.List.{take-append-le, length-take-le, take-append-drop}
use Rattle.std.proofs.Math.Seq.{take-add, take-append_seam}
use Rattle.dill_base.specs.declared.errno.Errno.{Errno}
use Rattle.dill_base.specs.declared.errno.Errno.TheVariants.{Epipe, Eproto, Emsgsize}
use Rattle.dill_base.specs.Reading.{IsShown}
use Rattle.dill_ws.specs.declared.side.Side.{Side}
use Rattle.dill_ws.specs.declared.side.Side.TheVariants.{Client, Server}
use Rattle.dill_ws.specs.declared.head.Head.{Head}
use Rattle.dill_ws.specs.declared.head.HeadFront.{HeadFront}
use Rattle.dill_ws.specs.declared.head.HeadFront.TheVariants as head
use Rattle.dill_ws.specs.Closing.{ClosePayload, close_of}
use Rattle.dill_ws.specs.Frames.{Part, HasKeyOf, key_bytes, peer_of}
use Rattle.dill_ws.specs.Fronts.{HeadSpells, HeadShows, IsJudged, NoneBegins, IsHead, IsRefusedHead, IsHeadFront, head_front, head_at, may_start, bits_of, length_size, told, is_least, key_size}
use Rattle.dill_ws.specs.FrameLaws.{FrameLaws, AreBytes}
use Rattle.dill_calls.specs.declared.answer.Answer.TheVariants.{Bytes}
use Rattle.dill_stack.specs.declared.want.ReadOut.TheVariants.{Given, Fault}
use Rattle.dill_stack.specs.Layers.{Placed, WsLayer}
use Rattle.dill_stack.specs.WsReading.{Whole, Short, Refused, Passed, pass_by_front, with_part, ws_front, judged, by_head, is_fault, passes_limit, has_length, length_at, is_data, part_of, Shown, shown, shown_by, close_met, message_of}
use Rattle.dill_stack.specs.Passing.{pings_of, with_parts}
use Rattle.dill_stack.specs.Read.{read_ws}
use Rattle.dill_stack.specs.Staying.{FrontStays}
use Rattle.dill_stack.specs.Breaking.{LimitShows, IsBadClose, IsBadText, PayloadShows, FrameShows, BreakStands, broken_outcome}
use Rattle.dill_stack.proofs.EndTold.{HasCode, has_code}
use Rattle.dill_stack.proofs.Fronts.{limit_same, no_fault_same}
use Rattle.dill_stack.proofs.JoinedReads.{read_shown}
use Rattle.dill_stack.proofs.Limits.{HeadShown, head_shown}
use Rattle.dill_stack.proofs.PassedParts.{AtFront, front_whole, last_stays, passed_front}

and_true : (a b : Bool) → a ≡ true → b ≡ true → (a && b) ≡ true
and_true true b e f = f
and_true false b e f = cc

and_three : (a b c : Bool) → (a && b && c) ≡ true → (a ≡ true) × (b ≡ true) × (c ≡ true)
and_three true true true e = (refl, refl, refl)
and_three true true false e = cc
and_three true false c e = cc
and_three false b c e = cc

-- ---- a length over the limit

-- how long a key is
key_length : (side : Side) (key : Option (List ℕ)) → HasKeyOf (peer_of side) key → length (key_bytes key) ≡ key_size side
key_length Client None k = refl
key_length Client (Some key) k = absurd k
key_length Server None k = absurd k
key_length Server (Some key) k = k

-- bytes 1 and 2 and the length, with its key behind them, tell what the whole head tells
told_here : (limit : ℕ) (ws : WsLayer) (w key : List ℕ) (h : Head) → HeadShown ws.side (w ++ key) h → length w ≡ 2 + length_size (bits_of (slice_index (w ++ key) 1)) → is_data h.opcode ≡ true → limit < length ws.joined + h.length → passes_limit limit ws w ≡ true
told_here limit ws [] key h s l d o = absurd (omega (arith, l))
told_here limit ws (a ∷ []) key h s l d o = absurd (omega (arith, l))
told_here limit ws (a ∷ b ∷ x) key h s l d o =
    let w : List ℕ = a ∷ b ∷ x in
    let has : has_length w ≡ true = and_true (nat_le 2 (length w)) (nat_le (2 + length_size (bits_of b)) (length w)) (le-leb 2 (length w) (omega arith)) (le-leb (2 + length_size (bits_of b)) (length w) (omega (arith, l))) in
    let two : 2 ≤ length (w ++ key) = omega (arith, length-append w key) in
    let all : 2 + length_size (bits_of b) ≤ length (w ++ key) = omega (arith, length-append w key, l) in
    let has_all : has_length (w ++ key) ≡ true = and_true (nat_le 2 (length (w ++ key))) (nat_le (2 + length_size (bits_of b)) (length (w ++ key))) (le-leb 2 (length (w ++ key)) two) (le-leb (2 + length_size (bits_of b)) (length (w ++ key)) all) in
    let opcode : is_data (slice_index (w ++ key) 0 % 16) ≡ true = ap (λ (g : Head). is_data g.opcode) s.same ∙ d in
    let size : length_at (w ++ key) ≡ h.length = ap (λ (g : Head). g.length) s.same in
    let over : nat_lt limit (length ws.joined + length_at (w ++ key)) ≡ true = lt-ltb limit (length ws.joined + length_at (w ++ key)) (omega (arith, o, size)) in
    let both : passes_limit limit ws (w ++ key) ≡ true = and_true (has_length (w ++ key) && is_data (slice_index (w ++ key) 0 % 16)) (nat_lt limit (length ws.joined + length_at (w ++ key))) (and_true (has_length (w ++ key)) (is_data (slice_index (w ++ key) 0 % 16)) has_all opcode) over in
    sym (limit_same limit ws w key has) ∙ both

-- w ends with its length
limit_size : (laws : FrameLaws) (limit : ℕ) (ws : WsLayer) (e : Errno) (w : List ℕ) (k : LimitShows limit ws e w) → length w ≡ 2 + length_size (bits_of (slice_index (w ++ key_bytes k.head.key) 1))
limit_size laws limit ws e w k =
    let key : List ℕ = key_bytes k.head.key in
    let joining : Bool = is_some ws.joining in
    let read : head_front ws.side joining (w ++ key) ≡ head.Whole k.head = ap (head_front ws.side joining) (sym (append-nil (w ++ key))) ∙ laws.again ws.side joining k.head (w ++ key) [] k.spelled in
    let start : 2 + length_size (bits_of (slice_index (w ++ key) 1)) + key_size ws.side ≡ length (w ++ key) = ap (λ (g : Head). g.start) (head_shown ws.side joining (w ++ key) k.head read).same ∙ k.spelled.start in
    omega (arith, start, length-append w key, key_length ws.side k.head.key k.spelled.keyed)

pub limit_front : (laws : FrameLaws) (limit : ℕ) (ws : WsLayer) (e : Errno) (w : List ℕ) → LimitShows limit ws e w → ws_front limit ws w ≡ Refused Emsgsize
unfolding ws_front
limit_front laws limit ws e w k =
    let key : List ℕ = key_bytes k.head.key in
    let joining : Bool = is_some ws.joining in
    let read : head_front ws.side joining (w ++ key) ≡ head.Whole k.head = ap (head_front ws.side joining) (sym (append-nil (w ++ key))) ∙ laws.again ws.side joining k.head (w ++ key) [] k.spelled in
    let s : HeadShown ws.side (w ++ key) k.head = head_shown ws.side joining (w ++ key) k.head read in
    let start : 2 + length_size (bits_of (slice_index (w ++ key) 1)) + key_size ws.side ≡ length (w ++ key) = ap (λ (g : Head). g.start) s.same ∙ k.spelled.start in
    let size : length w ≡ 2 + length_size (bits_of (slice_index (w ++ key) 1)) = omega (arith, start, length-append w key, key_length ws.side k.head.key k.spelled.keyed) in
    by (head_front ws.side joining w) (passes_limit limit ws w) refl (told_here limit ws w key k.head s size k.carries k.over) read
  where
    by : (f : HeadFront) (over : Bool) → head_front ws.side (is_some ws.joining) w ≡ f → over ≡ true → head_front ws.side (is_some ws.joining) (w ++ key_bytes k.head.key) ≡ head.Whole k.head → (if not (is_fault f) && over then Refused Emsgsize else by_head w f) ≡ Refused Emsgsize
    by (head.Whole h) true r o q = refl
    by (head.Whole h) false r o q = cc
    by head.Need true r o q = refl
    by head.Need false r o q = cc
    by (head.Fault x) over r o q =
        let bad : head.Fault x ≡ head.Whole k.head = sym (laws.stays ws.side (is_some ws.joining) w (key_bytes k.head.key) (head.Fault x) r tt) ∙ q in
        cc

-- the bytes before the key and the key
key_parts : (side : Side) (v : List ℕ) (h : Head) → head_at side v ≡ h → take h.start v ≡ take (2 + length_size (bits_of (slice_index v 1))) v ++ key_bytes h.key
key_parts Client v h e =
    let m : ℕ = 2 + length_size (bits_of (slice_index v 1)) in
    let none : m + 0 ≡ m = omega arith in
    subst (λ (g : Head). take g.start v ≡ take m v ++ key_bytes g.key) e (ap (λ n. take n v) none ∙ sym (append-nil (take m v)))
key_parts Server v h e =
    let m : ℕ = 2 + length_size (bits_of (slice_index v 1)) in
    subst (λ (g : Head). take g.start v ≡ take m v ++ key_bytes g.key) e (take-add m 4 v)

limit_whole : (laws : FrameLaws) (limit : ℕ) (ws : WsLayer) (v : List ℕ) (h : Head) → AreBytes v → head_front ws.side (is_some ws.joining) v ≡ head.Whole h → passes_limit limit ws v ≡ true → LimitShows limit ws Emsgsize (take (2 + length_size (bits_of (slice_index v 1))) v)
limit_whole laws limit ws v h b r o =
    let joining : Bool = is_some ws.joining in
    let k : IsHead ws.side joining v h = subst (IsHeadFront ws.side joining v) r (laws.fronts ws.side joining v b) in
    let s : HeadShown ws.side v h = head_shown ws.side joining v h r in
    let t = and_three (has_length v) (is_data (slice_index v 0 % 16)) (nat_lt limit (length ws.joined + length_at v)) o in
    let size : h.length ≡ length_at v = ap (λ (g : Head). g.length) (sym s.same) in
    record {
      errno = refl;
      head = h;
      spelled = subst (HeadSpells ws.side joining h) (key_parts ws.side v h s.same) k.spelled;
      carries = ap (λ (g : Head). is_data g.opcode) (sym s.same) ∙ t.1;
      over = omega (arith, size, ltb-true limit (length ws.joined + length_at v) t.2);
    }

-- a key, whatever it is
abbrev zeros : List ℕ
zeros = 0 ∷ 0 ∷ 0 ∷ 0 ∷ []

zero_bytes : AreBytes zeros
zero_bytes zero = omega arith
zero_bytes (suc zero) = omega arith
zero_bytes (suc (suc zero)) = omega arith
zero_bytes (suc (suc (suc zero))) = omega arith
zero_bytes (suc (suc (suc (suc k)))) = omega arith

bytes_append : (a b : List ℕ) → AreBytes a → AreBytes b → AreBytes (a ++ b)
bytes_append [] b f g k = g k
bytes_append (x ∷ a) b f g zero = f zero
bytes_append (x ∷ a) b f g (suc k) = bytes_append a b (λ j. f (suc j)) g k

-- with a key there, a head isn't open
key_there : (side : Side) → key_size side ≤ 4
key_there Client = omega arith
key_there Server = omega arith

not_open : (a s b l k : Bool) (x : Head) → a ≡ false → b ≡ false → k ≡ false → (if a then head.Need else if s then (if b then head.Need else if l then (if k then head.Need else head.Whole x) else head.Fault Eproto) else head.Fault Eproto) ≡ head.Need → ⊥
not_open true s b l k x p q r e = cc
not_open false false b l k x p q r e = cc
not_open false true true l k x p q r e = cc
not_open false true false false k x p q r e = cc
not_open false true false true true x p q r e = cc
not_open false true false true false x p q r e = cc

key_closes : (side : Side) (joining : Bool) (a b : ℕ) (x : List ℕ) → length_size (bits_of b) ≤ length x → head_front side joining (a ∷ b ∷ x ++ zeros) ≡ head.Need → ⊥
unfolding head_front
key_closes side joining a b x l e =
    let v : List ℕ = a ∷ b ∷ x ++ zeros in
    let size : length v ≡ 2 + length x + 4 = omega (arith, length-append x zeros) in
    not_open (ltb (length v) 2) (may_start side joining a b) (ltb (length v) (2 + length_size (bits_of b))) (is_least (bits_of b) (told (bits_of b) (x ++ zeros))) (ltb (length v) (2 + length_size (bits_of b) + key_size side)) (head_at side v)
    (le-ltb (length v) 2 (omega (arith, size))) (le-ltb (length v) (2 + length_size (bits_of b)) (omega (arith, size, l))) (le-ltb (length v) (2 + length_size (bits_of b) + key_size side) (omega (arith, size, l, key_there side))) e

-- a length over the limit shows itself where all its bytes are there
limit_shown : (laws : FrameLaws) (limit : ℕ) (ws : WsLayer) (v : List ℕ) → AreBytes v → is_fault (head_front ws.side (is_some ws.joining) v) ≡ false → passes_limit limit ws v ≡ true → IsShown (FrameShows limit ws) v Emsgsize
limit_shown laws limit ws [] b f o = cc
limit_shown laws limit ws (a ∷ []) b f o = cc
limit_shown laws limit ws (x ∷ y ∷ rest) b f o = by (head_front ws.side (is_some ws.joining) v) refl f
  where
    v : List ℕ
    v = x ∷ y ∷ rest

    m : ℕ
    m = 2 + length_size (bits_of y)

    has : has_length v ≡ true
    has = (and_three (has_length v) (is_data (x % 16)) (nat_lt limit (length ws.joined + length_at v)) o).0

    second : (p q : Bool) → (p && q) ≡ true → q ≡ true
    second true q h = h
    second false q h = cc

    there : m ≤ length v
    there = leb-true m (length v) (second (nat_le 2 (length v)) (nat_le m (length v)) has)

    whole : (more : List ℕ) (h : Head) → AreBytes more → head_front ws.side (is_some ws.joining) (v ++ more) ≡ head.Whole h → passes_limit limit ws (v ++ more) ≡ true → IsShown (FrameShows limit ws) v Emsgsize
    whole more h c r q = record {
      count = m;
      there = there;
      shown = inr (inl (subst (LimitShows limit ws Emsgsize) (take-append-le m v more there) (limit_whole laws limit ws (v ++ more) h (bytes_append v more b c) r q)));
    }

    by : (g : HeadFront) → head_front ws.side (is_some ws.joining) v ≡ g → is_fault g ≡ false → IsShown (FrameShows limit ws) v Emsgsize
    by (head.Fault e) r q = cc
    by (head.Whole h) r q = whole zeros h zero_bytes (laws.stays ws.side (is_some ws.joining) v zeros (head.Whole h) r tt) (limit_same limit ws v zeros has ∙ o)
    by head.Need r q = again (head_front ws.side (is_some ws.joining) (v ++ zeros)) refl (no_fault_same ws.side (is_some ws.joining) v zeros has r)
      where
        again : (g : HeadFront) → head_front ws.side (is_some ws.joining) (v ++ zeros) ≡ g → is_fault g ≡ false → IsShown (FrameShows limit ws) v Emsgsize
        again (head.Fault e) t p = cc
        again (head.Whole h) t p = whole zeros h zero_bytes t (limit_same limit ws v zeros has ∙ o)
        again head.Need t p = absurd (key_closes ws.side (is_some ws.joining) x y rest (omega (arith, there)) t)

-- ---- what is shown at the front

abbrev fault_shown : WsLayer → Errno → Shown
fault_shown ws e = record { used = 0; ws = ws; said = Fault e }

-- what stands there is refused, and isn't passed
record IsRefused (limit : ℕ) (ended : Bool) (ws : WsLayer) (v : List ℕ) (e : Errno) : Type 0 where
  shows : shown limit ended ws v ≡ fault_shown ws e
  stops : pass_by_front ws (ws_front limit ws v) ≡ None

refused_so : (limit : ℕ) (ended : Bool) (ws : WsLayer) (v : List ℕ) (e : Errno) → ws_front limit ws v ≡ Refused e → IsRefused limit ended ws v e
unfolding shown
refused_so limit ended ws v e f = record { shows = ap (shown_by ended ws v) f; stops = ap (pass_by_front ws) f }

head_refused : (limit : ℕ) (ws : WsLayer) (v : List ℕ) (e : Errno) → head_front ws.side (is_some ws.joining) v ≡ head.Fault e → ws_front limit ws v ≡ Refused e
unfolding ws_front
head_refused limit ws v e f = ap (judged limit ws v) f

-- a payload that carries no code
no_code : (payload : List ℕ) → ((code : ℕ) → ClosePayload code payload → ⊥) → is_some (close_of payload) ≡ false
no_code payload k = by (is_some (close_of payload)) refl
  where
    by : (b : Bool) → is_some (close_of payload) ≡ b → b ≡ false
    by true e = let c : HasCode payload = has_code payload e in absurd (k c.code c.allowed)
    by false e = refl

no_text : (m : List ℕ) → (IsUtf8 m → ⊥) → is_utf8 m ≡ false
no_text m k = by (is_utf8 m) refl
  where
    by : (b : Bool) → is_utf8 m ≡ b → b ≡ false
    by true e = absurd (k (IsUtf8-from_is_utf8 m e))
    by false e = refl

pick_yes : (b : Bool) (x y : Shown) → b ≡ true → (if b then x else y) ≡ x
pick_yes true x y e = refl
pick_yes false x y e = cc

pick_no : (b : Bool) (x y : Shown) → b ≡ false → (if b then x else y) ≡ y
pick_no true x y e = cc
pick_no false x y e = refl

close_refused : (limit : ℕ) (ended : Bool) (ws : WsLayer) (v : List ℕ) (part : Part) (used : ℕ) → ws_front limit ws v ≡ Whole part used → IsBadClose part → IsRefused limit ended ws v Eproto
unfolding shown
close_refused limit ended ws v part used f k =
    record {
      shows = ap (shown_by ended ws v) f
          ∙ pick_yes (part.opcode == 8) (close_met ws part used) (message_of ws part used) (ap (λ o. o == 8) k.0)
          ∙ pick_no (is_some (close_of part.payload)) (record { used = used; ws = record ws { met = true }; said = Fault Epipe }) (fault_shown ws Eproto) (no_code part.payload k.1);
      stops = ap (pass_by_front ws) f
          ∙ ap (λ o. if o == 9 then Some (record { used = used; ws = ws; pings = part.payload ∷ [] }) else if o == 10 then Some (record { used = used; ws = ws; pings = [] }) else if is_data o && not part.fin then Some (let p : Passed = record { used = used; ws = with_part part ws; pings = [] } in p) else None) k.0;
    }

data_no_close : (o : ℕ) → is_data o ≡ true → (o == 8) ≡ false
data_no_close o d = let l : o ≤ 2 = leb-true o 2 d in by (o == 8) refl l
  where
    by : (b : Bool) → (o == 8) ≡ b → o ≤ 2 → b ≡ false
    by true e l = let q : o ≡ 8 = eqb-true o 8 e in absurd (omega (arith, q, l))
    by false e l = refl

text_refused : (limit : ℕ) (ended : Bool) (ws : WsLayer) (v : List ℕ) (part : Part) (used : ℕ) → ws_front limit ws v ≡ Whole part used → IsBadText limit ws part → IsRefused limit ended ws v Eproto
unfolding shown
text_refused limit ended ws v part used f k =
    record {
      shows = ap (shown_by ended ws v) f
          ∙ pick_no (part.opcode == 8) (close_met ws part used) (message_of ws part used) (data_no_close part.opcode k.carries)
          ∙ pick_yes (unwrap_or ws.joining part.opcode == 1 && not (is_utf8 (ws.joined ++ part.payload))) (fault_shown ws Eproto) (record { used = used; ws = record ws { joining = None; joined = [] }; said = Given (Bytes (ws.joined ++ part.payload)) })
          (and_true (unwrap_or ws.joining part.opcode == 1) (not (is_utf8 (ws.joined ++ part.payload))) (ap (λ o. o == 1) k.text) (ap not (no_text (ws.joined ++ part.payload) k.broken)));
      stops = ap (pass_by_front ws) f ∙ last_stays ws part used k.carries k.last;
    }

close_no_data : (limit : ℕ) (ws : WsLayer) (part : Part) → part.opcode ≡ 8 → is_data part.opcode ≡ true → length ws.joined + length part.payload ≤ limit
close_no_data limit ws part q d = let l : part.opcode ≤ 2 = leb-true part.opcode 2 d in absurd (omega (arith, q, l))

payload_within : (limit : ℕ) (ws : WsLayer) (part : Part) → IsBadClose part ⊎ IsBadText limit ws part → is_data part.opcode ≡ true → length ws.joined + length part.payload ≤ limit
payload_within limit ws part (inl c) d = close_no_data limit ws part c.0 d
payload_within limit ws part (inr t) d = t.within

payload_front : (laws : FrameLaws) (limit : ℕ) (ws : WsLayer) (w rest : List ℕ) (e : Errno) (k : PayloadShows limit ws e w) → ws_front limit ws (w ++ rest) ≡ Whole k.part (length w)
payload_front laws limit ws w rest e k = front_whole laws limit ws k.part w rest k.frame k.follows (payload_within limit ws k.part k.bad)

payload_refused : (laws : FrameLaws) (limit : ℕ) (ended : Bool) (ws : WsLayer) (w rest : List ℕ) (e : Errno) → PayloadShows limit ws e w → IsRefused limit ended ws (w ++ rest) e
payload_refused laws limit ended ws w rest e k = subst (IsRefused limit ended ws (w ++ rest)) (sym k.errno) (by k.bad)
  where
    by : IsBadClose k.part ⊎ IsBadText limit ws k.part → IsRefused limit ended ws (w ++ rest) Eproto
    by (inl c) = close_refused limit ended ws (w ++ rest) k.part (length w) (payload_front laws limit ws w rest e k) c
    by (inr t) = text_refused limit ended ws (w ++ rest) k.part (length w) (payload_front laws limit ws w rest e k) t

frame_refused : (laws : FrameLaws) (stays : FrontStays) (limit : ℕ) (ended : Bool) (ws : WsLayer) (w rest : List ℕ) (e : Errno) → AreBytes w → FrameShows limit ws e w → IsRefused limit ended ws (w ++ rest) e
frame_refused laws stays limit ended ws w rest e b (inl k) = refused_so limit ended ws (w ++ rest) e (head_refused limit ws (w ++ rest) e (laws.refused ws.side (is_some ws.joining) e w rest b k))
frame_refused laws stays limit ended ws w rest e b (inr (inl k)) = subst (IsRefused limit ended ws (w ++ rest)) (sym k.errno) (refused_so limit ended ws (w ++ rest) Emsgsize (stays limit ws w rest (Refused Emsgsize) (limit_front laws limit ws e w k) tt))
frame_refused laws stays limit ended ws w rest e b (inr (inr k)) = payload_refused laws limit ended ws w rest e k

bytes_front : (n : ℕ) (v : List ℕ) → AreBytes v → AreBytes (take n v)
bytes_front zero v b k = omega arith
bytes_front (suc n) [] b k = b k
bytes_front (suc n) (x ∷ v) b zero = b zero
bytes_front (suc n) (x ∷ v) b (suc k) = bytes_front n v (λ j. b (suc j)) k

bytes_back : (n : ℕ) (v : List ℕ) → AreBytes v → AreBytes (drop n v)
bytes_back zero v b = b
bytes_back (suc n) [] b = b
bytes_back (suc n) (x ∷ v) b = bytes_back n v (λ j. b (suc j))

pub break_read : (laws : FrameLaws) (stays : FrontStays) (limit : ℕ) (below : List Placed) (ws : WsLayer) (u : List ℕ) (n : ℕ) (e : Errno) (ended : Bool) → AreBytes u → ws.met ≡ false → (s : BreakStands limit ws u n e) → read_ws below ws u ended limit ≡ broken_outcome below (with_parts s.before ws) n s.before e
break_read laws stays limit below ws u n e ended b met s =
    let behind : WsLayer = with_parts s.before ws in
    let v : List ℕ = drop n u in
    let w : List ℕ = take s.shown.count v in
    let here : w ++ drop s.shown.count v ≡ v = take-append-drop s.shown.count v in
    let r : IsRefused limit ended behind v e = subst (λ x. IsRefused limit ended behind x e) here (frame_refused laws stays limit ended behind w (drop s.shown.count v) e (bytes_front s.shown.count v (bytes_back n u b)) s.shown.shown) in
    let at : AtFront limit ws s.before (take n u) v = record { frames = s.frames; follows = s.follows; passing = s.passing; within = s.within; stops = r.stops } in
    let size : length (take n u) ≡ n = length-take-le n u s.there in
    let used : length (take n u) + 0 ≡ n = omega (arith, size) in
    read_shown limit below ws u v ended (record { used = length (take n u); ws = behind; pings = pings_of s.before }) (fault_shown behind e) met (passed_front laws limit ws s.before u (take n u) v at (sym (take-append-drop n u))) (ap (λ k. drop k u) size) r.shows
    ∙ ap (λ x. broken_outcome below behind x s.before e) used

-- ---- what a refusal at the front shows

pub front_shown : (laws : FrameLaws) (limit : ℕ) (ws : WsLayer) (v : List ℕ) (e : Errno) → AreBytes v → ws_front limit ws v ≡ Refused e → IsShown (FrameShows limit ws) v e
unfolding ws_front
front_shown laws limit ws v e b h = by (head_front ws.side (is_some ws.joining) v) (passes_limit limit ws v) refl refl h
  where
    short_not : (h : Head) (short : Bool) → (if short then Short else Whole (part_of h v) (h.start + h.length)) ≡ Refused e → ⊥
    short_not h true q = cc
    short_not h false q = cc

    limits : is_fault (head_front ws.side (is_some ws.joining) v) ≡ false → passes_limit limit ws v ≡ true → Emsgsize ≡ e → IsShown (FrameShows limit ws) v e
    limits f o q = subst (IsShown (FrameShows limit ws) v) q (limit_shown laws limit ws v b f o)

    by : (f : HeadFront) (over : Bool) → head_front ws.side (is_some ws.joining) v ≡ f → passes_limit limit ws v ≡ over → (if not (is_fault f) && over then Refused Emsgsize else by_head v f) ≡ Refused e → IsShown (FrameShows limit ws) v e
    by (head.Fault x) over r o q =
        let same : x ≡ e = cc in
        let k : IsRefusedHead ws.side (is_some ws.joining) v e = subst (IsRefusedHead ws.side (is_some ws.joining) v) same (subst (IsHeadFront ws.side (is_some ws.joining) v) r (laws.fronts ws.side (is_some ws.joining) v b)) in
        record { count = k.count; there = k.there; shown = inl k.shown }
    by (head.Whole h) true r o q = let same : Emsgsize ≡ e = cc in limits (ap is_fault r) o same
    by (head.Whole h) false r o q = absurd (short_not h (nat_lt (length v) (h.start + h.length)) q)
    by head.Need true r o q = let same : Emsgsize ≡ e = cc in limits (ap is_fault r) o same
    by head.Need false r o q = cc

-- ---- the least front

whole_not : {A : Type 0} (part : Part) (n : ℕ) (e : Errno) → Whole part n ≡ Refused e → A
whole_not part n e q = cc

nothing_behind : (w rest : List ℕ) → length (w ++ rest) ≤ length w → rest ≡ []
nothing_behind w [] l = refl
nothing_behind w (x ∷ rest) l = absurd (omega (arith, l, length-append w (x ∷ rest)))

bytes_left : (w rest : List ℕ) → AreBytes (w ++ rest) → AreBytes w
bytes_left w rest b = subst AreBytes (take-append_seam w rest) (bytes_front (length w) (w ++ rest) b)

second_same : (w rest : List ℕ) → 2 ≤ length w → slice_index (w ++ rest) 1 ≡ slice_index w 1
second_same [] rest l = absurd (omega (arith, l))
second_same (a ∷ []) rest l = absurd (omega (arith, l))
second_same (a ∷ b ∷ x) rest l = refl

-- how long such a front is, by its second byte
limit_length : (laws : FrameLaws) (limit : ℕ) (ws : WsLayer) (e : Errno) (w : List ℕ) → LimitShows limit ws e w → length w ≡ 2 + length_size (bits_of (slice_index w 1))
limit_length laws limit ws e w k =
    let size = limit_size laws limit ws e w k in
    size ∙ ap (λ b. 2 + length_size (bits_of b)) (second_same w (key_bytes k.head.key) (omega (arith, size)))

heads_least : (ws : WsLayer) (e f : Errno) (w rest : List ℕ) → HeadShows ws.side (is_some ws.joining) e w → HeadShows ws.side (is_some ws.joining) f (w ++ rest) → rest ≡ []
heads_least ws e f w [] k j = refl
heads_least ws e f w (x ∷ rest) k j =
    let front : take (length w) (w ++ x ∷ rest) ≡ w = take-append_seam w (x ∷ rest) in
    absurd (j.least (length w) (omega (arith, length-append w (x ∷ rest))) (subst IsJudged (sym front) k.judged) (subst (NoneBegins ws.side (is_some ws.joining)) (sym front) k.none))

limit_head : (laws : FrameLaws) (limit : ℕ) (ws : WsLayer) (e f : Errno) (w rest : List ℕ) → LimitShows limit ws e w → HeadShows ws.side (is_some ws.joining) f (w ++ rest) → rest ≡ []
limit_head laws limit ws e f w rest k j = nothing_behind w rest (by j.judged)
  where
    size : length w ≡ 2 + length_size (bits_of (slice_index w 1))
    size = limit_length laws limit ws e w k

    same : slice_index (w ++ rest) 1 ≡ slice_index w 1
    same = second_same w rest (omega (arith, size))

    by : (length (w ++ rest) ≡ 2) ⊎ (length (w ++ rest) ≡ 2 + length_size (bits_of (slice_index (w ++ rest) 1))) → length (w ++ rest) ≤ length w
    by (inl q) = omega (arith, q, size)
    by (inr q) = let long : length (w ++ rest) ≡ 2 + length_size (bits_of (slice_index w 1)) = q ∙ ap (λ b. 2 + length_size (bits_of b)) same in omega (arith, long, size)

limits_least : (laws : FrameLaws) (limit : ℕ) (ws : WsLayer) (e f : Errno) (w rest : List ℕ) → LimitShows limit ws e w → LimitShows limit ws f (w ++ rest) → rest ≡ []
limits_least laws limit ws e f w rest k j =
    let size : length w ≡ 2 + length_size (bits_of (slice_index w 1)) = limit_length laws limit ws e w k in
    let long : length (w ++ rest) ≡ 2 + length_size (bits_of (slice_index w 1)) = limit_length laws limit ws f (w ++ rest) j ∙ ap (λ b. 2 + length_size (bits_of b)) (second_same w rest (omega (arith, size))) in
    nothing_behind w rest (omega (arith, size, long))

head_limit : (laws : FrameLaws) (limit : ℕ) (ws : WsLayer) (e f : Errno) (w rest : List ℕ) → AreBytes w → HeadShows ws.side (is_some ws.joining) e w → LimitShows limit ws f (w ++ rest) → rest ≡ []
head_limit laws limit ws e f w rest b k j =
    let key : List ℕ = key_bytes j.head.key in
    let joining : Bool = is_some ws.joining in
    let whole : head_front ws.side joining ((w ++ rest) ++ key) ≡ head.Whole j.head = ap (head_front ws.side joining) (sym (append-nil ((w ++ rest) ++ key))) ∙ laws.again ws.side joining j.head ((w ++ rest) ++ key) [] j.spelled in
    let bad : head_front ws.side joining ((w ++ rest) ++ key) ≡ head.Fault e = ap (head_front ws.side joining) (append_assoc w rest key) ∙ laws.refused ws.side joining e w (rest ++ key) b k in
    never (sym bad ∙ whole)
  where
    never : head.Fault e ≡ head.Whole j.head → rest ≡ []
    never q = cc

-- what shows a refusal by its head or its length
early_front : (laws : FrameLaws) (stays : FrontStays) (limit : ℕ) (ws : WsLayer) (e : Errno) (w rest : List ℕ) → AreBytes w → HeadShows ws.side (is_some ws.joining) e w ⊎ LimitShows limit ws e w → (f : Errno) × (ws_front limit ws (w ++ rest) ≡ Refused f)
early_front laws stays limit ws e w rest b (inl k) = (e, head_refused limit ws (w ++ rest) e (laws.refused ws.side (is_some ws.joining) e w rest b k))
early_front laws stays limit ws e w rest b (inr k) = (Emsgsize, stays limit ws w rest (Refused Emsgsize) (limit_front laws limit ws e w k) tt)

early_payload : (laws : FrameLaws) (stays : FrontStays) (limit : ℕ) (ws : WsLayer) (e f : Errno) (w rest : List ℕ) → AreBytes w → HeadShows ws.side (is_some ws.joining) e w ⊎ LimitShows limit ws e w → PayloadShows limit ws f (w ++ rest) → rest ≡ []
early_payload laws stays limit ws e f w rest b k j =
    let refused = early_front laws stays limit ws e w rest b k in
    whole_not j.part (length (w ++ rest)) refused.0 (sym (payload_front laws limit ws (w ++ rest) [] f j) ∙ ap (ws_front limit ws) (append-nil (w ++ rest)) ∙ refused.1)

payload_early : (laws : FrameLaws) (stays : FrontStays) (limit : ℕ) (ws : WsLayer) (e f : Errno) (w rest : List ℕ) → AreBytes (w ++ rest) → PayloadShows limit ws e w → HeadShows ws.side (is_some ws.joining) f (w ++ rest) ⊎ LimitShows limit ws f (w ++ rest) → rest ≡ []
payload_early laws stays limit ws e f w rest b k j =
    let refused = early_front laws stays limit ws f (w ++ rest) [] b j in
    whole_not k.part (length w) refused.0 (sym (payload_front laws limit ws w rest e k) ∙ ap (ws_front limit ws) (sym (append-nil (w ++ rest))) ∙ refused.1)

payloads_least : (laws : FrameLaws) (limit : ℕ) (ws : WsLayer) (e f : Errno) (w rest : List ℕ) → PayloadShows limit ws e w → PayloadShows limit ws f (w ++ rest) → rest ≡ []
payloads_least laws limit ws e f w rest k j =
    let both : Whole k.part (length w) ≡ Whole j.part (length (w ++ rest)) = sym (payload_front laws limit ws w rest e k) ∙ ap (ws_front limit ws) (sym (append-nil (w ++ rest))) ∙ payload_front laws limit ws (w ++ rest) [] f j in
    let same : length w ≡ length (w ++ rest) = cc in
    nothing_behind w rest (omega (arith, same))

pub break_least : (laws : FrameLaws) (stays : FrontStays) (limit : ℕ) (ws : WsLayer) (e f : Errno) (w rest : List ℕ) → AreBytes (w ++ rest) → FrameShows limit ws e w → FrameShows limit ws f (w ++ rest) → rest ≡ []
break_least laws stays limit ws e f w rest b (inl k) (inl j) = heads_least ws e f w rest k j
break_least laws stays limit ws e f w rest b (inl k) (inr (inl j)) = head_limit laws limit ws e f w rest (bytes_left w rest b) k j
break_least laws stays limit ws e f w rest b (inl k) (inr (inr j)) = early_payload laws stays limit ws e f w rest (bytes_left w rest b) (inl k) j
break_least laws stays limit ws e f w rest b (inr (inl k)) (inl j) = limit_head laws limit ws e f w rest k j
break_least laws stays limit ws e f w rest b (inr (inl k)) (inr (inl j)) = limits_least laws limit ws e f w rest k j
break_least laws stays limit ws e f w rest b (inr (inl k)) (inr (inr j)) = early_payload laws stays limit ws e f w rest (bytes_left w rest b) (inr k) j
break_least laws stays limit ws e f w rest b (inr (inr k)) (inl j) = payload_early laws stays limit ws e f w rest b k (inl j)
break_least laws stays limit ws e f w rest b (inr (inr k)) (inr (inl j)) = payload_early laws stays limit ws e f w rest b k (inr j)
break_least laws stays limit ws e f w rest b (inr (inr k)) (inr (inr j)) = payloads_least laws limit ws e f w rest k j
