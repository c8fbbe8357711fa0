-- Where a WebSocket layer awaits more of a frame, few bytes are unread.
use Rattle.std.proofs.Common.{◌≡◌, ◌+◌, ◌<◌, ◌≤◌, ◌%◌, List, ℕ, length, drop, slice_index, ltb, leb, eqb, arith, sym, ap, refl, subst, Bool, true, false, not, ◌&&◌, if◌then◌else◌, nat_lt}
use Rattle.std.specs.Int.{w16, w64, from_be_bytes}
use Rattle.std.specs.Prelude.{is_some, nat_le, max}
use Rattle.std.proofs.Math.Nat.{le-max_left, le-max_right}
use Rattle.std.proofs.lemmas.Bool.{ltb-false, le-leb}
use Rattle.std.proofs.lemmas.Bool.Decides.{nat_tests}
use Rattle.dill_base.specs.declared.errno.Errno.TheVariants.{Eproto, Emsgsize}
use Rattle.dill_ws.specs.declared.side.Side.{Side}
use Rattle.dill_ws.specs.declared.side.Side.TheVariants.{Client, Server}
use Rattle.dill_ws.specs.declared.head.Head.{Head}
use Rattle.dill_ws.specs.declared.head.HeadFront.{HeadFront}
use Rattle.dill_ws.specs.declared.head.HeadFront.TheVariants as head
use Rattle.dill_ws.specs.Frames.{may_follow}
use Rattle.dill_ws.specs.Fronts.{head_front, head_at, may_start, bits_of, length_size, told, is_least, key_size}
use Rattle.dill_stack.specs.Layers.{WsLayer}
use Rattle.dill_stack.specs.WsReading.{Whole, Short, Refused, ws_front, by_head, is_fault, passes_limit, length_at, is_data, part_of}
use Rattle.dill_stack.proofs.Limits.{HeadShown, head_shown, third_false}
use Rattle.dill_stack.proofs.Passings.{started}

pub small_size : (bits : ℕ) → length_size bits ≤ 8
small_size bits = at (ltb bits 126) (eqb bits 126)
  where
    at : (a b : Bool) → (if a then 0 else if b then 2 else 8) ≤ 8
    at true b = omega arith
    at false true = omega arith
    at false false = omega arith

pub small_key : (side : Side) → key_size side ≤ 4
small_key Client = omega arith
small_key Server = omega arith

below_it : (b : Bool) (l s : ℕ) → ltb l s ≡ b → b ≡ true → l < s
below_it true l s e f = grind (arith, nat_tests)
below_it false l s e f = cc

-- too little for a head
head_short : (side : Side) (joining : Bool) (u : List ℕ) → head_front side joining u ≡ head.Need → length u < 14
unfolding head_front
head_short side joining u e = at (ltb (length u) 2) (may_start side joining (slice_index u 0) (slice_index u 1)) (ltb (length u) (2 + length_size bits)) (is_least bits (told bits (drop 2 u))) (ltb (length u) (2 + length_size bits + key_size side)) refl refl refl e
  where
    bits : ℕ
    bits = bits_of (slice_index u 1)

    at : (a s b l k : Bool) → ltb (length u) 2 ≡ a → ltb (length u) (2 + length_size bits) ≡ b → ltb (length u) (2 + length_size bits + key_size side) ≡ k
        → (if a then head.Need else if s then (if b then head.Need else if l then (if k then head.Need else head.Whole (head_at side u)) else head.Fault Eproto) else head.Fault Eproto) ≡ head.Need → length u < 14
    at true s b l k f g h i = let x = below_it true (length u) 2 f refl in omega (arith, x)
    at false true true l k f g h i = let x = below_it true (length u) (2 + length_size bits) g refl in let y = small_size bits in omega (arith, x, y)
    at false true false true true f g h i = let x = below_it true (length u) (2 + length_size bits + key_size side) h refl in let y = small_size bits in let z = small_key side in omega (arith, x, y, z)
    at false true false true false f g h i = cc
    at false true false false k f g h i = cc
    at false false b l k f g h i = cc

-- the payload of a control frame
pub control_small : (joining fin : Bool) (opcode bits : ℕ) (v : List ℕ) → may_follow joining fin opcode bits ≡ true → is_data opcode ≡ false → told bits v ≤ 125
control_small joining fin opcode bits v e d = at (leb 8 opcode) (eqb opcode 0) (leb opcode 10) fin (leb bits 125) refl refl e
  where
    few : leb bits 125 ≡ true → told bits v ≤ 125
    few f =
        let small : ltb bits 126 ≡ true = grind (arith, nat_tests) in
        let l : bits ≤ 125 = grind (arith, nat_tests) in
        by (ltb bits 126) small l
      where
        by : (b : Bool) → b ≡ true → bits ≤ 125 → (if b then bits else (if eqb bits 126 then from_be_bytes w16 v else from_be_bytes w64 v)) ≤ 125
        by true g l = l
        by false g l = cc

    at : (a b c f k : Bool) → leb bits 125 ≡ k → eqb opcode 0 ≡ b → (if a then c && f && k else if b then joining else leb opcode 2 && not joining) ≡ true → told bits v ≤ 125
    at true b true true true g h i = few g
    at true b true true false g h i = cc
    at true b true false k g h i = cc
    at true b false f k g h i = cc
    at false true c f k g h i = let bad : is_data opcode ≡ true = grind (arith, nat_tests) in cc
    at false false c f k g h i = by (leb opcode 2) d i
      where
        by : (t : Bool) → t ≡ false → (t && not joining) ≡ true → told bits v ≤ 125
        by true p q = cc
        by false p q = cc

-- too little for a frame within the limit
pub ws_short : (limit : ℕ) (ws : WsLayer) (u : List ℕ) → ws_front limit ws u ≡ Short → length u < max limit 125 + 14
unfolding ws_front
ws_short limit ws u e = by (head_front ws.side (is_some ws.joining) u) refl (passes_limit limit ws u) refl e
  where
    most : limit ≤ max limit 125
    most = le-max_left limit 125

    least : 125 ≤ max limit 125
    least = le-max_right limit 125

    small : (h : Head) → head_front ws.side (is_some ws.joining) u ≡ head.Whole h → passes_limit limit ws u ≡ false → h.length ≤ max limit 125
    small h r over = at (is_data h.opcode) refl
      where
        s : HeadShown ws.side u h
        s = head_shown ws.side (is_some ws.joining) u h r

        size : h.length ≡ length_at u
        size = ap (λ (x : Head). x.length) (sym s.same)

        opcode : h.opcode ≡ slice_index u 0 % 16
        opcode = ap (λ (x : Head). x.opcode) (sym s.same)

        at : (b : Bool) → is_data h.opcode ≡ b → h.length ≤ max limit 125
        at true d =
            let fine : nat_lt limit (length ws.joined + length_at u) ≡ false =
            third_false (nat_le 2 (length u)) (nat_le (2 + length_size (bits_of (slice_index u 1))) (length u)) (is_data (slice_index u 0 % 16)) (nat_lt limit (length ws.joined + length_at u))
            (le-leb 2 (length u) (ltb-false (length u) 2 s.two))
            (le-leb (2 + length_size (bits_of (slice_index u 1))) (length u) (ltb-false (length u) (2 + length_size (bits_of (slice_index u 1))) s.all))
            (subst (λ o. is_data o ≡ true) opcode d) over in
            let l = ltb-false limit (length ws.joined + length_at u) fine in
            omega (arith, l, size, most)
        at false d =
            let l : told (bits_of (slice_index u 1)) (drop 2 u) ≤ 125 = control_small (is_some ws.joining) h.fin h.opcode (bits_of (slice_index u 1)) (drop 2 u) (started ws.side (is_some ws.joining) u h r) d in
            omega (arith, l, size, least)

    start : (h : Head) → head_front ws.side (is_some ws.joining) u ≡ head.Whole h → h.start ≤ 14
    start h r =
        let s = head_shown ws.side (is_some ws.joining) u h r in
        let at : h.start ≡ 2 + length_size (bits_of (slice_index u 1)) + key_size ws.side = ap (λ (x : Head). x.start) (sym s.same) in
        let y = small_size (bits_of (slice_index u 1)) in
        let z = small_key ws.side in
        omega (arith, at, y, z)

    whole : (h : Head) → head_front ws.side (is_some ws.joining) u ≡ head.Whole h → passes_limit limit ws u ≡ false → (b : Bool) → nat_lt (length u) (h.start + h.length) ≡ b → (if b then Short else Whole (part_of h u) (h.start + h.length)) ≡ Short → length u < max limit 125 + 14
    whole h r over true l f = let x = below_it true (length u) (h.start + h.length) l refl in let y = start h r in let z = small h r over in omega (arith, x, y, z)
    whole h r over false l f = cc

    by : (f : HeadFront) → head_front ws.side (is_some ws.joining) u ≡ f → (over : Bool) → passes_limit limit ws u ≡ over → (if not (is_fault f) && over then Refused Emsgsize else by_head u f) ≡ Short → length u < max limit 125 + 14
    by (head.Whole h) r true o g = cc
    by (head.Whole h) r false o g = whole h r o (nat_lt (length u) (h.start + h.length)) refl g
    by head.Need r true o g = cc
    by head.Need r false o g = let x = head_short ws.side (is_some ws.joining) u r in omega (arith, x)
    by (head.Fault x) r over o g = cc
