-- What stands at the front for a WebSocket layer stays when more bytes come.
use Rattle.std.proofs.Common.{slice_index, ltb, eqb, ◌%◌, ◌≡◌, ◌≤◌, ◌+◌, [], ◌∷◌, ◌++◌, List, ℕ, length, take, drop, arith, sym, ap, ◌∙◌, refl, subst, Bool, true, false, not, ◌&&◌, length-append, ltb-false, le-ltb}
use Rattle.std.specs.Prelude.{if◌then◌else◌, is_some, nat_lt, nat_le}
use Rattle.std.specs.Int.{w16, w64, from_be_bytes}
use Rattle.std.proofs.lemmas.Bool.{le-leb, leb-true}
use Rattle.std.proofs.lemmas.List.{drop-append-le, take-append-le, length-drop}
use Rattle.dill_base.specs.declared.errno.Errno.TheVariants.{Eproto, Emsgsize}
use Rattle.dill_ws.specs.declared.side.Side.{Side}
use Rattle.dill_ws.specs.declared.head.Head.{Head}
use Rattle.dill_ws.specs.declared.head.HeadFront.{HeadFront}
use Rattle.dill_ws.specs.declared.head.HeadFront.TheVariants as head
use Rattle.dill_ws.specs.Frames.{Part, masked}
use Rattle.dill_ws.specs.FrameLaws.{FrameLaws}
use Rattle.dill_stack.specs.Staying.{IsJudged, FrontStays}
use Rattle.dill_stack.proofs.Limits.{HeadShown, head_shown}
use Rattle.dill_ws.specs.Fronts.{head_front, head_at, may_start, bits_of, length_size, told, is_least, key_size}
use Rattle.dill_stack.specs.Layers.{WsLayer}
use Rattle.dill_stack.specs.WsReading.{ws_front, WsFront, Whole, Short, Refused, by_head, is_fault, passes_limit, has_length, length_at, is_data, part_of}

two_more : (x v : List ℕ) → 2 ≤ length x → from_be_bytes w16 (x ++ v) ≡ from_be_bytes w16 x
two_more [] v l = absurd (omega arith)
two_more (a ∷ []) v l = absurd (omega arith)
two_more (a ∷ b ∷ x) v l = refl

eight_more : (x v : List ℕ) → 8 ≤ length x → from_be_bytes w64 (x ++ v) ≡ from_be_bytes w64 x
eight_more [] v l = absurd (omega arith)
eight_more (a ∷ []) v l = absurd (omega arith)
eight_more (a ∷ b ∷ []) v l = absurd (omega arith)
eight_more (a ∷ b ∷ c ∷ []) v l = absurd (omega arith)
eight_more (a ∷ b ∷ c ∷ d ∷ []) v l = absurd (omega arith)
eight_more (a ∷ b ∷ c ∷ d ∷ e ∷ []) v l = absurd (omega arith)
eight_more (a ∷ b ∷ c ∷ d ∷ e ∷ f ∷ []) v l = absurd (omega arith)
eight_more (a ∷ b ∷ c ∷ d ∷ e ∷ f ∷ g ∷ []) v l = absurd (omega arith)
eight_more (a ∷ b ∷ c ∷ d ∷ e ∷ f ∷ g ∷ h ∷ x) v l = refl

-- the length that was told stays told
told_more : (bits : ℕ) (x v : List ℕ) → length_size bits ≤ length x → told bits (x ++ v) ≡ told bits x
told_more bits x v l = by_tests (ltb bits 126) (eqb bits 126) l
  where
    by_tests : (p q : Bool) → (if p then 0 else if q then 2 else 8) ≤ length x
        → (if p then bits else if q then from_be_bytes w16 (x ++ v) else from_be_bytes w64 (x ++ v)) ≡ (if p then bits else if q then from_be_bytes w16 x else from_be_bytes w64 x)
    by_tests true q h = refl
    by_tests false true h = two_more x v h
    by_tests false false h = eight_more x v h

-- a head of which the key alone is missing was judged
judged_fine : (a s b l k : Bool) (x h : Head) → a ≡ false → b ≡ false → (if a then head.Need else if s then (if b then head.Need else if l then (if k then head.Need else head.Whole x) else head.Fault Eproto) else head.Fault Eproto) ≡ head.Need → (s ≡ true) × (l ≡ true)
judged_fine true s b l k x h p q e = cc
judged_fine false true true l k x h p q e = cc
judged_fine false true false true k x h p q e = (refl, refl)
judged_fine false true false false k x h p q e = cc
judged_fine false false b l k x h p q e = cc

-- and is judged so again
fine_again : (a s b l k : Bool) (x : Head) → a ≡ false → s ≡ true → b ≡ false → l ≡ true → is_fault (if a then head.Need else if s then (if b then head.Need else if l then (if k then head.Need else head.Whole x) else head.Fault Eproto) else head.Fault Eproto) ≡ false
fine_again true s b l k x p q r t = cc
fine_again false false b l k x p q r t = cc
fine_again false true true l k x p q r t = cc
fine_again false true false false k x p q r t = cc
fine_again false true false true true x p q r t = refl
fine_again false true false true false x p q r t = refl

-- both bytes and all bytes of the length are there
has_both : (a b : ℕ) (x : List ℕ) → has_length (a ∷ b ∷ x) ≡ true → length_size (bits_of b) ≤ length x
has_both a b x e = omega (arith, leb-true (2 + length_size (bits_of b)) (length (a ∷ b ∷ x)) (second (nat_le 2 (length (a ∷ b ∷ x))) (nat_le (2 + length_size (bits_of b)) (length (a ∷ b ∷ x))) e))
  where
    second : (p q : Bool) → (p && q) ≡ true → q ≡ true
    second true q h = h
    second false q h = cc

-- with its length told, the judgement of a head stays
no_fault_more : (side : Side) (joining : Bool) (a b : ℕ) (x v : List ℕ) → has_length (a ∷ b ∷ x) ≡ true → head_front side joining (a ∷ b ∷ x) ≡ head.Need → is_fault (head_front side joining (a ∷ b ∷ x ++ v)) ≡ false
unfolding head_front
no_fault_more side joining a b x v h e =
    let size : length_size (bits_of b) ≤ length x = has_both a b x h in
    let two : ltb (length (a ∷ b ∷ x)) 2 ≡ false = le-ltb (length (a ∷ b ∷ x)) 2 (omega arith) in
    let two_more : ltb (length (a ∷ b ∷ x ++ v)) 2 ≡ false = le-ltb (length (a ∷ b ∷ x ++ v)) 2 (omega arith) in
    let all : ltb (length (a ∷ b ∷ x)) (2 + length_size (bits_of b)) ≡ false = le-ltb (length (a ∷ b ∷ x)) (2 + length_size (bits_of b)) (omega (arith, size)) in
    let all_more : ltb (length (a ∷ b ∷ x ++ v)) (2 + length_size (bits_of b)) ≡ false = le-ltb (length (a ∷ b ∷ x ++ v)) (2 + length_size (bits_of b)) (omega (arith, size, length-append x v)) in
    let same : told (bits_of b) (x ++ v) ≡ told (bits_of b) x = told_more (bits_of b) x v size in
    let fine : (may_start side joining a b ≡ true) × (is_least (bits_of b) (told (bits_of b) x) ≡ true) =
    judged_fine (ltb (length (a ∷ b ∷ x)) 2) (may_start side joining a b) (ltb (length (a ∷ b ∷ x)) (2 + length_size (bits_of b))) (is_least (bits_of b) (told (bits_of b) x)) (ltb (length (a ∷ b ∷ x)) (2 + length_size (bits_of b) + key_size side)) (head_at side (a ∷ b ∷ x)) (head_at side (a ∷ b ∷ x)) two all e in
    fine_again (ltb (length (a ∷ b ∷ x ++ v)) 2) (may_start side joining a b) (ltb (length (a ∷ b ∷ x ++ v)) (2 + length_size (bits_of b))) (is_least (bits_of b) (told (bits_of b) (x ++ v))) (ltb (length (a ∷ b ∷ x ++ v)) (2 + length_size (bits_of b) + key_size side)) (head_at side (a ∷ b ∷ x ++ v))
    two_more fine.0 all_more (ap (λ n. is_least (bits_of b) n) same ∙ fine.1)

-- the length that was told keeps within the limit or not
limit_more : (limit : ℕ) (ws : WsLayer) (a b : ℕ) (x v : List ℕ) → has_length (a ∷ b ∷ x) ≡ true → passes_limit limit ws (a ∷ b ∷ x ++ v) ≡ passes_limit limit ws (a ∷ b ∷ x)
limit_more limit ws a b x v h =
    let size : length_size (bits_of b) ≤ length x = has_both a b x h in
    let all_more : has_length (a ∷ b ∷ x ++ v) ≡ true = both (nat_le 2 (length (a ∷ b ∷ x ++ v))) (nat_le (2 + length_size (bits_of b)) (length (a ∷ b ∷ x ++ v))) (le-leb 2 (length (a ∷ b ∷ x ++ v)) (omega arith)) (le-leb (2 + length_size (bits_of b)) (length (a ∷ b ∷ x ++ v)) (omega (arith, size, length-append x v))) in
    let same : told (bits_of b) (x ++ v) ≡ told (bits_of b) x = told_more (bits_of b) x v size in
    ap (λ c. c && is_data (a % 16) && nat_lt limit (length ws.joined + told (bits_of b) (x ++ v))) (all_more ∙ sym h)
    ∙ ap (λ n. has_length (a ∷ b ∷ x) && is_data (a % 16) && nat_lt limit (length ws.joined + n)) same
  where
    both : (p q : Bool) → p ≡ true → q ≡ true → (p && q) ≡ true
    both true q s t = t
    both false q s t = cc

-- what passes the limit has its length told
passes_told : (limit : ℕ) (ws : WsLayer) (u : List ℕ) → passes_limit limit ws u ≡ true → has_length u ≡ true
passes_told limit ws u e = front_true (has_length u) (is_data (slice_index u 0 % 16)) (nat_lt limit (length ws.joined + length_at u)) e
  where
    front_true : (p q r : Bool) → (p && q && r) ≡ true → p ≡ true
    front_true true q r s = refl
    front_true false q r s = cc

pub limit_same : (limit : ℕ) (ws : WsLayer) (u v : List ℕ) → has_length u ≡ true → passes_limit limit ws (u ++ v) ≡ passes_limit limit ws u
limit_same limit ws [] v h = cc
limit_same limit ws (a ∷ []) v h = cc
limit_same limit ws (a ∷ b ∷ x) v h = limit_more limit ws a b x v h

pub no_fault_same : (side : Side) (joining : Bool) (u v : List ℕ) → has_length u ≡ true → head_front side joining u ≡ head.Need → is_fault (head_front side joining (u ++ v)) ≡ false
no_fault_same side joining [] v h e = cc
no_fault_same side joining (a ∷ []) v h e = cc
no_fault_same side joining (a ∷ b ∷ x) v h e = no_fault_more side joining a b x v h e

-- a payload that is whole stays the same
part_same : (h : Head) (u v : List ℕ) → h.start + h.length ≤ length u → part_of h (u ++ v) ≡ part_of h u
part_same h u v l =
    let behind : drop h.start (u ++ v) ≡ drop h.start u ++ v = drop-append-le h.start u v (omega arith) in
    let front : take h.length (drop h.start u ++ v) ≡ take h.length (drop h.start u) = take-append-le h.length (drop h.start u) v (omega (arith, length-drop h.start u)) in
    ap (λ p. part_with h p) (ap (λ w. masked h.key (take h.length w)) behind ∙ ap (masked h.key) front)
  where
    part_with : Head → List ℕ → Part
    part_with g p = record { fin = g.fin; opcode = g.opcode; payload = p }

abbrev front_by : List ℕ → HeadFront → Bool → WsFront
front_by u hf over = if not (is_fault hf) && over then Refused Emsgsize else by_head u hf

whole_stays : (h : Head) (u v : List ℕ) (f : WsFront) (over short : Bool) → nat_lt (length u) (h.start + h.length) ≡ short → (if over then Refused Emsgsize else if short then Short else Whole (part_of h u) (h.start + h.length)) ≡ f → IsJudged f
    → (if over then Refused Emsgsize else by_head (u ++ v) (head.Whole h)) ≡ f
whole_stays h u v f true short s e j = e
whole_stays h u v f false true s e j = absurd (subst IsJudged (sym e) j)
whole_stays h u v f false false s e j =
    let there : h.start + h.length ≤ length u = ltb-false (length u) (h.start + h.length) s in
    let more : nat_lt (length (u ++ v)) (h.start + h.length) ≡ false = le-ltb (length (u ++ v)) (h.start + h.length) (omega (arith, there, length-append u v)) in
    rw more (ap (λ (p : Part). Whole p (h.start + h.length)) (part_same h u v there) ∙ e)

by_front : (laws : FrameLaws) (limit : ℕ) (ws : WsLayer) (u v : List ℕ) (f : WsFront) (hf : HeadFront) (over : Bool) → head_front ws.side (is_some ws.joining) u ≡ hf → passes_limit limit ws u ≡ over → front_by u hf over ≡ f → IsJudged f
    → front_by (u ++ v) (head_front ws.side (is_some ws.joining) (u ++ v)) (passes_limit limit ws (u ++ v)) ≡ f
by_front laws limit ws u v f (head.Fault x) over r o e j =
    let stays : head_front ws.side (is_some ws.joining) (u ++ v) ≡ head.Fault x = laws.stays ws.side (is_some ws.joining) u v (head.Fault x) r tt in
    ap (λ g. front_by (u ++ v) g (passes_limit limit ws (u ++ v))) stays ∙ e
by_front laws limit ws u v f (head.Whole h) over r o e j =
    let stays : head_front ws.side (is_some ws.joining) (u ++ v) ≡ head.Whole h = laws.stays ws.side (is_some ws.joining) u v (head.Whole h) r tt in
    let told_all : has_length u ≡ true = shown_length u (head_shown ws.side (is_some ws.joining) u h r) in
    let same : passes_limit limit ws (u ++ v) ≡ over = limit_same limit ws u v told_all ∙ o in
    ap (λ g. front_by (u ++ v) g (passes_limit limit ws (u ++ v))) stays ∙ ap (front_by (u ++ v) (head.Whole h)) same ∙ whole_stays h u v f over (nat_lt (length u) (h.start + h.length)) refl e j
  where
    shown_length : (w : List ℕ) → HeadShown ws.side w h → has_length w ≡ true
    shown_length w s = both (nat_le 2 (length w)) (nat_le (2 + length_size (bits_of (slice_index w 1))) (length w)) (le-leb 2 (length w) (ltb-false (length w) 2 s.two)) (le-leb (2 + length_size (bits_of (slice_index w 1))) (length w) (ltb-false (length w) (2 + length_size (bits_of (slice_index w 1))) s.all))
      where
        both : (p q : Bool) → p ≡ true → q ≡ true → (p && q) ≡ true
        both true q s t = t
        both false q s t = cc
by_front laws limit ws u v f head.Need false r o e j = absurd (subst IsJudged (sym e) j)
by_front laws limit ws u v f head.Need true r o e j =
    let told_all : has_length u ≡ true = passes_told limit ws u o in
    let same : passes_limit limit ws (u ++ v) ≡ true = limit_same limit ws u v told_all ∙ o in
    refused (head_front ws.side (is_some ws.joining) (u ++ v)) (passes_limit limit ws (u ++ v)) (no_fault_same ws.side (is_some ws.joining) u v told_all r) same ∙ e
  where
    refused : (g : HeadFront) (b : Bool) → is_fault g ≡ false → b ≡ true → front_by (u ++ v) g b ≡ Refused Emsgsize
    refused (head.Fault x) b p q = cc
    refused (head.Whole h) true p q = refl
    refused (head.Whole h) false p q = cc
    refused head.Need true p q = refl
    refused head.Need false p q = cc

pub front_stays : (laws : FrameLaws) → FrontStays
unfolding ws_front
front_stays laws limit ws u v f e j = by_front laws limit ws u v f (head_front ws.side (is_some ws.joining) u) (passes_limit limit ws u) refl refl e j
