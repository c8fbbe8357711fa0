-- A head is read as it is written, and what is read is a head.
use Rattle.std.proofs.Common.{◌≡◌, ◌<◌, ◌≤◌, ◌+◌, ◌-◌, ◌%◌, ◌^◌, ◌++◌, ◌∷◌, [], ℕ, suc, List, Bool, true, false, ltb, leb, length, take, drop, Option, Some, None, arith, sym, ap, ◌∙◌, refl, subst, inl, inr, ◌⊎◌, if◌then◌else◌, le-ltb, append_assoc, length-append}
use Rattle.std.specs.Prelude.{slice_index}
use Rattle.std.proofs.lemmas.Bool.{ltb-true, ltb-false}
use Rattle.std.proofs.lemmas.List.{take_at, drop_at, length-take-le, length-drop}
use Rattle.std.proofs.Math.Seq.{take-add}
use Rattle.dill_base.specs.declared.errno.Errno.{Errno}
use Rattle.dill_base.specs.declared.errno.Errno.TheVariants.{Eproto}
use Rattle.dill_ws.specs.declared.side.Side.{Side}
use Rattle.dill_ws.specs.declared.side.Side.TheVariants.{Client, Server}
use Rattle.dill_ws.specs.declared.head.Head.{Head}
use Rattle.dill_ws.specs.declared.head.HeadFront.TheVariants.{Whole, Need, Fault}
use Rattle.dill_ws.specs.Frames.{peer_of, first_byte, second_byte, length_bits, length_tail, key_bytes, head_bytes, HasKeyOf, may_follow}
use Rattle.dill_ws.specs.Fronts.{HeadSpells, bits_of, length_size, key_size, key_at, told, may_start, is_least, head_at, head_front}
use Rattle.dill_ws.specs.FrameLaws.{AreBytes}
use Rattle.dill_ws.proofs.Lengths.{IsForm, form_of, least_of_form, IsReadForm, read_form, bits_follow, size_bound}
use Rattle.dill_ws.proofs.Openings.{TellsFirst, first_tells, first_is, TellsSecond, second_tells, second_is, key_length, small_opcode, Starts, starts_by, written_starts}

-- where the bytes of the length end
abbrev pub length_end : List ℕ → ℕ
length_end u = 2 + length_size (bits_of (slice_index u 1))

abbrev pub length_of : List ℕ → ℕ
length_of u = told (bits_of (slice_index u 1)) (drop 2 u)

abbrev pub is_start : Side → Bool → List ℕ → Bool
is_start r j u = may_start r j (slice_index u 0) (slice_index u 1)

abbrev pub has_least : List ℕ → Bool
has_least u = is_least (bits_of (slice_index u 1)) (length_of u)

-- what is read as a whole head
pub record Reads (r : Side) (j : Bool) (u : List ℕ) (h : Head) : Type 0 where
  pub two : 2 ≤ length u
  pub starts : is_start r j u ≡ true
  pub length_there : length_end u ≤ length u
  pub least : has_least u ≡ true
  pub key_there : length_end u + key_size r ≤ length u
  pub same : head_at r u ≡ h

chain_whole : (a b c d e : Bool) (x h : Head) → (if a then Need else if b then (if c then Need else if d then (if e then Need else Whole x) else Fault Eproto) else Fault Eproto) ≡ Whole h
    → (a ≡ false) × (b ≡ true) × (c ≡ false) × (d ≡ true) × (e ≡ false) × (x ≡ h)
chain_whole true b c d e x h q = absurd (cc q)
chain_whole false false c d e x h q = absurd (cc q)
chain_whole false true true d e x h q = absurd (cc q)
chain_whole false true false false e x h q = absurd (cc q)
chain_whole false true false true true x h q = absurd (cc q)
chain_whole false true false true false x h q = (refl, refl, refl, refl, refl, cc)

whole_chain : (a b c d e : Bool) (x h : Head) → a ≡ false → b ≡ true → c ≡ false → d ≡ true → e ≡ false → x ≡ h
    → (if a then Need else if b then (if c then Need else if d then (if e then Need else Whole x) else Fault Eproto) else Fault Eproto) ≡ Whole h
whole_chain a b c d e x h p q s t u v = rw (p, q, s, t, u, v) refl

pub front_reads : (r : Side) (j : Bool) (u : List ℕ) (h : Head) → head_front r j u ≡ Whole h → Reads r j u h
unfolding head_front
front_reads r j u h q =
    let k = chain_whole (ltb (length u) 2) (is_start r j u) (ltb (length u) (length_end u)) (has_least u) (ltb (length u) (length_end u + key_size r)) (head_at r u) h q in
    record {
      two = ltb-false (length u) 2 k.0;
      starts = k.1;
      length_there = ltb-false (length u) (length_end u) k.2;
      least = k.3;
      key_there = ltb-false (length u) (length_end u + key_size r) k.4;
      same = k.5;
    }

pub reads_front : (r : Side) (j : Bool) (u : List ℕ) (h : Head) → Reads r j u h → head_front r j u ≡ Whole h
unfolding head_front
reads_front r j u h k =
    whole_chain (ltb (length u) 2) (is_start r j u) (ltb (length u) (length_end u)) (has_least u) (ltb (length u) (length_end u + key_size r)) (head_at r u) h
    (le-ltb (length u) 2 k.two) k.starts (le-ltb (length u) (length_end u) k.length_there) k.least (le-ltb (length u) (length_end u + key_size r) k.key_there) k.same

-- what is read as a refusal
pub record Refuses (r : Side) (j : Bool) (u : List ℕ) (e : Errno) : Type 0 where
  pub two : 2 ≤ length u
  pub errno : e ≡ Eproto
  pub why : (is_start r j u ≡ false) ⊎ ((is_start r j u ≡ true) × (length_end u ≤ length u) × (has_least u ≡ false))

chain_fault : (a b c d e : Bool) (x : Head) (f : Errno) → (if a then Need else if b then (if c then Need else if d then (if e then Need else Whole x) else Fault Eproto) else Fault Eproto) ≡ Fault f
    → (a ≡ false) × (f ≡ Eproto) × ((b ≡ false) ⊎ ((b ≡ true) × (c ≡ false) × (d ≡ false)))
chain_fault true b c d e x f q = absurd (cc q)
chain_fault false false c d e x f q = (refl, cc, inl refl)
chain_fault false true true d e x f q = absurd (cc q)
chain_fault false true false false e x f q = (refl, cc, inr (refl, refl, refl))
chain_fault false true false true true x f q = absurd (cc q)
chain_fault false true false true false x f q = absurd (cc q)

early_chain : (a b c d e : Bool) (x : Head) → a ≡ false → b ≡ false → (if a then Need else if b then (if c then Need else if d then (if e then Need else Whole x) else Fault Eproto) else Fault Eproto) ≡ Fault Eproto
early_chain a b c d e x p q = rw (p, q) refl

late_chain : (a b c d e : Bool) (x : Head) → a ≡ false → c ≡ false → d ≡ false → (if a then Need else if b then (if c then Need else if d then (if e then Need else Whole x) else Fault Eproto) else Fault Eproto) ≡ Fault Eproto
late_chain a true c d e x p q s = rw (p, q, s) refl
late_chain a false c d e x p q s = rw p refl

pub front_refuses : (r : Side) (j : Bool) (u : List ℕ) (e : Errno) → head_front r j u ≡ Fault e → Refuses r j u e
unfolding head_front
front_refuses r j u e q =
    let k = chain_fault (ltb (length u) 2) (is_start r j u) (ltb (length u) (length_end u)) (has_least u) (ltb (length u) (length_end u + key_size r)) (head_at r u) e q in
    record {
      two = ltb-false (length u) 2 k.0;
      errno = k.1;
      why = elim k.2 [ inl p ↦ inl p | inr p ↦ inr (p.0, ltb-false (length u) (length_end u) p.1, p.2) ];
    }

pub refused_early : (r : Side) (j : Bool) (u : List ℕ) → 2 ≤ length u → is_start r j u ≡ false → head_front r j u ≡ Fault Eproto
unfolding head_front
refused_early r j u l s = early_chain (ltb (length u) 2) (is_start r j u) (ltb (length u) (length_end u)) (has_least u) (ltb (length u) (length_end u + key_size r)) (head_at r u) (le-ltb (length u) 2 l) s

pub refused_late : (r : Side) (j : Bool) (u : List ℕ) → length_end u ≤ length u → has_least u ≡ false → head_front r j u ≡ Fault Eproto
unfolding head_front
refused_late r j u l s = late_chain (ltb (length u) 2) (is_start r j u) (ltb (length u) (length_end u)) (has_least u) (ltb (length u) (length_end u + key_size r)) (head_at r u) (le-ltb (length u) 2 (omega arith)) (le-ltb (length u) (length_end u) l) s

-- what is still open
chain_need : (a b c d e : Bool) (x : Head) → (if a then Need else if b then (if c then Need else if d then (if e then Need else Whole x) else Fault Eproto) else Fault Eproto) ≡ Need
    → (a ≡ true) ⊎ ((b ≡ true) × ((c ≡ true) ⊎ ((d ≡ true) × (e ≡ true))))
chain_need true b c d e x q = inl refl
chain_need false false c d e x q = absurd (cc q)
chain_need false true true d e x q = inr (refl, inl refl)
chain_need false true false false e x q = absurd (cc q)
chain_need false true false true true x q = inr (refl, inr (refl, refl))
chain_need false true false true false x q = absurd (cc q)

-- a head has at most 14 bytes
pub open_is_short : (r : Side) (j : Bool) (u : List ℕ) → head_front r j u ≡ Need → length u < 14
unfolding head_front
open_is_short r j u q =
    let b : length_size (bits_of (slice_index u 1)) ≤ 8 = size_bound (bits_of (slice_index u 1)) in
    let s : key_size r ≤ 4 = key_bound r in
    elim (chain_need (ltb (length u) 2) (is_start r j u) (ltb (length u) (length_end u)) (has_least u) (ltb (length u) (length_end u + key_size r)) (head_at r u) q) [
      | inl p ↦ let l : length u < 2 = ltb-true (length u) 2 p in omega arith
      | inr p ↦ elim p.1 [
        | inl c ↦ let l : length u < length_end u = ltb-true (length u) (length_end u) c in omega arith
        | inr c ↦ let l : length u < length_end u + key_size r = ltb-true (length u) (length_end u + key_size r) c.1 in omega arith
      ]
    ]
  where
    key_bound : (r : Side) → key_size r ≤ 4
    key_bound Client = omega arith
    key_bound Server = omega arith

abbrev pub head_of : Bool → ℕ → Option (List ℕ) → ℕ → ℕ → Head
head_of f o k s n = record { fin = f; opcode = o; key = k; start = s; length = n }

pub head_same : (f g : Bool) (o p : ℕ) (k l : Option (List ℕ)) (s t n m : ℕ) → f ≡ g → o ≡ p → k ≡ l → s ≡ t → n ≡ m → head_of f o k s n ≡ head_of g p l t m
head_same f g o p k l s t n m a b c d e = cc

key_again : (r : Side) (key : Option (List ℕ)) (v : List ℕ) → HasKeyOf (peer_of r) key → key_at r (key_bytes key ++ v) ≡ key
key_again Client None v k = refl
key_again Client (Some key) v k = absurd k
key_again Server None v k = absurd k
key_again Server (Some key) v k = ap Some (take_at key v 4 k)

-- a head that may come is read, whatever follows it
spelled_reads : (r : Side) (j fin : Bool) (op : ℕ) (key : Option (List ℕ)) (start n : ℕ) (rest : List ℕ) → HasKeyOf (peer_of r) key → may_follow j fin op n ≡ true → n < 2 ^ 63 → start ≡ length (head_bytes fin op key n)
    → Reads r j (head_bytes fin op key n ++ rest) (head_of fin op key start n)
spelled_reads r j fin op key start n rest k f fits st =
    let t = length_tail n in
    let kb = key_bytes key in
    let a = first_byte fin op in
    let b = second_byte key n in
    let u = a ∷ b ∷ ((t ++ kb) ++ rest) in
    let form : IsForm n (length_bits n) t = form_of n fits in
    let first : TellsFirst a fin op = first_tells fin op (small_opcode j fin op n f) in
    let second : TellsSecond r b (length_bits n) = second_tells r key n k form.seven in
    let size : length_size (bits_of b) ≡ length t = ap length_size second.seven ∙ form.size in
    let end : length_end u ≡ suc (suc (length t)) = ap (λ m. 2 + m) size ∙ (omega arith) in
    let behind : (t ++ kb) ++ rest ≡ t ++ (kb ++ rest) = append_assoc t kb rest in
    let says : length_of u ≡ n = ap (told (bits_of b)) behind ∙ ap (λ m. told m (t ++ (kb ++ rest))) second.seven ∙ form.says (kb ++ rest) in
    let kl : length kb ≡ key_size r = key_length r key k in
    let hl : length (t ++ kb) ≡ length t + length kb = length-append t kb in
    let ul : length ((t ++ kb) ++ rest) ≡ length (t ++ kb) + length rest = length-append (t ++ kb) rest in
    let cut : drop (length_end u) u ≡ kb ++ rest = ap (λ m. drop m u) end ∙ ap (drop (length t)) behind ∙ drop_at t (kb ++ rest) (length t) refl in
    record {
      two = omega arith;
      starts = written_starts r j fin op key n k f form.seven;
      length_there = omega arith;
      least = ap (λ m. is_least (bits_of b) m) says ∙ least_of_form n (bits_of b) fits second.seven;
      key_there = omega arith;
      same = head_same (leb 128 a) fin (a % 16) op (key_at r (drop (length_end u) u)) key (length_end u + key_size r) start (length_of u) n first.final first.code (ap (key_at r) cut ∙ key_again r key rest k) (omega arith) says;
    }

pub head_again : (r : Side) (j : Bool) (h : Head) (w rest : List ℕ) → HeadSpells r j h w → head_front r j (w ++ rest) ≡ Whole h
head_again r j h w rest s =
    ap (λ x. head_front r j (x ++ rest)) s.whole
    ∙ reads_front r j (head_bytes h.fin h.opcode h.key h.length ++ rest) h (spelled_reads r j h.fin h.opcode h.key h.start h.length rest s.keyed s.allowed s.fits (s.start ∙ ap length s.whole))

-- bytes that tell such fields are a head
pub from_parts : (r : Side) (j : Bool) (a b n : ℕ) (key : Option (List ℕ)) (start : ℕ) → a < 256 → is_start r j (a ∷ b ∷ []) ≡ true → bits_of b ≡ length_bits n → n < 2 ^ 63 → HasKeyOf (peer_of r) key
    → start ≡ length (a ∷ b ∷ (length_tail n ++ key_bytes key)) → HeadSpells r j (head_of (leb 128 a) (a % 16) key start n) (a ∷ b ∷ (length_tail n ++ key_bytes key))
from_parts r j a b n key start small s bits fits k st =
    let t : Starts r j a b = starts_by r j a b s in
    let follow : may_follow j (leb 128 a) (a % 16) n ≡ true = sym (bits_follow j (leb 128 a) (a % 16) n) ∙ ap (may_follow j (leb 128 a) (a % 16)) (sym bits) ∙ t.allowed in
    let first : a ≡ first_byte (leb 128 a) (a % 16) = first_is a small t.reserved in
    let second : b ≡ second_byte key n = second_is r key b n k t.mask bits in
    record {
      keyed = k;
      allowed = follow;
      fits = fits;
      whole = two_heads a (first_byte (leb 128 a) (a % 16)) b (second_byte key n) (length_tail n ++ key_bytes key) first second;
      start = st;
    }
  where
    two_heads : (a x b y : ℕ) (v : List ℕ) → a ≡ x → b ≡ y → a ∷ b ∷ v ≡ x ∷ y ∷ v
    two_heads a x b y v p q = cc

key_there_has : (r : Side) (v : List ℕ) → key_size r ≤ length v → HasKeyOf (peer_of r) (key_at r v)
key_there_has Client v h = tt
key_there_has Server v h = length-take-le 4 v h

key_as_read : (r : Side) (v : List ℕ) → take (key_size r) v ≡ key_bytes (key_at r v)
key_as_read Client v = refl
key_as_read Server v = refl

-- what is read of a byte list is a head
pub read_spells : (r : Side) (j : Bool) (u : List ℕ) (h : Head) → AreBytes u → Reads r j u h → HeadSpells r j h (take h.start u)
read_spells r j [] h bytes k = absurd (omega (arith, k.two))
read_spells r j (a ∷ []) h bytes k = absurd (omega (arith, k.two))
read_spells r j (a ∷ b ∷ v) h bytes k =
    let size = length_size (bits_of b) in
    let n = told (bits_of b) v in
    let behind : AreBytes v = λ i. bytes (suc (suc i)) in
    let there : size + key_size r ≤ length v = omega (arith, k.key_there) in
    let form : IsReadForm (bits_of b) n v = read_form (bits_of b) v behind (omega arith) (omega arith) k.least in
    let rest : length (drop size v) ≡ length v - size = length-drop size v in
    let key = key_at r (drop size v) in
    let spelled : take (size + key_size r) v ≡ length_tail n ++ key_bytes key =
    take-add size (key_size r) v ∙ ap (λ x. x ++ take (key_size r) (drop size v)) form.tail_is ∙ ap (λ x. length_tail n ++ x) (key_as_read r (drop size v)) in
    let two : 2 + size + key_size r ≡ suc (suc (size + key_size r)) = omega arith in
    let whole : take (2 + size + key_size r) (a ∷ b ∷ v) ≡ a ∷ b ∷ (length_tail n ++ key_bytes key) =
    ap (λ m. take m (a ∷ b ∷ v)) two ∙ ap (λ x. a ∷ b ∷ x) spelled in
    let count : length (take (size + key_size r) v) ≡ size + key_size r = length-take-le (size + key_size r) v there in
    let start : 2 + size + key_size r ≡ length (a ∷ b ∷ (length_tail n ++ key_bytes key)) = two ∙ ap (λ m. suc (suc m)) (sym count ∙ ap length spelled) in
    let s : HeadSpells r j (head_of (leb 128 a) (a % 16) key (2 + size + key_size r) n) (a ∷ b ∷ (length_tail n ++ key_bytes key)) =
    from_parts r j a b n key (2 + size + key_size r) (bytes 0) k.starts form.bits_are form.fits (key_there_has r (drop size v) (omega arith)) start in
    let two_more : 2 + size ≡ suc (suc size) = omega arith in
    let here : key_at r (drop (2 + size) (a ∷ b ∷ v)) ≡ key = ap (λ m. key_at r (drop m (a ∷ b ∷ v))) two_more in
    let same : head_of (leb 128 a) (a % 16) key (2 + size + key_size r) n ≡ h = sym (head_same (leb 128 a) (leb 128 a) (a % 16) (a % 16) (key_at r (drop (2 + size) (a ∷ b ∷ v))) key (2 + size + key_size r) (2 + size + key_size r) n n refl refl here refl refl) ∙ k.same in
    subst (λ (x : Head). HeadSpells r j x (take x.start (a ∷ b ∷ v))) same (subst (λ (w : List ℕ). HeadSpells r j (head_of (leb 128 a) (a % 16) key (2 + size + key_size r) n) w) (sym whole) s)
