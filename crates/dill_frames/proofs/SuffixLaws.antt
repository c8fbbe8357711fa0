-- The front of the bytes is what the terminator's first place says.
use Rattle.std.proofs.Common.{◌≡◌, ◌<◌, ◌≤◌, ◌+◌, ◌-◌, ◌++◌, ◌∷◌, [], List, ℕ, suc, zero, length, take, drop, arith, sym, ap, ◌∙◌, refl, subst, Bool, true, false, ltb, ltb-true, ltb-false, lt-ltb, le-ltb, Option, Some, None, inl, inr, ◌⊎◌, length-append, if◌then◌else◌, append_assoc}
use Rattle.std.proofs.lemmas.Bool.{cases_lt, cases_order}
use Rattle.std.proofs.lemmas.List.{take-append-le, drop-append-le, length-take, length-take-le, length-drop, take_at, drop_at, take-append-drop, take_all, nil_from_length}
use Rattle.std.proofs.Math.Seq.{take-add}
use Rattle.std.proofs.lemmas.Slice.Eq.{bytes_eq-Decides}
use Rattle.std.specs.Str.{bytes_eq}
use Rattle.dill_base.specs.declared.errno.Errno.{Errno}
use Rattle.dill_base.specs.declared.errno.Errno.TheVariants.{Emsgsize}
use Rattle.dill_base.specs.declared.errno.Front.{Front}
use Rattle.dill_base.specs.declared.errno.Front.TheVariants.{Whole, Need, Fault}
use Rattle.dill_frames.specs.Suffix.{suffix_front, suffix_at, place_of, one_more, starts, OccursAt, SuffixSpells, SuffixShows}
use Rattle.dill_base.specs.Reading.{IsFront, IsWhole, IsOpen, IsShown}

-- t is the front of w
pub starts_front : (t w : List ℕ) → starts t w ≡ true → t ≡ take (length t) w
starts_front t w h = (bytes_eq-Decides t (take (length t) w)).0 h

pub front_starts : (t w : List ℕ) → t ≡ take (length t) w → starts t w ≡ true
front_starts t w h = (bytes_eq-Decides t (take (length t) w)).1 h

pub starts_room : (t w : List ℕ) → starts t w ≡ true → length t ≤ length w
starts_room t w h =
    let e : length t ≡ length (take (length t) w) = ap length (starts_front t w h) in
    let k = length-take (length t) w in
    omega (arith, e, length-take (length t) w)

-- a longer list starts so too, and a list that is long enough only so
pub starts_more : (t w v : List ℕ) → length t ≤ length w → starts t (w ++ v) ≡ starts t w
starts_more t w v h = ap (bytes_eq t) (take-append-le (length t) w v h)

-- the first place, in each case
pub record IsPlace (t w : List ℕ) (k : ℕ) : Type 0 where
  pub below : k < length w
  pub here : starts t (drop k w) ≡ true
  pub first : (j : ℕ) → j < k → starts t (drop j w) ≡ false

step_some : (t : List ℕ) (b : ℕ) (w : List ℕ) (s : Bool) (o : Option ℕ) (k : ℕ) → starts t (b ∷ w) ≡ s → ((j : ℕ) → o ≡ Some j → IsPlace t w j) → (if s then Some 0 else one_more o) ≡ Some k → IsPlace t (b ∷ w) k
step_some t b w true o k e h q =
    let z : 0 ≡ k = cc in
    subst (IsPlace t (b ∷ w)) z record { below = omega arith; here = e; first = λ j l. absurd (omega arith) }
step_some t b w false None k e h q = cc
step_some t b w false (Some i) k e h q =
    let z : suc i ≡ k = cc in
    let p : IsPlace t w i = h i refl in
    subst (IsPlace t (b ∷ w)) z record { below = omega (arith, p.below); here = p.here; first = below_first p }
  where
    below_first : IsPlace t w i → (j : ℕ) → j < suc i → starts t (drop j (b ∷ w)) ≡ false
    below_first p zero l = e
    below_first p (suc j) l = p.first j (omega arith)

pub place_some : (t w : List ℕ) (k : ℕ) → place_of t w ≡ Some k → IsPlace t w k
place_some t [] k h = cc
place_some t (b ∷ w) k h = step_some t b w (starts t (b ∷ w)) (place_of t w) k refl (λ j q. place_some t w j q) h

step_none : (t : List ℕ) (b : ℕ) (w : List ℕ) (s : Bool) (o : Option ℕ) → starts t (b ∷ w) ≡ s → (o ≡ None → (j : ℕ) → j < length w → starts t (drop j w) ≡ false) → (if s then Some 0 else one_more o) ≡ None → (j : ℕ) → j < length (b ∷ w) → starts t (drop j (b ∷ w)) ≡ false
step_none t b w true o e h q j l = cc
step_none t b w false (Some i) e h q j l = cc
step_none t b w false None e h q zero l = e
step_none t b w false None e h q (suc j) l = h refl j (omega arith)

pub place_none : (t w : List ℕ) → place_of t w ≡ None → (j : ℕ) → j < length w → starts t (drop j w) ≡ false
place_none t [] h j l = absurd (omega arith)
place_none t (b ∷ w) h j l = step_none t b w (starts t (b ∷ w)) (place_of t w) refl (λ q. place_none t w q) h j l

-- two first places are one
pub same_place : (t w : List ℕ) (i k : ℕ) → IsPlace t w i → IsPlace t w k → i ≡ k
same_place t w i k p q =
    elim (cases_order i k) [
      | inl e ↦ e
      | inr o ↦ elim o [
        | inl l ↦ (let a : starts t (drop i w) ≡ true = p.here in let b : starts t (drop i w) ≡ false = q.first i l in cc)
        | inr l ↦ (let a : starts t (drop k w) ≡ true = q.here in let b : starts t (drop k w) ≡ false = p.first k l in cc)
      ]
    ]

pub is_place : (t w : List ℕ) (k : ℕ) → IsPlace t w k → place_of t w ≡ Some k
is_place t w k p = by_place (place_of t w) refl
  where
    by_place : (o : Option ℕ) → place_of t w ≡ o → place_of t w ≡ Some k
    by_place (Some i) e = e ∙ ap Some (same_place t w i k (place_some t w i e) p)
    by_place None e = (let a : starts t (drop k w) ≡ false = place_none t w e k p.below in let b : starts t (drop k w) ≡ true = p.here in cc)

pub place_room : (t w : List ℕ) (k : ℕ) → IsPlace t w k → k + length t ≤ length w
place_room t w k p =
    let r : length t ≤ length (drop k w) = starts_room t (drop k w) p.here in
    omega (arith, r, p.below, length-drop k w)

pub place_more : (t w v : List ℕ) (k : ℕ) → IsPlace t w k → IsPlace t (w ++ v) k
place_more t w v k p =
    let r : k + length t ≤ length w = place_room t w k p in
    let n : length (w ++ v) ≡ length w + length v = length-append w v in
    record {
      below = omega (arith, p.below);
      here = same k (omega arith) ∙ p.here;
      first = λ j l. same j (omega arith) ∙ p.first j l;
    }
  where
    same : (j : ℕ) → j + length t ≤ length w → starts t (drop j (w ++ v)) ≡ starts t (drop j w)
    same j h =
        let d : length (drop j w) ≡ length w - j = length-drop j w in
        ap (starts t) (drop-append-le j w v (omega arith)) ∙ starts_more t (drop j w) v (omega arith)

-- what a front says
abbrev nowhere : Option ℕ
nowhere = None

at_whole : (t u : List ℕ) (l : ℕ) (o : Option ℕ) (a b c : ℕ) → suffix_at (length t) u l o ≡ Whole a b c → (o ≡ Some b) × (b ≤ l) × (a ≡ 0) × (c ≡ b + length t)
at_whole t u l None a b c h = none_whole (ltb (length u) (l + length t)) h
  where
    none_whole : (x : Bool) → (if x then Need else Fault Emsgsize) ≡ Whole a b c → (nowhere ≡ Some b) × (b ≤ l) × (a ≡ 0) × (c ≡ b + length t)
    none_whole true h = cc
    none_whole false h = cc
at_whole t u l (Some k) a b c h = some_whole (ltb l k) refl h
  where
    some_whole : (x : Bool) → ltb l k ≡ x → (if x then Fault Emsgsize else Whole 0 k (k + length t)) ≡ Whole a b c → (Some k ≡ Some b) × (b ≤ l) × (a ≡ 0) × (c ≡ b + length t)
    some_whole true e h = cc
    some_whole false e h =
        let z : k ≡ b = cc in
        let y : 0 ≡ a = cc in
        let x : k + length t ≡ c = cc in
        (ap Some z, omega (arith, ltb-false l k e, z), sym y, omega (arith, x, z))

at_fault : (t u : List ℕ) (l : ℕ) (o : Option ℕ) (f : Errno) → suffix_at (length t) u l o ≡ Fault f → (f ≡ Emsgsize) × (((k : ℕ) × (o ≡ Some k) × (l < k)) ⊎ ((o ≡ None) × (l + length t ≤ length u)))
at_fault t u l None f h = none_fault (ltb (length u) (l + length t)) refl h
  where
    none_fault : (x : Bool) → ltb (length u) (l + length t) ≡ x → (if x then Need else Fault Emsgsize) ≡ Fault f → (f ≡ Emsgsize) × (((k : ℕ) × (nowhere ≡ Some k) × (l < k)) ⊎ ((nowhere ≡ None) × (l + length t ≤ length u)))
    none_fault true e h = cc
    none_fault false e h = (cc, inr (refl, ltb-false (length u) (l + length t) e))
at_fault t u l (Some k) f h = some_fault (ltb l k) refl h
  where
    some_fault : (x : Bool) → ltb l k ≡ x → (if x then Fault Emsgsize else Whole 0 k (k + length t)) ≡ Fault f → (f ≡ Emsgsize) × (((j : ℕ) × (Some k ≡ Some j) × (l < j)) ⊎ ((Some k ≡ None) × (l + length t ≤ length u)))
    some_fault true e h = (cc, inl (k, refl, ltb-true l k e))
    some_fault false e h = cc

at_need : (t u : List ℕ) (l : ℕ) (o : Option ℕ) → suffix_at (length t) u l o ≡ Need → (o ≡ None) × (length u < l + length t)
at_need t u l None h = none_need (ltb (length u) (l + length t)) refl h
  where
    none_need : (x : Bool) → ltb (length u) (l + length t) ≡ x → (if x then Need else Fault Emsgsize) ≡ Need → (nowhere ≡ None) × (length u < l + length t)
    none_need true e h = (refl, ltb-true (length u) (l + length t) e)
    none_need false e h = cc
at_need t u l (Some k) h = some_need (ltb l k) h
  where
    some_need : (x : Bool) → (if x then Fault Emsgsize else Whole 0 k (k + length t)) ≡ Need → (Some k ≡ None) × (length u < l + length t)
    some_need true h = cc
    some_need false h = cc

pub suffix_says_whole : (t u : List ℕ) (l a b c : ℕ) → suffix_front t u l ≡ Whole a b c → (place_of t u ≡ Some b) × (b ≤ l) × (a ≡ 0) × (c ≡ b + length t)
unfolding suffix_front
suffix_says_whole t u l a b c h = at_whole t u l (place_of t u) a b c h

pub suffix_says_fault : (t u : List ℕ) (l : ℕ) (f : Errno) → suffix_front t u l ≡ Fault f → (f ≡ Emsgsize) × (((k : ℕ) × (place_of t u ≡ Some k) × (l < k)) ⊎ ((place_of t u ≡ None) × (l + length t ≤ length u)))
unfolding suffix_front
suffix_says_fault t u l f h = at_fault t u l (place_of t u) f h

pub suffix_says_need : (t u : List ℕ) (l : ℕ) → suffix_front t u l ≡ Need → (place_of t u ≡ None) × (length u < l + length t)
unfolding suffix_front
suffix_says_need t u l h = at_need t u l (place_of t u) h

pub whole_at : (t u : List ℕ) (l k : ℕ) → place_of t u ≡ Some k → k ≤ l → suffix_front t u l ≡ Whole 0 k (k + length t)
unfolding suffix_front
whole_at t u l k e h = rw (e, le-ltb l k h) refl

pub fault_at : (t u : List ℕ) (l k : ℕ) → place_of t u ≡ Some k → l < k → suffix_front t u l ≡ Fault Emsgsize
unfolding suffix_front
fault_at t u l k e h = rw (e, lt-ltb l k h) refl

pub fault_none : (t u : List ℕ) (l : ℕ) → place_of t u ≡ None → l + length t ≤ length u → suffix_front t u l ≡ Fault Emsgsize
unfolding suffix_front
fault_none t u l e h = rw (e, le-ltb (length u) (l + length t) h) refl

pub suffix_whole_more : (t u v : List ℕ) (l a b c : ℕ) → suffix_front t u l ≡ Whole a b c → suffix_front t (u ++ v) l ≡ Whole a b c
suffix_whole_more t u v l a b c h =
    let w : (place_of t u ≡ Some b) × (b ≤ l) × (a ≡ 0) × (c ≡ b + length t) = suffix_says_whole t u l a b c h in
    let p : place_of t (u ++ v) ≡ Some b = is_place t (u ++ v) b (place_more t u v b (place_some t u b w.0)) in
    whole_at t (u ++ v) l b p w.1 ∙ ap (λ x. Whole x b (b + length t)) (sym w.2) ∙ ap (λ x. Whole a b x) (sym w.3)

late : (t u v : List ℕ) (l : ℕ) → 0 < length t → place_of t u ≡ None → l + length t ≤ length u → (o : Option ℕ) → place_of t (u ++ v) ≡ o → suffix_front t (u ++ v) l ≡ Fault Emsgsize
late t u v l z e h None q = fault_none t (u ++ v) l q (omega (arith, length-append u v))
late t u v l z e h (Some k) q =
    elim (cases_lt l k) [
      | inl g ↦ fault_at t (u ++ v) l k q g
      | inr g ↦
          let p : IsPlace t (u ++ v) k = place_some t (u ++ v) k q in
          let d : length (drop k u) ≡ length u - k = length-drop k u in
          let s : starts t (drop k u) ≡ true = sym (ap (starts t) (drop-append-le k u v (omega arith)) ∙ starts_more t (drop k u) v (omega arith)) ∙ p.here in
          let n : starts t (drop k u) ≡ false = place_none t u e k (omega arith) in
          cc
    ]

pub suffix_fault_more : (t u v : List ℕ) (l : ℕ) (f : Errno) → 0 < length t → suffix_front t u l ≡ Fault f → suffix_front t (u ++ v) l ≡ Fault f
suffix_fault_more t u v l f z h =
    let w : (f ≡ Emsgsize) × (((k : ℕ) × (place_of t u ≡ Some k) × (l < k)) ⊎ ((place_of t u ≡ None) × (l + length t ≤ length u))) = suffix_says_fault t u l f h in
    elim w.1 [
      | inl k ↦ fault_at t (u ++ v) l k.0 (is_place t (u ++ v) k.0 (place_more t u v k.0 (place_some t u k.0 k.1))) k.2 ∙ sym (ap Fault w.0)
      | inr k ↦ late t u v l z k.0 k.1 (place_of t (u ++ v)) refl ∙ sym (ap Fault w.0)
    ]

-- A start at a place is an occurrence there, and the other way round.
pub starts_occurs : (t w : List ℕ) (k : ℕ) → starts t (drop k w) ≡ true → OccursAt t w k
starts_occurs t w k h =
    let e : t ≡ take (length t) (drop k w) = starts_front t (drop k w) h in
    (drop (length t) (drop k w), sym (take-append-drop (length t) (drop k w)) ∙ ap (λ x. x ++ drop (length t) (drop k w)) (sym e))

pub occurs_starts : (t w : List ℕ) (k : ℕ) → OccursAt t w k → starts t (drop k w) ≡ true
occurs_starts t w k o = front_starts t (drop k w) (sym (ap (take (length t)) o.1 ∙ take_at t o.0 (length t) refl))

not_both : (b : Bool) → b ≡ true → b ≡ false → ⊥
not_both b h k = cc

pub not_before : (t w : List ℕ) (k : ℕ) → IsPlace t w k → (j : ℕ) → j < k → OccursAt t w j → ⊥
not_before t w k p j l o = not_both (starts t (drop j w)) (occurs_starts t w j o) (p.first j l)

-- An occurrence in a front of a list is one in the list.
occurs_more : (t w v : List ℕ) (k : ℕ) → k ≤ length w → OccursAt t w k → OccursAt t (w ++ v) k
occurs_more t w v k h o = (o.0 ++ v, drop-append-le k w v h ∙ ap (λ x. x ++ v) o.1 ∙ append_assoc t o.0 v)

front_of : (n : ℕ) (u : List ℕ) → n ≤ length u → (length (take n u) ≡ n) × (take n u ++ drop n u ≡ u)
front_of n u h = (length-take-le n u h, take-append-drop n u)

-- The terminator starts behind the message.
pub end_starts : (t m : List ℕ) → starts t (drop (length m) (m ++ t)) ≡ true
end_starts t m = front_starts t (drop (length m) (m ++ t)) (sym (ap (take (length t)) (drop_at m t (length m) refl) ∙ take_all (length t) t (omega arith)))

-- A spelling at the front says where the first place is.
pub spelled_place : (t m w rest : List ℕ) → 0 < length t → SuffixSpells t m w → IsPlace t (w ++ rest) (length m)
spelled_place t m w rest z s =
    let n : length w ≡ length m + length t = ap length s.whole ∙ length-append m t in
    let tail : drop (length m) w ≡ t = ap (drop (length m)) s.whole ∙ drop_at m t (length m) refl in
    let own : IsPlace t w (length m) = record {
      below = omega arith;
      here = front_starts t (drop (length m) w) (sym (ap (take (length t)) tail ∙ take_all (length t) t (omega arith)));
      first = λ j l. off (starts t (drop j w)) (λ q. s.first j l (starts_occurs t w j q));
    } in
    place_more t w rest (length m) own
  where
    off : (b : Bool) → (b ≡ true → ⊥) → b ≡ false
    off true h = absurd (h refl)
    off false h = refl

pub suffix_again : (t m w rest : List ℕ) (l : ℕ) → 0 < length t → SuffixSpells t m w → length m ≤ l → suffix_front t (w ++ rest) l ≡ Whole 0 (length m) (length w)
suffix_again t m w rest l z s h =
    let n : length w ≡ length m + length t = ap length s.whole ∙ length-append m t in
    whole_at t (w ++ rest) l (length m) (is_place t (w ++ rest) (length m) (spelled_place t m w rest z s)) h ∙ ap (λ x. Whole 0 (length m) x) (sym n)

pub suffix_shown : (t : List ℕ) (e : Errno) (w rest : List ℕ) (l : ℕ) → 0 < length t → SuffixShows t l e w → suffix_front t (w ++ rest) l ≡ Fault e
suffix_shown t e w rest l z s = suffix_fault_more t w rest l e z (here (place_of t w) refl ∙ sym (ap Fault s.errno))
  where
    here : (o : Option ℕ) → place_of t w ≡ o → suffix_front t w l ≡ Fault Emsgsize
    here None q = fault_none t w l q (omega (arith, s.least))
    here (Some k) q =
        let p : IsPlace t w k = place_some t w k q in
        let r : k + length t ≤ length w = place_room t w k p in
        absurd (s.none k (omega (arith, s.least)) (starts_occurs t w k p.here))

pub suffix_free : (t m n w rest : List ℕ) → 0 < length t → SuffixSpells t m w → SuffixSpells t n (w ++ rest) → rest ≡ []
suffix_free t m n w rest z s r =
    let a : IsPlace t (w ++ rest) (length m) = spelled_place t m w rest z s in
    let b : IsPlace t ((w ++ rest) ++ []) (length n) = spelled_place t n (w ++ rest) [] z r in
    let c : IsPlace t ((w ++ rest) ++ []) (length m) = place_more t (w ++ rest) [] (length m) a in
    let e : length m ≡ length n = same_place t ((w ++ rest) ++ []) (length m) (length n) c b in
    let x : length w ≡ length m + length t = ap length s.whole ∙ length-append m t in
    let y : length (w ++ rest) ≡ length n + length t = ap length r.whole ∙ length-append n t in
    let k : length (w ++ rest) ≡ length w + length rest = length-append w rest in
    nil_from_length rest (omega arith)

is_whole : (t u : List ℕ) (l a b c : ℕ) → (place_of t u ≡ Some b) × (b ≤ l) × (a ≡ 0) × (c ≡ b + length t) → IsWhole (SuffixSpells t) l u a b c
is_whole t u l a b c w =
    let p : IsPlace t u b = place_some t u b w.0 in
    let r : b + length t ≤ length u = place_room t u b p in
    let zero_from : take (b - a) (drop a u) ≡ take b u = ap (λ i. take (b - i) (drop i u)) w.2 ∙ ap (λ i. take i u) (omega arith) in
    let n : length (take b u) ≡ b = length-take-le b u (omega arith) in
    let e : t ≡ take (length t) (drop b u) = starts_front t (drop b u) p.here in
    record {
      there = omega (arith, w.3);
      within = omega (arith, w.3);
      forward = omega (arith, w.2);
      short = omega (arith, w.1);
      spelled = record {
        whole = ap (λ i. take i u) w.3 ∙ take-add b (length t) u ∙ ap (λ x. take b u ++ x) (sym e) ∙ ap (λ x. x ++ t) (sym zero_from);
        first = λ k h o.
            let q : length (take (b - a) (drop a u)) ≡ b = ap length zero_from ∙ n in
            let f = front_of c u (omega (arith, w.3)) in
            let more : OccursAt t (take c u ++ drop c u) k = occurs_more t (take c u) (drop c u) k (omega (arith, w.3, f.0, q)) o in
            not_before t u b p k (omega (arith, q)) (subst (λ (x : List ℕ). OccursAt t x k) f.1 more);
      };
    }

-- Where a refusal is shown, as many bytes as the limit and the terminator have are there.
pub suffix_fault_room : (t u : List ℕ) (l : ℕ) (e : Errno) → suffix_front t u l ≡ Fault e → l + length t ≤ length u
suffix_fault_room t u l e h =
    let w : (e ≡ Emsgsize) × (((k : ℕ) × (place_of t u ≡ Some k) × (l < k)) ⊎ ((place_of t u ≡ None) × (l + length t ≤ length u))) = suffix_says_fault t u l e h in
    elim w.1 [ inl k ↦ omega (arith, place_room t u k.0 (place_some t u k.0 k.1), k.2) | inr k ↦ k.1 ]

is_fault : (t u : List ℕ) (l : ℕ) (e : Errno) → 0 < length t → suffix_front t u l ≡ Fault e → IsShown (SuffixShows t l) u e
is_fault t u l e z h =
    let w : (e ≡ Emsgsize) × (((k : ℕ) × (place_of t u ≡ Some k) × (l < k)) ⊎ ((place_of t u ≡ None) × (l + length t ≤ length u))) = suffix_says_fault t u l e h in
    let r : l + length t ≤ length u = suffix_fault_room t u l e h in
    let f = front_of (l + length t) u r in
    record {
      count = l + length t;
      there = r;
      shown = record {
        errno = w.0;
        least = f.0;
        none = λ k h o.
            let more : OccursAt t (take (l + length t) u ++ drop (l + length t) u) k = occurs_more t (take (l + length t) u) (drop (l + length t) u) k (omega (arith, f.0)) o in
            let here : OccursAt t u k = subst (λ (x : List ℕ). OccursAt t x k) f.1 more in
            elim w.1 [
              | inl q ↦ not_before t u q.0 (place_some t u q.0 q.1) k (omega (arith, q.2)) here
              | inr q ↦ not_both (starts t (drop k u)) (occurs_starts t u k here) (place_none t u q.0 k (omega arith))
            ];
      };
    }

is_need : (t u : List ℕ) (l : ℕ) → 0 < length t → suffix_front t u l ≡ Need → IsOpen (SuffixSpells t) (SuffixShows t l) l u
is_need t u l z h = record {
  unspelled = λ n g m k s.
      let f = front_of n u g in
      let q : suffix_front t (take n u ++ drop n u) l ≡ Whole 0 (length m) (length (take n u)) = suffix_again t m (take n u) (drop n u) l z s k in
      apart (sym h ∙ ap (λ x. suffix_front t x l) (sym f.1) ∙ q);
  unshown = λ n g e s.
      let f = front_of n u g in
      let q : suffix_front t (take n u ++ drop n u) l ≡ Fault e = suffix_shown t e (take n u) (drop n u) l z s in
      far (sym h ∙ ap (λ x. suffix_front t x l) (sym f.1) ∙ q);
}
  where
    apart : {a b c : ℕ} → Need ≡ Whole a b c → ⊥
    apart e = cc

    far : {e : Errno} → Need ≡ Fault e → ⊥
    far q = cc

front_cases : (t : List ℕ) (l : ℕ) (u : List ℕ) → 0 < length t → (f : Front) → suffix_front t u l ≡ f → IsFront (SuffixSpells t) (SuffixShows t l) l u f
front_cases t l u z (Whole a b c) e = is_whole t u l a b c (suffix_says_whole t u l a b c e)
front_cases t l u z Need e = is_need t u l z e
front_cases t l u z (Fault f) e = is_fault t u l f z e

pub suffix_is_front : (t : List ℕ) (l : ℕ) (u : List ℕ) → 0 < length t → IsFront (SuffixSpells t) (SuffixShows t l) l u (suffix_front t u l)
suffix_is_front t l u z = front_cases t l u z (suffix_front t u l) refl
