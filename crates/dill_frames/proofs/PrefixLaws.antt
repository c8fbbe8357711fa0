-- The front of the bytes is what the spellings say.
use Rattle.std.proofs.Common.{◌≡◌, ◌<◌, ◌≤◌, ◌+◌, ◌-◌, ◌^◌, ◌++◌, ◌∷◌, [], List, ℕ, suc, zero, length, take, drop, reverse, arith, sym, ap, ◌∙◌, refl, subst, Bool, true, false, inl, inr, ◌⊎◌, length-append, if◌then◌else◌}
use Rattle.std.proofs.lemmas.List.{take-append-le, length-take, length-take-le, length-drop, length-reverse, take_at, reverse-reverse, reverse-append, take-append-drop}
use Rattle.std.proofs.Math.Seq.{take-add}
use Rattle.dill_base.specs.declared.errno.Errno.{Errno}
use Rattle.dill_base.specs.declared.errno.Errno.TheVariants.{Emsgsize}
use Rattle.dill_base.specs.declared.errno.Front.{Front}
use Rattle.dill_base.specs.declared.errno.Front.TheVariants.{Whole, Need, Fault}
use Rattle.dill_frames.specs.declared.prefix.PrefixForm.{PrefixForm}
use Rattle.dill_frames.specs.Prefix.{prefix_front, length_number, length_bytes, little_number, little_bytes, PrefixSpells, PrefixShows}
use Rattle.dill_base.specs.Reading.{IsFront, IsWhole, IsOpen, IsShown}
use Rattle.dill_frames.proofs.Digits.{AreBytes, number_of_bytes, bytes_of_number, length_of_bytes, number_bound}
use Rattle.dill_frames.proofs.Fronts.{said, says_whole, SaysWhole, whole_says, says_fault, fault_says, says_need, said_more}

bytes_take : (n : ℕ) (u : List ℕ) → AreBytes u → AreBytes (take n u)
bytes_take zero u h k = omega arith
bytes_take (suc n) [] h k = omega arith
bytes_take (suc n) (x ∷ u) h zero = h zero
bytes_take (suc n) (x ∷ u) h (suc k) = bytes_take n u (λ j. h (suc j)) k

bytes_snoc : (u : List ℕ) (b : ℕ) → AreBytes u → b < 256 → AreBytes (u ++ b ∷ [])
bytes_snoc [] b h l zero = l
bytes_snoc [] b h l (suc k) = omega arith
bytes_snoc (x ∷ u) b h l zero = h zero
bytes_snoc (x ∷ u) b h l (suc k) = bytes_snoc u b (λ j. h (suc j)) l k

bytes_reverse : (u : List ℕ) → AreBytes u → AreBytes (reverse u)
bytes_reverse [] h = h
bytes_reverse (x ∷ u) h = subst AreBytes (sym (reverse-append (x ∷ []) u)) (bytes_snoc (reverse u) x (bytes_reverse u (λ j. h (suc j))) (h zero))

-- digits and numbers in either order
choose_bytes : (b : Bool) (head : List ℕ) → AreBytes head → (if b then little_bytes (length head) (if b then little_number head else little_number (reverse head)) else reverse (little_bytes (length head) (if b then little_number head else little_number (reverse head)))) ≡ head
choose_bytes true head h = bytes_of_number head h
choose_bytes false head h =
    let e : little_bytes (length (reverse head)) (little_number (reverse head)) ≡ reverse head = bytes_of_number (reverse head) (bytes_reverse head h) in
    let l : length (reverse head) ≡ length head = length-reverse head in
    ap (λ n. reverse (little_bytes n (little_number (reverse head)))) (sym l) ∙ ap reverse e ∙ reverse-reverse head

choose_bound : (b : Bool) (head : List ℕ) → AreBytes head → (if b then little_number head else little_number (reverse head)) < 256 ^ length head
choose_bound true head h = number_bound head h
choose_bound false head h =
    let e : little_number (reverse head) < 256 ^ length (reverse head) = number_bound (reverse head) (bytes_reverse head h) in
    subst (λ (n : ℕ). little_number (reverse head) < 256 ^ n) (length-reverse head) e

choose_number : (b : Bool) (k n : ℕ) → n < 256 ^ k → (if b then little_number (if b then little_bytes k n else reverse (little_bytes k n)) else little_number (reverse (if b then little_bytes k n else reverse (little_bytes k n)))) ≡ n
choose_number true k n h = number_of_bytes k n h
choose_number false k n h = ap little_number (reverse-reverse (little_bytes k n)) ∙ number_of_bytes k n h

choose_length : (b : Bool) (k n : ℕ) → length (if b then little_bytes k n else reverse (little_bytes k n)) ≡ k
choose_length true k n = length_of_bytes k n
choose_length false k n = length-reverse (little_bytes k n) ∙ length_of_bytes k n

pub length_head : (form : PrefixForm) (n : ℕ) → length (length_bytes form n) ≡ form.size
length_head form n = choose_length form.little form.size n

-- what follows from a spelling at the front
pub record Spelled (form : PrefixForm) (m w rest : List ℕ) : Type 0 where
  pub count : length w ≡ form.size + length m
  pub head : form.size ≤ length (w ++ rest)
  pub says : said form (w ++ rest) ≡ length m

pub spelled_says : (form : PrefixForm) (m w rest : List ℕ) → PrefixSpells form m w → Spelled form m w rest
spelled_says form m w rest s =
    let l : length (length_bytes form (length m)) ≡ form.size = length_head form (length m) in
    let n : length w ≡ form.size + length m = ap length s.whole ∙ length-append (length_bytes form (length m)) m ∙ ap (λ k. k + length m) l in
    let t : length (w ++ rest) ≡ length w + length rest = length-append w rest in
    let c : take form.size (w ++ rest) ≡ length_bytes form (length m) =
    take-append-le form.size w rest (omega arith) ∙ ap (take form.size) s.whole ∙ take_at (length_bytes form (length m)) m form.size l in
    record {
      count = n;
      head = omega arith;
      says = ap (length_number form) c ∙ choose_number form.little form.size (length m) s.fits;
    }

-- What is spelled at the front is read, whatever follows it.
pub prefix_again : (form : PrefixForm) (m w rest : List ℕ) (l : ℕ) → PrefixSpells form m w → length m ≤ l → prefix_front form (w ++ rest) l ≡ Whole form.size (length w) (length w)
prefix_again form m w rest l s h =
    let k : Spelled form m w rest = spelled_says form m w rest s in
    let t : length (w ++ rest) ≡ length w + length rest = length-append w rest in
    let a : said form (w ++ rest) ≤ l = omega (arith, k.says) in
    let b : form.size + said form (w ++ rest) ≤ length (w ++ rest) = omega (arith, k.says, k.count) in
    let e : form.size + said form (w ++ rest) ≡ length w = omega (arith, k.says, k.count) in
    whole_says form (w ++ rest) l k.head a b ∙ ap (λ n. Whole form.size n n) e

-- What shows a refusal is refused, whatever follows it.
pub prefix_shown : (form : PrefixForm) (e : Errno) (w rest : List ℕ) (l : ℕ) → PrefixShows form l e w → prefix_front form (w ++ rest) l ≡ Fault e
prefix_shown form e w rest l s =
    let t : length (w ++ rest) ≡ length w + length rest = length-append w rest in
    let c : take form.size (w ++ rest) ≡ w = take_at w rest form.size s.least in
    let n : said form (w ++ rest) ≡ length_number form w = ap (length_number form) c in
    fault_says form (w ++ rest) l (omega (arith, s.least)) (omega (arith, s.long, n)) ∙ sym (ap Fault s.errno)

-- No spelling begins another.
pub prefix_free : (form : PrefixForm) (m n w rest : List ℕ) → PrefixSpells form m w → PrefixSpells form n (w ++ rest) → rest ≡ []
prefix_free form m n w rest s t =
    let a : Spelled form m w rest = spelled_says form m w rest s in
    let b : Spelled form n (w ++ rest) [] = spelled_says form n (w ++ rest) [] t in
    let g : said form ((w ++ rest) ++ []) ≡ said form (w ++ rest) = said_more form (w ++ rest) [] a.head in
    let k : length (w ++ rest) ≡ length w + length rest = length-append w rest in
    no_length rest (omega (arith, a.says, b.says, a.count, b.count))
  where
    no_length : (xs : List ℕ) → length xs ≡ 0 → xs ≡ []
    no_length [] h = refl
    no_length (x ∷ xs) h = absurd (omega arith)

at_whole : (form : PrefixForm) (l : ℕ) (u : List ℕ) (a b c : ℕ) → AreBytes u → SaysWhole form u l a b c → IsWhole (PrefixSpells form) l u a b c
at_whole form l u a b c h w =
    let n : length (take (b - a) (drop a u)) ≡ said form u = length-take (b - a) (drop a u) ∙ (let d : length (drop a u) ≡ length u - a = length-drop a u in omega (arith, w.from, w.to, w.there, d)) in
    let k : length (take form.size u) ≡ form.size = length-take-le form.size u w.head in
    let bytes : AreBytes (take form.size u) = bytes_take form.size u h in
    let bound : said form u < 256 ^ form.size = subst (λ (i : ℕ). said form u < 256 ^ i) k (choose_bound form.little (take form.size u) bytes) in
    let head : length_bytes form (said form u) ≡ take form.size u = ap (λ i. if form.little then little_bytes i (said form u) else reverse (little_bytes i (said form u))) (sym k) ∙ choose_bytes form.little (take form.size u) bytes in
    let rest : take (b - a) (drop a u) ≡ take (said form u) (drop form.size u) = ap (λ i. take (b - i) (drop i u)) w.from ∙ ap (λ i. take i (drop form.size u)) (omega (arith, w.to)) in
    record {
      there = omega (arith, w.used, w.there);
      within = omega (arith, w.used, w.to);
      forward = omega (arith, w.from, w.to);
      short = omega (arith, w.from, w.to, w.short);
      spelled = record {
        fits = rw n bound;
        whole = ap (λ i. take i u) w.used ∙ take-add form.size (said form u) u ∙ ap (λ x. x ++ take (said form u) (drop form.size u)) (sym head) ∙ ap (λ x. length_bytes form (said form u) ++ x) (sym rest) ∙ ap (λ i. length_bytes form i ++ take (b - a) (drop a u)) (sym n);
      };
    }

at_fault : (form : PrefixForm) (l : ℕ) (u : List ℕ) (e : Errno) → (form.size ≤ length u) × (l < said form u) × (e ≡ Emsgsize) → IsShown (PrefixShows form l) u e
at_fault form l u e w = record {
  count = form.size;
  there = w.0;
  shown = record { errno = w.2; least = length-take-le form.size u w.0; long = w.1 };
}

at_need : (form : PrefixForm) (l : ℕ) (u : List ℕ) → (length u < form.size) ⊎ ((form.size ≤ length u) × (said form u ≤ l) × (length u < form.size + said form u)) → IsOpen (PrefixSpells form) (PrefixShows form l) l u
at_need form l u w = record {
  unspelled = λ n h m k s.
      let a : Spelled form m (take n u) (drop n u) = spelled_says form m (take n u) (drop n u) s in
      let whole : take n u ++ drop n u ≡ u = take-append-drop n u in
      let b : length (take n u) ≡ n = length-take-le n u h in
      let c : said form u ≡ length m = ap (said form) (sym whole) ∙ a.says in
      elim w [ inl x ↦ omega (arith, a.count, b) | inr x ↦ omega (arith, a.count, b, c) ];
  unshown = λ n h e s.
      let b : length (take n u) ≡ n = length-take-le n u h in
      let k : n ≡ form.size = sym b ∙ s.least in
      let c : length_number form (take n u) ≡ said form u = ap (λ i. length_number form (take i u)) k in
      elim w [ inl x ↦ omega (arith, k) | inr x ↦ omega (arith, c, s.long) ];
}

front_cases : (form : PrefixForm) (l : ℕ) (u : List ℕ) → AreBytes u → (f : Front) → prefix_front form u l ≡ f → IsFront (PrefixSpells form) (PrefixShows form l) l u f
front_cases form l u h (Whole a b c) e = at_whole form l u a b c h (says_whole form u l a b c e)
front_cases form l u h Need e = at_need form l u (says_need form u l e)
front_cases form l u h (Fault f) e = at_fault form l u f (says_fault form u l f e)

pub prefix_is_front : (form : PrefixForm) (l : ℕ) (u : List ℕ) → AreBytes u → IsFront (PrefixSpells form) (PrefixShows form l) l u (prefix_front form u l)
prefix_is_front form l u h = front_cases form l u h (prefix_front form u l) refl
