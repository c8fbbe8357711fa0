-- The front of the bytes is what the heads say.
use Rattle.std.proofs.Common.{◌≡◌, ◌<◌, ◌≤◌, ◌+◌, ◌%◌, ◌++◌, ◌∷◌, [], ℕ, suc, zero, List, Bool, true, false, leb, length, take, drop, Option, Some, None, arith, sym, ap, ◌∙◌, refl, subst, inl, inr, length-append, take-append-drop}
use Rattle.std.proofs.lemmas.List.{length-take-le, append-nil, take_all}
use Rattle.dill_base.specs.declared.errno.Errno.{Errno}
use Rattle.dill_base.specs.declared.errno.Errno.TheVariants.{Eproto}
use Rattle.dill_ws.specs.declared.side.Side.{Side}
use Rattle.dill_ws.specs.declared.side.Side.TheVariants.{Client, Server}
use Rattle.dill_ws.specs.declared.head.Head.{Head}
use Rattle.dill_ws.specs.declared.head.HeadFront.{HeadFront}
use Rattle.dill_ws.specs.declared.head.HeadFront.TheVariants.{Whole, Need, Fault}
use Rattle.dill_ws.specs.Frames.{peer_of, length_tail, key_bytes, HasKeyOf}
use Rattle.dill_ws.specs.Fronts.{HeadSpells, HeadShows, IsJudged, NoneBegins, IsOpenHead, IsRefusedHead, IsHeadFront, bits_of, length_size, told, is_least, head_front}
use Rattle.dill_ws.specs.FrameLaws.{AreBytes}
use Rattle.dill_ws.proofs.Lengths.{IsReadForm, read_form, front_bytes, some_length, told_more}
use Rattle.dill_ws.proofs.Heads.{is_start, Reads, front_reads, Refuses, front_refuses, refused_early, refused_late, head_again, from_parts, read_spells, head_of}

some_key : (r : Side) → (key : Option (List ℕ)) × HasKeyOf (peer_of r) key
some_key Client = (None, tt)
some_key Server = (Some (0 ∷ 0 ∷ 0 ∷ 0 ∷ []), refl)

-- some head begins with these bytes
abbrev Begins : Side → Bool → List ℕ → Type 0
Begins r j w = (h : Head) × (rest : List ℕ) × HeadSpells r j h (w ++ rest)

two_begin : (r : Side) (j : Bool) (a b : ℕ) → a < 256 → is_start r j (a ∷ b ∷ []) ≡ true → Begins r j (a ∷ b ∷ [])
two_begin r j a b small s =
    let n = some_length (bits_of b) (omega arith) in
    let key = some_key r in
    let rest = length_tail n.0 ++ key_bytes key.0 in
    (head_of (leb 128 a) (a % 16) key.0 (length (a ∷ b ∷ rest)) n.0, rest, from_parts r j a b n.0 key.0 (length (a ∷ b ∷ rest)) small s n.2 n.1 key.1 refl)

length_begins : (r : Side) (j : Bool) (a b : ℕ) (v : List ℕ) → AreBytes (a ∷ b ∷ v) → is_start r j (a ∷ b ∷ []) ≡ true → length v ≡ length_size (bits_of b) → is_least (bits_of b) (told (bits_of b) v) ≡ true → Begins r j (a ∷ b ∷ v)
length_begins r j a b v bytes s size least =
    let n = told (bits_of b) v in
    let form : IsReadForm (bits_of b) n v = read_form (bits_of b) v (λ i. bytes (suc (suc i))) (omega arith) (omega arith) least in
    let tail : v ≡ length_tail n = sym (take_all (length_size (bits_of b)) v (omega arith)) ∙ form.tail_is in
    let key = some_key r in
    let whole = a ∷ b ∷ (length_tail n ++ key_bytes key.0) in
    let spells : HeadSpells r j (head_of (leb 128 a) (a % 16) key.0 (length whole) n) whole = from_parts r j a b n key.0 (length whole) (bytes 0) s form.bits_are form.fits key.1 refl in
    (head_of (leb 128 a) (a % 16) key.0 (length whole) n, key_bytes key.0, subst (λ (t : List ℕ). HeadSpells r j (head_of (leb 128 a) (a % 16) key.0 (length whole) n) (a ∷ b ∷ (t ++ key_bytes key.0))) (sym tail) spells)

judged_two : (w : List ℕ) → IsJudged w → 2 ≤ length w
judged_two w (inl p) = omega arith
judged_two w (inr p) = omega arith

two_alone : (a b : ℕ) (v : List ℕ) → length (a ∷ b ∷ v) ≡ 2 → [] ≡ v
two_alone a b [] h = refl
two_alone a b (x ∷ v) h = absurd (omega arith)

-- at the last byte of the length
shown_late : (r : Side) (j : Bool) (a b : ℕ) (v rest : List ℕ) (d : Bool) → AreBytes (a ∷ b ∷ v) → NoneBegins r j (a ∷ b ∷ v) → is_start r j (a ∷ b ∷ []) ≡ true → length v ≡ length_size (bits_of b)
    → is_least (bits_of b) (told (bits_of b) v) ≡ d → head_front r j (a ∷ b ∷ (v ++ rest)) ≡ Fault Eproto
shown_late r j a b v rest true bytes none s size e =
    let k : Begins r j (a ∷ b ∷ v) = length_begins r j a b v bytes s size e in
    absurd (none k.0 k.1 k.2)
shown_late r j a b v rest false bytes none s size e =
    let more : told (bits_of b) (v ++ rest) ≡ told (bits_of b) v = told_more (bits_of b) v rest (omega arith) in
    let l : length (v ++ rest) ≡ length v + length rest = length-append v rest in
    refused_late r j (a ∷ b ∷ (v ++ rest)) (omega arith) (ap (is_least (bits_of b)) more ∙ e)

shown_at : (r : Side) (j : Bool) (a b : ℕ) (v rest : List ℕ) (s : Bool) → AreBytes (a ∷ b ∷ v) → NoneBegins r j (a ∷ b ∷ v) → is_start r j (a ∷ b ∷ []) ≡ s → IsJudged (a ∷ b ∷ v) → head_front r j (a ∷ b ∷ (v ++ rest)) ≡ Fault Eproto
shown_at r j a b v rest false bytes none e judged = refused_early r j (a ∷ b ∷ (v ++ rest)) (omega arith) e
shown_at r j a b v rest true bytes none e (inl two) =
    let k : Begins r j (a ∷ b ∷ []) = two_begin r j a b (bytes 0) e in
    let at : Begins r j (a ∷ b ∷ v) = subst (λ (x : List ℕ). Begins r j (a ∷ b ∷ x)) (two_alone a b v two) k in
    absurd (none at.0 at.1 at.2)
shown_at r j a b v rest true bytes none e (inr end) = shown_late r j a b v rest (is_least (bits_of b) (told (bits_of b) v)) bytes none e (omega arith) refl

shown_from : (r : Side) (j : Bool) (w rest : List ℕ) → AreBytes w → NoneBegins r j w → IsJudged w → head_front r j (w ++ rest) ≡ Fault Eproto
shown_from r j [] rest bytes none judged = absurd (omega (arith, judged_two [] judged))
shown_from r j (a ∷ []) rest bytes none judged = absurd (omega (arith, judged_two (a ∷ []) judged))
shown_from r j (a ∷ b ∷ v) rest bytes none judged = shown_at r j a b v rest (is_start r j (a ∷ b ∷ [])) bytes none refl judged

-- What shows a refusal is refused, whatever follows it.
pub head_shown : (r : Side) (j : Bool) (e : Errno) (w rest : List ℕ) → AreBytes w → HeadShows r j e w → head_front r j (w ++ rest) ≡ Fault e
head_shown r j e w rest bytes s = shown_from r j w rest bytes s.none s.judged ∙ sym (ap Fault s.errno)

-- No head begins with what is refused.
none_begins : (r : Side) (j : Bool) (w : List ℕ) → ((rest : List ℕ) → head_front r j (w ++ rest) ≡ Fault Eproto) → NoneBegins r j w
none_begins r j w refused h rest s =
    let whole : head_front r j ((w ++ rest) ++ []) ≡ Whole h = head_again r j h (w ++ rest) [] s in
    let same : (w ++ rest) ++ [] ≡ w ++ rest = append-nil (w ++ rest) in
    cc (refused rest, whole, same)

unjudged : (a b : ℕ) (n : ℕ) → n < 2 → IsJudged (take n (a ∷ b ∷ [])) → ⊥
unjudged a b zero l (inl p) = omega arith
unjudged a b zero l (inr p) = omega arith
unjudged a b (suc zero) l (inl p) = omega arith
unjudged a b (suc zero) l (inr p) = omega arith
unjudged a b (suc (suc n)) l p = omega arith

early_shows : (r : Side) (j : Bool) (a b : ℕ) → is_start r j (a ∷ b ∷ []) ≡ false → HeadShows r j Eproto (a ∷ b ∷ [])
early_shows r j a b s = record {
  errno = refl;
  judged = inl refl;
  none = none_begins r j (a ∷ b ∷ []) (λ rest. refused_early r j (a ∷ b ∷ rest) (omega arith) s);
  least = λ n l judged none. unjudged a b n l judged;
}

late_least : (r : Side) (j : Bool) (a b : ℕ) (v : List ℕ) → a < 256 → is_start r j (a ∷ b ∷ []) ≡ true → length v ≡ length_size (bits_of b) → (n : ℕ) → n < length (a ∷ b ∷ v) → IsJudged (take n (a ∷ b ∷ v)) → NoneBegins r j (take n (a ∷ b ∷ v)) → ⊥
late_least r j a b v small s size zero l judged none = omega (arith, judged_two [] judged)
late_least r j a b v small s size (suc zero) l judged none = omega (arith, judged_two (a ∷ []) judged)
late_least r j a b v small s size (suc (suc n)) l judged none = at_two judged
  where
    count : length (take n v) ≡ n
    count = length-take-le n v (omega arith)

    at_two : IsJudged (a ∷ b ∷ take n v) → ⊥
    at_two (inl two) =
        let k : Begins r j (a ∷ b ∷ []) = two_begin r j a b small s in
        let at : Begins r j (a ∷ b ∷ take n v) = subst (λ (x : List ℕ). Begins r j (a ∷ b ∷ x)) (two_alone a b (take n v) two) k in
        none at.0 at.1 at.2
    at_two (inr end) = omega (arith, count)

late_shows : (r : Side) (j : Bool) (a b : ℕ) (v : List ℕ) → a < 256 → is_start r j (a ∷ b ∷ []) ≡ true → length v ≡ length_size (bits_of b) → is_least (bits_of b) (told (bits_of b) v) ≡ false → HeadShows r j Eproto (a ∷ b ∷ v)
late_shows r j a b v small s size d = record {
  errno = refl;
  judged = inr (omega arith);
  none = none_begins r j (a ∷ b ∷ v) (λ rest.
      let more : told (bits_of b) (v ++ rest) ≡ told (bits_of b) v = told_more (bits_of b) v rest (omega arith) in
      let l : length (v ++ rest) ≡ length v + length rest = length-append v rest in
      refused_late r j (a ∷ b ∷ (v ++ rest)) (omega arith) (ap (is_least (bits_of b)) more ∙ d));
  least = late_least r j a b v small s size;
}

-- the bytes of the length are enough for what they tell
told_front : (b : ℕ) (v : List ℕ) → length_size (bits_of b) ≤ length v → told (bits_of b) (take (length_size (bits_of b)) v) ≡ told (bits_of b) v
told_front b v l =
    let size = length_size (bits_of b) in
    let count : length (take size v) ≡ size = length-take-le size v l in
    sym (told_more (bits_of b) (take size v) (drop size v) (omega arith)) ∙ ap (told (bits_of b)) (take-append-drop size v)

is_refused : (r : Side) (j : Bool) (u : List ℕ) (e : Errno) → AreBytes u → Refuses r j u e → IsRefusedHead r j u e
is_refused r j [] e bytes k = absurd (omega (arith, k.two))
is_refused r j (a ∷ []) e bytes k = absurd (omega (arith, k.two))
is_refused r j (a ∷ b ∷ v) e bytes k =
    elim k.why [
      | inl s ↦ record { count = 2; there = k.two; shown = subst (λ (x : Errno). HeadShows r j x (a ∷ b ∷ [])) (sym k.errno) (early_shows r j a b s) }
      | inr s ↦
          let size = length_size (bits_of b) in
          let there : size ≤ length v = omega (arith, s.1) in
          let count : length (take size v) ≡ size = length-take-le size v there in
          let shows : HeadShows r j Eproto (a ∷ b ∷ take size v) = late_shows r j a b (take size v) (bytes 0) s.0 count (ap (is_least (bits_of b)) (told_front b v there) ∙ s.2) in
          record { count = suc (suc size); there = omega arith; shown = subst (λ (x : Errno). HeadShows r j x (a ∷ b ∷ take size v)) (sym k.errno) shows }
    ]

is_open : (r : Side) (j : Bool) (u : List ℕ) → AreBytes u → head_front r j u ≡ Need → IsOpenHead r j u
is_open r j u bytes e = record {
  unspelled = λ n l h s.
      let whole : head_front r j (take n u ++ drop n u) ≡ Whole h = head_again r j h (take n u) (drop n u) s in
      cc (whole, take-append-drop n u, e);
  unshown = λ n l f s.
      let shown : head_front r j (take n u ++ drop n u) ≡ Fault f = head_shown r j f (take n u) (drop n u) (front_bytes n u bytes) s in
      cc (shown, take-append-drop n u, e);
}

start_there : (r : Side) (j : Bool) (u : List ℕ) (h : Head) → Reads r j u h → h.start ≤ length u
start_there r j u h k = subst (λ (x : Head). x.start ≤ length u) k.same k.key_there

front_cases : (r : Side) (j : Bool) (u : List ℕ) → AreBytes u → (f : HeadFront) → head_front r j u ≡ f → IsHeadFront r j u f
front_cases r j u bytes (Whole h) e =
    let k : Reads r j u h = front_reads r j u h e in
    record { there = start_there r j u h k; spelled = read_spells r j u h bytes k }
front_cases r j u bytes Need e = is_open r j u bytes e
front_cases r j u bytes (Fault f) e = is_refused r j u f bytes (front_refuses r j u f e)

pub is_head_front : (r : Side) (j : Bool) (u : List ℕ) → AreBytes u → (f : HeadFront) → f ≡ head_front r j u → IsHeadFront r j u f
is_head_front r j u bytes f e = front_cases r j u bytes f (sym e)
