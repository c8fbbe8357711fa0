-- What stands at the front of the bytes is what the heads say.
use Rattle.std.proofs.Common.{◌≡◌, ◌<◌, ◌≤◌, ◌+◌, ◌-◌, ◌++◌, ◌∷◌, [], ◌⊎◌, inl, inr, ℕ, suc, zero, List, Bool, true, false, ltb, length, take, drop, get_or, arith, sym, ap, ◌∙◌, refl, subst, if◌then◌else◌, append_assoc, length-append, take-append-drop, lt-ltb, le-ltb}
use Rattle.std.proofs.lemmas.Bool.{cases_lt}
use Rattle.std.proofs.lemmas.List.{length-take-le, take_at, append-nil, take-append-le, take_all, take_more}
use Rattle.std.proofs.Math.Seq.{take-append-add}
use Rattle.dill_base.specs.declared.errno.Errno.{Errno}
use Rattle.dill_base.specs.declared.errno.Errno.TheVariants.{Eproto, Emsgsize}
use Rattle.dill_base.specs.declared.errno.Front.{Front}
use Rattle.dill_base.specs.declared.errno.Front.TheVariants.{Whole, Need, Fault}
use Rattle.dill_base.specs.Reading.{IsFront, IsShown}
use Rattle.dill_http.specs.Lines.{line_limit, crlf, front_of_line, LineSpells, LineShows}
use Rattle.dill_http.specs.Laws.{LineLaws}
use Rattle.dill_ws.specs.HeadLines.{are_full, lines_text, lines_at, behind, head_limit, at_limit, limited, head_stop, head_size, judged_by, head_front_by, HasLineFront, IsHeadText, IsCutHead, IsTooLong, HasBadLine, HeadShows}
use Rattle.dill_ws.proofs.Texts.{Splits, split_text, IsMade, is_made, no_line_open, no_line_bad, no_line_empty, empty_line, half_end, Ends, ends_at}

pub limited_short : (n : ℕ) (f last : Front) → n < head_limit → limited n f last ≡ f
limited_short n (Whole a b c) last h = refl
limited_short n Need last h = rw (lt-ltb n head_limit h) refl
limited_short n (Fault e) last h = refl

limited_long : (n : ℕ) (last : Front) → head_limit ≤ n → limited n Need last ≡ at_limit last
limited_long n last h = rw (le-ltb n head_limit h) refl

-- the bytes before the last that a head may have
abbrev pub early : List ℕ → List ℕ
early u = take (head_limit - 1) u

abbrev pub stop_at : List ℕ → Front
stop_at u = front_of_line (behind u)

pub stop_early : (u : List ℕ) → length u < head_limit → head_stop u ≡ stop_at u
unfolding head_stop
stop_early u h =
    let all : early u ≡ u = take_all (head_limit - 1) u (omega arith) in
    limited_short (length u) (stop_at (early u)) (stop_at (take head_limit u)) h ∙ ap stop_at all

pub stop_settled : (u : List ℕ) (f : Front) → stop_at (early u) ≡ f → (f ≡ Need → ⊥) → head_stop u ≡ f
unfolding head_stop
stop_settled u f e n = ap (λ x. limited (length u) x (stop_at (take head_limit u))) e ∙ settled f n
  where
    settled : (g : Front) → (g ≡ Need → ⊥) → limited (length u) g (stop_at (take head_limit u)) ≡ g
    settled (Whole a b c) h = refl
    settled Need h = absurd (h refl)
    settled (Fault e) h = refl

pub stop_late : (u : List ℕ) → head_limit ≤ length u → stop_at (early u) ≡ Need → head_stop u ≡ at_limit (stop_at (take head_limit u))
unfolding head_stop
stop_late u h e = ap (λ x. limited (length u) x (stop_at (take head_limit u))) e ∙ limited_long (length u) (stop_at (take head_limit u)) h

-- what some bytes at the front of a list are, and what is cut off them
pub front_part : (n : ℕ) (w rest : List ℕ) → length w ≤ n → take n (w ++ rest) ≡ w ++ take (n - length w) rest
front_part n w rest h = ap (λ m. take m (w ++ rest)) (let e : n ≡ length w + (n - length w) = omega arith in e) ∙ take-append-add w rest (n - length w)

-- the stop at the empty line behind some lines
stop_of_lines : LineLaws → (lines : List (List ℕ)) (rest : List ℕ) → are_full lines ≡ true → Splits (lines_text lines ++ (crlf ++ rest)) lines (crlf ++ rest)
stop_of_lines laws lines rest full = split_text laws lines (crlf ++ rest) full (no_line_empty (crlf ++ rest) 0 2 (empty_line laws rest))

stops_there : LineLaws → (lines : List (List ℕ)) (rest : List ℕ) → are_full lines ≡ true → stop_at (lines_text lines ++ (crlf ++ rest)) ≡ Whole 0 0 2
stops_there laws lines rest full = ap front_of_line (stop_of_lines laws lines rest full).behind_is ∙ empty_line laws rest

-- what is cut is open
stop_of_cut : LineLaws → (u : List ℕ) → IsCutHead u → stop_at u ≡ Need
stop_of_cut laws u c =
    let open_last : front_of_line c.last ≡ Need = laws.cut_waits c.last c.cut in
    let s : Splits (lines_text c.lines ++ c.last) c.lines c.last = split_text laws c.lines c.last c.full (no_line_open c.last open_last) in
    ap stop_at c.whole ∙ ap front_of_line s.behind_is ∙ open_last

half_head : (lines : List (List ℕ)) → are_full lines ≡ true → IsCutHead (lines_text lines ++ (13 ∷ []))
half_head lines full = record { lines = lines; last = 13 ∷ []; full = full; cut = half_end; whole = refl }

-- a head that stands at the front
pub record Found (u : List ℕ) (lines : List (List ℕ)) (size : ℕ) : Type 0 where
  pub stop : head_stop u ≡ Whole 0 0 2
  pub lines_are : lines_at u ≡ lines
  pub size_is : head_size u ≡ size

text_length : (lines : List (List ℕ)) → length (lines_text lines ++ crlf) ≡ length (lines_text lines) + 2
text_length lines = length-append (lines_text lines) crlf

pub head_found : LineLaws → (lines : List (List ℕ)) (w rest : List ℕ) → IsHeadText lines w → Found (w ++ rest) lines (length w)
head_found laws lines w rest t =
    let u = w ++ rest in
    let grouped : u ≡ lines_text lines ++ (crlf ++ rest) = ap (λ x. x ++ rest) t.whole ∙ append_assoc (lines_text lines) crlf rest in
    let s : Splits (lines_text lines ++ (crlf ++ rest)) lines (crlf ++ rest) = stop_of_lines laws lines rest t.full in
    let are : lines_at u ≡ lines = ap lines_at grouped ∙ s.lines_are in
    record {
      stop = elim (cases_lt (length w) head_limit) [ inl h ↦ before_limit h | inr h ↦ at_the_limit (omega (arith, t.short)) ];
      lines_are = are;
      size_is = ap (λ (l : List (List ℕ)). length (lines_text l) + 2) are ∙ sym (text_length lines) ∙ ap length (sym t.whole);
    }
  where
    not_need : Whole 0 0 2 ≡ Need → ⊥
    not_need e = cc e

    before_limit : length w < head_limit → head_stop (w ++ rest) ≡ Whole 0 0 2
    before_limit h =
        let more = take (head_limit - 1 - length w) rest in
        let cut : early (w ++ rest) ≡ w ++ more = front_part (head_limit - 1) w rest (omega arith) in
        let grouped : w ++ more ≡ lines_text lines ++ (crlf ++ more) = ap (λ x. x ++ more) t.whole ∙ append_assoc (lines_text lines) crlf more in
        stop_settled (w ++ rest) (Whole 0 0 2) (ap stop_at (cut ∙ grouped) ∙ stops_there laws lines more t.full) not_need

    at_the_limit : length w ≡ head_limit → head_stop (w ++ rest) ≡ Whole 0 0 2
    at_the_limit h =
        let half = lines_text lines ++ (13 ∷ []) in
        let last : lines_text lines ++ crlf ≡ half ++ (10 ∷ []) = sym (append_assoc (lines_text lines) (13 ∷ []) (10 ∷ [])) in
        let count : length half ≡ length (lines_text lines) + 1 = length-append (lines_text lines) (13 ∷ []) in
        let size : length (lines_text lines) + 2 ≡ head_limit = sym (text_length lines) ∙ ap length (sym t.whole) ∙ h in
        let halves : w ++ rest ≡ half ++ (10 ∷ rest) = ap (λ x. x ++ rest) (t.whole ∙ last) ∙ append_assoc half (10 ∷ []) rest in
        let front : early (w ++ rest) ≡ half = ap early halves ∙ take_at half (10 ∷ rest) (head_limit - 1) (omega arith) in
        let open_front : stop_at (early (w ++ rest)) ≡ Need = ap stop_at front ∙ stop_of_cut laws half (half_head lines t.full) in
        let all : take head_limit (w ++ rest) ≡ w = take_at w rest head_limit h in
        let ended : stop_at (take head_limit (w ++ rest)) ≡ Whole 0 0 2 = ap stop_at (all ∙ t.whole) ∙ stops_there laws lines [] t.full in
        let l : length (w ++ rest) ≡ length w + length rest = length-append w rest in
        stop_late (w ++ rest) (omega arith) open_front ∙ ap at_limit ended

pub front_of_head : LineLaws → (test : List (List ℕ) → Bool) (lines : List (List ℕ)) (w rest : List ℕ) → IsHeadText lines w → head_front_by test (w ++ rest) ≡ judged_by (test lines) (length w) (Whole 0 0 2)
unfolding head_front_by
front_of_head laws test lines w rest t =
    let u = w ++ rest in
    let f : Found u lines (length w) = head_found laws lines w rest t in
    ap (judged_by (test (lines_at u)) (head_size u)) f.stop ∙ ap (λ (l : List (List ℕ)). judged_by (test l) (head_size u) (Whole 0 0 2)) f.lines_are ∙ ap (λ n. judged_by (test lines) n (Whole 0 0 2)) f.size_is

-- A head whose lines pass is read, whatever follows it.
pub passing_again : LineLaws → (test : List (List ℕ) → Bool) (lines : List (List ℕ)) (w rest : List ℕ) → IsHeadText lines w → test lines ≡ true → head_front_by test (w ++ rest) ≡ Whole 0 (length w) (length w)
passing_again laws test lines w rest t p = front_of_head laws test lines w rest t ∙ ap (λ b. judged_by b (length w) (Whole 0 0 2)) p

pub failing_again : LineLaws → (test : List (List ℕ) → Bool) (lines : List (List ℕ)) (w rest : List ℕ) → IsHeadText lines w → test lines ≡ false → head_front_by test (w ++ rest) ≡ Fault Eproto
failing_again laws test lines w rest t p = front_of_head laws test lines w rest t ∙ ap (λ b. judged_by b (length w) (Whole 0 0 2)) p

pub front_of_fault : (test : List (List ℕ) → Bool) (u : List ℕ) (e : Errno) → head_stop u ≡ Fault e → head_front_by test u ≡ Fault e
unfolding head_front_by
front_of_fault test u e h = ap (judged_by (test (lines_at u)) (head_size u)) h

pub not_open : (e : Errno) → Fault e ≡ Need → ⊥
not_open e h = cc h

bad_line_again : LineLaws → (e : Errno) (w rest : List ℕ) → HasBadLine e w → head_stop (w ++ rest) ≡ Fault e
bad_line_again laws e w rest b =
    let more = take (head_limit - 1 - length w) rest in
    let cut : early (w ++ rest) ≡ w ++ more = front_part (head_limit - 1) w rest (omega (arith, b.within)) in
    let grouped : w ++ more ≡ lines_text b.lines ++ (b.last ++ more) = ap (λ x. x ++ more) b.whole ∙ append_assoc (lines_text b.lines) b.last more in
    let bad : front_of_line (b.last ++ more) ≡ Fault e = laws.refused e b.last more b.shown in
    let s : Splits (lines_text b.lines ++ (b.last ++ more)) b.lines (b.last ++ more) = split_text laws b.lines (b.last ++ more) b.full (no_line_bad (b.last ++ more) e bad) in
    stop_settled (w ++ rest) (Fault e) (ap stop_at (cut ∙ grouped) ∙ ap front_of_line s.behind_is ∙ bad) (not_open e)

-- what ends behind the last byte of a list ends before it, or with it
last_byte : (xs before : List ℕ) (byte : ℕ) (front : List ℕ) → front ++ xs ≡ before ++ (byte ∷ []) → (xs ≡ []) ⊎ ((ys : List ℕ) × (before ≡ front ++ ys))
last_byte xs before byte front e = by_length (cases_lt (length before) (length front))
  where
    sizes : length front + length xs ≡ length before + 1
    sizes = sym (length-append front xs) ∙ ap length e ∙ length-append before (byte ∷ [])

    nothing : (ys : List ℕ) → length ys ≡ 0 → ys ≡ []
    nothing [] h = refl
    nothing (y ∷ ys) h = absurd (omega arith)

    by_length : (length before < length front) ⊎ (length front ≤ length before) → (xs ≡ []) ⊎ ((ys : List ℕ) × (before ≡ front ++ ys))
    by_length (inl l) = inl (nothing xs (omega (arith, sizes)))
    by_length (inr l) =
        let f : take (length front) before ≡ front = sym (take-append-le (length front) before (byte ∷ []) l) ∙ ap (take (length front)) (sym e) ∙ take_at front xs (length front) refl in
        inr (drop (length front) before, sym (take-append-drop (length front) before) ∙ ap (λ x. x ++ drop (length front) before) f)

-- a whole list of bytes that is too long for a head holds no end
no_end : LineLaws → (w before : List ℕ) (byte : ℕ) → w ≡ before ++ (byte ∷ []) → stop_at before ≡ Need → length w ≡ head_limit → ((lines : List (List ℕ)) → IsHeadText lines w → ⊥) → (f : Front) → stop_at w ≡ f → at_limit f ≡ Fault Emsgsize
no_end laws w before byte whole open_before all endless Need e = refl
no_end laws w before byte whole open_before all endless (Fault f) e = refl
no_end laws w before byte whole open_before all endless (Whole a b c) e =
    let m : IsMade w = is_made laws w in
    let n : Ends (behind w) a b c = ends_at laws (behind w) a b c e m.stops in
    let lines = lines_at w in
    let ended : w ≡ (lines_text lines ++ crlf) ++ n.more = m.whole ∙ ap (λ x. lines_text lines ++ x) n.whole ∙ sym (append_assoc (lines_text lines) crlf n.more) in
    absurd (elim (last_byte n.more before byte (lines_text lines ++ crlf) (sym ended ∙ whole)) [
      | inl none ↦ endless lines (record { full = m.full; whole = ended ∙ ap (λ x. (lines_text lines ++ crlf) ++ x) none ∙ append-nil (lines_text lines ++ crlf); short = omega arith })
      | inr k ↦ clash (sym open_before ∙ ap stop_at (k.1 ∙ append_assoc (lines_text lines) crlf k.0) ∙ stops_there laws lines k.0 m.full)
    ])
  where
    clash : Need ≡ Whole 0 0 2 → ⊥
    clash h = cc h

too_long_again : LineLaws → (e : Errno) (w before : List ℕ) (byte : ℕ) (rest : List ℕ) → w ≡ before ++ (byte ∷ []) → IsCutHead before → IsTooLong e w → head_stop (w ++ rest) ≡ Fault e
too_long_again laws e w before byte rest whole led t =
    let size : length w ≡ length before + 1 = ap length whole ∙ length-append before (byte ∷ []) in
    let grouped : w ++ rest ≡ before ++ (byte ∷ rest) = ap (λ x. x ++ rest) whole ∙ append_assoc before (byte ∷ []) rest in
    let front : early (w ++ rest) ≡ before = ap early grouped ∙ take_at before (byte ∷ rest) (head_limit - 1) (omega (arith, t.all)) in
    let open_before : stop_at before ≡ Need = stop_of_cut laws before led in
    let all : take head_limit (w ++ rest) ≡ w = take_at w rest head_limit t.all in
    let l : length (w ++ rest) ≡ length w + length rest = length-append w rest in
    stop_late (w ++ rest) (omega (arith, t.all)) (ap stop_at front ∙ open_before)
    ∙ ap (λ x. at_limit (stop_at x)) all ∙ no_end laws w before byte whole open_before t.all t.endless (stop_at w) refl ∙ sym (ap Fault t.errno)

-- What shows a refusal is refused, whatever follows it.
pub shown_again : LineLaws → (test : List (List ℕ) → Bool) (e : Errno) (w rest : List ℕ) → HeadShows test e w → head_front_by test (w ++ rest) ≡ Fault e
shown_again laws test e w rest s =
    elim s.shown [
      | inl t ↦ front_of_fault test (w ++ rest) e (too_long_again laws e w s.before s.byte rest s.whole s.led t)
      | inr o ↦ elim o [
        | inl b ↦ front_of_fault test (w ++ rest) e (bad_line_again laws e w rest b)
        | inr b ↦ failing_again laws test b.lines w rest b.text b.fails ∙ sym (ap Fault b.errno)
      ]
    ]

length_most : (n : ℕ) (u : List ℕ) → length (take n u) ≤ n
length_most zero u = omega arith
length_most (suc n) [] = omega arith
length_most (suc n) (x ∷ u) = let l : length (take n u) ≤ n = length_most n u in omega arith

-- a head at the front of the bytes
pub record HasHead (u : List ℕ) : Type 0 where
  pub there : head_size u ≤ length u
  pub text : IsHeadText (lines_at u) (take (head_size u) u)

head_within : LineLaws → (n : ℕ) (u : List ℕ) (a b c : ℕ) → n ≤ head_limit → stop_at (take n u) ≡ Whole a b c → HasHead u
head_within laws n u a b c h e =
    let v = take n u in
    let m : IsMade v = is_made laws v in
    let lines = lines_at v in
    let k : Ends (behind v) a b c = ends_at laws (behind v) a b c e m.stops in
    let rest = k.more ++ drop n u in
    let w = lines_text lines ++ crlf in
    let parts : v ≡ w ++ k.more = m.whole ∙ ap (λ x. lines_text lines ++ x) k.whole ∙ sym (append_assoc (lines_text lines) crlf k.more) in
    let all : u ≡ w ++ rest = sym (take-append-drop n u) ∙ ap (λ x. x ++ drop n u) parts ∙ append_assoc w k.more (drop n u) in
    let s : Splits (lines_text lines ++ (crlf ++ rest)) lines (crlf ++ rest) = stop_of_lines laws lines rest m.full in
    let are : lines_at u ≡ lines = ap lines_at (all ∙ append_assoc (lines_text lines) crlf rest) ∙ s.lines_are in
    let size : head_size u ≡ length w = ap (λ (l : List (List ℕ)). length (lines_text l) + 2) are ∙ sym (text_length lines) in
    let front : take (head_size u) u ≡ w = ap (λ m. take m u) size ∙ ap (take (length w)) all ∙ take_at w rest (length w) refl in
    let lv : length v ≡ length w + length k.more = ap length parts ∙ length-append w k.more in
    let lu : length u ≡ length w + length rest = ap length all ∙ length-append w rest in
    let most : length v ≤ n = length_most n u in
    record {
      there = omega arith;
      text = record {
        full = ap are_full are ∙ m.full;
        whole = front ∙ ap (λ (l : List (List ℕ)). lines_text l ++ crlf) (sym are);
        short = let l : length (take (head_size u) u) ≡ length w = ap length front in omega arith;
      };
    }

limited_whole : (n : ℕ) (f last : Front) (a b c : ℕ) → limited n f last ≡ Whole a b c → (f ≡ Whole a b c) ⊎ (last ≡ Whole a b c)
limited_whole n (Whole x y z) last a b c e = inl e
limited_whole n (Fault f) last a b c e = inl e
limited_whole n Need last a b c e = inr (at_last (ltb n head_limit) last e)
  where
    at_last : (t : Bool) (g : Front) → (if t then Need else at_limit g) ≡ Whole a b c → g ≡ Whole a b c
    at_last true g e = cc
    at_last false (Whole x y z) e = e
    at_last false Need e = cc
    at_last false (Fault f) e = cc

pub head_there : LineLaws → (u : List ℕ) (a b c : ℕ) → head_stop u ≡ Whole a b c → HasHead u
unfolding head_stop
head_there laws u a b c e =
    elim (limited_whole (length u) (stop_at (early u)) (stop_at (take head_limit u)) a b c e) [
      | inl p ↦ head_within laws (head_limit - 1) u a b c (omega arith) p
      | inr p ↦ head_within laws head_limit u a b c (omega arith) p
    ]

pub limited_fault : (n : ℕ) (f last : Front) (e : Errno) → limited n f last ≡ Fault e → (f ≡ Fault e) ⊎ ((head_limit ≤ n) × (f ≡ Need) × (at_limit last ≡ Fault e))
limited_fault n (Whole x y z) last e h = absurd (cc h)
limited_fault n (Fault f) last e h = inl h
limited_fault n Need last e h =
    elim (cases_lt n head_limit) [
      | inl l ↦ clash (sym (limited_short n Need last l) ∙ h)
      | inr l ↦ inr (l, refl, sym (limited_long n last l) ∙ h)
    ]
  where
    clash : {A : Type 0} → Need ≡ Fault e → A
    clash q = absurd (not_open e (sym q))

too_long_errno : (last : Front) (e : Errno) → at_limit last ≡ Fault e → e ≡ Emsgsize
too_long_errno (Whole a b c) e h = absurd (cc h)
too_long_errno Need e h = cc
too_long_errno (Fault f) e h = cc

-- a bad line among the bytes
bad_line_shown : LineLaws → (test : List (List ℕ) → Bool) (u : List ℕ) (e : Errno) → IsShown LineShows (behind (early u)) e → IsShown (HeadShows test) u e
bad_line_shown laws test u e k =
    let v = early u in
    let m : IsMade v = is_made laws v in
    let lines = lines_at v in
    let last = take k.count (behind v) in
    let w = lines_text lines ++ last in
    let count = length (lines_text lines) + k.count in
    let size : length last ≡ k.count = length-take-le k.count (behind v) k.there in
    let lw : length w ≡ length (lines_text lines) + length last = length-append (lines_text lines) last in
    let lv : length v ≡ length (lines_text lines) + length (behind v) = ap length m.whole ∙ length-append (lines_text lines) (behind v) in
    let most : length v ≤ head_limit - 1 = length_most (head_limit - 1) u in
    let lu : length u ≡ length v + length (drop (head_limit - 1) u) = ap length (sym (take-append-drop (head_limit - 1) u)) ∙ length-append v (drop (head_limit - 1) u) in
    let front : take count u ≡ w =
    ap (take count) (sym (take-append-drop (head_limit - 1) u)) ∙ take-append-le count v (drop (head_limit - 1) u) (omega (arith, k.there)) ∙ ap (take count) m.whole ∙ take-append-add (lines_text lines) (behind v) k.count in
    let s = k.shown in
    let whole : w ≡ (lines_text lines ++ s.before) ++ (s.byte ∷ []) = ap (λ x. lines_text lines ++ x) s.whole ∙ sym (append_assoc (lines_text lines) s.before (s.byte ∷ [])) in
    record {
      count = count;
      there = omega (arith, k.there);
      shown = subst (λ (x : List ℕ). HeadShows test e x) (sym front) (record {
        before = lines_text lines ++ s.before;
        byte = s.byte;
        whole = whole;
        led = record { lines = lines; last = s.before; full = m.full; cut = s.led; whole = refl };
        shown = inr (inl (record { lines = lines; last = last; full = m.full; shown = s; whole = refl; within = omega (arith, k.there) }));
      });
    }

too_long_shown : LineLaws → (test : List (List ℕ) → Bool) (u : List ℕ) (e : Errno) → head_limit ≤ length u → stop_at (early u) ≡ Need → at_limit (stop_at (take head_limit u)) ≡ Fault e → IsShown (HeadShows test) u e
too_long_shown laws test u e l need h =
    let v = early u in
    let m : IsMade v = is_made laws v in
    let w = take head_limit u in
    record {
      count = head_limit;
      there = l;
      shown = record {
        before = v;
        byte = get_or u (head_limit - 1) 0;
        whole = take_more u (head_limit - 1) 0 (omega arith);
        led = record { lines = lines_at v; last = behind v; full = m.full; cut = laws.open_ends (behind v) need; whole = m.whole };
        shown = inl (record {
          errno = too_long_errno (stop_at w) e h;
          all = length-take-le head_limit u l;
          endless = λ lines t.
              let ended : stop_at w ≡ Whole 0 0 2 = ap stop_at t.whole ∙ stops_there laws lines [] t.full in
              clash (sym h ∙ ap at_limit ended);
        });
      };
    }
  where
    clash : Fault e ≡ Whole 0 0 2 → ⊥
    clash q = cc q

-- where the lines of a head don't pass
bad_head_shown : (test : List (List ℕ) → Bool) (u : List ℕ) → HasHead u → test (lines_at u) ≡ false → IsShown (HeadShows test) u Eproto
bad_head_shown test u k fails =
    let lines = lines_at u in
    let half = lines_text lines ++ (13 ∷ []) in
    record {
      count = head_size u;
      there = k.there;
      shown = record {
        before = half;
        byte = 10;
        whole = k.text.whole ∙ sym (append_assoc (lines_text lines) (13 ∷ []) (10 ∷ []));
        led = half_head lines k.text.full;
        shown = inr (inr (record { errno = refl; lines = lines; text = k.text; fails = fails }));
      };
    }

pub judged_fault : (p : Bool) (n : ℕ) (f : Front) (e : Errno) → judged_by p n f ≡ Fault e → (f ≡ Fault e) ⊎ ((a : ℕ) × (b : ℕ) × (c : ℕ) × (f ≡ Whole a b c) × (p ≡ false) × (e ≡ Eproto))
judged_fault true n (Whole a b c) e h = absurd (cc h)
judged_fault false n (Whole a b c) e h = inr (a, b, c, refl, refl, cc)
judged_fault p n Need e h = absurd (cc h)
judged_fault p n (Fault f) e h = inl h

pub fault_shown : LineLaws → (test : List (List ℕ) → Bool) (u : List ℕ) (e : Errno) → IsFront LineSpells LineShows line_limit (behind (early u)) (stop_at (early u)) → head_front_by test u ≡ Fault e → IsShown (HeadShows test) u e
unfolding head_front_by head_stop
fault_shown laws test u e line h =
    elim (judged_fault (test (lines_at u)) (head_size u) (head_stop u) e h) [
      | inl p ↦ elim (limited_fault (length u) (stop_at (early u)) (stop_at (take head_limit u)) e p) [
        | inl q ↦ bad_line_shown laws test u e (subst (λ (f : Front). IsFront LineSpells LineShows line_limit (behind (early u)) f) q line)
        | inr q ↦ too_long_shown laws test u e q.0 q.1 q.2
      ]
      | inr p ↦ subst (λ (x : Errno). IsShown (HeadShows test) u x) (sym p.5) (bad_head_shown test u (head_there laws u p.0 p.1 p.2 p.3) p.4)
    ]

-- what is read as a whole head
pub record ReadsHead (test : List (List ℕ) → Bool) (u : List ℕ) (a b c : ℕ) : Type 0 where
  pub from : a ≡ 0
  pub to : b ≡ c
  pub there : c ≤ length u
  pub text : IsHeadText (lines_at u) (take c u)
  pub passes : test (lines_at u) ≡ true

judged_whole : (p : Bool) (n : ℕ) (f : Front) (a b c : ℕ) → judged_by p n f ≡ Whole a b c → (x : ℕ) × (y : ℕ) × (z : ℕ) × (f ≡ Whole x y z) × (p ≡ true) × (a ≡ 0) × (b ≡ n) × (c ≡ n)
judged_whole true n (Whole x y z) a b c h = (x, y, z, refl, refl, cc, cc, cc)
judged_whole false n (Whole x y z) a b c h = absurd (cc h)
judged_whole p n Need a b c h = absurd (cc h)
judged_whole p n (Fault f) a b c h = absurd (cc h)

pub whole_read : LineLaws → (test : List (List ℕ) → Bool) (u : List ℕ) (a b c : ℕ) → head_front_by test u ≡ Whole a b c → ReadsHead test u a b c
unfolding head_front_by
whole_read laws test u a b c h =
    let k = judged_whole (test (lines_at u)) (head_size u) (head_stop u) a b c h in
    let head : HasHead u = head_there laws u k.0 k.1 k.2 k.3 in
    record {
      from = k.5;
      to = k.6 ∙ sym k.7;
      there = omega (arith, k.7, head.there);
      text = subst (λ (n : ℕ). IsHeadText (lines_at u) (take n u)) (sym k.7) head.text;
      passes = k.4;
    }

-- what waits is below the limit
judged_need : (p : Bool) (n : ℕ) (f : Front) → judged_by p n f ≡ Need → f ≡ Need
judged_need true n (Whole x y z) h = absurd (cc h)
judged_need false n (Whole x y z) h = absurd (cc h)
judged_need p n Need h = refl
judged_need p n (Fault f) h = absurd (cc h)

limited_need : (n : ℕ) (f last : Front) → limited n f last ≡ Need → n < head_limit
limited_need n (Whole x y z) last h = absurd (cc h)
limited_need n (Fault f) last h = absurd (cc h)
limited_need n Need last h =
    elim (cases_lt n head_limit) [
      | inl l ↦ l
      | inr l ↦ never last (sym (limited_long n last l) ∙ h)
    ]
  where
    never : {A : Type 0} (g : Front) → at_limit g ≡ Need → A
    never (Whole x y z) h = absurd (cc h)
    never Need h = absurd (cc h)
    never (Fault f) h = absurd (cc h)

pub open_is_short : (test : List (List ℕ) → Bool) (u : List ℕ) → head_front_by test u ≡ Need → length u < head_limit
unfolding head_front_by head_stop
open_is_short test u h = limited_need (length u) (stop_at (early u)) (stop_at (take head_limit u)) (judged_need (test (lines_at u)) (head_size u) (head_stop u) h)

pub line_of_short : (u : List ℕ) (f : Front) → length u < head_limit → f ≡ stop_at u → IsFront LineSpells LineShows line_limit (behind u) f → HasLineFront u
line_of_short u f h e line =
    let all : early u ≡ u = take_all (head_limit - 1) u (omega arith) in
    subst (λ (x : List ℕ). IsFront LineSpells LineShows line_limit (behind x) (stop_at x)) (sym all) (subst (λ (g : Front). IsFront LineSpells LineShows line_limit (behind u) g) e line)

pub line_of_long : (u : List ℕ) (f : Front) → f ≡ stop_at (early u) → IsFront LineSpells LineShows line_limit (behind (early u)) f → HasLineFront u
line_of_long u f e line = subst (λ (g : Front). IsFront LineSpells LineShows line_limit (behind (early u)) g) e line

pub size_by_rest : LineLaws → (u : List ℕ) → length u ≡ length (lines_text (lines_at u)) + length (behind u)
size_by_rest laws u = ap length (is_made laws u).whole ∙ length-append (lines_text (lines_at u)) (behind u)

pub lines_again : LineLaws → (lines : List (List ℕ)) (w rest : List ℕ) → IsHeadText lines w → lines_at (w ++ rest) ≡ lines
lines_again laws lines w rest t = (head_found laws lines w rest t).lines_are
