-- What comes later changes no head that was judged.
use Rattle.std.proofs.Common.{◌≡◌, ◌<◌, ◌≤◌, ◌+◌, ◌-◌, ◌++◌, ◌∷◌, [], ◌⊎◌, inl, inr, ℕ, List, Bool, true, length, take, drop, arith, sym, ap, ◌∙◌, refl, subst, append_assoc, length-append, take-append-drop}
use Rattle.std.proofs.lemmas.Bool.{cases_lt}
use Rattle.std.proofs.lemmas.List.{take-append-le, length-take-le, append-nil, take_all}
use Rattle.dill_base.specs.declared.errno.Errno.{Errno}
use Rattle.dill_base.specs.declared.errno.Front.{Front}
use Rattle.dill_base.specs.declared.errno.Front.TheVariants as front
use Rattle.dill_http.specs.Lines.{front_of_line}
use Rattle.dill_http.specs.Laws.{LineLaws}
use Rattle.dill_ws.specs.declared.request.Asked.{Asked}
use Rattle.dill_ws.specs.declared.request.Asked.TheVariants.{Whole, Need}
use Rattle.dill_ws.specs.HeadLines.{lines_text, lines_at, behind, head_limit, head_stop, head_size, head_front_by, at_limit, IsHeadText}
use Rattle.dill_ws.specs.Offers.{client_asks, server_agrees, key_of}
use Rattle.dill_ws.specs.Handshakes.{ClientHead, ServerHead, asked_by, client_front, server_front}
use Rattle.dill_ws.specs.HandshakeLaws.{IsAnswered, IsJudged}
use Rattle.dill_ws.proofs.Texts.{Splits, split_text, IsMade, is_made, no_line_bad}
use Rattle.dill_ws.proofs.HeadReads.{early, stop_at, stop_settled, stop_late, not_open, front_part, ReadsHead, whole_read, passing_again, failing_again, front_of_fault, HasHead, head_there, lines_again, judged_fault, limited_fault, open_is_short}

early_more : (u v : List ℕ) → length u < head_limit → early (u ++ v) ≡ early u ++ take (head_limit - 1 - length u) v
early_more u v h = front_part (head_limit - 1) u v (omega arith) ∙ ap (λ x. x ++ take (head_limit - 1 - length u) v) (sym (take_all (head_limit - 1) u (omega arith)))

bad_more : LineLaws → (u v : List ℕ) (e : Errno) → stop_at u ≡ front.Fault e → stop_at (u ++ v) ≡ front.Fault e
bad_more laws u v e h =
    let m : IsMade u = is_made laws u in
    let grouped : u ++ v ≡ lines_text (lines_at u) ++ (behind u ++ v) = ap (λ x. x ++ v) m.whole ∙ append_assoc (lines_text (lines_at u)) (behind u) v in
    let bad : front_of_line (behind u ++ v) ≡ front.Fault e = laws.stays (behind u) v (front.Fault e) h tt in
    let s : Splits (lines_text (lines_at u) ++ (behind u ++ v)) (lines_at u) (behind u ++ v) = split_text laws (lines_at u) (behind u ++ v) m.full (no_line_bad (behind u ++ v) e bad) in
    ap stop_at grouped ∙ ap front_of_line s.behind_is ∙ bad

early_bad : LineLaws → (u v : List ℕ) (e : Errno) → (length u < head_limit) ⊎ (head_limit ≤ length u) → stop_at (early u) ≡ front.Fault e → head_stop (u ++ v) ≡ front.Fault e
early_bad laws u v e (inl l) h = stop_settled (u ++ v) (front.Fault e) (ap stop_at (early_more u v l) ∙ bad_more laws (early u) (take (head_limit - 1 - length u) v) e h) (not_open e)
early_bad laws u v e (inr l) h = stop_settled (u ++ v) (front.Fault e) (ap stop_at (take-append-le (head_limit - 1) u v (omega arith)) ∙ h) (not_open e)

late_bad : (u v : List ℕ) (e : Errno) → head_limit ≤ length u → stop_at (early u) ≡ front.Need → at_limit (stop_at (take head_limit u)) ≡ front.Fault e → head_stop (u ++ v) ≡ front.Fault e
late_bad u v e l n h =
    let count : length (u ++ v) ≡ length u + length v = length-append u v in
    stop_late (u ++ v) (omega arith) (ap stop_at (take-append-le (head_limit - 1) u v (omega arith)) ∙ n) ∙ ap (λ x. at_limit (stop_at x)) (take-append-le head_limit u v l) ∙ h

whole_stays : LineLaws → (test : List (List ℕ) → Bool) (u v : List ℕ) (a b c : ℕ) → head_front_by test u ≡ front.Whole a b c → head_front_by test (u ++ v) ≡ front.Whole a b c
whole_stays laws test u v a b c h =
    let k : ReadsHead test u a b c = whole_read laws test u a b c h in
    let parts : u ++ v ≡ take c u ++ (drop c u ++ v) = ap (λ x. x ++ v) (sym (take-append-drop c u)) ∙ append_assoc (take c u) (drop c u) v in
    let count : length (take c u) ≡ c = length-take-le c u k.there in
    ap (head_front_by test) parts ∙ passing_again laws test (lines_at u) (take c u) (drop c u ++ v) k.text k.passes ∙ same 0 a (length (take c u)) b (length (take c u)) c (sym k.from) (count ∙ sym k.to) count
  where
    same : (x p y q z r : ℕ) → x ≡ p → y ≡ q → z ≡ r → front.Whole x y z ≡ front.Whole p q r
    same x p y q z r i j k = cc

fault_stays : LineLaws → (test : List (List ℕ) → Bool) (u v : List ℕ) (e : Errno) → head_front_by test u ≡ front.Fault e → head_front_by test (u ++ v) ≡ front.Fault e
unfolding head_front_by head_stop
fault_stays laws test u v e h =
    elim (judged_fault (test (lines_at u)) (head_size u) (head_stop u) e h) [
      | inl p ↦ front_of_fault test (u ++ v) e (elim (limited_fault (length u) (stop_at (early u)) (stop_at (take head_limit u)) e p) [
        | inl q ↦ early_bad laws u v e (cases_lt (length u) head_limit) q
        | inr q ↦ late_bad u v e q.0 q.1 q.2
      ])
      | inr p ↦
          let k : HasHead u = head_there laws u p.0 p.1 p.2 p.3 in
          let size = head_size u in
          let parts : u ++ v ≡ take size u ++ (drop size u ++ v) = ap (λ x. x ++ v) (sym (take-append-drop size u)) ∙ append_assoc (take size u) (drop size u) v in
          ap (head_front_by test) parts ∙ failing_again laws test (lines_at u) (take size u) (drop size u ++ v) k.text p.4 ∙ sym (ap front.Fault p.5)
    ]

pub head_stays : LineLaws → (test : List (List ℕ) → Bool) (u v : List ℕ) (f : Front) → head_front_by test u ≡ f → IsJudged f → head_front_by test (u ++ v) ≡ f
head_stays laws test u v (front.Whole a b c) h j = whole_stays laws test u v a b c h
head_stays laws test u v front.Need h j = absurd j
head_stays laws test u v (front.Fault e) h j = fault_stays laws test u v e h

pub server_stays : LineLaws → (accept u v : List ℕ) (f : Front) → server_front accept u ≡ f → IsJudged f → server_front accept (u ++ v) ≡ f
unfolding server_front
server_stays laws accept u v f h j = head_stays laws (server_agrees accept) u v f h j

lines_stay : LineLaws → (test : List (List ℕ) → Bool) (u v : List ℕ) (a b c : ℕ) → head_front_by test u ≡ front.Whole a b c → lines_at (u ++ v) ≡ lines_at u
lines_stay laws test u v a b c h =
    let k : ReadsHead test u a b c = whole_read laws test u a b c h in
    let parts : u ++ v ≡ take c u ++ (drop c u ++ v) = ap (λ x. x ++ v) (sym (take-append-drop c u)) ∙ append_assoc (take c u) (drop c u) v in
    ap lines_at parts ∙ lines_again laws (lines_at u) (take c u) (drop c u ++ v) k.text

asked_stays : LineLaws → (u v : List ℕ) (g : Front) (f : Asked) → head_front_by client_asks u ≡ g → asked_by (key_of (lines_at u)) g ≡ f → IsAnswered f → asked_by (key_of (lines_at (u ++ v))) (head_front_by client_asks (u ++ v)) ≡ f
asked_stays laws u v (front.Whole a b c) f h e j =
    ap (λ g. asked_by (key_of (lines_at (u ++ v))) g) (whole_stays laws client_asks u v a b c h)
    ∙ ap (λ (l : List (List ℕ)). Whole (key_of l) c) (lines_stay laws client_asks u v a b c h) ∙ e
asked_stays laws u v front.Need f h e j = absurd (subst IsAnswered (sym e) j)
asked_stays laws u v (front.Fault x) f h e j = ap (λ g. asked_by (key_of (lines_at (u ++ v))) g) (fault_stays laws client_asks u v x h) ∙ e

pub client_stays : LineLaws → (u v : List ℕ) (f : Asked) → client_front u ≡ f → IsAnswered f → client_front (u ++ v) ≡ f
unfolding client_front
client_stays laws u v f h j = asked_stays laws u v (head_front_by client_asks u) f refl h j

asked_there : LineLaws → (u key word : List ℕ) (used : ℕ) (g : Front) → head_front_by client_asks u ≡ g → asked_by word g ≡ Whole key used → used ≤ length u
asked_there laws u key word used (front.Whole a b c) h e =
    let same : c ≡ used = cc in
    let there : c ≤ length u = (whole_read laws client_asks u a b c h).there in
    omega (arith, same, there)
asked_there laws u key word used front.Need h e = absurd (cc e)
asked_there laws u key word used (front.Fault x) h e = absurd (cc e)

pub client_there : LineLaws → (u key : List ℕ) (used : ℕ) → client_front u ≡ Whole key used → used ≤ length u
unfolding client_front
client_there laws u key used h = asked_there laws u key (key_of (lines_at u)) used (head_front_by client_asks u) refl h

asked_need : (key : List ℕ) (g : Front) → asked_by key g ≡ Need → g ≡ front.Need
asked_need key (front.Whole a b c) h = absurd (cc h)
asked_need key front.Need h = refl
asked_need key (front.Fault e) h = absurd (cc h)

pub client_waits : (u : List ℕ) → client_front u ≡ Need → length u < head_limit
unfolding client_front
client_waits u h = open_is_short client_asks u (asked_need (key_of (lines_at u)) (head_front_by client_asks u) h)

pub server_waits : (accept u : List ℕ) → server_front accept u ≡ front.Need → length u < head_limit
unfolding server_front
server_waits accept u h = open_is_short (server_agrees accept) u h

nothing_more : (w rest : List ℕ) → length w ≡ length (w ++ rest) → rest ≡ []
nothing_more w rest h = nothing rest (omega (arith, length-append w rest))
  where
    nothing : (xs : List ℕ) → length xs ≡ 0 → xs ≡ []
    nothing [] h = refl
    nothing (x ∷ xs) h = absurd (omega arith)

-- the lines of a head end where it does
ends_alone : LineLaws → (lines others : List (List ℕ)) (w rest : List ℕ) → IsHeadText lines w → IsHeadText others (w ++ rest) → rest ≡ []
ends_alone laws lines others w rest t s =
    let a : head_front_by (λ x. true) (w ++ rest) ≡ front.Whole 0 (length w) (length w) = passing_again laws (λ x. true) lines w rest t refl in
    let b : head_front_by (λ x. true) ((w ++ rest) ++ []) ≡ front.Whole 0 (length (w ++ rest)) (length (w ++ rest)) = passing_again laws (λ x. true) others (w ++ rest) [] s refl in
    let c : head_front_by (λ x. true) ((w ++ rest) ++ []) ≡ head_front_by (λ x. true) (w ++ rest) = ap (head_front_by (λ x. true)) (append-nil (w ++ rest)) in
    nothing_more w rest (used_same (length w) (length (w ++ rest)) (sym a ∙ sym c ∙ b))
  where
    used_same : (n m : ℕ) → front.Whole 0 n n ≡ front.Whole 0 m m → n ≡ m
    used_same n m h = cc

pub client_free : LineLaws → (key other w rest : List ℕ) → ClientHead key w → ClientHead other (w ++ rest) → rest ≡ []
client_free laws key other w rest f g = ends_alone laws f.lines g.lines w rest f.text g.text

pub server_free : LineLaws → (accept other w rest : List ℕ) → ServerHead accept w → ServerHead other (w ++ rest) → rest ≡ []
server_free laws accept other w rest f g = ends_alone laws f.lines g.lines w rest f.text g.text
