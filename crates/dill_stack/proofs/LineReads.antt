-- A receive of a line is answered by what stands at the front.
use Rattle.std.proofs.Common.{◌≡◌, ◌⊎◌, inl, inr, ◌≤◌, ◌-◌, [], ◌∷◌, ◌++◌, List, ℕ, length, take, drop, arith, sym, ap, ◌∙◌, refl, subst, Bool, true, false, ◌&&◌, append_assoc, length-append, length-take, Option, Some, None, if◌then◌else◌}
use Rattle.std.specs.Prelude.{◌==◌}
use Rattle.std.proofs.lemmas.Bool.{false≢true, eqb-true}
use Rattle.std.proofs.lemmas.List.{take-append-drop, length-take-le}
use Rattle.std.proofs.Math.Seq.{take-append_seam}
use Rattle.dill_base.specs.declared.errno.Errno.{Errno}
use Rattle.dill_base.specs.declared.errno.Errno.TheVariants.{Epipe, Eproto, Emsgsize}
use Rattle.dill_base.specs.declared.errno.Front.{Front}
use Rattle.dill_base.specs.declared.errno.Front.TheVariants as front
use Rattle.dill_base.specs.Reading.{IsFront, IsWhole, IsShown}
use Rattle.dill_calls.specs.declared.answer.Answer.{Answer}
use Rattle.dill_calls.specs.declared.answer.Answer.TheVariants.{Two, Coded}
use Rattle.dill_http.specs.declared.span.Span.{Span}
use Rattle.dill_http.specs.declared.span.Cut.{Cut}
use Rattle.dill_http.specs.Heads.{LineReads}
use Rattle.dill_http.specs.Heads as says
use Rattle.dill_http.specs.Laws.{LineLaws, HeadLaws}
use Rattle.dill_http.specs.Lines.{line_limit, crlf, LineSpells, LineShows, IsCutLine, shown_at, is_over, is_stray, front_of_line}
use Rattle.dill_http.specs.Reading.{IsCut, IsStatusCut, part, request_cut, status_cut, field_cut}
use Rattle.dill_stack.specs.declared.want.Want.{Want}
use Rattle.dill_stack.specs.declared.want.Want.TheVariants.{Exact, Message, Request, Status, Field}
use Rattle.dill_stack.specs.declared.want.ReadOut.TheVariants.{Given, Need, Fault}
use Rattle.dill_stack.specs.Layers.{Place, Placed, Http, HttpLayer, BeforeFirst, AmongFields, BehindEmpty, is_first, is_behind}
use Rattle.dill_stack.specs.Read.{Outcome, outcome, no_more, two_of, coded_of, line_answer, ends_fields, received, given_line, by_line, read_line}
use Rattle.dill_stack.specs.LineReading.{LineStands, Says, MisreadStands, IsBoundary, LineReadLaws}

no_answer : {A : Type 0} → false ≡ true → A
no_answer e = absurd (false≢true e)

-- ---- what a line says

says_answer : (h : HeadLaws) (want : Want) (line : List ℕ) (answer : Answer) → Says want line answer → line_answer want line ≡ Some answer
says_answer h (Exact n) line answer s = absurd s
says_answer h (Message n) line answer s = absurd s
says_answer h Request line answer s =
    let f = h.request_found line s.0 s.1 s.2 in
    ap (two_of line) f.found_it ∙ ap (λ a. Some (Two a (part line f.cut.second))) f.holds_first ∙ ap (λ b. Some (Two s.0 b)) f.holds_second ∙ ap Some (sym s.3)
says_answer h Status line answer s =
    let f = h.status_found line s.0 s.1 s.2 in
    ap (coded_of line) f.found_it ∙ ap (λ b. Some (Coded s.0 b)) f.holds ∙ ap Some (sym s.3)
says_answer h Field line answer s =
    let f = h.field_found line s.0 s.1 s.2 in
    ap (two_of line) f.found_it ∙ ap (λ a. Some (Two a (part line f.cut.second))) f.holds_first ∙ ap (λ b. Some (Two s.0 b)) f.holds_second ∙ ap Some (sym s.3)

answer_says : (h : HeadLaws) (want : Want) (line : List ℕ) (answer : Answer) → line_answer want line ≡ Some answer → Says want line answer
answer_says h (Exact n) line answer e = cc
answer_says h (Message n) line answer e = cc
answer_says h Request line answer e = by (request_cut line) (h.request_read line) e
  where
    by : (o : Option Cut) → IsCut says.Request line o → two_of line o ≡ Some answer → Says Request line answer
    by None k q = cc
    by (Some cut) k q = (part line cut.first, part line cut.second, k.reads, cc)
answer_says h Status line answer e = by (status_cut line) (h.status_read line) e
  where
    by : (o : Option (ℕ × Span)) → IsStatusCut line o → coded_of line o ≡ Some answer → Says Status line answer
    by None k q = cc
    by (Some status) k q = (status.0, part line status.1, k.reads, cc)
answer_says h Field line answer e = by (field_cut line) (h.field_read line) e
  where
    by : (o : Option Cut) → IsCut says.Field line o → two_of line o ≡ Some answer → Says Field line answer
    by None k q = cc
    by (Some cut) k q = (part line cut.first, part line cut.second, k.reads, cc)

none_says : (h : HeadLaws) (want : Want) (line : List ℕ) → line_answer want line ≡ None → (answer : Answer) → Says want line answer → ⊥
none_says h want line e answer s = never (sym e ∙ says_answer h want line answer s)
  where
    never : ◌≡◌ {A = Option Answer} None (Some answer) → ⊥
    never q = cc

-- a line that says something isn't the empty one
says_more : (want : Want) (line : List ℕ) (answer : Answer) → Says want line answer → ends_fields want line ≡ false
says_more (Exact n) line answer s = absurd s
says_more (Message n) line answer s = absurd s
says_more Request line answer s = refl
says_more Status line answer s = refl
says_more Field line answer s = by (length line == 0) refl
  where
    size : 1 ≤ length line
    size = omega (arith, ap length s.2.whole, length-append s.0 (58 ∷ s.2.before ++ (s.1 ++ s.2.after)))

    by : (b : Bool) → (length line == 0) ≡ b → b ≡ false
    by true e = let zero : length line ≡ 0 = eqb-true (length line) 0 e in absurd (omega (arith, zero, size))
    by false e = refl

pub empty_of : (line : List ℕ) → (length line == 0) ≡ true → line ≡ []
empty_of [] e = refl
empty_of (x ∷ line) e = let zero : length (x ∷ line) ≡ 0 = eqb-true (length (x ∷ line)) 0 e in absurd (omega (arith, zero))

ends_true : (want : Want) (line : List ℕ) → ends_fields want line ≡ true → (want ≡ Field) × (line ≡ [])
ends_true (Exact n) line e = cc
ends_true (Message n) line e = cc
ends_true Request line e = cc
ends_true Status line e = cc
ends_true Field line e = (refl, empty_of line e)

-- ---- what stands at the front

-- what a line at the front comes to
abbrev line_read : Want → HttpLayer → List Placed → List ℕ → ℕ → Outcome
line_read want http below line n = if ends_fields want line then outcome n (received BehindEmpty http ∷ below) (Fault Epipe) else given_line http below n (line_answer want line)

pub line_at : (l : LineLaws) (u line : List ℕ) (n : ℕ) → LineStands u line n → (front_of_line u ≡ front.Whole 0 (length line) n) × (take (length line - 0) (drop 0 u) ≡ line)
line_at l u line n s =
    let size : length (take n u) ≡ n = length-take-le n u s.there in
    let whole : take n u ++ drop n u ≡ u = take-append-drop n u in
    let parts : u ≡ line ++ (crlf ++ drop n u) = sym whole ∙ ap (λ w. w ++ drop n u) s.spelled.whole ∙ append_assoc line crlf (drop n u) in
    let none : length line - 0 ≡ length line = omega arith in (
      ap front_of_line (sym whole) ∙ l.again line (take n u) (drop n u) s.spelled s.short ∙ ap (front.Whole 0 (length line)) size,
      ap (λ k. take k u) none ∙ ap (take (length line)) parts ∙ take-append_seam line (crlf ++ drop n u),
    )

not_behind : (want : Want) (http : HttpLayer) (below : List Placed) (u : List ℕ) (ended : Bool) → is_behind http.receiving ≡ false → read_line want (Http http ∷ below) u ended ≡ by_line want http below u ended (front_of_line u)
not_behind want http below u ended e = ap (λ b. if b then outcome 0 (Http http ∷ below) (Fault Epipe) else by_line want http below u ended (front_of_line u)) e

at_front : (want : Want) (http : HttpLayer) (below : List Placed) (u : List ℕ) (ended : Bool) (f : Front) → is_behind http.receiving ≡ false → front_of_line u ≡ f → read_line want (Http http ∷ below) u ended ≡ by_line want http below u ended f
at_front want http below u ended f e r = not_behind want http below u ended e ∙ ap (by_line want http below u ended) r

stands_read : (l : LineLaws) (want : Want) (http : HttpLayer) (below : List Placed) (u line : List ℕ) (n : ℕ) (ended : Bool) → is_behind http.receiving ≡ false → LineStands u line n → read_line want (Http http ∷ below) u ended ≡ line_read want http below line n
stands_read l want http below u line n ended e s =
    let at = line_at l u line n s in
    at_front want http below u ended (front.Whole 0 (length line) n) e at.0 ∙ ap (λ x. line_read want http below x n) at.1

pub whole_stands : (l : LineLaws) (u : List ℕ) (from to used : ℕ) → front_of_line u ≡ front.Whole from to used → LineStands u (take (to - from) (drop from u)) used
whole_stands l u from to used e =
    let w : IsWhole LineSpells line_limit u from to used = subst (IsFront LineSpells LineShows line_limit u) e (l.front u) in
    record { there = w.there; short = omega (arith, w.short, length-take (to - from) (drop from u)); spelled = w.spelled }

given_fault : {A : Type 0} (a : Answer) (x : Errno) → Fault x ≡ Given a → A
given_fault a x e = absurd (never e)
  where
    never : Fault x ≡ Given a → ⊥
    never e = cc

fault_need : {A : Type 0} (x : Errno) → Fault x ≡ Need → A
fault_need x e = absurd (never e)
  where
    never : Fault x ≡ Need → ⊥
    never e = cc

same_fault : (x e : Errno) → Fault x ≡ Fault e → x ≡ e
same_fault x e q = cc

proto_pipe : {A : Type 0} → Fault Eproto ≡ Fault Epipe → A
proto_pipe e = absurd (never e)
  where
    never : Fault Eproto ≡ Fault Epipe → ⊥
    never e = cc

-- ---- the answers

gives_line : (l : LineLaws) (h : HeadLaws) (want : Want) (http : HttpLayer) (below : List Placed) (u line : List ℕ) (n : ℕ) (answer : Answer) (ended : Bool) → is_behind http.receiving ≡ false → LineStands u line n → Says want line answer
    → read_line want (Http http ∷ below) u ended ≡ outcome n (received AmongFields http ∷ below) (Given answer)
gives_line l h want http below u line n answer ended e s k =
    stands_read l want http below u line n ended e s
    ∙ ap (λ b. if b then outcome n (received BehindEmpty http ∷ below) (Fault Epipe) else given_line http below n (line_answer want line)) (says_more want line answer k)
    ∙ ap (given_line http below n) (says_answer h want line answer k)

-- where an answer that is a fault comes from no line, an end or a refusal
more_given : (ended boundary : Bool) (u : List ℕ) (a : Answer) → no_more ended boundary u ≡ Given a → ⊥
more_given false boundary u a e = cc
more_given true boundary u a e = by (boundary && length u == 0) e
  where
    by : (b : Bool) → (if b then Fault Epipe else Fault Eproto) ≡ Given a → ⊥
    by true q = cc
    by false q = cc

given_of : (h : HeadLaws) (want : Want) (http : HttpLayer) (below : List Placed) (u line : List ℕ) (n : ℕ) (answer : Answer) → LineStands u line n → (line_read want http below line n).said ≡ Given answer → (x : List ℕ) × LineStands u x (line_read want http below line n).used × Says want x answer
given_of h want http below u line n answer s e = by (ends_fields want line) (line_answer want line) refl e
  where
    by : (b : Bool) (o : Option Answer) → line_answer want line ≡ o → (if b then outcome n (received BehindEmpty http ∷ below) (Fault Epipe) else given_line http below n o).said ≡ Given answer
        → (x : List ℕ) × LineStands u x (if b then outcome n (received BehindEmpty http ∷ below) (Fault Epipe) else given_line http below n o).used × Says want x answer
    by true o r q = given_fault answer Epipe q
    by false None r q = given_fault answer Eproto q
    by false (Some a) r q = let same : a ≡ answer = cc in (line, s, answer_says h want line answer (r ∙ ap Some same))

given_line_told : (l : LineLaws) (h : HeadLaws) (want : Want) (http : HttpLayer) (below : List Placed) (u : List ℕ) (answer : Answer) (ended : Bool) → (read_line want (Http http ∷ below) u ended).said ≡ Given answer
    → (line : List ℕ) × LineStands u line (read_line want (Http http ∷ below) u ended).used × Says want line answer
given_line_told l h want http below u answer ended e = by (is_behind http.receiving) e
  where
    front_told : (f : Front) → front_of_line u ≡ f → (by_line want http below u ended f).said ≡ Given answer → (line : List ℕ) × LineStands u line (by_line want http below u ended f).used × Says want line answer
    front_told (front.Whole from to used) r q = given_of h want http below u (take (to - from) (drop from u)) used answer (whole_stands l u from to used r) q
    front_told front.Need r q = absurd (more_given ended (is_first http.receiving) u answer q)
    front_told (front.Fault x) r q = given_fault answer x q

    by : (b : Bool) → (if b then outcome 0 (Http http ∷ below) (Fault Epipe) else by_line want http below u ended (front_of_line u)).said ≡ Given answer
        → (line : List ℕ) × LineStands u line (if b then outcome 0 (Http http ∷ below) (Fault Epipe) else by_line want http below u ended (front_of_line u)).used × Says want line answer
    by true q = given_fault answer Epipe q
    by false q = front_told (front_of_line u) refl q

ends_line : (l : LineLaws) (http : HttpLayer) (below : List Placed) (u : List ℕ) (n : ℕ) (ended : Bool) → is_behind http.receiving ≡ false → LineStands u [] n → read_line Field (Http http ∷ below) u ended ≡ outcome n (received BehindEmpty http ∷ below) (Fault Epipe)
ends_line l http below u n ended e s = stands_read l Field http below u [] n ended e s

behind_line : (want : Want) (http : HttpLayer) (below : List Placed) (u : List ℕ) (ended : Bool) → is_behind http.receiving ≡ true → read_line want (Http http ∷ below) u ended ≡ outcome 0 (Http http ∷ below) (Fault Epipe)
behind_line want http below u ended e = ap (λ b. if b then outcome 0 (Http http ∷ below) (Fault Epipe) else by_line want http below u ended (front_of_line u)) e

first_not_behind : (p : Place) → is_first p ≡ true → is_behind p ≡ false
first_not_behind BeforeFirst e = refl
first_not_behind AmongFields e = cc
first_not_behind BehindEmpty e = cc

pub empty_front : front_of_line [] ≡ front.Need
unfolding front_of_line
empty_front = refl

over_line : (want : Want) (http : HttpLayer) (below : List Placed) (u : List ℕ) → IsBoundary http u → read_line want (Http http ∷ below) u true ≡ outcome 0 (Http http ∷ below) (Fault Epipe)
over_line want http below u b =
    ap (λ x. read_line want (Http http ∷ below) x true) b.1
    ∙ at_front want http below [] true front.Need (first_not_behind http.receiving b.0) empty_front
    ∙ ap (λ f. outcome 0 (Http http ∷ below) (no_more true f [])) b.0

-- the end of the list, inside or at a boundary
more_end : (http : HttpLayer) (u : List ℕ) (ended : Bool) → no_more ended (is_first http.receiving) u ≡ Fault Epipe → (ended ≡ true) × IsBoundary http u
more_end http u false e = cc
more_end http u true e = by (is_first http.receiving) (length u == 0) refl refl e
  where
    by : (a b : Bool) → is_first http.receiving ≡ a → (length u == 0) ≡ b → (if a && b then Fault Epipe else Fault Eproto) ≡ Fault Epipe → (true ≡ true) × IsBoundary http u
    by true true p q r = (refl, (p, empty_of u q))
    by true false p q r = cc
    by false b p q r = cc

ended_of : (want : Want) (http : HttpLayer) (below : List Placed) (u line : List ℕ) (n : ℕ) → LineStands u line n → (line_read want http below line n).said ≡ Fault Epipe → (want ≡ Field) × LineStands u [] (line_read want http below line n).used
ended_of want http below u line n s e = by (ends_fields want line) (line_answer want line) refl e
  where
    by : (b : Bool) (o : Option Answer) → ends_fields want line ≡ b → (if b then outcome n (received BehindEmpty http ∷ below) (Fault Epipe) else given_line http below n o).said ≡ Fault Epipe
        → (want ≡ Field) × LineStands u [] (if b then outcome n (received BehindEmpty http ∷ below) (Fault Epipe) else given_line http below n o).used
    by true o r q = let k = ends_true want line r in (k.0, subst (λ x. LineStands u x n) k.1 s)
    by false None r q = proto_pipe q
    by false (Some a) r q = given_fault a Epipe (sym q)

-- a byte shows one of two refusals
says_errno : (before : List ℕ) (byte : ℕ) (e : Errno) → shown_at before byte ≡ Some e → (e ≡ Emsgsize) ⊎ (e ≡ Eproto)
says_errno before byte e q = by (is_over before byte) (is_stray before byte) q
  where
    by : (a b : Bool) → (if a then Some Emsgsize else (if b then Some Eproto else None)) ≡ Some e → (e ≡ Emsgsize) ⊎ (e ≡ Eproto)
    by true b r = inl cc
    by false true r = inr cc
    by false false r = cc

ended_line : (l : LineLaws) (want : Want) (http : HttpLayer) (below : List Placed) (u : List ℕ) (ended : Bool) → (read_line want (Http http ∷ below) u ended).said ≡ Fault Epipe
    → (is_behind http.receiving ≡ true) ⊎ (((want ≡ Field) × LineStands u [] (read_line want (Http http ∷ below) u ended).used) ⊎ ((ended ≡ true) × IsBoundary http u))
ended_line l want http below u ended e = by (is_behind http.receiving) refl e
  where
    shown_not : (x : Errno) → front_of_line u ≡ front.Fault x → Fault x ≡ Fault Epipe → ⊥
    shown_not x r q =
        let k : IsShown LineShows u x = subst (IsFront LineSpells LineShows line_limit u) r (l.front u) in
        errno (says_errno k.shown.before k.shown.byte x k.shown.shown) (same_fault x Epipe q)
      where
        errno : (x ≡ Emsgsize) ⊎ (x ≡ Eproto) → x ≡ Epipe → ⊥
        errno (inl a) b = let c : Emsgsize ≡ Epipe = sym a ∙ b in cc
        errno (inr a) b = let c : Eproto ≡ Epipe = sym a ∙ b in cc

    front_told : (f : Front) → front_of_line u ≡ f → (by_line want http below u ended f).said ≡ Fault Epipe → ((want ≡ Field) × LineStands u [] (by_line want http below u ended f).used) ⊎ ((ended ≡ true) × IsBoundary http u)
    front_told (front.Whole from to used) r q = inl (ended_of want http below u (take (to - from) (drop from u)) used (whole_stands l u from to used r) q)
    front_told front.Need r q = inr (more_end http u ended q)
    front_told (front.Fault x) r q = absurd (shown_not x r q)

    by : (b : Bool) → is_behind http.receiving ≡ b → (if b then outcome 0 (Http http ∷ below) (Fault Epipe) else by_line want http below u ended (front_of_line u)).said ≡ Fault Epipe
        → (is_behind http.receiving ≡ true) ⊎ (((want ≡ Field) × LineStands u [] (if b then outcome 0 (Http http ∷ below) (Fault Epipe) else by_line want http below u ended (front_of_line u)).used) ⊎ ((ended ≡ true) × IsBoundary http u))
    by true p q = inl p
    by false p q = inr (front_told (front_of_line u) refl q)

refuses_line : (l : LineLaws) (want : Want) (http : HttpLayer) (below : List Placed) (u : List ℕ) (e : Errno) (ended : Bool) → is_behind http.receiving ≡ false → IsShown LineShows u e → read_line want (Http http ∷ below) u ended ≡ outcome 0 (Http http ∷ below) (Fault e)
refuses_line l want http below u e ended p k =
    at_front want http below u ended (front.Fault e) p (ap front_of_line (sym (take-append-drop k.count u)) ∙ l.refused e (take k.count u) (drop k.count u) k.shown)

misreads_line : (l : LineLaws) (h : HeadLaws) (want : Want) (http : HttpLayer) (below : List Placed) (u : List ℕ) (ended : Bool) → is_behind http.receiving ≡ false → MisreadStands want u → read_line want (Http http ∷ below) u ended ≡ outcome 0 (Http http ∷ below) (Fault Eproto)
misreads_line l h want http below u ended p k = stands_read l want http below u k.line k.size ended p k.stands ∙ by (ends_fields want k.line) (line_answer want k.line) refl refl
  where
    by : (b : Bool) (o : Option Answer) → ends_fields want k.line ≡ b → line_answer want k.line ≡ o → (if b then outcome k.size (received BehindEmpty http ∷ below) (Fault Epipe) else given_line http below k.size o) ≡ outcome 0 (Http http ∷ below) (Fault Eproto)
    by true o q r = let x = ends_true want k.line q in absurd (k.misread.unended x.0 x.1)
    by false (Some a) q r = absurd (k.misread.unsaid a (answer_says h want k.line a r))
    by false None q r = refl

open_line : (l : LineLaws) (want : Want) (http : HttpLayer) (below : List Placed) (u : List ℕ) (ended : Bool) → is_behind http.receiving ≡ false → IsCutLine u → read_line want (Http http ∷ below) u ended ≡ outcome 0 (Http http ∷ below) (no_more ended (is_first http.receiving) u)
open_line l want http below u ended p k = at_front want http below u ended front.Need p (l.cut_waits u k)

cuts_line : (l : LineLaws) (want : Want) (http : HttpLayer) (below : List Placed) (u : List ℕ) → is_behind http.receiving ≡ false → IsCutLine u → (IsBoundary http u → ⊥) → read_line want (Http http ∷ below) u true ≡ outcome 0 (Http http ∷ below) (Fault Eproto)
cuts_line l want http below u p k n = open_line l want http below u true p k ∙ by (is_first http.receiving) (length u == 0) refl refl
  where
    by : (a b : Bool) → is_first http.receiving ≡ a → (length u == 0) ≡ b → outcome 0 (Http http ∷ below) (if a && b then Fault Epipe else Fault Eproto) ≡ outcome 0 (Http http ∷ below) (Fault Eproto)
    by true true q r = absurd (n (q, empty_of u r))
    by true false q r = refl
    by false b q r = refl

refused_of : (h : HeadLaws) (want : Want) (http : HttpLayer) (below : List Placed) (u line : List ℕ) (n : ℕ) (e : Errno) → LineStands u line n → (e ≡ Epipe → ⊥) → (line_read want http below line n).said ≡ Fault e → (e ≡ Eproto) × MisreadStands want u
refused_of h want http below u line n e s m q = by (ends_fields want line) (line_answer want line) refl refl q
  where
    by : (b : Bool) (o : Option Answer) → ends_fields want line ≡ b → line_answer want line ≡ o → (if b then outcome n (received BehindEmpty http ∷ below) (Fault Epipe) else given_line http below n o).said ≡ Fault e → (e ≡ Eproto) × MisreadStands want u
    by true o p r x = absurd (m (sym (same_fault Epipe e x)))
    by false (Some a) p r x = given_fault a e (sym x)
    by false None p r x = (
      sym (same_fault Eproto e x),
      record {
        line = line;
        size = n;
        stands = s;
        misread = record {
          unsaid = none_says h want line r;
          unended = λ f z. no_answer (sym p ∙ ap (λ w. ends_fields w line) f ∙ ap (λ (t : List ℕ). length t == 0) z);
        };
      },
    )

refused_line : (l : LineLaws) (h : HeadLaws) (want : Want) (http : HttpLayer) (below : List Placed) (u : List ℕ) (e : Errno) (ended : Bool) → (e ≡ Epipe → ⊥) → (read_line want (Http http ∷ below) u ended).said ≡ Fault e
    → IsShown LineShows u e ⊎ ((e ≡ Eproto) × (MisreadStands want u ⊎ ((ended ≡ true) × IsCutLine u × (IsBoundary http u → ⊥))))
refused_line l h want http below u e ended m q = by (is_behind http.receiving) q
  where
    at_more : IsCutLine u → (c : Bool) → ended ≡ c → no_more c (is_first http.receiving) u ≡ Fault e → (e ≡ Eproto) × (ended ≡ true) × IsCutLine u × (IsBoundary http u → ⊥)
    at_more k false r x = fault_need e (sym x)
    at_more k true r x = over (is_first http.receiving) (length u == 0) refl refl x
      where
        over : (a b : Bool) → is_first http.receiving ≡ a → (length u == 0) ≡ b → (if a && b then Fault Epipe else Fault Eproto) ≡ Fault e → (e ≡ Eproto) × (ended ≡ true) × IsCutLine u × (IsBoundary http u → ⊥)
        over true true p z y = absurd (m (sym (same_fault Epipe e y)))
        over true false p z y = (sym (same_fault Eproto e y), r, k, λ w. no_answer (sym z ∙ ap (λ (t : List ℕ). length t == 0) w.1))
        over false b p z y = (sym (same_fault Eproto e y), r, k, λ w. no_answer (sym p ∙ w.0))

    front_told : (f : Front) → front_of_line u ≡ f → (by_line want http below u ended f).said ≡ Fault e → IsShown LineShows u e ⊎ ((e ≡ Eproto) × (MisreadStands want u ⊎ ((ended ≡ true) × IsCutLine u × (IsBoundary http u → ⊥))))
    front_told (front.Whole from to used) r x = let k = refused_of h want http below u (take (to - from) (drop from u)) used e (whole_stands l u from to used r) m x in inr (k.0, inl k.1)
    front_told front.Need r x = let k = at_more (l.open_ends u r) ended refl x in inr (k.0, inr (k.1, k.2, k.3))
    front_told (front.Fault y) r x =
        let same : y ≡ e = same_fault y e x in
        inl (subst (IsFront LineSpells LineShows line_limit u) (r ∙ ap front.Fault same) (l.front u))

    by : (b : Bool) → (if b then outcome 0 (Http http ∷ below) (Fault Epipe) else by_line want http below u ended (front_of_line u)).said ≡ Fault e → IsShown LineShows u e ⊎ ((e ≡ Eproto) × (MisreadStands want u ⊎ ((ended ≡ true) × IsCutLine u × (IsBoundary http u → ⊥))))
    by true x = absurd (m (sym (same_fault Epipe e x)))
    by false x = front_told (front_of_line u) refl x

needs_line : (l : LineLaws) (want : Want) (http : HttpLayer) (below : List Placed) (u : List ℕ) (ended : Bool) → (read_line want (Http http ∷ below) u ended).said ≡ Need → (ended ≡ false) × (is_behind http.receiving ≡ false) × IsCutLine u
needs_line l want http below u ended q = by (is_behind http.receiving) refl q
  where
    unended : (c : Bool) → no_more c (is_first http.receiving) u ≡ Need → c ≡ false
    unended false x = refl
    unended true x = over (is_first http.receiving && length u == 0) x
      where
        over : (a : Bool) → (if a then Fault Epipe else Fault Eproto) ≡ Need → true ≡ false
        over true y = fault_need Epipe y
        over false y = fault_need Eproto y

    no_line : (line : List ℕ) (n : ℕ) → (line_read want http below line n).said ≡ Need → ⊥
    no_line line n x = over (ends_fields want line) (line_answer want line) x
      where
        over : (a : Bool) (o : Option Answer) → (if a then outcome n (received BehindEmpty http ∷ below) (Fault Epipe) else given_line http below n o).said ≡ Need → ⊥
        over true o y = fault_need Epipe y
        over false None y = fault_need Eproto y
        over false (Some a) y = cc

    front_told : (f : Front) → front_of_line u ≡ f → (by_line want http below u ended f).said ≡ Need → (ended ≡ false) × IsCutLine u
    front_told (front.Whole from to used) r x = absurd (no_line (take (to - from) (drop from u)) used x)
    front_told front.Need r x = (unended ended x, l.open_ends u r)
    front_told (front.Fault y) r x = fault_need y x

    by : (b : Bool) → is_behind http.receiving ≡ b → (if b then outcome 0 (Http http ∷ below) (Fault Epipe) else by_line want http below u ended (front_of_line u)).said ≡ Need → (ended ≡ false) × (is_behind http.receiving ≡ false) × IsCutLine u
    by true p x = fault_need Epipe x
    by false p x = let k = front_told (front_of_line u) refl x in (k.0, p, k.1)

pub line_read_laws : LineLaws → HeadLaws → LineReadLaws
line_read_laws l h = record {
  gives = gives_line l h;
  given = given_line_told l h;
  ends = ends_line l;
  behind = behind_line;
  over = over_line;
  ended = ended_line l;
  refuses = refuses_line l;
  misreads = misreads_line l h;
  cuts = cuts_line l;
  refused = refused_line l h;
  waits = λ want http below u p k. open_line l want http below u false p k;
  needs = needs_line l;
}
