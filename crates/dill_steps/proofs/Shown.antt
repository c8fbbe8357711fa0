-- What a turn leads to and shows, from what the code does of it.
use Rattle.std.proofs.Common.{◌≡◌, ◌∙◌, ℕ, ◌==◌, List, [], ◌∷◌, find, cond, Bool, true, false, ◌&&◌, Option, Some, None, if◌then◌else◌, MatchOption, refl, sym, ap, subst}
use Rattle.dill_calls.specs.declared.answer.Answer.{Answer}
use Rattle.dill_calls.specs.declared.answer.Answer.TheVariants.{Number}
use Rattle.dill_calls.specs.declared.word.Word.{Word}
use Rattle.dill_calls.specs.declared.word.Word.TheVariants.{Start}
use Rattle.dill_calls.specs.declared.body.Next.{Next}
use Rattle.dill_calls.specs.declared.body.Next.TheVariants as nexts
use Rattle.dill_calls.specs.declared.ran.LackPlace.{LackPlace}
use Rattle.dill_calls.specs.declared.ran.LackPlace.TheVariants.{Build, Entry}
use Rattle.dill_calls.specs.declared.ran.Ran.{Ran}
use Rattle.dill_calls.specs.Program.{Program, Move, Calls, Ends, Turns}
use Rattle.dill_base.specs.Maps.{if_some, change}
use Rattle.dill_plain.specs.Plain.{MovesPlain}
use Rattle.dill_rules.specs.declared.coroutine.Coroutine.{Coroutine}
use Rattle.dill_rules.specs.declared.coroutine.Mode.TheVariants as modes
use Rattle.dill_rules.specs.World.{World, is_coroutine, coroutine_of, with_mode, set_mode, begin}
use Rattle.dill_rules.specs.Entering.{entered, may_lack_entry}
use Rattle.dill_rules.specs.Settling.{settle}
use Rattle.dill_rules.specs.Turning.{is_build, is_entry, resume, may_lack_build, may_lack_move, make_move, lack_move, as_running, given_of, answer_given, go_on, turn, lack_met, shown}
use Rattle.dill_steps.specs.declared.turning.Went.{Went}
use Rattle.dill_steps.specs.Needs.{HasView}
use Rattle.dill_world.specs.Steps.{Resumed, WentOn}
use Rattle.dill_steps.specs.Turned.{MovesAs, IsPlainNext, MayGoOn, Meets, WentSo, Gone, gone_on, is_lack}
use Rattle.dill_steps.proofs.Going.{has_resumed}

module _ {V : Type 0} where
  pub plain_next : (p : Program V) (body view : V) (given : Answer) (next : Next) → MovesPlain (p.next body given) → Turns p body given view next → IsPlainNext next
  plain_next p body view given (nexts.Call call) m t = subst (λ x. MovesPlain x) t m
  plain_next p body view given (nexts.Lack word) m t = tt
  plain_next p body view given (nexts.End outcome) m t = tt

  moves_as : (p : Program V) (body view : V) (given : Answer) (next : Next) → Turns p body given view next → MovesAs next (p.next body given).1
  moves_as p body view given (nexts.Call call) t = ap (λ x. x.1) t
  moves_as p body view given (nexts.Lack word) t = (t.0, t.1)
  moves_as p body view given (nexts.End outcome) t = ap (λ x. x.1) t

  view_after : (p : Program V) (body view : V) (given : Answer) (next : Next) (b : Bool) → b ≡ is_lack next → Turns p body given view next → view ≡ (if b then p.short body given else (p.next body given).0)
  view_after p body view given (nexts.Call call) true e t = cc
  view_after p body view given (nexts.Call call) false e t = sym (ap (λ x. x.0) t)
  view_after p body view given (nexts.Lack word) true e t = t.2
  view_after p body view given (nexts.Lack word) false e t = cc
  view_after p body view given (nexts.End outcome) true e t = cc
  view_after p body view given (nexts.End outcome) false e t = sym (ap (λ x. x.0) t)

  went_on : (p : Program V) (old mid : World V) (who : ℕ) (given : Answer) (next : Next) (o : Option (Coroutine V)) (one : Coroutine V) → o ≡ Some one → MatchOption o ((Some next ≡ None) × (mid ≡ old)) (λ c. WentOn p c given (Some next) (λ view. mid ≡ resume old who view)) → (view : V) × Turns p one.body given view next × (mid ≡ resume old who view)
  went_on p old mid who given next None one e r = cc
  went_on p old mid who given next (Some c) one e r = let it : c ≡ one = cc in subst (λ x. (view : V) × Turns p x.body given view next × (mid ≡ resume old who view)) it r

  no_going : (p : Program V) (old mid : World V) (who : ℕ) (given : Answer) (o : Option (Coroutine V)) (one : Coroutine V) → o ≡ Some one → MatchOption o (◌≡◌ {A = Option Next} None None × (mid ≡ old)) (λ c. WentOn p c given None (λ view. mid ≡ resume old who view)) → ⊥
  no_going p old mid who given None one e r = cc
  no_going p old mid who given (Some c) one e r = r

  pub somebody : (p : Program V) (old mid : World V) (who : ℕ) (given : Answer) → MayGoOn p old who → Resumed p old mid who given None → ⊥
  somebody p old mid who given may r = no_going p old mid who given (coroutine_of old who) may.one may.found r

  next_plain_at : (p : Program V) (old mid : World V) (who : ℕ) (given : Answer) (next : Next) (one : Coroutine V) → MovesPlain (p.next one.body given) → (view : V) × Turns p one.body given view next × (mid ≡ resume old who view) → IsPlainNext next
  next_plain_at p old mid who given next one m w = plain_next p one.body w.0 given next m w.1

  -- the move that is made is plain
  pub goes_plainly : (p : Program V) (old mid : World V) (who : ℕ) (given : Answer) (next : Next) (may : MayGoOn p old who) → MovesPlain (p.next may.one.body given) → Resumed p old mid who given (Some next) → IsPlainNext next
  goes_plainly p old mid who given next may m r = next_plain_at p old mid who given next may.one m (went_on p old mid who given next (coroutine_of old who) may.one may.found r)

  -- who went on has gone on
  pub gone : (p : Program V) (old mid new : World V) (who : ℕ) (given : Answer) (next : Next) (went : Went) → MayGoOn p old who → Resumed p old mid who given (Some next) → ((view : V) (move : Move) → HasView mid who view → MovesAs next move → WentSo p mid new who view next move went) → Gone p old new who given went
  gone p old mid new who given next went may r h =
      let w : (view : V) × Turns p may.one.body given view next × (mid ≡ resume old who view) = went_on p old mid who given next (coroutine_of old who) may.one may.found r in
      let has : HasView mid who w.0 = subst (λ m. HasView m who w.0) (sym w.2) (has_resumed old who w.0 may.one may.found) in
      let so : WentSo p mid new who w.0 next (p.next may.one.body given).1 went = h w.0 (p.next may.one.body given).1 has (moves_as p may.one.body w.0 given next w.1) in
      record {
        one = may.one;
        found = may.found;
        view = w.0;
        next = next;
        moved = view_after p may.one.body w.0 given next (is_build went.lack) so.lacks w.1;
        so = subst (λ m. WentSo p m new who w.0 next (p.next may.one.body given).1 went) w.2 so;
      }

  go_by : (p : Program V) (lack : Option LackPlace) (w : World V) (who : ℕ) (view short : V) (n : V × Move) → view ≡ (if is_build lack then short else n.0) → Meets p (resume w who view) who view n.1 lack → gone_on p lack (resume w who view) who view n.1 ≡ (if is_build lack && may_lack_build n.1 then lack_move (resume w who short) who n.1 else make_move p (is_entry lack) (resume w who n.0) who n.0 n.1)
  go_by p None w who view short n e m = ap (λ v. make_move p false (resume w who v) who v n.1) e
  go_by p (Some Entry) w who view short n e m = ap (λ v. make_move p true (resume w who v) who v n.1) e
  go_by p (Some Build) w who view short n e m = rw m (ap (λ v. lack_move (resume w who v) who n.1) e)

  turn_found : (p : Program V) (lack : Option LackPlace) (w : World V) (who : ℕ) (o : Option (Coroutine V)) (one : Coroutine V) → o ≡ Some one → settle (go_on p lack (begin w) who one.body) ≡ if_some o w (λ c. settle (go_on p lack (begin w) who c.body))
  turn_found p lack w who None one e = cc
  turn_found p lack w who (Some c) one e = let it : one ≡ c = cc in ap (λ x. settle (go_on p lack (begin w) who x.body)) it

  -- where it has gone on and the world has settled, it had its turn
  pub turned : (p : Program V) (w mid new : World V) (who : ℕ) (went : Went) → Gone p (begin w) mid who (answer_given w who).1 went → new ≡ settle mid → new ≡ turn p went.lack w who
  turned p w mid new who went g e =
      let n = p.next g.one.body (answer_given w who).1 in
      let went_to : mid ≡ go_on p went.lack (begin w) who g.one.body = g.so.world ∙ go_by p went.lack (begin w) who g.view (p.short g.one.body (answer_given w who).1) n g.moved g.so.met in
      e ∙ ap settle went_to ∙ turn_found p went.lack w who (coroutine_of w who) g.one g.found

  met_at : (p : Program V) (lack : LackPlace) (w : World V) (who : ℕ) (view short x : V) (move : Move) → view ≡ (if is_build (Some lack) then short else x) → Meets p (resume (begin w) who view) who view move (Some lack) → may_lack_move p w who (x, move) lack ≡ true
  met_at p Build w who view short x (Calls call) e m = m
  met_at p Build w who view short x (Ends outcome) e m = cc
  met_at p Entry w who view short x (Calls call) e m = subst (λ v. may_lack_entry p (resume w who v) who v (entered w.moment call) ≡ true) e m
  met_at p Entry w who view short x (Ends outcome) e m = cc

  met_by : (p : Program V) (lack : Option LackPlace) (w : World V) (who : ℕ) (view short body : V) → view ≡ (if is_build lack then short else (p.next body (answer_given w who).1).0) → Meets p (resume (begin w) who view) who view (p.next body (answer_given w who).1).1 lack → lack_met p lack w who body ≡ lack
  met_by p None w who view short body e m = refl
  met_by p (Some place) w who view short body e m = rw (met_at p place w who view short (p.next body (answer_given w who).1).0 (p.next body (answer_given w who).1).1 e m) refl

  shown_at : (p : Program V) (w mid : World V) (who : ℕ) (went : Went) (g : Gone p (begin w) mid who (answer_given w who).1 went) → ◌≡◌ {A = Ran} (record { who = who; word = (answer_given w who).0; given = (answer_given w who).1; lack = went.lack; «end» = went.outcome; text = went.text }) (shown p went.lack w who g.one.body)
  shown_at p w mid who went g =
      let met : lack_met p went.lack w who g.one.body ≡ went.lack = met_by p went.lack w who g.view (p.short g.one.body (answer_given w who).1) g.one.body g.moved g.so.met in
      rw (met, g.so.ends, g.so.text) refl

  same_one : (a b : Option (Coroutine V)) (x y : Coroutine V) → a ≡ b → a ≡ Some x → b ≡ Some y → x ≡ y
  same_one a b x y e f g = cc

  -- what the code shows is what the turn shows
  pub shows : (p : Program V) (w mid : World V) (who : ℕ) (went : Went) (g : Gone p (begin w) mid who (answer_given w who).1 went) (view : V) → HasView w who view → ◌≡◌ {A = Ran} (record { who = who; word = (answer_given w who).0; given = (answer_given w who).1; lack = went.lack; «end» = went.outcome; text = went.text }) (shown p went.lack w who view)
  shows p w mid who went g view has =
      let it : g.one ≡ has.one = same_one (coroutine_of w who) (coroutine_of w who) g.one has.one refl g.found has.found in
      shown_at p w mid who went g ∙ ap (λ v. shown p went.lack w who v) (ap (λ c. c.body) it ∙ has.same)

  found_running : (b : Bool) (who : ℕ) (c : Coroutine V) (cs : List (Coroutine V)) (one : Coroutine V) → (c.number == who) ≡ b → cond b (Some c) (find (is_coroutine who) cs) ≡ Some one → (find (is_coroutine who) cs ≡ Some one → find (is_coroutine who) (change (is_coroutine who) (with_mode modes.Running) cs) ≡ Some (with_mode modes.Running one)) → find (is_coroutine who) (cond b (with_mode modes.Running c ∷ cs) (c ∷ change (is_coroutine who) (with_mode modes.Running) cs)) ≡ Some (with_mode modes.Running one)
  found_running true who c cs one e f h = let it : c ≡ one = cc in rw e (ap (λ d. Some (with_mode modes.Running d)) it)
  found_running false who c cs one e f h = rw e (h f)

  pub runs_still : (who : ℕ) (cs : List (Coroutine V)) (one : Coroutine V) → find (is_coroutine who) cs ≡ Some one → find (is_coroutine who) (change (is_coroutine who) (with_mode modes.Running) cs) ≡ Some (with_mode modes.Running one)
  runs_still who [] one e = cc
  runs_still who (c ∷ cs) one e = found_running (c.number == who) who c cs one refl e (runs_still who cs one)

  twice_at : (b : Bool) (who : ℕ) (view : V) (c : Coroutine V) (cs : List (Coroutine V)) → (c.number == who) ≡ b → change (is_coroutine who) (as_running view) (change (is_coroutine who) (with_mode modes.Running) cs) ≡ change (is_coroutine who) (as_running view) cs → change (is_coroutine who) (as_running view) (cond b (with_mode modes.Running c ∷ cs) (c ∷ change (is_coroutine who) (with_mode modes.Running) cs)) ≡ cond b (as_running view c ∷ cs) (c ∷ change (is_coroutine who) (as_running view) cs)
  twice_at true who view c cs e h = rw e refl
  twice_at false who view c cs e h = rw e (ap (λ ds. c ∷ ds) h)

  twice : (who : ℕ) (view : V) (cs : List (Coroutine V)) → change (is_coroutine who) (as_running view) (change (is_coroutine who) (with_mode modes.Running) cs) ≡ change (is_coroutine who) (as_running view) cs
  twice who view [] = refl
  twice who view (c ∷ cs) = twice_at (c.number == who) who view c cs refl (twice who view cs)

  -- who makes its call may go on
  pub may_still : (p : Program V) (w : World V) (who : ℕ) → MayGoOn p w who → MayGoOn p (set_mode w who modes.Running) who
  may_still p w who may = record { one = with_mode modes.Running may.one; found = runs_still who w.coroutines may.one may.found; real = may.real; some = may.some }

  -- .. and has gone on as from its answer
  pub gone_before : (p : Program V) (w mid : World V) (who : ℕ) (given : Answer) (went : Went) → MayGoOn p w who → Gone p (set_mode w who modes.Running) mid who given went → Gone p w mid who given went
  gone_before p w mid who given went may g =
      let o = coroutine_of (set_mode w who modes.Running) who in
      let same : g.one ≡ with_mode modes.Running may.one = same_one o o g.one (with_mode modes.Running may.one) refl g.found (runs_still who w.coroutines may.one may.found) in
      let body : g.one.body ≡ may.one.body = ap (λ c. c.body) same in
      let world : resume (set_mode w who modes.Running) who g.view ≡ resume w who g.view = ap (λ cs. record w { coroutines = cs }) (twice who g.view w.coroutines) in
      record {
        one = may.one;
        found = may.found;
        view = g.view;
        next = g.next;
        moved = subst (λ b. g.view ≡ (if is_build went.lack then p.short b given else (p.next b given).0)) body g.moved;
        so = subst (λ b. WentSo p (resume w who g.view) mid who g.view g.next (p.next b given).1 went) body (subst (λ v. WentSo p v mid who g.view g.next (p.next g.one.body given).1 went) world g.so);
      }

  -- what was taken is what it is given
  pub taken_is : (w : World V) (who : ℕ) (word : Word) (given twin : Answer) (o : Option (Coroutine V)) → o ≡ coroutine_of w who → ◌≡◌ {A = Option (Word × Answer × Answer)} (Some (word, given, twin)) (if_some o None (λ c. Some ((given_of c.mode).0, (given_of c.mode).1, (given_of c.mode).1))) → (word ≡ (answer_given w who).0) × (given ≡ (answer_given w who).1) × (twin ≡ (answer_given w who).1)
  taken_is w who word given twin None e f = cc
  taken_is w who word given twin (Some c) e f =
      let it : (answer_given w who) ≡ given_of c.mode = ap (λ (q : Option (Coroutine V)). if_some q (Start, Number 0) (λ d. given_of d.mode)) (sym e) in
      let x : ◌≡◌ {A = Word × Answer × Answer} (word, given, twin) ((given_of c.mode).0, (given_of c.mode).1, (given_of c.mode).1) = cc in
      (ap (λ y. y.0) x ∙ ap (λ y. y.0) (sym it), ap (λ y. y.1) x ∙ ap (λ y. y.1) (sym it), ap (λ y. y.2) x ∙ ap (λ y. y.1) (sym it))

  -- who is there has an answer that is taken
  pub taken_some : (w : World V) (who : ℕ) (o : Option (Coroutine V)) (one : Coroutine V) → o ≡ Some one → ◌≡◌ {A = Option (Word × Answer × Answer)} None (if_some o None (λ c. Some ((given_of c.mode).0, (given_of c.mode).1, (given_of c.mode).1))) → ⊥
  taken_some w who None one e f = cc
  taken_some w who (Some c) one e f = cc
