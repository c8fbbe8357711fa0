-- A turn: the coroutine whose turn it is goes on from its answer, and is left waiting or answered, or it ends.
use Rattle.std.proofs.Common.{◌≡◌, ◌∙◌, ◌+◌, ◌≤◌, ◌==◌, ℕ, List, [], ◌∷◌, find, Bool, true, false, ◌&&◌, cond, Option, Some, None, if◌then◌else◌, refl, sym, ap, subst, arith}
use Rattle.std.specs.List.{AllByRecursion}
use Rattle.dill_base.specs.declared.errno.Errno.{Errno}
use Rattle.dill_calls.specs.declared.answer.Answer.{Answer}
use Rattle.dill_calls.specs.declared.answer.Answer.TheVariants.{Number, Fault}
use Rattle.dill_calls.specs.declared.call.Call.{Call}
use Rattle.dill_calls.specs.declared.ran.LackPlace.{LackPlace}
use Rattle.dill_calls.specs.declared.word.Word.{Word}
use Rattle.dill_calls.specs.declared.word.Word.TheVariants.{Start}
use Rattle.dill_calls.specs.CallTable.{word_of, build_takes_memory}
use Rattle.dill_calls.specs.Program.{Program, Move, Calls, Ends, IsLawful, Lowers, PassesWell, Moves, GoesOn}
use Rattle.dill_base.specs.Maps.{if_some, change}
use Rattle.dill_rules.specs.declared.coroutine.Coroutine.{Coroutine}
use Rattle.dill_rules.specs.declared.coroutine.Mode.TheVariants as modes
use Rattle.dill_rules.specs.World.{World, begin, is_coroutine, coroutine_of, call_of, with_mode, reply, pending_call}
use Rattle.dill_rules.specs.Taking.{is_cancelled}
use Rattle.dill_rules.specs.Entering.{entered, lack_fault}
use Rattle.dill_rules.specs.Settling.{end}
use Rattle.dill_rules.specs.Turning.{given_of, is_build, is_entry, as_running, may_lack_build, resume, answer_given, make_move, lack_move, go_on}
use Rattle.laws_sound.specs.Linkless.{MovesLinkless, MakesLinkless}
use Rattle.laws_queue.specs.Well.{Numbered}
use Rattle.laws_queue.proofs.Crew.{close_all_crew}
use Rattle.laws_sound.proofs.Turns.{entered_linkless}
use Rattle.laws_debt.proofs.Entering.{linkless_waits, bare_waits, word_entered, entered_passes, lack_lowers, refusal_lowers, unrefused_lowers, starts_nobody}
use Rattle.laws_debt.proofs.Evolving.{EvolvesCalm}
use Rattle.laws_queue.proofs.Evolving.{turns}
use Rattle.laws_debt.proofs.Walking.{Sits, AllSit, MaySay, change_calls, Leads, Enters, reply_calm, enter_calm}
use Rattle.laws_queue.proofs.Stepping.{Runs}
use Rattle.dill_rules.specs.Naming.{bears}
use Rattle.dill_rules.specs.Refusals.{refuse}
use Rattle.laws_queue.proofs.Lists.{all_change, number_of, some_same, above_other}
use Rattle.laws_queue.proofs.Numbers.{found_changed}
use Rattle.laws_sound.specs.Orderly.{weigh}

-- the answer that is given is that of who has the turn
pub given_is : {V : Type 0} (w : World V) (who : ℕ) (c : Coroutine V) → coroutine_of w who ≡ Some c → answer_given (begin w) who ≡ given_of c.mode
given_is w who c e = ap (λ o. if_some o (Start, Number 0) (λ d. given_of d.mode)) e

pub sits_resumed : {V : Type 0} (p : Program V) (w : World V) (who : ℕ) (view : V) (c : Coroutine V) → coroutine_of w who ≡ Some c → AllSit p w.coroutines → AllSit p (resume w who view).coroutines
sits_resumed p w who view c e a = all_change (Sits p) (is_coroutine who) (as_running view) c w.coroutines e (refl, tt) a

module _ {V : Type 0} (p : Program V) (law : IsLawful p) (calm : ℕ → Bool) where
  -- how a coroutine went on from its answer
  pub data Went (w : World V) (who : ℕ) (c : Coroutine V) (answer : Answer) (v : World V) : Type 0 where
    -- by a call
    called : (word : Word) (view : V) → GoesOn p c.body answer word view → Leads p calm (resume w who view) v → Went w who c answer v
    -- it is ending
    ended : (view : V) (outcome : Option Errno) → v.coroutines ≡ change (is_coroutine who) (with_mode (modes.Ending outcome)) (resume w who view).coroutines → v.last_coroutine ≡ w.last_coroutine → Went w who c answer v

  -- who goes on, of whom nobody calm is born, and who is cancelled where it is calm
  pub record MayGo (w : World V) (who : ℕ) (c : Coroutine V) : Type 0 where
    pub found : coroutine_of w who ≡ Some c
    pub real : p.real c.body ≡ true
    pub cancelled : calm who ≡ true → is_cancelled w who ≡ true
    pub born : calm who ≡ false → calm (w.last_coroutine + 1) ≡ false
    pub sits : AllSit p w.coroutines
    -- whoever is pending isn't calm, or what it is answered lowers
    pub met : (other : ℕ) (its : Call) (answer : Answer) → call_of w other ≡ Some its → calm other ≡ true → Lowers (word_of its) answer

  resumed : (w : World V) (who : ℕ) (view : V) (c : Coroutine V) → coroutine_of w who ≡ Some c → coroutine_of (resume w who view) who ≡ Some (as_running view c)
  resumed w who view c e = found_changed (is_coroutine who) (as_running view) c w.coroutines (λ d. refl) e

  runs_resumed : (w : World V) (who : ℕ) (view : V) (word : Word) (c : Coroutine V) → coroutine_of w who ≡ Some c → p.said view ≡ word → Runs (MaySay p) (resume w who view) who word
  runs_resumed w who view word c e s = record { one = as_running view c; found = resumed w who view c e; may = (refl, s) }

  from_move : (lack : Option LackPlace) (w : World V) (who : ℕ) (c : Coroutine V) (answer : Answer) (next : V × Move) → MayGo w who c → Moves p c.body answer next → MovesLinkless next → Went w who c answer (if is_build lack && may_lack_build next.1 then lack_move (resume w who (p.short c.body answer)) who next.1 else make_move p (is_entry lack) (resume w who next.0) who next.0 next.1)
  from_move lack w who c answer (new, Calls call) g m linkless = at (is_build lack && build_takes_memory (word_of call))
    where
      here : World V
      here = resume w who new

      now : Call
      now = entered w.moment call

      passes : PassesWell now
      passes = entered_passes w.moment call m.0

      uncalm : (b : Bool) → calm who ≡ b → bears (word_of now) ≡ true → refuse p here who new now ≡ None → calm (here.last_coroutine + 1) ≡ false
      uncalm true q e f = absurd (starts_nobody p here who new now (g.cancelled q) e f)
      uncalm false q e f = g.born q

      enters : Enters p calm here who new now
      enters = record {
        runs = runs_resumed w who new (word_of now) c g.found (m.1.said ∙ sym (word_entered w.moment call));
        idle = ap (λ o. if_some o None (λ d. pending_call d.mode)) (resumed w who new c g.found);
        real = m.1.real;
        refused = λ e f q. refusal_lowers p here who new now (g.cancelled q) passes e f;
        low = λ f a q. unrefused_lowers p here who new now (g.cancelled q) passes f a;
        births = λ f e. uncalm (calm who) refl e f;
        waiting = linkless_waits now (entered_linkless w.moment call linkless);
        waiting_bare = bare_waits now;
        each = sits_resumed p w who new c g.found g.sits;
        met = λ other its a e. g.met other its a (change_calls other who (λ d. new) modes.Running its w.coroutines refl e);
      }

      at : (b : Bool) → Went w who c answer (if b then reply (resume w who (p.short c.body answer)) who (word_of call) (Fault (lack_fault (resume w who (p.short c.body answer)) who (word_of call))) else make_move p (is_entry lack) (resume w who new) who new (Calls call))
      at true =
          called (word_of call) (p.short c.body answer) m.2
          (reply_calm p calm (resume w who (p.short c.body answer)) who (word_of call) (Fault (lack_fault (resume w who (p.short c.body answer)) who (word_of call))) (runs_resumed w who (p.short c.body answer) (word_of call) c g.found m.2.said) (λ e. lack_lowers p (resume w who (p.short c.body answer)) who (p.short c.body answer) call (g.cancelled e) m.0))
      at false =
          called (word_of call) new m.1
          (enter_calm p calm law (is_entry lack) (resume w who new) who new (entered w.moment call) enters)
  from_move lack w who c answer (new, Ends outcome) g m linkless = at (is_build lack)
    where
      over : Went w who c answer (end (resume w who new) who outcome)
      over =
          let same = close_all_crew (resume w who new) who in
          ended new outcome (ap (change (is_coroutine who) (with_mode (modes.Ending outcome))) same.coroutines) same.last

      at : (b : Bool) → Went w who c answer (if b && false then resume w who (p.short c.body answer) else make_move p (is_entry lack) (resume w who new) who new (Ends outcome))
      at true = over
      at false = over

  pub go_on_went : (lack : Option LackPlace) (w : World V) (who : ℕ) (c : Coroutine V) → MakesLinkless p → 1 ≤ p.left c.body → MayGo w who c → Went w who c (answer_given w who).1 (go_on p lack w who c.body)
  go_on_went lack w who c unlinked some g =
      let answer = (answer_given w who).1 in
      from_move lack w who c answer (p.next c.body answer) g (law.moves c.body answer g.real some) (unlinked c.body answer g.real some)

  -- however it went on, the coroutines changed as told from its view on
  pub went_leads : (w : World V) (who : ℕ) (c : Coroutine V) (answer : Answer) (v : World V) → coroutine_of w who ≡ Some c → Went w who c answer v → (view : V) × Leads p calm (resume w who view) v
  went_leads w who c answer v e (called word view g l) = (view, l)
  went_leads w who c answer v e (ended view outcome f g) =
      let over = change (is_coroutine who) (with_mode (modes.Ending outcome)) (resume w who view).coroutines in
      let here = resumed w who view c e in
      let moved : EvolvesCalm p calm (resume w who view).coroutines w.last_coroutine over w.last_coroutine = turns who (modes.Ending outcome) (as_running view c) here (refl, tt) in
      let same : EvolvesCalm p calm (resume w who view).coroutines w.last_coroutine v.coroutines v.last_coroutine = subst (λ cs. EvolvesCalm p calm (resume w who view).coroutines w.last_coroutine cs v.last_coroutine) (sym f) (subst (λ n. EvolvesCalm p calm (resume w who view).coroutines w.last_coroutine over n) (sym g) moved) in
      (view, same)

module _ {V : Type 0} (who : ℕ) (view : V) where
  below : (P Q : Coroutine V → Type 0) (cs : List (Coroutine V)) (low high : ℕ) → who ≤ low → Numbered low cs high → ((x : Coroutine V) → (x.number == who) ≡ false → P x → Q x) → AllByRecursion P cs → AllByRecursion Q cs
  below P Q [] low high l n h a = tt
  below P Q (c ∷ cs) low high l n h a =
      let m = n.0 in
      (h c (above_other low c.number who m l) a.0, below P Q cs c.number high (omega (arith, l, m)) n.1 h a.1)

  -- what holds of each behind the turn, of the others by what held before
  pub all_resumed : (P Q : Coroutine V → Type 0) (cs : List (Coroutine V)) (low high : ℕ) → Numbered low cs high → ((x : Coroutine V) → (x.number == who) ≡ false → P x → Q x) → ((x : Coroutine V) → (x.number == who) ≡ true → Q (as_running view x)) → AllByRecursion P cs → AllByRecursion Q (change (is_coroutine who) (as_running view) cs)
  all_resumed P Q [] low high n h g a = tt
  all_resumed P Q (c ∷ cs) low high n h g a = at (c.number == who) refl (all_resumed P Q cs c.number high n.1 h g a.1)
    where
      at : (b : Bool) → (c.number == who) ≡ b → AllByRecursion Q (change (is_coroutine who) (as_running view) cs) → AllByRecursion Q (cond b (as_running view c ∷ cs) (c ∷ change (is_coroutine who) (as_running view) cs))
      at true i rest =
          let same = number_of c.number who i in
          (g c i, below P Q cs c.number high (omega (arith, same)) n.1 h a.1)
      at false i rest = (h c i a.0, rest)

  same_below : (f g : Coroutine V → ℕ) (cs : List (Coroutine V)) (low high : ℕ) → who ≤ low → Numbered low cs high → ((x : Coroutine V) → (x.number == who) ≡ false → g x ≡ f x) → weigh g cs ≡ weigh f cs
  same_below f g [] low high l n h = refl
  same_below f g (c ∷ cs) low high l n h =
      let m = n.0 in
      let one = h c (above_other low c.number who m l) in
      let rest = same_below f g cs c.number high (omega (arith, l, m)) n.1 h in
      omega (arith, one, rest)

  -- a sum behind the turn, to which each other adds as before
  pub total_resumed : (f g : Coroutine V → ℕ) (c : Coroutine V) (cs : List (Coroutine V)) (low high : ℕ) → Numbered low cs high → find (is_coroutine who) cs ≡ Some c → ((x : Coroutine V) → (x.number == who) ≡ false → g x ≡ f x) → weigh g (change (is_coroutine who) (as_running view) cs) + f c ≡ weigh f cs + g (as_running view c)
  total_resumed f g c [] low high n e h = cc
  total_resumed f g c (x ∷ cs) low high n e h = at (x.number == who) refl e (λ d. total_resumed f g c cs x.number high n.1 d h)
    where
      at : (b : Bool) → (x.number == who) ≡ b → cond b (Some x) (find (is_coroutine who) cs) ≡ Some c → (find (is_coroutine who) cs ≡ Some c → weigh g (change (is_coroutine who) (as_running view) cs) + f c ≡ weigh f cs + g (as_running view c)) → weigh g (cond b (as_running view x ∷ cs) (x ∷ change (is_coroutine who) (as_running view) cs)) + f c ≡ f x + weigh f cs + g (as_running view c)
      at true i d rest =
          let it = some_same x c d in
          let same = number_of x.number who i in
          let others = same_below f g cs x.number high (omega (arith, same)) n.1 h in
          let one : f x ≡ f c = ap f it in
          let two : g (as_running view x) ≡ g (as_running view c) = ap (λ y. g (as_running view y)) it in
          omega (arith, others, one, two)
      at false i d rest = let r = rest d in let one = h x i in omega (arith, r, one)
