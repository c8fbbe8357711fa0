-- The one walk over coroutines, where what the calm are answered lowers: every call, settling and expiring go so.
use Rattle.std.proofs.Common.{◌≡◌, ◌∙◌, ℕ, List, [], ◌∷◌, find, Bool, true, false, cond, Option, Some, None, refl, sym, ap}
use Rattle.std.specs.List.{AllByRecursion}
use Rattle.dill_calls.specs.declared.answer.Answer.{Answer}
use Rattle.dill_calls.specs.declared.call.Call.{Call}
use Rattle.dill_calls.specs.declared.call.Call.TheVariants as calls
use Rattle.dill_calls.specs.declared.word.Word.{Word}
use Rattle.dill_calls.specs.declared.word.Word.TheVariants as words
use Rattle.dill_calls.specs.CallTable.{word_of}
use Rattle.dill_calls.specs.Program.{Program, IsLawful, Lowers}
use Rattle.dill_base.specs.Maps.{if_some, change}
use Rattle.dill_rules.specs.declared.coroutine.Coroutine.{Coroutine}
use Rattle.dill_rules.specs.declared.coroutine.Mode.{Mode}
use Rattle.dill_rules.specs.declared.coroutine.Mode.TheVariants as modes
use Rattle.dill_rules.specs.World.{World, is_coroutine, coroutine_of, call_of, with_mode, reply, pending_call, is_ending}
use Rattle.dill_rules.specs.Owning.{is_dead_as, free_bundle}
use Rattle.dill_rules.specs.Taking.{is_cancelled}
use Rattle.dill_rules.specs.Entering.{late_answer, enter}
use Rattle.dill_rules.specs.Expiring.{expire_one}
use Rattle.dill_rules.specs.Giving.{give}
use Rattle.dill_rules.specs.Settling.{settle_one, settle}
use Rattle.laws_sound.specs.Linkless.{may_wait, waits_linkless}
use Rattle.laws_queue.specs.Well.{Numbered}
use Rattle.laws_debt.specs.Says.{SaysIn, Says}
use Rattle.laws_queue.proofs.Crew.{free_dead_crew}
use Rattle.laws_queue.proofs.Lists.{some_same, all_found}
use Rattle.laws_queue.proofs.Stepping as walk
use Rattle.laws_queue.proofs.Stepping.{Manner, Runs, runs_crew, LeadsBy, crew_leads, leads_then, some_leads, leads_all, leads_numbered, pending_runs, reply_leads, enter_leads, DueAt, settle_one_leads, settle_leads}
use Rattle.laws_debt.proofs.Entering.{start_only, answer_lowers}
use Rattle.laws_debt.proofs.Evolving.{Suits, TurnsTo, Anybody, IsOther}

pub unlike : {A : Type 0} (b : Bool) → b ≡ false → b ≡ true → A
unlike true e f = cc
unlike false e f = cc

-- it waits in a call that may, and what its program made last is that call or the one that it is answered
abbrev pub Sits : {V : Type 0} → Program V → Coroutine V → Type 0
Sits p c = (waits_linkless c ≡ true) × Says p c

abbrev pub AllSit : {V : Type 0} → Program V → List (Coroutine V) → Type 0
AllSit p cs = AllByRecursion (Sits p) cs

-- it isn't ending, and its program made a call of this word last
abbrev pub MaySay : {V : Type 0} → Program V → Coroutine V → Word → Type 0
MaySay p c word = (is_ending c.mode ≡ false) × (p.said c.body ≡ word)

-- an answer of who is calm lowers
abbrev pub LowersCalm : (ℕ → Bool) → ℕ → Word → Answer → Type 0
LowersCalm calm who word answer = calm who ≡ true → Lowers word answer

abbrev pub MayWait : Call → Type 0
MayWait call = may_wait call ≡ true

pending_some : (mode : Mode) (said : Word) (call : Call) → pending_call mode ≡ Some call → if_some (pending_call mode) true may_wait ≡ true → SaysIn said mode → (is_ending mode ≡ false) × (may_wait call ≡ true) × (said ≡ word_of call)
pending_some (modes.Pending other) said call e m s = let it = some_same other call e in (refl, ap may_wait (sym it) ∙ m, s ∙ ap word_of it)
pending_some modes.Running said call e m s = cc
pending_some (modes.Fresh word answer) said call e m s = cc
pending_some (modes.Answered word answer) said call e m s = cc
pending_some (modes.Ending outcome) said call e m s = cc

module _ {V : Type 0} (p : Program V) (calm : ℕ → Bool) where
  suits_sits : (c : Coroutine V) (mode : Mode) → Suits p calm c mode → Sits p (with_mode mode c)
  suits_sits c (modes.Pending call) s = (s.0, s.1)
  suits_sits c modes.Running s = absurd s
  suits_sits c (modes.Fresh word answer) s = (refl, s.0)
  suits_sits c (modes.Answered word answer) s = absurd s
  suits_sits c (modes.Ending outcome) s = (refl, tt)

  pub calmly : Manner p (TurnsTo p calm) Anybody (IsOther calm) (MaySay p) (LowersCalm calm) MayWait (Sits p)
  calmly = record {
    answers = λ c word answer r l. (r.0, (r.1, l));
    pends = λ c call r k. (r.0, (k, r.1));
    still_answered = λ c word its answer r. (refl, r.1);
    still_pends = λ c word call r. (refl, r.1);
    of_call = λ c call a e. let s = pending_some c.mode (p.said c.body) call e a.0 a.1 in (s.0, s.2);
    moved = λ c mode q a. suits_sits c mode q.1;
    born = λ number view b q. (refl, start_only (p.said view) b.start);
    gone = λ c e. tt;
  }

  -- the coroutines of one world evolve to those of the other
  abbrev pub Leads : World V → World V → Type 0
  Leads w v = LeadsBy p (TurnsTo p calm) Anybody (IsOther calm) w v

  abbrev pub Enters : World V → ℕ → V → Call → Type 0
  Enters w who view call = walk.Enters p (TurnsTo p calm) Anybody (IsOther calm) (MaySay p) (LowersCalm calm) MayWait (Sits p) calmly w who view call

  pub leads_sits : (w v : World V) → Leads w v → AllSit p w.coroutines → AllSit p v.coroutines
  leads_sits w v e a = leads_all p (TurnsTo p calm) Anybody (IsOther calm) (MaySay p) (LowersCalm calm) MayWait (Sits p) calmly w v e a

  pub numbered_calm : (w v : World V) → Leads w v → Numbered 0 w.coroutines w.last_coroutine → Numbered 0 v.coroutines v.last_coroutine
  numbered_calm w v e n = leads_numbered p (TurnsTo p calm) Anybody (IsOther calm) w v e n

  pub reply_calm : (w : World V) (who : ℕ) (word : Word) (answer : Answer) → Runs (MaySay p) w who word → LowersCalm calm who word answer → Leads w (reply w who word answer)
  reply_calm w who word answer r l = reply_leads p (TurnsTo p calm) Anybody (IsOther calm) (MaySay p) (LowersCalm calm) MayWait (Sits p) calmly w who word answer r l

  pub enter_calm : IsLawful p → (lacks : Bool) (w : World V) (who : ℕ) (view : V) (call : Call) → Enters w who view call → Leads w (enter p lacks w who view call)
  enter_calm law lacks w who view call n = enter_leads p (TurnsTo p calm) Anybody (IsOther calm) (MaySay p) (LowersCalm calm) MayWait (Sits p) calmly law lacks w who view call n

-- a coroutine of a number is pending in a call
pub record PendsIn {V : Type 0} (w : World V) (who : ℕ) (call : Call) : Type 0 where
  pub one : Coroutine V
  pub found : coroutine_of w who ≡ Some one
  pub pends : pending_call one.mode ≡ Some call

module _ {V : Type 0} (p : Program V) where
  -- who is pending may wait there
  pub pending_waits : (w : World V) (who : ℕ) (call : Call) → AllSit p w.coroutines → PendsIn w who call → may_wait call ≡ true
  pending_waits w who call a d =
      let sits = all_found (Sits p) (is_coroutine who) d.one w.coroutines d.found a in
      (pending_some d.one.mode (p.said d.one.body) call d.pends sits.0 sits.1).1

  found_pends : (w : World V) (who : ℕ) (call : Call) (o : Option (Coroutine V)) → coroutine_of w who ≡ o → if_some o None (λ c. pending_call c.mode) ≡ Some call → PendsIn w who call
  found_pends w who call None i e = cc
  found_pends w who call (Some c) i e = record { one = c; found = i; pends = e }

  pub call_pends : (w : World V) (who : ℕ) (call : Call) → call_of w who ≡ Some call → PendsIn w who call
  call_pends w who call e = found_pends w who call (coroutine_of w who) refl e

module _ {V : Type 0} where
  abbrev standing : (Coroutine V → V) → Mode → Coroutine V → Coroutine V
  standing body mode c = record c { body = body c; mode = mode }

  -- where one stands elsewhere and isn't pending, what is still pending was so
  pub change_calls : (n x : ℕ) (body : Coroutine V → V) (mode : Mode) (call : Call) (cs : List (Coroutine V)) → pending_call mode ≡ None → if_some (find (is_coroutine n) (change (is_coroutine x) (standing body mode) cs)) None (λ c. pending_call c.mode) ≡ Some call → if_some (find (is_coroutine n) cs) None (λ c. pending_call c.mode) ≡ Some call
  change_calls n x body mode call [] m e = e
  change_calls n x body mode call (c ∷ cs) m e = at (is_coroutine x c) e (change_calls n x body mode call cs m)
    where
      changed : (b : Bool) → if_some (cond b (Some (standing body mode c)) (find (is_coroutine n) cs)) None (λ d. pending_call d.mode) ≡ Some call → if_some (cond b (Some c) (find (is_coroutine n) cs)) None (λ d. pending_call d.mode) ≡ Some call
      changed true f = let it : ◌≡◌ {A = Option Call} None (Some call) = sym m ∙ f in cc
      changed false f = f

      others : (b : Bool) → if_some (cond b (Some c) (find (is_coroutine n) (change (is_coroutine x) (standing body mode) cs))) None (λ d. pending_call d.mode) ≡ Some call → (if_some (find (is_coroutine n) (change (is_coroutine x) (standing body mode) cs)) None (λ d. pending_call d.mode) ≡ Some call → if_some (find (is_coroutine n) cs) None (λ d. pending_call d.mode) ≡ Some call) → if_some (cond b (Some c) (find (is_coroutine n) cs)) None (λ d. pending_call d.mode) ≡ Some call
      others true f rest = f
      others false f rest = rest f

      at : (b : Bool) → if_some (find (is_coroutine n) (cond b (standing body mode c ∷ cs) (c ∷ change (is_coroutine x) (standing body mode) cs))) None (λ d. pending_call d.mode) ≡ Some call → (if_some (find (is_coroutine n) (change (is_coroutine x) (standing body mode) cs)) None (λ d. pending_call d.mode) ≡ Some call → if_some (find (is_coroutine n) cs) None (λ d. pending_call d.mode) ≡ Some call) → if_some (cond (is_coroutine n c) (Some c) (find (is_coroutine n) cs)) None (λ d. pending_call d.mode) ≡ Some call
      at true f rest = changed (is_coroutine n c) f
      at false f rest = others (is_coroutine n c) f rest

module _ {V : Type 0} (p : Program V) (calm : ℕ → Bool) where
  given : (w : World V) (who : ℕ) (call : Call) (answer : Answer) → may_wait call ≡ true → Runs (MaySay p) w who (word_of call) → LowersCalm calm who (word_of call) answer → Leads p calm w (give w who call answer)
  given w who (calls.Msleep deadline) answer e r l = reply_calm p calm w who words.Msleep answer r l
  given w who (calls.BundleWait number deadline) answer e r l = reply_calm p calm w who words.BundleWait answer r l
  given w who (calls.Chsend number bytes deadline) answer e r l = reply_calm p calm w who words.Chsend answer r l
  given w who (calls.Chrecv number size deadline) answer e r l = reply_calm p calm w who words.Chrecv answer r l
  given w who (calls.Choose deadline all) answer e r l = reply_calm p calm w who words.Choose answer r l
  given w who (calls.Hclose number) answer e r l =
      let v = if_some (find (is_dead_as number) w.closings) w (free_bundle w) in
      let same = free_dead_crew w number in
      leads_then p (TurnsTo p calm) Anybody (IsOther calm) w v (reply v who words.Hclose answer) (crew_leads p (TurnsTo p calm) Anybody (IsOther calm) w v same) (reply_calm p calm v who words.Hclose answer (runs_crew (MaySay p) w v who words.Hclose same r) l)
  given w who _ answer e r l = cc

  give_calm : (w : World V) (who : ℕ) (call : Call) (answer : Answer) → AllSit p w.coroutines → call_of w who ≡ Some call → LowersCalm calm who (word_of call) answer → Leads p calm w (give w who call answer)
  give_calm w who call answer a e l =
      given w who call answer (pending_waits p w who call a (call_pends p w who call e)) (pending_runs p (TurnsTo p calm) Anybody (IsOther calm) (MaySay p) (LowersCalm calm) MayWait (Sits p) (calmly p calm) w who call a e) l

  -- who isn't calm may be given up
  pub expire_calm : (w : World V) (who : ℕ) → AllSit p w.coroutines → ((call : Call) → call_of w who ≡ Some call → LowersCalm calm who (word_of call) (late_answer call)) → Leads p calm w (expire_one w who)
  expire_calm w who a low = some_leads p (TurnsTo p calm) Anybody (IsOther calm) (call_of w who) w (λ call. give w who call (late_answer call)) (λ call e. give_calm w who call (late_answer call) a e (low call e))

-- Worlds in which the calm are cancelled, as they settle.
module _ {V : Type 0} (p : Program V) (calm : ℕ → Bool) (In : World V → Type 0) (off : (w : World V) (who : ℕ) (c : Coroutine V) → In w → coroutine_of w who ≡ Some c → calm who ≡ true → is_cancelled w who ≡ true) where
  dues : (w : World V) (x : ℕ × Call × Answer) → In w → AllSit p w.coroutines → DueAt w w.coroutines x → Leads p calm w (give w x.0 x.1 x.2)
  dues w x i a d = give_calm p calm w x.0 x.1 x.2 a (ap (λ o. if_some o None (λ c. pending_call c.mode)) d.found ∙ d.call) (λ c. answer_lowers w x.0 x.1 x.2 (off w x.0 d.one i d.found c) d.answer)

  pub settle_one_calm : (w : World V) → In w → AllSit p w.coroutines → Numbered 0 w.coroutines w.last_coroutine → Leads p calm w (settle_one w)
  settle_one_calm w i a n = settle_one_leads p (TurnsTo p calm) Anybody (IsOther calm) (MaySay p) (LowersCalm calm) MayWait (Sits p) (calmly p calm) In dues w i a n

  pub settle_calm : ((w : World V) → In w → In (settle_one w)) → (w : World V) → In w → AllSit p w.coroutines → Numbered 0 w.coroutines w.last_coroutine → Leads p calm w (settle w)
  settle_calm settles w i a n = settle_leads p (TurnsTo p calm) Anybody (IsOther calm) (MaySay p) (LowersCalm calm) MayWait (Sits p) (calmly p calm) In dues settles w i a n
