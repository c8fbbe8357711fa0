-- What is due is known by what an answer needs of its call, and giving it by that leaves what the definition says.
use Rattle.std.proofs.Common.{◌≡◌, ◌∙◌, ℕ, List, [], ◌∷◌, true, Option, Some, None, refl, ap}
use Rattle.std.specs.Option.{option_or}
use Rattle.std.specs.List.{list_all}
use Rattle.std.proofs.lemmas.Bool.{and_parts}
use Rattle.dill_calls.specs.declared.answer.Answer.{Answer}
use Rattle.dill_calls.specs.declared.call.Call.{Call}
use Rattle.dill_calls.specs.declared.call.Call.TheVariants as calls
use Rattle.dill_base.specs.Maps.{if_some, first_some}
use Rattle.dill_rules.specs.declared.coroutine.Coroutine.{Coroutine}
use Rattle.dill_rules.specs.declared.coroutine.Mode.{Mode}
use Rattle.dill_rules.specs.declared.coroutine.Mode.TheVariants as modes
use Rattle.dill_rules.specs.World.{World, pending_call}
use Rattle.dill_rules.specs.Answers.{answer_of}
use Rattle.dill_rules.specs.Giving.{give}
use Rattle.dill_rules.specs.Settling.{answer_due, give_first}
use Rattle.dill_world.specs.Store.{may_wait, is_plain_mode, is_plain_row, ArePlain}
use Rattle.dill_steps.specs.declared.settling.Asked.{Asked}
use Rattle.dill_steps.specs.Asking.{asked_of, give_asked, asked_due}

back_answer : (n : ℕ) (call : Call) (o : Option Answer) → ◌≡◌ {A = Option (ℕ × Call × Answer)} (if_some o None (λ answer. Some (n, call, answer))) None → ◌≡◌ {A = Option (ℕ × Asked × Answer)} (if_some o None (λ answer. Some (n, asked_of call, answer))) None
back_answer n call None e = refl
back_answer n call (Some answer) e = cc

module _ {V : Type 0} where
  -- giving an answer needs no more of its call
  pub given_as : (w : World V) (who : ℕ) (call : Call) (answer : Answer) → may_wait call ≡ true → give_asked w who (asked_of call) answer ≡ give w who call answer
  given_as w who (calls.Msleep deadline) answer e = refl
  given_as w who (calls.Hclose number) answer e = refl
  given_as w who (calls.BundleWait number deadline) answer e = refl
  given_as w who (calls.Chsend number bytes deadline) answer e = refl
  given_as w who (calls.Chrecv number size deadline) answer e = refl
  given_as w who (calls.Choose deadline all) answer e = refl
  given_as w who _ answer e = cc

  -- what is given by what is due
  abbrev by_call : World V → Option (ℕ × Call × Answer) → World V
  by_call w o = if_some o w (λ x. give w x.0 x.1 x.2)

  abbrev by_asked : World V → Option (ℕ × Asked × Answer) → World V
  by_asked w o = if_some o w (λ x. give_asked w x.0 x.1 x.2)

  -- both of one coroutine's
  pub record Both (w : World V) (a : Option (ℕ × Asked × Answer)) (b : Option (ℕ × Call × Answer)) : Type 0 where
    pub given : by_asked w a ≡ by_call w b
    pub none : a ≡ None → b ≡ None

  both_or : (w : World V) (a : Option (ℕ × Asked × Answer)) (b : Option (ℕ × Call × Answer)) (a' : Option (ℕ × Asked × Answer)) (b' : Option (ℕ × Call × Answer)) → (b ≡ None → a ≡ None) → Both w a b → Both w a' b' → Both w (option_or a a') (option_or b b')
  both_or w None None a' b' h s r = r
  both_or w None (Some y) a' b' h s r = let e : ◌≡◌ {A = Option (ℕ × Call × Answer)} (Some y) None = s.none refl in cc
  both_or w (Some x) None a' b' h s r = let e : ◌≡◌ {A = Option (ℕ × Asked × Answer)} (Some x) None = h refl in cc
  both_or w (Some x) (Some y) a' b' h s r = s

  both_answer : (w : World V) (n : ℕ) (call : Call) (o : Option Answer) → may_wait call ≡ true → Both w (if_some o None (λ answer. Some (n, asked_of call, answer))) (if_some o None (λ answer. Some (n, call, answer)))
  both_answer w n call None e = record { given = refl; none = λ f. refl }
  both_answer w n call (Some answer) e = record { given = given_as w n call answer e; none = λ f. cc }

  both_mode : (w : World V) (n : ℕ) (mode : Mode) → is_plain_mode mode ≡ true → Both w (if_some (pending_call mode) None (λ call. if_some (answer_of w n call) None (λ answer. Some (n, asked_of call, answer)))) (if_some (pending_call mode) None (λ call. if_some (answer_of w n call) None (λ answer. Some (n, call, answer))))
  both_mode w n (modes.Pending call) e = both_answer w n call (answer_of w n call) e
  both_mode w n modes.Running e = record { given = refl; none = λ f. refl }
  both_mode w n (modes.Fresh word answer) e = record { given = refl; none = λ f. refl }
  both_mode w n (modes.Answered word answer) e = record { given = refl; none = λ f. refl }
  both_mode w n (modes.Ending outcome) e = record { given = refl; none = λ f. refl }

  back_mode : (w : World V) (n : ℕ) (mode : Mode) → ◌≡◌ {A = Option (ℕ × Call × Answer)} (if_some (pending_call mode) None (λ call. if_some (answer_of w n call) None (λ answer. Some (n, call, answer)))) None → ◌≡◌ {A = Option (ℕ × Asked × Answer)} (if_some (pending_call mode) None (λ call. if_some (answer_of w n call) None (λ answer. Some (n, asked_of call, answer)))) None
  back_mode w n (modes.Pending call) e = back_answer n call (answer_of w n call) e
  back_mode w n modes.Running e = refl
  back_mode w n (modes.Fresh word answer) e = refl
  back_mode w n (modes.Answered word answer) e = refl
  back_mode w n (modes.Ending outcome) e = refl

  both_all : (w : World V) (cs : List (Coroutine V)) → ArePlain cs → Both w (first_some (asked_due w) cs) (first_some (answer_due w) cs)
  both_all w [] e = record { given = refl; none = λ f. refl }
  both_all w (c ∷ cs) e =
      let parts : (is_plain_row c ≡ true) × (list_all is_plain_row cs ≡ true) = and_parts (is_plain_row c) (list_all is_plain_row cs) e in
      both_or w (asked_due w c) (answer_due w c) (first_some (asked_due w) cs) (first_some (answer_due w) cs) (back_mode w c.number c.mode) (both_mode w c.number c.mode parts.0) (both_all w cs parts.1)

  -- the first that is due
  pub first_given : (w : World V) (o : Option (ℕ × Asked × Answer)) → ArePlain w.coroutines → o ≡ first_some (asked_due w) w.coroutines → by_asked w o ≡ give_first w
  first_given w o plain e = ap (by_asked w) e ∙ (both_all w w.coroutines plain).given

  pub first_none : (w : World V) → ArePlain w.coroutines → first_some (asked_due w) w.coroutines ≡ None → first_some (answer_due w) w.coroutines ≡ None
  first_none w plain e = (both_all w w.coroutines plain).none e
