-- What the cancelled are answered lowers what is left of their programs, whatever they call: by the classes of the words alone.
use Rattle.std.proofs.Common.{◌≡◌, ◌∙◌, ◌⊎◌, inl, inr, ℕ, List, [], ◌∷◌, find, Bool, true, false, not, ◌&&◌, ◌||◌, cond, Option, Some, None, if◌then◌else◌, refl, sym, ap}
use Rattle.std.specs.Option.{option_or}
use Rattle.std.proofs.lemmas.Bool.{and_from, or_parts}
use Rattle.dill_base.specs.declared.errno.Errno.{Errno}
use Rattle.dill_base.specs.declared.errno.Errno.TheVariants as errnos
use Rattle.dill_calls.specs.declared.answer.Answer.{Answer}
use Rattle.dill_calls.specs.declared.answer.Answer.TheVariants.{Fault}
use Rattle.dill_calls.specs.declared.call.Call.{Call}
use Rattle.dill_calls.specs.declared.call.Call.TheVariants as calls
use Rattle.dill_calls.specs.declared.word.Word.{Word}
use Rattle.dill_calls.specs.declared.word.Word.TheVariants as words
use Rattle.dill_calls.specs.CallTable.{word_of, blocks, makes, gives_up, is_start, is_hclose, is_quiet}
use Rattle.dill_calls.specs.Program.{Program, PassesWell, Lowers}
use Rattle.dill_rules.specs.World.{World}
use Rattle.dill_rules.specs.Naming.{bears}
use Rattle.dill_rules.specs.Taking.{is_cancelled, takes_anothers}
use Rattle.dill_rules.specs.Answers.{when, answer_of}
use Rattle.dill_rules.specs.Refusals.{refuse, holds, is_called_off, is_refused_by_stack, order, giving_order}
use Rattle.dill_rules.specs.Entering.{entered, lack_fault}
use Rattle.dill_rules.specs.Channeling.{without_bytes}
use Rattle.laws_queue.proofs.Acting.{may_pend, may_meet}
use Rattle.laws_queue.proofs.Walking.{none_behind}
use Rattle.dill_rules.specs.LinkAnswers.{is_of_link}
use Rattle.laws_sound.specs.Linkless.{may_wait}

by_quiet : (word : Word) (answer : Answer) → is_quiet word ≡ true → Lowers word answer
by_quiet word answer e = inr (inl e)

by_cancel : (word : Word) (answer : Answer) → answer ≡ Fault errnos.Ecanceled → Lowers word answer
by_cancel word answer e = inr (inr e)

-- a program's first turn has no call
pub start_only : (word : Word) → is_start word ≡ true → word ≡ words.Start
start_only words.Start e = refl
start_only _ e = cc

no_start : (call : Call) → PassesWell call → is_start (word_of call) ≡ false
no_start (calls.Pass word fault) (inl e) = ap is_start e
no_start (calls.Pass word fault) (inr e) = ap is_start e
no_start call e = refl

-- a deadline from its entry on leaves the word of a call
pub word_entered : (moment : ℕ) (call : Call) → word_of (entered moment call) ≡ word_of call
word_entered moment (calls.Msleep deadline) = refl
word_entered moment call = refl

pub entered_passes : (moment : ℕ) (call : Call) → PassesWell call → PassesWell (entered moment call)
entered_passes moment (calls.Pass word fault) f = f
entered_passes moment call f = tt

-- calls of no link that may stay pending
pub linkless_waits : (call : Call) → is_of_link (word_of call) ≡ false → may_pend call ≡ true → may_wait call ≡ true
linkless_waits (calls.Msleep deadline) e m = refl
linkless_waits (calls.Hclose number) e m = refl
linkless_waits (calls.BundleWait number deadline) e m = refl
linkless_waits (calls.Chsend number bytes deadline) e m = refl
linkless_waits (calls.Chrecv number size deadline) e m = refl
linkless_waits (calls.Choose deadline all) e m = refl
linkless_waits (calls.Pass word fault) e m = cc
linkless_waits _ e m = cc

-- who may meet another waits without its bytes
pub bare_waits : (call : Call) → may_meet call ≡ true → may_wait (without_bytes call) ≡ true
bare_waits (calls.Chsend number bytes deadline) m = refl
bare_waits (calls.Chrecv number size deadline) m = refl
bare_waits (calls.Choose deadline all) m = refl
bare_waits _ m = cc

quiet_by : (start block close up : Bool) → start ≡ false → (up ≡ true) ⊎ (block ≡ false) → (not start && (not block || (close || up))) ≡ true
quiet_by true block close up e f = cc
quiet_by false block close up e (inr f) = ap (λ b. not b || (close || up)) f
quiet_by false true true up e (inl f) = refl
quiet_by false true false up e (inl f) = f
quiet_by false false close up e (inl f) = refl

called_first : (cancelled block make rest : Bool) → (cancelled && (block || (make || rest))) ≡ false → cancelled ≡ true → (block ≡ false) × (make ≡ false)
called_first true true make rest e f = cc
called_first true false true rest e f = cc
called_first true false false rest e f = (refl, refl)
called_first false block make rest e f = cc

called_now : (cancelled block rest : Bool) → cancelled ≡ true → block ≡ true → (cancelled && (block || rest)) ≡ true
called_now true true rest e f = refl
called_now true false rest e f = cc
called_now false block rest e f = cc

-- the errnos behind ECANCELED
abbrev later : List Errno
later = errnos.Ebadf ∷ errnos.Enotsup ∷ errnos.Einval ∷ errnos.Ebusy ∷ errnos.Epipe ∷ errnos.Econnreset ∷ errnos.Emsgsize ∷ errnos.Emfile ∷ []

head_some : (b : Bool) (x e : Errno) (rest : Option Errno) → cond b (Some x) rest ≡ Some e → b ≡ true → e ≡ x
head_some true x e rest f g = cc
head_some false x e rest f g = cc

off_now : (c b m u : Bool) → c ≡ true → b ≡ true → u ≡ false → ◌≡◌ {A = Answer} (Fault (if c && ((b || m) && not u) then errnos.Ecanceled else errnos.Enomem)) (Fault errnos.Ecanceled)
off_now true true m false e f g = refl
off_now true true m true e f g = cc
off_now true false m u e f g = cc
off_now false b m u e f g = cc

makes_child : (word : Word) → bears word ≡ true → (gives_up word ≡ false) × (makes word ≡ true)
makes_child words.Go e = (refl, refl)
makes_child words.BundleGo e = (refl, refl)
makes_child _ e = cc

module _ {V : Type 0} (p : Program V) (w : World V) (who : ℕ) (view : V) (call : Call) (cancelled : is_cancelled w who ≡ true) where
  -- what is refused nothing in the whole order isn't called off
  not_off : gives_up (word_of call) ≡ false → refuse p w who view call ≡ None → (blocks (word_of call) ≡ false) × (makes (word_of call) ≡ false)
  not_off up e =
      let all : find (holds p w who view call) order ≡ None = ap (λ b. find (holds p w who view call) (if b then giving_order else order)) (sym up) ∙ e in
      let none = none_behind (holds p w who view call) [] errnos.Ecanceled later all in
      called_first (is_cancelled w who) (blocks (word_of call)) (makes (word_of call)) (takes_anothers w who call) (or_parts (is_called_off w who call) (is_refused_by_stack w call errnos.Ecanceled) none).0 cancelled

  -- a cancelled caller starts nobody
  pub starts_nobody : bears (word_of call) ≡ true → refuse p w who view call ≡ None → ⊥
  starts_nobody b e = let c = makes_child (word_of call) b in let n = (not_off c.0 e).1 in let m = c.1 in cc_bool (makes (word_of call)) n m
    where
      cc_bool : (x : Bool) → x ≡ false → x ≡ true → ⊥
      cc_bool true f g = cc
      cc_bool false f g = cc

  module _ (well : PassesWell call) where
    quiet : (gives_up (word_of call) ≡ true) ⊎ (blocks (word_of call) ≡ false) → is_quiet (word_of call) ≡ true
    quiet e = quiet_by (is_start (word_of call)) (blocks (word_of call)) (is_hclose (word_of call)) (gives_up (word_of call)) (no_start call well) e

    -- what isn't refused is quiet, so that whatever is answered lowers
    pub unrefused_lowers : refuse p w who view call ≡ None → (answer : Answer) → Lowers (word_of call) answer
    unrefused_lowers e answer = by_quiet (word_of call) answer (quiet (at (gives_up (word_of call)) refl))
      where
        at : (b : Bool) → gives_up (word_of call) ≡ b → (gives_up (word_of call) ≡ true) ⊎ (blocks (word_of call) ≡ false)
        at true f = inl f
        at false f = inr (not_off f e).0

    -- a refusal is ECANCELED, or the call is quiet
    pub refusal_lowers : (e : Errno) → refuse p w who view call ≡ Some e → Lowers (word_of call) (Fault e)
    refusal_lowers e f = at (gives_up (word_of call)) (blocks (word_of call)) refl refl f
      where
        at : (b c : Bool) → gives_up (word_of call) ≡ b → blocks (word_of call) ≡ c → find (holds p w who view call) (if b then giving_order else order) ≡ Some e → Lowers (word_of call) (Fault e)
        at true c g h i = by_quiet (word_of call) (Fault e) (quiet (inl g))
        at false false g h i = by_quiet (word_of call) (Fault e) (quiet (inr h))
        at false true g h i =
            let off : holds p w who view call errnos.Ecanceled ≡ true = ap (λ b. b || is_refused_by_stack w call errnos.Ecanceled) (called_now (is_cancelled w who) (blocks (word_of call)) (makes (word_of call) || takes_anothers w who call) cancelled h) in
            by_cancel (word_of call) (Fault e) (ap (λ o. Fault o) (head_some (holds p w who view call errnos.Ecanceled) errnos.Ecanceled e (find (holds p w who view call) later) i off))

    -- where the call couldn't be built too
    pub lack_lowers : Lowers (word_of call) (Fault (lack_fault w who (word_of call)))
    lack_lowers = at (gives_up (word_of call)) (blocks (word_of call)) refl refl
      where
        at : (b c : Bool) → gives_up (word_of call) ≡ b → blocks (word_of call) ≡ c → Lowers (word_of call) (Fault (lack_fault w who (word_of call)))
        at true c g h = by_quiet (word_of call) _ (quiet (inl g))
        at false false g h = by_quiet (word_of call) _ (quiet (inr h))
        at false true g h = by_cancel (word_of call) _ (off_now (is_cancelled w who) (blocks (word_of call)) (makes (word_of call)) (gives_up (word_of call)) cancelled h g)

cancel_first : (b : Bool) (rest : Option Answer) (answer : Answer) → b ≡ true → option_or (when b (Fault errnos.Ecanceled)) rest ≡ Some answer → answer ≡ Fault errnos.Ecanceled
cancel_first true rest answer e r = let it : ◌≡◌ {A = Option Answer} (Some answer) (Some (Fault errnos.Ecanceled)) = sym r in cc
cancel_first false rest answer e r = cc

-- what a pending call of who is cancelled is answered lowers
pub answer_lowers : {V : Type 0} (w : World V) (who : ℕ) (call : Call) (answer : Answer) → is_cancelled w who ≡ true → answer_of w who call ≡ Some answer → Lowers (word_of call) answer
answer_lowers w who call answer c r = at (is_start (word_of call)) (blocks (word_of call)) refl refl
  where
    at : (s b : Bool) → is_start (word_of call) ≡ s → blocks (word_of call) ≡ b → Lowers (word_of call) answer
    at true b e f = inl e
    at false false e f = by_quiet (word_of call) answer (quiet_by (is_start (word_of call)) (blocks (word_of call)) (is_hclose (word_of call)) (gives_up (word_of call)) e (inr f))
    at false true e f = by_cancel (word_of call) answer (cancel_first (blocks (word_of call) && is_cancelled w who) _ answer (and_from (blocks (word_of call)) (is_cancelled w who) f c) r)
