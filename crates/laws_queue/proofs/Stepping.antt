-- One walk over calls, replies of the kernel, expiry, endings and settling shows how the coroutines change, for any way in which they may stand.
use Rattle.std.proofs.Common.{◌≡◌, ◌∙◌, ◌+◌, ◌<◌, ◌≤◌, ℕ, zero, suc, List, [], ◌∷◌, length, find, Bool, true, false, ◌&&◌, cond, Option, Some, None, if◌then◌else◌, refl, sym, ap, subst, arith}
use Rattle.std.specs.List.{AllByRecursion}
use Rattle.std.specs.Option.{option_or}
use Rattle.dill_base.specs.declared.errno.Errno.{Errno}
use Rattle.dill_base.specs.declared.errno.Errno.TheVariants.{Enomem}
use Rattle.dill_calls.specs.declared.answer.Answer.{Answer}
use Rattle.dill_calls.specs.declared.answer.Answer.TheVariants.{Fault}
use Rattle.dill_calls.specs.declared.call.Call.{Call}
use Rattle.dill_calls.specs.declared.call.Call.TheVariants as calls
use Rattle.dill_calls.specs.declared.word.Word.{Word}
use Rattle.dill_calls.specs.CallTable.{word_of, takes_memory}
use Rattle.dill_calls.specs.Program.{Program, IsLawful, Begins}
use Rattle.dill_rules.specs.declared.coroutine.Coroutine.{Coroutine}
use Rattle.dill_rules.specs.declared.coroutine.Mode.{Mode}
use Rattle.dill_rules.specs.declared.coroutine.Mode.TheVariants as modes
use Rattle.dill_rules.specs.Answers.{answer_of}
use Rattle.dill_rules.specs.Refusals.{refuse}
use Rattle.dill_rules.specs.Entering.{keep_for, perform, is_too_late, late_answer, meet_deadline, done, enter}
use Rattle.dill_rules.specs.Expiring.{expire_one}
use Rattle.dill_rules.specs.Giving.{give}
use Rattle.dill_kernel.specs.declared.replies.KernelReply.{KernelReply}
use Rattle.dill_rules.specs.Hearing.{heard}
use Rattle.dill_rules.specs.Trying.{Try}
use Rattle.dill_rules.specs.Settling.{close_all, end, can_finish, is_clear, free_all, release_all, finish, answer_due, give_first, settle_one, settle_within, settle}
use Rattle.dill_rules.specs.Channeling.{without_bytes}
use Rattle.laws_queue.specs.Well.{has_more, IsAlive, Lives, Numbered}
use Rattle.laws_queue.proofs.Besides.{besides_crew, pass_all_besides}
use Rattle.std.proofs.lemmas.Bool.{and_parts}
use Rattle.dill_base.specs.Maps.{if_some, first_some, change, without}
use Rattle.dill_rules.specs.Effects.{bear}
use Rattle.dill_rules.specs.Naming.{bears}
use Rattle.dill_rules.specs.World.{World, is_coroutine, coroutine_of, call_of, with_mode, reply, pend, pending_call, is_answered, is_ending}
use Rattle.laws_queue.proofs.Acting.{Gives, give_gives, Hears, nobody, one, heard_hears, Acts, idles, answered, waits, waits_bare, meets, bore, may_pend, may_meet, perform_acts}
use Rattle.laws_queue.proofs.Answered.{Moved, Unqueued, AnyNumber}
use Rattle.laws_queue.proofs.Crew.{SameCrew, close_all_crew, bare_crew, keep_end_last}
use Rattle.laws_queue.proofs.Evolving.{Evolves, newborn, stays, turns, leaves, begins, goes_on, evolves_numbered, evolves_all}
use Rattle.laws_queue.proofs.Lists.{some_same, equal_number, above_of, all_found, found_passes}
use Rattle.laws_queue.proofs.Numbers.{found_changed, find_append, found_number, above}
use Rattle.laws_queue.proofs.Walking.{bearing, unrefused_known}

module _ {V : Type 0} where
  by_cons : (test : Coroutine V → Bool) (high : ℕ) (x c : Coroutine V) (cs : List (Coroutine V)) (t : Bool) → cond t (Some x) (find test cs) ≡ Some c → Numbered x.number cs high → (find test cs ≡ Some c → find (is_coroutine c.number) cs ≡ Some c) → find (is_coroutine c.number) (x ∷ cs) ≡ Some c
  by_cons test high x c cs true e h rest = let it : x ≡ c = cc in rw (equal_number x.number c.number (ap (λ d. d.number) it)) e
  by_cons test high x c cs false e h rest = rw (above_of x.number c.number (above x.number high test cs c e h)) (rest e)

  -- who is found by a test is found by its number
  pub by_number : (low high : ℕ) (test : Coroutine V → Bool) (cs : List (Coroutine V)) (c : Coroutine V) → find test cs ≡ Some c → Numbered low cs high → find (is_coroutine c.number) cs ≡ Some c
  by_number low high test [] c e h = cc
  by_number low high test (x ∷ cs) c e h = by_cons test high x c cs (test x) e h.1 (λ f. by_number x.number high test cs c f h.1)

module _ {V : Type 0} where
  -- whose answer is due is pending
  due_pending : (w : World V) (c : Coroutine V) (o : Option Call) (x : ℕ × Call × Answer) → pending_call c.mode ≡ o → if_some o None (λ call. if_some (answer_of w c.number call) None (λ a. Some (c.number, call, a))) ≡ Some x → (pending_call c.mode ≡ Some x.1) × (c.number ≡ x.0) × (answer_of w x.0 x.1 ≡ Some x.2)
  due_pending w c None x i e = cc
  due_pending w c (Some call) x i e = at (answer_of w c.number call) refl e
    where
      at : (r : Option Answer) → answer_of w c.number call ≡ r → if_some r None (λ a. Some (c.number, call, a)) ≡ Some x → (pending_call c.mode ≡ Some x.1) × (c.number ≡ x.0) × (answer_of w x.0 x.1 ≡ Some x.2)
      at None j f = cc
      at (Some a) j f =
          let it : ◌≡◌ {A = ℕ × Call × Answer} (c.number, call, a) x = cc in
          (i ∙ ap (λ y. Some y.1) it, ap (λ y. y.0) it, subst (λ y. answer_of w y.0 y.1 ≡ Some y.2) it j)

  pub record DueAt (w : World V) (cs : List (Coroutine V)) (x : ℕ × Call × Answer) : Type 0 where
    pub one : Coroutine V
    pub found : find (is_coroutine x.0) cs ≡ Some one
    pub call : pending_call one.mode ≡ Some x.1
    pub answer : answer_of w x.0 x.1 ≡ Some x.2

  pub due_first : (w : World V) (low high : ℕ) (cs : List (Coroutine V)) (x : ℕ × Call × Answer) → Numbered low cs high → first_some (answer_due w) cs ≡ Some x → (low < x.0) × DueAt w cs x
  due_first w low high [] x n e = cc
  due_first w low high (c ∷ cs) x n e = at (answer_due w c) refl e (due_first w c.number high cs x n.1)
    where
      at : (o : Option (ℕ × Call × Answer)) → answer_due w c ≡ o → option_or o (first_some (answer_due w) cs) ≡ Some x → (first_some (answer_due w) cs ≡ Some x → (c.number < x.0) × DueAt w cs x) → (low < x.0) × DueAt w (c ∷ cs) x
      at None i f rest =
          let r = rest f in
          (omega (arith, n.0, r.0), record { one = r.1.one; found = rw (above_of c.number x.0 r.0) r.1.found; call = r.1.call; answer = r.1.answer })
      at (Some y) i f rest =
          let d = due_pending w c (pending_call c.mode) x refl (i ∙ f) in
          (subst (λ k. low < k) d.1 n.0, record { one = c; found = rw (equal_number c.number x.0 d.1) refl; call = d.0; answer = d.2 })

-- ---- how coroutines go

-- What a walk asks of how coroutines stand: `R` is who may be answered in a word or wait in its call, `L` what it may be answered, `W` where it may wait, `P` what holds of each.
pub record Manner {V : Type 0} (p : Program V) (Q : Coroutine V → Mode → Type 0) (G : Coroutine V → Type 0) (N : ℕ → Type 0) (R : Coroutine V → Word → Type 0) (L : ℕ → Word → Answer → Type 0) (W : Call → Type 0) (P : Coroutine V → Type 0) : Type 0 where
  pub answers : (c : Coroutine V) (word : Word) (answer : Answer) → R c word → L c.number word answer → Q c (modes.Fresh word answer)
  pub pends : (c : Coroutine V) (call : Call) → R c (word_of call) → W call → Q c (modes.Pending call)
  pub still_answered : (c : Coroutine V) (word its : Word) (answer : Answer) → R c word → R (with_mode (modes.Fresh its answer) c) word
  pub still_pends : (c : Coroutine V) (word : Word) (call : Call) → R c word → R (with_mode (modes.Pending call) c) word
  pub of_call : (c : Coroutine V) (call : Call) → P c → pending_call c.mode ≡ Some call → R c (word_of call)
  pub moved : (c : Coroutine V) (mode : Mode) → Q c mode → P c → P (with_mode mode c)
  pub born : (number : ℕ) (view : V) → Begins p view → N number → P (newborn number view)
  pub gone : (c : Coroutine V) → is_ending c.mode ≡ true → G c

pub word_bare : (call : Call) → word_of (without_bytes call) ≡ word_of call
word_bare (calls.Chsend number bytes deadline) = refl
word_bare call = refl

module _ {V : Type 0} (R : Coroutine V → Word → Type 0) where
  -- a coroutine of a number that may be answered in a word
  pub record Runs (w : World V) (who : ℕ) (word : Word) : Type 0 where
    pub one : Coroutine V
    pub found : coroutine_of w who ≡ Some one
    pub may : R one word

  pub runs_crew : (w v : World V) (who : ℕ) (word : Word) → SameCrew w v → Runs w who word → Runs v who word
  runs_crew w v who word same r = record { one = r.one; found = ap (find (is_coroutine who)) same.coroutines ∙ r.found; may = r.may }

  record Found (who : ℕ) (word : Word) (cs : List (Coroutine V)) : Type 0 where
    one : Coroutine V
    found : find (is_coroutine who) cs ≡ Some one
    may : R one word

  -- whoever stands elsewhere, itself too
  runs_found : (who n : ℕ) (mode : Mode) (word : Word) (c : Coroutine V) (cs : List (Coroutine V)) → ((x : Coroutine V) → R x word → R (with_mode mode x) word) → R c word → find (is_coroutine who) cs ≡ Some c → Found who word (change (is_coroutine n) (with_mode mode) cs)
  runs_found who n mode word c [] still r h = cc
  runs_found who n mode word c (x ∷ cs) still r h = at (is_coroutine n x) (is_coroutine who x) refl h (runs_found who n mode word c cs still r)
    where
      at : (t b : Bool) → is_coroutine who x ≡ b → cond b (Some x) (find (is_coroutine who) cs) ≡ Some c → (find (is_coroutine who) cs ≡ Some c → Found who word (change (is_coroutine n) (with_mode mode) cs)) → Found who word (cond t (with_mode mode x ∷ cs) (x ∷ change (is_coroutine n) (with_mode mode) cs))
      at true true i j rest = record { one = with_mode mode x; found = rw i refl; may = still x (subst (λ y. R y word) (sym (some_same x c j)) r) }
      at true false i j rest = record { one = c; found = rw i j; may = r }
      at false true i j rest = record { one = x; found = rw i refl; may = subst (λ y. R y word) (sym (some_same x c j)) r }
      at false false i j rest = let s = rest j in record { one = s.one; found = rw i s.found; may = s.may }

module _ {V : Type 0} (p : Program V) (Q : Coroutine V → Mode → Type 0) (G : Coroutine V → Type 0) (N : ℕ → Type 0) where
  -- the coroutines of one world evolve to those of the other
  abbrev pub LeadsBy : World V → World V → Type 0
  LeadsBy w v = Evolves p Q G N w.coroutines w.last_coroutine v.coroutines v.last_coroutine

  crew_evolves : (cs ds : List (Coroutine V)) (k l : ℕ) → ds ≡ cs → l ≡ k → Evolves p Q G N cs k ds l
  crew_evolves cs ds k l e f = subst (λ xs. Evolves p Q G N cs k xs l) (sym e) (subst (λ n. Evolves p Q G N cs k cs n) (sym f) stays)

  pub crew_leads : (w v : World V) → SameCrew w v → LeadsBy w v
  crew_leads w v same = crew_evolves w.coroutines v.coroutines w.last_coroutine v.last_coroutine same.coroutines same.last

  pub leads_then : (w v u : World V) → LeadsBy w v → LeadsBy v u → LeadsBy w u
  leads_then w v u e f = goes_on e f

  pub some_leads : {A : Type 0} (o : Option A) (w : World V) (f : A → World V) → ((a : A) → o ≡ Some a → LeadsBy w (f a)) → LeadsBy w (if_some o w f)
  some_leads None w f h = stays
  some_leads (Some a) w f h = h a refl

  pub leads_numbered : (w v : World V) → LeadsBy w v → Numbered 0 w.coroutines w.last_coroutine → Numbered 0 v.coroutines v.last_coroutine
  leads_numbered w v e n = evolves_numbered p Q G N w.coroutines v.coroutines w.last_coroutine v.last_coroutine e n

  module _ (R : Coroutine V → Word → Type 0) (L : ℕ → Word → Answer → Type 0) (W : Call → Type 0) (P : Coroutine V → Type 0) (m : Manner p Q G N R L W P) where
    pub leads_all : (w v : World V) → LeadsBy w v → AllByRecursion P w.coroutines → AllByRecursion P v.coroutines
    leads_all w v e a = evolves_all p Q G N P m.moved m.born w.coroutines v.coroutines w.last_coroutine v.last_coroutine e a

    pending_found : (w : World V) (who : ℕ) (call : Call) (o : Option (Coroutine V)) → coroutine_of w who ≡ o → if_some o None (λ c. pending_call c.mode) ≡ Some call → ((c : Coroutine V) → o ≡ Some c → P c) → Runs R w who (word_of call)
    pending_found w who call None i e f = cc
    pending_found w who call (Some c) i e f = record { one = c; found = i; may = m.of_call c call (f c refl) e }

    -- who is pending may be answered
    pub pending_runs : (w : World V) (who : ℕ) (call : Call) → AllByRecursion P w.coroutines → call_of w who ≡ Some call → Runs R w who (word_of call)
    pending_runs w who call a e = pending_found w who call (coroutine_of w who) refl e (λ c f. all_found P (is_coroutine who) c w.coroutines f a)

    runs_replied : (w : World V) (who n : ℕ) (word its : Word) (answer : Answer) → Runs R w who word → Runs R (reply w n its answer) who word
    runs_replied w who n word its answer r =
        let there = runs_found R who n (modes.Fresh its answer) word r.one w.coroutines (λ x. m.still_answered x word its answer) r.may r.found in
        record { one = there.one; found = there.found; may = there.may }

    pub reply_leads : (w : World V) (who : ℕ) (word : Word) (answer : Answer) → Runs R w who word → L who word answer → LeadsBy w (reply w who word answer)
    reply_leads w who word answer r l = turns who (modes.Fresh word answer) r.one r.found (m.answers r.one word answer r.may (subst (λ n. L n word answer) (sym (found_number who w.coroutines r.one r.found)) l))

    pend_leads : (w : World V) (who : ℕ) (call : Call) → Runs R w who (word_of call) → W call → LeadsBy w (pend w who call)
    pend_leads w who call r k = turns who (modes.Pending call) r.one r.found (m.pends r.one call r.may k)

    -- who is answered, behind an effect that leaves the coroutines
    pub gives_leads : (w v : World V) (who : ℕ) (word : Word) → Runs R w who word → ((answer : Answer) → L who word answer) → Gives w who word v → LeadsBy w v
    gives_leads w v who word r l g = leads_then w (reply w who word g.answer) v (reply_leads w who word g.answer r (l g.answer)) (crew_leads (reply w who word g.answer) v (record { coroutines = g.coroutines; last = g.last }))

    -- who isn't pending meets no deadline
    meets_none : (w : World V) (who : ℕ) → call_of w who ≡ None → meet_deadline w who ≡ w
    meets_none w who e = ap (λ o. if_some o w (λ call. if is_too_late w who call then reply w who (word_of call) (late_answer call) else w)) e

    -- it is answered, and so meets none
    over : (w v : World V) (who : ℕ) (word : Word) → Runs R w who word → ((answer : Answer) → L who word answer) → Gives w who word v → LeadsBy w (meet_deadline v who)
    over w v who word r l g =
        let there = found_changed (is_coroutine who) (with_mode (modes.Fresh word g.answer)) r.one w.coroutines (λ d. refl) r.found in
        let none : call_of v who ≡ None = ap (λ cs. if_some (find (is_coroutine who) cs) None (λ d. pending_call d.mode)) g.coroutines ∙ ap (λ o. if_some o None (λ d. pending_call d.mode)) there in
        subst (LeadsBy w) (sym (meets_none v who none)) (gives_leads w v who word r l g)

    late_leads : (b : Bool) (w : World V) (who : ℕ) (call : Call) → Runs R w who (word_of call) → L who (word_of call) (late_answer call) → LeadsBy w (if b then reply w who (word_of call) (late_answer call) else w)
    late_leads true w who call r l = reply_leads w who (word_of call) (late_answer call) r l
    late_leads false w who call r l = stays

    -- it waits, or meets a deadline
    pended : (w v : World V) (who : ℕ) (call : Call) → SameCrew (pend w who call) v → Runs R w who (word_of call) → W call → L who (word_of call) (late_answer call) → LeadsBy w (meet_deadline v who)
    pended w v who call same r k l =
        let there : coroutine_of v who ≡ Some (with_mode (modes.Pending call) r.one) = ap (find (is_coroutine who)) same.coroutines ∙ found_changed (is_coroutine who) (with_mode (modes.Pending call)) r.one w.coroutines (λ d. refl) r.found in
        let runs : Runs R v who (word_of call) = record { one = with_mode (modes.Pending call) r.one; found = there; may = m.still_pends r.one (word_of call) call r.may } in
        let first : LeadsBy w v = leads_then w (pend w who call) v (pend_leads w who call r k) (crew_leads (pend w who call) v same) in
        let is : meet_deadline v who ≡ (if is_too_late v who call then reply v who (word_of call) (late_answer call) else v) =
        ap (λ o. if_some (if_some o None (λ d. pending_call d.mode)) v (λ d. if is_too_late v who d then reply v who (word_of d) (late_answer d) else v)) there in
        subst (LeadsBy w) (sym is) (leads_then w v (if is_too_late v who call then reply v who (word_of call) (late_answer call) else v) first (late_leads (is_too_late v who call) v who call runs l))

    -- what is asked of a caller
    pub record Enters (w : World V) (who : ℕ) (view : V) (call : Call) : Type 0 where
      pub runs : Runs R w who (word_of call)
      pub idle : call_of w who ≡ None
      pub real : p.real view ≡ true
      pub refused : (e : Errno) → refuse p w who view call ≡ Some e → L who (word_of call) (Fault e)
      pub low : refuse p w who view call ≡ None → (answer : Answer) → L who (word_of call) answer
      pub births : refuse p w who view call ≡ None → bears (word_of call) ≡ true → N (w.last_coroutine + 1)
      pub waiting : may_pend call ≡ true → W call
      pub waiting_bare : may_meet call ≡ true → W (without_bytes call)
      pub each : AllByRecursion P w.coroutines
      pub met : (other : ℕ) (its : Call) (answer : Answer) → call_of w other ≡ Some its → L other (word_of its) answer

    done_leads : (w k v : World V) (who : ℕ) (view : V) (call : Call) → SameCrew w k → Enters w who view call → refuse p w who view call ≡ None → Acts (Begins p) k who call v → LeadsBy w (meet_deadline v who)
    done_leads w k v who view call same n f acts = leads_then w k (meet_deadline v who) (crew_leads w k same) (at acts)
      where
        runs : Runs R k who (word_of call)
        runs = runs_crew R w k who (word_of call) same n.runs

        at : {u : World V} → Acts (Begins p) k who call u → LeadsBy k (meet_deadline u who)
        at (idles i) =
            let none : call_of k who ≡ None = ap (λ cs. if_some (find (is_coroutine who) cs) None (λ c. pending_call c.mode)) same.coroutines ∙ n.idle in
            subst (LeadsBy k) (sym (meets_none k who none)) stays
        at {u} (answered g) = over k u who (word_of call) runs (n.low f) g
        at {u} (waits q s) = pended k u who call s runs (n.waiting q) (n.low f (late_answer call))
        at {u} (waits_bare q s) =
            let bare = without_bytes call in
            pended k u who bare s (subst (Runs R k who) (sym (word_bare call)) runs) (n.waiting_bare q) (subst (λ x. L who x (late_answer bare)) (sym (word_bare call)) (n.low f (late_answer bare)))
        at {u} (meets other its answer q e g) =
            let was : call_of w other ≡ Some its = sym (ap (λ cs. if_some (find (is_coroutine other) cs) None (λ c. pending_call c.mode)) same.coroutines) ∙ e in
            let given = reply k other (word_of its) answer in
            let first : LeadsBy k given = reply_leads k other (word_of its) answer (runs_crew R w k other (word_of its) same (pending_runs w other its n.each was)) (n.met other its answer was) in
            leads_then k given (meet_deadline u who) first (over given u who (word_of call) (runs_replied k who other (word_of call) (word_of its) answer runs) (n.low f) g)
        at {u} (bore child home b e g) =
            let new = newborn (k.last_coroutine + 1) child ∷ [] in
            let there : Runs R (bear k child home) who (word_of call) = record { one = runs.one; found = find_append (is_coroutine who) k.coroutines new runs.one runs.found; may = runs.may } in
            leads_then k (bear k child home) (meet_deadline u who) (begins child b (subst (λ l. N (l + 1)) (sym same.last) (n.births f e))) (over (bear k child home) u who (word_of call) there (n.low f) g)

    pub enter_leads : IsLawful p → (lacks : Bool) (w : World V) (who : ℕ) (view : V) (call : Call) → Enters w who view call → LeadsBy w (enter p lacks w who view call)
    enter_leads law lacks w who view call n = at (refuse p w who view call) refl
      where
        lack : (b : Bool) → refuse p w who view call ≡ None → LeadsBy w (if b then reply w who (word_of call) (Fault Enomem) else done p w who view call)
        lack true f = reply_leads w who (word_of call) (Fault Enomem) n.runs (n.low f (Fault Enomem))
        lack false f =
            let k = keep_for w call in
            done_leads w k (perform p k who view call) who view call (record { coroutines = refl; last = refl }) n f (perform_acts (Begins p) p k who view call (bearing p law view call n.real (unrefused_known p w who view call f)))

        at : (o : Option Errno) → refuse p w who view call ≡ o → LeadsBy w (if_some o (if lacks && takes_memory (word_of call) then reply w who (word_of call) (Fault Enomem) else done p w who view call) (λ e. reply w who (word_of call) (Fault e)))
        at None f = lack (lacks && takes_memory (word_of call)) f
        at (Some g) f = reply_leads w who (word_of call) (Fault g) n.runs (n.refused g f)

    pub end_leads : (w : World V) (who : ℕ) (outcome : Option Errno) (c : Coroutine V) → coroutine_of w who ≡ Some c → Q c (modes.Ending outcome) → LeadsBy w (end w who outcome)
    end_leads w who outcome c e q =
        let shut = close_all w who in
        let same = close_all_crew w who in
        leads_then w shut (end w who outcome) (crew_leads w shut same) (turns who (modes.Ending outcome) c (ap (find (is_coroutine who)) same.coroutines ∙ e) q)

    finish_leads : (w : World V) (c : Coroutine V) → Numbered 0 w.coroutines w.last_coroutine → find (can_finish w) w.coroutines ≡ Some c → LeadsBy w (finish w c)
    finish_leads w c n e =
        let bare = release_all (free_all w c.number) c.number in
        let same = bare_crew w c.number in
        let here : find (is_coroutine c.number) bare.coroutines ≡ Some c = ap (find (is_coroutine c.number)) same.coroutines ∙ by_number 0 w.last_coroutine (can_finish w) w.coroutines c e n in
        let ends = (and_parts (is_ending c.mode) (is_clear w c.number) (found_passes (can_finish w) w.coroutines c e)).0 in
        let less : Evolves p Q G N bare.coroutines bare.last_coroutine (without (is_coroutine c.number) bare.coroutines) bare.last_coroutine = leaves c.number c here (m.gone c ends) in
        leads_then w bare (finish w c) (crew_leads w bare same) (subst (λ k. Evolves p Q G N bare.coroutines bare.last_coroutine (without (is_coroutine c.number) bare.coroutines) k) (sym (keep_end_last bare c)) less)

    -- Settling, where answers that are due lead so in each of its worlds.
    module _ (In : World V → Type 0) (dues : (w : World V) (x : ℕ × Call × Answer) → In w → AllByRecursion P w.coroutines → DueAt w w.coroutines x → LeadsBy w (give w x.0 x.1 x.2)) where
      pub settle_one_leads : (w : World V) → In w → AllByRecursion P w.coroutines → Numbered 0 w.coroutines w.last_coroutine → LeadsBy w (settle_one w)
      settle_one_leads w i a n = at (find (can_finish w) w.coroutines) refl
        where
          at : (o : Option (Coroutine V)) → find (can_finish w) w.coroutines ≡ o → LeadsBy w (if_some o (give_first w) (finish w))
          at None e = some_leads (first_some (answer_due w) w.coroutines) w (λ x. give w x.0 x.1 x.2) (λ x f. dues w x i a (due_first w 0 w.last_coroutine w.coroutines x n f).1)
          at (Some c) e = finish_leads w c n e

      module _ (settles : (w : World V) → In w → In (settle_one w)) where
        within_leads : (k : ℕ) (w : World V) → In w → AllByRecursion P w.coroutines → Numbered 0 w.coroutines w.last_coroutine → LeadsBy w (settle_within k w)
        within_leads zero w i a n = stays
        within_leads (suc k) w i a n =
            let first = settle_one_leads w i a n in
            leads_then w (settle_one w) (settle_within k (settle_one w)) first (within_leads k (settle_one w) (settles w i) (leads_all w (settle_one w) first a) (leads_numbered w (settle_one w) first n))

        pub settle_leads : (w : World V) → In w → AllByRecursion P w.coroutines → Numbered 0 w.coroutines w.last_coroutine → LeadsBy w (settle w)
        settle_leads w i a n =
            let within = settle_within (length w.coroutines) w in
            leads_then w within (settle w) (within_leads (length w.coroutines) w i a n) (crew_leads within (settle w) (besides_crew (pass_all_besides within)))

-- ---- those without an answer in the queue

pending_more : (mode : Mode) (call : Call) → pending_call mode ≡ Some call → (has_more mode ≡ true) × (is_answered mode ≡ false)
pending_more (modes.Pending other) call e = (refl, refl)
pending_more modes.Running call e = cc
pending_more (modes.Fresh word answer) call e = cc
pending_more (modes.Answered word answer) call e = cc
pending_more (modes.Ending outcome) call e = cc

ending_unqueued : (mode : Mode) → is_ending mode ≡ true → is_answered mode ≡ false
ending_unqueued (modes.Ending outcome) e = refl
ending_unqueued (modes.Pending call) e = cc
ending_unqueued modes.Running e = cc
ending_unqueued (modes.Fresh word answer) e = cc
ending_unqueued (modes.Answered word answer) e = cc

abbrev pub AnyAnswer : ℕ → Word → Answer → Type 0
AnyAnswer who word answer = Unit {0}

abbrev pub AnyCall : Call → Type 0
AnyCall call = Unit {0}

module _ {V : Type 0} (p : Program V) where
  abbrev pub Leads : World V → World V → Type 0
  Leads w v = LeadsBy p (Moved p) Unqueued AnyNumber w v

  -- it has no answer in the queue, and may be given one
  abbrev pub MayMove : Coroutine V → Word → Type 0
  MayMove c word = (is_answered c.mode ≡ false) × (1 ≤ p.left c.body)

  pub unqueued : Manner p (Moved p) Unqueued AnyNumber MayMove AnyAnswer AnyCall (IsAlive p)
  unqueued = record {
    answers = λ c word answer r l. (r.0, refl, λ e. r.1);
    pends = λ c call r l. (r.0, refl, λ e. r.1);
    still_answered = λ c word its answer r. (refl, r.1);
    still_pends = λ c word call r. (refl, r.1);
    of_call = λ c call a e. let more = pending_more c.mode call e in (more.1, a.some more.0);
    moved = λ c mode q a. record { real = a.real; some = q.2 };
    born = λ number view b n. record { real = b.real; some = λ e. b.some };
    gone = λ c e. ending_unqueued c.mode e;
  }

  pub lives_leads : (w v : World V) → Leads w v → Lives p w.coroutines → Lives p v.coroutines
  lives_leads w v e l = leads_all p (Moved p) Unqueued AnyNumber MayMove AnyAnswer AnyCall (IsAlive p) unqueued w v e l

  pub numbered_leads : (w v : World V) → Leads w v → Numbered 0 w.coroutines w.last_coroutine → Numbered 0 v.coroutines v.last_coroutine
  numbered_leads w v e n = leads_numbered p (Moved p) Unqueued AnyNumber w v e n

  pub reply_unqueued : (w : World V) (who : ℕ) (word : Word) (answer : Answer) → Runs MayMove w who word → Leads w (reply w who word answer)
  reply_unqueued w who word answer r = reply_leads p (Moved p) Unqueued AnyNumber MayMove AnyAnswer AnyCall (IsAlive p) unqueued w who word answer r tt

  pub enter_unqueued : IsLawful p → (lacks : Bool) (w : World V) (who : ℕ) (view : V) (call : Call) → p.real view ≡ true → Lives p w.coroutines → Runs MayMove w who (word_of call) → call_of w who ≡ None → Leads w (enter p lacks w who view call)
  enter_unqueued law lacks w who view call t l r i =
      enter_leads p (Moved p) Unqueued AnyNumber MayMove AnyAnswer AnyCall (IsAlive p) unqueued law lacks w who view call
      (record { runs = r; idle = i; real = t; refused = λ e f. tt; low = λ f a. tt; births = λ f e. tt; waiting = λ e. tt; waiting_bare = λ e. tt; each = l; met = λ other its answer e. tt })

  pub end_unqueued : (w : World V) (who : ℕ) (outcome : Option Errno) (c : Coroutine V) → coroutine_of w who ≡ Some c → is_answered c.mode ≡ false → Leads w (end w who outcome)
  end_unqueued w who outcome c e f = end_leads p (Moved p) Unqueued AnyNumber MayMove AnyAnswer AnyCall (IsAlive p) unqueued w who outcome c e (f, refl, λ g. cc)

  give_leads : (w : World V) (who : ℕ) (call : Call) (answer : Answer) → Lives p w.coroutines → call_of w who ≡ Some call → Leads w (give w who call answer)
  give_leads w who call answer l e =
      gives_leads p (Moved p) Unqueued AnyNumber MayMove AnyAnswer AnyCall (IsAlive p) unqueued w (give w who call answer) who (word_of call) (pending_runs p (Moved p) Unqueued AnyNumber MayMove AnyAnswer AnyCall (IsAlive p) unqueued w who call l e) (λ a. tt) (give_gives w who call answer)

  hears_leads : (w v : World V) → Lives p w.coroutines → Hears w v → Leads w v
  hears_leads w v l (nobody s) = crew_leads p (Moved p) Unqueued AnyNumber w v s
  hears_leads w v l (one who call e g) = gives_leads p (Moved p) Unqueued AnyNumber MayMove AnyAnswer AnyCall (IsAlive p) unqueued w v who (word_of call) (pending_runs p (Moved p) Unqueued AnyNumber MayMove AnyAnswer AnyCall (IsAlive p) unqueued w who call l e) (λ a. tt) g

  pub heard_leads : (w : World V) (x : Try) (said : Option KernelReply) → Lives p w.coroutines → Leads w (heard w x said)
  heard_leads w x said l = hears_leads w (heard w x said) l (heard_hears w x said)

  pub expire_unqueued : (w : World V) (who : ℕ) → Lives p w.coroutines → Leads w (expire_one w who)
  expire_unqueued w who l = some_leads p (Moved p) Unqueued AnyNumber (call_of w who) w (λ call. give w who call (late_answer call)) (λ call e. give_leads w who call (late_answer call) l e)

  pub settle_unqueued : (w : World V) → Lives p w.coroutines → Numbered 0 w.coroutines w.last_coroutine → Leads w (settle w)
  settle_unqueued w l n =
      settle_leads p (Moved p) Unqueued AnyNumber MayMove AnyAnswer AnyCall (IsAlive p) unqueued (λ v. Unit {0})
      (λ v x i a d. give_leads v x.0 x.1 x.2 a (ap (λ o. if_some o None (λ c. pending_call c.mode)) d.found ∙ d.call)) (λ v i. tt) w tt l n
