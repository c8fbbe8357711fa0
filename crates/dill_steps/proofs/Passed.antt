-- Where the numbers of coroutines rise, one that is answered is gone from the passed deadlines, and the others stay.
use Rattle.std.proofs.Common.{◌≡◌, ◌∙◌, ℕ, ◌<◌, ◌==◌, List, [], ◌∷◌, map, find, filter_map, Bool, true, false, cond, Option, Some, None, if◌then◌else◌, nat_le, refl, sym, ap, subst, arith}
use Rattle.std.specs.List.{cons_option}
use Rattle.dill_calls.specs.declared.answer.Answer.{Answer}
use Rattle.dill_calls.specs.declared.call.Call.{Call}
use Rattle.dill_calls.specs.declared.call.Call.TheVariants as calls
use Rattle.dill_calls.specs.declared.word.Word.TheVariants as words
use Rattle.dill_calls.specs.CallTable.{word_of}
use Rattle.dill_base.specs.Maps.{if_some, change, without}
use Rattle.dill_rules.specs.declared.coroutine.Coroutine.{Coroutine}
use Rattle.dill_rules.specs.declared.coroutine.Mode.{Mode}
use Rattle.dill_rules.specs.declared.coroutine.Mode.TheVariants as modes
use Rattle.dill_rules.specs.World.{is_coroutine, with_mode, pending_call, coroutine_of, call_of, reply}
use Rattle.dill_rules.specs.Owning.{free_bundle, is_dead_as}
use Rattle.dill_rules.specs.Entering.{late_answer}
use Rattle.dill_rules.specs.Giving.{give}
use Rattle.dill_rules.specs.Expiring as expiring
use Rattle.dill_rules.specs.Expiring.{Timer, is_earlier, timer_of, due_of, in_order, passed, expire_one}
use Rattle.dill_rules.specs.declared.coroutine.Closing.{Closing}
use Rattle.dill_world.specs.Store.{Store, world_of, may_wait, is_plain_mode, is_plain_row, ArePlain}
use Rattle.dill_steps.specs.Timing.{late_timer, Rises}
use Rattle.dill_world.proofs.Each.{all_found}

abbrev pub is_of : ℕ → Timer → Bool
is_of who t = t.who == who

abbrev pub Rising : ℕ → List Timer → Type 0
Rising low [] = Unit {0}
Rising low (t ∷ ts) = (low < t.who) × Rising t.who ts

not_same : (m n : ℕ) → m < n → (m == n) ≡ false
not_same m n h = grind arith

itself : (n : ℕ) → (n == n) ≡ true
itself n = grind arith

same_number : (m n : ℕ) → (m == n) ≡ true → m ≡ n
same_number m n e = grind arith

lower : (low high : ℕ) (ts : List Timer) → low < high → Rising high ts → Rising low ts
lower low high [] h r = tt
lower low high (t ∷ ts) h r = (omega (arith, h, r.0), r.1)

none_of : (n low : ℕ) (ts : List Timer) → n ≡ low → Rising low ts → without (is_of n) ts ≡ ts
none_of n low [] e r = refl
none_of n low (t ∷ ts) e r =
    let off : (t.who == n) ≡ false = grind (arith, e, r.0) in
    rw off (ap (λ xs. t ∷ xs) (none_of n n ts refl (lower n t.who ts (omega (arith, e, r.0)) r.1)))

-- what is left where the first has gone
First : List Timer → ℕ → Timer → List Timer → Type 0
First ts low x ys = (in_order (without (is_of x.who) ts) ≡ ys) × (low < x.who)

first_placed : (b : Bool) (low : ℕ) (t c : Timer) (ts cs : List Timer) (x : Timer) (ys : List Timer) → low < t.who → in_order ts ≡ c ∷ cs → in_order (without (is_of c.who) ts) ≡ cs → t.who < c.who → cond b (t ∷ c ∷ cs) (c ∷ expiring.placed t cs) ≡ x ∷ ys → First (t ∷ ts) low x ys
unfolding First
first_placed true low t c ts cs x ys l o r h e =
    let x_is : t ≡ x = cc in
    let ys_is : c ∷ cs ≡ ys = cc in
    subst (λ z. (in_order (without (is_of z.who) (t ∷ ts)) ≡ ys) × (low < z.who)) x_is (rw (itself t.who) (o ∙ ys_is), l)
first_placed false low t c ts cs x ys l o r h e =
    let x_is : c ≡ x = cc in
    let ys_is : expiring.placed t cs ≡ ys = cc in
    subst (λ z. (in_order (without (is_of z.who) (t ∷ ts)) ≡ ys) × (low < z.who)) x_is (rw (not_same t.who c.who h) (ap (expiring.placed t) r ∙ ys_is), omega (arith, l, h))

first_in : (low : ℕ) (t : Timer) (ts os : List Timer) (x : Timer) (ys : List Timer) → low < t.who → in_order ts ≡ os → ((y : Timer) (zs : List Timer) → in_order ts ≡ y ∷ zs → First ts t.who y zs) → expiring.placed t os ≡ x ∷ ys → First (t ∷ ts) low x ys
unfolding First
first_in low t ts [] x ys l o again e =
    let x_is : t ≡ x = cc in
    let ys_is : ◌≡◌ {A = List Timer} [] ys = cc in
    subst (λ z. (in_order (without (is_of z.who) (t ∷ ts)) ≡ ys) × (low < z.who)) x_is (rw (itself t.who) (o ∙ ys_is), l)
first_in low t ts (c ∷ cs) x ys l o again e =
    let r = again c cs o in
    first_placed (is_earlier t c) low t c ts cs x ys l o r.0 r.1 e

first : (ts : List Timer) (low : ℕ) (x : Timer) (ys : List Timer) → Rising low ts → in_order ts ≡ x ∷ ys → First ts low x ys
first [] low x ys r e = cc
first (t ∷ ts) low x ys r e = first_in low t ts (in_order ts) x ys r.0 refl (λ y zs h. first ts t.who y zs r.1 h) e

next_at : (who : ℕ) (ts os : List Timer) (rest : List ℕ) → Rising 0 ts → in_order ts ≡ os → map (λ x. x.who) os ≡ who ∷ rest → map (λ x. x.who) (in_order (without (is_of who) ts)) ≡ rest
unfolding First
next_at who ts [] rest r o e = cc
next_at who ts (x ∷ xs) rest r o e =
    let who_is : x.who ≡ who = cc in
    let rest_is : map (λ y. y.who) xs ≡ rest = cc in
    let f = first ts 0 x xs r o in
    subst (λ n. map (λ y. y.who) (in_order (without (is_of n) ts)) ≡ rest) who_is (ap (map (λ y. y.who)) f.0 ∙ rest_is)

module _ (moment : ℕ) where
  who_of_late : (b : Bool) (t u : Timer) → (if b then Some t else None) ≡ Some u → t ≡ u
  who_of_late true t u e = cc
  who_of_late false t u e = cc

  who_of_due : (n : ℕ) (o : Option ℕ) (u : Timer) → if_some (if_some o None (λ due. Some (record { due = due; who = n }))) None (λ x. if nat_le x.due moment then Some x else None) ≡ Some u → u.who ≡ n
  who_of_due n None u e = cc
  who_of_due n (Some due) u e = sym (ap (λ t. t.who) (who_of_late (nat_le due moment) (record { due = due; who = n }) u e))

  who_of_call : (n : ℕ) (o : Option Call) (u : Timer) → if_some (if_some o None (λ call. if_some (due_of call) None (λ due. Some (record { due = due; who = n })))) None (λ x. if nat_le x.due moment then Some x else None) ≡ Some u → u.who ≡ n
  who_of_call n None u e = cc
  who_of_call n (Some call) u e = who_of_due n (due_of call) u e

module _ {V : Type 0} (moment : ℕ) where
  who_of : (c : Coroutine V) (u : Timer) → late_timer moment c ≡ Some u → u.who ≡ c.number
  who_of c u e = who_of_call moment c.number (pending_call c.mode) u e

  rising_at : (low : ℕ) (c : Coroutine V) (o : Option Timer) (ts : List Timer) → late_timer moment c ≡ o → low < c.number → Rising c.number ts → Rising low (cons_option o ts)
  rising_at low c None ts e h r = lower low c.number ts h r
  rising_at low c (Some t) ts e h r = let it : t.who ≡ c.number = who_of c t e in (rw it h, rw it r)

  rising : (low : ℕ) (cs : List (Coroutine V)) → Rises low cs → Rising low (filter_map (late_timer moment) cs)
  rising low [] r = tt
  rising low (c ∷ cs) r = rising_at low c (late_timer moment c) (filter_map (late_timer moment) cs) refl r.0 (rising c.number cs r.1)

  here : (who : ℕ) (c : Coroutine V) (o : Option Timer) (ts : List Timer) → late_timer moment c ≡ o → c.number ≡ who → Rising c.number ts → ts ≡ without (is_of who) (cons_option o ts)
  here who c None ts e n r = sym (none_of who c.number ts (sym n) r)
  here who c (Some t) ts e n r = let it : (t.who == who) ≡ true = rw (who_of c t e ∙ n) (itself who) in rw it refl

  there : (who : ℕ) (c : Coroutine V) (o : Option Timer) (ts us : List Timer) → late_timer moment c ≡ o → (c.number == who) ≡ false → us ≡ without (is_of who) ts → cons_option o us ≡ without (is_of who) (cons_option o ts)
  there who c None ts us e n h = h
  there who c (Some t) ts us e n h = let it : (t.who == who) ≡ false = rw (who_of c t e) n in rw it (ap (λ xs. t ∷ xs) h)

  gone_at : (b : Bool) (who : ℕ) (mode : Mode) (c : Coroutine V) (cs : List (Coroutine V)) → (c.number == who) ≡ b → pending_call mode ≡ None → Rises c.number cs → filter_map (late_timer moment) (change (is_coroutine who) (with_mode mode) cs) ≡ without (is_of who) (filter_map (late_timer moment) cs) → filter_map (late_timer moment) (cond b (with_mode mode c ∷ cs) (c ∷ change (is_coroutine who) (with_mode mode) cs)) ≡ without (is_of who) (filter_map (late_timer moment) (c ∷ cs))
  gone_at true who mode c cs e m r h = rw m (here who c (late_timer moment c) (filter_map (late_timer moment) cs) refl (same_number c.number who e) (rising c.number cs r))
  gone_at false who mode c cs e m r h = there who c (late_timer moment c) (filter_map (late_timer moment) cs) (filter_map (late_timer moment) (change (is_coroutine who) (with_mode mode) cs)) refl e h

  gone : (who : ℕ) (mode : Mode) (low : ℕ) (cs : List (Coroutine V)) → pending_call mode ≡ None → Rises low cs → filter_map (late_timer moment) (change (is_coroutine who) (with_mode mode) cs) ≡ without (is_of who) (filter_map (late_timer moment) cs)
  gone who mode low [] m r = refl
  gone who mode low (c ∷ cs) m r = gone_at (c.number == who) who mode c cs refl m r.1 (gone who mode c.number cs m r.1)

  -- the next of the passed ones
  pub next_passed : (who : ℕ) (rest : List ℕ) (mode : Mode) (cs : List (Coroutine V)) → pending_call mode ≡ None → Rises 0 cs → map (λ x. x.who) (in_order (filter_map (late_timer moment) cs)) ≡ who ∷ rest → map (λ x. x.who) (in_order (filter_map (late_timer moment) (change (is_coroutine who) (with_mode mode) cs))) ≡ rest
  next_passed who rest mode cs m r e =
      ap (λ ts. map (λ x. x.who) (in_order ts)) (gone who mode 0 cs m r)
      ∙ next_at who (filter_map (late_timer moment) cs) (in_order (filter_map (late_timer moment) cs)) rest (rising 0 cs r) refl e

  silent : (c : Coroutine V) → pending_call c.mode ≡ None → late_timer moment c ≡ None
  silent c e = rw e refl

  quiet_at : (b : Bool) (who : ℕ) (mode : Mode) (c : Coroutine V) (cs : List (Coroutine V)) → pending_call mode ≡ None → if_some (cond b (Some c) (find (is_coroutine who) cs)) None (λ x. pending_call x.mode) ≡ None → (if_some (find (is_coroutine who) cs) None (λ x. pending_call x.mode) ≡ None → filter_map (late_timer moment) (change (is_coroutine who) (with_mode mode) cs) ≡ filter_map (late_timer moment) cs) → filter_map (late_timer moment) (cond b (with_mode mode c ∷ cs) (c ∷ change (is_coroutine who) (with_mode mode) cs)) ≡ filter_map (late_timer moment) (c ∷ cs)
  quiet_at true who mode c cs m e h = ap (λ o. cons_option o (filter_map (late_timer moment) cs)) (silent (with_mode mode c) m ∙ sym (silent c e))
  quiet_at false who mode c cs m e h = ap (cons_option (late_timer moment c)) (h e)

  quiet : (who : ℕ) (mode : Mode) (cs : List (Coroutine V)) → pending_call mode ≡ None → if_some (find (is_coroutine who) cs) None (λ x. pending_call x.mode) ≡ None → filter_map (late_timer moment) (change (is_coroutine who) (with_mode mode) cs) ≡ filter_map (late_timer moment) cs
  quiet who mode [] m e = refl
  quiet who mode (c ∷ cs) m e = quiet_at (c.number == who) who mode c cs m e (quiet who mode cs m)

waits_at : (mode : Mode) (call : Call) → is_plain_mode mode ≡ true → pending_call mode ≡ Some call → may_wait call ≡ true
waits_at (modes.Pending other) call h e = let it : other ≡ call = cc in subst (λ x. may_wait x ≡ true) it h
waits_at _ call h e = cc

module _ {V : Type 0} where
  abbrev passed_in : ℕ → List (Coroutine V) → List ℕ
  passed_in moment cs = map (λ x. x.who) (in_order (filter_map (late_timer moment) cs))

  closed : (k : Store V) (who : ℕ) (o : Option Closing) (answer : Answer) → passed (reply (if_some o (world_of k) (free_bundle (world_of k))) who words.Hclose answer) ≡ passed_in k.moment (change (is_coroutine who) (with_mode (modes.Fresh words.Hclose answer)) k.coroutines)
  closed k who None answer = refl
  closed k who (Some x) answer = refl

  given : (k : Store V) (who : ℕ) (call : Call) (answer : Answer) → may_wait call ≡ true → passed (give (world_of k) who call answer) ≡ passed_in k.moment (change (is_coroutine who) (with_mode (modes.Fresh (word_of call) answer)) k.coroutines)
  given k who (calls.Msleep deadline) answer e = refl
  given k who (calls.BundleWait number deadline) answer e = refl
  given k who (calls.Chsend number bytes deadline) answer e = refl
  given k who (calls.Chrecv number size deadline) answer e = refl
  given k who (calls.Choose deadline all) answer e = refl
  given k who (calls.Hclose number) answer e = closed k who (find (is_dead_as number) k.closings) answer
  given k who _ answer e = cc

  waits : (o : Option (Coroutine V)) (call : Call) → ((c : Coroutine V) → o ≡ Some c → is_plain_row c ≡ true) → if_some o None (λ c. pending_call c.mode) ≡ Some call → may_wait call ≡ true
  waits None call h e = cc
  waits (Some c) call h e = waits_at c.mode call (h c refl) e

  by_call : (k : Store V) (who : ℕ) (rest : List ℕ) (o : Option Call) → call_of (world_of k) who ≡ o → ArePlain k.coroutines → Rises 0 k.coroutines → passed_in k.moment k.coroutines ≡ who ∷ rest → passed (if_some o (world_of k) (λ call. give (world_of k) who call (late_answer call))) ≡ rest
  by_call k who rest None f plain rises e =
      ap (λ ts. map (λ x. x.who) (in_order ts)) (sym (quiet k.moment who modes.Running k.coroutines refl f))
      ∙ next_passed k.moment who rest modes.Running k.coroutines refl rises e
  by_call k who rest (Some call) f plain rises e =
      given k who call (late_answer call) (waits (coroutine_of (world_of k) who) call (λ c h. all_found is_plain_row (is_coroutine who) k.coroutines c plain h) f)
      ∙ next_passed k.moment who rest (modes.Fresh (word_of call) (late_answer call)) k.coroutines refl rises e

  -- the passed deadlines are given up one after the other
  pub one_by_one : (k : Store V) (who : ℕ) (rest : List ℕ) → ArePlain k.coroutines → Rises 0 k.coroutines → passed (world_of k) ≡ who ∷ rest → passed (expire_one (world_of k) who) ≡ rest
  one_by_one k who rest plain rises e = by_call k who rest (call_of (world_of k) who) refl plain rises e
