-- What a status says of the run that it ends, and of the counts of failures.
use Rattle.std.proofs.Common.{◌≡◌, ◌⊎◌, inl, inr, ◌∙◌, ℕ, Option, Some, None, Bool, true, false, IfNone, IfSome, Result, Ok, Err, OnOk, OnErr, is_err, refl, sym, ap, subst, arith}
use Rattle.dill_base.specs.declared.errno.Errno.{Errno}
use Rattle.dill_base.specs.declared.status.Status.{Status}
use Rattle.dill_base.specs.declared.status.Status.TheVariants as status
use Rattle.dill_base.specs.Causes.{HasCause}
use Rattle.dill_kernel.specs.Entry.{ReplyHasCause}
use Rattle.dill_drive.specs.Progress.{StopsRounds, IsEnd, HasFault, fails_now, is_wait, stops_wait}
use Rattle.dill_drive.specs.Story.{is_sink, is_well, final}

pub err_holds : {T E P : Type 0} (r : Result T E) → is_err r ≡ true → OnErr r P → P
err_holds (Ok x) is p = cc
err_holds (Err e) is p = p

pub ok_holds : {T E P : Type 0} (r : Result T E) → is_err r ≡ false → OnOk r P → P
ok_holds (Ok x) is p = p
ok_holds (Err e) is p = cc

pub not_sink : (st : Status) → (st ≡ status.Sink → ⊥) → is_sink st ≡ false
not_sink status.Sink ne = absurd (ne refl)
not_sink status.Well ne = refl
not_sink status.Fault ne = refl
not_sink status.Words ne = refl
not_sink status.Memory ne = refl
not_sink status.Script ne = refl
not_sink status.Shelf ne = refl
not_sink status.Spent ne = refl
not_sink status.Stuck ne = refl
not_sink status.Wait ne = refl

pub fails_same : (st : Status) → fails_now st st ≡ false
fails_same status.Sink = refl
fails_same status.Well = refl
fails_same status.Fault = refl
fails_same status.Words = refl
fails_same status.Memory = refl
fails_same status.Script = refl
fails_same status.Shelf = refl
fails_same status.Spent = refl
fails_same status.Stuck = refl
fails_same status.Wait = refl

-- where no write had failed before, it is seen in the status whether one has now
pub fails_as : (st now : Status) → is_sink st ≡ false → fails_now st now ≡ is_sink now
fails_as status.Sink now ne = cc
fails_as status.Well now ne = refl
fails_as status.Fault now ne = refl
fails_as status.Words now ne = refl
fails_as status.Memory now ne = refl
fails_as status.Script now ne = refl
fails_as status.Shelf now ne = refl
fails_as status.Spent now ne = refl
fails_as status.Stuck now ne = refl
fails_as status.Wait now ne = refl

pub final_sink : (st : Status) (outcome : Option (Option Errno)) → is_sink (final st outcome) ≡ is_sink st
final_sink status.Well None = refl
final_sink status.Well (Some None) = refl
final_sink status.Well (Some (Some errno)) = refl
final_sink status.Sink outcome = refl
final_sink status.Fault outcome = refl
final_sink status.Words outcome = refl
final_sink status.Memory outcome = refl
final_sink status.Script outcome = refl
final_sink status.Shelf outcome = refl
final_sink status.Spent outcome = refl
final_sink status.Stuck outcome = refl
final_sink status.Wait outcome = refl

-- a stop is no end of `main`
pub is_stop : (st : Status) → (st ≡ status.Well → ⊥) → is_well st ≡ false
is_stop status.Well ne = absurd (ne refl)
is_stop status.Sink ne = refl
is_stop status.Fault ne = refl
is_stop status.Words ne = refl
is_stop status.Memory ne = refl
is_stop status.Script ne = refl
is_stop status.Shelf ne = refl
is_stop status.Spent ne = refl
is_stop status.Stuck ne = refl
is_stop status.Wait ne = refl

pub final_stop : (st : Status) (outcome : Option (Option Errno)) → is_well st ≡ false → final st outcome ≡ st
final_stop status.Well outcome ne = cc
final_stop status.Sink outcome ne = refl
final_stop status.Fault outcome ne = refl
final_stop status.Words outcome ne = refl
final_stop status.Memory outcome ne = refl
final_stop status.Script outcome ne = refl
final_stop status.Shelf outcome ne = refl
final_stop status.Spent outcome ne = refl
final_stop status.Stuck outcome ne = refl
final_stop status.Wait outcome ne = refl

pub status_trans : (st mid end : Status) → (mid ≡ st) ⊎ (mid ≡ status.Sink) → (end ≡ mid) ⊎ (end ≡ status.Sink) → (end ≡ st) ⊎ (end ≡ status.Sink)
status_trans st mid end (inl is) (inl e) = inl (e ∙ is)
status_trans st mid end (inl is) (inr e) = inr e
status_trans st mid end (inr is) (inl e) = inr (e ∙ is)
status_trans st mid end (inr is) (inr e) = inr e

-- the counts
pub cause_ok : {T E : Type 0} (before now : ℕ) (x : T) → HasCause {T = T} {E = E} before now (Ok x) → ReplyHasCause before now false
cause_ok before now x cause = record { later = cause.later; rose = λ never. cc; kept = λ _. cause.kept }

pub cause_err : {T E : Type 0} (before now : ℕ) (e : E) → HasCause {T = T} {E = E} before now (Err e) → ReplyHasCause before now true
cause_err before now e cause = record { later = cause.later; rose = λ _. cause.failed; kept = λ never. cc }

pub cause_same : (before : ℕ) → ReplyHasCause before before false
cause_same before = record { later = omega arith; rose = λ never. cc; kept = λ _. refl }

-- nothing failed, and then what may have
pub cause_after : (a b c : ℕ) (failed : Bool) → b ≡ a → ReplyHasCause b c failed → ReplyHasCause a c failed
cause_after a b c failed same p = subst (λ (n : ℕ). ReplyHasCause n c failed) same p

pub cause_before : (a b c : ℕ) (failed : Bool) → c ≡ b → ReplyHasCause a b failed → ReplyHasCause a c failed
cause_before a b c failed same p = subst (λ (n : ℕ). ReplyHasCause a n failed) (sym same) p

pub cause_as : (a b : ℕ) (x y : Bool) → x ≡ y → ReplyHasCause a b x → ReplyHasCause a b y
cause_as a b x y same p = subst (λ (failed : Bool). ReplyHasCause a b failed) same p

-- a failure that hadn't come before, in the first part or in the second
pub cause_trans : (st mid end : Status) (a b c : ℕ) → (mid ≡ st) ⊎ (mid ≡ status.Sink) → (end ≡ mid) ⊎ (end ≡ status.Sink) → ReplyHasCause a b (fails_now st mid) → ReplyHasCause b c (fails_now mid end) → ReplyHasCause a c (fails_now st end)
cause_trans st mid end a b c (inl is) js p q =
    let quiet : ReplyHasCause a b false = cause_as a b (fails_now st mid) false (ap (fails_now st) is ∙ fails_same st) p in
    cause_after a b c (fails_now st end) (quiet.kept refl) (subst (λ (x : Status). ReplyHasCause b c (fails_now x end)) is q)
cause_trans st mid end a b c (inr is) js p q =
    let last : end ≡ status.Sink = ends mid end is js in
    let quiet : ReplyHasCause b c false = subst (λ (x : Status). ReplyHasCause b c (fails_now x end)) is q in
    cause_before a b c (fails_now st end) (quiet.kept refl) (subst (λ (x : Status). ReplyHasCause a b (fails_now st x)) (is ∙ sym last) p)
  where
    ends : (mid end : Status) → mid ≡ status.Sink → (end ≡ mid) ⊎ (end ≡ status.Sink) → end ≡ status.Sink
    ends mid end is (inl e) = e ∙ is
    ends mid end is (inr e) = e

pub fails_final : (st now : Status) (outcome : Option (Option Errno)) → (st ≡ status.Sink → ⊥) → now ≡ final st outcome → fails_now st now ≡ false
fails_final st now outcome ne is = ap (fails_now st) is ∙ fails_as st (final st outcome) (not_sink st ne) ∙ final_sink st outcome ∙ not_sink st ne

pub if_none_map : {A P Q : Type 0} (o : Option A) → (P → Q) → IfNone o P → IfNone o Q
if_none_map None f p = f p
if_none_map (Some x) f p = tt

pub if_some_map : {A : Type 0} {P Q : A → Type 0} (o : Option A) → ((x : A) → P x → Q x) → IfSome o P → IfSome o Q
if_some_map None f p = tt
if_some_map (Some x) f p = f x p

pub stop_of : (stop : Status) → (stop ≡ status.Well) ⊎ StopsRounds stop → (stop ≡ status.Well → ⊥) → StopsRounds stop
stop_of stop (inl e) ne = absurd (ne e)
stop_of stop (inr is) ne = is

stop_ends : (stop : Status) → StopsRounds stop → IsEnd stop
stop_ends status.Sink is = tt
stop_ends status.Spent is = tt
stop_ends status.Stuck is = tt
stop_ends status.Wait is = tt
stop_ends stop is = absurd is

-- how the rounds ended is how the run ended, but for a failed write and for how `main` ended
lasts : (stop last : Status) → (stop ≡ status.Well) ⊎ StopsRounds stop → (last ≡ stop) ⊎ (last ≡ status.Sink) → (last ≡ status.Well) ⊎ StopsRounds last
lasts stop last (inl well) (inl e) = inl (e ∙ well)
lasts stop last (inr is) (inl e) = inr (subst StopsRounds (sym e) is)
lasts stop last way (inr e) = inr (subst StopsRounds (sym e) tt)

final_well : (outcome : Option (Option Errno)) → IsEnd (final status.Well outcome)
final_well None = tt
final_well (Some None) = tt
final_well (Some (Some errno)) = tt

final_ends : (last now : Status) (outcome : Option (Option Errno)) → (last ≡ status.Well) ⊎ StopsRounds last → (now ≡ final last outcome) ⊎ (now ≡ status.Sink) → IsEnd now
final_ends last now outcome way (inr e) = subst IsEnd (sym e) tt
final_ends last now outcome (inl well) (inl e) = subst IsEnd (sym (e ∙ ap (λ (s : Status). final s outcome) well)) (final_well outcome)
final_ends last now outcome (inr is) (inl e) = subst IsEnd (sym (e ∙ final_stop last outcome (stops_not_well last is))) (stop_ends last is)
  where
    stops_not_well : (s : Status) → StopsRounds s → is_well s ≡ false
    stops_not_well status.Sink is = refl
    stops_not_well status.Spent is = refl
    stops_not_well status.Stuck is = refl
    stops_not_well status.Wait is = refl
    stops_not_well s is = absurd is

pub run_ends : (stop last now : Status) (outcome : Option (Option Errno)) → (stop ≡ status.Well) ⊎ StopsRounds stop → (last ≡ stop) ⊎ (last ≡ status.Sink) → (now ≡ final last outcome) ⊎ (now ≡ status.Sink) → IsEnd now
run_ends stop last now outcome way is ends = final_ends last now outcome (lasts stop last way is) ends

-- what is said of no end of `main` and of no failed write was said of the stop
final_back : (P : Status → Type 0) → (P status.Well → ⊥) → (P status.Fault → ⊥) → (last : Status) (outcome : Option (Option Errno)) → P (final last outcome) → P last
final_back P well fault status.Well None p = p
final_back P well fault status.Well (Some None) p = p
final_back P well fault status.Well (Some (Some errno)) p = absurd (fault p)
final_back P well fault status.Sink outcome p = p
final_back P well fault status.Fault outcome p = p
final_back P well fault status.Words outcome p = p
final_back P well fault status.Memory outcome p = p
final_back P well fault status.Script outcome p = p
final_back P well fault status.Shelf outcome p = p
final_back P well fault status.Spent outcome p = p
final_back P well fault status.Stuck outcome p = p
final_back P well fault status.Wait outcome p = p

pub of_stop : (P : Status → Type 0) → (P status.Well → ⊥) → (P status.Fault → ⊥) → (P status.Sink → ⊥) → (stop last now : Status) (outcome : Option (Option Errno)) → (last ≡ stop) ⊎ (last ≡ status.Sink) → (now ≡ final last outcome) ⊎ (now ≡ status.Sink) → P now → P stop
of_stop P well fault sink stop last now outcome is (inr e) p = absurd (sink (subst P e p))
of_stop P well fault sink stop last now outcome (inl e) (inl f) p = subst P e (final_back P well fault last outcome (subst P f p))
of_stop P well fault sink stop last now outcome (inr e) (inl f) p = absurd (sink (subst P e (final_back P well fault last outcome (subst P f p))))

-- where `main` ended with an errno
final_fault : (outcome : Option (Option Errno)) → final status.Well outcome ≡ status.Fault → HasFault outcome
final_fault None e = cc
final_fault (Some None) e = cc
final_fault (Some (Some errno)) e = tt

fault_by : (last : Status) (outcome : Option (Option Errno)) → (last ≡ status.Well) ⊎ StopsRounds last → final last outcome ≡ status.Fault → HasFault outcome
fault_by last outcome (inl well) e = final_fault outcome (sym (ap (λ (s : Status). final s outcome) well) ∙ e)
fault_by status.Sink outcome (inr is) e = cc
fault_by status.Spent outcome (inr is) e = cc
fault_by status.Stuck outcome (inr is) e = cc
fault_by status.Wait outcome (inr is) e = cc
fault_by last outcome (inr is) e = absurd is

pub run_faulted : (stop last now : Status) (outcome : Option (Option Errno)) → (stop ≡ status.Well) ⊎ StopsRounds stop → (last ≡ stop) ⊎ (last ≡ status.Sink) → (now ≡ final last outcome) ⊎ (now ≡ status.Sink) → now ≡ status.Fault → HasFault outcome
run_faulted stop last now outcome way is (inl e) f = fault_by last outcome (lasts stop last way is) (sym e ∙ f)
run_faulted stop last now outcome way is (inr e) f = cc

-- a failed write stays one
pub sink_stays : (stop now : Status) → (now ≡ stop) ⊎ (now ≡ status.Sink) → is_sink stop ≡ true → is_sink now ≡ true
sink_stays stop now (inl e) failed = ap is_sink e ∙ failed
sink_stays stop now (inr e) failed = ap is_sink e

pub sink_final : (last now : Status) (outcome : Option (Option Errno)) → (now ≡ final last outcome) ⊎ (now ≡ status.Sink) → is_sink last ≡ true → is_sink now ≡ true
sink_final last now outcome (inl e) failed = ap is_sink e ∙ final_sink last outcome ∙ failed
sink_final last now outcome (inr e) failed = ap is_sink e

is_failed : (st : Status) → is_sink st ≡ true → st ≡ status.Sink
is_failed status.Sink e = refl
is_failed status.Well e = cc
is_failed status.Fault e = cc
is_failed status.Words e = cc
is_failed status.Memory e = cc
is_failed status.Script e = cc
is_failed status.Shelf e = cc
is_failed status.Spent e = cc
is_failed status.Stuck e = cc
is_failed status.Wait e = cc

-- the failures of a part, and those after it
pub cause_then : (stop now : Status) (a b c : ℕ) → (is_sink stop ≡ true → is_sink now ≡ true) → ReplyHasCause a b (is_sink stop) → ReplyHasCause b c (fails_now stop now) → ReplyHasCause a c (is_sink now)
cause_then stop now a b c stays p q = by_sink (is_sink stop) refl
  where
    by_sink : (failed : Bool) → is_sink stop ≡ failed → ReplyHasCause a c (is_sink now)
    by_sink false e =
        let quiet : ReplyHasCause a b false = cause_as a b (is_sink stop) false e p in
        cause_after a b c (is_sink now) (quiet.kept refl) (cause_as b c (fails_now stop now) (is_sink now) (fails_as stop now e) q)
    by_sink true e =
        let after : ReplyHasCause b c false = cause_as b c (fails_now stop now) false (ap (λ (st : Status). fails_now st now) (is_failed stop e)) q in
        let first : ReplyHasCause a b (is_sink now) = cause_as a b (is_sink stop) (is_sink now) (e ∙ sym (stays e)) p in
        cause_before a b c (is_sink now) (after.kept refl) first

-- a write failed in a run that nothing had stopped, and then none did
pub cause_sunk : (now : Status) (a b c : ℕ) → (now ≡ status.Sink) ⊎ (now ≡ status.Sink) → ReplyHasCause a b true → ReplyHasCause b c (fails_now status.Sink now) → ReplyHasCause a c (fails_now status.Well now)
cause_sunk now a b c (inl e) p q = cause_before a b c (fails_now status.Well now) (q.kept refl) (cause_as a b true (fails_now status.Well now) (sym (ap is_sink e)) p)
cause_sunk now a b c (inr e) p q = cause_before a b c (fails_now status.Well now) (q.kept refl) (cause_as a b true (fails_now status.Well now) (sym (ap is_sink e)) p)

pub sunk : (now : Status) → (now ≡ status.Sink) ⊎ (now ≡ status.Sink) → (now ≡ status.Well) ⊎ (now ≡ status.Sink)
sunk now (inl e) = inr e
sunk now (inr e) = inr e

-- no wait failed
pub no_wait : {A : Type 0} (stop other : Status) → (stop ≡ other) ⊎ (stop ≡ status.Sink) → is_wait other ≡ false → is_wait stop ≡ true → A
no_wait stop other (inl e) not e' = cc (ap is_wait e, not, e')
no_wait stop other (inr e) not e' = cc (ap is_wait e, e')

-- a part without a failed write, and then what may have failed
pub cause_after_ok : {T E : Type 0} (a b c : ℕ) (failed : Bool) (r : Result T E) → is_err r ≡ false → HasCause a b r → ReplyHasCause b c failed → ReplyHasCause a c failed
cause_after_ok a b c failed (Ok x) fine cause more = cause_after a b c failed cause.kept more
cause_after_ok a b c failed (Err e) fine cause more = cc

pub no_wait_in : {A : Type 0} (o : Option Status) → IfSome o (λ stop. (stop ≡ status.Spent) ⊎ (stop ≡ status.Sink)) → stops_wait o ≡ true → A
no_wait_in None is failed = cc
no_wait_in (Some stop) is failed = no_wait stop status.Spent is refl failed
