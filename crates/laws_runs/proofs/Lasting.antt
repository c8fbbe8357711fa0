-- What one step of a run does to its state, to the count of turns behind a stop, and to its place, where nothing is tried. What each step of a machine keeps lasts so over a whole run.
use Rattle.std.proofs.Common.{◌≡◌, ◌⊎◌, inl, inr, ◌∙◌, ◌+◌, ◌-◌, ℕ, zero, suc, ◌==◌, List, [], length, Option, Some, None, is_some, Bool, true, false, not, ◌||◌, if◌then◌else◌, refl, sym, ap, subst}
use Rattle.rand_core.specs.Stream.{Stream}
use Rattle.dill_base.specs.declared.status.Status.{Status}
use Rattle.dill_base.specs.declared.status.Status.TheVariants as status
use Rattle.dill_calls.specs.declared.ran.LackPlace.{LackPlace}
use Rattle.dill_kernel.specs.declared.ready.Ready.{Ready}
use Rattle.dill_kernel.specs.declared.replies.KernelAsk.{KernelAsk}
use Rattle.dill_kernel.specs.declared.replies.KernelAsk.TheVariants.{Wait}
use Rattle.dill_kernel.specs.declared.replies.KernelReply.{KernelReply}
use Rattle.dill_kernel.specs.declared.replies.KernelReply.TheVariants as reply
use Rattle.dill_kernel.specs.Replay.{reply_to}
use Rattle.dill_drive.specs.Machine.{Machine}
use Rattle.dill_drive.specs.Play.{Playing, advance, advance_at, asks_try, halt_within, lack_of, play, writes}
use Rattle.dill_drive.specs.Story.{Place, Round, Asking, Trying, Turns, Due, Stopping, Closing, Last, Closes, Writing, Over, Config, after_test, after_turn, after_last, after_wait, at, halted, has_ended, is_spent, is_well, one_round, one_turn, one_last, showing, stopped, waiting_lines}

-- places where no stop is behind
abbrev goes_on : Place → Bool
goes_on Closing = false
goes_on Last = false
goes_on (Writing next) = false
goes_on _ = true

abbrev pub is_early : Place → Bool
is_early (Writing next) = goes_on next
is_early other = goes_on other

-- places behind the stop
abbrev pub is_behind : Place → Bool
is_behind Closing = true
is_behind Last = true
is_behind Closes = true
is_behind Over = true
is_behind (Writing Closing) = true
is_behind (Writing Over) = true
is_behind _ = false

on_early : (next : Place) → goes_on next ≡ true → is_early next ≡ true
on_early (Writing next) e = cc
on_early next e = e

none_some : {A : Type 0} (o : Option A) → is_some o ≡ false → o ≡ None
none_some None e = refl
none_some (Some a) e = cc

-- it is to be closed, or its lines are written before
abbrev pub IsClosingPlace : Place → Type 0
IsClosingPlace place = (place ≡ Closing) ⊎ (place ≡ Writing Closing)

module _ {S : Type 0} (m : Machine S) where
  -- the state before a stop
  pub data Changes (s : S) : S → Type 0 where
    stays : {t : S} → t ≡ s → Changes s t
    expires : {t : S} → t ≡ m.expire s → Changes s t
    wakes : {t : S} (told : ℕ) (ready : List Ready) → t ≡ m.woke s told ready → Changes s t
    turns : {t : S} (lack : Option LackPlace) (random : Stream) → t ≡ (m.turn s lack random).0 → Changes s t

  -- a step from one configuration to the next
  pub data Steps (c d : Config S) : Type 0 where
    before : Changes c.state d.state → d.tally.closing ≡ c.tally.closing → is_behind c.place ≡ false → (is_early c.place ≡ true → is_early d.place ≡ true) → Steps c d
    stops : d.state ≡ m.shut c.state → d.tally.closing ≡ c.tally.closing → is_behind c.place ≡ false → IsClosingPlace d.place → Steps c d
    out : c.place ≡ Writing Closing → d.place ≡ Closing → (d.state ≡ c.state) ⊎ (d.state ≡ m.shut c.state) → d.tally.closing ≡ c.tally.closing → Steps c d
    tests : c.place ≡ Closing → d.place ≡ Closes → d.state ≡ c.state → d.tally.closing ≡ c.tally.closing → is_some (m.ended c.state) ≡ true → Steps c d
    goes : c.place ≡ Closing → d.place ≡ Last → d.state ≡ c.state → d.tally.closing ≡ c.tally.closing → m.ended c.state ≡ None → Steps c d
    counts : (lack : Option LackPlace) (random : Stream) → c.place ≡ Last → IsClosingPlace d.place → d.state ≡ (m.turn c.state lack random).0 → d.tally.closing ≡ c.tally.closing + 1 → Steps c d
    sums : c.place ≡ Closes → (d.place ≡ Over) ⊎ (d.place ≡ Writing Over) → d.state ≡ c.state → d.tally.closing ≡ c.tally.closing → Steps c d
    ends : (c.place ≡ Writing Over) ⊎ (c.place ≡ Over) → d.place ≡ Over → d.state ≡ c.state → d.tally.closing ≡ c.tally.closing → Steps c d

  module _ (traced : Bool) (most : ℕ) where
    -- lines are shown before a stop
    shown_by : (b : Bool) (c d : Config S) (next : Place) (lines : List ℕ) → Changes c.state d.state → d.tally.closing ≡ c.tally.closing → is_behind c.place ≡ false → goes_on next ≡ true → Steps c (if b then at m traced most d next else record d { place = Writing next; due = lines })
    shown_by true c d next lines s n q g = before s n q (λ e. on_early next g)
    shown_by false c d next lines s n q g = before s n q (λ e. g)

    -- the root is closed
    stop_by : (b : Bool) (c d : Config S) (lines : List ℕ) → d.state ≡ m.shut c.state → d.tally.closing ≡ c.tally.closing → is_behind c.place ≡ false → Steps c (if b then at m traced most d Closing else record d { place = Writing Closing; due = lines })
    stop_by true c d lines s n q = stops s n q (inl refl)
    stop_by false c d lines s n q = stops s n q (inr refl)

    stopped_from : (c d : Config S) (end : Status) → d.state ≡ c.state → d.tally.closing ≡ c.tally.closing → is_behind c.place ≡ false → Steps c (stopped m traced most d end)
    stopped_from c d end s n q = stop_by _ c (record d { state = m.shut d.state; status = end }) _ (ap m.shut s) n q

    round_by : (ended stuck spent : Bool) (c : Config S) → is_behind c.place ≡ false
        → Steps c (if ended then at m traced most c Closes else (if stuck then showing m traced most (record c { status = status.Stuck }) Stopping (waiting_lines m traced most c.state) else (if spent then stopped m traced most c status.Spent else at m traced most c Asking)))
    round_by true stuck spent c q = before (stays refl) refl q (λ e. refl)
    round_by false true spent c q = shown_by _ c (record c { status = status.Stuck }) Stopping _ (stays refl) refl q refl
    round_by false false true c q = stopped_from c c status.Spent refl refl q
    round_by false false false c q = before (stays refl) refl q (λ e. refl)

    turn_by : (over spent : Bool) (c : Config S) (left : ℕ) → is_behind c.place ≡ false → Steps c (if over then at m traced most c Round else (if spent then stopped m traced most c status.Spent else at m traced most c (Due left)))
    turn_by true spent c left q = before (stays refl) refl q (λ e. refl)
    turn_by false true c left q = stopped_from c c status.Spent refl refl q
    turn_by false false c left q = before (stays refl) refl q (λ e. refl)

    -- whether `main` has ended
    closing_by : (b : Bool) (c : Config S) → c.place ≡ Closing → is_some (m.ended c.state) ≡ b → Steps c (if b then at m traced most c Closes else at m traced most c Last)
    closing_by true c is e = tests is refl refl refl e
    closing_by false c is e = goes is refl refl refl (none_some (m.ended c.state) e)

    last_by : (b : Bool) (c d : Config S) (lack : Option LackPlace) (random : Stream) (lines : List ℕ) → c.place ≡ Last → d.state ≡ (m.turn c.state lack random).0 → d.tally.closing ≡ c.tally.closing + 1 → Steps c (if b then at m traced most d Closing else record d { place = Writing Closing; due = lines })
    last_by true c d lack random lines is s n = counts lack random is (inl refl) s n
    last_by false c d lack random lines is s n = counts lack random is (inr refl) s n

    sum_by : (b : Bool) (c d : Config S) (lines : List ℕ) → c.place ≡ Closes → d.state ≡ c.state → d.tally.closing ≡ c.tally.closing → Steps c (if b then at m traced most d Over else record d { place = Writing Over; due = lines })
    sum_by true c d lines is s n = sums is (inl refl) s n
    sum_by false c d lines is s n = sums is (inr refl) s n

    -- nothing is tried
    tries : (run : Playing S) (place : Place) (try : Option KernelAsk) → run.config.place ≡ place → try ≡ None → Steps run.config (after_test m traced most run.config place) → Steps run.config (asks_try m traced most run try).config
    tries run place None is none h = subst (λ at. Steps run.config (after_test m traced most run.config at)) (sym is) h
    tries run place (Some ask) is none h = cc

    -- a wait
    waited : (c : Config S) (said : KernelReply) → is_behind c.place ≡ false → Steps c (after_wait m traced most c said)
    waited c (reply.Woke moment ready) q = before (wakes moment ready refl) refl q (λ e. refl)
    waited c reply.Done q = stopped_from c (record c { tally = one_round c.tally }) status.Wait refl refl q
    waited c reply.NotYet q = stopped_from c (record c { tally = one_round c.tally }) status.Wait refl refl q
    waited c (reply.Came bytes) q = stopped_from c (record c { tally = one_round c.tally }) status.Wait refl refl q
    waited c (reply.Took n) q = stopped_from c (record c { tally = one_round c.tally }) status.Wait refl refl q
    waited c reply.End q = stopped_from c (record c { tally = one_round c.tally }) status.Wait refl refl q
    waited c (reply.Failed fault) q = stopped_from c (record c { tally = one_round c.tally }) status.Wait refl refl q

    -- the lines go out, or their write fails
    passes : (c d : Config S) (next : Place) → c.place ≡ Writing next → d.place ≡ next → d.state ≡ c.state → d.tally.closing ≡ c.tally.closing → Steps c d
    passes c d Closing is e s n = out is e (inl s) n
    passes c d Over is e s n = ends (inl is) e s n
    passes c d next is e s n = before (stays s) n (ap is_behind is) (λ x. ap is_early e ∙ on_early next (sym (ap is_early is) ∙ x))

    halted_by : (b : Bool) (c : Config S) (next : Place) → is_behind c.place ≡ false → (is_early c.place ≡ true → is_early next ≡ true)
        → Steps c (if b then record c { state = m.shut c.state; place = Closing; due = []; status = status.Sink } else record c { place = next; due = []; status = status.Sink })
    halted_by true c next q k = stops refl refl q (inl refl)
    halted_by false c next q k = before (stays refl) refl q k

    out_by : (b : Bool) (c : Config S) → c.place ≡ Writing Closing
        → Steps c (if b then record c { state = m.shut c.state; place = Closing; due = []; status = status.Sink } else record c { place = Closing; due = []; status = status.Sink })
    out_by true c is = out is refl (inr refl) refl
    out_by false c is = out is refl (inl refl) refl

    halts : (c : Config S) (next : Place) → c.place ≡ Writing next → Steps c (halted m traced most c next)
    halts c Over is = ends (inl is) refl refl refl
    halts c Closing is = out_by (is_well c.status) c is
    halts c next is = halted_by (is_well c.status) c next (ap is_behind is) (λ x. on_early next (sym (ap is_early is) ∙ x))

    wrote : (run : Playing S) (next : Place) (halt : Option ℕ) → run.config.place ≡ Writing next → Steps run.config (writes m traced most run next halt).config
    wrote run next None is = passes run.config (writes m traced most run next None).config next is refl refl refl
    wrote run next (Some count) is = halts run.config next is

    turned_to : (c : Config S) (left : ℕ) (lack : Option LackPlace) → is_behind c.place ≡ false → Steps c (after_turn m traced most c left lack)
    turned_to c left lack q =
        let after = m.turn c.state lack c.keys in
        shown_by _ c (record c { state = after.0; tally = one_turn c.tally lack; keys = after.1 }) (Turns (left - 1)) _ (turns lack c.keys refl) refl q refl

    counted : (c : Config S) (lack : Option LackPlace) → c.place ≡ Last → Steps c (after_last m traced most c lack)
    counted c lack is =
        let after = m.turn c.state lack c.keys in
        last_by _ c (record c { state = after.0; tally = one_last c.tally lack; keys = after.1 }) lack c.keys _ is refl refl

    step_at : (run : Playing S) (place : Place) → run.config.place ≡ place → m.next_try run.config.state ≡ None → Steps run.config (advance_at m traced most run place).config
    step_at run Round is none = round_by (has_ended m traced most run.config) (m.stuck run.config.state) (is_spent m traced most run.config) run.config (ap is_behind is)
    step_at run Asking is none = waited run.config (reply_to (Wait (m.limit run.config.state)) run.replies) (ap is_behind is)
    step_at run Trying is none = tries run Trying (m.next_try run.config.state) is none (shown_by _ run.config (record run.config { state = m.expire run.config.state }) (Turns 64) _ (expires refl) refl (ap is_behind is) refl)
    step_at run (Turns left) is none = turn_by (has_ended m traced most run.config || (not (m.answered run.config.state) || left == 0)) (is_spent m traced most run.config) run.config left (ap is_behind is)
    step_at run (Due left) is none = turned_to run.config left (lack_of m traced most run) (ap is_behind is)
    step_at run Stopping is none = stopped_from run.config run.config run.config.status refl refl (ap is_behind is)
    step_at run Closing is none = closing_by (is_some (m.ended run.config.state)) run.config is refl
    step_at run Last is none = counted run.config (lack_of m traced most run) is
    step_at run Closes is none = tries run Closes (m.next_try run.config.state) is none (sum_by _ run.config (record run.config { status = _ }) _ is refl refl)
    step_at run (Writing next) is none = wrote run next (halt_within run.halt (length run.bytes) (length run.config.due)) is
    step_at run Over is none = ends (inr is) is refl refl

    pub advances : (run : Playing S) → m.next_try run.config.state ≡ None → Steps run.config (advance m traced most run).config
    advances run none = step_at run run.config.place refl none

module _ {S : Type 0} (m : Machine S) (P : S → Type 0) where
  -- each step of the machine keeps it, and nothing is tried where it holds
  pub record Lasts : Type 0 where
    pub woke : (s : S) (told : ℕ) (ready : List Ready) → P s → P (m.woke s told ready)
    pub none : (s : S) → P s → m.next_try s ≡ None
    pub expire : (s : S) → P s → P (m.expire s)
    pub turn : (s : S) (lack : Option LackPlace) (random : Stream) → P s → P (m.turn s lack random).0
    pub shut : (s : S) → P s → P (m.shut s)

module _ {S : Type 0} (m : Machine S) (P : S → Type 0) (lasts : Lasts m P) (traced : Bool) (most : ℕ) where
  changed : (s t : S) → Changes m s t → P s → P t
  changed s t (stays e) h = subst P (sym e) h
  changed s t (expires e) h = subst P (sym e) (lasts.expire s h)
  changed s t (wakes told ready e) h = subst P (sym e) (lasts.woke s told ready h)
  changed s t (turns lack random e) h = subst P (sym e) (lasts.turn s lack random h)

  kept : (c d : Config S) → Steps m c d → P c.state → P d.state
  kept c d (before s n q k) h = changed c.state d.state s h
  kept c d (stops s n q at) h = subst P (sym s) (lasts.shut c.state h)
  kept c d (out is at (inl s) n) h = subst P (sym s) h
  kept c d (out is at (inr s) n) h = subst P (sym s) (lasts.shut c.state h)
  kept c d (tests is at s n e) h = subst P (sym s) h
  kept c d (goes is at s n e) h = subst P (sym s) h
  kept c d (counts lack random is at s n) h = subst P (sym s) (lasts.turn c.state lack random h)
  kept c d (sums is at s n) h = subst P (sym s) h
  kept c d (ends is at s n) h = subst P (sym s) h

  -- so many of them
  pub lasts_over : (n : ℕ) (run : Playing S) → P run.config.state → P (play m traced most n run).config.state
  lasts_over zero run h = h
  lasts_over (suc n) run h = let after = advance m traced most run in lasts_over n after (kept run.config after.config (advances m traced most run (lasts.none run.config.state h)) h)
