-- After a stop a run goes to its end, and after a failed write it shows nothing more.
use Rattle.std.proofs.Common.{◌≡◌, ◌⊎◌, inl, inr, ◌∙◌, ℕ, ◌-◌, List, [], ◌++◌, Option, Some, None, Bool, true, false, ◌||◌, if◌then◌else◌, refl, sym, ap, subst}
use Rattle.dill_base.specs.declared.status.Status.{Status}
use Rattle.dill_base.specs.declared.status.Status.TheVariants as status
use Rattle.dill_calls.specs.declared.ran.LackPlace.{LackPlace}
use Rattle.dill_kernel.specs.declared.replies.KernelAsk.{KernelAsk}
use Rattle.dill_kernel.specs.declared.replies.KernelReply.{KernelReply}
use Rattle.dill_kernel.specs.declared.replies.KernelReply.TheVariants as reply
use Rattle.dill_kernel.specs.Entry.{fits}
use Rattle.relay_trace.specs.Lines.{ran_bytes}
use Rattle.dill_drive.specs.declared.tally.Tally.{Tally}
use Rattle.dill_drive.specs.Machine.{Machine, may_be}
use Rattle.dill_drive.specs.Story.{Place, Round, Asking, Trying, Turns, Due, Stopping, Closing, Last, Closes, Writing, Over, Config, is_sink, is_well, is_empty, showing, notes_of, stopped, finished, has_ended, is_spent, waiting_lines, after_test, after_wait, after_try, written, halted, final, summary_of, one_round, one_turn, one_last, lacks_by}
use Rattle.dill_drive.specs.Leading.{Event, Passed, Replied, Turned, Wrote, Halted, step, unless_try, by_test, asked, heard, by_reply, by_turn, by_write, by_halt, bytes_by, is_proper_part}

-- places behind a stop
abbrev pub ends : Place → Bool
ends Stopping = true
ends Closing = true
ends Last = true
ends Closes = true
ends Over = true
ends other = false

abbrev pub late : Place → Bool
late (Writing next) = ends next
late other = ends other

-- what is due leads on
pub some_is : {A : Type 0} {x y : A} → Some x ≡ Some y → x ≡ y
some_is e = cc

pub tested : {A : Type 0} {x y : A} (b : Bool) → (if b then Some x else None) ≡ Some y → (b ≡ true) × (x ≡ y)
tested true e = (refl, cc)
tested false e = cc

module _ {S : Type 0} (m : Machine S) (traced : Bool) (most : ℕ) where
  -- nothing has stopped the run, or it is on its way to the end
  abbrev pub Good : Config S → Type 0
  Good c = (is_well c.status ≡ true) ⊎ (late c.place ≡ true)

  -- a write has failed, and the run is on its way to the end
  pub record Silent (c : Config S) : Type 0 where
    pub failed : c.status ≡ status.Sink
    pub place : ends c.place ≡ true

  by_branch : (b : Bool) (c : Config S) (next : Place) (lines : List ℕ) → (is_well c.status ≡ true) ⊎ (ends next ≡ true) → late next ≡ ends next
      → Good (if b then record c { place = next } else record c { place = Writing next; due = lines })
  by_branch true c next lines (inl well) same = inl well
  by_branch true c next lines (inr end) same = inr (same ∙ end)
  by_branch false c next lines (inl well) same = inl well
  by_branch false c next lines (inr end) same = inr end

  shows_good : (c : Config S) (next : Place) (lines : List ℕ) → (is_well c.status ≡ true) ⊎ (ends next ≡ true) → late next ≡ ends next → Good (showing m traced most c next lines)
  shows_good c next lines is same = by_branch (is_sink c.status || is_empty lines) c next lines is same

  stopped_good : (c : Config S) (stop : Status) → Good (stopped m traced most c stop)
  stopped_good c stop = shows_good (record c { state = m.shut c.state; status = stop }) Closing (notes_of m traced most (m.shut c.state)) (inr refl) refl

  -- where nothing has stopped the run before a place
  is_early : (c : Config S) (place : Place) → c.place ≡ place → late place ≡ false → Good c → is_well c.status ≡ true
  is_early c place is early (inl well) = well
  is_early c place is early (inr end) = cc (ap late is, early, end)

  round_good : (c : Config S) (a b d : Bool) → is_well c.status ≡ true
      → Good (if a then record c { place = Closes } else (if b then showing m traced most (record c { status = status.Stuck }) Stopping (waiting_lines m traced most c.state) else (if d then stopped m traced most c status.Spent else record c { place = Asking })))
  round_good c true b d well = inr refl
  round_good c false true d well = shows_good (record c { status = status.Stuck }) Stopping (waiting_lines m traced most c.state) (inr refl) refl
  round_good c false false true well = stopped_good c status.Spent
  round_good c false false false well = inl well

  turn_good : (c : Config S) (left : ℕ) (a b : Bool) → is_well c.status ≡ true → Good (if a then record c { place = Round } else (if b then stopped m traced most c status.Spent else record c { place = Due left }))
  turn_good c left true b well = inl well
  turn_good c left false true well = stopped_good c status.Spent
  turn_good c left false false well = inl well

  closing_good : (c : Config S) (a : Bool) → Good (if a then record c { place = Closes } else record c { place = Last })
  closing_good c true = inr refl
  closing_good c false = inr refl

  finished_good : (c : Config S) (end : Status) → Good (finished m traced most c end)
  finished_good c end = shows_good (record c { status = end }) Over (summary_of end (m.ended c.state) c.tally (m.made c.state) (m.gone c.state)) (inr refl) refl

  tried_good : (c : Config S) (try : Option KernelAsk) (next : Config S) → unless_try m traced most c try ≡ Some next → (try ≡ None → Good (after_test m traced most c c.place)) → Good next
  tried_good c None next e good = subst Good (some_is e) (good refl)
  tried_good c (Some ask) next e good = cc

  test_good : (c : Config S) (place : Place) (next : Config S) → c.place ≡ place → Good c → by_test m traced most c place ≡ Some next → Good next
  test_good c Round next is good e = subst Good (some_is e) (round_good c (has_ended m traced most c) (m.stuck c.state) (is_spent m traced most c) (is_early c Round is refl good))
  test_good c (Turns left) next is good e = subst Good (some_is e) (turn_good c left _ _ (is_early c (Turns left) is refl good))
  test_good c Stopping next is good e = subst Good (some_is e) (stopped_good c c.status)
  test_good c Closing next is good e = subst Good (some_is e) (closing_good c (has_ended m traced most c))
  test_good c Trying next is good e = tried_good c (m.next_try c.state) next e (λ _. subst Good (sym (ap (after_test m traced most c) is)) (shows_good (record c { state = m.expire c.state }) (Turns 64) (notes_of m traced most (m.expire c.state)) (inl (is_early c Trying is refl good)) refl))
  test_good c Closes next is good e = tried_good c (m.next_try c.state) next e (λ _. subst Good (sym (ap (after_test m traced most c) is)) (finished_good c (final c.status (m.ended c.state))))
  test_good c Asking next is good e = cc
  test_good c (Due left) next is good e = cc
  test_good c Last next is good e = cc
  test_good c (Writing after) next is good e = cc
  test_good c Over next is good e = cc

  waited_good : (c : Config S) (r : KernelReply) → is_well c.status ≡ true → Good (after_wait m traced most c r)
  waited_good c (reply.Woke moment ready) well = inl well
  waited_good c reply.Done well = stopped_good (record c { tally = one_round c.tally }) status.Wait
  waited_good c reply.NotYet well = stopped_good (record c { tally = one_round c.tally }) status.Wait
  waited_good c (reply.Came bytes) well = stopped_good (record c { tally = one_round c.tally }) status.Wait
  waited_good c (reply.Took n) well = stopped_good (record c { tally = one_round c.tally }) status.Wait
  waited_good c reply.End well = stopped_good (record c { tally = one_round c.tally }) status.Wait
  waited_good c (reply.Failed fault) well = stopped_good (record c { tally = one_round c.tally }) status.Wait

  abbrev heard_by : Config S → KernelAsk → KernelReply → Config S
  heard_by c ask r = record c { state = (m.hear c.state ask r c.keys).0; tally = record c.tally { lacks = lacks_by r c.tally.lacks }; keys = (m.hear c.state ask r c.keys).1 }

  tries_good : (c : Config S) (ask : KernelAsk) (r : KernelReply) (place : Place) → c.place ≡ place → late place ≡ ends place → (is_well c.status ≡ true) ⊎ (ends place ≡ true) → Good (after_try m traced most c ask r)
  tries_good c ask r place is same good = subst (λ (p : Place). ((is_well c.status ≡ true) ⊎ (ends p ≡ true)) → late p ≡ ends p → Good (after_try m traced most c ask r)) is (λ g h. shows_good (heard_by c ask r) c.place (notes_of m traced most (m.hear c.state ask r c.keys).0) g h) good same

  heard_good : (c : Config S) (place : Place) (ask : KernelAsk) (r : KernelReply) (next : Config S) → c.place ≡ place → asked m traced most c place ≡ Some ask → Good c → heard m traced most c place ask r ≡ next → Good next
  heard_good c Asking ask r next is due good e = subst Good e (waited_good c r (is_early c Asking is refl good))
  heard_good c Trying ask r next is due good e = subst Good e (tries_good c ask r Trying is refl (inl (is_early c Trying is refl good)))
  heard_good c Closes ask r next is due good e = subst Good e (tries_good c ask r Closes is refl (inr refl))
  heard_good c Round ask r next is due good e = cc
  heard_good c (Turns left) ask r next is due good e = cc
  heard_good c (Due left) ask r next is due good e = cc
  heard_good c Stopping ask r next is due good e = cc
  heard_good c Closing ask r next is due good e = cc
  heard_good c Last ask r next is due good e = cc
  heard_good c (Writing after) ask r next is due good e = cc
  heard_good c Over ask r next is due good e = cc

  abbrev turned_by : Config S → Option LackPlace → Tally → Config S
  turned_by c lack tally = record c { state = (m.turn c.state lack c.keys).0; tally = tally; keys = (m.turn c.state lack c.keys).1 }

  turned_good : (c : Config S) (place : Place) (lack : Option LackPlace) (next : Config S) → c.place ≡ place → Good c → by_turn m traced most c place lack ≡ Some next → Good next
  turned_good c (Due left) lack next is good e = subst Good (tested (may_be m c.state lack) e).1
      (shows_good (turned_by c lack (one_turn c.tally lack)) (Turns (left - 1)) (ran_bytes traced (m.ran c.state lack) ++ notes_of m traced most (m.turn c.state lack c.keys).0) (inl (is_early c (Due left) is refl good)) refl)
  turned_good c Last lack next is good e = subst Good (tested (may_be m c.state lack) e).1
      (shows_good (turned_by c lack (one_last c.tally lack)) Closing (ran_bytes traced (m.ran c.state lack) ++ notes_of m traced most (m.turn c.state lack c.keys).0) (inr refl) refl)
  turned_good c Round lack next is good e = cc
  turned_good c Asking lack next is good e = cc
  turned_good c Trying lack next is good e = cc
  turned_good c (Turns left) lack next is good e = cc
  turned_good c Stopping lack next is good e = cc
  turned_good c Closing lack next is good e = cc
  turned_good c Closes lack next is good e = cc
  turned_good c (Writing after) lack next is good e = cc
  turned_good c Over lack next is good e = cc

  is_late : (after : Place) → ends after ≡ true → late after ≡ true
  is_late (Writing after) e = cc
  is_late Round e = cc
  is_late Asking e = cc
  is_late Trying e = cc
  is_late (Turns left) e = cc
  is_late (Due left) e = cc
  is_late Stopping e = refl
  is_late Closing e = refl
  is_late Last e = refl
  is_late Closes e = refl
  is_late Over e = refl

  written_good : (c : Config S) (after : Place) → c.place ≡ Writing after → Good c → Good (written m traced most c after)
  written_good c after is (inl well) = inl well
  written_good c after is (inr end) = inr (is_late after (sym (ap late is) ∙ end))

  halt_branch : (c : Config S) (b : Bool) (after : Place) → (b ≡ true) ⊎ (ends after ≡ true)
      → Silent (if b then record c { state = m.shut c.state; place = Closing; due = []; status = status.Sink } else record c { place = after; due = []; status = status.Sink })
  halt_branch c true after is = record { failed = refl; place = refl }
  halt_branch c false after (inl is) = cc
  halt_branch c false after (inr end) = record { failed = refl; place = end }

  halt_place : (c : Config S) (after : Place) → (is_well c.status ≡ true) ⊎ (ends after ≡ true) → Silent (halted m traced most c after)
  halt_place c Over is = record { failed = refl; place = refl }
  halt_place c Round is = halt_branch c (is_well c.status) Round is
  halt_place c Asking is = halt_branch c (is_well c.status) Asking is
  halt_place c Trying is = halt_branch c (is_well c.status) Trying is
  halt_place c (Turns left) is = halt_branch c (is_well c.status) (Turns left) is
  halt_place c (Due left) is = halt_branch c (is_well c.status) (Due left) is
  halt_place c Stopping is = halt_branch c (is_well c.status) Stopping is
  halt_place c Closing is = halt_branch c (is_well c.status) Closing is
  halt_place c Last is = halt_branch c (is_well c.status) Last is
  halt_place c Closes is = halt_branch c (is_well c.status) Closes is
  halt_place c (Writing next) is = halt_branch c (is_well c.status) (Writing next) is

  -- a failed write is followed by silence
  pub halted_silent : (c : Config S) (after : Place) → c.place ≡ Writing after → Good c → Silent (halted m traced most c after)
  halted_silent c after is (inl well) = halt_place c after (inl well)
  halted_silent c after is (inr end) = halt_place c after (inr (sym (ap late is) ∙ end))

  silent_good : (c : Config S) → Silent c → Good c
  silent_good c silent = inr (is_late c.place silent.place)

  write_good : (c : Config S) (place : Place) (next : Config S) → c.place ≡ place → Good c → by_write m traced most c place ≡ Some next → Good next
  write_good c (Writing after) next is good e = subst Good (some_is e) (written_good c after is good)
  write_good c Round next is good e = cc
  write_good c Asking next is good e = cc
  write_good c Trying next is good e = cc
  write_good c (Turns left) next is good e = cc
  write_good c (Due left) next is good e = cc
  write_good c Stopping next is good e = cc
  write_good c Closing next is good e = cc
  write_good c Last next is good e = cc
  write_good c Closes next is good e = cc
  write_good c Over next is good e = cc

  -- where a write fails
  pub halt_silent : (c : Config S) (place : Place) (part : List ℕ) (next : Config S) → c.place ≡ place → Good c → by_halt m traced most c place part ≡ Some next → Silent next
  halt_silent c (Writing after) part next is good e = subst Silent (tested (is_proper_part part c.due) e).1 (halted_silent c after is good)
  halt_silent c Round part next is good e = cc
  halt_silent c Asking part next is good e = cc
  halt_silent c Trying part next is good e = cc
  halt_silent c (Turns left) part next is good e = cc
  halt_silent c (Due left) part next is good e = cc
  halt_silent c Stopping part next is good e = cc
  halt_silent c Closing part next is good e = cc
  halt_silent c Last part next is good e = cc
  halt_silent c Closes part next is good e = cc
  halt_silent c Over part next is good e = cc

  replied_good : (c : Config S) (ask : Option KernelAsk) (r : KernelReply) (next : Config S) → asked m traced most c c.place ≡ ask → Good c → by_reply m traced most c ask r ≡ Some next → Good next
  replied_good c None r next due good e = cc
  replied_good c (Some ask) r next due good e = heard_good c c.place ask r next refl due good (tested (fits ask r) e).1

  -- each event leads on so
  pub step_good : (c : Config S) (event : Event) (next : Config S) → Good c → step m traced most c event ≡ Some next → Good next
  step_good c Passed next good e = test_good c c.place next refl good e
  step_good c (Replied r) next good e = replied_good c (asked m traced most c c.place) r next refl good e
  step_good c (Turned lack) next good e = turned_good c c.place lack next refl good e
  step_good c Wrote next good e = write_good c c.place next refl good e
  step_good c (Halted part) next good e = silent_good next (halt_silent c c.place part next refl good e)

  -- nothing is shown after a failed write
  hushed : (c : Config S) (place : Place) (lines : List ℕ) → c.status ≡ status.Sink → showing m traced most c place lines ≡ record c { place = place }
  hushed c place lines is = rw is refl

  silent_at : (c d : Config S) (place : Place) (lines : List ℕ) → c.status ≡ status.Sink → ends place ≡ true → showing m traced most c place lines ≡ d → Silent d
  silent_at c d place lines is end e = subst Silent (sym (hushed c place lines is) ∙ e) (record { failed = is; place = end })

  closing_silent : (c : Config S) (a : Bool) → c.status ≡ status.Sink → Silent (if a then record c { place = Closes } else record c { place = Last })
  closing_silent c true is = record { failed = is; place = refl }
  closing_silent c false is = record { failed = is; place = refl }

  finish_sink : (c : Config S) → c.status ≡ status.Sink → final c.status (m.ended c.state) ≡ status.Sink
  finish_sink c is = ap (λ (st : Status). final st (m.ended c.state)) is

  closes_silent : (c : Config S) (try : Option KernelAsk) (next : Config S) → c.place ≡ Closes → c.status ≡ status.Sink → unless_try m traced most c try ≡ Some next → Silent next
  closes_silent c None next is failed e =
      let end = final c.status (m.ended c.state) in
      let lines = summary_of end (m.ended c.state) c.tally (m.made c.state) (m.gone c.state) in
      silent_at (record c { status = end }) next Over lines (finish_sink c failed) refl (sym (ap (after_test m traced most c) is) ∙ some_is e)
  closes_silent c (Some ask) next is failed e = cc

  test_silent : (c : Config S) (place : Place) (next : Config S) → c.place ≡ place → Silent c → by_test m traced most c place ≡ Some next → Silent next
  test_silent c Stopping next is silent e = silent_at (record c { state = m.shut c.state }) next Closing (notes_of m traced most (m.shut c.state)) silent.failed refl (some_is e)
  test_silent c Closing next is silent e = subst Silent (some_is e) (closing_silent c (has_ended m traced most c) silent.failed)
  test_silent c Closes next is silent e = closes_silent c (m.next_try c.state) next is silent.failed e
  test_silent c Last next is silent e = cc
  test_silent c Over next is silent e = cc
  test_silent c Round next is silent e = cc (ap ends is, silent.place)
  test_silent c Asking next is silent e = cc
  test_silent c Trying next is silent e = cc (ap ends is, silent.place)
  test_silent c (Turns left) next is silent e = cc (ap ends is, silent.place)
  test_silent c (Due left) next is silent e = cc
  test_silent c (Writing after) next is silent e = cc

  heard_silent : (c : Config S) (place : Place) (ask : KernelAsk) (r : KernelReply) (next : Config S) → c.place ≡ place → asked m traced most c place ≡ Some ask → Silent c → heard m traced most c place ask r ≡ next → Silent next
  heard_silent c Closes ask r next is due silent e = silent_at (heard_by c ask r) next c.place (notes_of m traced most (m.hear c.state ask r c.keys).0) silent.failed silent.place e
  heard_silent c Trying ask r next is due silent e = cc (ap ends is, silent.place)
  heard_silent c Asking ask r next is due silent e = cc (ap ends is, silent.place)
  heard_silent c Stopping ask r next is due silent e = cc
  heard_silent c Closing ask r next is due silent e = cc
  heard_silent c Last ask r next is due silent e = cc
  heard_silent c Over ask r next is due silent e = cc
  heard_silent c Round ask r next is due silent e = cc
  heard_silent c (Turns left) ask r next is due silent e = cc
  heard_silent c (Due left) ask r next is due silent e = cc
  heard_silent c (Writing after) ask r next is due silent e = cc

  pub replied_silent : (c : Config S) (ask : Option KernelAsk) (r : KernelReply) (next : Config S) → asked m traced most c c.place ≡ ask → Silent c → by_reply m traced most c ask r ≡ Some next → Silent next
  replied_silent c None r next due silent e = cc
  replied_silent c (Some ask) r next due silent e = heard_silent c c.place ask r next refl due silent (tested (fits ask r) e).1

  turned_silent : (c : Config S) (place : Place) (lack : Option LackPlace) (next : Config S) → c.place ≡ place → Silent c → by_turn m traced most c place lack ≡ Some next → Silent next
  turned_silent c Last lack next is silent e = silent_at (turned_by c lack (one_last c.tally lack)) next Closing (ran_bytes traced (m.ran c.state lack) ++ notes_of m traced most (m.turn c.state lack c.keys).0) silent.failed refl (tested (may_be m c.state lack) e).1
  turned_silent c (Due left) lack next is silent e = cc (ap ends is, silent.place)
  turned_silent c Round lack next is silent e = cc
  turned_silent c Asking lack next is silent e = cc
  turned_silent c Trying lack next is silent e = cc
  turned_silent c (Turns left) lack next is silent e = cc
  turned_silent c Stopping lack next is silent e = cc
  turned_silent c Closing lack next is silent e = cc
  turned_silent c Closes lack next is silent e = cc
  turned_silent c (Writing after) lack next is silent e = cc
  turned_silent c Over lack next is silent e = cc

  -- no lines are due
  pub no_write : (c : Config S) (place : Place) (next : Config S) → ends place ≡ true → by_write m traced most c place ≡ Some next → ⊥
  no_write c Stopping next end e = cc
  no_write c Closing next end e = cc
  no_write c Last next end e = cc
  no_write c Closes next end e = cc
  no_write c Over next end e = cc
  no_write c Round next end e = cc
  no_write c Asking next end e = cc
  no_write c Trying next end e = cc
  no_write c (Turns left) next end e = cc
  no_write c (Due left) next end e = cc
  no_write c (Writing after) next end e = cc

  no_halt : (c : Config S) (place : Place) (part : List ℕ) (next : Config S) → ends place ≡ true → by_halt m traced most c place part ≡ Some next → ⊥
  no_halt c Stopping part next end e = cc
  no_halt c Closing part next end e = cc
  no_halt c Last part next end e = cc
  no_halt c Closes part next end e = cc
  no_halt c Over part next end e = cc
  no_halt c Round part next end e = cc
  no_halt c Asking part next end e = cc
  no_halt c Trying part next end e = cc
  no_halt c (Turns left) part next end e = cc
  no_halt c (Due left) part next end e = cc
  no_halt c (Writing after) part next end e = cc

  -- silence lasts, and no bytes go out in it
  pub step_silent : (c : Config S) (event : Event) (next : Config S) → Silent c → step m traced most c event ≡ Some next → Silent next × (bytes_by m traced most c event ≡ [])
  step_silent c Passed next silent e = (test_silent c c.place next refl silent e, refl)
  step_silent c (Replied r) next silent e = (replied_silent c (asked m traced most c c.place) r next refl silent e, refl)
  step_silent c (Turned lack) next silent e = (turned_silent c c.place lack next refl silent e, refl)
  step_silent c Wrote next silent e = absurd (no_write c c.place next silent.place e)
  step_silent c (Halted part) next silent e = absurd (no_halt c c.place part next silent.place e)

  -- in silence no write fails
  pub never_halts : (c : Config S) (part : List ℕ) (next : Config S) → Silent c → step m traced most c (Halted part) ≡ Some next → ⊥
  never_halts c part next silent e = no_halt c c.place part next silent.place e
