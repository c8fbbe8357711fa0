-- Which steps of a run count a turn.
use Rattle.std.proofs.Common.{◌≡◌, ◌∙◌, ℕ, ◌+◌, ◌-◌, List, [], ◌++◌, Option, Some, None, Bool, true, false, ◌||◌, ◌==◌, not, if◌then◌else◌, refl, sym, ap, arith}
use Rattle.dill_base.specs.declared.status.Status.{Status}
use Rattle.dill_base.specs.declared.status.Status.TheVariants as status
use Rattle.dill_calls.specs.declared.ran.LackPlace.{LackPlace}
use Rattle.dill_kernel.specs.declared.replies.KernelAsk.{KernelAsk}
use Rattle.dill_kernel.specs.declared.replies.KernelReply.{KernelReply}
use Rattle.dill_kernel.specs.declared.replies.KernelReply.TheVariants as reply
use Rattle.dill_kernel.specs.Entry.{fits}
use Rattle.relay_trace.specs.Lines.{ran_bytes}
use Rattle.dill_drive.specs.declared.tally.Tally.{Tally}
use Rattle.dill_drive.specs.Machine.{Machine, may_be}
use Rattle.dill_drive.specs.Story.{Place, Round, Asking, Trying, Turns, Due, Stopping, Closing, Last, Closes, Writing, Over, Config, at, is_sink, is_well, is_empty, showing, notes_of, stopped, has_ended, is_spent, waiting_lines, after_test, after_wait, after_try, after_turn, after_last, halted, final, summary_of, one_round, one_turn, one_last, lacks_by}
use Rattle.dill_drive.specs.Leading.{Passed, step, unless_try, by_test, asked, heard, by_reply, by_turn, by_write, by_halt, is_proper_part}
use Rattle.dill_drive.specs.Play.{turn_number}
use Rattle.dill_drive.proofs.Late.{some_is, tested}

module _ {S : Type 0} (m : Machine S) (traced : Bool) (most : ℕ) where
  abbrev number : Config S → ℕ
  number c = turn_number m traced most c

  by_branch : (b : Bool) (c : Config S) (next : Place) (lines : List ℕ) → (if b then at m traced most c next else record c { place = Writing next; due = lines }).tally ≡ c.tally
  by_branch true c next lines = refl
  by_branch false c next lines = refl

  pub tally_showing : (c : Config S) (next : Place) (lines : List ℕ) → (showing m traced most c next lines).tally ≡ c.tally
  tally_showing c next lines = by_branch (is_sink c.status || is_empty lines) c next lines

  tally_stopped : (c : Config S) (stop : Status) → (stopped m traced most c stop).tally ≡ c.tally
  tally_stopped c stop = tally_showing (record c { state = m.shut c.state; status = stop }) Closing (notes_of m traced most (m.shut c.state))

  tally_round : (c : Config S) (a b d : Bool)
      → (if a then at m traced most c Closes else (if b then showing m traced most (record c { status = status.Stuck }) Stopping (waiting_lines m traced most c.state) else (if d then stopped m traced most c status.Spent else at m traced most c Asking))).tally ≡ c.tally
  tally_round c true b d = refl
  tally_round c false true d = tally_showing (record c { status = status.Stuck }) Stopping (waiting_lines m traced most c.state)
  tally_round c false false true = tally_stopped c status.Spent
  tally_round c false false false = refl

  tally_turn : (c : Config S) (left : ℕ) (a b : Bool) → (if a then at m traced most c Round else (if b then stopped m traced most c status.Spent else at m traced most c (Due left))).tally ≡ c.tally
  tally_turn c left true b = refl
  tally_turn c left false true = tally_stopped c status.Spent
  tally_turn c left false false = refl

  tally_closing : (c : Config S) (a : Bool) → (if a then at m traced most c Closes else at m traced most c Last).tally ≡ c.tally
  tally_closing c true = refl
  tally_closing c false = refl

  tally_test : (c : Config S) (place : Place) → (after_test m traced most c place).tally ≡ c.tally
  tally_test c Round = tally_round c (has_ended m traced most c) (m.stuck c.state) (is_spent m traced most c)
  tally_test c (Turns left) = tally_turn c left (has_ended m traced most c || (not (m.answered c.state) || left == 0)) (is_spent m traced most c)
  tally_test c Stopping = tally_stopped c c.status
  tally_test c Closing = tally_closing c (has_ended m traced most c)
  tally_test c Trying = tally_showing (record c { state = m.expire c.state }) (Turns 64) (notes_of m traced most (m.expire c.state))
  tally_test c Closes =
      let end = final c.status (m.ended c.state) in
      tally_showing (record c { status = end }) Over (summary_of end (m.ended c.state) c.tally (m.made c.state) (m.gone c.state))
  tally_test c Asking = refl
  tally_test c (Due left) = refl
  tally_test c Last = refl
  tally_test c (Writing next) = refl
  tally_test c Over = refl

  -- tests, waits, tries and failed writes count none
  abbrev count_of : Tally → ℕ
  count_of tally = tally.turns + tally.closing + 1

  pub number_test : (c : Config S) (place : Place) → number (after_test m traced most c place) ≡ number c
  number_test c place = ap count_of (tally_test c place)

  pub number_wait : (c : Config S) (said : KernelReply) → number (after_wait m traced most c said) ≡ number c
  number_wait c (reply.Woke moment ready) = refl
  number_wait c reply.Done = ap count_of (tally_stopped (record c { tally = one_round c.tally }) status.Wait)
  number_wait c reply.NotYet = ap count_of (tally_stopped (record c { tally = one_round c.tally }) status.Wait)
  number_wait c (reply.Came bytes) = ap count_of (tally_stopped (record c { tally = one_round c.tally }) status.Wait)
  number_wait c (reply.Took n) = ap count_of (tally_stopped (record c { tally = one_round c.tally }) status.Wait)
  number_wait c reply.End = ap count_of (tally_stopped (record c { tally = one_round c.tally }) status.Wait)
  number_wait c (reply.Failed fault) = ap count_of (tally_stopped (record c { tally = one_round c.tally }) status.Wait)

  pub number_try : (c : Config S) (ask : KernelAsk) (said : KernelReply) → number (after_try m traced most c ask said) ≡ number c
  number_try c ask said =
      let heard = m.hear c.state ask said c.keys in
      ap count_of (tally_showing (record c { state = heard.0; tally = record c.tally { lacks = lacks_by said c.tally.lacks }; keys = heard.1 }) c.place (notes_of m traced most heard.0))

  halted_by : (b : Bool) (c : Config S) (next : Place)
      → (if b then record c { state = m.shut c.state; place = Closing; due = []; status = status.Sink } else record c { place = next; due = []; status = status.Sink }).tally ≡ c.tally
  halted_by true c next = refl
  halted_by false c next = refl

  tally_halted : (c : Config S) (next : Place) → (halted m traced most c next).tally ≡ c.tally
  tally_halted c Over = refl
  tally_halted c Round = halted_by (is_well c.status) c Round
  tally_halted c Asking = halted_by (is_well c.status) c Asking
  tally_halted c Trying = halted_by (is_well c.status) c Trying
  tally_halted c (Turns left) = halted_by (is_well c.status) c (Turns left)
  tally_halted c (Due left) = halted_by (is_well c.status) c (Due left)
  tally_halted c Stopping = halted_by (is_well c.status) c Stopping
  tally_halted c Closing = halted_by (is_well c.status) c Closing
  tally_halted c Last = halted_by (is_well c.status) c Last
  tally_halted c Closes = halted_by (is_well c.status) c Closes
  tally_halted c (Writing next) = halted_by (is_well c.status) c (Writing next)

  pub number_halted : (c : Config S) (next : Place) → number (halted m traced most c next) ≡ number c
  number_halted c next = ap count_of (tally_halted c next)

  -- a turn counts one
  abbrev turned_to : Config S → Option LackPlace → Tally → Config S
  turned_to c lack tally = record c { state = (m.turn c.state lack c.keys).0; tally = tally; keys = (m.turn c.state lack c.keys).1 }

  pub number_turn : (c : Config S) (left : ℕ) (lack : Option LackPlace) → number (after_turn m traced most c left lack) ≡ number c + 1
  number_turn c left lack =
      let same = tally_showing (turned_to c lack (one_turn c.tally lack)) (Turns (left - 1)) (ran_bytes traced (m.ran c.state lack) ++ notes_of m traced most (m.turn c.state lack c.keys).0) in
      omega (arith, ap count_of same)

  pub number_last : (c : Config S) (lack : Option LackPlace) → number (after_last m traced most c lack) ≡ number c + 1
  number_last c lack =
      let same = tally_showing (turned_to c lack (one_last c.tally lack)) Closing (ran_bytes traced (m.ran c.state lack) ++ notes_of m traced most (m.turn c.state lack c.keys).0) in
      omega (arith, ap count_of same)

  -- the same of an event
  tested_number : (c next : Config S) (try : Option KernelAsk) → unless_try m traced most c try ≡ Some next → number next ≡ number c
  tested_number c next None e = ap number (sym (some_is e)) ∙ number_test c c.place
  tested_number c next (Some ask) e = cc

  passed_number : (c next : Config S) (place : Place) → by_test m traced most c place ≡ Some next → number next ≡ number c
  passed_number c next Round e = ap number (sym (some_is e)) ∙ number_test c Round
  passed_number c next (Turns left) e = ap number (sym (some_is e)) ∙ number_test c (Turns left)
  passed_number c next Stopping e = ap number (sym (some_is e)) ∙ number_test c Stopping
  passed_number c next Closing e = ap number (sym (some_is e)) ∙ number_test c Closing
  passed_number c next Trying e = tested_number c next (m.next_try c.state) e
  passed_number c next Closes e = tested_number c next (m.next_try c.state) e
  passed_number c next Asking e = cc
  passed_number c next (Due left) e = cc
  passed_number c next Last e = cc
  passed_number c next (Writing after) e = cc
  passed_number c next Over e = cc

  pub number_passed : (c next : Config S) → step m traced most c Passed ≡ Some next → number next ≡ number c
  number_passed c next e = passed_number c next c.place e

  heard_number : (c next : Config S) (place : Place) (ask : KernelAsk) (said : KernelReply) → asked m traced most c place ≡ Some ask → heard m traced most c place ask said ≡ next → number next ≡ number c
  heard_number c next Asking ask said due e = ap number (sym e) ∙ number_wait c said
  heard_number c next Trying ask said due e = ap number (sym e) ∙ number_try c ask said
  heard_number c next Closes ask said due e = ap number (sym e) ∙ number_try c ask said
  heard_number c next Round ask said due e = cc
  heard_number c next (Turns left) ask said due e = cc
  heard_number c next (Due left) ask said due e = cc
  heard_number c next Stopping ask said due e = cc
  heard_number c next Closing ask said due e = cc
  heard_number c next Last ask said due e = cc
  heard_number c next (Writing after) ask said due e = cc
  heard_number c next Over ask said due e = cc

  pub number_replied : (c next : Config S) (ask : Option KernelAsk) (said : KernelReply) → asked m traced most c c.place ≡ ask → by_reply m traced most c ask said ≡ Some next → number next ≡ number c
  number_replied c next None said due e = cc
  number_replied c next (Some ask) said due e = heard_number c next c.place ask said due (tested (fits ask said) e).1

  pub number_turned : (c next : Config S) (place : Place) (lack : Option LackPlace) → by_turn m traced most c place lack ≡ Some next → number next ≡ number c + 1
  number_turned c next (Due left) lack e = ap number (sym (tested (may_be m c.state lack) e).1) ∙ number_turn c left lack
  number_turned c next Last lack e = ap number (sym (tested (may_be m c.state lack) e).1) ∙ number_last c lack
  number_turned c next Round lack e = cc
  number_turned c next Asking lack e = cc
  number_turned c next Trying lack e = cc
  number_turned c next (Turns left) lack e = cc
  number_turned c next Stopping lack e = cc
  number_turned c next Closing lack e = cc
  number_turned c next Closes lack e = cc
  number_turned c next (Writing after) lack e = cc
  number_turned c next Over lack e = cc

  pub number_wrote : (c next : Config S) (place : Place) → by_write m traced most c place ≡ Some next → number next ≡ number c
  number_wrote c next (Writing after) e = ap number (sym (some_is e))
  number_wrote c next Round e = cc
  number_wrote c next Asking e = cc
  number_wrote c next Trying e = cc
  number_wrote c next (Turns left) e = cc
  number_wrote c next (Due left) e = cc
  number_wrote c next Stopping e = cc
  number_wrote c next Closing e = cc
  number_wrote c next Last e = cc
  number_wrote c next Closes e = cc
  number_wrote c next Over e = cc

  pub number_cut : (c next : Config S) (place : Place) (part : List ℕ) → by_halt m traced most c place part ≡ Some next → number next ≡ number c
  number_cut c next (Writing after) part e = ap number (sym (tested (is_proper_part part c.due) e).1) ∙ number_halted c after
  number_cut c next Round part e = cc
  number_cut c next Asking part e = cc
  number_cut c next Trying part e = cc
  number_cut c next (Turns left) part e = cc
  number_cut c next (Due left) part e = cc
  number_cut c next Stopping part e = cc
  number_cut c next Closing part e = cc
  number_cut c next Last part e = cc
  number_cut c next Closes part e = cc
  number_cut c next Over part e = cc
