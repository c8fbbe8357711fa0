-- What happened in a run, one thing after the other, is what is computed from the kernel's replies, the refusals of memory and the failed write.
use Rattle.std.proofs.Common.{◌≡◌, inl, ◌∙◌, ℕ, suc, ◌+◌, ◌-◌, ◌<◌, ◌≤◌, ◌==◌, List, [], ◌∷◌, ◌++◌, length, take, map, Option, Some, None, Bool, true, false, ◌&&◌, nat_lt, if◌then◌else◌, refl, sym, ap, subst, arith, append_assoc, length-append}
use Rattle.std.proofs.lemmas.Bool.{and_parts}
use Rattle.std.proofs.lemmas.Bool.Decides.{nat_tests}
use Rattle.std.proofs.lemmas.List.{append-nil}
use Rattle.std.proofs.lemmas.Slice.Eq.{bytes_eq-Decides}
use Rattle.std.specs.Str.{bytes_eq}
use Rattle.rand_core.specs.Stream.{Stream}
use Rattle.dill_base.specs.declared.status.Status.{Status}
use Rattle.dill_base.specs.declared.status.Status.TheVariants.{Well}
use Rattle.dill_drive.specs.declared.tally.Tally.{Tally}
use Rattle.dill_calls.specs.declared.ran.LackPlace.{LackPlace}
use Rattle.dill_kernel.specs.declared.replies.KernelAsk.{KernelAsk}
use Rattle.dill_kernel.specs.declared.replies.KernelAsk.TheVariants as kernel
use Rattle.dill_kernel.specs.declared.replies.KernelReply.{KernelReply}
use Rattle.dill_kernel.specs.declared.replies.KernelReply.TheVariants as told
use Rattle.dill_kernel.specs.Entry.{Entry, Went, fits}
use Rattle.dill_drive.specs.Machine.{Machine, may_be}
use Rattle.dill_drive.specs.Story.{here, no_tally, Place, Round, Asking, Trying, Turns, Due, Stopping, Closing, Last, Closes, Writing, Over, Config, after_test, after_wait, after_try, after_turn, after_last, halted}
use Rattle.dill_kernel.specs.Replay.{reply_to, replies_after, is_close}
use Rattle.dill_drive.specs.Play.{Lack, Playing, is_met, lack_at, lacks_after, turn_number, turns_one, advance, advance_at, asks_try, asks_wait, writes, play, halt_within}
use Rattle.dill_drive.specs.Leading.{Event, Passed, Replied, Turned, Wrote, Halted, step, unless_try, by_test, asked, heard, entry_of, by_reply, by_turn, by_write, by_halt, Along, is_proper_part, Leads}
use Rattle.dill_drive.specs.Tells.{replies_of, ask_of, status_of, Tells, NamesErrno, Concludes}
use Rattle.dill_drive.specs.declared.run_end.RunEnd.{RunEnd}
use Rattle.dill_drive.proofs.Counting.{number_passed, number_replied, number_turned, number_wrote, number_cut}
use Rattle.dill_drive.proofs.Late.{Good, Silent, some_is, tested, step_good, step_silent, halt_silent, never_halts, replied_silent, no_write}

-- the number of bytes after which a write fails, where one does
abbrev halt_at : Bool → ℕ → Option ℕ
halt_at true n = Some n
halt_at false n = None

-- a reply that fits is the one that is taken
taken : (ask : KernelAsk) (reply : KernelReply) (more : List KernelReply) → fits ask reply ≡ true
    → (reply_to ask (if is_close ask then more else reply ∷ more) ≡ reply) × (replies_after ask (if is_close ask then more else reply ∷ more) ≡ more)
taken (kernel.Wait limit) reply more fit = (rw fit refl, refl)
taken (kernel.Listen link at backlog) reply more fit = (rw fit refl, refl)
taken (kernel.Connect link to) reply more fit = (rw fit refl, refl)
taken (kernel.Finish link) reply more fit = (rw fit refl, refl)
taken (kernel.Accept listener link) reply more fit = (rw fit refl, refl)
taken (kernel.Write link bytes) reply more fit = (rw fit refl, refl)
taken (kernel.Shut link) reply more fit = (rw fit refl, refl)
taken (kernel.Read link size) reply more fit = (rw fit refl, refl)
taken (kernel.Close link) told.Done more fit = (refl, refl)
taken (kernel.Close link) (told.Woke moment ready) more fit = cc
taken (kernel.Close link) told.NotYet more fit = cc
taken (kernel.Close link) (told.Came bytes) more fit = cc
taken (kernel.Close link) (told.Took n) more fit = cc
taken (kernel.Close link) told.End more fit = cc
taken (kernel.Close link) (told.Failed fault) more fit = cc

-- refusals in turns of this number and of later ones
abbrev IsFrom : ℕ → List Lack → Type 0
IsFrom turn [] = Unit {0}
IsFrom turn (lack ∷ lacks) = (turn ≤ lack.0) × IsFrom turn lacks

from_before : (turn : ℕ) (lacks : List Lack) → IsFrom (turn + 1) lacks → IsFrom turn lacks
from_before turn [] from = tt
from_before turn (lack ∷ lacks) from = (omega (arith, from.0), from_before turn lacks from.1)

-- a turn, refused memory or not, and the refusals after it
abbrev with_lack : Option LackPlace → ℕ → List Lack → List Lack
with_lack None turn lacks = lacks
with_lack (Some place) turn lacks = (turn, place) ∷ lacks

is_from : (lack : Option LackPlace) (turn : ℕ) (lacks : List Lack) → IsFrom (turn + 1) lacks → IsFrom turn (with_lack lack turn lacks)
is_from (Some place) turn lacks after = (omega arith, from_before turn lacks after)
is_from None turn lacks after = from_before turn lacks after

met_now : (turn : ℕ) (may : Bool) → may ≡ true → ((turn == turn) && may) ≡ true
met_now turn true e = grind (arith, nat_tests)
met_now turn false e = cc

not_met : (a b : Bool) → a ≡ false → (a && b) ≡ false
not_met false b e = refl
not_met true b e = cc

-- refusals of later turns alone: none is met, and all are left
none_met : (may : LackPlace → Bool) (turn : ℕ) (lacks : List Lack) → IsFrom (turn + 1) lacks → (lack_at may turn lacks ≡ None) × (lacks_after may turn lacks ≡ lacks)
none_met may turn [] after = (refl, refl)
none_met may turn (lack ∷ lacks) after =
    let later : (lack.0 == turn) ≡ false = grind (arith, nat_tests, after.0) in
    let none : is_met may turn lack ≡ false = not_met (lack.0 == turn) (may lack.1) later in
    let more = none_met may turn lacks after.1 in
    rw none (more.0, ap (λ (l : List Lack). lack ∷ l) more.1)

-- a write that doesn't fail before these bytes
not_within : (b : Bool) (shown size more : ℕ) → halt_within (halt_at b (shown + (size + more))) shown size ≡ None
not_within false shown size more = refl
not_within true shown size more = let test : nat_lt (shown + (size + more)) (shown + size) ≡ false = grind (arith, nat_tests) in rw test refl

within : (shown size part : ℕ) → part < size → halt_within (Some (shown + part)) shown size ≡ Some part
within shown size part less =
    let test : nat_lt (shown + part) (shown + size) ≡ true = grind (arith, nat_tests) in
    let gone : shown + part - shown ≡ part = omega arith in
    rw (test, gone) refl

bytes_same : (xs ys : List ℕ) → bytes_eq xs ys ≡ true → xs ≡ ys
bytes_same xs ys e = (bytes_eq-Decides xs ys).0 e

-- what is known of a part that went out
part_is : (part bytes : List ℕ) → is_proper_part part bytes ≡ true → (length part < length bytes) × (take (length part) bytes ≡ part)
part_is part bytes e =
    let tests = and_parts (nat_lt (length part) (length bytes)) (bytes_eq part (take (length part) bytes)) e in
    let less : length part < length bytes = grind (arith, nat_tests, tests.0) in
    (less, sym (bytes_same part (take (length part) bytes) tests.1))

module _ {S : Type 0} (m : Machine S) (traced : Bool) (most : ℕ) where
  abbrev playing : Config S → List KernelReply → List Lack → Option ℕ → List KernelAsk → List ℕ → Playing S
  playing c replies lacks halt asks shown = record { config = c; replies = replies; lacks = lacks; halt = halt; asks = asks; bytes = shown }

  abbrev stage : Config S → List Entry → List Lack → Bool → ℕ → List KernelAsk → List ℕ → Playing S
  stage c es lacks halted size asks shown = playing c (replies_of es) lacks (halt_at halted (length shown + size)) asks shown

  -- so many steps lead to the end of these events, from whatever was asked and shown before
  pub record Plays (c end : Config S) (n : ℕ) (es : List Entry) (bs : List ℕ) : Type 0 where
    pub halted : Bool
    pub lacks : List Lack
    pub from : IsFrom (turn_number m traced most c) lacks
    pub plays : (asks : List KernelAsk) (shown : List ℕ) → play m traced most n (stage c es lacks halted (length bs) asks shown) ≡ playing end [] [] None (asks ++ map ask_of es) (shown ++ bs)
    pub still : Silent m traced most c → (halted ≡ false) × (bs ≡ [])

  -- by a test
  try_passes : (c next : Config S) (try : Option KernelAsk) (p : Playing S) → p.config ≡ c → unless_try m traced most c try ≡ Some next → asks_try m traced most p try ≡ record p { config = next }
  try_passes c next None p is e = ap (λ (d : Config S). record p { config = d }) (ap (λ (d : Config S). after_test m traced most d d.place) is ∙ some_is e)
  try_passes c next (Some ask) p is e = cc

  passes : (c next : Config S) (place : Place) (replies : List KernelReply) (lacks : List Lack) (halt : Option ℕ) (asks : List KernelAsk) (shown : List ℕ) → by_test m traced most c place ≡ Some next
      → advance_at m traced most (playing c replies lacks halt asks shown) place ≡ playing next replies lacks halt asks shown
  passes c next Round replies lacks halt asks shown e = ap (λ (d : Config S). playing d replies lacks halt asks shown) (some_is e)
  passes c next (Turns left) replies lacks halt asks shown e = ap (λ (d : Config S). playing d replies lacks halt asks shown) (some_is e)
  passes c next Stopping replies lacks halt asks shown e = ap (λ (d : Config S). playing d replies lacks halt asks shown) (some_is e)
  passes c next Closing replies lacks halt asks shown e = ap (λ (d : Config S). playing d replies lacks halt asks shown) (some_is e)
  passes c next Trying replies lacks halt asks shown e = try_passes c next (m.next_try c.state) (playing c replies lacks halt asks shown) refl e
  passes c next Closes replies lacks halt asks shown e = try_passes c next (m.next_try c.state) (playing c replies lacks halt asks shown) refl e
  passes c next Asking replies lacks halt asks shown e = cc
  passes c next (Due left) replies lacks halt asks shown e = cc
  passes c next Last replies lacks halt asks shown e = cc
  passes c next (Writing after) replies lacks halt asks shown e = cc
  passes c next Over replies lacks halt asks shown e = cc

  -- by a reply
  waits : (c next : Config S) (reply : KernelReply) (more : List KernelReply) (lacks : List Lack) (halt : Option ℕ) (asks : List KernelAsk) (shown : List ℕ) → fits (kernel.Wait (m.limit c.state)) reply ≡ true → after_wait m traced most c reply ≡ next
      → asks_wait m traced most (playing c (reply ∷ more) lacks halt asks shown) ≡ playing next more lacks halt (asks ++ kernel.Wait (m.limit c.state) ∷ []) shown
  waits c next reply more lacks halt asks shown fit e = rw fit (ap (λ (d : Config S). playing d more lacks halt (asks ++ kernel.Wait (m.limit c.state) ∷ []) shown) e)

  tries : (c next : Config S) (ask : KernelAsk) (reply : KernelReply) (more : List KernelReply) (lacks : List Lack) (halt : Option ℕ) (asks : List KernelAsk) (shown : List ℕ) → fits ask reply ≡ true → after_try m traced most c ask reply ≡ next
      → asks_try m traced most (playing c (if is_close ask then more else reply ∷ more) lacks halt asks shown) (Some ask) ≡ playing next more lacks halt (asks ++ ask ∷ []) shown
  tries c next ask reply more lacks halt asks shown fit e =
      let got = taken ask reply more fit in
      let with_reply : KernelReply → List KernelReply → Playing S = λ r l. playing (after_try m traced most c ask r) l lacks halt (asks ++ ask ∷ []) shown in
      ap (λ (r : KernelReply). with_reply r (replies_after ask (if is_close ask then more else reply ∷ more))) got.0 ∙ ap (with_reply reply) got.1 ∙ ap (λ (d : Config S). playing d more lacks halt (asks ++ ask ∷ []) shown) e

  hears : (c next : Config S) (place : Place) (ask : KernelAsk) (reply : KernelReply) (more : List KernelReply) (lacks : List Lack) (halt : Option ℕ) (asks : List KernelAsk) (shown : List ℕ) → asked m traced most c place ≡ Some ask → fits ask reply ≡ true
      → heard m traced most c place ask reply ≡ next
      → advance_at m traced most (playing c (if is_close ask then more else reply ∷ more) lacks halt asks shown) place ≡ playing next more lacks halt (asks ++ ask ∷ []) shown
  hears c next Asking ask reply more lacks halt asks shown due fit e =
      subst (λ (a : KernelAsk). fits a reply ≡ true → asks_wait m traced most (playing c (if is_close a then more else reply ∷ more) lacks halt asks shown) ≡ playing next more lacks halt (asks ++ a ∷ []) shown) (some_is due)
      (λ f. waits c next reply more lacks halt asks shown f e) fit
  hears c next Trying ask reply more lacks halt asks shown due fit e =
      ap (asks_try m traced most (playing c (if is_close ask then more else reply ∷ more) lacks halt asks shown)) due ∙ tries c next ask reply more lacks halt asks shown fit e
  hears c next Closes ask reply more lacks halt asks shown due fit e =
      ap (asks_try m traced most (playing c (if is_close ask then more else reply ∷ more) lacks halt asks shown)) due ∙ tries c next ask reply more lacks halt asks shown fit e
  hears c next Round ask reply more lacks halt asks shown due fit e = cc
  hears c next (Turns left) ask reply more lacks halt asks shown due fit e = cc
  hears c next (Due left) ask reply more lacks halt asks shown due fit e = cc
  hears c next Stopping ask reply more lacks halt asks shown due fit e = cc
  hears c next Closing ask reply more lacks halt asks shown due fit e = cc
  hears c next Last ask reply more lacks halt asks shown due fit e = cc
  hears c next (Writing after) ask reply more lacks halt asks shown due fit e = cc
  hears c next Over ask reply more lacks halt asks shown due fit e = cc

  -- by a turn, which meets the first of the refusals that are left or none of them
  met_by : (state : S) (lack : Option LackPlace) (turn : ℕ) (lacks : List Lack) → may_be m state lack ≡ true → IsFrom (turn + 1) lacks
      → (lack_at (m.may_lack state) turn (with_lack lack turn lacks) ≡ lack) × (lacks_after (m.may_lack state) turn (with_lack lack turn lacks) ≡ lacks)
  met_by state (Some place) turn lacks may after =
      let now : is_met (m.may_lack state) turn (turn, place) ≡ true = met_now turn (m.may_lack state place) may in
      rw now (refl, refl)
  met_by state None turn lacks may after = none_met (m.may_lack state) turn lacks after

  turned_by : (c next : Config S) (lack : Option LackPlace) (replies : List KernelReply) (lacks : List Lack) (halt : Option ℕ) (asks : List KernelAsk) (shown : List ℕ) (after : Option LackPlace → Config S)
      → may_be m c.state lack ≡ true → after lack ≡ next → IsFrom (turn_number m traced most c + 1) lacks
      → turns_one m traced most (playing c replies (with_lack lack (turn_number m traced most c) lacks) halt asks shown) after ≡ playing next replies lacks halt asks shown
  turned_by c next lack replies lacks halt asks shown after may e from =
      let turn = turn_number m traced most c in
      let met = met_by c.state lack turn lacks may from in
      ap (λ (k : Option LackPlace). playing (after k) replies (lacks_after (m.may_lack c.state) turn (with_lack lack turn lacks)) halt asks shown) met.0
      ∙ ap (λ (l : List Lack). playing (after lack) replies l halt asks shown) met.1 ∙ ap (λ (d : Config S). playing d replies lacks halt asks shown) e

  turns : (c next : Config S) (place : Place) (lack : Option LackPlace) (replies : List KernelReply) (lacks : List Lack) (halt : Option ℕ) (asks : List KernelAsk) (shown : List ℕ) → by_turn m traced most c place lack ≡ Some next → IsFrom (turn_number m traced most c + 1) lacks
      → advance_at m traced most (playing c replies (with_lack lack (turn_number m traced most c) lacks) halt asks shown) place ≡ playing next replies lacks halt asks shown
  turns c next (Due left) lack replies lacks halt asks shown e from =
      let test = tested (may_be m c.state lack) e in
      turned_by c next lack replies lacks halt asks shown (after_turn m traced most c left) test.0 test.1 from
  turns c next Last lack replies lacks halt asks shown e from =
      let test = tested (may_be m c.state lack) e in
      turned_by c next lack replies lacks halt asks shown (after_last m traced most c) test.0 test.1 from
  turns c next Round lack replies lacks halt asks shown e from = cc
  turns c next Asking lack replies lacks halt asks shown e from = cc
  turns c next Trying lack replies lacks halt asks shown e from = cc
  turns c next (Turns left) lack replies lacks halt asks shown e from = cc
  turns c next Stopping lack replies lacks halt asks shown e from = cc
  turns c next Closing lack replies lacks halt asks shown e from = cc
  turns c next Closes lack replies lacks halt asks shown e from = cc
  turns c next (Writing after) lack replies lacks halt asks shown e from = cc
  turns c next Over lack replies lacks halt asks shown e from = cc

  -- by a write
  goes_out : (c next : Config S) (place : Place) (replies : List KernelReply) (lacks : List Lack) (halt : Option ℕ) (asks : List KernelAsk) (shown : List ℕ) → halt_within halt (length shown) (length c.due) ≡ None → by_write m traced most c place ≡ Some next
      → advance_at m traced most (playing c replies lacks halt asks shown) place ≡ playing next replies lacks halt asks (shown ++ c.due)
  goes_out c next (Writing after) replies lacks halt asks shown far e =
      ap (writes m traced most (playing c replies lacks halt asks shown) after) far ∙ ap (λ (d : Config S). playing d replies lacks halt asks (shown ++ c.due)) (some_is e)
  goes_out c next Round replies lacks halt asks shown far e = cc
  goes_out c next Asking replies lacks halt asks shown far e = cc
  goes_out c next Trying replies lacks halt asks shown far e = cc
  goes_out c next (Turns left) replies lacks halt asks shown far e = cc
  goes_out c next (Due left) replies lacks halt asks shown far e = cc
  goes_out c next Stopping replies lacks halt asks shown far e = cc
  goes_out c next Closing replies lacks halt asks shown far e = cc
  goes_out c next Last replies lacks halt asks shown far e = cc
  goes_out c next Closes replies lacks halt asks shown far e = cc
  goes_out c next Over replies lacks halt asks shown far e = cc

  -- by a write that fails
  breaks : (c next : Config S) (place : Place) (part : List ℕ) (replies : List KernelReply) (lacks : List Lack) (asks : List KernelAsk) (shown : List ℕ) → by_halt m traced most c place part ≡ Some next
      → advance_at m traced most (playing c replies lacks (Some (length shown + length part)) asks shown) place ≡ playing next replies lacks None asks (shown ++ part)
  breaks c next (Writing after) part replies lacks asks shown e =
      let test = tested (is_proper_part part c.due) e in
      let is = part_is part c.due test.0 in
      ap (writes m traced most (playing c replies lacks (Some (length shown + length part)) asks shown) after) (within (length shown) (length c.due) (length part) is.0)
      ∙ ap (λ (l : List ℕ). playing (halted m traced most c after) replies lacks None asks (shown ++ l)) is.1 ∙ ap (λ (d : Config S). playing d replies lacks None asks (shown ++ part)) test.1
  breaks c next Round part replies lacks asks shown e = cc
  breaks c next Asking part replies lacks asks shown e = cc
  breaks c next Trying part replies lacks asks shown e = cc
  breaks c next (Turns left) part replies lacks asks shown e = cc
  breaks c next (Due left) part replies lacks asks shown e = cc
  breaks c next Stopping part replies lacks asks shown e = cc
  breaks c next Closing part replies lacks asks shown e = cc
  breaks c next Last part replies lacks asks shown e = cc
  breaks c next Closes part replies lacks asks shown e = cc
  breaks c next Over part replies lacks asks shown e = cc

  -- before what follows
  moved_on : (c end : Config S) (n : ℕ) (es fs : List Entry) (bs cs : List ℕ) → es ≡ fs → bs ≡ cs → Plays c end n fs cs → Plays c end n es bs
  moved_on c end n es fs bs cs e f p = subst (λ (l : List Entry). Plays c end n l bs) (sym e) (subst (λ (l : List ℕ). Plays c end n fs l) (sym f) p)

  -- the refusals that follow are those from here on
  from_here : (c next : Config S) (lacks : List Lack) → turn_number m traced most next ≡ turn_number m traced most c → IsFrom (turn_number m traced most next) lacks → IsFrom (turn_number m traced most c) lacks
  from_here c next lacks same from = subst (λ (k : ℕ). IsFrom k lacks) same from

  one_passed : (c next end : Config S) (n : ℕ) (es : List Entry) (bs : List ℕ) → step m traced most c Passed ≡ Some next → Plays next end n es bs → Plays c end (suc n) es bs
  one_passed c next end n es bs due ih = record {
    halted = ih.halted;
    lacks = ih.lacks;
    from = from_here c next ih.lacks (number_passed m traced most c next due) ih.from;
    plays = λ asks shown. ap (play m traced most n) (passes c next c.place (replies_of es) ih.lacks (halt_at ih.halted (length shown + length bs)) asks shown due) ∙ ih.plays asks shown;
    still = λ silent. ih.still (step_silent m traced most c Passed next silent due).0;
  }

  one_turned : (c next end : Config S) (n : ℕ) (lack : Option LackPlace) (es : List Entry) (bs : List ℕ) → step m traced most c (Turned lack) ≡ Some next → Plays next end n es bs → Plays c end (suc n) es bs
  one_turned c next end n lack es bs due ih =
      let turn = turn_number m traced most c in
      let from : IsFrom (turn + 1) ih.lacks = subst (λ (k : ℕ). IsFrom k ih.lacks) (number_turned m traced most c next c.place lack due) ih.from in
      record {
        halted = ih.halted;
        lacks = with_lack lack turn ih.lacks;
        from = is_from lack turn ih.lacks from;
        plays = λ asks shown. ap (play m traced most n) (turns c next c.place lack (replies_of es) ih.lacks (halt_at ih.halted (length shown + length bs)) asks shown due from) ∙ ih.plays asks shown;
        still = λ silent. ih.still (step_silent m traced most c (Turned lack) next silent due).0;
      }

  one_replied : (c next end : Config S) (n : ℕ) (a : Option KernelAsk) (reply : KernelReply) (es : List Entry) (bs : List ℕ) → asked m traced most c c.place ≡ a → by_reply m traced most c a reply ≡ Some next → Plays next end n es bs
      → Plays c end (suc n) (entry_of m traced most a reply ++ es) bs
  one_replied c next end n None reply es bs is due ih = cc
  one_replied c next end n (Some ask) reply es bs is due ih =
      let test = tested (fits ask reply) due in
      record {
        halted = ih.halted;
        lacks = ih.lacks;
        from = from_here c next ih.lacks (number_replied m traced most c next (Some ask) reply is due) ih.from;
        plays = λ asks shown. ap (play m traced most n) (hears c next c.place ask reply (replies_of es) ih.lacks (halt_at ih.halted (length shown + length bs)) asks shown is test.0 test.1) ∙ ih.plays (asks ++ ask ∷ []) shown
            ∙ ap (λ (l : List KernelAsk). playing end [] [] None l (shown ++ bs)) (append_assoc asks (ask ∷ []) (map ask_of es));
        still = λ silent. ih.still (replied_silent m traced most c (Some ask) reply next is silent due);
      }

  one_wrote : (c next end : Config S) (n : ℕ) (es : List Entry) (bs : List ℕ) → step m traced most c Wrote ≡ Some next → Plays next end n es bs → Plays c end (suc n) es (c.due ++ bs)
  one_wrote c next end n es bs due ih = record {
    halted = ih.halted;
    lacks = ih.lacks;
    from = from_here c next ih.lacks (number_wrote m traced most c next c.place due) ih.from;
    plays = λ asks shown.
        let size : length shown + length (c.due ++ bs) ≡ length shown + (length c.due + length bs) = ap (λ (k : ℕ). length shown + k) (length-append c.due bs) in
        let size' : length shown + length (c.due ++ bs) ≡ length (shown ++ c.due) + length bs = omega (arith, length-append c.due bs, length-append shown c.due) in
        let far : halt_within (halt_at ih.halted (length shown + length (c.due ++ bs))) (length shown) (length c.due) ≡ None = ap (λ (k : ℕ). halt_within (halt_at ih.halted k) (length shown) (length c.due)) size ∙ not_within ih.halted (length shown) (length c.due) (length bs) in
        ap (play m traced most n) (goes_out c next c.place (replies_of es) ih.lacks (halt_at ih.halted (length shown + length (c.due ++ bs))) asks shown far due ∙ ap (λ (k : ℕ). playing next (replies_of es) ih.lacks (halt_at ih.halted k) asks (shown ++ c.due)) size') ∙ ih.plays asks (shown ++ c.due)
        ∙ ap (λ (l : List ℕ). playing end [] [] None (asks ++ map ask_of es) l) (append_assoc shown c.due bs);
    still = λ silent. absurd (no_write m traced most c c.place next silent.place due);
  }

  one_halted : (c next end : Config S) (n : ℕ) (part : List ℕ) (es : List Entry) (bs : List ℕ) → step m traced most c (Halted part) ≡ Some next → Good m traced most c → Plays next end n es bs → Plays c end (suc n) es (part ++ bs)
  one_halted c next end n part es bs due good ih =
      let quiet_after = ih.still (halt_silent m traced most c c.place part next refl good due) in
      let size : length (part ++ bs) ≡ length part = ap (λ (l : List ℕ). length (part ++ l)) quiet_after.1 ∙ ap length (append-nil part) in
      record {
        halted = true;
        lacks = ih.lacks;
        from = from_here c next ih.lacks (number_cut m traced most c next c.place part due) ih.from;
        plays = λ asks shown.
            ap (λ (k : ℕ). play m traced most n (advance m traced most (playing c (replies_of es) ih.lacks (Some (length shown + k)) asks shown))) size
            ∙ ap (play m traced most n) (breaks c next c.place part (replies_of es) ih.lacks asks shown due)
            ∙ ap (λ (b : Bool). play m traced most n (playing next (replies_of es) ih.lacks (halt_at b (length (shown ++ part) + length bs)) asks (shown ++ part))) (sym quiet_after.0)
            ∙ ih.plays asks (shown ++ part) ∙ ap (λ (l : List ℕ). playing end [] [] None (asks ++ map ask_of es) l) (append_assoc shown part bs);
        still = λ silent. absurd (never_halts m traced most c part next silent due);
      }

  ended : (c end : Config S) (es : List Entry) (bs : List ℕ) (asks : List KernelAsk) (shown : List ℕ) → end ≡ c → es ≡ [] → bs ≡ [] → playing c (replies_of es) [] None asks shown ≡ playing end [] [] None (asks ++ map ask_of es) (shown ++ bs)
  ended c end es bs asks shown is none hush =
      ap (λ (d : Config S). playing d (replies_of es) [] None asks shown) (sym is) ∙ ap (λ (l : List KernelReply). playing end l [] None asks shown) (ap replies_of none)
      ∙ ap (λ (l : List KernelAsk). playing end [] [] None l shown) (sym (ap (λ (l : List Entry). asks ++ map ask_of l) none ∙ append-nil asks))
      ∙ ap (λ (l : List ℕ). playing end [] [] None (asks ++ map ask_of es) l) (sym (ap (λ (l : List ℕ). shown ++ l) hush ∙ append-nil shown))

  pub follows : (xs : List Event) (c end : Config S) (es : List Entry) (bs : List ℕ) → Along m traced most c xs end es bs → Good m traced most c → Plays c end (length xs) es bs
  follows [] c end es bs (is, none, hush) good = record { halted = false; lacks = []; from = tt; plays = λ asks shown. ended c end es bs asks shown is none hush; still = λ silent. (refl, hush) }
  follows (Passed ∷ xs) c end es bs (next, es', bs', due, more, same, shown) good =
      moved_on c end (suc (length xs)) es es' bs bs' same shown (one_passed c next end (length xs) es' bs' due (follows xs next end es' bs' more (step_good m traced most c Passed next good due)))
  follows ((Turned lack) ∷ xs) c end es bs (next, es', bs', due, more, same, shown) good =
      moved_on c end (suc (length xs)) es es' bs bs' same shown (one_turned c next end (length xs) lack es' bs' due (follows xs next end es' bs' more (step_good m traced most c (Turned lack) next good due)))
  follows ((Replied reply) ∷ xs) c end es bs (next, es', bs', due, more, same, shown) good =
      moved_on c end (suc (length xs)) es (entry_of m traced most (asked m traced most c c.place) reply ++ es') bs bs' same shown
      (one_replied c next end (length xs) (asked m traced most c c.place) reply es' bs' refl due (follows xs next end es' bs' more (step_good m traced most c (Replied reply) next good due)))
  follows (Wrote ∷ xs) c end es bs (next, es', bs', due, more, same, shown) good =
      moved_on c end (suc (length xs)) es es' bs (c.due ++ bs') same shown (one_wrote c next end (length xs) es' bs' due (follows xs next end es' bs' more (step_good m traced most c Wrote next good due)))
  follows ((Halted part) ∷ xs) c end es bs (next, es', bs', due, more, same, shown) good =
      moved_on c end (suc (length xs)) es es' bs (part ++ bs') same shown (one_halted c next end (length xs) part es' bs' due good (follows xs next end es' bs' more (step_good m traced most c (Halted part) next good due)))

module _ {S K : Type 0} (m : Machine S) (kernel_step : K → Entry → K → Type 0) (traced : Bool) (most : ℕ) where
  -- a run from before its first round to its end, as it happened, is the run that is computed
  tells : (a b : K) (v w : S) (st : Status) (ta : Tally) (keys keys' : Stream) (entries : List Entry) (t u : Option (List ℕ)) → Went kernel_step a entries b
      → (leads : Leads m traced most (here v Round Well no_tally keys) (here w Over st ta keys') entries t u) → Plays m traced most (here v Round Well no_tally keys) (here w Over st ta keys') (length leads.events) entries leads.bytes
      → Tells m kernel_step a b traced most v keys keys' t u st
  tells a b v w st ta keys keys' entries t u went leads whole = record {
    entries = entries;
    bytes = leads.bytes;
    went = went;
    story = record {
      lacks = whole.lacks;
      halt = halt_at whole.halted (0 + length leads.bytes);
      steps = length leads.events;
      played = record { config = here w Over st ta keys'; replies = []; lacks = []; halt = None; asks = map ask_of entries; bytes = leads.bytes };
      plays = whole.plays [] [];
      over = refl;
      asks = refl;
      shows = refl;
      ends = refl;
      random = refl;
      heard = refl;
      used = refl;
      met = refl;
    };
    out = leads.out;
  }

  -- .. and it tells how it ended
  pub concludes : (a b : K) (v w : S) (end : RunEnd) (st : Status) (ta : Tally) (keys keys' : Stream) (entries : List Entry) (t u : Option (List ℕ)) → status_of end ≡ st → NamesErrno (m.ended w) end → Went kernel_step a entries b
      → Leads m traced most (here v Round Well no_tally keys) (here w Over st ta keys') entries t u → Concludes m kernel_step a b traced most v keys keys' t u end
  unfolding tells
  concludes a b v w end st ta keys keys' entries t u is names went leads =
      let leads' : Leads m traced most (here v Round Well no_tally keys) (here w Over (status_of end) ta keys') entries t u =
      subst (λ (x : Status). Leads m traced most (here v Round Well no_tally keys) (here w Over x ta keys') entries t u) (sym is) leads in
      let whole = follows m traced most leads'.events (here v Round Well no_tally keys) (here w Over (status_of end) ta keys') entries leads'.bytes leads'.along (inl refl) in
      record { tells = tells a b v w (status_of end) ta keys keys' entries t u went leads' whole; errno = names }
