-- Two machines of which nothing different is seen tell the same story.
use Rattle.std.proofs.Common.{◌≡◌, ◌⊎◌, inl, inr, ◌∙◌, ℕ, zero, suc, ◌+◌, ◌-◌, List, [], ◌∷◌, ◌++◌, length, take, flat_map, Option, Some, None, Bool, true, false, ◌&&◌, ◌||◌, ◌==◌, not, if◌then◌else◌, is_some, refl, sym, ap, subst, arith}
use Rattle.rand_core.specs.Stream.{Stream}
use Rattle.dill_base.specs.declared.errno.Errno.{Errno}
use Rattle.dill_base.specs.declared.status.Status.{Status}
use Rattle.dill_base.specs.declared.status.Status.TheVariants as status
use Rattle.dill_calls.specs.declared.ran.LackPlace.{LackPlace}
use Rattle.dill_calls.specs.declared.ran.Note.{Note}
use Rattle.dill_calls.specs.declared.ran.Ran.{Ran}
use Rattle.dill_calls.specs.declared.word.Word.{Word}
use Rattle.dill_kernel.specs.declared.ready.Limit.{Limit}
use Rattle.dill_kernel.specs.declared.ready.Ready.{Ready}
use Rattle.dill_kernel.specs.declared.replies.KernelAsk.{KernelAsk}
use Rattle.dill_kernel.specs.declared.replies.KernelAsk.TheVariants.{Wait}
use Rattle.dill_kernel.specs.declared.replies.KernelReply.{KernelReply}
use Rattle.dill_kernel.specs.declared.replies.KernelReply.TheVariants as told
use Rattle.dill_kernel.specs.Entry.{Entry}
use Rattle.relay_trace.specs.Lines.{ran_bytes, note_line, waiting_line}
use Rattle.dill_drive.specs.declared.tally.Tally.{Tally}
use Rattle.dill_drive.specs.Machine.{Machine, may_be}
use Rattle.dill_drive.specs.Story.{here, no_tally, after_turn, after_last, Place, Round, Asking, Trying, Turns, Due, Stopping, Closing, Last, Closes, Writing, Over, Config, is_sink, is_well, is_empty, showing, notes_of, waiting_lines, moved, stopped, final, summary_of, is_spent, after_test, after_wait, after_try, turned, halted, one_round, one_turn, one_last, lacks_by, before_round, before_turn, at}
use Rattle.dill_kernel.specs.Replay.{reply_to, replies_after}
use Rattle.dill_drive.specs.Play.{Lack, Playing, play, advance, advance_at, asks_try, asks_wait, writes, turns_one, opening, lack_at, lacks_after, halt_within, turn_number}
use Rattle.dill_drive.specs.Tells.{Concludes, NamesErrno, replies_of}
use Rattle.dill_drive.specs.declared.run_end.RunEnd.{RunEnd}
use Rattle.dill_drive.proofs.Counting.{number_turn, number_last}
use Rattle.dill_drive.proofs.Lacking.{IsPast, missed_stays}
use Rattle.dill_drive.proofs.Turning.{none_of}
use Rattle.std.proofs.lemmas.Bool.Decides.{nat_tests}

-- Each state of the one stands for some of the other: what is seen of both is the same, and steps keep it so. What is seen only before `main` has ended may differ after, and the other may be refused memory more often.
pub record Alike {S T : Type 0} (m : Machine S) (n : Machine T) (R : S → T → Type 0) : Type 0 where
  pub ended : (s : S) (t : T) → R s t → n.ended t ≡ m.ended s
  pub answered : (s : S) (t : T) → R s t → n.answered t ≡ m.answered s
  pub stuck : (s : S) (t : T) → R s t → m.ended s ≡ None → n.stuck t ≡ m.stuck s
  pub limit : (s : S) (t : T) → R s t → m.ended s ≡ None → n.limit t ≡ m.limit s
  pub woke : (s : S) (t : T) (moment : ℕ) (ready : List Ready) → R s t → R (m.woke s moment ready) (n.woke t moment ready)
  pub next_try : (s : S) (t : T) → R s t → n.next_try t ≡ m.next_try s
  pub hear : (s : S) (t : T) (ask : KernelAsk) (reply : KernelReply) (keys : Stream) → R s t → m.next_try s ≡ Some ask → R (m.hear s ask reply keys).0 (n.hear t ask reply keys).0 × ((n.hear t ask reply keys).1 ≡ (m.hear s ask reply keys).1)
  pub expire : (s : S) (t : T) → R s t → R (m.expire s) (n.expire t)
  pub may_lack : (s : S) (t : T) (place : LackPlace) → R s t → m.ended s ≡ None → m.may_lack s place ≡ true → n.may_lack t place ≡ true
  pub ran : (s : S) (t : T) (lack : Option LackPlace) → R s t → m.ended s ≡ None → may_be m s lack ≡ true → n.ran t lack ≡ m.ran s lack
  pub turn : (s : S) (t : T) (lack : Option LackPlace) (keys : Stream) → R s t → m.ended s ≡ None → may_be m s lack ≡ true → R (m.turn s lack keys).0 (n.turn t lack keys).0 × ((n.turn t lack keys).1 ≡ (m.turn s lack keys).1)
  pub shut : (s : S) (t : T) → R s t → R (m.shut s) (n.shut t)
  pub notes : (s : S) (t : T) → R s t → n.notes t ≡ m.notes s
  pub waiting : (s : S) (t : T) → R s t → n.waiting t ≡ m.waiting s
  pub made : (s : S) (t : T) → R s t → n.made t ≡ m.made s
  pub gone : (s : S) (t : T) → R s t → n.gone t ≡ m.gone s

-- places at which it doesn't matter whether `main` has ended, and at which no line is due
abbrev Steady : Place → Type 0
Steady Asking = ⊥
Steady (Due left) = ⊥
Steady Last = ⊥
Steady (Writing next) = ⊥
Steady other = Unit {0}

-- A turn meets the same refusal in both, or the one misses a refusal that was meant for it.
data Meets (turn : ℕ) (left left' : List Lack) (k k' : Option LackPlace) : Type 0 where
  both_meet : k' ≡ k → left' ≡ left → Meets turn left left' k k'
  one_misses : IsPast (turn + 1) left → Meets turn left left' k k'

-- behind a refusal that none of them meets
met_behind : (turn : ℕ) (lack : Lack) (left left' : List Lack) (k k' : Option LackPlace) → Meets turn left left' k k' → Meets turn (lack ∷ left) (lack ∷ left') k k'
met_behind turn lack left left' k k' (both_meet same rest) = both_meet same (ap (λ (l : List Lack). lack ∷ l) rest)
met_behind turn lack left left' k k' (one_misses past) = one_misses (inr past)

meets_by : (turn : ℕ) (lack : Lack) (lacks left left' : List Lack) (k k' : Option LackPlace) (a b b' : Bool) → lack.0 == turn ≡ a → (b ≡ true → b' ≡ true) → Meets turn left left' k k'
    → Meets turn (if a && b then lacks else lack ∷ left) (if a && b' then lacks else lack ∷ left') (if a && b then Some lack.1 else k) (if a && b' then Some lack.1 else k')
meets_by turn lack lacks left left' k k' false b b' is may more = met_behind turn lack left left' k k' more
meets_by turn lack lacks left left' k k' true true true is may more = both_meet refl refl
meets_by turn lack lacks left left' k k' true true false is may more = cc (may refl)
meets_by turn lack lacks left left' k k' true false b' is may more = one_misses (inl (grind (arith, nat_tests, is)))

meets : (turn : ℕ) (lacks : List Lack) (may may' : LackPlace → Bool) → ((place : LackPlace) → may place ≡ true → may' place ≡ true) → Meets turn (lacks_after may turn lacks) (lacks_after may' turn lacks) (lack_at may turn lacks) (lack_at may' turn lacks)
meets turn [] may may' more = both_meet refl refl
meets turn (lack ∷ lacks) may may' more =
    meets_by turn lack lacks (lacks_after may turn lacks) (lacks_after may' turn lacks) (lack_at may turn lacks) (lack_at may' turn lacks) (lack.0 == turn) (may lack.1) (may' lack.1) refl (more lack.1) (meets turn lacks may may' more)

-- what is met may come
may_by : {S : Type 0} (m : Machine S) (s : S) (lack : Lack) (more : Option LackPlace) (a b : Bool) → m.may_lack s lack.1 ≡ b → may_be m s more ≡ true → may_be m s (if a && b then Some lack.1 else more) ≡ true
may_by m s lack more true true e rest = e
may_by m s lack more true false e rest = rest
may_by m s lack more false b e rest = rest

may_meet : {S : Type 0} (m : Machine S) (s : S) (turn : ℕ) (lacks : List Lack) → may_be m s (lack_at (m.may_lack s) turn lacks) ≡ true
may_meet m s turn [] = refl
may_meet m s turn (lack ∷ lacks) = may_by m s lack (lack_at (m.may_lack s) turn lacks) (lack.0 == turn) (m.may_lack s lack.1) refl (may_meet m s turn lacks)

module _ {S T : Type 0} (m : Machine S) (n : Machine T) (traced : Bool) (most : ℕ) (R : S → T → Type 0) (alike : Alike m n R) where
  -- the place is one where the state may stand
  abbrev Apt : S → Place → Type 0
  Apt s Asking = is_some (m.ended s) ≡ false
  Apt s (Due left) = is_some (m.ended s) ≡ false
  Apt s Last = is_some (m.ended s) ≡ false
  Apt s (Writing next) = Steady next
  Apt s other = Unit {0}

  abbrev carried : Config S → T → Config T
  carried c t = record { state = t; place = c.place; due = c.due; status = c.status; tally = c.tally; keys = c.keys }

  record Same (c : Config S) (d : Config T) : Type 0 where
    other : T
    stands : R c.state other
    apt : Apt c.state c.place
    same : d ≡ carried c other

  steady_apt : (s : S) (place : Place) → Steady place → Apt s place
  steady_apt s Round is = is
  steady_apt s Asking is = absurd is
  steady_apt s Trying is = is
  steady_apt s (Turns left) is = is
  steady_apt s (Due left) is = absurd is
  steady_apt s Stopping is = is
  steady_apt s Closing is = is
  steady_apt s Last is = absurd is
  steady_apt s Closes is = is
  steady_apt s (Writing next) is = absurd is
  steady_apt s Over is = is

  picked : (b : Bool) (c : Config S) (t : T) (next : Place) (lines : List ℕ) → R c.state t → Steady next
      → Same (if b then at m traced most c next else record c { place = Writing next; due = lines }) (if b then at n traced most (carried c t) next else record (carried c t) { place = Writing next; due = lines })
  picked true c t next lines r is = record { other = t; stands = r; apt = steady_apt c.state next is; same = refl }
  picked false c t next lines r is = record { other = t; stands = r; apt = is; same = refl }

  shows : (c : Config S) (t : T) (next : Place) (lines lines' : List ℕ) → lines' ≡ lines → R c.state t → Steady next → Same (showing m traced most c next lines) (showing n traced most (carried c t) next lines')
  shows c t next lines lines' e r is =
      subst (λ (l : List ℕ). Same (showing m traced most c next lines) (showing n traced most (carried c t) next l)) (sym e) (picked (is_sink c.status || is_empty lines) c t next lines r is)

  notes_same : (c : Config S) (s : S) (t : T) → R s t → notes_of n traced most t ≡ notes_of m traced most s
  notes_same c s t r = ap (λ (l : List Note). if traced then flat_map note_line l else []) (alike.notes s t r)

  moves : (c : Config S) (t : T) (s' : S) (t' : T) (next : Place) → R s' t' → Steady next → Same (moved m traced most c s' next) (moved n traced most (carried c t) t' next)
  moves c t s' t' next r is = shows (record c { state = s' }) t' next (notes_of m traced most s') (notes_of n traced most t') (notes_same c s' t' r) r is

  stops : (c : Config S) (t : T) (stop : Status) → R c.state t → Same (stopped m traced most c stop) (stopped n traced most (carried c t) stop)
  stops c t stop r = moves (record c { status = stop }) t (m.shut c.state) (n.shut t) Closing (alike.shut c.state t r) tt

  -- before a round
  rounds_by : (a b d : Bool) (c : Config S) (t : T) → R c.state t → is_some (m.ended c.state) ≡ a
      → Same (if a then at m traced most c Closes else (if b then showing m traced most (record c { status = status.Stuck }) Stopping (waiting_lines m traced most c.state) else (if d then stopped m traced most c status.Spent else at m traced most c Asking)))
      (if a then at n traced most (carried c t) Closes else (if b then showing n traced most (record (carried c t) { status = status.Stuck }) Stopping (waiting_lines n traced most t) else (if d then stopped n traced most (carried c t) status.Spent else at n traced most (carried c t) Asking)))
  rounds_by true b d c t r is = record { other = t; stands = r; apt = tt; same = refl }
  rounds_by false true d c t r is =
      shows (record c { status = status.Stuck }) t Stopping (waiting_lines m traced most c.state) (waiting_lines n traced most t) (ap (λ (l : List (ℕ × Word)). flat_map (λ one. waiting_line one.0 one.1) l) (alike.waiting c.state t r)) r tt
  rounds_by false false true c t r is = stops c t status.Spent r
  rounds_by false false false c t r is = record { other = t; stands = r; apt = is; same = refl }

  chosen : (a b b' d : Bool) (x y z w : Config T) → (a ≡ false → b' ≡ b) → (if a then x else (if b' then y else (if d then z else w))) ≡ (if a then x else (if b then y else (if d then z else w)))
  chosen true b b' d x y z w e = refl
  chosen false b b' d x y z w e = ap (λ (k : Bool). if k then y else (if d then z else w)) (e refl)

  rounds : (c : Config S) (t : T) → R c.state t → Same (before_round m traced most c) (before_round n traced most (carried c t))
  rounds c t r =
      let d = is_spent m traced most c in
      let x = at n traced most (carried c t) Closes in
      let y = showing n traced most (record (carried c t) { status = status.Stuck }) Stopping (waiting_lines n traced most t) in
      let z = stopped n traced most (carried c t) status.Spent in
      let w = at n traced most (carried c t) Asking in
      let e : before_round n traced most (carried c t) ≡ (if is_some (m.ended c.state) then x else (if m.stuck c.state then y else (if d then z else w))) =
      ap (λ (o : Option (Option Errno)). if is_some o then x else (if n.stuck t then y else (if d then z else w))) (alike.ended c.state t r)
      ∙ chosen (is_some (m.ended c.state)) (m.stuck c.state) (n.stuck t) d x y z w (λ off. alike.stuck c.state t r (none_of (m.ended c.state) off)) in
      subst (λ (k : Config T). Same (before_round m traced most c) k) (sym e) (rounds_by (is_some (m.ended c.state)) (m.stuck c.state) d c t r refl)

  -- before a turn
  turns_by : (a b d : Bool) (left : ℕ) (c : Config S) (t : T) → R c.state t → is_some (m.ended c.state) ≡ a
      → Same (if a || b then at m traced most c Round else (if d then stopped m traced most c status.Spent else at m traced most c (Due left)))
      (if a || b then at n traced most (carried c t) Round else (if d then stopped n traced most (carried c t) status.Spent else at n traced most (carried c t) (Due left)))
  turns_by true b d left c t r is = record { other = t; stands = r; apt = tt; same = refl }
  turns_by false true d left c t r is = record { other = t; stands = r; apt = tt; same = refl }
  turns_by false false true left c t r is = stops c t status.Spent r
  turns_by false false false left c t r is = record { other = t; stands = r; apt = is; same = refl }

  turns : (left : ℕ) (c : Config S) (t : T) → R c.state t → Same (before_turn m traced most c left) (before_turn n traced most (carried c t) left)
  turns left c t r =
      let d = is_spent m traced most c in
      let z = stopped n traced most (carried c t) status.Spent in
      let pick : Option (Option Errno) → Bool → Config T = λ o b. if is_some o || (not b || left == 0) then at n traced most (carried c t) Round else (if d then z else at n traced most (carried c t) (Due left)) in
      let e : before_turn n traced most (carried c t) left ≡ pick (m.ended c.state) (m.answered c.state) = ap (λ o. pick o (n.answered t)) (alike.ended c.state t r) ∙ ap (pick (m.ended c.state)) (alike.answered c.state t r) in
      subst (λ (k : Config T). Same (before_turn m traced most c left) k) (sym e) (turns_by (is_some (m.ended c.state)) (not (m.answered c.state) || left == 0) d left c t r refl)

  -- after a stop
  closings_by : (a : Bool) (c : Config S) (t : T) → R c.state t → is_some (m.ended c.state) ≡ a
      → Same (if a then at m traced most c Closes else at m traced most c Last) (if a then at n traced most (carried c t) Closes else at n traced most (carried c t) Last)
  closings_by true c t r is = record { other = t; stands = r; apt = tt; same = refl }
  closings_by false c t r is = record { other = t; stands = r; apt = is; same = refl }

  closings : (c : Config S) (t : T) → R c.state t → Same (after_test m traced most c Closing) (after_test n traced most (carried c t) Closing)
  closings c t r =
      let pick : Option (Option Errno) → Config T = λ o. if is_some o then at n traced most (carried c t) Closes else at n traced most (carried c t) Last in
      subst (λ (k : Config T). Same (after_test m traced most c Closing) k) (sym (ap pick (alike.ended c.state t r))) (closings_by (is_some (m.ended c.state)) c t r refl)

  -- the summary
  ends : (c : Config S) (t : T) → R c.state t → Same (after_test m traced most c Closes) (after_test n traced most (carried c t) Closes)
  ends c t r =
      let o = m.ended c.state in
      let last : Option (Option Errno) → ℕ → ℕ → Config T = λ x made gone. showing n traced most (record (carried c t) { status = final c.status x }) Over (summary_of (final c.status x) x c.tally made gone) in
      let e : after_test n traced most (carried c t) Closes ≡ last o (m.made c.state) (m.gone c.state) =
      ap (λ x. last x (n.made t) (n.gone t)) (alike.ended c.state t r) ∙ ap (λ k. last o k (n.gone t)) (alike.made c.state t r) ∙ ap (last o (m.made c.state)) (alike.gone c.state t r) in
      let lines = summary_of (final c.status o) o c.tally (m.made c.state) (m.gone c.state) in
      subst (λ (k : Config T). Same (after_test m traced most c Closes) k) (sym e) (shows (record c { status = final c.status o }) t Over lines lines refl r tt)

  -- a wait
  woken : (c : Config S) (t : T) (reply : KernelReply) → R c.state t → Same (after_wait m traced most c reply) (after_wait n traced most (carried c t) reply)
  woken c t (told.Woke moment ready) r = record { other = n.woke t moment ready; stands = alike.woke c.state t moment ready r; apt = tt; same = refl }
  woken c t told.Done r = stops (record c { tally = one_round c.tally }) t status.Wait r
  woken c t told.NotYet r = stops (record c { tally = one_round c.tally }) t status.Wait r
  woken c t (told.Came bytes) r = stops (record c { tally = one_round c.tally }) t status.Wait r
  woken c t (told.Took count) r = stops (record c { tally = one_round c.tally }) t status.Wait r
  woken c t told.End r = stops (record c { tally = one_round c.tally }) t status.Wait r
  woken c t (told.Failed fault) r = stops (record c { tally = one_round c.tally }) t status.Wait r

  -- a try
  tried : (c : Config S) (t : T) (ask : KernelAsk) (reply : KernelReply) → R c.state t → m.next_try c.state ≡ Some ask → Steady c.place → Same (after_try m traced most c ask reply) (after_try n traced most (carried c t) ask reply)
  tried c t ask reply r due is =
      let heard = alike.hear c.state t ask reply c.keys r due in
      let old = m.hear c.state ask reply c.keys in
      let next : Stream → Config T = λ keys. moved n traced most (record (carried c t) { tally = record c.tally { lacks = lacks_by reply c.tally.lacks }; keys = keys }) (n.hear t ask reply c.keys).0 c.place in
      subst (λ (k : Config T). Same (after_try m traced most c ask reply) k) (sym (ap next heard.1))
      (moves (record c { tally = record c.tally { lacks = lacks_by reply c.tally.lacks }; keys = old.1 }) t old.0 (n.hear t ask reply c.keys).0 c.place heard.0 is)

  -- a turn
  goes : (c : Config S) (t : T) (lack : Option LackPlace) (tally : Tally) (next : Place) → R c.state t → is_some (m.ended c.state) ≡ false → may_be m c.state lack ≡ true → Steady next → Same (turned m traced most c lack tally next) (turned n traced most (carried c t) lack tally next)
  goes c t lack tally next r on may is =
      let off = none_of (m.ended c.state) on in
      let step = alike.turn c.state t lack c.keys r off may in
      let old = m.turn c.state lack c.keys in
      let new = n.turn t lack c.keys in
      let lines : Ran → List Note → List ℕ = λ ran notes. ran_bytes traced ran ++ (if traced then flat_map note_line notes else []) in
      let same_lines : lines (n.ran t lack) (n.notes new.0) ≡ lines (m.ran c.state lack) (m.notes old.0) = ap (λ ran. lines ran (n.notes new.0)) (alike.ran c.state t lack r off may) ∙ ap (lines (m.ran c.state lack)) (alike.notes old.0 new.0 step.0) in
      let to : Stream → Config T = λ keys. showing n traced most (record (carried c t) { state = new.0; tally = tally; keys = keys }) next (lines (n.ran t lack) (n.notes new.0)) in
      subst (λ (k : Config T). Same (turned m traced most c lack tally next) k) (sym (ap to step.1))
      (shows (record c { state = old.0; tally = tally; keys = old.1 }) new.0 next (lines (m.ran c.state lack) (m.notes old.0)) (lines (n.ran t lack) (n.notes new.0)) same_lines step.0 is)

  -- the whole of a run: the replies, the refusals, what went out and what was asked are the same
  abbrev holding : Config S → List KernelReply → List Lack → Option ℕ → List KernelAsk → List ℕ → Playing S
  holding c replies lacks halt asks bytes = record { config = c; replies = replies; lacks = lacks; halt = halt; asks = asks; bytes = bytes }

  abbrev followed : Playing S → Config T → Playing T
  followed p d = record { config = d; replies = p.replies; lacks = p.lacks; halt = p.halt; asks = p.asks; bytes = p.bytes }

  record Follows (p : Playing S) (q : Playing T) : Type 0 where
    config : Config T
    alike_now : Same p.config config
    rest : q ≡ followed p config

  by_config : (c : Config S) (d : Config T) (replies : List KernelReply) (lacks : List Lack) (halt : Option ℕ) (asks : List KernelAsk) (bytes : List ℕ) → Same c d
      → Follows (holding c replies lacks halt asks bytes) (followed (holding c replies lacks halt asks bytes) d)
  by_config c d replies lacks halt asks bytes same = record { config = d; alike_now = same; rest = refl }

  abbrev placed : S → Place → List ℕ → Status → Tally → Stream → Config S
  placed s place due st tally keys = record { state = s; place = place; due = due; status = st; tally = tally; keys = keys }

  -- at a place of tries, where one is due or none is
  tries : (c : Config S) (t : T) (a : Option KernelAsk) (replies : List KernelReply) (lacks : List Lack) (halt : Option ℕ) (asks : List KernelAsk) (bytes : List ℕ) → R c.state t → Steady c.place → m.next_try c.state ≡ a
      → Same (after_test m traced most c c.place) (after_test n traced most (carried c t) c.place)
      → Follows (asks_try m traced most (holding c replies lacks halt asks bytes) a) (asks_try n traced most (followed (holding c replies lacks halt asks bytes) (carried c t)) a)
  tries c t None replies lacks halt asks bytes r is none test = by_config _ _ replies lacks halt asks bytes test
  tries c t (Some ask) replies lacks halt asks bytes r is due test =
      by_config _ _ (replies_after ask replies) lacks halt (asks ++ ask ∷ []) bytes (tried c t ask (reply_to ask replies) r due is)

  writing : (c : Config S) (t : T) (next : Place) (part : Option ℕ) (replies : List KernelReply) (lacks : List Lack) (halt : Option ℕ) (asks : List KernelAsk) (bytes : List ℕ) → R c.state t → Steady next
      → Follows (writes m traced most (holding c replies lacks halt asks bytes) next part) (writes n traced most (followed (holding c replies lacks halt asks bytes) (carried c t)) next part)
  writing c t next None replies lacks halt asks bytes r is =
      by_config _ _ replies lacks halt asks (bytes ++ c.due) (record { other = t; stands = r; apt = steady_apt c.state next is; same = refl })
  writing c t next (Some count) replies lacks halt asks bytes r is = by_config _ _ replies lacks None asks (bytes ++ take count c.due) (halts next is)
    where
      cut : (b : Bool) (next : Place) → Steady next
          → Same (if b then record c { state = m.shut c.state; place = Closing; due = []; status = status.Sink } else record c { place = next; due = []; status = status.Sink })
          (if b then record (carried c t) { state = n.shut t; place = Closing; due = []; status = status.Sink } else record (carried c t) { place = next; due = []; status = status.Sink })
      cut true next is = record { other = n.shut t; stands = alike.shut c.state t r; apt = tt; same = refl }
      cut false next is = record { other = t; stands = r; apt = steady_apt c.state next is; same = refl }

      halts : (next : Place) → Steady next → Same (halted m traced most c next) (halted n traced most (carried c t) next)
      halts Over is = record { other = t; stands = r; apt = tt; same = refl }
      halts Round is = cut (is_well c.status) Round is
      halts Asking is = absurd is
      halts Trying is = cut (is_well c.status) Trying is
      halts (Turns left) is = cut (is_well c.status) (Turns left) is
      halts (Due left) is = absurd is
      halts Stopping is = cut (is_well c.status) Stopping is
      halts Closing is = cut (is_well c.status) Closing is
      halts Last is = absurd is
      halts Closes is = cut (is_well c.status) Closes is
      halts (Writing after) is = absurd is

  -- they go on together, or the one has missed a refusal
  abbrev Together : Playing S → Playing T → Type 0
  Together p q = Follows p q ⊎ IsPast (turn_number m traced most p.config) p.lacks

  turning_by : (c : Config S) (replies : List KernelReply) (left left' lacks : List Lack) (halt : Option ℕ) (asks : List KernelAsk) (bytes : List ℕ) (after : Option LackPlace → Config S) (after' : Option LackPlace → Config T) (k k' : Option LackPlace)
      → ((lack : Option LackPlace) → turn_number m traced most (after lack) ≡ turn_number m traced most c + 1) → Same (after k) (after' k) → Meets (turn_number m traced most c) left left' k k'
      → Together (record (holding c replies lacks halt asks bytes) { config = after k; lacks = left })
      (record { config = after' k'; replies = replies; lacks = left'; halt = halt; asks = asks; bytes = bytes })
  turning_by c replies left left' lacks halt asks bytes after after' k k' counts same (both_meet is rest) =
      let to : Option LackPlace → List Lack → Playing T = λ x l. record { config = after' x; replies = replies; lacks = l; halt = halt; asks = asks; bytes = bytes } in
      let one : to k' left' ≡ to k left = ap (λ (x : Option LackPlace). to x left') is ∙ ap (to k) rest in
      inl (subst (λ (q : Playing T). Follows (record (holding c replies lacks halt asks bytes) { config = after k; lacks = left }) q) (sym one) (by_config (after k) (after' k) replies left halt asks bytes same))
  turning_by c replies left left' lacks halt asks bytes after after' k k' counts same (one_misses past) = inr (subst (λ (x : ℕ). IsPast x left) (sym (counts k)) past)

  turning : (c : Config S) (t : T) (left : ℕ) (replies : List KernelReply) (lacks : List Lack) (halt : Option ℕ) (asks : List KernelAsk) (bytes : List ℕ) → R c.state t → is_some (m.ended c.state) ≡ false
      → Together (turns_one m traced most (holding c replies lacks halt asks bytes) (after_turn m traced most c left)) (turns_one n traced most (followed (holding c replies lacks halt asks bytes) (carried c t)) (after_turn n traced most (carried c t) left))
  turning c t left replies lacks halt asks bytes r on =
      let turn = turn_number m traced most c in
      let k = lack_at (m.may_lack c.state) turn lacks in
      turning_by c replies (lacks_after (m.may_lack c.state) turn lacks) (lacks_after (n.may_lack t) turn lacks) lacks halt asks bytes (after_turn m traced most c left) (after_turn n traced most (carried c t) left) k (lack_at (n.may_lack t) turn lacks)
      (number_turn m traced most c left) (goes c t k (one_turn c.tally k) (Turns (left - 1)) r on (may_meet m c.state turn lacks) tt) (meets turn lacks (m.may_lack c.state) (n.may_lack t) (λ place. alike.may_lack c.state t place r (none_of (m.ended c.state) on)))

  turning_last : (c : Config S) (t : T) (replies : List KernelReply) (lacks : List Lack) (halt : Option ℕ) (asks : List KernelAsk) (bytes : List ℕ) → R c.state t → is_some (m.ended c.state) ≡ false
      → Together (turns_one m traced most (holding c replies lacks halt asks bytes) (after_last m traced most c)) (turns_one n traced most (followed (holding c replies lacks halt asks bytes) (carried c t)) (after_last n traced most (carried c t)))
  turning_last c t replies lacks halt asks bytes r on =
      let turn = turn_number m traced most c in
      let k = lack_at (m.may_lack c.state) turn lacks in
      turning_by c replies (lacks_after (m.may_lack c.state) turn lacks) (lacks_after (n.may_lack t) turn lacks) lacks halt asks bytes (after_last m traced most c) (after_last n traced most (carried c t)) k (lack_at (n.may_lack t) turn lacks)
      (number_last m traced most c) (goes c t k (one_last c.tally k) Closing r on (may_meet m c.state turn lacks) tt) (meets turn lacks (m.may_lack c.state) (n.may_lack t) (λ place. alike.may_lack c.state t place r (none_of (m.ended c.state) on)))

  waiting : (c : Config S) (t : T) (replies : List KernelReply) (lacks : List Lack) (halt : Option ℕ) (asks : List KernelAsk) (bytes : List ℕ) → R c.state t → is_some (m.ended c.state) ≡ false
      → Follows (asks_wait m traced most (holding c replies lacks halt asks bytes)) (asks_wait n traced most (followed (holding c replies lacks halt asks bytes) (carried c t)))
  waiting c t replies lacks halt asks bytes r on =
      let limit = m.limit c.state in
      let asked : Limit → Playing T = λ l. record {
        config = after_wait n traced most (carried c t) (reply_to (Wait l) replies);
        replies = replies_after (Wait l) replies;
        lacks = lacks;
        halt = halt;
        asks = asks ++ Wait l ∷ [];
        bytes = bytes;
      } in
      subst (λ (q : Playing T). Follows (asks_wait m traced most (holding c replies lacks halt asks bytes)) q) (sym (ap asked (alike.limit c.state t r (none_of (m.ended c.state) on))))
      (by_config _ _ (replies_after (Wait limit) replies) lacks halt (asks ++ Wait limit ∷ []) bytes (woken c t (reply_to (Wait limit) replies) r))

  -- both take a step
  advances : (place : Place) (s : S) (t : T) (due : List ℕ) (st : Status) (tally : Tally) (keys : Stream) (replies : List KernelReply) (lacks : List Lack) (halt : Option ℕ) (asks : List KernelAsk) (bytes : List ℕ) → R s t → Apt s place
      → Together (advance_at m traced most (holding (placed s place due st tally keys) replies lacks halt asks bytes) place)
      (advance_at n traced most (followed (holding (placed s place due st tally keys) replies lacks halt asks bytes) (carried (placed s place due st tally keys) t)) place)
  advances Round s t due st tally keys replies lacks halt asks bytes r apt = inl (by_config _ _ replies lacks halt asks bytes (rounds (placed s Round due st tally keys) t r))
  advances Asking s t due st tally keys replies lacks halt asks bytes r apt = inl (waiting (placed s Asking due st tally keys) t replies lacks halt asks bytes r apt)
  advances Trying s t due st tally keys replies lacks halt asks bytes r apt =
      let c = placed s Trying due st tally keys in
      inl (subst (λ (a : Option KernelAsk). Follows (asks_try m traced most (holding c replies lacks halt asks bytes) (m.next_try s)) (asks_try n traced most (followed (holding c replies lacks halt asks bytes) (carried c t)) a)) (sym (alike.next_try s t r))
      (tries c t (m.next_try s) replies lacks halt asks bytes r tt refl (moves c t (m.expire s) (n.expire t) (Turns 64) (alike.expire s t r) tt)))
  advances (Turns left) s t due st tally keys replies lacks halt asks bytes r apt = inl (by_config _ _ replies lacks halt asks bytes (turns left (placed s (Turns left) due st tally keys) t r))
  advances (Due left) s t due st tally keys replies lacks halt asks bytes r apt = turning (placed s (Due left) due st tally keys) t left replies lacks halt asks bytes r apt
  advances Stopping s t due st tally keys replies lacks halt asks bytes r apt = inl (by_config _ _ replies lacks halt asks bytes (stops (placed s Stopping due st tally keys) t st r))
  advances Closing s t due st tally keys replies lacks halt asks bytes r apt = inl (by_config _ _ replies lacks halt asks bytes (closings (placed s Closing due st tally keys) t r))
  advances Last s t due st tally keys replies lacks halt asks bytes r apt = turning_last (placed s Last due st tally keys) t replies lacks halt asks bytes r apt
  advances Closes s t due st tally keys replies lacks halt asks bytes r apt =
      let c = placed s Closes due st tally keys in
      inl (subst (λ (a : Option KernelAsk). Follows (asks_try m traced most (holding c replies lacks halt asks bytes) (m.next_try s)) (asks_try n traced most (followed (holding c replies lacks halt asks bytes) (carried c t)) a)) (sym (alike.next_try s t r))
      (tries c t (m.next_try s) replies lacks halt asks bytes r tt refl (ends c t r)))
  advances (Writing next) s t due st tally keys replies lacks halt asks bytes r apt = inl (writing (placed s (Writing next) due st tally keys) t next (halt_within halt (length bytes) (length due)) replies lacks halt asks bytes r apt)
  advances Over s t due st tally keys replies lacks halt asks bytes r apt = inl (by_config _ _ replies lacks halt asks bytes (record { other = t; stands = r; apt = tt; same = refl }))

  steps : (p : Playing S) (q : Playing T) → Follows p q → Together (advance m traced most p) (advance n traced most q)
  steps p q f =
      let c = p.config in
      let now = f.alike_now in
      subst (λ (x : Playing T). Together (advance m traced most p) (advance n traced most x)) (sym (f.rest ∙ ap (followed p) now.same))
      (advances c.place c.state now.other c.due c.status c.tally c.keys p.replies p.lacks p.halt p.asks p.bytes now.stands now.apt)

  -- where all refusals are met in the end, both meet them
  goes_on : (k : ℕ) (p : Playing S) (q : Playing T) → ((p : Playing S) (q : Playing T) → Follows p q → (play m traced most k p).lacks ≡ [] → Follows (play m traced most k p) (play n traced most k q))
      → Together p q → (play m traced most k p).lacks ≡ [] → Follows (play m traced most k p) (play n traced most k q)
  goes_on k p q more (inl f) used = more p q f used
  goes_on k p q more (inr past) used = absurd (missed_stays m traced most k p past used)

  plays : (k : ℕ) (p : Playing S) (q : Playing T) → Follows p q → (play m traced most k p).lacks ≡ [] → Follows (play m traced most k p) (play n traced most k q)
  plays zero p q f used = f
  plays (suc k) p q f used = goes_on k (advance m traced most p) (advance n traced most q) (plays k) (steps p q f) used

module _ {S T K : Type 0} (m : Machine S) (n : Machine T) (kernel_step : K → Entry → K → Type 0) (traced : Bool) (most : ℕ) (R : S → T → Type 0) (alike : Alike m n R) where
  -- a run of the one is a run of the other
  pub concludes_alike : (a b : K) (s : S) (t : T) (keys keys' : Stream) (told now : Option (List ℕ)) (end : RunEnd) → R s t → Concludes m kernel_step a b traced most s keys keys' told now end → Concludes n kernel_step a b traced most t keys keys' told now end
  concludes_alike a b s t keys keys' told now end r whole =
      let tells = whole.tells in
      let story = tells.story in
      let replies = replies_of tells.entries in
      let p = play m traced most story.steps (opening m traced most s keys replies story.lacks story.halt) in
      let q = play n traced most story.steps (opening n traced most t keys replies story.lacks story.halt) in
      let all : p.lacks ≡ [] = ap (λ (x : Playing S). x.lacks) story.plays ∙ story.used in
      let f : Follows m n traced most R alike p q =
      plays m n traced most R alike story.steps (opening m traced most s keys replies story.lacks story.halt) (opening n traced most t keys replies story.lacks story.halt)
      (record { config = here t Round status.Well no_tally keys; alike_now = record { other = t; stands = r; apt = tt; same = refl }; rest = refl }) all in
      let config = f.alike_now.same in
      let outcome : n.ended q.config.state ≡ m.ended story.played.config.state =
      ap (λ (x : Playing T). n.ended x.config.state) f.rest ∙ ap (λ (d : Config T). n.ended d.state) config ∙ alike.ended p.config.state f.alike_now.other f.alike_now.stands ∙ ap (λ (x : Playing S). m.ended x.config.state) story.plays in
      record {
        tells = record {
          entries = tells.entries;
          bytes = tells.bytes;
          went = tells.went;
          story = record {
            lacks = story.lacks;
            halt = story.halt;
            steps = story.steps;
            played = q;
            plays = refl;
            over = ap (λ (x : Playing T). x.config.place) f.rest ∙ ap (λ (d : Config T). d.place) config ∙ ap (λ (x : Playing S). x.config.place) story.plays ∙ story.over;
            asks = ap (λ (x : Playing T). x.asks) f.rest ∙ ap (λ (x : Playing S). x.asks) story.plays ∙ story.asks;
            shows = ap (λ (x : Playing T). x.bytes) f.rest ∙ ap (λ (x : Playing S). x.bytes) story.plays ∙ story.shows;
            ends = ap (λ (x : Playing T). x.config.status) f.rest ∙ ap (λ (d : Config T). d.status) config ∙ ap (λ (x : Playing S). x.config.status) story.plays ∙ story.ends;
            random = ap (λ (x : Playing T). x.config.keys) f.rest ∙ ap (λ (d : Config T). d.keys) config ∙ ap (λ (x : Playing S). x.config.keys) story.plays ∙ story.random;
            heard = ap (λ (x : Playing T). x.replies) f.rest ∙ ap (λ (x : Playing S). x.replies) story.plays ∙ story.heard;
            used = ap (λ (x : Playing T). x.lacks) f.rest ∙ all;
            met = ap (λ (x : Playing T). x.halt) f.rest ∙ ap (λ (x : Playing S). x.halt) story.plays ∙ story.met;
          };
          out = tells.out;
        };
        errno = subst (λ (o : Option (Option Errno)). NamesErrno o end) (sym outcome) whole.errno;
      }
