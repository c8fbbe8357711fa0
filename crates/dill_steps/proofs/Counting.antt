-- How many coroutines there are after a step: only a new one makes them more, and that takes memory.
use Rattle.std.proofs.Common.{◌≡◌, ◌∙◌, ◌+◌, ◌≤◌, ℕ, suc, List, [], ◌∷◌, length, length-append, fold, filter, reverse, find, Bool, true, false, cond, Option, Some, None, if◌then◌else◌, MatchOption, refl, ap, subst, arith}
use Rattle.dill_base.specs.declared.errno.Errno.{Errno}
use Rattle.dill_calls.specs.declared.answer.Answer.{Answer}
use Rattle.dill_calls.specs.declared.answer.Answer.TheVariants.{Number, Fault}
use Rattle.dill_calls.specs.declared.body.Next.{Next}
use Rattle.dill_calls.specs.declared.call.Call.{Call}
use Rattle.dill_calls.specs.declared.call.Call.TheVariants as calls
use Rattle.dill_calls.specs.declared.lists.Arg.{Arg}
use Rattle.dill_calls.specs.declared.ran.Note.TheVariants.{Moved, Freed}
use Rattle.dill_calls.specs.declared.word.Word.{Word}
use Rattle.dill_calls.specs.declared.word.Word.TheVariants.{Start, Chdone}
use Rattle.dill_calls.specs.declared.lists.Clause.{Clause}
use Rattle.dill_base.specs.declared.errno.Errno.TheVariants.{Epipe}
use Rattle.dill_chan.specs.Channels as channels
use Rattle.dill_chan.specs.Meetings.{has_ended}
use Rattle.dill_chan.specs.declared.end.Want.TheVariants.{Send}
use Rattle.dill_chan.specs.declared.meeting.Meeting.{Meeting}
use Rattle.dill_chan.specs.declared.meeting.Meeting.TheVariants as meetings
use Rattle.dill_rules.specs.Answers.{want_of, end_named}
use Rattle.dill_rules.specs.Channeling.{done_at, answer_clause, clause_answer, meet, wait_at, wait_all, first_done, clauses_of, without_bytes, enter_channel}
use Rattle.dill_calls.specs.CallTable.{word_of}
use Rattle.dill_calls.specs.Program.{Program}
use Rattle.dill_handles.specs.Handles as handles
use Rattle.dill_base.specs.Maps.{if_some, change, without}
use Rattle.dill_plain.specs.Plain.{is_plain}
use Rattle.dill_rules.specs.declared.coroutine.Coroutine.{Coroutine}
use Rattle.dill_rules.specs.declared.coroutine.Mode.{Mode}
use Rattle.dill_rules.specs.declared.coroutine.Mode.TheVariants as modes
use Rattle.dill_rules.specs.declared.thing.Thing.{Thing}
use Rattle.dill_rules.specs.declared.thing.Thing.TheVariants as things
use Rattle.dill_rules.specs.World.{World, is_coroutine, with_mode, set_mode, reply, pend, note, call_of, coroutine_of}
use Rattle.dill_rules.specs.Kinds.{value_of}
use Rattle.dill_rules.specs.Owning.{entry_of, take_thing, move, drop, release, close_bundle, free_bundle, is_dead_as}
use Rattle.dill_rules.specs.Taking.{bundle_of, bundle_named}
use Rattle.dill_rules.specs.Naming.{gifts_of, end_of_clause}
use Rattle.dill_rules.specs.Effects.{make, add_bundle, next_number, told, give_all, start, close_thing}
use Rattle.dill_rules.specs.Entering.{perform, is_too_late, late_answer, meet_deadline}
use Rattle.dill_rules.specs.Settling.{close_owned, close_all, end, highest_first, is_owned_by, free_all, release_all}
use Rattle.dill_rules.specs.Turning.{as_running, resume}
use Rattle.dill_world.specs.Steps.{add_channel, left, Resumed, WentOn}
use Rattle.dill_steps.specs.declared.settling.Asked.{Asked}
use Rattle.dill_steps.specs.Asking.{give_asked}
use Rattle.dill_steps.specs.Needs.{needs_memory}

module _ {V : Type 0} where
  -- how many coroutines there are
  abbrev pub crew : World V → ℕ
  crew w = length w.coroutines

  change_at : (b : Bool) (c d : Coroutine V) (cs ds : List (Coroutine V)) → length ds ≡ length cs → length (cond b (d ∷ cs) (c ∷ ds)) ≡ suc (length cs)
  change_at true c d cs ds h = refl
  change_at false c d cs ds h = ap suc h

  changed : (test : Coroutine V → Bool) (f : Coroutine V → Coroutine V) (cs : List (Coroutine V)) → length (change test f cs) ≡ length cs
  changed test f [] = refl
  changed test f (c ∷ cs) = change_at (test c) c (f c) cs (change test f cs) (changed test f cs)

  without_at : (b : Bool) (c : Coroutine V) (cs ds : List (Coroutine V)) → length ds ≤ length cs → length (cond b cs (c ∷ ds)) ≤ suc (length cs)
  without_at true c cs ds h = omega arith
  without_at false c cs ds h = omega (arith, h)

  fewer : (test : Coroutine V → Bool) (cs : List (Coroutine V)) → length (without test cs) ≤ length cs
  fewer test [] = omega arith
  fewer test (c ∷ cs) = without_at (test c) c cs (without test cs) (fewer test cs)

  pub stands : (w : World V) (who : ℕ) (mode : Mode) → crew (set_mode w who mode) ≡ crew w
  stands w who mode = changed (is_coroutine who) (with_mode mode) w.coroutines

  pub replied : (w : World V) (who : ℕ) (word : Word) (answer : Answer) → crew (reply w who word answer) ≡ crew w
  replied w who word answer = stands w who (modes.Fresh word answer)

  some_same : {A : Type 0} (o : Option A) (w : World V) (f : A → World V) → ((a : A) → crew (f a) ≡ crew w) → crew (if_some o w f) ≡ crew w
  some_same None w f h = refl
  some_same (Some a) w f h = h a

  fold_same : {A : Type 0} (f : World V → A → World V) (xs : List A) (w : World V) → ((v : World V) (a : A) → crew (f v a) ≡ crew v) → crew (fold f w xs) ≡ crew w
  fold_same f [] w h = refl
  fold_same f (x ∷ xs) w h = fold_same f xs (f w x) h ∙ h w x

  taken : (w : World V) (thing : Thing) (owner : ℕ) → crew (take_thing w thing owner) ≡ crew w
  taken w (things.Bundle name) owner = refl
  taken w (things.End end) owner = refl
  taken w (things.Listener link) owner = refl
  taken w (things.Socket link) owner = refl
  taken w (things.Value kind value) owner = refl

  moved : (w : World V) (number owner : ℕ) → crew (move w number owner) ≡ crew w
  moved w number owner =
      some_same (entry_of w number) w (λ x. note (take_thing (record w { handles = handles.renumber w.handles number x.thing owner }) x.thing owner) (Moved number (handles.next_number w.handles)))
      (λ x. taken (record w { handles = handles.renumber w.handles number x.thing owner }) x.thing owner)

  dropped : (w : World V) (thing : Thing) → crew (drop w thing) ≡ crew w
  dropped w (things.Bundle name) = refl
  dropped w (things.End end) = refl
  dropped w (things.Listener link) = refl
  dropped w (things.Socket link) = refl
  dropped w (things.Value kind value) = refl

  released : (w : World V) (number : ℕ) → crew (release w number) ≡ crew w
  released w number =
      some_same (entry_of w number) w (λ x. note (drop (record w { handles = handles.retire w.handles number }) x.thing) (Freed number))
      (λ x. dropped (record w { handles = handles.retire w.handles number }) x.thing)

  closed_all : (w : World V) (who : ℕ) → crew (close_all w who) ≡ crew w
  closed_all w who =
      fold_same (close_owned who) (filter (handles.is_owned who) w.handles.entries) w
      (λ v x. some_same (bundle_of x.thing) v (λ name. close_bundle v who name x.number) (λ name. refl))

  given_all : (w : World V) (numbers : List ℕ) (owner : ℕ) → crew (give_all w numbers owner) ≡ crew w
  given_all w numbers owner = fold_same (λ now number. move now number owner) numbers w (λ v n. moved v n owner)

  -- who ends still stands there
  pub ended : (w : World V) (who : ℕ) (outcome : Option Errno) → crew (end w who outcome) ≡ crew w
  ended w who outcome = stands (close_all w who) who (modes.Ending outcome) ∙ closed_all w who

  gone : (w : World V) (who : ℕ) (outcome : Option Errno) → crew (left w who outcome) ≤ crew w
  gone w who outcome = fewer (is_coroutine who) w.coroutines

  bare : (w : World V) (who : ℕ) → crew (release_all (free_all w who) who) ≡ crew w
  bare w who =
      fold_same release (reverse (handles.numbers_of (free_all w who).handles who)) (free_all w who) (λ v n. released v n)
      ∙ fold_same free_bundle (highest_first (filter (is_owned_by w who) w.closings)) w (λ v x. refl)

  -- an ending that finishes leaves nobody more
  pub finished : (w : World V) (who : ℕ) (outcome : Option Errno) → crew (left (release_all (free_all w who) who) who outcome) ≤ crew w
  finished w who outcome = subst (λ n. crew (left (release_all (free_all w who) who) who outcome) ≤ n) (bare w who) (gone (release_all (free_all w who) who) who outcome)

  -- nor does an answer
  pub asked : (w : World V) (who : ℕ) (x : Asked) (answer : Answer) → crew (give_asked w who x answer) ≡ crew w
  asked w who x answer =
      replied (if_some x.closed w (λ number. if_some (find (is_dead_as number) w.closings) w (free_bundle w))) who x.word answer
      ∙ some_same x.closed w (λ number. if_some (find (is_dead_as number) w.closings) w (free_bundle w)) (λ number. some_same (find (is_dead_as number) w.closings) w (free_bundle w) (λ y. refl))

  met_at : (b : Bool) (w : World V) (who : ℕ) (call : Call) → crew (if b then reply w who (word_of call) (late_answer call) else w) ≡ crew w
  met_at true w who call = replied w who (word_of call) (late_answer call)
  met_at false w who call = refl

  pub met : (w : World V) (who : ℕ) → crew (meet_deadline w who) ≡ crew w
  met w who = some_same (call_of w who) w (λ call. if is_too_late w who call then reply w who (word_of call) (late_answer call) else w) (λ call. met_at (is_too_late w who call) w who call)

  closed_thing : (w : World V) (who number : ℕ) (thing : Thing) → crew (close_thing w who number thing) ≡ crew w
  closed_thing w who number (things.Bundle name) = stands (close_bundle w who name number) who (modes.Pending (calls.Hclose number))
  closed_thing w who number (things.End end) = replied (release w number) who (word_of (calls.Hclose number)) (Number 0) ∙ released w number
  closed_thing w who number (things.Listener link) = replied (release w number) who (word_of (calls.Hclose number)) (Number 0) ∙ released w number
  closed_thing w who number (things.Socket link) = replied (release w number) who (word_of (calls.Hclose number)) (Number 0) ∙ released w number
  closed_thing w who number (things.Value kind value) = replied (release w number) who (word_of (calls.Hclose number)) (Number 0) ∙ released w number

  -- a child is one more
  started : (p : Program V) (w : World V) (view : V) (home program : ℕ) (args : List Arg) → crew (start p w view home program args) ≡ crew w + 1
  started p w view home program args =
      let same = given_all w (gifts_of args) (w.last_coroutine + 1) in
      length-append (give_all w (gifts_of args) (w.last_coroutine + 1)).coroutines (record { number = (give_all w (gifts_of args) (w.last_coroutine + 1)).last_coroutine + 1; body = p.child view program (told (next_number w) args); mode = modes.Fresh Start (Number 0) } ∷ [])
      ∙ ap (λ n. n + 1) same

  some_more : {A : Type 0} (o : Option A) (w : World V) (f : A → World V) → ((a : A) → crew (f a) ≡ crew w + 1) → crew (if_some o w f) ≤ crew w + 1
  some_more None w f h = omega arith
  some_more (Some a) w f h = let r = h a in omega (arith, r)

  done_there : (b : Bool) (w : World V) (who end : ℕ) → crew (if b then reply w who Chdone (Fault Epipe) else reply (record w { channels = channels.done w.channels end }) who Chdone (Number 0)) ≡ crew w
  done_there true w who end = replied w who _ _
  done_there false w who end = replied (record w { channels = channels.done w.channels end }) who _ _

  -- clauses at channels make nobody
  met_there : (w : World V) (who : ℕ) (call : Call) (index : ℕ) (m : Meeting) → crew (meet w who call index m) ≡ crew w
  met_there w who call index (meetings.Met x) =
      replied (answer_clause w x.other x.clause x.others) who _ _
      ∙ some_same (call_of w x.other) w (λ other. reply w x.other (word_of other) (clause_answer other x.clause x.others)) (λ other. replied w x.other _ _)
  met_there w who call index meetings.Ended = replied w who _ _
  met_there w who call index meetings.Waits = refl

  waited : (w : World V) (who n : ℕ) (xs : List Clause) → crew (wait_all w who n xs) ≡ crew w
  waited w who n [] = refl
  waited w who n (x ∷ xs) = waited (wait_at w who n x) who (n + 1) xs ∙ some_same (end_named w (end_of_clause x)) w (λ end. record w { channels = channels.wait w.channels (record { who = who; clause = n; end = end; want = want_of x }) }) (λ end. refl)

  entered_at : (o : Option (ℕ × Meeting)) (w : World V) (who : ℕ) (call : Call) → crew (if_some o (wait_all (pend w who (without_bytes call)) who 0 (clauses_of call)) (λ x. meet w who call x.0 x.1)) ≡ crew w
  entered_at None w who call = waited (pend w who (without_bytes call)) who 0 (clauses_of call) ∙ stands w who _
  entered_at (Some x) w who call = met_there w who call x.0 x.1

  entered : (w : World V) (who : ℕ) (call : Call) → crew (enter_channel w who call) ≡ crew w
  entered w who call = entered_at (first_done w who 0 (clauses_of call)) w who call

  -- what wants no memory makes nobody
  pub performed : (p : Program V) (w : World V) (who : ℕ) (view : V) (call : Call) → is_plain call ≡ true → needs_memory call ≡ false → crew (perform p w who view call) ≡ crew w
  performed p w who view (calls.Print text) e n = replied w who _ _
  performed p w who view calls.Now e n = replied w who _ _
  performed p w who view calls.Yield e n = replied w who _ _
  performed p w who view (calls.Msleep deadline) e n = stands w who _
  performed p w who view (calls.Hquery number kind) e n = some_same (entry_of w number) w (λ x. reply w who (word_of (calls.Hquery number kind)) (Number (value_of x.thing))) (λ x. replied w who _ _)
  performed p w who view (calls.Hclose number) e n = some_same (entry_of w number) w (λ x. close_thing w who number x.thing) (λ x. closed_thing w who number x.thing)
  performed p w who view (calls.BundleWait number deadline) e n = stands w who _
  performed p w who view (calls.Chdone number) e n = some_same (end_named w number) w (λ end. done_at w who end) (λ end. done_there (has_ended w.channels end (Send [])) w who end)
  performed p w who view (calls.Pass word fault) e n = replied w who _ _
  performed p w who view (calls.Hmake kind value) e n = cc
  performed p w who view (calls.Hown number) e n = cc
  performed p w who view calls.Bundle e n = cc
  performed p w who view (calls.Go program args) e n = cc
  performed p w who view (calls.BundleGo number program args) e n = cc
  performed p w who view _ e n = cc

  -- what wants memory makes one at most
  pub performed_with : (p : Program V) (w : World V) (who : ℕ) (view : V) (call : Call) → needs_memory call ≡ true → crew (perform p w who view call) ≤ crew w + 1
  performed_with p w who view (calls.Hmake kind value) n = let r : crew (perform p w who view (calls.Hmake kind value)) ≡ crew w = replied (make w (things.Value kind value) who) who _ _ in omega (arith, r)
  performed_with p w who view (calls.Hown number) n = let r : crew (perform p w who view (calls.Hown number)) ≡ crew w = replied (move w number who) who _ _ ∙ moved w number who in omega (arith, r)
  performed_with p w who view calls.Bundle n = let r : crew (perform p w who view calls.Bundle) ≡ crew w = replied (add_bundle w who) who _ _ in omega (arith, r)
  performed_with p w who view (calls.Go program args) n =
      let child = start p (add_bundle w who) view (w.last_bundle + 1) program args in
      let r : crew (perform p w who view (calls.Go program args)) ≡ crew w + 1 = replied child who _ _ ∙ started p (add_bundle w who) view (w.last_bundle + 1) program args in
      omega (arith, r)
  performed_with p w who view (calls.BundleGo number program args) n =
      some_more (bundle_named w number) w (λ home. reply (start p w view home program args) who (word_of (calls.BundleGo number program args)) (Number 0))
      (λ home. replied (start p w view home program args) who _ _ ∙ started p w view home program args)
  performed_with p w who view calls.Chmake n = let r : crew (perform p w who view calls.Chmake) ≡ crew w = replied (add_channel w who) who _ _ in omega (arith, r)
  performed_with p w who view (calls.Chsend number bytes deadline) n = let r : crew (perform p w who view (calls.Chsend number bytes deadline)) ≡ crew w = entered w who (calls.Chsend number bytes deadline) in omega (arith, r)
  performed_with p w who view (calls.Chrecv number size deadline) n = let r : crew (perform p w who view (calls.Chrecv number size deadline)) ≡ crew w = entered w who (calls.Chrecv number size deadline) in omega (arith, r)
  performed_with p w who view (calls.Choose deadline all) n = let r : crew (perform p w who view (calls.Choose deadline all)) ≡ crew w = entered w who (calls.Choose deadline all) in omega (arith, r)
  performed_with p w who view _ n = cc

  ran : (p : Program V) (old mid : World V) (who : ℕ) (given : Answer) (said : Option Next) (c : Coroutine V) → WentOn p c given said (λ view. mid ≡ resume old who view) → crew mid ≡ crew old
  ran p old mid who given None c r = absurd r
  ran p old mid who given (Some next) c r = ap crew r.2 ∙ changed (is_coroutine who) (as_running r.0) old.coroutines

  found : (p : Program V) (old mid : World V) (who : ℕ) (given : Answer) (said : Option Next) (o : Option (Coroutine V)) → MatchOption o ((said ≡ None) × (mid ≡ old)) (λ c. WentOn p c given said (λ view. mid ≡ resume old who view)) → crew mid ≡ crew old
  found p old mid who given said None r = ap crew r.1
  found p old mid who given said (Some c) r = ran p old mid who given said c r

  -- who goes on was there
  pub resumed : (p : Program V) (old mid : World V) (who : ℕ) (given : Answer) (said : Option Next) → Resumed p old mid who given said → crew mid ≡ crew old
  resumed p old mid who given said r = found p old mid who given said (coroutine_of old who) r
