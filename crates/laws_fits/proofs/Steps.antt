-- Each step keeps it so that the stack of each link fits.
use Rattle.std.proofs.Common.{◌≡◌, ◌∙◌, ◌⊎◌, inl, inr, ℕ, ◌+◌, ◌-◌, ◌<◌, ◌≤◌, ◌==◌, List, [], ◌∷◌, length, find, fold, Bool, true, false, not, ◌&&◌, ◌||◌, Option, Some, None, if◌then◌else◌, refl, sym, ap, subst, arith}
use Rattle.std.specs.Prelude.{map, is_some, is_none, nat_le}
use Rattle.std.specs.List.{list_all}
use Rattle.std.proofs.lemmas.Bool.{and_parts}
use Rattle.std.proofs.lemmas.Bool.Decides.{nat_tests}
use Rattle.dill_base.specs.declared.errno.Errno.{Errno}
use Rattle.dill_base.specs.declared.errno.Errno.TheVariants.{Enomem}
use Rattle.dill_base.specs.Maps.{if_some}
use Rattle.dill_calls.specs.declared.answer.Answer.{Answer}
use Rattle.dill_calls.specs.declared.answer.Answer.TheVariants.{Fault}
use Rattle.dill_calls.specs.declared.call.Call.{Call}
use Rattle.dill_calls.specs.declared.lists.Clause.{Clause}
use Rattle.dill_calls.specs.declared.ran.LackPlace.{LackPlace}
use Rattle.dill_calls.specs.declared.word.Word.{Word}
use Rattle.dill_calls.specs.declared.word.Word.TheVariants as words
use Rattle.dill_calls.specs.CallTable.{word_of, named_by, takes_memory, build_takes_memory}
use Rattle.dill_calls.specs.Program.{Program, Move, Calls, Ends, IsLawful}
use Rattle.dill_handles.specs.declared.entry.Entry.{Entry}
use Rattle.dill_kernel.specs.declared.ready.Ready.{Ready}
use Rattle.dill_kernel.specs.declared.replies.KernelReply.{KernelReply}
use Rattle.dill_stack.specs.Again.{LooksAgain}
use Rattle.dill_rules.specs.declared.coroutine.Coroutine.{Coroutine}
use Rattle.dill_rules.specs.declared.coroutine.Mode.{Mode}
use Rattle.dill_rules.specs.declared.coroutine.Mode.TheVariants as modes
use Rattle.dill_rules.specs.declared.thing.Thing.{Thing}
use Rattle.dill_rules.specs.World.{World, is_coroutine, coroutine_of, reply, begin, is_answered, pending_call}
use Rattle.dill_rules.specs.Channeling.{clauses_of, first_done, is_waiting, meeting_of}
use Rattle.dill_rules.specs.Entering.{keep_for, done, enter, entered, lack_fault}
use Rattle.dill_rules.specs.Expiring.{passed, expire_one}
use Rattle.dill_rules.specs.Hearing.{heard, heat_ready}
use Rattle.dill_rules.specs.LinkAnswers.{is_on_stack}
use Rattle.dill_rules.specs.Links.{Link, look, heated}
use Rattle.dill_rules.specs.Refusals.{refuse}
use Rattle.dill_rules.specs.Settling.{close_all, end, settle}
use Rattle.laws_queue.proofs.Crew.{close_all_crew}
use Rattle.dill_rules.specs.Sockets.{on_link}
use Rattle.dill_rules.specs.State.{lined}
use Rattle.dill_rules.specs.Taking.{bundle_of}
use Rattle.dill_rules.specs.Trying.{Try, next_try}
use Rattle.dill_rules.specs.Turning.{is_build, is_entry, as_running, may_lack_build, resume, answer_given, move_of, make_move, lack_move, go_on}
use Rattle.laws_queue.specs.Kept.{Kept, queued, turn_first, kept_turn, kept_hear, kept_expire_next, kept_late, kept_expired, root_closed, kept_shut, kept_woke, opening_kept}
use Rattle.laws_queue.specs.Lending.{lent}
use Rattle.laws_queue.specs.Well.{IsWell, Numbered}
use Rattle.laws_queue.proofs.Keeping.{steps_keep_well}
use Rattle.laws_queue.proofs.Lining.{lined_pending, numbered_lined}
use Rattle.laws_sound.specs.Orderly.{is_no_bundle, is_socketed, is_channel, is_meeting, IsOrderly}
use Rattle.laws_sound.proofs.Calling.{go_on_goes, turn_is}
use Rattle.laws_sound.proofs.Crews.{change_here}
use Rattle.laws_sound.proofs.Making.{begins}
use Rattle.laws_sound.proofs.Performing.{first_meets}
use Rattle.laws_looks.specs.Readers.{In, Pends, LooksApart}
use Rattle.laws_looks.proofs.Enters.{go_on_apart}
use Rattle.laws_looks.proofs.Fewer.{pends_same, fewer_parts, fewer_same, fewer_change, fewer_set, fewer_reply, fewer_lined, fewer_apart}
use Rattle.laws_looks.proofs.Lists.{true_false, itself, some_same}
use Rattle.laws_looks.proofs.Quieted.{found_of, found_change, unpended}
use Rattle.laws_looks.proofs.Restful.{names_number}
use Rattle.laws_looks.proofs.Stirring.{live_low}
use Rattle.laws_fits.specs.Fitting.{queues, Holds, IsFitting, StepsKeepFitting}
use Rattle.laws_fits.proofs.Stacks.{soft_same}
use Rattle.laws_fits.proofs.Tidy.{Same, NoNumber, Tidy, tidy_mode, tidy_reply}
use Rattle.laws_looks.proofs.Stays.{soft_rested}
use Rattle.laws_fits.proofs.Fits.{near_rested, NoCall, queues_on, aside_fits, same_fits, Fitted, Lasts, once_of, fitted}
use Rattle.laws_fits.proofs.Giving.{expire_lasts}
use Rattle.laws_fits.proofs.Looking.{settle_lasts}
use Rattle.laws_fits.proofs.Hearing.{heard_lasts}
use Rattle.laws_fits.proofs.Refused.{free}
use Rattle.laws_fits.proofs.Elsewhere.{IsBundle, MeetsOff, tidy_end}
use Rattle.laws_fits.proofs.Entering.{Caller, done_fits}

all_in : {X : Type 0} (test : X → Bool) (xs : List X) (x : X) → list_all test xs ≡ true → In x xs → test x ≡ true
all_in test [] x e i = absurd i
all_in test (y ∷ ys) x e (inl same) = ap test same ∙ (and_parts (test y) (list_all test ys) e).0
all_in test (y ∷ ys) x e (inr i) = all_in test ys x (and_parts (test y) (list_all test ys) e).1 i

in_mapped : {X Y : Type 0} (f : X → Y) (xs : List X) (x : X) → In x xs → In (f x) (map f xs)
in_mapped f [] x i = absurd i
in_mapped f (y ∷ ys) x (inl same) = inl (ap f same)
in_mapped f (y ∷ ys) x (inr i) = inr (in_mapped f ys x i)

-- a call of channels is on no stack
channel_off : (word : Word) → is_channel word ≡ true → is_on_stack word ≡ false
channel_off words.Chsend e = refl
channel_off words.Chrecv e = refl
channel_off words.Choose e = refl
channel_off _ e = cc

given_below : (n last : ℕ) → (last < n → ⊥) → n ≤ last
given_below n last f = at (nat_le n last) refl
  where
    at : (b : Bool) → nat_le n last ≡ b → n ≤ last
    at true e = grind (arith, nat_tests)
    at false e = let up : last < n = grind (arith, nat_tests) in absurd (f up)

answered_idle : (mode : Mode) (call : Call) → is_answered mode ≡ true → pending_call mode ≡ Some call → ⊥
answered_idle (modes.Answered word answer) call e f = cc
answered_idle (modes.Pending other) call e f = cc
answered_idle modes.Running call e f = cc
answered_idle (modes.Fresh word answer) call e f = cc
answered_idle (modes.Ending outcome) call e f = cc

module _ {V : Type 0} where
  -- the number of a pending call on a stack was given, and names no bundle
  socketed : (w : World V) (other : ℕ) (more : Call) (n : ℕ) → IsOrderly w → Pends w other more → is_on_stack (word_of more) ≡ true → named_by more ≡ Some n → is_no_bundle w.handles n ≡ true
  socketed w other more n g p on e =
      sym (ap (λ q. if_some q true (λ call. if is_on_stack (word_of call) then if_some (named_by call) true (is_no_bundle w.handles) else true)) p.mode ∙ ap (λ b. if b then if_some (named_by more) true (is_no_bundle w.handles) else true) on ∙ ap (λ q. if_some q true (is_no_bundle w.handles)) e)
      ∙ all_in (is_socketed w.handles) w.coroutines p.one g.sockets p.there

  pub lasts_of : (w : World V) → IsOrderly w → LooksApart w → IsFitting w → Lasts w
  lasts_of w g a f = record { fits = f; low = λ other more n p on e. low n (and_parts (nat_le n w.handles.last) _ (socketed w other more n g p on e)).0; apart = a; numbered = g.order.fits.numbered }
    where
      low : (n : ℕ) → nat_le n w.handles.last ≡ true → n ≤ w.handles.last
      low n e = grind (arith, nat_tests)

  -- who is found is pending in what it is
  found_in : (w : World V) (other : ℕ) (more : Call) (d : Coroutine V) → Numbered 0 w.coroutines w.last_coroutine → coroutine_of w other ≡ Some d → Pends w other more → pending_call d.mode ≡ Some more
  found_in w other more d n e p =
      let there : coroutine_of w other ≡ Some p.one = subst (λ k. find (is_coroutine k) w.coroutines ≡ Some p.one) p.number (found_of 0 w.last_coroutine w.coroutines p.one n p.there) in
      ap (λ (x : Coroutine V). pending_call x.mode) (some_same (coroutine_of w other) d p.one e there) ∙ p.mode

  -- ---- what is beside stacks

  begun_lasts : (w : World V) → Lasts w → Lasts (begin w)
  begun_lasts w h = record {
    fits = same_fits w (begin w) (pends_same w (begin w) refl) (pends_same (begin w) w refl) refl refl h.fits;
    low = λ other more n p on e. h.low other more n (pends_same w (begin w) refl other more p) on e;
    apart = fewer_apart w (begin w) (fewer_same w (begin w) refl refl refl) h.apart;
    numbered = h.numbered;
  }

  lined_fits : (w : World V) (ready : List ℕ) (early : ℕ) → IsFitting w → IsFitting (queued w ready early).world
  lined_fits w ready early h =
      same_fits w (queued w ready early).world (fewer_lined w).calls (λ other more p. record { one = lined p.one; there = in_mapped lined w.coroutines p.one p.there; number = p.number; mode = lined_pending p.one.mode ∙ p.mode }) refl refl h

  lined_lasts : (w : World V) (ready : List ℕ) (early : ℕ) → Lasts w → Lasts (queued w ready early).world
  lined_lasts w ready early h = record {
    fits = lined_fits w ready early h.fits;
    low = λ other more n p on e. h.low other more n ((fewer_lined w).calls other more p) on e;
    apart = fewer_apart w (queued w ready early).world (fewer_lined w) h.apart;
    numbered = numbered_lined w.coroutines 0 w.last_coroutine h.numbered;
  }

  heated_fits : (ready : List Ready) (w : World V) → IsFitting w → IsFitting (fold heat_ready w ready)
  heated_fits [] w h = h
  heated_fits (x ∷ xs) w h =
      let f = heated x.read x.write in
      let v = on_link w x.link f in
      heated_fits xs v (aside_fits w v (pends_same w v refl) (pends_same v w refl) refl (λ l y i. let r = found_change f (λ z. refl) x.link l w.links.all y i in at l y r.0 r.1 r.2) h)
    where
      at : (l : ℕ) (y z : Link) → look w.links l ≡ Some z → (y ≡ z) ⊎ ((l ≡ x.link) × (y ≡ heated x.read x.write z)) → (q : Link) × (look w.links l ≡ Some q) × (y.closing ≡ q.closing) × (y.most ≡ q.most) × (y.stack ≡ q.stack)
      at l y z i (inl same) = (z, i, ap (λ (q : Link). q.closing) same, ap (λ (q : Link). q.most) same, ap (λ (q : Link). q.stack) same)
      at l y z i (inr is) = (z, i, ap (λ (q : Link). q.closing) is.1, ap (λ (q : Link). q.most) is.1, ap (λ (q : Link). q.stack) is.1)

  -- nobody more is pending as somebody ends
  fewer_end : (w : World V) (who : ℕ) (outcome : Option Errno) → (other : ℕ) (more : Call) → Pends (end w who outcome) other more → Pends w other more
  fewer_end w who outcome other more q =
      let shut = close_all w who in
      pends_same w shut (close_all_crew w who).coroutines other more ((fewer_set shut who (modes.Ending outcome) refl).calls other more q)

  -- ---- a turn

  module _ (p : Program V) (b : World V) (who : ℕ) (c : Coroutine V) (found : coroutine_of b who ≡ Some c) (answered : is_answered c.mode ≡ true) (order : IsOrderly b) (h : Lasts b) where
    idle : (more : Call) → Pends b who more → ⊥
    idle more q = answered_idle c.mode more answered (found_in b who more c h.numbered found q)

    calls_b : (view : V) (other : ℕ) (more : Call) → Pends (resume b who view) other more → Pends b other more
    calls_b view other more q = (fewer_change b who (as_running view) (λ d. refl)).calls other more q

    resumed : (view : V) → Fitted (resume b who view)
    resumed view = fitted {S = Same} {T = NoNumber} {gone = Some who} {new = NoCall} b (resume b who view)
        (record {
          tidy = tidy_mode b who (as_running view) refl;
          calls = λ other more q on. inl (calls_b view other more q);
          free = λ other more n l ne q u e f t. t;
          own = λ other more n l x y g q u e f i j d s d2. absurd (idle more (subst (λ m. Pends b m more) (sym (who_is other g)) q));
          stacks = λ l x y i j d e s. inl (soft_same (Holds (resume b who view) queues l) x.stack y.stack s);
          fits = λ other more n l y q e nm i j. absurd q;
          low = λ other more n q e. absurd q;
        }) (once_of b h.apart) (record { fits = h.fits; low = h.low })
      where
        who_is : (other : ℕ) → Some who ≡ Some other → who ≡ other
        who_is other g = cc

    apart_r : (view : V) → LooksApart (resume b who view)
    apart_r view = fewer_apart b (resume b who view) (fewer_change b who (as_running view) (λ d. refl)) h.apart

    running : (view : V) (more : Call) → Pends (resume b who view) who more → ⊥
    running view more q = unpended b.last_coroutine who (as_running view) (λ d. refl) (λ d. refl) b.coroutines more h.numbered q

    bundles : (view : V) (other : ℕ) (more : Call) (n : ℕ) → Pends (resume b who view) other more → is_on_stack (word_of more) ≡ true → named_by more ≡ Some n → IsBundle b.handles.entries n → ⊥
    bundles view other more n q on e bundle =
        let none = (and_parts (nat_le n b.handles.last) (list_all (λ x. not (x.number == n) || is_none (bundle_of x.thing)) b.handles.entries) (socketed b other more n order (calls_b view other more q) on e)).1 in
        at (bundle.0.number == n) (ap (λ k. k == n) bundle.2 ∙ itself n) (bundle_of bundle.0.thing) bundle.3 (all_in (λ (x : Entry Thing). not (x.number == n) || is_none (bundle_of x.thing)) b.handles.entries bundle.0 none bundle.1)
      where
        at : (t : Bool) → t ≡ true → (o : Option ℕ) → is_some o ≡ true → (not t || is_none o) ≡ true → ⊥
        at true f None g k = cc
        at true f (Some m) g k = cc
        at false f o g k = cc

    -- a step of the caller that touches no stack
    plain : {T : ℕ → Type 0} (view : V) (v : World V) → Tidy Same T (Some who) (resume b who view) v → ((other : ℕ) (more : Call) → Pends v other more → Pends (resume b who view) other more) → ((n : ℕ) → T n → IsBundle b.handles.entries n) → Fitted v
    plain {T} view v tidy calls free = fitted {S = Same} {T = T} {gone = Some who} {new = NoCall} (resume b who view) v
        (record {
          tidy = tidy;
          calls = λ other more q on. inl (calls other more q);
          free = λ other more n l ne q u e f t. bundles view other more n q (queues_on more u) e (free n t);
          own = λ other more n l x y g q u e f i j d s d2. absurd (running view more (subst (λ m. Pends (resume b who view) m more) (sym (who_is other g)) q));
          stacks = λ l x y i j d e s. inl (soft_same (Holds v queues l) x.stack y.stack s);
          fits = λ other more n l y q e nm i j. absurd q;
          low = λ other more n q e. absurd q;
        }) (once_of (resume b who view) (apart_r view)) (resumed view)
      where
        who_is : (other : ℕ) → Some who ≡ Some other → who ≡ other
        who_is other g = cc

    replied : (view : V) (word : Word) (answer : Answer) → Fitted (reply (resume b who view) who word answer)
    replied view word answer = let r = resume b who view in plain {T = NoNumber} view (reply r who word answer) (tidy_reply r who word answer refl) (fewer_reply r who word answer).calls (λ n t. absurd t)

    ended : (view : V) (outcome : Option Errno) → Fitted (end (resume b who view) who outcome)
    ended view outcome = let r = resume b who view in plain view (end r who outcome) (tidy_end r who outcome) (fewer_end r who outcome) (λ n t. t)

    -- ---- a call

    first_same : (view : V) (call : Call) (index : ℕ) (xs : List Clause) → first_done (keep_for (resume b who view) call) who index xs ≡ first_done b who index xs
    first_same view call index [] = refl
    first_same view call index (x ∷ xs) = ap (λ r. if is_waiting (meeting_of b who x) then r else Some (index, meeting_of b who x)) (first_same view call (index + 1) xs)

    meets : (view : V) (call : Call) → MeetsOff (keep_for (resume b who view) call) who call
    meets view call index m e more q on = at (coroutine_of b m.other) refl (first_meets b who 0 index (clauses_of call) m (sym (first_same view call 0 (clauses_of call)) ∙ e) order)
      where
        off : (o : Option Call) → o ≡ Some more → if_some o false (λ d. is_channel (word_of d)) ≡ true → ⊥
        off None f g = cc
        off (Some d) f g = let same : d ≡ more = cc in true_false (is_on_stack (word_of more)) on (channel_off (word_of more) (ap (λ x. is_channel (word_of x)) (sym same) ∙ g))

        at : (o : Option (Coroutine V)) → coroutine_of b m.other ≡ o → if_some o false (λ d. is_meeting d.mode) ≡ true → ⊥
        at None f g = cc
        at (Some d) f g = off (pending_call d.mode) (found_in b m.other more d h.numbered f (calls_b view m.other more (record { one = q.one; there = q.there; number = q.number; mode = q.mode }))) g

    pub calling : (view : V) (call : Call) → refuse p (resume b who view) who view call ≡ None → Caller (resume b who view) who call
    calling view call e = record {
      fits = resumed view;
      apart = apart_r view;
      given = λ n x f. given_below n b.handles.last (λ up. live_low b n x order.order.fits f up);
      names = λ n l q. names_number b n l order.order (record { entry = q.entry; there = q.there; number = q.number; link = q.link });
      one = as_running view c;
      found = change_here (as_running view) (λ d. refl) who b.coroutines c found;
      running = running view;
      bundles = bundles view;
      free = free p (resume b who view) who view call e;
      meets = meets view call;
    }

    go_on_fits : (lack : Option LackPlace) → Fitted (go_on p lack b who c.body)
    go_on_fits lack = moves (p.short c.body (answer_given b who).1) (move_of p b who c.body)
      where
        enters : (new : V) (call : Call) → Fitted (enter p (is_entry lack) (resume b who new) who new call)
        enters new call = at (refuse p (resume b who new) who new call) refl
          where
            lacks : (t : Bool) → refuse p (resume b who new) who new call ≡ None → Fitted (if t then reply (resume b who new) who (word_of call) (Fault Enomem) else done p (resume b who new) who new call)
            lacks true e = replied new (word_of call) (Fault Enomem)
            lacks false e = done_fits p (resume b who new) who new call (calling new call e)

            at : (o : Option Errno) → refuse p (resume b who new) who new call ≡ o → Fitted (if_some o (if is_entry lack && takes_memory (word_of call) then reply (resume b who new) who (word_of call) (Fault Enomem) else done p (resume b who new) who new call) (λ e. reply (resume b who new) who (word_of call) (Fault e)))
            at None e = lacks (is_entry lack && takes_memory (word_of call)) e
            at (Some x) e = replied new (word_of call) (Fault x)

        moves : (short : V) (next : V × Move) → Fitted (if is_build lack && may_lack_build next.1 then lack_move (resume b who short) who next.1 else make_move p (is_entry lack) (resume b who next.0) who next.0 next.1)
        moves short (new, Calls call) = at (is_build lack && build_takes_memory (word_of call))
          where
            at : (t : Bool) → Fitted (if t then reply (resume b who short) who (word_of call) (Fault (lack_fault (resume b who short) who (word_of call))) else enter p (is_entry lack) (resume b who new) who new (entered b.moment call))
            at true = replied short (word_of call) (Fault (lack_fault (resume b who short) who (word_of call)))
            at false = enters new (entered b.moment call)
        moves short (new, Ends outcome) = at (is_build lack)
          where
            at : (t : Bool) → Fitted (if t && false then resume b who short else end (resume b who new) who outcome)
            at true = ended new outcome
            at false = ended new outcome

  pub go_on_lasts : (p : Program V) (w : World V) (who : ℕ) (c : Coroutine V) (found : coroutine_of w who ≡ Some c) (answered : is_answered c.mode ≡ true) → IsOrderly w → Lasts w → (lack : Option LackPlace) → Lasts (go_on p lack (begin w) who c.body)
  go_on_lasts p w who c found answered order h lack =
      let f = go_on_fits p (begin w) who c found answered (begins w order) (begun_lasts w h) lack in
      record { fits = f.fits; low = f.low; apart = go_on_apart p lack w who c.body h.apart; numbered = (go_on_goes p lack w who c order found answered).good.order.fits.numbered }

  -- ---- steps

  module _ (laws : LooksAgain) where
    settled_fits : (w : World V) (ready : List ℕ) (early : ℕ) → Lasts w → IsFitting (queued (settle w) ready early).world
    settled_fits w ready early h = lined_fits (settle w) ready early (settle_lasts laws w h).fits

    turned_fits : (p : Program V) → IsLawful p → (k : Kept V) (lack : Option LackPlace) → IsWell p k → IsOrderly k.world → LooksApart k.world → IsFitting k.world → IsFitting (kept_turn p lack k).world
    turned_fits p law k lack well g a f = at k.ready refl
      where
        at : (ready : List ℕ) → k.ready ≡ ready → IsFitting (turn_first p lack k ready).world
        at [] e = f
        at (who ∷ rest) e =
            let m = (steps_keep_well p law).first k who rest well e in
            subst (λ v. IsFitting (queued v rest (k.early - 1)).world) (turn_is p lack k.world who m.one m.found)
            (settled_fits (go_on p lack (begin k.world) who m.one.body) rest (k.early - 1) (go_on_lasts p k.world who m.one m.found m.answered g (lasts_of k.world g a f) lack))

    heard_fits : (k : Kept V) (said : Option KernelReply) → IsOrderly k.world → LooksApart k.world → IsFitting k.world → IsFitting (kept_hear k said).world
    heard_fits k said g a f = at (next_try k.world) refl
      where
        at : (o : Option Try) → next_try k.world ≡ o → IsFitting (if_some o k (λ x. queued (settle (heard (begin k.world) x said)) k.ready k.early)).world
        at None e = f
        at (Some x) e = settled_fits (heard (begin k.world) x said) k.ready k.early (heard_lasts (begin k.world) x said e (begun_lasts k.world (lasts_of k.world g a f)))

    late_lasts : (xs : List ℕ) (k : Kept V) → Lasts k.world → Lasts (fold kept_expire_next k xs).world
    late_lasts [] k h = h
    late_lasts (x ∷ xs) k h = late_lasts xs (kept_expire_next k x) (lined_lasts (expire_one k.world x) k.ready k.early (expire_lasts k.world x h))

    expired_fits : (k : Kept V) → IsOrderly k.world → LooksApart k.world → IsFitting k.world → IsFitting (kept_expired k).world
    expired_fits k g a f = settled_fits (kept_late k).world (kept_late k).ready (kept_late k).early (late_lasts (passed k.world) (record k { world = begin k.world }) (begun_lasts k.world (lasts_of k.world g a f)))

    shut_fits : (k : Kept V) → IsOrderly k.world → LooksApart k.world → IsFitting k.world → IsFitting (kept_shut k).world
    shut_fits k g a f =
        let v = root_closed k.world in
        let h = lasts_of k.world g a f in
        settled_fits v k.ready (length k.ready) (record {
          fits = aside_fits k.world v (pends_same k.world v refl) (pends_same v k.world refl) refl (near_rested k.world.links) f;
          low = λ other more n p on e. h.low other more n (pends_same k.world v refl other more p) on e;
          apart = fewer_apart k.world v (fewer_parts k.world v refl refl (soft_rested k.world.links).stays) a;
          numbered = h.numbered;
        })

  begun_fits : (w : World V) → IsFitting w → IsFitting (begin w)
  begun_fits w h = same_fits w (begin w) (pends_same w (begin w) refl) (pends_same (begin w) w refl) refl refl h

  woke_fits : (k : Kept V) (told : ℕ) (ready : List Ready) → IsFitting k.world → IsFitting (kept_woke k told ready).world
  woke_fits k told ready f =
      let v = fold heat_ready (begin k.world) ready in
      let u = (kept_woke k told ready).world in
      aside_fits v u (pends_same v u refl) (pends_same u v refl) refl (near_rested v.links) (heated_fits ready (begin k.world) (begun_fits k.world f))

  opening_fits : (view : V) → IsFitting (opening_kept view).world
  opening_fits view = record {
    «open» = λ n l x p i. cc;
    solid = λ l x i c. cc;
    sends = λ l x i c e. cc;
    expects = λ l x i c e. cc;
    calls = λ who call n l x p e nm i. cc;
  }

pub steps_keep_fitting : {V : Type 0} (p : Program V) → LooksAgain → StepsKeepFitting p
steps_keep_fitting p laws law = record {
  opening = opening_fits;
  lent = λ k random f. let v = lent random k.world in same_fits k.world v (pends_same k.world v refl) (pends_same v k.world refl) refl refl f;
  turned = turned_fits laws p law;
  hears = λ k said well g a f. heard_fits laws k said g a f;
  started = λ k f. begun_fits k.world f;
  expires = λ k who well g a f. lined_fits (expire_one k.world who) k.ready k.early (expire_lasts k.world who (lasts_of k.world g a f)).fits;
  settled = λ k well g a f. settled_fits laws k.world k.ready k.early (lasts_of k.world g a f);
  expired = λ k well g a f. expired_fits laws k g a f;
  shut = λ k well g a f. shut_fits laws k g a f;
  woke = woke_fits;
}
