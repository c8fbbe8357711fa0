-- After each step nobody is making a call, and whoever was answered has a place in the queue.
use Rattle.std.proofs.Common.{◌≡◌, ◌∙◌, ℕ, zero, suc, ◌+◌, ◌==◌, List, [], ◌∷◌, ◌++◌, length, map, find, Bool, true, false, not, ◌&&◌, ◌||◌, cond, Option, Some, None, if◌then◌else◌, refl, sym, ap, subst, arith, ◌-◌, fold}
use Rattle.std.proofs.lemmas.Bool.{and_parts, and_from, or_parts}
use Rattle.std.specs.List.{list_all, list_any}
use Rattle.std.proofs.lemmas.Bool.Decides.{nat_tests}
use Rattle.dill_base.specs.declared.errno.Errno.{Errno}
use Rattle.dill_base.specs.declared.errno.Errno.TheVariants as errnos
use Rattle.dill_calls.specs.declared.answer.Answer.{Answer}
use Rattle.dill_calls.specs.declared.call.Call.{Call}
use Rattle.dill_calls.specs.declared.call.Call.TheVariants as calls
use Rattle.dill_calls.specs.declared.ran.LackPlace.{LackPlace}
use Rattle.dill_calls.specs.declared.word.Word.{Word}
use Rattle.dill_calls.specs.declared.word.Word.TheVariants as words
use Rattle.dill_calls.specs.Program.{Program, Move, Calls, Ends, IsLawful}
use Rattle.dill_handles.specs.declared.entry.Entry.{Entry}
use Rattle.dill_base.specs.Maps.{if_some, first_some, change}
use Rattle.dill_rules.specs.declared.coroutine.Coroutine.{Coroutine}
use Rattle.dill_rules.specs.declared.coroutine.Mode.{Mode}
use Rattle.dill_rules.specs.declared.coroutine.Mode.TheVariants as modes
use Rattle.dill_rules.specs.declared.thing.Thing.{Thing}
use Rattle.dill_rules.specs.declared.thing.Thing.TheVariants as things
use Rattle.dill_rules.specs.Effects.{bear}
use Rattle.dill_rules.specs.Entering.{entered, keep_for, perform, is_too_late, late_answer, meet_deadline, done, enter, lack_fault}
use Rattle.dill_rules.specs.Expiring.{expire_one, passed}
use Rattle.dill_rules.specs.Giving.{give}
use Rattle.dill_rules.specs.Refusals.{refuse}
use Rattle.dill_rules.specs.Settling.{can_finish, finish, free_all, release_all, answer_due, give_first, settle_one, settle_within, settle, close_all, end}
use Rattle.dill_rules.specs.State.{lined, lined_mode}
use Rattle.dill_rules.specs.Taking.{bundle_of, bundle_named}
use Rattle.dill_rules.specs.Turning.{is_build, is_entry, as_running, may_lack_build, resume, answer_given, move_of, make_move, lack_move, go_on}
use Rattle.dill_rules.specs.World.{World, is_coroutine, call_of, with_mode, reply, pend, begin}
use Rattle.laws_sound.proofs.Lists.{all_found, all_without, all_follow}
use Rattle.laws_sound.specs.Laws.{is_resting, IsAtRest, StepsKeepRest}
use Rattle.laws_sound.specs.Order.{is_proper, is_proper_thing}
use Rattle.laws_sound.proofs.Counting.{all_push}
use Rattle.laws_sound.proofs.Entering.{May, may}
use Rattle.dill_calls.specs.declared.answer.Answer.TheVariants.{Number, Fault}
use Rattle.dill_calls.specs.CallTable.{word_of, takes_memory, build_takes_memory}
use Rattle.dill_stack.specs.declared.layer.Top.{Top}
use Rattle.dill_stack.specs.declared.layer.Top.TheVariants as tops
use Rattle.dill_rules.specs.Answers.{end_of, end_named}
use Rattle.dill_rules.specs.Directions.{kind_of_top}
use Rattle.dill_rules.specs.Kinds.{is_dead, is_other_kind, is_other_top, kind_of, top_on}
use Rattle.dill_rules.specs.Naming.{gifts_of}
use Rattle.dill_rules.specs.Owning.{entry_of}
use Rattle.dill_rules.specs.Channeling.{without_bytes}
use Rattle.laws_queue.proofs.Besides.{besides_crew, pass_all_besides, heat_all_besides}
use Rattle.laws_queue.proofs.Crew.{SameCrew, close_all_crew, bare_crew}
use Rattle.laws_queue.proofs.Acting.{Gives, give_gives, Hears, nobody, one, heard_hears, Idles, dead, no_bundle, no_end, Acts, idles, answered, waits, waits_bare, meets, bore, Bearing, perform_acts}
use Rattle.laws_sound.proofs.Making.{live_entry, named_alive}
use Rattle.laws_sound.proofs.Noting.{no_name}
use Rattle.dill_kernel.specs.declared.replies.KernelReply.{KernelReply}
use Rattle.dill_rules.specs.Hearing.{heard}
use Rattle.dill_rules.specs.Trying.{Try, next_try}
use Rattle.laws_queue.specs.Kept.{Kept, queued, turn_first, kept_hear, kept_expire_next, kept_late, root_closed}
use Rattle.laws_queue.specs.Well.{IsWell}
use Rattle.laws_queue.proofs.Keeping.{steps_keep_well}
use Rattle.laws_sound.specs.Orderly.{IsOrderly}
use Rattle.laws_sound.proofs.Calling.{turn_is}

-- it isn't making a call
abbrev pub is_still : Mode → Bool
is_still modes.Running = false
is_still _ = true

abbrev idle : Mode
idle = modes.Ending None

-- a socket is of no kind of these
top_one : (t : Top) → ((kind_of_top t == 1) ≡ false) × ((kind_of_top t == 2) ≡ false)
top_one tops.Bytes = (refl, refl)
top_one tops.Http = (refl, refl)
top_one t = (refl, refl)

top_kind : (o : Option Top) → ((if_some o 0 kind_of_top == 1) ≡ false) × ((if_some o 0 kind_of_top == 2) ≡ false)
top_kind None = (refl, refl)
top_kind (Some t) = top_one t

module _ {V : Type 0} where
  -- nobody is making a call
  abbrev pub Still : List (Coroutine V) → Type 0
  Still cs = list_all (λ c. is_still c.mode) cs ≡ true

  -- nobody else is
  abbrev pub Almost : List (Coroutine V) → ℕ → Type 0
  Almost cs who = Still (change (is_coroutine who) (with_mode idle) cs)

  still_set : (who : ℕ) (mode : Mode) (cs : List (Coroutine V)) → is_still mode ≡ true → Still cs → Still (change (is_coroutine who) (with_mode mode) cs)
  still_set who mode [] e s = refl
  still_set who mode (c ∷ cs) e s =
      let b = and_parts (is_still c.mode) (list_all (λ d. is_still d.mode) cs) s in
      at (is_coroutine who c) (still_set who mode cs e b.1)
    where
      at : (t : Bool) → Still (change (is_coroutine who) (with_mode mode) cs) → Still (cond t (with_mode mode c ∷ cs) (c ∷ change (is_coroutine who) (with_mode mode) cs))
      at true r = let b = and_parts (is_still c.mode) (list_all (λ d. is_still d.mode) cs) s in and_from (is_still mode) (list_all (λ d. is_still d.mode) cs) e b.1
      at false r = let b = and_parts (is_still c.mode) (list_all (λ d. is_still d.mode) cs) s in and_from (is_still c.mode) (list_all (λ d. is_still d.mode) (change (is_coroutine who) (with_mode mode) cs)) b.0 r

  almost_set : (who : ℕ) (mode : Mode) (cs : List (Coroutine V)) → is_still mode ≡ true → Almost cs who → Still (change (is_coroutine who) (with_mode mode) cs)
  almost_set who mode [] e s = refl
  almost_set who mode (c ∷ cs) e s = at (is_coroutine who c) s (almost_set who mode cs e)
    where
      at : (t : Bool) → Still (cond t (with_mode idle c ∷ cs) (c ∷ change (is_coroutine who) (with_mode idle) cs)) → (Almost cs who → Still (change (is_coroutine who) (with_mode mode) cs)) → Still (cond t (with_mode mode c ∷ cs) (c ∷ change (is_coroutine who) (with_mode mode) cs))
      at true r rest = and_from (is_still mode) (list_all (λ d. is_still d.mode) cs) e r
      at false r rest = let b = and_parts (is_still c.mode) (list_all (λ d. is_still d.mode) (change (is_coroutine who) (with_mode idle) cs)) r in and_from (is_still c.mode) (list_all (λ d. is_still d.mode) (change (is_coroutine who) (with_mode mode) cs)) b.0 (rest b.1)

  almost_push : (who : ℕ) (cs : List (Coroutine V)) (d : Coroutine V) → is_still d.mode ≡ true → Almost cs who → Almost (cs ++ d ∷ []) who
  almost_push who [] d e s = at (is_coroutine who d)
    where
      at : (t : Bool) → Still (cond t (with_mode idle d ∷ []) (d ∷ []))
      at true = refl
      at false = and_from (is_still d.mode) true e refl
  almost_push who (c ∷ cs) d e s = at (is_coroutine who c) s (almost_push who cs d e)
    where
      at : (t : Bool) → Still (cond t (with_mode idle c ∷ cs) (c ∷ change (is_coroutine who) (with_mode idle) cs)) → (Almost cs who → Almost (cs ++ d ∷ []) who) → Still (cond t (with_mode idle c ∷ cs ++ d ∷ []) (c ∷ change (is_coroutine who) (with_mode idle) (cs ++ d ∷ [])))
      at true r rest = all_push (λ k. is_still k.mode) cs d r e
      at false r rest = let b = and_parts (is_still c.mode) (list_all (λ k. is_still k.mode) (change (is_coroutine who) (with_mode idle) cs)) r in and_from (is_still c.mode) (list_all (λ k. is_still k.mode) (change (is_coroutine who) (with_mode idle) (cs ++ d ∷ []))) b.0 (rest b.1)

  -- another is answered meanwhile
  almost_other : (who n : ℕ) (mode : Mode) (cs : List (Coroutine V)) → is_still mode ≡ true → Almost cs who → Almost (change (is_coroutine n) (with_mode mode) cs) who
  almost_other who n mode [] e s = refl
  almost_other who n mode (c ∷ cs) e s = at (is_coroutine n c) (is_coroutine who c) refl s (almost_other who n mode cs e)
    where
      at : (t u : Bool) → is_coroutine who c ≡ u → Still (cond u (with_mode idle c ∷ cs) (c ∷ change (is_coroutine who) (with_mode idle) cs)) → (Almost cs who → Almost (change (is_coroutine n) (with_mode mode) cs) who) → Almost (cond t (with_mode mode c ∷ cs) (c ∷ change (is_coroutine n) (with_mode mode) cs)) who
      at true true f r rest = let g : is_coroutine who (with_mode mode c) ≡ true = f in rw g r
      at true false f r rest =
          let b = and_parts (is_still c.mode) (list_all (λ d. is_still d.mode) (change (is_coroutine who) (with_mode idle) cs)) r in
          let g : is_coroutine who (with_mode mode c) ≡ false = f in
          rw g (and_from (is_still mode) (list_all (λ d. is_still d.mode) (change (is_coroutine who) (with_mode idle) cs)) e b.1)
      at false true f r rest = rw f (still_set n mode cs e r)
      at false false f r rest =
          let b = and_parts (is_still c.mode) (list_all (λ d. is_still d.mode) (change (is_coroutine who) (with_mode idle) cs)) r in
          rw f (and_from (is_still c.mode) (list_all (λ d. is_still d.mode) (change (is_coroutine who) (with_mode idle) (change (is_coroutine n) (with_mode mode) cs))) b.0 (rest b.1))

  -- who is given its answer alone makes a call
  resumed_almost : (who : ℕ) (view : V) (cs : List (Coroutine V)) → Still cs → Almost (change (is_coroutine who) (as_running view) cs) who
  resumed_almost who view [] s = refl
  resumed_almost who view (c ∷ cs) s =
      let b = and_parts (is_still c.mode) (list_all (λ d. is_still d.mode) cs) s in
      at (is_coroutine who c) refl b.0 b.1 (resumed_almost who view cs b.1)
    where
      at : (t : Bool) → is_coroutine who c ≡ t → is_still c.mode ≡ true → Still cs → Almost (change (is_coroutine who) (as_running view) cs) who → Almost (cond t (as_running view c ∷ cs) (c ∷ change (is_coroutine who) (as_running view) cs)) who
      at true e f g r = let h : is_coroutine who (as_running view c) ≡ true = e in rw h g
      at false e f g r = rw e (and_from (is_still c.mode) (list_all (λ d. is_still d.mode) (change (is_coroutine who) (with_mode idle) (change (is_coroutine who) (as_running view) cs))) f r)

  -- ---- settling

  still_crew : (w v : World V) → SameCrew w v → Still w.coroutines → Still v.coroutines
  still_crew w v same s = ap (list_all (λ c. is_still c.mode)) same.coroutines ∙ s

  still_gives : (w v : World V) (who : ℕ) (word : Word) → Gives w who word v → Still w.coroutines → Still v.coroutines
  still_gives w v who word g s = subst Still (sym g.coroutines) (still_set who (modes.Fresh word g.answer) w.coroutines refl s)

  still_give : (w : World V) (who : ℕ) (call : Call) (answer : Answer) → Still w.coroutines → Still (give w who call answer).coroutines
  still_give w who call answer s = still_gives w (give w who call answer) who (word_of call) (give_gives w who call answer) s

  still_settle_one : (w : World V) → Still w.coroutines → Still (settle_one w).coroutines
  still_settle_one w s = at (find (can_finish w) w.coroutines)
    where
      first : (o : Option (ℕ × Call × Answer)) → Still (if_some o w (λ x. give w x.0 x.1 x.2)).coroutines
      first None = s
      first (Some x) = still_give w x.0 x.1 x.2 s

      at : (o : Option (Coroutine V)) → Still (if_some o (give_first w) (finish w)).coroutines
      at None = first (first_some (answer_due w) w.coroutines)
      at (Some c) =
          let bare = release_all (free_all w c.number) c.number in
          all_without (λ d. is_still d.mode) (is_coroutine c.number) bare.coroutines (still_crew w bare (bare_crew w c.number) s)

  still_within : (k : ℕ) (w : World V) → Still w.coroutines → Still (settle_within k w).coroutines
  still_within zero w s = s
  still_within (suc k) w s = still_within k (settle_one w) (still_settle_one w s)

  pub still_settle : (w : World V) → Still w.coroutines → Still (settle w).coroutines
  still_settle w s =
      let done = settle_within (length w.coroutines) w in
      still_crew done (settle w) (besides_crew (pass_all_besides done)) (still_within (length w.coroutines) w s)

  pub still_expire : (w : World V) (who : ℕ) → Still w.coroutines → Still (expire_one w who).coroutines
  still_expire w who s = at (call_of w who)
    where
      at : (o : Option Call) → Still (if_some o w (λ call. give w who call (late_answer call))).coroutines
      at None = s
      at (Some call) = still_give w who call (late_answer call) s

  -- a reply of the kernel
  still_hears : (w v : World V) → Hears w v → Still w.coroutines → Still v.coroutines
  still_hears w v (nobody same) s = still_crew w v same s
  still_hears w v (one who call e g) s = still_gives w v who (word_of call) g s

  -- ---- calls

  almost_gives : (w v : World V) (who : ℕ) (word : Word) → Gives w who word v → Almost w.coroutines who → Still v.coroutines
  almost_gives w v who word g a = subst Still (sym g.coroutines) (almost_set who (modes.Fresh word g.answer) w.coroutines refl a)

  answers : (w : World V) (who : ℕ) (word : Word) (answer : Answer) → Almost w.coroutines who → Still (reply w who word answer).coroutines
  answers w who word answer a = almost_set who (modes.Fresh word answer) w.coroutines refl a

  still_acts : (w v : World V) (who : ℕ) (call : Call) → (Idles w call → ⊥) → Acts (λ view. Unit {0}) w who call v → Almost w.coroutines who → Still v.coroutines
  still_acts w _ who call busy (idles i) a = absurd (busy i)
  still_acts w v who call busy (answered g) a = almost_gives w v who (word_of call) g a
  still_acts w v who call busy (waits m same) a = still_crew (pend w who call) v same (almost_set who (modes.Pending call) w.coroutines refl a)
  still_acts w v who call busy (waits_bare m same) a = still_crew (pend w who (without_bytes call)) v same (almost_set who (modes.Pending (without_bytes call)) w.coroutines refl a)
  still_acts w v who call busy (meets other its answer k e g) a = almost_gives (reply w other (word_of its) answer) v who (word_of call) g (almost_other who other (modes.Fresh (word_of its) answer) w.coroutines refl a)
  still_acts w v who call busy (bore view home b e g) a =
      almost_gives (bear w view home) v who (word_of call) g (almost_push who w.coroutines (record { number = w.last_coroutine + 1; body = view; mode = modes.Fresh words.Start (Number 0) }) refl a)

  -- what isn't dead is found
  alive : (w : World V) (number : ℕ) → is_dead w number ≡ false → (x : Entry Thing) × (entry_of w number ≡ Some x)
  alive w number e = live_entry (entry_of w number) e

  -- what is of a bundle's kind is a bundle, and what is of an end's an end
  bundle_kind : (w : World V) (t : Thing) → is_proper_thing t ≡ true → (kind_of w t == 1) ≡ true → (home : ℕ) × (bundle_of t ≡ Some home)
  bundle_kind w (things.Bundle name) proper e = (name, refl)
  bundle_kind w (things.Value kind value) proper e = absurd (grind (arith, nat_tests))
  bundle_kind w (things.End end) proper e = cc
  bundle_kind w (things.Listener link) proper e = cc
  bundle_kind w (things.Socket link) proper e = let f = (top_kind (top_on w link)).0 in cc

  end_kind : (w : World V) (t : Thing) → is_proper_thing t ≡ true → (kind_of w t == 2) ≡ true → (end : ℕ) × (end_of t ≡ Some end)
  end_kind w (things.End end) proper e = (end, refl)
  end_kind w (things.Value kind value) proper e = absurd (grind (arith, nat_tests))
  end_kind w (things.Bundle name) proper e = cc
  end_kind w (things.Listener link) proper e = cc
  end_kind w (things.Socket link) proper e = let f = (top_kind (top_on w link)).1 in cc

not_not : (b : Bool) → not b ≡ false → b ≡ true
not_not true f = refl
not_not false f = cc

one_dead : (b : Bool) → (b || false) ≡ false → b ≡ false
one_dead true e = cc
one_dead false e = refl

module _ {V : Type 0} (p : Program V) where
  no_child : (view : V) (call : Call) → Bearing (λ child. Unit {0}) p view call
  no_child view (calls.Go program args) = λ next. tt
  no_child view (calls.BundleGo number program args) = λ next. tt
  no_child view call = tt

  -- what isn't refused is done
  never_idle : (w : World V) (who : ℕ) (view : V) (call : Call) → list_all is_proper w.handles.entries ≡ true → May p w who view call → Idles (keep_for w call) call → ⊥
  never_idle w who view call proper m (dead number e f) =
      let none : is_dead w number ≡ false = named_alive w call number e m.alive in
      let x = alive w number none in
      cc_none (entry_of w number) x.0 f x.1
    where
      cc_none : (o : Option (Entry Thing)) (x : Entry Thing) → o ≡ None → o ≡ Some x → ⊥
      cc_none None x g h = cc
      cc_none (Some y) x g h = cc
  never_idle w who view _ proper m (no_bundle number program args f) =
      let call = calls.BundleGo number program args in
      let x = alive w number (or_parts (is_dead w number) (list_any (is_dead w) (gifts_of args ++ [])) m.alive).0 in
      let other = (or_parts (is_other_kind w call) (is_other_top w call || false) m.other).0 in
      let kind : (kind_of w x.0.thing == 1) ≡ true = not_not (kind_of w x.0.thing == 1) (ap (λ o. not (if_some o false (λ y. kind_of w y.thing == 1))) (sym x.1) ∙ other) in
      let home = bundle_kind w x.0.thing (all_found is_proper (λ y. y.number == number) w.handles.entries x.0 proper x.1) kind in
      no_name (bundle_named w number) home.0 f (ap (λ o. if_some o None (λ y. bundle_of y.thing)) x.1 ∙ home.1)
  never_idle w who view _ proper m (no_end number f) =
      let call = calls.Chdone number in
      let x = alive w number (one_dead (is_dead w number) m.alive) in
      let other = (or_parts (is_other_kind w call) (is_other_top w call || false) m.other).0 in
      let kind : (kind_of w x.0.thing == 2) ≡ true = not_not (kind_of w x.0.thing == 2) (ap (λ o. not (if_some o false (λ y. kind_of w y.thing == 2))) (sym x.1) ∙ other) in
      let end = end_kind w x.0.thing (all_found is_proper (λ y. y.number == number) w.handles.entries x.0 proper x.1) kind in
      no_name (end_named w number) end.0 f (ap (λ o. if_some o None (λ y. end_of y.thing)) x.1 ∙ end.1)

  still_perform : (w : World V) (who : ℕ) (view : V) (call : Call) → list_all is_proper w.handles.entries ≡ true → May p w who view call → Almost w.coroutines who → Still (perform p (keep_for w call) who view call).coroutines
  still_perform w who view call proper m a =
      let k = keep_for w call in
      still_acts k (perform p k who view call) who call (never_idle w who view call proper m) (perform_acts (λ child. Unit {0}) p k who view call (no_child view call)) a

  still_meet : (w : World V) (who : ℕ) → Still w.coroutines → Still (meet_deadline w who).coroutines
  still_meet w who s = at (call_of w who)
    where
      by : (call : Call) (b : Bool) → Still (if b then reply w who (word_of call) (late_answer call) else w).coroutines
      by call true = still_set who (modes.Fresh (word_of call) (late_answer call)) w.coroutines refl s
      by call false = s

      at : (o : Option Call) → Still (if_some o w (λ call. if is_too_late w who call then reply w who (word_of call) (late_answer call) else w)).coroutines
      at None = s
      at (Some call) = by call (is_too_late w who call)

  still_enter : (lacks : Bool) (w : World V) (who : ℕ) (view : V) (call : Call) → list_all is_proper w.handles.entries ≡ true → Almost w.coroutines who → Still (enter p lacks w who view call).coroutines
  still_enter lacks w who view call proper a = at (refuse p w who view call) refl
    where
      lack : (b : Bool) → refuse p w who view call ≡ None → Still (if b then reply w who (word_of call) (Fault errnos.Enomem) else done p w who view call).coroutines
      lack true f = answers w who (word_of call) (Fault errnos.Enomem) a
      lack false f = still_meet (perform p (keep_for w call) who view call) who (still_perform w who view call proper (may p w who view call f) a)

      at : (o : Option Errno) → refuse p w who view call ≡ o → Still (if_some o (if lacks && takes_memory (word_of call) then reply w who (word_of call) (Fault errnos.Enomem) else done p w who view call) (λ g. reply w who (word_of call) (Fault g))).coroutines
      at None f = lack (lacks && takes_memory (word_of call)) f
      at (Some g) f = answers w who (word_of call) (Fault g) a

  still_end : (w : World V) (who : ℕ) (outcome : Option Errno) → Almost w.coroutines who → Still (end w who outcome).coroutines
  still_end w who outcome a = almost_set who (modes.Ending outcome) (close_all w who).coroutines refl (subst (λ cs. Almost cs who) (sym (close_all_crew w who).coroutines) a)

  still_move : (lack : Option LackPlace) (w : World V) (who : ℕ) (short : V) (next : V × Move) → list_all is_proper w.handles.entries ≡ true → Still w.coroutines → Still (if is_build lack && may_lack_build next.1 then lack_move (resume w who short) who next.1 else make_move p (is_entry lack) (resume w who next.0) who next.0 next.1).coroutines
  still_move lack w who short (new, Calls call) proper s = at (is_build lack && build_takes_memory (word_of call))
    where
      at : (b : Bool) → Still (if b then reply (resume w who short) who (word_of call) (Fault (lack_fault (resume w who short) who (word_of call))) else make_move p (is_entry lack) (resume w who new) who new (Calls call)).coroutines
      at true = answers (resume w who short) who (word_of call) (Fault (lack_fault (resume w who short) who (word_of call))) (resumed_almost who short w.coroutines s)
      at false = still_enter (is_entry lack) (resume w who new) who new (entered w.moment call) proper (resumed_almost who new w.coroutines s)
  still_move lack w who short (new, Ends outcome) proper s = at (is_build lack)
    where
      at : (b : Bool) → Still (if b && false then resume w who short else end (resume w who new) who outcome).coroutines
      at true = still_end (resume w who new) who outcome (resumed_almost who new w.coroutines s)
      at false = still_end (resume w who new) who outcome (resumed_almost who new w.coroutines s)

  pub still_go_on : (lack : Option LackPlace) (w : World V) (who : ℕ) (view : V) → list_all is_proper w.handles.entries ≡ true → Still w.coroutines → Still (go_on p lack (begin w) who view).coroutines
  still_go_on lack w who view proper s = still_move lack (begin w) who (p.short view (answer_given (begin w) who).1) (move_of p (begin w) who view) proper s

lined_rests : (mode : Mode) → is_still mode ≡ true → is_resting (lined_mode mode) ≡ true
lined_rests (modes.Fresh word answer) e = refl
lined_rests (modes.Pending call) e = refl
lined_rests modes.Running e = cc
lined_rests (modes.Answered word answer) e = refl
lined_rests (modes.Ending outcome) e = refl

rests_still : (mode : Mode) → is_resting mode ≡ true → is_still mode ≡ true
rests_still (modes.Fresh word answer) e = refl
rests_still (modes.Pending call) e = refl
rests_still modes.Running e = cc
rests_still (modes.Answered word answer) e = refl
rests_still (modes.Ending outcome) e = refl

module _ {V : Type 0} where
  pub still_rests : (w : World V) → IsAtRest w → Still w.coroutines
  still_rests w e = all_follow (λ c. is_resting c.mode) (λ c. is_still c.mode) w.coroutines (λ c f. rests_still c.mode f) e

  -- where nobody is making a call, all are at rest once the answers have their places
  pub rests_lined : (cs : List (Coroutine V)) → Still cs → list_all (λ c. is_resting c.mode) (map lined cs) ≡ true
  rests_lined [] s = refl
  rests_lined (c ∷ cs) s = let b = and_parts (is_still c.mode) (list_all (λ d. is_still d.mode) cs) s in and_from (is_resting (lined_mode c.mode)) (list_all (λ d. is_resting d.mode) (map lined cs)) (lined_rests c.mode b.0) (rests_lined cs b.1)

  -- ---- the steps

  rests_settled : (w : World V) → Still w.coroutines → IsAtRest (queued (settle w) [] 0).world
  rests_settled w s = rests_lined (settle w).coroutines (still_settle w s)

  rests_hears : (k : Kept V) (said : Option KernelReply) → IsAtRest k.world → IsAtRest (kept_hear k said).world
  rests_hears k said r = at (next_try k.world)
    where
      at : (o : Option Try) → IsAtRest (if_some o k (λ x. queued (settle (heard (begin k.world) x said)) k.ready k.early)).world
      at None = r
      at (Some x) = rests_settled (heard (begin k.world) x said) (still_hears (begin k.world) (heard (begin k.world) x said) (heard_hears (begin k.world) x said) (still_rests k.world r))

  rests_expires : (k : Kept V) (who : ℕ) → IsAtRest k.world → IsAtRest (kept_expire_next k who).world
  rests_expires k who r = rests_lined (expire_one k.world who).coroutines (still_expire k.world who (still_rests k.world r))

  rests_late : (xs : List ℕ) (k : Kept V) → IsAtRest k.world → IsAtRest (fold kept_expire_next k xs).world
  rests_late [] k r = r
  rests_late (x ∷ xs) k r = rests_late xs (kept_expire_next k x) (rests_expires k x r)

pub steps_keep_rest : {V : Type 0} (p : Program V) → StepsKeepRest p
steps_keep_rest p law = record {
  opening = λ view. refl;
  turned = λ k lack w o r. rests_turned p law k lack w o r k.ready refl;
  hears = rests_hears;
  expires = rests_expires;
  settled = λ k r. rests_settled k.world (still_rests k.world r);
  expired = λ k r. let late = kept_late k in rests_settled late.world (still_rests late.world (rests_late (passed k.world) (record k { world = begin k.world }) r));
  shut = λ k r. rests_settled (root_closed k.world) (still_rests k.world r);
  woke = λ k told ready r. ap (list_all (λ c. is_resting c.mode)) (besides_crew (heat_all_besides ready (begin k.world))).coroutines ∙ r;
}
  where
    rests_turned : {V : Type 0} (p : Program V) → IsLawful p → (k : Kept V) (lack : Option LackPlace) → IsWell p k → IsOrderly k.world → IsAtRest k.world → (ready : List ℕ) → k.ready ≡ ready → IsAtRest (turn_first p lack k ready).world
    rests_turned p law k lack w o r [] e = r
    rests_turned p law k lack w o r (who ∷ rest) e =
        let m = (steps_keep_well p law).first k who rest w e in
        let moved = go_on p lack (begin k.world) who m.one.body in
        subst (λ v. IsAtRest (queued v rest (k.early - 1)).world) (turn_is p lack k.world who m.one m.found) (rests_settled moved (still_go_on p lack k.world who m.one.body o.order.fits.kinds (still_rests k.world r)))
