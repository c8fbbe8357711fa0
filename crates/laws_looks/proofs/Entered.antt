-- As a call is entered that looks at its stack, nothing is due but of the caller, and no look of another finds anything.
use Rattle.std.proofs.Common.{◌≡◌, ◌∙◌, ◌⊎◌, inl, inr, ℕ, ◌+◌, ◌==◌, List, [], ◌∷◌, find, Bool, true, false, not, ◌&&◌, Option, Some, None, if◌then◌else◌, refl, sym, ap}
use Rattle.std.specs.Prelude.{is_none, option_map, Result, Ok, Err}
use Rattle.std.specs.List.{list_all}
use Rattle.std.specs.Option.{option_or}
use Rattle.rand_core.specs.Stream.{Stream}
use Rattle.dill_base.specs.declared.errno.Errno.{Errno}
use Rattle.dill_base.specs.declared.errno.Errno.TheVariants.{Ecanceled, Ebadf, Epipe}
use Rattle.dill_base.specs.Maps.{if_some, change}
use Rattle.dill_calls.specs.declared.answer.Answer.TheVariants.{Fault, Number, Chosen}
use Rattle.dill_calls.specs.declared.call.Call.{Call}
use Rattle.dill_calls.specs.declared.call.Call.TheVariants as calls
use Rattle.dill_calls.specs.declared.lists.Clause.{Clause}
use Rattle.dill_calls.specs.CallTable.{word_of, named_by, blocks, is_hclose}
use Rattle.dill_chan.specs.declared.end.Want.{Want}
use Rattle.dill_chan.specs.declared.end.Want.TheVariants.{Send, Recv}
use Rattle.dill_chan.specs.Channels.{Channels}
use Rattle.dill_chan.specs.Meetings.{has_ended}
use Rattle.dill_handles.specs.declared.entry.Entry.{Entry}
use Rattle.dill_scope.specs.Scopes as scopes
use Rattle.dill_scope.specs.Scopes.{Scopes}
use Rattle.dill_stack.specs.declared.parting.Parting.{Parting}
use Rattle.dill_stack.specs.declared.want.Want.{Want as Asked}
use Rattle.dill_stack.specs.Interface.{Held, drop_unread}
use Rattle.dill_rules.specs.declared.coroutine.Closing.{Closing}
use Rattle.dill_rules.specs.declared.coroutine.Coroutine.{Coroutine}
use Rattle.dill_rules.specs.declared.coroutine.Mode.TheVariants as modes
use Rattle.dill_rules.specs.declared.thing.Thing.{Thing}
use Rattle.dill_rules.specs.World.{World, is_coroutine, with_mode, pend, is_ending}
use Rattle.dill_rules.specs.Links.{Link, look, is_link, heated, with_stack, reserved}
use Rattle.dill_rules.specs.Kinds.{is_dead}
use Rattle.dill_rules.specs.Naming.{end_of_clause}
use Rattle.dill_rules.specs.Owning.{entry_of, is_dead_as}
use Rattle.dill_rules.specs.Taking.{bundle_of, bundle_named, is_cancelled}
use Rattle.dill_rules.specs.Sockets.{link_of, link_number, stack_of, on_link, on_named}
use Rattle.dill_rules.specs.Directions.{asked, parting_of}
use Rattle.dill_rules.specs.LinkAnswers.{stack_answer, link_answer}
use Rattle.dill_rules.specs.Linking.{if_ok, put, ask_stack, heat, reserve, enter_receive, dropped_for}
use Rattle.dill_rules.specs.Turning.{as_running}
use Rattle.dill_rules.specs.Answers.{when, want_of, end_of, end_named, when_empty, bundle_dead_as, clause_fault, choice_fault, own_answer, lost_its_number, answer_of}
use Rattle.dill_rules.specs.Settling.{IsSettled, can_finish, is_clear}
use Rattle.laws_queue.specs.Well.{Numbered}
use Rattle.laws_queue.proofs.Numbers.{numbered_change}
use Rattle.laws_looks.specs.Readers.{In, Pends}
use Rattle.laws_looks.specs.OneLook.{StirsOne, called}
use Rattle.laws_looks.proofs.Lists.{equal_is, unequal_is, or_none, none_or, find_none, in_change}
use Rattle.laws_looks.proofs.Quieted.{changed_is, changed_other, due_waits}
use Rattle.laws_looks.proofs.Between.{none_find, mark_answers}
use Rattle.laws_looks.proofs.Stirring.{CalmBut}

by_thing : {A : Type 0} (o : Option (Entry Thing)) (d : A) (f : Thing → A) → if_some o d (λ x. f x.thing) ≡ if_some (option_map (λ x. x.thing) o) d f
by_thing None d f = refl
by_thing (Some x) d f = refl

none_mapped : (o : Option (Entry Thing)) → is_none o ≡ is_none (option_map (λ x. x.thing) o)
none_mapped None = refl
none_mapped (Some x) = refl

module _ {V : Type 0} where
  -- two worlds in which the same numbers name the same things
  pub record Alike (w v : World V) : Type 0 where
    pub scopes : v.scopes ≡ w.scopes
    pub closings : v.closings ≡ w.closings
    pub channels : v.channels ≡ w.channels
    pub things : (n : ℕ) → option_map (λ x. x.thing) (entry_of v n) ≡ option_map (λ x. x.thing) (entry_of w n)

  module _ (w v : World V) (a : Alike w v) where
    same_thing : {A : Type 0} (n : ℕ) (d : A) (f : Thing → A) → if_some (entry_of v n) d (λ x. f x.thing) ≡ if_some (entry_of w n) d (λ x. f x.thing)
    same_thing n d f = by_thing (entry_of v n) d f ∙ ap (λ o. if_some o d f) (a.things n) ∙ sym (by_thing (entry_of w n) d f)

    pub same_link : (n : ℕ) → link_number v n ≡ link_number w n
    same_link n = same_thing n None link_of

    dead_alike : (n : ℕ) → is_dead v n ≡ is_dead w n
    dead_alike n = none_mapped (entry_of v n) ∙ ap is_none (a.things n) ∙ sym (none_mapped (entry_of w n))

    lost_alike : (call : Call) → lost_its_number v call ≡ lost_its_number w call
    lost_alike call = ap (λ b. not (is_hclose (word_of call)) && b) (at (named_by call))
      where
        at : (o : Option ℕ) → if_some o false (is_dead v) ≡ if_some o false (is_dead w)
        at None = refl
        at (Some n) = dead_alike n

    clause_alike : (n : ℕ) (want : Want) → clause_fault v n want ≡ clause_fault w n want
    clause_alike n want =
        ap (λ o. if_some o (Some Ebadf) (λ end. if has_ended v.channels end want then Some Epipe else None)) (same_thing n None end_of)
        ∙ ap (λ (c : Channels). if_some (end_named w n) (Some Ebadf) (λ end. if has_ended c end want then Some Epipe else None)) a.channels

    choice_alike : (index : ℕ) (all : List Clause) → choice_fault v index all ≡ choice_fault w index all
    choice_alike index [] = refl
    choice_alike index (x ∷ xs) =
        ap (λ o. if_some o (choice_fault v (index + 1) xs) (λ e. Some (Chosen index (Some e) None))) (clause_alike (end_of_clause x) (want_of x))
        ∙ ap (λ o. if_some (clause_fault w (end_of_clause x) (want_of x)) o (λ e. Some (Chosen index (Some e) None))) (choice_alike (index + 1) xs)

    empty_alike : (o : Option ℕ) → when_empty v o ≡ when_empty w o
    empty_alike o = ap (λ (s : Scopes). if_some o None (λ name. when (scopes.is_empty s name) (Number 0))) a.scopes

    own_alike : (call : Call) → (link_answer w call ≡ None → link_answer v call ≡ None) → own_answer w call ≡ None → own_answer v call ≡ None
    own_alike (calls.BundleWait number deadline) h e = ap (when_empty v) (same_thing number None bundle_of) ∙ empty_alike (bundle_named w number) ∙ e
    own_alike (calls.Hclose number) h e = ap (λ (ks : List Closing). when_empty v (if_some (find (is_dead_as number) ks) None (λ x. Some x.bundle))) a.closings ∙ empty_alike (bundle_dead_as w number) ∙ e
    own_alike (calls.Chsend number bytes deadline) h e = ap (λ o. if_some o None (λ x. Some (Fault x))) (clause_alike number (Send bytes)) ∙ e
    own_alike (calls.Chrecv number size deadline) h e = ap (λ o. if_some o None (λ x. Some (Fault x))) (clause_alike number (Recv size)) ∙ e
    own_alike (calls.Choose deadline all) h e = choice_alike 0 all ∙ e
    own_alike call h e = h e

    none_alike : (who : ℕ) (call : Call) → (link_answer w call ≡ None → link_answer v call ≡ None) → answer_of w who call ≡ None → answer_of v who call ≡ None
    none_alike who call h e =
        let one = or_none (when (blocks (word_of call) && is_cancelled w who) (Fault Ecanceled)) (option_or (when (lost_its_number w call) (Fault Ebadf)) (own_answer w call)) e in
        let two = or_none (when (lost_its_number w call) (Fault Ebadf)) (own_answer w call) one.1 in
        none_or (when (blocks (word_of call) && is_cancelled v who) (Fault Ecanceled)) (option_or (when (lost_its_number v call) (Fault Ebadf)) (own_answer v call))
        (ap (λ (s : Scopes). when (blocks (word_of call) && scopes.is_cancelled s who) (Fault Ecanceled)) a.scopes ∙ one.0)
        (none_or (when (lost_its_number v call) (Fault Ebadf)) (own_answer v call) (ap (λ b. when b (Fault Ebadf)) (lost_alike call) ∙ two.0) (own_alike call h two.1))

    clear_alike : (n : ℕ) → is_clear v n ≡ is_clear w n
    clear_alike n = ap (λ (s : Scopes). list_all (scopes.is_empty s) (scopes.bundles_of s n)) a.scopes

  -- what the entry of a call leaves: nobody else stands elsewhere or is answered
  pub record Joins (w v : World V) (who : ℕ) (call : Call) : Type 0 where
    pub alike : Alike w v
    pub others : (d : Coroutine V) → In d v.coroutines → (d.number ≡ who → ⊥) → In d w.coroutines
    pub own : (d : Coroutine V) → In d v.coroutines → d.number ≡ who → d.mode ≡ modes.Pending call
    pub numbered : Numbered 0 v.coroutines v.last_coroutine
    pub links : (other : ℕ) (more : Call) → Pends w other more → (other ≡ who → ⊥) → link_answer w more ≡ None → link_answer v more ≡ None

  pub joins_pends : (w v : World V) (who : ℕ) (call : Call) → Joins w v who call → (other : ℕ) (more : Call) → Pends v other more → (other ≡ who → ⊥) → Pends w other more
  joins_pends w v who call j other more p ne = record { one = p.one; there = j.others p.one p.there (λ same. ne (sym p.number ∙ same)); number = p.number; mode = p.mode }

  pub joins_stirs : (w v : World V) (who : ℕ) (call : Call) → IsSettled w → Joins w v who call → CalmBut v who → StirsOne v who
  joins_stirs w v who call s j calm = record {
    endings = none_find (can_finish v) v.coroutines (λ d i. finishes d i (d.number == who) refl);
    waits = λ d more i ne e. none_alike w v j.alike d.number more (j.links d.number more (record { one = d; there = j.others d i ne; number = refl; mode = e }) ne) (due_waits w s.answers d (j.others d i ne) more e);
    calm = calm;
  }
    where
      finishes : (d : Coroutine V) → In d v.coroutines → (b : Bool) → (d.number == who) ≡ b → can_finish v d ≡ false
      finishes d i true e = ap (λ m. is_ending m && is_clear v d.number) (j.own d i (equal_is d.number who e))
      finishes d i false e = ap (λ b. is_ending d.mode && b) (clear_alike w v j.alike d.number) ∙ find_none (can_finish w) w.coroutines s.endings d (j.others d i (unequal_is d.number who e))

  changed_others : (who : ℕ) (f : Coroutine V → Coroutine V) (cs : List (Coroutine V)) (d : Coroutine V) → ((c : Coroutine V) → (f c).number ≡ c.number) → In d (change (is_coroutine who) f cs) → (d.number ≡ who → ⊥) → In d cs
  changed_others who f cs d same i ne = at (in_change (is_coroutine who) f cs d i)
    where
      at : In d cs ⊎ ((c : Coroutine V) × (is_coroutine who c ≡ true) × (d ≡ f c)) → In d cs
      at (inl j) = j
      at (inr r) = absurd (ne (ap (λ (x : Coroutine V). x.number) r.2 ∙ same r.0 ∙ equal_is r.0.number who r.1))

  -- ---- what a call does before it is pending, to its own stack alone

  -- the links but that of the call are as they were, and so are all others
  pub record Near (w u : World V) (who : ℕ) (call : Call) : Type 0 where
    pub alike : Alike w u
    pub others : (d : Coroutine V) → In d u.coroutines → (d.number ≡ who → ⊥) → In d w.coroutines
    pub numbered : Numbered 0 u.coroutines u.last_coroutine
    pub beside : (k : ℕ) → ((n : ℕ) → named_by call ≡ Some n → link_number w n ≡ Some k → ⊥) → look u.links k ≡ look w.links k

  near_named : (w u : World V) (who : ℕ) (call : Call) (n : ℕ) (f : Link → Link) → ((x : Link) → (f x).number ≡ x.number) → named_by call ≡ Some n → Near w u who call → Near w (on_named u n f) who call
  near_named w u who call n f same e near = at (link_number u n) refl
    where
      at : (o : Option ℕ) → link_number u n ≡ o → Near w (if_some o u (λ l. on_link u l f)) who call
      at None g = near
      at (Some l) g = record {
        alike = record { scopes = near.alike.scopes; closings = near.alike.closings; channels = near.alike.channels; things = near.alike.things };
        others = near.others;
        numbered = near.numbered;
        beside = λ k none. by k none (k == l) refl;
      }
        where
          by : (k : ℕ) → ((m : ℕ) → named_by call ≡ Some m → link_number w m ≡ Some k → ⊥) → (b : Bool) → (k == l) ≡ b → find (is_link k) (change (is_link l) f u.links.all) ≡ look w.links k
          by k none true h = absurd (none n e (sym (same_link w u near.alike n) ∙ g ∙ ap Some (sym (equal_is k l h))))
          by k none false h = changed_other f same l k u.links.all h ∙ near.beside k none

  near_random : (w u : World V) (who : ℕ) (call : Call) (random : Stream) → Near w u who call → Near w (record u { random = random }) who call
  near_random w u who call random near = record {
    alike = record { scopes = near.alike.scopes; closings = near.alike.closings; channels = near.alike.channels; things = near.alike.things };
    others = near.others;
    numbered = near.numbered;
    beside = near.beside;
  }

  pub near_heat : (w u : World V) (who : ℕ) (call : Call) (read write : Bool) → Near w u who call → Near w (heat u call read write) who call
  near_heat w u who call read write near = at (named_by call) refl
    where
      at : (o : Option ℕ) → named_by call ≡ o → Near w (if_some o u (λ n. on_named u n (heated read write))) who call
      at None e = near
      at (Some n) e = near_named w u who call n (heated read write) (λ x. refl) e near

  pub near_ask : (w u : World V) (who : ℕ) (call : Call) (f : Stream → Held → Result (Held × Stream) Errno) → Near w u who call → Near w (ask_stack u call f) who call
  near_ask w u who call f near = at (named_by call) refl (stack_of u call)
    where
      given : (n : ℕ) → named_by call ≡ Some n → (r : Result (Held × Stream) Errno) → Near w (if_ok r u (put u n)) who call
      given n e (Ok now) = near_random w (on_named u n (with_stack (λ old. now.0))) who call now.1 (near_named w u who call n (with_stack (λ old. now.0)) (λ x. refl) e near)
      given n e (Err x) = near

      at : (o : Option ℕ) → named_by call ≡ o → (q : Option Held) → Near w (if_some o u (λ n. if_some q u (λ s. if_ok (f u.random s) u (put u n)))) who call
      at None e q = near
      at (Some n) e None = near
      at (Some n) e (Some s) = given n e (f u.random s)

  pub near_dropped : (w u : World V) (who : ℕ) (call : Call) → Near w u who call → Near w (dropped_for u call) who call
  near_dropped w u who call near = at (parting_of call) (named_by call) refl
    where
      at : (p : Option Parting) (o : Option ℕ) → named_by call ≡ o → Near w (if_some p (if_some o u (λ n. on_named u n (with_stack drop_unread))) (λ parting. u)) who call
      at (Some p) o e = near
      at None None e = near
      at None (Some n) e = near_named w u who call n (with_stack drop_unread) (λ x. refl) e near

  -- ---- the call is pending

  pub near_called : (w : World V) (who : ℕ) (view : V) (call : Call) → Numbered 0 w.coroutines w.last_coroutine → Near w (called w who view call) who call
  near_called w who view call numbered = record {
    alike = record { scopes = refl; closings = refl; channels = refl; things = λ n. refl };
    others = λ d i ne. changed_others who (as_running view) w.coroutines d (λ x. refl) i ne;
    numbered = numbered_change (is_coroutine who) (as_running view) w.coroutines 0 w.last_coroutine (λ d. refl) numbered;
    beside = λ k none. refl;
  }

  pub near_joins : (w u : World V) (who : ℕ) (call : Call) → Near w u who call → ((other : ℕ) (more : Call) → Pends w other more → (other ≡ who → ⊥) → link_answer w more ≡ None → link_answer u more ≡ None) → Joins w (pend u who call) who call
  near_joins w u who call near links = record {
    alike = record { scopes = near.alike.scopes; closings = near.alike.closings; channels = near.alike.channels; things = near.alike.things };
    others = λ d i ne. near.others d (changed_others who (with_mode (modes.Pending call)) u.coroutines d (λ x. refl) i ne) ne;
    own = λ d i e. ap (λ (x : Coroutine V). x.mode) (changed_is 0 u.last_coroutine who (with_mode (modes.Pending call)) (λ x. refl) u.coroutines d near.numbered i e).1;
    numbered = numbered_change (is_coroutine who) (with_mode (modes.Pending call)) u.coroutines 0 u.last_coroutine (λ d. refl) near.numbered;
    links = links;
  }

  -- a receive, which sets marks at its link
  marked_none : (u : World V) (n : ℕ) (mark : Link → Link) → ((x : Link) → (mark x).number ≡ x.number) → (more : Call) → ((x : Link) → stack_answer more u.random (mark x) ≡ stack_answer more u.random x) → link_answer u more ≡ None → link_answer (on_named u n mark) more ≡ None
  marked_none u n mark number more same e = at (link_number u n)
    where
      at : (o : Option ℕ) → link_answer (if_some o u (λ l. on_link u l mark)) more ≡ None
      at None = e
      at (Some l) = mark_answers u l mark more number same e

  module _ (w : World V) (who : ℕ) (view : V) (call : Call) (numbered : Numbered 0 w.coroutines w.last_coroutine) where
    abbrev k : World V
    k = called w who view call

    near_reserve : Near w (reserve k call) who call
    near_reserve = at (named_by call) refl (asked call)
      where
        at : (o : Option ℕ) → named_by call ≡ o → (q : Option Asked) → Near w (if_some o k (λ n. if_some q k (λ want. on_named k n (reserved want)))) who call
        at (Some n) e (Some want) = near_named w k who call n (reserved want) (λ x. refl) e (near_called w who view call numbered)
        at (Some n) e None = near_called w who view call numbered
        at None e q = near_called w who view call numbered

    reserved_none : (more : Call) → link_answer w more ≡ None → link_answer (reserve k call) more ≡ None
    reserved_none more e = at (named_by call) (asked call)
      where
        at : (o : Option ℕ) (q : Option Asked) → link_answer (if_some o k (λ n. if_some q k (λ want. on_named k n (reserved want)))) more ≡ None
        at (Some n) (Some want) = marked_none k n (reserved want) (λ x. refl) more (λ x. refl) e
        at (Some n) None = e
        at None q = e

    pub receive_joins : Joins w (enter_receive k who call) who call
    receive_joins = near_joins w (heat (reserve k call) call true false) who call (near_heat w (reserve k call) who call true false near_reserve) (λ other more p ne e. at (named_by call) more (reserved_none more e))
      where
        at : (o : Option ℕ) (more : Call) → link_answer (reserve k call) more ≡ None → link_answer (if_some o (reserve k call) (λ n. on_named (reserve k call) n (heated true false))) more ≡ None
        at None more e = e
        at (Some n) more e = marked_none (reserve k call) n (heated true false) (λ x. refl) more (λ x. refl) e
