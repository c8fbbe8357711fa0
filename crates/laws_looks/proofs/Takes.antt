-- As a handshake, a detach or `tcp_close` is entered, nothing is due but of the caller, and no look of another finds anything.
use Rattle.std.proofs.Common.{◌≡◌, ◌∙◌, inl, inr, ℕ, ◌==◌, List, [], ◌∷◌, find, cond, Bool, true, false, not, ◌||◌, Option, Some, None, if◌then◌else◌, refl, sym, ap, subst}
use Rattle.std.specs.Prelude.{option_map}
use Rattle.std.specs.List.{list_any}
use Rattle.std.proofs.lemmas.Bool.{or_parts, or_right}
use Rattle.dill_base.specs.declared.errno.Errno.{Errno}
use Rattle.dill_base.specs.declared.errno.Errno.TheVariants as errnos
use Rattle.dill_base.specs.Maps.{if_some, change}
use Rattle.dill_calls.specs.declared.call.Call.{Call}
use Rattle.dill_calls.specs.declared.call.Call.TheVariants as calls
use Rattle.dill_calls.specs.CallTable.{word_of, named_by, blocks, gives_up}
use Rattle.dill_calls.specs.Program.{Program}
use Rattle.dill_handles.specs.Handles as handles
use Rattle.dill_handles.specs.declared.entry.Entry.{Entry}
use Rattle.dill_stack.specs.declared.layer.Top.{Top}
use Rattle.dill_stack.specs.declared.parting.Parting.{Parting}
use Rattle.dill_stack.specs.Interface.{detach_start}
use Rattle.dill_stack.specs.Again.{LooksAgain}
use Rattle.dill_rules.specs.declared.thing.Thing.{Thing}
use Rattle.dill_rules.specs.declared.thing.Thing.TheVariants as things
use Rattle.dill_rules.specs.World.{World, pend}
use Rattle.dill_rules.specs.Links.{Link, look}
use Rattle.dill_rules.specs.Kinds.{kind_of, is_of_kind, kind_needed, has_top, is_other_kind, is_other_top, names_other}
use Rattle.dill_rules.specs.Naming.{chosen}
use Rattle.dill_rules.specs.Owning.{entry_of, take_thing, take}
use Rattle.dill_rules.specs.Refusals.{holds, order, giving_order, is_refused_by_stack, refuse}
use Rattle.dill_rules.specs.Sockets.{link_number, link_named}
use Rattle.dill_rules.specs.Directions.{is_handshake, parting_of, needs_top}
use Rattle.dill_rules.specs.LinkAnswers.{is_on_stack, stack_answer, link_answer}
use Rattle.dill_rules.specs.Linking.{ask_stack, heat, greet_by, enter_receive, enter_handshake, begin_detach, begin_giving_up}
use Rattle.dill_rules.specs.Settling.{settle}
use Rattle.dill_rules.specs.Turning.{resume}
use Rattle.dill_rules.specs.Lookless.{look_once, settle_lookless}
use Rattle.laws_queue.specs.Well.{Numbered}
use Rattle.laws_sound.specs.Order.{IsInOrder}
use Rattle.laws_looks.specs.Readers.{Pends, LooksApart}
use Rattle.laws_looks.specs.Calm.{IsCalm}
use Rattle.laws_looks.specs.OneLook.{called, taken_for, OneLookEnters}
use Rattle.laws_looks.proofs.Lists.{find_none}
use Rattle.laws_looks.proofs.Fewer.{named_once}
use Rattle.laws_looks.proofs.Quieted.{answer_blind}
use Rattle.laws_looks.proofs.Beside.{AnyCall}
use Rattle.laws_looks.proofs.Enters.{takes_it, fits}
use Rattle.laws_looks.proofs.Stirred.{stirred}
use Rattle.laws_looks.proofs.Entered.{same_link, Joins, joins_pends, joins_stirs, Near, near_called, near_heat, near_ask, near_dropped, near_joins, receive_joins}
use Rattle.laws_looks.proofs.Others.{still_pends, any_calm, alone_calm, receive_beside, handshake_beside, begun_beside}
use Rattle.laws_looks.proofs.Stirring.{CalmBut}

module _ {T : Type 0} where
  -- another owner changes no thing
  owner_alike : (n m owner : ℕ) (es : List (Entry T)) → option_map (λ (x : Entry T). x.thing) (find (handles.is_entry m) (change (handles.is_entry n) (handles.with_owner owner) es)) ≡ option_map (λ (x : Entry T). x.thing) (find (handles.is_entry m) es)
  owner_alike n m owner [] = refl
  owner_alike n m owner (x ∷ es) = at (handles.is_entry n x) (owner_alike n m owner es)
    where
      here : (b : Bool) → option_map (λ (y : Entry T). y.thing) (cond b (Some (handles.with_owner owner x)) (find (handles.is_entry m) es)) ≡ option_map (λ (y : Entry T). y.thing) (cond b (Some x) (find (handles.is_entry m) es))
      here true = refl
      here false = refl

      there : (b : Bool) (p q : Option (Entry T)) → option_map (λ (y : Entry T). y.thing) p ≡ option_map (λ (y : Entry T). y.thing) q → option_map (λ (y : Entry T). y.thing) (cond b (Some x) p) ≡ option_map (λ (y : Entry T). y.thing) (cond b (Some x) q)
      there true p q e = refl
      there false p q e = e

      at : (a : Bool) → option_map (λ (y : Entry T). y.thing) (find (handles.is_entry m) (change (handles.is_entry n) (handles.with_owner owner) es)) ≡ option_map (λ (y : Entry T). y.thing) (find (handles.is_entry m) es)
          → option_map (λ (y : Entry T). y.thing) (find (handles.is_entry m) (cond a (handles.with_owner owner x ∷ es) (x ∷ change (handles.is_entry n) (handles.with_owner owner) es))) ≡ option_map (λ (y : Entry T). y.thing) (cond (handles.is_entry m x) (Some x) (find (handles.is_entry m) es))
      at true e = here (handles.is_entry m x)
      at false e = there (handles.is_entry m x) (find (handles.is_entry m) (change (handles.is_entry n) (handles.with_owner owner) es)) (find (handles.is_entry m) es) e

not_other : (f : Errno → Bool) (b : Bool) → find f (if b then giving_order else order) ≡ None → f errnos.Enotsup ≡ false
not_other f true e = find_none f giving_order e errnos.Enotsup (inr (inl refl))
not_other f false e = find_none f order e errnos.Enotsup (inr (inr (inl refl)))

not_false : (b : Bool) → not b ≡ false → b ≡ true
not_false true e = refl
not_false false e = cc

-- what is taken with its number alone
pub data Bare (V : Type 0) (thing : Thing) : Type 0 where
  bare : ((u : World V) (owner : ℕ) → take_thing u thing owner ≡ u) → Bare V thing

module _ {V : Type 0} where
  kind_bare : (w : World V) (thing : Thing) (kind : ℕ) → ((1 == kind) ≡ false) → (kind_of w thing == kind) ≡ true → Bare V thing
  kind_bare w (things.Bundle name) kind n e = cc
  kind_bare w (things.End end) kind n e = bare (λ u owner. refl)
  kind_bare w (things.Listener l) kind n e = bare (λ u owner. refl)
  kind_bare w (things.Socket l) kind n e = bare (λ u owner. refl)
  kind_bare w (things.Value k v) kind n e = bare (λ u owner. refl)

  top_bare : (w : World V) (test : Top → Bool) (thing : Thing) → has_top w test thing ≡ true → Bare V thing
  top_bare w test (things.Socket l) e = bare (λ u owner. refl)
  top_bare w test thing e = cc

  -- its number names a socket
  bare_kind : (w : World V) (call : Call) (n : ℕ) (x : Entry Thing) → named_by call ≡ Some n → entry_of w n ≡ Some x → kind_needed call ≡ Some 4 → is_other_kind w call ≡ false → Bare V x.thing
  bare_kind w call n x e f k o =
      let it : not (kind_of w x.thing == 4) ≡ false =
      sym (ap (λ q. if_some q false (λ number. if_some (kind_needed call) false (λ kind. not (is_of_kind w kind number)))) e
      ∙ ap (λ q. if_some q false (λ kind. not (is_of_kind w kind n))) k
      ∙ ap (λ q. not (if_some q false (λ y. kind_of w y.thing == 4))) f) ∙ o in
      kind_bare w x.thing 4 refl (not_false (kind_of w x.thing == 4) it)

  bare_top : (w : World V) (call : Call) (n : ℕ) (x : Entry Thing) (test : Top → Bool) → named_by call ≡ Some n → entry_of w n ≡ Some x → needs_top call ≡ Some test → is_other_top w call ≡ false → Bare V x.thing
  bare_top w call n x test e f k o =
      let it : not (has_top w test x.thing) ≡ false =
      sym (ap (λ q. if_some q false (λ number. if_some (needs_top call) false (λ t. if_some (entry_of w number) false (λ y. not (has_top w t y.thing))))) e
      ∙ ap (λ q. if_some q false (λ t. if_some (entry_of w n) false (λ y. not (has_top w t y.thing)))) k
      ∙ ap (λ q. if_some q false (λ y. not (has_top w test y.thing))) f) ∙ o in
      top_bare w test x.thing (not_false (has_top w test x.thing) it)

  bare_call : (w : World V) (call : Call) (n : ℕ) (x : Entry Thing) → named_by call ≡ Some n → entry_of w n ≡ Some x → (is_handshake (word_of call) || gives_up (word_of call)) ≡ true → is_other_kind w call ≡ false → is_other_top w call ≡ false → Bare V x.thing
  bare_call w (calls.TcpClose m deadline) n x e f t k o = bare_kind w (calls.TcpClose m deadline) n x e f refl k
  bare_call w (calls.WsAttachClient m text resource host deadline) n x e f t k o = bare_kind w (calls.WsAttachClient m text resource host deadline) n x e f refl k
  bare_call w (calls.WsAttachServer m text deadline) n x e f t k o = bare_kind w (calls.WsAttachServer m text deadline) n x e f refl k
  bare_call w (calls.PrefixDetach m) n x e f t k o = bare_top w (calls.PrefixDetach m) n x _ e f refl o
  bare_call w (calls.SuffixDetach m) n x e f t k o = bare_top w (calls.SuffixDetach m) n x _ e f refl o
  bare_call w (calls.TermDetach m deadline) n x e f t k o = bare_top w (calls.TermDetach m deadline) n x _ e f refl o
  bare_call w (calls.HttpDetach m deadline) n x e f t k o = bare_top w (calls.HttpDetach m deadline) n x _ e f refl o
  bare_call w (calls.WsDetach m code reason deadline) n x e f t k o = bare_top w (calls.WsDetach m code reason deadline) n x _ e f refl o
  bare_call w call n x e f t k o = cc

  -- the caller takes it
  near_take : (w u : World V) (who : ℕ) (call : Call) (n : ℕ) → ((x : Entry Thing) → entry_of u n ≡ Some x → Bare V x.thing) → Near w u who call → Near w (take u n who) who call
  near_take w u who call n plain near = at (entry_of u n) refl
    where
      there : Near w (record u { handles = handles.set_owner u.handles n who }) who call
      there = record {
        alike = record { scopes = near.alike.scopes; closings = near.alike.closings; channels = near.alike.channels; things = λ m. owner_alike n m who u.handles.entries ∙ near.alike.things m };
        others = near.others;
        numbered = near.numbered;
        beside = near.beside;
      }

      by : (x : Entry Thing) → Bare V x.thing → Near w (take_thing (record u { handles = handles.set_owner u.handles n who }) x.thing who) who call
      by x (bare h) = subst (λ z. Near w z who call) (sym (h (record u { handles = handles.set_owner u.handles n who }) who)) there

      at : (o : Option (Entry Thing)) → entry_of u n ≡ o → Near w (if_some o u (λ x. take_thing (record u { handles = handles.set_owner u.handles n who }) x.thing who)) who call
      at None e = near
      at (Some x) e = by x (plain x e)

  -- ---- the call is pending, and nobody else on its number

  abbrev Alone : World V → ℕ → Call → Type 0
  Alone w who call = (other : ℕ) (more : Call) (n : ℕ) → Pends w other more → (other ≡ who → ⊥) → named_by call ≡ Some n → named_by more ≡ Some n → ⊥

  alone_joins : (w u : World V) (who : ℕ) (call : Call) → IsCalm w → Near w u who call → Alone w who call → Joins w (pend u who call) who call
  alone_joins w u who call c near alone = near_joins w u who call near links
    where
      links : (other : ℕ) (more : Call) → Pends w other more → (other ≡ who → ⊥) → link_answer w more ≡ None → link_answer u more ≡ None
      links other more p ne e = at (is_on_stack (word_of more)) (named_by more) refl e
        where
          blind : (q : Option Link) → if_some q None (stack_answer more w.random) ≡ None → if_some q None (stack_answer more u.random) ≡ None
          blind None h = refl
          blind (Some x) h = answer_blind more u.random w.random x ∙ h

          by : (n : ℕ) → named_by more ≡ Some n → (q : Option ℕ) → link_number w n ≡ q → if_some (if_some q None (look w.links)) None (stack_answer more w.random) ≡ None → if_some (if_some q None (look u.links)) None (stack_answer more u.random) ≡ None
          by n g None h i = refl
          by n g (Some k) h i =
              ap (λ (q : Option Link). if_some q None (stack_answer more u.random)) (near.beside k (λ m f j. alone other more n p ne (f ∙ ap Some (named_once w c.apart m n k j h)) g))
              ∙ blind (look w.links k) i

          at : (b : Bool) (q : Option ℕ) → named_by more ≡ q → (if b then if_some q None (λ number. if_some (link_named w number) None (stack_answer more w.random)) else None) ≡ None → (if b then if_some q None (λ number. if_some (link_named u number) None (stack_answer more u.random)) else None) ≡ None
          at false q g h = refl
          at true None g h = refl
          at true (Some n) g h = ap (λ q. if_some (if_some q None (look u.links)) None (stack_answer more u.random)) (same_link w u near.alike n) ∙ by n g (link_number w n) refl h

  -- ---- the calls

  module _ (p : Program V) (w : World V) (who : ℕ) (view : V) (call : Call) (numbered : Numbered 0 w.coroutines w.last_coroutine) (c : IsCalm w) (free : refuse p (resume w who view) who view call ≡ None) (takes : (is_handshake (word_of call) || gives_up (word_of call)) ≡ true) where
    alone_there : Alone w who call
    alone_there other more n q ne e f = (fits p (resume w who view) who view call free).taker n other more (still_pends w who view other more q ne) (takes_it call n e takes) e f

    not_others : (is_other_kind (resume w who view) call ≡ false) × (is_other_top (resume w who view) call ≡ false)
    not_others =
        let r = resume w who view in
        let one = or_parts (names_other r call) (is_refused_by_stack r call errnos.Enotsup) (not_other (holds p r who view call) (gives_up (word_of call)) free) in
        let two = or_parts (is_other_kind r call) (is_other_top r call || list_any (λ number. not (is_of_kind r 2 number)) (chosen call)) one.0 in
        (two.0, (or_parts (is_other_top r call) (list_any (λ number. not (is_of_kind r 2 number)) (chosen call)) two.1).0)

    near_taken : Near w (if_some (named_by call) (called w who view call) (λ number. take (called w who view call) number who)) who call
    near_taken = at (named_by call) refl
      where
        at : (q : Option ℕ) → named_by call ≡ q → Near w (if_some q (called w who view call) (λ number. take (called w who view call) number who)) who call
        at None e = near_called w who view call numbered
        at (Some n) e = near_take w (called w who view call) who call n (λ x f. bare_call (resume w who view) call n x e f takes not_others.0 not_others.1) (near_called w who view call numbered)

    pub handshake_joins : Joins w (enter_handshake (called w who view call) who call) who call
    handshake_joins =
        let k = called w who view call in
        let taken = if_some (named_by call) k (λ number. take k number who) in
        let asked = ask_stack taken call (greet_by call) in
        alone_joins w (heat asked call true true) who call c (near_heat w asked who call true true (near_ask w taken who call (greet_by call) near_taken)) alone_there

    pub giving_joins : Joins w (begin_giving_up (taken_for (called w who view call) who call) who call) who call
    giving_joins = at (parting_of call)
      where
        near_own : Near w (taken_for (called w who view call) who call) who call
        near_own = near_dropped w (if_some (named_by call) (called w who view call) (λ number. take (called w who view call) number who)) who call near_taken

        at : (q : Option Parting) → Joins w (let own = taken_for (called w who view call) who call in if_some q (pend (heat own call true true) who call) (begin_detach own who call)) who call
        at None =
            let own = taken_for (called w who view call) who call in
            alone_joins w (heat own call true true) who call c (near_heat w own who call true true near_own) alone_there
        at (Some parting) =
            let own = taken_for (called w who view call) who call in
            let b = blocks (word_of call) in
            let asked = ask_stack own call (λ random s. detach_start parting random s) in
            alone_joins w (heat asked call b b) who call c (near_heat w asked who call b b (near_ask w own who call (λ random s. detach_start parting random s) near_own)) alone_there

module _ {V : Type 0} (p : Program V) (laws : LooksAgain) where
  -- who joins looks, and no other look finds anything
  joined_once : (w v u : World V) (who : ℕ) (view : V) (call : Call) → u ≡ v → IsInOrder w → IsCalm w → IsInOrder u → LooksApart u → Joins w v who call → ((pends : (other : ℕ) (more : Call) → Pends v other more → (other ≡ who → ⊥) → Pends w other more) → CalmBut v who) → settle u ≡ settle_lookless (look_once u who)
  joined_once w v u who view call is o c g a j calm =
      subst (λ z. settle z ≡ settle_lookless (look_once z who)) (sym is)
      (stirred laws v who (subst IsInOrder is g) (subst LooksApart is a) (joins_stirs w v who call c.settled j (calm (joins_pends w v who call j))))

  pub one_look_enters : OneLookEnters p
  one_look_enters = record {
    receives = λ w who view call v is o c g a. let u = enter_receive (called w who view call) who call in
        joined_once w u v who view call is o c g a (receive_joins w who view call o.fits.numbered) (λ pends. any_calm w u who o c pends (receive_beside AnyCall (called w who view call) who call));
    handshakes = λ w who view call v is o c free h g a.
        let u = enter_handshake (called w who view call) who call in
        let t : (is_handshake (word_of call) || gives_up (word_of call)) ≡ true = ap (λ b. b || gives_up (word_of call)) h in
        joined_once w u v who view call is o c g a (handshake_joins p w who view call o.fits.numbered c free t) (λ pends. alone_calm p w who view call o c free t u pends (handshake_beside p w who view call o c free));
    gives_up = λ w who view call v is o c free h g a.
        let u = begin_giving_up (taken_for (called w who view call) who call) who call in
        let t : (is_handshake (word_of call) || gives_up (word_of call)) ≡ true = or_right (is_handshake (word_of call)) (gives_up (word_of call)) h in
        joined_once w u v who view call is o c g a (giving_joins p w who view call o.fits.numbered c free t) (λ pends. alone_calm p w who view call o c free t u pends (begun_beside p w who view call o c free));
  }
