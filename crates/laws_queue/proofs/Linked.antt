-- What the calls of channels and links do besides: the coroutines stay as they are.
use Rattle.std.proofs.Common.{◌+◌, ℕ, List, [], ◌∷◌, find, Bool, true, false, if◌then◌else◌, refl}
use Rattle.dill_calls.specs.declared.call.Call.{Call}
use Rattle.dill_calls.specs.declared.lists.Clause.{Clause}
use Rattle.dill_calls.specs.CallTable.{named_by}
use Rattle.dill_handles.specs.Handles as handles
use Rattle.dill_base.specs.Maps.{if_some}
use Rattle.dill_stack.specs.Interface.{attach}
use Rattle.dill_rules.specs.World.{World}
use Rattle.dill_rules.specs.Links.{as_closing}
use Rattle.dill_rules.specs.Links as link
use Rattle.dill_rules.specs.Owning.{entry_of, take_thing, take, move, release}
use Rattle.dill_rules.specs.Naming.{end_of_clause}
use Rattle.dill_rules.specs.Answers.{end_named}
use Rattle.dill_rules.specs.Directions.{layer_of}
use Rattle.dill_rules.specs.Sockets.{on_link}
use Rattle.dill_rules.specs.Linking.{with_random, put_layer, attach_layer}
use Rattle.dill_rules.specs.Channeling.{wait_at, wait_all}
use Rattle.dill_rules.specs.Giving.{is_connecting_for, forgo}
use Rattle.laws_queue.proofs.Besides.{besides_crew, ask_stack_besides}
use Rattle.laws_queue.proofs.Crew.{SameCrew, no_change, crew_then, some_crew, take_thing_crew, move_crew, release_crew}

module _ {V : Type 0} where
  pub if_crew : (b : Bool) (w v u : World V) → SameCrew w v → SameCrew w u → SameCrew w (if b then v else u)
  if_crew true w v u e f = e
  if_crew false w v u e f = f

  pub take_crew : (w : World V) (number owner : ℕ) → SameCrew w (take w number owner)
  take_crew w number owner =
      some_crew (entry_of w number) w w (λ x. take_thing (record w { handles = handles.set_owner w.handles number owner }) x.thing owner) (no_change w)
      (λ x. let t = take_thing_crew (record w { handles = handles.set_owner w.handles number owner }) x.thing owner in record { coroutines = t.coroutines; last = t.last })

  -- the caller becomes the owner of what the call names
  pub take_named_crew : (w : World V) (call : Call) (who : ℕ) → SameCrew w (if_some (named_by call) w (λ number. take w number who))
  take_named_crew w call who = some_crew (named_by call) w w (λ number. take w number who) (no_change w) (λ number. take_crew w number who)

  -- the stack that the call names is released, and what was kept is given back
  pub release_named_crew : (w : World V) (call : Call) (kept : ℕ) → SameCrew w (if_some (named_by call) w (λ number. release (record w { handles = handles.unkeep w.handles kept }) number))
  release_named_crew w call kept =
      some_crew (named_by call) w w (λ number. release (record w { handles = handles.unkeep w.handles kept }) number) (no_change w)
      (λ number. let t = release_crew (record w { handles = handles.unkeep w.handles kept }) number in record { coroutines = t.coroutines; last = t.last })

  -- a layer is put on the call's stack, and its socket has a new number
  pub attach_crew : (w : World V) (who : ℕ) (call : Call) → SameCrew w (attach_layer w who call)
  attach_crew w who call =
      some_crew (named_by call) w w (λ number. if_some (layer_of call) w (λ layer. move (put_layer w call layer) number who)) (no_change w)
      (λ number. some_crew (layer_of call) w w (λ layer. move (put_layer w call layer) number who) (no_change w)
      (λ layer. crew_then w (put_layer w call layer) (move (put_layer w call layer) number who) (besides_crew (ask_stack_besides w call (λ random s. with_random random (attach layer s)))) (move_crew (put_layer w call layer) number who)))

  pub forgo_crew : (w : World V) (who : ℕ) → SameCrew w (forgo w who)
  forgo_crew w who =
      let less : World V = record w { handles = handles.unkeep w.handles 1 } in
      some_crew (find (is_connecting_for who) w.links.all) w (record less { links = link.unkeep w.links }) (λ x. on_link less x.number as_closing)
      (record { coroutines = refl; last = refl }) (λ x. record { coroutines = refl; last = refl })

  wait_at_crew : (w : World V) (who index : ℕ) (x : Clause) → SameCrew w (wait_at w who index x)
  wait_at_crew w who index x = some_crew (end_named w (end_of_clause x)) w w (λ end. _) (no_change w) (λ end. record { coroutines = refl; last = refl })

  pub wait_all_crew : (w : World V) (who index : ℕ) (xs : List Clause) → SameCrew w (wait_all w who index xs)
  wait_all_crew w who index [] = no_change w
  wait_all_crew w who index (x ∷ xs) = crew_then w (wait_at w who index x) (wait_all (wait_at w who index x) who (index + 1) xs) (wait_at_crew w who index x) (wait_all_crew (wait_at w who index x) who (index + 1) xs)
