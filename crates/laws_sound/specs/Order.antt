-- Worlds in order: what holds together of coroutines, handles, bundles and closings, between all steps.
use Rattle.std.specs.Prelude.{◌≡◌, ℕ, ◌+◌, ◌≤◌, ◌==◌, length, map, find, filter_map, Bool, true, false, not, ◌&&◌, Option, Some, None, is_some, is_none, nat_le}
use Rattle.std.specs.List.{list_all}
use Rattle.dill_calls.specs.declared.call.Call.TheVariants as calls
use Rattle.dill_handles.specs.declared.entry.Entry.{Entry}
use Rattle.dill_scope.specs.Scopes.{owner_of}
use Rattle.dill_scope.specs.Keeping.{IsOrderedForest, IsNewBundle}
use Rattle.dill_base.specs.Maps.{if_some}
use Rattle.dill_rules.specs.declared.coroutine.Closing.{Closing}
use Rattle.dill_rules.specs.declared.coroutine.Coroutine.{Coroutine}
use Rattle.dill_rules.specs.declared.coroutine.Mode.{Mode}
use Rattle.dill_rules.specs.declared.coroutine.Mode.TheVariants as modes
use Rattle.dill_rules.specs.declared.thing.Thing.{Thing}
use Rattle.dill_rules.specs.declared.thing.Thing.TheVariants as things
use Rattle.dill_rules.specs.World.{World, coroutine_of, is_ending}
use Rattle.dill_rules.specs.Owning.{is_dead_as}
use Rattle.dill_rules.specs.Taking.{bundle_of}
use Rattle.laws_queue.specs.Well.{Numbered, bit, occurs, is_at}

-- the number that an `hclose` is pending on
abbrev pub closes : Mode → Option ℕ
closes (modes.Pending (calls.Hclose number)) = Some number
closes _ = None

-- it waits until the bundle is empty whose number died with the closing: by `hclose` of that number, or as it is ending
abbrev pub waits_for : ℕ → Mode → Bool
waits_for number (modes.Ending outcome) = true
waits_for number (modes.Pending (calls.Hclose closed)) = closed == number
waits_for number _ = false

-- an application's value has an application's kind
abbrev pub is_proper_thing : Thing → Bool
is_proper_thing (things.Value kind value) = nat_le 256 kind
is_proper_thing _ = true

abbrev pub is_proper : Entry Thing → Bool
is_proper x = is_proper_thing x.thing

module _ {V : Type 0} where
  abbrev pub is_there : World V → ℕ → Bool
  is_there w who = is_some (coroutine_of w who)

  -- the coroutine owns the bundle
  abbrev pub has_bundle : World V → ℕ → ℕ → Bool
  has_bundle w who name = if_some (owner_of w.scopes name) false (λ owner. owner == who)

  -- how often a bundle is named, by live numbers and by closings
  abbrev pub times_named : World V → ℕ → ℕ
  times_named w name = occurs name (filter_map (λ x. bundle_of x.thing) w.handles.entries) + occurs name (map (λ x. x.bundle) w.closings)

  -- how often a number is in use, live or dead with a closing
  abbrev pub times_used : World V → ℕ → ℕ
  times_used w number = occurs number (map (λ x. x.number) w.handles.entries) + occurs number (map (λ x. x.number) w.closings)

  -- the owner of a live number is there, and owns the bundle that the number names
  abbrev pub is_held : World V → Entry Thing → Bool
  is_held w x = is_there w x.owner && if_some (bundle_of x.thing) true (has_bundle w x.owner)

  -- who is ending has no live number of a bundle
  abbrev pub is_kept_open : World V → Entry Thing → Bool
  is_kept_open w x = if_some (bundle_of x.thing) true (λ name. not (is_at is_ending w.coroutines x.owner))

  -- the owner of a bundle that is closing waits for it
  abbrev pub has_waiter : World V → Closing → Bool
  has_waiter w x = if_some (owner_of w.scopes x.bundle) false (is_at (waits_for x.number) w.coroutines)

  -- who is pending in `hclose` owns the bundle that is closing
  abbrev pub has_closing : World V → Coroutine V → Bool
  has_closing w c = if_some (closes c.mode) true (λ number. if_some (find (is_dead_as number) w.closings) false (λ x. has_bundle w c.number x.bundle))

  -- How coroutines, handles and bundles fit together, whatever anybody waits for: bundles and coroutines are a forest of
  -- those that are there, with numbers up to the last ones; there are no more coroutines and handles than may be; `main`
  -- is there until its end is kept; no number is used twice, and none above the last one; each bundle that has an owner,
  -- which is each but the root, is named by exactly one live number or one closing; and live numbers are held, and name things of proper kinds.
  pub record FitsTogether (w : World V) : Type 0 where
    pub forest : IsOrderedForest w.scopes
    pub bundles : IsNewBundle w.scopes (w.last_bundle + 1)
    pub crew : map (λ x. x.who) w.scopes.homes ≡ map (λ c. c.number) w.coroutines
    pub numbered : Numbered 0 w.coroutines w.last_coroutine
    pub begun : 1 ≤ w.last_coroutine
    pub few : length w.coroutines ≤ 65536
    pub main : is_none w.ended ≡ is_there w 1
    pub room : length w.handles.entries + w.handles.kept ≤ 65536
    pub numbers : (number : ℕ) → times_used w number ≤ bit (nat_le number w.handles.last)
    pub names : (name : ℕ) → times_named w name ≡ bit (is_some (owner_of w.scopes name))
    pub held : list_all (is_held w) w.handles.entries ≡ true
    pub kinds : list_all is_proper w.handles.entries ≡ true

  -- and for each bundle that is closing its owner waits, and who waits in `hclose` or by ending has begun to close
  pub record IsInOrder (w : World V) : Type 0 where
    pub fits : FitsTogether w
    pub closings : list_all (has_waiter w) w.closings ≡ true
    pub waiters : list_all (has_closing w) w.coroutines ≡ true
    pub endings : list_all (is_kept_open w) w.handles.entries ≡ true
