-- The rules of taking: when a call may not become the owner of a handle.
use Rattle.std.specs.Prelude.{ℕ, ◌==◌, Bool, false, not, ◌&&◌, ◌||◌, Option, Some, None}
use Rattle.std.specs.List.{list_any}
use Rattle.dill_calls.specs.declared.call.Call.{Call}
use Rattle.dill_calls.specs.declared.call.Call.TheVariants as calls
use Rattle.dill_calls.specs.CallTable.{word_of, takes, gives_up, is_hclose}
use Rattle.dill_handles.specs.declared.entry.Entry.{Entry}
use Rattle.dill_scope.specs.Scopes as scopes
use Rattle.dill_base.specs.Maps.{if_some}
use Rattle.dill_rules.specs.declared.thing.Thing.{Thing}
use Rattle.dill_rules.specs.declared.thing.Thing.TheVariants as things
use Rattle.dill_rules.specs.World.{World, coroutine_of, pending_call, is_ending}
use Rattle.dill_rules.specs.Naming.{numbers_of, taken_by}
use Rattle.dill_rules.specs.Owning.{entry_of}

-- the call is a call on this number
abbrev pub is_on : ℕ → Call → Bool
is_on number call = list_any (λ n. n == number) (numbers_of call)

-- a handshake, a detach or `tcp_close`, which lets no other call on its number while it is pending
abbrev pub is_alone_on : ℕ → Call → Bool
is_alone_on number call = takes (word_of call) && is_on number call

-- the bundle that a thing is
abbrev pub bundle_of : Thing → Option ℕ
bundle_of (things.Bundle name) = Some name
bundle_of thing = None

module _ {V : Type 0} where
  -- some pending call passes the test
  abbrev pub is_pending : World V → (Call → Bool) → Bool
  is_pending w test = list_any (λ c. if_some (pending_call c.mode) false test) w.coroutines

  abbrev pub is_cancelled : World V → ℕ → Bool
  is_cancelled w who = scopes.is_cancelled w.scopes who

  -- cancelled, or ending
  abbrev pub is_leaving : World V → ℕ → Bool
  is_leaving w who = is_cancelled w who || if_some (coroutine_of w who) false (λ c. is_ending c.mode)

  -- the number is live and another's
  abbrev pub is_anothers : World V → ℕ → ℕ → Bool
  is_anothers w who number = if_some (entry_of w number) false (λ x. not (x.owner == who))

  -- the call takes a handle of another coroutine
  abbrev pub takes_anothers : World V → ℕ → Call → Bool
  takes_anothers w who call = list_any (is_anothers w who) (taken_by call)

  -- The owner isn't the caller, and the owner is cancelled or ending.
  abbrev pub is_held_back : World V → ℕ → Entry Thing → Bool
  is_held_back w who x = not (x.owner == who) && is_leaving w x.owner

  -- the bundle that a live number names
  abbrev pub bundle_named : World V → ℕ → Option ℕ
  bundle_named w number = if_some (entry_of w number) None (λ x. bundle_of x.thing)

  -- who lives in this bundle is inside that one
  abbrev pub lives_inside : World V → ℕ → ℕ → Bool
  lives_inside w home name = home == name || if_some (scopes.owner_of w.scopes home) false (scopes.is_inside w.scopes name)

  -- the child of the call would be inside the bundle; that of `go` lives in a new bundle of the caller
  abbrev pub bears_inside : World V → Call → ℕ → Bool
  bears_inside w (calls.BundleGo number program args) name = if_some (bundle_named w number) false (λ home. lives_inside w home name)
  bears_inside w call name = false

  -- The handle is a bundle, and the caller, or the child that is given it, is or would be inside it.
  abbrev pub is_within : World V → ℕ → Call → Thing → Bool
  is_within w who call thing = if_some (bundle_of thing) false (λ name. scopes.is_inside w.scopes name who || bears_inside w call name)

  -- A call is pending on the handle, which doesn't hinder `hclose`.
  abbrev pub is_awaited : World V → Call → ℕ → Bool
  is_awaited w call number = not (is_hclose (word_of call)) && is_pending w (is_on number)

  -- A cancelled caller takes no other's handle by a call that gives a stack up.
  abbrev pub is_cancelled_taker : World V → ℕ → Call → Entry Thing → Bool
  is_cancelled_taker w who call x = gives_up (word_of call) && (is_cancelled w who && not (x.owner == who))

  -- the caller may not become the owner of this number
  abbrev pub cannot_take : World V → ℕ → Call → ℕ → Bool
  cannot_take w who call number =
      if_some (entry_of w number) false (λ x. is_within w who call x.thing || (is_held_back w who x || (is_awaited w call number || is_cancelled_taker w who call x)))

  -- a number of the call has a handshake, a detach or a `tcp_close` pending on it
  abbrev pub is_occupied : World V → Call → Bool
  is_occupied w call = list_any (λ number. is_pending w (is_alone_on number)) (numbers_of call)
