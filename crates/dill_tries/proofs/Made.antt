-- The asks that coroutines wait for, as the tries that they are.
use Rattle.std.proofs.Common.{◌≡◌, ℕ, find, Bool, true, false, if◌then◌else◌, Option, Some, None, option_map, IfSome, refl}
use Rattle.std.specs.List.{list_any}
use Rattle.dill_base.specs.Maps.{if_some, first_some}
use Rattle.dill_calls.specs.declared.call.Call.{Call}
use Rattle.dill_calls.specs.declared.call.Call.TheVariants as calls
use Rattle.dill_rules.specs.Giving.{is_connecting_for}
use Rattle.dill_rules.specs.Trying.{next_link}
use Rattle.dill_rules.specs.World.{World, Place, pending_call}
use Rattle.dill_tries.specs.declared.due.Due.{Due}
use Rattle.dill_tries.specs.declared.due.Due.TheVariants as dues
use Rattle.dill_tries.specs.declared.kind.Kind.{Kind}
use Rattle.dill_tries.specs.declared.kind.Kind.TheVariants as kinds
use Rattle.dill_tries.specs.Dues.{number_of, try_of, made_by, made_of, due_by, due_in, sought_in, is_sought, is_sought_try, tries_made}
use Rattle.dill_tries.proofs.Found.{made}

module _ {V : Type 0} (w : World V) where
  connected : (b : Bool) (who : ℕ) (x : Due) → option_map (try_of (next_link w)) (if b then None else Some x) ≡ (if b then None else Some (try_of (next_link w) x))
  connected true who x = refl
  connected false who x = refl

  as_try : (kind : Kind) (who : ℕ) (call : Call) → option_map (try_of (next_link w)) (due_by w kind who call) ≡ made_by w kind who call
  as_try kinds.Listen who (calls.TcpListen address backlog) = refl
  as_try kinds.Listen who call = refl
  as_try kinds.Connect who (calls.TcpConnect address deadline) = connected (list_any (is_connecting_for who) w.links.all) who (dues.Connect who address)
  as_try kinds.Connect who call = refl
  as_try kind who call = refl

  in_mode : (kind : Kind) (who : ℕ) (o : Option Call) → option_map (try_of (next_link w)) (if_some o None (due_by w kind who)) ≡ if_some o None (made_by w kind who)
  in_mode kind who None = refl
  in_mode kind who (Some call) = as_try kind who call

  module _ (place : Place) (marks : Bool) where
    looked : (b : Bool) (kind : Kind) (who : ℕ) (x : Due) → is_sought_try w place marks (try_of (next_link w) x) ≡ is_sought w place marks (number_of kind) who → IfSome (if b then None else Some x) (λ d. is_sought_try w place marks (try_of (next_link w) d) ≡ is_sought w place marks (number_of kind) who)
    looked true kind who x e = tt
    looked false kind who x e = e

    by_call : (kind : Kind) (who : ℕ) (call : Call) → IfSome (due_by w kind who call) (λ d. is_sought_try w place marks (try_of (next_link w) d) ≡ is_sought w place marks (number_of kind) who)
    by_call kinds.Listen who (calls.TcpListen address backlog) = refl
    by_call kinds.Listen who call = tt
    by_call kinds.Connect who (calls.TcpConnect address deadline) = looked (list_any (is_connecting_for who) w.links.all) kinds.Connect who (dues.Connect who address) refl
    by_call kinds.Connect who call = tt
    by_call kind who call = tt

    by_mode : (kind : Kind) (who : ℕ) (o : Option Call) → IfSome (if_some o None (due_by w kind who)) (λ d. is_sought_try w place marks (try_of (next_link w) d) ≡ is_sought w place marks (number_of kind) who)
    by_mode kind who None = tt
    by_mode kind who (Some call) = by_call kind who call

    pub first_made : (kind : Kind) → option_map (try_of (next_link w)) (first_some (sought_in w place marks kind) w.coroutines) ≡ find (is_sought_try w place marks) (tries_made w kind)
    first_made kind = made (due_in w kind) (λ c. is_sought w place marks (number_of kind) c.number) (try_of (next_link w)) (made_of w kind) (is_sought_try w place marks) w.coroutines
        (λ c. in_mode kind c.number (pending_call c.mode)) (λ c. by_mode kind c.number (pending_call c.mode))
