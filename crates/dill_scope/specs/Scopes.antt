-- Scopes: who lives in which bundle, who owns each bundle, and whether it is closing.
use Rattle.std.specs.Prelude.{ℕ, ◌==◌, List, [], ◌∷◌, ◌++◌, length, map, filter, find, Bool, true, false, not, ◌&&◌, ◌||◌, Option, Some, None, option_map, option_and_then, nat_lt, zero, suc}
use Rattle.std.specs.List.{list_any}
use Rattle.dill_base.specs.Maps.{if_some, change, without}
use Rattle.dill_scope.specs.declared.forest.Home.{Home}
use Rattle.dill_scope.specs.declared.forest.Bundle.{Bundle}

-- both rise by their numbers
pub record Scopes : Type 0 where
  pub homes : List Home
  pub bundles : List Bundle

abbrev pub is_home : ℕ → Home → Bool
is_home who x = x.who == who

abbrev pub is_bundle : ℕ → Bundle → Bool
is_bundle name x = x.name == name

-- coroutine 1 lives in bundle 0, the root
abbrev pub opening_scopes : Scopes
opening_scopes = record {
  homes = record { who = 1; bundle = 0 } ∷ [];
  bundles = record { name = 0; owner = None; closing = false } ∷ [];
}

-- the bundle that a coroutine lives in
abbrev pub home_of : Scopes → ℕ → Option ℕ
home_of s who = option_map (λ x. x.bundle) (find (is_home who) s.homes)

-- who owns a bundle; nobody owns the root
abbrev pub owner_of : Scopes → ℕ → Option ℕ
owner_of s name = option_and_then (λ x. x.owner) (find (is_bundle name) s.bundles)

-- the parent of a coroutine is the owner of the bundle that it lives in
abbrev pub parent : Scopes → ℕ → Option ℕ
parent s who = option_and_then (owner_of s) (home_of s who)

-- who lives in the bundle, or whose parent is inside it, over at most so many parents
abbrev pub inside_within : ℕ → Scopes → ℕ → ℕ → Bool
inside_within zero s name who = false
inside_within (suc k) s name who =
    if_some (home_of s who) false (λ home. home == name) || if_some (parent s who) false (inside_within k s name)

-- no chain of parents is longer than there are coroutines
abbrev pub is_inside : Scopes → ℕ → ℕ → Bool
is_inside s name who = inside_within (length s.homes) s name who

-- the coroutines inside a bundle, rising
abbrev pub tree : Scopes → ℕ → List ℕ
tree s name = filter (is_inside s name) (map (λ x. x.who) s.homes)

-- the least coroutine inside a bundle above a number
abbrev pub in_tree : Scopes → ℕ → ℕ → Option ℕ
in_tree s name after = find (λ n. nat_lt after n) (tree s name)

-- inside a bundle whose closing has begun
abbrev pub is_cancelled : Scopes → ℕ → Bool
is_cancelled s who = list_any (λ x. x.closing && is_inside s x.name who) s.bundles

-- nobody lives in it
abbrev pub is_empty : Scopes → ℕ → Bool
is_empty s name = not (list_any (λ x. x.bundle == name) s.homes)

-- a new bundle of an owner
abbrev pub bundle : Scopes → ℕ → ℕ → Scopes
bundle s name owner = record s { bundles = s.bundles ++ record { name = name; owner = Some owner; closing = false } ∷ [] }

-- a new coroutine lives in a bundle
abbrev pub enter : Scopes → ℕ → ℕ → Scopes
enter s name who = record s { homes = s.homes ++ record { who = who; bundle = name } ∷ [] }

abbrev pub with_owner : ℕ → Bundle → Bundle
with_owner owner x = record x { owner = Some owner }

abbrev pub as_closing : Bundle → Bundle
as_closing x = record x { closing = true }

-- a bundle has another owner
abbrev pub take : Scopes → ℕ → ℕ → Scopes
take s name owner = record s { bundles = change (is_bundle name) (with_owner owner) s.bundles }

-- the closing of a bundle begins
abbrev pub close : Scopes → ℕ → Scopes
close s name = record s { bundles = change (is_bundle name) as_closing s.bundles }

-- a coroutine is gone
abbrev pub ended : Scopes → ℕ → Scopes
ended s who = record s { homes = without (is_home who) s.homes }

-- a bundle is gone
abbrev pub drop_bundle : Scopes → ℕ → Scopes
drop_bundle s name = record s { bundles = without (is_bundle name) s.bundles }

-- the bundles of an owner, rising
abbrev pub bundles_of : Scopes → ℕ → List ℕ
bundles_of s owner = map (λ x. x.name) (filter (λ x. if_some x.owner false (λ o. o == owner)) s.bundles)
