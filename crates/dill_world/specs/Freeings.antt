-- What freeing bundles one after the other leaves of closings and scopes.
use Rattle.std.specs.Prelude.{ℕ, ◌==◌, List, fold, filter, map, Bool, false, not}
use Rattle.dill_calls.specs.declared.ran.Note.{Note}
use Rattle.dill_calls.specs.declared.ran.Note.TheVariants.{Freed}
use Rattle.dill_scope.specs.Scopes as scopes
use Rattle.dill_scope.specs.Scopes.{Scopes}
use Rattle.dill_base.specs.Maps.{if_some, without}
use Rattle.dill_rules.specs.declared.coroutine.Closing.{Closing}
use Rattle.dill_rules.specs.Owning.{is_closing_of}

-- these bundles are gone
abbrev pub drop_each : Scopes → List Closing → Scopes
drop_each s xs = fold (λ now x. scopes.drop_bundle now x.bundle) s xs

-- without a closing of each of these bundles
abbrev pub without_each : List Closing → List Closing → List Closing
without_each all xs = fold (λ now x. without (is_closing_of x.bundle) now) all xs

-- the notes that these are gone
abbrev pub notes_of : List Closing → List Note
notes_of xs = map (λ x. Freed x.number) xs

-- the bundle of a closing has this owner
abbrev pub is_owned_closing : Scopes → ℕ → Closing → Bool
is_owned_closing s who x = if_some (scopes.owner_of s x.bundle) false (λ owner. owner == who)

-- the closings whose bundles have other owners
abbrev pub others_of : Scopes → ℕ → List Closing → List Closing
others_of s who all = filter (λ x. not (is_owned_closing s who x)) all
