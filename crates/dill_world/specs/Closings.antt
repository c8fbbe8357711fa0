-- The bundles of an ending, as a list of closings.
use Rattle.std.specs.Prelude.{ℕ, List, fold, filter_map, Option, Some, None, if◌then◌else◌}
use Rattle.dill_handles.specs.Handles as handles
use Rattle.dill_handles.specs.declared.entry.Entry.{Entry}
use Rattle.dill_scope.specs.Scopes as scopes
use Rattle.dill_scope.specs.Scopes.{Scopes}
use Rattle.dill_base.specs.Maps.{if_some}
use Rattle.dill_rules.specs.declared.coroutine.Closing.{Closing}
use Rattle.dill_rules.specs.declared.thing.Thing.{Thing}
use Rattle.dill_rules.specs.Taking.{bundle_of}

-- the closing of a handle's bundle, where a coroutine owns it and it is one
abbrev pub closing_of : ℕ → Entry Thing → Option Closing
closing_of who x = if handles.is_owned who x then if_some (bundle_of x.thing) None (λ name. Some (record { bundle = name; number = x.number })) else None

-- the closings of all bundles that a coroutine owns
abbrev pub closings_of : ℕ → List (Entry Thing) → List Closing
closings_of who entries = filter_map (closing_of who) entries

-- the numbers of closings are dead
abbrev pub retire_each : handles.Handles Thing → List Closing → handles.Handles Thing
retire_each h xs = fold (λ now x. handles.retire now x.number) h xs

-- their bundles begin to close
abbrev pub close_each : ℕ → Scopes → List Closing → Scopes
close_each who s xs = fold (λ now x. scopes.close (scopes.take now x.bundle who) x.bundle) s xs
