-- Laws of the opening world and of refusals.
use Rattle.std.proofs.Common.{lit≤, ◌≡◌, ℕ, ◌==◌, Bool, true, false, refl, ap, cond, Option, Some, None, if◌then◌else◌, ◌&&◌}
use Rattle.std.specs.Prelude.{option_and_then, option_map}
use Rattle.dill_base.specs.declared.errno.Errno.{Errno}
use Rattle.dill_base.specs.declared.errno.Errno.TheVariants.{Enomem}
use Rattle.dill_calls.specs.declared.answer.Answer.TheVariants.{Fault}
use Rattle.dill_calls.specs.CallTable.{word_of, takes_memory}
use Rattle.dill_base.specs.Maps.{if_some}
use Rattle.dill_scope.specs.declared.forest.Home.{Home}
use Rattle.dill_scope.specs.declared.forest.Bundle.{Bundle}
use Rattle.dill_scope.specs.Scopes.{opening_scopes}
use Rattle.dill_scope.specs.Forest.{at_root, IsForest}
use Rattle.dill_rules.specs.World.{reply}
use Rattle.dill_rules.specs.Entering.{done}
use Rattle.dill_rules.specs.Laws.{OpeningIsSound, RefusalChangesNothing}

root : Bundle
root = record { name = 0; owner = None; closing = false }

-- nobody owns the one bundle that there is
no_owner : (b : Bool) (owner : ℕ) → option_and_then (λ (x : Bundle). x.owner) (cond b (Some (record { name = 0; owner = None; closing = false })) None) ≡ Some owner → ⊥
no_owner true owner e = cc
no_owner false owner e = cc

-- who lives somewhere lives in it
at_home : (b : Bool) (name : ℕ) → option_map (λ (x : Home). x.bundle) (cond b (Some (record { who = 1; bundle = 0 })) None) ≡ Some name → option_map (λ (x : Home). x.bundle) (cond b (Some (record { who = 1; bundle = 0 })) None) ≡ Some 0
at_home true name e = refl
at_home false name e = cc

opening_forest : IsForest opening_scopes
opening_forest = record {
  outside = λ name owner e i. no_owner (0 == name) owner e;
  rooted = λ who name e. at_root (at_home (1 == who) name e);
  root = refl;
}

pub opening_is_sound : (V : Type 0) → OpeningIsSound V
opening_is_sound V view random = record {
  forest = opening_forest;
  owned = λ number x e. cc;
  given = λ number x e. cc;
  room = lit≤ tt;
  one = record { bundles = λ number name x e. cc };
}

pub refusal_changes_nothing : (V : Type 0) → RefusalChangesNothing V
refusal_changes_nothing V p lacks w who view call e h =
    ap (λ (o : Option Errno). if_some o (if lacks && takes_memory (word_of call) then reply w who (word_of call) (Fault Enomem) else done p w who view call) (λ e. reply w who (word_of call) (Fault e))) h
