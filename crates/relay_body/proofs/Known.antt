-- A program that is known takes few arguments.
use Rattle.std.proofs.Common.{◌≡◌, ◌≤◌, ℕ, List, slice_get, ◌==◌, true, Option, Some, None, nat_le, refl, arith}
use Rattle.std.specs.List.{list_all}
use Rattle.std.proofs.lemmas.Bool.Decides.{nat_tests}
use Rattle.dill_script.specs.declared.script.Program.{Program}
use Rattle.dill_script.specs.Refusals.{is_some_with}
use Rattle.dill_script.specs.Spelling.{takes_its}
use Rattle.dill_script.specs.Statements.{params_fit}
use Rattle.dill_meaning.specs.Meaning.{knows}
use Rattle.dill_meaning.specs.Views.{ScriptView}
use Rattle.dill_meaning.proofs.Lists.{all_at}
use Rattle.relay_body.specs.Bools.{and_right, le_of}
use Rattle.relay_body.specs.Runnable.{Runnable, runs}
use Rattle.relay_body.specs.Running.{is_running}

same_few : (a b : ℕ) → (a == b) ≡ true → a ≤ 16 → b ≤ 16
same_few a b e h = grind (arith, nat_tests)

found_few : (script : List Program) (program args : ℕ) (found : Option Program) → slice_get script program ≡ found → list_all takes_its script ≡ true → is_some_with (λ p. p.params == args) found ≡ true → args ≤ 16
found_few script program args None e a k = cc
found_few script program args (Some found) e a k =
    let takes : takes_its found ≡ true = all_at takes_its script program found a e in
    same_few found.params args k (le_of found.params 16 (and_right (params_fit found.name found.params) (nat_le found.params 16) takes))

-- at most 16, as many as there are registers
pub known_few : (view : ScriptView) (program args : ℕ) → is_running view ≡ true → knows view program args ≡ true → args ≤ 16
known_few view program args r k = let p : Runnable view.script = runs view r in found_few view.script program args (slice_get view.script program) refl p.takes k
