-- A script that was read can be run, and begins at its `main`.
use Rattle.std.proofs.Common.{◌≡◌, ℕ, ◌≤◌, List, [], ◌∷◌, length, Bool, true, ◌&&◌, nat_le, Ok, refl, arith}
use Rattle.std.proofs.lemmas.Bool.{and_from, and_parts}
use Rattle.std.specs.List.{list_all}
use Rattle.std.proofs.lemmas.Bool.Decides.{nat_tests}
use Rattle.dill_calls.specs.Program.{Begins}
use Rattle.dill_meaning.specs.Laws.{MainBegins}
use Rattle.dill_meaning.specs.Views.{main_of}
use Rattle.dill_script.specs.declared.script.Program.{Program}
use Rattle.dill_script.specs.declared.statement.Statement.{Statement}
use Rattle.dill_script.specs.declared.statement.Statement.TheVariants as statements
use Rattle.dill_script.specs.Fitting.{is_formed, all_say}
use Rattle.dill_script.specs.Nesting.{is_nested, ReadsNested}
use Rattle.dill_script.specs.Reading.{script_with}
use Rattle.dill_script.specs.Spelling.{is_sized, takes_its, says_built, ReadsWithin, ReadsFormed, ReadsMains, ReadsBuilt}
use Rattle.dill_calls.specs.CallTable.{is_built}
use Rattle.relay_body.specs.Running.{says_plain, is_runnable, running}
use Rattle.relay_body.specs.Beginning.{ScriptsBegin}
use Rattle.relay_body.specs.Runnable.{parts}

statement_plain : (statement : Statement) → says_built is_built statement ≡ true → says_plain statement ≡ true
statement_plain (statements.Call tried dest form) e = e
statement_plain _ e = refl

all_more : {X : Type 0} (p q : X → Bool) → ((x : X) → p x ≡ true → q x ≡ true) → (xs : List X) → list_all p xs ≡ true → list_all q xs ≡ true
all_more p q h [] e = refl
all_more p q h (x ∷ xs) e =
    let a = and_parts (p x) (list_all p xs) e in
    and_from (q x) (list_all q xs) (h x a.0) (all_more p q h xs a.1)

few : (n : ℕ) → n ≤ 256 → nat_le n 256 ≡ true
few n l = grind (arith, nat_tests)

pub runs : ReadsWithin → ReadsFormed → ReadsMains → ReadsBuilt → ReadsNested → (text : List ℕ) (script : List Program) → script_with is_built text ≡ Ok script → is_runnable script ≡ true
runs within formed mains built nested text script e =
    let said = all_say is_formed script && all_say says_plain script in
    and_from (nat_le (length script) 256) (list_all is_sized script && (list_all takes_its script && (list_all is_nested script && said))) (few (length script) (within is_built text script e).programs)
    (and_from (list_all is_sized script) (list_all takes_its script && (list_all is_nested script && said)) (within is_built text script e).places
    (and_from (list_all takes_its script) (list_all is_nested script && said) (mains is_built text script e)
    (and_from (list_all is_nested script) said (nested is_built text script e)
    (and_from (all_say is_formed script) (all_say says_plain script) (formed is_built text script e)
    (all_more (λ program. list_all (says_built is_built) program.statements) (λ program. list_all says_plain program.statements)
    (λ program. all_more (says_built is_built) says_plain statement_plain program.statements) script (built is_built text script e))))))

-- and begins at its `main`
pub begins : MainBegins → (script : List Program) → is_runnable script ≡ true → Begins running (main_of script)
begins main script r =
    let b = main script (parts script r).sized in
    record { real = and_from (is_runnable script) true r refl; start = b.start; some = b.some; whole = b.whole }

pub scripts_begin : ReadsWithin → ReadsFormed → ReadsMains → ReadsBuilt → ReadsNested → MainBegins → ScriptsBegin
scripts_begin within formed mains built nested main text script e =
    let r = runs within formed mains built nested text script e in
    record { runs = r; begins = begins main script r }
