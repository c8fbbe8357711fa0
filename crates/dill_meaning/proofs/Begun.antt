-- A script that was read begins at its program `main`.
use Rattle.std.proofs.Common.{◌≡◌, ℕ, List, [], ◌∷◌, find, length, slice_get, Bool, true, false, not, ◌||◌, ◌&&◌, ◌==◌, nat_lt, nat_le, cond, Some, refl, ap, ◌∙◌, codes, bytes_eq}
use Rattle.std.specs.List.{list_any, position_or_len}
use Rattle.std.proofs.lemmas.Bool.{eqb-true}
use Rattle.std.proofs.lemmas.Slice.Eq.{bytes_eq-Decides}
use Rattle.dill_script.specs.declared.script.Program.{Program}
use Rattle.dill_script.specs.Refusals.{has_name}
use Rattle.dill_script.specs.Spelling.{ReadsWithin, ReadsMains, takes_its}
use Rattle.dill_meaning.specs.Reaching.{MainIsThere}
use Rattle.dill_meaning.specs.Views.{main_of}
use Rattle.dill_meaning.proofs.Lists.{all_at}
use Rattle.dill_meaning.proofs.Started.{looked_up}

-- the first program of a name
record IsFirst (name : List ℕ) (script : List Program) (program : Program) : Type 0 where
  there : find (has_name name) script ≡ Some program
  named : has_name name program ≡ true

first_by : (name : List ℕ) (program : Program) (rest : List Program) (b : Bool) → has_name name program ≡ b → (b || list_any (has_name name) rest) ≡ true → (list_any (has_name name) rest ≡ true → (found : Program) × IsFirst name rest found) → (found : Program) × IsFirst name (program ∷ rest) found
first_by name program rest true e a h = (program, record { there = ap (λ b. cond b (Some program) (find (has_name name) rest)) e; named = e })
first_by name program rest false e a h =
    let f = h a in
    (f.0, record { there = ap (λ b. cond b (Some program) (find (has_name name) rest)) e ∙ f.1.there; named = f.1.named })

first : (name : List ℕ) (script : List Program) → list_any (has_name name) script ≡ true → (found : Program) × IsFirst name script found
first name [] a = absurd (none a)
  where
    none : list_any (has_name name) [] ≡ true → ⊥
    none e = cc
first name (program ∷ rest) a = first_by name program rest (has_name name program) refl a (first name rest)

no_params : (b : Bool) (params : ℕ) → b ≡ true → ((not b || (params == 0)) && nat_le params 16) ≡ true → params ≡ 0
no_params true params e f = eqb-true params 0 (first_part (params == 0) (nat_le params 16) f)
  where
    first_part : (a b : Bool) → (a && b) ≡ true → a ≡ true
    first_part true b e = refl
    first_part false b e = cc
no_params false params e f = cc

pub main_is_there : ReadsWithin → ReadsMains → MainIsThere
main_is_there within mains built text script e =
    let f = first (codes "main") script (within built text script e).main in
    let at : slice_get script (main_of script).program ≡ Some f.0 = looked_up (has_name (codes "main")) script (nat_lt (position_or_len (has_name (codes "main")) script) (length script)) refl ∙ f.1.there in
    (f.0, at, (bytes_eq-Decides f.0.name (codes "main")).0 f.1.named, no_params (bytes_eq f.0.name (codes "main")) f.0.params f.1.named (all_at takes_its script (main_of script).program f.0 (mains built text script e) at))
