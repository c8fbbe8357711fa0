-- What some texts are read as, and printed as again.
use Rattle.std.specs.Prelude.{◌≡◌, ℕ, List, [], Result, Ok, Err, codes}
use Rattle.dill_script.specs.declared.refusal.Reason.{Reason}
use Rattle.dill_script.specs.declared.refusal.Reason.TheVariants.{NoVersion, NoMain}
use Rattle.dill_script.specs.Printing.{canonical}
use Rattle.dill_script.specs.Reading.{Reading, script_of}

-- the canonical text of what is read
abbrev pub printed : Reading → Result (List ℕ) (ℕ × Reason)
printed (Ok script) = Ok (canonical script)
printed (Err refusal) = Err refusal

-- a text that is read and printed as it stands
abbrev pub PrintsBack : List ℕ → Type 0
PrintsBack text = printed (script_of text) ≡ Ok text

-- first lines that are refused
pub record FirstLineRows : Type 0 where
  pub nothing : script_of [] ≡ Err (1, NoVersion)
  pub alone : script_of (codes "dill 1\n") ≡ Err (1, NoMain)
  pub other : script_of (codes "dill 2\n") ≡ Err (1, NoVersion)

-- a text with what is dropped in it, and its canonical text
pub record CanonicalRows : Type 0 where
  pub cleaned : printed (script_of (codes "dill 1\n\n  program main 0 # go\nprint   \"a\\x41\"\nend")) ≡ Ok (codes "dill 1\nprogram main 0\nprint \"aA\"\nend\n")
  pub again : PrintsBack (codes "dill 1\nprogram main 0\nprint \"aA\"\nend\n")
