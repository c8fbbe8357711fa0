-- What stands behind each status where the canonical text of a script is printed.
use Rattle.std.specs.Prelude.{◌≡◌, ◌⊎◌, ℕ, List, Option, codes, Ok}
use Rattle.std.specs.Io.KnownBytes.{Appends}
use Rattle.dill_base.specs.Causes.{Rose}
use Rattle.dill_base.specs.Shelves.{Files, Lacks}
use Rattle.dill_base.specs.Sinks.{AppendsPart}
use Rattle.dill_base.specs.declared.status.Status.{Status}
use Rattle.dill_base.specs.declared.status.Status.TheVariants as status
use Rattle.dill_script.specs.declared.script.Program.{Program}
use Rattle.dill_script.specs.Printing.{canonical}
use Rattle.dill_script.specs.Reading.{script_with}
use Rattle.dill_calls.specs.CallTable.{is_built}
use Rattle.relay_main.specs.Outcome.{Says, RefusedScript}
use Rattle.relay_main.specs.Reading.{Holds}

-- the file is a script
pub record HoldsScript (files : Option Files) (name : List ℕ) (script : List Program) : Type 0 where
  pub bytes : List ℕ
  pub holds : Holds files name bytes
  pub reads : script_with is_built bytes ≡ Ok script

module _ {W : Type 0} (told : W → Option (List ℕ)) (writes : W → ℕ) where
  -- all of a script's text went out, or a front of it, or memory for it was refused
  abbrev pub PrintsWhole : List Program → W → W → W → W → Status → Type 0
  PrintsWhole script out out' err err' status.Well = Appends (told out) (told out') (canonical script) × (writes out' ≡ writes out) × (err' ≡ err)
  PrintsWhole script out out' err err' status.Sink = AppendsPart (told out) (told out') (canonical script) × Rose (writes out) (writes out') × Says told writes err err' (codes "dillrelay: output not written")
  PrintsWhole script out out' err err' status.Memory = (out' ≡ out) × Says told writes err err' (codes "dillrelay: want of memory")
  PrintsWhole script out out' err err' _ = ⊥

  -- the file is a script whose text was printed so
  pub record PrintsFile (files : Option Files) (name : List ℕ) (out out' err err' : W) (end : Status) : Type 0 where
    pub script : List Program
    pub file : HoldsScript files name script
    pub prints : PrintsWhole script out out' err err' end

  -- for each status what it shows
  abbrev pub Checks : Option Files → List ℕ → ℕ → ℕ → W → W → W → W → Status → Type 0
  Checks files name shelf shelf' out out' err err' status.Well = (shelf' ≡ shelf) × PrintsFile files name out out' err err' status.Well
  Checks files name shelf shelf' out out' err err' status.Sink = (shelf' ≡ shelf) × PrintsFile files name out out' err err' status.Sink
  Checks files name shelf shelf' out out' err err' status.Memory = (out' ≡ out) × (shelf' ≡ shelf) × Says told writes err err' (codes "dillrelay: want of memory")
  Checks files name shelf shelf' out out' err err' status.Script = (out' ≡ out) × (shelf' ≡ shelf) × RefusedScript told writes files name err err'
  Checks files name shelf shelf' out out' err err' status.Shelf = (out' ≡ out) × (Rose shelf shelf' ⊎ Lacks files name) × Says told writes err err' (codes "dillrelay: script not read")
  Checks files name shelf shelf' out out' err err' _ = ⊥
