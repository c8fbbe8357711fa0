-- What a script that can be run promises.
use Rattle.std.proofs.Common.{◌≡◌, ◌≤◌, ℕ, zero, suc, List, length, slice_get, ◌&&◌, Bool, true, Some, refl, nat_le}
use Rattle.std.proofs.lemmas.Bool.{and_parts}
use Rattle.std.specs.List.{list_all}
use Rattle.dill_script.specs.declared.script.Program.{Program}
use Rattle.dill_script.specs.declared.statement.Statement.{Statement}
use Rattle.dill_script.specs.Fitting.{is_formed, all_say}
use Rattle.dill_script.specs.Nesting.{is_nested}
use Rattle.dill_script.specs.Spelling.{is_sized, takes_its}
use Rattle.dill_meaning.specs.Views.{ScriptView, statements_of, pending, last_of}
use Rattle.dill_meaning.proofs.Reached.{one_says}
use Rattle.relay_body.specs.Running.{says_plain, is_runnable, has_open, is_running}
use Rattle.relay_body.specs.Bools.{and_left, le_of}

-- its parts
pub record Runnable (script : List Program) : Type 0 where
  pub few : length script ≤ 256
  pub sized : list_all is_sized script ≡ true
  pub takes : list_all takes_its script ≡ true
  pub nested : list_all is_nested script ≡ true
  pub formed : all_say is_formed script ≡ true
  pub plain : all_say says_plain script ≡ true

-- a script that can be run has them
pub parts : (script : List Program) → is_runnable script ≡ true → Runnable script
parts script r =
    let a = nat_le (length script) 256 in
    let b = list_all is_sized script in
    let c = list_all takes_its script in
    let d = list_all is_nested script in
    let e = all_say is_formed script in
    let f = all_say says_plain script in
    let bs = and_parts a (b && (c && (d && (e && f)))) r in
    let cs = and_parts b (c && (d && (e && f))) bs.1 in
    let ds = and_parts c (d && (e && f)) cs.1 in
    let es = and_parts d (e && f) ds.1 in
    let fs = and_parts e f es.1 in
    record { few = le_of (length script) 256 bs.0; sized = cs.0; takes = ds.0; nested = es.0; formed = fs.0; plain = fs.1 }

-- the script of a view that is running
pub runs : (view : ScriptView) → is_running view ≡ true → Runnable view.script
runs view r = parts view.script (and_left (is_runnable view.script) (has_open view) r)

said_at : (test : Statement → Bool) (view : ScriptView) (passed : ℕ) (statement : Statement) → all_say test view.script ≡ true → last_of (statements_of view) passed ≡ Some statement → test statement ≡ true
said_at test view zero statement a e = cc
said_at test view (suc place) statement a e = one_says test view.script view.program (slice_get view.script view.program) place statement refl a e

-- a test that each statement passes is passed by the last one that is behind
pub pending_says : (test : Statement → Bool) (view : ScriptView) (statement : Statement) → all_say test view.script ≡ true → pending view ≡ Some statement → test statement ≡ true
pending_says test view statement a e = said_at test view view.passed statement a e
