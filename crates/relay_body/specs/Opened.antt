-- The loops that are entered fit over each statement.
use Rattle.std.proofs.Common.{◌≡◌, ◌≤◌, ◌+◌, ◌<◌, ℕ, zero, suc, List, [], ◌∷◌, length, take, slice_get, cond, Bool, true, false, ◌&&◌, nat_le, if◌then◌else◌, Option, Some, None, refl, sym, ap, subst, ltb-true, arith, ◌∙◌}
use Rattle.std.proofs.lemmas.Bool.{and_from, and_parts}
use Rattle.std.proofs.lemmas.List.Sums.{sum_by-cons}
use Rattle.std.specs.List.{list_all}
use Rattle.dill_script.specs.declared.line.Block.{Block}
use Rattle.dill_script.specs.declared.line.Block.TheVariants as blocks
use Rattle.dill_script.specs.declared.operand.Num.{Num}
use Rattle.dill_script.specs.declared.script.Program.{Program}
use Rattle.dill_script.specs.declared.statement.Statement.{Statement}
use Rattle.dill_script.specs.declared.statement.Statement.TheVariants as statements
use Rattle.dill_script.specs.Blocks.{is_loop, loops}
use Rattle.dill_script.specs.Nesting.{is_branch, blocks_after, stands, nests, blocks_behind_all, in_program, is_nested}
use Rattle.dill_meaning.specs.Effects.{outside, holds}
use Rattle.dill_meaning.specs.Values.{num_value}
use Rattle.dill_meaning.specs.Views.{ScriptView, Round, statements_in}
use Rattle.dill_meaning.specs.Walks.{Mode, Runs, ToElse, ToEndIf, ToEndLoop, ToFinally, passed_over, passing, behind, run, begin_loop}
use Rattle.relay_body.specs.Depths.{below, loops_left, Fits}
use Rattle.relay_body.specs.Running.{loops_open, blocks_at, are_open, with_ended, opens_in}
use Rattle.relay_body.specs.Bools.{le_holds}

-- a program of a script whose programs are nested
pub nested_in : (script : List Program) (program : ℕ) → list_all is_nested script ≡ true → nests in_program (statements_in (slice_get script program)) ≡ true
nested_in [] program a = refl
nested_in (first ∷ rest) zero a = (and_parts (is_nested first) (list_all is_nested rest) a).0
nested_in (first ∷ rest) (suc program) a = nested_in rest program (and_parts (is_nested first) (list_all is_nested rest) a).1

-- a statement of it stands where it is, and which blocks are open behind it
pub record Stands (open_blocks behind_it : List Block) (statement : Statement) : Type 0 where
  pub stands : stands open_blocks statement ≡ true
  pub after : behind_it ≡ blocks_after open_blocks statement

pub stands_at : (open_blocks : List Block) (list : List Statement) (place : ℕ) (statement : Statement) → nests open_blocks list ≡ true → slice_get list place ≡ Some statement → Stands (blocks_behind_all open_blocks (take place list)) (blocks_behind_all open_blocks (take (suc place) list)) statement
stands_at open_blocks [] place statement n e = cc
stands_at open_blocks (first ∷ rest) zero statement n e =
    let here : first ≡ statement = same_some first statement e in
    record { stands = subst (λ s. stands open_blocks s ≡ true) here (and_parts (stands open_blocks first) (nests (blocks_after open_blocks first) rest) n).0; after = ap (blocks_after open_blocks) here }
  where
    same_some : (a b : Statement) → Some a ≡ Some b → a ≡ b
    same_some a b f = cc
stands_at open_blocks (first ∷ rest) (suc place) statement n e = stands_at (blocks_after open_blocks first) rest place statement (and_parts (stands open_blocks first) (nests (blocks_after open_blocks first) rest) n).1 e

-- loops are counted alike
loops_same : (open_blocks : List Block) → loops open_blocks ≡ loops_open open_blocks
loops_same [] = refl
loops_same (block ∷ outer) =
    let more = sum_by-cons (λ b. cond (is_loop b) 1 0) block outer in
    one_more block (loops (block ∷ outer)) (loops outer) more (loops_same outer)
  where
    one_more : (b : Block) (m n : ℕ) → m ≡ cond (is_loop b) 1 0 + n → n ≡ loops_open outer → m ≡ loops_open (b ∷ outer)
    one_more blocks.Loop m n e f = omega arith
    one_more _ m n e f = omega arith

-- at most three are open where one more begins
pub few_open : (open_blocks : List Block) (rounds : Option Num) → stands open_blocks (statements.Loop rounds) ≡ true → loops_open open_blocks < 4
few_open open_blocks rounds s = subst (λ n. n < 4) (loops_same open_blocks) (ltb-true (loops open_blocks) 4 s)

no_fewer : (block : Block) (outer : List Block) → loops_open outer ≤ loops_open (block ∷ outer)
no_fewer blocks.Loop outer = omega arith
no_fewer _ outer = omega arith

below_less : (sort : Block → Bool) (n : ℕ) (open_blocks : List Block) → loops_open (below sort n open_blocks) ≤ loops_open open_blocks
below_less sort zero open_blocks = omega arith
below_less sort (suc n) [] = omega arith
below_less sort (suc n) (block ∷ outer) = by_sort (sort block) (below_less sort n outer) (below_less sort (suc n) outer) (no_fewer block outer)
  where
    by_sort : (b : Bool) → loops_open (below sort n outer) ≤ loops_open outer → loops_open (below sort (suc n) outer) ≤ loops_open outer → loops_open outer ≤ loops_open (block ∷ outer) → loops_open (if b then below sort n outer else below sort (suc n) outer) ≤ loops_open (block ∷ outer)
    by_sort true h k l = omega arith
    by_sort false h k l = omega arith

-- no more are open further on than here
pub left_less : (mode : Mode) (open_blocks : List Block) → loops_left mode open_blocks ≤ loops_open open_blocks
left_less Runs open_blocks = omega arith
left_less (ToElse depth) open_blocks = below_less is_branch (suc depth) open_blocks
left_less (ToEndIf depth) open_blocks = below_less is_branch (suc depth) open_blocks
left_less (ToEndLoop depth) open_blocks = below_less is_loop (suc depth) open_blocks
left_less ToFinally open_blocks = omega arith

-- the innermost loop is left
outside_less : (rounds : List Round) (n : ℕ) → length rounds ≤ suc n → length (outside rounds) ≤ n
outside_less [] n h = omega arith
outside_less (round ∷ outer) n h = omega arith

broken : (open_blocks : List Block) → loops_open open_blocks ≤ suc (loops_open (below is_loop 1 open_blocks))
broken [] = omega arith
broken (blocks.Loop ∷ outer) = omega arith
broken (blocks.If ∷ outer) = broken outer
broken (blocks.Else ∷ outer) = broken outer
broken (blocks.Program ∷ outer) = broken outer
broken (blocks.Finally ∷ outer) = broken outer

-- what is entered where a statement is run
run_if : (rounds : List Round) (open_blocks : List Block) (b : Bool) → length rounds ≤ loops_open open_blocks → length rounds ≤ loops_left (if b then Runs else ToElse 0) (blocks.If ∷ open_blocks)
run_if rounds open_blocks true h = h
run_if rounds open_blocks false h = h

run_loop : (view : ScriptView) (open_blocks : List Block) (times : ℕ) → length view.rounds ≤ loops_open open_blocks → length (begin_loop view times).1.rounds ≤ loops_left (begin_loop view times).0 (blocks.Loop ∷ open_blocks)
run_loop view open_blocks zero h = h
run_loop view open_blocks (suc left) h = omega arith

run_few : (view : ScriptView) (statement : Statement) (open_blocks : List Block) → stands open_blocks statement ≡ true → length view.rounds ≤ loops_open open_blocks → length (run view statement).1.rounds ≤ loops_left (run view statement).0 (blocks_after open_blocks statement)
run_few view (statements.If cond) open_blocks s h = run_if view.rounds open_blocks (holds view cond) h
run_few view statements.Else (blocks.If ∷ outer) s h = h
run_few view statements.Else _ s h = cc
run_few view statements.EndIf (blocks.If ∷ outer) s h = h
run_few view statements.EndIf (blocks.Else ∷ outer) s h = h
run_few view statements.EndIf _ s h = cc
run_few view (statements.Loop None) open_blocks s h = omega arith
run_few view (statements.Loop (Some rounds)) open_blocks s h = run_loop view open_blocks (num_value view rounds) h
run_few view statements.EndLoop (blocks.Loop ∷ outer) s h = outside_less view.rounds (loops_open outer) h
run_few view statements.EndLoop _ s h = cc
run_few view statements.Break open_blocks s h =
    let b = broken open_blocks in
    let less : length view.rounds ≤ suc (loops_open (below is_loop 1 open_blocks)) = omega arith in
    outside_less view.rounds (loops_open (below is_loop 1 open_blocks)) less
run_few view statements.Return open_blocks s h = omega arith
run_few view (statements.Fail errno) open_blocks s h = omega arith
run_few view statements.Finally (blocks.Program ∷ []) s h = h
run_few view statements.Finally _ s h = cc
run_few view _ open_blocks s h = h

-- and where it is passed over
else_few : (depth : ℕ) (statement : Statement) (open_blocks : List Block) (n : ℕ) → stands open_blocks statement ≡ true → n ≤ loops_left (ToElse depth) open_blocks → n ≤ loops_left (passed_over (ToElse depth) statement) (blocks_after open_blocks statement)
else_few depth (statements.If cond) open_blocks n s h = h
else_few zero statements.Else (blocks.If ∷ outer) n s h = h
else_few (suc depth) statements.Else (blocks.If ∷ outer) n s h = h
else_few depth statements.Else _ n s h = cc
else_few zero statements.EndIf (blocks.If ∷ outer) n s h = h
else_few (suc depth) statements.EndIf (blocks.If ∷ outer) n s h = h
else_few zero statements.EndIf (blocks.Else ∷ outer) n s h = h
else_few (suc depth) statements.EndIf (blocks.Else ∷ outer) n s h = h
else_few depth statements.EndIf _ n s h = cc
else_few depth (statements.Loop rounds) open_blocks n s h = h
else_few depth statements.EndLoop (blocks.Loop ∷ outer) n s h = h
else_few depth statements.EndLoop _ n s h = cc
else_few depth statements.Finally (blocks.Program ∷ []) n s h = h
else_few depth statements.Finally _ n s h = cc
else_few depth _ open_blocks n s h = h

end_if_few : (depth : ℕ) (statement : Statement) (open_blocks : List Block) (n : ℕ) → stands open_blocks statement ≡ true → n ≤ loops_left (ToEndIf depth) open_blocks → n ≤ loops_left (passed_over (ToEndIf depth) statement) (blocks_after open_blocks statement)
end_if_few depth (statements.If cond) open_blocks n s h = h
end_if_few depth statements.Else (blocks.If ∷ outer) n s h = h
end_if_few depth statements.Else _ n s h = cc
end_if_few zero statements.EndIf (blocks.If ∷ outer) n s h = h
end_if_few (suc depth) statements.EndIf (blocks.If ∷ outer) n s h = h
end_if_few zero statements.EndIf (blocks.Else ∷ outer) n s h = h
end_if_few (suc depth) statements.EndIf (blocks.Else ∷ outer) n s h = h
end_if_few depth statements.EndIf _ n s h = cc
end_if_few depth (statements.Loop rounds) open_blocks n s h = h
end_if_few depth statements.EndLoop (blocks.Loop ∷ outer) n s h = h
end_if_few depth statements.EndLoop _ n s h = cc
end_if_few depth statements.Finally (blocks.Program ∷ []) n s h = h
end_if_few depth statements.Finally _ n s h = cc
end_if_few depth _ open_blocks n s h = h

end_loop_few : (depth : ℕ) (statement : Statement) (open_blocks : List Block) (n : ℕ) → stands open_blocks statement ≡ true → n ≤ loops_left (ToEndLoop depth) open_blocks → n ≤ loops_left (passed_over (ToEndLoop depth) statement) (blocks_after open_blocks statement)
end_loop_few depth (statements.If cond) open_blocks n s h = h
end_loop_few depth statements.Else (blocks.If ∷ outer) n s h = h
end_loop_few depth statements.Else _ n s h = cc
end_loop_few depth statements.EndIf (blocks.If ∷ outer) n s h = h
end_loop_few depth statements.EndIf (blocks.Else ∷ outer) n s h = h
end_loop_few depth statements.EndIf _ n s h = cc
end_loop_few depth (statements.Loop rounds) open_blocks n s h = h
end_loop_few zero statements.EndLoop (blocks.Loop ∷ outer) n s h = h
end_loop_few (suc depth) statements.EndLoop (blocks.Loop ∷ outer) n s h = h
end_loop_few depth statements.EndLoop _ n s h = cc
end_loop_few depth statements.Finally (blocks.Program ∷ []) n s h = h
end_loop_few depth statements.Finally _ n s h = cc
end_loop_few depth _ open_blocks n s h = h

finally_few : (statement : Statement) (open_blocks : List Block) (n : ℕ) → n ≤ 0 → n ≤ loops_left (passed_over ToFinally statement) open_blocks
finally_few statements.Finally open_blocks n h = omega arith
finally_few _ open_blocks n h = h

behind_few : (mode : Mode) (view : ScriptView) (statement : Statement) (open_blocks : List Block) → stands open_blocks statement ≡ true → length view.rounds ≤ loops_left mode open_blocks → length (behind mode view statement).1.rounds ≤ loops_left (behind mode view statement).0 (blocks_after open_blocks statement)
behind_few Runs view statement open_blocks s h = run_few view statement open_blocks s h
behind_few (ToElse depth) view statement open_blocks s h = else_few depth statement open_blocks (length view.rounds) s h
behind_few (ToEndIf depth) view statement open_blocks s h = end_if_few depth statement open_blocks (length view.rounds) s h
behind_few (ToEndLoop depth) view statement open_blocks s h = end_loop_few depth statement open_blocks (length view.rounds) s h
behind_few ToFinally view statement open_blocks s h = finally_few statement (blocks_after open_blocks statement) (length view.rounds) h

-- the loops that are entered stay open
open_outside : (list : List Statement) (rounds : List Round) → are_open list rounds ≡ true → are_open list (outside rounds) ≡ true
open_outside list [] o = refl
open_outside list (round ∷ outer) o = (and_parts (nat_le (suc (length outer)) (loops_open (blocks_at list round.first))) (are_open list outer) o).1

-- a loop that begins here
open_entered : (list : List Statement) (passed : ℕ) (rounds : List Round) (left : Option ℕ) (open_blocks : List Block) → blocks_at list passed ≡ blocks.Loop ∷ open_blocks → length rounds ≤ loops_open open_blocks → are_open list rounds ≡ true → are_open list (record { first = passed; left = left } ∷ rounds) ≡ true
open_entered list passed rounds left open_blocks e h o =
    let one : suc (length rounds) ≤ loops_open (blocks.Loop ∷ open_blocks) = omega arith in
    and_from (nat_le (suc (length rounds)) (loops_open (blocks_at list passed))) (are_open list rounds) (le_holds (suc (length rounds)) (loops_open (blocks_at list passed)) (subst (λ b. suc (length rounds) ≤ loops_open b) (sym e) one)) o

begun_open : (list : List Statement) (view : ScriptView) (open_blocks : List Block) (times : ℕ) → blocks_at list view.passed ≡ blocks.Loop ∷ open_blocks → length view.rounds ≤ loops_open open_blocks → are_open list view.rounds ≡ true → are_open list (begin_loop view times).1.rounds ≡ true
begun_open list view open_blocks zero e h o = o
begun_open list view open_blocks (suc left) e h o = open_entered list view.passed view.rounds (Some left) open_blocks e h o

run_open : (list : List Statement) (view : ScriptView) (statement : Statement) (open_blocks : List Block) → blocks_at list view.passed ≡ blocks_after open_blocks statement → length view.rounds ≤ loops_open open_blocks → are_open list view.rounds ≡ true → are_open list (run view statement).1.rounds ≡ true
run_open list view (statements.Loop None) open_blocks e h o = open_entered list view.passed view.rounds None open_blocks e h o
run_open list view (statements.Loop (Some rounds)) open_blocks e h o = begun_open list view open_blocks (num_value view rounds) e h o
run_open list view statements.EndLoop open_blocks e h o = open_outside list view.rounds o
run_open list view statements.Break open_blocks e h o = open_outside list view.rounds o
run_open list view statements.Return open_blocks e h o = refl
run_open list view (statements.Fail errno) open_blocks e h o = refl
run_open list view _ open_blocks e h o = o

behind_open : (list : List Statement) (mode : Mode) (view : ScriptView) (statement : Statement) (open_blocks : List Block) → blocks_at list view.passed ≡ blocks_after open_blocks statement → length view.rounds ≤ loops_left mode open_blocks → are_open list view.rounds ≡ true → are_open list (behind mode view statement).1.rounds ≡ true
behind_open list Runs view statement open_blocks e h o = run_open list view statement open_blocks e h o
behind_open list _ view statement open_blocks e h o = o

-- so what is entered fits behind a statement that is run or passed over
pub behind_fits : (list : List Statement) (mode : Mode) (view : ScriptView) (statement : Statement) (new : ScriptView) → nests in_program list ≡ true → slice_get list view.passed ≡ Some statement → new ≡ (behind mode (passing view) statement).1 → new.passed ≡ suc view.passed → Fits list mode view → Fits list (behind mode (passing view) statement).0 new
behind_fits list mode view statement new n e v p f =
    let there : Stands (blocks_at list view.passed) (blocks_at list (suc view.passed)) statement = stands_at in_program list view.passed statement n e in
    record {
      opens = subst (λ w. are_open list w.rounds ≡ true) (sym v) (behind_open list mode (passing view) statement (blocks_at list view.passed) there.after f.few f.opens);
      few = subst (λ w. length w.rounds ≤ loops_left (behind mode (passing view) statement).0 (blocks_at list new.passed)) (sym v)
          (subst (λ b. length (behind mode (passing view) statement).1.rounds ≤ loops_left (behind mode (passing view) statement).0 b) (sym there.after ∙ ap (blocks_at list) (sym p)) (behind_few mode (passing view) statement (blocks_at list view.passed) there.stands f.few));
    }

-- no fewer are open before a statement than behind it with the loop that it ends
ended_enough : (statement : Statement) (open_blocks : List Block) → stands open_blocks statement ≡ true → loops_open open_blocks ≤ with_ended (Some statement) (loops_open (blocks_after open_blocks statement))
ended_enough statements.EndLoop (blocks.Loop ∷ outer) s = omega arith
ended_enough statements.EndLoop _ s = cc
ended_enough statements.EndIf (blocks.If ∷ outer) s = omega arith
ended_enough statements.EndIf (blocks.Else ∷ outer) s = omega arith
ended_enough statements.EndIf _ s = cc
ended_enough statements.Else (blocks.If ∷ outer) s = omega arith
ended_enough statements.Else _ s = cc
ended_enough statements.Finally (blocks.Program ∷ []) s = omega arith
ended_enough statements.Finally _ s = cc
ended_enough _ open_blocks s = omega arith

-- a view on its way that passes a statement has its loops open
pub passed_opens : (list : List Statement) (mode : Mode) (view : ScriptView) (statement : Statement) → nests in_program list ≡ true → slice_get list view.passed ≡ Some statement → Fits list mode view → opens_in list (passing view) ≡ true
passed_opens list mode view statement n e f =
    let there : Stands (blocks_at list view.passed) (blocks_at list (suc view.passed)) statement = stands_at in_program list view.passed statement n e in
    let left = left_less mode (blocks_at list view.passed) in
    let few = f.few in
    let enough = ended_enough statement (blocks_at list view.passed) there.stands in
    let fits : length view.rounds ≤ with_ended (Some statement) (loops_open (blocks_after (blocks_at list view.passed) statement)) = omega arith in
    let here : length view.rounds ≤ with_ended (slice_get list view.passed) (loops_open (blocks_at list (suc view.passed))) = subst (λ b. length view.rounds ≤ with_ended (slice_get list view.passed) (loops_open b)) (sym there.after) (subst (λ o. length view.rounds ≤ with_ended o (loops_open (blocks_after (blocks_at list view.passed) statement))) (sym e) fits) in
    and_from (are_open list view.rounds) (nat_le (length view.rounds) (with_ended (slice_get list view.passed) (loops_open (blocks_at list (suc view.passed))))) f.opens (le_holds (length view.rounds) (with_ended (slice_get list view.passed) (loops_open (blocks_at list (suc view.passed)))) here)

no_less : (o : Option Statement) (n : ℕ) → n ≤ with_ended o n
no_less (Some statements.EndLoop) n = omega arith
no_less _ n = omega arith

-- so has one that stops where it is
pub stopped_opens : (list : List Statement) (mode : Mode) (view : ScriptView) (o : Option Statement) → Fits list mode view → (are_open list view.rounds && nat_le (length view.rounds) (with_ended o (loops_open (blocks_at list view.passed)))) ≡ true
stopped_opens list mode view o f =
    let left = left_less mode (blocks_at list view.passed) in
    let few = f.few in
    let own = no_less o (loops_open (blocks_at list view.passed)) in
    let here : length view.rounds ≤ with_ended o (loops_open (blocks_at list view.passed)) = omega arith in
    and_from (are_open list view.rounds) (nat_le (length view.rounds) (with_ended o (loops_open (blocks_at list view.passed)))) f.opens (le_holds (length view.rounds) (with_ended o (loops_open (blocks_at list view.passed))) here)
