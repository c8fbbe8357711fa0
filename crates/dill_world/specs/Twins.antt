-- The answer that a coroutine has and hasn't been given.
use Rattle.std.specs.Prelude.{Option, Some, None}
use Rattle.dill_calls.specs.declared.answer.Answer.{Answer}
use Rattle.dill_rules.specs.declared.coroutine.Mode.{Mode}
use Rattle.dill_rules.specs.declared.coroutine.Mode.TheVariants as modes

abbrev pub answer_in : Mode → Option Answer
answer_in (modes.Fresh word answer) = Some answer
answer_in (modes.Answered word answer) = Some answer
answer_in _ = None
