-- What a coroutine's program means: the view after each answer and the call that it makes, and how many of its own steps it has left.
use Rattle.std.specs.Prelude.{◌≡◌, ◌⊎◌, ℕ, ◌<◌, ◌≤◌, ◌^◌, List, length, Bool, true, Option, Some, None}
use Rattle.dill_base.specs.declared.errno.Errno.{Errno}
use Rattle.dill_base.specs.declared.errno.Errno.TheVariants.{Ecanceled}
use Rattle.dill_calls.specs.declared.answer.Answer.{Answer}
use Rattle.dill_calls.specs.declared.answer.Answer.TheVariants.{Fault}
use Rattle.dill_calls.specs.declared.body.Next.{Next}
use Rattle.dill_calls.specs.declared.body.Next.TheVariants as nexts
use Rattle.dill_calls.specs.declared.call.Call.{Call}
use Rattle.dill_calls.specs.declared.call.Call.TheVariants.{Pass}
use Rattle.dill_calls.specs.declared.word.Word.{Word}
use Rattle.dill_calls.specs.declared.word.Word.TheVariants.{Set, Join}
use Rattle.dill_calls.specs.CallTable.{word_of, is_start, is_quiet, build_takes_memory}

-- what a program does once it has its answer
pub data Move : Type 0 where
  Calls : Call → Move
  Ends : Option Errno → Move

-- a program, by the views of its coroutines
pub record Program (V : Type 0) : Type 0 where
  -- the views that a coroutine can have
  pub real : V → Bool
  -- the view after an answer, and what is done then
  pub next : V → Answer → V × Move
  -- the view after an answer, where memory for the call was refused
  pub short : V → Answer → V
  -- the word of the call that was made last, `start` before the first
  pub said : V → Word
  -- how many more answers of the lowering kind it can be given
  pub left : V → ℕ
  pub most : V → ℕ
  -- its script has a program of this number with so many arguments
  pub knows : V → ℕ → ℕ → Bool
  -- a new coroutine of such a program with these arguments
  pub child : V → ℕ → List ℕ → V

-- the answers that lower what is left: that of a program's start, of a quiet call, and ECANCELED
abbrev pub Lowers : Word → Answer → Type 0
Lowers word answer = (is_start word ≡ true) ⊎ (is_quiet word ≡ true) ⊎ (answer ≡ Fault Ecanceled)

-- the word of the statements that keep bytes in a register
abbrev pub PassesWell : Call → Type 0
PassesWell (Pass word fault) = (word ≡ Set) ⊎ (word ≡ Join)
PassesWell call = Unit {0}

-- a view after an answer, at which the call of this word is made
pub record GoesOn {V : Type 0} (p : Program V) (old : V) (answer : Answer) (word : Word) (new : V) : Type 0 where
  pub real : p.real new ≡ true
  pub some : 1 ≤ p.left new
  pub within : p.left new ≤ p.most new
  pub stays : p.most new ≡ p.most old
  pub said : p.said new ≡ word
  pub lower : Lowers (p.said old) answer → p.left new < p.left old

-- the law of a move: with its call, and also where memory for that call was refused
abbrev pub Moves : {V : Type 0} → Program V → V → Answer → V × Move → Type 0
Moves p old answer (new, Calls call) = PassesWell call × GoesOn p old answer (word_of call) new × GoesOn p old answer (word_of call) (p.short old answer)
Moves p old answer (new, Ends outcome) = p.real new ≡ true

-- a coroutine before its first turn
pub record Begins {V : Type 0} (p : Program V) (view : V) : Type 0 where
  pub real : p.real view ≡ true
  pub start : is_start (p.said view) ≡ true
  pub some : 1 ≤ p.left view
  pub whole : p.left view ≡ p.most view

-- the law of programs
pub record IsLawful {V : Type 0} (p : Program V) : Type 0 where
  pub small : (view : V) → p.real view ≡ true → p.most view < 2 ^ 32
  pub within : (view : V) → p.real view ≡ true → 1 ≤ p.left view → p.left view ≤ p.most view
  pub moves : (view : V) (answer : Answer) → p.real view ≡ true → 1 ≤ p.left view → Moves p view answer (p.next view answer)
  pub child : (view : V) (program : ℕ) (args : List ℕ) → p.real view ≡ true → p.knows view program (length args) ≡ true → Begins p (p.child view program args)

-- the word of the call, where there is one
abbrev pub moved_word : Move → Option Word
moved_word (Calls call) = Some (word_of call)
moved_word (Ends outcome) = None

-- a body went on as its program says, or memory for its call was refused, where that takes any
abbrev pub Turns : {V : Type 0} → Program V → V → Answer → V → Next → Type 0
Turns p old answer new (nexts.Call call) = p.next old answer ≡ (new, Calls call)
Turns p old answer new (nexts.Lack word) = (build_takes_memory word ≡ true) × (moved_word (p.next old answer).1 ≡ Some word) × (new ≡ p.short old answer)
Turns p old answer new (nexts.End outcome) = p.next old answer ≡ (new, Ends outcome)
