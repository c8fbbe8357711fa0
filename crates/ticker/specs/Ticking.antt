-- A program that sleeps so many times, 10 milliseconds each, and ends: what it does, and that it keeps the law of programs.
use Rattle.std.proofs.Common.{◌≡◌, ◌≤◌, ◌<◌, ◌+◌, ℕ, zero, suc, Bool, true, false, ◌&&◌, ◌==◌, Some, None, nat_le, nat_lt, if◌then◌else◌, refl, arith}
use Rattle.std.proofs.lemmas.Bool.{and_from, and_parts}
use Rattle.std.proofs.lemmas.Bool.Decides.{nat_tests}
use Rattle.dill_base.specs.declared.deadline.Deadline.TheVariants.{After}
use Rattle.dill_calls.specs.declared.answer.Answer.{Answer}
use Rattle.dill_calls.specs.declared.answer.Answer.TheVariants.{Fault}
use Rattle.dill_calls.specs.declared.call.Call.TheVariants.{Msleep}
use Rattle.dill_calls.specs.declared.word.Word.{Word}
use Rattle.dill_calls.specs.declared.word.Word.TheVariants as words
use Rattle.dill_calls.specs.Program.{Program, Move, Calls, Ends, GoesOn, Moves, IsLawful}
use Rattle.dill_plain.specs.Plain.{MakesPlain, MovesPlain}

-- how many sleeps are to come, how many there are, and whether the first turn was taken
pub record View : Type 0 where
  pub to_come : ℕ
  pub all : ℕ
  pub begun : Bool

-- before its first turn
abbrev pub starting : ℕ → View
starting times = record { to_come = times; all = times; begun = false }

-- the next sleep, or the end where none is to come
abbrev pub next_sleep : View → ℕ → View × Move
next_sleep view zero = (record view { begun = true }, Ends None)
next_sleep view (suc n) = (record { to_come = n; all = view.all; begun = true }, Calls (Msleep (After 10)))

-- an errno ends it
abbrev pub next : View → Answer → View × Move
next view (Fault errno) = (record view { begun = true }, Ends (Some errno))
next view answer = next_sleep view view.to_come

abbrev pub said : View → Word
said view = if view.begun then words.Msleep else words.Start

abbrev pub is_real : View → Bool
is_real view = nat_le view.to_come view.all && nat_lt view.all 4294967295

-- Its own program is the only one, number 0, and takes no arguments. Its calls take no memory to be built.
abbrev pub ticking : Program View
ticking = record {
  real = is_real;
  next = next;
  short = λ view answer. (next view answer).0;
  said = said;
  left = λ view. view.to_come + 1;
  most = λ view. view.all + 1;
  knows = λ view program args. (program == 0) && (args == 0);
  child = λ view program args. starting view.all;
}

record Bounds (view : View) : Type 0 where
  less : view.to_come ≤ view.all
  small : view.all < 4294967295

bounds : (view : View) → is_real view ≡ true → Bounds view
bounds view real =
    let p = and_parts (nat_le view.to_come view.all) (nat_lt view.all 4294967295) real in
    record { less = grind (arith, nat_tests); small = grind (arith, nat_tests) }

real_of : (to_come all : ℕ) (begun : Bool) → to_come ≤ all → all < 4294967295 → is_real (record { to_come = to_come; all = all; begun = begun }) ≡ true
real_of to_come all begun less small = and_from (nat_le to_come all) (nat_lt all 4294967295) (grind (arith, nat_tests)) (grind (arith, nat_tests))

ends_real : (view : View) → is_real view ≡ true → is_real (record view { begun = true }) ≡ true
ends_real view real = let b = bounds view real in real_of view.to_come view.all true b.less b.small

goes_on : (view : View) (answer : Answer) (n : ℕ) → view.to_come ≡ suc n → Bounds view → GoesOn ticking view answer words.Msleep (record { to_come = n; all = view.all; begun = true })
goes_on view answer n e b = record {
  real = real_of n view.all true (omega (arith, e, b.less)) b.small;
  some = omega arith;
  within = omega (arith, e, b.less);
  stays = refl;
  said = refl;
  lower = λ lowers. omega (arith, e);
}

moves_sleep : (view : View) (answer : Answer) (n : ℕ) → view.to_come ≡ n → is_real view ≡ true → (ticking.short view answer ≡ (next_sleep view n).0) → Moves ticking view answer (next_sleep view n)
moves_sleep view answer zero e real same = ends_real view real
moves_sleep view answer (suc n) e real same =
    let g : GoesOn ticking view answer words.Msleep (record { to_come = n; all = view.all; begun = true }) = goes_on view answer n e (bounds view real) in
    (tt, g, rw same g)

moves : (view : View) (answer : Answer) → is_real view ≡ true → Moves ticking view answer (next view answer)
moves view (Fault errno) real = ends_real view real
moves view answer real = moves_sleep view answer view.to_come refl real refl

pub ticking_is_lawful : IsLawful ticking
ticking_is_lawful = record {
  small = λ view real. let b = bounds view real in omega (arith, b.small);
  within = λ view real some. let b = bounds view real in omega (arith, b.less);
  moves = λ view answer real some. moves view answer real;
  child = λ view program args real known. let b = bounds view real in record { real = real_of view.all view.all false (omega arith) b.small; start = refl; some = omega arith; whole = refl };
}

sleep_plain : (view : View) (n : ℕ) → MovesPlain (next_sleep view n)
sleep_plain view zero = tt
sleep_plain view (suc n) = refl

-- and makes plain calls alone
pub ticking_is_plain : MakesPlain ticking
ticking_is_plain view (Fault errno) real some = tt
ticking_is_plain view answer real some = sleep_plain view view.to_come
