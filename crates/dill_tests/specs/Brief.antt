-- A program that ends at its first turn, for the tests.
use Rattle.std.specs.Prelude.{true, None, refl}
use Rattle.std.proofs.Common.{lit<, lit≤}
use Rattle.dill_calls.specs.declared.word.Word.TheVariants.{Start}
use Rattle.dill_calls.specs.Program.{Program, IsLawful, Ends}

module _ {V : Type 0} where
  abbrev pub brief : Program V
  brief = record {
    real = λ view. true;
    next = λ view answer. (view, Ends None);
    short = λ view answer. view;
    said = λ view. Start;
    left = λ view. 1;
    most = λ view. 1;
    knows = λ view program count. true;
    child = λ view program args. view;
  }

  -- it keeps the law of programs
  pub brief_is_lawful : IsLawful brief
  brief_is_lawful = record {
    small = λ view real. lit< tt;
    within = λ view real some. lit≤ tt;
    moves = λ view answer real some. refl;
    child = λ view program args real known. record { real = refl; start = refl; some = lit≤ tt; whole = refl };
  }
