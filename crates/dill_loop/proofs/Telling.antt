-- What tests of numbers and of two facts tell.
use Rattle.std.proofs.Common.{◌≡◌, ℕ, ◌<◌, Bool, true, false, ◌&&◌, ◌||◌, not, nat_lt, ◌==◌, refl, arith, true≢false, sym}
use Rattle.std.proofs.lemmas.Bool.Decides.{nat_tests}

pub same : (a b : ℕ) → (a == b) ≡ true → a ≡ b
same a b e = grind (arith, nat_tests)

pub before : (a b : ℕ) → nat_lt a b ≡ true → a < b
before a b e = grind (arith, nat_tests)

pub behind : (a b : ℕ) → (a == b) ≡ false → nat_lt a b ≡ false → b < a
behind a b e f = grind (arith, nat_tests)

pub itself : (a : ℕ) → (a == a) ≡ true
itself a = grind (arith, nat_tests)

-- a number that is one isn't another
pub one_of : (n x link : ℕ) → (n == link) ≡ true → (x == link) ≡ false → (n == x) ≡ false
one_of n x link e f = grind (arith, nat_tests)

pub other_of : (n x link : ℕ) → (n == x) ≡ true → (x == link) ≡ false → (n == link) ≡ false
other_of n x link e f = grind (arith, nat_tests)

pub or_left : (a b : Bool) → a ≡ true → (a || b) ≡ true
or_left true b e = refl
or_left false b e = absurd (true≢false (sym e))

pub or_right : (a b : Bool) → b ≡ true → (a || b) ≡ true
or_right true b e = refl
or_right false b e = e

-- one of two that are so in turn
pub or_both : (a b c d : Bool) → (a ≡ true → c ≡ true) → (b ≡ true → d ≡ true) → (a || b) ≡ true → (c || d) ≡ true
or_both true b c d f g e = or_left c d (f refl)
or_both false b c d f g e = or_right c d (g e)

-- the second, where the first is not so
pub or_second : (a b : Bool) → a ≡ false → (a || b) ≡ true → b ≡ true
or_second true b f e = absurd (true≢false f)
or_second false b f e = e

pub and_first : (a b : Bool) → a ≡ false → not (a && b) ≡ true
and_first true b e = absurd (true≢false e)
and_first false b e = refl

pub and_second : (a b : Bool) → b ≡ false → not (a && b) ≡ true
and_second true b e = rw e refl
and_second false b e = refl
