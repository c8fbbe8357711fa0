-- Worked messages, computed by the definitions.
use Rattle.std.specs.Prelude.{◌≡◌, [], ◌∷◌, ℕ, List, true, false, map, take, replicate, Ok, Err}
use Rattle.dill_base.specs.declared.errno.Errno.TheVariants.{Emsgsize, Einval}
use Rattle.dill_base.specs.declared.errno.Front.TheVariants.{Whole, Need, Fault}
use Rattle.dill_frames.specs.declared.prefix.PrefixForm.{PrefixForm}
use Rattle.dill_frames.specs.Prefix.{prefix_front, prefix_due}
use Rattle.dill_frames.specs.Suffix.{suffix_front, suffix_due}

-- so many bytes, the first counts most
abbrev pub big : ℕ → PrefixForm
big size = record { size = size; little = false }

-- so many bytes, the first counts least
abbrev pub little : ℕ → PrefixForm
little size = record { size = size; little = true }

-- the text `hello`
abbrev pub hello : List ℕ
hello = 104 ∷ 101 ∷ 108 ∷ 108 ∷ 111 ∷ []

-- CR, LF
abbrev pub crlf : List ℕ
crlf = 13 ∷ 10 ∷ []

-- the text `abcde` and its line end
abbrev pub abcde_line : List ℕ
abcde_line = 97 ∷ 98 ∷ 99 ∷ 100 ∷ 101 ∷ crlf

pub record Rows : Type 0 where
  -- PREFIX, two bytes
  pub hello_big : prefix_due (big 2) hello ≡ Ok (0 ∷ 5 ∷ hello)
  pub hello_big_waits : map (λ n. prefix_front (big 2) (take n (0 ∷ 5 ∷ hello)) 5) (1 ∷ 2 ∷ 3 ∷ 4 ∷ 5 ∷ 6 ∷ []) ≡ Need ∷ Need ∷ Need ∷ Need ∷ Need ∷ Need ∷ []
  pub hello_big_read : prefix_front (big 2) (0 ∷ 5 ∷ hello) 5 ≡ Whole 2 7 7
  pub hello_little : prefix_due (little 2) hello ≡ Ok (5 ∷ 0 ∷ hello)
  pub hello_little_read : prefix_front (little 2) (5 ∷ 0 ∷ hello) 5 ≡ Whole 2 7 7
  pub empty : prefix_due (big 2) [] ≡ Ok (0 ∷ 0 ∷ [])
  pub empty_read : prefix_front (big 2) (0 ∷ 0 ∷ []) 5 ≡ Whole 2 2 2
  -- PREFIX, a length that says too much
  pub highest_waits : map (λ n. prefix_front (big 8) (replicate n 255) 10) (1 ∷ 2 ∷ 3 ∷ 4 ∷ 5 ∷ 6 ∷ 7 ∷ []) ≡ Need ∷ Need ∷ Need ∷ Need ∷ Need ∷ Need ∷ Need ∷ []
  pub highest_refused : prefix_front (big 8) (replicate 8 255) 10 ≡ Fault Emsgsize
  pub five_refused : prefix_front (big 1) (5 ∷ []) 4 ≡ Fault Emsgsize
  -- SUFFIX, lines
  pub cr_sent : suffix_due crlf (97 ∷ 98 ∷ 13 ∷ []) ≡ Ok (97 ∷ 98 ∷ 13 ∷ 13 ∷ 10 ∷ [])
  pub cr_read : suffix_front crlf (97 ∷ 98 ∷ 13 ∷ 13 ∷ 10 ∷ []) 3 ≡ Whole 0 3 5
  pub line_end_refused : suffix_due crlf (97 ∷ 13 ∷ 10 ∷ 98 ∷ []) ≡ Err Einval
  pub long_line_waits : suffix_front crlf (take 5 abcde_line) 4 ≡ Need
  pub long_line_refused : suffix_front crlf (take 6 abcde_line) 4 ≡ Fault Emsgsize
