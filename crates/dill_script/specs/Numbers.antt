-- What the plain tokens of a line mean: numbers, names, registers, addresses and errnos.
use Rattle.std.specs.Prelude.{ℕ, ◌+◌, ◌-◌, ◌*◌, List, [], ◌∷◌, length, map, find, fold, Bool, false, not, ◌&&◌, ◌||◌, ◌==◌, nat_le, if◌then◌else◌, Option, Some, None, option_map, bytes_eq}
use Rattle.std.specs.List.{list_all}
use Rattle.dill_base.specs.declared.status.Address.{Address}
use Rattle.dill_base.specs.declared.errno.Errno.{Errno}
use Rattle.dill_base.specs.declared.errno.Errno.TheVariants.{Ebadf, Enotsup, Einval, Ebusy, Epipe, Econnreset, Emsgsize, Emfile, Enomem, Ecanceled, Etimedout, Eproto, Econnrefused, Eaddrinuse, Eaddrnotavail, Ehostunreach}
use Rattle.dill_base.specs.Errnos.{errno_text}
use Rattle.dill_script.specs.declared.line.Register.{Register}
use Rattle.dill_script.specs.declared.line.Register.TheVariants as registers
use Rattle.dill_script.specs.Lines.{longer}

-- the first of a list that is written so
abbrev pub named : {X : Type 0} → (X → List ℕ) → List X → List ℕ → Option X
named text all word = find (λ x. bytes_eq (text x) word) all

-- the value where the test holds
abbrev pub only_if : {X : Type 0} → Bool → X → Option X
only_if test x = if test then Some x else None

-- 0 to 9
abbrev pub is_digit : ℕ → Bool
is_digit byte = nat_le 48 byte && nat_le byte 57

-- a to z
abbrev pub is_lower : ℕ → Bool
is_lower byte = nat_le 97 byte && nat_le byte 122

-- one digit or more, and `0` first only where it is alone
abbrev pub is_decimal : List ℕ → Bool
is_decimal [] = false
is_decimal (digit ∷ []) = is_digit digit
is_decimal (digit ∷ rest) = is_digit digit && (not (digit == 48) && list_all is_digit rest)

-- what digits mean
abbrev pub value_of : List ℕ → ℕ
value_of digits = fold (λ value digit. 10 * value + (digit - 48)) 0 digits

-- a number up to the greatest
abbrev pub number_up_to : ℕ → List ℕ → Option ℕ
number_up_to greatest word = only_if (is_decimal word && nat_le (value_of word) greatest) (value_of word)

-- a number of a script
abbrev pub number_of : List ℕ → Option ℕ
number_of word = number_up_to 9223372036854775807 word

-- a lower-case letter, and at most 31 more lower-case letters, digits or `_`
abbrev pub is_name : List ℕ → Bool
is_name [] = false
is_name (first ∷ rest) = is_lower first && (nat_le (length rest) 31 && list_all (λ byte. is_lower byte || (is_digit byte || (byte == 95))) rest)

-- `n0` to `n15` and `b0` to `b15`
abbrev pub register_of : List ℕ → Option Register
register_of [] = None
register_of (letter ∷ rest) = if letter == 110 then option_map registers.Number (number_up_to 15 rest) else (if letter == 98 then option_map registers.Bytes (number_up_to 15 rest) else None)

-- the parts between separators
abbrev pub parts : ℕ → List ℕ → List (List ℕ)
parts separator [] = [] ∷ []
parts separator (byte ∷ bytes) = if byte == separator then [] ∷ parts separator bytes else longer byte (parts separator bytes)

-- an element before the others, where there are both
abbrev pub joined : {X : Type 0} → Option X → Option (List X) → Option (List X)
joined (Some x) (Some xs) = Some (x ∷ xs)
joined _ _ = None

-- what f gives of each, where it gives something of all
abbrev pub each : {X Y : Type 0} → (X → Option Y) → List X → Option (List Y)
each f [] = Some []
each f (x ∷ xs) = joined (f x) (each f xs)

-- four numbers up to 255, and a port from 1 on
abbrev pub address_with : Option (List ℕ) → Option ℕ → Option Address
address_with (Some ip) (Some port) = only_if (nat_le 1 port) (record { ip = ip; port = port })
address_with _ _ = None

-- an address from the parts of its parts
abbrev pub address_in : List (List (List ℕ)) → Option Address
address_in ((first ∷ second ∷ third ∷ fourth ∷ []) ∷ (port ∷ []) ∷ []) = address_with (each (number_up_to 255) (first ∷ second ∷ third ∷ fourth ∷ [])) (number_up_to 65535 port)
address_in _ = None

-- four numbers joined by `.`, then `:` and a port
abbrev pub address_of : List ℕ → Option Address
address_of word = address_in (map (parts 46) (parts 58 word))

-- all errnos
abbrev pub errnos : List Errno
errnos = Ebadf ∷ Enotsup ∷ Einval ∷ Ebusy ∷ Epipe ∷ Econnreset ∷ Emsgsize ∷ Emfile ∷ Enomem ∷ Ecanceled ∷ Etimedout ∷ Eproto ∷ Econnrefused ∷ Eaddrinuse ∷ Eaddrnotavail ∷ Ehostunreach ∷ []

-- an errno by its name
abbrev pub errno_of : List ℕ → Option Errno
errno_of word = named errno_text errnos word
