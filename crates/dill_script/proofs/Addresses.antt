-- What was read as an address is written as it was.
use Rattle.std.proofs.Common.{◌≡◌, ℕ, ◌^◌, ◌<◌, length, List, [], ◌∷◌, ◌++◌, map, Bool, true, false, ◌==◌, nat_le, if◌then◌else◌, Option, Some, None, IfSome, decimal, refl, sym, ap, ◌∙◌, subst, arith}
use Rattle.std.specs.List.{join_with_byte}
use Rattle.std.proofs.lemmas.Bool.{eqb-true}
use Rattle.dill_base.specs.declared.status.Address.{Address}
use Rattle.dill_script.specs.Lines.{longer}
use Rattle.dill_script.specs.Numbers.{parts, each, number_up_to, address_with, address_in, address_of}
use Rattle.dill_script.specs.Printing.{address_text}
use Rattle.dill_script.proofs.Options.{if_only, if_joined}
use Rattle.dill_script.proofs.PlainsWritten.{number_is}

-- a byte at the front of the first of the parts
longer_joined : (c byte : ℕ) (xs : List (List ℕ)) → join_with_byte c (longer byte xs) ≡ byte ∷ join_with_byte c xs
longer_joined c byte [] = refl
longer_joined c byte (x ∷ []) = refl
longer_joined c byte (x ∷ y ∷ ys) = refl

has_part : (c : ℕ) (xs : List (List ℕ)) (word : List ℕ) → 0 < length xs → join_with_byte c xs ≡ word → join_with_byte c ([] ∷ xs) ≡ c ∷ word
has_part c [] word l e = absurd (omega arith)
has_part c (x ∷ xs) word l e = ap (λ w. c ∷ w) e

longer_some : (byte : ℕ) (xs : List (List ℕ)) → 0 < length (longer byte xs)
longer_some byte [] = omega arith
longer_some byte (x ∷ xs) = omega arith

parts_of : (c byte : ℕ) (bytes : List ℕ) (b : Bool) → byte == c ≡ b → 0 < length (parts c bytes) → join_with_byte c (parts c bytes) ≡ bytes → (0 < length (if b then [] ∷ parts c bytes else longer byte (parts c bytes))) × (join_with_byte c (if b then [] ∷ parts c bytes else longer byte (parts c bytes)) ≡ byte ∷ bytes)
parts_of c byte bytes true e l j = (omega arith, has_part c (parts c bytes) bytes l j ∙ ap (λ x. x ∷ bytes) (sym (eqb-true byte c e)))
parts_of c byte bytes false e l j = (longer_some byte (parts c bytes), longer_joined c byte (parts c bytes) ∙ ap (λ w. byte ∷ w) j)

-- the parts, joined, are the plain token
pub parts_joined : (c : ℕ) (word : List ℕ) → (0 < length (parts c word)) × (join_with_byte c (parts c word) ≡ word)
parts_joined c [] = (omega arith, refl)
parts_joined c (byte ∷ bytes) = let h = parts_joined c bytes in parts_of c byte bytes (byte == c) refl h.0 h.1

-- each of some numbers is written as its plain token
pub each_number : (greatest : ℕ) (words : List (List ℕ)) → greatest < 2 ^ 64 → IfSome (each (number_up_to greatest) words) (λ ns. map decimal ns ≡ words)
each_number greatest [] small = refl
each_number greatest (word ∷ words) small = if_joined (λ n. decimal n ≡ word) (λ ns. map decimal ns ≡ words) (λ ns. map decimal ns ≡ word ∷ words) (number_up_to greatest word) (each (number_up_to greatest) words) (λ n ns e f. same_lists (decimal n) word (map decimal ns) words e f) (number_is greatest word small) (each_number greatest words small)
  where
    same_lists : (x y : List ℕ) (xs ys : List (List ℕ)) → x ≡ y → xs ≡ ys → x ∷ xs ≡ y ∷ ys
    same_lists x y xs ys e f = cc

written : (ip : List ℕ) (port : ℕ) (four : List (List ℕ)) (last : List ℕ) → map decimal ip ≡ four → decimal port ≡ last → join_with_byte 46 (map decimal ip) ++ 58 ∷ decimal port ≡ join_with_byte 46 four ++ 58 ∷ last
written ip port four last e f = rw e (rw f refl)

with_is : (o : Option (List ℕ)) (p : Option ℕ) (four : List (List ℕ)) (last : List ℕ) → IfSome o (λ ns. map decimal ns ≡ four) → IfSome p (λ n. decimal n ≡ last) → IfSome (address_with o p) (λ a. address_text a ≡ join_with_byte 46 four ++ 58 ∷ last)
with_is None p four last h k = tt
with_is (Some ip) None four last h k = tt
with_is (Some ip) (Some port) four last h k = if_only (λ (a : Address). address_text a ≡ join_with_byte 46 four ++ 58 ∷ last) (nat_le 1 port) (record { ip = ip; port = port }) (λ e. written ip port four last h k)

in_is : (groups : List (List (List ℕ))) → IfSome (address_in groups) (λ a. address_text a ≡ join_with_byte 58 (map (join_with_byte 46) groups))
in_is ((first ∷ second ∷ third ∷ fourth ∷ []) ∷ (port ∷ []) ∷ []) = with_is (each (number_up_to 255) (first ∷ second ∷ third ∷ fourth ∷ [])) (number_up_to 65535 port) (first ∷ second ∷ third ∷ fourth ∷ []) port (each_number 255 (first ∷ second ∷ third ∷ fourth ∷ []) (omega arith)) (number_is 65535 port (omega arith))
in_is _ = tt

joined_again : (words : List (List ℕ)) → map (join_with_byte 46) (map (parts 46) words) ≡ words
joined_again [] = refl
joined_again (word ∷ words) = same_lists (join_with_byte 46 (parts 46 word)) word (map (join_with_byte 46) (map (parts 46) words)) words (parts_joined 46 word).1 (joined_again words)
  where
    same_lists : (x y : List ℕ) (xs ys : List (List ℕ)) → x ≡ y → xs ≡ ys → x ∷ xs ≡ y ∷ ys
    same_lists x y xs ys e f = cc

-- an address is written as it was read
pub address_is : (word : List ℕ) → IfSome (address_of word) (λ a. address_text a ≡ word)
address_is word = subst (λ w. IfSome (address_of word) (λ a. address_text a ≡ w)) (ap (join_with_byte 58) (joined_again (parts 58 word)) ∙ (parts_joined 58 word).1) (in_is (map (parts 46) (parts 58 word)))
