use Rattle.std.proofs.Common.{◌≡◌, ◌≤◌, ◌+◌, ◌-◌, ℕ, List, length, take, drop, arith, refl, ap, ◌∙◌, length-drop}
use Rattle.std.specs.List.{prefix_len, suffix_len}
use Rattle.std.proofs.lemmas.List.{take_all}
use Rattle.std.proofs.lemmas.List.Sums.{suffix_len-le-length}
use Rattle.dill_http.specs.Bytes.{is_blank}
use Rattle.dill_http.specs.Reading.{bare_from, span}
use Rattle.dill_http.proofs.field.bare_span.Goals as goal

rest_from : (bytes : List ℕ) (n : ℕ) → take (length bytes - n) (drop n bytes) ≡ drop n bytes
rest_from bytes n = take_all (length bytes - n) (drop n bytes) (omega (arith, length-drop n bytes))

same_span : (a b c d : ℕ) → a ≡ c → b ≡ d → span a b ≡ span c d
same_span a b c d e f = cc

found : (line : List ℕ) (place blanks bare : ℕ) → place ≤ length line → place + blanks ≤ length line
    → blanks ≡ prefix_len is_blank (take (length line - place) (drop place line))
    → bare ≡ length (take (length line - (place + blanks)) (drop (place + blanks) line)) - suffix_len is_blank (take (length line - (place + blanks)) (drop (place + blanks) line))
    → span (place + blanks) (place + blanks + bare) ≡ bare_from line place
found line place blanks bare h k e f =
    let b : blanks ≡ prefix_len is_blank (drop place line) = e ∙ ap (prefix_len is_blank) (rest_from line place) in
    let g : bare ≡ length (drop (place + blanks) line) - suffix_len is_blank (drop (place + blanks) line) = f ∙ ap (λ x. length x - suffix_len is_blank x) (rest_from line (place + blanks)) in
    let l : length (drop (place + blanks) line) ≡ length line - (place + blanks) = length-drop (place + blanks) line in
    let s : suffix_len is_blank (drop (place + blanks) line) ≤ length (drop (place + blanks) line) = suffix_len-le-length is_blank (drop (place + blanks) line) in
    let to : place + blanks + bare ≡ length line - suffix_len is_blank (drop (place + blanks) line) = omega arith in
    same_span (place + blanks) (place + blanks + bare) (place + blanks) (length line - suffix_len is_blank (drop (place + blanks) line)) refl to
    ∙ ap (λ n. span (place + n) (length line - suffix_len is_blank (drop (place + n) line))) b

pub returns : goal.returns
returns c = found c.args.line.now c.args.place _ _ c.requires (omega arith) c.blank_length.ensures.run c.bare_length.ensures.bare
