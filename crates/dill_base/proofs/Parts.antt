-- Parts of bytes that went out.
use Rattle.std.proofs.Common.{◌≡◌, ◌∙◌, ℕ, ◌<◌, Bool, true, false, if◌then◌else◌, List, [], ◌++◌, length, take, drop, Some, refl, sym, ap, arith, length-drop, take-append-drop}
use Rattle.std.proofs.lemmas.List.{append-nil}
use Rattle.dill_base.specs.Sinks.{AppendsPart}

pub nothing : (old bytes : List ℕ) → AppendsPart (Some old) (Some old) bytes
nothing old bytes = ([], record { rest = bytes; whole = refl; proper = λ h. h }, sym (append-nil old))

pub front : (old bytes : List ℕ) (n : ℕ) → n < length bytes → AppendsPart (Some old) (Some (old ++ take n bytes)) bytes
front old bytes n lt = (take n bytes, record { rest = drop n bytes; whole = sym (take-append-drop n bytes); proper = λ _. simp length-drop (omega arith) }, refl)

-- what went out where the front was taken, or could not be
pub front_or_nothing : (old new bytes front : List ℕ) (n : ℕ) (ok : Bool) → n < length bytes → front ≡ take n bytes → new ≡ (if ok then old ++ front else old) → AppendsPart (Some old) (Some new) bytes
front_or_nothing old new bytes front n true lt is e = (take n bytes, record { rest = drop n bytes; whole = sym (take-append-drop n bytes); proper = λ _. simp length-drop (omega arith) }, e ∙ ap (λ (l : List ℕ). old ++ l) is)
front_or_nothing old new bytes front n false lt is e = ([], record { rest = bytes; whole = refl; proper = λ h. h }, e ∙ sym (append-nil old))
