-- Bytes that go out in pieces.
use Rattle.std.proofs.Common.{◌≡◌, ◌∙◌, ℕ, ◌<◌, List, ◌++◌, length, take, drop, Option, [], refl, sym, ap, subst, arith, append_assoc, length-append, take-append-drop, append-nil}
use Rattle.std.specs.Io.KnownBytes.{Appends}
use Rattle.dill_base.specs.Sinks.{AppendsPart}
use Rattle.relay_trace.specs.Flows.{Flows}
use Rattle.relay_trace.proofs.Flowing.{appends_none, appends_trans}

pub nothing_yet : (a : Option (List ℕ)) (bytes : List ℕ) → Flows a a bytes bytes
nothing_yet a bytes = ([], appends_none a, refl)

-- a piece and what is behind it
pub cut_is : (count : ℕ) (rest piece behind : List ℕ) → piece ≡ take count rest → behind ≡ drop count rest → rest ≡ piece ++ behind
cut_is count rest piece behind p b = sym (ap (λ (l : List ℕ). l ++ behind) p ∙ ap (λ (l : List ℕ). take count rest ++ l) b ∙ take-append-drop count rest)

-- one piece more
pub one_more : (a b c : Option (List ℕ)) (bytes rest piece behind : List ℕ) → rest ≡ piece ++ behind → Flows a b bytes rest → Appends b c piece → Flows a c bytes behind
one_more a b c bytes rest piece behind cut (gone, out, whole) more = (
  gone ++ piece,
  appends_trans a b c gone piece out more,
  whole ∙ ap (λ (l : List ℕ). gone ++ l) cut ∙ sym (append_assoc gone piece behind),
)

-- all of them
pub all_of : (a b : Option (List ℕ)) (bytes rest : List ℕ) → rest ≡ [] → Flows a b bytes rest → Appends a b bytes
all_of a b bytes rest none (gone, out, whole) = subst (λ (l : List ℕ). Appends a b l) (sym (whole ∙ ap (λ (l : List ℕ). gone ++ l) none ∙ append-nil gone)) out

-- a front of them, where a piece isn't written whole
pub part_of : (a b c : Option (List ℕ)) (bytes rest piece behind : List ℕ) → rest ≡ piece ++ behind → Flows a b bytes rest → 0 < length piece → AppendsPart b c piece → AppendsPart a c bytes
part_of a b c bytes rest piece behind cut (gone, out, whole) some (part, is, more) = (
  gone ++ part,
  record {
    rest = is.rest ++ behind;
    whole = whole ∙ ap (λ (l : List ℕ). gone ++ l) (cut ∙ ap (λ (l : List ℕ). l ++ behind) is.whole ∙ append_assoc part is.rest behind) ∙ sym (append_assoc gone part (is.rest ++ behind));
    proper = λ any. longer (is.proper some);
  },
  appends_trans a b c gone part out more,
)
  where
    longer : 0 < length is.rest → 0 < length (is.rest ++ behind)
    longer l = omega (arith, length-append is.rest behind)
