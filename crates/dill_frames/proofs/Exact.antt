-- Each answer exactly where its cause stands, for both framings.
use Rattle.std.proofs.Common.{◌≡◌, ◌<◌, ◌≤◌, ◌+◌, ◌-◌, ◌++◌, [], List, ℕ, length, take, drop, arith, sym, ap, ◌∙◌, refl, subst, append_assoc, append-nil, length-append}
use Rattle.std.proofs.lemmas.List.{take-append-drop, take_at, drop_at}
use Rattle.dill_base.specs.declared.errno.Errno.{Errno}
use Rattle.dill_base.specs.declared.errno.Front.{Front}
use Rattle.dill_base.specs.declared.errno.Front.TheVariants.{Whole, Need, Fault}
use Rattle.dill_base.specs.Reading.{IsShown}
use Rattle.dill_frames.specs.declared.prefix.PrefixForm.{PrefixForm}
use Rattle.dill_frames.specs.Judging.{IsMessage, IsSpelled, IsExact, LiesIn}
use Rattle.dill_frames.specs.Prefix.{AreBytes, prefix_front, length_bytes, PrefixSpells, PrefixShows}
use Rattle.dill_frames.specs.Suffix.{suffix_front, SuffixSpells, SuffixShows}
use Rattle.dill_frames.proofs.Fronts.{says_fault}
use Rattle.dill_frames.proofs.Judging.{exact_front, early_front, least_front, whole_fault}
use Rattle.dill_frames.proofs.Kept.{prefix_stays, prefix_lies, suffix_stays, suffix_lies}
use Rattle.dill_frames.proofs.PrefixLaws.{prefix_is_front, prefix_again, prefix_shown, length_head, spelled_says, Spelled}
use Rattle.dill_frames.proofs.SuffixLaws.{suffix_is_front, suffix_again, suffix_shown, suffix_fault_room}

is_message : {a b c : ℕ} (f : Front) → f ≡ Whole a b c → IsMessage f
is_message f e = subst IsMessage (sym e) tt

pub prefix_exact : (form : PrefixForm) (limit : ℕ) (u : List ℕ) → AreBytes u → IsExact (PrefixSpells form) (PrefixShows form limit) limit u (prefix_front form u limit)
prefix_exact form limit u bytes = exact_front (PrefixSpells form) (PrefixShows form limit) limit u (prefix_front form u limit) (prefix_is_front form limit u bytes) reads refuses
  where
    reads : IsSpelled (PrefixSpells form) limit u → IsMessage (prefix_front form u limit)
    reads x = is_message (prefix_front form u limit) (ap (λ v. prefix_front form v limit) (sym (take-append-drop x.0 u)) ∙ prefix_again form x.1 (take x.0 u) (drop x.0 u) limit x.4 x.3)

    refuses : (e : Errno) → IsShown (PrefixShows form limit) u e → prefix_front form u limit ≡ Fault e
    refuses e x = ap (λ v. prefix_front form v limit) (sym (take-append-drop x.count u)) ∙ prefix_shown form e (take x.count u) (drop x.count u) limit x.shown

pub prefix_early : (form : PrefixForm) (m w : List ℕ) (limit n : ℕ) → PrefixSpells form m w → length m ≤ limit → n < length w → prefix_front form (take n w) limit ≡ Need
prefix_early form m w limit n s h l =
    let whole : prefix_front form w limit ≡ Whole form.size (length w) (length w) = ap (λ v. prefix_front form v limit) (sym (append-nil w)) ∙ prefix_again form m w [] limit s h in
    early_front (λ u. prefix_front form u limit) w form.size (length w) n
    (λ u v f e j. prefix_stays form u v limit f e j)
    (λ u p q r e. let k : LiesIn u limit p q r = prefix_lies form u limit p q r e in k.there)
    whole l

pub prefix_least : (form : PrefixForm) (e : Errno) (w : List ℕ) (limit n : ℕ) → PrefixShows form limit e w → n < length w → prefix_front form (take n w) limit ≡ Need
prefix_least form e w limit n s l =
    let shown : prefix_front form w limit ≡ Fault e = ap (λ v. prefix_front form v limit) (sym (append-nil w)) ∙ prefix_shown form e w [] limit s in
    least_front (λ u. prefix_front form u limit) w e n form.size
    (λ u v f q j. prefix_stays form u v limit f q j)
    (λ u d q. (says_fault form u limit d q).0)
    shown (omega (arith, s.least))

pub prefix_apart : (form : PrefixForm) (e : Errno) (m w rest v more : List ℕ) (limit : ℕ) → PrefixSpells form m w → length m ≤ limit → PrefixShows form limit e v → w ++ rest ≡ v ++ more → ⊥
prefix_apart form e m w rest v more limit s h t q =
    whole_fault (sym (prefix_again form m w rest limit s h) ∙ ap (λ u. prefix_front form u limit) q ∙ prefix_shown form e v more limit t)

pub prefix_message : (form : PrefixForm) (m w rest : List ℕ) → PrefixSpells form m w → take (length w - form.size) (drop form.size (w ++ rest)) ≡ m
prefix_message form m w rest s =
    let k : Spelled form m w rest = spelled_says form m w rest s in
    let head : List ℕ = length_bytes form (length m) in
    let size : length head ≡ form.size = length_head form (length m) in
    let count : length w - form.size ≡ length m = omega (arith, k.count) in
    let cut : drop form.size (w ++ rest) ≡ m ++ rest = ap (λ x. drop form.size (x ++ rest)) s.whole ∙ ap (drop form.size) (append_assoc head m rest) ∙ drop_at head (m ++ rest) form.size size in
    ap (λ i. take i (drop form.size (w ++ rest))) count ∙ ap (take (length m)) cut ∙ take_at m rest (length m) refl

pub prefix_one : (form : PrefixForm) (m n w : List ℕ) → PrefixSpells form m w → PrefixSpells form n w → m ≡ n
prefix_one form m n w s t = sym (prefix_message form m w [] s) ∙ prefix_message form n w [] t

pub suffix_exact : (t : List ℕ) (limit : ℕ) (u : List ℕ) → 0 < length t → IsExact (SuffixSpells t) (SuffixShows t limit) limit u (suffix_front t u limit)
suffix_exact t limit u z = exact_front (SuffixSpells t) (SuffixShows t limit) limit u (suffix_front t u limit) (suffix_is_front t limit u z) reads refuses
  where
    reads : IsSpelled (SuffixSpells t) limit u → IsMessage (suffix_front t u limit)
    reads x = is_message (suffix_front t u limit) (ap (λ v. suffix_front t v limit) (sym (take-append-drop x.0 u)) ∙ suffix_again t x.1 (take x.0 u) (drop x.0 u) limit z x.4 x.3)

    refuses : (e : Errno) → IsShown (SuffixShows t limit) u e → suffix_front t u limit ≡ Fault e
    refuses e x = ap (λ v. suffix_front t v limit) (sym (take-append-drop x.count u)) ∙ suffix_shown t e (take x.count u) (drop x.count u) limit z x.shown

pub suffix_early : (t m w : List ℕ) (limit n : ℕ) → 0 < length t → SuffixSpells t m w → length m ≤ limit → n < length w → suffix_front t (take n w) limit ≡ Need
suffix_early t m w limit n z s h l =
    let whole : suffix_front t w limit ≡ Whole 0 (length m) (length w) = ap (λ v. suffix_front t v limit) (sym (append-nil w)) ∙ suffix_again t m w [] limit z s h in
    early_front (λ u. suffix_front t u limit) w 0 (length m) n
    (λ u v f e j. suffix_stays t u v limit f z e j)
    (λ u p q r e. let k : LiesIn u limit p q r = suffix_lies t u limit p q r e in k.there)
    whole l

pub suffix_least : (t : List ℕ) (e : Errno) (w : List ℕ) (limit n : ℕ) → 0 < length t → SuffixShows t limit e w → n < length w → suffix_front t (take n w) limit ≡ Need
suffix_least t e w limit n z s l =
    let shown : suffix_front t w limit ≡ Fault e = ap (λ v. suffix_front t v limit) (sym (append-nil w)) ∙ suffix_shown t e w [] limit z s in
    least_front (λ u. suffix_front t u limit) w e n (limit + length t)
    (λ u v f q j. suffix_stays t u v limit f z q j)
    (λ u d q. suffix_fault_room t u limit d q)
    shown (omega (arith, s.least))

pub suffix_apart : (t : List ℕ) (e : Errno) (m w rest v more : List ℕ) (limit : ℕ) → 0 < length t → SuffixSpells t m w → length m ≤ limit → SuffixShows t limit e v → w ++ rest ≡ v ++ more → ⊥
suffix_apart t e m w rest v more limit z s h r q =
    whole_fault (sym (suffix_again t m w rest limit z s h) ∙ ap (λ u. suffix_front t u limit) q ∙ suffix_shown t e v more limit z r)

pub suffix_message : (t m w rest : List ℕ) → SuffixSpells t m w → take (length m) (w ++ rest) ≡ m
suffix_message t m w rest s = ap (λ x. take (length m) (x ++ rest)) s.whole ∙ ap (take (length m)) (append_assoc m t rest) ∙ take_at m (t ++ rest) (length m) refl

pub suffix_one : (t m n w : List ℕ) → SuffixSpells t m w → SuffixSpells t n w → m ≡ n
suffix_one t m n w s r =
    let x : length w ≡ length m + length t = ap length s.whole ∙ length-append m t in
    let y : length w ≡ length n + length t = ap length r.whole ∙ length-append n t in
    let same : length m ≡ length n = omega arith in
    sym (suffix_message t m w [] s) ∙ ap (λ k. take k (w ++ [])) same ∙ suffix_message t n w [] r
