-- What a front keeps when more comes, in one shape for both framings.
use Rattle.std.proofs.Common.{◌≡◌, ◌<◌, ◌≤◌, ◌+◌, ◌-◌, ◌++◌, List, ℕ, length, take, drop, get_or, subst, arith, inl, inr, Ok}
use Rattle.dill_base.specs.declared.errno.Front.{Front}
use Rattle.dill_base.specs.declared.errno.Front.TheVariants.{Whole, Need, Fault}
use Rattle.dill_frames.specs.declared.prefix.PrefixForm.{PrefixForm}
use Rattle.dill_frames.specs.Prefix.{prefix_front, prefix_due, PrefixSpells, PrefixShows}
use Rattle.dill_frames.specs.Suffix.{suffix_front, suffix_due, SuffixSpells, SuffixShows}
use Rattle.dill_base.specs.Reading.{IsWhole, IsFront}
use Rattle.dill_frames.specs.Judging.{IsJudged, LiesIn}
use Rattle.dill_frames.proofs.Fronts.{prefix_whole_more, prefix_fault_more, prefix_need_below, says_whole, SaysWhole}
use Rattle.dill_frames.proofs.PrefixLaws.{prefix_is_front}
use Rattle.dill_frames.proofs.SuffixLaws.{suffix_whole_more, suffix_fault_more, suffix_says_need, suffix_says_whole, suffix_is_front, place_some, place_room}
use Rattle.dill_frames.proofs.Written.{prefix_writes, suffix_writes}

pub prefix_stays : (form : PrefixForm) (u v : List ℕ) (l : ℕ) (f : Front) → prefix_front form u l ≡ f → IsJudged f → prefix_front form (u ++ v) l ≡ f
prefix_stays form u v l (Whole a b c) h j = prefix_whole_more form u v l a b c h
prefix_stays form u v l Need h j = absurd j
prefix_stays form u v l (Fault e) h j = prefix_fault_more form u v l e h

pub prefix_waits : (form : PrefixForm) (u : List ℕ) (l : ℕ) → prefix_front form u l ≡ Need → length u < l + form.size
prefix_waits form u l h = elim (prefix_need_below form u l h) [ inl k ↦ omega arith | inr k ↦ omega arith ]

pub prefix_lies : (form : PrefixForm) (u : List ℕ) (l a b c : ℕ) → prefix_front form u l ≡ Whole a b c → LiesIn u l a b c
prefix_lies form u l a b c h =
    let w : SaysWhole form u l a b c = says_whole form u l a b c h in
    record {
      forward = omega (arith, w.from, w.to);
      within = omega (arith, w.to, w.used);
      there = omega (arith, w.there, w.used);
      short = omega (arith, w.from, w.to, w.short);
    }

pub prefix_takes : (form : PrefixForm) (u : List ℕ) (l a b c : ℕ) → prefix_front form u l ≡ Whole a b c → form.size ≤ c
prefix_takes form u l a b c h = let w : SaysWhole form u l a b c = says_whole form u l a b c h in omega (arith, w.used)

pub prefix_spelled : (form : PrefixForm) (u : List ℕ) (l a b c : ℕ) → ((k : ℕ) → get_or u k 0 < 256) → prefix_front form u l ≡ Whole a b c → prefix_due form (take (b - a) (drop a u)) ≡ Ok (take c u)
prefix_spelled form u l a b c bytes h =
    let w : IsWhole (PrefixSpells form) l u a b c = subst (λ (f : Front). IsFront (PrefixSpells form) (PrefixShows form l) l u f) h (prefix_is_front form l u bytes) in
    prefix_writes form (take (b - a) (drop a u)) (take c u) w.spelled

pub suffix_stays : (t u v : List ℕ) (l : ℕ) (f : Front) → 0 < length t → suffix_front t u l ≡ f → IsJudged f → suffix_front t (u ++ v) l ≡ f
suffix_stays t u v l (Whole a b c) z h j = suffix_whole_more t u v l a b c h
suffix_stays t u v l Need z h j = absurd j
suffix_stays t u v l (Fault e) z h j = suffix_fault_more t u v l e z h

pub suffix_waits : (t u : List ℕ) (l : ℕ) → suffix_front t u l ≡ Need → length u < l + length t
suffix_waits t u l h = (suffix_says_need t u l h).1

pub suffix_lies : (t u : List ℕ) (l a b c : ℕ) → suffix_front t u l ≡ Whole a b c → LiesIn u l a b c
suffix_lies t u l a b c h =
    let w = suffix_says_whole t u l a b c h in
    let r : b + length t ≤ length u = place_room t u b (place_some t u b w.0) in
    record {
      forward = omega (arith, w.2);
      within = omega (arith, w.3);
      there = omega (arith, w.3);
      short = omega (arith, w.1);
    }

pub suffix_takes : (t u : List ℕ) (l a b c : ℕ) → suffix_front t u l ≡ Whole a b c → length t ≤ c
suffix_takes t u l a b c h = let w = suffix_says_whole t u l a b c h in omega (arith, w.3)

pub suffix_spelled : (t u : List ℕ) (l a b c : ℕ) → 0 < length t → suffix_front t u l ≡ Whole a b c → suffix_due t (take (b - a) (drop a u)) ≡ Ok (take c u)
suffix_spelled t u l a b c z h =
    let w : IsWhole (SuffixSpells t) l u a b c = subst (λ (f : Front). IsFront (SuffixSpells t) (SuffixShows t l) l u f) h (suffix_is_front t l u z) in
    suffix_writes t (take (b - a) (drop a u)) (take c u) z w.spelled
