-- What a receive of messages answers where nothing whole stands at the front.
use Rattle.std.proofs.Common.{◌≡◌, ◌<◌, ◌≤◌, ◌+◌, [], ◌∷◌, List, ℕ, length, take, arith, sym, ap, ◌∙◌, refl, subst, Bool, true, false, not, ◌&&◌, inl, inr}
use Rattle.std.specs.Prelude.{bytes_eq, Decides, if◌then◌else◌, ◌==◌}
use Rattle.std.proofs.lemmas.Bool.{false≢true, lt-ltb, ne_eqb}
use Rattle.std.proofs.lemmas.Slice.Eq.{bytes_eq-Decides}
use Rattle.dill_base.specs.declared.errno.Errno.TheVariants.{Epipe, Eproto}
use Rattle.dill_base.specs.declared.errno.Front.TheVariants as front
use Rattle.dill_base.specs.Reading.{IsOpen}
use Rattle.dill_frames.specs.declared.prefix.PrefixForm.{PrefixForm}
use Rattle.dill_frames.specs.Prefix.{AreBytes, prefix_front, PrefixSpells, PrefixShows}
use Rattle.dill_frames.specs.Suffix.{suffix_front, SuffixSpells, SuffixShows}
use Rattle.dill_frames.specs.Laws.{PrefixLaws, SuffixLaws}
use Rattle.dill_stack.specs.declared.want.ReadOut.TheVariants.{Need, Fault}
use Rattle.dill_stack.specs.Layers.{Placed, Prefix, Suffix, Term, Http, Ws, TermLayer}
use Rattle.dill_stack.specs.Read.{outcome, no_more, read_message, by_front, over_term}
use Rattle.dill_stack.specs.Messages.{MessageStands, EndStands, NothingStands, IsReadable}
use Rattle.dill_stack.proofs.MessageReads.{below_is, past}

-- a framing in which nothing whole stands is open, and an open one has nothing whole
pub prefix_nothing : (form : PrefixForm) (limit : ℕ) (u : List ℕ) → IsOpen (PrefixSpells form) (PrefixShows form limit) limit u → NothingStands (Prefix form ∷ []) limit u
prefix_nothing form limit u o = record {
  unspelled = λ n m st. o.unspelled n st.there m st.short (subst (PrefixSpells form m) (sym st.spelled.2) st.spelled.1);
  unended = λ n e. e;
  unshown = λ e i. o.unshown i.count i.there e i.shown;
}

prefix_open : (form : PrefixForm) (limit : ℕ) (u : List ℕ) → NothingStands (Prefix form ∷ []) limit u → IsOpen (PrefixSpells form) (PrefixShows form limit) limit u
prefix_open form limit u nothing = record {
  unspelled = λ n there m short spells. nothing.unspelled n m (record { there = there; short = short; spelled = (take n u, spells, refl) });
  unshown = λ n there e shows. nothing.unshown e (record { count = n; there = there; shown = shows });
}

pub suffix_nothing : (end : List ℕ) (limit : ℕ) (u : List ℕ) → IsOpen (SuffixSpells end) (SuffixShows end limit) limit u → NothingStands (Suffix end ∷ []) limit u
suffix_nothing end limit u o = record {
  unspelled = λ n m st. o.unspelled n st.there m st.short (subst (SuffixSpells end m) (sym st.spelled.2) st.spelled.1);
  unended = λ n e. e;
  unshown = λ e i. o.unshown i.count i.there e i.shown;
}

suffix_open : (end : List ℕ) (limit : ℕ) (u : List ℕ) → NothingStands (Suffix end ∷ []) limit u → IsOpen (SuffixSpells end) (SuffixShows end limit) limit u
suffix_open end limit u nothing = record {
  unspelled = λ n there m short spells. nothing.unspelled n m (record { there = there; short = short; spelled = (take n u, spells, refl) });
  unshown = λ n there e shows. nothing.unshown e (record { count = n; there = there; shown = shows });
}

-- an end by a terminal message adds nothing whole
pub nothing_above : (term : TermLayer) (below : List Placed) (limit : ℕ) (u : List ℕ) → NothingStands below limit u → NothingStands (Term term ∷ below) limit u
nothing_above term below limit u nothing = record {
  unspelled = λ n m st. nothing.unspelled n m (record { there = st.there; short = st.short; spelled = st.spelled.1 });
  unended = unended;
  unshown = nothing.unshown;
}
  where
    unended : (n : ℕ) → EndStands (Term term ∷ below) limit u n → ⊥
    unended n (inl st) = nothing.unspelled n term.terminal st
    unended n (inr e) = nothing.unended n e

-- a message below is one above, or is the end
nothing_below : (term : TermLayer) (below : List Placed) (limit : ℕ) (u : List ℕ) → NothingStands (Term term ∷ below) limit u → NothingStands below limit u
nothing_below term below limit u nothing = record {
  unspelled = λ n m st. by_test n m st (bytes_eq m term.terminal) (bytes_eq-Decides m term.terminal);
  unended = λ n e. nothing.unended n (inr e);
  unshown = nothing.unshown;
}
  where
    by_test : (n : ℕ) (m : List ℕ) → MessageStands below limit u m n → (b : Bool) → Decides b (m ≡ term.terminal) → ⊥
    by_test n m st true d = nothing.unended n (inl (subst (λ x. MessageStands below limit u x n) (d.0 refl) st))
    by_test n m st false d = nothing.unspelled n m (record { there = st.there; short = st.short; spelled = ((λ q. false≢true (d.1 q)), st.spelled) })

-- what is answered where nothing whole stands
over_idle : (term : TermLayer) (below : List Placed) (ended nothing : Bool) → over_term term (outcome 0 below (if not ended then Need else if true && nothing then Fault Epipe else Fault Eproto)) ≡ outcome 0 (Term term ∷ below) (if not ended then Need else if true && nothing then Fault Epipe else Fault Eproto)
over_idle term below false nothing = refl
over_idle term below true true = refl
over_idle term below true false = refl

idle : (p : PrefixLaws) (s : SuffixLaws) (layers : List Placed) (limit : ℕ) (u : List ℕ) (ended : Bool) → IsReadable layers → AreBytes u → NothingStands layers limit u → read_message layers u ended limit ≡ outcome 0 layers (no_more ended true u)
idle p s [] limit u ended r b nothing = absurd r.framing
idle p s (Prefix form ∷ []) limit u ended r b nothing = ap (by_front (Prefix form ∷ []) u ended) ((p.exact form limit u b).need.1 (prefix_open form limit u nothing))
idle p s (Prefix form ∷ x ∷ below) limit u ended r b nothing = let h : x ∷ below ≡ [] = r.standing in cc
idle p s (Suffix end ∷ []) limit u ended r b nothing = ap (by_front (Suffix end ∷ []) u ended) ((s.exact end limit u r.formed.0).need.1 (suffix_open end limit u nothing))
idle p s (Suffix end ∷ x ∷ below) limit u ended r b nothing = let h : x ∷ below ≡ [] = r.standing in cc
idle p s (Term term ∷ below) limit u ended r b nothing =
    past term below limit u ended r ∙ ap (over_term term) (idle p s below limit u ended (below_is term below r) b (nothing_below term below limit u nothing)) ∙ over_idle term below ended (length u == 0)
idle p s (Http http ∷ below) limit u ended r b nothing = absurd r.framing
idle p s (Ws ws ∷ below) limit u ended r b nothing = absurd r.framing

pub some_unread : (x : ℕ) (v : List ℕ) → (length (x ∷ v) == 0) ≡ false
some_unread x v = ne_eqb (length (x ∷ v)) 0 (λ q. omega (arith, q))

pub message_waits : (p : PrefixLaws) (s : SuffixLaws) (layers : List Placed) (limit : ℕ) (u : List ℕ) → IsReadable layers → AreBytes u → NothingStands layers limit u → read_message layers u false limit ≡ outcome 0 layers Need
message_waits p s layers limit u r b nothing = idle p s layers limit u false r b nothing

pub message_cuts : (p : PrefixLaws) (s : SuffixLaws) (layers : List Placed) (limit : ℕ) (u : List ℕ) → IsReadable layers → AreBytes u → NothingStands layers limit u → (u ≡ [] → ⊥) → read_message layers u true limit ≡ outcome 0 layers (Fault Eproto)
message_cuts p s layers limit u r b nothing some = idle p s layers limit u true r b nothing ∙ ap (outcome 0 layers) (inside u some)
  where
    inside : (v : List ℕ) → (v ≡ [] → ⊥) → no_more true true v ≡ Fault Eproto
    inside [] n = absurd (n refl)
    inside (x ∷ v) n = rw (some_unread x v) refl

-- an empty list has nothing whole
prefix_empty : (form : PrefixForm) (limit : ℕ) → 1 ≤ form.size → prefix_front form [] limit ≡ front.Need
unfolding prefix_front
prefix_empty form limit l = rw (lt-ltb 0 form.size (omega (arith, l))) refl

suffix_empty : (end : List ℕ) (limit : ℕ) → 0 < length end → suffix_front end [] limit ≡ front.Need
unfolding suffix_front
suffix_empty end limit l = rw (lt-ltb 0 (limit + length end) (omega (arith, l))) refl

pub message_over : (layers : List Placed) (limit : ℕ) → IsReadable layers → read_message layers [] true limit ≡ outcome 0 layers (Fault Epipe)
message_over [] limit r = absurd r.framing
message_over (Prefix form ∷ []) limit r = ap (by_front (Prefix form ∷ []) [] true) (prefix_empty form limit r.formed.0)
message_over (Prefix form ∷ x ∷ below) limit r = let h : x ∷ below ≡ [] = r.standing in cc
message_over (Suffix end ∷ []) limit r = ap (by_front (Suffix end ∷ []) [] true) (suffix_empty end limit r.formed.0)
message_over (Suffix end ∷ x ∷ below) limit r = let h : x ∷ below ≡ [] = r.standing in cc
message_over (Term term ∷ below) limit r = past term below limit [] true r ∙ ap (over_term term) (message_over below limit (below_is term below r))
message_over (Http http ∷ below) limit r = absurd r.framing
message_over (Ws ws ∷ below) limit r = absurd r.framing
