-- What a receive of messages answers shows what stands at the front.
use Rattle.std.proofs.Common.{◌≡◌, ◌<◌, ◌-◌, [], ◌∷◌, List, ℕ, length, take, drop, sym, ap, refl, subst, Bool, true, false, not, ◌&&◌, inl, inr, ◌⊎◌}
use Rattle.std.specs.Prelude.{bytes_eq, Decides, if◌then◌else◌, ◌==◌}
use Rattle.std.proofs.lemmas.Bool.{false≢true}
use Rattle.std.proofs.lemmas.Slice.Eq.{bytes_eq-Decides}
use Rattle.dill_base.specs.declared.errno.Errno.{Errno}
use Rattle.dill_base.specs.declared.errno.Errno.TheVariants.{Epipe, Eproto, Emsgsize}
use Rattle.dill_base.specs.declared.errno.Front.{Front}
use Rattle.dill_base.specs.declared.errno.Front.TheVariants as front
use Rattle.dill_base.specs.Reading.{IsShown}
use Rattle.dill_calls.specs.declared.answer.Answer.{Answer}
use Rattle.dill_calls.specs.declared.answer.Answer.TheVariants.{Bytes}
use Rattle.dill_frames.specs.declared.prefix.PrefixForm.{PrefixForm}
use Rattle.dill_frames.specs.Prefix.{AreBytes, prefix_front, PrefixShows}
use Rattle.dill_frames.specs.Suffix.{suffix_front, SuffixShows}
use Rattle.dill_frames.specs.Laws.{PrefixLaws, SuffixLaws}
use Rattle.dill_stack.specs.declared.want.ReadOut.{ReadOut}
use Rattle.dill_stack.specs.declared.want.ReadOut.TheVariants.{Given, Need, Fault}
use Rattle.dill_stack.specs.Layers.{Placed, Prefix, Suffix, Term, Http, Ws, TermLayer}
use Rattle.dill_stack.specs.Read.{Outcome, no_more, read_message, by_front, over_term}
use Rattle.dill_stack.specs.Messages.{MessageStands, EndStands, RefusalStands, NothingStands, IsReadable}
use Rattle.dill_stack.proofs.MessageReads.{below_is, past, prefix_given, suffix_given}
use Rattle.dill_stack.proofs.MessageWaits.{prefix_nothing, suffix_nothing, nothing_above, some_unread}

-- why an errno is answered
abbrev pub FaultTold : List Placed → ℕ → List ℕ → Bool → Errno → ℕ → Type 0
FaultTold layers limit u ended e n =
    ((e ≡ Epipe) × (EndStands layers limit u n ⊎ ((ended ≡ true) × (u ≡ []))))
    ⊎ (((e ≡ Eproto) × (ended ≡ true) × (u ≡ [] → ⊥) × NothingStands layers limit u) ⊎ ((e ≡ Emsgsize) × RefusalStands layers limit u e))

-- why this is answered, with so many bytes used
abbrev pub Told : List Placed → ℕ → List ℕ → Bool → ReadOut → ℕ → Type 0
Told layers limit u ended (Given answer) n = (m : List ℕ) × (answer ≡ Bytes m) × MessageStands layers limit u m n
Told layers limit u ended Need n = (ended ≡ false) × NothingStands layers limit u
Told layers limit u ended (Fault e) n = FaultTold layers limit u ended e n

idle_told : (layers : List Placed) (limit : ℕ) (u : List ℕ) (ended : Bool) → NothingStands layers limit u → Told layers limit u ended (no_more ended true u) 0
idle_told layers limit u false nothing = (refl, nothing)
idle_told layers limit [] true nothing = inl (refl, inr (refl, refl))
idle_told layers limit (x ∷ v) true nothing = by_test (length (x ∷ v) == 0) (some_unread x v)
  where
    not_empty : x ∷ v ≡ [] → ⊥
    not_empty e = cc

    by_test : (b : Bool) → b ≡ false → Told layers limit (x ∷ v) true (if not true then Need else if true && b then Fault Epipe else Fault Eproto) 0
    by_test true e = cc
    by_test false e = inr (inl (refl, refl, not_empty, nothing))

prefix_told : (p : PrefixLaws) (form : PrefixForm) (limit : ℕ) (u : List ℕ) (ended : Bool) (f : Front) → AreBytes u → prefix_front form u limit ≡ f → Told (Prefix form ∷ []) limit u ended (by_front (Prefix form ∷ []) u ended f).said (by_front (Prefix form ∷ []) u ended f).used
prefix_told p form limit u ended (front.Whole from to used) b e =
    let m : List ℕ = take (to - from) (drop from u) in
    (m, refl, subst (λ f. MessageStands (Prefix form ∷ []) limit u m (by_front (Prefix form ∷ []) u ended f).used) e (prefix_given p form limit u m ended b (ap (λ f. (by_front (Prefix form ∷ []) u ended f).said) e)))
prefix_told p form limit u ended front.Need b e = idle_told (Prefix form ∷ []) limit u ended (prefix_nothing form limit u ((p.exact form limit u b).need.0 e))
prefix_told p form limit u ended (front.Fault x) b e =
    let shown : IsShown (PrefixShows form limit) u x = ((p.exact form limit u b).fault x).0 e in
    inr (inr (shown.shown.errno, shown))

suffix_told : (s : SuffixLaws) (end : List ℕ) (limit : ℕ) (u : List ℕ) (ended : Bool) (f : Front) → 0 < length end → suffix_front end u limit ≡ f → Told (Suffix end ∷ []) limit u ended (by_front (Suffix end ∷ []) u ended f).said (by_front (Suffix end ∷ []) u ended f).used
suffix_told s end limit u ended (front.Whole from to used) z e =
    let m : List ℕ = take (to - from) (drop from u) in
    (m, refl, subst (λ f. MessageStands (Suffix end ∷ []) limit u m (by_front (Suffix end ∷ []) u ended f).used) e (suffix_given s end limit u m ended z (ap (λ f. (by_front (Suffix end ∷ []) u ended f).said) e)))
suffix_told s end limit u ended front.Need z e = idle_told (Suffix end ∷ []) limit u ended (suffix_nothing end limit u ((s.exact end limit u z).need.0 e))
suffix_told s end limit u ended (front.Fault x) z e =
    let shown : IsShown (SuffixShows end limit) u x = ((s.exact end limit u z).fault x).0 e in
    inr (inr (shown.shown.errno, shown))

-- the causes below an end by a terminal message are its own
fault_above : (term : TermLayer) (below : List Placed) (limit : ℕ) (u : List ℕ) (ended : Bool) (e : Errno) (n : ℕ) → FaultTold below limit u ended e n → FaultTold (Term term ∷ below) limit u ended e n
fault_above term below limit u ended e n (inl (q, inl x)) = inl (q, inl (inr x))
fault_above term below limit u ended e n (inl (q, inr x)) = inl (q, inr x)
fault_above term below limit u ended e n (inr (inl (q, t, some, nothing))) = inr (inl (q, t, some, nothing_above term below limit u nothing))
fault_above term below limit u ended e n (inr (inr x)) = inr (inr x)

term_told : (term : TermLayer) (below : List Placed) (limit : ℕ) (u : List ℕ) (ended : Bool) (o : Outcome) → Told below limit u ended o.said o.used → Told (Term term ∷ below) limit u ended (over_term term o).said (over_term term o).used
term_told term below limit u ended o t = by_said o.said t
  where
    by_message : (m : List ℕ) → MessageStands below limit u m o.used → Told (Term term ∷ below) limit u ended (over_term term (record o { said = Given (Bytes m) })).said (over_term term (record o { said = Given (Bytes m) })).used
    by_message m st = by_test (bytes_eq m term.terminal) (bytes_eq-Decides m term.terminal)
      where
        above : Bool → Outcome
        above b = if b then record o { layers = Term (record term { met = true }) ∷ o.layers; said = Fault Epipe } else record o { layers = Term term ∷ o.layers; said = Given (Bytes m) }

        by_test : (b : Bool) → Decides b (m ≡ term.terminal) → Told (Term term ∷ below) limit u ended (above b).said (above b).used
        by_test true d = inl (refl, inl (inl (subst (λ x. MessageStands below limit u x o.used) (d.0 refl) st)))
        by_test false d = (m, refl, record { there = st.there; short = st.short; spelled = ((λ q. false≢true (d.1 q)), st.spelled) })

    by_said : (said : ReadOut) → Told below limit u ended said o.used → Told (Term term ∷ below) limit u ended (over_term term (record o { said = said })).said (over_term term (record o { said = said })).used
    by_said Need x = (x.0, nothing_above term below limit u x.1)
    by_said (Fault e) x = fault_above term below limit u ended e o.used x
    by_said (Given answer) x =
        subst (λ (y : Answer). Told (Term term ∷ below) limit u ended (over_term term (record o { said = Given y })).said (over_term term (record o { said = Given y })).used) (sym x.1) (by_message x.0 x.2)

pub message_told : (p : PrefixLaws) (s : SuffixLaws) (layers : List Placed) (limit : ℕ) (u : List ℕ) (ended : Bool) → IsReadable layers → AreBytes u → Told layers limit u ended (read_message layers u ended limit).said (read_message layers u ended limit).used
message_told p s [] limit u ended r b = absurd r.framing
message_told p s (Prefix form ∷ []) limit u ended r b = prefix_told p form limit u ended (prefix_front form u limit) b refl
message_told p s (Prefix form ∷ x ∷ below) limit u ended r b = let h : x ∷ below ≡ [] = r.standing in cc
message_told p s (Suffix end ∷ []) limit u ended r b = suffix_told s end limit u ended (suffix_front end u limit) r.formed.0 refl
message_told p s (Suffix end ∷ x ∷ below) limit u ended r b = let h : x ∷ below ≡ [] = r.standing in cc
message_told p s (Term term ∷ below) limit u ended r b =
    subst (λ (o : Outcome). Told (Term term ∷ below) limit u ended o.said o.used) (sym (past term below limit u ended r))
    (term_told term below limit u ended (read_message below u ended limit) (message_told p s below limit u ended (below_is term below r) b))
message_told p s (Http http ∷ below) limit u ended r b = absurd r.framing
message_told p s (Ws ws ∷ below) limit u ended r b = absurd r.framing

pub message_needs : (p : PrefixLaws) (s : SuffixLaws) (layers : List Placed) (limit : ℕ) (u : List ℕ) (ended : Bool) → IsReadable layers → AreBytes u → (read_message layers u ended limit).said ≡ Need → (ended ≡ false) × NothingStands layers limit u
message_needs p s layers limit u ended r b e = subst (λ said. Told layers limit u ended said (read_message layers u ended limit).used) e (message_told p s layers limit u ended r b)

-- the cause of an errno
fault_told : (p : PrefixLaws) (s : SuffixLaws) (layers : List Placed) (limit : ℕ) (u : List ℕ) (e : Errno) (ended : Bool) → IsReadable layers → AreBytes u → (read_message layers u ended limit).said ≡ Fault e → FaultTold layers limit u ended e (read_message layers u ended limit).used
fault_told p s layers limit u e ended r b q = subst (λ said. Told layers limit u ended said (read_message layers u ended limit).used) q (message_told p s layers limit u ended r b)

pub message_ended : (p : PrefixLaws) (s : SuffixLaws) (layers : List Placed) (limit : ℕ) (u : List ℕ) (ended : Bool) → IsReadable layers → AreBytes u → (read_message layers u ended limit).said ≡ Fault Epipe → EndStands layers limit u (read_message layers u ended limit).used ⊎ ((ended ≡ true) × (u ≡ []))
message_ended p s layers limit u ended r b e = by_cause (read_message layers u ended limit).used (fault_told p s layers limit u Epipe ended r b e)
  where
    by_cause : (n : ℕ) → FaultTold layers limit u ended Epipe n → EndStands layers limit u n ⊎ ((ended ≡ true) × (u ≡ []))
    by_cause n (inl (q, x)) = x
    by_cause n (inr (inl (q, t, some, nothing))) = cc
    by_cause n (inr (inr (q, x))) = cc

pub message_cut : (p : PrefixLaws) (s : SuffixLaws) (layers : List Placed) (limit : ℕ) (u : List ℕ) (ended : Bool) → IsReadable layers → AreBytes u → (read_message layers u ended limit).said ≡ Fault Eproto → (ended ≡ true) × (u ≡ [] → ⊥) × NothingStands layers limit u
message_cut p s layers limit u ended r b e = by_cause (read_message layers u ended limit).used (fault_told p s layers limit u Eproto ended r b e)
  where
    by_cause : (n : ℕ) → FaultTold layers limit u ended Eproto n → (ended ≡ true) × (u ≡ [] → ⊥) × NothingStands layers limit u
    by_cause n (inl (q, x)) = cc
    by_cause n (inr (inl (q, t, some, nothing))) = (t, some, nothing)
    by_cause n (inr (inr (q, x))) = cc

pub message_refused : (p : PrefixLaws) (s : SuffixLaws) (layers : List Placed) (limit : ℕ) (u : List ℕ) (e : Errno) (ended : Bool) → IsReadable layers → AreBytes u → (e ≡ Epipe → ⊥) → (e ≡ Eproto → ⊥) → (read_message layers u ended limit).said ≡ Fault e → RefusalStands layers limit u e
message_refused p s layers limit u e ended r b no_end no_cut q = by_cause (read_message layers u ended limit).used (fault_told p s layers limit u e ended r b q)
  where
    by_cause : (n : ℕ) → FaultTold layers limit u ended e n → RefusalStands layers limit u e
    by_cause n (inl x) = absurd (no_end x.0)
    by_cause n (inr (inl x)) = absurd (no_cut x.0)
    by_cause n (inr (inr x)) = x.1
