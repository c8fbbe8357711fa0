-- A message is given where it stands, over each framing.
use Rattle.std.proofs.Common.{◌≡◌, ◌<◌, ◌≤◌, ◌-◌, [], ◌∷◌, ◌++◌, List, ℕ, length, take, drop, arith, sym, ap, ◌∙◌, refl, subst, Bool, true, false, not, ◌&&◌, inl, inr}
use Rattle.std.specs.Prelude.{bytes_eq, Decides, if◌then◌else◌, ◌==◌, Ok}
use Rattle.std.proofs.lemmas.Bool.{false≢true, or_parts}
use Rattle.std.proofs.lemmas.Slice.Eq.{bytes_eq-Decides}
use Rattle.std.proofs.lemmas.List.{length-take, length-take-le, take-append-drop}
use Rattle.dill_base.specs.declared.errno.Errno.{Errno}
use Rattle.dill_base.specs.declared.errno.Errno.TheVariants.{Epipe, Eproto}
use Rattle.dill_base.specs.declared.errno.Front.{Front}
use Rattle.dill_base.specs.declared.errno.Front.TheVariants as front
use Rattle.dill_base.specs.Reading.{IsShown}
use Rattle.dill_calls.specs.declared.answer.Answer.TheVariants.{Bytes}
use Rattle.dill_frames.specs.declared.prefix.PrefixForm.{PrefixForm}
use Rattle.dill_frames.specs.Prefix.{AreBytes, prefix_front, prefix_due, PrefixSpells, PrefixShows}
use Rattle.dill_frames.specs.Suffix.{suffix_front, suffix_due, SuffixSpells, SuffixShows}
use Rattle.dill_frames.specs.Laws.{PrefixLaws, SuffixLaws}
use Rattle.dill_frames.specs.Judging.{LiesIn}
use Rattle.dill_stack.specs.declared.want.ReadOut.TheVariants.{Given, Need, Fault}
use Rattle.dill_stack.specs.Layers.{Placed, Prefix, Suffix, Term, Http, Ws, TermLayer}
use Rattle.dill_stack.specs.Refusals.{is_met}
use Rattle.dill_stack.specs.Read.{Outcome, outcome, read_message, by_front, over_term, is_terminal}
use Rattle.dill_stack.specs.Messages.{MessageStands, EndStands, after_end, RefusalStands, IsReadable}

-- the message behind its length, where it stands at the front
prefix_gives : (p : PrefixLaws) (form : PrefixForm) (limit : ℕ) (u m : List ℕ) (n : ℕ) (ended : Bool) → n ≤ length u → length m ≤ limit → PrefixSpells form m (take n u)
    → by_front (Prefix form ∷ []) u ended (prefix_front form u limit) ≡ outcome n (Prefix form ∷ []) (Given (Bytes m))
prefix_gives p form limit u m n ended l short s =
    let split : take n u ++ drop n u ≡ u = take-append-drop n u in
    let size : length (take n u) ≡ n = length-take-le n u l in
    let read : prefix_front form u limit ≡ front.Whole form.size n n =
    ap (λ v. prefix_front form v limit) (sym split) ∙ p.again form m (take n u) (drop n u) limit s short ∙ ap (λ k. front.Whole form.size k k) size in
    let text : take (n - form.size) (drop form.size u) ≡ m =
    ap (λ k. take (k - form.size) (drop form.size u)) (sym size) ∙ ap (λ v. take (length (take n u) - form.size) (drop form.size v)) (sym split) ∙ p.message form m (take n u) (drop n u) s in
    ap (by_front (Prefix form ∷ []) u ended) read ∙ ap (λ k. outcome n (Prefix form ∷ []) (Given (Bytes k))) text

-- the message before its terminator
suffix_gives : (s : SuffixLaws) (end : List ℕ) (limit : ℕ) (u m : List ℕ) (n : ℕ) (ended : Bool) → 0 < length end → n ≤ length u → length m ≤ limit → SuffixSpells end m (take n u)
    → by_front (Suffix end ∷ []) u ended (suffix_front end u limit) ≡ outcome n (Suffix end ∷ []) (Given (Bytes m))
suffix_gives s end limit u m n ended z l short spells =
    let split : take n u ++ drop n u ≡ u = take-append-drop n u in
    let size : length (take n u) ≡ n = length-take-le n u l in
    let read : suffix_front end u limit ≡ front.Whole 0 (length m) n =
    ap (λ v. suffix_front end v limit) (sym split) ∙ s.again end m (take n u) (drop n u) limit z spells short ∙ ap (front.Whole 0 (length m)) size in
    let text : take (length m) u ≡ m = ap (take (length m)) (sym split) ∙ s.message end m (take n u) (drop n u) spells in
    let bare : length m - 0 ≡ length m = omega arith in
    ap (by_front (Suffix end ∷ []) u ended) read ∙ ap (λ k. outcome n (Suffix end ∷ []) (Given (Bytes (take k u)))) bare ∙ ap (λ k. outcome n (Suffix end ∷ []) (Given (Bytes k))) text

pub same_text : (m : List ℕ) (t : List ℕ) → (m ≡ t → ⊥) → bytes_eq m t ≡ false
same_text m t n = by_test (bytes_eq m t) (bytes_eq-Decides m t)
  where
    by_test : (b : Bool) → Decides b (m ≡ t) → b ≡ false
    by_test true d = absurd (n (d.0 refl))
    by_test false d = refl

pub own_text : (t : List ℕ) → bytes_eq t t ≡ true
own_text t = (bytes_eq-Decides t t).1 refl

-- the layers below an end by a terminal message are readable too
pub below_is : (term : TermLayer) (below : List Placed) → IsReadable (Term term ∷ below) → IsReadable below
below_is term below r = record { framing = r.framing; standing = r.standing.1; formed = r.formed.2; unmet = (or_parts term.met (is_met below) r.unmet).1 }

unmet_is : (term : TermLayer) (below : List Placed) → IsReadable (Term term ∷ below) → term.met ≡ false
unmet_is term below r = (or_parts term.met (is_met below) r.unmet).0

not_taken : (b : Bool) (x y : Outcome) → b ≡ false → (if b then x else y) ≡ y
not_taken true x y e = cc
not_taken false x y e = refl

-- an end that wasn't met is read past
pub past : (term : TermLayer) (below : List Placed) (limit : ℕ) (u : List ℕ) (ended : Bool) → IsReadable (Term term ∷ below) → read_message (Term term ∷ below) u ended limit ≡ over_term term (read_message below u ended limit)
past term below limit u ended r = not_taken term.met (outcome 0 (Term term ∷ below) (Fault Epipe)) (over_term term (read_message below u ended limit)) (unmet_is term below r)

over_message : (term : TermLayer) (below : List Placed) (n : ℕ) (m : List ℕ) → bytes_eq m term.terminal ≡ false → over_term term (outcome n below (Given (Bytes m))) ≡ outcome n (Term term ∷ below) (Given (Bytes m))
over_message term below n m e = rw e refl

over_end : (term : TermLayer) (below : List Placed) (n : ℕ) → over_term term (outcome n below (Given (Bytes term.terminal))) ≡ outcome n (Term (record term { met = true }) ∷ below) (Fault Epipe)
over_end term below n = rw (own_text term.terminal) refl

pub message_gives : (p : PrefixLaws) (s : SuffixLaws) (layers : List Placed) (limit : ℕ) (u m : List ℕ) (n : ℕ) (ended : Bool) → IsReadable layers → MessageStands layers limit u m n → read_message layers u ended limit ≡ outcome n layers (Given (Bytes m))
message_gives p s [] limit u m n ended r st = absurd r.framing
message_gives p s (Prefix form ∷ []) limit u m n ended r st =
    prefix_gives p form limit u m n ended st.there st.short (subst (PrefixSpells form m) (sym st.spelled.2) st.spelled.1)
message_gives p s (Prefix form ∷ x ∷ below) limit u m n ended r st = let h : x ∷ below ≡ [] = r.standing in cc
message_gives p s (Suffix end ∷ []) limit u m n ended r st =
    suffix_gives s end limit u m n ended r.formed.0 st.there st.short (subst (SuffixSpells end m) (sym st.spelled.2) st.spelled.1)
message_gives p s (Suffix end ∷ x ∷ below) limit u m n ended r st = let h : x ∷ below ≡ [] = r.standing in cc
message_gives p s (Term term ∷ below) limit u m n ended r st =
    let again : read_message below u ended limit ≡ outcome n below (Given (Bytes m)) = message_gives p s below limit u m n ended (below_is term below r) (record { there = st.there; short = st.short; spelled = st.spelled.1 }) in
    past term below limit u ended r ∙ ap (over_term term) again ∙ over_message term below n m (same_text m term.terminal st.spelled.0)
message_gives p s (Http http ∷ below) limit u m n ended r st = absurd r.framing
message_gives p s (Ws ws ∷ below) limit u m n ended r st = absurd r.framing

pub message_ends : (p : PrefixLaws) (s : SuffixLaws) (layers : List Placed) (limit : ℕ) (u : List ℕ) (n : ℕ) (ended : Bool) → IsReadable layers → (stands : EndStands layers limit u n) → read_message layers u ended limit ≡ outcome n (after_end layers limit u n stands) (Fault Epipe)
message_ends p s [] limit u n ended r e = absurd e
message_ends p s (Prefix form ∷ below) limit u n ended r e = absurd e
message_ends p s (Suffix end ∷ below) limit u n ended r e = absurd e
message_ends p s (Term term ∷ below) limit u n ended r (inl st) =
    let again : read_message below u ended limit ≡ outcome n below (Given (Bytes term.terminal)) = message_gives p s below limit u term.terminal n ended (below_is term below r) st in
    past term below limit u ended r ∙ ap (over_term term) again ∙ over_end term below n
message_ends p s (Term term ∷ below) limit u n ended r (inr e) = past term below limit u ended r ∙ ap (over_term term) (message_ends p s below limit u n ended (below_is term below r) e)
message_ends p s (Http http ∷ below) limit u n ended r e = absurd e
message_ends p s (Ws ws ∷ below) limit u n ended r e = absurd e

prefix_refuses : (p : PrefixLaws) (form : PrefixForm) (limit : ℕ) (u : List ℕ) (e : Errno) (ended : Bool) → IsShown (PrefixShows form limit) u e → by_front (Prefix form ∷ []) u ended (prefix_front form u limit) ≡ outcome 0 (Prefix form ∷ []) (Fault e)
prefix_refuses p form limit u e ended i = ap (by_front (Prefix form ∷ []) u ended) (ap (λ v. prefix_front form v limit) (sym (take-append-drop i.count u)) ∙ p.refused form e (take i.count u) (drop i.count u) limit i.shown)

suffix_refuses : (s : SuffixLaws) (end : List ℕ) (limit : ℕ) (u : List ℕ) (e : Errno) (ended : Bool) → 0 < length end → IsShown (SuffixShows end limit) u e → by_front (Suffix end ∷ []) u ended (suffix_front end u limit) ≡ outcome 0 (Suffix end ∷ []) (Fault e)
suffix_refuses s end limit u e ended z i = ap (by_front (Suffix end ∷ []) u ended) (ap (λ v. suffix_front end v limit) (sym (take-append-drop i.count u)) ∙ s.refused end e (take i.count u) (drop i.count u) limit z i.shown)

pub message_refuses : (p : PrefixLaws) (s : SuffixLaws) (layers : List Placed) (limit : ℕ) (u : List ℕ) (e : Errno) (ended : Bool) → IsReadable layers → RefusalStands layers limit u e → read_message layers u ended limit ≡ outcome 0 layers (Fault e)
message_refuses p s [] limit u e ended r i = absurd i
message_refuses p s (Prefix form ∷ []) limit u e ended r i = prefix_refuses p form limit u e ended i
message_refuses p s (Prefix form ∷ x ∷ below) limit u e ended r i = let h : x ∷ below ≡ [] = r.standing in cc
message_refuses p s (Suffix end ∷ []) limit u e ended r i = suffix_refuses s end limit u e ended r.formed.0 i
message_refuses p s (Suffix end ∷ x ∷ below) limit u e ended r i = let h : x ∷ below ≡ [] = r.standing in cc
message_refuses p s (Term term ∷ below) limit u e ended r i = past term below limit u ended r ∙ ap (over_term term) (message_refuses p s below limit u e ended (below_is term below r) i)
message_refuses p s (Http http ∷ below) limit u e ended r i = absurd i
message_refuses p s (Ws ws ∷ below) limit u e ended r i = absurd i

-- what is answered where nothing whole is there is no message
never_given : (ended nothing : Bool) (m : List ℕ) → (if not ended then Need else if true && nothing then Fault Epipe else Fault Eproto) ≡ Given (Bytes m) → ⊥
never_given false nothing m e = cc
never_given true false m e = cc
never_given true true m e = cc

-- the front that gave a message
pub record GivenBy (u m : List ℕ) (f : Front) : Type 0 where
  pub from : ℕ
  pub to : ℕ
  pub used : ℕ
  pub front_is : f ≡ front.Whole from to used
  pub text : take (to - from) (drop from u) ≡ m

front_given : (layers : List Placed) (u m : List ℕ) (ended : Bool) (f : Front) → (by_front layers u ended f).said ≡ Given (Bytes m) → GivenBy u m f
front_given layers u m ended (front.Whole from to used) e = record { from = from; to = to; used = used; front_is = refl; text = cc }
front_given layers u m ended front.Need e = absurd (never_given ended (length u == 0) m e)
front_given layers u m ended (front.Fault x) e = cc

text_within : (u m : List ℕ) (from to used limit : ℕ) → LiesIn u limit from to used → take (to - from) (drop from u) ≡ m → length m ≤ limit
text_within u m from to used limit lies e = omega (arith, ap length (sym e), length-take (to - from) (drop from u), lies.short)

pub prefix_given : (p : PrefixLaws) (form : PrefixForm) (limit : ℕ) (u m : List ℕ) (ended : Bool) → AreBytes u → (by_front (Prefix form ∷ []) u ended (prefix_front form u limit)).said ≡ Given (Bytes m)
    → MessageStands (Prefix form ∷ []) limit u m (by_front (Prefix form ∷ []) u ended (prefix_front form u limit)).used
prefix_given p form limit u m ended b e =
    let g : GivenBy u m (prefix_front form u limit) = front_given (Prefix form ∷ []) u m ended (prefix_front form u limit) e in
    let lies : LiesIn u limit g.from g.to g.used = p.lies form u limit g.from g.to g.used g.front_is in
    let due : prefix_due form (take (g.to - g.from) (drop g.from u)) ≡ Ok (take g.used u) = p.spelled form u limit g.from g.to g.used b g.front_is in
    let spells : PrefixSpells form m (take g.used u) = p.written form m (take g.used u) (subst (λ t. prefix_due form t ≡ Ok (take g.used u)) g.text due) in
    let used : (by_front (Prefix form ∷ []) u ended (prefix_front form u limit)).used ≡ g.used = ap (λ f. (by_front (Prefix form ∷ []) u ended f).used) g.front_is in
    subst (MessageStands (Prefix form ∷ []) limit u m) (sym used) (record { there = lies.there; short = short_text g lies; spelled = (take g.used u, spells, refl) })
  where
    short_text : (g : GivenBy u m (prefix_front form u limit)) → LiesIn u limit g.from g.to g.used → length m ≤ limit
    short_text g lies = text_within u m g.from g.to g.used limit lies g.text

pub suffix_given : (s : SuffixLaws) (end : List ℕ) (limit : ℕ) (u m : List ℕ) (ended : Bool) → 0 < length end → (by_front (Suffix end ∷ []) u ended (suffix_front end u limit)).said ≡ Given (Bytes m)
    → MessageStands (Suffix end ∷ []) limit u m (by_front (Suffix end ∷ []) u ended (suffix_front end u limit)).used
suffix_given s end limit u m ended z e =
    let g : GivenBy u m (suffix_front end u limit) = front_given (Suffix end ∷ []) u m ended (suffix_front end u limit) e in
    let lies : LiesIn u limit g.from g.to g.used = s.lies end u limit g.from g.to g.used g.front_is in
    let due : suffix_due end (take (g.to - g.from) (drop g.from u)) ≡ Ok (take g.used u) = s.spelled end u limit g.from g.to g.used z g.front_is in
    let spells : SuffixSpells end m (take g.used u) = s.written end m (take g.used u) z (subst (λ t. suffix_due end t ≡ Ok (take g.used u)) g.text due) in
    let used : (by_front (Suffix end ∷ []) u ended (suffix_front end u limit)).used ≡ g.used = ap (λ f. (by_front (Suffix end ∷ []) u ended f).used) g.front_is in
    subst (MessageStands (Suffix end ∷ []) limit u m) (sym used) (record { there = lies.there; short = text_within u m g.from g.to g.used limit lies g.text; spelled = (take g.used u, spells, refl) })

picked_used : (b : Bool) (x y : Outcome) (n : ℕ) → x.used ≡ n → y.used ≡ n → (if b then x else y).used ≡ n
picked_used true x y n e f = e
picked_used false x y n e f = f

-- what an end by a terminal message passes on isn't that message
over_given : (term : TermLayer) (o : Outcome) (m : List ℕ) → (over_term term o).said ≡ Given (Bytes m) → (o.said ≡ Given (Bytes m)) × ((over_term term o).used ≡ o.used) × (bytes_eq m term.terminal ≡ false)
over_given term o m e =
    let said : (o.said ≡ Given (Bytes m)) × (is_terminal term o.said ≡ false) = by_test (is_terminal term o.said) refl e in
    let used : (over_term term o).used ≡ o.used = picked_used (is_terminal term o.said) (record o { layers = Term (record term { met = true }) ∷ o.layers; said = Fault Epipe }) (record o { layers = Term term ∷ o.layers }) o.used refl refl in
    (said.0, used, ap (is_terminal term) (sym said.0) ∙ said.1)
  where
    by_test : (b : Bool) → is_terminal term o.said ≡ b
        → (if b then record o { layers = Term (record term { met = true }) ∷ o.layers; said = Fault Epipe } else record o { layers = Term term ∷ o.layers }).said ≡ Given (Bytes m)
        → (o.said ≡ Given (Bytes m)) × (is_terminal term o.said ≡ false)
    by_test true t q = cc
    by_test false t q = (q, t)

pub differs : (m t : List ℕ) → bytes_eq m t ≡ false → m ≡ t → ⊥
differs m t e q = false≢true (sym e ∙ (bytes_eq-Decides m t).1 q)

pub message_given : (p : PrefixLaws) (s : SuffixLaws) (layers : List Placed) (limit : ℕ) (u m : List ℕ) (ended : Bool) → IsReadable layers → AreBytes u → (read_message layers u ended limit).said ≡ Given (Bytes m) → MessageStands layers limit u m (read_message layers u ended limit).used
message_given p s [] limit u m ended r b e = absurd r.framing
message_given p s (Prefix form ∷ []) limit u m ended r b e = prefix_given p form limit u m ended b e
message_given p s (Prefix form ∷ x ∷ below) limit u m ended r b e = let h : x ∷ below ≡ [] = r.standing in cc
message_given p s (Suffix end ∷ []) limit u m ended r b e = suffix_given s end limit u m ended r.formed.0 e
message_given p s (Suffix end ∷ x ∷ below) limit u m ended r b e = let h : x ∷ below ≡ [] = r.standing in cc
message_given p s (Term term ∷ below) limit u m ended r b e =
    let same : read_message (Term term ∷ below) u ended limit ≡ over_term term (read_message below u ended limit) = past term below limit u ended r in
    let over : (over_term term (read_message below u ended limit)).said ≡ Given (Bytes m) = ap (λ (o : Outcome). o.said) (sym same) ∙ e in
    let given : ((read_message below u ended limit).said ≡ Given (Bytes m)) × ((over_term term (read_message below u ended limit)).used ≡ (read_message below u ended limit).used) × (bytes_eq m term.terminal ≡ false) = over_given term (read_message below u ended limit) m over in
    let stands : MessageStands below limit u m (read_message below u ended limit).used = message_given p s below limit u m ended (below_is term below r) b given.0 in
    let used : (read_message (Term term ∷ below) u ended limit).used ≡ (read_message below u ended limit).used = ap (λ (o : Outcome). o.used) same ∙ given.1 in
    subst (MessageStands (Term term ∷ below) limit u m) (sym used) (record { there = stands.there; short = stands.short; spelled = (differs m term.terminal given.2, stands.spelled) })
message_given p s (Http http ∷ below) limit u m ended r b e = absurd r.framing
message_given p s (Ws ws ∷ below) limit u m ended r b e = absurd r.framing
