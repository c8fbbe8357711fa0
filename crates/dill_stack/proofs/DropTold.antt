-- A detach drops the items that stand one behind the other, up to what isn't one.
use Rattle.std.proofs.Common.{◌≡◌, inl, inr, ◌≤◌, ◌<◌, ◌+◌, ◌-◌, [], ◌∷◌, ◌++◌, List, ℕ, zero, suc, length, take, drop, arith, sym, ap, ◌∙◌, refl, subst, length-take, Bool, true, false, not, ◌&&◌, ◌||◌, bytes_eq, if◌then◌else◌}
use Rattle.std.specs.Prelude.{◌==◌}
use Rattle.std.proofs.lemmas.Bool.{false≢true}
use Rattle.std.proofs.lemmas.Slice.Eq.{bytes_eq-Decides}
use Rattle.std.proofs.lemmas.List.{take-append-drop, length-drop}
use Rattle.dill_base.specs.declared.errno.Errno.{Errno}
use Rattle.dill_base.specs.declared.errno.Errno.TheVariants.{Epipe, Eproto}
use Rattle.dill_base.specs.declared.errno.Front.{Front}
use Rattle.dill_base.specs.declared.errno.Front.TheVariants as front
use Rattle.dill_base.specs.Reading.{IsFront, IsShown}
use Rattle.dill_calls.specs.declared.answer.Answer.TheVariants.{Bytes, Number}
use Rattle.dill_frames.specs.Laws.{PrefixLaws, SuffixLaws}
use Rattle.dill_frames.specs.Prefix.{AreBytes}
use Rattle.dill_http.specs.Laws.{LineLaws}
use Rattle.dill_http.specs.Lines.{line_limit, LineSpells, LineShows, front_of_line}
use Rattle.dill_stack.specs.declared.want.ReadOut.{ReadOut}
use Rattle.dill_stack.specs.declared.want.ReadOut.TheVariants.{Given, Need, Fault}
use Rattle.dill_stack.specs.Layers.{TermLayer, HttpLayer, Placed, Prefix, Suffix, Term, Http, Ws, IsStanding, AmongFields, is_first, is_behind}
use Rattle.dill_stack.specs.Formed.{IsFormed}
use Rattle.dill_stack.specs.Standing.{IsBounded, IsDroppable}
use Rattle.dill_stack.specs.Refusals.{is_met}
use Rattle.dill_stack.specs.Read.{Outcome, outcome, no_more, over_term, read_message, received}
use Rattle.dill_stack.specs.Messages.{IsFraming, MessageStands, after_end, IsReadable, MessageLaws}
use Rattle.dill_stack.specs.LineReading.{LineStands, IsBoundary}
use Rattle.dill_stack.specs.Dropping.{drop_limit, Dropped, Item, End, Stops, drop_message, drop_line, drop_one, further, after_drop, dropped_within, dropped}
use Rattle.dill_stack.specs.DropReading.{ItemStands, TermLast, Meets, CutOff, Over, Breaks, Cuts, Waits, HeadLast, MeetsEmpty, MeetsEarly, OverHead, BreaksLine, CutsLine, WaitsLine, LastStands, Drops, Next, Last, IsSimple, behind_bytes, DropLaws}
use Rattle.dill_stack.proofs.DropCuts.{drop_more}
use Rattle.dill_stack.proofs.MessageReads.{same_text, own_text, differs}
use Rattle.dill_stack.proofs.MessageTold.{Told, message_told}
use Rattle.dill_stack.proofs.LineReads.{empty_of, whole_stands, line_at, empty_front}
use Rattle.dill_stack.proofs.Sinkings.{item_less}

no_answer : {A : Type 0} → false ≡ true → A
no_answer e = absurd (false≢true e)

or_none : (a b : Bool) → a ≡ false → b ≡ false → (a || b) ≡ false
or_none true b p q = cc
or_none false b p q = q

-- layers whose detach is told by spellings alone
record Fit (layers : List Placed) : Type 0 where
  simple : IsSimple layers
  standing : IsStanding layers
  formed : IsFormed layers

framing_bounded : (layers : List Placed) → IsFraming layers → IsFormed layers → IsBounded layers
framing_bounded [] f k = f
framing_bounded (Prefix form ∷ below) f k = (k.0, k.1)
framing_bounded (Suffix end ∷ below) f k = (omega (arith, k.0), k.1)
framing_bounded (Term term ∷ below) f k = framing_bounded below f k.2
framing_bounded (Http http ∷ below) f k = f
framing_bounded (Ws ws ∷ below) f k = absurd f

fit_droppable : (layers : List Placed) → Fit layers → 1 ≤ length layers → IsDroppable layers
fit_droppable [] t l = absurd (omega (arith, l))
fit_droppable (Prefix form ∷ below) t l = (t.formed.0, t.formed.1)
fit_droppable (Suffix end ∷ below) t l = (omega (arith, t.formed.0), t.formed.1)
fit_droppable (Term term ∷ below) t l = framing_bounded below t.simple t.formed.2
fit_droppable (Http http ∷ below) t l = tt
fit_droppable (Ws ws ∷ below) t l = absurd t.simple

readable : (term : TermLayer) (below : List Placed) → Fit (Term term ∷ below) → is_met below ≡ false → IsReadable below
readable term below t e = record { framing = t.simple; standing = t.standing.1; formed = t.formed.2; unmet = e }

-- an end that was met below answers EPIPE
met_read : (layers : List Placed) (u : List ℕ) (ended : Bool) → IsFraming layers → IsStanding layers → is_met layers ≡ true → read_message layers u ended drop_limit ≡ outcome 0 layers (Fault Epipe)
met_read [] u ended f k e = absurd f
met_read (Prefix form ∷ []) u ended f k e = cc
met_read (Prefix form ∷ y ∷ below) u ended f k e = cc
met_read (Suffix end ∷ []) u ended f k e = cc
met_read (Suffix end ∷ y ∷ below) u ended f k e = cc
met_read (Http http ∷ below) u ended f k e = absurd f
met_read (Ws ws ∷ below) u ended f k e = absurd f
met_read (Term term ∷ below) u ended f k e = by term.met refl (met_read below u ended f k.1)
  where
    by : (b : Bool) → term.met ≡ b → (is_met below ≡ true → read_message below u ended drop_limit ≡ outcome 0 below (Fault Epipe))
        → (if b then outcome 0 (Term term ∷ below) (Fault Epipe) else over_term term (read_message below u ended drop_limit)) ≡ outcome 0 (Term term ∷ below) (Fault Epipe)
    by true m again = refl
    by false m again = ap (over_term term) (again (sym (ap (λ b. b || is_met below) m) ∙ e))

-- ---- one item, where it stands

term_one : (term : TermLayer) (below : List Placed) (u : List ℕ) (ended : Bool) → term.met ≡ false → drop_one (Term term ∷ below) u ended ≡ drop_message term (read_message below u ended 16384)
term_one term below u ended e = ap (λ b. if b then End (outcome 0 below (Given (Number 0))) else drop_message term (read_message below u ended 16384)) e

term_over : (term : TermLayer) (below : List Placed) (u : List ℕ) (ended : Bool) → term.met ≡ true → drop_one (Term term ∷ below) u ended ≡ End (outcome 0 below (Given (Number 0)))
term_over term below u ended e = ap (λ b. if b then End (outcome 0 below (Given (Number 0))) else drop_message term (read_message below u ended 16384)) e

head_one : (http : HttpLayer) (below : List Placed) (u : List ℕ) (ended : Bool) (f : Front) → is_behind http.receiving ≡ false → front_of_line u ≡ f → drop_one (Http http ∷ below) u ended ≡ drop_line http below u ended f
head_one http below u ended f e r = ap (λ b. if b then End (outcome 0 below (Given (Number 0))) else drop_line http below u ended (front_of_line u)) e ∙ ap (drop_line http below u ended) r

head_over : (http : HttpLayer) (below : List Placed) (u : List ℕ) (ended : Bool) → is_behind http.receiving ≡ true → drop_one (Http http ∷ below) u ended ≡ End (outcome 0 below (Given (Number 0)))
head_over http below u ended e = ap (λ b. if b then End (outcome 0 below (Given (Number 0))) else drop_line http below u ended (front_of_line u)) e

message_dropped : (term : TermLayer) (below : List Placed) (n : ℕ) (m : List ℕ) (b : Bool) → bytes_eq m term.terminal ≡ b → drop_message term (outcome n below (Given (Bytes m))) ≡ (if b then End (outcome n below (Given (Number 0))) else Item (outcome n (Term term ∷ below) (Given (Bytes m))))
message_dropped term below n m true e = ap (λ b. if b then End (outcome n below (Given (Number 0))) else Item (outcome n (Term term ∷ below) (Given (Bytes m)))) e
message_dropped term below n m false e = ap (λ b. if b then End (outcome n below (Given (Number 0))) else Item (outcome n (Term term ∷ below) (Given (Bytes m)))) e

-- a line by whether it is empty
abbrev line_dropped : HttpLayer → List Placed → ℕ → Bool → Bool → Dropped
line_dropped http below used empty first = if not empty then Item (outcome used (received AmongFields http ∷ below) Need) else if first then Stops (outcome 0 (Http http ∷ below) (Fault Eproto)) else End (outcome used below (Given (Number 0)))

no_length : (n : ℕ) → n - 0 ≡ n
no_length n = omega arith

line_one : (l : LineLaws) (http : HttpLayer) (below : List Placed) (u line : List ℕ) (n : ℕ) (ended : Bool) → is_behind http.receiving ≡ false → LineStands u line n → drop_one (Http http ∷ below) u ended ≡ line_dropped http below n (length line == 0) (is_first http.receiving)
line_one l http below u line n ended e s =
    head_one http below u ended (front.Whole 0 (length line) n) e (line_at l u line n s).0
    ∙ ap (λ k. line_dropped http below n (k == 0) (is_first http.receiving)) (no_length (length line))

some_line : (line : List ℕ) → (line ≡ [] → ⊥) → (length line == 0) ≡ false
some_line line f = by (length line == 0) refl
  where
    by : (b : Bool) → (length line == 0) ≡ b → b ≡ false
    by true e = absurd (f (empty_of line e))
    by false e = refl

item_is : (g : MessageLaws) (l : LineLaws) (layers : List Placed) (u : List ℕ) (n : ℕ) (after : List Placed) (ended : Bool) → Fit layers → ItemStands layers u n after → (said : ReadOut) × (drop_one layers u ended ≡ Item (outcome n after said))
item_is g l [] u n after ended t i = absurd i
item_is g l (Prefix form ∷ below) u n after ended t i = absurd i
item_is g l (Suffix end ∷ below) u n after ended t i = absurd i
item_is g l (Ws ws ∷ below) u n after ended t i = absurd i
item_is g l (Term term ∷ below) u n after ended t i =
    let m : List ℕ = i.0 in
    let stands : MessageStands below drop_limit u m n = record { there = i.3.there; short = i.3.short; spelled = i.3.spelled.1 } in
    let read : read_message below u ended 16384 ≡ outcome n below (Given (Bytes m)) = g.gives below drop_limit u m n ended (readable term below t i.2) stands in (
      Given (Bytes m),
      term_one term below u ended i.1 ∙ ap (drop_message term) read ∙ message_dropped term below n m false (same_text m term.terminal i.3.spelled.0) ∙ ap (λ (x : List Placed). Item (outcome n x (Given (Bytes m)))) (sym i.4),
    )
item_is g l (Http http ∷ below) u n after ended t i = (
  Need,
  line_one l http below u i.0 n ended i.1 i.2 ∙ ap (λ b. line_dropped http below n b (is_first http.receiving)) (some_line i.0 i.3) ∙ ap (λ (x : List Placed). Item (outcome n x Need)) (sym i.4),
)

-- ---- what isn't an item, where it stands

-- the answer of a detach that stops here
abbrev IsLast : Dropped → Outcome → Type 0
IsLast (Item p) o = ⊥
IsLast (End p) o = p ≡ o
IsLast (Stops p) o = p ≡ o

last_as : (d : Dropped) (o p : Outcome) → IsLast d o → p ≡ o → IsLast d p
last_as d o p k e = subst (IsLast d) (sym e) k

-- what is read below an end leads to what is dropped
by_read : (term : TermLayer) (below : List Placed) (u : List ℕ) (ended : Bool) (m o : Outcome) → term.met ≡ false → read_message below u ended 16384 ≡ m → IsLast (drop_message term m) o → IsLast (drop_one (Term term ∷ below) u ended) o
by_read term below u ended m o e r k = subst (λ d. IsLast d o) (sym (term_one term below u ended e ∙ ap (drop_message term) r)) k

term_last : (g : MessageLaws) (term : TermLayer) (below : List Placed) (u : List ℕ) (ended : Bool) (o : Outcome) → IsReadable below → AreBytes u → term.met ≡ false → TermLast term below ended u o → IsLast (drop_one (Term term ∷ below) u ended) o
term_last g term below u ended o r b e (Meets n s q) = by_read term below u ended (outcome n below (Given (Bytes term.terminal))) o e (g.gives below drop_limit u term.terminal n ended r s) (subst (λ d. IsLast d o) (sym (message_dropped term below n term.terminal true (own_text term.terminal))) (sym q))
term_last g term below u ended o r b e (CutOff n s q) = by_read term below u ended (outcome n (after_end below drop_limit u n s) (Fault Epipe)) o e (g.ends below drop_limit u n ended r s) (sym q)
term_last g term below u ended o r b e (Over f z q) = by_read term below u ended (outcome 0 below (Fault Epipe)) o e (ap (λ v. read_message below v ended 16384) z ∙ ap (λ c. read_message below [] c 16384) f ∙ g.over below drop_limit r) (sym q)
term_last g term below u ended o r b e (Breaks x s q) = by_read term below u ended (outcome 0 below (Fault x)) o e (g.refuses below drop_limit u x ended r s) (sym q)
term_last g term below u ended o r b e (Cuts f n z q) = by_read term below u ended (outcome 0 below (Fault Eproto)) o e (ap (λ c. read_message below u c 16384) f ∙ g.cuts below drop_limit u r b n z) (sym q)
term_last g term below u ended o r b e (Waits f n q) = by_read term below u ended (outcome 0 below Need) o e (ap (λ c. read_message below u c 16384) f ∙ g.waits below drop_limit u r b n) (sym q)

-- what a line that isn't whole comes to
more_ends : (http : HttpLayer) (u : List ℕ) → IsBoundary http u → no_more true (is_first http.receiving) u ≡ Fault Epipe
more_ends http u b = ap (λ f. no_more true f u) b.0 ∙ ap (no_more true true) b.1

more_cuts : (http : HttpLayer) (u : List ℕ) → (IsBoundary http u → ⊥) → no_more true (is_first http.receiving) u ≡ Fault Eproto
more_cuts http u n = by (is_first http.receiving) (length u == 0) refl refl
  where
    by : (a b : Bool) → is_first http.receiving ≡ a → (length u == 0) ≡ b → (if a && b then Fault Epipe else Fault Eproto) ≡ Fault Eproto
    by true true q r = absurd (n (q, empty_of u r))
    by true false q r = refl
    by false b q r = refl

-- a line that isn't whole
open_last : (l : LineLaws) (http : HttpLayer) (below : List Placed) (u : List ℕ) (ended : Bool) (said : ReadOut) (o : Outcome) → is_behind http.receiving ≡ false → front_of_line u ≡ front.Need → no_more ended (is_first http.receiving) u ≡ said → o ≡ outcome 0 (Http http ∷ below) said → IsLast (drop_one (Http http ∷ below) u ended) o
open_last l http below u ended said o e f m q = subst (λ d. IsLast d o) (sym (head_one http below u ended front.Need e f)) (ap (outcome 0 (Http http ∷ below)) m ∙ sym q)

front_refused : (l : LineLaws) (u : List ℕ) (e : Errno) → IsShown LineShows u e → front_of_line u ≡ front.Fault e
front_refused l u e k = ap front_of_line (sym (take-append-drop k.count u)) ∙ l.refused e (take k.count u) (drop k.count u) k.shown

head_last : (l : LineLaws) (http : HttpLayer) (below : List Placed) (u : List ℕ) (ended : Bool) (o : Outcome) → is_behind http.receiving ≡ false → HeadLast http below ended u o → IsLast (drop_one (Http http ∷ below) u ended) o
head_last l http below u ended o e (MeetsEmpty n s f q) = subst (λ d. IsLast d o) (sym (line_one l http below u [] n ended e s ∙ ap (line_dropped http below n true) f)) (sym q)
head_last l http below u ended o e (MeetsEarly n s f q) = subst (λ d. IsLast d o) (sym (line_one l http below u [] n ended e s ∙ ap (line_dropped http below n true) f)) (sym q)
head_last l http below u ended o e (OverHead f b q) = open_last l http below u ended (Fault Epipe) o e (ap front_of_line b.1 ∙ empty_front) (ap (λ c. no_more c (is_first http.receiving) u) f ∙ more_ends http u b) q
head_last l http below u ended o e (BreaksLine x s q) = subst (λ d. IsLast d o) (sym (head_one http below u ended (front.Fault x) e (front_refused l u x s))) (sym q)
head_last l http below u ended o e (CutsLine f k n q) = open_last l http below u ended (Fault Eproto) o e (l.cut_waits u k) (ap (λ c. no_more c (is_first http.receiving) u) f ∙ more_cuts http u n) q
head_last l http below u ended o e (WaitsLine f k q) = open_last l http below u ended Need o e (l.cut_waits u k) (ap (λ c. no_more c (is_first http.receiving) u) f) q

last_is : (g : MessageLaws) (l : LineLaws) (layers : List Placed) (u : List ℕ) (ended : Bool) (o : Outcome) → Fit layers → AreBytes u → LastStands ended layers u o → IsLast (drop_one layers u ended) o
last_is g l [] u ended o t b k = sym k
last_is g l (Prefix form ∷ below) u ended o t b k = sym k
last_is g l (Suffix end ∷ below) u ended o t b k = sym k
last_is g l (Ws ws ∷ below) u ended o t b k = absurd k
last_is g l (Term term ∷ below) u ended o t b (inl k) = subst (λ d. IsLast d o) (sym (term_over term below u ended k.0)) (sym k.1)
last_is g l (Term term ∷ below) u ended o t b (inr (inl k)) = by_read term below u ended (outcome 0 below (Fault Epipe)) o k.0 (met_read below u ended t.simple t.standing.1 k.1) (sym k.2)
last_is g l (Term term ∷ below) u ended o t b (inr (inr k)) = term_last g term below u ended o (readable term below t k.1) b k.0 k.2
last_is g l (Http http ∷ below) u ended o t b (inl k) = subst (λ d. IsLast d o) (sym (head_over http below u ended k.0)) (sym k.1)
last_is g l (Http http ∷ below) u ended o t b (inr k) = head_last l http below u ended o k.0 k.1

-- ---- what one step of a detach shows

-- why an item was dropped, or why the dropping ends
abbrev Shows : List Placed → List ℕ → Bool → Dropped → Type 0
Shows layers u ended (Item o) = ItemStands layers u o.used o.layers × (o.pings ≡ [])
Shows layers u ended (End o) = LastStands ended layers u o
Shows layers u ended (Stops o) = LastStands ended layers u o

given_shows : (g : MessageLaws) (term : TermLayer) (below : List Placed) (u m : List ℕ) (n : ℕ) (ended : Bool) → term.met ≡ false → is_met below ≡ false → MessageStands below drop_limit u m n → Shows (Term term ∷ below) u ended (drop_message term (outcome n below (Given (Bytes m))))
given_shows g term below u m n ended e f s = by (bytes_eq m term.terminal) refl
  where
    by : (b : Bool) → bytes_eq m term.terminal ≡ b → Shows (Term term ∷ below) u ended (drop_message term (outcome n below (Given (Bytes m))))
    by true q =
        let same : m ≡ term.terminal = (bytes_eq-Decides m term.terminal).0 q in
        subst (Shows (Term term ∷ below) u ended) (sym (message_dropped term below n m true q)) (inr (inr (e, f, Meets n (subst (λ x. MessageStands below drop_limit u x n) same s) refl)))
    by false q = subst (Shows (Term term ∷ below) u ended) (sym (message_dropped term below n m false q)) ((m, e, f, record { there = s.there; short = s.short; spelled = (differs m term.terminal q, s.spelled) }, refl), refl)

term_shows : (g : MessageLaws) (term : TermLayer) (below : List Placed) (u : List ℕ) (ended : Bool) (said : ReadOut) (n : ℕ) → IsReadable below → AreBytes u → term.met ≡ false → is_met below ≡ false → Told below drop_limit u ended said n → Shows (Term term ∷ below) u ended (drop_message term (read_message below u ended 16384))
term_shows g term below u ended (Given answer) n r b e f t = subst (λ (x : Outcome). Shows (Term term ∷ below) u ended (drop_message term x)) (sym (g.gives below drop_limit u t.0 n ended r t.2)) (given_shows g term below u t.0 n ended e f t.2)
term_shows g term below u ended Need n r b e f t = subst (λ (x : Outcome). Shows (Term term ∷ below) u ended (drop_message term x)) (sym (ap (λ c. read_message below u c 16384) t.0 ∙ g.waits below drop_limit u r b t.1)) (inr (inr (e, f, Waits t.0 t.1 refl)))
term_shows g term below u ended (Fault x) n r b e f (inl (q, inl s)) = subst (λ (x : Outcome). Shows (Term term ∷ below) u ended (drop_message term x)) (sym (g.ends below drop_limit u n ended r s)) (inr (inr (e, f, CutOff n s refl)))
term_shows g term below u ended (Fault x) n r b e f (inl (q, inr k)) = subst (λ (x : Outcome). Shows (Term term ∷ below) u ended (drop_message term x)) (sym (ap (λ v. read_message below v ended 16384) k.1 ∙ ap (λ c. read_message below [] c 16384) k.0 ∙ g.over below drop_limit r)) (inr (inr (e, f, Over k.0 k.1 refl)))
term_shows g term below u ended (Fault x) n r b e f (inr (inl k)) = subst (λ (x : Outcome). Shows (Term term ∷ below) u ended (drop_message term x)) (sym (ap (λ c. read_message below u c 16384) k.1 ∙ g.cuts below drop_limit u r b k.3 k.2)) (inr (inr (e, f, Cuts k.1 k.3 k.2 refl)))
term_shows g term below u ended (Fault x) n r b e f (inr (inr k)) = subst (λ (y : Outcome). Shows (Term term ∷ below) u ended (drop_message term y)) (sym (g.refuses below drop_limit u x ended r k.1)) (inr (inr (e, f, Breaks x k.1 refl)))

line_shows : (l : LineLaws) (http : HttpLayer) (below : List Placed) (u : List ℕ) (ended : Bool) (f : Front) → is_behind http.receiving ≡ false → front_of_line u ≡ f → Shows (Http http ∷ below) u ended (drop_line http below u ended f)
line_shows l http below u ended (front.Whole from to used) e r = by (to - from == 0) (is_first http.receiving) refl refl
  where
    line : List ℕ
    line = take (to - from) (drop from u)

    stands : LineStands u line used
    stands = whole_stands l u from to used r

    size : length line ≡ to - from
    size = let k = l.lies u from to used r in omega (arith, length-take (to - from) (drop from u), length-drop from u, k.first, k.ending, k.there)

    nothing : (to - from == 0) ≡ true → line ≡ []
    nothing q = empty_of line (ap (λ n. n == 0) size ∙ q)

    something : (to - from == 0) ≡ false → line ≡ [] → ⊥
    something q z = let no : length line ≡ 0 = ap length z in no_answer (sym q ∙ ap (λ n. n == 0) (sym size ∙ no))

    by : (a c : Bool) → (to - from == 0) ≡ a → is_first http.receiving ≡ c → Shows (Http http ∷ below) u ended (line_dropped http below used a c)
    by false c q z = ((line, e, stands, something q, refl), refl)
    by true true q z = inr (e, MeetsEarly used (subst (λ x. LineStands u x used) (nothing q) stands) z refl)
    by true false q z = inr (e, MeetsEmpty used (subst (λ x. LineStands u x used) (nothing q) stands) z refl)
line_shows l http below u ended front.Need e r = inr (e, by ended refl)
  where
    at : (a c : Bool) → ended ≡ true → is_first http.receiving ≡ a → (length u == 0) ≡ c → HeadLast http below ended u (outcome 0 (Http http ∷ below) (if a && c then Fault Epipe else Fault Eproto))
    at true true g p q = OverHead g (p, empty_of u q) refl
    at true false g p q = CutsLine g (l.open_ends u r) (λ k. no_answer (sym q ∙ ap (λ (x : List ℕ). length x == 0) k.1)) refl
    at false c g p q = CutsLine g (l.open_ends u r) (λ k. no_answer (sym p ∙ k.0)) refl

    by : (c : Bool) → ended ≡ c → HeadLast http below ended u (outcome 0 (Http http ∷ below) (no_more c (is_first http.receiving) u))
    by false g = WaitsLine g (l.open_ends u r) refl
    by true g = at (is_first http.receiving) (length u == 0) g refl refl
line_shows l http below u ended (front.Fault x) e r = inr (e, BreaksLine x (subst (IsFront LineSpells LineShows line_limit u) r (l.front u)) refl)

shows : (p : PrefixLaws) (s : SuffixLaws) (g : MessageLaws) (l : LineLaws) (layers : List Placed) (u : List ℕ) (ended : Bool) → Fit layers → AreBytes u → Shows layers u ended (drop_one layers u ended)
shows p s g l [] u ended t b = refl
shows p s g l (Prefix form ∷ below) u ended t b = refl
shows p s g l (Suffix end ∷ below) u ended t b = refl
shows p s g l (Ws ws ∷ below) u ended t b = absurd t.simple
shows p s g l (Http http ∷ below) u ended t b = by (is_behind http.receiving) refl
  where
    by : (c : Bool) → is_behind http.receiving ≡ c → Shows (Http http ∷ below) u ended (drop_one (Http http ∷ below) u ended)
    by true e = subst (Shows (Http http ∷ below) u ended) (sym (head_over http below u ended e)) (inl (e, refl))
    by false e = subst (Shows (Http http ∷ below) u ended) (sym (head_one http below u ended (front_of_line u) e refl)) (line_shows l http below u ended (front_of_line u) e refl)
shows p s g l (Term term ∷ below) u ended t b = by term.met (is_met below) refl refl
  where
    by : (c d : Bool) → term.met ≡ c → is_met below ≡ d → Shows (Term term ∷ below) u ended (drop_one (Term term ∷ below) u ended)
    by true d e f = subst (Shows (Term term ∷ below) u ended) (sym (term_over term below u ended e)) (inl (e, refl))
    by false true e f = subst (Shows (Term term ∷ below) u ended) (sym (term_one term below u ended e ∙ ap (drop_message term) (met_read below u ended t.simple t.standing.1 f))) (inr (inl (e, f, refl)))
    by false false e f =
        let r : IsReadable below = readable term below t f in
        subst (Shows (Term term ∷ below) u ended) (sym (term_one term below u ended e)) (term_shows g term below u ended (read_message below u ended 16384).said (read_message below u ended 16384).used r b e f (message_told p s below drop_limit u ended r b))

-- ---- all items

item_fit : (layers : List Placed) (u : List ℕ) (n : ℕ) (after : List Placed) → Fit layers → ItemStands layers u n after → Fit after
item_fit [] u n after t i = absurd i
item_fit (Prefix form ∷ below) u n after t i = absurd i
item_fit (Suffix end ∷ below) u n after t i = absurd i
item_fit (Ws ws ∷ below) u n after t i = absurd i
item_fit (Term term ∷ below) u n after t i = subst Fit (sym i.4) t
item_fit (Http http ∷ below) u n after t i = subst Fit (sym i.4) (record { simple = tt; standing = t.standing; formed = t.formed })

bytes_back : (n : ℕ) (v : List ℕ) → AreBytes v → AreBytes (drop n v)
bytes_back zero v b = b
bytes_back (suc n) [] b = b
bytes_back (suc n) (x ∷ v) b = bytes_back n v (λ j. b (suc j))

drops_within : (p : PrefixLaws) (s : SuffixLaws) (g : MessageLaws) (l : LineLaws) (n : ℕ) (ended : Bool) (layers : List Placed) (u : List ℕ) → length u < n → Fit layers → AreBytes u → Drops ended layers u (dropped_within n ended layers u)
drops_within p s g l zero ended layers u k t b = absurd (omega (arith, k))
drops_within p s g l (suc n) ended layers u k t b = by (drop_one layers u ended) refl (shows p s g l layers u ended t b) (drops_within p s g l n ended)
  where
    by : (d : Dropped) → drop_one layers u ended ≡ d → Shows layers u ended d → ((x : List Placed) (v : List ℕ) → length v < n → Fit x → AreBytes v → Drops ended x v (dropped_within n ended x v)) → Drops ended layers u (after_drop (dropped_within n ended) u d)
    by (End o) e h again = Last layers u o h
    by (Stops o) e h again = Last layers u o h
    by (Item o) e h again =
        let less = item_less p s l layers u ended o (fit_droppable layers t) e in
        let rest : Outcome = dropped_within n ended o.layers (drop o.used u) in
        let same : further o rest ≡ behind_bytes o.used rest = ap (λ x. let q : Outcome = record { used = o.used + rest.used; layers = rest.layers; pings = x ++ rest.pings; said = rest.said } in q) h.1 in
        subst (Drops ended layers u) (sym same) (Next layers u o.used o.layers rest h.0 (again o.layers (drop o.used u) (omega (arith, k, less.0, less.1, length-drop o.used u)) (item_fit layers u o.used o.layers t h.0) (bytes_back o.used u b)))

last_after : (again : List Placed → List ℕ → Outcome) (u : List ℕ) (d : Dropped) (o : Outcome) → IsLast d o → after_drop again u d ≡ o
last_after again u (Item p) o k = absurd k
last_after again u (End p) o k = k
last_after again u (Stops p) o k = k

only_drops : (p : PrefixLaws) (s : SuffixLaws) (g : MessageLaws) (l : LineLaws) (ended : Bool) (layers : List Placed) (u : List ℕ) (o : Outcome) → Fit layers → AreBytes u → Drops ended layers u o → dropped_within (suc (length u)) ended layers u ≡ o
only_drops p s g l ended layers u o t b (Last _ _ _ k) = last_after (dropped_within (length u) ended) u (drop_one layers u ended) o (last_is g l layers u ended o t b k)
only_drops p s g l ended layers u _ t b (Next _ _ n after o i rest) =
    let one = item_is g l layers u n after ended t i in
    let less = item_less p s l layers u ended (outcome n after one.0) (fit_droppable layers t) one.1 in
    let again : dropped_within (suc (length (drop n u))) ended after (drop n u) ≡ o = only_drops p s g l ended after (drop n u) o (item_fit layers u n after t i) (bytes_back n u b) rest in
    ap (after_drop (dropped_within (length u) ended) u) one.1
    ∙ ap (further (outcome n after one.0)) (drop_more p s (length u) (suc (length (drop n u))) ended after (drop n u) (omega (arith, less.0, less.1, length-drop n u)) (omega arith) ∙ again)

drops_all : (p : PrefixLaws) (s : SuffixLaws) (g : MessageLaws) (l : LineLaws) (layers : List Placed) (u : List ℕ) (ended : Bool) → IsSimple layers → IsStanding layers → IsFormed layers → AreBytes u → Drops ended layers u (dropped layers u ended)
unfolding dropped
drops_all p s g l layers u ended i k f b = drops_within p s g l (suc (length u)) ended layers u (omega arith) (record { simple = i; standing = k; formed = f }) b

drops_only : (p : PrefixLaws) (s : SuffixLaws) (g : MessageLaws) (l : LineLaws) (layers : List Placed) (u : List ℕ) (ended : Bool) (o : Outcome) → IsSimple layers → IsStanding layers → IsFormed layers → AreBytes u → Drops ended layers u o → dropped layers u ended ≡ o
unfolding dropped
drops_only p s g l layers u ended o i k f b d = only_drops p s g l ended layers u o (record { simple = i; standing = k; formed = f }) b d

pub drop_laws : PrefixLaws → SuffixLaws → MessageLaws → LineLaws → DropLaws
drop_laws p s g l = record { drops = drops_all p s g l; only = drops_only p s g l }
