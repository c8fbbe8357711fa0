-- A detach of an end over a WebSocket layer drops the messages that stand one behind the other, up to what isn't one.
use Rattle.std.proofs.Common.{◌≡◌, ◌⊎◌, inl, inr, ◌<◌, [], ◌∷◌, List, ℕ, zero, suc, length, drop, arith, sym, ap, ◌∙◌, refl, subst, Bool, true, false, bytes_eq, if◌then◌else◌}
use Rattle.std.proofs.lemmas.Bool.{false≢true}
use Rattle.std.proofs.lemmas.List.{length-drop}
use Rattle.std.proofs.lemmas.Slice.Eq.{bytes_eq-Decides}
use Rattle.dill_base.specs.declared.errno.Errno.{Errno}
use Rattle.dill_base.specs.declared.errno.Errno.TheVariants.{Epipe, Eproto}
use Rattle.dill_calls.specs.declared.answer.Answer.TheVariants.{Bytes, Number}
use Rattle.dill_frames.specs.Laws.{PrefixLaws, SuffixLaws}
use Rattle.dill_http.specs.Laws.{LineLaws}
use Rattle.dill_ws.specs.Frames.{Part}
use Rattle.dill_ws.specs.FrameLaws.{FrameLaws, AreBytes}
use Rattle.dill_stack.specs.declared.want.ReadOut.TheVariants.{Given, Need, Fault}
use Rattle.dill_stack.specs.Layers.{Placed, Term, TermLayer, Ws, WsLayer}
use Rattle.dill_stack.specs.WsReading.{Passed, passed, at_end}
use Rattle.dill_stack.specs.Passing.{IsPassed}
use Rattle.dill_stack.specs.Read.{Outcome, outcome, is_terminal, read_ws}
use Rattle.dill_stack.specs.Staying.{FrontStays}
use Rattle.dill_stack.specs.Joining.{HasPassed, JoinedStands, joined_outcome}
use Rattle.dill_stack.specs.Ending.{CloseStands, IsBetween}
use Rattle.dill_stack.specs.Breaking.{BreakStands}
use Rattle.dill_stack.specs.Seeing.{emptied}
use Rattle.dill_stack.specs.Dropping.{Dropped, Item, End, Stops, is_given, left_with, drop_message, drop_one, further, after_drop, dropped_within, dropped}
use Rattle.dill_stack.specs.TermFrameDropping.{under, terminal_outcome, TermFramesLast, MeetsTerminal, ClosedBelow, OverBelow, BreaksBelow, CutsBelow, WaitsBelow, DropsTermFrames, NextUnder, LastUnder, TermFrameDropLaws}
use Rattle.dill_stack.proofs.Breakings.{break_read}
use Rattle.dill_stack.proofs.BreakTold.{Tells, Gives, Meets, Breaks, Opens, tells_here, said_unmet, break_stands, nothing_joined, at_end_fault}
use Rattle.dill_stack.proofs.DropCuts.{drop_more}
use Rattle.dill_stack.proofs.EndReads.{close_read, over_read, met_read}
use Rattle.dill_stack.proofs.EndTold.{end_told}
use Rattle.dill_stack.proofs.JoinedReads.{joined_gives}
use Rattle.dill_stack.proofs.Joinings.{gives_joined, needs_passed}
use Rattle.dill_stack.proofs.MessageReads.{same_text, own_text, differs}
use Rattle.dill_stack.proofs.Passings.{passes_frames, bytes_behind}
use Rattle.dill_stack.proofs.Sinkings.{item_less}

no_answer : {A : Type 0} → false ≡ true → A
no_answer e = absurd (false≢true e)

-- the two layers
abbrev both : TermLayer → WsLayer → List Placed
both term ws = Term term ∷ Ws ws ∷ []

one_unmet : (term : TermLayer) (ws : WsLayer) (u : List ℕ) (ended : Bool) → term.met ≡ false → drop_one (both term ws) u ended ≡ drop_message term (read_ws [] ws u ended 16384)
one_unmet term ws u ended e = ap (λ b. if b then End (outcome 0 (Ws ws ∷ []) (Given (Number 0))) else drop_message term (read_ws [] ws u ended 16384)) e

-- a message that isn't the terminal one is dropped
message_by : (term : TermLayer) (o : Outcome) (m : List ℕ) (b : Bool) → bytes_eq m term.terminal ≡ b → o.said ≡ Given (Bytes m) → drop_message term o ≡ (if b then End (left_with o.layers o) else Item (under term o))
message_by term o m b p q = ap (λ x. if is_terminal term x then End (left_with o.layers o) else if is_given x then Item (under term o) else Stops (under term o)) q ∙ ap (λ x. if x then End (left_with o.layers o) else Item (under term o)) p

fault_by : (term : TermLayer) (o : Outcome) (e : Errno) → o.said ≡ Fault e → drop_message term o ≡ Stops (under term o)
fault_by term o e q = ap (λ x. if is_terminal term x then End (left_with o.layers o) else if is_given x then Item (under term o) else Stops (under term o)) q

need_by : (term : TermLayer) (o : Outcome) → o.said ≡ Need → drop_message term o ≡ Stops (under term o)
need_by term o q = ap (λ x. if is_terminal term x then End (left_with o.layers o) else if is_given x then Item (under term o) else Stops (under term o)) q

message_one : (laws : FrameLaws) (past : List Part) (term : TermLayer) (ws : WsLayer) (u m : List ℕ) (n : ℕ) (ended b : Bool) → HasPassed past ws → term.met ≡ false → ws.met ≡ false → bytes_eq m term.terminal ≡ b → (s : JoinedStands ws.side past 16384 u m n)
    → drop_one (both term ws) u ended ≡ (if b then End (terminal_outcome ws n s.before) else Item (under term (joined_outcome [] ws n s.before m)))
message_one laws past term ws u m n ended b h t met q s = one_unmet term ws u ended t ∙ ap (drop_message term) (joined_gives laws 16384 past [] ws u m n ended h met s) ∙ message_by term (joined_outcome [] ws n s.before m) m b q refl

-- a read that is a fault
stop_one : (term : TermLayer) (ws : WsLayer) (u : List ℕ) (ended : Bool) (o : Outcome) (e : Errno) → term.met ≡ false → read_ws [] ws u ended 16384 ≡ o → o.said ≡ Fault e → drop_one (both term ws) u ended ≡ Stops (under term o)
stop_one term ws u ended o e t r q = one_unmet term ws u ended t ∙ ap (drop_message term) r ∙ fault_by term o e q

-- what one step of a detach shows
abbrev ShowsUnder : List Part → TermLayer → WsLayer → List ℕ → Bool → Dropped → Type 0
ShowsUnder past term ws u ended (Item o) = (m : List ℕ) × (n : ℕ) × (m ≡ term.terminal → ⊥) × (s : JoinedStands ws.side past 16384 u m n) × (o ≡ under term (joined_outcome [] ws n s.before m))
ShowsUnder past term ws u ended (End o) = TermFramesLast ended past term ws u o
ShowsUnder past term ws u ended (Stops o) = TermFramesLast ended past term ws u o

shows : (laws : FrameLaws) (stays : FrontStays) (past : List Part) (term : TermLayer) (ws : WsLayer) (u : List ℕ) (ended : Bool) → AreBytes u → HasPassed past ws → term.met ≡ false → ws.met ≡ false → ShowsUnder past term ws u ended (drop_one (both term ws) u ended)
shows laws stays past term ws u ended b h t met = by (tells_here laws 16384 ws u b)
  where
    p : Passed
    p = passed 16384 ws u

    i : IsPassed 16384 ws u p
    i = passes_frames laws 16384 ws u b

    o : Outcome
    o = read_ws [] ws u ended 16384

    end_shows : o.said ≡ Fault Epipe → ShowsUnder past term ws u ended (drop_one (both term ws) u ended)
    end_shows e = told (end_told laws 16384 [] ws u ended b e)
      where
        told : (ws.met ≡ true) ⊎ (CloseStands 16384 ws u o.used ⊎ ((ended ≡ true) × IsBetween 16384 ws u)) → ShowsUnder past term ws u ended (drop_one (both term ws) u ended)
        told (inl m) = no_answer (sym met ∙ m)
        told (inr (inl s)) = subst (ShowsUnder past term ws u ended) (sym (stop_one term ws u ended _ Epipe t (close_read laws 16384 [] ws u o.used ended met s) refl)) (ClosedBelow o.used s refl)
        told (inr (inr k)) = subst (ShowsUnder past term ws u ended) (sym (stop_one term ws u ended _ Epipe t (ap (λ c. read_ws [] ws u c 16384) k.0 ∙ over_read laws 16384 [] ws u met k.1) refl)) (OverBelow k.0 k.1 refl)

    by : Tells 16384 p.ws (drop p.used u) → ShowsUnder past term ws u ended (drop_one (both term ws) u ended)
    by (Gives m s) = given (bytes_eq m term.terminal) refl
      where
        st : JoinedStands ws.side past 16384 u m o.used
        st = gives_joined laws 16384 past [] ws u m ended b h (said_unmet 16384 [] ws u ended (Given (Bytes m)) met (s ended))

        given : (c : Bool) → bytes_eq m term.terminal ≡ c → ShowsUnder past term ws u ended (drop_one (both term ws) u ended)
        given true q =
            let same : m ≡ term.terminal = (bytes_eq-Decides m term.terminal).0 q in
            let end : JoinedStands ws.side past 16384 u term.terminal o.used = subst (λ x. JoinedStands ws.side past 16384 u x o.used) same st in
            subst (ShowsUnder past term ws u ended) (sym (message_one laws past term ws u term.terminal o.used ended true h t met (own_text term.terminal) end)) (MeetsTerminal o.used end refl)
        given false q = subst (ShowsUnder past term ws u ended) (sym (message_one laws past term ws u m o.used ended false h t met q st)) (m, o.used, differs m term.terminal q, st, refl)
    by (Meets s) = end_shows (said_unmet 16384 [] ws u ended (Fault Epipe) met (s ended))
    by (Breaks e q s x w) =
        let st : BreakStands 16384 ws u p.used e = break_stands 16384 ws u e p i w in
        subst (ShowsUnder past term ws u ended) (sym (stop_one term ws u ended _ e t (break_read laws stays 16384 [] ws u p.used e ended b met st) refl)) (BreaksBelow p.used e st refl)
    by (Opens s w) = opened ended refl
      where
        said : o.said ≡ (if ended then at_end p.ws (drop p.used u) else Need)
        said = said_unmet 16384 [] ws u ended (if ended then at_end p.ws (drop p.used u) else Need) met (s ended)

        opened : (c : Bool) → ended ≡ c → ShowsUnder past term ws u ended (drop_one (both term ws) u ended)
        opened false f =
            let need : o.said ≡ Need = said ∙ ap (λ c. if c then at_end p.ws (drop p.used u) else Need) f in
            subst (ShowsUnder past term ws u ended) (sym (one_unmet term ws u ended t ∙ need_by term o need))
            (WaitsBelow f (nothing_joined laws stays 16384 past [] ws u b h met (said_unmet 16384 [] ws u false Need met (s false))) need o (needs_passed laws 16384 past [] ws u ended b h need) refl)
        opened true f = over (at_end_fault p.ws (drop p.used u))
          where
            here : o.said ≡ at_end p.ws (drop p.used u)
            here = said ∙ ap (λ c. if c then at_end p.ws (drop p.used u) else Need) f

            no_pipe : Fault Eproto ≡ Fault Epipe → ⊥
            no_pipe e = cc

            over : (at_end p.ws (drop p.used u) ≡ Fault Epipe) ⊎ (at_end p.ws (drop p.used u) ≡ Fault Eproto) → ShowsUnder past term ws u ended (drop_one (both term ws) u ended)
            over (inl r) = end_shows (here ∙ r)
            over (inr r) =
                let cut : o.said ≡ Fault Eproto = here ∙ r in
                let between : IsBetween 16384 ws u → ⊥ = λ k. no_pipe (sym cut ∙ ap (λ c. (read_ws [] ws u c 16384).said) f ∙ ap (λ (x : Outcome). x.said) (over_read laws 16384 [] ws u met k)) in
                subst (ShowsUnder past term ws u ended) (sym (stop_one term ws u ended o Eproto t refl cut))
                (CutsBelow f (nothing_joined laws stays 16384 past [] ws u b h met (said_unmet 16384 [] ws u false Need met (s false))) between cut)

-- ---- all messages

fresh_passed : (ws : WsLayer) → HasPassed [] (emptied ws)
fresh_passed ws = record { follows = tt; passing = refl; joining = refl; joined = refl }

drops_within : (p : PrefixLaws) (s : SuffixLaws) (l : LineLaws) (laws : FrameLaws) (stays : FrontStays) (n : ℕ) (ended : Bool) (past : List Part) (term : TermLayer) (ws : WsLayer) (u : List ℕ) → length u < n → AreBytes u → HasPassed past ws → term.met ≡ false → ws.met ≡ false
    → DropsTermFrames ended term past ws u (dropped_within n ended (both term ws) u)
drops_within p s l laws stays zero ended past term ws u k b h t met = absurd (omega (arith, k))
drops_within p s l laws stays (suc n) ended past term ws u k b h t met = by (drop_one (both term ws) u ended) refl (shows laws stays past term ws u ended b h t met) (λ q x v. drops_within p s l laws stays n ended q term x v)
  where
    by : (d : Dropped) → drop_one (both term ws) u ended ≡ d → ShowsUnder past term ws u ended d → ((q : List Part) (x : WsLayer) (v : List ℕ) → length v < n → AreBytes v → HasPassed q x → term.met ≡ false → x.met ≡ false → DropsTermFrames ended term q x v (dropped_within n ended (both term x) v))
        → DropsTermFrames ended term past ws u (after_drop (dropped_within n ended) u d)
    by (End o) e f again = LastUnder past ws u o f
    by (Stops o) e f again = LastUnder past ws u o f
    by (Item o) e f again =
        let less = item_less p s l (both term ws) u ended o (λ x. tt) e in
        let size : o.used ≡ f.1 = ap (λ (x : Outcome). x.used) f.4 in
        let rest : Outcome = dropped_within n ended (both term (emptied ws)) (drop f.1 u) in
        let next : DropsTermFrames ended term [] (emptied ws) (drop f.1 u) rest = again [] (emptied ws) (drop f.1 u) (omega (arith, k, less.0, less.1, size, length-drop f.1 u)) (bytes_behind f.1 u b) (fresh_passed ws) t met in
        subst (DropsTermFrames ended term past ws u) (ap (λ (x : Outcome). further x (dropped_within n ended x.layers (drop x.used u))) (sym f.4)) (NextUnder past ws u f.0 f.1 rest f.2 f.3 next)

no_number : {A : Type 0} (x : Errno) → Fault x ≡ Given (Number 0) → A
no_number x e = absurd (never e)
  where
    never : Fault x ≡ Given (Number 0) → ⊥
    never e = cc

need_number : {A : Type 0} → Need ≡ Given (Number 0) → A
need_number e = absurd (never e)
  where
    never : Need ≡ Given (Number 0) → ⊥
    never e = cc

meets_within : (p : PrefixLaws) (s : SuffixLaws) (l : LineLaws) (laws : FrameLaws) (ended : Bool) (term : TermLayer) (past : List Part) (ws : WsLayer) (u : List ℕ) (o : Outcome) → HasPassed past ws → term.met ≡ false → ws.met ≡ false → DropsTermFrames ended term past ws u o → o.said ≡ Given (Number 0)
    → dropped_within (suc (length u)) ended (both term ws) u ≡ o
meets_within p s l laws ended term past ws u _ h t met (NextUnder _ _ _ m n o d st rest) e =
    let one : drop_one (both term ws) u ended ≡ Item (under term (joined_outcome [] ws n st.before m)) = message_one laws past term ws u m n ended false h t met (same_text m term.terminal d) st in
    let less = item_less p s l (both term ws) u ended (under term (joined_outcome [] ws n st.before m)) (λ x. tt) one in
    let again : dropped_within (suc (length (drop n u))) ended (both term (emptied ws)) (drop n u) ≡ o = meets_within p s l laws ended term [] (emptied ws) (drop n u) o (fresh_passed ws) t met rest e in
    ap (after_drop (dropped_within (length u) ended) u) one
    ∙ ap (further (under term (joined_outcome [] ws n st.before m))) (drop_more p s (length u) (suc (length (drop n u))) ended (both term (emptied ws)) (drop n u) (omega (arith, less.0, less.1, length-drop n u)) (omega arith) ∙ again)
meets_within p s l laws ended term past ws u o h t met (LastUnder _ _ _ _ (MeetsTerminal n st q)) e = ap (after_drop (dropped_within (length u) ended) u) (message_one laws past term ws u term.terminal n ended true h t met (own_text term.terminal) st) ∙ sym q
meets_within p s l laws ended term past ws u o h t met (LastUnder _ _ _ _ (ClosedBelow n st q)) e = no_number Epipe (ap (λ (x : Outcome). x.said) (sym q) ∙ e)
meets_within p s l laws ended term past ws u o h t met (LastUnder _ _ _ _ (OverBelow f st q)) e = no_number Epipe (ap (λ (x : Outcome). x.said) (sym q) ∙ e)
meets_within p s l laws ended term past ws u o h t met (LastUnder _ _ _ _ (BreaksBelow n x st q)) e = no_number x (ap (λ (y : Outcome). y.said) (sym q) ∙ e)
meets_within p s l laws ended term past ws u o h t met (LastUnder _ _ _ _ (CutsBelow f k n q)) e = no_number Eproto (sym q ∙ e)
meets_within p s l laws ended term past ws u o h t met (LastUnder _ _ _ _ (WaitsBelow f k q g r z)) e = need_number (sym q ∙ e)

drops_all : (p : PrefixLaws) (s : SuffixLaws) (l : LineLaws) (laws : FrameLaws) (stays : FrontStays) (past : List Part) (term : TermLayer) (ws : WsLayer) (u : List ℕ) (ended : Bool) → AreBytes u → HasPassed past ws → term.met ≡ false → ws.met ≡ false → DropsTermFrames ended term past ws u (dropped (both term ws) u ended)
unfolding dropped
drops_all p s l laws stays past term ws u ended b h t met = drops_within p s l laws stays (suc (length u)) ended past term ws u (omega arith) b h t met

meets_all : (p : PrefixLaws) (s : SuffixLaws) (l : LineLaws) (laws : FrameLaws) (past : List Part) (term : TermLayer) (ws : WsLayer) (u : List ℕ) (ended : Bool) (o : Outcome) → HasPassed past ws → term.met ≡ false → ws.met ≡ false → DropsTermFrames ended term past ws u o → o.said ≡ Given (Number 0) → dropped (both term ws) u ended ≡ o
unfolding dropped
meets_all p s l laws past term ws u ended o h t met d e = meets_within p s l laws ended term past ws u o h t met d e

lost_all : (term : TermLayer) (ws : WsLayer) (u : List ℕ) (ended : Bool) → term.met ≡ false → ws.met ≡ true → dropped (both term ws) u ended ≡ outcome 0 (both term ws) (Fault Epipe)
unfolding dropped
lost_all term ws u ended t met = ap (after_drop (dropped_within (length u) ended) u) (stop_one term ws u ended (outcome 0 (Ws ws ∷ []) (Fault Epipe)) Epipe t (met_read 16384 [] ws u ended met) refl)

pub term_frame_drop_laws : PrefixLaws → SuffixLaws → LineLaws → FrameLaws → FrontStays → TermFrameDropLaws
term_frame_drop_laws p s l laws stays = record { drops = drops_all p s l laws stays; meets = meets_all p s l laws; lost = lost_all }
