-- A detach of a WebSocket layer drops the messages that stand one behind the other, up to what isn't one.
use Rattle.std.proofs.Common.{◌≡◌, ◌⊎◌, inl, inr, ◌<◌, [], ◌∷◌, List, ℕ, zero, suc, length, drop, arith, sym, ap, ◌∙◌, refl, subst, Bool, true, false, if◌then◌else◌}
use Rattle.std.proofs.lemmas.Bool.{false≢true}
use Rattle.std.proofs.lemmas.List.{length-drop}
use Rattle.dill_base.specs.declared.errno.Errno.{Errno}
use Rattle.dill_base.specs.declared.errno.Errno.TheVariants.{Epipe, Eproto}
use Rattle.dill_calls.specs.declared.answer.Answer.TheVariants.{Bytes, Number}
use Rattle.dill_frames.specs.Laws.{PrefixLaws, SuffixLaws}
use Rattle.dill_http.specs.Laws.{LineLaws}
use Rattle.dill_ws.specs.Frames.{Part}
use Rattle.dill_ws.specs.FrameLaws.{FrameLaws, AreBytes}
use Rattle.dill_stack.specs.declared.want.ReadOut.TheVariants.{Given, Need, Fault}
use Rattle.dill_stack.specs.Layers.{Placed, Ws, WsLayer}
use Rattle.dill_stack.specs.WsReading.{Passed, passed, at_end}
use Rattle.dill_stack.specs.Passing.{IsPassed}
use Rattle.dill_stack.specs.Read.{Outcome, outcome, read_ws}
use Rattle.dill_stack.specs.Staying.{FrontStays}
use Rattle.dill_stack.specs.Joining.{HasPassed, JoinedStands, joined_outcome}
use Rattle.dill_stack.specs.Ending.{CloseStands, IsBetween}
use Rattle.dill_stack.specs.Breaking.{BreakStands}
use Rattle.dill_stack.specs.Seeing.{emptied}
use Rattle.dill_stack.specs.Dropping.{Dropped, Item, End, Stops, is_given, has_met, left_with, drop_frames, drop_one, further, after_drop, dropped_within, dropped}
use Rattle.dill_stack.specs.FrameDropping.{close_outcome, FramesLast, MeetsClose, OverFrames, BreaksFrame, CutsFrames, WaitsFrames, DropsFrames, NextMessage, LastFrames, FrameDropLaws}
use Rattle.dill_stack.proofs.Breakings.{break_read}
use Rattle.dill_stack.proofs.BreakTold.{Tells, Gives, Meets, Breaks, Opens, tells_here, read_unmet, said_unmet, break_stands, nothing_joined, at_end_fault}
use Rattle.dill_stack.proofs.DropCuts.{drop_more}
use Rattle.dill_stack.proofs.EndReads.{close_read, over_read}
use Rattle.dill_stack.proofs.EndTold.{end_told}
use Rattle.dill_stack.proofs.JoinedReads.{joined_gives}
use Rattle.dill_stack.proofs.Joinings.{gives_joined, needs_passed}
use Rattle.dill_stack.proofs.Passings.{passes_frames, bytes_behind}
use Rattle.dill_stack.proofs.Sinkings.{item_less}

no_answer : {A : Type 0} → false ≡ true → A
no_answer e = absurd (false≢true e)

one_unmet : (ws : WsLayer) (u : List ℕ) (ended : Bool) → ws.met ≡ false → drop_one (Ws ws ∷ []) u ended ≡ drop_frames [] (read_ws [] ws u ended 16384)
one_unmet ws u ended e = ap (λ b. if b then End (outcome 0 [] (Given (Number 0))) else drop_frames [] (read_ws [] ws u ended 16384)) e

-- a message is dropped, a close frame ends the dropping, and what is neither stops it
frames_by : (o : Outcome) (a b : Bool) → has_met o.layers ≡ a → is_given o.said ≡ b → drop_frames [] o ≡ (if a then End (left_with [] o) else if b then Item o else Stops o)
frames_by o a b p q = ap (λ x. if x then End (left_with [] o) else if is_given o.said then Item o else Stops o) p ∙ ap (λ x. if a then End (left_with [] o) else if x then Item o else Stops o) q

message_one : (laws : FrameLaws) (past : List Part) (ws : WsLayer) (u m : List ℕ) (n : ℕ) (ended : Bool) → HasPassed past ws → ws.met ≡ false → (s : JoinedStands ws.side past 16384 u m n) → drop_one (Ws ws ∷ []) u ended ≡ Item (joined_outcome [] ws n s.before m)
message_one laws past ws u m n ended h met s = one_unmet ws u ended met ∙ ap (drop_frames []) (joined_gives laws 16384 past [] ws u m n ended h met s) ∙ frames_by (joined_outcome [] ws n s.before m) false true met refl

close_one : (laws : FrameLaws) (ws : WsLayer) (u : List ℕ) (n : ℕ) (ended : Bool) → ws.met ≡ false → (s : CloseStands 16384 ws u n) → drop_one (Ws ws ∷ []) u ended ≡ End (close_outcome n s.before)
close_one laws ws u n ended met s = one_unmet ws u ended met ∙ ap (drop_frames []) (close_read laws 16384 [] ws u n ended met s)

-- a read that neither gives a message nor meets a close frame
stop_one : (ws : WsLayer) (u : List ℕ) (ended : Bool) (o : Outcome) → ws.met ≡ false → read_ws [] ws u ended 16384 ≡ o → has_met o.layers ≡ false → is_given o.said ≡ false → drop_one (Ws ws ∷ []) u ended ≡ Stops o
stop_one ws u ended o met r p q = one_unmet ws u ended met ∙ ap (drop_frames []) r ∙ frames_by o false false p q

-- what one step of a detach shows
abbrev ShowsFrames : List Part → WsLayer → List ℕ → Bool → Dropped → Type 0
ShowsFrames past ws u ended (Item o) = (m : List ℕ) × (n : ℕ) × (s : JoinedStands ws.side past 16384 u m n) × (o ≡ joined_outcome [] ws n s.before m)
ShowsFrames past ws u ended (End o) = FramesLast ended past ws u o
ShowsFrames past ws u ended (Stops o) = FramesLast ended past ws u o

shows : (laws : FrameLaws) (stays : FrontStays) (past : List Part) (ws : WsLayer) (u : List ℕ) (ended : Bool) → AreBytes u → HasPassed past ws → ws.met ≡ false → ShowsFrames past ws u ended (drop_one (Ws ws ∷ []) u ended)
shows laws stays past ws u ended b h met = by (tells_here laws 16384 ws u b)
  where
    p : Passed
    p = passed 16384 ws u

    i : IsPassed 16384 ws u p
    i = passes_frames laws 16384 ws u b

    o : Outcome
    o = read_ws [] ws u ended 16384

    end_shows : o.said ≡ Fault Epipe → ShowsFrames past ws u ended (drop_one (Ws ws ∷ []) u ended)
    end_shows e = told (end_told laws 16384 [] ws u ended b e)
      where
        told : (ws.met ≡ true) ⊎ (CloseStands 16384 ws u o.used ⊎ ((ended ≡ true) × IsBetween 16384 ws u)) → ShowsFrames past ws u ended (drop_one (Ws ws ∷ []) u ended)
        told (inl m) = no_answer (sym met ∙ m)
        told (inr (inl s)) = subst (ShowsFrames past ws u ended) (sym (close_one laws ws u o.used ended met s)) (MeetsClose o.used s refl)
        told (inr (inr k)) = subst (ShowsFrames past ws u ended) (sym (stop_one ws u ended _ met (ap (λ c. read_ws [] ws u c 16384) k.0 ∙ over_read laws 16384 [] ws u met k.1) met refl)) (OverFrames k.0 k.1 refl)

    by : Tells 16384 p.ws (drop p.used u) → ShowsFrames past ws u ended (drop_one (Ws ws ∷ []) u ended)
    by (Gives m s) =
        let st : JoinedStands ws.side past 16384 u m o.used = gives_joined laws 16384 past [] ws u m ended b h (said_unmet 16384 [] ws u ended (Given (Bytes m)) met (s ended)) in
        subst (ShowsFrames past ws u ended) (sym (message_one laws past ws u m o.used ended h met st)) (m, o.used, st, refl)
    by (Meets s) = end_shows (said_unmet 16384 [] ws u ended (Fault Epipe) met (s ended))
    by (Breaks e q s x w) =
        let st : BreakStands 16384 ws u p.used e = break_stands 16384 ws u e p i w in
        subst (ShowsFrames past ws u ended) (sym (stop_one ws u ended _ met (break_read laws stays 16384 [] ws u p.used e ended b met st) met refl)) (BreaksFrame p.used e st refl)
    by (Opens s w) = opened ended refl
      where
        layers : has_met o.layers ≡ false
        layers = ap (λ (x : Outcome). has_met x.layers) (read_unmet 16384 [] ws u ended met) ∙ ap (λ (x : WsLayer). x.met) (w ended) ∙ ap (λ (x : WsLayer). x.met) i.layer ∙ met

        said : o.said ≡ (if ended then at_end p.ws (drop p.used u) else Need)
        said = said_unmet 16384 [] ws u ended (if ended then at_end p.ws (drop p.used u) else Need) met (s ended)

        opened : (c : Bool) → ended ≡ c → ShowsFrames past ws u ended (drop_one (Ws ws ∷ []) u ended)
        opened false f =
            let need : o.said ≡ Need = said ∙ ap (λ c. if c then at_end p.ws (drop p.used u) else Need) f in
            subst (ShowsFrames past ws u ended) (sym (stop_one ws u ended o met refl layers (ap is_given need)))
            (WaitsFrames f (nothing_joined laws stays 16384 past [] ws u b h met (said_unmet 16384 [] ws u false Need met (s false))) need (needs_passed laws 16384 past [] ws u ended b h need))
        opened true f = over (at_end_fault p.ws (drop p.used u))
          where
            here : o.said ≡ at_end p.ws (drop p.used u)
            here = said ∙ ap (λ c. if c then at_end p.ws (drop p.used u) else Need) f

            no_pipe : Fault Eproto ≡ Fault Epipe → ⊥
            no_pipe e = cc

            over : (at_end p.ws (drop p.used u) ≡ Fault Epipe) ⊎ (at_end p.ws (drop p.used u) ≡ Fault Eproto) → ShowsFrames past ws u ended (drop_one (Ws ws ∷ []) u ended)
            over (inl r) = end_shows (here ∙ r)
            over (inr r) =
                let cut : o.said ≡ Fault Eproto = here ∙ r in
                let between : IsBetween 16384 ws u → ⊥ = λ k. no_pipe (sym cut ∙ ap (λ c. (read_ws [] ws u c 16384).said) f ∙ ap (λ (x : Outcome). x.said) (over_read laws 16384 [] ws u met k)) in
                subst (ShowsFrames past ws u ended) (sym (stop_one ws u ended o met refl layers (ap is_given cut)))
                (CutsFrames f (nothing_joined laws stays 16384 past [] ws u b h met (said_unmet 16384 [] ws u false Need met (s false))) between cut)

-- ---- all messages

fresh_passed : (ws : WsLayer) → HasPassed [] (emptied ws)
fresh_passed ws = record { follows = tt; passing = refl; joining = refl; joined = refl }

drops_within : (p : PrefixLaws) (s : SuffixLaws) (l : LineLaws) (laws : FrameLaws) (stays : FrontStays) (n : ℕ) (ended : Bool) (past : List Part) (ws : WsLayer) (u : List ℕ) → length u < n → AreBytes u → HasPassed past ws → ws.met ≡ false → DropsFrames ended past ws u (dropped_within n ended (Ws ws ∷ []) u)
drops_within p s l laws stays zero ended past ws u k b h met = absurd (omega (arith, k))
drops_within p s l laws stays (suc n) ended past ws u k b h met = by (drop_one (Ws ws ∷ []) u ended) refl (shows laws stays past ws u ended b h met) (drops_within p s l laws stays n ended)
  where
    by : (d : Dropped) → drop_one (Ws ws ∷ []) u ended ≡ d → ShowsFrames past ws u ended d → ((q : List Part) (x : WsLayer) (v : List ℕ) → length v < n → AreBytes v → HasPassed q x → x.met ≡ false → DropsFrames ended q x v (dropped_within n ended (Ws x ∷ []) v)) → DropsFrames ended past ws u (after_drop (dropped_within n ended) u d)
    by (End o) e f again = LastFrames past ws u o f
    by (Stops o) e f again = LastFrames past ws u o f
    by (Item o) e f again =
        let less = item_less p s l (Ws ws ∷ []) u ended o (λ x. tt) e in
        let size : o.used ≡ f.1 = ap (λ (x : Outcome). x.used) f.3 in
        let rest : Outcome = dropped_within n ended (Ws (emptied ws) ∷ []) (drop f.1 u) in
        let next : DropsFrames ended [] (emptied ws) (drop f.1 u) rest = again [] (emptied ws) (drop f.1 u) (omega (arith, k, less.0, less.1, size, length-drop f.1 u)) (bytes_behind f.1 u b) (fresh_passed ws) met in
        subst (DropsFrames ended past ws u) (ap (λ (x : Outcome). further x (dropped_within n ended x.layers (drop x.used u))) (sym f.3)) (NextMessage past ws u f.0 f.1 rest f.2 next)

no_number : {A : Type 0} (x : Errno) → Fault x ≡ Given (Number 0) → A
no_number x e = absurd (never e)
  where
    never : Fault x ≡ Given (Number 0) → ⊥
    never e = cc

need_number : {A : Type 0} → Need ≡ Given (Number 0) → A
need_number e = absurd (never e)
  where
    never : Need ≡ Given (Number 0) → ⊥
    never e = cc

meets_within : (p : PrefixLaws) (s : SuffixLaws) (l : LineLaws) (laws : FrameLaws) (ended : Bool) (past : List Part) (ws : WsLayer) (u : List ℕ) (o : Outcome) → HasPassed past ws → ws.met ≡ false → DropsFrames ended past ws u o → o.said ≡ Given (Number 0) → dropped_within (suc (length u)) ended (Ws ws ∷ []) u ≡ o
meets_within p s l laws ended past ws u _ h met (NextMessage _ _ _ m n o st rest) e =
    let one : drop_one (Ws ws ∷ []) u ended ≡ Item (joined_outcome [] ws n st.before m) = message_one laws past ws u m n ended h met st in
    let less = item_less p s l (Ws ws ∷ []) u ended (joined_outcome [] ws n st.before m) (λ x. tt) one in
    let again : dropped_within (suc (length (drop n u))) ended (Ws (emptied ws) ∷ []) (drop n u) ≡ o = meets_within p s l laws ended [] (emptied ws) (drop n u) o (fresh_passed ws) met rest e in
    ap (after_drop (dropped_within (length u) ended) u) one
    ∙ ap (further (joined_outcome [] ws n st.before m)) (drop_more p s (length u) (suc (length (drop n u))) ended (Ws (emptied ws) ∷ []) (drop n u) (omega (arith, less.0, less.1, length-drop n u)) (omega arith) ∙ again)
meets_within p s l laws ended past ws u o h met (LastFrames _ _ _ _ (MeetsClose n st q)) e = ap (after_drop (dropped_within (length u) ended) u) (close_one laws ws u n ended met st) ∙ sym q
meets_within p s l laws ended past ws u o h met (LastFrames _ _ _ _ (OverFrames f st q)) e = no_number Epipe (ap (λ (x : Outcome). x.said) (sym q) ∙ e)
meets_within p s l laws ended past ws u o h met (LastFrames _ _ _ _ (BreaksFrame n x st q)) e = no_number x (ap (λ (y : Outcome). y.said) (sym q) ∙ e)
meets_within p s l laws ended past ws u o h met (LastFrames _ _ _ _ (CutsFrames f k n q)) e = no_number Eproto (sym q ∙ e)
meets_within p s l laws ended past ws u o h met (LastFrames _ _ _ _ (WaitsFrames f k q g)) e = need_number (sym q ∙ e)

drops_all : (p : PrefixLaws) (s : SuffixLaws) (l : LineLaws) (laws : FrameLaws) (stays : FrontStays) (past : List Part) (ws : WsLayer) (u : List ℕ) (ended : Bool) → AreBytes u → HasPassed past ws → ws.met ≡ false → DropsFrames ended past ws u (dropped (Ws ws ∷ []) u ended)
unfolding dropped
drops_all p s l laws stays past ws u ended b h met = drops_within p s l laws stays (suc (length u)) ended past ws u (omega arith) b h met

meets_all : (p : PrefixLaws) (s : SuffixLaws) (l : LineLaws) (laws : FrameLaws) (past : List Part) (ws : WsLayer) (u : List ℕ) (ended : Bool) (o : Outcome) → HasPassed past ws → ws.met ≡ false → DropsFrames ended past ws u o → o.said ≡ Given (Number 0) → dropped (Ws ws ∷ []) u ended ≡ o
unfolding dropped
meets_all p s l laws past ws u ended o h met d e = meets_within p s l laws ended past ws u o h met d e

met_all : (below : List Placed) (ws : WsLayer) (u : List ℕ) (ended : Bool) → ws.met ≡ true → dropped (Ws ws ∷ below) u ended ≡ outcome 0 below (Given (Number 0))
unfolding dropped
met_all below ws u ended e = ap (λ b. after_drop (dropped_within (length u) ended) u (if b then End (outcome 0 below (Given (Number 0))) else drop_frames below (read_ws below ws u ended 16384))) e

pub frame_drop_laws : PrefixLaws → SuffixLaws → LineLaws → FrameLaws → FrontStays → FrameDropLaws
frame_drop_laws p s l laws stays = record { drops = drops_all p s l laws stays; meets = meets_all p s l laws; met = met_all }
