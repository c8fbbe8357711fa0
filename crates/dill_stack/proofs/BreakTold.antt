-- Where a WebSocket layer refuses or awaits more, what is there says so.
use Rattle.std.proofs.Common.{◌≡◌, ◌⊎◌, inl, inr, ◌≤◌, ◌+◌, [], ◌∷◌, ◌++◌, List, ℕ, length, take, drop, arith, sym, ap, ◌∙◌, refl, subst, Bool, true, false, not, ◌&&◌, None, if◌then◌else◌}
use Rattle.std.specs.Prelude.{◌==◌, is_some, is_none, IsUtf8}
use Rattle.std.specs.Option.{unwrap_or}
use Rattle.std.specs.Str.{is_utf8}
use Rattle.std.proofs.lemmas.Bool.{false≢true, eqb-true, eqb-false}
use Rattle.std.proofs.lemmas.Str.{is_utf8-from_IsUtf8}
use Rattle.dill_base.specs.declared.errno.Errno.{Errno}
use Rattle.dill_base.specs.declared.errno.Errno.TheVariants.{Epipe, Eproto}
use Rattle.dill_base.specs.Reading.{IsShown}
use Rattle.dill_calls.specs.declared.answer.Answer.TheVariants.{Bytes}
use Rattle.dill_ws.specs.Closing.{ClosePayload, close_of}
use Rattle.dill_ws.specs.Frames.{Part, Frame, peer_of, may_follow}
use Rattle.dill_ws.specs.FrameLaws.{FrameLaws, AreBytes}
use Rattle.dill_stack.specs.declared.want.ReadOut.{ReadOut}
use Rattle.dill_stack.specs.declared.want.ReadOut.TheVariants.{Given, Need, Fault}
use Rattle.dill_stack.specs.Layers.{Placed, Ws, WsLayer}
use Rattle.dill_stack.specs.WsReading.{WsFront, Whole, Short, Refused, Passed, passed, pass_by_front, ws_front, Shown, shown, shown_by, at_end, is_data}
use Rattle.dill_stack.specs.Passing.{IsPassed}
use Rattle.dill_stack.specs.Read.{Outcome, outcome, behind_passed, read_ws}
use Rattle.dill_stack.specs.Staying.{FrontStays}
use Rattle.dill_stack.specs.Joining.{HasPassed}
use Rattle.dill_stack.specs.Ending.{CloseStands, IsBetween}
use Rattle.dill_stack.specs.Breaking.{IsBadClose, IsBadText, FrameShows, BreakStands, NothingJoined, BreakingLaws}
use Rattle.dill_stack.proofs.Breakings.{break_read, front_shown, break_least}
use Rattle.dill_stack.proofs.EndReads.{close_some, close_read, over_read}
use Rattle.dill_stack.proofs.EndTold.{end_told, front_refused}
use Rattle.dill_stack.proofs.JoinedReads.{joined_gives}
use Rattle.dill_stack.proofs.Joinings.{Unpassed, unpassed, ends_message, gives_joined}
use Rattle.dill_stack.proofs.Limits.{frame_at, part_within}
use Rattle.dill_stack.proofs.OneMessage.{data_is}
use Rattle.dill_stack.proofs.Passings.{frame_of, follows_at, bytes_behind, passes_frames}

no_answer : {A : Type 0} → false ≡ true → A
no_answer e = absurd (false≢true e)

-- ---- the frame at the front, by what it shows

-- an allowed payload carries a code
no_code : (code : ℕ) (payload : List ℕ) → is_some (close_of payload) ≡ false → ClosePayload code payload → ⊥
no_code code payload e k = no_answer (sym e ∙ close_some code payload k)

-- a message that isn't given because it isn't UTF-8
bad_text : (one fine : Bool) → (one && not fine) ≡ true → (one ≡ true) × (fine ≡ false)
bad_text true true e = cc
bad_text true false e = (refl, refl)
bad_text false fine e = cc

no_utf8 : (m : List ℕ) → is_utf8 m ≡ false → IsUtf8 m → ⊥
no_utf8 m e k = no_answer (sym e ∙ is_utf8-from_IsUtf8 m k)

-- what is shown where nothing is passed, whether the list goes on or ended
pub data Tells (limit : ℕ) (ws : WsLayer) (v : List ℕ) : Type 0 where
  Gives : (m : List ℕ) → ((b : Bool) → (shown limit b ws v).said ≡ Given (Bytes m)) → Tells limit ws v
  Meets : ((b : Bool) → (shown limit b ws v).said ≡ Fault Epipe) → Tells limit ws v
  Breaks : (e : Errno) → (e ≡ Epipe → ⊥) → ((b : Bool) → (shown limit b ws v).said ≡ Fault e) → ((b : Bool) → (shown limit b ws v).used ≡ 0) → IsShown (FrameShows limit ws) v e → Tells limit ws v
  Opens : ((b : Bool) → (shown limit b ws v).said ≡ (if b then at_end ws v else Need)) → ((b : Bool) → (shown limit b ws v).ws ≡ ws) → Tells limit ws v

shown_is : (limit : ℕ) (b : Bool) (ws : WsLayer) (v : List ℕ) (f : WsFront) → ws_front limit ws v ≡ f → shown limit b ws v ≡ shown_by b ws v f
unfolding shown
shown_is limit b ws v f e = ap (shown_by b ws v) e

-- a whole frame, of which its payload is judged
abbrev close_shown : Bool → WsLayer → ℕ → Shown
close_shown c ws used = if c then (let s : Shown = record { used = used; ws = record ws { met = true }; said = Fault Epipe } in s) else record { used = 0; ws = ws; said = Fault Eproto }

abbrev text_shown : Bool → WsLayer → Part → ℕ → Shown
text_shown bad ws last used = if bad then (let s : Shown = record { used = 0; ws = ws; said = Fault Eproto } in s) else record { used = used; ws = record ws { joining = None; joined = [] }; said = Given (Bytes (ws.joined ++ last.payload)) }

abbrev text_bad : WsLayer → Part → Bool
text_bad ws last = unwrap_or ws.joining last.opcode == 1 && not (is_utf8 (ws.joined ++ last.payload))

abbrev whole_shown : Bool → Bool → Bool → WsLayer → Part → ℕ → Shown
whole_shown closes c bad ws last used = if closes then close_shown c ws used else text_shown bad ws last used

proto_not : Eproto ≡ Epipe → ⊥
proto_not e = cc

tells : (laws : FrameLaws) (limit : ℕ) (ws : WsLayer) (v : List ℕ) → AreBytes v → pass_by_front ws (ws_front limit ws v) ≡ None → Tells limit ws v
tells laws limit ws v b stops = by (ws_front limit ws v) refl
  where
    by : (f : WsFront) → ws_front limit ws v ≡ f → Tells limit ws v
    by Short f = Opens (λ x. ap (λ (s : Shown). s.said) (shown_is limit x ws v Short f)) (λ x. ap (λ (s : Shown). s.ws) (shown_is limit x ws v Short f))
    by (Refused e) f = Breaks e (front_refused limit ws v e f) (λ x. ap (λ (s : Shown). s.said) (shown_is limit x ws v (Refused e) f)) (λ x. ap (λ (s : Shown). s.used) (shown_is limit x ws v (Refused e) f)) (front_shown laws limit ws v e b f)
    by (Whole last used) f = at (last.opcode == 8) (is_some (close_of last.payload)) (text_bad ws last) refl refl refl
      where
        frame : Frame (peer_of ws.side) last.fin last.opcode last.payload (take used v) × (used ≤ length v)
        frame = frame_of laws ws v last used b (frame_at limit ws v last used f)

        follows : may_follow (is_some ws.joining) last.fin last.opcode (length last.payload) ≡ true
        follows = follows_at laws ws v last used b (frame_at limit ws v last used f)

        is : (x closes c bad : Bool) → (last.opcode == 8) ≡ closes → is_some (close_of last.payload) ≡ c → text_bad ws last ≡ bad → shown limit x ws v ≡ whole_shown closes c bad ws last used
        is x closes c bad p q r =
            shown_is limit x ws v (Whole last used) f
            ∙ ap (λ y. whole_shown y (is_some (close_of last.payload)) (text_bad ws last) ws last used) p
            ∙ ap (λ y. whole_shown closes y (text_bad ws last) ws last used) q
            ∙ ap (λ y. whole_shown closes c y ws last used) r

        broken : IsBadClose last ⊎ IsBadText limit ws last → ((x : Bool) → shown limit x ws v ≡ record { used = 0; ws = ws; said = Fault Eproto }) → Tells limit ws v
        broken k s = Breaks Eproto proto_not (λ x. ap (λ (y : Shown). y.said) (s x)) (λ x. ap (λ (y : Shown). y.used) (s x))
            (record { count = used; there = frame.1; shown = inr (inr (record { errno = refl; part = last; frame = frame.0; follows = follows; bad = k })) })

        text : (last.opcode == 8) ≡ false → text_bad ws last ≡ true → IsBadText limit ws last
        text p r =
            let no : Unpassed last = unpassed ws last used (ap (pass_by_front ws) (sym f) ∙ stops) in
            let part : is_data last.opcode ≡ true = data_is (is_some ws.joining) last.fin last.opcode (length last.payload) follows (eqb-false last.opcode 8 p) (eqb-false last.opcode 9 no.no_ping) (eqb-false last.opcode 10 no.no_pong) in
            let t = bad_text (unwrap_or ws.joining last.opcode == 1) (is_utf8 (ws.joined ++ last.payload)) r in
            record {
              carries = part;
              last = ends_message (is_data last.opcode) last.fin part no.no_part;
              text = eqb-true (unwrap_or ws.joining last.opcode) 1 t.0;
              within = part_within limit ws v last used f part;
              broken = no_utf8 (ws.joined ++ last.payload) t.1;
            }

        at : (closes c bad : Bool) → (last.opcode == 8) ≡ closes → is_some (close_of last.payload) ≡ c → text_bad ws last ≡ bad → Tells limit ws v
        at true true bad p q r = Meets (λ x. ap (λ (y : Shown). y.said) (is x true true bad p q r))
        at true false bad p q r = broken (inl (eqb-true last.opcode 8 p, λ code. no_code code last.payload q)) (λ x. is x true false bad p q r)
        at false c true p q r = broken (inr (text p r)) (λ x. is x false c true p q r)
        at false c false p q r = Gives (ws.joined ++ last.payload) (λ x. ap (λ (y : Shown). y.said) (is x false c false p q r))

-- ---- what is read

-- what is read where no close frame was met
pub read_unmet : (limit : ℕ) (below : List Placed) (ws : WsLayer) (u : List ℕ) (ended : Bool) → ws.met ≡ false → read_ws below ws u ended limit ≡ behind_passed below (passed limit ws u) (shown limit ended (passed limit ws u).ws (drop (passed limit ws u).used u))
read_unmet limit below ws u ended met = ap (λ b. if b then outcome 0 (Ws ws ∷ below) (Fault Epipe) else behind_passed below (passed limit ws u) (shown limit ended (passed limit ws u).ws (drop (passed limit ws u).used u))) met

-- its answer
pub said_unmet : (limit : ℕ) (below : List Placed) (ws : WsLayer) (u : List ℕ) (ended : Bool) (said : ReadOut) → ws.met ≡ false → (shown limit ended (passed limit ws u).ws (drop (passed limit ws u).used u)).said ≡ said → (read_ws below ws u ended limit).said ≡ said
said_unmet limit below ws u ended said met e = ap (λ (o : Outcome). o.said) (read_unmet limit below ws u ended met) ∙ e

pub break_stands : (limit : ℕ) (ws : WsLayer) (u : List ℕ) (e : Errno) (p : Passed) → IsPassed limit ws u p → IsShown (FrameShows limit p.ws) (drop p.used u) e → BreakStands limit ws u p.used e
break_stands limit ws u e p i k = record { before = i.parts; there = i.there; frames = i.frames; follows = i.follows; passing = i.passing; within = i.within; shown = subst (λ (x : WsLayer). IsShown (FrameShows limit x) (drop p.used u) e) i.layer k }

need_bytes : {A : Type 0} (m : List ℕ) → Given (Bytes m) ≡ Need → A
need_bytes m e = absurd (never e)
  where
    never : Given (Bytes m) ≡ Need → ⊥
    never e = cc

need_fault : {A : Type 0} (x : Errno) → Fault x ≡ Need → A
need_fault x e = absurd (never e)
  where
    never : Fault x ≡ Need → ⊥
    never e = cc

bytes_fault : {A : Type 0} (m : List ℕ) (x : Errno) → Given (Bytes m) ≡ Fault x → A
bytes_fault m x e = absurd (never e)
  where
    never : Given (Bytes m) ≡ Fault x → ⊥
    never e = cc

same_fault : (x e : Errno) → Fault x ≡ Fault e → x ≡ e
same_fault x e q = cc

-- where more is awaited nothing whole stands there
pub nothing_joined : (laws : FrameLaws) (stays : FrontStays) (limit : ℕ) (past : List Part) (below : List Placed) (ws : WsLayer) (u : List ℕ) → AreBytes u → HasPassed past ws → ws.met ≡ false → (read_ws below ws u false limit).said ≡ Need → NothingJoined past limit ws u
nothing_joined laws stays limit past below ws u b h met n =
    record {
      unjoined = λ k m s. need_bytes m (ap (λ (o : Outcome). o.said) (sym (joined_gives laws limit past below ws u m k false h met s)) ∙ n);
      unclosed = λ k s. need_fault Epipe (ap (λ (o : Outcome). o.said) (sym (close_read laws limit below ws u k false met s)) ∙ n);
      unshown = λ k e s. need_fault e (ap (λ (o : Outcome). o.said) (sym (break_read laws stays limit below ws u k e false b met s)) ∙ n);
    }

pub at_end_fault : (ws : WsLayer) (v : List ℕ) → (at_end ws v ≡ Fault Epipe) ⊎ (at_end ws v ≡ Fault Eproto)
at_end_fault ws v = by (length v == 0 && is_none ws.joining)
  where
    by : (b : Bool) → ((if b then Fault Epipe else Fault Eproto) ≡ Fault Epipe) ⊎ ((if b then Fault Epipe else Fault Eproto) ≡ Fault Eproto)
    by true = inl refl
    by false = inr refl

pub tells_here : (laws : FrameLaws) (limit : ℕ) (ws : WsLayer) (u : List ℕ) → AreBytes u → Tells limit (passed limit ws u).ws (drop (passed limit ws u).used u)
tells_here laws limit ws u b =
    let p : Passed = passed limit ws u in
    let i : IsPassed limit ws u p = passes_frames laws limit ws u b in
    tells laws limit p.ws (drop p.used u) (bytes_behind p.used u b) i.last

-- what an EPIPE would say stands there
no_end_there : (laws : FrameLaws) (limit : ℕ) (past : List Part) (below : List Placed) (ws : WsLayer) (u : List ℕ) (ended : Bool) → AreBytes u → ws.met ≡ false → NothingJoined past limit ws u → (ended ≡ true → IsBetween limit ws u → ⊥) → (read_ws below ws u ended limit).said ≡ Fault Epipe → ⊥
no_end_there laws limit past below ws u ended b met n k e = by (end_told laws limit below ws u ended b e)
  where
    by : (ws.met ≡ true) ⊎ (CloseStands limit ws u (read_ws below ws u ended limit).used ⊎ ((ended ≡ true) × IsBetween limit ws u)) → ⊥
    by (inl m) = no_answer (sym met ∙ m)
    by (inr (inl c)) = n.unclosed (read_ws below ws u ended limit).used c
    by (inr (inr o)) = k o.0 o.1

-- where nothing whole is there, what comes of the list's going on or not
open_said : (laws : FrameLaws) (limit : ℕ) (past : List Part) (below : List Placed) (ws : WsLayer) (u : List ℕ) (ended : Bool) → AreBytes u → HasPassed past ws → ws.met ≡ false → NothingJoined past limit ws u → (ended ≡ true → IsBetween limit ws u → ⊥) → (read_ws below ws u ended limit).said ≡ (if ended then Fault Eproto else Need)
open_said laws limit past below ws u ended b h met n k = by (tells_here laws limit ws u b)
  where
    p : Passed
    p = passed limit ws u

    by : Tells limit p.ws (drop p.used u) → (read_ws below ws u ended limit).said ≡ (if ended then Fault Eproto else Need)
    by (Gives m s) = absurd (n.unjoined (read_ws below ws u ended limit).used m (gives_joined laws limit past below ws u m ended b h (said_unmet limit below ws u ended (Given (Bytes m)) met (s ended))))
    by (Meets s) = absurd (no_end_there laws limit past below ws u ended b met n k (said_unmet limit below ws u ended (Fault Epipe) met (s ended)))
    by (Breaks e q s x w) = absurd (n.unshown p.used e (break_stands limit ws u e p (passes_frames laws limit ws u b) w))
    by (Opens s y) = said_unmet limit below ws u ended (if ended then at_end p.ws (drop p.used u) else Need) met (s ended) ∙ at ended refl
      where
        at : (c : Bool) → ended ≡ c → (if c then at_end p.ws (drop p.used u) else Need) ≡ (if c then Fault Eproto else Need)
        at false q = refl
        at true q = over (at_end_fault p.ws (drop p.used u))
          where
            over : (at_end p.ws (drop p.used u) ≡ Fault Epipe) ⊎ (at_end p.ws (drop p.used u) ≡ Fault Eproto) → at_end p.ws (drop p.used u) ≡ Fault Eproto
            over (inr r) = r
            over (inl r) = absurd (no_end_there laws limit past below ws u ended b met n k (said_unmet limit below ws u ended (if ended then at_end p.ws (drop p.used u) else Need) met (s ended) ∙ ap (λ c. if c then at_end p.ws (drop p.used u) else Need) q ∙ r))

-- a layer that has met the close frame answers EPIPE
met_said : (limit : ℕ) (below : List Placed) (ws : WsLayer) (u : List ℕ) (ended : Bool) → ws.met ≡ true → (read_ws below ws u ended limit).said ≡ Fault Epipe
met_said limit below ws u ended met = ap (λ b. (if b then outcome 0 (Ws ws ∷ below) (Fault Epipe) else behind_passed below (passed limit ws u) (shown limit ended (passed limit ws u).ws (drop (passed limit ws u).used u))).said) met

needs_nothing : (laws : FrameLaws) (stays : FrontStays) (limit : ℕ) (past : List Part) (below : List Placed) (ws : WsLayer) (u : List ℕ) (ended : Bool) → AreBytes u → HasPassed past ws → (read_ws below ws u ended limit).said ≡ Need → (ended ≡ false) × (ws.met ≡ false) × NothingJoined past limit ws u
needs_nothing laws stays limit past below ws u ended b h e = by ws.met refl
  where
    p : Passed
    p = passed limit ws u

    by : (m : Bool) → ws.met ≡ m → (ended ≡ false) × (ws.met ≡ false) × NothingJoined past limit ws u
    by true m = need_fault Epipe (sym (met_said limit below ws u ended m) ∙ e)
    by false m = at ended refl
      where
        none : (c : Bool) → ended ≡ c → c ≡ false
        none false q = refl
        none true q = told (tells_here laws limit ws u b)
          where
            here : (said : ReadOut) → (shown limit ended p.ws (drop p.used u)).said ≡ said → said ≡ Need
            here said s = sym (said_unmet limit below ws u ended said m s) ∙ e

            over : (at_end p.ws (drop p.used u) ≡ Fault Epipe) ⊎ (at_end p.ws (drop p.used u) ≡ Fault Eproto) → at_end p.ws (drop p.used u) ≡ Need → true ≡ false
            over (inl r) n = need_fault Epipe (sym r ∙ n)
            over (inr r) n = need_fault Eproto (sym r ∙ n)

            told : Tells limit p.ws (drop p.used u) → true ≡ false
            told (Gives m s) = need_bytes m (here (Given (Bytes m)) (s ended))
            told (Meets s) = need_fault Epipe (here (Fault Epipe) (s ended))
            told (Breaks x y s z w) = need_fault x (here (Fault x) (s ended))
            told (Opens s y) = over (at_end_fault p.ws (drop p.used u)) (here (at_end p.ws (drop p.used u)) (s ended ∙ ap (λ c. if c then at_end p.ws (drop p.used u) else Need) q))

        at : (c : Bool) → ended ≡ c → (ended ≡ false) × (ws.met ≡ false) × NothingJoined past limit ws u
        at c q =
            let f : ended ≡ false = q ∙ none c q in
            (f, m, nothing_joined laws stays limit past below ws u b h m (ap (λ c. (read_ws below ws u c limit).said) (sym f) ∙ e))

broken_told : (laws : FrameLaws) (stays : FrontStays) (limit : ℕ) (past : List Part) (below : List Placed) (ws : WsLayer) (u : List ℕ) (e : Errno) (ended : Bool) → AreBytes u → HasPassed past ws → (e ≡ Epipe → ⊥) → (read_ws below ws u ended limit).said ≡ Fault e
    → BreakStands limit ws u (read_ws below ws u ended limit).used e ⊎ ((e ≡ Eproto) × (ended ≡ true) × NothingJoined past limit ws u × (IsBetween limit ws u → ⊥))
broken_told laws stays limit past below ws u e ended b h q r = by ws.met refl
  where
    p : Passed
    p = passed limit ws u

    by : (m : Bool) → ws.met ≡ m → BreakStands limit ws u (read_ws below ws u ended limit).used e ⊎ ((e ≡ Eproto) × (ended ≡ true) × NothingJoined past limit ws u × (IsBetween limit ws u → ⊥))
    by true m = absurd (q (same_fault e Epipe (sym r ∙ met_said limit below ws u ended m)))
    by false m = told (tells_here laws limit ws u b)
      where
        here : (said : ReadOut) → (shown limit ended p.ws (drop p.used u)).said ≡ said → said ≡ Fault e
        here said s = sym (said_unmet limit below ws u ended said m s) ∙ r

        opened : ((c : Bool) → (shown limit c p.ws (drop p.used u)).said ≡ (if c then at_end p.ws (drop p.used u) else Need)) → (c : Bool) → ended ≡ c → (e ≡ Eproto) × (ended ≡ true) × NothingJoined past limit ws u × (IsBetween limit ws u → ⊥)
        opened s false g = need_fault e (sym (here Need (s ended ∙ ap (λ c. if c then at_end p.ws (drop p.used u) else Need) g)))
        opened s true g = (
          errno (at_end_fault p.ws (drop p.used u)) (here (at_end p.ws (drop p.used u)) (s ended ∙ ap (λ c. if c then at_end p.ws (drop p.used u) else Need) g)),
          g,
          nothing_joined laws stays limit past below ws u b h m (said_unmet limit below ws u false Need m (s false)),
          λ k. q (same_fault e Epipe (sym r ∙ ap (λ c. (read_ws below ws u c limit).said) g ∙ ap (λ (o : Outcome). o.said) (over_read laws limit below ws u m k))),
        )
          where
            errno : (at_end p.ws (drop p.used u) ≡ Fault Epipe) ⊎ (at_end p.ws (drop p.used u) ≡ Fault Eproto) → at_end p.ws (drop p.used u) ≡ Fault e → e ≡ Eproto
            errno (inl x) y = absurd (q (same_fault e Epipe (sym y ∙ x)))
            errno (inr x) y = same_fault e Eproto (sym y ∙ x)

        told : Tells limit p.ws (drop p.used u) → BreakStands limit ws u (read_ws below ws u ended limit).used e ⊎ ((e ≡ Eproto) × (ended ≡ true) × NothingJoined past limit ws u × (IsBetween limit ws u → ⊥))
        told (Gives x s) = bytes_fault x e (here (Given (Bytes x)) (s ended))
        told (Meets s) = absurd (q (sym (same_fault Epipe e (here (Fault Epipe) (s ended)))))
        told (Breaks x y s z w) =
            let same : x ≡ e = same_fault x e (here (Fault x) (s ended)) in
            let used : p.used ≡ (read_ws below ws u ended limit).used = sym (ap (λ (o : Outcome). o.used) (read_unmet limit below ws u ended m) ∙ ap (λ n. p.used + n) (z ended) ∙ none p.used) in
            inl (subst (λ n. BreakStands limit ws u n e) used (break_stands limit ws u e p (passes_frames laws limit ws u b) (subst (IsShown (FrameShows limit p.ws) (drop p.used u)) same w)))
          where
            none : (n : ℕ) → n + 0 ≡ n
            none n = omega arith
        told (Opens s y) = inr (opened s ended refl)

pub breaking_laws : FrameLaws → FrontStays → BreakingLaws
breaking_laws laws stays = record {
  least = break_least laws stays;
  breaks = break_read laws stays;
  broken = broken_told laws stays;
  cuts = λ limit past below ws u b h met n k. open_said laws limit past below ws u true b h met n (λ q. k);
  waits = λ limit past below ws u b h met n. open_said laws limit past below ws u false b h met n (λ q. no_answer q);
  needs = needs_nothing laws stays;
}
