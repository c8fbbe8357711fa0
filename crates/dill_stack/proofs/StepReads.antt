-- What is read behind a pass is what was read before it.
use Rattle.std.proofs.Common.{◌≡◌, ◌≤◌, ◌+◌, [], ◌∷◌, ◌++◌, List, ℕ, zero, suc, length, drop, arith, sym, ap, ◌∙◌, refl, Bool, true, false, not, ◌&&◌, ◌||◌, Option, Some, None, if◌then◌else◌}
use Rattle.std.proofs.lemmas.List.{drop-drop, length-drop}
use Rattle.rand_core.specs.Stream.{Stream}
use Rattle.dill_base.specs.declared.errno.Errno.TheVariants.{Epipe}
use Rattle.dill_ws.specs.declared.side.Side.{Side}
use Rattle.dill_stack.specs.declared.want.ReadOut.TheVariants.{Fault}
use Rattle.dill_stack.specs.declared.want.Want.TheVariants.{Message}
use Rattle.dill_stack.specs.Layers.{WsLayer, TermLayer, Placed, Prefix, Suffix, Term, Http, Ws, IsStanding}
use Rattle.dill_stack.specs.Held.{Held, Item, Direction}
use Rattle.dill_stack.specs.WsReading.{Passed, passed, passed_within, after_pass, then_passed, pass_by_front, ws_front, Shown, shown}
use Rattle.dill_stack.specs.Read.{Outcome, behind_passed, read_ws, is_terminal, over_term, read_message, read_list}
use Rattle.dill_stack.specs.Receiving.{Looked, ws_of, answers_pings, with_pongs_of, ponged, pong_of, with_pong, looked_over, settled, read}
use Rattle.dill_stack.specs.Refusals.{is_met}
use Rattle.dill_stack.specs.Stepping.{pass_of_ws, next_pass, with_ws, passed_on, stepped, behind_pass}
use Rattle.dill_stack.proofs.Again.{some_used}
use Rattle.dill_stack.proofs.Limits.{frame_at}
use Rattle.dill_stack.proofs.Passings.{PassAt, pass_at, empty_front}

-- a pass uses a byte, and changes nothing else of the layer than what it joins
pub record Moves (ws : WsLayer) (u : List ℕ) (p : Passed) : Type 0 where
  pub some : 1 ≤ p.used
  pub there : p.used ≤ length u
  pub met : p.ws.met ≡ ws.met
  pub side : p.ws.side ≡ ws.side
  pub closed : p.ws.closed ≡ ws.closed
  pub text : p.ws.text ≡ ws.text

pub moves : (limit : ℕ) (ws : WsLayer) (u : List ℕ) (p : Passed) → pass_by_front ws (ws_front limit ws u) ≡ Some p → Moves ws u p
moves limit ws u p e =
    let a : PassAt limit ws u p = pass_at limit ws u p (ws_front limit ws u) refl e in
    let f = frame_at limit ws u a.part a.used a.whole in
    let used : p.used ≡ a.used = ap (λ (x : Passed). x.used) a.is.whole in
    let one : 1 ≤ a.used = some_used ws u a.part a.used f in
    record {
      some = omega (arith, used, one);
      there = omega (arith, used, f.there, f.used_is);
      met = ap (λ (x : Passed). x.ws.met) a.is.whole;
      side = ap (λ (x : Passed). x.ws.side) a.is.whole;
      closed = ap (λ (x : Passed). x.ws.closed) a.is.whole;
      text = ap (λ (x : Passed). x.ws.text) a.is.whole;
    }

-- however many frames may be passed, all are
pub within_more : (n m limit : ℕ) (ws : WsLayer) (u : List ℕ) → length u ≤ n → length u ≤ m → passed_within n limit ws u ≡ passed_within m limit ws u
within_more zero zero limit ws u k l = refl
within_more zero (suc m) limit ws [] k l = ap (after_pass (passed_within m limit) ws []) (sym (empty_front limit ws))
within_more zero (suc m) limit ws (x ∷ u) k l = absurd (omega (arith, k))
within_more (suc n) zero limit ws [] k l = ap (after_pass (passed_within n limit) ws []) (empty_front limit ws)
within_more (suc n) zero limit ws (x ∷ u) k l = absurd (omega (arith, l))
within_more (suc n) (suc m) limit ws u k l = at (pass_by_front ws (ws_front limit ws u)) refl (within_more n m limit)
  where
    at : (o : Option Passed) → pass_by_front ws (ws_front limit ws u) ≡ o → ((x : WsLayer) (v : List ℕ) → length v ≤ n → length v ≤ m → passed_within n limit x v ≡ passed_within m limit x v) → after_pass (passed_within n limit) ws u o ≡ after_pass (passed_within m limit) ws u o
    at None e again = refl
    at (Some p) e again =
        let i : Moves ws u p = moves limit ws u p e in
        ap (then_passed p) (again p.ws (drop p.used u) (omega (arith, k, i.some, i.there, length-drop p.used u)) (omega (arith, l, i.some, i.there, length-drop p.used u)))

pub passed_step : (limit : ℕ) (ws : WsLayer) (u : List ℕ) (p : Passed) → pass_by_front ws (ws_front limit ws u) ≡ Some p → passed limit ws u ≡ then_passed p (passed limit p.ws (drop p.used u))
unfolding passed
passed_step limit ws u p e =
    let i : Moves ws u p = moves limit ws u p e in
    within_more (length u) (suc (length u)) limit ws u (omega arith) (omega arith)
    ∙ ap (after_pass (passed_within (length u) limit) ws u) e
    ∙ ap (then_passed p) (within_more (length u) (length (drop p.used u)) limit p.ws (drop p.used u) (omega (arith, length-drop p.used u)) (omega arith))

behind_more : (below : List Placed) (p q : Passed) (s : Shown) → behind_passed below (then_passed p q) s ≡ behind_pass p (behind_passed below q s)
behind_more below p q s =
    let e : (p.used + q.used) + s.used ≡ p.used + (q.used + s.used) = omega arith in
    ap (λ n. let o : Outcome = record { used = n; layers = Ws s.ws ∷ below; pings = p.pings ++ q.pings; said = s.said } in o) e

pub ws_step : (below : List Placed) (ws : WsLayer) (u : List ℕ) (ended : Bool) (limit : ℕ) (p : Passed) → ws.met ≡ false → pass_by_front ws (ws_front limit ws u) ≡ Some p → read_ws below ws u ended limit ≡ behind_pass p (read_ws below p.ws (drop p.used u) ended limit)
ws_step below ws u ended limit p m e =
    let i : Moves ws u p = moves limit ws u p e in
    let q : Passed = passed limit p.ws (drop p.used u) in
    let first : read_ws below ws u ended limit ≡ behind_passed below (passed limit ws u) (shown limit ended (passed limit ws u).ws (drop (passed limit ws u).used u)) = pick ws.met _ _ m in
    let same : drop (p.used + q.used) u ≡ drop q.used (drop p.used u) = sym (drop-drop q.used p.used u) in
    let second : read_ws below p.ws (drop p.used u) ended limit ≡ behind_passed below q (shown limit ended q.ws (drop q.used (drop p.used u))) = pick p.ws.met _ _ (i.met ∙ m) in
    first
    ∙ ap (λ (x : Passed). behind_passed below x (shown limit ended x.ws (drop x.used u))) (passed_step limit ws u p e)
    ∙ ap (λ v. behind_passed below (then_passed p q) (shown limit ended q.ws v)) same
    ∙ behind_more below p q (shown limit ended q.ws (drop q.used (drop p.used u)))
    ∙ ap (behind_pass p) (sym second)
  where
    pick : (b : Bool) (x y : Outcome) → b ≡ false → (if b then x else y) ≡ y
    pick true x y e = cc
    pick false x y e = refl

over_pass : (t : TermLayer) (p : Passed) (o : Outcome) → over_term t (behind_pass p o) ≡ behind_pass p (over_term t o)
over_pass t p o = at (is_terminal t o.said)
  where
    at : (b : Bool) → (if b then record (behind_pass p o) { layers = Term (record t { met = true }) ∷ o.layers; said = Fault Epipe } else record (behind_pass p o) { layers = Term t ∷ o.layers }) ≡ behind_pass p (if b then record o { layers = Term (record t { met = true }) ∷ o.layers; said = Fault Epipe } else record o { layers = Term t ∷ o.layers })
    at true = refl
    at false = refl

or_none : (a b : Bool) → (a || b) ≡ false → (a ≡ false) × (b ≡ false)
or_none true b e = cc
or_none false b e = (refl, e)

pub message_step : (layers : List Placed) (u : List ℕ) (ended : Bool) (limit : ℕ) (p : Passed) → IsStanding layers → is_met layers ≡ false → pass_of_ws limit u (ws_of layers) ≡ Some p → read_message layers u ended limit ≡ behind_pass p (read_message (with_ws p.ws layers) (drop p.used u) ended limit)
message_step [] u ended limit p k m e = cc
message_step (Prefix form ∷ below) u ended limit p k m e = absurd (none below k e)
  where
    none : (below : List Placed) → below ≡ [] → pass_of_ws limit u (ws_of below) ≡ Some p → ⊥
    none [] k e = cc
    none (x ∷ below) k e = cc
message_step (Suffix end ∷ below) u ended limit p k m e = absurd (none below k e)
  where
    none : (below : List Placed) → below ≡ [] → pass_of_ws limit u (ws_of below) ≡ Some p → ⊥
    none [] k e = cc
    none (x ∷ below) k e = cc
message_step (Http http ∷ below) u ended limit p k m e = absurd (none below k e)
  where
    none : (below : List Placed) → below ≡ [] → pass_of_ws limit u (ws_of below) ≡ Some p → ⊥
    none [] k e = cc
    none (x ∷ below) k e = cc
message_step (Term t ∷ below) u ended limit p k m e =
    let n : (t.met ≡ false) × (is_met below ≡ false) = or_none t.met (is_met below) m in
    pick t.met _ _ n.0
    ∙ ap (over_term t) (message_step below u ended limit p k.1 n.1 e)
    ∙ over_pass t p (read_message (with_ws p.ws below) (drop p.used u) ended limit)
    ∙ ap (behind_pass p) (sym (pick t.met _ _ n.0))
  where
    pick : (b : Bool) (x y : Outcome) → b ≡ false → (if b then x else y) ≡ y
    pick true x y e = cc
    pick false x y e = refl
message_step (Ws ws ∷ below) u ended limit p k m e = ws_step below ws u ended limit p (or_none ws.met (is_met below) m).0 e

-- pongs, and others behind them
pub ponged_more : (side : Side) (a b : List (List ℕ)) (now : List Item × Stream) → ponged side (a ++ b) now ≡ ponged side b (ponged side a now)
ponged_more side [] b now = refl
ponged_more side (x ∷ a) b now = ponged_more side a b (with_pong (pong_of side x now.1).0 now.0, (pong_of side x now.1).1)

pub ws_with : (x : WsLayer) (layers : List Placed) (ws : WsLayer) → ws_of layers ≡ Some ws → ws_of (with_ws x layers) ≡ Some x
ws_with x [] ws e = cc
ws_with x (Prefix form ∷ below) ws e = ws_with x below ws e
ws_with x (Suffix end ∷ below) ws e = ws_with x below ws e
ws_with x (Term t ∷ below) ws e = ws_with x below ws e
ws_with x (Http http ∷ below) ws e = ws_with x below ws e
ws_with x (Ws w ∷ below) ws e = refl

-- what is queued and drawn where pings are answered, or not
abbrev answered : Bool → Side → List (List ℕ) → Stream → Held → Held × Stream
answered c side pings random s = if c then (record s { queue = (ponged side pings (s.queue, random)).0 }, (ponged side pings (s.queue, random)).1) else (s, random)

answers_of : (ws : WsLayer) (c : Bool) (pings : List (List ℕ)) (random : Stream) (s : Held) → answers_pings ws s ≡ c → with_pongs_of (Some ws) pings random s ≡ answered c ws.side pings random s
answers_of ws c pings random s e = ap (λ b. answered b ws.side pings random s) e

abbrev looks : Outcome → Held × Stream → Looked
looks o now = record { stack = now.0; said = o.said; random = now.1 }

both_pongs : (c : Bool) (side : Side) (a b : List (List ℕ)) (random : Stream) (s : Held) (now : Held × Stream) (l : List Placed) (u : List ℕ) → now ≡ answered c side a random s → answered c side (a ++ b) random (record s { layers = l; unread = u }) ≡ answered c side b now.1 (record now.0 { layers = l; unread = u })
both_pongs true side a b random s now l u e =
    ap (λ (n : List Item × Stream). (record s { layers = l; unread = u; queue = n.0 }, n.1)) (ponged_more side a b (s.queue, random))
    ∙ ap (λ (n : Held × Stream). answered true side b n.1 (record n.0 { layers = l; unread = u })) (sym e)
both_pongs false side a b random s now l u e = ap (λ (n : Held × Stream). answered false side b n.1 (record n.0 { layers = l; unread = u })) (sym e)

-- what a pass leaves
pub record Left (p : Passed) (s t : Held) : Type 0 where
  pub layers : t.layers ≡ with_ws p.ws s.layers
  pub unread : t.unread ≡ drop p.used s.unread
  pub receiving : t.receiving ≡ s.receiving
  pub sending : t.sending ≡ s.sending

pub step_left : (p : Passed) (random : Stream) (s : Held) → Left p s (stepped p random s).0
step_left p random s = by (ws_of s.layers)
  where
    by : (o : Option WsLayer) → Left p s (with_pongs_of o p.pings random (passed_on p s)).0
    by None = record { layers = refl; unread = refl; receiving = refl; sending = refl }
    by (Some ws) = at (answers_pings ws s)
      where
        at : (c : Bool) → Left p s (answered c ws.side p.pings random (passed_on p s)).0
        at true = record { layers = refl; unread = refl; receiving = refl; sending = refl }
        at false = record { layers = refl; unread = refl; receiving = refl; sending = refl }

-- an outcome behind a pass leaves what it leaves of the stack behind it
pub looked_step : (o : Outcome) (p : Passed) (random : Stream) (s : Held) (ws : WsLayer) → ws_of s.layers ≡ Some ws → Moves ws s.unread p → looked_over (behind_pass p o) random s ≡ looked_over o (stepped p random s).1 (stepped p random s).0
looked_step o p random s ws e i =
    let c : Bool = answers_pings ws s in
    let now : Held × Stream = stepped p random s in
    let left : Left p s now.0 = step_left p random s in
    let there : now ≡ answered c ws.side p.pings random (passed_on p s) = ap (λ w. with_pongs_of w p.pings random (passed_on p s)) e in
    let x : ws_of now.0.layers ≡ Some p.ws = ap ws_of left.layers ∙ ws_with p.ws s.layers ws e in
    let a : answers_pings p.ws (record now.0 { layers = o.layers; unread = drop o.used now.0.unread }) ≡ c = ap (λ (d : Direction). not p.ws.closed && not d.broken && not d.done) left.sending ∙ ap (λ k. not k && not s.sending.broken && not s.sending.done) i.closed in
    let u : drop (p.used + o.used) s.unread ≡ drop o.used now.0.unread = sym (drop-drop o.used p.used s.unread) ∙ ap (drop o.used) (sym left.unread) in
    ap (looks o) (ap (λ w. with_pongs_of w (p.pings ++ o.pings) random (record s { layers = o.layers; unread = drop (p.used + o.used) s.unread })) e
    ∙ ap (λ v. answered c ws.side (p.pings ++ o.pings) random (record s { layers = o.layers; unread = v })) u
    ∙ both_pongs c ws.side p.pings o.pings random (passed_on p s) now o.layers (drop o.used now.0.unread) there
    ∙ ap (λ side. answered c side o.pings now.1 (record now.0 { layers = o.layers; unread = drop o.used now.0.unread })) (sym i.side)
    ∙ sym (answers_of p.ws c o.pings now.1 (record now.0 { layers = o.layers; unread = drop o.used now.0.unread }) a)
    ∙ ap (λ w. with_pongs_of w o.pings now.1 (record now.0 { layers = o.layers; unread = drop o.used now.0.unread })) (sym x))

-- a pass of a stack is one of its layer, where no end was met
pub record IsPass (limit : ℕ) (s : Held) (p : Passed) : Type 0 where
  pub ws : WsLayer
  pub there : ws_of s.layers ≡ Some ws
  pub unmet : is_met s.layers ≡ false
  pub pass : pass_by_front ws (ws_front limit ws s.unread) ≡ Some p

pub is_pass : (limit : ℕ) (s : Held) (p : Passed) → next_pass limit s ≡ Some p → IsPass limit s p
is_pass limit s p e = at (is_met s.layers) (ws_of s.layers) refl refl e
  where
    at : (b : Bool) (o : Option WsLayer) → is_met s.layers ≡ b → ws_of s.layers ≡ o → (if b then None else pass_of_ws limit s.unread o) ≡ Some p → IsPass limit s p
    at true o m w e = cc
    at false None m w e = cc
    at false (Some ws) m w e = record { ws = ws; there = w; unmet = m; pass = e }

-- A receive of a message is answered behind a pass as it was before it.
pub read_steps : (limit : ℕ) (random : Stream) (s : Held) (p : Passed) → IsStanding s.layers → next_pass limit s ≡ Some p → read (Message limit) random s ≡ read (Message limit) (stepped p random s).1 (stepped p random s).0
unfolding read read_list
read_steps limit random s p k e =
    let i : IsPass limit s p = is_pass limit s p e in
    let now : Held × Stream = stepped p random s in
    let left : Left p s now.0 = step_left p random s in
    let o : Outcome = read_message (with_ws p.ws s.layers) (drop p.used s.unread) s.receiving.done limit in
    let same : o ≡ read_message now.0.layers now.0.unread now.0.receiving.done limit = ap (λ l. read_message l (drop p.used s.unread) s.receiving.done limit) (sym left.layers) ∙ ap (λ u. read_message now.0.layers u s.receiving.done limit) (sym left.unread) ∙ ap (λ (d : Direction). read_message now.0.layers now.0.unread d.done limit) (sym left.receiving) in
    let first : read_message s.layers s.unread s.receiving.done limit ≡ behind_pass p o = message_step s.layers s.unread s.receiving.done limit p k i.unmet (ap (pass_of_ws limit s.unread) i.there ∙ i.pass) in
    ap settled (ap (λ (x : Outcome). looked_over x random s) first ∙ looked_step o p random s i.ws i.there (moves limit i.ws s.unread p i.pass) ∙ ap (λ (x : Outcome). looked_over x now.1 now.0) same)
