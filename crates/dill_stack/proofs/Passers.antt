-- One frame that a stack passes, and the pong that it queues.
use Rattle.std.proofs.Common.{◌≡◌, ◌≤◌, ◌+◌, ◌-◌, ◌∷◌, ◌∙◌, ◌&&◌, ◌||◌, [], sym, ap, refl, subst, arith, ℕ, List, Bool, true, false, not, bytes_eq, length, drop, Option, Some, None, Result, Ok, Err, if◌then◌else◌}
use Rattle.std.specs.List.{list_any}
use Rattle.std.specs.Str.{is_utf8}
use Rattle.rand_core.specs.Stream.{Stream}
use Rattle.dill_base.specs.declared.errno.Errno.{Errno}
use Rattle.dill_base.specs.declared.errno.Errno.TheVariants.{Einval}
use Rattle.dill_ws.specs.declared.side.Side.{Side}
use Rattle.dill_ws.specs.Frames.{frame_bytes}
use Rattle.dill_stack.specs.declared.frames.Pass.{Pass}
use Rattle.dill_stack.specs.declared.frames.Pass.TheVariants as passes
use Rattle.dill_stack.specs.declared.placed.Base.{Base}
use Rattle.dill_stack.specs.declared.placed.Base.TheVariants as base
use Rattle.dill_stack.specs.declared.placed.Framed.{Framed}
use Rattle.dill_stack.specs.declared.want.Want.TheVariants.{Message}
use Rattle.dill_stack.specs.Layers.{TermLayer, WsLayer, Placed, Prefix, Suffix, Term, Http, Ws, HasMessages, IsStanding}
use Rattle.dill_stack.specs.Held.{Held}
use Rattle.dill_stack.specs.Composed.{and_then, is_masking, key_of, masks, spelled}
use Rattle.dill_stack.specs.Refusing.{fault_of}
use Rattle.dill_stack.specs.Refusals.{is_met}
use Rattle.dill_stack.specs.Rooms.{Roomy, Stocked}
use Rattle.dill_stack.specs.Standing.{tower, base_layers, base_key, is_open_base, ws_layer, HasEnds, IsTower, JoinsWithin}
use Rattle.dill_stack.specs.Receiving.{ws_of, answers_pings, with_pongs_of, ponged, read}
use Rattle.dill_stack.specs.Stepping.{pass_of_ws, next_pass, with_ws, passed_on, stepped}
use Rattle.dill_stack.specs.WsReading.{Passed, pass_by_front, ws_front}
use Rattle.dill_stack.specs.Framing.{LinkPassed, LinkPasses, Passes, PassedBy, StackPassed, StackPasses, HasStepped, answers_of, key_in, masks_of}
use Rattle.dill_stack.proofs.TowerReads.{ws_tower}
use Rattle.dill_stack.proofs.StepReads.{Moves, moves, IsPass, is_pass, ws_with, Left, step_left, read_steps}
use Rattle.dill_stack.proofs.Passings.{empty_front}
use Rattle.std.proofs.lemmas.List.{length-drop}

pub answers_is : (ts : List TermLayer) (b : Base) (s : Held) → (is_open_base b && not s.sending.broken && not s.sending.done) ≡ answers_of (ws_of (tower ts (base_layers b))) s
answers_is ts b s = on_link b ∙ ap (λ o. answers_of o s) (sym (ws_tower ts (base_layers b)))
  where
    on_link : (b : Base) → (is_open_base b && not s.sending.broken && not s.sending.done) ≡ answers_of (ws_of (base_layers b)) s
    on_link base.Bytes = refl
    on_link (base.Prefix form) = refl
    on_link (base.Suffix end) = refl
    on_link (base.Http http) = refl
    on_link (base.Ws framed) = refl

or_false_same : (b : Bool) → (b || false) ≡ b
or_false_same true = refl
or_false_same false = refl

pub masks_is : (ts : List TermLayer) (b : Base) → list_any is_masking (base_layers b) ≡ masks_of (ws_of (tower ts (base_layers b)))
masks_is ts b = on_link b ∙ ap masks_of (sym (ws_tower ts (base_layers b)))
  where
    on_link : (b : Base) → list_any is_masking (base_layers b) ≡ masks_of (ws_of (base_layers b))
    on_link base.Bytes = refl
    on_link (base.Prefix form) = refl
    on_link (base.Suffix end) = refl
    on_link (base.Http http) = refl
    on_link (base.Ws framed) = or_false_same (masks framed.side)

pub key_is : (ts : List TermLayer) (b : Base) (key : List ℕ) → base_key b key ≡ key_in (ws_of (tower ts (base_layers b))) key
key_is ts b key = on_link b ∙ ap (λ o. key_in o key) (sym (ws_tower ts (base_layers b)))
  where
    on_link : (b : Base) → base_key b key ≡ key_in (ws_of (base_layers b)) key
    on_link base.Bytes = refl
    on_link (base.Prefix form) = refl
    on_link (base.Suffix end) = refl
    on_link (base.Http http) = refl
    on_link (base.Ws framed) = refl

-- what a WebSocket layer refuses is said by its side and whether it sends text
abbrev due_by : Bool → Side → List ℕ → Result (List ℕ) Errno
due_by text side m = and_then (if text && not (is_utf8 m) then Err Einval else Ok (frame_bytes true (if text then 1 else 2) (key_of side []) m)) (spelled [] [])

spelled_same : (ts : List TermLayer) (w x : WsLayer) (m : List ℕ) → x.text ≡ w.text → x.side ≡ w.side → spelled [] (tower ts (Ws x ∷ [])) m ≡ spelled [] (tower ts (Ws w ∷ [])) m
spelled_same [] w x m t s = ap (λ b. due_by b x.side m) t ∙ ap (λ side. due_by w.text side m) s
spelled_same (t ∷ ts) w x m e s = ap (λ r. if bytes_eq m t.terminal then Err Einval else r) (spelled_same ts w x m e s)

pub ends_same : (ts : List TermLayer) (w x : WsLayer) → x.text ≡ w.text → x.side ≡ w.side → HasEnds ts (Ws w ∷ []) → HasEnds ts (Ws x ∷ [])
ends_same [] w x t s h = tt
ends_same (t ∷ ts) w x e s h = (h.0, ap fault_of (spelled_same ts w x t.terminal e s) ∙ h.1, ends_same ts w x e s h.2)

link_passed : (limit : ℕ) (f g : Framed) (u v : Roomy ℕ) (pings : List (List ℕ)) → PassedBy limit f u pings g v → LinkPassed limit (base.Ws f) u pings (base.Ws g) v
link_passed limit f g u v pings q =
    let p : Passed = record { used = q.used; ws = ws_layer g; pings = pings } in
    let i : Moves (ws_layer f) u.items p = moves limit (ws_layer f) u.items p q.pass in
    record {
      p = p;
      pings_are = refl;
      pass = q.pass;
      layers = refl;
      bytes = q.bytes;
      joins = λ n j. omega (arith, q.room, j);
      stands = λ ts n t. record { fits = tt; based = tt; ends = ends_same ts (ws_layer f) (ws_layer g) i.text i.side t.ends; room = t.room };
    }

pub link_passes : (limit : ℕ) (f g : Framed) (u v : Roomy ℕ) (r : Pass) → Passes limit f u r g v → LinkPasses limit (base.Ws f) u r (base.Ws g) v
link_passes limit f g u v passes.Nothing h = (h.0, ap base.Ws h.1, h.2)
link_passes limit f g u v passes.Frame h = link_passed limit f g u v [] h
link_passes limit f g u v (passes.Ping payload) h = link_passed limit f g u v (payload ∷ []) h

pub link_stands : (limit : ℕ) (old new : Base) (u v : Roomy ℕ) (r : Pass) → LinkPasses limit old u r new v → (ts : List TermLayer) (n : ℕ) → IsTower ts old n → IsTower ts new n
link_stands limit old new u v passes.Nothing h = λ ts n i. subst (λ (b : Base). IsTower ts b n) (sym h.1) i
link_stands limit old new u v passes.Frame h = h.stands
link_stands limit old new u v (passes.Ping payload) h = h.stands

pub link_joins : (limit : ℕ) (old new : Base) (u v : Roomy ℕ) (r : Pass) → LinkPasses limit old u r new v → (n : ℕ) → JoinsWithin n old → JoinsWithin n new
link_joins limit old new u v passes.Nothing h = λ n j. subst (λ (b : Base). JoinsWithin n b) (sym h.1) j
link_joins limit old new u v passes.Frame h = h.joins
link_joins limit old new u v (passes.Ping payload) h = h.joins

pub link_room : (limit : ℕ) (old new : Base) (u v : Roomy ℕ) (r : Pass) → LinkPasses limit old u r new v → v.room ≡ u.room
link_room limit old new u v passes.Nothing h = ap (λ (x : Roomy ℕ). x.room) h.2
link_room limit old new u v passes.Frame h = ap (λ (x : Roomy ℕ). x.room) h.bytes
link_room limit old new u v (passes.Ping payload) h = ap (λ (x : Roomy ℕ). x.room) h.bytes

pub with_tower : (x : WsLayer) (ts : List TermLayer) (below : List Placed) → with_ws x (tower ts below) ≡ tower ts (with_ws x below)
with_tower x [] below = refl
with_tower x (t ∷ ts) below = ap (λ l. Term t ∷ l) (with_tower x ts below)

-- a stack over this layer on the link, with these bytes unread
abbrev pub over_link : List TermLayer → Base → Roomy ℕ → Stocked → Stocked
over_link ts b u s = record s { held = record s.held { layers = tower ts (base_layers b); unread = u.items } }

unmet_pass : (limit : ℕ) (s : Held) (o : Option Passed) → is_met s.layers ≡ false → pass_of_ws limit s.unread (ws_of s.layers) ≡ o → next_pass limit s ≡ o
unmet_pass limit s o m e = ap (λ b. if b then None else pass_of_ws limit s.unread (ws_of s.layers)) m ∙ e

stack_passed : (limit : ℕ) (ts : List TermLayer) (old new : Base) (u v : Roomy ℕ) (s : Stocked) (pings : List (List ℕ)) → LinkPassed limit old u pings new v → is_met (tower ts (base_layers old)) ≡ false → StackPassed limit pings (over_link ts old u s) (over_link ts new v s)
stack_passed limit ts old new u v s pings k m =
    record {
      p = k.p;
      pings_are = k.pings_are;
      pass = unmet_pass limit (over_link ts old u s).held (Some k.p) m (ap (pass_of_ws limit u.items) (ws_tower ts (base_layers old)) ∙ k.pass);
      now_is = ap {A = Roomy ℕ} (λ x. over_link ts new x s) k.bytes
          ∙ ap {A = List Placed} (λ l. record s { held = record s.held { layers = l; unread = drop k.p.used u.items } }) (ap (tower ts) k.layers ∙ sym (with_tower k.p.ws ts (base_layers old)));
    }

pub stack_passes : (limit : ℕ) (ts : List TermLayer) (old new : Base) (u v : Roomy ℕ) (s : Stocked) (r : Pass) → LinkPasses limit old u r new v → is_met (tower ts (base_layers old)) ≡ false → StackPasses limit r (over_link ts old u s) (over_link ts new v s)
stack_passes limit ts old new u v s passes.Nothing h m = (
  unmet_pass limit (over_link ts old u s).held None m (ap (pass_of_ws limit u.items) (ws_tower ts (base_layers old)) ∙ h.0),
  ap {A = Base} (λ b. over_link ts b v s) h.1 ∙ ap {A = Roomy ℕ} (λ x. over_link ts old x s) h.2,
)
stack_passes limit ts old new u v s passes.Frame h m = stack_passed limit ts old new u v s [] h m
stack_passes limit ts old new u v s (passes.Ping payload) h m = stack_passed limit ts old new u v s (payload ∷ []) h m

-- where an end was met, nothing is passed
pub met_passes : (limit : ℕ) (s : Stocked) → is_met s.held.layers ≡ true → StackPasses limit passes.Nothing s s
met_passes limit s m = (ap (λ b. if b then None else pass_of_ws limit s.held.unread (ws_of s.held.layers)) m, refl)

no_pongs : (o : Option WsLayer) (random : Stream) (t : Held) → with_pongs_of o [] random t ≡ (t, random)
no_pongs None random t = refl
no_pongs (Some ws) random t = at (answers_pings ws t)
  where
    at : (b : Bool) → ◌≡◌ {A = Held × Stream} (if b then (record t { queue = t.queue }, random) else (t, random)) (t, random)
    at true = refl
    at false = refl

pub steps_frame : (limit : ℕ) (before now : Stocked) (random : Stream) → StackPassed limit [] before now → HasStepped limit before now random random
steps_frame limit before now random k =
    let e : stepped k.p random before.held ≡ (passed_on k.p before.held, random) = ap (λ pings. with_pongs_of (ws_of before.held.layers) pings random (passed_on k.p before.held)) k.pings_are ∙ no_pongs (ws_of before.held.layers) random (passed_on k.p before.held) in
    record {
      p = k.p;
      pass = k.pass;
      now_is = k.now_is ∙ ap (λ (n : Held × Stream). record before { held = n.0 }) (sym e);
      left_is = ap (λ (n : Held × Stream). n.1) (sym e);
    }

abbrev pongs_by : Bool → Side → List (List ℕ) → Stream → Held → Held × Stream
pongs_by c side pings random s = if c then (record s { queue = (ponged side pings (s.queue, random)).0 }, (ponged side pings (s.queue, random)).1) else (s, random)

pongs_same : (ws x : WsLayer) (pings : List (List ℕ)) (random : Stream) (s : Held) → x.side ≡ ws.side → x.closed ≡ ws.closed → with_pongs_of (Some x) pings random s ≡ with_pongs_of (Some ws) pings random s
pongs_same ws x pings random s e f = ap (λ c. pongs_by (not c && not s.sending.broken && not s.sending.done) x.side pings random s) f ∙ ap (λ side. pongs_by (answers_pings ws s) side pings random s) e

pub steps_ping : (limit : ℕ) (payload : List ℕ) (before mid now : Stocked) (random left : Stream) → StackPassed limit (payload ∷ []) before mid → now ≡ record mid { held = (with_pongs_of (ws_of mid.held.layers) (payload ∷ []) random mid.held).0 } → left ≡ (with_pongs_of (ws_of mid.held.layers) (payload ∷ []) random mid.held).1 → HasStepped limit before now random left
steps_ping limit payload before mid now random left k n l =
    let i : IsPass limit before.held k.p = is_pass limit before.held k.p k.pass in
    let w : Moves i.ws before.held.unread k.p = moves limit i.ws before.held.unread k.p i.pass in
    let h : mid.held ≡ passed_on k.p before.held = ap {A = Stocked} (λ s. s.held) k.now_is in
    let e : with_pongs_of (ws_of mid.held.layers) (payload ∷ []) random mid.held ≡ stepped k.p random before.held =
    ap {A = Held} (λ t. with_pongs_of (ws_of t.layers) (payload ∷ []) random t) h
    ∙ ap (λ o. with_pongs_of o (payload ∷ []) random (passed_on k.p before.held)) (ws_with k.p.ws before.held.layers i.ws i.there)
    ∙ pongs_same i.ws k.p.ws (payload ∷ []) random (passed_on k.p before.held) w.side w.closed
    ∙ ap (λ o. with_pongs_of o (payload ∷ []) random (passed_on k.p before.held)) (sym i.there)
    ∙ ap (λ pings. with_pongs_of (ws_of before.held.layers) pings random (passed_on k.p before.held)) (sym k.pings_are) in
    record {
      p = k.p;
      pass = k.pass;
      now_is = n ∙ ap (λ (x : Held × Stream). record mid { held = x.0 }) e ∙ ap {A = Stocked} (λ s. record s { held = (stepped k.p random before.held).0 }) k.now_is;
      left_is = l ∙ ap (λ (x : Held × Stream). x.1) e;
    }

-- ---- one frame after the other

messages_with : (x : WsLayer) (layers : List Placed) → HasMessages layers → HasMessages (with_ws x layers)
messages_with x [] h = h
messages_with x (Prefix form ∷ below) h = tt
messages_with x (Suffix end ∷ below) h = tt
messages_with x (Term t ∷ below) h = tt
messages_with x (Http http ∷ below) h = h
messages_with x (Ws ws ∷ below) h = tt

pub standing_with : (x : WsLayer) (layers : List Placed) → IsStanding layers → IsStanding (with_ws x layers)
standing_with x [] k = tt
standing_with x (Prefix form ∷ below) k = bare below k
  where
    bare : (below : List Placed) → below ≡ [] → with_ws x below ≡ []
    bare [] k = refl
    bare (y ∷ below) k = cc
standing_with x (Suffix end ∷ below) k = bare below k
  where
    bare : (below : List Placed) → below ≡ [] → with_ws x below ≡ []
    bare [] k = refl
    bare (y ∷ below) k = cc
standing_with x (Http http ∷ below) k = bare below k
  where
    bare : (below : List Placed) → below ≡ [] → with_ws x below ≡ []
    bare [] k = refl
    bare (y ∷ below) k = cc
standing_with x (Term t ∷ below) k = (messages_with x below k.0, standing_with x below k.1)
standing_with x (Ws ws ∷ below) k = k

-- A receive that has come so far is answered the same.
pub record Reaches (limit most at : ℕ) (from to : Stocked) (random now : Stream) : Type 0 where
  pub same : read (Message limit) now to.held ≡ read (Message limit) random from.held
  pub rest : to ≡ record from { held = to.held }
  pub standing : IsStanding to.held.layers
  pub count : at + length to.held.unread ≤ most

pub reaches_first : (limit most : ℕ) (s : Stocked) (random : Stream) → IsStanding s.held.layers → length s.held.unread ≤ most → Reaches limit most 0 s s random random
reaches_first limit most s random k l = record { same = refl; rest = refl; standing = k; count = omega (arith, l) }

pub reaches_on : (limit most at : ℕ) (from mid to : Stocked) (random now later : Stream) → Reaches limit most at from mid random now → HasStepped limit mid to now later → Reaches limit most (at + 1) from to random later
reaches_on limit most at from mid to random now later i h =
    let q : IsPass limit mid.held h.p = is_pass limit mid.held h.p h.pass in
    let w : Moves q.ws mid.held.unread h.p = moves limit q.ws mid.held.unread h.p q.pass in
    let held : to.held ≡ (stepped h.p now mid.held).0 = ap {A = Stocked} (λ s. s.held) h.now_is in
    let left : Left h.p mid.held (stepped h.p now mid.held).0 = step_left h.p now mid.held in
    let layers : to.held.layers ≡ with_ws h.p.ws mid.held.layers = ap {A = Held} (λ s. s.layers) held ∙ left.layers in
    let unread : to.held.unread ≡ drop h.p.used mid.held.unread = ap {A = Held} (λ s. s.unread) held ∙ left.unread in
    let size : length to.held.unread ≡ length mid.held.unread - h.p.used = ap length unread ∙ length-drop h.p.used mid.held.unread in
    record {
      same = ap {A = Held} (λ t. read (Message limit) later t) held ∙ ap (λ r. read (Message limit) r (stepped h.p now mid.held).0) h.left_is ∙ sym (read_steps limit now mid.held h.p i.standing h.pass) ∙ i.same;
      rest = h.now_is ∙ ap {A = Stocked} (λ s. record s { held = (stepped h.p now mid.held).0 }) i.rest ∙ ap {A = Held} (λ t. record from { held = t }) (sym held);
      standing = subst IsStanding (sym layers) (standing_with h.p.ws mid.held.layers i.standing);
      count = omega (arith, i.count, size, w.some, w.there);
    }

nothing_left : (u : List ℕ) → length u ≤ 0 → u ≡ []
nothing_left [] l = refl
nothing_left (x ∷ u) l = absurd (omega (arith, l))

-- where nothing is unread, nothing is passed
pub reaches_end : (limit most at : ℕ) (from to : Stocked) (random now : Stream) → most ≤ at → Reaches limit most at from to random now → next_pass limit to.held ≡ None
reaches_end limit most at from to random now l i =
    let e : to.held.unread ≡ [] = nothing_left to.held.unread (omega (arith, l, i.count)) in
    by (is_met to.held.layers) (ws_of to.held.layers) e
  where
    by : (b : Bool) (o : Option WsLayer) → to.held.unread ≡ [] → (if b then None else pass_of_ws limit to.held.unread o) ≡ None
    by true o e = refl
    by false None e = refl
    by false (Some ws) e = ap (λ u. pass_by_front ws (ws_front limit ws u)) e ∙ empty_front limit ws
