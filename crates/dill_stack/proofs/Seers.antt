-- What stands at the front of a stack over a WebSocket layer, past each end.
use Rattle.std.proofs.Common.{◌≡◌, ◌+◌, ◌∷◌, ◌∙◌, ◌&&◌, ◌||◌, [], sym, ap, refl, subst, arith, ℕ, List, Bool, true, false, length, drop, Option, Some, None, if◌then◌else◌}
use Rattle.std.specs.Prelude.{◌==◌, is_some}
use Rattle.dill_base.specs.declared.errno.Errno.{Errno}
use Rattle.dill_base.specs.declared.errno.Errno.TheVariants.{Epipe, Eproto}
use Rattle.dill_calls.specs.declared.answer.Answer.TheVariants.{Bytes}
use Rattle.dill_stack.specs.declared.layer.Top.TheVariants as top
use Rattle.dill_stack.specs.declared.placed.Base.{Base}
use Rattle.dill_stack.specs.declared.placed.Base.TheVariants as base
use Rattle.dill_stack.specs.declared.placed.Framed.{Framed}
use Rattle.dill_stack.specs.declared.seeing.Seen.{Seen}
use Rattle.dill_stack.specs.declared.seeing.Seen.TheVariants as seen
use Rattle.dill_stack.specs.declared.want.ReadOut.{ReadOut}
use Rattle.dill_stack.specs.declared.want.ReadOut.TheVariants.{Given, Need, Fault}
use Rattle.dill_stack.specs.declared.want.Want.TheVariants.{Message}
use Rattle.dill_stack.specs.Layers.{TermLayer, WsLayer, Placed, Prefix, Suffix, Term, Http, Ws, HasMessages, IsStanding, top_of}
use Rattle.dill_stack.specs.Held.{Held}
use Rattle.dill_stack.specs.Rooms.{Roomy, Stocked}
use Rattle.dill_stack.specs.Read.{Outcome, outcome, no_more, behind_passed, read_list, read_ws, is_terminal, over_term, read_message}
use Rattle.dill_stack.specs.Receiving.{ws_of, broken_by, read_of}
use Rattle.dill_stack.specs.Refusals.{is_met}
use Rattle.dill_stack.specs.Seeing.{emptied, Sees, PassesNone, LinkSees, StackMessage, StackClose, StackOpen, StackSees, joined_in, joined_by, emptied_by, emptied_layers, joined_given}
use Rattle.dill_stack.specs.Standing.{tower, base_layers, is_frames_top, ws_layer, emptied_base, joined_bytes, IsTower, JoinsWithin}
use Rattle.dill_stack.specs.Stepping.{pass_of_ws, next_pass, with_ws}
use Rattle.dill_stack.specs.Taking.{over_layers, after, lowest, meet}
use Rattle.dill_stack.specs.WsReading.{Passed, nothing_passed, pass_by_front, ws_front, Shown, shown}
use Rattle.dill_stack.proofs.Again.{passed_nothing}
use Rattle.dill_stack.proofs.Passers.{ends_same, over_link, with_tower}
use Rattle.dill_stack.proofs.StepReads.{ws_with}
use Rattle.dill_stack.proofs.TowerReads.{ws_tower, takes_end, takes_none}

-- where nothing is passed, a WebSocket layer reads what it sees
pub reads_shown : (ws : WsLayer) (u : List ℕ) (ended : Bool) (limit : ℕ) (s : Shown) → ws.met ≡ false → pass_by_front ws (ws_front limit ws u) ≡ None → shown limit ended ws u ≡ s → read_ws [] ws u ended limit ≡ outcome s.used (Ws s.ws ∷ []) s.said
reads_shown ws u ended limit s m n e =
    let z : 0 + s.used ≡ s.used = omega arith in
    pick ws.met _ _ m
    ∙ ap (λ (p : Passed). behind_passed [] p (shown limit ended p.ws (drop p.used u))) (passed_nothing limit ws u n)
    ∙ ap (behind_passed [] (nothing_passed ws)) e
    ∙ ap (λ k. outcome k (Ws s.ws ∷ []) s.said) z
  where
    pick : (b : Bool) (x y : Outcome) → b ≡ false → (if b then x else y) ≡ y
    pick true x y e = cc
    pick false x y e = refl

or_none : (a b : Bool) → (a || b) ≡ false → (a ≡ false) × (b ≡ false)
or_none true b e = cc
or_none false b e = (refl, e)

-- the WebSocket layer of an unmet stack hasn't met its end
pub unmet_ws : (layers : List Placed) (ws : WsLayer) → is_met layers ≡ false → ws_of layers ≡ Some ws → ws.met ≡ false
unmet_ws [] ws m e = cc
unmet_ws (Prefix form ∷ below) ws m e = unmet_ws below ws m e
unmet_ws (Suffix end ∷ below) ws m e = unmet_ws below ws m e
unmet_ws (Term t ∷ below) ws m e = unmet_ws below ws (or_none t.met (is_met below) m).1 e
unmet_ws (Http http ∷ below) ws m e = unmet_ws below ws (or_none _ (is_met below) m).1 e
unmet_ws (Ws x ∷ below) ws m e = let s : x ≡ ws = cc in subst (λ (y : WsLayer). y.met ≡ false) s (or_none x.met (is_met below) m).0

-- a message or an end of the WebSocket layer, past the ends above it
pub over_ws : (layers : List Placed) (u : List ℕ) (ended : Bool) (limit : ℕ) (ws x : WsLayer) (used : ℕ) (said : ReadOut) → IsStanding layers → is_met layers ≡ false → ws_of layers ≡ Some ws → read_ws [] ws u ended limit ≡ outcome used (Ws x ∷ []) said → read_message layers u ended limit ≡ over_layers (with_ws x layers) (outcome used [] said)
over_ws [] u ended limit ws x used said k m e r = cc
over_ws (Prefix form ∷ below) u ended limit ws x used said k m e r = absurd (none below k e)
  where
    none : (below : List Placed) → below ≡ [] → ws_of below ≡ Some ws → ⊥
    none [] k e = cc
    none (y ∷ below) k e = cc
over_ws (Suffix end ∷ below) u ended limit ws x used said k m e r = absurd (none below k e)
  where
    none : (below : List Placed) → below ≡ [] → ws_of below ≡ Some ws → ⊥
    none [] k e = cc
    none (y ∷ below) k e = cc
over_ws (Http http ∷ below) u ended limit ws x used said k m e r = absurd (none below k e)
  where
    none : (below : List Placed) → below ≡ [] → ws_of below ≡ Some ws → ⊥
    none [] k e = cc
    none (y ∷ below) k e = cc
over_ws (Term t ∷ below) u ended limit ws x used said k m e r =
    let n : (t.met ≡ false) × (is_met below ≡ false) = or_none t.met (is_met below) m in
    pick t.met _ _ n.0 ∙ ap (over_term t) (over_ws below u ended limit ws x used said k.1 n.1 e r)
  where
    pick : (b : Bool) (x y : Outcome) → b ≡ false → (if b then x else y) ≡ y
    pick true x y e = cc
    pick false x y e = refl
over_ws (Ws w ∷ below) u ended limit ws x used said k m e r = by below k
  where
    same : w ≡ ws
    same = cc

    by : (below : List Placed) → below ≡ [] → read_ws below w u ended limit ≡ outcome used (Ws x ∷ below) said
    by [] k = ap (λ (y : WsLayer). read_ws [] y u ended limit) same ∙ r
    by (y ∷ below) k = cc

pub over_fault : (layers : List Placed) (used : ℕ) (f : Errno) → over_layers layers (outcome used [] (Fault f)) ≡ outcome used layers (Fault f)
over_fault [] used f = refl
over_fault (Prefix form ∷ below) used f = refl
over_fault (Suffix end ∷ below) used f = refl
over_fault (Term t ∷ below) used f = ap (over_term t) (over_fault below used f)
over_fault (Http http ∷ below) used f = refl
over_fault (Ws ws ∷ below) used f = refl

over_need : (layers : List Placed) → over_layers layers (outcome 0 [] Need) ≡ outcome 0 layers Need
over_need [] = refl
over_need (Prefix form ∷ below) = refl
over_need (Suffix end ∷ below) = refl
over_need (Term t ∷ below) = ap (over_term t) (over_need below)
over_need (Http http ∷ below) = refl
over_need (Ws ws ∷ below) = refl

pub over_more : (layers : List Placed) (ended boundary : Bool) (u : List ℕ) → over_layers layers (outcome 0 [] (no_more ended boundary u)) ≡ outcome 0 layers (no_more ended boundary u)
over_more layers false boundary u = over_need layers
over_more layers true boundary u = at (boundary && length u == 0)
  where
    at : (b : Bool) → over_layers layers (outcome 0 [] (if b then Fault Epipe else Fault Eproto)) ≡ outcome 0 layers (if b then Fault Epipe else Fault Eproto)
    at true = over_fault layers 0 Epipe
    at false = over_fault layers 0 Eproto

-- how much is used changes nothing else
term_used : (t : TermLayer) (o : Outcome) (n : ℕ) → over_term t (record o { used = n }) ≡ record (over_term t o) { used = n }
term_used t o n = at (is_terminal t o.said)
  where
    at : (b : Bool) → (if b then record o { used = n; layers = Term (record t { met = true }) ∷ o.layers; said = Fault Epipe } else record o { used = n; layers = Term t ∷ o.layers }) ≡ record (if b then record o { layers = Term (record t { met = true }) ∷ o.layers; said = Fault Epipe } else record o { layers = Term t ∷ o.layers }) { used = n }
    at true = refl
    at false = refl

pub over_used : (layers : List Placed) (used n : ℕ) (said : ReadOut) → over_layers layers (outcome n [] said) ≡ record (over_layers layers (outcome used [] said)) { used = n }
over_used [] used n said = refl
over_used (Prefix form ∷ below) used n said = refl
over_used (Suffix end ∷ below) used n said = refl
over_used (Term t ∷ below) used n said = ap (over_term t) (over_used below used n said) ∙ term_used t (over_layers below (outcome used [] said)) n
over_used (Http http ∷ below) used n said = refl
over_used (Ws ws ∷ below) used n said = refl

-- no ping was passed
term_pings : (t : TermLayer) (o : Outcome) → (over_term t o).pings ≡ o.pings
term_pings t o = at (is_terminal t o.said)
  where
    at : (b : Bool) → (if b then record o { layers = Term (record t { met = true }) ∷ o.layers; said = Fault Epipe } else record o { layers = Term t ∷ o.layers }).pings ≡ o.pings
    at true = refl
    at false = refl

pub over_pings : (layers : List Placed) (used : ℕ) (said : ReadOut) → (over_layers layers (outcome used [] said)).pings ≡ []
over_pings [] used said = refl
over_pings (Prefix form ∷ below) used said = refl
over_pings (Suffix end ∷ below) used said = refl
over_pings (Term t ∷ below) used said = term_pings t (over_layers below (outcome used [] said)) ∙ over_pings below used said
over_pings (Http http ∷ below) used said = refl
over_pings (Ws ws ∷ below) used said = refl

pub with_twice : (x y : WsLayer) (layers : List Placed) → with_ws y (with_ws x layers) ≡ with_ws y layers
with_twice x y [] = refl
with_twice x y (Prefix form ∷ below) = ap (λ l. Prefix form ∷ l) (with_twice x y below)
with_twice x y (Suffix end ∷ below) = ap (λ l. Suffix end ∷ l) (with_twice x y below)
with_twice x y (Term t ∷ below) = ap (λ l. Term t ∷ l) (with_twice x y below)
with_twice x y (Http http ∷ below) = ap (λ l. Http http ∷ l) (with_twice x y below)
with_twice x y (Ws w ∷ below) = refl

pub with_same : (layers : List Placed) (ws : WsLayer) → ws_of layers ≡ Some ws → with_ws ws layers ≡ layers
with_same [] ws e = cc
with_same (Prefix form ∷ below) ws e = ap (λ l. Prefix form ∷ l) (with_same below ws e)
with_same (Suffix end ∷ below) ws e = ap (λ l. Suffix end ∷ l) (with_same below ws e)
with_same (Term t ∷ below) ws e = ap (λ l. Term t ∷ l) (with_same below ws e)
with_same (Http http ∷ below) ws e = ap (λ l. Http http ∷ l) (with_same below ws e)
with_same (Ws w ∷ below) ws e = let s : w ≡ ws = cc in ap (λ x. Ws x ∷ below) (sym s)

-- ---- the layer on the link, and the stack over it

pub passes_none : (limit : ℕ) (ts : List TermLayer) (b : Base) (u : Roomy ℕ) (s : Stocked) → is_met (tower ts (base_layers b)) ≡ false → next_pass limit (over_link ts b u s).held ≡ None → PassesNone limit b u
passes_none limit ts b u s m n = on_link b (ap (pass_of_ws limit u.items) (sym (ws_tower ts (base_layers b))) ∙ sym (ap (λ c. if c then None else pass_of_ws limit u.items (ws_of (tower ts (base_layers b)))) m) ∙ n)
  where
    on_link : (b : Base) → pass_of_ws limit u.items (ws_of (base_layers b)) ≡ None → PassesNone limit b u
    on_link base.Bytes e = tt
    on_link (base.Prefix form) e = tt
    on_link (base.Suffix end) e = tt
    on_link (base.Http http) e = tt
    on_link (base.Ws framed) e = e

-- the layer may change what it has joined, and that it has met its end
framed_stands : (f g : Framed) (ts : List TermLayer) (n : ℕ) → g.text ≡ f.text → g.side ≡ f.side → IsTower ts (base.Ws f) n → IsTower ts (base.Ws g) n
framed_stands f g ts n t s i = record { fits = tt; based = tt; ends = ends_same ts (ws_layer f) (ws_layer g) t s i.ends; room = i.room }

sees_stands : (limit : ℕ) (f g : Framed) (u v : Roomy ℕ) (r : Seen) (ts : List TermLayer) (n : ℕ) → Sees limit f u r g v → IsTower ts (base.Ws f) n → IsTower ts (base.Ws g) n
sees_stands limit f g u v seen.Message ts n h i = framed_stands f g ts n (ap (λ (x : Framed). x.text) h.joins) (ap (λ (x : Framed). x.side) h.joins) i
sees_stands limit f g u v seen.Close ts n h i = framed_stands f g ts n (ap (λ (x : Framed). x.text) h.met) (ap (λ (x : Framed). x.side) h.met) i
sees_stands limit f g u v (seen.Open b) ts n h i = subst (λ (x : Framed). IsTower ts (base.Ws x) n) (sym h.1) i
sees_stands limit f g u v (seen.Refused e) ts n h i = subst (λ (x : Framed). IsTower ts (base.Ws x) n) (sym h.1) i

pub see_stands : (limit : ℕ) (old new : Base) (u v : Roomy ℕ) (r : Seen) (ts : List TermLayer) (n : ℕ) → LinkSees limit old u r new v → IsTower ts old n → IsTower ts new n
see_stands limit base.Bytes new u v r ts n h i = subst (λ (b : Base). IsTower ts b n) (sym h.0) i
see_stands limit (base.Prefix form) new u v r ts n h i = subst (λ (b : Base). IsTower ts b n) (sym h.0) i
see_stands limit (base.Suffix end) new u v r ts n h i = subst (λ (b : Base). IsTower ts b n) (sym h.0) i
see_stands limit (base.Http http) new u v r ts n h i = subst (λ (b : Base). IsTower ts b n) (sym h.0) i
see_stands limit (base.Ws f) new u v r ts n h i = subst (λ (b : Base). IsTower ts b n) (sym h.1) (sees_stands limit f h.0 u v r ts n h.2 i)

sees_joins : (limit : ℕ) (f g : Framed) (u v : Roomy ℕ) (r : Seen) → Sees limit f u r g v → g.joined.room ≡ f.joined.room
sees_joins limit f g u v seen.Message h = ap (λ (x : Framed). x.joined.room) h.joins
sees_joins limit f g u v seen.Close h = ap (λ (x : Framed). x.joined.room) h.met
sees_joins limit f g u v (seen.Open b) h = ap (λ (x : Framed). x.joined.room) h.1
sees_joins limit f g u v (seen.Refused e) h = ap (λ (x : Framed). x.joined.room) h.1

-- and has the room that it had
pub see_joins : (limit : ℕ) (old new : Base) (u v : Roomy ℕ) (r : Seen) (n : ℕ) → LinkSees limit old u r new v → JoinsWithin n old → JoinsWithin n new
see_joins limit base.Bytes new u v r n h j = subst (λ (b : Base). JoinsWithin n b) (sym h.0) j
see_joins limit (base.Prefix form) new u v r n h j = subst (λ (b : Base). JoinsWithin n b) (sym h.0) j
see_joins limit (base.Suffix end) new u v r n h j = subst (λ (b : Base). JoinsWithin n b) (sym h.0) j
see_joins limit (base.Http http) new u v r n h j = subst (λ (b : Base). JoinsWithin n b) (sym h.0) j
see_joins limit (base.Ws f) new u v r n h j = subst (λ (b : Base). JoinsWithin n b) (sym h.1) (omega (arith, sees_joins limit f h.0 u v r h.2, j))

sees_room : (limit : ℕ) (f g : Framed) (u v : Roomy ℕ) (r : Seen) → Sees limit f u r g v → v.room ≡ u.room
sees_room limit f g u v seen.Message h = ap (λ (x : Roomy ℕ). x.room) h.bytes
sees_room limit f g u v seen.Close h = ap (λ (x : Roomy ℕ). x.room) h.bytes
sees_room limit f g u v (seen.Open b) h = ap (λ (x : Roomy ℕ). x.room) h.2
sees_room limit f g u v (seen.Refused e) h = ap (λ (x : Roomy ℕ). x.room) h.2

pub see_room : (limit : ℕ) (old new : Base) (u v : Roomy ℕ) (r : Seen) → LinkSees limit old u r new v → v.room ≡ u.room
see_room limit base.Bytes new u v r h = ap (λ (x : Roomy ℕ). x.room) h.1
see_room limit (base.Prefix form) new u v r h = ap (λ (x : Roomy ℕ). x.room) h.1
see_room limit (base.Suffix end) new u v r h = ap (λ (x : Roomy ℕ). x.room) h.1
see_room limit (base.Http http) new u v r h = ap (λ (x : Roomy ℕ). x.room) h.1
see_room limit (base.Ws f) new u v r h = sees_room limit f h.0 u v r h.2

framed_sees : (limit : ℕ) (ts : List TermLayer) (f g : Framed) (u v : Roomy ℕ) (s : Stocked) (r : Seen) → Sees limit f u r g v → f.met ≡ false → pass_by_front (ws_layer f) (ws_front limit (ws_layer f) u.items) ≡ None → StackSees limit r (over_link ts (base.Ws f) u s) (over_link ts (base.Ws g) v s)
framed_sees limit ts f g u v s seen.Message h m n =
    record {
      used = h.used;
      ws = ws_layer f;
      all = g.joined.items;
      some = h.some;
      spare = h.there;
      within = h.within;
      there = ws_tower ts (base_layers (base.Ws f));
      reads = reads_shown (ws_layer f) u.items s.held.receiving.done limit _ m n (h.shows s.held.receiving.done);
      now_is = ap {A = Roomy ℕ} (λ x. over_link ts (base.Ws g) x s) h.bytes
          ∙ ap {A = Framed} (λ x. record s { held = record s.held { layers = tower ts (Ws (ws_layer x) ∷ []); unread = drop h.used u.items } }) h.joins
          ∙ ap {A = List Placed} (λ l. record s { held = record s.held { layers = l; unread = drop h.used u.items } }) (sym (with_tower (record (ws_layer f) { joined = g.joined.items }) ts (Ws (ws_layer f) ∷ [])));
    }
framed_sees limit ts f g u v s seen.Close h m n =
    record {
      used = h.used;
      ws = ws_layer f;
      there = ws_tower ts (base_layers (base.Ws f));
      reads = reads_shown (ws_layer f) u.items s.held.receiving.done limit _ m n (h.shows s.held.receiving.done) ∙ ap {A = Framed} (λ x. outcome h.used (Ws (ws_layer x) ∷ []) (Fault Epipe)) h.met;
      now_is = ap {A = Roomy ℕ} (λ x. over_link ts (base.Ws g) x s) h.bytes
          ∙ ap {A = Framed} (λ x. record s { held = record s.held { layers = tower ts (Ws (ws_layer x) ∷ []); unread = drop h.used u.items } }) h.met
          ∙ ap {A = List Placed} (λ l. record s { held = record s.held { layers = l; unread = drop h.used u.items } }) (sym (with_tower (record (ws_layer f) { met = true }) ts (Ws (ws_layer f) ∷ [])));
    }
framed_sees limit ts f g u v s (seen.Open b) h m n =
    record {
      ws = ws_layer f;
      there = ws_tower ts (base_layers (base.Ws f));
      reads = reads_shown (ws_layer f) u.items s.held.receiving.done limit _ m n (h.0 s.held.receiving.done);
      now_is = ap {A = Framed} (λ x. over_link ts (base.Ws x) v s) h.1 ∙ ap {A = Roomy ℕ} (λ x. over_link ts (base.Ws f) x s) h.2;
    }
framed_sees limit ts f g u v s (seen.Refused e) h m n =
    record {
      ws = ws_layer f;
      there = ws_tower ts (base_layers (base.Ws f));
      reads = reads_shown (ws_layer f) u.items s.held.receiving.done limit _ m n (h.0 s.held.receiving.done);
      now_is = ap {A = Framed} (λ x. over_link ts (base.Ws x) v s) h.1 ∙ ap {A = Roomy ℕ} (λ x. over_link ts (base.Ws f) x s) h.2;
    }

no_frames : {A : Type 0} (ts : List TermLayer) (below : List Placed) → ws_of below ≡ None → is_some (ws_of (tower ts below)) ≡ true → A
no_frames ts below n e = absurd (never (ap is_some (sym (ws_tower ts below ∙ n)) ∙ e))
  where
    never : false ≡ true → ⊥
    never e = cc

pub stack_sees : (limit : ℕ) (ts : List TermLayer) (old new : Base) (u v : Roomy ℕ) (s : Stocked) (r : Seen) → LinkSees limit old u r new v → is_met (tower ts (base_layers old)) ≡ false → next_pass limit (over_link ts old u s).held ≡ None → is_some (ws_of (tower ts (base_layers old))) ≡ true → StackSees limit r (over_link ts old u s) (over_link ts new v s)
stack_sees limit ts base.Bytes new u v s r h m n e = no_frames ts [] refl e
stack_sees limit ts (base.Prefix form) new u v s r h m n e = no_frames ts (Prefix form ∷ []) refl e
stack_sees limit ts (base.Suffix end) new u v s r h m n e = no_frames ts (Suffix end ∷ []) refl e
stack_sees limit ts (base.Http http) new u v s r h m n e = no_frames ts (Http http ∷ []) refl e
stack_sees limit ts (base.Ws f) new u v s r h m n e =
    let met : f.met ≡ false = unmet_ws (tower ts (Ws (ws_layer f) ∷ [])) (ws_layer f) m (ws_tower ts (Ws (ws_layer f) ∷ [])) in
    subst (λ (b : Base). StackSees limit r (over_link ts (base.Ws f) u s) (over_link ts b v s)) (sym h.1) (framed_sees limit ts f h.0 u v s r h.2 met (passes_none limit ts (base.Ws f) u s m n))

-- ---- what a receive gives of it

pub reads_close : (limit : ℕ) (before now : Stocked) → IsStanding before.held.layers → is_met before.held.layers ≡ false → (c : StackClose limit before now) → read_message before.held.layers before.held.unread before.held.receiving.done limit ≡ outcome c.used (with_ws (record c.ws { met = true }) before.held.layers) (Fault Epipe)
reads_close limit before now k m c = over_ws before.held.layers before.held.unread before.held.receiving.done limit c.ws _ c.used (Fault Epipe) k m c.there c.reads ∙ over_fault (with_ws (record c.ws { met = true }) before.held.layers) c.used Epipe

pub reads_open : (limit : ℕ) (boundary : Bool) (before now : Stocked) → IsStanding before.held.layers → is_met before.held.layers ≡ false → StackOpen limit (no_more before.held.receiving.done boundary before.held.unread) before now → read_message before.held.layers before.held.unread before.held.receiving.done limit ≡ outcome 0 before.held.layers (no_more before.held.receiving.done boundary before.held.unread)
reads_open limit boundary before now k m c =
    over_ws before.held.layers before.held.unread before.held.receiving.done limit c.ws c.ws 0 _ k m c.there c.reads
    ∙ over_more (with_ws c.ws before.held.layers) before.held.receiving.done boundary before.held.unread
    ∙ ap (λ l. outcome 0 l (no_more before.held.receiving.done boundary before.held.unread)) (with_same before.held.layers c.ws c.there)

pub reads_refused : (limit : ℕ) (e : Errno) (before now : Stocked) → IsStanding before.held.layers → is_met before.held.layers ≡ false → StackOpen limit (Fault e) before now → read_message before.held.layers before.held.unread before.held.receiving.done limit ≡ outcome 0 before.held.layers (Fault e)
reads_refused limit e before now k m c =
    over_ws before.held.layers before.held.unread before.held.receiving.done limit c.ws c.ws 0 _ k m c.there c.reads
    ∙ over_fault (with_ws c.ws before.held.layers) 0 e
    ∙ ap (λ l. outcome 0 l (Fault e)) (with_same before.held.layers c.ws c.there)

-- the stack with all of the message joined
pub joined_there : (limit : ℕ) (before now : Stocked) (c : StackMessage limit before now) → ws_of now.held.layers ≡ Some (record c.ws { joined = c.all })
joined_there limit before now c = ap {A = Stocked} (λ s. ws_of s.held.layers) c.now_is ∙ ws_with (record c.ws { joined = c.all }) before.held.layers c.ws c.there

given_is : (limit : ℕ) (before now : Stocked) (c : StackMessage limit before now) → joined_given now.held ≡ over_layers (with_ws (emptied c.ws) before.held.layers) (outcome 0 [] (Given (Bytes c.all)))
given_is limit before now c =
    let w : ws_of now.held.layers ≡ Some (record c.ws { joined = c.all }) = joined_there limit before now c in
    ap (λ o. over_layers (emptied_by o now.held.layers) (outcome 0 [] (Given (Bytes (joined_by o))))) w
    ∙ ap {A = Stocked} (λ s. over_layers (with_ws (emptied c.ws) s.held.layers) (outcome 0 [] (Given (Bytes c.all)))) c.now_is
    ∙ ap (λ l. over_layers l (outcome 0 [] (Given (Bytes c.all)))) (with_twice (record c.ws { joined = c.all }) (emptied c.ws) before.held.layers)

reads_message : (limit : ℕ) (before now : Stocked) → IsStanding before.held.layers → is_met before.held.layers ≡ false → (c : StackMessage limit before now) → read_message before.held.layers before.held.unread before.held.receiving.done limit ≡ record (joined_given now.held) { used = c.used }
reads_message limit before now k m c =
    over_ws before.held.layers before.held.unread before.held.receiving.done limit c.ws (emptied c.ws) c.used (Given (Bytes c.all)) k m c.there c.reads
    ∙ over_used (with_ws (emptied c.ws) before.held.layers) 0 c.used (Given (Bytes c.all))
    ∙ ap (λ (o : Outcome). record o { used = c.used }) (sym (given_is limit before now c))

none_used : (layers : List Placed) (said : ReadOut) → (over_layers layers (outcome 0 [] said)).used ≡ 0
none_used layers said = ap (λ (o : Outcome). o.used) (over_used layers 0 0 said)

-- a stack after an outcome, with these bytes unread
abbrev after_of : Outcome → Stocked → List ℕ → Stocked
after_of o s u = record s { held = broken_by o.said (record s.held { layers = o.layers; unread = u }) }

-- giving the message that was joined is what a receive does
pub reads_given : (limit : ℕ) (before now : Stocked) → IsStanding before.held.layers → is_met before.held.layers ≡ false → StackMessage limit before now → ((read_message before.held.layers before.held.unread before.held.receiving.done limit).said ≡ (joined_given now.held).said) × (after (read_message before.held.layers before.held.unread before.held.receiving.done limit) before ≡ after (joined_given now.held) now)
reads_given limit before now k m c =
    let r = reads_message limit before now k m c in
    let o : Outcome = joined_given now.held in
    let z : o.used ≡ 0 = none_used (emptied_layers now.held.layers) (Given (Bytes (joined_in now.held.layers))) in (
      ap (λ (x : Outcome). x.said) r,
      ap (λ (x : Outcome). after x before) r
          ∙ ap {A = List ℕ} (λ u. after_of o before u) (ap (λ n. drop n (drop c.used before.held.unread)) (sym z))
          ∙ ap {A = Stocked} (λ s. after_of o s (drop o.used s.held.unread)) (sym c.now_is),
    )

-- no ping was passed
pub reads_pings : (limit : ℕ) (before now : Stocked) (r : Seen) → IsStanding before.held.layers → is_met before.held.layers ≡ false → StackSees limit r before now → (read_message before.held.layers before.held.unread before.held.receiving.done limit).pings ≡ []
reads_pings limit before now seen.Message k m c = ap (λ (o : Outcome). o.pings) (over_ws before.held.layers before.held.unread before.held.receiving.done limit c.ws (emptied c.ws) c.used (Given (Bytes c.all)) k m c.there c.reads) ∙ over_pings (with_ws (emptied c.ws) before.held.layers) c.used (Given (Bytes c.all))
reads_pings limit before now seen.Close k m c = ap (λ (o : Outcome). o.pings) (reads_close limit before now k m c)
reads_pings limit before now (seen.Open b) k m c = ap (λ (o : Outcome). o.pings) (reads_open limit b before now k m c)
reads_pings limit before now (seen.Refused e) k m c = ap (λ (o : Outcome). o.pings) (reads_refused limit e before now k m c)

-- ---- the fields of a stack that has joined a message

pub joined_in_tower : (ts : List TermLayer) (b : Base) → joined_in (tower ts (base_layers b)) ≡ joined_bytes b
joined_in_tower ts b = ap joined_by (ws_tower ts (base_layers b)) ∙ on_link b
  where
    on_link : (b : Base) → joined_by (ws_of (base_layers b)) ≡ joined_bytes b
    on_link base.Bytes = refl
    on_link (base.Prefix form) = refl
    on_link (base.Suffix end) = refl
    on_link (base.Http http) = refl
    on_link (base.Ws framed) = refl

pub emptied_tower : (ts : List TermLayer) (b : Base) → emptied_layers (tower ts (base_layers b)) ≡ tower ts (base_layers (emptied_base b))
emptied_tower ts b = ap (λ o. emptied_by o (tower ts (base_layers b))) (ws_tower ts (base_layers b)) ∙ on_link b
  where
    on_link : (b : Base) → emptied_by (ws_of (base_layers b)) (tower ts (base_layers b)) ≡ tower ts (base_layers (emptied_base b))
    on_link base.Bytes = refl
    on_link (base.Prefix form) = refl
    on_link (base.Suffix end) = refl
    on_link (base.Http http) = refl
    on_link (base.Ws framed) = with_tower (emptied (ws_layer framed)) ts (Ws (ws_layer framed) ∷ [])

pub emptied_stands : (ts : List TermLayer) (b : Base) (n : ℕ) → IsTower ts b n → IsTower ts (emptied_base b) n
emptied_stands ts base.Bytes n i = i
emptied_stands ts (base.Prefix form) n i = i
emptied_stands ts (base.Suffix end) n i = i
emptied_stands ts (base.Http http) n i = i
emptied_stands ts (base.Ws framed) n i = record { fits = i.fits; based = tt; ends = ends_same ts (ws_layer framed) (emptied (ws_layer framed)) refl refl i.ends; room = i.room }

pub emptied_joins : (n : ℕ) (b : Base) → JoinsWithin n b → JoinsWithin n (emptied_base b)
emptied_joins n base.Bytes j = j
emptied_joins n (base.Prefix form) j = j
emptied_joins n (base.Suffix end) j = j
emptied_joins n (base.Http http) j = j
emptied_joins n (base.Ws framed) j = j

given_tower : (ts : List TermLayer) (b : Base) (s : Held) → s.layers ≡ tower ts (base_layers b) → joined_given s ≡ over_layers (tower ts (base_layers (emptied_base b))) (outcome 0 [] (Given (Bytes (joined_bytes b))))
given_tower ts b s e =
    ap (λ l. over_layers (emptied_layers l) (outcome 0 [] (Given (Bytes (joined_in l))))) e
    ∙ ap (λ l. over_layers l (outcome 0 [] (Given (Bytes (joined_in (tower ts (base_layers b))))))) (emptied_tower ts b)
    ∙ ap (λ m. over_layers (tower ts (base_layers (emptied_base b))) (outcome 0 [] (Given (Bytes m)))) (joined_in_tower ts b)

pub given_end : (ts : List TermLayer) (b : Base) (s : Held) (at : ℕ) → s.layers ≡ tower ts (base_layers b) → Some at ≡ lowest ts (joined_bytes b) → joined_given s ≡ outcome 0 (tower (meet at ts) (base_layers (emptied_base b))) (Fault Epipe)
given_end ts b s at e l = given_tower ts b s e ∙ takes_end ts (emptied_base b) 0 at (joined_bytes b) l

pub given_all : (ts : List TermLayer) (b : Base) (s : Held) → s.layers ≡ tower ts (base_layers b) → None ≡ lowest ts (joined_bytes b) → joined_given s ≡ outcome 0 (tower ts (base_layers (emptied_base b))) (Given (Bytes (joined_bytes b)))
given_all ts b s e l = given_tower ts b s e ∙ takes_none ts (emptied_base b) 0 (joined_bytes b) l

-- a stack without a WebSocket layer, or with one
pub frames_there : (ts : List TermLayer) (b : Base) → is_frames_top (base_layers b) ≡ is_some (ws_of (tower ts (base_layers b)))
frames_there ts b = on_link b ∙ ap is_some (sym (ws_tower ts (base_layers b)))
  where
    on_link : (b : Base) → is_frames_top (base_layers b) ≡ is_some (ws_of (base_layers b))
    on_link base.Bytes = refl
    on_link (base.Prefix form) = refl
    on_link (base.Suffix end) = refl
    on_link (base.Http http) = refl
    on_link (base.Ws framed) = refl

pub none_there : (o : Option WsLayer) → is_some o ≡ false → o ≡ None
none_there None e = refl
none_there (Some ws) e = cc

-- Where an end was met, every read is refused.
pub met_message : (layers : List Placed) (u : List ℕ) (ended : Bool) (limit : ℕ) → IsStanding layers → is_some (ws_of layers) ≡ true → is_met layers ≡ true → read_message layers u ended limit ≡ outcome 0 layers (Fault Epipe)
met_message [] u ended limit k w m = cc
met_message (Prefix form ∷ below) u ended limit k w m = absurd (none below k w)
  where
    none : (below : List Placed) → below ≡ [] → is_some (ws_of below) ≡ true → ⊥
    none [] k e = cc
    none (y ∷ below) k e = cc
met_message (Suffix end ∷ below) u ended limit k w m = absurd (none below k w)
  where
    none : (below : List Placed) → below ≡ [] → is_some (ws_of below) ≡ true → ⊥
    none [] k e = cc
    none (y ∷ below) k e = cc
met_message (Http http ∷ below) u ended limit k w m = absurd (none below k w)
  where
    none : (below : List Placed) → below ≡ [] → is_some (ws_of below) ≡ true → ⊥
    none [] k e = cc
    none (y ∷ below) k e = cc
met_message (Term t ∷ below) u ended limit k w m = at t.met m (met_message below u ended limit k.1 w)
  where
    at : (b : Bool) → (b || is_met below) ≡ true → (is_met below ≡ true → read_message below u ended limit ≡ outcome 0 below (Fault Epipe)) → (if b then outcome 0 (Term t ∷ below) (Fault Epipe) else over_term t (read_message below u ended limit)) ≡ outcome 0 (Term t ∷ below) (Fault Epipe)
    at true n f = refl
    at false n f = ap (over_term t) (f n)
met_message (Ws ws ∷ below) u ended limit k w m = by below k m
  where
    by : (below : List Placed) → below ≡ [] → (ws.met || is_met below) ≡ true → read_ws below ws u ended limit ≡ outcome 0 (Ws ws ∷ below) (Fault Epipe)
    by [] k n = pick ws.met _ _ (bare ws.met n)
      where
        pick : (b : Bool) (x y : Outcome) → b ≡ true → (if b then x else y) ≡ x
        pick true x y e = refl
        pick false x y e = cc

        bare : (b : Bool) → (b || false) ≡ true → b ≡ true
        bare true e = refl
        bare false e = e
    by (y ∷ below) k n = cc

pub list_is : (limit : ℕ) (s : Held) → read_of (Message limit) s ≡ read_message s.layers s.unread s.receiving.done limit
unfolding read_list
list_is limit s = refl

-- ---- where the top has no messages

pub bytes_message : (layers : List Placed) (u : List ℕ) (ended : Bool) (limit : ℕ) → top_of layers ≡ top.Bytes → read_message layers u ended limit ≡ outcome 0 layers Need
bytes_message [] u ended limit e = refl
bytes_message (Prefix form ∷ below) u ended limit e = cc
bytes_message (Suffix end ∷ below) u ended limit e = cc
bytes_message (Term t ∷ below) u ended limit e = cc
bytes_message (Http http ∷ below) u ended limit e = cc
bytes_message (Ws ws ∷ below) u ended limit e = cc

pub head_message : (layers : List Placed) (u : List ℕ) (ended : Bool) (limit : ℕ) → top_of layers ≡ top.Http → read_message layers u ended limit ≡ outcome 0 layers Need
head_message [] u ended limit e = cc
head_message (Prefix form ∷ below) u ended limit e = cc
head_message (Suffix end ∷ below) u ended limit e = cc
head_message (Term t ∷ below) u ended limit e = cc
head_message (Http http ∷ below) u ended limit e = refl
head_message (Ws ws ∷ below) u ended limit e = cc

pub tops_message : (layers : List Placed) → (top_of layers ≡ top.Bytes → ⊥) → (top_of layers ≡ top.Http → ⊥) → HasMessages layers
tops_message [] b h = b refl
tops_message (Prefix form ∷ below) b h = tt
tops_message (Suffix end ∷ below) b h = tt
tops_message (Term t ∷ below) b h = tt
tops_message (Http http ∷ below) b h = h refl
tops_message (Ws ws ∷ below) b h = tt
