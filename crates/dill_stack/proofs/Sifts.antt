-- What a detach drops over a WebSocket layer that passes nothing.
use Rattle.std.proofs.Common.{◌≡◌, ◌≤◌, ◌∷◌, ◌∙◌, ◌&&◌, ◌||◌, [], sym, ap, refl, subst, arith, ℕ, zero, suc, List, Bool, true, false, length, drop, Option, Some, None, if◌then◌else◌}
use Rattle.std.specs.Prelude.{◌==◌, is_some, IfSome}
use Rattle.dill_stack.specs.declared.want.Want.TheVariants.{Message}
use Rattle.std.specs.List.{list_any}
use Rattle.dill_stack.specs.declared.layer.Top.TheVariants as top
use Rattle.dill_base.specs.declared.errno.Errno.{Errno}
use Rattle.dill_base.specs.declared.errno.Errno.TheVariants.{Epipe, Eproto}
use Rattle.dill_calls.specs.declared.answer.Answer.TheVariants.{Bytes, Number}
use Rattle.dill_stack.specs.declared.placed.Base.{Base}
use Rattle.dill_stack.specs.declared.placed.Base.TheVariants as base
use Rattle.dill_stack.specs.declared.want.ReadOut.{ReadOut}
use Rattle.dill_stack.specs.declared.want.ReadOut.TheVariants.{Given, Need, Fault}
use Rattle.dill_stack.specs.Layers.{TermLayer, WsLayer, Placed, Prefix, Suffix, Term, Http, Ws, IsStanding, top_of}
use Rattle.dill_stack.specs.Held.{Held}
use Rattle.dill_stack.specs.Rooms.{Stocked}
use Rattle.dill_stack.specs.Read.{Outcome, outcome, no_more, is_terminal, read_ws}
use Rattle.dill_stack.specs.Receiving.{ws_of}
use Rattle.dill_stack.specs.Refusals.{is_met, is_met_layer}
use Rattle.dill_stack.specs.Dropping.{Dropped, Item, End, Stops, drop_limit, is_given, left_with, drop_message, drop_frames, drop_one}
use Rattle.dill_stack.specs.Leaving.{below_layers, below_top, is_top_met, top_met, drop_over, joined_dropped, close_dropped, next_dropped, outcome_of, step_of, terms_at, used_in}
use Rattle.dill_stack.specs.Seeing.{emptied, emptied_by, emptied_layers, joined_by, joined_in, StackMessage, StackClose, StackOpen}
use Rattle.dill_stack.specs.Standing.{tower, base_layers, emptied_base, joined_bytes}
use Rattle.dill_stack.specs.Stepping.{with_ws}
use Rattle.dill_stack.specs.Taking.{behind, over_layers, lowest}
use Rattle.dill_stack.proofs.Drops.{sifted_as, sifts}
use Rattle.dill_stack.proofs.Seers.{emptied_tower, joined_in_tower, joined_there, over_ws, over_used, over_fault, over_more, with_same, with_twice, met_message}
use Rattle.dill_stack.proofs.StepReads.{ws_with}
use Rattle.dill_stack.proofs.TowerReads.{ws_tower}

or_none : (a b : Bool) → (a || b) ≡ false → (a ≡ false) × (b ≡ false)
or_none true b e = cc
or_none false b e = (refl, e)

pick_no : (b : Bool) (x y : Dropped) → b ≡ false → (if b then x else y) ≡ y
pick_no true x y e = cc
pick_no false x y e = refl

pick_yes : (b : Bool) (x y : Dropped) → b ≡ true → (if b then x else y) ≡ x
pick_yes true x y e = refl
pick_yes false x y e = cc

-- a framing, or a head, stands on the link alone
bare_ws : {A : Type 0} (below : List Placed) → below ≡ [] → is_some (ws_of below) ≡ true → A
bare_ws [] k e = absurd (never e)
  where
    never : false ≡ true → ⊥
    never e = cc
bare_ws (y ∷ below) k e = cc

-- the end of the top was met before
pub drops_top_met : (layers : List Placed) (u : List ℕ) (ended : Bool) → IsStanding layers → is_some (ws_of layers) ≡ true → top_met layers ≡ true → drop_one layers u ended ≡ End (outcome 0 (below_layers layers) (Given (Number 0)))
drops_top_met [] u ended k w m = cc
drops_top_met (Prefix form ∷ below) u ended k w m = bare_ws below k w
drops_top_met (Suffix end ∷ below) u ended k w m = bare_ws below k w
drops_top_met (Http http ∷ below) u ended k w m = bare_ws below k w
drops_top_met (Term t ∷ below) u ended k w m = pick_yes t.met _ _ m
drops_top_met (Ws ws ∷ below) u ended k w m = pick_yes ws.met _ _ m

-- an end below was met before
pub drops_below_met : (layers : List Placed) (u : List ℕ) (ended : Bool) → IsStanding layers → is_some (ws_of layers) ≡ true → top_met layers ≡ false → is_met layers ≡ true → drop_one layers u ended ≡ Stops (outcome 0 layers (Fault Epipe))
drops_below_met [] u ended k w n m = cc
drops_below_met (Prefix form ∷ below) u ended k w n m = bare_ws below k w
drops_below_met (Suffix end ∷ below) u ended k w n m = bare_ws below k w
drops_below_met (Http http ∷ below) u ended k w n m = bare_ws below k w
drops_below_met (Term t ∷ below) u ended k w n m =
    let b : is_met below ≡ true = behind t.met (is_met below) n m in
    pick_no t.met _ _ n ∙ ap (drop_message t) (met_message below u ended drop_limit k.1 w b)
  where
    behind : (a b : Bool) → a ≡ false → (a || b) ≡ true → b ≡ true
    behind true b e f = cc
    behind false b e f = f
drops_below_met (Ws ws ∷ below) u ended k w n m = bare below k m
  where
    behind : (a b : Bool) → a ≡ false → (a || b) ≡ true → b ≡ true
    behind true b e f = cc
    behind false b e f = f

    bare : (below : List Placed) → below ≡ [] → (ws.met || is_met below) ≡ true → drop_one (Ws ws ∷ below) u ended ≡ Stops (outcome 0 (Ws ws ∷ below) (Fault Epipe))
    bare [] k f = absurd (never (behind ws.met false n f))
      where
        never : false ≡ true → ⊥
        never e = cc
    bare (y ∷ below) k f = cc

-- nothing is there, or it is refused
pub drops_stop : (layers : List Placed) (u : List ℕ) (ended : Bool) (ws : WsLayer) (said : ReadOut) → IsStanding layers → is_met layers ≡ false → ws_of layers ≡ Some ws → is_given said ≡ false → read_ws [] ws u ended 16384 ≡ outcome 0 (Ws ws ∷ []) said → ((below : List Placed) → over_layers below (outcome 0 [] said) ≡ outcome 0 below said) → drop_one layers u ended ≡ Stops (outcome 0 layers said)
drops_stop [] u ended ws said k m e g r o = cc
drops_stop (Prefix form ∷ below) u ended ws said k m e g r o = bare_ws below k (ap is_some e)
drops_stop (Suffix end ∷ below) u ended ws said k m e g r o = bare_ws below k (ap is_some e)
drops_stop (Http http ∷ below) u ended ws said k m e g r o = bare_ws below k (ap is_some e)
drops_stop (Term t ∷ below) u ended ws said k m e g r o =
    let n = or_none t.met (is_met below) m in
    pick_no t.met _ _ n.0
    ∙ ap (drop_message t) (over_ws below u ended 16384 ws ws 0 said k.1 n.1 e r ∙ o (with_ws ws below) ∙ ap (λ l. outcome 0 l said) (with_same below ws e))
    ∙ stops t below said g
  where
    stops : (t : TermLayer) (below : List Placed) (said : ReadOut) → is_given said ≡ false → drop_message t (outcome 0 below said) ≡ Stops (outcome 0 (Term t ∷ below) said)
    stops t below (Given a) g = cc
    stops t below Need g = refl
    stops t below (Fault f) g = refl
drops_stop (Ws w ∷ below) u ended ws said k m e g r o =
    let n = or_none w.met (is_met below) m in
    let same : w ≡ ws = cc in
    pick_no w.met _ _ n.0 ∙ bare below k same
  where
    stops : (b : Bool) (said : ReadOut) → b ≡ false → is_given said ≡ false → (if b then End (left_with [] (outcome 0 (Ws w ∷ []) said)) else if is_given said then Item (outcome 0 (Ws w ∷ []) said) else Stops (outcome 0 (Ws w ∷ []) said)) ≡ Stops (outcome 0 (Ws w ∷ []) said)
    stops true said e g = cc
    stops false (Given a) e g = cc
    stops false Need e g = refl
    stops false (Fault f) e g = refl

    bare : (below : List Placed) → below ≡ [] → w ≡ ws → drop_frames below (read_ws below w u ended 16384) ≡ Stops (outcome 0 (Ws w ∷ below) said)
    bare [] k s = ap (drop_frames []) (subst (λ (x : WsLayer). read_ws [] x u ended 16384 ≡ outcome 0 (Ws x ∷ []) said) (sym s) r) ∙ stops w.met said (or_none w.met _ m).0 g
    bare (y ∷ below) k s = cc

-- a close frame
pub drops_close : (layers : List Placed) (u : List ℕ) (ended : Bool) (ws : WsLayer) (used : ℕ) → IsStanding layers → is_met layers ≡ false → ws_of layers ≡ Some ws → read_ws [] ws u ended 16384 ≡ outcome used (Ws (record ws { met = true }) ∷ []) (Fault Epipe) → drop_one layers u ended ≡ used_in used (close_dropped (with_ws (record ws { met = true }) layers))
drops_close [] u ended ws used k m e r = cc
drops_close (Prefix form ∷ below) u ended ws used k m e r = bare_ws below k (ap is_some e)
drops_close (Suffix end ∷ below) u ended ws used k m e r = bare_ws below k (ap is_some e)
drops_close (Http http ∷ below) u ended ws used k m e r = bare_ws below k (ap is_some e)
drops_close (Term t ∷ below) u ended ws used k m e r =
    let n = or_none t.met (is_met below) m in
    pick_no t.met _ _ n.0
    ∙ ap (drop_message t) (over_ws below u ended 16384 ws (record ws { met = true }) used (Fault Epipe) k.1 n.1 e r ∙ over_fault (with_ws (record ws { met = true }) below) used Epipe)
drops_close (Ws w ∷ below) u ended ws used k m e r =
    let n = or_none w.met (is_met below) m in
    let same : w ≡ ws = cc in
    pick_no w.met _ _ n.0 ∙ bare below k same
  where
    bare : (below : List Placed) → below ≡ [] → w ≡ ws → drop_frames below (read_ws below w u ended 16384) ≡ End (outcome used below (Given (Number 0)))
    bare [] k s = ap (drop_frames []) (ap (λ (x : WsLayer). read_ws [] x u ended 16384) s ∙ r)
    bare (y ∷ below) k s = cc

-- a message
pub drops_message : (layers : List Placed) (u : List ℕ) (ended : Bool) (ws : WsLayer) (used : ℕ) (all : List ℕ) → IsStanding layers → is_met layers ≡ false → ws_of layers ≡ Some ws → read_ws [] ws u ended 16384 ≡ outcome used (Ws (emptied ws) ∷ []) (Given (Bytes all)) → drop_one layers u ended ≡ used_in used (drop_over (with_ws (emptied ws) layers) all)
drops_message [] u ended ws used all k m e r = cc
drops_message (Prefix form ∷ below) u ended ws used all k m e r = bare_ws below k (ap is_some e)
drops_message (Suffix end ∷ below) u ended ws used all k m e r = bare_ws below k (ap is_some e)
drops_message (Http http ∷ below) u ended ws used all k m e r = bare_ws below k (ap is_some e)
drops_message (Term t ∷ below) u ended ws used all k m e r =
    let n = or_none t.met (is_met below) m in
    pick_no t.met _ _ n.0
    ∙ ap (drop_message t) (over_ws below u ended 16384 ws (emptied ws) used (Given (Bytes all)) k.1 n.1 e r ∙ over_used (with_ws (emptied ws) below) 0 used (Given (Bytes all)))
    ∙ message_used t (over_layers (with_ws (emptied ws) below) (outcome 0 [] (Given (Bytes all)))) used
  where
    message_used : (t : TermLayer) (o : Outcome) (used : ℕ) → drop_message t (record o { used = used }) ≡ used_in used (drop_message t o)
    message_used t o used = at (is_terminal t o.said) (is_given o.said)
      where
        at : (a b : Bool) → (if a then End (left_with o.layers (record o { used = used })) else if b then Item (record o { used = used; layers = Term t ∷ o.layers }) else Stops (record o { used = used; layers = Term t ∷ o.layers })) ≡ used_in used (if a then End (left_with o.layers o) else if b then Item (record o { layers = Term t ∷ o.layers }) else Stops (record o { layers = Term t ∷ o.layers }))
        at true b = refl
        at false true = refl
        at false false = refl
drops_message (Ws w ∷ below) u ended ws used all k m e r =
    let n = or_none w.met (is_met below) m in
    let same : w ≡ ws = cc in
    pick_no w.met _ _ n.0 ∙ bare below k same
  where
    gives : (b : Bool) → b ≡ false → (if b then End (left_with [] (outcome used (Ws (emptied ws) ∷ []) (Given (Bytes all)))) else Item (outcome used (Ws (emptied ws) ∷ []) (Given (Bytes all)))) ≡ Item (outcome used (Ws (emptied ws) ∷ []) (Given (Bytes all)))
    gives true e = cc
    gives false e = refl

    bare : (below : List Placed) → below ≡ [] → w ≡ ws → drop_frames below (read_ws below w u ended 16384) ≡ Item (outcome used (Ws (emptied ws) ∷ below) (Given (Bytes all)))
    bare [] k s = ap (drop_frames []) (ap (λ (x : WsLayer). read_ws [] x u ended 16384) s ∙ r) ∙ gives ws.met (ap (λ (x : WsLayer). x.met) (sym s) ∙ (or_none w.met _ m).0)
    bare (y ∷ below) k s = cc

-- ---- a stack behind an item

abbrev pub behind_item : Dropped → Stocked → Stocked
behind_item d s = record s { held = behind (outcome_of d) s.held }

pub step_used : (n : ℕ) (d : Dropped) → step_of (used_in n d) ≡ step_of d
step_used n (Item o) = refl
step_used n (End o) = refl
step_used n (Stops o) = refl

of_item : (o : Outcome) (n : ℕ) (s : Stocked) (l : List Placed) → o.used ≡ 0 → (let mid : Stocked = record s { held = record s.held { layers = l; unread = drop n s.held.unread } } in record mid { held = behind o mid.held }) ≡ record s { held = record s.held { layers = o.layers; unread = drop n s.held.unread } }
of_item o n s l z = ap {A = ℕ} (λ k. record s { held = record s.held { layers = o.layers; unread = drop k (drop n s.held.unread) } }) z

pub item_used : (d : Dropped) (n : ℕ) (s mid : Stocked) (l : List Placed) → (outcome_of d).used ≡ 0 → mid ≡ record s { held = record s.held { layers = l; unread = drop n s.held.unread } } → behind_item d mid ≡ behind_item (used_in n d) s
item_used (Item o) n s mid l z e = ap {A = Stocked} (behind_item (Item o)) e ∙ of_item o n s l z
item_used (End o) n s mid l z e = ap {A = Stocked} (behind_item (End o)) e ∙ of_item o n s l z
item_used (Stops o) n s mid l z e = ap {A = Stocked} (behind_item (Stops o)) e ∙ of_item o n s l z

pub close_used : (layers : List Placed) → (outcome_of (close_dropped layers)).used ≡ 0
close_used [] = refl
close_used (Prefix form ∷ below) = refl
close_used (Suffix end ∷ below) = refl
close_used (Term t ∷ below) = refl
close_used (Http http ∷ below) = refl
close_used (Ws ws ∷ below) = refl

-- ---- ends by terminal messages over the layer on the link

pub drop_over_tower : (ts : List TermLayer) (b : Base) (m : List ℕ) → drop_over (tower ts (base_layers b)) m ≡ sifted_as ts 0 (base_layers b) m (lowest ts m)
drop_over_tower [] base.Bytes m = refl
drop_over_tower [] (base.Prefix form) m = refl
drop_over_tower [] (base.Suffix end) m = refl
drop_over_tower [] (base.Http http) m = refl
drop_over_tower [] (base.Ws framed) m = refl
drop_over_tower (t ∷ ts) b m = sifts (t ∷ ts) b 0 m (omega arith)

pub joined_tower : (ts : List TermLayer) (b : Base) (s : Held) (o : Option ℕ) → s.layers ≡ tower ts (base_layers b) → o ≡ lowest ts (joined_bytes b) → joined_dropped s ≡ sifted_as ts 0 (base_layers (emptied_base b)) (joined_bytes b) o
joined_tower ts b s o e l =
    ap (λ x. drop_over (emptied_layers x) (joined_in x)) e
    ∙ ap (λ x. drop_over x (joined_in (tower ts (base_layers b)))) (emptied_tower ts b)
    ∙ ap (drop_over (tower ts (base_layers (emptied_base b)))) (joined_in_tower ts b)
    ∙ drop_over_tower ts (emptied_base b) (joined_bytes b)
    ∙ ap (sifted_as ts 0 (base_layers (emptied_base b)) (joined_bytes b)) (sym l)

over_used_zero : (layers : List Placed) (said : ReadOut) → (over_layers layers (outcome 0 [] said)).used ≡ 0
over_used_zero layers said = ap (λ (o : Outcome). o.used) (over_used layers 0 0 said)

pub message_used : (layers : List Placed) (m : List ℕ) → (outcome_of (drop_over layers m)).used ≡ 0
message_used [] m = refl
message_used (Prefix form ∷ below) m = refl
message_used (Suffix end ∷ below) m = refl
message_used (Http http ∷ below) m = refl
message_used (Ws ws ∷ below) m = refl
message_used (Term t ∷ below) m = at (is_terminal t o.said) (is_given o.said)
  where
    o : Outcome
    o = over_layers below (outcome 0 [] (Given (Bytes m)))

    at : (a b : Bool) → (outcome_of (if a then End (left_with o.layers o) else if b then Item (record o { layers = Term t ∷ o.layers }) else Stops (record o { layers = Term t ∷ o.layers }))).used ≡ 0
    at true b = over_used_zero below (Given (Bytes m))
    at false true = over_used_zero below (Given (Bytes m))
    at false false = over_used_zero below (Given (Bytes m))

-- the message that was joined, as it is dropped
pub joined_is : (before mid : Stocked) (c : StackMessage 16384 before mid) → joined_dropped mid.held ≡ drop_over (with_ws (emptied c.ws) before.held.layers) c.all
joined_is before mid c =
    let w : ws_of mid.held.layers ≡ Some (record c.ws { joined = c.all }) = joined_there 16384 before mid c in
    ap (λ o. drop_over (emptied_by o mid.held.layers) (joined_by o)) w
    ∙ ap {A = Stocked} (λ s. drop_over (with_ws (emptied c.ws) s.held.layers) c.all) c.now_is
    ∙ ap (λ l. drop_over l c.all) (with_twice (record c.ws { joined = c.all }) (emptied c.ws) before.held.layers)

-- what was done with it is what a detach does
pub message_drops : (before mid : Stocked) → IsStanding before.held.layers → is_met before.held.layers ≡ false → (c : StackMessage 16384 before mid) → (step_of (joined_dropped mid.held) ≡ step_of (next_dropped before.held)) × (record mid { held = behind (outcome_of (joined_dropped mid.held)) mid.held } ≡ behind_item (next_dropped before.held) before)
message_drops before mid k m c =
    let d : Dropped = drop_over (with_ws (emptied c.ws) before.held.layers) c.all in
    let j : joined_dropped mid.held ≡ d = joined_is before mid c in
    let n : next_dropped before.held ≡ used_in c.used d = drops_message before.held.layers before.held.unread before.held.receiving.done c.ws c.used c.all k m c.there c.reads in (
      ap step_of j ∙ sym (step_used c.used d) ∙ ap step_of (sym n),
      ap (λ x. record mid { held = behind (outcome_of x) mid.held }) j
          ∙ item_used d c.used before mid _ (message_used (with_ws (emptied c.ws) before.held.layers) c.all) c.now_is
          ∙ ap (λ x. behind_item x before) (sym n),
    )

pub close_there : (before mid : Stocked) (c : StackClose 16384 before mid) → is_some (ws_of mid.held.layers) ≡ true
close_there before mid c = ap is_some (ap {A = Stocked} (λ s. ws_of s.held.layers) c.now_is ∙ ws_with (record c.ws { met = true }) before.held.layers c.ws c.there)

pub close_drops : (before mid : Stocked) → IsStanding before.held.layers → is_met before.held.layers ≡ false → (c : StackClose 16384 before mid) → (step_of (close_dropped mid.held.layers) ≡ step_of (next_dropped before.held)) × (behind_item (close_dropped mid.held.layers) mid ≡ behind_item (next_dropped before.held) before)
close_drops before mid k m c =
    let l : mid.held.layers ≡ with_ws (record c.ws { met = true }) before.held.layers = ap {A = Stocked} (λ s. s.held.layers) c.now_is in
    let d : Dropped = close_dropped (with_ws (record c.ws { met = true }) before.held.layers) in
    let n : next_dropped before.held ≡ used_in c.used d = drops_close before.held.layers before.held.unread before.held.receiving.done c.ws c.used k m c.there c.reads in (
      ap (λ x. step_of (close_dropped x)) l ∙ sym (step_used c.used d) ∙ ap step_of (sym n),
      ap (λ x. behind_item (close_dropped x) mid) l
          ∙ item_used d c.used before mid _ (close_used (with_ws (record c.ws { met = true }) before.held.layers)) c.now_is
          ∙ ap (λ x. behind_item x before) (sym n),
    )

pub more_given : (ended boundary : Bool) (u : List ℕ) → is_given (no_more ended boundary u) ≡ false
more_given false boundary u = refl
more_given true boundary u = at (boundary && length u == 0)
  where
    at : (b : Bool) → is_given (if b then Fault Epipe else Fault Eproto) ≡ false
    at true = refl
    at false = refl

pub open_drops : (boundary : Bool) (before mid : Stocked) → IsStanding before.held.layers → is_met before.held.layers ≡ false → StackOpen 16384 (no_more before.held.receiving.done boundary before.held.unread) before mid → next_dropped before.held ≡ Stops (outcome 0 before.held.layers (no_more before.held.receiving.done boundary before.held.unread))
open_drops boundary before mid k m c = drops_stop before.held.layers before.held.unread before.held.receiving.done c.ws _ k m c.there (more_given before.held.receiving.done boundary before.held.unread) c.reads (λ below. over_more below before.held.receiving.done boundary before.held.unread)

pub refused_drops : (e : Errno) (before mid : Stocked) → IsStanding before.held.layers → is_met before.held.layers ≡ false → StackOpen 16384 (Fault e) before mid → next_dropped before.held ≡ Stops (outcome 0 before.held.layers (Fault e))
refused_drops e before mid k m c = drops_stop before.held.layers before.held.unread before.held.receiving.done c.ws (Fault e) k m c.there refl c.reads (λ below. over_fault below 0 e)

-- ---- the top layer

or_false_same : (b : Bool) → (b || false) ≡ b
or_false_same true = refl
or_false_same false = refl

pub top_met_link : (b : Base) → list_any is_met_layer (base_layers b) ≡ top_met (base_layers b)
top_met_link base.Bytes = refl
top_met_link (base.Prefix form) = refl
top_met_link (base.Suffix end) = refl
top_met_link (base.Http http) = or_false_same _
top_met_link (base.Ws framed) = or_false_same framed.met

pub top_met_end : (ts : List TermLayer) (below : List Placed) → 1 ≤ length ts → is_top_met ts ≡ top_met (tower ts below)
top_met_end [] below l = absurd (omega (arith, l))
top_met_end (t ∷ ts) below l = refl

pub left_link : (b : Base) → below_layers (base_layers b) ≡ []
left_link base.Bytes = refl
left_link (base.Prefix form) = refl
left_link (base.Suffix end) = refl
left_link (base.Http http) = refl
left_link (base.Ws framed) = refl

pub left_end : (ts : List TermLayer) (below : List Placed) → 1 ≤ length ts → tower (below_top ts) below ≡ below_layers (tower ts below)
left_end [] below l = absurd (omega (arith, l))
left_end (t ∷ ts) below l = refl

pub left_end_ws : (ts : List TermLayer) (below : List Placed) → is_some (ws_of (tower ts below)) ≡ true → is_some (ws_of (tower (below_top ts) below)) ≡ true
left_end_ws ts below e = ap is_some (ws_tower (below_top ts) below ∙ sym (ws_tower ts below)) ∙ e

pub close_end : (layers : List Placed) → top_of layers ≡ top.Term → close_dropped layers ≡ Stops (outcome 0 layers (Fault Epipe))
close_end [] e = cc
close_end (Prefix form ∷ below) e = cc
close_end (Suffix end ∷ below) e = cc
close_end (Term t ∷ below) e = refl
close_end (Http http ∷ below) e = cc
close_end (Ws ws ∷ below) e = cc

pub close_top : (layers : List Placed) → (top_of layers ≡ top.Term → ⊥) → close_dropped layers ≡ End (outcome 0 (below_layers layers) (Given (Number 0)))
close_top [] e = refl
close_top (Prefix form ∷ below) e = refl
close_top (Suffix end ∷ below) e = refl
close_top (Term t ∷ below) e = absurd (e refl)
close_top (Http http ∷ below) e = refl
close_top (Ws ws ∷ below) e = refl

pub held_of_joined : (ts : List TermLayer) (below : List Placed) (m : List ℕ) (at : ℕ) (s : Stocked) → record s { held = record s.held { layers = tower (terms_at at ts) below } } ≡ record s { held = behind (outcome_of (sifted_as ts 0 below m (Some at))) s.held }
held_of_joined ts below m zero s = refl
held_of_joined ts below m (suc n) s = refl
