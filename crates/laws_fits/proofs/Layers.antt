-- What an attach was given of each layer. All that a stack does but attaching and leaving keeps it, and by it layers stand, are formed and fit what is asked.
use Rattle.std.proofs.Common.{◌≡◌, ◌∙◌, ◌⊎◌, inl, inr, ℕ, zero, suc, ◌-◌, List, [], ◌∷◌, length, drop, take, Bool, true, false, not, ◌==◌, ◌&&◌, Option, Some, None, if◌then◌else◌, refl, sym, ap, subst}
use Rattle.std.specs.Prelude.{◌++◌, bytes_eq, nat_lt, is_some, Result, Ok, Err}
use Rattle.std.specs.Option.{unwrap_or}
use Rattle.std.specs.Str.{is_utf8}
use Rattle.dill_base.specs.declared.errno.Errno.{Errno}
use Rattle.dill_base.specs.declared.errno.Errno.TheVariants.{Einval, Eproto, Epipe}
use Rattle.dill_base.specs.declared.errno.Front.{Front}
use Rattle.dill_base.specs.declared.errno.Front.TheVariants as front
use Rattle.dill_calls.specs.declared.answer.Answer.{Answer}
use Rattle.dill_calls.specs.declared.answer.Answer.TheVariants.{Bytes, Number}
use Rattle.dill_frames.specs.Prefix.{prefix_front}
use Rattle.dill_frames.specs.Suffix.{suffix_front}
use Rattle.dill_http.specs.Lines.{front_of_line}
use Rattle.dill_ws.specs.Closing.{close_of}
use Rattle.dill_ws.specs.Frames.{Part}
use Rattle.dill_stack.specs.declared.want.Want.{Want}
use Rattle.dill_stack.specs.declared.want.Want.TheVariants as wants
use Rattle.dill_stack.specs.declared.want.ReadOut.TheVariants.{Given, Need, Fault}
use Rattle.dill_stack.specs.Formed.{IsFormed}
use Rattle.dill_stack.specs.declared.origin.Origin.{Origin}
use Rattle.dill_stack.specs.declared.origin.Origin.TheVariants.{Plain, Ending, Line, Pong}
use Rattle.dill_stack.specs.declared.placed.HttpLayer.{HttpLayer}
use Rattle.dill_stack.specs.declared.placed.Place.{Place}
use Rattle.dill_stack.specs.declared.placed.Place.TheVariants.{BeforeFirst, AmongFields, BehindEmpty}
use Rattle.dill_stack.specs.declared.placed.TermLayer.{TermLayer}
use Rattle.dill_stack.specs.Layers.{is_first, is_behind, WsLayer, Placed, Prefix, Suffix, Term, Http, Ws, fresh_ws, HasMessages, IsStanding}
use Rattle.dill_stack.specs.Composed.{and_then, spelled, is_any, is_refused_with, is_refused}
use Rattle.dill_stack.specs.Sending.{at_place, undone, taken_back}
use Rattle.dill_stack.specs.Standing.{fresh_end}
use Rattle.dill_stack.specs.Leaving.{below_layers}
use Rattle.dill_stack.specs.Read.{Outcome, outcome, is_terminal, by_front, read_exact, over_term, behind_passed, read_ws, read_message, ends_fields, line_answer, received, given_line, by_line, read_line, read_list}
use Rattle.dill_stack.specs.Dropping.{Dropped, Item, End, Stops, is_given, left_with, drop_message, has_met, drop_frames, drop_line, drop_one, drop_limit, after_drop, dropped_within, dropped}
use Rattle.dill_stack.specs.Taking.{HasHead, FitsTop}
use Rattle.dill_stack.specs.WsReading.{WsFront, Whole, Short, Refused, is_data, ws_front, Passed, with_part, pass_of, pass_by_front, after_pass, passed_within, passed, Shown, shown_by, shown}

abbrev bare : Placed → Placed
bare (Prefix form) = Prefix form
bare (Suffix end) = Suffix end
bare (Term term) = Term (fresh_end term.terminal)
bare (Http http) = Http (record { sending = BeforeFirst; receiving = BeforeFirst })
bare (Ws ws) = Ws (fresh_ws ws.side ws.text)

-- each layer as it was attached
abbrev pub shape : List Placed → List Placed
shape [] = []
shape (layer ∷ below) = bare layer ∷ shape below

-- ---- what layers are by their shape

then_same : {A B : Type 0} (r : Result A Errno) (f g : A → Result B Errno) → ((a : A) → f a ≡ g a) → and_then r f ≡ and_then r g
then_same (Ok a) f g h = h a
then_same (Err e) f g h = refl

spelled_shape : (key : List ℕ) (layers : List Placed) (m : List ℕ) → spelled key (shape layers) m ≡ spelled key layers m
spelled_shape key [] m = refl
spelled_shape key (Prefix form ∷ below) m = then_same _ (spelled key (shape below)) (spelled key below) (spelled_shape key below)
spelled_shape key (Suffix end ∷ below) m = then_same _ (spelled key (shape below)) (spelled key below) (spelled_shape key below)
spelled_shape key (Term term ∷ below) m = ap (λ r. if bytes_eq m term.terminal then Err Einval else r) (spelled_shape key below m)
spelled_shape key (Http http ∷ below) m = refl
spelled_shape key (Ws ws ∷ below) m = then_same _ (spelled key (shape below)) (spelled key below) (spelled_shape key below)

refused_shape : (layers : List Placed) (m : List ℕ) → is_refused (shape layers) m ≡ is_refused layers m
unfolding is_refused
refused_shape layers m = ap (is_refused_with is_any) (spelled_shape [] layers m)

empty_shape : (layers : List Placed) → shape layers ≡ [] → layers ≡ []
empty_shape [] e = refl
empty_shape (layer ∷ below) e = cc

messages_to : (layers : List Placed) → HasMessages layers → HasMessages (shape layers)
messages_to [] h = h
messages_to (Prefix form ∷ below) h = tt
messages_to (Suffix end ∷ below) h = tt
messages_to (Term term ∷ below) h = tt
messages_to (Http http ∷ below) h = h
messages_to (Ws ws ∷ below) h = tt

messages_from : (layers : List Placed) → HasMessages (shape layers) → HasMessages layers
messages_from [] h = h
messages_from (Prefix form ∷ below) h = tt
messages_from (Suffix end ∷ below) h = tt
messages_from (Term term ∷ below) h = tt
messages_from (Http http ∷ below) h = h
messages_from (Ws ws ∷ below) h = tt

standing_to : (layers : List Placed) → IsStanding layers → IsStanding (shape layers)
standing_to [] s = tt
standing_to (Prefix form ∷ below) s = ap shape s
standing_to (Suffix end ∷ below) s = ap shape s
standing_to (Term term ∷ below) s = (messages_to below s.0, standing_to below s.1)
standing_to (Http http ∷ below) s = ap shape s
standing_to (Ws ws ∷ below) s = ap shape s

standing_from : (layers : List Placed) → IsStanding (shape layers) → IsStanding layers
standing_from [] s = tt
standing_from (Prefix form ∷ below) s = empty_shape below s
standing_from (Suffix end ∷ below) s = empty_shape below s
standing_from (Term term ∷ below) s = (messages_from below s.0, standing_from below s.1)
standing_from (Http http ∷ below) s = empty_shape below s
standing_from (Ws ws ∷ below) s = empty_shape below s

formed_to : (layers : List Placed) → IsFormed layers → IsFormed (shape layers)
formed_to [] f = tt
formed_to (Prefix form ∷ below) f = (f.0, f.1, formed_to below f.2)
formed_to (Suffix end ∷ below) f = (f.0, f.1, formed_to below f.2)
formed_to (Term term ∷ below) f = (f.0, refused_shape below term.terminal ∙ f.1, formed_to below f.2)
formed_to (Http http ∷ below) f = formed_to below f
formed_to (Ws ws ∷ below) f = formed_to below f

formed_from : (layers : List Placed) → IsFormed (shape layers) → IsFormed layers
formed_from [] f = tt
formed_from (Prefix form ∷ below) f = (f.0, f.1, formed_from below f.2)
formed_from (Suffix end ∷ below) f = (f.0, f.1, formed_from below f.2)
formed_from (Term term ∷ below) f = (f.0, sym (refused_shape below term.terminal) ∙ f.1, formed_from below f.2)
formed_from (Http http ∷ below) f = formed_from below f
formed_from (Ws ws ∷ below) f = formed_from below f

head_to : (layers : List Placed) → HasHead layers → HasHead (shape layers)
head_to (Http http ∷ below) h = tt
head_to [] h = h
head_to (Prefix form ∷ below) h = h
head_to (Suffix end ∷ below) h = h
head_to (Term term ∷ below) h = h
head_to (Ws ws ∷ below) h = h

head_from : (layers : List Placed) → HasHead (shape layers) → HasHead layers
head_from (Http http ∷ below) h = tt
head_from [] h = h
head_from (Prefix form ∷ below) h = h
head_from (Suffix end ∷ below) h = h
head_from (Term term ∷ below) h = h
head_from (Ws ws ∷ below) h = h

pub same_standing : (a b : List Placed) → shape b ≡ shape a → IsStanding a → IsStanding b
same_standing a b e s = standing_from b (subst IsStanding (sym e) (standing_to a s))

pub same_formed : (a b : List Placed) → shape b ≡ shape a → IsFormed a → IsFormed b
same_formed a b e f = formed_from b (subst IsFormed (sym e) (formed_to a f))

pub same_top : (want : Want) (a b : List Placed) → shape b ≡ shape a → FitsTop want a → FitsTop want b
same_top (wants.Exact n) a b e f = tt
same_top (wants.Message limit) a b e f = messages_from b (subst HasMessages (sym e) (messages_to a f))
same_top wants.Request a b e f = head_from b (subst HasHead (sym e) (head_to a f))
same_top wants.Status a b e f = head_from b (subst HasHead (sym e) (head_to a f))
same_top wants.Field a b e f = head_from b (subst HasHead (sym e) (head_to a f))

length_shape : (layers : List Placed) → length (shape layers) ≡ length layers
length_shape [] = refl
length_shape (layer ∷ below) = ap suc (length_shape below)

pub same_length : (a b : List Placed) → shape b ≡ shape a → length b ≡ length a
same_length a b e = sym (length_shape b) ∙ ap length e ∙ length_shape a

-- the layers below the top
pub below_standing : (layers : List Placed) → IsStanding layers → IsStanding (below_layers layers)
below_standing [] s = tt
below_standing (Prefix form ∷ below) s = subst IsStanding (sym s) tt
below_standing (Suffix end ∷ below) s = subst IsStanding (sym s) tt
below_standing (Term term ∷ below) s = s.1
below_standing (Http http ∷ below) s = subst IsStanding (sym s) tt
below_standing (Ws ws ∷ below) s = subst IsStanding (sym s) tt

pub below_formed : (layers : List Placed) → IsFormed layers → IsFormed (below_layers layers)
below_formed [] f = tt
below_formed (Prefix form ∷ below) f = f.2
below_formed (Suffix end ∷ below) f = f.2
below_formed (Term term ∷ below) f = f.2
below_formed (Http http ∷ below) f = f
below_formed (Ws ws ∷ below) f = f

below_shape : (layers : List Placed) → shape (below_layers layers) ≡ below_layers (shape layers)
below_shape [] = refl
below_shape (layer ∷ below) = refl

-- ---- what is sent

pub place_shape : (place : Place) (layers : List Placed) → shape (at_place place layers) ≡ shape layers
place_shape place [] = refl
place_shape place (Prefix form ∷ below) = refl
place_shape place (Suffix end ∷ below) = refl
place_shape place (Term term ∷ below) = refl
place_shape place (Http http ∷ below) = refl
place_shape place (Ws ws ∷ below) = refl

undone_shape : (layers : List Placed) → shape (undone layers) ≡ shape layers
undone_shape [] = refl
undone_shape (Prefix form ∷ below) = refl
undone_shape (Suffix end ∷ below) = refl
undone_shape (Term term ∷ below) = refl
undone_shape (Http http ∷ below) = refl
undone_shape (Ws ws ∷ below) = refl

pub back_shape : (origin : Origin) (layers : List Placed) → shape (taken_back origin layers) ≡ shape layers
back_shape Plain layers = refl
back_shape Ending layers = undone_shape layers
back_shape (Line place) layers = place_shape place layers
back_shape Pong layers = refl

-- ---- what is read

front_layers : (layers : List Placed) (u : List ℕ) (ended : Bool) (f : Front) → (by_front layers u ended f).layers ≡ layers
front_layers layers u ended (front.Whole x y z) = refl
front_layers layers u ended front.Need = refl
front_layers layers u ended (front.Fault e) = refl

-- the same side and the same mode
abbrev Alike : WsLayer → WsLayer → Type 0
Alike ws x = ◌≡◌ {A = Placed} (bare (Ws x)) (bare (Ws ws))

abbrev PassAlike : WsLayer → Option Passed → Type 0
PassAlike ws None = Unit {0}
PassAlike ws (Some p) = Alike ws p.ws

pass_alike : (ws : WsLayer) (part : Part) (used : ℕ) → PassAlike ws (pass_of ws part used)
pass_alike ws part used = at (part.opcode == 9) (part.opcode == 10) (is_data part.opcode && not part.fin)
  where
    at : (a b c : Bool) → PassAlike ws (if a then Some (record { used = used; ws = ws; pings = part.payload ∷ [] }) else if b then Some (record { used = used; ws = ws; pings = [] }) else if c then Some (record { used = used; ws = with_part part ws; pings = [] }) else None)
    at true b c = refl
    at false true c = refl
    at false false true = refl
    at false false false = tt

front_alike : (ws : WsLayer) (f : WsFront) → PassAlike ws (pass_by_front ws f)
front_alike ws (Whole part used) = pass_alike ws part used
front_alike ws Short = tt
front_alike ws (Refused e) = tt

within_alike : (most limit : ℕ) (ws : WsLayer) (u : List ℕ) → Alike ws (passed_within most limit ws u).ws
within_alike zero limit ws u = refl
within_alike (suc most) limit ws u = at (pass_by_front ws (ws_front limit ws u)) (front_alike ws (ws_front limit ws u)) (within_alike most limit)
  where
    at : (o : Option Passed) → PassAlike ws o → ((x : WsLayer) (v : List ℕ) → Alike x (passed_within most limit x v).ws) → Alike ws (after_pass (passed_within most limit) ws u o).ws
    at None h rest = refl
    at (Some p) h rest = rest p.ws (drop p.used u) ∙ h

passed_alike : (limit : ℕ) (ws : WsLayer) (u : List ℕ) → Alike ws (passed limit ws u).ws
unfolding passed
passed_alike limit ws u = within_alike (length u) limit ws u

shown_alike : (limit : ℕ) (ended : Bool) (ws : WsLayer) (u : List ℕ) → Alike ws (shown limit ended ws u).ws
unfolding shown
shown_alike limit ended ws u = by (ws_front limit ws u)
  where
    at : (part : Part) (used : ℕ) (a b c : Bool) → Alike ws (if a then (if b then (let s : Shown = record { used = used; ws = record ws { met = true }; said = Fault Epipe } in s) else record { used = 0; ws = ws; said = Fault Eproto }) else (if c then (let s : Shown = record { used = 0; ws = ws; said = Fault Eproto } in s) else record { used = used; ws = record ws { joining = None; joined = [] }; said = Given (Bytes (ws.joined ++ part.payload)) })).ws
    at part used true true c = refl
    at part used true false c = refl
    at part used false b true = refl
    at part used false b false = refl

    by : (f : WsFront) → Alike ws (shown_by ended ws u f).ws
    by (Whole part used) = at part used (part.opcode == 8) (is_some (close_of part.payload)) (unwrap_or ws.joining part.opcode == 1 && not (is_utf8 (ws.joined ++ part.payload)))
    by Short = refl
    by (Refused e) = refl

ws_shape : (below : List Placed) (ws : WsLayer) (u : List ℕ) (ended : Bool) (limit : ℕ) → shape (read_ws below ws u ended limit).layers ≡ shape (Ws ws ∷ below)
ws_shape below ws u ended limit = at ws.met
  where
    p : Passed
    p = passed limit ws u

    at : (b : Bool) → shape (if b then outcome 0 (Ws ws ∷ below) (Fault Epipe) else behind_passed below p (shown limit ended p.ws (drop p.used u))).layers ≡ shape (Ws ws ∷ below)
    at true = refl
    at false = ap (λ x. x ∷ shape below) (shown_alike limit ended p.ws (drop p.used u) ∙ passed_alike limit ws u)

over_shape : (term : TermLayer) (o : Outcome) (below : List Placed) → shape o.layers ≡ shape below → shape (over_term term o).layers ≡ shape (Term term ∷ below)
over_shape term o below e = at (is_terminal term o.said)
  where
    at : (b : Bool) → shape (if b then record o { layers = Term (record term { met = true }) ∷ o.layers; said = Fault Epipe } else record o { layers = Term term ∷ o.layers }).layers ≡ shape (Term term ∷ below)
    at true = ap (λ xs. bare (Term term) ∷ xs) e
    at false = ap (λ xs. bare (Term term) ∷ xs) e

message_shape : (layers : List Placed) (u : List ℕ) (ended : Bool) (limit : ℕ) → shape (read_message layers u ended limit).layers ≡ shape layers
message_shape [] u ended limit = refl
message_shape (Prefix form ∷ below) u ended limit = ap shape (front_layers (Prefix form ∷ below) u ended (prefix_front form u limit))
message_shape (Suffix end ∷ below) u ended limit = ap shape (front_layers (Suffix end ∷ below) u ended (suffix_front end u limit))
message_shape (Http http ∷ below) u ended limit = refl
message_shape (Ws ws ∷ below) u ended limit = ws_shape below ws u ended limit
message_shape (Term term ∷ below) u ended limit = at term.met (message_shape below u ended limit)
  where
    at : (b : Bool) → shape (read_message below u ended limit).layers ≡ shape below → shape (if b then outcome 0 (Term term ∷ below) (Fault Epipe) else over_term term (read_message below u ended limit)).layers ≡ shape (Term term ∷ below)
    at true e = refl
    at false e = over_shape term (read_message below u ended limit) below e

line_shape : (want : Want) (layers : List Placed) (u : List ℕ) (ended : Bool) → shape (read_line want layers u ended).layers ≡ shape layers
line_shape want [] u ended = refl
line_shape want (Prefix form ∷ below) u ended = refl
line_shape want (Suffix end ∷ below) u ended = refl
line_shape want (Term term ∷ below) u ended = refl
line_shape want (Ws ws ∷ below) u ended = refl
line_shape want (Http http ∷ below) u ended = at (is_behind http.receiving)
  where
    given : (used : ℕ) (o : Option Answer) → shape (given_line http below used o).layers ≡ shape (Http http ∷ below)
    given used None = refl
    given used (Some a) = refl

    ends : (b : Bool) (used : ℕ) (o : Option Answer) → shape (if b then outcome used (received BehindEmpty http ∷ below) (Fault Epipe) else given_line http below used o).layers ≡ shape (Http http ∷ below)
    ends true used o = refl
    ends false used o = given used o

    by : (f : Front) → shape (by_line want http below u ended f).layers ≡ shape (Http http ∷ below)
    by (front.Whole from to used) = ends (ends_fields want (take (to - from) (drop from u))) used (line_answer want (take (to - from) (drop from u)))
    by front.Need = refl
    by (front.Fault e) = refl

    at : (b : Bool) → shape (if b then outcome 0 (Http http ∷ below) (Fault Epipe) else by_line want http below u ended (front_of_line u)).layers ≡ shape (Http http ∷ below)
    at true = refl
    at false = by (front_of_line u)

exact_shape : (layers : List Placed) (u : List ℕ) (ended : Bool) (n : ℕ) → shape (read_exact layers u ended n).layers ≡ shape layers
exact_shape layers u ended n = at (nat_lt (length u) n)
  where
    at : (b : Bool) → shape (if b then outcome 0 layers (if ended then Fault Epipe else Need) else outcome n layers (Given (Bytes (take n u)))).layers ≡ shape layers
    at true = refl
    at false = refl

pub list_shape : (want : Want) (layers : List Placed) (u : List ℕ) (ended : Bool) → shape (read_list layers u ended want).layers ≡ shape layers
unfolding read_list
list_shape (wants.Exact n) layers u ended = exact_shape layers u ended n
list_shape (wants.Message limit) layers u ended = message_shape layers u ended limit
list_shape wants.Request layers u ended = line_shape wants.Request layers u ended
list_shape wants.Status layers u ended = line_shape wants.Status layers u ended
list_shape wants.Field layers u ended = line_shape wants.Field layers u ended

-- ---- what is dropped

-- an item keeps the shape, and the end leaves the layers below
abbrev Drops : List Placed → Dropped → Type 0
Drops layers (Item o) = shape o.layers ≡ shape layers
Drops layers (End o) = (shape o.layers ≡ shape (below_layers layers)) × (is_given o.said ≡ true)
Drops layers (Stops o) = shape o.layers ≡ shape layers

message_drops : (term : TermLayer) (below : List Placed) (o : Outcome) → shape o.layers ≡ shape below → Drops (Term term ∷ below) (drop_message term o)
message_drops term below o e = at (is_terminal term o.said) (is_given o.said)
  where
    at : (a b : Bool) → Drops (Term term ∷ below) (if a then End (left_with o.layers o) else if b then Item (record o { layers = Term term ∷ o.layers }) else Stops (record o { layers = Term term ∷ o.layers }))
    at true b = (e, refl)
    at false true = ap (λ xs. bare (Term term) ∷ xs) e
    at false false = ap (λ xs. bare (Term term) ∷ xs) e

frames_drop : (ws : WsLayer) (below : List Placed) (o : Outcome) → shape o.layers ≡ shape (Ws ws ∷ below) → Drops (Ws ws ∷ below) (drop_frames below o)
frames_drop ws below o e = at (has_met o.layers) (is_given o.said)
  where
    at : (a b : Bool) → Drops (Ws ws ∷ below) (if a then End (left_with below o) else if b then Item o else Stops o)
    at true b = (refl, refl)
    at false true = e
    at false false = e

line_drops : (http : HttpLayer) (below : List Placed) (u : List ℕ) (ended : Bool) (f : Front) → Drops (Http http ∷ below) (drop_line http below u ended f)
line_drops http below u ended (front.Whole from to used) = at (not (to - from == 0)) (is_first http.receiving)
  where
    at : (a b : Bool) → Drops (Http http ∷ below) (if a then Item (outcome used (received AmongFields http ∷ below) Need) else if b then Stops (outcome 0 (Http http ∷ below) (Fault Eproto)) else End (outcome used below (Given (Number 0))))
    at true b = refl
    at false true = refl
    at false false = (refl, refl)
line_drops http below u ended front.Need = refl
line_drops http below u ended (front.Fault e) = refl

one_drops : (layers : List Placed) (u : List ℕ) (ended : Bool) → Drops layers (drop_one layers u ended)
one_drops [] u ended = refl
one_drops (Prefix form ∷ below) u ended = (refl, refl)
one_drops (Suffix end ∷ below) u ended = (refl, refl)
one_drops (Term term ∷ below) u ended = at term.met
  where
    at : (b : Bool) → Drops (Term term ∷ below) (if b then End (outcome 0 below (Given (Number 0))) else drop_message term (read_message below u ended drop_limit))
    at true = (refl, refl)
    at false = message_drops term below (read_message below u ended drop_limit) (message_shape below u ended drop_limit)
one_drops (Http http ∷ below) u ended = at (is_behind http.receiving)
  where
    at : (b : Bool) → Drops (Http http ∷ below) (if b then End (outcome 0 below (Given (Number 0))) else drop_line http below u ended (front_of_line u))
    at true = (refl, refl)
    at false = line_drops http below u ended (front_of_line u)
one_drops (Ws ws ∷ below) u ended = at ws.met
  where
    at : (b : Bool) → Drops (Ws ws ∷ below) (if b then End (outcome 0 below (Given (Number 0))) else drop_frames below (read_ws below ws u ended drop_limit))
    at true = (refl, refl)
    at false = frames_drop ws below (read_ws below ws u ended drop_limit) (ws_shape below ws u ended drop_limit)

-- all that is dropped keeps the shape, or is answered and leaves the layers below
abbrev pub Leaves : List Placed → Outcome → Type 0
Leaves layers o = (shape o.layers ≡ shape layers) ⊎ ((shape o.layers ≡ shape (below_layers layers)) × (is_given o.said ≡ true))

within_leaves : (n : ℕ) (ended : Bool) (layers : List Placed) (u : List ℕ) → Leaves layers (dropped_within n ended layers u)
within_leaves zero ended layers u = inl refl
within_leaves (suc n) ended layers u = at (drop_one layers u ended) (one_drops layers u ended) (within_leaves n ended)
  where
    behind : (a b : List Placed) → shape b ≡ shape a → (o : Outcome) → Leaves b o → Leaves a o
    behind a b e o (inl f) = inl (f ∙ e)
    behind a b e o (inr f) = inr (f.0 ∙ below_shape b ∙ ap below_layers e ∙ sym (below_shape a), f.1)

    at : (d : Dropped) → Drops layers d → ((xs : List Placed) (v : List ℕ) → Leaves xs (dropped_within n ended xs v)) → Leaves layers (after_drop (dropped_within n ended) u d)
    at (Item o) e rest = let m = dropped_within n ended o.layers (drop o.used u) in behind layers o.layers e m (rest o.layers (drop o.used u))
    at (End o) e rest = inr e
    at (Stops o) e rest = inl e

pub dropped_leaves : (layers : List Placed) (u : List ℕ) (ended : Bool) → Leaves layers (dropped layers u ended)
unfolding dropped
dropped_leaves layers u ended = within_leaves (suc (length u)) ended layers u
