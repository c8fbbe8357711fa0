-- What is composed is the spelling by each layer.
use Rattle.std.proofs.Common.{◌≡◌, ◌∙◌, ◌≤◌, [], ◌∷◌, List, ℕ, length, arith, ap, refl, subst, Bool, true, false, not, ◌&&◌, ◌||◌, None, Ok, Err, Result}
use Rattle.std.proofs.lemmas.Bool.{false≢true}
use Rattle.std.proofs.lemmas.Slice.Eq.{bytes_eq-Decides}
use Rattle.std.proofs.lemmas.Str.{IsUtf8-from_is_utf8}
use Rattle.std.specs.Prelude.{bytes_eq, Decides, nat_lt, if◌then◌else◌}
use Rattle.std.specs.Str.{is_utf8}
use Rattle.rand_core.specs.Stream.{Stream}
use Rattle.dill_base.specs.declared.errno.Errno.{Errno}
use Rattle.dill_base.specs.declared.errno.Errno.TheVariants.{Einval, Emsgsize}
use Rattle.dill_frames.specs.Prefix.{prefix_due}
use Rattle.dill_frames.specs.Suffix.{suffix_due}
use Rattle.dill_frames.specs.Laws.{PrefixLaws, SuffixLaws}
use Rattle.dill_ws.specs.declared.side.Side.{Side}
use Rattle.dill_ws.specs.declared.side.Side.TheVariants.{Client, Server}
use Rattle.dill_ws.specs.Frames.{Frame, HasKeyOf, may_follow}
use Rattle.dill_stack.specs.Layers.{Placed, Prefix, Suffix, Term, Http, Ws, WsLayer, IsStanding}
use Rattle.dill_stack.specs.Formed.{IsFormed}
use Rattle.dill_stack.specs.Held.{Held}
use Rattle.dill_stack.specs.Composed.{composed, spelled, with_random, random_after, drawn_key, and_then, data_frame, key_of, is_refused_with, is_any, is_refused, is_too_long, is_invalid, message_limit}
use Rattle.dill_stack.specs.Refusals.{send_fault, first_fault, is_done}
use Rattle.dill_stack.specs.Spelling.{SpelledBy}

-- the first refusal is none only where none stands
long_none : (invalid busy over broken long : Bool) → first_fault invalid busy over broken long ≡ None → long ≡ false
long_none true busy over broken long e = cc
long_none false true over broken long e = cc
long_none false false true broken long e = cc
long_none false false false true long e = cc
long_none false false false false true e = cc
long_none false false false false false e = refl

right_false : (a b : Bool) → (a || b) ≡ false → b ≡ false
right_false true b e = cc
right_false false b e = e

-- a spelling that isn't refused
abbrev Taken : List ℕ → List Placed → List ℕ → Type 0
Taken key layers m = (w : List ℕ) × (spelled key layers m ≡ Ok w)

no_refusal : (r : Result (List ℕ) Errno) → is_refused_with is_any r ≡ false → (w : List ℕ) × (r ≡ Ok w)
no_refusal (Ok w) e = (w, refl)
no_refusal (Err x) e = cc

bottom : (key : List ℕ) (r : Result (List ℕ) Errno) → is_refused_with is_any (and_then r (spelled [] [])) ≡ false → (w : List ℕ) × (and_then r (spelled key []) ≡ Ok w)
bottom key (Ok w) e = (w, refl)
bottom key (Err x) e = cc

-- the frame of a message, whatever its key
bottom_ws : (key : List ℕ) (ws : WsLayer) (m : List ℕ) (bad : Bool) → is_refused_with is_any (and_then (if bad then Err Einval else Ok (data_frame ws [] m)) (spelled [] [])) ≡ false
    → (w : List ℕ) × (and_then (if bad then Err Einval else Ok (data_frame ws key m)) (spelled key []) ≡ Ok w)
bottom_ws key ws m true e = cc
bottom_ws key ws m false e = (data_frame ws key m, refl)

-- A message that no layer refuses under one key is spelled under each.
taken_any : (key : List ℕ) (layers : List Placed) (m : List ℕ) → IsStanding layers → is_refused_with is_any (spelled [] layers m) ≡ false → Taken key layers m
taken_any key [] m s e = (m, refl)
taken_any key (Prefix form ∷ []) m s e = bottom key (prefix_due form m) e
taken_any key (Prefix form ∷ x ∷ below) m s e = cc
taken_any key (Suffix end ∷ []) m s e = bottom key (suffix_due end m) e
taken_any key (Suffix end ∷ x ∷ below) m s e = cc
taken_any key (Term term ∷ below) m s e = by_test (bytes_eq m term.terminal) e (taken_any key below m s.1)
  where
    by_test : (b : Bool) → is_refused_with is_any (if b then Err Einval else spelled [] below m) ≡ false → (is_refused_with is_any (spelled [] below m) ≡ false → Taken key below m)
        → (w : List ℕ) × ((if b then Err Einval else spelled key below m) ≡ Ok w)
    by_test true h again = cc
    by_test false h again = again h
taken_any key (Http http ∷ below) m s e = cc
taken_any key (Ws ws ∷ []) m s e = bottom_ws key ws m (ws.text && not (is_utf8 m)) e
taken_any key (Ws ws ∷ x ∷ below) m s e = cc

left_false : (a b : Bool) → (a || b) ≡ false → a ≡ false
left_false true b e = cc
left_false false b e = refl

-- within the limit the layers alone decide
within_limit : (a b : Bool) (r : Result (List ℕ × Stream) Errno) → a ≡ false → (if a && b then Err Emsgsize else r) ≡ r
within_limit true b r e = cc
within_limit false b r e = refl

-- what is composed is within the limit, or is refused by a layer
by_layers : (a : Bool) (r : Result (List ℕ × Stream) Errno) (x : List ℕ × Stream) → (if a then Err Emsgsize else r) ≡ Ok x → r ≡ Ok x
by_layers true r x e = cc
by_layers false r x e = e

pub framing_taken : (s : Held) (m : List ℕ) (random : Stream) → IsStanding s.layers → send_fault m false s ≡ None → (w : List ℕ) × (composed s.layers m random ≡ Ok (w, random_after s.layers random))
unfolding send_fault composed is_too_long is_refused
framing_taken s m random i e =
    let none : is_too_long s.layers m ≡ false = long_none (is_invalid s.layers m) false (is_done s) s.sending.broken (is_too_long s.layers m) e in
    let fine : is_refused_with is_any (spelled [] s.layers m) ≡ false = right_false (nat_lt message_limit (length m)) (is_refused_with is_any (spelled [] s.layers m)) none in
    let short : nat_lt message_limit (length m) ≡ false = left_false (nat_lt message_limit (length m)) (is_refused_with is_any (spelled [] s.layers m)) none in
    let k : Taken (drawn_key random).0 s.layers m = taken_any (drawn_key random).0 s.layers m i fine in
    (k.0, within_limit (nat_lt message_limit (length m)) (not (is_invalid s.layers m)) (with_random (random_after s.layers random) (spelled (drawn_key random).0 s.layers m)) short ∙ ap (with_random (random_after s.layers random)) k.1)

ok_bottom : (key : List ℕ) (r : Result (List ℕ) Errno) (w : List ℕ) → and_then r (spelled key []) ≡ Ok w → r ≡ Ok w
ok_bottom key (Ok v) w e = e
ok_bottom key (Err x) w e = cc

has_key : (side : Side) (key : List ℕ) → length key ≡ 4 → HasKeyOf side (key_of side key)
has_key Client key l = l
has_key Server key l = tt

follows : (text : Bool) (n : ℕ) → may_follow false true (if text then 1 else 2) n ≡ true
follows true n = refl
follows false n = refl

utf8_where : (text fine : Bool) → (text && not fine) ≡ false → text ≡ true → fine ≡ true
utf8_where true true e t = refl
utf8_where true false e t = cc
utf8_where false fine e t = cc

is_frame : (key : List ℕ) (ws : WsLayer) (m : List ℕ) → length key ≡ 4 → length m ≤ message_limit → Frame ws.side true (if ws.text then 1 else 2) m (data_frame ws key m)
is_frame key ws m k l = record { key = key_of ws.side key; keyed = has_key ws.side key k; joining = false; allowed = follows ws.text (length m); fits = omega (arith, l); whole = refl }

-- what a WebSocket layer on the link spells
ws_spelled : (key : List ℕ) (ws : WsLayer) (m w : List ℕ) → length key ≡ 4 → length m ≤ message_limit → (bad : Bool) → (ws.text && not (is_utf8 m)) ≡ bad → and_then (if bad then Err Einval else Ok (data_frame ws key m)) (spelled key []) ≡ Ok w
    → SpelledBy (Ws ws ∷ []) m w
ws_spelled key ws m w k l true b e = cc
ws_spelled key ws m w k l false b e =
    let same : data_frame ws key m ≡ w = cc in
    (w, (λ t. IsUtf8-from_is_utf8 m (utf8_where ws.text (is_utf8 m) b t)), subst (Frame ws.side true (if ws.text then 1 else 2) m) same (is_frame key ws m k l), refl)

spelled_by : (p : PrefixLaws) (s : SuffixLaws) (key : List ℕ) (layers : List Placed) (m w : List ℕ) → length key ≡ 4 → IsStanding layers → IsFormed layers → length m ≤ message_limit → spelled key layers m ≡ Ok w → SpelledBy layers m w
spelled_by p s key [] m w k i f l e = cc
spelled_by p s key (Prefix form ∷ []) m w k i f l e = (w, p.written form m w (ok_bottom key (prefix_due form m) w e), refl)
spelled_by p s key (Prefix form ∷ x ∷ below) m w k i f l e = cc
spelled_by p s key (Suffix end ∷ []) m w k i f l e = (w, s.written end m w f.0 (ok_bottom key (suffix_due end m) w e), refl)
spelled_by p s key (Suffix end ∷ x ∷ below) m w k i f l e = cc
spelled_by p s key (Term term ∷ below) m w k i f l e = by_test (bytes_eq m term.terminal) (bytes_eq-Decides m term.terminal) e (λ h. spelled_by p s key below m w k i.1 f.2 l h)
  where
    by_test : (b : Bool) → Decides b (m ≡ term.terminal) → (if b then Err Einval else spelled key below m) ≡ Ok w → (spelled key below m ≡ Ok w → SpelledBy below m w) → (m ≡ term.terminal → ⊥) × SpelledBy below m w
    by_test true d h again = cc
    by_test false d h again = ((λ q. absurd (false≢true (d.1 q))), again h)
spelled_by p s key (Http http ∷ below) m w k i f l e = cc
spelled_by p s key (Ws ws ∷ []) m w k i f l e = ws_spelled key ws m w k l (ws.text && not (is_utf8 m)) refl e
spelled_by p s key (Ws ws ∷ x ∷ below) m w k i f l e = cc

ok_random : (random rest : Stream) (r : Result (List ℕ) Errno) (w : List ℕ) → with_random random r ≡ Ok (w, rest) → r ≡ Ok w
ok_random random rest (Ok v) w e =
    let same : (v, random) ≡ (w, rest) = cc in
    ap (λ (x : List ℕ × Stream). Ok x.0) same
ok_random random rest (Err x) w e = cc

pub framing_spelled : (p : PrefixLaws) (s : SuffixLaws) (layers : List Placed) (m w : List ℕ) (random rest : Stream) → IsStanding layers → IsFormed layers → length m ≤ message_limit → composed layers m random ≡ Ok (w, rest) → SpelledBy layers m w
unfolding composed
framing_spelled p s layers m w random rest i f l e =
    spelled_by p s (drawn_key random).0 layers m w refl i f l (ok_random (random_after layers random) rest (spelled (drawn_key random).0 layers m) w (by_layers (nat_lt message_limit (length m) && not (is_invalid layers m)) (with_random (random_after layers random) (spelled (drawn_key random).0 layers m)) (w, rest) e))
