-- A second look of a receive, where the first found nothing to answer, finds nothing either.
use Rattle.std.proofs.Common.{◌≡◌, ◌+◌, ◌-◌, ◌≤◌, [], ◌∷◌, ◌++◌, List, ℕ, zero, suc, length, take, drop, arith, sym, ap, ◌∙◌, refl, subst, Bool, true, false, not, ◌&&◌, Option, Some, None, if◌then◌else◌, nat_lt}
use Rattle.std.specs.Prelude.{◌==◌, is_some, is_none}
use Rattle.std.specs.Option.{unwrap_or}
use Rattle.std.specs.Str.{is_utf8}
use Rattle.rand_core.specs.Stream.{Stream}
use Rattle.dill_base.specs.declared.errno.Errno.TheVariants.{Epipe, Eproto}
use Rattle.dill_base.specs.declared.errno.Front.{Front}
use Rattle.dill_base.specs.declared.errno.Front.TheVariants as front
use Rattle.dill_calls.specs.declared.answer.Answer.{Answer}
use Rattle.dill_calls.specs.declared.answer.Answer.TheVariants.{Bytes}
use Rattle.dill_http.specs.Lines.{front_of_line}
use Rattle.dill_ws.specs.Closing.{close_of}
use Rattle.dill_ws.specs.declared.head.Head.{Head}
use Rattle.dill_ws.specs.Fronts.{head_at}
use Rattle.dill_ws.specs.Frames.{Part}
use Rattle.std.proofs.lemmas.List.{drop-drop, length-drop}
use Rattle.dill_stack.specs.declared.want.ReadOut.{ReadOut}
use Rattle.dill_stack.specs.declared.want.ReadOut.TheVariants.{Given, Need, Fault}
use Rattle.dill_stack.specs.declared.want.Want.{Want}
use Rattle.dill_stack.specs.declared.want.Want.TheVariants as wants
use Rattle.dill_stack.specs.Layers.{Placed, Prefix, Suffix, Term, Http, Ws, WsLayer, TermLayer, HttpLayer, BehindEmpty, is_behind}
use Rattle.dill_stack.specs.Held.{Held, Direction}
use Rattle.dill_stack.specs.WsReading.{Passed, passed, passed_within, after_pass, nothing_passed, pass_by_front, ws_front, WsFront, Whole, Short, Refused, Shown, shown, shown_by, at_end, message_of, close_met}
use Rattle.dill_stack.specs.Read.{Outcome, outcome, read_exact, by_front, behind_passed, read_ws, is_terminal, over_term, read_message, ends_fields, line_answer, given_line, received, by_line, read_line, read_list}
use Rattle.dill_stack.specs.Receiving.{Looked, ws_of, answers_pings, with_pongs_of, ponged, looked_over, breaks, read_of, settled, read}
use Rattle.dill_stack.specs.Again.{still}
use Rattle.dill_stack.proofs.Limits.{FrameAt, frame_at, head_shown}
use Rattle.dill_stack.proofs.Passings.{pass_at, empty_front}

-- nothing is used, and nothing changes
abbrev pub IsStill : Outcome → List Placed → Type 0
IsStill o layers = o ≡ outcome 0 layers Need

-- ---- framings and lines

pub by_front_still : (layers : List Placed) (u : List ℕ) (ended : Bool) (f : Front) → (by_front layers u ended f).said ≡ Need → IsStill (by_front layers u ended f) layers
by_front_still layers u ended (front.Whole from to used) e = cc
by_front_still layers u ended front.Need e = ap (outcome 0 layers) e
by_front_still layers u ended (front.Fault x) e = cc

given_none : (http : HttpLayer) (below : List Placed) (used : ℕ) (o : Option Answer) → (given_line http below used o).said ≡ Need → IsStill (given_line http below used o) (Http http ∷ below)
given_none http below used None e = cc
given_none http below used (Some answer) e = cc

by_line_still : (want : Want) (http : HttpLayer) (below : List Placed) (u : List ℕ) (ended : Bool) (f : Front) → (by_line want http below u ended f).said ≡ Need → IsStill (by_line want http below u ended f) (Http http ∷ below)
by_line_still want http below u ended (front.Whole from to used) e = at (ends_fields want (take (to - from) (drop from u))) e
  where
    at : (b : Bool) → (if b then outcome used (received BehindEmpty http ∷ below) (Fault Epipe) else given_line http below used (line_answer want (take (to - from) (drop from u)))).said ≡ Need → IsStill (if b then outcome used (received BehindEmpty http ∷ below) (Fault Epipe) else given_line http below used (line_answer want (take (to - from) (drop from u)))) (Http http ∷ below)
    at true f = cc
    at false f = given_none http below used (line_answer want (take (to - from) (drop from u))) f
by_line_still want http below u ended front.Need e = ap (outcome 0 (Http http ∷ below)) e
by_line_still want http below u ended (front.Fault x) e = cc

-- ---- a WebSocket layer

pub close_said : (b : Bool) (x y : Shown) → x.said ≡ Fault Epipe → y.said ≡ Fault Eproto → (if b then x else y).said ≡ Need → ⊥
close_said true x y f g e = let it : ◌≡◌ {A = ReadOut} (Fault Epipe) Need = sym f ∙ e in cc
close_said false x y f g e = let it : ◌≡◌ {A = ReadOut} (Fault Eproto) Need = sym g ∙ e in cc

pub message_said : (b : Bool) (x y : Shown) (a : Answer) → x.said ≡ Fault Eproto → y.said ≡ Given a → (if b then x else y).said ≡ Need → ⊥
message_said true x y a f g e = let it : ◌≡◌ {A = ReadOut} (Fault Eproto) Need = sym f ∙ e in cc
message_said false x y a f g e = let it : ◌≡◌ {A = ReadOut} (Given a) Need = sym g ∙ e in cc

end_said : (b : Bool) → (if b then Fault Epipe else Fault Eproto) ≡ Need → ⊥
end_said true e = cc
end_said false e = cc

pub shown_still : (limit : ℕ) (ended : Bool) (ws : WsLayer) (u : List ℕ) → (shown limit ended ws u).said ≡ Need → shown limit ended ws u ≡ record { used = 0; ws = ws; said = Need }
unfolding shown
shown_still limit ended ws u e = by (ws_front limit ws u) e
  where
    by : (f : WsFront) → (shown_by ended ws u f).said ≡ Need → shown_by ended ws u f ≡ record { used = 0; ws = ws; said = Need }
    by (Whole part used) g = absurd (at (part.opcode == 8) g)
      where
        at : (b : Bool) → (if b then close_met ws part used else message_of ws part used).said ≡ Need → ⊥
        at true h = close_said (is_some (close_of part.payload)) _ _ refl refl h
        at false h = message_said (unwrap_or ws.joining part.opcode == 1 && not (is_utf8 (ws.joined ++ part.payload))) _ _ _ refl refl h
    by Short g = at ended g
      where
        at : (b : Bool) → (if b then at_end ws u else Need) ≡ Need → (let s : Shown = record { used = 0; ws = ws; said = if b then at_end ws u else Need } in s) ≡ record { used = 0; ws = ws; said = Need }
        at true h = absurd (end_said (length u == 0 && is_none ws.joining) h)
        at false h = refl
    by (Refused x) g = cc

-- nothing more is passed behind what was, and the layer has met its end as before
pub record Ends (limit : ℕ) (ws : WsLayer) (u : List ℕ) (p : Passed) : Type 0 where
  pub last : pass_by_front p.ws (ws_front limit p.ws (drop p.used u)) ≡ None
  pub met : p.ws.met ≡ ws.met

pub some_used : (ws : WsLayer) (u : List ℕ) (part : Part) (used : ℕ) → FrameAt ws u part used → 1 ≤ used
some_used ws u part used a =
    let s = (head_shown ws.side (is_some ws.joining) u a.h a.read).same in
    let start : (head_at ws.side u).start ≡ a.h.start = ap (λ (h : Head). h.start) s in
    omega (arith, start, a.used_is)

ends_passing : (most limit : ℕ) (ws : WsLayer) (u : List ℕ) → length u ≤ most → Ends limit ws u (passed_within most limit ws u)
ends_passing zero limit ws [] l = record { last = empty_front limit ws; met = refl }
ends_passing zero limit ws (x ∷ u) l = absurd (omega (arith, l))
ends_passing (suc most) limit ws u l = at (pass_by_front ws (ws_front limit ws u)) refl (ends_passing most limit)
  where
    at : (o : Option Passed) → pass_by_front ws (ws_front limit ws u) ≡ o → ((v : WsLayer) (w : List ℕ) → length w ≤ most → Ends limit v w (passed_within most limit v w)) → Ends limit ws u (after_pass (passed_within most limit) ws u o)
    at None e again = record { last = e; met = refl }
    at (Some q) e again =
        let a = pass_at limit ws u q (ws_front limit ws u) refl e in
        let used : q.used ≡ a.used = ap (λ (x : Passed). x.used) a.is.whole in
        let met : q.ws.met ≡ ws.met = ap (λ (x : Passed). x.ws.met) a.is.whole in
        let one = some_used ws u a.part a.used (frame_at limit ws u a.part a.used a.whole) in
        let r = again q.ws (drop q.used u) (omega (arith, l, used, one, length-drop q.used u)) in
        let rest = passed_within most limit q.ws (drop q.used u) in
        record { last = subst (λ v. pass_by_front rest.ws (ws_front limit rest.ws v) ≡ None) (drop-drop rest.used q.used u) r.last; met = r.met ∙ met }

pub passed_ends : (limit : ℕ) (ws : WsLayer) (u : List ℕ) → Ends limit ws u (passed limit ws u)
unfolding passed
passed_ends limit ws u = ends_passing (length u) limit ws u (omega arith)

pub passed_nothing : (limit : ℕ) (ws : WsLayer) (u : List ℕ) → pass_by_front ws (ws_front limit ws u) ≡ None → passed limit ws u ≡ nothing_passed ws
unfolding passed
passed_nothing limit ws u e = at (length u)
  where
    at : (n : ℕ) → passed_within n limit ws u ≡ nothing_passed ws
    at zero = refl
    at (suc n) = ap (after_pass (passed_within n limit) ws u) e

-- ---- messages

no_used : (u : List ℕ) (n : ℕ) → drop (n + 0) u ≡ drop n u
no_used u n = ap (λ k. drop k u) (omega arith)

ws_again : (below : List Placed) (ws : WsLayer) (u : List ℕ) (ended : Bool) (limit : ℕ) → (read_ws below ws u ended limit).said ≡ Need
    → let o = read_ws below ws u ended limit in read_message o.layers (drop o.used u) ended limit ≡ outcome 0 o.layers Need
ws_again below ws u ended limit e = at ws.met refl e
  where
    p : Passed
    p = passed limit ws u

    is : Ends limit ws u p
    is = passed_ends limit ws u

    rest : List ℕ
    rest = drop p.used u

    second : (m : Bool) → p.ws.met ≡ m → m ≡ false → (shown limit ended p.ws rest).said ≡ Need → (if p.ws.met then outcome 0 (Ws p.ws ∷ below) (Fault Epipe) else behind_passed below (passed limit p.ws rest) (shown limit ended (passed limit p.ws rest).ws (drop (passed limit p.ws rest).used rest))) ≡ outcome 0 (Ws p.ws ∷ below) Need
    second true f g h = cc
    second false f g h =
        ap (λ m. if m then outcome 0 (Ws p.ws ∷ below) (Fault Epipe) else behind_passed below (passed limit p.ws rest) (shown limit ended (passed limit p.ws rest).ws (drop (passed limit p.ws rest).used rest))) f
        ∙ ap (λ (q : Passed). behind_passed below q (shown limit ended q.ws (drop q.used rest))) (passed_nothing limit p.ws rest is.last)
        ∙ ap (λ (s : Shown). behind_passed below (nothing_passed p.ws) s) (shown_still limit ended p.ws rest h)

    met_as : p.ws.met ≡ ws.met
    met_as = is.met

    at : (m : Bool) → ws.met ≡ m → (if m then outcome 0 (Ws ws ∷ below) (Fault Epipe) else behind_passed below p (shown limit ended p.ws rest)).said ≡ Need
        → let o = if m then outcome 0 (Ws ws ∷ below) (Fault Epipe) else behind_passed below p (shown limit ended p.ws rest) in read_message o.layers (drop o.used u) ended limit ≡ outcome 0 o.layers Need
    at true f g = cc
    at false f g =
        let s = shown_still limit ended p.ws rest g in
        let here : read_message (Ws p.ws ∷ below) (drop (p.used + 0) u) ended limit ≡ outcome 0 (Ws p.ws ∷ below) Need = ap (λ v. read_message (Ws p.ws ∷ below) v ended limit) (no_used u p.used) ∙ second p.ws.met refl (met_as ∙ f) g in
        subst (λ (x : Shown). let o = behind_passed below p x in read_message o.layers (drop o.used u) ended limit ≡ outcome 0 o.layers Need) (sym s) here

pub terminal_said : (term : TermLayer) (o : Outcome) (b : Bool) → is_terminal term o.said ≡ b → (over_term term o).said ≡ Need → (over_term term o ≡ record o { layers = Term term ∷ o.layers }) × (o.said ≡ Need)
terminal_said term o true e f =
    let it : (over_term term o).said ≡ Fault Epipe = ap (λ t. (if t then record o { layers = Term (record term { met = true }) ∷ o.layers; said = Fault Epipe } else record o { layers = Term term ∷ o.layers }).said) e in
    let bad : ◌≡◌ {A = ReadOut} (Fault Epipe) Need = sym it ∙ f in
    cc
terminal_said term o false e f =
    let it : over_term term o ≡ record o { layers = Term term ∷ o.layers } = ap (λ t. if t then record o { layers = Term (record term { met = true }) ∷ o.layers; said = Fault Epipe } else record o { layers = Term term ∷ o.layers }) e in
    (it, ap (λ (x : Outcome). x.said) (sym it) ∙ f)

still_again : (layers : List Placed) (u : List ℕ) (ended : Bool) (limit : ℕ) (o : Outcome) → read_message layers u ended limit ≡ o → IsStill o layers → read_message o.layers (drop o.used u) ended limit ≡ outcome 0 o.layers Need
still_again layers u ended limit o e s = subst (λ (x : Outcome). read_message x.layers (drop x.used u) ended limit ≡ outcome 0 x.layers Need) (sym s) (e ∙ s)

pub message_again : (layers : List Placed) (u : List ℕ) (ended : Bool) (limit : ℕ) → (read_message layers u ended limit).said ≡ Need
    → let o = read_message layers u ended limit in read_message o.layers (drop o.used u) ended limit ≡ outcome 0 o.layers Need
message_again [] u ended limit e = refl
message_again (Prefix form ∷ below) u ended limit e = still_again (Prefix form ∷ below) u ended limit _ refl (by_front_still (Prefix form ∷ below) u ended _ e)
message_again (Suffix end ∷ below) u ended limit e = still_again (Suffix end ∷ below) u ended limit _ refl (by_front_still (Suffix end ∷ below) u ended _ e)
message_again (Http http ∷ below) u ended limit e = refl
message_again (Ws ws ∷ below) u ended limit e = ws_again below ws u ended limit e
message_again (Term term ∷ below) u ended limit e = at term.met refl e (message_again below u ended limit)
  where
    m : Outcome
    m = read_message below u ended limit

    at : (t : Bool) → term.met ≡ t → (if t then outcome 0 (Term term ∷ below) (Fault Epipe) else over_term term m).said ≡ Need → (m.said ≡ Need → read_message m.layers (drop m.used u) ended limit ≡ outcome 0 m.layers Need)
        → let o = if t then outcome 0 (Term term ∷ below) (Fault Epipe) else over_term term m in read_message o.layers (drop o.used u) ended limit ≡ outcome 0 o.layers Need
    at true f g rest = cc
    at false f g rest =
        let t = terminal_said term m (is_terminal term m.said) refl g in
        let here : read_message (Term term ∷ m.layers) (drop m.used u) ended limit ≡ outcome 0 (Term term ∷ m.layers) Need =
        ap (λ k. if k then outcome 0 (Term term ∷ m.layers) (Fault Epipe) else over_term term (read_message m.layers (drop m.used u) ended limit)) f ∙ ap (over_term term) (rest t.1) in
        subst (λ (x : Outcome). read_message x.layers (drop x.used u) ended limit ≡ outcome 0 x.layers Need) (sym t.0) here

-- ---- all receives

pub line_again : (want : Want) (layers : List Placed) (u : List ℕ) (ended : Bool) → (read_line want layers u ended).said ≡ Need → IsStill (read_line want layers u ended) layers
line_again want [] u ended e = refl
line_again want (Prefix form ∷ below) u ended e = refl
line_again want (Suffix end ∷ below) u ended e = refl
line_again want (Term term ∷ below) u ended e = refl
line_again want (Ws ws ∷ below) u ended e = refl
line_again want (Http http ∷ below) u ended e = at (is_behind http.receiving) e
  where
    at : (b : Bool) → (if b then outcome 0 (Http http ∷ below) (Fault Epipe) else by_line want http below u ended (front_of_line u)).said ≡ Need → IsStill (if b then outcome 0 (Http http ∷ below) (Fault Epipe) else by_line want http below u ended (front_of_line u)) (Http http ∷ below)
    at true f = cc
    at false f = by_line_still want http below u ended (front_of_line u) f

pub exact_still : (layers : List Placed) (u : List ℕ) (ended : Bool) (n : ℕ) → (read_exact layers u ended n).said ≡ Need → IsStill (read_exact layers u ended n) layers
exact_still layers u ended n e = at (nat_lt (length u) n) ended e
  where
    at : (b c : Bool) → (if b then outcome 0 layers (if c then Fault Epipe else Need) else outcome n layers (Given (Bytes (take n u)))).said ≡ Need → IsStill (if b then outcome 0 layers (if c then Fault Epipe else Need) else outcome n layers (Given (Bytes (take n u)))) layers
    at true true f = cc
    at true false f = refl
    at false c f = cc

-- a second reading of the list
list_still : (want : Want) (layers : List Placed) (u : List ℕ) (ended : Bool) (o : Outcome) → read_list layers u ended want ≡ o → IsStill o layers → read_list o.layers (drop o.used u) ended want ≡ outcome 0 o.layers Need
list_still want layers u ended o e s = subst (λ (x : Outcome). read_list x.layers (drop x.used u) ended want ≡ outcome 0 x.layers Need) (sym s) (e ∙ s)

pub list_again : (want : Want) (layers : List Placed) (u : List ℕ) (ended : Bool) → (read_list layers u ended want).said ≡ Need → let o = read_list layers u ended want in read_list o.layers (drop o.used u) ended want ≡ outcome 0 o.layers Need
unfolding read_list
list_again (wants.Exact n) layers u ended e = list_still (wants.Exact n) layers u ended _ refl (exact_still layers u ended n e)
list_again (wants.Message limit) layers u ended e = message_again layers u ended limit e
list_again wants.Request layers u ended e = list_still wants.Request layers u ended _ refl (line_again wants.Request layers u ended e)
list_again wants.Status layers u ended e = list_still wants.Status layers u ended _ refl (line_again wants.Status layers u ended e)
list_again wants.Field layers u ended e = list_still wants.Field layers u ended _ refl (line_again wants.Field layers u ended e)

-- pongs go behind what is queued, and leave all else
pub record Queues (s t : Held) : Type 0 where
  pub layers : t.layers ≡ s.layers
  pub unread : t.unread ≡ s.unread
  pub receiving : t.receiving ≡ s.receiving

abbrev first_of : Held × Stream → Held
first_of now = now.0

pub pongs_queue : (o : Option WsLayer) (pings : List (List ℕ)) (random : Stream) (s : Held) → Queues s (with_pongs_of o pings random s).0
pongs_queue None pings random s = record { layers = refl; unread = refl; receiving = refl }
pongs_queue (Some ws) pings random s = at (answers_pings ws s)
  where
    at : (b : Bool) → Queues s (first_of (if b then (record s { queue = (ponged ws.side pings (s.queue, random)).0 }, (ponged ws.side pings (s.queue, random)).1) else (s, random)))
    at true = record { layers = refl; unread = refl; receiving = refl }
    at false = record { layers = refl; unread = refl; receiving = refl }

no_pongs : (o : Option WsLayer) (random : Stream) (s : Held) → with_pongs_of o [] random s ≡ (s, random)
no_pongs None random s = refl
no_pongs (Some ws) random s = at (answers_pings ws s)
  where
    at : (b : Bool) → ◌≡◌ {A = Held × Stream} (if b then (record s { queue = s.queue }, random) else (s, random)) (s, random)
    at true = refl
    at false = refl

pub looked_still : (o : Outcome) (random : Stream) (s : Held) → o ≡ outcome 0 s.layers Need → looked_over o random s ≡ still random s
looked_still o random s e =
    ap (λ (x : Outcome). looked_over x random s) e ∙ ap (λ (now : Held × Stream). let l : Looked = record { stack = now.0; said = Need; random = now.1 } in l) (no_pongs (ws_of s.layers) random s)

pub need_unbroken : (l : Looked) → l.said ≡ Need → settled l ≡ l
need_unbroken l e = ap (λ said. record l { stack = if breaks said then record l.stack { receiving = record l.stack.receiving { broken = true } } else l.stack }) e

pub reads_again : (want : Want) (u v : Stream) (s : Held) → (read want u s).said ≡ Need → read want v (read want u s).stack ≡ still v (read want u s).stack
unfolding read
reads_again want u v s e =
    let o = read_of want s in
    let l = looked_over o u s in
    let t = l.stack in
    let q = pongs_queue (ws_of s.layers) o.pings u (record s { layers = o.layers; unread = drop o.used s.unread }) in
    let first : read_list o.layers (drop o.used s.unread) s.receiving.done want ≡ outcome 0 o.layers Need = list_again want s.layers s.unread s.receiving.done e in
    let second : read_of want t ≡ outcome 0 t.layers Need =
    ap (λ l. read_list l t.unread t.receiving.done want) q.layers ∙ ap (λ x. read_list o.layers x t.receiving.done want) q.unread ∙ ap (λ (d : Direction). read_list o.layers (drop o.used s.unread) d.done want) q.receiving ∙ first ∙ ap (λ l. outcome 0 l Need) (sym q.layers) in
    subst (λ (x : Held). settled (looked_over (read_of want x) v x) ≡ still v x) (sym (ap (λ (x : Looked). x.stack) (need_unbroken l e)))
    (ap settled (looked_still (read_of want t) v t second))
