-- Where a receive awaits more bytes, fewer are unread than it may need, through every layer.
use Rattle.std.proofs.Common.{◌≡◌, ◌<◌, ◌+◌, ◌∷◌, [], sym, refl, subst, arith, ℕ, List, Bool, true, false, length, drop, max, if◌then◌else◌}
use Rattle.rand_core.specs.Stream.{Stream}
use Rattle.std.proofs.lemmas.List.{length-drop}
use Rattle.dill_base.specs.declared.errno.Errno.TheVariants.{Epipe}
use Rattle.dill_frames.specs.Laws.{PrefixLaws, SuffixLaws}
use Rattle.dill_frames.specs.Prefix.{prefix_front}
use Rattle.dill_frames.specs.Suffix.{suffix_front}
use Rattle.dill_http.specs.Laws.{LineLaws}
use Rattle.dill_stack.specs.declared.want.Want.{Want}
use Rattle.dill_stack.specs.declared.want.Want.TheVariants as want
use Rattle.dill_stack.specs.declared.want.ReadOut.TheVariants.{Need, Fault}
use Rattle.dill_stack.specs.Layers.{WsLayer, Placed, Prefix, Suffix, Term, Http, Ws, HasMessages, IsStanding}
use Rattle.dill_stack.specs.Held.{Held}
use Rattle.dill_stack.specs.Needs.{message_need, need}
use Rattle.dill_stack.specs.Read.{Outcome, outcome, read_message, read_list, read_ws, behind_passed, by_front, over_term, is_terminal}
use Rattle.dill_stack.specs.Receiving.{Looked, ws_of, looked_over, read_of, read}
use Rattle.dill_stack.specs.Taking.{FitsTop}
use Rattle.dill_stack.specs.WsReading.{Passed, passed, Shown, shown}
use Rattle.dill_stack.proofs.Again.{pongs_queue, need_unbroken}
use Rattle.dill_stack.proofs.DropShort.{shown_short}
use Rattle.dill_stack.proofs.FrameShort.{ws_short}
use Rattle.dill_stack.proofs.Shortness.{by_front_short, exact_if, line_short, no_fault}

dropped_short : (u : List ℕ) (n most : ℕ) → length u < most → length (drop n u) < most
dropped_short u n most l = omega (arith, l, length-drop n u)

ws_needs : (below : List Placed) (ws : WsLayer) (u : List ℕ) (ended : Bool) (limit : ℕ) → (read_ws below ws u ended limit).said ≡ Need → length (drop (read_ws below ws u ended limit).used u) < max limit 125 + 14
ws_needs below ws u ended limit e = at ws.met e
  where
    p : Passed
    p = passed limit ws u

    s : Shown
    s = shown limit ended p.ws (drop p.used u)

    at : (m : Bool) → (if m then outcome 0 (Ws ws ∷ below) (Fault Epipe) else behind_passed below p s).said ≡ Need → length (drop (if m then outcome 0 (Ws ws ∷ below) (Fault Epipe) else behind_passed below p s).used u) < max limit 125 + 14
    at true f = no_fault Epipe f
    at false f =
        let n = shown_short limit ended p.ws (drop p.used u) f in
        let l = ws_short limit p.ws (drop p.used u) n.0 in
        let z : s.used ≡ 0 = n.1 in
        let same : p.used + s.used ≡ p.used = omega (arith, z) in
        subst (λ k. length (drop k u) < max limit 125 + 14) (sym same) l

message_needs : (p : PrefixLaws) (s : SuffixLaws) (layers : List Placed) (u : List ℕ) (ended : Bool) (limit : ℕ) → IsStanding layers → HasMessages layers → (read_message layers u ended limit).said ≡ Need → length (drop (read_message layers u ended limit).used u) < message_need limit layers
message_needs p s [] u ended limit k m h = absurd m
message_needs p s (Prefix form ∷ below) u ended limit k m h = dropped_short u (by_front (Prefix form ∷ below) u ended (prefix_front form u limit)).used (limit + form.size) (by_front_short (Prefix form ∷ below) u ended (prefix_front form u limit) (limit + form.size) (p.waits form u limit) h)
message_needs p s (Suffix end ∷ below) u ended limit k m h = dropped_short u (by_front (Suffix end ∷ below) u ended (suffix_front end u limit)).used (limit + length end) (by_front_short (Suffix end ∷ below) u ended (suffix_front end u limit) (limit + length end) (s.waits end u limit) h)
message_needs p s (Http http ∷ below) u ended limit k m h = absurd m
message_needs p s (Ws ws ∷ below) u ended limit k m h = ws_needs below ws u ended limit h
message_needs p s (Term t ∷ below) u ended limit k m h = at t.met h (message_needs p s below u ended limit k.1 k.0)
  where
    o : Outcome
    o = read_message below u ended limit

    over : (b : Bool) → (if b then record o { layers = Term (record t { met = true }) ∷ o.layers; said = Fault Epipe } else record o { layers = Term t ∷ o.layers }).said ≡ Need → (o.said ≡ Need → length (drop o.used u) < message_need limit below) → length (drop (if b then record o { layers = Term (record t { met = true }) ∷ o.layers; said = Fault Epipe } else record o { layers = Term t ∷ o.layers }).used u) < message_need limit below
    over true f again = no_fault Epipe f
    over false f again = again f

    at : (b : Bool) → (if b then outcome 0 (Term t ∷ below) (Fault Epipe) else over_term t o).said ≡ Need → (o.said ≡ Need → length (drop o.used u) < message_need limit below) → length (drop (if b then outcome 0 (Term t ∷ below) (Fault Epipe) else over_term t o).used u) < message_need limit below
    at true f again = no_fault Epipe f
    at false f again = over (is_terminal t o.said) f again

list_needs : (p : PrefixLaws) (s : SuffixLaws) (l : LineLaws) (w : Want) (t : Held) → IsStanding t.layers → FitsTop w t.layers → (read_of w t).said ≡ Need → length (drop (read_of w t).used t.unread) < need w t
unfolding read_list
list_needs p s l (want.Exact n) t k f h = dropped_short t.unread (read_of (want.Exact n) t).used n (exact_if t.layers t.unread t.receiving.done _ n refl h)
list_needs p s l (want.Message limit) t k f h = message_needs p s t.layers t.unread t.receiving.done limit k f h
list_needs p s l want.Request t k f h = dropped_short t.unread (read_of want.Request t).used 8194 (line_short l want.Request t.layers t.unread t.receiving.done f h)
list_needs p s l want.Status t k f h = dropped_short t.unread (read_of want.Status t).used 8194 (line_short l want.Status t.layers t.unread t.receiving.done f h)
list_needs p s l want.Field t k f h = dropped_short t.unread (read_of want.Field t).used 8194 (line_short l want.Field t.layers t.unread t.receiving.done f h)

looks_short : (p : PrefixLaws) (s : SuffixLaws) (l : LineLaws) (w : Want) (random : Stream) (t : Held) → IsStanding t.layers → FitsTop w t.layers → (read w random t).said ≡ Need → length (read w random t).stack.unread < need w t
unfolding read
looks_short p s l w random t k f h =
    let o : Outcome = read_of w t in
    let x : Looked = looked_over o random t in
    let first : length x.stack.unread < need w t = subst (λ v. length v < need w t) (sym (pongs_queue (ws_of t.layers) o.pings random (record t { layers = o.layers; unread = drop o.used t.unread })).unread) (list_needs p s l w t k f h) in
    subst (λ (y : Looked). length y.stack.unread < need w t) (sym (need_unbroken x h)) first

pub read_short : (p : PrefixLaws) (s : SuffixLaws) (l : LineLaws) (w : Want) (random : Stream) (t now : Held) → IsStanding t.layers → FitsTop w t.layers → now ≡ (read w random t).stack → (read w random t).said ≡ Need → length now.unread < need w t
read_short p s l w random t now k f e h = subst (λ (y : Held). length y.unread < need w t) (sym e) (looks_short p s l w random t k f h)
