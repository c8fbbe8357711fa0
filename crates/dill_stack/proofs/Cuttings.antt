-- A receive is answered the same under any cutting of what comes, and wherever the peer's end comes.
use Rattle.std.proofs.Common.{◌≡◌, ◌≤◌, ◌+◌, ◌-◌, [], ◌∷◌, ◌++◌, List, ℕ, zero, suc, length, drop, arith, sym, ap, ◌∙◌, refl, subst, Bool, true, false, ◌||◌, Option, Some, None, if◌then◌else◌}
use Rattle.std.proofs.lemmas.List.{length-drop, drop-append-le}
use Rattle.rand_core.specs.Stream.{Stream}
use Rattle.dill_base.specs.declared.errno.Errno.TheVariants.{Epipe}
use Rattle.dill_frames.specs.Prefix.{prefix_front}
use Rattle.dill_frames.specs.Suffix.{suffix_front}
use Rattle.dill_stack.specs.declared.want.Want.{Want}
use Rattle.dill_stack.specs.declared.want.Want.TheVariants as want
use Rattle.dill_stack.specs.declared.want.ReadOut.TheVariants.{Need, Fault}
use Rattle.dill_stack.specs.Layers.{WsLayer, Placed, Prefix, Suffix, Term, Http, Ws, IsStanding}
use Rattle.dill_stack.specs.Held.{Held}
use Rattle.dill_stack.specs.WsReading.{Passed, passed, pass_by_front, ws_front, Whole, Shown, shown}
use Rattle.dill_stack.specs.Read.{Outcome, outcome, behind_passed, read_ws, over_term, is_terminal, read_message, read_list}
use Rattle.dill_stack.specs.Receiving.{Looked, ws_of, answers_pings, with_pongs_of, ponged, settled, read_of, read}
use Rattle.dill_stack.specs.Refusals.{is_met}
use Rattle.dill_stack.specs.Staying.{FrontStays}
use Rattle.dill_stack.specs.Stepping.{pass_of_ws, next_pass, passed_on, stepped}
use Rattle.dill_stack.specs.Again.{still}
use Rattle.dill_stack.specs.Cutting.{ReadsAlike}
use Rattle.dill_stack.proofs.Events.{more, with_more, Awaited, still_awaited, looks_alike}
use Rattle.dill_stack.proofs.Again.{by_front_still, exact_still, line_again, looked_still, passed_nothing, shown_still, terminal_said}
use Rattle.dill_stack.proofs.Passers.{standing_with}
use Rattle.dill_stack.proofs.Passings.{PassAt, pass_at}
use Rattle.dill_stack.proofs.StepReads.{Moves, moves, IsPass, is_pass, Left, step_left, read_steps}

no_end : {A : Type 0} → Fault Epipe ≡ Need → A
no_end h = absurd (never h)
  where
    never : Fault Epipe ≡ Need → ⊥
    never h = cc

or_true : (b : Bool) (c : Bool) → b ≡ false → (b || c) ≡ c
or_true true c e = cc
or_true false c e = refl

-- where nothing is passed and more is awaited, nothing changes
pub message_still : (layers : List Placed) (u : List ℕ) (ended : Bool) (limit : ℕ) → IsStanding layers → (is_met layers ≡ false → pass_of_ws limit u (ws_of layers) ≡ None) → (read_message layers u ended limit).said ≡ Need → read_message layers u ended limit ≡ outcome 0 layers Need
message_still [] u ended limit k n h = refl
message_still (Prefix form ∷ below) u ended limit k n h = by_front_still (Prefix form ∷ below) u ended (prefix_front form u limit) h
message_still (Suffix end ∷ below) u ended limit k n h = by_front_still (Suffix end ∷ below) u ended (suffix_front end u limit) h
message_still (Http http ∷ below) u ended limit k n h = refl
message_still (Term t ∷ below) u ended limit k n h = at t.met refl h (message_still below u ended limit k.1)
  where
    o : Outcome
    o = read_message below u ended limit

    at : (b : Bool) → t.met ≡ b → (if b then outcome 0 (Term t ∷ below) (Fault Epipe) else over_term t o).said ≡ Need → ((is_met below ≡ false → pass_of_ws limit u (ws_of below) ≡ None) → o.said ≡ Need → o ≡ outcome 0 below Need) → (if b then outcome 0 (Term t ∷ below) (Fault Epipe) else over_term t o) ≡ outcome 0 (Term t ∷ below) Need
    at true e f again = no_end f
    at false e f again =
        let x = terminal_said t o (is_terminal t o.said) refl f in
        x.0 ∙ ap (λ (y : Outcome). record y { layers = Term t ∷ y.layers }) (again (λ m. n (or_true t.met (is_met below) e ∙ m)) x.1)
message_still (Ws ws ∷ below) u ended limit k n h = bare below k n h
  where
    bare : (below : List Placed) → below ≡ [] → (is_met (Ws ws ∷ below) ≡ false → pass_of_ws limit u (Some ws) ≡ None) → (read_ws below ws u ended limit).said ≡ Need → read_ws below ws u ended limit ≡ outcome 0 (Ws ws ∷ below) Need
    bare (y ∷ below) k n h = cc
    bare [] k n h = at ws.met refl h
      where
        p : Passed
        p = passed limit ws u

        unmet : ws.met ≡ false → (behind_passed [] p (shown limit ended p.ws (drop p.used u))).said ≡ Need → behind_passed [] p (shown limit ended p.ws (drop p.used u)) ≡ outcome 0 (Ws ws ∷ []) Need
        unmet e f =
            let none = passed_nothing limit ws u (n (or_true ws.met false e)) in
            let said : (shown limit ended ws u).said ≡ Need = ap (λ (x : Passed). (shown limit ended x.ws (drop x.used u)).said) (sym none) ∙ f in
            ap (λ (x : Passed). behind_passed [] x (shown limit ended x.ws (drop x.used u))) none
            ∙ ap (λ (s : Shown). let y : Outcome = record { used = 0 + s.used; layers = Ws s.ws ∷ []; pings = []; said = s.said } in y) (shown_still limit ended ws u said)

        at : (b : Bool) → ws.met ≡ b → (if b then outcome 0 (Ws ws ∷ []) (Fault Epipe) else behind_passed [] p (shown limit ended p.ws (drop p.used u))).said ≡ Need → (if b then outcome 0 (Ws ws ∷ []) (Fault Epipe) else behind_passed [] p (shown limit ended p.ws (drop p.used u))) ≡ outcome 0 (Ws ws ∷ []) Need
        at true e f = no_end f
        at false e f = unmet e f

passless : (limit : ℕ) (s : Held) → next_pass limit s ≡ None → is_met s.layers ≡ false → pass_of_ws limit s.unread (ws_of s.layers) ≡ None
passless limit s e m = sym (ap (λ b. if b then None else pass_of_ws limit s.unread (ws_of s.layers)) m) ∙ e

read_still : (w : Want) (random : Stream) (s : Held) → read_of w s ≡ outcome 0 s.layers Need → read w random s ≡ still random s
unfolding read
read_still w random s e = ap settled (looked_still (read_of w s) random s e)

said_of : (w : Want) (random : Stream) (s : Held) → (read w random s).said ≡ (read_of w s).said
unfolding read
said_of w random s = refl

-- more bytes don't change what is passed
pub pass_stays : (f : FrontStays) (limit : ℕ) (s : Held) (v : List ℕ) (e : Bool) (p : Passed) → next_pass limit s ≡ Some p → next_pass limit (more v e s) ≡ Some p
pass_stays f limit s v b p e =
    let i : IsPass limit s p = is_pass limit s p e in
    let a : PassAt limit i.ws s.unread p = pass_at limit i.ws s.unread p (ws_front limit i.ws s.unread) refl i.pass in
    let same : ws_front limit i.ws (s.unread ++ v) ≡ Whole a.part a.used = f limit i.ws s.unread v (Whole a.part a.used) a.whole tt in
    ap (λ b. if b then None else pass_of_ws limit (s.unread ++ v) (ws_of s.layers)) i.unmet
    ∙ ap (pass_of_ws limit (s.unread ++ v)) i.there
    ∙ ap (pass_by_front i.ws) (same ∙ sym a.whole)
    ∙ i.pass

pongs_more : (o : Option WsLayer) (pings : List (List ℕ)) (random : Stream) (s : Held) (v : List ℕ) (e : Bool) → with_pongs_of o pings random (more v e s) ≡ with_more v e (with_pongs_of o pings random s)
pongs_more None pings random s v e = refl
pongs_more (Some ws) pings random s v e = at (answers_pings ws s)
  where
    at : (c : Bool) → ◌≡◌ {A = Held × Stream} (if c then (record (more v e s) { queue = (ponged ws.side pings (s.queue, random)).0 }, (ponged ws.side pings (s.queue, random)).1) else (more v e s, random)) (with_more v e (if c then (record s { queue = (ponged ws.side pings (s.queue, random)).0 }, (ponged ws.side pings (s.queue, random)).1) else (s, random)))
    at true = refl
    at false = refl

pub step_more : (random : Stream) (s : Held) (v : List ℕ) (e : Bool) (p : Passed) → p.used ≤ length s.unread → stepped p random (more v e s) ≡ with_more v e (stepped p random s)
step_more random s v e p l = ap (λ u. with_pongs_of (ws_of s.layers) p.pings random (record (passed_on p (more v e s)) { unread = u })) (drop-append-le p.used s.unread v l) ∙ pongs_more (ws_of s.layers) p.pings random (passed_on p s) v e

list_still : (limit : ℕ) (s : Held) → IsStanding s.layers → next_pass limit s ≡ None → (read_of (want.Message limit) s).said ≡ Need → read_of (want.Message limit) s ≡ outcome 0 s.layers Need
unfolding read_list
list_still limit s k e g = message_still s.layers s.unread s.receiving.done limit k (passless limit s e) g

none_awaited : (limit : ℕ) (random : Stream) (s : Held) → IsStanding s.layers → (read (want.Message limit) random s).said ≡ Need → next_pass limit s ≡ None → Awaited (read (want.Message limit)) IsStanding random s
none_awaited limit random s k h e = still_awaited (read (want.Message limit)) IsStanding random s k (read_still (want.Message limit) random s (list_still limit s k e (sym (said_of (want.Message limit) random s) ∙ h)))

pass_awaited : (f : FrontStays) (limit : ℕ) (random : Stream) (s : Held) (p : Passed) → IsStanding s.layers → next_pass limit s ≡ Some p → Awaited (read (want.Message limit)) IsStanding (stepped p random s).1 (stepped p random s).0 → Awaited (read (want.Message limit)) IsStanding random s
pass_awaited f limit random s p k e a =
    let i : IsPass limit s p = is_pass limit s p e in
    let w : Moves i.ws s.unread p = moves limit i.ws s.unread p i.pass in
    let r : read (want.Message limit) random s ≡ read (want.Message limit) (stepped p random s).1 (stepped p random s).0 = read_steps limit random s p k e in
    record {
      stands = subst (λ (l : Looked). IsStanding l.stack.layers) (sym r) a.stands;
      alike = λ v b.
          read_steps limit random (more v b s) p k (pass_stays f limit s v b p e)
          ∙ ap (λ (n : Held × Stream). read (want.Message limit) n.1 n.0) (step_more random s v b p w.there)
          ∙ a.alike v b
          ∙ ap (λ (l : Looked). read (want.Message limit) l.random (more v b l.stack)) (sym r);
    }

abbrev Again : ℕ → ℕ → Type 0
Again most limit = (random : Stream) (s : Held) → length s.unread ≤ most → IsStanding s.layers → (read (want.Message limit) random s).said ≡ Need → Awaited (read (want.Message limit)) IsStanding random s

step_awaited : (f : FrontStays) (most limit : ℕ) (random : Stream) (s : Held) (o : Option Passed) → length s.unread ≤ suc most → IsStanding s.layers → (read (want.Message limit) random s).said ≡ Need → next_pass limit s ≡ o → Again most limit → Awaited (read (want.Message limit)) IsStanding random s
step_awaited f most limit random s None l k h e again = none_awaited limit random s k h e
step_awaited f most limit random s (Some p) l k h e again =
    let i : IsPass limit s p = is_pass limit s p e in
    let w : Moves i.ws s.unread p = moves limit i.ws s.unread p i.pass in
    let t : Held = (stepped p random s).0 in
    let left : Left p s t = step_left p random s in
    let size : length t.unread ≡ length s.unread - p.used = ap length left.unread ∙ length-drop p.used s.unread in
    pass_awaited f limit random s p k e
    (again (stepped p random s).1 t (omega (arith, l, size, w.some)) (subst IsStanding (sym left.layers) (standing_with p.ws s.layers k)) (ap (λ (x : Looked). x.said) (sym (read_steps limit random s p k e)) ∙ h))

first_awaited : (limit : ℕ) (random : Stream) (s : Held) (o : Option Passed) → length s.unread ≤ 0 → IsStanding s.layers → (read (want.Message limit) random s).said ≡ Need → next_pass limit s ≡ o → Awaited (read (want.Message limit)) IsStanding random s
first_awaited limit random s None l k h e = none_awaited limit random s k h e
first_awaited limit random s (Some p) l k h e =
    let i : IsPass limit s p = is_pass limit s p e in
    let w : Moves i.ws s.unread p = moves limit i.ws s.unread p i.pass in
    absurd (omega (arith, l, w.some, w.there))

message_awaited : (f : FrontStays) (most limit : ℕ) → Again most limit
message_awaited f zero limit random s l k h = first_awaited limit random s (next_pass limit s) l k h refl
message_awaited f (suc most) limit random s l k h = step_awaited f most limit random s (next_pass limit s) l k h refl (message_awaited f most limit)

other_still : (w : Want) (s : Held) → ((limit : ℕ) → w ≡ want.Message limit → ⊥) → (read_of w s).said ≡ Need → read_of w s ≡ outcome 0 s.layers Need
unfolding read_list
other_still (want.Exact n) s m h = exact_still s.layers s.unread s.receiving.done n h
other_still (want.Message limit) s m h = absurd (m limit refl)
other_still want.Request s m h = line_again want.Request s.layers s.unread s.receiving.done h
other_still want.Status s m h = line_again want.Status s.layers s.unread s.receiving.done h
other_still want.Field s m h = line_again want.Field s.layers s.unread s.receiving.done h

other_awaited : (w : Want) (random : Stream) (s : Held) → ((limit : ℕ) → w ≡ want.Message limit → ⊥) → IsStanding s.layers → (read w random s).said ≡ Need → Awaited (read w) IsStanding random s
other_awaited w random s m k h = still_awaited (read w) IsStanding random s k (read_still w random s (other_still w s m (sym (said_of w random s) ∙ h)))

awaited : (f : FrontStays) (w : Want) (random : Stream) (s : Held) → IsStanding s.layers → (read w random s).said ≡ Need → Awaited (read w) IsStanding random s
awaited f (want.Message limit) random s k h = message_awaited f (length s.unread) limit random s (omega arith) k h
awaited f (want.Exact n) random s k h = other_awaited (want.Exact n) random s (λ limit e. differ e) k h
  where
    differ : {limit : ℕ} → want.Exact n ≡ want.Message limit → ⊥
    differ e = cc
awaited f want.Request random s k h = other_awaited want.Request random s (λ limit e. differ e) k h
  where
    differ : {limit : ℕ} → want.Request ≡ want.Message limit → ⊥
    differ e = cc
awaited f want.Status random s k h = other_awaited want.Status random s (λ limit e. differ e) k h
  where
    differ : {limit : ℕ} → want.Status ≡ want.Message limit → ⊥
    differ e = cc
awaited f want.Field random s k h = other_awaited want.Field random s (λ limit e. differ e) k h
  where
    differ : {limit : ℕ} → want.Field ≡ want.Message limit → ⊥
    differ e = cc

pub reads_alike : FrontStays → ReadsAlike
reads_alike f w s k = looks_alike (read w) IsStanding (λ random t l h. awaited f w random t l h) s k
