-- What the calls that queue, attach or begin leave of a stack.
use Rattle.std.proofs.Common.{◌≡◌, ◌∙◌, ◌⊎◌, inl, inr, ℕ, ◌≤◌, List, [], ◌∷◌, length, Bool, true, false, ◌&&◌, ◌||◌, Option, Some, None, if◌then◌else◌, refl, sym, ap, subst, arith}
use Rattle.std.specs.Prelude.{nat_lt, Result, Ok, Err}
use Rattle.std.specs.List.{list_any}
use Rattle.std.proofs.lemmas.Bool.Decides.{nat_tests}
use Rattle.rand_core.specs.Stream.{Stream}
use Rattle.dill_base.specs.declared.errno.Errno.{Errno}
use Rattle.dill_base.specs.declared.errno.Errno.TheVariants.{Epipe, Econnreset}
use Rattle.dill_calls.specs.declared.call.Call.{Call}
use Rattle.dill_calls.specs.declared.call.Call.TheVariants as calls
use Rattle.dill_http.specs.Lines.{crlf}
use Rattle.dill_ws.specs.declared.side.Side.{Side}
use Rattle.dill_ws.specs.declared.side.Side.TheVariants.{Client, Server}
use Rattle.dill_stack.specs.declared.direction.Direction.{Direction}
use Rattle.dill_stack.specs.declared.layer.Layer.{Layer}
use Rattle.dill_stack.specs.declared.layer.Layer.TheVariants as layers_as
use Rattle.dill_stack.specs.declared.origin.Origin.TheVariants.{Plain, Ending}
use Rattle.dill_stack.specs.declared.parting.Parting.{Parting}
use Rattle.dill_stack.specs.declared.placed.Place.{Place}
use Rattle.dill_stack.specs.declared.placed.Place.TheVariants.{AmongFields, BehindEmpty}
use Rattle.dill_stack.specs.declared.task.Task.TheVariants.{Expects, Leaves}
use Rattle.dill_stack.specs.Attaching.{attach, greet_fault, expect_greet}
use Rattle.dill_stack.specs.Composed.{is_einval, is_any, is_refused_with, is_refused, is_invalid, is_too_long, message_limit, and_then, composed, spelled, random_after}
use Rattle.dill_stack.specs.Formed.{IsFormed}
use Rattle.dill_stack.specs.Greeting.{offer_fault, greeting, nonce, key_text, greet}
use Rattle.dill_stack.specs.Held.{Held, opening, is_broken}
use Rattle.dill_stack.specs.Layers.{Placed, Prefix, Suffix, Term, Http, Ws, fresh_ws, placed, IsStanding}
use Rattle.dill_stack.specs.Parting.{has_end_to_send, is_cut_off, parting_fault, with_close, with_parting, detach_start}
use Rattle.dill_stack.specs.Refusals.{first_fault, is_done_layer, is_done, attach_fault, send_fault, line_fault, done_fault}
use Rattle.dill_stack.specs.Sending.{is_sent, queued, unless, frame, with_line, line, with_end, done}
use Rattle.dill_stack.specs.Standing.{FitsBelow}
use Rattle.dill_stack.proofs.Attachings.{attach_formed}
use Rattle.dill_stack.proofs.Spellings.{framing_taken}
use Rattle.dill_rules.specs.Linking.{with_random, greet_by}
use Rattle.dill_rules.specs.Sockets.{handshake_fault}
use Rattle.dill_calls.specs.CallTable.{named_by}
use Rattle.laws_fits.specs.Fitting.{is_greeting, shakes, IsSolid}
use Rattle.laws_fits.proofs.Layers.{shape, place_shape, same_standing, same_formed}
use Rattle.laws_fits.proofs.Stacks.{Soft, soft_same, end_soft}

-- an item is queued, over layers of the same shape in a direction that is whole
pub record Queues (s t : Held) : Type 0 where
  pub layers : shape t.layers ≡ shape s.layers
  pub task : t.task ≡ s.task
  pub broken : t.sending.broken ≡ false

-- so it is seen as soft where something may be queued, and no head is awaited
pub queues_soft : (may : Type 0) (s t : Held) → may → (s.task ≡ Expects → ⊥) → Queues s t → Soft may s t
queues_soft may s t m idle q = record {
  layers = q.layers;
  leaves = λ e. q.task ∙ e;
  greets = λ e. ap is_greeting q.task ∙ e;
  expects = λ e. sym q.task ∙ e;
  solid = λ k. record {
    standing = same_standing s.layers t.layers q.layers k.standing;
    formed = same_formed s.layers t.layers q.layers k.formed;
    broken = λ e. let bad : true ≡ false = sym e ∙ q.broken in cc;
    expects = λ e. absurd (idle (sym q.task ∙ e));
  };
  sent = λ e. inr m;
}

unless_ok : {A : Type 0} (o : Option Errno) (r : Result A Errno) (x : A) → unless o r ≡ Ok x → (o ≡ None) × (r ≡ Ok x)
unless_ok None r x e = (refl, e)
unless_ok (Some y) r x e = cc

fault_none : (invalid busy over broken long : Bool) → first_fault invalid busy over broken long ≡ None → broken ≡ false
fault_none true busy over broken long e = cc
fault_none false true over broken long e = cc
fault_none false false true broken long e = cc
fault_none false false false true long e = cc
fault_none false false false false long e = refl

or_off : (a b : Bool) → (a || b) ≡ false → (a ≡ false) × (b ≡ false)
or_off true b e = cc
or_off false b e = (refl, e)

then_ok : {A B : Type 0} (r : Result A Errno) (f : A → Result B Errno) (x : B) → and_then r f ≡ Ok x → (a : A) × (f a ≡ Ok x)
then_ok (Ok a) f x e = (a, e)
then_ok (Err y) f x e = cc

ok_same : {A : Type 0} (x y : A) → ◌≡◌ {A = Result A Errno} (Ok x) (Ok y) → x ≡ y
ok_same x y e = cc

pub frame_queues : (m : List ℕ) (u : Stream) (s : Held) (now : Held × Stream) → frame m u s ≡ Ok now → Queues s now.0
unfolding frame send_fault
frame_queues m u s now e =
    let a = unless_ok _ (and_then (composed s.layers m u) (λ w. Ok (queued Plain w.0 s, w.1))) now e in
    let b = then_ok (composed s.layers m u) (λ w. Ok (queued Plain w.0 s, w.1)) now a.1 in
    let whole = fault_none (is_invalid s.layers m) false (is_done s) s.sending.broken (is_too_long s.layers m) a.0 in
    subst (λ (x : Held × Stream). Queues s x.0) (ok_same (queued Plain b.0.0 s, b.0.1) now b.1) (record { layers = refl; task = refl; broken = whole })

line_whole : (place : Place) (w : List ℕ) (s : Held) → s.sending.broken ≡ false → Queues s (with_line place w s)
line_whole place w s e = record { layers = place_shape place s.layers; task = refl; broken = e }

pub line_queues : (first : Bool) (w : List ℕ) (u : Stream) (s : Held) (now : Held × Stream) → with_random u (line first w s) ≡ Ok now → Queues s now.0
unfolding line line_fault
line_queues first w u s now e = at (line_fault first false s) refl e
  where
    at : (o : Option Errno) → line_fault first false s ≡ o → with_random u (unless o (Ok (with_line AmongFields w s))) ≡ Ok now → Queues s now.0
    at None f g =
        let whole = fault_none _ false (is_done s) s.sending.broken false f in
        subst (λ (x : Held × Stream). Queues s x.0) (ok_same (with_line AmongFields w s, u) now g) (line_whole AmongFields w s whole)
    at (Some x) f g = cc

pub done_queues : (u : Stream) (s : Held) (now : Held × Stream) → done u s ≡ Ok now → (Soft ⊥ s now.0) ⊎ ((s.layers ≡ [] → ⊥) × Queues s now.0)
unfolding done done_fault
done_queues u s now e =
    let a = unless_ok _ (with_end s.layers u s) now e in
    at s.layers refl (fault_none false false (is_done s) s.sending.broken false a.0) a.1
  where
    at : (xs : List Placed) → s.layers ≡ xs → s.sending.broken ≡ false → with_end xs u s ≡ Ok now → (Soft ⊥ s now.0) ⊎ ((xs ≡ [] → ⊥) × Queues s now.0)
    at [] f w g = inl (subst (λ (x : Held × Stream). Soft ⊥ s x.0) (ok_same (record s { sending = record s.sending { done = true } }, u) now g) (end_soft s))
    at (Http http ∷ below) f w g = inr (λ h. cc, subst (λ (x : Held × Stream). Queues s x.0) (ok_same (with_line BehindEmpty crlf s, u) now g) (line_whole BehindEmpty crlf s w))
    at (Term term ∷ below) f w g =
        let next : List ℕ × Stream → Result (Held × Stream) Errno = λ x. Ok (record (queued Ending x.0 s) { layers = Term (record term { done = true }) ∷ below }, x.1) in
        let b = then_ok (composed below term.terminal u) next now g in
        inr (
          λ h. cc,
          subst (λ (x : Held × Stream). Queues s x.0) (ok_same (record (queued Ending b.0.0 s) { layers = Term (record term { done = true }) ∷ below }, b.0.1) now b.1)
              (record { layers = sym (ap shape f); task = refl; broken = w }),
        )
    at (Prefix form ∷ below) f w g = inl (subst (λ (x : Held × Stream). Soft ⊥ s x.0) (ok_same (s, u) now g) (soft_same ⊥ s s refl))
    at (Suffix end ∷ below) f w g = inl (subst (λ (x : Held × Stream). Soft ⊥ s x.0) (ok_same (s, u) now g) (soft_same ⊥ s s refl))
    at (Ws ws ∷ below) f w g = inl (subst (λ (x : Held × Stream). Soft ⊥ s x.0) (ok_same (s, u) now g) (soft_same ⊥ s s refl))

-- ---- layers that are put on top

-- a layer stands on what it fits
placed_standing : (l : Layer) (layers : List Placed) → FitsBelow l layers → IsStanding layers → IsStanding (placed l ∷ layers)
placed_standing (layers_as.Prefix form) layers f k = f
placed_standing (layers_as.Suffix end) layers f k = f
placed_standing (layers_as.Term terminal) layers f k = (f, k)
placed_standing layers_as.Http layers f k = f
placed_standing (layers_as.Ws side text) layers f k = f

pub record Attached (s t : Held) : Type 0 where
  pub solid : IsSolid s → IsSolid t
  pub task : t.task ≡ s.task
  pub sent : is_sent t ≡ is_sent s

pub attached : (l : Layer) (s t : Held) → attach l s ≡ Ok t → FitsBelow l s.layers → Attached s t
unfolding attach
attached l s t e f =
    let a = unless_ok (attach_fault l false s) (Ok (record s { layers = placed l ∷ s.layers })) t e in
    let is : record s { layers = placed l ∷ s.layers } ≡ t = ok_same (record s { layers = placed l ∷ s.layers }) t a.1 in
    record {
      solid = λ k. record {
        standing = subst (λ (x : Held). IsStanding x.layers) is (placed_standing l s.layers f k.standing);
        formed = attach_formed l s t e k.formed;
        broken = λ g. ap is_sent (sym is) ∙ k.broken (ap (λ (x : Held). x.sending.broken) is ∙ g);
        expects = λ g. ap is_sent (sym is) ∙ k.expects (ap (λ (x : Held). x.task) is ∙ g);
      };
      task = ap (λ (x : Held). x.task) (sym is);
      sent = ap is_sent (sym is);
    }

-- a handshake has begun, over a bare link
pub record Begun (s t : Held) : Type 0 where
  pub solid : s.layers ≡ [] → is_sent s ≡ true → IsSolid t
  pub task : is_greeting t.task ≡ true

begun : (side : Side) (text : Bool) (s t : Held) → t.layers ≡ Ws (fresh_ws side text) ∷ s.layers → is_greeting t.task ≡ true → t.sending ≡ s.sending → s.sending.broken ≡ false → (t.task ≡ Expects → is_sent s ≡ true → is_sent t ≡ true) → Begun s t
begun side text s t layers task sending whole h = record {
  solid = λ bare sent. record {
    standing = subst IsStanding (sym layers) bare;
    formed = subst IsFormed (sym layers) (subst IsFormed (sym bare) tt);
    broken = λ e. let bad : true ≡ false = sym e ∙ ap (λ (d : Direction). d.broken) sending ∙ whole in cc;
    expects = λ e. h e sent;
  };
  task = task;
}

pub greets : (call : Call) (n : ℕ) (u : Stream) (s : Held) (now : Held × Stream) → named_by call ≡ Some n → shakes call ≡ true → greet_by call u s ≡ Ok now → Begun s now.0
unfolding greet expect_greet greet_fault
greets (calls.WsAttachClient number text resource host deadline) n u s now f g e =
    let a = unless_ok (offer_fault resource host s) (Ok (greeting text resource host (key_text u) s, (nonce u).1)) now e in
    let whole = or_off s.receiving.broken s.sending.broken (fault_none _ false (is_done s) (is_broken s) _ a.0) in
    subst (λ (x : Held × Stream). Begun s x.0) (ok_same (greeting text resource host (key_text u) s, (nonce u).1) now a.1)
    (begun Client text s (greeting text resource host (key_text u) s) refl refl refl whole.1 (λ i. cc))
greets (calls.WsAttachServer number text deadline) n u s now f g e = at (greet_fault false false s) refl e
  where
    t : Held
    t = record s { layers = Ws (fresh_ws Server text) ∷ s.layers; task = Expects }

    at : (o : Option Errno) → greet_fault false false s ≡ o → with_random u (unless o (Ok t)) ≡ Ok now → Begun s now.0
    at None g h =
        let whole = or_off s.receiving.broken s.sending.broken (fault_none false false (is_done s) (is_broken s) false g) in
        subst (λ (x : Held × Stream). Begun s x.0) (ok_same (t, u) now h) (begun Server text s t refl refl refl whole.1 (λ i sent. sent))
    at (Some x) g h = cc
greets _ n u s now f g e = cc

-- a handshake that isn't refused begins
pub greets_ok : (call : Call) (u : Stream) (s : Held) (x : Errno) → handshake_fault call s ≡ None → greet_by call u s ≡ Err x → ⊥
unfolding greet expect_greet
greets_ok (calls.WsAttachClient number text resource host deadline) u s x f e = at (offer_fault resource host s) f e
  where
    at : (o : Option Errno) → o ≡ None → unless {A = Held × Stream} o (Ok (greeting text resource host (key_text u) s, (nonce u).1)) ≡ Err x → ⊥
    at None g h = cc
    at (Some y) g h = cc
greets_ok (calls.WsAttachServer number text deadline) u s x f e = at (greet_fault false false s) f e
  where
    at : (o : Option Errno) → o ≡ None → with_random u (unless o (Ok (record s { layers = Ws (fresh_ws Server text) ∷ s.layers; task = Expects }))) ≡ Err x → ⊥
    at None g h = cc
    at (Some y) g h = cc
greets_ok call u s x f e = cc

-- ---- a detach begins

-- its own end is queued, and its layers keep their shape
pub record Leaving (s t : Held) : Type 0 where
  pub layers : shape t.layers ≡ shape s.layers
  pub task : t.task ≡ Leaves
  pub broken : t.sending.broken ≡ false

-- a terminal message is taken by the layers below
term_taken : (below : List Placed) (m : List ℕ) (u : Stream) → IsStanding below → length m ≤ 1024 → is_refused below m ≡ false → list_any is_done_layer below ≡ false → (w : List ℕ) × (composed below m u ≡ Ok (w, random_after below u))
unfolding send_fault is_invalid is_too_long is_refused
term_taken below m u k l r d = framing_taken (record opening { layers = below }) m u k free
  where
    never : (x : Result (List ℕ) Errno) → is_refused_with is_any x ≡ false → is_refused_with is_einval x ≡ false
    never (Ok w) e = refl
    never (Err y) e = cc

    long : (nat_lt message_limit (length m) || is_refused_with is_any (spelled [] below m)) ≡ false
    long = let short : nat_lt message_limit (length m) ≡ false = grind (arith, nat_tests, l) in ap (λ b. b || is_refused_with is_any (spelled [] below m)) short ∙ r

    free : send_fault m false (record opening { layers = below }) ≡ None
    free =
        ap (λ b. first_fault b false (list_any is_done_layer below) false (nat_lt message_limit (length m) || is_refused_with is_any (spelled [] below m))) (never (spelled [] below m) r)
        ∙ ap (λ b. first_fault false false b false (nat_lt message_limit (length m) || is_refused_with is_any (spelled [] below m))) d
        ∙ ap (λ b. first_fault false false false false b) long

parting_free : (broken cut : Bool) → (if broken then Some Econnreset else if cut then Some Epipe else None) ≡ None → (broken ≡ false) × (cut ≡ false)
parting_free true cut e = cc
parting_free false true e = cc
parting_free false false e = (refl, refl)

pub leaves : (p : Parting) (u : Stream) (s : Held) → IsSolid s → parting_fault s ≡ None → (now : Held × Stream) × (detach_start p u s ≡ Ok now) × Leaving s now.0
unfolding detach_start parting_fault
leaves p u s k f =
    let r = at s.layers refl k.standing k.formed free.1 in
    (r.0, ap (λ o. unless o (with_parting p s.layers u (record s { task = Leaves }))) f ∙ r.1, r.2)
  where
    t : Held
    t = record s { task = Leaves }

    free : (is_broken s ≡ false) × (is_cut_off s.layers s.sending.done ≡ false)
    free = parting_free (is_broken s) (is_cut_off s.layers s.sending.done) f

    whole : s.sending.broken ≡ false
    whole = (or_off s.receiving.broken s.sending.broken free.0).1

    at : (xs : List Placed) → s.layers ≡ xs → IsStanding xs → IsFormed xs → is_cut_off xs s.sending.done ≡ false → (now : Held × Stream) × (with_parting p xs u t ≡ Ok now) × Leaving s now.0
    at [] e st fm c = ((t, u), refl, record { layers = refl; task = refl; broken = whole })
    at (Prefix form ∷ below) e st fm c = ((t, u), refl, record { layers = refl; task = refl; broken = whole })
    at (Suffix end ∷ below) e st fm c = ((t, u), refl, record { layers = refl; task = refl; broken = whole })
    at (Ws ws ∷ below) e st fm c = (with_close p ws below u t, refl, record { layers = sym (ap shape e); task = refl; broken = whole })
    at (Http http ∷ below) e st fm c = by (has_end_to_send (Http http))
      where
        by : (b : Bool) → (now : Held × Stream) × ((if b then with_end (Http http ∷ below) u t else Ok (t, u)) ≡ Ok now) × Leaving s now.0
        by true = ((with_line BehindEmpty crlf t, u), refl, record { layers = place_shape BehindEmpty s.layers; task = refl; broken = whole })
        by false = ((t, u), refl, record { layers = refl; task = refl; broken = whole })
    at (Term term ∷ below) e st fm c = by (has_end_to_send (Term term)) c
      where
        taken : (s.sending.done || list_any is_done_layer below) ≡ false → (now : Held × Stream) × (with_end (Term term ∷ below) u t ≡ Ok now) × Leaving s now.0
        taken d =
            let w = term_taken below term.terminal u st.1 fm.0 fm.1 (or_off s.sending.done (list_any is_done_layer below) d).1 in
            let now : Held × Stream = (record (queued Ending w.0 t) { layers = Term (record term { done = true }) ∷ below }, random_after below u) in
            (now, ap (λ r. and_then r (λ x. Ok (record (queued Ending x.0 t) { layers = Term (record term { done = true }) ∷ below }, x.1))) w.1, record { layers = sym (ap shape e); task = refl; broken = whole })

        by : (b : Bool) → (b && (s.sending.done || list_any is_done_layer below)) ≡ false → (now : Held × Stream) × ((if b then with_end (Term term ∷ below) u t else Ok (t, u)) ≡ Ok now) × Leaving s now.0
        by true d = taken d
        by false d = ((t, u), refl, record { layers = refl; task = refl; broken = whole })
