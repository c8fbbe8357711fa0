-- Handshakes, and what becomes of them.
use Rattle.std.proofs.Common.{◌≡◌, ◌≤◌, ◌<◌, length, ◌∷◌, ◌&&◌, ◌∙◌, [], sym, ap, refl, subst, arith, ℕ, List, Bool, true, false, not, Option, Some, None, Result, Ok, Err, if◌then◌else◌}
use Rattle.rand_core.specs.Stream.{Stream}
use Rattle.dill_base.specs.declared.errno.Errno.{Errno}
use Rattle.dill_base.specs.declared.errno.Errno.TheVariants.{Einval, Emsgsize}
use Rattle.dill_http.specs.Bytes.{is_resource}
use Rattle.dill_ws.specs.declared.side.Side.TheVariants.{Server}
use Rattle.dill_ws.specs.Handshakes.{client_front, server_front, client_lines, any_key, are_too_long, head_fault_of}
use Rattle.dill_stack.specs.declared.fault.StackFault.{StackFault}
use Rattle.dill_stack.specs.declared.fault.StackFault.TheVariants.{Refused, NoMemory}
use Rattle.dill_base.specs.declared.errno.Front.{Front}
use Rattle.dill_base.specs.declared.errno.Front.TheVariants as front
use Rattle.dill_calls.specs.declared.answer.Answer.{Answer}
use Rattle.dill_calls.specs.declared.answer.Answer.TheVariants.{Number}
use Rattle.dill_ws.specs.declared.request.Asked.{Asked}
use Rattle.dill_ws.specs.declared.request.Asked.TheVariants as asked
use Rattle.dill_ws.specs.HandshakeLaws.{HandshakeLaws}
use Rattle.dill_stack.specs.declared.want.ReadOut.TheVariants.{Need, Given, Fault}
use Rattle.dill_stack.specs.Needs.{needs_head, wants_head}
use Rattle.dill_stack.specs.Sending.{is_sent}
use Rattle.dill_stack.specs.Attaching.{greet_fault, expect_greet}
use Rattle.dill_stack.specs.Composed.{is_any, is_einval}
use Rattle.dill_stack.specs.Doing.{IsDone, Changes}
use Rattle.dill_stack.specs.Greeting.{Heard, by_server, by_client, met_after, greet, greeted, greeting, heard_by, key_text, nonce, offer_fault}
use Rattle.dill_stack.specs.Held.{Held, Task, Idle, Greets, Expects, Answers, Leaves, is_broken}
use Rattle.dill_stack.specs.Layers.{Ws, fresh_ws}
use Rattle.dill_stack.specs.Refusals.{first_fault, is_done}
use Rattle.dill_stack.specs.Refusing.{is_fault_with}
use Rattle.dill_stack.specs.Rooms.{Stocked}

offers_if : (seen long over broken : Bool) → first_fault (is_fault_with is_einval (if seen then (if long then Some Emsgsize else None) else Some Einval)) false over broken (is_fault_with is_any (if seen then (if long then Some Emsgsize else None) else Some Einval)) ≡ first_fault (not seen) false over broken long
offers_if true true over broken = refl
offers_if true false over broken = refl
offers_if false long over broken = refl

pub offers_by : (r h : List ℕ) (own : Option Errno) (s : Held) → own ≡ head_fault_of r h → first_fault (is_fault_with is_einval own) false (is_done s) (is_broken s) (is_fault_with is_any own) ≡ offer_fault r h s
unfolding head_fault_of greet_fault
offers_by r h own s e = rw e (offers_if (is_resource r && is_resource h) (are_too_long (client_lines r h any_key)) (is_done s) (is_broken s))

pub greet_refused : (text : Bool) (r h : List ℕ) (random : Stream) (s : Held) (e : Errno) → offer_fault r h s ≡ Some e → greet text r h random s ≡ Err e
unfolding greet
greet_refused text r h random s e k = rw k refl

pub greets : (text : Bool) (r h : List ℕ) (random : Stream) (s : Held) → offer_fault r h s ≡ None → greet text r h random s ≡ Ok (greeting text r h (key_text random) s, (nonce random).1)
unfolding greet
greets text r h random s k = rw k refl

-- A client's head is in the queue, and its layer on the link.
pub has_greeted : (text : Bool) (r h key : List ℕ) (due : Result (Held × Stream) Errno) (before now : Stocked) (random left : Stream) → due ≡ Ok (greeting text r h (key_text random) before.held, (nonce random).1) → now ≡ record before { held = greeting text r h key before.held } → key ≡ key_text random → left ≡ (nonce random).1 → IsDone due before now left
has_greeted text r h key due before now random left d n k l =
    let e : now.held ≡ greeting text r h key before.held = ap {A = Stocked} (λ x. x.held) n in
    record {
      due = d ∙ ap {A = List ℕ} (λ x. Ok (greeting text r h x before.held, (nonce random).1)) (sym k) ∙ ap {A = Held} (λ x. Ok (x, (nonce random).1)) (sym e) ∙ ap {A = Stream} (λ x. Ok (now.held, x)) (sym l);
      rest = n ∙ ap {A = Held} (λ x. record before { held = x }) (sym e);
    }

pub expect_refused : (text : Bool) (s : Held) (e : Errno) → greet_fault false false s ≡ Some e → expect_greet text s ≡ Err e
unfolding expect_greet
expect_refused text s e h = rw h refl

pub expects : (text : Bool) (s : Held) → greet_fault false false s ≡ None → expect_greet text s ≡ Ok (record s { layers = Ws (fresh_ws Server text) ∷ s.layers; task = Expects })
unfolding expect_greet
expects text s h = rw h refl

-- A server's layer is on the link, and waits.
pub has_expected : (text : Bool) (before mid now : Stocked) → expect_greet text before.held ≡ Ok (record before.held { layers = Ws (fresh_ws Server text) ∷ before.held.layers; task = Expects }) → before.held.layers ≡ [] → mid ≡ record before { held = record before.held { layers = Ws (fresh_ws Server text) ∷ [] } } → now ≡ record mid { held = record mid.held { task = Expects } } → (expect_greet text before.held ≡ Ok now.held) × (now ≡ record before { held = now.held })
has_expected text before mid now d b p n =
    let w : now ≡ record before { held = record before.held { layers = Ws (fresh_ws Server text) ∷ []; task = Expects } } = n ∙ ap {A = Stocked} (λ x. record x { held = record x.held { task = Expects } }) p in
    let e : now.held ≡ record before.held { layers = Ws (fresh_ws Server text) ∷ []; task = Expects } = ap {A = Stocked} (λ x. x.held) w in
    (d ∙ ap (λ l. Ok (record before.held { layers = Ws (fresh_ws Server text) ∷ l; task = Expects })) b ∙ ap {A = Held} Ok (sym e), w ∙ ap {A = Held} (λ x. record before { held = x }) (sym e))

pub not_expected : (e : StackFault) (due : Result Held Errno) (x : Held) (before now : Stocked) → due ≡ Ok x → e ≡ NoMemory → now ≡ before → Changes due (Err e) before now
not_expected NoMemory due x before now d m h = (rw d refl, h)
not_expected (Refused f) due x before now d m h = cc

pub hears : (s : Held) (t : Task) → s.task ≡ t → greeted s ≡ heard_by t s
unfolding greeted
hears s t h = ap (λ x. heard_by x s) h

-- a look, where no handshake has begun
abbrev pub unheard : Held → Heard
unheard s = record { stack = s; said = Need }

pub hears_none : (s : Held) (t : Task) → ((a : List ℕ) → t ≡ Greets a → ⊥) → (t ≡ Expects → ⊥) → (t ≡ Answers → ⊥) → heard_by t s ≡ unheard s
hears_none s Idle g e a = refl
hears_none s (Greets x) g e a = absurd (g x refl)
hears_none s Expects g e a = absurd (e refl)
hears_none s Answers g e a = absurd (a refl)
hears_none s Leaves g e a = refl

not_given : {A : Type 0} (a : Answer) → Given a ≡ Need → A
not_given a h = absurd (never h)
  where
    never : Given a ≡ Need → ⊥
    never h = cc

not_fault : {A : Type 0} (e : Errno) → Fault e ≡ Need → A
not_fault e h = absurd (never h)
  where
    never : Fault e ≡ Need → ⊥
    never h = cc

no_head : {A : Type 0} → false ≡ true → A
no_head h = absurd (never h)
  where
    never : false ≡ true → ⊥
    never h = cc

-- where a look awaits a head, few bytes are unread
abbrev Shortly : Heard → Type 0
Shortly h = h.said ≡ Need → needs_head h.stack ≡ true → length h.stack.unread < 16384

server_short : (laws : HandshakeLaws) (s : Held) (accept : List ℕ) (f : Front) → server_front accept s.unread ≡ f → Shortly (by_server f s)
server_short laws s accept (front.Whole x y z) e = λ h k. not_given (Number 0) h
server_short laws s accept front.Need e = λ h k. laws.server_waits accept s.unread e
server_short laws s accept (front.Fault x) e = λ h k. not_fault x h

client_short : (laws : HandshakeLaws) (s : Held) (f : Asked) → client_front s.unread ≡ f → Shortly (by_client f s)
client_short laws s (asked.Whole key used) e = λ h k. no_head k
client_short laws s asked.Need e = λ h k. laws.client_waits s.unread e
client_short laws s (asked.Fault x) e = λ h k. not_fault x h

-- no head is awaited by this task
unsent_short : (s : Held) (t : Task) → s.task ≡ t → wants_head t (is_sent s) ≡ false → Shortly (record { stack = s; said = Need })
unsent_short s t e w = λ h k. no_head (sym w ∙ ap (λ x. wants_head x (is_sent s)) (sym e) ∙ k)

by_task : (laws : HandshakeLaws) (s : Held) (t : Task) → s.task ≡ t → Shortly (heard_by t s)
by_task laws s Idle e = unsent_short s Idle e refl
by_task laws s (Greets accept) e = at (is_sent s) refl
  where
    at : (b : Bool) → is_sent s ≡ b → Shortly (if b then by_server (server_front accept s.unread) s else record { stack = s; said = Need })
    at true r = server_short laws s accept (server_front accept s.unread) refl
    at false r = unsent_short s (Greets accept) e r
by_task laws s Expects e = client_short laws s (client_front s.unread) refl
by_task laws s Answers e = at (is_sent s)
  where
    at : (b : Bool) → Shortly (if b then met_after 0 s else record { stack = s; said = Need })
    at true = λ h k. not_given (Number 0) h
    at false = unsent_short s Answers e refl
by_task laws s Leaves e = unsent_short s Leaves e refl

-- A handshake that awaits a head leaves fewer bytes unread than a head may have.
pub heard_short : (laws : HandshakeLaws) (s t : Held) → t ≡ (greeted s).stack → (greeted s).said ≡ Need → needs_head t ≡ true → length t.unread < 16384
heard_short laws s t e h k =
    let all : Shortly (greeted s) = subst (λ (x : Heard). Shortly x) (sym (hears s s.task refl)) (by_task laws s s.task refl) in
    subst (λ (x : Held). length x.unread < 16384) (sym e) (all h (ap needs_head (sym e) ∙ k))
