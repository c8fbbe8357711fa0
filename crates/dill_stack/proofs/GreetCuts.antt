-- A handshake is answered the same under any cutting of what comes, and wherever the peer's end comes.
use Rattle.std.proofs.Common.{◌≡◌, List, ℕ, sym, ap, ◌∙◌, refl, Bool, true, false, not, if◌then◌else◌}
use Rattle.std.proofs.lemmas.List.{drop-append-le}
use Rattle.rand_core.specs.Stream.{Stream}
use Rattle.dill_base.specs.declared.errno.Errno.{Errno}
use Rattle.dill_base.specs.declared.errno.Front.{Front}
use Rattle.dill_base.specs.declared.errno.Front.TheVariants as front
use Rattle.dill_calls.specs.declared.answer.Answer.{Answer}
use Rattle.dill_calls.specs.declared.answer.Answer.TheVariants.{Number}
use Rattle.dill_ws.specs.HandshakeLaws.{HandshakeLaws}
use Rattle.dill_ws.specs.declared.request.Asked.{Asked}
use Rattle.dill_ws.specs.declared.request.Asked.TheVariants as asked
use Rattle.dill_ws.specs.Handshakes.{accept_text, client_front, server_front}
use Rattle.dill_stack.specs.declared.want.ReadOut.TheVariants.{Given, Need, Fault}
use Rattle.dill_stack.specs.Layers.{Placed}
use Rattle.dill_stack.specs.Held.{Held, Task, Idle, Greets, Expects, Answers, Leaves}
use Rattle.dill_stack.specs.Sending.{is_sent}
use Rattle.dill_stack.specs.Receiving.{Looked}
use Rattle.dill_stack.specs.Greeting.{Heard, greeted, heard_by, by_server, by_client, unmet, met_after}
use Rattle.dill_stack.specs.Again.{still}
use Rattle.dill_stack.specs.Cutting.{greet_look, GreetsAlike}
use Rattle.dill_stack.proofs.DropAgain.{head_waits}
use Rattle.dill_stack.proofs.Events.{more, Awaited, still_awaited, looks_alike}

not_given : {A : Type 0} (a : Answer) → Given a ≡ Need → A
not_given a h = absurd (never h)
  where
    never : Given a ≡ Need → ⊥
    never h = cc

not_fault : {A : Type 0} (e : Errno) → Fault e ≡ Need → A
not_fault e h = absurd (never h)
  where
    never : Fault e ≡ Need → ⊥
    never h = cc

-- any layers will do
abbrev Any : List Placed → Type 0
Any layers = Unit {0}

-- a look that left the stack
left_still : (random : Stream) (s : Held) (h : Heard) → greeted s ≡ h → h.stack ≡ s → h.said ≡ Need → greet_look random s ≡ still random s
left_still random s h e k n = ap (λ (x : Heard). let l : Looked = record { stack = x.stack; said = x.said; random = random } in l) e ∙ ap (λ (t : Held). let l : Looked = record { stack = t; said = h.said; random = random } in l) k ∙ ap (λ x. let l : Looked = record { stack = s; said = x; random = random } in l) n

heard_at : (s : Held) (t : Task) → s.task ≡ t → greeted s ≡ heard_by t s
unfolding greeted
heard_at s t e = ap (λ x. heard_by x s) e

-- what is looked at, where the task is known
abbrev Waits : Stream → Held → Heard → Type 0
Waits random s h = h.said ≡ Need → Awaited greet_look Any random s

still_waits : (random : Stream) (s : Held) (t : Task) (h : Heard) → s.task ≡ t → heard_by t s ≡ h → h.stack ≡ s → Waits random s h
still_waits random s t h e q k n = still_awaited greet_look Any random s tt (left_still random s h (heard_at s t e ∙ q) k n)

server_waits : (random : Stream) (s : Held) (accept : List ℕ) (b : Bool) (f : Front) → s.task ≡ Greets accept → is_sent s ≡ b → server_front accept s.unread ≡ f → Waits random s (if b then by_server f s else record { stack = s; said = Need })
server_waits random s accept true (front.Whole x y z) t r e = λ n. not_given (Number 0) n
server_waits random s accept true (front.Fault x) t r e = λ n. not_fault x n
server_waits random s accept true front.Need t r e = still_waits random s (Greets accept) (unmet s) t (ap (λ b. if b then by_server (server_front accept s.unread) s else record { stack = s; said = Need }) r ∙ ap (λ f. by_server f s) e) refl
server_waits random s accept false f t r e = still_waits random s (Greets accept) (record { stack = s; said = Need }) t (ap (λ b. if b then by_server (server_front accept s.unread) s else record { stack = s; said = Need }) r) refl

-- a server that has the client's head waits until its own has gone
answers_wait : (s : Held) → s.task ≡ Answers → is_sent s ≡ false → greeted s ≡ record { stack = s; said = Need }
answers_wait s t r = heard_at s Answers t ∙ ap (λ b. if b then met_after 0 s else record { stack = s; said = Need }) r

client_waits : (laws : HandshakeLaws) (random : Stream) (s : Held) (f : Asked) → s.task ≡ Expects → client_front s.unread ≡ f → Waits random s (by_client f s)
client_waits laws random s (asked.Whole key used) t e = λ n.
    let now : Held → Held = λ x. (by_client (asked.Whole key used) x).stack in
    let looks : Held → Looked = λ x. record { stack = x; said = Need; random = random } in
    let heard : (x : Held) → x.task ≡ Expects → client_front x.unread ≡ asked.Whole key used → greet_look random x ≡ looks (now x) = λ x k q. ap (λ (h : Heard). let l : Looked = record { stack = h.stack; said = h.said; random = random } in l) (heard_at x Expects k ∙ ap (λ f. by_client f x) q) in
    let first : greet_look random s ≡ looks (now s) = heard s t e in
    record {
      stands = tt;
      alike = λ v b.
          heard (more v b s) t (laws.client_stays s.unread v (asked.Whole key used) e tt)
          ∙ ap (λ u. looks (record (now (more v b s)) { unread = u })) (drop-append-le used s.unread v (laws.client_there s.unread key used e))
          ∙ sym (ap (λ (h : Heard). let l : Looked = record { stack = h.stack; said = h.said; random = random } in l) (answers_wait (more v b (now s)) refl (ap not (head_waits s.queue (accept_text key)))))
          ∙ ap (λ (l : Looked). greet_look l.random (more v b l.stack)) (sym first);
    }
client_waits laws random s asked.Need t e = still_waits random s Expects (unmet s) t (ap (λ f. by_client f s) e) refl
client_waits laws random s (asked.Fault x) t e = λ n. not_fault x n

own_waits : (random : Stream) (s : Held) (b : Bool) → s.task ≡ Answers → is_sent s ≡ b → Waits random s (if b then met_after 0 s else record { stack = s; said = Need })
own_waits random s true t r = λ n. not_given (Number 0) n
own_waits random s false t r = still_waits random s Answers (record { stack = s; said = Need }) t (ap (λ b. if b then met_after 0 s else record { stack = s; said = Need }) r) refl

task_waits : (laws : HandshakeLaws) (random : Stream) (s : Held) (t : Task) → s.task ≡ t → Waits random s (heard_by t s)
task_waits laws random s Idle e = still_waits random s Idle (record { stack = s; said = Need }) e refl refl
task_waits laws random s (Greets accept) e = server_waits random s accept (is_sent s) (server_front accept s.unread) e refl refl
task_waits laws random s Expects e = client_waits laws random s (client_front s.unread) e refl
task_waits laws random s Answers e = own_waits random s (is_sent s) e refl
task_waits laws random s Leaves e = still_waits random s Leaves (record { stack = s; said = Need }) e refl refl

pub greets_alike : HandshakeLaws → GreetsAlike
greets_alike laws s = looks_alike greet_look Any (λ random t k n. task_waits laws random t t.task refl (ap (λ (h : Heard). h.said) (sym (heard_at t t.task refl)) ∙ n)) s tt
