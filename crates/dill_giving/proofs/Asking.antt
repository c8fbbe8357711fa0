-- What a call asks of the stack of its link, done on the link.
use Rattle.std.proofs.Common.{◌≡◌, ◌∙◌, ℕ, List, Bool, true, false, Option, Some, None, Result, Ok, Err, OnOk, OnErr, ap, if◌then◌else◌}
use Rattle.rand_core.specs.Stream.{Stream}
use Rattle.dill_base.specs.declared.errno.Errno.{Errno}
use Rattle.dill_base.specs.declared.errno.NoMemory.{NoMemory}
use Rattle.dill_base.specs.Maps.{if_some}
use Rattle.dill_calls.specs.declared.call.Call.{Call}
use Rattle.dill_calls.specs.CallTable.{word_of, named_by}
use Rattle.dill_http.specs.Heads.{Said}
use Rattle.dill_links.specs.Lending.{set_row}
use Rattle.dill_stack.specs.declared.parting.Parting.{Parting}
use Rattle.dill_stack.specs.Interface.{Held, frame, done, detach_start}
use Rattle.dill_rules.specs.Directions.{message_of, line_said, is_end, parting_of}
use Rattle.dill_rules.specs.Links.{Link, look, with_stack}
use Rattle.dill_rules.specs.Linking.{if_ok, greet_by, put, ask_stack, queue, queue_end, queue_line, queue_message}
use Rattle.dill_rules.specs.Sockets.{stack_of}
use Rattle.dill_rules.specs.World.{World}
use Rattle.dill_stack.specs.Rooms.{Stocked}
use Rattle.dill_links.specs.Lending.{stack_of as stocked_on}
use Rattle.dill_sockets.specs.Entering.{Enters, line_due, attach_due, queue_due, detach_due}
use Rattle.dill_giving.specs.Entering.{IsPut, IsLeft, Puts, Asks, lent, start_handshake, start_leaving}
use Rattle.dill_giving.specs.Finding.{link_at}
use Rattle.dill_giving.proofs.Named.{put_there, put_same, stack_there}

module _ {V : Type 0} (w : World V) (call : Call) where
  -- the link that is there has done what was asked
  module _ (link : ℕ) (x y : Link) (random left : Stream) (at : link_at w (named_by call) ≡ Some link) (there : look w.links link ≡ Some x) where
    refused : ◌≡◌ {A = Held × Stream} (y.stack, left) (x.stack, random) → y ≡ record x { stack = y.stack } → lent left (record w { links = set_row w.links link y }) ≡ lent random w
    refused e rest =
        let stack : y.stack ≡ x.stack = ap (λ p. p.0) e in
        let same : y ≡ x = rest ∙ ap (λ s. record x { stack = s }) stack in
        let drawn : left ≡ random = ap (λ p. p.1) e in
        ap (λ r. lent r (record w { links = set_row w.links link y })) drawn ∙ ap (λ u. lent random u) (put_same w link x y there same)

    done_by : (number : ℕ) (r : Result (Held × Stream) Errno) → link_at w (Some number) ≡ Some link → IsPut r x y random left → lent left (record w { links = set_row w.links link y }) ≡ if_ok r (lent random w) (put (lent random w) number)
    done_by number (Ok now) e p =
        ap (λ u. lent left u) (put_there (lent random w) (Some number) link x y (with_stack (λ old. y.stack)) e there p.rest)
        ∙ ap (λ u. put (lent random w) number u) p.done
    done_by number (Err errno) e p = refused p.done p.rest

    ask_at : (o : Option ℕ) (so : Option Held) (f : Stream → Held → Result (Held × Stream) Errno) → link_at w o ≡ Some link → so ≡ Some x.stack → IsPut (f random x.stack) x y random left → lent left (record w { links = set_row w.links link y }) ≡ if_some o (lent random w) (λ number. if_some so (lent random w) (λ s. if_ok (f random s) (lent random w) (put (lent random w) number)))
    ask_at None so f e is p = cc
    ask_at (Some number) so f e is p = rw is (done_by number (f random x.stack) e p)

    pub ask_put : (f : Stream → Held → Result (Held × Stream) Errno) → IsPut (f random x.stack) x y random left → lent left (record w { links = set_row w.links link y }) ≡ ask_stack (lent random w) call f
    ask_put f p = ask_at (named_by call) (stack_of w call) f at (stack_there w call link x at there) p

    queue_at : (o : Option (List ℕ)) (l : Option Said) (b : Bool)
        → IsPut (if_some o (if_some l (if b then done random x.stack else Ok (x.stack, random)) (λ said. line_due said random x.stack)) (λ m. frame m random x.stack)) x y random left
        → lent left (record w { links = set_row w.links link y }) ≡ if_some o (if_some l (if b then queue_end (lent random w) call else lent random w) (queue_line (lent random w) call)) (queue_message (lent random w) call)
    queue_at (Some m) l b p = ask_put (λ random s. frame m random s) p
    queue_at None (Some said) b p = ask_put (λ random s. line_due said random s) p
    queue_at None None true p = ask_put done p
    queue_at None None false p = refused p.done p.rest

    pub queue_put : IsPut (queue_due call random x.stack) x y random left → lent left (record w { links = set_row w.links link y }) ≡ queue (lent random w) call
    queue_put p = queue_at (message_of call) (line_said call) (is_end (word_of call)) p

    leaving_at : (o : Option Parting) → IsPut (if_some o (Ok (x.stack, random)) (λ parting. detach_start parting random x.stack)) x y random left → lent left (record w { links = set_row w.links link y }) ≡ if_some o (lent random w) (λ parting. ask_stack (lent random w) call (λ random s. detach_start parting random s))
    leaving_at None p = refused p.done p.rest
    leaving_at (Some parting) p = ask_put (λ random s. detach_start parting random s) p

    pub leaving_put : IsPut (detach_due call random x.stack) x y random left → lent left (record w { links = set_row w.links link y }) ≡ start_leaving (lent random w) call
    leaving_put p = leaving_at (parting_of call) p

    left_so : IsLeft x y random left → IsLeft w (record w { links = set_row w.links link y }) random left
    left_so p = record { same = put_same w link x y there p.same; kept = p.kept }

    pub queue_asks : (result : Result (Unit {0}) NoMemory) → Puts (queue_due call random x.stack) result x y random left → Asks (λ v. queue v call) result w (record w { links = set_row w.links link y }) random left
    queue_asks (Ok done) p = queue_put p
    queue_asks (Err lack) p = left_so p

    pub leaving_asks : (result : Result (Unit {0}) NoMemory) → Puts (detach_due call random x.stack) result x y random left → Asks (λ v. start_leaving v call) result w (record w { links = set_row w.links link y }) random left
    leaving_asks (Ok done) p = leaving_put p
    leaving_asks (Err lack) p = left_so p

    pub greet_asks : (result : Result (Unit {0}) NoMemory) → Puts (greet_by call random x.stack) result x y random left → Asks (λ v. start_handshake v call) result w (record w { links = set_row w.links link y }) random left
    greet_asks (Ok done) p = ask_put (greet_by call) p
    greet_asks (Err lack) p = left_so p

  -- a layer draws no random number
  module _ (link : ℕ) (x y : Link) (at : link_at w (named_by call) ≡ Some link) (there : look w.links link ≡ Some x) where
    pub layer_ok : (result : Result (Unit {0}) NoMemory) → Puts (attach_due call w.random x.stack) result x y w.random w.random → OnOk result (record w { links = set_row w.links link y } ≡ ask_stack w call (attach_due call))
    layer_ok (Ok done) p = ask_put link x y w.random w.random at there (attach_due call) p
    layer_ok (Err lack) p = tt

    pub layer_err : (result : Result (Unit {0}) NoMemory) → Puts (attach_due call w.random x.stack) result x y w.random w.random → OnErr result (record w { links = set_row w.links link y } ≡ w)
    layer_err (Ok done) p = tt
    layer_err (Err lack) p = put_same w link x y there p.same

-- what is done to the stack on a link is done to the link
pub puts : (due : Result (Held × Stream) Errno) (result : Result (Unit {0}) NoMemory) (x : Link) (s : Stocked) (random left : Stream) → Enters due result (stocked_on x) s random left → Puts due result x (record x { stack = s.held; most = s.most }) random left
puts due (Ok done) x s random left p = record { done = p.done; rest = ap (λ t. record x { stack = t.held; most = t.most }) p.rest }
puts due (Err lack) x s random left p = record { same = ap (λ t. record x { stack = t.held; most = t.most }) p.same; kept = p.kept }

-- what follows from what is had of a result
pub on_ok_so : {P Q : Type 0} (result : Result (Unit {0}) NoMemory) → (P → Q) → OnOk result P → OnOk result Q
on_ok_so (Ok done) f p = f p
on_ok_so (Err lack) f p = tt

pub on_err_so : {P Q : Type 0} (result : Result (Unit {0}) NoMemory) → (P → Q) → OnErr result P → OnErr result Q
on_err_so (Ok done) f p = tt
on_err_so (Err lack) f p = f p
