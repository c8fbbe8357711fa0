use Rattle.std.proofs.Common.{◌≡◌, ◌≤◌, ◌∙◌, sym, ap, subst, refl, length, true}
use Rattle.dill_base.specs.declared.errno.Errno.TheVariants.{Epipe}
use Rattle.dill_stack.specs.declared.want.ReadOut.TheVariants.{Fault}
use Rattle.dill_stack.specs.Rooms.{Stocked}
use Rattle.dill_stack.specs.Dropping.{Stops}
use Rattle.dill_stack.specs.Read.{outcome, no_more}
use Rattle.dill_stack.specs.Receiving.{ws_of}
use Rattle.dill_stack.specs.Standing.{base_layers, ends_of}
use Rattle.dill_stack.specs.Taking.{any_met, base_front, behind}
use Rattle.dill_stack.specs.Leaving.{step_of, outcome_of, next_dropped, is_top_met, sifted_message}
use Rattle.dill_stack.proofs.Drops.{drops_cut, drops_whole, drops_need, drops_fault, framing_under, tall_of, held_stop}
use Rattle.dill_stack.proofs.stack.Stack.drop_under_end.Goals as goal

-- an end below was met before
was_cut : (c : goal.Then-any_met) → next_dropped c.args.self.now.held ≡ Stops (outcome 0 c.args.self.now.held.layers (Fault Epipe))
was_cut c = rw (← c.self.view_is) (drops_cut c.self.inside.terms.items (base_layers c.self.inside.base) c.self.inside.unread.items c.self.inside.receiving.done (ap is_top_met (sym c.as_slice.ensures.value) ∙ sym c.is_top_met.ensures ∙ c.if-is_top_met.false) (ap any_met (sym c.as_slice-2.ensures.value) ∙ sym c.any_met.ensures ∙ c.if-any_met.true))

pub returns-then-any_met-clause-step : goal.returns-then-any_met-clause-step
returns-then-any_met-clause-step c = sym (ap step_of (was_cut c))

pub returns-then-any_met-clause-after : goal.returns-then-any_met-clause-after
returns-then-any_met-clause-after c = held_stop c.args.self.now (next_dropped c.args.self.now.held) (Fault Epipe) (was_cut c)

was_whole : (c : goal.After-drop_message) → next_dropped c.args.self.now.held ≡ sifted_message c.in-Whole.from c.in-Whole.to c.in-Whole.used c.args.self.now.held
was_whole c =
    let l : 1 ≤ length c.self.inside.terms.items = tall_of c.self.inside.terms.items c.self.inside.base (subst (λ (s : Stocked). 1 ≤ length (ends_of s.held.layers)) (sym c.self.view_is) c.requires.top) in
    rw (← c.self.view_is) (drops_whole c.self.inside.terms.items c.self.inside.base c.self.inside.unread.items c.self.inside.receiving.done c.in-Whole.from c.in-Whole.to c.in-Whole.used l (framing_under c.self.inside.terms.items c.self.inside.base l c.self.invariant.0.based (ap (λ s. ws_of s.held.layers) c.self.view_is ∙ c.requires.plain)) (ap any_met (sym c.as_slice-2.ensures.value) ∙ sym c.any_met.ensures ∙ c.if-any_met.false) (c.in-Whole.ensures.front ∙ ap (λ x. base_front c.self.inside.base x 16384) c.as_slice-3.ensures))

was_open : (c : goal.After-no_more) → next_dropped c.args.self.now.held ≡ Stops (outcome 0 c.args.self.now.held.layers (no_more c.args.self.now.held.receiving.done true c.args.self.now.held.unread))
was_open c =
    let l : 1 ≤ length c.self.inside.terms.items = tall_of c.self.inside.terms.items c.self.inside.base (subst (λ (s : Stocked). 1 ≤ length (ends_of s.held.layers)) (sym c.self.view_is) c.requires.top) in
    rw (← c.self.view_is) (drops_need c.self.inside.terms.items c.self.inside.base c.self.inside.unread.items c.self.inside.receiving.done l (framing_under c.self.inside.terms.items c.self.inside.base l c.self.invariant.0.based (ap (λ s. ws_of s.held.layers) c.self.view_is ∙ c.requires.plain)) (ap any_met (sym c.as_slice-2.ensures.value) ∙ sym c.any_met.ensures ∙ c.if-any_met.false) (c.in-Need.ensures.front ∙ ap (λ x. base_front c.self.inside.base x 16384) c.as_slice-3.ensures))

said_open : (c : goal.After-no_more) → c.no_more.result ≡ no_more c.args.self.now.held.receiving.done true c.args.self.now.held.unread
said_open c = rw (c.no_more.ensures, c.as_slice-in-Need.ensures) (ap (λ (s : Stocked). no_more s.held.receiving.done true s.held.unread) c.self.view_is)

was_fault : (c : goal.In-Fault) → next_dropped c.args.self.now.held ≡ Stops (outcome 0 c.args.self.now.held.layers (Fault c.in-Fault.e))
was_fault c =
    let l : 1 ≤ length c.self.inside.terms.items = tall_of c.self.inside.terms.items c.self.inside.base (subst (λ (s : Stocked). 1 ≤ length (ends_of s.held.layers)) (sym c.self.view_is) c.requires.top) in
    rw (← c.self.view_is) (drops_fault c.self.inside.terms.items c.self.inside.base c.self.inside.unread.items c.self.inside.receiving.done c.in-Fault.e l (framing_under c.self.inside.terms.items c.self.inside.base l c.self.invariant.0.based (ap (λ s. ws_of s.held.layers) c.self.view_is ∙ c.requires.plain)) (ap any_met (sym c.as_slice-2.ensures.value) ∙ sym c.any_met.ensures ∙ c.if-any_met.false) (c.in-Fault.ensures.front ∙ ap (λ x. base_front c.self.inside.base x 16384) c.as_slice-3.ensures))

pub returns-in-Whole-clause-step : goal.returns-in-Whole-clause-step
returns-in-Whole-clause-step c = c.drop_message.ensures.step ∙ sym (ap step_of (was_whole c))

pub returns-in-Whole-clause-after : goal.returns-in-Whole-clause-after
returns-in-Whole-clause-after c = c.drop_message.ensures.after ∙ sym (ap (λ d. record c.args.self.now { held = behind (outcome_of d) c.args.self.now.held }) (was_whole c))

pub returns-in-Need-clause-step : goal.returns-in-Need-clause-step
returns-in-Need-clause-step c = rw (was_open c) (rw (said_open c) refl)

pub returns-in-Need-clause-after : goal.returns-in-Need-clause-after
returns-in-Need-clause-after c = held_stop c.args.self.now (next_dropped c.args.self.now.held) (no_more c.args.self.now.held.receiving.done true c.args.self.now.held.unread) (was_open c)

pub returns-in-Fault-clause-step : goal.returns-in-Fault-clause-step
returns-in-Fault-clause-step c = sym (ap step_of (was_fault c))

pub returns-in-Fault-clause-after : goal.returns-in-Fault-clause-after
returns-in-Fault-clause-after c = held_stop c.args.self.now (next_dropped c.args.self.now.held) (Fault c.in-Fault.e) (was_fault c)
