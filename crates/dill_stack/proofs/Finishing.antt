-- A detach that was answered is over.
use Rattle.std.proofs.Common.{◌≡◌, ◌∙◌, sym, ap, refl, Bool, true, false, if◌then◌else◌}
use Rattle.rand_core.specs.Stream.{Stream}
use Rattle.dill_stack.specs.declared.want.ReadOut.{ReadOut}
use Rattle.dill_stack.specs.declared.want.ReadOut.TheVariants.{Need}
use Rattle.dill_stack.specs.Held.{Held, Idle}
use Rattle.dill_stack.specs.Rooms.{Stocked}
use Rattle.dill_stack.specs.Dropping.{is_given}
use Rattle.dill_stack.specs.Leaving.{all_dropped}
use Rattle.dill_stack.specs.Parting.{detach_finish, left_over}
use Rattle.dill_stack.specs.Receiving.{Looked, looked_over}
use Rattle.dill_stack.specs.Sending.{is_sent}

rested : (b : Bool) (x : Held) (said : ReadOut) (random : Stream) → (if b then (let l : Looked = record { stack = record x { task = Idle }; said = said; random = random } in l) else record { stack = x; said = said; random = random }) ≡ record { stack = if b then record x { task = Idle } else x; said = said; random = random }
rested true x said random = refl
rested false x said random = refl

pub finishes : (random left : Stream) (s : Held) (mid now : Stocked) (said : ReadOut) (b : Bool) → is_sent s ≡ true → looked_over (all_dropped s) random s ≡ record { stack = mid.held; said = said; random = left } → b ≡ is_given said → now ≡ record mid { held = if b then record mid.held { task = Idle } else mid.held } → detach_finish random s ≡ record { stack = now.held; said = said; random = left }
unfolding detach_finish
finishes random left s mid now said b e l g n =
    ap (λ c. if c then left_over (looked_over (all_dropped s) random s) else (let x : Looked = record { stack = s; said = Need; random = random } in x)) e
    ∙ ap left_over l
    ∙ rested (is_given said) mid.held said left
    ∙ ap (λ c. let x : Looked = record { stack = if c then record mid.held { task = Idle } else mid.held; said = said; random = left } in x) (sym g)
    ∙ ap {A = Held} (λ h. let x : Looked = record { stack = h; said = said; random = left } in x) (sym (ap {A = Stocked} (λ x. x.held) n))

pub rests : (from mid now : Stocked) (b : Bool) → mid ≡ record from { held = mid.held } → now ≡ record mid { held = if b then record mid.held { task = Idle } else mid.held } → now ≡ record from { held = now.held }
rests from mid now b r n =
    let h : Held = if b then record mid.held { task = Idle } else mid.held in
    let e : now.held ≡ h = ap {A = Stocked} (λ x. x.held) n in
    n ∙ ap {A = Stocked} (λ x. record x { held = h }) r ∙ ap {A = Held} (λ x. record from { held = x }) (sym e)
