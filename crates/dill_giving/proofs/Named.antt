-- The link that a handle names, and the world in which it has changed.
use Rattle.std.proofs.Common.{◌≡◌, ◌∙◌, ℕ, Bool, true, false, Option, Some, None, is_some, option_map, refl, sym, ap, if◌then◌else◌}
use Rattle.dill_base.specs.Maps.{if_some}
use Rattle.dill_calls.specs.declared.call.Call.{Call}
use Rattle.dill_calls.specs.CallTable.{named_by}
use Rattle.dill_links.specs.Lending.{set_row}
use Rattle.dill_stack.specs.Interface.{Held}
use Rattle.dill_rules.specs.Links.{Link, look, is_link}
use Rattle.dill_rules.specs.Sockets.{link_number, link_named, stack_of, on_link}
use Rattle.dill_rules.specs.World.{World}
use Rattle.dill_giving.specs.Finding.{link_at, on_handle}
use Rattle.dill_giving.proofs.Changing.{changed, absent, kept}

same_number : (b : Bool) (n link : ℕ) → (if b then Some n else None) ≡ Some link → n ≡ link
same_number true n link e = cc
same_number false n link e = cc

is_absent : (o : Option Link) (n : ℕ) → (if is_some o then Some n else None) ≡ None → o ≡ None
is_absent None n e = refl
is_absent (Some x) n e = cc

module _ {V : Type 0} (w : World V) where
  named_at : (o : Option ℕ) (link : ℕ) (f : Link → Link) → if_some o None (λ n. if is_some (look w.links n) then Some n else None) ≡ Some link → if_some o w (λ n. on_link w n f) ≡ on_link w link f
  named_at None link f e = cc
  named_at (Some n) link f e = ap (λ m. on_link w m f) (same_number (is_some (look w.links n)) n link e)

  -- the link that was found is the one that is changed
  pub found : (handle : Option ℕ) (link : ℕ) (f : Link → Link) → link_at w handle ≡ Some link → on_handle w handle f ≡ on_link w link f
  found None link f e = cc
  found (Some number) link f e = named_at (link_number w number) link f e

  lost_at : (o : Option ℕ) (f : Link → Link) → if_some o None (λ n. if is_some (look w.links n) then Some n else None) ≡ None → if_some o w (λ n. on_link w n f) ≡ w
  lost_at None f e = refl
  lost_at (Some n) f e = ap (λ all. record w { links = record w.links { all = all } }) (absent (is_link n) f w.links.all (is_absent (look w.links n) n e))

  -- where none was found nothing changes
  pub lost : (handle : Option ℕ) (f : Link → Link) → link_at w handle ≡ None → on_handle w handle f ≡ w
  lost None f e = refl
  lost (Some number) f e = lost_at (link_number w number) f e

  -- the link that stands there now is what becomes of it
  pub put_there : (handle : Option ℕ) (link : ℕ) (x y : Link) (f : Link → Link) → link_at w handle ≡ Some link → look w.links link ≡ Some x → y ≡ f x → record w { links = set_row w.links link y } ≡ on_handle w handle f
  put_there handle link x y f e there is = ap (λ all. record w { links = record w.links { all = all } }) (changed (is_link link) f x y is w.links.all there) ∙ sym (found handle link f e)

  -- it stands there as it did
  pub put_same : (link : ℕ) (x y : Link) → look w.links link ≡ Some x → y ≡ x → record w { links = set_row w.links link y } ≡ w
  put_same link x y there is = ap (λ all. record w { links = record w.links { all = all } }) (changed (is_link link) (λ z. z) x y is w.links.all there ∙ kept (is_link link) w.links.all)

  abbrev stack_on : Option ℕ → Option Held
  stack_on handle = if_some handle None (λ number. option_map (λ x. x.stack) (link_named w number))

  there_at : (o : Option ℕ) (link : ℕ) (x : Link) → if_some o None (λ n. if is_some (look w.links n) then Some n else None) ≡ Some link → look w.links link ≡ Some x → option_map (λ x. x.stack) (if_some o None (look w.links)) ≡ Some x.stack
  there_at None link x e there = cc
  there_at (Some n) link x e there = ap (λ m. option_map (λ x. x.stack) (look w.links m)) (same_number (is_some (look w.links n)) n link e) ∙ ap (option_map (λ x. x.stack)) there

  stack_on_there : (handle : Option ℕ) (link : ℕ) (x : Link) → link_at w handle ≡ Some link → look w.links link ≡ Some x → stack_on handle ≡ Some x.stack
  stack_on_there None link x e there = cc
  stack_on_there (Some number) link x e there = there_at (link_number w number) link x e there

  -- the stack that the call is on is that of the link
  pub stack_there : (call : Call) (link : ℕ) (x : Link) → link_at w (named_by call) ≡ Some link → look w.links link ≡ Some x → stack_of w call ≡ Some x.stack
  stack_there call link x e there = stack_on_there (named_by call) link x e there

  -- the link of the handle that the call names
  pub named_there : (call : Call) (handle at : Option ℕ) (link : ℕ) → handle ≡ named_by call → at ≡ link_at w handle → at ≡ Some link → link_at w (named_by call) ≡ Some link
  named_there call handle at link e f is = ap (link_at w) (sym e) ∙ (sym f ∙ is)
