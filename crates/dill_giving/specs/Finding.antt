-- The link that a handle names, where it is there.
use Rattle.std.specs.Prelude.{ℕ, Option, Some, None, is_some, if◌then◌else◌}
use Rattle.dill_base.specs.Maps.{if_some}
use Rattle.dill_rules.specs.Links.{Link, look}
use Rattle.dill_rules.specs.Sockets.{link_number, on_named}
use Rattle.dill_rules.specs.World.{World}

module _ {V : Type 0} where
  -- the number of the link that a live number names, where the link is there
  abbrev pub link_here : World V → ℕ → Option ℕ
  link_here w number = if_some (link_number w number) None (λ link. if is_some (look w.links link) then Some link else None)

  -- the same of the handle that a call names, if it names one
  abbrev pub link_at : World V → Option ℕ → Option ℕ
  link_at w handle = if_some handle None (link_here w)

  -- the link that a handle names is changed
  abbrev pub on_handle : World V → Option ℕ → (Link → Link) → World V
  on_handle w handle f = if_some handle w (λ number. on_named w number f)
