-- No link is there that a wait could tell of.
use Rattle.std.proofs.Common.{◌≡◌, ◌∙◌, ℕ, List, [], ◌∷◌, fold, max, refl, sym, ap}
use Rattle.dill_kernel.specs.declared.ready.Ready.{Ready}
use Rattle.dill_rules.specs.Hearing.{heat_ready}
use Rattle.dill_rules.specs.Links.{no_links, change_link, heated}
use Rattle.dill_rules.specs.World.{World, begin, from_start}
use Rattle.laws_queue.specs.Kept.{kept_woke}
use Rattle.dill_world.specs.Store.{Store, world_of}
use Rattle.dill_core.specs.Holding.{Holding, kept_of}

module _ {V : Type 0} where
  heats_none : (ready : List Ready) (w : World V) → w.links ≡ no_links → fold heat_ready w ready ≡ w
  heats_none [] w none = refl
  heats_none (one ∷ ready) w none =
      let same : heat_ready w one ≡ w = ap (λ l. record w { links = change_link l one.link (heated one.read one.write) }) none ∙ ap (λ l. record w { links = l }) (sym none) in
      ap (λ (x : World V). fold heat_ready x ready) same ∙ heats_none ready w none

  -- where there are no links, after a wait the moment is the greatest that was told, and a round begins
  pub woken_held : (h : Holding V) (told : ℕ) (ready : List Ready) → h.world.links ≡ no_links → kept_woke (kept_of h) told ready ≡ record (kept_of h) { world = record (from_start (begin (kept_of h).world)) { moment = max h.world.moment told } }
  woken_held h told ready none =
      ap (λ (w : World V). record (kept_of h) { world = record (from_start w) { moment = max h.world.moment told } }) (heats_none ready (begin (kept_of h).world) none)

  -- the world once its moment is the greatest that was told
  pub moved_world : (h : Holding V) (begun restarted moved : Store V) (told moment : ℕ) → world_of begun ≡ begin (world_of h.world) → world_of restarted ≡ from_start (world_of begun) → world_of moved ≡ record (world_of restarted) { moment = moment } → moment ≡ max h.world.moment told
      → world_of moved ≡ record (from_start (begin (world_of h.world))) { moment = max h.world.moment told }
  moved_world h begun restarted moved told moment b r m e =
      m ∙ ap (λ (w : World V). record w { moment = moment }) (r ∙ ap from_start b) ∙ ap (λ n. record (from_start (begin (world_of h.world))) { moment = n }) e
