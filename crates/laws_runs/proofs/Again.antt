-- Closing the root once more changes nothing but the notes.
use Rattle.std.proofs.Common.{◌≡◌, ◌∙◌, ℕ, List, [], ◌∷◌, ◌++◌, length, map, find, filter, Bool, true, false, cond, Some, refl, sym, ap, subst}
use Rattle.std.proofs.lemmas.Bool.{and_parts}
use Rattle.std.proofs.lemmas.List.{append-nil}
use Rattle.std.specs.List.{list_all}
use Rattle.dill_calls.specs.Program.{Program}
use Rattle.dill_scope.specs.declared.forest.Bundle.{Bundle}
use Rattle.dill_scope.specs.Scopes as scopes
use Rattle.dill_base.specs.Maps.{if_some, change}
use Rattle.dill_rules.specs.declared.coroutine.Coroutine.{Coroutine}
use Rattle.dill_rules.specs.declared.coroutine.Mode.{Mode}
use Rattle.dill_rules.specs.declared.coroutine.Mode.TheVariants as modes
use Rattle.dill_rules.specs.Links.{rested}
use Rattle.dill_rules.specs.World.{World, begin, from_start}
use Rattle.dill_rules.specs.Settling.{finish, give_first, settle, settle_one, settle_within, IsSettled}
use Rattle.dill_rules.specs.Giving.{give}
use Rattle.dill_rules.specs.State.{lined, lined_mode, is_fresh, fresh}
use Rattle.laws_queue.specs.Kept.{Kept, queued, kept_shut}
use Rattle.laws_sound.specs.Linkless.{IsLinkless}
use Rattle.laws_queue.proofs.Settling.{within_same}
use Rattle.laws_sound.proofs.Calming.{begin_settled}
use Rattle.laws_sound.proofs.Linkless.{begin_linkless}
use Rattle.laws_sound.proofs.Steps.{pass_linkless}
use Rattle.laws_sound.specs.Laws.{is_closing, is_resting, IsAtRest}
use Rattle.laws_debt.specs.Closing.{IsClosing}

-- a bundle that is closing closes no further
closes_same : (name : ℕ) (xs : List Bundle) → if_some (find (scopes.is_bundle name) xs) false (λ x. x.closing) ≡ true → change (scopes.is_bundle name) scopes.as_closing xs ≡ xs
closes_same name [] e = refl
closes_same name (x ∷ xs) e = at (scopes.is_bundle name x) e (closes_same name xs)
  where
    at : (found : Bool) → if_some (cond found (Some x) (find (scopes.is_bundle name) xs)) false (λ y. y.closing) ≡ true
        → (if_some (find (scopes.is_bundle name) xs) false (λ y. y.closing) ≡ true → change (scopes.is_bundle name) scopes.as_closing xs ≡ xs)
        → cond found (scopes.as_closing x ∷ xs) (x ∷ change (scopes.is_bundle name) scopes.as_closing xs) ≡ x ∷ xs
    at true f rest = ap (λ b. record x { closing = b } ∷ xs) (sym f)
    at false f rest = ap (λ ys. x ∷ ys) (rest f)

-- who rests has no new answer
lined_rest : (mode : Mode) → is_resting mode ≡ true → lined_mode mode ≡ mode
lined_rest (modes.Pending call) e = refl
lined_rest (modes.Answered word answer) e = refl
lined_rest (modes.Ending outcome) e = refl
lined_rest modes.Running e = cc
lined_rest (modes.Fresh word answer) e = cc

fresh_rest : (mode : Mode) → is_resting mode ≡ true → is_fresh mode ≡ false
fresh_rest (modes.Pending call) e = refl
fresh_rest (modes.Answered word answer) e = refl
fresh_rest (modes.Ending outcome) e = refl
fresh_rest modes.Running e = cc
fresh_rest (modes.Fresh word answer) e = cc

module _ {V : Type 0} where
  -- where nothing is due nothing settles
  one_same : (w : World V) → IsSettled w → settle_one w ≡ w
  one_same w settled = ap (λ o. if_some o (give_first w) (finish w)) settled.endings ∙ ap (λ o. if_some o w (λ x. give w x.0 x.1 x.2)) settled.answers

  settle_same : (w : World V) → IsLinkless w → IsSettled w → settle w ≡ w
  settle_same w linkless settled =
      let within = within_same (length w.coroutines) w (one_same w settled) in
      pass_linkless (settle_within (length w.coroutines) w) (subst IsLinkless (sym within) linkless) ∙ within

  -- the world before it settles
  again_world : (w : World V) → IsLinkless w → is_closing w.scopes 0 ≡ true → record (from_start (begin w)) { scopes = scopes.close w.scopes 0 } ≡ begin w
  again_world w linkless closing =
      ap (λ xs. record (from_start (begin w)) { scopes = record w.scopes { bundles = xs } }) (closes_same 0 w.scopes.bundles closing)
      ∙ ap (λ x. record (begin w) { place = x; links = rested w.links }) (sym linkless.place)
      ∙ ap (λ l. record (begin w) { links = l }) (ap rested linkless.links ∙ sym linkless.links)

  lined_same : (cs : List (Coroutine V)) → list_all (λ c. is_resting c.mode) cs ≡ true → map lined cs ≡ cs
  lined_same [] e = refl
  lined_same (c ∷ cs) e =
      let h = and_parts (is_resting c.mode) (list_all (λ c. is_resting c.mode) cs) e in
      ap (λ m. record c { mode = m } ∷ map lined cs) (lined_rest c.mode h.0) ∙ ap (λ ds. c ∷ ds) (lined_same cs h.1)

  nobody_fresh : (cs : List (Coroutine V)) → list_all (λ c. is_resting c.mode) cs ≡ true → filter (λ c. is_fresh c.mode) cs ≡ []
  nobody_fresh [] e = refl
  nobody_fresh (c ∷ cs) e =
      let h = and_parts (is_resting c.mode) (list_all (λ c. is_resting c.mode) cs) e in
      ap (λ b. cond b (c ∷ filter (λ c. is_fresh c.mode) cs) (filter (λ c. is_fresh c.mode) cs)) (fresh_rest c.mode h.0) ∙ nobody_fresh cs h.1

  queued_same : (w : World V) (ready : List ℕ) (early : ℕ) → IsAtRest w → queued w ready early ≡ record { world = w; ready = ready; early = early }
  queued_same w ready early rest =
      ap (λ cs. record { world = record w { coroutines = cs }; ready = ready ++ fresh w; early = early }) (lined_same w.coroutines rest)
      ∙ ap (λ (cs : List (Coroutine V)). record { world = w; ready = ready ++ map (λ c. c.number) cs; early = early }) (nobody_fresh w.coroutines rest)
      ∙ ap (λ xs. record { world = w; ready = xs; early = early }) (append-nil ready)

  -- the same but for the notes, and for how many count as early
  abbrev pub noted : Kept V → Kept V
  noted k = record k { world = begin k.world }

  module _ (p : Program V) where
    pub again_same : (k : Kept V) → IsClosing p k → kept_shut k ≡ record (noted k) { early = length k.ready }
    again_same k closing =
        let w = k.world in
        let linkless = closing.stable.linkless in
        ap (λ v. queued (settle v) k.ready (length k.ready)) (again_world w linkless closing.closing)
        ∙ ap (λ v. queued v k.ready (length k.ready)) (settle_same (begin w) (begin_linkless w linkless) (begin_settled w linkless.calls closing.settled))
        ∙ queued_same (begin w) k.ready (length k.ready) closing.stable.rest
