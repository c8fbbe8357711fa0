-- Each step keeps it so that one pending call at most looks at a stack, and that one number at most names a link.
use Rattle.std.proofs.Common.{◌≡◌, ◌∙◌, inl, inr, ℕ, List, [], ◌∷◌, fold, Option, Some, None, refl, sym, ap, arith, lit≤}
use Rattle.rand_core.specs.Stream.{Stream}
use Rattle.dill_base.specs.Maps.{if_some}
use Rattle.dill_calls.specs.Program.{Program}
use Rattle.dill_calls.specs.declared.call.Call.{Call}
use Rattle.dill_calls.specs.declared.ran.LackPlace.{LackPlace}
use Rattle.dill_kernel.specs.declared.ready.Ready.{Ready}
use Rattle.dill_kernel.specs.declared.replies.KernelReply.{KernelReply}
use Rattle.dill_scope.specs.Scopes as scopes
use Rattle.dill_rules.specs.World.{World, pending_call, opening, begin, from_start}
use Rattle.dill_rules.specs.Expiring.{passed, expire_one}
use Rattle.dill_rules.specs.Hearing.{heard, woken}
use Rattle.dill_rules.specs.Settling.{settle}
use Rattle.dill_rules.specs.State.{State, after, next_turn, turn_of, expire_next, expired, shut, woke, hear, turned}
use Rattle.dill_rules.specs.Trying.{Try, next_try}
use Rattle.dill_rules.specs.Turning.{turn}
use Rattle.laws_sound.specs.Numbers.{Event, Turn, Hear, Expire, Shut, Wake, event}
use Rattle.laws_looks.specs.Readers.{In, Pends, LooksApart, KeepsApart}
use Rattle.laws_looks.proofs.Stays.{soft_rested}
use Rattle.laws_looks.proofs.Fewer.{fewer_parts, fewer_same, fewer_lined, fewer_expire, fewer_settle, fewer_apart, named_once}
use Rattle.laws_looks.proofs.Hears.{heard_apart, woken_apart}
use Rattle.laws_looks.proofs.Enters.{turn_apart}

module _ {V : Type 0} where
  pub opening_apart : (view : V) (random : Stream) → LooksApart (opening view random)
  opening_apart view random = record {
    readers = λ number who other call more p q r s. absurd (none who call p);
    sends = λ number who other call more p q s n r. absurd (none who call p);
    rising = lit≤ tt;
    named = λ link. omega arith;
  }
    where
      none : (who : ℕ) (call : Call) → Pends (opening view random) who call → ⊥
      none who call p = at p.there
        where
          at : In p.one (opening view random).coroutines → ⊥
          at (inl same) = let bad : ◌≡◌ {A = Option Call} None (Some call) = sym (ap (λ c. pending_call c.mode) same) ∙ p.mode in cc
          at (inr i) = i

  begun : (w : World V) → LooksApart w → LooksApart (begin w)
  begun w a = fewer_apart w (begin w) (fewer_same w (begin w) refl refl refl) a

  settled : (w : World V) → LooksApart w → LooksApart (settle w)
  settled w a = fewer_apart w (settle w) (fewer_settle w) a

  lined_up : (s : State V) (w : World V) → LooksApart w → LooksApart (after s w).world
  lined_up s w a = fewer_apart w (after s w).world (fewer_lined w) a

  late : (xs : List ℕ) (s : State V) → LooksApart s.world → LooksApart (fold expire_next s xs).world
  late [] s a = a
  late (who ∷ xs) s a = late xs (expire_next s who) (lined_up s (expire_one s.world who) (fewer_apart s.world (expire_one s.world who) (fewer_expire s.world who) a))

  expired_apart : (s : State V) → LooksApart s.world → LooksApart (expired s).world
  expired_apart s a =
      let b : State V = record s { world = begin s.world } in
      let end = fold expire_next b (passed s.world) in
      lined_up end (settle end.world) (settled end.world (late (passed s.world) b (begun s.world a)))

  shut_apart : (s : State V) → LooksApart s.world → LooksApart (shut s).world
  shut_apart s a =
      let v : World V = record (from_start (begin s.world)) { scopes = scopes.close s.world.scopes 0 } in
      lined_up s (settle v) (settled v (fewer_apart s.world v (fewer_parts s.world v refl refl (soft_rested s.world.links).stays) a))

  hear_apart : (s : State V) (said : Option KernelReply) → LooksApart s.world → LooksApart (hear s said).world
  hear_apart s said a = at (next_try s.world)
    where
      at : (o : Option Try) → LooksApart (if_some o s (λ x. after s (settle (heard (begin s.world) x said)))).world
      at None = a
      at (Some x) = let v = heard (begin s.world) x said in lined_up s (settle v) (settled v (heard_apart (begin s.world) x said (begun s.world a)))

  turned_apart : (p : Program V) (lack : Option LackPlace) (s : State V) → LooksApart s.world → LooksApart (turned p lack s).world
  turned_apart p lack s a = at (next_turn s)
    where
      at : (o : Option ℕ) → LooksApart (if_some o s (turn_of p lack s)).world
      at None = a
      at (Some who) = let v = turn p lack s.world who in fewer_apart v (turn_of p lack s who).world (fewer_lined v) (turn_apart p lack s.world who a)

  woke_apart : (s : State V) (told : ℕ) (ready : List Ready) → LooksApart s.world → LooksApart (woke s told ready).world
  woke_apart s told ready a = let v = woken (begin s.world) ready in fewer_apart v (woke s told ready).world (fewer_same v (woke s told ready).world refl refl refl) (woken_apart (begin s.world) ready (begun s.world a))

  event_apart : (p : Program V) (s : State V) (x : Event) → LooksApart s.world → LooksApart (event p s x).world
  event_apart p s (Turn lack) a = turned_apart p lack s a
  event_apart p s (Hear said) a = hear_apart s said a
  event_apart p s Expire a = expired_apart s a
  event_apart p s Shut a = shut_apart s a
  event_apart p s (Wake told ready) a = woke_apart s told ready a

pub steps_keep_apart : {V : Type 0} (p : Program V) → KeepsApart p
steps_keep_apart p = record {
  once = named_once;
  opening = opening_apart;
  turned = turn_apart p;
  heard = λ w x said a. settled (heard w x said) (heard_apart w x said a);
  expired = λ w who a. fewer_apart w (expire_one w who) (fewer_expire w who) a;
  settled = settled;
  stepped = event_apart p;
}
