-- Each step keeps what a core keeps in order.
use Rattle.std.proofs.Common.{◌≡◌, ◌∙◌, ℕ, ◌+◌, ◌-◌, ◌<◌, ◌==◌, List, [], ◌∷◌, length, map, find, fold, filter_map, Bool, true, false, ◌&&◌, cond, Option, Some, None, if◌then◌else◌, refl, sym, ap, subst, arith, lit≤}
use Rattle.std.proofs.lemmas.Bool.{and_parts, and_from}
use Rattle.std.specs.Prelude.{is_some, max, nat_le, option_and_then}
use Rattle.std.specs.List.{list_all}
use Rattle.std.proofs.lemmas.List.Elements.{All-cons, All-nil}
use Rattle.std.proofs.lemmas.List.Folds.{list_all-map}
use Rattle.dill_calls.specs.declared.call.Call.{Call}
use Rattle.dill_calls.specs.declared.ran.LackPlace.{LackPlace}
use Rattle.dill_calls.specs.Program.{Program, IsLawful}
use Rattle.dill_kernel.specs.declared.ready.Ready.{Ready}
use Rattle.dill_scope.specs.declared.forest.Bundle.{Bundle}
use Rattle.dill_scope.specs.Scopes as scopes
use Rattle.dill_scope.proofs.Growing.{opening_is_forest}
use Rattle.dill_base.specs.Maps.{if_some, change}
use Rattle.dill_rules.specs.Links.{rested}
use Rattle.dill_rules.specs.declared.coroutine.Coroutine.{Coroutine}
use Rattle.dill_rules.specs.declared.coroutine.Mode.{Mode}
use Rattle.dill_rules.specs.declared.coroutine.Mode.TheVariants as modes
use Rattle.dill_rules.specs.Expiring.{Timer, due_of, is_earlier, placed, in_order, timer_of, passed, expire_one}
use Rattle.dill_rules.specs.Entering.{late_answer}
use Rattle.dill_rules.specs.Giving.{give}
use Rattle.dill_rules.specs.Settling.{settle}
use Rattle.dill_rules.specs.State.{lined}
use Rattle.dill_rules.specs.World.{World, at_start, is_coroutine, coroutine_of, call_of, with_mode, begin, pending_call}
use Rattle.laws_queue.specs.Well.{bit, IsWell}
use Rattle.laws_queue.proofs.Keeping.{steps_keep_well}
use Rattle.laws_sound.specs.Order.{IsInOrder}
use Rattle.laws_sound.proofs.Entering.{found_call}
use Rattle.laws_sound.proofs.Handing.{equal, unequal}
use Rattle.laws_sound.proofs.Leaving.{order_lined}
use Rattle.laws_sound.proofs.Nearly.{all_by_number}
use Rattle.laws_sound.proofs.Ordering.{order_anyway, order_closed}
use Rattle.dill_calls.specs.CallTable.{word_of, named_by}
use Rattle.dill_kernel.specs.declared.replies.KernelReply.{KernelReply}
use Rattle.dill_rules.specs.Hearing.{heat_ready, heard}
use Rattle.dill_rules.specs.LinkAnswers.{is_on_stack}
use Rattle.dill_rules.specs.Trying.{Try, next_try}
use Rattle.dill_rules.specs.Turning.{turn}
use Rattle.laws_queue.specs.Kept.{Kept, opening_kept, queued, turn_first, kept_turn, kept_hear, kept_expire_next, kept_late, kept_expired, kept_shut, kept_woke, root_closed}
use Rattle.laws_queue.proofs.Besides.{heat_all_besides}
use Rattle.laws_queue.proofs.Lining.{lined_pending}
use Rattle.laws_queue.proofs.Acting.{give_gives}
use Rattle.laws_sound.specs.Laws.{is_timed, StepsKeepOrder, NotesNumbers}
use Rattle.laws_sound.specs.Orderly.{is_channel, is_meeting, waits_well, is_no_bundle, is_socketed, gives_number, kept_by, IsOrderly}
use Rattle.laws_sound.proofs.Counting.{weigh_alike}
use Rattle.laws_sound.proofs.Answering.{besides, does_good, settle_goes, expire_good, notes_each}
use Rattle.laws_sound.proofs.Making.{begins}
use Rattle.laws_sound.proofs.Calling.{turn_goes}
use Rattle.laws_sound.proofs.Crews.{change_here, change_other, map_at}
use Rattle.laws_sound.proofs.Hearing.{hear_goes}
use Rattle.laws_sound.proofs.Lists.{all_follow, all_map}

module _ (test : Timer → Bool) where
  placed_all : (x : Timer) (xs : List Timer) → test x ≡ true → list_all test xs ≡ true → list_all test (placed x xs) ≡ true
  placed_all x [] e f = and_from (test x) true e refl
  placed_all x (y ∷ ys) e f =
      let b = and_parts (test y) (list_all test ys) f in
      at (is_earlier x y) b.0 b.1 (placed_all x ys e b.1)
    where
      at : (b : Bool) → test y ≡ true → list_all test ys ≡ true → list_all test (placed x ys) ≡ true → list_all test (cond b (x ∷ y ∷ ys) (y ∷ placed x ys)) ≡ true
      at true g h r = and_from (test x) (test y && list_all test ys) e (and_from (test y) (list_all test ys) g h)
      at false g h r = and_from (test y) (list_all test (placed x ys)) g r

  in_order_all : (xs : List Timer) → list_all test xs ≡ true → list_all test (in_order xs) ≡ true
  in_order_all [] e = refl
  in_order_all (x ∷ xs) e = let b = and_parts (test x) (list_all test xs) e in placed_all x (in_order xs) b.0 (in_order_all xs b.1)

  given_all : {V : Type 0} (f : Coroutine V → Option Timer) (cs : List (Coroutine V)) → list_all (λ c. if_some (f c) true test) cs ≡ true → list_all test (filter_map f cs) ≡ true
  given_all f [] e = refl
  given_all f (c ∷ cs) e = at (f c) refl (and_parts (if_some (f c) true test) (list_all (λ d. if_some (f d) true test) cs) e) (given_all f cs)
    where
      at : (o : Option Timer) → f c ≡ o → (if_some (f c) true test ≡ true) × (list_all (λ d. if_some (f d) true test) cs ≡ true) → (list_all (λ d. if_some (f d) true test) cs ≡ true → list_all test (filter_map f cs) ≡ true) → list_all test (filter_map f (c ∷ cs)) ≡ true
      at None g h rest = rw g (rest h.1)
      at (Some x) g h rest = let t : test x ≡ true = ap (λ o. if_some o true test) (sym g) ∙ h.0 in rw g (and_from (test x) (list_all test (filter_map f cs)) t (rest h.1))

abbrev timed : Option Call → Bool
timed o = if_some o true (λ call. is_some (due_of call))

opening_free : (b : Bool) (x : Bundle) → x.owner ≡ None → 0 + 0 ≡ bit (is_some (option_and_then (λ y. y.owner) (cond b (Some x) None)))
opening_free true x e = let n : bit (is_some x.owner) ≡ 0 = ap (λ o. bit (is_some o)) e in omega (arith, n)
opening_free false x e = omega arith

module _ {V : Type 0} where
  -- ---- deadlines

  pub calls_lined : (cs : List (Coroutine V)) (n : ℕ) → if_some (find (is_coroutine n) (map lined cs)) None (λ c. pending_call c.mode) ≡ if_some (find (is_coroutine n) cs) None (λ c. pending_call c.mode)
  calls_lined [] n = refl
  calls_lined (c ∷ cs) n = at (is_coroutine n c) (calls_lined cs n)
    where
      at : (b : Bool) → if_some (find (is_coroutine n) (map lined cs)) None (λ d. pending_call d.mode) ≡ if_some (find (is_coroutine n) cs) None (λ d. pending_call d.mode) → if_some (cond b (Some (lined c)) (find (is_coroutine n) (map lined cs))) None (λ d. pending_call d.mode) ≡ if_some (cond b (Some c) (find (is_coroutine n) cs)) None (λ d. pending_call d.mode)
      at true r = lined_pending c.mode
      at false r = r

  set_timed : (cs : List (Coroutine V)) (who n : ℕ) (mode : Mode) (c : Coroutine V) → pending_call mode ≡ None → find (is_coroutine who) cs ≡ Some c → timed (if_some (find (is_coroutine n) cs) None (λ d. pending_call d.mode)) ≡ true → timed (if_some (find (is_coroutine n) (change (is_coroutine who) (with_mode mode) cs)) None (λ d. pending_call d.mode)) ≡ true
  set_timed cs who n mode c none e t = at (n == who) refl
    where
      at : (b : Bool) → (n == who) ≡ b → timed (if_some (find (is_coroutine n) (change (is_coroutine who) (with_mode mode) cs)) None (λ d. pending_call d.mode)) ≡ true
      at true f = ap timed (subst (λ k. if_some (find (is_coroutine k) (change (is_coroutine who) (with_mode mode) cs)) None (λ d. pending_call d.mode) ≡ None) (sym (equal n who f)) (ap (λ o. if_some o None (λ d. pending_call d.mode)) (change_here (with_mode mode) (λ d. refl) who cs c e) ∙ none))
      at false f = ap (λ o. timed (if_some o None (λ d. pending_call d.mode))) (change_other (with_mode mode) (λ d. refl) who n cs (unequal n who f)) ∙ t

  -- an expiry leaves the deadlines of others
  pub expire_timed : (w : World V) (who n : ℕ) → is_timed w n ≡ true → is_timed (expire_one w who) n ≡ true
  expire_timed w who n t = at (call_of w who) refl
    where
      at : (o : Option Call) → call_of w who ≡ o → is_timed (if_some o w (λ call. give w who call (late_answer call))) n ≡ true
      at None e = t
      at (Some call) e =
          let c = found_call w who call e in
          let g = give_gives w who call (late_answer call) in
          subst (λ cs. timed (if_some (find (is_coroutine n) cs) None (λ d. pending_call d.mode)) ≡ true) (sym g.coroutines) (set_timed w.coroutines who n (modes.Fresh (word_of call) g.answer) c.0 refl c.1 t)

  -- who has a passed deadline has one
  pub passed_timed : (w : World V) → IsInOrder w → list_all (is_timed w) (passed w) ≡ true
  passed_timed w o = list_all-map (is_timed w) (λ (x : Timer). x.who) (in_order (filter_map late w.coroutines)) ∙ in_order_all (λ x. is_timed w x.who) (filter_map late w.coroutines) (given_all (λ x. is_timed w x.who) late w.coroutines (all_by_number (λ c. if_some (late c) true (λ x. is_timed w x.who)) w.coroutines 0 w.last_coroutine o.fits.numbered (λ c e. by c e (pending_call c.mode) refl)))
    where
      late : Coroutine V → Option Timer
      late c = if_some (timer_of c) None (λ x. if nat_le x.due w.moment then Some x else None)

      timer : Coroutine V → Option Call → Option Timer
      timer c q = if_some q None (λ call. if_some (due_of call) None (λ due. Some (record { due = due; who = c.number })))

      test : Option Timer → Bool
      test r = if_some (if_some r None (λ x. if nat_le x.due w.moment then Some x else None)) true (λ x. is_timed w x.who)

      due_timed : (c : Coroutine V) (call : Call) (due : ℕ) → coroutine_of w c.number ≡ Some c → pending_call c.mode ≡ Some call → due_of call ≡ Some due → (b : Bool) → if_some (if b then Some (record { due = due; who = c.number }) else None) true (λ (x : Timer). is_timed w x.who) ≡ true
      due_timed c call due e f g true = ap (λ o. timed (if_some o None (λ d. pending_call d.mode))) e ∙ ap timed f ∙ ap is_some g
      due_timed c call due e f g false = refl

      at : (c : Coroutine V) (call : Call) → coroutine_of w c.number ≡ Some c → pending_call c.mode ≡ Some call → (r : Option ℕ) → due_of call ≡ r → if_some (if_some (if_some r None (λ due. Some (record { due = due; who = c.number }))) None (λ (x : Timer). if nat_le x.due w.moment then Some x else None)) true (λ (x : Timer). is_timed w x.who) ≡ true
      at c call e f None g = refl
      at c call e f (Some due) g = due_timed c call due e f g (nat_le due w.moment)

      by : (c : Coroutine V) → coroutine_of w c.number ≡ Some c → (q : Option Call) → pending_call c.mode ≡ q → if_some (late c) true (λ x. is_timed w x.who) ≡ true
      by c e None f = ap (λ q. test (timer c q)) f
      by c e (Some call) f = ap (λ q. test (timer c q)) f ∙ at c call e f (due_of call) refl

  -- ---- the steps

  pub order_queued : (w : World V) (ready : List ℕ) (early : ℕ) → IsOrderly w → IsOrderly (queued w ready early).world
  order_queued w ready early g = record {
    order = order_lined w g.order;
    sockets = all_map (is_socketed w.handles) lined w.coroutines (λ c f. ap (λ o. if_some o true (λ call. if is_on_stack (word_of call) then if_some (named_by call) true (is_no_bundle w.handles) else true)) (lined_pending c.mode) ∙ f) g.sockets;
    waits = all_follow (waits_well w.coroutines) (waits_well (map lined w.coroutines)) w.channels.waits
        (λ x f. map_at lined (λ c. refl) is_meeting (λ c. ap (λ o. if_some o false (λ call. is_channel (word_of call))) (lined_pending c.mode)) w.coroutines x.who ∙ f) g.waits;
    kept = let same = weigh_alike kept_by lined w.coroutines (λ c. ap (λ o. if_some o 0 (λ call. bit (gives_number (word_of call)))) (lined_pending c.mode)) in let k = g.kept in omega (arith, same, k);
  }

  pub order_root_closed : (w : World V) → IsOrderly w → IsOrderly (root_closed w)
  order_root_closed w g = record {
    order = order_anyway (record w { scopes = scopes.close w.scopes 0 }) w.channels (rested w.links) at_start w.random w.moment [] (order_closed w 0 g.order);
    sockets = g.sockets;
    waits = g.waits;
    kept = g.kept;
  }

  order_woke : (k : Kept V) (told : ℕ) (ready : List Ready) → IsOrderly k.world → IsOrderly (kept_woke k told ready).world
  order_woke k told ready g =
      let begun = begins k.world g in
      let heated = fold heat_ready (begin k.world) ready in
      let h = does_good (begin k.world) heated begun (besides (begin k.world) heated (heat_all_besides ready (begin k.world)) begun.order) in
      record { order = order_anyway heated heated.channels (rested heated.links) at_start heated.random (max k.world.moment told) heated.notes h.order; sockets = h.sockets; waits = h.waits; kept = h.kept }

  order_opening : (view : V) → IsInOrder (opening_kept view).world
  order_opening view = record {
    fits = record {
      forest = opening_is_forest;
      bundles = All-cons (λ (x : Bundle). x.name < 0 + 1) (record { name = 0; owner = None; closing = false }) [] (omega arith) (All-nil (λ (x : Bundle). x.name < 0 + 1));
      crew = refl;
      numbered = (lit≤ tt, lit≤ tt);
      begun = lit≤ tt;
      few = lit≤ tt;
      main = refl;
      room = lit≤ tt;
      numbers = λ number. omega arith;
      names = λ name. opening_free (0 == name) (record { name = 0; owner = None; closing = false }) refl;
      held = refl;
      kinds = refl;
    };
    closings = refl;
    waiters = refl;
    endings = refl;
  }

module _ {V : Type 0} (p : Program V) (law : IsLawful p) where
  turned : (k : Kept V) (lack : Option LackPlace) → IsWell p k → IsOrderly k.world → IsOrderly (kept_turn p lack k).world
  turned k lack w g = at k.ready refl
    where
      at : (ready : List ℕ) → k.ready ≡ ready → IsOrderly (turn_first p lack k ready).world
      at [] e = g
      at (who ∷ rest) e =
          let m = (steps_keep_well p law).first k who rest w e in
          order_queued (turn p lack k.world who) rest (k.early - 1) (turn_goes p lack k.world who m.one g m.found m.answered).good

module _ {V : Type 0} where
  hears : (k : Kept V) (said : Option KernelReply) → IsOrderly k.world → IsOrderly (kept_hear k said).world
  hears k said g = at (next_try k.world)
    where
      at : (o : Option Try) → IsOrderly (if_some o k (λ x. queued (settle (heard (begin k.world) x said)) k.ready k.early)).world
      at None = g
      at (Some x) = order_queued (settle (heard (begin k.world) x said)) k.ready k.early (hear_goes (begin k.world) x said (begins k.world g)).good

  expires : (k : Kept V) (who : ℕ) → IsOrderly k.world → is_timed k.world who ≡ true → IsOrderly (kept_expire_next k who).world
  expires k who g d = order_queued (expire_one k.world who) k.ready k.early (expire_good k.world who g d).good

  settled : (k : Kept V) → IsOrderly k.world → IsOrderly (queued (settle k.world) k.ready k.early).world
  settled k g = order_queued (settle k.world) k.ready k.early (settle_goes k.world g).good

  -- the deadlines of others stay, once the answers have their places
  pub expire_lined : (k : Kept V) (who n : ℕ) → is_timed k.world n ≡ true → is_timed (kept_expire_next k who).world n ≡ true
  expire_lined k who n e = ap timed (calls_lined (expire_one k.world who).coroutines n) ∙ expire_timed k.world who n e

  expire_all : (xs : List ℕ) (k : Kept V) → IsOrderly k.world → list_all (is_timed k.world) xs ≡ true → IsOrderly (fold kept_expire_next k xs).world
  expire_all [] k g t = g
  expire_all (x ∷ xs) k g t =
      let b = and_parts (is_timed k.world x) (list_all (is_timed k.world) xs) t in
      let next = kept_expire_next k x in
      expire_all xs next (expires k x g b.0)
      (all_follow (is_timed k.world) (is_timed next.world) xs (λ n e. expire_lined k x n e) b.1)

  expired : (k : Kept V) → IsOrderly k.world → IsOrderly (kept_expired k).world
  expired k g = settled (kept_late k) (expire_all (passed k.world) (record k { world = begin k.world }) (begins k.world g) (passed_timed k.world g.order))

  shut : (k : Kept V) → IsOrderly k.world → IsOrderly (kept_shut k).world
  shut k g = order_queued (settle (root_closed k.world)) k.ready (length k.ready) (settle_goes (root_closed k.world) (order_root_closed k.world g)).good

pub steps_keep_order : {V : Type 0} (p : Program V) → StepsKeepOrder p
steps_keep_order p law = record {
  opening = λ view. record { order = order_opening view; sockets = refl; waits = refl; kept = lit≤ tt };
  turned = turned p law;
  hears = hears;
  started = λ k g. begins k.world g;
  expires = expires;
  settled = settled;
  expired = expired;
  shut = shut;
  woke = order_woke;
}

pub steps_note_numbers : {V : Type 0} (p : Program V) → NotesNumbers p
steps_note_numbers p = record {
  turned = λ lack w who c g e a. notes_each (begin w) (turn p lack w who) (turn_goes p lack w who c g e a);
  heard = λ w x said g. notes_each w (settle (heard w x said)) (hear_goes w x said g);
  expired = λ w who g d. notes_each w (expire_one w who) (expire_good w who g d);
  settled = λ w g. notes_each w (settle w) (settle_goes w g);
  shut = λ w g. notes_each (root_closed w) (settle (root_closed w)) (settle_goes (root_closed w) (order_root_closed w g));
}
