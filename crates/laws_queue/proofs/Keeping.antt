-- Each step keeps well what a core keeps.
use Rattle.std.proofs.Common.{◌≡◌, ◌+◌, ◌-◌, ◌==◌, ◌≤◌, ℕ, List, [], ◌∷◌, length, fold, Bool, true, false, ◌&&◌, cond, Option, Some, None, if◌then◌else◌, refl, sym, ap, subst, lit≤}
use Rattle.dill_calls.specs.declared.answer.Answer.{Answer}
use Rattle.dill_calls.specs.declared.answer.Answer.TheVariants.{Number, Fault}
use Rattle.dill_calls.specs.declared.word.Word.{Word}
use Rattle.dill_calls.specs.declared.word.Word.TheVariants.{Start}
use Rattle.dill_calls.specs.declared.ran.LackPlace.{LackPlace}
use Rattle.dill_calls.specs.CallTable.{word_of, build_takes_memory}
use Rattle.dill_calls.specs.Program.{Program, Move, Calls, Ends, IsLawful, Moves, Begins}
use Rattle.dill_kernel.specs.declared.ready.Ready.{Ready}
use Rattle.dill_base.specs.Maps.{if_some}
use Rattle.dill_rules.specs.declared.coroutine.Coroutine.{Coroutine}
use Rattle.dill_rules.specs.declared.coroutine.Mode.{Mode}
use Rattle.dill_rules.specs.declared.coroutine.Mode.TheVariants as modes
use Rattle.dill_rules.specs.World.{World, is_coroutine, coroutine_of, begin, reply, pending_call, is_answered}
use Rattle.dill_rules.specs.Entering.{entered, lack_fault}
use Rattle.dill_rules.specs.Expiring.{expire_one, passed}
use Rattle.dill_rules.specs.Hearing.{heard}
use Rattle.dill_rules.specs.Trying.{Try, next_try}
use Rattle.dill_kernel.specs.declared.replies.KernelReply.{KernelReply}
use Rattle.dill_rules.specs.Settling.{settle}
use Rattle.dill_rules.specs.Turning.{is_build, is_entry, as_running, may_lack_build, resume, answer_given, make_move, lack_move, go_on, turn}
use Rattle.laws_queue.specs.Kept.{Kept, opening_kept, queued, turn_first, kept_turn, kept_expire_next, kept_late, kept_expired, root_closed, kept_shut, kept_hear, kept_woke}
use Rattle.laws_queue.specs.Laws.{MayTurn, HasPlaces, StepsKeepWell}
use Rattle.laws_queue.specs.Well.{has_more, IsAlive, Lives, Numbered, bit, IsQueue, IsWell}
use Rattle.laws_queue.proofs.Besides.{besides_crew, heat_all_besides}
use Rattle.laws_queue.proofs.Lining.{well_queued, room_queued}
use Rattle.laws_queue.proofs.Resuming.{lives_running, first_there, queue_rest}
use Rattle.laws_queue.proofs.Answered.{Moved, Unqueued, AnyNumber}
use Rattle.laws_queue.proofs.Lists.{all_found}
use Rattle.laws_queue.proofs.Stepping.{Runs, leads_then, Leads, MayMove, reply_unqueued, enter_unqueued, end_unqueued, heard_leads, expire_unqueued, settle_unqueued, lives_leads, numbered_leads}
use Rattle.laws_queue.proofs.Numbers.{found_changed, numbered_change}

answered_more : (mode : Mode) → is_answered mode ≡ true → has_more mode ≡ true
answered_more (modes.Answered word answer) e = refl
answered_more (modes.Pending call) e = cc
answered_more modes.Running e = cc
answered_more (modes.Fresh word answer) e = cc
answered_more (modes.Ending outcome) e = cc

module _ {V : Type 0} (p : Program V) (law : IsLawful p) where
  first : (k : Kept V) (who : ℕ) (rest : List ℕ) → IsWell p k → k.ready ≡ who ∷ rest → MayTurn p k.world who
  first k who rest well e =
      let there = first_there who rest k.world.coroutines (subst (λ r. IsQueue r k.world.coroutines) e well.queue) in
      let alive = all_found (IsAlive p) (is_coroutine who) there.0 k.world.coroutines there.1 well.lives in
      record { one = there.0; found = there.1; answered = there.2; real = alive.real; some = alive.some (answered_more there.0.mode there.2) }

  -- its program goes on from the answer that it is given
  record TurnFrom (w : World V) (who : ℕ) (v : World V) : Type 0 where
    view : V
    real : p.real view ≡ true
    leads : Leads p (resume w who view) v

  resumed : (w : World V) (who : ℕ) (view : V) (c : Coroutine V) → coroutine_of w who ≡ Some c → coroutine_of (resume w who view) who ≡ Some (as_running view c)
  resumed w who view c e = found_changed (is_coroutine who) (as_running view) c w.coroutines (λ d. refl) e

  runs_resumed : (w : World V) (who : ℕ) (view : V) (word : Word) (c : Coroutine V) → coroutine_of w who ≡ Some c → 1 ≤ p.left view → Runs (MayMove p) (resume w who view) who word
  runs_resumed w who view word c e l = record { one = as_running view c; found = resumed w who view c e; may = (refl, l) }

  from_move : (lack : Option LackPlace) (w : World V) (who : ℕ) (c : Coroutine V) (answer : Answer) (next : V × Move) → coroutine_of w who ≡ Some c → Lives p w.coroutines → Moves p c.body answer next → TurnFrom w who (if is_build lack && may_lack_build next.1 then lack_move (resume w who (p.short c.body answer)) who next.1 else make_move p (is_entry lack) (resume w who next.0) who next.0 next.1)
  from_move lack w who c answer (new, Calls call) e l m = at (is_build lack && build_takes_memory (word_of call))
    where
      at : (b : Bool) → TurnFrom w who (if b then reply (resume w who (p.short c.body answer)) who (word_of call) (Fault (lack_fault (resume w who (p.short c.body answer)) who (word_of call))) else make_move p (is_entry lack) (resume w who new) who new (Calls call))
      at true = record {
        view = p.short c.body answer;
        real = m.2.real;
        leads = reply_unqueued p (resume w who (p.short c.body answer)) who (word_of call) (Fault (lack_fault (resume w who (p.short c.body answer)) who (word_of call))) (runs_resumed w who (p.short c.body answer) (word_of call) c e m.2.some);
      }
      at false = record {
        view = new;
        real = m.1.real;
        leads = enter_unqueued p law (is_entry lack) (resume w who new) who new (entered w.moment call) m.1.real (lives_running new p who w.coroutines m.1.real l) (runs_resumed w who new (word_of (entered w.moment call)) c e m.1.some) (ap (λ o. if_some o None (λ d. pending_call d.mode)) (resumed w who new c e));
      }
  from_move lack w who c answer (new, Ends outcome) e l m = at (is_build lack)
    where
      ended : TurnFrom w who (make_move p (is_entry lack) (resume w who new) who new (Ends outcome))
      ended = record { view = new; real = m; leads = end_unqueued p (resume w who new) who outcome (as_running new c) (resumed w who new c e) refl }

      at : (b : Bool) → TurnFrom w who (if b && false then resume w who (p.short c.body answer) else make_move p (is_entry lack) (resume w who new) who new (Ends outcome))
      at true = ended
      at false = ended

  -- a whole turn of a coroutine that has an answer
  turn_from : (lack : Option LackPlace) (w : World V) (who : ℕ) → Lives p w.coroutines → Numbered 0 w.coroutines w.last_coroutine → MayTurn p w who → TurnFrom w who (turn p lack w who)
  turn_from lack w who l n may =
      let c = may.one in
      let b = begin w in
      let answer = (answer_given b who).1 in
      let from : TurnFrom b who (go_on p lack b who c.body) = from_move lack b who c answer (p.next c.body answer) may.found l (law.moves c.body answer may.real may.some) in
      let moved = go_on p lack b who c.body in
      let lives_r = lives_running from.view p who w.coroutines from.real l in
      let numbered_r = numbered_change (is_coroutine who) (as_running from.view) w.coroutines 0 w.last_coroutine (λ d. refl) n in
      let settled : Leads p (resume b who from.view) (settle moved) = leads_then p (Moved p) Unqueued AnyNumber (resume b who from.view) moved (settle moved) from.leads
      (settle_unqueued p moved (lives_leads p (resume b who from.view) moved from.leads lives_r) (numbered_leads p (resume b who from.view) moved from.leads numbered_r)) in
      let is : settle moved ≡ turn p lack w who = sym (ap (λ o. if_some o w (λ d. settle (go_on p lack (begin w) who d.body))) may.found) in
      record { view = from.view; real = from.real; leads = subst (λ v. Leads p (resume w who from.view) v) is settled }

  turned_first : (k : Kept V) (lack : Option LackPlace) (who : ℕ) (rest : List ℕ) → IsWell p k → k.ready ≡ who ∷ rest → IsWell p (queued (turn p lack k.world who) rest (k.early - 1))
  turned_first k lack who rest well e =
      let may = first k who rest well e in
      let from = turn_from lack k.world who well.lives well.numbered may in
      let queue = queue_rest from.view who rest k.world.coroutines may.one may.found may.answered (subst (λ r. IsQueue r k.world.coroutines) e well.queue) in
      well_queued p (resume k.world who from.view) (turn p lack k.world who) rest (k.early - 1)
      (lives_running from.view p who k.world.coroutines from.real well.lives) (numbered_change (is_coroutine who) (as_running from.view) k.world.coroutines 0 k.world.last_coroutine (λ d. refl) well.numbered) queue from.leads

  turn_places : (k : Kept V) (lack : Option LackPlace) (who : ℕ) (rest : List ℕ) → IsWell p k → k.ready ≡ who ∷ rest → HasPlaces rest (turn p lack k.world who)
  turn_places k lack who rest well e =
      let may = first k who rest well e in
      let from = turn_from lack k.world who well.lives well.numbered may in
      let queue = queue_rest from.view who rest k.world.coroutines may.one may.found may.answered (subst (λ r. IsQueue r k.world.coroutines) e well.queue) in
      room_queued p (resume k.world who from.view) (turn p lack k.world who) rest (numbered_change (is_coroutine who) (as_running from.view) k.world.coroutines 0 k.world.last_coroutine (λ d. refl) well.numbered) queue from.leads

  turned : (k : Kept V) (lack : Option LackPlace) → IsWell p k → IsWell p (kept_turn p lack k)
  turned k lack well = at k.ready refl
    where
      at : (ready : List ℕ) → k.ready ≡ ready → IsWell p (turn_first p lack k ready)
      at [] e = well
      at (who ∷ rest) e = turned_first k lack who rest well e

  -- a step of a world whose coroutines evolve
  stepped : (k : Kept V) (v : World V) (early : ℕ) → IsWell p k → Leads p k.world v → IsWell p (queued v k.ready early)
  stepped k v early well e = well_queued p k.world v k.ready early well.lives well.numbered well.queue e

  places : (k : Kept V) (v : World V) → IsWell p k → Leads p k.world v → HasPlaces k.ready v
  places k v well e = room_queued p k.world v k.ready well.numbered well.queue e

  started : (k : Kept V) → IsWell p k → IsWell p (record k { world = begin k.world })
  started k well = record { lives = well.lives; numbered = well.numbered; queue = well.queue }

  expires : (k : Kept V) (who : ℕ) → IsWell p k → IsWell p (kept_expire_next k who)
  expires k who well = stepped k (expire_one k.world who) k.early well (expire_unqueued p k.world who well.lives)

  expire_all : (xs : List ℕ) (k : Kept V) → IsWell p k → IsWell p (fold kept_expire_next k xs)
  expire_all [] k well = well
  expire_all (x ∷ xs) k well = expire_all xs (kept_expire_next k x) (expires k x well)

  settled : (k : Kept V) → IsWell p k → IsWell p (queued (settle k.world) k.ready k.early)
  settled k well = stepped k (settle k.world) k.early well (settle_unqueued p k.world well.lives well.numbered)

  expired : (k : Kept V) → IsWell p k → IsWell p (kept_expired k)
  expired k well =
      let late = expire_all (passed k.world) (record k { world = begin k.world }) (started k well) in
      settled (kept_late k) late

  shut : (k : Kept V) → IsWell p k → IsWell p (kept_shut k)
  shut k well = stepped k (settle (root_closed k.world)) (length k.ready) well (settle_unqueued p (root_closed k.world) well.lives well.numbered)

  -- a reply of the kernel is heard, and then the world settles
  heard_settled : (w : World V) (x : Try) (said : Option KernelReply) → Lives p w.coroutines → Numbered 0 w.coroutines w.last_coroutine → Leads p w (settle (heard (begin w) x said))
  heard_settled w x said l n =
      let v = heard (begin w) x said in
      let one : Leads p (begin w) v = heard_leads p (begin w) x said l in
      leads_then p (Moved p) Unqueued AnyNumber (begin w) v (settle v) one (settle_unqueued p v (lives_leads p (begin w) v one l) (numbered_leads p (begin w) v one n))

  hears : (k : Kept V) (said : Option KernelReply) → IsWell p k → IsWell p (kept_hear k said)
  hears k said well = at (next_try k.world)
    where
      at : (o : Option Try) → IsWell p (if_some o k (λ x. queued (settle (heard (begin k.world) x said)) k.ready k.early))
      at None = well
      at (Some x) = stepped k (settle (heard (begin k.world) x said)) k.early well (heard_settled k.world x said well.lives well.numbered)

  hear_places : (k : Kept V) (x : Try) (said : Option KernelReply) → IsWell p k → HasPlaces k.ready (settle (heard (begin k.world) x said))
  hear_places k x said well = places k (settle (heard (begin k.world) x said)) well (heard_settled k.world x said well.lives well.numbered)

  woke : (k : Kept V) (told : ℕ) (ready : List Ready) → IsWell p k → IsWell p (kept_woke k told ready)
  woke k told ready well =
      let heated = besides_crew (heat_all_besides ready (begin k.world)) in
      record {
        lives = subst (Lives p) (sym heated.coroutines) well.lives;
        numbered = subst (λ cs. Numbered 0 cs (kept_woke k told ready).world.last_coroutine) (sym heated.coroutines) (subst (λ n. Numbered 0 k.world.coroutines n) (sym heated.last) well.numbered);
        queue = subst (IsQueue k.ready) (sym heated.coroutines) well.queue;
      }

  main_once : (c : Coroutine V) (t : Bool) → is_answered c.mode ≡ true → bit t + 0 ≡ bit (if_some (cond t (Some c) None) false (λ d. is_answered d.mode))
  main_once c true e = sym (ap bit e)
  main_once c false e = refl

  opening : (view : V) → Begins p view → IsWell p (opening_kept view)
  opening view b = record {
    lives = (record { real = b.real; some = λ e. b.some }, tt);
    numbered = (lit≤ tt, lit≤ tt);
    queue = record { once = λ n. main_once (record { number = 1; body = view; mode = modes.Answered Start (Number 0) }) (1 == n) refl; all = refl };
  }

pub steps_keep_well : {V : Type 0} (p : Program V) → StepsKeepWell p
steps_keep_well p law = record {
  opening = opening p law;
  first = first p law;
  turned = turned p law;
  turn_places = turn_places p law;
  hears = hears p law;
  hear_places = hear_places p law;
  started = started p law;
  expires = expires p law;
  expire_places = λ k who well. places p law k (expire_one k.world who) well (expire_unqueued p k.world who well.lives);
  settled = settled p law;
  settle_places = λ k well. places p law k (settle k.world) well (settle_unqueued p k.world well.lives well.numbered);
  expired = expired p law;
  shut = shut p law;
  woke = woke p law;
}
