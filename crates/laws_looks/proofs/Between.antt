-- Between two steps nothing is due and no look finds anything.
use Rattle.std.proofs.Common.{◌≡◌, ◌∙◌, inl, inr, ℕ, ◌-◌, List, [], ◌∷◌, length, find, fold, cond, Bool, true, false, ◌&&◌, Option, Some, None, if◌then◌else◌, refl, ap, subst}
use Rattle.std.specs.Prelude.{map, max}
use Rattle.std.specs.List.{list_all}
use Rattle.std.proofs.lemmas.Bool.{and_parts}
use Rattle.rand_core.specs.Stream.{Stream}
use Rattle.dill_base.specs.Maps.{if_some}
use Rattle.dill_calls.specs.declared.call.Call.{Call}
use Rattle.dill_calls.specs.declared.ran.LackPlace.{LackPlace}
use Rattle.dill_calls.specs.declared.ran.Note.{Note}
use Rattle.dill_calls.specs.CallTable.{word_of, named_by}
use Rattle.dill_calls.specs.Program.{Program, IsLawful}
use Rattle.dill_kernel.specs.declared.ready.Ready.{Ready}
use Rattle.dill_kernel.specs.declared.replies.KernelReply.{KernelReply}
use Rattle.dill_stack.specs.Again.{LooksAgain}
use Rattle.dill_rules.specs.declared.coroutine.Coroutine.{Coroutine}
use Rattle.dill_rules.specs.declared.coroutine.Mode.{Mode}
use Rattle.dill_rules.specs.declared.coroutine.Mode.TheVariants as modes
use Rattle.dill_rules.specs.World.{World, Place, at_start, begin, is_ending, pending_call}
use Rattle.dill_rules.specs.Answers.{answer_of}
use Rattle.dill_rules.specs.Expiring.{passed, expire_one}
use Rattle.dill_rules.specs.Hearing.{heard, heat_ready}
use Rattle.dill_rules.specs.LinkAnswers.{is_on_stack, stack_answer, link_answer}
use Rattle.dill_rules.specs.Links.{Link, Links, look, change_link, heated, rested}
use Rattle.dill_rules.specs.Settling.{IsSettled, can_finish, is_clear, answer_due, settle}
use Rattle.dill_rules.specs.Sockets.{link_number, link_named, on_link}
use Rattle.dill_rules.specs.State.{lined, lined_mode}
use Rattle.dill_rules.specs.Trying.{Try, next_try}
use Rattle.dill_rules.specs.Turning.{go_on}
use Rattle.laws_queue.specs.Kept.{Kept, opening_kept, queued, turn_first, kept_turn, kept_expire_next, kept_late, kept_hear, kept_expired, root_closed, kept_shut, kept_woke}
use Rattle.laws_queue.specs.Lending.{lent, no_random}
use Rattle.laws_queue.specs.Well.{IsWell, Numbered}
use Rattle.laws_queue.proofs.Keeping.{steps_keep_well}
use Rattle.laws_queue.proofs.Lining.{lined_pending}
use Rattle.laws_queue.proofs.Stepping.{heard_leads, numbered_leads}
use Rattle.laws_sound.specs.Laws.{is_timed}
use Rattle.laws_sound.specs.Order.{IsInOrder}
use Rattle.laws_sound.specs.Orderly.{IsOrderly}
use Rattle.laws_sound.proofs.Answering.{settle_goes, expire_good}
use Rattle.laws_sound.proofs.Calling.{go_on_goes, turn_is}
use Rattle.laws_sound.proofs.Hearing.{hear_goes}
use Rattle.laws_sound.proofs.Making.{begins}
use Rattle.laws_sound.proofs.Lists.{all_follow}
use Rattle.laws_sound.proofs.Stepping.{order_queued, order_root_closed, passed_timed, expire_lined}
use Rattle.laws_looks.specs.Readers.{In, LooksApart}
use Rattle.laws_looks.specs.Calm.{Restful, IsCalm, StepsKeepCalm}
use Rattle.laws_looks.proofs.Lists.{none_first, find_none, in_map}
use Rattle.laws_looks.proofs.Stays.{Stays, found_alike, stays_change, found_rested, soft_rested}
use Rattle.laws_looks.proofs.Fewer.{fewer_parts, fewer_same, fewer_lined, fewer_expire, fewer_settle, fewer_apart}
use Rattle.laws_looks.proofs.Quieted.{aside, of_aside, due_as, due_waits, answer_blind}
use Rattle.laws_looks.proofs.Enters.{go_on_apart}
use Rattle.laws_looks.proofs.Hears.{heard_apart}
use Rattle.laws_looks.proofs.Restful.{Calmly, rest_lent, calmly_same, calmly_rested, calmly_mark, calmly_lined, calmly_rests, settles_from}
use Rattle.laws_looks.proofs.Steps.{opening_apart}

pub none_find : {X : Type 0} (f : X → Bool) (xs : List X) → ((x : X) → In x xs → f x ≡ false) → find f xs ≡ None
none_find f [] h = refl
none_find f (x ∷ xs) h = ap (λ b. cond b (Some x) (find f xs)) (h x (inl refl)) ∙ none_find f xs (λ y i. h y (inr i))

lined_ending : (mode : Mode) → is_ending (lined_mode mode) ≡ is_ending mode
lined_ending (modes.Pending call) = refl
lined_ending (modes.Fresh word answer) = refl
lined_ending (modes.Answered word answer) = refl
lined_ending (modes.Ending outcome) = refl
lined_ending modes.Running = refl

module _ {V : Type 0} where
  -- nothing is due where the links answer as before and the coroutines wait as before
  settled_aside : (w : World V) (f : Coroutine V → Coroutine V) (l : Links) (u : Stream) (place : Place) (moment : ℕ) (notes : List Note)
      → ((c : Coroutine V) → (f c).number ≡ c.number) → ((c : Coroutine V) → pending_call (f c).mode ≡ pending_call c.mode) → ((c : Coroutine V) → is_ending (f c).mode ≡ is_ending c.mode)
      → ((call : Call) → link_answer w call ≡ None → link_answer (aside w (map f w.coroutines) l u place moment notes) call ≡ None)
      → IsSettled w → IsSettled (aside w (map f w.coroutines) l u place moment notes)
  settled_aside w f l u place moment notes number pending ending h s = record {
    endings = none_find (can_finish v) (map f w.coroutines) finishes;
    answers = none_first (answer_due v) (map f w.coroutines) due;
  }
    where
      v : World V
      v = aside w (map f w.coroutines) l u place moment notes

      finishes : (c : Coroutine V) → In c (map f w.coroutines) → can_finish v c ≡ false
      finishes c i =
          let r = in_map f w.coroutines c i in
          ap (λ d. is_ending d.mode && is_clear w d.number) r.2 ∙ ap (λ b. b && is_clear w (f r.0).number) (ending r.0) ∙ ap (λ n. is_ending r.0.mode && is_clear w n) (number r.0) ∙ find_none (can_finish w) w.coroutines s.endings r.0 r.1

      at : (c : Coroutine V) → ((call : Call) → pending_call c.mode ≡ Some call → answer_of w c.number call ≡ None) → (o : Option Call) → pending_call c.mode ≡ o → if_some o None (λ call. if_some (answer_of v c.number call) None (λ answer. due_as c.number call answer)) ≡ None
      at c g None e = refl
      at c g (Some call) e = ap (λ o. if_some o None (λ answer. due_as c.number call answer)) (of_aside w (map f w.coroutines) l u place moment notes c.number call (h call) (g call e))

      due : (c : Coroutine V) → In c (map f w.coroutines) → answer_due v c ≡ None
      due c i =
          let r = in_map f w.coroutines c i in
          ap (answer_due v) r.2
          ∙ ap (λ n. if_some (pending_call (f r.0).mode) None (λ call. if_some (answer_of v n call) None (λ answer. due_as n call answer))) (number r.0)
          ∙ ap (λ o. if_some o None (λ call. if_some (answer_of v r.0.number call) None (λ answer. due_as r.0.number call answer))) (pending r.0)
          ∙ at r.0 (λ call e. due_waits w s.answers r.0 r.1 call e) (pending_call r.0.mode) refl

  -- with the same coroutines
  settled_beside : (w : World V) (l : Links) (u : Stream) (place : Place) (moment : ℕ) (notes : List Note) → ((call : Call) → link_answer w call ≡ None → link_answer (aside w w.coroutines l u place moment notes) call ≡ None) → IsSettled w → IsSettled (aside w w.coroutines l u place moment notes)
  settled_beside w l u place moment notes h s =
      subst (λ cs. IsSettled (aside w cs l u place moment notes)) (as_was w.coroutines)
      (settled_aside w (λ c. c) l u place moment notes (λ c. refl) (λ c. refl) (λ c. refl) (λ call e. h call e) s)
    where
      as_was : (cs : List (Coroutine V)) → map (λ c. c) cs ≡ cs
      as_was [] = refl
      as_was (c ∷ cs) = ap (λ ds. c ∷ ds) (as_was cs)

  settled_lined : (w : World V) → IsSettled w → IsSettled (record w { coroutines = map lined w.coroutines })
  settled_lined w s = settled_aside w lined w.links w.random w.place w.moment w.notes (λ c. refl) (λ c. lined_pending c.mode) (λ c. lined_ending c.mode) (λ call e. e) s

  calm_lined : (w : World V) (ready : List ℕ) (early : ℕ) → LooksApart w → IsSettled w × Restful w → IsCalm (queued w ready early).world
  calm_lined w ready early a s = record {
    apart = fewer_apart w (queued w ready early).world (fewer_lined w) a;
    settled = settled_lined w s.0;
    restful = calmly_rests w (queued w ready early).world (calmly_lined w) s.1;
  }

  -- what no answer looks at
  pub calm_beside : (w : World V) (place : Place) (moment : ℕ) (notes : List Note) → IsCalm w → IsCalm (aside w w.coroutines w.links w.random place moment notes)
  calm_beside w place moment notes c =
      let v = aside w w.coroutines w.links w.random place moment notes in
      record { apart = fewer_apart w v (fewer_same w v refl refl refl) c.apart; settled = settled_beside w w.links w.random place moment notes (λ call e. e) c.settled; restful = calmly_rests w v (calmly_same w v refl refl refl refl) c.restful }

  calm_lent : (w : World V) (u : Stream) → IsCalm w → IsCalm (lent u w)
  calm_lent w u c = record {
    apart = fewer_apart w (lent u w) (fewer_same w (lent u w) refl refl refl) c.apart;
    settled = settled_beside w w.links u w.place w.moment w.notes blind c.settled;
    restful = rest_lent w u c.restful;
  }
    where
      linked : (call : Call) (o : Option Link) → if_some o None (stack_answer call w.random) ≡ None → if_some o None (stack_answer call u) ≡ None
      linked call None e = refl
      linked call (Some x) e = answer_blind call u w.random x ∙ e

      blind : (call : Call) → link_answer w call ≡ None → link_answer (lent u w) call ≡ None
      blind call e = at (is_on_stack (word_of call)) (named_by call) e
        where
          at : (b : Bool) (o : Option ℕ) → (if b then if_some o None (λ number. if_some (link_named w number) None (stack_answer call w.random)) else None) ≡ None → (if b then if_some o None (λ number. if_some (link_named w number) None (stack_answer call u)) else None) ≡ None
          at false o f = refl
          at true None f = refl
          at true (Some n) f = linked call (link_named w n) f

  -- where each link answers as before nobody is answered
  links_answer : (w : World V) (l : Links) (call : Call) → ((n : ℕ) → if_some (look l n) None (stack_answer call w.random) ≡ if_some (look w.links n) None (stack_answer call w.random)) → link_answer w call ≡ None → link_answer (record w { links = l }) call ≡ None
  links_answer w l call same e = at (is_on_stack (word_of call)) (named_by call) e
    where
      by : (o : Option ℕ) → if_some (if_some o None (look w.links)) None (stack_answer call w.random) ≡ None → if_some (if_some o None (look l)) None (stack_answer call w.random) ≡ None
      by None f = refl
      by (Some n) f = same n ∙ f

      at : (b : Bool) (o : Option ℕ) → (if b then if_some o None (λ number. if_some (link_named w number) None (stack_answer call w.random)) else None) ≡ None → (if b then if_some o None (λ number. if_some (link_named (record w { links = l }) number) None (stack_answer call w.random)) else None) ≡ None
      at false o f = refl
      at true None f = refl
      at true (Some number) f = by (link_number w number) f

  -- a mark at a link that leaves the stack and the `shut` answers nobody
  pub mark_answers : (w : World V) (n : ℕ) (mark : Link → Link) (call : Call) → ((x : Link) → (mark x).number ≡ x.number) → ((x : Link) → stack_answer call w.random (mark x) ≡ stack_answer call w.random x) → link_answer w call ≡ None → link_answer (on_link w n mark) call ≡ None
  mark_answers w n mark call number same = links_answer w (change_link w.links n mark) call (λ l. found_alike mark None (stack_answer call w.random) number same n l w.links.all)

  -- links that may be named, that stand and that answer as before
  calm_links : (w : World V) (l : Links) → Stays w.links l → Calmly w (record w { links = l }) → ((call : Call) → link_answer w call ≡ None → link_answer (record w { links = l }) call ≡ None) → IsCalm w → IsCalm (record w { links = l })
  calm_links w l s q f c =
      let v : World V = record w { links = l } in
      record { apart = fewer_apart w v (fewer_parts w v refl refl s) c.apart; settled = settled_beside w l w.random w.place w.moment w.notes f c.settled; restful = calmly_rests w v q c.restful }

  pub calm_mark : (w : World V) (n : ℕ) (mark : Link → Link) → ((x : Link) → (mark x).number ≡ x.number) → ((x : Link) → (mark x).sort ≡ x.sort) → ((x : Link) → (mark x).stack ≡ x.stack) → ((call : Call) (x : Link) → stack_answer call w.random (mark x) ≡ stack_answer call w.random x) → IsCalm w → IsCalm (on_link w n mark)
  calm_mark w n mark number sort stack same = calm_links w (change_link w.links n mark) (stays_change w.links n mark number sort) (calmly_mark w n mark number stack) (λ call. mark_answers w n mark call number (same call))

  calm_heated : (ready : List Ready) (w : World V) → IsCalm w → IsCalm (fold heat_ready w ready)
  calm_heated [] w c = c
  calm_heated (x ∷ xs) w c =
      let f = heated x.read x.write in
      calm_heated xs (on_link w x.link f) (calm_mark w x.link f (λ y. refl) (λ y. refl) (λ y. refl) (λ call y. refl) c)

  calm_begun : (w : World V) → IsCalm w → IsCalm (begin w)
  calm_begun w c = calm_beside w w.place w.moment [] c

  calm_woke : (k : Kept V) (told : ℕ) (ready : List Ready) → IsCalm k.world → IsCalm (kept_woke k told ready).world
  calm_woke k told ready c =
      let v = fold heat_ready (begin k.world) ready in
      let m : World V = record v { links = rested v.links } in
      let answers = λ (call : Call). links_answer v m.links call (λ n. found_rested None (stack_answer call v.random) (λ x. refl) n v.links.all) in
      calm_beside m at_start (max k.world.moment told) m.notes (calm_links v m.links (soft_rested v.links).stays (calmly_rested v m refl refl refl refl) answers (calm_heated ready (begin k.world) (calm_begun k.world c)))

  calm_opening : (view : V) → IsCalm (opening_kept view).world
  calm_opening view = record {
    apart = opening_apart view no_random;
    settled = record { endings = refl; answers = refl };
    restful = record {
      calm = λ who call n l x p rd e nm i. absurd nm.there;
      apart = λ who other call more n m l p q s rd e f i j. absurd i.there;
    };
  }

  module _ (laws : LooksAgain) where
    -- what settles is calm, once its answers have their places
    settles_calm : (w : World V) (ready : List ℕ) (early : ℕ) → Numbered 0 w.coroutines w.last_coroutine → IsInOrder (settle w) → LooksApart w → IsCalm (queued (settle w) ready early).world
    settles_calm w ready early n o a = calm_lined (settle w) ready early (fewer_apart w (settle w) (fewer_settle w) a) (settles_from laws w n o a)

    calm_settle : (w : World V) (ready : List ℕ) (early : ℕ) → IsOrderly w → LooksApart w → IsCalm (queued (settle w) ready early).world
    calm_settle w ready early g a = settles_calm w ready early g.order.fits.numbered (settle_goes w g).good.order a

    -- the deadlines that have passed
    record Late (k : Kept V) : Type 0 where
      order : IsOrderly k.world
      apart : LooksApart k.world

    calm_late : (xs : List ℕ) (k : Kept V) → Late k → list_all (is_timed k.world) xs ≡ true → Late (fold kept_expire_next k xs)
    calm_late [] k l t = l
    calm_late (x ∷ xs) k l t =
        let b = and_parts (is_timed k.world x) (list_all (is_timed k.world) xs) t in
        let v = expire_one k.world x in
        let next = kept_expire_next k x in
        calm_late xs next
        (record {
          order = order_queued v k.ready k.early (expire_good k.world x l.order b.0).good;
          apart = fewer_apart v next.world (fewer_lined v) (fewer_apart k.world v (fewer_expire k.world x) l.apart);
        })
        (all_follow (is_timed k.world) (is_timed next.world) xs (λ n e. expire_lined k x n e) b.1)

    begun : (k : Kept V) → IsOrderly k.world → LooksApart k.world → Late (record k { world = begin k.world })
    begun k g a = record { order = begins k.world g; apart = fewer_apart k.world (begin k.world) (fewer_same k.world (begin k.world) refl refl refl) a }

    calm_expired : (k : Kept V) → IsOrderly k.world → LooksApart k.world → IsCalm (kept_expired k).world
    calm_expired k g a =
        let l = calm_late (passed k.world) (record k { world = begin k.world }) (begun k g a) (passed_timed k.world g.order) in
        calm_settle (kept_late k).world (kept_late k).ready (kept_late k).early l.order l.apart

    calm_shut : (k : Kept V) → IsOrderly k.world → LooksApart k.world → IsCalm (kept_shut k).world
    calm_shut k g a =
        let v = root_closed k.world in
        calm_settle v k.ready (length k.ready) (order_root_closed k.world g) (fewer_apart k.world v (fewer_parts k.world v refl refl (soft_rested k.world.links).stays) a)

    calm_hears : (p : Program V) (k : Kept V) (said : Option KernelReply) → IsWell p k → IsOrderly k.world → IsCalm k.world → IsCalm (kept_hear k said).world
    calm_hears p k said well g c = at (next_try k.world)
      where
        at : (o : Option Try) → IsCalm (if_some o k (λ x. queued (settle (heard (begin k.world) x said)) k.ready k.early)).world
        at None = c
        at (Some x) =
            let l = begun k g c.apart in
            let v = heard (begin k.world) x said in
            settles_calm v k.ready k.early (numbered_leads p (begin k.world) v (heard_leads p (begin k.world) x said well.lives) well.numbered) (hear_goes (begin k.world) x said l.order).good.order (heard_apart (begin k.world) x said l.apart)

    calm_turned : (p : Program V) → IsLawful p → (k : Kept V) (lack : Option LackPlace) → IsWell p k → IsOrderly k.world → IsCalm k.world → IsCalm (kept_turn p lack k).world
    calm_turned p law k lack well g c = at k.ready refl
      where
        at : (ready : List ℕ) → k.ready ≡ ready → IsCalm (turn_first p lack k ready).world
        at [] e = c
        at (who ∷ rest) e =
            let m = (steps_keep_well p law).first k who rest well e in
            let moved = go_on p lack (begin k.world) who m.one.body in
            subst (λ v. IsCalm (queued v rest (k.early - 1)).world) (turn_is p lack k.world who m.one m.found)
            (calm_settle moved rest (k.early - 1) (go_on_goes p lack k.world who m.one g m.found m.answered).good (go_on_apart p lack k.world who m.one.body c.apart))

pub steps_keep_calm : {V : Type 0} (p : Program V) → LooksAgain → StepsKeepCalm p
steps_keep_calm p laws law = record {
  opening = calm_opening;
  lent = λ k random c. calm_lent k.world random c;
  turned = calm_turned laws p law;
  hears = calm_hears laws p;
  started = λ k c. calm_begun k.world c;
  settled = λ k g a. calm_settle laws k.world k.ready k.early g a;
  expired = λ k g c. calm_expired laws k g c.apart;
  shut = λ k g c. calm_shut laws k g c.apart;
  woke = calm_woke;
}
