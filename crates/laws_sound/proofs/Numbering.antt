-- Each number that was given is live, of a closing, or was noted as dead, once: each step leaves it so.
use Rattle.std.proofs.Common.{◌≡◌, ◌∙◌, ℕ, ◌+◌, List, [], ◌∷◌, ◌++◌, map, fold, Bool, true, false, ◌&&◌, Option, Some, None, if◌then◌else◌, refl, sym, ap, subst, arith, is_some, nat_le, nat_lt}
use Rattle.std.proofs.lemmas.Bool.Decides.{nat_tests}
use Rattle.std.proofs.lemmas.Bool.{and_parts}
use Rattle.std.specs.List.{list_all}
use Rattle.rand_core.specs.Stream.{Stream}
use Rattle.dill_base.specs.Maps.{if_some}
use Rattle.dill_calls.specs.declared.ran.LackPlace.{LackPlace}
use Rattle.dill_calls.specs.declared.ran.Note.{Note}
use Rattle.dill_calls.specs.Program.{Program, IsLawful}
use Rattle.dill_kernel.specs.declared.ready.Ready.{Ready}
use Rattle.dill_kernel.specs.declared.replies.KernelReply.{KernelReply}
use Rattle.dill_rules.specs.Expiring.{expire_one, passed}
use Rattle.dill_rules.specs.Hearing.{heat_ready, heard}
use Rattle.dill_rules.specs.Seen.{lend}
use Rattle.dill_rules.specs.Settling.{settle}
use Rattle.dill_rules.specs.State.{State, opening_state, next_turn, turn_of, after}
use Rattle.dill_rules.specs.Trying.{Try, next_try}
use Rattle.dill_rules.specs.Turning.{turn}
use Rattle.dill_rules.specs.World.{World, begin}
use Rattle.laws_queue.specs.Following.{Follows}
use Rattle.laws_queue.specs.Kept.{Kept, opening_kept, has_answer, queued, turn_first, kept_turn, kept_hear, kept_expire_next, kept_late, kept_expired, kept_shut, kept_woke, root_closed, lend_kept, returned}
use Rattle.laws_queue.specs.Laws.{KeepsWell}
use Rattle.laws_queue.specs.Lending.{lent, wordless}
use Rattle.laws_queue.specs.Stands.{StandsFor}
use Rattle.laws_queue.specs.Well.{bit, occurs, IsWell}
use Rattle.laws_queue.proofs.Besides.{heat_all_besides}
use Rattle.laws_queue.proofs.Following.{follows_states}
use Rattle.laws_queue.proofs.Keeping.{steps_keep_well}
use Rattle.laws_sound.specs.Laws.{is_timed, KeepsOrder}
use Rattle.laws_sound.specs.Numbers.{Event, Turn, Hear, Expire, Shut, Wake, event, is_due, notes_of, reached, noted, GivesNumbersOnce}
use Rattle.laws_sound.specs.Order.{times_used}
use Rattle.laws_sound.specs.Orderly.{dead_by, IsOrderly, NotesOnce}
use Rattle.laws_sound.proofs.Answering.{Goes, goes_then, does_goes, besides, settle_goes, expire_good, notes_each}
use Rattle.laws_sound.proofs.Calling.{turn_goes}
use Rattle.laws_sound.proofs.Hearing.{hear_goes}
use Rattle.laws_sound.proofs.Lists.{all_follow}
use Rattle.laws_sound.proofs.Making.{begins}
use Rattle.laws_sound.proofs.Noting.{counts_then}
use Rattle.laws_sound.proofs.Ordering.{order_anyway}
use Rattle.laws_sound.proofs.Stepping.{steps_keep_order, order_queued, order_root_closed, passed_timed, expire_lined}

module _ {V : Type 0} where
  -- ---- what a core keeps

  late_goes : (xs : List ℕ) (k : Kept V) → IsOrderly k.world → list_all (is_timed k.world) xs ≡ true → Goes k.world (fold kept_expire_next k xs).world
  late_goes [] k g t = record { good = g; noted = λ n. refl }
  late_goes (x ∷ xs) k g t =
      let b = and_parts (is_timed k.world x) (list_all (is_timed k.world) xs) t in
      let one = expire_good k.world x g b.0 in
      let next = kept_expire_next k x in
      let rest = late_goes xs next (order_queued (expire_one k.world x) k.ready k.early one.good) (all_follow (is_timed k.world) (is_timed next.world) xs (λ n e. expire_lined k x n e) b.1) in
      record { good = rest.good; noted = counts_then k.world next.world (fold kept_expire_next next xs).world one.noted rest.noted }

  expired_notes : (k : Kept V) → IsOrderly k.world → NotesOnce (begin k.world) (kept_expired k).world
  expired_notes k g =
      let late = late_goes (passed k.world) (record k { world = begin k.world }) (begins k.world g) (passed_timed k.world g.order) in
      let done = settle_goes (kept_late k).world late.good in
      notes_each (begin k.world) (settle (kept_late k).world) (goes_then (begin k.world) (kept_late k).world (settle (kept_late k).world) late done)

  woke_notes : (k : Kept V) (told : ℕ) (ready : List Ready) → IsOrderly k.world → NotesOnce (begin k.world) (kept_woke k told ready).world
  woke_notes k told ready g =
      let b = begins k.world g in
      notes_each (begin k.world) (fold heat_ready (begin k.world) ready) (does_goes (begin k.world) (fold heat_ready (begin k.world) ready) b (besides (begin k.world) (fold heat_ready (begin k.world) ready) (heat_all_besides ready (begin k.world)) b.order))

  hear_notes : (k : Kept V) (said : Option KernelReply) → IsOrderly k.world → is_some (next_try k.world) ≡ true → NotesOnce (begin k.world) (kept_hear k said).world
  hear_notes k said g d = at (next_try k.world) d
    where
      at : (o : Option Try) → is_some o ≡ true → NotesOnce (begin k.world) (if_some o k (λ x. queued (settle (heard (begin k.world) x said)) k.ready k.early)).world
      at None e = cc
      at (Some x) e = notes_each (begin k.world) (settle (heard (begin k.world) x said)) (hear_goes (begin k.world) x said (begins k.world g))

  turned_notes : (p : Program V) → KeepsWell p → (k : Kept V) (lack : Option LackPlace) → IsWell p k → IsOrderly k.world → has_answer k.ready ≡ true → NotesOnce (begin k.world) (kept_turn p lack k).world
  turned_notes p keeps k lack well g d = at k.ready refl d
    where
      at : (ready : List ℕ) → k.ready ≡ ready → has_answer ready ≡ true → NotesOnce (begin k.world) (turn_first p lack k ready).world
      at [] e f = cc
      at (who ∷ rest) e f = let m = keeps.first k who rest well e in notes_each (begin k.world) (turn p lack k.world who) (turn_goes p lack k.world who m.one g m.found m.answered)

  -- ---- states

  -- a state for which stands what is kept well and in order
  record Sound (p : Program V) (s : State V) : Type 0 where
    kept : Kept V
    well : IsWell p kept
    orderly : IsOrderly kept.world
    stands : StandsFor kept s

  lent_orderly : (random : Stream) (w : World V) → IsOrderly w → IsOrderly (lent random w)
  lent_orderly random w g = record { order = order_anyway w w.channels w.links w.place random w.moment w.notes g.order; sockets = g.sockets; waits = g.waits; kept = g.kept }

  lent_well : (p : Program V) (k : Kept V) (random : Stream) → IsWell p k → IsWell p (lend_kept k random)
  lent_well p k random w = record { lives = w.lives; numbered = w.numbered; queue = w.queue }

  lent_stands : (k : Kept V) (s : State V) (random : Stream) → StandsFor k s → StandsFor k (lend s random)
  lent_stands k s random h = record { world = h.world; order = h.order; rise = h.rise }

  -- what a step leaves: the state is sound, and each number is where it was, or noted, or new
  record Leaves (p : Program V) (s t : State V) : Type 0 where
    sound : Sound p t
    notes : NotesOnce (begin s.world) t.world

  noted_alike : (w v s t : World V) → w ≡ s → v ≡ t → NotesOnce (begin w) v → NotesOnce (begin s) t
  noted_alike w v s t e f h = subst (λ u. NotesOnce (begin u) t) e (subst (λ u. NotesOnce (begin w) u) f h)

  -- by what is kept, once the random numbers are given back
  leaves_by : (p : Program V) (k l : Kept V) (s t : State V) → StandsFor k s → IsWell p l → IsOrderly l.world → StandsFor (returned l) t → NotesOnce (begin k.world) l.world → Leaves p s t
  leaves_by p k l s t before well g now notes = record {
    sound = record { kept = returned l; well = record { lives = well.lives; numbered = well.numbered; queue = well.queue }; orderly = lent_orderly (returned l).world.random l.world g; stands = now };
    notes = noted_alike k.world (wordless l.world) (wordless s.world) (wordless t.world) before.world now.world notes;
  }

  module _ (p : Program V) (law : IsLawful p) where
    keeps : KeepsWell p
    keeps = steps_keep_well p law

    ordered : KeepsOrder p
    ordered = steps_keep_order p law

    follows : Follows p
    follows = follows_states p law

    due_leaves : (s : State V) (x : Event) (random : Stream) → Sound p s → is_due (lend s random) x ≡ true → Leaves p s (event p (lend s random) x)
    due_leaves s (Turn lack) random h d =
        let l = lend_kept h.kept random in
        let well = lent_well p h.kept random h.well in
        let g = lent_orderly random h.kept.world h.orderly in
        let seen = follows.seen h.kept (lend s random) h.well (lent_stands h.kept s random h.stands) in
        leaves_by p h.kept (kept_turn p lack l) s (event p (lend s random) (Turn lack)) h.stands (keeps.turned l lack well) (ordered.turned l lack well g) (follows.turned h.kept s lack random h.well h.stands).stands
        (turned_notes p keeps l lack well g (sym seen.answered ∙ d))
    due_leaves s (Hear said) random h d =
        let l = lend_kept h.kept random in
        let g = lent_orderly random h.kept.world h.orderly in
        let due : is_some (next_try h.kept.world) ≡ true = ap (λ w. is_some (next_try w)) h.stands.world ∙ d in
        leaves_by p h.kept (kept_hear l said) s (event p (lend s random) (Hear said)) h.stands (keeps.hears l said (lent_well p h.kept random h.well)) (ordered.hears l said g) (follows.heard h.kept s said random h.stands).stands
        (hear_notes l said g due)
    due_leaves s Expire random h d =
        let l = lend_kept h.kept random in
        let g = lent_orderly random h.kept.world h.orderly in
        leaves_by p h.kept (kept_expired l) s (event p (lend s random) Expire) h.stands (keeps.expired l (lent_well p h.kept random h.well)) (ordered.expired l g) (follows.expired h.kept s random h.stands).stands (expired_notes l g)
    due_leaves s Shut random h d =
        let l = lend_kept h.kept random in
        let g = lent_orderly random h.kept.world h.orderly in
        leaves_by p h.kept (kept_shut l) s (event p (lend s random) Shut) h.stands (keeps.shut l (lent_well p h.kept random h.well)) (ordered.shut l g) (follows.shut h.kept s random h.stands).stands
        (notes_each (root_closed l.world) (settle (root_closed l.world)) (settle_goes (root_closed l.world) (order_root_closed l.world g)))
    due_leaves s (Wake told ready) random h d =
        let k = h.kept in
        let now = follows.woke k (lend s random) told ready (lent_stands k s random h.stands) in
        record {
          sound = record { kept = kept_woke k told ready; well = keeps.woke k told ready h.well; orderly = ordered.woke k told ready h.orderly; stands = now };
          notes = noted_alike k.world (kept_woke k told ready).world (wordless s.world) (wordless (event p (lend s random) (Wake told ready)).world) h.stands.world now.world (woke_notes k told ready h.orderly);
        }

    -- what isn't due does nothing
    not_due : (s : State V) (x : Event) → is_due s x ≡ false → event p s x ≡ s
    not_due s (Turn lack) e = at (next_turn s) e
      where
        at : (o : Option ℕ) → is_some o ≡ false → if_some o s (turn_of p lack s) ≡ s
        at None f = refl
        at (Some who) f = cc
    not_due s (Hear said) e = at (next_try s.world) e
      where
        at : (o : Option Try) → is_some o ≡ false → if_some o s (λ x. after s (settle (heard (begin s.world) x said))) ≡ s
        at None f = refl
        at (Some x) f = cc
    not_due s Expire e = cc
    not_due s Shut e = cc
    not_due s (Wake told ready) e = cc

    occurs_both : (n : ℕ) (xs ys : List Note) → occurs n (map dead_by (xs ++ ys)) ≡ occurs n (map dead_by xs) + occurs n (map dead_by ys)
    occurs_both n [] ys = omega arith
    occurs_both n (x ∷ xs) ys = let r = occurs_both n xs ys in omega (arith, r)

    -- over steps
    Once : State V → State V → List Note → Type 0
    Once s t notes = (n : ℕ) → (occurs n (map dead_by notes) + times_used t.world n) + bit (nat_le n s.world.handles.last) ≡ times_used s.world n + bit (nat_le n t.world.handles.last)

    record Reaches (s t : State V) (notes : List Note) : Type 0 where
      sound : Sound p t
      once : Once s t notes

    one_step : (s : State V) (random : Stream) (x : Event) → Sound p s → Reaches s (event p (lend s random) x) (notes_of p (lend s random) x)
    unfolding Once
    one_step s random x h = at (is_due (lend s random) x) refl
      where
        t : State V
        t = event p (lend s random) x

        at : (b : Bool) → is_due (lend s random) x ≡ b → Reaches s t (if b then t.world.notes else [])
        at true d = let l = due_leaves s x random h d in record { sound = l.sound; once = λ n. let o = l.notes n in omega (arith, o) }
        at false d =
            let same : t ≡ lend s random = not_due (lend s random) x d in
            subst (λ u. Reaches s u []) (sym same) (record { sound = record { kept = h.kept; well = h.well; orderly = h.orderly; stands = lent_stands h.kept s random h.stands }; once = λ n. omega arith })

    all_steps : (xs : List (Stream × Event)) (s : State V) → Sound p s → Reaches s (reached p s xs) (noted p s xs)
    unfolding Once
    all_steps [] s h = record { sound = h; once = λ n. omega arith }
    all_steps ((random, x) ∷ xs) s h =
        let one = one_step s random x h in
        let t = event p (lend s random) x in
        let rest = all_steps xs t one.sound in
        record {
          sound = rest.sound;
          once = λ n.
              let a = one.once n in
              let b = rest.once n in
              let c = occurs_both n (notes_of p (lend s random) x) (noted p t xs) in
              omega (arith, a, b, c);
        }

no_more : (n : ℕ) → nat_lt 0 n ≡ true → nat_le n 0 ≡ true → ⊥
no_more n e f = grind (arith, nat_tests)

some_more : (n : ℕ) → nat_lt 0 n ≡ false → nat_le n 0 ≡ false → ⊥
some_more n e f = grind (arith, nat_tests)

-- 0 is no number, and was there from the start as if it were one
positive : (n last : ℕ) (k : ℕ) → k + bit (nat_le n 0) ≡ 0 + bit (nat_le n last) → k ≡ bit (nat_lt 0 n && nat_le n last)
positive n last k e = at (nat_lt 0 n) (nat_le n 0) (nat_le n last) refl refl e
  where
    at : (a b c : Bool) → nat_lt 0 n ≡ a → nat_le n 0 ≡ b → k + bit b ≡ 0 + bit c → k ≡ bit (a && c)
    at true true c f g h = absurd (no_more n f g)
    at true false c f g h = omega (arith, h)
    at false true true f g h = omega (arith, h)
    at false true false f g h = absurd (omega (arith, h))
    at false false c f g h = absurd (some_more n f g)

pub gives_numbers_once : {V : Type 0} (p : Program V) → GivesNumbersOnce p
unfolding Once
gives_numbers_once p law view random xs n b =
    let k = opening_kept view in
    let f = (follows_states p law).opening view random in
    let r = all_steps p law xs (opening_state view random) (record { kept = k; well = (steps_keep_well p law).opening view b; orderly = (steps_keep_order p law).opening view; stands = f }) in
    positive n (reached p (opening_state view random) xs).world.handles.last _ (r.once n)
