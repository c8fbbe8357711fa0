-- A turn, as a step of a state.
use Rattle.std.proofs.Common.{◌≡◌, ◌∙◌, ◌≤◌, ◌<◌, ◌==◌, ℕ, List, [], ◌∷◌, filter, find, Bool, true, false, not, Option, Some, None, is_some, if◌then◌else◌, refl, sym, ap, subst, arith}
use Rattle.std.proofs.lemmas.Bool.{and_parts}
use Rattle.std.specs.List.{AllByRecursion, list_any, list_all}
use Rattle.dill_calls.specs.declared.ran.LackPlace.{LackPlace}
use Rattle.dill_calls.specs.Program.{Program, IsLawful}
use Rattle.dill_scope.specs.Scopes.{Scopes, is_bundle, is_inside}
use Rattle.dill_scope.specs.Keeping.{IsThere}
use Rattle.dill_rules.specs.declared.coroutine.Coroutine.{Coroutine}
use Rattle.dill_rules.specs.declared.coroutine.Mode.{Mode}
use Rattle.dill_rules.specs.declared.coroutine.Mode.TheVariants as modes
use Rattle.dill_rules.specs.Debts.{is_early}
use Rattle.dill_rules.specs.State.{State, Stamp, is_stamp_of, stamp_of, is_fresh}
use Rattle.dill_rules.specs.World.{World, is_coroutine, begin, is_answered}
use Rattle.dill_rules.specs.Settling.{settle, IsSettled}
use Rattle.dill_rules.specs.Turning.{resume, answer_given, go_on, turn}
use Rattle.laws_sound.proofs.Sound.{closing_found}
use Rattle.laws_queue.specs.Kept.{Kept}
use Rattle.laws_queue.specs.Laws.{MayTurn, KeepsWell}
use Rattle.laws_sound.specs.Linkless.{MakesLinkless, IsLinkless}
use Rattle.laws_queue.specs.Stands.{StandsFor}
use Rattle.laws_sound.proofs.Linkless.{begin_linkless}
use Rattle.laws_sound.proofs.Turns.{go_on_linkless}
use Rattle.laws_sound.specs.Laws.{is_closing, is_resting}
use Rattle.laws_sound.specs.Orderly.{IsOrderly}
use Rattle.laws_debt.specs.Closing.{IsStable}
use Rattle.laws_debt.specs.Says.{IsLowering}
use Rattle.laws_debt.specs.Steady.{HasStamps, LowersInside}
use Rattle.laws_debt.proofs.Beginning.{OldFlag, NoAnswer, Begun, same, none, old_flags, settle_flags, go_on_begun}
use Rattle.laws_debt.proofs.Bounded.{each_found, queued_early}
use Rattle.laws_debt.proofs.Within.{KeepsWithin}
use Rattle.laws_debt.proofs.Evolving.{Suits, evolves_calm}
use Rattle.laws_debt.proofs.Falling.{LowersAt, closing_shut, ranked_bound, turn_falls}
use Rattle.laws_debt.proofs.Flagging.{both_all}
use Rattle.laws_debt.proofs.Keeping.{nobody_calm, AnyBundle, IsGood, good_stable, good_moved, settles, turn_is}
use Rattle.laws_queue.proofs.Lists.{all_found, all_to, found_passes, number_of, equal_number}
use Rattle.laws_debt.proofs.Walking.{AllSit, unlike}
use Rattle.laws_debt.proofs.Shutting.{settle_shut, AllHold, go_on_shut}
use Rattle.laws_debt.proofs.Stamping.{others_stay, taken_gone}
use Rattle.laws_debt.proofs.Stepwise.{LowersFresh, StampOk, stamp_lasts, stamps_self, all_there, Stepped, less_early}
use Rattle.laws_debt.proofs.Tracking.{tracks_self}
use Rattle.laws_debt.proofs.Tree.{InTree, tree_same, tree_leads, settled_tree}
use Rattle.laws_debt.proofs.Turning.{go_on_went, went_leads, all_resumed}

pub flag_was : (s : Scopes) (t : Scopes) (b : ℕ) → AllByRecursion (OldFlag s) t.bundles → is_closing t b ≡ true → is_closing s b ≡ true
flag_was s t b a c =
    let y = closing_found t b c in
    let name = number_of y.0.name b (found_passes (is_bundle b) t.bundles y.0 y.1) in
    subst (λ n. is_closing s n ≡ true) name (all_found (OldFlag s) (is_bundle b) y.0 t.bundles y.1 a y.2)

no_fresh : (mode : Mode) → is_fresh mode ≡ false → LowersFresh mode
no_fresh (modes.Pending call) e = tt
no_fresh modes.Running e = tt
no_fresh (modes.Fresh word answer) e = cc
no_fresh (modes.Answered word answer) e = tt
no_fresh (modes.Ending outcome) e = tt

rest_unfresh : (mode : Mode) → is_resting mode ≡ true → is_fresh mode ≡ false
rest_unfresh (modes.Pending call) e = refl
rest_unfresh modes.Running e = cc
rest_unfresh (modes.Fresh word answer) e = cc
rest_unfresh (modes.Answered word answer) e = refl
rest_unfresh (modes.Ending outcome) e = refl

pub unfresh_all : {V : Type 0} (cs : List (Coroutine V)) → list_all (λ c. is_resting c.mode) cs ≡ true → AllByRecursion NoAnswer cs
unfresh_all [] e = tt
unfresh_all (c ∷ cs) e = let h = and_parts (is_resting c.mode) (list_all (λ d. is_resting d.mode) cs) e in (rest_unfresh c.mode h.0, unfresh_all cs h.1)

module _ {V : Type 0} (p : Program V) where
  -- what an answer in this step must be, of who is inside
  abbrev AnswersIn : (ℕ → Bool) → Coroutine V → Type 0
  AnswersIn tree c = tree c.number ≡ true → LowersFresh c.mode

  suits_answers : (tree : ℕ → Bool) (c : Coroutine V) (mode : Mode) → Suits p tree c mode → tree c.number ≡ true → LowersFresh mode
  suits_answers tree c (modes.Pending call) s t = tt
  suits_answers tree c modes.Running s t = absurd s
  suits_answers tree c (modes.Fresh word answer) s t = s.1 t
  suits_answers tree c (modes.Answered word answer) s t = absurd s
  suits_answers tree c (modes.Ending outcome) s t = tt

  -- In a world whose closings have just begun and in which nobody was answered yet, settling gives who is inside one what lowers.
  pub begun_settles : (moved : World V) (b : ℕ) → IsLinkless moved → IsOrderly moved → AllSit p moved.coroutines → AllHold AnyBundle 0 moved → AllByRecursion NoAnswer moved.coroutines → is_closing (settle moved).scopes b ≡ true → AllByRecursion (λ c. is_inside (settle moved).scopes b c.number ≡ true → LowersFresh c.mode) (settle moved).coroutines
  begun_settles moved b linkless order sits holds unanswered closing =
      let v = settle moved in
      let forest = order.order.fits.forest.forest in
      let tree = is_inside moved.scopes b in
      let flags = settle_flags moved.scopes moved (old_flags moved.scopes order.order.fits.forest) in
      let was = flag_was moved.scopes v.scopes b flags closing in
      let x = closing_found moved.scopes b was in
      let name : x.0.name ≡ b = number_of x.0.name b (found_passes (is_bundle b) moved.scopes.bundles x.0 x.1) in
      let self : InTree p moved.scopes b forest moved = record {
        linkless = linkless;
        order = order;
        sits = sits;
        holds = record { given = subst (λ n. n ≤ moved.last_bundle) name (ranked_bound moved.scopes.bundles 0 moved.last_bundle b x.0 holds.flags.ranked x.1); bundles = closing_shut moved b order.order was; flags = holds.flags };
        tracks = tracks_self moved.scopes b order.order.fits.forest;
      } in
      let leads = tree_leads p moved.scopes b forest moved self in
      let after = settled_tree p moved.scopes b forest moved self in
      let start = all_to NoAnswer (AnswersIn tree) moved.coroutines (λ c e t. no_fresh c.mode e) unanswered in
      let done = evolves_calm p tree (AnswersIn tree) (λ c mode s t. suits_answers tree c mode s t) (λ number view g q t. unlike (tree number) q t) moved.coroutines v.coroutines moved.last_coroutine v.last_coroutine leads start in
      both_all (λ (c : Coroutine V). IsThere v.scopes c.number) (AnswersIn tree) (λ c. is_inside v.scopes b c.number ≡ true → LowersFresh c.mode) v.coroutines (λ c there h i. h (sym (tree_same p moved.scopes b forest v c.number after.order.order after.tracks there) ∙ i)) (all_there v after.order.order) done

-- ---- the turn

module _ {V : Type 0} (p : Program V) (law : IsLawful p) (unlinked : MakesLinkless p) (keeps : KeepsWell p) (within : KeepsWithin p) where
  -- what was asked of those who had an answer before
  abbrev HadAnswer : ℕ → List ℕ → Coroutine V → Type 0
  HadAnswer who ready c = is_answered c.mode ≡ true → ((c.number == who) ≡ false) × (list_any (λ m. m == c.number) ready ≡ true)

  suits_unanswered : (tree : ℕ → Bool) (c : Coroutine V) (mode : Mode) → Suits p tree c mode → is_answered mode ≡ true → ⊥
  suits_unanswered tree c (modes.Pending call) s e = let it : false ≡ true = e in cc
  suits_unanswered tree c modes.Running s e = absurd s
  suits_unanswered tree c (modes.Fresh word answer) s e = let it : false ≡ true = e in cc
  suits_unanswered tree c (modes.Answered word answer) s e = absurd s
  suits_unanswered tree c (modes.Ending outcome) s e = let it : false ≡ true = e in cc

  turned_holds : (k : Kept V) (closings : List Stamp) (next : ℕ) (lack : Option LackPlace) (who : ℕ) → (s : IsStable p k) → MayTurn p k.world who → AllByRecursion {X = Stamp} (λ x. (x.of ≤ k.world.last_bundle) × (x.at < next)) closings → AllByRecursion (λ y. is_some (stamp_of closings y.name) ≡ y.closing) k.world.scopes.bundles → AllHold (StampOk k.world.scopes closings) k.world.last_bundle (turn p lack k.world who)
  turned_holds k closings next lack who s may low each =
      let w = k.world in
      let P = StampOk w.scopes closings in
      let lasts = stamp_lasts w closings next s.flags low in
      let good = good_moved p law unlinked lack w who may may.one may.found may.some may.real (good_stable p k s) in
      let moved = go_on p lack (begin w) who may.one.body in
      let first = go_on_shut P w.last_bundle lasts p lack (begin w) who may.one.body
      (record { given = omega arith; bundles = stamps_self w closings s.order.order each; flags = s.flags }) in
      subst (AllHold P w.last_bundle) (sym (turn_is p law unlinked lack w who may.one may.found)) (settle_shut P w.last_bundle lasts moved first)

  turned_answered : (k : Kept V) (lack : Option LackPlace) (who : ℕ) → (s : IsStable p k) → MayTurn p k.world who → AllByRecursion (HadAnswer who k.ready) (turn p lack k.world who).coroutines
  turned_answered k lack who s may =
      let w = k.world in
      let c = may.one in
      let b = begin w in
      let moved = go_on p lack b who c.body in
      let good = good_moved p law unlinked lack w who may c may.found may.some may.real (good_stable p k s) in
      let went = go_on_went p law nobody_calm lack b who c unlinked may.some (record { found = may.found; real = may.real; cancelled = λ e. cc; born = λ e. refl; sits = (good_stable p k s).sits; met = λ other its answer e f. cc }) in
      let from = went_leads p law nobody_calm b who c (answer_given b who).1 moved may.found went in
      let found = each_found w.coroutines 0 w.last_coroutine s.well.numbered in
      let before = all_to (λ d. find (is_coroutine d.number) w.coroutines ≡ Some d) (λ d. is_answered d.mode ≡ true → list_any (λ m. m == d.number) k.ready ≡ true) w.coroutines (λ d e a. queued_early k.ready w.coroutines s.well.queue d e a) found in
      let resumed = all_resumed who from.0 (λ d. is_answered d.mode ≡ true → list_any (λ m. m == d.number) k.ready ≡ true) (HadAnswer who k.ready) w.coroutines 0 w.last_coroutine s.well.numbered (λ x i h a. (i, h a)) (λ x i a. cc) before in
      let after = evolves_calm p nobody_calm (HadAnswer who k.ready) (λ d mode q a. absurd (suits_unanswered nobody_calm d mode q a)) (λ number view q r a. cc) (resume b who from.0).coroutines moved.coroutines w.last_coroutine moved.last_coroutine from.1 resumed in
      let done = evolves_calm p nobody_calm (HadAnswer who k.ready) (λ d mode q a. absurd (suits_unanswered nobody_calm d mode q a)) (λ number view q r a. cc) moved.coroutines (settle moved).coroutines moved.last_coroutine (settle moved).last_coroutine (settles p moved good.sits good.numbered) after in
      subst (λ (v : World V). AllByRecursion (HadAnswer who k.ready) v.coroutines) (sym (turn_is p law unlinked lack w who c may.found)) done

  turned_begun : (k : Kept V) (lack : Option LackPlace) (who : ℕ) (rest : List ℕ) (b : ℕ) → (s : IsStable p k) → k.ready ≡ who ∷ rest → MayTurn p k.world who → is_closing k.world.scopes b ≡ false → is_closing (turn p lack k.world who).scopes b ≡ true → AllByRecursion (λ c. is_inside (turn p lack k.world who).scopes b c.number ≡ true → LowersFresh c.mode) (turn p lack k.world who).coroutines
  turned_begun k lack who rest b s e may old new =
      let w = k.world in
      let c = may.one in
      let moved = go_on p lack (begin w) who c.body in
      let is = turn_is p law unlinked lack w who c may.found in
      let good = good_moved p law unlinked lack w who may c may.found may.some may.real (good_stable p k s) in
      let linkless_move = unlinked c.body (answer_given (begin w) who).1 may.real may.some in
      let begun = go_on_begun w.scopes p lack (begin w) who c may.found (unfresh_all w.coroutines s.rest) (old_flags w.scopes s.order.order.fits.forest) in
      let closing : is_closing (settle moved).scopes b ≡ true = subst (λ (v : World V). is_closing v.scopes b ≡ true) is new in
      subst (λ (v : World V). AllByRecursion (λ d. is_inside v.scopes b d.number ≡ true → LowersFresh d.mode) v.coroutines) (sym is)
      (at moved good (go_on_linkless p lack (begin w) who c.body linkless_move (begin_linkless w s.linkless)) (within.moved k lack who rest c s.well s.order e may.found) closing begun)
    where
      at : (moved : World V) → IsGood p moved → IsLinkless moved → IsOrderly moved → is_closing (settle moved).scopes b ≡ true → Begun k.world.scopes moved → AllByRecursion (λ d. is_inside (settle moved).scopes b d.number ≡ true → LowersFresh d.mode) (settle moved).coroutines
      at moved good linkless order closing (same flags) =
          let kept = settle_flags k.world.scopes moved flags in
          unlike (is_closing k.world.scopes b) old (flag_was k.world.scopes (settle moved).scopes b kept closing)
      at moved good linkless order closing (none unanswered) = begun_settles p moved b linkless order good.sits good.holds unanswered closing

  -- the turn is a step, in which its own answer is taken
  pub turn_steps : (k : Kept V) (s : State V) (lack : Option LackPlace) (who : ℕ) (rest : List ℕ) → (stable : IsStable p k) → IsSettled k.world → StandsFor k s → HasStamps s → ((b : ℕ) → is_closing s.world.scopes b ≡ true → LowersInside s b) → k.ready ≡ who ∷ rest → Stepped p law unlinked k s (turn p lack k.world who) (λ n. n == who) (filter (λ x. not (is_stamp_of who x)) s.answers)
  turn_steps k s lack who rest stable settled stands stamps lowers e =
      let may = keeps.first k who rest stable.well e in
      let low = subst (λ (w : World V). AllByRecursion {X = Stamp} (λ x. (x.of ≤ w.last_bundle) × (x.at < s.next)) s.closings) (sym stands.world) stamps.low in
      let each = subst (λ (w : World V). AllByRecursion (λ y. is_some (stamp_of s.closings y.name) ≡ y.closing) w.scopes.bundles) (sym stands.world) stamps.each in
      record {
        holds = turned_holds k s.closings s.next lack who stable may low each;
        falls = λ b c.
            let here : AllByRecursion (LowersAt p (is_inside k.world.scopes b) (is_early s b)) k.world.coroutines =
            subst (λ (w : World V). AllByRecursion (λ d. is_inside w.scopes b d.number ≡ true → IsLowering (is_early s b) d) w.coroutines) (sym stands.world) (lowers b (subst (λ (w : World V). is_closing w.scopes b ≡ true) stands.world c)) in
            (turn_falls p law unlinked keeps within k lack who rest b (is_early s b) (less_early p law unlinked s b (λ n. n == who)) stable settled e c (ap (λ g. if g then false else is_early s b who) (equal_number who who refl)) (λ n i. ap (λ g. if g then false else is_early s b n) i) here).falling;
        begun = λ b c d. turned_begun k lack who rest b stable e may c d;
        answered = turned_answered k lack who stable may;
        left = λ n g. others_stay n who s.answers g;
        lost = λ n g. subst (λ m. find (is_stamp_of m) (filter (λ x. not (is_stamp_of who x)) s.answers) ≡ None) (sym (number_of n who g)) (taken_gone who s.answers);
      }
