-- Steps over the queue are steps over the stamps.
use Rattle.std.proofs.Common.{◌≡◌, ◌∙◌, ◌+◌, ◌-◌, ◌==◌, ◌≤◌, ℕ, List, [], ◌∷◌, ◌++◌, length, map, filter, fold, Bool, true, false, not, ◌&&◌, ◌||◌, Option, Some, None, if◌then◌else◌, refl, sym, ap, subst, arith, nat_lt, max, IfSome, lit≤, is_some, is_none}
use Rattle.std.proofs.lemmas.Bool.Decides.{nat_tests}
use Rattle.std.specs.Option.{option_map}
use Rattle.rand_core.specs.Stream.{Stream}
use Rattle.dill_calls.specs.declared.ran.LackPlace.{LackPlace}
use Rattle.dill_calls.specs.Program.{Program}
use Rattle.dill_kernel.specs.declared.replies.KernelReply.{KernelReply}
use Rattle.dill_kernel.specs.declared.ready.Ready.{Ready}
use Rattle.dill_base.specs.Maps.{if_some}
use Rattle.dill_rules.specs.declared.coroutine.Coroutine.{Coroutine}
use Rattle.dill_handles.specs.Handles as handles
use Rattle.dill_kernel.specs.declared.ready.Limit.TheVariants.{NoWait}
use Rattle.dill_rules.specs.Trying.{Try, tries, next_try}
use Rattle.dill_rules.specs.Waiting.{until, least_due, has_close, awaits_link, waiters}
use Rattle.dill_rules.specs.World.{World, begin, from_start, coroutine_of}
use Rattle.dill_rules.specs.Expiring.{expire_one, passed}
use Rattle.dill_rules.specs.Hearing.{heat_ready, heard, woken}
use Rattle.dill_rules.specs.Settling.{settle}
use Rattle.dill_rules.specs.Seen.{nobody, lend, ran_seen}
use Rattle.dill_rules.specs.State.{State, Stamp, is_stamp_of, lesser, least, stamped, lined, fresh, line_up, after, next_turn, is_answered, turn_of, turned, may_lack, expire_next, expired, shut, woke, hear}
use Rattle.dill_calls.specs.declared.ran.Ran.{Ran}
use Rattle.dill_rules.specs.Turning.{is_build, turn, shown, may_lack_move, move_of, answer_given, lack_met, end_of, text_of}
use Rattle.laws_queue.specs.Following.{SeenAlike, StandsAfter, FollowsStates}
use Rattle.laws_queue.specs.Kept.{Kept, queued, has_answer, lend_kept, turn_first, shown_first, may_lack_first, kept_expire_next, kept_late, kept_expired, root_closed, kept_shut, kept_hear, kept_woke}
use Rattle.laws_queue.specs.Lending.{no_random, lent, wordless}
use Rattle.laws_queue.specs.Stands.{Rise, StandsFor}
use Rattle.laws_queue.specs.Well.{bit, occurs, IsQueue, IsWell}

later_stamp : (x y : Stamp) → x.at + 1 ≤ y.at → nat_lt y.at x.at ≡ false
later_stamp x y h = grind (arith, nat_tests)

lesser_first : (x : Stamp) (o : Option Stamp) → IfSome o (λ y. x.at + 1 ≤ y.at) → lesser x o ≡ x
lesser_first x None h = refl
lesser_first x (Some y) h = let later = later_stamp x y h in rw later refl

least_above : (low : ℕ) (xs : List Stamp) (next : ℕ) → Rise low xs next → IfSome (least xs) (λ y. low ≤ y.at)
least_above low [] next h = tt
least_above low (x ∷ xs) next h = let first = lesser_first x (least xs) (least_above (x.at + 1) xs next h.1) in rw first h.0

least_first : (x : Stamp) (xs : List Stamp) (next : ℕ) → Rise (x.at + 1) xs next → least (x ∷ xs) ≡ Some x
least_first x xs next h = ap Some (lesser_first x (least xs) (least_above (x.at + 1) xs next h))

numbers_append : (xs ys : List Stamp) → map (λ x. x.of) (xs ++ ys) ≡ map (λ x. x.of) xs ++ map (λ x. x.of) ys
numbers_append [] ys = refl
numbers_append (x ∷ xs) ys = ap (λ zs. x.of ∷ zs) (numbers_append xs ys)

numbers_stamped : (t : ℕ) (ns : List ℕ) → map (λ x. x.of) (stamped t ns) ≡ ns
numbers_stamped t [] = refl
numbers_stamped t (n ∷ ns) = ap (λ zs. n ∷ zs) (numbers_stamped (t + 1) ns)

rise_stamped : (low t : ℕ) (ns : List ℕ) → low ≤ t → Rise low (stamped t ns) (t + length ns)
rise_stamped low t [] h = omega (arith, h)
rise_stamped low t (n ∷ ns) h =
    let e : t + length (n ∷ ns) ≡ (t + 1) + length ns = omega arith in
    (h, rw e (rise_stamped (t + 1) (t + 1) ns (omega arith)))

rise_from : (low : ℕ) (xs : List Stamp) (next t : ℕ) (ns : List ℕ) → Rise low xs next → next ≤ t → Rise low (xs ++ stamped t ns) (t + length ns)
rise_from low [] next t ns h l = rise_stamped low t ns (omega (arith, h, l))
rise_from low (x ∷ xs) next t ns h l = (h.0, rise_from (x.at + 1) xs next t ns h.1 l)

rise_less : (low less : ℕ) (xs : List Stamp) (next : ℕ) → less ≤ low → Rise low xs next → Rise less xs next
rise_less low less [] next l h = omega (arith, l, h)
rise_less low less (x ∷ xs) next l h = (omega (arith, l, h.0), h.1)

not_there : (who m k : ℕ) → bit (m == who) + k ≡ 0 → (m == who) ≡ false
not_there who m k e = at (m == who) e
  where
    at : (b : Bool) → bit b + k ≡ 0 → b ≡ false
    at true f = absurd (omega (arith, f))
    at false f = refl

-- nobody else has that number
filter_others : (who : ℕ) (xs : List Stamp) → occurs who (map (λ x. x.of) xs) ≡ 0 → filter (λ x. not (is_stamp_of who x)) xs ≡ xs
filter_others who [] e = refl
filter_others who (x ∷ xs) e =
    let other = not_there who x.of (occurs who (map (λ y. y.of) xs)) e in
    let nought : bit (x.of == who) ≡ 0 = ap bit other in
    let rest = filter_others who xs (omega (arith, e, nought)) in
    rw other (ap (λ ys. x ∷ ys) rest)

filter_first : (who : ℕ) (x : Stamp) (xs : List Stamp) → (x.of == who) ≡ true → occurs who (map (λ y. y.of) xs) ≡ 0 → filter (λ y. not (is_stamp_of who y)) (x ∷ xs) ≡ xs
filter_first who x xs e f = rw e (filter_others who xs f)

bit_le : (b : Bool) → bit b ≤ 1
bit_le true = omega arith
bit_le false = omega arith

gone_rest : (who k : ℕ) (b : Bool) → (who == who) ≡ true → bit (who == who) + k ≡ bit b → k ≡ 0
gone_rest who k b self once =
    let one : bit (who == who) ≡ 1 = ap bit self in
    let most = bit_le b in
    omega (arith, one, once, most)

-- A core and a state to which the same random numbers are lent: their worlds are the same.
record Matches {V : Type 0} (k : Kept V) (s : State V) : Type 0 where
  world : k.world ≡ s.world
  order : k.ready ≡ map (λ x. x.of) s.answers
  rise : Rise 0 s.answers s.next

module _ {V : Type 0} where
  matches_lent : (k : Kept V) (s : State V) (random : Stream) → StandsFor k s → Matches (lend_kept k random) (lend s random)
  matches_lent k s random stands = record { world = ap (lent random) stands.world; order = stands.order; rise = stands.rise }

  stands_after : (k : Kept V) (s : State V) → Matches k s → StandsAfter k s
  stands_after k s m = record { stands = record { world = ap wordless m.world; order = m.order; rise = m.rise }; random = ap (λ (w : World V). w.random) m.world }

  -- answers get their stamps as they are queued
  matches_queued : (w : World V) (ready : List ℕ) (early : ℕ) (v : World V) (answers closings : List Stamp) (next : ℕ) → w ≡ v → ready ≡ map (λ x. x.of) answers → Rise 0 answers next → Matches (queued w ready early) (line_up v answers closings next)
  matches_queued w ready early v answers closings next e f r = record {
    world = ap (λ (u : World V). record u { coroutines = map lined u.coroutines }) e;
    order = ap (λ (u : World V). ready ++ fresh u) e ∙ ap (λ xs. xs ++ fresh v) f ∙ ap (λ ys. map (λ x. x.of) answers ++ ys) (sym (numbers_stamped (next + 1) (fresh v))) ∙ sym (numbers_append answers (stamped (next + 1) (fresh v)));
    rise = rise_from 0 answers next (next + 1) (fresh v) r (omega arith);
  }

  -- answers get their stamps as they are queued
  pub stands_queued : (w : World V) (ready : List ℕ) (early : ℕ) (v : World V) (answers closings : List Stamp) (next : ℕ) → w ≡ wordless v → ready ≡ map (λ x. x.of) answers → Rise 0 answers next → StandsFor (queued w ready early) (line_up v answers closings next)
  stands_queued w ready early v answers closings next e f r =
      let m = matches_queued w ready early (wordless v) answers closings next e f r in
      record { world = m.world; order = m.order; rise = m.rise }

  first_of : (s : State V) (who : ℕ) (rest : List ℕ) (answers : List Stamp) → s.answers ≡ answers → who ∷ rest ≡ map (λ x. x.of) answers → Rise 0 answers s.next → next_turn s ≡ Some who
  first_of s who rest [] e f r = cc
  first_of s who rest (x ∷ xs) e f r =
      let it : x.of ≡ who = cc in
      ap (option_map (λ (y : Stamp). y.of)) (ap least e ∙ least_first x xs s.next r.1) ∙ ap Some it

  pub next_is : (ready : List ℕ) (s : State V) (who : ℕ) (rest : List ℕ) → ready ≡ map (λ x. x.of) s.answers → Rise 0 s.answers s.next → ready ≡ who ∷ rest → next_turn s ≡ Some who
  next_is ready s who rest order rise e = first_of s who rest s.answers refl (sym e ∙ order) rise

  none_next : (s : State V) (answers : List Stamp) → s.answers ≡ answers → [] ≡ map (λ x. x.of) answers → next_turn s ≡ None
  none_next s [] e f = ap (λ xs. option_map (λ (y : Stamp). y.of) (least xs)) e
  none_next s (x ∷ xs) e f = cc

  pub nobody_next : (ready : List ℕ) (s : State V) → ready ≡ map (λ x. x.of) s.answers → ready ≡ [] → next_turn s ≡ None
  nobody_next ready s order e = none_next s s.answers refl (sym e ∙ order)

  -- ---- replies of the kernel, expiries and the closing of the root

  matches_heard : (k : Kept V) (s : State V) (said : Option KernelReply) → Matches k s → Matches (kept_hear k said) (hear s said)
  matches_heard k s said m = subst (λ w. Matches (if_some (next_try w) k (λ x. queued (settle (heard (begin k.world) x said)) k.ready k.early)) (hear s said)) (sym m.world) (at (next_try s.world))
    where
      at : (o : Option Try) → Matches (if_some o k (λ x. queued (settle (heard (begin k.world) x said)) k.ready k.early)) (if_some o s (λ x. after s (settle (heard (begin s.world) x said))))
      at None = m
      at (Some x) =
          matches_queued (settle (heard (begin k.world) x said)) k.ready k.early (settle (heard (begin s.world) x said)) s.answers s.closings s.next (ap (λ (w : World V). settle (heard (begin w) x said)) m.world) m.order m.rise

  matches_expired_next : (k : Kept V) (s : State V) (who : ℕ) → Matches k s → Matches (kept_expire_next k who) (expire_next s who)
  matches_expired_next k s who m = matches_queued (expire_one k.world who) k.ready k.early (expire_one s.world who) s.answers s.closings s.next (ap (λ (w : World V). expire_one w who) m.world) m.order m.rise

  matches_late : (xs : List ℕ) (k : Kept V) (s : State V) → Matches k s → Matches (fold kept_expire_next k xs) (fold expire_next s xs)
  matches_late [] k s m = m
  matches_late (x ∷ xs) k s m = matches_late xs (kept_expire_next k x) (expire_next s x) (matches_expired_next k s x m)

  matches_settled : (k : Kept V) (s : State V) → Matches k s → Matches (queued (settle k.world) k.ready k.early) (after s (settle s.world))
  matches_settled k s m = matches_queued (settle k.world) k.ready k.early (settle s.world) s.answers s.closings s.next (ap settle m.world) m.order m.rise

  matches_expired : (k : Kept V) (s : State V) → Matches k s → Matches (kept_expired k) (expired s)
  matches_expired k s m =
      let begun : Kept V = record k { world = begin k.world } in
      let began : State V = record s { world = begin s.world } in
      let late = matches_late (passed s.world) begun began (record { world = ap begin m.world; order = m.order; rise = m.rise }) in
      let kept : fold kept_expire_next begun (passed s.world) ≡ kept_late k = ap (λ (w : World V). fold kept_expire_next begun (passed w)) (sym m.world) in
      matches_settled (kept_late k) (fold expire_next began (passed s.world)) (subst (λ l. Matches l (fold expire_next began (passed s.world))) kept late)

  matches_shut : (k : Kept V) (s : State V) → Matches k s → Matches (kept_shut k) (shut s)
  matches_shut k s m =
      matches_queued (settle (root_closed k.world)) k.ready (length k.ready) (settle (root_closed s.world)) s.answers s.closings s.next (ap (λ (w : World V). settle (root_closed w)) m.world) m.order m.rise

  heated_lent : (random : Stream) (ready : List Ready) (w : World V) → fold heat_ready (lent random w) ready ≡ lent random (fold heat_ready w ready)
  heated_lent random [] w = refl
  heated_lent random (x ∷ xs) w = heated_lent random xs (heat_ready w x)

  woke_stands : (k : Kept V) (s : State V) (told : ℕ) (ready : List Ready) → StandsFor k s → StandsFor (kept_woke k told ready) (woke s told ready)
  woke_stands k s told ready stands = record {
    world = ap (λ (w : World V). record (woken (begin w) ready) { moment = max w.moment told }) stands.world ∙ ap (λ (w : World V). record (from_start w) { moment = max s.world.moment told }) (heated_lent no_random ready (begin s.world));
    order = stands.order;
    rise = stands.rise;
  }

module _ {V : Type 0} (p : Program V) where
  turn_at : (k : Kept V) (s : State V) (lack : Option LackPlace) (who : ℕ) (rest : List ℕ) (answers : List Stamp) → IsWell p k → Matches k s → k.ready ≡ who ∷ rest → s.answers ≡ answers → who ∷ rest ≡ map (λ x. x.of) answers → Rise 0 answers s.next → Matches (queued (turn p lack k.world who) rest (k.early - 1)) (turn_of p lack s who)
  turn_at k s lack who rest [] well m e f g r = cc
  turn_at k s lack who rest (x ∷ xs) well m e f g r =
      let it : x.of ≡ who = cc in
      let others : rest ≡ map (λ y. y.of) xs = cc in
      let same : (x.of == who) ≡ true = grind (arith, nat_tests) in
      let once = (subst (λ q. IsQueue q k.world.coroutines) e well.queue).once who in
      let self : (who == who) ≡ true = grind (arith, nat_tests) in
      let gone : occurs who (map (λ y. y.of) xs) ≡ 0 = subst (λ ys. occurs who ys ≡ 0) others (gone_rest who (occurs who rest) _ self once) in
      let left : filter (λ y. not (is_stamp_of who y)) s.answers ≡ xs = ap (filter (λ y. not (is_stamp_of who y))) f ∙ filter_first who x xs same gone in
      subst (λ ys. Matches (queued (turn p lack k.world who) rest (k.early - 1)) (line_up (turn p lack s.world who) ys s.closings s.next)) (sym left)
      (matches_queued (turn p lack k.world who) rest (k.early - 1) (turn p lack s.world who) xs s.closings s.next (ap (λ (w : World V). turn p lack w who) m.world) others (rise_less (x.at + 1) 0 xs s.next (omega arith) r.1))

  matches_turned : (k : Kept V) (s : State V) (lack : Option LackPlace) → IsWell p k → Matches k s → (ready : List ℕ) → k.ready ≡ ready → Matches (turn_first p lack k ready) (turned p lack s)
  matches_turned k s lack well m [] e =
      let none : s ≡ turned p lack s = sym (ap (λ o. if_some o s (turn_of p lack s)) (nobody_next k.ready s m.order e)) in
      subst (Matches k) none m
  matches_turned k s lack well m (who ∷ rest) e =
      let some : turn_of p lack s who ≡ turned p lack s = sym (ap (λ o. if_some o s (turn_of p lack s)) (next_is k.ready s who rest m.order m.rise e)) in
      subst (Matches (turn_first p lack k (who ∷ rest))) some (turn_at k s lack who rest s.answers well m e refl (sym e ∙ m.order) m.rise)

module _ {V : Type 0} (p : Program V) where
  answered_at : (k : Kept V) (s : State V) → StandsFor k s → (ready : List ℕ) → k.ready ≡ ready → is_answered s ≡ has_answer ready
  answered_at k s stands [] e = ap (λ (o : Option ℕ). is_some o) (nobody_next k.ready s stands.order e)
  answered_at k s stands (who ∷ rest) e = ap (λ (o : Option ℕ). is_some o) (next_is k.ready s who rest stands.order stands.rise e)

  lack_at : (k : Kept V) (s : State V) (place : LackPlace) → StandsFor k s → (ready : List ℕ) → k.ready ≡ ready → may_lack p s place ≡ may_lack_first p k.world ready place
  lack_at k s place stands [] e = ap (λ o. if_some o false (λ who. if_some (coroutine_of s.world who) false (λ c. may_lack_move p s.world who (move_of p s.world who c.body) place))) (nobody_next k.ready s stands.order e)
  lack_at k s place stands (who ∷ rest) e =
      ap (λ o. if_some o false (λ who. if_some (coroutine_of s.world who) false (λ c. may_lack_move p s.world who (move_of p s.world who c.body) place))) (next_is k.ready s who rest stands.order stands.rise e)
      ∙ ap (λ (w : World V). if_some (coroutine_of w who) false (λ c. may_lack_move p w who (move_of p w who c.body) place)) (sym stands.world)

  shown_at : (lack : Option LackPlace) (w : World V) (who : ℕ) (o : Option (Coroutine V)) → if_some (if_some o None (λ c. Some (shown p lack w who c.body))) nobody (λ r. r) ≡ if_some o nobody (λ c. shown p lack w who c.body)
  shown_at lack w who None = refl
  shown_at lack w who (Some c) = refl

  met_same : (lack : Option LackPlace) (w : World V) (who : ℕ) (view : V) → lack_met p lack (wordless w) who view ≡ lack_met p lack w who view
  met_same None w who view = refl
  met_same (Some place) w who view = refl

  shown_same : (lack : Option LackPlace) (w : World V) (who : ℕ) (view : V) → shown p lack (wordless w) who view ≡ shown p lack w who view
  shown_same lack w who view =
      ap {A = Option LackPlace} {B = Ran} (λ met. record { who = who; word = (answer_given w who).0; given = (answer_given w who).1; lack = met; «end» = end_of (move_of p w who view).1; text = if is_build met then None else text_of (move_of p w who view).1 }) (met_same lack w who view)

  first_same : (lack : Option LackPlace) (w : World V) (who : ℕ) (o : Option (Coroutine V)) → if_some o nobody (λ c. shown p lack (wordless w) who c.body) ≡ if_some o nobody (λ c. shown p lack w who c.body)
  first_same lack w who None = refl
  first_same lack w who (Some c) = shown_same lack w who c.body

  ran_at : (k : Kept V) (s : State V) (lack : Option LackPlace) → StandsFor k s → (ready : List ℕ) → k.ready ≡ ready → ran_seen p s lack ≡ shown_first p lack k.world ready
  ran_at k s lack stands [] e = ap (λ o. if_some (if_some o None (λ who. if_some (coroutine_of s.world who) None (λ c. Some (shown p lack s.world who c.body)))) nobody (λ r. r)) (nobody_next k.ready s stands.order e)
  ran_at k s lack stands (who ∷ rest) e =
      ap (λ o. if_some (if_some o None (λ who. if_some (coroutine_of s.world who) None (λ c. Some (shown p lack s.world who c.body)))) nobody (λ r. r)) (next_is k.ready s who rest stands.order stands.rise e)
      ∙ shown_at lack s.world who (coroutine_of s.world who)
      ∙ sym (first_same lack s.world who (coroutine_of s.world who))
      ∙ ap (λ (w : World V). if_some (coroutine_of w who) nobody (λ c. shown p lack w who c.body)) (sym stands.world)

  seen : (k : Kept V) (s : State V) → IsWell p k → StandsFor k s → SeenAlike p k s
  seen k s well stands =
      let back = sym stands.world in
      let answered = answered_at k s stands k.ready refl in
      record {
        ended = ap (λ (w : World V). w.ended) back;
        answered = answered;
        stuck = ap (λ b. not (b || has_close s.world) && (not (awaits_link s.world) && is_none (least_due s.world))) answered ∙ ap (λ (w : World V). not (has_answer k.ready || has_close w) && (not (awaits_link w) && is_none (least_due w))) back;
        limit = ap (λ b. if b || nat_lt 0 (length (tries s.world)) then NoWait else until (least_due s.world)) answered ∙ ap (λ (w : World V). if has_answer k.ready || nat_lt 0 (length (tries w)) then NoWait else until (least_due w)) back;
        next_try = ap (λ (w : World V). option_map (λ (x : Try). x.ask) (next_try w)) back;
        may_lack = λ place. lack_at k s place stands k.ready refl;
        ran = λ lack. ran_at k s lack stands k.ready refl;
        notes = ap (λ (w : World V). w.notes) back;
        waiting = ap (λ (w : World V). map (λ x. (x.who, x.word)) (waiters w)) back;
        made = ap (λ (w : World V). w.handles.last) back;
        gone = ap (λ (w : World V). handles.gone w.handles) back;
      }

lent_well : {V : Type 0} (p : Program V) (k : Kept V) (random : Stream) → IsWell p k → IsWell p (lend_kept k random)
lent_well p k random well = record { lives = well.lives; numbered = well.numbered; queue = well.queue }

pub follows_states : {V : Type 0} (p : Program V) → FollowsStates p
follows_states p law = record {
  opening = λ view random. record { world = refl; order = refl; rise = (lit≤ tt, lit≤ tt) };
  seen = seen p;
  turned = λ k s lack random well stands. stands_after (turn_first p lack (lend_kept k random) k.ready) (turned p lack (lend s random)) (matches_turned p (lend_kept k random) (lend s random) lack (lent_well p k random well) (matches_lent k s random stands) k.ready refl);
  heard = λ k s said random stands. stands_after (kept_hear (lend_kept k random) said) (hear (lend s random) said) (matches_heard (lend_kept k random) (lend s random) said (matches_lent k s random stands));
  expired = λ k s random stands. stands_after (kept_expired (lend_kept k random)) (expired (lend s random)) (matches_expired (lend_kept k random) (lend s random) (matches_lent k s random stands));
  shut = λ k s random stands. stands_after (kept_shut (lend_kept k random)) (shut (lend s random)) (matches_shut (lend_kept k random) (lend s random) (matches_lent k s random stands));
  woke = woke_stands;
}
