-- How often a number is live, of a closing or noted as dead, as handles are released, moved and freed; and which numbers name no bundle.
use Rattle.std.proofs.Common.{◌≡◌, ◌∙◌, ℕ, ◌+◌, ◌-◌, ◌≤◌, ◌==◌, List, [], ◌∷◌, ◌++◌, find, fold, Bool, true, false, not, ◌||◌, Option, Some, None, if◌then◌else◌, refl, sym, ap, arith, nat_le}
use Rattle.std.specs.Prelude.{is_some, is_none, filter}
use Rattle.std.specs.List.{list_all}
use Rattle.std.proofs.lemmas.Bool.Decides.{nat_tests}
use Rattle.std.proofs.lemmas.Bool.{and_parts, and_from, or_right}
use Rattle.dill_calls.specs.declared.answer.Answer.{Answer}
use Rattle.dill_calls.specs.declared.call.Call.{Call}
use Rattle.dill_calls.specs.declared.call.Call.TheVariants as calls
use Rattle.dill_calls.specs.declared.ran.Note.{Note}
use Rattle.dill_calls.specs.declared.ran.Note.TheVariants.{Moved, Freed}
use Rattle.dill_calls.specs.declared.word.Word.{Word}
use Rattle.dill_calls.specs.declared.word.Word.TheVariants as words
use Rattle.dill_calls.specs.CallTable.{word_of, named_by}
use Rattle.dill_handles.specs.Handles as handles
use Rattle.dill_handles.specs.Handles.{Handles}
use Rattle.dill_handles.specs.declared.entry.Entry.{Entry}
use Rattle.dill_scope.specs.Scopes.{owner_of}
use Rattle.dill_scope.proofs.Numbered.{found_number, find_without_other}
use Rattle.dill_base.specs.Maps.{if_some, without}
use Rattle.dill_rules.specs.declared.coroutine.Closing.{Closing}
use Rattle.dill_rules.specs.declared.coroutine.Coroutine.{Coroutine}
use Rattle.dill_rules.specs.declared.coroutine.Mode.{Mode}
use Rattle.dill_rules.specs.declared.coroutine.Mode.TheVariants as modes
use Rattle.dill_rules.specs.declared.thing.Thing.{Thing}
use Rattle.dill_rules.specs.declared.thing.Thing.TheVariants as things
use Rattle.dill_rules.specs.World.{World, note, pending_call, is_ending}
use Rattle.dill_rules.specs.Owning.{entry_of, take_thing, move, drop, release, free_bundle}
use Rattle.dill_rules.specs.Taking.{bundle_of}
use Rattle.dill_rules.specs.LinkAnswers.{is_tcp_close, is_on_stack}
use Rattle.dill_rules.specs.Expiring.{due_of}
use Rattle.dill_rules.specs.Answers.{when}
use Rattle.dill_rules.specs.Settling.{highest_first, is_owned_by, free_all}
use Rattle.laws_queue.specs.Well.{bit}
use Rattle.laws_sound.proofs.Lists.{all_found, all_without}
use Rattle.laws_sound.specs.Order.{FitsTogether}
use Rattle.laws_sound.specs.Orderly.{weigh, is_meeting, dead_by, is_no_bundle, is_socketed}
use Rattle.laws_sound.proofs.Counting.{weigh_push, weigh_found, weightless, small_bit, all_push, all_unique}
use Rattle.laws_sound.proofs.Fitting.{has_number, closes_it, died_as, used, named_is}
use Rattle.laws_sound.proofs.Sorting.{sorted_all, sorted_weight, picked_all, picked_less}
use Rattle.laws_sound.proofs.Handing.{equal, same_number}
use Rattle.laws_sound.proofs.Lists.{all_follow, all_from}
use Rattle.laws_sound.proofs.Ordering.{apart}

-- numbers that were given and name no bundle still do
abbrev pub Stays : Handles Thing → Handles Thing → Type 0
Stays h g = (number : ℕ) → is_no_bundle h number ≡ true → is_no_bundle g number ≡ true

abbrev pub apart_or : ℕ → Entry Thing → Bool
apart_or number x = not (x.number == number) || is_none (bundle_of x.thing)

pub stays_retired : (h : Handles Thing) (number : ℕ) → Stays h (handles.retire h number)
stays_retired h number n e =
    let b = and_parts (nat_le n h.last) (list_all (apart_or n) h.entries) e in
    and_from (nat_le n h.last) (list_all (apart_or n) (without (handles.is_entry number) h.entries)) b.0 (all_without (apart_or n) (handles.is_entry number) h.entries b.1)

pub below_next : (n last : ℕ) → nat_le n last ≡ true → (nat_le n (last + 1) ≡ true) × ((last + 1 == n) ≡ false)
below_next n last e = (grind (arith, nat_tests), grind (arith, nat_tests))

pub stays_renumbered : (h : Handles Thing) (number owner : ℕ) (thing : Thing) → Stays h (handles.renumber h number thing owner)
stays_renumbered h number owner thing n e =
    let b = and_parts (nat_le n h.last) (list_all (apart_or n) h.entries) e in
    let next = below_next n h.last b.0 in
    let new : Entry Thing = record { number = handles.next_number h; thing = thing; owner = owner } in
    and_from (nat_le n (h.last + 1)) (list_all (apart_or n) (without (handles.is_entry number) h.entries ++ new ∷ [])) next.0
    (all_push (apart_or n) (without (handles.is_entry number) h.entries) new (all_without (apart_or n) (handles.is_entry number) h.entries b.1) (ap (λ t. not t || is_none (bundle_of thing)) next.1))

pub none_of : (b : Bool) (o : Option ℕ) → (not b || is_none o) ≡ true → b ≡ true → o ≡ None
none_of true None e f = refl
none_of true (Some n) e f = cc
none_of false o e f = cc

-- what such a number names is no bundle
pub names_none : {V : Type 0} (w : World V) (number : ℕ) (x : Entry Thing) → is_no_bundle w.handles number ≡ true → entry_of w number ≡ Some x → bundle_of x.thing ≡ None
names_none w number x e f =
    let b = and_parts (nat_le number w.handles.last) (list_all (apart_or number) w.handles.entries) e in
    none_of (x.number == number) (bundle_of x.thing) (all_found (apart_or number) (handles.is_entry number) w.handles.entries x b.1 f) (ap (λ n. n == number) (found_number (λ (y : Entry Thing). y.number) number w.handles.entries x f) ∙ same_number number)

-- the same, whatever the pending call is
pub socketed_call : (h g : Handles Thing) → Stays h g → (o : Option Call) → if_some o true (λ call. if is_on_stack (word_of call) then if_some (named_by call) true (is_no_bundle h) else true) ≡ true → if_some o true (λ call. if is_on_stack (word_of call) then if_some (named_by call) true (is_no_bundle g) else true) ≡ true
socketed_call h g s None e = refl
socketed_call h g s (Some call) e = at (is_on_stack (word_of call)) (named_by call) e
  where
    at : (b : Bool) (o : Option ℕ) → (if b then if_some o true (is_no_bundle h) else true) ≡ true → (if b then if_some o true (is_no_bundle g) else true) ≡ true
    at true None f = refl
    at true (Some n) f = s n f
    at false o f = refl

-- how often a number is noted as dead, or used by a live handle or by a closing
abbrev pub counted : List Note → Handles Thing → List Closing → ℕ → ℕ
counted notes h closings n = weigh (λ x. bit (dead_by x == n)) notes + used h.entries closings n

-- the first closing of its bundle has its number
abbrev pub is_first_closing : List Closing → Closing → Bool
is_first_closing closings x = if_some (find (closes_it x.bundle) closings) false (λ y. y.number == x.number)

pub next_bit : (n last : ℕ) → bit (last + 1 == n) + bit (nat_le n last) ≡ bit (nat_le n (last + 1))
next_bit n last = at (nat_le n last) (last + 1 == n) (nat_le n (last + 1)) refl refl refl
  where
    at : (a b c : Bool) → nat_le n last ≡ a → (last + 1 == n) ≡ b → nat_le n (last + 1) ≡ c → bit b + bit a ≡ bit c
    at true true c f g h = grind (arith, nat_tests)
    at true false true f g h = refl
    at true false false f g h = grind (arith, nat_tests)
    at false true true f g h = refl
    at false true false f g h = grind (arith, nat_tests)
    at false false true f g h = grind (arith, nat_tests)
    at false false false f g h = refl

pub retired_count : (notes : List Note) (h : Handles Thing) (closings : List Closing) (number n : ℕ) (x : Entry Thing) → find (has_number number) h.entries ≡ Some x → counted (notes ++ Freed number ∷ []) (handles.retire h number) closings n ≡ counted notes h closings n
retired_count notes h closings number n x e =
    let p = weigh_push (λ y. bit (dead_by y == n)) notes (Freed number) in
    let g = weigh_found (λ z. bit (has_number n z)) (has_number number) h.entries x e in
    let same : bit (has_number n x) ≡ bit (number == n) = ap (λ k. bit (k == n)) (found_number (λ (y : Entry Thing). y.number) number h.entries x e) in
    omega (arith, p, g, same)

pub moved_count : (notes : List Note) (h : Handles Thing) (closings : List Closing) (number owner : ℕ) (thing : Thing) (n : ℕ) (x : Entry Thing) → find (has_number number) h.entries ≡ Some x → counted (notes ++ Moved number (handles.next_number h) ∷ []) (handles.renumber h number thing owner) closings n + bit (nat_le n h.last) ≡ counted notes h closings n + bit (nat_le n (h.last + 1))
moved_count notes h closings number owner thing n x e =
    let new : Entry Thing = record { number = handles.next_number h; thing = thing; owner = owner } in
    let p = weigh_push (λ y. bit (dead_by y == n)) notes (Moved number (handles.next_number h)) in
    let q = weigh_push (λ z. bit (has_number n z)) (without (has_number number) h.entries) new in
    let g = weigh_found (λ z. bit (has_number n z)) (has_number number) h.entries x e in
    let same : bit (has_number n x) ≡ bit (number == n) = ap (λ k. bit (k == n)) (found_number (λ (y : Entry Thing). y.number) number h.entries x e) in
    let next = next_bit n h.last in
    omega (arith, p, q, g, same, next)

pub freed_count : (notes : List Note) (h : Handles Thing) (closings : List Closing) (x : Closing) (n : ℕ) → is_first_closing closings x ≡ true → counted (notes ++ Freed x.number ∷ []) h (without (closes_it x.bundle) closings) n ≡ counted notes h closings n
freed_count notes h closings x n e = at (find (closes_it x.bundle) closings) refl e
  where
    at : (o : Option Closing) → find (closes_it x.bundle) closings ≡ o → if_some o false (λ y. y.number == x.number) ≡ true → counted (notes ++ Freed x.number ∷ []) h (without (closes_it x.bundle) closings) n ≡ counted notes h closings n
    at None f g = cc
    at (Some y) f g =
        let p = weigh_push (λ z. bit (dead_by z == n)) notes (Freed x.number) in
        let q = weigh_found (λ z. bit (died_as n z)) (closes_it x.bundle) closings y f in
        let same : bit (died_as n y) ≡ bit (x.number == n) = ap (λ k. bit (k == n)) (equal y.number x.number g) in
        omega (arith, p, q, same)

pub ending_meets : (mode : Mode) → is_ending mode ≡ true → is_meeting mode ≡ true → ⊥
ending_meets (modes.Ending outcome) e f = cc
ending_meets (modes.Pending call) e f = cc
ending_meets modes.Running e f = cc
ending_meets (modes.Fresh word answer) e f = cc
ending_meets (modes.Answered word answer) e f = cc

pub less_kept : (n kept count : ℕ) → n + kept ≤ 65536 → n + (kept - count) ≤ 65536
less_kept n kept count h = omega (arith, h)

pub itself : (h : Handles Thing) → Stays h h
itself h n e = e

pub no_name : (o : Option ℕ) (name : ℕ) → o ≡ None → o ≡ Some name → ⊥
no_name None name e f = cc
no_name (Some n) name e f = cc

pub when_some : (b : Bool) (answer given : Answer) → when b answer ≡ Some given → b ≡ true
when_some true answer given e = refl
when_some false answer given e = cc

pub close_on_stack : (word : Word) → is_tcp_close word ≡ true → is_on_stack word ≡ true
close_on_stack words.TcpClose e = refl
close_on_stack _ e = cc

pub timed_open : (call : Call) (number : ℕ) → is_some (due_of call) ≡ true → call ≡ calls.Hclose number → ⊥
timed_open call number e f = let bad : is_some (due_of (calls.Hclose number)) ≡ true = ap (λ c. is_some (due_of c)) (sym f) ∙ e in cc

module _ {V : Type 0} where
  pub sockets_stay : (h g : Handles Thing) (cs : List (Coroutine V)) → Stays h g → list_all (is_socketed h) cs ≡ true → list_all (is_socketed g) cs ≡ true
  sockets_stay h g cs s e = all_follow (is_socketed h) (is_socketed g) cs (λ c f. socketed_call h g s (pending_call c.mode) f) e

  -- ---- how often a number is used or noted as dead

  -- between two worlds of a step each number that is given is used or noted once more, and no other is
  abbrev pub Counts : World V → World V → Type 0
  Counts w v = (n : ℕ) → counted v.notes v.handles v.closings n + bit (nat_le n w.handles.last) ≡ counted w.notes w.handles w.closings n + bit (nat_le n v.handles.last)

  pub counts_then : (w v u : World V) → Counts w v → Counts v u → Counts w u
  counts_then w v u a b n = let f = a n in let g = b n in omega (arith, f, g)

  pub counts_same : (w v : World V) → v.notes ≡ w.notes → v.handles ≡ w.handles → v.closings ≡ w.closings → Counts w v
  counts_same w v e f g n = ap (λ ns. counted ns v.handles v.closings n + bit (nat_le n w.handles.last)) e ∙ ap (λ ks. counted w.notes v.handles ks n + bit (nat_le n w.handles.last)) g ∙ ap (λ h. counted w.notes h w.closings n + bit (nat_le n w.handles.last)) f ∙ ap (λ (h : Handles Thing). counted w.notes w.handles w.closings n + bit (nat_le n h.last)) (sym f)

  pub drop_handles : (w : World V) (thing : Thing) → (drop w thing).handles ≡ w.handles
  drop_handles w (things.Bundle name) = refl
  drop_handles w (things.End end) = refl
  drop_handles w (things.Listener link) = refl
  drop_handles w (things.Socket link) = refl
  drop_handles w (things.Value kind value) = refl

  pub take_handles : (w : World V) (thing : Thing) (owner : ℕ) → (take_thing w thing owner).handles ≡ w.handles
  take_handles w (things.Bundle name) owner = refl
  take_handles w (things.End end) owner = refl
  take_handles w (things.Listener link) owner = refl
  take_handles w (things.Socket link) owner = refl
  take_handles w (things.Value kind value) owner = refl

  pub drop_notes : (w : World V) (thing : Thing) → ((drop w thing).notes ≡ w.notes) × ((drop w thing).closings ≡ w.closings)
  drop_notes w (things.Bundle name) = (refl, refl)
  drop_notes w (things.End end) = (refl, refl)
  drop_notes w (things.Listener link) = (refl, refl)
  drop_notes w (things.Socket link) = (refl, refl)
  drop_notes w (things.Value kind value) = (refl, refl)

  pub take_notes : (w : World V) (thing : Thing) (owner : ℕ) → ((take_thing w thing owner).notes ≡ w.notes) × ((take_thing w thing owner).closings ≡ w.closings)
  take_notes w (things.Bundle name) owner = (refl, refl)
  take_notes w (things.End end) owner = (refl, refl)
  take_notes w (things.Listener link) owner = (refl, refl)
  take_notes w (things.Socket link) owner = (refl, refl)
  take_notes w (things.Value kind value) owner = (refl, refl)

  pub release_counts : (w : World V) (number : ℕ) → Counts w (release w number)
  release_counts w number = at (entry_of w number) refl
    where
      at : (o : Option (Entry Thing)) → entry_of w number ≡ o → Counts w (if_some o w (λ x. note (drop (record w { handles = handles.retire w.handles number }) x.thing) (Freed number)))
      at None e n = refl
      at (Some x) e n =
          let less : World V = record w { handles = handles.retire w.handles number } in
          let v = note (drop less x.thing) (Freed number) in
          let d = drop_notes less x.thing in
          let same : counted v.notes v.handles v.closings n ≡ counted (w.notes ++ Freed number ∷ []) less.handles w.closings n =
          ap (λ ns. counted (ns ++ Freed number ∷ []) v.handles v.closings n) d.0 ∙ ap (λ ks. counted (w.notes ++ Freed number ∷ []) v.handles ks n) d.1 ∙ ap (λ h. counted (w.notes ++ Freed number ∷ []) h w.closings n) (drop_handles less x.thing) in
          let last : nat_le n v.handles.last ≡ nat_le n w.handles.last = ap (λ (h : Handles Thing). nat_le n h.last) (drop_handles less x.thing) in
          let one = retired_count w.notes w.handles w.closings number n x e in
          ap (λ k. k + bit (nat_le n w.handles.last)) (same ∙ one) ∙ ap (λ b. counted w.notes w.handles w.closings n + bit b) (sym last)

  pub move_counts : (w : World V) (number owner : ℕ) → Counts w (move w number owner)
  move_counts w number owner = at (entry_of w number) refl
    where
      at : (o : Option (Entry Thing)) → entry_of w number ≡ o → Counts w (if_some o w (λ x. note (take_thing (record w { handles = handles.renumber w.handles number x.thing owner }) x.thing owner) (Moved number (handles.next_number w.handles))))
      at None e n = refl
      at (Some x) e n =
          let less : World V = record w { handles = handles.renumber w.handles number x.thing owner } in
          let it = Moved number (handles.next_number w.handles) in
          let v = note (take_thing less x.thing owner) it in
          let d = take_notes less x.thing owner in
          let same : counted v.notes v.handles v.closings n ≡ counted (w.notes ++ it ∷ []) less.handles w.closings n =
          ap (λ ns. counted (ns ++ it ∷ []) v.handles v.closings n) d.0 ∙ ap (λ ks. counted (w.notes ++ it ∷ []) v.handles ks n) d.1 ∙ ap (λ h. counted (w.notes ++ it ∷ []) h w.closings n) (take_handles less x.thing owner) in
          let last : nat_le n v.handles.last ≡ nat_le n (w.handles.last + 1) = ap (λ (h : Handles Thing). nat_le n h.last) (take_handles less x.thing owner) in
          let one = moved_count w.notes w.handles w.closings number owner x.thing n x e in
          ap (λ k. k + bit (nat_le n w.handles.last)) same ∙ one ∙ ap (λ b. counted w.notes w.handles w.closings n + bit b) (sym last)

  -- a bundle is freed whose closing is the one of its number
  pub free_counts : (w : World V) (x : Closing) → is_first_closing w.closings x ≡ true → Counts w (free_bundle w x)
  free_counts w x e n = ap (λ k. k + bit (nat_le n w.handles.last)) (freed_count w.notes w.handles w.closings x n e)

  pub free_each_counts : (xs : List Closing) (w : World V) → list_all (is_first_closing w.closings) xs ≡ true → ((name : ℕ) → weigh (λ x. bit (closes_it name x)) xs ≤ 1) → Counts w (fold free_bundle w xs)
  free_each_counts [] w e h = λ n. refl
  free_each_counts (x ∷ xs) w e h =
      let b = and_parts (is_first_closing w.closings x) (list_all (is_first_closing w.closings) xs) e in
      let v = free_bundle w x in
      let one : bit (closes_it x.bundle x) ≡ 1 = ap bit (same_number x.bundle) in
      let once = h x.bundle in
      let gone : weigh (λ y. bit (closes_it x.bundle y)) xs ≡ 0 = omega (arith, one, once) in
      let still : list_all (is_first_closing v.closings) xs ≡ true = all_from (λ y. not (closes_it x.bundle y)) (is_first_closing w.closings) (is_first_closing v.closings) xs
      (λ y f g. ap (λ o. if_some o false (λ z. z.number == y.number)) (find_without_other (λ (z : Closing). z.bundle) y.bundle x.bundle w.closings (apart y.bundle x.bundle f)) ∙ g) (weightless (closes_it x.bundle) xs gone) b.1 in
      counts_then w v (fold free_bundle v xs) (free_counts w x b.0) (free_each_counts xs v still (λ name. let l = h name in omega (arith, l)))

  pub release_each_counts : (ns : List ℕ) (w : World V) → Counts w (fold release w ns)
  release_each_counts [] w = λ n. refl
  release_each_counts (m ∷ ns) w = counts_then w (release w m) (fold release (release w m) ns) (release_counts w m) (release_each_counts ns (release w m))

  pub once_closed : (w : World V) → FitsTogether w → (name : ℕ) → weigh (λ x. bit (closes_it name x)) w.closings ≤ 1
  once_closed w f name = let n = sym (named_is w.handles.entries w.closings name) ∙ f.names name in let b = small_bit (is_some (owner_of w.scopes name)) in omega (arith, n, b)

  pub free_all_counts : (w : World V) (who : ℕ) → FitsTogether w → Counts w (free_all w who)
  free_all_counts w who f =
      let mine = filter (is_owned_by w who) w.closings in
      let all : list_all (is_first_closing w.closings) w.closings ≡ true = all_unique (λ (x : Closing). x.bundle) (is_owned_by w who) (is_first_closing w.closings) w.closings (once_closed w f) (λ x e. ap (λ o. if_some o false (λ z. z.number == x.number)) e ∙ same_number x.number) in
      free_each_counts (highest_first mine) w (sorted_all (is_first_closing w.closings) mine (picked_all (is_owned_by w who) (is_first_closing w.closings) w.closings (all_follow (is_first_closing w.closings) (λ x. not (is_owned_by w who x) || is_first_closing w.closings x) w.closings (λ x e. or_right (not (is_owned_by w who x)) (is_first_closing w.closings x) e) all)))
      (λ name. let s = sorted_weight (λ x. bit (closes_it name x)) mine in let l = picked_less (is_owned_by w who) (λ x. bit (closes_it name x)) w.closings in let o = once_closed w f name in omega (arith, s, l, o))
