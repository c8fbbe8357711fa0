-- Who makes its call, and the effects of calls on handles and owners, in a world that stays in order.
use Rattle.std.proofs.Common.{◌≡◌, ◌∙◌, ℕ, ◌+◌, ◌≤◌, ◌==◌, List, [], ◌∷◌, ◌++◌, length, find, suc, Bool, true, false, not, ◌&&◌, ◌||◌, cond, Option, Some, None, if◌then◌else◌, refl, sym, ap, subst, arith, nat_le}
use Rattle.std.specs.Prelude.{is_some, is_none}
use Rattle.std.specs.List.{list_all, list_any}
use Rattle.std.proofs.lemmas.Bool.{and_parts, and_from, or_parts}
use Rattle.dill_calls.specs.declared.answer.Answer.{Answer}
use Rattle.dill_calls.specs.declared.call.Call.{Call}
use Rattle.dill_calls.specs.declared.call.Call.TheVariants as calls
use Rattle.dill_calls.specs.declared.ran.Note.{Note}
use Rattle.dill_calls.specs.declared.word.Word.{Word}
use Rattle.dill_calls.specs.CallTable.{word_of, named_by}
use Rattle.dill_calls.specs.Program.{Program}
use Rattle.dill_chan.specs.declared.end.Wait.{Wait}
use Rattle.dill_chan.specs.Channels.{Channels}
use Rattle.dill_handles.specs.Handles as handles
use Rattle.dill_handles.specs.Handles.{Handles}
use Rattle.dill_handles.specs.declared.entry.Entry.{Entry}
use Rattle.dill_scope.proofs.Numbered.{found_number}
use Rattle.dill_scope.specs.Forest.{Inside}
use Rattle.dill_base.specs.Maps.{if_some, change}
use Rattle.dill_stack.specs.declared.layer.Top.{Top}
use Rattle.dill_rules.specs.declared.coroutine.Closing.{Closing}
use Rattle.dill_rules.specs.declared.coroutine.Coroutine.{Coroutine}
use Rattle.dill_rules.specs.declared.coroutine.Mode.{Mode}
use Rattle.dill_rules.specs.declared.coroutine.Mode.TheVariants as modes
use Rattle.dill_rules.specs.declared.thing.Thing.{Thing}
use Rattle.dill_rules.specs.declared.thing.Thing.TheVariants as things
use Rattle.dill_rules.specs.World.{World, is_coroutine, coroutine_of, with_mode, reply, pend, begin, is_ending}
use Rattle.dill_rules.specs.Naming.{gifts, chosen}
use Rattle.std.specs.Option.{option_to_list}
use Rattle.dill_rules.specs.Kinds.{kind_needed, kind_of, is_of_kind, is_dead, names_dead, has_top, is_other_kind, is_other_top}
use Rattle.dill_rules.specs.Owning.{entry_of, take_thing, take, move}
use Rattle.dill_rules.specs.Taking.{bundle_of}
use Rattle.dill_rules.specs.Directions.{layer_of, needs_top}
use Rattle.dill_rules.specs.LinkAnswers.{is_on_stack}
use Rattle.dill_rules.specs.Effects.{make, add_bundle}
use Rattle.dill_rules.specs.Settling.{end}
use Rattle.laws_queue.specs.Well.{bit, is_at}
use Rattle.laws_queue.proofs.Crew.{move_crew}
use Rattle.laws_sound.proofs.Lists.{all_change}
use Rattle.laws_sound.specs.Order.{is_there, is_held, has_bundle, is_kept_open, is_proper, is_proper_thing, FitsTogether, IsInOrder}
use Rattle.laws_sound.specs.Orderly.{weigh, dead_by, is_channel, is_meeting, waits_well, is_no_bundle, is_socketed, gives_number, kept_by, IsOrderly}
use Rattle.laws_sound.proofs.Counting.{weigh_push, weigh_found, weighs_found, all_push, all_unique}
use Rattle.laws_sound.proofs.Crews.{change_other}
use Rattle.laws_sound.proofs.Entering.{May, Caller}
use Rattle.laws_sound.proofs.Fitting.{names_it, closes_it, has_number, died_as, used, used_is, named, named_is, fits_keep}
use Rattle.laws_sound.proofs.Handing.{equal, unequal, same_number}
use Rattle.laws_sound.proofs.Lists.{all_follow, all_both}
use Rattle.laws_sound.proofs.Nearly.{is_free}
use Rattle.laws_sound.proofs.Ordering.{apart, all_true, order_anyway, order_set, order_keep, order_make, order_move, order_add_bundle, order_with}
use Rattle.laws_sound.proofs.Shutting.{once}
use Rattle.laws_sound.proofs.Answering.{move_stays, move_spent, Does, nothing, move_waits, Goes, set_kept, does_good, answers_free}
use Rattle.laws_sound.proofs.Noting.{Stays, apart_or, counted, next_bit, below_next, names_none, move_counts}

pub running_free : (mode : Mode) → mode ≡ modes.Running → is_free mode ≡ true
running_free mode e = ap (λ m. is_free m) e

pub running_meets : (mode : Mode) → mode ≡ modes.Running → is_meeting mode ≡ true → ⊥
running_meets mode e f = let bad : is_meeting modes.Running ≡ true = ap is_meeting (sym e) ∙ f in cc

-- a call on channels closes nothing
pub channel_free : (call : Call) → is_channel (word_of call) ≡ true → is_free (modes.Pending call) ≡ true
channel_free (calls.Hclose number) e = cc
channel_free call e = refl

-- ---- lists of which one record is changed

pub all_changed : {X : Type 0} (test more pick : X → Bool) (f : X → X) (xs : List X) → ((x : X) → pick x ≡ true → test x ≡ true → more (f x) ≡ true) → ((x : X) → test x ≡ true → more x ≡ true) → list_all test xs ≡ true → list_all more (change pick f xs) ≡ true
all_changed test more pick f [] g h e = refl
all_changed test more pick f (x ∷ xs) g h e =
    let b = and_parts (test x) (list_all test xs) e in
    at (pick x) refl b.0 b.1 (all_changed test more pick f xs g h b.1)
  where
    at : (t : Bool) → pick x ≡ t → test x ≡ true → list_all test xs ≡ true → list_all more (change pick f xs) ≡ true → list_all more (cond t (f x ∷ xs) (x ∷ change pick f xs)) ≡ true
    at true p i j r = and_from (more (f x)) (list_all more xs) (g x p i) (all_follow test more xs h j)
    at false p i j r = and_from (more x) (list_all more (change pick f xs)) (h x i) r

pub weigh_changed : {X : Type 0} (w : X → ℕ) (pick : X → Bool) (f : X → X) (xs : List X) → ((x : X) → w (f x) ≡ w x) → weigh w (change pick f xs) ≡ weigh w xs
weigh_changed w pick f [] h = refl
weigh_changed w pick f (x ∷ xs) h = at (pick x) (weigh_changed w pick f xs h)
  where
    at : (t : Bool) → weigh w (change pick f xs) ≡ weigh w xs → weigh w (cond t (f x ∷ xs) (x ∷ change pick f xs)) ≡ w x + weigh w xs
    at true r = ap (λ k. k + weigh w xs) (h x)
    at false r = ap (λ k. w x + k) r

pub length_changed : {X : Type 0} (pick : X → Bool) (f : X → X) (xs : List X) → length (change pick f xs) ≡ length xs
length_changed pick f [] = refl
length_changed pick f (x ∷ xs) = at (pick x) (length_changed pick f xs)
  where
    at : (t : Bool) → length (change pick f xs) ≡ length xs → length (cond t (f x ∷ xs) (x ∷ change pick f xs)) ≡ suc (length xs)
    at true r = refl
    at false r = ap suc r

-- ---- new handles

pub stays_made : (h : Handles Thing) (thing : Thing) (owner : ℕ) → Stays h (handles.make h thing owner)
stays_made h thing owner n e =
    let b = and_parts (nat_le n h.last) (list_all (apart_or n) h.entries) e in
    let next = below_next n h.last b.0 in
    let new : Entry Thing = record { number = handles.next_number h; thing = thing; owner = owner } in
    and_from (nat_le n (h.last + 1)) (list_all (apart_or n) (h.entries ++ new ∷ [])) next.0 (all_push (apart_or n) h.entries new b.1 (ap (λ t. not t || is_none (bundle_of thing)) next.1))

pub taken_stays : (h : Handles Thing) (number owner : ℕ) → Stays h (handles.set_owner h number owner)
taken_stays h number owner n e =
    let b = and_parts (nat_le n h.last) (list_all (apart_or n) h.entries) e in
    and_from (nat_le n h.last) (list_all (apart_or n) (change (has_number number) (handles.with_owner owner) h.entries)) b.0 (all_change (apart_or n) (has_number number) (handles.with_owner owner) h.entries (λ x g. g) b.1)

pub made_count : (notes : List Note) (h : Handles Thing) (closings : List Closing) (thing : Thing) (owner n : ℕ) → counted notes (handles.make h thing owner) closings n + bit (nat_le n h.last) ≡ counted notes h closings n + bit (nat_le n (h.last + 1))
made_count notes h closings thing owner n =
    let new : Entry Thing = record { number = handles.next_number h; thing = thing; owner = owner } in
    let q = weigh_push (λ z. bit (has_number n z)) h.entries new in
    let next = next_bit n h.last in
    omega (arith, q, next)

pub shut_count : (notes : List Note) (h : Handles Thing) (closings : List Closing) (name number n : ℕ) (x : Entry Thing) → find (has_number number) h.entries ≡ Some x → counted notes (handles.retire h number) (closings ++ record { bundle = name; number = number } ∷ []) n ≡ counted notes h closings n
shut_count notes h closings name number n x e =
    let dead : Closing = record { bundle = name; number = number } in
    let q = weigh_push (λ z. bit (died_as n z)) closings dead in
    let g = weigh_found (λ z. bit (has_number n z)) (has_number number) h.entries x e in
    let same : bit (has_number n x) ≡ bit (number == n) = ap (λ k. bit (k == n)) (found_number (λ (y : Entry Thing). y.number) number h.entries x e) in
    omega (arith, q, g, same)

-- ---- what calls on stacks are on

-- the call needs a handle of a kind above that of bundles, or a layer of its own on top
pub data NeedsSocket (call : Call) : Type 0 where
  by_kind : (kind : ℕ) → kind_needed call ≡ Some kind → (1 == kind) ≡ false → NeedsSocket call
  by_top : (test : Top → Bool) → needs_top call ≡ Some test → NeedsSocket call

pub needs_socket : (call : Call) (number : ℕ) → (is_on_stack (word_of call) || is_some (layer_of call)) ≡ true → named_by call ≡ Some number → NeedsSocket call
needs_socket (calls.TcpDone n deadline) number e f = by_kind 4 refl refl
needs_socket (calls.TcpClose n deadline) number e f = by_kind 4 refl refl
needs_socket (calls.Bsend n bytes deadline) number e f = by_kind 4 refl refl
needs_socket (calls.Brecv n size deadline) number e f = by_kind 4 refl refl
needs_socket (calls.Msend n bytes deadline) number e f = by_kind 5 refl refl
needs_socket (calls.Mrecv n size deadline) number e f = by_kind 5 refl refl
needs_socket (calls.PrefixAttach n size big) number e f = by_kind 4 refl refl
needs_socket (calls.SuffixAttach n bytes) number e f = by_kind 4 refl refl
needs_socket (calls.TermAttach n bytes) number e f = by_kind 5 refl refl
needs_socket (calls.HttpAttach n) number e f = by_kind 4 refl refl
needs_socket (calls.WsAttachNohttp n client text) number e f = by_kind 4 refl refl
needs_socket (calls.WsAttachClient n text resource host deadline) number e f = by_kind 4 refl refl
needs_socket (calls.WsAttachServer n text deadline) number e f = by_kind 4 refl refl
needs_socket (calls.TermDone n deadline) number e f = by_top _ refl
needs_socket (calls.PrefixDetach n) number e f = by_top _ refl
needs_socket (calls.SuffixDetach n) number e f = by_top _ refl
needs_socket (calls.TermDetach n deadline) number e f = by_top _ refl
needs_socket (calls.HttpSendrequest n command resource deadline) number e f = by_top _ refl
needs_socket (calls.HttpSendstatus n code reason deadline) number e f = by_top _ refl
needs_socket (calls.HttpSendfield n name value deadline) number e f = by_top _ refl
needs_socket (calls.HttpRecvrequest n deadline) number e f = by_top _ refl
needs_socket (calls.HttpRecvstatus n deadline) number e f = by_top _ refl
needs_socket (calls.HttpRecvfield n deadline) number e f = by_top _ refl
needs_socket (calls.HttpDone n deadline) number e f = by_top _ refl
needs_socket (calls.HttpDetach n deadline) number e f = by_top _ refl
needs_socket (calls.WsDetach n code reason deadline) number e f = by_top _ refl
needs_socket _ number e f = cc

pub live_entry : (o : Option (Entry Thing)) → is_none o ≡ false → (x : Entry Thing) × (o ≡ Some x)
live_entry None e = cc
live_entry (Some x) e = (x, refl)

abbrev pub fits_socket : Handles Thing → Call → Bool
fits_socket h call = if is_on_stack (word_of call) then if_some (named_by call) true (is_no_bundle h) else true

pub not_not : (b : Bool) → not b ≡ false → b ≡ true
not_not true e = refl
not_not false e = cc

module _ {V : Type 0} where
  pub no_top : (w : World V) (test : Top → Bool) (thing : Thing) → has_top w test thing ≡ true → bundle_of thing ≡ None
  no_top w test (things.Socket l) e = refl
  no_top w test (things.Bundle name) e = cc
  no_top w test (things.End end) e = cc
  no_top w test (things.Listener l) e = cc
  no_top w test (things.Value kind value) e = cc

  pub no_kind : (w : World V) (kind : ℕ) (thing : Thing) → (1 == kind) ≡ false → (kind_of w thing == kind) ≡ true → bundle_of thing ≡ None
  no_kind w kind (things.Bundle name) e f = cc
  no_kind w kind (things.End end) e f = refl
  no_kind w kind (things.Listener l) e f = refl
  no_kind w kind (things.Socket l) e f = refl
  no_kind w kind (things.Value k value) e f = refl

  pub needed_none : (w : World V) (call : Call) (number : ℕ) (x : Entry Thing) → named_by call ≡ Some number → entry_of w number ≡ Some x → is_other_kind w call ≡ false → is_other_top w call ≡ false → NeedsSocket call → bundle_of x.thing ≡ None
  needed_none w call number x n e a b (by_kind kind k l) =
      let two : not (is_of_kind w kind number) ≡ if_some (Some number) false (λ m. if_some (kind_needed call) false (λ j. not (is_of_kind w j m))) = ap (λ o. if_some o false (λ j. not (is_of_kind w j number))) (sym k) in
      let three = not_not (is_of_kind w kind number) (two ∙ ap (λ o. if_some o false (λ m. if_some (kind_needed call) false (λ j. not (is_of_kind w j m)))) (sym n) ∙ a) in
      no_kind w kind x.thing l (ap (λ o. if_some o false (λ (y : Entry Thing). kind_of w y.thing == kind)) (sym e) ∙ three)
  needed_none w call number x n e a b (by_top test t) =
      let at : Option ℕ → Option (Top → Bool) → Option (Entry Thing) → Bool = λ o q r. if_some o false (λ m. if_some q false (λ j. if_some r false (λ y. not (has_top w j y.thing)))) in
      let one : not (has_top w test x.thing) ≡ at (Some number) (needs_top call) (entry_of w number) = ap (λ q. at (Some number) q (Some x)) (sym t) ∙ ap (λ r. at (Some number) (needs_top call) r) (sym e) in
      let two : at (Some number) (needs_top call) (entry_of w number) ≡ is_other_top w call = named_top (named_by call) n in
      no_top w test x.thing (not_not (has_top w test x.thing) (one ∙ two ∙ b))
    where
      named_top : (o : Option ℕ) → o ≡ Some number → if_some (needs_top call) false (λ j. if_some (entry_of w number) false (λ y. not (has_top w j y.thing))) ≡ if_some o false (λ m. if_some (needs_top call) false (λ j. if_some (entry_of w m) false (λ y. not (has_top w j y.thing))))
      named_top None f = cc
      named_top (Some m) f = let it : m ≡ number = cc in ap (λ k. if_some (needs_top call) false (λ j. if_some (entry_of w k) false (λ y. not (has_top w j y.thing)))) (sym it)

  -- a live number that names no bundle
  pub no_bundle_from : (w : World V) (number : ℕ) (x : Entry Thing) → FitsTogether w → entry_of w number ≡ Some x → bundle_of x.thing ≡ None → is_no_bundle w.handles number ≡ true
  no_bundle_from w number x f e none =
      let u = used_is w.handles.entries w.closings number in
      let h = f.numbers number in
      let one = weighs_found (has_number number) (has_number number) w.handles.entries x e (ap (λ n. n == number) (found_number (λ (y : Entry Thing). y.number) number w.handles.entries x e) ∙ same_number number) in
      and_from (nat_le number w.handles.last) (list_all (apart_or number) w.handles.entries) (below (nat_le number w.handles.last) (omega (arith, u, h, one)))
      (all_unique (λ (y : Entry Thing). y.number) (has_number number) (apart_or number) w.handles.entries (λ n. once w n f) (λ y g. at y (y.number == number) refl g))
    where
      below : (b : Bool) → 1 ≤ bit b → b ≡ true
      below true h = refl
      below false h = absurd (omega (arith, h))

      at : (y : Entry Thing) (b : Bool) → (y.number == number) ≡ b → find (has_number y.number) w.handles.entries ≡ Some y → (not b || is_none (bundle_of y.thing)) ≡ true
      at y false g i = refl
      at y true g i =
          let there : find (has_number number) w.handles.entries ≡ Some y = subst (λ n. find (has_number n) w.handles.entries ≡ Some y) (equal y.number number g) i in
          let it : x ≡ y = cc in
          ap (λ (z : Entry Thing). is_none (bundle_of z.thing)) (sym it) ∙ ap is_none none

  -- ---- who makes its call, for which so many numbers are kept

  pub record Makes (w : World V) (who count : ℕ) : Type 0 where
    pub good : IsOrderly w
    pub one : Coroutine V
    pub found : coroutine_of w who ≡ Some one
    pub mode : one.mode ≡ modes.Running
    pub spare : weigh kept_by w.coroutines + count ≤ w.handles.kept

  -- a step begins
  pub begins : (w : World V) → IsOrderly w → IsOrderly (begin w)
  begins w g = record { order = order_anyway w w.channels w.links w.place w.random w.moment [] g.order; sockets = g.sockets; waits = g.waits; kept = g.kept }

  pub makes_after : (w v : World V) (who : ℕ) {n : ℕ} → Makes w who n → Does w v 0 → Makes v who n
  makes_after w v who h d = record {
    good = does_good w v h.good d;
    one = h.one;
    found = ap (find (is_coroutine who)) d.coroutines ∙ h.found;
    mode = h.mode;
    spare = let same = ap (weigh kept_by) d.coroutines in let l = h.spare in let s = d.spent in omega (arith, same, l, s);
  }

  pub there : (w : World V) (who : ℕ) {n : ℕ} → Makes w who n → is_there w who ≡ true
  there w who h = ap is_some h.found

  pub going : (w : World V) (who : ℕ) {n : ℕ} → Makes w who n → is_at is_ending w.coroutines who ≡ false
  going w who h = ap (λ o. if_some o false (λ c. is_ending c.mode)) h.found ∙ ap is_ending h.mode

  pub caller : (w : World V) (who : ℕ) {n : ℕ} → Makes w who n → Caller w who
  caller w who h = record { order = h.good.order; one = h.one; found = h.found; free = running_free h.one.mode h.mode }

  pub replied : (w v : World V) (who : ℕ) (word : Word) (answer : Answer) {n : ℕ} → Makes w who n → Does w v n → Goes w (reply v who word answer)
  replied w v who word answer h d = answers_free w v who word answer h.one h.good h.found (running_free h.one.mode h.mode) (let l = h.spare in omega (arith, l)) d

  -- who makes its call waits under no clause yet
  pub kept_waits : (cs : List (Coroutine V)) (who : ℕ) (c : Coroutine V) (mode : Mode) (xs : List Wait) → find (is_coroutine who) cs ≡ Some c → c.mode ≡ modes.Running → list_all (waits_well cs) xs ≡ true → list_all (waits_well (change (is_coroutine who) (with_mode mode) cs)) xs ≡ true
  kept_waits cs who c mode xs e m h = all_follow (waits_well cs) (waits_well (change (is_coroutine who) (with_mode mode) cs)) xs (λ x f. at x (x.who == who) refl f) h
    where
      at : (x : Wait) (b : Bool) → (x.who == who) ≡ b → is_at is_meeting cs x.who ≡ true → is_at is_meeting (change (is_coroutine who) (with_mode mode) cs) x.who ≡ true
      at x true f g = absurd (running_meets c.mode m (ap (λ o. if_some o false (λ d. is_meeting d.mode)) (sym e) ∙ ap (is_at is_meeting cs) (sym (equal x.who who f)) ∙ g))
      at x false f g = ap (λ o. if_some o false (λ d. is_meeting d.mode)) (change_other (with_mode mode) (λ d. refl) who x.who cs (unequal x.who who f)) ∙ g

  pub pended : (w v : World V) (who : ℕ) (call : Call) {n : ℕ} → Makes w who n → Does w v 0 → bit (gives_number (word_of call)) ≤ n → is_free (modes.Pending call) ≡ true → fits_socket v.handles call ≡ true → Goes w (pend v who call)
  pended w v who call h d enough free socket =
      let now = makes_after w v who h d in
      record {
        noted = d.noted;
        good = record {
          order = order_set v who now.one (modes.Pending call) d.order now.found (running_free now.one.mode now.mode) free;
          sockets = all_change (is_socketed v.handles) (is_coroutine who) (with_mode (modes.Pending call)) v.coroutines (λ x f. socket) now.good.sockets;
          waits = kept_waits v.coroutines who now.one (modes.Pending call) v.channels.waits now.found now.mode now.good.waits;
          kept = let set = set_kept v who (modes.Pending call) now.one now.found in let l = now.spare in omega (arith, set, l, enough);
        };
      }

  -- ---- what a call isn't refused for

  -- the number that a call names is live
  pub named_alive : (w : World V) (call : Call) (number : ℕ) → named_by call ≡ Some number → names_dead w call ≡ false → is_dead w number ≡ false
  named_alive w call number n e = at (named_by call) n e
    where
      at : (q : Option ℕ) → q ≡ Some number → list_any (is_dead w) (option_to_list q ++ gifts call ++ chosen call) ≡ false → is_dead w number ≡ false
      at None i j = cc
      at (Some l) i j = let it : l ≡ number = cc in subst (λ r. is_dead w r ≡ false) it (or_parts (is_dead w l) (list_any (is_dead w) (gifts call ++ chosen call)) j).0

  module _ (p : Program V) where
    pub named_none : (w : World V) (who : ℕ) (view : V) (call : Call) (number : ℕ) → IsInOrder w → May p w who view call → (is_on_stack (word_of call) || is_some (layer_of call)) ≡ true → named_by call ≡ Some number → is_no_bundle w.handles number ≡ true
    named_none w who view call number o m s n =
        let x = live_entry (entry_of w number) (named_alive w call number n m.alive) in
        let others = or_parts (is_other_kind w call) (is_other_top w call || list_any (λ n. not (is_of_kind w 2 n)) (chosen call)) m.other in
        let tops = or_parts (is_other_top w call) (list_any (λ n. not (is_of_kind w 2 n)) (chosen call)) others.1 in
        no_bundle_from w number x.0 o.fits x.1 (needed_none w call number x.0 n x.1 others.0 tops.0 (needs_socket call number s n))

    pub socket_fits : (w : World V) (who : ℕ) (view : V) (call : Call) → IsInOrder w → May p w who view call → fits_socket w.handles call ≡ true
    socket_fits w who view call o m = at (is_on_stack (word_of call)) refl (named_by call) refl
      where
        at : (b : Bool) → is_on_stack (word_of call) ≡ b → (q : Option ℕ) → named_by call ≡ q → (if b then if_some q true (is_no_bundle w.handles) else true) ≡ true
        at false e q f = refl
        at true e None f = refl
        at true e (Some number) f = named_none w who view call number o m (ap (λ t. t || is_some (layer_of call)) e) f

module _ {V : Type 0} where
  -- ---- effects of calls

  pub kept : (w : World V) (count : ℕ) → length w.handles.entries + w.handles.kept + count ≤ 65536 → IsInOrder w → Does w (record w { handles = handles.keep w.handles count }) 0
  kept w count l o = record { order = order_keep w count (fits_keep w count l o.fits) o; coroutines = refl; stays = λ n e. e; noted = λ n. refl; waits = refl; spent = omega arith }

  -- the call keeps the numbers that its answer draws
  pub makes_kept : (w : World V) (who count : ℕ) → length w.handles.entries + w.handles.kept + count ≤ 65536 → Makes w who 0 → Makes (record w { handles = handles.keep w.handles count }) who count
  makes_kept w who count l h = record { good = does_good w (record w { handles = handles.keep w.handles count }) h.good (kept w count l h.good.order); one = h.one; found = h.found; mode = h.mode; spare = let s = h.spare in omega (arith, s) }

  pub makes_handle : (w : World V) (thing : Thing) (who : ℕ) → bundle_of thing ≡ None → is_proper_thing thing ≡ true → is_there w who ≡ true → 1 ≤ w.handles.kept → IsInOrder w → Does w (make w thing who) 1
  makes_handle w thing who none proper here k o = record {
    order = order_make w thing who none proper here k o;
    coroutines = refl;
    stays = stays_made w.handles thing who;
    noted = λ n. made_count w.notes w.handles w.closings thing who n;
    waits = refl;
    spent = omega arith;
  }

  pub makes_bundle : (w : World V) (who : ℕ) → is_there w who ≡ true → is_at is_ending w.coroutines who ≡ false → 1 ≤ w.handles.kept → IsInOrder w → Does w (add_bundle w who) 1
  makes_bundle w who here on k o = record {
    order = order_add_bundle w who here on k o;
    coroutines = refl;
    stays = stays_made w.handles (things.Bundle (w.last_bundle + 1)) who;
    noted = λ n. made_count w.notes w.handles w.closings (things.Bundle (w.last_bundle + 1)) who n;
    waits = refl;
    spent = omega arith;
  }

  -- a handle moves, which may be of a bundle
  pub moves_any : (w : World V) (number owner : ℕ) → IsInOrder w → is_there w owner ≡ true → is_at is_ending w.coroutines owner ≡ false → ((x : Entry Thing) (name : ℕ) → entry_of w number ≡ Some x → x.thing ≡ things.Bundle name → Inside w.scopes name owner → ⊥) → Does w (move w number owner) 1
  moves_any w number owner o here on out = record { order = order_move w number owner o here on out; coroutines = (move_crew w number owner).coroutines; stays = move_stays w number owner; noted = move_counts w number owner; waits = move_waits w number owner; spent = move_spent w number owner }

  pub other_channels : (w : World V) (c : Channels) → c.waits ≡ w.channels.waits → IsInOrder w → Does w (record w { channels = c }) 0
  other_channels w c e o = record { order = order_anyway w c w.links w.place w.random w.moment w.notes o; coroutines = refl; stays = λ n f. f; noted = λ n. refl; waits = e; spent = omega arith }

  -- ---- an owner is taken

  pub taken_held : (w : World V) (number owner : ℕ) → FitsTogether w → list_all (apart_or number) w.handles.entries ≡ true → is_there w owner ≡ true → FitsTogether (record w { handles = handles.set_owner w.handles number owner })
  taken_held w number owner f apart here =
      let es = w.handles.entries in
      let ds = change (has_number number) (handles.with_owner owner) es in
      let used_same : (n : ℕ) → used ds w.closings n ≡ used es w.closings n = λ n. ap (λ k. k + weigh (λ x. bit (died_as n x)) w.closings) (weigh_changed (λ x. bit (has_number n x)) (has_number number) (handles.with_owner owner) es (λ x. refl)) in
      let named_same : (n : ℕ) → named ds w.closings n ≡ named es w.closings n = λ n. ap (λ k. k + weigh (λ x. bit (closes_it n x)) w.closings) (weigh_changed (λ x. bit (names_it n x)) (has_number number) (handles.with_owner owner) es (λ x. refl)) in
      record {
        forest = f.forest;
        bundles = f.bundles;
        crew = f.crew;
        numbered = f.numbered;
        begun = f.begun;
        few = f.few;
        main = f.main;
        room = let l = length_changed (has_number number) (handles.with_owner owner) es in let r = f.room in omega (arith, l, r);
        numbers = λ n. subst (λ k. k ≤ bit (nat_le n w.handles.last)) (used_is es w.closings n ∙ sym (used_same n) ∙ sym (used_is ds w.closings n)) (f.numbers n);
        names = λ n. named_is ds w.closings n ∙ named_same n ∙ sym (named_is es w.closings n) ∙ f.names n;
        kinds = all_change is_proper (has_number number) (handles.with_owner owner) es (λ x g. g) f.kinds;
        held = all_changed (λ x. is_held w x && apart_or number x) (is_held w) (has_number number) (handles.with_owner owner) es
            (λ x g h. holds_new x g (and_parts (is_held w x) (apart_or number x) h).1) (λ x h. (and_parts (is_held w x) (apart_or number x) h).0) (all_both (is_held w) (apart_or number) es f.held apart);
      }
    where
      none_of : (b : Bool) (o : Option ℕ) → (not b || is_none o) ≡ true → b ≡ true → o ≡ None
      none_of true None e g = refl
      none_of true (Some n) e g = cc
      none_of false o e g = cc

      holds_new : (x : Entry Thing) → has_number number x ≡ true → apart_or number x ≡ true → is_held w (handles.with_owner owner x) ≡ true
      holds_new x g h = and_from (is_there w owner) (if_some (bundle_of x.thing) true (has_bundle w owner)) here (ap (λ o. if_some o true (has_bundle w owner)) (none_of (x.number == number) (bundle_of x.thing) h g))

  pub taken_open : (w : World V) (number owner : ℕ) → list_all (apart_or number) w.handles.entries ≡ true → list_all (is_kept_open w) w.handles.entries ≡ true → list_all (is_kept_open w) (change (has_number number) (handles.with_owner owner) w.handles.entries) ≡ true
  taken_open w number owner apart open_all =
      all_changed (λ x. is_kept_open w x && apart_or number x) (is_kept_open w) (has_number number) (handles.with_owner owner) w.handles.entries
      (λ x g h. opens x g (and_parts (is_kept_open w x) (apart_or number x) h).1) (λ x h. (and_parts (is_kept_open w x) (apart_or number x) h).0) (all_both (is_kept_open w) (apart_or number) w.handles.entries open_all apart)
    where
      at : (b : Bool) (o : Option ℕ) (t : Bool) → (not b || is_none o) ≡ true → b ≡ true → if_some o true (λ name. not t) ≡ true
      at true None t e g = refl
      at true (Some n) t e g = cc
      at false o t e g = cc

      opens : (x : Entry Thing) → has_number number x ≡ true → apart_or number x ≡ true → is_kept_open w (handles.with_owner owner x) ≡ true
      opens x g h = at (x.number == number) (bundle_of x.thing) (is_at is_ending w.coroutines owner) h g

  -- the caller becomes the owner of a stack
  pub takes_stack : (w : World V) (number owner : ℕ) → IsInOrder w → is_no_bundle w.handles number ≡ true → is_there w owner ≡ true → Does w (take w number owner) 0
  takes_stack w number owner o e here = at (entry_of w number) refl
    where
      apart : list_all (apart_or number) w.handles.entries ≡ true
      apart = (and_parts (nat_le number w.handles.last) (list_all (apart_or number) w.handles.entries) e).1

      owned : Does w (record w { handles = handles.set_owner w.handles number owner }) 0
      owned = record {
        order = order_with w (handles.set_owner w.handles number owner) w.scopes w.last_bundle (λ y. true) o (taken_held w number owner o.fits apart here) (all_true w.closings) (λ y f. refl) (taken_open w number owner apart o.endings);
        coroutines = refl;
        stays = taken_stays w.handles number owner;
        noted = λ n. ap (λ k. weigh (λ x. bit (dead_by x == n)) w.notes + (k + weigh (λ x. bit (died_as n x)) w.closings) + bit (nat_le n w.handles.last)) (weigh_changed (λ x. bit (has_number n x)) (has_number number) (handles.with_owner owner) w.handles.entries (λ x. refl));
        waits = refl;
        spent = omega arith;
      }

      plain : (thing : Thing) → bundle_of thing ≡ None → Does w (take_thing (record w { handles = handles.set_owner w.handles number owner }) thing owner) 0
      plain (things.Bundle name) f = cc
      plain (things.End end) f = owned
      plain (things.Listener l) f = owned
      plain (things.Socket l) f = owned
      plain (things.Value kind value) f = owned

      at : (q : Option (Entry Thing)) → entry_of w number ≡ q → Does w (if_some q w (λ x. take_thing (record w { handles = handles.set_owner w.handles number owner }) x.thing owner)) 0
      at None f = nothing w o
      at (Some x) f = plain x.thing (names_none w number x e f)
