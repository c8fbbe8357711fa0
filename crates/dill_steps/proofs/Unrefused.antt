-- What a call that isn't refused may rely on: there is room, and the program that it starts is known.
use Rattle.std.proofs.Common.{◌≡◌, ◌+◌, ◌<◌, ◌≤◌, ◌^◌, ℕ, List, [], ◌∷◌, length, find, Bool, true, false, not, ◌&&◌, ◌||◌, cond, Option, Some, None, refl, ap, sym, ◌∙◌, nat_le, arith}
use Rattle.std.specs.Prelude.{◌==◌, nat_lt}
use Rattle.std.specs.List.{list_any}
use Rattle.std.proofs.lemmas.Bool.{or_parts}
use Rattle.std.proofs.lemmas.Bool.Decides.{nat_tests}
use Rattle.dill_base.specs.declared.errno.Errno.{Errno}
use Rattle.dill_base.specs.declared.errno.Errno.TheVariants as errnos
use Rattle.dill_calls.specs.declared.call.Call.{Call}
use Rattle.dill_calls.specs.declared.call.Call.TheVariants as calls
use Rattle.dill_calls.specs.declared.lists.Arg.{Arg}
use Rattle.dill_calls.specs.CallTable.{word_of}
use Rattle.dill_calls.specs.Program.{Program}
use Rattle.dill_handles.specs.Handles as handles
use Rattle.dill_rules.specs.World.{World}
use Rattle.dill_rules.specs.Naming.{gifts_of, draws_of, bears, links}
use Rattle.dill_rules.specs.Refusals.{refuse, order, holds, is_invalid, is_short, is_refused_by_stack, is_over_limit, has_twice, has_no_coroutine, has_no_link}
use Rattle.dill_steps.specs.Needs.{needs_memory, is_at_channel}
use Rattle.dill_world.specs.Channeled.{enters_channel}

picks_none : {A : Type 0} (b : Bool) (x : A) (rest : Option A) → cond b (Some x) rest ≡ None → (b ≡ false) × (rest ≡ None)
picks_none true x rest e = cc
picks_none false x rest e = (refl, e)

not_false : (a : Bool) → not a ≡ false → a ≡ true
not_false true e = refl
not_false false e = cc

not_both : (a b : Bool) → not (a && not b) ≡ false → a ≡ true
not_both true b e = refl
not_both false b e = cc

module _ (f : Errno → Bool) where
  fifth_on : (a b c d : Errno) (rest : List Errno) → find f (a ∷ b ∷ c ∷ d ∷ rest) ≡ None → (f d ≡ false) × (find f rest ≡ None)
  fifth_on a b c d rest e =
      let one = picks_none (f a) a (find f (b ∷ c ∷ d ∷ rest)) e in
      let two = picks_none (f b) b (find f (c ∷ d ∷ rest)) one.1 in
      let three = picks_none (f c) c (find f (d ∷ rest)) two.1 in
      picks_none (f d) d (find f rest) three.1

  none_holds : find f order ≡ None → (f errnos.Einval ≡ false) × (f errnos.Emfile ≡ false)
  none_holds e =
      let first = fifth_on errnos.Ecanceled errnos.Ebadf errnos.Enotsup errnos.Einval (errnos.Ebusy ∷ errnos.Epipe ∷ errnos.Econnreset ∷ errnos.Emsgsize ∷ errnos.Emfile ∷ []) e in
      let second = fifth_on errnos.Ebusy errnos.Epipe errnos.Econnreset errnos.Emsgsize (errnos.Emfile ∷ []) first.1 in
      (first.0, (picks_none (f errnos.Emfile) errnos.Emfile None second.1).0)

module _ {V : Type 0} (p : Program V) (w : World V) (who : ℕ) (view : V) where
  short_none : (call : Call) → find (holds p w who view call) order ≡ None → is_short w call ≡ false
  short_none call e = (or_parts (is_short w call) (is_refused_by_stack w call errnos.Emfile) (none_holds (holds p w who view call) e).1).0

  invalid_none : (call : Call) → find (holds p w who view call) order ≡ None → is_invalid p view call ≡ false
  invalid_none call e = (or_parts (is_invalid p view call) (is_refused_by_stack w call errnos.Einval) (none_holds (holds p w who view call) e).0).0

  room_of : (call : Call) → find (holds p w who view call) order ≡ None → handles.has_room w.handles (draws_of call) ≡ true
  room_of call e = not_false (handles.has_room w.handles (draws_of call)) (or_parts (not (handles.has_room w.handles (draws_of call))) ((bears (word_of call) && has_no_coroutine w) || (links (word_of call) && has_no_link w)) (short_none call e)).0

  -- there is room for the numbers that it draws
  pub unrefused_room : (call : Call) → needs_memory call ≡ true → refuse p w who view call ≡ None → handles.has_room w.handles (draws_of call) ≡ true
  unrefused_room (calls.Hmake kind value) n e = room_of (calls.Hmake kind value) e
  unrefused_room (calls.Hown number) n e = room_of (calls.Hown number) e
  unrefused_room calls.Bundle n e = room_of calls.Bundle e
  unrefused_room (calls.Go program args) n e = room_of (calls.Go program args) e
  unrefused_room (calls.BundleGo number program args) n e = room_of (calls.BundleGo number program args) e
  unrefused_room calls.Chmake n e = room_of calls.Chmake e
  unrefused_room (calls.Chsend number bytes deadline) n e = room_of (calls.Chsend number bytes deadline) e
  unrefused_room (calls.Chrecv number size deadline) n e = room_of (calls.Chrecv number size deadline) e
  unrefused_room (calls.Choose deadline all) n e = room_of (calls.Choose deadline all) e
  unrefused_room _ n e = cc

  below_last : (a : ℕ) (b : Bool) → (b || nat_le 18446744073709551615 a) ≡ false → a + 1 < 18446744073709551616
  below_last a true e = cc
  below_last a false e = grind (arith, nat_tests)

  few_of : (call : Call) → (bears (word_of call) ≡ true) → find (holds p w who view call) order ≡ None → w.last_coroutine + 1 < 2 ^ 64
  few_of call b e =
      let rest = (or_parts (not (handles.has_room w.handles (draws_of call))) ((bears (word_of call) && has_no_coroutine w) || (links (word_of call) && has_no_link w)) (short_none call e)).1 in
      let mine = (or_parts (bears (word_of call) && has_no_coroutine w) (links (word_of call) && has_no_link w) rest).0 in
      let none : has_no_coroutine w ≡ false = sym (ap (λ t. t && has_no_coroutine w) b) ∙ mine in
      below_last w.last_coroutine (nat_le 65536 (length w.coroutines)) none

  -- a child has a number, and its program is known
  pub go_few : (program : ℕ) (args : List Arg) → refuse p w who view (calls.Go program args) ≡ None → w.last_coroutine + 1 < 2 ^ 64
  go_few program args e = few_of (calls.Go program args) refl e

  pub bundle_go_few : (number program : ℕ) (args : List Arg) → refuse p w who view (calls.BundleGo number program args) ≡ None → w.last_coroutine + 1 < 2 ^ 64
  bundle_go_few number program args e = few_of (calls.BundleGo number program args) refl e

  pub go_known : (program : ℕ) (args : List Arg) → refuse p w who view (calls.Go program args) ≡ None → p.knows view program (length args) ≡ true
  go_known program args e = not_both (p.knows view program (length args)) (has_twice (gifts_of args)) (invalid_none (calls.Go program args) e)

  pub bundle_go_known : (number program : ℕ) (args : List Arg) → refuse p w who view (calls.BundleGo number program args) ≡ None → p.knows view program (length args) ≡ true
  bundle_go_known number program args e = not_both (p.knows view program (length args)) (has_twice (gifts_of args)) (invalid_none (calls.BundleGo number program args) e)

not_more : (n : ℕ) → nat_lt 16 n ≡ false → nat_le n 16 ≡ true
not_more n e = grind (arith, nat_tests)

few_clauses : (a c : Bool) (n : ℕ) → (a || (nat_lt 16 n || c)) ≡ false → nat_le n 16 ≡ true
few_clauses a c n e = not_more n (or_parts (nat_lt 16 n) c (or_parts a (nat_lt 16 n || c) e).1).0

-- a choice has at most 16 clauses
pub enters_few : {V : Type 0} (p : Program V) (w : World V) (who : ℕ) (view : V) (call : Call) → is_at_channel call ≡ true → refuse p w who view call ≡ None → enters_channel call ≡ true
enters_few p w who view (calls.Chsend number bytes deadline) at e = refl
enters_few p w who view (calls.Chrecv number size deadline) at e = refl
enters_few p w who view (calls.Choose deadline all) at e = few_clauses (length all == 0) (list_any is_over_limit all) (length all) (invalid_none p w who view (calls.Choose deadline all) e)
enters_few p w who view _ at e = cc

room_small : (a k n : ℕ) (b : Bool) → (b && nat_le (a + k + n) 2147483647) ≡ true → a + n ≤ 2147483647
room_small a k n true e = grind (arith, nat_tests)
room_small a k n false e = cc

-- the numbers that are drawn are small
pub unrefused_small : {T : Type 0} (h : handles.Handles T) (n : ℕ) → handles.has_room h n ≡ true → h.last + n ≤ 2147483647
unrefused_small h n e = room_small h.last h.kept n (nat_le (length h.entries + h.kept + n) 65536) e
