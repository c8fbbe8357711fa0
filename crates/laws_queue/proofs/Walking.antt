-- The program that a call starts is known, and its coroutine begins.
use Rattle.std.proofs.Common.{◌≡◌, ◌∙◌, ◌+◌, ℕ, suc, List, [], ◌∷◌, ◌++◌, length, find, Bool, true, false, not, ◌&&◌, ◌||◌, cond, Option, Some, None, refl, ap}
use Rattle.dill_base.specs.declared.errno.Errno.{Errno}
use Rattle.dill_base.specs.declared.errno.Errno.TheVariants as errnos
use Rattle.dill_calls.specs.declared.call.Call.{Call}
use Rattle.dill_calls.specs.declared.call.Call.TheVariants as calls
use Rattle.dill_calls.specs.declared.lists.Arg.{Arg}
use Rattle.dill_calls.specs.declared.lists.Arg.TheVariants.{Show, Give}
use Rattle.dill_calls.specs.Program.{Program, IsLawful, Begins}
use Rattle.dill_rules.specs.World.{World}
use Rattle.dill_rules.specs.Naming.{gifts_of}
use Rattle.dill_rules.specs.Refusals.{order, refuse, has_twice, holds, is_invalid, is_refused_by_stack}
use Rattle.dill_rules.specs.Effects.{told}
use Rattle.laws_queue.proofs.Acting.{Bearing}

pub told_length : (next : ℕ) (args : List Arg) → length (told next args) ≡ length args
told_length next [] = refl
told_length next (Show number ∷ args) = ap suc (told_length next args)
told_length next (Give number ∷ args) = ap suc (told_length (next + 1) args)

-- where nothing is found, what stands behind others isn't
pub none_behind : {X : Type 0} (f : X → Bool) (front : List X) (x : X) (back : List X) → find f (front ++ x ∷ back) ≡ None → f x ≡ false
none_behind {X} f [] x back e = at (f x) (find f back) e
  where
    at : (b : Bool) (rest : Option X) → cond b (Some x) rest ≡ None → b ≡ false
    at true rest g = cc
    at false rest g = refl
none_behind {X} f (y ∷ front) x back e = at (f y) e (none_behind f front x back)
  where
    at : (b : Bool) → cond b (Some y) (find f (front ++ x ∷ back)) ≡ None → (find f (front ++ x ∷ back) ≡ None → f x ≡ false) → f x ≡ false
    at true g rest = cc
    at false g rest = rest g

pub or_false : (a b : Bool) → (a || b) ≡ false → a ≡ false
or_false true b e = cc
or_false false b e = refl

not_true : (a b : Bool) → not (a && not b) ≡ false → a ≡ true
not_true true b e = refl
not_true false b e = cc

-- the program that a call starts is known
abbrev pub Known : {V : Type 0} → Program V → V → Call → Type 0
Known p view (calls.Go program args) = p.knows view program (length args) ≡ true
Known p view (calls.BundleGo number program args) = p.knows view program (length args) ≡ true
Known p view call = Unit {0}

module _ {V : Type 0} (p : Program V) where
  -- EINVAL is the fourth of the order
  valid : (f : Errno → Bool) → find f order ≡ None → f errnos.Einval ≡ false
  valid f e = none_behind f (errnos.Ecanceled ∷ errnos.Ebadf ∷ errnos.Enotsup ∷ []) errnos.Einval (errnos.Ebusy ∷ errnos.Epipe ∷ errnos.Econnreset ∷ errnos.Emsgsize ∷ errnos.Emfile ∷ []) e

  -- what isn't refused starts a program that is known
  pub unrefused_known : (w : World V) (who : ℕ) (view : V) (call : Call) → refuse p w who view call ≡ None → Known p view call
  unrefused_known w who view (calls.Go program args) f =
      let held = valid (holds p w who view (calls.Go program args)) f in
      not_true (p.knows view program (length args)) (has_twice (gifts_of args)) (or_false (is_invalid p view (calls.Go program args)) (is_refused_by_stack w (calls.Go program args) errnos.Einval) held)
  unrefused_known w who view (calls.BundleGo number program args) f =
      let held = valid (holds p w who view (calls.BundleGo number program args)) f in
      not_true (p.knows view program (length args)) (has_twice (gifts_of args)) (or_false (is_invalid p view (calls.BundleGo number program args)) (is_refused_by_stack w (calls.BundleGo number program args) errnos.Einval) held)
  unrefused_known w who view call f = tt

module _ {V : Type 0} (p : Program V) (law : IsLawful p) where
  child_begins : (view : V) (program next : ℕ) (args : List Arg) → p.real view ≡ true → p.knows view program (length args) ≡ true → Begins p (p.child view program (told next args))
  child_begins view program next args r k = law.child view program (told next args) r (ap (p.knows view program) (told_length next args) ∙ k)

  pub bearing : (view : V) (call : Call) → p.real view ≡ true → Known p view call → Bearing (Begins p) p view call
  bearing view (calls.Go program args) r k = λ next. child_begins view program next args r k
  bearing view (calls.BundleGo number program args) r k = λ next. child_begins view program next args r k
  bearing view call r k = tt
