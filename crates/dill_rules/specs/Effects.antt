-- What a call does that isn't refused, but for channels and links: its effect, and its answer or that it is pending.
use Rattle.std.specs.Prelude.{ℕ, ◌+◌, List, [], ◌∷◌, ◌++◌, fold, Option, Some, None}
use Rattle.dill_base.specs.declared.errno.Errno.{Errno}
use Rattle.dill_calls.specs.declared.answer.Answer.{Answer}
use Rattle.dill_calls.specs.declared.answer.Answer.TheVariants.{Number, Fault}
use Rattle.dill_calls.specs.declared.call.Call.TheVariants as calls
use Rattle.dill_calls.specs.declared.lists.Arg.{Arg}
use Rattle.dill_calls.specs.declared.lists.Arg.TheVariants.{Show, Give}
use Rattle.dill_calls.specs.declared.word.Word.TheVariants as words
use Rattle.dill_calls.specs.Program.{Program}
use Rattle.dill_handles.specs.Handles as handles
use Rattle.dill_scope.specs.Scopes as scopes
use Rattle.dill_base.specs.Maps.{if_some}
use Rattle.dill_rules.specs.declared.coroutine.Mode.TheVariants as modes
use Rattle.dill_rules.specs.declared.thing.Thing.{Thing}
use Rattle.dill_rules.specs.declared.thing.Thing.TheVariants as things
use Rattle.dill_rules.specs.World.{World, reply, pend}
use Rattle.dill_rules.specs.Naming.{gifts_of}
use Rattle.dill_rules.specs.Kinds.{value_of}
use Rattle.dill_rules.specs.Owning.{entry_of, move, release, close_bundle}
use Rattle.dill_rules.specs.Taking.{bundle_named}

-- what a child is told: the numbers that it is shown, and of its gifts the new ones
abbrev pub told : ℕ → List Arg → List ℕ
told next [] = []
told next (Show number ∷ args) = number ∷ told next args
told next (Give number ∷ args) = next ∷ told (next + 1) args

-- `Pass` answers 0 or its fault
abbrev pub passed_answer : Option Errno → Answer
passed_answer None = Number 0
passed_answer (Some errno) = Fault errno

module _ {V : Type 0} where
  -- the number that is given next
  abbrev pub next_number : World V → ℕ
  next_number w = handles.next_number w.handles

  -- the next number, which was kept, names a thing
  abbrev pub make : World V → Thing → ℕ → World V
  make w thing owner = record w { handles = handles.make w.handles thing owner }

  -- an application's value
  abbrev pub make_value : World V → ℕ → ℕ → ℕ → World V
  make_value w who kind value = reply (make w (things.Value kind value) who) who words.Hmake (Number (next_number w))

  -- a new bundle of a coroutine, and its number
  abbrev pub add_bundle : World V → ℕ → World V
  add_bundle w who = record (make w (things.Bundle (w.last_bundle + 1)) who) {
    scopes = scopes.bundle w.scopes (w.last_bundle + 1) who;
    last_bundle = w.last_bundle + 1;
  }

  abbrev pub make_bundle : World V → ℕ → World V
  make_bundle w who = reply (add_bundle w who) who words.Bundle (Number (next_number w))

  abbrev pub query : World V → ℕ → ℕ → World V
  query w who number = if_some (entry_of w number) w (λ x. reply w who words.Hquery (Number (value_of x.thing)))

  -- the thing has a new number, and the caller is its owner
  abbrev pub own : World V → ℕ → ℕ → World V
  own w who number = reply (move w number who) who words.Hown (Number (next_number w))

  -- A bundle closes, and its `hclose` waits until it is empty. Anything else is released at once.
  abbrev pub close_thing : World V → ℕ → ℕ → Thing → World V
  close_thing w who number (things.Bundle name) = pend (close_bundle w who name number) who (calls.Hclose number)
  close_thing w who number thing = reply (release w number) who words.Hclose (Number 0)

  abbrev pub close : World V → ℕ → ℕ → World V
  close w who number = if_some (entry_of w number) w (λ x. close_thing w who number x.thing)

  -- a new coroutine lives in a bundle, with the answer that it starts by
  abbrev pub bear : World V → V → ℕ → World V
  bear w view home = record w {
    coroutines = w.coroutines ++ record { number = w.last_coroutine + 1; body = view; mode = modes.Fresh words.Start (Number 0) } ∷ [];
    scopes = scopes.enter w.scopes home (w.last_coroutine + 1);
    last_coroutine = w.last_coroutine + 1;
  }

  -- the gifts go to an owner, in their order
  abbrev pub give_all : World V → List ℕ → ℕ → World V
  give_all w numbers owner = fold (λ now number. move now number owner) w numbers

  -- a child of a program in a bundle: its gifts first
  abbrev pub start : Program V → World V → V → ℕ → ℕ → List Arg → World V
  start p w view home program args = bear (give_all w (gifts_of args) (w.last_coroutine + 1)) (p.child view program (told (next_number w) args)) home

  -- a child in a new bundle
  abbrev pub go : Program V → World V → ℕ → V → ℕ → List Arg → World V
  go p w who view program args = reply (start p (add_bundle w who) view (w.last_bundle + 1) program args) who words.Go (Number (next_number w))

  -- a child in a bundle that is there
  abbrev pub bundle_go : Program V → World V → ℕ → V → ℕ → ℕ → List Arg → World V
  bundle_go p w who view number program args =
      if_some (bundle_named w number) w (λ home. reply (start p w view home program args) who words.BundleGo (Number 0))
