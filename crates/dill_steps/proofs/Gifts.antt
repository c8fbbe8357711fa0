-- Giving before a child is there, or behind it, is the same; and what is kept and given back was never kept.
use Rattle.std.proofs.Common.{◌≡◌, ◌∙◌, ◌+◌, ℕ, List, [], ◌∷◌, Option, Some, None, refl, ap, sym}
use Rattle.dill_calls.specs.declared.ran.Note.TheVariants.{Moved}
use Rattle.dill_handles.specs.Handles as handles
use Rattle.dill_handles.specs.declared.entry.Entry.{Entry}
use Rattle.dill_base.specs.Maps.{if_some}
use Rattle.dill_rules.specs.declared.thing.Thing.{Thing}
use Rattle.dill_rules.specs.declared.thing.Thing.TheVariants as things
use Rattle.dill_rules.specs.World.{World, note, reply}
use Rattle.dill_rules.specs.Owning.{entry_of, take_thing, move}
use Rattle.dill_calls.specs.declared.answer.Answer.TheVariants.{Number}
use Rattle.dill_calls.specs.declared.lists.Arg.{Arg}
use Rattle.dill_calls.specs.declared.word.Word.TheVariants as words
use Rattle.dill_calls.specs.Program.{Program}
use Rattle.dill_rules.specs.Naming.{gifts_of}
use Rattle.dill_rules.specs.Taking.{bundle_named}
use Rattle.dill_rules.specs.Effects.{next_number, add_bundle, told, bear, give_all, start, go, bundle_go}
use Rattle.dill_world.specs.Steps.{bear_apart}

module _ {V : Type 0} (view : V) (home : ℕ) where
  take_born : (w : World V) (thing : Thing) (owner : ℕ) → take_thing (bear w view home) thing owner ≡ bear (take_thing w thing owner) view home
  take_born w (things.Bundle name) owner = refl
  take_born w (things.End end) owner = refl
  take_born w (things.Listener link) owner = refl
  take_born w (things.Socket link) owner = refl
  take_born w (things.Value kind value) owner = refl

  move_born : (w : World V) (number owner : ℕ) → move (bear w view home) number owner ≡ bear (move w number owner) view home
  move_born w number owner = at (entry_of w number)
    where
      at : (o : Option (Entry Thing)) → if_some o (bear w view home) (λ x. note (take_thing (record (bear w view home) { handles = handles.renumber w.handles number x.thing owner }) x.thing owner) (Moved number (handles.next_number w.handles))) ≡ bear (if_some o w (λ x. note (take_thing (record w { handles = handles.renumber w.handles number x.thing owner }) x.thing owner) (Moved number (handles.next_number w.handles)))) view home
      at None = refl
      at (Some x) = ap (λ (v : World V). note v (Moved number (handles.next_number w.handles))) (take_born (record w { handles = handles.renumber w.handles number x.thing owner }) x.thing owner)

  pub give_born : (numbers : List ℕ) (w : World V) (owner : ℕ) → give_all (bear w view home) numbers owner ≡ bear (give_all w numbers owner) view home
  give_born [] w owner = refl
  give_born (number ∷ numbers) w owner = ap (λ (v : World V). give_all v numbers owner) (move_born w number owner) ∙ give_born numbers (move w number owner) owner

module _ {V : Type 0} (p : Program V) where
  -- a child in a new bundle, one effect after the other
  pub gone : (k one two new : World V) (who owner number program : ℕ) (view child : V) (args : List Arg) → one ≡ bear_apart k who child → two ≡ give_all one (gifts_of args) owner → new ≡ reply two who words.Go (Number number) → child ≡ p.child view program (told (next_number (add_bundle k who)) args) → owner ≡ k.last_coroutine + 1 → number ≡ next_number k → new ≡ go p k who view program args
  gone k one two new who owner number program view child args a b c d e f =
      let home = k.last_bundle + 1 in
      let made = add_bundle k who in
      c ∙ ap (λ n. reply two who words.Go (Number n)) f
      ∙ ap (λ (v : World V). reply v who words.Go (Number (next_number k))) (b ∙ ap (λ (v : World V). give_all v (gifts_of args) owner) a ∙ give_born child home (gifts_of args) made owner ∙ ap (λ o. bear (give_all made (gifts_of args) o) child home) e ∙ ap (λ x. bear (give_all made (gifts_of args) (k.last_coroutine + 1)) x home) d)

  -- a child in a bundle that is there
  pub bundle_gone : (k one two new : World V) (who owner bundle home program : ℕ) (view child : V) (args : List Arg) → bundle_named k bundle ≡ Some home → one ≡ bear k child home → two ≡ give_all one (gifts_of args) owner → new ≡ reply two who words.BundleGo (Number 0) → child ≡ p.child view program (told (next_number k) args) → owner ≡ k.last_coroutine + 1 → new ≡ bundle_go p k who view bundle program args
  bundle_gone k one two new who owner bundle home program view child args h a b c d e =
      c ∙ ap (λ (v : World V). reply v who words.BundleGo (Number 0)) (b ∙ ap (λ (v : World V). give_all v (gifts_of args) owner) a ∙ give_born child home (gifts_of args) k owner ∙ ap (λ o. bear (give_all k (gifts_of args) o) child home) e ∙ ap (λ x. bear (give_all k (gifts_of args) (k.last_coroutine + 1)) x home) d)
      ∙ sym (ap (λ o. if_some o k (λ at. reply (start p k view at program args) who words.BundleGo (Number 0))) h)
