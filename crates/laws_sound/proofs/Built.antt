-- A program whose calls are all built makes no call of a link.
use Rattle.std.proofs.Common.{◌≡◌, true, false, refl}
use Rattle.dill_calls.specs.CallTable.{word_of, is_built}
use Rattle.dill_calls.specs.Program.{Program, Move, Calls, Ends}
use Rattle.dill_calls.specs.declared.word.Word.{Word}
use Rattle.dill_calls.specs.declared.word.Word.TheVariants as words
use Rattle.dill_plain.specs.Plain.{MovesPlain, MakesPlain}
use Rattle.dill_rules.specs.LinkAnswers.{is_of_link}
use Rattle.laws_sound.specs.Linkless.{MovesLinkless, MakesLinkless}

built_linkless : (word : Word) → is_built word ≡ true → is_of_link word ≡ false
built_linkless words.Start e = refl
built_linkless words.Set e = refl
built_linkless words.Join e = refl
built_linkless words.Print e = refl
built_linkless words.Now e = refl
built_linkless words.Yield e = refl
built_linkless words.Msleep e = refl
built_linkless words.Hmake e = refl
built_linkless words.Hquery e = refl
built_linkless words.Hown e = refl
built_linkless words.Hclose e = refl
built_linkless words.Bundle e = refl
built_linkless words.Go e = refl
built_linkless words.BundleGo e = refl
built_linkless words.BundleWait e = refl
built_linkless words.Chmake e = refl
built_linkless words.Chsend e = refl
built_linkless words.Chrecv e = refl
built_linkless words.Chdone e = refl
built_linkless words.Choose e = refl
built_linkless _ e = cc

pub moves_linkless : {V : Type 0} (next : V × Move) → MovesPlain next → MovesLinkless next
moves_linkless (new, Calls call) e = built_linkless (word_of call) e
moves_linkless (new, Ends outcome) e = tt

pub makes_linkless : {V : Type 0} (p : Program V) → MakesPlain p → MakesLinkless p
makes_linkless p unlinked view answer real some = moves_linkless (p.next view answer) (unlinked view answer real some)
