-- Worlds in which no links are there, and programs that make no call of a link.
use Rattle.std.specs.Prelude.{◌≡◌, ◌≤◌, Bool, true, false}
use Rattle.std.specs.List.{list_all}
use Rattle.dill_calls.specs.declared.call.Call.{Call}
use Rattle.dill_calls.specs.declared.call.Call.TheVariants as calls
use Rattle.dill_calls.specs.declared.answer.Answer.{Answer}
use Rattle.dill_calls.specs.CallTable.{word_of}
use Rattle.dill_calls.specs.Program.{Program, Move, Calls, Ends}
use Rattle.dill_handles.specs.declared.entry.Entry.{Entry}
use Rattle.dill_base.specs.Maps.{if_some}
use Rattle.dill_rules.specs.declared.coroutine.Coroutine.{Coroutine}
use Rattle.dill_rules.specs.declared.thing.Thing.{Thing}
use Rattle.dill_rules.specs.declared.thing.Thing.TheVariants as things
use Rattle.dill_rules.specs.Links.{no_links}
use Rattle.dill_rules.specs.LinkAnswers.{is_of_link}
use Rattle.dill_rules.specs.World.{World, at_start, pending_call}

-- a bundle, an end of a channel, or an application's value
abbrev pub is_linkless_thing : Thing → Bool
is_linkless_thing (things.Bundle name) = true
is_linkless_thing (things.End end) = true
is_linkless_thing (things.Value kind value) = true
is_linkless_thing _ = false

abbrev pub is_linkless_entry : Entry Thing → Bool
is_linkless_entry x = is_linkless_thing x.thing

-- the calls that may stay pending and wait for no link
abbrev pub may_wait : Call → Bool
may_wait (calls.Msleep deadline) = true
may_wait (calls.Hclose number) = true
may_wait (calls.BundleWait number deadline) = true
may_wait (calls.Chsend number bytes deadline) = true
may_wait (calls.Chrecv number size deadline) = true
may_wait (calls.Choose deadline all) = true
may_wait _ = false

-- what it is pending in, if it is, is such a call
abbrev pub waits_linkless : {V : Type 0} → Coroutine V → Bool
waits_linkless c = if_some (pending_call c.mode) true may_wait

-- no links are there, and nobody waits for one
pub record IsLinkless {V : Type 0} (w : World V) : Type 0 where
  pub links : w.links ≡ no_links
  pub place : w.place ≡ at_start
  pub things : list_all is_linkless_entry w.handles.entries ≡ true
  pub calls : list_all waits_linkless w.coroutines ≡ true

-- the call of a move is none of a link, if it makes one
abbrev pub MovesLinkless : {V : Type 0} → V × Move → Type 0
MovesLinkless (new, Calls call) = is_of_link (word_of call) ≡ false
MovesLinkless (new, Ends outcome) = Unit {0}

-- no turn of a program makes a call of a link
abbrev pub MakesLinkless : {V : Type 0} → Program V → Type 0
MakesLinkless {V} p = (view : V) (answer : Answer) → p.real view ≡ true → 1 ≤ p.left view → MovesLinkless (p.next view answer)
