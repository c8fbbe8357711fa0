-- States that are nearly full: what is refused of each call there, and a run that meets its limit.
use Rattle.std.specs.Prelude.{◌≡◌, ◌==◌, true, ℕ, zero, List, [], ◌∷◌, map, replicate, codes, bytes_eq, Option, Some, None}
use Rattle.dill_base.specs.declared.errno.Errno.{Errno}
use Rattle.dill_base.specs.declared.errno.Errno.TheVariants.{Emfile, Ecanceled, Ebusy}
use Rattle.dill_base.specs.declared.deadline.Deadline.TheVariants.{Never}
use Rattle.dill_calls.specs.declared.call.Call.{Call}
use Rattle.dill_calls.specs.declared.call.Call.TheVariants as calls
use Rattle.dill_calls.specs.declared.lists.Arg.TheVariants.{Give}
use Rattle.dill_handles.specs.Handles.{Handles}
use Rattle.dill_scope.specs.Scopes.{close}
use Rattle.dill_stack.specs.declared.layer.Layer.TheVariants as layer
use Rattle.dill_stack.specs.RowTerms.{attached, big2}
use Rattle.dill_rules.specs.declared.coroutine.Mode.TheVariants.{Running}
use Rattle.dill_rules.specs.declared.thing.Thing.{Thing}
use Rattle.dill_rules.specs.declared.thing.Thing.TheVariants as things
use Rattle.dill_rules.specs.Links.{Links, fresh_link, with_stack}
use Rattle.dill_rules.specs.declared.link.Sort.TheVariants.{Listening, Stream}
use Rattle.dill_rules.specs.Refusals.{refuse}
use Rattle.dill_rules.specs.World.{World, opening}
use Rattle.dill_rows.specs.Limits.{handles_with}
use Rattle.dill_rows.specs.Play.{Does, Tries, Text, Play, playing, first_of}
use Rattle.dill_rows.specs.Playing.{plain, zeros, place}
use Rattle.dill_rows.specs.Runs.{Run, clock, run_within, begun, text}

-- program 0 takes no argument, and every other one takes one
abbrev pub of_one : ℕ → List ℕ → Text
of_one zero args = plain 0 []
of_one program args = plain 1 []

-- five live numbers of coroutine 1: a value, a bundle, a listener, a byte socket and a message socket; so many more are kept, and this was given last
abbrev pub five_handles : ℕ → ℕ → Handles Thing
five_handles kept last = record {
  entries = record { number = 1; thing = things.Value 256 7; owner = 1 } ∷ record { number = 2; thing = things.Bundle 1; owner = 1 } ∷ record { number = 3; thing = things.Listener 1; owner = 1 } ∷ record { number = 4; thing = things.Socket 2; owner = 1 } ∷ record { number = 5; thing = things.Socket 3; owner = 1 } ∷ [];
  kept = kept;
  last = last;
}

-- the three links; so many more are kept, and this was used last
abbrev pub three_links : ℕ → ℕ → Links
three_links kept last = record {
  all = fresh_link 1 Listening ∷ fresh_link 2 Stream ∷ with_stack (attached (layer.Prefix big2)) (fresh_link 3 Stream) ∷ [];
  last = last;
  kept = kept;
}

-- `main` makes a call there
abbrev pub there : Handles Thing → Links → World Play
there handles links = record (opening (first_of (plain 0 [])) zeros) { handles = handles; links = links; last_bundle = 1 }

-- so many handles are kept, and there are numbers and links enough
abbrev pub kept_handles : ℕ → World Play
kept_handles kept = there (five_handles kept 5) (three_links 0 3)

-- this number was given last, and so many more are kept
abbrev pub last_given : ℕ → ℕ → World Play
last_given kept last = there (five_handles kept last) (three_links 0 3)

-- so many links are kept, and this number of a link was used last
abbrev pub kept_links : ℕ → ℕ → World Play
kept_links kept last = there (five_handles 0 5) (three_links kept last)

-- this coroutine was made last
abbrev pub last_made : ℕ → World Play
last_made last = record (kept_handles 0) { last_coroutine = last }

-- so many coroutines are there
abbrev pub with_coroutines : ℕ → World Play
with_coroutines count = record (kept_handles 0) { coroutines = replicate count (record { number = 1; body = first_of (plain 0 []); mode = Running }) }

-- the root is closing, and `main` is cancelled
abbrev pub cancelled : World Play → World Play
cancelled w = record w { scopes = close w.scopes 0 }

-- what is refused of each of these calls of `main`
abbrev pub refused : World Play → List Call → List (Option Errno)
refused w all = map (refuse (playing of_one) w 1 (first_of (plain 0 []))) all

-- the same for each
abbrev pub each : Option Errno → List Call → List (Option Errno)
each said all = map (λ call. said) all

-- calls that draw no number, one and two
abbrev pub draw_none : List Call
draw_none = calls.Now ∷ calls.Hquery 1 256 ∷ calls.Hclose 1 ∷ calls.BundleGo 2 0 [] ∷ calls.TcpClose 4 Never ∷ calls.Bsend 4 (codes "x") Never ∷ calls.Mrecv 5 9 Never ∷ []

abbrev pub draw_one : List Call
draw_one = calls.Hmake 256 0 ∷ calls.Hown 1 ∷ calls.Bundle ∷ calls.Go 0 [] ∷ calls.BundleGo 2 1 (Give 1 ∷ []) ∷ calls.TcpListen (place 9) 1 ∷ calls.TcpAccept 3 Never ∷ calls.TcpConnect (place 9) Never ∷ calls.PrefixAttach 4 2 true ∷ calls.SuffixAttach 4 (codes "x") ∷ calls.HttpAttach 4 ∷ calls.WsAttachClient 4 true (codes "/") (codes "h") Never ∷ calls.WsAttachServer 4 true Never ∷ calls.WsAttachNohttp 4 true true ∷ calls.TermAttach 5 [] ∷ calls.PrefixDetach 5 ∷ []

abbrev pub draw_two : List Call
draw_two = calls.Chmake ∷ calls.Go 1 (Give 1 ∷ []) ∷ []

-- calls that need a link, and those that need a coroutine
abbrev pub need_link : List Call
need_link = calls.TcpListen (place 9) 1 ∷ calls.TcpAccept 3 Never ∷ calls.TcpConnect (place 9) Never ∷ []

abbrev pub need_coroutine : List Call
need_coroutine = calls.Go 0 [] ∷ calls.BundleGo 2 0 [] ∷ []

-- Live handles, kept handles and those that a call draws are 65,536 at most.
pub record HandlesRunOut : Type 0 where
  pub one_left : refused (kept_handles 65530) draw_one ≡ each None draw_one
  pub none_left : refused (kept_handles 65531) draw_one ≡ each (Some Emfile) draw_one
  pub two_left : refused (kept_handles 65529) draw_two ≡ each None draw_two
  pub one_for_two : refused (kept_handles 65530) draw_two ≡ each (Some Emfile) draw_two
  pub none_drawn : refused (kept_handles 65531) draw_none ≡ each None draw_none
  -- a refusal that stands before it, and a cancelled caller: a call that gives a stack up hears of the limit first
  pub busy : refused (kept_handles 65531) (calls.BundleGo 2 1 (Give 2 ∷ []) ∷ []) ≡ Some Ebusy ∷ []
  pub cancelled_maker : refused (cancelled (kept_handles 65531)) (calls.Hmake 256 0 ∷ calls.PrefixAttach 4 2 true ∷ []) ≡ Some Ecanceled ∷ Some Ecanceled ∷ []
  pub cancelled_giver : refused (cancelled (kept_handles 65531)) (calls.PrefixDetach 5 ∷ []) ≡ Some Emfile ∷ []
  pub cancelled_with_room : refused (cancelled (kept_handles 65530)) (calls.PrefixDetach 5 ∷ []) ≡ None ∷ []

-- Numbers of handles end at 2,147,483,647. Links are 4,096 and coroutines 65,536 at most, and their numbers end at 18,446,744,073,709,551,615.
pub record NumbersRunOut : Type 0 where
  pub last_number : refused (last_given 0 2147483646) draw_one ≡ each None draw_one
  pub no_number : refused (last_given 0 2147483647) draw_one ≡ each (Some Emfile) draw_one
  pub kept_number : refused (last_given 1 2147483646) draw_one ≡ each (Some Emfile) draw_one
  pub last_pair : refused (last_given 0 2147483645) draw_two ≡ each None draw_two
  pub one_for_two : refused (last_given 0 2147483646) draw_two ≡ each (Some Emfile) draw_two
  pub none_drawn : refused (last_given 0 2147483647) draw_none ≡ each None draw_none
  pub last_link : refused (kept_links 4092 9) need_link ≡ each None need_link
  pub no_link : refused (kept_links 4093 9) need_link ≡ each (Some Emfile) need_link
  pub last_link_number : refused (kept_links 0 18446744073709551614) need_link ≡ each None need_link
  pub no_link_number : refused (kept_links 0 18446744073709551615) need_link ≡ each (Some Emfile) need_link
  pub kept_link_number : refused (kept_links 1 18446744073709551614) need_link ≡ each (Some Emfile) need_link
  pub no_link_needed : refused (kept_links 4093 9) (calls.Hmake 256 0 ∷ calls.PrefixAttach 4 2 true ∷ need_coroutine) ≡ None ∷ None ∷ None ∷ None ∷ []
  pub last_coroutine : refused (last_made 18446744073709551614) need_coroutine ≡ each None need_coroutine
  pub no_coroutine : refused (last_made 18446744073709551615) need_coroutine ≡ each (Some Emfile) need_coroutine
  pub one_coroutine_left : refused (with_coroutines 65535) need_coroutine ≡ each None need_coroutine
  pub no_coroutine_left : refused (with_coroutines 65536) need_coroutine ≡ each (Some Emfile) need_coroutine
  pub no_coroutine_needed : refused (last_made 18446744073709551615) (calls.Hmake 256 0 ∷ need_link) ≡ None ∷ None ∷ None ∷ None ∷ []

-- a run of `main` where so many handles are kept from the start
abbrev pub nearly_full : ℕ → ℕ → (ℕ → List ℕ → Text) → Run Play ℕ
nearly_full kept steps table =
    let r = begun (first_of (table 0 [])) zeros 0 in
    run_within (playing table) clock true 1000000000 steps (record r { state = record r.state { world = record r.state.world { handles = handles_with kept 0 } } })

abbrev pub makes_too_many : ℕ → List ℕ → Text
makes_too_many program args = plain 0 (Does (calls.Hmake 256 7) ∷ Tries (calls.Hmake 256 0) ∷ Tries (calls.Hown 1) ∷ Tries calls.Chmake ∷ Tries (calls.Go 0 []) ∷ Does (calls.Hquery 1 256) ∷ Does (calls.Hclose 1) ∷ Does (calls.Hmake 256 8) ∷ [])

-- The last handle is had and the next one refused, which changes nothing; there is room again once it is closed.
pub record LastHandle : Type 0 where
  pub run : bytes_eq (nearly_full 65535 40 makes_too_many).out (text (codes "1 start =0" ∷ codes "1 hmake =1" ∷ codes "1 hmake EMFILE" ∷ codes "1 hown EMFILE" ∷ codes "1 chmake EMFILE" ∷ codes "1 go EMFILE" ∷ codes "1 hquery =7" ∷ codes "freed 1" ∷ codes "1 hclose =0" ∷ codes "1 hmake =2" ∷ codes "1 end ok" ∷ codes "freed 2" ∷ codes "summary status=0 errno=none turns=9 rounds=1 closing=0 made=2 gone=2 lacks=0" ∷ [])) ≡ true
  pub kept : (nearly_full 65535 40 makes_too_many).state.world.handles.kept == 65535 ≡ true
