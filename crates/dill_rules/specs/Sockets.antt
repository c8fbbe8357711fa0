-- The link and the stack that a live number names, and what the stack refuses of a call.
use Rattle.std.specs.Prelude.{ℕ, List, [], ◌++◌, Bool, false, Option, Some, None, option_map, option_to_list, if◌then◌else◌}
use Rattle.dill_base.specs.declared.errno.Errno.{Errno}
use Rattle.dill_calls.specs.declared.call.Call.{Call}
use Rattle.dill_calls.specs.declared.call.Call.TheVariants as calls
use Rattle.dill_calls.specs.CallTable.{word_of, named_by}
use Rattle.dill_http.specs.Writing.{fault_of}
use Rattle.dill_stack.specs.Interface.{Held, send_fault, line_fault, done_fault, read_fault, attach_fault, detach_fault}
use Rattle.dill_stack.specs.Attaching.{greet_fault}
use Rattle.dill_stack.specs.Greeting.{offer_fault}
use Rattle.dill_base.specs.Maps.{if_some}
use Rattle.dill_rules.specs.declared.thing.Thing.{Thing}
use Rattle.dill_rules.specs.declared.thing.Thing.TheVariants as things
use Rattle.dill_rules.specs.Links.{Link, look, change_link, with_stack}
use Rattle.dill_rules.specs.World.{World}
use Rattle.dill_rules.specs.Owning.{entry_of}
use Rattle.dill_rules.specs.Directions.{message_of, line_said, is_first, is_end, asked, layer_of, parting_of}

-- the link of a listener or of a socket
abbrev pub link_of : Thing → Option ℕ
link_of (things.Listener link) = Some link
link_of (things.Socket link) = Some link
link_of thing = None

-- what a stack refuses of a handshake: a head that can't be written, a direction that is done or broken
abbrev pub handshake_fault : Call → Held → Option Errno
handshake_fault (calls.WsAttachClient number text resource host deadline) s = offer_fault resource host s
handshake_fault (calls.WsAttachServer number text deadline) s = greet_fault false false s
handshake_fault call s = None

-- what a stack refuses of a call, where its direction is in use or not
abbrev pub faults_by : Call → Bool → Held → List Errno
faults_by call busy s =
    if_some (message_of call) [] (λ m. option_to_list (send_fault m busy s))
    ++ if_some (line_said call) [] (λ said. option_to_list (line_fault (is_first said) busy s) ++ option_to_list (fault_of said))
    ++ if_some (asked call) [] (λ want. option_to_list (read_fault want busy s))
    ++ if_some (layer_of call) [] (λ layer. option_to_list (attach_fault layer false s))
    ++ if_some (parting_of call) [] (λ parting. option_to_list (detach_fault parting false s))
    ++ option_to_list (handshake_fault call s)
    ++ (if is_end (word_of call) then option_to_list (done_fault busy s) else [])

module _ {V : Type 0} where
  -- the number of the link that a live number names
  abbrev pub link_number : World V → ℕ → Option ℕ
  link_number w number = if_some (entry_of w number) None (λ x. link_of x.thing)

  -- the link that a live number names
  abbrev pub link_named : World V → ℕ → Option Link
  link_named w number = if_some (link_number w number) None (look w.links)

  -- the stack that a call is on
  abbrev pub stack_of : World V → Call → Option Held
  stack_of w call = if_some (named_by call) None (λ number. option_map (λ x. x.stack) (link_named w number))

  -- a link is changed
  abbrev pub on_link : World V → ℕ → (Link → Link) → World V
  on_link w link f = record w { links = change_link w.links link f }

  -- the link that a live number names is changed
  abbrev pub on_named : World V → ℕ → (Link → Link) → World V
  on_named w number f = if_some (link_number w number) w (λ link. on_link w link f)

  -- the stack that a live number names is another
  abbrev pub put_stack : World V → ℕ → Held → World V
  put_stack w number s = on_named w number (with_stack (λ old. s))
