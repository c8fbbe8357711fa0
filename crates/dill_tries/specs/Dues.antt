-- The asks that are due, kind by kind: each as the rules' try that it is, and which tries are looked for.
use Rattle.std.specs.Prelude.{ℕ, List, [], ◌∷◌, map, filter, filter_map, Bool, true, false, not, ◌&&◌, ◌||◌, ◌==◌, Option, Some, None, is_some, nat_lt, find, if◌then◌else◌}
use Rattle.dill_base.specs.Maps.{if_some, first_some}
use Rattle.std.specs.List.{list_any}
use Rattle.dill_calls.specs.declared.call.Call.{Call}
use Rattle.dill_calls.specs.declared.call.Call.TheVariants as calls
use Rattle.dill_calls.specs.declared.word.Word.{Word}
use Rattle.dill_kernel.specs.declared.replies.KernelAsk.{KernelAsk}
use Rattle.dill_kernel.specs.declared.replies.KernelAsk.TheVariants as asks
use Rattle.dill_stack.specs.Interface.{offered, is_idle}
use Rattle.dill_rules.specs.declared.coroutine.Coroutine.{Coroutine}
use Rattle.dill_rules.specs.declared.coroutine.Mode.{Mode}
use Rattle.dill_rules.specs.World.{World, Place, pending_call}
use Rattle.dill_rules.specs.Links.{Link, is_listening, is_stream, connector}
use Rattle.dill_rules.specs.Refusals.{is_accept}
use Rattle.dill_rules.specs.Giving.{is_connecting_for}
use Rattle.dill_rules.specs.Trying.{Try, read_size, had_write, next_link, is_awaited_on, is_pending_on, is_needy, listen_of, connect_of, may_need, is_ending_send}
use Rattle.dill_tries.specs.declared.due.Due.{Due}
use Rattle.dill_tries.specs.declared.due.Due.TheVariants as dues
use Rattle.dill_tries.specs.declared.kind.Kind.{Kind}
use Rattle.dill_tries.specs.declared.kind.Kind.TheVariants as kinds
use Rattle.dill_tries.specs.declared.pending.Sort.{Sort}
use Rattle.dill_tries.specs.declared.pending.Sort.TheVariants as sorts

abbrev pub number_of : Kind → ℕ
number_of kinds.Close = 1
number_of kinds.Listen = 2
number_of kinds.Connect = 3
number_of kinds.Finish = 4
number_of kinds.Accept = 5
number_of kinds.Write = 6
number_of kinds.Shut = 7
number_of kinds.Read = 8

-- in the order of a round
abbrev pub all_kinds : List Kind
all_kinds = kinds.Close ∷ kinds.Listen ∷ kinds.Connect ∷ kinds.Finish ∷ kinds.Accept ∷ kinds.Write ∷ kinds.Shut ∷ kinds.Read ∷ []

-- the calls of a sort
abbrev pub sort_of : Sort → Word → Bool
sort_of sorts.Accepts = is_accept
sort_of sorts.Ends = is_ending_send
sort_of sorts.Needs = may_need

-- the try that it is, where the next link has this number
abbrev pub try_of : ℕ → Due → Try
try_of next (dues.Close link) = record { kind = 1; number = link; ask = asks.Close link }
try_of next (dues.Listen who address backlog) = record { kind = 2; number = who; ask = asks.Listen next address backlog }
try_of next (dues.Connect who address) = record { kind = 3; number = who; ask = asks.Connect next address }
try_of next (dues.Finish link) = record { kind = 4; number = link; ask = asks.Finish link }
try_of next (dues.Accept link) = record { kind = 5; number = link; ask = asks.Accept link next }
try_of next (dues.Write link bytes) = record { kind = 6; number = link; ask = asks.Write link bytes.now }
try_of next (dues.Shut link) = record { kind = 7; number = link; ask = asks.Shut link }
try_of next (dues.Read link) = record { kind = 8; number = link; ask = asks.Read link read_size }

-- a kind of asks on links that are there
abbrev pub of_links : Kind → Bool
of_links kinds.Listen = false
of_links kinds.Connect = false
of_links kind = true

-- the ask of this kind on a link
abbrev pub ask_on : ℕ → Kind → Link → KernelAsk
ask_on next kinds.Finish x = asks.Finish x.number
ask_on next kinds.Accept x = asks.Accept x.number next
ask_on next kinds.Write x = asks.Write x.number (offered x.stack)
ask_on next kinds.Shut x = asks.Shut x.number
ask_on next kinds.Read x = asks.Read x.number read_size
ask_on next kind x = asks.Close x.number

abbrev pub try_on : ℕ → Kind → Link → Try
try_on next kind x = record { kind = number_of kind; number = x.number; ask = ask_on next kind x }

module _ {V : Type 0} where
  -- who stands there is pending on the link in a call of this sort
  abbrev pub awaits : World V → ℕ → (Word → Bool) → Mode → Bool
  awaits w link sort mode = if_some (pending_call mode) false (is_awaited_on w link sort)

  -- an ask of this kind is due of a link
  abbrev pub is_due : World V → Kind → Link → Bool
  is_due w kinds.Close x = x.closing
  is_due w kinds.Finish x = not x.closing && (is_some (connector x.sort) && x.write_hot)
  is_due w kinds.Accept x = not x.closing && (is_listening x.sort && (x.read_hot && is_pending_on w is_accept x.number))
  is_due w kinds.Write x = not x.closing && (is_stream x.sort && (x.write_hot && not (is_idle x.stack)))
  is_due w kinds.Shut x = not x.closing && (is_stream x.sort && (not x.shut && (is_idle x.stack && is_pending_on w is_ending_send x.number)))
  is_due w kinds.Read x = not x.closing && (is_stream x.sort && (x.read_hot && (not x.stack.receiving.done && (not x.stack.receiving.broken && is_needy w x))))
  is_due w kind x = false

  -- the try of this kind that a pending call is
  abbrev pub made_by : World V → Kind → ℕ → Call → Option Try
  made_by w kinds.Listen = listen_of w
  made_by w kinds.Connect = connect_of w
  made_by w kind = λ who call. None

  -- the try of this kind that a coroutine has
  abbrev pub made_of : World V → Kind → Coroutine V → Option Try
  made_of w kind c = if_some (pending_call c.mode) None (made_by w kind c.number)

  -- the ask of this kind that a pending call is
  abbrev pub due_by : World V → Kind → ℕ → Call → Option Due
  due_by w kinds.Listen who (calls.TcpListen address backlog) = Some (dues.Listen who address backlog)
  due_by w kinds.Connect who (calls.TcpConnect address deadline) = if list_any (is_connecting_for who) w.links.all then None else Some (dues.Connect who address)
  due_by w kind who call = None

  -- the ask of this kind that a coroutine waits for
  abbrev pub due_in : World V → Kind → Coroutine V → Option Due
  due_in w kind c = if_some (pending_call c.mode) None (due_by w kind c.number)

  abbrev pub tries_on : World V → Kind → List Try
  tries_on w kind = map (try_on (next_link w) kind) (filter (is_due w kind) w.links.all)

  abbrev pub tries_made : World V → Kind → List Try
  tries_made w kind = filter_map (made_of w kind) w.coroutines

  -- all tries of this kind, by number
  abbrev pub tries_of : World V → Kind → List Try
  tries_of w kind = if of_links kind then tries_on w kind else tries_made w kind

  -- a try of this kind and number: behind a place, and where the marks of this round count, no `shut` of a link that had its `write`
  abbrev pub is_sought : World V → Place → Bool → (kind number : ℕ) → Bool
  is_sought w place marks kind number =
      (nat_lt place.kind kind || (place.kind == kind && nat_lt place.number number)) && not (kind == 7 && (marks && had_write w number))

  -- it is looked for
  abbrev pub sought_in : World V → Place → Bool → Kind → Coroutine V → Option Due
  sought_in w place marks kind c = if_some (due_in w kind c) None (λ d. if is_sought w place marks (number_of kind) c.number then Some d else None)

  abbrev pub is_sought_try : World V → Place → Bool → Try → Bool
  is_sought_try w place marks x = is_sought w place marks x.kind x.number

  -- the first try of these kinds that is looked for
  abbrev pub first_of : World V → Place → Bool → List Kind → Option Try
  first_of w place marks kinds = first_some (λ k. find (is_sought_try w place marks) (tries_of w k)) kinds
