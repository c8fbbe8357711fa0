-- The tries of a round: for each kind of ask the links or calls of which it is due, by number, and which of them is next.
use Rattle.std.specs.Prelude.{ℕ, ◌+◌, ◌==◌, List, [], ◌++◌, map, filter, filter_map, find, Bool, false, not, ◌&&◌, ◌||◌, Option, Some, None, if◌then◌else◌, is_some, nat_lt}
use Rattle.std.specs.List.{list_any}
use Rattle.dill_calls.specs.declared.call.Call.{Call}
use Rattle.dill_calls.specs.declared.call.Call.TheVariants as calls
use Rattle.dill_calls.specs.declared.word.Word.{Word}
use Rattle.dill_calls.specs.CallTable.{word_of, named_by, gives_up}
use Rattle.dill_kernel.specs.declared.replies.KernelAsk.{KernelAsk}
use Rattle.dill_kernel.specs.declared.replies.KernelAsk.TheVariants as asks
use Rattle.dill_stack.specs.Interface.{needs_bytes, offered}
pub use Rattle.dill_stack.specs.Interface.{is_idle}
use Rattle.dill_base.specs.Maps.{if_some, first_some}
use Rattle.dill_scope.specs.Scopes.{is_bundle}
use Rattle.dill_rules.specs.Links.{Link, look, is_listening, is_stream, connector}
use Rattle.dill_rules.specs.World.{World, Place, pending_call}
use Rattle.dill_rules.specs.Directions.{is_receive, is_handshake}
use Rattle.dill_rules.specs.LinkAnswers.{is_tcp_done, is_tcp_close}
use Rattle.dill_rules.specs.Sockets.{link_number}
use Rattle.dill_rules.specs.Giving.{is_connecting_for}
use Rattle.dill_rules.specs.Refusals.{is_accept}

-- An ask that is due: its kind, counted from 1 in the order close, listen, connect, finish, accept, write, shut, read, and the number of its link, or of its coroutine for a listen or connect.
pub record Try : Type 0 where
  pub kind : ℕ
  pub number : ℕ
  pub ask : KernelAsk

-- how many bytes a read asks for
abbrev pub read_size : ℕ
read_size = 4096

-- A receive, a handshake or a call that gives its stack up: the calls that may need bytes.
abbrev pub may_need : Word → Bool
may_need word = is_receive word || (is_handshake word || gives_up word)

-- a call that ends by a `shut`
abbrev pub is_ending_send : Word → Bool
is_ending_send word = is_tcp_done word || is_tcp_close word

-- this try stands behind a place
abbrev pub is_behind : Place → Try → Bool
is_behind place x = nat_lt place.kind x.kind || (place.kind == x.kind && nat_lt place.number x.number)

-- a `shut`
abbrev pub is_shut : Try → Bool
is_shut x = x.kind == 7

module _ {V : Type 0} where
  -- a call of this sort is pending on the link
  abbrev pub is_awaited_on : World V → ℕ → (Word → Bool) → Call → Bool
  is_awaited_on w link sort call = sort (word_of call) && if_some (named_by call) false (λ number. if_some (link_number w number) false (λ n. n == link))

  -- who is pending on the link in a call of this sort
  abbrev pub pending_on : World V → (Word → Bool) → ℕ → Option ℕ
  pending_on w sort link =
      first_some (λ c. if_some (pending_call c.mode) None (λ call. if is_awaited_on w link sort call then Some c.number else None)) w.coroutines

  abbrev pub is_pending_on : World V → (Word → Bool) → ℕ → Bool
  is_pending_on w sort link = is_some (pending_on w sort link)

  -- the links that pass a test, and whose `close` isn't due
  abbrev pub open_links : World V → (Link → Bool) → List Link
  open_links w test = filter (λ x. not x.closing && test x) w.links.all

  -- the number that the next link has
  abbrev pub next_link : World V → ℕ
  next_link w = w.links.last + 1

  -- every link whose `close` is due
  abbrev pub closes : World V → List Try
  closes w = map (λ x. record { kind = 1; number = x.number; ask = asks.Close x.number }) (filter (λ x. x.closing) w.links.all)

  -- every `tcp_listen` that is pending
  abbrev pub listen_of : World V → ℕ → Call → Option Try
  listen_of w who (calls.TcpListen address backlog) = Some (record { kind = 2; number = who; ask = asks.Listen (next_link w) address backlog })
  listen_of w who call = None

  abbrev pub listens : World V → List Try
  listens w = filter_map (λ c. if_some (pending_call c.mode) None (listen_of w c.number)) w.coroutines

  -- every `tcp_connect` that is pending and has no link yet
  abbrev pub connect_of : World V → ℕ → Call → Option Try
  connect_of w who (calls.TcpConnect address deadline) =
      if list_any (is_connecting_for who) w.links.all then None else Some (record { kind = 3; number = who; ask = asks.Connect (next_link w) address })
  connect_of w who call = None

  abbrev pub connects : World V → List Try
  connects w = filter_map (λ c. if_some (pending_call c.mode) None (connect_of w c.number)) w.coroutines

  -- every connecting link that is write-hot
  abbrev pub finishes : World V → List Try
  finishes w = map (λ x. record { kind = 4; number = x.number; ask = asks.Finish x.number }) (open_links w (λ x. is_some (connector x.sort) && x.write_hot))

  -- every read-hot listener with a pending `tcp_accept`
  abbrev pub accepts : World V → List Try
  accepts w = map (λ x. record { kind = 5; number = x.number; ask = asks.Accept x.number (next_link w) })
      (open_links w (λ x. is_listening x.sort && (x.read_hot && is_pending_on w is_accept x.number)))

  -- every write-hot link with something queued
  abbrev pub writes : World V → List Try
  writes w = map (λ x. record { kind = 6; number = x.number; ask = asks.Write x.number (offered x.stack) })
      (open_links w (λ x. is_stream x.sort && (x.write_hot && not (is_idle x.stack))))

  -- every link whose `shut` wasn't made, with a pending `tcp_done` or `tcp_close` and nothing queued
  abbrev pub shuts : World V → List Try
  shuts w = map (λ x. record { kind = 7; number = x.number; ask = asks.Shut x.number })
      (open_links w (λ x. is_stream x.sort && (not x.shut && (is_idle x.stack && is_pending_on w is_ending_send x.number))))

  -- bytes may come that a pending call needs
  abbrev pub is_needy : World V → Link → Bool
  is_needy w x = needs_bytes x.stack && is_pending_on w may_need x.number

  -- every read-hot link that isn't ended or broken, whose pending call needs bytes
  abbrev pub reads : World V → List Try
  reads w = map (λ x. record { kind = 8; number = x.number; ask = asks.Read x.number read_size })
      (open_links w (λ x. is_stream x.sort && (x.read_hot && (not x.stack.receiving.done && (not x.stack.receiving.broken && is_needy w x)))))

  -- all tries, each kind by number
  abbrev pub tries : World V → List Try
  tries w = closes w ++ listens w ++ connects w ++ finishes w ++ accepts w ++ writes w ++ shuts w ++ reads w

  -- the root is closing
  abbrev pub is_stopped : World V → Bool
  is_stopped w = if_some (find (is_bundle 0) w.scopes.bundles) false (λ x. x.closing)

  -- what may still be asked: closes alone once `main` has ended, and nothing from a stop until then
  abbrev pub tries_now : World V → List Try
  tries_now w = if is_some w.ended then closes w else (if is_stopped w then [] else tries w)

  -- a link had its `write` in this round
  abbrev pub had_write : World V → ℕ → Bool
  had_write w number = if_some (look w.links number) false (λ x. x.wrote)

  -- behind the place in the round, and no `shut` of a link that had its `write`
  abbrev pub is_next : World V → Try → Bool
  is_next w x = is_behind w.place x && not (is_shut x && had_write w x.number)

  abbrev pub next_try : World V → Option Try
  next_try w = find (is_next w) (tries_now w)
