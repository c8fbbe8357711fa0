-- The refusals at entry: a condition for each errno, and the one order in which they are tried.
use Rattle.std.specs.Prelude.{ℕ, ◌+◌, ◌==◌, List, [], ◌∷◌, length, find, Bool, true, false, not, ◌&&◌, ◌||◌, Option, if◌then◌else◌, nat_lt, nat_le}
use Rattle.std.specs.List.{list_any}
use Rattle.dill_base.specs.declared.errno.Errno.{Errno}
use Rattle.dill_base.specs.declared.errno.Errno.TheVariants as errnos
use Rattle.dill_calls.specs.declared.call.Call.{Call}
use Rattle.dill_calls.specs.declared.call.Call.TheVariants as calls
use Rattle.dill_calls.specs.declared.lists.Clause.{Clause}
use Rattle.dill_calls.specs.declared.lists.Clause.TheVariants as clauses
use Rattle.dill_calls.specs.declared.word.Word.{Word}
use Rattle.dill_calls.specs.declared.word.Word.TheVariants as words
use Rattle.dill_calls.specs.CallTable.{word_of, blocks, makes, gives_up, named_by}
use Rattle.dill_calls.specs.Program.{Program}
use Rattle.dill_handles.specs.Handles as handles
use Rattle.dill_scope.specs.Scopes as scopes
use Rattle.dill_base.specs.Maps.{if_some}
use Rattle.dill_rules.specs.World.{World}
use Rattle.dill_rules.specs.Naming.{gifts_of, draws_of, bears, links}
use Rattle.dill_rules.specs.Directions.{is_send, is_receive}
use Rattle.dill_rules.specs.Sockets.{stack_of, faults_by}
use Rattle.dill_rules.specs.Owning.{entry_of}
use Rattle.dill_rules.specs.Kinds.{names_dead, names_other}
use Rattle.dill_rules.specs.Taking.{is_on, is_pending, is_cancelled, is_leaving, takes_anothers, bundle_named, cannot_take, is_occupied}
use Rattle.dill_rules.specs.Naming.{taken_by}

-- the most bytes of a message, of an item of a channel and of a receive
abbrev pub most_bytes : ℕ
most_bytes = 1048576

-- the place of an errno among those that a stack refuses with
abbrev pub place_of : Errno → ℕ
place_of errnos.Einval = 1
place_of errnos.Ebusy = 2
place_of errnos.Epipe = 3
place_of errnos.Econnreset = 4
place_of errnos.Emsgsize = 5
place_of _ = 0

abbrev pub is_same : Errno → Errno → Bool
is_same e f = nat_lt 0 (place_of e) && place_of e == place_of f

abbrev pub is_accept : Word → Bool
is_accept words.TcpAccept = true
is_accept _ = false

-- a number stands twice in the list
abbrev pub has_twice : List ℕ → Bool
has_twice [] = false
has_twice (n ∷ ns) = list_any (λ m. m == n) ns || has_twice ns

-- a clause of a size over the limit
abbrev pub is_over_limit : Clause → Bool
is_over_limit (clauses.Send number bytes) = nat_lt most_bytes (length bytes)
is_over_limit (clauses.Recv number size) = nat_lt most_bytes size

-- a child of this program, whose gifts are each given once
abbrev pub can_bear : {V : Type 0} → Program V → V → ℕ → ℕ → List ℕ → Bool
can_bear p view program count given = p.knows view program count && not (has_twice given)

-- EINVAL: an argument outside its range
abbrev pub is_invalid : {V : Type 0} → Program V → V → Call → Bool
is_invalid p view (calls.Hmake kind value) = nat_lt kind 256 || nat_lt 4294967295 kind
is_invalid p view (calls.Go program args) = not (can_bear p view program (length args) (gifts_of args))
is_invalid p view (calls.BundleGo number program args) = not (can_bear p view program (length args) (gifts_of args))
is_invalid p view (calls.Chsend number bytes deadline) = nat_lt most_bytes (length bytes)
is_invalid p view (calls.Chrecv number size deadline) = nat_lt most_bytes size
is_invalid p view (calls.Choose deadline all) = length all == 0 || (nat_lt 16 (length all) || list_any is_over_limit all)
is_invalid p view (calls.TcpListen address backlog) = nat_lt backlog 1 || nat_lt 4096 backlog
is_invalid p view _ = false

module _ {V : Type 0} where
  -- ECANCELED: a cancelled caller blocks, or makes, or takes what is another's
  abbrev pub is_called_off : World V → ℕ → Call → Bool
  is_called_off w who call = is_cancelled w who && (blocks (word_of call) || (makes (word_of call) || takes_anothers w who call))

  -- a bundle whose owner is cancelled or ending takes no child
  abbrev pub is_closed_to : World V → ℕ → Bool
  is_closed_to w number = if_some (entry_of w number) false (λ x. is_leaving w x.owner)

  -- who is inside a bundle doesn't wait for it
  abbrev pub waits_inside : World V → ℕ → ℕ → Bool
  waits_inside w who number = if_some (bundle_named w number) false (λ name. scopes.is_inside w.scopes name who)

  -- the bundle is closed to the call
  abbrev pub is_closed_bundle : World V → ℕ → Call → Bool
  is_closed_bundle w who (calls.BundleGo number program args) = is_closed_to w number
  is_closed_bundle w who (calls.BundleWait number deadline) = waits_inside w who number
  is_closed_bundle w who _ = false

  -- one of the sort is pending on the number
  abbrev pub is_second : World V → ℕ → (Word → Bool) → Bool
  is_second w number sort = is_pending w (λ call. sort (word_of call) && is_on number call)

  -- the direction that the call uses is in use: a send, a receive or an accept is pending
  abbrev pub is_in_use : World V → Call → Bool
  is_in_use w call = if_some (named_by call) false (λ number. (is_send (word_of call) && is_second w number is_send)
      || ((is_receive (word_of call) && is_second w number is_receive) || (is_accept (word_of call) && is_second w number is_accept)))

  -- EBUSY: a handle may not be taken, or is occupied, or a direction is in use, or the bundle is closed to the call
  abbrev pub is_busy : World V → ℕ → Call → Bool
  is_busy w who call = list_any (cannot_take w who call) (taken_by call) || (is_occupied w call || (is_in_use w call || is_closed_bundle w who call))

  -- the stack of the call refuses it so
  abbrev pub is_refused_by_stack : World V → Call → Errno → Bool
  is_refused_by_stack w call e = if_some (stack_of w call) false (λ s. list_any (is_same e) (faults_by call (is_in_use w call) s))

  -- neither a coroutine nor a number for one is left
  abbrev pub has_no_coroutine : World V → Bool
  has_no_coroutine w = nat_le 65536 (length w.coroutines) || nat_le 18446744073709551615 w.last_coroutine

  -- neither a link nor a number for one is left
  abbrev pub has_no_link : World V → Bool
  has_no_link w = nat_le 4096 (length w.links.all + w.links.kept) || nat_le 18446744073709551615 (w.links.last + w.links.kept)

  -- EMFILE: too few handles or numbers, or no coroutine or no link is left
  abbrev pub is_short : World V → Call → Bool
  is_short w call = not (handles.has_room w.handles (draws_of call)) || ((bears (word_of call) && has_no_coroutine w) || (links (word_of call) && has_no_link w))

  -- the condition of an errno, but for what a stack refuses
  abbrev pub holds_of_itself : Program V → World V → ℕ → V → Call → Errno → Bool
  holds_of_itself p w who view call errnos.Ecanceled = is_called_off w who call
  holds_of_itself p w who view call errnos.Ebadf = names_dead w call
  holds_of_itself p w who view call errnos.Enotsup = names_other w call
  holds_of_itself p w who view call errnos.Einval = is_invalid p view call
  holds_of_itself p w who view call errnos.Ebusy = is_busy w who call
  holds_of_itself p w who view call errnos.Emfile = is_short w call
  holds_of_itself p w who view call _ = false

  -- the condition of an errno
  abbrev pub holds : Program V → World V → ℕ → V → Call → Errno → Bool
  holds p w who view call e = holds_of_itself p w who view call e || is_refused_by_stack w call e

-- the order of refusals; want of memory is the last
abbrev pub order : List Errno
order = errnos.Ecanceled ∷ errnos.Ebadf ∷ errnos.Enotsup ∷ errnos.Einval ∷ errnos.Ebusy ∷ errnos.Epipe ∷ errnos.Econnreset ∷ errnos.Emsgsize ∷ errnos.Emfile ∷ []

-- the order of a call that gives a stack up, before it does
abbrev pub giving_order : List Errno
giving_order = errnos.Ebadf ∷ errnos.Enotsup ∷ errnos.Einval ∷ errnos.Ebusy ∷ errnos.Emfile ∷ []

abbrev pub order_of : Call → List Errno
order_of call = if gives_up (word_of call) then giving_order else order

-- the first errno of the order whose condition holds
abbrev pub refuse : {V : Type 0} → Program V → World V → ℕ → V → Call → Option Errno
refuse p w who view call = find (holds p w who view call) (order_of call)
