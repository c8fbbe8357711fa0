-- What isn't stored of a state and yet belongs to it: all that came and went on each link, and how much its calls needed at most.
use Rattle.std.specs.Prelude.{ℕ, ◌==◌, List, [], ◌++◌, fold, map, filter, filter_map, take, false, not, ◌&&◌, Option, if◌then◌else◌, is_some, is_none, max}
use Rattle.std.specs.List.{list_any}
use Rattle.dill_calls.specs.declared.call.Call.{Call}
use Rattle.dill_calls.specs.declared.ran.LackPlace.{LackPlace}
use Rattle.dill_calls.specs.CallTable.{word_of, named_by}
use Rattle.dill_calls.specs.Program.{Program, Move, Calls, Ends}
use Rattle.dill_kernel.specs.declared.ready.Ready.{Ready}
use Rattle.dill_kernel.specs.declared.replies.KernelAsk.{KernelAsk}
use Rattle.dill_kernel.specs.declared.replies.KernelAsk.TheVariants as asks
use Rattle.dill_kernel.specs.declared.replies.KernelReply.{KernelReply}
use Rattle.dill_kernel.specs.declared.replies.KernelReply.TheVariants as replies
use Rattle.rand_core.specs.Stream.{Stream}
use Rattle.dill_stack.specs.Dropping.{drop_limit}
use Rattle.dill_stack.specs.Interface.{Held, need, head_need, parting_need, closing_need, limit_of_want}
use Rattle.dill_base.specs.Maps.{if_some}
use Rattle.dill_rules.specs.Links.{Link}
use Rattle.dill_rules.specs.World.{World, coroutine_of, pending_call}
use Rattle.dill_rules.specs.Directions.{asked, parting_of, is_handshake}
use Rattle.dill_rules.specs.Sockets.{link_number}
use Rattle.dill_rules.specs.Entering.{entered}
use Rattle.dill_rules.specs.Refusals.{refuse}
use Rattle.dill_rules.specs.Turning.{move_of, resume, lack_met}
use Rattle.dill_rules.specs.Trying.{may_need, next_try}
use Rattle.dill_rules.specs.Hearing.{fitting}
use Rattle.dill_rules.specs.State.{State, opening_state, next_turn, turned, expired, shut, hear, woke}

-- Of a link, from its making on: all that came, all that was sent, the greatest need of the calls that were pending on it, and the greatest limit of these and of its receives that were answered at their entry.
pub record Traffic : Type 0 where
  pub link : ℕ
  pub came : List ℕ
  pub sent : List ℕ
  pub most_need : ℕ
  pub most_limit : ℕ

-- a state with the traffic of every link that was made, by rising number
pub record Traced (V : Type 0) : Type 0 where
  pub state : State V
  pub traffic : List Traffic

abbrev pub no_traffic : ℕ → Traffic
no_traffic link = record { link = link; came = []; sent = []; most_need = 0; most_limit = 0 }

-- how many unread bytes a pending call needs at most: a receive by its want, a handshake a head, a detach an item that it drops
abbrev pub need_of : Call → Held → ℕ
need_of call s = if_some (asked call) (if is_handshake (word_of call) then head_need else (if is_some (parting_of call) then parting_need else closing_need)) (λ want. need want s)

-- the limit of a receive, or of what a detach drops
abbrev pub limit_of : Call → ℕ
limit_of call = if_some (asked call) (if is_some (parting_of call) then drop_limit else 0) limit_of_want

-- a call needs so much at most
abbrev pub raised : ℕ → ℕ → Traffic → Traffic
raised most limit t = record t { most_need = max t.most_need most; most_limit = max t.most_limit limit }

-- what moved by an ask and its reply
abbrev pub moved_by : KernelAsk → KernelReply → Traffic → Traffic
moved_by (asks.Read link size) (replies.Came bytes) t = if link == t.link then record t { came = t.came ++ bytes } else t
moved_by (asks.Write link bytes) (replies.Took count) t = if link == t.link then record t { sent = t.sent ++ take count bytes } else t
moved_by ask said t = t

module _ {V : Type 0} where
  -- the calls that are pending on a link and may need bytes
  abbrev pub calls_on : World V → ℕ → List Call
  calls_on w link =
      filter (λ call. may_need (word_of call) && if_some (named_by call) false (λ number. if_some (link_number w number) false (λ n. n == link)))
      (filter_map (λ c. pending_call c.mode) w.coroutines)

  -- the traffic of a link with what its pending calls need
  abbrev pub watched : World V → Link → Traffic → Traffic
  watched w x t = fold (λ now call. raised (need_of call x.stack) (limit_of call) now) t (calls_on w x.number)

  abbrev pub watch_one : World V → Traffic → Traffic
  watch_one w t = fold (λ now x. if x.number == now.link then watched w x now else now) t w.links.all

  -- the links that were made in this step
  abbrev pub made_now : World V → List Traffic → List Traffic
  made_now w known = map (λ x. no_traffic x.number) (filter (λ x. not (list_any (λ t. t.link == x.number) known)) w.links.all)

  -- a state after a step
  abbrev pub traced : State V → List Traffic → Traced V
  traced s known = record { state = s; traffic = map (watch_one s.world) (known ++ made_now s.world known) }

  abbrev pub opening_traced : V → Stream → Traced V
  opening_traced view random = record { state = opening_state view random; traffic = [] }

  -- the limit of a receive that is entered counts, whether it is answered at once or not
  abbrev pub count_entry : World V → Call → List Traffic → List Traffic
  count_entry w call known = if_some (asked call) known (λ want. if_some (named_by call) known (λ number. if_some (link_number w number) known
      (λ link. map (λ t. if t.link == link then raised 0 (limit_of_want want) t else t) known)))

  -- the receive that a turn enters past its refusals
  abbrev pub entry_counted : Program V → Option LackPlace → World V → ℕ → V → V × Move → List Traffic → List Traffic
  entry_counted p lack w who view (next, Calls call) known =
      if is_none (lack_met p lack w who view) && is_none (refuse p (resume w who next) who next (entered w.moment call)) then count_entry w call known else known
  entry_counted p lack w who view (next, Ends outcome) known = known

  abbrev pub turn_counted : Program V → Option LackPlace → State V → List Traffic → List Traffic
  turn_counted p lack s known =
      if_some (next_turn s) known (λ who. if_some (coroutine_of s.world who) known (λ c. entry_counted p lack s.world who c.body (move_of p s.world who c.body) known))

  -- the steps, with the traffic
  abbrev pub turned_traced : Program V → Option LackPlace → Traced V → Traced V
  turned_traced p lack t = traced (turned p lack t.state) (turn_counted p lack t.state t.traffic)

  abbrev pub heard_traced : Option KernelReply → Traced V → Traced V
  heard_traced said t = if_some (next_try t.state.world) t (λ x. traced (hear t.state said) (map (moved_by x.ask (fitting x.ask said)) t.traffic))

  abbrev pub expired_traced : Traced V → Traced V
  expired_traced t = traced (expired t.state) t.traffic

  abbrev pub shut_traced : Traced V → Traced V
  shut_traced t = traced (shut t.state) t.traffic

  -- a wait moves nothing
  abbrev pub woke_traced : ℕ → List Ready → Traced V → Traced V
  woke_traced told ready t = record t { state = woke t.state told ready }
