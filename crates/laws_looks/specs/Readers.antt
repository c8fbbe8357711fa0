-- Who looks at stacks: at most one pending call at each, and at most one number names it.
use Rattle.std.specs.Prelude.{◌≡◌, ◌⊎◌, ℕ, ◌==◌, ◌<◌, ◌≤◌, List, [], ◌∷◌, Bool, true, false, ◌&&◌, Option, Some, is_none, nat_le, filter_map}
use Rattle.rand_core.specs.Stream.{Stream}
use Rattle.dill_base.specs.Maps.{if_some}
use Rattle.dill_calls.specs.declared.call.Call.{Call}
use Rattle.dill_calls.specs.declared.ran.LackPlace.{LackPlace}
use Rattle.dill_calls.specs.CallTable.{word_of, named_by}
use Rattle.dill_calls.specs.Program.{Program}
use Rattle.dill_kernel.specs.declared.replies.KernelReply.{KernelReply}
use Rattle.dill_rules.specs.declared.coroutine.Coroutine.{Coroutine}
use Rattle.dill_rules.specs.World.{World, pending_call, opening}
use Rattle.dill_rules.specs.Links.{Link, Links, look, connector}
use Rattle.dill_rules.specs.Sockets.{link_of, link_number}
use Rattle.dill_rules.specs.Directions.{is_send, is_receive}
use Rattle.dill_rules.specs.LinkAnswers.{reads}
use Rattle.dill_rules.specs.Trying.{Try}
use Rattle.dill_rules.specs.Hearing.{heard}
use Rattle.dill_rules.specs.Expiring.{expire_one}
use Rattle.dill_rules.specs.Settling.{IsSettled, settle, pass_all}
use Rattle.dill_rules.specs.Turning.{turn}
use Rattle.dill_rules.specs.State.{State}
use Rattle.laws_queue.specs.Well.{bit, Numbered, occurs}
use Rattle.laws_sound.specs.Numbers.{Event, event}

-- the record stands in the list
abbrev pub In : {X : Type 0} → X → List X → Type 0
In x [] = ⊥
In x (y ∷ ys) = (x ≡ y) ⊎ In x ys

-- a call that looks at the stack of this number
abbrev pub reads_on : ℕ → Call → Bool
reads_on number call = reads call && if_some (named_by call) false (λ n. n == number)

-- the numbers of the links rise, each above the first bound and none above the second
abbrev pub Rising : ℕ → List Link → ℕ → Type 0
Rising low [] high = low ≤ high
Rising low (x ∷ xs) high = (low < x.number) × Rising x.number xs high

-- a live number may name the link: it was made, and isn't connecting
abbrev pub may_name : Links → ℕ → Bool
may_name l n = nat_le n l.last && if_some (look l n) true (λ x. is_none (connector x.sort))

module _ {V : Type 0} where
  -- a coroutine of this number is pending in the call
  pub record PendsIn (cs : List (Coroutine V)) (who : ℕ) (call : Call) : Type 0 where
    pub one : Coroutine V
    pub there : In one cs
    pub number : one.number ≡ who
    pub mode : pending_call one.mode ≡ Some call

  abbrev pub Pends : World V → ℕ → Call → Type 0
  Pends w who call = PendsIn w.coroutines who call

  -- one pending call at most looks at a stack
  abbrev pub OneReader : World V → Type 0
  OneReader w = (number who other : ℕ) (call more : Call) → Pends w who call → Pends w other more → reads_on number call ≡ true → reads_on number more ≡ true → who ≡ other

  -- where a send is pending, none but a receive looks
  abbrev pub SendsApart : World V → Type 0
  SendsApart w = (number who other : ℕ) (call more : Call) → Pends w who call → Pends w other more → is_send (word_of call) ≡ true → named_by call ≡ Some number → reads_on number more ≡ true → is_receive (word_of more) ≡ true

  -- no two live numbers name one link
  abbrev pub NamedOnce : World V → Type 0
  NamedOnce w = (number other link : ℕ) → link_number w number ≡ Some link → link_number w other ≡ Some link → number ≡ other

  -- how many live numbers name the link
  abbrev pub times_linked : World V → ℕ → ℕ
  times_linked w link = occurs link (filter_map (λ x. link_of x.thing) w.handles.entries)

  -- At most one pending call looks at a stack, and only a receive where a send is pending; links have rising numbers, and
  -- at most one live number names each, but none names one that isn't made or is connecting.
  pub record LooksApart (w : World V) : Type 0 where
    pub readers : OneReader w
    pub sends : SendsApart w
    pub rising : Rising 0 w.links.all w.links.last
    pub named : (link : ℕ) → times_linked w link ≤ bit (may_name w.links link)

-- nothing is due behind the looks, and a second round of looks changes nothing
pub record LooksSettle (V : Type 0) : Type 0 where
  pub settled : (w : World V) → Numbered 0 w.coroutines w.last_coroutine → LooksApart w → IsSettled w → IsSettled (pass_all w)
  pub again : (w : World V) → Numbered 0 w.coroutines w.last_coroutine → LooksApart w → IsSettled w → pass_all (pass_all w) ≡ pass_all w

-- so it is of each program, whatever it calls and whatever the kernel replies
pub record KeepsApart {V : Type 0} (p : Program V) : Type 0 where
  pub once : (w : World V) → LooksApart w → NamedOnce w
  pub opening : (view : V) (random : Stream) → LooksApart (opening view random)
  pub turned : (lack : Option LackPlace) (w : World V) (who : ℕ) → LooksApart w → LooksApart (turn p lack w who)
  pub heard : (w : World V) (x : Try) (said : Option KernelReply) → LooksApart w → LooksApart (settle (heard w x said))
  pub expired : (w : World V) (who : ℕ) → LooksApart w → LooksApart (expire_one w who)
  pub settled : (w : World V) → LooksApart w → LooksApart (settle w)
  pub stepped : (s : State V) (x : Event) → LooksApart s.world → LooksApart (event p s x).world
