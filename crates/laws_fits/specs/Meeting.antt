-- What is asked of a core where it makes calls on stacks, keeps links and gives numbers, and that it is so between two steps.
use Rattle.std.specs.Prelude.{◌≡◌, ℕ, ◌≤◌, List, length, Bool, true, false, ◌||◌, Option, Some, None, is_some}
use Rattle.dill_base.specs.Maps.{if_some}
use Rattle.dill_calls.specs.declared.call.Call.{Call}
use Rattle.dill_calls.specs.declared.ran.LackPlace.{LackPlace}
use Rattle.dill_calls.specs.CallTable.{word_of, named_by}
use Rattle.dill_calls.specs.CallTable as table
use Rattle.dill_calls.specs.Program.{Program}
use Rattle.dill_kernel.specs.declared.replies.KernelAsk.{KernelAsk}
use Rattle.dill_kernel.specs.declared.replies.KernelAsk.TheVariants as asks
use Rattle.dill_kernel.specs.declared.replies.KernelReply.{KernelReply}
use Rattle.dill_stack.specs.declared.parting.Parting.{Parting}
use Rattle.dill_stack.specs.Formed.{IsFormed}
use Rattle.dill_stack.specs.Interface.{Held, is_sent, offered, unread_bound}
use Rattle.dill_stack.specs.Layers.{IsStanding}
use Rattle.dill_rules.specs.declared.coroutine.Coroutine.{Coroutine}
use Rattle.dill_rules.specs.Directions.{is_send, is_receive, is_handshake, layer_of, parting_of}
use Rattle.dill_rules.specs.Hearing.{heard}
use Rattle.dill_rules.specs.Linking.{heat, given_up_at_once, enter_receive, enter_handshake, begin_giving_up}
use Rattle.dill_rules.specs.Links.{Link, look}
use Rattle.dill_rules.specs.Owning.{take}
use Rattle.dill_rules.specs.Refusals.{refuse}
use Rattle.dill_rules.specs.Sockets.{link_named, stack_of}
use Rattle.dill_rules.specs.Trying.{Try, next_try}
use Rattle.dill_rules.specs.Turning.{resume, go_on}
use Rattle.dill_rules.specs.World.{World, call_of, coroutine_of, is_answered, begin}
use Rattle.laws_sound.specs.Order.{IsInOrder}
use Rattle.laws_sound.specs.Orderly.{gives_number, IsOrderly}
use Rattle.laws_looks.specs.Calm.{IsCalm}
use Rattle.laws_looks.specs.Keeping.{KeepsLinks}
use Rattle.laws_looks.specs.OneLook.{called, taken_for}
use Rattle.laws_looks.specs.Readers.{LooksApart}
use Rattle.laws_fits.specs.Fitting.{IsSolid, FitsCall, IsFitting}

-- what lasts from step to step: a world in order, with one reader at most at each stack, and stacks that fit
pub record Lasting {V : Type 0} (w : World V) : Type 0 where
  pub order : IsOrderly w
  pub apart : LooksApart w
  pub fits : IsFitting w

-- ---- asks of the kernel

-- a link that isn't closing, with room for another 4,096 bytes
pub record IsRoomy {V : Type 0} (w : World V) (link : ℕ) : Type 0 where
  pub x : Link
  pub there : look w.links link ≡ Some x
  pub «open» : x.closing ≡ false
  pub room : length x.stack.unread ≤ unread_bound x.most

-- so it is of each that is read from
abbrev pub ReadsHaveRoom : (V : Type 0) → Type 0
ReadsHaveRoom V = (w : World V) (x : Try) (link size : ℕ) → IsCalm w → IsFitting w → next_try w ≡ Some x → x.ask ≡ asks.Read link size → IsRoomy w link

-- a link that isn't closing offers these bytes
pub record Offers {V : Type 0} (w : World V) (link : ℕ) (bytes : List ℕ) : Type 0 where
  pub x : Link
  pub there : look w.links link ≡ Some x
  pub «open» : x.closing ≡ false
  pub offers : offered x.stack ≡ bytes

-- so it is of each that is written to
abbrev pub WritesAreOffered : (V : Type 0) → Type 0
WritesAreOffered V = (w : World V) (x : Try) (link : ℕ) (bytes : List ℕ) → LooksApart w → next_try w ≡ Some x → x.ask ≡ asks.Write link bytes → Offers w link bytes

-- its reply may make a link
abbrev pub may_link : KernelAsk → Bool
may_link (asks.Listen link address backlog) = true
may_link (asks.Connect link address) = true
may_link (asks.Accept listener link) = true
may_link _ = false

-- it is asked for a call that is answered by a handle
abbrev pub for_handle : KernelAsk → Bool
for_handle (asks.Listen link address backlog) = true
for_handle (asks.Connect link address) = true
for_handle (asks.Finish link) = true
for_handle (asks.Accept listener link) = true
for_handle _ = false

-- What a reply may make is kept: a link, and a number for its handle. So is a number for whoever waits in a call that may be answered by a new one.
pub record RepliesAreKept (V : Type 0) : Type 0 where
  pub links : (w : World V) (x : Try) → IsInOrder w → KeepsLinks w → next_try w ≡ Some x → may_link x.ask ≡ true → 1 ≤ w.links.kept
  pub handles : (w : World V) (x : Try) → IsOrderly w → KeepsLinks w → next_try w ≡ Some x → for_handle x.ask ≡ true → 1 ≤ w.handles.kept
  pub answers : (w : World V) (who : ℕ) (call : Call) → IsOrderly w → call_of w who ≡ Some call → gives_number (word_of call) ≡ true → 1 ≤ w.handles.kept

-- ---- entries

-- a coroutine whose turn it is makes a call that isn't refused
pub record Calling {V : Type 0} (p : Program V) (w : World V) (who : ℕ) (view : V) (call : Call) : Type 0 where
  pub lasting : Lasting w
  pub one : Coroutine V
  pub found : coroutine_of w who ≡ Some one
  pub answered : is_answered one.mode ≡ true
  pub refused : refuse p (resume w who view) who view call ≡ None

-- it sends, shakes hands, gives its stack up, or puts a layer on it
abbrev pub uses_stack : Call → Bool
uses_stack call = is_send (word_of call) || (is_handshake (word_of call) || (table.gives_up (word_of call) || is_some (layer_of call)))

-- What a call finds at its entry: layers that stand and are formed; and all that was queued has gone, but where it receives.
pub record MayEnter (call : Call) (s : Held) : Type 0 where
  pub standing : IsStanding s.layers
  pub formed : IsFormed s.layers
  pub sent : uses_stack call ≡ true → is_sent s ≡ true

-- so it is of each call that isn't refused
abbrev pub EntriesFit : {V : Type 0} → Program V → Type 0
EntriesFit {V} p = (w : World V) (who : ℕ) (view : V) (call : Call) (s : Held) → Calling p w who view call → stack_of (called w who view call) call ≡ Some s → MayEnter call s

-- The stack of a call is still the same where its link is hot or its number is taken, before all else that its entry does.
pub record StacksStay (V : Type 0) : Type 0 where
  pub heats : (w : World V) (call : Call) (read write : Bool) → stack_of (heat w call read write) call ≡ stack_of w call
  pub takes : (w : World V) (who : ℕ) (call : Call) → stack_of (if_some (named_by call) w (λ n. take w n who)) call ≡ stack_of w call
  pub leaves : (w : World V) (who : ℕ) (call : Call) (parting : Parting) → parting_of call ≡ Some parting → stack_of (taken_for w who call) call ≡ stack_of w call

-- ---- looks

-- A pending call may look at its stack: a receive has its room and its top, where a client's head is awaited nothing is queued, and a detach has a layer to leave.
pub record MayLook (call : Call) (x : Link) : Type 0 where
  pub fits : FitsCall call x
  pub solid : IsSolid x.stack

-- So it is of each that is pending in a world that fits: behind a reply of the kernel, in a turn, and as a call is entered that isn't refused and looks at its stack.
pub record LooksFit {V : Type 0} (p : Program V) : Type 0 where
  pub looks : (w : World V) (who : ℕ) (call : Call) (n : ℕ) (x : Link) → IsFitting w → call_of w who ≡ Some call → named_by call ≡ Some n → link_named w n ≡ Some x → MayLook call x
  pub hears : (w : World V) (x : Try) (said : Option KernelReply) → Lasting w → next_try w ≡ Some x → IsFitting (heard w x said)
  pub turns : (lack : Option LackPlace) (w : World V) (who : ℕ) (c : Coroutine V) → Lasting w → coroutine_of w who ≡ Some c → is_answered c.mode ≡ true → Lasting (go_on p lack (begin w) who c.body)
  pub receives : (w : World V) (who : ℕ) (view : V) (call : Call) (n : ℕ) → Calling p w who view call → named_by call ≡ Some n → is_receive (word_of call) ≡ true → IsFitting (enter_receive (called w who view call) who call)
  pub handshakes : (w : World V) (who : ℕ) (view : V) (call : Call) (n : ℕ) → Calling p w who view call → named_by call ≡ Some n → is_handshake (word_of call) ≡ true → IsFitting (enter_handshake (called w who view call) who call)
  pub gives_up : (w : World V) (who : ℕ) (view : V) (call : Call) (n : ℕ) → Calling p w who view call → named_by call ≡ Some n → table.gives_up (word_of call) ≡ true
      → given_up_at_once (taken_for (called w who view call) who call) who call ≡ None → IsFitting (begin_giving_up (taken_for (called w who view call) who call) who call)
