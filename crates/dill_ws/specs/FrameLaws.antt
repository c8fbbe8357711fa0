-- The laws of frames and their heads (RFC 6455, sections 5.1 to 5.5).
use Rattle.std.specs.Prelude.{◌≡◌, ◌<◌, ◌≤◌, ◌+◌, ◌++◌, [], ℕ, Bool, true, List, length, take, drop, slice_index, Option}
use Rattle.dill_base.specs.declared.errno.Errno.{Errno}
use Rattle.dill_ws.specs.declared.side.Side.{Side}
use Rattle.dill_ws.specs.declared.head.Head.{Head}
use Rattle.dill_ws.specs.declared.head.HeadFront.{HeadFront}
use Rattle.dill_ws.specs.declared.head.HeadFront.TheVariants.{Whole, Need, Fault}
use Rattle.dill_ws.specs.Frames.{peer_of, masked, may_follow, Frame}
use Rattle.dill_ws.specs.Fronts.{HeadSpells, HeadShows, IsHeadFront, head_front}

-- Each is a byte.
abbrev pub AreBytes : List ℕ → Type 0
AreBytes bytes = (k : ℕ) → slice_index bytes k < 256

-- Not an open front.
abbrev pub IsSettled : HeadFront → Type 0
IsSettled (Whole h) = Unit {0}
IsSettled Need = ⊥
IsSettled (Fault e) = Unit {0}

-- The payload behind a head, without its mask.
abbrev pub payload_at : Head → List ℕ → List ℕ
payload_at h bytes = masked h.key (take h.length (drop h.start bytes))

-- The bytes begin with a frame of these fields, whose bytes are w.
pub record ReadsFrame (receiver : Side) (joining fin : Bool) (opcode : ℕ) (payload w rest : List ℕ) : Type 0 where
  pub head : Head
  pub read : head_front receiver joining (w ++ rest) ≡ Whole head
  pub fin_is : head.fin ≡ fin
  pub opcode_is : head.opcode ≡ opcode
  pub payload_is : payload_at head (w ++ rest) ≡ payload
  pub used : head.start + head.length ≡ length w

pub record FrameLaws : Type 0 where
  -- each head that may come is read, whatever follows it, and so is each refusal
  pub again : (receiver : Side) (joining : Bool) (h : Head) (w rest : List ℕ) → HeadSpells receiver joining h w → head_front receiver joining (w ++ rest) ≡ Whole h
  pub refused : (receiver : Side) (joining : Bool) (e : Errno) (w rest : List ℕ) → AreBytes w → HeadShows receiver joining e w → head_front receiver joining (w ++ rest) ≡ Fault e
  -- each answer has its cause
  pub fronts : (receiver : Side) (joining : Bool) (u : List ℕ) → AreBytes u → IsHeadFront receiver joining u (head_front receiver joining u)
  -- what was judged stays so when more comes, and what is open is short
  pub stays : (receiver : Side) (joining : Bool) (u v : List ℕ) (f : HeadFront) → head_front receiver joining u ≡ f → IsSettled f → head_front receiver joining (u ++ v) ≡ f
  pub waits : (receiver : Side) (joining : Bool) (u : List ℕ) → head_front receiver joining u ≡ Need → length u < 14
  -- each frame that may come is read with its payload, whatever follows it
  pub received : (receiver : Side) (joining fin : Bool) (opcode : ℕ) (payload w rest : List ℕ) → Frame (peer_of receiver) fin opcode payload w → may_follow joining fin opcode (length payload) ≡ true → ReadsFrame receiver joining fin opcode payload w rest
  -- what is read, once its payload is there, is a frame
  pub framed : (receiver : Side) (joining : Bool) (u : List ℕ) (h : Head) → AreBytes u → head_front receiver joining u ≡ Whole h → h.start + h.length ≤ length u → Frame (peer_of receiver) h.fin h.opcode (payload_at h u) (take (h.start + h.length) u)
  -- no frame begins another
  pub free : (sender : Side) (fin end : Bool) (opcode code : ℕ) (payload other w rest : List ℕ) → Frame sender fin opcode payload w → Frame sender end code other (w ++ rest) → rest ≡ []
  -- to mask twice is to do nothing
  pub unmasked : (key : Option (List ℕ)) (payload : List ℕ) → masked key (masked key payload) ≡ payload
