-- The frame at the front that isn't passed: a close frame, or the last of a message.
use Rattle.std.proofs.Common.{◌≡◌, ◌≢◌, ◌≤◌, ◌+◌, ◌++◌, List, ℕ, length, slice_index, arith, sym, ap, ◌∙◌, refl, subst, Bool, true, false, not, ◌&&◌, Option, Some, None, if◌then◌else◌, leb, length-append}
use Rattle.std.specs.Prelude.{◌==◌, is_some, is_none}
use Rattle.std.specs.Option.{unwrap_or}
use Rattle.std.specs.Str.{is_utf8}
use Rattle.std.proofs.lemmas.Bool.{ne_eqb, eqb-true, leb-true}
use Rattle.dill_base.specs.declared.errno.Errno.{Errno}
use Rattle.dill_base.specs.declared.errno.Errno.TheVariants.{Epipe, Eproto}
use Rattle.dill_calls.specs.declared.answer.Answer.TheVariants.{Bytes}
use Rattle.dill_ws.specs.declared.head.Head.{Head}
use Rattle.dill_ws.specs.Closing.{close_of}
use Rattle.dill_ws.specs.Frames.{Part, masked, may_follow}
use Rattle.dill_ws.specs.FrameLaws.{payload_at}
use Rattle.dill_ws.specs.Fronts.{bits_of}
use Rattle.dill_stack.specs.declared.want.ReadOut.TheVariants.{Given, Fault}
use Rattle.dill_stack.specs.Layers.{WsLayer}
use Rattle.dill_stack.specs.Read.{no_more}
use Rattle.dill_stack.specs.Seeing.{emptied}
use Rattle.dill_stack.specs.WsReading.{Passed, Shown, shown, shown_by, close_met, message_of, pass_of, part_of, ws_front, Whole, Short, Refused}
use Rattle.dill_stack.proofs.Limits.{FrameAt, frame_at, length_masked}
use Rattle.dill_stack.proofs.Passings.{started}
use Rattle.dill_stack.proofs.FramePasses.{passes_ping, passes_pong}

-- nothing of the layer changes, and nothing is used
abbrev shows_none : WsLayer → List ℕ → Bool → Bool → Shown
shows_none ws u ended boundary = record { used = 0; ws = ws; said = no_more ended boundary u }

pub sees_short : (limit : ℕ) (ws : WsLayer) (u : List ℕ) → ws_front limit ws u ≡ Short → (ended : Bool) → shown limit ended ws u ≡ record { used = 0; ws = ws; said = no_more ended (is_none ws.joining) u }
unfolding shown
sees_short limit ws u e ended = ap (shown_by ended ws u) e ∙ by ended
  where
    swap : (a b : Bool) → (let s : Shown = record { used = 0; ws = ws; said = if a && b then Fault Epipe else Fault Eproto } in s) ≡ record { used = 0; ws = ws; said = if b && a then Fault Epipe else Fault Eproto }
    swap true true = refl
    swap true false = refl
    swap false true = refl
    swap false false = refl

    by : (ended : Bool) → shown_by ended ws u Short ≡ shows_none ws u ended (is_none ws.joining)
    by false = refl
    by true = swap (length u == 0) (is_none ws.joining)

pub sees_refused : (limit : ℕ) (ws : WsLayer) (u : List ℕ) (x : Errno) → ws_front limit ws u ≡ Refused x → (ended : Bool) → shown limit ended ws u ≡ record { used = 0; ws = ws; said = Fault x }
unfolding shown
sees_refused limit ws u x e ended = ap (shown_by ended ws u) e

abbrev coded : Head → List ℕ → ℕ → Part
coded h u opcode = record { fin = h.fin; opcode = opcode; payload = payload_at h u }

close_by : (ws : WsLayer) (part : Part) (used : ℕ) (b : Bool) → is_some (close_of part.payload) ≡ b → close_met ws part used ≡ (if b then record { used = used; ws = record ws { met = true }; said = Fault Epipe } else record { used = 0; ws = ws; said = Fault Eproto })
close_by ws part used b e = ap (λ c. if c then (let s : Shown = record { used = used; ws = record ws { met = true }; said = Fault Epipe } in s) else record { used = 0; ws = ws; said = Fault Eproto }) e

whole_close : (limit : ℕ) (ws : WsLayer) (u : List ℕ) (h : Head) (used : ℕ) → ws_front limit ws u ≡ Whole (part_of h u) used → h.opcode ≡ 8 → (ended : Bool) → shown limit ended ws u ≡ close_met ws (part_of h u) used
unfolding shown
whole_close limit ws u h used e o ended = ap (shown_by ended ws u) e ∙ ap (λ c. if c == 8 then close_met ws (part_of h u) used else message_of ws (part_of h u) used) o

pub sees_close : (limit : ℕ) (ws : WsLayer) (u : List ℕ) (h : Head) (used : ℕ) → ws_front limit ws u ≡ Whole (part_of h u) used → h.opcode ≡ 8 → is_some (close_of (payload_at h u)) ≡ true → (ended : Bool) → shown limit ended ws u ≡ record { used = used; ws = record ws { met = true }; said = Fault Epipe }
sees_close limit ws u h used e o c ended = whole_close limit ws u h used e o ended ∙ close_by ws (part_of h u) used true c

pub sees_bad_close : (limit : ℕ) (ws : WsLayer) (u : List ℕ) (h : Head) (used : ℕ) → ws_front limit ws u ≡ Whole (part_of h u) used → h.opcode ≡ 8 → is_some (close_of (payload_at h u)) ≡ false → (ended : Bool) → shown limit ended ws u ≡ record { used = 0; ws = ws; said = Fault Eproto }
sees_bad_close limit ws u h used e o c ended = whole_close limit ws u h used e o ended ∙ close_by ws (part_of h u) used false c

-- what isn't passed and isn't a close frame is a part of a message
some_passed : {A : Type 0} (q : Passed) (o : Option Passed) → o ≡ Some q → o ≡ None → A
some_passed q None e f = cc
some_passed q (Some p) e f = cc

few_by : (a b c k j f l : Bool) (o : ℕ) → leb 8 o ≡ a → (o == 0) ≡ b → leb o 10 ≡ c → leb o 2 ≡ k → (if a then c && f && l else if b then j else k && not j) ≡ true → o ≢ 8 → o ≢ 9 → o ≢ 10 → o ≤ 2
few_by true b true k j f l o p q r s e x y z =
    let m : 8 ≤ o = leb-true 8 o p in
    let n : o ≤ 10 = leb-true o 10 r in
    omega (arith, m, n, x, y, z)
few_by true b false k j f l o p q r s e x y z = cc
few_by false true c k j f l o p q r s e x y z = let n : o ≡ 0 = eqb-true o 0 q in omega (arith, n)
few_by false false c true j f l o p q r s e x y z = leb-true o 2 s
few_by false false c false j f l o p q r s e x y z = cc

pub data_at : (limit : ℕ) (ws : WsLayer) (u : List ℕ) (h : Head) (used : ℕ) → ws_front limit ws u ≡ Whole (part_of h u) used → h.opcode ≢ 8 → pass_of ws (part_of h u) used ≡ None → h.opcode ≤ 2
data_at limit ws u h used e o n =
    let a : FrameAt ws u (part_of h u) used = frame_at limit ws u (part_of h u) used e in
    let code : a.h.opcode ≡ h.opcode = ap (λ (p : Part). p.opcode) (sym a.part_is) in
    let f : may_follow (is_some ws.joining) a.h.fin a.h.opcode (bits_of (slice_index u 1)) ≡ true = started ws.side (is_some ws.joining) u a.h a.read in
    let g : may_follow (is_some ws.joining) a.h.fin h.opcode (bits_of (slice_index u 1)) ≡ true = subst (λ k. may_follow (is_some ws.joining) a.h.fin k (bits_of (slice_index u 1)) ≡ true) code f in
    few_by (leb 8 h.opcode) (h.opcode == 0) (leb h.opcode 10) (leb h.opcode 2) (is_some ws.joining) a.h.fin (leb (bits_of (slice_index u 1)) 125) h.opcode refl refl refl refl g o
    (λ k. some_passed _ (pass_of ws (part_of h u) used) (passes_ping ws h u used k) n)
    (λ k. some_passed _ (pass_of ws (part_of h u) used) (passes_pong ws h u used k) n)

message_by : (ws : WsLayer) (part : Part) (used : ℕ) (b : Bool) → (unwrap_or ws.joining part.opcode == 1 && not (is_utf8 (ws.joined ++ part.payload))) ≡ b → message_of ws part used ≡ (if b then record { used = 0; ws = ws; said = Fault Eproto } else record { used = used; ws = emptied ws; said = Given (Bytes (ws.joined ++ part.payload)) })
message_by ws part used b e = ap (λ c. if c then (let s : Shown = record { used = 0; ws = ws; said = Fault Eproto } in s) else record { used = used; ws = emptied ws; said = Given (Bytes (ws.joined ++ part.payload)) }) e

whole_last : (limit : ℕ) (ws : WsLayer) (u : List ℕ) (h : Head) (used : ℕ) → ws_front limit ws u ≡ Whole (part_of h u) used → h.opcode ≢ 8 → (ended : Bool) → shown limit ended ws u ≡ message_of ws (part_of h u) used
unfolding shown
whole_last limit ws u h used e o ended = ap (shown_by ended ws u) e ∙ ap (λ b. if b then close_met ws (part_of h u) used else message_of ws (part_of h u) used) (ne_eqb h.opcode 8 o)

pub sees_message : (limit : ℕ) (ws : WsLayer) (u : List ℕ) (h : Head) (used : ℕ) → ws_front limit ws u ≡ Whole (part_of h u) used → h.opcode ≢ 8 → (unwrap_or ws.joining h.opcode == 1 && not (is_utf8 (ws.joined ++ payload_at h u))) ≡ false → (ended : Bool) → shown limit ended ws u ≡ record { used = used; ws = emptied ws; said = Given (Bytes (ws.joined ++ payload_at h u)) }
sees_message limit ws u h used e o t ended = whole_last limit ws u h used e o ended ∙ message_by ws (part_of h u) used false t

pub sees_no_text : (limit : ℕ) (ws : WsLayer) (u : List ℕ) (h : Head) (used : ℕ) → ws_front limit ws u ≡ Whole (part_of h u) used → h.opcode ≢ 8 → (unwrap_or ws.joining h.opcode == 1 && not (is_utf8 (ws.joined ++ payload_at h u))) ≡ true → (ended : Bool) → shown limit ended ws u ≡ record { used = 0; ws = ws; said = Fault Eproto }
sees_no_text limit ws u h used e o t ended = whole_last limit ws u h used e o ended ∙ message_by ws (part_of h u) used true t

pub length_joined : (xs : List ℕ) (key : Option (List ℕ)) (p : List ℕ) → length (xs ++ masked key p) ≡ length xs + length p
length_joined xs key p = length-append xs (masked key p) ∙ ap (λ n. length xs + n) (length_masked key p)

pub none_told : (o : Option ℕ) (b : Bool) → not b ≡ is_some o → is_none o ≡ b
none_told None true e = refl
none_told None false e = cc
none_told (Some x) true e = cc
none_told (Some x) false e = refl
