-- EPIPE of a WebSocket layer shows an end.
use Rattle.std.proofs.Common.{◌≡◌, ◌≤◌, ◌+◌, ◌*◌, [], ◌∷◌, ◌++◌, List, ℕ, length, take, drop, arith, sym, ap, ◌∙◌, refl, subst, Bool, true, false, not, ◌&&◌, inl, inr, ◌⊎◌, ltb, append-nil}
use Rattle.std.specs.Prelude.{◌==◌, if◌then◌else◌, slice_index, is_some, is_none, Option, Some, None, nat_lt}
use Rattle.std.specs.Option.{unwrap_or}
use Rattle.std.specs.Str.{is_utf8}
use Rattle.std.proofs.lemmas.Bool.{eqb-true}
use Rattle.std.proofs.lemmas.Str.{IsUtf8-from_is_utf8}
use Rattle.std.proofs.lemmas.List.{length-drop, take-append-drop}
use Rattle.std.proofs.Math.Seq.{take-add}
use Rattle.dill_base.specs.declared.errno.Errno.{Errno}
use Rattle.dill_base.specs.declared.errno.Errno.TheVariants.{Epipe, Eproto, Emsgsize}
use Rattle.dill_ws.specs.declared.side.Side.{Side}
use Rattle.dill_ws.specs.declared.head.Head.{Head}
use Rattle.dill_ws.specs.declared.head.HeadFront.{HeadFront}
use Rattle.dill_ws.specs.declared.head.HeadFront.TheVariants as head
use Rattle.dill_ws.specs.Closing.{ClosePayload, close_of, is_close_code}
use Rattle.dill_ws.specs.Frames.{Part, Frame, peer_of, may_follow}
use Rattle.dill_ws.specs.FrameLaws.{FrameLaws, AreBytes}
use Rattle.dill_ws.specs.Fronts.{head_front, head_at, may_start, bits_of, length_size, told, is_least, key_size}
use Rattle.dill_stack.specs.declared.want.ReadOut.TheVariants.{Need, Fault}
use Rattle.dill_stack.specs.Layers.{Placed, WsLayer}
use Rattle.dill_stack.specs.WsReading.{Passed, passed, ws_front, WsFront, Whole, Short, Refused, Shown, shown, shown_by, by_head, is_fault, passes_limit, part_of}
use Rattle.dill_stack.specs.Passing.{AreFrames, IsPassed}
use Rattle.dill_stack.specs.Read.{read_ws}
use Rattle.dill_stack.specs.Ending.{CloseStands, IsBetween, close_part}
use Rattle.dill_stack.proofs.OneMessage.{frames_behind}
use Rattle.dill_stack.proofs.Limits.{frame_at}
use Rattle.dill_stack.proofs.Passings.{frame_of, bytes_behind, passes_frames}
use Rattle.dill_stack.proofs.Joinings.{text_by, close_by, frame_shown, read_by}
use Rattle.dill_stack.proofs.MessageWaits.{some_unread}

-- a head is refused with EPROTO
head_errno : (a s b l k : Bool) (x : Head) (e : Errno) → (if a then head.Need else if s then (if b then head.Need else if l then (if k then head.Need else head.Whole x) else head.Fault Eproto) else head.Fault Eproto) ≡ head.Fault e → Eproto ≡ e
head_errno true s b l k x e h = cc
head_errno false false b l k x e h = cc
head_errno false true true l k x e h = cc
head_errno false true false false k x e h = cc
head_errno false true false true true x e h = cc
head_errno false true false true false x e h = cc

head_refused : (side : Side) (joining : Bool) (u : List ℕ) (e : Errno) → head_front side joining u ≡ head.Fault e → Eproto ≡ e
unfolding head_front
head_refused side joining u e h =
    let bits : ℕ = bits_of (slice_index u 1) in
    head_errno (ltb (length u) 2) (may_start side joining (slice_index u 0) (slice_index u 1)) (ltb (length u) (2 + length_size bits)) (is_least bits (told bits (drop 2 u))) (ltb (length u) (2 + length_size bits + key_size side)) (head_at side u) e h

no_end : (e : Errno) → Eproto ≡ e → e ≡ Epipe → ⊥
no_end e p q = cc

-- and a frame with that or with EMSGSIZE
by_front : (side : Side) (joining : Bool) (u : List ℕ) (e : Errno) (f : HeadFront) (over : Bool) → head_front side joining u ≡ f → (if not (is_fault f) && over then Refused Emsgsize else by_head u f) ≡ Refused e → e ≡ Epipe → ⊥
by_front side joining u e (head.Whole h) true r q t = cc
by_front side joining u e (head.Whole h) false r q t = by_short (nat_lt (length u) (h.start + h.length)) q
  where
    by_short : (b : Bool) → (if b then Short else Whole (part_of h u) (h.start + h.length)) ≡ Refused e → ⊥
    by_short true z = cc
    by_short false z = cc
by_front side joining u e head.Need true r q t = cc
by_front side joining u e head.Need false r q t = cc
by_front side joining u e (head.Fault x) over r q t =
    let same : x ≡ e = cc in
    no_end e (head_refused side joining u x r ∙ same) t

pub front_refused : (limit : ℕ) (ws : WsLayer) (u : List ℕ) (e : Errno) → ws_front limit ws u ≡ Refused e → e ≡ Epipe → ⊥
unfolding ws_front
front_refused limit ws u e f q = by_front ws.side (is_some ws.joining) u e (head_front ws.side (is_some ws.joining) u) (passes_limit limit ws u) refl f q

-- a code that a payload carries is allowed
pub record HasCode (payload : List ℕ) : Type 0 where
  pub code : ℕ
  pub allowed : ClosePayload code payload

pub has_code : (payload : List ℕ) → is_some (close_of payload) ≡ true → HasCode payload
has_code [] e = record { code = 0; allowed = refl }
has_code (half ∷ []) e = cc
has_code (high ∷ low ∷ reason) e = by_tests (is_close_code (high * 256 + low)) (is_utf8 reason) refl refl e
  where
    by_tests : (a b : Bool) → is_close_code (high * 256 + low) ≡ a → is_utf8 reason ≡ b → is_some (if a && b then Some (high * 256 + low) else None) ≡ true → HasCode (high ∷ low ∷ reason)
    by_tests true true p q h = record { code = high * 256 + low; allowed = (refl, p, IsUtf8-from_is_utf8 reason q) }
    by_tests true false p q h = cc
    by_tests false b p q h = cc

-- a close frame at the front with an allowed payload
pub record IsClosed (limit : ℕ) (ws : WsLayer) (v : List ℕ) (s : Shown) : Type 0 where
  pub last : Part
  pub used : ℕ
  pub front : ws_front limit ws v ≡ Whole last used
  pub is_close : (last.opcode == 8) ≡ true
  pub coded : is_some (close_of last.payload) ≡ true
  pub used_is : s.used ≡ used

-- the list ended between two messages
pub record IsOver (ended : Bool) (ws : WsLayer) (v : List ℕ) : Type 0 where
  pub list_ended : ended ≡ true
  pub nothing : v ≡ []
  pub unjoined : is_some ws.joining ≡ false

is_over : (ended : Bool) (ws : WsLayer) (v : List ℕ) → (if ended then if length v == 0 && is_none ws.joining then Fault Epipe else Fault Eproto else Need) ≡ Fault Epipe → IsOver ended ws v
is_over false ws v e = cc
is_over true ws (x ∷ v) e = by_test (length (x ∷ v) == 0) (some_unread x v) e
  where
    by_test : (a : Bool) → a ≡ false → (if a && is_none ws.joining then Fault Epipe else Fault Eproto) ≡ Fault Epipe → IsOver true ws (x ∷ v)
    by_test true p q = cc
    by_test false p q = cc
is_over true ws [] e = record { list_ended = refl; nothing = refl; unjoined = by_joining ws.joining e }
  where
    by_joining : (o : Option ℕ) → (if length {A = ℕ} [] == 0 && is_none o then Fault Epipe else Fault Eproto) ≡ Fault Epipe → is_some o ≡ false
    by_joining None h = refl
    by_joining (Some n) h = cc

by_shown : (limit : ℕ) (ended : Bool) (ws : WsLayer) (v : List ℕ) (f : WsFront) → ws_front limit ws v ≡ f → (shown_by ended ws v f).said ≡ Fault Epipe → IsClosed limit ws v (shown_by ended ws v f) ⊎ IsOver ended ws v
by_shown limit ended ws v (Whole last used) f e = by_kind (last.opcode == 8) refl e
  where
    by_code : (b : Bool) → (last.opcode == 8) ≡ true → is_some (close_of last.payload) ≡ b → (close_by b ws used).said ≡ Fault Epipe → IsClosed limit ws v (close_by b ws used)
    by_code true k c q = record { last = last; used = used; front = f; is_close = k; coded = c; used_is = refl }
    by_code false k c q = cc

    by_text : (bad : Bool) → (text_by bad ws last used).said ≡ Fault Epipe → ⊥
    by_text true q = cc
    by_text false q = cc

    by_kind : (c : Bool) → (last.opcode == 8) ≡ c → (frame_shown c ws last used).said ≡ Fault Epipe → IsClosed limit ws v (frame_shown c ws last used) ⊎ IsOver ended ws v
    by_kind true c q = inl (by_code (is_some (close_of last.payload)) c refl q)
    by_kind false c q = absurd (by_text (unwrap_or ws.joining last.opcode == 1 && not (is_utf8 (ws.joined ++ last.payload))) q)
by_shown limit ended ws v Short f e = inr (is_over ended ws v e)
by_shown limit ended ws v (Refused x) f e =
    let same : x ≡ Epipe = cc in
    absurd (front_refused limit ws v x f same)

end_shown : (limit : ℕ) (ended : Bool) (ws : WsLayer) (v : List ℕ) → (shown limit ended ws v).said ≡ Fault Epipe → IsClosed limit ws v (shown limit ended ws v) ⊎ IsOver ended ws v
unfolding shown
end_shown limit ended ws v e = by_shown limit ended ws v (ws_front limit ws v) refl e

-- a close frame is whole
pub close_fin : (joining fin : Bool) (n : ℕ) → may_follow joining fin 8 n ≡ true → fin ≡ true
close_fin joining true n e = refl
close_fin joining false n e = cc

pub close_is : (fin : Bool) (opcode : ℕ) (payload : List ℕ) → fin ≡ true → opcode ≡ 8 → let part : Part = record { fin = fin; opcode = opcode; payload = payload } in part ≡ close_part payload
close_is fin opcode payload e f = cc

close_stands : (laws : FrameLaws) (limit : ℕ) (ws : WsLayer) (u : List ℕ) (p : Passed) (s : Shown) → AreBytes u → IsPassed limit ws u p → IsClosed limit p.ws (drop p.used u) s → CloseStands limit ws u (p.used + s.used)
close_stands laws limit ws u p s b i c =
    let v : List ℕ = drop p.used u in
    let last : Part = c.last in
    let frame : Frame (peer_of p.ws.side) last.fin last.opcode last.payload (take c.used v) × (c.used ≤ length v) = frame_of laws p.ws v last c.used (bytes_behind p.used u b) (frame_at limit p.ws v last c.used c.front) in
    let side : p.ws.side ≡ ws.side = ap (λ (x : WsLayer). x.side) i.layer in
    let opcode : last.opcode ≡ 8 = eqb-true last.opcode 8 c.is_close in
    let allowed : may_follow frame.0.joining last.fin 8 (length last.payload) ≡ true = subst (λ o. may_follow frame.0.joining last.fin o (length last.payload) ≡ true) opcode frame.0.allowed in
    let same : last ≡ close_part last.payload = close_is last.fin last.opcode last.payload (close_fin frame.0.joining last.fin (length last.payload) allowed) opcode in
    let used : p.used + s.used ≡ p.used + c.used = ap (λ x. p.used + x) c.used_is in
    let code : HasCode last.payload = has_code last.payload c.coded in
    subst (CloseStands limit ws u) (sym used)
    (record {
      before = i.parts;
      payload = last.payload;
      code = code.code;
      there = omega (arith, i.there, frame.1, length-drop p.used u);
      frames = subst (λ (x : Part). AreFrames (peer_of ws.side) (i.parts ++ x ∷ []) (take (p.used + c.used) u)) same
          (subst (AreFrames (peer_of ws.side) (i.parts ++ last ∷ [])) (sym (take-add p.used c.used u))
          (frames_behind (peer_of ws.side) i.parts last (take p.used u) (take c.used v) i.frames (subst (λ x. Frame (peer_of x) last.fin last.opcode last.payload (take c.used v)) side frame.0)));
      follows = i.follows;
      passing = i.passing;
      within = i.within;
      allowed = code.allowed;
    })

is_between : (limit : ℕ) (ended : Bool) (ws : WsLayer) (u : List ℕ) (p : Passed) → IsPassed limit ws u p → IsOver ended p.ws (drop p.used u) → IsBetween limit ws u
is_between limit ended ws u p i o =
    let all : take p.used u ≡ u = sym (append-nil (take p.used u)) ∙ ap (λ x. take p.used u ++ x) (sym o.nothing) ∙ take-append-drop p.used u in
    record { parts = i.parts; frames = subst (AreFrames (peer_of ws.side) i.parts) all i.frames; follows = i.follows; passing = i.passing; within = i.within; unjoined = sym i.joining ∙ o.unjoined }

by_met : (laws : FrameLaws) (limit : ℕ) (below : List Placed) (ws : WsLayer) (u : List ℕ) (ended met : Bool) → ws.met ≡ met → AreBytes u → (read_by met below ws u ended limit).said ≡ Fault Epipe
    → (ws.met ≡ true) ⊎ (CloseStands limit ws u (read_by met below ws u ended limit).used ⊎ ((ended ≡ true) × IsBetween limit ws u))
by_met laws limit below ws u ended true m b e = inl m
by_met laws limit below ws u ended false m b e =
    let p : Passed = passed limit ws u in
    let i : IsPassed limit ws u p = passes_frames laws limit ws u b in
    inr (by_end p i (shown limit ended p.ws (drop p.used u)) (end_shown limit ended p.ws (drop p.used u) e))
  where
    by_end : (p : Passed) → IsPassed limit ws u p → (s : Shown) → IsClosed limit p.ws (drop p.used u) s ⊎ IsOver ended p.ws (drop p.used u) → CloseStands limit ws u (p.used + s.used) ⊎ ((ended ≡ true) × IsBetween limit ws u)
    by_end p i s (inl c) = inl (close_stands laws limit ws u p s b i c)
    by_end p i s (inr o) = inr (o.list_ended, is_between limit ended ws u p i o)

pub end_told : (laws : FrameLaws) (limit : ℕ) (below : List Placed) (ws : WsLayer) (u : List ℕ) (ended : Bool) → AreBytes u → (read_ws below ws u ended limit).said ≡ Fault Epipe
    → (ws.met ≡ true) ⊎ (CloseStands limit ws u (read_ws below ws u ended limit).used ⊎ ((ended ≡ true) × IsBetween limit ws u))
end_told laws limit below ws u ended b e = by_met laws limit below ws u ended ws.met refl b e
