-- A message that is given is the frames of one message.
use Rattle.std.proofs.Common.{◌≡◌, ◌≤◌, ◌+◌, [], ◌∷◌, ◌++◌, List, ℕ, length, take, drop, arith, sym, ap, ◌∙◌, refl, subst, Bool, true, false, not, ◌&&◌, ◌||◌, Some, None, length-append, append_assoc}
use Rattle.std.specs.Prelude.{◌==◌, if◌then◌else◌, is_some, is_none, flat_map, IsUtf8}
use Rattle.std.specs.List.{list_all}
use Rattle.std.specs.Option.{unwrap_or}
use Rattle.std.specs.Str.{is_utf8}
use Rattle.std.proofs.lemmas.Bool.{false≢true, leb-true, eqb-false, ne_eqb, and_parts}
use Rattle.std.proofs.lemmas.Str.{IsUtf8-from_is_utf8}
use Rattle.std.proofs.lemmas.List.{length-drop}
use Rattle.std.proofs.Math.Seq.{take-add}
use Rattle.dill_base.specs.declared.errno.Errno.TheVariants.{Epipe, Eproto}
use Rattle.dill_calls.specs.declared.answer.Answer.TheVariants.{Bytes}
use Rattle.dill_ws.specs.Closing.{close_of}
use Rattle.dill_ws.specs.Frames.{Part, Frame, Joined, peer_of, data_parts, may_follow}
use Rattle.dill_ws.specs.FrameLaws.{FrameLaws, AreBytes}
use Rattle.dill_stack.specs.declared.want.ReadOut.TheVariants.{Given, Need, Fault}
use Rattle.dill_stack.specs.Layers.{Placed, Ws, WsLayer}
use Rattle.dill_stack.specs.WsReading.{Passed, passed, pass_by_front, pass_of, with_part, ws_front, WsFront, Whole, Short, Refused, Shown, shown, shown_by, message_of, close_met, is_data}
use Rattle.dill_stack.specs.Passing.{AreFrames, is_passing, IsPassed}
use Rattle.dill_stack.specs.Read.{Outcome, outcome, behind_passed, read_ws}
use Rattle.dill_stack.specs.Joining.{HasPassed, JoinedStands, PassedOn, is_no_close}
use Rattle.dill_stack.proofs.PassedBehind.{state_is, passed_more}
use Rattle.dill_stack.proofs.Limits.{frame_at, part_within}
use Rattle.dill_stack.proofs.Passings.{frame_of, follows_at, bytes_behind, passes_frames}
use Rattle.dill_stack.proofs.OneMessage.{OpcodeAt, first_opcode, opcode_at, message_joined, frames_behind, data_is}

-- no answer of bytes where the list ended
ended_gives : (ended here : Bool) (m : List ℕ) → (if ended then if here then Fault Epipe else Fault Eproto else Need) ≡ Given (Bytes m) → ⊥
ended_gives false here m e = cc
ended_gives true true m e = cc
ended_gives true false m e = cc

-- the last frame of a message that is given
pub record LastFrame (limit : ℕ) (ws : WsLayer) (v m : List ℕ) (s : Shown) : Type 0 where
  pub last : Part
  pub used : ℕ
  pub front : ws_front limit ws v ≡ Whole last used
  pub no_close : (last.opcode == 8) ≡ false
  pub text : m ≡ ws.joined ++ last.payload
  pub fine : (unwrap_or ws.joining last.opcode == 1 && not (is_utf8 (ws.joined ++ last.payload))) ≡ false
  pub used_is : s.used ≡ used

abbrev no_text : WsLayer → Shown
no_text ws = record { used = 0; ws = ws; said = Fault Eproto }

abbrev whole_text : WsLayer → Part → ℕ → Shown
whole_text ws last used = record { used = used; ws = record ws { joining = None; joined = [] }; said = Given (Bytes (ws.joined ++ last.payload)) }

abbrev pub text_by : Bool → WsLayer → Part → ℕ → Shown
text_by bad ws last used = if bad then no_text ws else whole_text ws last used

abbrev pub close_by : Bool → WsLayer → ℕ → Shown
close_by met ws used = if met then record { used = used; ws = record ws { met = true }; said = Fault Epipe } else no_text ws

by_message : (limit : ℕ) (ws : WsLayer) (v m : List ℕ) (last : Part) (used : ℕ) (bad : Bool) → ws_front limit ws v ≡ Whole last used → (last.opcode == 8) ≡ false
    → (unwrap_or ws.joining last.opcode == 1 && not (is_utf8 (ws.joined ++ last.payload))) ≡ bad → (text_by bad ws last used).said ≡ Given (Bytes m) → LastFrame limit ws v m (text_by bad ws last used)
by_message limit ws v m last used true f n b e = cc
by_message limit ws v m last used false f n b e = record { last = last; used = used; front = f; no_close = n; text = cc; fine = b; used_is = refl }

by_close : (ws : WsLayer) (m : List ℕ) (used : ℕ) (met : Bool) → (close_by met ws used).said ≡ Given (Bytes m) → ⊥
by_close ws m used true e = cc
by_close ws m used false e = cc

abbrev pub frame_shown : Bool → WsLayer → Part → ℕ → Shown
frame_shown closes ws last used = if closes then close_met ws last used else message_of ws last used

by_shown : (limit : ℕ) (ended : Bool) (ws : WsLayer) (v m : List ℕ) (f : WsFront) → ws_front limit ws v ≡ f → (shown_by ended ws v f).said ≡ Given (Bytes m) → LastFrame limit ws v m (shown_by ended ws v f)
by_shown limit ended ws v m (Whole last used) f e = by_kind (last.opcode == 8) refl e
  where
    by_kind : (c : Bool) → (last.opcode == 8) ≡ c → (frame_shown c ws last used).said ≡ Given (Bytes m) → LastFrame limit ws v m (frame_shown c ws last used)
    by_kind true c q = absurd (by_close ws m used (is_some (close_of last.payload)) q)
    by_kind false c q = by_message limit ws v m last used (unwrap_or ws.joining last.opcode == 1 && not (is_utf8 (ws.joined ++ last.payload))) f c refl q
by_shown limit ended ws v m Short f e = absurd (ended_gives ended (length v == 0 && is_none ws.joining) m e)
by_shown limit ended ws v m (Refused x) f e = cc

last_frame : (limit : ℕ) (ended : Bool) (ws : WsLayer) (v m : List ℕ) → (shown limit ended ws v).said ≡ Given (Bytes m) → LastFrame limit ws v m (shown limit ended ws v)
unfolding shown
last_frame limit ended ws v m e = by_shown limit ended ws v m (ws_front limit ws v) refl e

-- a frame that isn't passed is no ping, no pong, and no part that a message goes on behind
pub record Unpassed (part : Part) : Type 0 where
  pub no_ping : (part.opcode == 9) ≡ false
  pub no_pong : (part.opcode == 10) ≡ false
  pub no_part : (is_data part.opcode && not part.fin) ≡ false

by_unpassed : (part : Part) (a b c : Bool) (x y z : Passed) → (part.opcode == 9) ≡ a → (part.opcode == 10) ≡ b → (is_data part.opcode && not part.fin) ≡ c → (if a then Some x else if b then Some y else if c then Some z else None) ≡ None → Unpassed part
by_unpassed part true b c x y z p q r e = cc
by_unpassed part false true c x y z p q r e = cc
by_unpassed part false false true x y z p q r e = cc
by_unpassed part false false false x y z p q r e = record { no_ping = p; no_pong = q; no_part = r }

pub unpassed : (ws : WsLayer) (part : Part) (used : ℕ) → pass_of ws part used ≡ None → Unpassed part
unpassed ws part used e =
    by_unpassed part (part.opcode == 9) (part.opcode == 10) (is_data part.opcode && not part.fin) (record { used = used; ws = ws; pings = part.payload ∷ [] }) (record { used = used; ws = ws; pings = [] }) (record { used = used; ws = with_part part ws; pings = [] }) refl refl refl e

-- a frame that is none of these ends its message
pub ends_message : (c fin : Bool) → c ≡ true → (c && not fin) ≡ false → fin ≡ true
ends_message c true e f = refl
ends_message true false e f = cc
ends_message false fin e f = cc

utf8_where : (one fine : Bool) → (one && not fine) ≡ false → one ≡ true → fine ≡ true
utf8_where true true e t = refl
utf8_where true false e t = cc
utf8_where false fine e t = cc

same_one : (n : ℕ) → n ≡ 1 → (n == 1) ≡ true
same_one n e = ap (λ k. k == 1) e

-- none of these is a close frame
data_unclosed : (part : Part) → is_data part.opcode ≡ true → is_no_close part ≡ true
data_unclosed part d = ap (λ b. not b) (ne_eqb part.opcode 8 (λ q. false≢true (ap (λ o. is_data o) (sym q) ∙ d)))

passing_unclosed : (part : Part) → is_passing part ≡ true → is_no_close part ≡ true
passing_unclosed part p = ap (λ b. not b) (ne_eqb part.opcode 8 (λ q. false≢true (ap (λ o. o == 9 || o == 10 || is_data o && not part.fin) (sym q) ∙ p)))

all_unclosed : (parts : List Part) (last : Part) → list_all is_passing parts ≡ true → is_no_close last ≡ true → list_all is_no_close (parts ++ last ∷ []) ≡ true
all_unclosed [] last p e = rw e refl
all_unclosed (part ∷ parts) last p e =
    let both : (is_passing part ≡ true) × (list_all is_passing parts ≡ true) = and_parts (is_passing part) (list_all is_passing parts) p in
    rw (passing_unclosed part both.0) (all_unclosed parts last both.1 e)

-- the frames that were passed, and the last one of a message
message_stands : (laws : FrameLaws) (limit : ℕ) (past : List Part) (ws : WsLayer) (u m : List ℕ) (p : Passed) (s : Shown) → AreBytes u → HasPassed past ws → IsPassed limit ws u p → LastFrame limit p.ws (drop p.used u) m s → JoinedStands ws.side past limit u m (p.used + s.used)
message_stands laws limit past ws u m p s b h i l =
    let v : List ℕ = drop p.used u in
    let all : List Part = past ++ i.parts in
    let bytes : AreBytes v = bytes_behind p.used u b in
    let side : p.ws.side ≡ ws.side = ap (λ (x : WsLayer). x.side) i.layer in
    let now : HasPassed all p.ws = subst (HasPassed all) (sym i.layer) (passed_more past ws i.parts h i.follows i.passing) in
    let frame : Frame (peer_of p.ws.side) l.last.fin l.last.opcode l.last.payload (take l.used v) × (l.used ≤ length v) = frame_of laws p.ws v l.last l.used bytes (frame_at limit p.ws v l.last l.used l.front) in
    let follows : may_follow (is_some p.ws.joining) l.last.fin l.last.opcode (length l.last.payload) ≡ true = follows_at laws p.ws v l.last l.used bytes (frame_at limit p.ws v l.last l.used l.front) in
    let not_passed : Unpassed l.last = unpassed p.ws l.last l.used (ap (pass_by_front p.ws) (sym l.front) ∙ i.last) in
    let part_is : is_data l.last.opcode ≡ true = data_is (is_some p.ws.joining) l.last.fin l.last.opcode (length l.last.payload) follows (eqb-false l.last.opcode 8 l.no_close) (eqb-false l.last.opcode 9 not_passed.no_ping) (eqb-false l.last.opcode 10 not_passed.no_pong) in
    let ends : l.last.fin ≡ true = ends_message (is_data l.last.opcode) l.last.fin part_is not_passed.no_part in
    let at : OpcodeAt (is_some p.ws.joining) l.last.opcode = opcode_at (is_some p.ws.joining) l.last.fin l.last.opcode (length l.last.payload) follows (leb-true l.last.opcode 2 part_is) in
    let whole : Joined (all ++ l.last ∷ []) (first_opcode (data_parts all) l.last) (flat_map (λ q. q.payload) (data_parts all) ++ l.last.payload) =
    message_joined all l.last now.follows now.passing (subst (λ x. OpcodeAt x l.last.opcode) (state_is all p.ws now) at) part_is ends in
    let text : m ≡ flat_map (λ q. q.payload) (data_parts all) ++ l.last.payload = l.text ∙ ap (λ x. x ++ l.last.payload) now.joined in
    let used : p.used + s.used ≡ p.used + l.used = ap (λ x. p.used + x) l.used_is in
    subst (JoinedStands ws.side past limit u m) (sym used)
    (record {
      before = i.parts;
      last = l.last;
      opcode = first_opcode (data_parts all) l.last;
      there = omega (arith, i.there, frame.1, length-drop p.used u);
      frames = subst (AreFrames (peer_of ws.side) (i.parts ++ l.last ∷ [])) (sym (take-add p.used l.used u))
          (frames_behind (peer_of ws.side) i.parts l.last (take p.used u) (take l.used v) i.frames (subst (λ x. Frame (peer_of x) l.last.fin l.last.opcode l.last.payload (take l.used v)) side frame.0));
      joined = subst (λ (ps : List Part). Joined ps (first_opcode (data_parts all) l.last) m) (append_assoc past i.parts (l.last ∷ [])) (subst (Joined (all ++ l.last ∷ []) (first_opcode (data_parts all) l.last)) (sym text) whole);
      unclosed = all_unclosed i.parts l.last i.passing (data_unclosed l.last part_is);
      ends = part_is;
      short = omega (arith, ap length l.text, length-append p.ws.joined l.last.payload, part_within limit p.ws v l.last l.used l.front part_is);
      text = λ one. subst IsUtf8 (sym l.text) (IsUtf8-from_is_utf8 (p.ws.joined ++ l.last.payload)
          (utf8_where (unwrap_or p.ws.joining l.last.opcode == 1) (is_utf8 (p.ws.joined ++ l.last.payload)) l.fine (same_one (unwrap_or p.ws.joining l.last.opcode) (ap (λ x. unwrap_or x l.last.opcode) now.joining ∙ one))));
    })

-- the read of a layer, by whether its close frame was met
abbrev pub read_by : Bool → List Placed → WsLayer → List ℕ → Bool → ℕ → Outcome
read_by met below ws u ended limit = if met then outcome 0 (Ws ws ∷ below) (Fault Epipe) else behind_passed below (passed limit ws u) (shown limit ended (passed limit ws u).ws (drop (passed limit ws u).used u))

by_met : (laws : FrameLaws) (limit : ℕ) (past : List Part) (below : List Placed) (ws : WsLayer) (u m : List ℕ) (ended met : Bool) → AreBytes u → HasPassed past ws
    → (read_by met below ws u ended limit).said ≡ Given (Bytes m) → JoinedStands ws.side past limit u m (read_by met below ws u ended limit).used
by_met laws limit past below ws u m ended true b h g = cc
by_met laws limit past below ws u m ended false b h g =
    let p : Passed = passed limit ws u in
    message_stands laws limit past ws u m p (shown limit ended p.ws (drop p.used u)) b h (passes_frames laws limit ws u b) (last_frame limit ended p.ws (drop p.used u) m g)

pub gives_joined : (laws : FrameLaws) (limit : ℕ) (past : List Part) (below : List Placed) (ws : WsLayer) (u m : List ℕ) (ended : Bool) → AreBytes u → HasPassed past ws → (read_ws below ws u ended limit).said ≡ Given (Bytes m) → JoinedStands ws.side past limit u m (read_ws below ws u ended limit).used
gives_joined laws limit past below ws u m ended b h g = by_met laws limit past below ws u m ended ws.met b h g

-- what is shown where more bytes are awaited: nothing is used behind what was passed
pub record IsWaiting (ws : WsLayer) (s : Shown) : Type 0 where
  pub used_is : s.used ≡ 0
  pub same : s.ws ≡ ws

by_text : (ws : WsLayer) (last : Part) (used : ℕ) (bad : Bool) → (text_by bad ws last used).said ≡ Need → ⊥
by_text ws last used true e = cc
by_text ws last used false e = cc

by_closed : (ws : WsLayer) (used : ℕ) (met : Bool) → (close_by met ws used).said ≡ Need → ⊥
by_closed ws used true e = cc
by_closed ws used false e = cc

by_waiting : (ended : Bool) (ws : WsLayer) (v : List ℕ) (f : WsFront) → (shown_by ended ws v f).said ≡ Need → IsWaiting ws (shown_by ended ws v f)
by_waiting ended ws v (Whole last used) e = by_kind (last.opcode == 8) e
  where
    by_kind : (c : Bool) → (frame_shown c ws last used).said ≡ Need → IsWaiting ws (frame_shown c ws last used)
    by_kind true q = absurd (by_closed ws used (is_some (close_of last.payload)) q)
    by_kind false q = absurd (by_text ws last used (unwrap_or ws.joining last.opcode == 1 && not (is_utf8 (ws.joined ++ last.payload))) q)
by_waiting ended ws v Short e = record { used_is = refl; same = refl }
by_waiting ended ws v (Refused x) e = cc

waiting : (limit : ℕ) (ended : Bool) (ws : WsLayer) (v : List ℕ) → (shown limit ended ws v).said ≡ Need → IsWaiting ws (shown limit ended ws v)
unfolding shown
waiting limit ended ws v e = by_waiting ended ws v (ws_front limit ws v) e

need_by : (laws : FrameLaws) (limit : ℕ) (past : List Part) (below : List Placed) (ws : WsLayer) (u : List ℕ) (ended met : Bool) → AreBytes u → HasPassed past ws
    → (read_by met below ws u ended limit).said ≡ Need → PassedOn past below ws u (read_by met below ws u ended limit)
need_by laws limit past below ws u ended true b h g = cc
need_by laws limit past below ws u ended false b h g =
    let p : Passed = passed limit ws u in
    let i : IsPassed limit ws u p = passes_frames laws limit ws u b in
    let s : Shown = shown limit ended p.ws (drop p.used u) in
    let w : IsWaiting p.ws s = waiting limit ended p.ws (drop p.used u) g in
    let used : p.used + s.used ≡ p.used = omega (arith, w.used_is) in
    record {
      parts = i.parts;
      after = p.ws;
      there = omega (arith, used, i.there);
      frames = subst (λ n. AreFrames (peer_of ws.side) i.parts (take n u)) (sym used) i.frames;
      layers = ap (λ x. Ws x ∷ below) w.same;
      passed = subst (HasPassed (past ++ i.parts)) (sym i.layer) (passed_more past ws i.parts h i.follows i.passing);
      pings = i.pings;
    }

pub needs_passed : (laws : FrameLaws) (limit : ℕ) (past : List Part) (below : List Placed) (ws : WsLayer) (u : List ℕ) (ended : Bool) → AreBytes u → HasPassed past ws → (read_ws below ws u ended limit).said ≡ Need → PassedOn past below ws u (read_ws below ws u ended limit)
needs_passed laws limit past below ws u ended b h g = need_by laws limit past below ws u ended ws.met b h g
