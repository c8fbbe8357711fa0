-- A message that stands at the front as frames is given.
use Rattle.std.proofs.Common.{◌≡◌, ◌≤◌, ◌+◌, [], ◌∷◌, ◌++◌, List, ℕ, length, take, drop, arith, sym, ap, ◌∙◌, refl, subst, Bool, true, false, not, ◌&&◌, ◌||◌, None, append_assoc, append-nil, length-append, inr}
use Rattle.std.specs.Prelude.{◌==◌, if◌then◌else◌, is_some, flat_map, IsUtf8}
use Rattle.std.specs.List.{list_all}
use Rattle.std.specs.Option.{unwrap_or}
use Rattle.std.specs.Str.{is_utf8}
use Rattle.std.proofs.lemmas.Bool.{eqb-true, leb-true, ne_eqb, and_parts}
use Rattle.std.proofs.lemmas.Str.{is_utf8-from_IsUtf8}
use Rattle.std.proofs.lemmas.List.{length-take-le, take-append-drop}
use Rattle.std.proofs.Math.Seq.{drop-append_seam}
use Rattle.dill_base.specs.declared.errno.Errno.TheVariants.{Epipe, Eproto}
use Rattle.dill_calls.specs.declared.answer.Answer.TheVariants.{Bytes}
use Rattle.dill_ws.specs.declared.side.Side.{Side}
use Rattle.dill_ws.specs.Frames.{Part, Frame, Joined, peer_of, data_parts, may_follow}
use Rattle.dill_ws.specs.FrameLaws.{FrameLaws}
use Rattle.dill_stack.specs.declared.want.ReadOut.TheVariants.{Given, Fault}
use Rattle.dill_stack.specs.Layers.{Placed, Ws, WsLayer}
use Rattle.dill_stack.specs.WsReading.{Passed, passed, pass_by_front, ws_front, Whole, Shown, shown, shown_by, close_met, message_of, is_data}
use Rattle.dill_stack.specs.Passing.{AreFrames, AreFollowing, is_passing, joined_size, pings_of, with_parts}
use Rattle.dill_stack.specs.Read.{Outcome, outcome, behind_passed, read_ws}
use Rattle.dill_stack.specs.Joining.{HasPassed, JoinedStands, joined_outcome, is_no_close}
use Rattle.dill_stack.proofs.OneMessage.{OpcodeAt, Open, is_some_part, first_opcode, joining_is, data_behind, texts_behind}
use Rattle.dill_stack.proofs.PassedBehind.{data_append, state_is, passed_more}
use Rattle.dill_stack.proofs.Following.{IsOpened, message_opened, data_follows, all_follow}
use Rattle.dill_stack.proofs.PassedParts.{AtFront, front_whole, last_stays, passed_front}

-- some frames and the one behind them
pub record IsSplit (peer : Side) (parts : List Part) (last : Part) (x : List ℕ) : Type 0 where
  pub first : List ℕ
  pub second : List ℕ
  pub frames : AreFrames peer parts first
  pub frame : Frame peer last.fin last.opcode last.payload second
  pub whole : x ≡ first ++ second

pub frames_split : (peer : Side) (parts : List Part) (last : Part) (x : List ℕ) → AreFrames peer (parts ++ last ∷ []) x → IsSplit peer parts last x
frames_split peer [] last x f = record { first = []; second = f.0; frames = refl; frame = f.2; whole = f.3 ∙ ap (λ r. f.0 ++ r) f.4 ∙ append-nil f.0 }
frames_split peer (part ∷ parts) last x f =
    let r : IsSplit peer parts last f.1 = frames_split peer parts last f.1 f.4 in
    record { first = f.0 ++ r.first; second = r.second; frames = (f.0, r.first, f.2, refl, r.frames); frame = r.frame; whole = f.3 ∙ ap (λ y. f.0 ++ y) r.whole ∙ sym (append_assoc f.0 r.first r.second) }

all_before : (parts : List Part) (last : Part) → list_all is_no_close (parts ++ last ∷ []) ≡ true → list_all is_no_close parts ≡ true
all_before [] last e = refl
all_before (part ∷ parts) last e =
    let both : (is_no_close part ≡ true) × (list_all is_no_close (parts ++ last ∷ []) ≡ true) = and_parts (is_no_close part) (list_all is_no_close (parts ++ last ∷ [])) e in
    rw both.0 (all_before parts last both.1)

-- a text that is UTF-8 is no reason to refuse it
fine_text : (opcode : ℕ) (t : List ℕ) → (opcode ≡ 1 → IsUtf8 t) → (opcode == 1 && not (is_utf8 t)) ≡ false
fine_text opcode t f = by_test (opcode == 1) refl
  where
    by_test : (b : Bool) → (opcode == 1) ≡ b → (b && not (is_utf8 t)) ≡ false
    by_test true e = ap (λ b. not b) (is_utf8-from_IsUtf8 t (f (eqb-true opcode 1 e)))
    by_test false e = refl

other_shown : (b : Bool) (x y : Shown) → b ≡ false → (if b then x else y) ≡ y
other_shown true x y e = cc
other_shown false x y e = refl

-- what is shown by the last frame of a message
message_shown : (limit : ℕ) (ended : Bool) (ws : WsLayer) (u m : List ℕ) (last : Part) (used : ℕ) → ws_front limit ws u ≡ Whole last used → is_data last.opcode ≡ true → (unwrap_or ws.joining last.opcode ≡ 1 → IsUtf8 (ws.joined ++ last.payload)) → ws.joined ++ last.payload ≡ m
    → shown limit ended ws u ≡ record { used = used; ws = record ws { joining = None; joined = [] }; said = Given (Bytes m) }
unfolding shown
message_shown limit ended ws u m last used f d t e =
    let l : last.opcode ≤ 2 = leb-true last.opcode 2 d in
    ap (shown_by ended ws u) f
    ∙ other_shown (last.opcode == 8) (close_met ws last used) (message_of ws last used) (ne_eqb last.opcode 8 (λ q. omega arith))
    ∙ other_shown (unwrap_or ws.joining last.opcode == 1 && not (is_utf8 (ws.joined ++ last.payload))) (record { used = 0; ws = ws; said = Fault Eproto }) (record { used = used; ws = record ws { joining = None; joined = [] }; said = Given (Bytes (ws.joined ++ last.payload)) })
    (fine_text (unwrap_or ws.joining last.opcode) (ws.joined ++ last.payload) t)
    ∙ ap (λ x. let s : Shown = record { used = used; ws = record ws { joining = None; joined = [] }; said = Given (Bytes x) } in s) e

-- the parts of one message behind some of them
open_behind : (joining : Bool) (a b : List Part) → Open joining (a ++ b) → Open (joining || is_some_part a) b
open_behind true [] b o = o
open_behind false [] b o = o
open_behind true (d ∷ a) b o = open_behind true a b o.2
open_behind false (d ∷ a) b o = open_behind true a b o.2

-- what is read where no close frame was met: the frames that were passed, and what the last one shows
pub read_shown : (limit : ℕ) (below : List Placed) (ws : WsLayer) (u x : List ℕ) (ended : Bool) (p : Passed) (s : Shown) → ws.met ≡ false → passed limit ws u ≡ p → drop p.used u ≡ x → shown limit ended p.ws x ≡ s → read_ws below ws u ended limit ≡ behind_passed below p s
read_shown limit below ws u x ended p s met e d f =
    unmet ws.met (outcome 0 (Ws ws ∷ below) (Fault Epipe)) (behind_passed below (passed limit ws u) (shown limit ended (passed limit ws u).ws (drop (passed limit ws u).used u))) met
    ∙ ap (λ q. behind_passed below q (shown limit ended q.ws (drop q.used u))) e
    ∙ ap (λ y. behind_passed below p (shown limit ended p.ws y)) d
    ∙ ap (behind_passed below p) f
  where
    unmet : (b : Bool) (y z : Outcome) → b ≡ false → (if b then y else z) ≡ z
    unmet true y z h = cc
    unmet false y z h = refl

-- the frames of a message that stand at the front, where some were passed before
pub record StandsAt (limit : ℕ) (past : List Part) (ws : WsLayer) (m : List ℕ) (before : List Part) (last : Part) : Type 0 where
  pub follows : AreFollowing (is_some ws.joining) before
  pub passing : list_all is_passing before ≡ true
  pub short : length ws.joined + joined_size before + length last.payload ≤ limit
  pub allowed : may_follow (is_some (with_parts before ws).joining) last.fin last.opcode (length last.payload) ≡ true
  pub fin : last.fin ≡ true
  pub opcode : ℕ
  pub opcode_is : first_opcode (data_parts (past ++ before)) last ≡ opcode
  pub text : opcode ≡ 1 → IsUtf8 m
  pub together : flat_map (λ p. p.payload) (data_parts (past ++ before)) ++ last.payload ≡ m
  pub now : HasPassed (past ++ before) (with_parts before ws)

stands_at : (limit : ℕ) (past : List Part) (ws : WsLayer) (u m : List ℕ) (n : ℕ) (w : List ℕ) → HasPassed past ws → (s : JoinedStands ws.side past limit u m n) → AreFrames (peer_of ws.side) s.before w → StandsAt limit past ws m s.before s.last
stands_at limit past ws u m n w h s frames =
    let all : List Part = past ++ s.before in
    let joined : Joined (all ++ s.last ∷ []) s.opcode m = subst (λ (ps : List Part). Joined ps s.opcode m) (sym (append_assoc past s.before (s.last ∷ []))) s.joined in
    let o : IsOpened (data_parts all) s.last s.opcode = message_opened all s.last s.opcode m s.ends joined in
    let parts_open : Open (is_some_part (data_parts past)) (data_parts s.before) = open_behind false (data_parts past) (data_parts s.before) (subst (Open false) (data_append past s.before) o.open_parts) in
    let state : is_some_part (data_parts past) ≡ is_some ws.joining = sym (joining_is false past h.passing) ∙ sym (state_is past ws h) in
    let follow : AreFollowing (is_some ws.joining) s.before × (list_all is_passing s.before ≡ true) =
    all_follow (peer_of ws.side) (is_some ws.joining) s.before w frames (subst (λ j. Open j (data_parts s.before)) state parts_open) (all_before s.before s.last s.unclosed) in
    let now : HasPassed all (with_parts s.before ws) = passed_more past ws s.before h follow.0 follow.1 in
    let text : flat_map (λ p. p.payload) (data_parts all) ++ s.last.payload ≡ m =
    sym (texts_behind (data_parts all) s.last) ∙ ap (λ (x : List Part). flat_map (λ p. p.payload) x) (sym (data_behind all s.last s.ends)) ∙ joined.together in
    let at : OpcodeAt (is_some (with_parts s.before ws).joining) s.last.opcode =
    subst (λ b. OpcodeAt b s.last.opcode) (sym (joining_is false all now.passing) ∙ sym (state_is all (with_parts s.before ws) now)) o.last_opcode in
    record {
      follows = follow.0;
      passing = follow.1;
      short = omega (arith, s.short, ap length text, length-append (flat_map (λ p. p.payload) (data_parts all)) s.last.payload, ap length now.joined, length-append ws.joined (flat_map (λ p. p.payload) (data_parts s.before)));
      allowed = data_follows (is_some (with_parts s.before ws).joining) s.last.fin s.last.opcode (length s.last.payload) at;
      fin = o.last_fin;
      opcode = s.opcode;
      opcode_is = o.opcode_is;
      text = s.text;
      together = text;
      now = now;
    }

pub joined_gives : (laws : FrameLaws) (limit : ℕ) (past : List Part) (below : List Placed) (ws : WsLayer) (u m : List ℕ) (n : ℕ) (ended : Bool) → HasPassed past ws → ws.met ≡ false → (stands : JoinedStands ws.side past limit u m n) → read_ws below ws u ended limit ≡ joined_outcome below ws n stands.before m
joined_gives laws limit past below ws u m n ended h met s =
    let k : IsSplit (peer_of ws.side) s.before s.last (take n u) = frames_split (peer_of ws.side) s.before s.last (take n u) s.frames in
    let rest : List ℕ = drop n u in
    let whole : u ≡ k.first ++ (k.second ++ rest) = sym (take-append-drop n u) ∙ ap (λ x. x ++ rest) k.whole ∙ append_assoc k.first k.second rest in
    let a : StandsAt limit past ws m s.before s.last = stands_at limit past ws u m n k.first h s k.frames in
    let behind : WsLayer = with_parts s.before ws in
    let text : behind.joined ++ s.last.payload ≡ m = ap (λ x. x ++ s.last.payload) a.now.joined ∙ a.together in
    let opcode : unwrap_or behind.joining s.last.opcode ≡ a.opcode = ap (λ x. unwrap_or x s.last.opcode) a.now.joining ∙ a.opcode_is in
    let front : ws_front limit behind (k.second ++ rest) ≡ Whole s.last (length k.second) =
    front_whole laws limit behind s.last k.second rest k.frame a.allowed (λ d. omega (arith, a.short, length-append ws.joined (flat_map (λ p. p.payload) (data_parts s.before)))) in
    let at : AtFront limit ws s.before k.first (k.second ++ rest) = record {
      frames = k.frames;
      follows = a.follows;
      passing = a.passing;
      within = inr (omega (arith, a.short));
      stops = ap (pass_by_front behind) front ∙ last_stays behind s.last (length k.second) s.ends a.fin;
    } in
    let answer : Shown = record { used = length k.second; ws = record behind { joining = None; joined = [] }; said = Given (Bytes m) } in
    let last_is : shown limit ended behind (k.second ++ rest) ≡ answer =
    message_shown limit ended behind (k.second ++ rest) m s.last (length k.second) front s.ends (λ one. subst IsUtf8 (sym text) (a.text (sym opcode ∙ one))) text in
    let used : length k.first + length k.second ≡ n = omega (arith, sym (length-take-le n u s.there), ap length k.whole, length-append k.first k.second) in
    read_shown limit below ws u (k.second ++ rest) ended (record { used = length k.first; ws = behind; pings = pings_of s.before }) answer met (passed_front laws limit ws s.before u k.first (k.second ++ rest) at whole) (ap (drop (length k.first)) whole ∙ drop-append_seam k.first (k.second ++ rest)) last_is
    ∙ ap (λ x. joined_outcome below ws x s.before m) used
