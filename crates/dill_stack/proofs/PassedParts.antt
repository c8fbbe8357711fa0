-- Frames that stand at the front are read, and those that don't end a message are passed.
use Rattle.std.proofs.Common.{slice_index, ◌%◌, ◌≡◌, ◌≤◌, ◌+◌, [], ◌∷◌, ◌++◌, List, ℕ, zero, suc, length, take, drop, arith, sym, ap, ◌∙◌, refl, subst, Bool, true, false, not, ◌&&◌, ◌||◌, Some, None, append_assoc, length-append, le-ltb}
use Rattle.std.specs.Prelude.{◌==◌, if◌then◌else◌, is_some, nat_lt}
use Rattle.std.specs.List.{list_all}
use Rattle.std.proofs.lemmas.Bool.{leb-true, ne_eqb, and_parts}
use Rattle.std.proofs.lemmas.List.{length-take-le, length-drop}
use Rattle.std.proofs.Math.Seq.{drop-append_seam}
use Rattle.dill_base.specs.declared.errno.Errno.TheVariants.{Emsgsize}
use Rattle.dill_ws.specs.declared.head.Head.{Head}
use Rattle.dill_ws.specs.Frames.{Part, Frame, peer_of, may_follow}
use Rattle.dill_ws.specs.FrameLaws.{FrameLaws, ReadsFrame, payload_at}
use Rattle.dill_stack.specs.Layers.{WsLayer}
use Rattle.dill_stack.specs.WsReading.{Passed, passed, passed_within, after_pass, then_passed, nothing_passed, pass_by_front, pass_of, ws_front, Whole, Short, Refused, judged, passes_limit, has_length, length_at, part_of, is_data, with_part}
use Rattle.dill_stack.specs.Passing.{AreFrames, AreFollowing, is_passing, is_joining, joining_behind, KeepsWithin, pings_of, with_parts}
use Rattle.dill_stack.proofs.Limits.{HeadShown, head_shown, length_masked, within_first, within_less}
use Rattle.dill_stack.proofs.Passings.{PassIs, pass_is, parts_more, pings_more, grows, unjoined}

-- the payload behind a head has the length that the head tells
payload_size : (h : Head) (u : List ℕ) → h.start + h.length ≤ length u → length (payload_at h u) ≡ h.length
payload_size h u l =
    let room : h.length ≤ length (drop h.start u) = omega (arith, l, length-drop h.start u) in
    length_masked h.key (take h.length (drop h.start u)) ∙ length-take-le h.length (drop h.start u) room

-- the limit is passed by a part of a message alone, and by none that fits
fits_limit : (a b c : Bool) → (b ≡ true → c ≡ false) → (a && b && c) ≡ false
fits_limit false b c f = refl
fits_limit true false c f = refl
fits_limit true true c f = f refl

whole_front : (over short : Bool) (part : Part) (n : ℕ) → over ≡ false → short ≡ false → (if not false && over then Refused Emsgsize else if short then Short else Whole part n) ≡ Whole part n
whole_front true short part n e f = cc
whole_front false true part n e f = cc
whole_front false false part n e f = refl

same_part : (fin other : Bool) (opcode code : ℕ) (payload text : List ℕ) → fin ≡ other → opcode ≡ code → payload ≡ text → let a : Part = record { fin = fin; opcode = opcode; payload = payload } in let b : Part = record { fin = other; opcode = code; payload = text } in a ≡ b
same_part fin other opcode code payload text e f g = cc

-- A frame that may come here, and keeps within the limit, is read.
pub front_whole : (laws : FrameLaws) (limit : ℕ) (ws : WsLayer) (part : Part) (w rest : List ℕ) → Frame (peer_of ws.side) part.fin part.opcode part.payload w → may_follow (is_some ws.joining) part.fin part.opcode (length part.payload) ≡ true
    → (is_data part.opcode ≡ true → length ws.joined + length part.payload ≤ limit) → ws_front limit ws (w ++ rest) ≡ Whole part (length w)
unfolding ws_front
front_whole laws limit ws part w rest f m l =
    let u : List ℕ = w ++ rest in
    let r : ReadsFrame ws.side (is_some ws.joining) part.fin part.opcode part.payload w rest = laws.received ws.side (is_some ws.joining) part.fin part.opcode part.payload w rest f m in
    let s : HeadShown ws.side u r.head = head_shown ws.side (is_some ws.joining) u r.head r.read in
    let there : r.head.start + r.head.length ≤ length u = omega (arith, r.used, length-append w rest) in
    let size : r.head.length ≡ length part.payload = sym (payload_size r.head u there) ∙ ap length r.payload_is in
    let opcode : slice_index u 0 % 16 ≡ part.opcode = ap (λ (h : Head). h.opcode) s.same ∙ r.opcode_is in
    let told : length_at u ≡ length part.payload = ap (λ (h : Head). h.length) s.same ∙ size in
    let within : passes_limit limit ws u ≡ false = fits_limit (has_length u) (is_data (slice_index u 0 % 16)) (nat_lt limit (length ws.joined + length_at u))
    (λ d. le-ltb limit (length ws.joined + length_at u) (omega (arith, told, l (ap (λ o. is_data o) (sym opcode) ∙ d)))) in
    let same : part_of r.head u ≡ part = same_part r.head.fin part.fin r.head.opcode part.opcode (payload_at r.head u) part.payload r.fin_is r.opcode_is r.payload_is in
    ap (judged limit ws u) r.read
    ∙ whole_front (passes_limit limit ws u) (nat_lt (length u) (r.head.start + r.head.length)) (part_of r.head u) (r.head.start + r.head.length) within (le-ltb (length u) (r.head.start + r.head.length) there)
    ∙ ap (λ n. Whole (part_of r.head u) n) r.used
    ∙ ap (λ p. Whole p (length w)) same

-- what is passed is some pass
some_pass : (a b c : Bool) (x y z : Passed) → (a || b || c) ≡ true → (q : Passed) × ((if a then Some x else if b then Some y else if c then Some z else None) ≡ Some q)
some_pass true b c x y z e = (x, refl)
some_pass false true c x y z e = (y, refl)
some_pass false false true x y z e = (z, refl)
some_pass false false false x y z e = cc

-- a frame that is passed, and what the pass is
pub record Passes (ws : WsLayer) (part : Part) (used : ℕ) : Type 0 where
  pub joins : is_some (with_parts (part ∷ []) ws).joining ≡ is_joining (is_some ws.joining) part
  pub pass : pass_of ws part used ≡ Some (record { used = used; ws = with_parts (part ∷ []) ws; pings = pings_of (part ∷ []) })

passes : (ws : WsLayer) (part : Part) (used : ℕ) → is_passing part ≡ true → Passes ws part used
passes ws part used p =
    let found : (q : Passed) × (pass_of ws part used ≡ Some q) = some_pass (part.opcode == 9) (part.opcode == 10) (is_data part.opcode && not part.fin) (record { used = used; ws = ws; pings = part.payload ∷ [] }) (record { used = used; ws = ws; pings = [] }) (record { used = used; ws = with_part part ws; pings = [] }) p in
    let is : PassIs ws part used found.0 = pass_is ws part used found.0 found.1 in
    record { joins = is.joins; pass = found.1 ∙ ap (λ q. Some q) is.whole }

none_pass : (a b c : Bool) (x y z : Passed) → a ≡ false → b ≡ false → c ≡ false → (if a then Some x else if b then Some y else if c then Some z else None) ≡ None
none_pass true b c x y z e f g = cc
none_pass false true c x y z e f g = cc
none_pass false false true x y z e f g = cc
none_pass false false false x y z e f g = refl

-- the last frame of a message isn't passed
pub last_stays : (ws : WsLayer) (last : Part) (used : ℕ) → is_data last.opcode ≡ true → last.fin ≡ true → pass_of ws last used ≡ None
last_stays ws last used d e =
    let l : last.opcode ≤ 2 = leb-true last.opcode 2 d in
    none_pass (last.opcode == 9) (last.opcode == 10) (is_data last.opcode && not last.fin) (record { used = used; ws = ws; pings = last.payload ∷ [] }) (record { used = used; ws = ws; pings = [] }) (record { used = used; ws = with_part last ws; pings = [] })
    (ne_eqb last.opcode 9 (λ q. omega arith)) (ne_eqb last.opcode 10 (λ q. omega arith)) (ended (is_data last.opcode) last.fin e)
  where
    ended : (c fin : Bool) → fin ≡ true → (c && not fin) ≡ false
    ended true true h = refl
    ended false true h = refl
    ended c false h = cc

-- a message is being joined in the layer behind these parts where they say so
pub joins_behind : (ws : WsLayer) (parts : List Part) → list_all is_passing parts ≡ true → is_some (with_parts parts ws).joining ≡ joining_behind (is_some ws.joining) parts
joins_behind ws [] p = refl
joins_behind ws (part ∷ parts) p =
    let both : (is_passing part ≡ true) × (list_all is_passing parts ≡ true) = and_parts (is_passing part) (list_all is_passing parts) p in
    let first : Passes ws part 0 = passes ws part 0 both.0 in
    ap (λ (x : WsLayer). is_some x.joining) (parts_more part parts ws) ∙ joins_behind (with_parts (part ∷ []) ws) parts both.1 ∙ ap (λ j. joining_behind j parts) first.joins

-- one pass, and those behind it
step_passed : (most limit : ℕ) (ws : WsLayer) (u x : List ℕ) (q r : Passed) → pass_by_front ws (ws_front limit ws u) ≡ Some q → drop q.used u ≡ x → passed_within most limit q.ws x ≡ r → passed_within (suc most) limit ws u ≡ then_passed q r
step_passed most limit ws u x q r e d i = ap (after_pass (passed_within most limit) ws u) e ∙ ap (λ v. then_passed q (passed_within most limit q.ws v)) d ∙ ap (then_passed q) i

-- frames that stand at the front, and behind them what isn't passed
pub record AtFront (limit : ℕ) (ws : WsLayer) (parts : List Part) (w rest : List ℕ) : Type 0 where
  pub frames : AreFrames (peer_of ws.side) parts w
  pub follows : AreFollowing (is_some ws.joining) parts
  pub passing : list_all is_passing parts ≡ true
  pub within : KeepsWithin limit ws parts
  pub stops : pass_by_front (with_parts parts ws) (ws_front limit (with_parts parts ws) rest) ≡ None

same_passed : (used n : ℕ) (ws x : WsLayer) (pings more : List (List ℕ)) → used ≡ n → ws ≡ x → pings ≡ more → let p : Passed = record { used = used; ws = ws; pings = pings } in let q : Passed = record { used = n; ws = x; pings = more } in p ≡ q
same_passed used n ws x pings more e f g = cc

passed_parts : (laws : FrameLaws) (most limit : ℕ) (ws : WsLayer) (parts : List Part) (w rest : List ℕ) → AtFront limit ws parts w rest → length (w ++ rest) ≤ most
    → passed_within most limit ws (w ++ rest) ≡ record { used = length w; ws = with_parts parts ws; pings = pings_of parts }
passed_parts laws zero limit ws [] w rest a l =
    subst (λ (x : List ℕ). nothing_passed ws ≡ record { used = length x; ws = with_parts [] ws; pings = [] }) (sym a.frames) (ap nothing_passed (unjoined ws))
passed_parts laws (suc most) limit ws [] w rest a l =
    let none : pass_by_front ws (ws_front limit ws rest) ≡ None = subst (λ (x : WsLayer). pass_by_front x (ws_front limit x rest) ≡ None) (sym (unjoined ws)) a.stops in
    subst (λ (x : List ℕ). passed_within (suc most) limit ws (x ++ rest) ≡ record { used = length x; ws = with_parts [] ws; pings = [] }) (sym a.frames)
    (ap (after_pass (passed_within most limit) ws rest) none ∙ ap nothing_passed (unjoined ws))
passed_parts laws zero limit ws (part ∷ parts) w rest a l =
    absurd (omega (arith, l, grows ws part a.frames.0 a.frames.2, ap length a.frames.3, length-append a.frames.0 a.frames.1, length-append w rest))
passed_parts laws (suc most) limit ws (part ∷ parts) w rest a l =
    let f : List ℕ = a.frames.0 in
    let x : List ℕ = a.frames.1 ++ rest in
    let both : (is_passing part ≡ true) × (list_all is_passing parts ≡ true) = and_parts (is_passing part) (list_all is_passing parts) a.passing in
    let p : Passes ws part (length f) = passes ws part (length f) both.0 in
    let behind : WsLayer = with_parts (part ∷ []) ws in
    let front : ws_front limit ws (f ++ x) ≡ Whole part (length f) = front_whole laws limit ws part f x a.frames.2 a.follows.0 (within_first limit ws part parts a.within) in
    let next : AtFront limit behind parts a.frames.1 rest = record {
      frames = a.frames.4;
      follows = subst (λ j. AreFollowing j parts) (sym p.joins) a.follows.1;
      passing = both.1;
      within = within_less limit ws part parts a.within;
      stops = subst (λ (y : WsLayer). pass_by_front y (ws_front limit y rest) ≡ None) (parts_more part parts ws) a.stops;
    } in
    let split : w ++ rest ≡ f ++ x = ap (λ y. y ++ rest) a.frames.3 ∙ append_assoc f a.frames.1 rest in
    let again : passed_within most limit behind x ≡ record { used = length a.frames.1; ws = with_parts parts behind; pings = pings_of parts } =
    passed_parts laws most limit behind parts a.frames.1 rest next (omega (arith, l, ap length split, length-append f x, grows ws part f a.frames.2)) in
    let step : passed_within (suc most) limit ws (f ++ x) ≡ then_passed (record { used = length f; ws = behind; pings = pings_of (part ∷ []) }) (record { used = length a.frames.1; ws = with_parts parts behind; pings = pings_of parts }) =
    step_passed most limit ws (f ++ x) x (record { used = length f; ws = behind; pings = pings_of (part ∷ []) }) (record { used = length a.frames.1; ws = with_parts parts behind; pings = pings_of parts }) (ap (pass_by_front ws) front ∙ p.pass) (drop-append_seam f x) again in
    ap (passed_within (suc most) limit ws) split
    ∙ step
    ∙ same_passed (length f + length a.frames.1) (length w) (with_parts parts behind) (with_parts (part ∷ parts) ws) (pings_of (part ∷ []) ++ pings_of parts) (pings_of (part ∷ parts)) (omega (arith, ap length a.frames.3, length-append f a.frames.1)) (sym (parts_more part parts ws)) (sym (pings_more part parts))

-- All frames that may be passed are, where what stands behind them isn't.
pub passed_front : (laws : FrameLaws) (limit : ℕ) (ws : WsLayer) (parts : List Part) (u w rest : List ℕ) → AtFront limit ws parts w rest → u ≡ w ++ rest → passed limit ws u ≡ record { used = length w; ws = with_parts parts ws; pings = pings_of parts }
unfolding passed
passed_front laws limit ws parts u w rest a e = ap (λ x. passed_within (length x) limit ws x) e ∙ passed_parts laws (length (w ++ rest)) limit ws parts w rest a (omega arith)
