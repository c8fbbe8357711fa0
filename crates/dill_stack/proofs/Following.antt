-- The frames of one message come where they may.
use Rattle.std.proofs.Common.{◌≡◌, ◌-◌, [], ◌∷◌, ◌++◌, List, ℕ, zero, suc, length, sym, ap, ◌∙◌, refl, subst, Bool, true, false, not, ◌&&◌, ◌||◌, inl, inr, ◌⊎◌, leb, eqb}
use Rattle.std.specs.Prelude.{◌==◌, if◌then◌else◌, map, replicate, cond}
use Rattle.std.specs.List.{list_all}
use Rattle.std.proofs.lemmas.Bool.{false≢true, eqb-true, eqb-false, and_parts}
use Rattle.dill_ws.specs.declared.side.Side.{Side}
use Rattle.dill_ws.specs.Frames.{Part, Frame, Joined, data_parts, may_follow}
use Rattle.dill_stack.specs.WsReading.{is_data}
use Rattle.dill_stack.specs.Passing.{AreFrames, AreFollowing, is_passing, is_joining}
use Rattle.dill_stack.specs.Joining.{is_no_close}
use Rattle.dill_stack.proofs.OneMessage.{OpcodeAt, Open, is_some_part, first_opcode, data_behind, data_is}

-- the parts before the last one of a message don't end it, and the last one does
pub record IsOpened (ds : List Part) (last : Part) (opcode : ℕ) : Type 0 where
  pub open_parts : Open false ds
  pub last_opcode : OpcodeAt (is_some_part ds) last.opcode
  pub last_fin : last.fin ≡ true
  pub opcode_is : first_opcode ds last ≡ opcode

no_more : (k : ℕ) → [] ≡ replicate k false ++ true ∷ [] → ⊥
no_more zero e = cc
no_more (suc k) e = cc

some_more : (ds : List Part) (last : Part) → map (λ p. p.fin) (ds ++ last ∷ []) ≡ [] → ⊥
some_more [] last e = cc
some_more (d ∷ ds) last e = cc

-- the parts behind the first
later : (ds : List Part) (last : Part) (n k : ℕ) → map (λ p. p.opcode) (ds ++ last ∷ []) ≡ replicate n 0 → map (λ p. p.fin) (ds ++ last ∷ []) ≡ replicate k false ++ true ∷ [] → Open true ds × (last.opcode ≡ 0) × (last.fin ≡ true)
later [] last zero k e f = cc
later [] last (suc n) zero e f = (tt, cc, cc)
later [] last (suc n) (suc k) e f =
    let none : [] ≡ replicate k false ++ true ∷ [] = cc in
    absurd (no_more k none)
later (d ∷ ds) last zero k e f = cc
later (d ∷ ds) last (suc n) zero e f =
    let none : map (λ p. p.fin) (ds ++ last ∷ []) ≡ [] = cc in
    absurd (some_more ds last none)
later (d ∷ ds) last (suc n) (suc k) e f =
    let opcodes : map (λ p. p.opcode) (ds ++ last ∷ []) ≡ replicate n 0 = cc in
    let fins : map (λ p. p.fin) (ds ++ last ∷ []) ≡ replicate k false ++ true ∷ [] = cc in
    let rest : Open true ds × (last.opcode ≡ 0) × (last.fin ≡ true) = later ds last n k opcodes fins in
    let zero_is : d.opcode ≡ 0 = cc in
    let fin : d.fin ≡ false = cc in
    ((zero_is, fin, rest.0), rest.1, rest.2)

opened : (ds : List Part) (last : Part) (opcode n k : ℕ) → (opcode ≡ 1) ⊎ (opcode ≡ 2) → map (λ p. p.opcode) (ds ++ last ∷ []) ≡ opcode ∷ replicate n 0 → map (λ p. p.fin) (ds ++ last ∷ []) ≡ replicate k false ++ true ∷ [] → IsOpened ds last opcode
opened [] last opcode n zero kind e f =
    let same : last.opcode ≡ opcode = cc in
    record { open_parts = tt; last_opcode = subst (λ o. (o ≡ 1) ⊎ (o ≡ 2)) (sym same) kind; last_fin = cc; opcode_is = same }
opened [] last opcode n (suc k) kind e f =
    let none : [] ≡ replicate k false ++ true ∷ [] = cc in
    absurd (no_more k none)
opened (d ∷ ds) last opcode n zero kind e f =
    let none : map (λ p. p.fin) (ds ++ last ∷ []) ≡ [] = cc in
    absurd (some_more ds last none)
opened (d ∷ ds) last opcode n (suc k) kind e f =
    let same : d.opcode ≡ opcode = cc in
    let fin : d.fin ≡ false = cc in
    let opcodes : map (λ p. p.opcode) (ds ++ last ∷ []) ≡ replicate n 0 = cc in
    let fins : map (λ p. p.fin) (ds ++ last ∷ []) ≡ replicate k false ++ true ∷ [] = cc in
    let rest : Open true ds × (last.opcode ≡ 0) × (last.fin ≡ true) = later ds last n k opcodes fins in
    record { open_parts = (subst (λ o. (o ≡ 1) ⊎ (o ≡ 2)) (sym same) kind, fin, rest.0); last_opcode = rest.1; last_fin = rest.2; opcode_is = same }

pub message_opened : (before : List Part) (last : Part) (opcode : ℕ) (m : List ℕ) → is_data last.opcode ≡ true → Joined (before ++ last ∷ []) opcode m → IsOpened (data_parts before) last opcode
message_opened before last opcode m d j =
    let ds : data_parts (before ++ last ∷ []) ≡ data_parts before ++ last ∷ [] = data_behind before last d in
    opened (data_parts before) last opcode (length (data_parts (before ++ last ∷ [])) - 1) (length (data_parts (before ++ last ∷ [])) - 1) j.kind
    (ap (λ (x : List Part). map (λ p. p.opcode) x) (sym ds) ∙ j.opcodes)
    (ap (λ (x : List Part). map (λ p. p.fin) x) (sym ds) ∙ j.fins)

-- a part of a message may come where its opcode belongs
pub data_follows : (joining fin : Bool) (opcode n : ℕ) → OpcodeAt joining opcode → may_follow joining fin opcode n ≡ true
data_follows true fin opcode n e = subst (λ o. may_follow true fin o n ≡ true) (sym e) refl
data_follows false fin opcode n (inl e) = subst (λ o. may_follow false fin o n ≡ true) (sym e) refl
data_follows false fin opcode n (inr e) = subst (λ o. may_follow false fin o n ≡ true) (sym e) refl

-- a control frame that may come somewhere may come anywhere
control_follows : (j k fin : Bool) (opcode n : ℕ) → is_data opcode ≡ false → may_follow k fin opcode n ≡ true → may_follow j fin opcode n ≡ true
control_follows j k fin opcode n d m = by_kind (leb 8 opcode) m
  where
    by_zero : (z b : Bool) → eqb opcode 0 ≡ z → b ≡ false → (if z then k else b && not k) ≡ true → (if z then j else b && not j) ≡ true
    by_zero true b q e h = absurd (false≢true (sym d ∙ ap (λ o. is_data o) (eqb-true opcode 0 q)))
    by_zero false true q e h = cc
    by_zero false false q e h = cc

    by_kind : (c : Bool) → (if c then leb opcode 10 && fin && leb n 125 else if eqb opcode 0 then k else leb opcode 2 && not k) ≡ true
        → (if c then leb opcode 10 && fin && leb n 125 else if eqb opcode 0 then j else leb opcode 2 && not j) ≡ true
    by_kind true e = e
    by_kind false e = by_zero (eqb opcode 0) (leb opcode 2) refl d e

-- a control frame that isn't a close frame is passed
control_passing : (part : Part) (k : Bool) (n : ℕ) → is_data part.opcode ≡ false → may_follow k part.fin part.opcode n ≡ true → is_no_close part ≡ true → is_passing part ≡ true
control_passing part k n d m u = by_tests (part.opcode == 9) (part.opcode == 10) refl refl
  where
    not_true : (b : Bool) → not b ≡ true → b ≡ false
    not_true true e = cc
    not_true false e = refl

    by_tests : (a b : Bool) → (part.opcode == 9) ≡ a → (part.opcode == 10) ≡ b → (a || b || is_data part.opcode && not part.fin) ≡ true
    by_tests true b p q = refl
    by_tests false true p q = refl
    by_tests false false p q = absurd (false≢true (sym d ∙ data_is k part.fin part.opcode n m (eqb-false part.opcode 8 (not_true (part.opcode == 8) u)) (eqb-false part.opcode 9 p) (eqb-false part.opcode 10 q)))

-- and so is a part of a message that doesn't end it
data_passing : (a b c fin : Bool) → c ≡ true → fin ≡ false → (a || b || c && not fin) ≡ true
data_passing true b c fin e f = refl
data_passing false true c fin e f = refl
data_passing false false true false e f = refl
data_passing false false true true e f = cc
data_passing false false false fin e f = cc

-- The frames before the last one of a message come where they may, and are passed.
pub all_follow : (peer : Side) (joining : Bool) (parts : List Part) (w : List ℕ) → AreFrames peer parts w → Open joining (data_parts parts) → list_all is_no_close parts ≡ true → AreFollowing joining parts × (list_all is_passing parts ≡ true)
all_follow peer joining [] w f o u = (tt, refl)
all_follow peer joining (part ∷ parts) w f o u =
    let both : (is_no_close part ≡ true) × (list_all is_no_close parts ≡ true) = and_parts (is_no_close part) (list_all is_no_close parts) u in
    by_kind (is_data part.opcode) refl o both.0 (λ h. all_follow peer (is_joining joining part) parts f.1 f.4 h both.1)
  where
    all_two : (follows : may_follow joining part.fin part.opcode (length part.payload) ≡ true) → is_passing part ≡ true → AreFollowing (is_joining joining part) parts × (list_all is_passing parts ≡ true) → AreFollowing joining (part ∷ parts) × (list_all is_passing (part ∷ parts) ≡ true)
    all_two follows p rest = ((follows, rest.0), rw p rest.1)

    taken : (c fin : Bool) → c ≡ true → fin ≡ false → true ≡ (if c then not fin else joining)
    taken true false p q = refl
    taken true true p q = cc
    taken false fin p q = cc

    skipped : (c : Bool) → c ≡ false → joining ≡ (if c then not part.fin else joining)
    skipped true p = cc
    skipped false p = refl

    by_kind : (d : Bool) → is_data part.opcode ≡ d → Open joining (cond d (part ∷ data_parts parts) (data_parts parts)) → is_no_close part ≡ true
        → (Open (is_joining joining part) (data_parts parts) → AreFollowing (is_joining joining part) parts × (list_all is_passing parts ≡ true)) → AreFollowing joining (part ∷ parts) × (list_all is_passing (part ∷ parts) ≡ true)
    by_kind true d h n again =
        all_two (data_follows joining part.fin part.opcode (length part.payload) h.0) (data_passing (part.opcode == 9) (part.opcode == 10) (is_data part.opcode) part.fin d h.1)
        (again (subst (λ j. Open j (data_parts parts)) (taken (is_data part.opcode) part.fin d h.1) h.2))
    by_kind false d h n again =
        let frame : Frame peer part.fin part.opcode part.payload f.0 = f.2 in
        all_two (control_follows joining frame.joining part.fin part.opcode (length part.payload) d frame.allowed) (control_passing part frame.joining (length part.payload) d frame.allowed n)
        (again (subst (λ j. Open j (data_parts parts)) (skipped (is_data part.opcode) d) h))
