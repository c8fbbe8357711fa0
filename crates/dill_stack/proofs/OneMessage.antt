-- The parts of one message, among frames that come between them.
use Rattle.std.proofs.Common.{◌≡◌, ◌≤◌, ◌-◌, [], ◌∷◌, ◌++◌, List, ℕ, zero, suc, length, arith, sym, ap, ◌∙◌, refl, subst, Bool, true, false, not, ◌&&◌, ◌||◌, None, inl, inr, ◌⊎◌, leb, eqb, append_assoc, append-nil, length-append}
use Rattle.std.specs.Prelude.{◌==◌, if◌then◌else◌, map, flat_map, replicate, cond}
use Rattle.std.specs.List.{list_all}
use Rattle.std.specs.Option.{unwrap_or}
use Rattle.std.proofs.lemmas.Bool.{leb-true, eqb-true, ne_eqb, and_parts}
use Rattle.dill_ws.specs.declared.side.Side.{Side}
use Rattle.dill_ws.specs.Frames.{Part, Frame, Joined, data_parts, may_follow}
use Rattle.dill_stack.specs.WsReading.{is_data}
use Rattle.dill_stack.specs.Passing.{AreFrames, is_passing, begun, AreFollowing, is_joining, joining_behind}

-- the opcode of a part where a message is being joined, and where none is
abbrev pub OpcodeAt : Bool → ℕ → Type 0
OpcodeAt true opcode = opcode ≡ 0
OpcodeAt false opcode = (opcode ≡ 1) ⊎ (opcode ≡ 2)

one_or_two : (opcode : ℕ) → opcode ≤ 2 → eqb opcode 0 ≡ false → (opcode ≡ 1) ⊎ (opcode ≡ 2)
one_or_two zero l e = cc
one_or_two (suc zero) l e = inl refl
one_or_two (suc (suc zero)) l e = inr refl
one_or_two (suc (suc (suc n))) l e = absurd (omega arith)

pub opcode_at : (joining fin : Bool) (opcode n : ℕ) → may_follow joining fin opcode n ≡ true → opcode ≤ 2 → OpcodeAt joining opcode
opcode_at joining fin opcode n m l = by_kind (leb 8 opcode) refl m
  where
    by_zero : (j : Bool) (z : Bool) → eqb opcode 0 ≡ z → (if z then j else leb opcode 2 && not j) ≡ true → OpcodeAt j opcode
    by_zero true true z e = eqb-true opcode 0 z
    by_zero false true z e = cc
    by_zero true false z e = absurd (off (leb opcode 2) e)
      where
        off : (b : Bool) → (b && not true) ≡ true → ⊥
        off true h = cc
        off false h = cc
    by_zero false false z e = one_or_two opcode l z

    by_kind : (k : Bool) → leb 8 opcode ≡ k → (if k then leb opcode 10 && fin && leb n 125 else if eqb opcode 0 then joining else leb opcode 2 && not joining) ≡ true → OpcodeAt joining opcode
    by_kind true k e = absurd (omega (arith, leb-true 8 opcode k))
    by_kind false k e = by_zero joining (eqb opcode 0) refl e

-- the parts of one message, one behind the other, of which none ends it
abbrev pub Open : Bool → List Part → Type 0
Open joining [] = Unit {0}
Open joining (d ∷ ds) = OpcodeAt joining d.opcode × (d.fin ≡ false) × Open true ds

not_last : (a b c fin : Bool) → a ≡ false → b ≡ false → c ≡ true → (a || b || c && not fin) ≡ true → fin ≡ false
not_last a b c true x y z e = cc
not_last a b c false x y z e = refl

open_fin : (part : Part) → is_passing part ≡ true → is_data part.opcode ≡ true → part.fin ≡ false
open_fin part p d =
    let l : part.opcode ≤ 2 = leb-true part.opcode 2 d in
    not_last (part.opcode == 9) (part.opcode == 10) (is_data part.opcode) part.fin (ne_eqb part.opcode 9 (λ q. omega arith)) (ne_eqb part.opcode 10 (λ q. omega arith)) d p

-- the parts of messages among those that are passed
open_parts : (joining : Bool) (parts : List Part) → AreFollowing joining parts → list_all is_passing parts ≡ true → Open joining (data_parts parts)
open_parts joining [] f p = tt
open_parts joining (part ∷ parts) f p = by_kind (is_data part.opcode) refl (open_parts (is_joining joining part) parts f.1 (and_parts (is_passing part) (list_all is_passing parts) p).1)
  where
    by_kind : (d : Bool) → is_data part.opcode ≡ d → Open (if is_data part.opcode then not part.fin else joining) (data_parts parts) → Open joining (cond d (part ∷ data_parts parts) (data_parts parts))
    by_kind true d rest =
        let fin : part.fin ≡ false = open_fin part (and_parts (is_passing part) (list_all is_passing parts) p).0 d in
        let at : OpcodeAt joining part.opcode = opcode_at joining part.fin part.opcode (length part.payload) f.0 (leb-true part.opcode 2 d) in
        (at, fin, subst (λ b. Open b (data_parts parts)) (taken (is_data part.opcode) part.fin d fin) rest)
      where
        taken : (c x : Bool) → c ≡ true → x ≡ false → (if c then not x else joining) ≡ true
        taken true false h i = refl
        taken true true h i = cc
        taken false x h i = cc
    by_kind false d rest = subst (λ b. Open b (data_parts parts)) (skipped (is_data part.opcode) part.fin d) rest
      where
        skipped : (c x : Bool) → c ≡ false → (if c then not x else joining) ≡ joining
        skipped true x h = cc
        skipped false x h = refl

abbrev pub is_some_part : List Part → Bool
is_some_part [] = false
is_some_part (d ∷ ds) = true

or_false : (j : Bool) → j ≡ (j || false)
or_false true = refl
or_false false = refl

or_true : (j : Bool) → true ≡ (j || true)
or_true true = refl
or_true false = refl

-- a message is being joined where one was, or where a part of one came
pub joining_is : (joining : Bool) (parts : List Part) → list_all is_passing parts ≡ true → joining_behind joining parts ≡ (joining || is_some_part (data_parts parts))
joining_is joining [] p = or_false joining
joining_is joining (part ∷ parts) p = joining_is (is_joining joining part) parts (and_parts (is_passing part) (list_all is_passing parts) p).1 ∙ by_kind (is_data part.opcode) refl
  where
    by_kind : (d : Bool) → is_data part.opcode ≡ d → ((if is_data part.opcode then not part.fin else joining) || is_some_part (data_parts parts)) ≡ (joining || is_some_part (cond d (part ∷ data_parts parts) (data_parts parts)))
    by_kind true d = taken (is_data part.opcode) part.fin d (open_fin part (and_parts (is_passing part) (list_all is_passing parts) p).0 d)
      where
        taken : (c x : Bool) → c ≡ true → x ≡ false → ((if c then not x else joining) || is_some_part (data_parts parts)) ≡ (joining || true)
        taken true false h i = or_true joining
        taken true true h i = cc
        taken false x h i = cc
    by_kind false d = skipped (is_data part.opcode) part.fin d
      where
        skipped : (c x : Bool) → c ≡ false → ((if c then not x else joining) || is_some_part (data_parts parts)) ≡ (joining || is_some_part (data_parts parts))
        skipped true x h = cc
        skipped false x h = refl

-- continuations, and the last one with FIN
later_opcodes : (ds : List Part) (last : Part) → Open true ds → last.opcode ≡ 0 → map (λ p. p.opcode) (ds ++ last ∷ []) ≡ replicate (length (ds ++ last ∷ [])) 0
later_opcodes [] last o e = ap (λ k. k ∷ []) e
later_opcodes (d ∷ ds) last o e =
    let rest : map (λ p. p.opcode) (ds ++ last ∷ []) ≡ replicate (length (ds ++ last ∷ [])) 0 = later_opcodes ds last o.2 e in
    ap (λ k. k ∷ map (λ p. p.opcode) (ds ++ last ∷ [])) o.0 ∙ ap (λ k. 0 ∷ k) rest ∙ one_more (length (ds ++ last ∷ [])) 0
  where
    one_more : (n x : ℕ) → x ∷ replicate n x ≡ replicate (suc n) x
    one_more n x = refl

fins_before : (joining : Bool) (ds : List Part) (last : Part) → Open joining ds → last.fin ≡ true → map (λ p. p.fin) (ds ++ last ∷ []) ≡ replicate (length ds) false ++ true ∷ []
fins_before joining [] last o e = ap (λ k. k ∷ []) e
fins_before joining (d ∷ ds) last o e = ap (λ k. k ∷ map (λ p. p.fin) (ds ++ last ∷ [])) o.1 ∙ ap (λ k. false ∷ k) (fins_before true ds last o.2 e)

-- all but one of some parts with one behind them
all_but_one : (ds : List Part) (last : Part) → length (ds ++ last ∷ []) - 1 ≡ length ds
all_but_one ds last = omega (arith, length-append ds (last ∷ []))

-- the opcode of the message that some parts and the last one are
abbrev pub first_opcode : List Part → Part → ℕ
first_opcode ds last = unwrap_or (begun None ds) last.opcode

-- parts of one message, and the last one with FIN
pub record IsMessageOf (ds : List Part) (last : Part) : Type 0 where
  pub kind : (first_opcode ds last ≡ 1) ⊎ (first_opcode ds last ≡ 2)
  pub opcodes : map (λ p. p.opcode) (ds ++ last ∷ []) ≡ first_opcode ds last ∷ replicate (length (ds ++ last ∷ []) - 1) 0
  pub fins : map (λ p. p.fin) (ds ++ last ∷ []) ≡ replicate (length (ds ++ last ∷ []) - 1) false ++ true ∷ []

message_parts : (ds : List Part) (last : Part) → Open false ds → OpcodeAt (is_some_part ds) last.opcode → last.fin ≡ true → IsMessageOf ds last
message_parts [] last o k e = record { kind = k; opcodes = refl; fins = ap (λ x. x ∷ []) e }
message_parts (d ∷ ds) last o k e =
    record {
      kind = o.0;
      opcodes = ap (λ x. d.opcode ∷ x) (later_opcodes ds last o.2 k) ∙ ap (λ n. d.opcode ∷ replicate n 0) (sym (behind_one ds));
      fins = fins_before false (d ∷ ds) last o e ∙ ap (λ n. replicate n false ++ true ∷ []) (sym (all_but_one (d ∷ ds) last));
    }
  where
    behind_one : (ds : List Part) → length (d ∷ ds ++ last ∷ []) - 1 ≡ length (ds ++ last ∷ [])
    behind_one ds = omega arith

-- the parts of messages among some frames and one behind them
pub data_behind : (parts : List Part) (last : Part) → is_data last.opcode ≡ true → data_parts (parts ++ last ∷ []) ≡ data_parts parts ++ last ∷ []
data_behind [] last d = picked (is_data last.opcode) d
  where
    picked : (b : Bool) → b ≡ true → cond b (last ∷ []) [] ≡ last ∷ []
    picked true e = refl
    picked false e = cc
data_behind (part ∷ parts) last d = by_kind (is_data part.opcode) (data_behind parts last d)
  where
    by_kind : (b : Bool) → data_parts (parts ++ last ∷ []) ≡ data_parts parts ++ last ∷ [] → cond b (part ∷ data_parts (parts ++ last ∷ [])) (data_parts (parts ++ last ∷ [])) ≡ cond b (part ∷ data_parts parts) (data_parts parts) ++ last ∷ []
    by_kind true e = ap (λ x. part ∷ x) e
    by_kind false e = e

pub texts_behind : (ds : List Part) (last : Part) → flat_map (λ p. p.payload) (ds ++ last ∷ []) ≡ flat_map (λ p. p.payload) ds ++ last.payload
texts_behind [] last = append-nil last.payload
texts_behind (d ∷ ds) last = ap (λ x. d.payload ++ x) (texts_behind ds last) ∙ sym (append_assoc d.payload (flat_map (λ p. p.payload) ds) last.payload)

-- the frames that were passed and the last one are one message
pub message_joined : (parts : List Part) (last : Part) → AreFollowing false parts → list_all is_passing parts ≡ true → OpcodeAt (joining_behind false parts) last.opcode → is_data last.opcode ≡ true → last.fin ≡ true
    → Joined (parts ++ last ∷ []) (first_opcode (data_parts parts) last) (flat_map (λ p. p.payload) (data_parts parts) ++ last.payload)
message_joined parts last f p k d e =
    let m : IsMessageOf (data_parts parts) last = message_parts (data_parts parts) last (open_parts false parts f p) (subst (λ b. OpcodeAt b last.opcode) (joining_is false parts p) k) e in
    let ds : data_parts (parts ++ last ∷ []) ≡ data_parts parts ++ last ∷ [] = data_behind parts last d in
    record {
      kind = m.kind;
      opcodes = subst (λ (x : List Part). map (λ q. q.opcode) x ≡ first_opcode (data_parts parts) last ∷ replicate (length x - 1) 0) (sym ds) m.opcodes;
      fins = subst (λ (x : List Part). map (λ q. q.fin) x ≡ replicate (length x - 1) false ++ true ∷ []) (sym ds) m.fins;
      together = ap (flat_map (λ q. q.payload)) ds ∙ texts_behind (data_parts parts) last;
    }

pub frames_behind : (peer : Side) (parts : List Part) (last : Part) (w v : List ℕ) → AreFrames peer parts w → Frame peer last.fin last.opcode last.payload v → AreFrames peer (parts ++ last ∷ []) (w ++ v)
frames_behind peer [] last w v a f = (v, [], f, ap (λ x. x ++ v) a ∙ sym (append-nil v), refl)
frames_behind peer (part ∷ parts) last w v a f =
    (a.0, a.1 ++ v, a.2, ap (λ x. x ++ v) a.3 ∙ append_assoc a.0 a.1 v, frames_behind peer parts last a.1 v a.4 f)

-- a frame that may come and is no control frame is a part of a message
pub data_is : (joining fin : Bool) (opcode n : ℕ) → may_follow joining fin opcode n ≡ true → (opcode ≡ 8 → ⊥) → (opcode ≡ 9 → ⊥) → (opcode ≡ 10 → ⊥) → is_data opcode ≡ true
data_is joining fin opcode n m a b c = by_kind (leb 8 opcode) refl m
  where
    by_kind : (k : Bool) → leb 8 opcode ≡ k → (if k then leb opcode 10 && fin && leb n 125 else if eqb opcode 0 then joining else leb opcode 2 && not joining) ≡ true → is_data opcode ≡ true
    by_kind true k e = absurd (no_control opcode (leb-true 8 opcode k) (leb-true opcode 10 (front_true (leb opcode 10) fin (leb n 125) e)) a b c)
      where
        front_true : (x y z : Bool) → (x && y && z) ≡ true → x ≡ true
        front_true true y z h = refl
        front_true false y z h = cc

        no_control : (o : ℕ) → 8 ≤ o → o ≤ 10 → (o ≡ 8 → ⊥) → (o ≡ 9 → ⊥) → (o ≡ 10 → ⊥) → ⊥
        no_control o l h p q r = p (omega (arith, below o l h q r))
          where
            below : (o : ℕ) → 8 ≤ o → o ≤ 10 → (o ≡ 9 → ⊥) → (o ≡ 10 → ⊥) → o ≤ 8
            below o l h q r = omega arith
    by_kind false k e = by_zero (eqb opcode 0) refl e
      where
        by_zero : (z : Bool) → eqb opcode 0 ≡ z → (if z then joining else leb opcode 2 && not joining) ≡ true → is_data opcode ≡ true
        by_zero true z h = ap (λ o. is_data o) (eqb-true opcode 0 z)
        by_zero false z h = (and_parts (leb opcode 2) (not joining) h).0
