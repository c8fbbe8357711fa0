-- The laws of lines.
use Rattle.std.proofs.Common.{◌≡◌, ◌<◌, ◌≤◌, ◌-◌, ◌+◌, ◌++◌, ◌∷◌, [], List, ℕ, length, take, drop, arith, refl, sym, ap, ◌∙◌, subst, Bool, true, false, not, ◌&&◌, ◌||◌, eqb, inl, inr, Some, None, append_assoc, length-append, if◌then◌else◌}
use Rattle.std.specs.List.{list_all, prefix_len}
use Rattle.std.proofs.lemmas.Bool.{cases_lt, eqb-true, eq-eqb}
use Rattle.std.proofs.lemmas.List.{append-nil, take_at, take-append-le, take-append-drop}
use Rattle.std.proofs.Math.Seq.{take-append-add}
use Rattle.dill_base.specs.Reading.{IsFront, IsWhole, IsOpen, IsShown}
use Rattle.dill_base.specs.declared.errno.Errno.{Errno}
use Rattle.dill_base.specs.declared.errno.Errno.TheVariants.{Emsgsize, Eproto}
use Rattle.dill_base.specs.declared.errno.Front.{Front}
use Rattle.dill_base.specs.declared.errno.Front.TheVariants.{Whole, Need, Fault}
use Rattle.dill_http.specs.Bytes.{is_inner}
use Rattle.dill_http.specs.Lines.{line_limit, crlf, front_of_line, shown_at, LineSpells, LineShows, IsCutLine}
use Rattle.dill_http.specs.Laws.{IsJudged, LineLies}
use Rattle.dill_http.proofs.Runs.{all_take, length_of_run, no_length}
use Rattle.dill_http.proofs.Shown.{shown_text, shown_cr}
use Rattle.dill_http.proofs.Seen.{Seen, inside, beyond, feed, return, ended, astray, seen_of, front_inside, front_beyond, front_feed, front_return, front_ended, front_astray}

-- what is spelled is read, whatever follows it
pub again : (m w rest : List ℕ) → LineSpells m w → length m ≤ line_limit → front_of_line (w ++ rest) ≡ Whole 0 (length m) (length w)
again m w rest s h =
    let e : w ++ rest ≡ m ++ (13 ∷ 10 ∷ rest) = ap (λ x. x ++ rest) s.whole ∙ append_assoc m crlf rest in
    let l : length w ≡ length m + 2 = ap length s.whole ∙ length-append m crlf in
    ap front_of_line e ∙ front_ended m rest s.inner h ∙ ap (Whole 0 (length m)) (sym l)

-- a line that isn't whole yet: its text, maybe with CR
pub data Led : List ℕ → Type 0 where
  in_text : (t : List ℕ) → list_all is_inner t ≡ true → length t ≤ line_limit → Led t
  behind_cr : (t : List ℕ) → list_all is_inner t ≡ true → length t ≤ line_limit → Led (t ++ (13 ∷ []))

pub led_of : (u : List ℕ) → IsCutLine u → Led u
led_of u c =
    let whole : u ++ c.rest ≡ c.line ++ crlf = c.spelled.whole in
    let n : length u + length c.rest ≡ length c.line + 2 = sym (length-append u c.rest) ∙ ap length whole ∙ length-append c.line crlf in
    let front : take (length u) (c.line ++ crlf) ≡ u = ap (take (length u)) (sym whole) ∙ take_at u c.rest (length u) refl in
    let more : 0 < length c.rest = c.more in
    let short : length c.line ≤ line_limit = c.short in
    elim (cases_lt (length c.line) (length u)) [
      | inl l ↦
          let k : length u ≡ length c.line + 1 = omega arith in
          let e : take (length u) (c.line ++ crlf) ≡ c.line ++ (13 ∷ []) = ap (λ i. take i (c.line ++ crlf)) k ∙ take-append-add c.line crlf 1 in
          subst Led (sym e ∙ front) (behind_cr c.line c.spelled.inner short)
      | inr l ↦
          let e : take (length u) (c.line ++ crlf) ≡ take (length u) c.line = take-append-le (length u) c.line crlf l in
          subst Led (sym e ∙ front) (in_text (take (length u) c.line) (all_take is_inner (length u) c.line c.spelled.inner) (omega (arith, ap length (sym e ∙ front))))
    ]

some_none : (e : Errno) → None ≡ Some e → ⊥
some_none e h = cc

two_bytes : (b : ℕ) → b ≡ 13 → b ≡ 10 → ⊥
two_bytes b e f = omega arith

-- the first byte that shows a refusal, behind text
text_byte : (t : List ℕ) (b : ℕ) (rest : List ℕ) (e : Errno) → list_all is_inner t ≡ true → length t ≤ line_limit → shown_at t b ≡ Some e → front_of_line (t ++ (b ∷ rest)) ≡ Fault e
text_byte t b rest e h l s = by_test (eqb b 13) (eqb b 10) (eqb (length t) line_limit) refl refl refl (sym (shown_text t b h) ∙ s)
  where
    by_test : (x y n : Bool) → eqb b 13 ≡ x → eqb b 10 ≡ y → eqb (length t) line_limit ≡ n
        → (if eqb (length t) line_limit && not (eqb b 13) then Some Emsgsize else (if eqb b 10 then Some Eproto else None)) ≡ Some e → front_of_line (t ++ (b ∷ rest)) ≡ Fault e
    by_test true true n p q r k = absurd (two_bytes b (eqb-true b 13 p) (eqb-true b 10 q))
    by_test true false true p q r k = let z : None ≡ Some e = (rw (p, q, r) at k) in absurd (some_none e z)
    by_test true false false p q r k = let z : None ≡ Some e = (rw (p, q, r) at k) in absurd (some_none e z)
    by_test false true n p q r k =
        let z : (if n && true then Some Emsgsize else Some Eproto) ≡ Some e = (rw (p, q, r) at k) in
        let g : front_of_line (t ++ (10 ∷ rest)) ≡ Fault (if n then Emsgsize else Eproto) = front_feed t rest h l ∙ ap (λ c. Fault (if c then Emsgsize else Eproto)) r in
        ap (λ c. front_of_line (t ++ (c ∷ rest))) (eqb-true b 10 q) ∙ g ∙ same n z
      where
        same : (c : Bool) → (if c && true then Some Emsgsize else Some Eproto) ≡ Some e → Fault (if c then Emsgsize else Eproto) ≡ Fault e
        same true i = cc
        same false i = cc
    by_test false false true p q r k =
        let z : Some Emsgsize ≡ Some e = (rw (p, q, r) at k) in
        let i : is_inner b ≡ true = rw (p, q) refl in
        let g : Emsgsize ≡ e = cc in
        front_beyond t b rest h (eqb-true (length t) line_limit r) i ∙ ap Fault g
    by_test false false false p q r k = let z : None ≡ Some e = (rw (p, q, r) at k) in absurd (some_none e z)

-- and behind CR
cr_byte : (t : List ℕ) (b : ℕ) (rest : List ℕ) (e : Errno) → list_all is_inner t ≡ true → length t ≤ line_limit → shown_at (t ++ (13 ∷ [])) b ≡ Some e → front_of_line (t ++ (13 ∷ b ∷ rest)) ≡ Fault e
cr_byte t b rest e h l s = by_test (eqb b 10) refl (sym (shown_cr t b) ∙ s)
  where
    same : (n x : Bool) → (if n && (not x && true) then Some Emsgsize else Some Eproto) ≡ Some e → Fault (if n && not x then Emsgsize else Eproto) ≡ Fault e
    same true true i = cc
    same true false i = cc
    same false x i = cc

    none : (n x : Bool) → (if n && (not x && false) then Some Emsgsize else None) ≡ Some e → ⊥
    none true true i = cc
    none true false i = cc
    none false x i = cc

    by_test : (y : Bool) → eqb b 10 ≡ y → (if eqb (length t + 1) line_limit && (not (eqb b 13) && not (eqb b 10)) then Some Emsgsize else (if not (eqb b 10) then Some Eproto else None)) ≡ Some e → front_of_line (t ++ (13 ∷ b ∷ rest)) ≡ Fault e
    by_test true q k = absurd (none (eqb (length t + 1) line_limit) (eqb b 13) (rw q at k))
    by_test false q k = front_astray t b rest h l q ∙ same (eqb (length t + 1) line_limit) (eqb b 13) (rw q at k)

led_byte : (u : List ℕ) (b : ℕ) (rest : List ℕ) (e : Errno) → Led u → shown_at u b ≡ Some e → front_of_line (u ++ (b ∷ rest)) ≡ Fault e
led_byte u b rest e (in_text t h l) s = text_byte t b rest e h l s
led_byte u b rest e (behind_cr t h l) s = ap front_of_line (append_assoc t (13 ∷ []) (b ∷ rest)) ∙ cr_byte t b rest e h l s

-- what shows a refusal is refused, whatever follows it
pub refused : (e : Errno) (w rest : List ℕ) → LineShows e w → front_of_line (w ++ rest) ≡ Fault e
refused e w rest s =
    let k : w ++ rest ≡ s.before ++ (s.byte ∷ rest) = ap (λ x. x ++ rest) s.whole ∙ append_assoc s.before (s.byte ∷ []) rest in
    ap front_of_line k ∙ led_byte s.before s.byte rest e (led_of s.before s.led) s.shown

-- text, or text and CR, is a line that isn't whole yet
pub cut_text : (t : List ℕ) → list_all is_inner t ≡ true → length t ≤ line_limit → IsCutLine t
cut_text t h l = record { line = t; rest = crlf; short = l; more = omega arith; spelled = record { inner = h; whole = refl } }

pub cut_cr : (t : List ℕ) → list_all is_inner t ≡ true → length t ≤ line_limit → IsCutLine (t ++ (13 ∷ []))
cut_cr t h l = record { line = t; rest = 10 ∷ []; short = l; more = omega arith; spelled = record { inner = h; whole = append_assoc t (13 ∷ []) (10 ∷ []) } }

pub cut_waits : (u : List ℕ) → IsCutLine u → front_of_line u ≡ Need
cut_waits u c = by_led u (led_of u c)
  where
    by_led : (u : List ℕ) → Led u → front_of_line u ≡ Need
    by_led u (in_text t h l) = front_inside t h l
    by_led u (behind_cr t h l) = front_return t h l

-- where neither a line nor a refusal stands
open_of : (u : List ℕ) → front_of_line u ≡ Need → IsOpen LineSpells LineShows line_limit u
open_of u e = record {
  unspelled = λ n h m k s.
      let whole : take n u ++ drop n u ≡ u = take-append-drop n u in
      let f : front_of_line (take n u ++ drop n u) ≡ Whole 0 (length m) (length (take n u)) = again m (take n u) (drop n u) s k in
      clash (front_of_line u) 0 (length m) (length (take n u)) e (ap front_of_line (sym whole) ∙ f);
  unshown = λ n h f s.
      let whole : take n u ++ drop n u ≡ u = take-append-drop n u in
      no_fault (front_of_line u) f e (ap front_of_line (sym whole) ∙ refused f (take n u) (drop n u) s);
}
  where
    clash : (f : Front) (a b c : ℕ) → f ≡ Need → f ≡ Whole a b c → ⊥
    clash f a b c d e = cc

    no_fault : (f : Front) (g : Errno) → f ≡ Need → f ≡ Fault g → ⊥
    no_fault f g d e = cc

-- a byte behind text, or behind CR, that shows a refusal
shown_behind : (u v : List ℕ) (b : ℕ) (e : Errno) → IsCutLine u → shown_at u b ≡ Some e → IsShown LineShows (u ++ (b ∷ v)) e
shown_behind u v b e c s = record {
  count = length u + 1;
  there = omega (arith, length-append u (b ∷ v));
  shown = record { before = u; byte = b; whole = take-append-add u (b ∷ v) 1; led = c; shown = s };
}

shown_beyond : (t v : List ℕ) (b : ℕ) → list_all is_inner t ≡ true → length t ≡ line_limit → is_inner b ≡ true → IsShown LineShows (t ++ (b ∷ v)) Emsgsize
shown_beyond t v b h l i = shown_behind t v b Emsgsize (cut_text t h (omega arith)) (shown_text t b h ∙ over (eqb (length t) line_limit) (eqb b 13) (eqb b 10) (eq-eqb (length t) line_limit l) i)
  where
    over : (n x y : Bool) → n ≡ true → not (x || y) ≡ true → (if n && not x then Some Emsgsize else (if y then Some Eproto else None)) ≡ Some Emsgsize
    over true true y e f = absurd (cc)
    over true false y e f = refl
    over false x y e f = absurd (cc)

shown_feed : (t v : List ℕ) → list_all is_inner t ≡ true → length t ≤ line_limit → IsShown LineShows (t ++ (10 ∷ v)) (if eqb (length t) line_limit then Emsgsize else Eproto)
shown_feed t v h l = shown_behind t v 10 (if eqb (length t) line_limit then Emsgsize else Eproto) (cut_text t h l) (shown_text t 10 h ∙ either (eqb (length t) line_limit))
  where
    either : (n : Bool) → (if n && true then Some Emsgsize else Some Eproto) ≡ Some (if n then Emsgsize else Eproto)
    either true = refl
    either false = refl

shown_astray : (t v : List ℕ) (b : ℕ) → list_all is_inner t ≡ true → length t ≤ line_limit → eqb b 10 ≡ false
    → IsShown LineShows (t ++ (13 ∷ b ∷ v)) (if eqb (length t + 1) line_limit && not (eqb b 13) then Emsgsize else Eproto)
shown_astray t v b h l q =
    subst (λ (x : List ℕ). IsShown LineShows x (if eqb (length t + 1) line_limit && not (eqb b 13) then Emsgsize else Eproto)) (append_assoc t (13 ∷ []) (b ∷ v))
    (shown_behind (t ++ (13 ∷ [])) v b (if eqb (length t + 1) line_limit && not (eqb b 13) then Emsgsize else Eproto) (cut_cr t h l) (shown_cr t b ∙ either (eqb (length t + 1) line_limit) (eqb b 13) (eqb b 10) q))
  where
    either : (n x y : Bool) → y ≡ false → (if n && (not x && not y) then Some Emsgsize else (if not y then Some Eproto else None)) ≡ Some (if n && not x then Emsgsize else Eproto)
    either n x true e = absurd (cc)
    either true true false e = refl
    either true false false e = refl
    either false x false e = refl

spelled_ended : (t v : List ℕ) → list_all is_inner t ≡ true → LineSpells (take (length t) (t ++ (13 ∷ 10 ∷ v))) (take (length t + 2) (t ++ (13 ∷ 10 ∷ v)))
spelled_ended t v h =
    let e : take (length t) (t ++ (13 ∷ 10 ∷ v)) ≡ t = take_at t (13 ∷ 10 ∷ v) (length t) refl in
    record {
      inner = subst (λ (x : List ℕ). list_all is_inner x ≡ true) (sym e) h;
      whole = take-append-add t (13 ∷ 10 ∷ v) 2 ∙ ap (λ x. x ++ crlf) (sym e);
    }

whole_ended : (t v : List ℕ) → list_all is_inner t ≡ true → length t ≤ line_limit → IsWhole LineSpells line_limit (t ++ (13 ∷ 10 ∷ v)) 0 (length t) (length t + 2)
whole_ended t v h l =
    let z : length t - 0 ≡ length t = omega arith in
    record {
      there = omega (arith, length-append t (13 ∷ 10 ∷ v));
      within = omega arith;
      forward = omega arith;
      short = omega arith;
      spelled = subst (λ (n : ℕ). LineSpells (take n (t ++ (13 ∷ 10 ∷ v))) (take (length t + 2) (t ++ (13 ∷ 10 ∷ v)))) (sym z) (spelled_ended t v h);
    }

-- The front that is computed is what the spellings say.
abbrev FrontIs : List ℕ → Front → Type 0
FrontIs u f = IsFront LineSpells LineShows line_limit u f

seen_front : (u : List ℕ) → Seen u → FrontIs u (front_of_line u)
seen_front u (inside t h l) = subst (FrontIs t) (sym (front_inside t h l)) (open_of t (front_inside t h l))
seen_front u (beyond t b v h l i) = subst (FrontIs (t ++ (b ∷ v))) (sym (front_beyond t b v h l i)) (shown_beyond t v b h l i)
seen_front u (feed t v h l) = subst (FrontIs (t ++ (10 ∷ v))) (sym (front_feed t v h l)) (shown_feed t v h l)
seen_front u (return t h l) = subst (FrontIs (t ++ (13 ∷ []))) (sym (front_return t h l)) (open_of (t ++ (13 ∷ [])) (front_return t h l))
seen_front u (ended t v h l) = subst (FrontIs (t ++ (13 ∷ 10 ∷ v))) (sym (front_ended t v h l)) (whole_ended t v h l)
seen_front u (astray t b v h l q) = subst (FrontIs (t ++ (13 ∷ b ∷ v))) (sym (front_astray t b v h l q)) (shown_astray t v b h l q)

pub line_is_front : (u : List ℕ) → IsFront LineSpells LineShows line_limit u (front_of_line u)
line_is_front u = seen_front u (seen_of u)

not_whole : (f : Front) (a b c : ℕ) → f ≡ Need → f ≡ Whole a b c → ⊥
not_whole f a b c d e = cc

not_fault : (f : Front) (g : Errno) (a b c : ℕ) → f ≡ Fault g → f ≡ Whole a b c → ⊥
not_fault f g a b c d e = cc

not_open : (f : Front) (g : Errno) → f ≡ Fault g → f ≡ Need → ⊥
not_open f g d e = cc

-- a whole line and what follows it
pub record Ended (u : List ℕ) (from to used : ℕ) : Type 0 where
  pub text : List ℕ
  pub more : List ℕ
  pub inner : list_all is_inner text ≡ true
  pub short : length text ≤ line_limit
  pub first : from ≡ 0
  pub last : to ≡ length text
  pub ending : used ≡ length text + 2
  pub whole : u ≡ text ++ (13 ∷ 10 ∷ more)

ended_as : (t v : List ℕ) (a b c : ℕ) → list_all is_inner t ≡ true → length t ≤ line_limit → Whole 0 (length t) (length t + 2) ≡ Whole a b c → Ended (t ++ (13 ∷ 10 ∷ v)) a b c
ended_as t v a b c h l e = record { text = t; more = v; inner = h; short = l; first = cc; last = cc; ending = cc; whole = refl }

pub ended_of : (u : List ℕ) (a b c : ℕ) → front_of_line u ≡ Whole a b c → Ended u a b c
ended_of u a b c e = by_seen u (seen_of u) e
  where
    by_seen : (u : List ℕ) → Seen u → front_of_line u ≡ Whole a b c → Ended u a b c
    by_seen u (inside t h l) e = absurd (not_whole (front_of_line t) a b c (front_inside t h l) e)
    by_seen u (beyond t x v h l i) e = absurd (not_fault (front_of_line (t ++ (x ∷ v))) Emsgsize a b c (front_beyond t x v h l i) e)
    by_seen u (feed t v h l) e = absurd (not_fault (front_of_line (t ++ (10 ∷ v))) (if eqb (length t) line_limit then Emsgsize else Eproto) a b c (front_feed t v h l) e)
    by_seen u (return t h l) e = absurd (not_whole (front_of_line (t ++ (13 ∷ []))) a b c (front_return t h l) e)
    by_seen u (ended t v h l) e = ended_as t v a b c h l (sym (front_ended t v h l) ∙ e)
    by_seen u (astray t x v h l q) e = absurd (not_fault (front_of_line (t ++ (13 ∷ x ∷ v))) (if eqb (length t + 1) line_limit && not (eqb x 13) then Emsgsize else Eproto) a b c (front_astray t x v h l q) e)

pub open_ends : (u : List ℕ) → front_of_line u ≡ Need → IsCutLine u
open_ends u e = by_seen u (seen_of u) e
  where
    by_seen : (u : List ℕ) → Seen u → front_of_line u ≡ Need → IsCutLine u
    by_seen u (inside t h l) e = cut_text t h l
    by_seen u (beyond t x v h l i) e = absurd (not_open (front_of_line (t ++ (x ∷ v))) Emsgsize (front_beyond t x v h l i) e)
    by_seen u (feed t v h l) e = absurd (not_open (front_of_line (t ++ (10 ∷ v))) (if eqb (length t) line_limit then Emsgsize else Eproto) (front_feed t v h l) e)
    by_seen u (return t h l) e = cut_cr t h l
    by_seen u (ended t v h l) e = absurd (not_whole (front_of_line (t ++ (13 ∷ 10 ∷ v))) 0 (length t) (length t + 2) e (front_ended t v h l))
    by_seen u (astray t x v h l q) e = absurd (not_open (front_of_line (t ++ (13 ∷ x ∷ v))) (if eqb (length t + 1) line_limit && not (eqb x 13) then Emsgsize else Eproto) (front_astray t x v h l q) e)

pub waits : (u : List ℕ) → front_of_line u ≡ Need → length u < line_limit + 2
waits u e =
    let c : IsCutLine u = open_ends u e in
    let n : length u + length c.rest ≡ length c.line + 2 = sym (length-append u c.rest) ∙ ap length c.spelled.whole ∙ length-append c.line crlf in
    let more : 0 < length c.rest = c.more in
    let short : length c.line ≤ line_limit = c.short in
    omega arith

pub lies : (u : List ℕ) (from to used : ℕ) → front_of_line u ≡ Whole from to used → LineLies u from to used
lies u a b c e =
    let k : Ended u a b c = ended_of u a b c e in
    let n : length u ≡ length k.text + length (13 ∷ 10 ∷ k.more) = ap length k.whole ∙ length-append k.text (13 ∷ 10 ∷ k.more) in
    let last : b ≡ length k.text = k.last in
    let ending : c ≡ length k.text + 2 = k.ending in
    let short : length k.text ≤ line_limit = k.short in
    record { first = k.first; short = omega arith; ending = omega arith; there = omega arith }

pub spelled : (u : List ℕ) (from to used : ℕ) → front_of_line u ≡ Whole from to used → LineSpells (take to u) (take used u)
spelled u a b c e =
    let k : Ended u a b c = ended_of u a b c e in
    let here : LineSpells (take (length k.text) (k.text ++ (13 ∷ 10 ∷ k.more))) (take (length k.text + 2) (k.text ++ (13 ∷ 10 ∷ k.more))) = spelled_ended k.text k.more k.inner in
    let there : LineSpells (take (length k.text) u) (take (length k.text + 2) u) = subst (λ (x : List ℕ). LineSpells (take (length k.text) x) (take (length k.text + 2) x)) (sym k.whole) here in
    let same : LineSpells (take b u) (take (length k.text + 2) u) = subst (λ (n : ℕ). LineSpells (take n u) (take (length k.text + 2) u)) (sym k.last) there in
    subst (λ (n : ℕ). LineSpells (take b u) (take n u)) (sym k.ending) same

pub stays : (u v : List ℕ) (f : Front) → front_of_line u ≡ f → IsJudged f → front_of_line (u ++ v) ≡ f
stays u v (Whole a b c) e j =
    let k : Ended u a b c = ended_of u a b c e in
    let whole : u ++ v ≡ k.text ++ (13 ∷ 10 ∷ (k.more ++ v)) = ap (λ x. x ++ v) k.whole ∙ append_assoc k.text (13 ∷ 10 ∷ k.more) v in
    ap front_of_line whole ∙ front_ended k.text (k.more ++ v) k.inner k.short ∙ same 0 a (length k.text) b (length k.text + 2) c (sym k.first) (sym k.last) (sym k.ending)
  where
    same : (x p y q z r : ℕ) → x ≡ p → y ≡ q → z ≡ r → Whole x y z ≡ Whole p q r
    same x p y q z r i j k = cc
stays u v Need e j = absurd j
stays u v (Fault f) e j =
    let s : IsShown LineShows u f = subst (FrontIs u) e (line_is_front u) in
    let whole : u ++ v ≡ take s.count u ++ (drop s.count u ++ v) = ap (λ x. x ++ v) (sym (take-append-drop s.count u)) ∙ append_assoc (take s.count u) (drop s.count u) v in
    ap front_of_line whole ∙ refused f (take s.count u) (drop s.count u ++ v) s.shown

-- the message is all before the first CR or LF
message_length : (m w rest : List ℕ) → LineSpells m w → prefix_len is_inner (w ++ rest) ≡ length m
message_length m w rest s = ap (λ x. prefix_len is_inner (x ++ rest)) s.whole ∙ ap (prefix_len is_inner) (append_assoc m crlf rest) ∙ length_of_run is_inner m (13 ∷ 10 ∷ rest) s.inner refl

pub free : (m n w rest : List ℕ) → LineSpells m w → LineSpells n (w ++ rest) → rest ≡ []
free m n w rest s t =
    let a : prefix_len is_inner (w ++ rest) ≡ length m = message_length m w rest s in
    let b : prefix_len is_inner ((w ++ rest) ++ []) ≡ length n = message_length n (w ++ rest) [] t in
    let c : prefix_len is_inner ((w ++ rest) ++ []) ≡ prefix_len is_inner (w ++ rest) = ap (prefix_len is_inner) (append_assoc w rest [] ∙ ap (λ x. w ++ x) (append-nil rest)) in
    let k : length w + length rest ≡ length n + 2 = sym (length-append w rest) ∙ ap length t.whole ∙ length-append n crlf in
    let l : length w ≡ length m + 2 = ap length s.whole ∙ length-append m crlf in
    no_length rest (omega arith)

pub one : (m n w : List ℕ) → LineSpells m w → LineSpells n w → m ≡ n
one m n w s t =
    let a : prefix_len is_inner (w ++ []) ≡ length m = message_length m w [] s in
    let b : prefix_len is_inner (w ++ []) ≡ length n = message_length n w [] t in
    let e : m ++ crlf ≡ n ++ crlf = sym s.whole ∙ t.whole in
    sym (take_at m crlf (length m) refl) ∙ ap (take (length m)) e ∙ take_at n crlf (length m) (omega arith)

-- the bytes before the last that shows a refusal aren't refused
pub least : (e f : Errno) (w rest : List ℕ) → LineShows e w → LineShows f (w ++ rest) → rest ≡ []
least e f w rest s t = elim (cases_lt 0 (length rest)) [
  | inl l ↦
      let n : length w + length rest ≡ length t.before + 1 = sym (length-append w rest) ∙ ap length t.whole ∙ length-append t.before (t.byte ∷ []) in
      let k : length t.before ≡ length w + (length rest - 1) = omega arith in
      let cut : t.before ≡ w ++ take (length rest - 1) rest =
      sym (take_at t.before (t.byte ∷ []) (length t.before) refl) ∙ ap (take (length t.before)) (sym t.whole) ∙ ap (λ i. take i (w ++ rest)) k ∙ take-append-add w rest (length rest - 1) in
      absurd (not_open (front_of_line t.before) e (ap front_of_line cut ∙ refused e w (take (length rest - 1) rest) s) (cut_waits t.before t.led))
  | inr l ↦ no_length rest (omega arith)
]
