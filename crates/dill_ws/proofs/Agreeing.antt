-- What the lines of a server's head say, tested and told.
use Rattle.std.proofs.Common.{◌≡◌, ◌≤◌, ◌-◌, ◌++◌, ◌∷◌, [], ◌&&◌, not, ℕ, zero, suc, List, Bool, true, false, codes, length, take, drop, arith, sym, ap, ◌∙◌, refl, take-append-drop}
use Rattle.std.specs.Prelude.{bytes_eq, nat_lt}
use Rattle.std.proofs.lemmas.Bool.{and_parts, and_from, lt-ltb}
use Rattle.std.proofs.lemmas.Slice.Eq.{bytes_eq-Decides}
use Rattle.dill_base.specs.declared.errno.Errno.{Errno}
use Rattle.dill_base.specs.declared.errno.Errno.TheVariants.{Eproto}
use Rattle.dill_base.specs.declared.errno.Front.{Front}
use Rattle.dill_base.specs.declared.errno.Front.TheVariants.{Whole, Need, Fault}
use Rattle.dill_base.specs.Reading.{IsFront}
use Rattle.dill_http.specs.Laws.{LineLaws}
use Rattle.dill_ws.specs.HeadLines.{head_limit, HeadShows, lines_at, head_size, head_stop, head_front_by, judged_by, HasLineFront}
use Rattle.dill_ws.specs.Offers.{is_switch, is_agreement, is_upgrade, are_fields, has_field, has_item, named, accepts, only, passes, server_agrees}
use Rattle.dill_ws.specs.Handshakes.{ServerSays, ServerHead, ServerSpells, server_front}
use Rattle.dill_ws.proofs.HeadReads.{ReadsHead, whole_read, passing_again, shown_again, fault_shown}
use Rattle.dill_ws.proofs.Asking.{OnlyOne, only_one}

pub agrees_lines : (accept : List ℕ) (lines : List (List ℕ)) (first : List ℕ) (fields : List (List ℕ)) → lines ≡ first ∷ fields → server_agrees accept lines ≡ (is_switch first && is_agreement accept fields)
unfolding server_agrees
agrees_lines accept lines first fields e = ap (server_agrees accept) e

pub no_lines : (accept : List ℕ) (lines : List (List ℕ)) → lines ≡ [] → server_agrees accept lines ≡ false
unfolding server_agrees
no_lines accept lines e = ap (server_agrees accept) e

none_named : (values : List (List ℕ)) → not (nat_lt 0 (length values)) ≡ true → values ≡ []
none_named [] h = refl
none_named (value ∷ values) h = absurd (clash (ap not (lt-ltb 0 (length (value ∷ values)) (omega arith))))
  where
    clash : not (nat_lt 0 (length (value ∷ values))) ≡ false → ⊥
    clash e = cc (e, h)

agrees_says_by : (accept first : List ℕ) (fields : List (List ℕ)) → (is_switch first && is_agreement accept fields) ≡ true → ServerSays accept (first ∷ fields)
agrees_says_by accept first fields h =
    let extension = not (has_field (codes "Sec-WebSocket-Extensions") fields) in
    let protocol = not (has_field (codes "Sec-WebSocket-Protocol") fields) in
    let accepted = passes (bytes_eq accept) (only (accepts fields)) in
    let a = and_parts (is_switch first) (is_agreement accept fields) h in
    let b = and_parts (are_fields fields && is_upgrade fields && accepted && extension) protocol a.1 in
    let c = and_parts (are_fields fields && is_upgrade fields && accepted) extension b.0 in
    let d = and_parts (are_fields fields && is_upgrade fields) accepted c.0 in
    let e = and_parts (are_fields fields) (is_upgrade fields) d.0 in
    let f = and_parts (has_item (codes "Upgrade") (codes "websocket") fields) (has_item (codes "Connection") (codes "upgrade") fields) e.1 in
    let v : OnlyOne (bytes_eq accept) (accepts fields) = only_one (bytes_eq accept) (accepts fields) d.1 in
    let same : accept ≡ v.value = (bytes_eq-Decides accept v.value).0 v.passed in
    record {
      first = first;
      fields = fields;
      lines_are = refl;
      switched = a.0;
      read = e.0;
      upgrade = f.0;
      connection = f.1;
      accept_is = v.one ∙ ap (λ (x : List ℕ). x ∷ []) (sym same);
      no_extension = none_named (named (codes "Sec-WebSocket-Extensions") fields) c.1;
      no_protocol = none_named (named (codes "Sec-WebSocket-Protocol") fields) b.1;
    }

pub agrees_says : (accept : List ℕ) (lines : List (List ℕ)) → server_agrees accept lines ≡ true → ServerSays accept lines
unfolding server_agrees
agrees_says accept [] h = absurd (cc h)
agrees_says accept (first ∷ fields) h = agrees_says_by accept first fields h

pub says_agrees : (accept : List ℕ) (lines : List (List ℕ)) → ServerSays accept lines → server_agrees accept lines ≡ true
says_agrees accept lines s =
    let same : bytes_eq accept accept ≡ true = (bytes_eq-Decides accept accept).1 refl in
    let v : passes (bytes_eq accept) (only (accepts s.fields)) ≡ true = ap (λ x. passes (bytes_eq accept) (only x)) s.accept_is ∙ same in
    let e : not (has_field (codes "Sec-WebSocket-Extensions") s.fields) ≡ true = ap (λ (x : List (List ℕ)). not (nat_lt 0 (length x))) s.no_extension in
    let p : not (has_field (codes "Sec-WebSocket-Protocol") s.fields) ≡ true = ap (λ (x : List (List ℕ)). not (nat_lt 0 (length x))) s.no_protocol in
    agrees_lines accept lines s.first s.fields s.lines_are ∙ and_from _ _ s.switched (and_from _ _ (and_from _ _ (and_from _ _ (and_from _ _ s.read (and_from _ _ s.upgrade s.connection)) v) e) p)

-- what the code's cases are
front_of : (accept u : List ℕ) (b : Bool) (f : Front) → server_agrees accept (lines_at u) ≡ b → head_stop u ≡ f → server_front accept u ≡ judged_by b (head_size u) f
unfolding server_front head_front_by
front_of accept u b f p e = ap (λ x. judged_by x (head_size u) (head_stop u)) p ∙ ap (judged_by b (head_size u)) e

pub agreed_whole : (accept u : List ℕ) (size a b c : ℕ) → Whole a b c ≡ head_stop u → server_agrees accept (lines_at u) ≡ true → size ≡ head_size u → Whole 0 size size ≡ server_front accept u
agreed_whole accept u size a b c e k s = ap (λ n. Whole 0 n n) s ∙ sym (front_of accept u true (Whole a b c) k (sym e))

pub agreed_bad : (accept u : List ℕ) (a b c : ℕ) → Whole a b c ≡ head_stop u → server_agrees accept (lines_at u) ≡ false → Fault Eproto ≡ server_front accept u
agreed_bad accept u a b c e k = sym (front_of accept u false (Whole a b c) k (sym e))

pub agreed_open : (accept u : List ℕ) → Need ≡ head_stop u → Need ≡ server_front accept u
agreed_open accept u e = sym (front_of accept u (server_agrees accept (lines_at u)) Need refl (sym e))

pub agreed_fault : (accept u : List ℕ) (f : Errno) → Fault f ≡ head_stop u → Fault f ≡ server_front accept u
agreed_fault accept u f e = sym (front_of accept u (server_agrees accept (lines_at u)) (Fault f) refl (sym e))

-- a server's head is read, whatever follows it, and so is each refusal
pub server_again : LineLaws → (accept w rest : List ℕ) → ServerHead accept w → server_front accept (w ++ rest) ≡ Whole 0 (length w) (length w)
unfolding server_front
server_again laws accept w rest h = passing_again laws (server_agrees accept) h.lines w rest h.text (says_agrees accept h.lines h.says)

pub server_refused : LineLaws → (accept : List ℕ) (e : Errno) (w rest : List ℕ) → HeadShows (server_agrees accept) e w → server_front accept (w ++ rest) ≡ Fault e
unfolding server_front
server_refused laws accept e w rest s = shown_again laws (server_agrees accept) e w rest s

agreed_cases : LineLaws → (accept u : List ℕ) → HasLineFront u → (f : Front) → server_front accept u ≡ f → IsFront (ServerSpells accept) (HeadShows (server_agrees accept)) head_limit u f
unfolding server_front
agreed_cases laws accept u line (Whole a b c) e =
    let k : ReadsHead (server_agrees accept) u a b c = whole_read laws (server_agrees accept) u a b c e in
    let count : b - a ≡ c = omega (arith, k.from, k.to) in
    let same : take (b - a) (drop a u) ≡ take c u = ap (λ n. take n (drop a u)) count ∙ ap (λ n. take c (drop n u)) k.from in
    record {
      there = k.there;
      within = omega (arith, k.to);
      forward = omega (arith, k.from);
      short = omega (arith, k.text.short, count_of c u k.there);
      spelled = record { same = same; head = record { lines = lines_at u; text = k.text; says = agrees_says accept (lines_at u) k.passes } };
    }
  where
    count_of : (n : ℕ) (u : List ℕ) → n ≤ length u → length (take n u) ≡ n
    count_of zero u h = refl
    count_of (suc n) [] h = absurd (omega arith)
    count_of (suc n) (x ∷ u) h = ap suc (count_of n u (omega arith))
agreed_cases laws accept u line Need e = record {
  unspelled = λ n h m l s.
      let read : server_front accept (take n u ++ drop n u) ≡ Whole 0 (length (take n u)) (length (take n u)) = server_again laws accept (take n u) (drop n u) s.head in
      cc (read, take-append-drop n u, e);
  unshown = λ n h f s.
      let read : server_front accept (take n u ++ drop n u) ≡ Fault f = server_refused laws accept f (take n u) (drop n u) s in
      cc (read, take-append-drop n u, e);
}
agreed_cases laws accept u line (Fault f) e = fault_shown laws (server_agrees accept) u f line e

pub is_agreed : LineLaws → (accept u : List ℕ) → HasLineFront u → (f : Front) → f ≡ server_front accept u → IsFront (ServerSpells accept) (HeadShows (server_agrees accept)) head_limit u f
is_agreed laws accept u line f e = agreed_cases laws accept u line f (sym e)

pub switched : (accept : List ℕ) (lines : List (List ℕ)) (first : List ℕ) (fields : List (List ℕ)) (s r : Bool) → lines ≡ first ∷ fields → s ≡ is_switch first → s ≡ true → r ≡ is_agreement accept fields → r ≡ server_agrees accept lines
switched accept lines first fields s r e h t a = a ∙ ap (λ b. b && is_agreement accept fields) (sym t ∙ h) ∙ sym (agrees_lines accept lines first fields e)

pub not_switched : (accept : List ℕ) (lines : List (List ℕ)) (first : List ℕ) (fields : List (List ℕ)) (s : Bool) → lines ≡ first ∷ fields → s ≡ is_switch first → s ≡ false → s ≡ server_agrees accept lines
not_switched accept lines first fields s e h f = f ∙ ap (λ b. b && is_agreement accept fields) (sym f ∙ h) ∙ sym (agrees_lines accept lines first fields e)
