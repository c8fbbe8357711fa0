-- What the lines of a client's head say, tested and told.
use Rattle.std.proofs.Common.{◌≡◌, ◌++◌, ◌∷◌, [], ◌&&◌, ℕ, List, Bool, true, false, codes, length, take, drop, Option, Some, None, sym, ap, ◌∙◌, refl, subst, take-append-drop}
use Rattle.std.specs.Prelude.{bytes_eq, IfSome, IfNone}
use Rattle.std.proofs.lemmas.Bool.{and_parts, and_from}
use Rattle.std.proofs.lemmas.Slice.Eq.{bytes_eq-Decides}
use Rattle.dill_base.specs.declared.errno.Errno.{Errno}
use Rattle.dill_base.specs.declared.errno.Errno.TheVariants.{Eproto}
use Rattle.dill_base.specs.declared.errno.Front.{Front}
use Rattle.dill_base.specs.declared.errno.Front.TheVariants as front
use Rattle.dill_http.specs.Laws.{LineLaws}
use Rattle.dill_ws.specs.declared.request.Asked.{Asked}
use Rattle.dill_ws.specs.declared.request.Asked.TheVariants.{Whole, Need, Fault}
use Rattle.dill_ws.specs.HeadLines.{HeadShows, lines_at, head_size, head_stop, head_front_by, judged_by, HasLineFront}
use Rattle.dill_ws.specs.Offers.{is_get, is_key, is_offer, is_upgrade, are_fields, has_field, has_item, keys, versions, only, passes, or_nothing, client_asks, key_of}
use Rattle.dill_ws.specs.Handshakes.{ClientSays, ClientHead, IsAsked, asked_by, client_front}
use Rattle.dill_ws.proofs.HeadReads.{ReadsHead, whole_read, passing_again, lines_again, shown_again, fault_shown}

pub asks_lines : (lines : List (List ℕ)) (first : List ℕ) (fields : List (List ℕ)) → lines ≡ first ∷ fields → client_asks lines ≡ (is_get first && is_offer fields && passes is_key (only (keys fields)))
unfolding client_asks
asks_lines lines first fields e = ap client_asks e

pub no_lines : (lines : List (List ℕ)) → lines ≡ [] → client_asks lines ≡ false
unfolding client_asks
no_lines lines e = ap client_asks e

pub key_lines : (lines : List (List ℕ)) (first : List ℕ) (fields : List (List ℕ)) (key : List ℕ) → lines ≡ first ∷ fields → only (keys fields) ≡ Some key → key_of lines ≡ key
unfolding key_of
key_lines lines first fields key e k = ap key_of e ∙ ap or_nothing k

pub asked_some : (lines : List (List ℕ)) (first : List ℕ) (fields : List (List ℕ)) (o : Option (List ℕ)) → lines ≡ first ∷ fields
    → IfSome o (λ key. (is_get first && is_offer fields && passes is_key (only (keys fields)) ≡ true) × (only (keys fields) ≡ Some key)) → IfSome o (λ key. (client_asks lines ≡ true) × (key_of lines ≡ key))
asked_some lines first fields None e h = tt
asked_some lines first fields (Some key) e h = (asks_lines lines first fields e ∙ h.0, key_lines lines first fields key e h.1)

pub asked_none : (lines : List (List ℕ)) (first : List ℕ) (fields : List (List ℕ)) (o : Option (List ℕ)) → lines ≡ first ∷ fields
    → IfNone o (is_get first && is_offer fields && passes is_key (only (keys fields)) ≡ false) → IfNone o (client_asks lines ≡ false)
asked_none lines first fields None e h = asks_lines lines first fields e ∙ h
asked_none lines first fields (Some key) e h = tt

-- one value that passes
pub record OnlyOne (test : List ℕ → Bool) (values : List (List ℕ)) : Type 0 where
  pub value : List ℕ
  pub one : values ≡ value ∷ []
  pub passed : test value ≡ true

pub only_one : (test : List ℕ → Bool) (values : List (List ℕ)) → passes test (only values) ≡ true → OnlyOne test values
only_one test [] h = absurd (cc h)
only_one test (value ∷ []) h = record { value = value; one = refl; passed = h }
only_one test (value ∷ other ∷ more) h = absurd (cc h)

asks_says_by : (first : List ℕ) (fields : List (List ℕ)) → (is_get first && is_offer fields && passes is_key (only (keys fields))) ≡ true → (key : List ℕ) × (only (keys fields) ≡ Some key) × ClientSays key (first ∷ fields)
asks_says_by first fields h =
    let a = and_parts (is_get first && is_offer fields) (passes is_key (only (keys fields))) h in
    let b = and_parts (is_get first) (is_offer fields) a.0 in
    let c = and_parts (are_fields fields && has_field (codes "Host") fields && is_upgrade fields) (passes (bytes_eq (codes "13")) (only (versions fields))) b.1 in
    let d = and_parts (are_fields fields && has_field (codes "Host") fields) (is_upgrade fields) c.0 in
    let e = and_parts (are_fields fields) (has_field (codes "Host") fields) d.0 in
    let f = and_parts (has_item (codes "Upgrade") (codes "websocket") fields) (has_item (codes "Connection") (codes "upgrade") fields) d.1 in
    let k : OnlyOne is_key (keys fields) = only_one is_key (keys fields) a.1 in
    let v : OnlyOne (bytes_eq (codes "13")) (versions fields) = only_one (bytes_eq (codes "13")) (versions fields) c.1 in
    let thirteen : codes "13" ≡ v.value = (bytes_eq-Decides (codes "13") v.value).0 v.passed in (
      k.value,
      ap only k.one,
      record {
        first = first;
        fields = fields;
        lines_are = refl;
        asked = b.0;
        read = e.0;
        host = e.1;
        upgrade = f.0;
        connection = f.1;
        key_is = k.one;
        strict = k.passed;
        version = v.one ∙ ap (λ (x : List ℕ). x ∷ []) (sym thirteen);
      },
    )

pub asks_says : (lines : List (List ℕ)) → client_asks lines ≡ true → ClientSays (key_of lines) lines
unfolding client_asks
asks_says [] h = absurd (cc h)
asks_says (first ∷ fields) h =
    let k = asks_says_by first fields h in
    subst (λ (key : List ℕ). ClientSays key (first ∷ fields)) (sym (key_lines (first ∷ fields) first fields k.0 refl k.1)) k.2

pub record Asks (key : List ℕ) (lines : List (List ℕ)) : Type 0 where
  pub passes_it : client_asks lines ≡ true
  pub key_is : key_of lines ≡ key

pub says_asks : (key : List ℕ) (lines : List (List ℕ)) → ClientSays key lines → Asks key lines
says_asks key lines s =
    let thirteen : bytes_eq (codes "13") (codes "13") ≡ true = (bytes_eq-Decides (codes "13") (codes "13")).1 refl in
    let k : passes is_key (only (keys s.fields)) ≡ true = ap (λ v. passes is_key (only v)) s.key_is ∙ s.strict in
    let v : passes (bytes_eq (codes "13")) (only (versions s.fields)) ≡ true = ap (λ x. passes (bytes_eq (codes "13")) (only x)) s.version ∙ thirteen in
    let offer : is_offer s.fields ≡ true = and_from _ _ (and_from _ _ (and_from _ _ s.read s.host) (and_from _ _ s.upgrade s.connection)) v in
    record {
      passes_it = asks_lines lines s.first s.fields s.lines_are ∙ and_from _ _ (and_from _ _ s.asked offer) k;
      key_is = key_lines lines s.first s.fields key s.lines_are (ap only s.key_is);
    }

-- what the code's cases are
front_of : (u : List ℕ) (f : Front) → head_front_by client_asks u ≡ f → client_front u ≡ asked_by (key_of (lines_at u)) f
unfolding client_front
front_of u f e = ap (asked_by (key_of (lines_at u))) e

judged_at : (u : List ℕ) (b : Bool) (f : Front) → client_asks (lines_at u) ≡ b → head_stop u ≡ f → head_front_by client_asks u ≡ judged_by b (head_size u) f
unfolding head_front_by
judged_at u b f p e = ap (λ x. judged_by x (head_size u) (head_stop u)) p ∙ ap (judged_by b (head_size u)) e

pub asked_whole : (u key : List ℕ) (size a b c : ℕ) → front.Whole a b c ≡ head_stop u → (client_asks (lines_at u) ≡ true) × (key_of (lines_at u) ≡ key) → size ≡ head_size u → Whole key size ≡ client_front u
asked_whole u key size a b c e k s =
    sym (front_of u (front.Whole 0 (head_size u) (head_size u)) (judged_at u true (front.Whole a b c) k.0 (sym e)) ∙ same (key_of (lines_at u)) key (head_size u) size k.1 (sym s))
  where
    same : (x y : List ℕ) (n m : ℕ) → x ≡ y → n ≡ m → Whole x n ≡ Whole y m
    same x y n m p q = cc

pub asked_bad : (u : List ℕ) (a b c : ℕ) → front.Whole a b c ≡ head_stop u → client_asks (lines_at u) ≡ false → Fault Eproto ≡ client_front u
asked_bad u a b c e k = sym (front_of u (front.Fault Eproto) (judged_at u false (front.Whole a b c) k (sym e)))

pub asked_open : (u : List ℕ) → front.Need ≡ head_stop u → Need ≡ client_front u
asked_open u e = sym (front_of u front.Need (judged_at u (client_asks (lines_at u)) front.Need refl (sym e)))

pub asked_fault : (u : List ℕ) (f : Errno) → front.Fault f ≡ head_stop u → Fault f ≡ client_front u
asked_fault u f e = sym (front_of u (front.Fault f) (judged_at u (client_asks (lines_at u)) (front.Fault f) refl (sym e)))

-- a client's head is read, whatever follows it, and so is each refusal
pub client_again : LineLaws → (key w rest : List ℕ) → ClientHead key w → client_front (w ++ rest) ≡ Whole key (length w)
unfolding client_front
client_again laws key w rest h =
    let a : Asks key h.lines = says_asks key h.lines h.says in
    let read : head_front_by client_asks (w ++ rest) ≡ front.Whole 0 (length w) (length w) = passing_again laws client_asks h.lines w rest h.text a.passes_it in
    let are : key_of (lines_at (w ++ rest)) ≡ key = ap key_of (lines_again laws h.lines w rest h.text) ∙ a.key_is in
    ap (asked_by (key_of (lines_at (w ++ rest)))) read ∙ ap (λ k. Whole k (length w)) are

pub client_refused : LineLaws → (e : Errno) (w rest : List ℕ) → HeadShows client_asks e w → client_front (w ++ rest) ≡ Fault e
unfolding client_front
client_refused laws e w rest s = ap (asked_by (key_of (lines_at (w ++ rest)))) (shown_again laws client_asks e w rest s)

asked_cases : LineLaws → (u : List ℕ) → HasLineFront u → (f : Front) → head_front_by client_asks u ≡ f → IsAsked u (asked_by (key_of (lines_at u)) f)
asked_cases laws u line (front.Whole a b c) e =
    let k : ReadsHead client_asks u a b c = whole_read laws client_asks u a b c e in
    record {
      there = k.there;
      head = record { lines = lines_at u; text = k.text; says = asks_says (lines_at u) k.passes };
    }
asked_cases laws u line front.Need e =
    let own : client_front u ≡ Need = front_of u front.Need e in
    record {
      unspelled = λ n h key s.
          let read : client_front (take n u ++ drop n u) ≡ Whole key (length (take n u)) = client_again laws key (take n u) (drop n u) s in
          cc (read, take-append-drop n u, own);
      unshown = λ n h f s.
          let read : client_front (take n u ++ drop n u) ≡ Fault f = client_refused laws f (take n u) (drop n u) s in
          cc (read, take-append-drop n u, own);
    }
asked_cases laws u line (front.Fault f) e = fault_shown laws client_asks u f line e

pub is_asked : LineLaws → (u : List ℕ) → HasLineFront u → (f : Asked) → f ≡ client_front u → IsAsked u f
unfolding client_front
is_asked laws u line f e = subst (λ (x : Asked). IsAsked u x) (sym e) (asked_cases laws u line (head_front_by client_asks u) refl)
