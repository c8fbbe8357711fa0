-- The head that a client sends is one.
use Rattle.std.proofs.Common.{◌≡◌, ◌<◌, ◌≤◌, ◌+◌, ◌-◌, ◌++◌, ◌∷◌, [], ◌&&◌, ℕ, List, Bool, true, false, length, drop, codes, Option, Some, None, Ok, arith, sym, ap, ◌∙◌, refl, if◌then◌else◌, append_assoc, length-append, inl}
use Rattle.std.specs.Prelude.{is_some, nat_eq, nat_lt}
use Rattle.std.specs.Cmp.Lexicographic.{pointwise}
use Rattle.std.specs.List.{list_all, list_any, cons_option, starts_with}
use Rattle.std.proofs.lemmas.Bool.{and_parts, and_from, ltb-false, or_parts}
use Rattle.std.proofs.lemmas.List.{append-nil, drop_at}
use Rattle.base64.specs.GeneralPurpose.{encode_of}
use Rattle.base64.specs.Engines.{standard}
use Rattle.dill_base.specs.declared.errno.Errno.{Errno}
use Rattle.dill_base.specs.declared.errno.Errno.TheVariants.{Einval, Emsgsize}
use Rattle.dill_http.specs.Bytes.{is_inner, is_token_byte, is_resource_byte, is_resource}
use Rattle.dill_http.specs.Lines.{line_limit}
use Rattle.dill_http.specs.Heads.{own_version}
use Rattle.dill_http.specs.Reading.{request_cut}
use Rattle.dill_http.specs.Laws.{HeadLaws, FindsCut}
use Rattle.dill_ws.specs.HeadLines.{head_limit, is_full, are_full}
use Rattle.dill_ws.specs.Offers.{named, is_get, is_key, are_fields}
use Rattle.dill_ws.specs.FrameLaws.{AreBytes}
use Rattle.dill_ws.specs.Handshakes.{ClientSays, ClientHead, client_lines, head_of_lines, any_key, are_too_long, head_fault_of, unless, client_due}
use Rattle.dill_ws.proofs.Texts.{of_full}
use Rattle.dill_ws.proofs.Offered.{whole_head}
use Rattle.dill_ws.proofs.Sent.{Sent, AreSeen, sent_seen, seen_list, seen_inner, all_append, field_line, is_field, pick, picked, base64_seen, key_length, sent_key}

abbrev client_fields : List ℕ → List ℕ → List (List ℕ)
client_fields host key = field_line (codes "Host") host ∷ field_line (codes "Upgrade") (codes "websocket") ∷ field_line (codes "Connection") (codes "Upgrade") ∷ field_line (codes "Sec-WebSocket-Key") key ∷ field_line (codes "Sec-WebSocket-Version") (codes "13") ∷ []

-- each field is read as it is sent
record SentAll (host key : List ℕ) : Type 0 where
  pub host_sent : Sent (codes "Host") host
  pub upgrade_sent : Sent (codes "Upgrade") (codes "websocket")
  pub connection_sent : Sent (codes "Connection") (codes "Upgrade")
  pub key_sent : Sent (codes "Sec-WebSocket-Key") key
  pub version_sent : Sent (codes "Sec-WebSocket-Version") (codes "13")

sent_all : (host key : List ℕ) → AreSeen host → AreSeen key → SentAll host key
unfolding is_token_byte
sent_all host key h k = record {
  host_sent = sent_seen (codes "Host") host refl h;
  upgrade_sent = sent_seen (codes "Upgrade") (codes "websocket") refl refl;
  connection_sent = sent_seen (codes "Connection") (codes "Upgrade") refl refl;
  key_sent = sent_seen (codes "Sec-WebSocket-Key") key refl k;
  version_sent = sent_seen (codes "Sec-WebSocket-Version") (codes "13") refl refl;
}

five : (a b c d e p q r s t : Option (List ℕ)) → a ≡ p → b ≡ q → c ≡ r → d ≡ s → e ≡ t
    → cons_option a (cons_option b (cons_option c (cons_option d (cons_option e [])))) ≡ cons_option p (cons_option q (cons_option r (cons_option s (cons_option t []))))
five a b c d e p q r s t u v w x y = cc

-- the values of the fields with a name
found_in : HeadLaws → (n host key : List ℕ) → SentAll host key → named n (client_fields host key)
    ≡ cons_option (pick n (codes "Host") host) (cons_option (pick n (codes "Upgrade") (codes "websocket")) (cons_option (pick n (codes "Connection") (codes "Upgrade")) (cons_option (pick n (codes "Sec-WebSocket-Key") key) (cons_option (pick n (codes "Sec-WebSocket-Version") (codes "13")) []))))
found_in heads n host key s = five _ _ _ _ _ _ _ _ _ _ (picked heads n (codes "Host") host s.host_sent) (picked heads n (codes "Upgrade") (codes "websocket") s.upgrade_sent) (picked heads n (codes "Connection") (codes "Upgrade") s.connection_sent)
    (picked heads n (codes "Sec-WebSocket-Key") key s.key_sent) (picked heads n (codes "Sec-WebSocket-Version") (codes "13") s.version_sent)

all_read : HeadLaws → (host key : List ℕ) → SentAll host key → are_fields (client_fields host key) ≡ true
all_read heads host key s = and_from _ _ (is_field heads (codes "Host") host s.host_sent) (and_from _ _ (is_field heads (codes "Upgrade") (codes "websocket") s.upgrade_sent) (and_from _ _ (is_field heads (codes "Connection") (codes "Upgrade") s.connection_sent)
    (and_from _ _ (is_field heads (codes "Sec-WebSocket-Key") key s.key_sent) (and_from _ _ (is_field heads (codes "Sec-WebSocket-Version") (codes "13") s.version_sent) refl))))

-- the first line
abbrev get_line : List ℕ → List ℕ
get_line resource = codes "GET " ++ resource ++ codes " HTTP/1.1"

get_read : HeadLaws → (resource : List ℕ) → is_resource resource ≡ true → is_get (get_line resource) ≡ true
unfolding is_token_byte
get_read heads resource h =
    let line = get_line resource in
    let grouped : line ≡ codes "GET " ++ (resource ++ codes " HTTP/1.1") = append_assoc (codes "GET ") resource (codes " HTTP/1.1") in
    let f : FindsCut line (request_cut line) (codes "GET") resource = heads.request_found line (codes "GET") resource (record {
      right = and_from _ _ refl h;
      version = own_version;
      known = inl refl;
      whole = grouped;
    }) in
    let front = (codes "GET " ++ resource) ++ (32 ∷ []) in
    let parts : line ≡ front ++ own_version = sym (append_assoc (codes "GET " ++ resource) (32 ∷ []) own_version) in
    let count : length line ≡ length front + 8 = ap length parts ∙ length-append front own_version in
    let last : drop (length line - 8) line ≡ own_version = ap (drop (length line - 8)) parts ∙ drop_at front own_version (length line - 8) (omega arith) in
    and_from _ _ (ap is_some f.found_it) (and_from _ _ (ap (λ (x : List ℕ). starts_with nat_eq x (codes "GET ")) grouped) (ap (λ (x : List ℕ). pointwise nat_eq own_version x) last))

says : HeadLaws → (resource host key : List ℕ) → is_resource resource ≡ true → AreSeen host → AreSeen key → is_key key ≡ true → ClientSays key (client_lines resource host key)
says heads resource host key r h k strict =
    let s : SentAll host key = sent_all host key h k in
    record {
      first = get_line resource;
      fields = client_fields host key;
      lines_are = refl;
      asked = get_read heads resource r;
      read = all_read heads host key s;
      host = ap (λ (v : List (List ℕ)). nat_lt 0 (length v)) (found_in heads (codes "Host") host key s);
      upgrade = ap (list_any _) (found_in heads (codes "Upgrade") host key s);
      connection = ap (list_any _) (found_in heads (codes "Connection") host key s);
      key_is = found_in heads (codes "Sec-WebSocket-Key") host key s;
      strict = strict;
      version = found_in heads (codes "Sec-WebSocket-Version") host key s;
    }

-- how long the head is
total : (resource host key : List ℕ) → length (head_of_lines (client_lines resource host key)) ≡ 114 + length resource + length host + length key
total resource host key = ap length (sym (whole_head resource host key)) ∙ simp length-append (omega arith)

-- what is not refused is within the limits
record Within (resource host : List ℕ) : Type 0 where
  pub resource_right : is_resource resource ≡ true
  pub host_right : is_resource host ≡ true
  pub short : are_too_long (client_lines resource host any_key) ≡ false

within_by : (a b c : Bool) → (if a && b then (if c then Some Emsgsize else None) else Some Einval) ≡ None → (a ≡ true) × (b ≡ true) × (c ≡ false)
within_by true true true h = absurd (cc h)
within_by true true false h = (refl, refl, refl)
within_by true false c h = absurd (cc h)
within_by false b c h = absurd (cc h)

within : (resource host : List ℕ) → head_fault_of resource host ≡ None → Within resource host
unfolding head_fault_of
within resource host h =
    let k = within_by (is_resource resource) (is_resource host) (are_too_long (client_lines resource host any_key)) h in
    record { resource_right = k.0; host_right = k.1; short = k.2 }

due_ok : (o : Option Errno) (x w : List ℕ) → unless o x ≡ Ok w → (o ≡ None) × (w ≡ x)
due_ok None x w h = (refl, cc)
due_ok (Some e) x w h = absurd (cc h)

all_inner : (v : List ℕ) → AreSeen v → list_all is_inner v ≡ true
all_inner v h = seen_list is_inner seen_inner v h

pub full_line : (before middle after : List ℕ) → 0 < length before → list_all is_inner before ≡ true → AreSeen middle → list_all is_inner after ≡ true → length (before ++ middle ++ after) ≤ line_limit → is_full (before ++ middle ++ after) ≡ true
full_line before middle after some b m a short = of_full (before ++ middle ++ after) (record {
  some = omega (arith, length-append (before ++ middle) after, length-append before middle);
  inner = all_append is_inner (before ++ middle) after (all_append is_inner before middle b (all_inner middle m)) a;
  short = short;
})

long_line : (line : List ℕ) → nat_lt line_limit (length line) ≡ false → length line ≤ line_limit
long_line line h = ltb-false line_limit (length line) h

lines_full : (resource host key : List ℕ) → Within resource host → AreSeen key → length key ≡ 24 → are_full (client_lines resource host key) ≡ true
lines_full resource host key w k n =
    let a = or_parts (list_any (λ line. nat_lt line_limit (length line)) (client_lines resource host any_key)) (nat_lt head_limit (length (head_of_lines (client_lines resource host any_key)))) w.short in
    let b = or_parts (nat_lt line_limit (length (get_line resource))) _ a.0 in
    let c = or_parts (nat_lt line_limit (length (codes "Host: " ++ host))) _ b.1 in
    let r = (and_parts (nat_lt 0 (length resource)) (list_all is_resource_byte resource) w.resource_right).1 in
    let h = (and_parts (nat_lt 0 (length host)) (list_all is_resource_byte host) w.host_right).1 in
    let key_full : is_full (codes "Sec-WebSocket-Key: " ++ key ++ []) ≡ true = full_line (codes "Sec-WebSocket-Key: ") key [] (omega arith) refl k refl (simp length-append (omega arith)) in
    let host_full : is_full (codes "Host: " ++ host ++ []) ≡ true = full_line (codes "Host: ") host [] (omega arith) refl h refl (simp length-append (let l = long_line (codes "Host: " ++ host) c.0 in omega (arith, l, length-append (codes "Host: ") host))) in
    and_from _ _ (full_line (codes "GET ") resource (codes " HTTP/1.1") (omega arith) refl r refl (long_line (get_line resource) b.0))
    (and_from _ _ (ap is_full (sym (append-nil (codes "Host: " ++ host))) ∙ host_full)
    (and_from _ _ refl (and_from _ _ refl
    (and_from _ _ (ap is_full (sym (append-nil (codes "Sec-WebSocket-Key: " ++ key))) ∙ key_full) (and_from _ _ refl refl)))))

short_head : (resource host key : List ℕ) → Within resource host → length key ≡ 24 → length (head_of_lines (client_lines resource host key)) ≤ head_limit
short_head resource host key w n =
    let a = or_parts (list_any (λ line. nat_lt line_limit (length line)) (client_lines resource host any_key)) (nat_lt head_limit (length (head_of_lines (client_lines resource host any_key)))) w.short in
    let l : length (head_of_lines (client_lines resource host any_key)) ≤ head_limit = ltb-false head_limit (length (head_of_lines (client_lines resource host any_key))) a.1 in
    let same : length any_key ≡ 24 = refl in
    omega (arith, l, total resource host any_key, total resource host key, same)

-- A head that isn't refused is a client's head with its key.
pub client_sent : HeadLaws → (resource host nonce w : List ℕ) → length nonce ≡ 16 → AreBytes nonce → client_due resource host nonce ≡ Ok w → ClientHead (encode_of standard nonce) w
unfolding client_due
client_sent heads resource host nonce w n bytes due =
    let key = encode_of standard nonce in
    let d = due_ok (head_fault_of resource host) (head_of_lines (client_lines resource host key)) w due in
    let k : Within resource host = within resource host d.0 in
    let seen : AreSeen key = base64_seen nonce bytes in
    let count : length key ≡ 24 = key_length nonce n in
    let host_seen = (and_parts (nat_lt 0 (length host)) (list_all is_resource_byte host) k.host_right).1 in
    record {
      lines = client_lines resource host key;
      text = record {
        full = lines_full resource host key k seen count;
        whole = d.1;
        short = let s = short_head resource host key k count in let e = ap length d.1 in omega (arith, s, e);
      };
      says = says heads resource host key k.resource_right host_seen seen (sent_key nonce n bytes);
    }
