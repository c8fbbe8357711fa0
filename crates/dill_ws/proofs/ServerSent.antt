-- The head that a server sends is one.
use Rattle.std.proofs.Common.{◌≡◌, ◌++◌, ◌∷◌, [], ℕ, List, true, length, codes, Option, arith, sym, ap, ◌∙◌, refl, append_assoc, length-append}
use Rattle.std.specs.List.{list_any, cons_option, flat_map}
use Rattle.std.proofs.lemmas.Bool.{and_from}
use Rattle.std.proofs.lemmas.List.{append-nil}
use Rattle.sha1.specs.Sha1.{sha1}
use Rattle.dill_http.specs.Bytes.{is_token_byte}
use Rattle.dill_http.specs.Lines.{crlf}
use Rattle.dill_http.specs.Reading.{status_cut}
use Rattle.dill_http.specs.Laws.{HeadLaws}
use Rattle.dill_ws.specs.HeadLines.{is_full}
use Rattle.dill_ws.specs.Offers.{named, is_switch}
use Rattle.dill_ws.specs.Handshakes.{ServerSays, ServerHead, accept_text, server_head_of, head_of_lines}
use Rattle.dill_ws.proofs.Sent.{Sent, AreSeen, sent_seen, field_line, is_field, pick, picked, base64_seen, value_length}
use Rattle.dill_ws.proofs.Digests.{digest_are_bytes, digest_length}
use Rattle.dill_ws.proofs.ClientSent.{full_line}

abbrev server_fields : List ℕ → List (List ℕ)
server_fields accept = field_line (codes "Upgrade") (codes "websocket") ∷ field_line (codes "Connection") (codes "Upgrade") ∷ field_line (codes "Sec-WebSocket-Accept") accept ∷ []

abbrev server_lines : List ℕ → List (List ℕ)
server_lines accept = codes "HTTP/1.1 101 Switching Protocols" ∷ server_fields accept

record SentAll (accept : List ℕ) : Type 0 where
  pub upgrade_sent : Sent (codes "Upgrade") (codes "websocket")
  pub connection_sent : Sent (codes "Connection") (codes "Upgrade")
  pub accept_sent : Sent (codes "Sec-WebSocket-Accept") accept

sent_all : (accept : List ℕ) → AreSeen accept → SentAll accept
unfolding is_token_byte
sent_all accept h = record {
  upgrade_sent = sent_seen (codes "Upgrade") (codes "websocket") refl refl;
  connection_sent = sent_seen (codes "Connection") (codes "Upgrade") refl refl;
  accept_sent = sent_seen (codes "Sec-WebSocket-Accept") accept refl h;
}

three : (a b c p q r : Option (List ℕ)) → a ≡ p → b ≡ q → c ≡ r → cons_option a (cons_option b (cons_option c [])) ≡ cons_option p (cons_option q (cons_option r []))
three a b c p q r u v w = cc

found_in : HeadLaws → (n accept : List ℕ) → SentAll accept → named n (server_fields accept) ≡ cons_option (pick n (codes "Upgrade") (codes "websocket")) (cons_option (pick n (codes "Connection") (codes "Upgrade")) (cons_option (pick n (codes "Sec-WebSocket-Accept") accept) []))
found_in heads n accept s = three _ _ _ _ _ _ (picked heads n (codes "Upgrade") (codes "websocket") s.upgrade_sent) (picked heads n (codes "Connection") (codes "Upgrade") s.connection_sent) (picked heads n (codes "Sec-WebSocket-Accept") accept s.accept_sent)

switch_read : is_switch (codes "HTTP/1.1 101 Switching Protocols") ≡ true
unfolding status_cut
switch_read = refl

says : HeadLaws → (accept : List ℕ) → AreSeen accept → ServerSays accept (server_lines accept)
says heads accept h =
    let s : SentAll accept = sent_all accept h in
    record {
      first = codes "HTTP/1.1 101 Switching Protocols";
      fields = server_fields accept;
      lines_are = refl;
      switched = switch_read;
      read = and_from _ _ (is_field heads (codes "Upgrade") (codes "websocket") s.upgrade_sent) (and_from _ _ (is_field heads (codes "Connection") (codes "Upgrade") s.connection_sent) (and_from _ _ (is_field heads (codes "Sec-WebSocket-Accept") accept s.accept_sent) refl));
      upgrade = ap (list_any _) (found_in heads (codes "Upgrade") accept s);
      connection = ap (list_any _) (found_in heads (codes "Connection") accept s);
      accept_is = found_in heads (codes "Sec-WebSocket-Accept") accept s;
      no_extension = found_in heads (codes "Sec-WebSocket-Extensions") accept s;
      no_protocol = found_in heads (codes "Sec-WebSocket-Protocol") accept s;
    }

in_lines : (f u c an a n : List ℕ) → f ++ (n ++ (u ++ (n ++ (c ++ (n ++ (an ++ (a ++ (n ++ n)))))))) ≡ flat_map (λ line. line ++ n) (f ∷ u ∷ c ∷ (an ++ a) ∷ []) ++ n
in_lines f u c an a n = simp (append_assoc, append-nil)

whole : (accept : List ℕ) → server_head_of accept ≡ head_of_lines (server_lines accept)
whole accept =
    append_assoc (codes "HTTP/1.1 101 Switching Protocols\r\nUpgrade: websocket\r\nConnection: Upgrade\r\nSec-WebSocket-Accept: ") accept (codes "\r\n\r\n")
    ∙ in_lines (codes "HTTP/1.1 101 Switching Protocols") (codes "Upgrade: websocket") (codes "Connection: Upgrade") (codes "Sec-WebSocket-Accept: ") accept crlf

-- The head with a value that is seen is a server's head with that value.
value_sent : HeadLaws → (accept : List ℕ) → AreSeen accept → length accept ≡ 28 → ServerHead accept (server_head_of accept)
value_sent heads accept h n = record {
  lines = server_lines accept;
  text = record {
    full = and_from _ _ refl (and_from _ _ refl (and_from _ _ refl (and_from _ _ (ap is_full (sym (append-nil (codes "Sec-WebSocket-Accept: " ++ accept))) ∙ full_line (codes "Sec-WebSocket-Accept: ") accept [] (omega arith) refl h refl (simp length-append (omega arith))) refl)));
    whole = whole accept;
    short = simp length-append (omega arith);
  };
  says = says heads accept h;
}

-- The head with the value of a key is a server's head with that value.
pub server_sent : HeadLaws → (key : List ℕ) → ServerHead (accept_text key) (server_head_of (accept_text key))
server_sent heads key =
    let text = key ++ codes "258EAFA5-E914-47DA-95CA-C5AB0DC85B11" in
    value_sent heads (accept_text key) (base64_seen (sha1 text) (digest_are_bytes text)) (value_length (sha1 text) (digest_length text))
