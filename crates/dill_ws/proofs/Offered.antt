-- A client's head, piece by piece and line by line.
use Rattle.std.proofs.Common.{◌≡◌, ◌++◌, ◌∷◌, [], ℕ, List, codes, ◌∙◌, append_assoc}
use Rattle.std.specs.List.{flat_map}
use Rattle.std.proofs.lemmas.List.{append-nil}
use Rattle.dill_http.specs.Lines.{crlf}
use Rattle.dill_ws.specs.Handshakes.{client_lines, head_of_lines}

seven : (a r b h m k e : List ℕ) → (((((a ++ r) ++ b) ++ h) ++ m) ++ k) ++ e ≡ a ++ (r ++ (b ++ (h ++ (m ++ (k ++ e)))))
seven a r b h m k e = simp append_assoc

in_lines : (g r v ho h u co kn k ve n : List ℕ) → g ++ (r ++ (v ++ (n ++ (ho ++ (h ++ (n ++ (u ++ (n ++ (co ++ (n ++ (kn ++ (k ++ (n ++ (ve ++ (n ++ n)))))))))))))))
    ≡ flat_map (λ line. line ++ n) ((g ++ r ++ v) ∷ (ho ++ h) ∷ u ∷ co ∷ (kn ++ k) ∷ ve ∷ []) ++ n
in_lines g r v ho h u co kn k ve n = simp (append_assoc, append-nil)

pub whole_head : (resource host key : List ℕ) → (((((codes "GET " ++ resource) ++ codes " HTTP/1.1\r\nHost: ") ++ host) ++ codes "\r\nUpgrade: websocket\r\nConnection: Upgrade\r\nSec-WebSocket-Key: ") ++ key) ++ codes "\r\nSec-WebSocket-Version: 13\r\n\r\n" ≡ head_of_lines (client_lines resource host key)
whole_head resource host key =
    seven (codes "GET ") resource (codes " HTTP/1.1\r\nHost: ") host (codes "\r\nUpgrade: websocket\r\nConnection: Upgrade\r\nSec-WebSocket-Key: ") key (codes "\r\nSec-WebSocket-Version: 13\r\n\r\n")
    ∙ in_lines (codes "GET ") resource (codes " HTTP/1.1") (codes "Host: ") host (codes "Upgrade: websocket") (codes "Connection: Upgrade") (codes "Sec-WebSocket-Key: ") key (codes "Sec-WebSocket-Version: 13") crlf

pub flat_head : (resource host key text a b c d e f g : List ℕ) → text ≡ key → a ≡ codes "GET " → b ≡ a ++ resource → c ≡ b ++ codes " HTTP/1.1\r\nHost: " → d ≡ c ++ host
    → e ≡ d ++ codes "\r\nUpgrade: websocket\r\nConnection: Upgrade\r\nSec-WebSocket-Key: " → f ≡ e ++ text → g ≡ f ++ codes "\r\nSec-WebSocket-Version: 13\r\n\r\n"
    → g ≡ head_of_lines (client_lines resource host key)
flat_head resource host key text a b c d e f g et ea eb ec ed ee ef eg = rw (eg, ef, et, ee, ed, ec, eb, ea) (whole_head resource host key)
