-- The laws of handshake heads (RFC 6455, section 4).
use Rattle.std.specs.Prelude.{◌≡◌, ◌<◌, ◌≤◌, ◌++◌, [], ℕ, List, length, Ok}
use Rattle.base64.specs.GeneralPurpose.{encode_of}
use Rattle.base64.specs.Engines.{standard}
use Rattle.dill_base.specs.declared.errno.Errno.{Errno}
use Rattle.dill_base.specs.declared.errno.Front.{Front}
use Rattle.dill_base.specs.declared.errno.Front.TheVariants as front
use Rattle.dill_ws.specs.declared.request.Asked.{Asked}
use Rattle.dill_ws.specs.declared.request.Asked.TheVariants.{Whole, Need, Fault}
use Rattle.dill_ws.specs.HeadLines.{head_limit, HeadShows}
use Rattle.dill_ws.specs.Offers.{client_asks, server_agrees}
use Rattle.dill_ws.specs.Handshakes.{accept_text, ClientHead, ServerHead, client_front, server_front, server_head_of, client_due}
use Rattle.dill_ws.specs.FrameLaws.{AreBytes}

-- Not an open front.
abbrev pub IsAnswered : Asked → Type 0
IsAnswered (Whole key used) = Unit {0}
IsAnswered Need = ⊥
IsAnswered (Fault e) = Unit {0}

abbrev pub IsJudged : Front → Type 0
IsJudged (front.Whole from to used) = Unit {0}
IsJudged front.Need = ⊥
IsJudged (front.Fault e) = Unit {0}

pub record HandshakeLaws : Type 0 where
  -- what is sent is a head: a client's with the base64 of its key, a server's with the accept value of the client's key
  pub client_sent : (resource host key w : List ℕ) → length key ≡ 16 → AreBytes key → client_due resource host key ≡ Ok w → ClientHead (encode_of standard key) w
  pub server_sent : (key : List ℕ) → ServerHead (accept_text key) (server_head_of (accept_text key))
  -- each head is read, whatever follows it, and so is each refusal
  pub client_again : (key w rest : List ℕ) → ClientHead key w → client_front (w ++ rest) ≡ Whole key (length w)
  pub client_refused : (e : Errno) (w rest : List ℕ) → HeadShows client_asks e w → client_front (w ++ rest) ≡ Fault e
  pub server_again : (accept w rest : List ℕ) → ServerHead accept w → server_front accept (w ++ rest) ≡ front.Whole 0 (length w) (length w)
  pub server_refused : (accept : List ℕ) (e : Errno) (w rest : List ℕ) → HeadShows (server_agrees accept) e w → server_front accept (w ++ rest) ≡ front.Fault e
  -- a head that is read is there, what was judged stays so when more comes, and what is open is short
  pub client_there : (u key : List ℕ) (used : ℕ) → client_front u ≡ Whole key used → used ≤ length u
  pub client_stays : (u v : List ℕ) (f : Asked) → client_front u ≡ f → IsAnswered f → client_front (u ++ v) ≡ f
  pub server_stays : (accept u v : List ℕ) (f : Front) → server_front accept u ≡ f → IsJudged f → server_front accept (u ++ v) ≡ f
  pub client_waits : (u : List ℕ) → client_front u ≡ Need → length u < head_limit
  pub server_waits : (accept u : List ℕ) → server_front accept u ≡ front.Need → length u < head_limit
  -- no head begins another
  pub client_free : (key other w rest : List ℕ) → ClientHead key w → ClientHead other (w ++ rest) → rest ≡ []
  pub server_free : (accept other w rest : List ℕ) → ServerHead accept w → ServerHead other (w ++ rest) → rest ≡ []
