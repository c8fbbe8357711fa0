-- The payload of a close frame, read and written.
use Rattle.std.proofs.Common.{◌≡◌, ℕ, ◌+◌, ◌*◌, Bool, true, false, ◌&&◌, List, [], ◌∷◌, Option, Some, None, refl, sym}
use Rattle.std.specs.Prelude.{IsUtf8, IfSome, IfNone, if◌then◌else◌}
use Rattle.std.specs.Str.{is_utf8}
use Rattle.std.proofs.lemmas.Str.{IsUtf8-from_is_utf8, is_utf8-from_IsUtf8}
use Rattle.dill_ws.specs.Closing.{is_close_code, close_of, ClosePayload}

not_true : (b : Bool) → (b ≡ true → ⊥) → b ≡ false
not_true true h = absurd (h refl)
not_true false h = refl

pub test_of_no_text : (bs : List ℕ) → ¬ (IsUtf8 bs) → is_utf8 bs ≡ false
test_of_no_text bs h = not_true (is_utf8 bs) (λ e. h (IsUtf8-from_is_utf8 bs e))

given : (a b : Bool) (n m : ℕ) → (if a && b then Some n else None) ≡ Some m → (a ≡ true) × (b ≡ true) × (m ≡ n)
given true true n m h = (refl, refl, cc)
given true false n m h = absurd (cc h)
given false b n m h = absurd (cc h)

refused : (a b : Bool) (n : ℕ) → (if a && b then Some n else None) ≡ None → a ≡ true → b ≡ true → ⊥
refused true true n h p q = cc
refused true false n h p q = cc
refused false b n h p q = cc

-- what is read is a payload of this code
pub close_is : (payload : List ℕ) (code : ℕ) → close_of payload ≡ Some code → ClosePayload code payload
close_is [] code h = cc
close_is (half ∷ []) code h = absurd (cc h)
close_is (high ∷ low ∷ reason) code h =
    let k = given (is_close_code (high * 256 + low)) (is_utf8 reason) (high * 256 + low) code h in
    (k.2, rw k.2 k.0, IsUtf8-from_is_utf8 reason k.1)

-- each payload is read
pub close_of_payload : (payload : List ℕ) (code : ℕ) → ClosePayload code payload → close_of payload ≡ Some code
close_of_payload [] code h = cc
close_of_payload (half ∷ []) code h = absurd h
close_of_payload (high ∷ low ∷ reason) code h =
    let known : is_close_code (high * 256 + low) ≡ true = rw (← h.0) h.1 in
    rw (known, is_utf8-from_IsUtf8 reason h.2) (sym (ap_some code (high * 256 + low) h.0))
  where
    ap_some : (m n : ℕ) → m ≡ n → Some m ≡ Some n
    ap_some m n e = cc

pub some_close : (payload : List ℕ) (o : Option ℕ) → o ≡ close_of payload → IfSome o (λ code. ClosePayload code payload)
some_close payload (Some code) h = close_is payload code (sym h)
some_close payload None h = tt

pub no_close : (payload : List ℕ) (o : Option ℕ) → o ≡ close_of payload → IfNone o ((code : ℕ) → ClosePayload code payload → ⊥)
no_close payload (Some code) h = tt
no_close payload None h = λ code p. cc (close_of_payload payload code p)
