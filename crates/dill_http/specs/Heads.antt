-- What the lines of a head say: RFC 9112, sections 2.3, 3, 4 and 5, with the tokens of RFC 9110, section 5.6.2.
use Rattle.std.specs.Prelude.{◌≡◌, ◌⊎◌, ◌≤◌, ◌+◌, ◌/◌, ◌%◌, ◌++◌, ◌∷◌, [], ◌&&◌, IsTrue, Bool, ℕ, List, length, codes, nat_le}
use Rattle.std.specs.List.{list_all}
use Rattle.dill_http.specs.Bytes.{is_blank, is_token, is_resource, is_text, is_bare}
use Rattle.dill_http.specs.Lines.{line_limit, crlf}

-- a command and a resource, a code and a reason, or a name and a value
pub data Said : Type 0 where
  Request : (command resource : List ℕ) → Said
  Status : (code : ℕ) (reason : List ℕ) → Said
  Field : (name value : List ℕ) → Said

-- the version that is sent
abbrev pub own_version : List ℕ
own_version = codes "HTTP/1.1"

-- the version that is read besides
abbrev pub old_version : List ℕ
old_version = codes "HTTP/1.0"

-- three digits, the greatest first
abbrev pub code_digits : ℕ → List ℕ
code_digits code = (48 + code / 100) ∷ (48 + code / 10 % 10) ∷ (48 + code % 10) ∷ []

-- a code of three digits, the first of which is not 0
abbrev pub is_code : ℕ → Bool
is_code code = nat_le 100 code && nat_le code 999

-- there is a line that says this, however long it is
abbrev pub is_right : Said → Bool
is_right (Request command resource) = is_token command && is_resource resource
is_right (Status code reason) = is_code code && is_text reason
is_right (Field name value) = is_token name && (is_text value && is_bare value)

-- the line that is sent, without its CRLF
abbrev pub line_of : Said → List ℕ
line_of (Request command resource) = command ++ (32 ∷ resource ++ (32 ∷ own_version))
line_of (Status code reason) = own_version ++ (32 ∷ code_digits code ++ (32 ∷ reason))
line_of (Field name value) = name ++ (58 ∷ 32 ∷ value)

-- w is the one line that is sent, of at most 8,192 bytes and CRLF
pub record LineWrites (said : Said) (w : List ℕ) : Type 0 where
  pub right : IsTrue (is_right said)
  pub short : length (line_of said) ≤ line_limit
  pub whole : w ≡ line_of said ++ crlf

-- either version is read
abbrev pub IsVersion : List ℕ → Type 0
IsVersion version = (version ≡ own_version) ⊎ (version ≡ old_version)

-- token, space, resource, space, version
pub record ReadsRequest (line command resource : List ℕ) : Type 0 where
  pub right : IsTrue (is_right (Request command resource))
  pub version : List ℕ
  pub known : IsVersion version
  pub whole : line ≡ command ++ (32 ∷ resource ++ (32 ∷ version))

-- a space and the reason, or nothing where the reason is empty
abbrev pub HasReason : List ℕ → List ℕ → Type 0
HasReason end reason = (end ≡ 32 ∷ reason) ⊎ ((end ≡ []) × (reason ≡ []))

-- version, space, three digits, and then a space and the reason
pub record ReadsStatus (line : List ℕ) (code : ℕ) (reason : List ℕ) : Type 0 where
  pub right : IsTrue (is_right (Status code reason))
  pub version : List ℕ
  pub known : IsVersion version
  pub end : List ℕ
  pub told : HasReason end reason
  pub whole : line ≡ version ++ (32 ∷ code_digits code ++ end)

-- token, colon, and the value between blanks
pub record ReadsField (line name value : List ℕ) : Type 0 where
  pub right : IsTrue (is_right (Field name value))
  pub before : List ℕ
  pub after : List ℕ
  pub blank : IsTrue (list_all is_blank before && list_all is_blank after)
  pub whole : line ≡ name ++ (58 ∷ before ++ (value ++ after))

-- the line, without its CRLF, says this to a reader
abbrev pub LineReads : List ℕ → Said → Type 0
LineReads line (Request command resource) = ReadsRequest line command resource
LineReads line (Status code reason) = ReadsStatus line code reason
LineReads line (Field name value) = ReadsField line name value
