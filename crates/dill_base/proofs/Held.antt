-- Files by their places.
use Rattle.std.proofs.Common.{◌≡◌, ◌∙◌, ℕ, zero, suc, ◌+◌, ◌-◌, ◌<◌, ◌≤◌, true, List, [], ◌∷◌, ◌++◌, length, take, drop, get_or, Some, false, refl, sym, ap, subst, arith, min, take-append-drop, length-drop, length-take, length-append}
use Rattle.std.proofs.lemmas.List.{take_all, drop-drop, take-append-le, nil_from_length}
use Rattle.std.specs.Str.{bytes_eq}
use Rattle.dill_base.specs.Shelves.{Files, bytes_under, Reads}
use Rattle.dill_base.specs.Causes.{one_more, is_listed}
use Rattle.dill_base.specs.declared.shelf.Piece.{Piece}
use Rattle.dill_base.specs.MemShelf.{HeldFiles, left_of, piece_of, after_read}

pub left_past : (files : Files) (place at : ℕ) → length files ≤ place → left_of files place at ≡ []
left_past [] place at le = refl
left_past (file ∷ files) zero at le = absurd (omega arith)
left_past (file ∷ files) (suc place) at le = left_past files place at (omega arith)

pub left_is : (files : Files) (place at : ℕ) (d : List ℕ × List ℕ) → place < length files → left_of files place at ≡ drop at (get_or files place d).1
left_is [] place at d lt = absurd (omega arith)
left_is (file ∷ files) zero at d lt = refl
left_is (file ∷ files) (suc place) at d lt = left_is files place at d (omega arith)

pub found : (files : Files) (name : List ℕ) (i : ℕ) (file : List ℕ × List ℕ) → i < length files → file ≡ get_or files i file → bytes_eq file.0 name ≡ true → bytes_under (drop i files) name ≡ Some (left_of files i 0)
found [] name i file lt is same = absurd (omega arith)
found (first ∷ files) name zero file lt is same = rw (← is, same) refl
found (first ∷ files) name (suc i) file lt is same = found files name i file (omega arith) is same

pub rest_from : (bytes : List ℕ) (n : ℕ) → take (length bytes - n) (drop n bytes) ≡ drop n bytes
rest_from bytes n = take_all (length bytes - n) (drop n bytes) (simp length-drop (omega arith))

-- a shelf at this place
abbrev pub stands_at : Files → List ℕ → ℕ → HeldFiles
stands_at files fails place = record { files = files; left = left_of files place 0; fails = fails; calls = 0; faults = 0 }

abbrev pub stands_still : Files → List ℕ → HeldFiles
stands_still files fails = record { files = files; left = []; fails = fails; calls = 0; faults = 0 }

-- a shelf of which no file is started
pub new_shelf : (files : Files) (fails : List ℕ) (place : ℕ) → length files ≤ place → stands_at files fails place ≡ stands_still files fails
new_shelf files fails place le = let with_left : List ℕ → HeldFiles = λ l. record { files = files; left = l; fails = fails; calls = 0; faults = 0 } in ap with_left (left_past files place 0 le)

pub left_after : (files : Files) (place at n : ℕ) → left_of files place (at + n) ≡ drop n (left_of files place at)
left_after [] place at zero = refl
left_after [] place at (suc n) = refl
left_after (file ∷ files) zero at n = sym (drop-drop n at file.1)
left_after (file ∷ files) (suc place) at n = left_after files place at n

-- as many as there are and fit
same_drop : (bytes : List ℕ) (n room : ℕ) → n ≡ min (length bytes) room → drop n bytes ≡ drop room bytes
same_drop [] zero zero is = refl
same_drop [] zero (suc room) is = refl
same_drop [] (suc n) room is = absurd (omega arith)
same_drop (byte ∷ bytes) zero zero is = refl
same_drop (byte ∷ bytes) zero (suc room) is = absurd (omega arith)
same_drop (byte ∷ bytes) (suc n) zero is = absurd (omega arith)
same_drop (byte ∷ bytes) (suc n) (suc room) is = same_drop bytes n room (omega arith)

same_take : (bytes : List ℕ) (n room : ℕ) → n ≡ min (length bytes) room → take n bytes ≡ take room bytes
same_take [] zero zero is = refl
same_take [] zero (suc room) is = refl
same_take [] (suc n) room is = absurd (omega arith)
same_take (byte ∷ bytes) zero zero is = refl
same_take (byte ∷ bytes) zero (suc room) is = absurd (omega arith)
same_take (byte ∷ bytes) (suc n) zero is = absurd (omega arith)
same_take (byte ∷ bytes) (suc n) (suc room) is = ap (λ (l : List ℕ). byte ∷ l) (same_take bytes n room (omega arith))

-- what is left behind as many bytes as fit
pub left_behind : (files : Files) (place at n room : ℕ) → n ≡ min (length (left_of files place at)) room → left_of files place (at + n) ≡ drop room (left_of files place at)
left_behind files place at n room is = left_after files place at n ∙ same_drop (left_of files place at) n room is

-- what the buffer holds then
pub buffer_is : (left buf : List ℕ) (n : ℕ) → n ≡ min (length left) (length buf) → take n left ++ drop n buf ≡ take (length buf) left ++ drop (length (take (length buf) left)) buf
buffer_is left buf n is =
    let count : n ≡ length (take (length buf) left) = simp length-take (omega arith) in
    ap (λ (l : List ℕ). l ++ drop n buf) (same_take left n (length buf) is) ∙ ap (λ (k : ℕ). take (length buf) left ++ drop k buf) count

front : (left buf : List ℕ) (n : ℕ) → n ≤ length left → take n (take n left ++ drop n buf) ≡ take n left
front left buf n le =
    let count : length (take n left) ≡ n = simp length-take (omega arith) in
    take-append-le n (take n left) (drop n buf) (omega arith) ∙ take_all n (take n left) (omega arith)

pub reads_piece : (left buf : List ℕ) (n : ℕ) → 0 < length buf → n ≡ min (length left) (length buf) → Reads (Some left) (Some (drop n left)) (take n left ++ drop n buf) (piece_of n)
reads_piece left buf zero some is = (nil_from_length left (omega arith), refl)
reads_piece left buf (suc n) some is = (
  omega arith,
  simp (length-append, length-take, length-drop) (omega arith),
  sym (take-append-drop (suc n) left) ∙ ap (λ (l : List ℕ). l ++ drop (suc n) left) (sym (front left buf (suc n) (omega arith))),
)

abbrev pub shelf_at : Files → List ℕ → ℕ → ℕ → ℕ → ℕ → HeldFiles
shelf_at files fails place at calls faults = record { files = files; left = left_of files place at; fails = fails; calls = calls; faults = faults }

-- a shelf behind the bytes that it gave
pub after_read_is : (files : Files) (fails : List ℕ) (place at n room calls calls' faults : ℕ) (shelf : HeldFiles) → shelf_at files fails place at calls faults ≡ shelf → calls' ≡ one_more calls → is_listed fails calls' ≡ false
    → n ≡ min (length (left_of files place at)) room → shelf_at files fails place (at + n) calls' faults ≡ after_read shelf room
after_read_is files fails place at n room calls calls' faults shelf is more free count =
    let due : is_listed fails (one_more calls) ≡ false = ap (is_listed fails) (sym more) ∙ free in
    let here : shelf_at files fails place (at + n) calls' faults ≡ after_read (shelf_at files fails place at calls faults) room = rw (due, left_behind files place at n room count, more) refl in
    here ∙ ap (λ (s : HeldFiles). after_read s room) is

pub reads_shelf : (files : Files) (fails : List ℕ) (place at n calls faults : ℕ) (shelf : HeldFiles) (buf buf' : List ℕ) (piece : Piece) → shelf_at files fails place at calls faults ≡ shelf → 0 < length buf
    → n ≡ min (length (left_of files place at)) (length buf) → buf' ≡ take n (left_of files place at) ++ drop n buf → piece ≡ piece_of n
    → Reads (Some shelf.left) (Some (left_of files place (at + n))) buf' piece
reads_shelf files fails place at n calls faults shelf buf buf' piece is some count same given =
    let left = left_of files place at in
    let here : Reads (Some left) (Some (drop n left)) (take n left ++ drop n buf) (piece_of n) = reads_piece left buf n some count in
    let moved : Reads (Some left) (Some (left_of files place (at + n))) (take n left ++ drop n buf) (piece_of n) = subst (λ (l : List ℕ). Reads (Some left) (Some l) (take n left ++ drop n buf) (piece_of n)) (sym (left_after files place at n)) here in
    let buffered : Reads (Some left) (Some (left_of files place (at + n))) buf' (piece_of n) = subst (λ (l : List ℕ). Reads (Some left) (Some (left_of files place (at + n))) l (piece_of n)) (sym same) moved in
    let whole : Reads (Some left) (Some (left_of files place (at + n))) buf' piece = subst (λ (p : Piece). Reads (Some left) (Some (left_of files place (at + n))) buf' p) (sym given) buffered in
    subst (λ (s : HeldFiles). Reads (Some s.left) (Some (left_of files place (at + n))) buf' piece) is whole
