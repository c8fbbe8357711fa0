-- A closing that is moved behind the others stands there in order.
use Rattle.std.proofs.Common.{◌≡◌, ◌∙◌, ℕ, suc, ◌+◌, ◌-◌, List, [], ◌∷◌, ◌++◌, length, take, drop, cond, Bool, true, false, nat_lt, refl, sym, ap, arith, length-append, slice_index_or, if◌then◌else◌, length-drop}
use Rattle.std.proofs.Math.Seq.{drop-append_seam, drop-append-add}
use Rattle.std.proofs.lemmas.List.{take_all}
use Rattle.std.proofs.lemmas.List.Edits.{insert-append_right, remove-append_right}
use Rattle.std.specs.List.{insert, remove}
use Rattle.dill_calls.specs.declared.ran.Note.{Note}
use Rattle.dill_scope.specs.Scopes.{Scopes}
use Rattle.dill_rules.specs.declared.coroutine.Closing.{Closing}
use Rattle.dill_rules.specs.Settling.{placed, free_all}
use Rattle.dill_world.specs.Store.{Store, world_of}
use Rattle.dill_world.specs.Freeings.{drop_each, notes_of, others_of}
use Rattle.dill_world.specs.Gathering.{spot, going, gathered}
use Rattle.dill_world.proofs.Freeing.{frees_all}

spot_at : (b : Bool) (x y : Closing) (ys : List Closing) (k : ℕ) → insert ys k x ≡ placed x ys → insert (y ∷ ys) (cond b (1 + k) 0) x ≡ cond b (y ∷ placed x ys) (x ∷ y ∷ ys)
spot_at true x y ys k h = let e : 1 + k ≡ suc k = omega arith in rw e (ap (λ zs. y ∷ zs) h)
spot_at false x y ys k h = refl

placed_there : (x : Closing) (ys : List Closing) → insert ys (spot x.number ys) x ≡ placed x ys
placed_there x [] = refl
placed_there x (y ∷ ys) = spot_at (nat_lt x.number y.number) x y ys (spot x.number ys) (placed_there x ys)

insert_behind : (front ys : List Closing) (k : ℕ) (x : Closing) → insert (front ++ ys) (length front + k) x ≡ front ++ insert ys k x
insert_behind front ys k x =
    let e : (length front + k) - length front ≡ k = omega arith in
    insert-append_right front ys (length front) (length front + k) x refl (omega arith) ∙ ap (λ j. front ++ insert ys j x) e

remove_behind : (front ys : List Closing) (x : Closing) → remove (front ++ x ∷ ys) (length front) ≡ front ++ ys
remove_behind front ys x =
    let e : length front - length front ≡ 0 = omega arith in
    remove-append_right front (x ∷ ys) (length front) (length front) refl (omega arith) ∙ ap (λ j. front ++ remove (x ∷ ys) j) e

found_behind : (front ys : List Closing) (x d : Closing) → slice_index_or (front ++ x ∷ ys) (length front) d ≡ x
found_behind [] ys x d = refl
found_behind (f ∷ front) ys x d = found_behind front ys x d

-- the closing at a place has gone behind the others, into the order there
pub moved : (xs less more : List Closing) (i from at : ℕ) (y : Closing) (part : List Closing) → y ≡ slice_index_or xs i y → less ≡ remove xs i → part ≡ drop (from - 1) less → at ≡ spot y.number part → more ≡ insert less (from - 1 + at) y → (front mid tail : List Closing) (x : Closing) → xs ≡ front ++ x ∷ (mid ++ tail) → length front ≡ i → i + 1 + length mid ≡ from → more ≡ front ++ (mid ++ placed x tail)
moved xs less more i from at y part v l p s m front mid tail x e f n =
    let y_is : y ≡ x = v ∙ rw (e, ← f) (found_behind front (mid ++ tail) x y) in
    let less_is : less ≡ front ++ (mid ++ tail) = l ∙ rw (e, ← f) (remove_behind front (mid ++ tail) x) in
    let place : from - 1 ≡ length front + length mid = omega (arith, f, n) in
    let part_is : part ≡ tail = p ∙ rw (place, less_is) (drop-append-add front (mid ++ tail) (length mid) ∙ drop-append_seam mid tail) in
    let at_is : at ≡ spot x.number tail = s ∙ rw (y_is, part_is) refl in
    let sum : from - 1 + at ≡ length front + (length mid + spot x.number tail) = omega (arith, place, at_is) in
    m ∙ rw (less_is, sum, y_is) (insert_behind front (mid ++ tail) (length mid + spot x.number tail) x ∙ ap (λ zs. front ++ zs) (insert_behind mid tail (spot x.number tail) x ∙ ap (λ zs. mid ++ zs) (placed_there x tail)))

module _ {V : Type 0} where
  -- what the code has is the world that the definition has
  pub freed_world : (who : ℕ) (k : Store V) (s : Scopes) (part left : List Closing) (notes : List Note) → part ≡ going k.scopes who k.closings → left ≡ others_of k.scopes who k.closings → s ≡ drop_each k.scopes part → notes ≡ k.notes ++ notes_of part → world_of (record k { scopes = s; closings = left; notes = notes }) ≡ free_all (world_of k) who
  freed_world who k s part left notes p l e n = rw (l, e, n, p) (sym (frees_all who (world_of k)))

take_seam : (xs ys : List Closing) → take (length xs) (xs ++ ys) ≡ xs
take_seam [] ys = refl
take_seam (x ∷ xs) ys = ap (λ zs. x ∷ zs) (take_seam xs ys)

-- those of other owners are left where the rest is cut off
pub left_there : (s : Scopes) (who first : ℕ) (all old : List Closing) → all ≡ gathered s who old → first ≡ length (others_of s who old) → take first all ≡ others_of s who old
left_there s who first all old a f = rw (f, a) (take_seam (others_of s who old) (going s who old))

pub length_notes : (xs : List Closing) → length (notes_of xs) ≡ length xs
length_notes [] = refl
length_notes (x ∷ xs) = ap suc (length_notes xs)

-- how many closings and notes there are then
pub freed_lengths : (s : Scopes) (who : ℕ) (all old part left : List Closing) → all ≡ gathered s who old → part ≡ going s who old → left ≡ others_of s who old → length left + length (notes_of part) ≡ length all
freed_lengths s who all old part left a p l =
    let n = length_notes part in
    let sum : length all ≡ length (others_of s who old) + length (going s who old) = ap length a ∙ length-append (others_of s who old) (going s who old) in
    omega (arith, n, sum, ap length p, ap length l)

-- a list that is one longer is the one where it has room
pub picked : (b : Bool) (more less all : List Closing) → all ≡ (if b then more else less) → length all ≡ suc (length less) → all ≡ more
picked true more less all e h = e
picked false more less all e h = let same : length all ≡ length less = ap length e in absurd (omega (arith, h, same))

-- what is left of a list from a place on is all of it
pub whole_part : (k : ℕ) (xs slice : List Closing) → slice ≡ xs → take (length slice - k) (drop k slice) ≡ drop k xs
whole_part k xs slice e = rw e (take_all (length xs - k) (drop k xs) (grind (arith, length-drop)))
