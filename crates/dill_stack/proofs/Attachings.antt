-- What an attach leaves is formed, and a handshake is refused as its head is.
use Rattle.std.proofs.Common.{◌≡◌, ◌∷◌, List, length, refl, subst, Bool, true, false, not, ◌&&◌, Ok}
use Rattle.std.specs.Prelude.{nat_le, nat_lt, if◌then◌else◌, Some, None, ℕ}
use Rattle.dill_base.specs.declared.errno.Errno.TheVariants.{Einval, Emsgsize}
use Rattle.std.proofs.lemmas.Bool.{leb-true, and_parts}
use Rattle.dill_stack.specs.declared.layer.Layer.{Layer}
use Rattle.dill_stack.specs.declared.layer.Layer.TheVariants as layer
use Rattle.dill_stack.specs.Layers.{Placed, placed}
use Rattle.dill_stack.specs.Formed.{IsFormed}
use Rattle.dill_stack.specs.Held.{Held, is_broken}
use Rattle.dill_stack.specs.Composed.{is_refused}
use Rattle.dill_stack.specs.Refusals.{first_fault, is_done, is_allowed, attach_fault}
use Rattle.dill_stack.specs.Sending.{unless}
use Rattle.dill_stack.specs.Attaching.{attach, greet_fault}
use Rattle.dill_stack.specs.Greeting.{offer_fault}
use Rattle.dill_http.specs.Bytes.{is_resource}
use Rattle.dill_ws.specs.Handshakes.{client_lines, any_key, are_too_long, head_fault_of}

was_false : (b : Bool) → not b ≡ true → b ≡ false
was_false true e = cc
was_false false e = refl

-- what is allowed on formed layers is formed
allowed_formed : (l : Layer) (layers : List Placed) → is_allowed l layers ≡ true → IsFormed layers → IsFormed (placed l ∷ layers)
allowed_formed (layer.Prefix form) layers e f =
    let both : (nat_le 1 form.size ≡ true) × (nat_le form.size 8 ≡ true) = and_parts (nat_le 1 form.size) (nat_le form.size 8) e in
    (leb-true 1 form.size both.0, leb-true form.size 8 both.1, f)
allowed_formed (layer.Suffix end) layers e f =
    let both : (nat_le 1 (length end) ≡ true) × (nat_le (length end) 32 ≡ true) = and_parts (nat_le 1 (length end)) (nat_le (length end) 32) e in
    (leb-true 1 (length end) both.0, leb-true (length end) 32 both.1, f)
allowed_formed (layer.Term terminal) layers e f =
    let room : ((nat_le (length terminal) 1024 && not (is_refused layers terminal)) ≡ true) × (nat_lt (length layers) 8 ≡ true) = and_parts (nat_le (length terminal) 1024 && not (is_refused layers terminal)) (nat_lt (length layers) 8) e in
    let both : (nat_le (length terminal) 1024 ≡ true) × (not (is_refused layers terminal) ≡ true) = and_parts (nat_le (length terminal) 1024) (not (is_refused layers terminal)) room.0 in
    (leb-true (length terminal) 1024 both.0, was_false (is_refused layers terminal) both.1, f)
allowed_formed layer.Http layers e f = f
allowed_formed (layer.Ws side text) layers e f = f

-- what wasn't refused is allowed
allowed_by : (allowed busy over broken long : Bool) (s t : Held) → unless (first_fault (not allowed) busy over broken long) (Ok s) ≡ Ok t → (allowed ≡ true) × (s ≡ t)
allowed_by false busy over broken long s t e = cc
allowed_by true true over broken long s t e = cc
allowed_by true false true broken long s t e = cc
allowed_by true false false true long s t e = cc
allowed_by true false false false true s t e = cc
allowed_by true false false false false s t e = (refl, cc)

pub attach_formed : (l : Layer) (s t : Held) → attach l s ≡ Ok t → IsFormed s.layers → IsFormed t.layers
unfolding attach attach_fault
attach_formed l s t e f =
    let a : (is_allowed l s.layers ≡ true) × (record s { layers = placed l ∷ s.layers } ≡ t) = allowed_by (is_allowed l s.layers) false false (is_broken s) false (record s { layers = placed l ∷ s.layers }) t e in
    subst (λ (x : Held). IsFormed x.layers) a.1 (allowed_formed l s.layers a.0 f)

-- the refusal of a head has its place in the order
offered_by : (right long done broken : Bool) → done ≡ false → broken ≡ false → first_fault (not right) false done broken long ≡ (if right then (if long then Some Emsgsize else None) else Some Einval)
offered_by false long done broken d b = refl
offered_by true long true broken d b = cc
offered_by true long false true d b = cc
offered_by true true false false d b = refl
offered_by true false false false d b = refl

pub head_offered : (resource host : List ℕ) (s : Held) → is_done s ≡ false → is_broken s ≡ false → offer_fault resource host s ≡ head_fault_of resource host
unfolding greet_fault head_fault_of
head_offered resource host s d b = offered_by (is_resource resource && is_resource host) (are_too_long (client_lines resource host any_key)) (is_done s) (is_broken s) d b
