-- A fact of the value of an option, if there is one, through the ways in which options are made.
use Rattle.std.proofs.Common.{◌≡◌, List, ◌∷◌, Bool, true, false, if◌then◌else◌, Option, Some, None, IfSome, option_map, option_and_then, refl, ◌&&◌}
use Rattle.std.proofs.lemmas.Bool.{and_parts}
use Rattle.std.specs.Option.{option_or}
use Rattle.dill_script.specs.Numbers.{only_if, joined}
use Rattle.dill_script.specs.Statements.{both}

pub if_map : {X Y : Type 0} (P : Y → Type 0) (f : X → Y) (o : Option X) → IfSome o (λ x. P (f x)) → IfSome (option_map f o) P
if_map P f None h = tt
if_map P f (Some x) h = h

pub if_or : {X : Type 0} (P : X → Type 0) (o p : Option X) → IfSome o P → IfSome p P → IfSome (option_or o p) P
if_or P None p h k = k
if_or P (Some x) p h k = h

pub if_then : {X Y : Type 0} (P : Y → Type 0) (f : X → Option Y) (o : Option X) → IfSome o (λ x. IfSome (f x) P) → IfSome (option_and_then f o) P
if_then P f None h = tt
if_then P f (Some x) h = h

-- what follows from a fact of the value
pub if_more : {X : Type 0} (P Q : X → Type 0) (o : Option X) → ((x : X) → P x → Q x) → IfSome o P → IfSome o Q
if_more P Q None f h = tt
if_more P Q (Some x) f h = f x h

pub if_test : {X : Type 0} (P : X → Type 0) (b : Bool) (o p : Option X) → (b ≡ true → IfSome o P) → (b ≡ false → IfSome p P) → IfSome (if b then o else p) P
if_test P true o p h k = h refl
if_test P false o p h k = k refl

pub if_only : {X : Type 0} (P : X → Type 0) (b : Bool) (x : X) → (b ≡ true → P x) → IfSome (only_if b x) P
if_only P true x h = h refl
if_only P false x h = tt

pub if_joined : {X : Type 0} (P : X → Type 0) (Q R : List X → Type 0) (o : Option X) (os : Option (List X)) → ((x : X) (xs : List X) → P x → Q xs → R (x ∷ xs)) → IfSome o P → IfSome os Q → IfSome (joined o os) R
if_joined P Q R None None f h k = tt
if_joined P Q R None (Some xs) f h k = tt
if_joined P Q R (Some x) None f h k = tt
if_joined P Q R (Some x) (Some xs) f h k = f x xs h k

pub if_both : {X Y Z : Type 0} (P : X → Type 0) (Q : Y → Type 0) (R : Z → Type 0) (g : X → Y → Z) (o : Option X) (p : Option Y) → ((x : X) (y : Y) → P x → Q y → R (g x y)) → IfSome o P → IfSome p Q → IfSome (both g o p) R
if_both P Q R g None None f h k = tt
if_both P Q R g None (Some y) f h k = tt
if_both P Q R g (Some x) None f h k = tt
if_both P Q R g (Some x) (Some y) f h k = f x y h k
