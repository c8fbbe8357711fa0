-- What a layer has passed, and more frames behind it.
use Rattle.std.proofs.Common.{◌≡◌, [], ◌∷◌, ◌++◌, List, ℕ, sym, ap, ◌∙◌, refl, subst, Bool, true, false, ◌&&◌, None}
use Rattle.std.specs.Prelude.{is_some, flat_map}
use Rattle.std.specs.List.{list_all}
use Rattle.std.proofs.lemmas.Grind.{flat_map-append}
use Rattle.std.proofs.lemmas.List.Elements.{filter-append}
use Rattle.std.proofs.lemmas.List.Folds.{list_all-append}
use Rattle.dill_ws.specs.Frames.{Part, data_parts}
use Rattle.dill_stack.specs.Layers.{WsLayer}
use Rattle.dill_stack.specs.WsReading.{is_data}
use Rattle.dill_stack.specs.Passing.{AreFollowing, is_passing, is_joining, joining_behind, begun, with_parts}
use Rattle.dill_stack.specs.Joining.{HasPassed}
use Rattle.dill_stack.proofs.OneMessage.{is_some_part, joining_is}

pub data_append : (a b : List Part) → data_parts (a ++ b) ≡ data_parts a ++ data_parts b
data_append a b = filter-append (λ p. is_data p.opcode) a b

begun_append : (a b : List Part) → begun (begun None a) b ≡ begun None (a ++ b)
begun_append [] b = refl
begun_append (d ∷ a) [] = refl
begun_append (d ∷ a) (x ∷ b) = refl

follow_append : (joining : Bool) (a b : List Part) → AreFollowing joining a → AreFollowing (joining_behind joining a) b → AreFollowing joining (a ++ b)
follow_append joining [] b f g = g
follow_append joining (part ∷ a) b f g = (f.0, follow_append (is_joining joining part) a b f.1 g)

some_begun : (ds : List Part) → is_some (begun None ds) ≡ is_some_part ds
some_begun [] = refl
some_begun (d ∷ ds) = refl

-- a message is being joined where the frames that were passed say so
pub state_is : (past : List Part) (ws : WsLayer) → HasPassed past ws → is_some ws.joining ≡ joining_behind false past
state_is past ws h = ap is_some h.joining ∙ some_begun (data_parts past) ∙ sym (joining_is false past h.passing)

-- more frames that come where they may are passed behind the others
pub passed_more : (past : List Part) (ws : WsLayer) (parts : List Part) → HasPassed past ws → AreFollowing (is_some ws.joining) parts → list_all is_passing parts ≡ true → HasPassed (past ++ parts) (with_parts parts ws)
passed_more past ws parts h f p =
    let payload : Part → List ℕ = λ part. part.payload in
    record {
      follows = follow_append false past parts h.follows (subst (λ j. AreFollowing j parts) (state_is past ws h) f);
      passing = list_all-append is_passing past parts ∙ ap (λ b. b && list_all is_passing parts) h.passing ∙ p;
      joining = ap (λ j. begun j (data_parts parts)) h.joining ∙ begun_append (data_parts past) (data_parts parts) ∙ ap (begun None) (sym (data_append past parts));
      joined = ap (λ x. x ++ flat_map payload (data_parts parts)) h.joined ∙ sym (flat_map-append payload (data_parts past) (data_parts parts)) ∙ ap (flat_map payload) (sym (data_append past parts));
    }
