-- What a look leaves of who is pending in a receive.
use Rattle.std.proofs.Common.{◌≡◌, Option, Some, None, IfSome, is_some, true, refl, sym, ap, ◌∙◌, subst}
use Rattle.rand_core.specs.Stream.{Stream}
use Rattle.dill_base.specs.Maps.{if_some}
use Rattle.dill_calls.specs.declared.answer.Answer.{Answer}
use Rattle.dill_calls.specs.CallTable.{word_of}
use Rattle.dill_stack.specs.declared.want.Want.{Want}
use Rattle.dill_stack.specs.Interface.{Held, read}
use Rattle.dill_rules.specs.declared.coroutine.Mode.{Mode}
use Rattle.dill_rules.specs.declared.coroutine.Mode.TheVariants as modes
use Rattle.dill_rules.specs.LinkAnswers.{answer_said}
use Rattle.dill_world.specs.Looks.{Twice, wanted, HasRooms, seen_by, answered_by, twice}
use Rattle.dill_world.specs.Twins.{answer_in}

-- it has the answer twice, and wants nothing more
pub record Got (said : Option Answer) (mode new : Mode) (twin : Answer) : Type 0 where
  pub some : is_some said ≡ true
  pub mode_is : new ≡ answered_by said mode
  pub twin_is : Some twin ≡ answer_in new
  pub rooms : (r : Option Twice) → HasRooms new r

answered : (said : Option Answer) (mode : Mode) (want : Want) (answer twin : Answer) → wanted mode ≡ Some want → Some (answer, twin) ≡ twice said → Got said mode (answered_by (Some answer) mode) twin
answered None mode want answer twin w e = cc
answered (Some a) (modes.Pending call) want answer twin w e =
    let both : ◌≡◌ {A = Answer × Answer} (answer, twin) (a, a) = cc in
    record { some = refl; mode_is = ap (λ x. modes.Fresh (word_of call) x.0) both; twin_is = ap (λ x. Some x.1) both ∙ sym (ap (λ x. Some x.0) both); rooms = λ r. tt }
answered (Some a) modes.Running want answer twin w e = cc
answered (Some a) _ want answer twin w e = cc

pub got : (said : Option Answer) (mode back new : Mode) (want : Want) (answer twin : Answer) → wanted mode ≡ Some want → back ≡ mode → new ≡ answered_by (Some answer) back → Some (answer, twin) ≡ twice said → Got said mode new twin
got said mode back new want answer twin w same is e = rw (is, same) (answered said mode want answer twin w e)

-- what a receive sees that is pending
pub seen : (mode : Mode) (want : Want) (random : Stream) (s : Held) → wanted mode ≡ Some want → answer_said (seen_by mode random s).said ≡ answer_said (read want random s).said
seen mode want random s w = rw w refl
