-- What a call may need is within what there is room for.
use Rattle.std.proofs.Common.{◌≡◌, ◌≤◌, ◌+◌, ◌∷◌, ◌∙◌, [], arith, sym, ap, ℕ, List, length, max}
use Rattle.dill_stack.specs.declared.placed.Base.{Base}
use Rattle.dill_stack.specs.declared.placed.Base.TheVariants as base
use Rattle.dill_stack.specs.declared.want.Want.{Want}
use Rattle.dill_stack.specs.declared.want.Want.TheVariants.{Exact, Message, Request, Status, Field}
use Rattle.dill_stack.specs.Formed.{IsFormed}
use Rattle.dill_stack.specs.Held.{Held}
use Rattle.dill_stack.specs.Layers.{TermLayer, Placed, Prefix, Suffix, Term, Http, Ws}
use Rattle.dill_stack.specs.Needs.{limit_of_want, message_need, need, unread_bound}
use Rattle.dill_stack.specs.Composed.{is_any}
use Rattle.dill_stack.specs.Refusing.{is_fault_with}
use Rattle.dill_stack.specs.Standing.{tower, base_layers, FitsBase, HasEnds, JoinsWithin}
use Rattle.dill_stack.proofs.Towers.{free_of}

-- room for so many is room for fewer
pub joins_less : (most limit : ℕ) (b : Base) → limit ≤ most → JoinsWithin most b → JoinsWithin limit b
joins_less most limit base.Bytes l j = tt
joins_less most limit (base.Prefix form) l j = tt
joins_less most limit (base.Suffix end) l j = tt
joins_less most limit (base.Http http) l j = tt
joins_less most limit (base.Ws framed) l j = omega (arith, l, j)

message_bounded : (limit most : ℕ) (layers : List Placed) → IsFormed layers → limit ≤ most → message_need limit layers ≤ unread_bound most
message_bounded limit most [] f l = omega (arith, l)
message_bounded limit most (Prefix form ∷ below) f l = omega (arith, l, f.1)
message_bounded limit most (Suffix end ∷ below) f l = omega (arith, l, f.1)
message_bounded limit most (Term term ∷ below) f l = message_bounded limit most below f.2 l
message_bounded limit most (Http http ∷ below) f l = omega (arith, l)
message_bounded limit most (Ws ws ∷ below) f l = omega (arith, l)

pub need_bounded : (want : Want) (most : ℕ) (s : Held) → IsFormed s.layers → limit_of_want want ≤ most → need want s ≤ unread_bound most
need_bounded (Exact n) most s f l = omega (arith, l)
need_bounded (Message limit) most s f l = message_bounded limit most s.layers f l
need_bounded Request most s f l = omega arith
need_bounded Status most s f l = omega arith
need_bounded Field most s f l = omega arith

formed_base : (b : Base) → FitsBase b → IsFormed (base_layers b)
formed_base base.Bytes f = tt
formed_base (base.Prefix form) f = (f.0, f.1, tt)
formed_base (base.Suffix end) f = (omega (arith, f.0), f.1, tt)
formed_base (base.Http http) f = tt
formed_base (base.Ws framed) f = tt

-- ends that no layer below them refuses, over a layer whose length or terminator is short
pub formed_tower : (ts : List TermLayer) (b : Base) → FitsBase b → HasEnds ts (base_layers b) → IsFormed (tower ts (base_layers b))
formed_tower [] b f e = formed_base b f
formed_tower (t ∷ ts) b f e = (e.0, sym (free_of (tower ts (base_layers b)) t.terminal) ∙ ap (is_fault_with is_any) e.1, formed_tower ts b f e.2)
