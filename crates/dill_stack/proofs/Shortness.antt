-- Where a receive awaits more bytes, fewer are unread than it may need.
use Rattle.std.proofs.Common.{◌≡◌, ◌<◌, ◌-◌, ◌∷◌, ◌∙◌, [], sym, refl, ℕ, List, Bool, true, false, length, take, drop, nat_lt, Option, Some, None, if◌then◌else◌}
use Rattle.std.proofs.lemmas.Bool.{ltb-true}
use Rattle.dill_base.specs.declared.errno.Errno.{Errno}
use Rattle.dill_base.specs.declared.errno.Errno.TheVariants.{Epipe, Eproto}
use Rattle.dill_base.specs.declared.errno.Front.{Front}
use Rattle.dill_base.specs.declared.errno.Front.TheVariants as front
use Rattle.dill_calls.specs.declared.answer.Answer.{Answer}
use Rattle.dill_calls.specs.declared.answer.Answer.TheVariants.{Bytes}
use Rattle.dill_http.specs.Laws.{LineLaws}
use Rattle.dill_http.specs.Lines.{front_of_line}
use Rattle.dill_stack.specs.declared.placed.Base.{Base}
use Rattle.dill_stack.specs.declared.placed.Base.TheVariants as base
use Rattle.dill_stack.specs.declared.want.Want.{Want}
use Rattle.dill_stack.specs.declared.want.ReadOut.TheVariants.{Given, Need, Fault}
use Rattle.dill_stack.specs.Layers.{TermLayer, HttpLayer, Placed, Prefix, Suffix, Term, Http, Ws, BehindEmpty, HasMessages, IsStanding, is_behind}
use Rattle.dill_stack.specs.Read.{Outcome, outcome, read_line, by_front, by_line, given_line, line_answer, ends_fields, received}
use Rattle.dill_stack.specs.Standing.{tower, base_layers, ws_layer, HasBase}
use Rattle.dill_stack.specs.Taking.{HasHead}

pub exact_if : (layers : List Placed) (u : List ℕ) (ended b : Bool) (n : ℕ) → nat_lt (length u) n ≡ b → (if b then outcome 0 layers (if ended then Fault Epipe else Need) else outcome n layers (Given (Bytes (take n u)))).said ≡ Need → length u < n
exact_if layers u ended true n e h = ltb-true (length u) n e
exact_if layers u ended false n e h = absurd (never h)
  where
    never : Given (Bytes (take n u)) ≡ Need → ⊥
    never h = cc

pub no_fault : {A : Type 0} (e : Errno) → Fault e ≡ Need → A
no_fault e h = absurd (never h)
  where
    never : Fault e ≡ Need → ⊥
    never h = cc

no_answer : {A : Type 0} (a : Answer) → Given a ≡ Need → A
no_answer a h = absurd (never h)
  where
    never : Given a ≡ Need → ⊥
    never h = cc

pub by_front_short : (layers : List Placed) (u : List ℕ) (ended : Bool) (f : Front) (most : ℕ) → (f ≡ front.Need → length u < most) → (by_front layers u ended f).said ≡ Need → length u < most
by_front_short layers u ended (front.Whole x y z) most k h = no_answer (Bytes (take (y - x) (drop x u))) h
by_front_short layers u ended front.Need most k h = k refl
by_front_short layers u ended (front.Fault e) most k h = no_fault e h

pub not_if : (b : Bool) (x y : Outcome) → x.said ≡ Fault Epipe → (if b then x else y).said ≡ Need → y.said ≡ Need
not_if true x y f h = no_fault Epipe (sym f ∙ h)
not_if false x y f h = h

given_short : (http : HttpLayer) (below : List Placed) (z : ℕ) (o : Option Answer) (u : List ℕ) → (given_line http below z o).said ≡ Need → length u < 8194
given_short http below z (Some a) u h = no_answer a h
given_short http below z None u h = no_fault Eproto h

by_line_short : (l : LineLaws) (w : Want) (http : HttpLayer) (below : List Placed) (u : List ℕ) (ended : Bool) (f : Front) → f ≡ front_of_line u → (by_line w http below u ended f).said ≡ Need → length u < 8194
by_line_short l w http below u ended (front.Whole x y z) e h =
    let o = line_answer w (take (y - x) (drop x u)) in
    given_short http below z o u (not_if (ends_fields w (take (y - x) (drop x u))) (outcome z (received BehindEmpty http ∷ below) (Fault Epipe)) (given_line http below z o) refl h)
by_line_short l w http below u ended front.Need e h = l.waits u (sym e)
by_line_short l w http below u ended (front.Fault x) e h = no_fault x h

pub line_short : (l : LineLaws) (w : Want) (layers : List Placed) (u : List ℕ) (ended : Bool) → HasHead layers → (read_line w layers u ended).said ≡ Need → length u < 8194
line_short l w [] u ended k h = absurd k
line_short l w (Prefix form ∷ below) u ended k h = absurd k
line_short l w (Suffix end ∷ below) u ended k h = absurd k
line_short l w (Term t ∷ below) u ended k h = absurd k
line_short l w (Http http ∷ below) u ended k h = by_line_short l w http below u ended (front_of_line u) refl (not_if (is_behind http.receiving) (outcome 0 (Http http ∷ below) (Fault Epipe)) (by_line w http below u ended (front_of_line u)) refl h)
line_short l w (Ws ws ∷ below) u ended k h = absurd k

has_messages : (ts : List TermLayer) (layer : Placed) → HasMessages (layer ∷ []) → HasMessages (tower ts (layer ∷ []))
has_messages [] layer h = h
has_messages (t ∷ ts) layer h = tt

-- ends by terminal messages stand on messages, and the layer on the link alone
pub tower_stands : (ts : List TermLayer) (b : Base) → HasBase ts b → IsStanding (tower ts (base_layers b))
tower_stands [] base.Bytes h = tt
tower_stands [] (base.Prefix form) h = refl
tower_stands [] (base.Suffix end) h = refl
tower_stands [] (base.Http http) h = refl
tower_stands [] (base.Ws framed) h = refl
tower_stands (t ∷ ts) base.Bytes h = cc
tower_stands (t ∷ ts) (base.Prefix form) h = (has_messages ts (Prefix form) tt, tower_stands ts (base.Prefix form) tt)
tower_stands (t ∷ ts) (base.Suffix end) h = (has_messages ts (Suffix end) tt, tower_stands ts (base.Suffix end) tt)
tower_stands (t ∷ ts) (base.Http http) h = cc
tower_stands (t ∷ ts) (base.Ws framed) h = (has_messages ts (Ws (ws_layer framed)) tt, tower_stands ts (base.Ws framed) tt)
