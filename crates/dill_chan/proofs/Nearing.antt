-- The least waiter that has its end, one clause after the other.
use Rattle.std.proofs.Common.{◌≡◌, ◌∙◌, ℕ, List, [], ◌∷◌, Bool, true, false, Option, Some, None, refl, sym, ap, arith, inl, inr}
use Rattle.std.specs.Prelude.{◌==◌, ◌&&◌, ◌||◌, nat_lt, filter, option_map, IfSome}
use Rattle.std.specs.List.{list_all}
use Rattle.std.proofs.lemmas.Bool.{cases_Bool, and_parts}
use Rattle.std.proofs.lemmas.Bool.Decides.{nat_tests}
use Rattle.dill_slots.specs.Pairs.{has}
use Rattle.dill_slots.proofs.Keeping.{all_weaker}
use Rattle.dill_chan.specs.declared.end.End.{End}
use Rattle.dill_chan.specs.declared.end.Wait.{Wait}
use Rattle.dill_chan.specs.Channels.{Channels}
use Rattle.dill_chan.specs.Meetings.{is_before, first_of_two, first_wait, next_ended}
use Rattle.dill_chan.specs.Seats.{is_ended, closer, ended_in, of_ends, channels_of, may_wait, most_clauses}

-- one comes before another
abbrev before : ℕ × ℕ → ℕ × ℕ → Bool
before a b = nat_lt a.0 b.0 || (a.0 == b.0 && nat_lt a.1 b.1)

before_through : (a b c d e f : ℕ) → (nat_lt a c || (a == c && nat_lt b d)) ≡ true → (nat_lt c e || (c == e && nat_lt d f)) ≡ true → (nat_lt a e || (a == e && nat_lt b f)) ≡ true
before_through a b c d e f h k = grind (arith, nat_tests)

behind_through : (a b c d e f : ℕ) → (nat_lt a c || (a == c && nat_lt b d)) ≡ false → (nat_lt c e || (c == e && nat_lt d f)) ≡ false → (nat_lt a e || (a == e && nat_lt b f)) ≡ false
behind_through a b c d e f h k = grind (arith, nat_tests)

closer_some : (a b c : ℕ × ℕ) → closer (closer (Some a) (Some b)) (Some c) ≡ closer (Some a) (closer (Some b) (Some c))
closer_some a b c =
    elim (cases_Bool (before a b)) [
      | inl e ↦
          elim (cases_Bool (before b c)) [
            | inl k ↦ rw (e, k, before_through a.0 a.1 b.0 b.1 c.0 c.1 e k, e) refl
            | inr k ↦ rw (e, k) refl
          ]
      | inr e ↦
          elim (cases_Bool (before b c)) [
            | inl k ↦ rw (e, k, e) refl
            | inr k ↦ rw (e, k, behind_through a.0 a.1 b.0 b.1 c.0 c.1 e k) refl
          ]
    ]

pub closer_none : (a : Option (ℕ × ℕ)) → closer a None ≡ a
closer_none None = refl
closer_none (Some a) = refl

pub closer_three : (a b c : Option (ℕ × ℕ)) → closer (closer a b) c ≡ closer a (closer b c)
closer_three None b c = refl
closer_three (Some a) None c = refl
closer_three (Some a) (Some b) None = closer_none (closer (Some a) (Some b))
closer_three (Some a) (Some b) (Some c) = closer_some a b c

nearer : (x : Wait) (o : Option Wait) → option_map (λ x. (x.who, x.clause)) (first_of_two x o) ≡ closer (Some (x.who, x.clause)) (option_map (λ x. (x.who, x.clause)) o)
nearer x None = refl
nearer x (Some y) = elim (cases_Bool (is_before x y)) [ inl e ↦ rw e refl | inr e ↦ rw e refl ]

-- it is the least by the definition
pub ended_is : (c : Channels) (after : ℕ) (waits : List Wait) → ended_in c after waits ≡ option_map (λ x. (x.who, x.clause)) (first_wait (filter (is_ended c after) waits))
ended_is c after [] = refl
ended_is c after (x ∷ xs) =
    let rest = ended_is c after xs in
    elim (cases_Bool (is_ended c after x)) [
      | inl e ↦ rw e (ap (closer (Some (x.who, x.clause))) rest ∙ sym (nearer x (first_wait (filter (is_ended c after) xs))))
      | inr e ↦ rw e rest
    ]

-- and so is what was found of slices
pub next_is : (ends slice : List End) (waits others : List Wait) (last after : ℕ) (found : Option (ℕ × ℕ)) → slice ≡ ends → others ≡ waits → found ≡ ended_in (of_ends slice) after others → found ≡ next_ended (channels_of ends waits last) after
next_is ends slice waits others last after found same also is =
    is ∙ ap (λ l. ended_in (of_ends l) after others) same ∙ ap (ended_in (of_ends ends) after) also ∙ ended_is (of_ends ends) after waits

closer_keeps : (P : ℕ × ℕ → Type 0) (a b : Option (ℕ × ℕ)) → IfSome a P → IfSome b P → IfSome (closer a b) P
closer_keeps P None b ha hb = hb
closer_keeps P (Some a) None ha hb = ha
closer_keeps P (Some a) (Some b) ha hb = elim (cases_Bool (before a b)) [ inl e ↦ rw e ha | inr e ↦ rw e hb ]

-- what each waiter passes, the least of them passes
pub ended_passes : (c : Channels) (after : ℕ) (p : ℕ → Bool) (waits : List Wait) → list_all (λ x. p x.who) waits ≡ true → IfSome (ended_in c after waits) (λ x. p x.0 ≡ true)
ended_passes c after p [] all = tt
ended_passes c after p (x ∷ xs) all =
    let parts = and_parts (p x.who) (list_all (λ y. p y.who) xs) all in
    let rest = ended_passes c after p xs parts.1 in
    elim (cases_Bool (is_ended c after x)) [
      | inl e ↦ rw e (closer_keeps (λ y. p y.0 ≡ true) (Some (x.who, x.clause)) (ended_in c after xs) parts.0 rest)
      | inr e ↦ rw e rest
    ]

-- who is told has a seat
pub ended_seated : (ends : List End) (waits others : List Wait) (seats : List ℕ) (after : ℕ) (found : Option (ℕ × ℕ)) → list_all (may_wait seats) waits ≡ true → others ≡ waits → found ≡ ended_in (of_ends ends) after others → IfSome found (λ x. has seats x.0 ≡ true)
ended_seated ends waits others seats after found all same is =
    rw (is, same) (ended_passes (of_ends ends) after (has seats) waits (all_weaker (may_wait seats) (λ x. has seats x.who) (λ x both. (and_parts (has seats x.who) (nat_lt x.clause most_clauses) both).0) waits all))
