-- Clauses that one coroutine entered before decide nothing of its next one.
use Rattle.std.proofs.Common.{◌≡◌, ◌∙◌, ℕ, ◌+◌, List, [], ◌∷◌, ◌++◌, Bool, true, false, Option, Some, None, refl, sym, ap, subst, inl, inr}
use Rattle.std.specs.Prelude.{◌==◌, not, filter, find, if◌then◌else◌}
use Rattle.std.specs.List.{list_all}
use Rattle.std.proofs.lemmas.Bool.{and_parts, and_from, cases_Bool, not-true, eqb-true, eq-eqb, false≢true}
use Rattle.std.proofs.lemmas.List.{append_assoc, append-nil}
use Rattle.dill_base.specs.Maps.{if_some}
use Rattle.dill_chan.specs.declared.end.Wait.{Wait}
use Rattle.dill_chan.specs.declared.end.Want.{Want}
use Rattle.dill_chan.specs.declared.meeting.Meeting.{Meeting}
use Rattle.dill_chan.specs.declared.meeting.Meeting.TheVariants.{Met, Ended, Waits}
use Rattle.dill_chan.specs.Channels.{Channels, leave}
use Rattle.dill_chan.specs.Meetings.{has_ended, can_meet, met, meeting}
use Rattle.dill_chan.specs.Seats.{entered, left_by, is_of, is_others}
use Rattle.dill_chan.specs.Choosing.{is_waiting, comes_of, least_done, done_in_turn, wait_all, ChoosesLeast}

-- what stands behind and never passes isn't found
find_none : {X : Type 0} (p : X → Bool) (xs : List X) → list_all (λ x. not (p x)) xs ≡ true → find p xs ≡ None
find_none p [] all = refl
find_none p (x ∷ xs) all =
    let parts = and_parts (not (p x)) (list_all (λ y. not (p y)) xs) all in
    rw (not-true (p x) parts.0) (find_none p xs parts.1)

find_before : {X : Type 0} (p : X → Bool) (xs ys : List X) → list_all (λ x. not (p x)) ys ≡ true → find p (xs ++ ys) ≡ find p xs
find_before p [] ys all = find_none p ys all
find_before p (x ∷ xs) ys all = elim (cases_Bool (p x)) [ inl e ↦ rw e refl | inr e ↦ rw e (find_before p xs ys all) ]

-- a coroutine meets none of its own
own_unmet : (c : Channels) (who end : ℕ) (want : Want) (xs : List Wait) → list_all (is_of who) xs ≡ true → list_all (λ x. not (can_meet c who end want x)) xs ≡ true
own_unmet c who end want [] all = refl
own_unmet c who end want (x ∷ xs) all =
    let parts = and_parts (x.who == who) (list_all (is_of who) xs) all in
    and_from (not (can_meet c who end want x)) (list_all (λ y. not (can_meet c who end want y)) xs) (rw parts.0 refl) (own_unmet c who end want xs parts.1)

met_alike : (c : Channels) (b : Bool) (o p : Option Wait) (want : Want) → o ≡ p → (if b then Ended else if_some o Waits (λ x. met want x)) ≡ (if b then Ended else if_some p Waits (λ x. met want x))
met_alike c b o p want e = ap (λ (q : Option Wait). if b then Ended else if_some q Waits (λ x. met want x)) e

meeting_alike : (c : Channels) (who end : ℕ) (want : Want) (xs : List Wait) → list_all (is_of who) xs ≡ true → meeting (wait_all c xs) who end want ≡ meeting c who end want
meeting_alike c who end want xs all =
    met_alike c (has_ended c end want) _ _ want (find_before (can_meet c who end want) c.waits xs (own_unmet c who end want xs all))

comes_alike : (c : Channels) (who : ℕ) (xs : List Wait) (x : Wait) → list_all (is_of who) xs ≡ true → x.who ≡ who → comes_of (wait_all c xs) x ≡ comes_of c x
comes_alike c who xs x all is = meeting_alike c x.who x.end x.want xs (subst (λ (n : ℕ). list_all (is_of n) xs ≡ true) (sym is) all)

waits_on : (m : Meeting) (c : Channels) (x : Wait) → is_waiting m ≡ true → left_by m c x ≡ wait_all c (x ∷ [])
waits_on Waits c x e = refl
waits_on Ended c x e = absurd (false≢true e)
waits_on (Met y) c x e = absurd (false≢true e)

more_wait : (c : Channels) (xs ys : List Wait) → wait_all (wait_all c xs) ys ≡ wait_all c (xs ++ ys)
more_wait c xs ys = ap (λ (l : List Wait). record c { waits = l }) (append_assoc c.waits xs ys)

all_more : (who : ℕ) (xs : List Wait) (x : Wait) → list_all (is_of who) xs ≡ true → x.who ≡ who → list_all (is_of who) (xs ++ x ∷ []) ≡ true
all_more who [] x all is = and_from (x.who == who) true (eq-eqb x.who who is) refl
all_more who (y ∷ ys) x all is =
    let parts = and_parts (y.who == who) (list_all (is_of who) ys) all in
    and_from (y.who == who) (list_all (is_of who) (ys ++ x ∷ [])) parts.0 (all_more who ys x parts.1 is)

in_turn : (c : Channels) (who n : ℕ) (before xs : List Wait) → list_all (is_of who) before ≡ true → list_all (is_of who) xs ≡ true → done_in_turn (wait_all c before) n xs ≡ least_done c n xs
in_turn c who n before [] all also = refl
in_turn c who n before (x ∷ xs) all also =
    let parts = and_parts (x.who == who) (list_all (is_of who) xs) also in
    let mine : x.who ≡ who = eqb-true x.who who parts.0 in
    let same = comes_alike c who before x all mine in
    elim (cases_Bool (is_waiting (comes_of c x))) [
      | inl e ↦
          let waits : is_waiting (comes_of (wait_all c before) x) ≡ true = ap is_waiting same ∙ e in
          let next : entered (wait_all c before) x ≡ wait_all c (before ++ x ∷ []) = waits_on (comes_of (wait_all c before) x) (wait_all c before) x waits ∙ more_wait c before (x ∷ []) in
          rw (e, waits) (ap (λ (d : Channels). done_in_turn d (n + 1) xs) next ∙ in_turn c who (n + 1) (before ++ x ∷ []) xs (all_more who before x all mine) parts.1)
      | inr e ↦
          let done : is_waiting (comes_of (wait_all c before) x) ≡ false = ap is_waiting same ∙ e in
          rw (e, done) (ap (λ (m : Meeting). Some (n, m)) same)
    ]

none_wait : (c : Channels) → wait_all c [] ≡ c
none_wait c = ap (λ (l : List Wait). record c { waits = l }) (append-nil c.waits)

filter_append : {X : Type 0} (p : X → Bool) (xs ys : List X) → filter p (xs ++ ys) ≡ filter p xs ++ filter p ys
filter_append p [] ys = refl
filter_append p (x ∷ xs) ys = elim (cases_Bool (p x)) [ inl e ↦ rw e (ap (λ l. x ∷ l) (filter_append p xs ys)) | inr e ↦ rw e (filter_append p xs ys) ]

-- nothing of a coroutine is left where it left
own_gone : (who : ℕ) (xs : List Wait) → list_all (is_of who) xs ≡ true → filter (is_others who) xs ≡ []
own_gone who [] all = refl
own_gone who (x ∷ xs) all =
    let parts = and_parts (x.who == who) (list_all (is_of who) xs) all in
    rw parts.0 (own_gone who xs parts.1)

own_kept : (p : Wait → Bool) (who : ℕ) (xs : List Wait) → list_all (is_of who) xs ≡ true → list_all (is_of who) (filter p xs) ≡ true
own_kept p who [] all = refl
own_kept p who (x ∷ xs) all =
    let parts = and_parts (x.who == who) (list_all (is_of who) xs) all in
    elim (cases_Bool (p x)) [
      | inl e ↦ rw e (and_from (x.who == who) (list_all (is_of who) (filter p xs)) parts.0 (own_kept p who xs parts.1))
      | inr e ↦ rw e (own_kept p who xs parts.1)
    ]

behind_gone : (who : ℕ) (xs ys : List Wait) → list_all (is_of who) ys ≡ true → filter (is_others who) (xs ++ ys) ≡ filter (is_others who) xs
behind_gone who xs ys all = filter_append (is_others who) xs ys ∙ ap (λ l. filter (is_others who) xs ++ l) (own_gone who ys all) ∙ append-nil (filter (is_others who) xs)

leave_alike : (c : Channels) (who : ℕ) (xs ys : List Wait) → filter (is_others who) xs ≡ filter (is_others who) ys → leave (record c { waits = xs }) who ≡ leave (record c { waits = ys }) who
leave_alike c who xs ys e = ap (λ (l : List Wait). record c { waits = l }) e

left_alike : (m : Meeting) (c : Channels) (who : ℕ) (xs : List Wait) (x : Wait) → list_all (is_of who) xs ≡ true → leave (left_by m (wait_all c xs) x) who ≡ leave (left_by m c x) who
left_alike (Met y) c who xs x all =
    leave_alike c who _ _ (ap (filter (is_others who)) (filter_append (is_others y.other) c.waits xs) ∙ behind_gone who (filter (is_others y.other) c.waits) (filter (is_others y.other) xs) (own_kept (is_others y.other) who xs all))
left_alike Ended c who xs x all = leave_alike c who _ _ (behind_gone who c.waits xs all)
left_alike Waits c who xs x all =
    leave_alike c who _ _ (filter_append (is_others who) (c.waits ++ xs) (x ∷ []) ∙ ap (λ l. l ++ filter (is_others who) (x ∷ [])) (behind_gone who c.waits xs all) ∙ sym (filter_append (is_others who) c.waits (x ∷ [])))

pub chooses_least : ChoosesLeast
chooses_least = record {
  least = λ c who n xs all. sym (ap (λ (d : Channels). done_in_turn d n xs) (none_wait c)) ∙ in_turn c who n [] xs refl all;
  left = λ c who xs x all is. ap (λ (m : Meeting). leave (left_by m (wait_all c xs) x) who) (comes_alike c who xs x all is) ∙ left_alike (comes_of c x) c who xs x all;
  waits = λ c x e. waits_on (comes_of c x) c x e;
}
