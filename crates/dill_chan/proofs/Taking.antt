-- What is left of the clauses that wait when one is entered.
use Rattle.std.proofs.Common.{◌≡◌, ◌∙◌, ℕ, zero, suc, ◌<◌, List, [], ◌∷◌, length, get_or, Bool, false, refl, sym, ap, subst, arith, inl, inr}
use Rattle.std.specs.Prelude.{◌==◌, ◌&&◌, not, filter, find, if◌then◌else◌, Option, Some, option_map}
use Rattle.std.specs.List.{remove}
use Rattle.std.proofs.lemmas.Bool.{cases_Bool, not_from_true, eq-eqb}
use Rattle.dill_base.specs.Maps.{if_some}
use Rattle.dill_chan.specs.declared.end.End.{End}
use Rattle.dill_chan.specs.declared.end.Wait.{Wait}
use Rattle.dill_chan.specs.declared.end.Want.{Want}
use Rattle.dill_chan.specs.declared.meeting.Meeting.{Meeting}
use Rattle.dill_chan.specs.declared.meeting.Meeting.TheVariants.{Met, Ended, Waits}
use Rattle.dill_chan.specs.Channels.{Channels, is_end}
use Rattle.dill_chan.specs.Meetings.{has_ended, is_opposite, meeting}
use Rattle.dill_chan.specs.Seats.{is_others, of_ends, channels_of, seated, could_meet, met, left_by, entered, on_channels}

-- what doesn't pass may be taken out before
filter_removed : {X : Type 0} (p : X → Bool) (xs : List X) (i : ℕ) (d : X) → i < length xs → p (get_or xs i d) ≡ false → filter p (remove xs i) ≡ filter p xs
filter_removed p [] i d lt no_pass = absurd (omega arith)
filter_removed p (x ∷ xs) zero d lt no_pass = rw no_pass refl
filter_removed p (x ∷ xs) (suc i) d lt no_pass =
    let rest = filter_removed p xs i d (omega arith) no_pass in
    elim (cases_Bool (p x)) [ inl e ↦ rw e (ap (λ l. x ∷ l) rest) | inr e ↦ rw e rest ]

-- the clauses of others, after one was taken out
pub taken : (waits left : List Wait) (at : ℕ) (found : Wait) → at < length waits → found ≡ get_or waits at found → left ≡ remove waits at → filter (is_others found.who) left ≡ filter (is_others found.who) waits
taken waits left at found lt is gone =
    ap (filter (is_others found.who)) gone ∙ filter_removed (is_others found.who) waits at found lt (subst (λ (y : Wait). is_others found.who y ≡ false) is (not_from_true (found.who == found.who) (eq-eqb found.who found.who refl)))

-- what was taken out is what was found
pub found_at : (p : Wait → Bool) (waits : List Wait) (at : ℕ) (found : Wait) → found ≡ get_or waits at found → find p waits ≡ Some (get_or waits at found) → Some found ≡ find p waits
found_at p waits at found is there = ap Some is ∙ sym there

-- whom a clause meets
pub meets : (ends : List End) (waits : List Wait) (who end : ℕ) (want : Want) (here : End) (found : Wait) → has_ended (of_ends ends) end want ≡ false → find (is_end end) ends ≡ Some here → find (could_meet who here.other want) waits ≡ Some found → Met (met want found) ≡ meeting (channels_of ends waits 0) who end want
meets ends waits who end want here found unended is there = sym (go (has_ended (of_ends ends) end want) (find (is_end end) ends) unended is) where
  go : (b : Bool) (o : Option End) → b ≡ false → o ≡ Some here → (if b then Ended else if_some (find (λ x. not (x.who == who) && (if_some (option_map (λ y. y.other) o) false (λ other. x.end == other) && is_opposite want x.want)) waits) Waits (λ x. Met (met want x))) ≡ Met (met want found)
  go b o e k = rw (e, k, there) refl

-- what an entry leaves, with the names that were given
pub left_with : (m : Meeting) (ends : List End) (waits : List Wait) (last : ℕ) (w : Wait) → left_by m (channels_of ends waits last) w ≡ channels_of ends (left_by m (channels_of ends waits 0) w).waits last
left_with (Met x) ends waits last w = refl
left_with Ended ends waits last w = refl
left_with Waits ends waits last w = refl

-- and so does the whole
pub seated_with : (ends : List End) (waits left : List Wait) (seats : List ℕ) (last : ℕ) (w : Wait) → left ≡ (entered (channels_of ends waits 0) w).waits → seated ends left seats last ≡ on_channels (λ c. entered c w) (seated ends waits seats last)
seated_with ends waits left seats last w is =
    ap (λ l. seated ends l seats last) is ∙ ap (λ (c : Channels). record { channels = c; seats = seats }) (sym (left_with (meeting (channels_of ends waits 0) w.who w.end w.want) ends waits last w))

-- and what a slice of the ends was looked at for
pub entered_from : (slice ends : List End) (waits left : List Wait) (w : Wait) → slice ≡ ends → left ≡ (entered (channels_of slice waits 0) w).waits → left ≡ (entered (channels_of ends waits 0) w).waits
entered_from slice ends waits left w same is = is ∙ ap (λ l. (entered (channels_of l waits 0) w).waits) same
