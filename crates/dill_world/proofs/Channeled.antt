-- The clauses of a call at channels, as they wait at their ends: the first of them that is done decides, or all are put behind the others.
use Rattle.std.proofs.Common.{◌≡◌, ◌∙◌, Result, Ok, Err, OnOk, ℕ, suc, ◌+◌, ◌<◌, ◌≤◌, List, [], ◌∷◌, ◌++◌, length, map, true, Option, Some, None, if◌then◌else◌, refl, sym, ap, arith}
use Rattle.std.specs.Prelude.{◌==◌, ◌&&◌, nat_lt, nat_le}
use Rattle.std.proofs.lemmas.Bool.{and_from, eq-eqb}
use Rattle.std.proofs.lemmas.Bool.Decides.{nat_tests}
use Rattle.std.proofs.lemmas.List.{append_assoc, append-nil}
use Rattle.dill_base.specs.Maps.{if_some}
use Rattle.dill_calls.specs.declared.call.Call.{Call}
use Rattle.dill_calls.specs.declared.call.Call.TheVariants as calls
use Rattle.dill_calls.specs.declared.lists.Clause.{Clause}
use Rattle.dill_chan.specs.declared.end.Wait.{Wait}
use Rattle.dill_chan.specs.declared.end.Want.{Want}
use Rattle.dill_chan.specs.declared.meeting.Meeting.{Meeting}
use Rattle.dill_chan.specs.declared.meeting.Meeting.TheVariants as meetings
use Rattle.dill_chan.specs.Channels.{Channels}
use Rattle.dill_chan.specs.Choosing as choosing
use Rattle.dill_chan.specs.Meetings.{meeting}
use Rattle.dill_chan.specs.Seats.{are_clauses, most_clauses}
use Rattle.dill_handles.specs.Handles as handles
use Rattle.dill_rules.specs.Answers.{want_of, end_named, end_of}
use Rattle.dill_rules.specs.Channeling as channeling
use Rattle.dill_rules.specs.Naming.{end_of_clause}
use Rattle.dill_rules.specs.World.{World, pend}
use Rattle.dill_world.specs.Channeled.{enters_channel, waits_of}
use Rattle.dill_world.specs.Store.{Store, world_of, may_wait}

length_bare : (xs : List Clause) → length (map channeling.bare_clause xs) ≡ length xs
length_bare [] = refl
length_bare (x ∷ xs) = ap suc (length_bare xs)

-- a call may wait without its bytes
pub bare_waits : (call : Call) → enters_channel call ≡ true → may_wait (channeling.without_bytes call) ≡ true
bare_waits (calls.Chsend number bytes deadline) e = refl
bare_waits (calls.Chrecv number size deadline) e = refl
bare_waits (calls.Choose deadline all) e = ap (λ n. nat_le n 16) (length_bare all) ∙ e
bare_waits _ e = cc

at_most : (n m : ℕ) → n ≤ m → nat_le n m ≡ true
at_most n m e = grind (arith, nat_tests)

below : (n m : ℕ) → n < m → nat_lt n m ≡ true
below n m e = grind (arith, nat_tests)

rising_at : (o : Option ℕ) (who m n : ℕ) (want : Want) (rest : List Wait) → m ≤ n → n < 16 → are_clauses who (n + 1) rest ≡ true → are_clauses who m rest ≡ true → are_clauses who m (if_some o rest (λ end. record { who = who; clause = n; end = end; want = want } ∷ rest)) ≡ true
rising_at None who m n want rest less few next same = same
rising_at (Some end) who m n want rest less few next same =
    and_from (who == who && (nat_le m n && nat_lt n most_clauses)) (are_clauses who (n + 1) rest) (and_from (who == who) (nat_le m n && nat_lt n most_clauses) (eq-eqb who who refl) (and_from (nat_le m n) (nat_lt n most_clauses) (at_most m n less) (below n most_clauses few))) next

-- what a clause that was done at its entry is found by
found_alike : (m : Meeting) (n : ℕ) (r s : Option (ℕ × Meeting)) → r ≡ s → ◌≡◌ {A = Option (ℕ × Meeting)} (if channeling.is_waiting m then r else Some (n, m)) (if choosing.is_waiting m then s else Some (n, m))
found_alike (meetings.Met x) n r s e = refl
found_alike meetings.Ended n r s e = refl
found_alike meetings.Waits n r s e = e

done_at : (o : Option ℕ) (c : Channels) (who n : ℕ) (want : Want) (rest : List Wait) (r : Option (ℕ × Meeting)) → r ≡ choosing.first_done c rest → ◌≡◌ {A = Option (ℕ × Meeting)} (if channeling.is_waiting (if_some o meetings.Waits (λ end. meeting c who end want)) then r else Some (n, if_some o meetings.Waits (λ end. meeting c who end want))) (choosing.first_done c (if_some o rest (λ end. record { who = who; clause = n; end = end; want = want } ∷ rest)))
done_at None c who n want rest r e = e
done_at (Some end) c who n want rest r e = found_alike (meeting c who end want) n r (choosing.first_done c rest) e

joined_at : (c : Channels) (xs ys zs : List Wait) → ys ≡ xs ++ zs → record c { waits = ys } ≡ record c { waits = xs ++ zs }
joined_at c xs ys zs e = ap (λ ws. record c { waits = ws }) e

module _ {V : Type 0} where
  -- their numbers rise
  pub rising : (w : World V) (who m n : ℕ) (xs : List Clause) → m ≤ n → n + length xs ≤ 16 → are_clauses who m (waits_of w who n xs) ≡ true
  rising w who m n [] less few = refl
  rising w who m n (x ∷ xs) less few =
      rising_at (end_named w (end_of_clause x)) who m n (want_of x) (waits_of w who (n + 1) xs) less (omega arith) (rising w who (n + 1) (n + 1) xs (omega arith) (omega arith)) (rising w who m (n + 1) xs (omega arith) (omega arith))

  -- the first that is done is that of the calls
  pub done_alike : (w : World V) (who n : ℕ) (xs : List Clause) → channeling.first_done w who n xs ≡ choosing.first_done w.channels (waits_of w who n xs)
  done_alike w who n [] = refl
  done_alike w who n (x ∷ xs) = done_at (end_named w (end_of_clause x)) w.channels who n (want_of x) (waits_of w who (n + 1) xs) (channeling.first_done w who (n + 1) xs) (done_alike w who (n + 1) xs)

  -- only what numbers name tells them
  waits_alike : (w v : World V) (who n : ℕ) (xs : List Clause) → w.handles ≡ v.handles → waits_of w who n xs ≡ waits_of v who n xs
  waits_alike w v who n [] e = refl
  waits_alike w v who n (x ∷ xs) e =
      ap (λ h. if_some (if_some (handles.look h (end_of_clause x)) None (λ y. end_of y.thing)) (waits_of w who (n + 1) xs) (λ end. record { who = who; clause = n; end = end; want = want_of x } ∷ waits_of w who (n + 1) xs)) e
      ∙ ap (λ rest. if_some (end_named v (end_of_clause x)) rest (λ end. record { who = who; clause = n; end = end; want = want_of x } ∷ rest)) (waits_alike w v who (n + 1) xs e)

  wait_some : (o : Option ℕ) (w : World V) (who n : ℕ) (x : Clause) (rest : List Wait) → (v : World V) → v ≡ if_some o w (λ end. record w { channels = record w.channels { waits = w.channels.waits ++ record { who = who; clause = n; end = end; want = want_of x } ∷ [] } }) → record v { channels = choosing.wait_all v.channels rest } ≡ record w { channels = choosing.wait_all w.channels (if_some o rest (λ end. record { who = who; clause = n; end = end; want = want_of x } ∷ rest)) }
  wait_some None w who n x rest v e = ap (λ (u : World V). record u { channels = choosing.wait_all u.channels rest }) e
  wait_some (Some end) w who n x rest v e =
      ap (λ (u : World V). record u { channels = choosing.wait_all u.channels rest }) e
      ∙ ap (λ ws. record w { channels = record w.channels { waits = ws } }) (append_assoc w.channels.waits (record { who = who; clause = n; end = end; want = want_of x } ∷ []) rest)

  named_after : (o : Option ℕ) (w : World V) (f : ℕ → Channels) → (if_some o w (λ end. record w { channels = f end })).handles ≡ w.handles
  named_after None w f = refl
  named_after (Some end) w f = refl

  -- all of them wait behind the others
  pub all_wait : (w : World V) (who n : ℕ) (xs : List Clause) → channeling.wait_all w who n xs ≡ record w { channels = choosing.wait_all w.channels (waits_of w who n xs) }
  all_wait w who n [] = ap (λ ws. record w { channels = record w.channels { waits = ws } }) (sym (append-nil w.channels.waits))
  all_wait w who n (x ∷ xs) =
      let v = channeling.wait_at w who n x in
      all_wait v who (n + 1) xs
      ∙ ap (λ rest. record v { channels = choosing.wait_all v.channels rest }) (waits_alike v w who (n + 1) xs (named_after (end_named w (end_of_clause x)) w (λ end. record w.channels { waits = w.channels.waits ++ record { who = who; clause = n; end = end; want = want_of x } ∷ [] })))
      ∙ wait_some (end_named w (end_of_clause x)) w who n x (waits_of w who (n + 1) xs) v refl

  -- and the call is pending without its bytes
  pub pends : (w : World V) (who : ℕ) (bare : Call) (xs : List Clause) → pend (record w { channels = choosing.wait_all w.channels (waits_of w who 0 xs) }) who bare ≡ channeling.wait_all (pend w who bare) who 0 xs
  pends w who bare xs =
      sym (all_wait (pend w who bare) who 0 xs
      ∙ ap (λ ws. record (pend w who bare) { channels = choosing.wait_all w.channels ws }) (waits_alike (pend w who bare) w who 0 xs refl))

-- one more clause was looked at
joins : (o : Option ℕ) (who n : ℕ) (want : Want) (now all rest : List Wait) (new : List Wait) → now ++ if_some o rest (λ end. record { who = who; clause = n; end = end; want = want } ∷ rest) ≡ all → new ≡ if_some o now (λ end. now ++ record { who = who; clause = n; end = end; want = want } ∷ []) → new ++ rest ≡ all
joins None who n want now all rest new e put = ap (λ ws. ws ++ rest) put ∙ e
joins (Some end) who n want now all rest new e put = ap (λ ws. ws ++ rest) put ∙ append_assoc now (record { who = who; clause = n; end = end; want = want } ∷ []) rest ∙ e

-- what is told of a result that went well
pub on_ok : {T E : Type 0} (r : Result T E) (A B : Type 0) → (A → B) → OnOk r A → OnOk r B
on_ok (Ok x) A B f a = f a
on_ok (Err e) A B f a = tt

-- a call has 16 clauses at most
pub few_clauses : (call : Call) → enters_channel call ≡ true → 0 + length (channeling.clauses_of call) ≤ 16
few_clauses (calls.Chsend number bytes deadline) e = omega arith
few_clauses (calls.Chrecv number size deadline) e = omega arith
few_clauses (calls.Choose deadline all) e = grind (arith, nat_tests)
few_clauses _ e = cc

module _ {V : Type 0} where
  -- the clauses wait, and the call is pending
  pub after_wait : (k : Store V) (now : Channels) (who : ℕ) (bare b : Call) (xs : List Clause) (ws : List Wait) → now ≡ choosing.wait_all k.channels ws → ws ≡ waits_of (world_of k) who 0 xs → bare ≡ b → pend (record (world_of k) { channels = now }) who bare ≡ channeling.wait_all (pend (world_of k) who b) who 0 xs
  after_wait k now who bare b xs ws put same is =
      ap (λ c. pend (record (world_of k) { channels = c }) who bare) (put ∙ ap (choosing.wait_all k.channels) same)
      ∙ pends (world_of k) who bare xs
      ∙ ap (λ x. channeling.wait_all (pend (world_of k) who x) who 0 xs) is

  -- a clause is done, or all wait
  pub entered_some : (w new : World V) (who index : ℕ) (call : Call) (m : Meeting) → choosing.first_done w.channels (waits_of w who 0 (channeling.clauses_of call)) ≡ Some (index, m) → new ≡ channeling.meet w who call index m → new ≡ channeling.enter_channel w who call
  entered_some w new who index call m found is =
      is ∙ sym (ap (λ (o : Option (ℕ × Meeting)). if_some o (channeling.wait_all (pend w who (channeling.without_bytes call)) who 0 (channeling.clauses_of call)) (λ x. channeling.meet w who call x.0 x.1)) (done_alike w who 0 (channeling.clauses_of call) ∙ found))

  pub entered_none : (w new : World V) (who : ℕ) (call : Call) → choosing.first_done w.channels (waits_of w who 0 (channeling.clauses_of call)) ≡ None → new ≡ channeling.wait_all (pend w who (channeling.without_bytes call)) who 0 (channeling.clauses_of call) → new ≡ channeling.enter_channel w who call
  entered_none w new who call found is =
      is ∙ sym (ap (λ (o : Option (ℕ × Meeting)). if_some o (channeling.wait_all (pend w who (channeling.without_bytes call)) who 0 (channeling.clauses_of call)) (λ x. channeling.meet w who call x.0 x.1)) (done_alike w who 0 (channeling.clauses_of call) ∙ found))
