-- In a turn one look of its coroutine is enough.
use Rattle.std.proofs.Common.{◌≡◌, ◌∙◌, ◌⊎◌, inl, inr, ℕ, [], Bool, true, false, not, ◌&&◌, ◌||◌, Option, Some, None, if◌then◌else◌, refl, sym, ap, subst}
use Rattle.std.proofs.lemmas.Bool.{or_right}
use Rattle.dill_base.specs.declared.errno.Errno.{Errno}
use Rattle.dill_base.specs.Maps.{if_some}
use Rattle.dill_calls.specs.declared.call.Call.{Call}
use Rattle.dill_calls.specs.declared.word.Word.{Word}
use Rattle.dill_calls.specs.declared.word.Word.TheVariants as words
use Rattle.dill_calls.specs.CallTable.{word_of, named_by, gives_up}
use Rattle.dill_calls.specs.Program.{Program}
use Rattle.dill_stack.specs.Again.{LooksAgain}
use Rattle.dill_rules.specs.declared.coroutine.Mode.TheVariants as modes
use Rattle.dill_rules.specs.World.{World, call_of, with_mode, reply, begin}
use Rattle.dill_rules.specs.Naming.{links, draws_of}
use Rattle.dill_rules.specs.Directions.{is_send, is_receive, is_handshake}
use Rattle.dill_rules.specs.LinkAnswers.{is_on_stack, reads}
use Rattle.dill_rules.specs.Linking.{enter_send, enter_receive, enter_giving_up, enter_link, enter_handshake, enter_attach, given_up_at_once, begin_giving_up, give_stack_up}
use Rattle.dill_rules.specs.Owning.{take}
use Rattle.dill_rules.specs.Refusals.{refuse}
use Rattle.dill_rules.specs.Entering.{perform_on_link, is_too_late, late_answer, meet_deadline, done}
use Rattle.dill_rules.specs.Turning.{as_running, resume}
use Rattle.laws_queue.specs.Well.{Numbered}
use Rattle.laws_queue.proofs.Besides.{dropped_besides}
use Rattle.laws_sound.specs.Order.{IsInOrder}
use Rattle.laws_sound.proofs.Calling.{go_on_goes}
use Rattle.laws_sound.proofs.Making.{begins}
use Rattle.laws_looks.specs.Readers.{Pends, LooksApart}
use Rattle.laws_looks.specs.Calm.{IsCalm}
use Rattle.laws_looks.specs.OneLook.{called, taken_for, OneLookTurns}
use Rattle.laws_looks.proofs.Lists.{true_false, reads_parts}
use Rattle.laws_looks.proofs.Stays.{dropped_stays}
use Rattle.laws_looks.proofs.Fewer.{Fewer, fewer_then, fewer_besides, fewer_reply, fewer_up}
use Rattle.laws_looks.proofs.Quieted.{unpended}
use Rattle.laws_looks.proofs.Enters.{AsEntered, taken_by_call, by_class, fewer_met, done_enters, Turns, over, does, go_on_turns, go_on_apart}
use Rattle.laws_looks.proofs.Between.{calm_beside}
use Rattle.laws_looks.proofs.Stirred.{stirs_where}
use Rattle.laws_looks.proofs.Entered.{Joins, joins_stirs, receive_joins}
use Rattle.laws_looks.proofs.Takes.{handshake_joins, giving_joins}
use Rattle.laws_looks.proofs.Others.{Performs, on_link, answers, elsewhere, performs, others_calm}

or_first : (a b : Bool) → b ≡ false → (a || b) ≡ true → a ≡ true
or_first true b e f = refl
or_first false true e f = cc
or_first false false e f = cc

reads_pass : (word : Word) → (is_on_stack word && not (is_send word)) ≡ true → is_handshake word ≡ true → links word ≡ false
reads_pass words.WsAttachClient e f = refl
reads_pass words.WsAttachServer e f = refl
reads_pass _ e f = cc

module _ {V : Type 0} where
  -- who goes on isn't pending
  running_off : (b : World V) (who : ℕ) (view : V) (call : Call) → Numbered 0 b.coroutines b.last_coroutine → Pends (resume b who view) who call → ⊥
  running_off b who view call n q = unpended b.last_coroutine who (as_running view) (λ c. refl) (λ c. refl) b.coroutines call n q

  -- who stays pending isn't met by its deadline
  not_met : (u : World V) (who : ℕ) (more : Call) → Numbered 0 u.coroutines u.last_coroutine → Pends (meet_deadline u who) who more → meet_deadline u who ≡ u
  not_met u who more n p = at (call_of u who) p
    where
      late : (c : Call) (t : Bool) → Pends (if t then reply u who (word_of c) (late_answer c) else u) who more → (if t then reply u who (word_of c) (late_answer c) else u) ≡ u
      late c true q = absurd (unpended u.last_coroutine who (with_mode (modes.Fresh (word_of c) (late_answer c))) (λ d. refl) (λ d. refl) u.coroutines more n q)
      late c false q = refl

      at : (o : Option Call) → Pends (if_some o u (λ c. if is_too_late u who c then reply u who (word_of c) (late_answer c) else u)) who more → if_some o u (λ c. if is_too_late u who c then reply u who (word_of c) (late_answer c) else u) ≡ u
      at None q = refl
      at (Some c) q = late c (is_too_late u who c) q

  -- who is pending behind its turn in a call that looks joins
  module _ (p : Program V) (b : World V) (who : ℕ) (view : V) (call : Call) (o : IsInOrder b) (c : IsCalm b) (free : refuse p (resume b who view) who view call ≡ None)
      (v : World V) (is : v ≡ done p (resume b who view) who view call) (more : Call) (own : Pends v who more) (rd : reads more ≡ true) where
    abbrev k : World V
    k = called b who view call

    none_left : (u : World V) → Fewer k u → v ≡ meet_deadline u who → ⊥
    none_left u f i = running_off b who view more o.fits.numbered (f.calls who more ((fewer_met u who).calls who more (subst (λ z. Pends z who more) i own)))

    looks : reads call ≡ true
    looks = at ((done_enters p (resume b who view) who view call).calls who more (subst (λ z. Pends z who more) is own))
      where
        its : (more ≡ call) ⊎ (is_on_stack (word_of more) ≡ false) → reads call ≡ true
        its (inl same) = ap reads (sym same) ∙ rd
        its (inr off) = absurd (true_false (is_on_stack (word_of more)) (reads_parts (is_on_stack (word_of more)) (is_send (word_of more)) rd).0 off)

        at : Pends (resume b who view) who more ⊎ AsEntered who call who more → reads call ≡ true
        at (inl q) = absurd (running_off b who view more o.fits.numbered q)
        at (inr q) = its q.1

    joined : (u : World V) → Joins b u who call → v ≡ meet_deadline u who → Joins b v who call
    joined u j i = subst (λ z. Joins b z who call) (sym (i ∙ not_met u who more j.numbered (subst (λ z. Pends z who more) i own))) j

    shakes : is_receive (word_of call) ≡ false → gives_up (word_of call) ≡ false → is_handshake (word_of call) ≡ true
    shakes re te = by (by_class call looks)
      where
        by : (is_receive (word_of call) ≡ true) ⊎ ((is_handshake (word_of call) || gives_up (word_of call)) ≡ true) → is_handshake (word_of call) ≡ true
        by (inl t) = absurd (true_false (is_receive (word_of call)) t re)
        by (inr t) = or_first (is_handshake (word_of call)) (gives_up (word_of call)) te t

    giving : gives_up (word_of call) ≡ true → v ≡ meet_deadline (enter_giving_up k who call (draws_of call)) who → Joins b v who call
    giving t i = at (given_up_at_once (taken_for k who call) who call) i
      where
        at : (q : Option Errno) → v ≡ meet_deadline (if_some q (begin_giving_up (taken_for k who call) who call) (λ e. give_stack_up (taken_for k who call) who call e (draws_of call))) who → Joins b v who call
        at None h = joined (begin_giving_up (taken_for k who call) who call) (giving_joins p b who view call o.fits.numbered c free (or_right (is_handshake (word_of call)) (gives_up (word_of call)) t)) h
        at (Some e) h =
            let taken = if_some (named_by call) k (λ number. take k number who) in
            let own = taken_for k who call in
            absurd (none_left (give_stack_up own who call e (draws_of call)) (fewer_up k own who call e (draws_of call) (fewer_then k taken own (taken_by_call k who call) (fewer_besides taken own (dropped_besides taken call) (dropped_stays taken call)))) h)

    looking : v ≡ meet_deadline (perform_on_link k who call) who → Joins b v who call
    looking i = at (is_send (word_of call)) (reads_parts (is_on_stack (word_of call)) (is_send (word_of call)) looks).1 (is_receive (word_of call)) refl (gives_up (word_of call)) refl (links (word_of call)) refl (is_handshake (word_of call)) refl i
      where
        at : (s : Bool) → s ≡ false → (r : Bool) → is_receive (word_of call) ≡ r → (t : Bool) → gives_up (word_of call) ≡ t → (l : Bool) → links (word_of call) ≡ l → (h : Bool) → is_handshake (word_of call) ≡ h
            → v ≡ meet_deadline (if s then enter_send k who call else (if r then enter_receive k who call else (if t then enter_giving_up k who call (draws_of call) else (if l then enter_link k who call else (if h then enter_handshake k who call else enter_attach k who call))))) who → Joins b v who call
        at true sf r re t te l le h he i = cc
        at false sf true re t te l le h he i = joined (enter_receive k who call) (receive_joins b who view call o.fits.numbered) i
        at false sf false re true te l le h he i = giving te i
        at false sf false re false te true le h he i = absurd (true_false (links (word_of call)) le (reads_pass (word_of call) looks (shakes re te)))
        at false sf false re false te false le true he i = joined (enter_handshake k who call) (handshake_joins p b who view call o.fits.numbered c free (ap (λ x. x || gives_up (word_of call)) he)) i
        at false sf false re false te false le false he i = absurd (true_false (is_handshake (word_of call)) (shakes re te) he)

    joins : Joins b v who call
    joins = at (performs p k who view call) is
      where
        at : {u : World V} → Performs k who call u → v ≡ meet_deadline u who → Joins b v who call
        at on_link i = looking i
        at (answers word answer) i = absurd (none_left (reply k who word answer) (fewer_reply k who word answer) i)
        at (elsewhere off s) i = absurd (true_false (reads call) looks off)

  turn_joins : (p : Program V) (b : World V) (who : ℕ) {v : World V} → Turns p b who v → IsInOrder b → IsCalm b → (more : Call) → Pends v who more → reads more ≡ true → (call : Call) × Joins b v who call
  turn_joins p b who (over view f s) o c more own rd = absurd (running_off b who view more o.fits.numbered (f.calls who more own))
  turn_joins p b who (does view call free) o c more own rd = (call, joins p b who view call o c free (done p (resume b who view) who view call) refl more own rd)

pub one_look_turns : {V : Type 0} (p : Program V) → LooksAgain → OneLookTurns p
one_look_turns p laws = record {
  turns = λ lack w who c v is g calm found answered.
      let b = begin w in
      let o = (begins w g).order in
      let at_rest = calm_beside w w.place w.moment [] calm in
      let t = subst (Turns p b who) (sym is) (go_on_turns p lack b who c.body) in
      let others = others_calm p b who v o at_rest t in
      stirs_where laws v who (subst IsInOrder (sym is) (go_on_goes p lack w who c g found answered).good.order) (subst LooksApart (sym is) (go_on_apart p lack w who c.body calm.apart)) others
      (λ more own rd. let j = turn_joins p b who t o at_rest more own rd in joins_stirs b v who j.0 at_rest.settled j.1 others);
}
