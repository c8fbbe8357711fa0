-- Where nothing is due but of one coroutine, and no look of another finds anything: behind its answer no look finds anything.
use Rattle.std.proofs.Common.{◌≡◌, ◌∙◌, ◌⊎◌, inl, inr, ℕ, ◌==◌, ◌<◌, ◌≤◌, find, Bool, true, false, not, ◌&&◌, ◌||◌, Option, Some, None, if◌then◌else◌, refl, sym, ap, subst, arith}
use Rattle.std.specs.Prelude.{is_none, nat_le}
use Rattle.std.specs.Option.{option_or}
use Rattle.std.proofs.lemmas.Bool.Decides.{nat_tests}
use Rattle.dill_base.specs.declared.errno.Errno.TheVariants.{Ecanceled, Ebadf}
use Rattle.dill_base.specs.Maps.{if_some}
use Rattle.dill_calls.specs.declared.answer.Answer.{Answer}
use Rattle.dill_calls.specs.declared.answer.Answer.TheVariants.{Fault}
use Rattle.dill_calls.specs.declared.call.Call.{Call}
use Rattle.dill_calls.specs.declared.call.Call.TheVariants as calls
use Rattle.dill_calls.specs.declared.word.Word.{Word}
use Rattle.dill_calls.specs.declared.word.Word.TheVariants as words
use Rattle.dill_calls.specs.CallTable.{word_of, named_by, blocks, gives_up, is_hclose}
use Rattle.dill_handles.specs.Handles as handles
use Rattle.dill_handles.specs.declared.entry.Entry.{Entry}
use Rattle.dill_scope.proofs.Numbered.{found_number}
use Rattle.dill_rules.specs.declared.coroutine.Mode.TheVariants as modes
use Rattle.dill_rules.specs.declared.thing.Thing.{Thing}
use Rattle.dill_rules.specs.World.{World, with_mode, reply}
use Rattle.dill_rules.specs.Links as link
use Rattle.dill_rules.specs.Links.{Link, look, with_stack, as_closing}
use Rattle.dill_rules.specs.Kinds.{is_dead}
use Rattle.dill_rules.specs.Naming.{draws_of, links}
use Rattle.dill_rules.specs.Owning.{entry_of, is_dead_as, move, release, free_bundle}
use Rattle.dill_rules.specs.Sockets.{link_number, on_link, on_named}
use Rattle.dill_rules.specs.Directions.{is_send, is_receive, is_handshake}
use Rattle.dill_rules.specs.LinkAnswers.{is_on_stack, is_tcp_close, look_of, reads}
use Rattle.dill_rules.specs.Linking.{give_stack_up}
use Rattle.dill_rules.specs.Giving.{is_read, is_connecting_for, look_on, after_send, give_send, give_receive, give_number, give_attached, give_closed, forgo, give_forgone, give_class, give}
use Rattle.dill_rules.specs.Answers.{when, own_answer, lost_its_number, answer_of}
use Rattle.dill_rules.specs.Taking.{is_cancelled}
use Rattle.laws_queue.specs.Well.{bit, Numbered}
use Rattle.laws_queue.proofs.Acting.{give_gives}
use Rattle.laws_sound.specs.Order.{FitsTogether, IsInOrder}
use Rattle.laws_sound.proofs.Fitting.{used_is}
use Rattle.laws_looks.specs.Readers.{In, Pends, reads_on, LooksApart}
use Rattle.laws_looks.specs.Calm.{Spent, Names, Restful}
use Rattle.laws_looks.specs.OneLook.{StirsOne}
use Rattle.laws_looks.proofs.Lists.{itself, or_none, both_true, find_in, reads_parts}
use Rattle.laws_looks.proofs.Fewer.{Fewer, fewer_give, named_once}
use Rattle.laws_looks.proofs.Quieted.{unpended, Missing, Found, look_cases}
use Rattle.laws_looks.proofs.Beside.{Beside, not_beside, then_beside, some_beside, if_beside, link_beside, named_beside, move_beside, release_beside, up_beside}
use Rattle.laws_looks.proofs.Restful.{names_number, member_weighs}

-- a call on a stack isn't `hclose`
hclose_off : (word : Word) → is_on_stack word ≡ true → is_hclose word ≡ false
hclose_off words.Hclose e = cc
hclose_off _ e = refl

pub reads_named : (call : Call) (n : ℕ) → reads call ≡ true → named_by call ≡ Some n → reads_on n call ≡ true
reads_named call n rd e = both_true (reads call) (if_some (named_by call) false (λ k. k == n)) rd (ap (λ o. if_some o false (λ k. k == n)) e ∙ itself n)

pub sends_on_stack : (call : Call) → is_send (word_of call) ≡ true → is_on_stack (word_of call) ≡ true
sends_on_stack call k = ap (λ b. b || (is_receive (word_of call) || (is_handshake (word_of call) || gives_up (word_of call)))) k

above_false : (n last : ℕ) → last < n → nat_le n last ≡ false
above_false n last h = grind (arith, nat_tests)

module _ {V : Type 0} where
  -- ---- an answer leaves all but the stack of its call

  -- the link isn't the call's
  abbrev Off : World V → Call → Call → ℕ → Type 0
  Off w call _ l = (n : ℕ) → named_by call ≡ Some n → link_number w n ≡ Some l → ⊥

  module _ (w : World V) (who : ℕ) (call : Call) where
    abbrev S : Call → ℕ → Type 0
    S = Off w call

    looked_beside : Beside S w (look_on w call)
    looked_beside = at (look_cases w call)
      where
        at : Missing w call ⊎ Found w call → Beside S w (look_on w call)
        at (inl m) = subst (Beside S w) (sym m.is) (not_beside S w)
        at (inr f) = subst (Beside S w) (sym f.is) (link_beside S w f.link (with_stack (λ old. (look_of call w.random f.x.stack).stack)) (λ x. refl) (λ x i more off. absurd (off f.number f.named f.linked)))

    sent_beside : (answer : Answer) → Beside S w (give_send w who call answer)
    sent_beside answer = at (named_by call) refl
      where
        at : (o : Option ℕ) → named_by call ≡ o → Beside S w (if_some o w (λ n. on_named w n (with_stack (after_send (word_of call) answer))))
        at None e = not_beside S w
        at (Some n) e = named_beside S w n (with_stack (after_send (word_of call) answer)) (λ x. refl) (λ l x g i more off. absurd (off n e g))

    attached_beside : (answer : Answer) → Beside S w (give_attached w who call answer)
    attached_beside (Fault e) =
        let v = if is_read (Fault e) then look_on w call else w in
        then_beside S w v (give_stack_up v who call e (draws_of call)) (if_beside S (is_read (Fault e)) w (look_on w call) w looked_beside (not_beside S w)) (up_beside S v who call e (draws_of call))
    attached_beside answer = at (named_by call)
      where
        at : (o : Option ℕ) → Beside S w (if_some o (reply w who (word_of call) answer) (give_number w who call))
        at None = not_beside S w
        at (Some n) = then_beside S w (look_on w call) (move (look_on w call) n who) looked_beside (move_beside S (look_on w call) n who)

    closed_beside : (answer : Answer) → Beside S w (give_closed w who call answer)
    closed_beside (Fault e) = up_beside S w who call e 0
    closed_beside answer = some_beside S (named_by call) w (release w) (release_beside S w)

    forgone_beside : Beside S w (forgo w who)
    forgone_beside = at (find (is_connecting_for who) w.links.all)
      where
        less : World V
        less = record w { handles = handles.unkeep w.handles 1 }

        at : (o : Option Link) → Beside S w (if_some o (record less { links = link.unkeep w.links }) (λ x. on_link less x.number as_closing))
        at None = not_beside S w
        at (Some x) = link_beside S less x.number as_closing (λ y. refl) (λ y i more off p. p)

    class_beside : (answer : Answer) → Beside S w (give_class w who call answer)
    class_beside answer =
        let word = word_of call in
        let looked = if_beside S (is_read answer) w (look_on w call) w looked_beside (not_beside S w) in
        if_beside S (is_send word) w (give_send w who call answer) _ (sent_beside answer)
        (if_beside S (is_receive word) w (give_receive w who call answer) _ looked
        (if_beside S (is_tcp_close word) w (give_closed w who call answer) _ (closed_beside answer)
        (if_beside S (is_handshake word || gives_up word) w (give_attached w who call answer) _ (attached_beside answer)
        (if_beside S (links word) w (give_forgone w who call answer) (reply w who word answer) forgone_beside (not_beside S w)))))

  given_beside : (w : World V) (who : ℕ) (call : Call) (answer : Answer) → Beside (Off w call) w (give w who call answer)
  given_beside w who (calls.Hclose number) answer = let S = Off w (calls.Hclose number) in some_beside S (find (is_dead_as number) w.closings) w (free_bundle w) (λ x. not_beside S w)
  given_beside w who call answer = class_beside w who call answer

  -- ---- who is answered waits no more

  answered_waits : (w : World V) (who : ℕ) (call : Call) (answer : Answer) (other : ℕ) (more : Call) → Numbered 0 w.coroutines w.last_coroutine → Pends (give w who call answer) other more → other ≡ who → ⊥
  answered_waits w who call answer other more n p e =
      let g = give_gives w who call answer in
      unpended w.last_coroutine who (with_mode (modes.Fresh (word_of call) g.answer)) (λ c. refl) (λ c. refl) w.coroutines more n (record { one = p.one; there = subst (In p.one) g.coroutines p.there; number = p.number ∙ e; mode = p.mode })

  -- ---- a call that isn't answered is on a live number

  pub live : (w : World V) (who : ℕ) (more : Call) (n : ℕ) → is_on_stack (word_of more) ≡ true → named_by more ≡ Some n → answer_of w who more ≡ None → (x : Entry Thing) × (entry_of w n ≡ Some x)
  live w who more n on named e = at (entry_of w n) refl lost
    where
      lost : is_none (entry_of w n) ≡ false
      lost =
          let a = or_none (when (blocks (word_of more) && is_cancelled w who) (Fault Ecanceled)) (option_or (when (lost_its_number w more) (Fault Ebadf)) (own_answer w more)) e in
          let b = or_none (when (lost_its_number w more) (Fault Ebadf)) (own_answer w more) a.1 in
          let c = when_off (lost_its_number w more) (Fault Ebadf) b.0 in
          ap (λ o. if_some o false (is_dead w)) (sym named) ∙ ap (λ h. not h && if_some (named_by more) false (is_dead w)) (sym (hclose_off (word_of more) on)) ∙ c
        where
          when_off : (t : Bool) (answer : Answer) → when t answer ≡ None → t ≡ false
          when_off true answer f = cc
          when_off false answer f = refl

      at : (o : Option (Entry Thing)) → entry_of w n ≡ o → is_none o ≡ false → (x : Entry Thing) × (entry_of w n ≡ Some x)
      at None f g = cc
      at (Some x) f g = (x, f)

  -- live numbers are none above the last
  pub live_low : (w : World V) (n : ℕ) (x : Entry Thing) → FitsTogether w → entry_of w n ≡ Some x → w.handles.last < n → ⊥
  live_low w n x f e l =
      let i = find_in (handles.is_entry n) w.handles.entries x e in
      let one = member_weighs n w.handles.entries x i (found_number (λ (y : Entry Thing). y.number) n w.handles.entries x e) in
      let few = subst (λ k. k ≤ bit (nat_le n w.handles.last)) (used_is w.handles.entries w.closings n) (f.numbers n) in
      let none : bit (nat_le n w.handles.last) ≡ 0 = ap bit (above_false n w.handles.last l) in
      omega (arith, one, few, none)

  -- so it names what it named
  pub old_name : (S : Call → ℕ → Type 0) (w v : World V) → Beside S w v → FitsTogether w → (other : ℕ) (more : Call) (n l : ℕ) → answer_of w other more ≡ None → is_on_stack (word_of more) ≡ true → named_by more ≡ Some n → Names v n l → Names w n l
  old_name S w v b f other more n l e on named p = at (b.names n l p)
    where
      at : Names w n l ⊎ (w.handles.last < n) → Names w n l
      at (inl q) = q
      at (inr g) = let x = live w other more n on named e in absurd (live_low w n x.0 f x.1 g)

  -- ---- what stirs one coroutine

  -- no look of another finds anything
  abbrev pub CalmBut : World V → ℕ → Type 0
  CalmBut w who = (other : ℕ) (more : Call) (n l : ℕ) (x : Link) → Pends w other more → (other ≡ who → ⊥) → reads more ≡ true → named_by more ≡ Some n → Names w n l → look w.links l ≡ Some x → Spent more x.stack

  -- the calls of all others pass the test at their links
  abbrev pub Spares : (Call → ℕ → Type 0) → World V → ℕ → Type 0
  Spares S w who = (other : ℕ) (more : Call) (n l : ℕ) → Pends w other more → (other ≡ who → ⊥) → reads more ≡ true → named_by more ≡ Some n → Names w n l → S more l

  waiting : (w : World V) (who : ℕ) → StirsOne w who → (other : ℕ) (more : Call) → Pends w other more → (other ≡ who → ⊥) → answer_of w other more ≡ None
  waiting w who st other more p ne = subst (λ k. answer_of w k more ≡ None) p.number (st.waits p.one more p.there (λ same. ne (sym p.number ∙ same)) p.mode)

  pub calm_but : (S : Call → ℕ → Type 0) (w v : World V) (who : ℕ) → FitsTogether w → StirsOne w who → ((other : ℕ) (more : Call) → Pends v other more → (other ≡ who → ⊥) → Pends w other more) → Spares S w who → Beside S w v → CalmBut v who
  calm_but S w v who f st pends spares b other more n l y p ne rd e nm i =
      let old = pends other more p ne in
      let named = old_name S w v b f other more n l (waiting w who st other more old ne) (reads_parts (is_on_stack (word_of more)) (is_send (word_of more)) rd).0 e nm in
      let was = b.stacks l y i in
      was.2 more (spares other more n l old ne rd e named) (st.calm other more n l was.0 old ne rd e named was.1)

  -- no look finds anything behind the answer
  pub given_rests : (w : World V) (who : ℕ) (call : Call) (answer : Answer) → IsInOrder w → LooksApart w → StirsOne w who → Pends w who call → reads call ≡ true → Restful (give w who call answer)
  given_rests w who call answer o a st own rc = record {
    calm = λ other more n l y p. calm_but (Off w call) w v who o.fits st (λ two d q ne. fewer.calls two d q) spares b other more n l y p (off other more p);
    apart = λ one two c more n m l p q sd rd e f nm nn.
        let first = old_name (Off w call) w v b o.fits one c n l (waiting w who st one c (fewer.calls one c p) (off one c p)) (sends_on_stack c sd) e nm in
        let second = old_name (Off w call) w v b o.fits two more m l (waiting w who st two more (fewer.calls two more q) (off two more q)) (reads_parts (is_on_stack (word_of more)) (is_send (word_of more)) rd).0 f nn in
        let same : n ≡ m = named_once w a n m l (names_number w n l o first) (names_number w m l o second) in
        a.sends m one two c more (fewer.calls one c p) (fewer.calls two more q) sd (e ∙ ap Some same) (reads_named more m rd f);
  }
    where
      v : World V
      v = give w who call answer

      fewer : Fewer w (give w who call answer)
      fewer = fewer_give w who call answer

      b : Beside (Off w call) w (give w who call answer)
      b = given_beside w who call answer

      off : (other : ℕ) (more : Call) → Pends (give w who call answer) other more → other ≡ who → ⊥
      off other more p = answered_waits w who call answer other more o.fits.numbered p

      spares : Spares (Off w call) w who
      spares other more n l p ne rd e nm m g i =
          let same : n ≡ m = named_once w a n m l (names_number w n l o nm) i in
          ne (a.readers m other who more call p own (reads_named more m rd (e ∙ ap Some same)) (reads_named call m rc g))
