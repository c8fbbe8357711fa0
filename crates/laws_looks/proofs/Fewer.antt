-- Answers and settling leave fewer pending calls, and fewer numbers of each link.
use Rattle.std.proofs.Common.{◌≡◌, ◌∙◌, ◌⊎◌, inl, inr, ℕ, zero, suc, ◌≤◌, ◌==◌, List, [], ◌∷◌, length, find, fold, Bool, true, false, ◌||◌, Option, Some, None, if◌then◌else◌, refl, sym, ap, subst, arith}
use Rattle.std.specs.Prelude.{filter, reverse, map}
use Rattle.dill_base.specs.declared.errno.Errno.{Errno}
use Rattle.dill_calls.specs.declared.answer.Answer.{Answer}
use Rattle.dill_calls.specs.declared.answer.Answer.TheVariants.{Fault, Number}
use Rattle.dill_calls.specs.declared.call.Call.{Call}
use Rattle.dill_calls.specs.declared.call.Call.TheVariants as calls
use Rattle.dill_calls.specs.declared.ran.Note.TheVariants.{Moved, Freed}
use Rattle.dill_calls.specs.declared.word.Word.{Word}
use Rattle.dill_calls.specs.declared.word.Word.TheVariants as words
use Rattle.dill_calls.specs.CallTable.{word_of, named_by, gives_up}
use Rattle.dill_handles.specs.Handles as handles
use Rattle.dill_handles.specs.Handles.{Handles}
use Rattle.dill_handles.specs.declared.entry.Entry.{Entry}
use Rattle.dill_scope.proofs.Numbered.{find_without_other}
use Rattle.dill_base.specs.Maps.{if_some, first_some, change, without}
use Rattle.dill_rules.specs.declared.coroutine.Coroutine.{Coroutine}
use Rattle.dill_rules.specs.declared.coroutine.Mode.{Mode}
use Rattle.dill_rules.specs.declared.coroutine.Mode.TheVariants as modes
use Rattle.dill_rules.specs.declared.thing.Thing.{Thing}
use Rattle.dill_rules.specs.declared.thing.Thing.TheVariants as things
use Rattle.dill_rules.specs.World.{World, is_coroutine, call_of, with_mode, set_mode, reply, note, pending_call, from_start}
use Rattle.dill_rules.specs.Directions.{is_send, is_receive, is_handshake}
use Rattle.dill_rules.specs.Effects.{next_number}
use Rattle.dill_rules.specs.Expiring.{expire_one}
use Rattle.dill_rules.specs.Entering.{late_answer}
use Rattle.dill_rules.specs.Giving.{is_read, look_on, after_send, is_connecting_for, give_send, give_receive, give_number, give_attached, give_closed, forgo, give_forgone, give_class, give}
use Rattle.dill_rules.specs.LinkAnswers.{is_tcp_close}
use Rattle.dill_rules.specs.Linking.{give_stack_up}
use Rattle.dill_rules.specs.Links as link
use Rattle.dill_rules.specs.Links.{Links, with_stack, as_closing}
use Rattle.dill_rules.specs.Naming.{draws_of, links}
use Rattle.dill_rules.specs.Owning.{entry_of, is_dead_as, take_thing, move, drop, release, free_bundle}
use Rattle.dill_rules.specs.Settling.{can_finish, highest_first, is_owned_by, free_all, release_all, outcome_of, finish, leave, answer_due, give_first, settle_one, settle_within, pass_all, settle}
use Rattle.dill_rules.specs.Sockets.{link_of, on_link, on_named}
use Rattle.dill_rules.specs.State.{lined}
use Rattle.laws_queue.specs.Well.{bit}
use Rattle.laws_queue.proofs.Besides.{Besides, on_named_besides, look_besides, pass_all_besides}
use Rattle.laws_queue.proofs.Crew.{take_thing_crew}
use Rattle.laws_queue.proofs.Lining.{lined_pending}
use Rattle.laws_sound.specs.Orderly.{weigh}
use Rattle.laws_sound.proofs.Counting.{small_bit, holds, weigh_filter, weigh_push, weigh_found, weigh_without}
use Rattle.laws_sound.proofs.Noting.{drop_handles, take_handles}
use Rattle.laws_looks.specs.Readers.{In, Pends, NamedOnce, times_linked, may_name, LooksApart}
use Rattle.laws_looks.proofs.Lists.{itself, equal_is, unequal_is, in_without, in_change, in_map}
use Rattle.laws_looks.proofs.Stays.{Stays, LinksStay, stays_same, stays_then, stays_kept, stays_change, soft_rested, on_named_stays, look_stays, pass_all_stays, drop_stays}

-- a handle of the link
abbrev pub links_to : ℕ → Entry Thing → ℕ
links_to l x = bit (holds (link_of x.thing) l)

pub not_pending : {V : Type 0} (c d : Coroutine V) (call : Call) → pending_call d.mode ≡ None → c ≡ d → pending_call c.mode ≡ Some call → ⊥
not_pending c d call n same e = let bad : None ≡ Some call = sym n ∙ ap (λ (x : Coroutine _). pending_call x.mode) (sym same) ∙ e in cc

module _ {V : Type 0} where
  pub weigh_linked : (w : World V) (l : ℕ) → times_linked w l ≡ weigh (links_to l) w.handles.entries
  weigh_linked w l = weigh_filter (λ (x : Entry Thing). link_of x.thing) l w.handles.entries

  -- Fewer are pending, and each in the call that it was in; no link has more numbers, and the same links may be named.
  pub record Fewer (w v : World V) : Type 0 where
    pub calls : (who : ℕ) (call : Call) → Pends v who call → Pends w who call
    pub links : (l : ℕ) → weigh (links_to l) v.handles.entries ≤ weigh (links_to l) w.handles.entries
    pub stays : Stays w.links v.links

  pub pends_same : (w v : World V) → v.coroutines ≡ w.coroutines → (who : ℕ) (call : Call) → Pends v who call → Pends w who call
  pends_same w v e who call p = record { one = p.one; there = subst (In p.one) e p.there; number = p.number; mode = p.mode }

  pub fewer_parts : (w v : World V) → v.coroutines ≡ w.coroutines → v.handles.entries ≡ w.handles.entries → Stays w.links v.links → Fewer w v
  fewer_parts w v e h s = record {
    calls = pends_same w v e;
    links = λ l. subst (λ es. weigh (links_to l) es ≤ weigh (links_to l) w.handles.entries) (sym h) (omega arith);
    stays = s;
  }

  pub fewer_same : (w v : World V) → v.coroutines ≡ w.coroutines → v.handles.entries ≡ w.handles.entries → v.links ≡ w.links → Fewer w v
  fewer_same w v e h s = fewer_parts w v e h (subst (Stays w.links) (sym s) (stays_same w.links))

  pub fewer_not : (w : World V) → Fewer w w
  fewer_not w = fewer_same w w refl refl refl

  pub fewer_then : (w v u : World V) → Fewer w v → Fewer v u → Fewer w u
  fewer_then w v u a b = record {
    calls = λ who call e. a.calls who call (b.calls who call e);
    links = λ l. let f = a.links l in let g = b.links l in omega (arith, f, g);
    stays = stays_then w.links v.links u.links a.stays b.stays;
  }

  pub fewer_besides : (w v : World V) → Besides w v → LinksStay w v → Fewer w v
  fewer_besides w v b s = fewer_parts w v (ap (λ (x : World V). x.coroutines) b.same) (ap (λ (x : World V). x.handles.entries) b.same) s.stays

  pub fewer_some : {A : Type 0} (o : Option A) (w : World V) (f : A → World V) → ((a : A) → Fewer w (f a)) → Fewer w (if_some o w f)
  fewer_some None w f h = fewer_not w
  fewer_some (Some a) w f h = h a

  pub fewer_if : (b : Bool) (w v u : World V) → Fewer w v → Fewer w u → Fewer w (if b then v else u)
  fewer_if true w v u e f = e
  fewer_if false w v u e f = f

  pub fewer_each : {A : Type 0} (f : World V → A → World V) (xs : List A) (w : World V) → ((v : World V) (a : A) → Fewer v (f v a)) → Fewer w (fold f w xs)
  fewer_each f [] w h = fewer_not w
  fewer_each f (x ∷ xs) w h = fewer_then w (f w x) (fold f (f w x) xs) (h w x) (fewer_each f xs (f w x) h)

  -- a coroutine gets a mode in which it isn't pending
  pub fewer_change : (w : World V) (who : ℕ) (f : Coroutine V → Coroutine V) → ((c : Coroutine V) → pending_call (f c).mode ≡ None) → Fewer w (record w { coroutines = change (is_coroutine who) f w.coroutines })
  fewer_change w who f none = record { calls = λ other call p. at other call p (in_change (is_coroutine who) f w.coroutines p.one p.there); links = λ l. omega arith; stays = stays_same w.links }
    where
      at : (other : ℕ) (call : Call) (p : Pends (record w { coroutines = change (is_coroutine who) f w.coroutines }) other call) → In p.one w.coroutines ⊎ ((c : Coroutine V) × (is_coroutine who c ≡ true) × (p.one ≡ f c)) → Pends w other call
      at other call p (inl i) = record { one = p.one; there = i; number = p.number; mode = p.mode }
      at other call p (inr r) = absurd (not_pending p.one (f r.0) call (none r.0) r.2 p.mode)

  pub fewer_set : (w : World V) (who : ℕ) (mode : Mode) → pending_call mode ≡ None → Fewer w (set_mode w who mode)
  fewer_set w who mode none = fewer_change w who (with_mode mode) (λ c. none)

  pub fewer_reply : (w : World V) (who : ℕ) (word : Word) (answer : Answer) → Fewer w (reply w who word answer)
  fewer_reply w who word answer =
      let v = set_mode w who (modes.Fresh word answer) in
      fewer_then w v (reply w who word answer) (fewer_set w who (modes.Fresh word answer) refl) (fewer_same v (reply w who word answer) refl refl refl)

  pub replied : (w v : World V) (who : ℕ) (word : Word) (answer : Answer) → Fewer w v → Fewer w (reply v who word answer)
  replied w v who word answer f = fewer_then w v (reply v who word answer) f (fewer_reply v who word answer)

  pub fewer_lined : (w : World V) → Fewer w (record w { coroutines = map lined w.coroutines })
  fewer_lined w = record { calls = at; links = λ l. omega arith; stays = stays_same w.links }
    where
      at : (who : ℕ) (call : Call) → Pends (record w { coroutines = map lined w.coroutines }) who call → Pends w who call
      at who call p =
          let r = in_map lined w.coroutines p.one p.there in
          record { one = r.0; there = r.1; number = ap (λ (x : Coroutine V). x.number) (sym r.2) ∙ p.number; mode = sym (lined_pending r.0.mode) ∙ ap (λ (x : Coroutine V). pending_call x.mode) (sym r.2) ∙ p.mode }

  fewer_kept : (w : World V) (count : ℕ) → Fewer w (record w { handles = handles.unkeep w.handles count })
  fewer_kept w count = fewer_same w (record w { handles = handles.unkeep w.handles count }) refl refl refl

  pub fewer_release : (w : World V) (number : ℕ) → Fewer w (release w number)
  fewer_release w number = fewer_some (entry_of w number) w (λ x. note (drop (record w { handles = handles.retire w.handles number }) x.thing) (Freed number)) at
    where
      at : (x : Entry Thing) → Fewer w (note (drop (record w { handles = handles.retire w.handles number }) x.thing) (Freed number))
      at x =
          let less : World V = record w { handles = handles.retire w.handles number } in
          record {
            calls = pends_same w (note (drop less x.thing) (Freed number)) (drop_crew less x.thing);
            links = λ l. subst (λ (g : Handles Thing). weigh (links_to l) g.entries ≤ weigh (links_to l) w.handles.entries) (sym (drop_handles less x.thing)) (weigh_without (links_to l) (handles.is_entry number) w.handles.entries);
            stays = drop_stays less x.thing;
          }
        where
          drop_crew : (v : World V) (thing : Thing) → (drop v thing).coroutines ≡ v.coroutines
          drop_crew v (things.Bundle name) = refl
          drop_crew v (things.End end) = refl
          drop_crew v (things.Listener l) = refl
          drop_crew v (things.Socket l) = refl
          drop_crew v (things.Value kind value) = refl

  pub take_links : (w : World V) (thing : Thing) (owner : ℕ) → (take_thing w thing owner).links ≡ w.links
  take_links w (things.Bundle name) owner = refl
  take_links w (things.End end) owner = refl
  take_links w (things.Listener l) owner = refl
  take_links w (things.Socket l) owner = refl
  take_links w (things.Value kind value) owner = refl

  pub fewer_move : (w : World V) (number owner : ℕ) → Fewer w (move w number owner)
  fewer_move w number owner = at (entry_of w number) refl
    where
      at : (o : Option (Entry Thing)) → entry_of w number ≡ o → Fewer w (if_some o w (λ x. note (take_thing (record w { handles = handles.renumber w.handles number x.thing owner }) x.thing owner) (Moved number (handles.next_number w.handles))))
      at None e = fewer_not w
      at (Some x) e =
          let more : World V = record w { handles = handles.renumber w.handles number x.thing owner } in
          let new : Entry Thing = record { number = handles.next_number w.handles; thing = x.thing; owner = owner } in
          record {
            calls = pends_same w (note (take_thing more x.thing owner) (Moved number (handles.next_number w.handles))) (take_thing_crew more x.thing owner).coroutines;
            links = λ l.
                let p = weigh_push (links_to l) (without (handles.is_entry number) w.handles.entries) new in
                let g = weigh_found (links_to l) (handles.is_entry number) w.handles.entries x e in
                subst (λ (h : Handles Thing). weigh (links_to l) h.entries ≤ weigh (links_to l) w.handles.entries) (sym (take_handles more x.thing owner)) (omega (arith, p, g));
            stays = subst (Stays w.links) (sym (take_links more x.thing owner)) (stays_same w.links);
          }

  -- ---- answers

  pub fewer_up : (w v : World V) (who : ℕ) (call : Call) (e : Errno) (kept : ℕ) → Fewer w v → Fewer w (give_stack_up v who call e kept)
  fewer_up w v who call e kept f =
      let less : World V = record v { handles = handles.unkeep v.handles kept } in
      let up = if_some (named_by call) v (λ number. release less number) in
      replied w up who (word_of call) (Fault e) (fewer_then w v up f (fewer_some (named_by call) v (λ number. release less number) (λ number. fewer_then v less (release less number) (fewer_kept v kept) (fewer_release less number))))

  pub fewer_looked : (w : World V) (call : Call) → Fewer w (look_on w call)
  fewer_looked w call = fewer_besides w (look_on w call) (look_besides w call) (look_stays w call)

  fewer_attached : (w : World V) (who : ℕ) (call : Call) (answer : Answer) → Fewer w (give_attached w who call answer)
  fewer_attached w who call (Fault e) = fewer_up w (if is_read (Fault e) then look_on w call else w) who call e (draws_of call) (fewer_if (is_read (Fault e)) w (look_on w call) w (fewer_looked w call) (fewer_not w))
  fewer_attached w who call answer = at (named_by call)
    where
      at : (o : Option ℕ) → Fewer w (if_some o (reply w who (word_of call) answer) (give_number w who call))
      at None = fewer_reply w who (word_of call) answer
      at (Some number) =
          let v = look_on w call in
          replied w (move v number who) who (word_of call) (Number (next_number w)) (fewer_then w v (move v number who) (fewer_looked w call) (fewer_move v number who))

  fewer_closed : (w : World V) (who : ℕ) (call : Call) (answer : Answer) → Fewer w (give_closed w who call answer)
  fewer_closed w who call (Fault e) = fewer_up w w who call e 0 (fewer_not w)
  fewer_closed w who call answer = replied w (if_some (named_by call) w (release w)) who (word_of call) answer (fewer_some (named_by call) w (release w) (fewer_release w))

  fewer_forgone : (w : World V) (who : ℕ) → Fewer w (forgo w who)
  fewer_forgone w who =
      let less : World V = record w { handles = handles.unkeep w.handles 1 } in
      fewer_then w less (forgo w who) (fewer_kept w 1) (at less (find (is_connecting_for who) w.links.all))
    where
      at : (less : World V) (o : Option link.Link) → Fewer less (if_some o (record less { links = link.unkeep less.links }) (λ x. on_link less x.number as_closing))
      at less None = fewer_parts less (record less { links = link.unkeep less.links }) refl refl (stays_kept less.links (link.unkeep less.links).kept)
      at less (Some x) = fewer_parts less (on_link less x.number as_closing) refl refl (stays_change less.links x.number as_closing (λ y. refl) (λ y. refl))

  fewer_class : (w : World V) (who : ℕ) (call : Call) (answer : Answer) → Fewer w (give_class w who call answer)
  fewer_class w who call answer =
      let word = word_of call in
      let sent = if_some (named_by call) w (λ number. on_named w number (with_stack (after_send word answer))) in
      let read = if is_read answer then look_on w call else w in
      fewer_if (is_send word) w (give_send w who call answer) _
      (replied w sent who word answer (fewer_some (named_by call) w (λ number. on_named w number (with_stack (after_send word answer))) (λ number. fewer_besides w (on_named w number (with_stack (after_send word answer))) (on_named_besides w number (with_stack (after_send word answer))) (on_named_stays w number (with_stack (after_send word answer)) (λ x. refl) (λ x. refl) (λ x. refl)))))
      (fewer_if (is_receive word) w (give_receive w who call answer) _ (replied w read who word answer (fewer_if (is_read answer) w (look_on w call) w (fewer_looked w call) (fewer_not w)))
      (fewer_if (is_tcp_close word) w (give_closed w who call answer) _ (fewer_closed w who call answer)
      (fewer_if (is_handshake word || gives_up word) w (give_attached w who call answer) _ (fewer_attached w who call answer)
      (fewer_if (links word) w (give_forgone w who call answer) (reply w who word answer) (replied w (forgo w who) who word answer (fewer_forgone w who)) (fewer_reply w who word answer)))))

  pub fewer_give : (w : World V) (who : ℕ) (call : Call) (answer : Answer) → Fewer w (give w who call answer)
  fewer_give w who (calls.Hclose number) answer =
      replied w (if_some (find (is_dead_as number) w.closings) w (free_bundle w)) who words.Hclose answer
      (fewer_some (find (is_dead_as number) w.closings) w (free_bundle w) (λ x. fewer_same w (free_bundle w x) refl refl refl))
  fewer_give w who call answer = fewer_class w who call answer

  -- ---- settling and expiries

  pub fewer_expire : (w : World V) (who : ℕ) → Fewer w (expire_one w who)
  fewer_expire w who = fewer_some (call_of w who) w (λ call. give w who call (late_answer call)) (λ call. fewer_give w who call (late_answer call))

  fewer_leave : (w : World V) (c : Coroutine V) → Fewer w (leave w c)
  fewer_leave w c = at (c.number == 1)
    where
      at : (b : Bool) → Fewer w (record (if b then from_start (record w { ended = Some (outcome_of c.mode) }) else w) { coroutines = without (is_coroutine c.number) w.coroutines; scopes = (leave w c).scopes })
      at true = record { calls = gone; links = λ l. omega arith; stays = (soft_rested w.links).stays }
        where
          gone : (who : ℕ) (call : Call) → Pends (record (from_start (record w { ended = Some (outcome_of c.mode) })) { coroutines = without (is_coroutine c.number) w.coroutines; scopes = (leave w c).scopes }) who call → Pends w who call
          gone who call p = record { one = p.one; there = in_without (is_coroutine c.number) w.coroutines p.one p.there; number = p.number; mode = p.mode }
      at false = record { calls = gone; links = λ l. omega arith; stays = stays_same w.links }
        where
          gone : (who : ℕ) (call : Call) → Pends (record w { coroutines = without (is_coroutine c.number) w.coroutines; scopes = (leave w c).scopes }) who call → Pends w who call
          gone who call p = record { one = p.one; there = in_without (is_coroutine c.number) w.coroutines p.one p.there; number = p.number; mode = p.mode }

  pub fewer_finish : (w : World V) (c : Coroutine V) → Fewer w (finish w c)
  fewer_finish w c =
      let freed = free_all w c.number in
      let bare = release_all freed c.number in
      fewer_then w freed (finish w c) (fewer_each free_bundle (highest_first (filter (is_owned_by w c.number) w.closings)) w (λ v x. fewer_same v (free_bundle v x) refl refl refl))
      (fewer_then freed bare (finish w c) (fewer_each release (reverse (handles.numbers_of freed.handles c.number)) freed fewer_release) (fewer_leave bare c))

  fewer_one : (w : World V) → Fewer w (settle_one w)
  fewer_one w = at (find (can_finish w) w.coroutines)
    where
      at : (o : Option (Coroutine V)) → Fewer w (if_some o (give_first w) (finish w))
      at None = fewer_some (first_some (answer_due w) w.coroutines) w (λ x. give w x.0 x.1 x.2) (λ x. fewer_give w x.0 x.1 x.2)
      at (Some c) = fewer_finish w c

  pub fewer_within : (n : ℕ) (w : World V) → Fewer w (settle_within n w)
  fewer_within zero w = fewer_not w
  fewer_within (suc n) w = fewer_then w (settle_one w) (settle_within n (settle_one w)) (fewer_one w) (fewer_within n (settle_one w))

  pub fewer_settle : (w : World V) → Fewer w (settle w)
  fewer_settle w =
      let done = settle_within (length w.coroutines) w in
      fewer_then w done (settle w) (fewer_within (length w.coroutines) w) (fewer_besides done (pass_all done) (pass_all_besides done) (pass_all_stays done))

  -- ---- what is apart stays so

  pub fewer_apart : (w v : World V) → Fewer w v → LooksApart w → LooksApart v
  fewer_apart w v f a = record {
    readers = λ number who other call more e g r s. a.readers number who other call more (f.calls who call e) (f.calls other more g) r s;
    sends = λ number who other call more e g s n r. a.sends number who other call more (f.calls who call e) (f.calls other more g) s n r;
    rising = f.stays.rising a.rising;
    named = λ l. let x = f.links l in let y = a.named l in let p = weigh_linked w l in let q = weigh_linked v l in let same = ap bit (f.stays.names l) in omega (arith, x, y, p, q, same);
  }

  -- two numbers of one link are one
  pub named_once : (w : World V) → LooksApart w → NamedOnce w
  named_once w apart n m l e f = at (n == m) refl (entry_of w n) refl (entry_of w m) refl e f
    where
      linked : (x : Entry Thing) → link_of x.thing ≡ Some l → links_to l x ≡ 1
      linked x g = ap (λ o. bit (holds o l)) g ∙ ap bit (itself l)

      at : (b : Bool) → (n == m) ≡ b → (o : Option (Entry Thing)) → entry_of w n ≡ o → (p : Option (Entry Thing)) → entry_of w m ≡ p → if_some o None (λ x. link_of x.thing) ≡ Some l → if_some p None (λ x. link_of x.thing) ≡ Some l → n ≡ m
      at true b o i p j g h = equal_is n m b
      at false b None i p j g h = cc
      at false b (Some x) i None j g h = cc
      at false b (Some x) i (Some y) j g h =
          let one = weigh_found (links_to l) (handles.is_entry n) w.handles.entries x i in
          let there : find (handles.is_entry m) (without (handles.is_entry n) w.handles.entries) ≡ Some y = find_without_other (λ (z : Entry Thing). z.number) m n w.handles.entries (λ k. unequal_is n m b (sym k)) ∙ j in
          let two = weigh_found (links_to l) (handles.is_entry m) (without (handles.is_entry n) w.handles.entries) y there in
          let a = linked x g in
          let c = linked y h in
          let all = apart.named l in
          let few = small_bit (may_name w.links l) in
          let weight = weigh_linked w l in
          absurd (omega (arith, one, two, a, c, all, few, weight))
