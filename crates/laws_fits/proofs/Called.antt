-- What a call finds at its entry, and that a world in which it is pending fits.
use Rattle.std.proofs.Common.{◌≡◌, ◌∙◌, ◌⊎◌, inl, inr, ℕ, List, [], ◌∷◌, find, cond, Bool, true, false, ◌||◌, Option, Some, None, if◌then◌else◌, refl, sym, ap, subst}
use Rattle.std.specs.Prelude.{is_some, option_map}
use Rattle.dill_base.specs.Maps.{if_some, change}
use Rattle.dill_calls.specs.declared.call.Call.{Call}
use Rattle.dill_calls.specs.declared.word.Word.{Word}
use Rattle.dill_calls.specs.declared.word.Word.TheVariants as words
use Rattle.dill_calls.specs.CallTable.{word_of, named_by, blocks, gives_up}
use Rattle.dill_calls.specs.Program.{Program}
use Rattle.dill_stack.specs.declared.parting.Parting.{Parting}
use Rattle.dill_stack.specs.Interface.{Held, detach_start, drop_unread}
use Rattle.dill_rules.specs.declared.coroutine.Coroutine.{Coroutine}
use Rattle.dill_rules.specs.declared.coroutine.Mode.{Mode}
use Rattle.dill_rules.specs.declared.coroutine.Mode.TheVariants as modes
use Rattle.dill_rules.specs.Directions.{is_send, is_receive, is_handshake, layer_of, parting_of}
use Rattle.dill_rules.specs.Entering.{perform_on_link, meet_deadline}
use Rattle.dill_rules.specs.LinkAnswers.{is_on_stack}
use Rattle.dill_rules.specs.Linking.{ask_stack, heat, reserve, greet_by, enter_send, enter_receive, enter_link, enter_handshake, enter_attach, given_up_at_once, give_stack_up, begin_detach, begin_giving_up, enter_giving_up}
use Rattle.dill_rules.specs.Links.{Link, look, is_link, change_link, with_stack, heated}
use Rattle.dill_rules.specs.Naming.{links, draws_of}
use Rattle.dill_rules.specs.Owning.{take}
use Rattle.dill_rules.specs.Sockets.{link_number, link_named, stack_of, on_link as change_on, on_named}
use Rattle.dill_rules.specs.Turning.{resume}
use Rattle.dill_rules.specs.World.{World, is_coroutine, coroutine_of, call_of, with_mode, pend, pending_call}
use Rattle.laws_sound.proofs.Calling.{go_on_goes}
use Rattle.laws_looks.specs.OneLook.{called, taken_for}
use Rattle.laws_looks.proofs.Lists.{true_false}
use Rattle.laws_looks.proofs.Restful.{named_link}
use Rattle.laws_fits.specs.Fitting.{IsFitting}
use Rattle.laws_fits.specs.Meeting.{Lasting, Calling, MayEnter, EntriesFit, StacksStay, MayLook, LooksFit}
use Rattle.laws_fits.proofs.Elsewhere.{Performs, on_link, elsewhere, performs}
use Rattle.laws_fits.proofs.Entering.{Caller, met_same, quiet, done_fits}
use Rattle.laws_fits.proofs.Fits.{Fitted, Lasts}
use Rattle.laws_fits.proofs.Hearing.{heard_lasts}
use Rattle.laws_fits.proofs.Keepers.{pends_in}
use Rattle.laws_fits.proofs.Tidy.{take_links_all, take_named}
use Rattle.laws_fits.proofs.Steps.{lasts_of, calling, go_on_lasts}

-- ---- words

receive_word : (word : Word) → is_receive word ≡ true → (is_send word ≡ false) × (is_on_stack word ≡ true)
receive_word words.Brecv e = (refl, refl)
receive_word words.Mrecv e = (refl, refl)
receive_word words.HttpRecvrequest e = (refl, refl)
receive_word words.HttpRecvstatus e = (refl, refl)
receive_word words.HttpRecvfield e = (refl, refl)
receive_word _ e = cc

gives_word : (word : Word) → gives_up word ≡ true → (is_send word ≡ false) × (is_receive word ≡ false) × (is_on_stack word ≡ true)
gives_word words.TcpClose e = (refl, refl, refl)
gives_word words.PrefixDetach e = (refl, refl, refl)
gives_word words.SuffixDetach e = (refl, refl, refl)
gives_word words.TermDetach e = (refl, refl, refl)
gives_word words.HttpDetach e = (refl, refl, refl)
gives_word words.WsDetach e = (refl, refl, refl)
gives_word _ e = cc

shakes_word : (word : Word) → is_handshake word ≡ true → (is_send word ≡ false) × (is_receive word ≡ false) × (gives_up word ≡ false) × (links word ≡ false) × (is_on_stack word ≡ true)
shakes_word words.WsAttachClient e = (refl, refl, refl, refl, refl)
shakes_word words.WsAttachServer e = (refl, refl, refl, refl, refl)
shakes_word _ e = cc

-- ---- a list of cases

second : {A : Type 0} (a b : Bool) (x y z : A) → a ≡ false → b ≡ true → (if a then x else (if b then y else z)) ≡ y
second true b x y z e f = cc
second false true x y z e f = refl
second false false x y z e f = cc

third : {A : Type 0} (a b c : Bool) (x y z u : A) → a ≡ false → b ≡ false → c ≡ true → (if a then x else (if b then y else (if c then z else u))) ≡ z
third true b c x y z u e f g = cc
third false b c x y z u e f g = second b c y z u f g

fifth : {A : Type 0} (a b c d f : Bool) (x y z u v t : A) → a ≡ false → b ≡ false → c ≡ false → d ≡ false → f ≡ true → (if a then x else (if b then y else (if c then z else (if d then u else (if f then v else t))))) ≡ v
fifth true b c d f x y z u v t e g h i j = cc
fifth false true c d f x y z u v t e g h i j = cc
fifth false false c d f x y z u v t e g h i j = third c d f z u v t h i j

either : (a b : Bool) → (a || b) ≡ true → (a ≡ true) ⊎ (b ≡ true)
either true b e = inl refl
either false b e = inr e

-- ---- stacks

-- a link that is hot has the stack that it had
hot_stack : (read write : Bool) (l m : ℕ) (xs : List Link) → option_map (λ x. x.stack) (find (is_link m) (change (is_link l) (heated read write) xs)) ≡ option_map (λ x. x.stack) (find (is_link m) xs)
hot_stack read write l m [] = refl
hot_stack read write l m (x ∷ xs) = at (is_link l x) (hot_stack read write l m xs)
  where
    at : (b : Bool) → option_map (λ x. x.stack) (find (is_link m) (change (is_link l) (heated read write) xs)) ≡ option_map (λ x. x.stack) (find (is_link m) xs)
        → option_map (λ x. x.stack) (find (is_link m) (cond b (heated read write x ∷ xs) (x ∷ change (is_link l) (heated read write) xs))) ≡ option_map (λ x. x.stack) (cond (is_link m x) (Some x) (find (is_link m) xs))
    at true rest = here (is_link m x)
      where
        here : (d : Bool) → option_map (λ x. x.stack) (cond d (Some (heated read write x)) (find (is_link m) xs)) ≡ option_map (λ x. x.stack) (cond d (Some x) (find (is_link m) xs))
        here true = refl
        here false = refl
    at false rest = here (is_link m x)
      where
        here : (d : Bool) → option_map (λ x. x.stack) (cond d (Some x) (find (is_link m) (change (is_link l) (heated read write) xs))) ≡ option_map (λ x. x.stack) (cond d (Some x) (find (is_link m) xs))
        here true = refl
        here false = rest

-- ---- who is pending

moded : {V : Type 0} (mode : Mode) (who : ℕ) (cs : List (Coroutine V)) (d : Coroutine V) → find (is_coroutine who) (change (is_coroutine who) (with_mode mode) cs) ≡ Some d → d.mode ≡ mode
moded mode who [] d e = cc
moded mode who (c ∷ cs) d e = at (is_coroutine who c) refl e (moded mode who cs d)
  where
    at : (b : Bool) → is_coroutine who c ≡ b → find (is_coroutine who) (cond b (with_mode mode c ∷ cs) (c ∷ change (is_coroutine who) (with_mode mode) cs)) ≡ Some d
        → (find (is_coroutine who) (change (is_coroutine who) (with_mode mode) cs) ≡ Some d → d.mode ≡ mode) → d.mode ≡ mode
    at true f g rest =
        let it : Some (with_mode mode c) ≡ Some d = sym (ap (λ b. cond b (Some (with_mode mode c)) (find (is_coroutine who) cs)) f) ∙ g in
        let is : with_mode mode c ≡ d = cc in
        ap (λ (x : Coroutine _). x.mode) (sym is)
    at false f g rest = rest (sym (ap (λ b. cond b (Some c) (find (is_coroutine who) (change (is_coroutine who) (with_mode mode) cs))) f) ∙ g)

pending_is : (mode : Mode) (call c : Call) → mode ≡ modes.Pending call → pending_call mode ≡ Some c → c ≡ call
pending_is mode call c e f = let it : Some call ≡ Some c = sym (ap pending_call e) ∙ f in cc

module _ {V : Type 0} where
  -- what a call that was begun is pending in
  pended : (u : World V) (who : ℕ) (call c : Call) → call_of (pend u who call) who ≡ Some c → c ≡ call
  pended u who call c e = at (coroutine_of (pend u who call) who) refl e
    where
      at : (o : Option (Coroutine V)) → coroutine_of (pend u who call) who ≡ o → if_some o None (λ d. pending_call d.mode) ≡ Some c → c ≡ call
      at None f g = cc
      at (Some d) f g = pending_is d.mode call c (moded (modes.Pending call) who u.coroutines d f) g

  heats : (w : World V) (call : Call) (read write : Bool) → stack_of (heat w call read write) call ≡ stack_of w call
  heats w call read write = at (named_by call)
    where
      looked : (l : ℕ) (o : Option ℕ) → option_map (λ x. x.stack) (if_some o None (look (change_link w.links l (heated read write)))) ≡ option_map (λ x. x.stack) (if_some o None (look w.links))
      looked l None = refl
      looked l (Some m) = hot_stack read write l m w.links.all

      linked : (n : ℕ) (o : Option ℕ) → option_map (λ x. x.stack) (link_named (if_some o w (λ l. change_on w l (heated read write))) n) ≡ option_map (λ x. x.stack) (link_named w n)
      linked n None = refl
      linked n (Some l) = looked l (link_number w n)

      at : (o : Option ℕ) → if_some o None (λ n. option_map (λ x. x.stack) (link_named (if_some o w (λ n. on_named w n (heated read write))) n)) ≡ if_some o None (λ n. option_map (λ x. x.stack) (link_named w n))
      at None = refl
      at (Some n) = linked n (link_number w n)

  takes : (w : World V) (who : ℕ) (call : Call) → stack_of (if_some (named_by call) w (λ n. take w n who)) call ≡ stack_of w call
  takes w who call = at (named_by call)
    where
      at : (o : Option ℕ) → if_some o None (λ n. option_map (λ x. x.stack) (link_named (if_some o w (λ n. take w n who)) n)) ≡ if_some o None (λ n. option_map (λ x. x.stack) (link_named w n))
      at None = refl
      at (Some n) =
          ap (λ o. option_map (λ (x : Link). x.stack) (if_some o None (look (take w n who).links))) (take_named w n who n)
          ∙ ap (λ q. option_map (λ (x : Link). x.stack) (if_some (link_number w n) None (look q))) (take_links_all w n who)

  leaves : (w : World V) (who : ℕ) (call : Call) (parting : Parting) → parting_of call ≡ Some parting → stack_of (taken_for w who call) call ≡ stack_of w call
  leaves w who call parting e =
      let v = if_some (named_by call) w (λ n. take w n who) in
      ap (λ q. stack_of (if_some q (if_some (named_by call) v (λ n. on_named v n (with_stack drop_unread))) (λ parting. v)) call) e ∙ takes w who call

  lasts_in : (w : World V) → Lasting w → Lasts w
  lasts_in w h = lasts_of w h.order h.apart h.fits

  -- ---- a call that is entered

  module _ (p : Program V) (w : World V) (who : ℕ) (view : V) (call : Call) (h : Calling p w who view call) where
    abbrev r : World V
    r = resume w who view

    abbrev k : World V
    k = called w who view call

    caller : Caller r who call
    caller = calling p w who h.one h.found h.answered h.lasting.order (lasts_in w h.lasting) view call h.refused

    may_enter : (s : Held) → if_some (named_by call) None (λ n. option_map (λ x. x.stack) (link_named k n)) ≡ Some s → MayEnter call s
    may_enter s e = at (named_by call) refl e
      where
        finds : (n l : ℕ) → named_by call ≡ Some n → link_number r n ≡ Some l → (x : Link) → look r.links l ≡ Some x → MayEnter call x.stack
        finds n l f g x i =
            let open_now = caller.fits.fits.«open» n l x (named_link r n l g) i in
            let solid = caller.fits.fits.solid l x i open_now in
            record {
              standing = solid.standing;
              formed = solid.formed;
              sent = λ u. (quiet p r who view call caller l x (record { number = n; named = f; linked = g }) i open_now (either (is_send (word_of call)) (is_handshake (word_of call) || (gives_up (word_of call) || is_some (layer_of call))) u)).0;
            }

        stacked : (n l : ℕ) → named_by call ≡ Some n → link_number r n ≡ Some l → (o : Option Link) → look r.links l ≡ o → option_map (λ x. x.stack) o ≡ Some s → MayEnter call s
        stacked n l f g None i j = cc
        stacked n l f g (Some x) i j = let same : x.stack ≡ s = cc in subst (MayEnter call) same (finds n l f g x i)

        linked : (n : ℕ) → named_by call ≡ Some n → (o : Option ℕ) → link_number r n ≡ o → option_map (λ x. x.stack) (if_some o None (look r.links)) ≡ Some s → MayEnter call s
        linked n f None g i = cc
        linked n f (Some l) g i = stacked n l f g (look r.links l) refl i

        at : (o : Option ℕ) → named_by call ≡ o → if_some o None (λ n. option_map (λ x. x.stack) (link_named k n)) ≡ Some s → MayEnter call s
        at None f g = cc
        at (Some n) f g = linked n f (link_number r n) refl g

    performed : (n : ℕ) → named_by call ≡ Some n → is_on_stack (word_of call) ≡ true → {v : World V} → Performs k who call v → v ≡ perform_on_link k who call
    performed n e on on_link = refl
    performed n e on (elsewhere off t) = absurd (true_false (is_on_stack (word_of call)) on (off n e))

    entered_fits : (n : ℕ) → named_by call ≡ Some n → is_on_stack (word_of call) ≡ true → (v : World V) → perform_on_link k who call ≡ v → ((c : Call) → call_of v who ≡ Some c → c ≡ call) → IsFitting v
    entered_fits n e on v is same =
        (subst Fitted (ap (λ z. meet_deadline z who) (performed n e on (performs p k who view call caller.meets) ∙ is) ∙ met_same v who call n e on same) (done_fits p r who view call caller)).fits

    receives : (n : ℕ) → named_by call ≡ Some n → is_receive (word_of call) ≡ true → IsFitting (enter_receive k who call)
    receives n e f =
        let t = receive_word (word_of call) f in
        entered_fits n e t.1 (enter_receive k who call) (second (is_send (word_of call)) (is_receive (word_of call)) (enter_send k who call) (enter_receive k who call) _ t.0 f) (pended (heat (reserve k call) call true false) who call)

    handshakes : (n : ℕ) → named_by call ≡ Some n → is_handshake (word_of call) ≡ true → IsFitting (enter_handshake k who call)
    handshakes n e f =
        let t = shakes_word (word_of call) f in
        entered_fits n e t.4 (enter_handshake k who call)
        (fifth (is_send (word_of call)) (is_receive (word_of call)) (gives_up (word_of call)) (links (word_of call)) (is_handshake (word_of call)) (enter_send k who call) (enter_receive k who call) (enter_giving_up k who call (draws_of call)) (enter_link k who call) (enter_handshake k who call) (enter_attach k who call) t.0 t.1 t.2 t.3 f)
        (pended (heat (ask_stack taken call (greet_by call)) call true true) who call)
      where
        taken : World V
        taken = if_some (named_by call) k (λ m. take k m who)

    giving : (n : ℕ) → named_by call ≡ Some n → gives_up (word_of call) ≡ true → given_up_at_once (taken_for k who call) who call ≡ None → IsFitting (begin_giving_up (taken_for k who call) who call)
    giving n e f none =
        let t = gives_word (word_of call) f in
        entered_fits n e t.2 (begin_giving_up own who call)
        (third (is_send (word_of call)) (is_receive (word_of call)) (gives_up (word_of call)) (enter_send k who call) (enter_receive k who call) (enter_giving_up k who call (draws_of call)) _ t.0 t.1 f
        ∙ ap (λ o. if_some o (begin_giving_up own who call) (λ e. give_stack_up own who call e (draws_of call))) none)
        (at (parting_of call))
      where
        own : World V
        own = taken_for k who call

        at : (o : Option Parting) → (c : Call) → call_of (if_some o (pend (heat own call true true) who call) (begin_detach own who call)) who ≡ Some c → c ≡ call
        at None c g = pended (heat own call true true) who call c g
        at (Some parting) c g = pended (heat (ask_stack own call (λ random s. detach_start parting random s)) call (blocks (word_of call)) (blocks (word_of call))) who call c g

  -- ---- a call that is pending

  may_look : (w : World V) (who : ℕ) (call : Call) (n : ℕ) (x : Link) → IsFitting w → call_of w who ≡ Some call → named_by call ≡ Some n → link_named w n ≡ Some x → MayLook call x
  may_look w who call n x h e f g = at (link_number w n) refl g
    where
      at : (o : Option ℕ) → link_number w n ≡ o → if_some o None (look w.links) ≡ Some x → MayLook call x
      at None i t = cc
      at (Some l) i t =
          let names = named_link w n l i in
          record { fits = h.calls who call n l x (pends_in w who call e) f names t; solid = h.solid l x t (h.«open» n l x names t) }

pub entries_fit : {V : Type 0} (p : Program V) → EntriesFit p
entries_fit p w who view call s h e = may_enter p w who view call h s e

pub looks_fit : {V : Type 0} (p : Program V) → LooksFit p
looks_fit p = record {
  looks = may_look;
  hears = λ w x said h e. (heard_lasts w x said e (lasts_in w h)).fits;
  turns = λ lack w who c h found answered.
      let v = go_on_lasts p w who c found answered h.order (lasts_in w h) lack in
      record { order = (go_on_goes p lack w who c h.order found answered).good; apart = v.apart; fits = v.fits };
  receives = λ w who view call n h e f. receives p w who view call h n e f;
  handshakes = λ w who view call n h e f. handshakes p w who view call h n e f;
  gives_up = λ w who view call n h e f none. giving p w who view call h n e f none;
}

pub stacks_stay : (V : Type 0) → StacksStay V
stacks_stay V = record { heats = heats; takes = takes; leaves = leaves }
