-- What holds of the stack of a call that isn't refused: its top is the call's, and nothing is pending on it that the call could hinder.
use Rattle.std.proofs.Common.{◌≡◌, ◌∙◌, inl, inr, ℕ, ◌≤◌, ◌==◌, List, [], ◌∷◌, ◌++◌, length, find, Bool, true, false, not, ◌&&◌, ◌||◌, Option, Some, None, if◌then◌else◌, refl, sym, ap, subst, arith}
use Rattle.std.specs.Prelude.{is_some, option_map}
use Rattle.std.specs.List.{list_any}
use Rattle.std.specs.Option.{option_to_list}
use Rattle.std.proofs.lemmas.Bool.{or_parts}
use Rattle.dill_base.specs.declared.errno.Errno.{Errno}
use Rattle.dill_base.specs.declared.errno.Errno.TheVariants as errnos
use Rattle.dill_base.specs.Maps.{if_some}
use Rattle.dill_calls.specs.declared.call.Call.{Call}
use Rattle.dill_calls.specs.declared.call.Call.TheVariants as calls
use Rattle.dill_calls.specs.CallTable.{word_of, named_by, gives_up, is_hclose}
use Rattle.dill_calls.specs.Program.{Program}
use Rattle.dill_handles.specs.declared.entry.Entry.{Entry}
use Rattle.dill_stack.specs.declared.layer.Layer.{Layer}
use Rattle.dill_stack.specs.declared.layer.Top.{Top}
use Rattle.dill_stack.specs.declared.layer.Top.TheVariants as tops
use Rattle.dill_stack.specs.declared.parting.Parting.{Parting}
use Rattle.dill_stack.specs.declared.want.Want.{Want}
use Rattle.dill_stack.specs.declared.want.Want.TheVariants as wants
use Rattle.dill_stack.specs.Attaching.{greet_fault}
use Rattle.dill_stack.specs.Interface.{Held, top, is_broken}
use Rattle.dill_http.specs.Writing.{fault_of}
use Rattle.dill_stack.specs.Refusals.{first_fault, is_done, send_fault, line_fault, read_fault, attach_fault, detach_fault, done_fault}
use Rattle.dill_stack.specs.Layers.{Placed, Prefix, Suffix, Term, Http, Ws, top_of, HasMessages}
use Rattle.dill_stack.specs.Standing.{FitsBelow}
use Rattle.dill_stack.specs.Taking.{HasHead, FitsTop}
use Rattle.dill_rules.specs.declared.thing.Thing.{Thing}
use Rattle.dill_rules.specs.declared.thing.Thing.TheVariants as things
use Rattle.dill_rules.specs.Directions.{message_of, line_said, is_first, is_end, is_send, is_receive, asked, layer_of, parting_of, kind_of_top, is_prefix, is_suffix, is_term, is_http, is_ws, needs_top}
use Rattle.dill_rules.specs.Kinds.{kind_needed, top_on, kind_of, is_of_kind, has_top, is_other_kind, is_other_top, names_other}
use Rattle.dill_rules.specs.LinkAnswers.{is_on_stack}
use Rattle.dill_rules.specs.Links.{Link, look}
use Rattle.dill_rules.specs.Naming.{gifts, chosen, taken_by}
use Rattle.dill_rules.specs.Owning.{entry_of}
use Rattle.dill_rules.specs.Refusals.{is_same, is_accept, is_second, is_in_use, is_closed_bundle, is_busy, is_refused_by_stack, giving_order, order, holds, refuse}
use Rattle.dill_rules.specs.Sockets.{link_of, link_number, stack_of, link_named, handshake_fault, faults_by}
use Rattle.dill_rules.specs.Taking.{is_on, is_pending, is_within, is_held_back, is_awaited, is_cancelled_taker, cannot_take, is_occupied}
use Rattle.dill_rules.specs.World.{World, pending_call}
use Rattle.dill_rules.specs.declared.coroutine.Coroutine.{Coroutine}
use Rattle.laws_looks.specs.Readers.{In, Pends}
use Rattle.laws_looks.proofs.Lists.{true_false, find_none, none_passes, itself, some_none}
use Rattle.laws_looks.proofs.Enters.{Fit, fits}
use Rattle.laws_fits.proofs.Acts.{On}

-- ---- by the top of layers

bare_top : (layers : List Placed) → (kind_of_top (top_of layers) == 4) ≡ true → layers ≡ []
bare_top [] e = refl
bare_top (Prefix form ∷ below) e = cc
bare_top (Suffix end ∷ below) e = cc
bare_top (Term term ∷ below) e = cc
bare_top (Http http ∷ below) e = cc
bare_top (Ws ws ∷ below) e = cc

messages_top : (layers : List Placed) → (kind_of_top (top_of layers) == 5) ≡ true → HasMessages layers
messages_top [] e = cc
messages_top (Prefix form ∷ below) e = tt
messages_top (Suffix end ∷ below) e = tt
messages_top (Term term ∷ below) e = tt
messages_top (Http http ∷ below) e = cc
messages_top (Ws ws ∷ below) e = tt

head_top : (layers : List Placed) → is_http (top_of layers) ≡ true → HasHead layers
head_top [] e = cc
head_top (Prefix form ∷ below) e = cc
head_top (Suffix end ∷ below) e = cc
head_top (Term term ∷ below) e = cc
head_top (Http http ∷ below) e = tt
head_top (Ws ws ∷ below) e = cc

some_top : (test : Top → Bool) (layers : List Placed) → test tops.Bytes ≡ false → test (top_of layers) ≡ true → 1 ≤ length layers
some_top test [] n e = absurd (true_false (test tops.Bytes) e n)
some_top test (x ∷ below) n e = omega arith

some_is : {A : Type 0} (x y : A) → ◌≡◌ {A = Option A} (Some x) (Some y) → x ≡ y
some_is x y e = cc

-- what a call asks of the top
pub data Asks (call : Call) (layers : List Placed) : Type 0 where
  by_kind : (kind : ℕ) → kind_needed call ≡ Some kind → (kind_of_top (top_of layers) == kind) ≡ true → Asks call layers
  by_top : (test : Top → Bool) → needs_top call ≡ Some test → test (top_of layers) ≡ true → Asks call layers

-- a receive has its top
pub asked_top : (call : Call) (want : Want) (layers : List Placed) → asked call ≡ Some want → Asks call layers → FitsTop want layers
asked_top (calls.Brecv number size deadline) want layers e a = at want e
  where
    at : (w : Want) → asked (calls.Brecv number size deadline) ≡ Some w → FitsTop w layers
    at (wants.Exact n) f = tt
    at _ f = cc
asked_top (calls.Mrecv number limit deadline) want layers e a = at want e a
  where
    messages : Asks (calls.Mrecv number limit deadline) layers → HasMessages layers
    messages (by_kind kind f g) = let it : 5 ≡ kind = cc in messages_top layers (ap (λ k. kind_of_top (top_of layers) == k) it ∙ g)
    messages (by_top test f g) = cc

    at : (w : Want) → asked (calls.Mrecv number limit deadline) ≡ Some w → Asks (calls.Mrecv number limit deadline) layers → FitsTop w layers
    at (wants.Message n) f b = messages b
    at _ f b = cc
asked_top (calls.HttpRecvrequest number deadline) want layers e a = at want e (heads a)
  where
    heads : Asks (calls.HttpRecvrequest number deadline) layers → HasHead layers
    heads (by_kind kind f g) = cc
    heads (by_top test f g) = let it : is_http ≡ test = cc in head_top layers (ap (λ t. t (top_of layers)) it ∙ g)

    at : (w : Want) → asked (calls.HttpRecvrequest number deadline) ≡ Some w → HasHead layers → FitsTop w layers
    at wants.Request f h = h
    at _ f h = cc
asked_top (calls.HttpRecvstatus number deadline) want layers e a = at want e (heads a)
  where
    heads : Asks (calls.HttpRecvstatus number deadline) layers → HasHead layers
    heads (by_kind kind f g) = cc
    heads (by_top test f g) = let it : is_http ≡ test = cc in head_top layers (ap (λ t. t (top_of layers)) it ∙ g)

    at : (w : Want) → asked (calls.HttpRecvstatus number deadline) ≡ Some w → HasHead layers → FitsTop w layers
    at wants.Status f h = h
    at _ f h = cc
asked_top (calls.HttpRecvfield number deadline) want layers e a = at want e (heads a)
  where
    heads : Asks (calls.HttpRecvfield number deadline) layers → HasHead layers
    heads (by_kind kind f g) = cc
    heads (by_top test f g) = let it : is_http ≡ test = cc in head_top layers (ap (λ t. t (top_of layers)) it ∙ g)

    at : (w : Want) → asked (calls.HttpRecvfield number deadline) ≡ Some w → HasHead layers → FitsTop w layers
    at wants.Field f h = h
    at _ f h = cc
asked_top _ want layers e a = cc

-- a layer fits what is below
pub layer_top : (call : Call) (l : Layer) (layers : List Placed) → layer_of call ≡ Some l → Asks call layers → FitsBelow l layers
layer_top call l layers e a = at call e a
  where
    bare : (c : Call) → kind_needed c ≡ Some 4 → needs_top c ≡ None → Asks c layers → layers ≡ []
    bare c k n (by_kind kind f g) = let it : ◌≡◌ {A = Option ℕ} (Some 4) (Some kind) = sym k ∙ f in let same : 4 ≡ kind = cc in bare_top layers (ap (λ j. kind_of_top (top_of layers) == j) same ∙ g)
    bare c k n (by_top test f g) = let bad : None ≡ Some test = sym n ∙ f in cc

    messages : (number : ℕ) (bytes : List ℕ) → Asks (calls.TermAttach number bytes) layers → HasMessages layers
    messages number bytes (by_kind kind f g) = let it : 5 ≡ kind = cc in messages_top layers (ap (λ k. kind_of_top (top_of layers) == k) it ∙ g)
    messages number bytes (by_top test f g) = cc

    at : (c : Call) → layer_of c ≡ Some l → Asks c layers → FitsBelow l layers
    at (calls.PrefixAttach number size big) f b = let is = some_is _ l f in subst (λ x. FitsBelow x layers) is (bare (calls.PrefixAttach number size big) refl refl b)
    at (calls.SuffixAttach number bytes) f b = let is = some_is _ l f in subst (λ x. FitsBelow x layers) is (bare (calls.SuffixAttach number bytes) refl refl b)
    at (calls.TermAttach number bytes) f b = let is = some_is _ l f in subst (λ x. FitsBelow x layers) is (messages number bytes b)
    at (calls.HttpAttach number) f b = let is = some_is _ l f in subst (λ x. FitsBelow x layers) is (bare (calls.HttpAttach number) refl refl b)
    at (calls.WsAttachNohttp number client text) f b = let is = some_is _ l f in subst (λ x. FitsBelow x layers) is (bare (calls.WsAttachNohttp number client text) refl refl b)
    at _ f b = cc

-- a handshake, and the end of a link, are over a bare link
pub bare_asks : (call : Call) (layers : List Placed) → kind_needed call ≡ Some 4 → needs_top call ≡ None → Asks call layers → layers ≡ []
bare_asks call layers k n (by_kind kind f g) = let it : ◌≡◌ {A = Option ℕ} (Some 4) (Some kind) = sym k ∙ f in let same : 4 ≡ kind = cc in bare_top layers (ap (λ j. kind_of_top (top_of layers) == j) same ∙ g)
bare_asks call layers k n (by_top test f g) = let bad : None ≡ Some test = sym n ∙ f in cc

-- a detach leaves a layer
pub parting_top : (call : Call) (parting : Parting) (layers : List Placed) → parting_of call ≡ Some parting → Asks call layers → 1 ≤ length layers
parting_top call parting layers e a = at call e a
  where
    some : (c : Call) (test : Top → Bool) → kind_needed c ≡ None → needs_top c ≡ Some test → test tops.Bytes ≡ false → Asks c layers → 1 ≤ length layers
    some c test k n b (by_kind kind f g) = let bad : None ≡ Some kind = sym k ∙ f in cc
    some c test k n b (by_top other f g) = some_top test layers b (ap (λ t. t (top_of layers)) (some_is test other (sym n ∙ f)) ∙ g)

    at : (c : Call) → parting_of c ≡ Some parting → Asks c layers → 1 ≤ length layers
    at (calls.PrefixDetach number) f b = some (calls.PrefixDetach number) is_prefix refl refl refl b
    at (calls.SuffixDetach number) f b = some (calls.SuffixDetach number) is_suffix refl refl refl b
    at (calls.TermDetach number deadline) f b = some (calls.TermDetach number deadline) is_term refl refl refl b
    at (calls.HttpDetach number deadline) f b = some (calls.HttpDetach number deadline) is_http refl refl refl b
    at (calls.WsDetach number code reason deadline) f b = some (calls.WsDetach number code reason deadline) is_ws refl refl refl b
    at _ f b = cc

not_false : (b : Bool) → not b ≡ false → b ≡ true
not_false true e = refl
not_false false e = cc

on_named : (call : Call) (n : ℕ) → named_by call ≡ Some n → is_on n call ≡ true
on_named call n e = ap (λ o. list_any (λ m. m == n) (option_to_list o ++ gifts call ++ chosen call)) e ∙ ap (λ b. b || list_any (λ m. m == n) (gifts call ++ chosen call)) (itself n)

and_false : (a b : Bool) → a ≡ true → (a && b) ≡ false → b ≡ false
and_false true b e f = f
and_false false b e f = cc

in_before : {X : Type 0} (xs ys : List X) (x : X) → In x xs → In x (xs ++ ys)
in_before [] ys x i = absurd i
in_before (y ∷ xs) ys x (inl same) = inl same
in_before (y ∷ xs) ys x (inr i) = inr (in_before xs ys x i)

in_behind : {X : Type 0} (xs ys : List X) (x : X) → In x ys → In x (xs ++ ys)
in_behind [] ys x i = i
in_behind (y ∷ xs) ys x i = inr (in_behind xs ys x i)

-- what is refused of a call but a handshake and an end
abbrev firsts : Call → Bool → Held → List Errno
firsts call busy s =
    if_some (message_of call) [] (λ m. option_to_list (send_fault m busy s))
    ++ if_some (line_said call) [] (λ said. option_to_list (line_fault (is_first said) busy s) ++ option_to_list (fault_of said))
    ++ if_some (asked call) [] (λ want. option_to_list (read_fault want busy s))
    ++ if_some (layer_of call) [] (λ layer. option_to_list (attach_fault layer false s))
    ++ if_some (parting_of call) [] (λ parting. option_to_list (detach_fault parting false s))

in_handshake : (call : Call) (busy : Bool) (s : Held) (e : Errno) → handshake_fault call s ≡ Some e → In e (faults_by call busy s)
in_handshake call busy s e f = in_before (firsts call busy s ++ option_to_list (handshake_fault call s)) (if is_end (word_of call) then option_to_list (done_fault busy s) else []) e (in_behind (firsts call busy s) (option_to_list (handshake_fault call s)) e (subst (λ o. In e (option_to_list o)) (sym f) (inl refl)))

-- an errno that stacks refuse with is in the order
abbrev pub Listed : Errno → Type 0
Listed e = In e order × (is_same e e ≡ true)

fault_listed : (invalid busy over broken long : Bool) (e : Errno) → first_fault invalid busy over broken long ≡ Some e → Listed e
fault_listed true busy over broken long e f = subst Listed (some_is errnos.Einval e f) (inr (inr (inr (inl refl))), refl)
fault_listed false true over broken long e f = subst Listed (some_is errnos.Ebusy e f) (inr (inr (inr (inr (inl refl)))), refl)
fault_listed false false true broken long e f = subst Listed (some_is errnos.Epipe e f) (inr (inr (inr (inr (inr (inl refl))))), refl)
fault_listed false false false true long e f = subst Listed (some_is errnos.Econnreset e f) (inr (inr (inr (inr (inr (inr (inl refl)))))), refl)
fault_listed false false false false true e f = subst Listed (some_is errnos.Emsgsize e f) (inr (inr (inr (inr (inr (inr (inr (inl refl))))))), refl)
fault_listed false false false false false e f = cc

handshake_listed : (call : Call) (s : Held) (e : Errno) → handshake_fault call s ≡ Some e → Listed e
unfolding greet_fault
handshake_listed (calls.WsAttachClient number text resource host deadline) s e f = fault_listed _ false (is_done s) (is_broken s) _ e f
handshake_listed (calls.WsAttachServer number text deadline) s e f = fault_listed false false (is_done s) (is_broken s) false e f
handshake_listed _ s e f = cc

-- ---- what isn't refused

tried : (f : Errno → Bool) (b : Bool) (e : Errno) → In e giving_order → find f (if b then giving_order else order) ≡ None → f e ≡ false
tried f true e i g = find_none f giving_order g e i
tried f false e i g = find_none f order g e (all e i)
  where
    all : (x : Errno) → In x giving_order → In x order
    all x (inl a) = inr (inl a)
    all x (inr (inl a)) = inr (inr (inl a))
    all x (inr (inr (inl a))) = inr (inr (inr (inl a)))
    all x (inr (inr (inr (inl a)))) = inr (inr (inr (inr (inl a))))
    all x (inr (inr (inr (inr (inl a))))) = inr (inr (inr (inr (inr (inr (inr (inr (inl a))))))))
    all x (inr (inr (inr (inr (inr a))))) = absurd a

module _ {V : Type 0} where
  pub record Free (w : World V) (who : ℕ) (call : Call) : Type 0 where
    pub fit : Fit w call
    pub kinds : is_other_kind w call ≡ false
    pub tops : is_other_top w call ≡ false
    pub takes : list_any (cannot_take w who call) (taken_by call) ≡ false
    pub used : is_in_use w call ≡ false
    -- what the stack refuses is none of these
    pub stack : (e : Errno) → In e giving_order → is_refused_by_stack w call e ≡ false
    pub ends : gives_up (word_of call) ≡ false → (e : Errno) → In e order → is_refused_by_stack w call e ≡ false

  pub free : (p : Program V) (w : World V) (who : ℕ) (view : V) (call : Call) → refuse p w who view call ≡ None → Free w who call
  free p w who view call e = record {
    fit = fits p w who view call e;
    kinds = other.0;
    tops = (or_parts (is_other_top w call) (list_any (λ number. not (is_of_kind w 2 number)) (chosen call)) other.1).0;
    takes = busy.0;
    used = (or_parts (is_in_use w call) (is_closed_bundle w who call) (or_parts (is_occupied w call) (is_in_use w call || is_closed_bundle w who call) busy.1).1).0;
    stack = λ x i. (or_parts _ (is_refused_by_stack w call x) (tried (holds p w who view call) (gives_up (word_of call)) x i e)).1;
    ends = λ g x i. (or_parts _ (is_refused_by_stack w call x) (find_none (holds p w who view call) order (ap (λ b. find (holds p w who view call) (if b then giving_order else order)) (sym g) ∙ e) x i)).1;
  }
    where
      other : (is_other_kind w call ≡ false) × ((is_other_top w call || list_any (λ number. not (is_of_kind w 2 number)) (chosen call)) ≡ false)
      other = or_parts (is_other_kind w call) (is_other_top w call || list_any (λ number. not (is_of_kind w 2 number)) (chosen call)) (or_parts (names_other w call) (is_refused_by_stack w call errnos.Enotsup) (tried (holds p w who view call) (gives_up (word_of call)) errnos.Enotsup (inr (inl refl)) e)).0

      busy : (list_any (cannot_take w who call) (taken_by call) ≡ false) × ((is_occupied w call || (is_in_use w call || is_closed_bundle w who call)) ≡ false)
      busy =
          or_parts (list_any (cannot_take w who call) (taken_by call)) (is_occupied w call || (is_in_use w call || is_closed_bundle w who call))
          (or_parts (is_busy w who call) (is_refused_by_stack w call errnos.Ebusy) (tried (holds p w who view call) (gives_up (word_of call)) errnos.Ebusy (inr (inr (inr (inl refl)))) e)).0

  -- the top of its stack is the call's
  pub kind_asks : (w : World V) (call : Call) (kind l : ℕ) (x : Link) → is_other_kind w call ≡ false → kind_needed call ≡ Some kind → (3 == kind) ≡ false → On w call l → look w.links l ≡ Some x → Asks call x.stack.layers
  kind_asks w call kind l x free k three o i = by_kind kind k (of (entry_of w o.number) refl o.linked)
    where
      is : is_of_kind w kind o.number ≡ true
      is =
          not_false (is_of_kind w kind o.number)
          (sym (ap (λ q. if_some q false (λ number. if_some (kind_needed call) false (λ j. not (is_of_kind w j number)))) o.named ∙ ap (λ q. if_some q false (λ j. not (is_of_kind w j o.number))) k) ∙ free)

      thing : (t : Thing) → link_of t ≡ Some l → (kind_of w t == kind) ≡ true → (kind_of_top (top_of x.stack.layers) == kind) ≡ true
      thing (things.Socket m) f g =
          let same : m ≡ l = cc in
          ap (λ q. if_some q 0 kind_of_top == kind) (sym (ap (λ n. top_on w n) same ∙ ap (λ (q : Option Link). option_map (λ y. top y.stack) q) i)) ∙ g
      thing (things.Listener m) f g = absurd (true_false (3 == kind) g three)
      thing (things.Bundle name) f g = cc
      thing (things.End end) f g = cc
      thing (things.Value j value) f g = cc

      of : (q : Option (Entry Thing)) → entry_of w o.number ≡ q → if_some q None (λ y. link_of y.thing) ≡ Some l → (kind_of_top (top_of x.stack.layers) == kind) ≡ true
      of None e f = cc
      of (Some y) e f = thing y.thing f (sym (ap (λ q. if_some q false (λ (z : Entry Thing). kind_of w z.thing == kind)) e) ∙ is)

  pub top_asks : (w : World V) (call : Call) (test : Top → Bool) (l : ℕ) (x : Link) → is_other_top w call ≡ false → needs_top call ≡ Some test → On w call l → look w.links l ≡ Some x → Asks call x.stack.layers
  top_asks w call test l x free k o i = by_top test k (of (entry_of w o.number) refl o.linked)
    where
      thing : (t : Thing) → link_of t ≡ Some l → has_top w test t ≡ true → test (top_of x.stack.layers) ≡ true
      thing (things.Socket m) f g =
          let same : m ≡ l = cc in
          ap (λ q. if_some q false test) (sym (ap (λ n. top_on w n) same ∙ ap (λ (q : Option Link). option_map (λ y. top y.stack) q) i)) ∙ g
      thing (things.Listener m) f g = cc
      thing (things.Bundle name) f g = cc
      thing (things.End end) f g = cc
      thing (things.Value j value) f g = cc

      of : (q : Option (Entry Thing)) → entry_of w o.number ≡ q → if_some q None (λ y. link_of y.thing) ≡ Some l → test (top_of x.stack.layers) ≡ true
      of None e f = cc
      of (Some y) e f =
          thing y.thing f
          (not_false (has_top w test y.thing)
          (sym (ap (λ q. if_some q false (λ number. if_some (needs_top call) false (λ t. if_some (entry_of w number) false (λ z. not (has_top w t z.thing))))) o.named
          ∙ ap (λ q. if_some q false (λ t. if_some (entry_of w o.number) false (λ z. not (has_top w t z.thing)))) k
          ∙ ap (λ q. if_some q false (λ (z : Entry Thing). not (has_top w test z.thing))) e)
          ∙ free))

  -- of each call on a stack, and of each that attaches a layer
  pub asks : (w : World V) (who : ℕ) (call : Call) (l : ℕ) (x : Link) → Free w who call → (is_on_stack (word_of call) || is_some (layer_of call)) ≡ true → On w call l → look w.links l ≡ Some x → Asks call x.stack.layers
  asks w who (calls.TcpDone n deadline) l x f e o i = kind_asks w (calls.TcpDone n deadline) 4 l x f.kinds refl refl o i
  asks w who (calls.TcpClose n deadline) l x f e o i = kind_asks w (calls.TcpClose n deadline) 4 l x f.kinds refl refl o i
  asks w who (calls.Bsend n bytes deadline) l x f e o i = kind_asks w (calls.Bsend n bytes deadline) 4 l x f.kinds refl refl o i
  asks w who (calls.Brecv n size deadline) l x f e o i = kind_asks w (calls.Brecv n size deadline) 4 l x f.kinds refl refl o i
  asks w who (calls.Msend n bytes deadline) l x f e o i = kind_asks w (calls.Msend n bytes deadline) 5 l x f.kinds refl refl o i
  asks w who (calls.Mrecv n size deadline) l x f e o i = kind_asks w (calls.Mrecv n size deadline) 5 l x f.kinds refl refl o i
  asks w who (calls.PrefixAttach n size big) l x f e o i = kind_asks w (calls.PrefixAttach n size big) 4 l x f.kinds refl refl o i
  asks w who (calls.SuffixAttach n bytes) l x f e o i = kind_asks w (calls.SuffixAttach n bytes) 4 l x f.kinds refl refl o i
  asks w who (calls.TermAttach n bytes) l x f e o i = kind_asks w (calls.TermAttach n bytes) 5 l x f.kinds refl refl o i
  asks w who (calls.HttpAttach n) l x f e o i = kind_asks w (calls.HttpAttach n) 4 l x f.kinds refl refl o i
  asks w who (calls.WsAttachNohttp n client text) l x f e o i = kind_asks w (calls.WsAttachNohttp n client text) 4 l x f.kinds refl refl o i
  asks w who (calls.WsAttachClient n text resource host deadline) l x f e o i = kind_asks w (calls.WsAttachClient n text resource host deadline) 4 l x f.kinds refl refl o i
  asks w who (calls.WsAttachServer n text deadline) l x f e o i = kind_asks w (calls.WsAttachServer n text deadline) 4 l x f.kinds refl refl o i
  asks w who (calls.TermDone n deadline) l x f e o i = top_asks w (calls.TermDone n deadline) is_term l x f.tops refl o i
  asks w who (calls.PrefixDetach n) l x f e o i = top_asks w (calls.PrefixDetach n) is_prefix l x f.tops refl o i
  asks w who (calls.SuffixDetach n) l x f e o i = top_asks w (calls.SuffixDetach n) is_suffix l x f.tops refl o i
  asks w who (calls.TermDetach n deadline) l x f e o i = top_asks w (calls.TermDetach n deadline) is_term l x f.tops refl o i
  asks w who (calls.HttpSendrequest n command resource deadline) l x f e o i = top_asks w (calls.HttpSendrequest n command resource deadline) is_http l x f.tops refl o i
  asks w who (calls.HttpSendstatus n code reason deadline) l x f e o i = top_asks w (calls.HttpSendstatus n code reason deadline) is_http l x f.tops refl o i
  asks w who (calls.HttpSendfield n name value deadline) l x f e o i = top_asks w (calls.HttpSendfield n name value deadline) is_http l x f.tops refl o i
  asks w who (calls.HttpRecvrequest n deadline) l x f e o i = top_asks w (calls.HttpRecvrequest n deadline) is_http l x f.tops refl o i
  asks w who (calls.HttpRecvstatus n deadline) l x f e o i = top_asks w (calls.HttpRecvstatus n deadline) is_http l x f.tops refl o i
  asks w who (calls.HttpRecvfield n deadline) l x f e o i = top_asks w (calls.HttpRecvfield n deadline) is_http l x f.tops refl o i
  asks w who (calls.HttpDone n deadline) l x f e o i = top_asks w (calls.HttpDone n deadline) is_http l x f.tops refl o i
  asks w who (calls.HttpDetach n deadline) l x f e o i = top_asks w (calls.HttpDetach n deadline) is_http l x f.tops refl o i
  asks w who (calls.WsDetach n code reason deadline) l x f e o i = top_asks w (calls.WsDetach n code reason deadline) is_ws l x f.tops refl o i
  asks w who (calls.Pass word fault) l x f e o i = absurd (some_none None o.number refl o.named)
  asks w who _ l x f e o i = cc

  -- ---- nothing is pending that it could hinder

  pending_off : (w : World V) (test : Call → Bool) (other : ℕ) (more : Call) → is_pending w test ≡ false → Pends w other more → test more ≡ false
  pending_off w test other more e p = ap (λ q. if_some q false test) (sym p.mode) ∙ none_passes (λ (d : Coroutine V). if_some (pending_call d.mode) false test) w.coroutines e p.one p.there

  -- what a call takes is awaited by nobody
  pub taken_alone : (w : World V) (who : ℕ) (call : Call) (n other : ℕ) (more : Call) (l : ℕ) → Free w who call → is_hclose (word_of call) ≡ false → In n (taken_by call) → link_number w n ≡ Some l → Pends w other more → named_by more ≡ Some n → ⊥
  taken_alone w who call n other more l f h i linked p e = at (entry_of w n) refl linked (none_passes (cannot_take w who call) (taken_by call) f.takes n i)
    where
      at : (q : Option (Entry Thing)) → entry_of w n ≡ q → if_some q None (λ y. link_of y.thing) ≡ Some l → if_some q false (λ x. is_within w who call x.thing || (is_held_back w who x || (is_awaited w call n || is_cancelled_taker w who call x))) ≡ false → ⊥
      at None g k b = cc
      at (Some x) g k b =
          let one = or_parts (is_within w who call x.thing) (is_held_back w who x || (is_awaited w call n || is_cancelled_taker w who call x)) b in
          let two = or_parts (is_held_back w who x) (is_awaited w call n || is_cancelled_taker w who call x) one.1 in
          let three = (or_parts (is_awaited w call n) (is_cancelled_taker w who call x) two.1).0 in
          true_false (is_on n more) (on_named more n e) (pending_off w (is_on n) other more (and_false (not (is_hclose (word_of call))) (is_pending w (is_on n)) (ap not h) three) p)

  -- one send at a time
  pub send_second : (w : World V) (who : ℕ) (call : Call) (n other : ℕ) (more : Call) → Free w who call → named_by call ≡ Some n → is_send (word_of call) ≡ true → Pends w other more → is_send (word_of more) ≡ true → named_by more ≡ Some n → ⊥
  send_second w who call n other more f e s p t g =
      let used : (is_send (word_of call) && is_second w n is_send || (is_receive (word_of call) && is_second w n is_receive || is_accept (word_of call) && is_second w n is_accept)) ≡ false =
      ap (λ o. if_some o false (λ number. is_send (word_of call) && is_second w number is_send || (is_receive (word_of call) && is_second w number is_receive || is_accept (word_of call) && is_second w number is_accept))) (sym e) ∙ f.used in
      let one = (or_parts (is_send (word_of call) && is_second w n is_send) (is_receive (word_of call) && is_second w n is_receive || is_accept (word_of call) && is_second w n is_accept) used).0 in
      true_false (is_on n more) (on_named more n g) (and_false (is_send (word_of more)) (is_on n more) t (pending_off w (λ c. is_send (word_of c) && is_on n c) other more (and_false (is_send (word_of call)) (is_second w n is_send) s one) p))

  -- ---- what its stack refuses

  -- what a stack refuses of a call that isn't refused
  pub faults_off : (w : World V) (call : Call) (e : Errno) (l : ℕ) (x : Link) → On w call l → look w.links l ≡ Some x → is_refused_by_stack w call e ≡ false → In e (faults_by call (is_in_use w call) x.stack) → is_same e e ≡ true → ⊥
  faults_off w call e l x o i off there same =
      let stack : stack_of w call ≡ Some x.stack =
      ap (λ q. if_some q None (λ n. option_map (λ y. y.stack) (link_named w n))) o.named ∙ ap (λ q. option_map (λ (y : Link). y.stack) (if_some q None (look w.links))) o.linked ∙ ap (λ q. option_map (λ (y : Link). y.stack) q) i in
      let none : list_any (is_same e) (faults_by call (is_in_use w call) x.stack) ≡ false = sym (ap (λ q. if_some q false (λ s. list_any (is_same e) (faults_by call (is_in_use w call) s))) stack) ∙ off in
      true_false (is_same e e) same (none_passes (is_same e) (faults_by call (is_in_use w call) x.stack) none e there)

  -- a handshake isn't refused by its stack
  pub handshake_free : (w : World V) (who : ℕ) (call : Call) (l : ℕ) (x : Link) → Free w who call → gives_up (word_of call) ≡ false → On w call l → look w.links l ≡ Some x → handshake_fault call x.stack ≡ None
  handshake_free w who call l x f g o i = at (handshake_fault call x.stack) refl
    where
      at : (q : Option Errno) → handshake_fault call x.stack ≡ q → handshake_fault call x.stack ≡ None
      at None e = e
      at (Some fault) e =
          let k = handshake_listed call x.stack fault e in
          absurd (faults_off w call fault l x o i (f.ends g fault k.0) (in_handshake call (is_in_use w call) x.stack fault e) k.1)
