-- What a call that isn't refused finds on its stack.
use Rattle.std.proofs.Common.{◌≡◌, ◌∙◌, ℕ, Bool, true, false, not, ◌||◌, ◌==◌, List, [], ◌∷◌, ◌++◌, Option, Some, None, IfSome, find, cond, length, is_none, refl, sym, subst}
use Rattle.std.specs.Prelude.{nat_lt, option_map, option_to_list, if◌then◌else◌}
use Rattle.std.specs.List.{list_any}
use Rattle.std.proofs.lemmas.List.Folds.{list_any-append}
use Rattle.dill_base.specs.declared.errno.Errno.{Errno}
use Rattle.dill_base.specs.declared.errno.Errno.TheVariants as errnos
use Rattle.dill_base.specs.Maps.{if_some}
use Rattle.dill_calls.specs.declared.call.Call.{Call}
use Rattle.dill_calls.specs.declared.call.Call.TheVariants as calls
use Rattle.dill_calls.specs.CallTable.{word_of, gives_up, named_by}
use Rattle.dill_handles.specs.declared.entry.Entry.{Entry}
use Rattle.dill_calls.specs.Program.{Program}
use Rattle.dill_http.specs.Heads.{Said, is_right, line_of}
use Rattle.dill_http.specs.Lines.{line_limit}
use Rattle.dill_http.specs.Writing.{fault_of}
use Rattle.dill_stack.specs.declared.layer.Layer.{Layer}
use Rattle.dill_stack.specs.declared.layer.Layer.TheVariants as layers
use Rattle.dill_stack.specs.declared.parting.Parting.{Parting}
use Rattle.dill_stack.specs.Held.{Held}
use Rattle.dill_stack.specs.Layers.{Placed, Prefix, Suffix, Term, Http, Ws, top_of}
use Rattle.dill_stack.specs.Refusals.{is_allowed_parting, first_fault, send_fault, line_fault, done_fault, read_fault, attach_fault, detach_fault}
use Rattle.dill_stack.specs.Standing.{FitsBelow}
use Rattle.dill_rules.specs.declared.thing.Thing.{Thing}
use Rattle.dill_rules.specs.declared.thing.Thing.TheVariants as things
use Rattle.dill_rules.specs.Directions.{kind_of_top, is_handshake, is_first, is_end, message_of, asked, layer_of, line_said, parting_of}
use Rattle.dill_rules.specs.Kinds.{kind_needed, kind_of, is_of_kind, is_other_kind}
use Rattle.dill_rules.specs.Links.{Link, look}
use Rattle.dill_rules.specs.Owning.{entry_of}
use Rattle.dill_rules.specs.Refusals.{is_same, order, giving_order, holds, holds_of_itself, is_in_use, is_refused_by_stack}
use Rattle.dill_rules.specs.Sockets.{link_of, link_named, faults_by, handshake_fault}
use Rattle.dill_rules.specs.World.{World}
use Rattle.dill_sockets.specs.Faults.{spelling_fault}
use Rattle.dill_sockets.specs.Free.{IsFree}

-- one of two that don't hold
pub right_false : (a b : Bool) → (a || b) ≡ false → b ≡ false
right_false true b e = cc
right_false false b e = e

pub left_false : (a b : Bool) → (a || b) ≡ false → a ≡ false
left_false true b e = e
left_false false b e = refl

module _ (test : Errno → Bool) where
  tail_at : (x : Errno) (b : Bool) (rest : Option Errno) → cond b (Some x) rest ≡ None → rest ≡ None
  tail_at x true rest none = cc
  tail_at x false rest none = none

  head_at : (x : Errno) (b : Bool) (rest : Option Errno) → cond b (Some x) rest ≡ None → b ≡ false
  head_at x true rest none = cc
  head_at x false rest none = refl

  -- who is in a list of which none passes doesn't pass
  pub among : (front : List Errno) (e : Errno) (back : List Errno) → find test (front ++ e ∷ back) ≡ None → test e ≡ false
  among [] e back none = head_at e (test e) (find test back) none
  among (x ∷ front) e back none = among front e back (tail_at x (test x) (find test (front ++ e ∷ back)) none)

  -- in either order of refusals
  pub no_einval : (b : Bool) → find test (if b then giving_order else order) ≡ None → test errnos.Einval ≡ false
  no_einval true none = among (errnos.Ebadf ∷ errnos.Enotsup ∷ []) errnos.Einval (errnos.Ebusy ∷ errnos.Emfile ∷ []) none
  no_einval false none = among (errnos.Ecanceled ∷ errnos.Ebadf ∷ errnos.Enotsup ∷ []) errnos.Einval (errnos.Ebusy ∷ errnos.Epipe ∷ errnos.Econnreset ∷ errnos.Emsgsize ∷ errnos.Emfile ∷ []) none

  pub no_enotsup : (b : Bool) → find test (if b then giving_order else order) ≡ None → test errnos.Enotsup ≡ false
  no_enotsup true none = among (errnos.Ebadf ∷ []) errnos.Enotsup (errnos.Einval ∷ errnos.Ebusy ∷ errnos.Emfile ∷ []) none
  no_enotsup false none = among (errnos.Ecanceled ∷ errnos.Ebadf ∷ []) errnos.Enotsup (errnos.Einval ∷ errnos.Ebusy ∷ errnos.Epipe ∷ errnos.Econnreset ∷ errnos.Emsgsize ∷ errnos.Emfile ∷ []) none

  pub no_emsgsize : (b : Bool) → b ≡ false → find test (if b then giving_order else order) ≡ None → test errnos.Emsgsize ≡ false
  no_emsgsize true is none = cc
  no_emsgsize false is none = among (errnos.Ecanceled ∷ errnos.Ebadf ∷ errnos.Enotsup ∷ errnos.Einval ∷ errnos.Ebusy ∷ errnos.Epipe ∷ errnos.Econnreset ∷ []) errnos.Emsgsize (errnos.Emfile ∷ []) none

-- a part of a list of which none passes
pub front_free : (e : Errno) (xs ys : List Errno) → list_any (is_same e) (xs ++ ys) ≡ false → list_any (is_same e) xs ≡ false
front_free e xs ys none = left_false (list_any (is_same e) xs) (list_any (is_same e) ys) (sym (list_any-append (is_same e) xs ys) ∙ none)

pub back_free : (e : Errno) (xs ys : List Errno) → list_any (is_same e) (xs ++ ys) ≡ false → list_any (is_same e) ys ≡ false
back_free e xs ys none = right_false (list_any (is_same e) xs) (list_any (is_same e) ys) (sym (list_any-append (is_same e) xs ys) ∙ none)

spelled_at : (right long : Bool) → (let fault : Option Errno = if right then (if long then Some errnos.Emsgsize else None) else Some errnos.Einval in list_any (is_same errnos.Einval) (option_to_list fault) ≡ false → list_any (is_same errnos.Emsgsize) (option_to_list fault) ≡ false → fault ≡ None)
spelled_at true true einval emsgsize = cc
spelled_at true false einval emsgsize = refl
spelled_at false long einval emsgsize = cc

-- the line of a call has a spelling, where neither errno is in the list
pub spelled_in : (o : Option Said) (xs : List Errno) (g : Said → List Errno) → list_any (is_same errnos.Einval) (xs ++ if_some o [] (λ said. g said ++ option_to_list (fault_of said))) ≡ false → ((said : Said) → o ≡ Some said → list_any (is_same errnos.Emsgsize) (xs ++ if_some o [] (λ said. g said ++ option_to_list (fault_of said))) ≡ false) → if_some o None fault_of ≡ None
spelled_in None xs g einval emsgsize = refl
spelled_in (Some said) xs g einval emsgsize =
    let own = g said ++ option_to_list (fault_of said) in
    spelled_at (is_right said) (nat_lt line_limit (length (line_of said)))
    (back_free errnos.Einval (g said) (option_to_list (fault_of said)) (back_free errnos.Einval xs own einval))
    (back_free errnos.Emsgsize (g said) (option_to_list (fault_of said)) (back_free errnos.Emsgsize xs own (emsgsize said refl)))

parting_at : (allowed : Bool) → list_any (is_same errnos.Einval) (option_to_list (first_fault (not allowed) false false false false)) ≡ false → allowed ≡ true
parting_at true einval = refl
parting_at false einval = cc

-- the close frame of a call may be sent
pub allowed_in : (o : Option Parting) (s : Held) → list_any (is_same errnos.Einval) (if_some o [] (λ parting. option_to_list (detach_fault parting false s))) ≡ false → IfSome o (λ parting. is_allowed_parting parting ≡ true)
unfolding detach_fault
allowed_in None s einval = tt
allowed_in (Some parting) s einval = parting_at (is_allowed_parting parting) einval

-- the kind of a socket that a layer is put on
abbrev kind_below : Layer → ℕ
kind_below (layers.Term terminal) = 5
kind_below (layers.Prefix form) = 4
kind_below (layers.Suffix end) = 4
kind_below layers.Http = 4
kind_below (layers.Ws side text) = 4

not_three : (layer : Layer) → (3 == kind_below layer) ≡ false
not_three (layers.Prefix form) = refl
not_three (layers.Suffix end) = refl
not_three (layers.Term terminal) = refl
not_three layers.Http = refl
not_three (layers.Ws side text) = refl

-- a layer on a socket of its kind
below : (layer : Layer) (ls : List Placed) → (kind_of_top (top_of ls) == kind_below layer) ≡ true → FitsBelow layer ls
below (layers.Prefix form) [] is = refl
below (layers.Prefix form) (Prefix f ∷ ls) is = cc
below (layers.Prefix form) (Suffix e ∷ ls) is = cc
below (layers.Prefix form) (Term t ∷ ls) is = cc
below (layers.Prefix form) (Http h ∷ ls) is = cc
below (layers.Prefix form) (Ws w ∷ ls) is = cc
below (layers.Suffix end) [] is = refl
below (layers.Suffix end) (Prefix f ∷ ls) is = cc
below (layers.Suffix end) (Suffix e ∷ ls) is = cc
below (layers.Suffix end) (Term t ∷ ls) is = cc
below (layers.Suffix end) (Http h ∷ ls) is = cc
below (layers.Suffix end) (Ws w ∷ ls) is = cc
below (layers.Term terminal) [] is = cc
below (layers.Term terminal) (Prefix f ∷ ls) is = tt
below (layers.Term terminal) (Suffix e ∷ ls) is = tt
below (layers.Term terminal) (Term t ∷ ls) is = tt
below (layers.Term terminal) (Http h ∷ ls) is = cc
below (layers.Term terminal) (Ws w ∷ ls) is = tt
below layers.Http [] is = refl
below layers.Http (Prefix f ∷ ls) is = cc
below layers.Http (Suffix e ∷ ls) is = cc
below layers.Http (Term t ∷ ls) is = cc
below layers.Http (Http h ∷ ls) is = cc
below layers.Http (Ws w ∷ ls) is = cc
below (layers.Ws side text) [] is = refl
below (layers.Ws side text) (Prefix f ∷ ls) is = cc
below (layers.Ws side text) (Suffix e ∷ ls) is = cc
below (layers.Ws side text) (Term t ∷ ls) is = cc
below (layers.Ws side text) (Http h ∷ ls) is = cc
below (layers.Ws side text) (Ws w ∷ ls) is = cc

-- a call that attaches a layer needs its kind
kind_for : (call : Call) → IfSome (layer_of call) (λ layer. kind_needed call ≡ Some (kind_below layer))
kind_for (calls.Print bytes) = tt
kind_for calls.Now = tt
kind_for calls.Yield = tt
kind_for (calls.Msleep deadline) = tt
kind_for (calls.Hmake n1 n2) = tt
kind_for (calls.Hquery n1 n2) = tt
kind_for (calls.Hown n) = tt
kind_for (calls.Hclose n) = tt
kind_for calls.Bundle = tt
kind_for (calls.Go program args) = tt
kind_for (calls.BundleGo n program args) = tt
kind_for (calls.BundleWait n deadline) = tt
kind_for calls.Chmake = tt
kind_for (calls.Chsend n bytes deadline) = tt
kind_for (calls.Chrecv n1 n2 deadline) = tt
kind_for (calls.Chdone n) = tt
kind_for (calls.Choose deadline clauses) = tt
kind_for (calls.TcpListen address n) = tt
kind_for (calls.TcpAccept n deadline) = tt
kind_for (calls.TcpConnect address deadline) = tt
kind_for (calls.TcpDone n deadline) = tt
kind_for (calls.TcpClose n deadline) = tt
kind_for (calls.Bsend n bytes deadline) = tt
kind_for (calls.Brecv n1 n2 deadline) = tt
kind_for (calls.Msend n bytes deadline) = tt
kind_for (calls.Mrecv n1 n2 deadline) = tt
kind_for (calls.PrefixAttach n1 n2 flag) = refl
kind_for (calls.SuffixAttach n bytes) = refl
kind_for (calls.TermAttach n bytes) = refl
kind_for (calls.TermDone n deadline) = tt
kind_for (calls.PrefixDetach n) = tt
kind_for (calls.SuffixDetach n) = tt
kind_for (calls.TermDetach n deadline) = tt
kind_for (calls.HttpAttach n) = refl
kind_for (calls.HttpSendrequest n bytes1 bytes2 deadline) = tt
kind_for (calls.HttpSendstatus n1 n2 bytes deadline) = tt
kind_for (calls.HttpSendfield n bytes1 bytes2 deadline) = tt
kind_for (calls.HttpRecvrequest n deadline) = tt
kind_for (calls.HttpRecvstatus n deadline) = tt
kind_for (calls.HttpRecvfield n deadline) = tt
kind_for (calls.HttpDone n deadline) = tt
kind_for (calls.HttpDetach n deadline) = tt
kind_for (calls.WsAttachClient n flag bytes1 bytes2 deadline) = tt
kind_for (calls.WsAttachServer n flag deadline) = tt
kind_for (calls.WsAttachNohttp n flag1 flag2) = refl
kind_for (calls.WsDetach n1 n2 bytes deadline) = tt
kind_for (calls.Pass word fault) = tt

fits_in : (o : Option Layer) (k : Option ℕ) (ls : List Placed) → IfSome o (λ layer. k ≡ Some (kind_below layer)) → ((kind : ℕ) → (3 == kind) ≡ false → k ≡ Some kind → (kind_of_top (top_of ls) == kind) ≡ true) → IfSome o (λ layer. FitsBelow layer ls)
fits_in None k ls is found = tt
fits_in (Some layer) k ls is found = below layer ls (found (kind_below layer) (not_three layer) is)

-- so does a handshake
shake_needs : (call : Call) → is_none (named_by call) ≡ false → is_handshake (word_of call) ≡ true → kind_needed call ≡ Some 4
shake_needs (calls.Print bytes) named is = cc
shake_needs calls.Now named is = cc
shake_needs calls.Yield named is = cc
shake_needs (calls.Msleep deadline) named is = cc
shake_needs (calls.Hmake n1 n2) named is = cc
shake_needs (calls.Hquery n1 n2) named is = cc
shake_needs (calls.Hown n) named is = cc
shake_needs (calls.Hclose n) named is = cc
shake_needs calls.Bundle named is = cc
shake_needs (calls.Go program args) named is = cc
shake_needs (calls.BundleGo n program args) named is = cc
shake_needs (calls.BundleWait n deadline) named is = cc
shake_needs calls.Chmake named is = cc
shake_needs (calls.Chsend n bytes deadline) named is = cc
shake_needs (calls.Chrecv n1 n2 deadline) named is = cc
shake_needs (calls.Chdone n) named is = cc
shake_needs (calls.Choose deadline clauses) named is = cc
shake_needs (calls.TcpListen address n) named is = cc
shake_needs (calls.TcpAccept n deadline) named is = cc
shake_needs (calls.TcpConnect address deadline) named is = cc
shake_needs (calls.TcpDone n deadline) named is = cc
shake_needs (calls.TcpClose n deadline) named is = cc
shake_needs (calls.Bsend n bytes deadline) named is = cc
shake_needs (calls.Brecv n1 n2 deadline) named is = cc
shake_needs (calls.Msend n bytes deadline) named is = cc
shake_needs (calls.Mrecv n1 n2 deadline) named is = cc
shake_needs (calls.PrefixAttach n1 n2 flag) named is = cc
shake_needs (calls.SuffixAttach n bytes) named is = cc
shake_needs (calls.TermAttach n bytes) named is = cc
shake_needs (calls.TermDone n deadline) named is = cc
shake_needs (calls.PrefixDetach n) named is = cc
shake_needs (calls.SuffixDetach n) named is = cc
shake_needs (calls.TermDetach n deadline) named is = cc
shake_needs (calls.HttpAttach n) named is = cc
shake_needs (calls.HttpSendrequest n bytes1 bytes2 deadline) named is = cc
shake_needs (calls.HttpSendstatus n1 n2 bytes deadline) named is = cc
shake_needs (calls.HttpSendfield n bytes1 bytes2 deadline) named is = cc
shake_needs (calls.HttpRecvrequest n deadline) named is = cc
shake_needs (calls.HttpRecvstatus n deadline) named is = cc
shake_needs (calls.HttpRecvfield n deadline) named is = cc
shake_needs (calls.HttpDone n deadline) named is = cc
shake_needs (calls.HttpDetach n deadline) named is = cc
shake_needs (calls.WsAttachClient n flag bytes1 bytes2 deadline) named is = refl
shake_needs (calls.WsAttachServer n flag deadline) named is = refl
shake_needs (calls.WsAttachNohttp n flag1 flag2) named is = cc
shake_needs (calls.WsDetach n1 n2 bytes deadline) named is = cc
shake_needs (calls.Pass word fault) named is = cc

-- no line gives a stack up
says_stays : (call : Call) (said : Said) → line_said call ≡ Some said → gives_up (word_of call) ≡ false
says_stays (calls.Print bytes) said is = cc
says_stays calls.Now said is = cc
says_stays calls.Yield said is = cc
says_stays (calls.Msleep deadline) said is = cc
says_stays (calls.Hmake n1 n2) said is = cc
says_stays (calls.Hquery n1 n2) said is = cc
says_stays (calls.Hown n) said is = cc
says_stays (calls.Hclose n) said is = cc
says_stays calls.Bundle said is = cc
says_stays (calls.Go program args) said is = cc
says_stays (calls.BundleGo n program args) said is = cc
says_stays (calls.BundleWait n deadline) said is = cc
says_stays calls.Chmake said is = cc
says_stays (calls.Chsend n bytes deadline) said is = cc
says_stays (calls.Chrecv n1 n2 deadline) said is = cc
says_stays (calls.Chdone n) said is = cc
says_stays (calls.Choose deadline clauses) said is = cc
says_stays (calls.TcpListen address n) said is = cc
says_stays (calls.TcpAccept n deadline) said is = cc
says_stays (calls.TcpConnect address deadline) said is = cc
says_stays (calls.TcpDone n deadline) said is = cc
says_stays (calls.TcpClose n deadline) said is = cc
says_stays (calls.Bsend n bytes deadline) said is = cc
says_stays (calls.Brecv n1 n2 deadline) said is = cc
says_stays (calls.Msend n bytes deadline) said is = cc
says_stays (calls.Mrecv n1 n2 deadline) said is = cc
says_stays (calls.PrefixAttach n1 n2 flag) said is = cc
says_stays (calls.SuffixAttach n bytes) said is = cc
says_stays (calls.TermAttach n bytes) said is = cc
says_stays (calls.TermDone n deadline) said is = cc
says_stays (calls.PrefixDetach n) said is = cc
says_stays (calls.SuffixDetach n) said is = cc
says_stays (calls.TermDetach n deadline) said is = cc
says_stays (calls.HttpAttach n) said is = cc
says_stays (calls.HttpSendrequest n bytes1 bytes2 deadline) said is = refl
says_stays (calls.HttpSendstatus n1 n2 bytes deadline) said is = refl
says_stays (calls.HttpSendfield n bytes1 bytes2 deadline) said is = refl
says_stays (calls.HttpRecvrequest n deadline) said is = cc
says_stays (calls.HttpRecvstatus n deadline) said is = cc
says_stays (calls.HttpRecvfield n deadline) said is = cc
says_stays (calls.HttpDone n deadline) said is = cc
says_stays (calls.HttpDetach n deadline) said is = cc
says_stays (calls.WsAttachClient n flag bytes1 bytes2 deadline) said is = cc
says_stays (calls.WsAttachServer n flag deadline) said is = cc
says_stays (calls.WsAttachNohttp n flag1 flag2) said is = cc
says_stays (calls.WsDetach n1 n2 bytes deadline) said is = cc
says_stays (calls.Pass word fault) said is = cc

is_named : (o : Option ℕ) (s : Held) (f : ℕ → Option Held) → if_some o None f ≡ Some s → is_none o ≡ false
is_named None s f there = cc
is_named (Some number) s f there = refl

not_false : (b : Bool) → not b ≡ false → b ≡ true
not_false true e = refl
not_false false e = cc

link_at : (o : Option Link) (kind : ℕ) (s : Held) → option_map (λ x. x.stack) o ≡ Some s → (if_some (option_map (λ x. top_of x.stack.layers) o) 0 kind_of_top == kind) ≡ true → (kind_of_top (top_of s.layers) == kind) ≡ true
link_at None kind s there is = cc
link_at (Some x) kind s there is =
    let same : x.stack ≡ s = cc in
    subst (λ (h : Held). (kind_of_top (top_of h.layers) == kind) ≡ true) same is

module _ {V : Type 0} (w : World V) (kind : ℕ) (s : Held) (not_three : (3 == kind) ≡ false) where
  thing_at : (t : Thing) → option_map (λ x. x.stack) (if_some (link_of t) None (look w.links)) ≡ Some s → (kind_of w t == kind) ≡ true → (kind_of_top (top_of s.layers) == kind) ≡ true
  thing_at (things.Bundle name) there is = cc
  thing_at (things.End end) there is = cc
  thing_at (things.Listener link) there is = cc
  thing_at (things.Socket link) there is = link_at (look w.links link) kind s there is
  thing_at (things.Value n value) there is = cc

  entry_at : (e : Option (Entry Thing)) → option_map (λ x. x.stack) (if_some (if_some e None (λ x. link_of x.thing)) None (look w.links)) ≡ Some s → if_some e false (λ x. kind_of w x.thing == kind) ≡ true → (kind_of_top (top_of s.layers) == kind) ≡ true
  entry_at None there is = cc
  entry_at (Some x) there is = thing_at x.thing there is

  named_at : (o k : Option ℕ) → k ≡ Some kind → if_some o None (λ number. option_map (λ x. x.stack) (link_named w number)) ≡ Some s → if_some o false (λ number. if_some k false (λ kind. not (is_of_kind w kind number))) ≡ false → (kind_of_top (top_of s.layers) == kind) ≡ true
  named_at None k needed there is = cc
  named_at (Some number) k needed there is = entry_at (entry_of w number) there (not_false (is_of_kind w kind number) (rw needed at is))

-- what a stack refuses of a call, part by part
abbrev of_line : Call → Bool → Held → List Errno
of_line call busy s = if_some (message_of call) [] (λ m. option_to_list (send_fault m busy s)) ++ if_some (line_said call) [] (λ said. option_to_list (line_fault (is_first said) busy s) ++ option_to_list (fault_of said))

abbrev of_want : Call → Bool → Held → List Errno
of_want call busy s = if_some (asked call) [] (λ want. option_to_list (read_fault want busy s))

abbrev of_layer : Call → Held → List Errno
of_layer call s = if_some (layer_of call) [] (λ layer. option_to_list (attach_fault layer false s))

abbrev of_parting : Call → Held → List Errno
of_parting call s = if_some (parting_of call) [] (λ parting. option_to_list (detach_fault parting false s))

abbrev of_end : Call → Bool → Held → List Errno
of_end call busy s = if is_end (word_of call) then option_to_list (done_fault busy s) else []

module _ (e : Errno) (call : Call) (busy : Bool) (s : Held) (none : list_any (is_same e) (faults_by call busy s) ≡ false) where
  but_end : list_any (is_same e) (of_line call busy s ++ of_want call busy s ++ of_layer call s ++ of_parting call s) ≡ false
  but_end =
      let most = of_line call busy s ++ of_want call busy s ++ of_layer call s ++ of_parting call s in
      front_free e most (option_to_list (handshake_fault call s)) (front_free e (most ++ option_to_list (handshake_fault call s)) (of_end call busy s) none)

  line_free : list_any (is_same e) (of_line call busy s) ≡ false
  line_free = front_free e (of_line call busy s) (of_want call busy s) (front_free e (of_line call busy s ++ of_want call busy s) (of_layer call s) (front_free e (of_line call busy s ++ of_want call busy s ++ of_layer call s) (of_parting call s) but_end))

  parting_free : list_any (is_same e) (of_parting call s) ≡ false
  parting_free = back_free e (of_line call busy s ++ of_want call busy s ++ of_layer call s) (of_parting call s) but_end

module _ {V : Type 0} (p : Program V) (w : World V) (who : ℕ) (view : V) (call : Call) (s : Held) (free : IsFree p w who view call s) where
  of_stack : (e : Errno) → holds p w who view call e ≡ false → list_any (is_same e) (faults_by call (is_in_use w call) s) ≡ false
  of_stack e none = rw free.there at (right_false (holds_of_itself p w who view call e) (is_refused_by_stack w call e) none)

  einval_free : list_any (is_same errnos.Einval) (faults_by call (is_in_use w call) s) ≡ false
  einval_free = of_stack errnos.Einval (no_einval (holds p w who view call) (gives_up (word_of call)) free.refused)

  emsgsize_free : gives_up (word_of call) ≡ false → list_any (is_same errnos.Emsgsize) (faults_by call (is_in_use w call) s) ≡ false
  emsgsize_free stays = of_stack errnos.Emsgsize (no_emsgsize (holds p w who view call) (gives_up (word_of call)) stays free.refused)

  pub spelled : spelling_fault call ≡ None
  spelled =
      let busy = is_in_use w call in
      spelled_in (line_said call) (if_some (message_of call) [] (λ m. option_to_list (send_fault m busy s))) (λ said. option_to_list (line_fault (is_first said) busy s))
      (line_free errnos.Einval call busy s einval_free) (λ said is. line_free errnos.Emsgsize call busy s (emsgsize_free (says_stays call said is)))

  pub allowed : IfSome (parting_of call) (λ parting. is_allowed_parting parting ≡ true)
  allowed = allowed_in (parting_of call) s (parting_free errnos.Einval call (is_in_use w call) s einval_free)

  kind_free : is_other_kind w call ≡ false
  kind_free = left_false _ _ (left_false _ _ (no_enotsup (holds p w who view call) (gives_up (word_of call)) free.refused))

  of_kind : (kind : ℕ) → (3 == kind) ≡ false → kind_needed call ≡ Some kind → (kind_of_top (top_of s.layers) == kind) ≡ true
  of_kind kind not_three needed = named_at w kind s not_three (named_by call) (kind_needed call) needed free.there kind_free

  pub fits : IfSome (layer_of call) (λ layer. FitsBelow layer s.layers)
  fits = fits_in (layer_of call) (kind_needed call) s.layers (kind_for call) of_kind

  pub bare : is_handshake (word_of call) ≡ true → s.layers ≡ []
  bare is = below layers.Http s.layers (of_kind 4 refl (shake_needs call (is_named (named_by call) s (λ number. option_map (λ x. x.stack) (link_named w number)) free.there) is))
