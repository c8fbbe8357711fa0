-- What each call keeps of a network: it stays consistent, with the same cut and no more links than it makes.
use Rattle.std.proofs.Common.{◌≡◌, ℕ, ◌+◌, ◌<◌, ◌≤◌, suc, Bool, true, false, not, ◌&&◌, ◌||◌, ◌==◌, List, [], ◌∷◌, ◌++◌, map, filter, length, length-append, take, drop, min, nat_le, cond, Option, Some, None, is_some, refl, sym, ◌∙◌, ap, arith, if◌then◌else◌, vec_capacity, subst, ◌⊎◌, inl, inr}
use Rattle.std.specs.List.{list_any}
use Rattle.dill_base.specs.Maps.{change}
use Rattle.dill_base.specs.declared.status.Address.{Address}
use Rattle.dill_kernel.specs.declared.ready.Limit.{Limit}
use Rattle.dill_kernel.specs.declared.ready.Limit.TheVariants.{NoWait, Until, Forever}
use Rattle.dill_kernel.specs.declared.replies.KernelFault.TheVariants.{Refused, InUse, Reset, Other}
use Rattle.dill_kernel.specs.declared.replies.KernelReply.TheVariants.{Woke, Done, NotYet, Took, Failed}
use Rattle.dill_loop.specs.Network.{is_at, Network, Listener, Pair, Place, Queued, Live, Closed, capacity, is_closed, has_end, waits_at, stream_at, listener_at, is_there, listener_with, is_same_address, queue_of, own_end, other_end, with_own, with_other, with_stream, with_mark}
use Rattle.dill_loop.specs.Calls.{unchanged, read_nothing, told, waited, most_told, listened, connected, dialed_by, dialed_to, with_dialed, new_end, accepted, taken_from, linked, written, written_by, written_to, fitting, with_held, read, read_by, read_piece, without_front, shut, shut_by, with_shut, closed, closed_by, closed_end, is_over, without_link, stream_closed, listener_closed, refused_at, with_refused_marks}
use Rattle.dill_loop.specs.Consistent.{has_link, IsConsistent, most_links, HasRoom}
use Rattle.dill_loop.specs.Store.{network_of}
use Rattle.dill_loop.specs.declared.network.Net.{Net}
use Rattle.dill_loop.proofs.Telling.{other_of, or_left, or_right, or_both}
use Rattle.dill_loop.proofs.Rising.{rising_marked, among_marked, among_more, rising_filter, among_filter, rising_drop, among_drop, most_marks}
use Rattle.dill_loop.proofs.Ends.{any_changed, any_first, any_found, any_filter, any_map, any_more, at_live, not_over, own_stays, other_stays, other_there, other_left, closed_stays, linked_stays, refused_stays}

-- a network after a call that makes at most so many links
pub record Keeps (more : ℕ) (old new : Network) : Type 0 where
  pub consistent : IsConsistent new
  pub cut : new.cut ≡ old.cut
  pub most : most_links new ≤ most_links old + more

pub keeps_same : (more : ℕ) (net : Network) → IsConsistent net → Keeps more net net
keeps_same more net s = record { consistent = s; cut = refl; most = omega arith }

-- a mark of a link that is there
pub keeps_marked : (more : ℕ) (old : Network) (read write : Bool) (place : Place) (net : Network) → ((l : ℕ) → place ≡ Live l → has_link l net ≡ true) → Keeps more old net → Keeps more old (with_mark read write place net)
keeps_marked more old read write (Queued n) net f k = k
keeps_marked more old read write (Live link) net f k = record {
  consistent = record {
    rising = rising_marked (record { link = link; read = read; write = write }) 0 net.marks (omega arith) k.consistent.rising;
    there = among_marked (λ x. has_link x net) (record { link = link; read = read; write = write }) net.marks (f link refl) k.consistent.there;
  };
  cut = k.cut;
  most = k.most;
}
keeps_marked more old read write Closed net f k = k

-- ---- wait

waited_keeps : (limit : Limit) (net : Network) → IsConsistent net → Keeps 0 net (waited limit net).after
waited_keeps NoWait net s = keeps_same 0 net s
waited_keeps (Until due) net s = record { consistent = record { rising = s.rising; there = s.there }; cut = refl; most = omega arith }
waited_keeps Forever net s = keeps_same 0 net s

told_by : (limit : Limit) (net : Network) (b : Bool) → IsConsistent net → Keeps 0 net (if b then waited limit net else record { after = record net { marks = drop most_told net.marks }; reply = Woke net.moment (take most_told net.marks) }).after
told_by limit net true s = waited_keeps limit net s
told_by limit net false s = record {
  consistent = record { rising = rising_drop most_told 0 net.marks s.rising; there = among_drop (λ x. has_link x net) most_told net.marks s.there };
  cut = refl;
  most = omega arith;
}

-- ---- making links

more_listeners : (net : Network) (l : Listener) → IsConsistent net → IsConsistent (record net { listeners = net.listeners ++ l ∷ [] })
more_listeners net l s = record {
  rising = s.rising;
  there = among_more (λ x. has_link x net) (λ x. has_link x (record net { listeners = net.listeners ++ l ∷ [] })) (λ x h. or_both (list_any (λ k. k.link == x) net.listeners) (list_any (has_end x) net.pairs) (list_any (λ k. k.link == x) (net.listeners ++ l ∷ [])) (list_any (has_end x) net.pairs) (any_more (λ k. k.link == x) net.listeners (l ∷ [])) (λ e. e) h) net.marks s.there;
}

-- the same links, or more, at streams
other_pairs : (net : Network) (ps : List Pair) → ((x : ℕ) → list_any (has_end x) net.pairs ≡ true → list_any (has_end x) ps ≡ true) → IsConsistent net → IsConsistent (record net { pairs = ps })
other_pairs net ps f s = record {
  rising = s.rising;
  there = among_more (λ x. has_link x net) (λ x. has_link x (record net { pairs = ps })) (λ x h. or_both (list_any (λ k. k.link == x) net.listeners) (list_any (has_end x) net.pairs) (list_any (λ k. k.link == x) net.listeners) (list_any (has_end x) ps) (λ e. e) (f x) h) net.marks s.there;
}

length_changed_by : {X : Type 0} (f : X → X) (x : X) (b : Bool) (xs ys : List X) → length ys ≡ length xs → length (cond b (f x ∷ xs) (x ∷ ys)) ≡ suc (length xs)
length_changed_by f x true xs ys e = refl
length_changed_by f x false xs ys e = ap suc e

pub length_changed : {X : Type 0} (test : X → Bool) (f : X → X) (xs : List X) → length (change test f xs) ≡ length xs
length_changed test f [] = refl
length_changed test f (x ∷ xs) = length_changed_by f x (test x) xs (change test f xs) (length_changed test f xs)

-- ---- a change of the stream at a link

keeps_stream : (link : ℕ) (f : Pair → Pair) → ((x : ℕ) (p : Pair) → has_end x p ≡ true → has_end x (f p) ≡ true) → (net : Network) → IsConsistent net → Keeps 0 net (with_stream link f net)
keeps_stream link f stays net s = record {
  consistent = other_pairs net (change (has_end link) f net.pairs) (λ x. any_changed (has_end x) (has_end link) f (λ p at h. stays x p h) net.pairs) s;
  cut = refl;
  most = omega (arith, length_changed (has_end link) f net.pairs);
}

keeps_other : (link : ℕ) (f : Pair → Pair) → ((x : ℕ) (p : Pair) → has_end x p ≡ true → has_end x (f p) ≡ true) → (read write : Bool) (pair : Pair) (net : Network) → stream_at link net ≡ Some pair → IsConsistent net → Keeps 0 net (with_mark read write (other_end link pair).place (with_stream link f net))
keeps_other link f stays read write pair net e s = keeps_marked 0 net read write (other_end link pair).place (with_stream link f net) (λ l at. or_right (list_any (λ k. k.link == l) net.listeners) (list_any (has_end l) (change (has_end link) f net.pairs)) (any_changed (has_end l) (has_end link) f (λ p t h. stays l p h) net.pairs (any_found (has_end l) (has_end link) pair (other_there l link pair at) net.pairs e))) (keeps_stream link f stays net s)

pub wait_keeps : (limit : Limit) (net : Network) → IsConsistent net → Keeps 0 net (told limit net).after
wait_keeps limit net s = told_by limit net (length net.marks == 0) s

-- ---- making links

listened_by : (link : ℕ) (address : Address) (backlog : ℕ) (net : Network) (b c : Bool) → IsConsistent net → Keeps 1 net (if b then unchanged net (Failed Other) else if c then unchanged net (Failed InUse) else record { after = record net { listeners = net.listeners ++ record { link = link; address = address; backlog = backlog } ∷ [] }; reply = Done }).after
listened_by link address backlog net true c s = keeps_same 1 net s
listened_by link address backlog net false true s = keeps_same 1 net s
listened_by link address backlog net false false s = record {
  consistent = more_listeners net (record { link = link; address = address; backlog = backlog }) s;
  cut = refl;
  most = omega (arith, length-append net.listeners (record { link = link; address = address; backlog = backlog } ∷ []));
}

pub listen_keeps : (link : ℕ) (address : Address) (backlog : ℕ) (net : Network) → IsConsistent net → Keeps 1 net (listened link address backlog net).after
listen_keeps link address backlog net s = listened_by link address backlog net (is_there link net) (is_some (listener_with address net)) s

dialed_keeps : (link : ℕ) (listener : Listener) (address : Address) (net : Network) → listener_with address net ≡ Some listener → IsConsistent net → Keeps 2 net (dialed_to link listener net)
dialed_keeps link listener address net e s =
    let pair : Pair = record { dialed = new_end (Live link); taken = new_end (Queued listener.link) } in
    let added : Keeps 2 net (with_dialed link listener.link net) = record {
      consistent = other_pairs net (net.pairs ++ pair ∷ []) (λ x. any_more (has_end x) net.pairs (pair ∷ [])) s;
      cut = refl;
      most = omega (arith, length-append net.pairs (pair ∷ []));
    } in
    keeps_marked 2 net true false (Live listener.link) (with_dialed link listener.link net) (λ l at. or_left (list_any (λ k. k.link == l) net.listeners) (list_any (has_end l) (net.pairs ++ pair ∷ [])) (any_found (λ k. k.link == l) (λ k. is_same_address k.address address) listener (listener_at_live l listener.link at) net.listeners e)) added
  where
    listener_at_live : (l n : ℕ) → Live n ≡ Live l → (n == l) ≡ true
    listener_at_live l n at = at_live l (Live n) at

dialed_by_full : (link : ℕ) (listener : Listener) (address : Address) (net : Network) (b : Bool) → listener_with address net ≡ Some listener → IsConsistent net → Keeps 2 net (if b then unchanged net (Failed Refused) else record { after = dialed_to link listener net; reply = Done }).after
dialed_by_full link listener address net true e s = keeps_same 2 net s
dialed_by_full link listener address net false e s = dialed_keeps link listener address net e s

dialed_by_keeps : (link : ℕ) (address : Address) (net : Network) (o : Option Listener) → listener_with address net ≡ o → IsConsistent net → Keeps 2 net (dialed_by link o net).after
dialed_by_keeps link address net None e s = keeps_same 2 net s
dialed_by_keeps link address net (Some listener) e s = dialed_by_full link listener address net (nat_le listener.backlog (length (queue_of listener.link net))) e s

connected_by : (link : ℕ) (address : Address) (net : Network) (b : Bool) → IsConsistent net → Keeps 2 net (if b then unchanged net (Failed Other) else dialed_by link (listener_with address net) net).after
connected_by link address net true s = keeps_same 2 net s
connected_by link address net false s = dialed_by_keeps link address net (listener_with address net) refl s

pub connect_keeps : (link : ℕ) (address : Address) (net : Network) → IsConsistent net → Keeps 2 net (connected link address net).after
connect_keeps link address net s = connected_by link address net (is_there link net) s

taken_by : (listener link : ℕ) (net : Network) (b : Bool) → IsConsistent net → Keeps 0 net (if b then unchanged net NotYet else record { after = record net { pairs = change (waits_at listener) (linked link) net.pairs }; reply = Done }).after
taken_by listener link net true s = keeps_same 0 net s
taken_by listener link net false s = record {
  consistent = other_pairs net (change (waits_at listener) (linked link) net.pairs) (λ x. any_changed (has_end x) (waits_at listener) (linked link) (λ p w h. linked_stays x listener link p w h) net.pairs) s;
  cut = refl;
  most = omega (arith, length_changed (waits_at listener) (linked link) net.pairs);
}

accepted_by : (listener link : ℕ) (net : Network) (b : Bool) → IsConsistent net → Keeps 0 net (if b then taken_from listener link net else unchanged net (Failed Other)).after
accepted_by listener link net true s = taken_by listener link net (length (queue_of listener net) == 0) s
accepted_by listener link net false s = keeps_same 0 net s

pub accept_keeps : (listener link : ℕ) (net : Network) → IsConsistent net → Keeps 0 net (accepted listener link net).after
accept_keeps listener link net s = accepted_by listener link net (is_some (listener_at listener net) && not (is_there link net)) s

-- ---- bytes

written_to_by : (link : ℕ) (pair : Pair) (fits : List ℕ) (net : Network) (b : Bool) → stream_at link net ≡ Some pair → IsConsistent net → Keeps 0 net (if b then unchanged net NotYet else record { after = with_mark true false (other_end link pair).place (with_stream link (with_other link (with_held fits)) net); reply = Took (length fits) }).after
written_to_by link pair fits net true e s = keeps_same 0 net s
written_to_by link pair fits net false e s = keeps_other link (with_other link (with_held fits)) (λ x p. other_stays (with_held fits) (λ _. refl) x link p) true false pair net e s

written_past : (link : ℕ) (bytes : List ℕ) (pair : Pair) (net : Network) (b : Bool) → stream_at link net ≡ Some pair → IsConsistent net → Keeps 0 net (if b then unchanged net (Failed Reset) else written_to link pair (fitting bytes (other_end link pair)) net).after
written_past link bytes pair net true e s = keeps_same 0 net s
written_past link bytes pair net false e s = written_to_by link pair (fitting bytes (other_end link pair)) net (length (fitting bytes (other_end link pair)) == 0) e s

written_by_keeps : (link : ℕ) (bytes : List ℕ) (net : Network) (o : Option Pair) → stream_at link net ≡ o → IsConsistent net → Keeps 0 net (written_by link bytes o net).after
written_by_keeps link bytes net None e s = keeps_same 0 net s
written_by_keeps link bytes net (Some pair) e s = written_past link bytes pair net ((own_end link pair).shut || is_closed (other_end link pair).place) e s

pub write_keeps : (link : ℕ) (bytes : List ℕ) (net : Network) → IsConsistent net → Keeps 0 net (written link bytes net).after
write_keeps link bytes net s = written_by_keeps link bytes net (stream_at link net) refl s

room_marked : (link count : ℕ) (pair : Pair) (net : Network) (b : Bool) → stream_at link net ≡ Some pair → IsConsistent net → Keeps 0 net (if b then with_mark false true (other_end link pair).place (with_stream link (with_own link (without_front count)) net) else with_stream link (with_own link (without_front count)) net)
room_marked link count pair net true e s = keeps_other link (with_own link (without_front count)) (λ x p. own_stays (without_front count) (λ _. refl) x link p) false true pair net e s
room_marked link count pair net false e s = keeps_stream link (with_own link (without_front count)) (λ x p. own_stays (without_front count) (λ _. refl) x link p) net s

read_past : (link most : ℕ) (pair : Pair) (net : Network) (b : Bool) → stream_at link net ≡ Some pair → IsConsistent net → Keeps 0 net (if b then read_nothing link pair net else read_piece link pair (min (min net.cut most) (length (own_end link pair).held)) net).after
read_past link most pair net true e s = keeps_same 0 net s
read_past link most pair net false e s = room_marked link (min (min net.cut most) (length (own_end link pair).held)) pair net (length (own_end link pair).held == capacity) e s

read_by_keeps : (link most : ℕ) (net : Network) (o : Option Pair) → stream_at link net ≡ o → IsConsistent net → Keeps 0 net (read_by link most o net).after
read_by_keeps link most net None e s = keeps_same 0 net s
read_by_keeps link most net (Some pair) e s = read_past link most pair net (length (own_end link pair).held == 0) e s

pub read_keeps : (link most : ℕ) (net : Network) → IsConsistent net → Keeps 0 net (read link most net).after
read_keeps link most net s = read_by_keeps link most net (stream_at link net) refl s

shut_by_keeps : (link : ℕ) (net : Network) (o : Option Pair) → stream_at link net ≡ o → IsConsistent net → Keeps 0 net (shut_by link o net).after
shut_by_keeps link net None e s = keeps_same 0 net s
shut_by_keeps link net (Some pair) e s = keeps_other link (with_own link with_shut) (λ x p. own_stays with_shut (λ _. refl) x link p) true false pair net e s

pub shut_keeps : (link : ℕ) (net : Network) → IsConsistent net → Keeps 0 net (shut link net).after
shut_keeps link net s = shut_by_keeps link net (stream_at link net) refl s

-- ---- closing

length_filter_by : {X : Type 0} (x : X) (b : Bool) (xs ys : List X) → length ys ≤ length xs → length (cond b (x ∷ ys) ys) ≤ suc (length xs)
length_filter_by x true xs ys e = omega (arith, e)
length_filter_by x false xs ys e = omega (arith, e)

pub length_filter : {X : Type 0} (keep : X → Bool) (xs : List X) → length (filter keep xs) ≤ length xs
length_filter keep [] = omega arith
length_filter keep (x ∷ xs) = length_filter_by x (keep x) xs (filter keep xs) (length_filter keep xs)

length_map : {X : Type 0} (f : X → X) (xs : List X) → length (map f xs) ≡ length xs
length_map f [] = refl
length_map f (x ∷ xs) = ap suc (length_map f xs)

other_listener : (n x link : ℕ) → (n == x) ≡ true → (x == link) ≡ false → not (n == link) ≡ true
other_listener n x link at ne = rw (other_of n x link at ne) refl

-- without a link: the links of the other marks are there yet
keeps_without : (link : ℕ) (old net : Network) → net.marks ≡ old.marks → net.cut ≡ old.cut → most_links net ≤ most_links old → ((x : ℕ) → (x == link) ≡ false → has_link x old ≡ true → has_link x net ≡ true) → IsConsistent old → Keeps 0 old (without_link link net)
keeps_without link old net marks cut most stays s = record {
  consistent = record {
    rising = rw marks (rising_filter (λ mark. not (mark.link == link)) 0 old.marks s.rising);
    there = rw marks (among_filter (λ x. x == link) (λ x. has_link x old) (λ x. has_link x (without_link link net)) (λ x ne h. or_both (list_any (λ k. k.link == x) net.listeners) (list_any (has_end x) net.pairs) (list_any (λ k. k.link == x) net.listeners) (list_any (has_end x) (filter (λ pair. not (is_over pair)) net.pairs)) (λ e. e) (any_filter (has_end x) (λ pair. not (is_over pair)) (λ p. not_over x p) net.pairs) (stays x ne h)) old.marks s.there);
  };
  cut = cut;
  most = omega (arith, most, length_filter (λ pair. not (is_over pair)) net.pairs);
}

stream_closed_keeps : (link : ℕ) (pair : Pair) (net : Network) → stream_at link net ≡ Some pair → IsConsistent net → Keeps 0 net (stream_closed link pair net)
stream_closed_keeps link pair net e s =
    let f = with_own link closed_end in
    let shrunk : Network = with_stream link f net in
    let gone : Keeps 0 net (without_link link shrunk) = keeps_without link net shrunk refl refl (omega (arith, length_changed (has_end link) f net.pairs)) (λ x ne h. or_both (list_any (λ k. k.link == x) net.listeners) (list_any (has_end x) net.pairs) (list_any (λ k. k.link == x) net.listeners) (list_any (has_end x) shrunk.pairs) (λ e'. e') (any_changed (has_end x) (has_end link) f (λ p at h'. closed_stays x link p ne at h') net.pairs) h) s in
    keeps_marked 0 net true true (other_end link pair).place (without_link link shrunk) (λ l at. or_right (list_any (λ k. k.link == l) net.listeners) (list_any (has_end l) (filter (λ p. not (is_over p)) shrunk.pairs)) (any_filter (has_end l) (λ p. not (is_over p)) (λ p. not_over l p) shrunk.pairs (any_first (has_end l) (has_end link) f pair (other_left l link pair at) net.pairs e))) gone

-- without a listener and its marks, the links of the other marks are there yet
pub forget_keeps : (link : ℕ) (net : Network) → IsConsistent net → IsConsistent (record net { marks = filter (λ mark. not (mark.link == link)) net.marks; listeners = filter (λ l. not (l.link == link)) net.listeners })
forget_keeps link net s = record {
  rising = rising_filter (λ mark. not (mark.link == link)) 0 net.marks s.rising;
  there = among_filter (λ x. x == link) (λ x. has_link x net) (λ x. has_link x (record net { listeners = filter (λ l. not (l.link == link)) net.listeners })) (λ x ne h. or_both (list_any (λ k. k.link == x) net.listeners) (list_any (has_end x) net.pairs) (list_any (λ k. k.link == x) (filter (λ l. not (l.link == link)) net.listeners)) (list_any (has_end x) net.pairs) (any_filter (λ k. k.link == x) (λ l. not (l.link == link)) (λ l at. other_listener l.link x link at ne) net.listeners) (λ e. e) h) net.marks s.there;
}

-- a fact about each stream of a list
Each : (Pair → Type 0) → List Pair → Type 0
Each P [] = Unit {0}
Each P (p ∷ ps) = P p × Each P ps

each_more : (P Q : Pair → Type 0) → ((p : Pair) → P p → Q p) → (ps : List Pair) → Each P ps → Each Q ps
unfolding Each
each_more P Q f [] h = tt
each_more P Q f (p ∷ ps) h = (f p h.0, each_more P Q f ps h.1)

each_by : (P : Pair → Type 0) (p : Pair) (b : Bool) (ps : List Pair) → P p → Each P ps → Each P (cond b (p ∷ ps) ps)
unfolding Each
each_by P p true ps h rest = (h, rest)
each_by P p false ps h rest = rest

each_filter : (P : Pair → Type 0) (keep : Pair → Bool) (ps : List Pair) → Each P ps → Each P (filter keep ps)
unfolding Each
each_filter P keep [] h = tt
each_filter P keep (p ∷ ps) h = each_by P p (keep p) (filter keep ps) h.0 (each_filter P keep ps h.1)

-- The end that connected is there in these streams, if it has a link.
IsIn : List Pair → Pair → Type 0
IsIn ps p = (l : ℕ) → p.dialed.place ≡ Live l → list_any (has_end l) ps ≡ true

each_in : (ps : List Pair) → Each (IsIn ps) ps
unfolding Each IsIn
each_in [] = tt
each_in (p ∷ ps) =
    ((λ l at. or_left (has_end l p) (list_any (has_end l) ps) (or_left (is_at_dialed l p) (is_at_taken l p) (at_live l p.dialed.place at))), each_more (IsIn ps) (IsIn (p ∷ ps)) (λ q h l at. or_right (has_end l p) (list_any (has_end l) ps) (h l at)) ps (each_in ps))
  where
    is_at_dialed : ℕ → Pair → Bool
    is_at_dialed l q = is_at l q.dialed.place

    is_at_taken : ℕ → Pair → Bool
    is_at_taken l q = is_at l q.taken.place

same_pairs : (read write : Bool) (place : Place) (net : Network) → (with_mark read write place net).pairs ≡ net.pairs
same_pairs read write (Queued n) net = refl
same_pairs read write (Live n) net = refl
same_pairs read write Closed net = refl

refused_keeps : (old : Network) (qs : List Pair) (net : Network) → Each (IsIn net.pairs) qs → Keeps 0 old net → Keeps 0 old (with_refused_marks qs net)
unfolding Each IsIn
refused_keeps old [] net h k = k
refused_keeps old (q ∷ qs) net h k =
    let next : Network = with_mark true true q.dialed.place net in
    let e : next.pairs ≡ net.pairs = same_pairs true true q.dialed.place net in
    refused_keeps old qs next (each_more (IsIn net.pairs) (IsIn next.pairs) (λ p g l at. rw e (g l at)) qs h.1) (keeps_marked 0 old true true q.dialed.place net (λ l at. or_right (list_any (λ k'. k'.link == l) net.listeners) (list_any (has_end l) net.pairs) (h.0 l at)) k)

listener_closed_keeps : (link : ℕ) (net : Network) → IsConsistent net → Keeps 0 net (listener_closed link net)
unfolding Each IsIn
listener_closed_keeps link net s =
    let f = refused_at link in
    let less : Network = record net { listeners = filter (λ l. not (l.link == link)) net.listeners; pairs = map f net.pairs } in
    let gone : Keeps 0 net (without_link link less) = keeps_without link net less refl refl (omega (arith, length_filter (λ l. not (l.link == link)) net.listeners, length_map f net.pairs)) (λ x ne h. or_both (list_any (λ k. k.link == x) net.listeners) (list_any (has_end x) net.pairs) (list_any (λ k. k.link == x) less.listeners) (list_any (has_end x) less.pairs) (any_filter (λ k. k.link == x) (λ l. not (l.link == link)) (λ l at. other_listener l.link x link at ne) net.listeners) (any_map (has_end x) f (λ p h'. refused_stays x link p h') net.pairs) h) s in
    refused_keeps net (queue_of link net) (without_link link less) (each_filter (IsIn (without_link link less).pairs) (waits_at link) net.pairs (each_more (IsIn net.pairs) (IsIn (without_link link less).pairs) (λ p h l at. any_filter (has_end l) (λ q. not (is_over q)) (λ q. not_over l q) less.pairs (any_map (has_end l) f (λ q h'. refused_stays l link q h') net.pairs (h l at))) net.pairs (each_in net.pairs))) gone

closed_by_keeps : (link : ℕ) (net : Network) (o : Option Pair) → stream_at link net ≡ o → IsConsistent net → Keeps 0 net (closed_by link o net)
closed_by_keeps link net None e s = keeps_same 0 net s
closed_by_keeps link net (Some pair) e s = stream_closed_keeps link pair net e s

closed_cases : (link : ℕ) (net : Network) (b : Bool) → IsConsistent net → Keeps 0 net (if b then listener_closed link net else closed_by link (stream_at link net) net)
closed_cases link net true s = listener_closed_keeps link net s
closed_cases link net false s = closed_by_keeps link net (stream_at link net) refl s

pub close_keeps : (link : ℕ) (net : Network) → IsConsistent net → Keeps 0 net (closed link net)
close_keeps link net s = closed_cases link net (is_some (listener_at link net)) s

-- ---- what is kept of it

-- no more marks than links
pub marks_within : (net : Network) → IsConsistent net → length net.marks ≤ most_links net
marks_within net s = most_marks net.listeners net.pairs net.marks s.rising s.there

-- room for a mark of each link, and a cut, after a call that keeps this of a network
pub holds_after : (more : ℕ) (old now : Net) (net : Network) → HasRoom old → Keeps more (network_of old) net → network_of now ≡ net → most_links (network_of now) < vec_capacity now.marks → HasRoom now × IsConsistent (network_of now)
holds_after more old now net h k e room =
    let consistent : IsConsistent (network_of now) = subst IsConsistent (sym e) k.consistent in
    let cut : now.cut ≡ old.cut = ap (λ n. n.cut) e ∙ k.cut in
    (record { marks = marks_within (network_of now) consistent; room = room; cut = subst (λ n. 0 < n) (sym cut) h.cut }, consistent)

-- the same, where no link is made and the room stays
pub stays_after : (old now : Net) (net : Network) → HasRoom old → Keeps 0 (network_of old) net → network_of now ≡ net → vec_capacity old.marks ≤ vec_capacity now.marks → HasRoom now × IsConsistent (network_of now)
stays_after old now net h k e room =
    let most : most_links (network_of now) ≡ most_links net = ap most_links e in
    holds_after 0 old now net h k e (omega (arith, most, h.room, k.most, room))

-- the same, where a link is made, or memory was refused
pub made_after : {A B : Type 0} (more : ℕ) (old now : Net) (net : Network) → HasRoom old → IsConsistent (network_of old) → Keeps more (network_of old) net → (A × (network_of now ≡ net)) ⊎ (B × (network_of now ≡ network_of old)) → most_links (network_of now) < vec_capacity now.marks → HasRoom now × IsConsistent (network_of now)
made_after more old now net h s k (inl made) room = holds_after more old now net h k made.1 room
made_after more old now net h s k (inr refused) room = holds_after 0 old now (network_of old) h (keeps_same 0 (network_of old) s) refused.1 room
