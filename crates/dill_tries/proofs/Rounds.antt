-- All kinds of tries, one after the other.
use Rattle.std.proofs.Common.{◌≡◌, ◌∙◌, ℕ, List, ◌++◌, map, filter, find, length, nat_lt, Bool, true, false, if◌then◌else◌, Option, Some, None, is_some, IfSome, refl, sym, ap, subst}
use Rattle.std.proofs.lemmas.List.{append_assoc}
use Rattle.std.proofs.lemmas.List.Folds.{find-append}
use Rattle.std.specs.Option.{option_or}
use Rattle.std.specs.List.{list_any}
use Rattle.dill_base.specs.Maps.{if_some}
use Rattle.dill_calls.specs.declared.call.Call.{Call}
use Rattle.dill_calls.specs.declared.call.Call.TheVariants as calls
use Rattle.dill_kernel.specs.declared.replies.KernelAsk.TheVariants as asks
use Rattle.dill_rules.specs.Giving.{is_connecting_for}
use Rattle.dill_rules.specs.World.{World, Place, at_start, pending_call}
use Rattle.dill_rules.specs.Links.{Link}
use Rattle.dill_rules.specs.Trying.{Try, tries, closes, listens, connects, finishes, accepts, writes, shuts, reads, listen_of, connect_of, next_link}
use Rattle.dill_tries.specs.declared.kind.Kind.{Kind}
use Rattle.dill_tries.specs.declared.kind.Kind.TheVariants as kinds
use Rattle.dill_tries.specs.Dues.{number_of, first_of, all_kinds, is_due, is_sought, is_sought_try, made_of, try_on}
use Rattle.dill_tries.proofs.Found.{last, any_on, any_made, any_joined}

module _ {V : Type 0} (w : World V) where
  right : tries w ≡ closes w ++ (listens w ++ (connects w ++ (finishes w ++ (accepts w ++ (writes w ++ (shuts w ++ (reads w)))))))
  right = simp append_assoc refl

  -- the first of all is the first of the first kind that has one
  module _ (place : Place) (marks : Bool) where
    next : (xs ys : List Try) {o : Option Try} → find (is_sought_try w place marks) ys ≡ o → find (is_sought_try w place marks) (xs ++ ys) ≡ option_or (find (is_sought_try w place marks) xs) o
    next xs ys e = find-append (is_sought_try w place marks) xs ys ∙ ap (option_or (find (is_sought_try w place marks) xs)) e

    pub first_of_all : find (is_sought_try w place marks) (tries w) ≡ first_of w place marks all_kinds
    first_of_all =
        ap (find (is_sought_try w place marks)) right
        ∙ next (closes w) (listens w ++ (connects w ++ (finishes w ++ (accepts w ++ (writes w ++ (shuts w ++ (reads w)))))))
        (next (listens w) (connects w ++ (finishes w ++ (accepts w ++ (writes w ++ (shuts w ++ (reads w))))))
        (next (connects w) (finishes w ++ (accepts w ++ (writes w ++ (shuts w ++ (reads w)))))
        (next (finishes w) (accepts w ++ (writes w ++ (shuts w ++ (reads w))))
        (next (accepts w) (writes w ++ (shuts w ++ (reads w)))
        (next (writes w) (shuts w ++ (reads w))
        (next (shuts w) (reads w)
        (sym (last (find (is_sought_try w place marks) (reads w))))))))))

  -- behind the start of a round, and without its marks, each is looked for
  all_on : (kind : Kind) (xs : List Link) (test : Link → Bool) → is_some (find (is_sought_try w at_start false) (map (try_on (next_link w) kind) (filter test xs))) ≡ nat_lt 0 (length (map (try_on (next_link w) kind) (filter test xs)))
  all_on kind xs test = any_on (try_on (next_link w) kind) (is_sought_try w at_start false) test xs (λ x. whole kind x.number)
    where
      whole : (kind : Kind) (number : ℕ) → is_sought w at_start false (number_of kind) number ≡ true
      whole kinds.Close number = refl
      whole kinds.Listen number = refl
      whole kinds.Connect number = refl
      whole kinds.Finish number = refl
      whole kinds.Accept number = refl
      whole kinds.Write number = refl
      whole kinds.Shut number = refl
      whole kinds.Read number = refl

  connecting : (b : Bool) (x : Try) → is_sought_try w at_start false x ≡ true → IfSome (if b then None else Some x) (λ y. is_sought_try w at_start false y ≡ true)
  connecting true x e = tt
  connecting false x e = e

  listening : (who : ℕ) (o : Option Call) → IfSome (if_some o None (listen_of w who)) (λ y. is_sought_try w at_start false y ≡ true)
  listening who None = tt
  listening who (Some (calls.TcpListen address backlog)) = refl
  listening who (Some call) = tt

  connects_on : (who : ℕ) (o : Option Call) → IfSome (if_some o None (connect_of w who)) (λ y. is_sought_try w at_start false y ≡ true)
  connects_on who None = tt
  connects_on who (Some (calls.TcpConnect address deadline)) = connecting (list_any (is_connecting_for who) w.links.all) (record { kind = 3; number = who; ask = asks.Connect (next_link w) address }) refl
  connects_on who (Some call) = tt

  Any : List Try → Type 0
  Any xs = is_some (find (is_sought_try w at_start false) xs) ≡ nat_lt 0 (length xs)

  and_then : (xs ys : List Try) → Any xs → Any ys → Any (xs ++ ys)
  unfolding Any
  and_then xs ys e f = any_joined (is_sought_try w at_start false) xs ys e f

  -- so one is found where there is one
  pub any_try : is_some (find (is_sought_try w at_start false) (tries w)) ≡ nat_lt 0 (length (tries w))
  unfolding Any
  any_try = subst Any (sym right)
      (and_then (closes w) (listens w ++ (connects w ++ (finishes w ++ (accepts w ++ (writes w ++ (shuts w ++ (reads w))))))) (all_on kinds.Close w.links.all (is_due w kinds.Close))
      (and_then (listens w) (connects w ++ (finishes w ++ (accepts w ++ (writes w ++ (shuts w ++ (reads w)))))) (any_made (is_sought_try w at_start false) (made_of w kinds.Listen) w.coroutines (λ c. listening c.number (pending_call c.mode)))
      (and_then (connects w) (finishes w ++ (accepts w ++ (writes w ++ (shuts w ++ (reads w))))) (any_made (is_sought_try w at_start false) (made_of w kinds.Connect) w.coroutines (λ c. connects_on c.number (pending_call c.mode)))
      (and_then (finishes w) (accepts w ++ (writes w ++ (shuts w ++ (reads w)))) (all_on kinds.Finish w.links.all (is_due w kinds.Finish))
      (and_then (accepts w) (writes w ++ (shuts w ++ (reads w))) (all_on kinds.Accept w.links.all (is_due w kinds.Accept))
      (and_then (writes w) (shuts w ++ (reads w)) (all_on kinds.Write w.links.all (is_due w kinds.Write))
      (and_then (shuts w) (reads w) (all_on kinds.Shut w.links.all (is_due w kinds.Shut))
      (all_on kinds.Read w.links.all (is_due w kinds.Read)))))))))

  pub any_close : is_some (find (is_sought_try w at_start false) (closes w)) ≡ nat_lt 0 (length (closes w))
  any_close = all_on kinds.Close w.links.all (is_due w kinds.Close)
