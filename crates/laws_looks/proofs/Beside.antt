-- What is done beside the calls that are pending: numbers name what they named or are new, and a look that found nothing finds nothing.
use Rattle.std.proofs.Common.{◌≡◌, ◌∙◌, ◌⊎◌, inl, inr, ℕ, ◌+◌, ◌<◌, ◌≤◌, List, [], ◌∷◌, find, fold, cond, Bool, true, false, Option, Some, None, if◌then◌else◌, refl, sym, ap, subst, arith}
use Rattle.std.specs.Prelude.{Result, Ok, Err, option_map}
use Rattle.rand_core.specs.Stream.{Stream}
use Rattle.dill_base.specs.declared.errno.Errno.{Errno}
use Rattle.dill_base.specs.Maps.{if_some, change}
use Rattle.dill_calls.specs.declared.call.Call.{Call}
use Rattle.dill_calls.specs.CallTable.{named_by}
use Rattle.dill_calls.specs.declared.ran.Note.TheVariants.{Moved, Freed}
use Rattle.dill_handles.specs.Handles as handles
use Rattle.dill_handles.specs.declared.entry.Entry.{Entry}
use Rattle.dill_stack.specs.Interface.{Held}
use Rattle.dill_rules.specs.declared.thing.Thing.{Thing}
use Rattle.dill_rules.specs.declared.thing.Thing.TheVariants as things
use Rattle.dill_rules.specs.World.{World, note}
use Rattle.dill_rules.specs.Links.{Link, look, is_link, as_closing, heated, with_stack}
use Rattle.dill_rules.specs.Owning.{entry_of, take_thing, take, move, drop, release}
use Rattle.dill_rules.specs.Sockets.{link_of, link_number, link_named, stack_of, on_link, on_named}
use Rattle.dill_rules.specs.Effects.{make}
use Rattle.dill_rules.specs.Linking.{if_ok, put, ask_stack, heat, give_stack_up}
use Rattle.laws_looks.specs.Readers.{In}
use Rattle.laws_looks.specs.Calm.{Spent, NamesIn}
use Rattle.laws_looks.proofs.Lists.{in_push, in_without}
use Rattle.laws_looks.proofs.Quieted.{found_change}

module _ {T : Type 0} where
  -- another owner leaves numbers and things
  owned_in : (n owner : ℕ) (es : List (Entry T)) (e : Entry T) → In e (change (handles.is_entry n) (handles.with_owner owner) es) → (x : Entry T) × In x es × (x.number ≡ e.number) × (x.thing ≡ e.thing)
  owned_in n owner [] e i = absurd i
  owned_in n owner (y ∷ ys) e i = at (handles.is_entry n y) i (owned_in n owner ys e)
    where
      at : (b : Bool) → In e (cond b (handles.with_owner owner y ∷ ys) (y ∷ change (handles.is_entry n) (handles.with_owner owner) ys)) → (In e (change (handles.is_entry n) (handles.with_owner owner) ys) → (x : Entry T) × In x ys × (x.number ≡ e.number) × (x.thing ≡ e.thing)) → (x : Entry T) × ((x ≡ y) ⊎ In x ys) × (x.number ≡ e.number) × (x.thing ≡ e.thing)
      at true (inl same) rest = (y, inl refl, sym (ap (λ (z : Entry T). z.number) same), sym (ap (λ (z : Entry T). z.thing) same))
      at true (inr j) rest = (e, inr j, refl, refl)
      at false (inl same) rest = (y, inl refl, sym (ap (λ (z : Entry T). z.number) same), sym (ap (λ (z : Entry T). z.thing) same))
      at false (inr j) rest = let r = rest j in (r.0, inr r.1, r.2, r.3)

-- A number names what it named, or is new; and each stack is as it was to the calls that pass the test at its link.
pub record Kept (S : Call → ℕ → Type 0) (es : List (Entry Thing)) (given : ℕ) (xs : List Link) (fs : List (Entry Thing)) (now : ℕ) (ys : List Link) : Type 0 where
  pub names : (n l : ℕ) → NamesIn fs n l → NamesIn es n l ⊎ (given < n)
  pub last : given ≤ now
  pub stacks : (l : ℕ) (y : Link) → find (is_link l) ys ≡ Some y → (x : Link) × (find (is_link l) xs ≡ Some x) × ((call : Call) → S call l → Spent call x.stack → Spent call y.stack)

-- no call is passed over
abbrev pub AnyCall : Call → ℕ → Type 0
AnyCall _ _ = Unit {0}

module _ {V : Type 0} (S : Call → ℕ → Type 0) where
  abbrev pub Beside : World V → World V → Type 0
  Beside w v = Kept S w.handles.entries w.handles.last w.links.all v.handles.entries v.handles.last v.links.all

  pub not_beside : (w : World V) → Beside w w
  not_beside w = record { names = λ n l p. inl p; last = omega arith; stacks = λ l y i. (y, i, λ call s p. p) }

  pub then_beside : (w v u : World V) → Beside w v → Beside v u → Beside w u
  then_beside w v u a b = record {
    names = λ n l p. at n l (b.names n l p);
    last = let x = a.last in let y = b.last in omega (arith, x, y);
    stacks = λ l y i. let t = b.stacks l y i in let r = a.stacks l t.0 t.1 in (r.0, r.1, λ call s p. t.2 call s (r.2 call s p));
  }
    where
      at : (n l : ℕ) → NamesIn v.handles.entries n l ⊎ (v.handles.last < n) → NamesIn w.handles.entries n l ⊎ (w.handles.last < n)
      at n l (inl p) = a.names n l p
      at n l (inr g) = let x = a.last in inr (omega (arith, x, g))

  pub some_beside : {A : Type 0} (o : Option A) (w : World V) (f : A → World V) → ((a : A) → Beside w (f a)) → Beside w (if_some o w f)
  some_beside None w f h = not_beside w
  some_beside (Some a) w f h = h a

  pub if_beside : (b : Bool) (w v u : World V) → Beside w v → Beside w u → Beside w (if b then v else u)
  if_beside true w v u e f = e
  if_beside false w v u e f = f

  pub each_beside : {A : Type 0} (f : World V → A → World V) (xs : List A) (w : World V) → ((v : World V) (a : A) → Beside v (f v a)) → Beside w (fold f w xs)
  each_beside f [] w h = not_beside w
  each_beside f (x ∷ xs) w h = then_beside w (f w x) (fold f (f w x) xs) (h w x) (each_beside f xs (f w x) h)

  -- ---- links

  pub link_beside : (w : World V) (l : ℕ) (f : Link → Link) → ((x : Link) → (f x).number ≡ x.number) → ((x : Link) → look w.links l ≡ Some x → (call : Call) → S call l → Spent call x.stack → Spent call (f x).stack) → Beside w (on_link w l f)
  link_beside w l f same h = record { names = λ n m p. inl p; last = omega arith; stacks = λ m y i. let r = found_change f same l m w.links.all y i in (r.0, r.1, λ call s p. at m y r.0 r.1 r.2 call s p) }
    where
      at : (m : ℕ) (y x : Link) → look w.links m ≡ Some x → (y ≡ x) ⊎ ((m ≡ l) × (y ≡ f x)) → (call : Call) → S call m → Spent call x.stack → Spent call y.stack
      at m y x i (inl is) call s p = subst (λ (z : Link). Spent call z.stack) (sym is) p
      at m y x i (inr is) call s p = subst (λ (z : Link). Spent call z.stack) (sym is.1) (h x (ap (look w.links) (sym is.0) ∙ i) call (subst (S call) is.0 s) p)

  pub named_beside : (w : World V) (n : ℕ) (f : Link → Link) → ((x : Link) → (f x).number ≡ x.number) → ((l : ℕ) (x : Link) → link_number w n ≡ Some l → look w.links l ≡ Some x → (call : Call) → S call l → Spent call x.stack → Spent call (f x).stack) → Beside w (on_named w n f)
  named_beside w n f same h = at (link_number w n) refl
    where
      at : (o : Option ℕ) → link_number w n ≡ o → Beside w (if_some o w (λ l. on_link w l f))
      at None e = not_beside w
      at (Some l) e = link_beside w l f same (λ x. h l x e)

  pub heat_beside : (w : World V) (call : Call) (read write : Bool) → Beside w (heat w call read write)
  heat_beside w call read write = some_beside (named_by call) w (λ n. on_named w n (heated read write)) (λ n. named_beside w n (heated read write) (λ x. refl) (λ l x e i more s p. p))

  -- what a stack does that is asked
  pub ask_beside : (w : World V) (call : Call) (f : Stream → Held → Result (Held × Stream) Errno)
      → ((n l : ℕ) (s : Held) (now : Held × Stream) → named_by call ≡ Some n → link_number w n ≡ Some l → f w.random s ≡ Ok now → (more : Call) → S more l → Spent more s → Spent more now.0) → Beside w (ask_stack w call f)
  ask_beside w call f h = at (named_by call) refl
    where
      said : (n : ℕ) → named_by call ≡ Some n → (s : Held) → stack_of w call ≡ Some s → (r : Result (Held × Stream) Errno) → f w.random s ≡ r → Beside w (if_ok r w (put w n))
      said n e s g (Err x) i = not_beside w
      said n e s g (Ok now) i = named_beside w n (with_stack (λ old. now.0)) (λ x. refl) (λ l x j k more t p. h n l s now e j i more t (subst (Spent more) (here l x j k) p))
        where
          here : (l : ℕ) (x : Link) → link_number w n ≡ Some l → look w.links l ≡ Some x → x.stack ≡ s
          here l x j k =
              let it : Some x.stack ≡ Some s =
              sym (ap (λ o. option_map (λ z. z.stack) o) k) ∙ sym (ap (λ o. option_map (λ z. z.stack) (if_some o None (look w.links))) j) ∙ sym (ap (λ o. if_some o None (λ number. option_map (λ z. z.stack) (link_named w number))) e) ∙ g in
              cc

      at : (o : Option ℕ) → named_by call ≡ o → Beside w (if_some o w (λ n. if_some (stack_of w call) w (λ s. if_ok (f w.random s) w (put w n))))
      at None e = not_beside w
      at (Some n) e = by (stack_of w call) refl
        where
          by : (o : Option Held) → stack_of w call ≡ o → Beside w (if_some o w (λ s. if_ok (f w.random s) w (put w n)))
          by None g = not_beside w
          by (Some s) g = said n e s g (f w.random s) refl

  -- ---- handles

  pub make_beside : (w : World V) (thing : Thing) (owner : ℕ) → Beside w (make w thing owner)
  make_beside w thing owner = record { names = λ n l p. at n l p (in_push w.handles.entries new p.entry p.there); last = omega arith; stacks = λ l y i. (y, i, λ call s p. p) }
    where
      new : Entry Thing
      new = record { number = handles.next_number w.handles; thing = thing; owner = owner }

      at : (n l : ℕ) (p : NamesIn (make w thing owner).handles.entries n l) → In p.entry w.handles.entries ⊎ (p.entry ≡ new) → NamesIn w.handles.entries n l ⊎ (w.handles.last < n)
      at n l p (inl i) = inl (record { entry = p.entry; there = i; number = p.number; link = p.link })
      at n l p (inr same) = let e : n ≡ w.handles.last + 1 = sym p.number ∙ ap (λ (x : Entry Thing). x.number) same in inr (omega (arith, e))

  pub retire_beside : (w : World V) (number : ℕ) → Beside w (record w { handles = handles.retire w.handles number })
  retire_beside w number = record {
    names = λ n l p. inl (record { entry = p.entry; there = in_without (handles.is_entry number) w.handles.entries p.entry p.there; number = p.number; link = p.link });
    last = omega arith;
    stacks = λ l y i. (y, i, λ call s p. p);
  }

  -- a bundle's owner is kept elsewhere
  taken_beside : (w v : World V) (thing : Thing) (owner : ℕ) → Beside w v → Beside w (take_thing v thing owner)
  taken_beside w v (things.Bundle name) owner b = b
  taken_beside w v (things.End end) owner b = b
  taken_beside w v (things.Listener l) owner b = b
  taken_beside w v (things.Socket l) owner b = b
  taken_beside w v (things.Value kind value) owner b = b

  pub take_beside : (w : World V) (number owner : ℕ) → Beside w (take w number owner)
  take_beside w number owner =
      some_beside (entry_of w number) w (λ x. take_thing (record w { handles = handles.set_owner w.handles number owner }) x.thing owner)
      (λ x. taken_beside w (record w { handles = handles.set_owner w.handles number owner }) x.thing owner
      (record {
        names = λ n l p. let r = owned_in number owner w.handles.entries p.entry p.there in inl (record { entry = r.0; there = r.1; number = r.2 ∙ p.number; link = ap link_of r.3 ∙ p.link });
        last = omega arith;
        stacks = λ l y i. (y, i, λ call s p. p);
      }))

  pub move_beside : (w : World V) (number owner : ℕ) → Beside w (move w number owner)
  move_beside w number owner =
      some_beside (entry_of w number) w (λ x. note (take_thing (record w { handles = handles.renumber w.handles number x.thing owner }) x.thing owner) (Moved number (handles.next_number w.handles)))
      (λ x. let less : World V = record w { handles = handles.retire w.handles number } in
      taken_beside w (make less x.thing owner) x.thing owner (then_beside w less (make less x.thing owner) (retire_beside w number) (make_beside less x.thing owner)))

  pub release_beside : (w : World V) (number : ℕ) → Beside w (release w number)
  release_beside w number = some_beside (entry_of w number) w (λ x. note (drop (record w { handles = handles.retire w.handles number }) x.thing) (Freed number)) (λ x. dropped x.thing)
    where
      less : World V
      less = record w { handles = handles.retire w.handles number }

      closes : (l : ℕ) → Beside w (on_link less l as_closing)
      closes l = then_beside w less (on_link less l as_closing) (retire_beside w number) (link_beside less l as_closing (λ x. refl) (λ x i call s p. p))

      dropped : (thing : Thing) → Beside w (drop less thing)
      dropped (things.Bundle name) = retire_beside w number
      dropped (things.End end) = retire_beside w number
      dropped (things.Listener l) = closes l
      dropped (things.Socket l) = closes l
      dropped (things.Value kind value) = retire_beside w number

  -- a stack is released, and what the call kept is given back
  pub up_beside : (w : World V) (who : ℕ) (call : Call) (e : Errno) (kept : ℕ) → Beside w (give_stack_up w who call e kept)
  up_beside w who call e kept = let less : World V = record w { handles = handles.unkeep w.handles kept } in some_beside (named_by call) w (λ number. release less number) (λ number. release_beside less number)
