-- What a call does to the stack that it is on, and to no other.
use Rattle.std.proofs.Common.{◌≡◌, ◌∙◌, ◌⊎◌, inl, inr, ℕ, ◌≤◌, ◌==◌, Bool, true, false, Option, Some, None, refl, sym, ap, subst, arith}
use Rattle.std.specs.Prelude.{option_map, Result, Ok, Err}
use Rattle.rand_core.specs.Stream.{Stream}
use Rattle.dill_base.specs.declared.errno.Errno.{Errno}
use Rattle.dill_base.specs.Maps.{if_some}
use Rattle.dill_calls.specs.declared.call.Call.{Call}
use Rattle.dill_calls.specs.CallTable.{named_by}
use Rattle.dill_stack.specs.Interface.{Held}
use Rattle.dill_rules.specs.Giving.{look_on}
use Rattle.dill_rules.specs.LinkAnswers.{look_of}
use Rattle.dill_rules.specs.Linking.{if_ok, put, ask_stack, heat}
use Rattle.dill_rules.specs.Links.{Link, Links, look, change_link, with_stack, heated}
use Rattle.dill_rules.specs.Sockets.{link_number, link_named, stack_of, on_named}
use Rattle.dill_rules.specs.World.{World}
use Rattle.laws_looks.proofs.Lists.{equal_is, unequal_is, some_none, some_same}
use Rattle.laws_looks.proofs.Quieted.{Missing, Found, look_cases}
use Rattle.laws_fits.proofs.Tidy.{Same, Tidy, tidy_same, tidy_not, tidy_links, tidy_on, tidy_named, tidy_some, tidy_more}

module _ {V : Type 0} where
  -- the call is on the link
  pub record On (w : World V) (call : Call) (l : ℕ) : Type 0 where
    pub number : ℕ
    pub named : named_by call ≡ Some number
    pub linked : link_number w number ≡ Some l

  pub on_other : (w : World V) (call : Call) (n l : ℕ) → named_by call ≡ Some n → (link_number w n ≡ Some l → ⊥) → On w call l → ⊥
  on_other w call n l e ne o = ne (ap (link_number w) (some_same (named_by call) n o.number e o.named) ∙ o.linked)

  pub on_dec : (w : World V) (call : Call) (l : ℕ) → On w call l ⊎ (On w call l → ⊥)
  on_dec w call l = at (named_by call) refl
    where
      same : (n : ℕ) → named_by call ≡ Some n → (k : ℕ) → link_number w n ≡ Some k → (b : Bool) → (k == l) ≡ b → On w call l ⊎ (On w call l → ⊥)
      same n e k f true g = inl (record { number = n; named = e; linked = f ∙ ap Some (equal_is k l g) })
      same n e k f false g = inr (on_other w call n l e (λ h. unequal_is k l g (some_same (link_number w n) k l f h)))

      by : (n : ℕ) → named_by call ≡ Some n → (o : Option ℕ) → link_number w n ≡ o → On w call l ⊎ (On w call l → ⊥)
      by n e None f = inr (on_other w call n l e (λ h. some_none (link_number w n) l f h))
      by n e (Some k) f = same n e k f (k == l) refl

      at : (o : Option ℕ) → named_by call ≡ o → On w call l ⊎ (On w call l → ⊥)
      at None e = inr (λ o. some_none (named_by call) o.number e o.named)
      at (Some n) e = by n e (link_number w n) refl

  -- the stack of the call's link is another by `R`, and every other is as it was
  abbrev pub Acts : World V → Call → (Held → Held → Type 0) → ℕ → Held → Held → Type 0
  Acts w call R l s t = (On w call l → R s t) × ((On w call l → ⊥) → t ≡ s)

  module _ {T : ℕ → Type 0} {gone : Option ℕ} where
    pub acts_named : (w : World V) (call : Call) (n : ℕ) (R : Held → Held → Type 0) (f : Link → Link) → named_by call ≡ Some n → ((x : Link) → (f x).number ≡ x.number) → ((x : Link) → (f x).closing ≡ x.closing) → ((x : Link) → x.most ≤ (f x).most) → ((x : Link) → R x.stack (f x).stack) → Tidy (Acts w call R) T gone w (on_named w n f)
    acts_named w call n R f e number closing most h =
        tidy_named w n f number closing most (λ m s ne. (λ o. absurd (on_other w call n m e ne o), λ no. refl)) (λ l x g i. (λ o. h x, λ no. absurd (no (record { number = n; named = e; linked = g }))))

    -- nothing is done
    pub acts_off : (w : World V) (call : Call) (R : Held → Held → Type 0) → ((l : ℕ) (x : Link) → On w call l → look w.links l ≡ Some x → R x.stack x.stack) → Tidy (Acts w call R) T gone w w
    acts_off w call R h = tidy_links w w.links (λ l y i. (y, i, refl, omega arith, (λ o. h l y o i, λ no. refl)))

    pub tidy_heat : (w : World V) (call : Call) (read write : Bool) → Tidy Same T gone w (heat w call read write)
    tidy_heat w call read write = tidy_some (named_by call) w w (λ n. on_named w n (heated read write)) (tidy_not w) (λ n. tidy_named w n (heated read write) (λ x. refl) (λ x. refl) (λ x. omega arith) (λ m s ne. refl) (λ l x g i. refl))

    pub acts_look : (w : World V) (call : Call) → Tidy (Acts w call (λ s t. t ≡ (look_of call w.random s).stack)) T gone w (look_on w call)
    acts_look w call = at (look_cases w call)
      where
        R : Held → Held → Type 0
        R s t = t ≡ (look_of call w.random s).stack

        at : Missing w call ⊎ Found w call → Tidy (Acts w call (λ s t. t ≡ (look_of call w.random s).stack)) T gone w (look_on w call)
        at (inl m) = subst (Tidy (Acts w call (λ s t. t ≡ (look_of call w.random s).stack)) T gone w) (sym m.is) (acts_off w call (λ s t. t ≡ (look_of call w.random s).stack) (λ l x o i. absurd (m.none o.number l x o.named o.linked i)))
        at (inr f) =
            let t : Held = (look_of call w.random f.x.stack).stack in
            let k : Links = change_link w.links f.link (with_stack (λ old. t)) in
            let v : World V = record w { links = k } in
            let u : World V = record v { random = (look_of call w.random f.x.stack).random } in
            subst (Tidy (Acts w call (λ s t. t ≡ (look_of call w.random s).stack)) T gone w) (sym f.is)
            (tidy_more w v u
            (tidy_on w f.link (with_stack (λ old. t)) (λ x. refl) (λ x. refl) (λ x. omega arith)
            (λ m s ne. (λ o. absurd (ne (some_same (link_number w o.number) m f.link o.linked (ap (link_number w) (some_same (named_by call) o.number f.number o.named f.named) ∙ f.linked))), λ no. refl))
            (λ x i. (λ o. ap (λ (z : Link). (look_of call w.random z.stack).stack) (some_same (look w.links f.link) f.x x f.there i), λ no. absurd (no (record { number = f.number; named = f.named; linked = f.linked })))))
            (tidy_same v u refl refl refl refl))

    -- a stack is asked, and does it or refuses
    pub acts_ask : (w : World V) (call : Call) (f : Stream → Held → Result (Held × Stream) Errno) (R : Held → Held → Type 0) → ((l : ℕ) (x : Link) → On w call l → look w.links l ≡ Some x → ((now : Held × Stream) → f w.random x.stack ≡ Ok now → R x.stack now.0) × ((e : Errno) → f w.random x.stack ≡ Err e → R x.stack x.stack)) → Tidy (Acts w call R) T gone w (ask_stack w call f)
    acts_ask w call f R h = at (named_by call) refl
      where
        none : (named_by call ≡ None) → Tidy (Acts w call R) T gone w w
        none e = acts_off w call R (λ l x o i. absurd (some_none (named_by call) o.number e o.named))

        said : (n l : ℕ) (x : Link) → (e : named_by call ≡ Some n) (g : link_number w n ≡ Some l) (i : look w.links l ≡ Some x) → (r : Result (Held × Stream) Errno) → f w.random x.stack ≡ r → Tidy (Acts w call R) T gone w (if_ok r w (put w n))
        said n l x e g i (Err y) j = acts_off w call R (λ m z o k. which m z o k)
          where
            which : (m : ℕ) (z : Link) → On w call m → look w.links m ≡ Some z → R z.stack z.stack
            which m z o k =
                let same : m ≡ l = some_same (link_number w n) m l (ap (link_number w) (some_same (named_by call) n o.number e o.named) ∙ o.linked) g in
                let is : x ≡ z = some_same (look w.links l) x z i (ap (look w.links) (sym same) ∙ k) in
                subst (λ (q : Link). R q.stack q.stack) is ((h l x (record { number = n; named = e; linked = g }) i).1 y j)
        said n l x e g i (Ok now) j =
            let v = on_named w n (with_stack (λ old. now.0)) in
            tidy_more w v (put w n now)
            (tidy_named w n (with_stack (λ old. now.0)) (λ z. refl) (λ z. refl) (λ z. omega arith) (λ m s ne. (λ o. absurd (on_other w call n m e ne o), λ no. refl))
            (λ k z q p. (λ o. which k z q p, λ no. absurd (no (record { number = n; named = e; linked = q })))))
            (tidy_same v (put w n now) refl refl refl refl)
          where
            which : (k : ℕ) (z : Link) → link_number w n ≡ Some k → look w.links k ≡ Some z → R z.stack now.0
            which k z q p =
                let same : k ≡ l = some_same (link_number w n) k l q g in
                let is : x ≡ z = some_same (look w.links l) x z i (ap (look w.links) (sym same) ∙ p) in
                subst (λ (q : Link). R q.stack now.0) is ((h l x (record { number = n; named = e; linked = g }) i).0 now j)

        linked : (n l : ℕ) → named_by call ≡ Some n → link_number w n ≡ Some l → (o : Option Link) → look w.links l ≡ o → Tidy (Acts w call R) T gone w (if_some (option_map (λ x. x.stack) o) w (λ s. if_ok (f w.random s) w (put w n)))
        linked n l e g None i = acts_off w call R (λ m z o k. absurd (some_none (look w.links l) z i (ap (look w.links) (some_same (link_number w n) l m g (ap (link_number w) (some_same (named_by call) n o.number e o.named) ∙ o.linked)) ∙ k)))
        linked n l e g (Some x) i = said n l x e g i (f w.random x.stack) refl

        number : (n : ℕ) → named_by call ≡ Some n → (o : Option ℕ) → link_number w n ≡ o → Tidy (Acts w call R) T gone w (if_some (option_map (λ x. x.stack) (if_some o None (look w.links))) w (λ s. if_ok (f w.random s) w (put w n)))
        number n e None g = acts_off w call R (λ m z o k. absurd (some_none (link_number w n) m g (ap (link_number w) (some_same (named_by call) n o.number e o.named) ∙ o.linked)))
        number n e (Some l) g = linked n l e g (look w.links l) refl

        at : (o : Option ℕ) → named_by call ≡ o → Tidy (Acts w call R) T gone w (if_some o w (λ n. if_some (stack_of w call) w (λ s. if_ok (f w.random s) w (put w n))))
        at None e = none e
        at (Some n) e = subst (λ q. Tidy (Acts w call R) T gone w (if_some q w (λ s. if_ok (f w.random s) w (put w n)))) (sym (ap (λ o. if_some o None (λ number. option_map (λ x. x.stack) (link_named w number))) e)) (number n e (link_number w n) refl)
