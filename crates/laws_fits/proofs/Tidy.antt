-- What a step leaves of numbers, of links and of who is pending, as the stacks of links see it.
use Rattle.std.proofs.Common.{◌≡◌, ◌∙◌, ◌⊎◌, inl, inr, ℕ, ◌+◌, ◌<◌, ◌≤◌, ◌==◌, List, [], ◌∷◌, ◌++◌, find, fold, cond, Bool, true, false, Option, Some, None, if◌then◌else◌, refl, sym, ap, subst, arith}
use Rattle.dill_base.specs.Maps.{if_some, change, without}
use Rattle.dill_calls.specs.declared.answer.Answer.{Answer}
use Rattle.dill_calls.specs.declared.call.Call.{Call}
use Rattle.dill_calls.specs.declared.ran.Note.TheVariants.{Moved, Freed}
use Rattle.dill_calls.specs.declared.word.Word.{Word}
use Rattle.dill_calls.specs.CallTable.{word_of}
use Rattle.dill_handles.specs.Handles as handles
use Rattle.dill_handles.specs.Handles.{Handles}
use Rattle.dill_handles.specs.declared.entry.Entry.{Entry}
use Rattle.dill_scope.proofs.Numbered.{find_without_other, find_push_kept}
use Rattle.dill_stack.specs.Interface.{Held}
use Rattle.dill_rules.specs.declared.coroutine.Coroutine.{Coroutine}
use Rattle.dill_rules.specs.declared.coroutine.Mode.TheVariants as modes
use Rattle.dill_rules.specs.declared.thing.Thing.{Thing}
use Rattle.dill_rules.specs.declared.thing.Thing.TheVariants as things
use Rattle.dill_rules.specs.World.{World, is_coroutine, with_mode, set_mode, reply, note}
use Rattle.dill_rules.specs.Effects.{make}
use Rattle.dill_rules.specs.LinkAnswers.{is_on_stack}
use Rattle.dill_rules.specs.Links.{Link, Links, look, is_link, change_link, as_closing}
use Rattle.dill_rules.specs.Owning.{entry_of, take_thing, take, move, drop, release}
use Rattle.dill_rules.specs.Sockets.{link_of, link_number, on_link, on_named}
use Rattle.laws_queue.specs.Well.{bit}
use Rattle.laws_sound.specs.Orderly.{weigh}
use Rattle.laws_sound.proofs.Counting.{weigh_found, weigh_push, weigh_without}
use Rattle.laws_sound.proofs.Noting.{take_handles}
use Rattle.laws_looks.specs.Readers.{In, Pends}
use Rattle.laws_looks.specs.Calm.{Names}
use Rattle.laws_looks.proofs.Lists.{itself, equal_is, unequal_is, true_false, in_without, in_push, find_in, some_none, some_same}
use Rattle.laws_looks.proofs.Beside.{AnyCall, make_beside}
use Rattle.laws_looks.proofs.Enters.{fewer_take}
use Rattle.laws_looks.proofs.Fewer.{links_to, take_links, fewer_move}
use Rattle.laws_queue.proofs.Numbers.{found_changed}
use Rattle.laws_looks.proofs.Quieted.{changed_other, found_change}
use Rattle.laws_queue.proofs.Crew.{take_thing_crew}

-- the link was there and wasn't closing, has as much room at least, and its stack is another so
pub record From (S : Held → Held → Type 0) (links : Links) (l : ℕ) (y : Link) : Type 0 where
  pub x : Link
  pub there : look links l ≡ Some x
  pub «open» : x.closing ≡ false
  pub most : x.most ≤ y.most
  pub stack : S x.stack y.stack

-- no link of that number is there that isn't closing
abbrev pub Shut : Links → ℕ → Type 0
Shut links l = (y : Link) → look links l ≡ Some y → y.closing ≡ true

-- the stack of each link is as it was
abbrev pub Same : ℕ → Held → Held → Type 0
Same l s t = t ≡ s

-- no number
abbrev pub NoNumber : ℕ → Type 0
NoNumber n = ⊥

-- what is the same behind, or before
join_same : (S : ℕ → Held → Held → Type 0) (l : ℕ) (s t r : Held) → S l s t → Same l t r → S l s r
join_same S l s t r a e = subst (S l s) (sym e) a

same_join : (S : ℕ → Held → Held → Type 0) (l : ℕ) (s t r : Held) → Same l s t → S l t r → S l s r
same_join S l s t r e a = subst (λ x. S l x r) e a

-- none but who is answered is put elsewhere
pub in_other : {V : Type 0} (who : ℕ) (f : Coroutine V → Coroutine V) (cs : List (Coroutine V)) (d : Coroutine V) → In d cs → (d.number ≡ who → ⊥) → In d (change (is_coroutine who) f cs)
in_other who f [] d i ne = i
in_other who f (c ∷ cs) d i ne = at (c.number == who) refl i (λ j. in_other who f cs d j ne)
  where
    at : (b : Bool) → (c.number == who) ≡ b → (d ≡ c) ⊎ In d cs → (In d cs → In d (change (is_coroutine who) f cs)) → In d (cond b (f c ∷ cs) (c ∷ change (is_coroutine who) f cs))
    at true g (inl same) rest = absurd (ne (ap (λ (x : Coroutine _). x.number) same ∙ equal_is c.number who g))
    at true g (inr j) rest = inr j
    at false g (inl same) rest = inl same
    at false g (inr j) rest = inr (rest j)

-- another owner leaves what a number names
owner_link : (n m owner : ℕ) (es : List (Entry Thing)) → if_some (find (handles.is_entry m) (change (handles.is_entry n) (handles.with_owner owner) es)) None (λ x. link_of x.thing) ≡ if_some (find (handles.is_entry m) es) None (λ x. link_of x.thing)
owner_link n m owner [] = refl
owner_link n m owner (x ∷ es) = at (handles.is_entry n x) (owner_link n m owner es)
  where
    here : (b : Bool) → if_some (cond b (Some (handles.with_owner owner x)) (find (handles.is_entry m) es)) None (λ y. link_of y.thing) ≡ if_some (cond b (Some x) (find (handles.is_entry m) es)) None (λ y. link_of y.thing)
    here true = refl
    here false = refl

    there : (b : Bool) (p q : Option (Entry Thing)) → if_some p None (λ y. link_of y.thing) ≡ if_some q None (λ y. link_of y.thing) → if_some (cond b (Some x) p) None (λ y. link_of y.thing) ≡ if_some (cond b (Some x) q) None (λ y. link_of y.thing)
    there true p q e = refl
    there false p q e = e

    at : (a : Bool) → if_some (find (handles.is_entry m) (change (handles.is_entry n) (handles.with_owner owner) es)) None (λ y. link_of y.thing) ≡ if_some (find (handles.is_entry m) es) None (λ y. link_of y.thing)
        → if_some (find (handles.is_entry m) (cond a (handles.with_owner owner x ∷ es) (x ∷ change (handles.is_entry n) (handles.with_owner owner) es))) None (λ y. link_of y.thing) ≡ if_some (cond (handles.is_entry m x) (Some x) (find (handles.is_entry m) es)) None (λ y. link_of y.thing)
    at true e = here (handles.is_entry m x)
    at false e = there (handles.is_entry m x) (find (handles.is_entry m) (change (handles.is_entry n) (handles.with_owner owner) es)) (find (handles.is_entry m) es) e

-- and what is named, and by which number
owned_in : (n owner : ℕ) (es : List (Entry Thing)) (e : Entry Thing) → In e (change (handles.is_entry n) (handles.with_owner owner) es) → (x : Entry Thing) × In x es × (x.number ≡ e.number) × (x.thing ≡ e.thing)
owned_in n owner [] e i = absurd i
owned_in n owner (y ∷ ys) e i = at (handles.is_entry n y) i (owned_in n owner ys e)
  where
    at : (b : Bool) → In e (cond b (handles.with_owner owner y ∷ ys) (y ∷ change (handles.is_entry n) (handles.with_owner owner) ys)) → (In e (change (handles.is_entry n) (handles.with_owner owner) ys) → (x : Entry Thing) × In x ys × (x.number ≡ e.number) × (x.thing ≡ e.thing)) → (x : Entry Thing) × ((x ≡ y) ⊎ In x ys) × (x.number ≡ e.number) × (x.thing ≡ e.thing)
    at true (inl same) rest = (y, inl refl, sym (ap (λ (z : Entry Thing). z.number) same), sym (ap (λ (z : Entry Thing). z.thing) same))
    at true (inr j) rest = (e, inr j, refl, refl)
    at false (inl same) rest = (y, inl refl, sym (ap (λ (z : Entry Thing). z.number) same), sym (ap (λ (z : Entry Thing). z.thing) same))
    at false (inr j) rest = let r = rest j in (r.0, inr r.1, r.2, r.3)

-- a member weighs
pub member_links : (l : ℕ) (es : List (Entry Thing)) (e : Entry Thing) → In e es → link_of e.thing ≡ Some l → 1 ≤ weigh (links_to l) es
member_links l [] e i f = absurd i
member_links l (y ∷ ys) e (inl same) f = let q : links_to l y ≡ 1 = ap (links_to l) (sym same) ∙ ap (λ o. bit (if_some o false (λ m. m == l))) f ∙ ap bit (itself l) in omega (arith, q)
member_links l (y ∷ ys) e (inr i) f = let r = member_links l ys e i f in omega (arith, r)

module _ {V : Type 0} where
  -- at most one live number names each link
  abbrev pub Once : World V → Type 0
  Once w = (l : ℕ) → weigh (links_to l) w.handles.entries ≤ 1

  -- no link that a number names is closing
  abbrev pub Opens : World V → Type 0
  Opens w = (n l : ℕ) (x : Link) → Names w n l → look w.links l ≡ Some x → x.closing ≡ false

  -- `S` says how the stack of each link is another, `T` which numbers may be others, and `gone` who may be put elsewhere.
  pub record Tidy (S : ℕ → Held → Held → Type 0) (T : ℕ → Type 0) (gone : Option ℕ) (w v : World V) : Type 0 where
    pub names : (n l : ℕ) → Names v n l → Names w n l ⊎ (w.handles.last < n)
    pub last : w.handles.last ≤ v.handles.last
    pub links : (l : ℕ) (y : Link) → look v.links l ≡ Some y → y.closing ≡ false → From (S l) w.links l y
    pub lost : (n l : ℕ) → link_number w n ≡ Some l → (link_number v n ≡ Some l) ⊎ (T n ⊎ Shut v.links l)
    pub still : (other : ℕ) (more : Call) → Pends w other more → is_on_stack (word_of more) ≡ true → (gone ≡ Some other → ⊥) → Pends v other more
    pub once : Once w → Once v
    pub «open» : Once w → Opens w → Opens v

  pub tidy_then : {S R Q : ℕ → Held → Held → Type 0} {T : ℕ → Type 0} {gone : Option ℕ} (w v u : World V) → ((l : ℕ) (s t r : Held) → S l s t → R l t r → Q l s r) → Tidy S T gone w v → Tidy R T gone v u → Tidy Q T gone w u
  tidy_then {S} {R} {Q} {T} w v u join a b = record {
    names = λ n l p. named n l (b.names n l p);
    last = let x = a.last in let y = b.last in omega (arith, x, y);
    links = λ l z i o. let f = b.links l z i o in let g = a.links l f.x f.there f.«open» in
        record { x = g.x; there = g.there; «open» = g.«open»; most = let x = f.most in let y = g.most in omega (arith, x, y); stack = join l g.x.stack f.x.stack z.stack g.stack f.stack };
    lost = λ n l e. first n l (a.lost n l e);
    still = λ other more p on ne. b.still other more (a.still other more p on ne) on ne;
    once = λ h. b.once (a.once h);
    «open» = λ h o. b.«open» (a.once h) (a.«open» h o);
  }
    where
      named : (n l : ℕ) → Names v n l ⊎ (v.handles.last < n) → Names w n l ⊎ (w.handles.last < n)
      named n l (inl p) = a.names n l p
      named n l (inr g) = let x = a.last in inr (omega (arith, x, g))

      shut : (l : ℕ) → Shut v.links l → Shut u.links l
      shut l h z i = at z.closing refl
        where
          at : (c : Bool) → z.closing ≡ c → c ≡ true
          at true e = refl
          at false e = let f = b.links l z i e in sym (sym (h f.x f.there) ∙ f.«open»)

      first : (n l : ℕ) → (link_number v n ≡ Some l) ⊎ (T n ⊎ Shut v.links l) → (link_number u n ≡ Some l) ⊎ (T n ⊎ Shut u.links l)
      first n l (inl e) = b.lost n l e
      first n l (inr (inl t)) = inr (inl t)
      first n l (inr (inr h)) = inr (inr (shut l h))

  -- another owner leaves links, and what numbers name
  pub take_links_all : (w : World V) (number owner : ℕ) → (take w number owner).links ≡ w.links
  take_links_all w number owner = at (entry_of w number)
    where
      at : (o : Option (Entry Thing)) → (if_some o w (λ x. take_thing (record w { handles = handles.set_owner w.handles number owner }) x.thing owner)).links ≡ w.links
      at None = refl
      at (Some x) = take_links (record w { handles = handles.set_owner w.handles number owner }) x.thing owner

  pub take_named : (w : World V) (number owner n : ℕ) → link_number (take w number owner) n ≡ link_number w n
  take_named w number owner n = at (entry_of w number)
    where
      at : (o : Option (Entry Thing)) → link_number (if_some o w (λ x. take_thing (record w { handles = handles.set_owner w.handles number owner }) x.thing owner)) n ≡ link_number w n
      at None = refl
      at (Some x) = ap (λ (h : Handles Thing). if_some (handles.look h n) None (λ y. link_of y.thing)) (take_handles (record w { handles = handles.set_owner w.handles number owner }) x.thing owner) ∙ owner_link number n owner w.handles.entries

  module _ {T : ℕ → Type 0} {gone : Option ℕ} where
    -- the same coroutines, numbers and links
    pub tidy_same : (w v : World V) → v.coroutines ≡ w.coroutines → v.handles.entries ≡ w.handles.entries → v.handles.last ≡ w.handles.last → v.links.all ≡ w.links.all → Tidy Same T gone w v
    tidy_same w v e f g h = record {
      names = λ n l p. inl (record { entry = p.entry; there = subst (In p.entry) f p.there; number = p.number; link = p.link });
      last = omega (arith, g);
      links = λ l y i o. record { x = y; there = ap (find (is_link l)) (sym h) ∙ i; «open» = o; most = omega arith; stack = refl };
      lost = λ n l i. inl (ap (λ es. if_some (find (handles.is_entry n) es) None (λ x. link_of x.thing)) f ∙ i);
      still = λ other more p on ne. record { one = p.one; there = subst (In p.one) (sym e) p.there; number = p.number; mode = p.mode };
      once = λ o l. subst (λ es. weigh (links_to l) es ≤ 1) (sym f) (o l);
      «open» = λ o all n l x p i. all n l x (record { entry = p.entry; there = subst (In p.entry) f p.there; number = p.number; link = p.link }) (ap (find (is_link l)) (sym h) ∙ i);
    }

    pub tidy_not : (w : World V) → Tidy Same T gone w w
    tidy_not w = tidy_same w w refl refl refl refl

    -- the links are others, each of one that was there
    pub tidy_links : {S : ℕ → Held → Held → Type 0} (w : World V) (k : Links) → ((l : ℕ) (y : Link) → look k l ≡ Some y → (x : Link) × (look w.links l ≡ Some x) × (y.closing ≡ x.closing) × (x.most ≤ y.most) × S l x.stack y.stack) → Tidy S T gone w (record w { links = k })
    tidy_links w k h = record {
      names = λ n l p. inl p;
      last = omega arith;
      links = λ l y i o. let r = h l y i in record { x = r.0; there = r.1; «open» = sym r.2 ∙ o; most = r.3; stack = r.4 };
      lost = λ n l e. inl e;
      still = λ other more p on ne. p;
      once = λ o. o;
      «open» = λ o all n l y p i. let r = h l y i in r.2 ∙ all n l r.0 p r.1;
    }

    -- one link is another
    pub tidy_on : {S : ℕ → Held → Held → Type 0} (w : World V) (l : ℕ) (f : Link → Link) → ((x : Link) → (f x).number ≡ x.number) → ((x : Link) → (f x).closing ≡ x.closing) → ((x : Link) → x.most ≤ (f x).most) → ((m : ℕ) (s : Held) → (m ≡ l → ⊥) → S m s s) → ((x : Link) → look w.links l ≡ Some x → S l x.stack (f x).stack) → Tidy S T gone w (on_link w l f)
    tidy_on {S} w l f number closing most same stack = tidy_links w (change_link w.links l f) (λ m y i. by m y i (m == l) refl)
      where
        its : (m : ℕ) (y x : Link) → look w.links m ≡ Some x → m ≡ l → y ≡ f x → (z : Link) × (look w.links m ≡ Some z) × (y.closing ≡ z.closing) × (z.most ≤ y.most) × S m z.stack y.stack
        its m y x i same is = (
          x,
          i,
          ap (λ (z : Link). z.closing) is ∙ closing x,
          let e = ap (λ (z : Link). z.most) is in let b = most x in omega (arith, e, b),
          subst (λ (z : Link). S m x.stack z.stack) (sym is) (subst (λ k. S k x.stack (f x).stack) (sym same) (stack x (ap (look w.links) (sym same) ∙ i))),
        )

        by : (m : ℕ) (y : Link) → look (change_link w.links l f) m ≡ Some y → (b : Bool) → (m == l) ≡ b → (z : Link) × (look w.links m ≡ Some z) × (y.closing ≡ z.closing) × (z.most ≤ y.most) × S m z.stack y.stack
        by m y i false e = (y, sym (changed_other f number l m w.links.all e) ∙ i, refl, omega arith, same m y.stack (unequal_is m l e))
        by m y i true e = let r = found_change f number l m w.links.all y i in at r.0 r.1 r.2
          where
            is : m ≡ l
            is = equal_is m l e

            at : (x : Link) → look w.links m ≡ Some x → (y ≡ x) ⊎ ((m ≡ l) × (y ≡ f x)) → (z : Link) × (look w.links m ≡ Some z) × (y.closing ≡ z.closing) × (z.most ≤ y.most) × S m z.stack y.stack
            at x j (inr q) = its m y x j is q.1
            at x j (inl q) =
                let there : look (change_link w.links l f) m ≡ Some (f x) = ap (look (change_link w.links l f)) is ∙ found_changed (is_link l) f x w.links.all (λ z. ap (λ k. k == l) (number z)) (ap (look w.links) (sym is) ∙ j) in
                its m y x j is (some_same (look (change_link w.links l f) m) y (f x) i there)

    -- the link that a number names is another
    pub tidy_named : {S : ℕ → Held → Held → Type 0} (w : World V) (n : ℕ) (f : Link → Link) → ((x : Link) → (f x).number ≡ x.number) → ((x : Link) → (f x).closing ≡ x.closing) → ((x : Link) → x.most ≤ (f x).most) → ((m : ℕ) (s : Held) → (link_number w n ≡ Some m → ⊥) → S m s s) → ((l : ℕ) (x : Link) → link_number w n ≡ Some l → look w.links l ≡ Some x → S l x.stack (f x).stack) → Tidy S T gone w (on_named w n f)
    tidy_named {S} w n f number closing most same stack = at (link_number w n) refl
      where
        at : (o : Option ℕ) → link_number w n ≡ o → Tidy S T gone w (if_some o w (λ l. on_link w l f))
        at None e = tidy_links w w.links (λ l y i. (y, i, refl, omega arith, same l y.stack (λ g. some_none (link_number w n) l e g)))
        at (Some l) e = tidy_on w l f number closing most (λ m s ne. same m s (λ g. ne (some_same (link_number w n) m l g e))) (λ x i. stack l x e i)

    pub tidy_some : {A : Type 0} {S : ℕ → Held → Held → Type 0} (o : Option A) (w u : World V) (f : A → World V) → Tidy S T gone w u → ((a : A) → Tidy S T gone w (f a)) → Tidy S T gone w (if_some o u f)
    tidy_some None w u f e h = e
    tidy_some (Some a) w u f e h = h a

    pub tidy_if : {S : ℕ → Held → Held → Type 0} (b : Bool) (w v u : World V) → Tidy S T gone w v → Tidy S T gone w u → Tidy S T gone w (if b then v else u)
    tidy_if true w v u e f = e
    tidy_if false w v u e f = f

    pub tidy_more : {S : ℕ → Held → Held → Type 0} (w v u : World V) → Tidy S T gone w v → Tidy Same T gone v u → Tidy S T gone w u
    tidy_more {S} w v u a b = tidy_then w v u (join_same S) a b

    pub tidy_first : {S : ℕ → Held → Held → Type 0} (w v u : World V) → Tidy Same T gone w v → Tidy S T gone v u → Tidy S T gone w u
    tidy_first {S} w v u a b = tidy_then w v u (same_join S) a b

    pub tidy_each : {A : Type 0} (f : World V → A → World V) (xs : List A) (w : World V) → ((v : World V) (a : A) → In a xs → Tidy Same T gone v (f v a)) → Tidy Same T gone w (fold f w xs)
    tidy_each f [] w h = tidy_not w
    tidy_each f (x ∷ xs) w h = tidy_more w (f w x) (fold f (f w x) xs) (h w x (inl refl)) (tidy_each f xs (f w x) (λ v a i. h v a (inr i)))

    -- ---- numbers

    pub tidy_make : (w : World V) (thing : Thing) (owner : ℕ) → link_of thing ≡ None → Tidy Same T gone w (make w thing owner)
    tidy_make w thing owner none = record {
      names = (make_beside AnyCall w thing owner).names;
      last = omega arith;
      links = λ l y i o. record { x = y; there = i; «open» = o; most = omega arith; stack = refl };
      lost = λ n l e. inl (kept n l (entry_of w n) refl e);
      still = λ other more p on ne. p;
      once = λ o l.
          let p = weigh_push (links_to l) w.handles.entries new in
          let q : links_to l new ≡ 0 = ap (λ k. bit (if_some k false (λ m. m == l))) none in
          let r = o l in
          omega (arith, p, q, r);
      «open» = λ o all n l x p i. old n l x p i all (in_push w.handles.entries new p.entry p.there);
    }
      where
        new : Entry Thing
        new = record { number = handles.next_number w.handles; thing = thing; owner = owner }

        kept : (n l : ℕ) (q : Option (Entry Thing)) → entry_of w n ≡ q → if_some q None (λ x. link_of x.thing) ≡ Some l → link_number (make w thing owner) n ≡ Some l
        kept n l None e f = cc
        kept n l (Some x) e f = ap (λ q. if_some q None (λ (y : Entry Thing). link_of y.thing)) (find_push_kept (λ (y : Entry Thing). y.number) n w.handles.entries new x e) ∙ f

        old : (n l : ℕ) (x : Link) (p : Names (make w thing owner) n l) → look w.links l ≡ Some x → Opens w → In p.entry w.handles.entries ⊎ (p.entry ≡ new) → x.closing ≡ false
        old n l x p i all (inl j) = all n l x (record { entry = p.entry; there = j; number = p.number; link = p.link }) i
        old n l x p i all (inr same) = let bad : None ≡ Some l = sym none ∙ ap (λ (y : Entry Thing). link_of y.thing) (sym same) ∙ p.link in cc

    -- another owner
    pub tidy_take : (w : World V) (number owner : ℕ) → Tidy Same T gone w (take w number owner)
    tidy_take w number owner = at (entry_of w number) (fewer_take w number owner).links
      where
        less : World V
        less = record w { handles = handles.set_owner w.handles number owner }

        held : (x : Entry Thing) → (take_thing less x.thing owner).handles ≡ less.handles
        held x = take_handles less x.thing owner

        named : (x : Entry Thing) (n l : ℕ) → Names (take_thing less x.thing owner) n l → Names w n l
        named x n l p =
            let r = owned_in number owner w.handles.entries p.entry (subst (λ (h : Handles Thing). In p.entry h.entries) (held x) p.there) in
            record { entry = r.0; there = r.1; number = r.2 ∙ p.number; link = ap link_of r.3 ∙ p.link }

        at : (o : Option (Entry Thing)) → ((l : ℕ) → weigh (links_to l) (if_some o w (λ x. take_thing less x.thing owner)).handles.entries ≤ weigh (links_to l) w.handles.entries) → Tidy Same T gone w (if_some o w (λ x. take_thing less x.thing owner))
        at None few = tidy_not w
        at (Some x) few = record {
          names = λ n l p. inl (named x n l p);
          last = let e = ap (λ (h : Handles Thing). h.last) (held x) in omega (arith, e);
          links = λ l y i o. record { x = y; there = ap (λ k. look k l) (sym (take_links less x.thing owner)) ∙ i; «open» = o; most = omega arith; stack = refl };
          lost = λ n l e. inl (ap (λ (h : Handles Thing). if_some (handles.look h n) None (λ y. link_of y.thing)) (held x) ∙ owner_link number n owner w.handles.entries ∙ e);
          still = λ other more p on ne. record { one = p.one; there = subst (In p.one) (sym (take_thing_crew less x.thing owner).coroutines) p.there; number = p.number; mode = p.mode };
          once = λ o l. let f = few l in let g = o l in omega (arith, f, g);
          «open» = λ o all n l y p i. all n l y (named x n l p) (ap (λ k. look k l) (sym (take_links less x.thing owner)) ∙ i);
        }

    -- another number
    pub tidy_move : (w : World V) (number owner : ℕ) → T number → Tidy Same T gone w (move w number owner)
    tidy_move w number owner t = at (entry_of w number) refl (fewer_move w number owner).links
      where
        more : Entry Thing → World V
        more x = record w { handles = handles.renumber w.handles number x.thing owner }

        new : Entry Thing → Entry Thing
        new x = record { number = handles.next_number w.handles; thing = x.thing; owner = owner }

        held : (x : Entry Thing) → (take_thing (more x) x.thing owner).handles ≡ (more x).handles
        held x = take_handles (more x) x.thing owner

        its : (x : Entry Thing) (n l : ℕ) (p : Names (take_thing (more x) x.thing owner) n l) → In p.entry (without (handles.is_entry number) w.handles.entries) ⊎ (p.entry ≡ new x)
        its x n l p = in_push (without (handles.is_entry number) w.handles.entries) (new x) p.entry (subst (λ (h : Handles Thing). In p.entry h.entries) (held x) p.there)

        named : (x : Entry Thing) (n l : ℕ) (p : Names (take_thing (more x) x.thing owner) n l) → In p.entry (without (handles.is_entry number) w.handles.entries) ⊎ (p.entry ≡ new x) → Names w n l ⊎ (w.handles.last < n)
        named x n l p (inl i) = inl (record { entry = p.entry; there = in_without (handles.is_entry number) w.handles.entries p.entry i; number = p.number; link = p.link })
        named x n l p (inr same) = let e : n ≡ w.handles.last + 1 = sym p.number ∙ ap (λ (y : Entry Thing). y.number) same in inr (omega (arith, e))

        opened : (x : Entry Thing) → entry_of w number ≡ Some x → (n l : ℕ) (y : Link) (p : Names (take_thing (more x) x.thing owner) n l) → look w.links l ≡ Some y → Opens w → In p.entry (without (handles.is_entry number) w.handles.entries) ⊎ (p.entry ≡ new x) → y.closing ≡ false
        opened x e n l y p i all (inl j) = all n l y (record { entry = p.entry; there = in_without (handles.is_entry number) w.handles.entries p.entry j; number = p.number; link = p.link }) i
        opened x e n l y p i all (inr same) = all x.number l y (record { entry = x; there = find_in (handles.is_entry number) w.handles.entries x e; number = refl; link = ap (λ (z : Entry Thing). link_of z.thing) (sym same) ∙ p.link }) i

        kept : (x : Entry Thing) (n l : ℕ) → (n == number) ≡ false → link_number w n ≡ Some l → link_number (take_thing (more x) x.thing owner) n ≡ Some l
        kept x n l ne e = ap (λ (h : Handles Thing). if_some (handles.look h n) None (λ y. link_of y.thing)) (held x) ∙ by (entry_of w n) refl e
          where
            by : (o : Option (Entry Thing)) → entry_of w n ≡ o → if_some o None (λ y. link_of y.thing) ≡ Some l → if_some (find (handles.is_entry n) (without (handles.is_entry number) w.handles.entries ++ new x ∷ [])) None (λ y. link_of y.thing) ≡ Some l
            by None f g = cc
            by (Some z) f g =
                ap (λ q. if_some q None (λ (y : Entry Thing). link_of y.thing)) (find_push_kept (λ (y : Entry Thing). y.number) n (without (handles.is_entry number) w.handles.entries) (new x) z (find_without_other (λ (y : Entry Thing). y.number) n number w.handles.entries (unequal_is n number ne) ∙ f)) ∙ g

        which : (x : Entry Thing) (n l : ℕ) → (b : Bool) → (n == number) ≡ b → link_number w n ≡ Some l → (link_number (take_thing (more x) x.thing owner) n ≡ Some l) ⊎ (T n ⊎ Shut (take_thing (more x) x.thing owner).links l)
        which x n l true e f = inr (inl (subst T (sym (equal_is n number e)) t))
        which x n l false e f = inl (kept x n l e f)

        at : (o : Option (Entry Thing)) → entry_of w number ≡ o
            → ((l : ℕ) → weigh (links_to l) (if_some o w (λ x. note (take_thing (more x) x.thing owner) (Moved number (handles.next_number w.handles)))).handles.entries ≤ weigh (links_to l) w.handles.entries)
            → Tidy Same T gone w (if_some o w (λ x. note (take_thing (more x) x.thing owner) (Moved number (handles.next_number w.handles))))
        at None e few = tidy_not w
        at (Some x) e few = record {
          names = λ n l p. let q : Names (take_thing (more x) x.thing owner) n l = record { entry = p.entry; there = p.there; number = p.number; link = p.link } in named x n l q (its x n l q);
          last = let g = ap (λ (h : Handles Thing). h.last) (held x) in omega (arith, g);
          links = λ l y i o. record { x = y; there = ap (λ k. look k l) (sym (take_links (more x) x.thing owner)) ∙ i; «open» = o; most = omega arith; stack = refl };
          lost = λ n l f. which x n l (n == number) refl f;
          still = λ other its p on ne. record { one = p.one; there = subst (In p.one) (sym (take_thing_crew (more x) x.thing owner).coroutines) p.there; number = p.number; mode = p.mode };
          once = λ o l. let f = few l in let g = o l in omega (arith, f, g);
          «open» = λ o all n l y p i.
              let q : Names (take_thing (more x) x.thing owner) n l = record { entry = p.entry; there = p.there; number = p.number; link = p.link } in
              opened x e n l y q (ap (λ k. look k l) (sym (take_links (more x) x.thing owner)) ∙ i) all (its x n l q);
        }

    -- a number is dead of which nothing is asked
    pub tidy_retire : (w : World V) (number : ℕ) → T number → Tidy Same T gone w (record w { handles = handles.retire w.handles number })
    tidy_retire w number t = record {
      names = λ n l p. inl (named n l p);
      last = omega arith;
      links = λ l y i o. record { x = y; there = i; «open» = o; most = omega arith; stack = refl };
      lost = λ n l e. which n l (n == number) refl e;
      still = λ other more p on ne. p;
      once = λ o l. let f = weigh_without (links_to l) (handles.is_entry number) w.handles.entries in let g = o l in omega (arith, f, g);
      «open» = λ o all n l y p i. all n l y (named n l p) i;
    }
      where
        less : World V
        less = record w { handles = handles.retire w.handles number }

        named : (n l : ℕ) → Names less n l → Names w n l
        named n l p = record { entry = p.entry; there = in_without (handles.is_entry number) w.handles.entries p.entry p.there; number = p.number; link = p.link }

        which : (n l : ℕ) (b : Bool) → (n == number) ≡ b → link_number w n ≡ Some l → (link_number less n ≡ Some l) ⊎ (T n ⊎ Shut w.links l)
        which n l true e f = inr (inl (subst T (sym (equal_is n number e)) t))
        which n l false e f = inl (ap (λ o. if_some o None (λ (y : Entry Thing). link_of y.thing)) (find_without_other (λ (y : Entry Thing). y.number) n number w.handles.entries (unequal_is n number e)) ∙ f)

    -- a number is dead, and its link is closing
    pub tidy_release : (w : World V) (number : ℕ) → Tidy Same T gone w (release w number)
    tidy_release w number = at (entry_of w number) refl
      where
        less : World V
        less = record w { handles = handles.retire w.handles number }

        named : (n l : ℕ) → Names less n l → Names w n l
        named n l p = record { entry = p.entry; there = in_without (handles.is_entry number) w.handles.entries p.entry p.there; number = p.number; link = p.link }

        kept : (n l : ℕ) → (n == number) ≡ false → link_number w n ≡ Some l → link_number less n ≡ Some l
        kept n l e f = ap (λ o. if_some o None (λ (y : Entry Thing). link_of y.thing)) (find_without_other (λ (y : Entry Thing). y.number) n number w.handles.entries (unequal_is n number e)) ∙ f

        -- it is no link's
        plain : (x : Entry Thing) → entry_of w number ≡ Some x → link_of x.thing ≡ None → Tidy Same T gone w less
        plain x e none = record {
          names = λ n l p. inl (named n l p);
          last = omega arith;
          links = λ l y i o. record { x = y; there = i; «open» = o; most = omega arith; stack = refl };
          lost = λ n l f. which n l (n == number) refl f;
          still = λ other more p on ne. p;
          once = λ o l. let f = weigh_without (links_to l) (handles.is_entry number) w.handles.entries in let g = o l in omega (arith, f, g);
          «open» = λ o all n l y p i. all n l y (named n l p) i;
        }
          where
            which : (n l : ℕ) (b : Bool) → (n == number) ≡ b → link_number w n ≡ Some l → (link_number less n ≡ Some l) ⊎ (T n ⊎ Shut w.links l)
            which n l true g f =
                let bad : None ≡ Some l = sym none ∙ ap (λ o. if_some o None (λ (y : Entry Thing). link_of y.thing)) (sym e) ∙ ap (link_number w) (sym (equal_is n number g)) ∙ f in cc
            which n l false g f = inl (kept n l g f)

        -- the link of its thing
        closes : (x : Entry Thing) (k : ℕ) → entry_of w number ≡ Some x → link_of x.thing ≡ Some k → Tidy Same T gone w (on_link less k as_closing)
        closes x k e link = record {
          names = λ n l p. inl (named n l p);
          last = omega arith;
          links = λ l y i o. kept_link l y i o (l == k) refl;
          lost = λ n l f. which n l (n == number) refl f;
          still = λ other more p on ne. p;
          once = λ o l. let f = weigh_without (links_to l) (handles.is_entry number) w.handles.entries in let g = o l in omega (arith, f, g);
          «open» = λ o all n l y p i. left o all n l y p i (l == k) refl;
        }
          where
            shut : (y : Link) → look (change_link w.links k as_closing) k ≡ Some y → y.closing ≡ true
            shut y i = let r = found_change as_closing (λ z. refl) k k w.links.all y i in by r.0 r.1 r.2
              where
                by : (z : Link) → look w.links k ≡ Some z → (y ≡ z) ⊎ ((k ≡ k) × (y ≡ as_closing z)) → y.closing ≡ true
                by z j (inr is) = ap (λ (q : Link). q.closing) is.1
                by z j (inl same) = let it = some_same (look (change_link w.links k as_closing) k) y (as_closing z) i (found_changed (is_link k) as_closing z w.links.all (λ q. refl) j) in ap (λ (q : Link). q.closing) it

            kept_link : (l : ℕ) (y : Link) → look (change_link w.links k as_closing) l ≡ Some y → y.closing ≡ false → (b : Bool) → (l == k) ≡ b → From (Same l) w.links l y
            kept_link l y i o true g = absurd (true_false y.closing (shut y (ap (look (change_link w.links k as_closing)) (sym (equal_is l k g)) ∙ i)) o)
            kept_link l y i o false g = record { x = y; there = sym (changed_other as_closing (λ q. refl) k l w.links.all g) ∙ i; «open» = o; most = omega arith; stack = refl }

            which : (n l : ℕ) (b : Bool) → (n == number) ≡ b → link_number w n ≡ Some l → (link_number less n ≡ Some l) ⊎ (T n ⊎ Shut (change_link w.links k as_closing) l)
            which n l true g f =
                let it : ◌≡◌ {A = Option ℕ} (Some k) (Some l) = sym link ∙ ap (λ o. if_some o None (λ (y : Entry Thing). link_of y.thing)) (sym e) ∙ ap (link_number w) (sym (equal_is n number g)) ∙ f in
                let same : k ≡ l = cc in
                inr (inr (λ y i. shut y (ap (look (change_link w.links k as_closing)) same ∙ i)))
            which n l false g f = inl (kept n l g f)

            left : Once w → Opens w → (n l : ℕ) (y : Link) → Names less n l → look (change_link w.links k as_closing) l ≡ Some y → (b : Bool) → (l == k) ≡ b → y.closing ≡ false
            left o all n l y p i true g =
                let same : l ≡ k = equal_is l k g in
                let one : links_to k x ≡ 1 = ap (λ q. bit (if_some q false (λ m. m == k))) link ∙ ap bit (itself k) in
                let found = weigh_found (links_to k) (handles.is_entry number) w.handles.entries x e in
                let more = member_links k (without (handles.is_entry number) w.handles.entries) p.entry p.there (p.link ∙ ap Some same) in
                let few = o k in
                absurd (omega (arith, one, found, more, few))
            left o all n l y p i false g = all n l y (named n l p) (sym (changed_other as_closing (λ q. refl) k l w.links.all g) ∙ i)

        noted : (v : World V) → Tidy Same T gone w v → Tidy Same T gone w (note v (Freed number))
        noted v t = tidy_more w v (note v (Freed number)) t (tidy_same v (note v (Freed number)) refl refl refl refl)

        by : (x : Entry Thing) (thing : Thing) → entry_of w number ≡ Some x → x.thing ≡ thing → Tidy Same T gone w (note (drop less thing) (Freed number))
        by x (things.Bundle name) e f = noted less (plain x e (ap link_of f))
        by x (things.End end) e f = let v = drop less (things.End end) in noted v (tidy_more w less v (plain x e (ap link_of f)) (tidy_same less v refl refl refl refl))
        by x (things.Listener l) e f = noted (on_link less l as_closing) (closes x l e (ap link_of f))
        by x (things.Socket l) e f = noted (on_link less l as_closing) (closes x l e (ap link_of f))
        by x (things.Value kind value) e f = noted less (plain x e (ap link_of f))

        at : (o : Option (Entry Thing)) → entry_of w number ≡ o → Tidy Same T gone w (if_some o w (λ x. note (drop less x.thing) (Freed number)))
        at None e = tidy_not w
        at (Some x) e = by x x.thing e refl

    -- ---- coroutines

    -- one is put elsewhere
    pub tidy_mode : (w : World V) (who : ℕ) (f : Coroutine V → Coroutine V) → gone ≡ Some who → Tidy Same T gone w (record w { coroutines = change (is_coroutine who) f w.coroutines })
    tidy_mode w who f e = record {
      names = λ n l p. inl p;
      last = omega arith;
      links = λ l y i o. record { x = y; there = i; «open» = o; most = omega arith; stack = refl };
      lost = λ n l g. inl g;
      still = λ other more p on ne. record { one = p.one; there = in_other who f w.coroutines p.one p.there (λ same. ne (e ∙ ap Some (sym same ∙ p.number))); number = p.number; mode = p.mode };
      once = λ o. o;
      «open» = λ o all. all;
    }

    pub tidy_reply : (w : World V) (who : ℕ) (word : Word) (answer : Answer) → gone ≡ Some who → Tidy Same T gone w (reply w who word answer)
    tidy_reply w who word answer e =
        let v = set_mode w who (modes.Fresh word answer) in
        tidy_more w v (reply w who word answer) (tidy_mode w who (with_mode (modes.Fresh word answer)) e) (tidy_same v (reply w who word answer) refl refl refl refl)
