-- What fits still does behind a step: each link that the step touches softly, and each that it makes fit.
use Rattle.std.proofs.Common.{◌≡◌, ◌∙◌, ◌⊎◌, inl, inr, ℕ, ◌<◌, ◌≤◌, ◌==◌, Bool, true, false, not, ◌&&◌, ◌||◌, Option, Some, None, refl, sym, ap, subst, arith}
use Rattle.std.specs.Prelude.{is_some, option_map}
use Rattle.dill_calls.specs.declared.call.Call.{Call}
use Rattle.dill_calls.specs.declared.call.Call.TheVariants as calls
use Rattle.dill_calls.specs.CallTable.{word_of, named_by, gives_up}
use Rattle.dill_stack.specs.declared.parting.Parting.{Parting}
use Rattle.dill_stack.specs.declared.task.Task.TheVariants.{Expects}
use Rattle.dill_stack.specs.declared.want.Want.{Want}
use Rattle.dill_stack.specs.Interface.{Held, is_sent}
use Rattle.dill_rules.specs.Directions.{is_send, is_receive, is_handshake, asked, parting_of}
use Rattle.dill_rules.specs.LinkAnswers.{is_tcp_done, is_on_stack}
use Rattle.dill_rules.specs.Links.{Link, Links, look, rested_link, rested}
use Rattle.laws_looks.proofs.Stays.{find_rested}
use Rattle.dill_base.specs.Maps.{if_some}
use Rattle.dill_handles.specs.Handles as handles
use Rattle.dill_rules.specs.declared.thing.Thing.{Thing}
use Rattle.dill_rules.specs.Sockets.{link_of, link_number}
use Rattle.dill_rules.specs.World.{World}
use Rattle.laws_queue.specs.Well.{Numbered}
use Rattle.laws_sound.proofs.Counting.{small_bit}
use Rattle.laws_looks.proofs.Fewer.{weigh_linked}
use Rattle.laws_looks.specs.Readers.{In, Pends, may_name, LooksApart}
use Rattle.laws_looks.specs.Calm.{Names}
use Rattle.laws_looks.proofs.Lists.{true_false, equal_is, unequal_is}
use Rattle.laws_fits.specs.Fitting.{shakes, queues, IsSolid, FitsCall, Holds, IsFitting}
use Rattle.laws_fits.proofs.Layers.{same_top, same_length}
use Rattle.laws_fits.proofs.Stacks.{Soft, soft_same, soft_may}
use Rattle.laws_fits.proofs.Tidy.{NoNumber, From, Once, Opens, Tidy}

-- ---- which calls ask something of a stack

pub asked_on : (call : Call) (want : Want) → asked call ≡ Some want → is_on_stack (word_of call) ≡ true
asked_on (calls.Brecv number size deadline) want e = refl
asked_on (calls.Mrecv number limit deadline) want e = refl
asked_on (calls.HttpRecvrequest number deadline) want e = refl
asked_on (calls.HttpRecvstatus number deadline) want e = refl
asked_on (calls.HttpRecvfield number deadline) want e = refl
asked_on _ want e = cc

pub parting_on : (call : Call) (parting : Parting) → parting_of call ≡ Some parting → is_on_stack (word_of call) ≡ true
parting_on (calls.PrefixDetach number) parting e = refl
parting_on (calls.SuffixDetach number) parting e = refl
parting_on (calls.TermDetach number deadline) parting e = refl
parting_on (calls.HttpDetach number deadline) parting e = refl
parting_on (calls.WsDetach number code reason deadline) parting e = refl
parting_on _ parting e = cc

third_true : (a b c d : Bool) → c ≡ true → (a || (b || (c || d))) ≡ true
third_true true b c d e = refl
third_true false true c d e = refl
third_true false false c d e = ap (λ x. x || d) e

first_true : (a b : Bool) → a ≡ true → (a || b) ≡ true
first_true a b e = ap (λ x. x || b) e

pub shakes_on : (call : Call) → shakes call ≡ true → is_on_stack (word_of call) ≡ true
shakes_on call e = third_true (is_send (word_of call)) (is_receive (word_of call)) (is_handshake (word_of call)) (gives_up (word_of call)) e

pub queues_on : (call : Call) → queues call ≡ true → is_on_stack (word_of call) ≡ true
queues_on call e = at (is_send (word_of call)) refl (shakes call) refl (parting_of call) refl e
  where
    at : (a : Bool) → is_send (word_of call) ≡ a → (b : Bool) → shakes call ≡ b → (o : Option Parting) → parting_of call ≡ o → (a && not (is_tcp_done (word_of call)) || (b || is_some o)) ≡ true → is_on_stack (word_of call) ≡ true
    at true f b g o h i = first_true (is_send (word_of call)) _ f
    at false f true g o h i = shakes_on call g
    at false f false g (Some parting) h i = parting_on call parting h
    at false f false g None h i = cc

pub shakes_queue : (call : Call) → shakes call ≡ true → queues call ≡ true
shakes_queue call e = at (is_send (word_of call) && not (is_tcp_done (word_of call))) e
  where
    at : (a : Bool) → shakes call ≡ true → (a || (shakes call || is_some (parting_of call))) ≡ true
    at true f = refl
    at false f = ap (λ b. b || is_some (parting_of call)) f

-- no call is new
abbrev pub NoCall : ℕ → Call → Type 0
NoCall other more = ⊥

pub off_fits : (call : Call) (x : Link) → is_on_stack (word_of call) ≡ false → FitsCall call x
off_fits call x off = record {
  receives = λ want e. absurd (true_false (is_on_stack (word_of call)) (asked_on call want e) off);
  greets = λ e. absurd (true_false (is_on_stack (word_of call)) (shakes_on call e) off);
  leaves = λ parting e. absurd (true_false (is_on_stack (word_of call)) (parting_on call parting e) off);
}

-- a pending call that fits still does behind a soft step
pub soft_fits : (may : Type 0) (call : Call) (x y : Link) → x.most ≤ y.most → Soft may x.stack y.stack → FitsCall call x → FitsCall call y
soft_fits may call x y most s f = record {
  receives = λ want e. let r = f.receives want e in let a = r.0 in (omega (arith, a, most), same_top want x.stack.layers y.stack.layers s.layers r.1);
  greets = λ e. s.greets (f.greets e);
  leaves = λ parting e. let r = f.leaves parting e in let l = same_length x.stack.layers y.stack.layers s.layers in let a = r.1 in (s.leaves r.0, omega (arith, l, a));
}

-- a link is there but for what the stack and the calls don't see
abbrev pub Near : Links → Links → Type 0
Near l m = (n : ℕ) (y : Link) → look m n ≡ Some y → (x : Link) × (look l n ≡ Some x) × (y.closing ≡ x.closing) × (y.most ≡ x.most) × (y.stack ≡ x.stack)

pub near_same : (l m : Links) → m ≡ l → Near l m
near_same l m e n y i = (y, ap (λ q. look q n) (sym e) ∙ i, refl, refl, refl)

-- so it is as a round begins
pub near_rested : (l : Links) → Near l (rested l)
near_rested l n y i = at (look l n) refl (sym (find_rested n l.all) ∙ i)
  where
    at : (o : Option Link) → look l n ≡ o → option_map rested_link o ≡ Some y → (x : Link) × (look l n ≡ Some x) × (y.closing ≡ x.closing) × (y.most ≡ x.most) × (y.stack ≡ x.stack)
    at None e f = cc
    at (Some x) e f = let it : rested_link x ≡ y = cc in (x, e, ap (λ (z : Link). z.closing) (sym it), ap (λ (z : Link). z.most) (sym it), ap (λ (z : Link). z.stack) (sym it))

module _ {V : Type 0} where
  -- the number of a pending call on a stack was given
  abbrev pub Low : World V → Type 0
  Low w = (other : ℕ) (more : Call) (n : ℕ) → Pends w other more → is_on_stack (word_of more) ≡ true → named_by more ≡ Some n → n ≤ w.handles.last

  -- what no stack and no pending call sees
  pub aside_fits : (w v : World V) → ((other : ℕ) (more : Call) → Pends v other more → Pends w other more) → ((other : ℕ) (more : Call) → Pends w other more → Pends v other more) → v.handles ≡ w.handles
      → Near w.links v.links → IsFitting w → IsFitting v
  aside_fits w v calls back g near h = record {
    «open» = λ n l y p i. let r = near l y i in r.2 ∙ h.«open» n l r.0 (names n l p) r.1;
    solid = λ l y i c. let r = near l y i in subst IsSolid (sym r.4) (h.solid l r.0 r.1 (sym r.2 ∙ c));
    sends = λ l y i c u. let r = near l y i in holds queues (h.sends l r.0 r.1 (sym r.2 ∙ c) (ap is_sent (sym r.4) ∙ u));
    expects = λ l y i c u. let r = near l y i in holds shakes (h.expects l r.0 r.1 (sym r.2 ∙ c) (ap (λ (s : Held). s.task) (sym r.4) ∙ u));
    calls = λ other more n l y p f nm i. let r = near l y i in fit more r.0 y r.3 r.4 (h.calls other more n l r.0 (calls other more p) f (names n l nm) r.1);
  }
    where
      names : (n l : ℕ) → Names v n l → Names w n l
      names n l p = record { entry = p.entry; there = subst (λ (q : handles.Handles Thing). In p.entry q.entries) g p.there; number = p.number; link = p.link }

      holds : (test : Call → Bool) {l : ℕ} → Holds w test l → Holds v test l
      holds test p = record { who = p.who; call = p.call; number = p.number; pends = back p.who p.call p.pends; passes = p.passes; named = p.named; linked = ap (λ (q : handles.Handles Thing). if_some (handles.look q p.number) None (λ x. link_of x.thing)) g ∙ p.linked }

      fit : (more : Call) (x y : Link) → y.most ≡ x.most → y.stack ≡ x.stack → FitsCall more x → FitsCall more y
      fit more x y e f k = soft_fits ⊥ more x y (omega (arith, e)) (soft_same ⊥ x.stack y.stack f) k

  pub same_fits : (w v : World V) → ((other : ℕ) (more : Call) → Pends v other more → Pends w other more) → ((other : ℕ) (more : Call) → Pends w other more → Pends v other more) → v.handles ≡ w.handles → v.links ≡ w.links → IsFitting w → IsFitting v
  same_fits w v calls back g k h = aside_fits w v calls back g (near_same w.links v.links k) h

  pub record Fitted (w : World V) : Type 0 where
    pub fits : IsFitting w
    pub low : Low w

  -- what lasts from step to step
  pub record Lasts (w : World V) : Type 0 where
    pub fits : IsFitting w
    pub low : Low w
    pub apart : LooksApart w
    pub numbered : Numbered 0 w.coroutines w.last_coroutine

  pub once_of : (w : World V) → LooksApart w → Once w
  once_of w a l = let n = a.named l in let p = weigh_linked w l in let b = small_bit (may_name w.links l) in omega (arith, n, p, b)

  -- a link that fits as it stands now, on which none but new calls are pending
  pub record Fresh (v : World V) (new : ℕ → Call → Type 0) (l : ℕ) (y : Link) : Type 0 where
    pub solid : IsSolid y.stack
    pub sends : is_sent y.stack ≡ false → Holds v queues l
    pub expects : y.stack.task ≡ Expects → Holds v shakes l
    pub alone : (other : ℕ) (more : Call) (n : ℕ) → Pends v other more → is_on_stack (word_of more) ≡ true → named_by more ≡ Some n → Names v n l → new other more

  -- What a step owes. `new` are the calls that are pending from now on.
  pub record Owes (S : ℕ → Held → Held → Type 0) (T : ℕ → Type 0) (gone : Option ℕ) (new : ℕ → Call → Type 0) (w v : World V) : Type 0 where
    pub tidy : Tidy S T gone w v
    -- each pending call was so before, or is new
    pub calls : (other : ℕ) (more : Call) → Pends v other more → is_on_stack (word_of more) ≡ true → Pends w other more ⊎ new other more
    -- a number that becomes another has nothing queued
    pub free : (other : ℕ) (more : Call) (n l : ℕ) → (gone ≡ Some other → ⊥) → Pends w other more → queues more ≡ true → named_by more ≡ Some n → link_number w n ≡ Some l → T n → ⊥
    -- where a call was pending that is no more, nothing is queued, and no head is awaited
    pub own : (other : ℕ) (more : Call) (n l : ℕ) (x y : Link) → gone ≡ Some other → Pends w other more → queues more ≡ true → named_by more ≡ Some n → link_number w n ≡ Some l → look w.links l ≡ Some x → x.closing ≡ false → look v.links l ≡ Some y → y.closing ≡ false → S l x.stack y.stack → (is_sent y.stack ≡ true) × (shakes more ≡ true → y.stack.task ≡ Expects → ⊥)
    pub stacks : (l : ℕ) (x y : Link) → look w.links l ≡ Some x → x.closing ≡ false → look v.links l ≡ Some y → y.closing ≡ false → S l x.stack y.stack → Soft (Holds v queues l) x.stack y.stack ⊎ Fresh v new l y
    pub fits : (other : ℕ) (more : Call) (n l : ℕ) (y : Link) → new other more → named_by more ≡ Some n → Names v n l → look v.links l ≡ Some y → y.closing ≡ false → FitsCall more y
    pub low : (other : ℕ) (more : Call) (n : ℕ) → new other more → named_by more ≡ Some n → n ≤ v.handles.last

  pub fitted : {S : ℕ → Held → Held → Type 0} {T : ℕ → Type 0} {gone : Option ℕ} {new : ℕ → Call → Type 0} (w v : World V) → Owes S T gone new w v → Once w → Fitted w → Fitted v
  fitted {S} {T} {gone} {new} w v o once h = record {
    fits = record { «open» = opens; solid = λ l y i c. solid l y i c (o.tidy.links l y i c); sends = λ l y i c f. sends l y i c f (o.tidy.links l y i c); expects = λ l y i c f. expects l y i c f (o.tidy.links l y i c); calls = fitting };
    low = low;
  }
    where
      opens : Opens v
      opens = o.tidy.«open» once h.fits.«open»

      solid : (l : ℕ) (y : Link) → look v.links l ≡ Some y → y.closing ≡ false → From (S l) w.links l y → IsSolid y.stack
      solid l y i c f = at (o.stacks l f.x y f.there f.«open» i c f.stack)
        where
          at : Soft (Holds v queues l) f.x.stack y.stack ⊎ Fresh v new l y → IsSolid y.stack
          at (inl s) = s.solid (h.fits.solid l f.x f.there f.«open»)
          at (inr s) = s.solid

      -- who held it still does, or nothing is held
      holds : (test : Call → Bool) → ((call : Call) → test call ≡ true → queues call ≡ true) → (l : ℕ) (x y : Link) → look w.links l ≡ Some x → x.closing ≡ false → look v.links l ≡ Some y → y.closing ≡ false → S l x.stack y.stack → ((call : Call) → test call ≡ true → (is_sent y.stack ≡ true) × (shakes call ≡ true → y.stack.task ≡ Expects → ⊥) → ⊥) → Holds w test l → Holds v test l
      holds test more l x y i c j d s bad p = at (queues_on p.call (more p.call p.passes)) (kept gone refl)
        where
          linked : (gone ≡ Some p.who → ⊥) → (link_number v p.number ≡ Some l) ⊎ (T p.number ⊎ ((z : Link) → look v.links l ≡ Some z → z.closing ≡ true)) → Pends v p.who p.call → Holds v test l
          linked ne (inl e) q = record { who = p.who; call = p.call; number = p.number; pends = q; passes = p.passes; named = p.named; linked = e }
          linked ne (inr (inl t)) q = absurd (o.free p.who p.call p.number l ne p.pends (more p.call p.passes) p.named p.linked t)
          linked ne (inr (inr shut)) q = absurd (true_false y.closing (shut y j) d)

          kept : (g : Option ℕ) → gone ≡ g → (gone ≡ Some p.who) ⊎ (gone ≡ Some p.who → ⊥)
          kept None e = inr (λ f. let bad : None ≡ Some p.who = sym e ∙ f in cc)
          kept (Some k) e = by (k == p.who) refl
            where
              by : (b : Bool) → (k == p.who) ≡ b → (gone ≡ Some p.who) ⊎ (gone ≡ Some p.who → ⊥)
              by true f = inl (e ∙ ap Some (equal_is k p.who f))
              by false f = inr (λ g. let it : ◌≡◌ {A = Option ℕ} (Some k) (Some p.who) = sym e ∙ g in unequal_is k p.who f cc)

          at : is_on_stack (word_of p.call) ≡ true → (gone ≡ Some p.who) ⊎ (gone ≡ Some p.who → ⊥) → Holds v test l
          at on (inl g) = absurd (bad p.call p.passes (o.own p.who p.call p.number l x y g p.pends (more p.call p.passes) p.named p.linked i c j d s))
          at on (inr ne) = linked ne (o.tidy.lost p.number l p.linked) (o.tidy.still p.who p.call p.pends on ne)

      sends : (l : ℕ) (y : Link) → look v.links l ≡ Some y → y.closing ≡ false → is_sent y.stack ≡ false → From (S l) w.links l y → Holds v queues l
      sends l y i c u f = at (o.stacks l f.x y f.there f.«open» i c f.stack)
        where
          by : Soft (Holds v queues l) f.x.stack y.stack → (b : Bool) → is_sent f.x.stack ≡ b → Holds v queues l
          by s true e = which (s.sent e)
            where
              which : (is_sent y.stack ≡ true) ⊎ Holds v queues l → Holds v queues l
              which (inl g) = absurd (true_false (is_sent y.stack) g u)
              which (inr g) = g
          by s false e = holds queues (λ call g. g) l f.x y f.there f.«open» i c f.stack (λ call t g. true_false (is_sent y.stack) g.0 u) (h.fits.sends l f.x f.there f.«open» e)

          at : Soft (Holds v queues l) f.x.stack y.stack ⊎ Fresh v new l y → Holds v queues l
          at (inl s) = by s (is_sent f.x.stack) refl
          at (inr s) = s.sends u

      expects : (l : ℕ) (y : Link) → look v.links l ≡ Some y → y.closing ≡ false → y.stack.task ≡ Expects → From (S l) w.links l y → Holds v shakes l
      expects l y i c u f = at (o.stacks l f.x y f.there f.«open» i c f.stack)
        where
          at : Soft (Holds v queues l) f.x.stack y.stack ⊎ Fresh v new l y → Holds v shakes l
          at (inl s) = holds shakes shakes_queue l f.x y f.there f.«open» i c f.stack (λ call t g. g.1 t u) (h.fits.expects l f.x f.there f.«open» (s.expects u))
          at (inr s) = s.expects u

      fitting : (other : ℕ) (more : Call) (n l : ℕ) (y : Link) → Pends v other more → named_by more ≡ Some n → Names v n l → look v.links l ≡ Some y → FitsCall more y
      fitting other more n l y p e nm i = on (is_on_stack (word_of more)) refl
        where
          c : y.closing ≡ false
          c = opens n l y nm i

          f : From (S l) w.links l y
          f = o.tidy.links l y i c

          old : is_on_stack (word_of more) ≡ true → Pends w other more → Names w n l ⊎ (w.handles.last < n) → Soft (Holds v queues l) f.x.stack y.stack → FitsCall more y
          old g q (inl named) s = soft_fits (Holds v queues l) more f.x y f.most s (h.fits.calls other more n l f.x q e named f.there)
          old g q (inr up) s = let b = h.low other more n q g e in absurd (omega (arith, b, up))

          by : is_on_stack (word_of more) ≡ true → Pends w other more ⊎ new other more → Soft (Holds v queues l) f.x.stack y.stack ⊎ Fresh v new l y → FitsCall more y
          by g (inr q) s = o.fits other more n l y q e nm i c
          by g (inl q) (inl s) = old g q (o.tidy.names n l nm) s
          by g (inl q) (inr s) = o.fits other more n l y (s.alone other more n p g e nm) e nm i c

          on : (b : Bool) → is_on_stack (word_of more) ≡ b → FitsCall more y
          on false g = off_fits more y g
          on true g = by g (o.calls other more p g) (o.stacks l f.x y f.there f.«open» i c f.stack)

      low : Low v
      low other more n p g e = at (o.calls other more p g)
        where
          at : Pends w other more ⊎ new other more → n ≤ v.handles.last
          at (inl q) = let a = h.low other more n q g e in let b = o.tidy.last in omega (arith, a, b)
          at (inr q) = o.low other more n q e

  pub lasts : {S : ℕ → Held → Held → Type 0} {T : ℕ → Type 0} {gone : Option ℕ} {new : ℕ → Call → Type 0} (w v : World V) → Owes S T gone new w v → LooksApart v → Numbered 0 v.coroutines v.last_coroutine → Lasts w → Lasts v
  lasts w v o apart numbered h = let f = fitted w v o (once_of w h.apart) (record { fits = h.fits; low = h.low }) in record { fits = f.fits; low = f.low; apart = apart; numbered = numbered }

  -- A step that is soft at all links, and answers nobody who has something queued.
  pub fitted_soft : {S : ℕ → Held → Held → Type 0} (w v : World V) → Tidy S NoNumber None w v → ((other : ℕ) (more : Call) → Pends v other more → Pends w other more) → ((l : ℕ) (s t : Held) → S l s t → Soft ⊥ s t) → Once w → Fitted w → Fitted v
  fitted_soft {S} w v tidy calls soft once h = fitted {new = NoCall} w v (record {
    tidy = tidy;
    calls = λ other more p on. inl (calls other more p);
    free = λ other more n l ne p q e f t. t;
    own = λ other more n l x y g p q e f i c j d s. cc;
    stacks = λ l x y i c j d s. inl (soft_may (Holds v queues l) x.stack y.stack (soft l x.stack y.stack s));
    fits = λ other more n l y q e nm i c. absurd q;
    low = λ other more n q e. absurd q;
  }) once h
