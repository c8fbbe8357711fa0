-- In a world without links nothing is tried, and nothing is asked of the kernel.
use Rattle.std.proofs.Common.{◌≡◌, ◌∙◌, ℕ, List, [], ◌∷◌, ◌++◌, filter_map, find, Bool, true, false, Option, Some, None, if◌then◌else◌, refl, ap, is_some}
use Rattle.std.proofs.lemmas.Bool.{and_parts}
use Rattle.std.specs.Option.{option_map}
use Rattle.std.specs.List.{list_all}
use Rattle.dill_calls.specs.declared.call.Call.{Call}
use Rattle.dill_calls.specs.declared.call.Call.TheVariants as calls
use Rattle.dill_base.specs.Maps.{if_some}
use Rattle.dill_rules.specs.declared.coroutine.Coroutine.{Coroutine}
use Rattle.dill_rules.specs.Links.{Links}
use Rattle.dill_rules.specs.Trying.{Try, closes, listen_of, listens, connect_of, connects, finishes, accepts, writes, shuts, reads, tries, is_stopped, is_next, next_try}
use Rattle.dill_rules.specs.World.{World, pending_call}
use Rattle.laws_sound.specs.Linkless.{may_wait, waits_linkless, IsLinkless}

nothing_at : (f : Call → Option Try) (o : Option Call) → ((call : Call) → may_wait call ≡ true → f call ≡ None) → if_some o true may_wait ≡ true → if_some o None f ≡ None
nothing_at f None h e = refl
nothing_at f (Some call) h e = h call e

now_none : (a b : Bool) (cs ts : List Try) → cs ≡ [] → ts ≡ [] → (if a then cs else (if b then [] else ts)) ≡ []
now_none true b cs ts e f = e
now_none false true cs ts e f = refl
now_none false false cs ts e f = f

module _ {V : Type 0} where
  listen_none : (w : World V) (n : ℕ) (call : Call) → may_wait call ≡ true → listen_of w n call ≡ None
  listen_none w n (calls.Msleep deadline) e = refl
  listen_none w n (calls.Hclose number) e = refl
  listen_none w n (calls.BundleWait number deadline) e = refl
  listen_none w n (calls.Chsend number bytes deadline) e = refl
  listen_none w n (calls.Chrecv number size deadline) e = refl
  listen_none w n (calls.Choose deadline all) e = refl
  listen_none w n _ e = cc

  connect_none : (w : World V) (n : ℕ) (call : Call) → may_wait call ≡ true → connect_of w n call ≡ None
  connect_none w n (calls.Msleep deadline) e = refl
  connect_none w n (calls.Hclose number) e = refl
  connect_none w n (calls.BundleWait number deadline) e = refl
  connect_none w n (calls.Chsend number bytes deadline) e = refl
  connect_none w n (calls.Chrecv number size deadline) e = refl
  connect_none w n (calls.Choose deadline all) e = refl
  connect_none w n _ e = cc

  nothing_in : (f : ℕ → Call → Option Try) (cs : List (Coroutine V)) → ((n : ℕ) (call : Call) → may_wait call ≡ true → f n call ≡ None) → list_all waits_linkless cs ≡ true → filter_map (λ (c : Coroutine V). if_some (pending_call c.mode) None (f c.number)) cs ≡ []
  nothing_in f [] h e = refl
  nothing_in f (c ∷ cs) h e =
      let b = and_parts (waits_linkless c) (list_all waits_linkless cs) e in
      let none = nothing_at (f c.number) (pending_call c.mode) (h c.number) b.0 in
      rw none (nothing_in f cs h b.1)

  -- in a world without links nothing is tried
  pub tries_none : (w : World V) → IsLinkless w → tries w ≡ []
  tries_none w linkless =
      let l : listens w ≡ [] = nothing_in (listen_of w) w.coroutines (listen_none w) linkless.calls in
      let c : connects w ≡ [] = nothing_in (connect_of w) w.coroutines (connect_none w) linkless.calls in
      let v : Links → World V = λ m. record w { links = m } in
      ap (λ xs. closes w ++ xs ++ connects w ++ finishes w ++ accepts w ++ writes w ++ shuts w ++ reads w) l
      ∙ ap (λ xs. closes w ++ [] ++ xs ++ finishes w ++ accepts w ++ writes w ++ shuts w ++ reads w) c
      ∙ ap (λ m. closes (v m) ++ [] ++ [] ++ finishes (v m) ++ accepts (v m) ++ writes (v m) ++ shuts (v m) ++ reads (v m)) linkless.links

  -- and no close is due
  pub closes_none : (w : World V) → IsLinkless w → closes w ≡ []
  closes_none w linkless = ap (λ m. closes (record w { links = m })) linkless.links

  -- so nothing is asked
  pub ask_none : (w : World V) → IsLinkless w → option_map (λ (x : Try). x.ask) (next_try w) ≡ None
  ask_none w linkless = ap (λ ts. option_map (λ (x : Try). x.ask) (find (is_next w) ts)) (now_none (is_some w.ended) (is_stopped w) (closes w) (tries w) (closes_none w linkless) (tries_none w linkless))
