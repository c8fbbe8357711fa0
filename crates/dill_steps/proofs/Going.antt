-- A turn is what the code does of it: the answer is given, the move is made, and the world settles.
use Rattle.std.proofs.Common.{◌≡◌, ◌∙◌, ℕ, ◌==◌, List, [], ◌∷◌, find, Bool, true, false, cond, Option, Some, None, refl, sym, ap}
use Rattle.dill_calls.specs.declared.body.Next.TheVariants as nexts
use Rattle.dill_calls.specs.declared.call.Call.{Call}
use Rattle.dill_calls.specs.declared.call.Call.TheVariants as calls
use Rattle.dill_calls.specs.Program.{Program, Calls}
use Rattle.dill_base.specs.Maps.{change}
use Rattle.dill_rules.specs.declared.coroutine.Coroutine.{Coroutine}
use Rattle.dill_rules.specs.World.{World, is_coroutine, coroutine_of}
use Rattle.dill_rules.specs.Entering.{entered, enter, may_lack_entry}
use Rattle.dill_rules.specs.Turning.{text_of, as_running, resume}
use Rattle.dill_steps.specs.Needs.{HasView}
use Rattle.dill_steps.specs.Turned.{WentSo, without_text, at_entry}

module _ {V : Type 0} where
  -- who goes on is there, with its new view
  runs_at : (b : Bool) (who : ℕ) (view : V) (c : Coroutine V) (cs : List (Coroutine V)) (one : Coroutine V) → (c.number == who) ≡ b → cond b (Some c) (find (is_coroutine who) cs) ≡ Some one → (find (is_coroutine who) cs ≡ Some one → (x : Coroutine V) × (find (is_coroutine who) (change (is_coroutine who) (as_running view) cs) ≡ Some x) × (x.body ≡ view)) → (x : Coroutine V) × (find (is_coroutine who) (cond b (as_running view c ∷ cs) (c ∷ change (is_coroutine who) (as_running view) cs)) ≡ Some x) × (x.body ≡ view)
  runs_at true who view c cs one e f h = (as_running view c, rw e refl, refl)
  runs_at false who view c cs one e f h = let r : (x : Coroutine V) × (find (is_coroutine who) (change (is_coroutine who) (as_running view) cs) ≡ Some x) × (x.body ≡ view) = h f in (r.0, rw e r.1, r.2)

  runs : (who : ℕ) (view : V) (cs : List (Coroutine V)) (one : Coroutine V) → find (is_coroutine who) cs ≡ Some one → (x : Coroutine V) × (find (is_coroutine who) (change (is_coroutine who) (as_running view) cs) ≡ Some x) × (x.body ≡ view)
  runs who view [] one e = cc
  runs who view (c ∷ cs) one e = runs_at (c.number == who) who view c cs one refl e (runs who view cs one)

  pub has_resumed : (w : World V) (who : ℕ) (view : V) (one : Coroutine V) → coroutine_of w who ≡ Some one → HasView (resume w who view) who view
  has_resumed w who view one e = let r = runs who view w.coroutines one e in record { one = r.0; found = r.1; same = r.2 }

  -- a `print` is entered alike without its text
  pub enter_blind : (p : Program V) (lacks : Bool) (w : World V) (who : ℕ) (view : V) (call : Call) → enter p lacks w who view (entered w.moment (without_text call)) ≡ enter p lacks w who view (entered w.moment call)
  enter_blind p lacks w who view (calls.Print text) = refl
  enter_blind p lacks w who view _ = refl

  pub lack_blind : (p : Program V) (w : World V) (who : ℕ) (view : V) (call : Call) → may_lack_entry p w who view (entered w.moment (without_text call)) ≡ may_lack_entry p w who view (entered w.moment call)
  lack_blind p w who view (calls.Print text) = refl
  lack_blind p w who view _ = refl

  -- its next call is entered
  pub called : (p : Program V) (old new : World V) (who : ℕ) (view : V) (call rest whole : Call) (lacks : Bool) (text : Option (List ℕ)) → text ≡ text_of (Calls call) → rest ≡ without_text call → whole ≡ entered old.moment rest → (lacks ≡ true → may_lack_entry p old who view whole ≡ true) → new ≡ enter p lacks old who view whole → WentSo p old new who view (nexts.Call call) (Calls call) (record { lack = at_entry lacks; outcome = None; text = text })
  called p old new who view call rest whole true text t r w m e =
      let same : whole ≡ entered old.moment (without_text call) = w ∙ ap (entered old.moment) r in
      record {
        world = e ∙ ap (enter p true old who view) same ∙ enter_blind p true old who view call;
        ends = refl;
        text = t;
        met = sym (lack_blind p old who view call) ∙ ap (may_lack_entry p old who view) (sym same) ∙ m refl;
        lacks = refl;
      }
  called p old new who view call rest whole false text t r w m e =
      let same : whole ≡ entered old.moment (without_text call) = w ∙ ap (entered old.moment) r in
      record {
        world = e ∙ ap (enter p false old who view) same ∙ enter_blind p false old who view call;
        ends = refl;
        text = t;
        met = tt;
        lacks = refl;
      }
