-- Where all stand plainly, nobody's stack is looked at, and so to settle is to take its steps.
use Rattle.std.proofs.Common.{◌≡◌, ◌∙◌, ℕ, zero, suc, List, [], ◌∷◌, length, fold, true, refl, sym, ap}
use Rattle.std.proofs.lemmas.Bool.{and_parts}
use Rattle.std.specs.List.{list_all}
use Rattle.dill_calls.specs.declared.call.Call.TheVariants as calls
use Rattle.dill_rules.specs.declared.coroutine.Coroutine.{Coroutine}
use Rattle.dill_rules.specs.declared.coroutine.Mode.{Mode}
use Rattle.dill_rules.specs.declared.coroutine.Mode.TheVariants as modes
use Rattle.dill_rules.specs.World.{World}
use Rattle.dill_rules.specs.Settling.{pass_one, pass_all, settle_one, settle_within, settle, IsSettled}
use Rattle.dill_world.specs.Store.{Store, world_of, is_plain_mode, is_plain_row, ArePlain}

module _ {V : Type 0} where
  pass_mode : (w : World V) (c : Coroutine V) (mode : Mode) → c.mode ≡ mode → is_plain_mode mode ≡ true → pass_one w c ≡ w
  pass_mode w c (modes.Pending (calls.Msleep deadline)) e h = rw e refl
  pass_mode w c (modes.Pending (calls.Hclose number)) e h = rw e refl
  pass_mode w c (modes.Pending (calls.BundleWait number deadline)) e h = rw e refl
  pass_mode w c (modes.Pending (calls.Chsend number bytes deadline)) e h = rw e refl
  pass_mode w c (modes.Pending (calls.Chrecv number size deadline)) e h = rw e refl
  pass_mode w c (modes.Pending (calls.Choose deadline all)) e h = rw e refl
  pass_mode w c (modes.Pending _) e h = cc
  pass_mode w c modes.Running e h = rw e refl
  pass_mode w c (modes.Fresh word answer) e h = rw e refl
  pass_mode w c (modes.Answered word answer) e h = rw e refl
  pass_mode w c (modes.Ending outcome) e h = rw e refl

  pass_list : (w : World V) (cs : List (Coroutine V)) → list_all is_plain_row cs ≡ true → fold pass_one w cs ≡ w
  pass_list w [] h = refl
  pass_list w (c ∷ cs) h =
      let parts : (is_plain_row c ≡ true) × (list_all is_plain_row cs ≡ true) = and_parts (is_plain_row c) (list_all is_plain_row cs) h in
      ap (λ v. fold pass_one v cs) (pass_mode w c c.mode refl parts.0) ∙ pass_list w cs parts.1

  pub pass_plain : (k : Store V) → ArePlain k.coroutines → pass_all (world_of k) ≡ world_of k
  pass_plain k plain = pass_list (world_of k) k.coroutines plain

  -- the steps lead to where settling does
  pub settled : (k m : Store V) → ArePlain m.coroutines → settle_within (length k.coroutines) (world_of k) ≡ world_of m → world_of m ≡ settle (world_of k)
  settled k m plain e = sym (ap pass_all e ∙ pass_plain m plain)

  rests_one : (w : World V) → IsSettled w → settle_one w ≡ w
  rests_one w r = rw r.endings (rw r.answers refl)

  -- where nothing is due, no step changes anything
  pub rests_within : (n : ℕ) (w : World V) → IsSettled w → settle_within n w ≡ w
  rests_within zero w r = refl
  rests_within (suc n) w r = ap (settle_within n) (rests_one w r) ∙ rests_within n w r

  -- so settling is over at the first step that finds nothing due
  pub over : (k l m : Store V) (n : ℕ) → ArePlain m.coroutines → settle_within (length k.coroutines) (world_of k) ≡ settle_within n (world_of l) → IsSettled (world_of l) → world_of m ≡ settle_one (world_of l) → world_of m ≡ settle (world_of k)
  over k l m n plain e r one = settled k m plain (e ∙ rests_within n (world_of l) r ∙ sym (one ∙ rests_one (world_of l) r))
