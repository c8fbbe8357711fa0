-- One step of a walk: a statement is passed, and is the stop or is behind.
use Rattle.std.proofs.Common.{◌≡◌, ◌≤◌, ◌<◌, ℕ, zero, suc, List, [], ◌∷◌, length, drop, slice_get, Bool, true, false, Option, Some, None, is_some, refl, sym, ap, ◌∙◌, subst, arith}
use Rattle.dill_calls.specs.declared.call.Call.{Call}
use Rattle.std.proofs.lemmas.Bool.{and_from}
use Rattle.dill_script.specs.declared.operand.Num.{Num}
use Rattle.dill_script.specs.declared.statement.Statement.{Statement}
use Rattle.dill_script.specs.declared.statement.Statement.TheVariants as statements
use Rattle.dill_script.specs.Nesting.{in_program}
use Rattle.dill_meaning.specs.Views.{ScriptView, statements_of, ahead, pending}
use Rattle.dill_meaning.specs.Walks.{Mode, Runs, Stop, walk, stopped, behind, call_in, passing}
use Rattle.dill_meaning.proofs.Walking.{Keeps, behind_keeps, statements_kept, ahead_kept}
use Rattle.relay_body.specs.Depths.{Fits, IsWalking}
use Rattle.relay_body.specs.Opened.{nested_in, Stands, stands_at, few_open, left_less, behind_fits, passed_opens}
use Rattle.relay_body.specs.Runnable.{parts}
use Rattle.relay_body.specs.Running.{blocks_at, has_open, is_runnable, is_running}
use Rattle.relay_body.specs.Stopping.{behind_at, with_call, made_by, made_at, made_in}

-- there is one at a place before the end
pub found_at : {X : Type 0} (xs : List X) (n : ℕ) → n < length xs → (x : X) × (slice_get xs n ≡ Some x)
found_at [] n h = absurd (omega arith)
found_at (x ∷ xs) zero h = (x, refl)
found_at (x ∷ xs) (suc n) h = let less : n < length xs = omega arith in found_at xs n less

drop_found : {X : Type 0} (xs : List X) (n : ℕ) (x : X) → slice_get xs n ≡ Some x → drop n xs ≡ x ∷ drop (suc n) xs
drop_found [] n x e = cc
drop_found (y ∷ ys) zero x e = cc
drop_found (y ∷ ys) (suc n) x e = drop_found ys n x e

-- what is done with the statement that was passed last
walk_next : (mode : Mode) (view : ScriptView) (statement : Statement) → slice_get (statements_of view) view.passed ≡ Some statement → walk mode view (ahead view) ≡ stopped (passing view) statement (call_in mode (passing view) statement) (walk (behind mode (passing view) statement).0 (behind mode (passing view) statement).1 (ahead (behind mode (passing view) statement).1))
walk_next mode view statement e =
    let gone = behind mode (passing view) statement in
    let k : Keeps (passing view) gone.1 = behind_keeps mode (passing view) statement in
    let rest : drop (suc view.passed) (statements_of view) ≡ ahead gone.1 = sym (ahead_kept (passing view) gone.1 k) in
    ap (walk mode view) (drop_found (statements_of view) view.passed statement e) ∙ ap (λ list. stopped (passing view) statement (call_in mode (passing view) statement) (walk gone.0 gone.1 list)) rest

made_one : (mode : Mode) (view : ScriptView) (statement : Statement) → pending view ≡ Some statement → made_in mode view ≡ with_call statement (call_in mode view statement)
made_one Runs view statement e = ap (made_by view) e
made_one _ view statement e = refl

stop_made : (view : ScriptView) (statement : Statement) (made : Option Call) (further : Stop) → is_some (with_call statement made) ≡ true → stopped view statement made further ≡ record { view = view; made = with_call statement made }
stop_made view statement None further e = cc
stop_made view statement (Some call) further e = refl

stop_past : (view : ScriptView) (statement : Statement) (made : Option Call) (further : Stop) → is_some (with_call statement made) ≡ false → stopped view statement made further ≡ further
stop_past view statement None further e = refl
stop_past view statement (Some call) further e = cc

-- which is the call of the last statement
pub made_runs : (mode : Mode) (view : ScriptView) → is_some (made_in mode view) ≡ true → made_in mode view ≡ made_at view true
made_runs Runs view e = refl
made_runs _ view e = cc

some_same : (a b : Option (Statement × Call)) (c : Bool) → a ≡ b → is_some a ≡ c → is_some b ≡ c
some_same a b c e f = cc

-- a walk stops at the statement that was passed
pub walk_stops_here : (mode : Mode) (view mid : ScriptView) → view.passed < length (statements_of view) → mid ≡ passing view → is_some (made_in mode mid) ≡ true → walk mode view (ahead view) ≡ record { view = mid; made = made_at mid true }
walk_stops_here mode view mid h m s =
    let found = found_at (statements_of view) view.passed h in
    let statement = found.0 in
    let t : is_some (made_in mode (passing view)) ≡ true = subst (λ v. is_some (made_in mode v) ≡ true) m s in
    let one : made_in mode (passing view) ≡ with_call statement (call_in mode (passing view) statement) = made_one mode (passing view) statement found.1 in
    let gone = behind mode (passing view) statement in
    let stop = stop_made (passing view) statement (call_in mode (passing view) statement) (walk gone.0 gone.1 (ahead gone.1)) (some_same (made_in mode (passing view)) (with_call statement (call_in mode (passing view) statement)) true one t) in
    walk_next mode view statement found.1 ∙ stop ∙ ap (λ made. record { view = passing view; made = made }) (sym one ∙ made_runs mode (passing view) t) ∙ ap (λ v. record { view = v; made = made_at v true }) (sym m)

behind_found : (mode : Mode) (view : ScriptView) (statement : Statement) (found : Option Statement) → found ≡ Some statement → behind_at mode view found ≡ behind mode view statement
behind_found mode view statement found e = ap (behind_at mode view) e

walk_same : (m n : Mode) (v w : ScriptView) → m ≡ n → v ≡ w → walk m v (ahead v) ≡ walk n w (ahead w)
walk_same m n v w e f = ap (λ k. walk k v (ahead v)) e ∙ ap (λ u. walk n u (ahead u)) f

-- or it goes on behind it
pub walk_goes_on : (mode way : Mode) (view mid new : ScriptView) → view.passed < length (statements_of view) → mid ≡ passing view → is_some (made_in mode mid) ≡ false → way ≡ (behind_at mode mid (pending mid)).0 → new ≡ (behind_at mode mid (pending mid)).1 → walk mode view (ahead view) ≡ walk way new (ahead new)
walk_goes_on mode way view mid new h m s w n =
    let found = found_at (statements_of view) view.passed h in
    let statement = found.0 in
    let t : is_some (made_in mode (passing view)) ≡ false = subst (λ v. is_some (made_in mode v) ≡ false) m s in
    let one : made_in mode (passing view) ≡ with_call statement (call_in mode (passing view) statement) = made_one mode (passing view) statement found.1 in
    let gone = behind mode (passing view) statement in
    let past = stop_past (passing view) statement (call_in mode (passing view) statement) (walk gone.0 gone.1 (ahead gone.1)) (some_same (made_in mode (passing view)) (with_call statement (call_in mode (passing view) statement)) false one t) in
    let pair : behind_at mode mid (pending mid) ≡ gone = ap (λ v. behind_at mode v (pending v)) m ∙ ap (behind_at mode (passing view)) found.1 in
    walk_next mode view statement found.1 ∙ past ∙ walk_same gone.0 way gone.1 new (sym (w ∙ ap (λ g. g.0) pair)) (sym (n ∙ ap (λ g. g.1) pair))

-- a view on its way runs where a statement was passed
pub passed_running : (mode : Mode) (view mid : ScriptView) → view.passed < length (statements_of view) → mid ≡ passing view → IsWalking mode view → is_running mid ≡ true
passed_running mode view mid h m w =
    let found = found_at (statements_of view) view.passed h in
    let n = nested_in view.script view.program (parts view.script w.runnable).nested in
    subst (λ v. is_running v ≡ true) (sym m) (and_from (is_runnable view.script) (has_open (passing view)) w.runnable (passed_opens (statements_of view) mode view found.0 n found.1 w.fits))

-- and where that is behind it is on its way
pub record Behind (way : Mode) (view new : ScriptView) : Type 0 where
  pub walking : IsWalking way new
  pub passed : new.passed ≡ suc view.passed

gone_walking : (mode : Mode) (view : ScriptView) (statement : Statement) → slice_get (statements_of view) view.passed ≡ Some statement → IsWalking mode view → Behind (behind mode (passing view) statement).0 view (behind mode (passing view) statement).1
gone_walking mode view statement e w =
    let gone = behind mode (passing view) statement in
    let k : Keeps (passing view) gone.1 = behind_keeps mode (passing view) statement in
    let n = nested_in view.script view.program (parts view.script w.runnable).nested in
    record {
      walking = record {
        runnable = subst (λ script. is_runnable script ≡ true) (sym k.script) w.runnable;
        fits = subst (λ list. Fits list gone.0 gone.1) (sym (statements_kept (passing view) gone.1 k.script k.program)) (behind_fits (statements_of view) mode view statement gone.1 n e refl k.passed w.fits);
      };
      passed = k.passed;
    }

pub behind_walking : (mode way : Mode) (view mid new : ScriptView) → view.passed < length (statements_of view) → mid ≡ passing view → way ≡ (behind_at mode mid (pending mid)).0 → new ≡ (behind_at mode mid (pending mid)).1 → IsWalking mode view → Behind way view new
behind_walking mode way view mid new h m e n w =
    let found = found_at (statements_of view) view.passed h in
    let gone = behind mode (passing view) found.0 in
    let pair : behind_at mode mid (pending mid) ≡ gone = ap (λ v. behind_at mode v (pending v)) m ∙ ap (behind_at mode (passing view)) found.1 in
    subst (λ x. Behind x view new) (sym (e ∙ ap (λ g. g.0) pair)) (subst (λ v. Behind gone.0 view v) (sym (n ∙ ap (λ g. g.1) pair)) (gone_walking mode view found.0 found.1 w))

-- a loop that begins at the statement that was passed is one of four
pub few_there : (mode : Mode) (view mid : ScriptView) (rounds : Option Num) → mid ≡ passing view → IsWalking mode view → pending mid ≡ Some (statements.Loop rounds) → length mid.rounds < 4
few_there mode view mid rounds m w e =
    let there : slice_get (statements_of view) view.passed ≡ Some (statements.Loop rounds) = ap pending (sym m) ∙ e in
    let n = nested_in view.script view.program (parts view.script w.runnable).nested in
    let stands : Stands (blocks_at (statements_of view) view.passed) (blocks_at (statements_of view) (suc view.passed)) (statements.Loop rounds) = stands_at in_program (statements_of view) view.passed (statements.Loop rounds) n there in
    let few = few_open (blocks_at (statements_of view) view.passed) rounds stands.stands in
    let less = left_less mode (blocks_at (statements_of view) view.passed) in
    let fits = w.fits.few in
    let same : length mid.rounds ≡ length view.rounds = ap (λ v. length v.rounds) m in
    omega arith

drop_all : (xs : List Statement) (n : ℕ) → length xs ≤ n → drop n xs ≡ []
drop_all [] zero h = refl
drop_all [] (suc n) h = refl
drop_all (x ∷ xs) zero h = absurd (omega arith)
drop_all (x ∷ xs) (suc n) h = let less : length xs ≤ n = omega arith in drop_all xs n less

-- no walk where none is ahead
pub walk_ended : (mode : Mode) (view : ScriptView) → length (statements_of view) ≤ view.passed → walk mode view (ahead view) ≡ record { view = view; made = None }
walk_ended mode view h = ap (walk mode view) (drop_all (statements_of view) view.passed h)
