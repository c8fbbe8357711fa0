-- The programs of scripts keep the law of programs.
use Rattle.std.proofs.Common.{◌≡◌, ◌≤◌, ◌<◌, ◌^◌, ◌⊎◌, inl, inr, ℕ, suc, List, slice_get, Option, Some, None, true, refl, sym, ap, ◌∙◌, subst, arith, nat_le, leb-true, take, cond, ◌+◌}
use Rattle.std.specs.List.{list_all}
use Rattle.dill_base.specs.declared.errno.Errno.{Errno}
use Rattle.dill_base.specs.declared.errno.Errno.TheVariants.{Ecanceled}
use Rattle.dill_calls.specs.CallTable.{word_of, is_start, is_quiet}
use Rattle.dill_calls.specs.declared.answer.Answer.{Answer}
use Rattle.dill_calls.specs.declared.answer.Answer.TheVariants.{Fault}
use Rattle.dill_calls.specs.declared.call.Call.{Call}
use Rattle.dill_calls.specs.declared.word.Word.{Word}
use Rattle.dill_calls.specs.declared.word.Word.TheVariants.{Yield}
use Rattle.dill_calls.specs.Program.{Lowers, PassesWell, GoesOn, Moves, IsLawful}
use Rattle.dill_script.specs.Contexts.{is_place, places}
use Rattle.dill_script.specs.declared.script.Program.{Program}
use Rattle.dill_script.specs.Spelling.{is_sized}
use Rattle.dill_script.specs.declared.statement.Statement.{Statement}
use Rattle.dill_script.specs.declared.statement.Statement.TheVariants as statements
use Rattle.dill_meaning.specs.Effects.{fault_in}
use Rattle.dill_meaning.specs.Meaning.{scripts, kept, appended, moved, next, short, said, word_at, left, is_real}
use Rattle.dill_meaning.specs.Values.{bytes_value}
use Rattle.dill_meaning.specs.Views.{ScriptView, statements_in, statements_of, ahead, pending, last_of}
use Rattle.dill_meaning.specs.Walks.{stop_of, given, join_fault}
use Rattle.dill_meaning.specs.Laws.{MainBegins, LeftCounts}
use Rattle.std.proofs.lemmas.List.Sums.{sum_by-take-drop}
use Rattle.dill_meaning.proofs.Given.{GoesFrom, given_goes}
use Rattle.dill_meaning.proofs.Lists.{count_ahead, all_at}
use Rattle.dill_meaning.proofs.Walking.{Keeps, Stands, Walked, walk_walked, statements_kept, ahead_kept}

appended_keeps : (view : ScriptView) (place : ℕ) (more : List ℕ) (fault : Option Errno) → Keeps view (appended view place more fault)
appended_keeps view place more None = record { script = refl; program = refl; passed = refl }
appended_keeps view place more (Some errno) = record { script = refl; program = refl; passed = refl }

kept_keeps : (view : ScriptView) (statement : Statement) → Keeps view (kept view statement)
kept_keeps view (statements.Keep tried place value) = record { script = refl; program = refl; passed = refl }
kept_keeps view (statements.Join tried place value) = appended_keeps view place (bytes_value view value) (join_fault view place (bytes_value view value))
kept_keeps view _ = record { script = refl; program = refl; passed = refl }

fits_all : (s t : List Program) → s ≡ t → list_all is_sized t ≡ true → list_all is_sized s ≡ true
fits_all s t e r = cc

last_same : (xs ys : List Statement) (n m : ℕ) → xs ≡ ys → n ≡ m → word_at (last_of xs n) ≡ word_at (last_of ys m)
last_same xs ys n m e f = cc

places_same : (xs ys : List Statement) → xs ≡ ys → suc (places xs) ≡ suc (places ys)
places_same xs ys e = cc

-- what is left is a part of all places
within_most : (view : ScriptView) → suc (places (ahead view)) ≤ suc (places (statements_of view))
within_most view = le_suc_both (places (ahead view)) (places (statements_of view)) (count_ahead is_place view.passed (statements_of view))
  where
    le_suc_both : (a b : ℕ) → a ≤ b → suc a ≤ suc b
    le_suc_both a b h = omega arith

-- a view of the same program from which the law holds
pub goes_on : (old new : ScriptView) (answer : Answer) (word : Word) → new.script ≡ old.script → new.program ≡ old.program → is_real old ≡ true → said new ≡ word → (Lowers (said old) answer → left new < left old) → GoesOn scripts old answer word new
goes_on old new answer word s p r w l = record {
  real = fits_all new.script old.script s r;
  some = omega arith;
  within = within_most new;
  stays = places_same (statements_of new) (statements_of old) (statements_kept old new s p);
  said = w;
  lower = l;
}

lower_same : (a b c : ℕ) → a ≡ b → b < c → a < c
lower_same a b c e h = omega arith

-- the same with a register changed
kept_on : (old new : ScriptView) (statement : Statement) (answer : Answer) (word : Word) → GoesOn scripts old answer word new → new.script ≡ old.script → new.program ≡ old.program → is_real old ≡ true → GoesOn scripts old answer word (kept new statement)
kept_on old new statement answer word g s p r =
    let k : Keeps new (kept new statement) = kept_keeps new statement in
    let u : said (kept new statement) ≡ said new = last_same (statements_of (kept new statement)) (statements_of new) (kept new statement).passed new.passed (statements_kept new (kept new statement) k.script k.program) k.passed in
    let a : left (kept new statement) ≡ left new = places_same (ahead (kept new statement)) (ahead new) (ahead_kept new (kept new statement) k) in
    goes_on old (kept new statement) answer word (k.script ∙ s) (k.program ∙ p) r (u ∙ g.said) (λ h. lower_same (left (kept new statement)) (left new) (left old) a (g.lower h))

not_yield : (word : Word) (answer : Answer) → word ≡ Yield → fault_in answer ≡ None → Lowers word answer → ⊥
not_yield word answer e f (inl start) = let h : is_start Yield ≡ true = subst (λ w. is_start w ≡ true) e start in cc
not_yield word answer e f (inr (inl quiet)) = let h : is_quiet Yield ≡ true = subst (λ w. is_quiet w ≡ true) e quiet in cc
not_yield word answer e f (inr (inr cancelled)) = let h : fault_in (Fault Ecanceled) ≡ None = subst (λ a. fault_in a ≡ None) cancelled f in cc

-- fewer places are ahead
falls : (n m k : ℕ) → suc n ≤ m → m ≡ k → suc n < suc k
falls n m k h e = omega arith

lowers : (old : ScriptView) (answer : Answer) (gone new : ScriptView) → (gone.script ≡ old.script) → (gone.program ≡ old.program) → (gone.passed ≡ old.passed) ⊎ ((said old ≡ Yield) × (fault_in answer ≡ None)) → suc (places (ahead new)) ≤ places (ahead gone) → Lowers (said old) answer → left new < left old
lowers old answer gone new s p (inl passed) f h = falls (places (ahead new)) (places (ahead gone)) (places (ahead old)) f (ap places (ahead_kept old gone (record { script = s; program = p; passed = passed })))
lowers old answer gone new s p (inr back) f h = absurd (not_yield (said old) answer back.0 back.1 h)

-- the law where a walk stopped
abbrev pub Lawful : ScriptView → Answer → ScriptView → Option (Statement × Call) → Type 0
Lawful old answer new None = is_real new ≡ true
Lawful old answer new (Some (statement, call)) = PassesWell call × GoesOn scripts old answer (word_of call) (kept new statement) × GoesOn scripts old answer (word_of call) new

stop_lawful : (old : ScriptView) (answer : Answer) (gone new : ScriptView) (made : Option (Statement × Call)) → is_real old ≡ true → GoesFrom old answer (pending old) gone → new.script ≡ gone.script → new.program ≡ gone.program → Stands (places (ahead gone)) new made → Lawful old answer new made
stop_lawful old answer gone new None r g s p h = fits_all new.script old.script (s ∙ g.script) r
stop_lawful old answer gone new (Some (statement, call)) r g s p h =
    let w : said new ≡ word_of call = ap word_at h.here ∙ sym h.fits.word in
    let o : GoesOn scripts old answer (word_of call) new = goes_on old new answer (word_of call) (s ∙ g.script) (p ∙ g.program) r w (lowers old answer gone new g.script g.program g.passed h.fewer) in
    (h.fits.well, kept_on old new statement answer (word_of call) o (s ∙ g.script) (p ∙ g.program) r, o)

as_moves : (old : ScriptView) (answer : Answer) (new : ScriptView) (made : Option (Statement × Call)) → short old answer ≡ new → Lawful old answer new made → Moves scripts old answer (moved new made)
as_moves old answer new None e l = l
as_moves old answer new (Some (statement, call)) e l = (l.0, l.1, subst (λ v. GoesOn scripts old answer (word_of call) v) (sym e) l.2)

moves : (view : ScriptView) (answer : Answer) → is_real view ≡ true → Moves scripts view answer (next view answer)
moves view answer r =
    let gone = given view answer (pending view) in
    let w : Walked gone.1 (ahead gone.1) (stop_of view answer) = walk_walked gone.0 gone.1 (ahead gone.1) refl in
    as_moves view answer (stop_of view answer).view (stop_of view answer).made refl (stop_lawful view answer gone.1 (stop_of view answer).view (stop_of view answer).made r (given_goes view answer (pending view)) w.script w.program w.stands)

-- at most 4,096 places are few
few : (n : ℕ) → nat_le n 4096 ≡ true → suc n < 2 ^ 32
few n e = let h : n ≤ 4096 = leb-true n 4096 e in omega arith

small_at : (script : List Program) (at : ℕ) (found : Option Program) → list_all is_sized script ≡ true → slice_get script at ≡ found → suc (places (statements_in found)) < 2 ^ 32
small_at script at None a e = omega arith
small_at script at (Some program) a e = few (places program.statements) (all_at is_sized script at program a e)

pub scripts_lawful : IsLawful scripts
scripts_lawful = record {
  small = λ view r. small_at view.script view.program (slice_get view.script view.program) r refl;
  within = λ view r some. within_most view;
  moves = λ view answer r some. moves view answer r;
  child = λ view program args r k. record { real = r; start = refl; some = omega arith; whole = refl };
}

-- `main` of a script that was read begins
pub main_begins : MainBegins
main_begins script r = record { real = r; start = refl; some = omega arith; whole = refl }

-- what is left, and what is behind
pub left_counts : LeftCounts
left_counts view = suc_sum (places (ahead view)) (places (take view.passed (statements_of view))) (places (statements_of view)) (sum_by-take-drop (λ s. cond (is_place s) 1 0) (statements_of view) view.passed)
  where
    suc_sum : (a b c : ℕ) → b + a ≡ c → suc a + b ≡ suc c
    suc_sum a b c e = omega arith
