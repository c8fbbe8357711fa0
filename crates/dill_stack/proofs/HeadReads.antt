-- What a receive reads in a line of a head.
use Rattle.std.proofs.Common.{◌≡◌, ◌-◌, ◌∷◌, ◌∙◌, [], List, ℕ, take, drop, sym, ap, refl, Bool, true, false, Option, Some, None, if◌then◌else◌}
use Rattle.dill_base.specs.declared.errno.Errno.TheVariants.{Epipe}
use Rattle.dill_base.specs.declared.errno.Front.{Front}
use Rattle.dill_base.specs.declared.errno.Front.TheVariants as front
use Rattle.dill_calls.specs.declared.answer.Answer.{Answer}
use Rattle.dill_http.specs.Lines.{front_of_line}
use Rattle.dill_stack.specs.declared.placed.Base.{Base}
use Rattle.dill_stack.specs.declared.placed.Base.TheVariants as base
use Rattle.dill_stack.specs.declared.want.Want.{Want}
use Rattle.dill_stack.specs.declared.want.Want.TheVariants as want
use Rattle.dill_stack.specs.declared.want.ReadOut.TheVariants.{Need, Fault}
use Rattle.dill_stack.specs.Layers.{TermLayer, HttpLayer, BehindEmpty, Placed, Prefix, Suffix, Term, Http, Ws, is_behind}
use Rattle.dill_stack.specs.Held.{Held}
use Rattle.dill_stack.specs.Read.{Outcome, outcome, read_line, read_list, by_line, ends_fields, given_line, line_answer, received}
use Rattle.dill_stack.specs.Receiving.{read_of}
use Rattle.dill_stack.specs.Standing.{tower, base_layers, HasBase}
use Rattle.dill_stack.specs.Taking.{DrawsNone, line_read}
use Rattle.dill_stack.proofs.TowerReads.{draws_none}

-- what is read where neither bytes nor a message is asked for
pub line_reads : (w : Want) (s : Held) → ((n : ℕ) → w ≡ want.Exact n → ⊥) → ((n : ℕ) → w ≡ want.Message n → ⊥) → read_of w s ≡ line_read w s
unfolding read_list
line_reads (want.Exact n) s h k = absurd (h n refl)
line_reads (want.Message n) s h k = absurd (k n refl)
line_reads want.Request s h k = refl
line_reads want.Status s h k = refl
line_reads want.Field s h k = refl

-- a head is the only layer
pub head_stands : (ts : List TermLayer) (b : Base) (http : HttpLayer) → b ≡ base.Http http → HasBase ts b → tower ts (base_layers b) ≡ Http http ∷ []
head_stands [] b http e h = rw e refl
head_stands (t ∷ ts) base.Bytes http e h = cc
head_stands (t ∷ ts) (base.Prefix form) http e h = cc
head_stands (t ∷ ts) (base.Suffix end) http e h = cc
head_stands (t ∷ ts) (base.Http x) http e h = cc
head_stands (t ∷ ts) (base.Ws framed) http e h = cc

-- no line is read where no head stands
pub no_line : (w : Want) (ts : List TermLayer) (b : Base) (u : List ℕ) (e : Bool) → ((x : HttpLayer) → b ≡ base.Http x → ⊥) → read_line w (tower ts (base_layers b)) u e ≡ outcome 0 (tower ts (base_layers b)) Need
no_line w (t ∷ ts) b u e h = refl
no_line w [] base.Bytes u e h = refl
no_line w [] (base.Prefix form) u e h = refl
no_line w [] (base.Suffix end) u e h = refl
no_line w [] (base.Http x) u e h = absurd (h x refl)
no_line w [] (base.Ws framed) u e h = refl

pub reads_behind : (w : Want) (s : Held) (http : HttpLayer) → s.layers ≡ Http http ∷ [] → is_behind http.receiving ≡ true → line_read w s ≡ outcome 0 (Http http ∷ []) (Fault Epipe)
reads_behind w s http h k = ap (λ l. read_line w l s.unread s.receiving.done) h ∙ pick
  where
    pick : read_line w (Http http ∷ []) s.unread s.receiving.done ≡ outcome 0 (Http http ∷ []) (Fault Epipe)
    pick = rw k refl

pub reads_line : (w : Want) (s : Held) (http : HttpLayer) (f : Front) → s.layers ≡ Http http ∷ [] → is_behind http.receiving ≡ false → f ≡ front_of_line s.unread → line_read w s ≡ by_line w http [] s.unread s.receiving.done f
reads_line w s http f h k e = ap (λ l. read_line w l s.unread s.receiving.done) h ∙ pick ∙ ap (by_line w http [] s.unread s.receiving.done) (sym e)
  where
    pick : read_line w (Http http ∷ []) s.unread s.receiving.done ≡ by_line w http [] s.unread s.receiving.done (front_of_line s.unread)
    pick = rw k refl

pub takes_empty : (w : Want) (http : HttpLayer) (u : List ℕ) (e : Bool) (x y z : ℕ) → ends_fields w (take (y - x) (drop x u)) ≡ true → by_line w http [] u e (front.Whole x y z) ≡ outcome z (received BehindEmpty http ∷ []) (Fault Epipe)
takes_empty w http u e x y z h = rw h refl

pub takes_line : (w : Want) (http : HttpLayer) (u : List ℕ) (e : Bool) (x y z : ℕ) (o : Option Answer) → ends_fields w (take (y - x) (drop x u)) ≡ false → o ≡ line_answer w (take (y - x) (drop x u)) → by_line w http [] u e (front.Whole x y z) ≡ given_line http [] z o
takes_line w http u e x y z o h k = rw (h, k) refl

-- no line passes a ping
pings_empty : (b : Bool) (x y : Outcome) → x.pings ≡ [] → y.pings ≡ [] → (if b then x else y).pings ≡ []
pings_empty true x y h k = h
pings_empty false x y h k = k

given_empty : (http : HttpLayer) (below : List Placed) (z : ℕ) (o : Option Answer) → (given_line http below z o).pings ≡ []
given_empty http below z (Some a) = refl
given_empty http below z None = refl

line_empty : (w : Want) (http : HttpLayer) (below : List Placed) (u : List ℕ) (e : Bool) (f : Front) → (by_line w http below u e f).pings ≡ []
line_empty w http below u e (front.Whole x y z) = pings_empty (ends_fields w (take (y - x) (drop x u))) (outcome z (received BehindEmpty http ∷ below) (Fault Epipe)) (given_line http below z (line_answer w (take (y - x) (drop x u)))) refl (given_empty http below z (line_answer w (take (y - x) (drop x u))))
line_empty w http below u e front.Need = refl
line_empty w http below u e (front.Fault x) = refl

lines_empty : (w : Want) (layers : List Placed) (u : List ℕ) (e : Bool) → (read_line w layers u e).pings ≡ []
lines_empty w [] u e = refl
lines_empty w (Prefix form ∷ below) u e = refl
lines_empty w (Suffix end ∷ below) u e = refl
lines_empty w (Term term ∷ below) u e = refl
lines_empty w (Http http ∷ below) u e = pings_empty (is_behind http.receiving) (outcome 0 (Http http ∷ below) (Fault Epipe)) (by_line w http below u e (front_of_line u)) refl (line_empty w http below u e (front_of_line u))
lines_empty w (Ws ws ∷ below) u e = refl

pub line_draws : (w : Want) (s : Held) → DrawsNone (line_read w s) s
line_draws w s = draws_none (line_read w s) s (lines_empty w s.layers s.unread s.receiving.done)
