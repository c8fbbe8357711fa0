-- What the definition of a line's front says.
use Rattle.std.proofs.Common.{◌≡◌, ◌<◌, ◌≤◌, ◌++◌, List, ℕ, length, refl, ◌∙◌, true, false, ltb, lt-ltb, le-ltb, if◌then◌else◌}
use Rattle.std.specs.List.{list_all, prefix_len}
use Rattle.std.proofs.lemmas.List.{drop_at}
use Rattle.dill_base.specs.declared.errno.Errno.TheVariants.{Emsgsize}
use Rattle.dill_base.specs.declared.errno.Front.TheVariants.{Fault}
use Rattle.dill_http.specs.Bytes.{is_inner, begins_with}
use Rattle.dill_http.specs.Lines.{line_limit, front_of_line, front_behind}
use Rattle.dill_http.proofs.Runs.{length_of_run}

pub front_at : (t rest : List ℕ) → list_all is_inner t ≡ true → begins_with is_inner rest ≡ false → front_of_line (t ++ rest) ≡ (if ltb line_limit (length t) then Fault Emsgsize else front_behind (length t) rest)
unfolding front_of_line
front_at t rest h s = rw (length_of_run is_inner t rest h s, drop_at t rest (length t) refl) refl

pub front_over : (u : List ℕ) → line_limit < prefix_len is_inner u → front_of_line u ≡ Fault Emsgsize
unfolding front_of_line
front_over u h = rw (lt-ltb line_limit (prefix_len is_inner u) h) refl

pub front_short : (t rest : List ℕ) → list_all is_inner t ≡ true → begins_with is_inner rest ≡ false → length t ≤ line_limit → front_of_line (t ++ rest) ≡ front_behind (length t) rest
front_short t rest h s l = front_at t rest h s ∙ (rw (le-ltb line_limit (length t) l) refl)
