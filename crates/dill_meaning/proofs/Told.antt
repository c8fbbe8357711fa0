-- A call is told by its word and its operands.
use Rattle.std.proofs.Common.{◌≡◌, List, [], ◌∷◌, map, filter_map, Some, refl, ap, append-nil}
use Rattle.dill_calls.specs.declared.call.Call.TheVariants as calls
use Rattle.dill_calls.specs.declared.lists.Arg.{Arg}
use Rattle.dill_calls.specs.declared.lists.Arg.TheVariants.{Show, Give}
use Rattle.dill_calls.specs.declared.lists.Clause.{Clause}
use Rattle.dill_calls.specs.declared.lists.Clause.TheVariants.{Send, Recv}
use Rattle.dill_meaning.specs.Calls.{arg_of, clause_of}
use Rattle.dill_meaning.specs.Making.{arg_value, clause_value, CallsAreTold}

args_told : (args : List Arg) → filter_map arg_of (map arg_value args) ≡ args
args_told [] = refl
args_told (Show value ∷ args) = ap (λ x. Show value ∷ x) (args_told args)
args_told (Give value ∷ args) = ap (λ x. Give value ∷ x) (args_told args)

clauses_told : (clauses : List Clause) → filter_map clause_of (map clause_value clauses) ≡ clauses
clauses_told [] = refl
clauses_told (Send end item ∷ clauses) = ap (λ x. Send end item ∷ x) (clauses_told clauses)
clauses_told (Recv end size ∷ clauses) = ap (λ x. Recv end size ∷ x) (clauses_told clauses)

pub calls_told : CallsAreTold
calls_told (calls.Print text) written = ap (λ x. Some (calls.Print x)) (append-nil text)
calls_told (calls.Go program args) written = ap (λ x. Some (calls.Go program x)) (args_told args)
calls_told (calls.BundleGo h program args) written = ap (λ x. Some (calls.BundleGo h program x)) (args_told args)
calls_told (calls.Choose wait clauses) written = ap (λ x. Some (calls.Choose wait x)) (clauses_told clauses)
calls_told (calls.Pass word fault) written = cc
calls_told _ written = refl
