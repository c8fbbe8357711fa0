use Rattle.std.proofs.Common.{◌≡◌, ◌-◌, length}
use Rattle.dill_scope.specs.Scopes as scopes
use Rattle.dill_scope.proofs.scopes.Scopes.inside.Given as goal

-- what is still to be searched decides
abbrev pub invariant-loop : goal.invariant-loop
invariant-loop l = record {
  end : l.end ≡ length l.self.homes;
  rest : scopes.inside_within (length l.fn.self.homes) l.fn.self l.fn.bundle l.fn.who ≡ scopes.inside_within (l.end - l.counter) l.fn.self l.fn.bundle l.at;
}
