use Rattle.std.proofs.Common.{◌≡◌, ◌++◌}
use Rattle.silq_types.specs.Programs.{paired}
use Rattle.check_expr.proofs.own.paired.Given as goal

-- the pairs that are left stand behind
abbrev pub invariant-loop-name : goal.invariant-loop-name
invariant-loop-name l =
    (goal.iterator-loop-name).can_next l.name-iterator ×
    (goal.iterator-loop-name).is_finite l.name-iterator ×
    (l.pairs ++ paired l.name-iterator.a.rest.now l.name-iterator.b.rest.now ≡ paired l.names l.values)
