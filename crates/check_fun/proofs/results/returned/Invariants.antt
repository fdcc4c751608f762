use Rattle.std.proofs.Common.{◌≡◌, length, drop, ◌++◌}
use Rattle.check_fun.specs.Program.{returned_as}
use Rattle.check_fun.proofs.results.returned.Given as goal

-- what is done, and the rest
abbrev pub invariant-loop-ty : goal.invariant-loop-ty
invariant-loop-ty l =
    l.results ++ returned_as l.params (drop (length l.yielded) l.types) (drop (length l.yielded) l.values) ≡ returned_as l.params l.types l.values
