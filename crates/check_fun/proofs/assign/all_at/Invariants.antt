use Rattle.std.proofs.Common.{◌≡◌, drop}
use Rattle.check_fun.specs.Statement.{all_at}
use Rattle.check_fun.proofs.assign.all_at.Given as goal

-- the rest tells
abbrev pub invariant-loop-value : goal.invariant-loop-value
invariant-loop-value l = all_at l.place (drop l.value-index l.values) ≡ all_at l.place l.values
