use Rattle.std.proofs.Common.{◌≡◌, length}
use Rattle.sum_laws.specs.Units.{AllUnits}
use Rattle.test_circuits.proofs.sums.terms_of.Given as goal

-- the terms so far are single ones
abbrev pub invariant-loop-value : goal.invariant-loop-value
invariant-loop-value l = record {
  units : AllUnits l.terms;
  long : length l.terms ≡ l.value-index;
}
