use Rattle.sum_laws.proofs.laws.sums_of_units_are_small.Goals as goal
use Rattle.sum_laws.proofs.UnitSums.{sum_nothing, sum_single, sum_more, sum-plus, sum-times, sum_same, sum_reduced, sum_small}

pub returns : goal.returns
returns c = record {
  nothing = sum_nothing;
  single = sum_single;
  more = sum_more;
  of_sums = sum-plus;
  of_factors = sum-times;
  of_same = sum_same;
  of_reduced = sum_reduced;
  small = sum_small;
}
