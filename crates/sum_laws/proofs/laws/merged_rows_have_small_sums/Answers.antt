use Rattle.sum_laws.proofs.laws.merged_rows_have_small_sums.Goals as goal
use Rattle.sum_laws.proofs.StandsFor.{stands_first, stands_nothing, stands_term, stands_units, stands_more, stands-append, stands_rearranged, stands_branched, stands_table, stands_small}

pub returns : goal.returns
returns c = record {
  begin = stands_first;
  nothing = stands_nothing;
  of_term = stands_term;
  of_units = stands_units;
  more = stands_more;
  of_joined = stands-append;
  of_rearranged = stands_rearranged;
  of_branches = stands_branched;
  of_table = stands_table;
  small_sums = stands_small;
}
