-- The groups of the first vertices.
use Rattle.std.proofs.Common.{◌+◌, ◌≤◌}
use Rattle.reqomp.specs.Grouping.{AreGroups}
use Rattle.reqomp.specs.Passing.{IsSearch}
use Rattle.reqomp.specs.Simple.{marked_at}
use Rattle.reqomp.proofs.groups.groups_of.Given as goal

abbrev pub invariant-loop-i : goal.invariant-loop-i
invariant-loop-i l = record {
  search : IsSearch l.flat l.search;
  newest : l.search.newest ≤ l.fn.search.newest + l.i;
  groups : AreGroups l.flat (marked_at l.flat l.marks.level) l.circuit l.i l.groups;
  few : l.groups.moves ≤ 600000;
}
