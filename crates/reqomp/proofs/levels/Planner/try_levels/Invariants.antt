-- No level so far fits, and this is their least width.
use Rattle.std.proofs.Common.{◌≤◌, ◌*◌, ◌^◌, Some}
use Rattle.reqomp.specs.Search.{NoneFitsBelow, IsLeastBelow}
use Rattle.reqomp.specs.Trying.{IsPlanner}
use Rattle.reqomp.proofs.levels.Planner.try_levels.Given as goal

abbrev pub invariant-loop-level : goal.invariant-loop-level
invariant-loop-level l = record {
  planner : IsPlanner l.flat l.self;
  newest : l.self.search.newest ≤ l.level * 2 ^ 32;
  none : NoneFitsBelow l.flat l.budget l.level;
  least : IsLeastBelow l.flat l.level (Some l.least);
}
