-- The edges that were added so far.
use Rattle.std.proofs.Common.{◌≡◌}
use Rattle.reqomp.specs.Simple.{marked_at}
use Rattle.reqomp.specs.Growing.{HasGrown, IsSoundFor}
use Rattle.reqomp.proofs.NearEnds.{HaveFirst}
use Rattle.reqomp.proofs.growing.Growing.add_ends.Given as goal

abbrev pub invariant-loop-i : goal.invariant-loop-i
invariant-loop-i l = record {
  level : l.self.level ≡ l.fn.self.level;
  grown : HasGrown l.fn.self.graph l.self.graph;
  sound : IsSoundFor l.flat (marked_at l.flat l.fn.self.level) l.self.graph;
  there : HaveFirst l.ids l.ends l.own l.entering l.i l.self.graph;
}
