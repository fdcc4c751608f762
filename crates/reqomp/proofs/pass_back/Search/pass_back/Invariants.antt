-- What was found on the way back so far.
use Rattle.std.proofs.Common.{◌≡◌, ◌≤◌, true, [], length}
use Rattle.flat_core.specs.declared.step.WireId.{WireId}
use Rattle.flat_core.specs.Label.{used, step_at}
use Rattle.reqomp.specs.Simple.{has_wire, marked_at}
use Rattle.reqomp.specs.Redone.{Found, marked_among, found_below}
use Rattle.reqomp.specs.Passing.{IsSearch, HasFound}
use Rattle.reqomp.proofs.pass_back.Search.pass_back.Given as goal

abbrev pub invariant-loop-low : goal.invariant-loop-low
invariant-loop-low l = record {
  search : IsSearch l.flat l.self;
  newest : l.self.newest ≡ l.initial.self.newest;
  within : l.i ≤ l.fn.s.number;
  found : (p : Found) × ((w : WireId) → has_wire w p.wires ≡ true → has_wire w (marked_at l.flat l.marks.level) ≡ true) × HasFound l.flat l.self l.low l.steps.items p × (found_below l.flat (marked_at l.flat l.marks.level) (length l.flat.steps) (record { wires = marked_among (marked_at l.flat l.marks.level) (used (step_at l.flat l.fn.s)); steps = [] }) ≡ found_below l.flat (marked_at l.flat l.marks.level) l.i p);
}

abbrev pub decreases-loop-low : goal.decreases-loop-low
decreases-loop-low l = l.i
