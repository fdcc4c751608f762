-- The inputs are within the width.
use Rattle.plan_gates.proofs.Loops.{inputs_fit}
use Rattle.plan_report.proofs.report.report_of.Goals as goal

pub new-requires-clause-inputs : goal.new-requires-clause-inputs
new-requires-clause-inputs c = inputs_fit c.args.flat.now c.args.moves.now c.args.width c.requires.fits
