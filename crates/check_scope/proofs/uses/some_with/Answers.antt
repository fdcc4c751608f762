use Rattle.std.proofs.Common.{sym}
use Rattle.check_scope.proofs.Overlapping.{empty_with}
use Rattle.check_scope.proofs.uses.some_with.Goals as goal

pub returns-then-is_empty : goal.returns-then-is_empty
returns-then-is_empty c = empty_with _ _ _ (sym c.if-is_empty.ensures)
