use Rattle.std.proofs.Common.{◌≡◌, take}
use Rattle.silq_run.proofs.stack.Callers.copied.Given as goal

abbrev pub invariant-loop-caller : goal.invariant-loop-caller
invariant-loop-caller l = l.items.items ≡ take l.caller-index l.caller-items
