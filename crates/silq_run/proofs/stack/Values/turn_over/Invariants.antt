use Rattle.std.proofs.Common.{◌≡◌, take, drop, reverse}
use Rattle.silq_run.proofs.stack.Values.turn_over.Given as goal

abbrev pub invariant-loop : goal.invariant-loop
invariant-loop l = (l.turned ≡ reverse (take l.counter l.fn.self)) × (l.self ≡ drop l.counter l.fn.self)
