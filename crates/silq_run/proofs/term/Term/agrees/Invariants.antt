use Rattle.std.proofs.Common.{◌≡◌, drop}
use Rattle.silq_mean.specs.Effect.{agrees}
use Rattle.silq_mean.specs.Table.{outcome_of}
use Rattle.silq_run.proofs.term.Term.agrees.Given as goal

abbrev pub invariant-loop-bit : goal.invariant-loop-bit
invariant-loop-bit l = agrees (outcome_of l.outcome) l.number (drop l.bit-index l.bits) ≡ agrees (outcome_of l.outcome) l.self.measured l.bits
