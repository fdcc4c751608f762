use Rattle.std.proofs.Common.{drop}
use Rattle.bit_arith.specs.Built.{begun}
use Rattle.bit_arith.specs.Rows.{matches}
use Rattle.bit_arith.proofs.Going.{Going}
use Rattle.bit_arith.proofs.Turns.{prepend}
use Rattle.bit_arith.proofs.builder.Builder.matches.Given as goal

abbrev pub invariant-loop-i : goal.invariant-loop-i
invariant-loop-i l =
    Going l.fn.self l.self (λ at b. prepend l.matches.items (matches at (drop l.i l.a) (drop l.i l.b) b)) (matches l.fn.self.setting l.a l.b (begun l.fn.self.draft))
