use Rattle.std.proofs.Common.{drop, map}
use Rattle.bit_arith.specs.Built.{begun}
use Rattle.bit_arith.specs.Rows.{flip_by, alone}
use Rattle.bit_arith.proofs.Going.{Going}
use Rattle.bit_arith.proofs.builder.Builder.flip_alone.Given as goal

abbrev pub invariant-loop-p : goal.invariant-loop-p
invariant-loop-p l =
    Going l.fn.self l.self (λ at b. flip_by at l.w (map alone (drop l.p-index l.list)) b) (flip_by l.fn.self.setting l.w (map alone l.list) (begun l.fn.self.draft))
