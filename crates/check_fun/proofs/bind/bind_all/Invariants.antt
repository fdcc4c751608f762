use Rattle.check_fun.proofs.Binding.{Bound}
use Rattle.check_fun.proofs.bind.bind_all.Given as goal

abbrev pub invariant-loop-i : goal.invariant-loop-i
invariant-loop-i l = Bound l.fn.cx l.cx l.names l.values l.i
