use Rattle.std.proofs.Common.{sym, arith}
use Rattle.check_fun.proofs.Binding.{bound_first, bound_more}
use Rattle.check_fun.proofs.bind.bind_all.Goals as goal

pub loop-i-init : goal.loop-i-init
loop-i-init c = bound_first _ _ _

pub loop-i-preserved : goal.loop-i-preserved
loop-i-preserved c = bound_more c.args.cx.now c.loop-i.cx c.bind_next.new.cx c.args.names.now c.args.values.now c.loop-i.i (record { number = 0 }) (omega arith) c.loop-i.invariant c.in_ok-bind_next.ensures.kept (rw (sym c.value_at.ensures) c.in_ok-bind_next.ensures.bound)
