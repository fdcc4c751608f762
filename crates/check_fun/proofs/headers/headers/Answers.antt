use Rattle.std.proofs.Common.{◌≡◌, arith}
use Rattle.check_scope.specs.Faults.{fault_as}
use Rattle.check_fun.proofs.HeaderNames.{headers_on, headers_stop, headers_done}
use Rattle.check_fun.proofs.headers.headers.Goals as goal

pub returns-in-Err-clause-fault : goal.returns-in-Err-clause-fault
returns-in-Err-clause-fault c =
    headers_stop c.args.library.now c.loop-fun.fun c.loop-fun.earlier c.loop-fun.invariant.0 (fault_as c.in-Err.fault) (omega (arith, c.loop-fun-test.true, c.len-count.ensures, c.if-count.false)) c.loop-fun.invariant.1 c.loop-fun.invariant.2 c.in-Err.ensures.fault

pub loop-fun-preserved : goal.loop-fun-preserved
loop-fun-preserved c =
    headers_on c.args.library.now c.loop-fun.fun c.loop-fun.earlier c.loop-fun.invariant.0 c.header_names.new.earlier (omega (arith, c.loop-fun-test.true, c.len-count.ensures, c.if-count.false)) c.loop-fun.invariant.1 c.loop-fun.invariant.2 c.in-Ok.ensures.fine c.in-Ok.ensures.added
