use Rattle.std.proofs.Common.{◌≡◌, length, get_or, refl, subst, arith}
use Rattle.qasm_read.proofs.News.{HaveTold, at_first, one_new, not_new, all_new, puts_yes, puts_no}
use Rattle.qasm_read.proofs.named.are_new.Goals as goal

pub loop-qubit-init : goal.loop-qubit-init
loop-qubit-init c = rw c.new-line.ensures.empty (at_first c.args.seen.now.keys c.args.qubits.now)

pub returns-then-not-branch : goal.returns-then-not-branch
returns-then-not-branch c =
    let q = get_or c.args.qubits.now c.loop-qubit.qubit-index 0 in
    not_new c.args.seen.now.keys c.loop-qubit.line.keys c.args.qubits.now c.loop-qubit.qubit-index 0 q (omega arith) refl c.loop-qubit.invariant
    (puts_no c.in_ok-put_new.field-0 c.args.seen.now.keys c.loop-qubit.line.keys q c.put_new.new.line.keys c.if-not-branch.true c.in_ok-put_new.ensures)

pub loop-qubit-preserved : goal.loop-qubit-preserved
loop-qubit-preserved c =
    let q = get_or c.args.qubits.now c.loop-qubit.qubit-index 0 in
    let p =
    puts_yes c.in_ok-put_new.field-0 c.args.seen.now.keys c.loop-qubit.line.keys q c.put_new.new.line.keys c.if-not-branch.false c.in_ok-put_new.ensures in
    one_new c.args.seen.now.keys c.loop-qubit.line.keys c.args.qubits.now c.loop-qubit.qubit-index 0 q (omega arith) refl
    c.loop-qubit.invariant c.put_new.new.line.keys p.0 p.1 p.2

pub returns : goal.returns
returns c =
    let e : c.loop-qubit.qubit-index ≡ length c.args.qubits.now = omega arith in
    all_new c.args.seen.now.keys c.loop-qubit.line.keys c.args.qubits.now
    (subst (HaveTold c.args.seen.now.keys c.loop-qubit.line.keys c.args.qubits.now) e c.loop-qubit.invariant)
