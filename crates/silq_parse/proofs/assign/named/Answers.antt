use Rattle.std.proofs.Common.{◌∙◌, arith}
use Rattle.expr_parse.proofs.Exits.{stops}
use Rattle.silq_parse.proofs.AssignReads.{changed_free, assign_reads, call_reads}
use Rattle.silq_parse.proofs.assign.named.Goals as goal

pub returns-in_err-rest-in-Call-clause-machine : goal.returns-in_err-rest-in-Call-clause-machine
returns-in_err-rest-in-Call-clause-machine c = λ k h.
    stops _ _ _ _ _ c.from_residual-in_err-rest-in-Call.ensures.1 ((rw c.in-Call.is at (c.in_ok-target.ensures.start k (omega arith)))) (c.in_err-rest-in-Call.ensures.machine (k) (omega arith))

pub returns-in_ok-id-in-Place-clause-machine : goal.returns-in_ok-id-in-Place-clause-machine
returns-in_ok-id-in-Place-clause-machine c = λ k h.
    (rw c.in-Place.is at (c.in_ok-target.ensures.start k (omega arith))) ∙ (c.in_ok-op-in-Place.ensures.machine (k) (omega arith))

pub add_statement-requires-clause-exprs : goal.add_statement-requires-clause-exprs
add_statement-requires-clause-exprs c =
    let x = rw c.in-Place.is at c.in_ok-target.ensures.reads in
    changed_free c.in-Place.place c.in_ok-op-in-Place.op c.args.at _ c.changed.ensures c.in_ok-op-in-Place.ensures.arena x.0.grew c.in_ok-op-in-Place.ensures.reads.grew

pub returns-in_ok-id-in-Place-clause-reads : goal.returns-in_ok-id-in-Place-clause-reads
returns-in_ok-id-in-Place-clause-reads c =
    let x = rw c.in-Place.is at c.in_ok-target.ensures.reads in
    assign_reads c.in-Place.place c.args.name c.args.at x.0 c.in_ok-op-in-Place.ensures.reads c.changed.ensures c.in_ok-id-in-Place.ensures.added x.2

pub returns-in_ok-id-in-Call-clause-reads : goal.returns-in_ok-id-in-Call-clause-reads
returns-in_ok-id-in-Call-clause-reads c =
    let x = rw c.in-Call.is at c.in_ok-target.ensures.reads in
    call_reads c.args.name c.args.at _ x c.in_ok-rest-in-Call.ensures.token c.in_ok-id-in-Call.ensures.added
