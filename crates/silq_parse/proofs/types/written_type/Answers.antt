use Rattle.std.proofs.Common.{refl, arith}
use Rattle.silq_grammar.specs.Outcome.{outcome}
use Rattle.expr_parse.proofs.Exits.{stops_behind, behind}
use Rattle.silq_parse.proofs.TypeReads.{quantum_reads, classical_reads}
use Rattle.silq_parse.proofs.Opened.{bang_there}
use Rattle.silq_parse.proofs.Skips.{no_bang_there}
use Rattle.silq_parse.proofs.types.written_type.Goals as goal

pub returns-in_err-ty-in-Some-clause-machine : goal.returns-in_err-ty-in-Some-clause-machine
unfolding outcome
returns-in_err-ty-in-Some-clause-machine c = λ k h.
    stops_behind _ _ _ _ _ _ c.from_residual.ensures.1 (refl) (c.in_err-ty-in-Some.ensures.machine (k) (omega arith)) (bang_there k _ _ c.in-Some.at c.in-Some.ensures (omega arith))

pub returns-in_ok-ty-in-Some-clause-machine : goal.returns-in_ok-ty-in-Some-clause-machine
unfolding outcome
returns-in_ok-ty-in-Some-clause-machine c = λ k h.
    behind ((c.in_ok-ty-in-Some.ensures.machine (k) (omega arith))) (bang_there k _ _ c.in-Some.at c.in-Some.ensures (omega arith))

pub returns-in_err-ty-in-None-clause-machine : goal.returns-in_err-ty-in-None-clause-machine
unfolding outcome
returns-in_err-ty-in-None-clause-machine c = λ k h.
    stops_behind _ _ _ _ _ _ c.from_residual-in_err-ty-in-None.ensures.1 (refl) (c.in_err-ty-in-None.ensures.machine (k) (omega arith)) (no_bang_there k _ c.in-None.ensures)

pub returns-in_ok-ty-in-None-clause-machine : goal.returns-in_ok-ty-in-None-clause-machine
unfolding outcome
returns-in_ok-ty-in-None-clause-machine c = λ k h.
    behind ((c.in_ok-ty-in-None.ensures.machine (k) (omega arith))) (no_bang_there k _ c.in-None.ensures)

pub returns-in_ok-ty-in-Some-clause-reads : goal.returns-in_ok-ty-in-Some-clause-reads
returns-in_ok-ty-in-Some-clause-reads c = classical_reads c.in-Some.at c.in-Some.ensures c.in_ok-ty-in-Some.ensures.reads

pub returns-in_ok-ty-in-None-clause-reads : goal.returns-in_ok-ty-in-None-clause-reads
returns-in_ok-ty-in-None-clause-reads c = quantum_reads _ c.first_spot-at.ensures c.in_ok-ty-in-None.ensures.reads
