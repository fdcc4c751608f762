use Rattle.check_expr.proofs.Scopes.{reads_result, stops_result}
use Rattle.check_expr.proofs.own.own_header.Goals as goal

pub returns-in-Ok-clause-reads : goal.returns-in-Ok-clause-reads
returns-in-Ok-clause-reads c = λ met s. reads_result met _ _ s (rw c.in_ok-statics.ensures at c.in-Ok.ensures.value)

pub returns-clause-stops : goal.returns-clause-stops
returns-clause-stops c = λ met s. stops_result met _ c.in-Err.fault s (rw c.in_ok-statics.ensures at c.in-Err.ensures.fault)
