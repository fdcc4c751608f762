use Rattle.silqc.proofs.status.Status.put.Goals as goal

pub returns-in-OverBudget-clause-ok : goal.returns-in-OverBudget-clause-ok
returns-in-OverBudget-clause-ok g c = rw c.in-OverBudget.is c.put_over_budget.ensures.ok

pub returns-in-WriteFault-clause-ok : goal.returns-in-WriteFault-clause-ok
returns-in-WriteFault-clause-ok g c = rw c.in-WriteFault.is c.put_all-in-WriteFault.ensures.ok

pub returns-in-WriteFault-clause-broken : goal.returns-in-WriteFault-clause-broken
returns-in-WriteFault-clause-broken g c = rw c.in-WriteFault.is c.put_all-in-WriteFault.ensures.broken

pub returns-in-Memory-clause-ok : goal.returns-in-Memory-clause-ok
returns-in-Memory-clause-ok g c = rw c.in-Memory.is c.put_all-in-Memory.ensures.ok

pub returns-in-Memory-clause-broken : goal.returns-in-Memory-clause-broken
returns-in-Memory-clause-broken g c = rw c.in-Memory.is c.put_all-in-Memory.ensures.broken

pub returns-in-Unsupported-clause-broken : goal.returns-in-Unsupported-clause-broken
returns-in-Unsupported-clause-broken g c = rw (c.in-Unsupported.is, ← c.name-in-Unsupported.ensures) c.put_unsupported.ensures.broken

pub returns-in-Bits-clause-ok : goal.returns-in-Bits-clause-ok
returns-in-Bits-clause-ok g c = rw c.in-Bits.is c.put_bits.ensures.ok

pub returns-in-FalseForget-clause-ok : goal.returns-in-FalseForget-clause-ok
returns-in-FalseForget-clause-ok g c = rw c.in-FalseForget.is c.put_false_forget.ensures.ok
