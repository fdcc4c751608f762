use Rattle.silqc.proofs.status.put_false_forget.Goals as goal

pub returns-clause-ok : goal.returns-clause-ok
returns-clause-ok g c = simp (c.from.ensures) at c.put_pieces.ensures.ok

pub returns-clause-broken : goal.returns-clause-broken
returns-clause-broken g c = simp (c.from.ensures) at c.put_pieces.ensures.broken
