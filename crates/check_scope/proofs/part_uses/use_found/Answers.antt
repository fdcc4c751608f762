use Rattle.check_scope.proofs.part_uses.use_found.Goals as goal

pub returns-in-Some-clause-reads : goal.returns-in-Some-clause-reads
returns-in-Some-clause-reads c = λ met l. rw (← c.in-Some.ensures) (c.use_whole.ensures.reads met l)

pub returns-in-Some-clause-stops : goal.returns-in-Some-clause-stops
returns-in-Some-clause-stops c = λ met l. rw (← c.in-Some.ensures) (c.use_whole.ensures.stops met l)
