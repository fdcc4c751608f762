use Rattle.std.proofs.lemmas.List.Elements.{All-take, All-drop}
use Rattle.qasm_read.specs.Read.{IsSpelled}
use Rattle.qasm_read.proofs.refused.held_in.Goals as goal

pub returns-in-len5-up-clause-spelled : goal.returns-in-len5-up-clause-spelled
returns-in-len5-up-clause-spelled c = All-take IsSpelled _ _ (All-drop IsSpelled 5 c.args.tokens.now c.requires)
