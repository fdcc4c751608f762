use Rattle.std.proofs.Common.{◌∙◌, rules, tests}
use Rattle.std.proofs.lemmas.Iterator.{YieldsList-from_slice}
use Rattle.std.proofs.lemmas.Iterator.Search.{all_from_yields_List}
use Rattle.qasm_tokens.specs.Table.{can_be_empty}
use Rattle.qasm_tokens.proofs.Added.{may_stop-reverse}
use Rattle.qasm_tokens.proofs.stack.may_stop.Goals as goal

pub returns : goal.returns
returns c =
    all_from_yields_List can_be_empty _ _ _ c.all.ensures.ran (YieldsList-from_slice c.args.stack.now cc) (λ x b q k. search (rules, tests))
    ∙ may_stop-reverse c.args.stack.now
