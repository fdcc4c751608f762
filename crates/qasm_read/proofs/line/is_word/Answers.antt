use Rattle.std.proofs.Common.{◌∙◌}
use Rattle.qasm_read.proofs.Headed.{word_is}
use Rattle.qasm_read.proofs.line.is_word.Goals as goal

pub returns : goal.returns
returns c = c.eq.ensures ∙ word_is c.args.text.now c.args.word.now c.utf8.text c.utf8.word c.requires
