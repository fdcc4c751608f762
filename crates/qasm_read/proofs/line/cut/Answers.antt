use Rattle.qasm_read.proofs.Cuts.{cut_none, cut_some, cut_shorter, cut_text}
use Rattle.qasm_read.proofs.line.cut.Goals as goal

pub returns-clause-none : goal.returns-clause-none
returns-clause-none c = cut_none c.args.c c.args.text.now c.split_once.result c.split_once.ensures.cases c.utf8.text c.requires

pub returns-clause-some : goal.returns-clause-some
returns-clause-some c = cut_some c.args.c c.args.text.now c.split_once.result c.split_once.ensures.cases c.utf8.text c.requires

pub returns-clause-shorter : goal.returns-clause-shorter
returns-clause-shorter c = cut_shorter c.args.c c.args.text.now c.split_once.result c.split_once.ensures.cases

pub returns-clause-text : goal.returns-clause-text
returns-clause-text c = cut_text c.args.c c.args.text.now c.split_once.result c.split_once.ensures.cases c.utf8.text
