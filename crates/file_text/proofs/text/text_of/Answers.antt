use Rattle.std.proofs.lemmas.Str.{is_utf8-from_IsUtf8}
use Rattle.file_text.proofs.Why.{fine, long, text_begins}
use Rattle.file_text.proofs.text.text_of.Goals as goal

pub returns-then-bytes-limit-clause-fault : goal.returns-then-bytes-limit-clause-fault
returns-then-bytes-limit-clause-fault c =
    long c.args.limit c.args.bytes.now c.if-bytes-limit.true c.requires.most (text_begins c.args.bytes.now c.in-Ok.ensures.cases.1)

pub returns-else-bytes-limit-clause-utf8 : goal.returns-else-bytes-limit-clause-utf8
returns-else-bytes-limit-clause-utf8 c = is_utf8-from_IsUtf8 c.args.bytes.now c.in-Ok.ensures.cases.1

pub returns-else-bytes-limit-clause-fine : goal.returns-else-bytes-limit-clause-fine
returns-else-bytes-limit-clause-fine c =
    fine c.args.limit c.args.bytes.now c.if-bytes-limit.false (is_utf8-from_IsUtf8 c.args.bytes.now c.in-Ok.ensures.cases.1)
