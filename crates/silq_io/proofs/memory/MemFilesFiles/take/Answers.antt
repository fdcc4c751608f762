use Rattle.std.proofs.Common.{◌<◌, length, rules}
use Rattle.silq_io.proofs.Steps.{held-taken, counts-taken, others-taken, takes_by, rose_by}
use Rattle.silq_io.proofs.memory.MemFilesFiles.take.Goals as goal

pub returns-clause-held : goal.returns-clause-held
returns-clause-held c other = rw c.read.ensures.after (held-taken c.args.self.now c.args.name.now (length c.args.buf.now) other)

pub returns-clause-taken : goal.returns-clause-taken
returns-clause-taken c =
    let some : 0 < length c.args.buf.now = search rules in
    rw c.read.ensures.after (takes_by c.args.self.now c.args.name.now c.args.buf.now c.read.new.buf c.read.result some c.read.ensures.answer c.read.ensures.moved c.read.ensures.bytes)

pub returns-clause-counts : goal.returns-clause-counts
returns-clause-counts c other = rw c.read.ensures.after (counts-taken c.args.self.now c.args.name.now (length c.args.buf.now) other)

pub returns-clause-failed : goal.returns-clause-failed
returns-clause-failed c =
    let some : 0 < length c.args.buf.now = search rules in
    rw c.read.ensures.after (rose_by c.args.self.now c.args.name.now (length c.args.buf.now) c.read.result some c.read.ensures.answer)

pub returns-clause-others : goal.returns-clause-others
returns-clause-others c other ne told = rw c.read.ensures.after (others-taken c.args.self.now c.args.name.now (length c.args.buf.now) other ne told)
