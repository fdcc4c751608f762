use Rattle.std.proofs.Common.{◌≡◌, rules}
use Rattle.silq_io.specs.Memory.{stored}
use Rattle.silq_io.proofs.Places.{held-stored}
use Rattle.silq_io.proofs.memory.MemFiles.new.Goals as goal

pub returns-clause-held : goal.returns-clause-held
returns-clause-held c name =
    let made : c.in_ok-files.files.items ≡ (stored c.args.files.items c.args.fails.items).files = search rules in
    rw made (held-stored c.args.files.items c.args.fails.items name)
