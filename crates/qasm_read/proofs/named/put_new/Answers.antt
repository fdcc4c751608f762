use Rattle.std.proofs.Common.{inl, sym, ◌∙◌}
use Rattle.gate_core.proofs.Added.{contains_iff}
use Rattle.qasm_read.proofs.News.{put_in}
use Rattle.qasm_read.proofs.named.put_new.Goals as goal

pub returns-then-contains : goal.returns-then-contains
returns-then-contains c = inl ((contains_iff c.args.seen.now c.args.qubit).0 (sym c.contains.ensures ∙ c.if-contains.true))

pub returns : goal.returns
returns c =
    put_in c.args.seen.now c.args.line.now c.insert.new.self c.args.qubit c.in_ok-insert.field-0 (sym c.contains.ensures ∙ c.if-contains.false)
    c.in_ok-insert.ensures.added c.in_ok-insert.ensures.updates
