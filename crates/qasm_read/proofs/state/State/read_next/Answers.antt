use Rattle.std.proofs.lemmas.Result.{err_from_is_err_and}
use Rattle.qasm_tokens.specs.Taken.{item_of}
use Rattle.qasm_read.proofs.Spelled.{spelled}
use Rattle.qasm_read.proofs.Stepped.{stepped, faulted}
use Rattle.qasm_read.proofs.state.State.read_next.Goals as goal

pub read_item-requires : goal.read_item-requires
read_item-requires c = spelled c.in_ok-taken.taken.tokens.items c.in_ok-taken.ensures.numbers

pub returns-in_err-read_item-clause-refused : goal.returns-in_err-read_item-clause-refused
returns-in_err-read_item-clause-refused c =
    let p = err_from_is_err_and c.from_residual-in_err-read_item.result c.from_residual-in_err-read_item.ensures.1 in
    rw (p.1, p.2)
    (λ n. faulted c.args.reader.now c.take_item.new.self c.args.self.now (item_of c.in_ok-taken.taken) c.in_ok-taken.taken.ending c.in_err-read_item.field-0.0
    c.in_ok-taken.ensures.item (c.in_err-read_item.ensures.refused n))

pub returns-clause-reads : goal.returns-clause-reads
returns-clause-reads c =
    rw c.in_ok-read_item.ensures.state
    (stepped c.args.reader.now c.take_item.new.self c.args.self.now (item_of c.in_ok-taken.taken) c.in_ok-taken.taken.ending
    c.is_followed.result c.is_followed.ensures c.in_ok-taken.ensures.item c.in_ok-read_item.ensures.allowed)
