use Rattle.std.proofs.Common.{chars, sym, ◌∙◌}
use Rattle.qasm_read.proofs.Qubits.{at_index, more_behind, empty_text, some_text}
use Rattle.qasm_read.proofs.line.qubit_named.Goals as goal

pub returns-then-is_empty : goal.returns-then-is_empty
returns-then-is_empty c =
    c.bit_of.ensures
    ∙ at_index c.args.registers.now (chars c.args.text.now) (chars c.in_ok-name.name.now) (chars c.in_ok-name.rest.now) (chars c.in_ok-digits.digits.now) (chars c.in_ok-digits.behind.now) c.in_ok-index.index
    c.in_ok-name.ensures.some c.in_ok-digits.ensures.some (sym c.in_ok-index.was ∙ c.written_number.ensures)
    (empty_text c.in_ok-digits.behind.now c.is_empty.result c.is_empty.ensures c.if-is_empty.true)

pub returns-else-is_empty : goal.returns-else-is_empty
returns-else-is_empty c =
    more_behind c.args.registers.now (chars c.args.text.now) (chars c.in_ok-name.name.now) (chars c.in_ok-name.rest.now) (chars c.in_ok-digits.digits.now) c.in_ok-digits.behind.now
    c.in_ok-name.ensures.some c.in_ok-digits.ensures.some c.in_ok-digits.ensures.text
    (some_text c.in_ok-digits.behind.now c.is_empty.result c.is_empty.ensures c.if-is_empty.false)
