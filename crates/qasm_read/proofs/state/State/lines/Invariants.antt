use Rattle.std.proofs.Common.{◌≡◌, drop}
use Rattle.qasm_read.specs.Lines.{with_lines}
use Rattle.qasm_read.specs.Written.{texts_of}
use Rattle.qasm_read.proofs.state.State.lines.Given as goal

abbrev pub invariant-loop-text : goal.invariant-loop-text
invariant-loop-text l = with_lines l.fn.self (texts_of l.texts) ≡ with_lines l.self (texts_of (drop l.text-index l.texts))
