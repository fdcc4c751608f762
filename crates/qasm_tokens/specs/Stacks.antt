-- What a step does to the symbols that are expected.
use Rattle.std.specs.Prelude.{◌≡◌, Bool, true, false, List, Some, None}
use Rattle.grammar_core.specs.Table.{advance}
use Rattle.qasm_tokens.specs.declared.kind.Kind.{Kind}
use Rattle.qasm_tokens.specs.declared.symbol.Symbol.{Symbol}
use Rattle.qasm_tokens.specs.Table.{table}

abbrev pub Steps : List Symbol → Kind → Bool → List Symbol → Type 0
Steps xs t true ys = advance table xs t ≡ Some ys
Steps xs t false ys = advance table xs t ≡ None
