-- What goes on with characters of one class.
use Rattle.std.specs.Prelude.{ℕ, Bool, not, ◌==◌}
use Rattle.silq_lex.specs.Characters.{is_digit}
use Rattle.qasm_tokens.specs.Words.{goes_on}
use Rattle.qasm_tokens.specs.declared.class.Class.{Class}
use Rattle.qasm_tokens.specs.declared.class.Class.TheVariants.{Word, Number, Quoted, Line}

abbrev pub passes : Class → ℕ → Bool
passes Word c = goes_on c
passes Number c = is_digit c
passes Quoted c = not (c == 34)
passes Line c = not (c == 10)
