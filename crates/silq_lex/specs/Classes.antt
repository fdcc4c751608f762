-- What goes on with characters of one class.
use Rattle.std.specs.Prelude.{ℕ, Bool, not, ◌==◌}
use Rattle.silq_lex.specs.Characters.{is_digit, continues_name}
use Rattle.silq_lex.specs.declared.class.Class.{Class}
use Rattle.silq_lex.specs.declared.class.Class.TheVariants.{Name, Number, Line}

abbrev pub goes_on : Class → ℕ → Bool
goes_on Name c = continues_name c
goes_on Number c = is_digit c
goes_on Line c = not (c == 10)
