-- What a stop of the parser says.
use Rattle.std.specs.Prelude.{◌≡◌}
use Rattle.silq_grammar.specs.Outcome.{Outcome, Syntax, Deep}
use Rattle.expr_parse.specs.declared.stop.Stop.{Stop}
use Rattle.expr_parse.specs.declared.stop.Stop.TheVariants as stops

-- the stop is this outcome, or want of memory
abbrev pub StopsAt : Outcome → Stop → Type 0
StopsAt o (stops.Syntax here) = o ≡ Syntax here.now
StopsAt o (stops.Deep here) = o ≡ Deep here.now
StopsAt o stops.Memory = Unit {0}
