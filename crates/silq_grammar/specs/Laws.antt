-- Laws of the grammar.
use Rattle.std.specs.Prelude.{◌≡◌}
use Rattle.silq_grammar.specs.Grammar.{Program}
use Rattle.silq_grammar.specs.Spelled.{program_text}

-- only one program spells given tokens
abbrev pub OneTree : Type 0
OneTree = (p q : Program) → program_text p ≡ program_text q → p ≡ q
