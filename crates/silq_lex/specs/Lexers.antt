-- What is still to come of a lexer.
use Rattle.std.specs.Prelude.{Option, Some, None}
use Rattle.silq_lex.specs.Tokens.{Tokens, Fault, ends}
use Rattle.silq_lex.specs.Cursors.{upcoming}
use Rattle.silq_lex.specs.declared.token.LexFault.{LexFault}
use Rattle.silq_lex.specs.declared.cursor.Cursor.{Cursor}

-- after a fault only the fault
abbrev pub still_to_come : Option LexFault → Cursor → Tokens
still_to_come None cursor = upcoming cursor
still_to_come (Some fault) cursor = ends (Fault fault)
