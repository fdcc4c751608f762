-- The first fault of a file.
use Rattle.std.specs.Prelude.{ℕ, List, Option, Some, None, option_map}
use Rattle.file_text.specs.NoText.{no_text}
use Rattle.file_text.specs.declared.text.NoText.{NoText}
use Rattle.file_text.specs.declared.text.NoText.TheVariants as texts
use Rattle.silq_io.specs.declared.fault.SyntaxCause.{SyntaxCause}
use Rattle.silq_io.specs.declared.fault.SyntaxCause.TheVariants as causes
use Rattle.silq_lex.specs.declared.token.LexCause.{LexCause}
use Rattle.silq_lex.specs.declared.token.LexCause.TheVariants as lex
use Rattle.silq_parse.specs.declared.fault.ParseFault.{ParseFault}
use Rattle.silq_parse.specs.declared.fault.ParseFault.TheVariants.{Memory, Long, Lex, Syntax, Deep}
use Rattle.silq_parse.specs.Faults.{first_fault}

-- why and where a file is no program; lines and columns count from 1, a column in characters
pub record FileFault : Type 0 where
  pub cause : SyntaxCause
  pub line : ℕ
  pub col : ℕ

abbrev pub lex_cause : LexCause → SyntaxCause
lex_cause lex.Character = causes.Character
lex_cause lex.Number = causes.Number
lex_cause lex.Comment = causes.Comment

abbrev pub file_fault : ParseFault → FileFault
file_fault Memory = record { cause = causes.Long; line = 1; col = 1 }
file_fault Long = record { cause = causes.Long; line = 1; col = 1 }
file_fault (Lex f) = record { cause = lex_cause f.cause; line = f.line; col = f.col }
file_fault (Syntax line col) = record { cause = causes.Form; line = line; col = col }
file_fault (Deep line col) = record { cause = causes.Deep; line = line; col = col }

-- a text that is too long is told at its first character
abbrev pub unread : NoText → FileFault
unread texts.Long = record { cause = causes.Long; line = 1; col = 1 }
unread (texts.Utf8 line col) = record { cause = causes.Utf8; line = line; col = col }

abbrev pub fault_behind : Option NoText → Option ParseFault → Option FileFault
fault_behind (Some why) fault = Some (unread why)
fault_behind None fault = option_map file_fault fault

-- the first fault of a file: its UTF-8 as far as it is read, then its length, then that of its text; None where it is a program within the limits
abbrev pub first_file_fault : List ℕ → Option FileFault
first_file_fault bytes = fault_behind (no_text 1048576 bytes) (first_fault bytes)
