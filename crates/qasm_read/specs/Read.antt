-- Tokens and operands of the program, as the definitions see them.
use Rattle.std.specs.Prelude.{◌≡◌, ◌^◌, ◌<◌, true, List, map}
use Rattle.std.specs.Str.{chars}
use Rattle.silq_lex.specs.Kinds.{is_number, number_of}
use Rattle.qasm_tokens.specs.declared.kind.Kind.TheVariants as k
use Rattle.qasm_tokens.specs.declared.token.Token.{Token as ReadToken}
use Rattle.qasm_tokens.specs.Tokens.{Token}
use Rattle.qasm_tokens.specs.Table.{same_kind}
use Rattle.qasm_tokens.specs.Cursors.{token_of}
use Rattle.qasm_read.specs.declared.operand.Operand.{Operand as ReadOperand}
use Rattle.qasm_read.specs.Refusals.{Operand}

abbrev pub tokens_of : List ReadToken → List Token
tokens_of ts = map token_of ts

abbrev pub operand_of : ReadOperand → Operand
operand_of o = record { name = token_of o.name; index = o.index }

abbrev pub operands_of : List ReadOperand → List Operand
operands_of os = map operand_of os

-- a token of the kind of numbers spells one of 32 bits
abbrev pub IsSpelled : ReadToken → Type 0
IsSpelled t = same_kind k.Number t.kind ≡ true → (is_number (chars t.text.now) ≡ true) × (number_of (chars t.text.now) < 2 ^ 32)
