use Rattle.std.proofs.Common.{◌∙◌, ap}
use Rattle.silq_lex.specs.Kinds.{is_number}
use Rattle.qasm_tokens.specs.Words.{digits_at}
use Rattle.qasm_tokens.specs.Cursors.{ahead}
use Rattle.qasm_tokens.proofs.Scanned.{digits_are_number}
use Rattle.qasm_tokens.proofs.cursor.Cursor.number.Goals as goal

pub kind_of_number-requires : goal.kind_of_number-requires
kind_of_number-requires c =
    ap is_number (c.before-2.ensures (digits_at c.args.c (ahead c.args.next.now)) c.past_digits-end.ensures.characters)
    ∙ digits_are_number c.args.c (ahead c.args.next.now) c.requires.digit
