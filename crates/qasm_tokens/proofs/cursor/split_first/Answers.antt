use Rattle.std.proofs.Common.{◌≡◌, ◌++◌, encode_utf8, arith}
use Rattle.std.proofs.lemmas.Grind.{common_steps}
use Rattle.std.proofs.lemmas.Str.{chars_past_char}
use Rattle.qasm_tokens.proofs.cursor.split_first.Goals as goal

pub returns-clause-first : goal.returns-clause-first
returns-clause-first c =
    let b : c.args.text.now ≡ encode_utf8 c.in_ok-c.c ++ c.as_str.result.now = grind (arith, common_steps) in
    chars_past_char c.args.text.now c.as_str.result.now c.in_ok-c.c c.utf8.text b
