use Rattle.std.proofs.Common.{◌≡◌, false, ◌==◌}
use Rattle.silq_lex.specs.Characters.{is_digit}
use Rattle.std.proofs.lemmas.Bool.Decides.{nat_tests}
use Rattle.std.proofs.Common.{arith}
use Rattle.qasm_tokens.proofs.Passing.{passes_on}
use Rattle.qasm_tokens.proofs.cursor.Cursor.past_digits.Goals as goal

pub returns-else-c-eq48 : goal.returns-else-c-eq48
returns-else-c-eq48 c =
    let p = passes_on is_digit c.args.self.now c.args.next.now c.past.result c.args.c c.requires c.past.ensures.place c.past.ensures.rest in
    let e : (c.args.c == 48) ≡ false = grind (arith, nat_tests) in
    rw e p
