-- `split_once` cuts at the first `*`, and `parse` reads what stands before it.
use Rattle.std.proofs.Common.{Some, None, arith}
use Rattle.std.proofs.lemmas.Str.Pattern.{split_once_first}
use Rattle.test_lines.proofs.Counts.{counted_no_star, counted_no_number, counted_number}
use Rattle.test_lines.proofs.row.counted.Goals as goal

pub returns-in_err-number : goal.returns-in_err-number
returns-in_err-number c =
    let split = split_once_first 42 c.args.line.now None c.in_err-number.ensures.cases (omega arith) in
    rw c.from_residual.ensures (counted_no_star c.args.line.now split)

pub returns-in-Ok : goal.returns-in-Ok
returns-in-Ok c =
    let split = split_once_first 42 c.args.line.now (Some (c.in_ok-number.number, c.in_ok-number.rest)) c.in_ok-number.ensures.cases (omega arith) in
    let parsed = c.in-Ok.ensures.value.0 in
    counted_number c.args.line.now c.in_ok-number.number.now c.in_ok-number.rest.now c.in-Ok.count split.0 split.1 split.2 parsed.0.0 parsed.0.1 parsed.1

pub returns-in-Err : goal.returns-in-Err
returns-in-Err c =
    let split = split_once_first 42 c.args.line.now (Some (c.in_ok-number.number, c.in_ok-number.rest)) c.in_ok-number.ensures.cases (omega arith) in
    counted_no_number c.args.line.now c.in_ok-number.number.now split.0 split.1 c.in-Err.ensures.value.0
