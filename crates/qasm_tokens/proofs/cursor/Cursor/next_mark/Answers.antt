use Rattle.std.proofs.Common.{◌<◌, ◌≤◌, length, sym, ◌∙◌, arith}
use Rattle.qasm_tokens.specs.Cursors.{ahead}
use Rattle.qasm_tokens.proofs.Scanned.{given_next, gap_passed, front_shorter, none_left}
use Rattle.qasm_tokens.proofs.cursor.Cursor.next_mark.Goals as goal

pub returns-then-is_some : goal.returns-then-is_some
returns-then-is_some c =
    given_next c.args.self.now c.loop-c.here c.in-Some.next c.in-Some.c c.front.result (sym c.is_some.ensures ∙ c.if-is_some.true)
    c.loop-c.invariant.marks c.loop-c.invariant.end c.loop-c.invariant.no_longer c.in-Some.ensures.some c.front.ensures

pub loop-c-smaller : goal.loop-c-smaller
loop-c-smaller c = front_shorter c.loop-c.here c.front.result.1 c.in-Some.c (ahead c.in-Some.next) c.front.ensures.passes

pub loop-c-preserved : goal.loop-c-preserved
loop-c-preserved c =
    let g = gap_passed c.args.self.now c.loop-c.here c.in-Some.next c.in-Some.c c.front.result (sym c.is_some.ensures ∙ c.if-is_some.false)
    c.loop-c.invariant.marks c.loop-c.invariant.end c.in-Some.ensures.some c.front.ensures in
    let l : length (ahead c.front.result.1) < length (ahead c.loop-c.here) = front_shorter c.loop-c.here c.front.result.1 c.in-Some.c (ahead c.in-Some.next) c.front.ensures.passes in
    let k : length (ahead c.loop-c.here) ≤ length (ahead c.args.self.now) = c.loop-c.invariant.no_longer in
    record { marks = g.marks; end = g.end; no_longer = omega arith }

pub returns : goal.returns
returns c =
    let n = none_left c.loop-c.here c.in_default.ensures.none in
    (c.loop-c.invariant.marks ∙ n.0, c.loop-c.invariant.end ∙ n.1)
