use Rattle.std.proofs.Common.{◌+◌, ap, ◌∙◌, sym, arith}
use Rattle.std.proofs.lemmas.Iterator.{YieldsList-from_chars}
use Rattle.std.proofs.lemmas.Iterator.Consumers.{YieldsList-turn, YieldsList-end}
use Rattle.std.proofs.lemmas.List.{length_push}
use Rattle.file_text.specs.declared.text.NoText.TheVariants.{Utf8}
use Rattle.file_text.specs.NoText.{line_behind, col_behind}
use Rattle.file_text.proofs.Places.{few_chars, mapped, line_feed, col_feed, line_same, col_next}
use Rattle.file_text.proofs.text.NoText.utf8.Goals as goal

pub overflow_add-line : goal.overflow_add-line
overflow_add-line c =
    let t = YieldsList-turn (YieldsList-from_chars c.args.front.now c.utf8.front cc) c.loop-c.yielded _ c.loop-c.yielded_by _ _ c.in-Some.c c.in-Some.is c.next.ensures.steps in
    let few = few_chars c.args.front.now c.utf8.front in
    omega (arith, t.0, few, c.requires, c.loop-c.invariant.low)

pub overflow_add-col : goal.overflow_add-col
overflow_add-col c =
    let t = YieldsList-turn (YieldsList-from_chars c.args.front.now c.utf8.front cc) c.loop-c.yielded _ c.loop-c.yielded_by _ _ c.in-Some.c c.in-Some.is c.next.ensures.steps in
    let few = few_chars c.args.front.now c.utf8.front in
    omega (arith, t.0, few, c.requires, c.loop-c.invariant.left)

pub loop-c-preserved-then-c-eq10 : goal.loop-c-preserved-then-c-eq10
loop-c-preserved-then-c-eq10 c =
    let more = length_push c.loop-c.yielded c.in-Some.c in
    record {
      line = ap (λ n. n + 1) c.loop-c.invariant.line ∙ sym (line_feed 1 c.loop-c.yielded c.in-Some.c c.if-c-eq10.true);
      col = sym (col_feed 1 c.loop-c.yielded c.in-Some.c c.if-c-eq10.true);
      low = omega (arith, more, c.loop-c.invariant.low);
      left = omega (arith, more);
    }

pub loop-c-preserved : goal.loop-c-preserved
loop-c-preserved c =
    let more = length_push c.loop-c.yielded c.in-Some.c in
    record {
      line = c.loop-c.invariant.line ∙ sym (line_same 1 c.loop-c.yielded c.in-Some.c c.if-c-eq10.false);
      col = ap (λ n. n + 1) c.loop-c.invariant.col ∙ sym (col_next 1 c.loop-c.yielded c.in-Some.c c.if-c-eq10.false);
      low = omega (arith, more, c.loop-c.invariant.low);
      left = omega (arith, more, c.loop-c.invariant.left);
    }

pub returns : goal.returns
returns c =
    let t = YieldsList-end (YieldsList-from_chars c.args.front.now c.utf8.front cc) c.loop-c.yielded _ c.loop-c.yielded_by _ _ c.in-None.is c.next.ensures.steps in
    let line = c.loop-c.invariant.line ∙ ap (line_behind 1) (mapped _ _ t.0) in
    let col = c.loop-c.invariant.col ∙ ap (col_behind 1) (mapped _ _ t.0) in
    λ i. Utf8 (line i) (col i)
