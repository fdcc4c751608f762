use Rattle.std.proofs.Common.{◌≡◌, ◌+◌, arith}
use Rattle.std.specs.Prelude.{codes}
use Rattle.silq_gen.specs.Generated.{value_at}
use Rattle.silq_gen.proofs.Added.{value_more, lines_more, whole_text}
use Rattle.silq_gen.proofs.program.generated.Goals as goal

pub loop-line-preserved : goal.loop-line-preserved
loop-line-preserved c =
    let next : c.next_value-value.result ≡ value_at c.args.number (c.loop-line.line + 1) =
    value_more c.args.number c.loop-line.line _ _ c.loop-line.invariant.value c.next_value-value.ensures.next in
    record {
      text = lines_more (codes "def main(const a:B^8, x:B):B {\n") _ _ c.args.number c.loop-line.line _ c.loop-line.invariant.text next
          c.in_ok-add_line.ensures;
      value = next;
      below = c.next_value-value.ensures.below;
    }

pub returns : goal.returns
returns c =
    let all : c.loop-line.line ≡ c.args.size = omega (arith, c.loop-line-test.false, c.loop-line.auto.line-end) in
    whole_text (codes "def main(const a:B^8, x:B):B {\n") (codes "return x;\n}\n") _ _ c.args.number c.loop-line.line c.args.size c.loop-line.invariant.text all
    c.in_ok-push_str.ensures.bytes
