use Rattle.std.proofs.Common.{◌≡◌, ◌<◌, ◌++◌}
use Rattle.std.specs.Prelude.{codes}
use Rattle.std.specs.String.{string_bytes}
use Rattle.silq_gen.specs.Generated.{lines_text, value_at}
use Rattle.silq_gen.proofs.program.generated.Given as goal

-- the head and the lines so far stand there, and the value is that of the line before
abbrev pub invariant-loop-line : goal.invariant-loop-line
invariant-loop-line l = record {
  text : string_bytes l.text ≡ codes "def main(const a:B^8, x:B):B {\n" ++ lines_text l.number l.line;
  value : l.value ≡ value_at l.number l.line;
  below : l.value < 65536;
}
