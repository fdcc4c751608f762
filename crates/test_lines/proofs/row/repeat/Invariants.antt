-- The text so far is that of the rounds so far.
use Rattle.std.proofs.Common.{◌≡◌}
use Rattle.std.specs.String.{string_bytes}
use Rattle.test_lines.specs.Spelled.{times}
use Rattle.test_lines.proofs.row.repeat.Given as goal

abbrev pub invariant-loop : goal.invariant-loop
invariant-loop l = string_bytes l.all ≡ times l.counter l.text
