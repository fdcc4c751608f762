-- What is put so far, and what the characters to come spell, is what all of them spell.
use Rattle.std.proofs.Common.{◌≡◌, ◌++◌, false, length, drop}
use Rattle.std.specs.Str.{chars, encode_utf8_all}
use Rattle.std.specs.String.{string_bytes}
use Rattle.test_lines.specs.Spelled.{spelled}
use Rattle.test_lines.proofs.row.unescape.Given as goal

abbrev pub invariant-loop-letter : goal.invariant-loop-letter
invariant-loop-letter l =
    string_bytes l.text ++ encode_utf8_all (spelled l.behind (drop (length l.yielded) (chars l.line))) ≡ encode_utf8_all (spelled false (chars l.line))
