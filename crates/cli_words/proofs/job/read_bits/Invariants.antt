use Rattle.std.proofs.Common.{◌≡◌, ◌==◌, ◌||◌, ◌++◌, map, drop}
use Rattle.std.specs.List.{list_all}
use Rattle.cli_words.proofs.job.read_bits.Given as goal

-- the bits so far, with those of the digits that are left, are those of all
abbrev pub invariant-loop-digit : goal.invariant-loop-digit
invariant-loop-digit l = record {
  are_bits : list_all (λ c. c == 48 || c == 49) l.digits ≡ list_all (λ c. c == 48 || c == 49) (drop l.digit-index l.digits);
  bits : l.bits.items ++ map (λ c. c == 49) (drop l.digit-index l.digits) ≡ map (λ c. c == 49) l.digits;
}
