use Rattle.std.proofs.Common.{◌≡◌, ◌^◌, ◌<◌, ◌≤◌, drop}
use Rattle.std.specs.List.{list_all}
use Rattle.std.specs.Char.{is_ascii_digit}
use Rattle.std.specs.Str.Parse.{digits_value, digits_value_after}
use Rattle.cli_words.proofs.job.read_number.Given as goal

-- the value of the digits so far, and what it comes to with those that are left
abbrev pub invariant-loop-digit : goal.invariant-loop-digit
invariant-loop-digit l = record {
  within : l.digit-index ≤ 18;
  small : l.value < 10 ^ l.digit-index;
  comes_to : digits_value_after 10 l.value (drop l.digit-index l.digits) ≡ digits_value 10 l.digits;
  are_digits : list_all is_ascii_digit l.digits ≡ list_all is_ascii_digit (drop l.digit-index l.digits);
}
