use Rattle.std.proofs.Common.{◌≡◌, drop}
use Rattle.check_fun.specs.Entry.{number_of_name, number_from}
use Rattle.check_fun.proofs.entry.name_with_text.Given as goal

-- the rest tells
abbrev pub invariant-loop-number : goal.invariant-loop-number
invariant-loop-number l = number_of_name l.names l.text ≡ number_from l.number (drop l.number l.names) l.text
