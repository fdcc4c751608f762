-- The first of two refusals, where either may be missing.
use Rattle.std.specs.Prelude.{Option, Some, None, if◌then◌else◌}
use Rattle.qasm_read.specs.declared.refusal.Refusal.{Refusal}
use Rattle.qasm_read.specs.Refusals.{is_before}

-- the second where it comes before the first
abbrev pub sooner : Refusal → Refusal → Refusal
sooner a b = if is_before b a then b else a

abbrev pub earlier : Option Refusal → Option Refusal → Option Refusal
earlier None b = b
earlier (Some a) None = Some a
earlier (Some a) (Some b) = Some (sooner a b)
