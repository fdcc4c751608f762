-- How many operands a value has.
use Rattle.std.specs.Prelude.{◌≡◌, length, ⊤}
use Rattle.silq_types.specs.Types.{shape_bits}
use Rattle.flat_form.specs.declared.known.TypedBits.{TypedBits}
use Rattle.flat_form.specs.declared.known.Known.{Known}
use Rattle.flat_form.specs.declared.known.Known.TheVariants.{Static, Shown, Lent, Absent}

-- one for each bit
abbrev pub HasBits : TypedBits → Type 0
HasBits v = length v.operands ≡ shape_bits v.shape

abbrev pub IsSized : Known → Type 0
IsSized (Static z) = ⊤
IsSized (Shown v) = HasBits v
IsSized (Lent start size v) = HasBits v
IsSized Absent = ⊤
