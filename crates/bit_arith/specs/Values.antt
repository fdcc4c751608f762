-- What operands and wires show in a row of values.
use Rattle.std.specs.Prelude.{◌≡◌, Bool, true, false, ◌&&◌, List, [], ◌∷◌, map, Some}
use Rattle.flat_core.specs.Form.{DraftForm}
use Rattle.flat_core.specs.declared.step.WireId.{WireId}
use Rattle.flat_mean.specs.Row.{Row, flipped, holds}
use Rattle.bit_arith.specs.declared.operand.Operand.{Operand}
use Rattle.bit_arith.specs.declared.operand.Operand.TheVariants.{Const, Literal}
use Rattle.bit_arith.specs.Built.{Setting, blank, under}

-- the bit of an operand: a constant, or whether the wire has its sign's value
abbrev pub bit_of : Row → Operand → Bool
bit_of v (Const b) = b
bit_of v (Literal l) = holds v (Some l)

abbrev pub bits_at : Row → List Operand → List Bool
bits_at v ps = map (bit_of v) ps

-- whether each operand's bit is 1
abbrev pub all_hold : Row → List Operand → Bool
all_hold v [] = true
all_hold v (p ∷ ps) = bit_of v p && all_hold v ps

-- whether the condition in force holds
abbrev pub forced : Setting → Row → Bool
forced at v = all_hold v (under at [])

-- the values of wires
abbrev pub values_at : Row → List WireId → List Bool
values_at v ws = map (λ w. v w.number) ws

-- each bit of a list flipped where the other list's is 1
abbrev pub flip_bits : List Bool → List Bool → List Bool
flip_bits (x ∷ xs) (y ∷ ys) = flipped x y ∷ flip_bits xs ys
flip_bits _ _ = []

-- blank wires are 0
abbrev pub Clean : DraftForm → Row → Type 0
Clean d v = (w : WireId) → blank d w ≡ true → v w.number ≡ false
