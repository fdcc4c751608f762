-- What a declaration may add to the registers.
use Rattle.std.specs.Prelude.{◌≡◌, ◌+◌, ◌<◌, ◌^◌, false, List, [], ◌∷◌}
use Rattle.qasm_read.specs.declared.operand.Index.{Index}
use Rattle.qasm_read.specs.declared.operand.Index.TheVariants.{Bare, Open, At}
use Rattle.qasm_read.specs.Registers.{Register, has, width}
use Rattle.qasm_read.specs.Refusals.{Operand}

-- with as many bits more the numbers of the bits have 32 bits
abbrev pub Fits : List Register → Index → Type 0
Fits registers Bare = Unit {0}
Fits registers Open = Unit {0}
Fits registers (At at n) = width registers + n < 2 ^ 32

-- the first operand's name is new
abbrev pub MayDeclare : List Register → List Operand → Type 0
MayDeclare registers [] = Unit {0}
MayDeclare registers (o ∷ os) = (has registers o.name.text ≡ false) × Fits registers o.index
