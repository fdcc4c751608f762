-- What flattening knows of values and variables: the operands that show them.
use Rattle.std.specs.Prelude.{ℕ, ◌+◌, ◌*◌, Bool, true, false, cond, not, ◌&&◌, ◌||◌, List, [], ◌∷◌, ◌++◌, length, map, take, drop, ℤ, nat_abs, nat_le}
use Rattle.silq_types.specs.declared.types.Scalar.{Scalar}
use Rattle.silq_types.specs.declared.types.Scalar.TheVariants as scalars
use Rattle.silq_types.specs.declared.types.Shape.{Shape}
use Rattle.silq_types.specs.declared.types.Shape.TheVariants.{Bit, UInt, Int, Array}
use Rattle.silq_types.specs.Types.{single_shape, scalar_bits, shape_bits}
use Rattle.silq_mean.specs.Value.{modulus, modulo, low_bits}
use Rattle.silq_mean.specs.Env.{Env}
use Rattle.flat_core.specs.declared.step.WireId.{WireId}
use Rattle.flat_core.specs.Form.{DraftForm}
use Rattle.flat_core.specs.Label.{wire_id}
use Rattle.flat_core.specs.Drafts.{is_measured}
use Rattle.bit_arith.specs.declared.operand.Operand.{Operand}
use Rattle.bit_arith.specs.declared.operand.Operand.TheVariants.{Const, Literal}
use Rattle.bit_arith.specs.Built.{Built, Setting, Given, all_made}
use Rattle.bit_arith.specs.Rows.{copy}
use Rattle.flat_form.specs.declared.known.TypedBits.{TypedBits}
use Rattle.flat_form.specs.declared.known.Known.{Known}
use Rattle.flat_form.specs.declared.known.Known.TheVariants.{Static, Shown, Absent}

pub record Caller : Type 0 where
  -- the number of the next wire when the expression of the call began
  pub began : ℕ
  pub env : Env Known
  pub values : List Known

pub record Flattening : Type 0 where
  -- the steps and wires so far, and with what the next steps are made
  pub built : Built
  pub setting : Setting
  -- how many statements were met
  pub statements : ℕ
  pub env : Env Known
  -- the values of the expressions under way, the last first
  pub values : List Known
  -- what calls under way will go on with
  pub callers : List Caller

-- where the call under way began, n outside all calls
abbrev pub began_or : ℕ → List Caller → ℕ
began_or n [] = n
began_or n (c ∷ cs) = c.began

-- ---- values under way

abbrev pub push : Known → Flattening → Flattening
push k s = record s { values = k ∷ s.values }

abbrev pub first : List Known → Known
first [] = Absent
first (k ∷ ks) = k

abbrev pub last : Flattening → Known
last s = first s.values

abbrev pub drop_last : Flattening → Flattening
drop_last s = record s { values = drop 1 s.values }

abbrev pub wires_so_far : Flattening → ℕ
wires_so_far s = length s.built.draft.wires

abbrev pub build : Built → Flattening → Flattening
build b s = record s { built = b }

-- ---- types

-- the bits but those from a place on, so many
abbrev pub outside : {A : Type 0} → ℕ → ℕ → List A → List A
outside start size xs = take start xs ++ drop (start + size) xs

abbrev pub operands_of : Known → List Operand
operands_of (Shown v) = v.operands
operands_of k = []

abbrev pub is_signed : Shape → Bool
is_signed (Int n) = true
is_signed s = false

abbrev pub typed : ℕ → Scalar → ℤ → Known
typed n k z = Shown (record { classical = false; shape = single_shape k; operands = map (λ b. Const b) (low_bits (scalar_bits k) (modulo z (modulus k))); own = false; began = n })

-- a static value takes the type
abbrev pub typed_as : ℕ → Shape → Known → Known
typed_as n Bit (Static z) = typed n scalars.Bit z
typed_as n (UInt w) (Static z) = typed n (scalars.UInt w) z
typed_as n (Int w) (Static z) = typed n (scalars.Int w) z
typed_as n s k = k

-- a static value takes the type of the other
abbrev pub typed_like : ℕ → Known → Known → Known
typed_like n (Shown v) k = typed_as n v.shape k
typed_like n other k = k

-- ---- parts

-- an index of an array gives an item, an index of a number a bit
abbrev pub part_shape : Shape → List ℤ → Shape
part_shape s [] = s
part_shape (Array k n) (i ∷ []) = single_shape k
part_shape s is = Bit

abbrev pub bit_start : List ℤ → ℕ
bit_start [] = 0
bit_start (i ∷ is) = nat_abs i

-- the place of a part's first bit
abbrev pub part_start : Shape → List ℤ → ℕ
part_start (Array k n) (i ∷ is) = nat_abs i * scalar_bits k + bit_start is
part_start s is = bit_start is

abbrev pub part_of : {A : Type 0} → Shape → List ℤ → List A → List A
part_of s is xs = take (shape_bits (part_shape s is)) (drop (part_start s is) xs)

abbrev pub with_part : {A : Type 0} → Shape → List ℤ → List A → List A → List A
with_part s is xs new = take (part_start s is) xs ++ (new ++ drop (part_start s is + shape_bits (part_shape s is)) xs)

-- ---- what takes a value over

-- whether operands are the wires themselves
abbrev pub are_wires : List Operand → Bool
are_wires [] = true
are_wires (Const b ∷ ps) = false
are_wires (Literal l ∷ ps) = l.positive && are_wires ps

-- and whether these wires are numbered from n on and not measured
abbrev pub are_new : DraftForm → ℕ → List Operand → Bool
are_new d n [] = true
are_new d n (Const b ∷ ps) = false
are_new d n (Literal l ∷ ps) = l.positive && (nat_le n l.wire.number && (not (is_measured d.steps l.wire) && are_new d n ps))

abbrev pub as_they_are : List Operand → Built → Given (List Operand)
as_they_are ps b = record { answer = ps; built = b }

abbrev pub copied : Setting → List Operand → Built → Given (List Operand)
copied at ps b = let new = copy at ps b in record { answer = all_made new.answer; built = new.built }

-- the wires of a value for a new owner: its own or those that its expression made, and else copies
abbrev pub taken : Setting → TypedBits → Built → Given (List Operand)
taken at v b = cond (v.own || are_new b.draft v.began v.operands) (as_they_are v.operands b) (copied at v.operands b)

-- the wires of a value that others may show too, and copies where it has none
abbrev pub kept : Setting → TypedBits → Built → Given (List Operand)
kept at v b = cond (are_wires v.operands) (as_they_are v.operands b) (copied at v.operands b)

-- the wires that operands name
abbrev pub wires_in : List Operand → List WireId
wires_in [] = []
wires_in (Const b ∷ ps) = wires_in ps
wires_in (Literal l ∷ ps) = l.wire ∷ wires_in ps

-- the wire of a bit
abbrev pub only_wire : List Operand → WireId
only_wire (Literal l ∷ ps) = l.wire
only_wire ps = wire_id 0

abbrev pub only_operand : List Operand → Operand
only_operand (p ∷ ps) = p
only_operand [] = Const false
