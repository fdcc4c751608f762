-- The wires that a function's variables own, by their places.
use Rattle.std.specs.Prelude.{ℕ, suc, ◌+◌, Bool, true, not, ◌&&◌, ◌||◌, ◌==◌, if◌then◌else◌, List, [], ◌∷◌, ◌++◌, Option, Some, None}
use Rattle.silq_tree.specs.declared.node.NameId.{NameId}
use Rattle.silq_types.specs.declared.values.Value.{Value}
use Rattle.silq_types.specs.declared.values.Var.{Var}
use Rattle.silq_types.specs.Types.{shape_bits, same_name, is_linear, is_held}
use Rattle.silq_mean.specs.Written.{is_empty}
use Rattle.check_scope.specs.Context.{indices}
use Rattle.silq_mean.specs.Env.{Env, Block}
use Rattle.flat_core.specs.declared.step.WireId.{WireId}
use Rattle.bit_arith.specs.declared.operand.Operand.{Operand}
use Rattle.flat_form.specs.declared.known.TypedBits.{TypedBits}
use Rattle.flat_form.specs.declared.known.Known.{Known}
use Rattle.flat_form.specs.declared.known.Known.TheVariants.{Shown, Lent, Absent}
use Rattle.flat_form.specs.State.{part_shape, part_start}
use Rattle.flat_form.specs.Names.{operands_in, named_by}

-- what the owner of each place shows
abbrev pub Places : Type 0
Places = ℕ → List Operand

abbrev pub with_place : Places → ℕ → List Operand → Places
with_place W p ps q = if q == p then ps else W q

-- a part that was taken out for an assignment to it
abbrev pub is_part : Var → Bool
is_part v = not (is_empty (indices v.part))

-- the part of this variable that is under way, if any
abbrev pub part_out : List Var → NameId → Option Var
part_out [] x = None
part_out (v ∷ vs) x = if is_part v && (v.consumed && same_name v.part.name x) then Some v else part_out vs x

-- the operands of a variable, which has them as its own and does not tell where its value's expression began
abbrev pub bits_for : Places → Var → TypedBits
bits_for W v = record { classical = v.ty.classical; shape = v.ty.shape; operands = W v.place; own = true; began = 0 }

abbrev pub less_part : Option Var → TypedBits → Known
less_part None v = Shown v
less_part (Some p) v = Lent (part_start v.shape (indices p.part)) (shape_bits (part_shape v.shape (indices p.part))) v

-- what a variable shows: nothing where it was consumed
abbrev pub shown : Places → List Var → Var → Known
shown W vars v = if v.consumed then Absent else less_part (part_out vars v.part.name) (bits_for W v)

-- the names in order of definition, with what they show
abbrev pub entries : Places → List Var → List Var → Block Known
entries W all [] = []
entries W all (v ∷ vs) = if is_part v then entries W all vs else ((v.part.name, shown W all v) ∷ entries W all vs)

-- the blocks of an environment in order of definition
abbrev pub in_order : {A : Type 0} → Env A → Block A
in_order [] = []
in_order (b ∷ bs) = in_order bs ++ b

-- ---- owners of wires

-- how often operands name a wire
abbrev pub times_in : WireId → List Operand → ℕ
times_in w [] = 0
times_in w (p ∷ ps) = if named_by w p then suc (times_in w ps) else times_in w ps

-- const parameters and classical variables share their wires, which nothing changes
abbrev pub is_shared : Var → Bool
is_shared v = v.ty.classical || is_held v.origin

-- a variable with wires that are its own
abbrev pub has_wires : Var → Bool
has_wires v = not (v.consumed || is_part v || is_shared v)

abbrev pub holds : Places → List Var → WireId → Var → ℕ
holds W all w v = if has_wires v then times_in w (operands_in (shown W all v)) else 0

-- how many variables own a wire, and how many of them are Linear
abbrev pub holders : Places → List Var → WireId → List Var → ℕ
holders W all w [] = 0
holders W all w (v ∷ vs) = holds W all w v + holders W all w vs

abbrev pub linear_holders : Places → List Var → WireId → List Var → ℕ
linear_holders W all w [] = 0
linear_holders W all w (v ∷ vs) = (if is_linear v.origin then holds W all w v else 0) + linear_holders W all w vs

-- how many values under way own a wire, and how many of them are Linear
abbrev pub carriers : Places → WireId → List Value → ℕ
carriers W w [] = 0
carriers W w (v ∷ vs) = times_in w (W v.place) + carriers W w vs

abbrev pub linear_carriers : Places → WireId → List Value → ℕ
linear_carriers W w [] = 0
linear_carriers W w (v ∷ vs) = (if is_linear v.origin then times_in w (W v.place) else 0) + linear_carriers W w vs

-- by these variables, and values under way that own wires
abbrev pub owners_of : Places → List Var → List Value → WireId → ℕ
owners_of W vars under w = holders W vars w vars + carriers W w under

abbrev pub linear_owners : Places → List Var → List Value → WireId → ℕ
linear_owners W vars under w = linear_holders W vars w vars + linear_carriers W w under
