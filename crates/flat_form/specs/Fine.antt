-- What flattening needs of a program, step by step: the rules of typing give it.
use Rattle.std.specs.Prelude.{◌≡◌, ℕ, ◌+◌, ◌<◌, ◌≤◌, true, false, ◌||◌, List, [], ◌∷◌, length, take, reverse, Option, None, Some, ℤ, nat_abs, ◌⊎◌, ⊤}
use Rattle.silq_tree.specs.declared.node.NameId.{NameId}
use Rattle.silq_tree.specs.declared.node.UnaryOp.{UnaryOp}
use Rattle.silq_tree.specs.declared.node.UnaryOp.TheVariants.{Not, Neg}
use Rattle.silq_tree.specs.declared.node.BinaryOp.{BinaryOp}
use Rattle.silq_tree.specs.declared.node.BinaryOp.TheVariants.{Or, And, Div}
use Rattle.silq_tree.specs.declared.node.UpdateOp.{UpdateOp}
use Rattle.silq_tree.specs.declared.node.UpdateOp.TheVariants as updates
use Rattle.silq_types.specs.declared.types.Shape.{Shape}
use Rattle.silq_types.specs.declared.types.Shape.TheVariants.{Bit, Array}
use Rattle.silq_types.specs.Types.{scalar_bits, shape_bits, is_number, is_scalar}
use Rattle.silq_mean.specs.Env.{in_its_block}
use Rattle.silq_mean.specs.Effect.{Effect, nothing, ◌>>◌, statement, step, mix, measure, claim, choice, Step, give_static, give_typed, give_part, one_operand, two_operands, copy_last, repeat_last, flip_last, turn_by, turn_all, receive, assign_to, assign_in_turn, update_to, end_name, end_compared, enter_block, leave_block, enter_body, leave_body}
use Rattle.flat_core.specs.declared.step.WireId.{WireId}
use Rattle.flat_core.specs.declared.step.End.TheVariants.{Zeroed}
use Rattle.flat_core.specs.Label.{wire_in, label_after}
use Rattle.bit_arith.specs.declared.operand.Operand.{Operand}
use Rattle.bit_arith.specs.Built.{under}
use Rattle.bit_arith.specs.Calls.{among, AllSafe, AreTargets}
use Rattle.flat_form.specs.declared.known.TypedBits.{TypedBits}
use Rattle.flat_form.specs.declared.known.Known.{Known}
use Rattle.flat_form.specs.declared.known.Known.TheVariants.{Static, Shown, Lent, Absent}
use Rattle.flat_form.specs.State.{Flattening, last, drop_last, typed_as, typed_like, wires_so_far, part_shape, part_start, part_of, are_wires, are_new, wires_in}
use Rattle.flat_form.specs.Flat.{as_operand, shape_for, without_name, known_in, count_statement, on_line, chosen_by, first_branch, second_branch, flat}
use Rattle.flat_form.specs.Names.{AllOf, AllKnown, named_by, Spares}

abbrev pub Distinct : List WireId → Type 0
Distinct [] = ⊤
Distinct (w ∷ ws) = (among ws w ≡ false) × Distinct ws

abbrev pub IsOf : (TypedBits → Type 0) → Known → Type 0
IsOf Q (Shown v) = Q v
IsOf Q k = ⊥

-- the indices lead to a part of the value
abbrev pub IsPart : TypedBits → List ℤ → Type 0
IsPart v is = part_start v.shape is + shape_bits (part_shape v.shape is) ≤ length v.operands

-- a second index leads to a bit of the item
abbrev pub IndexFits : Shape → List ℤ → Type 0
IndexFits (Array k n) (i ∷ j ∷ is) = nat_abs j < scalar_bits k
IndexFits t is = ⊤

abbrev pub FitsIndex : List ℤ → Known → Type 0
FitsIndex is (Static z) = ⊤
FitsIndex is (Shown v) = IndexFits v.shape is
FitsIndex is (Lent start size v) = IndexFits v.shape is
FitsIndex is Absent = ⊤

-- ---- what may be changed

-- these wires may be changed: they are there, different and not measured; neither the condition in force nor what else is known names them
pub record MayChange (ws : List WireId) (s rest : Flattening) : Type 0 where
  pub targets : AreTargets s.built.draft ws
  pub distinct : Distinct ws
  pub condition : AllSafe (length s.built.draft.wires) (among ws) (under s.setting [])
  pub spared : AllKnown (Spares (among ws)) rest

-- a value that keeps its wires when it is taken
abbrev pub KeepsWires : Flattening → TypedBits → Type 0
KeepsWires s v = v.own || are_new s.built.draft v.began v.operands ≡ true

-- the last value may be taken and changed: if it keeps its wires, these may be changed
abbrev pub MayTake : TypedBits → Flattening → Type 0
MayTake v s = KeepsWires s v → MayChange (wires_in v.operands) s (drop_last s)

abbrev pub IsBit : Known → Type 0
IsBit k = IsOf (λ v. v.shape ≡ Bit) k

abbrev pub MayTurn : Flattening → Type 0
MayTurn s = IsOf (λ v. (v.shape ≡ Bit) × MayTake v s) (last s)

-- outcomes are told outside all run-time conditions
abbrev pub MayMeasure : Flattening → Type 0
MayMeasure s = (s.setting.condition ≡ None) × IsOf (λ v. MayTake v s) (last s)

abbrev pub IsUpdated : UpdateOp → Shape → Type 0
IsUpdated updates.Xor t = ⊤
IsUpdated op t = is_number t ≡ true

-- the state while a part of a variable is changed
abbrev pub without_part : NameId → List ℤ → TypedBits → Flattening → Flattening
without_part x is v s = record s { env = in_its_block s.env x (Lent (part_start v.shape is) (shape_bits (part_shape v.shape is)) v) }

-- the last value is of the part's type, and the part's wires may be changed
pub record UpdatesPart (x : NameId) (is : List ℤ) (op : UpdateOp) (s : Flattening) (v : TypedBits) : Type 0 where
  pub operand : IsOf (λ w. w.shape ≡ part_shape v.shape is) (typed_as 0 (part_shape v.shape is) (last s))
  pub allowed : IsUpdated op (part_shape v.shape is)
  pub wires : are_wires v.operands ≡ true
  pub there : IsPart v is
  pub change : MayChange (wires_in (part_of v.shape is v.operands)) s (without_part x is v s)

abbrev pub MayUpdate : NameId → List ℤ → UpdateOp → Flattening → Type 0
MayUpdate x is op s = IsOf (UpdatesPart x is op s) (known_in s x)

-- the last value is of the variable's type, and the variable's wires may be changed
abbrev pub MayClaim : NameId → Flattening → Type 0
MayClaim x s =
    IsOf (λ v.
    IsOf (λ w. w.shape ≡ v.shape) (typed_like 0 (Shown v) (last s))
    × (are_wires v.operands ≡ true)
    × MayChange (wires_in v.operands) s (without_name x s))
    (known_in s x)

-- ---- values

abbrev pub FitsOne : UnaryOp → Shape → Type 0
FitsOne Not t = t ≡ Bit
FitsOne Neg t = is_number t ≡ true

abbrev pub FitsTwo : BinaryOp → Shape → Type 0
FitsTwo Or t = t ≡ Bit
FitsTwo And t = t ≡ Bit
FitsTwo Div t = ⊥
FitsTwo op t = is_scalar t ≡ true

abbrev pub MayJoin : BinaryOp → Known → Known → Type 0
MayJoin op k l = IsOf (λ v. IsOf (λ w. (v.shape ≡ w.shape) × FitsTwo op v.shape) (as_operand k l)) (as_operand l k)

abbrev pub IsStatic : Known → Type 0
IsStatic (Static z) = ⊤
IsStatic k = ⊥

abbrev pub IsAny : Known → Type 0
IsAny k = IsOf (λ v. ⊤) k

-- a value that was taken over
abbrev pub IsTaken : Known → Type 0
IsTaken k = IsOf (λ v. v.own ≡ true) k

-- a variable whose part is under way, and the last value is to take its place
pub record WasLent (is : List ℤ) (start size : ℕ) (v : TypedBits) (k : Known) : Type 0 where
  pub starts : start ≡ part_start v.shape is
  pub sizes : size ≡ shape_bits (part_shape v.shape is)
  pub there : IsPart v is
  pub own : v.own ≡ true
  pub value : IsOf (λ w. (w.own ≡ true) × (w.shape ≡ part_shape v.shape is)) k

abbrev pub IsLent : List ℤ → Known → Known → Type 0
IsLent is (Lent start size v) k = WasLent is start size v k
IsLent is l k = ⊥

abbrev pub MayAssign : NameId → List ℤ → Flattening → Type 0
MayAssign x [] s = IsTaken (last s)
MayAssign x (i ∷ is) s = IsLent (i ∷ is) (known_in s x) (last s)

-- the part is there, and no bit of it is lent
abbrev pub MayUse : List ℤ → Known → Type 0
MayUse is (Shown v) = IsPart v is
MayUse is (Lent start size v) = IsPart v is × ((start + size ≤ part_start v.shape is) ⊎ (part_start v.shape is + shape_bits (part_shape v.shape is) ≤ start))
MayUse is k = ⊥

-- ---- steps

abbrev pub FineStep : Step → Flattening → Type 0
FineStep (give_static z) s = ⊤
FineStep (give_typed k z) s = ⊤
FineStep (give_part need x is) s = MayUse is (known_in s x) × FitsIndex is (known_in s x)
FineStep (one_operand op) s = IsOf (λ v. FitsOne op v.shape) (last s)
FineStep (two_operands op) s = MayJoin op (last (drop_last s)) (last s)
FineStep copy_last s = IsAny (last s)
FineStep repeat_last s = IsStatic (last (drop_last s)) × IsOf (λ v. is_scalar v.shape ≡ true) (last s)
FineStep flip_last s = MayTurn s
FineStep (turn_by k l) s = MayTurn s × (k < 8) × (l < 8)
FineStep (turn_all k) s = k < 8
FineStep (receive r) s = IsAny (shape_for r (wires_so_far s) (last s))
FineStep (assign_to x is) s = MayAssign x is s × FitsIndex is (known_in s x)
FineStep (assign_in_turn xs) s = AllOf IsTaken (reverse (take (length xs) s.values))
FineStep (update_to x is op) s = MayUpdate x is op s × FitsIndex is (known_in s x)
FineStep (end_name x) s = ⊤
FineStep (end_compared x) s = ⊤
FineStep enter_block s = ⊤
FineStep leave_block s = ⊤
FineStep (enter_body xs) s = AllOf IsTaken (reverse (take (length xs) s.values))
FineStep leave_body s = ⊤

-- the same names and values
pub record SameEnd (s u : Flattening) : Type 0 where
  pub env : s.env ≡ u.env
  pub values : s.values ≡ u.values
  pub callers : s.callers ≡ u.callers

-- no step between two states changes the wire of an operand
abbrev pub Keeps : Operand → Flattening → Flattening → Type 0
Keeps p s u = (w : WireId) → named_by w p ≡ true → label_after u.built.draft.steps w ≡ label_after s.built.draft.steps w

abbrev pub KeepsAll : Option Operand → Flattening → Flattening → Type 0
KeepsAll None s u = ⊤
KeepsAll (Some p) s u = Keeps p s u

-- no wire that was there before ends as Zeroed since
abbrev pub ZeroesNew : Flattening → Flattening → Type 0
ZeroesNew s u =
    (w : WireId) → w.number < length s.built.draft.wires → (wire_in u.built.draft.wires w).ending ≡ Zeroed → (wire_in s.built.draft.wires w).ending ≡ Zeroed

-- the first branch goes from `first` to `one`, the second from `second` to `two`: neither changes the condition in force outside, the second
-- finds its own condition as the first one found it, and each leaves the names and values that it found
pub record FineEnds (s first one second two : Flattening) : Type 0 where
  pub kept : Keeps (chosen_by s) first one
  pub outer_first : KeepsAll s.setting.condition first one
  pub outer_second : KeepsAll s.setting.condition second two
  pub zeroed_first : ZeroesNew first one
  pub zeroed_second : ZeroesNew second two
  pub stays_first : SameEnd first one
  pub stays_second : SameEnd second two

abbrev pub Fine : Effect → Flattening → Type 0
Fine nothing s = ⊤
Fine (a >> b) s = Fine a s × Fine b (flat a s)
Fine (statement line e) s = Fine e (on_line line (count_statement s))
Fine (step st) s = FineStep st s
Fine mix s = MayTurn s
Fine measure s = MayMeasure s
Fine (claim line x) s = MayClaim x s
Fine (choice a b) s =
    let first = first_branch s in
    let second = second_branch (flat a first) s in
    IsBit (last s) × Fine a first × Fine b second × FineEnds s first (flat a first) second (flat b second)
