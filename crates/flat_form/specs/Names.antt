-- Which wires a state of flattening names.
use Rattle.std.specs.Prelude.{◌≡◌, Bool, true, false, List, [], ◌∷◌}
use Rattle.std.specs.List.{list_any}
use Rattle.silq_mean.specs.Env.{Env}
use Rattle.flat_core.specs.declared.step.WireId.{WireId}
use Rattle.flat_core.specs.Label.{same_wire}
use Rattle.bit_arith.specs.declared.operand.Operand.{Operand}
use Rattle.bit_arith.specs.declared.operand.Operand.TheVariants.{Const, Literal}
use Rattle.bit_arith.specs.Calls.{Targets}
use Rattle.flat_form.specs.declared.known.Known.{Known}
use Rattle.flat_form.specs.declared.known.Known.TheVariants.{Static, Shown, Lent, Absent}
use Rattle.flat_form.specs.State.{Caller, Flattening, outside}

-- something holds of each item of a list, of each entry of an environment
abbrev pub AllOf : {A : Type 0} → (A → Type 0) → List A → Type 0
AllOf Q [] = Unit {0}
AllOf Q (a ∷ rest) = Q a × AllOf Q rest

abbrev pub AllEnv : {A : Type 0} → (A → Type 0) → Env A → Type 0
AllEnv Q env = AllOf (AllOf (λ p. Q p.1)) env

abbrev pub CallerOf : (Known → Type 0) → Caller → Type 0
CallerOf Q c = AllEnv Q c.env × AllOf Q c.values

-- something holds of all that a state knows
pub record AllKnown (Q : Known → Type 0) (s : Flattening) : Type 0 where
  pub env : AllEnv Q s.env
  pub values : AllOf Q s.values
  pub callers : AllOf (CallerOf Q) s.callers

-- the operands that are there: those of a lent part are under way
abbrev pub operands_in : Known → List Operand
operands_in (Static z) = []
operands_in (Shown v) = v.operands
operands_in (Lent start size v) = outside start size v.operands
operands_in Absent = []

abbrev pub named_by : WireId → Operand → Bool
named_by w (Const b) = false
named_by w (Literal l) = same_wire l.wire w

abbrev pub names : Known → WireId → Bool
names k w = list_any (named_by w) (operands_in k)

-- none of the targets is named
abbrev pub Spares : Targets → Known → Type 0
Spares T k = (w : WireId) → T w ≡ true → names k w ≡ false
