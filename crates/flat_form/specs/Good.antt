-- What holds of each state of flattening.
use Rattle.std.specs.Prelude.{◌≡◌, ℕ, true, [], length, ⊤}
use Rattle.silq_types.specs.Types.{shape_bits}
use Rattle.bit_arith.specs.Built.{under}
use Rattle.bit_arith.specs.Calls.{AllSafe, no_target, WasRead}
use Rattle.bit_arith.specs.Does.{Fresh}
use Rattle.flat_form.specs.declared.known.TypedBits.{TypedBits}
use Rattle.flat_form.specs.declared.known.Known.{Known}
use Rattle.flat_form.specs.declared.known.Known.TheVariants.{Static, Shown, Lent, Absent}
use Rattle.flat_form.specs.State.{Caller, Flattening, are_wires}
use Rattle.flat_form.specs.Names.{AllOf, AllEnv, AllKnown}

-- an operand for each bit; all wires are there; what may be kept is wires
pub record IsShown (n : ℕ) (v : TypedBits) : Type 0 where
  pub size : length v.operands ≡ shape_bits v.shape
  pub there : AllSafe n no_target v.operands
  pub wires : v.own ≡ true → are_wires v.operands ≡ true

abbrev pub IsKnown : ℕ → Known → Type 0
IsKnown n (Static z) = ⊤
IsKnown n (Shown v) = IsShown n v
IsKnown n (Lent start size v) = IsShown n v
IsKnown n Absent = ⊤

-- a variable shows wires of its own, and does not say where an expression began
abbrev pub IsOwned : Known → Type 0
IsOwned (Static z) = ⊤
IsOwned (Shown v) = (v.own ≡ true) × (v.began ≡ 0)
IsOwned (Lent start size v) = (v.own ≡ true) × (v.began ≡ 0)
IsOwned Absent = ⊤

pub record Owned (s : Flattening) : Type 0 where
  pub env : AllEnv IsOwned s.env
  pub callers : AllOf (λ (c : Caller). AllEnv IsOwned c.env) s.callers

pub record Good (s : Flattening) : Type 0 where
  pub fresh : Fresh s.built.draft
  pub known : AllKnown (IsKnown (length s.built.draft.wires)) s
  pub condition : AllSafe (length s.built.draft.wires) no_target (under s.setting [])
  pub read : WasRead s.built.draft s.setting.condition
  pub owned : Owned s
