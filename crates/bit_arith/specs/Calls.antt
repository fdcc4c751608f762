-- What the calls of a builder ask for, and what they leave.
use Rattle.std.specs.Prelude.{◌≡◌, ℕ, ◌<◌, Bool, false, List, [], ◌∷◌, length, Option, Some, None, ⊤}
use Rattle.std.specs.List.{list_any}
use Rattle.silq_io.specs.declared.limit.LimitFault.{LimitFault}
use Rattle.silq_io.specs.declared.limit.LimitFault.TheVariants.{Memory, Limit}
use Rattle.flat_core.specs.declared.step.WireId.{WireId}
use Rattle.flat_core.specs.declared.step.Lit.{Lit}
use Rattle.flat_core.specs.Form.{DraftForm}
use Rattle.flat_core.specs.Label.{same_wire}
use Rattle.flat_core.specs.Drafts.{is_measured}
use Rattle.bit_arith.specs.declared.operand.Operand.{Operand}
use Rattle.bit_arith.specs.declared.operand.Operand.TheVariants.{Const, Literal}
use Rattle.bit_arith.specs.Built.{Built, Setting, blank}

-- a builder: what is built so far, and with what the next steps are made
pub record Building : Type 0 where
  pub draft : DraftForm
  pub setting : Setting

-- ---- what is asked for

-- a set of wires that are to be changed
abbrev pub Targets : Type 0
Targets = WireId → Bool

abbrev pub among : List WireId → Targets
among ws w = list_any (same_wire w) ws

abbrev pub no_target : Targets
no_target w = false

-- an operand's wire is one of the first n, and is no target
abbrev pub SafeLit : ℕ → Targets → Lit → Type 0
SafeLit n T l = (l.wire.number < n) × (T l.wire ≡ false)

abbrev pub Safe : ℕ → Targets → Operand → Type 0
Safe n T (Const b) = ⊤
Safe n T (Literal l) = SafeLit n T l

abbrev pub AllSafe : ℕ → Targets → List Operand → Type 0
AllSafe n T [] = ⊤
AllSafe n T (p ∷ ps) = Safe n T p × AllSafe n T ps

-- a wire that is there and has no M
abbrev pub IsTarget : DraftForm → WireId → Type 0
IsTarget d w = (w.number < length d.wires) × (is_measured d.steps w ≡ false)

abbrev pub AreTargets : DraftForm → List WireId → Type 0
AreTargets d [] = ⊤
AreTargets d (w ∷ ws) = IsTarget d w × AreTargets d ws

-- a condition was read: its wire is not blank
abbrev pub WasRead : DraftForm → Option Operand → Type 0
WasRead d None = ⊤
WasRead d (Some (Const b)) = ⊤
WasRead d (Some (Literal l)) = blank d l.wire ≡ false

-- ---- what is left

-- a call that went well: its row is within all limits, and this is what was built
pub record Went (old new : Building) (row : Built) : Type 0 where
  pub within : row.over ≡ None
  pub built : new.draft ≡ row.draft
  pub kept : new.setting ≡ old.setting

-- a call that was refused: for want of memory, or by the limit that its row goes above first
abbrev pub Refused : LimitFault → Built → Type 0
Refused Memory row = ⊤
Refused (Limit over) row = row.over ≡ Some over
