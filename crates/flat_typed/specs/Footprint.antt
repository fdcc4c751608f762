-- Which wires an expression uses, by the parts that it names, and what may happen to others.
use Rattle.std.specs.Prelude.{◌≡◌, ℕ, ◌<◌, ◌≤◌, ◌⊎◌, Bool, true, false, not, ◌&&◌, ◌||◌, List, [], ◌∷◌, length, Option, Some, None}
use Rattle.std.specs.List.{list_any}
use Rattle.silq_types.specs.declared.values.Part.{Part}
use Rattle.silq_types.specs.declared.values.Var.{Var}
use Rattle.check_scope.specs.declared.uses.Use.{Use}
use Rattle.check_scope.specs.Context.{indices, variable, find_var}
use Rattle.silq_types.specs.Calls.{is_consumed}
use Rattle.flat_core.specs.declared.step.Step.{Step}
use Rattle.flat_core.specs.declared.step.WireId.{WireId}
use Rattle.flat_core.specs.declared.step.End.TheVariants.{Dropped}
use Rattle.flat_core.specs.Form.{DraftForm}
use Rattle.flat_core.specs.Label.{changes, label_after, wire_in}
use Rattle.flat_core.specs.Drafts.{is_measured}
use Rattle.flat_core.specs.Sound.{is_x}
use Rattle.bit_arith.specs.Calls.{Targets, among}
use Rattle.flat_form.specs.declared.known.Known.{Known}
use Rattle.flat_form.specs.State.{wires_in, part_of}
use Rattle.flat_form.specs.Names.{AllOf, names}
use Rattle.flat_typed.specs.Places.{Places}

-- ---- the wires of parts

abbrev pub wires_for : Places → Option Var → Part → Targets
wires_for W None p w = false
wires_for W (Some v) p w = among (wires_in (part_of v.ty.shape (indices p) (W v.place))) w

-- the wires of the part that is used
abbrev pub wires_of_part : Places → List Var → Part → Targets
wires_of_part W vars p = wires_for W (find_var vars (variable p.name)) p

abbrev pub used_wires : Places → List Var → List Use → Targets
used_wires W vars [] w = false
used_wires W vars (u ∷ us) w = wires_of_part W vars u.part w || used_wires W vars us w

abbrev pub consumed_wires : Places → List Var → List Use → Targets
consumed_wires W vars [] w = false
consumed_wires W vars (u ∷ us) w = (is_consumed u.need && wires_of_part W vars u.part w) || consumed_wires W vars us w

-- a value names wires of a set, and wires from the n-th on
abbrev pub Within : Targets → ℕ → Known → Type 0
Within T n k = (w : WireId) → names k w ≡ true → (T w ≡ true) ⊎ (n ≤ w.number)

-- no value names a wire of the set
abbrev pub NoneNames : Targets → List Known → Type 0
NoneNames T ks = (w : WireId) → T w ≡ true → AllOf (λ k. names k w ≡ false) ks

-- ---- what happens to wires

-- another step than X changed the wire
abbrev pub is_mixed : List Step → WireId → Bool
is_mixed steps w = list_any (λ st. changes w st && not (is_x st)) steps

-- a wire that must not be dropped: an input, or one that another step than X changed, whose end is not told yet
pub record Owed (d : DraftForm) (w : WireId) : Type 0 where
  pub there : w.number < length d.wires
  pub untold : (wire_in d.wires w).ending ≡ Dropped
  pub why : ((wire_in d.wires w).input ≡ true) ⊎ (is_mixed d.steps w ≡ true)

-- of the wires that were there, those outside a set are neither changed nor measured, and keep their end
pub record Touches (T : Targets) (d e : DraftForm) : Type 0 where
  pub grown : length d.wires ≤ length e.wires
  pub labels : (w : WireId) → w.number < length d.wires → T w ≡ false → label_after e.steps w ≡ label_after d.steps w
  pub measured : (w : WireId) → w.number < length d.wires → T w ≡ false → is_measured e.steps w ≡ is_measured d.steps w
  pub mixed : (w : WireId) → w.number < length d.wires → T w ≡ false → is_mixed e.steps w ≡ is_mixed d.steps w
  pub ends : (w : WireId) → w.number < length d.wires → T w ≡ false → wire_in e.wires w ≡ wire_in d.wires w
  pub inputs : (w : WireId) → ((wire_in e.wires w).input ≡ (wire_in d.wires w).input) ⊎ (length d.wires ≤ w.number)

-- steps that are X or P alone: no wire is mixed that was not
abbrev pub StaysPlain : DraftForm → DraftForm → Type 0
StaysPlain d e = (w : WireId) → is_mixed e.steps w ≡ true → is_mixed d.steps w ≡ true

-- a wire that is not made is not measured
abbrev pub Unmade : DraftForm → Type 0
Unmade d = (w : WireId) → length d.wires ≤ w.number → is_measured d.steps w ≡ false
