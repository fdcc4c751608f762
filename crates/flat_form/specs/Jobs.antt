-- What the rules of typing are to give of a program.
use Rattle.std.specs.Prelude.{◌≡◌, ◌<◌, true, length}
use Rattle.silq_mean.specs.Table.{Job}
use Rattle.flat_core.specs.declared.step.WireId.{WireId}
use Rattle.flat_core.specs.declared.step.StepId.{StepId}
use Rattle.flat_core.specs.declared.step.End.TheVariants.{Dropped}
use Rattle.flat_core.specs.Label.{changes, step_at, end_of, is_input}
use Rattle.flat_core.specs.Sound.{is_x, joined}
use Rattle.bit_arith.specs.Calls.{AreTargets}
use Rattle.flat_form.specs.State.{are_wires}
use Rattle.flat_form.specs.Flat.{flat, begin, flattened}
use Rattle.flat_form.specs.Names.{AllOf}
use Rattle.flat_form.specs.Fine.{Distinct, Fine, IsOf}

-- what the rules of typing are to give of each accepted program
abbrev pub FineJob : Job → Type 0
FineJob j = Fine j.effect (begin j.shapes) × AllOf (λ k. IsOf (λ v. are_wires v.operands ≡ true) k) (flat j.effect (begin j.shapes)).values

-- what the rules of typing are to give of a program's end: each input wire, and each wire that another step than X changes, is returned, measured or
-- forgotten; the wires that are returned differ, and none of them was measured
pub record EndsWell (j : Job) : Type 0 where
  pub inputs : (w : WireId) → is_input (flattened j).form w ≡ true → end_of (flattened j).form w ≡ Dropped → ⊥
  pub dropped : (s : StepId) (w : WireId) → s.number < length (flattened j).form.steps → end_of (flattened j).form w ≡ Dropped → changes w (step_at (flattened j).form s) ≡ true → is_x (step_at (flattened j).form s) ≡ true
  pub distinct : Distinct (joined (flattened j).form.outs)
  pub free : AreTargets (flat j.effect (begin j.shapes)).built.draft (joined (flattened j).form.outs)
