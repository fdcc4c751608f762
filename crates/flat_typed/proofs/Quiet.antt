-- Which wires rows of steps touch, row by row.
use Rattle.std.proofs.Common.{List, length, sym, ◌∙◌, arith}
use Rattle.flat_core.specs.declared.step.WireId.{WireId}
use Rattle.flat_core.specs.declared.step.End.TheVariants.{Measured}
use Rattle.flat_core.specs.Label.{same_wire}
use Rattle.bit_arith.specs.Built.{Built, Setting}
use Rattle.bit_arith.specs.Calls.{Targets, among, no_target}
use Rattle.flat_form.specs.Flat.{end_all, measure_all}
use Rattle.flat_typed.specs.Footprint.{StaysPlain}
use Rattle.flat_typed.specs.Steps.{Quiet, RowsTouch}
use Rattle.flat_typed.proofs.Owning.{same_refl}
use Rattle.flat_typed.proofs.Flipping.{Flips}
use Rattle.flat_typed.proofs.Touching.{flips_touch, flips_stay_plain, among_may, flips_by_one, flips_by_two, flips_copied, flips_taken_for, flips_update}
use Rattle.flat_typed.proofs.Flipping.{flips_turn}
use Rattle.flat_typed.proofs.Telling.{had_touches, measures_only, measuring_touches, ends_touch, ends_stay_plain}

quiet : (T : Targets) (b e : Built) → Flips T (length b.draft.wires) b e → Quiet T b e
quiet T b e f = record { touches = flips_touch T b e f; plain = flips_stay_plain T (length b.draft.wires) b e f }

measures_plain : (at : Setting) (ws : List WireId) (b : Built) → StaysPlain b.draft (end_all Measured ws (measure_all at ws b)).draft
measures_plain at ws b w m = sym ((measures_only (among ws) at ws b (λ v a. a)).mixed w) ∙ ends_stay_plain Measured ws (measure_all at ws b) w m

pub rows_touch : RowsTouch
rows_touch = record {
  one = λ op at ps b. quiet no_target b _ (flips_by_one no_target (length b.draft.wires) op at ps b (omega arith));
  two = λ op s at ps qs b. quiet no_target b _ (flips_by_two no_target (length b.draft.wires) op s at ps qs b (omega arith));
  copies = λ at ps b. quiet no_target b _ (flips_copied no_target (length b.draft.wires) at ps b (omega arith));
  takers = λ r at v b. quiet no_target b _ (flips_taken_for no_target (length b.draft.wires) r at v b (omega arith));
  turns = λ at k ps b. quiet no_target b _ (flips_turn no_target (length b.draft.wires) at k ps b (omega arith));
  updates = λ op at ws ps b. quiet (among ws) b _ (flips_update (among ws) (length b.draft.wires) op at ws ps b (omega arith) (among_may (among ws) (length b.draft.wires) ws (λ w a. a)));
  ends = λ e ws b. record { touches = ends_touch (among ws) e ws b (λ w a. a); plain = ends_stay_plain e ws b };
  measures = λ at ws b. record { touches = measuring_touches (among ws) Measured at ws b (λ w a. a); plain = measures_plain at ws b };
  mixes = λ at w b. had_touches (same_wire w) at w b (same_refl w);
}
