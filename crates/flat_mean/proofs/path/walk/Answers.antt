use Rattle.std.proofs.Common.{◌≡◌, ◌+◌, ◌<◌, ◌≤◌, true, cond, length, refl, sym, ap, subst, ◌∙◌, arith, rules, add-zero}
use Rattle.std.proofs.lemmas.Bool.{both_ways}
use Rattle.flat_core.specs.Label.{step_id}
use Rattle.flat_core.specs.Sound.{HasEighths}
use Rattle.flat_mean.specs.Row.{bits_of, is_h, next, halvings}
use Rattle.flat_mean.specs.Path.{step_number, choices_at}
use Rattle.flat_mean.specs.Factor.{IsStepFactor}
use Rattle.flat_mean.proofs.Choices.{choices_less, choices_mono}
use Rattle.flat_mean.proofs.Walks.{row_more, choices_more, factor_more, few_halvings, few_if, named}
use Rattle.flat_mean.proofs.path.walk.Goals as goal
use Rattle.flat_mean.proofs.path.walk.Goals.{then-chooses, else-chooses, then-chooses-2, else-chooses-2}

pub bounds-choice-used : goal.bounds-choice-used
bounds-choice-used c =
    let steps = c.args.flat.now.steps in
    let h : is_h (step_number steps c.loop-s.s) ≡ true = ap is_h (sym c.step-step.ensures) ∙ sym c.is_hadamard-chooses.ensures ∙ c.if-chooses.true in
    let l : choices_at steps c.loop-s.s < choices_at steps (length steps) = choices_less steps c.loop-s.s (length steps) (omega arith) h in
    omega (arith, c.loop-s.invariant.used)

pub overflow_add-used : goal.overflow_add-used
overflow_add-used c =
    let steps = c.args.flat.now.steps in
    let h : is_h (step_number steps c.loop-s.s) ≡ true = ap is_h (sym c.step-step.ensures) ∙ sym c.is_hadamard-chooses.ensures ∙ c.if-chooses-2.true in
    let l : choices_at steps c.loop-s.s < choices_at steps (length steps) = choices_less steps c.loop-s.s (length steps) (omega arith) h in
    let few : c.loop-s.used + 1 ≤ 50 = omega (arith, c.loop-s.invariant.used) in
    search rules

pub factor_of-requires-clause-there : goal.factor_of-requires-clause-there
factor_of-requires-clause-there c = named c.args.flat.now c.requires.sound c.loop-s.s (length c.loop-s.row) c.step-step.result (omega arith) (omega arith) c.step-step.ensures

pub factor_of-requires-clause-eighths : goal.factor_of-requires-clause-eighths
factor_of-requires-clause-eighths c = subst HasEighths (sym c.step-step.ensures) (c.requires.sound.eighths (step_id c.loop-s.s) (omega arith))

pub times-factor-requires-clause-few : goal.times-factor-requires-clause-few
times-factor-requires-clause-few c =
    let steps = c.args.flat.now.steps in
    let more : choices_at steps c.loop-s.s ≤ choices_at steps (length steps) = choices_mono steps (length steps) c.loop-s.s (omega arith) in
    let old : c.loop-s.factor.halvings ≤ choices_at steps c.loop-s.s = c.loop-s.invariant.factor.few_halvings in
    let own : c.factor_of.result.halvings ≡ halvings c.step-step.result (bits_of c.loop-s.row) = c.factor_of.ensures.factor.halvings_are in
    let one : halvings c.step-step.result (bits_of c.loop-s.row) ≤ cond (is_h c.step-step.result) 1 0 = few_halvings c.step-step.result (bits_of c.loop-s.row) in
    let least : cond (is_h c.step-step.result) 1 0 ≤ 1 = few_if (is_h c.step-step.result) in
    omega arith

pub do_step-requires : goal.do_step-requires
do_step-requires c = named c.args.flat.now c.requires.sound c.loop-s.s (length c.loop-s.row) c.step-step.result (omega arith) (omega arith) c.step-step.ensures

pub loop-s-preserved : goal.loop-s-preserved
loop-s-preserved c =
    let steps = c.args.flat.now.steps in
    let input = bits_of c.args.row.now in
    let choice = bits_of c.args.choice.now in
    let s = c.loop-s.s in
    let own : is_h (step_number steps s) ≡ true → c.if-chooses.bit ≡ choice (choices_at steps s) = λ h. elim c.if-chooses.branch [
      | then-chooses w ↦ w.bit-is ∙ ap choice c.loop-s.invariant.used
      | else-chooses w ↦ absurd (both_ways c.is_hadamard-chooses.result w.if-chooses.false (c.is_hadamard-chooses.ensures ∙ ap is_h c.step-step.ensures ∙ h))
    ] in
    let used : c.if-chooses-2.used ≡ c.loop-s.used + cond (is_h (step_number steps s)) 1 0 = elim c.if-chooses-2.branch [
      | then-chooses-2 w ↦ w.used-is ∙ ap (λ b. c.loop-s.used + cond b 1 0) (sym (ap is_h (sym c.step-step.ensures) ∙ sym c.is_hadamard-chooses.ensures ∙ w.if-chooses-2.true))
      | else-chooses-2 w ↦ w.used-is ∙ sym (add-zero c.loop-s.used) ∙ ap (λ b. c.loop-s.used + cond b 1 0) (sym (ap is_h (sym c.step-step.ensures) ∙ sym c.is_hadamard-chooses.ensures ∙ w.if-chooses-2.false))
    ] in
    record {
      used = used ∙ ap (λ n. n + cond (is_h (step_number steps s)) 1 0) c.loop-s.invariant.used ∙ sym (choices_more steps s (is_h (step_number steps s)) refl);
      row = λ q. c.do_step.ensures q ∙ ap (λ x. next x c.if-chooses.bit (bits_of c.loop-s.row) q) c.step-step.ensures ∙ row_more steps input choice s (bits_of c.loop-s.row) c.if-chooses.bit c.loop-s.invariant.row own q;
      factor = factor_more steps input choice s (bits_of c.loop-s.row) c.if-chooses.bit c.loop-s.invariant.row own c.loop-s.factor c.factor_of.result c.times-factor.result c.loop-s.invariant.factor
          (subst (λ x. IsStepFactor x c.if-chooses.bit (bits_of c.loop-s.row) c.factor_of.result) c.step-step.ensures c.factor_of.ensures.factor)
          c.times-factor.ensures.possible c.times-factor.ensures.eighths c.times-factor.ensures.halvings;
    }
