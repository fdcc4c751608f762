use Rattle.std.proofs.Common.{◌≡◌, ap, subst, ◌∙◌}
use Rattle.std.proofs.Math.Path.{fun_ext}
use Rattle.flat_mean.specs.Row.{Row, bits_of}
use Rattle.flat_mean.specs.Path.{input_row, top_row}
use Rattle.flat_mean.specs.Factor.{IsFactor}
use Rattle.flat_mean.proofs.Walks.{weight_is}
use Rattle.flat_mean.proofs.path.path_value.Goals as goal

pub returns-clause-values : goal.returns-clause-values
returns-clause-values c = λ q.
    let begun : bits_of c.begin.new.row ≡ input_row c.args.flat.now.wires (bits_of c.args.input.now) = fun_ext c.begin.ensures in
    c.walk-factor.ensures.values q ∙ ap (λ (row : Row). top_row c.args.flat.now.steps row (bits_of c.args.choice.now) q) begun

pub returns-clause-weight : goal.returns-clause-weight
returns-clause-weight c =
    let begun : bits_of c.begin.new.row ≡ input_row c.args.flat.now.wires (bits_of c.args.input.now) = fun_ext c.begin.ensures in
    let from : IsFactor c.args.flat.now.steps (input_row c.args.flat.now.wires (bits_of c.args.input.now)) (bits_of c.args.choice.now) c.steps-steps.result c.walk-factor.result = subst (λ (row : Row). IsFactor c.args.flat.now.steps row (bits_of c.args.choice.now) c.steps-steps.result c.walk-factor.result) begun c.walk-factor.ensures.factor in
    c.amplitude.ensures
    ∙ weight_is c.args.flat.now.steps (input_row c.args.flat.now.wires (bits_of c.args.input.now)) (bits_of c.args.choice.now) c.walk-factor.result
    (subst (λ n. IsFactor c.args.flat.now.steps (input_row c.args.flat.now.wires (bits_of c.args.input.now)) (bits_of c.args.choice.now) n c.walk-factor.result) c.steps-steps.ensures.count from)
