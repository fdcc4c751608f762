use Rattle.std.proofs.Common.{ap, ◌∙◌, arith, rules}
use Rattle.std.proofs.lemmas.Int.{to_z-of_z}
use Rattle.std.specs.Int.RustNames.{FitsSigned}
use mir.Syntax.{w128}
use Rattle.amp_core.specs.declared.Amp.{Amp}
use Rattle.amp_core.specs.Amplitude.{times, over_root_two}
use Rattle.amp_core.proofs.Amplitudes.{by_fields}
use Rattle.test_circuits.proofs.sums.amplitude_of.Goals as goal

pub returns : goal.returns
unfolding times over_root_two
returns c =
    let a : FitsSigned w128 c.mul_w.result.a = search rules in
    let b : FitsSigned w128 c.mul_w.result.b = search rules in
    let e : FitsSigned w128 c.mul_w.result.c = search rules in
    let f : FitsSigned w128 c.mul_w.result.d = search rules in
    record {
      turns = c.args.eighths;
      halvings = c.args.halvings;
      few = c.requires;
      is =
          by_fields _ _
          (to_z-of_z w128 c.mul_w.result.a a ∙ ap (λ (x : Amp). x.a) c.mul_w.ensures)
          (to_z-of_z w128 c.mul_w.result.b b ∙ ap (λ (x : Amp). x.b) c.mul_w.ensures)
          (to_z-of_z w128 c.mul_w.result.c e ∙ ap (λ (x : Amp). x.c) c.mul_w.ensures)
          (to_z-of_z w128 c.mul_w.result.d f ∙ ap (λ (x : Amp). x.d) c.mul_w.ensures)
          (let g = c.from.ensures in omega arith);
    }
