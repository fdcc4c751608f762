use Rattle.std.proofs.Common.{◌≡◌, ◌+◌, ap, ◌∙◌, arith}
use Rattle.amp_core.specs.declared.Amp.{Amp}
use Rattle.amp_core.proofs.Amplitudes.{k-times}
use Rattle.amp_run.proofs.Halving.{halved_is}
use Rattle.amp_run.proofs.parts.halved.Goals as goal

pub overflow_add-product : goal.overflow_add-product
overflow_add-product c =
    let k : c.mul_w-product.result.k ≡ c.args.amp.now.k + 0 = ap (λ (z : Amp). z.k) c.mul_w-product.ensures ∙ k-times c.args.eighths 0 c.args.amp.now in
    let small = c.requires.power in
    omega arith

pub returns : goal.returns
returns c = halved_is c.args.eighths c.args.amp.now c.mul_w-product.result c.mul_w-product.ensures
