use Rattle.std.proofs.Common.{◌≡◌, length, ap, ◌∙◌, arith}
use Rattle.reqomp.specs.Simple.{simple_wires}
use Rattle.reqomp.proofs.Marking.{few_simple, sixteenths_fit}
use Rattle.reqomp.proofs.levels.marked_count.Goals as goal

pub overflow_mul-result : goal.overflow_mul-result
overflow_mul-result c =
    let few = few_simple c.args.flat.now c.steps-steps.ensures.sound in
    let e : c.len.result ≡ length (simple_wires c.args.flat.now) = c.len.ensures ∙ ap length c.requires.simple in
    let p = sixteenths_fit c.len.result c.args.level (omega arith) c.requires.within in
    omega (arith, p)

pub overflow_add-result : goal.overflow_add-result
overflow_add-result c =
    let few = few_simple c.args.flat.now c.steps-steps.ensures.sound in
    let e : c.len.result ≡ length (simple_wires c.args.flat.now) = c.len.ensures ∙ ap length c.requires.simple in
    let p = sixteenths_fit c.len.result c.args.level (omega arith) c.requires.within in
    omega (arith, p)
