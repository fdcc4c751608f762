use Rattle.std.proofs.Common.{subst}
use Rattle.silq_run.specs.Reach.{IsInnermost}
use Rattle.silq_run.proofs.Places.{bound_to}
use Rattle.silq_run.proofs.variables.Variables.bind.Goals as goal

pub returns : goal.returns
returns c =
    let x = c.args.name in let i = c.in-Some.i in let b = c.index_mut-block.result.now in let bs = c.self.inside.blocks.items in
    let h : IsInnermost bs x i = subst (λ z. IsInnermost z x i) c.as_slice.ensures.value c.in-Some.ensures.some in
    bound_to bs x i c.args.value b c.replace.new.self c.args.self.now h c.index_mut-block.ensures.value c.replace.ensures.new c.self.view_is
