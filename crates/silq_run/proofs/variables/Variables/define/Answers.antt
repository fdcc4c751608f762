use Rattle.std.proofs.Common.{◌≡◌, ℕ, suc, ◌-◌, length, arith}
use Rattle.std.proofs.lemmas.Result.{on_ok_weaker}
use Rattle.silq_run.proofs.Places.{first_to}
use Rattle.silq_run.proofs.variables.Variables.define.Goals as goal

pub returns : goal.returns
returns c =
    let x = c.args.name in let b = c.index_mut-block.result.now in let bs = c.self.inside.blocks.items in let i : ℕ = c.len-blocks.result - 1 in
    let l : suc i ≡ length bs = omega (arith, c.self.inside.blocks.ok.0) in
    on_ok_weaker c.define-2.result (λ f. first_to bs x i c.args.value b c.define-2.new.self c.args.self.now l c.index_mut-block.ensures.value f c.self.view_is) c.define-2.ensures
