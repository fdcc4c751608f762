use Rattle.std.proofs.Common.{◌≡◌, ℕ, suc, ◌%◌, ◌/◌, ◌==◌, Bool, List, [], ◌∷◌, ◌++◌, map, sym, ap, ◌∙◌, append_assoc, arith}
use Rattle.std.proofs.lemmas.List.{append-nil}
use Rattle.silq_mean.specs.Value.{low_bits}
use Rattle.flat_mean.specs.Row.{flipped}
use Rattle.bit_arith.specs.declared.operand.Operand.{Operand}
use Rattle.bit_arith.specs.declared.operand.Operand.TheVariants.{Const}
use Rattle.flat_steps.proofs.typed.constants.Goals as goal

pub loop-preserved : goal.loop-preserved
loop-preserved c = λ more e.
    let rest : ℕ = c.loop.rest in
    let tail : List Operand = map (λ (b : Bool). Const (flipped b c.args.others)) (low_bits more (rest / 2)) in
    ap (λ (ps : List Operand). ps ++ tail) c.in_ok-push.ensures.ok
    ∙ append_assoc c.loop.operands (Const c.other_where-bit.result ∷ []) tail
    ∙ ap (λ (b : Bool). c.loop.operands ++ Const b ∷ tail) c.other_where-bit.ensures
    ∙ c.loop.invariant (suc more) (omega (arith, e))

pub returns : goal.returns
returns c = sym (append-nil c.loop.operands) ∙ c.loop.invariant 0 (omega arith)
