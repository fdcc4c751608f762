use Rattle.std.proofs.Common.{◌≡◌, ℕ, suc, List, ◌++◌, sym, ap, ◌∙◌, append_assoc, arith}
use Rattle.std.proofs.lemmas.List.{append-nil}
use Rattle.bit_arith.specs.declared.operand.Operand.{Operand}
use Rattle.flat_form.specs.Flat.{repeated}
use Rattle.flat_steps.proofs.gates.repeated.Goals as goal

pub loop-preserved : goal.loop-preserved
loop-preserved c = λ more e.
    ap (λ (ps : List Operand). ps ++ repeated more c.args.operands.now) c.in_ok-append.ensures
    ∙ append_assoc c.loop.list c.args.operands.now (repeated more c.args.operands.now)
    ∙ c.loop.invariant (suc more) (omega (arith, e))

pub returns : goal.returns
returns c = sym (append-nil c.loop.list) ∙ c.loop.invariant 0 (omega arith)
