use Rattle.std.proofs.Common.{◌∙◌, ap, replicate, true}
use Rattle.amp_run.proofs.Taking.{fit}
use Rattle.amp_run.proofs.ins.are_inputs.Goals as goal

pub returns : goal.returns
returns c =
    let flags = c.in_ok-free.ensures.items_if_clones_equal (λ y e. e) in
    fit c.are_new.result _ _ _ (c.deref_mut.ensures.value ∙ (flags ∙ ap (λ n. replicate n true) c.qubits.ensures))
    (rw (c.deref.ensures.value, c.in_ok-qubits.ensures) at c.are_new.ensures)
