use Rattle.std.proofs.Common.{List, sym, ap, ◌∙◌, subst}
use Rattle.flat_core.specs.declared.step.WireId.{WireId}
use Rattle.bit_arith.specs.Built.{all_made}
use Rattle.bit_arith.specs.Calls.{AreTargets}
use Rattle.flat_form.specs.State.{wires_in}
use Rattle.flat_form.proofs.Giving.{in_made}
use Rattle.flat_steps.proofs.take.copied.Goals as goal

pub returns-clause-targets : goal.returns-clause-targets
returns-clause-targets c =
    subst (λ (ws : List WireId). AreTargets c.copy.new.self.draft ws)
    (sym (ap wires_in (c.in_ok-all_made.ensures ∙ ap all_made c.as_slice.ensures.value) ∙ in_made c.in_ok-wires.wires.items))
    c.in_ok-wires.ensures.targets
