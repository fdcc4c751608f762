use Rattle.std.proofs.Common.{ap, ◌∙◌}
use Rattle.flat_core.specs.Label.{used}
use Rattle.reqomp.proofs.Marking.{top_more}
use Rattle.reqomp.proofs.marked.note_step.Goals as goal

pub returns : goal.returns
returns c =
    rw (c.note_use-2.ensures, c.note_use.ensures)
    (top_more c.args.flat.now c.args.s c.used_wires-first.result.0 c.used_wires-first.result.1 c.args.flags.now c.requires.there (c.used_wires-first.ensures ∙ ap used c.step.ensures) c.requires.flags)
