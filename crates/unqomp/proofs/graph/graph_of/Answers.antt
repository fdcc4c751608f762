use Rattle.std.proofs.Common.{length, refl}
use Rattle.unqomp.specs.UseList.{uses_before}
use Rattle.unqomp.proofs.Back.{back_start}
use Rattle.unqomp.proofs.Last.{last_start, whole, targets}
use Rattle.unqomp.proofs.GraphMade.{made}
use Rattle.unqomp.proofs.graph.graph_of.Goals as goal

pub add_undoings-requires-clause-stage : goal.add_undoings-requires-clause-stage
add_undoings-requires-clause-stage c = back_start c.args.flat.now c.add_steps.new.graph c.add_steps.new.chains.items c.in_ok-add_steps.ensures

pub add_freeings-requires-clause-stage : goal.add_freeings-requires-clause-stage
add_freeings-requires-clause-stage c = last_start c.args.flat.now c.add_undoings.new.graph c.add_undoings.new.chains.items c.in_ok-add_undoings.ensures

pub add_all_uses-requires-clause-whole : goal.add_all_uses-requires-clause-whole
add_all_uses-requires-clause-whole c =
    rw c.deref.ensures.value (whole c.args.flat.now c.add_freeings.new.graph c.add_freeings.new.chains.items c.in_ok-add_freeings.ensures)

pub add_all_uses-requires-clause-targets : goal.add_all_uses-requires-clause-targets
add_all_uses-requires-clause-targets c = targets c.args.flat.now c.add_freeings.new.graph c.add_freeings.new.chains.items c.in_ok-add_freeings.ensures

pub returns : goal.returns
returns c =
    let f = c.args.flat.now in
    made f c.steps-count.ensures.sound c.add_all_uses.new.graph c.add_freeings.new.graph.vertices c.add_freeings.new.chains.items
    (whole f c.add_freeings.new.graph c.add_freeings.new.chains.items c.in_ok-add_freeings.ensures) c.in_ok-add_all_uses.ensures.vertices
    (uses_before f (length f.steps)) refl c.in_ok-add_all_uses.ensures.edges
