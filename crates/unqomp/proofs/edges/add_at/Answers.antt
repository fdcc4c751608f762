use Rattle.std.proofs.Common.{sym, ◌∙◌}
use Rattle.graph_core.specs.Arena.{IsFreeFor, control, availability}
use Rattle.unqomp.proofs.UseEdges.{slot_availability, behind_slot, all_next}
use Rattle.unqomp.proofs.edges.add_at.Goals as goal

pub add_edge-requires-clause-free : goal.add_edge-requires-clause-free
add_edge-requires-clause-free c = c.requires.free (availability c.args.user c.in-Some.next) (slot_availability c.args.chain.now c.args.user c.args.slot c.in-Some.next (sym c.get-next.ensures ∙ c.in-Some.is))

pub add_use-requires-clause-free : goal.add_use-requires-clause-free
add_use-requires-clause-free c = c.requires.free (control c.in-Some-get.holder c.args.user) (behind_slot c.args.chain.now c.args.user c.args.slot c.if-slot-eq0.false c.in-Some-get.holder (sym c.get.ensures ∙ c.in-Some-get.is))

pub add_use-requires-clause-next_free : goal.add_use-requires-clause-next_free
add_use-requires-clause-next_free c = all_next c.args.chain.now c.args.user c.args.slot (IsFreeFor c.args.graph.now) c.requires.free c.get-next.result c.get-next.ensures
