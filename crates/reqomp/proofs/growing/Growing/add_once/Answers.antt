use Rattle.std.proofs.Common.{Contains, subst}
use Rattle.std.proofs.lemmas.Bool.{iff_false}
use Rattle.std.proofs.lemmas.List.Elements.{Contains-push_cases}
use Rattle.graph_core.specs.Arena.{Arena}
use Rattle.reqomp.specs.Growing.{arrow_of}
use Rattle.reqomp.proofs.growing.Growing.add_once.Goals as goal

pub add_edge-requires-clause-free : goal.add_edge-requires-clause-free
add_edge-requires-clause-free c =
    let fresh = iff_false c.has_edge.ensures c.if-has_edge.false in
    record {
      ends = (c.requires.from, c.requires.to);
      fresh = fresh;
      first_out = λ t d i k e. fresh (subst (Contains c.args.self.now.graph.arrows) (c.requires.lone_from t d i k e) i);
      first_in = λ t d i k e. fresh (subst (Contains c.args.self.now.graph.arrows) (c.requires.lone_to t d i k e) i);
    }

pub returns-clause-only : goal.returns-clause-only
returns-clause-only c = λ e i.
    Contains-push_cases c.args.self.now.graph.arrows (arrow_of c.args.from c.args.to c.args.kind) e (subst (λ (g : Arena). Contains g.arrows e) c.in_ok-add_edge.ensures.added.1 i)
