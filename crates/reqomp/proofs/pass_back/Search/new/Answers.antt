use Rattle.std.proofs.Common.{length, ap, ◌∙◌}
use Rattle.std.proofs.lemmas.List.{length-replicate}
use Rattle.reqomp.proofs.Passing.{zeros_old}
use Rattle.reqomp.proofs.pass_back.Search.new.Goals as goal

pub returns-clause-search : goal.returns-clause-search
returns-clause-search c =
    let e = c.in_ok-stamps.ensures.items_if_clones_equal (λ y e. e) in
    record {
      first = c.in_ok-first.ensures;
      as_many = ap length e ∙ length-replicate c.wires.result 0 ∙ c.wires.ensures;
      old = zeros_old c.in_ok-stamps.stamps.items c.wires.result 0 e;
    }
