use Rattle.std.proofs.Common.{◌+◌, ◌-◌, slice_get, ap₂, ◌∙◌, arith, ℕ, length}
use Rattle.flat_core.specs.Label.{step_at}
use Rattle.unqomp.proofs.Links.{target_there}
use Rattle.unqomp.proofs.UserIds.{below_top, reverse_id}
use Rattle.unqomp.proofs.edges.reverse_id.Goals as goal

pub overflow_sub-place-2 : goal.overflow_sub-place-2
overflow_sub-place-2 c = let below = below_top c.args.flat.now c.args.s c.requires.there c.args.target c.requires.target in omega arith

pub returns : goal.returns
returns c =
    let f = c.args.flat.now in
    let there = target_there (step_at f c.args.s) (length f.wires) c.args.target (c.requires.sound.in_range c.args.s c.requires.there) c.requires.target in
    let place = ap₂ (λ (t l : ℕ). slice_get c.index-chains-target.result (t + (t - 1 - l))) c.top-top.ensures c.label_before.ensures in
    reverse_id f c.args.s c.requires.there c.args.target c.requires.target c.requires.undone there c.args.chains.now c.index-chains-target.result c.get.result c.index-chains-target.is (c.get.ensures ∙ place)
