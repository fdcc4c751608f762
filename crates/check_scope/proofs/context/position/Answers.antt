use Rattle.std.proofs.Common.{◌<◌, ◌∙◌, sym, length, rules}
use Rattle.check_scope.proofs.NameChains.{left_below}
use Rattle.check_scope.specs.Kept.{variable_names}
use Rattle.check_scope.proofs.VariableWalks.{part_is_of, walked_within, walked_in_names, walked_before, walked_hit, walked_past, passes_at, lowest_end}
use Rattle.check_scope.proofs.context.position.Goals as goal

pub before-next-requires : goal.before-next-requires
before-next-requires c =
    let at = rw c.in-Some.is at c.loop-next.invariant.walked in
    walked_in_names _ _ _ _ _ _ c.requires at

pub offset_bounds-vars-i : goal.offset_bounds-vars-i
offset_bounds-vars-i c =
    let at = rw c.in-Some.is at c.loop-next.invariant.walked in
    let l : c.in-Some.i < length c.args.vars.now = walked_within _ _ _ _ _ at in
    search rules

pub bounds-vars-i : goal.bounds-vars-i
bounds-vars-i c =
    let at = rw c.in-Some.is at c.loop-next.invariant.walked in
    walked_within _ _ _ _ _ at

pub loop-next-smaller-then-same_part : goal.loop-next-smaller-then-same_part
loop-next-smaller-then-same_part c =
    let at = rw c.in-Some.is at c.loop-next.invariant.walked in
    rw c.in-Some.is (left_below (variable_names c.args.vars.now) c.args.part.name c.in-Some.i _ (walked_before _ _ _ _ _ _ _ c.requires at c.before-next.ensures))

pub loop-next-preserved-then-same_part : goal.loop-next-preserved-then-same_part
loop-next-preserved-then-same_part c =
    let at = rw c.in-Some.is at c.loop-next.invariant.walked in
    record {
      walked = walked_hit _ _ _ c.in-Some.i _ (walked_before _ _ _ _ _ _ _ c.requires at c.before-next.ensures);
      here = passes_at _ _ c.in-Some.i _ (walked_within _ _ _ _ _ at) ∙ sym c.same_part.ensures ∙ c.if-same_part.true;
    }

pub loop-next-smaller : goal.loop-next-smaller
loop-next-smaller c =
    let at = rw c.in-Some.is at c.loop-next.invariant.walked in
    rw c.in-Some.is (left_below (variable_names c.args.vars.now) c.args.part.name c.in-Some.i _ (walked_before _ _ _ _ _ _ _ c.requires at c.before-next.ensures))

pub loop-next-preserved : goal.loop-next-preserved
loop-next-preserved c =
    let at = rw c.in-Some.is at c.loop-next.invariant.walked in
    record {
      walked = walked_past _ _ _ c.in-Some.i _ _ (part_is_of c.args.part) at (passes_at _ _ c.in-Some.i _ (walked_within _ _ _ _ _ at) ∙ sym c.same_part.ensures ∙ c.if-same_part.false) (walked_before _ _ _ _ _ _ _ c.requires at c.before-next.ensures);
      here = c.loop-next.invariant.here;
    }

pub returns : goal.returns
returns c = lowest_end _ _ c.loop-next.first (rw c.in_default.is at c.loop-next.invariant)
