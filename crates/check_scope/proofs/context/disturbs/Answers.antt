use Rattle.std.proofs.Common.{◌<◌, ◌∙◌, sym, length, rules}
use Rattle.check_scope.proofs.NameChains.{left_below}
use Rattle.check_scope.specs.Kept.{variable_names}
use Rattle.check_scope.proofs.VariableWalks.{way_is_of, walked_within, walked_in_names, walked_before, walked_past, walked_end, passes_at, disturbs_here, disturbs_none}
use Rattle.check_scope.proofs.context.disturbs.Goals as goal

pub offset_bounds-vars-i : goal.offset_bounds-vars-i
offset_bounds-vars-i c =
    let at = rw c.in-Some.is at c.loop-next.invariant in
    let l : c.in-Some.i < length c.args.vars.now = walked_within _ _ _ _ _ at in
    search rules

pub bounds-vars-i : goal.bounds-vars-i
bounds-vars-i c =
    let at = rw c.in-Some.is at c.loop-next.invariant in
    walked_within _ _ _ _ _ at

pub returns-then-is_in_the_way : goal.returns-then-is_in_the_way
returns-then-is_in_the_way c =
    let at = rw c.in-Some.is at c.loop-next.invariant in
    sym (disturbs_here _ _ c.in-Some.i (passes_at _ _ c.in-Some.i _ (walked_within _ _ _ _ _ at) ∙ sym c.is_in_the_way.ensures ∙ c.if-is_in_the_way.true))

pub before-next-requires : goal.before-next-requires
before-next-requires c =
    let at = rw c.in-Some.is at c.loop-next.invariant in
    walked_in_names _ _ _ _ _ _ c.requires at

pub loop-next-smaller : goal.loop-next-smaller
loop-next-smaller c =
    let at = rw c.in-Some.is at c.loop-next.invariant in
    rw c.in-Some.is (left_below (variable_names c.args.vars.now) c.args.part.name c.in-Some.i _ (walked_before _ _ _ _ _ _ _ c.requires at c.before-next.ensures))

pub loop-next-preserved : goal.loop-next-preserved
loop-next-preserved c =
    let at = rw c.in-Some.is at c.loop-next.invariant in
    walked_past _ _ _ c.in-Some.i _ _ (way_is_of c.args.part) at (passes_at _ _ c.in-Some.i _ (walked_within _ _ _ _ _ at) ∙ sym c.is_in_the_way.ensures ∙ c.if-is_in_the_way.false) (walked_before _ _ _ _ _ _ _ c.requires at c.before-next.ensures)

pub returns : goal.returns
returns c =
    let end = rw c.in_default.is at c.loop-next.invariant in
    sym (disturbs_none _ _ (walked_end _ _ _ _ (way_is_of c.args.part) end))
