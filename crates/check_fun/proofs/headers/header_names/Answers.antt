use Rattle.std.proofs.Common.{◌≡◌, arith, cond, Err, [], is_some, refl}
use mathlib.Core.Path.{sym, ap, ◌∙◌}
use Rattle.silq_types.specs.Rules.{rule}
use Rattle.check_fun.specs.Program.{param_names}
use Rattle.check_fun.proofs.HeaderNames.{header_rest, header_broken, header_twice}
use Rattle.check_fun.proofs.headers.header_names.Goals as goal

pub returns-in-Ok-None-clause-fine : goal.returns-in-Ok-None-clause-fine
returns-in-Ok-None-clause-fine c =
    header_rest c.args.library.now.words c.args.earlier.now c.in-Some.statics _ _ _ _ _ _ c.fun-node.ensures.tree (c.is_some-is_built_in.ensures ∙ ap is_some c.built_in.ensures) c.in-Ok.ensures.new
    (rw c.as_slice.ensures at (rw c.in-Some.is at c.in-Ok-distinct.ensures.distinct)) (rw c.as_slice.ensures at (rw c.in-Some.is at c.in-Ok-distinct.ensures.names)) (rw c.as_slice-2.ensures at c.has_param-is_shared.ensures) c.is_taken.ensures c.if-is_taken.false _ (rw c.as_slice-3.ensures at ((rw c.in-Ok-None.field-0-is at c.in-Ok-None.ensures.one) refl))

pub returns-then-is_taken-clause-fault : goal.returns-then-is_taken-clause-fault
returns-then-is_taken-clause-fault c =
    header_broken c.args.library.now.words c.args.earlier.now c.in-Some.statics _ _ _ _ _ _ c.fun-node.ensures.tree (c.is_some-is_built_in.ensures ∙ ap is_some c.built_in.ensures) c.in-Ok.ensures.new
    (rw c.as_slice.ensures at (rw c.in-Some.is at c.in-Ok-distinct.ensures.distinct)) (rw c.as_slice.ensures at (rw c.in-Some.is at c.in-Ok-distinct.ensures.names)) (rw c.as_slice-2.ensures at c.has_param-is_shared.ensures) c.is_taken.ensures c.if-is_taken.true

pub returns-in-Ok-Some-clause-fault : goal.returns-in-Ok-Some-clause-fault
returns-in-Ok-Some-clause-fault c =
    header_rest c.args.library.now.words c.args.earlier.now c.in-Some.statics _ _ _ _ _ _ c.fun-node.ensures.tree (c.is_some-is_built_in.ensures ∙ ap is_some c.built_in.ensures) c.in-Ok.ensures.new
    (rw c.as_slice.ensures at (rw c.in-Some.is at c.in-Ok-distinct.ensures.distinct)) (rw c.as_slice.ensures at (rw c.in-Some.is at c.in-Ok-distinct.ensures.names)) (rw c.as_slice-2.ensures at c.has_param-is_shared.ensures) c.is_taken.ensures c.if-is_taken.false _ (rw c.as_slice-3.ensures at (rw c.in-Ok-Some.field-0-is at c.in-Ok-Some.ensures.two))
