use Rattle.std.proofs.Common.{rules, ◌≡◌, ◌∙◌, refl, sym, ap, eq-eqb}
use Rattle.std.proofs.lemmas.Bool.{ne_eqb}
use Rattle.silq_types.specs.Types.{same_name}
use Rattle.silq_tree.specs.Syntax.{Function}
use Rattle.check_fun.specs.Statement.{any_name}
use Rattle.check_fun.proofs.BlockLoops.{named_more, named_found, named_none}
use Rattle.check_fun.proofs.block.has_static.Goals as goal

pub loop-param-preserved : goal.loop-param-preserved
loop-param-preserved c = named_more (λ y. same_name y c.args.name) c.as_slice-param-items.result.now _ (record { number = 0 }) c.loop-param-test.true (ne_eqb _ _ c.if-param-name.false) c.loop-param.invariant

pub returns : goal.returns
returns c = named_none (λ y. same_name y c.args.name) c.as_slice-param-items.result.now _ c.loop-param-test.false c.loop-param.invariant ∙ ap (any_name (λ y. same_name y c.args.name)) (c.as_slice-param-items.ensures ∙ sym (ap (λ (f : Function). f.statics) c.fun.ensures.tree))

pub returns-then-param-name : goal.returns-then-param-name
returns-then-param-name c = named_found (λ y. same_name y c.args.name) c.as_slice-param-items.result.now _ (record { number = 0 }) c.loop-param-test.true (eq-eqb _ _ c.if-param-name.true) c.loop-param.invariant ∙ ap (any_name (λ y. same_name y c.args.name)) (c.as_slice-param-items.ensures ∙ sym (ap (λ (f : Function). f.statics) c.fun.ensures.tree))
