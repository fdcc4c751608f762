use Rattle.std.proofs.Common.{List, Bool, ℕ, IfOk, ap, ◌∙◌, subst}
use Rattle.amp_core.specs.declared.Amp.{Amp}
use Rattle.sum_laws.specs.Table.{TableOf}
use Rattle.sum_laws.specs.Terms.{pick}
use Rattle.table_write.proofs.Turned.{order_fits, turned, turned_small}
use Rattle.table_write.proofs.outs.by_outs.Goals as goal

pub turned-requires : goal.turned-requires
turned-requires c =
    order_fits c.args.qubits c.args.outs.now c.deref.result.now c.args.table.now
    (c.deref.ensures.value ∙ c.in_ok-order.ensures) c.requires.in_range c.requires.wide

pub merged-requires : goal.merged-requires
merged-requires c = turned_small (pick c.deref.result.now) c.args.table.now c.in_ok-turned.field-0 c.in_ok-turned.ensures c.requires.small

pub returns : goal.returns
returns c =
    subst (λ (ts : List (List Bool × Amp)). IfOk c.merged.result (λ t. TableOf ts t))
    (c.in_ok-turned.ensures ∙ ap (λ (ps : List ℕ). turned (pick ps) c.args.table.now) (c.deref.ensures.value ∙ c.in_ok-order.ensures))
    c.merged.ensures
