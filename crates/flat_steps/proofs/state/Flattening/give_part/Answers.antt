use Rattle.std.proofs.Common.{ℕ, sym, ap, ◌∙◌, subst}
use Rattle.silq_mean.specs.Env.{found}
use Rattle.flat_form.specs.declared.known.Known.TheVariants.{Absent}
use Rattle.flat_form.specs.State.{Flattening}
use Rattle.flat_form.specs.Flat.{use_part}
use Rattle.flat_steps.specs.Sizes.{IsSized}
use Rattle.flat_steps.specs.contracts.state.Flattening.{the_view}
use Rattle.flat_steps.proofs.Using.{sized_in, used_is}
use Rattle.flat_steps.proofs.state.Flattening.give_part.Goals as goal

pub used-requires-clause-size : goal.used-requires-clause-size
used-requires-clause-size c =
    let known = c.replace-known.ensures.old ∙ ap (λ (s : Flattening). found Absent s.env c.args.name) c.self.view_is in
    subst IsSized (sym known) (sized_in c.args.self.now c.args.name c.requires.good)

pub returns-clause-ok : goal.returns-clause-ok
returns-clause-ok c =
    let given = c.in_ok-given.ensures.given ∙ ap (λ (n : ℕ). use_part n c.args.need c.args.indices.now c.replace-known.result) c.wires-began.ensures in
    used_is c.args.need c.args.name c.args.indices.now (the_view c.self.inside) c.args.self.now c.replace-known.result c.in_ok-given.field-0.given c.in_ok-given.field-0.left
    c.replace-known.new.self c.replace.new.self c.push.new.self
    c.self.view_is c.replace-known.ensures.old c.replace-known.ensures.new given c.in_ok-given.ensures.left c.replace.ensures.new c.in_ok-push.ensures
