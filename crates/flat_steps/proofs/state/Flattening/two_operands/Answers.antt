use Rattle.std.proofs.Common.{◌∷◌, sym, ap, ◌∙◌, subst, List}
use Rattle.flat_form.specs.declared.known.Known.{Known}
use Rattle.flat_form.specs.State.{Flattening, last, drop_last}
use Rattle.flat_form.specs.Good.{Good}
use Rattle.flat_form.specs.Fine.{MayJoin}
use Rattle.flat_steps.specs.contracts.state.Flattening.{the_view}
use Rattle.flat_steps.proofs.Joining.{can_join}
use Rattle.flat_steps.proofs.state.Flattening.two_operands.Goals as goal

pub join-requires : goal.join-requires
join-requires c =
    can_join c.args.op (the_view c.self.inside) c.in-Some-pop.first c.in-Some.second c.in_ok-first.first c.in_ok-second.second c.pop-2.new.self c.pop-2.new.self
    (c.in-Some.ensures.value ∙ ap (λ (ks : List Known). c.in-Some.second ∷ ks) c.in-Some-pop.ensures.value) c.in_ok-first.ensures c.in_ok-second.ensures
    (subst Good (sym c.self.view_is) c.requires.good) (subst (λ (s : Flattening). MayJoin c.args.op (last (drop_last s)) (last s)) (sym c.self.view_is) c.requires.fine)
