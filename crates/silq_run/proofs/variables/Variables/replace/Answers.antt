use Rattle.std.proofs.Common.{◌≡◌, false, reverse, sym, ap, ◌∙◌, subst}
use Rattle.silq_mean.specs.Env.{is_in_reach}
use Rattle.silq_mean.specs.Value.{gone}
use Rattle.silq_run.specs.Reach.{IsInnermost}
use Rattle.silq_run.proofs.Places.{not_found, not_its, found_to, its_to}
use Rattle.silq_run.proofs.variables.Variables.replace.Goals as goal

pub returns-in_default-clause-old : goal.returns-in_default-clause-old
returns-in_default-clause-old c =
    let out : is_in_reach c.args.self.now c.args.name ≡ false = ap (λ z. is_in_reach z c.args.name) (sym c.self.view_is ∙ ap reverse (sym c.as_slice.ensures.value)) ∙ c.in_default.ensures.none in
    c.gone.ensures ∙ sym (not_found c.args.self.now c.args.name gone out)

pub returns-in_default-clause-new : goal.returns-in_default-clause-new
returns-in_default-clause-new c =
    let out : is_in_reach c.args.self.now c.args.name ≡ false = ap (λ z. is_in_reach z c.args.name) (sym c.self.view_is ∙ ap reverse (sym c.as_slice.ensures.value)) ∙ c.in_default.ensures.none in
    sym (not_its c.args.self.now c.args.name c.args.value out)

pub returns-clause-old : goal.returns-clause-old
returns-clause-old c =
    let x = c.args.name in let i = c.in-Some.i in let b = c.index_mut-block.result.now in let bs = c.self.inside.blocks.items in
    let h : IsInnermost bs x i = subst (λ z. IsInnermost z x i) c.as_slice.ensures.value c.in-Some.ensures.some in
    c.replace.ensures.old ∙ sym (found_to bs x i gone b c.args.self.now h c.index_mut-block.ensures.value c.self.view_is)

pub returns-clause-new : goal.returns-clause-new
returns-clause-new c =
    let x = c.args.name in let i = c.in-Some.i in let b = c.index_mut-block.result.now in let bs = c.self.inside.blocks.items in
    let h : IsInnermost bs x i = subst (λ z. IsInnermost z x i) c.as_slice.ensures.value c.in-Some.ensures.some in
    its_to bs x i c.args.value b c.replace.new.self c.args.self.now h c.index_mut-block.ensures.value c.replace.ensures.new c.self.view_is
