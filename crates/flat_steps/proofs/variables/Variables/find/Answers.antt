use Rattle.std.proofs.Common.{◌≡◌, ℕ, nat_eq, Some, false, reverse, sym, ap, ◌∙◌, subst}
use Rattle.silq_mean.specs.Env.{is_in_reach}
use Rattle.indexmap.specs.IndexMap.{get}
use Rattle.flat_form.specs.declared.known.Known.TheVariants.{Absent}
use Rattle.flat_steps.specs.Reach.{number_of, IsPlace}
use Rattle.flat_steps.proofs.Places.{not_found, found_to}
use Rattle.flat_steps.proofs.Numbers.{number_within}
use Rattle.flat_steps.proofs.Told.{number_there}
use Rattle.flat_steps.proofs.variables.Variables.find.Goals as goal

pub returns-in_err-place-clause-none : goal.returns-in_err-place-clause-none
returns-in_err-place-clause-none c =
    let out : is_in_reach c.args.self.now c.args.name ≡ false = ap (λ z. is_in_reach z c.args.name) (sym c.self.view_is ∙ ap reverse (sym c.as_slice.ensures.value)) ∙ c.in_err-place.ensures.none in
    rw c.from_residual.ensures (not_found c.args.self.now c.args.name Absent out)

pub get-requires : goal.get-requires
get-requires c =
    let x = c.args.name in let p = c.in_ok-place.place in let b = c.index-block.result.now in let bs = c.self.inside.blocks.items in
    let h : IsPlace bs x p = subst (λ z. IsPlace z x p) c.as_slice.ensures.value c.in_ok-place.ensures.some in
    let n : number_of b x ≡ Some p.number = number_there bs x p b h c.index-block.ensures in
    number_within b x p.number n

pub returns-clause-some : goal.returns-clause-some
returns-clause-some c =
    let x = c.args.name in let p = c.in_ok-place.place in let b = c.index-block.result.now in let bs = c.self.inside.blocks.items in
    let h : IsPlace bs x p = subst (λ z. IsPlace z x p) c.as_slice.ensures.value c.in_ok-place.ensures.some in
    let n : number_of b x ≡ Some p.number = number_there bs x p b h c.index-block.ensures in
    c.get.ensures x n ∙ sym (found_to bs x p.block Absent b c.args.self.now h.innermost c.index-block.ensures c.self.view_is)
