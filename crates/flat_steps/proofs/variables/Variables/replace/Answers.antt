use Rattle.std.proofs.Common.{◌≡◌, ℕ, nat_eq, Some, false, reverse, sym, ap, ◌∙◌, subst}
use Rattle.silq_mean.specs.Env.{is_in_reach}
use Rattle.indexmap.specs.IndexMap.{get}
use Rattle.flat_form.specs.declared.known.Known.TheVariants.{Absent}
use Rattle.flat_steps.specs.Reach.{number_of, IsPlace}
use Rattle.flat_steps.proofs.Places.{not_found, not_its, found_to, its_to, at_block}
use Rattle.flat_steps.proofs.Numbers.{number_within}
use Rattle.flat_steps.proofs.Told.{number_there, tells_with}
use Rattle.flat_steps.proofs.variables.Variables.replace.Goals as goal

pub returns-in_default-clause-old : goal.returns-in_default-clause-old
returns-in_default-clause-old c =
    let out : is_in_reach c.args.self.now c.args.name ≡ false = ap (λ z. is_in_reach z c.args.name) (sym c.self.view_is ∙ ap reverse (sym c.as_slice.ensures.value)) ∙ c.in_default.ensures.none in
    sym (not_found c.args.self.now c.args.name Absent out)

pub returns-in_default-clause-new : goal.returns-in_default-clause-new
returns-in_default-clause-new c =
    let out : is_in_reach c.args.self.now c.args.name ≡ false = ap (λ z. is_in_reach z c.args.name) (sym c.self.view_is ∙ ap reverse (sym c.as_slice.ensures.value)) ∙ c.in_default.ensures.none in
    sym (not_its c.args.self.now c.args.name c.args.known out)

pub replace-requires : goal.replace-requires
replace-requires c =
    let x = c.args.name in let p = c.in-Some.place in let b = c.index_mut-block.result.now in let bs = c.self.inside.blocks.items in
    let h : IsPlace bs x p = subst (λ z. IsPlace z x p) c.as_slice.ensures.value c.in-Some.ensures.some in
    let n : number_of b x ≡ Some p.number = number_there bs x p b h c.index_mut-block.ensures.value in
    number_within b x p.number n

pub invariant_of-self : goal.invariant_of-self
invariant_of-self c =
    let x = c.args.name in let p = c.in-Some.place in let b = c.index_mut-block.result.now in let bs = c.self.inside.blocks.items in
    let h : IsPlace bs x p = subst (λ z. IsPlace z x p) c.as_slice.ensures.value c.in-Some.ensures.some in
    let n : number_of b x ≡ Some p.number = number_there bs x p b h c.index_mut-block.ensures.value in
    tells_with (λ (k : ℕ). get nat_eq c.self.inside.places k) bs x p c.args.known b c.replace.new.self c.self.invariant h (at_block bs p.block b h.innermost.there c.index_mut-block.ensures.value) (c.replace.ensures.new x n)

pub returns-clause-old : goal.returns-clause-old
returns-clause-old c =
    let x = c.args.name in let p = c.in-Some.place in let b = c.index_mut-block.result.now in let bs = c.self.inside.blocks.items in
    let h : IsPlace bs x p = subst (λ z. IsPlace z x p) c.as_slice.ensures.value c.in-Some.ensures.some in
    let n : number_of b x ≡ Some p.number = number_there bs x p b h c.index_mut-block.ensures.value in
    c.replace.ensures.old x n ∙ sym (found_to bs x p.block Absent b c.args.self.now h.innermost c.index_mut-block.ensures.value c.self.view_is)

pub returns-clause-new : goal.returns-clause-new
returns-clause-new c =
    let x = c.args.name in let p = c.in-Some.place in let b = c.index_mut-block.result.now in let bs = c.self.inside.blocks.items in
    let h : IsPlace bs x p = subst (λ z. IsPlace z x p) c.as_slice.ensures.value c.in-Some.ensures.some in
    let n : number_of b x ≡ Some p.number = number_there bs x p b h c.index_mut-block.ensures.value in
    its_to bs x p.block c.args.known b c.replace.new.self c.args.self.now h.innermost c.index_mut-block.ensures.value (c.replace.ensures.new x n) c.self.view_is
