use Rattle.std.proofs.Common.{◌≡◌, ℕ, nat_eq, Some, sym, ap, ◌∙◌, subst}
use Rattle.indexmap.specs.IndexMap.{get}
use Rattle.flat_steps.specs.Reach.{number_of, IsPlace}
use Rattle.flat_steps.proofs.Places.{bound_to, at_block}
use Rattle.flat_steps.proofs.Numbers.{number_within}
use Rattle.flat_steps.proofs.Told.{number_there, tells_with}
use Rattle.flat_steps.proofs.variables.Variables.bind.Goals as goal

pub replace-requires : goal.replace-requires
replace-requires c =
    let x = c.args.name in let p = c.in-Some.place in let b = c.index_mut-block.result.now in let bs = c.self.inside.blocks.items in
    let h : IsPlace bs x p = subst (λ z. IsPlace z x p) c.as_slice.ensures.value c.in-Some.ensures.some in
    let n : number_of b x ≡ Some p.number = number_there bs x p b h c.index_mut-block.ensures.value in
    number_within b x p.number n

pub invariant_of-self : goal.invariant_of-self
invariant_of-self c =
    let x = c.args.name in let p = c.in-Some.place in let b = c.index_mut-block.result.now in let bs = c.self.inside.blocks.items in
    let h : IsPlace bs x p = subst (λ z. IsPlace z x p) c.as_slice.ensures.value c.in-Some.ensures.some in
    let n : number_of b x ≡ Some p.number = number_there bs x p b h c.index_mut-block.ensures.value in
    tells_with (λ (k : ℕ). get nat_eq c.self.inside.places k) bs x p c.args.known b c.replace.new.self c.self.invariant h (at_block bs p.block b h.innermost.there c.index_mut-block.ensures.value) (c.replace.ensures.new x n)

pub returns : goal.returns
returns c =
    let x = c.args.name in let p = c.in-Some.place in let b = c.index_mut-block.result.now in let bs = c.self.inside.blocks.items in
    let h : IsPlace bs x p = subst (λ z. IsPlace z x p) c.as_slice.ensures.value c.in-Some.ensures.some in
    let n : number_of b x ≡ Some p.number = number_there bs x p b h c.index_mut-block.ensures.value in
    bound_to bs x p.block c.args.known b c.replace.new.self c.args.self.now h.innermost c.index_mut-block.ensures.value (c.replace.ensures.new x n) c.self.view_is
