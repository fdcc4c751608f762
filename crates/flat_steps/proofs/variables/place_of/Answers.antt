use Rattle.std.proofs.Common.{ℕ, nat_eq, sym}
use Rattle.indexmap.specs.IndexMap.{get}
use Rattle.flat_steps.proofs.Told.{not_told, told_no_more, told_place}
use Rattle.flat_steps.proofs.variables.place_of.Goals as goal

pub returns-in_err-place-clause-none : goal.returns-in_err-place-clause-none
returns-in_err-place-clause-none c = rw c.from_residual.ensures (not_told (λ (n : ℕ). get nat_eq c.args.places.now n) c.args.blocks.now c.args.name c.requires (sym c.in_err-place.ensures.value))

pub returns-then-not-is_there-clause-none : goal.returns-then-not-is_there-clause-none
returns-then-not-is_there-clause-none c =
    told_no_more (λ (n : ℕ). get nat_eq c.args.places.now n) c.args.blocks.now c.args.name c.in_ok-place.field-0.now c.requires (sym c.in_ok-place.ensures.value) (sym c.if-not-is_there.ensures)

pub returns-clause-some : goal.returns-clause-some
returns-clause-some c =
    told_place (λ (n : ℕ). get nat_eq c.args.places.now n) c.args.blocks.now c.args.name c.in_ok-place.field-0.now c.requires (sym c.in_ok-place.ensures.value) (sym c.if-not-is_there.ensures)
