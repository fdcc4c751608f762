use Rattle.std.proofs.Common.{◌≡◌, subst}
use Rattle.flat_compile.specs.Places.{ArePlacesOf}
use Rattle.flat_compile.proofs.entry.cycle_fault.Goals as goal

pub returns-in-Ok-clause-cycle : goal.returns-in-Ok-clause-cycle
returns-in-Ok-clause-cycle c = λ places is.
    let same : c.in-Ok.places ≡ places = cc in
    record { vertices = c.args.vertices.now; given = c.requires.given; cycle = c.requires.cycle; told = subst (ArePlacesOf c.args.flat.now c.args.vertices.now) same c.in-Ok.ensures }
