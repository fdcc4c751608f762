-- The places that the first vertices tell.
use Rattle.reqomp.specs.Growing.{ArePlaces}
use Rattle.reqomp.proofs.places.Places.new.Given as goal

abbrev pub invariant-loop-i : goal.invariant-loop-i
invariant-loop-i l = ArePlaces l.flat l.circuit l.i l.places
