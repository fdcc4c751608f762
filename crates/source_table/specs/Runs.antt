-- What a run of an entry gives.
use Rattle.std.specs.Prelude.{◌≡◌, Bool, List, map, Result, Ok}
use Rattle.amp_core.specs.declared.Amp.{Amp}
use Rattle.check_scope.specs.Library.{Shelf}
use Rattle.silq_types.specs.declared.types.Shape.{Shape}
use Rattle.silq_mean.specs.Term.{Term}
use Rattle.silq_mean.specs.Effect.{Counts}
use Rattle.silq_mean.specs.Table.{Job, shown}
use Rattle.tree_walk.specs.declared.body.Body.{Body}
use Rattle.tree_walk.specs.Seen.{entry_in}

-- the job of a body as an entry, whose parameters have these shapes
abbrev pub job_in : Shelf → Body → List Shape → Job
job_in l b shapes = record { effect = entry_in l b; shapes = shapes }

abbrev pub no_counts : Counts
no_counts = record { statements = 0; splits = 0 }

-- a run goes to its end, and these rows are what its terms show
abbrev pub Shows : {E : Type 0} → List (List Bool × Amp) → Result (List Term) E → Type 0
Shows rows r = (ts : List Term) × (r ≡ Ok ts) × (rows ≡ map shown ts)
