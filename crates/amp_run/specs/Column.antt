-- What a statement does to a basis state, in one of four forms.
use Rattle.std.specs.Prelude.{ℕ, ◌<◌, Bool, List, []}
use Rattle.sum_laws.specs.Terms.{Branch}
use Rattle.gate_core.specs.Meaning.{turned, flipped, halved}
use Rattle.amp_run.specs.declared.column.Column.{Column}
use Rattle.amp_run.specs.declared.column.Column.TheVariants.{Gone, Turned, Flipped, Halved}

-- the branches at the basis state u
abbrev pub column_branches : Column → List Bool → List Branch
column_branches Gone u = []
column_branches (Turned eighths) u = turned eighths u
column_branches (Flipped q eighths) u = turned eighths (flipped u q)
column_branches (Halved q) u = halved u q

-- the qubit is below n
abbrev pub ColumnFits : ℕ → Column → Type 0
ColumnFits n Gone = Unit {0}
ColumnFits n (Turned eighths) = Unit {0}
ColumnFits n (Flipped q eighths) = q < n
ColumnFits n (Halved q) = q < n
