-- Where the faults of a header stand.
use Rattle.std.specs.Prelude.{Option, Some, None}
use Rattle.silq_tree.specs.declared.node.Spot.{Spot}

-- at the given place, or at the type itself
abbrev pub spot_or : Option Spot → Spot → Spot
spot_or None s = s
spot_or (Some at) s = at
