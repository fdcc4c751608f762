-- Terms in three lists.
use Rattle.std.specs.Prelude.{Bool, List, ◌++◌}
use Rattle.amp_core.specs.declared.Amp.{Amp}
use Rattle.amp_run.specs.declared.parts.Parts.{Parts}

-- the terms of all three
abbrev pub all_parts : Parts → List (List Bool × Amp)
all_parts parts = parts.kept ++ (parts.raised ++ parts.lowered)
