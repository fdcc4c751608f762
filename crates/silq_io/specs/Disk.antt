-- The edge to the system: what stands behind it, and its counts.
use Rattle.std.specs.Prelude.{ℕ, List, Option, option_and_then}
use Rattle.silq_io.specs.declared.disk.StdSink.{StdSink}
use Rattle.silq_io.specs.declared.disk.DiskFiles.{DiskFiles}

-- where the bytes go
abbrev pub output_of : {W : Type 0} → StdSink W → W
output_of sink = sink.out

-- how many errors there were
abbrev pub output_faults : {W : Type 0} → StdSink W → ℕ
output_faults sink = sink.faults

-- the file that was begun last
abbrev pub open_file : {R F D : Type 0} → DiskFiles R F D → Option F
open_file files = files.file

-- how many errors there were, and takes before any begin
abbrev pub disk_faults : {R F D : Type 0} → DiskFiles R F D → ℕ
disk_faults files = files.faults

-- what is left of the file that was begun last, by what a file tells
abbrev pub open_left : {R F D : Type 0} → (F → Option (List ℕ)) → DiskFiles R F D → Option (List ℕ)
open_left remaining files = option_and_then remaining files.file
