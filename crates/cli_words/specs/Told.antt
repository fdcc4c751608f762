-- The job of the code as one of the words.
use Rattle.std.specs.Prelude.{◌≤◌, ◌<◌}
use Rattle.cli_words.specs.declared.job.Job.{Job}
use Rattle.cli_words.specs.declared.job.Job.TheVariants as jobs
use Rattle.cli_words.specs.Job as words

abbrev pub told : Job → words.Job
told (jobs.Compile source budget) = words.compile source.file.now source.entry.now source.statics.items budget
told (jobs.Report source budget) = words.report source.file.now source.entry.now source.statics.items budget
told (jobs.Check source) = words.check source.file.now source.entry.now source.statics.items
told (jobs.Mean source bits outcome) = words.mean source.file.now source.entry.now bits.items outcome.items source.statics.items
told (jobs.Amps file bits outcome) = words.amps file.now bits.items outcome.items
told (jobs.Gen number size) = words.gen number size

-- a budget is 1 to 100,000, and a size 1 to 10,000
abbrev pub IsInRange : Job → Type 0
IsInRange (jobs.Compile source budget) = (0 < budget) × (budget ≤ 100000)
IsInRange (jobs.Report source budget) = (0 < budget) × (budget ≤ 100000)
IsInRange (jobs.Gen number size) = (0 < size) × (size ≤ 10000)
IsInRange job = Unit {0}
