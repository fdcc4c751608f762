use Rattle.gate_core.proofs.Embedded.{run_wide, meaning_wide}
use Rattle.gate_core.proofs.laws.runs_keep_width.Goals as goal

pub returns : goal.returns
returns c = record { of_runs = run_wide; of_meanings = meaning_wide }
