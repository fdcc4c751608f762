use Rattle.gate_core.proofs.Runs.{run-append, meaning-append}
use Rattle.gate_core.proofs.laws.joined_circuits_run_in_turn.Goals as goal

pub returns : goal.returns
returns c = record { of_runs = run-append; of_meanings = meaning-append }
