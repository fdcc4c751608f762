-- The laws of plans.
use Rattle.std.proofs.Common.{◌≤◌, arith}
use Rattle.move_plan.specs.Progress.{at_start}
use Rattle.move_plan.specs.Live.{live, width, count_wires}
use Rattle.move_plan.proofs.Counts.{width_from-ge}
use Rattle.gate_emit.proofs.Circuits.{gates_are_sound}
use Rattle.qubit_alloc.proofs.Circuit.{circuit_gives_paths, other_qubits_zero}
use Rattle.plan_gates.specs.PlanCircuit.{plan_moves}
use Rattle.plan_gates.specs.Laws.{PlacedMovesActOnBits, PlansFit, GatesGivePaths}
use Rattle.plan_gates.proofs.Acts.{each_acts, moves_act}
use Rattle.plan_gates.proofs.Ends.{ins_differ, ins_below, outs_differ, outs_below}
use Rattle.plan_gates.proofs.Fits.{plan_fits}
use Rattle.plan_gates.proofs.Paths.{gives_paths}

pub act_on_bits : PlacedMovesActOnBits
act_on_bits = record { of_a_move = each_acts; of_moves = moves_act }

pub plans_fit : PlansFit
plans_fit f moves wide ok plan fits =
    let moves_fit = plan_fits f ok wide moves plan fits in
    let least : count_wires f (live f at_start) ≤ width f moves = width_from-ge f at_start moves in
    let room : count_wires f (live f at_start) ≤ wide = omega (arith, least, fits) in
    record {
      moves_fit = moves_fit;
      circuit = gates_are_sound wide f.outcomes (plan_moves f moves) moves_fit;
      ins_differ = ins_differ f ok wide room;
      ins_in_range = ins_below f ok wide room;
      outs_differ = outs_differ f ok wide moves plan fits;
      outs_in_range = outs_below f ok wide moves plan fits;
    }

pub gates_give_paths : GatesGivePaths
gates_give_paths f moves wide input outcome ok given zeroed plan fits = gives_paths circuit_gives_paths other_qubits_zero f moves wide input outcome ok given zeroed plan fits (plan_fits f ok wide moves plan fits)
