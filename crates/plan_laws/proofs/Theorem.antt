-- The circuit of a plan gives what the program means: the laws that it rests on, put in.
use Rattle.flat_laws.proofs.EndsWhole.{within_limits_flat}
use Rattle.path_laws.proofs.ParameterLists.{parameters_come_first, parameters_have_their_bits}
use Rattle.path_laws.proofs.PathJoints.{meaning_gives_paths, outcomes_are_counted, terms_fit, honest_gives_zeros}
use Rattle.plan_gates.proofs.Inputs.{inputs_begin_in_order}
use Rattle.plan_gates.proofs.PlanLaws.{plans_fit, gates_give_paths}
use Rattle.plan_laws.specs.Laws.{PlansGiveTheSource}
use Rattle.plan_laws.proofs.Plans.{plans_give_the_source}

pub plans_give : PlansGiveTheSource
plans_give = plans_give_the_source (record {
  within_limits = within_limits_flat;
  meaning_is = meaning_gives_paths;
  outcomes_are = outcomes_are_counted;
  terms_fit = terms_fit;
  first_wires = parameters_come_first;
  parameter_bits = parameters_have_their_bits;
  zeros = honest_gives_zeros;
  in_order = inputs_begin_in_order;
  plans_fit = plans_fit;
  gates_give = gates_give_paths;
})
