use Rattle.std.proofs.Common.{◌+◌, sym}
use Rattle.amp_core.specs.Amplitude.{numerator, over_root_two, times_root_two}
use Rattle.amp_core.proofs.Amplitudes.{numerator-over_root_two, k-over_root_two, Same-sym}
use Rattle.amp_core.proofs.Reduced.{same_reduced, Same-divided}
use Rattle.amp_core.proofs.laws.a_number_has_one_reduced_amplitude.Goals as goal

pub returns : goal.returns
returns c = record {
  raised = λ x.
      Same-sym x (over_root_two (times_root_two (numerator x)) (x.k + 1))
      (Same-divided x (over_root_two (times_root_two (numerator x)) (x.k + 1)) (sym (numerator-over_root_two (times_root_two (numerator x)) (x.k + 1))) (sym (k-over_root_two (times_root_two (numerator x)) (x.k + 1))));
  unique = same_reduced;
}
