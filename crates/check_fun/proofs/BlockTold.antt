-- A step that asks for no instance, as its result tells.
use Rattle.std.specs.Prelude.{◌≡◌, refl, Result, Ok, Err, IfOk, IfErr}
use mathlib.Core.Path.{subst}
use Rattle.silq_types.specs.Known.{Signatures}
use Rattle.silq_types.specs.declared.signature.InstanceKey.{InstanceKey}
use Rattle.check_scope.specs.Context.{Check}
use Rattle.check_fun.specs.Counting.{Runs, Fails}
use Rattle.check_scope.specs.State.{State}
use Rattle.check_scope.specs.Steps.{Reads, Stops}
use Rattle.check_scope.specs.Walk.{Checker, Counts}
use Rattle.check_scope.specs.declared.fault.CheckFault.{CheckFault}
use Rattle.check_scope.specs.declared.fault.ExprFault.{ExprFault}
use Rattle.check_scope.specs.declared.fault.ExprFault.TheVariants as stops
use Rattle.check_fun.proofs.BlockSteps.{Silent, runs_read, fails_read, none_wanted}

pub none_told : {A : Type 0} (m : Check A) (old now : State) (r : Result A ExprFault) (key : InstanceKey) → Silent m → ((met : Signatures) → IfErr r (λ f. Stops met m old f now)) → r ≡ Err (stops.Wanted key) → ⊥
none_told m old now r key q h e = none_wanted m old now (stops.Wanted key) key q refl (λ met. subst (λ x. IfErr x (λ f. Stops met m old f now)) e (h met))

pub runs_told : {A : Type 0} (check : Checker) (m : Check A) (old now : State) (r : Result A ExprFault) (c : Counts) → Silent m → ((met : Signatures) → IfOk r (λ a. Reads met m old a now)) → (t : Result A CheckFault) → IfOk t (λ a. r ≡ Ok a) → IfOk t (λ a. Runs check m old c a now c)
runs_told check m old now r c q h (Ok a) e = runs_read check m old now c a q (λ met. subst (λ x. IfOk x (λ b. Reads met m old b now)) e (h met))
runs_told check m old now r c q h (Err f) e = tt

pub fails_told : {A : Type 0} (check : Checker) (m : Check A) (old now : State) (r : Result A ExprFault) (c : Counts) → Silent m → ((met : Signatures) → IfErr r (λ f. Stops met m old f now)) → (t : Result A CheckFault) → IfErr t (λ f. r ≡ Err (stops.Fault f)) → IfErr t (λ f. Fails check m old c f)
fails_told check m old now r c q h (Ok a) e = tt
fails_told check m old now r c q h (Err f) e = fails_read check m old now c f q (λ met. subst (λ x. IfErr x (λ g. Stops met m old g now)) e (h met))
