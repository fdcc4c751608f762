-- How code is held against a check: what it answers from one state, and where it stops.
use Rattle.std.specs.Prelude.{◌≡◌, Ok, Err, Result, IfSome}
use Rattle.silq_types.specs.Rules.{Fault}
use Rattle.silq_types.specs.Known.{Signatures}
use Rattle.check_scope.specs.Walk.{with_known}
use Rattle.check_scope.specs.Context.{Check}
use Rattle.check_scope.specs.State.{State, Keeps, context_of}
use Rattle.check_scope.specs.Faults.{fault_as, stop_as}
use Rattle.check_scope.specs.declared.fault.CheckFault.{CheckFault}
use Rattle.check_scope.specs.declared.fault.ExprFault.{ExprFault}

-- from the old state, with these signatures known, the check gives this answer and leaves the new state
pub record Reads {A : Type 0} (met : Signatures) (m : Check A) (old : State) (a : A) (now : State) : Type 0 where
  pub runs : with_known old.depth met (m (context_of old)) old.height ≡ Ok ((a, context_of now), now.height)
  pub keeps : Keeps old now

-- from the old state it meets this fault, or wants this instance, or there is no memory
pub record Stops {A : Type 0} (met : Signatures) (m : Check A) (old : State) (f : ExprFault) (now : State) : Type 0 where
  pub runs : IfSome (stop_as f) (λ stop. with_known old.depth met (m (context_of old)) old.height ≡ Err stop)
  pub keeps : Keeps old now

-- this is the first fault, or there is no memory
abbrev pub IsFirst : {A : Type 0} → CheckFault → Result A Fault → Type 0
IsFirst f r = IfSome (fault_as f) (λ first. r ≡ Err first)
