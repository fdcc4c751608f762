-- What the faults of the code stand for; want of memory stands for none.
use Rattle.std.specs.Prelude.{Option, Some, None, option_map}
use Rattle.silq_types.specs.Rules.{Fault, rule, unsupported, over}
use Rattle.check_scope.specs.Walk.{Stop, fault, wanted}
use Rattle.check_scope.specs.declared.fault.CheckFault.{CheckFault}
use Rattle.check_scope.specs.declared.fault.CheckFault.TheVariants as checks
use Rattle.check_scope.specs.declared.fault.ExprFault.{ExprFault}
use Rattle.check_scope.specs.declared.fault.ExprFault.TheVariants as stops

abbrev pub fault_as : CheckFault → Option Fault
fault_as (checks.Broken number at) = Some (rule number at)
fault_as (checks.Unsupported what at) = Some (unsupported what at)
fault_as (checks.Limit kind) = Some (over kind)
fault_as checks.Memory = None

abbrev pub stop_as : ExprFault → Option Stop
stop_as (stops.Fault f) = option_map fault (fault_as f)
stop_as (stops.Wanted k) = Some (wanted k)
