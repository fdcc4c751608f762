-- Instances, and those whose signatures are known.
use Rattle.std.specs.Ordering.{int_eq}
use Rattle.std.specs.Prelude.{Bool, true, false, ◌&&◌, ◌==◌, if◌then◌else◌, ℤ, List, [], ◌∷◌, Option, Some, None}
use Rattle.silq_types.specs.declared.signature.InstanceKey.{InstanceKey}
use Rattle.silq_types.specs.declared.signature.Signature.{Signature}

abbrev pub all_equal : List ℤ → List ℤ → Bool
all_equal [] [] = true
all_equal (a ∷ rest) (b ∷ bs) = int_eq a b && all_equal rest bs
all_equal _ _ = false

abbrev pub same_key : InstanceKey → InstanceKey → Bool
same_key a b = (a.fun.number == b.fun.number) && all_equal a.statics b.statics

-- the instances that were met and checked, in the order in which their checks ended
abbrev pub Signatures : Type 0
Signatures = List (InstanceKey × Signature)

abbrev pub signature_of : Signatures → InstanceKey → Option Signature
signature_of [] k = None
signature_of (e ∷ es) k = if same_key e.0 k then Some e.1 else signature_of es k
