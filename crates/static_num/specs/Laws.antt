-- Laws of angles.
use Rattle.std.specs.Prelude.{ℤ, List, IfOk}
use Rattle.silq_tree.specs.declared.node.NameId.{NameId}
use Rattle.silq_tree.specs.Syntax.{Expression}
use Rattle.static_num.specs.Angle.{IsLowest, fraction}

-- the fraction of pi that an angle is has lowest terms and a denominator above 0
abbrev pub FractionsAreLowest : Type 0
FractionsAreLowest = (statics : List (NameId × ℤ)) (e : Expression) → IfOk (fraction statics e) IsLowest
