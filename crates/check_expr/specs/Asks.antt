-- What the code asks of arguments.
use Rattle.std.specs.Prelude.{List, [], ◌∷◌, Option, Some, None, map}
use Rattle.silq_types.specs.declared.types.Ty.{Ty}
use Rattle.check_expr.specs.declared.asked.Ask.{Ask}
use Rattle.check_expr.specs.Expression.{Asked}

abbrev pub types_of : Option Ty → List Ty
types_of None = []
types_of (Some t) = t ∷ []

abbrev pub asked_as : Ask → Asked
asked_as a = record { need = a.need; wants = types_of a.want }

abbrev pub all_asked : List Ask → List Asked
all_asked asks = map asked_as asks
