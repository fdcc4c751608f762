-- Programs as trees, in few words.
use Rattle.std.specs.Prelude.{ℕ, Bool, true, false, List, [], ◌∷◌, pos}
use Rattle.silq_tree.specs.declared.node.NameId.{NameId}
use Rattle.silq_tree.specs.declared.node.Spot.{Spot}
use Rattle.silq_tree.specs.declared.node.Mark.TheVariants as marks
use Rattle.silq_tree.specs.declared.node.BinaryOp.{BinaryOp}
use Rattle.silq_tree.specs.Syntax.{Expression, Expressions, number, place, called as call_of, binary, none, more, ScalarType, bit, uint, int, whole, part, Statement, assign, choice as condition, return_value, Block, block, else_block, Statements, done, next, WrittenType, scalar, Parameter, Function}
use Rattle.silq_types.specs.declared.built_in.BuiltIn.{BuiltIn}
use Rattle.silq_types.specs.declared.built_in.BuiltIn.TheVariants.{HGate, XGate, YGate, ZGate, Dup, Measure, Vector}
use Rattle.silq_mean.specs.Effect.{Outcome}
use Rattle.silq_mean.specs.Table.{Job, job}

abbrev pub s : Spot
s = record { line = 1; col = 1 }

abbrev pub main : NameId
main = record { number = 0 }

abbrev pub a : NameId
a = record { number = 1 }

abbrev pub b : NameId
b = record { number = 2 }

abbrev pub c : NameId
c = record { number = 3 }

abbrev pub x : NameId
x = record { number = 4 }

abbrev pub y : NameId
y = record { number = 5 }

abbrev pub n : NameId
n = record { number = 7 }

abbrev pub m : NameId
m = record { number = 8 }

abbrev pub f : NameId
f = record { number = 10 }

abbrev pub g : NameId
g = record { number = 11 }

abbrev pub i : NameId
i = record { number = 12 }

abbrev pub j : NameId
j = record { number = 13 }

abbrev pub h_gate : NameId
h_gate = record { number = 20 }

abbrev pub x_gate : NameId
x_gate = record { number = 21 }

abbrev pub y_gate : NameId
y_gate = record { number = 22 }

abbrev pub z_gate : NameId
z_gate = record { number = 23 }

abbrev pub dup_name : NameId
dup_name = record { number = 24 }

abbrev pub measure_name : NameId
measure_name = record { number = 25 }

abbrev pub vector_name : NameId
vector_name = record { number = 26 }

abbrev pub q : NameId
q = record { number = 30 }

abbrev pub words : List (NameId × BuiltIn)
words = (h_gate, HGate) ∷ (x_gate, XGate) ∷ (y_gate, YGate) ∷ (z_gate, ZGate) ∷ (dup_name, Dup) ∷ (measure_name, Measure) ∷ (vector_name, Vector) ∷ []

abbrev pub v : NameId → Expression
v w = place (whole w) s

abbrev pub item : NameId → Expression → Expression
item w e = place (part w e) s

abbrev pub num : ℕ → Expression
num k = number (pos k) s

abbrev pub one : Expression → Expressions
one e = more e none

abbrev pub two : Expression → Expression → Expressions
two d e = more d (more e none)

abbrev pub bin : BinaryOp → Expression → Expression → Expression
bin op d e = binary op d e s

abbrev pub hd : Expression → Expression
hd e = call_of h_gate none (one e) s

abbrev pub xg : Expression → Expression
xg e = call_of x_gate none (one e) s

abbrev pub yg : Expression → Expression
yg e = call_of y_gate none (one e) s

abbrev pub zg : Expression → Expression
zg e = call_of z_gate none (one e) s

abbrev pub dup : Expression → Expression
dup e = call_of dup_name none (one e) s

abbrev pub measure : Expression → Expression
measure e = call_of measure_name none (one e) s

abbrev pub body : List Statement → Statements
body [] = done
body (st ∷ ss) = next st (body ss)

abbrev pub within : List Statement → Block
within ss = block (body ss) s

abbrev pub let' : NameId → Expression → Statement
let' w e = assign (whole w) e s

abbrev pub when : Expression → List Statement → Statement
when e ss = condition e (within ss) (else_block (within [])) s

abbrev pub back : Expression → Statement
back e = return_value e s

abbrev pub type : ScalarType → WrittenType
type k = scalar false k s

abbrev pub b1 : WrittenType
b1 = type bit

abbrev pub u : ℕ → WrittenType
u k = type (uint (num k))

abbrev pub i2 : WrittenType
i2 = type (int (num 2))

abbrev pub param : NameId → WrittenType → Parameter
param w k = record { held = false; name = w; ty = k; at = s }

abbrev pub const : NameId → WrittenType → Parameter
const w k = record { held = true; name = w; ty = k; at = s }

abbrev pub fun : NameId → List Parameter → List WrittenType → List Statement → Function
fun w ps rs ss = record { name = w; statics = []; params = ps; mark = marks.Plain; results = rs; body = within ss; at = s }

abbrev pub alone : List Parameter → List WrittenType → List Statement → Job
alone ps rs ss = job (record { words = words; funs = fun main ps rs ss ∷ [] }) main []

abbrev pub O : Bool
O = false

abbrev pub I : Bool
I = true

abbrev pub none' : Outcome
none' k = false
