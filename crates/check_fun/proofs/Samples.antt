-- What the definition answers on small programs, by computing.
use Rattle.std.specs.Prelude.{◌≡◌, refl, ℕ, zero, suc, ◌+◌, Bool, true, false, List, [], ◌∷◌, ◌++◌, Some, None, Result, Ok, Err, pos}
use Rattle.silq_tree.specs.declared.node.NameId.{NameId}
use Rattle.silq_tree.specs.declared.node.Spot.{Spot}
use Rattle.silq_tree.specs.declared.node.Mark.{Mark}
use Rattle.silq_tree.specs.declared.node.Mark.TheVariants as marks
use Rattle.silq_tree.specs.declared.node.BinaryOp.TheVariants.{And, Add, Eq, Div}
use Rattle.silq_tree.specs.Syntax.{Expression, Expressions, number, typed_number, pi, place, called, binary, none, more, bit, uint, whole, part, Statement, Statements, assign, phase, choice, loop, return_nothing, return_value, call, block, else_block, done, next, WrittenType, scalar, Parameter, Function}
use Rattle.static_num.specs.Static.{is_static, value, in_range}
use Rattle.static_num.specs.Angle.{is_turn, fraction, divisor}
use Rattle.silq_types.specs.Rules.{Fault, rule, unsupported, over, and_then}
use Rattle.check_fun.specs.Program.{Accepted, check}
use Rattle.silq_types.specs.Programs.{Program}
use Rattle.silq_io.specs.declared.fault.What.TheVariants.{Angle}
use Rattle.silq_io.specs.declared.limit.LimitKind.TheVariants.{Walked, Instances, Depth}
use Rattle.silq_types.specs.declared.types.Ty.{Ty}
use Rattle.silq_types.specs.declared.types.Shape.TheVariants.{Bit, UInt}
use Rattle.check_scope.specs.Walk.{Met, limited, new, met_as, Counts, with_counts, counted}
use Rattle.check_scope.specs.Walk as walk
use Rattle.check_scope.specs.Context.{◌>>=◌, ◌>>◌, rules}
use Rattle.silq_types.specs.declared.built_in.BuiltIn.{BuiltIn}
use Rattle.silq_types.specs.declared.built_in.BuiltIn.TheVariants.{HGate, XGate, Dup, Measure}

-- ---- short spellings

abbrev spot : ℕ → ℕ → Spot
spot l c = record { line = l; col = c }

abbrev main : NameId
main = record { number = 0 }

abbrev x : NameId
x = record { number = 1 }

abbrev y : NameId
y = record { number = 2 }

abbrev n : NameId
n = record { number = 3 }

abbrev a : NameId
a = record { number = 4 }

abbrev b : NameId
b = record { number = 5 }

abbrev t : NameId
t = record { number = 6 }

abbrev f : NameId
f = record { number = 7 }

abbrev g : NameId
g = record { number = 8 }

abbrev k : NameId
k = record { number = 9 }

abbrev i : NameId
i = record { number = 14 }

abbrev j : NameId
j = record { number = 15 }

abbrev h' : NameId
h' = record { number = 20 }

abbrev x' : NameId
x' = record { number = 21 }

abbrev dup' : NameId
dup' = record { number = 22 }

abbrev measure' : NameId
measure' = record { number = 23 }

abbrev id : ℕ → NameId
id k = record { number = k }

abbrev words : List (NameId × BuiltIn)
words = (h', HGate) ∷ (x', XGate) ∷ (dup', Dup) ∷ (measure', Measure) ∷ []

abbrev named : NameId → Spot → Expression
named m s = place (whole m) s

abbrev one : Expression → Expressions
one e = more e none

abbrev two : Expression → Expression → Expressions
two e d = more e (more d none)

abbrev apply : NameId → Expression → Spot → Expression
apply m e s = called m none (one e) s

abbrev body : List Statement → Statements
body [] = done
body (s ∷ ss) = next s (body ss)

abbrev B : Spot → WrittenType
B s = scalar false bit s

abbrev param : NameId → Spot → Parameter
param m s = record { held = false; name = m; ty = B s; at = s }

abbrev const : NameId → Spot → Parameter
const m s = record { held = true; name = m; ty = B s; at = s }

abbrev fun : NameId → List Parameter → List WrittenType → List Statement → Spot → Spot → Function
fun m ps rs ss e s = record { name = m; statics = []; params = ps; mark = marks.Plain; results = rs; body = block (body ss) e; at = s }

abbrev alone : Function → Program
alone m = record { words = words; funs = m ∷ [] }

abbrev answer : Function → Result Accepted Fault
answer m = check (alone m) main []

abbrev s0 : Spot
s0 = spot 1 1

-- an empty file
row_2 : check (record { words = words; funs = [] }) main [] ≡ Err (rule 1 (spot 1 1))
unfolding ◌>>=◌ ◌>>◌ rules is_static value in_range is_turn fraction divisor
row_2 = refl

-- def main() { phase(pi/8); }
row_5 : answer (fun main [] [] (phase (binary Div (pi (spot 1 20)) (number (pos 8) (spot 1 23)) (spot 1 20)) (spot 1 14) ∷ []) (spot 1 27) s0) ≡ Err (unsupported Angle (spot 1 20))
unfolding ◌>>=◌ ◌>>◌ rules is_static value in_range is_turn fraction divisor
row_5 = refl

-- def main() { y := H(0:B); }
row_6 : answer (fun main [] [] (assign (whole y) (apply h' (typed_number (pos 0) bit (spot 1 21)) (spot 1 19)) (spot 1 14) ∷ []) (spot 1 27) s0) ≡ Err (rule 11 (spot 1 27))
unfolding ◌>>=◌ ◌>>◌ rules is_static value in_range is_turn fraction divisor
row_6 = refl

-- def main(x:B):B { y := x; return x; }
row_22_a : answer (fun main (param x s0 ∷ []) (B s0 ∷ []) (assign (whole y) (named x (spot 1 24)) (spot 1 19) ∷ return_value (named x (spot 1 34)) (spot 1 27) ∷ []) (spot 1 37) s0) ≡ Err (rule 4 (spot 1 34))
unfolding ◌>>=◌ ◌>>◌ rules is_static value in_range is_turn fraction divisor
row_22_a = refl

-- def main(x:B):B { if x { x := X(x); } return x; }
row_22_b : answer (fun main (param x s0 ∷ []) (B s0 ∷ []) (choice (named x (spot 1 22)) (block (body (assign (whole x) (apply x' (named x (spot 1 33)) (spot 1 31)) (spot 1 26) ∷ [])) (spot 1 37)) (else_block (block done (spot 1 37))) (spot 1 19) ∷ return_value (named x (spot 1 46)) (spot 1 39) ∷ []) (spot 1 49) s0) ≡ Err (rule 9 (spot 1 33))
unfolding ◌>>=◌ ◌>>◌ rules is_static value in_range is_turn fraction divisor
row_22_b = refl

-- def main(const b:B):B { a := dup(b); t := a && X(a); return t; }
row_22_d : answer (fun main (const b s0 ∷ []) (B s0 ∷ []) (assign (whole a) (apply dup' (named b (spot 1 34)) (spot 1 30)) (spot 1 25) ∷ assign (whole t) (binary And (named a (spot 1 43)) (apply x' (named a (spot 1 50)) (spot 1 48)) (spot 1 43)) (spot 1 38) ∷ return_value (named t (spot 1 61)) (spot 1 54) ∷ []) (spot 1 64) s0) ≡ Err (rule 23 (spot 1 43))
unfolding ◌>>=◌ ◌>>◌ rules is_static value in_range is_turn fraction divisor
row_22_d = refl

-- ---- calls, loops, limits

abbrev answered : {A E : Type 0} → Result A E → Bool
answered (Ok r) = true
answered (Err e) = false

abbrev s1 : Spot
s1 = spot 9 9

abbrev static_fun : NameId → List NameId → List Parameter → Mark → List WrittenType → List Statement → Spot → Function
static_fun m ns ps mk rs ss s = record { name = m; statics = ns; params = ps; mark = mk; results = rs; body = block (body ss) s1; at = s }

abbrev uint_of : Expression → WrittenType
uint_of e = scalar false (uint e) s1

abbrev param_of : NameId → WrittenType → Parameter
param_of m ty = record { held = false; name = m; ty = ty; at = s1 }

abbrev const_of : NameId → WrittenType → Parameter
const_of m ty = record { held = true; name = m; ty = ty; at = s1 }

abbrev nm : NameId → Expression
nm m = named m s1

abbrev num : ℕ → Expression
num z = number (pos z) s1

abbrev to : NameId → Expression → Statement
to m e = assign (whole m) e s1

abbrev back : Expression → Statement
back e = return_value e s1

abbrev good : Function
good = static_fun (id 30) (n ∷ []) (const_of x (uint_of (nm n)) ∷ []) marks.Lifted (B s1 ∷ []) (back (binary Eq (binary Add (nm x) (num 3) s1) (num 12) s1) ∷ []) (spot 1 1)

abbrev spread_fun : Function
spread_fun =
    static_fun (id 31) (n ∷ []) (param_of x (uint_of (nm n)) ∷ []) marks.Mfree (uint_of (nm n) ∷ [])
    (loop i (num 0) (nm n) (block (body (assign (part x (nm i)) (apply h' (place (part x (nm i)) s1) s1) s1 ∷ [])) s1) s1 ∷ back (nm x) ∷ []) (spot 2 1)

abbrev grover : Function
grover =
    static_fun (id 32) (n ∷ k ∷ []) [] marks.Plain (scalar true (uint (nm n)) s1 ∷ [])
    (to x (typed_number (pos 0) (uint (nm n)) s1)
    ∷ to x (called (id 31) (one (nm n)) (one (nm x)) s1)
    ∷ loop j (num 0) (nm k)
    (block (body
    (choice (called (id 30) (one (nm n)) (one (nm x)) s1) (block (body (phase (pi s1) s1 ∷ [])) s1) (else_block (block done s1)) s1
    ∷ to x (called (id 31) (one (nm n)) (one (nm x)) s1)
    ∷ choice (binary Eq (nm x) (num 0) s1) (block (body (phase (pi s1) s1 ∷ [])) s1) (else_block (block done s1)) s1
    ∷ to x (called (id 31) (one (nm n)) (one (nm x)) s1) ∷ [])) s1) s1
    ∷ back (apply measure' (nm x) s1) ∷ []) (spot 6 1)

abbrev grover_program : Program
grover_program = record { words = words; funs = good ∷ spread_fun ∷ grover ∷ [] }

-- one static is missing
row_18_one_static : check grover_program (id 32) (pos 4 ∷ []) ≡ Err (rule 21 (spot 6 1))
unfolding ◌>>=◌ ◌>>◌ rules is_static value in_range is_turn fraction divisor
row_18_one_static = refl

abbrev uints : ℕ → Ty
uints w = record { classical = false; shape = UInt w }

abbrev bits : Ty
bits = record { classical = false; shape = Bit }

-- the two functions are met once loop, and the result of `spread` has its parameter's place
row_18 : check grover_program (id 32) (pos 4 ∷ pos 2 ∷ []) ≡ Ok (record {
  entry = record { params = []; results = record { ty = record { classical = true; shape = UInt 4 }; from = None } ∷ []; mark = marks.Plain; height = 2 };
  met = (record { fun = record { number = 1 }; statics = pos 4 ∷ [] }, record { params = record { ty = uints 4; held = false } ∷ []; results = record { ty = uints 4; from = Some 0 } ∷ []; mark = marks.Mfree; height = 1 })
      ∷ (record { fun = record { number = 0 }; statics = pos 4 ∷ [] }, record { params = record { ty = uints 4; held = true } ∷ []; results = record { ty = bits; from = None } ∷ []; mark = marks.Lifted; height = 1 })
      ∷ (record { fun = record { number = 2 }; statics = pos 4 ∷ pos 2 ∷ [] }, record { params = []; results = record { ty = record { classical = true; shape = UInt 4 }; from = None } ∷ []; mark = marks.Plain; height = 2 })
      ∷ [];
})
unfolding ◌>>=◌ ◌>>◌ rules is_static value in_range is_turn fraction divisor
row_18 = refl

-- a chain of functions, loop calling the one before it
abbrev chain : ℕ → List Function
chain zero = fun (id 100) [] [] (return_nothing s1 ∷ []) s1 s1 ∷ []
chain (suc m) = chain m ++ (fun (id (101 + m)) [] [] (call (called (id (100 + m)) none none s1) s1 ∷ []) s1 s1 ∷ [])

chain_64 : answered (check (record { words = words; funs = chain 63 }) (id 163) []) ≡ true
unfolding ◌>>=◌ ◌>>◌ rules is_static value in_range is_turn fraction divisor
chain_64 = refl

chain_65 : check (record { words = words; funs = chain 64 }) (id 164) [] ≡ Err (over Depth)
unfolding ◌>>=◌ ◌>>◌ rules is_static value in_range is_turn fraction divisor
chain_65 = refl

-- def f[n:!N]() { return; } def main() { for i in [0..m) { f[i](); } }
abbrev many_instances : ℕ → Program
many_instances m = record { words = words; funs = static_fun f (n ∷ []) [] marks.Plain [] (return_nothing s1 ∷ []) s1 ∷ static_fun main [] [] marks.Plain [] (loop i (num 0) (num m) (block (body (call (called f (one (nm i)) none s1) s1 ∷ [])) s1) s1 ∷ []) s1 ∷ [] }

instances_40 : answered (check (many_instances 40) main []) ≡ true
unfolding ◌>>=◌ ◌>>◌ rules is_static value in_range is_turn fraction divisor
instances_40 = refl

-- at the limits: with one open instance and 4,094 or 4,095 checked ones, and at the last statement and the one after it
last_instance : met_as 1 4094 None ≡ new
last_instance = refl

over_instances : met_as 1 4095 None ≡ limited Instances
over_instances = refl

walks : ℕ → Result Counts Fault
walks n = and_then (with_counts (λ d k c. Err (over Depth)) 1 (counted (walk.answer true)) (record { walked = n; met = [] }) 0) (λ r. Ok r.1)

last_statement : walks 999999 ≡ Ok (record { walked = 1000000; met = [] })
unfolding walks
last_statement = refl

over_statements : walks 1000000 ≡ Err (over Walked)
unfolding walks
over_statements = refl
