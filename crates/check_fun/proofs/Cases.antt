-- A program for each rule, and accepted programs: what the definition answers, by computing.
use Rattle.std.specs.Prelude.{◌≡◌, refl, ℕ, pos, true, false, List, [], ◌∷◌, Result, Ok, Err}
use Rattle.silq_tree.specs.declared.node.NameId.{NameId}
use Rattle.silq_tree.specs.declared.node.Spot.{Spot}
use Rattle.silq_tree.specs.declared.node.Mark.{Mark}
use Rattle.silq_tree.specs.declared.node.Mark.TheVariants as marks
use Rattle.silq_tree.specs.declared.node.UnaryOp.TheVariants.{Not}
use Rattle.silq_tree.specs.declared.node.BinaryOp.TheVariants.{And, Add, Eq}
use Rattle.silq_tree.specs.declared.node.UpdateOp.TheVariants as updates
use Rattle.silq_tree.specs.Syntax.{Expression, number, typed_number, pi, place, called, tuple, unary, binary, none, more, bit, uint, whole, part, Statement, Statements, Block, assign, spread, update, forget, forget_value, phase, choice, loop, return_value, call, block, else_block, done, next, WrittenType, scalar, array, Parameter, Function}
use Rattle.static_num.specs.Static.{is_static, value, in_range}
use Rattle.static_num.specs.Angle.{is_turn, fraction, divisor}
use Rattle.silq_types.specs.Rules.{Fault, rule, unsupported, over}
use Rattle.check_fun.specs.Program.{Accepted, check}
use Rattle.check_scope.specs.Context.{◌>>=◌, ◌>>◌, rules}
use Rattle.silq_types.specs.declared.built_in.BuiltIn.{BuiltIn}
use Rattle.silq_types.specs.declared.built_in.BuiltIn.TheVariants.{HGate, XGate, ZGate, YGate, Dup, Measure, Vector, RotateX}

abbrev at0 : Spot
at0 = record { line = 1; col = 1 }

abbrev main : NameId
main = record { number = 0 }

abbrev a : NameId
a = record { number = 1 }

abbrev b : NameId
b = record { number = 2 }

abbrev c : NameId
c = record { number = 3 }

abbrev x : NameId
x = record { number = 4 }

abbrev y : NameId
y = record { number = 5 }

abbrev z : NameId
z = record { number = 6 }

abbrev n : NameId
n = record { number = 7 }

abbrev m : NameId
m = record { number = 8 }

abbrev i : NameId
i = record { number = 9 }

abbrev f : NameId
f = record { number = 10 }

abbrev g : NameId
g = record { number = 11 }

abbrev s : NameId
s = record { number = 12 }

abbrev named : ℕ → NameId
named k = record { number = k }

abbrev words : List (NameId × BuiltIn)
words =
    (named 20, HGate) ∷ (named 21, XGate) ∷ (named 22, YGate) ∷ (named 23, ZGate) ∷ (named 24, Dup) ∷ (named 25, Measure)
    ∷ (named 26, Vector) ∷ (named 27, RotateX) ∷ []

abbrev v : NameId → Expression
v w = place (whole w) at0

abbrev element : NameId → Expression → Expression
element w e = place (part w e) at0

abbrev num : ℕ → Expression
num k = number (pos k) at0

abbrev app : NameId → Expression → Expression
app w e = called w none (more e none) at0

abbrev app2 : NameId → Expression → Expression → Expression
app2 w e d = called w none (more e (more d none)) at0

abbrev H : Expression → Expression
H = app (named 20)

abbrev X : Expression → Expression
X = app (named 21)

abbrev Z : Expression → Expression
Z = app (named 23)

abbrev dup : Expression → Expression
dup = app (named 24)

abbrev measure : Expression → Expression
measure = app (named 25)

abbrev zero_bit : Expression
zero_bit = typed_number (pos 0) bit at0

abbrev infix_and : Expression → Expression → Expression
infix_and e d = binary And e d at0

abbrev stmts : List Statement → Statements
stmts [] = done
stmts (t ∷ ts) = next t (stmts ts)

abbrev blk : List Statement → Block
blk ts = block (stmts ts) at0

abbrev to : NameId → Expression → Statement
to w e = assign (whole w) e at0

abbrev to_part : NameId → Expression → Expression → Statement
to_part w j e = assign (part w j) e at0

abbrev if_ : Expression → List Statement → Statement
if_ e ts = choice e (blk ts) (else_block (blk [])) at0

abbrev back : Expression → Statement
back e = return_value e at0

abbrev flip : NameId → Expression → Statement
flip w e = update (whole w) updates.Xor e at0

abbrev B : WrittenType
B = scalar false bit at0

abbrev !B : WrittenType
!B = scalar true bit at0

abbrev uints : ℕ → WrittenType
uints w = scalar false (uint (num w)) at0

abbrev bits : ℕ → WrittenType
bits w = array false bit (num w) at0

abbrev par : NameId → WrittenType → Parameter
par w t = record { held = false; name = w; ty = t; at = at0 }

abbrev const : NameId → WrittenType → Parameter
const w t = record { held = true; name = w; ty = t; at = at0 }

abbrev def : NameId → Mark → List Parameter → List WrittenType → List Statement → Function
def w k ps rs ts = record { name = w; statics = []; params = ps; mark = k; results = rs; body = blk ts; at = at0 }

-- 0 where the program is accepted, the rule's number, or 100 for an unsupported item and 200 for a limit
abbrev verdict : Result Accepted Fault → ℕ
verdict (Ok r) = 0
verdict (Err (rule k p)) = k
verdict (Err (unsupported w p)) = 100
verdict (Err (over l)) = 200

abbrev says : List Function → ℕ
says funs = verdict (check (record { words = words; funs = funs }) main [])

abbrev says_of : List Parameter → List WrittenType → List Statement → ℕ
says_of ps rs ts = says (def main marks.Plain ps rs ts ∷ [])

-- ---- accepted

-- def main(const a:B, const b:B, const c:B, x:B):B { z := a && b && c; if z { x := X(x); } return x; }
a_condition : says_of (const a B ∷ const b B ∷ const c B ∷ par x B ∷ []) (B ∷ []) (to z (infix_and (infix_and (v a) (v b)) (v c)) ∷ if_ (v z) (to x (X (v x)) ∷ []) ∷ back (v x) ∷ []) ≡ 0
unfolding ◌>>=◌ ◌>>◌ rules is_static value in_range is_turn fraction divisor
a_condition = refl

-- teleportation
teleport : says_of (par s B ∷ []) (B ∷ []) (to a (H zero_bit) ∷ to b (dup (v a)) ∷ if_ (v s) (to a (X (v a)) ∷ []) ∷ to s (H (v s)) ∷ to m (measure (v s)) ∷ to n (measure (v a)) ∷ if_ (v n) (to b (X (v b)) ∷ []) ∷ if_ (v m) (to b (Z (v b)) ∷ []) ∷ back (v b) ∷ []) ≡ 0
unfolding ◌>>=◌ ◌>>◌ rules is_static value in_range is_turn fraction divisor
teleport = refl

-- def main(x:uint[2], const y:uint[2]):uint[2] { z := x + y; x += y; forget(z = x); return x; }
forget_sum : says_of (par x (uints 2) ∷ const y (uints 2) ∷ []) (uints 2 ∷ []) (to z (binary Add (v x) (v y) at0) ∷ update (whole x) updates.Add (v y) at0 ∷ forget_value z (v x) at0 ∷ back (v x) ∷ []) ≡ 0
unfolding ◌>>=◌ ◌>>◌ rules is_static value in_range is_turn fraction divisor
forget_sum = refl

-- def main(y:B) { forget(y = 0:B); }
forget_zero : says_of (par y B ∷ []) [] (forget_value y zero_bit at0 ∷ []) ≡ 0
unfolding ◌>>=◌ ◌>>◌ rules is_static value in_range is_turn fraction divisor
forget_zero = refl

-- two values change places: def main(x:B, y:B):B×B { (x, y) := (y, x); return (x, y); }
exchange : says_of (par x B ∷ par y B ∷ []) (B ∷ B ∷ []) (spread (x ∷ y ∷ []) (tuple (more (v y) (more (v x) none)) at0) at0 ∷ back (tuple (more (v x) (more (v y) none)) at0) ∷ []) ≡ 0
unfolding ◌>>=◌ ◌>>◌ rules is_static value in_range is_turn fraction divisor
exchange = refl

-- a element of the condition's variable that the condition does not name: if x[0] { x[1] := X(x[1]); }
other_part : says_of (par x (bits 2) ∷ []) (bits 2 ∷ []) (if_ (element x (num 0)) (to_part x (num 1) (X (element x (num 1))) ∷ []) ∷ back (v x) ∷ []) ≡ 0
unfolding ◌>>=◌ ◌>>◌ rules is_static value in_range is_turn fraction divisor
other_part = refl

-- a loop without statements counts nothing, whatever its bounds
long_loop : says_of [] [] (loop i (num 5) (num 5) (blk []) at0 ∷ []) ≡ 0
unfolding ◌>>=◌ ◌>>◌ rules is_static value in_range is_turn fraction divisor
long_loop = refl

-- ---- one program for loop rule

unknown : says_of [] [] (to y (H (v x)) ∷ []) ≡ 1
unfolding ◌>>=◌ ◌>>◌ rules is_static value in_range is_turn fraction divisor
unknown = refl

not_defined : says_of [] [] (to y (app f zero_bit) ∷ []) ≡ 2
unfolding ◌>>=◌ ◌>>◌ rules is_static value in_range is_turn fraction divisor
not_defined = refl

not_earlier : says (def main marks.Plain [] [] (call (called f none none at0) at0 ∷ []) ∷ def f marks.Plain [] [] [] ∷ []) ≡ 2
unfolding ◌>>=◌ ◌>>◌ rules is_static value in_range is_turn fraction divisor
not_earlier = refl

two_types : says_of (par x B ∷ const y (uints 2) ∷ []) (B ∷ []) (to z (infix_and (v x) (v y)) ∷ back (v x) ∷ []) ≡ 3
unfolding ◌>>=◌ ◌>>◌ rules is_static value in_range is_turn fraction divisor
two_types = refl

moved : says_of (par x B ∷ []) (B ∷ []) (to y (v x) ∷ back (v x) ∷ []) ≡ 4
unfolding ◌>>=◌ ◌>>◌ rules is_static value in_range is_turn fraction divisor
moved = refl

held : says_of (const x B ∷ []) (B ∷ []) (back (v x) ∷ []) ≡ 5
unfolding ◌>>=◌ ◌>>◌ rules is_static value in_range is_turn fraction divisor
held = refl

quantum_for_classical : says_of (par x B ∷ []) (!B ∷ []) (back (v x) ∷ []) ≡ 6
unfolding ◌>>=◌ ◌>>◌ rules is_static value in_range is_turn fraction divisor
quantum_for_classical = refl

marked : says (def main marks.Qfree (par x B ∷ []) (B ∷ []) (back (H (v x)) ∷ []) ∷ []) ≡ 7
unfolding ◌>>=◌ ◌>>◌ rules is_static value in_range is_turn fraction divisor
marked = refl

measured : says_of (const a B ∷ par x B ∷ []) (B ∷ []) (if_ (v a) (to m (measure (dup (v a))) ∷ []) ∷ back (v x) ∷ []) ≡ 8
unfolding ◌>>=◌ ◌>>◌ rules is_static value in_range is_turn fraction divisor
measured = refl

condition_part : says_of (par x (bits 2) ∷ []) (bits 2 ∷ []) (if_ (element x (num 0)) (to_part x (num 0) (X (element x (num 0))) ∷ []) ∷ back (v x) ∷ []) ≡ 9
unfolding ◌>>=◌ ◌>>◌ rules is_static value in_range is_turn fraction divisor
condition_part = refl

outer_consumed : says_of (const a B ∷ par x B ∷ []) [] (if_ (v a) (forget_value x zero_bit at0 ∷ []) ∷ []) ≡ 10
unfolding ◌>>=◌ ◌>>◌ rules is_static value in_range is_turn fraction divisor
outer_consumed = refl

outer_other_place : says_of (const a B ∷ par x B ∷ []) (B ∷ []) (if_ (v a) (forget_value x zero_bit at0 ∷ to x (H zero_bit) ∷ []) ∷ back (v x) ∷ []) ≡ 10
unfolding ◌>>=◌ ◌>>◌ rules is_static value in_range is_turn fraction divisor
outer_other_place = refl

left : says_of [] [] (to y (H zero_bit) ∷ []) ≡ 11
unfolding ◌>>=◌ ◌>>◌ rules is_static value in_range is_turn fraction divisor
left = refl

without_name : says_of (par x B ∷ []) [] (to y (dup (H (v x))) ∷ []) ≡ 11
unfolding ◌>>=◌ ◌>>◌ rules is_static value in_range is_turn fraction divisor
without_name = refl

linear_forgotten : says_of (par x B ∷ []) [] (forget x at0 ∷ []) ≡ 12
unfolding ◌>>=◌ ◌>>◌ rules is_static value in_range is_turn fraction divisor
linear_forgotten = refl

forget_itself : says_of (par x B ∷ []) [] (forget_value x (v x) at0 ∷ []) ≡ 13
unfolding ◌>>=◌ ◌>>◌ rules is_static value in_range is_turn fraction divisor
forget_itself = refl

no_return : says_of [] (B ∷ []) [] ≡ 14
unfolding ◌>>=◌ ◌>>◌ rules is_static value in_range is_turn fraction divisor
no_return = refl

two_results : says_of (par x B ∷ []) (B ∷ []) (spread (x ∷ y ∷ []) (v x) at0 ∷ back (v x) ∷ []) ≡ 15
unfolding ◌>>=◌ ◌>>◌ rules is_static value in_range is_turn fraction divisor
two_results = refl

update_by_itself : says_of (par x (bits 2) ∷ []) (bits 2 ∷ []) (update (part x (num 0)) updates.Xor (element x (num 1)) at0 ∷ back (v x) ∷ []) ≡ 16
unfolding ◌>>=◌ ◌>>◌ rules is_static value in_range is_turn fraction divisor
update_by_itself = refl

out_of_range : says_of (par x (bits 2) ∷ []) (bits 2 ∷ []) (to_part x (num 2) (X (element x (num 2))) ∷ back (v x) ∷ []) ≡ 17
unfolding ◌>>=◌ ◌>>◌ rules is_static value in_range is_turn fraction divisor
out_of_range = refl

part_moved : says_of (par x (bits 2) ∷ []) (bits 2 ∷ []) (to y (element x (num 0)) ∷ back (v x) ∷ []) ≡ 17
unfolding ◌>>=◌ ◌>>◌ rules is_static value in_range is_turn fraction divisor
part_moved = refl

too_wide : says_of (par x (uints 65) ∷ []) [] [] ≡ 18
unfolding ◌>>=◌ ◌>>◌ rules is_static value in_range is_turn fraction divisor
too_wide = refl

too_great : says_of (par x (uints 2) ∷ []) (uints 2 ∷ []) (flip x (num 4) ∷ back (v x) ∷ []) ≡ 19
unfolding ◌>>=◌ ◌>>◌ rules is_static value in_range is_turn fraction divisor
too_great = refl

no_type : says_of [] [] (to x (num 4) ∷ []) ≡ 19
unfolding ◌>>=◌ ◌>>◌ rules is_static value in_range is_turn fraction divisor
no_type = refl

lifted_unit : says (def main marks.Lifted [] [] [] ∷ []) ≡ 20
unfolding ◌>>=◌ ◌>>◌ rules is_static value in_range is_turn fraction divisor
lifted_unit = refl

index_not_static : says_of (par x (bits 2) ∷ const y (uints 1) ∷ []) (bits 2 ∷ []) (to z (dup (element x (v y))) ∷ back (v x) ∷ []) ≡ 21
unfolding ◌>>=◌ ◌>>◌ rules is_static value in_range is_turn fraction divisor
index_not_static = refl

abbrev pair : Function
pair = def f marks.Plain (par a B ∷ par b B ∷ []) (B ∷ B ∷ []) (back (tuple (more (v a) (more (v b) none)) at0) ∷ [])

twice : says (pair ∷ def main marks.Plain (par x B ∷ []) (B ∷ B ∷ []) (spread (x ∷ y ∷ []) (app2 f (v x) (v x)) at0 ∷ back (tuple (more (v x) (more (v y) none)) at0) ∷ []) ∷ []) ≡ 22
unfolding ◌>>=◌ ◌>>◌ rules is_static value in_range is_turn fraction divisor
twice = refl

abbrev mixed : Function
mixed = def f marks.Plain (const a B ∷ par b B ∷ []) (B ∷ []) (back (v b) ∷ [])

held_and_moved : says (mixed ∷ def main marks.Plain (par x B ∷ []) (B ∷ []) (to y (app2 f (v x) (v x)) ∷ back (v y) ∷ []) ∷ []) ≡ 23
unfolding ◌>>=◌ ◌>>◌ rules is_static value in_range is_turn fraction divisor
held_and_moved = refl

rotated : says_of (par x B ∷ []) (B ∷ []) (back (app (named 27) (v x)) ∷ []) ≡ 100
unfolding ◌>>=◌ ◌>>◌ rules is_static value in_range is_turn fraction divisor
rotated = refl

-- ---- questions of reading

-- a copy of a classical value has a new place, so a branch that exchanges x for a flipped copy of the classical d is refused
abbrev copied : Function
copied =
    def main marks.Plain (const a B ∷ par b B ∷ []) (B ∷ [])
    (to m (measure (v b)) ∷ to x (X (v m)) ∷ if_ (v a) (to y (v x) ∷ forget_value y (unary Not (v m) at0) at0 ∷ to x (X (v m)) ∷ []) ∷ back (v x) ∷ [])

copied_place : says (copied ∷ []) ≡ 10
unfolding ◌>>=◌ ◌>>◌ rules is_static value in_range is_turn fraction divisor
copied_place = refl

-- an unreached function may hold anything past its header
unreached : says (def f marks.Plain (par x B ∷ []) [] [] ∷ def main marks.Plain [] [] [] ∷ []) ≡ 0
unfolding ◌>>=◌ ◌>>◌ rules is_static value in_range is_turn fraction divisor
unreached = refl

-- def main(x:B):B { for i in [0..3) { t := vector(2, 1:B); if t[1] { x := X(x); } if i == 1 { phase(pi); } else { x := H(x); } } return x; }
loops : says_of (par x B ∷ []) (B ∷ []) (loop i (num 0) (num 3) (blk (to z (app2 (named 26) (num 2) (typed_number (pos 1) bit at0)) ∷ if_ (element z (num 1)) (to x (X (v x)) ∷ []) ∷ choice (binary Eq (v i) (num 1) at0) (blk (phase (pi at0) at0 ∷ [])) (else_block (blk (to x (H (v x)) ∷ []))) at0 ∷ [])) at0 ∷ back (v x) ∷ []) ≡ 0
unfolding ◌>>=◌ ◌>>◌ rules is_static value in_range is_turn fraction divisor
loops = refl

-- a loop variable may not have the name of a variable in reach
loop_name : says_of (par x B ∷ []) (B ∷ []) (loop x (num 0) (num 3) (blk []) at0 ∷ back (v x) ∷ []) ≡ 2
unfolding ◌>>=◌ ◌>>◌ rules is_static value in_range is_turn fraction divisor
loop_name = refl

-- after a branch that left it Linear, a variable is Linear: t := dup(a); if a { t := H(t); } and t is left
linear_after_branch : says_of (const a B ∷ []) [] (to z (dup (v a)) ∷ if_ (v a) (to z (H (v z)) ∷ []) ∷ []) ≡ 11
unfolding ◌>>=◌ ◌>>◌ rules is_static value in_range is_turn fraction divisor
linear_after_branch = refl

-- a marks.Qfree function of a Lifted value gives a Lifted value, of a Linear one a Linear value
abbrev flipper : Function
flipper = def f marks.Qfree (par a B ∷ []) (B ∷ []) (back (X (v a)) ∷ [])

lifted_by_call : says (flipper ∷ def main marks.Plain (const a B ∷ []) [] (to z (app f (dup (v a))) ∷ []) ∷ []) ≡ 0
unfolding ◌>>=◌ ◌>>◌ rules is_static value in_range is_turn fraction divisor
lifted_by_call = refl

linear_by_call : says (flipper ∷ def main marks.Plain (par a B ∷ []) [] (to z (app f (v a)) ∷ []) ∷ []) ≡ 11
unfolding ◌>>=◌ ◌>>◌ rules is_static value in_range is_turn fraction divisor
linear_by_call = refl

-- the called keeps the place, so a branch may make it
place_kept_by_call : says (flipper ∷ def main marks.Plain (const a B ∷ par x B ∷ []) (B ∷ []) (if_ (v a) (to x (app f (v x)) ∷ []) ∷ back (v x) ∷ []) ∷ []) ≡ 0
unfolding ◌>>=◌ ◌>>◌ rules is_static value in_range is_turn fraction divisor
place_kept_by_call = refl

-- def main(const x:B) { forget(x = 0); }: both forms consume
forget_held : says_of (const x B ∷ []) [] (forget_value x (num 0) at0 ∷ []) ≡ 5
unfolding ◌>>=◌ ◌>>◌ rules is_static value in_range is_turn fraction divisor
forget_held = refl

-- def main(const x:B) { forget(x); }
forget_held_name : says_of (const x B ∷ []) [] (forget x at0 ∷ []) ≡ 5
unfolding ◌>>=◌ ◌>>◌ rules is_static value in_range is_turn fraction divisor
forget_held_name = refl

-- def main(x:B) { if x { forget(x = x); } }
forget_condition : says_of (par x B ∷ []) [] (if_ (v x) (forget_value x (v x) at0 ∷ []) ∷ []) ≡ 9
unfolding ◌>>=◌ ◌>>◌ rules is_static value in_range is_turn fraction divisor
forget_condition = refl

-- def main(const x:B) { z := dup(x); forget(z = X(z)); }: the right side has consumed z
forget_flipped : says_of (const x B ∷ []) [] (to z (dup (v x)) ∷ forget_value z (X (v z)) at0 ∷ []) ≡ 4
unfolding ◌>>=◌ ◌>>◌ rules is_static value in_range is_turn fraction divisor
forget_flipped = refl

-- for i in [0..1) { i[0] := 0:B; }
static_part : says_of [] [] (loop i (num 0) (num 1) (blk (to_part i (num 0) zero_bit ∷ [])) at0 ∷ []) ≡ 17
unfolding ◌>>=◌ ◌>>◌ rules is_static value in_range is_turn fraction divisor
static_part = refl

-- for i in [0..1) { i ^= f(); }: before the right side
static_flip : says_of [] [] (loop i (num 0) (num 1) (blk (flip i (called f none none at0) ∷ [])) at0 ∷ []) ≡ 16
unfolding ◌>>=◌ ◌>>◌ rules is_static value in_range is_turn fraction divisor
static_flip = refl

-- def main(x:B^2) { y := x; x[2] ^= z; }
moved_target : says_of (par x (bits 2) ∷ []) [] (to y (v x) ∷ update (part x (num 2)) updates.Xor (v z) at0 ∷ []) ≡ 4
unfolding ◌>>=◌ ◌>>◌ rules is_static value in_range is_turn fraction divisor
moved_target = refl

-- def main(x:B) { y := (x, x); }: the items are held, then K3
misplaced : says_of (par x B ∷ []) [] (to y (tuple (more (v x) (more (v x) none)) at0) ∷ []) ≡ 3
unfolding ◌>>=◌ ◌>>◌ rules is_static value in_range is_turn fraction divisor
misplaced = refl

-- def main(x:B) { x ^= (0, x); }: an item takes no type
misplaced_number : says_of (par x B ∷ []) [] (flip x (tuple (more (num 0) (more (v x) none)) at0) ∷ []) ≡ 19
unfolding ◌>>=◌ ◌>>◌ rules is_static value in_range is_turn fraction divisor
misplaced_number = refl

-- def main(x:B) { y := vector(x, 3); }
untyped_vector : says_of (par x B ∷ []) [] (to y (app2 (named 26) (v x) (num 3)) ∷ []) ≡ 19
unfolding ◌>>=◌ ◌>>◌ rules is_static value in_range is_turn fraction divisor
untyped_vector = refl

-- def f(a:B, b:B):B×B { .. } def main(const x:B^2) { x[0] := f(0:B, 0:B); }: K5 before K15
two_for_one_part : says (pair ∷ def main marks.Plain (const x (bits 2) ∷ []) [] (to_part x (num 0) (app2 f zero_bit zero_bit) ∷ []) ∷ []) ≡ 5
unfolding ◌>>=◌ ◌>>◌ rules is_static value in_range is_turn fraction divisor
two_for_one_part = refl

-- def f(a:B, b:B):B×B { .. } def main() { y := dup(f(0:B, 0:B)); }: K15 before K11
two_held : says (pair ∷ def main marks.Plain [] [] (to y (dup (app2 f zero_bit zero_bit)) ∷ []) ∷ []) ≡ 15
unfolding ◌>>=◌ ◌>>◌ rules is_static value in_range is_turn fraction divisor
two_held = refl

-- def main():B×B { return 0; }
one_of_two : says_of [] (B ∷ B ∷ []) (back (num 0) ∷ []) ≡ 14
unfolding ◌>>=◌ ◌>>◌ rules is_static value in_range is_turn fraction divisor
one_of_two = refl
