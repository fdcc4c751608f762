-- What a body's walk sees and what it changes, and the checks as steps on it.
use Rattle.std.specs.Prelude.{ℕ, suc, Bool, true, false, ◌&&◌, ◌||◌, if◌then◌else◌, List, [], ◌∷◌, ◌++◌, Option, Some, None, is_some, Result, Ok, Err, ℤ, pos, negsuc, nat_lt}
use Rattle.std.specs.Ordering.{int_eq}
use Rattle.silq_tree.specs.declared.node.NameId.{NameId}
use Rattle.silq_tree.specs.declared.node.Spot.{Spot}
use Rattle.silq_tree.specs.Syntax.{Expression, Expressions, none, more, Function}
use Rattle.silq_types.specs.declared.types.Scalar.{Scalar}
use Rattle.silq_types.specs.declared.types.Scalar.TheVariants as scalars
use Rattle.silq_types.specs.declared.types.Shape.{Shape}
use Rattle.silq_types.specs.declared.types.Shape.TheVariants.{Bit, UInt, Int, Array}
use Rattle.silq_types.specs.declared.types.Ty.{Ty}
use Rattle.silq_types.specs.declared.values.Part.{Part}
use Rattle.silq_types.specs.declared.values.Var.{Var}
use Rattle.silq_types.specs.declared.signature.InstanceKey.{InstanceKey}
use Rattle.silq_types.specs.declared.signature.Signature.{Signature}
use Rattle.silq_types.specs.Rules.{Fault, rule, unknown_name}
use Rattle.silq_types.specs.Types.{Statics, same_name, single_shape, first_unknown, names, at}
use Rattle.silq_mean.specs.Written.{value_of, needed_at}
use Rattle.check_scope.specs.Walk.{Walk, answer, broken, counted, asked, bind}
use Rattle.silq_types.specs.declared.built_in.BuiltIn.{BuiltIn}

-- what a part of a body sees: the names of built-in functions, the earlier functions (the nearest first), its own function and the types of its results, the static values, and the parts that each run-time condition holds
pub record Scope : Type 0 where
  pub words : List (NameId × BuiltIn)
  pub before : List Function
  pub this : Function
  pub results : List Ty
  pub statics : Statics
  pub held : List (List Part)

-- what it changes: the variables in order of definition, and the next new place
pub record Context : Type 0 where
  pub vars : List Var
  pub next : ℕ

-- ---- steps

abbrev pub Check : Type 0 → Type 0
Check A = Context → Walk (A × Context)

infixl 10 ◌>>=◌ ◌>>◌
unfoldable pub ◌>>=◌ : {A B : Type 0} → Check A → (A → Check B) → Check B
m >>= f = λ c. bind (m c) (λ r. f r.0 r.1)

unfoldable pub ◌>>◌ : {A B : Type 0} → Check A → Check B → Check B
m >> n = λ c. bind (m c) (λ r. n r.1)

abbrev pub give_back : {A : Type 0} → A → Check A
give_back a = λ c. answer (a, c)

abbrev pub pass : Check (Unit {0})
pass = λ c. answer (tt, c)

abbrev pub fail : {A : Type 0} → Fault → Check A
fail e = λ c. broken e

abbrev pub of_result : {A : Type 0} → Result A Fault → Check A
of_result (Ok a) = give_back a
of_result (Err e) = fail e

-- the rules of one node, in the order of their numbers: each with whether it is broken
unfoldable pub rules : Spot → List (Bool × ℕ) → Check (Unit {0})
rules s [] = pass
rules s (r ∷ rs) = if r.0 then fail (rule r.1 s) else rules s rs

abbrev pub variables : Check (List Var)
variables = λ c. answer (c.vars, c)

abbrev pub put_variables : List Var → Check (Unit {0})
put_variables vars = λ c. answer (tt, record c { vars = vars })

abbrev pub new_place : Check ℕ
new_place = λ c. answer (c.next, record c { next = suc c.next })

abbrev pub count_statement : Check (Unit {0})
count_statement = λ c. counted (answer (tt, c))

abbrev pub signature : InstanceKey → Check Signature
signature k = λ c. asked k (λ s. answer (s, c))

-- ---- parts and variables

-- a variable, or a part of it: more than two index values name none
abbrev pub part_at : NameId → List ℤ → Part
part_at x (i ∷ j ∷ js) = record { name = x; first = Some i; second = Some j }
part_at x (i ∷ []) = record { name = x; first = Some i; second = None }
part_at x [] = record { name = x; first = None; second = None }

abbrev pub variable : NameId → Part
variable x = record { name = x; first = None; second = None }

abbrev pub listed : Option ℤ → List ℤ
listed None = []
listed (Some i) = i ∷ []

abbrev pub indices : Part → List ℤ
indices p = listed p.first ++ listed p.second

abbrev pub is_prefix : List ℤ → List ℤ → Bool
is_prefix [] bs = true
is_prefix (a ∷ rest) [] = false
is_prefix (a ∷ rest) (b ∷ bs) = int_eq a b && is_prefix rest bs

abbrev pub overlaps : Part → Part → Bool
overlaps p q = same_name p.name q.name && (is_prefix (indices p) (indices q) || is_prefix (indices q) (indices p))

abbrev pub same_index : Option ℤ → Option ℤ → Bool
same_index None None = true
same_index (Some i) (Some j) = int_eq i j
same_index _ _ = false

abbrev pub same_part : Part → Part → Bool
same_part p q = same_name p.name q.name && (same_index p.first q.first && same_index p.second q.second)

abbrev pub overlaps_any : List Part → Part → Bool
overlaps_any [] p = false
overlaps_any (q ∷ qs) p = overlaps q p || overlaps_any qs p

-- a run-time condition in force holds a part that overlaps p
abbrev pub is_in_condition : List (List Part) → Part → Bool
is_in_condition [] p = false
is_in_condition (h ∷ hs) p = overlaps_any h p || is_in_condition hs p

abbrev pub find_var : List Var → Part → Option Var
find_var [] p = None
find_var (v ∷ vs) p = if same_part v.part p then Some v else find_var vs p

abbrev pub is_variable : List Var → NameId → Bool
is_variable vars x = is_some (find_var vars (variable x))

abbrev pub replace : List Var → Var → List Var
replace [] v = []
replace (w ∷ ws) v = if same_part w.part v.part then v ∷ ws else (w ∷ replace ws v)

abbrev pub is_known_name : Scope → List Var → NameId → Bool
is_known_name sc vars x = is_some (value_of sc.statics x) || is_variable vars x

-- an index below n
abbrev pub is_below : ℤ → ℕ → Bool
is_below (pos i) n = nat_lt i n
is_below (negsuc i) n = false

-- the type of a part with one index, or none
abbrev pub typed_as : Bool → Shape → List ℤ → Option Ty
typed_as classical s [] = Some (record { classical = classical; shape = s })
typed_as classical s (i ∷ is) = None

abbrev pub bit_at : Bool → ℕ → ℤ → List ℤ → Option Ty
bit_at classical n i is = if is_below i n then typed_as classical Bit is else None

-- the type of a part: an index of an array gives an element, an index of a number a bit
abbrev pub scalar_part : Bool → Scalar → List ℤ → Option Ty
scalar_part classical k [] = Some (record { classical = classical; shape = single_shape k })
scalar_part classical scalars.Bit (i ∷ is) = None
scalar_part classical (scalars.UInt n) (i ∷ is) = bit_at classical n i is
scalar_part classical (scalars.Int n) (i ∷ is) = bit_at classical n i is

abbrev pub part_type : Bool → Shape → List ℤ → Option Ty
part_type classical s [] = Some (record { classical = classical; shape = s })
part_type classical Bit (i ∷ is) = None
part_type classical (UInt n) (i ∷ is) = bit_at classical n i is
part_type classical (Int n) (i ∷ is) = bit_at classical n i is
part_type classical (Array k n) (i ∷ is) = if is_below i n then scalar_part classical k is else None

-- ---- needed static expressions: each unknown name at its own token, then the value at the expression's

abbrev pub unknown_at : Option Spot → Check (Unit {0})
unknown_at None = pass
unknown_at (Some s) = fail (rule unknown_name s)

abbrev pub known_names : Scope → Expression → Check (Unit {0})
known_names sc e = λ c. unknown_at (first_unknown (is_known_name sc c.vars) (names e)) c

abbrev pub needed : Scope → Expression → Check ℤ
needed sc e = known_names sc e >> of_result (needed_at sc.statics e (at e))

abbrev pub all_needed : Expressions → Scope → Check (List ℤ)
all_needed none sc = give_back []
all_needed (more e es) sc = do
  v ← needed sc e
  vs ← all_needed es sc
  give_back (v ∷ vs)
