-- The walk of one expression.
use Rattle.std.specs.Prelude.{ℕ, Bool, true, false, not, ◌&&◌, ◌||◌, ◌==◌, if◌then◌else◌, List, [], ◌∷◌, length, map, Option, Some, None, ℤ, pos, nat_abs, int_lt, slice_get}
use Rattle.silq_tree.specs.declared.node.NameId.{NameId}
use Rattle.silq_tree.specs.declared.node.Spot.{Spot}
use Rattle.silq_tree.specs.declared.node.Mark.{Mark}
use Rattle.silq_tree.specs.declared.node.Mark.TheVariants as marks
use Rattle.silq_tree.specs.declared.node.UnaryOp.{UnaryOp}
use Rattle.silq_tree.specs.declared.node.UnaryOp.TheVariants.{Not, Neg}
use Rattle.silq_tree.specs.declared.node.BinaryOp.{BinaryOp}
use Rattle.silq_tree.specs.declared.node.BinaryOp.TheVariants.{Or, And, Eq, Ne, Add, Sub, Mul, Div}
use Rattle.silq_tree.specs.Syntax.{Expression, Expressions, ScalarType, number, typed_number, truth, pi, place, called, tuple, unary, binary, none, more}
use Rattle.static_num.specs.Static.{is_static}
use Rattle.silq_io.specs.declared.fault.What.TheVariants.{RotX, RotY, RotZ}
use Rattle.silq_types.specs.declared.types.Scalar.TheVariants as scalars
use Rattle.silq_types.specs.declared.types.Shape.{Shape}
use Rattle.silq_types.specs.declared.types.Shape.TheVariants.{Bit, UInt, Int, Array}
use Rattle.silq_types.specs.declared.types.Ty.{Ty}
use Rattle.silq_types.specs.declared.values.Origin.{Origin}
use Rattle.silq_types.specs.declared.values.Origin.TheVariants.{Lifted, Linear, Classical}
use Rattle.silq_types.specs.declared.values.Value.{Value}
use Rattle.silq_types.specs.declared.signature.Param.{Param}
use Rattle.silq_types.specs.declared.signature.Returned.{Returned}
use Rattle.silq_types.specs.Rules.{rule, unsupported, name_taken, wrong_type, not_classical, against_mark, measured_in_branch, linear_left, result_count, bad_size, outside_type, not_static, consumed_twice, consumed_and_held}
use Rattle.silq_types.specs.Types.{Statics, single_shape, shape_eq, quantum, is_bit, is_number, is_scalar, is_linear, fits, at, count}
use Rattle.silq_mean.specs.Written.{is_count, most_items, needed_at, scalar_type, header_of, is_empty}
use Rattle.silq_types.specs.declared.need.Need.{Need}
use Rattle.silq_types.specs.declared.need.Need.TheVariants as needs
use Rattle.check_scope.specs.Context.{Scope, Check, ◌>>=◌, ◌>>◌, give_back, pass, fail, of_result, rules, variables, signature, is_known_name, known_names, needed}
use Rattle.silq_types.specs.declared.built_in.BuiltIn.{BuiltIn}
use Rattle.silq_types.specs.declared.built_in.BuiltIn.TheVariants.{HGate, XGate, YGate, ZGate, Dup, Measure, Vector, RotateX, RotateY, RotateZ}
use Rattle.silq_types.specs.Calls.{Found, is_consumed, built_in, find_fun, param_need}
use Rattle.check_scope.specs.Uses.{argument_uses, both_consume, consume_and_hold, some_pair}
use Rattle.check_scope.specs.declared.uses.Use.{Use}
use Rattle.check_scope.specs.Places.{new_value, use_place}
use Rattle.silq_types.specs.Programs.{paired}
use Rattle.check_scope.specs.Uses.{operand_clash}

-- ---- values

abbrev pub origin_of : Bool → Origin
origin_of classical = if classical then Classical else Lifted

abbrev pub one_value : Ty → Origin → Check (List Value)
one_value t o = do
  v ← new_value t o
  give_back (v ∷ [])

abbrev pub fits_rule : Spot → Ty → ℤ → Check (Unit {0})
fits_rule s t z = rules s ((not (fits t.shape z), outside_type) ∷ [])

-- a static expression takes the one type that is asked where it stands
abbrev pub static_value : Scope → Expression → List Ty → Check (List Value)
static_value sc e (t ∷ []) = do
  z ← of_result (needed_at sc.statics e (at e))
  fits_rule (at e) t z
  one_value t (origin_of t.classical)
static_value sc e wants = fail (rule outside_type (at e))

abbrev pub unless_static : Scope → Expression → List Ty → Check (List Value) → Check (List Value)
unless_static sc e wants run = if is_static sc.statics e then static_value sc e wants else run

-- the names of the width come before its size, and the size before the number
abbrev pub typed_value : Scope → ℤ → ScalarType → Spot → Check Value
typed_value sc n k s = do
  vars ← variables
  scalar ← of_result (scalar_type sc.statics (is_known_name sc vars) k s)
  fits_rule s (quantum (single_shape scalar)) n
  new_value (quantum (single_shape scalar)) Lifted

-- ---- operators

abbrev pub unary_fits : UnaryOp → Shape → Bool
unary_fits Not s = is_bit s
unary_fits Neg s = is_number s

abbrev pub binary_fits : BinaryOp → Shape → Bool
binary_fits Or s = is_bit s
binary_fits And s = is_bit s
binary_fits Eq s = is_scalar s
binary_fits Ne s = is_scalar s
binary_fits Div s = false
binary_fits op s = is_number s

abbrev pub binary_shape : BinaryOp → Shape → Shape
binary_shape Add s = s
binary_shape Sub s = s
binary_shape Mul s = s
binary_shape op s = Bit

abbrev pub typed_by : Bool → Shape → Check (List Value)
typed_by classical s = one_value (record { classical = classical; shape = s }) (origin_of classical)

abbrev pub unary_value : UnaryOp → Spot → Value → Check (List Value)
unary_value op s v = rules s ((not (unary_fits op v.ty.shape), wrong_type) ∷ []) >> typed_by v.ty.classical v.ty.shape

abbrev pub binary_value : Scope → BinaryOp → Expression → Expression → Spot → Value → Value → Check (List Value)
binary_value sc op a b s x y = do
  vars ← variables
  rules s ((not (shape_eq x.ty.shape y.ty.shape && binary_fits op x.ty.shape), wrong_type) ∷ (operand_clash sc a b vars, consumed_and_held) ∷ [])
  typed_by (x.ty.classical && y.ty.classical) (binary_shape op x.ty.shape)

abbrev pub is_tuple : Expression → Bool
is_tuple (tuple es s) = true
is_tuple e = false

-- where one value is asked a tuple is misplaced: its items are held, and no type is asked of them
abbrev pub lone_need : Expression → Need → Need
lone_need e need = if is_tuple e then needs.Held else need

abbrev pub lone_wants : Expression → List Ty → List Ty
lone_wants e wants = if is_tuple e then [] else wants

abbrev pub single_of : Expression → List Value → Check Value
single_of e (v ∷ []) = give_back v
single_of e vs = fail (rule result_count (at e))

-- one value, where just one may stand
abbrev pub single : Expression → List Value → Check Value
single e vs = if is_tuple e then fail (rule wrong_type (at e)) else single_of e vs

-- two operands in turn. A static one takes the type of the other, so on the left its number is told first and held against its type last.
abbrev pub operands : Scope → Expression → (List Ty → Check Value) → (List Ty → Check Value) → Check (Value × Value)
operands sc a left right =
    if is_static sc.statics a then
    (do
      z ← of_result (needed_at sc.statics a (at a))
      y ← right []
      x ← left (y.ty ∷ [])
      give_back (x, y))
    else
    (do
      x ← left []
      y ← right (x.ty ∷ [])
      give_back (x, y))

-- ---- calls

-- what is asked of an argument or a returned value: its use, and its type where one is fixed
pub record Asked : Type 0 where
  pub need : Need
  pub wants : List Ty

abbrev pub first_asked : Need → List Asked → Asked
first_asked other [] = record { need = other; wants = [] }
first_asked other (a ∷ rest) = a

abbrev pub later_asked : List Asked → List Asked
later_asked [] = []
later_asked (a ∷ rest) = rest

-- the value has the type that is asked, `!` aside, and is classical where that is asked
abbrev pub suits : Expression → List Ty → Value → Check (Unit {0})
suits e (t ∷ []) v = rules (at e) ((not (shape_eq t.shape v.ty.shape), wrong_type) ∷ (t.classical && not v.ty.classical, not_classical) ∷ [])
suits e wants v = pass

abbrev pub is_run_time : Scope → Bool
is_run_time sc = not (is_empty sc.held)

abbrev pub is_qfree : Mark → Bool
is_qfree marks.Plain = false
is_qfree marks.Mfree = false
is_qfree marks.Qfree = true
is_qfree marks.Lifted = true

abbrev pub is_unmarked : Mark → Bool
is_unmarked marks.Plain = true
is_unmarked m = false

-- a function of the first mark may call one of the second
abbrev pub may_call : Mark → Mark → Bool
may_call marks.Plain m = true
may_call marks.Mfree m = not (is_unmarked m)
may_call marks.Qfree m = is_qfree m
may_call marks.Lifted m = is_qfree m

abbrev pub may_hold : Mark → BuiltIn → Bool
may_hold m HGate = not (is_qfree m)
may_hold m YGate = not (is_qfree m)
may_hold m ZGate = not (is_qfree m)
may_hold m Measure = is_unmarked m
may_hold m b = true

abbrev pub measures : BuiltIn → Bool
measures Measure = true
measures b = false

abbrev pub flipped_origin : Origin → Origin
flipped_origin Lifted = Lifted
flipped_origin o = Linear

abbrev pub gate_origin : BuiltIn → Origin → Origin
gate_origin XGate o = flipped_origin o
gate_origin b o = Linear

-- a Linear value without a name may not stand in a held use
abbrev pub unnamed_rule : Spot → Need → Bool → Check (Unit {0})
unnamed_rule s need linear = rules s ((not (is_consumed need) && linear, linear_left) ∷ [])

-- `X`, `H`, `Y` and `Z` keep the place
abbrev pub flip_value : BuiltIn → Spot → Need → Value → Check (List Value)
flip_value b s need v = do
  rules s ((not (is_bit v.ty.shape), wrong_type) ∷ [])
  unnamed_rule s need (is_linear (gate_origin b v.origin))
  give_back (record { ty = quantum v.ty.shape; origin = gate_origin b v.origin; place = v.place } ∷ [])

abbrev pub gate_value : BuiltIn → Spot → Need → Value → Check (List Value)
gate_value Dup s need v = one_value (quantum v.ty.shape) Lifted
gate_value Measure s need v = one_value (record { classical = true; shape = v.ty.shape }) Classical
gate_value b s need v = flip_value b s need v

abbrev pub gate_values : BuiltIn → Spot → Need → List Value → Check (List Value)
gate_values b s need (v ∷ []) = gate_value b s need v
gate_values b s need vs = fail (rule wrong_type s)

abbrev pub repeated : Shape → ℤ → Shape
repeated Bit n = Array scalars.Bit (nat_abs n)
repeated (UInt w) n = Array (scalars.UInt w) (nat_abs n)
repeated (Int w) n = Array (scalars.Int w) (nat_abs n)
repeated (Array k m) n = Array k (nat_abs n)

abbrev pub many : Spot → List Value → ℤ → Check (List Value)
many s (v ∷ []) n = one_value (quantum (repeated v.ty.shape n)) Lifted
many s vs n = fail (rule wrong_type s)

abbrev pub is_typed : Expression → Bool
is_typed (typed_number n k s) = true
is_typed e = false

abbrev pub all_typed : Expressions → Bool
all_typed none = true
all_typed (more e es) = is_typed e && all_typed es

-- the length where it is static; any other is told after the value is walked
abbrev pub length_value : Scope → Expression → Check ℤ
length_value sc a = if is_static sc.statics a then of_result (needed_at sc.statics a (at a)) else give_back (pos 0)

-- a static length, and a number with a type: the names of the length, its value, the walk of what is repeated, and then the call's own rules
abbrev pub vector_value : Scope → Spot → Expressions → Check (List Value) → Check (List Value)
vector_value sc s none later = fail (rule wrong_type s)
vector_value sc s (more a rest) later = do
  known_names sc a
  m ← length_value sc a
  vs ← later
  rules s ((not (is_static sc.statics a && all_typed rest), wrong_type) ∷ (not (is_count most_items m), bad_size) ∷ [])
  many s vs m

abbrev pub asked_by_built_in : BuiltIn → List Asked
asked_by_built_in Dup = record { need = needs.Held; wants = [] } ∷ []
asked_by_built_in b = record { need = needs.Consumed; wants = [] } ∷ []

-- the walk of a call's arguments, as far as the rules before them need not know it
abbrev pub Arguments : Type 0
Arguments = List Asked → Check (List Value)

abbrev pub built_in_rules : Scope → BuiltIn → Expressions → Expressions → ℕ → Spot → Check (Unit {0})
built_in_rules sc b ss args arity s =
    rules s ((not (may_hold sc.this.mark b), against_mark)
    ∷ (measures b && is_run_time sc, measured_in_branch)
    ∷ (not (count ss == 0), not_static)
    ∷ (not (count args == arity), wrong_type) ∷ [])

abbrev pub call_gate : Scope → BuiltIn → Expressions → Expressions → Spot → Need → Arguments → Check (List Value)
call_gate sc b ss args s need walk = do
  built_in_rules sc b ss args 1 s
  vs ← walk (asked_by_built_in b)
  gate_values b s need vs

-- `later` is the walk of the arguments after the first
abbrev pub call_built_in : Scope → BuiltIn → Expressions → Expressions → Spot → Need → Arguments → Check (List Value) → Check (List Value)
call_built_in sc RotateX ss args s need walk later = fail (unsupported RotX s)
call_built_in sc RotateY ss args s need walk later = fail (unsupported RotY s)
call_built_in sc RotateZ ss args s need walk later = fail (unsupported RotZ s)
call_built_in sc Vector ss args s need walk later = built_in_rules sc Vector ss args 2 s >> vector_value sc s args later
call_built_in sc b ss args s need walk later = call_gate sc b ss args s need walk

-- static arguments: each is a static number that is not negative
abbrev pub natural : Spot → ℤ → Check (Unit {0})
natural s z = rules s ((int_lt z (pos 0), not_static) ∷ [])

abbrev pub static_arguments : Expressions → Scope → Check (List ℤ)
static_arguments none sc = give_back []
static_arguments (more e es) sc = do
  v ← needed sc e
  natural (at e) v
  vs ← static_arguments es sc
  give_back (v ∷ vs)

abbrev pub asked_by : Param → Asked
asked_by p = record { need = if p.held then needs.Held else needs.Consumed; wants = p.ty ∷ [] }

-- each consumed argument is Lifted or a copy
abbrev pub all_lifted : List Param → List Value → Bool
all_lifted (p ∷ ps) (v ∷ vs) = (p.held || not (is_linear v.origin)) && all_lifted ps vs
all_lifted ps vs = true

abbrev pub result_origin : Bool → Ty → Origin
result_origin lifts t = if t.classical then Classical else (if lifts then Lifted else Linear)

abbrev pub placed : Option Value → Ty → Origin → Check Value
placed None t o = new_value t o
placed (Some v) t o = give_back (record { ty = t; origin = o; place = v.place })

abbrev pub argument_at : List Value → Option ℕ → Option Value
argument_at vs None = None
argument_at vs (Some j) = slice_get vs j

abbrev pub result_values : Bool → List Value → List Returned → Check (List Value)
result_values lifts vs [] = give_back []
result_values lifts vs (r ∷ rs) = do
  x ← placed (argument_at vs r.from) r.ty (result_origin lifts r.ty)
  xs ← result_values lifts vs rs
  give_back (x ∷ xs)

-- a call's one value is Linear; another number of them is told by `single`
abbrev pub lone_linear : List Value → Bool
lone_linear (v ∷ []) = is_linear v.origin
lone_linear vs = false

abbrev pub some_linear : List Value → Bool
some_linear [] = false
some_linear (v ∷ vs) = is_linear v.origin || some_linear vs

abbrev pub exact_place : Spot → Spot
exact_place s = s

abbrev pub call_own : Scope → Found → Expressions → Expressions → Spot → Need → Arguments → Check (List Value)
call_own sc f ss args s need walk = do
  rules s ((not (may_call sc.this.mark f.fun.mark), against_mark) ∷ (is_unmarked f.fun.mark && is_run_time sc, measured_in_branch) ∷ (not (count ss == length f.fun.statics), not_static) ∷ [])
  statics ← static_arguments ss sc
  header ← of_result (header_of (paired f.fun.statics statics) exact_place f.fun)
  vars ← variables
  let parts : List (List Use) = argument_uses args sc vars (map (param_need f.fun) f.fun.params)
  rules s ((not (count args == length f.fun.params), wrong_type) ∷ (some_pair both_consume parts, consumed_twice) ∷ (some_pair consume_and_hold parts, consumed_and_held) ∷ [])
  vs ← walk (map asked_by header.params)
  sig ← signature (record { fun = record { number = f.number }; statics = statics })
  xs ← result_values (is_qfree f.fun.mark && all_lifted header.params vs) vs sig.results
  unnamed_rule s need (lone_linear xs)
  give_back xs

abbrev pub call_found : Scope → Option BuiltIn → Option Found → Expressions → Expressions → Spot → Need → Arguments → Check (List Value) → Check (List Value)
call_found sc (Some b) f ss args s need walk later = call_built_in sc b ss args s need walk later
call_found sc None (Some f) ss args s need walk later = call_own sc f ss args s need walk
call_found sc None None ss args s need walk later = fail (rule name_taken s)

-- ---- the walk

-- for a tuple the types asked go to its items
abbrev pub asked_of_items : Need → List Ty → List Asked
asked_of_items need [] = []
asked_of_items need (t ∷ ts) = record { need = need; wants = t ∷ [] } ∷ asked_of_items need ts

abbrev mutual
  pub expr : Expression → Scope → Need → List Ty → Check (List Value)
  expr (number n s) sc need wants = static_value sc (number n s) wants
  expr (typed_number n k s) sc need wants = typed_value sc n k s >>= (λ v. give_back (v ∷ []))
  expr (truth b s) sc need wants = static_value sc (truth b s) wants
  expr (pi s) sc need wants = fail (rule wrong_type s)
  expr (place p s) sc need wants = unless_static sc (place p s) wants (use_place sc p s need >>= (λ v. give_back (v ∷ [])))
  expr (called f ss args s) sc need wants =
      call_found sc (built_in sc.words f) (find_fun sc.before f) ss args s need (λ asked. arguments args sc needs.Held asked) (later_arguments args sc)
  expr (tuple es s) sc need wants = arguments es sc need (asked_of_items need wants)
  expr (unary op e s) sc need wants =
      unless_static sc (unary op e s) wants (expr e sc needs.Held [] >>= (λ vs. single e vs >>= unary_value op s))
  expr (binary op a b s) sc need wants =
      unless_static sc (binary op a b s) wants
      (operands sc a (λ w. expr a sc needs.Held (lone_wants a w) >>= single a) (λ w. expr b sc needs.Held (lone_wants b w) >>= single b)
      >>= (λ r. binary_value sc op a b s r.0 r.1))

  pub arguments : Expressions → Scope → Need → List Asked → Check (List Value)
  arguments none sc other asked = give_back []
  arguments (more e es) sc other asked = do
    vs ← expr e sc (lone_need e (first_asked other asked).need) (lone_wants e (first_asked other asked).wants)
    v ← single e vs
    suits e (first_asked other asked).wants v
    rest ← arguments es sc other (later_asked asked)
    give_back (v ∷ rest)

  -- the arguments after the first, held
  pub later_arguments : Expressions → Scope → Check (List Value)
  later_arguments none sc = give_back []
  later_arguments (more e es) sc = arguments es sc needs.Held []
