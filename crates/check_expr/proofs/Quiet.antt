-- The walk of an expression counts no statement.
use Rattle.std.specs.Prelude.{ℕ, Bool, true, false, cond, List, [], ◌∷◌, Option, Some, None, Result, Ok, Err, ℤ}
use Rattle.check_scope.specs.Context.{Scope, Context, Check, ◌>>=◌, ◌>>◌, give_back, pass, fail, of_result, rules, variables, put_variables, new_place, signature, unknown_at, known_names, needed, all_needed, is_known_name}
use Rattle.silq_types.specs.declared.built_in.BuiltIn.{BuiltIn}
use Rattle.silq_types.specs.declared.built_in.BuiltIn.TheVariants.{HGate, XGate, YGate, ZGate, Dup, Measure, Vector, RotateX, RotateY, RotateZ}
use Rattle.check_expr.specs.Expression.{is_tuple, single_of, flip_value, many, length_value, lone_need, lone_wants, later_arguments, call_gate, one_value, static_value, unless_static, typed_value, unary_value, binary_value, single, operands, Asked, suits, gate_value, gate_values, vector_value, call_built_in, Arguments, natural, static_arguments, placed, argument_at, result_origin, result_values, call_own, call_found, asked_of_items, first_asked, later_asked, expr, arguments}
use Rattle.check_scope.specs.Places.{new_value}
use Rattle.check_scope.specs.Places.{move, unmoved, use_rules, use_part, use_found, use_place}
use Rattle.check_scope.specs.Reading.{Uncounted}
use Rattle.silq_types.specs.Calls.{Found, built_in, find_fun}
use Rattle.check_scope.specs.Walk.{Walk, answer, broken, counted, asked, bind}
use Rattle.silq_types.specs.declared.need.Need.{Need}
use Rattle.silq_tree.specs.Syntax.{Expression, Expressions, number, typed_number, truth, pi, place, called, tuple, unary, binary, none, more, ScalarType, Place}
use Rattle.silq_tree.specs.declared.node.BinaryOp.{BinaryOp}
use Rattle.silq_tree.specs.declared.node.Spot.{Spot}
use Rattle.silq_tree.specs.declared.node.UnaryOp.{UnaryOp}
use Rattle.silq_types.specs.Rules.{Fault, rule}
use Rattle.silq_types.specs.Types.{at, first_unknown, names}
use Rattle.silq_mean.specs.Written.{needed_at}
use Rattle.silq_types.specs.declared.signature.InstanceKey.{InstanceKey}
use Rattle.silq_types.specs.declared.signature.Returned.{Returned}
use Rattle.silq_types.specs.declared.types.Ty.{Ty}
use Rattle.silq_types.specs.declared.values.Origin.{Origin}
use Rattle.silq_types.specs.declared.values.Part.{Part}
use Rattle.silq_types.specs.declared.values.Value.{Value}
use Rattle.silq_types.specs.declared.values.Var.{Var}
use Rattle.static_num.specs.Static.{is_static}
use Rattle.silq_types.specs.declared.need.Need.TheVariants as needs

pub record Quiet {A : Type 0} (m : Check A) : Type 0 where
  pub runs : (c : Context) → Uncounted (m c)

uncounted-bind : {A B : Type 0} (w : Walk A) (f : A → Walk B) → Uncounted w → ((a : A) → Uncounted (f a)) → Uncounted (bind w f)
uncounted-bind (answer a) f u h = h a
uncounted-bind (broken e) f u h = tt
uncounted-bind (counted w) f u h = absurd u
uncounted-bind (asked k next) f u h = λ s. uncounted-bind (next s) f (u s) h

q_bind : {A B : Type 0} {m : Check A} {f : A → Check B} → Quiet m → ((a : A) → Quiet (f a)) → Quiet (m >>= f)
unfolding ◌>>=◌
q_bind {m = m} {f = f} q h = record { runs = λ c. uncounted-bind (m c) (λ r. f r.0 r.1) (q.runs c) (λ r. (h r.0).runs r.1) }

q_then : {A B : Type 0} {m : Check A} {n : Check B} → Quiet m → Quiet n → Quiet (m >> n)
unfolding ◌>>◌
q_then {m = m} {n = n} q h = record { runs = λ c. uncounted-bind (m c) (λ r. n r.1) (q.runs c) (λ r. h.runs r.1) }

q_back : {A : Type 0} (a : A) → Quiet (give_back a)
q_back a = record { runs = λ c. tt }

q_fail : {A : Type 0} (e : Fault) → Quiet (fail {A = A} e)
q_fail e = record { runs = λ c. tt }

q_pass : Quiet pass
q_pass = record { runs = λ c. tt }

q_result : {A : Type 0} (r : Result A Fault) → Quiet (of_result r)
q_result (Ok a) = q_back a
q_result (Err e) = q_fail e

q_if : {A : Type 0} (b : Bool) {m n : Check A} → Quiet m → Quiet n → Quiet (cond b m n)
q_if true q h = q
q_if false q h = h

pub q_rules : (s : Spot) (rs : List (Bool × ℕ)) → Quiet (rules s rs)
unfolding rules
q_rules s [] = q_pass
q_rules s (r ∷ rs) = q_if r.0 (q_fail (rule r.1 s)) (q_rules s rs)

q_variables : Quiet variables
q_variables = record { runs = λ c. tt }

q_put : (vs : List Var) → Quiet (put_variables vs)
q_put vs = record { runs = λ c. tt }

pub q_place : Quiet new_place
q_place = record { runs = λ c. tt }

q_signature : (k : InstanceKey) → Quiet (signature k)
q_signature k = record { runs = λ c s. tt }

q_unknown : (o : Option Spot) → Quiet (unknown_at o)
q_unknown None = q_pass
q_unknown (Some s) = q_fail (rule 1 s)

pub q_names : (sc : Scope) (e : Expression) → Quiet (known_names sc e)
q_names sc e = record { runs = λ c. (q_unknown (first_unknown (is_known_name sc c.vars) (names e))).runs c }

q_needed : (sc : Scope) (e : Expression) → Quiet (needed sc e)
q_needed sc e = q_then (q_names sc e) (q_result (needed_at sc.statics e (at e)))

pub q_all_needed : (es : Expressions) (sc : Scope) → Quiet (all_needed es sc)
q_all_needed none sc = q_back []
q_all_needed (more e es) sc = q_bind (q_needed sc e) (λ v. q_bind (q_all_needed es sc) (λ vs. q_back (v ∷ vs)))

q_new_value : (t : Ty) (o : Origin) → Quiet (new_value t o)
q_new_value t o = q_bind q_place (λ p. q_back _)

q_one : (t : Ty) (o : Origin) → Quiet (one_value t o)
q_one t o = q_bind (q_new_value t o) (λ v. q_back (v ∷ []))

ruleset quiet = (q_bind, q_then, q_back, q_fail, q_pass, q_result, q_if, q_rules, q_variables, q_put, q_place, q_signature, q_names, q_needed, q_all_needed, q_new_value, q_one)

q_static : (sc : Scope) (e : Expression) (wants : List Ty) → Quiet (static_value sc e wants)
q_static sc e (t ∷ []) = search quiet
q_static sc e [] = search quiet
q_static sc e (t ∷ u ∷ ts) = search quiet

q_unless : (sc : Scope) (e : Expression) (wants : List Ty) {m : Check (List Value)} → Quiet m → Quiet (unless_static sc e wants m)
q_unless sc e wants q = q_if (is_static sc.statics e) (q_static sc e wants) q

q_typed : (sc : Scope) (n : ℤ) (k : ScalarType) (s : Spot) → Quiet (typed_value sc n k s)
q_typed sc n k s = search quiet

q_unmoved : (need : Need) (t : Ty) (v : Var) → Quiet (unmoved need t v)
q_unmoved needs.Held t v = search quiet
q_unmoved needs.Consumed t v = search quiet

q_move : (t : Ty) (v : Var) → Quiet (move t v)
q_move t v = record { runs = λ c. tt }

q_use_rules : (sc : Scope) (s : Spot) (need : Need) (p : Part) (v : Var) (bad : Bool) → Quiet (use_rules sc s need p v bad)
q_use_rules sc s need p v bad = search quiet

q_use_part : (sc : Scope) (s : Spot) (need : Need) (p : Part) (v : Var) (vars : List Var) (t : Option Ty) → Quiet (use_part sc s need p v vars t)
q_use_part sc s need p v vars None = search quiet
q_use_part sc s need p v vars (Some t) = search (quiet, q_unmoved)

q_use_found : (sc : Scope) (s : Spot) (need : Need) (p : Part) (vars : List Var) (v w : Option Var) → Quiet (use_found sc s need p vars v w)
q_use_found sc s need p vars (Some v) w = search (quiet, q_move, q_unmoved)
q_use_found sc s need p vars None (Some w) = q_use_part sc s need p w vars _
q_use_found sc s need p vars None None = search quiet

q_use_place : (sc : Scope) (p : Place) (s : Spot) (need : Need) → Quiet (use_place sc p s need)
q_use_place sc p s need = search (quiet, q_use_found)

q_unary : (op : UnaryOp) (s : Spot) (v : Value) → Quiet (unary_value op s v)
q_unary op s v = search quiet

q_binary : (sc : Scope) (op : BinaryOp) (a b : Expression) (s : Spot) (x y : Value) → Quiet (binary_value sc op a b s x y)
q_binary sc op a b s x y = search quiet

q_single_of : (e : Expression) (vs : List Value) → Quiet (single_of e vs)
q_single_of e [] = search quiet
q_single_of e (v ∷ []) = search quiet
q_single_of e (v ∷ w ∷ vs) = search quiet

pub q_single : (e : Expression) (vs : List Value) → Quiet (single e vs)
q_single e vs = q_if (is_tuple e) (q_fail _) (q_single_of e vs)

q_operands : (sc : Scope) (a : Expression) (left right : List Ty → Check Value) → ((w : List Ty) → Quiet (left w)) → ((w : List Ty) → Quiet (right w)) → Quiet (operands sc a left right)
q_operands sc a left right l r = search (quiet, l, r)

pub q_suits : (e : Expression) (wants : List Ty) (v : Value) → Quiet (suits e wants v)
q_suits e [] v = search quiet
q_suits e (t ∷ []) v = search quiet
q_suits e (t ∷ u ∷ ts) v = search quiet

q_gate_flip : (b : BuiltIn) (s : Spot) (need : Need) (v : Value) → Quiet (flip_value b s need v)
q_gate_flip b s need v = search quiet

q_gate : (b : BuiltIn) (s : Spot) (need : Need) (v : Value) → Quiet (gate_value b s need v)
q_gate HGate s need v = q_gate_flip HGate s need v
q_gate XGate s need v = q_gate_flip XGate s need v
q_gate YGate s need v = q_gate_flip YGate s need v
q_gate ZGate s need v = q_gate_flip ZGate s need v
q_gate Dup s need v = search quiet
q_gate Measure s need v = search quiet
q_gate Vector s need v = q_gate_flip Vector s need v
q_gate RotateX s need v = q_gate_flip RotateX s need v
q_gate RotateY s need v = q_gate_flip RotateY s need v
q_gate RotateZ s need v = q_gate_flip RotateZ s need v

q_gates : (b : BuiltIn) (s : Spot) (need : Need) (vs : List Value) → Quiet (gate_values b s need vs)
q_gates b s need [] = search quiet
q_gates b s need (v ∷ []) = q_gate b s need v
q_gates b s need (v ∷ w ∷ vs) = search quiet

q_many : (s : Spot) (vs : List Value) (n : ℤ) → Quiet (many s vs n)
q_many s [] n = search quiet
q_many s (v ∷ []) n = search quiet
q_many s (v ∷ w ∷ vs) n = search quiet

q_length : (sc : Scope) (a : Expression) → Quiet (length_value sc a)
q_length sc a = search quiet

q_built_in_one : (sc : Scope) (b : BuiltIn) (ss args : Expressions) (s : Spot) (need : Need) (walk : Arguments) → ((l : List Asked) → Quiet (walk l)) → Quiet (call_gate sc b ss args s need walk)
q_built_in_one sc b ss args s need walk q = search (quiet, q, q_gates)

q_natural : (s : Spot) (z : ℤ) → Quiet (natural s z)
q_natural s z = search quiet

q_statics : (es : Expressions) (sc : Scope) → Quiet (static_arguments es sc)
q_statics none sc = search quiet
q_statics (more e es) sc = q_bind (q_needed sc e) (λ v. q_then (q_natural (at e) v) (q_bind (q_statics es sc) (λ vs. q_back (v ∷ vs))))

q_placed : (o : Option Value) (t : Ty) (g : Origin) → Quiet (placed o t g)
q_placed None t g = search quiet
q_placed (Some v) t g = search quiet

q_results : (lifts : Bool) (vs : List Value) (rs : List Returned) → Quiet (result_values lifts vs rs)
q_results lifts vs [] = search quiet
q_results lifts vs (r ∷ rs) = q_bind (q_placed (argument_at vs r.from) r.ty (result_origin lifts r.ty)) (λ x. q_bind (q_results lifts vs rs) (λ xs. q_back (x ∷ xs)))

q_own : (sc : Scope) (f : Found) (ss args : Expressions) (s : Spot) (need : Need) (walk : Arguments) → ((l : List Asked) → Quiet (walk l)) → Quiet (call_own sc f ss args s need walk)
q_own sc f ss args s need walk q = search (quiet, q, q_statics, q_results) depth 16

q_vector : (sc : Scope) (s : Spot) (args : Expressions) {later : Check (List Value)} → Quiet later → Quiet (vector_value sc s args later)
q_vector sc s none r = q_fail _
q_vector sc s (more a rest) r = q_then (q_names sc a) (q_bind (q_length sc a) (λ m. q_bind r (λ vs. q_then (q_rules s _) (q_many s vs m))))

q_built_in : (sc : Scope) (b : BuiltIn) (ss args : Expressions) (s : Spot) (need : Need) (walk : Arguments) {later : Check (List Value)} → ((l : List Asked) → Quiet (walk l)) → Quiet later → Quiet (call_built_in sc b ss args s need walk later)
q_built_in sc HGate ss args s need walk q r = q_built_in_one sc HGate ss args s need walk q
q_built_in sc XGate ss args s need walk q r = q_built_in_one sc XGate ss args s need walk q
q_built_in sc YGate ss args s need walk q r = q_built_in_one sc YGate ss args s need walk q
q_built_in sc ZGate ss args s need walk q r = q_built_in_one sc ZGate ss args s need walk q
q_built_in sc Dup ss args s need walk q r = q_built_in_one sc Dup ss args s need walk q
q_built_in sc Measure ss args s need walk q r = q_built_in_one sc Measure ss args s need walk q
q_built_in sc Vector ss args s need walk q r = q_then (q_rules s _) (q_vector sc s args r)
q_built_in sc RotateX ss args s need walk q r = search quiet
q_built_in sc RotateY ss args s need walk q r = search quiet
q_built_in sc RotateZ ss args s need walk q r = search quiet

q_found : (sc : Scope) (b : Option BuiltIn) (f : Option Found) (ss args : Expressions) (s : Spot) (need : Need) (walk : Arguments) {later : Check (List Value)} → ((l : List Asked) → Quiet (walk l)) → Quiet later → Quiet (call_found sc b f ss args s need walk later)
q_found sc (Some b) f ss args s need walk q r = q_built_in sc b ss args s need walk q r
q_found sc None (Some f) ss args s need walk q r = q_own sc f ss args s need walk q
q_found sc None None ss args s need walk q r = search quiet

mutual
  pub expr_quiet : (e : Expression) (sc : Scope) (need : Need) (wants : List Ty) → Quiet (expr e sc need wants)
  expr_quiet (number n s) sc need wants = q_static sc (number n s) wants
  expr_quiet (typed_number n k s) sc need wants = q_bind (q_typed sc n k s) (λ v. q_back (v ∷ []))
  expr_quiet (truth b s) sc need wants = q_static sc (truth b s) wants
  expr_quiet (pi s) sc need wants = q_fail _
  expr_quiet (place p s) sc need wants = q_unless sc (place p s) wants (q_bind (q_use_place sc p s need) (λ v. q_back (v ∷ [])))
  expr_quiet (called f ss args s) sc need wants = q_found sc (built_in sc.words f) (find_fun sc.before f) ss args s need (λ l. arguments args sc needs.Held l) (λ l. arguments_quiet args sc needs.Held l) (later_quiet args sc)
  expr_quiet (tuple es s) sc need wants = arguments_quiet es sc need (asked_of_items need wants)
  expr_quiet (unary op e s) sc need wants =
      q_unless sc (unary op e s) wants (q_bind (expr_quiet e sc needs.Held []) (λ vs. q_bind (q_single e vs) (λ v. q_unary op s v)))
  expr_quiet (binary op a b s) sc need wants =
      q_unless sc (binary op a b s) wants
      (q_bind (q_operands sc a _ _ (λ w. q_bind (expr_quiet a sc needs.Held (lone_wants a w)) (λ vs. q_single a vs)) (λ w. q_bind (expr_quiet b sc needs.Held (lone_wants b w)) (λ vs. q_single b vs)))
      (λ r. q_binary sc op a b s r.0 r.1))

  arguments_quiet : (es : Expressions) (sc : Scope) (other : Need) (l : List Asked) → Quiet (arguments es sc other l)
  arguments_quiet none sc other l = q_back []
  arguments_quiet (more e es) sc other l =
      q_bind (expr_quiet e sc (lone_need e (first_asked other l).need) (lone_wants e (first_asked other l).wants)) (λ vs.
      q_bind (q_single e vs) (λ v.
      q_then (q_suits e (first_asked other l).wants v)
      (q_bind (arguments_quiet es sc other (later_asked l)) (λ rest. q_back (v ∷ rest)))))

  later_quiet : (es : Expressions) (sc : Scope) → Quiet (later_arguments es sc)
  later_quiet none sc = q_back []
  later_quiet (more e es) sc = arguments_quiet es sc needs.Held []
