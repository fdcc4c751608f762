-- Steps of an expression's walk that leave all variables: what holds of the variables holds behind them.
use Rattle.std.proofs.Common.{◌≡◌, ℕ, Bool, false, List, [], ◌∷◌}
use Rattle.std.specs.Prelude.{⊤, Option, Some, None, Ok, ℤ}
use Rattle.silq_tree.specs.declared.node.NameId.{NameId}
use Rattle.silq_tree.specs.declared.node.Spot.{Spot}
use Rattle.silq_tree.specs.declared.node.UnaryOp.{UnaryOp}
use Rattle.silq_tree.specs.declared.node.BinaryOp.{BinaryOp}
use Rattle.silq_tree.specs.Syntax.{Expression, ScalarType}
use Rattle.silq_types.specs.declared.types.Scalar.{Scalar}
use Rattle.silq_types.specs.declared.types.Ty.{Ty}
use Rattle.silq_types.specs.declared.signature.InstanceKey.{InstanceKey}
use Rattle.silq_types.specs.declared.signature.Returned.{Returned}
use Rattle.silq_types.specs.declared.signature.Signature.{Signature}
use Rattle.silq_types.specs.declared.values.Origin.{Origin}
use Rattle.silq_types.specs.declared.values.Origin.TheVariants.{Lifted}
use Rattle.silq_types.specs.declared.values.Value.{Value}
use Rattle.silq_types.specs.declared.values.Var.{Var}
use Rattle.silq_types.specs.Types.{single_shape, quantum, at}
use Rattle.silq_types.specs.declared.need.Need.{Need}
use Rattle.silq_types.specs.declared.built_in.BuiltIn.{BuiltIn}
use Rattle.silq_types.specs.declared.built_in.BuiltIn.TheVariants.{HGate, XGate, YGate, ZGate, Dup, Measure, Vector, RotateX, RotateY, RotateZ}
use Rattle.silq_mean.specs.Written.{needed_at, scalar_type}
use Rattle.check_scope.specs.Walk.{Walk, answer, broken, counted, asked}
use Rattle.check_scope.specs.Context.{Scope, Context, Check, ◌>>=◌, is_known_name}
use Rattle.check_scope.specs.Places.{new_value}
use Rattle.check_expr.specs.Expression.{origin_of, one_value, static_value, typed_value, single, is_tuple, unary_value, binary_value, flip_value, gate_value, gate_values, many, placed, result_values, result_origin, argument_at}
use Rattle.check_expr.specs.Owners.{Gives, Ensures}
use Rattle.check_expr.proofs.Owners.{o_bind, o_then, o_from, o_back, o_fail, o_if, o_rules, o_result, o_variables}

module _ (S : InstanceKey → Signature → Type 0) (low : ℕ) where
  -- of the variables
  abbrev pub On : (List Var → Type 0) → Context → Type 0
  On P c = P c.vars

  gives_any : {A : Type 0} (w : Walk A) → Gives S (λ a. ⊤) w
  gives_any (answer a) = tt
  gives_any (broken e) = tt
  gives_any (counted w) = gives_any w
  gives_any (asked k next) = λ s h. gives_any (next s)

  -- nothing is told
  pub k_any : {A : Type 0} {P : Context → Type 0} (m : Check A) → Ensures S P m (λ a d. ⊤)
  k_any m = record { runs = λ c p. gives_any (m c) }

  pub k_new : (P : List Var → Type 0) (t : Ty) (o : Origin) → Ensures S (On P) (new_value t o) (λ v. On P)
  unfolding ◌>>=◌
  k_new P t o = record { runs = λ c p. p }

  pub k_one : (P : List Var → Type 0) (t : Ty) (o : Origin) → Ensures S (On P) (one_value t o) (λ vs. On P)
  k_one P t o = o_bind S low (k_new P t o) (λ v. o_back S low (v ∷ []) (λ c p. p))

  pub k_static : (P : List Var → Type 0) (sc : Scope) (e : Expression) (wants : List Ty) → Ensures S (On P) (static_value sc e wants) (λ vs. On P)
  k_static P sc e [] = o_fail S low _
  k_static P sc e (t ∷ []) = o_bind S low (o_result S low (needed_at sc.statics e (at e))) (λ z. o_then S low (o_rules S low (at e) _) (λ u. o_from S low (λ c h. h.1.1) (k_one P t (origin_of t.classical))))
  k_static P sc e (t ∷ (u ∷ ts)) = o_fail S low _

  -- a number with a type: its type is told
  pub k_typed : (P Q : List Var → Type 0) (sc : Scope) (n : ℤ) (k : ScalarType) (s : Spot)
      → ((known : NameId → Bool) (t : Scalar) (vars : List Var) → scalar_type sc.statics known k s ≡ Ok t → P vars → Q vars)
      → Ensures S (On P) (typed_value sc n k s) (λ v. On Q)
  k_typed P Q sc n k s f =
      o_bind S low (o_variables S low) (λ vars. o_bind S low (o_result S low (scalar_type sc.statics (is_known_name sc vars) k s)) (λ t. o_then S low (o_rules S low s _) (λ u.
      o_from S low (λ c h. f (is_known_name sc vars) t c.vars h.1.0 h.1.1.1) (k_new Q (quantum (single_shape t)) Lifted))))

  -- where a tuple is refused
  pub k_single : (Q : Context → Type 0) (e : Expression) (vs : List Value) → Ensures S (λ d. is_tuple e ≡ false → Q d) (single e vs) (λ v. Q)
  k_single Q e [] = o_if S low (is_tuple e) (λ x. o_fail S low _) (λ x. o_fail S low _)
  k_single Q e (v ∷ []) = o_if S low (is_tuple e) (λ x. o_fail S low _) (λ x. o_back S low v (λ c p. p x))
  k_single Q e (v ∷ (w ∷ vs)) = o_if S low (is_tuple e) (λ x. o_fail S low _) (λ x. o_fail S low _)

  pub k_unary : (P : List Var → Type 0) (op : UnaryOp) (s : Spot) (v : Value) → Ensures S (On P) (unary_value op s v) (λ vs. On P)
  k_unary P op s v = o_then S low (o_rules S low s _) (λ u. o_from S low (λ c h. h.1) (k_one P _ _))

  pub k_binary : (P : List Var → Type 0) (sc : Scope) (op : BinaryOp) (a b : Expression) (s : Spot) (x y : Value) → Ensures S (On P) (binary_value sc op a b s x y) (λ vs. On P)
  k_binary P sc op a b s x y = o_bind S low (o_variables S low) (λ vars. o_then S low (o_rules S low s _) (λ u. o_from S low (λ c h. h.1.1) (k_one P _ _)))

  k_flip : (P : List Var → Type 0) (b : BuiltIn) (s : Spot) (need : Need) (v : Value) → Ensures S (On P) (flip_value b s need v) (λ vs. On P)
  k_flip P b s need v = o_then S low (o_rules S low s _) (λ u. o_then S low (o_rules S low s _) (λ w. o_back S low _ (λ c h. h.1.1)))

  k_gate : (P : List Var → Type 0) (b : BuiltIn) (s : Spot) (need : Need) (v : Value) → Ensures S (On P) (gate_value b s need v) (λ vs. On P)
  k_gate P HGate s need v = k_flip P HGate s need v
  k_gate P XGate s need v = k_flip P XGate s need v
  k_gate P YGate s need v = k_flip P YGate s need v
  k_gate P ZGate s need v = k_flip P ZGate s need v
  k_gate P Dup s need v = k_one P _ _
  k_gate P Measure s need v = k_one P _ _
  k_gate P Vector s need v = k_flip P Vector s need v
  k_gate P RotateX s need v = k_flip P RotateX s need v
  k_gate P RotateY s need v = k_flip P RotateY s need v
  k_gate P RotateZ s need v = k_flip P RotateZ s need v

  pub k_gates : (P : List Var → Type 0) (b : BuiltIn) (s : Spot) (need : Need) (vs : List Value) → Ensures S (On P) (gate_values b s need vs) (λ vs. On P)
  k_gates P b s need [] = o_fail S low _
  k_gates P b s need (v ∷ []) = k_gate P b s need v
  k_gates P b s need (v ∷ (w ∷ vs)) = o_fail S low _

  pub k_many : (P : List Var → Type 0) (s : Spot) (vs : List Value) (n : ℤ) → Ensures S (On P) (many s vs n) (λ vs. On P)
  k_many P s [] n = o_fail S low _
  k_many P s (v ∷ []) n = k_one P _ _
  k_many P s (v ∷ (w ∷ vs)) n = o_fail S low _

  k_placed : (P : List Var → Type 0) (o : Option Value) (t : Ty) (k : Origin) → Ensures S (On P) (placed o t k) (λ v. On P)
  k_placed P None t k = k_new P t k
  k_placed P (Some v) t k = o_back S low _ (λ c p. p)

  pub k_results : (P : List Var → Type 0) (lifts : Bool) (vs : List Value) (rs : List Returned) → Ensures S (On P) (result_values lifts vs rs) (λ xs. On P)
  k_results P lifts vs [] = o_back S low [] (λ c p. p)
  k_results P lifts vs (r ∷ rs) = o_bind S low (k_placed P (argument_at vs r.from) r.ty (result_origin lifts r.ty)) (λ x. o_bind S low (k_results P lifts vs rs) (λ xs. o_back S low (x ∷ xs) (λ c p. p)))
