-- A classical value that an expression hands on is not Linear.
use Rattle.std.proofs.Common.{◌≡◌, Bool, true, false, cond, not, ◌&&◌, List, [], ◌∷◌, refl, sym, ap, ◌∙◌}
use Rattle.std.specs.Prelude.{⊤, Option, Some, None, ℤ}
use Rattle.silq_tree.specs.declared.node.Spot.{Spot}
use Rattle.silq_tree.specs.Syntax.{Expression, Expressions, Place, number, typed_number, truth, pi, place, called, tuple, unary, binary, none, more}
use Rattle.static_num.specs.Static.{is_static}
use Rattle.silq_types.specs.declared.types.Shape.{Shape}
use Rattle.silq_types.specs.declared.types.Ty.{Ty}
use Rattle.silq_types.specs.declared.need.Need.{Need}
use Rattle.silq_types.specs.declared.need.Need.TheVariants as needs
use Rattle.silq_types.specs.declared.built_in.BuiltIn.{BuiltIn}
use Rattle.silq_types.specs.declared.built_in.BuiltIn.TheVariants.{HGate, XGate, YGate, ZGate, Dup, Measure, Vector, RotateX, RotateY, RotateZ}
use Rattle.silq_types.specs.declared.signature.InstanceKey.{InstanceKey}
use Rattle.silq_types.specs.declared.signature.Returned.{Returned}
use Rattle.silq_types.specs.declared.signature.Signature.{Signature}
use Rattle.silq_types.specs.declared.values.Origin.{Origin}
use Rattle.silq_types.specs.declared.values.Origin.TheVariants.{Lifted, Linear, Classical}
use Rattle.silq_types.specs.declared.values.Value.{Value}
use Rattle.silq_types.specs.declared.values.Part.{Part}
use Rattle.silq_types.specs.declared.values.Var.{Var}
use Rattle.silq_types.specs.Types.{is_linear, place_name}
use Rattle.silq_types.specs.Calls.{Found, is_consumed, built_in, find_fun}
use Rattle.check_scope.specs.Context.{Scope, Context, Check, ◌>>=◌, ◌>>◌, part_type, part_at, indices}
use Rattle.check_scope.specs.Places.{new_value, move, unmoved, is_moved, use_part, use_found, use_place}
use Rattle.check_expr.specs.Expression.{Arguments, origin_of, one_value, static_value, unless_static, expr, arguments, later_arguments, is_tuple, typed_by, flip_value, gate_value, gate_values, many, placed, argument_at, result_values, result_origin, call_gate, call_built_in, call_own, call_found, vector_value}
use Rattle.check_expr.specs.Owners.{Ensures}
use Rattle.check_expr.proofs.Owners.{gives-more, o_bind, o_then, o_back, o_fail, o_if, o_rules}
use Rattle.flat_form.specs.Names.{AllOf}
use Rattle.flat_typed.proofs.Ordered.{clash}
use Rattle.flat_typed.proofs.Leaving.{k_any}

-- ---- a classical value that is handed on is not Linear

abbrev pub IsPlain : Value → Type 0
IsPlain v = v.ty.classical ≡ true → is_linear v.origin ≡ false

module _ (S : InstanceKey → Signature → Type 0) where
  abbrev pub Any : Context → Type 0
  Any c = ⊤

  abbrev pub Plain : Value → Context → Type 0
  Plain v c = IsPlain v

  abbrev pub Plains : List Value → Context → Type 0
  Plains vs c = AllOf IsPlain vs

  n_new : (t : Ty) (o : Origin) → (t.classical ≡ true → is_linear o ≡ false) → Ensures S Any (new_value t o) Plain
  unfolding ◌>>=◌
  n_new t o h = record { runs = λ c p. h }

  n_one : (t : Ty) (o : Origin) → (t.classical ≡ true → is_linear o ≡ false) → Ensures S Any (one_value t o) Plains
  n_one t o h = o_bind S 0 (n_new t o h) (λ v. o_back S 0 (v ∷ []) (λ c p. (p, tt)))

  unlinear : (b : Bool) → is_linear (origin_of b) ≡ false
  unlinear true = refl
  unlinear false = refl

  n_static : (sc : Scope) (e : Expression) (wants : List Ty) → Ensures S Any (static_value sc e wants) Plains
  n_static sc e [] = o_fail S 0 _
  n_static sc e (t ∷ []) = o_bind S 0 (k_any S 0 _) (λ z. o_then S 0 (k_any S 0 _) (λ u. n_one t (origin_of t.classical) (λ q. unlinear t.classical)))
  n_static sc e (t ∷ (u ∷ ts)) = o_fail S 0 _

  n_unless : (sc : Scope) (e : Expression) (wants : List Ty) {m : Check (List Value)} → Ensures S Any m Plains → Ensures S Any (unless_static sc e wants m) Plains
  n_unless sc e wants h = o_if S 0 (is_static sc.statics e) (λ x. n_static sc e wants) (λ x. h)

  n_typed : (c : Bool) (h : Shape) → Ensures S Any (typed_by c h) Plains
  n_typed c h = n_one _ (origin_of c) (λ q. unlinear c)

  n_flip : (b : BuiltIn) (s : Spot) (need : Need) (v : Value) → Ensures S Any (flip_value b s need v) Plains
  n_flip b s need v = o_then S 0 (k_any S 0 _) (λ u. o_then S 0 (k_any S 0 _) (λ w. o_back S 0 _ (λ c h. ((λ q. clash (sym q)), tt))))

  n_gate : (b : BuiltIn) (s : Spot) (need : Need) (v : Value) → Ensures S Any (gate_value b s need v) Plains
  n_gate HGate s need v = n_flip HGate s need v
  n_gate XGate s need v = n_flip XGate s need v
  n_gate YGate s need v = n_flip YGate s need v
  n_gate ZGate s need v = n_flip ZGate s need v
  n_gate Dup s need v = n_one _ Lifted (λ q. refl)
  n_gate Measure s need v = n_one _ Classical (λ q. refl)
  n_gate Vector s need v = n_flip Vector s need v
  n_gate RotateX s need v = n_flip RotateX s need v
  n_gate RotateY s need v = n_flip RotateY s need v
  n_gate RotateZ s need v = n_flip RotateZ s need v

  n_gates : (b : BuiltIn) (s : Spot) (need : Need) (vs : List Value) → Ensures S Any (gate_values b s need vs) Plains
  n_gates b s need [] = o_fail S 0 _
  n_gates b s need (v ∷ []) = n_gate b s need v
  n_gates b s need (v ∷ (w ∷ vs)) = o_fail S 0 _

  n_many : (s : Spot) (vs : List Value) (n : ℤ) → Ensures S Any (many s vs n) Plains
  n_many s [] n = o_fail S 0 _
  n_many s (v ∷ []) n = n_one _ Lifted (λ q. refl)
  n_many s (v ∷ (w ∷ vs)) n = o_fail S 0 _

  result_plain : (lifts : Bool) (t : Ty) → t.classical ≡ true → is_linear (result_origin lifts t) ≡ false
  result_plain lifts t e = ap (λ b. is_linear (cond b Classical (cond lifts Lifted Linear))) e

  n_placed : (o : Option Value) (t : Ty) (k : Origin) → (t.classical ≡ true → is_linear k ≡ false) → Ensures S Any (placed o t k) Plain
  n_placed None t k h = n_new t k h
  n_placed (Some v) t k h = o_back S 0 _ (λ c p. h)

  n_results : (lifts : Bool) (vs : List Value) (rs : List Returned) → Ensures S Any (result_values lifts vs rs) Plains
  n_results lifts vs [] = o_back S 0 [] (λ c p. tt)
  n_results lifts vs (r ∷ rs) =
      o_bind S 0 (n_placed (argument_at vs r.from) r.ty (result_origin lifts r.ty) (result_plain lifts r.ty)) (λ x.
      o_bind S 0 (keep x (result_values lifts vs rs) (n_results lifts vs rs)) (λ xs. o_back S 0 (x ∷ xs) (λ c h. h)))
    where
      keep : (x : Value) (m : Check (List Value)) → Ensures S Any m Plains → Ensures S (Plain x) m (λ xs d. Plain x d × AllOf IsPlain xs)
      keep x m h = record { runs = λ c p. gives-more S 0 (λ r. AllOf IsPlain r.0) (λ r. IsPlain x × AllOf IsPlain r.0) (m c) (h.runs c tt) (λ r q. (p, q)) }

  -- ---- places

  n_unmoved : (need : Need) (t : Ty) (v : Var) → need ≡ needs.Consumed → Ensures S Any (unmoved need t v) Plain
  n_unmoved needs.Held t v e = clash (sym (ap is_consumed e))
  n_unmoved needs.Consumed t v e = n_new t Classical (λ q. refl)

  n_move : (need : Need) (t : Ty) (v : Var) → is_moved need t ≡ true → Ensures S Any (move t v) Plain
  n_move need t v e = record { runs = λ c p q. clash (sym e ∙ (ap (λ b. is_consumed need && not b) q ∙ and_false (is_consumed need))) }
    where
      and_false : (a : Bool) → (a && false) ≡ false
      and_false true = refl
      and_false false = refl

  n_found : (sc : Scope) (s : Spot) (need : Need) (p : Part) (vars : List Var) (o w : Option Var) → need ≡ needs.Consumed → Ensures S Any (use_found sc s need p vars o w) Plain
  n_found sc s need p vars (Some v) w e = o_then S 0 (k_any S 0 _) (λ u. o_if S 0 (is_moved need v.ty) (λ m. n_move need v.ty v m) (λ m. n_unmoved need v.ty v e))
  n_found sc s need p vars None (Some w) e = n_part (part_type w.ty.classical w.ty.shape (indices p))
    where
      n_part : (t : Option Ty) → Ensures S Any (use_part sc s need p w vars t) Plain
      n_part None = o_then S 0 (k_any S 0 _) (λ u. o_fail S 0 _)
      n_part (Some t) = o_then S 0 (k_any S 0 _) (λ u. n_unmoved need t w e)
  n_found sc s need p vars None None e = o_fail S 0 _

  n_place : (w : Place) (sc : Scope) (s : Spot) → Ensures S Any (use_place sc w s needs.Consumed) Plain
  n_place w sc s =
      o_bind S 0 (k_any S 0 _) (λ values. o_bind S 0 (k_any S 0 _) (λ vars. o_then S 0 (k_any S 0 _) (λ u. n_found sc s needs.Consumed (part_at (place_name w) values) vars _ _ refl)))

  -- ---- calls

  n_call_gate : (sc : Scope) (b : BuiltIn) (ss args : Expressions) (s : Spot) (need : Need) (walk : Arguments) → Ensures S Any (call_gate sc b ss args s need walk) Plains
  n_call_gate sc b ss args s need walk = o_then S 0 (k_any S 0 _) (λ u. o_bind S 0 (k_any S 0 _) (λ vs. n_gates b s need vs))

  n_vector : (sc : Scope) (s : Spot) (args : Expressions) (later : Check (List Value)) → Ensures S Any (vector_value sc s args later) Plains
  n_vector sc s none later = o_fail S 0 _
  n_vector sc s (more a rest) later = o_then S 0 (k_any S 0 _) (λ u. o_bind S 0 (k_any S 0 _) (λ m. o_bind S 0 (k_any S 0 _) (λ vs. o_then S 0 (k_any S 0 _) (λ u'. n_many s vs m))))

  n_built_in : (sc : Scope) (b : BuiltIn) (ss args : Expressions) (s : Spot) (need : Need) (walk : Arguments) (later : Check (List Value)) → Ensures S Any (call_built_in sc b ss args s need walk later) Plains
  n_built_in sc HGate ss args s need walk later = n_call_gate sc HGate ss args s need walk
  n_built_in sc XGate ss args s need walk later = n_call_gate sc XGate ss args s need walk
  n_built_in sc YGate ss args s need walk later = n_call_gate sc YGate ss args s need walk
  n_built_in sc ZGate ss args s need walk later = n_call_gate sc ZGate ss args s need walk
  n_built_in sc Dup ss args s need walk later = n_call_gate sc Dup ss args s need walk
  n_built_in sc Measure ss args s need walk later = n_call_gate sc Measure ss args s need walk
  n_built_in sc Vector ss args s need walk later = o_then S 0 (k_any S 0 _) (λ u. n_vector sc s args later)
  n_built_in sc RotateX ss args s need walk later = o_fail S 0 _
  n_built_in sc RotateY ss args s need walk later = o_fail S 0 _
  n_built_in sc RotateZ ss args s need walk later = o_fail S 0 _

  n_own : (sc : Scope) (f : Found) (ss args : Expressions) (s : Spot) (need : Need) (walk : Arguments) → Ensures S Any (call_own sc f ss args s need walk) Plains
  n_own sc f ss args s need walk =
      o_then S 0 (k_any S 0 _) (λ u. o_bind S 0 (k_any S 0 _) (λ zs. o_bind S 0 (k_any S 0 _) (λ h. o_bind S 0 (k_any S 0 _) (λ vars. o_then S 0 (k_any S 0 _) (λ u'.
      o_bind S 0 (k_any S 0 _) (λ vs. o_bind S 0 (k_any S 0 _) (λ sig. o_bind S 0 (n_results _ vs sig.results) (λ xs. o_then S 0 (o_rules S 0 s _) (λ w. o_back S 0 xs (λ c h. h.1))))))))))

  n_call : (sc : Scope) (b : Option BuiltIn) (o : Option Found) (ss args : Expressions) (s : Spot) (need : Need) (walk : Arguments) (later : Check (List Value)) → Ensures S Any (call_found sc b o ss args s need walk later) Plains
  n_call sc (Some b) o ss args s need walk later = n_built_in sc b ss args s need walk later
  n_call sc None (Some f) ss args s need walk later = n_own sc f ss args s need walk
  n_call sc None None ss args s need walk later = o_fail S 0 _

  -- ---- expressions

  pub n_expr : (e : Expression) (sc : Scope) (wants : List Ty) → is_tuple e ≡ false → Ensures S Any (expr e sc needs.Consumed wants) Plains
  n_expr (number n s) sc wants t = n_static sc (number n s) wants
  n_expr (typed_number n k s) sc wants t =
      o_bind S 0 (o_bind S 0 (k_any S 0 _) (λ vars. o_bind S 0 (k_any S 0 _) (λ k'. o_then S 0 (k_any S 0 _) (λ u. n_new _ Lifted (λ q. refl))))) (λ v. o_back S 0 (v ∷ []) (λ c p. (p, tt)))
  n_expr (truth b s) sc wants t = n_static sc (truth b s) wants
  n_expr (pi s) sc wants t = o_fail S 0 _
  n_expr (place w s) sc wants t = n_unless sc (place w s) wants (o_bind S 0 (n_place w sc s) (λ v. o_back S 0 (v ∷ []) (λ c p. (p, tt))))
  n_expr (called f ss args s) sc wants t = n_call sc (built_in sc.words f) (find_fun sc.before f) ss args s needs.Consumed (λ l. arguments args sc needs.Held l) (later_arguments args sc)
  n_expr (tuple es s) sc wants t = clash t
  n_expr (unary op e s) sc wants t = n_unless sc (unary op e s) wants (o_bind S 0 (k_any S 0 _) (λ vs. o_bind S 0 (k_any S 0 _) (λ v. o_then S 0 (k_any S 0 _) (λ u. n_typed v.ty.classical v.ty.shape))))
  n_expr (binary op a b s) sc wants t = n_unless sc (binary op a b s) wants (o_bind S 0 (k_any S 0 _) (λ r. o_bind S 0 (k_any S 0 _) (λ vars. o_then S 0 (k_any S 0 _) (λ u. n_typed _ _))))
