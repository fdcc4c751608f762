-- A value that an expression hands on is not held.
use Rattle.std.proofs.Common.{◌≡◌, Bool, true, false, cond, not, ◌&&◌, List, [], ◌∷◌, refl, sym, ap, ◌∙◌}
use Rattle.std.specs.Prelude.{⊤, Option, Some, None, ℤ}
use Rattle.silq_tree.specs.declared.node.Spot.{Spot}
use Rattle.silq_tree.specs.Syntax.{Expression, Expressions, Place, number, typed_number, truth, pi, place, called, tuple, unary, binary, none, more}
use Rattle.static_num.specs.Static.{is_static}
use Rattle.silq_types.specs.declared.types.Ty.{Ty}
use Rattle.silq_types.specs.declared.need.Need.{Need}
use Rattle.silq_types.specs.declared.need.Need.TheVariants as needs
use Rattle.silq_types.specs.declared.built_in.BuiltIn.{BuiltIn}
use Rattle.silq_types.specs.declared.built_in.BuiltIn.TheVariants.{HGate, XGate, YGate, ZGate, Dup, Measure, Vector, RotateX, RotateY, RotateZ}
use Rattle.silq_types.specs.declared.signature.InstanceKey.{InstanceKey}
use Rattle.silq_types.specs.declared.signature.Returned.{Returned}
use Rattle.silq_types.specs.declared.signature.Signature.{Signature}
use Rattle.silq_types.specs.declared.values.Origin.{Origin}
use Rattle.silq_types.specs.declared.values.Origin.TheVariants.{Lifted, Linear, Classical, Held}
use Rattle.silq_types.specs.declared.values.Value.{Value}
use Rattle.silq_types.specs.declared.values.Part.{Part}
use Rattle.silq_types.specs.declared.values.Var.{Var}
use Rattle.silq_types.specs.Types.{is_held, place_name}
use Rattle.silq_types.specs.Calls.{Found, is_consumed, built_in, find_fun}
use Rattle.check_scope.specs.Context.{Scope, Context, Check, ◌>>=◌, ◌>>◌, give_back, part_type, part_at, indices}
use Rattle.check_scope.specs.Places.{new_value, unmoved, is_moved, use_part, use_found, use_place}
use Rattle.check_expr.specs.Expression.{Asked, Arguments, single, suits, origin_of, one_value, static_value, unless_static, expr, arguments, later_arguments, is_tuple, lone_need, lone_wants, asked_of_items, flipped_origin, gate_origin, flip_value, gate_value, gate_values, many, placed, argument_at, result_values, result_origin, call_gate, call_built_in, call_own, call_found, vector_value}
use Rattle.check_expr.specs.Owners.{Ensures}
use Rattle.check_expr.proofs.Owners.{gives-more, o_bind, o_then, o_more, o_back, o_fail, o_if, o_rules, o_suits}
use Rattle.flat_form.specs.Names.{AllOf}
use Rattle.flat_typed.proofs.Ordered.{clash}
use Rattle.flat_typed.proofs.Leaving.{k_any}
use Rattle.flat_typed.proofs.Reached.{one_of}
use Rattle.flat_typed.proofs.Unary.{unheld_origin}
use Rattle.flat_typed.proofs.CallResults.{unheld}

abbrev pub Unheld : Value → Type 0
Unheld v = is_held v.origin ≡ false

flipped_unheld : (o : Origin) → is_held (flipped_origin o) ≡ false
flipped_unheld Lifted = refl
flipped_unheld Linear = refl
flipped_unheld Classical = refl
flipped_unheld Held = refl

gate_unheld : (b : BuiltIn) (o : Origin) → is_held (gate_origin b o) ≡ false
gate_unheld HGate o = refl
gate_unheld XGate o = flipped_unheld o
gate_unheld YGate o = refl
gate_unheld ZGate o = refl
gate_unheld Dup o = refl
gate_unheld Measure o = refl
gate_unheld Vector o = refl
gate_unheld RotateX o = refl
gate_unheld RotateY o = refl
gate_unheld RotateZ o = refl

module _ (S : InstanceKey → Signature → Type 0) where
  abbrev Any : Context → Type 0
  Any c = ⊤

  abbrev One : Value → Context → Type 0
  One v c = Unheld v

  abbrev pub Each : List Value → Context → Type 0
  Each vs c = AllOf Unheld vs

  -- what is known before a walk is known behind it
  keep : {A : Type 0} (R : Type 0) (Q : A → Type 0) (m : Check A) → Ensures S Any m (λ a d. Q a) → Ensures S (λ c. R) m (λ a d. R × Q a)
  keep R Q m h = record { runs = λ c p. gives-more S 0 (λ r. Q r.0) (λ r. R × Q r.0) (m c) (h.runs c tt) (λ r q. (p, q)) }

  n_new : (t : Ty) (o : Origin) → is_held o ≡ false → Ensures S Any (new_value t o) One
  unfolding ◌>>=◌
  n_new t o h = record { runs = λ c p. h }

  n_one : (t : Ty) (o : Origin) → is_held o ≡ false → Ensures S Any (one_value t o) Each
  n_one t o h = o_bind S 0 (n_new t o h) (λ v. o_back S 0 (v ∷ []) (λ c p. (p, tt)))

  n_static : (sc : Scope) (e : Expression) (wants : List Ty) → Ensures S Any (static_value sc e wants) Each
  n_static sc e [] = o_fail S 0 _
  n_static sc e (t ∷ []) = o_bind S 0 (k_any S 0 _) (λ z. o_then S 0 (k_any S 0 _) (λ u. n_one t (origin_of t.classical) (unheld_origin t.classical)))
  n_static sc e (t ∷ (u ∷ ts)) = o_fail S 0 _

  n_unless : (sc : Scope) (e : Expression) (wants : List Ty) {m : Check (List Value)} → Ensures S Any m Each → Ensures S Any (unless_static sc e wants m) Each
  n_unless sc e wants h = o_if S 0 (is_static sc.statics e) (λ x. n_static sc e wants) (λ x. h)

  n_flip : (b : BuiltIn) (s : Spot) (need : Need) (v : Value) → Ensures S Any (flip_value b s need v) Each
  n_flip b s need v = o_then S 0 (k_any S 0 _) (λ u. o_then S 0 (k_any S 0 _) (λ w. o_back S 0 _ (λ c h. (gate_unheld b v.origin, tt))))

  n_gate : (b : BuiltIn) (s : Spot) (need : Need) (v : Value) → Ensures S Any (gate_value b s need v) Each
  n_gate HGate s need v = n_flip HGate s need v
  n_gate XGate s need v = n_flip XGate s need v
  n_gate YGate s need v = n_flip YGate s need v
  n_gate ZGate s need v = n_flip ZGate s need v
  n_gate Dup s need v = n_one _ Lifted refl
  n_gate Measure s need v = n_one _ Classical refl
  n_gate Vector s need v = n_flip Vector s need v
  n_gate RotateX s need v = n_flip RotateX s need v
  n_gate RotateY s need v = n_flip RotateY s need v
  n_gate RotateZ s need v = n_flip RotateZ s need v

  n_gates : (b : BuiltIn) (s : Spot) (need : Need) (vs : List Value) → Ensures S Any (gate_values b s need vs) Each
  n_gates b s need [] = o_fail S 0 _
  n_gates b s need (v ∷ []) = n_gate b s need v
  n_gates b s need (v ∷ (w ∷ vs)) = o_fail S 0 _

  n_many : (s : Spot) (vs : List Value) (n : ℤ) → Ensures S Any (many s vs n) Each
  n_many s [] n = o_fail S 0 _
  n_many s (v ∷ []) n = n_one _ Lifted refl
  n_many s (v ∷ (w ∷ vs)) n = o_fail S 0 _

  n_placed : (o : Option Value) (t : Ty) (k : Origin) → is_held k ≡ false → Ensures S Any (placed o t k) One
  n_placed None t k h = n_new t k h
  n_placed (Some v) t k h = o_back S 0 _ (λ c p. h)

  n_results : (lifts : Bool) (vs : List Value) (rs : List Returned) → Ensures S Any (result_values lifts vs rs) Each
  n_results lifts vs [] = o_back S 0 [] (λ c p. tt)
  n_results lifts vs (r ∷ rs) =
      o_bind S 0 (n_placed (argument_at vs r.from) r.ty (result_origin lifts r.ty) (unheld lifts r.ty)) (λ x.
      o_bind S 0 (keep (Unheld x) (AllOf Unheld) (result_values lifts vs rs) (n_results lifts vs rs)) (λ xs. o_back S 0 (x ∷ xs) (λ c h. h)))

  -- ---- places

  n_unmoved : (need : Need) (t : Ty) (v : Var) → need ≡ needs.Consumed → Ensures S Any (unmoved need t v) One
  n_unmoved needs.Held t v e = clash (sym (ap is_consumed e))
  n_unmoved needs.Consumed t v e = n_new t Classical refl

  moved_unheld : (a b : Bool) → a ≡ true → (a && b) ≡ false → b ≡ false
  moved_unheld true b e z = z
  moved_unheld false b e z = clash (sym e)

  n_found : (sc : Scope) (s : Spot) (need : Need) (p : Part) (vars : List Var) (o w : Option Var) → need ≡ needs.Consumed → Ensures S Any (use_found sc s need p vars o w) One
  n_found sc s need p vars (Some v) w e =
      o_then S 0 (o_more S 0 {R = λ u c. (is_moved need v.ty && is_held v.origin) ≡ false} (o_rules S 0 s _) (λ u c h. h.0.1.0)) (λ u. o_if S 0 (is_moved need v.ty)
      (λ m. record { runs = λ c h. moved_unheld (is_moved need v.ty) (is_held v.origin) m h })
      (λ m. record { runs = λ c h. (n_unmoved need v.ty v e).runs c tt }))
  n_found sc s need p vars None (Some w) e = n_part (part_type w.ty.classical w.ty.shape (indices p))
    where
      n_part : (t : Option Ty) → Ensures S Any (use_part sc s need p w vars t) One
      n_part None = o_then S 0 (k_any S 0 _) (λ u. o_fail S 0 _)
      n_part (Some t) = o_then S 0 (k_any S 0 _) (λ u. n_unmoved need t w e)
  n_found sc s need p vars None None e = o_fail S 0 _

  n_place : (w : Place) (sc : Scope) (s : Spot) → Ensures S Any (use_place sc w s needs.Consumed) One
  n_place w sc s =
      o_bind S 0 (k_any S 0 _) (λ values. o_bind S 0 (k_any S 0 _) (λ vars. o_then S 0 (k_any S 0 _) (λ u. n_found sc s needs.Consumed (part_at (place_name w) values) vars _ _ refl)))

  -- ---- calls

  n_call_gate : (sc : Scope) (b : BuiltIn) (ss args : Expressions) (s : Spot) (need : Need) (walk : Arguments) → Ensures S Any (call_gate sc b ss args s need walk) Each
  n_call_gate sc b ss args s need walk = o_then S 0 (k_any S 0 _) (λ u. o_bind S 0 (k_any S 0 _) (λ vs. n_gates b s need vs))

  n_vector : (sc : Scope) (s : Spot) (args : Expressions) (later : Check (List Value)) → Ensures S Any (vector_value sc s args later) Each
  n_vector sc s none later = o_fail S 0 _
  n_vector sc s (more a rest) later = o_then S 0 (k_any S 0 _) (λ u. o_bind S 0 (k_any S 0 _) (λ m. o_bind S 0 (k_any S 0 _) (λ vs. o_then S 0 (k_any S 0 _) (λ u'. n_many s vs m))))

  n_built_in : (sc : Scope) (b : BuiltIn) (ss args : Expressions) (s : Spot) (need : Need) (walk : Arguments) (later : Check (List Value)) → Ensures S Any (call_built_in sc b ss args s need walk later) Each
  n_built_in sc HGate ss args s need walk later = n_call_gate sc HGate ss args s need walk
  n_built_in sc XGate ss args s need walk later = n_call_gate sc XGate ss args s need walk
  n_built_in sc YGate ss args s need walk later = n_call_gate sc YGate ss args s need walk
  n_built_in sc ZGate ss args s need walk later = n_call_gate sc ZGate ss args s need walk
  n_built_in sc Dup ss args s need walk later = n_call_gate sc Dup ss args s need walk
  n_built_in sc Measure ss args s need walk later = n_call_gate sc Measure ss args s need walk
  n_built_in sc Vector ss args s need walk later = o_then S 0 (k_any S 0 _) (λ u. n_vector sc s args later)
  n_built_in sc RotateX ss args s need walk later = o_fail S 0 _
  n_built_in sc RotateY ss args s need walk later = o_fail S 0 _
  n_built_in sc RotateZ ss args s need walk later = o_fail S 0 _

  n_own : (sc : Scope) (f : Found) (ss args : Expressions) (s : Spot) (need : Need) (walk : Arguments) → Ensures S Any (call_own sc f ss args s need walk) Each
  n_own sc f ss args s need walk =
      o_then S 0 (k_any S 0 _) (λ u. o_bind S 0 (k_any S 0 _) (λ zs. o_bind S 0 (k_any S 0 _) (λ h. o_bind S 0 (k_any S 0 _) (λ vars. o_then S 0 (k_any S 0 _) (λ u'.
      o_bind S 0 (k_any S 0 _) (λ vs. o_bind S 0 (k_any S 0 _) (λ sig. o_bind S 0 (n_results _ vs sig.results) (λ xs. o_then S 0 (o_rules S 0 s _) (λ w. o_back S 0 xs (λ c h. h.1))))))))))

  n_call : (sc : Scope) (b : Option BuiltIn) (o : Option Found) (ss args : Expressions) (s : Spot) (need : Need) (walk : Arguments) (later : Check (List Value)) → Ensures S Any (call_found sc b o ss args s need walk later) Each
  n_call sc (Some b) o ss args s need walk later = n_built_in sc b ss args s need walk later
  n_call sc None (Some f) ss args s need walk later = n_own sc f ss args s need walk
  n_call sc None None ss args s need walk later = o_fail S 0 _

  -- ---- expressions

  n_more : (e : Expression) (es : Expressions) (sc : Scope) (wants : List Ty) (l : List Asked) → Ensures S Any (expr e sc (lone_need e needs.Consumed) (lone_wants e wants)) (λ vs c. is_tuple e ≡ false → AllOf Unheld vs)
      → Ensures S Any (arguments es sc needs.Consumed l) Each
      → Ensures S Any (expr e sc (lone_need e needs.Consumed) (lone_wants e wants) >>= (λ vs. single e vs >>= (λ v. suits e wants v >> (arguments es sc needs.Consumed l >>= (λ rest. give_back (v ∷ rest)))))) Each
  n_more e es sc wants l h k =
      o_bind S 0 h (λ vs. o_bind S 0 (one_of S (λ vs d. AllOf Unheld vs) e vs) (λ v. o_then S 0 (o_suits S 0 e wants v) (λ u.
      o_bind S 0 (keep ((is_tuple e ≡ false) × AllOf Unheld (v ∷ [])) (AllOf Unheld) (arguments es sc needs.Consumed l) k) (λ rest. o_back S 0 (v ∷ rest) (λ c h. (h.0.1.0, h.1))))))

  -- a tuple is refused where one value is asked
  n_lone : (e : Expression) (sc : Scope) (wants : List Ty) (b : Bool) → is_tuple e ≡ b → Ensures S Any (expr e sc needs.Consumed wants) Each
      → Ensures S Any (expr e sc (cond b needs.Held needs.Consumed) (cond b [] wants)) (λ vs c. is_tuple e ≡ false → AllOf Unheld vs)
  n_lone e sc wants true q h = o_more S 0 (k_any S 0 {P = Any} _) (λ vs c x z. clash (sym q ∙ z))
  n_lone e sc wants false q h = o_more S 0 h (λ vs c x z. x)

  mutual
    pub unheld_values : (e : Expression) (sc : Scope) (wants : List Ty) → Ensures S Any (expr e sc needs.Consumed wants) Each
    unheld_values (number n s) sc wants = n_static sc (number n s) wants
    unheld_values (typed_number n k s) sc wants =
        o_bind S 0 (o_bind S 0 (k_any S 0 _) (λ vars. o_bind S 0 (k_any S 0 _) (λ k'. o_then S 0 (k_any S 0 _) (λ u. n_new _ Lifted refl)))) (λ v. o_back S 0 (v ∷ []) (λ c p. (p, tt)))
    unheld_values (truth b s) sc wants = n_static sc (truth b s) wants
    unheld_values (pi s) sc wants = o_fail S 0 _
    unheld_values (place w s) sc wants = n_unless sc (place w s) wants (o_bind S 0 (n_place w sc s) (λ v. o_back S 0 (v ∷ []) (λ c p. (p, tt))))
    unheld_values (called f ss args s) sc wants = n_call sc (built_in sc.words f) (find_fun sc.before f) ss args s needs.Consumed (λ l. arguments args sc needs.Held l) (later_arguments args sc)
    unheld_values (tuple es s) sc wants = unheld_items es sc wants
    unheld_values (unary op e s) sc wants = n_unless sc (unary op e s) wants (o_bind S 0 (k_any S 0 _) (λ vs. o_bind S 0 (k_any S 0 _) (λ v. o_then S 0 (k_any S 0 _) (λ u. n_one _ _ (unheld_origin v.ty.classical)))))
    unheld_values (binary op a b s) sc wants = n_unless sc (binary op a b s) wants (o_bind S 0 (k_any S 0 _) (λ r. o_bind S 0 (k_any S 0 _) (λ vars. o_then S 0 (k_any S 0 _) (λ u. n_one _ _ (unheld_origin (r.0.ty.classical && r.1.ty.classical))))))

    unheld_items : (es : Expressions) (sc : Scope) (wants : List Ty) → Ensures S Any (arguments es sc needs.Consumed (asked_of_items needs.Consumed wants)) Each
    unheld_items none sc wants = o_back S 0 [] (λ c p. tt)
    unheld_items (more e es) sc [] = n_more e es sc [] (asked_of_items needs.Consumed []) (n_lone e sc [] (is_tuple e) refl (unheld_values e sc [])) (unheld_items es sc [])
    unheld_items (more e es) sc (t ∷ ts) = n_more e es sc (t ∷ []) (asked_of_items needs.Consumed ts) (n_lone e sc (t ∷ []) (is_tuple e) refl (unheld_values e sc (t ∷ []))) (unheld_items es sc ts)
