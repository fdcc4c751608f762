-- What the walk of an expression gives has the types that are told without it.
use Rattle.std.specs.Prelude.{◌≡◌, refl, ℕ, max, Bool, true, false, not, cond, ◌&&◌, ◌||◌, List, [], ◌∷◌, length, map, Option, Some, None, option_map, Result, Ok, Err, ℤ, pos, nat_abs, nat_lt, ◌+◌, ⊤}
use mathlib.Core.Path.{sym, ap, ◌∙◌, subst}
use Rattle.check_expr.proofs.Owners.{gives-more, o_bind, o_then, o_more, o_from, o_back, o_fail, o_if, o_rules, o_result, o_variables, o_names, o_natural, o_signature, o_suits}
use Rattle.check_expr.proofs.ShapesVars.{SameTypes, consumed_type, scalar_same}
use Rattle.check_expr.specs.Expression.{Asked, first_asked, later_asked, asked_by, asked_by_built_in, Arguments, one_value, static_value, unless_static, typed_value, typed_by, unary_value, binary_value, is_tuple, lone_need, lone_wants, single, single_of, operands, flip_value, gate_value, gate_values, repeated, many, length_value, all_typed, vector_value, call_gate, call_built_in, static_arguments, exact_place, result_origin, placed, argument_at, result_values, unnamed_rule, lone_linear, all_lifted, is_qfree, call_own, call_found, asked_of_items, expr, arguments, later_arguments}
use Rattle.silq_types.specs.Programs.{paired}
use Rattle.check_expr.specs.Owners.{Gives, Ensures}
use Rattle.check_expr.specs.Shapes.{some_static, has_static, types_of_values, shape_of, or_any, first_type, scalar_told, part_of_place, var_type, found_type, part_told, joined_type, binary_type, gate_type, count_told, length_told, built_in_type, result_types, signed_types, instance_types, call_types, type_of, first_item, second_item, item_types, types_of, types_told}
use Rattle.check_scope.specs.Context.{Scope, Context, Check, ◌>>=◌, ◌>>◌, give_back, signature, needed, all_needed, find_var, variable, part_at, is_known_name}
use Rattle.check_scope.specs.Places.{new_value, move, unmoved, is_moved, use_part, use_found, use_place}
use Rattle.check_scope.specs.State.{State, context_of}
use Rattle.check_scope.specs.Steps.{Reads}
use Rattle.silq_types.specs.Calls.{Found, find_fun, built_in}
use Rattle.check_scope.specs.Uses.{index_values, with_index}
use Rattle.check_scope.specs.Walk.{Walk, answer, broken, counted, asked, with_known, known_or_stop, met_as, meet, Met, known, limited, new, too_deep, most_instances, Stop}
use Rattle.silq_types.specs.declared.need.Need.{Need}
use Rattle.silq_types.specs.declared.need.Need.TheVariants as needs
use Rattle.silq_types.specs.declared.built_in.BuiltIn.{BuiltIn}
use Rattle.silq_types.specs.declared.built_in.BuiltIn.TheVariants.{HGate, XGate, YGate, ZGate, Dup, Measure, Vector, RotateX, RotateY, RotateZ}
use Rattle.silq_io.specs.declared.limit.LimitKind.{LimitKind}
use Rattle.silq_io.specs.declared.limit.LimitKind.TheVariants.{Instances, Depth}
use Rattle.silq_tree.specs.Syntax.{Expression, Expressions, number, typed_number, truth, pi, place, called, tuple, unary, binary, none, more, ScalarType, Place}
use Rattle.silq_tree.specs.declared.node.BinaryOp.{BinaryOp}
use Rattle.silq_tree.specs.declared.node.NameId.{NameId}
use Rattle.silq_tree.specs.declared.node.Spot.{Spot}
use Rattle.silq_tree.specs.declared.node.UnaryOp.{UnaryOp}
use Rattle.silq_types.specs.Known.{Signatures, signature_of}
use Rattle.silq_types.specs.Rules.{and_then}
use Rattle.silq_types.specs.Types.{Statics, at, quantum, single_shape, place_name, place_indices}
use Rattle.silq_mean.specs.Written.{scalar_type, Header, needed_at, or_not_static, header_of, is_count, most_items}
use Rattle.silq_types.specs.declared.signature.InstanceKey.{InstanceKey}
use Rattle.silq_types.specs.declared.signature.Returned.{Returned}
use Rattle.silq_types.specs.declared.signature.Signature.{Signature}
use Rattle.silq_types.specs.declared.types.Shape.{Shape}
use Rattle.silq_types.specs.declared.types.Shape.TheVariants.{Bit, UInt, Int, Array}
use Rattle.silq_types.specs.declared.types.Ty.{Ty}
use Rattle.silq_types.specs.declared.values.Origin.{Origin}
use Rattle.silq_types.specs.declared.values.Part.{Part}
use Rattle.silq_types.specs.declared.values.Value.{Value}
use Rattle.silq_types.specs.declared.values.Var.{Var}
use Rattle.static_num.specs.declared.values.StaticFault.{StaticFault}
use Rattle.static_num.specs.Static.{is_static, eval_of}

-- ---- static expressions

needed_value : (r : Result ℤ StaticFault) (s : Spot) (z : ℤ) → or_not_static s r ≡ Ok z → r ≡ Ok z
needed_value (Ok v) s z e = let f : v ≡ z = cc in ap (λ x. Ok x) f
needed_value (Err x) s z e = let f : ⊥ = cc in absurd f

not_false : (b : Bool) → not b ≡ false → b ≡ true
not_false true e = refl
not_false false e = let f : ⊥ = cc in absurd f

and_first : (a b : Bool) → (a && b) ≡ true → a ≡ true
and_first true b e = refl
and_first false b e = e

or_first : (a b : Bool) → (a || b) ≡ false → a ≡ false
or_first true b e = e
or_first false b e = refl

or_second : (a b : Bool) → (a || b) ≡ false → b ≡ false
or_second true b e = let f : ⊥ = cc in absurd f
or_second false b e = e

module _ (statics : Statics) where
  typed_is_open : (n : ℤ) (k : ScalarType) (s : Spot) → is_static statics (typed_number n k s) ≡ false
  unfolding is_static
  typed_is_open n k s = refl

  number_is_shut : (n : ℤ) (s : Spot) → is_static statics (number n s) ≡ true
  unfolding is_static
  number_is_shut n s = refl

  truth_is_shut : (b : Bool) (s : Spot) → is_static statics (truth b s) ≡ true
  unfolding is_static
  truth_is_shut b s = refl

  call_is_open : (f : NameId) (ss args : Expressions) (s : Spot) → is_static statics (called f ss args s) ≡ false
  unfolding is_static
  call_is_open f ss args s = refl

  tuple_is_open : (es : Expressions) (s : Spot) → is_static statics (tuple es s) ≡ false
  unfolding is_static
  tuple_is_open es s = refl

  operand_is_open : (op : UnaryOp) (e : Expression) (s : Spot) → is_static statics (unary op e s) ≡ false → is_static statics e ≡ false
  unfolding is_static
  operand_is_open op e s h = h

  one_static : (e : Expression) → is_tuple e ≡ false → has_static statics e ≡ is_static statics e
  one_static (number n s) h = refl
  one_static (typed_number n k s) h = refl
  one_static (truth b s) h = refl
  one_static (pi s) h = refl
  one_static (place w s) h = refl
  one_static (called f ss args s) h = refl
  one_static (tuple es s) h = let f : ⊥ = cc in absurd f
  one_static (unary op e s) h = refl
  one_static (binary op a b s) h = refl

one_type : (e : Expression) (sc : Scope) (vars : List Var) (met : Signatures) → is_tuple e ≡ false → first_type (types_of e sc vars met) ≡ type_of e sc vars met
one_type (number n s) sc vars met h = refl
one_type (typed_number n k s) sc vars met h = refl
one_type (truth b s) sc vars met h = refl
one_type (pi s) sc vars met h = refl
one_type (place w s) sc vars met h = refl
one_type (called f ss args s) sc vars met h = refl
one_type (tuple es s) sc vars met h = let f : ⊥ = cc in absurd f
one_type (unary op e s) sc vars met h = refl
one_type (binary op a b s) sc vars met h = refl

lone_asked : (e : Expression) (wants : List Ty) → is_tuple e ≡ false → lone_wants e wants ≡ wants
lone_asked e wants h = ap (λ b. cond b [] wants) h

repeated_count : (s : Shape) (m : ℤ) → repeated s (pos (nat_abs m)) ≡ repeated s m
repeated_count Bit m = refl
repeated_count (UInt w) m = refl
repeated_count (Int w) m = refl
repeated_count (Array k n) m = refl

-- ---- readings

limit_stops : (l : LimitKind) (k : InstanceKey) (s : Signature) → known_or_stop (limited l) k ≡ Ok s → ⊥
limit_stops l k s e = cc

module _ (met : Signatures) where
  -- the signature that is known
  abbrev pub Knows : InstanceKey → Signature → Type 0
  Knows k s = signature_of met k ≡ Some s

  none_stops : (b c : Bool) (k : InstanceKey) (s : Signature) (l m : Met) → ((t : Signature) → known_or_stop l k ≡ Ok t → ⊥) → ((t : Signature) → known_or_stop m k ≡ Ok t → ⊥) → known_or_stop (cond b l (cond c m new)) k ≡ Ok s → ⊥
  none_stops true c k s l m f g e = f s e
  none_stops false true k s l m f g e = g s e
  none_stops false false k s l m f g e = cc

  some_found : (b : Bool) (t s : Signature) (k : InstanceKey) (l : Met) → ((u : Signature) → known_or_stop l k ≡ Ok u → ⊥) → known_or_stop (cond b l (known t)) k ≡ Ok s → t ≡ s
  some_found true t s k l f e = absurd (f s e)
  some_found false t s k l f e = cc

  known_found : (o : Option Signature) (d checked : ℕ) (k : InstanceKey) (s : Signature) → known_or_stop (met_as d checked o) k ≡ Ok s → o ≡ Some s
  known_found (Some t) d checked k s e = ap (λ x. Some x) (some_found (too_deep d t.height) t s k (limited Depth) (limit_stops Depth k) e)
  known_found None d checked k s e = absurd (none_stops (too_deep d 1) (nat_lt most_instances (checked + d + 1)) k s (limited Depth) (limited Instances) (limit_stops Depth k) (limit_stops Instances k) e)

  step : {A : Type 0} (P : A → Type 0) (d : ℕ) (k : InstanceKey) (next : Signature → Walk A) (h : ℕ) (r : A × ℕ) → ((s : Signature) → with_known d met (next s) (max h s.height) ≡ Ok r → Gives Knows P (next s) → P r.0) → (o : Result Signature Stop) → known_or_stop (meet d met k) k ≡ o → and_then o (λ s. with_known d met (next s) (max h s.height)) ≡ Ok r → ((s : Signature) → Knows k s → Gives Knows P (next s)) → P r.0
  step P d k next h r ih (Ok s) e f g = ih s f (g s (known_found (signature_of met k) d (length met) k s e))
  step P d k next h r ih (Err x) e f g = let n : ⊥ = cc in absurd n

  gives_read : {A : Type 0} (P : A → Type 0) (d : ℕ) (w : Walk A) (h : ℕ) (r : A × ℕ) → with_known d met w h ≡ Ok r → Gives Knows P w → P r.0
  gives_read P d (answer a) h r e g = let f : (a, h) ≡ r = cc in subst P (ap (λ x. x.0) f) g
  gives_read P d (broken x) h r e g = let n : ⊥ = cc in absurd n
  gives_read P d (counted w) h r e g = gives_read P d w h r e g
  gives_read P d (asked k next) h r e g = step P d k next h r (λ s f o. gives_read P d (next s) (max h s.height) r f o) (known_or_stop (meet d met k) k) refl e g

  pub reads_ensures : {A : Type 0} (P : Context → Type 0) (m : Check A) (Q : A → Context → Type 0) (old now : State) (a : A) → Ensures Knows P m Q → Reads met m old a now → P (context_of old) → Q a (context_of now)
  reads_ensures P m Q old now a q r p = gives_read (λ x. Q x.0 x.1) old.depth (m (context_of old)) old.height ((a, context_of now), now.height) r.runs (q.runs (context_of old) p)

  -- ---- what holds whatever the context is

  given : {A F : Type 0} {P : Context → Type 0} {m : Check A} {Q : A → Context → Type 0} → (F → Ensures Knows P m Q) → Ensures Knows (λ c. F × P c) m Q
  given k = record { runs = λ c h. (k h.0).runs c h.1 }

  carried : {A F : Type 0} {P : Context → Type 0} {m : Check A} {Q : A → Context → Type 0} → Ensures Knows P m Q → Ensures Knows (λ c. F × P c) m (λ a c. F × Q a c)
  carried {m = m} {Q = Q} q = record { runs = λ c h. gives-more Knows 0 (λ r. Q r.0 r.1) _ (m c) (q.runs c h.1) (λ r o. (h.0, o)) }

  module _ (sc : Scope) (vars : List Var) where
    -- the variables have the types of these
    abbrev pub Same : Context → Type 0
    Same c = SameTypes vars c.vars

    -- ---- static values

    t_needed : {P : Context → Type 0} (e : Expression) → Ensures Knows P (needed sc e) (λ z c. (eval_of sc.statics e ≡ Ok z) × P c)
    t_needed e = o_then Knows 0 (o_names Knows 0 sc e) (λ u. o_more Knows 0 (o_result Knows 0 (needed_at sc.statics e (at e))) (λ z c q. (needed_value (eval_of sc.statics e) (at e) z q.0, q.1)))

    index_step : (e : Expression) (es : Expressions) (z : ℤ) (zs : List ℤ) → eval_of sc.statics e ≡ Ok z → index_values sc.statics es ≡ Some zs → index_values sc.statics (more e es) ≡ Some (z ∷ zs)
    index_step e es z zs a b = ap (λ r. with_index r (index_values sc.statics es)) a ∙ ap (λ o. with_index (Ok z) o) b

    t_all_needed : {P : Context → Type 0} (es : Expressions) → Ensures Knows P (all_needed es sc) (λ zs c. (index_values sc.statics es ≡ Some zs) × P c)
    t_all_needed none = o_back Knows 0 [] (λ c p. (refl, p))
    t_all_needed {P = P} (more e es) = o_bind Knows 0 (t_needed e) (λ z. o_bind Knows 0 (carried (t_all_needed {P = P} es)) (λ zs. o_back Knows 0 (z ∷ zs) (λ c h. (index_step e es z zs h.0 h.1.0, h.1.1))))

    t_static_arguments : {P : Context → Type 0} (es : Expressions) → Ensures Knows P (static_arguments es sc) (λ zs c. (index_values sc.statics es ≡ Some zs) × P c)
    t_static_arguments none = o_back Knows 0 [] (λ c p. (refl, p))
    t_static_arguments {P = P} (more e es) = o_bind Knows 0 (t_needed e) (λ z. o_then Knows 0 (o_natural Knows 0 (at e) z) (λ u. o_bind Knows 0 (carried (t_static_arguments {P = P} es)) (λ zs. o_back Knows 0 (z ∷ zs) (λ c h. (index_step e es z zs h.0 h.1.0, h.1.1)))))

    t_new : (t : Ty) (o : Origin) → Ensures Knows Same (new_value t o) (λ v c. (v.ty ≡ t) × Same c)
    unfolding ◌>>=◌
    t_new t o = record { runs = λ c s. (refl, s) }

    t_one : (t : Ty) (o : Origin) → Ensures Knows Same (one_value t o) (λ vs c. (types_of_values vs ≡ t ∷ []) × Same c)
    t_one t o = o_bind Knows 0 (t_new t o) (λ v. o_back Knows 0 (v ∷ []) (λ c h. (ap (λ x. x ∷ []) h.0, h.1)))

    t_static : (e : Expression) (wants : List Ty) → Ensures Knows Same (static_value sc e wants) (λ vs c. (types_of_values vs ≡ wants) × Same c)
    t_static e [] = o_fail Knows 0 _
    t_static e (t ∷ []) = o_bind Knows 0 (o_result Knows 0 (needed_at sc.statics e (at e))) (λ z. o_then Knows 0 (o_rules Knows 0 (at e) _) (λ u. o_from Knows 0 (λ c h. h.1.1) (t_one t _)))
    t_static e (t ∷ u ∷ ts) = o_fail Knows 0 _

    -- the types that it takes from where it stands, or has by itself
    record Told (e : Expression) (wants : List Ty) (vs : List Value) : Type 0 where
      pub shut : is_static sc.statics e ≡ true → types_of_values vs ≡ wants
      pub open_ : has_static sc.statics e ≡ false → types_of_values vs ≡ types_of e sc vars met

    told_shut : (e : Expression) (wants : List Ty) (vs : List Value) → has_static sc.statics e ≡ true → types_of_values vs ≡ wants → Told e wants vs
    told_shut e wants vs h q = record { shut = λ x. q; open_ = λ x. let f : ⊥ = cc in absurd f }

    told_open : (e : Expression) (wants : List Ty) (vs : List Value) → is_static sc.statics e ≡ false → types_of_values vs ≡ types_of e sc vars met → Told e wants vs
    told_open e wants vs h q = record { shut = λ x. let f : ⊥ = cc in absurd f; open_ = λ x. q }

    t_unless : (e : Expression) (wants : List Ty) {m : Check (List Value)} → has_static sc.statics e ≡ is_static sc.statics e → (is_static sc.statics e ≡ false → Ensures Knows Same m (λ vs c. (types_of_values vs ≡ types_of e sc vars met) × Same c)) → Ensures Knows Same (unless_static sc e wants m) (λ vs c. Told e wants vs × Same c)
    t_unless e wants same q = o_if Knows 0 (is_static sc.statics e)
        (λ x. o_more Knows 0 (t_static e wants) (λ vs c h. (told_shut e wants vs (same ∙ x) h.0, h.1)))
        (λ x. o_more Knows 0 (q x) (λ vs c h. (told_open e wants vs x h.0, h.1)))

    t_typed : (n : ℤ) (k : ScalarType) (s : Spot) → Ensures Knows Same (typed_value sc n k s) (λ v c. (v.ty ≡ scalar_told (scalar_type sc.statics (is_known_name sc vars) k s)) × Same c)
    t_typed n k s = o_bind Knows 0 (o_variables Knows 0) (λ vs. o_bind Knows 0 (o_result Knows 0 (scalar_type sc.statics (is_known_name sc vs) k s)) (λ t. o_then Knows 0 (o_rules Knows 0 s _) (λ u.
        o_from Knows 0 (λ c h. (sym (scalar_same sc vars vs (subst (λ l. SameTypes vars l) (sym h.1.1.0) h.1.1.1) k s) ∙ h.1.0, h.1.1.1))
        (given (λ (q : scalar_type sc.statics (is_known_name sc vars) k s ≡ Ok t). o_more Knows 0 (t_new (quantum (single_shape t)) _) (λ v c h. (h.0 ∙ sym (ap scalar_told q), h.1)))))))

    -- ---- places

    t_unmoved : (need : Need) (t : Ty) (v : Var) → Ensures Knows Same (unmoved need t v) (λ x c. (x.ty ≡ t) × Same c)
    t_unmoved needs.Held t v = o_back Knows 0 _ (λ c s. (refl, s))
    t_unmoved needs.Consumed t v = t_new t _

    t_move : (t : Ty) (v : Var) (q : Part) → Ensures Knows (λ c. (find_var c.vars q ≡ Some v) × Same c) (move t v) (λ x c. (x.ty ≡ t) × Same c)
    t_move t v q = record { runs = λ c h. (refl, record { types = λ p. consumed_type c.vars q v h.0 p ∙ h.1.types p }) }

    t_use_part : (s : Spot) (need : Need) (p : Part) (v : Var) (vs : List Var) (t : Option Ty) → Ensures Knows Same (use_part sc s need p v vs t) (λ x c. (x.ty ≡ or_any t) × Same c)
    t_use_part s need p v vs None = o_then Knows 0 (o_rules Knows 0 s _) (λ u. o_fail Knows 0 _)
    t_use_part s need p v vs (Some t) = o_then Knows 0 (o_rules Knows 0 s _) (λ u. o_from Knows 0 (λ c h. h.1) (t_unmoved need t v))

    abbrev ty_in : Option Var → Option Ty
    ty_in o = option_map (λ (v : Var). v.ty) o

    t_use_found : (s : Spot) (need : Need) (p : Part) (vs : List Var) (o w : Option Var) → Ensures Knows (λ c. (find_var c.vars p ≡ o) × Same c) (use_found sc s need p vs o w) (λ x c. (x.ty ≡ found_type (ty_in o) (ty_in w) p) × Same c)
    t_use_found s need p vs (Some v) w = o_then Knows 0 (o_rules Knows 0 s _) (λ u. o_if Knows 0 (is_moved need v.ty)
        (λ e. o_from Knows 0 (λ c h. h.1) (t_move v.ty v p))
        (λ e. o_from Knows 0 (λ c h. h.1.1) (t_unmoved need v.ty v)))
    t_use_found s need p vs None (Some w) = o_from Knows 0 (λ c h. h.1) (t_use_part s need p w vs _)
    t_use_found s need p vs None None = o_fail Knows 0 _

    place_type : (w : Place) (values : List ℤ) (vs : List Var) → index_values sc.statics (place_indices w) ≡ Some values → SameTypes vars vs
        → found_type (var_type vs (part_at (place_name w) values)) (var_type vs (variable (place_name w))) (part_at (place_name w) values) ≡ part_told vars (place_name w) (part_of_place sc.statics w)
    place_type w values vs e h =
        ap (λ o. found_type o (var_type vs (variable (place_name w))) (part_at (place_name w) values)) (h.types (part_at (place_name w) values))
        ∙ ap (λ o. found_type (var_type vars (part_at (place_name w) values)) o (part_at (place_name w) values)) (h.types (variable (place_name w)))
        ∙ sym (ap (λ o. part_told vars (place_name w) (option_map (part_at (place_name w)) o)) e)

    t_use_place : (w : Place) (s : Spot) (need : Need) → Ensures Knows Same (use_place sc w s need) (λ v c. (v.ty ≡ part_told vars (place_name w) (part_of_place sc.statics w)) × Same c)
    t_use_place w s need =
        o_bind Knows 0 (t_all_needed (place_indices w)) (λ values. o_bind Knows 0 (o_variables Knows 0) (λ vs. o_then Knows 0 (o_rules Knows 0 s _) (λ u.
        o_from Knows 0 (λ c h. (place_type w values vs h.1.1.0 (subst (λ l. SameTypes vars l) (sym h.1.0) h.1.1.1), (ap (λ l. find_var l (part_at (place_name w) values)) (sym h.1.0), h.1.1.1)))
        (given (λ (q : found_type (var_type vs (part_at (place_name w) values)) (var_type vs (variable (place_name w))) (part_at (place_name w) values) ≡ part_told vars (place_name w) (part_of_place sc.statics w)).
        o_more Knows 0 (t_use_found s need (part_at (place_name w) values) vs (find_var vs (part_at (place_name w) values)) (find_var vs (variable (place_name w)))) (λ v c h. (h.0 ∙ q, h.1)))))))

    -- ---- operators

    t_typed_by : (classical : Bool) (s : Shape) → Ensures Knows Same (typed_by classical s) (λ vs c. (types_of_values vs ≡ record { classical = classical; shape = s } ∷ []) × Same c)
    t_typed_by classical s = t_one _ _

    t_unary : (op : UnaryOp) (s : Spot) (v : Value) → Ensures Knows Same (unary_value op s v) (λ vs c. (types_of_values vs ≡ v.ty ∷ []) × Same c)
    t_unary op s v = o_then Knows 0 (o_rules Knows 0 s _) (λ u. o_from Knows 0 (λ c h. h.1) (t_typed_by v.ty.classical v.ty.shape))

    t_binary : (op : BinaryOp) (a b : Expression) (s : Spot) (x y : Value) → Ensures Knows Same (binary_value sc op a b s x y) (λ vs c. (types_of_values vs ≡ joined_type op x.ty y.ty ∷ []) × Same c)
    t_binary op a b s x y = o_bind Knows 0 (o_variables Knows 0) (λ vs. o_then Knows 0 (o_rules Knows 0 s _) (λ u. o_from Knows 0 (λ c h. h.1.1) (t_typed_by _ _)))

    -- one value: of the type that is asked, or of its own
    record Lone (e : Expression) (wants : List Ty) (v : Value) : Type 0 where
      pub shut : is_static sc.statics e ≡ true → v.ty ∷ [] ≡ wants
      pub open_ : is_static sc.statics e ≡ false → v.ty ≡ type_of e sc vars met

    tuple_shut : (es : Expressions) (s : Spot) → is_static sc.statics (tuple es s) ≡ true → ⊥
    tuple_shut es s x = let h = tuple_is_open sc.statics es s in cc

    t_single_of : {P : Context → Type 0} (e : Expression) (vs : List Value) → Ensures Knows P (single_of e vs) (λ v c. (vs ≡ v ∷ []) × P c)
    t_single_of e [] = o_fail Knows 0 _
    t_single_of e (v ∷ []) = o_back Knows 0 v (λ c p. (refl, p))
    t_single_of e (v ∷ w ∷ vs) = o_fail Knows 0 _

    t_single : {P : Context → Type 0} (e : Expression) (vs : List Value) → Ensures Knows P (single e vs) (λ v c. ((is_tuple e ≡ false) × (vs ≡ v ∷ [])) × P c)
    t_single e vs = o_if Knows 0 (is_tuple e) (λ x. o_fail Knows 0 _) (λ x. o_more Knows 0 (t_single_of e vs) (λ v c h. ((x, h.0), h.1)))

    lone_of : (e : Expression) (wants : List Ty) (vs : List Value) (v : Value) → is_tuple e ≡ false → vs ≡ v ∷ [] → Told e (lone_wants e wants) vs → Lone e wants v
    lone_of e wants vs v h q t = record {
      shut = λ x. sym (ap types_of_values q) ∙ t.shut x ∙ lone_asked e wants h;
      open_ = λ x. ap first_type (sym (ap types_of_values q) ∙ t.open_ (one_static sc.statics e h ∙ x)) ∙ one_type e sc vars met h;
    }

    t_lone : (e : Expression) (wants : List Ty) (vs : List Value) → Ensures Knows (λ c. Told e (lone_wants e wants) vs × Same c) (single e vs) (λ v c. Lone e wants v × Same c)
    t_lone e wants vs = o_more Knows 0 (t_single e vs) (λ v c h. (lone_of e wants vs v h.0.0 h.0.1 h.1.0, h.1.1))

    lone_held : (e : Expression) (vs : List Value) (v : Value) → is_tuple e ≡ false → vs ≡ v ∷ [] → Told e [] vs → Lone e [] v
    lone_held e vs v h q t = lone_of e [] vs v h q (subst (λ ws. Told e ws vs) (sym (lone_asked e [] h)) t)

    t_held : (e : Expression) (vs : List Value) → Ensures Knows (λ c. Told e [] vs × Same c) (single e vs) (λ v c. Lone e [] v × Same c)
    t_held e vs = o_more Knows 0 (t_single e vs) (λ v c h. (lone_held e vs v h.0.0 h.0.1 h.1.0, h.1.1))

    lone_open : (e : Expression) (v : Value) → Lone e [] v → v.ty ≡ type_of e sc vars met
    lone_open e v h = go (is_static sc.statics e) refl
      where
        go : (b : Bool) → is_static sc.statics e ≡ b → v.ty ≡ type_of e sc vars met
        go true x = let f : v.ty ∷ [] ≡ [] = h.shut x in let g : ⊥ = cc in absurd g
        go false x = h.open_ x

    first_same : (t u : Ty) → t ∷ [] ≡ u ∷ [] → t ≡ u
    first_same t u e = ap first_type e

    joined_same : (op : BinaryOp) (x x2 y y2 : Ty) → x ≡ x2 → y ≡ y2 → joined_type op x y ≡ joined_type op x2 y2
    joined_same op x x2 y y2 e f = ap (λ t. joined_type op t y) e ∙ ap (λ t. joined_type op x2 t) f

    abbrev Both : BinaryOp → Expression → Expression → Value × Value → Type 0
    Both op a b r = joined_type op r.0.ty r.1.ty ≡ binary_type op (is_static sc.statics a) (is_static sc.statics b) (type_of a sc vars met) (type_of b sc vars met)

    both_left : (op : BinaryOp) (a b : Expression) (x y : Value) → is_static sc.statics a ≡ true → Lone b [] y → Lone a (y.ty ∷ []) x → Both op a b (x, y)
    both_left op a b x y e q r =
        let same = lone_open b y q in
        joined_same op x.ty (type_of b sc vars met) y.ty (type_of b sc vars met) (first_same x.ty y.ty (r.shut e) ∙ same) same
        ∙ sym (ap (λ s. binary_type op s (is_static sc.statics b) (type_of a sc vars met) (type_of b sc vars met)) e)

    both_right : (op : BinaryOp) (a b : Expression) (x y : Value) → is_static sc.statics a ≡ false → Lone a [] x → Lone b (x.ty ∷ []) y → Both op a b (x, y)
    both_right op a b x y e q r =
        go (is_static sc.statics b) refl ∙ sym (ap (λ s. binary_type op s (is_static sc.statics b) (type_of a sc vars met) (type_of b sc vars met)) e)
      where
        go : (s : Bool) → is_static sc.statics b ≡ s → joined_type op x.ty y.ty ≡ binary_type op false (is_static sc.statics b) (type_of a sc vars met) (type_of b sc vars met)
        go true f =
            joined_same op x.ty (type_of a sc vars met) y.ty (type_of a sc vars met) (q.open_ e) (first_same y.ty x.ty (r.shut f) ∙ q.open_ e)
            ∙ sym (ap (λ s. binary_type op false s (type_of a sc vars met) (type_of b sc vars met)) f)
        go false f =
            joined_same op x.ty (type_of a sc vars met) y.ty (type_of b sc vars met) (q.open_ e) (r.open_ f)
            ∙ sym (ap (λ s. binary_type op false s (type_of a sc vars met) (type_of b sc vars met)) f)

    t_operands : (op : BinaryOp) (a b : Expression) (left right : List Ty → Check Value) → ((w : List Ty) → Ensures Knows Same (left w) (λ x c. Lone a w x × Same c)) → ((w : List Ty) → Ensures Knows Same (right w) (λ x c. Lone b w x × Same c)) → Ensures Knows Same (operands sc a left right) (λ r c. Both op a b r × Same c)
    t_operands op a b left right l r = o_if Knows 0 (is_static sc.statics a)
        (λ e. o_bind Knows 0 (o_result Knows 0 (needed_at sc.statics a (at a))) (λ z. o_bind Knows 0 (o_from Knows 0 (λ c h. h.1) (r [])) (λ y.
        o_bind Knows 0 (carried (l (y.ty ∷ []))) (λ x. o_back Knows 0 (x, y) (λ c h. (both_left op a b x y e h.0 h.1.0, h.1.1))))))
        (λ e. o_bind Knows 0 (l []) (λ x. o_bind Knows 0 (carried (r (x.ty ∷ []))) (λ y. o_back Knows 0 (x, y) (λ c h. (both_right op a b x y e h.0 h.1.0, h.1.1)))))

    -- ---- arguments

    abbrev Items : Expressions → Need → List Asked → List Value → Type 0
    Items none other l [] = ⊤
    Items none other l (v ∷ vs) = ⊥
    Items (more e es) other l [] = ⊥
    Items (more e es) other l (v ∷ vs) = Lone e (first_asked other l).wants v × Items es other (later_asked l) vs

    items_first : (es : Expressions) (other : Need) (l : List Asked) (vs : List Value) → (first_asked other l).wants ≡ [] → Items es other l vs → (v : Value) → vs ≡ v ∷ [] → v.ty ≡ first_item es sc vars met
    items_first none other l [] w h v e = let f : ⊥ = cc in absurd f
    items_first none other l (x ∷ xs) w h v e = absurd h
    items_first (more e es) other l [] w h v q = absurd h
    items_first (more e es) other l (x ∷ xs) w h v q =
        let same : x ≡ v = cc in
        ap (λ (y : Value). y.ty) (sym same) ∙ lone_open e x (subst (λ ws. Lone e ws x) w h.0)

    items_types : (es : Expressions) (other : Need) (l : List Asked) (vs : List Value) → some_static sc.statics es ≡ false → Items es other l vs → types_of_values vs ≡ item_types es sc vars met
    items_types none other l [] w h = refl
    items_types none other l (x ∷ xs) w h = absurd h
    items_types (more e es) other l [] w h = absurd h
    items_types (more e es) other l (x ∷ xs) w h =
        ap (λ t. t ∷ types_of_values xs) (h.0.open_ (or_first (is_static sc.statics e) (some_static sc.statics es) w))
        ∙ ap (λ ts. type_of e sc vars met ∷ ts) (items_types es other (later_asked l) xs (or_second (is_static sc.statics e) (some_static sc.statics es) w) h.1)

    -- ---- calls of built-in functions

    t_flip : (b : BuiltIn) (s : Spot) (need : Need) (v : Value) → Ensures Knows Same (flip_value b s need v) (λ vs c. (types_of_values vs ≡ quantum v.ty.shape ∷ []) × Same c)
    t_flip b s need v = o_then Knows 0 (o_rules Knows 0 s _) (λ u. o_then Knows 0 (o_rules Knows 0 s _) (λ u2. o_back Knows 0 _ (λ c h. (refl, h.1.1))))

    t_gate : (b : BuiltIn) (s : Spot) (need : Need) (v : Value) → Ensures Knows Same (gate_value b s need v) (λ vs c. (types_of_values vs ≡ gate_type b v.ty ∷ []) × Same c)
    t_gate HGate s need v = t_flip HGate s need v
    t_gate XGate s need v = t_flip XGate s need v
    t_gate YGate s need v = t_flip YGate s need v
    t_gate ZGate s need v = t_flip ZGate s need v
    t_gate Dup s need v = t_one _ _
    t_gate Measure s need v = t_one _ _
    t_gate Vector s need v = t_flip Vector s need v
    t_gate RotateX s need v = t_flip RotateX s need v
    t_gate RotateY s need v = t_flip RotateY s need v
    t_gate RotateZ s need v = t_flip RotateZ s need v

    t_gates : (b : BuiltIn) (s : Spot) (need : Need) (vs : List Value) (t : Ty) → ((v : Value) → vs ≡ v ∷ [] → v.ty ≡ t) → Ensures Knows Same (gate_values b s need vs) (λ xs c. (types_of_values xs ≡ gate_type b t ∷ []) × Same c)
    t_gates b s need [] t h = o_fail Knows 0 _
    t_gates b s need (v ∷ []) t h = o_more Knows 0 (t_gate b s need v) (λ xs c q. (q.0 ∙ ap (λ u. gate_type b u ∷ []) (h v refl), q.1))
    t_gates b s need (v ∷ w ∷ vs) t h = o_fail Knows 0 _

    -- what the walk of a call's arguments owes, and that of the arguments after the first
    abbrev Walks : Expressions → Arguments → Type 0
    Walks args walk = (l : List Asked) → Ensures Knows Same (walk l) (λ vs c. Items args needs.Held l vs × Same c)

    abbrev Later : Expressions → List Value → Type 0
    Later none vs = ⊤
    Later (more e es) vs = Items es needs.Held [] vs

    abbrev Walks_later : Expressions → Check (List Value) → Type 0
    Walks_later args later = Ensures Knows Same later (λ vs c. Later args vs × Same c)

    t_call_gate : (b : BuiltIn) (ss args : Expressions) (s : Spot) (need : Need) (walk : Arguments) → (first_asked needs.Held (asked_by_built_in b)).wants ≡ [] → Walks args walk → Ensures Knows Same (call_gate sc b ss args s need walk) (λ vs c. (types_of_values vs ≡ gate_type b (first_item args sc vars met) ∷ []) × Same c)
    t_call_gate b ss args s need walk q w =
        o_then Knows 0 (o_rules Knows 0 s _) (λ u. o_bind Knows 0 (o_from Knows 0 (λ c h. h.1) (w (asked_by_built_in b))) (λ vs.
        given (λ (i : Items args needs.Held (asked_by_built_in b) vs). t_gates b s need vs (first_item args sc vars met) (items_first args needs.Held (asked_by_built_in b) vs q i))))

    t_many : (s : Spot) (vs : List Value) (m : ℤ) (t : Ty) → ((v : Value) → vs ≡ v ∷ [] → v.ty ≡ t) → Ensures Knows Same (many s vs m) (λ xs c. (types_of_values xs ≡ quantum (repeated t.shape m) ∷ []) × Same c)
    t_many s [] m t h = o_fail Knows 0 _
    t_many s (v ∷ []) m t h = o_more Knows 0 (t_one (quantum (repeated v.ty.shape m)) _) (λ xs c q. (q.0 ∙ ap (λ (u : Ty). quantum (repeated u.shape m) ∷ []) (h v refl), q.1))
    t_many s (v ∷ w ∷ vs) m t h = o_fail Knows 0 _

    t_length : {P : Context → Type 0} (a : Expression) → Ensures Knows P (length_value sc a) (λ m c. (is_static sc.statics a ≡ true → eval_of sc.statics a ≡ Ok m) × P c)
    t_length a = o_if Knows 0 (is_static sc.statics a)
        (λ e. o_more Knows 0 (o_result Knows 0 (needed_at sc.statics a (at a))) (λ m c h. ((λ f. needed_value (eval_of sc.statics a) (at a) m h.0), h.1)))
        (λ e. o_back Knows 0 (pos 0) (λ c p. ((λ f. let g : ⊥ = cc in absurd g), p)))

    counted_length : (a : Expression) (rest : Expressions) (m : ℤ) (t : Ty) → eval_of sc.statics a ≡ Ok m → is_count most_items m ≡ true → quantum (repeated t.shape m) ≡ built_in_type Vector (length_told sc.statics (more a rest)) t t
    counted_length a rest m t e f =
        ap (λ s. quantum s) (sym (repeated_count t.shape m))
        ∙ ap (λ n. quantum (repeated t.shape (pos n))) (sym (ap count_told e ∙ ap (λ b. cond b (nat_abs m) 0) f))

    t_vector : (s : Spot) (args : Expressions) (later : Check (List Value)) → Walks_later args later → Ensures Knows Same (vector_value sc s args later) (λ vs c. (types_of_values vs ≡ built_in_type Vector (length_told sc.statics args) (first_item args sc vars met) (second_item args sc vars met) ∷ []) × Same c)
    t_vector s none later r = o_fail Knows 0 _
    t_vector s (more a rest) later r =
        o_then Knows 0 (o_names Knows 0 sc a) (λ u. o_bind Knows 0 (t_length a) (λ m. o_bind Knows 0 (carried r) (λ vs. o_then Knows 0 (o_rules Knows 0 s _) (λ u2.
        record {
          runs = λ c h.
              (o_more Knows 0 (t_many s vs m (first_item rest sc vars met) (items_first rest needs.Held [] vs refl h.1.1.0))
              (λ xs d q. (q.0 ∙ ap (λ t. t ∷ []) (counted_length a rest m (first_item rest sc vars met) (h.1.0 (and_first (is_static sc.statics a) (all_typed rest) (not_false (is_static sc.statics a && all_typed rest) h.0.0))) (not_false (is_count most_items m) h.0.1.0)), q.1))).runs c h.1.1.1;
        }))))

    t_built_in : (b : BuiltIn) (ss args : Expressions) (s : Spot) (need : Need) (walk : Arguments) (later : Check (List Value)) → Walks args walk → Walks_later args later → Ensures Knows Same (call_built_in sc b ss args s need walk later) (λ vs c. (types_of_values vs ≡ built_in_type b (length_told sc.statics args) (first_item args sc vars met) (second_item args sc vars met) ∷ []) × Same c)
    t_built_in HGate ss args s need walk later w r = t_call_gate HGate ss args s need walk refl w
    t_built_in XGate ss args s need walk later w r = t_call_gate XGate ss args s need walk refl w
    t_built_in YGate ss args s need walk later w r = t_call_gate YGate ss args s need walk refl w
    t_built_in ZGate ss args s need walk later w r = t_call_gate ZGate ss args s need walk refl w
    t_built_in Dup ss args s need walk later w r = t_call_gate Dup ss args s need walk refl w
    t_built_in Measure ss args s need walk later w r = t_call_gate Measure ss args s need walk refl w
    t_built_in Vector ss args s need walk later w r = o_then Knows 0 (o_rules Knows 0 s _) (λ u. o_from Knows 0 (λ c h. h.1) (t_vector s args later r))
    t_built_in RotateX ss args s need walk later w r = o_fail Knows 0 _
    t_built_in RotateY ss args s need walk later w r = o_fail Knows 0 _
    t_built_in RotateZ ss args s need walk later w r = o_fail Knows 0 _

    -- ---- calls of own functions

    t_placed : (o : Option Value) (t : Ty) (k : Origin) → Ensures Knows Same (placed o t k) (λ x c. (x.ty ≡ t) × Same c)
    t_placed None t k = t_new t k
    t_placed (Some v) t k = o_back Knows 0 _ (λ c s. (refl, s))

    t_results : (lifts : Bool) (vs : List Value) (rs : List Returned) → Ensures Knows Same (result_values lifts vs rs) (λ xs c. (types_of_values xs ≡ result_types rs) × Same c)
    t_results lifts vs [] = o_back Knows 0 [] (λ c s. (refl, s))
    t_results lifts vs (r ∷ rs) =
        o_bind Knows 0 (t_placed (argument_at vs r.from) r.ty (result_origin lifts r.ty)) (λ x. o_bind Knows 0 (carried (t_results lifts vs rs)) (λ xs.
        o_back Knows 0 (x ∷ xs) (λ c h. (ap (λ t. t ∷ types_of_values xs) h.0 ∙ ap (λ ts. r.ty ∷ ts) h.1.0, h.1.1))))

    abbrev key_of : Found → List ℤ → InstanceKey
    key_of f zs = record { fun = record { number = f.number }; statics = zs }

    instance_same : (f : Found) (ss : Expressions) (zs : List ℤ) (sig : Signature) → index_values sc.statics ss ≡ Some zs → signature_of met (key_of f zs) ≡ Some sig → result_types sig.results ≡ instance_types met f.number (index_values sc.statics ss)
    instance_same f ss zs sig e k = sym (ap (λ o. instance_types met f.number o) e ∙ ap signed_types k)

    t_own : (f : Found) (ss args : Expressions) (s : Spot) (need : Need) (walk : Arguments) → Walks args walk → Ensures Knows Same (call_own sc f ss args s need walk) (λ vs c. (types_of_values vs ≡ instance_types met f.number (index_values sc.statics ss)) × Same c)
    t_own f ss args s need walk w =
        o_then Knows 0 (o_rules Knows 0 s _) (λ u.
        o_bind Knows 0 (o_from Knows 0 (λ c h. h.1) (t_static_arguments ss)) (λ zs.
        o_bind Knows 0 (o_result Knows 0 (header_of (paired f.fun.statics zs) exact_place f.fun)) (λ h.
        o_bind Knows 0 (o_variables Knows 0) (λ vs.
        o_then Knows 0 (o_rules Knows 0 s _) (λ u2.
        record { runs = λ c r. (last zs h r.1.1.1.0).runs c r.1.1.1.1 })))))
      where
        -- the arguments, the signature and the results
        last : (zs : List ℤ) (h : Header) → index_values sc.statics ss ≡ Some zs → Ensures Knows Same (walk (map asked_by h.params) >>= (λ vs. signature (key_of f zs) >>= (λ sig. result_values (is_qfree f.fun.mark && all_lifted h.params vs) vs sig.results >>= (λ xs. unnamed_rule s need (lone_linear xs) >> give_back xs)))) (λ vs c. (types_of_values vs ≡ instance_types met f.number (index_values sc.statics ss)) × Same c)
        last zs h e =
            o_bind Knows 0 (w (map asked_by h.params)) (λ vs.
            o_bind Knows 0 (o_from Knows 0 (λ c r. r.1) (o_signature Knows 0 (key_of f zs))) (λ sig.
            given (λ (k : signature_of met (key_of f zs) ≡ Some sig).
            o_bind Knows 0 (t_results (is_qfree f.fun.mark && all_lifted h.params vs) vs sig.results) (λ xs.
            o_then Knows 0 (o_rules Knows 0 s _) (λ u. o_back Knows 0 xs (λ c r. (r.1.0 ∙ instance_same f ss zs sig e k, r.1.1)))))))

    t_found : (b : Option BuiltIn) (f : Option Found) (ss args : Expressions) (s : Spot) (need : Need) (walk : Arguments) (later : Check (List Value)) → Walks args walk → Walks_later args later → Ensures Knows Same (call_found sc b f ss args s need walk later) (λ vs c. (types_of_values vs ≡ call_types sc.statics met b f ss args (first_item args sc vars met) (second_item args sc vars met)) × Same c)
    t_found (Some b) f ss args s need walk later w r = t_built_in b ss args s need walk later w r
    t_found None (Some f) ss args s need walk later w r = t_own f ss args s need walk w
    t_found None None ss args s need walk later w r = o_fail Knows 0 _

    -- ---- expressions

    unary_told : (op : UnaryOp) (e : Expression) (s : Spot) (v : Value) → is_static sc.statics (unary op e s) ≡ false → Lone e [] v → v.ty ∷ [] ≡ types_of (unary op e s) sc vars met
    unary_told op e s v f h = ap (λ t. t ∷ []) (lone_open e v h)

    mutual
      t_expr : (e : Expression) (need : Need) (wants : List Ty) → Ensures Knows Same (expr e sc need wants) (λ vs c. Told e wants vs × Same c)
      t_expr (number n s) need wants = o_more Knows 0 (t_static (number n s) wants) (λ vs c h. (told_shut (number n s) wants vs (number_is_shut sc.statics n s) h.0, h.1))
      t_expr (typed_number n k s) need wants =
          o_bind Knows 0 (t_typed n k s) (λ v. o_back Knows 0 (v ∷ []) (λ c h. (told_open (typed_number n k s) wants (v ∷ []) (typed_is_open sc.statics n k s) (ap (λ t. t ∷ []) h.0), h.1)))
      t_expr (truth b s) need wants = o_more Knows 0 (t_static (truth b s) wants) (λ vs c h. (told_shut (truth b s) wants vs (truth_is_shut sc.statics b s) h.0, h.1))
      t_expr (pi s) need wants = o_fail Knows 0 _
      t_expr (place w s) need wants =
          t_unless (place w s) wants refl (λ x. o_bind Knows 0 (t_use_place w s need) (λ v. o_back Knows 0 (v ∷ []) (λ c h. (ap (λ t. t ∷ []) h.0, h.1))))
      t_expr (called f ss args s) need wants =
          o_more Knows 0 (t_found (built_in sc.words f) (find_fun sc.before f) ss args s need (λ l. arguments args sc needs.Held l) (later_arguments args sc) (λ l. t_arguments args needs.Held l) (t_later args))
          (λ vs c h. (told_open (called f ss args s) wants vs (call_is_open sc.statics f ss args s) h.0, h.1))
      t_expr (tuple es s) need wants =
          o_more Knows 0 (t_arguments es need (asked_of_items need wants))
          (λ vs c h. (record { shut = λ x. let f : ⊥ = tuple_shut es s x in absurd f; open_ = λ x. items_types es need (asked_of_items need wants) vs x h.0 }, h.1))
      t_expr (unary op e s) need wants =
          t_unless (unary op e s) wants refl (λ x. o_bind Knows 0 (t_expr e needs.Held []) (λ vs. o_bind Knows 0 (t_held e vs) (λ v.
          given (λ (q : Lone e [] v). o_more Knows 0 (t_unary op s v) (λ xs c h. (h.0 ∙ unary_told op e s v x q, h.1))))))
      t_expr (binary op a b s) need wants =
          t_unless (binary op a b s) wants refl (λ x.
          o_bind Knows 0 (t_operands op a b (λ w. expr a sc needs.Held (lone_wants a w) >>= single a) (λ w. expr b sc needs.Held (lone_wants b w) >>= single b)
          (λ w. o_bind Knows 0 (t_expr a needs.Held (lone_wants a w)) (λ vs. t_lone a w vs))
          (λ w. o_bind Knows 0 (t_expr b needs.Held (lone_wants b w)) (λ vs. t_lone b w vs)))
          (λ r. given (λ (q : Both op a b r). o_more Knows 0 (t_binary op a b s r.0 r.1) (λ xs c h. (h.0 ∙ ap (λ t. t ∷ []) q, h.1)))))

      t_arguments : (es : Expressions) (other : Need) (l : List Asked) → Ensures Knows Same (arguments es sc other l) (λ vs c. Items es other l vs × Same c)
      t_arguments none other l = o_back Knows 0 [] (λ c s. (tt, s))
      t_arguments (more e es) other l =
          o_bind Knows 0 (t_expr e (lone_need e (first_asked other l).need) (lone_wants e (first_asked other l).wants)) (λ vs.
          o_bind Knows 0 (t_lone e (first_asked other l).wants vs) (λ v.
          o_then Knows 0 (o_suits Knows 0 e (first_asked other l).wants v) (λ u.
          o_bind Knows 0 (carried (t_arguments es other (later_asked l))) (λ rest.
          o_back Knows 0 (v ∷ rest) (λ c h. ((h.0, h.1.0), h.1.1))))))

      t_later : (es : Expressions) → Walks_later es (later_arguments es sc)
      t_later none = o_back Knows 0 [] (λ c s. (tt, s))
      t_later (more e es) = t_arguments es needs.Held []

    told_same : (e : Expression) (wants : List Ty) (vs : List Value) → Told e wants vs → types_told e sc vars met ≡ shape_of sc.statics e vs
    told_same e wants vs h = go (has_static sc.statics e) refl
      where
        go : (b : Bool) → has_static sc.statics e ≡ b → cond (has_static sc.statics e) None (Some (types_of e sc vars met)) ≡ cond (has_static sc.statics e) None (Some (types_of_values vs))
        go true x = ap (λ b. cond b None (Some (types_of e sc vars met))) x ∙ sym (ap (λ b. cond b None (Some (types_of_values vs))) x)
        go false x = ap (λ ts. cond (has_static sc.statics e) None (Some ts)) (sym (h.open_ x))

  -- what the walk reads has the types that are told without it
  pub types_read : (sc : Scope) (e : Expression) (need : Need) (wants : List Ty) (vs : List Value) (old now : State) → Reads met (expr e sc need wants) old vs now → types_told e sc old.vars met ≡ shape_of sc.statics e vs
  types_read sc e need wants vs old now r =
      told_same sc old.vars e wants vs (reads_ensures (Same sc old.vars) (expr e sc need wants) (λ xs c. Told sc old.vars e wants xs × Same sc old.vars c) old now vs (t_expr sc old.vars e need wants) r (record { types = λ p. refl })).0

  -- the same where they are told
  pub types_told_read : (sc : Scope) (e : Expression) (need : Need) (wants : List Ty) (vs : List Value) (old now : State) (ts : List Ty) → false ≡ has_static sc.statics e → ts ≡ types_of e sc old.vars met → Reads met (expr e sc need wants) old vs now → Some ts ≡ shape_of sc.statics e vs
  types_told_read sc e need wants vs old now ts h q r =
      ap (λ us. Some us) q ∙ ap (λ b. cond b None (Some (types_of e sc old.vars met))) h ∙ types_read sc e need wants vs old now r
