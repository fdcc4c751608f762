-- What an expression consumes is consumed behind it, by its walk.
use Rattle.std.proofs.Common.{◌≡◌, ℕ, Bool, true, false, cond, not, ◌&&◌, List, [], ◌∷◌, ◌++◌, map, refl, sym, ap, ◌∙◌, subst, ◌+◌, arith}
use Rattle.std.specs.Prelude.{Option, Some, None, Ok, ℤ, ◌==◌, Result}
use Rattle.silq_tree.specs.declared.node.Spot.{Spot}
use Rattle.silq_tree.specs.Syntax.{Expression, Expressions, number, typed_number, truth, pi, place, called, tuple, unary, binary, none, more, ScalarType, Place, bit, uint, int, part}
use Rattle.static_num.specs.Static.{is_static, value, eval_of}
use Rattle.silq_types.specs.declared.types.Ty.{Ty}
use Rattle.silq_types.specs.declared.signature.InstanceKey.{InstanceKey}
use Rattle.silq_types.specs.declared.signature.Signature.{Signature}
use Rattle.silq_types.specs.declared.values.Value.{Value}
use Rattle.silq_types.specs.declared.values.Var.{Var}
use Rattle.silq_types.specs.Types.{at, Statics, place_name, place_indices, count, first_unknown, scalar_names}
use Rattle.silq_types.specs.Programs.{paired}
use Rattle.silq_types.specs.declared.need.Need.{Need}
use Rattle.silq_types.specs.declared.built_in.BuiltIn.{BuiltIn}
use Rattle.silq_types.specs.declared.built_in.BuiltIn.TheVariants.{HGate, XGate, YGate, ZGate, Dup, Measure, Vector, RotateX, RotateY, RotateZ}
use Rattle.silq_types.specs.Calls.{Found, built_in, find_fun, param_need, needs_of_built_in, needs_of_found, first_need, later_needs}
use Rattle.silq_mean.specs.Written.{Header, needed_at, header_of, all_known, width_of, width_spot, scalar_by, scalar_type}
use Rattle.check_scope.specs.declared.uses.Use.{Use}
use Rattle.check_scope.specs.Walk.{Walk, answer, broken, counted, asked}
use Rattle.check_scope.specs.Context.{Scope, Context, Check, ◌>>=◌, ◌>>◌, give_back, signature, part_at, variable, find_var}
use Rattle.check_scope.specs.Uses.{uses, all_uses, scalar_uses, index_values, place_use}
use Rattle.check_expr.specs.Expression.{Asked, Arguments, first_asked, later_asked, asked_by, asked_by_built_in, expr, arguments, later_arguments, single, is_tuple, lone_need, lone_wants, operands, all_typed, vector_value, call_gate, call_built_in, call_own, call_found, result_values, unnamed_rule, lone_linear, is_qfree, all_lifted, exact_place, unless_static, static_arguments}
use Rattle.check_expr.specs.Owners.{Gives, Ensures}
use Rattle.check_expr.proofs.Owners.{gives-more, o_bind, o_then, o_more, o_from, o_back, o_fail, o_if, o_rules, o_result, o_variables, o_names, o_length, o_signature, o_suits, o_natural}
use Rattle.flat_form.specs.Names.{AllOf}
use Rattle.flat_typed.specs.Places.{Places}
use Rattle.flat_typed.specs.Relation.{FitsPart}
use Rattle.flat_typed.specs.Done.{kinds}
use Rattle.flat_typed.specs.Scopes.{NoStatics}
use Rattle.flat_typed.proofs.Ordered.{clash}
use Rattle.flat_typed.proofs.Uses.{all_join, find_kinds, place_use_kinds}
use Rattle.flat_typed.proofs.Tame.{AllLeft, left_same, left_then, kinds_left, FindLeft, find_left}
use Rattle.flat_typed.proofs.Scopes.{header_parts, then_ok, eval_is, needed_is}
use Rattle.flat_typed.proofs.Leaving.{On, k_any, k_static, k_typed, k_single, k_unary, k_binary, k_gates, k_many, k_results}
use Rattle.flat_typed.proofs.UsesThere.{AskedAs, held_all, asked_params, static_of, no_uses, place_uses, after_use}
use Rattle.flat_typed.proofs.There.{PlaceUsed, o_place, Used}
use Rattle.flat_typed.proofs.Turns.{gives_both}
use Rattle.flat_typed.proofs.Spending.{Gone, Spends, all_gone_left, at_place, place_gone}
use Rattle.std.proofs.lemmas.Bool.{eqb-true}
use Rattle.silq_tree.specs.declared.node.NameId.{NameId}
use Rattle.silq_types.specs.declared.types.Scalar.{Scalar}
use Rattle.silq_types.specs.declared.values.Part.{Part}
use Rattle.silq_types.specs.Rules.{Fault, and_then}
use Rattle.check_scope.specs.Places.{use_place}
use Rattle.silq_types.specs.declared.need.Need.TheVariants as needs

module _ (S : InstanceKey → Signature → Type 0) (low : ℕ) (W : Places) (vs0 : List Var) (sc : Scope) (free : NoStatics sc vs0) where
  -- the uses so far, the last first, are consumed as they say; and an expression may have led to these variables
  abbrev AllGone : List (List Use) → List Var → Type 0
  AllGone [] vars = Unit {0}
  AllGone (us ∷ X) vars = AllGone X vars × AllOf (Gone vars) us

  abbrev In : List (List Use) → List Var → Type 0
  In X vars = AllGone X vars × (AllLeft vs0 vars × AllOf (FitsPart W vars) vars)

  abbrev Holds : List (List Use) → Context → Type 0
  Holds X = On S low (In X)

  join : (vars : List Var) (us vs : List Use) → AllOf (Gone vars) us → AllOf (Gone vars) vs → AllOf (Gone vars) (us ++ vs)
  join vars us vs h k = all_join (Gone vars) us vs h k

  uses_left : (vs ws : List Var) (X : List (List Use)) → AllLeft vs ws → AllGone X vs → AllGone X ws
  uses_left vs ws [] l h = tt
  uses_left vs ws (us ∷ X) l h = (uses_left vs ws X l h.0, all_gone_left vs ws us l h.1)

  -- ---- what is static uses nothing

  static_gone : (vars : List Var) (e : Expression) (need : Need) → is_static sc.statics e ≡ true → AllOf (Gone vars) (uses e sc vs0 need)
  static_gone vars e need h = subst (AllOf (Gone vars)) (sym (no_uses S low W vs0 sc free e need h)) tt

  needed_gone : (vars : List Var) (e : Expression) (z : ℤ) → eval_of sc.statics e ≡ Ok z → AllOf (Gone vars) (uses e sc vs0 needs.Held)
  needed_gone vars e z h = static_gone vars e needs.Held (static_of (is_static sc.statics e) (value sc.statics e) z h)

  statics_gone : (es : Expressions) (X : List (List Use)) → Ensures S (Holds X) (static_arguments es sc) (λ zs. Holds (all_uses es sc vs0 [] ∷ X))
  statics_gone none X = o_back S low [] (λ c p. ((p.0, tt), p.1))
  statics_gone (more e es) X =
      o_bind S low (needed_is S low sc e) (λ v. o_then S low (o_natural S low (at e) v) (λ u.
      o_bind S low (o_from S low (λ c h. ((h.1.0, needed_gone c.vars e v h.0), h.1.1)) (statics_gone es (uses e sc vs0 needs.Held ∷ X))) (λ vs.
      o_back S low (v ∷ vs) (λ c h. ((h.0.0.0, join c.vars (uses e sc vs0 needs.Held) (all_uses es sc vs0 []) h.0.0.1 h.0.1), h.1)))))

  scalar_gone : (vars : List Var) (k : ScalarType) (known : NameId → Bool) (s : Spot) (t : Scalar) → scalar_type sc.statics known k s ≡ Ok t → AllOf (Gone vars) (scalar_uses k sc vs0)
  scalar_gone vars bit known s t e = tt
  scalar_gone vars (uint a) known s t e = width_gone a (width_spot (uint a) s) (λ w. scalar_by (uint a) w s) t (then_ok (all_known (first_unknown known (scalar_names (uint a)))) (λ u. and_then (width_of sc.statics (uint a) (width_spot (uint a) s)) (λ w. scalar_by (uint a) w s)) t e).rest
    where
      width_gone : (a : Expression) (s : Spot) (f : Option ℤ → Result Scalar Fault) (t : Scalar) → and_then (and_then (needed_at sc.statics a s) (λ v. Ok (Some v))) f ≡ Ok t → AllOf (Gone vars) (uses a sc vs0 needs.Held)
      width_gone a s f t e =
          let b = then_ok (and_then (needed_at sc.statics a s) (λ v. Ok (Some v))) f t e in
          let d = then_ok (needed_at sc.statics a s) (λ v. Ok (Some v)) b.first b.is in
          needed_gone vars a d.first (eval_is s (eval_of sc.statics a) d.first d.is)
  scalar_gone vars (int a) known s t e = width_gone a (width_spot (int a) s) (λ w. scalar_by (int a) w s) t (then_ok (all_known (first_unknown known (scalar_names (int a)))) (λ u. and_then (width_of sc.statics (int a) (width_spot (int a) s)) (λ w. scalar_by (int a) w s)) t e).rest
    where
      width_gone : (a : Expression) (s : Spot) (f : Option ℤ → Result Scalar Fault) (t : Scalar) → and_then (and_then (needed_at sc.statics a s) (λ v. Ok (Some v))) f ≡ Ok t → AllOf (Gone vars) (uses a sc vs0 needs.Held)
      width_gone a s f t e =
          let b = then_ok (and_then (needed_at sc.statics a s) (λ v. Ok (Some v))) f t e in
          let d = then_ok (needed_at sc.statics a s) (λ v. Ok (Some v)) b.first b.is in
          needed_gone vars a d.first (eval_is s (eval_of sc.statics a) d.first d.is)

  -- no static arguments
  none_gone : (vars : List Var) (ss : Expressions) → not (count ss == 0) ≡ false → AllOf (Gone vars) (all_uses ss sc vs0 [])
  none_gone vars none e = tt
  none_gone vars (more e es) h = let a = eqb-true (count es + 1) 0 (turned (count es + 1 == 0) h) in absurd (omega (arith, a))
    where
      turned : (b : Bool) → not b ≡ false → b ≡ true
      turned true e = refl
      turned false e = clash e

  g_unless : (e : Expression) (X : List (List Use)) (need : Need) (wants : List Ty) {m : Check (List Value)} → Ensures S (Holds X) m (λ vs. Holds (uses e sc vs0 need ∷ X)) → Ensures S (Holds X) (unless_static sc e wants m) (λ vs. Holds (uses e sc vs0 need ∷ X))
  g_unless e X need wants q = o_if S low (is_static sc.statics e) (λ x. o_more S low (k_static S low (In X) sc e wants) (λ vs c h. ((h.0, static_gone c.vars e need x), h.1))) (λ x. q)

  -- ---- places

  statics_left : (vs : List Var) → AllLeft vs0 vs → NoStatics sc vs
  statics_left vs l x h = go (find_var vs (variable x)) refl (subst (λ o. FindLeft o (find_var vs (variable x))) (free x h) (find_left vs0 vs (variable x) l))
    where
      go : (o : Option Var) → find_var vs (variable x) ≡ o → FindLeft None o → find_var vs (variable x) ≡ None
      go None e f = e
      go (Some v) e f = absurd f

  g_place : (w : Place) (s : Spot) (X : List (List Use)) (need : Need) → Ensures S (Holds X) (use_place sc w s need) (λ v. Holds (uses (place w s) sc vs0 need ∷ X))
  g_place w s X need = record {
    runs = λ d h.
        gives-more S low (λ r. PlaceUsed sc need d w r.1 × ((zs : List ℤ) → index_values sc.statics (place_indices w) ≡ Some zs → Spends need d (place_name w) (part_at (place_name w) zs) r.1)) (λ r. In (uses (place w s) sc vs0 need ∷ X) r.1.vars) (use_place sc w s need d)
        (gives_both S (λ r. PlaceUsed sc need d w r.1) (λ r. (zs : List ℤ) → index_values sc.statics (place_indices w) ≡ Some zs → Spends need d (place_name w) (part_at (place_name w) zs) r.1) (use_place sc w s need d)
        ((o_place S low d sc w s need).runs d refl) ((at_place S d sc need w s).runs d refl))
        (λ r k.
        let l = after_use S low W d.vars sc (statics_left d.vars h.1.0) need d r.1 (place_name w) (part_at (place_name w) k.0.values) k.0.used (left_same d.vars, h.1.1) in
        ((uses_left d.vars r.1.vars X l.0 h.0, subst (AllOf (Gone r.1.vars)) (read d r.1 h.1.0 k.0) (place_gone W sc need d w r.1 h.1.1 k.0 k.1)), (left_then vs0 d.vars r.1.vars h.1.0 l.0, l.1)));
  }
    where
      read : (d e : Context) → AllLeft vs0 d.vars → PlaceUsed sc need d w e → place_use sc.statics (find_var d.vars (variable (place_name w))) (place_indices w) need ≡ uses (place w s) sc vs0 need
      read d e l k =
          place_use_kinds sc.statics (find_var d.vars (variable (place_name w))) (find_var vs0 (variable (place_name w))) (place_indices w) need (find_kinds d.vars vs0 (variable (place_name w)) (sym (kinds_left vs0 d.vars l)))
          ∙ sym (place_uses S low W vs0 sc free w s need k.values k.known)

  -- ---- arguments, by a lemma on each

  abbrev Walked : (List Asked → Check (List Value)) → Expressions → Type 0
  Walked walk args = (X : List (List Use)) (l : List Asked) (ns : List Need) → AskedAs args l ns → Ensures S (Holds X) (walk l) (λ vs. Holds ((all_uses args sc vs0 ns) ∷ X))

  first_by : {A : Type 0} {P : Context → Type 0} {m : Check A} {Q : Context → Type 0} (t b : Bool) → t ≡ b → (t ≡ false → Ensures S P m (λ vs. Q)) → Ensures S P m (λ vs d. t ≡ false → Q d)
  first_by t true e f = o_more S low (k_any S low _) (λ vs d h z. clash (sym e ∙ z))
  first_by t false e f = o_more S low (f e) (λ vs d q z. q)

  -- ---- calls

  g_gate : (b : BuiltIn) (args : Expressions) (s : Spot) (ss : Expressions) (need : Need) (walk : Arguments) (X : List (List Use)) (ns : List Need) → Walked walk args → AskedAs args (asked_by_built_in b) ns
      → Ensures S (Holds X) (call_gate sc b ss args s need walk) (λ vs. Holds ((all_uses ss sc vs0 [] ++ all_uses args sc vs0 ns) ∷ X))
  g_gate b args s ss need walk X ns w agree =
      o_then S low (o_rules S low s _) (λ u.
      o_bind S low (o_from S low (λ c h. ((h.1.0, none_gone c.vars ss h.0.1.1.0), h.1.1)) (w ((all_uses ss sc vs0 []) ∷ X) (asked_by_built_in b) ns agree)) (λ vs.
      o_from S low (λ c h. ((h.0.0.0, join c.vars (all_uses ss sc vs0 []) (all_uses args sc vs0 ns) h.0.0.1 h.0.1), h.1)) (k_gates S low (In ((all_uses ss sc vs0 [] ++ all_uses args sc vs0 ns) ∷ X)) b s need vs)))

  asked_one : (n : Need) (args : Expressions) → AskedAs args (record { need = n; wants = [] } ∷ []) (n ∷ [])
  asked_one n none = tt
  asked_one n (more e es) = (refl, held_all es)

  asked_dup : (args : Expressions) → AskedAs args (record { need = needs.Held; wants = [] } ∷ []) []
  asked_dup none = tt
  asked_dup (more e es) = (refl, held_all es)

  of_and : (a b : Bool) → not (a && b) ≡ false → a ≡ true
  of_and true b e = refl
  of_and false b e = clash e

  -- the walk of the arguments after the first
  abbrev Later : Check (List Value) → Expressions → Type 0
  Later later none = (X : List (List Use)) → Ensures S (Holds X) later (λ vs. Holds X)
  Later later (more a rest) = (X : List (List Use)) → Ensures S (Holds X) later (λ vs. Holds ((all_uses rest sc vs0 []) ∷ X))

  g_vector : (args : Expressions) (s : Spot) (later : Check (List Value)) (X : List (List Use)) → Later later args → Ensures S (Holds X) (vector_value sc s args later) (λ vs. Holds ((all_uses args sc vs0 []) ∷ X))
  g_vector none s later X w = o_fail S low _
  g_vector (more a rest) s later X w =
      o_then S low (o_names S low sc a) (λ u. o_bind S low (o_length S low sc a) (λ m. o_bind S low (w X) (λ vs. o_then S low (o_rules S low s _) (λ u'.
      o_from S low (λ c h. ((h.1.0.0, join c.vars (uses a sc vs0 needs.Held) (all_uses rest sc vs0 []) (static_gone c.vars a needs.Held (of_and (is_static sc.statics a) (all_typed rest) h.0.0)) h.1.0.1), h.1.1))
      (k_many S low (In ((all_uses (more a rest) sc vs0 []) ∷ X)) s vs m)))))

  g_built_in : (b : BuiltIn) (args : Expressions) (s : Spot) (ss : Expressions) (need : Need) (walk : Arguments) (later : Check (List Value)) (X : List (List Use)) → Walked walk args → Later later args
      → Ensures S (Holds X) (call_built_in sc b ss args s need walk later) (λ vs. Holds ((all_uses ss sc vs0 [] ++ all_uses args sc vs0 (needs_of_built_in b)) ∷ X))
  g_built_in HGate args s ss need walk later X w r = g_gate HGate args s ss need walk X (needs.Consumed ∷ []) w (asked_one needs.Consumed args)
  g_built_in XGate args s ss need walk later X w r = g_gate XGate args s ss need walk X (needs.Consumed ∷ []) w (asked_one needs.Consumed args)
  g_built_in YGate args s ss need walk later X w r = g_gate YGate args s ss need walk X (needs.Consumed ∷ []) w (asked_one needs.Consumed args)
  g_built_in ZGate args s ss need walk later X w r = g_gate ZGate args s ss need walk X (needs.Consumed ∷ []) w (asked_one needs.Consumed args)
  g_built_in Measure args s ss need walk later X w r = g_gate Measure args s ss need walk X (needs.Consumed ∷ []) w (asked_one needs.Consumed args)
  g_built_in Dup args s ss need walk later X w r = g_gate Dup args s ss need walk X [] w (asked_dup args)
  g_built_in Vector args s ss need walk later X w r =
      o_then S low (o_rules S low s _) (λ u. o_from S low (λ c h. ((h.1.0, none_gone c.vars ss h.0.1.1.0), h.1.1))
      (o_more S low (g_vector args s later ((all_uses ss sc vs0 []) ∷ X) r) (λ vs c h. ((h.0.0.0, join c.vars (all_uses ss sc vs0 []) (all_uses args sc vs0 []) h.0.0.1 h.0.1), h.1))))
  g_built_in RotateX args s ss need walk later X w r = o_fail S low _
  g_built_in RotateY args s ss need walk later X w r = o_fail S low _
  g_built_in RotateZ args s ss need walk later X w r = o_fail S low _

  g_own : (f : Found) (args : Expressions) (s : Spot) (ss : Expressions) (need : Need) (walk : Arguments) (X : List (List Use)) → Walked walk args
      → Ensures S (Holds X) (call_own sc f ss args s need walk) (λ vs. Holds ((all_uses ss sc vs0 [] ++ all_uses args sc vs0 (map (param_need f.fun) f.fun.params)) ∷ X))
  g_own f args s ss need walk X w =
      o_then S low (o_rules S low s _) (λ u.
      o_bind S low (o_from S low (λ c h. h.1) (statics_gone ss X)) (λ zs.
      o_bind S low (o_result S low (header_of (paired f.fun.statics zs) exact_place f.fun)) (λ h.
      o_bind S low (o_variables S low) (λ vars.
      o_then S low (o_rules S low s _) (λ u'.
      record { runs = λ c r. (last zs h r.1.1.0).runs c r.1.1.1 })))))
    where
      last : (zs : List ℤ) (h : Header) → header_of (paired f.fun.statics zs) exact_place f.fun ≡ Ok h
          → Ensures S (Holds ((all_uses ss sc vs0 []) ∷ X)) (walk (map asked_by h.params) >>= (λ vs. signature (record { fun = record { number = f.number }; statics = zs }) >>= (λ sig. result_values (is_qfree f.fun.mark && all_lifted h.params vs) vs sig.results >>= (λ xs. unnamed_rule s need (lone_linear xs) >> give_back xs))))
          (λ vs. Holds ((all_uses ss sc vs0 [] ++ all_uses args sc vs0 (map (param_need f.fun) f.fun.params)) ∷ X))
      last zs h e =
          o_bind S low (w ((all_uses ss sc vs0 []) ∷ X) (map asked_by h.params) (map (param_need f.fun) f.fun.params) (asked_params args f.fun (paired f.fun.statics zs) f.fun.params h.params (header_parts (paired f.fun.statics zs) f.fun h e).params)) (λ vs.
          o_bind S low (o_signature S low (record { fun = record { number = f.number }; statics = zs })) (λ sig.
          o_bind S low (o_from S low (λ c r. r.1) (k_results S low (In ((all_uses args sc vs0 (map (param_need f.fun) f.fun.params)) ∷ ((all_uses ss sc vs0 []) ∷ X))) (is_qfree f.fun.mark && all_lifted h.params vs) vs sig.results)) (λ xs.
          o_then S low (o_rules S low s _) (λ u. o_back S low xs (λ c r. ((r.1.0.0.0, join c.vars (all_uses ss sc vs0 []) (all_uses args sc vs0 (map (param_need f.fun) f.fun.params)) r.1.0.0.1 r.1.0.1), r.1.1))))))

  g_found : (b : Option BuiltIn) (o : Option Found) (args : Expressions) (s : Spot) (ss : Expressions) (need : Need) (walk : Arguments) (later : Check (List Value)) (X : List (List Use)) → Walked walk args → Later later args
      → Ensures S (Holds X) (call_found sc b o ss args s need walk later) (λ vs. Holds ((all_uses ss sc vs0 [] ++ all_uses args sc vs0 (needs_of_found b o)) ∷ X))
  g_found (Some b) o args s ss need walk later X w r = g_built_in b args s ss need walk later X w r
  g_found None (Some f) args s ss need walk later X w r = g_own f args s ss need walk X w
  g_found None None args s ss need walk later X w r = o_fail S low _

  -- ---- operators

  g_operands : (a b : Expression) (left right : List Ty → Check Value) (X : List (List Use))
      → ((X : List (List Use)) (w : List Ty) → Ensures S (Holds X) (left w) (λ x. Holds ((uses a sc vs0 needs.Held) ∷ X))) → ((X : List (List Use)) (w : List Ty) → Ensures S (Holds X) (right w) (λ x. Holds ((uses b sc vs0 needs.Held) ∷ X)))
      → Ensures S (Holds X) (operands sc a left right) (λ r. Holds ((uses a sc vs0 needs.Held ++ uses b sc vs0 needs.Held) ∷ X))
  g_operands a b left right X l r = o_if S low (is_static sc.statics a)
      (λ e. o_bind S low (o_result S low (needed_at sc.statics a (at a))) (λ z. o_bind S low (o_from S low (λ c h. h.1) (r X [])) (λ y. o_bind S low (l ((uses b sc vs0 needs.Held) ∷ X) (y.ty ∷ [])) (λ x.
      o_back S low (x, y) (λ c h. ((h.0.0.0, join c.vars (uses a sc vs0 needs.Held) (uses b sc vs0 needs.Held) h.0.1 h.0.0.1), h.1))))))
      (λ e. o_bind S low (l X []) (λ x. o_bind S low (r ((uses a sc vs0 needs.Held) ∷ X) (x.ty ∷ [])) (λ y.
      o_back S low (x, y) (λ c h. ((h.0.0.0, join c.vars (uses a sc vs0 needs.Held) (uses b sc vs0 needs.Held) h.0.0.1 h.0.1), h.1)))))

  lone : (e : Expression) (n : Need) → is_tuple e ≡ false → lone_need e n ≡ n
  lone e n t = ap (λ b. cond b needs.Held n) t

  -- ---- the walk

  mutual
    pub g_expr : (e : Expression) (X : List (List Use)) (need : Need) (wants : List Ty) → is_tuple e ≡ false → Ensures S (Holds X) (expr e sc need wants) (λ vs. Holds ((uses e sc vs0 need) ∷ X))
    g_expr (number n s) X need wants t = o_more S low (k_static S low (In X) sc (number n s) wants) (λ vs c h. ((h.0, tt), h.1))
    g_expr (typed_number n k s) X need wants t =
        o_bind S low (k_typed S low (In X) (In ((scalar_uses k sc vs0) ∷ X)) sc n k s (λ known u vars e h. ((h.0, scalar_gone vars k known s u e), h.1))) (λ v. o_back S low (v ∷ []) (λ c h. h))
    g_expr (truth b s) X need wants t = o_more S low (k_static S low (In X) sc (truth b s) wants) (λ vs c h. ((h.0, tt), h.1))
    g_expr (pi s) X need wants t = o_fail S low _
    g_expr (place w s) X need wants t = g_unless (place w s) X need wants (o_bind S low (g_place w s X need) (λ v. o_back S low (v ∷ []) (λ c h. h)))
    g_expr (called f ss args s) X need wants t =
        g_found (built_in sc.words f) (find_fun sc.before f) args s ss need (λ l. arguments args sc needs.Held l) (later_arguments args sc) X (λ X l ns agree. g_arguments args X l ns agree) (g_later args)
    g_expr (tuple es s) X need wants t = clash t
    g_expr (unary op e s) X need wants t =
        g_unless (unary op e s) X need wants
        (o_bind S low (first_by (is_tuple e) (is_tuple e) refl (λ z. g_expr e X needs.Held [] z)) (λ vs. o_bind S low (k_single S low (Holds ((uses e sc vs0 needs.Held) ∷ X)) e vs) (λ v. k_unary S low (In ((uses e sc vs0 needs.Held) ∷ X)) op s v)))
    g_expr (binary op a b s) X need wants t =
        g_unless (binary op a b s) X need wants
        (o_bind S low (g_operands a b (λ w. expr a sc needs.Held (lone_wants a w) >>= single a) (λ w. expr b sc needs.Held (lone_wants b w) >>= single b) X
        (λ X w. o_bind S low (first_by (is_tuple a) (is_tuple a) refl (λ z. g_expr a X needs.Held (lone_wants a w) z)) (λ vs. k_single S low (Holds ((uses a sc vs0 needs.Held) ∷ X)) a vs))
        (λ X w. o_bind S low (first_by (is_tuple b) (is_tuple b) refl (λ z. g_expr b X needs.Held (lone_wants b w) z)) (λ vs. k_single S low (Holds ((uses b sc vs0 needs.Held) ∷ X)) b vs)))
        (λ r. k_binary S low (In ((uses a sc vs0 needs.Held ++ uses b sc vs0 needs.Held) ∷ X)) sc op a b s r.0 r.1))

    g_arguments : (es : Expressions) (X : List (List Use)) (l : List Asked) (ns : List Need) → AskedAs es l ns → Ensures S (Holds X) (arguments es sc needs.Held l) (λ vs. Holds ((all_uses es sc vs0 ns) ∷ X))
    g_arguments none X l ns agree = o_back S low [] (λ c h. ((h.0, tt), h.1))
    g_arguments (more e es) X l ns agree =
        o_bind S low (first_by (is_tuple e) (is_tuple e) refl (λ z. g_expr e X (lone_need e (first_asked needs.Held l).need) (lone_wants e (first_asked needs.Held l).wants) z)) (λ vs.
        o_bind S low (o_from S low (λ c h z. let k = h z in ((k.0.0, subst (λ n. AllOf (Gone c.vars) (uses e sc vs0 n)) (lone e (first_asked needs.Held l).need z ∙ agree.0) k.0.1), k.1)) (k_single S low (Holds ((uses e sc vs0 (first_need ns)) ∷ X)) e vs)) (λ v.
        o_then S low (o_suits S low e (first_asked needs.Held l).wants v) (λ u.
        o_bind S low (g_arguments es ((uses e sc vs0 (first_need ns)) ∷ X) (later_asked l) (later_needs ns) agree.1) (λ rest.
        o_back S low (v ∷ rest) (λ c h. ((h.0.0.0, join c.vars (uses e sc vs0 (first_need ns)) (all_uses es sc vs0 (later_needs ns)) h.0.0.1 h.0.1), h.1))))))

    g_later : (es : Expressions) → Later (later_arguments es sc) es
    g_later none = λ X. o_back S low [] (λ c h. h)
    g_later (more e es) = λ X. g_arguments es X [] [] (held_all es)

-- ---- the law

gives_all : {A B : Type 0} (S : InstanceKey → Signature → Type 0) (P : B → A → Type 0) (w : Walk A) → ((b : B) → Gives S (P b) w) → Gives S (λ a. (b : B) → P b a) w
gives_all S P (answer a) h = h
gives_all S P (broken e) h = tt
gives_all S P (counted w) h = gives_all S P w h
gives_all S P (asked k next) h = λ s ok. gives_all S P (next s) (λ b. h b s ok)

-- what an expression consumes is consumed behind it
pub uses_are_gone : (S : InstanceKey → Signature → Type 0) (e : Expression) (sc : Scope) (need : Need) (wants : List Ty) (c : Context) → is_tuple e ≡ false → NoStatics sc c.vars
    → Gives S (λ r. (W : Places) → AllOf (FitsPart W c.vars) c.vars → AllOf (Gone r.1.vars) (uses e sc c.vars need)) (expr e sc need wants c)
uses_are_gone S e sc need wants c t free =
    gives-more S 0 (λ r. (b : Fitting) → AllOf (Gone r.1.vars) (uses e sc c.vars need)) (λ r. (W : Places) → AllOf (FitsPart W c.vars) c.vars → AllOf (Gone r.1.vars) (uses e sc c.vars need)) (expr e sc need wants c)
    (gives_all S (λ (b : Fitting) r. AllOf (Gone r.1.vars) (uses e sc c.vars need)) (expr e sc need wants c)
    (λ b. gives-more S 0 (λ r. In S 0 b.0 c.vars sc free (uses e sc c.vars need ∷ []) r.1.vars) (λ r. AllOf (Gone r.1.vars) (uses e sc c.vars need)) (expr e sc need wants c)
    ((g_expr S 0 b.0 c.vars sc free e [] need wants t).runs c (tt, (left_same c.vars, b.1))) (λ r h. h.0.1)))
    (λ r h W fits. h (W, fits))
  where
    Fitting : Type 0
    Fitting = (W : Places) × AllOf (FitsPart W c.vars) c.vars
