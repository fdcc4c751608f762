-- The parts that an expression uses are there, by its walk.
use Rattle.std.proofs.Common.{◌≡◌, ℕ, Bool, true, false, cond, not, ◌&&◌, List, [], ◌∷◌, ◌++◌, map, refl, sym, ap, ◌∙◌, subst}
use Rattle.std.specs.Prelude.{⊤, Option, Some, None, Ok, ℤ}
use Rattle.silq_tree.specs.declared.node.Spot.{Spot}
use Rattle.silq_tree.specs.Syntax.{Expression, Expressions, number, typed_number, truth, pi, place, called, tuple, unary, binary, none, more}
use Rattle.static_num.specs.Static.{is_static}
use Rattle.silq_types.specs.declared.types.Ty.{Ty}
use Rattle.silq_types.specs.declared.signature.InstanceKey.{InstanceKey}
use Rattle.silq_types.specs.declared.signature.Signature.{Signature}
use Rattle.silq_types.specs.declared.values.Value.{Value}
use Rattle.silq_types.specs.declared.values.Var.{Var}
use Rattle.silq_types.specs.Types.{at}
use Rattle.silq_types.specs.Programs.{paired}
use Rattle.silq_types.specs.declared.need.Need.{Need}
use Rattle.silq_types.specs.declared.need.Need.TheVariants as needs
use Rattle.silq_types.specs.declared.built_in.BuiltIn.{BuiltIn}
use Rattle.silq_types.specs.declared.built_in.BuiltIn.TheVariants.{HGate, XGate, YGate, ZGate, Dup, Measure, Vector, RotateX, RotateY, RotateZ}
use Rattle.silq_types.specs.Calls.{Found, built_in, find_fun, param_need, needs_of_built_in, needs_of_found, first_need, later_needs}
use Rattle.silq_mean.specs.Written.{Header, needed_at, header_of}
use Rattle.check_scope.specs.declared.uses.Use.{Use}
use Rattle.check_scope.specs.Walk.{Walk, answer, broken, counted, asked}
use Rattle.check_scope.specs.Context.{Scope, Context, Check, ◌>>=◌, ◌>>◌, give_back, signature}
use Rattle.check_scope.specs.Uses.{uses, all_uses, scalar_uses}
use Rattle.check_expr.specs.Expression.{Asked, Arguments, first_asked, later_asked, asked_by, asked_by_built_in, expr, arguments, later_arguments, single, is_tuple, lone_need, lone_wants, operands, all_typed, vector_value, call_gate, call_built_in, call_own, call_found, result_values, unnamed_rule, lone_linear, is_qfree, all_lifted, exact_place}
use Rattle.check_expr.specs.Owners.{Gives, Ensures}
use Rattle.check_expr.proofs.Owners.{gives-more, o_bind, o_then, o_more, o_from, o_back, o_fail, o_if, o_rules, o_result, o_variables, o_names, o_length, o_signature, o_suits}
use Rattle.flat_form.specs.Names.{AllOf}
use Rattle.flat_typed.specs.Places.{Places}
use Rattle.flat_typed.specs.Relation.{FitsPart}
use Rattle.flat_typed.specs.Done.{kinds}
use Rattle.flat_typed.specs.Uses.{IsThere, UsesAreThere}
use Rattle.flat_typed.specs.Scopes.{NoStatics}
use Rattle.flat_typed.proofs.Ordered.{clash}
use Rattle.flat_typed.proofs.Uses.{all_join}
use Rattle.flat_typed.proofs.Tame.{AllLeft, left_same, kinds_left}
use Rattle.flat_typed.proofs.Scopes.{header_parts}
use Rattle.flat_typed.proofs.Leaving.{On, k_any, k_static, k_typed, k_single, k_unary, k_binary, k_gates, k_many, k_results}
use Rattle.flat_typed.proofs.UsesThere.{AskedAs, held_all, asked_params, There, Inv, use_static, u_place, u_unless, static_there, scalar_there, none_there}

module _ (S : InstanceKey → Signature → Type 0) (low : ℕ) (W : Places) (vs0 : List Var) (sc : Scope) (free : NoStatics sc vs0) where
  abbrev Th : List Use → Type 0
  Th us = There S low W vs0 sc free us

  abbrev In : Type 0 → List Var → Type 0
  In X = Inv S low W vs0 sc free X

  abbrev Holds : Type 0 → Context → Type 0
  Holds X = On S low (In X)

  join : (us vs : List Use) → Th us → Th vs → Th (us ++ vs)
  join us vs h k = all_join (IsThere sc.held vs0) us vs h k

  -- ---- arguments, by a lemma on each

  abbrev Walked : (List Asked → Check (List Value)) → Expressions → Type 1
  Walked walk args = (X : Type 0) (l : List Asked) (ns : List Need) → AskedAs args l ns → Ensures S (Holds X) (walk l) (λ vs. Holds (X × Th (all_uses args sc vs0 ns)))

  pub first_by : {A : Type 0} {P : Context → Type 0} {m : Check A} {Q : Context → Type 0} (t b : Bool) → t ≡ b → (t ≡ false → Ensures S P m (λ vs. Q)) → Ensures S P m (λ vs d. t ≡ false → Q d)
  first_by t true e f = o_more S low (k_any S low _) (λ vs d h z. clash (sym e ∙ z))
  first_by t false e f = o_more S low (f e) (λ vs d q z. q)

  -- ---- calls

  u_gate : (b : BuiltIn) (args : Expressions) (s : Spot) (ss : Expressions) (need : Need) (walk : Arguments) (X : Type 0) (ns : List Need) → Walked walk args → AskedAs args (asked_by_built_in b) ns
      → Ensures S (Holds X) (call_gate sc b ss args s need walk) (λ vs. Holds (X × Th (all_uses ss sc vs0 [] ++ all_uses args sc vs0 ns)))
  u_gate b args s ss need walk X ns w agree =
      o_then S low (o_rules S low s _) (λ u.
      o_bind S low (o_from S low (λ c h. ((h.1.0, none_there S low W vs0 sc free ss h.0.1.1.0), h.1.1)) (w (X × Th (all_uses ss sc vs0 [])) (asked_by_built_in b) ns agree)) (λ vs.
      o_from S low (λ c h. ((h.0.0.0, join (all_uses ss sc vs0 []) (all_uses args sc vs0 ns) h.0.0.1 h.0.1), h.1)) (k_gates S low (In (X × Th (all_uses ss sc vs0 [] ++ all_uses args sc vs0 ns))) b s need vs)))

  asked_one : (n : Need) (args : Expressions) → AskedAs args (record { need = n; wants = [] } ∷ []) (n ∷ [])
  asked_one n none = tt
  asked_one n (more e es) = (refl, held_all es)

  asked_dup : (args : Expressions) → AskedAs args (record { need = needs.Held; wants = [] } ∷ []) []
  asked_dup none = tt
  asked_dup (more e es) = (refl, held_all es)

  of_and : (a b : Bool) → not (a && b) ≡ false → a ≡ true
  of_and true b e = refl
  of_and false b e = clash e

  -- the walk of the arguments after the first
  abbrev Later : Check (List Value) → Expressions → Type 1
  Later later none = (X : Type 0) → Ensures S (Holds X) later (λ vs. Holds X)
  Later later (more a rest) = (X : Type 0) → Ensures S (Holds X) later (λ vs. Holds (X × Th (all_uses rest sc vs0 [])))

  u_vector : (args : Expressions) (s : Spot) (later : Check (List Value)) (X : Type 0) → Later later args → Ensures S (Holds X) (vector_value sc s args later) (λ vs. Holds (X × Th (all_uses args sc vs0 [])))
  u_vector none s later X w = o_fail S low _
  u_vector (more a rest) s later X w =
      o_then S low (o_names S low sc a) (λ u. o_bind S low (o_length S low sc a) (λ m. o_bind S low (w X) (λ vs. o_then S low (o_rules S low s _) (λ u'.
      o_from S low (λ c h. ((h.1.0.0, join (uses a sc vs0 needs.Held) (all_uses rest sc vs0 []) (use_static S low W vs0 sc free a needs.Held (of_and (is_static sc.statics a) (all_typed rest) h.0.0)) h.1.0.1), h.1.1))
      (k_many S low (In (X × Th (all_uses (more a rest) sc vs0 []))) s vs m)))))

  u_built_in : (b : BuiltIn) (args : Expressions) (s : Spot) (ss : Expressions) (need : Need) (walk : Arguments) (later : Check (List Value)) (X : Type 0) → Walked walk args → Later later args
      → Ensures S (Holds X) (call_built_in sc b ss args s need walk later) (λ vs. Holds (X × Th (all_uses ss sc vs0 [] ++ all_uses args sc vs0 (needs_of_built_in b))))
  u_built_in HGate args s ss need walk later X w r = u_gate HGate args s ss need walk X (needs.Consumed ∷ []) w (asked_one needs.Consumed args)
  u_built_in XGate args s ss need walk later X w r = u_gate XGate args s ss need walk X (needs.Consumed ∷ []) w (asked_one needs.Consumed args)
  u_built_in YGate args s ss need walk later X w r = u_gate YGate args s ss need walk X (needs.Consumed ∷ []) w (asked_one needs.Consumed args)
  u_built_in ZGate args s ss need walk later X w r = u_gate ZGate args s ss need walk X (needs.Consumed ∷ []) w (asked_one needs.Consumed args)
  u_built_in Measure args s ss need walk later X w r = u_gate Measure args s ss need walk X (needs.Consumed ∷ []) w (asked_one needs.Consumed args)
  u_built_in Dup args s ss need walk later X w r = u_gate Dup args s ss need walk X [] w (asked_dup args)
  u_built_in Vector args s ss need walk later X w r =
      o_then S low (o_rules S low s _) (λ u. o_from S low (λ c h. ((h.1.0, none_there S low W vs0 sc free ss h.0.1.1.0), h.1.1))
      (o_more S low (u_vector args s later (X × Th (all_uses ss sc vs0 [])) r) (λ vs c h. ((h.0.0.0, join (all_uses ss sc vs0 []) (all_uses args sc vs0 []) h.0.0.1 h.0.1), h.1))))
  u_built_in RotateX args s ss need walk later X w r = o_fail S low _
  u_built_in RotateY args s ss need walk later X w r = o_fail S low _
  u_built_in RotateZ args s ss need walk later X w r = o_fail S low _

  u_own : (f : Found) (args : Expressions) (s : Spot) (ss : Expressions) (need : Need) (walk : Arguments) (X : Type 0) → Walked walk args
      → Ensures S (Holds X) (call_own sc f ss args s need walk) (λ vs. Holds (X × Th (all_uses ss sc vs0 [] ++ all_uses args sc vs0 (map (param_need f.fun) f.fun.params))))
  u_own f args s ss need walk X w =
      o_then S low (o_rules S low s _) (λ u.
      o_bind S low (o_from S low (λ c h. h.1) (static_there S low W vs0 sc free ss X)) (λ zs.
      o_bind S low (o_result S low (header_of (paired f.fun.statics zs) exact_place f.fun)) (λ h.
      o_bind S low (o_variables S low) (λ vars.
      o_then S low (o_rules S low s _) (λ u'.
      record { runs = λ c r. (last zs h r.1.1.0).runs c r.1.1.1 })))))
    where
      last : (zs : List ℤ) (h : Header) → header_of (paired f.fun.statics zs) exact_place f.fun ≡ Ok h
          → Ensures S (Holds (X × Th (all_uses ss sc vs0 []))) (walk (map asked_by h.params) >>= (λ vs. signature (record { fun = record { number = f.number }; statics = zs }) >>= (λ sig. result_values (is_qfree f.fun.mark && all_lifted h.params vs) vs sig.results >>= (λ xs. unnamed_rule s need (lone_linear xs) >> give_back xs))))
          (λ vs. Holds (X × Th (all_uses ss sc vs0 [] ++ all_uses args sc vs0 (map (param_need f.fun) f.fun.params))))
      last zs h e =
          o_bind S low (w (X × Th (all_uses ss sc vs0 [])) (map asked_by h.params) (map (param_need f.fun) f.fun.params) (asked_params args f.fun (paired f.fun.statics zs) f.fun.params h.params (header_parts (paired f.fun.statics zs) f.fun h e).params)) (λ vs.
          o_bind S low (o_signature S low (record { fun = record { number = f.number }; statics = zs })) (λ sig.
          o_bind S low (o_from S low (λ c r. r.1) (k_results S low (In ((X × Th (all_uses ss sc vs0 [])) × Th (all_uses args sc vs0 (map (param_need f.fun) f.fun.params)))) (is_qfree f.fun.mark && all_lifted h.params vs) vs sig.results)) (λ xs.
          o_then S low (o_rules S low s _) (λ u. o_back S low xs (λ c r. ((r.1.0.0.0, join (all_uses ss sc vs0 []) (all_uses args sc vs0 (map (param_need f.fun) f.fun.params)) r.1.0.0.1 r.1.0.1), r.1.1))))))

  u_found : (b : Option BuiltIn) (o : Option Found) (args : Expressions) (s : Spot) (ss : Expressions) (need : Need) (walk : Arguments) (later : Check (List Value)) (X : Type 0) → Walked walk args → Later later args
      → Ensures S (Holds X) (call_found sc b o ss args s need walk later) (λ vs. Holds (X × Th (all_uses ss sc vs0 [] ++ all_uses args sc vs0 (needs_of_found b o))))
  u_found (Some b) o args s ss need walk later X w r = u_built_in b args s ss need walk later X w r
  u_found None (Some f) args s ss need walk later X w r = u_own f args s ss need walk X w
  u_found None None args s ss need walk later X w r = o_fail S low _

  -- ---- operators

  u_operands : (a b : Expression) (left right : List Ty → Check Value) (X : Type 0)
      → ((X : Type 0) (w : List Ty) → Ensures S (Holds X) (left w) (λ x. Holds (X × Th (uses a sc vs0 needs.Held)))) → ((X : Type 0) (w : List Ty) → Ensures S (Holds X) (right w) (λ x. Holds (X × Th (uses b sc vs0 needs.Held))))
      → Ensures S (Holds X) (operands sc a left right) (λ r. Holds (X × Th (uses a sc vs0 needs.Held ++ uses b sc vs0 needs.Held)))
  u_operands a b left right X l r = o_if S low (is_static sc.statics a)
      (λ e. o_bind S low (o_result S low (needed_at sc.statics a (at a))) (λ z. o_bind S low (o_from S low (λ c h. h.1) (r X [])) (λ y. o_bind S low (l (X × Th (uses b sc vs0 needs.Held)) (y.ty ∷ [])) (λ x.
      o_back S low (x, y) (λ c h. ((h.0.0.0, join (uses a sc vs0 needs.Held) (uses b sc vs0 needs.Held) h.0.1 h.0.0.1), h.1))))))
      (λ e. o_bind S low (l X []) (λ x. o_bind S low (r (X × Th (uses a sc vs0 needs.Held)) (x.ty ∷ [])) (λ y.
      o_back S low (x, y) (λ c h. ((h.0.0.0, join (uses a sc vs0 needs.Held) (uses b sc vs0 needs.Held) h.0.0.1 h.0.1), h.1)))))

  lone : (e : Expression) (n : Need) → is_tuple e ≡ false → lone_need e n ≡ n
  lone e n t = ap (λ b. cond b needs.Held n) t

  -- ---- the walk

  mutual
    pub u_expr : (e : Expression) (X : Type 0) (need : Need) (wants : List Ty) → is_tuple e ≡ false → Ensures S (Holds X) (expr e sc need wants) (λ vs. Holds (X × Th (uses e sc vs0 need)))
    u_expr (number n s) X need wants t = o_more S low (k_static S low (In X) sc (number n s) wants) (λ vs c h. ((h.0, tt), h.1))
    u_expr (typed_number n k s) X need wants t =
        o_bind S low (k_typed S low (In X) (In (X × Th (scalar_uses k sc vs0))) sc n k s (λ known u vars e h. ((h.0, scalar_there S low W vs0 sc free k known s u e), h.1))) (λ v. o_back S low (v ∷ []) (λ c h. h))
    u_expr (truth b s) X need wants t = o_more S low (k_static S low (In X) sc (truth b s) wants) (λ vs c h. ((h.0, tt), h.1))
    u_expr (pi s) X need wants t = o_fail S low _
    u_expr (place w s) X need wants t = u_unless S low W vs0 sc free (place w s) X need wants (o_bind S low (u_place S low W vs0 sc free w s X need) (λ v. o_back S low (v ∷ []) (λ c h. h)))
    u_expr (called f ss args s) X need wants t =
        u_found (built_in sc.words f) (find_fun sc.before f) args s ss need (λ l. arguments args sc needs.Held l) (later_arguments args sc) X (λ X l ns agree. u_arguments args X l ns agree) (u_later args)
    u_expr (tuple es s) X need wants t = clash t
    u_expr (unary op e s) X need wants t =
        u_unless S low W vs0 sc free (unary op e s) X need wants
        (o_bind S low (first_by (is_tuple e) (is_tuple e) refl (λ z. u_expr e X needs.Held [] z)) (λ vs. o_bind S low (k_single S low (Holds (X × Th (uses e sc vs0 needs.Held))) e vs) (λ v. k_unary S low (In (X × Th (uses e sc vs0 needs.Held))) op s v)))
    u_expr (binary op a b s) X need wants t =
        u_unless S low W vs0 sc free (binary op a b s) X need wants
        (o_bind S low (u_operands a b (λ w. expr a sc needs.Held (lone_wants a w) >>= single a) (λ w. expr b sc needs.Held (lone_wants b w) >>= single b) X
        (λ X w. o_bind S low (first_by (is_tuple a) (is_tuple a) refl (λ z. u_expr a X needs.Held (lone_wants a w) z)) (λ vs. k_single S low (Holds (X × Th (uses a sc vs0 needs.Held))) a vs))
        (λ X w. o_bind S low (first_by (is_tuple b) (is_tuple b) refl (λ z. u_expr b X needs.Held (lone_wants b w) z)) (λ vs. k_single S low (Holds (X × Th (uses b sc vs0 needs.Held))) b vs)))
        (λ r. k_binary S low (In (X × Th (uses a sc vs0 needs.Held ++ uses b sc vs0 needs.Held))) sc op a b s r.0 r.1))

    u_arguments : (es : Expressions) (X : Type 0) (l : List Asked) (ns : List Need) → AskedAs es l ns → Ensures S (Holds X) (arguments es sc needs.Held l) (λ vs. Holds (X × Th (all_uses es sc vs0 ns)))
    u_arguments none X l ns agree = o_back S low [] (λ c h. ((h.0, tt), h.1))
    u_arguments (more e es) X l ns agree =
        o_bind S low (first_by (is_tuple e) (is_tuple e) refl (λ z. u_expr e X (lone_need e (first_asked needs.Held l).need) (lone_wants e (first_asked needs.Held l).wants) z)) (λ vs.
        o_bind S low (o_from S low (λ c h z. let k = h z in ((k.0.0, subst (λ n. Th (uses e sc vs0 n)) (lone e (first_asked needs.Held l).need z ∙ agree.0) k.0.1), k.1)) (k_single S low (Holds (X × Th (uses e sc vs0 (first_need ns)))) e vs)) (λ v.
        o_then S low (o_suits S low e (first_asked needs.Held l).wants v) (λ u.
        o_bind S low (u_arguments es (X × Th (uses e sc vs0 (first_need ns))) (later_asked l) (later_needs ns) agree.1) (λ rest.
        o_back S low (v ∷ rest) (λ c h. ((h.0.0.0, join (uses e sc vs0 (first_need ns)) (all_uses es sc vs0 (later_needs ns)) h.0.0.1 h.0.1), h.1))))))

    u_later : (es : Expressions) → Later (later_arguments es sc) es
    u_later none = λ X. o_back S low [] (λ c h. h)
    u_later (more e es) = λ X. u_arguments es X [] [] (held_all es)

-- ---- the law

pub gives_all : {A B : Type 0} (S : InstanceKey → Signature → Type 0) (P : B → A → Type 0) (w : Walk A) → ((b : B) → Gives S (P b) w) → Gives S (λ a. (b : B) → P b a) w
gives_all S P (answer a) h = h
gives_all S P (broken e) h = tt
gives_all S P (counted w) h = gives_all S P w h
gives_all S P (asked k next) h = λ s ok. gives_all S P (next s) (λ b. h b s ok)

pub uses_are_there : UsesAreThere
uses_are_there e sc need wants c t free =
    gives-more (λ k s. ⊤) 0 (λ r. (b : Fitting) → After b r.1) (λ r. (W : Places) → AllOf (FitsPart W c.vars) c.vars → AllOf (IsThere sc.held c.vars) (uses e sc c.vars need) × ((kinds r.1.vars ≡ kinds c.vars) × AllOf (FitsPart W r.1.vars) r.1.vars))
    (expr e sc need wants c)
    (gives_all (λ k s. ⊤) (λ b r. After b r.1) (expr e sc need wants c) (λ b. (u_expr (λ k s. ⊤) 0 b.0 c.vars sc free e ⊤ need wants t).runs c (tt, (left_same c.vars, b.1))))
    (λ r h W fits. let a = h (W, fits) in (a.0.1, (sym (kinds_left c.vars r.1.vars a.1.0), a.1.1)))
  where
    Fitting : Type 0
    Fitting = (W : Places) × AllOf (FitsPart W c.vars) c.vars

    After : Fitting → Context → Type 0
    After b d = (⊤ × AllOf (IsThere sc.held c.vars) (uses e sc c.vars need)) × (AllLeft c.vars d.vars × AllOf (FitsPart b.0 d.vars) d.vars)
