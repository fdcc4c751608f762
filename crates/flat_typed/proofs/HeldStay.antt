-- What an expression does to variables: it spends some that are live and not held, and leaves all else.
use Rattle.std.proofs.Common.{◌≡◌, ℕ, Bool, true, false, cond, not, ◌&&◌, ◌||◌, List, [], ◌∷◌, refl, sym, ap, ◌∙◌, subst}
use Rattle.std.specs.Prelude.{Option, Some, None}
use Rattle.silq_tree.specs.declared.node.Spot.{Spot}
use Rattle.silq_tree.specs.Syntax.{Expression, Expressions, Place, number, typed_number, truth, pi, place, called, tuple, unary, binary, none, more}
use Rattle.static_num.specs.Static.{is_static}
use Rattle.silq_types.specs.declared.types.Ty.{Ty}
use Rattle.silq_types.specs.declared.need.Need.{Need}
use Rattle.silq_types.specs.declared.need.Need.TheVariants as needs
use Rattle.silq_types.specs.declared.built_in.BuiltIn.{BuiltIn}
use Rattle.silq_types.specs.declared.built_in.BuiltIn.TheVariants.{HGate, XGate, YGate, ZGate, Dup, Measure, Vector, RotateX, RotateY, RotateZ}
use Rattle.silq_types.specs.declared.signature.InstanceKey.{InstanceKey}
use Rattle.silq_types.specs.declared.signature.Signature.{Signature}
use Rattle.silq_types.specs.declared.values.Value.{Value}
use Rattle.silq_types.specs.declared.values.Part.{Part}
use Rattle.silq_types.specs.declared.values.Var.{Var}
use Rattle.silq_types.specs.Types.{is_held, at, place_name, place_indices}
use Rattle.silq_types.specs.Calls.{Found, built_in, find_fun, is_consumed}
use Rattle.silq_types.specs.Programs.{paired}
use Rattle.silq_mean.specs.Written.{needed_at, header_of}
use Rattle.check_scope.specs.Context.{Scope, Context, Check, ◌>>=◌, find_var, replace, same_part, part_at, variable}
use Rattle.check_scope.specs.Places.{unmoved, is_moved, use_part, use_found, use_place, use_rules, disturbs}
use Rattle.check_expr.specs.Expression.{Asked, Arguments, first_asked, later_asked, expr, arguments, later_arguments, lone_need, lone_wants, single, unless_static, operands, call_gate, call_built_in, call_own, call_found, vector_value, asked_by_built_in, asked_of_items, exact_place}
use Rattle.check_expr.specs.Owners.{Ensures}
use Rattle.check_expr.proofs.Owners.{o_bind, o_then, o_more, o_from, o_back, o_fail, o_if, o_rules, o_result, o_variables, o_names, o_length, o_signature, o_suits, o_all_needed, o_static_arguments, found_part}
use Rattle.flat_typed.specs.Places.{is_shared}
use Rattle.flat_typed.proofs.Ordered.{clash, or_right}
use Rattle.flat_typed.proofs.Parts.{some_same}
use Rattle.flat_typed.proofs.Moving.{spent}
use Rattle.flat_typed.proofs.Leaving.{On, k_new, k_static, k_typed, k_single, k_unary, k_binary, k_gates, k_many, k_results}

-- something that holds of variables where one of them that is live and not held is spent
abbrev pub Spends : (List Var → Type 0) → Type 0
Spends I = (vars : List Var) (p : Part) (v : Var) → find_var vars p ≡ Some v → v.consumed ≡ false → is_held v.origin ≡ false → I vars → I (replace vars (spent v))

-- the same, where a variable is spent only if its wires are its own
abbrev pub SpendsOwn : (List Var → Type 0) → Type 0
SpendsOwn I = (vars : List Var) (p : Part) (v : Var) → find_var vars p ≡ Some v → v.consumed ≡ false → is_shared v ≡ false → I vars → I (replace vars (spent v))

module _ (S : InstanceKey → Signature → Type 0) (low : ℕ) (I : List Var → Type 0) (spends : SpendsOwn I) where
  abbrev pub Holds : Context → Type 0
  Holds = On S low I

  -- ---- places

  h_unmoved : (need : Need) (t : Ty) (v : Var) → Ensures S Holds (unmoved need t v) (λ x. Holds)
  h_unmoved needs.Held t v = o_back S low _ (λ c h. h)
  h_unmoved needs.Consumed t v = k_new S low I t _

  h_rules : {P : Context → Type 0} (sc : Scope) (s : Spot) (need : Need) (q : Part) (v : Var) (bad : Bool) → Ensures S P (use_rules sc s need q v bad) (λ u c. ((v.consumed ≡ false) × ((is_moved need v.ty && is_held v.origin) ≡ false)) × P c)
  h_rules sc s need q v bad = o_more S low (o_rules S low s _) (λ u c h. ((h.0.0, h.0.1.0), h.1))

  h_part : (sc : Scope) (s : Spot) (need : Need) (q : Part) (v : Var) (vars : List Var) (t : Option Ty) → Ensures S Holds (use_part sc s need q v vars t) (λ x. Holds)
  h_part sc s need q v vars None = o_then S low (h_rules sc s need q v true) (λ u. o_fail S low _)
  h_part sc s need q v vars (Some t) = o_then S low (h_rules sc s need q v _) (λ u. o_from S low (λ c h. h.1) (h_unmoved need t v))

  -- a variable that is moved has wires of its own
  moved_own : (a b t : Bool) → (a && not t) ≡ true → ((a && not t) && b) ≡ false → (t || b) ≡ false
  moved_own true b true e z = clash (sym e)
  moved_own true b false e z = z
  moved_own false b t e z = clash (sym e)

  h_found : (sc : Scope) (s : Spot) (need : Need) (q : Part) (vars : List Var) (o w : Option Var) → Ensures S (λ c. (find_var c.vars q ≡ o) × Holds c) (use_found sc s need q vars o w) (λ x. Holds)
  h_found sc s need q vars (Some v) w =
      o_then S low (h_rules sc s need q v (disturbs vars q)) (λ u. o_if S low (is_moved need v.ty)
      (λ e. record { runs = λ c h. spends c.vars q v h.1.0 h.0.0 (moved_own (is_consumed need) (is_held v.origin) v.ty.classical e h.0.1) h.1.1 })
      (λ e. o_from S low (λ c h. h.1.1) (h_unmoved need v.ty v)))
  h_found sc s need q vars None (Some w) = o_from S low (λ c h. h.1) (h_part sc s need q w vars _)
  h_found sc s need q vars None None = o_fail S low _

  h_place : (w : Place) (sc : Scope) (s : Spot) (need : Need) → Ensures S Holds (use_place sc w s need) (λ x. Holds)
  h_place w sc s need =
      o_bind S low (o_all_needed S low (place_indices w) sc) (λ values. o_bind S low (o_variables S low) (λ vars. o_then S low (o_rules S low s _) (λ u.
      record { runs = λ c h. (h_found sc s need (part_at (place_name w) values) vars (find_var vars (part_at (place_name w) values)) (find_var vars (variable (place_name w)))).runs c (ap (λ l. find_var l (part_at (place_name w) values)) (sym h.1.0), h.1.1) })))

  -- ---- calls

  abbrev Walked : (List Asked → Check (List Value)) → Type 0
  Walked walk = (l : List Asked) → Ensures S Holds (walk l) (λ vs. Holds)

  h_gate : (sc : Scope) (b : BuiltIn) (ss args : Expressions) (s : Spot) (need : Need) (walk : Arguments) → Walked walk → Ensures S Holds (call_gate sc b ss args s need walk) (λ vs. Holds)
  h_gate sc b ss args s need walk w = o_then S low (o_rules S low s _) (λ u. o_bind S low (o_from S low (λ c h. h.1) (w (asked_by_built_in b))) (λ vs. k_gates S low I b s need vs))

  h_vector : (sc : Scope) (s : Spot) (args : Expressions) (later : Check (List Value)) → Ensures S Holds later (λ vs. Holds) → Ensures S Holds (vector_value sc s args later) (λ vs. Holds)
  h_vector sc s none later w = o_fail S low _
  h_vector sc s (more a rest) later w =
      o_then S low (o_names S low sc a) (λ u. o_bind S low (o_length S low sc a) (λ m. o_bind S low w (λ vs. o_then S low (o_rules S low s _) (λ u'. o_from S low (λ c h. h.1) (k_many S low I s vs m)))))

  h_built_in : (sc : Scope) (b : BuiltIn) (ss args : Expressions) (s : Spot) (need : Need) (walk : Arguments) (later : Check (List Value)) → Walked walk → Ensures S Holds later (λ vs. Holds)
      → Ensures S Holds (call_built_in sc b ss args s need walk later) (λ vs. Holds)
  h_built_in sc HGate ss args s need walk later w r = h_gate sc HGate ss args s need walk w
  h_built_in sc XGate ss args s need walk later w r = h_gate sc XGate ss args s need walk w
  h_built_in sc YGate ss args s need walk later w r = h_gate sc YGate ss args s need walk w
  h_built_in sc ZGate ss args s need walk later w r = h_gate sc ZGate ss args s need walk w
  h_built_in sc Dup ss args s need walk later w r = h_gate sc Dup ss args s need walk w
  h_built_in sc Measure ss args s need walk later w r = h_gate sc Measure ss args s need walk w
  h_built_in sc Vector ss args s need walk later w r = o_then S low (o_rules S low s _) (λ u. o_from S low (λ c h. h.1) (h_vector sc s args later r))
  h_built_in sc RotateX ss args s need walk later w r = o_fail S low _
  h_built_in sc RotateY ss args s need walk later w r = o_fail S low _
  h_built_in sc RotateZ ss args s need walk later w r = o_fail S low _

  h_own : (sc : Scope) (f : Found) (ss args : Expressions) (s : Spot) (need : Need) (walk : Arguments) → Walked walk → Ensures S Holds (call_own sc f ss args s need walk) (λ vs. Holds)
  h_own sc f ss args s need walk w =
      o_then S low (o_rules S low s _) (λ u.
      o_bind S low (o_from S low (λ c h. h.1) (o_static_arguments S low ss sc)) (λ zs.
      o_bind S low (o_result S low (header_of (paired f.fun.statics zs) exact_place f.fun)) (λ h.
      o_bind S low (o_variables S low) (λ vars.
      o_then S low (o_rules S low s _) (λ u'.
      o_bind S low (o_from S low (λ c q. q.1.1.1) (w _)) (λ vs.
      o_bind S low (o_signature S low (record { fun = record { number = f.number }; statics = zs })) (λ sig.
      o_bind S low (o_from S low (λ c q. q.1) (k_results S low I _ vs sig.results)) (λ xs.
      o_then S low (o_rules S low s _) (λ x. o_back S low xs (λ c q. q.1))))))))))

  h_call : (sc : Scope) (b : Option BuiltIn) (o : Option Found) (ss args : Expressions) (s : Spot) (need : Need) (walk : Arguments) (later : Check (List Value)) → Walked walk → Ensures S Holds later (λ vs. Holds)
      → Ensures S Holds (call_found sc b o ss args s need walk later) (λ vs. Holds)
  h_call sc (Some b) o ss args s need walk later w r = h_built_in sc b ss args s need walk later w r
  h_call sc None (Some f) ss args s need walk later w r = h_own sc f ss args s need walk w
  h_call sc None None ss args s need walk later w r = o_fail S low _

  -- ---- the walk

  h_unless : (sc : Scope) (e : Expression) (wants : List Ty) {m : Check (List Value)} → Ensures S Holds m (λ vs. Holds) → Ensures S Holds (unless_static sc e wants m) (λ vs. Holds)
  h_unless sc e wants h = o_if S low (is_static sc.statics e) (λ x. k_static S low I sc e wants) (λ x. h)

  h_single : (e : Expression) (vs : List Value) → Ensures S Holds (single e vs) (λ v. Holds)
  h_single e vs = o_from S low (λ c h z. h) (k_single S low Holds e vs)

  h_operands : (sc : Scope) (a : Expression) (left right : List Ty → Check Value) → ((w : List Ty) → Ensures S Holds (left w) (λ x. Holds)) → ((w : List Ty) → Ensures S Holds (right w) (λ x. Holds))
      → Ensures S Holds (operands sc a left right) (λ r. Holds)
  h_operands sc a left right l r = o_if S low (is_static sc.statics a)
      (λ e. o_bind S low (o_result S low (needed_at sc.statics a (at a))) (λ z. o_bind S low (o_from S low (λ c h. h.1) (r [])) (λ y. o_bind S low (l (y.ty ∷ [])) (λ x. o_back S low (x, y) (λ c h. h)))))
      (λ e. o_bind S low (l []) (λ x. o_bind S low (r (x.ty ∷ [])) (λ y. o_back S low (x, y) (λ c h. h))))

  mutual
    pub own_expr : (e : Expression) (sc : Scope) (need : Need) (wants : List Ty) → Ensures S Holds (expr e sc need wants) (λ vs. Holds)
    own_expr (number n s) sc need wants = k_static S low I sc (number n s) wants
    own_expr (typed_number n k s) sc need wants = o_bind S low (k_typed S low I I sc n k s (λ known t vars e h. h)) (λ v. o_back S low (v ∷ []) (λ c h. h))
    own_expr (truth b s) sc need wants = k_static S low I sc (truth b s) wants
    own_expr (pi s) sc need wants = o_fail S low _
    own_expr (place w s) sc need wants = h_unless sc (place w s) wants (o_bind S low (h_place w sc s need) (λ v. o_back S low (v ∷ []) (λ c h. h)))
    own_expr (called f ss args s) sc need wants =
        h_call sc (built_in sc.words f) (find_fun sc.before f) ss args s need (λ l. arguments args sc needs.Held l) (later_arguments args sc) (λ l. own_arguments args sc needs.Held l) (h_later args sc)
    own_expr (tuple es s) sc need wants = own_arguments es sc need (asked_of_items need wants)
    own_expr (unary op e s) sc need wants =
        h_unless sc (unary op e s) wants (o_bind S low (own_expr e sc needs.Held []) (λ vs. o_bind S low (h_single e vs) (λ v. k_unary S low I op s v)))
    own_expr (binary op a b s) sc need wants =
        h_unless sc (binary op a b s) wants
        (o_bind S low (h_operands sc a (λ w. expr a sc needs.Held (lone_wants a w) >>= single a) (λ w. expr b sc needs.Held (lone_wants b w) >>= single b)
        (λ w. o_bind S low (own_expr a sc needs.Held (lone_wants a w)) (λ vs. h_single a vs)) (λ w. o_bind S low (own_expr b sc needs.Held (lone_wants b w)) (λ vs. h_single b vs)))
        (λ r. k_binary S low I sc op a b s r.0 r.1))

    pub own_arguments : (es : Expressions) (sc : Scope) (other : Need) (l : List Asked) → Ensures S Holds (arguments es sc other l) (λ vs. Holds)
    own_arguments none sc other l = o_back S low [] (λ c h. h)
    own_arguments (more e es) sc other l =
        o_bind S low (own_expr e sc (lone_need e (first_asked other l).need) (lone_wants e (first_asked other l).wants)) (λ vs.
        o_bind S low (h_single e vs) (λ v. o_then S low (o_suits S low e (first_asked other l).wants v) (λ u.
        o_bind S low (own_arguments es sc other (later_asked l)) (λ rest. o_back S low (v ∷ rest) (λ c h. h)))))

    h_later : (es : Expressions) (sc : Scope) → Ensures S Holds (later_arguments es sc) (λ vs. Holds)
    h_later none sc = o_back S low [] (λ c h. h)
    h_later (more e es) sc = own_arguments es sc needs.Held []

-- ---- held variables

-- what holds where any variable is spent that is not held
own_spends : (I : List Var → Type 0) → Spends I → SpendsOwn I
own_spends I spends vars p v e live own h = spends vars p v e live (or_right v.ty.classical (is_held v.origin) own) h

pub h_expr : (S : InstanceKey → Signature → Type 0) (low : ℕ) (I : List Var → Type 0) → Spends I → (e : Expression) (sc : Scope) (need : Need) (wants : List Ty) → Ensures S (On S low I) (expr e sc need wants) (λ vs. On S low I)
h_expr S low I spends = own_expr S low I (own_spends I spends)

pub h_arguments : (S : InstanceKey → Signature → Type 0) (low : ℕ) (I : List Var → Type 0) → Spends I → (es : Expressions) (sc : Scope) (other : Need) (l : List Asked) → Ensures S (On S low I) (arguments es sc other l) (λ vs. On S low I)
h_arguments S low I spends = own_arguments S low I (own_spends I spends)

-- the second variable is the first where that is held
abbrev pub HeldSame : Var → Var → Type 0
HeldSame v w = is_held v.origin ≡ true → w ≡ v

-- the held ones among the first variables are left
abbrev pub HeldFirst : List Var → List Var → Type 0
HeldFirst [] ws = Unit {0}
HeldFirst (v ∷ vs) [] = ⊥
HeldFirst (v ∷ vs) (w ∷ ws) = HeldSame v w × HeldFirst vs ws

pub held_same : (vs : List Var) → HeldFirst vs vs
held_same [] = tt
held_same (v ∷ vs) = ((λ e. refl), held_same vs)

pub held_spends : (vs : List Var) → Spends (HeldFirst vs)
held_spends [] ws p v e live un h = tt
held_spends (u ∷ us) [] p v e live un h = h
held_spends (u ∷ us) (w ∷ ws) p v e live un h = go (same_part w.part p) refl e (λ d. held_spends us ws p v d live un h.1)
  where
    part_is : v.part ≡ p
    part_is = found_part (w ∷ ws) p v e

    goal : Bool → Type 0
    goal t = HeldFirst (u ∷ us) (cond t (spent v ∷ ws) (w ∷ replace ws (spent v)))

    go : (t : Bool) → same_part w.part p ≡ t → cond t (Some w) (find_var ws p) ≡ Some v → (find_var ws p ≡ Some v → HeldFirst us (replace ws (spent v))) → goal (same_part w.part v.part)
    go true s d i =
        let same : w ≡ v = some_same w v d in
        subst goal (sym (ap (same_part w.part) part_is ∙ s))
        ((λ k. clash (sym (ap (λ (x : Var). is_held x.origin) (h.0 k) ∙ k) ∙ (ap (λ (x : Var). is_held x.origin) same ∙ un))), h.1)
    go false s d i = subst goal (sym (ap (same_part w.part) part_is ∙ s)) (h.0, i d)
