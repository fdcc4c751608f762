-- An expression leaves all variables, consumed or not, whatever they are.
use Rattle.std.proofs.Common.{◌≡◌, ◌⊎◌, inl, inr, true, List, [], ◌∷◌, map, refl, sym, subst}
use Rattle.std.specs.Prelude.{Option, Some, None}
use Rattle.silq_tree.specs.declared.node.NameId.{NameId}
use Rattle.silq_tree.specs.declared.node.Spot.{Spot}
use Rattle.silq_tree.specs.Syntax.{Expression, Expressions, Place, number, typed_number, truth, pi, place, called, tuple, unary, binary, none, more}
use Rattle.static_num.specs.Static.{is_static}
use Rattle.silq_types.specs.declared.types.Ty.{Ty}
use Rattle.silq_types.specs.declared.need.Need.{Need}
use Rattle.silq_types.specs.declared.need.Need.TheVariants as needs
use Rattle.silq_types.specs.declared.built_in.BuiltIn.{BuiltIn}
use Rattle.silq_types.specs.declared.built_in.BuiltIn.TheVariants.{HGate, XGate, YGate, ZGate, Dup, Measure, Vector, RotateX, RotateY, RotateZ}
use Rattle.silq_types.specs.declared.signature.InstanceKey.{InstanceKey}
use Rattle.silq_types.specs.declared.signature.Signature.{Signature}
use Rattle.silq_types.specs.declared.values.Part.{Part}
use Rattle.silq_types.specs.declared.values.Value.{Value}
use Rattle.silq_types.specs.declared.values.Var.{Var}
use Rattle.silq_types.specs.Types.{at, place_name}
use Rattle.silq_types.specs.Programs.{paired}
use Rattle.silq_types.specs.Calls.{Found, built_in, find_fun}
use Rattle.silq_mean.specs.Written.{needed_at, header_of}
use Rattle.check_scope.specs.Context.{Scope, Context, Check, ◌>>=◌, ◌>>◌, part_at, variable, find_var, replace}
use Rattle.check_scope.specs.Places.{is_moved, use_place}
use Rattle.check_expr.specs.Owners.{Gives, Ensures}
use Rattle.check_expr.specs.Expression.{Asked, Arguments, first_asked, later_asked, asked_by, asked_by_built_in, expr, arguments, later_arguments, unless_static, single, lone_need, lone_wants, operands, vector_value, call_gate, call_built_in, call_own, call_found, exact_place}
use Rattle.check_expr.proofs.Owners.{gives-more, found_part, o_bind, o_then, o_more, o_from, o_back, o_fail, o_if, o_rules, o_result, o_variables, o_names, o_length, o_static_arguments, o_signature, o_suits}
use Rattle.flat_typed.specs.Scopes.{NoStatics}
use Rattle.flat_typed.proofs.Moving.{spent}
use Rattle.flat_typed.proofs.Tame.{AllLeft, FindLeft, left_same, left_then, left_spent, find_left}
use Rattle.flat_typed.proofs.There.{Used, PlaceUsed, o_place}
use Rattle.flat_typed.proofs.Leaving.{On, k_static, k_typed, k_unary, k_binary, k_gates, k_many, k_results}

module _ (S : InstanceKey → Signature → Type 0) (vs0 : List Var) (sc : Scope) where
  abbrev In : Context → Type 0
  In d = On S 0 (AllLeft vs0) d

  abbrev Lasts : {A : Type 0} → Check A → Type 0
  Lasts m = Ensures S In m (λ a. In)

  l_single : (e : Expression) (vs : List Value) → Lasts (single e vs)
  l_single e [] = o_if S 0 _ (λ x. o_fail S 0 _) (λ x. o_fail S 0 _)
  l_single e (v ∷ []) = o_if S 0 _ (λ x. o_fail S 0 _) (λ x. o_back S 0 v (λ c h. h))
  l_single e (v ∷ (w ∷ vs)) = o_if S 0 _ (λ x. o_fail S 0 _) (λ x. o_fail S 0 _)

  used_left : (need : Need) (c d : Context) (x : NameId) (q : Part) → Used sc need c x q d → AllLeft c.vars d.vars
  used_left need c d x q (inr u) = subst (AllLeft c.vars) (sym u.left) (left_same c.vars)
  used_left need c d x q (inl u) = go u.left
    where
      go : ((is_moved need u.var.ty ≡ true) × (d.vars ≡ replace c.vars (spent u.var))) ⊎ (d.vars ≡ c.vars) → AllLeft c.vars d.vars
      go (inr e) = subst (AllLeft c.vars) (sym e) (left_same c.vars)
      go (inl m) = subst (AllLeft c.vars) (sym m.1) (left_spent c.vars q u.var u.found (found_part c.vars q u.var u.found))

  l_place : (w : Place) (s : Spot) (need : Need) → Lasts (use_place sc w s need)
  l_place w s need = record {
    runs = λ d h. gives-more S 0 (λ r. PlaceUsed sc need d w r.1) (λ r. In r.1) (use_place sc w s need d) ((o_place S 0 d sc w s need).runs d refl)
        (λ r k. left_then vs0 d.vars r.1.vars h (used_left need d r.1 (place_name w) (part_at (place_name w) k.values) k.used));
  }

  l_unless : (e : Expression) (wants : List Ty) {m : Check (List Value)} → Lasts m → Lasts (unless_static sc e wants m)
  l_unless e wants q = o_if S 0 (is_static sc.statics e) (λ x. k_static S 0 (AllLeft vs0) sc e wants) (λ x. q)

  -- ---- calls

  l_gate : (b : BuiltIn) (args : Expressions) (s : Spot) (ss : Expressions) (need : Need) (walk : Arguments) → ((l : List Asked) → Lasts (walk l)) → Lasts (call_gate sc b ss args s need walk)
  l_gate b args s ss need walk w = o_then S 0 (o_rules S 0 s _) (λ u. o_bind S 0 (o_from S 0 (λ c h. h.1) (w (asked_by_built_in b))) (λ vs. k_gates S 0 (AllLeft vs0) b s need vs))

  l_vector : (args : Expressions) (s : Spot) (later : Check (List Value)) → Lasts later → Lasts (vector_value sc s args later)
  l_vector none s later w = o_fail S 0 _
  l_vector (more a rest) s later w =
      o_then S 0 (o_names S 0 sc a) (λ u. o_bind S 0 (o_length S 0 sc a) (λ m. o_bind S 0 w (λ vs. o_then S 0 (o_rules S 0 s _) (λ u'. o_from S 0 (λ c h. h.1) (k_many S 0 (AllLeft vs0) s vs m)))))

  l_built_in : (b : BuiltIn) (args : Expressions) (s : Spot) (ss : Expressions) (need : Need) (walk : Arguments) (later : Check (List Value)) → ((l : List Asked) → Lasts (walk l)) → Lasts later → Lasts (call_built_in sc b ss args s need walk later)
  l_built_in HGate args s ss need walk later w r = l_gate HGate args s ss need walk w
  l_built_in XGate args s ss need walk later w r = l_gate XGate args s ss need walk w
  l_built_in YGate args s ss need walk later w r = l_gate YGate args s ss need walk w
  l_built_in ZGate args s ss need walk later w r = l_gate ZGate args s ss need walk w
  l_built_in Measure args s ss need walk later w r = l_gate Measure args s ss need walk w
  l_built_in Dup args s ss need walk later w r = l_gate Dup args s ss need walk w
  l_built_in Vector args s ss need walk later w r = o_then S 0 (o_rules S 0 s _) (λ u. o_from S 0 (λ c h. h.1) (l_vector args s later r))
  l_built_in RotateX args s ss need walk later w r = o_fail S 0 _
  l_built_in RotateY args s ss need walk later w r = o_fail S 0 _
  l_built_in RotateZ args s ss need walk later w r = o_fail S 0 _

  l_own : (f : Found) (args : Expressions) (s : Spot) (ss : Expressions) (need : Need) (walk : Arguments) → ((l : List Asked) → Lasts (walk l)) → Lasts (call_own sc f ss args s need walk)
  l_own f args s ss need walk w =
      o_then S 0 (o_rules S 0 s _) (λ u.
      o_bind S 0 (o_from S 0 (λ c h. h.1) (o_static_arguments S 0 ss sc)) (λ zs.
      o_bind S 0 (o_result S 0 (header_of (paired f.fun.statics zs) exact_place f.fun)) (λ h.
      o_bind S 0 (o_variables S 0) (λ vars.
      o_then S 0 (o_rules S 0 s _) (λ u'.
      o_bind S 0 (o_from S 0 (λ c r. r.1.1.1) (w (map asked_by h.params))) (λ vs.
      o_bind S 0 (o_signature S 0 _) (λ sig.
      o_bind S 0 (o_from S 0 (λ c r. r.1) (k_results S 0 (AllLeft vs0) _ vs _)) (λ xs.
      o_then S 0 (o_rules S 0 s _) (λ u. o_back S 0 xs (λ c r. r.1))))))))))

  l_found : (b : Option BuiltIn) (o : Option Found) (args : Expressions) (s : Spot) (ss : Expressions) (need : Need) (walk : Arguments) (later : Check (List Value)) → ((l : List Asked) → Lasts (walk l)) → Lasts later → Lasts (call_found sc b o ss args s need walk later)
  l_found (Some b) o args s ss need walk later w r = l_built_in b args s ss need walk later w r
  l_found None (Some f) args s ss need walk later w r = l_own f args s ss need walk w
  l_found None None args s ss need walk later w r = o_fail S 0 _

  -- ---- the walk

  l_operands : (a : Expression) (left right : List Ty → Check Value) → ((w : List Ty) → Lasts (left w)) → ((w : List Ty) → Lasts (right w)) → Lasts (operands sc a left right)
  l_operands a left right l r = o_if S 0 (is_static sc.statics a)
      (λ e. o_bind S 0 (o_result S 0 (needed_at sc.statics a (at a))) (λ z. o_bind S 0 (o_from S 0 (λ c h. h.1) (r [])) (λ y. o_bind S 0 (l (y.ty ∷ [])) (λ x. o_back S 0 (x, y) (λ c h. h)))))
      (λ e. o_bind S 0 (l []) (λ x. o_bind S 0 (r (x.ty ∷ [])) (λ y. o_back S 0 (x, y) (λ c h. h))))

  mutual
    pub l_expr : (e : Expression) (need : Need) (wants : List Ty) → Lasts (expr e sc need wants)
    l_expr (number n s) need wants = k_static S 0 (AllLeft vs0) sc (number n s) wants
    l_expr (typed_number n k s) need wants = o_bind S 0 (k_typed S 0 (AllLeft vs0) (AllLeft vs0) sc n k s (λ known u vars e h. h)) (λ v. o_back S 0 (v ∷ []) (λ c h. h))
    l_expr (truth b s) need wants = k_static S 0 (AllLeft vs0) sc (truth b s) wants
    l_expr (pi s) need wants = o_fail S 0 _
    l_expr (place w s) need wants = l_unless (place w s) wants (o_bind S 0 (l_place w s need) (λ v. o_back S 0 (v ∷ []) (λ c h. h)))
    l_expr (called f ss args s) need wants = l_found (built_in sc.words f) (find_fun sc.before f) args s ss need (λ l. arguments args sc needs.Held l) (later_arguments args sc) (λ l. l_arguments args needs.Held l) (l_later args)
    l_expr (tuple es s) need wants = l_arguments es need _
    l_expr (unary op e s) need wants = l_unless (unary op e s) wants (o_bind S 0 (l_expr e needs.Held []) (λ vs. o_bind S 0 (l_single e vs) (λ v. k_unary S 0 (AllLeft vs0) op s v)))
    l_expr (binary op a b s) need wants =
        l_unless (binary op a b s) wants
        (o_bind S 0 (l_operands a (λ w. expr a sc needs.Held (lone_wants a w) >>= single a) (λ w. expr b sc needs.Held (lone_wants b w) >>= single b)
        (λ w. o_bind S 0 (l_expr a needs.Held (lone_wants a w)) (λ vs. l_single a vs)) (λ w. o_bind S 0 (l_expr b needs.Held (lone_wants b w)) (λ vs. l_single b vs)))
        (λ r. k_binary S 0 (AllLeft vs0) sc op a b s r.0 r.1))

    pub l_arguments : (es : Expressions) (other : Need) (l : List Asked) → Lasts (arguments es sc other l)
    l_arguments none other l = o_back S 0 [] (λ c h. h)
    l_arguments (more e es) other l =
        o_bind S 0 (l_expr e (lone_need e (first_asked other l).need) (lone_wants e (first_asked other l).wants)) (λ vs. o_bind S 0 (l_single e vs) (λ v.
        o_then S 0 (o_suits S 0 e (first_asked other l).wants v) (λ u. o_bind S 0 (l_arguments es other (later_asked l)) (λ rest. o_back S 0 (v ∷ rest) (λ c h. h)))))

    l_later : (es : Expressions) → Lasts (later_arguments es sc)
    l_later none = o_back S 0 [] (λ c h. h)
    l_later (more e es) = l_arguments es needs.Held []

-- ---- the laws

pub expr_lasts : (S : InstanceKey → Signature → Type 0) (e : Expression) (sc : Scope) (need : Need) (wants : List Ty) (c : Context) → Gives S (λ r. AllLeft c.vars r.1.vars) (expr e sc need wants c)
expr_lasts S e sc need wants c = (l_expr S c.vars sc e need wants).runs c (left_same c.vars)

pub arguments_last : (S : InstanceKey → Signature → Type 0) (es : Expressions) (sc : Scope) (other : Need) (l : List Asked) (c : Context) → Gives S (λ r. AllLeft c.vars r.1.vars) (arguments es sc other l c)
arguments_last S es sc other l c = (l_arguments S c.vars sc es other l).runs c (left_same c.vars)

-- no variable comes to have the name of a static value
pub statics_left : (sc : Scope) (vs ws : List Var) → AllLeft vs ws → NoStatics sc vs → NoStatics sc ws
statics_left sc vs ws l free x h = go (find_var ws (variable x)) refl (subst (λ o. FindLeft o (find_var ws (variable x))) (free x h) (find_left vs ws (variable x) l))
  where
    go : (o : Option Var) → find_var ws (variable x) ≡ o → FindLeft None o → find_var ws (variable x) ≡ None
    go None e f = e
    go (Some v) e f = absurd f
