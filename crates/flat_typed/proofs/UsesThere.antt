-- The parts that an expression uses are there, where its walk answers.
use Rattle.std.proofs.Common.{◌≡◌, ◌⊎◌, inl, inr, ℕ, ◌+◌, Bool, true, false, cond, not, ◌&&◌, ◌||◌, List, [], ◌∷◌, ◌++◌, map, refl, sym, ap, ap₂, ◌∙◌, subst, arith}
use Rattle.std.specs.Prelude.{◌==◌, Option, Some, Result, Ok, Err, ℤ}
use Rattle.std.proofs.lemmas.Bool.{eqb-true}
use Rattle.std.proofs.lemmas.List.{append-nil}
use Rattle.silq_tree.specs.declared.node.NameId.{NameId}
use Rattle.silq_tree.specs.declared.node.Spot.{Spot}
use Rattle.silq_tree.specs.Syntax.{Expression, Expressions, ScalarType, Place, Parameter, Function, number, typed_number, truth, pi, place, called, tuple, unary, binary, none, more, bit, uint, int, whole, part, part_of_part}
use Rattle.static_num.specs.declared.values.StaticFault.{StaticFault}
use Rattle.static_num.specs.declared.values.StaticFault.TheVariants.{NotStatic}
use Rattle.static_num.specs.Static.{is_static, value, eval_of}
use Rattle.silq_types.specs.declared.types.Scalar.{Scalar}
use Rattle.silq_types.specs.declared.types.Ty.{Ty}
use Rattle.silq_types.specs.declared.signature.Param.{Param}
use Rattle.silq_types.specs.declared.signature.InstanceKey.{InstanceKey}
use Rattle.silq_types.specs.declared.signature.Signature.{Signature}
use Rattle.silq_types.specs.declared.values.Value.{Value}
use Rattle.silq_types.specs.declared.values.Part.{Part}
use Rattle.silq_types.specs.declared.values.Var.{Var}
use Rattle.silq_types.specs.Rules.{Fault, and_then}
use Rattle.silq_types.specs.Types.{Statics, place_name, place_indices, count, is_lifted, at, first_unknown, scalar_names}
use Rattle.silq_types.specs.declared.need.Need.{Need}
use Rattle.silq_types.specs.declared.need.Need.TheVariants as needs
use Rattle.silq_types.specs.Calls.{param_need, first_need, later_needs}
use Rattle.silq_mean.specs.Written.{needed_at, all_known, width_of, width_spot, scalar_by, scalar_type, header_type, written_at, param_types}
use Rattle.check_scope.specs.declared.uses.Use.{Use}
use Rattle.check_scope.specs.Context.{Scope, Context, Check, part_at, variable, find_var, replace}
use Rattle.check_scope.specs.Places.{is_moved, use_place}
use Rattle.check_scope.specs.Uses.{with_index, index_values, place_use, uses, all_uses, scalar_uses}
use Rattle.check_expr.specs.Expression.{unless_static, static_arguments, Asked, first_asked, later_asked, asked_by, exact_place}
use Rattle.check_expr.specs.Owners.{Ensures}
use Rattle.check_expr.proofs.Owners.{gives-more, o_bind, o_then, o_more, o_from, o_back, o_if, o_natural, found_part}
use Rattle.flat_form.specs.Names.{AllOf}
use Rattle.flat_typed.specs.Places.{Places}
use Rattle.flat_typed.specs.Relation.{FitsPart}
use Rattle.flat_typed.specs.Uses.{IsThere}
use Rattle.flat_typed.specs.Scopes.{NoStatics}
use Rattle.flat_typed.proofs.Ordered.{clash}
use Rattle.flat_typed.proofs.Moving.{spent}
use Rattle.flat_typed.proofs.Uses.{find_kinds, place_use_kinds, all_join}
use Rattle.flat_typed.proofs.Scopes.{ok_same, then_ok, eval_is, needed_is}
use Rattle.flat_typed.proofs.There.{Used, PlaceUsed, o_place}
use Rattle.flat_typed.proofs.PlacesThere.{indexed, place_there}
use Rattle.flat_typed.proofs.Tame.{AllLeft, left_then, left_spent, kinds_left, all_there_left, fits_spent}
use Rattle.flat_typed.proofs.Leaving.{On, k_static}

-- ---- what is static

pub static_of : (t : Bool) (r : Result ℤ StaticFault) (z : ℤ) → cond t r (Err NotStatic) ≡ Ok z → t ≡ true
static_of true r z e = refl
static_of false r z e = absurd (grind (arith, e))

static_index : (t : Bool) (r : Result ℤ StaticFault) (o : Option (List ℤ)) (zs : List ℤ) → with_index (cond t r (Err NotStatic)) o ≡ Some zs → t ≡ true
static_index true r o zs e = refl
static_index false r o zs e = absurd (grind (arith, e))

-- what is asked of arguments is what their uses are read with
abbrev pub AskedAs : Expressions → List Asked → List Need → Type 0
AskedAs none l ns = Unit {0}
AskedAs (more e es) l ns = ((first_asked needs.Held l).need ≡ first_need ns) × AskedAs es (later_asked l) (later_needs ns)

pub held_all : (es : Expressions) → AskedAs es [] []
held_all none = tt
held_all (more e es) = (refl, held_all es)

pub asked_params : (es : Expressions) (f : Function) (statics : Statics) (ps : List Parameter) (ts : List Param) → param_types statics f.mark exact_place ps ≡ Ok ts → AskedAs es (map asked_by ts) (map (param_need f) ps)
asked_params none f statics ps ts h = tt
asked_params (more e es) f statics [] ts h = subst (λ us. AskedAs (more e es) (map asked_by us) []) (ok_same [] ts h) (refl, held_all es)
asked_params (more e es) f statics (p ∷ ps) ts h =
    let a = then_ok (header_type statics p.ty (written_at p.ty)) (λ t. and_then (param_types statics f.mark exact_place ps) (λ us. Ok (record { ty = t; held = p.held || is_lifted f.mark } ∷ us))) ts h in
    let b = then_ok (param_types statics f.mark exact_place ps) (λ us. Ok (record { ty = a.first; held = p.held || is_lifted f.mark } ∷ us)) ts a.rest in
    subst (λ us. AskedAs (more e es) (map asked_by us) (map (param_need f) (p ∷ ps))) (ok_same (record { ty = a.first; held = p.held || is_lifted f.mark } ∷ b.first) ts b.rest)
    (refl, asked_params es f statics ps b.first b.is)

module _ (S : InstanceKey → Signature → Type 0) (low : ℕ) (W : Places) (vs0 : List Var) (sc : Scope) (free : NoStatics sc vs0) where
  abbrev pub There : List Use → Type 0
  There us = AllOf (IsThere sc.held vs0) us

  -- of some variables: a fact that stands, and that an expression may have led to them
  abbrev pub Inv : Type 0 → List Var → Type 0
  Inv X vars = X × (AllLeft vs0 vars × AllOf (FitsPart W vars) vars)

  pub no_uses : (e : Expression) (need : Need) → is_static sc.statics e ≡ true → uses e sc vs0 need ≡ []
  unfolding is_static
  no_uses (number n s) need h = refl
  no_uses (truth b s) need h = refl
  no_uses (place (whole x) s) need h = ap (λ o. place_use sc.statics o none need) (free x h)
  no_uses (unary op e s) need h = no_uses e needs.Held h
  no_uses (binary op a b s) need h = ap₂ (λ x y. x ++ y) (no_uses a needs.Held (left (is_static sc.statics a) (is_static sc.statics b) h)) (no_uses b needs.Held (right (is_static sc.statics a) (is_static sc.statics b) h))
    where
      left : (a b : Bool) → (a && b) ≡ true → a ≡ true
      left true b e = refl
      left false b e = e

      right : (a b : Bool) → (a && b) ≡ true → b ≡ true
      right true b e = e
      right false b e = clash (sym e)
  no_uses (typed_number n k s) need h = clash (sym h)
  no_uses (pi s) need h = clash (sym h)
  no_uses (place (part x i) s) need h = clash (sym h)
  no_uses (place (part_of_part x i j) s) need h = clash (sym h)
  no_uses (called f ss args s) need h = clash (sym h)
  no_uses (tuple es s) need h = clash (sym h)

  pub use_static : (e : Expression) (need : Need) → is_static sc.statics e ≡ true → There (uses e sc vs0 need)
  use_static e need h = subst There (sym (no_uses e need h)) tt

  pub use_needed : (e : Expression) (z : ℤ) → eval_of sc.statics e ≡ Ok z → There (uses e sc vs0 needs.Held)
  use_needed e z h = use_static e needs.Held (static_of (is_static sc.statics e) (value sc.statics e) z h)

  -- ---- places

  pub place_uses : (w : Place) (s : Spot) (need : Need) (zs : List ℤ) → index_values sc.statics (place_indices w) ≡ Some zs → uses (place w s) sc vs0 need ≡ place_use sc.statics (find_var vs0 (variable (place_name w))) (place_indices w) need
  place_uses (whole x) s need zs e = refl
  place_uses (part x i) s need zs e =
      ap (λ l. place_use sc.statics (find_var vs0 (variable x)) (more i none) need ++ l) (no_uses i needs.Held (static_index (is_static sc.statics i) (value sc.statics i) (Some []) zs e))
      ∙ append-nil (place_use sc.statics (find_var vs0 (variable x)) (more i none) need)
  place_uses (part_of_part x i j) s need zs e =
      let a = indexed (eval_of sc.statics i) (index_values sc.statics (more j none)) zs e in
      ap₂ (λ k l. (place_use sc.statics (find_var vs0 (variable x)) (more i (more j none)) need ++ k) ++ l)
      (no_uses i needs.Held (static_index (is_static sc.statics i) (value sc.statics i) (index_values sc.statics (more j none)) zs e))
      (no_uses j needs.Held (static_index (is_static sc.statics j) (value sc.statics j) (Some []) a.rest a.is))
      ∙ (append-nil (place_use sc.statics (find_var vs0 (variable x)) (more i (more j none)) need ++ []) ∙ append-nil (place_use sc.statics (find_var vs0 (variable x)) (more i (more j none)) need))

  pub after_use : (need : Need) (c d : Context) (x : NameId) (q : Part) → Used sc need c x q d → AllLeft vs0 c.vars × AllOf (FitsPart W c.vars) c.vars → AllLeft vs0 d.vars × AllOf (FitsPart W d.vars) d.vars
  after_use need c d x q (inr u) h = subst (λ l. AllLeft vs0 l × AllOf (FitsPart W l) l) (sym u.left) h
  after_use need c d x q (inl u) h = go u.left
    where
      its : u.var.part ≡ q
      its = found_part c.vars q u.var u.found

      go : ((is_moved need u.var.ty ≡ true) × (d.vars ≡ replace c.vars (spent u.var))) ⊎ (d.vars ≡ c.vars) → AllLeft vs0 d.vars × AllOf (FitsPart W d.vars) d.vars
      go (inr e) = subst (λ l. AllLeft vs0 l × AllOf (FitsPart W l) l) (sym e) h
      go (inl m) = subst (λ l. AllLeft vs0 l × AllOf (FitsPart W l) l) (sym m.1) (left_then vs0 c.vars (replace c.vars (spent u.var)) h.0 (left_spent c.vars q u.var u.found its), fits_spent W c.vars q u.var u.found its u.clear h.1)

  pub u_place : (w : Place) (s : Spot) (X : Type 0) (need : Need) → Ensures S (On S low (Inv X)) (use_place sc w s need) (λ v. On S low (Inv (X × There (uses (place w s) sc vs0 need))))
  u_place w s X need = record {
    runs = λ d h.
        gives-more S low (λ r. PlaceUsed sc need d w r.1) (λ r. Inv (X × There (uses (place w s) sc vs0 need)) r.1.vars) (use_place sc w s need d) ((o_place S low d sc w s need).runs d refl)
        (λ r k. ((h.0, subst There (there d r.1 h.1.0 k) (all_there_left sc.held vs0 d.vars (place_use sc.statics (find_var d.vars (variable (place_name w))) (place_indices w) need) h.1.0 (place_there sc need d W w r.1 h.1.1 k))), after_use need d r.1 (place_name w) (part_at (place_name w) k.values) k.used h.1));
  }
    where
      there : (d e : Context) → AllLeft vs0 d.vars → PlaceUsed sc need d w e → place_use sc.statics (find_var d.vars (variable (place_name w))) (place_indices w) need ≡ uses (place w s) sc vs0 need
      there d e l k =
          place_use_kinds sc.statics (find_var d.vars (variable (place_name w))) (find_var vs0 (variable (place_name w))) (place_indices w) need (find_kinds d.vars vs0 (variable (place_name w)) (sym (kinds_left vs0 d.vars l)))
          ∙ sym (place_uses w s need k.values k.known)

  -- ---- static expressions and arguments

  pub u_unless : (e : Expression) (X : Type 0) (need : Need) (wants : List Ty) {m : Check (List Value)} → Ensures S (On S low (Inv X)) m (λ vs. On S low (Inv (X × There (uses e sc vs0 need)))) → Ensures S (On S low (Inv X)) (unless_static sc e wants m) (λ vs. On S low (Inv (X × There (uses e sc vs0 need))))
  u_unless e X need wants q = o_if S low (is_static sc.statics e) (λ x. o_more S low (k_static S low (Inv X) sc e wants) (λ vs c h. ((h.0, use_static e need x), h.1))) (λ x. q)

  pub static_there : (es : Expressions) (X : Type 0) → Ensures S (On S low (Inv X)) (static_arguments es sc) (λ zs. On S low (Inv (X × There (all_uses es sc vs0 []))))
  static_there none X = o_back S low [] (λ c p. ((p.0, tt), p.1))
  static_there (more e es) X =
      o_bind S low (needed_is S low sc e) (λ v. o_then S low (o_natural S low (at e) v) (λ u.
      o_bind S low (o_from S low (λ c h. ((h.1.0, use_needed e v h.0), h.1.1)) (static_there es (X × There (uses e sc vs0 needs.Held)))) (λ vs.
      o_back S low (v ∷ vs) (λ c h. ((h.0.0.0, all_join (IsThere sc.held vs0) (uses e sc vs0 needs.Held) (all_uses es sc vs0 []) h.0.0.1 h.0.1), h.1)))))

  pub scalar_there : (k : ScalarType) (known : NameId → Bool) (s : Spot) (t : Scalar) → scalar_type sc.statics known k s ≡ Ok t → There (scalar_uses k sc vs0)
  scalar_there bit known s t e = tt
  scalar_there (uint a) known s t e = width_there a (width_spot (uint a) s) (λ w. scalar_by (uint a) w s) t (then_ok (all_known (first_unknown known (scalar_names (uint a)))) (λ u. and_then (width_of sc.statics (uint a) (width_spot (uint a) s)) (λ w. scalar_by (uint a) w s)) t e).rest
    where
      width_there : (a : Expression) (s : Spot) (f : Option ℤ → Result Scalar Fault) (t : Scalar) → and_then (and_then (needed_at sc.statics a s) (λ v. Ok (Some v))) f ≡ Ok t → There (uses a sc vs0 needs.Held)
      width_there a s f t e =
          let b = then_ok (and_then (needed_at sc.statics a s) (λ v. Ok (Some v))) f t e in
          let d = then_ok (needed_at sc.statics a s) (λ v. Ok (Some v)) b.first b.is in
          use_needed a d.first (eval_is s (eval_of sc.statics a) d.first d.is)
  scalar_there (int a) known s t e = width_there a (width_spot (int a) s) (λ w. scalar_by (int a) w s) t (then_ok (all_known (first_unknown known (scalar_names (int a)))) (λ u. and_then (width_of sc.statics (int a) (width_spot (int a) s)) (λ w. scalar_by (int a) w s)) t e).rest
    where
      width_there : (a : Expression) (s : Spot) (f : Option ℤ → Result Scalar Fault) (t : Scalar) → and_then (and_then (needed_at sc.statics a s) (λ v. Ok (Some v))) f ≡ Ok t → There (uses a sc vs0 needs.Held)
      width_there a s f t e =
          let b = then_ok (and_then (needed_at sc.statics a s) (λ v. Ok (Some v))) f t e in
          let d = then_ok (needed_at sc.statics a s) (λ v. Ok (Some v)) b.first b.is in
          use_needed a d.first (eval_is s (eval_of sc.statics a) d.first d.is)

  -- no static arguments
  pub none_there : (ss : Expressions) → not (count ss == 0) ≡ false → There (all_uses ss sc vs0 [])
  none_there none e = tt
  none_there (more e es) h = let a = eqb-true (count es + 1) 0 (turned (count es + 1 == 0) h) in absurd (omega (arith, a))
    where
      turned : (b : Bool) → not b ≡ false → b ≡ true
      turned true e = refl
      turned false e = clash e
