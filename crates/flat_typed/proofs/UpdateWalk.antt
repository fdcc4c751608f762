-- What the walk of an update tells.
use Rattle.std.proofs.Common.{◌≡◌, ℕ, Bool, true, false, not, ◌&&◌, ◌||◌, List, [], ◌∷◌, refl, sym, ap, ap₂, ◌∙◌}
use Rattle.std.specs.Prelude.{Option, Some, None, ℤ}
use Rattle.silq_tree.specs.declared.node.Spot.{Spot}
use Rattle.silq_tree.specs.declared.node.UpdateOp.{UpdateOp}
use Rattle.silq_tree.specs.Syntax.{Expression, Place}
use Rattle.silq_types.specs.declared.types.Ty.{Ty}
use Rattle.silq_types.specs.declared.need.Need.TheVariants as needs
use Rattle.silq_types.specs.declared.values.Value.{Value}
use Rattle.silq_types.specs.declared.values.Var.{Var}
use Rattle.silq_types.specs.Types.{is_held, is_number, shape_eq, place_name, place_indices, names as names_in}
use Rattle.check_scope.specs.Context.{Scope, Context, indices, variable, part_at, part_type, find_var, is_in_condition}
use Rattle.check_expr.specs.Expression.{is_tuple, expr, lone_wants}
use Rattle.check_expr.specs.Owners.{Ensures}
use Rattle.check_expr.proofs.Owners.{gives-more, o_bind, o_then, o_back, o_fail, o_more, o_rules, o_variables}
use Rattle.check_fun.specs.Statement.{Target, target, target_of, target_type, consumed_there, has_name, needs_number, static_updated, update_part}
use Rattle.silq_mean.specs.declared.receiver.Receiver.{Receiver}
use Rattle.silq_mean.specs.Meaning as meanings
use Rattle.flat_typed.specs.Scopes.{NoStatics}
use Rattle.flat_typed.specs.Lemmas.{Callable, ExpressionIsFine}
use Rattle.flat_typed.proofs.Ordered.{clash}
use Rattle.flat_typed.proofs.Parts.{found_there}
use Rattle.flat_typed.proofs.Scopes.{indices_are}
use Rattle.flat_typed.proofs.Reached.{Reached, reached_here, one_of}
use Rattle.flat_typed.proofs.Inside.{exact_indices}

-- ---- what the walk tells

pub record Updated (sc : Scope) (taker : Ty → Receiver) (p : Place) (op : UpdateOp) (e : Expression) (c d : Context) : Type 0 where
  pub indices : List ℤ
  pub mean : meanings.static_values (place_indices p) sc.statics ≡ indices
  pub owner : Var
  pub found : find_var c.vars (variable (place_name p)) ≡ Some owner
  pub live : owner.consumed ≡ false
  pub ty : Ty
  pub kind : part_type owner.ty.classical owner.ty.shape indices ≡ Some ty
  pub value : Value
  pub reached : Reached sc taker needs.Held e c (value ∷ []) d
  pub shape : shape_eq ty.shape value.ty.shape ≡ true
  pub stays : consumed_there d.vars (variable (place_name p)) ≡ false
  pub unheld : is_held owner.origin ≡ false
  pub loose : is_in_condition sc.held (part_at (place_name p) indices) ≡ false
  pub quantum : ty.classical ≡ false
  pub unnamed : has_name (place_name p) (names_in e) ≡ false
  pub number : (needs_number op && not (is_number ty.shape)) ≡ false

-- the target is this part
pub record AimedAt (sc : Scope) (p : Place) (c : Context) (t : Target) : Type 0 where
  pub indices : List ℤ
  pub mean : meanings.static_values (place_indices p) sc.statics ≡ indices
  pub part : t.part ≡ part_at (place_name p) indices
  pub found : find_var c.vars (variable (place_name p)) ≡ Some t.owner
  pub live : t.owner.consumed ≡ false
  pub kind : part_type t.owner.ty.classical t.owner.ty.shape indices ≡ Some t.ty

or_both : (a b : Bool) → (a || b) ≡ false → (a ≡ false) × (b ≡ false)
or_both true b e = clash e
or_both false b e = (refl, e)

pub truly : (b : Bool) → not b ≡ false → b ≡ true
truly true e = refl
truly false e = clash e

module _ (sc : Scope) (c : Context) (p : Place) where
  type_at : (s : Spot) (zs : List ℤ) (v : Var) (o : Option Ty) → meanings.static_values (place_indices p) sc.statics ≡ zs → find_var c.vars (variable (place_name p)) ≡ Some v → part_type v.ty.classical v.ty.shape zs ≡ o
      → Ensures (Callable sc) (λ d. (v.consumed ≡ false) × (d ≡ c)) (target_type s (part_at (place_name p) zs) v o) (λ t d. AimedAt sc p c t × (d ≡ c))
  type_at s zs v None m e k = o_fail (Callable sc) 0 _
  type_at s zs v (Some t) m e k = o_back (Callable sc) 0 _ (λ d h. (record { indices = zs; mean = m; part = refl; found = e; live = h.0; kind = k }, h.1))

  aim_at : (s : Spot) (other : ℕ) (zs : List ℤ) (o : Option Var) → meanings.static_values (place_indices p) sc.statics ≡ zs → find_var c.vars (variable (place_name p)) ≡ o
      → Ensures (Callable sc) (λ d. d ≡ c) (target_of s other (part_at (place_name p) zs) o) (λ t d. AimedAt sc p c t × (d ≡ c))
  aim_at s other zs None m e = o_fail (Callable sc) 0 _
  aim_at s other zs (Some v) m e =
      o_then (Callable sc) 0 (o_rules (Callable sc) 0 s _) (λ u.
      record {
        runs = λ d h. (type_at s zs v (part_type v.ty.classical v.ty.shape (indices (part_at (place_name p) zs))) m e
            (ap (part_type v.ty.classical v.ty.shape) (sym (exact_indices p (place_name p) sc.statics zs m)))).runs d (h.0.0, h.1);
      })

  pub aims_at : (s : Spot) (other : ℕ) → Ensures (Callable sc) (λ d. d ≡ c) (target sc p s other) (λ t d. AimedAt sc p c t × (d ≡ c))
  aims_at s other =
      o_bind (Callable sc) 0 (indices_are (Callable sc) 0 {P = λ d. d ≡ c} (place_indices p) sc) (λ zs. o_bind (Callable sc) 0 (o_variables (Callable sc) 0) (λ vars. o_then (Callable sc) 0 (o_rules (Callable sc) 0 s _) (λ u.
      record {
        runs = λ d h.
            (aim_at s other zs (find_var vars (variable (place_name p))) h.1.1.0.1 (ap (λ (b : Context). find_var b.vars (variable (place_name p))) (sym h.1.1.1) ∙ ap (λ l. find_var l (variable (place_name p))) (sym h.1.0))).runs d h.1.1.1;
      })))

  pub updated : (taker : Ty → Receiver) (op : UpdateOp) (e : Expression) (s : Spot) → ExpressionIsFine e → NoStatics sc c.vars → Ensures (Callable sc) (λ d. d ≡ c) (update_part sc p op e s) (λ u. Updated sc taker p op e c)
  updated taker op e s fine free =
      o_bind (Callable sc) 0 (aims_at s (static_updated p)) (λ t.
      o_bind (Callable sc) 0 (kept t) (λ vs.
      o_bind (Callable sc) 0 (one_of (Callable sc) (λ vs d. AimedAt sc p c t × Reached sc taker needs.Held e c vs d) e vs) (λ v.
      o_then (Callable sc) 0 (o_rules (Callable sc) 0 _ _) (λ u0.
      o_bind (Callable sc) 0 (o_variables (Callable sc) 0) (λ after.
      o_more (Callable sc) 0 (o_rules (Callable sc) 0 s _) (λ u d h.
      let aim = h.1.1.1.1.0 in
      let q = or_both (t.ty.classical || has_name (place_name p) (names_in e)) (needs_number op && not (is_number t.ty.shape)) h.0.1.1.1.0 in
      let r = or_both t.ty.classical (has_name (place_name p) (names_in e)) q.0 in
      record {
        indices = aim.indices;
        mean = aim.mean;
        owner = t.owner;
        found = aim.found;
        live = aim.live;
        ty = t.ty;
        kind = aim.kind;
        value = v;
        reached = h.1.1.1.1.1;
        shape = truly (shape_eq t.ty.shape v.ty.shape) h.1.1.0.0;
        stays = ap₂ (λ l y. consumed_there l y) (sym h.1.0) (sym (found_there c.vars (place_name p) t.owner aim.found)) ∙ h.0.0;
        unheld = h.0.1.0;
        loose = ap (is_in_condition sc.held) (sym aim.part) ∙ h.0.1.1.0;
        quantum = r.0;
        unnamed = r.1;
        number = q.1;
      }))))))
    where
      kept : (t : Target) → Ensures (Callable sc) (λ d. AimedAt sc p c t × (d ≡ c)) (expr e sc needs.Held (lone_wants e (t.ty ∷ []))) (λ vs d. is_tuple e ≡ false → AimedAt sc p c t × Reached sc taker needs.Held e c vs d)
      kept t = record {
        runs = λ d h. gives-more (Callable sc) 0 (λ r. is_tuple e ≡ false → Reached sc taker needs.Held e c r.0 r.1) (λ r. is_tuple e ≡ false → AimedAt sc p c t × Reached sc taker needs.Held e c r.0 r.1) (expr e sc needs.Held (lone_wants e (t.ty ∷ [])) d)
            ((reached_here e fine sc taker needs.Held (lone_wants e (t.ty ∷ [])) c free).runs d h.1) (λ r q z. (h.0, q z));
      }
