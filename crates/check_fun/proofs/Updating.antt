-- The steps of an update, and of a variable that is forgotten by a value.
use Rattle.std.proofs.Common.{◌≡◌, refl, ℕ, Bool, true, false, List, [], ◌∷◌, ◌∙◌, sym, ap, subst}
use Rattle.std.specs.Prelude.{not, ◌||◌, ◌&&◌}
use Rattle.silq_tree.specs.declared.node.NameId.{NameId}
use Rattle.silq_tree.specs.declared.node.Spot.{Spot}
use Rattle.silq_tree.specs.declared.node.UpdateOp.{UpdateOp}
use Rattle.silq_tree.specs.Syntax.{Expression, Place, whole}
use Rattle.silq_types.specs.Rules.{wrong_type, used_after_move, held_changed, condition_changed, bad_update, bad_forget}
use Rattle.silq_types.specs.Types.{at, names, is_held, is_number, shape_eq, place_name}
use Rattle.silq_types.specs.declared.types.Ty.{Ty}
use Rattle.silq_types.specs.declared.values.Part.{Part}
use Rattle.silq_types.specs.declared.values.Value.{Value}
use Rattle.check_scope.specs.Walk.{Counts, Checker}
use Rattle.check_scope.specs.Context.{Scope, Check, rules, variables, is_in_condition}
use Rattle.check_fun.specs.Counting.{Stays, Runs, Fails}
use Rattle.check_expr.specs.Expression.{expr, is_tuple, lone_wants, single}
use Rattle.check_scope.specs.Library.{Shelf}
use Rattle.check_scope.specs.State.{State, scope_in}
use Rattle.check_fun.specs.Statement.{Target, target, update_part, forget_as, static_updated, consumed_there, has_name, needs_number, end_var}
use Rattle.check_scope.specs.declared.fault.CheckFault.{CheckFault}
use Rattle.silq_types.specs.declared.need.Need.TheVariants as needs
use Rattle.check_fun.proofs.Counted.{runs_bind, runs_then, runs_variables, fails_bind, fails_then, fails_later, fails_after}
use Rattle.check_fun.proofs.Stepped.{same_scope_after}

abbrev pub update_rules : State → List (List Part) → Target → NameId → UpdateOp → Expression → List (Bool × ℕ)
update_rules now held t x op e =
    (consumed_there now.vars t.owner.part, used_after_move) ∷ (is_held t.owner.origin, held_changed) ∷ (is_in_condition held t.part, condition_changed)
    ∷ (t.ty.classical || has_name x (names e) || (needs_number op && not (is_number t.ty.shape)), bad_update) ∷ []

abbrev pub forget_rules : State → List (List Part) → Target → NameId → Expression → Value → List (Bool × ℕ)
forget_rules now held t x e v =
    (consumed_there now.vars t.owner.part, used_after_move) ∷ (is_held t.owner.origin, held_changed) ∷ (is_in_condition held t.part, condition_changed)
    ∷ (t.ty.classical || has_name x (names e) || not (shape_eq t.ty.shape v.ty.shape), bad_forget) ∷ []

module _ (check : Checker) (l : Shelf) (written : Place) (op : UpdateOp) (e : Expression) (s : Spot) (x : NameId) (is_x : place_name written ≡ x) (old : State) (c : Counts) (other : ℕ) (is_other : other ≡ static_updated written) where
  pub fails_update_target : (f : CheckFault) → Fails check (target (scope_in l old) written s other) old c f → Fails check (update_part (scope_in l old) written op e s) old c f
  fails_update_target f q = fails_bind check _ _ old c f (subst (λ (n : ℕ). Fails check (target (scope_in l old) written s n) old c f) is_other q)

  module _ (t : Target) (q : Runs check (target (scope_in l old) written s other) old c t old c) (wants : List Ty) (is_wants : wants ≡ lone_wants e (t.ty ∷ [])) where
    aimed : Runs check (target (scope_in l old) written s (static_updated written)) old c t old c
    aimed = subst (λ (n : ℕ). Runs check (target (scope_in l old) written s n) old c t old c) is_other q

    pub fails_update_value : (f : CheckFault) → Fails check (expr e (scope_in l old) needs.Held wants) old c f → Fails check (update_part (scope_in l old) written op e s) old c f
    fails_update_value f r = fails_later check _ _ old old c c t f aimed (fails_bind check _ _ old c f (subst (λ (ts : List Ty). Fails check (expr e (scope_in l old) needs.Held ts) old c f) is_wants r))

    module _ (vs : List Value) (mid : State) (d : Counts) (r : Runs check (expr e (scope_in l old) needs.Held wants) old c vs mid d) where
      read : Runs check (expr e (scope_in l old) needs.Held (lone_wants e (t.ty ∷ []))) old c vs mid d
      read = subst (λ (ts : List Ty). Runs check (expr e (scope_in l old) needs.Held ts) old c vs mid d) is_wants r

      pub fails_update_single : (f : CheckFault) → Fails check (single e vs) mid d f → Fails check (update_part (scope_in l old) written op e s) old c f
      fails_update_single f o = fails_later check _ _ old old c c t f aimed (fails_later check _ _ old mid c d vs f read (fails_bind check _ _ mid d f o))

      module _ (v : Value) (o : Runs check (single e vs) mid d v mid d) (spot : Spot) (is_spot : spot ≡ at e) (b : Bool) (is_b : b ≡ shape_eq t.ty.shape v.ty.shape) where
        pub fails_update_type : (f : CheckFault) → Fails check (rules spot ((not b, wrong_type) ∷ [])) mid d f → Fails check (update_part (scope_in l old) written op e s) old c f
        fails_update_type f k = fails_later check _ _ old old c c t f aimed (fails_later check _ _ old mid c d vs f read (fails_later check _ _ mid mid d d v f o
            (fails_then check _ _ mid d f (subst (λ (u : Bool). Fails check (rules (at e) ((not u, wrong_type) ∷ [])) mid d f) is_b (subst (λ (u : Spot). Fails check (rules u ((not b, wrong_type) ∷ [])) mid d f) is_spot k)))))

        module _ (k : Runs check (rules spot ((not b, wrong_type) ∷ [])) mid d tt mid d) where
          typed : Runs check (rules (at e) ((not (shape_eq t.ty.shape v.ty.shape), wrong_type) ∷ [])) mid d tt mid d
          typed = subst (λ (u : Bool). Runs check (rules (at e) ((not u, wrong_type) ∷ [])) mid d tt mid d) is_b (subst (λ (u : Spot). Runs check (rules u ((not b, wrong_type) ∷ [])) mid d tt mid d) is_spot k)

          pub fails_update_rules : (f : CheckFault) → Fails check (rules s (update_rules mid mid.held t x op e)) mid d f → Fails check (update_part (scope_in l old) written op e s) old c f
          fails_update_rules f m = fails_later check _ _ old old c c t f aimed (fails_later check _ _ old mid c d vs f read (fails_later check _ _ mid mid d d v f o
              (fails_after check _ _ mid mid d d tt f typed (fails_later check variables _ mid mid d d mid.vars f (runs_variables check mid d)
              (subst (λ (y : NameId). Fails check (rules s (update_rules mid old.held t y op e)) mid d f) (sym is_x) (subst (λ (h : List (List Part)). Fails check (rules s (update_rules mid h t x op e)) mid d f) r.stays.held m))))))

          pub runs_update : Runs check (rules s (update_rules mid mid.held t x op e)) mid d tt mid d → Runs check (update_part (scope_in l old) written op e s) old c tt mid d
          runs_update m = runs_bind check _ _ old old mid c c d t tt aimed (runs_bind check _ _ old mid mid c d d vs tt read (runs_bind check _ _ mid mid mid d d d v tt o
              (runs_then check _ _ mid mid mid d d d tt tt typed (runs_bind check variables _ mid mid mid d d d mid.vars tt (runs_variables check mid d)
              (subst (λ (y : NameId). Runs check (rules s (update_rules mid old.held t y op e)) mid d tt mid d) (sym is_x) (subst (λ (h : List (List Part)). Runs check (rules s (update_rules mid h t x op e)) mid d tt mid d) r.stays.held m))))))

module _ (check : Checker) (l : Shelf) (x : NameId) (e : Expression) (s : Spot) (old : State) (c : Counts) (t : Target) (q : Runs check (target (scope_in l old) (whole x) s bad_forget) old c t old c) (wants : List Ty) (is_wants : wants ≡ lone_wants e (t.ty ∷ [])) where
  pub fails_forget_value : (f : CheckFault) → Fails check (expr e (scope_in l old) needs.Held wants) old c f → Fails check (forget_as (scope_in l old) x e s) old c f
  fails_forget_value f r = fails_later check _ _ old old c c t f q (fails_bind check _ _ old c f (subst (λ (ts : List Ty). Fails check (expr e (scope_in l old) needs.Held ts) old c f) is_wants r))

  module _ (vs : List Value) (mid : State) (d : Counts) (r : Runs check (expr e (scope_in l old) needs.Held wants) old c vs mid d) where
    read_as : Runs check (expr e (scope_in l old) needs.Held (lone_wants e (t.ty ∷ []))) old c vs mid d
    read_as = subst (λ (ts : List Ty). Runs check (expr e (scope_in l old) needs.Held ts) old c vs mid d) is_wants r

    pub fails_forget_single : (f : CheckFault) → Fails check (single e vs) mid d f → Fails check (forget_as (scope_in l old) x e s) old c f
    fails_forget_single f o = fails_later check _ _ old old c c t f q (fails_later check _ _ old mid c d vs f read_as (fails_bind check _ _ mid d f o))

    pub fails_forget_rules : (v : Value) → Runs check (single e vs) mid d v mid d → (f : CheckFault) → Fails check (rules s (forget_rules mid mid.held t x e v)) mid d f → Fails check (forget_as (scope_in l old) x e s) old c f
    fails_forget_rules v o f m = fails_later check _ _ old old c c t f q (fails_later check _ _ old mid c d vs f read_as (fails_later check _ _ mid mid d d v f o
        (fails_later check variables _ mid mid d d mid.vars f (runs_variables check mid d)
        (fails_then check (rules s (forget_rules mid old.held t x e v)) _ mid d f (subst (λ (h : List (List Part)). Fails check (rules s (forget_rules mid h t x e v)) mid d f) r.stays.held m)))))

    pub runs_forget : (v : Value) → Runs check (single e vs) mid d v mid d → (now : State) → Runs check (rules s (forget_rules mid mid.held t x e v)) mid d tt mid d → Runs check (end_var t.owner) mid d tt now d → Runs check (forget_as (scope_in l old) x e s) old c tt now d
    runs_forget v o now m z = runs_bind check _ _ old old now c c d t tt q (runs_bind check _ _ old mid now c d d vs tt read_as (runs_bind check _ _ mid mid now d d d v tt o
        (runs_bind check variables _ mid mid now d d d mid.vars tt (runs_variables check mid d)
        (runs_then check (rules s (forget_rules mid old.held t x e v)) _ mid mid now d d d tt tt (subst (λ (h : List (List Part)). Runs check (rules s (forget_rules mid h t x e v)) mid d tt mid d) r.stays.held m) z))))
