-- The end of an assignment to a part.
use Rattle.std.proofs.Common.{◌≡◌, refl, ℕ, ◌≤◌, Bool, List, [], ◌∷◌, subst, length, take, get_or, arith}
use Rattle.std.specs.Prelude.{not, ◌&&◌, ◌==◌}
use Rattle.silq_tree.specs.declared.node.Spot.{Spot}
use Rattle.silq_tree.specs.Syntax.{Expression}
use Rattle.silq_types.specs.Rules.{wrong_type, held_changed, condition_changed, result_count, bad_part}
use Rattle.silq_types.specs.Types.{at, is_held}
use Rattle.silq_types.specs.declared.types.Ty.{Ty}
use Rattle.silq_types.specs.declared.values.Value.{Value}
use Rattle.check_scope.specs.Walk.{Counts, Checker}
use Rattle.check_scope.specs.Context.{Check, rules, variables, put_variables, is_in_condition}
use Rattle.check_fun.specs.Counting.{Runs, Fails}
use Rattle.check_expr.specs.Expression.{is_tuple, some_linear, suits}
use Rattle.check_scope.specs.State.{State}
use Rattle.check_fun.specs.Statement.{Target, one_suits, consumed_there, all_at, with_origin}
use Rattle.check_fun.specs.Stepping.{put_back}
use Rattle.check_scope.specs.declared.fault.CheckFault.{CheckFault}
use Rattle.check_fun.proofs.Counted.{runs_bind, runs_then, runs_variables, fails_then, fails_later, fails_after}

module _ (check : Checker) (t : Target) (n p : ℕ) (e : Expression) (vs : List Value) (s : Spot) (old : State) (c : Counts) (b : Bool) (is_b : b ≡ is_tuple e) (spot : Spot) (is_spot : spot ≡ at e) where
  abbrev pub back_rules : List (Bool × ℕ)
  back_rules = (is_held t.owner.origin, held_changed) ∷ (is_in_condition old.held t.part, condition_changed) ∷ (not (length vs == 1), result_count) ∷ (not (consumed_there old.vars t.part && all_at p vs), bad_part) ∷ []

  pub fails_back_tuple : (f : CheckFault) → Fails check (rules spot ((b, wrong_type) ∷ [])) old c f → Fails check (put_back old.held t n p e vs s) old c f
  fails_back_tuple f q = fails_then check _ _ old c f (subst (λ (u : Bool). Fails check (rules (at e) ((u, wrong_type) ∷ [])) old c f) is_b (subst (λ (u : Spot). Fails check (rules u ((b, wrong_type) ∷ [])) old c f) is_spot q))

  module _ (q : Runs check (rules spot ((b, wrong_type) ∷ [])) old c tt old c) where
    one : Runs check (rules (at e) ((is_tuple e, wrong_type) ∷ [])) old c tt old c
    one = subst (λ (u : Bool). Runs check (rules (at e) ((u, wrong_type) ∷ [])) old c tt old c) is_b (subst (λ (u : Spot). Runs check (rules u ((b, wrong_type) ∷ [])) old c tt old c) is_spot q)

    pub fails_back_suits : (f : CheckFault) → Fails check (one_suits e t.ty vs) old c f → Fails check (put_back old.held t n p e vs s) old c f
    fails_back_suits f r = fails_after check _ _ old old c c tt f one (fails_then check _ _ old c f r)

    module _ (r : Runs check (one_suits e t.ty vs) old c tt old c) where
      pub fails_back_rules : (f : CheckFault) → Fails check (rules s back_rules) old c f → Fails check (put_back old.held t n p e vs s) old c f
      fails_back_rules f k = fails_after check _ _ old old c c tt f one (fails_after check _ _ old old c c tt f r (fails_later check variables _ old old c c old.vars f (runs_variables check old c) (fails_then check (rules s back_rules) _ old c f k)))

      pub runs_back_put : Runs check (rules s back_rules) old c tt old c → (now : State) (l : Bool) → l ≡ some_linear vs → Runs check (put_variables (with_origin l (take n old.vars) t.owner.part)) old c tt now c → Runs check (put_back old.held t n p e vs s) old c tt now c
      runs_back_put k now l is_l m = runs_then check _ _ old old now c c c tt tt one (runs_then check _ _ old old now c c c tt tt r (runs_bind check variables _ old old now c c c old.vars tt (runs_variables check old c) (runs_then check (rules s back_rules) _ old old now c c c tt tt k (subst (λ (u : Bool). Runs check (put_variables (with_origin u (take n old.vars) t.owner.part)) old c tt now c) is_l m))))

-- the one value of a list
pub suits_only : (e : Expression) (t : Ty) (vs : List Value) (d : Value) → 1 ≤ length vs → length vs ≤ 1 → one_suits e t vs ≡ suits e (t ∷ []) (get_or vs 0 d)
suits_only e t [] d l m = absurd (omega (arith, l))
suits_only e t (v ∷ []) d l m = refl
suits_only e t (v ∷ w ∷ vs) d l m = absurd (omega (arith, m))
