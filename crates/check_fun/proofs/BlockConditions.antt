-- Run-time conditions.
use Rattle.std.specs.Prelude.{◌≡◌, refl, Bool, not, List, [], ◌∷◌}
use mathlib.Core.Path.{sym, ap, ◌∙◌, subst}
use Rattle.silq_tree.specs.Syntax.{Expression}
use Rattle.silq_tree.specs.declared.node.Spot.{Spot}
use Rattle.silq_types.specs.declared.values.Part.{Part}
use Rattle.silq_types.specs.declared.values.Value.{Value}
use Rattle.silq_types.specs.declared.values.Var.{Var}
use Rattle.silq_types.specs.Rules.{wrong_type}
use Rattle.silq_types.specs.Types.{at, is_bit}
use Rattle.check_scope.specs.Walk.{Counts, Checker}
use Rattle.check_scope.specs.Context.{Scope, Check, ◌>>=◌, ◌>>◌, give_back, rules, variables}
use Rattle.check_expr.specs.Expression.{expr, single}
use Rattle.check_scope.specs.Library.{Shelf}
use Rattle.check_scope.specs.State.{State, scope_in}
use Rattle.check_fun.specs.Statement.{condition}
use Rattle.check_scope.specs.Uses.{uses, parts_of}
use Rattle.check_fun.specs.Counting.{Stays, Runs, Fails, checker_at}
use Rattle.check_scope.specs.declared.fault.CheckFault.{CheckFault}
use Rattle.silq_types.specs.declared.need.Need.TheVariants as needs
use Rattle.check_fun.proofs.BlockSteps.{same_scope_after}
use Rattle.check_fun.proofs.Counted.{runs_bind, runs_then, runs_back, runs_variables, fails_bind, fails_then, fails_later}

module _ (check : Checker) (sc : Scope) (e : Expression) (old : State) (c : Counts) where
  abbrev pub named_end : Check (List Part)
  named_end = variables >>= (λ vars. give_back (parts_of (uses e sc vars needs.Held)))

  abbrev pub bit_end : Value → Check (List Part)
  bit_end v = rules (at e) ((not (is_bit v.ty.shape), wrong_type) ∷ []) >> named_end

  abbrev pub single_end : List Value → Check (List Part)
  single_end vs = single e vs >>= (λ v. bit_end v)

  pub fails_expr : (f : CheckFault) → Fails check (expr e sc needs.Held []) old c f → Fails check (condition sc e) old c f
  fails_expr f r = fails_bind check (expr e sc needs.Held []) (λ vs. single_end vs) old c f r

  pub fails_single : (vs ws : List Value) (mid : State) (d : Counts) (f : CheckFault) → ws ≡ vs → Runs check (expr e sc needs.Held []) old c vs mid d → Fails check (single e ws) mid d f → Fails check (condition sc e) old c f
  fails_single vs ws mid d f h r q =
      fails_later check (expr e sc needs.Held []) (λ xs. single_end xs) old mid c d vs f r
      (fails_bind check (single e vs) (λ v. bit_end v) mid d f (subst (λ xs. Fails check (single e xs) mid d f) h q))

  pub fails_bit : (vs ws : List Value) (v : Value) (b : Bool) (s : Spot) (mid : State) (d : Counts) (f : CheckFault) → ws ≡ vs → Runs check (expr e sc needs.Held []) old c vs mid d → Runs check (single e ws) mid d v mid d → s ≡ at e → b ≡ not (is_bit v.ty.shape) → Fails check (rules s ((b, wrong_type) ∷ [])) mid d f → Fails check (condition sc e) old c f
  fails_bit vs ws v b s mid d f h r q k t w =
      fails_later check (expr e sc needs.Held []) (λ xs. single_end xs) old mid c d vs f r
      (fails_later check (single e vs) (λ y. bit_end y) mid mid d d v f (subst (λ xs. Runs check (single e xs) mid d v mid d) h q)
      (fails_then check (rules (at e) ((not (is_bit v.ty.shape), wrong_type) ∷ [])) named_end mid d f (subst (λ x. Fails check (rules x ((not (is_bit v.ty.shape), wrong_type) ∷ [])) mid d f) k (subst (λ (x : Bool). Fails check (rules s ((x, wrong_type) ∷ [])) mid d f) t w))))

  pub runs_condition : (vs ws : List Value) (v : Value) (b : Bool) (s : Spot) (ps : List Part) (mid : State) (d : Counts) → ws ≡ vs → Runs check (expr e sc needs.Held []) old c vs mid d → Runs check (single e ws) mid d v mid d → s ≡ at e → b ≡ not (is_bit v.ty.shape) → Runs check (rules s ((b, wrong_type) ∷ [])) mid d tt mid d → ps ≡ parts_of (uses e sc mid.vars needs.Held) → Runs check (condition sc e) old c ps mid d
  runs_condition vs ws v b s ps mid d h r q k t w u =
      runs_bind check (expr e sc needs.Held []) (λ xs. single_end xs) old mid mid c d d vs ps r
      (runs_bind check (single e vs) (λ y. bit_end y) mid mid mid d d d v ps (subst (λ xs. Runs check (single e xs) mid d v mid d) h q)
      (runs_then check (rules (at e) ((not (is_bit v.ty.shape), wrong_type) ∷ [])) named_end mid mid mid d d d tt ps (subst (λ x. Runs check (rules x ((not (is_bit v.ty.shape), wrong_type) ∷ [])) mid d tt mid d) k (subst (λ (x : Bool). Runs check (rules s ((x, wrong_type) ∷ [])) mid d tt mid d) t w))
      (runs_bind check variables (λ vars. give_back (parts_of (uses e sc vars needs.Held))) mid mid mid d d d mid.vars ps (runs_variables check mid d)
      (subst (λ x. Runs check (give_back (parts_of (uses e sc mid.vars needs.Held))) mid d x mid d) (sym u) (runs_back check (parts_of (uses e sc mid.vars needs.Held)) mid d)))))

-- the same parts where the state stays
pub same_parts : (l : Shelf) (e : Expression) (old mid : State) (ps : List Part) (vs : List Var) → Stays old mid → ps ≡ parts_of (uses e (scope_in l mid) vs needs.Held) → ps ≡ parts_of (uses e (scope_in l old) vs needs.Held)
same_parts l e old mid ps vs k h = h ∙ ap (λ sc. parts_of (uses e sc vs needs.Held)) (same_scope_after l old mid k)
