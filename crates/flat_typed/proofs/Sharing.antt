-- A classical value that is bound to a name: it shares its wires, and owns none.
use Rattle.std.proofs.Common.{◌≡◌, ◌⊎◌, inl, inr, ◌+◌, ◌≤◌, Bool, true, false, cond, not, ◌||◌, List, drop, refl, sym, ap, ◌∙◌, subst, arith}
use Rattle.std.specs.List.{list_any}
use Rattle.silq_tree.specs.declared.node.NameId.{NameId}
use Rattle.silq_types.specs.declared.values.Part.{Part}
use Rattle.silq_types.specs.declared.values.Value.{Value}
use Rattle.silq_types.specs.declared.values.Var.{Var}
use Rattle.silq_types.specs.Types.{is_linear, is_held}
use Rattle.check_scope.specs.Context.{Context, variable, find_var}
use Rattle.check_fun.specs.Statement.{bind_name}
use Rattle.check_fun.specs.Statement as statements
use Rattle.silq_mean.specs.Env.{bound}
use Rattle.flat_core.specs.declared.step.WireId.{WireId}
use Rattle.flat_form.specs.declared.known.Known.TheVariants.{Absent}
use Rattle.flat_form.specs.State.{Flattening}
use Rattle.flat_form.specs.Names.{AllOf, operands_in, named_by, names}
use Rattle.flat_typed.specs.Places.{Places, is_part, is_shared, has_wires, less_part, bits_for, shown, times_in, holds, holders, linear_holders, owners_of, linear_owners}
use Rattle.flat_typed.specs.Relation.{FitsPart, Outside, Stands, SparesGuarded}
use Rattle.flat_typed.proofs.Ordered.{clash}
use Rattle.flat_typed.proofs.Changes.{bound_shows}
use Rattle.flat_typed.proofs.Moving.{holders_with, linear_with, all_more}
use Rattle.flat_typed.proofs.Binding.{old_of, bound_sum, all_bound, differ_bound, out_bound, none_out, NotLost, old_linear}

module _ (out : Outside) (held : List (List Part)) (W : Places) (under : List Value) (c : Context) (s : Flattening) (x : NameId) (u : Value) where
  abbrev after : List Var
  after = bind_name c.vars x u

  abbrev new : Var
  new = statements.bound x u

  -- a classical value whose wires have no owner becomes the variable x
  pub stands_shared : Stands out held W under c s → AllOf (λ v. is_part v ≡ false) c.vars → u.ty.classical ≡ true → NotLost (find_var c.vars (variable x))
      → ((w : WireId) → 1 ≤ owners_of W c.vars under w → list_any (named_by w) (W u.place) ≡ false)
      → Stands out held W under (record c { vars = bind_name c.vars x u }) (record s { env = bound s.env x (shown W c.vars (statements.bound x u)); values = drop 1 s.values })
  stands_shared r whole classical lost apart = record {
    env = bound_shows W c.vars s.env x u r.differ r.env;
    differ = differ_bound c.vars x u r.differ;
    parts = all_more (λ v. is_part v ≡ false) (FitsPart W after) after (λ v e t. clash (sym t ∙ e)) (all_bound (λ v. is_part v ≡ false) c.vars x u whole refl);
    one = λ w. let a = fewer w in let b = r.one w in omega (arith, a, b);
    free = λ w le. r.free w (before w le);
    untold = λ w le. r.untold w (before w le);
    shared = λ w le. shares w (before w le) (r.shared w (before w le));
    callers = λ w le. r.callers w (before w le);
    guards = r.guards;
    below = r.below;
    spares = all_bound (SparesGuarded out.guarded held W) c.vars x u r.spares (λ b. clash (sym b ∙ none_own));
    carried = r.carried;
    owed = λ w d. owed w (r.owed w (record { there = d.there; untold = d.untold; why = d.why }));
  }
    where
      none_own : has_wires new ≡ false
      none_own = ap (λ a. not (a || is_held u.origin)) classical

      here : (w : WireId) → holds W c.vars w new ≡ 0
      here w = ap (λ t. cond t (times_in w (operands_in (shown W c.vars new))) 0) none_own

      fewer : (w : WireId) → owners_of W after under w ≤ owners_of W c.vars under w
      fewer w =
          let a = holders_with W after c.vars w after (out_bound c.vars x u) in
          let b = bound_sum (holds W c.vars w) (holders W c.vars w) (λ v vs. refl) c.vars x u in
          let d = here w in
          omega (arith, a, b, d)

      before : (w : WireId) → 1 ≤ owners_of W after under w → 1 ≤ owners_of W c.vars under w
      before w le = let a = fewer w in omega (arith, a, le)

      unnamed : (w : WireId) → 1 ≤ owners_of W c.vars under w → names (shown W c.vars new) w ≡ false
      unnamed w le = ap (λ o. names (less_part o (bits_for W new)) w) (none_out c.vars x whole) ∙ apart w le

      shares : (w : WireId) → 1 ≤ owners_of W c.vars under w → AllOf (λ v. is_shared v ≡ true → names (shown W c.vars v) w ≡ false) c.vars → AllOf (λ v. is_shared v ≡ true → names (shown W after v) w ≡ false) after
      shares w le h =
          all_more (λ v. is_shared v ≡ true → names (shown W c.vars v) w ≡ false) (λ v. is_shared v ≡ true → names (shown W after v) w ≡ false) after
          (λ v q t. ap (λ o. names (cond v.consumed Absent (less_part o (bits_for W v))) w) (out_bound c.vars x u v.part.name) ∙ q t)
          (all_bound (λ v. is_shared v ≡ true → names (shown W c.vars v) w ≡ false) c.vars x u h (λ t. unnamed w le))

      same : (w : WireId) → linear_owners W after under w ≡ linear_owners W c.vars under w
      same w = go (is_linear u.origin) (bound_sum (λ v. cond (is_linear v.origin) (holds W c.vars w v) 0) (linear_holders W c.vars w) (λ v vs. refl) c.vars x u)
        where
          go : (t : Bool) → linear_holders W c.vars w after + old_of (λ v. cond (is_linear v.origin) (holds W c.vars w v) 0) (find_var c.vars (variable x)) ≡ linear_holders W c.vars w c.vars + cond t (holds W c.vars w new) 0
              → linear_owners W after under w ≡ linear_owners W c.vars under w
          go true b = let a = linear_with W after c.vars w after (out_bound c.vars x u) in let z = old_linear W c.vars w (find_var c.vars (variable x)) lost in let d = here w in omega (arith, a, b, z, d)
          go false b = let a = linear_with W after c.vars w after (out_bound c.vars x u) in let z = old_linear W c.vars w (find_var c.vars (variable x)) lost in omega (arith, a, b, z)

      owed : (w : WireId) → (1 ≤ linear_owners W c.vars under w) ⊎ (out.answered w ≡ true) → (1 ≤ linear_owners W after under w) ⊎ (out.answered w ≡ true)
      owed w (inl le) = inl (subst (λ n. 1 ≤ n) (sym (same w)) le)
      owed w (inr a) = inr a
