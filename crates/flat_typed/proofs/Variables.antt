-- A variable as an expression: moved, held, or copied where it is classical.
use Rattle.std.proofs.Common.{◌≡◌, ◌⊎◌, inl, inr, ℕ, ◌≤◌, Bool, true, false, not, ◌&&◌, ◌||◌, List, [], ◌∷◌, refl, sym, ap, ap₂, ◌∙◌, subst, arith}
use Rattle.std.specs.Prelude.{Option, Some, None}
use Rattle.silq_tree.specs.declared.node.NameId.{NameId}
use Rattle.silq_tree.specs.declared.node.Spot.{Spot}
use Rattle.silq_tree.specs.Syntax.{whole, none}
use Rattle.silq_types.specs.declared.signature.InstanceKey.{InstanceKey}
use Rattle.silq_types.specs.declared.signature.Signature.{Signature}
use Rattle.silq_types.specs.declared.values.Origin.TheVariants.{Classical}
use Rattle.silq_types.specs.declared.values.Part.{Part}
use Rattle.silq_types.specs.declared.values.Value.{Value}
use Rattle.silq_types.specs.declared.values.Var.{Var}
use Rattle.silq_types.specs.Types.{same_name, is_held}
use Rattle.silq_types.specs.declared.need.Need.{Need}
use Rattle.silq_types.specs.declared.need.Need.TheVariants as needs
use Rattle.silq_types.specs.Calls.{is_consumed}
use Rattle.silq_mean.specs.Effect.{step, give_part}
use Rattle.check_scope.specs.declared.uses.Use.{Use}
use Rattle.check_scope.specs.Context.{Scope, Context, ◌>>=◌, give_back, variable, part_at, find_var, replace, is_in_condition}
use Rattle.check_scope.specs.Places.{disturbs, is_moved, unmoved, use_found, use_place}
use Rattle.check_scope.specs.Uses.{place_use}
use Rattle.check_expr.specs.Owners.{Gives, Ensures}
use Rattle.check_expr.proofs.Owners.{o_bind, o_then, o_more, o_back, o_fail, o_if, o_rules, o_variables}
use Rattle.flat_core.specs.declared.step.WireId.{WireId}
use Rattle.flat_form.specs.State.{Flattening, wires_so_far}
use Rattle.flat_form.specs.Flat.{flat}
use Rattle.flat_typed.specs.Places.{Places, is_part, is_shared, has_wires, part_out}
use Rattle.flat_typed.specs.Footprint.{wires_of_part, used_wires, consumed_wires}
use Rattle.flat_typed.specs.Relation.{Outside, Stands}
use Rattle.flat_typed.specs.Uses.{IsThere}
use Rattle.flat_typed.specs.Done.{Begins, ExprDone, kinds}
use Rattle.flat_typed.proofs.Ordered.{clash}
use Rattle.flat_typed.proofs.Parts.{found_there, some_same, part_other}
use Rattle.flat_typed.proofs.Changes.{whole_is}
use Rattle.flat_typed.proofs.Moving.{spent, handed_on}
use Rattle.flat_typed.proofs.Using.{touches_none, moved_done}
use Rattle.flat_typed.proofs.Scopes.{indices_are}
use Rattle.flat_typed.proofs.Apart.{out_all, out_is, Beside, beside}
use Rattle.flat_typed.proofs.Tame.{fits_spent}
use Rattle.flat_typed.proofs.Giving.{GivesValue}
use Rattle.flat_typed.proofs.Borrowing.{owner_known, use_is_fine, borrowed_done}

-- ---- what the walk tells

-- the variable stays, and its value is as typed
pub record Stayed (need : Need) (c : Context) (v : Var) (u : Value) (d : Context) : Type 0 where
  pub still : is_moved need v.ty ≡ false
  pub type : u.ty ≡ v.ty
  pub new : is_consumed need ≡ true → (c.next ≤ u.place) × (u.origin ≡ Classical)
  pub vars : d.vars ≡ c.vars

-- or it is moved
pub record Moved (need : Need) (c : Context) (v : Var) (u : Value) (d : Context) : Type 0 where
  pub moved : is_moved need v.ty ≡ true
  pub value : u ≡ handed_on v
  pub left : d ≡ record c { vars = replace c.vars (spent v) }

pub record VariableUsed (sc : Scope) (need : Need) (c : Context) (x : NameId) (u : Value) (d : Context) : Type 0 where
  pub var : Var
  pub found : find_var c.vars (variable x) ≡ Some var
  pub live : var.consumed ≡ false
  pub unheld : is_moved need var.ty ≡ true → is_held var.origin ≡ false
  pub loose : is_moved need var.ty ≡ true → is_in_condition sc.held (variable x) ≡ false
  pub clear : disturbs c.vars (variable x) ≡ false
  pub how : Moved need c var u d ⊎ Stayed need c var u d

and_false : (a b : Bool) → (a && b) ≡ false → a ≡ true → b ≡ false
and_false true b e h = e
and_false false b e h = clash (sym h)

module _ (S : InstanceKey → Signature → Type 0) (low : ℕ) (c : Context) (sc : Scope) (x : NameId) where
  o_unmoved : (need : Need) (v : Var) → is_moved need v.ty ≡ false → Ensures S (λ d. d ≡ c) (unmoved need v.ty v) (λ u d. Stayed need c v u d)
  unfolding ◌>>=◌
  o_unmoved needs.Held v still = o_back S low _ (λ d e. record { still = still; type = refl; new = λ q. clash (sym q); vars = ap (λ (b : Context). b.vars) e })
  o_unmoved needs.Consumed v still = record { runs = λ d e. record { still = still; type = refl; new = λ q. (let a = ap (λ (b : Context). b.next) e in omega (arith, a), refl); vars = ap (λ (b : Context). b.vars) e } }

  o_found : (s : Spot) (need : Need) (vars : List Var) (o : Option Var) → vars ≡ c.vars → find_var vars (variable x) ≡ o → Ensures S (λ d. d ≡ c) (use_found sc s need (variable x) vars o o) (λ u d. VariableUsed sc need c x u d)
  o_found s need vars None same f = o_fail S low _
  o_found s need vars (Some v) same f =
      o_then S low (o_rules S low s _) (λ u. o_if S low (is_moved need v.ty)
      (λ m. record {
        runs = λ d h. record {
          var = v;
          found = ap (λ l. find_var l (variable x)) (sym same) ∙ f;
          live = h.0.0;
          unheld = λ k. and_false (is_moved need v.ty) (is_held v.origin) h.0.1.0 k;
          loose = λ k. and_false (is_moved need v.ty) (is_in_condition sc.held (variable x)) h.0.1.1.0 k;
          clear = ap (λ l. disturbs l (variable x)) (sym same) ∙ h.0.1.1.1.0;
          how = inl (record { moved = m; value = refl; left = ap (λ (b : Context). record b { vars = replace b.vars (spent v) }) h.1 });
        };
      })
      (λ m. record {
        runs = λ d h. (o_more S low (o_unmoved need v m) (λ w e k. record {
          var = v;
          found = ap (λ l. find_var l (variable x)) (sym same) ∙ f;
          live = h.0.0;
          unheld = λ q. and_false (is_moved need v.ty) (is_held v.origin) h.0.1.0 q;
          loose = λ q. and_false (is_moved need v.ty) (is_in_condition sc.held (variable x)) h.0.1.1.0 q;
          clear = ap (λ l. disturbs l (variable x)) (sym same) ∙ h.0.1.1.1.0;
          how = inr k;
        })).runs d h.1;
      }))

  o_variable : (s : Spot) (need : Need) → Ensures S (λ d. d ≡ c) (use_place sc (whole x) s need) (λ u d. VariableUsed sc need c x u d)
  o_variable s need =
      o_bind S low (indices_are S low none sc) (λ zs. o_bind S low (o_variables S low) (λ vars.
      o_then S low {n = use_found sc s need (part_at x zs) vars (find_var vars (part_at x zs)) (find_var vars (variable x))} (o_rules S low s _) (λ u.
      record {
        runs = λ d h.
            subst (λ zs. Gives S (λ r. VariableUsed sc need c x r.0 r.1) (use_found sc s need (part_at x zs) vars (find_var vars (part_at x zs)) (find_var vars (variable x)) d)) (some_same [] zs h.1.1.0.0)
            ((o_found s need vars (find_var vars (variable x)) (h.1.0 ∙ ap (λ (b : Context). b.vars) h.1.1.1) refl).runs d h.1.1.1);
      })))

  pub o_value : (s : Spot) (need : Need) → Ensures S (λ d. d ≡ c) (use_place sc (whole x) s need >>= (λ v. give_back (v ∷ []))) (λ vs d. (u : Value) × (vs ≡ u ∷ []) × VariableUsed sc need c x u d)
  o_value s need = o_bind S low (o_variable s need) (λ u. o_back S low (u ∷ []) (λ d h. (u, refl, h)))

-- ---- a variable that no part was taken out of

or_true : (a : Bool) → (a || true) ≡ true
or_true true = refl
or_true false = refl

none_taken : (vs : List Var) (x : NameId) → disturbs vs (variable x) ≡ false → part_out vs x ≡ None
none_taken vs x d = go (part_out vs x) refl
  where
    parts : (a b c : Bool) → (a && (b && c)) ≡ true → (a ≡ true) × (c ≡ true)
    parts true true c e = (refl, e)
    parts true false c e = clash (sym e)
    parts false b c e = clash (sym e)

    go : (o : Option Var) → part_out vs x ≡ o → o ≡ None
    go None e = refl
    go (Some p) e =
        let h = parts (is_part p) p.consumed (same_name p.part.name x) (out_is vs x p e) in
        let b = out_all (Beside (variable x)) vs x p e (beside vs (variable x) d) h.0 (part_other p x h.0) in
        clash (sym (ap₂ (λ m n. m && n) h.1 (or_true _)) ∙ b)

-- contexts with the same variables
pub stands_vars : (out : Outside) (held : List (List Part)) (W : Places) (under : List Value) (c d : Context) (s : Flattening) → d.vars ≡ c.vars → Stands out held W under c s → Stands out held W under d s
stands_vars out held W under c d s e r =
    subst (λ vs. Stands out held W under (record d { vars = vs }) s) (sym e)
    (record { env = r.env; differ = r.differ; parts = r.parts; one = r.one; free = r.free; untold = r.untold; shared = r.shared; callers = r.callers; guards = r.guards; below = r.below; spares = r.spares; carried = r.carried; owed = r.owed })

-- ---- the law

module _ (out : Outside) (sc : Scope) (low : ℕ) (others : ℕ → ℕ) (W : Places) (under : List Value) (c : Context) (s : Flattening) (x : NameId) where
  abbrev pub uses_of : Need → Option Var → List Use
  uses_of need o = place_use sc.statics o none need

  abbrev pub Starts : Need → Option Var → Type 0
  Starts need o = Begins out sc low others W under (uses_of need o) c s

  abbrev pub Ends : Need → Option Var → Value → Context → Type 0
  Ends need o u d = ExprDone out sc need (step (give_part need x [])) W under (uses_of need o) c s (u ∷ []) d

  abbrev pub held_use : Use
  held_use = record { part = variable x; need = needs.Held }

  pub is_there : (need : Need) (u : Value) (d : Context) (h : VariableUsed sc need c x u d) → IsThere sc.held c.vars held_use
  is_there need u d h = record {
    owner = h.var;
    found = h.found;
    live = h.live;
    kind = (h.var.ty, refl);
    clear = h.clear;
    here = λ v e. ap (λ (w : Var). w.consumed) (some_same v h.var (sym e ∙ h.found)) ∙ h.live;
    own = λ q. clash (sym q);
    loose = λ q. clash (sym q);
  }

  moved_ends : (need : Need) (u : Value) (d : Context) (h : VariableUsed sc need c x u d) → Moved need c h.var u d → Starts need (Some h.var) → Ends need (Some h.var) u d
  unfolding is_there
  moved_ends needs.Held u d h m b = clash (sym m.moved)
  moved_ends needs.Consumed u d h m b =
      subst (λ e. Ends needs.Consumed (Some h.var) u e) (sym m.left)
      (subst (λ w. Ends needs.Consumed (Some h.var) w (record c { vars = replace c.vars (spent h.var) })) (sym m.value)
      (moved_done out sc low others W under c s x h.var b h.found out_none has h.live quantum (h.unheld m.moved)
      (owner_known out sc.held W under c s b.stands b.good held_use (is_there needs.Consumed u d h)).size (h.loose m.moved)
      (fits_spent W c.vars (variable x) h.var h.found its h.clear b.stands.parts)))
    where
      its : h.var.part ≡ variable x
      its = found_there c.vars x h.var h.found

      out_none : part_out c.vars h.var.part.name ≡ None
      out_none = ap (λ (p : Part). part_out c.vars p.name) its ∙ none_taken c.vars x h.clear

      not_true : (t : Bool) → not t ≡ true → t ≡ false
      not_true true e = clash (sym e)
      not_true false e = refl

      quantum : h.var.ty.classical ≡ false
      quantum = not_true h.var.ty.classical m.moved

      has : has_wires h.var ≡ true
      has =
          ap (λ t. not ((t || is_part h.var) || is_shared h.var)) h.live
          ∙ (ap (λ t. not (t || is_shared h.var)) (whole_is h.var x its) ∙ ap₂ (λ a b. not (a || b)) quantum (h.unheld m.moved))

  stayed_ends : (need : Need) (u : Value) (d : Context) (h : VariableUsed sc need c x u d) → Stayed need c h.var u d → Starts need (Some h.var) → Ends need (Some h.var) u d
  unfolding is_there
  stayed_ends need u d h m b = record {
    fine = use_is_fine out sc.held W under c s b.stands b.good held_use (is_there need u d h) need;
    after = W;
    agree = λ p l. refl;
    answers = g.answer ∷ [];
    values = g.values;
    each = (g.given, tt);
    stands = stands_vars out sc.held W _ c d (flat (step (give_part need x [])) s) m.vars g.stands;
    kinds_stay = ap kinds m.vars;
    leaves = g.leaves;
    touches = touches_none (consumed_wires W c.vars (uses_of need (Some h.var))) s.built.draft;
    plain = λ q w e. e;
    unmade = b.unmade;
  }
    where
      named : (w : WireId) → wires_of_part W c.vars (variable x) w ≡ true → used_wires W c.vars (uses_of need (Some h.var)) w ≡ true
      named w e = ap (λ t. t || false) (ap (λ (p : Part). wires_of_part W c.vars (variable p.name) w) (found_there c.vars x h.var h.found) ∙ e)

      g : GivesValue out sc.held W need (used_wires W c.vars (uses_of need (Some h.var))) (consumed_wires W c.vars (uses_of need (Some h.var))) (wires_so_far s) c.next under c s s.values u (flat (step (give_part need x [])) s)
      g =
          borrowed_done out sc.held W under c s b.stands b.good held_use (is_there need u d h) need m.still (used_wires W c.vars (uses_of need (Some h.var))) (consumed_wires W c.vars (uses_of need (Some h.var))) c.next u m.type m.new named

  pub variable_done : (need : Need) (u : Value) (d : Context) → VariableUsed sc need c x u d → Starts need (find_var c.vars (variable x)) → Ends need (find_var c.vars (variable x)) u d
  variable_done need u d h b = subst (λ o. Starts need o → Ends need o u d) (sym h.found) (go h.how) b
    where
      go : Moved need c h.var u d ⊎ Stayed need c h.var u d → Starts need (Some h.var) → Ends need (Some h.var) u d
      go (inl m) = moved_ends need u d h m
      go (inr m) = stayed_ends need u d h m
