-- A value under way that a name takes over: the relation stands again, with the variable as the owner of its wires.
use Rattle.std.proofs.Common.{◌≡◌, ◌⊎◌, inl, inr, ℕ, zero, suc, ◌+◌, ◌≤◌, Bool, true, false, cond, not, ◌&&◌, ◌||◌, List, [], ◌∷◌, ◌++◌, take, drop, refl, sym, ap, ap₂, ◌∙◌, subst, arith}
use Rattle.std.specs.Prelude.{Option, Some, None, is_some}
use Rattle.silq_tree.specs.declared.node.NameId.{NameId}
use Rattle.silq_types.specs.declared.values.Part.{Part}
use Rattle.silq_types.specs.declared.values.Value.{Value}
use Rattle.silq_types.specs.declared.values.Var.{Var}
use Rattle.silq_types.specs.Types.{same_name, shape_bits, is_linear, is_held}
use Rattle.check_scope.specs.Context.{Context, variable, same_part, find_var, replace}
use Rattle.check_expr.proofs.Alike.{same_part_refl, same_part_same}
use Rattle.check_fun.specs.Statement.{bind_name}
use Rattle.check_fun.specs.Statement as statements
use Rattle.silq_mean.specs.Env.{bound}
use Rattle.flat_core.specs.declared.step.WireId.{WireId}
use Rattle.bit_arith.specs.declared.operand.Operand.{Operand}
use Rattle.bit_arith.specs.declared.operand.Operand.TheVariants.{Const, Literal}
use Rattle.flat_form.specs.declared.known.Known.TheVariants.{Absent}
use Rattle.flat_form.specs.State.{Flattening, wires_in, part_shape, part_start}
use Rattle.flat_form.specs.Names.{AllOf, operands_in, names}
use Rattle.flat_typed.specs.Places.{Places, is_part, is_shared, has_wires, part_out, less_part, bits_for, shown, times_in, holds, holders, linear_holders, linear_carriers, owners_of, linear_owners}
use Rattle.flat_typed.specs.Relation.{HasNone, PartsDiffer, FitsPart, Outside, Stands, SparesGuarded}
use Rattle.flat_typed.proofs.Ordered.{clash}
use Rattle.flat_typed.proofs.Parts.{some_same}
use Rattle.flat_typed.proofs.Changes.{bound_shows, out_replaced, out_appended}
use Rattle.flat_typed.proofs.Moving.{holders_with, linear_with, all_replaced, all_more, differ_replaced}

-- ---- sums over variables

pub replaced_sum : (f : Var → ℕ) (g : List Var → ℕ) → ((v : Var) (vs : List Var) → g (v ∷ vs) ≡ f v + g vs) → (vs : List Var) (x : NameId) (v u : Var) → find_var vs (variable x) ≡ Some v → u.part ≡ variable x → g (replace vs u) + f v ≡ g vs + f u
replaced_sum f g h [] x v u e p = absurd (grind (arith, e))
replaced_sum f g h (w ∷ ws) x v u e p = go (same_part w.part (variable x)) refl e (λ d. replaced_sum f g h ws x v u d p)
  where
    goal : Bool → Type 0
    goal t = g (cond t (u ∷ ws) (w ∷ replace ws u)) + f v ≡ g (w ∷ ws) + f u

    go : (t : Bool) → same_part w.part (variable x) ≡ t → cond t (Some w) (find_var ws (variable x)) ≡ Some v → (find_var ws (variable x) ≡ Some v → g (replace ws u) + f v ≡ g ws + f u) → goal (same_part w.part u.part)
    go true s e i =
        subst goal (sym (ap (same_part w.part) p ∙ s))
        (let a = h u ws in let b = h w ws in let c : f w ≡ f v = ap f (some_same w v e) in omega (arith, a, b, c))
    go false s e i =
        subst goal (sym (ap (same_part w.part) p ∙ s))
        (let a = h w (replace ws u) in let b = h w ws in let c = i e in omega (arith, a, b, c))

pub appended_sum : (f : Var → ℕ) (g : List Var → ℕ) → ((v : Var) (vs : List Var) → g (v ∷ vs) ≡ f v + g vs) → (vs : List Var) (u : Var) → g (vs ++ u ∷ []) ≡ g vs + f u
appended_sum f g h [] u = let a = h u [] in omega (arith, a)
appended_sum f g h (w ∷ ws) u = let a = h w ws in let b = h w (ws ++ u ∷ []) in let c = appended_sum f g h ws u in omega (arith, a, b, c)

-- what the variable of a name counts for, before it is bound
abbrev pub old_of : (Var → ℕ) → Option Var → ℕ
old_of f None = 0
old_of f (Some v) = f v

plus_none : (a b : ℕ) → a ≡ b → a + 0 ≡ b
plus_none a b e = omega (arith, e)

pub bound_sum : (f : Var → ℕ) (g : List Var → ℕ) → ((v : Var) (vs : List Var) → g (v ∷ vs) ≡ f v + g vs) → (vs : List Var) (x : NameId) (u : Value) → g (bind_name vs x u) + old_of f (find_var vs (variable x)) ≡ g vs + f (statements.bound x u)
bound_sum f g h vs x u = go (find_var vs (variable x)) refl
  where
    go : (o : Option Var) → find_var vs (variable x) ≡ o → g (cond (is_some o) (replace vs (statements.bound x u)) (vs ++ statements.bound x u ∷ [])) + old_of f o ≡ g vs + f (statements.bound x u)
    go (Some v) e = replaced_sum f g h vs x v (statements.bound x u) e refl
    go None e = plus_none (g (vs ++ statements.bound x u ∷ [])) (g vs + f (statements.bound x u)) (appended_sum f g h vs (statements.bound x u))

-- ---- lists of variables

pub all_appended : (Q : Var → Type 0) (vs : List Var) (u : Var) → AllOf Q vs → Q u → AllOf Q (vs ++ u ∷ [])
all_appended Q [] u h q = (q, tt)
all_appended Q (w ∷ ws) u h q = (h.0, all_appended Q ws u h.1 q)

pub all_bound : (Q : Var → Type 0) (vs : List Var) (x : NameId) (u : Value) → AllOf Q vs → Q (statements.bound x u) → AllOf Q (bind_name vs x u)
all_bound Q vs x u h q = go (is_some (find_var vs (variable x)))
  where
    go : (t : Bool) → AllOf Q (cond t (replace vs (statements.bound x u)) (vs ++ statements.bound x u ∷ []))
    go true = all_replaced Q vs (statements.bound x u) h q
    go false = all_appended Q vs (statements.bound x u) h q

none_has : (vs : List Var) (x : NameId) → find_var vs (variable x) ≡ None → (w : Var) → HasNone vs w.part → AllOf (λ (y : Var). same_part y.part (variable x) ≡ false) vs
none_has [] x e w h = tt
none_has (y ∷ ys) x e w h = go (same_part y.part (variable x)) refl e (λ d. none_has ys x d w h.1)
  where
    go : (t : Bool) → same_part y.part (variable x) ≡ t → cond t (Some y) (find_var ys (variable x)) ≡ None → (find_var ys (variable x) ≡ None → AllOf (λ (z : Var). same_part z.part (variable x) ≡ false) ys) → (same_part y.part (variable x) ≡ false) × AllOf (λ (z : Var). same_part z.part (variable x) ≡ false) ys
    go true s e i = absurd (grind (arith, e))
    go false s e i = (s, i e)

pub part_swap : (p q : Part) → same_part p q ≡ false → same_part q p ≡ false
part_swap p q s = go (same_part q p) refl
  where
    go : (t : Bool) → same_part q p ≡ t → t ≡ false
    go false e = refl
    go true e = clash (sym (ap (λ r. same_part p r) (same_part_same q p e) ∙ same_part_refl p) ∙ s)

differ_appended : (vs : List Var) (u : Var) (x : NameId) → u.part ≡ variable x → find_var vs (variable x) ≡ None → PartsDiffer vs → PartsDiffer (vs ++ u ∷ [])
differ_appended [] u x p e d = (tt, tt)
differ_appended (w ∷ ws) u x p e d = go (same_part w.part (variable x)) refl e (λ f. differ_appended ws u x p f d.1)
  where
    go : (t : Bool) → same_part w.part (variable x) ≡ t → cond t (Some w) (find_var ws (variable x)) ≡ None → (find_var ws (variable x) ≡ None → PartsDiffer (ws ++ u ∷ [])) → PartsDiffer (w ∷ (ws ++ u ∷ []))
    go true s e i = absurd (grind (arith, e))
    go false s e i = (all_appended (λ (y : Var). same_part y.part w.part ≡ false) ws u d.0 (part_swap w.part u.part (ap (same_part w.part) p ∙ s)), i e)

pub differ_bound : (vs : List Var) (x : NameId) (u : Value) → PartsDiffer vs → PartsDiffer (bind_name vs x u)
differ_bound vs x u d = go (find_var vs (variable x)) refl
  where
    go : (o : Option Var) → find_var vs (variable x) ≡ o → PartsDiffer (cond (is_some o) (replace vs (statements.bound x u)) (vs ++ statements.bound x u ∷ []))
    go (Some v) e = differ_replaced vs (statements.bound x u) x refl d
    go None e = differ_appended vs (statements.bound x u) x refl e d

pub out_bound : (vs : List Var) (x : NameId) (u : Value) (y : NameId) → part_out (bind_name vs x u) y ≡ part_out vs y
out_bound vs x u y = go (is_some (find_var vs (variable x)))
  where
    go : (t : Bool) → part_out (cond t (replace vs (statements.bound x u)) (vs ++ statements.bound x u ∷ [])) y ≡ part_out vs y
    go true = out_replaced vs (statements.bound x u) x refl y
    go false = out_appended vs (statements.bound x u) x refl y

pub none_out : (vs : List Var) (y : NameId) → AllOf (λ v. is_part v ≡ false) vs → part_out vs y ≡ None
none_out [] y h = refl
none_out (v ∷ vs) y h = ap (λ t. cond (t && (v.consumed && same_name v.part.name y)) (Some v) (part_out vs y)) h.0 ∙ none_out vs y h.1

-- ---- parts of lists of wires

pub all_take : (Q : WireId → Type 0) (n : ℕ) (ps : List Operand) → AllOf Q (wires_in ps) → AllOf Q (wires_in (take n ps))
all_take Q zero ps h = tt
all_take Q (suc n) [] h = tt
all_take Q (suc n) (Const b ∷ ps) h = all_take Q n ps h
all_take Q (suc n) (Literal l ∷ ps) h = (h.0, all_take Q n ps h.1)

pub all_drop : (Q : WireId → Type 0) (n : ℕ) (ps : List Operand) → AllOf Q (wires_in ps) → AllOf Q (wires_in (drop n ps))
all_drop Q zero ps h = h
all_drop Q (suc n) [] h = tt
all_drop Q (suc n) (Const b ∷ ps) h = all_drop Q n ps h
all_drop Q (suc n) (Literal l ∷ ps) h = all_drop Q n ps h.1

-- ---- the law

-- the old variable of the name, if there is one, is not both Linear and live
abbrev pub NotLost : Option Var → Type 0
NotLost None = Unit {0}
NotLost (Some v) = (is_linear v.origin && not v.consumed) ≡ false

pub old_linear : (W : Places) (all : List Var) (w : WireId) (o : Option Var) → NotLost o → old_of (λ v. cond (is_linear v.origin) (holds W all w v) 0) o ≡ 0
old_linear W all w None h = refl
old_linear W all w (Some v) h = go (is_linear v.origin) v.consumed refl h
  where
    go : (l c : Bool) → v.consumed ≡ c → (l && not c) ≡ false → ◌≡◌ {A = ℕ} (cond l (holds W all w v) 0) 0
    go false c e h = refl
    go true true e h = ap (λ t. cond (not ((t || is_part v) || is_shared v)) (times_in w (operands_in (shown W all v))) 0) e
    go true false e h = clash h

module _ (out : Outside) (held : List (List Part)) (W : Places) (under : List Value) (c : Context) (s : Flattening) (x : NameId) (u : Value) where
  abbrev after : List Var
  after = bind_name c.vars x u

  abbrev new : Var
  new = statements.bound x u

  -- a quantum value under way with wires of its own becomes the variable x
  pub stands_bound : Stands out held W (u ∷ under) c s → AllOf (λ v. is_part v ≡ false) c.vars → u.ty.classical ≡ false → is_held u.origin ≡ false → NotLost (find_var c.vars (variable x))
      → Stands out held W under (record c { vars = bind_name c.vars x u }) (record s { env = bound s.env x (shown W c.vars (statements.bound x u)); values = drop 1 s.values })
  stands_bound r whole quantum unheld lost = record {
    env = bound_shows W c.vars s.env x u r.differ r.env;
    differ = differ_bound c.vars x u r.differ;
    parts = all_more (λ v. is_part v ≡ false) (FitsPart W after) after (λ v e t. clash (sym t ∙ e)) (all_bound (λ v. is_part v ≡ false) c.vars x u whole refl);
    one = λ w. let a = fewer w in let b = r.one w in omega (arith, a, b);
    free = λ w le. r.free w (before w le);
    untold = λ w le. r.untold w (before w le);
    shared = λ w le. shares w (r.shared w (before w le));
    callers = λ w le. r.callers w (before w le);
    guards = r.guards;
    below = r.below;
    spares = all_bound (SparesGuarded out.guarded held W) c.vars x u r.spares (λ b is t k z. all_take (λ w. out.guarded w ≡ false) (shape_bits (part_shape u.ty.shape is)) (drop (part_start u.ty.shape is) (W u.place)) (all_drop (λ w. out.guarded w ≡ false) (part_start u.ty.shape is) (W u.place) r.carried.0));
    carried = r.carried.1;
    owed = λ w d. owed w (r.owed w (record { there = d.there; untold = d.untold; why = d.why }));
  }
    where
      own : has_wires new ≡ true
      own = ap₂ (λ a b. not (a || b)) quantum unheld

      here : (w : WireId) → holds W c.vars w new ≡ times_in w (W u.place)
      here w = ap (λ t. cond t (times_in w (operands_in (shown W c.vars new))) 0) own ∙ ap (λ o. times_in w (operands_in (less_part o (bits_for W new)))) (none_out c.vars x whole)

      fewer : (w : WireId) → owners_of W after under w ≤ owners_of W c.vars (u ∷ under) w
      fewer w =
          let a = holders_with W after c.vars w after (out_bound c.vars x u) in
          let b = bound_sum (holds W c.vars w) (holders W c.vars w) (λ v vs. refl) c.vars x u in
          let d = here w in
          omega (arith, a, b, d)

      before : (w : WireId) → 1 ≤ owners_of W after under w → 1 ≤ owners_of W c.vars (u ∷ under) w
      before w le = let a = fewer w in omega (arith, a, le)

      shares : (w : WireId) → AllOf (λ v. is_shared v ≡ true → names (shown W c.vars v) w ≡ false) c.vars → AllOf (λ v. is_shared v ≡ true → names (shown W after v) w ≡ false) after
      shares w h =
          all_more (λ v. is_shared v ≡ true → names (shown W c.vars v) w ≡ false) (λ v. is_shared v ≡ true → names (shown W after v) w ≡ false) after
          (λ v q t. ap (λ o. names (cond v.consumed Absent (less_part o (bits_for W v))) w) (out_bound c.vars x u v.part.name) ∙ q t)
          (all_bound (λ v. is_shared v ≡ true → names (shown W c.vars v) w ≡ false) c.vars x u h (λ t. clash (sym t ∙ ap₂ (λ a b. a || b) quantum unheld)))

      same : (w : WireId) → linear_owners W after under w ≡ linear_owners W c.vars (u ∷ under) w
      same w = go (is_linear u.origin) (bound_sum (λ v. cond (is_linear v.origin) (holds W c.vars w v) 0) (linear_holders W c.vars w) (λ v vs. refl) c.vars x u)
        where
          go : (t : Bool) → linear_holders W c.vars w after + old_of (λ v. cond (is_linear v.origin) (holds W c.vars w v) 0) (find_var c.vars (variable x)) ≡ linear_holders W c.vars w c.vars + cond t (holds W c.vars w new) 0
              → linear_holders W after w after + linear_carriers W w under ≡ linear_holders W c.vars w c.vars + (cond t (times_in w (W u.place)) 0 + linear_carriers W w under)
          go true b = let a = linear_with W after c.vars w after (out_bound c.vars x u) in let z = old_linear W c.vars w (find_var c.vars (variable x)) lost in let d = here w in omega (arith, a, b, z, d)
          go false b = let a = linear_with W after c.vars w after (out_bound c.vars x u) in let z = old_linear W c.vars w (find_var c.vars (variable x)) lost in omega (arith, a, b, z)

      owed : (w : WireId) → (1 ≤ linear_owners W c.vars (u ∷ under) w) ⊎ (out.answered w ≡ true) → (1 ≤ linear_owners W after under w) ⊎ (out.answered w ≡ true)
      owed w (inl le) = inl (subst (λ n. 1 ≤ n) (sym (same w)) le)
      owed w (inr a) = inr a
