-- The end of a block: its variables go, and none of them was Linear and live.
use Rattle.std.proofs.Common.{◌≡◌, ◌⊎◌, inl, inr, ℕ, zero, suc, ◌≤◌, Bool, true, false, cond, not, ◌&&◌, ◌||◌, List, [], ◌∷◌, ◌++◌, length, take, drop, refl, sym, ap, ◌∙◌, subst, arith}
use Rattle.silq_tree.specs.declared.node.NameId.{NameId}
use Rattle.silq_types.specs.declared.values.Part.{Part}
use Rattle.silq_types.specs.declared.values.Value.{Value}
use Rattle.silq_types.specs.declared.values.Var.{Var}
use Rattle.silq_types.specs.Types.{is_linear}
use Rattle.check_scope.specs.Context.{Context, same_part}
use Rattle.check_fun.specs.Statement.{is_live_linear}
use Rattle.silq_mean.specs.Env.{Block, Env}
use Rattle.flat_core.specs.declared.step.WireId.{WireId}
use Rattle.flat_form.specs.declared.known.Known.{Known}
use Rattle.flat_form.specs.declared.known.Known.TheVariants.{Absent}
use Rattle.flat_form.specs.State.{Flattening}
use Rattle.flat_form.specs.Names.{AllOf, operands_in, names}
use Rattle.flat_typed.specs.Places.{Places, is_part, is_shared, part_out, less_part, bits_for, shown, entries, in_order, times_in, holds, holders, linear_holders, owners_of, linear_owners}
use Rattle.flat_typed.specs.Relation.{PartsDiffer, FitsPart, Outside, Stands, SparesGuarded}
use Rattle.flat_typed.proofs.Ordered.{clash}
use Rattle.flat_typed.proofs.Changes.{entries_with}
use Rattle.flat_typed.proofs.Moving.{holders_with, linear_with, all_more}
use Rattle.flat_typed.proofs.Binding.{none_out}

-- ---- lists

take_front : {A : Type 0} (xs ys : List A) → take (length xs) (xs ++ ys) ≡ xs
take_front [] ys = refl
take_front (x ∷ xs) ys = ap (λ l. x ∷ l) (take_front xs ys)

pub all_of_take : {A : Type 0} (Q : A → Type 0) (n : ℕ) (xs : List A) → AllOf Q xs → AllOf Q (take n xs)
all_of_take Q zero xs h = tt
all_of_take Q (suc n) [] h = tt
all_of_take Q (suc n) (x ∷ xs) h = (h.0, all_of_take Q n xs h.1)

entries_take : (W : Places) (all : List Var) (n : ℕ) (vs : List Var) → AllOf (λ v. is_part v ≡ false) vs → take n (entries W all vs) ≡ entries W all (take n vs)
entries_take W all zero vs h = refl
entries_take W all (suc n) [] h = refl
entries_take W all (suc n) (v ∷ vs) h =
    ap (λ t. take (suc n) (cond t (entries W all vs) ((v.part.name, shown W all v) ∷ entries W all vs))) h.0
    ∙ (ap (λ l. (v.part.name, shown W all v) ∷ l) (entries_take W all n vs h.1)
    ∙ ap (λ t. cond t (entries W all (take n vs)) ((v.part.name, shown W all v) ∷ entries W all (take n vs))) (sym h.0))

differ_take : (n : ℕ) (vs : List Var) → PartsDiffer vs → PartsDiffer (take n vs)
differ_take zero vs d = tt
differ_take (suc n) [] d = tt
differ_take (suc n) (v ∷ vs) d = (all_of_take (λ (w : Var). same_part w.part v.part ≡ false) n vs d.0, differ_take n vs d.1)

holders_take : (W : Places) (all : List Var) (w : WireId) (n : ℕ) (vs : List Var) → holders W all w (take n vs) ≤ holders W all w vs
holders_take W all w zero vs = omega arith
holders_take W all w (suc n) [] = omega arith
holders_take W all w (suc n) (v ∷ vs) = let a = holders_take W all w n vs in omega (arith, a)

-- what is not Linear and live counts for nothing
none_linear : (W : Places) (all : List Var) (w : WireId) (v : Var) → is_live_linear v ≡ false → ◌≡◌ {A = ℕ} (cond (is_linear v.origin) (holds W all w v) 0) 0
none_linear W all w v h = go (is_linear v.origin) v.consumed refl h
  where
    go : (l c : Bool) → v.consumed ≡ c → (l && not c) ≡ false → ◌≡◌ {A = ℕ} (cond l (holds W all w v) 0) 0
    go false c e h = refl
    go true true e h = ap (λ t. cond (not ((t || is_part v) || is_shared v)) (times_in w (operands_in (shown W all v))) 0) e
    go true false e h = clash h

pub no_linear : (W : Places) (all : List Var) (w : WireId) (vs : List Var) → AllOf (λ v. is_live_linear v ≡ false) vs → linear_holders W all w vs ≡ 0
no_linear W all w [] h = refl
no_linear W all w (v ∷ vs) h = let a = none_linear W all w v h.0 in let b = no_linear W all w vs h.1 in omega (arith, a, b)

linear_take : (W : Places) (all : List Var) (w : WireId) (n : ℕ) (vs : List Var) → AllOf (λ v. is_live_linear v ≡ false) (drop n vs) → linear_holders W all w (take n vs) ≡ linear_holders W all w vs
linear_take W all w zero vs h = sym (no_linear W all w vs h)
linear_take W all w (suc n) [] h = refl
linear_take W all w (suc n) (v ∷ vs) h = let a = linear_take W all w n vs h in omega (arith, a)

-- ---- the law

-- the innermost block has the variables from the n-th on
pub stands_closed : (out : Outside) (held : List (List Part)) (W : Places) (under : List Value) (c : Context) (s : Flattening) (b : Block Known) (bs : Env Known) (n : ℕ) → Stands out held W under c s → s.env ≡ b ∷ bs → length (in_order bs) ≡ n
    → AllOf (λ v. is_part v ≡ false) c.vars → AllOf (λ v. is_live_linear v ≡ false) (drop n c.vars)
    → Stands out held W under (record c { vars = take n c.vars }) (record s { env = drop 1 s.env })
stands_closed out held W under c s b bs n r e m whole dead = record {
  env = env;
  differ = differ_take n c.vars r.differ;
  parts = all_more (λ v. is_part v ≡ false) (FitsPart W (take n c.vars)) (take n c.vars) (λ v e t. clash (sym t ∙ e)) whole-left;
  one = λ w. let a = fewer w in let b = r.one w in omega (arith, a, b);
  free = λ w le. r.free w (before w le);
  untold = λ w le. r.untold w (before w le);
  shared = λ w le.
      all_more (λ v. is_shared v ≡ true → names (shown W c.vars v) w ≡ false) (λ v. is_shared v ≡ true → names (shown W (take n c.vars) v) w ≡ false) (take n c.vars)
      (λ v q t. ap (λ o. names (cond v.consumed Absent (less_part o (bits_for W v))) w) (sym (out-same v.part.name)) ∙ q t)
      (all_of_take (λ v. is_shared v ≡ true → names (shown W c.vars v) w ≡ false) n c.vars (r.shared w (before w le)));
  callers = λ w le. r.callers w (before w le);
  guards = r.guards;
  below = r.below;
  spares = all_of_take (SparesGuarded out.guarded held W) n c.vars r.spares;
  carried = r.carried;
  owed = λ w o. owed w (r.owed w (record { there = o.there; untold = o.untold; why = o.why }));
}
  where
    whole-left : AllOf (λ v. is_part v ≡ false) (take n c.vars)
    whole-left = all_of_take (λ v. is_part v ≡ false) n c.vars whole

    out-same : (y : NameId) → part_out c.vars y ≡ part_out (take n c.vars) y
    out-same y = none_out c.vars y whole ∙ sym (none_out (take n c.vars) y whole-left)

    env : in_order (drop 1 s.env) ≡ entries W (take n c.vars) (take n c.vars)
    env =
        ap (λ l. in_order (drop 1 l)) e
        ∙ (sym (take_front (in_order bs) b)
        ∙ (ap (λ k. take k (in_order bs ++ b)) m
        ∙ (ap (take n) (ap in_order (sym e) ∙ r.env)
        ∙ (entries_take W c.vars n c.vars whole
        ∙ entries_with W c.vars (take n c.vars) (take n c.vars) out-same))))

    fewer : (w : WireId) → owners_of W (take n c.vars) under w ≤ owners_of W c.vars under w
    fewer w = let a = holders_with W (take n c.vars) c.vars w (take n c.vars) (λ y. sym (out-same y)) in let b = holders_take W c.vars w n c.vars in omega (arith, a, b)

    before : (w : WireId) → 1 ≤ owners_of W (take n c.vars) under w → 1 ≤ owners_of W c.vars under w
    before w le = let a = fewer w in omega (arith, a, le)

    same : (w : WireId) → linear_owners W (take n c.vars) under w ≡ linear_owners W c.vars under w
    same w = let a = linear_with W (take n c.vars) c.vars w (take n c.vars) (λ y. sym (out-same y)) in let b = linear_take W c.vars w n c.vars dead in omega (arith, a, b)

    owed : (w : WireId) → (1 ≤ linear_owners W c.vars under w) ⊎ (out.answered w ≡ true) → (1 ≤ linear_owners W (take n c.vars) under w) ⊎ (out.answered w ≡ true)
    owed w (inl le) = inl (subst (λ k. 1 ≤ k) (sym (same w)) le)
    owed w (inr a) = inr a
