-- A branch ends with the names and values that it found, and leaves the wires of its conditions.
use Rattle.std.proofs.Common.{◌≡◌, ◌⊎◌, inl, inr, ℕ, suc, ◌+◌, ◌≤◌, ◌<◌, Bool, true, false, cond, not, ◌&&◌, ◌||◌, List, [], ◌∷◌, ◌++◌, length, map, take, drop, refl, sym, ap, ap₂, ◌∙◌, subst, arith, nat_lt}
use Rattle.std.specs.Prelude.{Option, Some, None}
use Rattle.std.proofs.lemmas.Bool.{cases_lt, ltb-true}
use Rattle.silq_tree.specs.declared.node.NameId.{NameId}
use Rattle.silq_types.specs.declared.values.Part.{Part}
use Rattle.silq_types.specs.declared.values.Var.{Var}
use Rattle.check_scope.specs.Context.{Scope, Context}
use Rattle.check_expr.specs.Owners.{owners, Sole}
use Rattle.silq_mean.specs.Env.{Block, Env}
use Rattle.silq_mean.specs.Effect.{Effect}
use Rattle.silq_mean.specs.Meaning.{in_block}
use Rattle.flat_core.specs.declared.step.WireId.{WireId}
use Rattle.flat_core.specs.declared.step.End.{End}
use Rattle.flat_core.specs.declared.step.End.TheVariants.{Dropped, Zeroed}
use Rattle.flat_core.specs.Form.{WireForm}
use Rattle.flat_core.specs.Label.{wire_in}
use Rattle.bit_arith.specs.declared.operand.Operand.{Operand}
use Rattle.flat_form.specs.declared.known.Known.{Known}
use Rattle.flat_form.specs.State.{Flattening, wires_so_far}
use Rattle.flat_form.specs.Fine.{SameEnd, ZeroesNew, Keeps, KeepsAll}
use Rattle.flat_form.specs.Flat.{flat}
use Rattle.flat_form.specs.Names.{AllOf, named_by}
use Rattle.flat_typed.specs.Places.{Places, is_part, part_out, entries, in_order, owners_of}
use Rattle.flat_typed.specs.Relation.{Outside}
use Rattle.flat_typed.specs.Done.{StmtBegins, StmtDone, changeable}
use Rattle.flat_typed.specs.Settled.{Settled, Settles}
use Rattle.flat_typed.proofs.Ordered.{clash}
use Rattle.flat_typed.proofs.Using.{all_names, length_map}
use Rattle.flat_typed.proofs.Binding.{none_out}
use Rattle.flat_typed.proofs.Claims.{all_below}
use Rattle.flat_typed.proofs.Blocks.{ClosedFrom, opened, begins_opened, block_done}
use Rattle.flat_typed.proofs.Unchanged.{AllUnchanged, BranchLeft}
use Rattle.flat_typed.proofs.Entering.{guards_wire}
use Rattle.flat_typed.proofs.Outer.{AllSame, LiveAgree, all_same, same_whole, same_entries, same_holders}

-- ---- environments

ends_same : {A : Type 0} (xs ys us vs : List A) → length us ≡ length vs → xs ++ us ≡ ys ++ vs → (xs ≡ ys) × (us ≡ vs)
ends_same [] [] us vs l e = (refl, e)
ends_same [] (y ∷ ys) us vs l e = let a = ap length e in let b = longer ys vs in absurd (omega (arith, a, b, l))
  where
    longer : {A : Type 0} (ys vs : List A) → length vs ≤ length (ys ++ vs)
    longer [] vs = omega arith
    longer (y ∷ ys) vs = let a = longer ys vs in omega (arith, a)
ends_same (x ∷ xs) [] us vs l e = let a = ap length e in let b = longer xs us in absurd (omega (arith, a, b, l))
  where
    longer : {A : Type 0} (ys vs : List A) → length vs ≤ length (ys ++ vs)
    longer [] vs = omega arith
    longer (y ∷ ys) vs = let a = longer ys vs in omega (arith, a)
ends_same (x ∷ xs) (y ∷ ys) us vs l e =
    let r = ends_same xs ys us vs l (ap (λ zs. drop 1 zs) e) in
    (ap₂ (λ z zs. z ∷ zs) (first_same x y (xs ++ us) (ys ++ vs) e) r.0, r.1)
  where
    first_same : {A : Type 0} (a b : A) (us vs : List A) → ◌≡◌ {A = List A} (a ∷ us) (b ∷ vs) → a ≡ b
    first_same a b us vs e = grind (arith, e)

-- blocks of the same names, with the same in order
pub env_same : (a b : Env Known) → all_names a ≡ all_names b → in_order a ≡ in_order b → a ≡ b
env_same [] [] n e = refl
env_same [] (y ∷ ys) n e = let l = ap length n in absurd (omega (arith, l))
env_same (x ∷ xs) [] n e = let l = ap length n in absurd (omega (arith, l))
env_same (x ∷ xs) (y ∷ ys) n e =
    let r = ends_same (in_order xs) (in_order ys) x y (length_map name x ∙ (ap firsts n ∙ sym (length_map name y))) e in
    ap₂ (λ z zs. z ∷ zs) r.1 (env_same xs ys (ap (λ l. drop 1 l) n) r.0)
  where
    name : NameId × Known → NameId
    name p = p.0

    firsts : List (List NameId) → ℕ
    firsts [] = 0
    firsts (l ∷ ls) = length l

-- ---- one branch

-- what its walk tells of it: what its statements do, and where it leaves the outer variables
abbrev pub InBranch : Scope → Effect → Context → Context → Type 0
InBranch sc e c i = ((out : Outside) (low : ℕ) (W : Places) (s : Flattening) → StmtBegins out sc low (λ p. 0) W c s → StmtDone out sc e W c s i) × Settles sc c i

-- what is live has a place from before
pub live_agree : (c : Context) (low : ℕ) (U W : Places) → Sole low (λ p. 0) c → ((p : ℕ) → p < c.next → U p ≡ W p) → AllOf (LiveAgree U W) c.vars
live_agree c low U W s a = each c.vars (all_below c.next c.vars (λ p le. let x = s.ahead p le in omega (arith, x)))
  where
    each : (vs : List Var) → AllOf (λ v. v.consumed ≡ false → v.place < c.next) vs → AllOf (LiveAgree U W) vs
    each [] h = tt
    each (v ∷ vs) h = (λ l. a v.place (h.0 l), each vs h.1)

module _ (out : Outside) (sc : Scope) (low : ℕ) (W : Places) (c : Context) (s : Flattening) (e : Effect) (d : Context) (b : StmtBegins out sc low (λ p. 0) W c s) (settled : Settled sc c) (l : BranchLeft (InBranch sc e c) c d) where
  inside_done : StmtDone out sc e W c (opened s) l.inner
  inside_done = l.is.0 out low W (opened s) (begins_opened out sc low W c s b)

  pub branch_done : StmtDone out sc (in_block e) W c s d
  branch_done = block_done out sc low W c s e l.inner d b inside_done l.closed

  pub outer_same : AllSame c.vars d.vars
  outer_same =
      subst (λ (x : Context). AllSame c.vars x.vars) (sym l.closed.left)
      (all_same c l.inner l.inner.next l.is.1.there l.unchanged settled.placed l.is.1.alive l.is.1.settled.sole)

  pub outer_agree : AllOf (LiveAgree branch_done.after W) c.vars
  outer_agree = live_agree c low branch_done.after W b.sole branch_done.agree

  none_here : (y : NameId) → part_out c.vars y ≡ None
  none_here y = none_out c.vars y b.whole

  none_there : (y : NameId) → part_out d.vars y ≡ None
  none_there y = none_out d.vars y (same_whole c.vars d.vars outer_same b.whole)

  -- each wire has as many owners behind it
  pub outer_owners : (w : WireId) → owners_of branch_done.after d.vars [] w ≡ owners_of W c.vars [] w
  outer_owners w = ap (λ n. n + 0) (same_holders branch_done.after W c.vars d.vars none_here none_there w c.vars d.vars outer_same outer_agree)

  pub same_end : SameEnd s (flat (in_block e) s)
  same_end = record {
    env = env_same s.env (flat (in_block e) s).env (sym inside_done.leaves.names)
        (b.stands.env ∙ (sym (same_entries branch_done.after W c.vars d.vars none_here none_there c.vars d.vars outer_same outer_agree) ∙ sym branch_done.stands.env));
    values = b.none ∙ sym branch_done.none;
    callers = sym branch_done.leaves.callers;
  }

  owner_or : (w : WireId) → (changeable out W c.vars [] w ≡ false) ⊎ (1 ≤ owners_of W c.vars [] w)
  owner_or w = go (out.guarded w) (cases_lt 0 (owners_of W c.vars [] w))
    where
      go : (t : Bool) → (0 < owners_of W c.vars [] w) ⊎ (owners_of W c.vars [] w ≤ 0) → ((not t && nat_lt 0 (owners_of W c.vars [] w)) ≡ false) ⊎ (1 ≤ owners_of W c.vars [] w)
      go true x = inl refl
      go false (inl lt) = inr (omega (arith, lt))
      go false (inr le) = inl (ap (λ n. nat_lt 0 n) (let z : owners_of W c.vars [] w ≡ 0 = omega (arith, le) in z))

  -- a wire that it may change has an owner behind it, and so no end
  pub zeroes_new : ZeroesNew s (flat (in_block e) s)
  zeroes_new w lt z = go (owner_or w)
    where
      go : (changeable out W c.vars [] w ≡ false) ⊎ (1 ≤ owners_of W c.vars [] w) → (wire_in s.built.draft.wires w).ending ≡ Zeroed
      go (inl f) = ap (λ (r : WireForm). r.ending) (sym (branch_done.touches.ends w lt f)) ∙ z
      go (inr le) = no (sym (branch_done.stands.untold w (subst (λ n. 1 ≤ n) (sym (outer_owners w)) le)) ∙ z)
        where
          no : Dropped ≡ Zeroed → (wire_in s.built.draft.wires w).ending ≡ Zeroed
          no q = absurd (grind (arith, q))

  pub keeps : (p : Operand) → ((w : WireId) → named_by w p ≡ true → out.guarded w ≡ true) → ((w : WireId) → named_by w p ≡ true → w.number < wires_so_far s) → Keeps p s (flat (in_block e) s)
  keeps p guarded there w n = branch_done.touches.labels w (there w n) (ap (λ t. not t && nat_lt 0 (owners_of W c.vars [] w)) (guarded w n))

  pub keeps_all : (o : Option Operand) → ((w : WireId) → guards_wire o w ≡ true → out.guarded w ≡ true) → ((w : WireId) → guards_wire o w ≡ true → w.number < wires_so_far s) → KeepsAll o s (flat (in_block e) s)
  keeps_all None guarded there = tt
  keeps_all (Some p) guarded there = keeps p guarded there
