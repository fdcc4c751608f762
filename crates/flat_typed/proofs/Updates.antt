-- A part of a variable that a statement changes: its wires may be changed.
use Rattle.std.proofs.Common.{◌≡◌, ℕ, ◌+◌, ◌≤◌, Bool, true, false, cond, not, ◌&&◌, ◌||◌, List, [], ◌∷◌, refl, sym, ap, ap₂, ◌∙◌, subst, arith}
use Rattle.std.specs.Prelude.{Option, Some, None, ℤ}
use Rattle.silq_tree.specs.declared.node.NameId.{NameId}
use Rattle.silq_types.specs.declared.types.Ty.{Ty}
use Rattle.silq_types.specs.declared.values.Part.{Part}
use Rattle.silq_types.specs.declared.values.Var.{Var}
use Rattle.silq_types.specs.declared.need.Need.{Need}
use Rattle.silq_types.specs.declared.need.Need.TheVariants as needs
use Rattle.silq_types.specs.Types.{same_name, shape_bits}
use Rattle.silq_types.specs.Calls.{is_consumed}
use Rattle.silq_mean.specs.Written.{is_empty}
use Rattle.silq_mean.specs.Env.{Env, Block, is_in_block, block_with, in_its_block}
use Rattle.check_scope.specs.declared.uses.Use.{Use}
use Rattle.check_scope.specs.Context.{Context, indices, variable, part_at, part_type, find_var, replace, overlaps, is_prefix, is_in_condition}
use Rattle.check_scope.specs.Uses.{meets, clash as clashes, both_consume, consume_and_hold}
use Rattle.check_expr.proofs.Owners.{found_part}
use Rattle.flat_core.specs.declared.step.WireId.{WireId}
use Rattle.bit_arith.specs.declared.operand.Operand.{Operand}
use Rattle.bit_arith.specs.declared.operand.Operand.TheVariants.{Const, Literal}
use Rattle.bit_arith.specs.Built.{under_condition}
use Rattle.bit_arith.specs.Calls.{among, no_target, AllSafe, IsTarget}
use Rattle.flat_form.specs.declared.known.Known.{Known}
use Rattle.flat_form.specs.declared.known.Known.TheVariants.{Lent, Absent}
use Rattle.flat_form.specs.State.{Flattening, wires_so_far, wires_in, part_of, part_shape, part_start, outside}
use Rattle.flat_form.specs.Fine.{MayChange, without_part}
use Rattle.flat_form.specs.Good.{Good}
use Rattle.flat_form.specs.Names.{AllOf, AllEnv, names}
use Rattle.flat_typed.specs.Places.{Places, is_part, is_shared, has_wires, part_out, less_part, bits_for, shown, holders, times_in, owners_of}
use Rattle.flat_typed.specs.Footprint.{wires_for, consumed_wires, NoneNames}
use Rattle.flat_typed.specs.Relation.{Outside, Stands, Guards, SparesGuarded}
use Rattle.flat_typed.specs.Uses.{IsThere}
use Rattle.flat_typed.proofs.Ordered.{clash}
use Rattle.flat_typed.proofs.Parts.{found_there, some_same}
use Rattle.flat_typed.proofs.Changes.{out_replaced, consumed_shows}
use Rattle.flat_typed.proofs.Owning.{same_refl, no_times, among_times, times_distinct, each_named, all_targets, names_none, env_of_order, env_each, callers_each, spares_guarded, all_each}
use Rattle.flat_typed.proofs.Moving.{spent, holders_spent, owns_all, all_replaced, all_more, found_all}
use Rattle.flat_typed.proofs.Spans.{part_at_most, part_and_outside}
use Rattle.flat_typed.proofs.Uses.{NotOf, name_of_part}
use Rattle.flat_typed.proofs.Footprints.{overlaps_swap}
use Rattle.flat_typed.proofs.Changing.{undisturbed}

-- ---- what an expression without its name uses

-- a part, as if it were used so that it is consumed
abbrev pub use_at : Part → Use
use_at q = record { part = q; need = needs.Consumed }

and_none : (t : Bool) {b : Bool} → b ≡ false → (t && b) ≡ false
and_none true e = e
and_none false e = refl

none_overlap : (p q : Part) → same_name p.name q.name ≡ false → overlaps p q ≡ false
none_overlap p q e = ap (λ t. t && (is_prefix (indices p) (indices q) || is_prefix (indices q) (indices p))) e

clash_part : (wanted : Need → Bool) (q : Part) (us : List Use) → AllOf (NotOf q.name) us → clashes wanted us (use_at q ∷ []) ≡ false
clash_part wanted q [] h = refl
clash_part wanted q (u ∷ us) h =
    ap₂ (λ a b. a || b) (and_none (is_consumed u.need) (ap (λ t. t || false) (and_none (wanted needs.Consumed) (none_overlap u.part q h.0)))) (clash_part wanted q us h.1)

meets_part : (wanted : Need → Bool) (q : Part) (us : List Use) → AllOf (NotOf q.name) us → meets wanted q us ≡ false
meets_part wanted q [] h = refl
meets_part wanted q (u ∷ us) h = ap₂ (λ a b. a || b) (and_none (wanted u.need) (overlaps_swap q u.part ∙ none_overlap u.part q h.0)) (meets_part wanted q us h.1)

pub part_consume : (q : Part) (us : List Use) → AllOf (NotOf q.name) us → both_consume us (use_at q ∷ []) ≡ false
part_consume q us h = clash_part is_consumed q us h

pub part_hold : (q : Part) (us : List Use) → AllOf (NotOf q.name) us → consume_and_hold us (use_at q ∷ []) ≡ false
part_hold q us h = ap₂ (λ a b. a || b) (clash_part (λ n. not (is_consumed n)) q us h) (ap (λ t. t || false) (meets_part (λ n. not (is_consumed n)) q us h))

-- ---- the part is there

pub part_there : (held : List (List Part)) (vs : List Var) (x : NameId) (v : Var) (zs : List ℤ) (t : Ty) → find_var vs (variable x) ≡ Some v → v.consumed ≡ false → is_shared v ≡ false → part_type v.ty.classical v.ty.shape zs ≡ Some t
    → is_in_condition held (part_at x zs) ≡ false → indices (part_at x zs) ≡ zs → AllOf (λ u. is_part u ≡ false) vs → IsThere held vs (use_at (part_at x zs))
part_there held vs x v zs t e live own kind loose exact whole = record {
  owner = v;
  found = ap (λ n. find_var vs (variable n)) (name_of_part x zs) ∙ e;
  live = live;
  kind = (t, ap (part_type v.ty.classical v.ty.shape) exact ∙ kind);
  clear = undisturbed vs (part_at x zs) whole;
  here = λ w f. here zs exact w f;
  own = λ c. own;
  loose = λ c. ap₂ (λ n l. is_in_condition held (part_at n l)) (name_of_part x zs) exact ∙ loose;
}
  where
    here : (ys : List ℤ) → indices (part_at x ys) ≡ ys → (w : Var) → find_var vs (part_at x ys) ≡ Some w → w.consumed ≡ false
    here [] q w f = ap (λ (u : Var). u.consumed) (some_same w v (sym f ∙ e)) ∙ live
    here (y ∷ ys) q w f =
        let p : is_part w ≡ true = ap (λ (r : Part). not (is_empty (indices r))) (found_part vs (part_at x (y ∷ ys)) w f) ∙ ap (λ l. not (is_empty l)) q in
        clash (sym p ∙ found_all (λ u. is_part u ≡ false) vs (part_at x (y ∷ ys)) w f whole)

-- ---- environments

block_other : (Q : Known → Type 0) (l : Block Known) (x : NameId) (a b : Known) → AllOf (λ (p : NameId × Known). Q p.1) (block_with l x a) → Q b → AllOf (λ (p : NameId × Known). Q p.1) (block_with l x b)
block_other Q [] x a b h q = (q, tt)
block_other Q (p ∷ ps) x a b h q = go (same_name p.0 x) h (λ i. block_other Q ps x a b i q)
  where
    go : (t : Bool) → AllOf (λ (p : NameId × Known). Q p.1) (cond t ((p.0, a) ∷ ps) (p ∷ block_with ps x a)) → (AllOf (λ (p : NameId × Known). Q p.1) (block_with ps x a) → AllOf (λ (p : NameId × Known). Q p.1) (block_with ps x b))
        → AllOf (λ (p : NameId × Known). Q p.1) (cond t ((p.0, b) ∷ ps) (p ∷ block_with ps x b))
    go true i r = (q, i.1)
    go false i r = (i.0, r i.1)

-- another value of a name
pub its_other : (Q : Known → Type 0) (env : Env Known) (x : NameId) (a b : Known) → AllEnv Q (in_its_block env x a) → Q b → AllEnv Q (in_its_block env x b)
its_other Q [] x a b h q = tt
its_other Q (l ∷ ls) x a b h q = go (is_in_block l x) h (λ i. its_other Q ls x a b i q)
  where
    go : (t : Bool) → AllEnv Q (cond t (block_with l x a ∷ ls) (l ∷ in_its_block ls x a)) → (AllEnv Q (in_its_block ls x a) → AllEnv Q (in_its_block ls x b)) → AllEnv Q (cond t (block_with l x b ∷ ls) (l ∷ in_its_block ls x b))
    go true i r = (block_other Q l x a b i.0 q, i.1)
    go false i r = (i.0, r i.1)

-- ---- its wires

condition_spares : (n : ℕ) (G : WireId → Bool) (ws : List WireId) (c : Option Operand) → AllOf (λ w. G w ≡ false) ws → Guards G c → AllSafe n no_target (under_condition c []) → AllSafe n (among ws) (under_condition c [])
condition_spares n G ws None h g s = tt
condition_spares n G ws (Some (Const b)) h g s = (tt, tt)
condition_spares n G ws (Some (Literal l)) h g s = ((s.0.0, spares_guarded G ws l.wire h (g l.wire (same_refl l.wire))), tt)

module _ (out : Outside) (held : List (List Part)) (W : Places) (c : Context) (s : Flattening) (x : NameId) (v : Var) (zs : List ℤ) (g : Good s) (st : Stands out held W [] c s) (e : find_var c.vars (variable x) ≡ Some v) (o : part_out c.vars v.part.name ≡ None) (has : has_wires v ≡ true) (live : v.consumed ≡ false) where
  abbrev its_bits : List Operand
  its_bits = part_of v.ty.shape zs (W v.place)

  its_times : (w : WireId) → times_in w its_bits ≤ times_in w (W v.place)
  its_times w = part_at_most w v.ty.shape zs (W v.place)

  rest : (w : WireId) → holders W (replace c.vars (spent v)) w (replace c.vars (spent v)) + times_in w (W v.place) ≡ holders W c.vars w c.vars
  rest w = let a = holders_spent W c.vars w x v e in let k = owns_all W c.vars w v o has live in omega (arith, a, k)

  pub part_owner : (w : WireId) → 1 ≤ times_in w (part_of v.ty.shape zs (W v.place)) → 1 ≤ owners_of W c.vars [] w
  part_owner w le = let a = rest w in let k = its_times w in omega (arith, a, k, le)

  alone : (w : WireId) → 1 ≤ times_in w its_bits → holders W (replace c.vars (spent v)) w (replace c.vars (spent v)) ≡ 0
  alone w le = let a = rest w in let k = its_times w in let i = st.one w in omega (arith, a, k, i, le)

  shares : (w : WireId) → AllOf (λ u. is_shared u ≡ true → names (shown W c.vars u) w ≡ false) c.vars → AllOf (λ u. is_shared u ≡ true → names (shown W (replace c.vars (spent v)) u) w ≡ false) (replace c.vars (spent v))
  shares w h =
      all_more (λ u. is_shared u ≡ true → names (shown W c.vars u) w ≡ false) (λ u. is_shared u ≡ true → names (shown W (replace c.vars (spent v)) u) w ≡ false) (replace c.vars (spent v))
      (λ u q t. ap (λ k. names (cond u.consumed Absent (less_part k (bits_for W u))) w) (out_replaced c.vars (spent v) x (found_there c.vars x v e) u.part.name) ∙ q t)
      (all_replaced (λ u. is_shared u ≡ true → names (shown W c.vars u) w ≡ false) c.vars (spent v) h (λ t. refl))

  -- the other bits of the variable are other wires
  beside : (w : WireId) → 1 ≤ times_in w its_bits → names (Lent (part_start v.ty.shape zs) (shape_bits (part_shape v.ty.shape zs)) (bits_for W v)) w ≡ false
  beside w le =
      no_times w (outside (part_start v.ty.shape zs) (shape_bits (part_shape v.ty.shape zs)) (W v.place))
      (let a = part_and_outside w v.ty.shape zs (W v.place) in let r = rest w in let i = st.one w in omega (arith, a, r, i, le))

  env_spares : (w : WireId) → 1 ≤ times_in w its_bits → AllEnv (λ k. names k w ≡ false) (in_its_block s.env x (Lent (part_start v.ty.shape zs) (shape_bits (part_shape v.ty.shape zs)) (bits_for W v)))
  env_spares w le =
      its_other (λ k. names k w ≡ false) s.env x Absent (Lent (part_start v.ty.shape zs) (shape_bits (part_shape v.ty.shape zs)) (bits_for W v))
      (env_of_order (λ k. names k w ≡ false) (in_its_block s.env x Absent)
      (subst (AllOf (λ (p : NameId × Known). names p.1 w ≡ false)) (sym (consumed_shows W c.vars s.env v x e st.differ st.env))
      (names_none W (replace c.vars (spent v)) (replace c.vars (spent v)) w (alone w le) (shares w (st.shared w (part_owner w le))))))
      (beside w le)

  pub part_may_change : (t : Ty) → part_type v.ty.classical v.ty.shape zs ≡ Some t → is_in_condition held (part_at x zs) ≡ false → NoneNames (among (wires_in (part_of v.ty.shape zs (W v.place)))) s.values
      → MayChange (wires_in (part_of v.ty.shape zs (W v.place))) s (without_part x zs (bits_for W v) s)
  part_may_change t kind loose lower = record {
    targets = all_targets s.built.draft ws (each_named (IsTarget s.built.draft) its_bits (λ w le. st.free w (part_owner w le)));
    distinct = times_distinct its_bits (λ w. let k = its_times w in let r = rest w in let i = st.one w in omega (arith, k, r, i));
    condition = condition_spares (wires_so_far s) out.guarded ws s.setting.condition unguarded st.guards g.condition;
    spared = record {
      env = env_each (among ws) (in_its_block s.env x (Lent (part_start v.ty.shape zs) (shape_bits (part_shape v.ty.shape zs)) (bits_for W v))) (λ w q. env_spares w (among_times w its_bits q));
      values = all_each (λ w k. names k w ≡ false) (among ws) s.values lower;
      callers = callers_each (among ws) s.callers (λ w q. st.callers w (part_owner w (among_times w its_bits q)));
    };
  }
    where
      ws : List WireId
      ws = wires_in (part_of v.ty.shape zs (W v.place))

      unguarded : AllOf (λ w. out.guarded w ≡ false) (wires_in (part_of v.ty.shape zs (W v.place)))
      unguarded = found_all (SparesGuarded out.guarded held W) c.vars (variable x) v e st.spares has zs t kind (ap (λ (p : Part). is_in_condition held (part_at p.name zs)) (found_there c.vars x v e) ∙ loose)

  -- what its use would consume is its wires
  pub part_consumes : indices (part_at x zs) ≡ zs → (w : WireId) → consumed_wires W c.vars (use_at (part_at x zs) ∷ []) w ≡ among (wires_in (part_of v.ty.shape zs (W v.place))) w
  part_consumes exact w =
      ap (λ n. (true && wires_for W (find_var c.vars (variable n)) (part_at x zs) w) || false) (name_of_part x zs)
      ∙ (ap (λ r. (true && wires_for W r (part_at x zs) w) || false) e
      ∙ (ap (λ l. (true && among (wires_in (part_of v.ty.shape l (W v.place))) w) || false) exact ∙ or_none (among (wires_in (part_of v.ty.shape zs (W v.place))) w)))
    where
      or_none : (b : Bool) → (b || false) ≡ b
      or_none true = refl
      or_none false = refl
