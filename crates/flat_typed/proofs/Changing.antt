-- A variable that a statement changes or ends: what shows it, and that its wires may be changed.
use Rattle.std.proofs.Common.{◌≡◌, Bool, true, false, cond, not, ◌&&◌, ◌||◌, List, [], ◌∷◌, refl, sym, ap, ap₂, ◌∙◌, subst}
use Rattle.std.specs.Prelude.{Option, Some, None, ◌==◌}
use Rattle.std.proofs.lemmas.Bool.{eqb-true}
use Rattle.silq_tree.specs.declared.node.NameId.{NameId}
use Rattle.silq_types.specs.declared.types.Scalar.{Scalar}
use Rattle.silq_types.specs.declared.types.Scalar.TheVariants as scalars
use Rattle.silq_types.specs.declared.types.Shape.{Shape}
use Rattle.silq_types.specs.declared.types.Shape.TheVariants.{Bit, UInt, Int, Array}
use Rattle.silq_types.specs.declared.types.Ty.{Ty}
use Rattle.silq_types.specs.declared.values.Part.{Part}
use Rattle.silq_types.specs.declared.values.Var.{Var}
use Rattle.silq_types.specs.declared.need.Need.{Need}
use Rattle.silq_types.specs.declared.need.Need.TheVariants as needs
use Rattle.silq_types.specs.Types.{fits, shape_eq, scalar_eq, same_name}
use Rattle.silq_types.specs.Calls.{is_consumed}
use Rattle.check_scope.specs.declared.uses.Use.{Use}
use Rattle.check_scope.specs.Context.{Context, indices, variable, part_at, find_var, replace, same_part, overlaps, is_prefix, is_in_condition}
use Rattle.check_scope.specs.Places.{disturbs}
use Rattle.check_scope.specs.Uses.{meets, clash as clashes, both_consume, consume_and_hold}
use Rattle.check_fun.specs.Statement.{passes, consumed_there}
use Rattle.silq_mean.specs.Env.{in_its_block}
use Rattle.flat_core.specs.declared.step.WireId.{WireId}
use Rattle.bit_arith.specs.Calls.{among}
use Rattle.flat_form.specs.declared.known.Known.{Known}
use Rattle.flat_form.specs.declared.known.Known.TheVariants.{Static, Shown, Lent, Absent}
use Rattle.flat_form.specs.State.{Flattening, push, drop_last, wires_so_far, typed_as, wires_in}
use Rattle.flat_form.specs.Flat.{known_in, without_name}
use Rattle.flat_form.specs.Fine.{MayChange, IsOf}
use Rattle.flat_form.specs.Good.{Good, IsKnown, IsOwned, IsShown}
use Rattle.flat_form.specs.Names.{AllOf, AllKnown}
use Rattle.flat_form.proofs.Kept.{found_all as found_known, its_all, known_its}
use Rattle.flat_typed.specs.Places.{Places, is_part, is_shared, has_wires, part_out, less_part, bits_for}
use Rattle.flat_typed.specs.Footprint.{wires_for, consumed_wires, NoneNames}
use Rattle.flat_typed.specs.Relation.{Outside, Stands, FitsPart, OfType}
use Rattle.flat_typed.specs.Uses.{IsThere}
use Rattle.flat_typed.proofs.Ordered.{clash}
use Rattle.flat_typed.proofs.Parts.{shows_its_place, some_same}
use Rattle.flat_typed.proofs.Moving.{spent, handed_on, stands_moved, whole_of}
use Rattle.flat_typed.proofs.Owning.{value_may_change}
use Rattle.flat_typed.proofs.Uses.{NotOf}
use Rattle.flat_typed.proofs.Footprints.{overlaps_swap}
use Rattle.flat_typed.proofs.Tame.{Left, AllLeft, FindLeft, find_left}

-- ---- shapes

same_scalar : (a b : Scalar) → scalar_eq a b ≡ true → a ≡ b
same_scalar scalars.Bit scalars.Bit e = refl
same_scalar scalars.Bit (scalars.UInt m) e = clash (sym e)
same_scalar scalars.Bit (scalars.Int m) e = clash (sym e)
same_scalar (scalars.UInt n) scalars.Bit e = clash (sym e)
same_scalar (scalars.UInt n) (scalars.UInt m) e = ap (λ k. scalars.UInt k) (eqb-true n m e)
same_scalar (scalars.UInt n) (scalars.Int m) e = clash (sym e)
same_scalar (scalars.Int n) scalars.Bit e = clash (sym e)
same_scalar (scalars.Int n) (scalars.UInt m) e = clash (sym e)
same_scalar (scalars.Int n) (scalars.Int m) e = ap (λ k. scalars.Int k) (eqb-true n m e)

both_true : (a b : Bool) → (a && b) ≡ true → (a ≡ true) × (b ≡ true)
both_true true b e = (refl, e)
both_true false b e = clash (sym e)

pub same_shape : (a b : Shape) → shape_eq a b ≡ true → a ≡ b
same_shape Bit Bit e = refl
same_shape Bit (UInt m) e = clash (sym e)
same_shape Bit (Int m) e = clash (sym e)
same_shape Bit (Array k m) e = clash (sym e)
same_shape (UInt n) Bit e = clash (sym e)
same_shape (UInt n) (UInt m) e = ap (λ k. UInt k) (eqb-true n m e)
same_shape (UInt n) (Int m) e = clash (sym e)
same_shape (UInt n) (Array k m) e = clash (sym e)
same_shape (Int n) Bit e = clash (sym e)
same_shape (Int n) (UInt m) e = clash (sym e)
same_shape (Int n) (Int m) e = ap (λ k. Int k) (eqb-true n m e)
same_shape (Int n) (Array k m) e = clash (sym e)
same_shape (Array a n) Bit e = clash (sym e)
same_shape (Array a n) (UInt m) e = clash (sym e)
same_shape (Array a n) (Int m) e = clash (sym e)
same_shape (Array a n) (Array b m) e = let q = both_true (scalar_eq a b) (n == m) e in ap₂ (λ k l. Array k l) (same_scalar a b q.0) (eqb-true n m q.1)

-- a value of a type takes its shape
pub takes_shape : (t : Ty) (s : Shape) (k : Known) → OfType t k → s ≡ t.shape → IsOf (λ w. w.shape ≡ s) (typed_as 0 s k)
takes_shape t Bit (Static z) o e = refl
takes_shape t (UInt n) (Static z) o e = refl
takes_shape t (Int n) (Static z) o e = refl
takes_shape t (Array k n) (Static z) o e = clash (sym o ∙ ap (λ s. fits s z) (sym e))
takes_shape t Bit (Shown u) o e = o.0 ∙ sym e
takes_shape t (UInt n) (Shown u) o e = o.0 ∙ sym e
takes_shape t (Int n) (Shown u) o e = o.0 ∙ sym e
takes_shape t (Array k n) (Shown u) o e = o.0 ∙ sym e
takes_shape t s (Lent a b u) o e = absurd o
takes_shape t s Absent o e = absurd o

-- ---- behind an expression

var_same : (v w : Var) → Left v w → v.consumed ≡ false → w.consumed ≡ false → w ≡ v
var_same v w l e f =
    ap (λ p. record { part = p; ty = w.ty; origin = w.origin; place = w.place; consumed = w.consumed }) l.part
    ∙ (ap (λ t. record { part = v.part; ty = t; origin = w.origin; place = w.place; consumed = w.consumed }) l.ty
    ∙ (ap (λ o. record { part = v.part; ty = v.ty; origin = o; place = w.place; consumed = w.consumed }) l.origin
    ∙ (ap (λ p. record { part = v.part; ty = v.ty; origin = v.origin; place = p; consumed = w.consumed }) l.place
    ∙ ap (λ b. record { part = v.part; ty = v.ty; origin = v.origin; place = v.place; consumed = b }) (f ∙ sym e))))

-- a variable that the expression did not consume is the one that was there
pub still_there : (vs ws : List Var) (p : Part) (v : Var) → AllLeft vs ws → find_var vs p ≡ Some v → v.consumed ≡ false → consumed_there ws p ≡ false → find_var ws p ≡ Some v
still_there vs ws p v l e live n = go (find_var ws p) refl (subst (λ o. FindLeft o (find_var ws p)) e (find_left vs ws p l)) n
  where
    go : (o : Option Var) → find_var ws p ≡ o → FindLeft (Some v) o → passes (λ (u : Var). u.consumed) o ≡ false → find_var ws p ≡ Some v
    go None q f n = absurd f
    go (Some w) q f n = q ∙ ap (λ (u : Var). Some u) (var_same v w f live n)

-- ---- what the expression names

-- the variable, as if it were used so that it is consumed
abbrev pub use_of : NameId → Use
use_of x = record { part = variable x; need = needs.Consumed }

none_meets : (x : NameId) (wanted : Bool) (p : Part) → same_name p.name x ≡ false → ((wanted && overlaps p (variable x)) || false) ≡ false
none_meets x true p e = ap (λ t. (t && (is_prefix (indices p) [] || true)) || false) e
none_meets x false p e = refl

clash_one : (wanted : Need → Bool) (x : NameId) (us : List Use) → AllOf (NotOf x) us → clashes wanted us (use_of x ∷ []) ≡ false
clash_one wanted x [] h = refl
clash_one wanted x (u ∷ us) h =
    ap₂ (λ a b. a || b) (go (is_consumed u.need) (none_meets x (wanted needs.Consumed) u.part h.0)) (clash_one wanted x us h.1)
  where
    go : (t : Bool) {b : Bool} → b ≡ false → (t && b) ≡ false
    go true e = e
    go false e = refl

meets_none : (wanted : Need → Bool) (x : NameId) (us : List Use) → AllOf (NotOf x) us → meets wanted (variable x) us ≡ false
meets_none wanted x [] h = refl
meets_none wanted x (u ∷ us) h =
    ap₂ (λ a b. a || b) (go (wanted u.need) (overlaps_swap (variable x) u.part ∙ ap (λ t. t && (is_prefix (indices u.part) [] || true)) h.0)) (meets_none wanted x us h.1)
  where
    go : (t : Bool) {b : Bool} → b ≡ false → (t && b) ≡ false
    go true e = e
    go false e = refl

pub apart_consume : (x : NameId) (us : List Use) → AllOf (NotOf x) us → both_consume us (use_of x ∷ []) ≡ false
apart_consume x us h = clash_one is_consumed x us h

pub apart_hold : (x : NameId) (us : List Use) → AllOf (NotOf x) us → consume_and_hold us (use_of x ∷ []) ≡ false
apart_hold x us h =
    ap₂ (λ a b. a || b) (clash_one (λ n. not (is_consumed n)) x us h) (ap (λ t. t || false) (meets_none (λ n. not (is_consumed n)) x us h))

-- without parts that were taken out nothing is disturbed
pub undisturbed : (vs : List Var) (p : Part) → AllOf (λ v. is_part v ≡ false) vs → disturbs vs p ≡ false
undisturbed [] p h = refl
undisturbed (v ∷ vs) p h = ap₂ (λ a b. (a && not (same_part v.part p) && overlaps v.part p) || b) h.0 (undisturbed vs p h.1)

pub var_there : (held : List (List Part)) (vs : List Var) (x : NameId) (v : Var) → find_var vs (variable x) ≡ Some v → v.consumed ≡ false → is_shared v ≡ false → is_in_condition held (variable x) ≡ false → AllOf (λ u. is_part u ≡ false) vs
    → IsThere held vs (use_of x)
var_there held vs x v e live own loose whole = record {
  owner = v;
  found = e;
  live = live;
  kind = (v.ty, refl);
  clear = undisturbed vs (variable x) whole;
  here = λ w f. ap (λ (u : Var). u.consumed) (some_same w v (sym f ∙ e)) ∙ live;
  own = λ c. own;
  loose = λ c. loose;
}

-- ---- its wires

module _ (out : Outside) (held : List (List Part)) (W : Places) (c : Context) (s : Flattening) (x : NameId) (v : Var) (g : Good s) (st : Stands out held W [] c s) (e : find_var c.vars (variable x) ≡ Some v) (o : part_out c.vars v.part.name ≡ None) (live : v.consumed ≡ false) where
  pub shows_bits : known_in s x ≡ Shown (bits_for W v)
  shows_bits =
      shows_its_place W c.vars s x v st.env st.differ e
      ∙ (ap (λ t. cond t Absent (less_part (part_out c.vars v.part.name) (bits_for W v))) live ∙ ap (λ r. less_part r (bits_for W v)) o)

  pub good_bits : IsShown (wires_so_far s) (bits_for W v)
  good_bits = subst (IsKnown (wires_so_far s)) shows_bits (found_known (IsKnown (wires_so_far s)) Absent s.env x tt g.known.env)

  -- its wires may be changed, where no value under way names them
  pub var_may_change : has_wires v ≡ true → is_in_condition held (part_at x []) ≡ false → AllOf (FitsPart W (replace c.vars (spent v))) (replace c.vars (spent v)) → NoneNames (among (wires_in (W v.place))) s.values
      → MayChange (wires_in (W v.place)) s (without_name x s)
  var_may_change has loose fit lower = record { targets = m.targets; distinct = m.distinct; condition = m.condition; spared = m.spared }
    where
      moved : Flattening
      moved = push Absent (record s { env = in_its_block s.env x Absent })

      k : AllKnown (IsKnown (wires_so_far s)) (record s { env = in_its_block s.env x Absent })
      k = known_its (IsKnown (wires_so_far s)) x Absent s tt g.known

      good : Good (push Absent (record s { env = in_its_block s.env x Absent }))
      good = record {
        fresh = g.fresh;
        known = record { env = k.env; values = (tt, k.values); callers = k.callers };
        condition = g.condition;
        read = g.read;
        owned = record { env = its_all IsOwned s.env x Absent tt g.owned.env; callers = g.owned.callers };
      }

      m : MayChange (wires_in (W v.place)) (push Absent (record s { env = in_its_block s.env x Absent })) (drop_last (push Absent (record s { env = in_its_block s.env x Absent })))
      m =
          value_may_change out held W (handed_on v) [] (record c { vars = replace c.vars (spent v) }) moved good
          (stands_moved out held W [] c s x v Absent st e o has live good_bits.size loose fit) lower

  -- what its use would consume is its wires
  pub use_consumes : (w : WireId) → consumed_wires W c.vars (use_of x ∷ []) w ≡ among (wires_in (W v.place)) w
  use_consumes w =
      ap (λ r. (true && wires_for W r (variable x) w) || false) e
      ∙ (ap (λ l. (true && among (wires_in l) w) || false) (whole_of v.ty.shape (W v.place) good_bits.size) ∙ or_none (among (wires_in (W v.place)) w))
    where
      or_none : (b : Bool) → (b || false) ≡ b
      or_none true = refl
      or_none false = refl
