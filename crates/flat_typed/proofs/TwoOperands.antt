-- An operator on two values that lie on the stack together; a static one takes the type of the other.
use Rattle.std.proofs.Common.{◌≡◌, ◌⊎◌, inl, inr, ℕ, suc, ◌≤◌, ◌<◌, Bool, true, false, cond, not, ◌&&◌, List, [], ◌∷◌, ◌++◌, drop, ℤ, refl, sym, ap, ap₂, ◌∙◌, subst, arith}
use Rattle.std.proofs.lemmas.Bool.{cases_lt}
use Rattle.silq_tree.specs.declared.node.BinaryOp.{BinaryOp}
use Rattle.silq_tree.specs.declared.node.BinaryOp.TheVariants.{Or, And, Eq, Ne, Lt, Le, Gt, Ge, Add, Sub, Mul, Div}
use Rattle.silq_types.specs.declared.types.Scalar.{Scalar}
use Rattle.silq_types.specs.declared.types.Scalar.TheVariants as scalars
use Rattle.silq_types.specs.declared.types.Shape.{Shape}
use Rattle.silq_types.specs.declared.types.Shape.TheVariants.{Bit, UInt, Int, Array}
use Rattle.silq_types.specs.declared.types.Ty.{Ty}
use Rattle.silq_types.specs.declared.values.Value.{Value}
use Rattle.silq_types.specs.Types.{single_shape, is_bit, is_number, is_scalar, fits}
use Rattle.silq_types.specs.declared.need.Need.{Need}
use Rattle.silq_types.specs.declared.need.Need.TheVariants as needs
use Rattle.silq_mean.specs.Effect.{Effect, step, two_operands, ◌>>◌}
use Rattle.check_scope.specs.declared.uses.Use.{Use}
use Rattle.check_scope.specs.Context.{Scope, Context}
use Rattle.check_expr.specs.Expression.{origin_of, binary_fits, binary_shape}
use Rattle.flat_core.specs.declared.step.WireId.{WireId}
use Rattle.flat_core.specs.declared.step.End.TheVariants.{Dropped}
use Rattle.flat_core.specs.Label.{wire_in}
use Rattle.flat_core.specs.Drafts.{is_measured}
use Rattle.bit_arith.specs.Calls.{Targets}
use Rattle.flat_form.specs.declared.known.TypedBits.{TypedBits}
use Rattle.flat_form.specs.declared.known.Known.{Known}
use Rattle.flat_form.specs.declared.known.Known.TheVariants.{Static, Shown}
use Rattle.flat_form.specs.State.{Flattening, first, drop_last, wires_so_far}
use Rattle.flat_form.specs.Flat.{by_two, shape_by, as_operand, began_at, on_two, on_two_typed, flat, flat_step}
use Rattle.flat_form.specs.Fine.{FitsTwo, IsOf, MayJoin}
use Rattle.flat_form.specs.Names.{AllOf}
use Rattle.flat_form.specs.Good.{Good}
use Rattle.flat_form.proofs.Goods.{good_flat}
use Rattle.flat_typed.specs.Places.{Places, times_in, owners_of}
use Rattle.flat_typed.specs.Footprint.{used_wires, consumed_wires}
use Rattle.flat_typed.specs.Relation.{Outside, Stands}
use Rattle.flat_typed.specs.Done.{ExprDone, ExprTells, kinds}
use Rattle.flat_typed.proofs.Ordered.{clash}
use Rattle.flat_typed.proofs.Touching.{flips_by_two}
use Rattle.flat_typed.proofs.Variables.{stands_vars}
use Rattle.flat_typed.proofs.Receiving.{bits_of, consts_none}
use Rattle.flat_typed.proofs.Answering.{IsFrom, two_answers}
use Rattle.flat_typed.proofs.Operating.{GivesTold, Sourced, EffectDone, told_borrowed, shows_then}
use Rattle.flat_typed.proofs.Unary.{unheld_origin, lifted_origin, is_one_bit}

-- ---- types

scalar_of_number : (s : Shape) → is_number s ≡ true → is_scalar s ≡ true
scalar_of_number Bit e = clash (sym e)
scalar_of_number (UInt w) e = refl
scalar_of_number (Int w) e = refl
scalar_of_number (Array k w) e = clash (sym e)

fits_two : (op : BinaryOp) (s : Shape) → binary_fits op s ≡ true → FitsTwo op s
fits_two Or s e = is_one_bit s e
fits_two And s e = is_one_bit s e
fits_two Eq s e = e
fits_two Ne s e = e
fits_two Lt s e = scalar_of_number s e
fits_two Le s e = scalar_of_number s e
fits_two Gt s e = scalar_of_number s e
fits_two Ge s e = scalar_of_number s e
fits_two Add s e = scalar_of_number s e
fits_two Sub s e = scalar_of_number s e
fits_two Mul s e = scalar_of_number s e
fits_two Div s e = clash (sym e)

shape_two : (op : BinaryOp) (s : Shape) → shape_by op s ≡ binary_shape op s
shape_two Or s = refl
shape_two And s = refl
shape_two Eq s = refl
shape_two Ne s = refl
shape_two Lt s = refl
shape_two Le s = refl
shape_two Gt s = refl
shape_two Ge s = refl
shape_two Add s = refl
shape_two Sub s = refl
shape_two Mul s = refl
shape_two Div s = refl

-- a static operand beside one of a type
pub record StaticOperand (u : TypedBits) (z : ℤ) : Type 0 where
  pub scalar : Scalar
  pub is : as_operand (Shown u) (Static z) ≡ Shown (record (bits_of 0 scalar z) { classical = u.classical })
  pub shape : single_shape scalar ≡ u.shape

takes_from : (u : TypedBits) (z : ℤ) (t : Shape) → fits t z ≡ true → StaticOperand (record u { shape = t }) z
takes_from u z Bit e = record { scalar = scalars.Bit; is = refl; shape = refl }
takes_from u z (UInt w) e = record { scalar = scalars.UInt w; is = refl; shape = refl }
takes_from u z (Int w) e = record { scalar = scalars.Int w; is = refl; shape = refl }
takes_from u z (Array k w) e = clash (sym e)

pub static_operand : (u : TypedBits) (z : ℤ) → fits u.shape z ≡ true → StaticOperand u z
static_operand u z e = takes_from u z u.shape e

-- ---- the step

-- what holds of the wires of an operand
pub record Ready (U : Places) (used : Targets) (n : ℕ) (under : List Value) (c : Context) (s : Flattening) (classical : Bool) (u : TypedBits) : Type 0 where
  pub there : (w : WireId) → 1 ≤ times_in w u.operands → w.number < wires_so_far s
  pub within : (w : WireId) → 1 ≤ times_in w u.operands → (used w ≡ true) ⊎ (n ≤ w.number)
  pub shares : classical ≡ true → (w : WireId) → 1 ≤ times_in w u.operands → 1 ≤ owners_of U c.vars under w → ⊥
  pub dropped : (w : WireId) → 1 ≤ times_in w u.operands → n ≤ w.number → is_measured s.built.draft.steps w ≡ false → (wire_in s.built.draft.wires w).ending ≡ Dropped

-- constants have no wires
pub ready_none : (U : Places) (used : Targets) (n : ℕ) (under : List Value) (c : Context) (s : Flattening) (classical : Bool) (u : TypedBits) → ((w : WireId) → times_in w u.operands ≡ 0) → Ready U used n under c s classical u
ready_none U used n under c s classical u none = record {
  there = λ w le. let z = none w in absurd (omega (arith, z, le));
  within = λ w le. let z = none w in absurd (omega (arith, z, le));
  shares = λ e w le. let z = none w in absurd (omega (arith, z, le));
  dropped = λ w le. let z = none w in absurd (omega (arith, z, le));
}

module _ (op : BinaryOp) (out : Outside) (sc : Scope) (need : Need) (wants : List Ty) (E : Effect) (W : Places) (under : List Value) (us : List Use) (c : Context) (s : Flattening) (x y : Value) (d : Context) (o : EffectDone out sc E W us c s d)
    (good : Good s) (before : Context) (same : before.vars ≡ d.vars) (grown : c.next ≤ before.next) (ok : binary_fits op x.ty.shape ≡ true) where
  abbrev pub joined_value : Value
  joined_value = record { ty = record { classical = x.ty.classical && y.ty.classical; shape = binary_shape op x.ty.shape }; origin = origin_of (x.ty.classical && y.ty.classical); place = before.next }

  abbrev pub behind : Context
  behind = record before { next = suc before.next }

  abbrev used : Targets
  used = used_wires W c.vars us

  abbrev s2 : Flattening
  s2 = flat E s

  abbrev IsReady : TypedBits → Type 0
  IsReady u = Ready o.after used (wires_so_far s) under behind s2 (x.ty.classical && y.ty.classical) u

  abbrev Told : Flattening → Type 0
  Told e = GivesTold out sc.held o.after need used (consumed_wires W c.vars us) (wires_so_far s) c.next under behind s2 (drop 1 (drop 1 s2.values)) joined_value e

  module _ (k l : Known) (values : s2.values ≡ l ∷ (k ∷ s.values)) (stands : Stands out sc.held o.after under d s2) (u w : TypedBits) (left : as_operand l k ≡ Shown u) (right : as_operand k l ≡ Shown w) (first_shape : u.shape ≡ x.ty.shape) (alike : u.shape ≡ w.shape)
      (class : (u.classical && w.classical) ≡ (x.ty.classical && y.ty.classical)) (began : wires_so_far s ≤ began_at k l) (ru : IsReady u) (rw' : IsReady w) where
    first_is : first (drop 1 s2.values) ≡ k
    first_is = ap (λ r. first (drop 1 r)) values

    last_is : first s2.values ≡ l
    last_is = ap first values

    fine : MayJoin op (first (drop 1 s2.values)) (first s2.values)
    fine =
        subst (λ r. MayJoin op r (first s2.values)) (sym first_is) (subst (MayJoin op k) (sym last_is)
        (subst (IsOf (λ v. IsOf (λ t. (v.shape ≡ t.shape) × FitsTwo op v.shape) (as_operand k l))) (sym left)
        (subst (IsOf (λ t. (u.shape ≡ t.shape) × FitsTwo op u.shape)) (sym right) (alike, subst (FitsTwo op) (sym first_shape) (fits_two op x.ty.shape ok)))))

    abbrev rest : Flattening
    rest = drop_last (drop_last s2)

    abbrev Of : WireId → Type 0
    Of v = (1 ≤ times_in v u.operands) ⊎ (1 ≤ times_in v w.operands)

    from : (v : WireId) → IsFrom u.operands w.operands (wires_so_far s2) v → Of v ⊎ (wires_so_far s2 ≤ v.number)
    from v (inl h) = inl (inl h)
    from v (inr (inl h)) = inl (inr h)
    from v (inr (inr h)) = inr h

    source : Sourced o.after used (wires_so_far s) under behind s2 (x.ty.classical && y.ty.classical) (by_two op u.shape s2.setting u.operands w.operands s2.built) Of
    source = record {
      flips = λ T n le. flips_by_two T n op u.shape s2.setting u.operands w.operands s2.built le;
      from = λ v le. from v ((two_answers op u.shape s2.setting u.operands w.operands s2.built).from v le);
      once = λ v le. (two_answers op u.shape s2.setting u.operands w.operands s2.built).once v;
      there = λ v. there v;
      within = λ v. within v;
      shares = λ e v. shares e v;
      dropped = λ v. dropped v;
    }
      where
        there : (v : WireId) → Of v → v.number < wires_so_far s2
        there v (inl h) = ru.there v h
        there v (inr h) = rw'.there v h

        within : (v : WireId) → Of v → (used v ≡ true) ⊎ (wires_so_far s ≤ v.number)
        within v (inl h) = ru.within v h
        within v (inr h) = rw'.within v h

        shares : (x.ty.classical && y.ty.classical) ≡ true → (v : WireId) → Of v → 1 ≤ owners_of o.after behind.vars under v → ⊥
        shares e v (inl h) = ru.shares e v h
        shares e v (inr h) = rw'.shares e v h

        dropped : (v : WireId) → Of v → wires_so_far s ≤ v.number → is_measured s2.built.draft.steps v ≡ false → (wire_in s2.built.draft.wires v).ending ≡ Dropped
        dropped v (inl h) = ru.dropped v h
        dropped v (inr h) = rw'.dropped v h

    told : Told (flat_step (two_operands op) s2)
    told =
        subst (λ r. Good (on_two op r (first s2.values) rest) → Told (on_two op r (first s2.values) rest)) (sym first_is)
        (subst (λ r. Good (on_two op k r rest) → Told (on_two op k r rest)) (sym last_is)
        (subst (λ r. Good (on_two_typed op (began_at k l) r (as_operand k l) rest) → Told (on_two_typed op (began_at k l) r (as_operand k l) rest)) (sym left)
        (subst (λ r. Good (on_two_typed op (began_at k l) (Shown u) r rest) → Told (on_two_typed op (began_at k l) (Shown u) r rest)) (sym right)
        (λ g. told_borrowed out sc.held o.after need used (consumed_wires W c.vars us) (wires_so_far s) c.next under behind s2 (drop 1 (drop 1 s2.values)) joined_value
        (u.classical && w.classical) (shape_by op u.shape) (began_at k l) (by_two op u.shape s2.setting u.operands w.operands s2.built) Of
        (record { class = class; shape = ap (shape_by op) first_shape ∙ shape_two op x.ty.shape; unheld = unheld_origin (x.ty.classical && y.ty.classical); lifted = lifted_origin (x.ty.classical && y.ty.classical); place = grown })
        began o.touches.grown good2 source (stands_vars out sc.held o.after under d behind s2 same stands) g))))
        (good_flat (step (two_operands op)) s2 good2 fine)
      where
        good2 : Good s2
        good2 = good_flat E s good o.fine

    pub joins : ExprTells out sc need wants (E >> step (two_operands op)) W under us c s (joined_value ∷ []) behind
    joins =
        shows_then out sc need wants E W under us c s d o (step (two_operands op)) o.after joined_value behind (λ p l. refl) fine (ap kinds same)
        (subst (λ r. GivesTold out sc.held o.after need used (consumed_wires W c.vars us) (wires_so_far s) c.next under behind s2 r joined_value (flat_step (two_operands op) s2)) (ap (λ r. drop 1 (drop 1 r)) values) told)
