-- The last two steps of an assignment to a part: its value is taken over, and stands in its variable again.
use Rattle.std.proofs.Common.{◌≡◌, ℕ, ◌+◌, ◌≤◌, true, false, cond, ◌||◌, List, [], ◌∷◌, length, drop, ℤ, refl, sym, ap, ◌∙◌, subst}
use Rattle.silq_tree.specs.declared.node.NameId.{NameId}
use Rattle.silq_types.specs.Types.{shape_bits}
use Rattle.silq_mean.specs.Written.{is_empty}
use Rattle.silq_mean.specs.Env.{bound}
use Rattle.silq_mean.specs.Effect.{receive, assign_to}
use Rattle.silq_mean.specs.declared.receiver.Receiver.TheVariants.{Variable}
use Rattle.bit_arith.specs.declared.operand.Operand.{Operand}
use Rattle.flat_form.specs.declared.known.TypedBits.{TypedBits}
use Rattle.flat_form.specs.declared.known.Known.{Known}
use Rattle.flat_form.specs.declared.known.Known.TheVariants.{Shown, Lent}
use Rattle.flat_form.specs.State.{Flattening, first, last, drop_last, wires_so_far, part_shape, part_start, with_part, operands_of, as_they_are, copied, taken, kept, are_new}
use Rattle.flat_form.specs.Flat.{flat_step, known_in, receive_value, give, bind, assigned, shape_for}
use Rattle.flat_form.specs.Fine.{IsAny, MayAssign, IsLent, FitsIndex, IndexFits, FineStep}
use Rattle.flat_typed.proofs.Ordered.{clash}

-- ---- a part has an index

assigned_lent : (is : List ℤ) (a b : ℕ) (v : TypedBits) (k : Known) → is_empty is ≡ false → assigned is (Lent a b v) k ≡ Shown (record v { operands = with_part v.shape is v.operands (operands_of k) })
assigned_lent [] a b v k e = clash e
assigned_lent (i ∷ is) a b v k e = refl

may_lent : (x : NameId) (is : List ℤ) (s : Flattening) → is_empty is ≡ false → IsLent is (known_in s x) (last s) → MayAssign x is s
may_lent x [] s e h = clash e
may_lent x (i ∷ is) s e h = h

-- ---- the steps

module _ (s : Flattening) (x : NameId) (is : List ℤ) (u bits : TypedBits) (values : s.values ≡ Shown u ∷ []) (own : u.own ≡ true) (quantum : u.classical ≡ false) (indexed : is_empty is ≡ false)
    (lent : known_in s x ≡ Lent (part_start bits.shape is) (shape_bits (part_shape bits.shape is)) bits) where
  abbrev owned : Known
  owned = Shown (record { classical = u.classical; shape = u.shape; operands = u.operands; own = true; began = u.began })

  abbrev behind : Flattening
  behind = record s { values = owned ∷ [] }

  abbrev empty : Flattening
  empty = record s { values = [] }

  received : flat_step (receive Variable) s ≡ behind
  received =
      ap (λ (l : List Known). receive_value Variable (first l) (record s { values = drop 1 l })) values
      ∙ (ap (λ t. give u.classical u.shape true u.began (cond t (kept s.setting u s.built) (taken s.setting u s.built)) empty) quantum
      ∙ ap (λ t. give u.classical u.shape true u.began (cond (t || are_new s.built.draft u.began u.operands) (as_they_are u.operands s.built) (copied s.setting u.operands s.built)) empty) own)

  pub may_receive : FineStep (receive Variable) s
  may_receive = subst (λ (l : List Known). IsAny (shape_for Variable (wires_so_far s) (first l))) (sym values) tt

  module _ (whole : with_part bits.shape is bits.operands u.operands ≡ bits.operands) (unbegun : bits.began ≡ 0) where
    abbrev with_it : List Operand → ℕ → Flattening
    with_it ps n = record s { env = bound s.env x (Shown (record bits { operands = ps; began = n })); values = [] }

    -- the name shows what it showed
    pub becomes : flat_step (assign_to x is) (flat_step (receive Variable) s) ≡ record s { env = bound s.env x (Shown bits); values = [] }
    becomes =
        ap (flat_step (assign_to x is)) received
        ∙ (ap (λ k. bind x (assigned is k owned) (drop_last behind)) lent
        ∙ (ap (λ k. bind x k (drop_last behind)) (assigned_lent is (part_start bits.shape is) (shape_bits (part_shape bits.shape is)) bits owned indexed)
        ∙ (ap (λ ps. with_it ps 0) whole ∙ ap (λ n. with_it bits.operands n) (sym unbegun))))

  pub may_assign : part_start bits.shape is + shape_bits (part_shape bits.shape is) ≤ length bits.operands → bits.own ≡ true → u.shape ≡ part_shape bits.shape is → IndexFits bits.shape is
      → FineStep (assign_to x is) (flat_step (receive Variable) s)
  may_assign there its_own shape fits =
      subst (λ t. FineStep (assign_to x is) t) (sym received) (
        may_lent x is behind indexed (subst (λ k. IsLent is k owned) (sym lent) (record { starts = refl; sizes = refl; there = there; own = its_own; value = (refl, shape) })),
        subst (FitsIndex is) (sym lent) fits,
      )
