-- Operands of operators.
use Rattle.std.proofs.Common.{◌≡◌, ℕ, zero, suc, false, List, [], ◌∷◌, ◌++◌, length, replicate, drop, refl, sym, ap, ◌∙◌, subst}
use Rattle.silq_tree.specs.declared.node.BinaryOp.{BinaryOp}
use Rattle.silq_types.specs.Types.{shape_bits}
use Rattle.bit_arith.specs.declared.operand.Operand.{Operand}
use Rattle.bit_arith.specs.declared.operand.Operand.TheVariants.{Const}
use Rattle.bit_arith.specs.Built.{Setting, under}
use Rattle.bit_arith.specs.Calls.{Targets, no_target, AllSafe}
use Rattle.bit_arith.proofs.Grows.{all_safe_append, all_safe_front, all_safe_back}
use Rattle.bit_arith.proofs.Safe.{condition_safe, operands_safe, under_safe}
use Rattle.flat_form.specs.declared.known.Known.{Known}
use Rattle.flat_form.specs.declared.known.Known.TheVariants.{Static, Shown, Lent, Absent}
use Rattle.flat_form.specs.State.{Flattening, first, last, drop_last, only_operand}
use Rattle.flat_form.specs.Flat.{as_operand, began_at, on_two, on_two_typed}
use Rattle.flat_form.specs.Names.{AllOf}
use Rattle.flat_form.specs.Good.{Good, IsKnown}
use Rattle.flat_form.specs.Fine.{IsOf, FitsTwo, MayJoin}
use Rattle.flat_form.proofs.Giving.{only_safe, as_operand_known}
use Rattle.flat_steps.specs.Joins.{CanJoin}

pub swap_safe : (n : ℕ) (T : Targets) (at : Setting) (ps qs : List Operand) → AllSafe n T (under at (ps ++ qs)) → AllSafe n T (under at (qs ++ ps))
swap_safe n T at ps qs s =
    let all : AllSafe n T (ps ++ qs) = operands_safe n T at (ps ++ qs) s in
    under_safe n T at (qs ++ ps) (condition_safe n T at (ps ++ qs) s) (all_safe_append n T qs ps (all_safe_back n T ps qs all) (all_safe_front n T ps qs all))

-- the first operand of each
pub two_bits : (n : ℕ) (at : Setting) (ps qs : List Operand) (p q : Operand) → p ≡ only_operand ps → q ≡ only_operand qs → AllSafe n no_target (under at (ps ++ qs)) → AllSafe n no_target (under at (p ∷ q ∷ []))
two_bits n at ps qs p q e f s =
    let all : AllSafe n no_target (ps ++ qs) = operands_safe n no_target at (ps ++ qs) s in
    under_safe n no_target at (p ∷ q ∷ []) (condition_safe n no_target at (ps ++ qs) s)
    (rw e (only_safe n no_target ps (all_safe_front n no_target ps qs all)), (rw f (only_safe n no_target qs (all_safe_back n no_target ps qs all)), tt))

zeros_there : (n k : ℕ) → AllSafe n no_target (replicate k (Const false))
zeros_there n zero = tt
zeros_there n (suc k) = (tt, zeros_there n k)

-- zeros in front of a number
pub zeros_safe : (n k : ℕ) (at : Setting) (zs ps : List Operand) → zs ≡ replicate k (Const false) → AllSafe n no_target (under at ps) → AllSafe n no_target (under at (zs ++ ps))
zeros_safe n k at zs ps e s =
    under_safe n no_target at (zs ++ ps) (condition_safe n no_target at ps s)
    (all_safe_append n no_target zs ps (subst (AllSafe n no_target) (sym e) (zeros_there n k)) (operands_safe n no_target at ps s))

-- ---- two values

-- what takes its type from a value that took its own
pub same_again : (k l : Known) → as_operand (as_operand l k) l ≡ as_operand k l
same_again k (Shown w) = refl
same_again k (Lent start size w) = refl
same_again k Absent = refl
same_again (Static y) (Static z) = refl
same_again (Shown v) (Static z) = refl
same_again (Lent start size v) (Static z) = refl
same_again Absent (Static z) = refl

joined : (op : BinaryOp) (v w : Known) (s : Flattening) → AllSafe (length s.built.draft.wires) no_target (under s.setting []) → IsKnown (length s.built.draft.wires) v → IsKnown (length s.built.draft.wires) w → IsOf (λ x. IsOf (λ y. (x.shape ≡ y.shape) × FitsTwo op x.shape) w) v → CanJoin v w s
joined op (Static z) w s g h i f = absurd f
joined op (Lent start size v) w s g h i f = absurd f
joined op Absent w s g h i f = absurd f
joined op (Shown v) (Static z) s g h i f = absurd f
joined op (Shown v) (Lent start size w) s g h i f = absurd f
joined op (Shown v) Absent s g h i f = absurd f
joined op (Shown v) (Shown w) s g h i f =
    let n : ℕ = length s.built.draft.wires in
    (h.size ∙ ap shape_bits f.0 ∙ sym i.size, under_safe n no_target s.setting (v.operands ++ w.operands) g (all_safe_append n no_target v.operands w.operands h.there i.there))

-- the last two values may be joined when each has its type
pub can_join : (op : BinaryOp) (s : Flattening) (k l v w : Known) (rest ks : List Known) → s.values ≡ l ∷ k ∷ rest → v ≡ as_operand l k → w ≡ as_operand v l → Good s → MayJoin op (last (drop_last s)) (last s) → CanJoin v w (record s { values = ks })
can_join op s k l v w rest ks values first_is second_is g m =
    let n : ℕ = length s.built.draft.wires in
    let all : AllOf (IsKnown n) (l ∷ k ∷ rest) = subst (AllOf (IsKnown n)) values g.known.values in
    let may : MayJoin op k l = subst (λ (xs : List Known). MayJoin op (first (drop 1 xs)) (first xs)) values m in
    let same : w ≡ as_operand k l = second_is ∙ ap (λ (x : Known). as_operand x l) first_is ∙ same_again k l in
    subst (λ (x : Known). CanJoin x w (record s { values = ks })) (sym first_is)
    (subst (λ (y : Known). CanJoin (as_operand l k) y (record s { values = ks })) (sym same)
    (joined op (as_operand l k) (as_operand k l) (record s { values = ks }) g.condition (as_operand_known n l k all.1.0) (as_operand_known n k l all.0) may))

-- and are joined then
pub joined_is : (op : BinaryOp) (k l v w : Known) (began : ℕ) (s : Flattening) → began ≡ began_at k l → v ≡ as_operand l k → w ≡ as_operand v l → on_two_typed op began v w s ≡ on_two op k l s
joined_is op k l v w began s b e f =
    let same : w ≡ as_operand k l = f ∙ ap (λ (x : Known). as_operand x l) e ∙ same_again k l in
    ap (λ (n : ℕ). on_two_typed op n v w s) b ∙ ap (λ (x : Known). on_two_typed op (began_at k l) x w s) e ∙ ap (λ (y : Known). on_two_typed op (began_at k l) (as_operand l k) y s) same
