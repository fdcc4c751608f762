-- The rows of operators and updates, as what they say of bits.
use Rattle.std.proofs.Common.{◌≡◌, ℕ, zero, suc, ◌+◌, ◌-◌, ◌*◌, ◌^◌, ◌%◌, Bool, false, not, ◌&&◌, ◌||◌, List, [], ◌∷◌, length, map, refl, sym, ap, ap₂, ◌∙◌, arith}
use Rattle.std.specs.Prelude.{replicate}
use Rattle.std.proofs.lemmas.List.{length-map, length-replicate}
use Rattle.silq_tree.specs.declared.node.UnaryOp.{UnaryOp}
use Rattle.silq_tree.specs.declared.node.UnaryOp.TheVariants.{Not, Neg}
use Rattle.silq_tree.specs.declared.node.BinaryOp.{BinaryOp}
use Rattle.silq_tree.specs.declared.node.BinaryOp.TheVariants.{Or, And, Eq, Ne, Lt, Le, Gt, Ge, Add, Sub, Mul, Div}
use Rattle.silq_tree.specs.declared.node.UpdateOp.{UpdateOp}
use Rattle.silq_tree.specs.declared.node.UpdateOp.TheVariants as updates
use Rattle.silq_types.specs.declared.types.Shape.{Shape}
use Rattle.sum_laws.specs.Terms.{same_bits}
use Rattle.flat_core.specs.declared.step.WireId.{WireId}
use Rattle.flat_core.specs.Form.{DraftForm}
use Rattle.flat_mean.specs.Row.{Row}
use Rattle.bit_arith.specs.declared.operand.Operand.{Operand}
use Rattle.bit_arith.specs.declared.operand.Operand.TheVariants.{Const}
use Rattle.bit_arith.specs.Built.{Built, Setting, Given, made, all_made, negated, wires_from}
use Rattle.bit_arith.specs.Rows.{sum, difference, product}
use Rattle.bit_arith.specs.Calls.{Targets, no_target, among, Safe, AllSafe}
use Rattle.bit_arith.specs.Values.{bit_of, bits_at, values_at}
use Rattle.bit_arith.specs.Numbers.{number}
use Rattle.bit_arith.specs.Does.{Fresh, Below, Different, Does, Tells}
use Rattle.bit_arith.proofs.Doing.{Guards, does_none, does_weak}
use Rattle.bit_arith.proofs.Making.{length-bits, length-values, length-from, negated_bit, both_does, either_does, flip_each_does}
use Rattle.bit_arith.proofs.Carrying.{bits_negated, sum_does, difference_does, add_into_does, sub_into_does}
use Rattle.bit_arith.proofs.Multiples.{product_does}
use Rattle.bit_arith.specs.Numbers.{is_below}
use Rattle.bit_arith.proofs.Tests.{equal_does, less_does}
use Rattle.flat_form.specs.State.{is_signed, only_operand}
use Rattle.flat_form.specs.Flat.{by_one, by_two, update_by}
use Rattle.flat_laws.proofs.Operators.{only_bit, OneBits, TwoBits, UpdateBits}

-- ---- answers have an operand for each bit

length-new : (n w : ℕ) → length (all_made (wires_from w n)) ≡ n
length-new n w = length-map (wires_from w n) made ∙ length-from w n

length-of_sum : (at : Setting) (ps qs : List Operand) (b : Built) → length (sum at ps qs b).answer ≡ length ps
unfolding sum
length-of_sum at ps qs b = length-new (length ps) (length b.draft.wires)

length-of_difference : (at : Setting) (ps qs : List Operand) (b : Built) → length (difference at ps qs b).answer ≡ length ps
unfolding difference
length-of_difference at ps qs b = length-new (length ps) (length b.draft.wires)

length-of_product : (at : Setting) (ps qs : List Operand) (b : Built) → length (product at ps qs b).answer ≡ length ps
unfolding product
length-of_product at ps qs b = length-new (length ps) (length b.draft.wires)

only_is : (v : Row) (ps : List Operand) → bit_of v (only_operand ps) ≡ only_bit (bits_at v ps)
only_is v [] = refl
only_is v (p ∷ ps) = refl

only_is_safe : (n : ℕ) (T : Targets) (ps : List Operand) → AllSafe n T ps → Safe n T (only_operand ps)
only_is_safe n T [] s = tt
only_is_safe n T (p ∷ ps) s = s.0

zeros_safe : (n : ℕ) (T : Targets) (k : ℕ) → AllSafe n T (replicate k (Const false))
zeros_safe n T zero = tt
zeros_safe n T (suc k) = (tt, zeros_safe n T k)

zeros_number : (v : Row) (k : ℕ) → number (bits_at v (replicate k (Const false))) ≡ 0
zeros_number v zero = refl
zeros_number v (suc k) = let e : number (bits_at v (replicate k (Const false))) ≡ 0 = zeros_number v k in omega (arith, e)

-- ---- rows that answer bits or a number

tells_bits : {at : Setting} {d : DraftForm} {of : List Operand} {row : Given Operand} {f : Row → Bool} (F : Row → Bool) → Tells at d of row f → ((v : Row) → f v ≡ F v) → Does at d row.built.draft no_target (λ v u. bits_at u (row.answer ∷ []) ≡ F v ∷ [])
tells_bits F r e = does_weak r.does (λ v u c on ag cl t. ap (λ x. x ∷ []) (t ∙ e v))

tells_not : {at : Setting} {d : DraftForm} {of : List Operand} {row : Given Operand} {f : Row → Bool} (F : Row → Bool) → Tells at d of row f → ((v : Row) → f v ≡ F v) → Does at d row.built.draft no_target (λ v u. bits_at u (negated row.answer ∷ []) ≡ not (F v) ∷ [])
tells_not {row = row} F r e = does_weak r.does (λ v u c on ag cl t. ap (λ x. x ∷ []) (negated_bit u row.answer ∙ ap not (t ∙ e v)))

below_is_bits : (v : Row) (with_sign : Bool) (ps qs : List Operand) → is_below with_sign (length ps) (number (bits_at v ps)) (number (bits_at v qs)) ≡ is_below with_sign (length (bits_at v ps)) (number (bits_at v ps)) (number (bits_at v qs))
below_is_bits v with_sign ps qs = ap (λ n. is_below with_sign n (number (bits_at v ps)) (number (bits_at v qs))) (sym (length-bits v ps))

-- ---- operators

pub one_does : (op : UnaryOp) (at : Setting) (ps : List Operand) (b : Built) → Fresh b.draft → Guards at (length b.draft.wires) no_target → AllSafe (length b.draft.wires) no_target ps
    → Does at b.draft (by_one op at ps b).built.draft no_target (λ v u. OneBits op (bits_at v ps) (bits_at u (by_one op at ps b).answer))
one_does Not at ps b f g s = does_weak (does_none at b.draft no_target) (λ v u c on ag cl t. ap (λ (w : Row). bits_at w (map negated ps)) t ∙ bits_negated v ps)
one_does Neg at ps b f g s =
    let zs : List Operand = replicate (length ps) (Const false) in
    let e : length zs ≡ length ps = length-replicate (length ps) (Const false) in
    does_weak (difference_does at zs ps b f e g (zeros_safe (length b.draft.wires) no_target (length ps)) s).does
    (λ v u c on ag cl t.
    let l : length zs ≡ length (bits_at v ps) = e ∙ sym (length-bits v ps) in (
      length-bits u (difference at zs ps b).answer ∙ (length-of_difference at zs ps b ∙ l),
      t ∙ (ap₂ (λ x n. (x + (2 ^ n - number (bits_at v ps))) % 2 ^ n) (zeros_number v (length ps)) l ∙ none (2 ^ length (bits_at v ps)) (number (bits_at v ps))),
    ))
  where
    none : (m x : ℕ) → (0 + (m - x)) % m ≡ (m - x) % m
    none m x = let e : 0 + (m - x) ≡ m - x = omega arith in ap (λ y. y % m) e

pub two_does : (op : BinaryOp) (s : Shape) (at : Setting) (ps qs : List Operand) (b : Built) → Fresh b.draft → Guards at (length b.draft.wires) no_target → AllSafe (length b.draft.wires) no_target ps → AllSafe (length b.draft.wires) no_target qs → length ps ≡ length qs → (op ≡ Div → ⊥)
    → Does at b.draft (by_two op s at ps qs b).built.draft no_target (λ v u. TwoBits op s (bits_at v ps) (bits_at v qs) (bits_at u (by_two op s at ps qs b).answer))
two_does Or s at ps qs b f g sp sq e d =
    tells_bits (λ v. only_bit (bits_at v ps) || only_bit (bits_at v qs))
    (either_does at (only_operand ps) (only_operand qs) b f g (only_is_safe (length b.draft.wires) no_target ps sp, (only_is_safe (length b.draft.wires) no_target qs sq, tt)))
    (λ v. ap₂ ◌||◌ (only_is v ps) (only_is v qs))
two_does And s at ps qs b f g sp sq e d =
    tells_bits (λ v. only_bit (bits_at v ps) && only_bit (bits_at v qs))
    (both_does at (only_operand ps) (only_operand qs) b f g (only_is_safe (length b.draft.wires) no_target ps sp, (only_is_safe (length b.draft.wires) no_target qs sq, tt)))
    (λ v. ap₂ ◌&&◌ (only_is v ps) (only_is v qs))
two_does Eq s at ps qs b f g sp sq e d = tells_bits (λ v. same_bits (bits_at v ps) (bits_at v qs)) (equal_does at ps qs b f e g sp sq) (λ v. refl)
two_does Ne s at ps qs b f g sp sq e d = tells_not (λ v. same_bits (bits_at v ps) (bits_at v qs)) (equal_does at ps qs b f e g sp sq) (λ v. refl)
two_does Lt s at ps qs b f g sp sq e d =
    tells_bits (λ v. is_below (is_signed s) (length (bits_at v ps)) (number (bits_at v ps)) (number (bits_at v qs))) (less_does at (is_signed s) ps qs b f e g sp sq) (λ v. below_is_bits v (is_signed s) ps qs)
two_does Gt s at ps qs b f g sp sq e d =
    tells_bits (λ v. is_below (is_signed s) (length (bits_at v qs)) (number (bits_at v qs)) (number (bits_at v ps))) (less_does at (is_signed s) qs ps b f (sym e) g sq sp) (λ v. below_is_bits v (is_signed s) qs ps)
two_does Le s at ps qs b f g sp sq e d =
    tells_not (λ v. is_below (is_signed s) (length (bits_at v qs)) (number (bits_at v qs)) (number (bits_at v ps))) (less_does at (is_signed s) qs ps b f (sym e) g sq sp) (λ v. below_is_bits v (is_signed s) qs ps)
two_does Ge s at ps qs b f g sp sq e d =
    tells_not (λ v. is_below (is_signed s) (length (bits_at v ps)) (number (bits_at v ps)) (number (bits_at v qs))) (less_does at (is_signed s) ps qs b f e g sp sq) (λ v. below_is_bits v (is_signed s) ps qs)
two_does Add s at ps qs b f g sp sq e d =
    does_weak (sum_does at ps qs b f e g sp sq).does
    (λ v u c on ag cl t. (
      length-bits u (sum at ps qs b).answer ∙ (length-of_sum at ps qs b ∙ sym (length-bits v ps)),
      t ∙ ap (λ n. (number (bits_at v ps) + number (bits_at v qs)) % 2 ^ n) (sym (length-bits v ps)),
    ))
two_does Sub s at ps qs b f g sp sq e d =
    does_weak (difference_does at ps qs b f e g sp sq).does
    (λ v u c on ag cl t. (
      length-bits u (difference at ps qs b).answer ∙ (length-of_difference at ps qs b ∙ sym (length-bits v ps)),
      t ∙ ap (λ n. (number (bits_at v ps) + (2 ^ n - number (bits_at v qs))) % 2 ^ n) (sym (length-bits v ps)),
    ))
two_does Mul s at ps qs b f g sp sq e d =
    does_weak (product_does at ps qs b f e g sp sq).does
    (λ v u c on ag cl t. (
      length-bits u (product at ps qs b).answer ∙ (length-of_product at ps qs b ∙ sym (length-bits v ps)),
      t ∙ ap (λ n. (number (bits_at v ps) * number (bits_at v qs)) % 2 ^ n) (sym (length-bits v ps)),
    ))
two_does Div s at ps qs b f g sp sq e d = absurd (d refl)

-- ---- updates

pub update_does : (op : UpdateOp) (at : Setting) (ws : List WireId) (ps : List Operand) (b : Built) → Fresh b.draft → length ws ≡ length ps → Below (length b.draft.wires) ws → Different ws → Guards at (length b.draft.wires) (among ws) → AllSafe (length b.draft.wires) (among ws) ps
    → Does at b.draft (update_by op at ws ps b).draft (among ws) (λ v u. UpdateBits op (values_at v ws) (bits_at v ps) (values_at u ws))
update_does updates.Add at ws ps b f e be di g s =
    does_weak (add_into_does at ws ps b f e be di g s)
    (λ v u c on ag cl t. (length-values u ws ∙ sym (length-values v ws), t ∙ ap (λ n. (number (values_at v ws) + number (bits_at v ps)) % 2 ^ n) (sym (length-values v ws))))
update_does updates.Sub at ws ps b f e be di g s =
    does_weak (sub_into_does at ws ps b f e be di g s)
    (λ v u c on ag cl t. (length-values u ws ∙ sym (length-values v ws), t ∙ ap (λ n. (number (values_at v ws) + (2 ^ n - number (bits_at v ps))) % 2 ^ n) (sym (length-values v ws))))
update_does updates.Xor at ws ps b f e be di g s = flip_each_does at ws ps b f e be di g s
