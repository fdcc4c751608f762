-- What is known of values shows them: as they are typed, taken apart, changed and joined.
use Rattle.std.proofs.Common.{◌≡◌, ◌⊎◌, ℕ, zero, suc, ◌+◌, ◌≤◌, Bool, true, List, [], ◌∷◌, ◌++◌, length, map, ℤ, refl, sym, ap, ◌∙◌, subst, arith}
use Rattle.std.specs.Prelude.{⊤, nat_abs, replicate, flat_map}
use Rattle.std.proofs.lemmas.List.{map-append}
use Rattle.silq_tree.specs.declared.node.UnaryOp.{UnaryOp}
use Rattle.silq_tree.specs.declared.node.BinaryOp.{BinaryOp}
use Rattle.silq_tree.specs.declared.node.UpdateOp.{UpdateOp}
use Rattle.silq_types.specs.declared.types.Scalar.{Scalar}
use Rattle.silq_types.specs.declared.types.Scalar.TheVariants as scalars
use Rattle.silq_types.specs.declared.types.Shape.{Shape}
use Rattle.silq_types.specs.declared.types.Shape.TheVariants.{Bit, UInt, Int, Array}
use Rattle.silq_types.specs.Types.{single_shape, scalar_bits, shape_bits, is_scalar}
use Rattle.silq_types.specs.declared.need.Need.{Need}
use Rattle.silq_mean.specs.Value.{Value, whole, single, array, gone, modulus, modulo, low_bits, bits_of, truth_value, is_one, of_one, of_two_typed, repeated, update_typed, equal_values, part, with_part, typed as typed_value, typed_as as value_as, typed_like as value_like}
use Rattle.silq_mean.specs.declared.receiver.Receiver.{Receiver}
use Rattle.silq_mean.specs.declared.receiver.Receiver.TheVariants.{Variable, Argument, CallResult, EntryOutput}
use Rattle.silq_mean.specs.Effect.{received}
use Rattle.flat_mean.specs.Row.{Row}
use Rattle.bit_arith.specs.declared.operand.Operand.{Operand}
use Rattle.bit_arith.specs.declared.operand.Operand.TheVariants.{Const}
use Rattle.bit_arith.specs.Values.{bit_of, bits_at}
use Rattle.bit_arith.proofs.Making.{length-bits}
use Rattle.flat_form.specs.declared.known.TypedBits.{TypedBits}
use Rattle.flat_form.specs.declared.known.Known.{Known}
use Rattle.flat_form.specs.declared.known.Known.TheVariants.{Static, Shown, Lent, Absent}
use Rattle.flat_form.specs.State.{outside, operands_of, typed, typed_as, typed_like, part_shape, part_start, part_of, with_part as with_bits_of_part}
use Rattle.flat_form.specs.Flat.{shape_by, shape_by_one, array_of, as_operand, repeated as repeated_operands, part_used, moved, shape_for}
use Rattle.flat_form.specs.Fine.{IsOf, FitsOne, FitsTwo, IsUpdated}
use Rattle.flat_form.specs.Shows.{HasShape, Shows}
use Rattle.flat_form.proofs.Numbers.{modulo_below, modulus_pos}
use Rattle.flat_form.proofs.Pieces.{outside_map, part_map, with_map, same_apart_from, replaced, replaced_same, replaced_by}
pub use Rattle.flat_form.proofs.Kept.{shows_lent}
use Rattle.flat_form.proofs.Bits.{bits_length, IsThere, part_holds, part_bits, with_holds, with_bits_is}
use Rattle.flat_laws.proofs.Operators.{OneBits, TwoBits, UpdateBits, HasBits, one_gives, two_gives, update_gives, equal_one, repeat_gives, truth_holds, truth_bits, one_bits}

-- ---- values as they are

-- other operands with the same bits show the same
pub shows_bits : (v u : Row) (a b : TypedBits) (w : Value) → b.shape ≡ a.shape → bits_at u b.operands ≡ bits_at v a.operands → Shows v (Shown a) w → Shows u (Shown b) w
shows_bits v u a b w s e h = (subst (λ r. HasShape r w) (sym s) h.0, e ∙ h.1)

-- an operand for each bit
pub shown_length : (v : Row) (a : TypedBits) (w : Value) → Shows v (Shown a) w → length a.operands ≡ shape_bits a.shape
shown_length v a w h = sym (length-bits v a.operands) ∙ (ap length h.1 ∙ bits_length a.shape w h.0)

pub shows_gives : (u : Row) (a : TypedBits) (w : Value) (s : Shape) → a.shape ≡ s → HasBits s w (bits_at u a.operands) → Shows u (Shown a) w
shows_gives u a w s e g = (subst (λ r. HasShape r w) (sym e) g.0, g.1)

pub static_is : (v : Row) (z : ℤ) (w : Value) → Shows v (Static z) w → w ≡ whole z
static_is v z (whole y) h = ap whole (sym h)
static_is v z (single k a) h = absurd h
static_is v z (array k ns) h = absurd h
static_is v z gone h = absurd h

-- a bit of which one is known whether it is 1
pub shows_truth : (u : Row) (a : TypedBits) (c : Bool) → a.shape ≡ Bit → bits_at u a.operands ≡ c ∷ [] → Shows u (Shown a) (truth_value c)
shows_truth u a c s e = shows_gives u a (truth_value c) Bit s (truth_holds c, e ∙ sym (truth_bits c))

pub shown_one : (v : Row) (a : TypedBits) (w : Value) → a.shape ≡ Bit → Shows v (Shown a) w → bits_at v a.operands ≡ is_one w ∷ []
shown_one v a w s h = h.1 ∙ one_bits w (subst (λ r. HasShape r w) s h.0)

-- ---- static values that take a type

const_bits : (v : Row) (bs : List Bool) → bits_at v (map (λ b. Const b) bs) ≡ bs
const_bits v [] = refl
const_bits v (b ∷ bs) = ap (λ cs. b ∷ cs) (const_bits v bs)

pub shows_typed : (v : Row) (n : ℕ) (k : Scalar) (z : ℤ) → Shows v (typed n k z) (typed_value k z)
shows_typed v n k z = ((refl, modulo_below z (modulus k) (modulus_pos k)), const_bits v (low_bits (scalar_bits k) (modulo z (modulus k))))

as_single : (s : Shape) (k : Scalar) (a : ℕ) → value_as s (single k a) ≡ single k a
as_single Bit k a = refl
as_single (UInt n) k a = refl
as_single (Int n) k a = refl
as_single (Array j n) k a = refl

as_array : (s : Shape) (k : Scalar) (ns : List ℕ) → value_as s (array k ns) ≡ array k ns
as_array Bit k a = refl
as_array (UInt n) k a = refl
as_array (Int n) k a = refl
as_array (Array j n) k a = refl

pub as_shown : (n : ℕ) (s : Shape) (a : TypedBits) → typed_as n s (Shown a) ≡ Shown a
as_shown n Bit a = refl
as_shown n (UInt m) a = refl
as_shown n (Int m) a = refl
as_shown n (Array j m) a = refl

pub as_lent : (n : ℕ) (s : Shape) (i j : ℕ) (a : TypedBits) → typed_as n s (Lent i j a) ≡ Lent i j a
as_lent n Bit i j a = refl
as_lent n (UInt m) i j a = refl
as_lent n (Int m) i j a = refl
as_lent n (Array k m) i j a = refl

pub as_absent : (n : ℕ) (s : Shape) → typed_as n s Absent ≡ Absent
as_absent n Bit = refl
as_absent n (UInt m) = refl
as_absent n (Int m) = refl
as_absent n (Array k m) = refl

-- a value with a type keeps it
pub value_as_same : (s r : Shape) (w : Value) → HasShape r w → value_as s w ≡ w
value_as_same s r (whole z) h = absurd h
value_as_same s r gone h = absurd h
value_as_same s r (single k a) h = as_single s k a
value_as_same s r (array k ns) h = as_array s k ns

pub value_like_same : (x : Value) (r : Shape) (w : Value) → HasShape r w → value_like x w ≡ w
value_like_same x r (whole z) h = absurd h
value_like_same x r gone h = absurd h
value_like_same (whole y) r (single k a) h = refl
value_like_same gone r (single k a) h = refl
value_like_same (single j b) r (single k a) h = refl
value_like_same (array j ms) r (single k a) h = refl
value_like_same (whole y) r (array k ns) h = refl
value_like_same gone r (array k ns) h = refl
value_like_same (single j b) r (array k ns) h = refl
value_like_same (array j ms) r (array k ns) h = refl

static_as : (v : Row) (n : ℕ) (s : Shape) (z : ℤ) → Shows v (typed_as n s (Static z)) (value_as s (whole z))
static_as v n Bit z = shows_typed v n scalars.Bit z
static_as v n (UInt m) z = shows_typed v n (scalars.UInt m) z
static_as v n (Int m) z = shows_typed v n (scalars.Int m) z
static_as v n (Array j m) z = refl

pub shows_as : (v : Row) (n : ℕ) (s : Shape) (k : Known) (w : Value) → Shows v k w → Shows v (typed_as n s k) (value_as s w)
shows_as v n s (Static z) w h = subst (λ x. Shows v (typed_as n s (Static z)) (value_as s x)) (sym (static_is v z w h)) (static_as v n s z)
shows_as v n s (Shown a) w h = subst (λ x. Shows v x (value_as s w)) (sym (as_shown n s a)) (subst (Shows v (Shown a)) (sym (value_as_same s a.shape w h.0)) h)
shows_as v n s (Lent i j a) w h = subst (λ x. Shows v x (value_as s w)) (sym (as_lent n s i j a)) (subst (Shows v (Lent i j a)) (sym (value_as_same s a.shape w h.0)) h)
shows_as v n s Absent w h = subst (λ x. Shows v x (value_as s w)) (sym (as_absent n s)) tt

-- by the type of another value
as_is_like : (s : Shape) (x : Value) (z : ℤ) → HasShape s x → value_as s (whole z) ≡ value_like x (whole z)
as_is_like s (whole y) z h = absurd h
as_is_like s gone z h = absurd h
as_is_like s (single k a) z h = ap (λ r. value_as r (whole z)) h.0 ∙ by_scalar k
  where
    by_scalar : (j : Scalar) → value_as (single_shape j) (whole z) ≡ typed_value j z
    by_scalar scalars.Bit = refl
    by_scalar (scalars.UInt n) = refl
    by_scalar (scalars.Int n) = refl
as_is_like s (array k ns) z h = ap (λ r. value_as r (whole z)) h.0

pub shows_as_like : (v : Row) (n : ℕ) (s : Shape) (x : Value) (k : Known) (w : Value) → HasShape s x → Shows v k w → Shows v (typed_as n s k) (value_like x w)
shows_as_like v n s x (Static z) w g h =
    subst (λ y. Shows v (typed_as n s (Static z)) (value_like x y)) (sym (static_is v z w h)) (subst (Shows v (typed_as n s (Static z))) (as_is_like s x z g) (static_as v n s z))
shows_as_like v n s x (Shown a) w g h = subst (λ y. Shows v y (value_like x w)) (sym (as_shown n s a)) (subst (Shows v (Shown a)) (sym (value_like_same x a.shape w h.0)) h)
shows_as_like v n s x (Lent i j a) w g h = subst (λ y. Shows v y (value_like x w)) (sym (as_lent n s i j a)) (subst (Shows v (Lent i j a)) (sym (value_like_same x a.shape w h.0)) h)
shows_as_like v n s x Absent w g h = subst (λ y. Shows v y (value_like x w)) (sym (as_absent n s)) tt

pub shows_like : (v : Row) (n : ℕ) (a : TypedBits) (x : Value) (k : Known) (w : Value) → Shows v (Shown a) x → Shows v k w → Shows v (typed_like n (Shown a) k) (value_like x w)
shows_like v n a x k w g h = shows_as_like v n a.shape x k w g.0 h

-- what takes a value over asks for a type
pub shows_for : (v : Row) (r : Receiver) (n : ℕ) (k : Known) (w : Value) → Shows v k w → Shows v (shape_for r n k) (received r w)
shows_for v Variable n k w h = h
shows_for v (Argument need t) n k w h = shows_as v n t.shape k w h
shows_for v (CallResult t) n k w h = shows_as v n t.shape k w h
shows_for v (EntryOutput t) n k w h = shows_as v n t.shape k w h

static_operand : (v : Row) (c own : Bool) (s : Shape) (ps : List Operand) (began : ℕ) (x : Value) (z : ℤ) → HasShape s x → IsOf (λ a. ⊤) (as_operand (Shown (record { classical = c; shape = s; operands = ps; own = own; began = began })) (Static z))
    → Shows v (as_operand (Shown (record { classical = c; shape = s; operands = ps; own = own; began = began })) (Static z)) (value_like x (whole z))
static_operand v c own Bit ps began x z g i = subst (Shows v (typed 0 scalars.Bit z)) (as_is_like Bit x z g) (shows_typed v 0 scalars.Bit z)
static_operand v c own (UInt n) ps began x z g i = subst (Shows v (typed 0 (scalars.UInt n) z)) (as_is_like (UInt n) x z g) (shows_typed v 0 (scalars.UInt n) z)
static_operand v c own (Int n) ps began x z g i = subst (Shows v (typed 0 (scalars.Int n) z)) (as_is_like (Int n) x z g) (shows_typed v 0 (scalars.Int n) z)
static_operand v c own (Array k n) ps began x z g i = absurd i

-- an operand of an operator, typed by the other
pub shows_operand : (v : Row) (other k : Known) (x w : Value) → IsOf (λ a. ⊤) (as_operand other k) → Shows v other x → Shows v k w → Shows v (as_operand other k) (value_like x w)
shows_operand v other (Shown a) x w i g h = subst (Shows v (Shown a)) (sym (value_like_same x a.shape w h.0)) h
shows_operand v other (Lent start size a) x w i g h = absurd i
shows_operand v other Absent x w i g h = absurd i
shows_operand v (Static y) (Static z) x w i g h = absurd i
shows_operand v (Lent start size a) (Static z) x w i g h = absurd i
shows_operand v Absent (Static z) x w i g h = absurd i
shows_operand v (Shown a) (Static z) x w i g h =
    subst (λ y. Shows v (as_operand (Shown a) (Static z)) (value_like x y)) (sym (static_is v z w h)) (static_operand v a.classical a.own a.shape a.operands a.began x z g.0 i)

-- ---- parts

-- a part of a value is shown by a part of its operands
pub shows_part : (v : Row) (n : ℕ) (need : Need) (is : List ℤ) (a : TypedBits) (w : Value) → IsThere a.shape is → Shows v (Shown a) w → Shows v (part_used n need is a) (part w is)
shows_part v n need is a w t h =
    (part_holds a.shape w is h.0, part_map (bit_of v) a.shape is a.operands ∙ (ap (part_of a.shape is) h.1 ∙ sym (part_bits a.shape w is h.0 t)))

-- also of a variable with a lent part, if it has nothing of that part
pub shows_apart : (v : Row) (n : ℕ) (need : Need) (is : List ℤ) (start size : ℕ) (a : TypedBits) (w : Value) → length a.operands ≡ shape_bits a.shape → IsThere a.shape is
    → (start + size ≤ part_start a.shape is) ⊎ (part_start a.shape is + shape_bits (part_shape a.shape is) ≤ start) → Shows v (Lent start size a) w → Shows v (part_used n need is a) (part w is)
shows_apart v n need is start size a w l t d h =
    let m : length (bits_at v a.operands) ≡ length (bits_of w) = length-bits v a.operands ∙ (l ∙ sym (bits_length a.shape w h.0)) in
    let e : outside start size (bits_at v a.operands) ≡ outside start size (bits_of w) = sym (outside_map (bit_of v) start size a.operands) ∙ h.1 in (
      part_holds a.shape w is h.0,
      part_map (bit_of v) a.shape is a.operands
          ∙ (same_apart_from start size (part_start a.shape is) (shape_bits (part_shape a.shape is)) (bits_at v a.operands) (bits_of w) m d e
          ∙ sym (part_bits a.shape w is h.0 t)),
    )

pub shows_rest : (v : Row) (n : ℕ) (need : Need) (is : List ℤ) (start size : ℕ) (a : TypedBits) (w : Value) → length a.operands ≡ shape_bits a.shape → start ≤ length a.operands → IsThere a.shape is
    → (start + size ≤ part_start a.shape is) ⊎ (part_start a.shape is + shape_bits (part_shape a.shape is) ≤ start) → Shows v (Lent start size a) w → Shows v (part_used n need is a) (part w is)
shows_rest v n need is start size a w l b t d h = shows_apart v n need is start size a w l t d h

-- what is known of a variable that was moved, or a part of it
pub shows_moved : (v : Row) (is : List ℤ) (a : TypedBits) (w : Value) → Shows v (Shown a) w → Shows v (moved is a) w
shows_moved v [] a w h = tt
shows_moved v (i ∷ is) a w h = shows_lent v (part_start a.shape (i ∷ is)) (shape_bits (part_shape a.shape (i ∷ is))) a w h

-- a lent part comes back with other bits on the same wires
pub shows_back : (v : Row) (is : List ℤ) (a : TypedBits) (w x : Value) → length a.operands ≡ shape_bits a.shape → IsThere a.shape is → HasBits (part_shape a.shape is) x (bits_at v (part_of a.shape is a.operands))
    → Shows v (Lent (part_start a.shape is) (shape_bits (part_shape a.shape is)) a) w → Shows v (Shown a) (with_part w is x)
shows_back v is a w x l t g h =
    let start : ℕ = part_start a.shape is in
    let size : ℕ = shape_bits (part_shape a.shape is) in
    let ll : length (bits_at v a.operands) ≡ length a.operands = length-bits v a.operands in
    let lw : length (bits_of w) ≡ shape_bits a.shape = bits_length a.shape w h.0 in
    let within : start + size ≤ shape_bits a.shape = t.within in
    let c : start ≤ length (bits_at v a.operands) = omega (arith, ll, l, within) in
    let e : outside start size (bits_at v a.operands) ≡ outside start size (bits_of w) = sym (outside_map (bit_of v) start size a.operands) ∙ h.1 in (
      with_holds a.shape w is x h.0 t g.0,
      replaced_by start size (bits_at v a.operands) (bits_of w) c (ll ∙ (l ∙ sym lw)) e
          ∙ (ap (replaced start size (bits_of w)) (sym (part_map (bit_of v) a.shape is a.operands) ∙ g.1)
          ∙ sym (with_bits_is a.shape w is x h.0 t g.0)),
    )

-- a lent part comes back on other wires
pub shows_put : (v : Row) (is : List ℤ) (start size : ℕ) (a b : TypedBits) (w x : Value) → length a.operands ≡ shape_bits a.shape → IsThere a.shape is → start ≡ part_start a.shape is → size ≡ shape_bits (part_shape a.shape is)
    → b.shape ≡ part_shape a.shape is → Shows v (Lent start size a) w → Shows v (Shown b) x → Shows v (Shown (record a { operands = with_bits_of_part a.shape is a.operands b.operands })) (with_part w is x)
shows_put v is start size a b w x l t p q s h g =
    let ll : length (bits_at v a.operands) ≡ length a.operands = length-bits v a.operands in
    let lw : length (bits_of w) ≡ shape_bits a.shape = bits_length a.shape w h.0 in
    let within : part_start a.shape is + shape_bits (part_shape a.shape is) ≤ shape_bits a.shape = t.within in
    let c : part_start a.shape is ≤ length (bits_at v a.operands) = omega (arith, ll, l, within) in
    let e : outside start size (bits_at v a.operands) ≡ outside start size (bits_of w) = sym (outside_map (bit_of v) start size a.operands) ∙ h.1 in
    let f : outside (part_start a.shape is) (shape_bits (part_shape a.shape is)) (bits_at v a.operands) ≡ outside (part_start a.shape is) (shape_bits (part_shape a.shape is)) (bits_of w) =
    subst (λ i. outside i (shape_bits (part_shape a.shape is)) (bits_at v a.operands) ≡ outside i (shape_bits (part_shape a.shape is)) (bits_of w)) p
    (subst (λ i. outside start i (bits_at v a.operands) ≡ outside start i (bits_of w)) q e) in
    let gs : HasShape (part_shape a.shape is) x = subst (λ r. HasShape r x) s g.0 in (
      with_holds a.shape w is x h.0 t gs,
      with_map (bit_of v) a.shape is a.operands b.operands
          ∙ (ap (with_bits_of_part a.shape is (bits_at v a.operands)) g.1
          ∙ (replaced_same (part_start a.shape is) (shape_bits (part_shape a.shape is)) (bits_at v a.operands) (bits_of w) (bits_of x) c (ll ∙ (l ∙ sym lw)) f
          ∙ sym (with_bits_is a.shape w is x h.0 t gs))),
    )

-- ---- operators

pub shows_one : (v u : Row) (op : UnaryOp) (a b : TypedBits) (w : Value) → b.shape ≡ shape_by_one op a.shape → FitsOne op a.shape → Shows v (Shown a) w → OneBits op (bits_at v a.operands) (bits_at u b.operands) → Shows u (Shown b) (of_one op w)
shows_one v u op a b w s f h t = shows_gives u b (of_one op w) (shape_by_one op a.shape) s (one_gives op a.shape w (bits_at v a.operands) (bits_at u b.operands) f h.0 h.1 t)

pub shows_two : (v u : Row) (op : BinaryOp) (a b c : TypedBits) (x y : Value) → c.shape ≡ shape_by op a.shape → a.shape ≡ b.shape → FitsTwo op a.shape → Shows v (Shown a) x → Shows v (Shown b) y
    → TwoBits op a.shape (bits_at v a.operands) (bits_at v b.operands) (bits_at u c.operands) → Shows u (Shown c) (of_two_typed op x y)
shows_two v u op a b c x y s r f g h t =
    shows_gives u c (of_two_typed op x y) (shape_by op a.shape) s
    (two_gives op a.shape x y (bits_at v a.operands) (bits_at v b.operands) (bits_at u c.operands) f g.0 (subst (λ i. HasShape i y) (sym r) h.0) g.1 h.1 t)

-- the bits of an updated value
pub updates_give : (v : Row) (op : UpdateOp) (s : Shape) (b : TypedBits) (xs zs : List Bool) (x y : Value) → b.shape ≡ s → IsUpdated op s → HasBits s x xs → Shows v (Shown b) y → UpdateBits op xs (bits_at v b.operands) zs → HasBits s (update_typed op x y) zs
updates_give v op s b xs zs x y r i g h t = update_gives op s x y xs (bits_at v b.operands) zs i g.0 (subst (λ j. HasShape j y) r h.0) g.1 h.1 t

repeated_bits : (v : Row) (n : ℕ) (ps : List Operand) → bits_at v (repeated_operands n ps) ≡ flat_map (λ bs. bs) (replicate n (bits_at v ps))
repeated_bits v zero ps = refl
repeated_bits v (suc n) ps = map-append (bit_of v) ps (repeated_operands n ps) ∙ ap (λ bs. bits_at v ps ++ bs) (repeated_bits v n ps)

pub shows_repeated : (v u : Row) (z : ℤ) (a b : TypedBits) (n w : Value) → b.shape ≡ array_of a.shape (nat_abs z) → is_scalar a.shape ≡ true → Shows v (Static z) n → Shows v (Shown a) w → bits_at u b.operands ≡ bits_at v (repeated_operands (nat_abs z) a.operands) → Shows u (Shown b) (repeated n w)
shows_repeated v u z a b n w s f g h e =
    subst (λ m. Shows u (Shown b) (repeated m w)) (sym (static_is v z n g))
    (shows_gives u b (repeated (whole z) w) (array_of a.shape (nat_abs z)) s
    (subst (HasBits (array_of a.shape (nat_abs z)) (repeated (whole z) w)) (sym (e ∙ repeated_bits v (nat_abs z) a.operands)) (repeat_gives z a.shape w (bits_at v a.operands) f h.0 h.1)))

-- ---- equal values

-- values that are called equal have equal bits
pub claimed_bits : (v : Row) (a : TypedBits) (k : Known) (x w : Value) → IsOf (λ b. b.shape ≡ a.shape) (typed_like 0 (Shown a) k) → Shows v (Shown a) x → Shows v k w → equal_values x w ≡ true → bits_at v (operands_of (typed_like 0 (Shown a) k)) ≡ bits_at v a.operands
claimed_bits v a k x w i g h e = go (typed_like 0 (Shown a) k) i (shows_like v 0 a x k w g h)
  where
    go : (l : Known) → IsOf (λ b. b.shape ≡ a.shape) l → Shows v l (value_like x w) → bits_at v (operands_of l) ≡ bits_at v a.operands
    go (Static z) j s = absurd j
    go (Lent i n b) j s = absurd j
    go Absent j s = absurd j
    go (Shown b) j s = s.1 ∙ (ap bits_of (sym (equal_one a.shape x (value_like x w) g.0 (subst (λ r. HasShape r (value_like x w)) j s.0) e)) ∙ sym g.1)
