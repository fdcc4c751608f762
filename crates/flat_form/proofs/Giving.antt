-- Rows that give operands: how many, and that their wires are there.
use Rattle.std.proofs.Common.{◌≡◌, ℕ, zero, suc, ◌+◌, ◌*◌, ◌≤◌, ◌<◌, Bool, true, false, cond, not, ◌&&◌, ◌||◌, List, [], ◌∷◌, ◌++◌, map, length, take, drop, replicate, ℤ, refl, sym, ap, ap₂, ◌∙◌, subst, arith, length-append, ◌-◌, nat_le}
use Rattle.std.proofs.lemmas.List.{length-map, length-take-le, length-drop, length-replicate}
use Rattle.silq_tree.specs.declared.node.UnaryOp.{UnaryOp}
use Rattle.silq_tree.specs.declared.node.UnaryOp.TheVariants.{Not, Neg}
use Rattle.silq_tree.specs.declared.node.BinaryOp.{BinaryOp}
use Rattle.silq_tree.specs.declared.node.BinaryOp.TheVariants.{Or, And, Eq, Ne, Lt, Le, Gt, Ge, Add, Sub, Mul, Div}
use Rattle.silq_types.specs.declared.types.Scalar.{Scalar}
use Rattle.silq_types.specs.declared.types.Scalar.TheVariants as scalars
use Rattle.silq_types.specs.declared.types.Shape.{Shape}
use Rattle.silq_types.specs.declared.types.Shape.TheVariants.{Bit, UInt, Int, Array}
use Rattle.silq_types.specs.Types.{scalar_bits, shape_bits, is_scalar}
use Rattle.silq_mean.specs.Value.{low_bits, modulo, modulus}
use Rattle.flat_core.specs.declared.step.WireId.{WireId}
use Rattle.flat_core.specs.Form.{DraftForm}
use Rattle.flat_core.specs.Drafts.{is_measured}
use Rattle.flat_mean.specs.Row.{Row}
use Rattle.bit_arith.specs.declared.operand.Operand.{Operand}
use Rattle.bit_arith.specs.declared.operand.Operand.TheVariants.{Const, Literal}
use Rattle.bit_arith.specs.Built.{Built, Setting, Given, wires_from, made, all_made, negated, under}
use Rattle.bit_arith.specs.Rows.{copy}
use Rattle.bit_arith.specs.Calls.{Targets, no_target, among, Safe, AllSafe}
use Rattle.bit_arith.specs.Values.{bits_at}
use Rattle.bit_arith.specs.Does.{Fresh, GivesNumber, Tells, Below}
use Rattle.bit_arith.proofs.Steps.{and_true}
use Rattle.bit_arith.proofs.Doing.{Guards}
use Rattle.bit_arith.specs.Does.{Copies}
use Rattle.bit_arith.proofs.Making.{length-from, safe_new, copy_does, both_does, either_does, negated_safe, safe_from}
use Rattle.bit_arith.proofs.Carrying.{sum_does, difference_does}
use Rattle.bit_arith.proofs.Multiples.{product_does}
use Rattle.bit_arith.proofs.Tests.{equal_does, less_does, safe_append}
use Rattle.flat_form.specs.declared.known.TypedBits.{TypedBits}
use Rattle.flat_form.specs.declared.known.Known.{Known}
use Rattle.flat_form.specs.declared.known.Known.TheVariants.{Static, Shown, Lent, Absent}
use Rattle.flat_form.specs.State.{operands_of, is_signed, typed, typed_as, typed_like, part_shape, part_start, part_of, with_part, are_wires, are_new, as_they_are, copied, taken, kept, wires_in, only_wire, only_operand}
use Rattle.flat_form.specs.Flat.{negative, by_one, by_two, alone, opposite, shape_by, shape_by_one, as_operand, array_of, repeated}
use Rattle.flat_form.specs.Names.{Spares}
use Rattle.flat_form.specs.Good.{IsShown, IsKnown}
use Rattle.flat_form.specs.Fine.{IsOf, IsPart, FitsOne, FitsTwo}
use Rattle.flat_form.proofs.Numbers.{low_length}
use Rattle.flat_form.proofs.Bits.{shape_single}
use Rattle.flat_form.proofs.Kept.{safe_take, safe_drop, safe_spared}
use Rattle.flat_form.proofs.Later.{Later, later_same, later_does}

-- ---- operands that are wires

pub wires_take : (i : ℕ) (ps : List Operand) → are_wires ps ≡ true → are_wires (take i ps) ≡ true
wires_take zero ps h = refl
wires_take (suc i) [] h = refl
wires_take (suc i) (Const b ∷ ps) h = h
wires_take (suc i) (Literal l ∷ ps) h =
    let (a, b) = and_true l.positive (are_wires ps) h in ap₂ (λ x y. x && y) a (wires_take i ps b)

pub wires_drop : (i : ℕ) (ps : List Operand) → are_wires ps ≡ true → are_wires (drop i ps) ≡ true
wires_drop zero ps h = h
wires_drop (suc i) [] h = refl
wires_drop (suc i) (Const b ∷ ps) h = cc
wires_drop (suc i) (Literal l ∷ ps) h = wires_drop i ps (and_true l.positive (are_wires ps) h).1

pub wires_append : (ps qs : List Operand) → are_wires ps ≡ true → are_wires qs ≡ true → are_wires (ps ++ qs) ≡ true
wires_append [] qs h k = k
wires_append (Const b ∷ ps) qs h k = h
wires_append (Literal l ∷ ps) qs h k =
    let (a, b) = and_true l.positive (are_wires ps) h in ap₂ (λ x y. x && y) a (wires_append ps qs b k)

pub wires_made : (ws : List WireId) → are_wires (all_made ws) ≡ true
wires_made [] = refl
wires_made (w ∷ ws) = wires_made ws

pub wires_new : (d : DraftForm) (n : ℕ) (ps : List Operand) → are_new d n ps ≡ true → are_wires ps ≡ true
wires_new d n [] h = refl
wires_new d n (Const b ∷ ps) h = h
wires_new d n (Literal l ∷ ps) h =
    let (a, b) = and_true l.positive (nat_le n l.wire.number && (not (is_measured d.steps l.wire) && are_new d n ps)) h in
    let (c, e) = and_true (nat_le n l.wire.number) (not (is_measured d.steps l.wire) && are_new d n ps) b in
    let (f, g) = and_true (not (is_measured d.steps l.wire)) (are_new d n ps) e in
    ap₂ (λ x y. x && y) a (wires_new d n ps g)

-- the wires in them
pub in_made : (ws : List WireId) → wires_in (all_made ws) ≡ ws
in_made [] = refl
in_made (w ∷ ws) = ap (λ us. w ∷ us) (in_made ws)

pub length-in : (ps : List Operand) → are_wires ps ≡ true → length (wires_in ps) ≡ length ps
length-in [] h = refl
length-in (Const b ∷ ps) h = cc
length-in (Literal l ∷ ps) h = ap suc (length-in ps (and_true l.positive (are_wires ps) h).1)

pub below_in : (n : ℕ) (T : Targets) (ps : List Operand) → AllSafe n T ps → Below n (wires_in ps)
below_in n T [] s = tt
below_in n T (Const b ∷ ps) s = below_in n T ps s.1
below_in n T (Literal l ∷ ps) s = (s.0.0, below_in n T ps s.1)

-- one wire alone
pub only_below : (n : ℕ) (T : Targets) (ps : List Operand) → are_wires ps ≡ true → length ps ≡ 1 → AllSafe n T ps → (only_wire ps).number < n
only_below n T [] h e s = cc
only_below n T (Const b ∷ ps) h e s = cc
only_below n T (Literal l ∷ ps) h e s = s.0.0

pub only_safe : (n : ℕ) (T : Targets) (ps : List Operand) → AllSafe n T ps → Safe n T (only_operand ps)
only_safe n T [] s = tt
only_safe n T (p ∷ ps) s = s.0

-- ---- static values with a type

pub safe_consts : (n : ℕ) (T : Targets) (bs : List Bool) → AllSafe n T (map (λ b. Const b) bs)
safe_consts n T [] = tt
safe_consts n T (b ∷ bs) = (tt, safe_consts n T bs)

false_true : {A : Type 0} → false ≡ true → A
false_true e = absurd cc

pub typed_known : (n m : ℕ) (k : Scalar) (z : ℤ) → IsKnown n (typed m k z)
typed_known n m k z = record {
  size = length-map (low_bits (scalar_bits k) (modulo z (modulus k))) (λ b. Const b) ∙ (low_length (scalar_bits k) (modulo z (modulus k)) ∙ sym (shape_single k));
  there = safe_consts n no_target (low_bits (scalar_bits k) (modulo z (modulus k)));
  wires = λ e. false_true e;
}

-- what holds of a value and of each static value with a type holds of a value that takes a type
pub typed_as_all : (Q : Known → Type 0) (m : ℕ) (t : Shape) (k : Known) → ((j : Scalar) (z : ℤ) → k ≡ Static z → Q (typed m j z)) → Q k → Q (typed_as m t k)
typed_as_all Q m Bit (Static z) f q = f scalars.Bit z refl
typed_as_all Q m Bit (Shown v) f q = q
typed_as_all Q m Bit (Lent start size v) f q = q
typed_as_all Q m Bit Absent f q = q
typed_as_all Q m (UInt w) (Static z) f q = f (scalars.UInt w) z refl
typed_as_all Q m (UInt w) (Shown v) f q = q
typed_as_all Q m (UInt w) (Lent start size v) f q = q
typed_as_all Q m (UInt w) Absent f q = q
typed_as_all Q m (Int w) (Static z) f q = f (scalars.Int w) z refl
typed_as_all Q m (Int w) (Shown v) f q = q
typed_as_all Q m (Int w) (Lent start size v) f q = q
typed_as_all Q m (Int w) Absent f q = q
typed_as_all Q m (Array k c) (Static z) f q = q
typed_as_all Q m (Array k c) (Shown v) f q = q
typed_as_all Q m (Array k c) (Lent start size v) f q = q
typed_as_all Q m (Array k c) Absent f q = q

pub typed_like_all : (Q : Known → Type 0) (m : ℕ) (other k : Known) → ((j : Scalar) (z : ℤ) → k ≡ Static z → Q (typed m j z)) → Q k → Q (typed_like m other k)
typed_like_all Q m (Static y) k f q = q
typed_like_all Q m (Shown v) k f q = typed_as_all Q m v.shape k f q
typed_like_all Q m (Lent start size v) k f q = q
typed_like_all Q m Absent k f q = q

pub typed_as_known : (n m : ℕ) (t : Shape) (k : Known) → IsKnown n k → IsKnown n (typed_as m t k)
typed_as_known n m t k h = typed_as_all (IsKnown n) m t k (λ j z e. typed_known n m j z) h

pub typed_like_known : (n m : ℕ) (other k : Known) → IsKnown n k → IsKnown n (typed_like m other k)
typed_like_known n m other k h = typed_like_all (IsKnown n) m other k (λ j z e. typed_known n m j z) h

-- the operands of what is known are safe from what it does not name
pub known_operands : (n : ℕ) (T : Targets) (k : Known) → IsKnown n k → Spares T k → AllSafe n T (operands_of k)
known_operands n T (Static z) h s = tt
known_operands n T (Shown v) h s = safe_spared n T v.operands h.there s
known_operands n T (Lent start size v) h s = tt
known_operands n T Absent h s = tt

pub typed_as_safe : (n m : ℕ) (T : Targets) (t : Shape) (k : Known) → IsKnown n k → Spares T k → AllSafe n T (operands_of (typed_as m t k))
typed_as_safe n m T t k h s = typed_as_all (λ j. AllSafe n T (operands_of j)) m t k (λ j z e. safe_consts n T (low_bits (scalar_bits j) (modulo z (modulus j)))) (known_operands n T k h s)

pub typed_like_safe : (n m : ℕ) (T : Targets) (other k : Known) → IsKnown n k → Spares T k → AllSafe n T (operands_of (typed_like m other k))
typed_like_safe n m T other k h s = typed_like_all (λ j. AllSafe n T (operands_of j)) m other k (λ j z e. safe_consts n T (low_bits (scalar_bits j) (modulo z (modulus j)))) (known_operands n T k h s)

-- what is known of an operand of an operator; a static one takes type and class of the other
static_operand : (n : ℕ) (c : Bool) (t : Shape) (ps : List Operand) (o : Bool) (b : ℕ) (z : ℤ) → IsKnown n (as_operand (Shown (record { classical = c; shape = t; operands = ps; own = o; began = b })) (Static z))
static_operand n c Bit ps o b z = let k : IsShown n _ = typed_known n 0 scalars.Bit z in record { size = k.size; there = k.there; wires = k.wires }
static_operand n c (UInt w) ps o b z = let k : IsShown n _ = typed_known n 0 (scalars.UInt w) z in record { size = k.size; there = k.there; wires = k.wires }
static_operand n c (Int w) ps o b z = let k : IsShown n _ = typed_known n 0 (scalars.Int w) z in record { size = k.size; there = k.there; wires = k.wires }
static_operand n c (Array k m) ps o b z = tt

pub as_operand_known : (n : ℕ) (other k : Known) → IsKnown n k → IsKnown n (as_operand other k)
as_operand_known n (Static y) (Static z) h = tt
as_operand_known n (Shown v) (Static z) h = static_operand n v.classical v.shape v.operands v.own v.began z
as_operand_known n (Lent start size v) (Static z) h = tt
as_operand_known n Absent (Static z) h = tt
as_operand_known n other (Shown v) h = h
as_operand_known n other (Lent start size v) h = h
as_operand_known n other Absent h = tt

-- how many operands a value of a type has
pub size_of : (n : ℕ) (t : Shape) (k : Known) → IsKnown n k → IsOf (λ w. w.shape ≡ t) k → length (operands_of k) ≡ shape_bits t
size_of n t (Static z) h e = absurd e
size_of n t (Shown v) h e = h.size ∙ ap shape_bits e
size_of n t (Lent start size v) h e = absurd e
size_of n t Absent h e = absurd e

-- ---- parts

length_rest : (a b n : ℕ) → a + b ≤ n → b ≤ n - a
length_rest a b n h = omega arith

pub length-part : (v : TypedBits) (is : List ℤ) → IsPart v is → length (part_of v.shape is v.operands) ≡ shape_bits (part_shape v.shape is)
length-part v is h =
    let start : ℕ = part_start v.shape is in
    let size : ℕ = shape_bits (part_shape v.shape is) in
    let d : length (drop start v.operands) ≡ length v.operands - start = length-drop start v.operands in
    length-take-le size (drop start v.operands) (subst (λ m. size ≤ m) (sym d) (length_rest start size (length v.operands) h))

pub safe_part : (n : ℕ) (T : Targets) (v : TypedBits) (is : List ℤ) → AllSafe n T v.operands → AllSafe n T (part_of v.shape is v.operands)
safe_part n T v is s = safe_take n T (shape_bits (part_shape v.shape is)) (drop (part_start v.shape is) v.operands) (safe_drop n T (part_start v.shape is) v.operands s)

pub wires_part : (v : TypedBits) (is : List ℤ) → are_wires v.operands ≡ true → are_wires (part_of v.shape is v.operands) ≡ true
wires_part v is h = wires_take (shape_bits (part_shape v.shape is)) (drop (part_start v.shape is) v.operands) (wires_drop (part_start v.shape is) v.operands h)

around : (a b n : ℕ) → a + b ≤ n → a + (b + (n - (a + b))) ≡ n
around a b n h = omega arith

pub length-with : (v : TypedBits) (is : List ℤ) (ps : List Operand) → IsPart v is → length ps ≡ shape_bits (part_shape v.shape is) → length (with_part v.shape is v.operands ps) ≡ length v.operands
length-with v is ps h e =
    let start : ℕ = part_start v.shape is in
    let size : ℕ = shape_bits (part_shape v.shape is) in
    let rest : List Operand = drop (start + size) v.operands in
    let a : length (take start v.operands) ≡ start = length-take-le start v.operands (omega (arith, h)) in
    let b : length rest ≡ length v.operands - (start + size) = length-drop (start + size) v.operands in
    length-append (take start v.operands) (ps ++ rest)
    ∙ (ap₂ ◌+◌ a (length-append ps rest ∙ ap₂ ◌+◌ e b) ∙ around start size (length v.operands) h)

pub safe_with : (n : ℕ) (T : Targets) (v : TypedBits) (is : List ℤ) (ps : List Operand) → AllSafe n T v.operands → AllSafe n T ps → AllSafe n T (with_part v.shape is v.operands ps)
safe_with n T v is ps s t =
    let start : ℕ = part_start v.shape is in
    let rest : List Operand = drop (start + shape_bits (part_shape v.shape is)) v.operands in
    safe_append n T (take start v.operands) (ps ++ rest) (safe_take n T start v.operands s)
    (safe_append n T ps rest t (safe_drop n T (start + shape_bits (part_shape v.shape is)) v.operands s))

pub wires_with : (v : TypedBits) (is : List ℤ) (ps : List Operand) → are_wires v.operands ≡ true → are_wires ps ≡ true → are_wires (with_part v.shape is v.operands ps) ≡ true
wires_with v is ps h k =
    let start : ℕ = part_start v.shape is in
    let rest : List Operand = drop (start + shape_bits (part_shape v.shape is)) v.operands in
    wires_append (take start v.operands) (ps ++ rest) (wires_take start v.operands h)
    (wires_append ps rest k (wires_drop (start + shape_bits (part_shape v.shape is)) v.operands h))

-- ---- rows that give operands

-- so many operands, whose wires are there
pub record Gives (d : DraftForm) (n : ℕ) (row : Given (List Operand)) : Type 0 where
  pub later : Later d row.built.draft
  pub size : length row.answer ≡ n
  pub there : AllSafe (length row.built.draft.wires) no_target row.answer

gives_number : {at : Setting} {d : DraftForm} {m : ℕ} {row : Given (List Operand)} {f : Row → ℕ} (n : ℕ) → m ≡ n → GivesNumber at d m row f → Gives d n row
gives_number n e a = record { later = later_does a.does; size = a.count ∙ e; there = a.safe no_target (λ w le. refl) tt }

gives_tells : {at : Setting} {d : DraftForm} {of : List Operand} {row : Given Operand} {f : Row → Bool} → Tells at d of row f → AllSafe (length d.wires) no_target of → Gives d 1 (alone row)
gives_tells a s = record { later = later_does a.does; size = refl; there = (a.safe no_target (λ w le. refl) s, tt) }

gives_opposite : {at : Setting} {d : DraftForm} {of : List Operand} {row : Given Operand} {f : Row → Bool} → Tells at d of row f → AllSafe (length d.wires) no_target of → Gives d 1 (opposite row)
gives_opposite {row = row} a s = record { later = later_does a.does; size = refl; there = (negated_safe (length row.built.draft.wires) no_target row.answer (a.safe no_target (λ w le. refl) s), tt) }

pub gives_same : (ps : List Operand) (b : Built) → AllSafe (length b.draft.wires) no_target ps → Gives b.draft (length ps) (as_they_are ps b)
gives_same ps b s = record { later = later_same b.draft; size = refl; there = s }

pub gives_size : (d : DraftForm) (n m : ℕ) (row : Given (List Operand)) → n ≡ m → Gives d n row → Gives d m row
gives_size d n m row e g = record { later = g.later; size = g.size ∙ e; there = g.there }

length-made : (n w : ℕ) → length (all_made (wires_from w n)) ≡ n
length-made n w = length-map (wires_from w n) made ∙ length-from w n

pub copy_answer : (at : Setting) (ps : List Operand) (b : Built) → (copy at ps b).answer ≡ wires_from (length b.draft.wires) (length ps)
unfolding copy
copy_answer at ps b = refl

length-copy : (at : Setting) (ps : List Operand) (b : Built) → length (copy at ps b).answer ≡ length ps
unfolding copy
length-copy at ps b = length-from (length b.draft.wires) (length ps)

pub gives_copied : (at : Setting) (ps : List Operand) (b : Built) → Fresh b.draft → Guards at (length b.draft.wires) no_target → AllSafe (length b.draft.wires) no_target ps → Gives b.draft (length ps) (copied at ps b)
gives_copied at ps b f g s =
    let c : Copies at b.draft (copy at ps b) (λ v. bits_at v ps) = copy_does at ps b f g s in
    record {
      later = later_does c.does;
      size = length-map (copy at ps b).answer made ∙ length-copy at ps b;
      there = safe_new b.draft (copy at ps b).built.draft (copy at ps b).answer no_target c.new (λ w le. refl);
    }

-- ---- operators

pub safe_zeros : (n : ℕ) (T : Targets) (k : ℕ) → AllSafe n T (replicate k (Const false))
safe_zeros n T zero = tt
safe_zeros n T (suc k) = (tt, safe_zeros n T k)

pub safe_negated : (n : ℕ) (T : Targets) (ps : List Operand) → AllSafe n T ps → AllSafe n T (map negated ps)
safe_negated n T [] s = tt
safe_negated n T (p ∷ ps) s = (negated_safe n T p s.0, safe_negated n T ps s.1)

gives_negative : (at : Setting) (ps : List Operand) (b : Built) → Fresh b.draft → Guards at (length b.draft.wires) no_target → AllSafe (length b.draft.wires) no_target ps → Gives b.draft (length ps) (negative at ps b)
gives_negative at ps b f g s =
    let zs : List Operand = replicate (length ps) (Const false) in
    let e : length zs ≡ length ps = length-replicate (length ps) (Const false) in
    gives_number (length ps) e (difference_does at zs ps b f e g (safe_zeros (length b.draft.wires) no_target (length ps)) s)

pub gives_one : (op : UnaryOp) (at : Setting) (v : TypedBits) (b : Built) → Fresh b.draft → Guards at (length b.draft.wires) no_target → IsShown (length b.draft.wires) v → FitsOne op v.shape → Gives b.draft (shape_bits (shape_by_one op v.shape)) (by_one op at v.operands b)
gives_one Not at v b f g k fits =
    gives_size b.draft (length (map negated v.operands)) 1 (as_they_are (map negated v.operands) b) (length-map v.operands negated ∙ (k.size ∙ ap shape_bits fits))
    (gives_same (map negated v.operands) b (safe_negated (length b.draft.wires) no_target v.operands k.there))
gives_one Neg at v b f g k fits =
    gives_size b.draft (length v.operands) (shape_bits v.shape) (negative at v.operands b) k.size (gives_negative at v.operands b f g k.there)

pub gives_two : (op : BinaryOp) (s : Shape) (at : Setting) (ps qs : List Operand) (b : Built) → Fresh b.draft → Guards at (length b.draft.wires) no_target → AllSafe (length b.draft.wires) no_target ps → AllSafe (length b.draft.wires) no_target qs → length ps ≡ shape_bits s → length qs ≡ shape_bits s → FitsTwo op s → Gives b.draft (shape_bits (shape_by op s)) (by_two op s at ps qs b)
gives_two Or s at ps qs b f g sp sq ep eq fits =
    gives_tells (either_does at (only_operand ps) (only_operand qs) b f g (only_safe (length b.draft.wires) no_target ps sp, (only_safe (length b.draft.wires) no_target qs sq, tt))) tt
gives_two And s at ps qs b f g sp sq ep eq fits =
    gives_tells (both_does at (only_operand ps) (only_operand qs) b f g (only_safe (length b.draft.wires) no_target ps sp, (only_safe (length b.draft.wires) no_target qs sq, tt))) tt
gives_two Eq s at ps qs b f g sp sq ep eq fits = gives_tells (equal_does at ps qs b f (ep ∙ sym eq) g sp sq) (safe_append (length b.draft.wires) no_target ps qs sp sq)
gives_two Ne s at ps qs b f g sp sq ep eq fits = gives_opposite (equal_does at ps qs b f (ep ∙ sym eq) g sp sq) (safe_append (length b.draft.wires) no_target ps qs sp sq)
gives_two Lt s at ps qs b f g sp sq ep eq fits = gives_tells (less_does at (is_signed s) ps qs b f (ep ∙ sym eq) g sp sq) tt
gives_two Gt s at ps qs b f g sp sq ep eq fits = gives_tells (less_does at (is_signed s) qs ps b f (eq ∙ sym ep) g sq sp) tt
gives_two Le s at ps qs b f g sp sq ep eq fits = gives_opposite (less_does at (is_signed s) qs ps b f (eq ∙ sym ep) g sq sp) tt
gives_two Ge s at ps qs b f g sp sq ep eq fits = gives_opposite (less_does at (is_signed s) ps qs b f (ep ∙ sym eq) g sp sq) tt
gives_two Add s at ps qs b f g sp sq ep eq fits = gives_number (shape_bits s) ep (sum_does at ps qs b f (ep ∙ sym eq) g sp sq)
gives_two Sub s at ps qs b f g sp sq ep eq fits = gives_number (shape_bits s) ep (difference_does at ps qs b f (ep ∙ sym eq) g sp sq)
gives_two Mul s at ps qs b f g sp sq ep eq fits = gives_number (shape_bits s) ep (product_does at ps qs b f (ep ∙ sym eq) g sp sq)
gives_two Div s at ps qs b f g sp sq ep eq fits = absurd fits

-- ---- repeated values

pub length-repeated : (n : ℕ) (ps : List Operand) → length (repeated n ps) ≡ length ps * n
length-repeated zero ps = omega arith
length-repeated (suc n) ps =
    let a : length (ps ++ repeated n ps) ≡ length ps + length (repeated n ps) = length-append ps (repeated n ps) in
    let b : length (repeated n ps) ≡ length ps * n = length-repeated n ps in
    omega (arith, a, b)

pub safe_repeated : (n : ℕ) (T : Targets) (k : ℕ) (ps : List Operand) → AllSafe n T ps → AllSafe n T (repeated k ps)
safe_repeated n T zero ps s = tt
safe_repeated n T (suc k) ps s = safe_append n T ps (repeated k ps) s (safe_repeated n T k ps s)

pub array_bits : (t : Shape) (n : ℕ) → is_scalar t ≡ true → shape_bits t * n ≡ shape_bits (array_of t n)
array_bits Bit n h = refl
array_bits (UInt w) n h = refl
array_bits (Int w) n h = refl
array_bits (Array k m) n h = false_true h

-- ---- what takes a value over

-- so many wires, and the condition in force is on none of them
pub record Takes (at : Setting) (d : DraftForm) (n : ℕ) (row : Given (List Operand)) : Type 0 where
  pub gives : Gives d n row
  pub wires : are_wires row.answer ≡ true
  pub guards : AllSafe (length row.built.draft.wires) (among (wires_in row.answer)) (under at [])

takes_copied : (at : Setting) (ps : List Operand) (b : Built) → Fresh b.draft → Guards at (length b.draft.wires) no_target → AllSafe (length b.draft.wires) no_target ps → Takes at b.draft (length ps) (copied at ps b)
takes_copied at ps b f g s =
    let r : Gives b.draft (length ps) (copied at ps b) = gives_copied at ps b f g s in
    record {
      gives = r;
      wires = wires_made (copy at ps b).answer;
      guards = subst (λ ws. AllSafe (length (copy at ps b).built.draft.wires) (among ws) (under at [])) (sym (in_made (copy at ps b).answer))
          (subst (λ ws. AllSafe (length (copy at ps b).built.draft.wires) (among ws) (under at [])) (sym (copy_answer at ps b))
          (safe_from (length b.draft.wires) (length b.draft.wires) (length (copy at ps b).built.draft.wires) (length ps) (under at []) (omega arith) r.later.longer g));
    }

-- a value that keeps its wires is wires
own_wires : (d : DraftForm) (v : TypedBits) → IsShown (length d.wires) v → v.own || are_new d v.began v.operands ≡ true → are_wires v.operands ≡ true
own_wires d v k h = go v.own refl h
  where
    go : (x : Bool) → v.own ≡ x → x || are_new d v.began v.operands ≡ true → are_wires v.operands ≡ true
    go true e h = k.wires e
    go false e h = wires_new d v.began v.operands h

-- the wires for a new owner: where a value keeps its own, none of them is the condition's
pub takes_taken : (at : Setting) (v : TypedBits) (b : Built) → Fresh b.draft → Guards at (length b.draft.wires) no_target → IsShown (length b.draft.wires) v → (v.own || are_new b.draft v.began v.operands ≡ true → AllSafe (length b.draft.wires) (among (wires_in v.operands)) (under at [])) → Takes at b.draft (length v.operands) (taken at v b)
takes_taken at v b f g k may = pick (v.own || are_new b.draft v.began v.operands) refl
  where
    pick : (x : Bool) → (v.own || are_new b.draft v.began v.operands) ≡ x → Takes at b.draft (length v.operands) (cond x (as_they_are v.operands b) (copied at v.operands b))
    pick true e = record { gives = gives_same v.operands b k.there; wires = own_wires b.draft v k e; guards = may e }
    pick false e = takes_copied at v.operands b f g k.there

-- wires that are given
pub record GivesWires (d : DraftForm) (n : ℕ) (row : Given (List Operand)) : Type 0 where
  pub gives : Gives d n row
  pub wires : are_wires row.answer ≡ true

pub wires_copied : (at : Setting) (ps : List Operand) (b : Built) → Fresh b.draft → Guards at (length b.draft.wires) no_target → AllSafe (length b.draft.wires) no_target ps → GivesWires b.draft (length ps) (copied at ps b)
wires_copied at ps b f g s = record { gives = gives_copied at ps b f g s; wires = wires_made (copy at ps b).answer }

pub wires_taken : (at : Setting) (v : TypedBits) (b : Built) → Fresh b.draft → Guards at (length b.draft.wires) no_target → IsShown (length b.draft.wires) v → GivesWires b.draft (length v.operands) (taken at v b)
wires_taken at v b f g k = pick (v.own || are_new b.draft v.began v.operands) refl
  where
    pick : (x : Bool) → (v.own || are_new b.draft v.began v.operands) ≡ x → GivesWires b.draft (length v.operands) (cond x (as_they_are v.operands b) (copied at v.operands b))
    pick true e = record { gives = gives_same v.operands b k.there; wires = own_wires b.draft v k e }
    pick false e = wires_copied at v.operands b f g k.there

pub wires_kept : (at : Setting) (v : TypedBits) (b : Built) → Fresh b.draft → Guards at (length b.draft.wires) no_target → IsShown (length b.draft.wires) v → GivesWires b.draft (length v.operands) (kept at v b)
wires_kept at v b f g k = pick (are_wires v.operands) refl
  where
    pick : (x : Bool) → are_wires v.operands ≡ x → GivesWires b.draft (length v.operands) (cond x (as_they_are v.operands b) (copied at v.operands b))
    pick true e = record { gives = gives_same v.operands b k.there; wires = e }
    pick false e = wires_copied at v.operands b f g k.there
