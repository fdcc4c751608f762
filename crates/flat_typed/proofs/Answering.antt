-- The operands that operators answer: those of their own operands, or new wires, and none of these twice.
use Rattle.std.proofs.Common.{◌≡◌, ◌⊎◌, inl, inr, ℕ, suc, ◌≤◌, Bool, true, false, cond, not, List, [], ◌∷◌, length, map, replicate, refl, sym, ap, ◌∙◌, subst, arith}
use Rattle.std.proofs.lemmas.Bool.{eqb-true}
use Rattle.silq_tree.specs.declared.node.UnaryOp.{UnaryOp}
use Rattle.silq_tree.specs.declared.node.UnaryOp.TheVariants.{Not, Neg}
use Rattle.silq_tree.specs.declared.node.BinaryOp.{BinaryOp}
use Rattle.silq_tree.specs.declared.node.BinaryOp.TheVariants.{Or, And, Eq, Ne, Lt, Le, Gt, Ge, Add, Sub, Mul, Div}
use Rattle.silq_types.specs.declared.types.Shape.{Shape}
use Rattle.flat_core.specs.declared.step.WireId.{WireId}
use Rattle.flat_core.specs.Label.{wire_id, same_wire}
use Rattle.bit_arith.specs.declared.operand.Operand.{Operand}
use Rattle.bit_arith.specs.declared.operand.Operand.TheVariants.{Const, Literal}
use Rattle.bit_arith.specs.Built.{Built, Setting, Given, new_wire, next_wire, wires_from, made, all_made, negated, all_negated, top_negated, read}
use Rattle.bit_arith.specs.Rows.{sum, difference, product, both, either, signed, differ_as, differ, matches, all_of, equal, carry_bit, borrow, less}
use Rattle.flat_form.specs.State.{is_signed, only_operand}
use Rattle.flat_form.specs.Flat.{by_one, by_two, alone, opposite}
use Rattle.flat_form.specs.Names.{named_by}
use Rattle.flat_typed.specs.Places.{times_in}
use Rattle.flat_typed.proofs.Ordered.{clash}
use Rattle.flat_typed.proofs.Flipping.{differ_f, matches_f, carry_bit_f}
use Rattle.flat_typed.proofs.Placing.{made_range, made_once}

pub negated_names : (w : WireId) (p : Operand) → named_by w (negated p) ≡ named_by w p
negated_names w (Const b) = refl
negated_names w (Literal l) = refl

pub times_negated : (w : WireId) (ps : List Operand) → times_in w (map negated ps) ≡ times_in w ps
times_negated w [] = refl
times_negated w (Const b ∷ ps) = times_negated w ps
times_negated w (Literal l ∷ ps) = ap (λ n. cond (same_wire l.wire w) (suc n) n) (times_negated w ps)

one_once : (w : WireId) (p : Operand) → times_in w (p ∷ []) ≤ 1
one_once w p = go (named_by w p)
  where
    go : (t : Bool) → cond t 1 0 ≤ 1
    go true = omega arith
    go false = omega arith

one_named : (w : WireId) (p : Operand) → 1 ≤ times_in w (p ∷ []) → named_by w p ≡ true
one_named w p le = go (named_by w p) le
  where
    go : (t : Bool) → 1 ≤ cond t 1 0 → t ≡ true
    go true le = refl
    go false le = absurd (omega (arith, le))

some_named : (w : WireId) (p : Operand) (ps : List Operand) → named_by w p ≡ true → 1 ≤ times_in w (p ∷ ps)
some_named w p ps e = let a : times_in w (p ∷ ps) ≡ suc (times_in w ps) = ap (λ t. cond t (suc (times_in w ps)) (times_in w ps)) e in omega (arith, a)

only_named : (w : WireId) (ps : List Operand) → named_by w (only_operand ps) ≡ true → 1 ≤ times_in w ps
only_named w [] e = clash (sym e)
only_named w (p ∷ ps) e = some_named w p ps e

made_new : (w : WireId) (n : ℕ) → named_by w (made (wire_id n)) ≡ true → n ≤ w.number
made_new w n e = let q = eqb-true n w.number e in omega (arith, q)

-- a wire that an answer names
abbrev pub IsFrom : List Operand → List Operand → ℕ → WireId → Type 0
IsFrom ps qs n w = (1 ≤ times_in w ps) ⊎ ((1 ≤ times_in w qs) ⊎ (n ≤ w.number))

pub record Answers (ps qs : List Operand) (n : ℕ) (rs : List Operand) : Type 0 where
  pub from : (w : WireId) → 1 ≤ times_in w rs → IsFrom ps qs n w
  pub once : (w : WireId) → times_in w rs ≤ 1

all_new : (ps qs : List Operand) (n k : ℕ) → Answers ps qs n (all_made (wires_from n k))
all_new ps qs n k = record { from = λ w le. inr (inr (made_range w n k le).0); once = λ w. made_once w n k }

one_new : (ps qs : List Operand) (n m : ℕ) → n ≤ m → Answers ps qs n (made (wire_id m) ∷ [])
one_new ps qs n m le = record { from = λ w h. let a = made_new w m (one_named w (made (wire_id m)) h) in inr (inr (omega (arith, a, le))); once = λ w. one_once w (made (wire_id m)) }

turned : (ps qs : List Operand) (n : ℕ) (p : Operand) → Answers ps qs n (p ∷ []) → Answers ps qs n (negated p ∷ [])
turned ps qs n p a = record {
  from = λ w le. a.from w (some_named w p [] (sym (negated_names w p) ∙ one_named w (negated p) le));
  once = λ w. one_once w (negated p);
}

swapped : (ps qs : List Operand) (n : ℕ) (rs : List Operand) → Answers ps qs n rs → Answers qs ps n rs
swapped ps qs n rs a = record { from = λ w le. turn (a.from w le); once = a.once }
  where
    turn : {w : WireId} → IsFrom ps qs n w → IsFrom qs ps n w
    turn (inl h) = inr (inl h)
    turn (inr (inl h)) = inl h
    turn (inr (inr h)) = inr (inr h)

-- ---- tests

signed_names : (w : WireId) (b : Bool) (p : Operand) → named_by w (signed b p) ≡ true → named_by w p ≡ true
signed_names w true p e = sym (negated_names w p) ∙ e
signed_names w false p e = e

differ_from : (at : Setting) (x y p q : Operand) (b : Built) (w : WireId) → named_by w (differ_as at x y p q b).answer ≡ true → (named_by w p ≡ true) ⊎ ((named_by w q ≡ true) ⊎ (length b.draft.wires ≤ w.number))
differ_from at (Const x) (Const y) p q b w e = inr (inl (signed_names w x q e))
differ_from at (Const x) (Literal m) p q b w e = inr (inl (signed_names w x q e))
differ_from at (Literal l) (Const y) p q b w e = inl (signed_names w y p e)
differ_from at (Literal l) (Literal m) p q b w e = inr (inr (made_new w (length b.draft.wires) e))

-- one place needs no new wire; else there is one
equal_answers : (at : Setting) (ps qs : List Operand) (b : Built) → Answers ps qs (length b.draft.wires) (alone (equal at ps qs b)).answer
unfolding equal
equal_answers at ps qs b = go ps qs
  where
    grown : (ps qs : List Operand) → length b.draft.wires ≤ length (matches at ps qs b).built.draft.wires
    grown ps qs = (matches_f (λ w. false) 0 at ps qs b (omega arith)).few

    -- of one place
    single : (p : Operand) (ps : List Operand) (q : Operand) (qs : List Operand) → Answers (p ∷ ps) (q ∷ qs) (length b.draft.wires) (negated (differ at p q b).answer ∷ [])
    single p ps q qs = record {
      from = λ w le. pick w (differ_from at (read b.draft p) (read b.draft q) p q b w (sym (negated_names w (differ at p q b).answer) ∙ one_named w (negated (differ at p q b).answer) le));
      once = λ w. one_once w (negated (differ at p q b).answer);
    }
      where
        pick : (w : WireId) → (named_by w p ≡ true) ⊎ ((named_by w q ≡ true) ⊎ (length b.draft.wires ≤ w.number)) → IsFrom (p ∷ ps) (q ∷ qs) (length b.draft.wires) w
        pick w (inl e) = inl (some_named w p ps e)
        pick w (inr (inl e)) = inr (inl (some_named w q qs e))
        pick w (inr (inr le)) = inr (inr le)

    go : (ps qs : List Operand) → Answers ps qs (length b.draft.wires) ((all_of at (matches at ps qs b).answer (matches at ps qs b).built).answer ∷ [])
    go [] [] = one_new [] [] (length b.draft.wires) (length b.draft.wires) (omega arith)
    go [] (q ∷ qs) = one_new [] (q ∷ qs) (length b.draft.wires) (length b.draft.wires) (omega arith)
    go (p ∷ ps) [] = one_new (p ∷ ps) [] (length b.draft.wires) (length b.draft.wires) (omega arith)
    go (p ∷ []) (q ∷ []) = single p [] q []
    go (p ∷ []) (q ∷ (r ∷ qs)) = single p [] q (r ∷ qs)
    go (p ∷ (o ∷ ps)) (q ∷ []) = single p (o ∷ ps) q []
    go (p ∷ (o ∷ ps)) (q ∷ (r ∷ qs)) = one_new (p ∷ (o ∷ ps)) (q ∷ (r ∷ qs)) (length b.draft.wires) (length (matches at (p ∷ (o ∷ ps)) (q ∷ (r ∷ qs)) b).built.draft.wires) (grown (p ∷ (o ∷ ps)) (q ∷ (r ∷ qs)))

borrow_from : (at : Setting) (n : ℕ) (c : Operand) (ps qs : List Operand) (b : Built) → n ≤ length b.draft.wires → ((w : WireId) → named_by w c ≡ true → n ≤ w.number) → (w : WireId) → named_by w (borrow at c ps qs b).answer ≡ true → n ≤ w.number
borrow_from at n c [] qs b le h w e = h w e
borrow_from at n c (p ∷ ps) [] b le h w e = h w e
borrow_from at n c (p ∷ ps) (q ∷ qs) b le h w e =
    borrow_from at n (made (next_wire b)) ps qs (carry_bit at (next_wire b) (negated p) q c (new_wire b))
    (let f = (carry_bit_f (λ w. false) 0 at (negated p) q c b (omega arith)).few in omega (arith, f, le))
    (λ v q. let a = made_new v (length b.draft.wires) q in omega (arith, a, le)) w e

less_answers : (at : Setting) (t : Bool) (ps qs : List Operand) (b : Built) → Answers ps qs (length b.draft.wires) (alone (less at t ps qs b)).answer
unfolding less
less_answers at t ps qs b = go t
  where
    by : (ks ls : List Operand) → Answers ps qs (length b.draft.wires) ((borrow at (Const false) ks ls b).answer ∷ [])
    by ks ls = record {
      from = λ w le. inr (inr (borrow_from at (length b.draft.wires) (Const false) ks ls b (omega arith) (λ v e. clash (sym e)) w (one_named w (borrow at (Const false) ks ls b).answer le)));
      once = λ w. one_once w (borrow at (Const false) ks ls b).answer;
    }

    go : (t : Bool) → Answers ps qs (length b.draft.wires) (alone (less at t ps qs b)).answer
    go true = by (top_negated ps) (top_negated qs)
    go false = by ps qs

-- ---- operators

pub two_answers : (op : BinaryOp) (s : Shape) (at : Setting) (ps qs : List Operand) (b : Built) → Answers ps qs (length b.draft.wires) (by_two op s at ps qs b).answer
unfolding sum difference product both either
two_answers Or s at ps qs b = turned ps qs (length b.draft.wires) (made (next_wire b)) (one_new ps qs (length b.draft.wires) (length b.draft.wires) (omega arith))
two_answers And s at ps qs b = one_new ps qs (length b.draft.wires) (length b.draft.wires) (omega arith)
two_answers Eq s at ps qs b = equal_answers at ps qs b
two_answers Ne s at ps qs b = turned ps qs (length b.draft.wires) (equal at ps qs b).answer (equal_answers at ps qs b)
two_answers Lt s at ps qs b = less_answers at (is_signed s) ps qs b
two_answers Gt s at ps qs b = swapped qs ps (length b.draft.wires) (alone (less at (is_signed s) qs ps b)).answer (less_answers at (is_signed s) qs ps b)
two_answers Le s at ps qs b = swapped qs ps (length b.draft.wires) (opposite (less at (is_signed s) qs ps b)).answer (turned qs ps (length b.draft.wires) (less at (is_signed s) qs ps b).answer (less_answers at (is_signed s) qs ps b))
two_answers Ge s at ps qs b = turned ps qs (length b.draft.wires) (less at (is_signed s) ps qs b).answer (less_answers at (is_signed s) ps qs b)
two_answers Add s at ps qs b = all_new ps qs (length b.draft.wires) (length ps)
two_answers Sub s at ps qs b = all_new ps qs (length b.draft.wires) (length ps)
two_answers Mul s at ps qs b = all_new ps qs (length b.draft.wires) (length ps)
two_answers Div s at ps qs b = record { from = λ w le. absurd (omega (arith, le)); once = λ w. omega arith }

-- of one operand: no wire that its own operands do not name twice
pub record AnswersOne (ps : List Operand) (n : ℕ) (rs : List Operand) : Type 0 where
  pub from : (w : WireId) → 1 ≤ times_in w rs → (1 ≤ times_in w ps) ⊎ (n ≤ w.number)
  pub once : (w : WireId) → times_in w ps ≤ 1 → times_in w rs ≤ 1

pub one_answers : (op : UnaryOp) (at : Setting) (ps : List Operand) (b : Built) → AnswersOne ps (length b.draft.wires) (by_one op at ps b).answer
unfolding difference
one_answers Not at ps b = record { from = λ w le. inl (let e = times_negated w ps in omega (arith, e, le)); once = λ w le. let e = times_negated w ps in omega (arith, e, le) }
one_answers Neg at ps b = record {
  from = λ w le. inr (made_range w (length b.draft.wires) (length (replicate (length ps) (Const false))) le).0;
  once = λ w le. made_once w (length b.draft.wires) (length (replicate (length ps) (Const false)));
}
