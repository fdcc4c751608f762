-- The rows that carry, add and subtract.
use Rattle.std.proofs.Common.{◌≡◌, ℕ, suc, ◌+◌, ◌-◌, ◌^◌, ◌%◌, ◌≤◌, ◌<◌, Bool, true, false, ◌&&◌, ◌||◌, List, [], ◌∷◌, length, get_or, add-zero, refl, sym, ap, ap₂, ◌∙◌, subst, arith}
use Rattle.std.proofs.lemmas.List.{length-map}
use Rattle.std.specs.Prelude.{nat_le}
use Rattle.flat_core.specs.declared.step.WireId.{WireId}
use Rattle.flat_core.specs.Form.{DraftForm}
use Rattle.flat_core.specs.Label.{wire_id, same_wire}
use Rattle.flat_mean.specs.Row.{Row, flipped}
use Rattle.bit_arith.specs.declared.operand.Operand.{Operand}
use Rattle.bit_arith.specs.declared.operand.Operand.TheVariants.{Const}
use Rattle.bit_arith.specs.Built.{Built, Setting, Given, new_wire, new_wires, next_wire, wires_from, made, all_made, negated, all_negated, under}
use Rattle.bit_arith.specs.Rows.{flip_up, flip_down, pairs, triples, carry_bit, carries, carry, sum_by, sum, difference, into_by, add_into, sub_into}
use Rattle.bit_arith.specs.Calls.{Targets, no_target, Safe, AllSafe, among}
use Rattle.bit_arith.specs.Values.{bit_of, bits_at, values_at}
use Rattle.bit_arith.specs.Numbers.{number, carries_into}
use Rattle.bit_arith.specs.Does.{Fresh, Does, Below, Different, StaySafe, OwnWires, GivesNumber, GivesBits, Tells}
use Rattle.bit_arith.proofs.Steps.{and_one, apart_below, Agree, bit_same, bits_same}
use Rattle.bit_arith.proofs.Doing.{Guards, does_fresh, does_grown, does_none, does_weak, does_then, clean_above}
use Rattle.bit_arith.proofs.Gathered.{beq_one, length-wire}
use Rattle.bit_arith.proofs.Listed.{safe_one, safe_more, below_more, toggles, toggle_all, each_holds, places_hold, PlacesSafe, AllOff, values_same, all_off_none, by_does, up_does, down_does}
use Rattle.bit_arith.proofs.Making.{Answers, length-wires, does_made, fresh_wires, length-from, among_from, among_past, different_from, below_from, new_from, safe_new, zeros, values_zero, safe_from, safe_next, bits_made, length-bits, length-values, negated_bit, negated_safe}
use Rattle.bit_arith.proofs.Adder.{majority, carry_bits, carry_at, sum_bits, nots, sum_number, difference_number}

-- ---- carries

majority_is : (x y z r : Bool) → r ≡ false → flipped (flipped (flipped r (x && (y && true))) (x && (z && true))) (y && (z && true)) ≡ majority x y z
majority_is x y z r e = rw (e, and_one y, and_one z) refl

pub carry_bit_does : (at : Setting) (p q c : Operand) (b : Built) → Fresh b.draft → Guards at (length b.draft.wires) no_target → AllSafe (length b.draft.wires) no_target (p ∷ q ∷ c ∷ []) → Tells at b.draft [] (record { answer = made (next_wire b); built = carry_bit at (next_wire b) p q c (new_wire b) }) (λ v. majority (bit_of v p) (bit_of v q) (bit_of v c))
carry_bit_does at p q c b f g s =
    let n : ℕ = length b.draft.wires in
    let w : WireId = wire_id n in
    let b1 : Built = new_wire b in
    let l : length b1.draft.wires ≡ suc n = length-wire b.draft in
    let m : ℕ = length b1.draft.wires in
    let hn : n < m = omega (arith, l) in
    let s' : AllSafe m (same_wire w) (p ∷ q ∷ c ∷ []) = safe_next n m (p ∷ q ∷ c ∷ []) hn s in
    let r : Does at b1.draft (carry_bit at w p q c b1).draft (same_wire w) (λ v u. u n ≡ toggles (each_holds v ((p ∷ q ∷ []) ∷ (p ∷ c ∷ []) ∷ (q ∷ c ∷ []) ∷ [])) (v n)) =
    by_does at w ((p ∷ q ∷ []) ∷ (p ∷ c ∷ []) ∷ (q ∷ c ∷ []) ∷ []) b1 (fresh_wires 1 b f) hn (safe_next n m (under at []) hn g)
    ((s'.0, (s'.1.0, tt)), ((s'.0, (s'.1.1.0, tt)), ((s'.1.0, (s'.1.1.0, tt)), tt))) in
    let up : m ≤ length (carry_bit at w p q c b1).draft.wires = does_grown r in
    record {
      does = does_weak (does_made 1 b r g (λ k lt. apart_below k.number n lt))
          (λ v u cl on ag cl' t. beq_one (u n) ∙ (t ∙ majority_is (bit_of v p) (bit_of v q) (bit_of v c) (v n) (clean_above b.draft v f cl w (omega arith))));
      safe = λ T o z. (omega (arith, hn, up), o w (omega arith));
    }

carry_same : {c c' : Bool} {xs xs' ys ys' : List Bool} → c ≡ c' → xs ≡ xs' → ys ≡ ys' → carry_bits c xs ys ≡ carry_bits c' xs' ys'
carry_same a b c = cc

pub carries_does : (at : Setting) (c : Operand) (ps qs : List Operand) (b : Built) → Fresh b.draft → length ps ≡ length qs → Guards at (length b.draft.wires) no_target → Safe (length b.draft.wires) no_target c → AllSafe (length b.draft.wires) no_target ps → AllSafe (length b.draft.wires) no_target qs → Answers at b.draft (c ∷ []) (carries at c ps qs b) (λ v bs. bs ≡ carry_bits (bit_of v c) (bits_at v ps) (bits_at v qs))
carries_does at c [] qs b f e g sc sp sq = record { does = does_weak (does_none at b.draft no_target) (λ v u cl on ag cl' t. refl); safe = λ T o s. tt }
carries_does at c (p ∷ []) qs b f e g sc sp sq = record {
  does = does_weak (does_none at b.draft no_target) (λ v u cl on ag cl' t. ap (λ (w : Row). bit_of w c ∷ []) t);
  safe = λ T o s. s;
}
carries_does at c (p ∷ p' ∷ ps) [] b f e g sc sp sq = cc
carries_does at c (p ∷ p' ∷ ps) (q ∷ qs) b f e g sc sp sq =
    let n : ℕ = length b.draft.wires in
    let w : WireId = next_wire b in
    let b1 : Built = carry_bit at w p q c (new_wire b) in
    let m : ℕ = length b1.draft.wires in
    let h : Tells at b.draft [] (record { answer = made w; built = b1 }) (λ v. majority (bit_of v p) (bit_of v q) (bit_of v c)) = carry_bit_does at p q c b f g (sp.0, (sq.0, (sc, tt))) in
    let up : n ≤ m = does_grown h.does in
    let keep : (k : WireId) → k.number < n → no_target k ≡ false → no_target k ≡ false = λ k lt t. t in
    let rest : Given (List Operand) = carries at (made w) (p' ∷ ps) qs b1 in
    let ih : Answers at b1.draft (made w ∷ []) rest (λ v bs. bs ≡ carry_bits (bit_of v (made w)) (bits_at v (p' ∷ ps)) (bits_at v qs)) =
    carries_does at (made w) (p' ∷ ps) qs b1 (does_fresh h.does f) (omega (arith, e)) (safe_more n m no_target no_target (under at []) up keep g) (h.safe no_target (λ k le. refl) tt)
    (safe_more n m no_target no_target (p' ∷ ps) up keep sp.1) (safe_more n m no_target no_target qs up keep sq.1) in
    let up2 : m ≤ length rest.built.draft.wires = does_grown ih.does in
    record {
      does = does_weak (does_then no_target h.does ih.does g (λ k lt t. (t, t)))
          (λ v u cl on ag cl' t.
          let ops : bits_at t.mid (p' ∷ ps) ≡ bits_at v (p' ∷ ps) = bits_same n no_target t.mid v (p' ∷ ps) sp.1 t.kept in
          let ops' : bits_at t.mid qs ≡ bits_at v qs = bits_same n no_target t.mid v qs sq.1 t.kept in
          ap₂ ◌∷◌ (bit_same n no_target u v c sc ag) (t.second ∙ carry_same t.first ops ops'));
      safe = λ T o s. (
        safe_one n (length rest.built.draft.wires) T T c (omega (arith, up, up2)) (λ k lt t. t) s.0,
        ih.safe T (λ k le. o k (omega (arith, up, le))) (h.safe T o tt, tt),
      );
    }

pub carry_does : (at : Setting) (ps qs : List Operand) (b : Built) → Fresh b.draft → length ps ≡ length qs → Guards at (length b.draft.wires) no_target → AllSafe (length b.draft.wires) no_target ps → AllSafe (length b.draft.wires) no_target qs → Answers at b.draft [] (carry at ps qs b) (λ v bs. bs ≡ carry_bits false (bits_at v ps) (bits_at v qs))
unfolding carry
carry_does at ps qs b f e g sp sq =
    let r = carries_does at (Const false) ps qs b f e g tt sp sq in
    record { does = r.does; safe = λ T o s. r.safe T o (tt, tt) }

length-carries : (at : Setting) (c : Operand) (ps qs : List Operand) (b : Built) → length ps ≡ length qs → length (carries at c ps qs b).answer ≡ length ps
length-carries at c [] qs b e = refl
length-carries at c (p ∷ []) qs b e = refl
length-carries at c (p ∷ p' ∷ ps) [] b e = cc
length-carries at c (p ∷ p' ∷ ps) (q ∷ qs) b e = ap suc (length-carries at (made (next_wire b)) (p' ∷ ps) qs (carry_bit at (next_wire b) p q c (new_wire b)) (omega (arith, e)))

pub length-carry : (at : Setting) (ps qs : List Operand) (b : Built) → length ps ≡ length qs → length (carry at ps qs b).answer ≡ length ps
unfolding carry
length-carry at ps qs b e = length-carries at (Const false) ps qs b e

pub carry_bits_do : (at : Setting) (ps qs : List Operand) (b : Built) → Fresh b.draft → length ps ≡ length qs → Guards at (length b.draft.wires) no_target → AllSafe (length b.draft.wires) no_target ps → AllSafe (length b.draft.wires) no_target qs → GivesBits at b.draft (length ps) (carry at ps qs b) (λ i v. carries_into i (number (bits_at v ps)) (number (bits_at v qs)))
carry_bits_do at ps qs b f e g sp sq =
    let r = carry_does at ps qs b f e g sp sq in
    record {
      does = does_weak r.does (λ v u cl on ag cl' t i lt.
          let h : i < length (bits_at v ps) = subst (λ n. i < n) (sym (length-bits v ps)) lt in
          ap (λ bs. get_or bs i false) t
          ∙ (carry_at false (bits_at v ps) (bits_at v qs) i (length-bits v ps ∙ (e ∙ sym (length-bits v qs))) h
          ∙ ap (λ m. nat_le (2 ^ i) m) (add-zero (number (bits_at v ps) % 2 ^ i + number (bits_at v qs) % 2 ^ i))));
      count = length-carry at ps qs b e;
      safe = r.safe;
    }

-- ---- flips by two and by three operands

places_pairs : (n : ℕ) (T : Targets) (ps qs : List Operand) → AllSafe n T ps → AllSafe n T qs → PlacesSafe n T (pairs ps qs)
places_pairs n T [] qs s t = tt
places_pairs n T (p ∷ ps) [] s t = tt
places_pairs n T (p ∷ ps) (q ∷ qs) s t = (((s.0, tt), ((t.0, tt), tt)), places_pairs n T ps qs s.1 t.1)

places_triples : (n : ℕ) (T : Targets) (ps qs cs : List Operand) → AllSafe n T ps → AllSafe n T qs → AllSafe n T cs → PlacesSafe n T (triples ps qs cs)
places_triples n T [] qs cs s t r = tt
places_triples n T (p ∷ ps) [] cs s t r = tt
places_triples n T (p ∷ ps) (q ∷ qs) [] s t r = tt
places_triples n T (p ∷ ps) (q ∷ qs) (c ∷ cs) s t r = (((s.0, tt), ((t.0, tt), ((r.0, tt), tt))), places_triples n T ps qs cs s.1 t.1 r.1)

length-pairs : (ps qs : List Operand) → length ps ≡ length qs → length (pairs ps qs) ≡ length ps
length-pairs [] qs e = refl
length-pairs (p ∷ ps) [] e = cc
length-pairs (p ∷ ps) (q ∷ qs) e = ap suc (length-pairs ps qs (omega (arith, e)))

length-triples : (ps qs cs : List Operand) → length ps ≡ length qs → length ps ≡ length cs → length (triples ps qs cs) ≡ length ps
length-triples [] qs cs e f = refl
length-triples (p ∷ ps) [] cs e f = cc
length-triples (p ∷ ps) (q ∷ qs) [] e f = cc
length-triples (p ∷ ps) (q ∷ qs) (c ∷ cs) e f = ap suc (length-triples ps qs cs (omega (arith, e)) (omega (arith, f)))

toggle_two : (b y z : Bool) → flipped (flipped b (y && true)) (z && true) ≡ flipped (flipped b y) z
toggle_two b y z = rw (and_one y, and_one z) refl

from_zero : (x : Bool) → flipped false (x && true) ≡ x
from_zero true = refl
from_zero false = refl

added : (v : Row) (ps qs cs : List Operand) → length ps ≡ length qs → length ps ≡ length cs → toggle_all (places_hold v (triples ps qs cs)) (zeros (length ps)) ≡ sum_bits (bits_at v ps) (bits_at v qs) (bits_at v cs)
added v [] qs cs e f = refl
added v (p ∷ ps) [] cs e f = cc
added v (p ∷ ps) (q ∷ qs) [] e f = cc
added v (p ∷ ps) (q ∷ qs) (c ∷ cs) e f =
    ap₂ ◌∷◌ (toggle_two (flipped false (bit_of v p && true)) (bit_of v q) (bit_of v c) ∙ ap (λ x. flipped (flipped x (bit_of v q)) (bit_of v c)) (from_zero (bit_of v p)))
    (added v ps qs cs (omega (arith, e)) (omega (arith, f)))

added_into : (v : Row) (xs : List Bool) (ys cs : List Operand) → length xs ≡ length ys → length xs ≡ length cs → toggle_all (places_hold v (pairs ys cs)) xs ≡ sum_bits xs (bits_at v ys) (bits_at v cs)
added_into v [] [] cs e f = refl
added_into v [] (y ∷ ys) [] e f = cc
added_into v [] (y ∷ ys) (c ∷ cs) e f = cc
added_into v (x ∷ xs) [] cs e f = cc
added_into v (x ∷ xs) (y ∷ ys) [] e f = cc
added_into v (x ∷ xs) (y ∷ ys) (c ∷ cs) e f = ap₂ ◌∷◌ (toggle_two x (bit_of v y) (bit_of v c)) (added_into v xs ys cs (omega (arith, e)) (omega (arith, f)))

sum_same : {xs xs' ys ys' cs cs' : List Bool} → xs ≡ xs' → ys ≡ ys' → cs ≡ cs' → sum_bits xs ys cs ≡ sum_bits xs' ys' cs'
sum_same a b c = cc

-- ---- sums on new wires

-- a row that answers new wires, which show f of the row before
pub record Sums (at : Setting) (d : DraftForm) (row : Given (List Operand)) (f : Row → List Bool) : Type 0 where
  pub does : Does at d row.built.draft no_target (λ v u. bits_at u row.answer ≡ f v)
  pub own : OwnWires d row.built.draft row.answer

pub own_from : (d e : DraftForm) (w n : ℕ) → length d.wires ≤ w → w + n ≤ length e.wires → OwnWires d e (all_made (wires_from w n))
own_from d e w n le h = record { wires = wires_from w n; answer_is = refl; new = new_from d e w n le h; different = different_from w n }

pub own_safe : (d e : DraftForm) (answer : List Operand) → OwnWires d e answer → StaySafe d e [] answer
own_safe d e answer o T none s = subst (λ ps. AllSafe (length e.wires) T ps) (sym o.answer_is) (safe_new d e o.wires T o.new none)

pub length-own : (w n : ℕ) → length (all_made (wires_from w n)) ≡ n
length-own w n = length-map (wires_from w n) made ∙ length-from w n

pub sum_by_does : (at : Setting) (carriers ps qs : List Operand) (b : Built) → Fresh b.draft → length carriers ≡ length ps → length ps ≡ length qs → Guards at (length b.draft.wires) no_target → AllSafe (length b.draft.wires) no_target carriers → AllSafe (length b.draft.wires) no_target ps → AllSafe (length b.draft.wires) no_target qs → Sums at b.draft (sum_by at carriers ps qs b) (λ v. sum_bits (bits_at v ps) (bits_at v qs) (carry_bits false (bits_at v carriers) (bits_at v qs)))
sum_by_does at carriers ps qs b f ec e g sc s s' =
    let n : ℕ = length b.draft.wires in
    let j : ℕ = length ps in
    let ws : List WireId = wires_from n j in
    let b1 : Built = new_wires j b in
    let m1 : ℕ = length b1.draft.wires in
    let l : m1 ≡ n + j = length-wires j b in
    let f1 : Fresh b1.draft = fresh_wires j b f in
    let up : n ≤ m1 = omega (arith, l) in
    let stay : (k : WireId) → k.number < n → no_target k ≡ false → no_target k ≡ false = λ k lt t. t in
    let g1 : Guards at m1 no_target = safe_more n m1 no_target no_target (under at []) up stay g in
    let c : Given (List Operand) = carry at carriers qs b1 in
    let ca : Answers at b1.draft [] c (λ v bs. bs ≡ carry_bits false (bits_at v carriers) (bits_at v qs)) =
    carry_does at carriers qs b1 f1 (ec ∙ e) g1 (safe_more n m1 no_target no_target carriers up stay sc) (safe_more n m1 no_target no_target qs up stay s') in
    let cs : List Operand = c.answer in
    let lc : length ps ≡ length cs = sym ec ∙ sym (length-carry at carriers qs b1 (ec ∙ e)) in
    let m : ℕ = length c.built.draft.wires in
    let up2 : m1 ≤ m = does_grown ca.does in
    let le : n ≤ m = omega (arith, up, up2) in
    let r : Does at c.built.draft (flip_up at ws (triples ps qs cs) c.built).draft (among ws) (λ v u. values_at u ws ≡ toggle_all (places_hold v (triples ps qs cs)) (values_at v ws)) =
    up_does at ws (triples ps qs cs) c.built (does_fresh ca.does f1) (length-from n j ∙ sym (length-triples ps qs cs e lc))
    (below_from n j m (omega (arith, l, up2))) (different_from n j)
    (safe_from n n m j (under at []) (omega arith) le g)
    (places_triples m (among ws) ps qs cs (safe_from n n m j ps (omega arith) le s) (safe_from n n m j qs (omega arith) le s')
    (ca.safe (among ws) (λ k lk. among_past n j k (omega (arith, l, lk))) tt)) in
    let up3 : m ≤ length (flip_up at ws (triples ps qs cs) c.built).draft.wires = does_grown r in
    let two = does_then (among ws) ca.does r g1 (λ k lt t. (refl, t)) in
    record {
      does = does_weak (does_made j b two g (λ k lt. among_from n j k lt))
          (λ v u cl on ag cl' t.
          let kept : Agree n no_target t.mid v = λ k lt o. t.kept k (omega (arith, lt, up)) o in
          let ops : bits_at t.mid ps ≡ bits_at v ps = bits_same n no_target t.mid v ps s kept in
          let ops' : bits_at t.mid qs ≡ bits_at v qs = bits_same n no_target t.mid v qs s' kept in
          let blank' : values_at t.mid ws ≡ zeros j = values_same m1 no_target t.mid v ws (below_from n j m1 (omega (arith, l))) (all_off_none ws) t.kept ∙ values_zero v n j (λ k lk. clean_above b.draft v f cl k lk) in
          bits_made u ws ∙ (t.second ∙ (ap (toggle_all (places_hold t.mid (triples ps qs cs))) blank' ∙ (added t.mid ps qs cs e lc ∙ sum_same ops ops' t.first))));
      own = own_from b.draft (flip_up at ws (triples ps qs cs) c.built).draft n j (omega arith) (omega (arith, l, up2, up3));
    }

-- ---- sums into wires

pub safe_made : (n : ℕ) (T : Targets) (ws : List WireId) → Below n ws → AllOff T ws → AllSafe n T (all_made ws)
safe_made n T [] b o = tt
safe_made n T (w ∷ ws) b o = ((b.0, o.0), safe_made n T ws b.1 o.1)

pub safe_negated : (n : ℕ) (T : Targets) (ps : List Operand) → AllSafe n T ps → AllSafe n T (all_negated ps)
safe_negated n T [] s = tt
safe_negated n T (p ∷ ps) s = (negated_safe n T p s.0, safe_negated n T ps s.1)

pub bits_negated : (v : Row) (ps : List Operand) → bits_at v (all_negated ps) ≡ nots (bits_at v ps)
bits_negated v [] = refl
bits_negated v (p ∷ ps) = ap₂ ◌∷◌ (negated_bit v p) (bits_negated v ps)

pub past : (n : ℕ) (ws : List WireId) (k : WireId) → n ≤ k.number → Below n ws → among ws k ≡ false
past n [] k le b = refl
past n (x ∷ ws) k le b = let lt = b.0 in nor (same_wire k x) (among ws k) (apart_below x.number k.number (omega (arith, lt, le))) (past n ws k le b.1)
  where
    nor : (a b : Bool) → a ≡ false → b ≡ false → a || b ≡ false
    nor a b p q = rw (p, q) refl

pub into_by_does : (at : Setting) (carriers : List Operand) (ws : List WireId) (qs : List Operand) (b : Built) → Fresh b.draft → length carriers ≡ length ws → length ws ≡ length qs → Below (length b.draft.wires) ws → Different ws → Guards at (length b.draft.wires) (among ws) → AllSafe (length b.draft.wires) no_target carriers → AllSafe (length b.draft.wires) (among ws) qs → Does at b.draft (into_by at carriers ws qs b).draft (among ws) (λ v u. values_at u ws ≡ sum_bits (values_at v ws) (bits_at v qs) (carry_bits false (bits_at v carriers) (bits_at v qs)))
into_by_does at carriers ws qs b f ec e be di gx sc sx =
    let n : ℕ = length b.draft.wires in
    let loose : (k : WireId) → k.number < n → among ws k ≡ false → no_target k ≡ false = λ k lt t. refl in
    let g : Guards at n no_target = safe_more n n (among ws) no_target (under at []) (omega arith) loose gx in
    let s : AllSafe n no_target qs = safe_more n n (among ws) no_target qs (omega arith) loose sx in
    let c : Given (List Operand) = carry at carriers qs b in
    let ca : Answers at b.draft [] c (λ v bs. bs ≡ carry_bits false (bits_at v carriers) (bits_at v qs)) = carry_does at carriers qs b f (ec ∙ e) g sc s in
    let cs : List Operand = c.answer in
    let m : ℕ = length c.built.draft.wires in
    let up : n ≤ m = does_grown ca.does in
    let stay : (k : WireId) → k.number < n → among ws k ≡ false → among ws k ≡ false = λ k lt t. t in
    let lc : length ws ≡ length cs = sym ec ∙ sym (length-carry at carriers qs b (ec ∙ e)) in
    let lq : length qs ≡ length cs = sym e ∙ lc in
    let r : Does at c.built.draft (flip_down at ws (pairs qs cs) c.built).draft (among ws) (λ v u. values_at u ws ≡ toggle_all (places_hold v (pairs qs cs)) (values_at v ws)) =
    down_does at ws (pairs qs cs) c.built (does_fresh ca.does f) (e ∙ sym (length-pairs qs cs lq)) (below_more n m ws up be) di
    (safe_more n m (among ws) (among ws) (under at []) up stay gx)
    (places_pairs m (among ws) qs cs (safe_more n m (among ws) (among ws) qs up stay sx) (ca.safe (among ws) (λ k le. past n ws k le be) tt)) in
    does_weak (does_then (among ws) ca.does r g (λ k lt t. (refl, t)))
    (λ v u cl on ag cl' t.
    let ops : bits_at t.mid qs ≡ bits_at v qs = bits_same n no_target t.mid v qs s t.kept in
    let old : values_at t.mid ws ≡ values_at v ws = values_same n no_target t.mid v ws be (all_off_none ws) t.kept in
    t.second ∙ (added_into t.mid (values_at t.mid ws) qs cs (length-values t.mid ws ∙ e) (length-values t.mid ws ∙ lc) ∙ sum_same old ops t.first))

-- ---- as numbers

pub sum_does : (at : Setting) (ps qs : List Operand) (b : Built) → Fresh b.draft → length ps ≡ length qs → Guards at (length b.draft.wires) no_target → AllSafe (length b.draft.wires) no_target ps → AllSafe (length b.draft.wires) no_target qs → GivesNumber at b.draft (length ps) (sum at ps qs b) (λ v. (number (bits_at v ps) + number (bits_at v qs)) % 2 ^ length ps)
unfolding sum
sum_does at ps qs b f e g s s' =
    let r = sum_by_does at ps ps qs b f refl e g s s s' in
    record {
      does = does_weak r.does (λ v u cl on ag cl' t.
          ap number t ∙ (sum_number (bits_at v ps) (bits_at v qs) (length-bits v ps ∙ (e ∙ sym (length-bits v qs))) ∙ ap (λ i. (number (bits_at v ps) + number (bits_at v qs)) % 2 ^ i) (length-bits v ps)));
      count = length-own (length b.draft.wires) (length ps);
      own = r.own;
      safe = own_safe b.draft _ _ r.own;
    }

pub difference_does : (at : Setting) (ps qs : List Operand) (b : Built) → Fresh b.draft → length ps ≡ length qs → Guards at (length b.draft.wires) no_target → AllSafe (length b.draft.wires) no_target ps → AllSafe (length b.draft.wires) no_target qs → GivesNumber at b.draft (length ps) (difference at ps qs b) (λ v. (number (bits_at v ps) + (2 ^ length ps - number (bits_at v qs))) % 2 ^ length ps)
unfolding difference
difference_does at ps qs b f e g s s' =
    let r = sum_by_does at (all_negated ps) ps qs b f (length-map ps negated) e g (safe_negated (length b.draft.wires) no_target ps s) s s' in
    record {
      does = does_weak r.does (λ v u cl on ag cl' t.
          ap number t ∙ (ap (λ xs. number (sum_bits (bits_at v ps) (bits_at v qs) (carry_bits false xs (bits_at v qs)))) (bits_negated v ps)
          ∙ (difference_number (bits_at v ps) (bits_at v qs) (length-bits v ps ∙ (e ∙ sym (length-bits v qs))) ∙ ap (λ i. (number (bits_at v ps) + (2 ^ i - number (bits_at v qs))) % 2 ^ i) (length-bits v ps))));
      count = length-own (length b.draft.wires) (length ps);
      own = r.own;
      safe = own_safe b.draft _ _ r.own;
    }

pub add_into_does : (at : Setting) (ws : List WireId) (qs : List Operand) (b : Built) → Fresh b.draft → length ws ≡ length qs → Below (length b.draft.wires) ws → Different ws → Guards at (length b.draft.wires) (among ws) → AllSafe (length b.draft.wires) (among ws) qs → Does at b.draft (add_into at ws qs b).draft (among ws) (λ v u. number (values_at u ws) ≡ (number (values_at v ws) + number (bits_at v qs)) % 2 ^ length ws)
unfolding add_into
add_into_does at ws qs b f e be di g s =
    does_weak (into_by_does at (all_made ws) ws qs b f (length-map ws made) e be di g (safe_made (length b.draft.wires) no_target ws be (all_off_none ws)) s)
    (λ v u cl on ag cl' t.
    ap number t ∙ (ap (λ xs. number (sum_bits (values_at v ws) (bits_at v qs) (carry_bits false xs (bits_at v qs)))) (bits_made v ws)
    ∙ (sum_number (values_at v ws) (bits_at v qs) (length-values v ws ∙ (e ∙ sym (length-bits v qs))) ∙ ap (λ i. (number (values_at v ws) + number (bits_at v qs)) % 2 ^ i) (length-values v ws))))

pub sub_into_does : (at : Setting) (ws : List WireId) (qs : List Operand) (b : Built) → Fresh b.draft → length ws ≡ length qs → Below (length b.draft.wires) ws → Different ws → Guards at (length b.draft.wires) (among ws) → AllSafe (length b.draft.wires) (among ws) qs → Does at b.draft (sub_into at ws qs b).draft (among ws) (λ v u. number (values_at u ws) ≡ (number (values_at v ws) + (2 ^ length ws - number (bits_at v qs))) % 2 ^ length ws)
unfolding sub_into
sub_into_does at ws qs b f e be di g s =
    let n : ℕ = length b.draft.wires in
    does_weak (into_by_does at (all_negated (all_made ws)) ws qs b f (length-map (all_made ws) negated ∙ length-map ws made) e be di g (safe_negated n no_target (all_made ws) (safe_made n no_target ws be (all_off_none ws))) s)
    (λ v u cl on ag cl' t.
    let carriers : bits_at v (all_negated (all_made ws)) ≡ nots (values_at v ws) = bits_negated v (all_made ws) ∙ ap nots (bits_made v ws) in
    ap number t ∙ (ap (λ xs. number (sum_bits (values_at v ws) (bits_at v qs) (carry_bits false xs (bits_at v qs)))) carriers
    ∙ (difference_number (values_at v ws) (bits_at v qs) (length-values v ws ∙ (e ∙ sym (length-bits v qs))) ∙ ap (λ i. (number (values_at v ws) + (2 ^ i - number (bits_at v qs))) % 2 ^ i) (length-values v ws))))
