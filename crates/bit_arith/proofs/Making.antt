-- New wires, and the rows that copy and flip.
use Rattle.std.proofs.Common.{◌≡◌, ℕ, zero, suc, ◌+◌, ◌≤◌, ◌<◌, Bool, true, false, not, ◌&&◌, ◌||◌, List, [], ◌∷◌, ◌++◌, length, None, refl, sym, ap, ap₂, ◌∙◌, subst, arith, length-append, append_assoc, append-nil}
use Rattle.std.proofs.lemmas.List.{length-map}
use Rattle.std.specs.Bool.{beq}
use Rattle.flat_core.specs.declared.step.WireId.{WireId}
use Rattle.flat_core.specs.declared.step.End.TheVariants.{Dropped}
use Rattle.flat_core.specs.Form.{DraftForm}
use Rattle.flat_core.specs.Label.{wire_id, same_wire}
use Rattle.flat_mean.specs.Row.{Row, flipped}
use Rattle.bit_arith.specs.declared.operand.Operand.{Operand}
use Rattle.bit_arith.specs.declared.operand.Operand.TheVariants.{Const, Literal}
use Rattle.bit_arith.specs.Built.{Built, Setting, Given, new_wire, new_wires, next_wire, wires_from, made, all_made, negated, under}
use Rattle.bit_arith.specs.Rows.{flip, flip_up, singles, copy, flip_each, both, either}
use Rattle.bit_arith.specs.Calls.{Targets, no_target, Safe, AllSafe, among}
use Rattle.bit_arith.specs.Values.{bit_of, all_hold, bits_at, values_at, flip_bits}
use Rattle.bit_arith.specs.Does.{dropped_wires, Fresh, Grows, Does, NoneNew, AllNew, Below, Different, StaySafe, Copies, Tells}
use Rattle.bit_arith.proofs.Steps.{and_one, apart_below, apart_above}
use Rattle.bit_arith.proofs.Doing.{Guards, length-dropped, does_fresh, does_grown, does_weak, does_then, clean_above}
use Rattle.bit_arith.proofs.Gathered.{beq_one, flipped_zero, length-wire}
use Rattle.bit_arith.proofs.Tidying.{flip_does, FlipIf}
use Rattle.bit_arith.proofs.Listed.{safe_more, safe_under, toggle_all, places_hold, PlacesSafe, up_does}

-- a row that answers operands, of whose bits Q tells, and changes no old wire
pub record Answers (at : Setting) (d : DraftForm) (of : List Operand) (row : Given (List Operand)) (Q : Row → List Bool → Type 0) : Type 0 where
  pub does : Does at d row.built.draft no_target (λ v u. Q v (bits_at u row.answer))
  pub safe : StaySafe d row.built.draft of row.answer

-- ---- new wires

pub new_wires_steps : (n : ℕ) (b : Built) → (new_wires n b).draft.steps ≡ b.draft.steps
new_wires_steps zero b = refl
new_wires_steps (suc n) b = new_wires_steps n (new_wire b)

pub new_wires_wires : (n : ℕ) (b : Built) → (new_wires n b).draft.wires ≡ b.draft.wires ++ dropped_wires n
new_wires_wires zero b = sym (append-nil b.draft.wires)
new_wires_wires (suc n) b = new_wires_wires n (new_wire b) ∙ append_assoc b.draft.wires (record { input = false; ending = Dropped } ∷ []) (dropped_wires n)

pub length-wires : (n : ℕ) (b : Built) → length (new_wires n b).draft.wires ≡ length b.draft.wires + n
length-wires n b = ap length (new_wires_wires n b) ∙ (length-append b.draft.wires (dropped_wires n) ∙ ap (λ k. length b.draft.wires + k) (length-dropped n))

pub grows_wires : (n : ℕ) (b : Built) (T : Targets) → Grows b.draft (new_wires n b).draft T []
grows_wires n b T = record {
  more = n;
  wires = new_wires_wires n b;
  steps = new_wires_steps n b ∙ sym (append-nil b.draft.steps);
  spares = λ w lt t. refl;
  above = λ w le. refl;
}

pub does_wires : (at : Setting) (n : ℕ) (b : Built) (T : Targets) → Does at b.draft (new_wires n b).draft T (λ v u. u ≡ v)
does_wires at n b T = record {
  new = [];
  grows = grows_wires n b T;
  all_x = tt;
  still = λ v c no. refl;
  gives = λ v c yes. refl;
}

-- a row over new wires changes no old one
pub does_made : {at : Setting} (n : ℕ) (b : Built) {e : DraftForm} {T : Targets} {Q : Row → Row → Type 0} → Does at (new_wires n b).draft e T Q → Guards at (length b.draft.wires) no_target → ((w : WireId) → w.number < length b.draft.wires → T w ≡ false) → Does at b.draft e no_target Q
does_made {at = at} n b {T = T} {Q = Q} r g o =
    does_weak (does_then no_target (does_wires at n b no_target) r g (λ k lt t. (refl, o k lt)))
    (λ v u c on ag cl t. subst (λ m. Q m u) t.first t.second)

pub fresh_wires : (n : ℕ) (b : Built) → Fresh b.draft → Fresh (new_wires n b).draft
fresh_wires n b f = does_fresh (does_wires (record { line = 0; condition = None }) n b no_target) f

-- ---- their numbers

pub length-from : (w n : ℕ) → length (wires_from w n) ≡ n
length-from w zero = refl
length-from w (suc n) = ap suc (length-from (suc w) n)

nor : (a b : Bool) → a ≡ false → b ≡ false → a || b ≡ false
nor a b p q = rw (p, q) refl

pub among_from : (w n : ℕ) (k : WireId) → k.number < w → among (wires_from w n) k ≡ false
among_from w zero k h = refl
among_from w (suc n) k h = nor (same_wire k (wire_id w)) (among (wires_from (suc w) n) k) (apart_above k.number w h) (among_from (suc w) n k (omega (arith, h)))

pub among_past : (w n : ℕ) (k : WireId) → w + n ≤ k.number → among (wires_from w n) k ≡ false
among_past w zero k h = refl
among_past w (suc n) k h = nor (same_wire k (wire_id w)) (among (wires_from (suc w) n) k) (apart_below w k.number (omega (arith, h))) (among_past (suc w) n k (omega (arith, h)))

pub different_from : (w n : ℕ) → Different (wires_from w n)
different_from w zero = tt
different_from w (suc n) = (among_from (suc w) n (wire_id w) (omega arith), different_from (suc w) n)

pub below_from : (w n m : ℕ) → w + n ≤ m → Below m (wires_from w n)
below_from w zero m h = tt
below_from w (suc n) m h = (omega (arith, h), below_from (suc w) n m (omega (arith, h)))

pub new_from : (d e : DraftForm) (w n : ℕ) → length d.wires ≤ w → w + n ≤ length e.wires → AllNew d e (wires_from w n)
new_from d e w zero le h = tt
new_from d e w (suc n) le h = (le, omega (arith, h), new_from d e (suc w) n (omega (arith, le)) (omega (arith, h)))

pub safe_new : (d e : DraftForm) (ws : List WireId) (T : Targets) → AllNew d e ws → NoneNew d T → AllSafe (length e.wires) T (all_made ws)
safe_new d e [] T s o = tt
safe_new d e (w ∷ ws) T s o = ((s.1, o w s.0), safe_new d e ws T s.2 o)

abbrev pub zeros : ℕ → List Bool
zeros zero = []
zeros (suc n) = false ∷ zeros n

pub values_zero : (v : Row) (w n : ℕ) → ((k : WireId) → w ≤ k.number → v k.number ≡ false) → values_at v (wires_from w n) ≡ zeros n
values_zero v w zero h = refl
values_zero v w (suc n) h = ap₂ ◌∷◌ (h (wire_id w) (omega arith)) (values_zero v (suc w) n (λ k l. h k (omega (arith, l))))

-- operands of old wires are safe from new ones
pub safe_from : (n w m j : ℕ) (ps : List Operand) → n ≤ w → n ≤ m → AllSafe n no_target ps → AllSafe m (among (wires_from w j)) ps
safe_from n w m j ps le le' = safe_more n m no_target (among (wires_from w j)) ps le' (λ k lt t. among_from w j k (omega (arith, le, lt)))

pub safe_next : (n m : ℕ) (ps : List Operand) → n < m → AllSafe n no_target ps → AllSafe m (same_wire (wire_id n)) ps
safe_next n m ps le = safe_more n m no_target (same_wire (wire_id n)) ps (omega (arith, le)) (λ k lt t. apart_below k.number n lt)

pub bits_made : (v : Row) (ws : List WireId) → bits_at v (all_made ws) ≡ values_at v ws
bits_made v [] = refl
bits_made v (w ∷ ws) = ap₂ ◌∷◌ (beq_one (v w.number)) (bits_made v ws)

-- ---- flips of each wire by its operand

pub places_singles : (n : ℕ) (T : Targets) (ps : List Operand) → AllSafe n T ps → PlacesSafe n T (singles ps)
places_singles n T [] s = tt
places_singles n T (p ∷ ps) s = (((s.0, tt), tt), places_singles n T ps s.1)

pub length-singles : (ps : List Operand) → length (singles ps) ≡ length ps
length-singles ps = length-map ps (λ p. (p ∷ []) ∷ [])

flip_zeros : (ys : List Bool) → flip_bits (zeros (length ys)) ys ≡ ys
flip_zeros [] = refl
flip_zeros (y ∷ ys) = ap₂ ◌∷◌ (flipped_zero false y refl) (flip_zeros ys)

flipped_singles : (v : Row) (xs : List Bool) (ps : List Operand) → length xs ≡ length ps → toggle_all (places_hold v (singles ps)) xs ≡ flip_bits xs (bits_at v ps)
flipped_singles v [] [] e = refl
flipped_singles v [] (p ∷ ps) e = cc
flipped_singles v (x ∷ xs) [] e = cc
flipped_singles v (x ∷ xs) (p ∷ ps) e = ap₂ ◌∷◌ (ap (flipped x) (and_one (bit_of v p))) (flipped_singles v xs ps (omega (arith, e)))

pub length-bits : (v : Row) (ps : List Operand) → length (bits_at v ps) ≡ length ps
length-bits v ps = length-map ps (bit_of v)

pub length-values : (v : Row) (ws : List WireId) → length (values_at v ws) ≡ length ws
length-values v ws = length-map ws (λ w. v w.number)

pub each_does : (at : Setting) (ws : List WireId) (ps : List Operand) (b : Built) → Fresh b.draft → length ws ≡ length ps → Below (length b.draft.wires) ws → Different ws → Guards at (length b.draft.wires) (among ws) → AllSafe (length b.draft.wires) (among ws) ps → Does at b.draft (flip_up at ws (singles ps) b).draft (among ws) (λ v u. values_at u ws ≡ flip_bits (values_at v ws) (bits_at v ps))
each_does at ws ps b f e be di g s =
    does_weak (up_does at ws (singles ps) b f (e ∙ sym (length-singles ps)) be di g (places_singles (length b.draft.wires) (among ws) ps s))
    (λ v u c on ag cl t. t ∙ flipped_singles v (values_at v ws) ps (length-values v ws ∙ e))

pub flip_each_does : (at : Setting) (ws : List WireId) (ps : List Operand) (b : Built) → Fresh b.draft → length ws ≡ length ps → Below (length b.draft.wires) ws → Different ws → Guards at (length b.draft.wires) (among ws) → AllSafe (length b.draft.wires) (among ws) ps → Does at b.draft (flip_each at ws ps b).draft (among ws) (λ v u. values_at u ws ≡ flip_bits (values_at v ws) (bits_at v ps))
unfolding flip_each
flip_each_does at ws ps b f e be di g s = each_does at ws ps b f e be di g s

-- ---- copies

pub copy_does : (at : Setting) (ps : List Operand) (b : Built) → Fresh b.draft → Guards at (length b.draft.wires) no_target → AllSafe (length b.draft.wires) no_target ps → Copies at b.draft (copy at ps b) (λ v. bits_at v ps)
unfolding copy
copy_does at ps b f g s =
    let n : ℕ = length b.draft.wires in
    let j : ℕ = length ps in
    let ws : List WireId = wires_from n j in
    let b1 : Built = new_wires j b in
    let l : length b1.draft.wires ≡ n + j = length-wires j b in
    let le : n ≤ length b1.draft.wires = omega (arith, l) in
    let r : Does at b1.draft (flip_up at ws (singles ps) b1).draft (among ws) (λ v u. values_at u ws ≡ flip_bits (values_at v ws) (bits_at v ps)) =
    each_does at ws ps b1 (fresh_wires j b f) (length-from n j) (below_from n j (length b1.draft.wires) (omega (arith, l))) (different_from n j)
    (safe_from n n (length b1.draft.wires) j (under at []) (omega arith) le g)
    (safe_from n n (length b1.draft.wires) j ps (omega arith) le s) in
    let up : length b1.draft.wires ≤ length (flip_up at ws (singles ps) b1).draft.wires = does_grown r in
    record {
      does = does_weak (does_made j b r g (λ k lt. among_from n j k lt))
          (λ v u c on ag cl t.
          t ∙ (ap (λ xs. flip_bits xs (bits_at v ps)) (values_zero v n j (λ k le. clean_above b.draft v f c k le) ∙ ap zeros (sym (length-bits v ps))) ∙ flip_zeros (bits_at v ps)));
      new = new_from b.draft (flip_up at ws (singles ps) b1).draft n j (omega arith) (omega (arith, l, up));
      different = different_from n j;
      safe = λ T o z. safe_new b.draft (flip_up at ws (singles ps) b1).draft ws T (new_from b.draft (flip_up at ws (singles ps) b1).draft n j (omega arith) (omega (arith, l, up))) o;
    }

-- ---- conjunctions on new wires

pub conjunction_does : (at : Setting) (ps : List Operand) (b : Built) → Fresh b.draft → Guards at (length b.draft.wires) no_target → AllSafe (length b.draft.wires) no_target ps → Tells at b.draft [] (record { answer = made (next_wire b); built = flip at (next_wire b) ps (new_wire b) }) (λ v. all_hold v ps)
conjunction_does at ps b f g s =
    let n : ℕ = length b.draft.wires in
    let w : WireId = wire_id n in
    let b1 : Built = new_wire b in
    let l : length b1.draft.wires ≡ suc n = length-wire b.draft in
    let hn : n < length b1.draft.wires = omega (arith, l) in
    let r : Does at b1.draft (flip at w ps b1).draft (same_wire w) (FlipIf w ps) =
    flip_does at w ps b1 (fresh_wires 1 b f) hn (safe_under (length b1.draft.wires) (same_wire w) at ps (safe_next n (length b1.draft.wires) (under at []) hn g) (safe_next n (length b1.draft.wires) ps hn s)) in
    let up : length b1.draft.wires ≤ length (flip at w ps b1).draft.wires = does_grown r in
    record {
      does = does_weak (does_made 1 b r g (λ k lt. apart_below k.number n lt))
          (λ v u c on ag cl t. beq_one (u n) ∙ (t ∙ flipped_zero (v n) (all_hold v ps) (clean_above b.draft v f c w (omega arith))));
      safe = λ T o s. (omega (arith, hn, up), o w (omega arith));
    }

pub both_does : (at : Setting) (p q : Operand) (b : Built) → Fresh b.draft → Guards at (length b.draft.wires) no_target → AllSafe (length b.draft.wires) no_target (p ∷ q ∷ []) → Tells at b.draft [] (both at p q b) (λ v. bit_of v p && bit_of v q)
unfolding both
both_does at p q b f g s =
    let r = conjunction_does at (p ∷ q ∷ []) b f g s in
    record {
      does = does_weak r.does (λ v u c on ag cl t. t ∙ ap (λ x. bit_of v p && x) (and_one (bit_of v q)));
      safe = r.safe;
    }

-- ---- negated operands

beq_not : (a s : Bool) → beq a (not s) ≡ not (beq a s)
beq_not true true = refl
beq_not true false = refl
beq_not false true = refl
beq_not false false = refl

pub negated_bit : (v : Row) (p : Operand) → bit_of v (negated p) ≡ not (bit_of v p)
negated_bit v (Const b) = refl
negated_bit v (Literal l) = beq_not (v l.wire.number) l.positive

pub negated_safe : (n : ℕ) (T : Targets) (p : Operand) → Safe n T p → Safe n T (negated p)
negated_safe n T (Const b) s = tt
negated_safe n T (Literal l) s = s

either_bits : (x y : Bool) → not (not x && not y) ≡ x || y
either_bits true y = refl
either_bits false true = refl
either_bits false false = refl

pub either_does : (at : Setting) (p q : Operand) (b : Built) → Fresh b.draft → Guards at (length b.draft.wires) no_target → AllSafe (length b.draft.wires) no_target (p ∷ q ∷ []) → Tells at b.draft [] (either at p q b) (λ v. bit_of v p || bit_of v q)
unfolding either
either_does at p q b f g s =
    let n : ℕ = length b.draft.wires in
    let neither : Given Operand = both at (negated p) (negated q) b in
    let r : Tells at b.draft [] neither (λ v. bit_of v (negated p) && bit_of v (negated q)) =
    both_does at (negated p) (negated q) b f g (negated_safe n no_target p s.0, (negated_safe n no_target q s.1.0, tt)) in
    record {
      does = does_weak r.does (λ v u c on ag cl t. negated_bit u neither.answer ∙ (ap not (t ∙ ap₂ ◌&&◌ (negated_bit v p) (negated_bit v q)) ∙ either_bits (bit_of v p) (bit_of v q)));
      safe = λ T o s. negated_safe (length neither.built.draft.wires) T neither.answer (r.safe T o s);
    }
