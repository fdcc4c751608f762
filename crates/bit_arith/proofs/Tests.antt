-- The rows that compare.
use Rattle.std.proofs.Common.{◌≡◌, ℕ, suc, ◌≤◌, ◌<◌, Bool, true, false, not, ◌&&◌, List, [], ◌∷◌, ◌++◌, length, refl, sym, ap, ap₂, ◌∙◌, arith}
use Rattle.std.specs.Prelude.{int_lt}
use Rattle.sum_laws.specs.Terms.{same_bit, same_bits}
use Rattle.flat_core.specs.declared.step.WireId.{WireId}
use Rattle.flat_core.specs.Label.{wire_id, same_wire}
use Rattle.flat_mean.specs.Row.{Row, flipped}
use Rattle.bit_arith.specs.declared.operand.Operand.{Operand}
use Rattle.bit_arith.specs.declared.operand.Operand.TheVariants.{Const, Literal}
use Rattle.bit_arith.specs.Built.{Built, Setting, Given, new_wire, next_wire, made, negated, top_negated, read, under}
use Rattle.bit_arith.specs.Rows.{flip_by, alone, carry_bit, signed, differ_as, differ, matches, all_of, equal, borrow, less}
use Rattle.bit_arith.specs.Calls.{Targets, no_target, Safe, AllSafe}
use Rattle.bit_arith.specs.Values.{bit_of, all_hold, bits_at, Clean}
use Rattle.bit_arith.specs.Numbers.{number, signed_value, is_below}
use Rattle.bit_arith.specs.Does.{Fresh, Does, Tells}
use Rattle.bit_arith.proofs.Steps.{and_one, apart_below, bit_same, bits_same}
use Rattle.bit_arith.proofs.Doing.{Guards, does_fresh, does_grown, does_none, does_weak, does_then, clean_above}
use Rattle.bit_arith.proofs.Gathered.{beq_one, length-wire}
use Rattle.bit_arith.proofs.Tidying.{read_bit}
use Rattle.bit_arith.proofs.Listed.{safe_one, safe_more, toggles, each_holds, by_does}
use Rattle.bit_arith.proofs.Making.{Answers, does_made, fresh_wires, safe_next, length-bits, negated_bit, negated_safe, conjunction_does}
use Rattle.bit_arith.proofs.Adder.{majority, carry_out, nots}
use Rattle.bit_arith.proofs.Carrying.{carry_bit_does}
use Rattle.bit_arith.proofs.Orders.{below_is, top_not, length-top, signed_below}

-- ---- whether two bits differ

signed_bit : (v : Row) (x : Bool) (p : Operand) → bit_of v (signed x p) ≡ flipped (bit_of v p) x
signed_bit v true p = negated_bit v p
signed_bit v false p = refl

signed_safe : (n : ℕ) (T : Targets) (x : Bool) (p : Operand) → Safe n T p → Safe n T (signed x p)
signed_safe n T true p s = negated_safe n T p s
signed_safe n T false p s = s

flipped_swap : (x y : Bool) → flipped x y ≡ flipped y x
flipped_swap true true = refl
flipped_swap true false = refl
flipped_swap false true = refl
flipped_swap false false = refl

toggled_two : (x y r : Bool) → r ≡ false → flipped (flipped r (x && true)) (y && true) ≡ flipped x y
toggled_two true true r e = rw e refl
toggled_two true false r e = rw e refl
toggled_two false true r e = rw e refl
toggled_two false false r e = rw e refl

differ_does : (at : Setting) (p q : Operand) (b : Built) → Fresh b.draft → Guards at (length b.draft.wires) no_target → Safe (length b.draft.wires) no_target p → Safe (length b.draft.wires) no_target q → Tells at b.draft (p ∷ q ∷ []) (differ at p q b) (λ v. flipped (bit_of v p) (bit_of v q))
differ_does at p q b f g sp sq = go (read b.draft p) (read b.draft q) (λ v c. read_bit b.draft v p c) (λ v c. read_bit b.draft v q c)
  where
    go : (rp rq : Operand) → ((v : Row) → Clean b.draft v → bit_of v rp ≡ bit_of v p) → ((v : Row) → Clean b.draft v → bit_of v rq ≡ bit_of v q) → Tells at b.draft (p ∷ q ∷ []) (differ_as at rp rq p q b) (λ v. flipped (bit_of v p) (bit_of v q))
    go (Const x) rq ep eq = record {
      does = does_weak (does_none at b.draft no_target) (λ v u c on ag cl t. ap (λ (w : Row). bit_of w (signed x q)) t ∙ (signed_bit v x q ∙ (flipped_swap (bit_of v q) x ∙ ap (λ z. flipped z (bit_of v q)) (ep v c))));
      safe = λ T o s. signed_safe (length b.draft.wires) T x q s.1.0;
    }
    go (Literal l) (Const y) ep eq = record {
      does = does_weak (does_none at b.draft no_target) (λ v u c on ag cl t. ap (λ (w : Row). bit_of w (signed y p)) t ∙ (signed_bit v y p ∙ ap (flipped (bit_of v p)) (eq v c)));
      safe = λ T o s. signed_safe (length b.draft.wires) T y p s.0;
    }
    go (Literal l) (Literal m) ep eq =
        let n : ℕ = length b.draft.wires in
        let w : WireId = wire_id n in
        let b1 : Built = new_wire b in
        let lw : length b1.draft.wires ≡ suc n = length-wire b.draft in
        let k : ℕ = length b1.draft.wires in
        let hn : n < k = omega (arith, lw) in
        let s' : AllSafe k (same_wire w) (p ∷ q ∷ []) = safe_next n k (p ∷ q ∷ []) hn (sp, (sq, tt)) in
        let r : Does at b1.draft (flip_by at w (alone p ∷ alone q ∷ []) b1).draft (same_wire w) (λ v u. u n ≡ toggles (each_holds v (alone p ∷ alone q ∷ [])) (v n)) =
        by_does at w (alone p ∷ alone q ∷ []) b1 (fresh_wires 1 b f) hn (safe_next n k (under at []) hn g) ((s'.0, tt), ((s'.1.0, tt), tt)) in
        let up : k ≤ length (flip_by at w (alone p ∷ alone q ∷ []) b1).draft.wires = does_grown r in
        record {
          does = does_weak (does_made 1 b r g (λ i lt. apart_below i.number n lt))
              (λ v u c on ag cl t. beq_one (u n) ∙ (t ∙ toggled_two (bit_of v p) (bit_of v q) (v n) (clean_above b.draft v f c w (omega arith))));
          safe = λ T o s. (omega (arith, hn, up), o w (omega arith));
        }

-- ---- that bits are the same, place by place

abbrev pub same_places : List Bool → List Bool → List Bool
same_places (x ∷ xs) (y ∷ ys) = not (flipped x y) ∷ same_places xs ys
same_places _ _ = []

abbrev pub all_true : List Bool → Bool
all_true [] = true
all_true (b ∷ bs) = b && all_true bs

places_same : (x y : Bool) → not (flipped x y) ≡ same_bit x y
places_same true true = refl
places_same true false = refl
places_same false true = refl
places_same false false = refl

all_places : (xs ys : List Bool) → length xs ≡ length ys → all_true (same_places xs ys) ≡ same_bits xs ys
all_places [] [] e = refl
all_places [] (y ∷ ys) e = cc
all_places (x ∷ xs) [] e = cc
all_places (x ∷ xs) (y ∷ ys) e = ap₂ ◌&&◌ (places_same x y) (all_places xs ys (omega (arith, e)))

pub safe_append : (n : ℕ) (T : Targets) (ps qs : List Operand) → AllSafe n T ps → AllSafe n T qs → AllSafe n T (ps ++ qs)
safe_append n T [] qs s t = t
safe_append n T (p ∷ ps) qs s t = (s.0, safe_append n T ps qs s.1 t)

pub safe_left : (n : ℕ) (T : Targets) (ps qs : List Operand) → AllSafe n T (ps ++ qs) → AllSafe n T ps
safe_left n T [] qs s = tt
safe_left n T (p ∷ ps) qs s = (s.0, safe_left n T ps qs s.1)

pub safe_right : (n : ℕ) (T : Targets) (ps qs : List Operand) → AllSafe n T (ps ++ qs) → AllSafe n T qs
safe_right n T [] qs s = s
safe_right n T (p ∷ ps) qs s = safe_right n T ps qs s.1

pub matches_do : (at : Setting) (ps qs : List Operand) (b : Built) → Fresh b.draft → length ps ≡ length qs → Guards at (length b.draft.wires) no_target → AllSafe (length b.draft.wires) no_target ps → AllSafe (length b.draft.wires) no_target qs → Answers at b.draft (ps ++ qs) (matches at ps qs b) (λ v bs. bs ≡ same_places (bits_at v ps) (bits_at v qs))
matches_do at [] qs b f e g s t = record { does = does_weak (does_none at b.draft no_target) (λ v u c on ag cl q. refl); safe = λ T o z. tt }
matches_do at (p ∷ ps) [] b f e g s t = cc
matches_do at (p ∷ ps) (q ∷ qs) b f e g s t =
    let n : ℕ = length b.draft.wires in
    let here : Given Operand = differ at p q b in
    let h : Tells at b.draft (p ∷ q ∷ []) here (λ v. flipped (bit_of v p) (bit_of v q)) = differ_does at p q b f g s.0 t.0 in
    let b1 : Built = here.built in
    let m : ℕ = length b1.draft.wires in
    let up : n ≤ m = does_grown h.does in
    let stay : (U : Targets) (k : WireId) → k.number < n → U k ≡ false → U k ≡ false = λ U k lt o. o in
    let rest : Given (List Operand) = matches at ps qs b1 in
    let ih : Answers at b1.draft (ps ++ qs) rest (λ v bs. bs ≡ same_places (bits_at v ps) (bits_at v qs)) =
    matches_do at ps qs b1 (does_fresh h.does f) (omega (arith, e)) (safe_more n m no_target no_target (under at []) up (stay no_target) g) (safe_more n m no_target no_target ps up (stay no_target) s.1) (safe_more n m no_target no_target qs up (stay no_target) t.1) in
    let up2 : m ≤ length rest.built.draft.wires = does_grown ih.does in
    let op_safe : Safe m no_target here.answer = h.safe no_target (λ k le. refl) (s.0, (t.0, tt)) in
    record {
      does = does_weak (does_then no_target h.does ih.does g (λ k lt o. (refl, refl)))
          (λ v u c on ag cl r.
          let ops : bits_at r.mid ps ≡ bits_at v ps = bits_same n no_target r.mid v ps s.1 r.kept in
          let ops' : bits_at r.mid qs ≡ bits_at v qs = bits_same n no_target r.mid v qs t.1 r.kept in
          ap₂ ◌∷◌ (negated_bit u here.answer ∙ ap not (bit_same m no_target u r.mid here.answer op_safe r.stays ∙ r.first)) (r.second ∙ ap₂ same_places ops ops'));
      safe = λ U o z.
          let x : AllSafe n U (p ∷ ps) = safe_left n U (p ∷ ps) (q ∷ qs) z in
          let y : AllSafe n U (q ∷ qs) = safe_right n U (p ∷ ps) (q ∷ qs) z in (
            safe_one m (length rest.built.draft.wires) U U (negated here.answer) up2 (λ k lt i. i) (negated_safe m U here.answer (h.safe U o (x.0, (y.0, tt)))),
            ih.safe U (λ k le. o k (omega (arith, up, le))) (safe_append m U ps qs (safe_more n m U U ps up (stay U) x.1) (safe_more n m U U qs up (stay U) y.1)),
          );
    }

holds_bits : (v : Row) (ps : List Operand) → all_hold v ps ≡ all_true (bits_at v ps)
holds_bits v [] = refl
holds_bits v (p ∷ ps) = ap (λ b. bit_of v p && b) (holds_bits v ps)

all_of_does : (at : Setting) (ms : List Operand) (b : Built) → Fresh b.draft → Guards at (length b.draft.wires) no_target → AllSafe (length b.draft.wires) no_target ms → Tells at b.draft ms (all_of at ms b) (λ v. all_hold v ms)
all_of_does at [] b f g s = let r = conjunction_does at [] b f g s in record { does = r.does; safe = λ T o z. r.safe T o tt }
all_of_does at (m ∷ []) b f g s = record { does = does_weak (does_none at b.draft no_target) (λ v u c on ag cl t. ap (λ (w : Row). bit_of w m) t ∙ sym (and_one (bit_of v m))); safe = λ T o z. z.0 }
all_of_does at (m ∷ m' ∷ ms) b f g s = let r = conjunction_does at (m ∷ m' ∷ ms) b f g s in record { does = r.does; safe = λ T o z. r.safe T o tt }

pub equal_does : (at : Setting) (ps qs : List Operand) (b : Built) → Fresh b.draft → length ps ≡ length qs → Guards at (length b.draft.wires) no_target → AllSafe (length b.draft.wires) no_target ps → AllSafe (length b.draft.wires) no_target qs → Tells at b.draft (ps ++ qs) (equal at ps qs b) (λ v. same_bits (bits_at v ps) (bits_at v qs))
unfolding equal
equal_does at ps qs b f e g s t =
    let n : ℕ = length b.draft.wires in
    let ms : Given (List Operand) = matches at ps qs b in
    let r : Answers at b.draft (ps ++ qs) ms (λ v bs. bs ≡ same_places (bits_at v ps) (bits_at v qs)) = matches_do at ps qs b f e g s t in
    let m : ℕ = length ms.built.draft.wires in
    let up : n ≤ m = does_grown r.does in
    let g1 : Guards at m no_target = safe_more n m no_target no_target (under at []) up (λ k lt o. o) g in
    let q : Tells at ms.built.draft ms.answer (all_of at ms.answer ms.built) (λ v. all_hold v ms.answer) = all_of_does at ms.answer ms.built (does_fresh r.does f) g1 (r.safe no_target (λ k le. refl) (safe_append n no_target ps qs s t)) in
    record {
      does = does_weak (does_then no_target r.does q.does g (λ k lt o. (refl, refl)))
          (λ v u c on ag cl x. x.second ∙ (holds_bits x.mid ms.answer ∙ (ap all_true x.first ∙ all_places (bits_at v ps) (bits_at v qs) (length-bits v ps ∙ (e ∙ sym (length-bits v qs))))));
      safe = λ U o z. q.safe U (λ k le. o k (omega (arith, up, le))) (r.safe U o z);
    }

-- ---- order

out_same : {c c' : Bool} {xs xs' ys ys' : List Bool} → c ≡ c' → xs ≡ xs' → ys ≡ ys' → carry_out c xs ys ≡ carry_out c' xs' ys'
out_same a b c = cc

borrow_does : (at : Setting) (c : Operand) (ps qs : List Operand) (b : Built) → Fresh b.draft → length ps ≡ length qs → Guards at (length b.draft.wires) no_target → Safe (length b.draft.wires) no_target c → AllSafe (length b.draft.wires) no_target ps → AllSafe (length b.draft.wires) no_target qs → Tells at b.draft (c ∷ []) (borrow at c ps qs b) (λ v. carry_out (bit_of v c) (nots (bits_at v ps)) (bits_at v qs))
borrow_does at c [] qs b f e g sc sp sq = record { does = does_weak (does_none at b.draft no_target) (λ v u cl on ag cl' t. ap (λ (w : Row). bit_of w c) t); safe = λ T o s. s.0 }
borrow_does at c (p ∷ ps) [] b f e g sc sp sq = cc
borrow_does at c (p ∷ ps) (q ∷ qs) b f e g sc sp sq =
    let n : ℕ = length b.draft.wires in
    let w : WireId = next_wire b in
    let b1 : Built = carry_bit at w (negated p) q c (new_wire b) in
    let m : ℕ = length b1.draft.wires in
    let h : Tells at b.draft [] (record { answer = made w; built = b1 }) (λ v. majority (bit_of v (negated p)) (bit_of v q) (bit_of v c)) =
    carry_bit_does at (negated p) q c b f g (negated_safe n no_target p sp.0, (sq.0, (sc, tt))) in
    let up : n ≤ m = does_grown h.does in
    let keep : (k : WireId) → k.number < n → no_target k ≡ false → no_target k ≡ false = λ k lt t. t in
    let rest : Given Operand = borrow at (made w) ps qs b1 in
    let ih : Tells at b1.draft (made w ∷ []) rest (λ v. carry_out (bit_of v (made w)) (nots (bits_at v ps)) (bits_at v qs)) =
    borrow_does at (made w) ps qs b1 (does_fresh h.does f) (omega (arith, e)) (safe_more n m no_target no_target (under at []) up keep g) (h.safe no_target (λ k le. refl) tt)
    (safe_more n m no_target no_target ps up keep sp.1) (safe_more n m no_target no_target qs up keep sq.1) in
    record {
      does = does_weak (does_then no_target h.does ih.does g (λ k lt t. (t, t)))
          (λ v u cl on ag cl' t.
          let ops : bits_at t.mid ps ≡ bits_at v ps = bits_same n no_target t.mid v ps sp.1 t.kept in
          let ops' : bits_at t.mid qs ≡ bits_at v qs = bits_same n no_target t.mid v qs sq.1 t.kept in
          t.second ∙ out_same (t.first ∙ ap (λ z. majority z (bit_of v q) (bit_of v c)) (negated_bit v p)) (ap nots ops) ops');
      safe = λ T o s. ih.safe T (λ k le. o k (omega (arith, up, le))) (h.safe T o tt, tt);
    }

pub bits_top : (v : Row) (ps : List Operand) → bits_at v (top_negated ps) ≡ top_not (bits_at v ps)
bits_top v [] = refl
bits_top v (p ∷ []) = ap (λ b. b ∷ []) (negated_bit v p)
bits_top v (p ∷ q ∷ ps) = ap (λ bs. bit_of v p ∷ bs) (bits_top v (q ∷ ps))

pub safe_top : (n : ℕ) (T : Targets) (ps : List Operand) → AllSafe n T ps → AllSafe n T (top_negated ps)
safe_top n T [] s = tt
safe_top n T (p ∷ []) s = (negated_safe n T p s.0, tt)
safe_top n T (p ∷ q ∷ ps) s = (s.0, safe_top n T (q ∷ ps) s.1)

length-top_negated : (ps : List Operand) → length (top_negated ps) ≡ length ps
length-top_negated [] = refl
length-top_negated (p ∷ []) = refl
length-top_negated (p ∷ q ∷ ps) = ap suc (length-top_negated (q ∷ ps))

pub less_does : (at : Setting) (with_sign : Bool) (ps qs : List Operand) (b : Built) → Fresh b.draft → length ps ≡ length qs → Guards at (length b.draft.wires) no_target → AllSafe (length b.draft.wires) no_target ps → AllSafe (length b.draft.wires) no_target qs → Tells at b.draft [] (less at with_sign ps qs b) (λ v. is_below with_sign (length ps) (number (bits_at v ps)) (number (bits_at v qs)))
unfolding less
less_does at false ps qs b f e g s t =
    let r = borrow_does at (Const false) ps qs b f e g tt s t in
    record {
      does = does_weak r.does (λ v u cl on ag cl' q. q ∙ below_is (bits_at v ps) (bits_at v qs) (length-bits v ps ∙ (e ∙ sym (length-bits v qs))));
      safe = λ T o z. r.safe T o (tt, tt);
    }
less_does at true ps qs b f e g s t =
    let n : ℕ = length b.draft.wires in
    let r = borrow_does at (Const false) (top_negated ps) (top_negated qs) b f (length-top_negated ps ∙ (e ∙ sym (length-top_negated qs))) g tt (safe_top n no_target ps s) (safe_top n no_target qs t) in
    record {
      does = does_weak r.does (λ v u cl on ag cl' q.
          let l : length (bits_at v ps) ≡ length (bits_at v qs) = length-bits v ps ∙ (e ∙ sym (length-bits v qs)) in
          q ∙ (out_same refl (ap nots (bits_top v ps)) (bits_top v qs)
          ∙ (below_is (top_not (bits_at v ps)) (top_not (bits_at v qs)) (length-top (bits_at v ps) ∙ (l ∙ sym (length-top (bits_at v qs))))
          ∙ (signed_below (bits_at v ps) (bits_at v qs) l
          ∙ ap (λ k. int_lt (signed_value k (number (bits_at v ps))) (signed_value k (number (bits_at v qs)))) (length-bits v ps)))));
      safe = λ T o z. r.safe T o (tt, tt);
    }
