-- Rows over lists, place by place.
use Rattle.std.proofs.Common.{◌≡◌, ℕ, zero, suc, ◌+◌, ◌-◌, ◌<◌, ◌≤◌, Bool, true, false, List, [], ◌∷◌, ◌++◌, length, map, get_or, take, drop, refl, sym, ap, subst, append_assoc, append-nil, arith}
use Rattle.std.proofs.lemmas.List.{drop_more, drop_all}
use Rattle.silq_io.specs.declared.limit.LimitFault.{LimitFault}
use Rattle.flat_core.specs.declared.step.WireId.{WireId}
use Rattle.flat_core.specs.Form.{DraftForm}
use Rattle.flat_core.specs.Label.{same_wire, wire_id}
use Rattle.bit_arith.specs.declared.operand.Operand.{Operand}
use Rattle.bit_arith.specs.declared.operand.Operand.TheVariants.{Const, Literal}
use Rattle.bit_arith.specs.Built.{Built, Setting, Given, new_wire, next_wire, wires_from, made, all_made, negated, read, under, begun}
use Rattle.bit_arith.specs.Rows.{alone, flip, flip_by, flip_up, flip_down, triples, products, pairs, flip_each, carry_bit, carries, carry, signed, differ_as, differ, matches, lower, product_into}
use Rattle.bit_arith.specs.Multiples.{multiple_into}
use Rattle.bit_arith.specs.Calls.{Building, Went, Refused, Targets, among, no_target, Safe, AllSafe}
use Rattle.bit_arith.proofs.Grows.{XGrows, x_then, x_same, new_wire_x, length-new_wire, safe_more, all_safe_more, all_safe_front, all_safe_back}
use Rattle.bit_arith.proofs.Keeps.{flip_by_x, carry_bit_x, carries_x, differ_x, matches_x}
use Rattle.bit_arith.proofs.Going.{Row, went_as, went_then, went_grows, refused_on, refused_as, refused_then}
use Rattle.bit_arith.proofs.Safe.{safe_at, condition_safe, operands_safe, now_safe, under_now, beside_one, beside_new, more_wires, negated_safe}

-- what is read past the end of a list
abbrev pub wire_at : List WireId → ℕ → WireId
wire_at ws i = get_or ws i (wire_id 0)

abbrev pub bit_at : List Operand → ℕ → Operand
bit_at ps i = get_or ps i (Const false)

pub length-wires_from : (w n : ℕ) → length (wires_from w n) ≡ n
length-wires_from w zero = refl
length-wires_from w (suc n) = let e = length-wires_from (suc w) n in omega arith

-- ---- by one operand at each place

pub each_turn : (ws : List WireId) (ps : List Operand) (i : ℕ) → i < length ws → length ws ≡ length ps → (at : Setting) (b : Built) → flip_each at (drop i ws) (drop i ps) b ≡ flip_each at (drop (i + 1) ws) (drop (i + 1) ps) (flip at (wire_at ws i) (bit_at ps i ∷ []) b)
unfolding flip_each
each_turn ws ps i lt same at b =
    let e = drop_more ws i (wire_id 0) lt in
    let f = drop_more ps i (Const false) (omega arith) in
    rw (e, f)

pub each_end : (ws : List WireId) (ps : List Operand) (i : ℕ) → length ws ≤ i → (at : Setting) (b : Built) → flip_each at (drop i ws) (drop i ps) b ≡ b
unfolding flip_each
each_end ws ps i le at b = let e = drop_all i ws le in rw e

pub each_safe : (old now : Building) (ws : List WireId) (ps : List Operand) (i : ℕ) → i < length ws → length ws ≡ length ps → now.setting ≡ old.setting → length old.draft.wires ≤ length now.draft.wires → AllSafe (length old.draft.wires) (among ws) (under old.setting ps) → AllSafe (length now.draft.wires) (same_wire (wire_at ws i)) (under now.setting (bit_at ps i ∷ []))
each_safe old now ws ps i lt same kept few safe =
    let n : ℕ = length old.draft.wires in
    now_safe old now (among ws) (same_wire (wire_at ws i)) (bit_at ps i ∷ []) kept
    (beside_one n (length now.draft.wires) ws i (wire_id 0) few lt)
    (condition_safe n (among ws) old.setting ps safe)
    (safe_at n (among ws) ps i (Const false) (omega arith) (operands_safe n (among ws) old.setting ps safe), tt)

-- ---- one wire by several operands

pub alone_turn : (w : WireId) (ps : List Operand) (i : ℕ) → i < length ps → (at : Setting) (b : Built) → flip_by at w (map alone (drop i ps)) b ≡ flip_by at w (map alone (drop (i + 1) ps)) (flip at w (bit_at ps i ∷ []) b)
alone_turn w ps i lt at b = let e = drop_more ps i (Const false) lt in rw e

pub alone_end : (w : WireId) (ps : List Operand) (i : ℕ) → length ps ≤ i → (at : Setting) (b : Built) → flip_by at w (map alone (drop i ps)) b ≡ b
alone_end w ps i le at b = let e = drop_all i ps le in rw e

pub alone_safe : (old now : Building) (w : WireId) (ps : List Operand) (i : ℕ) → i < length ps → now.setting ≡ old.setting → length old.draft.wires ≤ length now.draft.wires → AllSafe (length old.draft.wires) (same_wire w) (under old.setting ps) → AllSafe (length now.draft.wires) (same_wire w) (under now.setting (bit_at ps i ∷ []))
alone_safe old now w ps i lt kept few safe =
    let n : ℕ = length old.draft.wires in
    now_safe old now (same_wire w) (same_wire w) (bit_at ps i ∷ []) kept (more_wires n (length now.draft.wires) (same_wire w) few)
    (condition_safe n (same_wire w) old.setting ps safe)
    (safe_at n (same_wire w) ps i (Const false) lt (operands_safe n (same_wire w) old.setting ps safe), tt)

-- ---- by three operands at each place

pub three_turn : (ws : List WireId) (ps qs cs : List Operand) (i : ℕ) → i < length ws → length ws ≡ length ps → length ws ≡ length qs → length ws ≡ length cs → (at : Setting) (b : Built) → flip_up at (drop i ws) (triples (drop i ps) (drop i qs) (drop i cs)) b ≡ flip_up at (drop (i + 1) ws) (triples (drop (i + 1) ps) (drop (i + 1) qs) (drop (i + 1) cs)) (flip_by at (wire_at ws i) (map alone (bit_at ps i ∷ bit_at qs i ∷ bit_at cs i ∷ [])) b)
three_turn ws ps qs cs i lt first second third at b =
    let e = drop_more ws i (wire_id 0) lt in
    let f = drop_more ps i (Const false) (omega arith) in
    let g = drop_more qs i (Const false) (omega arith) in
    let h = drop_more cs i (Const false) (omega arith) in
    rw (e, f, g, h)

pub up_end : (ws : List WireId) (cs : List (List (List Operand))) (i : ℕ) → length ws ≤ i → (at : Setting) (b : Built) → flip_up at (drop i ws) cs b ≡ b
up_end ws cs i le at b = let e = drop_all i ws le in rw e

pub three_safe : (old now : Building) (ws : List WireId) (ps qs cs : List Operand) (i : ℕ) → i < length ws → length ws ≡ length ps → length ws ≡ length qs → length ws ≡ length cs → now.setting ≡ old.setting → length old.draft.wires ≤ length now.draft.wires → AllSafe (length old.draft.wires) (among ws) (under old.setting (ps ++ qs ++ cs)) → AllSafe (length now.draft.wires) (same_wire (wire_at ws i)) (under now.setting (bit_at ps i ∷ bit_at qs i ∷ bit_at cs i ∷ []))
three_safe old now ws ps qs cs i lt first second third kept few safe =
    let n : ℕ = length old.draft.wires in
    let all : AllSafe n (among ws) (ps ++ qs ++ cs) = operands_safe n (among ws) old.setting (ps ++ qs ++ cs) safe in
    let front : AllSafe n (among ws) (ps ++ qs) = all_safe_front n (among ws) (ps ++ qs) cs all in
    now_safe old now (among ws) (same_wire (wire_at ws i)) (bit_at ps i ∷ bit_at qs i ∷ bit_at cs i ∷ []) kept
    (beside_one n (length now.draft.wires) ws i (wire_id 0) few lt)
    (condition_safe n (among ws) old.setting (ps ++ qs ++ cs) safe) (
      safe_at n (among ws) ps i (Const false) (omega arith) (all_safe_front n (among ws) ps qs front),
      (
        safe_at n (among ws) qs i (Const false) (omega arith) (all_safe_back n (among ws) ps qs front),
        (safe_at n (among ws) cs i (Const false) (omega arith) (all_safe_back n (among ws) (ps ++ qs) cs all), tt),
      ),
    )

-- ---- by a product with one operand

pub products_turn : (ws : List WireId) (p : Operand) (qs : List Operand) (i : ℕ) → i < length ws → length ws ≡ length qs → (at : Setting) (b : Built) → flip_up at (drop i ws) (products p (drop i qs)) b ≡ flip_up at (drop (i + 1) ws) (products p (drop (i + 1) qs)) (flip at (wire_at ws i) (p ∷ bit_at qs i ∷ []) b)
products_turn ws p qs i lt same at b =
    let e = drop_more ws i (wire_id 0) lt in
    let f = drop_more qs i (Const false) (omega arith) in
    rw (e, f)

pub products_safe : (old now : Building) (ws : List WireId) (p : Operand) (qs : List Operand) (i : ℕ) → i < length ws → length ws ≡ length qs → now.setting ≡ old.setting → length old.draft.wires ≤ length now.draft.wires → AllSafe (length old.draft.wires) (among ws) (under old.setting (p ∷ qs)) → AllSafe (length now.draft.wires) (same_wire (wire_at ws i)) (under now.setting (p ∷ bit_at qs i ∷ []))
products_safe old now ws p qs i lt same kept few safe =
    let n : ℕ = length old.draft.wires in
    let all : AllSafe n (among ws) (p ∷ qs) = operands_safe n (among ws) old.setting (p ∷ qs) safe in
    now_safe old now (among ws) (same_wire (wire_at ws i)) (p ∷ bit_at qs i ∷ []) kept
    (beside_one n (length now.draft.wires) ws i (wire_id 0) few lt)
    (condition_safe n (among ws) old.setting (p ∷ qs) safe)
    (all.0, (safe_at n (among ws) qs i (Const false) (omega arith) all.1, tt))

-- ---- from the top down, by two operands at each place

-- one place more is done
pub down_turn : (ws : List WireId) (ps qs : List Operand) (i : ℕ) → i < length ws → length ws ≡ length ps → length ws ≡ length qs → (at : Setting) (b : Built) → flip_down at (drop i ws) (pairs (drop i ps) (drop i qs)) b ≡ flip_by at (wire_at ws i) (map alone (bit_at ps i ∷ bit_at qs i ∷ [])) (flip_down at (drop (i + 1) ws) (pairs (drop (i + 1) ps) (drop (i + 1) qs)) b)
down_turn ws ps qs i lt first second at b =
    let e = drop_more ws i (wire_id 0) lt in
    let f = drop_more ps i (Const false) (omega arith) in
    let g = drop_more qs i (Const false) (omega arith) in
    rw (e, f, g)

pub down_end : (ws : List WireId) (cs : List (List (List Operand))) (i : ℕ) → length ws ≤ i → (at : Setting) (b : Built) → flip_down at (drop i ws) cs b ≡ b
down_end ws cs i le at b = let e = drop_all i ws le in rw e

-- what is done so far is kept by the rest
pub down_rest : (ws : List WireId) (ps qs : List Operand) (i : ℕ) → length ws ≡ length ps → length ws ≡ length qs → (at : Setting) (b : Built) → XGrows (flip_down at (drop i ws) (pairs (drop i ps) (drop i qs)) b) (flip_down at ws (pairs ps qs) b)
down_rest ws ps qs zero first second at b = x_same (flip_down at ws (pairs ps qs) b)
down_rest [] ps qs (suc i) first second at b = x_same b
down_rest (w ∷ ws) [] qs (suc i) first second at b = absurd (omega arith)
down_rest (w ∷ ws) (p ∷ ps) [] (suc i) first second at b = absurd (omega arith)
down_rest (w ∷ ws) (p ∷ ps) (q ∷ qs) (suc i) first second at b =
    x_then (down_rest ws ps qs i (omega (arith, first)) (omega (arith, second)) at b)
    (flip_by_x at w (alone p ∷ alone q ∷ []) (flip_down at ws (pairs ps qs) b))

pub two_safe : (old now : Building) (ws : List WireId) (ps qs : List Operand) (i : ℕ) → i < length ws → length ws ≡ length ps → length ws ≡ length qs → now.setting ≡ old.setting → length old.draft.wires ≤ length now.draft.wires → AllSafe (length old.draft.wires) (among ws) (under old.setting (ps ++ qs)) → AllSafe (length now.draft.wires) (same_wire (wire_at ws i)) (under now.setting (bit_at ps i ∷ bit_at qs i ∷ []))
two_safe old now ws ps qs i lt first second kept few safe =
    let n : ℕ = length old.draft.wires in
    let all : AllSafe n (among ws) (ps ++ qs) = operands_safe n (among ws) old.setting (ps ++ qs) safe in
    now_safe old now (among ws) (same_wire (wire_at ws i)) (bit_at ps i ∷ bit_at qs i ∷ []) kept
    (beside_one n (length now.draft.wires) ws i (wire_id 0) few lt)
    (condition_safe n (among ws) old.setting (ps ++ qs) safe) (
      safe_at n (among ws) ps i (Const false) (omega arith) (all_safe_front n (among ws) ps qs all),
      (safe_at n (among ws) qs i (Const false) (omega arith) (all_safe_back n (among ws) ps qs all), tt),
    )

pub down_went : (old now new : Building) (ws : List WireId) (ps qs : List Operand) (i j : ℕ) → i ≡ j + 1 → j < length ws → length ws ≡ length ps → length ws ≡ length qs → Went old now (flip_down old.setting (drop i ws) (pairs (drop i ps) (drop i qs)) (begun old.draft)) → Went now new (flip_by now.setting (wire_at ws j) (map alone (bit_at ps j ∷ bit_at qs j ∷ [])) (begun now.draft)) → Went old new (flip_down old.setting (drop j ws) (pairs (drop j ps) (drop j qs)) (begun old.draft))
down_went old now new ws ps qs i j next lt first second w v =
    let u : Went old now (flip_down old.setting (drop (j + 1) ws) (pairs (drop (j + 1) ps) (drop (j + 1) qs)) (begun old.draft)) = subst (λ (k : ℕ). Went old now (flip_down old.setting (drop k ws) (pairs (drop k ps) (drop k qs)) (begun old.draft))) next w in
    went_as old new _ _ (sym (down_turn ws ps qs j lt first second old.setting (begun old.draft)))
    (went_then old now new _ (λ at b. flip_by at (wire_at ws j) (map alone (bit_at ps j ∷ bit_at qs j ∷ [])) b) u v)

pub down_refused : (old now : Building) (ws : List WireId) (ps qs : List Operand) (i j : ℕ) (fault : LimitFault) → i ≡ j + 1 → j < length ws → length ws ≡ length ps → length ws ≡ length qs → Went old now (flip_down old.setting (drop i ws) (pairs (drop i ps) (drop i qs)) (begun old.draft)) → Refused fault (flip_by now.setting (wire_at ws j) (map alone (bit_at ps j ∷ bit_at qs j ∷ [])) (begun now.draft)) → Refused fault (flip_down old.setting ws (pairs ps qs) (begun old.draft))
down_refused old now ws ps qs i j fault next lt first second w r =
    let u : Went old now (flip_down old.setting (drop (j + 1) ws) (pairs (drop (j + 1) ps) (drop (j + 1) qs)) (begun old.draft)) = subst (λ (k : ℕ). Went old now (flip_down old.setting (drop k ws) (pairs (drop k ps) (drop k qs)) (begun old.draft))) next w in
    refused_on fault _ _ (down_rest ws ps qs j first second old.setting (begun old.draft)).grows
    (refused_as fault _ _ (sym (down_turn ws ps qs j lt first second old.setting (begun old.draft)))
    (refused_then old now _ (λ at b. flip_by at (wire_at ws j) (map alone (bit_at ps j ∷ bit_at qs j ∷ [])) b) fault u r))

-- a call on a new wire, by operands that were safe
pub wire_safe : (old now : Building) (w : WireId) (ps : List Operand) → w ≡ next_wire (begun old.draft) → Went old now (new_wire (begun old.draft)) → AllSafe (length old.draft.wires) no_target (under old.setting ps) → AllSafe (length now.draft.wires) (same_wire w) (under now.setting ps)
wire_safe old now w ps is went safe =
    let n : ℕ = length old.draft.wires in
    let g : XGrows (begun old.draft) (begun now.draft) = went_grows old now _ (new_wire_x (begun old.draft)) went in
    let at : w.number ≡ n = ap (λ (v : WireId). v.number) is in
    now_safe old now no_target (same_wire w) ps went.kept
    (beside_new n (length now.draft.wires) no_target w g.grows.few (omega arith))
    (condition_safe n no_target old.setting ps safe) (operands_safe n no_target old.setting ps safe)

-- ---- carries

-- operands that stand in front of what a row gives
abbrev pub prepend : List Operand → Given (List Operand) → Given (List Operand)
prepend done g = record { answer = done ++ g.answer; built = g.built }

abbrev pub built_of : Given (List Operand) → Built
built_of g = g.built

pub carries_turn : (done ps qs : List Operand) (c : Operand) (i : ℕ) → i + 1 < length ps → length ps ≡ length qs → (at : Setting) (b : Built) → prepend done (carries at c (drop i ps) (drop i qs) b) ≡ prepend (done ++ c ∷ []) (carries at (made (next_wire b)) (drop (i + 1) ps) (drop (i + 1) qs) (carry_bit at (next_wire b) (bit_at ps i) (bit_at qs i) c (new_wire b)))
carries_turn done ps qs c i lt same at b =
    let e = drop_more ps i (Const false) (omega arith) in
    let f = drop_more qs i (Const false) (omega arith) in
    let g = drop_more ps (i + 1) (Const false) lt in
    rw (e, f, g, append_assoc)

pub carries_end : (done ps qs : List Operand) (c : Operand) (i : ℕ) → i + 1 ≡ length ps → (at : Setting) (b : Built) → prepend done (carries at c (drop i ps) (drop i qs) b) ≡ record { answer = done ++ c ∷ []; built = b }
carries_end done ps qs c i last at b =
    let e = drop_more ps i (Const false) (omega arith) in
    let f = drop_all (i + 1) ps (omega arith) in
    rw (e, f)

pub length-carries : (at : Setting) (c : Operand) (ps qs : List Operand) (b : Built) → length ps ≡ length qs → length (carries at c ps qs b).answer ≡ length ps
length-carries at c [] qs b same = refl
length-carries at c (p ∷ []) qs b same = refl
length-carries at c (p ∷ p' ∷ ps) [] b same = absurd (omega arith)
length-carries at c (p ∷ p' ∷ ps) (q ∷ qs) b same =
    let e = length-carries at (made (next_wire b)) (p' ∷ ps) qs (carry_bit at (next_wire b) p q c (new_wire b)) (omega (arith, same)) in
    omega (arith, e)

-- carries are on new wires
pub carries_safe : (T : Targets) (at : Setting) (c : Operand) (ps qs : List Operand) (b : Built) → ((w : WireId) → length b.draft.wires ≤ w.number → T w ≡ false) → Safe (length b.draft.wires) T c → AllSafe (length (carries at c ps qs b).built.draft.wires) T (carries at c ps qs b).answer
carries_safe T at c [] qs b new safe = tt
carries_safe T at c (p ∷ []) qs b new safe = (safe, tt)
carries_safe T at c (p ∷ p' ∷ ps) [] b new safe = (safe, tt)
carries_safe T at c (p ∷ p' ∷ ps) (q ∷ qs) b new safe =
    let next : Built = carry_bit at (next_wire b) p q c (new_wire b) in
    let longer = length-new_wire b in
    let more = (carry_bit_x at (next_wire b) p q c (new_wire b)).grows.few in
    let all = (carries_x at c (p ∷ p' ∷ ps) (q ∷ qs) b).grows.few in (
      safe_more (length b.draft.wires) _ T c all safe,
      carries_safe T at (made (next_wire b)) (p' ∷ ps) qs next (λ w past. new w (omega arith)) (omega arith, new (next_wire b) (omega arith)),
    )

-- the operands of one place, and a carry
pub places_safe : (old now : Building) (p : Operand → Operand) (ps qs : List Operand) (c : Operand) (i : ℕ) → ((x : Operand) → Safe (length now.draft.wires) no_target x → Safe (length now.draft.wires) no_target (p x)) → i < length ps → length ps ≡ length qs → now.setting ≡ old.setting → length old.draft.wires ≤ length now.draft.wires → AllSafe (length old.draft.wires) no_target (under old.setting (ps ++ qs)) → Safe (length now.draft.wires) no_target c → AllSafe (length now.draft.wires) no_target (under now.setting (p (bit_at ps i) ∷ bit_at qs i ∷ c ∷ []))
places_safe old now p ps qs c i keeps lt same kept few safe carry_safe =
    let n : ℕ = length old.draft.wires in
    let m : ℕ = length now.draft.wires in
    let all : AllSafe n no_target (ps ++ qs) = operands_safe n no_target old.setting (ps ++ qs) safe in
    under_now old now no_target no_target (p (bit_at ps i) ∷ bit_at qs i ∷ c ∷ []) kept (more_wires n m no_target few)
    (condition_safe n no_target old.setting (ps ++ qs) safe) (
      keeps (bit_at ps i) (safe_more n m no_target (bit_at ps i) few (safe_at n no_target ps i (Const false) lt (all_safe_front n no_target ps qs all))),
      (
        safe_more n m no_target (bit_at qs i) few (safe_at n no_target qs i (Const false) (omega arith) (all_safe_back n no_target ps qs all)),
        (carry_safe, tt),
      ),
    )

pub length-carry : (at : Setting) (ps qs : List Operand) (b : Built) → length ps ≡ length qs → length (carry at ps qs b).answer ≡ length ps
unfolding carry
length-carry at ps qs b same = length-carries at (Const false) ps qs b same

pub carry_safe : (T : Targets) (at : Setting) (ps qs : List Operand) (b : Built) → ((w : WireId) → length b.draft.wires ≤ w.number → T w ≡ false) → AllSafe (length (carry at ps qs b).built.draft.wires) T (carry at ps qs b).answer
unfolding carry
carry_safe T at ps qs b new = carries_safe T at (Const false) ps qs b new tt

-- the carry out of a place
abbrev pub out_of : Operand → Operand → Operand → Row
out_of p q c at b = carry_bit at (next_wire b) p q c (new_wire b)

pub out_x : (p q c : Operand) (at : Setting) (b : Built) → XGrows b (out_of p q c at b)
out_x p q c at b = x_then (new_wire_x b) (carry_bit_x at (next_wire b) p q c (new_wire b))

pub out_safe : (now new : Building) (p q c out : Operand) → out ≡ made (next_wire (begun now.draft)) → Went now new (out_of p q c now.setting (begun now.draft)) → Safe (length new.draft.wires) no_target out
out_safe now new p q c out is went =
    let b : Built = begun now.draft in
    let longer = length-new_wire b in
    let more = (carry_bit_x now.setting (next_wire b) p q c (new_wire b)).grows.few in
    let same = ap (λ (d : DraftForm). length d.wires) went.built in
    subst (λ (x : Operand). Safe (length new.draft.wires) no_target x) (sym is) (omega arith, refl)

-- ---- tests

-- two operands of one place
pub pair_safe : (old now : Building) (ps qs : List Operand) (i : ℕ) → i < length ps → length ps ≡ length qs → now.setting ≡ old.setting → length old.draft.wires ≤ length now.draft.wires → AllSafe (length old.draft.wires) no_target (under old.setting (ps ++ qs)) → AllSafe (length now.draft.wires) no_target (under now.setting (bit_at ps i ∷ bit_at qs i ∷ []))
pair_safe old now ps qs i lt same kept few safe =
    let n : ℕ = length old.draft.wires in
    let all : AllSafe n no_target (ps ++ qs) = operands_safe n no_target old.setting (ps ++ qs) safe in
    now_safe old now no_target no_target (bit_at ps i ∷ bit_at qs i ∷ []) kept (more_wires n (length now.draft.wires) no_target few)
    (condition_safe n no_target old.setting (ps ++ qs) safe) (
      safe_at n no_target ps i (Const false) lt (all_safe_front n no_target ps qs all),
      (safe_at n no_target qs i (Const false) (omega arith) (all_safe_back n no_target ps qs all), tt),
    )

pub matches_turn : (done ps qs : List Operand) (i : ℕ) → i < length ps → length ps ≡ length qs → (at : Setting) (b : Built) → prepend done (matches at (drop i ps) (drop i qs) b) ≡ prepend (done ++ negated (differ at (bit_at ps i) (bit_at qs i) b).answer ∷ []) (matches at (drop (i + 1) ps) (drop (i + 1) qs) (differ at (bit_at ps i) (bit_at qs i) b).built)
matches_turn done ps qs i lt same at b =
    let e = drop_more ps i (Const false) lt in
    let f = drop_more qs i (Const false) (omega arith) in
    rw (e, f, append_assoc)

pub matches_end : (done ps qs : List Operand) (i : ℕ) → length ps ≤ i → (at : Setting) (b : Built) → prepend done (matches at (drop i ps) (drop i qs) b) ≡ record { answer = done; built = b }
matches_end done ps qs i le at b = let e = drop_all i ps le in rw (e, append-nil)

signed_safe : (n : ℕ) (bit : Bool) (p : Operand) → Safe n no_target p → Safe n no_target (signed bit p)
signed_safe n true p s = negated_safe n no_target p s
signed_safe n false p s = s

pub differ_as_safe : (at : Setting) (s t p q : Operand) (b : Built) → Safe (length b.draft.wires) no_target p → Safe (length b.draft.wires) no_target q → Safe (length (differ_as at s t p q b).built.draft.wires) no_target (differ_as at s t p q b).answer
differ_as_safe at (Const x) t p q b f g = signed_safe (length b.draft.wires) x q g
differ_as_safe at (Literal l) (Const y) p q b f g = signed_safe (length b.draft.wires) y p f
differ_as_safe at (Literal l) (Literal m) p q b f g =
    let longer = length-new_wire b in
    let more = (flip_by_x at (next_wire b) (alone p ∷ alone q ∷ []) (new_wire b)).grows.few in
    (omega arith, refl)

pub matches_safe : (at : Setting) (ps qs : List Operand) (b : Built) → AllSafe (length b.draft.wires) no_target ps → AllSafe (length b.draft.wires) no_target qs → AllSafe (length (matches at ps qs b).built.draft.wires) no_target (matches at ps qs b).answer
matches_safe at [] qs b f g = tt
matches_safe at (p ∷ ps) [] b f g = tt
matches_safe at (p ∷ ps) (q ∷ qs) b f g =
    let here : Given Operand = differ at p q b in
    let n : ℕ = length b.draft.wires in
    let m : ℕ = length here.built.draft.wires in
    let more : n ≤ m = (differ_x at p q b).grows.few in
    let rest = (matches_x at ps qs here.built).grows.few in (
      safe_more m _ no_target (negated here.answer) rest (negated_safe m no_target here.answer (differ_as_safe at (read b.draft p) (read b.draft q) p q b f.0 g.0)),
      matches_safe at ps qs here.built (all_safe_more n m no_target ps more f.1) (all_safe_more n m no_target qs more g.1),
    )

-- ---- products

pub length-all_made : (ws : List WireId) → length (all_made ws) ≡ length ws
length-all_made [] = refl
length-all_made (w ∷ ws) = let e = length-all_made ws in omega (arith, e)

-- the bits of wires that are none of the targets
pub new_made_safe : (T : Targets) (m first n : ℕ) → first + n ≤ m → ((w : WireId) → first ≤ w.number → T w ≡ false) → AllSafe m T (all_made (wires_from first n))
new_made_safe T m first zero there new = tt
new_made_safe T m first (suc n) there new =
    ((omega arith, new (wire_id first) (omega arith)), new_made_safe T m (suc first) n (omega arith) (λ w past. new w (omega arith)))

lower-take : (qs : List Operand) (k : ℕ) → k + 1 ≤ length qs → lower (take (suc k) qs) ≡ take k qs
lower-take [] k h = absurd (omega arith)
lower-take (q ∷ qs) zero h = refl
lower-take (q ∷ []) (suc k) h = absurd (omega arith)
lower-take (q ∷ q' ∷ qs) (suc k) h = ap (λ (xs : List Operand). q ∷ xs) (lower-take (q' ∷ qs) k (omega arith))

lower-take_at : (qs : List Operand) (m k : ℕ) → m ≡ suc k → k + 1 ≤ length qs → lower (take m qs) ≡ take k qs
lower-take_at qs m k is h = subst (λ (x : ℕ). lower (take x qs) ≡ take k qs) (sym is) (lower-take qs k h)

product_step : (w : WireId) (ws : List WireId) (p : Operand) (ps qs rest : List Operand) (at : Setting) (b : Built) → lower qs ≡ rest → product_into at (w ∷ ws) (p ∷ ps) qs b ≡ product_into at ws ps rest (multiple_into at (w ∷ ws) p qs b)
product_step w ws p ps qs rest at b e = ap (λ (xs : List Operand). product_into at ws ps xs (multiple_into at (w ∷ ws) p qs b)) e

pub product_turn : (ws : List WireId) (ps qs : List Operand) (i : ℕ) → i < length ps → length ws ≡ length ps → length ps ≡ length qs → (at : Setting) (b : Built) → product_into at (drop i ws) (drop i ps) (take (length qs - i) qs) b ≡ product_into at (drop (i + 1) ws) (drop (i + 1) ps) (take (length qs - (i + 1)) qs) (multiple_into at (drop i ws) (bit_at ps i) (take (length qs - i) qs) b)
product_turn ws ps qs i lt same lengths at b =
    let e = drop_more ws i (wire_id 0) (omega arith) in
    let f = drop_more ps i (Const false) lt in
    let h : lower (take (length qs - i) qs) ≡ take (length qs - (i + 1)) qs = lower-take_at qs (length qs - i) (length qs - (i + 1)) (omega arith) (omega arith) in
    rw (e, f) (product_step (wire_at ws i) (drop (i + 1) ws) (bit_at ps i) (drop (i + 1) ps) (take (length qs - i) qs) (take (length qs - (i + 1)) qs) at b h)

pub product_end : (ws : List WireId) (ps qs : List Operand) (i : ℕ) → length ws ≤ i → (at : Setting) (b : Built) → product_into at (drop i ws) ps qs b ≡ b
product_end ws ps qs i le at b = let e = drop_all i ws le in rw e
