-- The row that multiplies, by adding multiples.
use Rattle.std.proofs.Common.{◌≡◌, ℕ, zero, suc, ◌+◌, ◌*◌, ◌^◌, ◌%◌, ◌/◌, ◌≤◌, ◌<◌, Bool, true, false, ◌&&◌, List, [], ◌∷◌, map, length, refl, sym, ap, ap₂, ◌∙◌, subst, arith, pow-suc}
use Rattle.std.proofs.lemmas.List.{length-map}
use Rattle.std.proofs.Math.Nat.{mod-add-div}
use Rattle.flat_core.specs.declared.step.WireId.{WireId}
use Rattle.flat_mean.specs.Row.{Row}
use Rattle.bit_arith.specs.declared.operand.Operand.{Operand}
use Rattle.bit_arith.specs.Built.{Built, Setting, new_wires, next_wires, wires_from, made, all_made, under}
use Rattle.bit_arith.specs.Rows.{flip_up, products, add_into, lower, product_into, product}
use Rattle.bit_arith.specs.Calls.{Targets, no_target, AllSafe, among}
use Rattle.bit_arith.specs.Values.{bit_of, bits_at, values_at}
use Rattle.bit_arith.specs.Numbers.{number}
use Rattle.bit_arith.specs.Does.{Fresh, Does, AllNew, Below, Different, OwnWires, GivesNumber}
use Rattle.bit_arith.proofs.Steps.{and_one, bits_same}
use Rattle.bit_arith.proofs.Doing.{Guards, does_fresh, does_grown, does_none, does_weak, does_then, clean_above}
use Rattle.bit_arith.proofs.Gathered.{flipped_zero}
use Rattle.bit_arith.proofs.Listed.{safe_more, below_more, toggle_all, places_hold, PlacesSafe, values_same, all_off_none, off_rest, up_does}
use Rattle.bit_arith.proofs.Making.{length-wires, does_made, fresh_wires, length-from, among_from, different_from, below_from, new_from, safe_new, zeros, values_zero, safe_from, bits_made, length-bits, length-values}
use Rattle.bit_arith.proofs.Carrying.{add_into_does, past, own_from, own_safe, length-own}
use Rattle.bit_arith.proofs.Adder.{bit, number_below, mod_of_sum}

-- ---- one multiple

abbrev pub masked : Bool → List Bool → List Bool
masked x ys = map (λ y. x && y) ys

number_masked : (x : Bool) (ys : List Bool) → number (masked x ys) ≡ bit x * number ys
number_masked true [] = refl
number_masked false [] = refl
number_masked true (y ∷ ys) = let r : number (masked true ys) ≡ 1 * number ys = number_masked true ys in omega (arith, r)
number_masked false (y ∷ ys) = let r : number (masked false ys) ≡ 0 * number ys = number_masked false ys in omega (arith, r)

places_products : (n : ℕ) (T : Targets) (p : Operand) (qs : List Operand) → AllSafe n T (p ∷ qs) → PlacesSafe n T (products p qs)
places_products n T p [] s = tt
places_products n T p (q ∷ qs) s = (((s.0, (s.1.0, tt)), tt), places_products n T p qs (s.0, s.1.1))

length-products : (p : Operand) (qs : List Operand) → length (products p qs) ≡ length qs
length-products p qs = length-map qs (λ q. (p ∷ q ∷ []) ∷ [])

multiplied : (v : Row) (p : Operand) (qs : List Operand) → toggle_all (places_hold v (products p qs)) (zeros (length qs)) ≡ masked (bit_of v p) (bits_at v qs)
multiplied v p [] = refl
multiplied v p (q ∷ qs) = ap₂ ◌∷◌ (flipped_zero false (bit_of v p && (bit_of v q && true)) refl ∙ ap (λ x. bit_of v p && x) (and_one (bit_of v q))) (multiplied v p qs)

-- new wires with a multiple
abbrev multiple_built : Setting → Operand → List Operand → Built → Built
multiple_built at p qs b = flip_up at (next_wires (length qs) b) (products p qs) (new_wires (length qs) b)

record Multiple (at : Setting) (p : Operand) (qs : List Operand) (b : Built) : Type 0 where
  does : Does at b.draft (multiple_built at p qs b).draft no_target (λ v u. values_at u (next_wires (length qs) b) ≡ masked (bit_of v p) (bits_at v qs))
  new : AllNew b.draft (multiple_built at p qs b).draft (next_wires (length qs) b)

multiple_does : (at : Setting) (p : Operand) (qs : List Operand) (b : Built) → Fresh b.draft → Guards at (length b.draft.wires) no_target → AllSafe (length b.draft.wires) no_target (p ∷ qs) → Multiple at p qs b
multiple_does at p qs b f g s =
    let n : ℕ = length b.draft.wires in
    let j : ℕ = length qs in
    let ws : List WireId = wires_from n j in
    let b1 : Built = new_wires j b in
    let m : ℕ = length b1.draft.wires in
    let l : m ≡ n + j = length-wires j b in
    let le : n ≤ m = omega (arith, l) in
    let r : Does at b1.draft (flip_up at ws (products p qs) b1).draft (among ws) (λ v u. values_at u ws ≡ toggle_all (places_hold v (products p qs)) (values_at v ws)) =
    up_does at ws (products p qs) b1 (fresh_wires j b f) (length-from n j ∙ sym (length-products p qs)) (below_from n j m (omega (arith, l))) (different_from n j)
    (safe_from n n m j (under at []) (omega arith) le g)
    (places_products m (among ws) p qs (safe_from n n m j (p ∷ qs) (omega arith) le s)) in
    let up : m ≤ length (flip_up at ws (products p qs) b1).draft.wires = does_grown r in
    record {
      does = does_weak (does_made j b r g (λ k lt. among_from n j k lt))
          (λ v u c on ag cl t. t ∙ (ap (toggle_all (places_hold v (products p qs))) (values_zero v n j (λ k lk. clean_above b.draft v f c k lk)) ∙ multiplied v p qs));
      new = new_from b.draft (flip_up at ws (products p qs) b1).draft n j (omega arith) (omega (arith, l, up));
    }

-- ---- all but the top bit

abbrev pub front : List Bool → List Bool
front [] = []
front (y ∷ []) = []
front (y ∷ y' ∷ ys) = y ∷ front (y' ∷ ys)

bits_lower : (v : Row) (qs : List Operand) → bits_at v (lower qs) ≡ front (bits_at v qs)
bits_lower v [] = refl
bits_lower v (q ∷ []) = refl
bits_lower v (q ∷ q' ∷ qs) = ap (λ bs. bit_of v q ∷ bs) (bits_lower v (q' ∷ qs))

safe_lower : (n : ℕ) (T : Targets) (qs : List Operand) → AllSafe n T qs → AllSafe n T (lower qs)
safe_lower n T [] s = tt
safe_lower n T (q ∷ []) s = tt
safe_lower n T (q ∷ q' ∷ qs) s = (s.0, safe_lower n T (q' ∷ qs) s.1)

length-lower : (qs : List Operand) (n : ℕ) → length qs ≡ suc n → length (lower qs) ≡ n
length-lower [] n e = cc
length-lower (q ∷ []) zero e = refl
length-lower (q ∷ []) (suc n) e = cc
length-lower (q ∷ q' ∷ qs) zero e = cc
length-lower (q ∷ q' ∷ qs) (suc n) e = ap suc (length-lower (q' ∷ qs) n (omega (arith, e)))

front_is : (ys : List Bool) (n : ℕ) → length ys ≡ suc n → (t : ℕ) × (number (front ys) + 2 ^ n * t ≡ number ys)
front_is [] n e = cc
front_is (y ∷ []) zero e = (bit y, omega arith)
front_is (y ∷ []) (suc n) e = cc
front_is (y ∷ y' ∷ ys) zero e = cc
front_is (y ∷ y' ∷ ys) (suc n) e =
    let (t, f) = front_is (y' ∷ ys) n (omega (arith, e)) in
    (t, rw pow-suc (omega (arith, f)))

-- ---- one multiple more

-- low bit and rest after the multiple, and the rest after all multiples
one_more : (r b q w t u k1 k2 p s x a c y : ℕ) → w ≡ 2 * u → r ≡ b + 2 * q → w * k1 + r ≡ s + x * y → u * k2 + p ≡ q + a * c → c + u * t ≡ y → w * (k1 + k2 + a * t) + (b + 2 * p) ≡ s + (x + 2 * a) * y
one_more r b q w t u k1 k2 p s x a c y e f g h i =
    let g' : 2 * u * k1 + r ≡ s + x * y = sym (ap (λ o. o * k1 + r) e) ∙ g in
    let m : a * (c + u * t) ≡ a * y = ap (λ z. a * z) i in
    rw e (omega (arith, f, g', h, m))

split_mod : (s m : ℕ) (r : ℕ) → r ≡ s % m → m * (s / m) + r ≡ s
split_mod s m r e =
    let d : s % m + m * (s / m) ≡ s = mod-add-div s m in
    omega (arith, d, e)

pub multiply : (n : ℕ) (x b : Bool) (zs ys vs qs ps : List Bool) → length ys ≡ suc n → length ps ≡ n → number (b ∷ qs) ≡ (number vs + number (masked x ys)) % 2 ^ suc n → number ps ≡ (number qs + number zs * number (front ys)) % 2 ^ n → number (b ∷ ps) ≡ (number vs + number (x ∷ zs) * number ys) % 2 ^ suc n
multiply n x b zs ys vs qs ps ly lp first then_ =
    let w : ℕ = 2 ^ suc n in
    let s : ℕ = number vs + number (masked x ys) in
    let g : w * (s / w) + number (b ∷ qs) ≡ s = split_mod s w (number (b ∷ qs)) first in
    let g' : w * (s / w) + number (b ∷ qs) ≡ number vs + bit x * number ys = g ∙ ap (λ z. number vs + z) (number_masked x ys) in
    let z : ℕ = number qs + number zs * number (front ys) in
    let h : 2 ^ n * (z / 2 ^ n) + number ps ≡ z = split_mod z (2 ^ n) (number ps) then_ in
    let (t, f) = front_is ys n ly in
    let d : w ≡ 2 * 2 ^ n = rw pow-suc (omega arith) in
    let all : w * (s / w + z / 2 ^ n + number zs * t) + number (b ∷ ps) ≡ number vs + number (x ∷ zs) * number ys =
    one_more (number (b ∷ qs)) (bit b) (number qs) w t (2 ^ n) (s / w) (z / 2 ^ n) (number ps) (number vs) (bit x) (number zs) (number (front ys)) (number ys) d refl g' h f in
    let lt : number (b ∷ ps) < w = subst (λ k. number (b ∷ ps) < 2 ^ suc k) lp (number_below (b ∷ ps)) in
    mod_of_sum w (number (b ∷ ps)) (s / w + z / 2 ^ n + number zs * t) (number vs + number (x ∷ zs) * number ys) lt all

-- ---- the row

pub product_into_does : (at : Setting) (ws : List WireId) (ps qs : List Operand) (b : Built) → Fresh b.draft → length ws ≡ length ps → length ws ≡ length qs → Below (length b.draft.wires) ws → Different ws → Guards at (length b.draft.wires) (among ws) → AllSafe (length b.draft.wires) (among ws) ps → AllSafe (length b.draft.wires) (among ws) qs → Does at b.draft (product_into at ws ps qs b).draft (among ws) (λ v u. number (values_at u ws) ≡ (number (values_at v ws) + number (bits_at v ps) * number (bits_at v qs)) % 2 ^ length ws)
product_into_does at [] ps qs b f e e' be di g sp sq = does_weak (does_none at b.draft (among [])) (λ v u c on ag cl same. zero_is (number (bits_at v ps) * number (bits_at v qs)))
  where
    zero_is : (m : ℕ) → 0 ≡ (0 + m) % 2 ^ 0
    zero_is m = omega arith
product_into_does at (w ∷ ws) [] qs b f e e' be di g sp sq = cc
product_into_does at (w ∷ ws) (p ∷ ps) qs b f e e' be di g sp sq =
    let n : ℕ = length b.draft.wires in
    let all : Targets = among (w ∷ ws) in
    let loose : (k : WireId) → k.number < n → all k ≡ false → no_target k ≡ false = λ k lt t. refl in
    let stay : (k : WireId) → k.number < n → all k ≡ false → all k ≡ false = λ k lt t. t in
    let rest : (k : WireId) → k.number < n → all k ≡ false → among ws k ≡ false = λ k lt t. off_rest w k ws t in
    let g0 : Guards at n no_target = safe_more n n all no_target (under at []) (omega arith) loose g in
    let ms : List WireId = next_wires (length qs) b in
    let b1 : Built = multiple_built at p qs b in
    let m1 : ℕ = length b1.draft.wires in
    let one : Multiple at p qs b = multiple_does at p qs b f g0 (safe_more n n all no_target (p ∷ qs) (omega arith) loose (sp.0, sq)) in
    let up1 : n ≤ m1 = does_grown one.does in
    let b2 : Built = add_into at (w ∷ ws) (all_made ms) b1 in
    let m2 : ℕ = length b2.draft.wires in
    let lm : length (w ∷ ws) ≡ length (all_made ms) = e' ∙ sym (length-map ms made ∙ length-from n (length qs)) in
    let two : Does at b1.draft b2.draft all (λ v u. number (values_at u (w ∷ ws)) ≡ (number (values_at v (w ∷ ws)) + number (bits_at v (all_made ms))) % 2 ^ suc (length ws)) =
    add_into_does at (w ∷ ws) (all_made ms) b1 (does_fresh one.does f) lm (below_more n m1 (w ∷ ws) up1 be) di (safe_more n m1 all all (under at []) up1 stay g)
    (safe_new b.draft b1.draft ms all one.new (λ k le. past n (w ∷ ws) k le be)) in
    let up2 : m1 ≤ m2 = does_grown two in
    let le : n ≤ m2 = omega (arith, up1, up2) in
    let le_qs : length qs ≡ suc (length ws) = sym e' in
    let three : Does at b2.draft (product_into at ws ps (lower qs) b2).draft (among ws) (λ v u. number (values_at u ws) ≡ (number (values_at v ws) + number (bits_at v ps) * number (bits_at v (lower qs))) % 2 ^ length ws) =
    product_into_does at ws ps (lower qs) b2 (does_fresh two (does_fresh one.does f)) (omega (arith, e)) (sym (length-lower qs (length ws) le_qs)) (below_more n m2 ws le be.1) di.1
    (safe_more n m2 all (among ws) (under at []) le rest g) (safe_more n m2 all (among ws) ps le rest sp.1) (safe_more n m2 all (among ws) (lower qs) le rest (safe_lower n all qs sq)) in
    let first = does_then all one.does two g0 (λ k lt t. (refl, t)) in
    does_weak (does_then all first three g (λ k lt t. (t, off_rest w k ws t)))
    (λ v u c on ag cl t.
    let a = t.first in
    let lt = be.0 in
    let old : values_at a.mid (w ∷ ws) ≡ values_at v (w ∷ ws) = values_same n no_target a.mid v (w ∷ ws) be (all_off_none (w ∷ ws)) a.kept in
    let mul : bits_at a.mid (all_made ms) ≡ masked (bit_of v p) (bits_at v qs) = bits_made a.mid ms ∙ a.first in
    let added : number (values_at t.mid (w ∷ ws)) ≡ (number (values_at v (w ∷ ws)) + number (masked (bit_of v p) (bits_at v qs))) % 2 ^ suc (length ws) =
    a.second ∙ ap₂ (λ xs ys. (number xs + number ys) % 2 ^ suc (length ws)) old mul in
    let ops : bits_at t.mid ps ≡ bits_at v ps = bits_same n all t.mid v ps sp.1 t.kept in
    let ops' : bits_at t.mid (lower qs) ≡ front (bits_at v qs) = bits_same n all t.mid v (lower qs) (safe_lower n all qs sq) t.kept ∙ bits_lower v qs in
    let later : number (values_at u ws) ≡ (number (values_at t.mid ws) + number (bits_at v ps) * number (front (bits_at v qs))) % 2 ^ length ws =
    t.second ∙ ap₂ (λ xs ys. (number (values_at t.mid ws) + number xs * number ys) % 2 ^ length ws) ops ops' in
    let mine : u w.number ≡ t.mid w.number = t.stays w (omega (arith, lt, le)) di.0 in
    ap (λ x. number (x ∷ values_at u ws)) mine
    ∙ multiply (length ws) (bit_of v p) (t.mid w.number) (bits_at v ps) (bits_at v qs) (values_at v (w ∷ ws)) (values_at t.mid ws) (values_at u ws)
    (length-bits v qs ∙ le_qs) (length-values u ws) added later)

pub product_does : (at : Setting) (ps qs : List Operand) (b : Built) → Fresh b.draft → length ps ≡ length qs → Guards at (length b.draft.wires) no_target → AllSafe (length b.draft.wires) no_target ps → AllSafe (length b.draft.wires) no_target qs → GivesNumber at b.draft (length ps) (product at ps qs b) (λ v. (number (bits_at v ps) * number (bits_at v qs)) % 2 ^ length ps)
unfolding product
product_does at ps qs b f e g s s' =
    let n : ℕ = length b.draft.wires in
    let j : ℕ = length ps in
    let ws : List WireId = wires_from n j in
    let b1 : Built = new_wires j b in
    let m : ℕ = length b1.draft.wires in
    let l : m ≡ n + j = length-wires j b in
    let le : n ≤ m = omega (arith, l) in
    let lw : length ws ≡ j = length-from n j in
    let r : Does at b1.draft (product_into at ws ps qs b1).draft (among ws) (λ v u. number (values_at u ws) ≡ (number (values_at v ws) + number (bits_at v ps) * number (bits_at v qs)) % 2 ^ length ws) =
    product_into_does at ws ps qs b1 (fresh_wires j b f) lw (lw ∙ e) (below_from n j m (omega (arith, l))) (different_from n j)
    (safe_from n n m j (under at []) (omega arith) le g) (safe_from n n m j ps (omega arith) le s) (safe_from n n m j qs (omega arith) le s') in
    let up : m ≤ length (product_into at ws ps qs b1).draft.wires = does_grown r in
    let own : OwnWires b.draft (product_into at ws ps qs b1).draft (all_made ws) = own_from b.draft (product_into at ws ps qs b1).draft n j (omega arith) (omega (arith, l, up)) in
    record {
      does = does_weak (does_made j b r g (λ k lt. among_from n j k lt))
          (λ v u c on ag cl t.
          let none : number (values_at v ws) ≡ 0 = ap number (values_zero v n j (λ k lk. clean_above b.draft v f c k lk)) ∙ number_zeros j in
          ap number (bits_made u ws) ∙ (t ∙ ap₂ (λ x i. (x + number (bits_at v ps) * number (bits_at v qs)) % 2 ^ i) none lw ∙ no_more (number (bits_at v ps) * number (bits_at v qs)) (2 ^ j)));
      count = length-own n j;
      own = own;
      safe = own_safe b.draft (product_into at ws ps qs b1).draft (all_made ws) own;
    }
  where
    number_zeros : (k : ℕ) → number (zeros k) ≡ 0
    number_zeros zero = refl
    number_zeros (suc k) = let i : number (zeros k) ≡ 0 = number_zeros k in omega (arith, i)

    no_more : (x m : ℕ) → (0 + x) % m ≡ x % m
    no_more x m = ap (λ y. y % m) (zero_plus x)
      where
        zero_plus : (y : ℕ) → 0 + y ≡ y
        zero_plus y = omega arith
