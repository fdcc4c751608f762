-- Within all limits the rows of products and tests make a draft of a flat form.
use Rattle.std.proofs.Common.{◌≡◌, ℕ, zero, suc, ◌+◌, ◌≤◌, Bool, true, false, List, [], ◌∷◌, length, refl, arith}
use Rattle.flat_core.specs.declared.step.WireId.{WireId}
use Rattle.flat_core.specs.Label.{same_wire}
use Rattle.bit_arith.specs.declared.operand.Operand.{Operand}
use Rattle.bit_arith.specs.declared.operand.Operand.TheVariants.{Const, Literal}
use Rattle.bit_arith.specs.Built.{Built, Setting, new_wire, new_wires, next_wire, next_wires, wires_from, made, all_made, negated, top_negated, read, under}
use Rattle.bit_arith.specs.Rows.{flip, flip_up, products, carry_bit, add_into, lower, product_into, product, both, either, signed, differ_as, differ, matches, all_of, equal, borrow, less}
use Rattle.bit_arith.specs.Calls.{Targets, no_target, among, Safe, AllSafe, AreTargets}
use Rattle.bit_arith.proofs.Grows.{targets_more, XGrows, x_then, new_wires_x, length-new_wire, length-new_wires, all_safe_more, safe_more}
use Rattle.bit_arith.proofs.Keeps.{flip_up_x, add_into_x, differ_x, matches_x, flip_by_x}
use Rattle.bit_arith.proofs.Safe.{Wider, safe_in, all_safe_in, under_safe, under_in, beside_new, beside_new_wires, negated_safe, all_negated_safe, top_negated_safe, all_made_safe}
use Rattle.bit_arith.proofs.Safe as safe
use Rattle.flat_laws.proofs.EndsDraft.{Sound, sound_new, sound_wires, new_target, new_targets, flip_sound, flip_by_sound, flip_up_sound, rest_apart}
use Rattle.flat_laws.proofs.EndsSums.{Guard, longer_wire, longer_wires, at_most, products_each, beside_next, carry_bit_sound, carried, carried_there, plain_safe, add_into_sound}

-- ---- products

lower_safe : (n : ℕ) (T : Targets) (qs : List Operand) → AllSafe n T qs → AllSafe n T (lower qs)
lower_safe n T [] s = tt
lower_safe n T (q ∷ []) s = tt
lower_safe n T (q ∷ q' ∷ qs) s = (s.0, lower_safe n T (q' ∷ qs) s.1)

-- new wires are none of some old ones
next_safe : (T : Targets) (n first k m : ℕ) → ((w : WireId) → n ≤ w.number → T w ≡ false) → n ≤ first → first + k ≤ m → AllSafe m T (all_made (wires_from first k))
next_safe T n first zero m free le up = tt
next_safe T n first (suc k) m free le up = ((omega (arith, up), free (record { number = first }) le), next_safe T n (suc first) k m free (omega (arith, le)) (omega (arith, up)))

product_into_sound : (at : Setting) (ws : List WireId) (ps qs : List Operand) (b : Built) → AreTargets b.draft ws → Guard at (length b.draft.wires) (among ws) → AllSafe (length b.draft.wires) no_target ps → AllSafe (length b.draft.wires) no_target qs → Sound b → Sound (product_into at ws ps qs b)
product_into_sound at [] ps qs b t g p q s = s
product_into_sound at (w ∷ ws) [] qs b t g p q s = s
product_into_sound at (w ∷ ws) (x ∷ ps) qs b t g p q s =
    let k : ℕ = length qs in
    let n : ℕ = length b.draft.wires in
    let all : Targets = among (w ∷ ws) in
    let multiple : List WireId = next_wires k b in
    let b1 : Built = new_wires k b in
    let m : ℕ = length b1.draft.wires in
    let wide : Wider n no_target m (among multiple) = beside_next k b m (longer_wires k b) in
    let b2 : Built = flip_up at multiple (products x qs) b1 in
    let i : ℕ = length b2.draft.wires in
    let y : XGrows b1 b2 = flip_up_x at multiple (products x qs) b1 in
    let xy : XGrows b b2 = x_then (new_wires_x k b) y in
    let s2 : Sound b2 =
    flip_up_sound at multiple (products x qs) b1 (new_targets k b s) (under_in n no_target m (among multiple) wide at [] (plain_safe n all (under at []) g))
    (products_each m (among multiple) x qs (safe_in n no_target m (among multiple) wide x p.0) (all_safe_in n no_target m (among multiple) wide qs q)) (sound_wires k b s) in
    let b3 : Built = add_into at (w ∷ ws) (all_made multiple) b2 in
    let z : XGrows b2 b3 = add_into_x at (w ∷ ws) (all_made multiple) b2 in
    let xyz : XGrows b b3 = x_then xy z in
    let l : ℕ = length b3.draft.wires in
    let e = length-new_wires k b in
    let s3 : Sound b3 =
    add_into_sound at (w ∷ ws) (all_made multiple) b2 (targets_more xy (w ∷ ws) t) (all_safe_more n i all (under at []) xy.grows.few g)
    (next_safe all n n k i (λ v past. safe.among_past b.draft (w ∷ ws) v t past) (at_most n) (let le = y.grows.few in omega (arith, e, le))) s2 in
    product_into_sound at ws ps (lower qs) b3 (targets_more xyz ws t.1) (all_safe_more n l (among ws) (under at []) xyz.grows.few (all_safe_in n all n (among ws) (λ v h. (h.0, rest_apart w ws n v.wire h.0 h.1)) (under at []) g))
    (all_safe_more n l no_target ps xyz.grows.few p.1) (all_safe_more n l no_target (lower qs) xyz.grows.few (lower_safe n no_target qs q)) s3

pub product_sound : (at : Setting) (ps qs : List Operand) (b : Built) → Guard at (length b.draft.wires) no_target → AllSafe (length b.draft.wires) no_target ps → AllSafe (length b.draft.wires) no_target qs → Sound b → Sound (product at ps qs b).built
unfolding product
product_sound at ps qs b g p q s =
    let k : ℕ = length ps in
    let n : ℕ = length b.draft.wires in
    let m : ℕ = length (new_wires k b).draft.wires in
    let le : n ≤ m = longer_wires k b in
    product_into_sound at (next_wires k b) ps qs (new_wires k b) (new_targets k b s) (under_in n no_target m (among (next_wires k b)) (beside_next k b m le) at [] g)
    (all_safe_more n m no_target ps le p) (all_safe_more n m no_target qs le q) (sound_wires k b s)

-- ---- tests

-- a flip of a new wire
pub new_flip_sound : (at : Setting) (ps : List Operand) (b : Built) → Guard at (length b.draft.wires) no_target → AllSafe (length b.draft.wires) no_target ps → Sound b → Sound (flip at (next_wire b) ps (new_wire b))
new_flip_sound at ps b g p s =
    let n : ℕ = length b.draft.wires in
    let m : ℕ = length (new_wire b).draft.wires in
    let w : WireId = next_wire b in
    flip_sound at w ps (new_wire b) (new_target b s) (under_in n no_target m (same_wire w) (beside_new n m no_target w (longer_wire b) (at_most n)) at ps (under_safe n no_target at ps g p)) (sound_new b s)

pub both_sound : (at : Setting) (p q : Operand) (b : Built) → Guard at (length b.draft.wires) no_target → Safe (length b.draft.wires) no_target p → Safe (length b.draft.wires) no_target q → Sound b → Sound (both at p q b).built
unfolding both
both_sound at p q b g f h s = new_flip_sound at (p ∷ q ∷ []) b g (f, (h, tt)) s

pub either_sound : (at : Setting) (p q : Operand) (b : Built) → Guard at (length b.draft.wires) no_target → Safe (length b.draft.wires) no_target p → Safe (length b.draft.wires) no_target q → Sound b → Sound (either at p q b).built
unfolding either
either_sound at p q b g f h s = both_sound at (negated p) (negated q) b g (negated_safe (length b.draft.wires) no_target p f) (negated_safe (length b.draft.wires) no_target q h) s

differ_as_sound : (at : Setting) (x y p q : Operand) (b : Built) → Guard at (length b.draft.wires) no_target → Safe (length b.draft.wires) no_target p → Safe (length b.draft.wires) no_target q → Sound b → Sound (differ_as at x y p q b).built
differ_as_sound at (Const x) y p q b g f h s = s
differ_as_sound at (Literal l) (Const y) p q b g f h s = s
differ_as_sound at (Literal l) (Literal m) p q b g f h s =
    let n : ℕ = length b.draft.wires in
    let i : ℕ = length (new_wire b).draft.wires in
    let w : WireId = next_wire b in
    let wide : Wider n no_target i (same_wire w) = beside_new n i no_target w (longer_wire b) (at_most n) in
    flip_by_sound at w ((p ∷ []) ∷ (q ∷ []) ∷ []) (new_wire b) (new_target b s) (under_in n no_target i (same_wire w) wide at [] g)
    ((safe_in n no_target i (same_wire w) wide p f, tt), ((safe_in n no_target i (same_wire w) wide q h, tt), tt)) (sound_new b s)

signed_safe : (n : ℕ) (x : Bool) (p : Operand) → Safe n no_target p → Safe n no_target (signed x p)
signed_safe n true p s = negated_safe n no_target p s
signed_safe n false p s = s

differ_as_safe : (at : Setting) (x y p q : Operand) (b : Built) → Safe (length b.draft.wires) no_target p → Safe (length b.draft.wires) no_target q → Safe (length (differ_as at x y p q b).built.draft.wires) no_target (differ_as at x y p q b).answer
differ_as_safe at (Const x) y p q b f h = signed_safe (length b.draft.wires) x q h
differ_as_safe at (Literal l) (Const y) p q b f h = signed_safe (length b.draft.wires) y p f
differ_as_safe at (Literal l) (Literal m) p q b f h =
    (let e = length-new_wire b in let x = flip_by_x at (next_wire b) ((p ∷ []) ∷ (q ∷ []) ∷ []) (new_wire b) in let le = x.grows.few in omega (arith, e, le), refl)

matches_sound : (at : Setting) (ps qs : List Operand) (b : Built) → Guard at (length b.draft.wires) no_target → AllSafe (length b.draft.wires) no_target ps → AllSafe (length b.draft.wires) no_target qs → Sound b → Sound (matches at ps qs b).built
matches_sound at [] qs b g p q s = s
matches_sound at (x ∷ ps) [] b g p q s = s
matches_sound at (x ∷ ps) (y ∷ qs) b g p q s =
    let n : ℕ = length b.draft.wires in
    let here = differ at x y b in
    let m : ℕ = length here.built.draft.wires in
    let le : n ≤ m = (differ_x at x y b).grows.few in
    matches_sound at ps qs here.built (all_safe_more n m no_target (under at []) le g) (all_safe_more n m no_target ps le p.1) (all_safe_more n m no_target qs le q.1)
    (differ_as_sound at (read b.draft x) (read b.draft y) x y b g p.0 q.0 s)

matches_safe : (at : Setting) (ps qs : List Operand) (b : Built) → AllSafe (length b.draft.wires) no_target ps → AllSafe (length b.draft.wires) no_target qs → AllSafe (length (matches at ps qs b).built.draft.wires) no_target (matches at ps qs b).answer
matches_safe at [] qs b p q = tt
matches_safe at (x ∷ ps) [] b p q = tt
matches_safe at (x ∷ ps) (y ∷ qs) b p q =
    let n : ℕ = length b.draft.wires in
    let here = differ at x y b in
    let m : ℕ = length here.built.draft.wires in
    let le : n ≤ m = (differ_x at x y b).grows.few in (
      safe_more m (length (matches at ps qs here.built).built.draft.wires) no_target (negated here.answer) (matches_x at ps qs here.built).grows.few
          (negated_safe m no_target here.answer (differ_as_safe at (read b.draft x) (read b.draft y) x y b p.0 q.0)),
      matches_safe at ps qs here.built (all_safe_more n m no_target ps le p.1) (all_safe_more n m no_target qs le q.1),
    )

all_of_sound : (at : Setting) (ms : List Operand) (b : Built) → Guard at (length b.draft.wires) no_target → AllSafe (length b.draft.wires) no_target ms → Sound b → Sound (all_of at ms b).built
all_of_sound at [] b g f s = new_flip_sound at [] b g f s
all_of_sound at (m ∷ []) b g f s = s
all_of_sound at (m ∷ m' ∷ ms) b g f s = new_flip_sound at (m ∷ m' ∷ ms) b g f s

pub equal_sound : (at : Setting) (ps qs : List Operand) (b : Built) → Guard at (length b.draft.wires) no_target → AllSafe (length b.draft.wires) no_target ps → AllSafe (length b.draft.wires) no_target qs → Sound b → Sound (equal at ps qs b).built
unfolding equal
equal_sound at ps qs b g p q s =
    let n : ℕ = length b.draft.wires in
    let ms = matches at ps qs b in
    all_of_sound at ms.answer ms.built (all_safe_more n (length ms.built.draft.wires) no_target (under at []) (matches_x at ps qs b).grows.few g) (matches_safe at ps qs b p q) (matches_sound at ps qs b g p q s)

borrow_sound : (at : Setting) (c : Operand) (ps qs : List Operand) (b : Built) → Guard at (length b.draft.wires) no_target → Safe (length b.draft.wires) no_target c → AllSafe (length b.draft.wires) no_target ps → AllSafe (length b.draft.wires) no_target qs → Sound b → Sound (borrow at c ps qs b).built
borrow_sound at c [] qs b g x p q s = s
borrow_sound at c (p ∷ ps) [] b g x f h s = s
borrow_sound at c (p ∷ ps) (q ∷ qs) b g x f h s =
    let n : ℕ = length b.draft.wires in
    let b2 : Built = carry_bit at (next_wire b) (negated p) q c (new_wire b) in
    let m : ℕ = length b2.draft.wires in
    let le : n ≤ m = (carried at (negated p) q c b).grows.few in
    borrow_sound at (made (next_wire b)) ps qs b2 (all_safe_more n m no_target (under at []) le g) (carried_there at (negated p) q c b, refl)
    (all_safe_more n m no_target ps le f.1) (all_safe_more n m no_target qs le h.1) (carry_bit_sound at (negated p) q c b g (negated_safe n no_target p f.0, (h.0, (x, tt))) s)

pub less_sound : (at : Setting) (signed : Bool) (ps qs : List Operand) (b : Built) → Guard at (length b.draft.wires) no_target → AllSafe (length b.draft.wires) no_target ps → AllSafe (length b.draft.wires) no_target qs → Sound b → Sound (less at signed ps qs b).built
unfolding less
less_sound at true ps qs b g p q s = borrow_sound at (Const false) (top_negated ps) (top_negated qs) b g tt (top_negated_safe (length b.draft.wires) no_target ps p) (top_negated_safe (length b.draft.wires) no_target qs q) s
less_sound at false ps qs b g p q s = borrow_sound at (Const false) ps qs b g tt p q s
