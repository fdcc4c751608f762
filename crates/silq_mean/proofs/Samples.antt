-- What the definition says of small programs, by computing.
use Rattle.std.specs.Prelude.{◌≡◌, refl, ℕ, zero, suc, Bool, true, false, List, [], ◌∷◌, map, Some, None, Result, Ok, Err, ℤ, pos}
use Rattle.silq_tree.specs.declared.node.Mark.TheVariants as marks
use Rattle.silq_tree.specs.declared.node.BinaryOp.TheVariants.{Add as Plus, Sub, Eq, Lt, Div}
use Rattle.silq_tree.specs.declared.node.UpdateOp.TheVariants.{Add}
use Rattle.silq_tree.specs.Syntax.{typed_number, pi, called as call_of, tuple, none, bit, uint, whole, part, assign, spread, update, forget, forget_value, phase, loop, return_nothing, array}
use Rattle.static_num.specs.Static.{is_static, value, in_range}
use Rattle.static_num.specs.Angle.{is_turn, fraction, divisor}
use Rattle.amp_core.specs.declared.Amp.{Amp}
use Rattle.amp_core.specs.Amplitude.{Same, plus, add, scaled, times, times_w, times_root_two, over_root_two, numerator, one as amp_one}
use Rattle.sum_laws.specs.Terms.{amplitude}
use Rattle.silq_mean.specs.Effect.{ForgetFalse}
use Rattle.silq_mean.specs.Table.{Job, job, meaning, mean, run_job, outcome_of, Bits, Stopped}
use Rattle.silq_mean.proofs.Spelled.{s, main, a, b, c, x, y, n, m, f, g, i, j, vector_name, q, words, v, item, num, one, two, bin, hd, xg, zg, dup, measure, within, let', when, back, type, b1, u, i2, param, const, fun, alone, O, I, none'}

abbrev root : ℤ → ℕ → Amp
root q k = record { a = q; b = pos 0; c = pos 0; d = pos 0; k = k }

-- def main() { return; }
returns_nothing : meaning (alone [] [] (return_nothing s ∷ [])) [] none' ≡ ([], root (pos 1) 0) ∷ []
unfolding times times_w over_root_two numerator is_static value in_range is_turn fraction divisor
returns_nothing = refl

-- def main() { phase(pi/4); }
a_phase : meaning (alone [] [] (phase (bin Div (pi s) (num 4)) s ∷ [])) [] none' ≡ ([], record { a = pos 0; b = pos 1; c = pos 0; d = pos 0; k = 0 }) ∷ []
unfolding times times_w over_root_two numerator is_static value in_range is_turn fraction divisor
a_phase = refl

-- def main(y:B) { forget(y = 0:B); }
abbrev forgetting : Job
forgetting = alone (param y b1 ∷ []) [] (forget_value y (typed_number (pos 0) bit s) s ∷ [])

a_false_forget : run_job forgetting (I ∷ []) [] ≡ Err (Stopped (ForgetFalse 1))
unfolding is_static value in_range is_turn fraction divisor
a_false_forget = refl

an_honest_forget : meaning forgetting (O ∷ []) none' ≡ ([], root (pos 1) 0) ∷ []
unfolding times times_w over_root_two numerator is_static value in_range is_turn fraction divisor
an_honest_forget = refl

too_few_bits : run_job forgetting [] [] ≡ Err (Bits 0 1)
unfolding is_static value in_range is_turn fraction divisor
too_few_bits = refl

-- def main(const c:B, x:B):B { if c { x := H(x); x := H(x); } return x; }
-- def main(x:B):B { x := H(x); if x { phase(pi); } return x; }
abbrev flips : Job
flips = alone (param x b1 ∷ []) (b1 ∷ []) (let' x (hd (v x)) ∷ when (v x) (phase (pi s) s ∷ []) ∷ back (v x) ∷ [])

abbrev pub twice : Job
twice = alone (const c b1 ∷ param x b1 ∷ []) (b1 ∷ []) (when (v c) (let' x (hd (v x)) ∷ let' x (hd (v x)) ∷ []) ∷ back (v x) ∷ [])

twice_is_nothing : Same (mean twice (I ∷ O ∷ []) none' (O ∷ I ∷ [])) amp_one
unfolding amplitude plus add scaled times_root_two times times_w over_root_two numerator is_static value in_range is_turn fraction divisor
twice_is_nothing = refl

twice_leaves_no_other : Same (mean twice (I ∷ O ∷ []) none' (I ∷ I ∷ [])) (root (pos 0) 0)
unfolding amplitude plus add scaled times_root_two times times_w over_root_two numerator is_static value in_range is_turn fraction divisor
twice_leaves_no_other = refl

-- teleportation
abbrev pub teleport : Job
teleport = alone (param q b1 ∷ []) (b1 ∷ [])
    (let' a (hd (typed_number (pos 0) bit s)) ∷ let' b (dup (v a)) ∷ when (v q) (let' a (xg (v a)) ∷ []) ∷ let' q (hd (v q)) ∷ let' m (measure (v q)) ∷ let' n (measure (v a))
    ∷ when (v n) (let' b (xg (v b)) ∷ []) ∷ when (v m) (let' b (zg (v b)) ∷ []) ∷ back (v b) ∷ [])

teleport_01 : mean teleport (I ∷ []) (outcome_of (O ∷ I ∷ [])) (I ∷ []) ≡ root (pos 1) 2
unfolding amplitude plus add scaled times_root_two times times_w over_root_two numerator is_static value in_range is_turn fraction divisor
teleport_01 = refl

teleport_10 : mean teleport (I ∷ []) (outcome_of (I ∷ O ∷ [])) (I ∷ []) ≡ root (pos 1) 2
unfolding amplitude plus add scaled times_root_two times times_w over_root_two numerator is_static value in_range is_turn fraction divisor
teleport_10 = refl

-- the number of outcomes is told beforehand
teleport_bits : run_job teleport (I ∷ []) (I ∷ []) ≡ Err (Bits 1 2)
unfolding is_static value in_range is_turn fraction divisor
teleport_bits = refl

-- 3 + 2 wraps around at two bits: 1
sum_wraps : map (λ r. r.0) (meaning (alone (param x (u 2) ∷ const y (u 2) ∷ []) (u 2 ∷ []) (update (whole x) Add (v y) s ∷ back (v x) ∷ [])) (I ∷ I ∷ O ∷ I ∷ []) none') ≡ (I ∷ O ∷ O ∷ I ∷ []) ∷ []
unfolding is_static value in_range is_turn fraction divisor
sum_wraps = refl

-- a static operand takes the type of the other: 1 - 2 is 3 at two bits
static_operand : map (λ r. r.0) (meaning (alone (const y (u 2) ∷ []) (u 2 ∷ []) (back (bin Sub (num 1) (v y)) ∷ [])) (O ∷ I ∷ []) none') ≡ (I ∷ I ∷ O ∷ I ∷ []) ∷ []
unfolding is_static value in_range is_turn fraction divisor
static_operand = refl

-- as int[2], 3 is -1, which is below 1
signed_below : map (λ r. r.0) (meaning (alone (const x i2 ∷ const y i2 ∷ []) (b1 ∷ []) (back (bin Lt (v x) (v y)) ∷ [])) (I ∷ I ∷ I ∷ O ∷ []) none') ≡ (I ∷ I ∷ I ∷ I ∷ O ∷ []) ∷ []
unfolding is_static value in_range is_turn fraction divisor
signed_below = refl

-- x[1] := X(x[1])
abbrev element_job : Job
element_job = alone (param x (u 2) ∷ []) (u 2 ∷ []) (assign (part x (num 1)) (xg (item x (num 1))) s ∷ back (v x) ∷ [])

element : map (λ r. r.0) (meaning element_job (I ∷ O ∷ []) none') ≡ (I ∷ I ∷ []) ∷ []
unfolding is_static value in_range is_turn fraction divisor
element = refl

-- def f(const a:B, b:B):B { if a { b := X(b); } return b; } def main(x:B, const y:B):B { x := f(y, X(x)); return x; }
abbrev pub calling_job : Job
calling_job = job (record {
  words = words;
  funs =
      fun f (const a b1 ∷ param b b1 ∷ []) (b1 ∷ []) (when (v a) (let' b (xg (v b)) ∷ []) ∷ back (v b) ∷ [])
      ∷ fun main (param x b1 ∷ const y b1 ∷ []) (b1 ∷ []) (let' x (call_of f none (two (v y) (xg (v x))) s) ∷ back (v x) ∷ []) ∷ [];
}) main []

calling : map (λ r. r.0) (meaning calling_job (I ∷ I ∷ []) none') ≡ (I ∷ I ∷ []) ∷ []
unfolding is_static value in_range is_turn fraction divisor
calling = refl

-- a variable that was forgotten outside a block and bound anew inside it is the outer one
forgotten : map (λ r. r.0) (meaning (alone [] (b1 ∷ []) (let' x (typed_number (pos 0) bit s) ∷ forget x s ∷ when (num 1) (let' x (typed_number (pos 1) bit s) ∷ []) ∷ back (v x) ∷ [])) [] none') ≡ (I ∷ []) ∷ []
unfolding is_static value in_range is_turn fraction divisor
forgotten = refl

-- Grover's search for the number x of so many bits with x + summand = total, in so many rounds
abbrev pub search : ℕ → ℕ → ℕ → ℕ → Job
search bits rounds summand total = job (record {
  words = words;
  funs =
      record { name = f; statics = n ∷ []; params = const x (type (uint (v n))) ∷ []; mark = marks.Lifted; results = b1 ∷ []; body = within (back (bin Eq (bin Plus (v x) (num summand)) (num total)) ∷ []); at = s }
      ∷ record {
        name = g;
        statics = n ∷ [];
        params = param x (type (uint (v n))) ∷ [];
        mark = marks.Mfree;
        results = type (uint (v n)) ∷ [];
        body = within (loop i (num 0) (v n) (within (assign (part x (v i)) (hd (item x (v i))) s ∷ [])) s ∷ back (v x) ∷ []);
        at = s;
      }
      ∷ record {
        name = main;
        statics = n ∷ m ∷ [];
        params = [];
        mark = marks.Plain;
        results = type (uint (v n)) ∷ [];
        body = within (let' x (typed_number (pos 0) (uint (v n)) s) ∷ let' x (call_of g (one (v n)) (one (v x)) s)
            ∷ loop j (num 0) (v m) (within (when (call_of f (one (v n)) (one (v x)) s) (phase (pi s) s ∷ []) ∷ let' x (call_of g (one (v n)) (one (v x)) s)
            ∷ when (bin Eq (v x) (num 0)) (phase (pi s) s ∷ []) ∷ let' x (call_of g (one (v n)) (one (v x)) s) ∷ [])) s
            ∷ back (measure (v x)) ∷ []);
        at = s;
      } ∷ [];
}) main (pos bits ∷ pos rounds ∷ [])

abbrev grover : Job
grover = search 2 1 1 4

-- two bits, one round: 3 is found with amplitude of size 1
grover_finds : Same (mean grover [] (outcome_of (I ∷ I ∷ [])) (I ∷ I ∷ [])) (root (Rattle.std.specs.Prelude.negsuc 0) 0)
unfolding amplitude plus add scaled times_root_two times times_w over_root_two numerator is_static value in_range is_turn fraction divisor
grover_finds = refl

-- ---- arrays and tuples

-- def main() : B^2 { x := vector(2, 1:B); x[1] := X(x[1]); return x; }
array_part : map (λ r. r.0) (meaning (alone [] (array false bit (num 2) s ∷ []) (let' x (call_of vector_name none (two (num 2) (typed_number (pos 1) bit s)) s) ∷ assign (part x (num 1)) (xg (item x (num 1))) s ∷ back (v x) ∷ [])) [] none') ≡ (I ∷ O ∷ []) ∷ []
unfolding is_static value in_range is_turn fraction divisor
array_part = refl

-- def f(x:B, y:B):B×B { return (y, x); } def main(x:B, y:B):B×B { (x, y) := f(x, y); return (x, y); }
abbrev exchange : Job
exchange = job (record {
  words = words;
  funs =
      fun f (param x b1 ∷ param y b1 ∷ []) (b1 ∷ b1 ∷ []) (back (tuple (two (v y) (v x)) s) ∷ [])
      ∷ fun main (param x b1 ∷ param y b1 ∷ []) (b1 ∷ b1 ∷ []) (spread (x ∷ y ∷ []) (call_of f none (two (v x) (v y)) s) s ∷ back (tuple (two (v x) (v y)) s) ∷ []) ∷ [];
}) main []

exchanged : map (λ r. r.0) (meaning exchange (I ∷ O ∷ []) none') ≡ (O ∷ I ∷ []) ∷ []
unfolding is_static value in_range is_turn fraction divisor
exchanged = refl
