-- Flat forms of small programs, by computing.
use Rattle.std.specs.Prelude.{◌≡◌, refl, ℕ, true, List, [], ◌∷◌, length, map, Option, Some, None}
use Rattle.silq_tree.specs.declared.node.UnaryOp.TheVariants.{Not}
use Rattle.silq_tree.specs.declared.node.BinaryOp.TheVariants.{And, Eq, Ne, Add as Plus}
use Rattle.silq_tree.specs.declared.node.UpdateOp.TheVariants.{Add}
use Rattle.silq_tree.specs.Syntax.{Expression, truth, called as call_of, tuple, unary, none, whole, spread, update, forget_value}
use Rattle.silq_tree.specs.declared.node.Mark.TheVariants as marks
use Rattle.static_num.specs.Static.{is_static, value, in_range}
use Rattle.static_num.specs.Angle.{is_turn, fraction, divisor}
use Rattle.silq_mean.specs.Table.{Job, job}
use Rattle.silq_mean.proofs.Spelled.{s, main, a, b, c, x, y, n, m, v, one, two, bin, xg, dup, measure, let', when, back, b1, u, param, const, alone, words, f, fun, num}
use Rattle.silq_mean.proofs.Samples.{teleport, search, twice}
use Rattle.flat_core.specs.declared.step.WireId.{WireId}
use Rattle.flat_core.specs.declared.step.Lit.{Lit}
use Rattle.flat_core.specs.declared.step.Step.{Step}
use Rattle.flat_core.specs.declared.step.Step.TheVariants.{X, H, P, M}
use Rattle.flat_core.specs.declared.step.End.{End}
use Rattle.flat_core.specs.declared.step.End.TheVariants.{Output, Measured, Dropped, Zeroed}
use Rattle.flat_core.specs.Label.{wire_id}
use Rattle.bit_arith.specs.Rows.{flip, turn, had, measure as measured, copy, flip_each, carry, sum, add_into, both, equal}
use Rattle.flat_form.specs.Flat.{flattened}

-- ---- short spellings

abbrev w : ℕ → WireId
w n = wire_id n

abbrev p : ℕ → Option Lit
p n = Some (record { wire = w n; positive = true })

abbrev x0 : ℕ → Step
x0 t = X (w t) None None

abbrev x1 : ℕ → ℕ → Step
x1 t f = X (w t) (p f) None

abbrev x2 : ℕ → ℕ → ℕ → Step
x2 t f g = X (w t) (p f) (p g)

abbrev ends : Job → List End
ends j = map (λ f. f.ending) (flattened j).form.wires

abbrev steps : Job → List Step
steps j = (flattened j).form.steps

-- def main(const a:B, const b:B, const c:B, x:B):B { z := a && b && c; if z { x := X(x); } return x; }
abbrev three : Job
three = alone (const a b1 ∷ const b b1 ∷ const c b1 ∷ param x b1 ∷ []) (b1 ∷ []) (let' y (bin And (bin And (v a) (v b)) (v c)) ∷ when (v y) (let' x (xg (v x)) ∷ []) ∷ back (v x) ∷ [])

three_steps : steps three ≡ x2 4 0 1 ∷ x2 5 4 2 ∷ x1 3 5 ∷ []
unfolding is_static value in_range is_turn fraction divisor flip both
three_steps = refl

three_ends : ends three ≡ Output ∷ Output ∷ Output ∷ Output ∷ Dropped ∷ Dropped ∷ []
unfolding is_static value in_range is_turn fraction divisor flip both
three_ends = refl

-- def main(x:uint[3], const y:uint[3]):uint[3] { x += y; return x; }
abbrev adding : Job
adding = alone (param x (u 3) ∷ const y (u 3) ∷ []) (u 3 ∷ []) (update (whole x) Add (v y) s ∷ back (v x) ∷ [])

adding_steps : steps adding ≡ x2 6 0 3 ∷ x2 7 1 4 ∷ x2 7 1 6 ∷ x2 7 4 6 ∷ x1 2 5 ∷ x1 2 7 ∷ x1 1 4 ∷ x1 1 6 ∷ x1 0 3 ∷ []
unfolding is_static value in_range is_turn fraction divisor flip carry add_into
adding_steps = refl

-- a sum that is forgotten: its wires end as Zeroed
abbrev forgetting : Job
forgetting = alone (param x (u 2) ∷ const y (u 2) ∷ []) (u 2 ∷ []) (let' a (bin Plus (v x) (v y)) ∷ update (whole x) Add (v y) s ∷ forget_value a (v x) s ∷ back (v x) ∷ [])

forgetting_ends : ends forgetting ≡ Output ∷ Output ∷ Output ∷ Output ∷ Zeroed ∷ Zeroed ∷ Dropped ∷ Dropped ∷ []
unfolding is_static value in_range is_turn fraction divisor flip carry sum add_into flip_each
forgetting_ends = refl

teleport_steps : steps teleport ≡ H (w 1) None ∷ x1 2 1 ∷ x1 1 0 ∷ H (w 0) None ∷ M (w 0) 0 ∷ M (w 1) 1 ∷ x1 2 1 ∷ X (w 3) (p 0) (p 2) ∷ P 4 (record { wire = w 3; positive = true }) ∷ []
unfolding is_static value in_range is_turn fraction divisor flip had measured turn copy
teleport_steps = refl

-- Grover's search on four bits in two rounds
search_wires : length (flattened (search 4 2 3 12)).form.wires ≡ 34
unfolding is_static value in_range is_turn fraction divisor flip had measured turn copy carry sum equal
search_wires = refl

search_steps : length (steps (search 4 2 3 12)) ≡ 72
unfolding is_static value in_range is_turn fraction divisor flip had measured turn copy carry sum equal
search_steps = refl

search_outcomes : (flattened (search 4 2 3 12)).form.outcomes ≡ 4
unfolding is_static value in_range is_turn fraction divisor flip had measured turn copy carry sum equal
search_outcomes = refl

-- a Hadamard gate under a condition, twice
twice_steps : steps twice ≡ H (w 1) (p 0) ∷ H (w 1) (p 0) ∷ []
unfolding is_static value in_range is_turn fraction divisor had
twice_steps = refl

-- def f()lifted:B { return 0; }   def main(const y:B):B { x := f() != y; x := X(x); return x; }
-- the result of f is the constant 0, so the difference is shown by y's own wire, which x copies before it is changed
abbrev differing : Job
differing = job (record {
  words = words;
  funs = record (fun f [] (b1 ∷ []) (back (num 0) ∷ [])) { mark = marks.Lifted }
      ∷ fun main (const y b1 ∷ []) (b1 ∷ []) (let' x (bin Ne (call_of f none none s) (v y)) ∷ let' x (xg (v x)) ∷ back (v x) ∷ []) ∷ [];
}) main []

differing_steps : steps differing ≡ x1 2 0 ∷ x0 2 ∷ []
unfolding is_static value in_range is_turn fraction divisor flip both equal copy
differing_steps = refl

-- ---- what is new, and what is copied

-- def f(b:B, c:B):B×B { return (c, b); }   def main(x:B, y:B, const a:B):B×B { (m, n) := f(x, y); if a { m := X(m); } return (m, n); }
abbrev pub exchanging : Job
exchanging = job (record {
  words = words;
  funs = fun f (param b b1 ∷ param c b1 ∷ []) (b1 ∷ b1 ∷ []) (back (tuple (two (v c) (v b)) s) ∷ [])
      ∷ fun main (param x b1 ∷ param y b1 ∷ const a b1 ∷ []) (b1 ∷ b1 ∷ [])
      (spread (m ∷ n ∷ []) (call_of f none (two (v x) (v y)) s) s ∷ when (v a) (let' m (xg (v m)) ∷ []) ∷ back (tuple (two (v m) (v n)) s) ∷ []) ∷ [];
}) main []

exchanging_steps : steps exchanging ≡ x1 1 2 ∷ []
unfolding is_static value in_range is_turn fraction divisor flip
exchanging_steps = refl

exchanging_ends : ends exchanging ≡ Output ∷ Output ∷ Output ∷ []
unfolding is_static value in_range is_turn fraction divisor flip
exchanging_ends = refl

-- def main(x:B, y:B):B { m := measure(x); n := measure(y); return m && n; }
-- the entry copies a classical value, whatever type it returns
abbrev measuring : Job
measuring = alone (param x b1 ∷ param y b1 ∷ []) (b1 ∷ []) (let' m (measure (v x)) ∷ let' n (measure (v y)) ∷ back (bin And (v m) (v n)) ∷ [])

measuring_steps : steps measuring ≡ M (w 0) 0 ∷ M (w 1) 1 ∷ x2 2 0 1 ∷ x1 3 2 ∷ []
unfolding is_static value in_range is_turn fraction divisor flip measured both copy
measuring_steps = refl

measuring_ends : ends measuring ≡ Measured ∷ Measured ∷ Dropped ∷ Output ∷ []
unfolding is_static value in_range is_turn fraction divisor flip measured both copy
measuring_ends = refl

-- def f(const y:B)lifted:B { return dup(y); }   def main(const y:B):B { x := ..; return x; }
abbrev of_call : (Expression → Expression) → Job
of_call e = job (record {
  words = words;
  funs = record (fun f (const y b1 ∷ []) (b1 ∷ []) (back (dup (v y)) ∷ [])) { mark = marks.Lifted }
      ∷ fun main (const y b1 ∷ []) (b1 ∷ []) (let' x (e (call_of f none (one (v y)) s)) ∷ back (v x) ∷ []) ∷ [];
}) main []

-- !(!f(y)): the wire that the call made is new
abbrev denied : Job
denied = of_call (λ e. unary Not (unary Not e s) s)

denied_steps : steps denied ≡ x1 1 0 ∷ []
unfolding is_static value in_range is_turn fraction divisor flip copy
denied_steps = refl

denied_ends : ends denied ≡ Output ∷ Output ∷ []
unfolding is_static value in_range is_turn fraction divisor flip copy
denied_ends = refl

-- f(y) == true
abbrev equalled : Job
equalled = of_call (λ e. bin Eq e (truth true s))

equalled_steps : steps equalled ≡ x1 1 0 ∷ []
unfolding is_static value in_range is_turn fraction divisor flip equal copy
equalled_steps = refl

equalled_ends : ends equalled ≡ Output ∷ Output ∷ []
unfolding is_static value in_range is_turn fraction divisor flip equal copy
equalled_ends = refl
