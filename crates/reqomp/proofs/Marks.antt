-- The simple and the marked wires of the examples.
use Rattle.std.proofs.Common.{◌≡◌, ℕ, zero, suc, ◌<◌, ◌≤◌, [], ◌∷◌, refl, arith}
use Rattle.flat_core.specs.Label.{wire_id}
use Rattle.reqomp.specs.Simple.{marked_at}
use Rattle.reqomp.specs.Example.{two_ands, ExampleMarks, ExampleRedone}

first_of : (k : ℕ) → k < 8 → marked_at two_ands (suc k) ≡ wire_id 5 ∷ []
first_of zero l = refl
first_of (suc zero) l = refl
first_of (suc (suc zero)) l = refl
first_of (suc (suc (suc zero))) l = refl
first_of (suc (suc (suc (suc zero)))) l = refl
first_of (suc (suc (suc (suc (suc zero))))) l = refl
first_of (suc (suc (suc (suc (suc (suc zero)))))) l = refl
first_of (suc (suc (suc (suc (suc (suc (suc zero))))))) l = refl
first_of (suc (suc (suc (suc (suc (suc (suc (suc k)))))))) l = absurd (omega arith)

first_of_levels : (k : ℕ) → 0 < k → k ≤ 8 → marked_at two_ands k ≡ wire_id 5 ∷ []
first_of_levels zero h l = absurd (omega arith)
first_of_levels (suc k) h l = first_of k (omega arith)

pub example_marks : ExampleMarks
example_marks = record {
  simple_of_xor = refl;
  simple_of_two = refl;
  simple_of_changed = refl;
  none_at_first = refl;
  first_from_one = refl;
  first_to_eight = refl;
  both_from_nine = refl;
  both_to_last = refl;
  first_of_levels = first_of_levels;
}

pub example_redone : ExampleRedone
example_redone = record {
  both = refl;
  first_alone = refl;
  none_again = refl;
  use_of_first = refl;
  use_of_second = refl;
}
