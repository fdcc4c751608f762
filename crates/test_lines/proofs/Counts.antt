-- Which lines begin with a number and a `*`.
use Rattle.std.proofs.Common.{◌≡◌, ℕ, ◌^◌, ◌<◌, Bool, true, false, ◌&&◌, cond, List, length, Some, None, Decides, refl, sym, ap, ◌∙◌, arith}
use Rattle.std.proofs.lemmas.Bool.Decides.{Decides-ltb, Decides-and}
use Rattle.std.proofs.lemmas.List.Folds.{list_any_at, list_any_none}
use Rattle.std.proofs.lemmas.List.Sums.{passes_at_first, fails_before_first}
use Rattle.std.proofs.lemmas.Str.Parse.{IsNumeralModel, numerals_by_value, tells_all_ascii_digits}
use Rattle.std.specs.List.{list_any, position_or_len, before_first, after_first}
use Rattle.std.specs.Str.{all_ascii_digits}
use Rattle.std.specs.Str.Parse.{IsNumeral, digits_value, without_leading_plus}
use Rattle.test_lines.specs.Spelled.{is_star, is_count, counted}

-- a line whose first `*` stands in it has one
star_there : (line : List ℕ) → position_or_len is_star line < length line → list_any is_star line ≡ true
star_there line h = list_any_at is_star line (position_or_len is_star line) 0 h (passes_at_first is_star line 0 h)

-- and one whose first `*` would stand at its end has none
star_absent : (line : List ℕ) → position_or_len is_star line ≡ length line → list_any is_star line ≡ false
star_absent line h = list_any_none is_star line (λ k d l. fails_before_first is_star line k d (omega (arith, h)))

-- the digits in the words of `parse`
digits : IsNumeralModel (λ ds. all_ascii_digits ds ≡ true) (digits_value 10)
digits = numerals_by_value (λ ds. all_ascii_digits ds ≡ true) tells_all_ascii_digits

-- the test of a count in the words of `parse`
Decides-is_count : (ds : List ℕ) → Decides (is_count ds) (IsNumeral 10 ds × (digits_value 10 ds < 2 ^ 32))
Decides-is_count ds = Decides-and _ _ (Decides-and _ _ (Decides-ltb 0 (length ds)) (digits.to ds, digits.from ds)) (Decides-ltb (digits_value 10 ds) (2 ^ 32))

-- a test that can't be true is false
unless_true : (b : Bool) → ¬ (b ≡ true) → b ≡ false
unless_true b h = grind arith

-- the tests of a line are what tells its number
counted_when : (line : List ℕ) (star count : Bool) → list_any is_star line ≡ star → is_count (without_leading_plus (before_first is_star line)) ≡ count
    → counted line ≡ cond (star && count) (Some (digits_value 10 (without_leading_plus (before_first is_star line)), after_first is_star line)) None
counted_when line star count p q = ap (λ b. cond b (Some (digits_value 10 (without_leading_plus (before_first is_star line)), after_first is_star line)) None) (ap (λ s. s && is_count (without_leading_plus (before_first is_star line))) p ∙ ap (λ n. star && n) q)

-- a line with no `*` has none
pub counted_no_star : (line : List ℕ) → position_or_len is_star line ≡ length line → counted line ≡ None
counted_no_star line h = counted_when line false _ (star_absent line h) refl

-- nor one where no number stands before it
pub counted_no_number : (line number : List ℕ) → position_or_len is_star line < length line → number ≡ before_first is_star line
    → ¬ (IsNumeral 10 (without_leading_plus number) × (digits_value 10 (without_leading_plus number) < 2 ^ 32)) → counted line ≡ None
counted_no_number line number h e n =
    counted_when line true false (star_there line h)
    (ap (λ bs. is_count (without_leading_plus bs)) (sym e)
    ∙ unless_true _ (λ t. n ((Decides-is_count (without_leading_plus number)).0 t)))

-- and else that number is it, and what stands behind the `*` is the rest
pub counted_number : (line number rest : List ℕ) (count : ℕ) → position_or_len is_star line < length line → number ≡ before_first is_star line → rest ≡ after_first is_star line
    → IsNumeral 10 (without_leading_plus number) → digits_value 10 (without_leading_plus number) < 2 ^ 32 → count ≡ digits_value 10 (without_leading_plus number)
    → counted line ≡ Some (count, rest)
counted_number line number rest count h e f is small v =
    counted_when line true true (star_there line h)
    (ap (λ bs. is_count (without_leading_plus bs)) (sym e) ∙ (Decides-is_count (without_leading_plus number)).1 (is, small))
    ∙ ap (λ n. Some (n, after_first is_star line)) (ap (λ bs. digits_value 10 (without_leading_plus bs)) (sym e) ∙ sym v)
    ∙ ap (λ r. Some (count, r)) (sym f)
