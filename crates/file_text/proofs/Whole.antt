-- What is told of the bytes that were read is told of the whole file.
use Rattle.std.proofs.Common.{◌≡◌, ℕ, ◌+◌, ◌<◌, ◌≤◌, Bool, true, false, nat_lt, List, [], take, length, Option, Some, None, IfSome, refl, ap, sym, ◌∙◌, arith}
use Rattle.std.proofs.lemmas.Bool.Decides.{nat_tests}
use Rattle.std.proofs.lemmas.Grind.{common_steps}
use Rattle.std.specs.Str.{is_utf8}
use Rattle.file_text.specs.NoText.{no_text, not_utf8, too_many}
use Rattle.file_text.specs.Reading.{AreRead}
use Rattle.file_text.proofs.Why.{first_of, is_long, long_is}

-- a front that is shorter than asked is the whole
pub whole : (all bytes : List ℕ) (n : ℕ) → bytes ≡ take (n + 1) all → length bytes ≤ n → all ≡ bytes
whole all bytes n e l = grind (arith, common_steps)

longer : (all bytes : List ℕ) (n : ℕ) → bytes ≡ take (n + 1) all → n < length bytes → n < length all
longer all bytes n e l = grind (arith, common_steps)

most : (all bytes : List ℕ) (n : ℕ) → bytes ≡ take n all → length bytes ≤ n
most all bytes n e = grind (arith, common_steps)

same_long : (limit : ℕ) (all bytes : List ℕ) → bytes ≡ take (limit + 1) all → limit < length bytes → no_text limit all ≡ no_text limit bytes
same_long limit all bytes e l =
    ap (λ b. first_of b (is_utf8 all) (too_many (take (limit + 1) all)) (not_utf8 all)) (is_long limit (length all) (longer all bytes limit e l))
    ∙ ap (λ f. Some (too_many f)) (sym e)
    ∙ sym (long_is limit bytes l (most all bytes (limit + 1) e))

-- a file is no text as the bytes that were read of it are none
pub same_no_text : (limit : ℕ) (all bytes : List ℕ) → bytes ≡ take (limit + 1) all → no_text limit all ≡ no_text limit bytes
same_no_text limit all bytes e = by (nat_lt limit (length bytes)) refl
  where
    by : (b : Bool) → nat_lt limit (length bytes) ≡ b → no_text limit all ≡ no_text limit bytes
    by true t = let l : limit < length bytes = grind (arith, nat_tests) in same_long limit all bytes e l
    by false t = let l : length bytes ≤ limit = grind (arith, nat_tests) in ap (no_text limit) (whole all bytes limit e l)

-- of a file within the limit nothing is left
pub read_whole : (limit : ℕ) (held left : Option (List ℕ)) (bytes : List ℕ) → AreRead limit held left bytes → length bytes ≤ limit → IfSome held (λ all. left ≡ Some [])
read_whole limit None left bytes read short = tt
read_whole limit (Some all) left bytes read short = read.1 short
