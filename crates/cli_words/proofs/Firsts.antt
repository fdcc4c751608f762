-- Words by their places, and the jobs that they are.
use Rattle.std.proofs.Common.{◌≡◌, ◌∙◌, ◌<◌, ◌≤◌, ◌^◌, ℕ, List, [], ◌∷◌, Bool, false, Some, refl, sym, ap, map, take, drop, ◌-◌, get_or, length, nat_eq, arith}
use Rattle.std.specs.Prelude.{option_and_then, option_map}
use Rattle.std.proofs.lemmas.List.{take_rest}
use Rattle.std.proofs.Math.Nat.{pow-le-pow_right}
use Rattle.cli_words.specs.Parts.{Text}
use Rattle.cli_words.specs.Job.{amps, amps_job, bits_of, file_job, file_of, mean, mean_job}

pub first_and_rest : {X : Type 0} (f : X → Text) (xs : List X) (d : X) → 1 ≤ length xs → map f xs ≡ f (get_or xs 0 d) ∷ map f (take (length xs - 1) (drop 1 xs))
first_and_rest f [] d h = absurd (omega (arith, h))
first_and_rest f (x ∷ xs) d h = ap (λ r. f x ∷ map f r) (sym (take_rest (x ∷ xs) 1))

pub two_and_rest : {X : Type 0} (f : X → Text) (xs : List X) (d : X) → 2 ≤ length xs
    → map f xs ≡ f (get_or xs 0 d) ∷ f (get_or xs 1 d) ∷ map f (take (length xs - 2) (drop 2 xs))
two_and_rest f [] d h = absurd (omega (arith, h))
two_and_rest f (x ∷ []) d h = absurd (omega (arith, h))
two_and_rest f (x ∷ y ∷ xs) d h = ap (λ r. f x ∷ f y ∷ map f r) (sym (take_rest (x ∷ y ∷ xs) 2))

pub four_and_rest : {X : Type 0} (f : X → Text) (xs : List X) (d : X) → 4 ≤ length xs
    → map f xs ≡ f (get_or xs 0 d) ∷ f (get_or xs 1 d) ∷ f (get_or xs 2 d) ∷ f (get_or xs 3 d) ∷ map f (take (length xs - 4) (drop 4 xs))
four_and_rest f [] d h = absurd (omega (arith, h))
four_and_rest f (x ∷ []) d h = absurd (omega (arith, h))
four_and_rest f (x ∷ y ∷ []) d h = absurd (omega (arith, h))
four_and_rest f (x ∷ y ∷ z ∷ []) d h = absurd (omega (arith, h))
four_and_rest f (x ∷ y ∷ z ∷ w ∷ xs) d h = ap (λ r. f x ∷ f y ∷ f z ∷ f w ∷ map f r) (sym (take_rest (x ∷ y ∷ z ∷ w ∷ xs) 4))

pub three_words : {X : Type 0} (f : X → Text) (xs : List X) (d : X) → 3 ≤ length xs → length xs < 4
    → map f xs ≡ f (get_or xs 0 d) ∷ f (get_or xs 1 d) ∷ f (get_or xs 2 d) ∷ []
three_words f [] d h l = absurd (omega (arith, h))
three_words f (x ∷ []) d h l = absurd (omega (arith, h))
three_words f (x ∷ y ∷ []) d h l = absurd (omega (arith, h))
three_words f (x ∷ y ∷ z ∷ []) d h l = refl
three_words f (x ∷ y ∷ z ∷ w ∷ xs) d h l = absurd (omega (arith, l))

-- a word that is not empty is a file
pub is_file : (w : Text) (b : Bool) → b ≡ nat_eq (length w) 0 → b ≡ false → file_of w ≡ Some w
is_file [] b e f = absurd (cc)
is_file (c ∷ cs) b e f = refl

pub amps_are : (f b o : Text) (bits outcome : List Bool) → file_of f ≡ Some f → bits_of b ≡ Some bits → bits_of o ≡ Some outcome
    → amps_job (f ∷ b ∷ o ∷ []) ≡ Some (amps f bits outcome)
amps_are f b o bits outcome is b_is o_is =
    ap (option_and_then (λ x. option_and_then (λ y. option_map (amps x y) (bits_of o)) (bits_of b))) is
    ∙ ap (option_and_then (λ y. option_map (amps f y) (bits_of o))) b_is ∙ ap (option_map (amps f bits)) o_is

-- with both words of bits read, a mean is what its source is
pub mean_is : (f e b o : Text) (ns : List Text) (bits outcome : List Bool) → bits_of b ≡ Some bits → bits_of o ≡ Some outcome
    → mean_job (f ∷ e ∷ b ∷ o ∷ ns) ≡ file_job (λ x y s. mean x y bits outcome s) (f ∷ e ∷ ns)
mean_is f e b o ns bits outcome b_is o_is =
    ap (option_and_then (λ x. option_and_then (λ y. file_job (λ g t s. mean g t x y s) (f ∷ e ∷ ns)) (bits_of o))) b_is
    ∙ ap (option_and_then (λ y. file_job (λ g t s. mean g t bits y s) (f ∷ e ∷ ns))) o_is

-- a number below a power of ten is below each greater one
pub below_power : (value i n : ℕ) → value < 10 ^ i → i ≤ n → value < 10 ^ n
below_power value i n l h =
    let more : 10 ^ i ≤ 10 ^ n = pow-le-pow_right (omega arith) h in
    omega arith
