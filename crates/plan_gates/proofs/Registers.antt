-- Reading and changing one bit of a register.
use Rattle.std.proofs.Common.{◌≡◌, ℕ, zero, suc, ◌<◌, Bool, false, List, ◌∷◌, length, get_or, set, refl, sym, ◌∙◌, ap, ap₂, arith}
use Rattle.std.proofs.lemmas.Bool.Decides.{nat_tests}
use Rattle.std.proofs.Math.Path.{fun_ext}
use Rattle.flat_mean.specs.Row.{Row, put}
use Rattle.plan_gates.specs.Registers.{register}

pub length-register : (n : ℕ) (row : Row) → length (register n row) ≡ n
length-register zero row = refl
length-register (suc n) row = ap suc (length-register n (λ q. row (suc q)))

pub get-register : (n : ℕ) (row : Row) (q : ℕ) → q < n → get_or (register n row) q false ≡ row q
get-register zero row q l = absurd (omega arith)
get-register (suc n) row zero l = refl
get-register (suc n) row (suc q) l = get-register n (λ k. row (suc k)) q (omega arith)

put_suc : (q : ℕ) (b : Bool) (row : Row) (k : ℕ) → put (suc q) b row (suc k) ≡ put q b (λ j. row (suc j)) k
put_suc q b row k = grind (arith, nat_tests)

put_zero : (b : Bool) (row : Row) (k : ℕ) → put 0 b row (suc k) ≡ row (suc k)
put_zero b row k = grind (arith, nat_tests)

put_first : (q : ℕ) (b : Bool) (row : Row) → put (suc q) b row 0 ≡ row 0
put_first q b row = grind (arith, nat_tests)

-- a changed bit is a changed value, or one that is not in the register
pub set-register : (n : ℕ) (row : Row) (q : ℕ) (b : Bool) → set (register n row) q b ≡ register n (put q b row)
set-register zero row q b = refl
set-register (suc n) row zero b = ap (λ (u : List Bool). b ∷ u) (ap (register n) (sym (fun_ext (put_zero b row))))
set-register (suc n) row (suc q) b =
    ap₂ (λ (x : Bool) (u : List Bool). x ∷ u) (sym (put_first q b row))
    (set-register n (λ k. row (suc k)) q b ∙ ap (register n) (sym (fun_ext (put_suc q b row))))

-- a value of 0 is a bit of 0, also past the end
pub zero-register : (n : ℕ) (row : Row) (q : ℕ) → row q ≡ false → get_or (register n row) q false ≡ false
zero-register zero row q e = refl
zero-register (suc n) row zero e = e
zero-register (suc n) row (suc q) e = zero-register n (λ k. row (suc k)) q e
