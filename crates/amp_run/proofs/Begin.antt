-- The input bits on their qubits, one at a time.
use Rattle.std.proofs.Common.{◌≡◌, ℕ, zero, suc, ◌+◌, ◌<◌, Bool, false, List, [], ◌∷◌, length, get_or, set, drop, ap, sym, ◌∙◌, arith, add-one}
use Rattle.std.proofs.Math.Seq.{drop-cons}
use Rattle.gate_core.specs.Local.{AllBelow}
use Rattle.gate_core.specs.Meaning.{placed}

pub below_at : (n : ℕ) (qs : List ℕ) (i : ℕ) → AllBelow n qs → i < length qs → get_or qs i 0 < n
below_at n [] i a h = absurd (omega arith)
below_at n (q ∷ qs) zero a h = a.0
below_at n (q ∷ qs) (suc i) a h = below_at n qs i a.1 (omega arith)

pub placed_more : (qs : List ℕ) (input u : List Bool) (i : ℕ) → i < length qs → i < length input
    → placed (drop (i + 1) qs) (drop (i + 1) input) (set u (get_or qs i 0) (get_or input i false)) ≡ placed (drop i qs) (drop i input) u
placed_more qs input u i h k =
    let e : drop i qs ≡ get_or qs i 0 ∷ drop (i + 1) qs = drop-cons qs i 0 h ∙ ap (λ j. get_or qs i 0 ∷ drop j qs) (sym (add-one i)) in
    let f : drop i input ≡ get_or input i false ∷ drop (i + 1) input = drop-cons input i false k ∙ ap (λ j. get_or input i false ∷ drop j input) (sym (add-one i)) in
    sym (ap (λ ps. placed ps (drop i input) u) e ∙ ap (λ bs. placed (get_or qs i 0 ∷ drop (i + 1) qs) bs u) f)
