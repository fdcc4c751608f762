-- Lists that are gone through.
use Rattle.std.proofs.Common.{◌≡◌, ℕ, zero, suc, ◌+◌, ◌<◌, Bool, List, [], ◌∷◌, ◌++◌, length, map, take, drop, set, get_or, reverse, refl, sym, ap, ◌∙◌, append_assoc, arith}
use Rattle.std.proofs.lemmas.List.{reverse-append, drop_more}
use Rattle.silq_types.specs.declared.types.Shape.{Shape}
use Rattle.silq_types.specs.Types.{shape_bits}
use Rattle.silq_mean.specs.Value.{Value, number_of, numbers_of, value_of_bits}
use Rattle.silq_mean.specs.Table.{inputs}

more : (i : ℕ) → i + 1 ≡ suc i
more i = omega arith

map_step : {A : Type 0} (f : A → A) (ts : List A) (i : ℕ) (d : A) → i < length ts → set (map f (take i ts) ++ drop i ts) i (f (get_or ts i d)) ≡ map f (take (suc i) ts) ++ drop (suc i) ts
map_step f [] i d h = absurd (omega (arith, h))
map_step f (t ∷ ts) zero d h = refl
map_step f (t ∷ ts) (suc i) d h = ap (λ us. f t ∷ us) (map_step f ts i d (omega (arith, h)))

map_next : {A : Type 0} (f : A → A) (ts : List A) (i : ℕ) (d : A) → i < length ts → set (map f (take i ts) ++ drop i ts) i (f (get_or ts i d)) ≡ map f (take (i + 1) ts) ++ drop (i + 1) ts
map_next f ts i d h = map_step f ts i d h ∙ ap (λ j. map f (take j ts) ++ drop j ts) (sym (more i))

-- those behind are as they were
map_behind : {A : Type 0} (f : A → A) (ts : List A) (i : ℕ) (d : A) → i < length ts → get_or (map f (take i ts) ++ drop i ts) i d ≡ get_or ts i d
map_behind f [] i d h = absurd (omega (arith, h))
map_behind f (t ∷ ts) zero d h = refl
map_behind f (t ∷ ts) (suc i) d h = map_behind f ts i d (omega (arith, h))

-- one item more is changed
pub each_next : {A : Type 0} (f : A → A) (now old : List A) (i : ℕ) (t u : A) → i < length old → now ≡ map f (take i old) ++ drop i old → u ≡ f (get_or now i t) → set now i u ≡ map f (take (i + 1) old) ++ drop (i + 1) old
each_next f now old i t u lt e h =
    ap (λ z. set z i u) e
    ∙ ap (λ z. set (map f (take i old) ++ drop i old) i z) (h ∙ ap f (ap (λ z. get_or z i t) e ∙ map_behind f old i t lt))
    ∙ map_next f old i t lt

-- one number more
pub numbers_next : (w m : ℕ) (ns new whole : List ℕ) (n : ℕ) (rest first behind : List Bool) → ns ++ numbers_of (suc m) w rest ≡ whole → new ≡ ns ++ n ∷ [] → n ≡ number_of first → first ≡ take w rest → behind ≡ drop w rest → new ++ numbers_of m w behind ≡ whole
numbers_next w m ns new whole n rest first behind h e k f g =
    ap (λ z. z ++ numbers_of m w behind) e
    ∙ append_assoc ns (n ∷ []) (numbers_of m w behind)
    ∙ ap (λ z. ns ++ n ∷ numbers_of m w z) g
    ∙ ap (λ z. ns ++ z ∷ numbers_of m w (drop w rest)) (k ∙ ap number_of f)
    ∙ h

-- one value more
pub inputs_next : (ss : List Shape) (i : ℕ) (s : Shape) (vs new whole : List Value) (v : Value) (rest first behind : List Bool) (size : ℕ) → i < length ss → reverse vs ++ inputs (drop i ss) rest ≡ whole → new ≡ v ∷ vs → v ≡ value_of_bits (get_or ss i s) first → first ≡ take size rest → behind ≡ drop size rest → size ≡ shape_bits (get_or ss i s) → reverse new ++ inputs (drop (i + 1) ss) behind ≡ whole
inputs_next ss i s vs new whole v rest first behind size lt h e k f g z =
    let s' = get_or ss i s in
    ap (λ x. reverse x ++ inputs (drop (i + 1) ss) behind) e
    ∙ ap (λ x. x ++ inputs (drop (i + 1) ss) behind) (reverse-append (v ∷ []) vs)
    ∙ append_assoc (reverse vs) (v ∷ []) (inputs (drop (i + 1) ss) behind)
    ∙ ap (λ x. reverse vs ++ v ∷ inputs (drop (i + 1) ss) x) (g ∙ ap (λ n. drop n rest) z)
    ∙ ap (λ x. reverse vs ++ x ∷ inputs (drop (i + 1) ss) (drop (shape_bits s') rest)) (k ∙ ap (value_of_bits s') (f ∙ ap (λ n. take n rest) z))
    ∙ ap (λ x. reverse vs ++ inputs x rest) (sym (drop_more ss i s lt))
    ∙ h
