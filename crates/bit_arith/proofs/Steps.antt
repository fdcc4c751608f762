-- What X steps do to rows of values.
use Rattle.std.proofs.Common.{◌≡◌, ℕ, ◌+◌, ◌<◌, Bool, true, false, cond, ◌&&◌, ◌||◌, List, [], ◌∷◌, ◌++◌, Some, refl, sym, ap, ap₂, ◌∙◌, arith, eqb}
use Rattle.std.specs.Bool.{beq}
use Rattle.std.proofs.Math.Path.{fun_ext}
use Rattle.std.proofs.lemmas.Bool.{eqb-true, eq-eqb, ne_eqb}
use Rattle.std.proofs.lemmas.List.Sums.{sum_by-append}
use Rattle.flat_core.specs.declared.step.Step.{Step}
use Rattle.flat_core.specs.declared.step.WireId.{WireId}
use Rattle.flat_core.specs.declared.step.Lit.{Lit}
use Rattle.flat_core.specs.Label.{changes, label_after}
use Rattle.flat_mean.specs.Row.{Row, holds, next, new_value}
use Rattle.bit_arith.specs.declared.operand.Operand.{Operand}
use Rattle.bit_arith.specs.declared.operand.Operand.TheVariants.{Const, Literal}
use Rattle.bit_arith.specs.Calls.{Targets, SafeLit, Safe, AllSafe}
use Rattle.bit_arith.specs.Values.{bit_of, all_hold, bits_at}
use Rattle.bit_arith.specs.Does.{after, AllX}

-- ---- the value of one wire set

abbrev pub set_wire : WireId → Bool → Row → Row
set_wire w b v = λ q. cond (eqb w.number q) b (v q)

pub set_same : (v : Row) (w : WireId) (b : Bool) → set_wire w b v w.number ≡ b
set_same v w b = ap (λ c. cond c b (v w.number)) (eq-eqb w.number w.number refl)

pub set_other : (v : Row) (w : WireId) (k : ℕ) (b : Bool) → eqb w.number k ≡ false → set_wire w b v k ≡ v k
set_other v w k b ne = ap (λ c. cond c b (v k)) ne

pub set_idem : (v : Row) (w : WireId) (b : Bool) → b ≡ v w.number → set_wire w b v ≡ v
set_idem v w b e = fun_ext (λ k. at k (eqb w.number k) refl)
  where
    at : (k : ℕ) (c : Bool) → eqb w.number k ≡ c → cond c b (v k) ≡ v k
    at k true f = e ∙ ap v (eqb-true w.number k f)
    at k false f = refl

-- ---- steps after steps

pub AllX-append : (xs ys : List Step) → AllX xs → AllX ys → AllX (xs ++ ys)
AllX-append [] ys p q = q
AllX-append (x ∷ xs) ys p q = (p.0, AllX-append xs ys p.1 q)

pub after-append : (xs ys : List Step) (v : Row) → after (xs ++ ys) v ≡ after ys (after xs v)
after-append [] ys v = refl
after-append (x ∷ xs) ys v = after-append xs ys (next x false v)

-- ---- labels

pub label-append : (xs ys : List Step) (w : WireId) → label_after (xs ++ ys) w ≡ label_after xs w + label_after ys w
label-append xs ys w = sum_by-append (λ s. cond (changes w s) 1 0) xs ys

pub label-cons : (x : Step) (xs : List Step) (w : WireId) → label_after (x ∷ xs) w ≡ cond (changes w x) 1 0 + label_after xs w
label-cons x xs w = let e : label_after (x ∷ xs) w ≡ label_after (x ∷ []) w + label_after xs w = label-append (x ∷ []) xs w in omega (arith, e)

pub label-none : (xs ys : List Step) (w : WireId) → label_after xs w ≡ 0 → label_after ys w ≡ 0 → label_after (xs ++ ys) w ≡ 0
label-none xs ys w p q = let e : label_after (xs ++ ys) w ≡ label_after xs w + label_after ys w = label-append xs ys w in omega (arith, e, p, q)

pub label-left : (xs ys : List Step) (w : WireId) → label_after (xs ++ ys) w ≡ 0 → label_after xs w ≡ 0
label-left xs ys w p = let e : label_after (xs ++ ys) w ≡ label_after xs w + label_after ys w = label-append xs ys w in omega (arith, e, p)

pub label-right : (xs ys : List Step) (w : WireId) → label_after (xs ++ ys) w ≡ 0 → label_after ys w ≡ 0
label-right xs ys w p = let e : label_after (xs ++ ys) w ≡ label_after xs w + label_after ys w = label-append xs ys w in omega (arith, e, p)

-- a first step that does not change the wire
pub label-not : (x : Step) (xs : List Step) (w : WireId) → changes w x ≡ false → label_after xs w ≡ 0 → label_after (x ∷ xs) w ≡ 0
label-not x xs w p q =
    let e : label_after (x ∷ xs) w ≡ 0 + label_after xs w = label-cons x xs w ∙ ap (λ b. cond b 1 0 + label_after xs w) p in
    omega (arith, e, q)

pub label-first : (x : Step) (xs : List Step) (w : WireId) → label_after (x ∷ xs) w ≡ 0 → changes w x ≡ false
label-first x xs w p = go (changes w x) (sym (label-cons x xs w) ∙ p)
  where
    go : (b : Bool) → cond b 1 0 + label_after xs w ≡ 0 → b ≡ false
    go false e = refl
    go true e = absurd (omega (arith, e))

pub label-rest : (x : Step) (xs : List Step) (w : WireId) → label_after (x ∷ xs) w ≡ 0 → label_after xs w ≡ 0
label-rest x xs w p = label-right (x ∷ []) xs w p

-- a wire that no step changes keeps its value
pub after_kept : (ss : List Step) (v : Row) (w : WireId) → label_after ss w ≡ 0 → after ss v w.number ≡ v w.number
after_kept [] v w h = refl
after_kept (s ∷ ss) v w h =
    after_kept ss (next s false v) w (label-rest s ss w h)
    ∙ ap (λ c. cond c (new_value s false v) (v w.number)) (label-first s ss w h)

-- ---- Booleans

pub or_false : (a b : Bool) → a || b ≡ false → (a ≡ false) × (b ≡ false)
or_false true b h = cc
or_false false b h = (refl, h)

pub and_true : (a b : Bool) → a && b ≡ true → (a ≡ true) × (b ≡ true)
and_true true b h = (refl, h)
and_true false b h = cc

pub and_assoc : (a b c : Bool) → (a && b) && c ≡ a && (b && c)
and_assoc true b c = refl
and_assoc false b c = refl

pub and_one : (a : Bool) → a && true ≡ a
and_one true = refl
and_one false = refl

pub and_zero : (a : Bool) → a && false ≡ false
and_zero true = refl
and_zero false = refl

pub and_false : (a b : Bool) → a ≡ false → a && b ≡ false
and_false a b e = rw e refl

pub clash : false ≡ true → ⊥
clash c = cc

-- ---- wires

pub apart_below : (a b : ℕ) → a < b → eqb b a ≡ false
apart_below a b h = ne_eqb b a (λ e. absurd (omega (arith, e, h)))

pub apart_above : (a b : ℕ) → a < b → eqb a b ≡ false
apart_above a b h = ne_eqb a b (λ e. absurd (omega (arith, e, h)))

-- ---- operands see the values of safe wires alone

abbrev pub Agree : ℕ → Targets → Row → Row → Type 0
Agree n T v u = (w : WireId) → w.number < n → T w ≡ false → v w.number ≡ u w.number

abbrev pub lits_hold : Row → List Lit → Bool
lits_hold v [] = true
lits_hold v (l ∷ ls) = holds v (Some l) && lits_hold v ls

abbrev pub SafeLits : ℕ → Targets → List Lit → Type 0
SafeLits n T [] = Unit {0}
SafeLits n T (l ∷ ls) = SafeLit n T l × SafeLits n T ls

pub lit_same : (n : ℕ) (T : Targets) (v u : Row) (l : Lit) → SafeLit n T l → Agree n T v u → holds v (Some l) ≡ holds u (Some l)
lit_same n T v u l s e = ap (λ b. beq b l.positive) (e l.wire s.0 s.1)

pub lits_same : (n : ℕ) (T : Targets) (v u : Row) (ls : List Lit) → SafeLits n T ls → Agree n T v u → lits_hold v ls ≡ lits_hold u ls
lits_same n T v u [] s e = refl
lits_same n T v u (l ∷ ls) s e =
    let here : holds v (Some l) ≡ holds u (Some l) = lit_same n T v u l s.0 e in
    let rest : lits_hold v ls ≡ lits_hold u ls = lits_same n T v u ls s.1 e in
    ap₂ ◌&&◌ here rest

pub bit_same : (n : ℕ) (T : Targets) (v u : Row) (p : Operand) → Safe n T p → Agree n T v u → bit_of v p ≡ bit_of u p
bit_same n T v u (Const b) s e = refl
bit_same n T v u (Literal l) s e = lit_same n T v u l s e

pub all_same : (n : ℕ) (T : Targets) (v u : Row) (ps : List Operand) → AllSafe n T ps → Agree n T v u → all_hold v ps ≡ all_hold u ps
all_same n T v u [] s e = refl
all_same n T v u (p ∷ ps) s e = ap₂ ◌&&◌ (bit_same n T v u p s.0 e) (all_same n T v u ps s.1 e)

pub bits_same : (n : ℕ) (T : Targets) (v u : Row) (ps : List Operand) → AllSafe n T ps → Agree n T v u → bits_at v ps ≡ bits_at u ps
bits_same n T v u [] s e = refl
bits_same n T v u (p ∷ ps) s e =
    let a : bit_of v p ≡ bit_of u p = bit_same n T v u p s.0 e in
    let b : bits_at v ps ≡ bits_at u ps = bits_same n T v u ps s.1 e in
    ap₂ ◌∷◌ a b
