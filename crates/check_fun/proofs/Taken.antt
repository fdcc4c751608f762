-- Names that were taken before.
use Rattle.std.specs.Prelude.{◌≡◌, refl, ℕ, zero, suc, ◌+◌, ◌<◌, ◌≤◌, Bool, true, false, not, cond, ◌||◌, List, [], ◌∷◌, length, drop, map, get_or, Result, Ok, Err}
use Rattle.std.proofs.Math.Seq.{drop-cons}
use mathlib.Core.Path.{sym, ap, ◌∙◌, subst}
use native.Mathlib.Omega.{arith}
use Rattle.silq_tree.specs.declared.node.NameId.{NameId}
use Rattle.silq_tree.specs.declared.node.ExprId.{ExprId}
use Rattle.silq_tree.specs.declared.node.ParamNode.{ParamNode}
use Rattle.silq_tree.specs.Standing.{param_of}
use Rattle.silq_tree.specs.Syntax.{Expression}
use Rattle.silq_types.specs.Rules.{rule}
use Rattle.silq_types.specs.Types.{same_name}
use Rattle.check_fun.specs.Program.{repeats, param_names}
use Rattle.check_fun.specs.Statement.{any_name}

-- the names have the same members
abbrev pub Agree : List NameId → List NameId → Type 0
Agree set names = (x : NameId) → any_name (λ y. same_name y x) set ≡ any_name (λ y. same_name y x) names

turned : (a b : Bool) → a ≡ not b → a ≡ false → b ≡ true
turned a true e f = refl
turned a false e f = absurd (grind (arith, e, f))

kept : (a b : Bool) → a ≡ not b → a ≡ true → b ≡ false
kept a false e f = refl
kept a true e f = absurd (grind (arith, e, f))

module _ (at : ExprId → Expression) (ps : List ParamNode) (i : ℕ) (d : ParamNode) (taken earlier : List NameId) (new : Bool) where
  here : ParamNode
  here = get_or ps i d

  step : i < length ps → param_names earlier (map (param_of at) (drop i ps))
      ≡ cond (any_name (λ y. same_name y (get_or ps i d).name) earlier) (Err (rule 2 (get_or ps i d).at)) (param_names ((get_or ps i d).name ∷ earlier) (map (param_of at) (drop (suc i) ps)))
  step lt = ap (λ l. param_names earlier (map (param_of at) l)) (drop-cons ps i d lt)

  pub second_there : i < length ps → Agree taken earlier → param_names [] (map (param_of at) ps) ≡ param_names earlier (map (param_of at) (drop i ps))
      → new ≡ not (any_name (λ y. same_name y (get_or ps i d).name) taken) → new ≡ false
      → param_names [] (map (param_of at) ps) ≡ Err (rule 2 (get_or ps i d).at)
  second_there lt agree inv e f =
      inv ∙ step lt ∙ ap (λ b. cond b (Err (rule 2 (get_or ps i d).at)) (param_names ((get_or ps i d).name ∷ earlier) (map (param_of at) (drop (suc i) ps))))
      (sym (agree (get_or ps i d).name) ∙ turned new (any_name (λ y. same_name y (get_or ps i d).name) taken) e f)

  pub second_on : (now : List NameId) → i < length ps → Agree taken earlier → param_names [] (map (param_of at) ps) ≡ param_names earlier (map (param_of at) (drop i ps))
      → new ≡ not (any_name (λ y. same_name y (get_or ps i d).name) taken) → new ≡ true
      → ((x : NameId) → any_name (λ y. same_name y x) now ≡ (same_name (get_or ps i d).name x || any_name (λ y. same_name y x) taken))
      → (then_names : List NameId) × Agree now then_names × (param_names [] (map (param_of at) ps) ≡ param_names then_names (map (param_of at) (drop (i + 1) ps)))
  second_on now lt agree inv e f grown =
      let next : suc i ≡ i + 1 = omega arith in (
        (get_or ps i d).name ∷ earlier,
        (λ x. grown x ∙ ap (λ b. same_name (get_or ps i d).name x || b) (agree x)),
        inv ∙ step lt ∙ ap (λ b. cond b (Err (rule 2 (get_or ps i d).at)) (param_names ((get_or ps i d).name ∷ earlier) (map (param_of at) (drop (suc i) ps))))
            (sym (agree (get_or ps i d).name) ∙ kept new (any_name (λ y. same_name y (get_or ps i d).name) taken) e f)
            ∙ ap (λ n. param_names ((get_or ps i d).name ∷ earlier) (map (param_of at) (drop n ps))) next,
      )

or_true : (a : Bool) → (a || true) ≡ true
or_true true = refl
or_true false = refl

-- a list repeats a name where its end does
pub repeats_before : (n : ℕ) (xs : List NameId) → repeats (drop n xs) ≡ true → repeats xs ≡ true
repeats_before zero xs e = e
repeats_before (suc n) [] e = e
repeats_before (suc n) (x ∷ xs) e = ap (λ b. any_name (λ y. same_name y x) xs || b) (repeats_before n xs e) ∙ or_true (any_name (λ y. same_name y x) xs)

pub repeats_here : (xs taken : List NameId) (n : ℕ) (d : NameId) (new : Bool) → n < length xs → Agree taken (drop (suc n) xs)
    → new ≡ not (any_name (λ y. same_name y (get_or xs n d)) taken) → new ≡ false → repeats xs ≡ true
repeats_here xs taken n d new lt agree e f =
    repeats_before n xs (ap repeats (drop-cons xs n d lt) ∙ ap (λ b. b || repeats (drop (suc n) xs)) (sym (agree (get_or xs n d)) ∙ turned new (any_name (λ y. same_name y (get_or xs n d)) taken) e f))
