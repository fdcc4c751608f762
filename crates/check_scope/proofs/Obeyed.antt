-- The rules of a node, told one by one.
use Rattle.std.proofs.Common.{◌≡◌, refl, ℕ, ◌+◌, ◌<◌, ◌≤◌, Bool, true, false, List, [], ◌∷◌, ◌∙◌, sym, ap, subst, drop, get_or, length}
use Rattle.std.proofs.lemmas.List.{drop_more, at_drop_all}
use Rattle.silq_tree.specs.declared.node.Spot.{Spot}
use Rattle.silq_types.specs.Rules.{rule}
use Rattle.silq_types.specs.Known.{Signatures}
use Rattle.check_scope.specs.Context.{rules, pass, fail}
use Rattle.check_scope.specs.State.{State}
use Rattle.check_scope.specs.Steps.{Reads, Stops}
use Rattle.check_scope.specs.declared.fault.CheckFault.TheVariants as checks
use Rattle.check_scope.specs.declared.fault.ExprFault.TheVariants as stops
use Rattle.check_scope.proofs.Sequence.{keeps_refl}

-- what the rules from number i on say, all say
pub record Reached (at : Spot) (tests : List (Bool × ℕ)) (i : ℕ) : Type 0 where
  pub same : rules at (drop i tests) ≡ rules at tests

pub reached_none : (at : Spot) (tests : List (Bool × ℕ)) → Reached at tests 0
reached_none at tests = record { same = refl }

skip_one : (at : Spot) (t : Bool × ℕ) (ts : List (Bool × ℕ)) → t.0 ≡ false → rules at (t ∷ ts) ≡ rules at ts
unfolding rules
skip_one at t ts e = rw e refl

break_one : (at : Spot) (t : Bool × ℕ) (ts : List (Bool × ℕ)) → t.0 ≡ true → rules at (t ∷ ts) ≡ fail (rule t.1 at)
unfolding rules
break_one at t ts e = rw e refl

none_left : (at : Spot) → rules at [] ≡ pass
unfolding rules
none_left at = refl

pub reached_more : (at : Spot) (tests : List (Bool × ℕ)) (i : ℕ) (d : Bool × ℕ) → Reached at tests i → i < length tests → (get_or tests i d).0 ≡ false → Reached at tests (i + 1)
reached_more at tests i d r l e = record { same = sym (ap (rules at) (drop_more tests i d l) ∙ skip_one at (get_or tests i d) (drop (i + 1) tests) e) ∙ r.same }

pub obeyed : (at : Spot) (tests : List (Bool × ℕ)) (i : ℕ) → Reached at tests i → length tests ≤ i → (met : Signatures) (s : State) → Reads met (rules at tests) s tt s
obeyed at tests i r l met s = subst (λ m. Reads met m s tt s) (sym (at_drop_all (rules at) tests i l ∙ none_left at) ∙ r.same) (record { runs = refl; keeps = keeps_refl s })

pub disobeyed : (at : Spot) (tests : List (Bool × ℕ)) (i : ℕ) (d : Bool × ℕ) → Reached at tests i → i < length tests → (get_or tests i d).0 ≡ true → (met : Signatures) (s : State) → Stops met (rules at tests) s (stops.Fault (checks.Broken (get_or tests i d).1 at)) s
disobeyed at tests i d r l e met s =
    subst (λ m. Stops met m s (stops.Fault (checks.Broken (get_or tests i d).1 at)) s) (sym (ap (rules at) (drop_more tests i d l) ∙ break_one at (get_or tests i d) (drop (i + 1) tests) e) ∙ r.same) (record { runs = refl; keeps = keeps_refl s })
