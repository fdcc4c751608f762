-- The steps of a use of a place.
use Rattle.std.proofs.Common.{◌≡◌, refl, ℕ, Bool, true, false, ◌&&◌, ◌==◌, List, [], ◌∷◌, Option, Some, None, ℤ, Result, Ok, Err, IfErr, ◌∙◌, sym, ap, subst, arith}
use Rattle.std.specs.Result.{IsErrAnd}
use Rattle.std.proofs.lemmas.Bool.Decides.{nat_tests, Decides-int_eq}
use Rattle.silq_tree.specs.declared.node.NameId.{NameId}
use Rattle.silq_tree.specs.declared.node.Spot.{Spot}
use Rattle.silq_types.specs.declared.types.Ty.{Ty}
use Rattle.silq_types.specs.declared.values.Part.{Part}
use Rattle.silq_types.specs.declared.values.Var.{Var}
use Rattle.silq_types.specs.Types.{same_name}
use Rattle.silq_types.specs.Rules.{rule}
use Rattle.silq_types.specs.Known.{Signatures}
use Rattle.check_scope.specs.Context.{fail, find_var, replace, same_part, same_index}
use Rattle.check_scope.specs.Places.{move}
use Rattle.check_scope.specs.State.{State}
use Rattle.check_scope.specs.Steps.{Reads, Stops}
use Rattle.check_scope.specs.declared.fault.CheckFault.TheVariants as checks
use Rattle.check_scope.specs.declared.fault.ExprFault.TheVariants as stops
use Rattle.check_scope.proofs.Sequence.{keeps_refl}

pub stops_fail : {A : Type 0} (met : Signatures) (s : State) (number : ℕ) (at : Spot) → Stops {A = A} met (fail (rule number at)) s (stops.Fault (checks.Broken number at)) s
stops_fail met s number at = record { runs = refl; keeps = keeps_refl s }

pub moved : (met : Signatures) (t : Ty) (v : Var) (old now : State) → now ≡ record old { vars = replace old.vars (record v { consumed = true }) }
    → Reads met (move t v) old (record { ty = t; origin = v.origin; place = v.place }) now
moved met t v old now e = rw e (record { runs = refl; keeps = record { this = refl; results = refl; depth = refl; start = refl; statics = refl; held = refl } })

-- what a `?` gives back
pub at_exit : {A E : Type 0} (P : E → Type 0) (r : Result A E) (e : E) → IsErrAnd r (λ x. x ≡ e) → P e → IfErr r P
at_exit P (Err x) e q p = subst P (sym q) p
at_exit P (Ok a) e q p = tt

same_number : (a b : ℕ) → (a == b) ≡ true → a ≡ b
same_number a b e = grind (arith, nat_tests)

and_left : (a b : Bool) → (a && b) ≡ true → a ≡ true
and_left true b e = refl
and_left false b e = e

and_right : (a b : Bool) → (a && b) ≡ true → b ≡ true
and_right true b e = e
and_right false b e = cc

same_name_is : (x y : NameId) → (x.number == y.number) ≡ true → x ≡ y
same_name_is x y e = ap (λ (n : ℕ). record { number = n }) (same_number x.number y.number e)

same_index_is : (i j : Option ℤ) → same_index i j ≡ true → i ≡ j
same_index_is None None e = refl
same_index_is (Some i) (Some j) e = ap (λ (z : ℤ). Some z) ((Decides-int_eq i j).0 e)
same_index_is None (Some j) e = cc
same_index_is (Some i) None e = cc

part_with : (x y : NameId) (a b c d : Option ℤ) → x ≡ y → a ≡ b → c ≡ d → ◌≡◌ {A = Part} (record { name = x; first = a; second = c }) (record { name = y; first = b; second = d })
part_with x y a b c d e f g = rw (e, f, g) refl

same_part_is : (p q : Part) → same_part p q ≡ true → p ≡ q
same_part_is p q e =
    part_with p.name q.name p.first q.first p.second q.second
    (same_name_is p.name q.name (and_left (same_name p.name q.name) (same_index p.first q.first && same_index p.second q.second) e))
    (same_index_is p.first q.first (and_left (same_index p.first q.first) (same_index p.second q.second) (and_right (same_name p.name q.name) (same_index p.first q.first && same_index p.second q.second) e)))
    (same_index_is p.second q.second (and_right (same_index p.first q.first) (same_index p.second q.second) (and_right (same_name p.name q.name) (same_index p.first q.first && same_index p.second q.second) e)))

find_step : (w : Var) (ws : List Var) (p : Part) (v : Var) → (find_var ws p ≡ Some v → v.part ≡ p) → (b : Bool) → same_part w.part p ≡ b → find_var (w ∷ ws) p ≡ Some v → v.part ≡ p
find_step w ws p v ih true k e = let h : Some w ≡ Some v = rw k at e in let same : w ≡ v = cc in rw (← same) (same_part_is w.part p k)
find_step w ws p v ih false k e = ih (rw k at e)

-- a variable that is found has the part
find_is : (vars : List Var) (p : Part) (v : Var) → find_var vars p ≡ Some v → v.part ≡ p
find_is [] p v e = cc
find_is (w ∷ ws) p v e = find_step w ws p v (find_is ws p v) (same_part w.part p) refl e

pub found_again : (vars : List Var) (p : Part) (v : Var) → find_var vars p ≡ Some v → find_var vars v.part ≡ Some v
found_again vars p v e = ap (λ (q : Part). find_var vars q) (find_is vars p v e) ∙ e
