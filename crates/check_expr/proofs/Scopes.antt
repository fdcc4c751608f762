-- A step leaves the scope as it is; and where a check answers, breaks a rule, or has no memory at once.
use Rattle.std.specs.Prelude.{List, [], ◌∷◌, IfErr, ◌≡◌, refl, ℕ, Result, Ok, Err}
use Rattle.std.proofs.Common.{get_or, length, ◌<◌, ◌≤◌, arith}
use Rattle.std.specs.Result.{IsErrAnd}
use mathlib.Core.Path.{sym, subst}
use Rattle.silq_tree.specs.declared.node.Spot.{Spot}
use Rattle.silq_types.specs.Rules.{Fault, rule}
use Rattle.silq_types.specs.Known.{Signatures}
use Rattle.check_scope.specs.Context.{Check, fail, give_back, of_result}
use Rattle.check_scope.specs.Library.{Shelf}
use Rattle.check_scope.specs.State.{State, Keeps, scope_in}
use Rattle.check_scope.specs.Steps.{Reads, Stops, IsFirst}
use Rattle.check_scope.specs.declared.fault.CheckFault.{CheckFault}
use Rattle.check_scope.specs.declared.fault.CheckFault.TheVariants as checks
use Rattle.check_scope.specs.declared.fault.ExprFault.{ExprFault}
use Rattle.check_scope.specs.declared.fault.ExprFault.TheVariants as stops
use Rattle.check_scope.proofs.Sequence.{keeps_refl, reads_bind, reads_then, reads_back, reads_variables, stops_bind, stops_then, stops_later, stops_after}

pub same_scope : (l : Shelf) (old now : State) → Keeps old now → scope_in l now ≡ scope_in l old
same_scope l old now k = rw (k.this, k.results, k.statics, k.held) refl

-- no memory: each check may stop there
pub stops_memory : {A : Type 0} (met : Signatures) (m : Check A) (s : State) → Stops met m s (stops.Fault checks.Memory) s
stops_memory met m s = record { runs = tt; keeps = keeps_refl s }

pub stops_full : {A : Type 0} (met : Signatures) (m : Check A) (old now : State) (f : ExprFault) → now ≡ old → f ≡ stops.Fault checks.Memory → Stops met m old f now
stops_full met m old now f e q = rw (e, q) (stops_memory met m old)

-- a list of one is given back
pub reads_alone : {A : Type 0} (met : Signatures) (a : A) (us : List A) (s : State) → us ≡ a ∷ [] → Reads met (give_back (a ∷ [])) s us s
reads_alone met a us s e = rw e (reads_back met (a ∷ []) s)

-- a rule that is broken here
pub stops_broken : {A : Type 0} (met : Signatures) (s : State) (number : ℕ) (spot : Spot) → Stops {A = A} met (fail (rule number spot)) s (stops.Fault (checks.Broken number spot)) s
stops_broken met s number spot = record { runs = refl; keeps = keeps_refl s }

pub reads_result : {A : Type 0} (met : Signatures) (r : Result A Fault) (a : A) (s : State) → r ≡ Ok a → Reads met (of_result r) s a s
reads_result met r a s e = rw e (record { runs = refl; keeps = keeps_refl s })

pub stops_result : {A : Type 0} (met : Signatures) (r : Result A Fault) (f : CheckFault) (s : State) → IsFirst f r → Stops met (of_result r) s (stops.Fault f) s
stops_result met r checks.Memory s e = record { runs = tt; keeps = keeps_refl s }
stops_result met r (checks.Broken number spot) s e = rw e (record { runs = refl; keeps = keeps_refl s })
stops_result met r (checks.Unsupported what spot) s e = rw e (record { runs = refl; keeps = keeps_refl s })
stops_result met r (checks.Limit kind) s e = rw e (record { runs = refl; keeps = keeps_refl s })

-- one check after another
pub ruleset chain = (reads_bind, reads_then, reads_back, reads_variables, stops_bind, stops_then, stops_later, stops_after)

-- what a `?` gives back
pub if_err : {A E : Type 0} (P : E → Type 0) (r : Result A E) (e : E) → IsErrAnd r (λ x. x ≡ e) → P e → IfErr r P
if_err P (Err x) e q p = subst P (sym q) p
if_err P (Ok a) e q p = tt

-- a check told in other words
pub reads_as : {A : Type 0} (met : Signatures) (m n : Check A) (old now : State) (a : A) → m ≡ n → Reads met m old a now → Reads met n old a now
reads_as met m n old now a e r = subst (λ m. Reads met m old a now) e r

pub stops_as : {A : Type 0} (met : Signatures) (m n : Check A) (old now : State) (f : ExprFault) → m ≡ n → Stops met m old f now → Stops met n old f now
stops_as met m n old now f e r = subst (λ m. Stops met m old f now) e r

-- a list of one
pub only_one : {A : Type 0} (P : List A → Type 0) (xs : List A) (d : A) → 1 ≤ length xs → length xs < 2 → P (get_or xs 0 d ∷ []) → P xs
only_one P [] d l m p = absurd (omega arith)
only_one P (x ∷ []) d l m p = p
only_one P (x ∷ y ∷ ys) d l m p = absurd (omega arith)
