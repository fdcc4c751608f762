-- Who owns a place: each place has at most one owner, among the variables that are not consumed and the values that are under way.
use Rattle.std.specs.Prelude.{length, suc, ◌≡◌, ℕ, ◌+◌, ◌≤◌, ◌==◌, if◌then◌else◌, List, [], ◌∷◌, Option, Some, None, Ok, ⊤}
use Rattle.check_scope.specs.Context.{Context, Check}
use Rattle.check_expr.specs.Expression.{Asked, first_asked, later_asked, exact_place}
use Rattle.silq_types.specs.Programs.{paired}
use Rattle.silq_types.specs.Calls.{Found, find_fun}
use Rattle.check_scope.specs.Walk.{Walk, answer, broken, counted, asked}
use Rattle.silq_types.specs.declared.need.Need.{Need}
use Rattle.silq_tree.specs.Syntax.{Function}
use Rattle.silq_tree.specs.declared.node.NameId.{NameId}
use Rattle.silq_types.specs.Known.{Signatures}
use Rattle.silq_mean.specs.Written.{Header, header_of}
use Rattle.silq_types.specs.declared.signature.InstanceKey.{InstanceKey}
use Rattle.silq_types.specs.declared.signature.Param.{Param}
use Rattle.silq_types.specs.declared.signature.Returned.{Returned}
use Rattle.silq_types.specs.declared.signature.Signature.{Signature}
use Rattle.silq_types.specs.declared.values.Value.{Value}
use Rattle.silq_types.specs.declared.values.Var.{Var}
use Rattle.silq_types.specs.declared.need.Need.TheVariants as needs

abbrev pub at_place : ℕ → ℕ → ℕ
at_place p q = if q == p then 1 else 0

abbrev pub owns : ℕ → Var → ℕ
owns p v = if v.consumed then 0 else at_place p v.place

-- how many variables own p
abbrev pub owners : ℕ → List Var → ℕ
owners p [] = 0
owners p (v ∷ vs) = owns p v + owners p vs

-- how many values own p
abbrev pub owned : ℕ → List Value → ℕ
owned p [] = 0
owned p (v ∷ vs) = at_place p v.place + owned p vs

-- no place has two owners, and none that is to come has one; `others p` counts the values under way, and `low` is a place that was next before
pub record Sole (low : ℕ) (others : ℕ → ℕ) (c : Context) : Type 0 where
  pub grown : low ≤ c.next
  pub one : (p : ℕ) → owners p c.vars + others p ≤ 1
  pub ahead : (p : ℕ) → c.next ≤ p → owners p c.vars + others p ≡ 0

-- a consumed use hands its values on, a held one does not
abbrev pub handed : Need → ℕ → List Value → ℕ
handed needs.Held p vs = 0
handed needs.Consumed p vs = owned p vs

abbrev pub handed_arguments : Need → List Asked → ℕ → List Value → ℕ
handed_arguments other l p [] = 0
handed_arguments other l p (v ∷ vs) = handed (first_asked other l).need p (v ∷ []) + handed_arguments other (later_asked l) p vs

-- ---- signatures that give each place on once

-- a weight for each parameter, summed over the consumed ones, and over those whose places the results have
abbrev pub consumed_weight : (ℕ → ℕ) → ℕ → List Param → ℕ
consumed_weight w i [] = 0
consumed_weight w i (p ∷ ps) = (if p.held then 0 else w i) + consumed_weight w (suc i) ps

abbrev pub from_weight : (ℕ → ℕ) → Option ℕ → ℕ
from_weight w None = 0
from_weight w (Some j) = w j

abbrev pub returned_weight : (ℕ → ℕ) → List Returned → ℕ
returned_weight w [] = 0
returned_weight w (r ∷ rs) = from_weight w r.from + returned_weight w rs

-- the places of consumed parameters are given on, each at most once
abbrev pub Proper : List Param → List Returned → Type 0
Proper ps rs = (w : ℕ → ℕ) → returned_weight w rs ≤ consumed_weight w 0 ps

-- the signature of an instance of one of these functions
abbrev pub ProperFor : List Function → InstanceKey → Signature → Type 0
ProperFor before k s = (x : NameId) (f : Found) (h : Header) → find_fun before x ≡ Some f → f.number ≡ k.fun.number → header_of (paired f.fun.statics k.statics) exact_place f.fun ≡ Ok h → Proper h.params s.results

-- P holds of each answer of the walk, whatever signatures with S it is given
abbrev pub Gives : {A : Type 0} → (InstanceKey → Signature → Type 0) → (A → Type 0) → Walk A → Type 0
Gives S P (answer a) = P a
Gives S P (broken e) = ⊤
Gives S P (counted w) = Gives S P w
Gives S P (asked k next) = (s : Signature) → S k s → Gives S P (next s)

-- from a context with P, each answer of the check has Q with the context that it leaves
pub record Ensures {A : Type 0} (S : InstanceKey → Signature → Type 0) (P : Context → Type 0) (m : Check A) (Q : A → Context → Type 0) : Type 0 where
  pub runs : (c : Context) → P c → Gives S (λ r. Q r.0 r.1) (m c)

-- ---- the signatures of a program

-- the function with this number, the nearest function first
abbrev pub fun_at : List Function → ℕ → Option Function
fun_at [] n = None
fun_at (f ∷ before) n = if n == length before then Some f else fun_at before n

-- the signature gives the places of the function's consumed parameters on at most once
abbrev pub IsProper : List Function → InstanceKey → Signature → Type 0
IsProper funs k s = (f : Function) (h : Header) → fun_at funs k.fun.number ≡ Some f → header_of (paired f.statics k.statics) exact_place f ≡ Ok h → Proper h.params s.results

abbrev pub AreProper : List Function → Signatures → Type 0
AreProper funs [] = ⊤
AreProper funs (e ∷ es) = IsProper funs e.0 e.1 × AreProper funs es
