-- A loop as a step.
use Rattle.std.specs.Prelude.{◌≡◌, refl, ℕ, ◌+◌, ◌<◌, ◌≤◌, Bool, true, false, ◌||◌, List, [], ◌∷◌, ℤ, ◌-ℤ◌}
use Rattle.std.proofs.Common.{arith, length, drop, get_or}
use Rattle.std.proofs.lemmas.List.{drop_more, drop_all}
use Rattle.silq_tree.specs.declared.node.ExprId.{ExprId}
use Rattle.silq_tree.specs.declared.node.StmtId.{StmtId}
use Rattle.silq_tree.specs.Standing.{statements_of}
use mathlib.Core.Path.{sym, ap, ◌∙◌, subst}
use Rattle.silq_tree.specs.declared.node.NameId.{NameId}
use Rattle.silq_tree.specs.declared.node.Spot.{Spot}
use Rattle.silq_tree.specs.Syntax.{Expression, Statement, Block, block, done}
use Rattle.silq_types.specs.Rules.{name_taken}
use Rattle.silq_types.specs.declared.values.Var.{Var}
use Rattle.check_scope.specs.Walk.{Counts, Checker}
use Rattle.check_scope.specs.Context.{Scope, Check, ◌>>=◌, ◌>>◌, rules, variables, is_variable, needed}
use Rattle.check_fun.specs.Branches.{round_of}
use Rattle.check_scope.specs.State.{State}
use Rattle.check_fun.specs.Statement.{rounds, any_name, is_static_param}
use Rattle.silq_types.specs.Programs.{distance}
use Rattle.check_fun.specs.Counting.{Runs, Fails, loop_step}
use Rattle.check_scope.specs.declared.fault.CheckFault.{CheckFault}
use Rattle.check_fun.proofs.BlockRounds.{empty_rounds}
use Rattle.check_fun.proofs.Counted.{runs_bind, runs_then, runs_variables, fails_bind, fails_then, fails_later, fails_after}

abbrev pub is_taken : Scope → NameId → List Var → Bool
is_taken sc x vars = is_variable vars x || is_static_param sc x

module _ (check : Checker) (sc : Scope) (x : NameId) (low high : Expression) (b : Block) (s : Spot) (old : State) (c : Counts) where
  abbrev pub walked : ℤ → ℤ → Check (Unit {0})
  walked a z = rounds (round_of sc x b) a (distance (z -ℤ a))

  abbrev pub tested : ℤ → ℤ → List Var → Check (Unit {0})
  tested a z vars = rules s ((is_taken sc x vars, name_taken) ∷ []) >> walked a z

  abbrev pub whole : Check (Unit {0})
  whole = needed sc low >>= (λ a. needed sc high >>= (λ z. variables >>= (λ vars. tested a z vars)))

  runs_whole : (a z : ℤ) (taken : Bool) (now : State) (d : Counts) → Runs check (needed sc low) old c a old c → Runs check (needed sc high) old c z old c → taken ≡ is_taken sc x old.vars → Runs check (rules s ((taken, name_taken) ∷ [])) old c tt old c → Runs check (walked a z) old c tt now d → Runs check whole old c tt now d
  runs_whole a z taken now d p q h t r =
      runs_bind check (needed sc low) (λ y. needed sc high >>= (λ w. variables >>= (λ vars. tested y w vars))) old old now c c d a tt p
      (runs_bind check (needed sc high) (λ w. variables >>= (λ vars. tested a w vars)) old old now c c d z tt q
      (runs_bind check variables (λ vars. tested a z vars) old old now c c d old.vars tt (runs_variables check old c)
      (runs_then check (rules s ((is_taken sc x old.vars, name_taken) ∷ [])) (walked a z) old old now c c d tt tt (subst (λ (y : Bool). Runs check (rules s ((y, name_taken) ∷ [])) old c tt old c) h t) r)))

  fails_low_whole : (f : CheckFault) → Fails check (needed sc low) old c f → Fails check whole old c f
  fails_low_whole f p = fails_bind check (needed sc low) (λ y. needed sc high >>= (λ w. variables >>= (λ vars. tested y w vars))) old c f p

  fails_high_whole : (a : ℤ) (f : CheckFault) → Runs check (needed sc low) old c a old c → Fails check (needed sc high) old c f → Fails check whole old c f
  fails_high_whole a f p q =
      fails_later check (needed sc low) (λ y. needed sc high >>= (λ w. variables >>= (λ vars. tested y w vars))) old old c c a f p
      (fails_bind check (needed sc high) (λ w. variables >>= (λ vars. tested a w vars)) old c f q)

  fails_name_whole : (a z : ℤ) (taken : Bool) (f : CheckFault) → Runs check (needed sc low) old c a old c → Runs check (needed sc high) old c z old c → taken ≡ is_taken sc x old.vars → Fails check (rules s ((taken, name_taken) ∷ [])) old c f → Fails check whole old c f
  fails_name_whole a z taken f p q h t =
      fails_later check (needed sc low) (λ y. needed sc high >>= (λ w. variables >>= (λ vars. tested y w vars))) old old c c a f p
      (fails_later check (needed sc high) (λ w. variables >>= (λ vars. tested a w vars)) old old c c z f q
      (fails_later check variables (λ vars. tested a z vars) old old c c old.vars f (runs_variables check old c)
      (fails_then check (rules s ((is_taken sc x old.vars, name_taken) ∷ [])) (walked a z) old c f (subst (λ (y : Bool). Fails check (rules s ((y, name_taken) ∷ [])) old c f) h t))))

  fails_rounds_whole : (a z : ℤ) (taken : Bool) (f : CheckFault) → Runs check (needed sc low) old c a old c → Runs check (needed sc high) old c z old c → taken ≡ is_taken sc x old.vars → Runs check (rules s ((taken, name_taken) ∷ [])) old c tt old c → Fails check (walked a z) old c f → Fails check whole old c f
  fails_rounds_whole a z taken f p q h t r =
      fails_later check (needed sc low) (λ y. needed sc high >>= (λ w. variables >>= (λ vars. tested y w vars))) old old c c a f p
      (fails_later check (needed sc high) (λ w. variables >>= (λ vars. tested a w vars)) old old c c z f q
      (fails_later check variables (λ vars. tested a z vars) old old c c old.vars f (runs_variables check old c)
      (fails_after check (rules s ((is_taken sc x old.vars, name_taken) ∷ [])) (walked a z) old old c c tt f (subst (λ (y : Bool). Runs check (rules s ((y, name_taken) ∷ [])) old c tt old c) h t) r)))

step_whole : (check : Checker) (sc : Scope) (x : NameId) (low high : Expression) (b : Block) (s : Spot) (old : State) (c : Counts) → whole check sc x low high b s old c ≡ loop_step sc x low high b s
step_whole check sc x low high (block ss end) s old c = refl

module _ (check : Checker) (sc : Scope) (x : NameId) (low high : Expression) (b : Block) (s : Spot) (old : State) (c : Counts) where
  pub runs_unroll : (a z : ℤ) (taken : Bool) (now : State) (d : Counts) → Runs check (needed sc low) old c a old c → Runs check (needed sc high) old c z old c → taken ≡ is_taken sc x old.vars → Runs check (rules s ((taken, name_taken) ∷ [])) old c tt old c → Runs check (rounds (round_of sc x b) a (distance (z -ℤ a))) old c tt now d → Runs check (loop_step sc x low high b s) old c tt now d
  runs_unroll a z taken now d p q h t r = subst (λ m. Runs check m old c tt now d) (step_whole check sc x low high b s old c) (runs_whole check sc x low high b s old c a z taken now d p q h t r)

  pub fails_low : (f : CheckFault) → Fails check (needed sc low) old c f → Fails check (loop_step sc x low high b s) old c f
  fails_low f p = subst (λ m. Fails check m old c f) (step_whole check sc x low high b s old c) (fails_low_whole check sc x low high b s old c f p)

  pub fails_high : (a : ℤ) (f : CheckFault) → Runs check (needed sc low) old c a old c → Fails check (needed sc high) old c f → Fails check (loop_step sc x low high b s) old c f
  fails_high a f p q = subst (λ m. Fails check m old c f) (step_whole check sc x low high b s old c) (fails_high_whole check sc x low high b s old c a f p q)

  pub fails_name : (a z : ℤ) (taken : Bool) (f : CheckFault) → Runs check (needed sc low) old c a old c → Runs check (needed sc high) old c z old c → taken ≡ is_taken sc x old.vars → Fails check (rules s ((taken, name_taken) ∷ [])) old c f → Fails check (loop_step sc x low high b s) old c f
  fails_name a z taken f p q h t = subst (λ m. Fails check m old c f) (step_whole check sc x low high b s old c) (fails_name_whole check sc x low high b s old c a z taken f p q h t)

  pub fails_rounds : (a z : ℤ) (taken : Bool) (f : CheckFault) → Runs check (needed sc low) old c a old c → Runs check (needed sc high) old c z old c → taken ≡ is_taken sc x old.vars → Runs check (rules s ((taken, name_taken) ∷ [])) old c tt old c → Fails check (rounds (round_of sc x b) a (distance (z -ℤ a))) old c f → Fails check (loop_step sc x low high b s) old c f
  fails_rounds a z taken f p q h t r = subst (λ m. Fails check m old c f) (step_whole check sc x low high b s old c) (fails_rounds_whole check sc x low high b s old c a z taken f p q h t r)

-- an empty body
pub empty_walked : (check : Checker) (sc : Scope) (x : NameId) (end : Spot) (old : State) (c : Counts) (v : ℤ) (n : ℕ) → Runs check (rounds (round_of sc x (block done end)) v n) old c tt old c
empty_walked check sc x end old c v n = empty_rounds check end old c (round_of sc x (block done end)) (λ w. refl) n v

pub empty_items : (check : Checker) (sc : Scope) (x : NameId) (e : ExprId → Expression) (st : StmtId → Statement) (xs : List StmtId) (end : Spot) (old : State) (c : Counts) (v : ℤ) (n : ℕ) → length xs ≡ 0 → Runs check (rounds (round_of sc x (block (statements_of e st xs) end)) v n) old c tt old c
empty_items check sc x e st [] end old c v n h = empty_walked check sc x end old c v n
empty_items check sc x e st (y ∷ ys) end old c v n h = absurd (omega (arith, h))

-- ---- names of static parameters

pub named_more : (test : NameId → Bool) (xs : List NameId) (i : ℕ) (d : NameId) → i < length xs → test (get_or xs i d) ≡ false → any_name test (drop i xs) ≡ any_name test xs → any_name test (drop (i + 1) xs) ≡ any_name test xs
named_more test xs i d l h w = sym (ap (any_name test) (drop_more xs i d l) ∙ ap (λ b. b || any_name test (drop (i + 1) xs)) h) ∙ w

pub named_found : (test : NameId → Bool) (xs : List NameId) (i : ℕ) (d : NameId) → i < length xs → test (get_or xs i d) ≡ true → any_name test (drop i xs) ≡ any_name test xs → true ≡ any_name test xs
named_found test xs i d l h w = sym (ap (any_name test) (drop_more xs i d l) ∙ ap (λ b. b || any_name test (drop (i + 1) xs)) h) ∙ w

pub named_none : (test : NameId → Bool) (xs : List NameId) (i : ℕ) → length xs ≤ i → any_name test (drop i xs) ≡ any_name test xs → false ≡ any_name test xs
named_none test xs i l w = sym (ap (any_name test) (drop_all i xs l)) ∙ w
