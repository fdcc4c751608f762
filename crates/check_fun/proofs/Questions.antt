-- Asking again: what one reading of an expression with the known signatures says of its walk with counts.
use Rattle.std.specs.Prelude.{◌≡◌, refl, ℕ, ◌+◌, ◌-◌, ◌<◌, ◌≤◌, List, length, Option, Some, None, IfSome, option_map, Result, Ok, Err}
use mathlib.Core.Path.{sym, ap, ◌∙◌, subst}
use native.Mathlib.Omega.{arith}
use Rattle.silq_tree.specs.Syntax.{Expression}
use Rattle.silq_types.specs.declared.signature.InstanceKey.{InstanceKey}
use Rattle.silq_types.specs.declared.signature.Signature.{Signature}
use Rattle.silq_types.specs.declared.types.Ty.{Ty}
use Rattle.silq_types.specs.declared.values.Value.{Value}
use Rattle.silq_types.specs.Known.{signature_of}
use Rattle.silq_types.specs.Rules.{Fault, and_then}
use Rattle.check_scope.specs.declared.fault.CheckFault.{CheckFault}
use Rattle.silq_types.specs.declared.need.Need.{Need}
use Rattle.check_scope.specs.Context.{Context}
use Rattle.check_fun.specs.Counting.{Runs, Fails, Stays, checker_at}
use Rattle.check_expr.specs.Expression.{expr}
use Rattle.check_scope.specs.Faults.{fault_as}
use Rattle.check_scope.specs.Library.{Shelf, before_at}
use Rattle.check_fun.specs.Program.{instances}
use Rattle.check_scope.specs.Reading.{Continues, asked_again}
use Rattle.check_scope.specs.State.{State, Keeps, context_of, scope_in}
use Rattle.check_scope.specs.Steps.{Reads, IsFirst}
use Rattle.check_scope.specs.Walk.{Walk, Stop, fault, wanted, with_known, Counts, with_counts}
use Rattle.check_fun.proofs.Growth.{instances_steady}
use Rattle.check_expr.proofs.Quiet.{expr_quiet}
use Rattle.check_scope.proofs.Readings.{continues}
use Rattle.check_fun.proofs.WantedRoom.{wants_room, instances_more}

module _ (l : Shelf) (old : State) (e : Expression) (need : Need) (wants : List Ty) where
  abbrev counted_by : Counts → Result ((List Value × Context) × Counts × ℕ) Fault
  counted_by c = with_counts (checker_at l old) old.depth (expr e (scope_in l old) need wants (context_of old)) c old.height

  abbrev known_by : Counts → Result ((List Value × Context) × ℕ) Stop
  known_by c = with_known old.depth c.met (expr e (scope_in l old) need wants (context_of old)) old.height

  abbrev again_by : Counts → InstanceKey → Result ((List Value × Context) × Counts × ℕ) Fault
  again_by c = asked_again (checker_at l old) old.depth (expr e (scope_in l old) need wants (context_of old)) c old.height

  goes_on : (c : Counts) → Continues (counted_by c) (again_by c) c (known_by c)
  goes_on c = continues (checker_at l old) (instances_steady l.words (before_at l old.this)) old.depth (expr e (scope_in l old) need wants (context_of old)) ((expr_quiet e (scope_in l old) need wants).runs (context_of old)) c old.height

  runs_here : (now : State) (first c : Counts) (vs : List Value) → counted_by first ≡ counted_by c
      → Reads c.met (expr e (scope_in l old) need wants) (record old { start = old.vars }) vs now
      → Runs (checker_at l old) (expr e (scope_in l old) need wants) old first vs now c
  runs_here now first c vs same r = record {
    runs = same ∙ subst (λ x. Continues (counted_by c) (again_by c) c x) r.runs (goes_on c);
    stays = record { this = r.keeps.this; results = r.keeps.results; depth = r.keeps.depth; statics = r.keeps.statics; held = r.keeps.held };
  }

  fails_here : (first c : Counts) (o : Option Fault) → counted_by first ≡ counted_by c → IfSome (option_map fault o) (λ stop. known_by c ≡ Err stop) → IfSome o (λ f. counted_by first ≡ Err f)
  fails_here first c (Some f) same k = same ∙ subst (λ x. Continues (counted_by c) (again_by c) c x) k (goes_on c)
  fails_here first c None same k = tt

  again_here : (c : Counts) (k : InstanceKey) → known_by c ≡ Err (wanted k) → counted_by c ≡ again_by c k
  again_here c k is = subst (λ x. Continues (counted_by c) (again_by c) c x) is (goes_on c)

  -- the context as it is at each question
  abbrev Same : State → Type 0
  Same cx = cx ≡ record old { start = old.vars }

  pub asked_runs : (cx now : State) (first c : Counts) (vs : List Value) → Same cx → counted_by first ≡ counted_by c
      → Reads c.met (expr e (scope_in l cx) need wants) (record cx { start = cx.vars }) vs now
      → Runs (checker_at l old) (expr e (scope_in l old) need wants) old first vs now c
  asked_runs cx now first c vs is same r = runs_here now first c vs same (subst (λ x. Reads c.met (expr e (scope_in l x) need wants) (record x { start = x.vars }) vs now) is r)

  pub asked_fails : (cx : State) (first c : Counts) (f : CheckFault) → Same cx → counted_by first ≡ counted_by c
      → IfSome (option_map fault (fault_as f)) (λ stop. with_known cx.depth c.met (expr e (scope_in l cx) need wants (context_of cx)) cx.height ≡ Err stop)
      → Fails (checker_at l old) (expr e (scope_in l old) need wants) old first f
  asked_fails cx first c f is same k = record {
    runs = fails_here first c (fault_as f) same (subst (λ x. IfSome (option_map fault (fault_as f)) (λ stop. with_known x.depth c.met (expr e (scope_in l x) need wants (context_of x)) x.height ≡ Err stop)) is k);
  }

  wanted_here : (cx : State) (c : Counts) (k : InstanceKey) → Same cx → with_known cx.depth c.met (expr e (scope_in l cx) need wants (context_of cx)) cx.height ≡ Err (wanted k) → known_by c ≡ Err (wanted k)
  wanted_here cx c k is w = subst (λ x. with_known x.depth c.met (expr e (scope_in l x) need wants (context_of x)) x.height ≡ Err (wanted k)) is w

  pub asked_room : (cx : State) (c : Counts) (k : InstanceKey) → Same cx → with_known cx.depth c.met (expr e (scope_in l cx) need wants (context_of cx)) cx.height ≡ Err (wanted k)
      → (signature_of c.met k ≡ None) × (cx.depth + 1 ≤ 64) × (length c.met + cx.depth + 1 ≤ 4096)
  asked_room cx c k is w = wants_room cx.depth c.met (expr e (scope_in l cx) need wants (context_of cx)) cx.height k w

  -- the instance is checked, and the expression is asked again
  pub asked_on : (cx : State) (first c d : Counts) (k : InstanceKey) (s : Signature) → Same cx → counted_by first ≡ counted_by c
      → with_known cx.depth c.met (expr e (scope_in l cx) need wants (context_of cx)) cx.height ≡ Err (wanted k)
      → instances l.words (before_at l cx.this) (cx.depth + 1) k c ≡ Ok (s, d)
      → counted_by first ≡ counted_by d
  asked_on cx first c d k s is same w i =
      let here : instances l.words (before_at l old.this) (old.depth + 1) k c ≡ Ok (s, d) = subst (λ (x : State). instances l.words (before_at l x.this) (x.depth + 1) k c ≡ Ok (s, d)) is i in
      same ∙ again_here c k (wanted_here cx c k is w) ∙ ap (λ x. and_then x (λ r. counted_by r.1)) here

  first_of : (first c : Counts) (k : InstanceKey) (o : Option Fault) → counted_by first ≡ counted_by c → known_by c ≡ Err (wanted k)
      → IfSome o (λ f. instances l.words (before_at l old.this) (old.depth + 1) k c ≡ Err f) → IfSome o (λ f. counted_by first ≡ Err f)
  first_of first c k (Some f) same w i = same ∙ again_here c k w ∙ ap (λ x. and_then x (λ r. counted_by r.1)) i
  first_of first c k None same w i = tt

  -- its check finds a fault
  pub asked_stops : (cx : State) (first c : Counts) (k : InstanceKey) (f : CheckFault) → Same cx → counted_by first ≡ counted_by c
      → with_known cx.depth c.met (expr e (scope_in l cx) need wants (context_of cx)) cx.height ≡ Err (wanted k)
      → IsFirst f (instances l.words (before_at l cx.this) (cx.depth + 1) k c)
      → Fails (checker_at l old) (expr e (scope_in l old) need wants) old first f
  asked_stops cx first c k f is same w i = record {
    runs = first_of first c k (fault_as f) same (wanted_here cx c k is w)
        (subst (λ (x : State). IfSome (fault_as f) (λ g. instances l.words (before_at l x.this) (x.depth + 1) k c ≡ Err g)) is i);
  }

-- the call of the instance reads the numbers from the context behind the question
pub asked_call : (P : ℕ → ℕ → Type 0) (cx after : State) (t n : ℕ) → after ≡ record cx { start = cx.vars } → t ≡ after.this → n ≡ after.depth → P t (n + 1) → P cx.this (cx.depth + 1)
asked_call P cx after t n u at depth p =
    subst (λ x. P x (cx.depth + 1)) (at ∙ ap (λ (x : State). x.this) u) (subst (λ x. P t (x + 1)) (depth ∙ ap (λ (x : State). x.depth) u) p)

pub asked_same : (old cx after : State) → cx ≡ record old { start = old.vars } → after ≡ record cx { start = cx.vars } → after ≡ record old { start = old.vars }
asked_same old cx after p q = q ∙ ap (λ (x : State). record x { start = x.vars }) p

pub asked_less : (l : Shelf) (cx : State) (c d : Counts) (k : InstanceKey) (s : Signature) → length c.met + cx.depth + 1 ≤ 4096
    → instances l.words (before_at l cx.this) (cx.depth + 1) k c ≡ Ok (s, d) → 4096 - length d.met < 4096 - length c.met
asked_less l cx c d k s room i = let more = instances_more l.words (before_at l cx.this) (cx.depth + 1) k c (s, d) i in omega (arith, room, more)
