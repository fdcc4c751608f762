-- Statements on their lines, and the second branch of a choice.
use Rattle.std.proofs.Common.{◌≡◌, ℕ, Option, sym, ap, ◌∙◌, subst}
use Rattle.silq_io.specs.declared.limit.LimitFault.{LimitFault}
use Rattle.silq_io.specs.declared.limit.LimitFault.TheVariants.{Memory, Limit}
use Rattle.silq_tree.specs.declared.node.StmtId.{StmtId}
use Rattle.silq_tree.specs.Arena.{stmt_at}
use Rattle.check_scope.specs.Library.{Shelf}
use Rattle.silq_mean.specs.Effect.{Effect, statement}
use Rattle.bit_arith.specs.declared.operand.Operand.{Operand}
use Rattle.bit_arith.specs.Calls.{Refused}
use Rattle.flat_form.specs.State.{Flattening, drop_last}
use Rattle.flat_form.specs.Flat.{flat, count_statement, on_line, first_branch, under}
use Rattle.flat_form.specs.Fine.{SameEnd}
use Rattle.flat_steps.specs.Ready.{Ready}
use Rattle.flat_steps.proofs.Stays.{stays}
use Rattle.tree_walk.specs.declared.body.Body.{Body}
use Rattle.tree_walk.specs.Seen.{seen_in, stmt_in, line_in, acts}
use Rattle.tree_walk.proofs.Statements.{on_its_line}
use Rattle.flat_build.proofs.Carrying.{ready_statement, ready_as, refused_as}

-- what refuses the count of a statement refuses the statement
pub refused_count : (f : LimitFault) (line : ℕ) (e : Effect) (s : Flattening) → Refused f (count_statement s).built → Refused f (flat (statement line e) s).built
refused_count Memory line e s r = tt
refused_count (Limit over) line e s r = stays e (on_line line (count_statement s)) over r

pub act_ready : (l : Shelf) (b : Body) (id : StmtId) (line : ℕ) (s t : Flattening) → line ≡ line_in (stmt_in l b id) → t ≡ on_line line (count_statement s) → Ready (stmt_in l b id) s → Ready (acts (stmt_in l b id)) t
act_ready l b id line s t h k r =
    subst (λ u. Ready (acts (stmt_in l b id)) u) (sym (k ∙ ap (λ n. on_line n (count_statement s)) h))
    (ready_statement (line_in (stmt_in l b id)) (acts (stmt_in l b id)) s (ready_as (stmt_in l b id) _ s (on_its_line (stmt_at l.nodes id) (seen_in l b)) r))

pub count_refused : (l : Shelf) (b : Body) (id : StmtId) (f : LimitFault) (s : Flattening) → Refused f (count_statement s).built → Refused f (flat (stmt_in l b id) s).built
count_refused l b id f s r =
    refused_as f _ (stmt_in l b id) s (sym (on_its_line (stmt_at l.nodes id) (seen_in l b))) (refused_count f (line_in (stmt_in l b id)) (acts (stmt_in l b id)) s r)

-- the names and values at the second branch are those that the first one began with
pub at_the_second : (a : Effect) (s : Flattening) (outer : Option Operand) → outer ≡ s.setting.condition → (flat a (first_branch s)).setting ≡ (first_branch s).setting → SameEnd (first_branch s) (flat a (first_branch s))
    → under outer (flat a (first_branch s)) ≡ record (drop_last s) { built = (flat a (first_branch s)).built; statements = (flat a (first_branch s)).statements }
at_the_second a s outer h q e = λ i. record {
  built = (flat a (first_branch s)).built;
  setting = record { line = (q i).line; condition = h i };
  statements = (flat a (first_branch s)).statements;
  env = sym e.env i;
  values = sym e.values i;
  callers = sym e.callers i;
}
