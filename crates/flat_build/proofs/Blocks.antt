-- Statements in turn, and loops.
use Rattle.std.proofs.Common.{◌≡◌, ℕ, zero, suc, ◌+◌, ◌<◌, ◌≤◌, List, [], length, drop, get_or, refl, sym, ap, ◌∙◌, subst}
use Rattle.std.specs.Prelude.{ℤ, pos, ◌+ℤ◌, ◌-ℤ◌, ◌<ℤ◌, ◌≤ℤ◌}
use Rattle.silq_io.specs.declared.limit.LimitFault.{LimitFault}
use Rattle.silq_tree.specs.declared.node.NameId.{NameId}
use Rattle.silq_tree.specs.declared.node.ExprId.{ExprId}
use Rattle.silq_tree.specs.declared.node.StmtId.{StmtId}
use Rattle.silq_tree.specs.Arena.{Forest, expr_at, stmt_at}
use Rattle.silq_tree.specs.Syntax.{Statements}
use Rattle.silq_tree.proofs.Lists.{statements_of-end}
use Rattle.check_scope.specs.Library.{Shelf}
use Rattle.silq_types.specs.Programs.{distance}
use Rattle.silq_mean.specs.Effect.{Effect, ◌>>◌}
use Rattle.silq_mean.specs.Meaning.{stmts, static_value}
use Rattle.bit_arith.specs.Calls.{Refused}
use Rattle.flat_form.specs.State.{Flattening}
use Rattle.flat_form.specs.Flat.{flat}
use Rattle.flat_steps.specs.Ready.{Ready}
use Rattle.tree_walk.specs.declared.body.Body.{Body}
use Rattle.tree_walk.specs.Seen.{seen_in, stmt_in, stmts_in, block_in, rounds_in, loop_in, with_value}
use Rattle.tree_walk.proofs.Statements.{stmts_at}
use Rattle.tree_walk.proofs.Blocks.{no_items, no_distance, told_loop, told_round}
use Rattle.flat_build.proofs.Carrying.{Onward, onward_start, onward_as, onward_step, onward_refused, ready_first}

-- ---- statements in turn

module _ (l : Shelf) (b : Body) (ids : List StmtId) (i : ℕ) (d : StmtId) (whole now : Flattening) (lt : i < length ids) (o : Onward (stmts_in l b (drop i ids)) whole now) where
  opened : Onward (stmt_in l b (get_or ids i d) >> stmts_in l b (drop (i + 1) ids)) whole now
  opened = onward_as (stmts_in l b (drop i ids)) (stmt_in l b (get_or ids i d) >> stmts_in l b (drop (i + 1) ids)) whole now (stmts_at l b ids i d lt) o

  pub one_ready : Ready (stmt_in l b (get_or ids i d)) now
  one_ready = ready_first (stmt_in l b (get_or ids i d)) (stmts_in l b (drop (i + 1) ids)) now opened.ready

  pub one_refused : (f : LimitFault) → Refused f (flat (stmt_in l b (get_or ids i d)) now).built → Refused f whole.built
  one_refused f r = onward_refused f (stmt_in l b (get_or ids i d)) (stmts_in l b (drop (i + 1) ids)) whole now opened r

  pub one_more : (t : Flattening) → t ≡ flat (stmt_in l b (get_or ids i d)) now → Onward (stmts_in l b (drop (i + 1) ids)) whole t
  one_more t e = onward_step (stmt_in l b (get_or ids i d)) (stmts_in l b (drop (i + 1) ids)) whole now t opened e

pub all_done : (l : Shelf) (b : Body) (ids : List StmtId) (i : ℕ) (whole now : Flattening) → length ids ≤ i → Onward (stmts_in l b (drop i ids)) whole now → now ≡ whole
all_done l b ids i whole now le o =
    sym (ap (λ (ss : Statements). flat (stmts ss (seen_in l b)) now) (statements_of-end (expr_at l.nodes) (stmt_at l.nodes) ids i le)) ∙ o.goes

-- ---- rounds

-- rounds of an empty block do nothing
rounds_still : (l : Shelf) (b : Body) (x : NameId) (n : ℕ) (low : ℤ) (s : Flattening) → flat (rounds_in l b x [] low n) s ≡ s
rounds_still l b x zero low s = refl
rounds_still l b x (suc n) low s = rounds_still l b x n (low +ℤ pos 1) s

pub loop_still : (l : Shelf) (b : Body) (x : NameId) (low high : ExprId) (ids : List StmtId) (s : Flattening) → length ids ≡ 0 → s ≡ flat (loop_in l b x low high ids) s
loop_still l b x low high ids s e =
    sym (ap (λ xs. flat (loop_in l b x low high xs) s) (no_items ids e) ∙ rounds_still l b x (distance (static_value b.statics (expr_at l.nodes high) -ℤ static_value b.statics (expr_at l.nodes low))) (static_value b.statics (expr_at l.nodes low)) s)

-- the first round
pub loop_start : (l : Shelf) (b : Body) (x : NameId) (low high : ExprId) (ids : List StmtId) (s : Flattening) (m n : Forest) (past value : ℤ) → m ≡ l.nodes → past ≡ static_value b.statics (expr_at m high) → n ≡ l.nodes → value ≡ static_value b.statics (expr_at n low)
    → Ready (loop_in l b x low high ids) s → Onward (rounds_in l b x ids value (distance (past -ℤ value))) (flat (loop_in l b x low high ids) s) s
loop_start l b x low high ids s m n past value h p k v r =
    onward_as (loop_in l b x low high ids) (rounds_in l b x ids value (distance (past -ℤ value))) (flat (loop_in l b x low high ids) s) s
    (told_loop l b x low high ids m n past value h p k v) (onward_start (loop_in l b x low high ids) s r)

-- one round after the other
module _ (l : Shelf) (b : Body) (x : NameId) (ids : List StmtId) (past value : ℤ) (whole now : Flattening) (o : Onward (rounds_in l b x ids value (distance (past -ℤ value))) whole now) where
  abbrev this_round : Effect
  this_round = block_in l (with_value b x value) ids

  abbrev rest : Effect
  rest = rounds_in l b x ids (value +ℤ pos 1) (distance (past -ℤ (value +ℤ pos 1)))

  round_open : value <ℤ past → Onward (this_round >> rest) whole now
  round_open h = onward_as (rounds_in l b x ids value (distance (past -ℤ value))) (this_round >> rest) whole now (told_round l b x ids past value h) o

  pub round_ready : value <ℤ past → Ready this_round now
  round_ready h = ready_first this_round rest now (round_open h).ready

  pub round_refused : value <ℤ past → (f : LimitFault) → Refused f (flat this_round now).built → Refused f whole.built
  round_refused h f r = onward_refused f this_round rest whole now (round_open h) r

  pub round_more : value <ℤ past → (next : ℤ) (t : Flattening) → next ≡ value +ℤ pos 1 → t ≡ flat this_round now → Onward (rounds_in l b x ids next (distance (past -ℤ next))) whole t
  round_more h next t w e =
      subst (λ z. Onward (rounds_in l b x ids z (distance (past -ℤ z))) whole t) (sym w) (onward_step this_round rest whole now t (round_open h) e)

  pub rounds_over : past ≤ℤ value → now ≡ whole
  rounds_over h = (subst (λ n. Onward (rounds_in l b x ids value n) whole now) (no_distance past value h) o).goes
