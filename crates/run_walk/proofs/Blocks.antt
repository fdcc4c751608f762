-- Statements in turn, and loops.
use Rattle.std.proofs.Common.{◌≡◌, ℕ, zero, suc, ◌+◌, ◌<◌, Result, Ok, refl, sym, ap, ◌∙◌, subst}
use Rattle.std.proofs.Common.{List, [], ◌∷◌, map, length, drop, get_or}
use Rattle.std.specs.Prelude.{ℤ, pos, ◌+ℤ◌, ◌-ℤ◌, ◌<ℤ◌, ◌≤ℤ◌}
use Rattle.silq_tree.specs.declared.node.NameId.{NameId}
use Rattle.silq_tree.specs.declared.node.ExprId.{ExprId}
use Rattle.silq_tree.specs.declared.node.StmtId.{StmtId}
use Rattle.silq_tree.specs.Arena.{Forest, expr_at}
use Rattle.check_scope.specs.Library.{Shelf}
use Rattle.silq_types.specs.Programs.{distance}
use Rattle.silq_mean.specs.Term.{Term}
use Rattle.silq_mean.specs.Effect.{Effect, ◌>>◌, after, enter_block, leave_block}
use Rattle.silq_mean.specs.Meaning.{static_value}
use Rattle.silq_mean.specs.Table.{MeanFault}
use Rattle.silq_run.specs.Ran.{with_terms}
use Rattle.run_stage.specs.declared.stage.Stage.{Stage}
use Rattle.run_stage.specs.declared.stage.Stage.TheVariants.{Counting, Sampling, Running}
use Rattle.run_stage.specs.declared.stop.WalkStop.{WalkStop}
use Rattle.run_stage.specs.Stages.{carried}
use Rattle.run_stage.specs.Stops.{IsStop}
use Rattle.run_stage.proofs.Sequences.{nothing_to_do}
use Rattle.tree_walk.specs.declared.body.Body.{Body}
use Rattle.tree_walk.specs.Seen.{stmt_in, stmts_in, block_in, rounds_in, loop_in, with_value}
use Rattle.tree_walk.proofs.Statements.{stmts_at}
use Rattle.tree_walk.proofs.Blocks.{no_items, no_distance, told_loop, told_round}
use Rattle.run_walk.proofs.Carrying.{Onward, carried_after, onward_start, onward_as, onward_step, onward_refused}

-- ---- statements in turn

module _ (l : Shelf) (b : Body) (ids : List StmtId) (i : ℕ) (d : StmtId) (whole : Result Stage MeanFault) (now : Stage) (lt : i < length ids)
    (o : Onward (stmts_in l b (drop i ids)) whole now) where
  abbrev one : Effect
  one = stmt_in l b (get_or ids i d)

  abbrev behind : Effect
  behind = stmts_in l b (drop (i + 1) ids)

  opened : Onward (one >> behind) whole now
  opened = onward_as (stmts_in l b (drop i ids)) (one >> behind) whole now (stmts_at l b ids i d lt) o

  pub one_refused : (f : WalkStop) → IsStop f (carried one now) → IsStop f whole
  one_refused f h = onward_refused f one behind whole now opened h

  pub one_more : (t : Stage) → carried one now ≡ Ok t → Onward behind whole t
  one_more t e = onward_step one behind whole now t opened e

-- ---- rounds

closed : (ts : List Term) → map (after leave_block) (map (after enter_block) ts) ≡ ts
closed [] = refl
closed (t ∷ ts) = ap (λ (us : List Term). t ∷ us) (closed ts)

-- an empty block does nothing
blank : (l : Shelf) (b : Body) (s : Stage) → carried (block_in l b []) s ≡ Ok s
blank l b (Counting c) = refl
blank l b (Sampling t) = refl
blank l b (Running s) = ap (λ ts. Ok (Running (with_terms s ts))) (closed s.terms)

rounds_still : (l : Shelf) (b : Body) (x : NameId) (n : ℕ) (low : ℤ) (s : Stage) → carried (rounds_in l b x [] low n) s ≡ Ok s
rounds_still l b x zero low s = nothing_to_do s
rounds_still l b x (suc n) low s =
    carried_after (block_in l (with_value b x low) []) (rounds_in l b x [] (low +ℤ pos 1) n) s s (blank l (with_value b x low) s)
    ∙ rounds_still l b x n (low +ℤ pos 1) s

pub loop_still : (l : Shelf) (b : Body) (x : NameId) (low high : ExprId) (ids : List StmtId) (s : Stage) → length ids ≡ 0
    → carried (loop_in l b x low high ids) s ≡ Ok s
loop_still l b x low high ids s e =
    ap (λ xs. carried (loop_in l b x low high xs) s) (no_items ids e)
    ∙ rounds_still l b x (distance (static_value b.statics (expr_at l.nodes high) -ℤ static_value b.statics (expr_at l.nodes low)))
    (static_value b.statics (expr_at l.nodes low)) s

-- the first round
pub loop_start : (l : Shelf) (b : Body) (x : NameId) (low high : ExprId) (ids : List StmtId) (s : Stage) (m n : Forest) (past value : ℤ)
    → m ≡ l.nodes → past ≡ static_value b.statics (expr_at m high) → n ≡ l.nodes → value ≡ static_value b.statics (expr_at n low)
    → Onward (rounds_in l b x ids value (distance (past -ℤ value))) (carried (loop_in l b x low high ids) s) s
loop_start l b x low high ids s m n past value h p k v =
    onward_as (loop_in l b x low high ids) (rounds_in l b x ids value (distance (past -ℤ value))) (carried (loop_in l b x low high ids) s) s
    (told_loop l b x low high ids m n past value h p k v) (onward_start (loop_in l b x low high ids) s)

-- one round after the other
module _ (l : Shelf) (b : Body) (x : NameId) (ids : List StmtId) (past value : ℤ) (whole : Result Stage MeanFault) (now : Stage)
    (o : Onward (rounds_in l b x ids value (distance (past -ℤ value))) whole now) where
  abbrev this_round : Effect
  this_round = block_in l (with_value b x value) ids

  abbrev rest : Effect
  rest = rounds_in l b x ids (value +ℤ pos 1) (distance (past -ℤ (value +ℤ pos 1)))

  round_open : value <ℤ past → Onward (this_round >> rest) whole now
  round_open h = onward_as (rounds_in l b x ids value (distance (past -ℤ value))) (this_round >> rest) whole now (told_round l b x ids past value h) o

  pub round_refused : value <ℤ past → (f : WalkStop) → IsStop f (carried this_round now) → IsStop f whole
  round_refused h f r = onward_refused f this_round rest whole now (round_open h) r

  pub round_more : value <ℤ past → (next : ℤ) (t : Stage) → next ≡ value +ℤ pos 1 → carried this_round now ≡ Ok t
      → Onward (rounds_in l b x ids next (distance (past -ℤ next))) whole t
  round_more h next t w e =
      subst (λ z. Onward (rounds_in l b x ids z (distance (past -ℤ z))) whole t) (sym w) (onward_step this_round rest whole now t (round_open h) e)

  pub rounds_over : past ≤ℤ value → whole ≡ Ok now
  rounds_over h = sym (subst (λ n. Onward (rounds_in l b x ids value n) whole now) (no_distance past value h) o).goes ∙ nothing_to_do now
