use Rattle.std.proofs.Common.{rules, ◌≡◌, ◌+◌, ◌-◌, [], ◌∷◌, length, ap, arith, ◌++◌, ◌∙◌, refl, to_z-of_z, SFits, w64, length-append}
use Rattle.std.proofs.lemmas.Grind.{common_steps}
use Rattle.silq_grammar.specs.Machine.{AUnary, Prods, Sums, Compare, Ands, Ors, Ends, Closing, MoreExprs, Expect, InBracket, InIndex, StartBracket, StartIndex, CallPart, Assigns}
use Rattle.silq_grammar.specs.Outcome.{outcome}
use Rattle.expr_parse.proofs.Reading.{one_and, read_or, one_cmp, read_and, one_sum, read_comparison, one_prod, read_sum, one_unary, read_prod}
use Rattle.expr_parse.proofs.Passed.{ends_passed, taken, none_gone}
use Rattle.expr_parse.proofs.Exits.{stops}
use Rattle.expr_parse.proofs.Atoms.{read_number, read_typed, read_truth, read_pi, read_sign, read_paren, read_bit, read_wide, list_read, last_read, group_read}
use Rattle.expr_parse.proofs.Named.{read_target, target_free, group_free, no_args_read, args_read, read_part, read_part_of_part, read_static_call, read_whole, read_plain}
use Rattle.expr_parse.proofs.Growing.{free_then, free}
use Rattle.silq_grammar.specs.declared.token.Terminal.TheVariants as t
use Rattle.expr_parse.proofs.+expression.Goals as goal

-- expr
pub expr::expr-add_binary-requires-clause-free : goal.expr::expr-add_binary-requires-clause-free
expr::expr-add_binary-requires-clause-free _ c =
    let i = c.loop-op.invariant in
    free_then c.in_ok-right.ensures.arena (free i.arena i.reads.grew) c.in_ok-right.ensures.reads.grew

pub expr::expr-returns-in_err-left-clause-machine : goal.expr::expr-returns-in_err-left-clause-machine
expr::expr-returns-in_err-left-clause-machine _ c = λ k h. stops _ _ _ _ _ c.from_residual.ensures.1 refl (c.in_err-left.ensures.machine (Ors 0 ∷ k) (omega arith))

pub expr::expr-loop-op-init : goal.expr::expr-loop-op-init
expr::expr-loop-op-init _ c = record {
  machine = λ k h. c.in_ok-left.ensures.machine (Ors 0 ∷ k) (omega arith) ∙ ap (λ n. outcome (Ors n ∷ k) c.in_ok-left.rest.now) (none_gone c.args.room);
  reads = one_and c.in_ok-left.ensures.reads;
  arena = c.in_ok-left.ensures.arena;
  room = omega arith;
  shorter = c.in_ok-left.ensures.shorter;
}

pub expr::expr-returns-in_err-right-clause-machine : goal.expr::expr-returns-in_err-right-clause-machine
expr::expr-returns-in_err-right-clause-machine _ c = λ k h.
    let n = c.args.room - c.loop-op.inside in
    let m = c.in_err-right.ensures.machine (Ors (n + 1) ∷ k) (omega arith) in
    let o = c.in-Some.ensures.machine k n in
    let i = c.loop-op.invariant.machine k h in
    stops _ _ _ _ _ c.from_residual-in_err-right.ensures.1 (i ∙ o ∙ taken (AUnary ∷ Prods 0 ∷ Sums 0 ∷ Compare ∷ Ands 0 ∷ Ors (n + 1) ∷ k) _ _ (omega arith)) m

pub expr::expr-loop-op-preserved : goal.expr::expr-loop-op-preserved
expr::expr-loop-op-preserved _ c =
    let i = c.loop-op.invariant in
    let n = c.args.room - c.loop-op.inside in record {
      machine = λ k h.
          let m = c.in_ok-right.ensures.machine (Ors (n + 1) ∷ k) (omega arith) in
          let o = c.in-Some.ensures.machine k n in
          let j = i.machine k h in
          grind (arith, common_steps);
      reads = read_or c.in-Some.ensures.level i.reads c.in-Some.ensures.token.1 c.in_ok-right.ensures.reads (rw c.first_spot.ensures at c.in_ok-left-2.ensures.added);
      arena = c.in_ok-left-2.ensures.arena;
      room = omega arith;
      shorter = omega (arith, i.shorter, c.in_ok-right.ensures.shorter, ap length c.in-Some.ensures.token.1);
    }

-- and
pub expr::and-add_binary-requires-clause-free : goal.expr::and-add_binary-requires-clause-free
expr::and-add_binary-requires-clause-free _ c =
    let i = c.loop-op.invariant in
    free_then c.in_ok-right.ensures.arena (free i.arena i.reads.grew) c.in_ok-right.ensures.reads.grew

pub expr::and-returns-in_err-left-clause-machine : goal.expr::and-returns-in_err-left-clause-machine
expr::and-returns-in_err-left-clause-machine _ c = λ k h. stops _ _ _ _ _ c.from_residual.ensures.1 refl (c.in_err-left.ensures.machine (Ands 0 ∷ k) (omega arith))

pub expr::and-loop-op-init : goal.expr::and-loop-op-init
expr::and-loop-op-init _ c = record {
  machine = λ k h. c.in_ok-left.ensures.machine (Ands 0 ∷ k) (omega arith) ∙ ap (λ n. outcome (Ands n ∷ k) c.in_ok-left.rest.now) (none_gone c.args.room);
  reads = one_cmp c.in_ok-left.ensures.reads;
  arena = c.in_ok-left.ensures.arena;
  room = omega arith;
  shorter = c.in_ok-left.ensures.shorter;
}

pub expr::and-returns-in_err-right-clause-machine : goal.expr::and-returns-in_err-right-clause-machine
expr::and-returns-in_err-right-clause-machine _ c = λ k h.
    let n = c.args.room - c.loop-op.inside in
    let m = c.in_err-right.ensures.machine (Ands (n + 1) ∷ k) (omega arith) in
    let o = c.in-Some.ensures.machine k n in
    let i = c.loop-op.invariant.machine k h in
    stops _ _ _ _ _ c.from_residual-in_err-right.ensures.1 (i ∙ o ∙ taken (AUnary ∷ Prods 0 ∷ Sums 0 ∷ Compare ∷ Ands (n + 1) ∷ k) _ _ (omega arith)) m

pub expr::and-loop-op-preserved : goal.expr::and-loop-op-preserved
expr::and-loop-op-preserved _ c =
    let i = c.loop-op.invariant in
    let n = c.args.room - c.loop-op.inside in record {
      machine = λ k h.
          let m = c.in_ok-right.ensures.machine (Ands (n + 1) ∷ k) (omega arith) in
          let o = c.in-Some.ensures.machine k n in
          let j = i.machine k h in
          grind (arith, common_steps);
      reads = read_and c.in-Some.ensures.level i.reads c.in-Some.ensures.token.1 c.in_ok-right.ensures.reads (rw c.first_spot.ensures at c.in_ok-left-2.ensures.added);
      arena = c.in_ok-left-2.ensures.arena;
      room = omega arith;
      shorter = omega (arith, i.shorter, c.in_ok-right.ensures.shorter, ap length c.in-Some.ensures.token.1);
    }

-- comparison
pub expr::comparison-add_binary-requires-clause-free : goal.expr::comparison-add_binary-requires-clause-free
expr::comparison-add_binary-requires-clause-free _ c =
    free_then c.in_ok-right.ensures.arena (free c.in_ok-left.ensures.arena c.in_ok-left.ensures.reads.grew) c.in_ok-right.ensures.reads.grew

pub expr::comparison-returns-in_err-left-clause-machine : goal.expr::comparison-returns-in_err-left-clause-machine
expr::comparison-returns-in_err-left-clause-machine _ c = λ k h. stops _ _ _ _ _ c.from_residual.ensures.1 refl (c.in_err-left.ensures.machine (Compare ∷ k) (omega arith))

pub expr::comparison-returns-in_default-clause-reads : goal.expr::comparison-returns-in_default-clause-reads
expr::comparison-returns-in_default-clause-reads _ c = one_sum c.in_ok-left.ensures.reads

pub expr::comparison-returns-in_err-right-clause-machine : goal.expr::comparison-returns-in_err-right-clause-machine
expr::comparison-returns-in_err-right-clause-machine _ c = λ k h.
    let l = c.in_ok-left.ensures.machine (Compare ∷ k) (omega arith) in
    let m = c.in_err-right.ensures.machine (Ends ∷ k) (omega arith) in
    let o = c.in-Some.ensures.machine k in
    search rules

pub expr::comparison-returns-clause-machine : goal.expr::comparison-returns-clause-machine
expr::comparison-returns-clause-machine _ c = λ k h.
    let l = c.in_ok-left.ensures.machine (Compare ∷ k) (omega arith) in
    let m = c.in_ok-right.ensures.machine (Ends ∷ k) (omega arith) in
    let o = c.in-Some.ensures.machine k in
    let e = ends_passed k c.in_ok-right.after.now in
    grind (arith, common_steps)

pub expr::comparison-returns-clause-reads : goal.expr::comparison-returns-clause-reads
expr::comparison-returns-clause-reads _ c =
    read_comparison c.in-Some.ensures.level c.in_ok-left.ensures.reads c.in-Some.ensures.token.1 c.in_ok-right.ensures.reads (rw c.first_spot.ensures at c.in_ok-id.ensures.added)

-- sum
pub expr::sum-add_binary-requires-clause-free : goal.expr::sum-add_binary-requires-clause-free
expr::sum-add_binary-requires-clause-free _ c =
    let i = c.loop-op.invariant in
    free_then c.in_ok-right.ensures.arena (free i.arena i.reads.grew) c.in_ok-right.ensures.reads.grew

pub expr::sum-returns-in_err-left-clause-machine : goal.expr::sum-returns-in_err-left-clause-machine
expr::sum-returns-in_err-left-clause-machine _ c = λ k h. stops _ _ _ _ _ c.from_residual.ensures.1 refl (c.in_err-left.ensures.machine (Sums 0 ∷ k) (omega arith))

pub expr::sum-loop-op-init : goal.expr::sum-loop-op-init
expr::sum-loop-op-init _ c = record {
  machine = λ k h. c.in_ok-left.ensures.machine (Sums 0 ∷ k) (omega arith) ∙ ap (λ n. outcome (Sums n ∷ k) c.in_ok-left.rest.now) (none_gone c.args.room);
  reads = one_prod c.in_ok-left.ensures.reads;
  arena = c.in_ok-left.ensures.arena;
  room = omega arith;
  shorter = c.in_ok-left.ensures.shorter;
}

pub expr::sum-returns-in_err-right-clause-machine : goal.expr::sum-returns-in_err-right-clause-machine
expr::sum-returns-in_err-right-clause-machine _ c = λ k h.
    let n = c.args.room - c.loop-op.inside in
    let m = c.in_err-right.ensures.machine (Sums (n + 1) ∷ k) (omega arith) in
    let o = c.in-Some.ensures.machine k n in
    let i = c.loop-op.invariant.machine k h in
    stops _ _ _ _ _ c.from_residual-in_err-right.ensures.1 (i ∙ o ∙ taken (AUnary ∷ Prods 0 ∷ Sums (n + 1) ∷ k) _ _ (omega arith)) m

pub expr::sum-loop-op-preserved : goal.expr::sum-loop-op-preserved
expr::sum-loop-op-preserved _ c =
    let i = c.loop-op.invariant in
    let n = c.args.room - c.loop-op.inside in record {
      machine = λ k h.
          let m = c.in_ok-right.ensures.machine (Sums (n + 1) ∷ k) (omega arith) in
          let o = c.in-Some.ensures.machine k n in
          let j = i.machine k h in
          grind (arith, common_steps);
      reads = read_sum c.in-Some.ensures.level i.reads c.in-Some.ensures.token.1 c.in_ok-right.ensures.reads (rw c.first_spot.ensures at c.in_ok-left-2.ensures.added);
      arena = c.in_ok-left-2.ensures.arena;
      room = omega arith;
      shorter = omega (arith, i.shorter, c.in_ok-right.ensures.shorter, ap length c.in-Some.ensures.token.1);
    }

-- prod
pub expr::prod-add_binary-requires-clause-free : goal.expr::prod-add_binary-requires-clause-free
expr::prod-add_binary-requires-clause-free _ c =
    let i = c.loop-op.invariant in
    free_then c.in_ok-right.ensures.arena (free i.arena i.reads.grew) c.in_ok-right.ensures.reads.grew

pub expr::prod-returns-in_err-left-clause-machine : goal.expr::prod-returns-in_err-left-clause-machine
expr::prod-returns-in_err-left-clause-machine _ c = λ k h. stops _ _ _ _ _ c.from_residual.ensures.1 refl (c.in_err-left.ensures.machine (Prods 0 ∷ k) (omega arith))

pub expr::prod-loop-op-init : goal.expr::prod-loop-op-init
expr::prod-loop-op-init _ c = record {
  machine = λ k h. c.in_ok-left.ensures.machine (Prods 0 ∷ k) (omega arith) ∙ ap (λ n. outcome (Prods n ∷ k) c.in_ok-left.rest.now) (none_gone c.args.room);
  reads = one_unary c.in_ok-left.ensures.reads;
  arena = c.in_ok-left.ensures.arena;
  room = omega arith;
  shorter = c.in_ok-left.ensures.shorter;
}

pub expr::prod-returns-in_err-right-clause-machine : goal.expr::prod-returns-in_err-right-clause-machine
expr::prod-returns-in_err-right-clause-machine _ c = λ k h.
    let n = c.args.room - c.loop-op.inside in
    let m = c.in_err-right.ensures.machine (Prods (n + 1) ∷ k) (omega arith) in
    let o = c.in-Some.ensures.machine k n in
    let i = c.loop-op.invariant.machine k h in
    stops _ _ _ _ _ c.from_residual-in_err-right.ensures.1 (i ∙ o ∙ taken (AUnary ∷ Prods (n + 1) ∷ k) _ _ (omega arith)) m

pub expr::prod-loop-op-preserved : goal.expr::prod-loop-op-preserved
expr::prod-loop-op-preserved _ c =
    let i = c.loop-op.invariant in
    let n = c.args.room - c.loop-op.inside in record {
      machine = λ k h.
          let m = c.in_ok-right.ensures.machine (Prods (n + 1) ∷ k) (omega arith) in
          let o = c.in-Some.ensures.machine k n in
          let j = i.machine k h in
          grind (arith, common_steps);
      reads = read_prod c.in-Some.ensures.level i.reads c.in-Some.ensures.token.1 c.in_ok-right.ensures.reads (rw c.first_spot.ensures at c.in_ok-left-2.ensures.added);
      arena = c.in_ok-left-2.ensures.arena;
      room = omega arith;
      shorter = omega (arith, i.shorter, c.in_ok-right.ensures.shorter, ap length c.in-Some.ensures.token.1);
    }

-- unary
pub unary::unary-returns-in_ok-add-in-Truth-clause-reads : goal.unary::unary-returns-in_ok-add-in-Truth-clause-reads
unary::unary-returns-in_ok-add-in-Truth-clause-reads _ c = rw c.in-Truth.ensures.token (read_truth c.in_ok-add-in-Truth.ensures.added)

pub unary::unary-returns-in_ok-add-in-Pi-clause-reads : goal.unary::unary-returns-in_ok-add-in-Pi-clause-reads
unary::unary-returns-in_ok-add-in-Pi-clause-reads _ c = rw c.in-Pi.ensures.token (read_pi c.in_ok-add-in-Pi.ensures.added)

-- number
pub unary::number-returns-in_default-clause-reads : goal.unary::number-returns-in_default-clause-reads
unary::number-returns-in_default-clause-reads _ c =
    let f : SFits w64 c.args.value = search rules in
    read_number (simp to_z-of_z at c.in_ok-add_number.ensures.added)

pub unary::number-returns-clause-reads : goal.unary::number-returns-clause-reads
unary::number-returns-clause-reads _ c =
    let f : SFits w64 c.args.value = search rules in
    rw c.in-Some.ensures.token.1 (read_typed c.in_ok-ty.ensures.reads (simp to_z-of_z at c.in_ok-add_number-2.ensures.added))

-- named
pub unary::named-add_target-requires-clause-free : goal.unary::named-add_target-requires-clause-free
unary::named-add_target-requires-clause-free _ c =
    target_free c.args.tree.now c.behind_name.new.tree _ _ _ c.in_ok-target.target c.in_ok-target.ensures.arena c.in_ok-target.ensures.reads

pub unary::named-returns-clause-reads : goal.unary::named-returns-clause-reads
unary::named-returns-clause-reads _ c = read_target c.behind_name.new.tree c.in_ok-target.target c.in_ok-target.ensures.reads c.in_ok-add_target.ensures.made

-- parentheses
pub unary::enclosed-add_group-requires-clause-free : goal.unary::enclosed-add_group-requires-clause-free
unary::enclosed-add_group-requires-clause-free _ c =
    group_free c.args.tree.now c.closed_group.new.tree _ _ c.in_ok-group.group c.in_ok-group.ensures.arena c.in_ok-group.ensures.reads.1

pub unary::enclosed-returns-clause-reads : goal.unary::enclosed-returns-clause-reads
unary::enclosed-returns-clause-reads _ c =
    let r = c.in_ok-group.ensures.reads in
    read_paren c.closed_group.new.tree r.0 c.in_ok-group.group r.1 c.in_ok-add_group.ensures.grouped

-- the operand of a sign stands above its end
pub unary::signed-returns-in_err-arg-clause-machine : goal.unary::signed-returns-in_err-arg-clause-machine
unary::signed-returns-in_err-arg-clause-machine _ c = λ k h.
    stops _ _ _ _ _ c.from_residual.ensures.1 refl (c.in_err-arg.ensures.machine (Ends ∷ k) h)

pub unary::signed-returns-clause-machine : goal.unary::signed-returns-clause-machine
unary::signed-returns-clause-machine _ c = λ k h.
    c.in_ok-arg.ensures.machine (Ends ∷ k) h ∙ ends_passed k c.in_ok-arg.rest.now

pub unary::signed-returns-clause-reads : goal.unary::signed-returns-clause-reads
unary::signed-returns-clause-reads _ c = read_sign c.in_ok-arg.ensures.reads c.in_ok-add_unary.ensures.added

-- scalar
pub scalar::scalar-returns-in_default-clause-reads : goal.scalar::scalar-returns-in_default-clause-reads
scalar::scalar-returns-in_default-clause-reads _ c =
    let e = rw c.in_default.is at c.in_ok-wide.ensures.token.1 in
    rw e read_bit

pub scalar::scalar-returns-in_err-inner_tokens-clause-machine : goal.scalar::scalar-returns-in_err-inner_tokens-clause-machine
scalar::scalar-returns-in_err-inner_tokens-clause-machine _ c = λ k h.
    let w = rw c.in-Some.is at (c.in_ok-wide.ensures.machine k (omega arith)) in
    stops _ _ _ _ _ c.from_residual-in_err-inner_tokens.ensures.1 w (c.in_err-inner_tokens.ensures.machine k)

pub scalar::scalar-returns-in_err-id-clause-machine : goal.scalar::scalar-returns-in_err-id-clause-machine
scalar::scalar-returns-in_err-id-clause-machine _ c = λ k h.
    let w = rw c.in-Some.is at (c.in_ok-wide.ensures.machine k (omega arith)) in
    let m = c.in_ok-inner_tokens.ensures.machine k in
    let e = c.in_err-id.ensures.machine (Closing t.RightBracket ∷ k) (omega arith) in
    search rules

pub scalar::scalar-returns-clause-reads : goal.scalar::scalar-returns-clause-reads
scalar::scalar-returns-clause-reads _ c =
    let w = rw c.in-Some.is at c.in_ok-wide.ensures.token.1 in
    rw c.node.ensures (read_wide c.in-Some.wide w c.in_ok-inner_tokens.ensures.token.1 c.in_ok-id.ensures.reads c.in_ok-rest.ensures.token)

-- exprs
pub list::exprs-returns-in_err-id-clause-machine : goal.list::exprs-returns-in_err-id-clause-machine
list::exprs-returns-in_err-id-clause-machine _ c = λ k h.
    let i = c.loop-id.invariant.machine k h in
    stops _ _ _ _ _ c.from_residual.ensures.1 i (c.in_err-id.ensures.machine (MoreExprs ∷ k) (omega arith))

pub list::exprs-returns-in-None-clause-machine : goal.list::exprs-returns-in-None-clause-machine
list::exprs-returns-in-None-clause-machine _ c = λ k h.
    let i = c.loop-id.invariant.machine k h in
    let m = c.in_ok-id.ensures.machine (MoreExprs ∷ k) (omega arith) in
    i ∙ m ∙ c.in-None.ensures.more k

pub list::exprs-returns-in-None-clause-reads : goal.list::exprs-returns-in-None-clause-reads
list::exprs-returns-in-None-clause-reads _ c = λ old ts s r.
    let i = c.loop-id.invariant.reads old ts s r in
    rw c.in_ok-push.ensures.ok (list_read i.1 refl c.in_ok-id.ensures.reads)

pub list::exprs-loop-id-preserved : goal.list::exprs-loop-id-preserved
list::exprs-loop-id-preserved _ c =
    let i = c.loop-id.invariant in
    let e = c.in_ok-id.ensures in
    let is = c.in-Some.ensures.token.1 in
    let s = ap length is in
    let p = c.in_ok-push.ensures.ok in record {
      machine = λ k h.
          let j = i.machine k h in
          let o = c.in-Some.ensures.more k (omega arith) in
          j ∙ e.machine (MoreExprs ∷ k) (omega arith) ∙ o;
      reads = λ old ts s r. let j = i.reads old ts s r in (c.in-Some.ensures.token.0, rw (p, ← is) (list_read j.1 refl e.reads));
      arena = e.arena;
      nodes = omega (arith, i.nodes, e.reads.bounded.exprs, s);
      longer = rw p (omega (arith, i.longer, length-append c.loop-id.ids (c.in_ok-id.id ∷ [])));
      no_longer = omega (arith, i.no_longer, e.shorter, s);
    }

-- closed_group
pub list::closed_group-returns-in_err-first-clause-machine : goal.list::closed_group-returns-in_err-first-clause-machine
list::closed_group-returns-in_err-first-clause-machine _ c = λ k h.
    stops _ _ _ _ _ c.from_residual.ensures.1 refl (c.in_err-first.ensures.machine (MoreExprs ∷ Closing c.args.closing ∷ k) (omega arith))

pub list::closed_group-returns-in_err-first-clause-bracket : goal.list::closed_group-returns-in_err-first-clause-bracket
list::closed_group-returns-in_err-first-clause-bracket _ c = λ e k h. stops _ _ _ _ _ c.from_residual.ensures.1 refl (c.in_err-first.ensures.machine (InBracket ∷ k) h)

pub list::closed_group-returns-in_err-first-clause-start : goal.list::closed_group-returns-in_err-first-clause-start
list::closed_group-returns-in_err-first-clause-start _ c = λ e k h. stops _ _ _ _ _ c.from_residual.ensures.1 refl (c.in_err-first.ensures.machine (StartBracket ∷ k) h)

pub list::closed_group-returns-in_err-rest-clause-bracket : goal.list::closed_group-returns-in_err-rest-clause-bracket
list::closed_group-returns-in_err-rest-clause-bracket _ c = λ e k h.
    let f = c.in_ok-first.ensures.machine (InBracket ∷ k) h in
    let m = rw e at (c.in_err-rest.ensures.closing (InIndex ∷ k) (omega arith)) in
    stops _ _ _ _ _ c.from_residual-in_err-rest.ensures.1 (f ∙ c.in_default.ensures.bracket k) m

pub list::closed_group-returns-in_err-rest-clause-start : goal.list::closed_group-returns-in_err-rest-clause-start
list::closed_group-returns-in_err-rest-clause-start _ c = λ e k h.
    let f = c.in_ok-first.ensures.machine (StartBracket ∷ k) h in
    let m = rw e at (c.in_err-rest.ensures.closing (StartIndex ∷ k) (omega arith)) in
    stops _ _ _ _ _ c.from_residual-in_err-rest.ensures.1 (f ∙ c.in_default.ensures.start k) m

pub list::closed_group-returns-in_err-ids-clause-machine : goal.list::closed_group-returns-in_err-ids-clause-machine
list::closed_group-returns-in_err-ids-clause-machine _ c = λ k h.
    let f = c.in_ok-first.ensures.machine (MoreExprs ∷ Closing c.args.closing ∷ k) (omega arith) in
    let b = c.in-Some.ensures.more (Closing c.args.closing ∷ k) (omega arith) in
    stops _ _ _ _ _ c.from_residual-in_err-ids.ensures.1 (f ∙ b) (c.in_err-ids.ensures.machine k h)

pub list::closed_group-returns-clause-machine : goal.list::closed_group-returns-clause-machine
list::closed_group-returns-clause-machine _ c = λ k h.
    let f = c.in_ok-first.ensures.machine (MoreExprs ∷ Closing c.args.closing ∷ k) (omega arith) in
    let b = c.in-Some.ensures.more (Closing c.args.closing ∷ k) (omega arith) in
    f ∙ b ∙ c.in_ok-ids.ensures.machine k h

pub list::closed_group-returns-in_err-ids-clause-bracket : goal.list::closed_group-returns-in_err-ids-clause-bracket
list::closed_group-returns-in_err-ids-clause-bracket _ c = λ e k h.
    let f = c.in_ok-first.ensures.machine (InBracket ∷ k) h in
    let b = c.in-Some.ensures.bracket k (omega arith) in
    let m = rw e at (c.in_err-ids.ensures.machine (CallPart ∷ k) (omega arith)) in
    stops _ _ _ _ _ c.from_residual-in_err-ids.ensures.1 (f ∙ b) m

pub list::closed_group-returns-clause-bracket : goal.list::closed_group-returns-clause-bracket
list::closed_group-returns-clause-bracket _ c = λ e k h.
    let f = c.in_ok-first.ensures.machine (InBracket ∷ k) h in
    let b = c.in-Some.ensures.bracket k (omega arith) in
    let m = rw e at (c.in_ok-ids.ensures.machine (CallPart ∷ k) (omega arith)) in
    f ∙ b ∙ m

pub list::closed_group-returns-in_err-ids-clause-start : goal.list::closed_group-returns-in_err-ids-clause-start
list::closed_group-returns-in_err-ids-clause-start _ c = λ e k h.
    let f = c.in_ok-first.ensures.machine (StartBracket ∷ k) h in
    let b = c.in-Some.ensures.start k (omega arith) in
    let m = rw e at (c.in_err-ids.ensures.machine (CallPart ∷ Expect t.Semicolon ∷ k) (omega arith)) in
    stops _ _ _ _ _ c.from_residual-in_err-ids.ensures.1 (f ∙ b) m

pub list::closed_group-returns-clause-start : goal.list::closed_group-returns-clause-start
list::closed_group-returns-clause-start _ c = λ e k h.
    let f = c.in_ok-first.ensures.machine (StartBracket ∷ k) h in
    let b = c.in-Some.ensures.start k (omega arith) in
    let m = rw e at (c.in_ok-ids.ensures.machine (CallPart ∷ Expect t.Semicolon ∷ k) (omega arith)) in
    f ∙ b ∙ m

pub list::closed_group-returns-clause-reads : goal.list::closed_group-returns-clause-reads
list::closed_group-returns-clause-reads _ c =
    let s = c.in-Some.ensures.token in
    let r = c.in_ok-ids.ensures.reads c.args.tree.now c.args.tokens.now s.0 (rw (← s.1) c.in_ok-first.ensures.reads) in
    (r.0, (r.1, c.in_ok-ids.ensures.several))

-- group_rest
pub list::group_rest-returns-in_err-rest-clause-machine : goal.list::group_rest-returns-in_err-rest-clause-machine
list::group_rest-returns-in_err-rest-clause-machine _ c = λ k h.
    stops _ _ _ _ _ c.from_residual-in_err-rest.ensures.1 refl (c.in_err-rest.ensures.machine (Closing c.args.closing ∷ k) h)

pub list::group_rest-returns-in_err-rest-2-clause-machine : goal.list::group_rest-returns-in_err-rest-2-clause-machine
list::group_rest-returns-in_err-rest-2-clause-machine _ c = λ k h.
    stops _ _ _ _ _ c.from_residual-in_err-rest-2.ensures.1 (c.in_ok-rest.ensures.machine (Closing c.args.closing ∷ k) h) (c.in_err-rest-2.ensures.closing k (omega arith))

pub list::group_rest-returns-clause-machine : goal.list::group_rest-returns-clause-machine
list::group_rest-returns-clause-machine _ c = λ k h. c.in_ok-rest.ensures.machine (Closing c.args.closing ∷ k) h ∙ c.in_ok-rest-2.ensures.closing k (omega arith)

pub list::group_rest-returns-clause-reads : goal.list::group_rest-returns-clause-reads
list::group_rest-returns-clause-reads _ c = λ old ts s q.
    let one : c.push.new.self ≡ c.args.first ∷ [] = c.in_ok-push.ensures.ok ∙ ap (λ xs. xs ++ c.args.first ∷ []) c.new-ids.ensures in
    (c.in_ok-rest-2.field-0-0, rw (← c.in_ok-rest-2.ensures.token) (c.in_ok-rest.ensures.reads old ts s (rw one (last_read q))))

pub list::group_rest-returns-clause-several : goal.list::group_rest-returns-clause-several
list::group_rest-returns-clause-several _ c =
    let one : c.push.new.self ≡ c.args.first ∷ [] = c.in_ok-push.ensures.ok ∙ ap (λ xs. xs ++ c.args.first ∷ []) c.new-ids.ensures in
    omega (arith, c.in_ok-rest.ensures.longer, ap length one)

-- arguments
pub list::arguments-returns-in-Some-clause-reads : goal.list::arguments-returns-in-Some-clause-reads
list::arguments-returns-in-Some-clause-reads _ c =
    let s = c.in-Some.ensures.token in
    (s.0, rw (c.new.ensures, ← s.1) no_args_read)

pub list::arguments-returns-clause-reads : goal.list::arguments-returns-clause-reads
list::arguments-returns-clause-reads _ c =
    let r = c.in_ok-several.ensures.reads in
    (r.0, rw c.in_ok-ids_of.ensures.ids (args_read (group_read c.in_ok-several.several r.1)))

-- indexed
-- behind a second index
pub target::indexed-returns-in_err-second-in-Bracket-clause-machine : goal.target::indexed-returns-in_err-second-in-Bracket-clause-machine
target::indexed-returns-in_err-second-in-Bracket-clause-machine _ c = λ k h.
    let o = c.in-Bracket.ensures.index k (omega arith) in
    let m = c.in_err-second-in-Bracket.ensures.machine (Closing t.RightBracket ∷ k) (omega arith) in
    stops _ _ _ _ _ c.from_residual.ensures.1 o m

pub target::indexed-returns-in_err-second-in-Bracket-clause-start : goal.target::indexed-returns-in_err-second-in-Bracket-clause-start
target::indexed-returns-in_err-second-in-Bracket-clause-start _ c = λ k h.
    let o = c.in-Bracket.ensures.start_index k (omega arith) in
    let m = c.in_err-second-in-Bracket.ensures.machine (Closing t.RightBracket ∷ Assigns ∷ k) (omega arith) in
    stops _ _ _ _ _ c.from_residual.ensures.1 o m

pub target::indexed-returns-in_err-rest-in-Bracket-clause-machine : goal.target::indexed-returns-in_err-rest-in-Bracket-clause-machine
target::indexed-returns-in_err-rest-in-Bracket-clause-machine _ c = λ k h.
    let o = c.in-Bracket.ensures.index k (omega arith) in
    let m = c.in_ok-second-in-Bracket.ensures.machine (Closing t.RightBracket ∷ k) (omega arith) in
    let n = c.in_err-rest-in-Bracket.ensures.closing k (omega arith) in
    stops _ _ _ _ _ c.from_residual-in_err-rest-in-Bracket.ensures.1 (o ∙ m) n

pub target::indexed-returns-in_err-rest-in-Bracket-clause-start : goal.target::indexed-returns-in_err-rest-in-Bracket-clause-start
target::indexed-returns-in_err-rest-in-Bracket-clause-start _ c = λ k h.
    let o = c.in-Bracket.ensures.start_index k (omega arith) in
    let m = c.in_ok-second-in-Bracket.ensures.machine (Closing t.RightBracket ∷ Assigns ∷ k) (omega arith) in
    let n = c.in_err-rest-in-Bracket.ensures.closing (Assigns ∷ k) (omega arith) in
    stops _ _ _ _ _ c.from_residual-in_err-rest-in-Bracket.ensures.1 (o ∙ m) n

pub target::indexed-returns-in_ok-rest-in-Bracket-clause-machine : goal.target::indexed-returns-in_ok-rest-in-Bracket-clause-machine
target::indexed-returns-in_ok-rest-in-Bracket-clause-machine _ c = λ k h.
    let o = c.in-Bracket.ensures.index k (omega arith) in
    let m = c.in_ok-second-in-Bracket.ensures.machine (Closing t.RightBracket ∷ k) (omega arith) in
    let n = c.in_ok-rest-in-Bracket.ensures.closing k (omega arith) in
    o ∙ m ∙ n

pub target::indexed-returns-in_ok-rest-in-Bracket-clause-start : goal.target::indexed-returns-in_ok-rest-in-Bracket-clause-start
target::indexed-returns-in_ok-rest-in-Bracket-clause-start _ c = λ k h.
    let o = c.in-Bracket.ensures.start_index k (omega arith) in
    let m = c.in_ok-second-in-Bracket.ensures.machine (Closing t.RightBracket ∷ Assigns ∷ k) (omega arith) in
    let n = c.in_ok-rest-in-Bracket.ensures.closing (Assigns ∷ k) (omega arith) in
    o ∙ m ∙ n

pub target::indexed-returns-in_ok-rest-in-Bracket-clause-reads : goal.target::indexed-returns-in_ok-rest-in-Bracket-clause-reads
target::indexed-returns-in_ok-rest-in-Bracket-clause-reads _ c = λ old ts l r a.
    read_part_of_part a c.in-Bracket.ensures.token.1 (rw c.in_ok-rest-in-Bracket.ensures.token at c.in_ok-second-in-Bracket.ensures.reads)

-- one index alone
pub target::indexed-returns-in-Nothing-clause-reads : goal.target::indexed-returns-in-Nothing-clause-reads
target::indexed-returns-in-Nothing-clause-reads _ c = λ old ts l r a. read_part a

-- a call with one static argument
pub target::indexed-returns-in_err-args-in-Paren-clause-start : goal.target::indexed-returns-in_err-args-in-Paren-clause-start
target::indexed-returns-in_err-args-in-Paren-clause-start _ c = λ k h.
    let o = c.in-Paren.ensures.start_index k (omega arith) in
    let m = c.in_err-args-in-Paren.ensures.machine (Expect t.Semicolon ∷ k) (omega arith) in
    stops _ _ _ _ _ c.from_residual-in_err-args-in-Paren.ensures.1 o m

pub target::indexed-returns-in_ok-id-in-Paren-clause-start : goal.target::indexed-returns-in_ok-id-in-Paren-clause-start
target::indexed-returns-in_ok-id-in-Paren-clause-start _ c = λ k h.
    let o = c.in-Paren.ensures.start_index k (omega arith) in
    let m = c.in_ok-args-in-Paren.ensures.machine (Expect t.Semicolon ∷ k) (omega arith) in
    o ∙ m

pub target::indexed-add_call-requires-clause-free : goal.target::indexed-add_call-requires-clause-free
target::indexed-add_call-requires-clause-free _ c =
    let one : c.push.new.self ≡ c.args.first ∷ [] = c.in_ok-push-in-Paren.ensures.ok ∙ ap (λ xs. xs ++ c.args.first ∷ []) c.new-statics.ensures in
    let a = c.in_ok-args-in-Paren.ensures in
    rw one (free_then a.arena c.requires.free a.reads.1.grew)

pub target::indexed-returns-in_ok-id-in-Paren-clause-reads : goal.target::indexed-returns-in_ok-id-in-Paren-clause-reads
target::indexed-returns-in_ok-id-in-Paren-clause-reads _ c = λ old ts l r a.
    let one : c.push.new.self ≡ c.args.first ∷ [] = c.in_ok-push-in-Paren.ensures.ok ∙ ap (λ xs. xs ++ c.args.first ∷ []) c.new-statics.ensures in
    read_static_call (last_read a) c.in-Paren.ensures.token.1 c.in_ok-args-in-Paren.ensures.reads.1 (rw one at c.in_ok-id-in-Paren.ensures.added)

-- bracketed
-- one index
pub target::bracketed-returns-in-One-clause-machine : goal.target::bracketed-returns-in-One-clause-machine
target::bracketed-returns-in-One-clause-machine _ c = λ k h.
    let g = rw c.in-One.is at (c.in_ok-group.ensures.bracket refl k (omega arith)) in
    rw g (c.indexed.ensures.machine k h)

pub target::bracketed-returns-in-One-clause-start : goal.target::bracketed-returns-in-One-clause-start
target::bracketed-returns-in-One-clause-start _ c = λ k h.
    let g = rw c.in-One.is at (c.in_ok-group.ensures.start refl k (omega arith)) in
    rw g (c.indexed.ensures.start k h)

-- a call with several static arguments
pub target::bracketed-returns-in_err-rest-in-Several-clause-start : goal.target::bracketed-returns-in_err-rest-in-Several-clause-start
target::bracketed-returns-in_err-rest-in-Several-clause-start _ c = λ k h.
    let g = rw c.in-Several.is at (c.in_ok-group.ensures.start refl k (omega arith)) in
    let m = c.in_err-rest-in-Several.ensures.machine (Expect t.Semicolon ∷ k) (omega arith) in
    stops _ _ _ _ _ c.from_residual-in_err-rest-in-Several.ensures.1 g m

pub target::bracketed-returns-in_err-args-in-Several-clause-start : goal.target::bracketed-returns-in_err-args-in-Several-clause-start
target::bracketed-returns-in_err-args-in-Several-clause-start _ c = λ k h.
    let g = rw c.in-Several.is at (c.in_ok-group.ensures.start refl k (omega arith)) in
    let m = c.in_ok-rest-in-Several.ensures.machine (Expect t.Semicolon ∷ k) (omega arith) in
    let n = c.in_err-args-in-Several.ensures.machine (Expect t.Semicolon ∷ k) (omega arith) in
    stops _ _ _ _ _ c.from_residual-in_err-args-in-Several.ensures.1 (g ∙ m) n

pub target::bracketed-returns-in_ok-id-in-Several-clause-machine : goal.target::bracketed-returns-in_ok-id-in-Several-clause-machine
target::bracketed-returns-in_ok-id-in-Several-clause-machine _ c = λ k h.
    let g = rw c.in-Several.is at (c.in_ok-group.ensures.bracket refl k (omega arith)) in
    let m = c.in_ok-rest-in-Several.ensures.machine k (omega arith) in
    let n = c.in_ok-args-in-Several.ensures.machine k (omega arith) in
    g ∙ m ∙ n

pub target::bracketed-returns-in_ok-id-in-Several-clause-start : goal.target::bracketed-returns-in_ok-id-in-Several-clause-start
target::bracketed-returns-in_ok-id-in-Several-clause-start _ c = λ k h.
    let g = rw c.in-Several.is at (c.in_ok-group.ensures.start refl k (omega arith)) in
    let m = c.in_ok-rest-in-Several.ensures.machine (Expect t.Semicolon ∷ k) (omega arith) in
    let n = c.in_ok-args-in-Several.ensures.machine (Expect t.Semicolon ∷ k) (omega arith) in
    g ∙ m ∙ n

pub target::bracketed-add_call-requires-clause-free : goal.target::bracketed-add_call-requires-clause-free
target::bracketed-add_call-requires-clause-free _ c =
    let g = rw c.in-Several.is at c.in_ok-group.ensures.reads in
    let a = c.in_ok-args-in-Several.ensures in
    free_then a.arena (free c.in_ok-group.ensures.arena g.1.0.grew) a.reads.1.grew

pub target::bracketed-returns-in_ok-id-in-Several-clause-reads : goal.target::bracketed-returns-in_ok-id-in-Several-clause-reads
target::bracketed-returns-in_ok-id-in-Several-clause-reads _ c = λ l.
    let g = rw c.in-Several.is at c.in_ok-group.ensures.reads in
    read_static_call g.1.0 c.in_ok-rest-in-Several.ensures.token.1 c.in_ok-args-in-Several.ensures.reads.1 c.in_ok-id-in-Several.ensures.added

-- behind_name
pub target::behind_name-returns-in-Nothing-clause-reads : goal.target::behind_name-returns-in-Nothing-clause-reads
target::behind_name-returns-in-Nothing-clause-reads _ c = read_whole

-- a call without static arguments
pub target::behind_name-returns-in_err-args-in-Paren-clause-start : goal.target::behind_name-returns-in_err-args-in-Paren-clause-start
target::behind_name-returns-in_err-args-in-Paren-clause-start _ c = λ k h.
    let o = c.in-Paren.ensures.start k in
    let m = c.in_err-args-in-Paren.ensures.machine (Expect t.Semicolon ∷ k) (omega arith) in
    search rules

pub target::behind_name-returns-in_ok-id-in-Paren-clause-start : goal.target::behind_name-returns-in_ok-id-in-Paren-clause-start
target::behind_name-returns-in_ok-id-in-Paren-clause-start _ c = λ k h.
    let o = c.in-Paren.ensures.start k in
    let m = c.in_ok-args-in-Paren.ensures.machine (Expect t.Semicolon ∷ k) (omega arith) in
    grind (arith, common_steps)

pub target::behind_name-add_call-requires-clause-free : goal.target::behind_name-add_call-requires-clause-free
target::behind_name-add_call-requires-clause-free _ c =
    let a = c.in_ok-args-in-Paren.ensures in
    rw c.new.ensures (free a.arena a.reads.1.grew)

pub target::behind_name-returns-in_ok-id-in-Paren-clause-reads : goal.target::behind_name-returns-in_ok-id-in-Paren-clause-reads
target::behind_name-returns-in_ok-id-in-Paren-clause-reads _ c =
    rw c.in-Paren.ensures.token.1 (read_plain c.in_ok-args-in-Paren.ensures.reads.1 (rw c.new.ensures at c.in_ok-id-in-Paren.ensures.added))
