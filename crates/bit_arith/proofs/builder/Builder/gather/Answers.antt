use Rattle.std.proofs.Common.{◌+◌, get_or, drop, ◌∙◌, subst, arith}
use Rattle.std.proofs.lemmas.List.{drop_more}
use Rattle.std.proofs.lemmas.Result.{err_from_is_err_and}
use Rattle.bit_arith.specs.Calls.{Refused}
use Rattle.bit_arith.proofs.Parts.{no_lit}
use Rattle.bit_arith.proofs.Gathers.{fold_refused_first, fold_refused, fold_same, fold_fit}
use Rattle.bit_arith.proofs.builder.Builder.gather.Goals as goal

pub returns-in_err-wire-clause-refused : goal.returns-in_err-wire-clause-refused
returns-in_err-wire-clause-refused c =
    let p = err_from_is_err_and c.from_residual.result c.from_residual.ensures.1 in
    let i = c.loop-next.next-index in
    let split = drop_more c.args.rest.now i no_lit (omega arith) in
    let e = c.in_err-wire.field-0.0 in
    let refused = fold_refused_first c.loop-next.whole (get_or c.args.rest.now i no_lit) (drop (i + 1) c.args.rest.now) (drop i c.args.rest.now) split c.loop-next.self e c.in_err-wire.ensures.refused in
    rw (p.1, p.2) (subst (λ g. Refused e g.built) c.loop-next.invariant.same refused)

pub returns-in_err-push-clause-refused : goal.returns-in_err-push-clause-refused
returns-in_err-push-clause-refused c =
    let p = err_from_is_err_and c.from_residual-in_err-push.result c.from_residual-in_err-push.ensures.1 in
    let i = c.loop-next.next-index in
    let split = drop_more c.args.rest.now i no_lit (omega arith) in
    let e = c.in_err-push.field-0.0 in
    let refused = fold_refused c.loop-next.whole (get_or c.args.rest.now i no_lit) (drop (i + 1) c.args.rest.now) (drop i c.args.rest.now) split c.loop-next.self c.new_wire.new.self c.in_ok-wire.wire e c.in_ok-wire.ensures.answer c.in_ok-wire.ensures.ok c.in_err-push.ensures.refused in
    rw (p.1, p.2) (subst (λ g. Refused e g.built) c.loop-next.invariant.same refused)

pub loop-next-preserved : goal.loop-next-preserved
loop-next-preserved c =
    let i = c.loop-next.next-index in
    let rest = c.args.rest.now in
    let split = drop_more rest i no_lit (omega arith) in
    record {
      same =
          fold_same c.loop-next.whole (get_or rest i no_lit) (drop (i + 1) rest) (drop i rest) split c.loop-next.self c.new_wire.new.self c.push.new.self c.in_ok-wire.wire c.in_ok-wire.ensures.answer c.in_ok-wire.ensures.ok c.in_ok-push.ensures.ok
          ∙ c.loop-next.invariant.same;
      kept = c.in_ok-push.ensures.ok.kept ∙ c.in_ok-wire.ensures.ok.kept ∙ c.loop-next.invariant.kept;
      fit = fold_fit c.loop-next.whole (get_or rest i no_lit) (drop (i + 1) rest) (drop i rest) split c.loop-next.self c.new_wire.new.self c.push.new.self c.in_ok-wire.wire c.in_ok-wire.ensures.answer c.in_ok-wire.ensures.ok c.in_ok-push.ensures.ok c.loop-next.invariant.fit;
    }
