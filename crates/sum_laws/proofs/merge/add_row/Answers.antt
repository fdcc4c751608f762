use Rattle.std.proofs.Common.{inr, refl}
use Rattle.sum_laws.proofs.merge.add_row.Goals as goal

pub returns-in_ok-push : goal.returns-in_ok-push
returns-in_ok-push c = inr (
  _,
  record {
    value = refl;
    same = c.reduced.ensures.same;
    reduced = c.reduced.ensures.least;
    not_zero = λ z. absurd (let e = c.is_zero.ensures.1 z in let f = c.if-not-is_zero.true in cc (e, f));
  },
  c.in_ok-push.ensures.items,
)
