use Rattle.std.proofs.Common.{sym, subst}
use Rattle.std.proofs.lemmas.Bool.{iff_false}
use Rattle.reqomp.proofs.NearEnds.{AreEndsBut, ends_start, ends_taken, ends_passed, ends_end}
use Rattle.reqomp.proofs.near.ends_of_kind.Goals as goal

pub loop-x-preserved-in-Continue-1 : goal.loop-x-preserved-in-Continue-1
loop-x-preserved-in-Continue-1 c =
    subst (AreEndsBut c.args.kind c.args.edges c.next.new.self) (sym c.in_ok-push.ensures.items)
    (ends_taken c.args.kind c.args.edges c.in-Some.x c.in-Some.k c.loop-x.edges c.next.new.self c.in-Some.ensures.next c.loop-x.ends.items c.loop-x.invariant (c.is_kind.ensures.0 c.if-is_kind.true))

pub loop-x-preserved : goal.loop-x-preserved
loop-x-preserved c =
    ends_passed c.args.kind c.args.edges c.in-Some.x c.in-Some.k c.loop-x.edges c.next.new.self c.in-Some.ensures.next c.loop-x.ends.items c.loop-x.invariant (iff_false c.is_kind.ensures c.if-is_kind.false)

pub returns : goal.returns
returns c = λ x. ends_end c.args.kind c.args.edges c.loop-x.edges c.loop-x.ends.items c.in_default.ensures.next c.loop-x.invariant x
