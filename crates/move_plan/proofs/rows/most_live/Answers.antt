use Rattle.std.proofs.Common.{◌≡◌, ◌+◌, max, get_or, drop, sym, ◌∙◌, ap, subst, arith}
use Rattle.std.proofs.lemmas.List.{get_or_default}
use Rattle.flat_core.specs.Label.{step_id}
use Rattle.move_plan.specs.declared.moves.Move.{Move}
use Rattle.move_plan.specs.declared.moves.Move.TheVariants.{Up}
use Rattle.move_plan.specs.Progress.{Progress, AllStand, moved}
use Rattle.move_plan.specs.Live.{live, count_wires, width, width_from}
use Rattle.move_plan.specs.Track.{told}
use Rattle.move_plan.proofs.Counts.{width_from-ge}
use Rattle.move_plan.proofs.Following.{rest_stands, most_more}
use Rattle.move_plan.proofs.rows.most_live.Goals as goal

pub loop-mv-init : goal.loop-mv-init
loop-mv-init c =
    let from : width_from c.args.flat.now (told c.args.track.now) c.args.moves.now ≡ width c.args.flat.now c.args.moves.now = ap (λ (p : Progress). width_from c.args.flat.now p c.args.moves.now) c.requires.start in
    let least = width_from-ge c.args.flat.now (told c.args.track.now) c.args.moves.now in
    let count = c.count_live-live.ensures in
    record {
      rows = c.requires.rows;
      stand = subst (λ (p : Progress). AllStand c.args.flat.now p c.args.moves.now) (sym c.requires.start) c.requires.valid.stand;
      count = c.count_live-live.ensures;
      least = omega arith;
      widest = omega arith;
    }

pub loop-mv-preserved : goal.loop-mv-preserved
loop-mv-preserved c =
    let f = c.args.flat.now in
    let ms = c.args.moves.now in
    let i = c.loop-mv.mv-index in
    let p = told c.loop-mv.track in
    let q = told c.live_after-live.new.track in
    let m : Move = get_or c.args.moves.now c.loop-mv.mv-index (Up (step_id 0)) in
    let is : m ≡ get_or c.args.moves.now c.loop-mv.mv-index m = get_or_default c.args.moves.now c.loop-mv.mv-index (Up (step_id 0)) m c.loop-mv-test.true in
    let inv = c.loop-mv.invariant in
    let moves_on : q ≡ moved f p m = c.live_after-live.ensures.told in
    let count : c.live_after-live.result ≡ count_wires f (live f (moved f p m)) = c.live_after-live.ensures.after ∙ ap (λ (r : Progress). count_wires f (live f r)) moves_on in
    let most = most_more f ms i m p c.loop-mv-test.true is c.loop-mv.most c.loop-mv.live c.live_after-live.result (width f ms) inv.count inv.least count inv.widest in
    let max_is = c.max-most.ensures in
    record {
      rows = c.live_after-live.ensures.rows;
      stand = subst (λ (r : Progress). AllStand f r (drop (i + 1) ms)) (sym moves_on) (rest_stands f ms i m p c.loop-mv-test.true is inv.stand);
      count = c.live_after-live.ensures.after;
      least = omega arith;
      widest = ap (λ n. max n (width_from f q (drop (i + 1) ms))) max_is ∙ ap (λ (r : Progress). max (max c.loop-mv.most c.live_after-live.result) (width_from f r (drop (i + 1) ms))) moves_on ∙ most;
    }
