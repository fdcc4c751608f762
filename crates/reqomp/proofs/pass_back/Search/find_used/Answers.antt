use Rattle.std.proofs.Common.{◌<◌, length, IfSome, ap, ◌∙◌, subst, sym}
use Rattle.flat_core.specs.Label.{used, step_at}
use Rattle.reqomp.specs.Simple.{marked_at}
use Rattle.reqomp.specs.Marking.{AreFirstSteps}
use Rattle.reqomp.proofs.Passing.{found_both, below_both, old_kept, pair_there}
use Rattle.reqomp.proofs.pass_back.Search.find_used.Goals as goal

pub find-low-requires-clause-flags : goal.find-low-requires-clause-flags
find-low-requires-clause-flags c =
    let p = pair_there c.args.flat.now c.requires.sound c.args.s c.requires.there c.used_wires-first.result.0 c.used_wires-first.result.1 (c.used_wires-first.ensures ∙ ap used c.step.ensures) in
    subst (λ n. IfSome c.used_wires-first.result.0 (λ w. w.number < n)) (sym c.requires.marks.as_many) p.0

pub find-low-requires-clause-stamps : goal.find-low-requires-clause-stamps
find-low-requires-clause-stamps c =
    let p = pair_there c.args.flat.now c.requires.sound c.args.s c.requires.there c.used_wires-first.result.0 c.used_wires-first.result.1 (c.used_wires-first.ensures ∙ ap used c.step.ensures) in
    subst (λ n. IfSome c.used_wires-first.result.0 (λ w. w.number < n)) (sym c.requires.search.as_many) p.0

pub find-low-requires-clause-first : goal.find-low-requires-clause-first
find-low-requires-clause-first c =
    let p = pair_there c.args.flat.now c.requires.sound c.args.s c.requires.there c.used_wires-first.result.0 c.used_wires-first.result.1 (c.used_wires-first.ensures ∙ ap used c.step.ensures) in
    subst (λ n. IfSome c.used_wires-first.result.0 (λ w. w.number < n)) (sym c.requires.search.first.each_wire) p.0

pub find-requires-clause-flags : goal.find-requires-clause-flags
find-requires-clause-flags c =
    let p = pair_there c.args.flat.now c.requires.sound c.args.s c.requires.there c.used_wires-first.result.0 c.used_wires-first.result.1 (c.used_wires-first.ensures ∙ ap used c.step.ensures) in
    subst (λ n. IfSome c.used_wires-first.result.1 (λ w. w.number < n)) (sym c.requires.marks.as_many) p.1

pub find-requires-clause-stamps : goal.find-requires-clause-stamps
find-requires-clause-stamps c =
    let p = pair_there c.args.flat.now c.requires.sound c.args.s c.requires.there c.used_wires-first.result.0 c.used_wires-first.result.1 (c.used_wires-first.ensures ∙ ap used c.step.ensures) in
    subst (λ n. IfSome c.used_wires-first.result.1 (λ w. w.number < n)) (sym (c.find-low.ensures.as_many ∙ c.requires.search.as_many)) p.1

pub find-requires-clause-first : goal.find-requires-clause-first
find-requires-clause-first c =
    let p = pair_there c.args.flat.now c.requires.sound c.args.s c.requires.there c.used_wires-first.result.0 c.used_wires-first.result.1 (c.used_wires-first.ensures ∙ ap used c.step.ensures) in
    subst (λ n. IfSome c.used_wires-first.result.1 (λ w. w.number < n)) (sym (ap length c.find-low.ensures.firsts ∙ c.requires.search.first.each_wire)) p.1

pub returns-clause-search : goal.returns-clause-search
returns-clause-search c =
    let f = c.args.flat.now in
    let p = pair_there f c.requires.sound c.args.s c.requires.there c.used_wires-first.result.0 c.used_wires-first.result.1 (c.used_wires-first.ensures ∙ ap used c.step.ensures) in
    let flags = c.args.marks.now.flags.items in
    let n = c.args.self.now.newest in
    let l = subst (λ k. IfSome c.used_wires-first.result.0 (λ w. w.number < k)) (sym c.requires.search.as_many) p.0 in
    let m = subst (λ k. IfSome c.used_wires-first.result.1 (λ w. w.number < k)) (sym (ap length (sym c.find-low.ensures.found) ∙ c.find-low.ensures.as_many ∙ c.requires.search.as_many)) p.1 in
    record {
      first = subst (AreFirstSteps f) (sym (c.find.ensures.firsts ∙ c.find-low.ensures.firsts)) c.requires.search.first;
      as_many = c.find.ensures.as_many ∙ c.find-low.ensures.as_many ∙ c.requires.search.as_many;
      old = rw (c.find.ensures.found, c.find.ensures.newest, c.find-low.ensures.newest, c.find-low.ensures.found)
          (old_kept flags n c.used_wires-first.result.1 _ m (old_kept flags n c.used_wires-first.result.0 c.args.self.now.stamps.items l c.requires.search.old));
    }

pub returns-clause-found : goal.returns-clause-found
returns-clause-found c = λ wires are.
    let f = c.args.flat.now in
    let pair = c.used_wires-first.ensures ∙ ap used c.step.ensures in
    let p = pair_there f c.requires.sound c.args.s c.requires.there c.used_wires-first.result.0 c.used_wires-first.result.1 pair in
    let l = subst (λ k. IfSome c.used_wires-first.result.0 (λ w. w.number < k)) (sym c.requires.search.as_many) p.0 in
    let m = subst (λ k. IfSome c.used_wires-first.result.1 (λ w. w.number < k)) (sym c.requires.search.as_many) p.1 in
    rw (c.find.ensures.found, c.find-low.ensures.newest, c.find-low.ensures.found)
    (found_both c.args.marks.now.flags.items (marked_at f c.args.marks.now.level) c.requires.marks.told c.args.self.now.newest c.used_wires-first.result.0 c.used_wires-first.result.1 c.args.self.now.stamps.items (used (step_at f c.args.s)) wires l m pair are)

pub returns-clause-below : goal.returns-clause-below
returns-clause-below c = λ wires h.
    let f = c.args.flat.now in
    rw (c.find.ensures.least, c.find-low.ensures.firsts, c.find-low.ensures.least)
    (below_both c.args.marks.now.flags.items (marked_at f c.args.marks.now.level) c.requires.marks.told f c.args.self.now.first.items c.requires.search.first c.used_wires-first.result.0 c.used_wires-first.result.1 c.args.low (used (step_at f c.args.s)) wires (c.used_wires-first.ensures ∙ ap used c.step.ensures) h)
