use Rattle.std.proofs.Common.{◌≡◌, ℕ, suc, ◌-◌, ◌≤◌, [], ◌++◌, refl, sym, ap, ◌∙◌, subst, arith, get_or, le_refl}
use Rattle.flat_core.specs.Label.{step_id, used, step_at}
use Rattle.reqomp.specs.Simple.{marked_at}
use Rattle.reqomp.specs.Redone.{Found, marked_among, found_at, found_below}
use Rattle.reqomp.specs.Passing.{AreStamped, HasFound}
use Rattle.reqomp.proofs.AtTop.{marked_at_top}
use Rattle.reqomp.proofs.Passing.{none_stamped, has_begun, among_marked, found_marked, found_back, pass_start, pass_end}
use Rattle.std.proofs.lemmas.List.{get_or_read}
use Rattle.reqomp.proofs.pass_back.Search.pass_back.Goals as goal

pub loop-low-init : goal.loop-low-init
loop-low-init c =
    let f = c.args.flat.now in
    let k = c.args.marks.now.level in
    let s = c.args.s in
    let marked = marked_at f k in
    let start : Found = record { wires = marked_among marked (used (step_at f s)); steps = [] } in
    let are = c.find_used-low.ensures.found [] (none_stamped c.args.self.now.stamps.items c.args.self.now.newest c.requires.search.old) in
    let below = c.find_used-low.ensures.below [] (λ w t h. cc) in
    let found = has_begun f marked s c.find_used-low.new.self c.find_used-low.result (subst (λ n. AreStamped c.find_used-low.new.self.stamps.items n (marked_among marked (used (step_at f s)) ++ [])) (sym c.find_used-low.ensures.newest) are) below in
    record {
      search = c.find_used-low.ensures.search;
      newest = refl;
      within = le_refl s.number;
      found = (start, among_marked marked (used (step_at f s)), subst (λ items. HasFound f c.find_used-low.new.self c.find_used-low.result items start) (sym c.new-steps.ensures.items) found, pass_start f marked (marked_at_top f k) s c.requires.there start refl);
    }

pub loop-low-preserved : goal.loop-low-preserved
loop-low-preserved c =
    let f = c.args.flat.now in
    let marked = marked_at f c.args.marks.now.level in
    let p = c.loop-low.invariant.found.0 in
    let i = c.loop-low.i in
    let jumps = c.requires.marks.jumps in
    let within = c.loop-low.invariant.within in
    let n : ℕ = c.index-i.result.now in
    let many = jumps.each_step in
    let read : get_or c.args.marks.now.jumps.items i 0 ≡ n = sym (get_or_read c.args.marks.now.jumps.items _ _ (omega arith) c.index-i.ensures 0) in
    let back = jumps.earlier (step_id i) (omega arith) (omega (arith, c.requires.there)) in
    let inside = c.loop-low.invariant.found.1 in
    record {
      search = c.step_back.ensures.search;
      newest = c.step_back.ensures.newest ∙ c.loop-low.invariant.newest;
      within = omega arith;
      found = (
        found_at f marked (step_id n) p,
        found_marked f marked (step_id n) p inside,
        c.in_ok-low.ensures.found p c.loop-low.invariant.found.2,
        c.loop-low.invariant.found.3 ∙ found_back f marked n i p (omega arith) inside (λ t a b. jumps.between (step_id i) t (omega (arith, c.requires.there)) (omega arith) b),
      );
    }

pub returns-clause-steps : goal.returns-clause-steps
returns-clause-steps c =
    let f = c.args.flat.now in
    let marked = marked_at f c.args.marks.now.level in
    let p = c.loop-low.invariant.found.0 in
    let h = c.loop-low.invariant.found.2 in
    let over : c.loop-low.i ≤ c.loop-low.low = omega arith in
    c.reverse.ensures.items ∙ h.steps_are ∙ sym (ap (λ (q : Found). q.steps) (c.loop-low.invariant.found.3 ∙ pass_end f marked c.loop-low.i c.loop-low.low p over h.below))

pub step_back-requires-clause-there : goal.step_back-requires-clause-there
step_back-requires-clause-there c =
    let i = c.loop-low.i in
    let jumps = c.requires.marks.jumps in
    let within = c.loop-low.invariant.within in
    let n : ℕ = c.index-i.result.now in
    let many = jumps.each_step in
    let read : get_or c.args.marks.now.jumps.items i 0 ≡ n = sym (get_or_read c.args.marks.now.jumps.items _ _ (omega arith) c.index-i.ensures 0) in
    let back = jumps.earlier (step_id i) (omega arith) (omega (arith, c.requires.there)) in
    omega (arith, c.requires.there)

pub loop-low-smaller : goal.loop-low-smaller
loop-low-smaller c =
    let i = c.loop-low.i in
    let jumps = c.requires.marks.jumps in
    let within = c.loop-low.invariant.within in
    let n : ℕ = c.index-i.result.now in
    let many = jumps.each_step in
    let read : get_or c.args.marks.now.jumps.items i 0 ≡ n = sym (get_or_read c.args.marks.now.jumps.items _ _ (omega arith) c.index-i.ensures 0) in
    let back = jumps.earlier (step_id i) (omega arith) (omega (arith, c.requires.there)) in
    omega arith
