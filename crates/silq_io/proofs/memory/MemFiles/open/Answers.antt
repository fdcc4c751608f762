use Rattle.std.proofs.Common.{◌≡◌, Some, false, position, refl, sym, ◌∙◌, ap}
use Rattle.silq_io.specs.Counts.{next_fails}
use Rattle.silq_io.specs.Memory.{Store, is_named, counted, can_begin, failed}
use Rattle.silq_io.proofs.Places.{can_begin_at, begun_at, cannot_by_call, cannot_by_name, begun_not}
use Rattle.silq_io.proofs.memory.MemFiles.open.Goals as goal
use Rattle.silq_io.proofs.memory.MemFiles.open.Goals.{After-fail, in_default-via-in-Some+else-not-fails, in_default-via-in_default}

pub returns-in-Some-clause-answer : goal.returns-in-Some-clause-answer
returns-in-Some-clause-answer c =
    let seen : Store = record { files = c.self.inside.files.items; other_faults = c.self.inside.other_faults; calls = c.self.inside.calls } in
    let name = c.args.name.now in
    let e : position (is_named name) seen.files ≡ Some c.in-Some.i = cc in
    let goes : next_fails seen.calls ≡ false = cc in
    rw (← c.self.view_is) (sym (can_begin_at seen name c.in-Some.i c.index_mut-file.result.now e c.index_mut-file.ensures.value goes))

pub returns-in-Some-clause-after : goal.returns-in-Some-clause-after
returns-in-Some-clause-after c =
    let seen : Store = record { files = c.self.inside.files.items; other_faults = c.self.inside.other_faults; calls = c.self.inside.calls } in
    let name = c.args.name.now in
    let e : position (is_named name) seen.files ≡ Some c.in-Some.i = cc in
    let goes : next_fails seen.calls ≡ false = cc in
    rw (c.begin.ensures, c.fails-fails.ensures.after, ← c.self.view_is) (begun_at seen name c.in-Some.i c.index_mut-file.result.now e c.index_mut-file.ensures.value goes)

cannot : (c : After-fail) → can_begin c.args.self.now c.args.name.now ≡ false
cannot c =
    let seen : Store = record { files = c.self.inside.files.items; other_faults = c.self.inside.other_faults; calls = c.self.inside.calls } in
    let name = c.args.name.now in
    rw (← c.self.view_is) (elim c.in_default.branch as (λ _. can_begin seen name ≡ false) [
      | in_default-via-in-Some+else-not-fails w ↦ cannot_by_call seen name cc
      | in_default-via-in_default w ↦ cannot_by_name seen name cc
    ])

seen_by_fail : (c : After-fail) → (c.in_default.self ≡ counted c.args.self.now) × (c.in_default.at ≡ position (is_named c.args.name.now) c.args.self.now.files)
seen_by_fail c =
    let seen : Store = record { files = c.self.inside.files.items; other_faults = c.self.inside.other_faults; calls = c.self.inside.calls } in
    let name = c.args.name.now in
    rw (← c.self.view_is) (elim c.in_default.branch as (λ _. (c.in_default.self ≡ counted seen) × (c.in_default.at ≡ position (is_named name) seen.files)) [
      | in_default-via-in-Some+else-not-fails w ↦ (rw (w.self-is, c.fails-fails.ensures.after) refl, cc)
      | in_default-via-in_default w ↦ (rw (w.self-is, c.fails-fails.ensures.after) refl, cc)
    ])

pub returns-in_default-clause-answer : goal.returns-in_default-clause-answer
returns-in_default-clause-answer c = sym (cannot c)

pub returns-in_default-clause-after : goal.returns-in_default-clause-after
returns-in_default-clause-after c =
    let s = seen_by_fail c in
    c.fail.ensures c.args.name.now (s.1 ∙ ap (λ (x : Store). position (is_named c.args.name.now) x.files) (sym s.0)) ∙ (ap (λ x. failed x c.args.name.now) s.0 ∙ begun_not c.args.self.now c.args.name.now (cannot c))
