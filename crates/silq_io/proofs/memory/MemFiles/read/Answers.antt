use Rattle.std.proofs.Common.{◌≡◌, Some, None, false, position, length, arith}
use Rattle.silq_io.specs.Counts.{next_fails}
use Rattle.silq_io.specs.Memory.{Store, is_named}
use Rattle.silq_io.proofs.Places.{left_at, left_nowhere, taken_at, taken_nowhere}
use Rattle.silq_io.proofs.memory.MemFiles.read.Goals as goal

pub returns-in-Some-clause-moved : goal.returns-in-Some-clause-moved
returns-in-Some-clause-moved c =
    let seen : Store = record { files = c.self.inside.files.items; other_faults = c.self.inside.other_faults; calls = c.self.inside.calls } in
    let name = c.args.name.now in
    let e : position (is_named name) seen.files ≡ Some c.in-Some.i = cc in
    rw (← c.self.view_is, left_at seen name c.in-Some.i c.index_mut-file.result.now e c.index_mut-file.ensures.value) c.take.ensures.count

pub returns-in-Some-clause-bytes : goal.returns-in-Some-clause-bytes
returns-in-Some-clause-bytes c =
    let seen : Store = record { files = c.self.inside.files.items; other_faults = c.self.inside.other_faults; calls = c.self.inside.calls } in
    let name = c.args.name.now in
    let e : position (is_named name) seen.files ≡ Some c.in-Some.i = cc in
    rw (← c.self.view_is, left_at seen name c.in-Some.i c.index_mut-file.result.now e c.index_mut-file.ensures.value) c.take.ensures.bytes

pub returns-in-Some-clause-after : goal.returns-in-Some-clause-after
returns-in-Some-clause-after c =
    let seen : Store = record { files = c.self.inside.files.items; other_faults = c.self.inside.other_faults; calls = c.self.inside.calls } in
    let name = c.args.name.now in
    let e : position (is_named name) seen.files ≡ Some c.in-Some.i = cc in
    let goes : next_fails seen.calls ≡ false = cc in
    rw (c.take.ensures.after, c.fails-fails.ensures.after, ← c.self.view_is)
    (taken_at seen name c.in-Some.i c.index_mut-file.result.now (length c.args.buf.now) e c.index_mut-file.ensures.value goes c.requires)

pub returns-in-None-clause-moved : goal.returns-in-None-clause-moved
returns-in-None-clause-moved c =
    let seen : Store = record { files = c.self.inside.files.items; other_faults = c.self.inside.other_faults; calls = c.self.inside.calls } in
    let name = c.args.name.now in
    let e : position (is_named name) seen.files ≡ None = cc in
    rw (← c.self.view_is, left_nowhere seen name e) (omega arith)

pub returns-in-None-clause-after : goal.returns-in-None-clause-after
returns-in-None-clause-after c =
    let seen : Store = record { files = c.self.inside.files.items; other_faults = c.self.inside.other_faults; calls = c.self.inside.calls } in
    let name = c.args.name.now in
    let e : position (is_named name) seen.files ≡ None = cc in
    let goes : next_fails seen.calls ≡ false = cc in
    rw (c.fails-fails.ensures.after, ← c.self.view_is) (taken_nowhere seen name (length c.args.buf.now) e goes c.requires)
