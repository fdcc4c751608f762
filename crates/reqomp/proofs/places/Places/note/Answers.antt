use Rattle.std.specs.Vec.{with_item}
use Rattle.std.proofs.Common.{◌<◌, length, refl, arith}
use Rattle.graph_core.specs.declared.vertex.Vertex.TheVariants.{Forward, Reverse}
use Rattle.graph_core.proofs.Places.{contains_at}
use Rattle.reqomp.proofs.LevelArena.{more_forward, more_reverse, more_free}
use Rattle.reqomp.proofs.places.Places.note.Goals as goal

pub index_mut-requires : goal.index_mut-requires
index_mut-requires c =
    let v = Forward c.in-Forward.s in
    let is = contains_at c.args.circuit.now.vertices c.args.at.number v c.in-Forward.ensures in
    let there : c.in-Forward.s.number < length c.args.flat.now.steps = (c.requires.circuit.vertices v).0 is in
    let rows = c.requires.places.forward_rows in
    omega (arith, c.args.self.now.forward.ok)

pub index_mut-requires-in-Reverse : goal.index_mut-requires-in-Reverse
index_mut-requires-in-Reverse c =
    let v = Reverse c.in-Reverse.s in
    let vertex = (c.requires.circuit.vertices v).0 (contains_at c.args.circuit.now.vertices c.args.at.number v c.in-Reverse.ensures) in
    let there : c.in-Reverse.s.number < length c.args.flat.now.steps = vertex.0 in
    let rows = c.requires.places.reverse_rows in
    omega (arith, c.args.self.now.reverse.ok)

pub returns-in-Forward : goal.returns-in-Forward
returns-in-Forward c =
    let v = Forward c.in-Forward.s in
    let is = contains_at c.args.circuit.now.vertices c.args.at.number v c.in-Forward.ensures in
    let there : c.in-Forward.s.number < length c.args.flat.now.steps = (c.requires.circuit.vertices v).0 is in
    more_forward c.args.flat.now c.args.circuit.now c.len-count.ensures.sound c.args.at.number c.args.self.now c.requires.places c.args.at refl
    c.in-Forward.s there c.in-Forward.ensures
    (record { forward = with_item c.args.self.now.forward c.in-Forward.s.number c.args.at; reverse = c.args.self.now.reverse }) refl refl

pub returns-in-Reverse : goal.returns-in-Reverse
returns-in-Reverse c =
    let v = Reverse c.in-Reverse.s in
    let vertex = (c.requires.circuit.vertices v).0 (contains_at c.args.circuit.now.vertices c.args.at.number v c.in-Reverse.ensures) in
    more_reverse c.args.flat.now c.args.circuit.now c.len-count.ensures.sound c.args.at.number c.args.self.now c.requires.places c.args.at refl
    c.in-Reverse.s vertex.0 c.in-Reverse.ensures
    (record { forward = c.args.self.now.forward; reverse = with_item c.args.self.now.reverse c.in-Reverse.s.number c.args.at }) refl refl

pub returns-in-Free : goal.returns-in-Free
returns-in-Free c =
    more_free c.args.flat.now c.args.circuit.now c.len-count.ensures.sound c.args.at.number c.args.self.now c.requires.places c.args.at refl
    c.in-Free.field-0 c.in-Free.ensures
