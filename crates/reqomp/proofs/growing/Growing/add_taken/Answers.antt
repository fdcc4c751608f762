use Rattle.reqomp.specs.Simple.{marked_at}
use Rattle.reqomp.proofs.Growth.{id_there, lone_from, lone_to, sound_more}
use Rattle.reqomp.proofs.growing.Growing.add_taken.Goals as goal

pub add_once-requires-clause-lone_from : goal.add_once-requires-clause-lone_from
add_once-requires-clause-lone_from c =
    let f = c.args.flat.now in
    let g = c.args.self.now.graph in
    let u = id_there g c.args.from c.requires.from in
    let v = id_there g c.args.to c.requires.to in
    lone_from f (marked_at f c.args.self.now.level) c.args.circuit.now c.len-vertices.ensures.sound c.requires.circuit g c.len-count.ensures.sound c.requires.sound c.args.from c.args.to u.0 v.0 u.1 v.1 c.args.kind (c.requires.taken u.0 v.0 u.1 v.1)

pub add_once-requires-clause-lone_to : goal.add_once-requires-clause-lone_to
add_once-requires-clause-lone_to c =
    let f = c.args.flat.now in
    let g = c.args.self.now.graph in
    let u = id_there g c.args.from c.requires.from in
    let v = id_there g c.args.to c.requires.to in
    lone_to f (marked_at f c.args.self.now.level) c.args.circuit.now c.len-vertices.ensures.sound c.requires.circuit g c.len-count.ensures.sound c.requires.sound c.args.from c.args.to u.0 v.0 u.1 v.1 c.args.kind (c.requires.taken u.0 v.0 u.1 v.1)

pub returns-clause-sound : goal.returns-clause-sound
returns-clause-sound c =
    let f = c.args.flat.now in
    let g = c.args.self.now.graph in
    let u = id_there g c.args.from c.requires.from in
    let v = id_there g c.args.to c.requires.to in
    sound_more f (marked_at f c.args.self.now.level) g c.add_once.new.self.graph c.args.from c.args.to c.args.kind u.0 v.0 c.requires.sound u.1 v.1 (c.requires.taken u.0 v.0 u.1 v.1) c.add_once.ensures.grown c.add_once.ensures.only
