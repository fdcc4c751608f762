use Rattle.std.proofs.Common.{◌∷◌, ◌∙◌, ap}
use Rattle.silq_lex.specs.Runs.{run}
use Rattle.qasm_tokens.specs.Words.{goes_on, word_kind}
use Rattle.qasm_tokens.specs.Cursors.{ahead}
use Rattle.qasm_tokens.proofs.Passing.{passes_on}
use Rattle.qasm_tokens.proofs.cursor.Cursor.word.Goals as goal

pub before-requires : goal.before-requires
before-requires c =
    let p = passes_on goes_on c.args.self.now c.args.next.now c.past-end.result c.args.c c.requires c.past-end.ensures.place c.past-end.ensures.rest in
    (c.args.c ∷ run goes_on (ahead c.args.next.now), p.characters)

pub returns : goal.returns
returns c =
    let p = passes_on goes_on c.args.self.now c.args.next.now c.past-end.result c.args.c c.requires c.past-end.ensures.place c.past-end.ensures.rest in
    record {
      kind = c.kind_of_word.ensures ∙ ap (word_kind c.args.c) (c.before-2.ensures (c.args.c ∷ run goes_on (ahead c.args.next.now)) p.characters);
      passes = p;
    }
