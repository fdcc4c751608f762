use Rattle.qasm_read.proofs.Spaces.{at_end, at_first, one_word}
use Rattle.qasm_read.proofs.line.between_spaces.Goals as goal

pub loop-word-init : goal.loop-word-init
loop-word-init c = rw c.new-words.ensures.items (at_first c.args.text.now c.utf8.text)

pub cut-requires-text-text : goal.cut-requires-text-text
cut-requires-text-text c κs = c.loop-word.invariant.text

pub loop-word-preserved : goal.loop-word-preserved
loop-word-preserved c =
    rw c.in_ok-push.ensures.items
    (one_word c.args.text.now c.loop-word.words.items c.loop-word.left.now c.in-Some.word c.in-Some.rest.now c.in-Some.ensures.text c.in-Some.ensures.some c.loop-word.invariant)

pub push-requires-2-text-value : goal.push-requires-2-text-value
push-requires-2-text-value c κs = c.loop-word.invariant.text

pub returns : goal.returns
returns c =
    rw c.in_ok-push-2.ensures.items
    (at_end c.args.text.now c.loop-word.words.items c.loop-word.left c.in_default.ensures.none c.loop-word.invariant)
