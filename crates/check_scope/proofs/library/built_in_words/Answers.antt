use Rattle.std.proofs.Common.{◌≡◌, ◌+◌, ◌++◌, List, ◌∙◌, sym, ap, append_assoc, drop}
use Rattle.silq_tree.specs.declared.node.NameId.{NameId}
use Rattle.silq_types.specs.declared.built_in.BuiltIn.{BuiltIn}
use Rattle.silq_types.specs.Words.{built_ins, named, with_word, words_from, words_of}
use Rattle.check_scope.proofs.Named.{words_more}
use Rattle.check_scope.proofs.library.built_in_words.Goals as goal
use Rattle.check_scope.proofs.library.built_in_words.Goals.{in-Some+in_ok-push, in_default}

pub loop-number-preserved : goal.loop-number-preserved
loop-number-preserved c =
    let more = words_more c.args.names.now c.loop-number.number c.text.result.now c.text.ensures in
    let at_first : c.loop-number.words.items ++ with_word c.loop-number.number (named built_ins c.text.result.now) (words_from (c.loop-number.number + 1) (drop (c.loop-number.number + 1) c.args.names.now)) ≡ words_of c.args.names.now =
    ap (λ (ws : List (NameId × BuiltIn)). c.loop-number.words.items ++ ws) (sym more) ∙ c.loop-number.invariant in
    elim c.match-word_of.branch [
      | in-Some+in_ok-push w ↦
          rw (w.words-is, w.in_ok-push.ensures.items, append_assoc) (rw (← w.in-Some.ensures) at at_first)
      | in_default w ↦ rw w.words-is (rw (← w.in_default.ensures) at at_first)
    ]
