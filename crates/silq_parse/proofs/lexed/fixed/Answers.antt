use Rattle.std.proofs.Common.{sym, ◌∙◌}
use Rattle.silq_parse.specs.Spelling.{spelled}
use Rattle.silq_parse.proofs.Spelt.{is_spelled, none_is_none}
use Rattle.silq_parse.proofs.lexed.fixed.Goals as goal

pub unreachable-requires : goal.unreachable-requires
unreachable-requires c = none_is_none (spelled c.args.text.now) (is_spelled c.args.text.now c.utf8.text c.requires) (sym c.terminal.ensures ∙ c.in-None.is)
