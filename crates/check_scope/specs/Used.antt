-- Uses of one kind, and what the code asks of them.
use Rattle.std.specs.Prelude.{Bool, ◌||◌, if◌then◌else◌, List}
use Rattle.silq_tree.specs.declared.node.Mark.{Mark}
use Rattle.silq_tree.specs.declared.node.ParamNode.{ParamNode}
use Rattle.silq_types.specs.Types.{is_lifted}
use Rattle.silq_types.specs.declared.need.Need.{Need}
use Rattle.silq_types.specs.declared.need.Need.TheVariants as needs
use Rattle.check_scope.specs.declared.uses.Use.{Use}
use Rattle.silq_types.specs.Calls.{is_consumed}
use Rattle.check_scope.specs.Uses.{is_only_held, both_consume, consume_and_hold}

-- whether a use is of this kind
abbrev pub is_used : Need → Need → Bool
is_used needs.Consumed = is_consumed
is_used needs.Held = is_only_held

-- whether one of two lists consumes a part that overlaps one which the other uses so
abbrev pub uses_clash : Need → List Use → List Use → Bool
uses_clash needs.Consumed = both_consume
uses_clash needs.Held = consume_and_hold

-- what a call asks of the argument for this parameter of a function with this mark
abbrev pub node_need : Mark → ParamNode → Need
node_need m p = if p.held || is_lifted m then needs.Held else needs.Consumed
