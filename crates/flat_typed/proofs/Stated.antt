-- The laws on statements, as they are stated.
use Rattle.flat_typed.specs.Lemmas.{BlocksAreFine}
use Rattle.flat_typed.specs.StatementLaws.{PhaseIsFine, CallIsFine, ForgetValueIsFine, UpdateIsFine, NextIsFine, LoopIsFine, StaticChoiceIsFine}
use Rattle.flat_typed.proofs.Blocks.{blocks_are_fine}
use Rattle.flat_typed.proofs.Rounds.{statements_next, loop_is_fine, static_choice_is_fine}
use Rattle.flat_typed.proofs.Phases.{phase_is_fine}
use Rattle.flat_typed.proofs.Calling.{every_call_is_fine}
use Rattle.flat_typed.proofs.Comparing.{forget_value_is_fine}
use Rattle.flat_typed.proofs.Updating.{update_is_fine}

pub blocks : BlocksAreFine
blocks = blocks_are_fine

pub phases : PhaseIsFine
phases = phase_is_fine

pub calls : CallIsFine
calls = every_call_is_fine

pub forgets : ForgetValueIsFine
forgets = forget_value_is_fine

pub updates : UpdateIsFine
updates = update_is_fine

pub nexts : NextIsFine
nexts = statements_next

pub loops : LoopIsFine
loops = loop_is_fine

pub static_choices : StaticChoiceIsFine
static_choices = static_choice_is_fine
