use Rattle.silqc.proofs.Exactly.{for_answer, for_fault}
use Rattle.silqc.proofs.Planned.{for_plan}
use Rattle.silqc.proofs.Ran.{for_run}
use Rattle.silqc.proofs.silqc.Goals as goal

pub returns-clause-at_fault : goal.returns-clause-at_fault
returns-clause-at_fault g c = for_fault c.args.words.now (g.F.Files.held c.args.files.now) _ _ c.run-status.result c.run-status.ensures.tells

pub returns-clause-answered : goal.returns-clause-answered
returns-clause-answered g c = for_answer c.args.words.now (g.F.Files.held c.args.files.now) _ _ c.run-status.result c.run-status.ensures.can_end c.run-status.ensures.tells

pub returns-clause-planned : goal.returns-clause-planned
returns-clause-planned g c = for_plan c.args.words.now (g.F.Files.held c.args.files.now) _ _ c.run-status.result c.run-status.ensures.tells

pub returns-clause-ran : goal.returns-clause-ran
returns-clause-ran g c = for_run c.args.words.now (g.F.Files.held c.args.files.now) _ _ c.run-status.result c.run-status.ensures.tells
