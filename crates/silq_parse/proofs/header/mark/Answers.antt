use Rattle.std.proofs.Common.{refl, arith}
use Rattle.std.proofs.lemmas.Grind.{common_steps}
use Rattle.silq_grammar.specs.Grammar.{no_mark, lifted, qfree, mfree}
use Rattle.silq_parse.proofs.header.mark.Goals as goal

pub returns-in-Lifted-clause-reads : goal.returns-in-Lifted-clause-reads
returns-in-Lifted-clause-reads c = record { derivation = lifted c.in-Fixed._at; spelled = grind (arith, common_steps); named = refl }

pub returns-in-Qfree-clause-reads : goal.returns-in-Qfree-clause-reads
returns-in-Qfree-clause-reads c = record { derivation = qfree c.in-Fixed._at; spelled = grind (arith, common_steps); named = refl }

pub returns-in-Mfree-clause-reads : goal.returns-in-Mfree-clause-reads
returns-in-Mfree-clause-reads c = record { derivation = mfree c.in-Fixed._at; spelled = grind (arith, common_steps); named = refl }

pub returns-in_default-clause-reads : goal.returns-in_default-clause-reads
returns-in_default-clause-reads c = record { derivation = no_mark; spelled = refl; named = refl }
