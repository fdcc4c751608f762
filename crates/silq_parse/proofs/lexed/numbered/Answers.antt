use Rattle.silq_parse.proofs.Naming.{name_token}
use Rattle.silq_parse.proofs.lexed.numbered.Goals as goal

pub returns-in_ok-intern-in-Name-clause-token : goal.returns-in_ok-intern-in-Name-clause-token
returns-in_ok-intern-in-Name-clause-token c =
    λ more. name_token c.args.token.now.kind c.intern.new.self more c.in_ok-intern-in-Name.field-0 c.args.token.now.text.now _ c.in-Name.is c.intern.ensures.different c.in_ok-intern-in-Name.ensures.text
