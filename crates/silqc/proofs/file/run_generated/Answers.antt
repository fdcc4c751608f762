use Rattle.std.proofs.Common.{◌≡◌, ◌≤◌, ℕ, List, [], codes, length, subst, sym, ◌∙◌, arith}
use Rattle.flat_compile.specs.declared.output.Output.TheVariants.{Report}
use Rattle.silq_gen.specs.Generated.{generated}
use Rattle.silq_gen.proofs.Told.{short}
use Rattle.silqc.specs.Asked.{compile}
use Rattle.silqc.specs.Ending.{Tells}
use Rattle.silqc.proofs.file.run_generated.Goals as goal

pub compiled-requires-clause-short : goal.compiled-requires-clause-short
compiled-requires-clause-short g c =
    let is : c.deref.result.now ≡ generated c.args.number c.args.size = c.deref.ensures ∙ c.in-Ok.ensures in
    let few = short c.args.number c.args.size c.requires in
    subst (λ (text : List ℕ). length text ≤ 1048576) (sym is) (omega (arith, few))

pub returns-clause-tells : goal.returns-clause-tells
returns-clause-tells g c =
    let is : c.deref.result.now ≡ generated c.args.number c.args.size = c.deref.ensures ∙ c.in-Ok.ensures in
    subst (λ (text : List ℕ). Tells (g.S.Sink.put_so_far c.args.out.now) (g.S.Sink.put_so_far c.compiled.new.out) c.compiled.result (compile Report 4096) (record { text = text; entry = codes "main"; statics = [] }))
    is c.compiled.ensures.tells
