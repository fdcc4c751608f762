use Rattle.std.proofs.Common.{refl, ap, sym, ◌∙◌, cond}
use Rattle.std.specs.Prelude.{codes}
use lib.Utf8.{encode}
use Rattle.qasm_tokens.specs.declared.kind.Kind.TheVariants as k
use Rattle.qasm_tokens.proofs.Spelled.{chars-bytes_eq}
use Rattle.qasm_tokens.proofs.words.kind_of_file.Goals as goal

pub returns-then-eq : goal.returns-then-eq
unfolding encode
returns-then-eq c = ap (λ b. cond b k.Library k.OtherFile) (sym c.if-eq.true ∙ c.eq.ensures ∙ sym (chars-bytes_eq (codes "\"qelib1.inc\"") c.args.text.now c.utf8.text refl))

pub returns-else-eq : goal.returns-else-eq
unfolding encode
returns-else-eq c = ap (λ b. cond b k.Library k.OtherFile) (sym c.if-eq.false ∙ c.eq.ensures ∙ sym (chars-bytes_eq (codes "\"qelib1.inc\"") c.args.text.now c.utf8.text refl))
