use Rattle.std.proofs.lemmas.Result.{on_err_weaker}
use Rattle.std.proofs.Common.{◌≡◌, ◌++◌, List, Bool, [], take, ap, append_assoc, ◌∙◌}
use Rattle.std.specs.Prelude.{codes}
use Rattle.qasm_write.proofs.Parts.{broke_second}
use Rattle.table_write.specs.Lines.{amp_text, bits_text, circuit_line, source_line}
use Rattle.table_write.proofs.table.put_circuit_line.Goals as goal

pub returns-clause-broken : goal.returns-clause-broken
returns-clause-broken g c =
    let shown = c.split_at.result.0.now in
    let others = c.split_at.result.1.now in
    let joined : (bits_text shown ++ (codes " " ++ [])) ++ source_line (others, c.args.x) ≡ circuit_line c.args.outs (c.args.bits.now, c.args.x) =
    append_assoc (bits_text shown) (codes " " ++ []) (source_line (others, c.args.x))
    ∙ ap (λ (bits : List Bool). bits_text bits ++ (codes " " ++ (bits_text others ++ amp_text c.args.x))) c.split_at.ensures.front
    ∙ ap (λ (bits : List Bool). bits_text (take c.args.outs c.args.bits.now) ++ (codes " " ++ (bits_text bits ++ amp_text c.args.x))) c.split_at.ensures.back in
    on_err_weaker c.put_source_line.result
    (λ h. broke_second _ _ _ (bits_text shown ++ (codes " " ++ [])) (source_line (others, c.args.x)) _ joined c.in_ok-put_pieces.ensures.ok h)
    c.put_source_line.ensures.broken
