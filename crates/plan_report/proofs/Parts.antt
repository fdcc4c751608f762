-- The lines of a report, from its pieces.
use Rattle.std.proofs.Common.{◌≡◌, ℕ, List, ◌++◌, refl, sym, ◌∙◌, ap, append_assoc}
use Rattle.std.specs.Prelude.{codes, decimal}
use Rattle.plan_report.specs.declared.report.Report.{Report}
use Rattle.plan_report.specs.Lines.{report_line, report_text}

-- a line and what comes behind it, as pieces give them
abbrev pub line_pieces : List ℕ → ℕ → List ℕ → List ℕ
line_pieces word number rest = word ++ (codes " " ++ (decimal number ++ (codes "\n" ++ rest)))

pub line_joins : (word : List ℕ) (number : ℕ) (rest text : List ℕ) → rest ≡ text → line_pieces word number rest ≡ report_line word number ++ text
line_joins word number rest text is =
    ap (line_pieces word number) is
    ∙ ap (λ w. word ++ (codes " " ++ w)) (sym (append_assoc (decimal number) (codes "\n") text))
    ∙ sym (append_assoc word (codes " " ++ (decimal number ++ codes "\n")) text)

-- the pieces of a report
abbrev pub report_pieces : Report → List ℕ
report_pieces r =
    line_pieces (codes "wires") r.wires
    (line_pieces (codes "steps") r.steps
    (line_pieces (codes "outcomes") r.outcomes
    (line_pieces (codes "level") r.level
    (line_pieces (codes "moves") r.moves
    (line_pieces (codes "width") r.width (report_line (codes "gates") r.gates))))))

pub report_parts : (r : Report) → report_pieces r ≡ report_text r
report_parts r =
    let gates = report_line (codes "gates") r.gates in
    let width = line_joins (codes "width") r.width gates gates refl in
    let moves = line_joins (codes "moves") r.moves _ _ width in
    let level = line_joins (codes "level") r.level _ _ moves in
    let outcomes = line_joins (codes "outcomes") r.outcomes _ _ level in
    let steps = line_joins (codes "steps") r.steps _ _ outcomes in
    line_joins (codes "wires") r.wires _ _ steps
