-- The written text of a report.
use Rattle.std.specs.Prelude.{ℕ, List, ◌++◌, codes, decimal}
use Rattle.plan_report.specs.declared.report.Report.{Report}

-- `wires 34` and a line feed
abbrev pub report_line : List ℕ → ℕ → List ℕ
report_line word number = word ++ (codes " " ++ (decimal number ++ codes "\n"))

-- the seven lines
abbrev pub report_text : Report → List ℕ
report_text report =
    report_line (codes "wires") report.wires
    ++ (report_line (codes "steps") report.steps
    ++ (report_line (codes "outcomes") report.outcomes
    ++ (report_line (codes "level") report.level
    ++ (report_line (codes "moves") report.moves
    ++ (report_line (codes "width") report.width
    ++ report_line (codes "gates") report.gates)))))
