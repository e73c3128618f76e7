-- There is one report on what is found in a run, whatever table meets the equations.
use Rattle.std.proofs.Common.{◌++◌, length, ap, ◌∙◌}
use Rattle.std.specs.List.{flat_map, range_with_len}
use Rattle.net_cells.specs.Meanings.{CellTable}
use Rattle.net_cells.proofs.Tables.{tables_agree}
use Rattle.report_text.specs.Laws.{AgreeWherePrinted}
use Rattle.report_text.specs.Report.{head_line}
use Rattle.report_text.specs.RunReport.{run_line, worst_lines, peak_lines}
use Rattle.report_text.proofs.RunAgree.{same_worsts, same_peaks}
use Rattle.run_check.specs.check_report.CheckReport.{verdict_line, lawful_report_of}
use Rattle.run_check.specs.check_report.CheckLaws.{EquationsGiveOneCheckReport}

pub one_check_report : EquationsGiveOneCheckReport
unfolding lawful_report_of
one_check_report net order at other found a o m n =
    let same : AgreeWherePrinted net at other = λ c has printed. tables_agree net order at other a o m n c has in
    let head = head_line net ++ run_line found.packets found.end in
    let peaks = λ (t : CellTable). flat_map (peak_lines net t found.peaks) (range_with_len 0 (length net.servers)) in
    ap (λ ys. head ++ ys ++ peaks at ++ verdict_line net found.breach) (same_worsts net at other found.worst same)
    ∙ ap
    (λ ys.
    head ++ flat_map (worst_lines net other found.worst) (range_with_len 0 (length net.flows)) ++ ys
    ++ verdict_line net found.breach)
    (same_peaks net at other found.peaks same)
