use Rattle.std.proofs.Common.{◌++◌, List, ap, ◌∙◌}
use Rattle.std.specs.List.{flat_map}
use Rattle.std.specs.String.{string_bytes}
use Rattle.std.proofs.lemmas.List.{take_all}
use Rattle.bounds_report.specs.Lines.{branch_line}
use Rattle.bounds_report.specs.declared.rows.BranchRow.{BranchRow}
use Rattle.bounds_report.proofs.Shown.{lines_next}
use Rattle.bounds_report.proofs.lines.push_branches.Goals as goal

pub loop-row-preserved : goal.loop-row-preserved
loop-row-preserved c =
    lines_next branch_line (string_bytes c.args.into.now) (string_bytes c.loop-row.into) (string_bytes c.push_branch.new.into) c.args.rows.now c.loop-row.row-index _
    c.loop-row-test.true c.loop-row.invariant c.in_ok-push_branch.ensures

pub returns : goal.returns
returns c =
    c.loop-row.invariant ∙ ap (λ (rows : List BranchRow). string_bytes c.args.into.now ++ flat_map branch_line rows) (take_all c.loop-row.row-index c.args.rows.now c.loop-row-test.false)
