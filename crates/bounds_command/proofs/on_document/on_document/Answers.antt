use Rattle.std.proofs.Common.{refl}
use Rattle.document_tables.specs.Documents.{document_view}
use Rattle.bounds_command.specs.Reports.{branch_text}
use Rattle.bounds_command.proofs.Answered.{reported}
use Rattle.bounds_command.proofs.Deadlines.{deadlines_in_range}
use Rattle.bounds_command.proofs.on_document.on_document.Goals as goal

pub reported-requires : goal.reported-requires
reported-requires c =
    let d = document_view c.args.document.now in
    deadlines_in_range c.in_ok-report-in-Ok.report.branches.items c.args.document.now.branches.items
    (branch_text d c.args.document.now.network c.in-Ok.table) (λ b. refl) c.in_ok-report-in-Ok.ensures.branches
    (λ k e h. (c.requires.ends k e h).deadline)

pub returns-in_ok-report-in-Ok : goal.returns-in_ok-report-in-Ok
returns-in_ok-report-in-Ok c =
    reported (document_view c.args.document.now) c.args.document.now.network c.args.form c.in-Ok.table
    c.in_ok-report-in-Ok.report
    c.reported.result c.requires.network c.in-Ok.ensures.table c.in_ok-report-in-Ok.ensures
    (deadlines_in_range c.in_ok-report-in-Ok.report.branches.items c.args.document.now.branches.items
    (branch_text (document_view c.args.document.now) c.args.document.now.network c.in-Ok.table) (λ b. refl)
    c.in_ok-report-in-Ok.ensures.branches (λ k e h. (c.requires.ends k e h).deadline)) c.reported.ensures
