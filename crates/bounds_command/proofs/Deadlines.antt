-- Deadlines that are read can be printed.
use Rattle.std.proofs.Common.{◌≡◌, Option, Some, None, List, get_or, map, sym, ◌∙◌, ap, subst}
use Rattle.std.specs.Prelude.{slice_get, option_map, All}
use Rattle.std.proofs.lemmas.Option.{slice_get-map, slice_get-get_or, slice_get_within, get_or_from_slice_get}
use Rattle.table_cells.specs.declared.amount.Amount.{Amount}
use Rattle.document_tables.specs.declared.document.BranchEnd.{BranchEnd}
use Rattle.document_tables.specs.Documents.{end_view}
use Rattle.document_tables.specs.Grids.{BranchOnGrid}
use Rattle.document_tables.specs.Ranges.{IsTimeOrNone}
use Rattle.bounds_report.specs.declared.rows.BranchRow.{BranchRow}
use Rattle.bounds_report.specs.Ranges.{HasDeadlineInRange}
use Rattle.bounds_command.specs.Reports.{BranchText, branch_view}
use Rattle.bounds_command.proofs.Places.{in_map}

deadline_in_range : (d : Option Amount) → IsTimeOrNone d → HasDeadlineInRange d
deadline_in_range None h = tt
deadline_in_range (Some a) h = h.amount

pub deadlines_in_range : (rows : List BranchRow) (ends : List BranchEnd) (text : BranchOnGrid → BranchText)
    → ((b : BranchOnGrid) → (text b).deadline ≡ b.deadline) → map branch_view rows ≡ map text (map end_view ends)
    → All (λ (e : BranchEnd). IsTimeOrNone e.deadline) ends
    → All (λ (row : BranchRow). HasDeadlineInRange row.deadline) rows
deadlines_in_range rows ends text keeps same all = λ k d h.
    let row = get_or rows k d in
    let viewed : slice_get (map branch_view rows) k ≡ Some (branch_view row) =
    slice_get-map branch_view rows k ∙ ap (option_map branch_view) (slice_get-get_or rows k d h) in
    let one = in_map text (map end_view ends) k (branch_view row)
    (ap (λ (xs : List BranchText). slice_get xs k) (sym same) ∙ viewed) in
    let end = in_map end_view ends k one.of one.there in
    let within = slice_get_within ends k end.of end.there in
    let E : BranchEnd → Type 0 = λ e. IsTimeOrNone e.deadline in
    let time = subst E (get_or_from_slice_get ends k end.of end.of end.there) (all k end.of within) in
    let D : Option Amount → Type 0 = λ o. HasDeadlineInRange o in
    let is : end.of.deadline ≡ row.deadline =
    ap (λ (b : BranchOnGrid). b.deadline) end.is ∙ sym (keeps one.of) ∙ ap (λ (t : BranchText). t.deadline) one.is in
    subst D is (deadline_in_range end.of.deadline time)
