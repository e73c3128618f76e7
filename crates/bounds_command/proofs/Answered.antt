-- From the answers of calls to the reply on two tables.
use Rattle.std.proofs.Common.{◌≡◌, ℕ, List, [], ◌∷◌, map, Result, Ok, Err, refl, sym, ◌∙◌, ap, ap₂, subst, inl, inr}
use Rattle.std.specs.Prelude.{IfOk, All}
use Rattle.csv_rows.specs.declared.rows.TableRow.{TableRow}
use Rattle.csv_rows.specs.Rows.{AreLinedRowsOf, LinedRow, lined_of}
use Rattle.document_tables.specs.declared.fault.LineFault.{LineFault}
use Rattle.document_tables.specs.declared.fault.TableFile.{TableFile}
use Rattle.document_tables.specs.Tables.{LineRow, line_row, row_view}
use Rattle.document_tables.specs.Documents.{DocumentText, FileFault, document_of}
use Rattle.document_tables.specs.Ways.{AreBranchesOf}
use Rattle.tree_network.specs.Networks.{IsNetwork}
use Rattle.tree_network.specs.declared.network.Network.{Network}
use Rattle.tree_bounds.specs.Tables.{IsTableOf}
use Rattle.tree_bounds.specs.declared.analysis.Table.{Table}
use Rattle.tree_bounds.proofs.guarantee.Caused.{none_has_a_cause}
use Rattle.tree_bounds.proofs.guarantee.LoadOrLimit.{none_has_a_load_or_limit}
use Rattle.tree_bounds.proofs.guarantee.Rooted.{none_has_a_root}
use Rattle.bounds_report.specs.Ranges.{HasDeadlineInRange}
use Rattle.bounds_report.specs.declared.rows.BranchRow.{BranchRow}
use Rattle.bounds_report.specs.declared.rows.Report.{Report}
use Rattle.bounds_command.specs.declared.form.Form.{Form}
use Rattle.bounds_command.specs.Replies.{has_fault}
use Rattle.bounds_command.specs.Reports.{IsNetworkOf, IsReportOf, status_with}
use Rattle.replies.specs.declared.answer.Answer.{Answer}
use Rattle.bounds_command.specs.View.{reply_of, text_in}
use Rattle.bounds_command.specs.OnTables.{Tables, named, lined, AreRowsOfBoth, Gives, IsReplyOnDocument, IsReplyOn}
use Rattle.rounded_runs.proofs.Runs.{written_runs_are_runs}
use Rattle.bounds_command.proofs.Kept.{reports_are_kept}
use Rattle.bounds_command.proofs.Summed.{bounds_are_sums}
use Rattle.bounds_command.proofs.Texts.{written_of}

-- ---- on a document
pub reported : {E : Type 0} (d : DocumentText) (net : Network) (form : Form) (table : Table) (report : Report)
    (answer : Result Answer E)
    → IsNetwork net → IsTableOf net table → IsReportOf d net table report
    → All (λ (row : BranchRow). HasDeadlineInRange row.deadline) report.branches.items
    → IfOk answer (λ r. reply_of r ≡ record { status = status_with report; bytes = text_in form report })
    → IfOk answer (λ r. IsReplyOnDocument d net form (reply_of r))
reported d net form table report (Err e) w bounded tells timed h = tt
reported d net form table report (Ok r) w bounded tells timed h =
    inr record {
      table = table;
      bounded = bounded;
      report = report;
      tells = tells;
      sums = bounds_are_sums d net table report bounded tells;
      guarantees = reports_are_kept d net table report w bounded tells timed;
      written = λ overhead texts keys run rounded keeps. reports_are_kept d net table report w bounded tells timed run
          (written_runs_are_runs overhead texts keys net run rounded keeps);
      causes = λ s q inside queue none. none_has_a_cause net table s q bounded inside queue none;
      roots = λ s q inside queue none. none_has_a_root net table s q w bounded inside queue none;
      loads = λ s q inside queue none. none_has_a_load_or_limit net table s q w bounded inside queue none;
      is = h;
    }

-- ---- on rows
lined_all : (rows : List TableRow) → map lined (map row_view rows) ≡ map lined_of rows
lined_all [] = refl
lined_all (row ∷ rows) = ap (λ rest. lined_of row ∷ rest) (lined_all rows)

lined_back : (rows : List LinedRow) → map lined (map line_row rows) ≡ rows
lined_back [] = refl
lined_back (row ∷ rows) = ap (λ rest. row ∷ rest) (lined_back rows)

pub rows_of_both : (t : Tables) (ports : List TableRow) (links : List LinedRow) → AreLinedRowsOf t.ports (map lined_of ports)
    → AreLinedRowsOf t.links links → AreRowsOfBoth t (map row_view ports) (map line_row links)
rows_of_both t ports links h k =
    let P : List LinedRow → Type 0 = λ rows. AreLinedRowsOf t.ports rows in
    let L : List LinedRow → Type 0 = λ rows. AreLinedRowsOf t.links rows in
    record { ports_rows = subst P (sym (lined_all ports)) h; links_rows = subst L (sym (lined_back links)) k }

pub on_document : {E : Type 0} (t : Tables) (overhead : ℕ) (form : Form) (ports links : List LineRow)
    (d : DocumentText) (net : Network)
    (answer : Result Answer E) → AreRowsOfBoth t ports links → document_of overhead ports links ≡ Ok d
    → AreBranchesOf overhead links d → IsNetworkOf d net
    → IsNetwork net → IfOk answer (λ r. IsReplyOnDocument d net form (reply_of r))
    → IfOk answer (λ r. IsReplyOn t overhead form (reply_of r))
on_document t overhead form ports links d net (Err e) rows reads ways is w h = tt
on_document t overhead form ports links d net (Ok r) rows reads ways is w h =
    let gives : Gives t overhead d net =
    record { port_rows = ports; link_rows = links; rows = rows; reads = reads; network = is; in_range = w; written = written_of overhead ports links d net reads is; ways = ways } in
    elim h [
      | inl ring ↦ inr (inl record { document = d; net = net; gives = gives; holds = ring })
      | inr report ↦ inr (inr record { document = d; net = net; gives = gives; holds = report })
    ]

-- the call that tells the fault got what the read answered
pub on_fault : {E : Type 0} (t : Tables) (overhead : ℕ) (form : Form) (ports links : List LineRow)
    (file got_file : TableFile)
    (fault got_fault : LineFault) (answer : Result Answer E) → AreRowsOfBoth t ports links
    → document_of overhead ports links ≡ Err (record { file = file; fault = fault }) → got_file ≡ file
    → got_fault ≡ fault
    → IfOk answer (λ r. reply_of r ≡ has_fault (named t.ports_file t.links_file got_file) got_fault)
    → IfOk answer (λ r. IsReplyOn t overhead form (reply_of r))
on_fault t overhead form ports links file got_file fault got_fault (Err e) rows reads ef ex h = tt
on_fault t overhead form ports links file got_file fault got_fault (Ok r) rows reads ef ex h =
    let both : FileFault = record { file = file; fault = fault } in
    let is = h ∙ ap₂ (λ (f : TableFile) (x : LineFault). has_fault (named t.ports_file t.links_file f) x) ef ex in
    inl record { port_rows = ports; link_rows = links; rows = rows; fault = both; first = reads; is = is }
