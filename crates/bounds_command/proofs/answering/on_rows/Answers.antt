use Rattle.std.proofs.Common.{map, refl}
use Rattle.csv_rows.specs.Coming.{rows_of}
use Rattle.document_tables.specs.Tables.{line_row, row_view}
use Rattle.document_tables.specs.Documents.{document_view}
use Rattle.bounds_command.specs.OnTables.{tables}
use Rattle.bounds_command.proofs.Answered.{rows_of_both, on_document, on_fault}
use Rattle.bounds_command.proofs.answering.on_rows.Goals as goal

pub returns-in-Ok : goal.returns-in-Ok
returns-in-Ok c = λ port_bytes link_bytes h k.
    let t = tables c.args.ports_file.now port_bytes c.args.links_file.now link_bytes in
    on_document t c.args.overhead c.args.form (map row_view c.args.ports.now) (map line_row (rows_of c.args.links.now))
    (document_view c.in-Ok.document) c.in-Ok.document.network c.on_document.result
    (rows_of_both t c.args.ports.now (rows_of c.args.links.now) h k) c.in-Ok.ensures.value c.in-Ok.ensures.ways record { ports = refl; links = refl }
    c.in-Ok.ensures.network c.on_document.ensures

pub returns-in-Err-Fault : goal.returns-in-Err-Fault
returns-in-Err-Fault c = λ port_bytes link_bytes h k.
    let t = tables c.args.ports_file.now port_bytes c.args.links_file.now link_bytes in
    let arm = c.in-Err-Fault in
    on_fault t c.args.overhead c.args.form (map row_view c.args.ports.now) (map line_row (rows_of c.args.links.now)) arm.file _
    arm.fault _
    c.has_fault.result (rows_of_both t c.args.ports.now (rows_of c.args.links.now) h k) (rw arm.field-0-is at arm.ensures.value)
    arm.file-is arm.fault-is c.has_fault.ensures
