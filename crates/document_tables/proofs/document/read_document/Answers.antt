use Rattle.std.proofs.Common.{map, ap, sym, subst, length, arith}
use Rattle.std.proofs.lemmas.List.{length-map}
use Rattle.csv_rows.specs.Coming.{rows_of}
use Rattle.document_tables.specs.Grids.{grid_port, grid_link, port_on_grid}
use Rattle.document_tables.specs.Documents.{DocumentText}
use Rattle.document_tables.specs.Links.{links_view}
use Rattle.document_tables.specs.Ports.{ports_view}
use Rattle.document_tables.specs.Tables.{line_row, row_view}
use Rattle.document_tables.specs.Ways.{AreBranchesOf}
use Rattle.document_tables.proofs.TableRanges.{ports_in_range, links_in_range}
use Rattle.document_tables.proofs.LinkFacts.{links_are}
use Rattle.document_tables.proofs.BranchWays.{branches_are}
use Rattle.document_tables.proofs.ShortNodes.{short_trees}
use Rattle.document_tables.proofs.NetworkFacts.{network_range, branches_range, same_length, links_length}
use Rattle.document_tables.proofs.document.read_document.Goals as goal

pub document_with-requires-clause-ports : goal.document_with-requires-clause-ports
document_with-requires-clause-ports c = (ports_in_range (map row_view c.args.port_rows.now) (ports_view c.in-Ok.ports) c.in-Ok.ensures).0

pub document_with-requires-clause-keys : goal.document_with-requires-clause-keys
document_with-requires-clause-keys c =
    (links_in_range (ports_view c.in-Ok.ports) c.args.overhead (map line_row (rows_of c.args.link_rows.now)) (links_view c.in-Ok-read_links.table) c.in-Ok-read_links.ensures.value).0

pub document_with-requires-clause-short : goal.document_with-requires-clause-short
document_with-requires-clause-short c =
    let ports = ports_view c.in-Ok.ports in
    let table = c.in-Ok-read_links.table in
    let rows = map line_row (rows_of c.args.link_rows.now) in
    let read = c.in-Ok-read_links.ensures in
    let texts = ports_in_range (map row_view c.args.port_rows.now) ports c.in-Ok.ensures in
    let keys = links_in_range ports c.args.overhead rows (links_view table) read.value in
    short_trees ports c.args.overhead table texts.1 keys.0 (links_are ports c.args.overhead rows (links_view table) read.value) read.kept

pub returns-in-Ok-document_with-clause-network : goal.returns-in-Ok-document_with-clause-network
returns-in-Ok-document_with-clause-network c =
    let ports = ports_view c.in-Ok.ports in
    let links = links_view c.in-Ok-read_links.table in
    let port_rows = map row_view c.args.port_rows.now in
    let link_rows = map line_row (rows_of c.args.link_rows.now) in
    let texts = ports_in_range port_rows ports c.in-Ok.ensures in
    let keys = links_in_range ports c.args.overhead link_rows links c.in-Ok-read_links.ensures.value in
    let are = links_are ports c.args.overhead link_rows links c.in-Ok-read_links.ensures.value in
    let same = c.in-Ok-document_with.ensures in
    network_range ports c.args.overhead c.in-Ok-document_with.document.network (ap (λ (d : DocumentText). d.ports) same) links c.requires.overhead texts.1 texts.0 keys.0 are (ap (λ (d : DocumentText). d.links) same)

pub returns-in-Ok-document_with-clause-branches : goal.returns-in-Ok-document_with-clause-branches
returns-in-Ok-document_with-clause-branches c =
    let ports = ports_view c.in-Ok.ports in
    let links = links_view c.in-Ok-read_links.table in
    let document = c.in-Ok-document_with.document in
    let are = links_are ports c.args.overhead (map line_row (rows_of c.args.link_rows.now)) links c.in-Ok-read_links.ensures.value in
    let same = c.in-Ok-document_with.ensures in
    let said = links_in_range ports c.args.overhead (map line_row (rows_of c.args.link_rows.now)) links c.in-Ok-read_links.ensures.value in
    branches_range ports c.args.overhead document.network (ap (λ (d : DocumentText). d.ports) same) links are (ap (λ (d : DocumentText). d.links) same) said.1 document.branches.items (ap (λ (d : DocumentText). d.branches) same)

pub returns-in-Ok-document_with-clause-names : goal.returns-in-Ok-document_with-clause-names
returns-in-Ok-document_with-clause-names c =
    let ports = ports_view c.in-Ok.ports in
    let links = links_view c.in-Ok-read_links.table in
    let d = c.in-Ok-document_with.document in
    let texts = ports_in_range (map row_view c.args.port_rows.now) ports c.in-Ok.ensures in
    let are = links_are ports c.args.overhead (map line_row (rows_of c.args.link_rows.now)) links c.in-Ok-read_links.ensures.value in
    let same = c.in-Ok-document_with.ensures in
    let port_names = ap (λ (d : DocumentText). length d.port_names) same in
    let link_names = ap (λ (d : DocumentText). length d.link_names) same in
    let on_grid = ap (λ (d : DocumentText). length d.links) same in
    let b = same_length grid_port port_on_grid d.network.ports.items ports.ports (ap (λ (d : DocumentText). d.ports) same) in
    let f = length-map d.network.links.items grid_link in
    let g = links_length ports.ports c.args.overhead links.branches 0 links.keys in
    record { ports = omega (arith, port_names, b, texts.2); links = omega (arith, link_names, on_grid, f, g, are.names) }

pub returns-in-Ok-document_with-clause-ways : goal.returns-in-Ok-document_with-clause-ways
returns-in-Ok-document_with-clause-ways c =
    let ports = ports_view c.in-Ok.ports in
    let rows = map line_row (rows_of c.args.link_rows.now) in
    let read = c.in-Ok-read_links.ensures in
    subst (AreBranchesOf c.args.overhead rows) (sym c.in-Ok-document_with.ensures) (branches_are ports c.args.overhead c.in-Ok-read_links.table read.kept rows read.value)
