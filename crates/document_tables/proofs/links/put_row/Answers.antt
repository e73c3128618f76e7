use Rattle.std.proofs.Common.{Ok, Err, sym, subst}
use Rattle.document_rows.specs.LinkRows.{link_view}
use Rattle.document_tables.specs.declared.links.LinkKeys.{LinkKeys}
use Rattle.document_tables.specs.LinkTrees.{MakesLink}
use Rattle.document_tables.specs.Links.{links_view, with_link, with_text, number_or_next}
use Rattle.document_tables.specs.Ports.{ports_view}
use Rattle.document_tables.specs.Tables.{Makes}
use Rattle.document_tables.proofs.LinkSteps.{no_link, to_branch}
use Rattle.document_tables.proofs.Steps.{handed_on}
use Rattle.document_tables.proofs.links.put_row.Goals as goal

pub returns-in_err-link-clause-value : goal.returns-in_err-link-clause-value
returns-in_err-link-clause-value c =
    let ports = ports_view c.args.ports.now in
    let before = links_view c.args.table.now in
    let name = c.args.name.now in
    let text = link_view c.args.row.now in
    let made = links_view c.add_link.new.table in
    let next = number_or_next before c.args.number in
    let m = subst (λ (keys : LinkKeys). MakesLink (Err c.in_err-link.field-0.0) (with_link before name c.args.number keys) made next) c.keys_of.ensures c.in_err-link.ensures.value in
    handed_on c.from_residual.result c.in_err-link.field-0.0 (with_text ports c.args.overhead name c.args.number before text) made c.from_residual.ensures.1
    (no_link ports c.args.overhead before name c.args.number text c.in_err-link.field-0.0 made made next m)

pub returns-clause-value : goal.returns-clause-value
returns-clause-value c =
    let ports = ports_view c.args.ports.now in
    let before = links_view c.args.table.now in
    let name = c.args.name.now in
    let text = link_view c.args.row.now in
    let made = links_view c.add_link.new.table in
    let m = subst (λ (keys : LinkKeys). MakesLink (Ok c.in_ok-link.link) (with_link before name c.args.number keys) made (number_or_next before c.args.number)) c.keys_of.ensures c.in_ok-link.ensures.value in
    let same = to_branch ports c.args.overhead before name c.args.number text made c.in_ok-link.link m in
    subst (λ read. Makes c.add_branch.result read (links_view c.add_branch.new.table)) (sym same) c.add_branch.ensures.value
