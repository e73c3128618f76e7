use Rattle.std.specs.Prelude.{slice_get}
use Rattle.std.proofs.Common.{◌≡◌, Option, Some, sym, ap, ◌∙◌}
use Rattle.std.proofs.lemmas.Option.{slice_get-get_or}
use Rattle.document_tables.specs.Links.{agrees_with}
use Rattle.document_tables.specs.declared.links.LinkKeys.{LinkKeys}
use Rattle.document_tables.proofs.links.agrees_with.Goals as goal

pub returns : goal.returns
returns c =
    let keys = c.args.table.now.keys.items in
    let there : slice_get keys c.args.number ≡ Some c.index.result.now =
    slice_get-get_or keys c.args.number c.index.result.now c.requires ∙ ap Some (sym c.index.ensures) in
    (c.in_ok-agrees.field-0, ap (λ (o : Option LinkKeys). agrees_with o c.args.row) there ∙ sym c.in_ok-agrees.ensures)
