use Rattle.std.proofs.Common.{sym, ap, ◌∙◌, ◌++◌, List}
use Rattle.std.specs.List.{flat_map}
use Rattle.std.proofs.lemmas.List.Concat.{flat_map-append}
use Rattle.net_cells.specs.declared.cell.Cell.{Cell}
use Rattle.net_cells.specs.Cells.{server_kinds, path_kinds}
use Rattle.cell_rules.specs.Finding.{kind_cells_of}
use Rattle.cell_rules.proofs.OfNumber.{are_cells}
use Rattle.cell_rules.proofs.of_number.cells_of.Goals as goal

pub returns : goal.returns
returns c =
    let f = kind_cells_of c.args.net.now c.args.number in
    are_cells c.args.net.now c.args.number c.push_kinds-2.new.cells.items c.keeps.ensures
    (c.in_ok-push_kinds-2.ensures
    ∙ ap (λ (front : List Cell). front ++ flat_map f path_kinds)
    (c.in_ok-push_kinds.ensures ∙ ap (λ (none : List Cell). none ++ flat_map f server_kinds) c.new-cells.ensures.items)
    ∙ sym (flat_map-append f server_kinds path_kinds))
