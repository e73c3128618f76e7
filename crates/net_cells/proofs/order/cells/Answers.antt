use Rattle.std.proofs.Common.{List, ◌++◌, ap, ◌∙◌}
use Rattle.std.specs.List.{flat_map}
use Rattle.std.proofs.lemmas.List.{take_all}
use Rattle.net_cells.specs.declared.cell.Cell.{Cell}
use Rattle.net_cells.specs.Cells.{path_kinds}
use Rattle.net_cells.specs.Order.{evaluation_order, server_cells, path_cells}
use Rattle.net_cells.proofs.order.cells.Goals as goal

pub returns : goal.returns
unfolding evaluation_order
returns c =
    let net = c.args.net.now in
    c.in_ok-push_all_paths.ensures
    ∙ ap (λ (xs : List Cell). xs ++ flat_map (path_cells net) path_kinds)
    (c.loop-server.invariant
    ∙ ap (flat_map (server_cells net)) (take_all c.loop-server.server-index c.args.order.now c.loop-server-test.false))
