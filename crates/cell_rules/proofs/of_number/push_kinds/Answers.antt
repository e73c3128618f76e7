use Rattle.std.proofs.Common.{take}
use Rattle.std.specs.List.{flat_map}
use Rattle.std.proofs.lemmas.List.{get_or_default}
use Rattle.net_cells.proofs.Growing.{behind, flat_element}
use Rattle.cell_rules.specs.Finding.{kind_cells_of}
use Rattle.cell_rules.proofs.of_number.push_kinds.Goals as goal

pub loop-kind-preserved : goal.loop-kind-preserved
loop-kind-preserved c =
    let f = kind_cells_of c.args.net.now c.args.number in
    let kinds = c.args.kinds.now in
    let i = c.loop-kind.kind-index in
    behind c.args.cells.now.items c.loop-kind.cells.items c.push_kind.new.cells.items _
    (flat_map f (take i kinds)) _
    c.loop-kind.invariant c.in_ok-push_kind.ensures
    (flat_element f kinds i _ c.loop-kind-test.true (get_or_default kinds i _ _ c.loop-kind-test.true))
