use Rattle.std.proofs.Common.{◌≡◌, List, map, ap, sym, ◌∙◌, subst}
use Rattle.std.specs.Prelude.{IfOk}
use Rattle.std.specs.List.{range_with_len}
use Rattle.net_cells.specs.declared.cell.Cell.{Cell}
use Rattle.net_cells.specs.declared.cell.Kind.{Kind}
use Rattle.net_cells.specs.declared.cell.Kind.TheVariants.{Total}
use Rattle.net_cells.specs.Cells.{cell_of}
use Rattle.net_cells.specs.Formulas.{leaves}
use Rattle.net_cells.specs.CellFormulas.{formula_of}
use Rattle.net_cells.proofs.LeavesOf.{sum_leaves}
use Rattle.net_cells.proofs.operand.operands.Goals as goal

pub returns-in-Higher : goal.returns-in-Higher
returns-in-Higher c =
    let net = c.args.net.now in
    let s = c.args.cell.a in
    let q = c.args.cell.b in
    subst (λ (zs : List Cell). IfOk c.of_numbers.result (λ v. v.items ≡ zs))
    (sym (sum_leaves (map (cell_of Total s) (range_with_len 0 q)))
    ∙ ap (λ (k : Kind). leaves (formula_of net k s q)) (sym c.in-Higher.is))
    c.of_numbers.ensures
