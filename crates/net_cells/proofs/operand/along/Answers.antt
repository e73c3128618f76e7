use Rattle.std.proofs.Common.{◌≡◌, ◌+◌, ◌-◌, ℕ, List, map, ap, sym, ◌∙◌, subst, arith}
use Rattle.std.specs.Prelude.{IfOk}
use Rattle.std.specs.List.{range_with_len}
use Rattle.net_cells.specs.declared.cell.Cell.{Cell}
use Rattle.net_cells.specs.declared.cell.Kind.TheVariants.{Residual}
use Rattle.net_cells.specs.Numbered as at
use Rattle.net_cells.specs.Cells.{cell_of}
use Rattle.net_cells.proofs.LeavesOf.{served_leaves}
use Rattle.net_cells.proofs.operand.along.Goals as goal
use Rattle.net_cells.proofs.operand.along.Goals.{then-count-eq0, else-count-eq0}

pub returns : goal.returns
returns c =
    let net = c.args.net.now in
    let i = c.args.cell.a in
    let most : c.if-count-eq0.most ≡ at.hops net i - 1 + 1 =
    elim c.if-count-eq0.branch [
      | then-count-eq0 w ↦ omega (arith, w.most-is, w.if-count-eq0.true, c.hops-count.ensures.hops)
      | else-count-eq0 w ↦ omega (arith, w.most-is, w.if-count-eq0.false, c.hops-count.ensures.hops)
    ] in
    subst (λ (zs : List Cell). IfOk c.of_numbers.result (λ v. v.items ≡ zs))
    (ap (λ (n : ℕ). map (cell_of Residual i) (range_with_len 0 n)) most ∙ sym (served_leaves net i (at.hops net i - 1)))
    c.of_numbers.ensures
