use Rattle.std.proofs.Common.{List}
use Rattle.rational.specs.Extended.{Ext}
use Rattle.net_cells.specs.Means.{HaveNumbers}
use Rattle.cell_eval.specs.Tallies.{AreAdded}
use Rattle.cell_eval.proofs.PathSums.{delays_to}
use Rattle.cell_eval.proofs.bounds.delays.Given as goal

abbrev pub invariant-loop-hop : goal.invariant-loop-hop
invariant-loop-hop g l =
    (xs : List Ext) → HaveNumbers (g.T.Table.at l.table) (delays_to l.flow l.hop) xs → AreAdded xs l.all
