use Rattle.std.proofs.Common.{List}
use Rattle.rational.specs.Extended.{Ext}
use Rattle.net_cells.specs.Means.{with_links}
use Rattle.cell_eval.specs.Tallies.{AreAdded}
use Rattle.cell_eval.proofs.PathSums.{links_to}
use Rattle.cell_eval.proofs.bounds.with_path.Given as goal

abbrev pub invariant-loop-hop : goal.invariant-loop-hop
invariant-loop-hop l =
    (xs : List Ext) → AreAdded xs l.fn.numbers → AreAdded (with_links xs (links_to l.net l.flow l.hop)) l.all
