use Rattle.std.proofs.Common.{take}
use Rattle.std.specs.List.{flat_map}
use Rattle.net_cells.specs.Order.{server_cells}
use Rattle.cell_rules.specs.Marks.{MarksCandidates, MarksReached, IsSearched}
use Rattle.cell_rules.proofs.finding.touched_cells.Given as goal

abbrev pub invariant-loop-place : goal.invariant-loop-place
invariant-loop-place l = record {
  searched : IsSearched l.old l.net (flat_map (server_cells l.net) (take l.place l.order)) l.flags.items l.touched.items;
  candidates : MarksCandidates l.site l.old l.net l.marks.items;
  reached : MarksReached l.old l.net (flat_map (server_cells l.net) (take l.place l.order)) l.marks.items;
}
