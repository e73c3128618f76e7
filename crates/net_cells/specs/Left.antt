-- What a server leaves each of its queues, by its discipline: the cells and the numbers of the network of which the
-- queue's service is made. (Le Boudec and Thiran; Bouillard, Boyer and Le Corronc.)
use Rattle.std.specs.Prelude.{ℕ, List, length, map}
use Rattle.std.specs.List.{range_with_len}
use Rattle.residuals.specs.left.Left.{Left, all, above, share}
use Rattle.run_laws.specs.Servers.{Discipline, Fifo, Priority, Drr}
use Rattle.net_model.specs.Networks.{Net}
use Rattle.net_cells.specs.declared.cell.Cell.{Cell}
use Rattle.net_cells.specs.declared.cell.Kind.TheVariants.{Higher}
use Rattle.net_cells.specs.declared.left.Leaving.{Leaving}
use Rattle.net_cells.specs.declared.left.Leaving.TheVariants.{All, Above, Share}
use Rattle.net_cells.specs.Visits.{longest, longest_after}
use Rattle.net_cells.specs.Cells.{cell_of}

-- the longest packet of each of a server's first queues
abbrev pub longest_each : Net → (s queues : ℕ) → List ℕ
longest_each net s queues = map (longest net s) (range_with_len 0 queues)

abbrev pub left_of : Net → (s q : ℕ) → Discipline → Left Cell
left_of net s q Fifo = all
left_of net s q (Priority n) = above (cell_of Higher s q) (longest_after net s q)
left_of net s q (Drr quanta) = share quanta (longest_each net s (length quanta)) q

-- the same, by what the code tells of a discipline
abbrev pub left_by : Net → (s q : ℕ) → Leaving → Left Cell
left_by net s q All = all
left_by net s q Above = above (cell_of Higher s q) (longest_after net s q)
left_by net s q (Share quanta) = share quanta.now (longest_each net s (length quanta.now)) q
