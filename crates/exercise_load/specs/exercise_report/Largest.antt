-- The largest of the bounds of a network's flows, and of the worst delays of a run. Own choice.
use Rattle.std.specs.Prelude.{ℕ, List, [], ◌∷◌, length, Option, Some, None}
use Rattle.std.specs.List.{flat_map, fold, range_with_len}
use Rattle.rational.specs.Rational.{ℚ}
use Rattle.rational.specs.Extended.{Ext, max_ext}
use Rattle.rational.specs.MinMax.{max_q}
use Rattle.rational.specs.declared.Extended.TheVariants.{Fin}
use Rattle.min_plus.specs.Functions.{zero_q}
use Rattle.net_model.specs.Networks.{Net, NetFlow}
use Rattle.net_cells.specs.declared.cell.Cell.{Cell}
use Rattle.net_cells.specs.declared.cell.Kind.TheVariants.{Bound}
use Rattle.net_cells.specs.Cells.{cell_of}
use Rattle.net_cells.specs.Meanings.{Meaning, curve, number, CellTable}
use Rattle.net_cells.specs.Numbered.{flow_at}

-- a number alone, where there is one
abbrev pub number_alone : Option Meaning → List Ext
number_alone None = []
number_alone (Some (curve f)) = []
number_alone (Some (number x)) = x ∷ []

abbrev pub bound_cell : ℕ → Cell
bound_cell i = cell_of Bound i 0

-- the bound of a flow, where it is live
abbrev pub bound_of : CellTable → ℕ → Option NetFlow → List Ext
bound_of at i None = []
bound_of at i (Some f) = number_alone (at (bound_cell i))

abbrev pub bound_at : Net → CellTable → ℕ → List Ext
bound_at net at i = bound_of at i (flow_at net i)

-- those of all live flows, by number
abbrev pub bounds : Net → CellTable → List Ext
bounds net at = flat_map (bound_at net at) (range_with_len 0 (length net.flows))

-- the largest of 0 and of these
abbrev pub largest_bound : Net → CellTable → Ext
largest_bound net at = fold max_ext (Fin zero_q) (bounds net at)

abbrev pub largest_delay : List ℚ → ℚ
largest_delay = fold max_q zero_q
