-- What curves of a network keep by their type.
use Rattle.std.specs.Prelude.{ℕ}
use Rattle.upp_curve.specs.Curves.{IsCurve}
use Rattle.net_model.specs.Networks.{Net}
use Rattle.net_cells.specs.Numbered.{arrival}

-- the arrival curve of a flow is in normal form and readable
abbrev pub HasArrival : Net → ℕ → Type 0
HasArrival net flow = IsCurve (arrival net flow)
