-- Servers that are known to keep their service curves in a run. Own choice.
use Rattle.std.specs.Prelude.{◌≡◌, ◌<◌, ℕ, Bool, true, List, length, Some, slice_get}
use Rattle.upp_curve.specs.Curve.{value_at}
use Rattle.run_laws.specs.Runs.{SpecRun}
use Rattle.run_laws.specs.Views.{view}
use Rattle.run_laws.specs.Premises.{KeepsService}
use Rattle.net_model.specs.Networks.{Net}
use Rattle.net_model.specs.NetRoutes.{routes_of}
use Rattle.net_cells.specs.Numbered.{service}

-- the server keeps its service curve in each window of the run in which it has work
abbrev pub KeepsCurve : Net → SpecRun → ℕ → Type 0
KeepsCurve net run s = KeepsService (value_at (service net s)) run.end (view (routes_of net) run s)

-- a server is told as kept by a true at its number; past the list's end none is
abbrev pub IsTold : List Bool → ℕ → Type 0
IsTold kept s = slice_get kept s ≡ Some true

-- each server that is told as kept is one
abbrev pub AreKept : Net → SpecRun → List Bool → Type 0
AreKept net run kept = (s : ℕ) → s < length net.servers → IsTold kept s → KeepsCurve net run s
