-- What a table promises of a hop, of a queue and of a path, in a run. An infinite number claims nothing. (Le Boudec and
-- Thiran; Bouillard, Boyer and Le Corronc: total-flow and separate-flow analysis.)
use Rattle.std.specs.Prelude.{◌<◌, ℕ, suc, List}
use Rattle.rational.specs.Rational.{ℚ, ◌-ℚ◌, ◌≤ℚ◌}
use Rattle.rational.specs.Extended.{Ext, ◌≤ₑ◌}
use Rattle.rational.specs.declared.Extended.TheVariants.{Fin}
use Rattle.run_laws.specs.Runs.{SpecRun}
use Rattle.min_plus.specs.Pointwise.{packetised}
use Rattle.run_laws.specs.Cards.{Class, of_flow, of_queue, whole, ServerStep}
use Rattle.run_laws.specs.Counts.{departed_in}
use Rattle.run_laws.specs.Premises.{KeepsArrivals}
use Rattle.run_laws.specs.Serves.{Serves, ServesPackets}
use Rattle.run_laws.specs.Delays.{hop_delays, AreAtMost, backlog}
use Rattle.run_laws.specs.Routes.{route_of}
use Rattle.run_laws.specs.Views.{view}
use Rattle.run_laws.specs.Bounds.{IsFlowBounded}
use Rattle.net_laws.specs.Paths.{IsServedOver}
use Rattle.net_model.specs.Networks.{Net}
use Rattle.net_cells.specs.declared.cell.Kind.TheVariants.{In, Total, QueueService, Residual, QueueDelay, QueueBacklog, HopDelay, Out, PathService, Tfa, Sfa, Bound}
use Rattle.net_cells.specs.Numbered.{packet, hops, server_of_hop}
use Rattle.net_cells.specs.Cells.{cell_of}
use Rattle.net_cells.specs.Meanings.{CellTable}
use Rattle.net_bounds.specs.NetRuns.{routes_of}
use Rattle.net_bounds.specs.TableValues.{HasFunction, HasNumber}

-- ---- what servers see of a run
-- a server, and the server of a flow's hop
abbrev pub seen_by : Net → SpecRun → ℕ → List ServerStep
seen_by net run s = view (routes_of net) run s

abbrev pub seen_at : Net → SpecRun → (i k : ℕ) → List ServerStep
seen_at net run i k = seen_by net run (server_of_hop net i k)

-- in each closed window at most the curve's value at its length leaves
abbrev pub KeepsDepartures : Class → (ℚ → Ext) → List ServerStep → Type 0
KeepsDepartures C α V = (s t : ℚ) → s ≤ℚ t → Fin (departed_in C V s t) ≤ₑ α (t -ℚ s)

-- no packet stays longer
abbrev pub StaysWithin : Class → SpecRun → List ServerStep → Ext → Type 0
StaysWithin C run V d = AreAtMost d (hop_delays C run.end V)

-- no more bits are there at any time of the run
abbrev pub HoldsAtMost : Class → SpecRun → List ServerStep → Ext → Type 0
HoldsAtMost C run V most = (t : ℚ) → t ≤ℚ run.end → Fin (backlog C V t) ≤ₑ most

-- ---- a flow at a hop of its path
-- it comes with its curve, is served by its curve, and in whole packets by that curve less the longest of them (what is
-- left of it above 0); it stays no longer than its delay, and where its path goes on it leaves with its curve
pub record IsHopKept (net : Net) (at : CellTable) (run : SpecRun) (i k : ℕ) : Type 0 where
  pub comes : HasFunction at (cell_of In i k) (λ α. KeepsArrivals (of_flow i) α (seen_at net run i k))
  pub served : HasFunction at (cell_of Residual i k) (λ β. Serves (of_flow i) β run.end (seen_at net run i k))
  pub serves_packets : HasFunction at (cell_of Residual i k)
      (λ β. ServesPackets (of_flow i) (packetised β (whole (packet net i))) run.end (seen_at net run i k))
  pub stays : HasNumber at (cell_of HopDelay i k) (StaysWithin (of_flow i) run (seen_at net run i k))
  pub leaves : suc k < hops net i
      → HasFunction at (cell_of Out i k) (λ α. KeepsDepartures (of_flow i) α (seen_at net run i k))

-- ---- a queue of a server
-- its flows come with its curve, it is served by its curve, no packet stays longer than its delay, and no more bits are
-- there than its backlog
pub record IsQueueKept (net : Net) (at : CellTable) (run : SpecRun) (s q : ℕ) : Type 0 where
  pub comes : HasFunction at (cell_of Total s q) (λ α. KeepsArrivals (of_queue q) α (seen_by net run s))
  pub served : HasFunction at (cell_of QueueService s q) (λ β. Serves (of_queue q) β run.end (seen_by net run s))
  pub stays : HasNumber at (cell_of QueueDelay s q) (StaysWithin (of_queue q) run (seen_by net run s))
  pub holds : HasNumber at (cell_of QueueBacklog s q) (HoldsAtMost (of_queue q) run (seen_by net run s))

-- ---- a flow from end to end
-- along its path it is served by a curve
abbrev pub IsServedAllAlong : Net → SpecRun → ℕ → (ℚ → Ext) → Type 0
IsServedAllAlong net run i γ = (t : ℚ) → t ≤ℚ run.end
    → (s : ℚ) × IsServedOver (routes_of net) run i (route_of (routes_of net) i).hops γ t s

-- no packet takes longer, all links included
abbrev pub TakesAtMost : Net → SpecRun → ℕ → Ext → Type 0
TakesAtMost net run i d = IsFlowBounded (routes_of net) run i d

-- the path serves it by its curve, and no packet takes longer than either of the two delays, nor than the bound
pub record IsPathKept (net : Net) (at : CellTable) (run : SpecRun) (i : ℕ) : Type 0 where
  pub served : HasFunction at (cell_of PathService i 0) (IsServedAllAlong net run i)
  pub by_hops : HasNumber at (cell_of Tfa i 0) (TakesAtMost net run i)
  pub by_service : HasNumber at (cell_of Sfa i 0) (TakesAtMost net run i)
  pub bound : HasNumber at (cell_of Bound i 0) (TakesAtMost net run i)
