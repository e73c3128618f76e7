-- What is found when a trace of a network is simulated, and the replies that tell it.
use Rattle.std.specs.Prelude.{◌≡◌, ◌≤◌, ◌<◌, ◌^◌, ◌⊎◌, length}
use Rattle.run_laws.specs.Runs.{SpecRun}
use Rattle.net_model.specs.Networks.{Net}
use Rattle.net_model.specs.NetRoutes.{routes_of}
use Rattle.net_model.specs.Traces.{SpecTrace}
use Rattle.net_model.specs.stated_runs.FromTraces.{setup_of}
use Rattle.net_model.specs.stated_runs.Simulated.{IsSimulated}
use Rattle.sim_bounds.specs.Gauge.{simulation_gauge}
use Rattle.simulator.specs.run_measures.Peaks.{rows_of, ArePeaks}
use Rattle.simulator.specs.run_measures.Worst.{AreWorst}
use Rattle.simulator.specs.declared.packet_sim.measured.SimRun.{SimRun}
use Rattle.net_cells.specs.Meanings.{CellTable}
use Rattle.report_text.specs.RunReport.{Found}
use Rattle.command_replies.specs.Replies.{Reply, too_wide_simulation}
use Rattle.command_replies.specs.run_findings.Findings.{AreFindings, FoundText, TellsFindings}

-- ---- a run
-- the stated run of a network and a trace, with its worst delays and its peaks
pub record IsMeasured (net : Net) (trace : SpecTrace) (sim : SimRun) : Type 0 where
  pub stated : IsSimulated (setup_of net trace) sim.run
  pub worst : AreWorst (routes_of net) sim.run.end sim.run.steps (length net.flows) sim.worst.items
  pub peaks : ArePeaks (routes_of net) sim.run (rows_of sim.peaks.items)

-- the gauge is below its limit, and this is found in the stated run, which all packets of the trace enter
pub record IsFound (net : Net) (trace : SpecTrace) (found : Found) : Type 0 where
  pub narrow : simulation_gauge net trace < 2 ^ 120
  pub run : SpecRun
  pub stated : IsSimulated (setup_of net trace) run
  pub finds : AreFindings net run (length trace.packets) found

-- ---- a reply
-- the simulation gauge is over its limit
pub record IsTooWide (net : Net) (trace : SpecTrace) (reply : Reply) : Type 0 where
  pub over : 2 ^ 120 ≤ simulation_gauge net trace
  pub is : reply ≡ too_wide_simulation

-- it is not, and what is found in the stated run is told by a text beside the numbers of a table
pub record IsReportBy (text : FoundText) (net : Net) (trace : SpecTrace) (at : CellTable) (reply : Reply) : Type 0
  where
    pub narrow : simulation_gauge net trace < 2 ^ 120
    pub run : SpecRun
    pub stated : IsSimulated (setup_of net trace) run
    pub tells : TellsFindings text net run (length trace.packets) at reply

abbrev pub IsSimulationReplyBy : FoundText → Net → SpecTrace → CellTable → Reply → Type 0
IsSimulationReplyBy text net trace at reply = IsTooWide net trace reply ⊎ IsReportBy text net trace at reply
