-- What is found in a lawful run of a network, be it simulated or recorded, and a reply that tells it.
use Rattle.std.specs.Prelude.{◌≡◌, ℕ, List, length, Option, Some, None}
use Rattle.run_laws.specs.Runs.{SpecRun}
use Rattle.net_model.specs.declared.breach.Breach.{Breach}
use Rattle.net_model.specs.Networks.{Net}
use Rattle.net_model.specs.NetRoutes.{routes_of}
use Rattle.simulator.specs.run_measures.Peaks.{ArePeaks}
use Rattle.simulator.specs.run_measures.Worst.{AreWorst}
use Rattle.run_watch.specs.first_breaches.Firsts.{TellsFirst}
use Rattle.net_cells.specs.Meanings.{CellTable}
use Rattle.report_text.specs.RunReport.{Found}
use Rattle.command_replies.specs.Replies.{Reply}

-- ---- a run
-- of a run that this many packets enter: when it ends, the largest delay of each flow, the greatest backlog of each
-- queue, and what it breaks first, if anything
pub record AreFindings (net : Net) (run : SpecRun) (entered : ℕ) (found : Found) : Type 0 where
  pub packets : found.packets ≡ entered
  pub ends : found.end ≡ run.end
  pub worst : AreWorst (routes_of net) run.end run.steps (length net.flows) found.worst
  pub peaks : ArePeaks (routes_of net) run found.peaks
  pub breach : TellsFirst net run found.breach

-- ---- a reply
-- 0 where the run breaks nothing, else 9
abbrev pub status_by : Option Breach → ℕ
status_by None = 0
status_by (Some breach) = 9

-- what a text makes of a network, of the numbers of a table, and of what is found
abbrev pub FoundText : Type 0
FoundText = Net → CellTable → Found → List ℕ

-- what is found, by a text beside the numbers of a table
abbrev pub found_report : FoundText → Net → CellTable → Found → Reply
found_report text net at found = record { status = status_by found.breach; bytes = text net at found }

-- the reply tells what is found in the run
pub record TellsFindings (text : FoundText) (net : Net) (run : SpecRun) (entered : ℕ) (at : CellTable) (reply : Reply)
    : Type 0 where
  pub found : Found
  pub finds : AreFindings net run entered found
  pub is : reply ≡ found_report text net at found
