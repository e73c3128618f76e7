-- The commands, and what each answers on its files. A new command has one line in each definition.
use Rattle.std.specs.Prelude.{◌≡◌, ◌⊎◌, ℕ, List, [], ◌∷◌, Option, Some, None}
use Rattle.rational.specs.Rational.{ℚ, ◌≤ℚ◌}
use Rattle.min_plus.specs.Functions.{zero_q}
use Rattle.upp_curve.specs.Curve.{SpecCurve}
use Rattle.upp_limits.specs.declared.own_limits.OverLimit.{OverLimit}
use Rattle.upp_limits.specs.declared.own_limits.OverLimit.TheVariants.{TooMany, TooWide}
use Rattle.net_model.specs.declared.trace.TracePacket.{TracePacket}
use Rattle.net_model.specs.Networks.{Net}
use Rattle.net_cells.specs.Meanings.{CellTable}
use Rattle.net_bounds.specs.NetRuns.{IsRunOf}
use Rattle.report_text.specs.declared.json_report.form.Form.{Form}
use Rattle.command_replies.specs.Replies.{Reply, AreSame}
use Rattle.command_replies.specs.Guarantee.{Guarantees}
use Rattle.command_replies.specs.OnFiles.{IsBroken, IsOverLimit, HasCycle}
use Rattle.commands.specs.analyse.OnFiles.{IsReplyOn, IsReportOf}
use Rattle.commands.specs.FileCounts.{CountsOnFile}
use Rattle.commands.specs.analyse.Laws.{IsWithinLimits}
use Rattle.commands.specs.edit.OnEdits.{IsEditReply, IsReported}
use Rattle.commands.specs.edit.EditCauses as edit_causes
use Rattle.commands.specs.edit.EditCounts as edit_counts
use Rattle.commands.specs.edit.Laws as edit_laws
use Rattle.commands.specs.simulate.OnTraces as traces
use Rattle.commands.specs.simulate.OnTraces.{IsRunReply, IsRunReport, IsSimulationOver}
use Rattle.commands.specs.simulate.RunCounts as run_counts
use Rattle.commands.specs.simulate.Laws as run_laws
use Rattle.commands.specs.simulate.Laws.{IsQuietReport}
use Rattle.command_replies.specs.run_findings.CellCounts.{CountsOnCells}
use Rattle.command_replies.specs.run_findings.Statuses.{Keeps}
use Rattle.exercise_load.specs.Workloads.{network_of}
use Rattle.commands.specs.exercise.OnSeeds.{IsExerciseReply, IsSummarised, IsWide, IsCellOver}
use Rattle.commands.specs.exercise.Laws as exercise_laws
use Rattle.commands.specs.exercise.Laws.{IsQuietSummary, SummaryGuarantees}
use Rattle.commands.specs.check.OnRuns as checks
use Rattle.commands.specs.check.OnRuns.{IsCheckReply, IsCheckReport, IsCheckOver}
use Rattle.commands.specs.check.CheckCounts as check_counts
use Rattle.commands.specs.check.Laws as check_laws
use Rattle.commands.specs.check.Laws.{IsAdmissible}
use Rattle.commands.specs.measure.OnMeasures.{IsMeasureReply, IsReportOf as IsMeasureReportOf}
use Rattle.commands.specs.measure.MeasureCauses as measure_causes
use Rattle.commands.specs.measure.MeasureCounts as measure_counts
use Rattle.commands.specs.measure.Laws as measure_laws
use Rattle.commands.specs.measure.Laws.{IsLeastOf}
use Rattle.commands.specs.curve.OnScripts.{IsScriptReply, IsRefused, IsLineOver, IsAnswered}
use Rattle.commands.specs.curve.ScriptCounts as script_counts
use Rattle.commands.specs.curve.Laws.{IsWithinRules}

-- a command with the names of its files, and with what its other words say: the form of its report, and a rate
pub data Command : Type 0 where
  Analyse : (form : Form) (net : List ℕ) → Command
  Edit : (form : Form) (net edits : List ℕ) → Command
  Simulate : (net trace : List ℕ) → Command
  Exercise : (seed : ℕ) → Command
  Check : (net run : List ℕ) → Command
  Measure : (net trace name : List ℕ) (rate : ℚ) → Command
  Curve : (script : List ℕ) → Command

-- a rate is from 0 on
abbrev pub HasRate : Command → Type 0
HasRate (Measure net trace name rate) = zero_q ≤ℚ rate
HasRate command = Unit {0}

-- the files in the order in which they are fetched
abbrev pub files_of : Command → List (List ℕ)
files_of (Analyse form net) = net ∷ []
files_of (Edit form net edits) = net ∷ edits ∷ []
files_of (Simulate net trace) = net ∷ trace ∷ []
files_of (Exercise seed) = []
files_of (Check net run) = net ∷ run ∷ []
files_of (Measure net trace name rate) = net ∷ trace ∷ []
files_of (Curve script) = script ∷ []

-- those that words ask for; words that are not taken ask for none
abbrev pub names_of : Option Command → List (List ℕ)
names_of None = []
names_of (Some command) = files_of command

-- ---- what is answered where the files hold these bytes, which are not too many
abbrev pub IsReplyTo : Command → List (List ℕ) → Reply → Type 0
IsReplyTo (Analyse form net) (bytes ∷ []) reply = IsReplyOn form net bytes reply
IsReplyTo (Edit form net edits) (bytes ∷ rows ∷ []) reply = IsEditReply form net bytes edits rows reply
IsReplyTo (Simulate net trace) (bytes ∷ rows ∷ []) reply = IsRunReply net bytes trace rows reply
IsReplyTo (Exercise seed) [] reply = IsExerciseReply seed reply
IsReplyTo (Check net run) (bytes ∷ rows ∷ []) reply = IsCheckReply net bytes run rows reply
IsReplyTo (Measure net trace name rate) (bytes ∷ rows ∷ []) reply = IsMeasureReply net bytes trace rows name rate reply
IsReplyTo (Curve script) (bytes ∷ []) reply = IsScriptReply script bytes reply
IsReplyTo command files reply = ⊥

-- two such replies on the same files: one status, and one text unless it tells a cycle (by `RepliesAreDetermined` then, too)
abbrev pub AreSameTo : Command → Reply → Reply → Type 0
AreSameTo (Analyse form net) x y = AreSame x y
AreSameTo (Edit form net edits) x y = edit_laws.AreAlike form x y
AreSameTo (Simulate net trace) x y = AreSame x y
AreSameTo (Exercise seed) x y = AreSame x y
AreSameTo (Check net run) x y = AreSame x y
AreSameTo (Measure net trace name rate) x y = AreSame x y
AreSameTo (Curve script) x y = AreSame x y

-- ---- of these replies those with one status each
-- 1: the first rule that a file breaks, or a name of no live flow
abbrev pub IsMalformed : Command → List (List ℕ) → Reply → Type 0
IsMalformed (Analyse form net) (bytes ∷ []) reply = IsBroken net bytes reply
IsMalformed (Edit form net edits) (bytes ∷ rows ∷ []) reply = edit_causes.IsMalformed net bytes edits rows reply
IsMalformed (Simulate net trace) (bytes ∷ rows ∷ []) reply = traces.IsMalformed net bytes trace rows reply
IsMalformed (Check net run) (bytes ∷ rows ∷ []) reply = checks.IsMalformed net bytes run rows reply
IsMalformed (Measure net trace name rate) (bytes ∷ rows ∷ []) reply =
    measure_causes.IsMalformed net bytes trace rows name reply
IsMalformed (Curve script) (bytes ∷ []) reply = IsRefused script bytes reply
IsMalformed command files reply = ⊥

-- 7 and 6: the first that is over a limit: of the curves of a network's file, or else of its cells, or else, at 6, the
-- simulation or the recorded run; of a workload's cells, or else, at 6, the simulation; of the curves of a network's
-- file, or else the packets that are measured, or else their burst; of the curves, operators and values of a script
abbrev pub IsRunOver : OverLimit → List ℕ → List ℕ → Reply → Type 0
IsRunOver TooMany bytes rows reply = traces.IsOverLimit TooMany bytes rows reply
IsRunOver TooWide bytes rows reply = traces.IsOverLimit TooWide bytes rows reply ⊎ IsSimulationOver bytes rows reply

abbrev pub IsLoadOver : OverLimit → ℕ → Reply → Type 0
IsLoadOver TooMany seed reply = IsCellOver TooMany (network_of seed) reply
IsLoadOver TooWide seed reply = IsWide seed reply

abbrev pub IsRecordedOver : OverLimit → List ℕ → List ℕ → Reply → Type 0
IsRecordedOver TooMany bytes rows reply = checks.IsOverLimit TooMany bytes rows reply
IsRecordedOver TooWide bytes rows reply = checks.IsOverLimit TooWide bytes rows reply ⊎ IsCheckOver bytes rows reply

abbrev pub IsOver : OverLimit → Command → List (List ℕ) → Reply → Type 0
IsOver limit (Analyse form net) (bytes ∷ []) reply = IsOverLimit limit bytes reply
IsOver limit (Edit form net edits) (bytes ∷ rows ∷ []) reply = edit_causes.IsOverLimit limit bytes rows reply
IsOver limit (Simulate net trace) (bytes ∷ rows ∷ []) reply = IsRunOver limit bytes rows reply
IsOver limit (Exercise seed) [] reply = IsLoadOver limit seed reply
IsOver limit (Check net run) (bytes ∷ rows ∷ []) reply = IsRecordedOver limit bytes rows reply
IsOver limit (Measure net trace name rate) (bytes ∷ rows ∷ []) reply =
    measure_causes.IsOverLimit limit bytes rows name rate reply
IsOver limit (Curve script) (bytes ∷ []) reply = IsLineOver limit bytes reply
IsOver limit command files reply = ⊥

-- 8: a cycle of a network
abbrev pub IsCyclic : Command → List (List ℕ) → Reply → Type 0
IsCyclic (Analyse form net) (bytes ∷ []) reply = HasCycle bytes reply
IsCyclic (Edit form net edits) (bytes ∷ rows ∷ []) reply = edit_causes.HasCycleBehind bytes rows reply
IsCyclic (Simulate net trace) (bytes ∷ rows ∷ []) reply = traces.HasCycleBehind bytes rows reply
IsCyclic (Check net run) (bytes ∷ rows ∷ []) reply = checks.HasCycleBehind bytes rows reply
IsCyclic command files reply = ⊥

-- 9: the report of a run that breaks a premise of its network, the summary of a workload with such a run, or the report
-- of a recorded run that is not lawful or breaks one; its table is kept by every lawful run that keeps them, and the
-- largest bound of a summary by every packet's delay
abbrev pub TellsBreach : Command → List (List ℕ) → Reply → Type 0
TellsBreach (Simulate net trace) (bytes ∷ rows ∷ []) reply =
    (h : IsRunReport bytes rows reply) × (¬ (Keeps h.net h.report.run)) × Guarantees h.net h.at
TellsBreach (Exercise seed) [] reply =
    (h : IsSummarised seed reply) × (¬ (Keeps (network_of seed) h.report.run)) × SummaryGuarantees seed h.at
TellsBreach (Check net run) (bytes ∷ rows ∷ []) reply =
    (h : IsCheckReport bytes rows reply) × (¬ (IsRunOf h.net h.run)) × Guarantees h.net h.at
TellsBreach command files reply = ⊥

-- 0: a report, in its form, whose table is kept by every lawful run of the network that keeps packet sizes, arrival
-- and service curves: of the file's network; of the network that the edits leave; of `simulate` beside a run that keeps
-- them too, and of `check` beside a recorded run that is lawful and keeps them, no number of which is above its bound;
-- of a workload's network so, and its largest bound is kept by every packet's delay; or the least arrival curve of a
-- flow's packets, with the least bucket of the rate that they keep; or the answers of a script
abbrev pub IsDone : Command → List (List ℕ) → Reply → Type 0
IsDone (Analyse form net) (bytes ∷ []) reply =
    (model : Net) × (at : CellTable) × IsReportOf form model at bytes reply × Guarantees model at
IsDone (Edit form net edits) (bytes ∷ rows ∷ []) reply =
    (model : Net) × (at : CellTable) × IsReported form model at bytes rows reply × Guarantees model at
IsDone (Simulate net trace) (bytes ∷ rows ∷ []) reply =
    (h : IsQuietReport bytes rows reply) × Guarantees h.report.net h.report.at
IsDone (Exercise seed) [] reply = (h : IsQuietSummary seed reply) × SummaryGuarantees seed h.summary.at
IsDone (Check net run) (bytes ∷ rows ∷ []) reply =
    (h : IsAdmissible bytes rows reply) × Guarantees h.report.net h.report.at
IsDone (Measure net trace name rate) (bytes ∷ rows ∷ []) reply =
    (packets : List TracePacket) × (curve : SpecCurve) × (burst : ℚ)
    × IsMeasureReportOf bytes rows name rate packets curve burst reply × IsLeastOf packets curve rate burst
IsDone (Curve script) (bytes ∷ []) reply = IsAnswered bytes reply
IsDone command files reply = ⊥

-- ---- the files that are answered: with status 0, or 9 where a run is asked for
abbrev pub IsAnswerable : Command → List (List ℕ) → Type 0
IsAnswerable (Analyse form net) (bytes ∷ []) = IsWithinLimits bytes
IsAnswerable (Edit form net edits) (bytes ∷ rows ∷ []) = edit_laws.IsWithinLimits bytes rows
IsAnswerable (Simulate net trace) (bytes ∷ rows ∷ []) = run_laws.IsWithinLimits bytes rows
IsAnswerable (Exercise seed) [] = exercise_laws.IsWithinLimits seed
IsAnswerable (Check net run) (bytes ∷ rows ∷ []) = check_laws.IsWithinLimits bytes rows
IsAnswerable (Measure net trace name rate) (bytes ∷ rows ∷ []) = measure_laws.IsWithinLimits bytes rows name rate
IsAnswerable (Curve script) (bytes ∷ []) = IsWithinRules bytes
IsAnswerable command files = ⊥

abbrev pub IsAnswer : Command → ℕ → Type 0
IsAnswer (Analyse form net) status = status ≡ 0
IsAnswer (Edit form net edits) status = status ≡ 0
IsAnswer (Simulate net trace) status = (status ≡ 0) ⊎ (status ≡ 9)
IsAnswer (Exercise seed) status = (status ≡ 0) ⊎ (status ≡ 9)
IsAnswer (Check net run) status = (status ≡ 0) ⊎ (status ≡ 9)
IsAnswer (Measure net trace name rate) status = status ≡ 0
IsAnswer (Curve script) status = status ≡ 0

-- ---- steps, by the status and the counts before and after
abbrev pub CountsTo : Command → List (List ℕ) → (status old new : ℕ) → Type 0
CountsTo (Analyse form net) (bytes ∷ []) status old new = CountsOnFile CountsOnCells bytes status old new
CountsTo (Edit form net edits) (bytes ∷ rows ∷ []) status old new =
    CountsOnFile (λ model. edit_counts.CountsOnNet model rows) bytes status old new
CountsTo (Simulate net trace) (bytes ∷ rows ∷ []) status old new =
    CountsOnFile (λ model. run_counts.CountsOnNet model rows) bytes status old new
CountsTo (Exercise seed) [] status old new = CountsOnCells (network_of seed) status old new
CountsTo (Check net run) (bytes ∷ rows ∷ []) status old new =
    CountsOnFile (λ model. check_counts.CountsOnNet model rows) bytes status old new
CountsTo (Measure net trace name rate) (bytes ∷ rows ∷ []) status old new = measure_counts.CountsOn bytes status old new
CountsTo (Curve script) (bytes ∷ []) status old new = script_counts.CountsOn bytes status old new
CountsTo command files status old new = ⊥
