-- What is answered on the bytes of a network's file and of a trace, for a flow's name and a rate, stage by stage: on the
-- first fault of the network, or of the trace; where no live flow has the name; where its packets, or the burst, are over a
-- limit; and else by the report on the measured curve.
use Rattle.std.specs.Prelude.{◌≡◌, ℕ, ◌++◌, List, length, codes}
use Rattle.rational.specs.Rational.{ℚ}
use Rattle.min_plus.specs.Functions.{zero_q}
use Rattle.upp_curve.specs.Curve.{SpecCurve, value_at}
use Rattle.upp_curve.specs.Curves.{IsCurve}
use Rattle.upp_curve.specs.Kinds.{bucket}
use Rattle.upp_limits.specs.declared.op_kind.OpKind.TheVariants.{Vertical}
use Rattle.upp_limits.specs.declared.own_limits.OverLimit.{OverLimit}
use Rattle.upp_limits.specs.declared.own_limits.OverLimit.TheVariants.{TooMany, TooWide}
use Rattle.upp_limits.specs.Gauges.{IsTooMany, IsTooWide}
use Rattle.net_model.specs.declared.trace.TracePacket.{TracePacket}
use Rattle.net_model.specs.Names.{IsFlowNamed}
use Rattle.net_model.specs.Networks.{Net}
use Rattle.net_model.specs.Traces.{SpecTrace}
use Rattle.input_texts.specs.table_text.Rows.{rows_of}
use Rattle.input_texts.specs.table_text.Traces.{IsTraceOf}
use Rattle.measure_curve.specs.Bursts.{IsLeastBurst}
use Rattle.measure_curve.specs.Limits.{AreTooMany, AreTooWide}
use Rattle.measure_curve.specs.Staircases.{TellRises}
use Rattle.measure_curve.specs.Windows.{of_flow, IsLeastArrival}
use Rattle.report_text.specs.measure_report.MeasureReport.{measure_report_of}
use Rattle.command_replies.specs.Replies.{Reply, refusal, over}
use Rattle.command_replies.specs.OnFiles.{IsNetOf, OnFile, IsBadTraceOf}
use Rattle.outcomes.specs.Stages.{Staged}

-- ---- the two files
-- the files give this network and this trace of it
pub record Give (net_bytes trace_bytes : List ℕ) (net : Net) (trace : SpecTrace) : Type 0 where
  pub network : IsNetOf net_bytes net
  pub trace_is : IsTraceOf net (rows_of trace_bytes) trace

-- ---- the flow
abbrev pub unknown_flow : List ℕ → Reply
unknown_flow name = refusal 1 (codes "unknown flow " ++ name)

-- no live flow has the name
pub record IsUnknownFlow (net_bytes trace_bytes name : List ℕ) (reply : Reply) : Type 0 where
  pub net : Net
  pub trace : SpecTrace
  pub read : Give net_bytes trace_bytes net trace
  pub unknown : (k : ℕ) → ¬ (IsFlowNamed net.flows name k)
  pub is : reply ≡ unknown_flow name

-- these are the packets of the live flow with the name
pub record AreOwn (net_bytes trace_bytes name : List ℕ) (ps : List TracePacket) : Type 0 where
  pub net : Net
  pub trace : SpecTrace
  pub read : Give net_bytes trace_bytes net trace
  pub number : ℕ
  pub named : IsFlowNamed net.flows name number
  pub are : ps ≡ of_flow number trace.packets

-- ---- the curve
abbrev pub AreOver : OverLimit → List TracePacket → Type 0
AreOver TooMany ps = AreTooMany ps
AreOver TooWide ps = AreTooWide ps

-- the packets are over a limit
pub record IsMeasureOver (limit : OverLimit) (net_bytes trace_bytes name : List ℕ) (reply : Reply) : Type 0 where
  pub packets : List TracePacket
  pub own : AreOwn net_bytes trace_bytes name packets
  pub past : AreOver limit packets
  pub is : reply ≡ over limit (codes "measure")

-- the least arrival curve of packets that are over no limit, with a piece for 0 and for each time at which it rises
pub record IsMeasured (ps : List TracePacket) (c : SpecCurve) : Type 0 where
  pub few : ¬ (AreTooMany ps)
  pub narrow : ¬ (AreTooWide ps)
  pub curve : IsCurve c
  pub least : IsLeastArrival ps (value_at c)
  pub rises : TellRises (value_at c) c.pieces

-- ---- the burst
-- the vertical deviation of the curve and of the line of the rate is over this limit
abbrev pub IsOverBurst : OverLimit → ℚ → SpecCurve → Type 0
IsOverBurst TooMany rate c = IsTooMany Vertical c (bucket zero_q rate)
IsOverBurst TooWide rate c = IsTooWide Vertical c (bucket zero_q rate)

pub record IsBurstOver (limit : OverLimit) (net_bytes trace_bytes name : List ℕ) (rate : ℚ) (reply : Reply)
    : Type 0 where
  pub packets : List TracePacket
  pub own : AreOwn net_bytes trace_bytes name packets
  pub curve : SpecCurve
  pub measured : IsMeasured packets curve
  pub past : IsOverBurst limit rate curve
  pub is : reply ≡ over limit (codes "burst")

-- ---- the report
abbrev pub measure_report : List ℕ → ℕ → SpecCurve → ℚ → ℚ → Reply
measure_report name packets c burst rate =
    record { status = 0; bytes = measure_report_of name packets c.pieces burst rate }

-- of these packets with this curve and this burst
pub record IsReportOf (net_bytes trace_bytes name : List ℕ) (rate : ℚ) (ps : List TracePacket) (c : SpecCurve)
    (burst : ℚ) (reply : Reply) : Type 0 where
  pub own : AreOwn net_bytes trace_bytes name ps
  pub measured : IsMeasured ps c
  pub within : (limit : OverLimit) → ¬ (IsOverBurst limit rate c)
  pub burst_is : IsLeastBurst (value_at c) rate burst
  pub is : reply ≡ measure_report name (length ps) c burst rate

abbrev pub IsMeasureReport : List ℕ → List ℕ → List ℕ → ℚ → Reply → Type 0
IsMeasureReport net_bytes trace_bytes name rate reply =
    (ps : List TracePacket) × (c : SpecCurve) × (burst : ℚ)
    × IsReportOf net_bytes trace_bytes name rate ps c burst reply

-- ---- stages
-- no live flow of a network has the name
pub record IsUnknown (net : Net) (name : List ℕ) (reply : Reply) : Type 0 where
  pub unknown : (k : ℕ) → ¬ (IsFlowNamed net.flows name k)
  pub is : reply ≡ unknown_flow name

-- packets are over this limit, and over any
pub record IsPast (limit : OverLimit) (ps : List TracePacket) (reply : Reply) : Type 0 where
  pub past : AreOver limit ps
  pub is : reply ≡ over limit (codes "measure")

abbrev pub ArePast : List TracePacket → Reply → Type 0
ArePast ps reply = (limit : OverLimit) × IsPast limit ps reply

-- the burst of a curve is over this limit, and over any
pub record IsSteep (limit : OverLimit) (rate : ℚ) (c : SpecCurve) (reply : Reply) : Type 0 where
  pub past : IsOverBurst limit rate c
  pub is : reply ≡ over limit (codes "burst")

abbrev pub IsTooSteep : ℚ → SpecCurve → Reply → Type 0
IsTooSteep rate c reply = (limit : OverLimit) × IsSteep limit rate c reply

-- it is over none, and this one
pub record IsBurstOf (rate : ℚ) (c : SpecCurve) (burst : ℚ) : Type 0 where
  pub within : (limit : OverLimit) → ¬ (IsOverBurst limit rate c)
  pub least : IsLeastBurst (value_at c) rate burst

-- ---- all of them
-- the reply on packets of a flow with this name, and their curve
abbrev pub IsReplyOnCurve : List TracePacket → List ℕ → ℚ → SpecCurve → Reply → Type 0
IsReplyOnCurve ps name rate c =
    Staged (IsTooSteep rate c) (IsBurstOf rate c) (λ burst reply. reply ≡ measure_report name (length ps) c burst rate)

-- on packets of a flow
abbrev pub IsReplyOnPackets : List TracePacket → List ℕ → ℚ → Reply → Type 0
IsReplyOnPackets ps name rate = Staged (ArePast ps) (IsMeasured ps) (IsReplyOnCurve ps name rate)

-- on a network and a trace of it
abbrev pub IsReplyOnTrace : Net → SpecTrace → List ℕ → ℚ → Reply → Type 0
IsReplyOnTrace net trace name rate =
    Staged (IsUnknown net name) (IsFlowNamed net.flows name)
    (λ k. IsReplyOnPackets (of_flow k trace.packets) name rate)

-- on a network, with a trace's name and bytes
abbrev pub IsReplyOnNet : Net → (trace_file trace_bytes name : List ℕ) → ℚ → Reply → Type 0
IsReplyOnNet net trace_file trace_bytes name rate =
    Staged (IsBadTraceOf net trace_file trace_bytes) (IsTraceOf net (rows_of trace_bytes))
    (λ trace. IsReplyOnTrace net trace name rate)

-- on files with these names and bytes
abbrev pub IsMeasureReply : (net_file net_bytes trace_file trace_bytes name : List ℕ) → ℚ → Reply → Type 0
IsMeasureReply net_file net_bytes trace_file trace_bytes name rate =
    OnFile net_file net_bytes (λ net. IsReplyOnNet net trace_file trace_bytes name rate)
