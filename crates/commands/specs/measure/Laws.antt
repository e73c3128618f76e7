-- What holds of the replies on a network's file and a trace.
use Rattle.std.specs.Prelude.{◌≡◌, ◌⊎◌, ℕ, List}
use Rattle.rational.specs.Rational.{ℚ, ◌≤ℚ◌}
use Rattle.upp_curve.specs.Curve.{SpecCurve, value_at}
use Rattle.upp_limits.specs.declared.own_limits.OverLimit.{OverLimit}
use Rattle.net_model.specs.declared.trace.TracePacket.{TracePacket}
use Rattle.measure_curve.specs.Laws.{IsLeastBucket}
use Rattle.measure_curve.specs.Windows.{Keep}
use Rattle.rational.specs.Extended.{Ext, ◌≤ₑ◌}
use Rattle.min_plus.specs.Functions.{zero_q}
use Rattle.command_replies.specs.Replies.{Reply}
use Rattle.commands.specs.measure.OnMeasures.{AreOwn, AreOver, IsMeasured, IsOverBurst, IsReportOf, IsMeasureReply}

-- ---- what a report says
-- the packets keep the curve, each curve that they keep is at least it, and they keep the bucket of the burst and no
-- bucket of its rate with a smaller one
pub record IsLeastOf (ps : List TracePacket) (c : SpecCurve) (rate burst : ℚ) : Type 0 where
  pub kept : Keep ps (value_at c)
  pub least : (α : ℚ → Ext) → Keep ps α → (d : ℚ) → zero_q ≤ℚ d → value_at c d ≤ₑ α d
  pub bucket : IsLeastBucket ps rate burst

abbrev pub ReportsAreLeast : Type 0
ReportsAreLeast =
    (net_bytes trace_bytes name : List ℕ) (rate : ℚ) (ps : List TracePacket) (c : SpecCurve) (burst : ℚ) (reply : Reply)
    → IsReportOf net_bytes trace_bytes name rate ps c burst reply → IsLeastOf ps c rate burst

-- ---- statuses
abbrev pub StatusesAreFour : Type 0
StatusesAreFour =
    (net_file net_bytes trace_file trace_bytes name : List ℕ) (rate : ℚ) (reply : Reply)
    → IsMeasureReply net_file net_bytes trace_file trace_bytes name rate reply
    → (reply.status ≡ 0) ⊎ (reply.status ≡ 1) ⊎ (reply.status ≡ 6) ⊎ (reply.status ≡ 7)

-- ---- completeness
-- the files give a network and a trace of it, a live flow has the name, and neither its packets nor the burst are
-- over a limit
pub record IsWithinLimits (net_bytes trace_bytes name : List ℕ) (rate : ℚ) : Type 0 where
  pub packets : List TracePacket
  pub own : AreOwn net_bytes trace_bytes name packets
  pub narrow : (limit : OverLimit) → ¬ (AreOver limit packets)
  pub burst : (c : SpecCurve) → IsMeasured packets c → (limit : OverLimit) → ¬ (IsOverBurst limit rate c)

-- their one reply is a report
abbrev pub RepliesAreComplete : Type 0
RepliesAreComplete =
    (net_file net_bytes trace_file trace_bytes name : List ℕ) (rate : ℚ) (reply : Reply)
    → IsWithinLimits net_bytes trace_bytes name rate
    → IsMeasureReply net_file net_bytes trace_file trace_bytes name rate reply → reply.status ≡ 0

-- ---- one reply
-- status and text are determined by the files, the name and the rate
abbrev pub RepliesAreDetermined : Type 0
RepliesAreDetermined =
    (net_file net_bytes trace_file trace_bytes name : List ℕ) (rate : ℚ) (x y : Reply)
    → IsMeasureReply net_file net_bytes trace_file trace_bytes name rate x
    → IsMeasureReply net_file net_bytes trace_file trace_bytes name rate y → x ≡ y
