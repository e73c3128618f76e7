-- From what single calls answer to the reply on the packets of a flow.
use Rattle.std.specs.Prelude.{◌≡◌, ℕ, List, length, codes}
use Rattle.std.proofs.Common.{ap, ◌∙◌}
use Rattle.rational.specs.Rational.{ℚ}
use Rattle.min_plus.specs.Functions.{zero_q}
use Rattle.upp_curve.specs.Curve.{SpecCurve, value_at}
use Rattle.upp_curve.specs.Curves.{IsCurve}
use Rattle.upp_curve.specs.Kinds.{bucket}
use Rattle.upp_limits.specs.declared.op_kind.OpKind.TheVariants.{Vertical}
use Rattle.upp_limits.specs.declared.own_limits.OverLimit.{OverLimit}
use Rattle.upp_limits.specs.declared.own_limits.OverLimit.TheVariants.{TooMany, TooWide}
use Rattle.upp_limits.specs.Outcome.{IsWithin}
use Rattle.net_model.specs.declared.trace.TracePacket.{TracePacket}
use Rattle.report_text.specs.measure_report.MeasureReport.{measure_report_of}
use Rattle.measure_curve.specs.Bursts.{IsLeastBurst}
use Rattle.measure_curve.specs.Limits.{AreTooMany, AreTooWide}
use Rattle.measure_curve.specs.Staircases.{TellRises}
use Rattle.measure_curve.specs.Windows.{IsLeastArrival}
use Rattle.command_replies.specs.Replies.{Reply, over}
use Rattle.outcomes.specs.Stages.{stops, goes_on}
use Rattle.commands.specs.measure.OnMeasures.{AreOver, IsMeasured, IsOverBurst, measure_report, IsReplyOnPackets}

-- ---- on packets
pub reported : (ps : List TracePacket) (name : List ℕ) (rate : ℚ) (c : SpecCurve) (burst : ℚ) (reply : Reply)
    → IsMeasured ps c → IsWithin Vertical c (bucket zero_q rate) → IsLeastBurst (value_at c) rate burst
    → reply ≡ measure_report name (length ps) c burst rate → IsReplyOnPackets ps name rate reply
reported ps name rate c burst reply m w l e = goes_on c m (goes_on burst record { within = within w; least = l } e)
  where
    within : IsWithin Vertical c (bucket zero_q rate) → (limit : OverLimit) → ¬ (IsOverBurst limit rate c)
    within w TooMany = w.few
    within w TooWide = w.narrow

pub steep : (ps : List TracePacket) (name : List ℕ) (rate : ℚ) (c : SpecCurve) (limit : OverLimit) (reply : Reply)
    → IsMeasured ps c → IsOverBurst limit rate c → reply ≡ over limit (codes "burst")
    → IsReplyOnPackets ps name rate reply
steep ps name rate c limit reply m past e = goes_on c m (stops (limit, record { past = past; is = e }))

pub past : (ps : List TracePacket) (name : List ℕ) (rate : ℚ) (limit : OverLimit) (reply : Reply) → AreOver limit ps
    → reply ≡ over limit (codes "measure") → IsReplyOnPackets ps name rate reply
past ps name rate limit reply h e = stops (limit, record { past = h; is = e })

pub measured : (ps : List TracePacket) (c : SpecCurve) → ¬ (AreTooMany ps) → ¬ (AreTooWide ps) → IsCurve c
    → IsLeastArrival ps (value_at c) → TellRises (value_at c) c.pieces → IsMeasured ps c
measured ps c few narrow curve least rises =
    record { few = few; narrow = narrow; curve = curve; least = least; rises = rises }

pub shown : (ps : List TracePacket) (name : List ℕ) (rate : ℚ) (c : SpecCurve) (burst : ℚ) (n : ℕ) (bytes : List ℕ)
    → n ≡ length ps → bytes ≡ measure_report_of name n c.pieces burst rate
    → (let r : Reply = record { status = 0; bytes = bytes } in r ≡ measure_report name (length ps) c burst rate)
shown ps name rate c burst n bytes e is =
    ap (λ (b : List ℕ). let r : Reply = record { status = 0; bytes = b } in r)
    (is ∙ ap (λ k. measure_report_of name k c.pieces burst rate) e)
