-- What `measure` answers: its stages, one after the other.
use Rattle.std.proofs.Common.{ℕ, ◌^◌, List, length, Result, Ok, Err, refl, inl, inr}
use Rattle.std.specs.Prelude.{codes}
use Rattle.std.proofs.lemmas.Bool.{cases_lt}
use Rattle.rational.specs.Rational.{ℚ, ◌≤ℚ◌}
use Rattle.rational.specs.Extended.{Ext}
use Rattle.rational.specs.declared.Extended.TheVariants.{Fin, Inf}
use Rattle.min_plus.specs.Deviations.{IsVerticalDeviation}
use Rattle.min_plus.specs.Functions.{zero_q}
use Rattle.upp_curve.specs.Curve.{SpecCurve, value_at}
use Rattle.upp_curve.specs.Kinds.{bucket}
use Rattle.upp_curve.proofs.ReadableKinds.{zero_small, bucket_curve}
use Rattle.upp_limits.specs.declared.op_kind.OpFault.{OpFault}
use Rattle.upp_limits.specs.declared.op_kind.OpFault.TheVariants as faults
use Rattle.upp_limits.specs.declared.op_kind.OpKind.TheVariants.{Vertical}
use Rattle.upp_limits.specs.declared.own_limits.OverLimit.TheVariants as limits
use Rattle.net_model.specs.declared.trace.TracePacket.{TracePacket}
use Rattle.net_model.specs.Networks.{Net}
use Rattle.net_model.specs.Traces.{SpecTrace}
use Rattle.input_texts.specs.table_text.Rows.{rows_of}
use Rattle.input_texts.specs.table_text.Traces.{IsTraceOf}
use Rattle.measure_curve.specs.Grids.{width_of}
use Rattle.measure_curve.specs.Windows.{of_flow}
use Rattle.measure_curve.proofs.Bursts.{line_finite, not_infinite, least_burst}
use Rattle.measure_curve.proofs.Kept.{bounded}
use Rattle.command_replies.specs.Replies.{Reply, over, table_fault_reply}
use Rattle.outcomes.specs.Stages.{stops, goes_on}
use Rattle.commands.specs.measure.OnMeasures.{IsMeasured, measure_report, unknown_flow, IsReplyOnPackets, IsReplyOnTrace, IsReplyOnNet, IsMeasureReply}
use Rattle.commands.proofs.measure.Answering.{reported, steep, past}
use Rattle.net_cells.specs.Answers.{Deviates}
use Rattle.existence.specs.reports.Laws.{StopsOrGives, MeasuresHaveReplies}
use Rattle.existence.proofs.curves.Verticals.{vertical_answered}
use Rattle.existence.proofs.reports.Measured.{measured_curve}
use Rattle.existence.proofs.reports.Reports.{first_stages}
use Rattle.existence.proofs.texts.EachTable.{flow_or_none, traces_are_read}
use Rattle.existence.proofs.texts.KeptTraces.{packets_kept}

-- ---- on packets
abbrev HasReply : List TracePacket → List ℕ → ℚ → Type 0
HasReply ps name rate = (reply : Reply) × IsReplyOnPackets ps name rate reply

by_burst : (ps : List TracePacket) (name : List ℕ) (rate : ℚ) (c : SpecCurve) → zero_q ≤ℚ rate → IsMeasured ps c
    → (r : Result Ext OpFault) → Deviates Vertical IsVerticalDeviation c (bucket zero_q rate) r → HasReply ps name rate
by_burst ps name rate c low m (Ok (Fin burst)) h =
    let reply = measure_report name (length ps) c burst rate in
    (reply, reported ps name rate c burst reply m h.0 (least_burst (value_at c) rate burst h.1) refl)
by_burst ps name rate c low m (Ok Inf) h =
    absurd (not_infinite (value_at c) rate (bounded ps (value_at c) m.least) low h.1)
by_burst ps name rate c low m (Err faults.TooMany) h =
    let reply = over limits.TooMany (codes "burst") in
    (reply, steep ps name rate c limits.TooMany reply m h.0 refl)
by_burst ps name rate c low m (Err faults.TooWide) h =
    let reply = over limits.TooWide (codes "burst") in
    (reply, steep ps name rate c limits.TooWide reply m h.0 refl)
by_burst ps name rate c low m (Err faults.NoMemory) h = absurd (h.1 refl)

on_flow : (net : Net) (rows_text name : List ℕ) (rate : ℚ) (trace : SpecTrace) (flow : ℕ) → zero_q ≤ℚ rate
    → IsTraceOf net (rows_of rows_text) trace → HasReply (of_flow flow trace.packets) name rate
on_flow net rows_text name rate trace flow low right =
    let ps = of_flow flow trace.packets in
    elim (cases_lt 1024 (length ps)) [
      | inl many ↦
          let reply = over limits.TooMany (codes "measure") in
          (reply, past ps name rate limits.TooMany reply many refl)
      | inr few ↦ elim (cases_lt (width_of ps) (2 ^ 120)) [
        | inr wide ↦
            let reply = over limits.TooWide (codes "measure") in
            (reply, past ps name rate limits.TooWide reply record { few = few; wide = wide } refl)
        | inl narrow ↦
            let (c, m) = measured_curve flow trace (packets_kept net (rows_of rows_text) trace right) right.in_order few narrow in
            let v = vertical_answered c (bucket zero_q rate) m.curve (bucket_curve zero_q rate zero_small) (line_finite rate) in
            by_burst ps name rate c low m v.0 v.1
      ]
    ]

-- ---- on a trace, and on a network
on_trace : (net : Net) (rows_text name : List ℕ) (rate : ℚ) (trace : SpecTrace) → zero_q ≤ℚ rate
    → IsTraceOf net (rows_of rows_text) trace → (reply : Reply) × IsReplyOnTrace net trace name rate reply
on_trace net rows_text name rate trace low right = elim (flow_or_none net.flows name) [
  | inl found ↦
      let on = on_flow net rows_text name rate trace found.0 low right in
      (on.0, goes_on found.0 found.1 on.1)
  | inr none ↦ (unknown_flow name, stops record { unknown = none; is = refl })
]

on_net : (net : Net) (trace_file trace_bytes name : List ℕ) (rate : ℚ) → zero_q ≤ℚ rate
    → (reply : Reply) × IsReplyOnNet net trace_file trace_bytes name rate reply
on_net net trace_file trace_bytes name rate low = elim (traces_are_read net trace_bytes) [
  | inl read ↦
      let on = on_trace net trace_bytes name rate read.0 low read.1 in
      (on.0, goes_on read.0 read.1 on.1)
  | inr bad ↦ (
    table_fault_reply trace_file record { kind = bad.0; row = bad.1 },
    stops record { fault = record { kind = bad.0; row = bad.1 }; first = bad.2; is = refl },
  )
]

-- ---- on files
by_stage : (net_file net_bytes trace_file trace_bytes name : List ℕ) (rate : ℚ) → zero_q ≤ℚ rate → StopsOrGives net_file net_bytes
    → (reply : Reply) × IsMeasureReply net_file net_bytes trace_file trace_bytes name rate reply
by_stage net_file net_bytes trace_file trace_bytes name rate low (inl none) = (none.0, stops none.1)
by_stage net_file net_bytes trace_file trace_bytes name rate low (inr given) =
    let on = on_net given.0 trace_file trace_bytes name rate low in
    (on.0, goes_on given.0 given.1 on.1)

pub measures_have : MeasuresHaveReplies
measures_have net_file net_bytes trace_file trace_bytes name rate low =
    by_stage net_file net_bytes trace_file trace_bytes name rate low (first_stages net_file net_bytes)
