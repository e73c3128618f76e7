-- The laws of the replies: what a report says, their statuses, completeness, and that there is one.
use Rattle.std.specs.Prelude.{◌≡◌, ◌⊎◌, ℕ, List, length, codes}
use Rattle.std.proofs.Common.{arith, refl, sym, ap, subst, ◌∙◌, inl, inr}
use Rattle.rational.specs.Rational.{ℚ}
use Rattle.rational.proofs.Laws.{antisym}
use Rattle.upp_curve.specs.Curve.{SpecCurve, value_at}
use Rattle.upp_curve.proofs.OneForm.{normal_unique}
use Rattle.upp_limits.specs.declared.own_limits.OverLimit.{OverLimit}
use Rattle.upp_limits.specs.declared.own_limits.OverLimit.TheVariants.{TooMany, TooWide}
use Rattle.upp_limits.specs.declared.op_kind.OpKind.TheVariants.{Vertical}
use Rattle.upp_curve.specs.Kinds.{bucket}
use Rattle.min_plus.specs.Functions.{zero_q}
use Rattle.curve_call.proofs.InTurn.{not_both}
use Rattle.net_model.specs.declared.trace.TracePacket.{TracePacket}
use Rattle.net_model.specs.Accepted.{IsAccepted}
use Rattle.net_model.specs.Names.{IsFlowNamed}
use Rattle.net_model.specs.Networks.{Net}
use Rattle.net_model.specs.Traces.{SpecTrace}
use Rattle.input_texts.specs.table_text.Traces.{IsTraceOf}
use Rattle.input_texts.proofs.table_text.OneTrace.{flow_one}
use Rattle.input_texts.specs.table_text.Rows.{rows_of}
use Rattle.input_texts.proofs.table_text.OneTrace.{trace_one, no_trace}
use Rattle.measure_curve.specs.Windows.{of_flow}
use Rattle.measure_curve.proofs.Kept.{packets_keep_the_curve, kept_curves_are_above, least_arrival_is_one, least_bucket_is_kept}
use Rattle.command_replies.specs.Replies.{Reply, over}
use Rattle.command_replies.specs.OnFiles.{IsBadTraceOf}
use Rattle.outcomes.specs.Stages.{AreAlike, IsEqual, stops, goes_on}
use Rattle.command_replies.proofs.BadTraces.{one_bad_trace}
use Rattle.command_replies.proofs.OneReply.{file_alike, file_reached}
use Rattle.outcomes.proofs.Stages.{one_staged, on_one, reached}
use Rattle.command_replies.proofs.Statuses.{status_is}
use Rattle.commands.specs.measure.OnMeasures.{AreOver, IsMeasured, IsOverBurst, measure_report, IsUnknown, ArePast, IsTooSteep, IsBurstOf}
use Rattle.commands.specs.measure.OnMeasures.{IsReplyOnCurve, IsReplyOnPackets, IsReplyOnTrace, IsReplyOnNet}
use Rattle.commands.specs.measure.Laws.{ReportsAreLeast, StatusesAreFour, RepliesAreComplete, RepliesAreDetermined}

-- ---- what a report says
pub reports_are_least : ReportsAreLeast
reports_are_least net_bytes trace_bytes name rate ps c burst reply h = record {
  kept = packets_keep_the_curve ps (value_at c) h.measured.least;
  least = λ α kept d l. kept_curves_are_above ps (value_at c) α h.measured.least kept d l;
  bucket = least_bucket_is_kept ps (value_at c) rate burst h.measured.least h.burst_is;
}

-- ---- statuses
pub statuses_are_four : StatusesAreFour
statuses_are_four nf nb tf tb name rate reply (stops (inl h)) = inr (inl (status_is reply _ h.is))
statuses_are_four nf nb tf tb name rate reply (stops (inr (TooMany, h))) = inr (inr (inr (status_is reply _ h.is)))
statuses_are_four nf nb tf tb name rate reply (stops (inr (TooWide, h))) = inr (inr (inl (status_is reply _ h.is)))
statuses_are_four nf nb tf tb name rate reply (goes_on net given (stops h)) = inr (inl (status_is reply _ h.is))
statuses_are_four nf nb tf tb name rate reply (goes_on net given (goes_on trace right (stops h))) =
    inr (inl (status_is reply _ h.is))
statuses_are_four nf nb tf tb name rate reply (goes_on net given (goes_on trace right (goes_on k named h))) = by_packets h
  where
    by_packets : IsReplyOnPackets (of_flow k trace.packets) name rate reply
        → (reply.status ≡ 0) ⊎ (reply.status ≡ 1) ⊎ (reply.status ≡ 6) ⊎ (reply.status ≡ 7)
    by_packets (stops (TooMany, h)) = inr (inr (inr (status_is reply _ h.is)))
    by_packets (stops (TooWide, h)) = inr (inr (inl (status_is reply _ h.is)))
    by_packets (goes_on c m (stops (TooMany, h))) = inr (inr (inr (status_is reply _ h.is)))
    by_packets (goes_on c m (stops (TooWide, h))) = inr (inr (inl (status_is reply _ h.is)))
    by_packets (goes_on c m (goes_on burst b is)) = inl (status_is reply _ is)

-- ---- one reply on packets
one_past : (l m : OverLimit) (ps : List TracePacket) → AreOver l ps → AreOver m ps → l ≡ m
one_past TooMany TooMany ps h k = refl
one_past TooWide TooWide ps h k = refl
one_past TooMany TooWide ps h k = absurd (let f = k.few in omega arith)
one_past TooWide TooMany ps h k = absurd (let f = h.few in omega arith)

past_measured : (l : OverLimit) (ps : List TracePacket) (c : SpecCurve) → AreOver l ps → IsMeasured ps c → ⊥
past_measured TooMany ps c h m = m.few h
past_measured TooWide ps c h m = m.narrow h

one_steep : (l m : OverLimit) (rate : ℚ) (c : SpecCurve) → IsOverBurst l rate c → IsOverBurst m rate c → l ≡ m
one_steep TooMany TooMany rate c h k = refl
one_steep TooWide TooWide rate c h k = refl
one_steep TooMany TooWide rate c h k = absurd (not_both Vertical c (bucket zero_q rate) h k)
one_steep TooWide TooMany rate c h k = absurd (not_both Vertical c (bucket zero_q rate) k h)

one_curve : (ps : List TracePacket) (c d : SpecCurve) → IsMeasured ps c → IsMeasured ps d → c ≡ d
one_curve ps c d h k =
    normal_unique c d h.curve.normal k.curve.normal (λ t l. least_arrival_is_one ps (value_at c) (value_at d) h.least k.least t l)

on_curve : (ps : List TracePacket) (name : List ℕ) (rate : ℚ) (c : SpecCurve)
    → AreAlike IsEqual (IsReplyOnCurve ps name rate c)
on_curve ps name rate c =
    one_staged (IsTooSteep rate c) (IsBurstOf rate c) (λ burst reply. reply ≡ measure_report name (length ps) c burst rate)
    IsEqual (λ r burst h b. b.within h.0 h.1.past)
    (λ x y h k. h.1.is ∙ ap (λ n. over n (codes "burst")) (one_steep h.0 k.0 rate c h.1.past k.1.past) ∙ sym k.1.is)
    (λ a b x y h k e f. e ∙ ap (λ (q : ℚ). measure_report name (length ps) c q rate) (one_burst a b h k) ∙ sym f)
  where
    one_burst : (a b : ℚ) → IsBurstOf rate c a → IsBurstOf rate c b → a ≡ b
    one_burst a b h k = antisym (h.least.least b k.least.above, k.least.least a h.least.above)

on_packets : (ps : List TracePacket) (name : List ℕ) (rate : ℚ) → AreAlike IsEqual (IsReplyOnPackets ps name rate)
on_packets ps name rate =
    one_staged (ArePast ps) (IsMeasured ps) (IsReplyOnCurve ps name rate) IsEqual
    (λ r c h m. past_measured h.0 ps c h.1.past m)
    (λ x y h k. h.1.is ∙ ap (λ n. over n (codes "measure")) (one_past h.0 k.0 ps h.1.past k.1.past) ∙ sym k.1.is)
    (on_one (IsMeasured ps) (IsReplyOnCurve ps name rate) IsEqual (one_curve ps) (λ c m. on_curve ps name rate c))

-- ---- one reply
on_trace : (net : Net) (trace : SpecTrace) (name : List ℕ) (rate : ℚ) → IsAccepted net
    → AreAlike IsEqual (IsReplyOnTrace net trace name rate)
on_trace net trace name rate a =
    one_staged (IsUnknown net name) (IsFlowNamed net.flows name)
    (λ k. IsReplyOnPackets (of_flow k trace.packets) name rate) IsEqual (λ r k h named. h.unknown k named)
    (λ x y h k. h.is ∙ sym k.is)
    (on_one (IsFlowNamed net.flows name) (λ k. IsReplyOnPackets (of_flow k trace.packets) name rate) IsEqual
    (λ i j h k. flow_one net name i j a h k) (λ k named. on_packets (of_flow k trace.packets) name rate))

on_net : (net : Net) (tf tb name : List ℕ) (rate : ℚ) → IsAccepted net
    → AreAlike IsEqual (IsReplyOnNet net tf tb name rate)
on_net net tf tb name rate a =
    one_staged (IsBadTraceOf net tf tb) (IsTraceOf net (rows_of tb)) (λ trace. IsReplyOnTrace net trace name rate)
    IsEqual (λ r trace h right. no_trace net tb h.fault.kind h.fault.row trace a h.first right)
    (λ x y h k. one_bad_trace net tf tb x y a h k)
    (on_one (IsTraceOf net (rows_of tb)) (λ trace. IsReplyOnTrace net trace name rate) IsEqual
    (λ x y h k. trace_one net (rows_of tb) x y a h k) (λ trace right. on_trace net trace name rate a))

pub replies_are_determined : RepliesAreDetermined
replies_are_determined nf nb tf tb name rate x y h k =
    file_alike IsEqual (λ r s same. same) nf nb (λ net. IsReplyOnNet net tf tb name rate)
    (λ net given. on_net net tf tb name rate given.accepted) x y h k

-- ---- completeness
packets_complete : (name : List ℕ) (rate : ℚ) (ps : List TracePacket) (reply : Reply)
    → ((limit : OverLimit) → ¬ (AreOver limit ps))
    → ((c : SpecCurve) → IsMeasured ps c → (limit : OverLimit) → ¬ (IsOverBurst limit rate c))
    → IsReplyOnPackets ps name rate reply → reply.status ≡ 0
packets_complete name rate ps reply narrow burst (stops h) = absurd (narrow h.0 h.1.past)
packets_complete name rate ps reply narrow burst (goes_on c m (stops h)) = absurd (burst c m h.0 h.1.past)
packets_complete name rate ps reply narrow burst (goes_on c m (goes_on b k is)) = status_is reply _ is

pub replies_are_complete : RepliesAreComplete
replies_are_complete nf nb tf tb name rate reply w h =
    let own = w.own in
    let net = own.net in
    let on = file_reached nf nb (λ n. IsReplyOnNet n tf tb name rate) net reply own.read.network.reads h in
    let traced =
    reached (IsBadTraceOf net tf tb) (IsTraceOf net (rows_of tb)) (λ t. IsReplyOnTrace net t name rate) own.trace reply
    (λ bad. no_trace net tb bad.fault.kind bad.fault.row own.trace on.accepted bad.first own.read.trace_is)
    (λ t right. trace_one net (rows_of tb) t own.trace on.accepted right own.read.trace_is) on.said in
    let packets =
    reached (IsUnknown net name) (IsFlowNamed net.flows name)
    (λ k. IsReplyOnPackets (of_flow k own.trace.packets) name rate) own.number reply
    (λ none. none.unknown own.number own.named)
    (λ k named. flow_one net name k own.number on.accepted named own.named) traced in
    packets_complete name rate (of_flow own.number own.trace.packets) reply
    (subst (λ (ps : List TracePacket). (limit : OverLimit) → ¬ (AreOver limit ps)) own.are w.narrow)
    (subst (λ (ps : List TracePacket). (c : SpecCurve) → IsMeasured ps c → (limit : OverLimit)
    → ¬ (IsOverBurst limit rate c)) own.are w.burst)
    packets
