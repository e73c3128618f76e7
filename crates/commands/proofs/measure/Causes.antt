-- Each status of a reply has its cause.
use Rattle.std.proofs.Common.{ℕ, List, refl, inl, inr}
use Rattle.rational.specs.Rational.{ℚ}
use Rattle.upp_limits.specs.declared.own_limits.OverLimit.TheVariants.{TooMany, TooWide}
use Rattle.net_model.specs.declared.trace.TracePacket.{TracePacket}
use Rattle.command_replies.specs.Replies.{Reply}
use Rattle.outcomes.specs.Stages.{stops, goes_on}
use Rattle.command_replies.proofs.Causes.{done, malformed, wide, many, on_no_network}
use Rattle.command_replies.proofs.Statuses.{status_is}
use Rattle.commands.specs.measure.OnMeasures.{AreOwn, IsReplyOnPackets}
use Rattle.commands.specs.measure.MeasureCauses.{HasCause, StatusesHaveCauses}

-- on the packets of the live flow with the name
on_own : (nf nb tf tb name : List ℕ) (rate : ℚ) (ps : List TracePacket) (reply : Reply) → AreOwn nb tb name ps
    → IsReplyOnPackets ps name rate reply → HasCause nf nb tf tb name rate reply
on_own nf nb tf tb name rate ps reply own (stops (TooMany, h)) =
    many reply (status_is reply _ h.is) (inr (inl record { packets = ps; own = own; past = h.past; is = h.is }))
on_own nf nb tf tb name rate ps reply own (stops (TooWide, h)) =
    wide reply (status_is reply _ h.is) (inr (inl record { packets = ps; own = own; past = h.past; is = h.is }))
on_own nf nb tf tb name rate ps reply own (goes_on c m (stops (TooMany, h))) =
    many reply (status_is reply _ h.is)
    (inr (inr record { packets = ps; own = own; curve = c; measured = m; past = h.past; is = h.is }))
on_own nf nb tf tb name rate ps reply own (goes_on c m (stops (TooWide, h))) =
    wide reply (status_is reply _ h.is)
    (inr (inr record { packets = ps; own = own; curve = c; measured = m; past = h.past; is = h.is }))
on_own nf nb tf tb name rate ps reply own (goes_on c m (goes_on burst b is)) =
    done reply (status_is reply _ is)
    (ps, c, burst, record { own = own; measured = m; within = b.within; burst_is = b.least; is = is })

pub causes : StatusesHaveCauses
causes nf nb tf tb name rate reply (stops h) =
    on_no_network reply nf nb h (λ k. inl k) (λ k. inl k) (λ k. inl k)
causes nf nb tf tb name rate reply (goes_on net given (stops h)) =
    malformed reply (status_is reply _ h.is) (inr (inl (net, given, h)))
causes nf nb tf tb name rate reply (goes_on net given (goes_on trace right (stops h))) =
    malformed reply (status_is reply _ h.is)
    (inr (inr record {
      net = net;
      trace = trace;
      read = record { network = given; trace_is = right };
      unknown = h.unknown;
      is = h.is;
    }))
causes nf nb tf tb name rate reply (goes_on net given (goes_on trace right (goes_on k named h))) =
    on_own nf nb tf tb name rate _ reply
    record {
      net = net;
      trace = trace;
      read = record { network = given; trace_is = right };
      number = k;
      named = named;
      are = refl;
    }
    h
