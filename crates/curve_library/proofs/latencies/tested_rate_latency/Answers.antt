use Rattle.curve_library.proofs.SignTests.{nonneg_out}
use Rattle.curve_library.proofs.latencies.tested_rate_latency.Goals as goal

pub nonneg_rate_latency-requires-clause-rate : goal.nonneg_rate_latency-requires-clause-rate
nonneg_rate_latency-requires-clause-rate c = nonneg_out c.is_negative.result c.args.rate c.is_negative.ensures c.if-is_negative.false

pub nonneg_rate_latency-requires-clause-latency : goal.nonneg_rate_latency-requires-clause-latency
nonneg_rate_latency-requires-clause-latency c = nonneg_out c.is_negative-2.result c.args.latency c.is_negative-2.ensures c.if-is_negative-2.false
