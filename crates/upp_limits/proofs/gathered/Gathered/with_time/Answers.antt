use Rattle.std.proofs.Common.{subst}
use Rattle.rational.specs.Gauge.{Kept, lcm, common_den}
use Rattle.upp_limits.proofs.Gathering.{gathers_time}
use Rattle.upp_limits.proofs.gathered.Gathered.with_time.Goals as goal

pub returns : goal.returns
returns c = λ n h.
    gathers_time c.args.self n c.args.x c.common_multiple.result h
    (subst (λ d. Kept c.common_multiple.result (lcm d (common_den n.times))) c.sizes-bottom.ensures.bottom (c.common_multiple.ensures (common_den n.times) h.dt))
