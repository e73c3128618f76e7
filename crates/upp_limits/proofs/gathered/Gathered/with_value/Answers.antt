use Rattle.std.proofs.Common.{subst}
use Rattle.rational.specs.Gauge.{Kept, lcm, common_den}
use Rattle.upp_limits.proofs.Gathering.{gathers_value}
use Rattle.upp_limits.proofs.gathered.Gathered.with_value.Goals as goal

pub returns : goal.returns
returns c = λ n h.
    gathers_value c.args.self n c.args.x c.common_multiple.result c.size_up.result c.max.result h
    (subst (λ d. Kept c.common_multiple.result (lcm d (common_den n.values))) c.sizes-bottom.ensures.bottom (c.common_multiple.ensures (common_den n.values) h.dv))
    c.size_up.ensures c.size_up.type_inv c.max.ensures
