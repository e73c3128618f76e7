use Rattle.std.proofs.Common.{◌*◌}
use Rattle.rational.proofs.Gauges.{kept_six, kept_exact}
use Rattle.upp_limits.proofs.gauges.product.Goals as goal

pub returns-then-whole : goal.returns-then-whole
returns-then-whole c = λ V S DV DT DS kv ks kdv kdt kds.
    (kept_exact c.saturating_mul-whole.result (V * S * DV * DT * DS * DS)
    (kept_six c.args.v c.args.s c.args.dv c.args.dt c.args.ds V S DV DT DS _ _ _ _ _ _ kv ks kdv kdt kds
    c.saturating_mul.ensures c.saturating_mul-2.ensures c.saturating_mul-3.ensures c.saturating_mul-4.ensures c.saturating_mul-product.ensures c.saturating_mul-whole.ensures)).1 c.if-whole.true

pub returns-else-whole : goal.returns-else-whole
returns-else-whole c = λ V S DV DT DS kv ks kdv kdt kds.
    (kept_exact c.saturating_mul-whole.result (V * S * DV * DT * DS * DS)
    (kept_six c.args.v c.args.s c.args.dv c.args.dt c.args.ds V S DV DT DS _ _ _ _ _ _ kv ks kdv kdt kds
    c.saturating_mul.ensures c.saturating_mul-2.ensures c.saturating_mul-3.ensures c.saturating_mul-4.ensures c.saturating_mul-product.ensures c.saturating_mul-whole.ensures)).0 c.if-whole.false
