use Rattle.std.proofs.lemmas.Result.{IfErr-weaker}
use Rattle.upp_curve.specs.Curve.{value_at}
use Rattle.plain_operators.proofs.running.LeftLimits.{left_between}
use Rattle.plain_operators.proofs.running.Served.{theta_nonneg}
use Rattle.plain_operators.proofs.running.leftover.refuse_behind.Goals as goal

pub refuse_between-requires-clause-forward : goal.refuse_between-requires-clause-forward
refuse_between-requires-clause-forward c = theta_nonneg (value_at c.args.beta.now) (value_at c.args.cross.now) c.args.theta c.requires.served

pub refuse_between-requires-clause-curves : goal.refuse_between-requires-clause-curves
refuse_between-requires-clause-curves c = (c.requires.curve, c.requires.other)

pub returns : goal.returns
returns c =
    IfErr-weaker c.refuse_between.result _ _
    (λ e h. left_between c.args.theta c.args.beta.now c.args.cross.now c.behind_bounds-bounds.result e c.behind_bounds-bounds.ensures h) c.refuse_between.ensures
