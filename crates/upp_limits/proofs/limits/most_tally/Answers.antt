use Rattle.upp_curve.specs.Unrolled.{count}
use Rattle.upp_limits.specs.Gauges.{tally_over}
use Rattle.upp_limits.proofs.SpanNumbers.{if_some_map}
use Rattle.upp_limits.proofs.limits.most_tally.Goals as goal

pub returns-in-Some-most_below : goal.returns-in-Some-most_below
unfolding tally_over
returns-in-Some-most_below c =
    if_some_map c.most_of_both.result _ _ (λ m f. f (count c.args.f.now c.args.end) (count c.args.g.now c.args.end) c.in-Some.ensures c.in-Some-most_below.ensures) c.most_of_both.ensures
