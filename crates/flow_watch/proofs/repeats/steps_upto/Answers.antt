use Rattle.std.proofs.Common.{refl, subst}
use Rattle.std.proofs.lemmas.Option.{IfSome_then}
use Rattle.rational.specs.Rational.{ℚ, ◌<ℚ◌}
use Rattle.flow_watch.proofs.Repeated.{steps_kept}
use Rattle.flow_watch.proofs.repeats.steps_upto.Goals as goal

pub returns : goal.returns
returns c =
    IfSome_then c.seen_upto.result c.seen_upto.ensures
    (λ upto K. steps_kept c.args.value c.args.end c.args.period c.args.rise c.in-Some.cover.count c.args.entries.now c.in-Some.cover c.in-Some-climb_to.climb upto
    (subst (λ (z : ℚ). z <ℚ c.args.rise) c.zero.ensures (c.if-not-is_less.ensures.less.0 refl)) c.in-Some.ensures c.in-Some-climb_to.ensures K)
