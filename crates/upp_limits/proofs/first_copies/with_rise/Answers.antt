use Rattle.upp_limits.proofs.CoveredCalls.{gathers_above, largest_above}
use Rattle.upp_limits.proofs.first_copies.with_rise.Goals as goal

pub returns-in-Some-whole : goal.returns-in-Some-whole
returns-in-Some-whole c = λ n end h. (
  c.in-Some.most,
  largest_above c.args.found n end c.args.rise c.in-Some.most h c.if-found-eq340282366920938463463374607431768211455.false c.in-Some.ensures.1,
  gathers_above c.args.found c.with_value.result n end c.in-Some-whole.bound c.in-Some.most c.in-Some-whole.ensures.value h c.with_value.ensures,
)
