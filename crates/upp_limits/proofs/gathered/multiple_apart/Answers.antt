use Rattle.std.proofs.Common.{arith, ◌<◌}
use native.Mathlib.Nat.{pos_of_dvd_of_pos}
use Rattle.rational.specs.Gcd.{gcd}
use Rattle.rational.specs.Euclid.{gcd_is}
use Rattle.rational.proofs.Gauges.{kept_lcm, kept_lcm_big}
use Rattle.upp_limits.proofs.Gathering.{same_lcm}
use Rattle.upp_limits.proofs.gathered.multiple_apart.Goals as goal

pub returns-then-b-eq340282366920938463463374607431768211455 : goal.returns-then-b-eq340282366920938463463374607431768211455
returns-then-b-eq340282366920938463463374607431768211455 c =
    λ n k. kept_lcm_big c.args.a c.args.b n c.requires c.if-b-eq340282366920938463463374607431768211455.true k

pub returns-then-a-b : goal.returns-then-a-b
returns-then-a-b c = λ n k. same_lcm c.args.a c.args.b n c.if-a-b.true c.if-b-eq340282366920938463463374607431768211455.false k

pub nonzero_div-a : goal.nonzero_div-a
nonzero_div-a c =
    let e = c.gcd_of.ensures in
    let h : 0 < gcd c.args.a c.args.b = pos_of_dvd_of_pos (gcd_is c.args.a c.args.b).0 c.requires in
    omega (arith, e, h)

pub returns : goal.returns
returns c =
    λ n k. kept_lcm c.args.a c.args.b n c.gcd_of.result c.saturating_mul.result c.requires c.if-b-eq340282366920938463463374607431768211455.false c.gcd_of.ensures c.saturating_mul.ensures k
