use Rattle.std.proofs.Common.{arith, subst, sym}
use Rattle.std.proofs.Math.Nat.{le-max_left, le-max_right}
use Rattle.upp_limits.specs.Covered.{AreMostRises}
use Rattle.upp_limits.proofs.CoveredCalls.{more_rise}
use Rattle.upp_limits.proofs.first_copies.most_rises.Goals as goal

pub returns-in-Some-most_rise : goal.returns-in-Some-most_rise
returns-in-Some-most_rise c =
    let a = c.in-Some.first in
    let b = c.in-Some-most_rise.second in
    let l = le-max_left a b in
    let k = le-max_right a b in
    let e = c.max.ensures in
    let m = c.max.result in
    subst (λ o. AreMostRises o c.args.end c.args.f.now c.args.other.now m) (sym c.in-Both.is)
    (more_rise c.args.f.now.tail c.args.end a m (omega (arith, l, e)) c.in-Some.ensures, more_rise c.args.other.now.tail c.args.end b m (omega (arith, k, e)) c.in-Some-most_rise.ensures)
