use Rattle.std.proofs.Common.{arith, ◌≡◌, ◌+◌, suc}
use Rattle.subadd_closure.proofs.TurnSteps.{falling_fits, falling_is}
use Rattle.subadd_closure.proofs.multiples.falling_turn.Goals as goal

pub returns-in_err-at-clause-fits : goal.returns-in_err-at-clause-fits
returns-in_err-at-clause-fits c =
    let e : c.args.n + 1 ≡ suc c.args.n = omega arith in
    λ h. rw c.from_residual-in_err-at.ensures
    (c.in_err-at.ensures.fits
    (falling_fits c.args.a c.args.line.now c.args.n (c.args.n + 1) c.in_ok-x.x c.in_ok-next.next c.in_ok-after.after e
    c.in_ok-x.ensures.value c.in_ok-next.ensures.value c.in_ok-after.ensures.value h))

pub returns-clause-value : goal.returns-clause-value
returns-clause-value c =
    let e : c.args.n + 1 ≡ suc c.args.n = omega arith in
    falling_is c.args.a c.args.line.now c.args.n (c.args.n + 1) c.in_ok-x.x c.in_ok-next.next c.in_ok-after.after e
    c.in_ok-x.ensures.value c.in_ok-next.ensures.value c.in_ok-after.ensures.value c.in_ok-at.at c.in_ok-at.ensures.value
