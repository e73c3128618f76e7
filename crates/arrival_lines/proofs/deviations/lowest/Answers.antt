use Rattle.std.proofs.Common.{ℕ, ◌≡◌, arith, subst}
use Rattle.arrival_lines.proofs.Lowest.{IsBetween, lowest_is}
use Rattle.arrival_lines.proofs.deviations.lowest.Goals as goal

pub returns-clause-least : goal.returns-clause-least
returns-clause-least c = λ parts are.
    let steps = c.args.steps.now in
    let order = c.loop-low.invariant.order in
    let e : c.loop-low.high ≡ c.loop-low.low = omega (arith, order, c.loop-low-test.false) in
    let P : ℕ → Type 0 = λ high. IsBetween steps c.args.slow c.args.waiting c.args.rate c.loop-low.low high in
    lowest_is parts steps c.args.slow c.args.waiting c.args.rate c.loop-low.low are c.requires.some (subst P e c.loop-low.invariant)
