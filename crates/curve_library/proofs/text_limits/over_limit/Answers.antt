use Rattle.std.proofs.Common.{arith}
use Rattle.curve_library.proofs.LimitParts.{tally_is}
use Rattle.curve_library.proofs.text_limits.over_limit.Goals as goal

pub returns-then-texts : goal.returns-then-texts
returns-then-texts c =
    let tally = tally_is c.args.texts.now c.args.tail.now c.requires in
    let many = c.if-texts.true in
    (c.is_narrow.ensures.0 c.if-not-is_narrow.false, omega (arith, tally, many))

pub returns : goal.returns
returns c =
    let tally = tally_is c.args.texts.now c.args.tail.now c.requires in
    let few = c.if-texts.false in
    record { narrow = c.is_narrow.ensures.0 c.if-not-is_narrow.false; few = omega (arith, tally, few) }
