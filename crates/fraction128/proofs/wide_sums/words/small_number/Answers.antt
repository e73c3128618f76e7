use Rattle.std.proofs.Common.{◌-◌, get_or, refl, arith}
use Rattle.fraction128.proofs.wide_sums.Numbers.{number_above, lower}
use Rattle.fraction128.proofs.wide_sums.words.small_number.Goals as goal

pub returns-then-value : goal.returns-then-value
returns-then-value c =
    let far = number_above c.args.words.now c.loop-place.place c.loop-place-test.true in
    omega (arith, far)

pub loop-place-preserved : goal.loop-place-preserved
loop-place-preserved c =
    let ws = c.args.words.now in
    let i = c.loop-place.place in
    let here = lower ws i (get_or ws (i - 1) 0) c.loop-place-test.true c.loop-place.auto.place refl in
    let before = c.loop-place.invariant.value in
    let narrow = c.if-value.false in
    record { value = omega (arith, here, before); small = omega (arith, narrow) }
