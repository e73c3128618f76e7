use Rattle.std.proofs.Common.{arith, ap, refl, length}
use Rattle.arrival_stairs.proofs.Swept.{all_swept, known, left_before, left_last, more_totals, none_swept, one_more_swept, small_left, totals_most}
use Rattle.arrival_stairs.proofs.walk.heights_until.Goals as goal

pub loop-turn-init : goal.loop-turn-init
loop-turn-init c =
    none_swept c.args.bundles.now c.deref-turn-items.result.now c.args.end c.at_picosecond-begin.result _ _ c.new-heights.result.items c.at_picosecond-begin.ensures refl refl refl c.new-heights.ensures.items

pub add_ends_before-requires-clause-left : goal.add_ends_before-requires-clause-left
add_ends_before-requires-clause-left c = λ come.
    let k = known c.args.bundles.now _ c.deref-turn-items.result.now c.args.end c.requires.bundles c.requires.few c.deref-turn-items.ensures.value c.in_ok-turns.ensures.are
    c.in_ok-turns.ensures.order in
    left_before c.args.bundles.now c.deref-turn-items.result.now 0 c.args.end c.loop-turn.turn-index c.loop-turn.begin _ c.loop-turn.on c.loop-turn.off k.all k.small k.slow
    (c.loop-turn.invariant.each 0) c.loop-turn.invariant.totals k.order c.loop-turn-test.true come

pub add_ends_before-requires-clause-begin : goal.add_ends_before-requires-clause-begin
add_ends_before-requires-clause-begin c = (c.loop-turn.invariant.each 0).moment

pub with_line-on-requires-clause-burst : goal.with_line-on-requires-clause-burst
with_line-on-requires-clause-burst c =
    let k = known c.args.bundles.now _ c.deref-turn-items.result.now c.args.end c.requires.bundles c.requires.few c.deref-turn-items.ensures.value c.in_ok-turns.ensures.are
    c.in_ok-turns.ensures.order in
    let l = c.len-count.ensures in
    let m = ap length c.deref-turn-items.ensures.value in
    (totals_most c.deref-turn-items.result.now c.loop-turn.turn-index c.args.end c.len-count.result c.loop-turn.on c.loop-turn.off (omega (arith, l, m)) k.all.each c.loop-turn.invariant.totals).on_burst

pub with_line-on-requires-clause-rate : goal.with_line-on-requires-clause-rate
with_line-on-requires-clause-rate c =
    let k = known c.args.bundles.now _ c.deref-turn-items.result.now c.args.end c.requires.bundles c.requires.few c.deref-turn-items.ensures.value c.in_ok-turns.ensures.are
    c.in_ok-turns.ensures.order in
    let l = c.len-count.ensures in
    let m = ap length c.deref-turn-items.ensures.value in
    (totals_most c.deref-turn-items.result.now c.loop-turn.turn-index c.args.end c.len-count.result c.loop-turn.on c.loop-turn.off (omega (arith, l, m)) k.all.each c.loop-turn.invariant.totals).on_rate

pub with_line-off-requires-clause-burst : goal.with_line-off-requires-clause-burst
with_line-off-requires-clause-burst c =
    let k = known c.args.bundles.now _ c.deref-turn-items.result.now c.args.end c.requires.bundles c.requires.few c.deref-turn-items.ensures.value c.in_ok-turns.ensures.are
    c.in_ok-turns.ensures.order in
    let l = c.len-count.ensures in
    let m = ap length c.deref-turn-items.ensures.value in
    (totals_most c.deref-turn-items.result.now c.loop-turn.turn-index c.args.end c.len-count.result c.loop-turn.on c.loop-turn.off (omega (arith, l, m)) k.all.each c.loop-turn.invariant.totals).off_burst

pub with_line-off-requires-clause-rate : goal.with_line-off-requires-clause-rate
with_line-off-requires-clause-rate c =
    let k = known c.args.bundles.now _ c.deref-turn-items.result.now c.args.end c.requires.bundles c.requires.few c.deref-turn-items.ensures.value c.in_ok-turns.ensures.are
    c.in_ok-turns.ensures.order in
    let l = c.len-count.ensures in
    let m = ap length c.deref-turn-items.ensures.value in
    (totals_most c.deref-turn-items.result.now c.loop-turn.turn-index c.args.end c.len-count.result c.loop-turn.on c.loop-turn.off (omega (arith, l, m)) k.all.each c.loop-turn.invariant.totals).off_rate

pub loop-turn-preserved : goal.loop-turn-preserved
loop-turn-preserved c =
    let turns = c.deref-turn-items.result.now in
    let k = known c.args.bundles.now _ c.deref-turn-items.result.now c.args.end c.requires.bundles c.requires.few c.deref-turn-items.ensures.value c.in_ok-turns.ensures.are
    c.in_ok-turns.ensures.order in
    one_more_swept c.args.bundles.now c.requires.bundles turns c.args.end c.loop-turn.turn-index c.loop-turn.begin c.loop-turn.on c.loop-turn.off c.loop-turn.heights.items
    c.add_ends_before.new.heights.items k.all k.order c.loop-turn.invariant c.with_line-on.result c.with_line-off.result c.loop-turn-test.true
    c.in_ok-add_ends_before.ensures.some c.in_ok-add_ends_before.ensures.none
    (left_before c.args.bundles.now turns 0 c.args.end c.loop-turn.turn-index c.loop-turn.begin _ c.loop-turn.on c.loop-turn.off k.all k.small k.slow
    (c.loop-turn.invariant.each 0) c.loop-turn.invariant.totals k.order c.loop-turn-test.true)
    (more_totals turns c.loop-turn.turn-index c.loop-turn.on c.loop-turn.off c.with_line-on.result c.with_line-off.result c.loop-turn-test.true
    c.with_line-on.ensures.burst c.with_line-on.ensures.rate c.with_line-off.ensures.burst c.with_line-off.ensures.rate c.loop-turn.invariant.totals)

pub line_left-requires : goal.line_left-requires
line_left-requires c =
    let k = known c.args.bundles.now _ c.deref-turn-items.result.now c.args.end c.requires.bundles c.requires.few c.deref-turn-items.ensures.value c.in_ok-turns.ensures.are
    c.in_ok-turns.ensures.order in
    left_last c.args.bundles.now c.deref-turn-items.result.now 0 c.args.end c.loop-turn.turn-index c.loop-turn.begin _ c.loop-turn.on c.loop-turn.off k.all k.small k.slow
    (c.loop-turn.invariant.each 0) c.loop-turn.invariant.totals c.loop-turn-test.false

pub add_ends-requires-clause-line : goal.add_ends-requires-clause-line
add_ends-requires-clause-line c =
    let k = known c.args.bundles.now _ c.deref-turn-items.result.now c.args.end c.requires.bundles c.requires.few c.deref-turn-items.ensures.value c.in_ok-turns.ensures.are
    c.in_ok-turns.ensures.order in
    small_left c.loop-turn.on c.loop-turn.off c.line_left.result
    (left_last c.args.bundles.now c.deref-turn-items.result.now 0 c.args.end c.loop-turn.turn-index c.loop-turn.begin _ c.loop-turn.on c.loop-turn.off k.all k.small k.slow
    (c.loop-turn.invariant.each 0) c.loop-turn.invariant.totals c.loop-turn-test.false)
    c.line_left.ensures.burst c.line_left.ensures.rate

pub add_ends-requires-clause-begin : goal.add_ends-requires-clause-begin
add_ends-requires-clause-begin c = (c.loop-turn.invariant.each 0).moment

pub returns-clause-moments : goal.returns-clause-moments
returns-clause-moments c =
    let k = known c.args.bundles.now _ c.deref-turn-items.result.now c.args.end c.requires.bundles c.requires.few c.deref-turn-items.ensures.value c.in_ok-turns.ensures.are
    c.in_ok-turns.ensures.order in
    (all_swept c.args.bundles.now c.requires.bundles c.deref-turn-items.result.now c.args.end c.loop-turn.turn-index c.loop-turn.begin c.loop-turn.on c.loop-turn.off c.loop-turn.heights.items
    c.add_ends.new.heights.items k.all k.order c.loop-turn.invariant c.line_left.result c.at_picosecond.result c.loop-turn-test.false c.requires.end c.at_picosecond.ensures
    c.line_left.ensures.burst c.line_left.ensures.rate c.in_ok-add_ends.ensures).moments

pub returns-clause-greatest : goal.returns-clause-greatest
returns-clause-greatest c =
    let k = known c.args.bundles.now _ c.deref-turn-items.result.now c.args.end c.requires.bundles c.requires.few c.deref-turn-items.ensures.value c.in_ok-turns.ensures.are
    c.in_ok-turns.ensures.order in
    (all_swept c.args.bundles.now c.requires.bundles c.deref-turn-items.result.now c.args.end c.loop-turn.turn-index c.loop-turn.begin c.loop-turn.on c.loop-turn.off c.loop-turn.heights.items
    c.add_ends.new.heights.items k.all k.order c.loop-turn.invariant c.line_left.result c.at_picosecond.result c.loop-turn-test.false c.requires.end c.at_picosecond.ensures
    c.line_left.ensures.burst c.line_left.ensures.rate c.in_ok-add_ends.ensures).greatest
