use Rattle.std.proofs.Common.{get_or, arith, below_more}
use Rattle.tree_network.specs.Spots.{spot_at}
use Rattle.tree_network.specs.Turns.{NoneComesLate}
use Rattle.tree_network.proofs.Lates.{first_late}
use Rattle.tree_network.proofs.ring.waits_for.Goals as goal

pub late_source-requires : goal.late_source-requires
late_source-requires c = c.requires.from (get_or c.args.numbers.now c.loop-n.n-index 0) (c.requires.inside c.loop-n.n-index 0 c.loop-n-test.true)

pub returns-in-Some : goal.returns-in-Some
returns-in-Some c =
    first_late c.args.spots.now c.args.is_done.now c.args.numbers.now c.loop-n.n-index c.in-Some.port c.loop-n-test.true c.requires.rise
    c.loop-n.invariant c.in-Some.ensures

pub loop-n-preserved : goal.loop-n-preserved
loop-n-preserved c =
    below_more (λ k. NoneComesLate c.args.is_done.now (spot_at c.args.spots.now (get_or c.args.numbers.now k 0)).source) c.loop-n.n-index c.loop-n.invariant c.in_default.ensures

pub returns : goal.returns
returns c = λ a l.
    let lt = l.inside in
    c.loop-n.invariant l.place (omega (arith, lt, c.loop-n-test.false)) a record { from = l.from; free = l.free }
