use Rattle.std.proofs.Common.{arith}
use Rattle.std.proofs.lemmas.List.Sums.{sum_by-le, sum_by_more_le}
use Rattle.tree_network.specs.Networks.{longest_frame}
use Rattle.port_bounds.proofs.services.sum_of.Goals as goal

pub overflow_add-all : goal.overflow_add-all
unfolding longest_frame
overflow_add-all c =
    let most = sum_by-le (λ x. x) longest_frame c.args.quanta.now c.requires.range in
    let more = sum_by_more_le (λ x. x) c.args.quanta.now c.loop-quantum.quantum-index 0 c.loop-quantum-test.true in
    omega (arith, most, more, c.loop-quantum.invariant, c.requires.few)
