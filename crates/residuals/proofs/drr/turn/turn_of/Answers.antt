use Rattle.std.proofs.Common.{◌<◌, arith, length, get_or, sum}
use Rattle.residual_laws.proofs.Owed.{in_sum}
use Rattle.residuals.proofs.calls.Numbers.{quanta_small, sum_some, owed_whole}
use Rattle.residuals.proofs.drr.turn.turn_of.Goals as goal

pub quanta_sum-all-requires : goal.quanta_sum-all-requires
quanta_sum-all-requires c = let most = quanta_small c.args.quanta.now c.args.longest.now c.requires.queues in omega
    arith

pub quotient-requires : goal.quotient-requires
quotient-requires c = rw c.quanta_sum-all.ensures (sum_some c.args.quanta.now c.args.longest.now c.args.queue
    c.requires.queues c.requires.queue)

pub quotient-requires-2 : goal.quotient-requires-2
quotient-requires-2 c = rw c.quanta_sum-all.ensures (sum_some c.args.quanta.now c.args.longest.now c.args.queue
    c.requires.queues c.requires.queue)

pub owed_bits-requires-clause-quantum : goal.owed_bits-requires-clause-quantum
owed_bits-requires-clause-quantum c = rw c.quanta_sum-all.ensures (in_sum c.args.quanta.now c.args.queue
    c.requires.queue)

pub owed_bits-requires-clause-quanta : goal.owed_bits-requires-clause-quanta
owed_bits-requires-clause-quanta c = rw c.quanta_sum-all.ensures (quanta_small c.args.quanta.now c.args.longest.now
    c.requires.queues)

pub returns-clause-owed : goal.returns-clause-owed
returns-clause-owed c =
    let queue : c.args.queue < length c.args.longest.now = rw c.requires.queues.paired c.requires.queue in
    rw (
      c.quotient-2.ensures,
      c.owed_bits.ensures,
      c.quanta_sum-all.ensures,
      c.longest_sum-packets.ensures.sum,
      c.from-packet.ensures,
    )
    (owed_whole (get_or c.args.quanta.now c.args.queue 0) (get_or c.args.longest.now c.args.queue 0) (sum
    c.args.quanta.now) (sum c.args.longest.now)
    (in_sum c.args.quanta.now c.args.queue c.requires.queue) (in_sum c.args.longest.now c.args.queue queue))
