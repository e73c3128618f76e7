use Rattle.std.proofs.Common.{◌≤◌, arith}
use Rattle.upp_curve.specs.Curve.{value_at}
use Rattle.flow_watch.proofs.FirstPackets.{reads_in, none_in}
use Rattle.flow_watch.proofs.flows.seen_within.Goals as goal

pub seen_kept-seen-requires : goal.seen_kept-seen-requires
seen_kept-seen-requires c = reads_in c.args.arrival.now c.args.entries.now c.args.most c.requires

pub returns-then-seen-most : goal.returns-then-seen-most
returns-then-seen-most c =
    let few : c.seen_kept-seen.result ≤ c.args.most = omega arith in
    none_in (value_at c.args.arrival.now) c.args.entries.now c.args.most c.seen_kept-seen.result few c.seen_kept-seen.ensures
