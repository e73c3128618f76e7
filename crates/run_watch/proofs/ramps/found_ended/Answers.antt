use Rattle.std.proofs.Common.{rules}
use Rattle.std.proofs.lemmas.List.Sorted.{IsPartitionPoint-from_clause}
use Rattle.run_watch.proofs.RampLists.{ends_before, parted_before}
use Rattle.run_watch.proofs.ramps.found_ended.Goals as goal

pub returns : goal.returns
returns c =
    let point = IsPartitionPoint-from_clause (ends_before c.args.t) _ _ c.partition_point.ensures.partitioned (parted_before c.args.ramps.now c.args.t c.requires) (λ a r q k. search rules) in
    record { few = c.partition_point.ensures.bound; before = point.0; later = point.1 }
