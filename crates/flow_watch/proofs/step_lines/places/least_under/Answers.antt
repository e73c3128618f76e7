use Rattle.std.proofs.Common.{◌+◌, ◌<◌, ◌≤◌, length, arith, rules}
use Rattle.std.proofs.lemmas.List.Sorted.{IsPartitionPoint-from_clause}
use Rattle.run_laws.specs.Counts.{before}
use Rattle.flow_watch.proofs.step_lines.SortedParts.{parted, is_among}
use Rattle.flow_watch.proofs.step_lines.places.least_under.Goals as goal

pub returns : goal.returns
returns c = λ a I less.
    let parts = c.args.parts.now in
    let count = c.partition_point-count.result in
    let point = IsPartitionPoint-from_clause (before c.args.over) _ _ c.partition_point-count.ensures.partitioned (parted parts c.args.over c.requires.rise) (λ x r q k. search rules) in
    let place = I.at in
    let among : place < count = is_among parts c.args.nodes.now c.args.over count a point.1 I less in
    let low : length parts ≤ length parts + place = omega arith in
    let high : length parts + place < length parts + count = omega arith in
    c.least_between.ensures (length parts + place) a.lag low high I.covers
