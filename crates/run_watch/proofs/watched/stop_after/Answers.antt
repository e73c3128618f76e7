use Rattle.std.proofs.Common.{◌≡◌, ◌<◌, length, arith, rules, subst, sym, false}
use Rattle.std.proofs.lemmas.List.Sorted.{IsPartitionPoint-from_clause}
use Rattle.rational.specs.Rational.{ℚ, le_q}
use Rattle.run_watch.proofs.RampLists.{not_most}
use Rattle.run_watch.proofs.WatchedLists.{parted_at, next_found, next_none}
use Rattle.run_watch.proofs.watched.stop_after.Goals as goal
use Rattle.run_laws.specs.Counts.{upto}

pub returns-then-past-stops : goal.returns-then-past-stops
returns-then-past-stops c =
    let point = IsPartitionPoint-from_clause (upto c.args.u) _ _ c.partition_point-past.ensures.partitioned (parted_at c.requires.0 c.args.stops.now c.args.u c.requires.1) (λ a r q k. search rules) in
    let inside : c.partition_point-past.result < length c.args.stops.now = omega arith in
    let t = c.index-stops-past.result in
    next_found c.args.u c.args.end c.args.stops.now c.partition_point-past.result t inside c.index-stops-past.is point.0
    (not_most t c.args.u (subst (λ (x : ℚ). le_q x c.args.u ≡ false) (sym c.index-stops-past.is) (point.1 c.partition_point-past.result t (omega arith) inside)))

pub returns : goal.returns
returns c =
    let point = IsPartitionPoint-from_clause (upto c.args.u) _ _ c.partition_point-past.ensures.partitioned (parted_at c.requires.0 c.args.stops.now c.args.u c.requires.1) (λ a r q k. search rules) in
    next_none c.args.u c.args.end c.args.stops.now (λ i d a b. point.0 i d a (omega arith))
