use Rattle.std.proofs.Common.{◌-◌, List, length, drop, take, refl, rules, subst, sym}
use Rattle.std.proofs.lemmas.List.{take_rest}
use Rattle.std.proofs.lemmas.List.Sorted.{IsPartitionPoint-from_clause}
use Rattle.rational.specs.Rational.{ℚ}
use Rattle.run_watch.specs.Watching.{RiseFrom}
use Rattle.run_laws.specs.Counts.{before, upto}
use Rattle.run_watch.proofs.WatchedLists.{parted_at}
use Rattle.run_watch.proofs.OwnTurns.{parted_before_at, rise_drop, rise_take, holds}
use Rattle.run_watch.proofs.watched.turns_in.Goals as goal

pub returns-clause-holds : goal.returns-clause-holds
returns-clause-holds c =
    let ts = c.args.sorted.now in
    let from = c.partition_point-from.result in
    let count = c.partition_point-count.result in
    let rest = take (length ts - from) (drop from ts) in
    let rise : (f : ℚ) × RiseFrom f rest = subst (λ (xs : List ℚ). (f : ℚ) × RiseFrom f xs) (sym (take_rest ts from)) (rise_drop from c.requires.0 ts c.requires.1) in
    let early = IsPartitionPoint-from_clause (before c.args.s.now.start) _ _ c.partition_point-from.ensures.partitioned (parted_before_at c.requires.0 ts c.args.s.now.start c.requires.1) (λ a r q k. search rules) in
    let late = IsPartitionPoint-from_clause (upto c.args.s.now.end) _ _ c.partition_point-count.ensures.partitioned (parted_at rise.0 rest c.args.s.now.end rise.1) (λ a r q k. search rules) in
    holds c.args.s.now ts rest (take count rest) from count c.partition_point-from.ensures.bound (take_rest ts from) refl early.0 early.1 late.0 late.1

pub returns-clause-rise : goal.returns-clause-rise
returns-clause-rise c =
    let ts = c.args.sorted.now in
    let from = c.partition_point-from.result in
    let rest = take (length ts - from) (drop from ts) in
    let rise : (f : ℚ) × RiseFrom f rest = subst (λ (xs : List ℚ). (f : ℚ) × RiseFrom f xs) (sym (take_rest ts from)) (rise_drop from c.requires.0 ts c.requires.1) in
    (rise.0, rise_take c.partition_point-count.result rise.0 rest rise.1)
