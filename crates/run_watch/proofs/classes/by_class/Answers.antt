use Rattle.std.proofs.Common.{List, subst}
use Rattle.rational.specs.Rational.{ℚ}
use Rattle.run_watch.specs.WatchTimes.{HaveSameTimes}
use Rattle.run_watch.proofs.OrderedTimes.{same_then, same_permuted}
use Rattle.run_watch.proofs.classes.by_class.Goals as goal

pub returns : goal.returns
returns c =
    let first = c.in_ok-times.times.items in
    let sorted = c.sort.new.self.items in
    let together = c.sort_by_cached_key.new.self.items in
    let last = c.begin_at.new.times.items in
    subst (λ (xs : List ℚ). HaveSameTimes xs last) c.in_ok-times.ensures.items
    (same_then first sorted last (same_permuted first sorted c.sort.ensures.permutation) (same_then sorted together last (same_permuted sorted together c.sort_by_cached_key.ensures.permutation) (same_permuted together last c.begin_at.ensures)))
