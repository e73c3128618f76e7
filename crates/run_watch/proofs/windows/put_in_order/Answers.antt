use Rattle.std.proofs.lemmas.List.Filters.{dedup_is}
use Rattle.rational.specs.Compared.{same_q}
use Rattle.run_watch.proofs.OrderedTimes.{in_order}
use Rattle.run_watch.proofs.windows.put_in_order.Goals as goal

pub returns : goal.returns
returns c =
    let sorted = c.sort.new.self.items in
    let now = c.dedup.new.self.items in
    let O = in_order c.args.times.now.items sorted now c.sort.ensures.permutation c.in_ok-sort.ensures.sorted (dedup_is same_q sorted now c.dedup.ensures.filtered) in
    record { same = O.same; rise = O.rise }
