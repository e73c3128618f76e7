use Rattle.run_watch.proofs.OrderedTimes.{same_times}
use Rattle.run_watch.proofs.windows.put_in_order_again.Goals as goal

pub returns-then-len-kept : goal.returns-then-len-kept
returns-then-len-kept c = same_times c.args.times.now.items
