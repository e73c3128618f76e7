use Rattle.run_watch.proofs.NearWindows.{all_part}
use Rattle.run_watch.proofs.service.part_of.Goals as goal

pub returns-in-None : goal.returns-in-None
returns-in-None c = all_part c.args.until.now c.args.sorted.now c.args.s.now
