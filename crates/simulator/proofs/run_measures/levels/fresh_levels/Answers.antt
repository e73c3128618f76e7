use Rattle.simulator.proofs.run_measures.LevelEnds.{tells_nothing}
use Rattle.simulator.proofs.run_measures.levels.fresh_levels.Goals as goal

pub returns : goal.returns
returns c = tells_nothing c.args.net.now c.args.run.now _ c.new.ensures.items c.new-2.ensures.items c.in_ok-rows.ensures
