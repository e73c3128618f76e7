use Rattle.packet_windows.proofs.Loops.{enter_at}
use Rattle.packet_windows.proofs.windows.push_windows.Goals as goal

pub overflow_sub-entry : goal.overflow_sub-entry
overflow_sub-entry c =
    enter_at c.args.first c.args.entries.now c.loop-entry.entry-index record { time = 0; bits = 0 } c.requires.ordered c.loop-entry-test.true
