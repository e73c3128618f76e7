use Rattle.packet_windows.proofs.Loops.{whole_rest}
use Rattle.packet_windows.proofs.Loops.{rest_enters}
use Rattle.packet_windows.proofs.windows.windows_of.Goals as goal

pub push_windows-requires-clause-ordered : goal.push_windows-requires-clause-ordered
push_windows-requires-clause-ordered c =
    rest_enters 0 c.args.entries.now c.loop-first.first record { time = 0; bits = 0 } _ c.requires.ordered c.loop-first-test.true
    (whole_rest c.args.entries.now c.loop-first.first)
