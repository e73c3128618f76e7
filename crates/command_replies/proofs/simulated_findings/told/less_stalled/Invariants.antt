use Rattle.std.proofs.Common.{◌≡◌, drop, length}
use Rattle.command_replies.specs.simulated_findings.Told.{less_stalled}
use Rattle.command_replies.proofs.simulated_findings.told.less_stalled.Given as goal

abbrev pub invariant-loop-stall : goal.invariant-loop-stall
invariant-loop-stall l =
    (length l.left.items ≡ length l.fn.told.items)
    × (less_stalled l.left.items (drop l.stall-index l.stalls) ≡ less_stalled l.fn.told.items l.stalls)
