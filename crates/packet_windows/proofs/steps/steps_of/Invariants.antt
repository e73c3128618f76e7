use Rattle.std.proofs.Common.{◌≡◌, ◌++◌, drop}
use Rattle.packet_windows.specs.Scans.{steps_after, no_window}
use Rattle.packet_windows.proofs.steps.steps_of.Given as goal

-- what is made, and what is made of those that are left, is all
abbrev pub invariant-loop-window : goal.invariant-loop-window
invariant-loop-window l = l.steps.items ++ steps_after l.last (drop l.window-index l.windows) ≡ steps_after no_window l.windows
