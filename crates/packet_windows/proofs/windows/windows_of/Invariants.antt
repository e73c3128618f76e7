use Rattle.std.proofs.Common.{◌≡◌, ◌++◌, drop}
use Rattle.packet_windows.specs.Scans.{windows}
use Rattle.packet_windows.proofs.windows.windows_of.Given as goal

-- what is made, and what is made of those that are left, is all
abbrev pub invariant-loop-first : goal.invariant-loop-first
invariant-loop-first l = l.windows.items ++ windows (drop l.first l.entries) ≡ windows l.entries
