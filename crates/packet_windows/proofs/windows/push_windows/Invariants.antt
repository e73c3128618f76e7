use Rattle.std.proofs.Common.{◌≡◌, ◌++◌, ◌*◌, ◌^◌, ◌≤◌, drop}
use Rattle.packet_windows.specs.Scans.{windows_from}
use Rattle.packet_windows.proofs.windows.push_windows.Given as goal

-- what is made, and what is made of those that are left, is all
abbrev pub invariant-loop-entry : goal.invariant-loop-entry
invariant-loop-entry l = record {
  made : l.into.items ++ windows_from l.first l.bits (drop l.entry-index l.entries) ≡ l.fn.into.items ++ windows_from l.first 0 l.entries;
  few : l.bits ≤ 2 ^ 32 * l.entry-index;
}
