use Rattle.std.proofs.Common.{◌≡◌, ◌++◌, drop}
use Rattle.std.specs.Prelude.{map}
use Rattle.measure_curve.specs.Scans.{entry_of}
use Rattle.measure_curve.proofs.packets.entries_of.Given as goal

-- what is made, and what is made of those that are left, is all
abbrev pub invariant-loop-packet : goal.invariant-loop-packet
invariant-loop-packet l = l.entries.items ++ map (entry_of l.grid) (drop l.packet-index l.packets) ≡ map (entry_of l.grid) l.packets
