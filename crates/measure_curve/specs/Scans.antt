-- Packets on a grid of times. Own choice.
use Rattle.std.specs.Prelude.{ℕ, ◌*◌, ◌/◌, nat_abs}
use Rattle.rational.specs.Rational.{ℚ, den}
use Rattle.net_model.specs.declared.trace.TracePacket.{TracePacket}
use Rattle.packet_windows.specs.declared.windows.Entry.{Entry}

-- a time from 0 on as a number of steps of 1 / grid, where it is a whole number of them
abbrev pub ticks : ℕ → ℚ → ℕ
ticks grid t = nat_abs t.num * (grid / den t)

abbrev pub entry_of : ℕ → TracePacket → Entry
entry_of grid p = record { time = ticks grid p.time; bits = p.bits }
