-- What entries of a trace keep, and what one row adds: what the loop over the rows is proved by.
use Rattle.std.specs.Prelude.{◌≡◌, ℕ, ◌<◌, List, [], ◌∷◌, ◌++◌, All}
use Rattle.rational.specs.Rational.{◌≤ℚ◌}
use Rattle.net_model.specs.declared.trace.TracePacket.{TracePacket}
use Rattle.net_model.specs.declared.trace.Stall.{Stall}
use Rattle.net_model.specs.Networks.{Net}
use Rattle.net_model.specs.Traces.{IsTracePacket, IsStall}
use Rattle.input_texts.specs.declared.table_text.trace_rows.Entry.{Entry}
use Rattle.input_texts.specs.declared.table_text.trace_rows.Entry.TheVariants.{Packet, Stop}
use Rattle.input_texts.specs.table_text.Rows.{Row}
use Rattle.input_texts.specs.table_text.TraceRows.{trace_row, Gives}
use Rattle.input_texts.specs.table_text.Traces.{most_rows, packets_in, stalls_in}

-- times from 0 on, packets of 1 to 2^24 bits, stalls of some length
abbrev pub IsKept : Entry → Type 0
IsKept (Packet p) = IsTracePacket p
IsKept (Stop s) = IsStall s

-- a packet enters after all of these, or with them; a stall stands anywhere
abbrev pub Follows : List TracePacket → Entry → Type 0
Follows packets (Packet p) = All (λ q. q.time ≤ℚ p.time) packets
Follows packets (Stop s) = Unit {0}

-- a row behind so many rows, which gave these packets and stalls, makes them those
pub record Adds (net : Net) (before : ℕ) (row : Row) (packets : List TracePacket) (stalls : List Stall)
    (packets2 : List TracePacket) (stalls2 : List Stall) : Type 0 where
  pub entry : Entry
  pub gives : Gives net (trace_row row) entry
  pub kept : IsKept entry
  pub follows : Follows packets entry
  pub room : before < most_rows
  pub packets_are : packets2 ≡ packets ++ packets_in (entry ∷ [])
  pub stalls_are : stalls2 ≡ stalls ++ stalls_in (entry ∷ [])
