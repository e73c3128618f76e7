-- Which trace of a network a text is, and the first fault of a text that is none. Own choice.
use Rattle.std.specs.Prelude.{◌≡◌, ℕ, suc, ◌<◌, ◌≤◌, List, [], ◌∷◌, ◌++◌, length, AllPairs, ◌⊎◌}
use Rattle.std.specs.List.{Any}
use Rattle.rational.specs.Rational.{ℚ, ◌≤ℚ◌, ◌<ℚ◌}
use Rattle.net_model.specs.declared.trace.TracePacket.{TracePacket}
use Rattle.net_model.specs.declared.trace.Stall.{Stall}
use Rattle.net_model.specs.Networks.{Net}
use Rattle.net_model.specs.Traces.{SpecTrace}
use Rattle.input_texts.specs.declared.table_text.fault.TableKind.{TableKind}
use Rattle.input_texts.specs.declared.table_text.fault.TableKind.TheVariants.{T6, T7, NoMemory}
use Rattle.input_texts.specs.declared.table_text.fault.TableFault.{TableFault}
use Rattle.input_texts.specs.declared.table_text.trace_rows.Entry.{Entry}
use Rattle.input_texts.specs.declared.table_text.trace_rows.Entry.TheVariants.{Packet, Stop}
use Rattle.input_texts.specs.table_text.Rows.{Row, rows_of}
use Rattle.input_texts.specs.table_text.TraceRows.{trace_row, Gives, IsWrongIn}

-- how many rows a trace may have
abbrev pub most_rows : ℕ
most_rows = 10000

-- ---- the trace of rows
abbrev pub packets_in : List Entry → List TracePacket
packets_in [] = []
packets_in (Packet p ∷ entries) = p ∷ packets_in entries
packets_in (Stop s ∷ entries) = packets_in entries

abbrev pub stalls_in : List Entry → List Stall
stalls_in [] = []
stalls_in (Packet p ∷ entries) = stalls_in entries
stalls_in (Stop s ∷ entries) = s ∷ stalls_in entries

-- each row gives the entry at its place
abbrev pub Give : Net → List Row → List Entry → Type 0
Give net [] [] = Unit {0}
Give net [] (entry ∷ entries) = ⊥
Give net (row ∷ rows) [] = ⊥
Give net (row ∷ rows) (entry ∷ entries) = Gives net (trace_row row) entry × Give net rows entries

-- the packets and the stalls of at most 10,000 rows, in their order; the times of the packets do not fall
pub record IsTraceOf (net : Net) (rows : List Row) (trace : SpecTrace) : Type 0 where
  pub entries : List Entry
  pub give : Give net rows entries
  pub few : length rows ≤ most_rows
  pub packets : trace.packets ≡ packets_in entries
  pub stalls : trace.stalls ≡ stalls_in entries
  pub in_order : AllPairs (λ p q. p.time ≤ℚ q.time) trace.packets

-- ---- the first fault
-- a time is before that of one of these packets
abbrev pub IsEarlier : List TracePacket → ℚ → Type 0
IsEarlier packets time = Any (λ q. time <ℚ q.time) packets

-- the row gives a packet that enters before one of these
pub record GivesEarlier (net : Net) (packets : List TracePacket) (row : Row) : Type 0 where
  pub packet : TracePacket
  pub gives : Gives net (trace_row row) (Packet packet)
  pub earlier : IsEarlier packets packet.time

-- what is wrong with a row behind so many rows and these packets: it is one too many; else it is wrong by itself, or
-- says a name that nothing has; else it is a packet that enters before one of these
abbrev pub IsWrong : Net → ℕ → List TracePacket → Row → TableKind → Type 0
IsWrong net before packets row kind =
    ((kind ≡ T7) × (most_rows ≤ before))
    ⊎ ((before < most_rows) × (IsWrongIn net (trace_row row) kind ⊎ ((kind ≡ T6) × GivesEarlier net packets row)))

-- the rows before it give a trace, and it is wrong behind them; rows are counted from 1
pub record IsFirstFault (net : Net) (text : List ℕ) (kind : TableKind) (number : ℕ) : Type 0 where
  pub before : List Row
  pub row : Row
  pub after : List Row
  pub rows : rows_of text ≡ before ++ row ∷ after
  pub place : number ≡ suc (length before)
  pub trace : SpecTrace
  pub right : IsTraceOf net before trace
  pub wrong : IsWrong net (length before) trace.packets row kind

-- want of memory is no fault of the text, and has no row
abbrev pub out_of_memory : TableFault
out_of_memory = record { kind = NoMemory; row = 0 }
