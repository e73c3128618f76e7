-- Rows of a trace: `packet,TIME,FLOW,BITS` and `stall,SERVER,FROM,TO`. Own choice.
use Rattle.std.specs.Prelude.{◌≡◌, ℕ, List, Option, Some, None, ok_or, Ok, Err, not, ◌==◌, length, codes, if◌then◌else◌, ◌⊎◌}
use Rattle.std.specs.Str.{bytes_eq}
use Rattle.rational.specs.Rational.{ℚ, lt_q}
use Rattle.net_model.specs.Networks.{Net}
use Rattle.net_model.specs.Names.{IsServerNamed, IsFlowNamed, FindsServer, FindsFlow}
use Rattle.input_texts.specs.declared.table_text.fault.TableKind.{TableKind}
use Rattle.input_texts.specs.declared.table_text.fault.TableKind.TheVariants.{T1, T2, T3, T4, T5}
use Rattle.input_texts.specs.declared.table_text.trace_rows.TraceWord.{TraceWord}
use Rattle.input_texts.specs.declared.table_text.trace_rows.TraceWord.TheVariants as words
use Rattle.input_texts.specs.declared.table_text.trace_rows.Entry.{Entry}
use Rattle.input_texts.specs.declared.table_text.trace_rows.Entry.TheVariants.{Packet, Stop}
use Rattle.input_texts.specs.table_text.Rows.{Row, Read, and_then, field, is_plain}
use Rattle.input_texts.specs.table_text.Fields.{number_in, time_in, bits_in}

-- a packet that enters, or a time in which a server stalls, with the name that the row has
pub data TraceRow : Type 0 where
  packet_row : (time : ℚ) → (flow : List ℕ) → (bits : ℕ) → TraceRow
  stall_row : (server : List ℕ) → (start end : ℚ) → TraceRow

-- ---- what a row says by itself
abbrev pub trace_word : List ℕ → Option TraceWord
trace_word text =
    if bytes_eq text (codes "packet") then Some words.Packet
    else (if bytes_eq text (codes "stall") then Some words.Stall else None)

abbrev pub packet_of : Row → Read TraceRow
packet_of row =
    and_then (ok_or (time_in (field row 1)) T4) (λ time.
    and_then (ok_or (bits_in (field row 3)) T4) (λ bits. Ok (packet_row time (field row 2) bits)))

-- the end is after the start
abbrev pub stall_of : Row → Read TraceRow
stall_of row =
    and_then (ok_or (time_in (field row 2)) T4) (λ start.
    and_then (ok_or (number_in (field row 3)) T4) (λ end.
    if lt_q start end then Ok (stall_row (field row 1) start end) else Err T4))

abbrev pub row_with : TraceWord → Row → Read TraceRow
row_with words.Packet row = packet_of row
row_with words.Stall row = stall_of row

-- what it says, or what is wrong with it: first a byte that is not plain, then another word than these two, then the
-- number of its fields, and then a field that is not what the word asks for
unfoldable pub trace_row : Row → Read TraceRow
trace_row row =
    if not (is_plain row) then Err T1
    else and_then (ok_or (trace_word (field row 0)) T2) (λ word.
    if not (length row == 4) then Err T3 else row_with word row)

-- ---- what it means for a network
-- what stands in a trace for what a row says: the number of the live flow, or of the server, that has the name
abbrev pub Names : Net → TraceRow → Entry → Type 0
Names net (packet_row time flow bits) (Packet p) = (p.time ≡ time) × (p.bits ≡ bits) × IsFlowNamed net.flows flow p.flow
Names net (packet_row time flow bits) (Stop s) = ⊥
Names net (stall_row server start end) (Packet p) = ⊥
Names net (stall_row server start end) (Stop s) =
    (s.start ≡ start) × (s.end ≡ end) × IsServerNamed net.servers server s.server

-- no live flow, or no server, has the name
abbrev pub IsUnknown : Net → TraceRow → Type 0
IsUnknown net (packet_row time flow bits) = FindsFlow net.flows flow None
IsUnknown net (stall_row server start end) = FindsServer net.servers server None

-- what was read of a row says this, which stands for that in a trace of the network
pub record Gives (net : Net) (read : Read TraceRow) (entry : Entry) : Type 0 where
  pub says : TraceRow
  pub is : read ≡ Ok says
  pub names : Names net says entry

-- it is wrong by itself, or it says a name that nothing has
pub record SaysUnknown (net : Net) (read : Read TraceRow) : Type 0 where
  pub says : TraceRow
  pub is : read ≡ Ok says
  pub unknown : IsUnknown net says

abbrev pub IsWrongIn : Net → Read TraceRow → TableKind → Type 0
IsWrongIn net read kind = (read ≡ Err kind) ⊎ ((kind ≡ T5) × SaysUnknown net read)
