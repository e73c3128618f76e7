-- Rows of a recorded run: `enter,TIME,FLOW,BITS`, `reach,TIME,SERVER,PACKET`, `work,SERVER,PACKET,FROM,TO,BITS`,
-- `leave,TIME,SERVER,PACKET`, `visit,TIME,SERVER,QUEUE` and `end,TIME`. Own choice.
use Rattle.std.specs.Prelude.{◌≡◌, ◌⊎◌, ℕ, ℤ, pos, negsuc, ◌^◌, nat_lt, List, Option, Some, None, ok_or, Result, Ok, Err, not, ◌==◌, length, codes, if◌then◌else◌}
use Rattle.std.specs.Option.{option_and_then}
use Rattle.std.specs.Str.{bytes_eq}
use Rattle.rational.specs.Rational.{ℚ}
use Rattle.run_laws.specs.declared.steps.Step.{Step}
use Rattle.run_laws.specs.declared.steps.Step.TheVariants as steps
use Rattle.net_model.specs.Networks.{Net}
use Rattle.net_model.specs.Names.{IsServerNamed, IsFlowNamed, FindsServer, FindsFlow}
use Rattle.input_texts.specs.table_text.Rows.{Row, field, is_plain}
use Rattle.input_texts.specs.table_text.Fields.{number_in, time_in, whole_in, bits_in}
use Rattle.run_check.specs.declared.run_table.fault.RunKind.{RunKind}
use Rattle.run_check.specs.declared.run_table.fault.RunKind.TheVariants.{T1, T2, T3, T4, T5}
use Rattle.run_check.specs.declared.run_table.run_rows.RunWord.{RunWord}
use Rattle.run_check.specs.declared.run_table.run_rows.RunWord.TheVariants as words
use Rattle.run_check.specs.declared.run_table.run_rows.RunEntry.{RunEntry}
use Rattle.run_check.specs.declared.run_table.run_rows.RunEntry.TheVariants.{Does, Ends}

-- ---- what is read, or what is wrong with it
abbrev pub Read : Type 0 → Type 0
Read X = Result X RunKind

abbrev pub and_then : {X Y : Type 0} → Read X → (X → Read Y) → Read Y
and_then (Ok x) next = next x
and_then (Err kind) next = Err kind

-- ---- what a row says by itself, with the names that it has
pub data RunRow : Type 0 where
  enter_row : (time : ℚ) → (flow : List ℕ) → (bits : ℕ) → RunRow
  reach_row : (time : ℚ) → (server : List ℕ) → (packet : ℕ) → RunRow
  work_row : (server : List ℕ) → (packet : ℕ) → (start end bits : ℚ) → RunRow
  leave_row : (time : ℚ) → (server : List ℕ) → (packet : ℕ) → RunRow
  visit_row : (time : ℚ) → (server : List ℕ) → (queue : ℕ) → RunRow
  end_row : (time : ℚ) → RunRow

abbrev pub run_word : List ℕ → Option RunWord
run_word text =
    if bytes_eq text (codes "enter") then Some words.Enter
    else (if bytes_eq text (codes "reach") then Some words.Reach
    else (if bytes_eq text (codes "work") then Some words.Work
    else (if bytes_eq text (codes "leave") then Some words.Leave
    else (if bytes_eq text (codes "visit") then Some words.Visit
    else (if bytes_eq text (codes "end") then Some words.End else None)))))

abbrev pub fields_for : RunWord → ℕ
fields_for words.Enter = 4
fields_for words.Reach = 4
fields_for words.Work = 6
fields_for words.Leave = 4
fields_for words.Visit = 4
fields_for words.End = 2

-- the number of a packet or of a queue: 0 to 2^32 - 1
abbrev pub index_of : ℤ → Option ℕ
index_of (pos n) = if nat_lt n (2 ^ 32) then Some n else None
index_of (negsuc n) = None

abbrev pub index_in : List ℕ → Option ℕ
index_in text = option_and_then index_of (whole_in text)

abbrev pub enter_of : Row → Read RunRow
enter_of row =
    and_then (ok_or (time_in (field row 1)) T4) (λ time.
    and_then (ok_or (bits_in (field row 3)) T4) (λ bits. Ok (enter_row time (field row 2) bits)))

abbrev pub reach_of : Row → Read RunRow
reach_of row =
    and_then (ok_or (time_in (field row 1)) T4) (λ time.
    and_then (ok_or (index_in (field row 3)) T4) (λ packet. Ok (reach_row time (field row 2) packet)))

abbrev pub work_of : Row → Read RunRow
work_of row =
    and_then (ok_or (index_in (field row 2)) T4) (λ packet.
    and_then (ok_or (time_in (field row 3)) T4) (λ start.
    and_then (ok_or (time_in (field row 4)) T4) (λ end.
    and_then (ok_or (number_in (field row 5)) T4) (λ bits. Ok (work_row (field row 1) packet start end bits)))))

abbrev pub leave_of : Row → Read RunRow
leave_of row =
    and_then (ok_or (time_in (field row 1)) T4) (λ time.
    and_then (ok_or (index_in (field row 3)) T4) (λ packet. Ok (leave_row time (field row 2) packet)))

abbrev pub visit_of : Row → Read RunRow
visit_of row =
    and_then (ok_or (time_in (field row 1)) T4) (λ time.
    and_then (ok_or (index_in (field row 3)) T4) (λ queue. Ok (visit_row time (field row 2) queue)))

abbrev pub end_of : Row → Read RunRow
end_of row = and_then (ok_or (time_in (field row 1)) T4) (λ time. Ok (end_row time))

abbrev pub row_with : RunWord → Row → Read RunRow
row_with words.Enter row = enter_of row
row_with words.Reach row = reach_of row
row_with words.Work row = work_of row
row_with words.Leave row = leave_of row
row_with words.Visit row = visit_of row
row_with words.End row = end_of row

-- what it says, or what is wrong with it: first a byte that is not plain, then another word than these, then the number
-- of its fields, and then a field that is not what the word asks for
unfoldable pub run_row : Row → Read RunRow
run_row row =
    if not (is_plain row) then Err T1
    else and_then (ok_or (run_word (field row 0)) T2) (λ word.
    if not (length row == fields_for word) then Err T3 else row_with word row)

-- ---- what it means for a network in which so many packets have entered
abbrev pub NamesStep : Net → ℕ → RunRow → Step → Type 0
NamesStep net packets (enter_row time flow bits) (steps.Enter f p t b) =
    (t ≡ time) × (b ≡ bits) × (p ≡ packets) × IsFlowNamed net.flows flow f
NamesStep net packets (reach_row time server packet) (steps.Reach s p t) =
    (t ≡ time) × (p ≡ packet) × IsServerNamed net.servers server s
NamesStep net packets (work_row server packet start end bits) (steps.Work s p a b w) =
    (p ≡ packet) × (a ≡ start) × (b ≡ end) × (w ≡ bits) × IsServerNamed net.servers server s
NamesStep net packets (leave_row time server packet) (steps.Leave s p t) =
    (t ≡ time) × (p ≡ packet) × IsServerNamed net.servers server s
NamesStep net packets (visit_row time server queue) (steps.Visit s q t) =
    (t ≡ time) × (q ≡ queue) × IsServerNamed net.servers server s
NamesStep net packets row step = ⊥

abbrev pub EndsAt : RunRow → ℚ → Type 0
EndsAt (end_row time) end = end ≡ time
EndsAt row end = ⊥

abbrev pub Names : Net → ℕ → RunRow → RunEntry → Type 0
Names net packets row (Does step) = NamesStep net packets row step
Names net packets row (Ends end) = EndsAt row end

-- no live flow, or no server, has the name
abbrev pub IsUnknown : Net → RunRow → Type 0
IsUnknown net (enter_row time flow bits) = FindsFlow net.flows flow None
IsUnknown net (reach_row time server packet) = FindsServer net.servers server None
IsUnknown net (work_row server packet start end bits) = FindsServer net.servers server None
IsUnknown net (leave_row time server packet) = FindsServer net.servers server None
IsUnknown net (visit_row time server queue) = FindsServer net.servers server None
IsUnknown net (end_row time) = ⊥

-- what was read of a row says this, which stands for that in a recorded run of the network
pub record Gives (net : Net) (packets : ℕ) (read : Read RunRow) (entry : RunEntry) : Type 0 where
  pub says : RunRow
  pub is : read ≡ Ok says
  pub names : Names net packets says entry

-- it is wrong by itself, or it says a name that nothing has
pub record SaysUnknown (net : Net) (read : Read RunRow) : Type 0 where
  pub says : RunRow
  pub is : read ≡ Ok says
  pub unknown : IsUnknown net says

abbrev pub IsWrongIn : Net → Read RunRow → RunKind → Type 0
IsWrongIn net read kind = (read ≡ Err kind) ⊎ ((kind ≡ T5) × SaysUnknown net read)
