-- Disciplines and gates of ports. Own choice.
use Rattle.std.specs.Prelude.{ℕ, ◌*◌, ◌==◌, ◌&&◌, Bool, nat_le, nat_lt, not, List, [], ◌∷◌, ◌++◌, length, slice_index_or, codes, Option, Some, None, option_map, option_and_then, Result, Ok, Err, ok_or, if◌then◌else◌}
use Rattle.std.specs.Str.{bytes_eq}
use Rattle.tree_network.specs.declared.network.Discipline.{Discipline}
use Rattle.tree_network.specs.declared.network.Discipline.TheVariants as discipline
use Rattle.table_cells.specs.declared.amount.Amount.{Amount}
use Rattle.table_cells.specs.Amounts.{few_digits, reaches_one, is_within}
use Rattle.document_rows.specs.declared.disciplines.GateRow.{GateRow}
use Rattle.document_rows.specs.declared.fault.Wrong.TheVariants.{NoDiscipline, NoGate, TooSmall, SlotTooLong}
use Rattle.document_rows.specs.Reads.{CellRead, and_then}
use Rattle.document_rows.specs.Cells.{time_in}

-- ---- disciplines
pub data DisciplineText : Type 0 where
  Fifo : DisciplineText
  Priority : (queues : ℕ) → DisciplineText
  Drr : (quanta : List ℕ) → DisciplineText

abbrev pub discipline_view : Discipline → DisciplineText
discipline_view discipline.Fifo = Fifo
discipline_view (discipline.Priority queues) = Priority queues
discipline_view (discipline.Drr quanta) = Drr quanta.items

abbrev pub is_between : (least most n : ℕ) → Bool
is_between least most n = nat_le least n && nat_le n most

-- a whole number in a range
abbrev pub whole_of : (least most : ℕ) → List ℕ → Option ℕ
whole_of least most word = option_and_then (λ n. if is_between least most n then Some n else None) (few_digits word)

abbrev pub most_queues : ℕ
most_queues = 8

abbrev pub queues_in : List (List ℕ) → CellRead DisciplineText
queues_in words =
    if not (length words == 1) then Err NoDiscipline
    else ok_or (option_map Priority (whole_of 1 most_queues (slice_index_or words 0 []))) NoDiscipline

-- a quantum: 1 to 2^21 bytes, of 8 bits each
abbrev pub quantum_in : List ℕ → Option ℕ
quantum_in word = option_map (λ bytes. bytes * 8) (whole_of 1 2097152 word)

-- those of words behind those before them, where each word is one
unfoldable pub quanta_from : List ℕ → List (List ℕ) → Option (List ℕ)
quanta_from before [] = Some before
quanta_from before (word ∷ words) = option_and_then (λ q. quanta_from (before ++ q ∷ []) words) (quantum_in word)

abbrev pub quanta_of : List (List ℕ) → Option (List ℕ)
quanta_of words = quanta_from [] words

abbrev pub quanta_in : List (List ℕ) → CellRead DisciplineText
quanta_in words =
    if is_between 1 most_queues (length words) then ok_or (option_map Drr (quanta_of words)) NoDiscipline else Err NoDiscipline

-- `fifo` or nothing, `priority N`, `drr Q0 Q1 ..`
abbrev pub discipline_of : List (List ℕ) → CellRead DisciplineText
discipline_of [] = Ok Fifo
discipline_of (word ∷ words) =
    if bytes_eq word (codes "priority") then queues_in words
    else (if bytes_eq word (codes "drr") then quanta_in words
    else (if bytes_eq word (codes "fifo") && (length words == 0) then Ok Fifo else Err NoDiscipline))

-- ---- gates
-- a slot of a picosecond at least, within the cycle
abbrev pub gate_with : (cycle slot : Amount) → CellRead (Option GateRow)
gate_with cycle slot =
    if not (reaches_one slot 1000000) then Err TooSmall
    else (if not (is_within slot cycle) then Err SlotTooLong else Ok (Some (record { cycle = cycle; slot = slot })))

abbrev pub gate_times : (cycle slot : List ℕ) → CellRead (Option GateRow)
gate_times cycle slot = and_then (time_in cycle) (λ c. and_then (time_in slot) (λ s. gate_with c s))

-- nothing, or `CYCLE SLOT`
abbrev pub gate_of : List (List ℕ) → CellRead (Option GateRow)
gate_of [] = Ok None
gate_of (one ∷ []) = Err NoGate
gate_of (cycle ∷ slot ∷ []) = gate_times cycle slot
gate_of (one ∷ two ∷ three ∷ words) = Err NoGate
