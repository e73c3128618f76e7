-- Paths of links. Own choice.
use Rattle.std.specs.Prelude.{ℕ, ◌+◌, ◌==◌, Bool, false, List, [], ◌∷◌, ◌++◌, length, nat_le, nat_lt, get_or, Option, Some, None, slice_get, Ok, Err, if◌then◌else◌}
use Rattle.std.specs.List.{list_any, position}
use Rattle.std.specs.Str.{bytes_eq}
use Rattle.table_cells.specs.Names.{is_name}
use Rattle.document_rows.specs.declared.fault.Wrong.TheVariants.{UnknownPort, PortTwice, NoSuchQueue, QuantumTooShort}
use Rattle.document_rows.specs.Reads.{CellRead, and_then}
use Rattle.document_rows.specs.Disciplines.{DisciplineText, Fifo, Priority, Drr}
use Rattle.document_rows.specs.PortRows.{PortText}
use Rattle.document_tables.specs.Ports.{Ports}

abbrev pub queues_of : DisciplineText → ℕ
queues_of Fifo = 1
queues_of (Priority queues) = queues
queues_of (Drr quanta) = length quanta

-- the only queue, or that of the priority
abbrev pub queue_at : DisciplineText → ℕ → ℕ
queue_at d priority = if queues_of d == 1 then 0 else priority

-- a frame of so many bits is longer than the quantum of its queue
abbrev pub passes_quantum : DisciplineText → (queue frame : ℕ) → Bool
passes_quantum Fifo queue frame = false
passes_quantum (Priority queues) queue frame = false
passes_quantum (Drr quanta) queue frame = nat_lt (get_or quanta queue frame) frame

-- a port that has the queue, and a quantum for the frame
abbrev pub takes : (place : ℕ) → DisciplineText → (queue frame number : ℕ) → CellRead ℕ
takes place d queue frame number =
    if nat_le (queues_of d) queue then Err (NoSuchQueue place)
    else (if passes_quantum d queue frame then Err (QuantumTooShort place) else Ok number)

abbrev pub at_port : (place : ℕ) → Option PortText → (priority frame number : ℕ) → CellRead ℕ
at_port place None priority frame number = Err (UnknownPort place)
at_port place (Some port) priority frame number =
    takes place port.discipline (queue_at port.discipline priority) frame number

-- the number of the port behind those before it in a path
abbrev pub step_to : Ports → (priority frame : ℕ) → List ℕ → Option ℕ → CellRead ℕ
step_to ports priority frame before None = Err (UnknownPort (length before + 1))
step_to ports priority frame before (Some number) =
    if list_any (λ n. n == number) before then Err (PortTwice (length before + 1))
    else at_port (length before + 1) (slice_get ports.ports number) priority frame number

-- the number of the port that a word names; none where it is no name
abbrev pub port_named : List (List ℕ) → List ℕ → Option ℕ
port_named names word = if is_name word then position (bytes_eq word) names else None

abbrev pub next_port : Ports → (priority frame : ℕ) → List ℕ → List ℕ → CellRead ℕ
next_port ports priority frame before word = step_to ports priority frame before (port_named ports.names word)

-- the numbers of the ports with these names, behind those before them; or the first that is wrong
unfoldable pub path_from : Ports → (priority frame : ℕ) → List ℕ → List (List ℕ) → CellRead (List ℕ)
path_from ports priority frame before [] = Ok before
path_from ports priority frame before (word ∷ words) =
    and_then (next_port ports priority frame before word) (λ number.
    path_from ports priority frame (before ++ number ∷ []) words)

abbrev pub path_ports : Ports → (priority frame : ℕ) → List (List ℕ) → CellRead (List ℕ)
path_ports ports priority frame words = path_from ports priority frame [] words
