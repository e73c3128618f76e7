-- How many steps an answer on a network and a trace takes: an operator on curves takes one, and a simulation none.
use Rattle.std.specs.Prelude.{ℕ, List}
use Rattle.net_model.specs.Networks.{Net}
use Rattle.input_texts.specs.table_text.Traces.{IsFirstFault}
use Rattle.commands.specs.FileCounts.{CountsOnRows}

-- by a network and a file
abbrev pub CountsOnNet : Net → (trace_bytes : List ℕ) → (status old new : ℕ) → Type 0
CountsOnNet net trace_bytes status old new =
    CountsOnRows (λ kind row. IsFirstFault net trace_bytes kind row) net status old new
