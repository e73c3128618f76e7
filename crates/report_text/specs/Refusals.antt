-- The lines that stand in place of a report. Own choice.
use Rattle.std.specs.Prelude.{ℕ, List, ◌++◌, map, codes}
use Rattle.std.specs.List.{flat_map}
use Rattle.std.specs.String.{string_bytes}
use Rattle.std.specs.Fmt.{decimal}
use Rattle.report_text.specs.declared.refusal.Refusal.{Refusal}
use Rattle.report_text.specs.declared.refusal.Refusal.TheVariants.{BadNetwork, Cycle}
use Rattle.report_text.specs.declared.refusal.Refusal.TheVariants.{CurveTooMany, CurveTooWide, CellTooMany, CellTooWide}
use Rattle.report_text.specs.declared.refusal.Refusal.TheVariants.{SimTooWide, BadTable, BadScript}
use Rattle.report_text.specs.declared.refusal.Refusal.TheVariants.{ScriptTooMany, ScriptTooWide}
use Rattle.report_text.specs.Faults.{fault_text, table_fault_text, script_fault_text}

-- names, each after a space
abbrev pub spaced : List (List ℕ) → List ℕ
spaced = flat_map (λ name. codes " " ++ name)

-- what is said
abbrev pub reason : Refusal → List ℕ
reason (BadNetwork file fault) = string_bytes file ++ codes ": " ++ fault_text fault.kind (string_bytes fault.place)
reason (Cycle names) = codes "cycle" ++ spaced (map string_bytes names.items)
reason (CurveTooMany place) = codes "too many: curve " ++ string_bytes place
reason (CurveTooWide place) = codes "too wide: curve " ++ string_bytes place
reason (CellTooMany cell) = codes "too many: " ++ string_bytes cell
reason (CellTooWide cell) = codes "too wide: " ++ string_bytes cell
reason SimTooWide = codes "too wide: simulation"
reason (BadTable file fault) = string_bytes file ++ codes ": " ++ table_fault_text fault
reason (BadScript file fault) = string_bytes file ++ codes ": " ++ script_fault_text fault
reason (ScriptTooMany line) = codes "too many: line " ++ decimal line
reason (ScriptTooWide line) = codes "too wide: line " ++ decimal line

-- the line
unfoldable pub refusal_line : Refusal → List ℕ
refusal_line refusal = codes "netcalc: " ++ reason refusal ++ codes "\n"
