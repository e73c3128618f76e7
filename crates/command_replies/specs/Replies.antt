-- What a call answers.
use Rattle.std.specs.Prelude.{◌≡◌, ◌≢◌, ℕ, ◌++◌, List, codes}
use Rattle.std.specs.Fmt.{decimal}
use Rattle.input_texts.specs.declared.curve_script.fault.LangFault.{LangFault}
use Rattle.input_texts.specs.declared.table_text.fault.TableFault.{TableFault}
use Rattle.upp_limits.specs.declared.own_limits.OverLimit.{OverLimit}
use Rattle.upp_limits.specs.declared.own_limits.OverLimit.TheVariants.{TooMany, TooWide}
use Rattle.net_model.specs.Networks.{Net}
use Rattle.net_draft.specs.Faults.{Fault}
use Rattle.net_cells.specs.Meanings.{CellTable}
use Rattle.report_text.specs.Faults.{fault_text, table_fault_text, script_fault_text}
use Rattle.report_text.specs.Refusals.{spaced}
use Rattle.report_text.specs.Report.{report_of}
use Rattle.replies.specs.Replies as replies
pub use Rattle.replies.specs.Replies.{Reply}

-- one status, and one text unless it tells a cycle; since a network has one cycle that is told (`net_model::net_graph::one_cycle`)
-- the text is one then, too (`netcalc_cli::replies_are_determined`)
pub record AreSame (x y : Reply) : Type 0 where
  pub status : x.status ≡ y.status
  pub bytes : x.status ≢ 8 → x.bytes ≡ y.bytes

-- ---- a report
abbrev pub report : Net → CellTable → Reply
report net at = record { status = 0; bytes = report_of net at }

-- ---- refusals, of one line each
abbrev pub refusal : ℕ → List ℕ → Reply
refusal = replies.refusal (codes "netcalc: ")

-- the words are not taken, but for these
abbrev pub usage : List ℕ → Reply
usage commands = refusal 2 (codes "usage: " ++ commands)

-- the file could not be read
abbrev pub cannot_read : List ℕ → Reply
cannot_read = replies.cannot_read (codes "netcalc: ")

-- the file has more bytes than a file may have
abbrev pub too_long : List ℕ → Reply
too_long = replies.too_long (codes "netcalc: ")

-- the file breaks this rule of network files, at this place
abbrev pub breaks_rule : List ℕ → Fault → Reply
breaks_rule file fault = refusal 1 (file ++ codes ": " ++ fault_text fault.kind fault.place)

-- the flows go round, over the servers with these names
abbrev pub goes_round : List (List ℕ) → Reply
goes_round names = refusal 8 (codes "cycle" ++ spaced names)

-- too many pieces, or too wide numbers, in this
abbrev pub over : OverLimit → List ℕ → Reply
over TooMany what = refusal 7 (codes "too many: " ++ what)
over TooWide what = refusal 6 (codes "too wide: " ++ what)

-- the curve at a place of the file is over a limit
abbrev pub curve_over : OverLimit → List ℕ → Reply
curve_over limit place = over limit (codes "curve " ++ place)

-- the cell with these words is over a limit
abbrev pub cell_over : OverLimit → List ℕ → Reply
cell_over limit words = over limit words

-- the file breaks this rule of tables of rows
abbrev pub table_fault_reply : List ℕ → TableFault → Reply
table_fault_reply file fault = refusal 1 (file ++ codes ": " ++ table_fault_text fault)

-- a simulation has too wide numbers
abbrev pub too_wide_simulation : Reply
too_wide_simulation = over TooWide (codes "simulation")

-- the file breaks this rule of scripts
abbrev pub breaks_script_rule : List ℕ → LangFault → Reply
breaks_script_rule file fault = refusal 1 (file ++ codes ": " ++ script_fault_text fault)

-- a line of a script, by its number, is over a limit
abbrev pub line_over : OverLimit → ℕ → Reply
line_over limit line = over limit (codes "line " ++ decimal line)
