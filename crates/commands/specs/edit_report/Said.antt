-- What is said of an edit. Own choice.
use Rattle.std.specs.Prelude.{ℕ, List, [], ◌++◌, map, Result, Ok, Err, codes, string_bytes}
use Rattle.net_model.specs.declared.edit.Done.{Done}
use Rattle.net_model.specs.Networks.{Net}
use Rattle.net_edits.specs.declared.fault.EditFault.{EditFault}
use Rattle.net_edits.specs.declared.fault.EditFault.TheVariants.{UnknownName, NameTaken, BadValue, LimitReached, Cycle, TooMany, TooWide, NothingToUndo, NoMemory}
use Rattle.report_text.specs.CellWords.{server_name, cell_words}
use Rattle.report_text.specs.Refusals.{spaced}
use Rattle.commands.specs.declared.edit_report.said.Said.{Said}
use Rattle.commands.specs.declared.edit_report.said.Said.TheVariants as code

-- it is made, and this many cells were touched; or it is refused, for this reason
pub data EditSaid : Type 0 where
  Made : (cells : ℕ) → EditSaid
  Refused : (reason : List ℕ) → EditSaid

-- what the code's value stands for
abbrev pub said_view : Said → EditSaid
said_view (code.Made cells) = Made cells
said_view (code.Refused reason) = Refused (string_bytes reason)

-- why an edit is refused, of the network that it would have made; want of memory is no reason
abbrev pub reason : Net → EditFault → List ℕ
reason net (UnknownName name) = codes "unknown-name " ++ string_bytes name
reason net (NameTaken name) = codes "name-taken " ++ string_bytes name
reason net BadValue = codes "bad-value"
reason net LimitReached = codes "limit"
reason net (Cycle walk) = codes "cycle" ++ spaced (map (server_name net) walk.items)
reason net (TooMany cell) = codes "too-many " ++ cell_words net cell
reason net (TooWide cell) = codes "too-wide " ++ cell_words net cell
reason net NothingToUndo = codes "nothing-to-undo"
reason net NoMemory = []

-- what is said of an edit with this answer
abbrev pub said_of : Net → Result Done EditFault → EditSaid
said_of net (Ok done) = Made done.cells
said_of net (Err fault) = Refused (reason net fault)
