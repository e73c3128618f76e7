-- What is said of an edit, by the answer of a store. Own choice.
use Rattle.std.specs.Prelude.{◌≡◌, Result, Ok, Err}
use Rattle.net_model.specs.declared.edit.Done.{Done}
use Rattle.net_model.specs.declared.edit.Edit.{Edit}
use Rattle.net_model.specs.Networks.{Net}
use Rattle.net_edits.specs.declared.fault.EditFault.{EditFault}
use Rattle.net_edits.specs.declared.fault.EditFault.TheVariants.{UnknownName, NameTaken, BadValue, LimitReached, Cycle, TooMany, TooWide, NothingToUndo, NoMemory}
use Rattle.cell_store.specs.edit_store.Stored.{Stored}
use Rattle.commands.specs.edit_report.Said.{EditSaid, said_of}
use Rattle.commands.specs.edit.NetHistories.{history_of}
use Rattle.commands.specs.edit.Causes.{IsCause}

-- the fault tells of the edited network, or of the curve that the edit makes
abbrev pub IsOfEdited : EditFault → Type 0
IsOfEdited (UnknownName name) = ⊥
IsOfEdited (NameTaken name) = ⊥
IsOfEdited BadValue = ⊥
IsOfEdited LimitReached = ⊥
IsOfEdited (Cycle walk) = Unit {0}
IsOfEdited (TooMany cell) = Unit {0}
IsOfEdited (TooWide cell) = Unit {0}
IsOfEdited NothingToUndo = ⊥
IsOfEdited NoMemory = ⊥

-- what is said of a refusal, with the names of a network that is right for it
pub record IsSaidOf {V : Type 0} (s : Stored V) (edit : Edit) (fault : EditFault) (said : EditSaid) : Type 0 where
  pub named_by : Net
  pub cause : IsCause (history_of s) edit fault named_by
  pub says : said ≡ said_of named_by (Err fault)

-- what is said by an answer, where the store is left like this
abbrev pub IsSaid : {V : Type 0} → Stored V → Edit → Result Done EditFault → EditSaid → Type 0
IsSaid s edit (Ok done) said = said ≡ said_of s.present (Ok done)
IsSaid s edit (Err fault) said = IsSaidOf s edit fault said
