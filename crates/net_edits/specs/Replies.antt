-- What calls that edit may answer. Own choice.
use Rattle.std.specs.Prelude.{◌≡◌, Option, Some, None, Result, Ok, Err, string_bytes}
use Rattle.upp_limits.specs.declared.own_limits.OverLimit.{OverLimit}
use Rattle.upp_limits.specs.declared.own_limits.OverLimit.TheVariants as limit
use Rattle.upp_limits.specs.OwnLimits.{IsOver, IsWithinOwn}
use Rattle.net_model.specs.Networks.{Net}
use Rattle.net_model.specs.Accepted.{IsAccepted}
use Rattle.net_cells.specs.declared.cell.Cell.{Cell}
use Rattle.net_edits.specs.declared.change.Change.{Change}
use Rattle.net_edits.specs.declared.fault.EditFault.{EditFault}
use Rattle.net_edits.specs.declared.fault.EditFault.TheVariants.{UnknownName, NameTaken, BadValue, LimitReached, Cycle, TooMany, TooWide, NothingToUndo, NoMemory}
use Rattle.net_edits.specs.Refusals.{unknown_name, name_taken, bad_value, no_number_left, Or}
use Rattle.net_edits.specs.Changed.{changed}
use Rattle.net_edits.specs.Edited.{MadeCurve, Edited}

-- ---- refusals
-- the fault says this refusal; want of memory says nothing
abbrev pub Refuses : {X : Type 0} → Or X → EditFault → Type 0
Refuses r (UnknownName name) = r ≡ Err (unknown_name (string_bytes name))
Refuses r (NameTaken name) = r ≡ Err (name_taken (string_bytes name))
Refuses r BadValue = r ≡ Err bad_value
Refuses r LimitReached = r ≡ Err no_number_left
Refuses r (Cycle walk) = ⊥
Refuses r (TooMany cell) = ⊥
Refuses r (TooWide cell) = ⊥
Refuses r NothingToUndo = ⊥
Refuses r NoMemory = Unit {0}

-- the value, or the refusal
abbrev pub Tells : {X : Type 0} → Or X → Result X EditFault → Type 0
Tells r (Ok x) = r ≡ Ok x
Tells r (Err fault) = Refuses r fault

-- ---- curves that are made
-- the curve that was made is over no limit, where one was made
abbrev pub MadeCurveFits : Option MadeCurve → Type 0
MadeCurveFits None = Unit {0}
MadeCurveFits (Some made) = IsWithinOwn made.curve

-- or over this one, and the cell is the one that it counts as
abbrev pub MadeCurveIsOver : Option MadeCurve → Cell → OverLimit → Type 0
MadeCurveIsOver None cell over = ⊥
MadeCurveIsOver (Some made) cell over = (cell ≡ made.cell) × IsOver made.curve over

-- why nothing was made for it: the limit that it is over, or want of memory, and that only where it is over none
abbrev pub MakesNone : Option MadeCurve → EditFault → Type 0
MakesNone made (UnknownName name) = ⊥
MakesNone made (NameTaken name) = ⊥
MakesNone made BadValue = ⊥
MakesNone made LimitReached = ⊥
MakesNone made (Cycle walk) = ⊥
MakesNone made (TooMany cell) = MadeCurveIsOver made cell limit.TooMany
MakesNone made (TooWide cell) = MadeCurveIsOver made cell limit.TooWide
MakesNone made NothingToUndo = ⊥
MakesNone made NoMemory = MadeCurveFits made

-- something for which a curve was made
abbrev pub Makes : {X : Type 0} → Option MadeCurve → (X → Type 0) → Result X EditFault → Type 0
Makes made P (Ok x) = P x × MadeCurveFits made
Makes made P (Err fault) = MakesNone made fault

-- ---- networks
-- the edited network, where its curve is over no limit
pub record IsEdited (r : Or Edited) (given : Net) : Type 0 where
  pub edited : Edited
  pub is : r ≡ Ok edited
  pub net : given ≡ edited.net
  pub within : MadeCurveFits edited.made

-- there would be an edited network, but its curve is over a limit
pub record IsEditOver (r : Or Edited) (cell : Cell) (which : OverLimit) : Type 0 where
  pub edited : Edited
  pub is : r ≡ Ok edited
  pub over : MadeCurveIsOver edited.made cell which

-- no limit is a cause to refuse the edit: where there would be an edited network, its curve is over none
abbrev pub IsOverNone : Or Edited → Type 0
IsOverNone (Ok edited) = MadeCurveFits edited.made
IsOverNone (Err refusal) = Unit {0}

-- what makes it answers something of it; the first refusal; or the limit that its curve is over
abbrev pub IsReplyOf : {X : Type 0} → (X → Type 0) → Or Edited → Result X EditFault → Type 0
IsReplyOf P r (Ok x) = P x
IsReplyOf P r (Err (UnknownName name)) = Refuses r (UnknownName name)
IsReplyOf P r (Err (NameTaken name)) = Refuses r (NameTaken name)
IsReplyOf P r (Err BadValue) = Refuses r BadValue
IsReplyOf P r (Err LimitReached) = Refuses r LimitReached
IsReplyOf P r (Err (Cycle walk)) = ⊥
IsReplyOf P r (Err (TooMany cell)) = IsEditOver r cell limit.TooMany
IsReplyOf P r (Err (TooWide cell)) = IsEditOver r cell limit.TooWide
IsReplyOf P r (Err NothingToUndo) = ⊥
IsReplyOf P r (Err NoMemory) = Unit {0}

-- what an edit of one network answers: the network, or why there is none
abbrev pub IsReply : Or Edited → Result Net EditFault → Type 0
IsReply r result = IsReplyOf (IsEdited r) r result

-- what is put into a network makes it the edited one, which keeps what every network keeps
pub record IsChange (r : Or Edited) (net : Net) (change : Change) : Type 0 where
  pub edited : IsEdited r (changed change net)
  pub accepted : IsAccepted (changed change net)

-- what an edit puts into a network, or why it puts in nothing
abbrev pub IsChangeReply : Net → Or Edited → Result Change EditFault → Type 0
IsChangeReply net r result = IsReplyOf (IsChange r net) r result
