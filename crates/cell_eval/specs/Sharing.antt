-- A curve that is made and then shared, for which there may be no memory. Own choice.
use Rattle.std.specs.Prelude.{◌≡◌, Result, Ok, Err}
use Rattle.upp_limits.specs.declared.op_kind.OpFault.{OpFault}
use Rattle.upp_limits.specs.declared.op_kind.OpFault.TheVariants.{NoMemory}
use Rattle.upp_curve.specs.Curve.{SpecCurve}
use Rattle.net_cells.specs.Meanings.{curve}
use Rattle.net_cells.specs.Answers.{Answer}

-- what was made, or want of memory; a refusal stays
abbrev pub IsShared : Result SpecCurve OpFault → Answer → Type 0
IsShared (Ok f) (Ok v) = v ≡ curve f
IsShared (Ok f) (Err fault) = fault ≡ NoMemory
IsShared (Err e) (Ok v) = ⊥
IsShared (Err e) (Err fault) = fault ≡ e
