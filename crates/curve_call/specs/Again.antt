-- The least example of calls whose answer is determined: the curve again, or want of memory. Own choice.
use Rattle.std.specs.Prelude.{◌≡◌, Result, Ok, Err}
use Rattle.std.proofs.Common.{sym, ap, ◌∙◌}
use Rattle.upp_limits.specs.declared.op_kind.OpFault.{OpFault}
use Rattle.upp_limits.specs.declared.op_kind.OpFault.TheVariants.{NoMemory}
use Rattle.upp_curve.specs.Curve.{SpecCurve}
use Rattle.curve_call.specs.Determined.{AreDetermined}

abbrev pub IsAgain : SpecCurve → Result SpecCurve OpFault → Type 0
IsAgain c (Ok d) = d ≡ c
IsAgain c (Err fault) = fault ≡ NoMemory

pub again_determined : AreDetermined IsAgain
again_determined c (Ok d) (Ok e) a b m n = ap Ok (a ∙ sym b)
again_determined c (Ok d) (Err e) a b m n = absurd (n (ap Err b))
again_determined c (Err d) s a b m n = absurd (m (ap Err a))
