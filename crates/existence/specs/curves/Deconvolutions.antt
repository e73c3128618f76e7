-- A deconvolution has an answer that is not want of memory. Own choice.
use Rattle.upp_curve.specs.Curve.{SpecCurve, value_at}
use Rattle.upp_curve.specs.Curves.{IsCurve}
use Rattle.upp_limits.specs.declared.op_kind.OpKind.TheVariants.{Deconvolve}
use Rattle.min_plus.specs.Functions.{IsFinite}
use Rattle.existence.specs.curves.Answered.{HasAnswer}
use Rattle.curve_call.specs.Calls.{Applies}

abbrev pub DeconvolutionsExist : Type 0
DeconvolutionsExist =
    (f g : SpecCurve) → IsCurve f → IsCurve g → IsFinite (value_at g) → HasAnswer (Applies Deconvolve f g)
