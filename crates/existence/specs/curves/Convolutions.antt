-- A convolution has an answer that is not want of memory. Own choice.
use Rattle.upp_curve.specs.Curve.{SpecCurve}
use Rattle.upp_curve.specs.Curves.{IsCurve}
use Rattle.upp_limits.specs.declared.op_kind.OpKind.TheVariants.{Convolve}
use Rattle.existence.specs.curves.Answered.{HasAnswer}
use Rattle.curve_call.specs.Calls.{Applies}

abbrev pub ConvolutionsExist : Type 0
ConvolutionsExist = (f g : SpecCurve) → IsCurve f → IsCurve g → HasAnswer (Applies Convolve f g)
