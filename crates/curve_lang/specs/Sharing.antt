-- What the calculator tells of the answers of the calls that it makes, and their curves once they are kept.
use Rattle.std.specs.Prelude.{◌≡◌, Result, Ok, Err}
use Rattle.upp_curve.specs.Curve.{SpecCurve}
use Rattle.upp_limits.specs.declared.op_kind.OpFault.{OpFault}
use Rattle.upp_limits.specs.declared.op_kind.OpFault.TheVariants as calls
use Rattle.upp_limits.specs.declared.own_limits.OverLimit.TheVariants as limits
use Rattle.curve_library.specs.declared.fault.CurveFault.{CurveFault}
use Rattle.curve_library.specs.declared.fault.CurveFault.TheVariants as kinds
use Rattle.input_texts.specs.declared.curve_script.fault.LangKind.{LangKind}
use Rattle.input_texts.specs.declared.curve_script.fault.LangKind.TheVariants.{C7, TooMany, TooWide, NoMemory}
use Rattle.curve_lang.specs.Finding.{Found, Gives}

abbrev pub told_kind : CurveFault → LangKind
told_kind kinds.Negative = C7
told_kind kinds.ZeroPeriod = C7
told_kind kinds.NotRising = C7
told_kind kinds.NotContinuous = C7
told_kind kinds.NotZeroAtStart = C7
told_kind (kinds.Op limits.TooMany) = TooMany
told_kind (kinds.Op limits.TooWide) = TooWide
told_kind kinds.NoMemory = NoMemory

abbrev pub told_call : OpFault → LangKind
told_call calls.TooMany = TooMany
told_call calls.TooWide = TooWide
told_call calls.NoMemory = NoMemory

-- a curve, or want of memory; a refusal is told
abbrev pub KindKept : Result SpecCurve CurveFault → Found → Type 0
KindKept (Ok c) r = Gives c r
KindKept (Err fault) r = r ≡ Err (told_kind fault)

abbrev pub CallKept : Result SpecCurve OpFault → Found → Type 0
CallKept (Ok c) r = Gives c r
CallKept (Err fault) r = r ≡ Err (told_call fault)
