-- What a refused first look at a call says.
use Rattle.std.specs.Prelude.{◌≤◌, ◌^◌}
use Rattle.upp_limits.specs.declared.op_kind.OpKind.{OpKind}
use Rattle.upp_limits.specs.declared.op_kind.OpFault.{OpFault}
use Rattle.upp_limits.specs.declared.op_kind.OpFault.TheVariants.{TooMany, TooWide, NoMemory}
use Rattle.upp_curve.specs.Curve.{SpecCurve}
use Rattle.upp_limits.specs.Gauges.{gauge_at}
use Rattle.curve_call.specs.FirstWindows.{IsWideAtFirst}

pub wide_gauge : (op : OpKind) (f g : SpecCurve) (e : OpFault) → IsWideAtFirst op f g e → 2 ^ 120 ≤ gauge_at op f g 0 0
wide_gauge op f g TooMany h = absurd h
wide_gauge op f g TooWide h = h
wide_gauge op f g NoMemory h = absurd h
