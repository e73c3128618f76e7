-- The frame of a convolution, from the one with no period.
use Rattle.std.specs.Prelude.{◌≡◌, IfSome, None, Option, Some}
use Rattle.rational.specs.Rational.{ℚ, ◌-ℚ◌}
use Rattle.upp_limits.specs.declared.op_kind.OpKind.TheVariants.{Convolve}
use Rattle.upp_curve.specs.Curve.{SpecCurve}
use Rattle.upp_curve.specs.Curves.{IsCurve}
use Rattle.upp_limits.specs.Outcome.{IsWithin}
use Rattle.curve_call.specs.declared.frame.Frame.{Frame}
use Rattle.curve_call.specs.declared.bounds.Bounds.{Bounds}
use Rattle.curve_call.specs.declared.windows.CallWindow.{CallWindow}
use Rattle.curve_call.specs.Frames.{IsFrame}
use Rattle.curve_call.specs.FirstWindows.{IsFirstWindow}
use Rattle.curve_conv.specs.LateBounds.{IsSlowerBounds}
use Rattle.curve_conv.specs.ConvolveCall.{IsConvolveFrame}
use Rattle.curve_conv.proofs.ConvolveCalls.{high_frame, high_within}

-- with so many periods as are enough
pub between_frame : (f g : SpecCurve) (w : CallWindow) (from : ℚ) (b : Bounds) (o : Option Frame) → IsCurve f × IsCurve g → IsFirstWindow Convolve f g w
    → from ≡ w.end -ℚ w.period → IsSlowerBounds f g from w.period b → IfSome o (IsFrame Convolve f g b.high 0)
    → IfSome o (λ r. IsConvolveFrame f g r × IsWithin Convolve f g)
between_frame f g w from b None K W e B h = tt
between_frame f g w from b (Some r) K W e B h = (high_frame f g w from b r K W e B h, high_within f g w from b r K W e B h)

pub later_frames : (f g : SpecCurve) (first : Frame) (o : Option Frame) (from : ℚ) (b : Bounds) → IsFrame Convolve f g 0 0 first
    → from ≡ first.end -ℚ first.period → IsSlowerBounds f g from first.period b → IfSome o (IsFrame Convolve f g b.high 0)
    → IfSome o (λ r. IsConvolveFrame f g r × IsWithin Convolve f g)
later_frames f g first o from b h e B H =
    let w : CallWindow = record { start = first.start; period = first.period; end = first.end } in
    let W : IsFirstWindow Convolve f g w =
    record { window = record { start = h.start; period = h.period; end = h.end }; gauge = h.gauge } in
    between_frame f g w from b o (h.first, h.second) W e B H
