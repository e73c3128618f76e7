use Rattle.std.specs.Prelude.{◌↔◌, IsTrue}
use Rattle.std.proofs.Common.{sym, subst, true≢false}
use Rattle.upp_curve.specs.affine_segment.Pieces.{Each}
use Rattle.upp_curve.specs.Shapes.{IsFinitePiece}
use Rattle.upp_curve.proofs.CurveShapes.{goes_on, finite_answer, not_finite}
use Rattle.upp_curve.proofs.curve.Curve.is_finite.Goals as goal

pub returns-in-Infinite : goal.returns-in-Infinite
returns-in-Infinite c = (
  λ h. absurd (true≢false (sym h)),
  λ h. absurd (not_finite c.args.self.now c.self.inside.pieces.items c.self.inside.tail c.in-Infinite.rank c.self.view_is c.in-Infinite.is c.self.invariant h),
)

pub returns-in_default : goal.returns-in_default
returns-in_default c =
    finite_answer c.args.self.now c.self.inside.pieces.items c.self.inside.tail c.are_finite.result c.self.view_is c.self.invariant (goes_on c.self.inside.tail c.in_default.not-Infinite)
    (subst (λ z. IsTrue c.are_finite.result ↔ Each IsFinitePiece z) c.deref.ensures.value c.are_finite.ensures)
