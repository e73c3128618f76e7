-- The star of an element: what its calls answer, and that they make it.
use Rattle.std.specs.Prelude.{◌≡◌, Option, Some, None, Result, Ok, Err}
use Rattle.std.proofs.Common.{sym, refl, subst}
use Rattle.rational.specs.Rational.{ℚ}
use Rattle.upp_curve.specs.declared.affine_segment.element.Element.{Element}
use Rattle.upp_limits.specs.declared.op_kind.OpFault.{OpFault}
use Rattle.upp_limits.specs.declared.op_kind.OpFault.TheVariants.{TooMany, TooWide, NoMemory}
use Rattle.upp_curve.specs.Curve.{SpecCurve}
use Rattle.outcomes.specs.Calls.{goes_on, stops}
use Rattle.subadd_closure.specs.ElementAnswers.{IsElementClosure, ClosureAnswer}
use Rattle.subadd_closure.specs.Lattices.{lattice_curve, origin_curve}
use Rattle.subadd_closure.proofs.HeavyCalls.{heavy_is_refused}
use Rattle.subadd_closure.proofs.LatticeCurves.{lattice_normal, origin_is_curve}
use Rattle.subadd_closure.specs.Stars.{OrWants, answers, wants, Lowers, Copies, StarOf, MakesStar, IsPeriodAndRise}

-- ---- what is answered
pub no_memory : {A : Type 0} (P : Result A OpFault → Type 0) → OrWants P (Err NoMemory)
no_memory P = wants refl

-- a closure that is not answered, or is too wide
pub refused_star : (p : Option (ℚ × ℚ)) (e : Element) (fault : OpFault) → IsPeriodAndRise p → ClosureAnswer e (Err fault) → MakesStar p e (Err fault)
refused_star p e TooMany turn h = absurd h
refused_star None e TooWide turn h =
    answers (h.0, h.1, answers (heavy_is_refused.min h.0 origin_curve h.1.normal.raw origin_is_curve.normal.raw h.2))
refused_star (Some p) e TooWide turn h =
    answers (h.0, h.1, stops TooWide (answers (heavy_is_refused.convolve h.0 (lattice_curve p.0 p.1) h.1.normal.raw (lattice_normal p.0 p.1 turn.0).raw h.2)) refl)
refused_star p e NoMemory turn h = wants refl

pub made_star : (p : Option (ℚ × ℚ)) (e : Element) (c : SpecCurve) (r : Result SpecCurve OpFault) → IsElementClosure e c → StarOf p c r → MakesStar p e r
made_star p e c r h k = answers (c, h, k)

-- ---- the calls of a periodic tail's element
pub some_stops : (turn : Option (ℚ × ℚ)) (p : ℚ × ℚ) (c : SpecCurve) (fault : OpFault) (r : Result SpecCurve OpFault) → turn ≡ Some p
    → Copies p c (Err fault) → r ≡ Err fault → StarOf turn c r
some_stops turn p c fault r e h k = subst (λ z. StarOf z c r) (sym e) (stops fault h k)

pub some_goes_on : (turn : Option (ℚ × ℚ)) (p : ℚ × ℚ) (c x : SpecCurve) (r : Result SpecCurve OpFault) → turn ≡ Some p
    → Copies p c (Ok x) → Lowers x r → StarOf turn c r
some_goes_on turn p c x r e h k = subst (λ z. StarOf z c r) (sym e) (goes_on x h k)
