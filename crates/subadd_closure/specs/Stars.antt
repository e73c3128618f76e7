-- The calls that make the star of an element of a curve: its closure, in a periodic tail with all copies, lowered by
-- the point 0 at 0. Own choice.
use Rattle.std.specs.Prelude.{◌≡◌, ℕ, Option, Some, None, Result, Ok, Err}
use Rattle.rational.specs.Rational.{ℚ, ◌/ℚ◌, ◌<ℚ◌}
use Rattle.rational.specs.Ratio.{IsSmall}
use Rattle.upp_curve.specs.declared.affine_segment.element.Element.{Element}
use Rattle.upp_limits.specs.declared.op_kind.OpKind.TheVariants.{Min, Convolve}
use Rattle.upp_limits.specs.declared.op_kind.OpFault.{OpFault}
use Rattle.upp_limits.specs.declared.op_kind.OpFault.TheVariants.{NoMemory}
use Rattle.upp_curve.specs.Curve.{SpecCurve}
use Rattle.min_plus.specs.Functions.{zero_q}
use Rattle.curve_call.specs.Calls.{Applies}
use Rattle.outcomes.specs.Calls.{Then}
use Rattle.subadd_closure.specs.ElementAnswers.{IsElementClosure}
use Rattle.subadd_closure.specs.Lattices.{lattice_curve, origin_curve}

-- what P says; or want of memory, before a call of P is made
pub data OrWants {A : Type 0} (P : Result A OpFault → Type 0) (r : Result A OpFault) : Type 0 where
  answers : P r → OrWants P r
  wants : r ≡ Err NoMemory → OrWants P r

-- a curve lowered by the point 0 at 0
abbrev pub Lowers : SpecCurve → Result SpecCurve OpFault → Type 0
Lowers c r = OrWants (Applies Min c origin_curve) r

-- a curve with all its copies, each a period later and a rise higher than the one before
abbrev pub Copies : ℚ × ℚ → SpecCurve → Result SpecCurve OpFault → Type 0
Copies p c r = OrWants (Applies Convolve c (lattice_curve p.0 p.1)) r

-- the calls on a closure: of an element of a periodic tail the copies first
abbrev pub StarOf : Option (ℚ × ℚ) → SpecCurve → Result SpecCurve OpFault → Type 0
StarOf None c r = Lowers c r
StarOf (Some p) c r = Then (Copies p c) Lowers r

-- the calls on the closure of an element: the closure is the one curve in normal form, whatever its numbers' sizes
abbrev pub MakesStar : Option (ℚ × ℚ) → Element → Result SpecCurve OpFault → Type 0
MakesStar p e r = OrWants (λ s. (c : SpecCurve) × IsElementClosure e c × StarOf p c s) r

-- the period and the rise of a periodic tail
abbrev pub IsPeriodAndRise : Option (ℚ × ℚ) → Type 0
IsPeriodAndRise None = Unit {0}
IsPeriodAndRise (Some p) = (zero_q <ℚ p.0) × IsSmall (p.1 /ℚ p.0)

-- how many calls there are on a closure
abbrev pub turn_work : Option (ℚ × ℚ) → ℕ
turn_work None = 1
turn_work (Some p) = 2

-- ---- want of memory
-- at which of the calls on a closure it was, where n of them are counted: the last that is counted is within its limits
abbrev pub CopiesWant : ℚ × ℚ → SpecCurve → (n : ℕ) → Type 0
CopiesWant p c n = n ≡ 1 → Applies Convolve c (lattice_curve p.0 p.1) (Err NoMemory)

abbrev pub StarWants : Option (ℚ × ℚ) → SpecCurve → (n : ℕ) → Type 0
StarWants None c n = n ≡ 1 → Applies Min c origin_curve (Err NoMemory)
StarWants (Some p) c n =
    CopiesWant p c n
    × (n ≡ 2 → (d : SpecCurve) × Applies Convolve c (lattice_curve p.0 p.1) (Ok d) × Applies Min d origin_curve (Err NoMemory))

-- of those on the closure of an element
abbrev pub ElementWants : Option (ℚ × ℚ) → Element → (n : ℕ) → Type 0
ElementWants p e n = (c : SpecCurve) → IsElementClosure e c → StarWants p c n
