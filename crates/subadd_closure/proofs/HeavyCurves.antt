-- A curve that repeats and whose own gauge is 2 ^ 120 or more is too wide for any call.
use Rattle.std.specs.Prelude.{◌≡◌, ◌≤◌, ◌^◌, pos, List}
use Rattle.std.proofs.Common.{arith, sym, subst}
use Rattle.rational.specs.Rational.{ℚ, ◌+ℚ◌, ◌≤ℚ◌, ◌<ℚ◌, int}
use Rattle.rational.specs.Grid.{Whole}
use Rattle.rational.proofs.Grid.{whole_add}
use Rattle.upp_curve.specs.declared.affine_segment.line.Piece.{Piece}
use Rattle.upp_curve.specs.declared.curve.Tail.TheVariants.{Periodic}
use Rattle.upp_curve.specs.Curve.{SpecCurve}
use Rattle.upp_limits.specs.Limits.{curve_numbers, own_end, own_sizes, own_gauge}
use Rattle.upp_normal.proofs.GaugeRises.{curve_earlier, least_sizes}
use Rattle.subadd_closure.specs.Heavy.{IsHeavy}
use Rattle.upp_limits.proofs.FewCopies.{end_is}

-- ---- numbers that hold a longer window's numbers hold a shorter one's

-- ---- the sizes of numbers are the least that hold them

pub own_heavy : (ps : List Piece) (R d c : ℚ) → int (pos 0) <ℚ d
    → (let k : SpecCurve = record { pieces = ps; tail = Periodic R d c } in 2 ^ 120 ≤ own_gauge k → IsHeavy k)
unfolding own_sizes
own_heavy ps R d c some large z far A over h =
    let k : SpecCurve = record { pieces = ps; tail = Periodic R d c } in
    let end = own_end k in
    let is : end ≡ R +ℚ d = end_is ps R d c in
    let early : end ≤ℚ far = subst (λ x. x ≤ℚ far) (sym is) over in
    let near = curve_earlier z end far k some early h in
    let on : Whole z.dt end = subst (Whole z.dt) (sym is) (whole_add z.dt R d h.times.0 h.times.1.0) in
    let least = least_sizes z end far (curve_numbers end k) A.sizes near early on in
    let small = A.gauge in
    omega (arith, least, small, large)
