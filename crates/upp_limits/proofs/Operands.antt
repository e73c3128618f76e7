-- The numbers of a call's operands: those made without unrolling have the same sizes, and below a gauge of 2 ^ 128 they are known.
use Rattle.std.specs.Prelude.{◌≡◌, ◌<◌, ◌≤◌, ◌^◌}
use Rattle.rational.specs.Rational.{ℚ}
use Rattle.upp_curve.specs.Curve.{SpecCurve}
use Rattle.upp_curve.specs.Curves.{IsCurve}
use Rattle.upp_limits.specs.declared.op_kind.OpKind.{OpKind}
use Rattle.upp_limits.specs.declared.op_kind.Operands.{Operands}
use Rattle.upp_limits.specs.declared.op_kind.Operands.TheVariants.{First, Both, FirstScaled}
use Rattle.upp_limits.specs.Periods.{HasPeriod}
use Rattle.upp_limits.specs.Limits.{Numbers, Sizes, joined, curve_numbers, sizes_of, gauge_of}
use Rattle.upp_limits.specs.Sized.{HeldBy}
use Rattle.upp_limits.specs.Gauges.{scaled_curve, kind_numbers, operands_of, operand_numbers, numbers_over, gauge_over}
use Rattle.upp_limits.specs.ClosedOperands.{closed_operands, KnowsCurve, KnowsScaled}
use Rattle.upp_limits.proofs.CurveStands.{are_sizes, has_period}
use Rattle.upp_limits.proofs.Stands.{sizes_stand, stands_left, stands_right}
use Rattle.upp_limits.proofs.KnownNumbers.{curve_known}
use Rattle.upp_limits.proofs.ScaledCurves.{scaled_known}
use Rattle.upp_limits.proofs.OwnGauge.{large}
use Rattle.upp_limits.proofs.SameSizes.{Equals, equals_self, equals_joined, equals_curve, same_gauge}

pub curve_period : (c : SpecCurve) → IsCurve c → HasPeriod c.tail
curve_period c is = has_period c.pieces c.tail is.normal.raw.tail

-- ---- below a gauge of 2 ^ 128
pub held_left : (z : Sizes) (end : ℚ) (a b : Numbers) → HeldBy z end (joined a b) → HeldBy z end a
held_left z end a b h = record { sizes = h.sizes; gauge = h.gauge; stands = stands_left z a b h.stands }

pub held_right : (z : Sizes) (end : ℚ) (a b : Numbers) → HeldBy z end (joined a b) → HeldBy z end b
held_right z end a b h = record { sizes = h.sizes; gauge = h.gauge; stands = stands_right z a b h.stands }

pub held_known : (z : Sizes) (end : ℚ) (c : SpecCurve) → IsCurve c → HeldBy z end (curve_numbers end c) → KnowsCurve end c
held_known z end c is h = curve_known z end c h.sizes h.gauge is.normal.raw.starts (curve_period c is) h.stands

pub held_scaled : (z : Sizes) (end q : ℚ) (c : SpecCurve) → IsCurve c → HeldBy z end (curve_numbers end (scaled_curve q c)) → KnowsScaled q end c
held_scaled z end q c is h = scaled_known z end q c h.sizes h.gauge is.normal.raw.starts (curve_period c is) h.stands

-- the sizes of a call themselves hold the numbers of its operands
pub over_held : (op : OpKind) (f g : SpecCurve) (end : ℚ) → gauge_over op f g end < 2 ^ 128
    → HeldBy (sizes_of end (numbers_over op f g end)) end (operand_numbers (operands_of op) end f g)
unfolding gauge_over
over_held op f g end h =
    let n = numbers_over op f g end in
    let z = sizes_of end n in
    record {
      sizes = are_sizes end n;
      gauge = h;
      stands = stands_right z (kind_numbers op) (operand_numbers (operands_of op) end f g) (sizes_stand end n);
    }

pub unknown_over : (op : OpKind) (f g : SpecCurve) (end : ℚ)
    → ((z : Sizes) → HeldBy z end (operand_numbers (operands_of op) end f g) → ⊥) → 2 ^ 128 ≤ gauge_over op f g end
unknown_over op f g end h = large (gauge_over op f g end) (2 ^ 128) (λ l. h (sizes_of end (numbers_over op f g end)) (over_held op f g end l))

-- ---- the same sizes
pub operands_equal : (k : Operands) (end : ℚ) (f g : SpecCurve) → Equals (closed_operands k end f g) (operand_numbers k end f g)
operands_equal First end f g = equals_curve end f
operands_equal Both end f g = equals_joined _ _ _ _ (equals_curve end f) (equals_curve end g)
operands_equal (FirstScaled q) end f g = equals_joined _ _ _ _ (equals_curve end f) (equals_curve end (scaled_curve q f))

pub closed_gauge : (op : OpKind) (f g : SpecCurve) (end : ℚ)
    → gauge_of (sizes_of end (joined (kind_numbers op) (closed_operands (operands_of op) end f g))) ≡ gauge_over op f g end
unfolding gauge_over
closed_gauge op f g end =
    same_gauge end (joined (kind_numbers op) (closed_operands (operands_of op) end f g)) (numbers_over op f g end)
    (equals_joined _ _ _ _ (equals_self (kind_numbers op)) (operands_equal (operands_of op) end f g))
