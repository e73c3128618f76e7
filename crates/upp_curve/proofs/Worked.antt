-- Values worked out by hand, as checks of the definitions: each by computation.
use Rattle.std.specs.Prelude.{◌≡◌, ℕ, pos}
use Rattle.std.proofs.Common.{ap, refl}
use Rattle.rational.specs.Gcd.{gcd, gcd_steps}
use Rattle.rational.specs.Rational.{◌+ℚ◌, ◌-ℚ◌, ◌*ℚ◌, ◌/ℚ◌, neg_ℚ, inv_ℚ, frac, le_q, lt_q}
use Rattle.rational.specs.Fractions.{same_parts}
use Rattle.rational.specs.MinMax.{min_q, max_q}
use Rattle.rational.specs.Whole.{whole_part, periods}
use Rattle.rational.specs.declared.Extended.TheVariants.{Fin}
use Rattle.upp_curve.specs.affine_segment.Reading.{read, piece_in, piece_value}
use Rattle.upp_curve.specs.Curve.{value_at, repeated}
use Rattle.upp_curve.specs.Unrolled.{count, unroll, copies, each_later, upto, from}
use Rattle.upp_curve.specs.WorkedRows.{whole, StairRows, GateRows, BucketRows, RateLatencyRows, MinimumRows}

-- what a proof by computation opens
unfoldable pub computing : ℕ
unfolding value_at read piece_in piece_value repeated periods whole_part ◌+ℚ◌ ◌-ℚ◌ ◌*ℚ◌ ◌/ℚ◌ neg_ℚ inv_ℚ frac gcd gcd_steps le_q lt_q min_q max_q count unroll copies each_later upto from
computing = 0

pub stair_rows : StairRows
unfolding computing
stair_rows = record {
  at_0 = ap Fin (same_parts _ _ refl refl);
  at_1 = ap Fin (same_parts _ _ refl refl);
  at_2 = ap Fin (same_parts _ _ refl refl);
  at_5_2 = ap Fin (same_parts _ _ refl refl);
  formula = ap Fin (same_parts _ _ refl refl);
  early_0 = ap Fin (same_parts _ _ refl refl);
  early_1 = ap Fin (same_parts _ _ refl refl);
  early_4 = ap Fin (same_parts _ _ refl refl);
  early_formula = ap Fin (same_parts _ _ refl refl);
  below_5 = refl;
  unrolled_5 = refl;
  below_4 = refl;
}

pub gate_rows : GateRows
unfolding computing
gate_rows = record {
  at_750 = ap Fin (same_parts _ _ refl refl);
  at_800 = ap Fin (same_parts _ _ refl refl);
  at_1000 = ap Fin (same_parts _ _ refl refl);
  at_1750 = ap Fin (same_parts _ _ refl refl);
  at_2000 = ap Fin (same_parts _ _ refl refl);
  formula_800 = ap Fin (same_parts _ _ refl refl);
  formula_1750 = ap Fin (same_parts _ _ refl refl);
  formula_2000 = ap Fin (same_parts _ _ refl refl);
}

pub bucket_rows : BucketRows
unfolding computing
bucket_rows = record { at_0 = ap Fin (same_parts _ _ refl refl); at_2 = ap Fin (same_parts _ _ refl refl) }

pub rate_latency_rows : RateLatencyRows
unfolding computing
rate_latency_rows = record {
  at_0 = ap Fin (same_parts _ _ refl refl);
  at_10 = ap Fin (same_parts _ _ refl refl);
  at_110 = ap Fin (same_parts _ _ refl refl);
  at_once = refl;
}

pub minimum_rows : MinimumRows
unfolding computing
minimum_rows = record {
  min_2 = ap Fin (same_parts _ _ refl refl);
  min_3 = ap Fin (same_parts _ _ refl refl);
  max_1 = ap Fin (same_parts _ _ refl refl);
  sum_1 = ap Fin (same_parts _ _ refl refl);
  less_3 = ap Fin (same_parts _ _ refl refl);
  none_1 = ap Fin (same_parts _ _ refl refl);
}

-- sums and products of whole numbers
pub half_twice : whole 2 *ℚ frac (pos 1) 1 ≡ whole 1
unfolding computing
half_twice = same_parts _ _ refl refl

pub latencies : whole 130 +ℚ whole 10 ≡ whole 140
unfolding computing
latencies = same_parts _ _ refl refl

pub bursts : whole 12000 +ℚ whole 10 *ℚ whole 130 ≡ whole 13300
unfolding computing
bursts = same_parts _ _ refl refl

pub both_bursts : whole 3 +ℚ whole 5 ≡ whole 8
unfolding computing
both_bursts = same_parts _ _ refl refl
