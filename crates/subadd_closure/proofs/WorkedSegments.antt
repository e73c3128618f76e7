-- The numbers of two lines on open stretches: 1 between 2 and 3, and t - 1 after 1.
use Rattle.std.specs.Prelude.{◌≡◌, pos, negsuc, Some}
use Rattle.std.proofs.Common.{arith, refl, subst, inl, inr}
use Rattle.rational.specs.Gcd.{gcd, gcd_steps}
use Rattle.rational.specs.Rational.{frac, int, neg_ℚ, inv_ℚ, ◌+ℚ◌, ◌-ℚ◌, ◌*ℚ◌, ◌/ℚ◌}
use Rattle.rational.specs.Whole.{whole_part}
use Rattle.rational.specs.declared.Extended.TheVariants.{Fin, Inf}
use Rattle.rational.proofs.Linear.{with1}
use Rattle.upp_curve.specs.declared.affine_segment.line.Line.{Line}
use Rattle.min_plus.specs.Functions.{zero_q}
use Rattle.upp_curve.specs.affine_segment.Fits.{LineFitsAt}
use Rattle.subadd_closure.specs.ElementCurves.{IsStretch}
use Rattle.subadd_closure.specs.ElementAnswers.{IsOpenPart}
use Rattle.subadd_closure.proofs.MeetNumbers.{stretches_meet}

-- ---- 1 between 2 and 3
abbrev pub constant_line : Line
constant_line = record { icept = int (pos 1); slope = int (pos 0) }

lengths : whole_part (int (pos 2) /ℚ (int (pos 3) -ℚ int (pos 2))) ≡ 2
unfolding whole_part ◌+ℚ◌ ◌-ℚ◌ ◌*ℚ◌ ◌/ℚ◌ neg_ℚ inv_ℚ frac gcd gcd_steps
lengths = refl

pub constant_part : IsOpenPart (int (pos 2)) (Fin (int (pos 3))) constant_line 2
constant_part = record {
  stretch = subst (IsStretch (int (pos 2)) (Fin (int (pos 3)))) lengths
      (stretches_meet.ended (int (pos 2)) (int (pos 3)) (with1 zero_q (λ o. omega (arith, o.le, o.lt, o.same)))
      (with1 zero_q (λ o. omega (arith, o.le, o.lt, o.same))));
  late = inl (with1 zero_q (λ o. omega (arith, o.le, o.lt, o.same)));
}

pub constant_reads : LineFitsAt (int (pos 2)) (Some constant_line)
unfolding ◌*ℚ◌ frac gcd gcd_steps
constant_reads = record {
  product = record { top = omega arith; bottom = omega arith };
  sum = record { left = omega arith; right = omega arith; sum = omega arith; bottom = omega arith };
}

-- ---- t - 1 after 1
abbrev pub endless_line : Line
endless_line = record { icept = int (negsuc 0); slope = int (pos 1) }

pub endless_part : IsOpenPart (int (pos 1)) Inf endless_line 0
endless_part = record {
  stretch = stretches_meet.endless (int (pos 1)) (with1 zero_q (λ o. omega (arith, o.le, o.lt, o.same)));
  late = inr (with1 zero_q (λ o. omega (arith, o.le, o.lt, o.same)));
}

pub endless_reads : LineFitsAt (int (pos 1)) (Some endless_line)
unfolding ◌*ℚ◌ frac gcd gcd_steps
endless_reads = record {
  product = record { top = omega arith; bottom = omega arith };
  sum = record { left = omega arith; right = omega arith; sum = omega arith; bottom = omega arith };
}
