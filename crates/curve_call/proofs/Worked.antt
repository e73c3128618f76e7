-- The windows of the tests have sizes.
use Rattle.std.specs.Prelude.{◌≡◌, ℕ, ◌*◌, ◌≤◌, pos, List, [], ◌∷◌, Some}
use Rattle.std.proofs.Common.{arith, sym, refl, subst}
use Rattle.rational.specs.Rational.{ℚ, ◌*ℚ◌, ◌≤ℚ◌, int}
use Rattle.rational.specs.Grid.{Within}
use Rattle.rational.specs.declared.Extended.TheVariants.{Fin}
use Rattle.rational.proofs.Grid.{whole_int, within_nonneg}
use Rattle.rational.proofs.Integers.{int_mul, nat_le, nat_lt, nat_nonneg}
use Rattle.rational.proofs.Laws.{le_refl}
use Rattle.upp_curve.specs.declared.affine_segment.line.Piece.{Piece}
use Rattle.upp_limits.specs.Limits.{Sizes, gauge_of}
use Rattle.upp_normal.specs.Operand.{AreLimited, OperandPieces}
use Rattle.curve_call.specs.Stretches.{CutsFit}
use Rattle.curve_call.specs.Pointwise.{SumsFit}
use Rattle.curve_call.specs.Operands.{AreOperands, HaveSizes}
use Rattle.curve_call.specs.Worked.{level_pieces, ramp_pieces}
use Rattle.curve_call.proofs.OperandWindows.{cuts_fit, sums_fit}

z : Sizes
z = record { dv = 1; dt = 1; ds = 1; steepness = 2; largest = 4 }

limited : AreLimited z (int (pos 2))
unfolding z gauge_of
limited = record {
  sizes = record {
    dv = omega arith;
    dt = omega arith;
    ds = omega arith;
    steepness = omega arith;
    largest = omega arith;
    window = whole_int 1 (pos 2);
    reach = subst (λ y. y ≤ℚ int (pos 4)) (sym (int_mul (pos 2) (pos 2))) (le_refl (int (pos 4)));
  };
  gauge = omega arith;
  some = nat_nonneg 2;
}

small : (k n m : ℕ) → k * n ≤ m → Within (int (pos m)) (int (pos k) *ℚ int (pos n))
small k n m h = subst (Within (int (pos m))) (sym (int_mul (pos k) (pos n))) (within_nonneg (int (pos m)) (int (pos (k * n))) (nat_nonneg (k * n)) (nat_le (k * n) m h))

straight : (icept slope : ℕ) → icept ≤ 4 → slope ≤ 1
    → OperandPieces z (int (pos 2)) (record { x = int (pos 0); at = Fin (int (pos icept)); line = Some record { icept = int (pos icept); slope = int (pos slope) } } ∷ [])
unfolding z
straight icept slope h k = record {
  starts = (refl, tt);
  each = (
    record {
      start = whole_int 1 (pos 0);
      nonneg = le_refl (int (pos 0));
      before = nat_lt 0 2 (omega arith);
      at = record { whole = whole_int 1 (pos icept); within = within_nonneg (int (pos 4)) (int (pos icept)) (nat_nonneg icept) (nat_le icept 4 h) };
      line = record {
        slope = record { whole = whole_int 1 (pos slope); within = small 2 slope 2 (omega arith) };
        icept = whole_int 1 (pos icept);
        within = subst (λ v. Within v (int (pos icept))) (sym (int_mul (pos 2) (pos 4))) (within_nonneg (int (pos 8)) (int (pos icept)) (nat_nonneg icept) (nat_le icept 8 (omega arith)));
      };
    },
    tt,
  );
}

worked : AreOperands z (int (pos 2)) level_pieces ramp_pieces
worked = record { limited = limited; left = straight 1 0 (omega arith) (omega arith); right = straight 0 1 (omega arith) (omega arith) }

pub level_first : (end : ℚ) (f g : List Piece) → end ≡ int (pos 2) → f ≡ level_pieces → g ≡ ramp_pieces → HaveSizes end f g
level_first end f g e d h = rw (e, d, h) (z, worked)

pub ramp_first : (end : ℚ) (f g : List Piece) → end ≡ int (pos 2) → f ≡ ramp_pieces → g ≡ level_pieces → HaveSizes end f g
ramp_first end f g e d h = rw (e, d, h) (z, record { limited = worked.limited; left = worked.right; right = worked.left })

pub worked_cuts : (f g : List Piece) → f ≡ level_pieces → g ≡ ramp_pieces → CutsFit f g
worked_cuts f g d h = rw (d, h) (cuts_fit z (int (pos 2)) level_pieces ramp_pieces worked.limited worked.left worked.right)

pub worked_sums : (f g : List Piece) → f ≡ level_pieces → g ≡ ramp_pieces → SumsFit f g
worked_sums f g d h = rw (d, h) (sums_fit z (int (pos 2)) level_pieces ramp_pieces worked.limited worked.left worked.right)
