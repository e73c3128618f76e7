-- The worked curve of 3 t before 1 and t from 1 on is a curve in any form, finite and nowhere below 0.
use Rattle.std.specs.Prelude.{◌≡◌, List}
use Rattle.std.proofs.Common.{arith, sym, ap₂, ◌∙◌, refl, subst, inl, inr}
use Rattle.rational.specs.Rational.{ℚ, ◌*ℚ◌}
use Rattle.rational.specs.Extended.{◌≤ₑ◌}
use Rattle.rational.specs.declared.Extended.TheVariants.{Fin}
use Rattle.rational.proofs.Integers.{nat_le, nat_lt, nat_nonneg}
use Rattle.rational.proofs.Laws.{le_or_lt, le_refl}
use Rattle.rational.proofs.Linear.{with1}
use Rattle.upp_curve.specs.declared.affine_segment.line.Piece.{Piece}
use Rattle.upp_curve.specs.declared.curve.Tail.TheVariants.{Affine}
use Rattle.upp_curve.specs.Curve.{SpecCurve, value_at, HasSameValues}
use Rattle.min_plus.specs.Functions.{zero_q, IsFinite, IsNonnegative}
use Rattle.upp_curve.specs.Normal.{IsRaw}
use Rattle.upp_curve.specs.WorkedRows.{whole, dip}
use Rattle.upp_curve.proofs.WorkedRunning.{dip_early, dip_late}

dip_raw : IsRaw dip
dip_raw = record {
  starts = (refl, (nat_lt 0 1 (omega arith), tt));
  tail = record { nonneg = nat_nonneg 1; starts = (nat_le 0 1 (omega arith), (le_refl (whole 1), tt)) };
}

curve_by : (ps : List Piece) (rank : ℚ) → ps ≡ dip.pieces → rank ≡ whole 1 → record { pieces = ps; tail = Affine rank } ≡ dip
curve_by ps rank e r = ap₂ (λ (qs : List Piece) (x : ℚ). of qs x) e r
  where
    of : List Piece → ℚ → SpecCurve
    of qs x = record { pieces = qs; tail = Affine x }

pub raw_by : (ps : List Piece) (rank : ℚ) → ps ≡ dip.pieces → rank ≡ whole 1 → IsRaw record { pieces = ps; tail = Affine rank }
raw_by ps rank e r = subst IsRaw (sym (curve_by ps rank e r)) dip_raw

pub same_by : (c : SpecCurve) (ps : List Piece) (rank : ℚ) → ps ≡ dip.pieces → rank ≡ whole 1 → HasSameValues c record { pieces = ps; tail = Affine rank } → HasSameValues c dip
same_by c ps rank e r h = subst (HasSameValues c) (curve_by ps rank e r) h

pub finite_by : (c : SpecCurve) → HasSameValues c dip → IsFinite (value_at c)
finite_by c h t low = elim (le_or_lt (whole 1) t) [
  | inl l ↦ (t, h t low ∙ dip_late t l)
  | inr l ↦ (whole 3 *ℚ t, h t low ∙ dip_early t low l)
]

pub nonneg_by : (c : SpecCurve) → HasSameValues c dip → IsNonnegative (value_at c)
nonneg_by c h t low = elim (le_or_lt (whole 1) t) [
  | inl l ↦ subst (λ v. Fin zero_q ≤ₑ v) (sym (h t low ∙ dip_late t l)) low
  | inr l ↦ subst (λ v. Fin zero_q ≤ₑ v) (sym (h t low ∙ dip_early t low l)) (with1 t (λ c. omega (arith, c.le, c.lt, c.same)))
]
