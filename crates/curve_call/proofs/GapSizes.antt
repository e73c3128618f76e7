-- The steps to the gap of a stretch fit.
use Rattle.std.specs.Prelude.{◌≡◌, pos}
use Rattle.std.proofs.Common.{sym, subst, inl, inr}
use Rattle.rational.specs.Rational.{ℚ, ◌≤ℚ◌, ◌<ℚ◌, int}
use Rattle.rational.specs.MinMax.{min_q}
use Rattle.rational.specs.Grid.{Whole}
use Rattle.rational.specs.Extended.{Ext}
use Rattle.rational.specs.declared.Extended.TheVariants.{Fin, Inf}
use Rattle.rational.proofs.Laws.{le_of_lt, le_of_not_lt, le_trans}
use Rattle.rational.proofs.MinMax.{max_q_one, min_q_left, min_q_right}
use Rattle.upp_curve.specs.affine_segment.Values.{line_value}
use Rattle.upp_normal.specs.declared.ahead.Stretch.{Stretch}
use Rattle.upp_limits.specs.Limits.{Sizes}
use Rattle.upp_normal.specs.Operand.{AreLimited}
use Rattle.upp_normal.specs.Ahead.{GridValue}
use Rattle.upp_normal.proofs.AnswerRoom.{operand_line_fits, operand_line_value, values_fit, value_difference_stands}
use Rattle.curve_call.specs.declared.gaps.Gap.{Gap}
use Rattle.curve_call.specs.declared.gaps.Gap.TheVariants.{NoTime, Never, Is}
use Rattle.curve_call.specs.GapSteps.{gap_of, larger, DifferenceFits, StretchStands, IsGapValue, GapStands, StretchSizes, gap_along, LineGapFits, GapFits}

-- ---- tests
pub earlier_left : (t : ℚ) (e : ℚ) → ¬ (e <ℚ t) → t ≡ min_q t e
earlier_left t e h = sym (min_q_left t e (le_of_not_lt h))

pub earlier_right : (t : ℚ) (e : ℚ) → e <ℚ t → e ≡ min_q t e
earlier_right t e h = sym (min_q_right t e h)

-- ---- differences

pub differ : (z : Sizes) (last : ℚ) (x y : Ext) → AreLimited z last → GridValue z x → GridValue z y → DifferenceFits x y
differ z last x Inf A h k = tt
differ z last Inf (Fin y) A h k = tt
differ z last (Fin x) (Fin y) A h k = (values_fit z last x y A h k).1

pub differ_as : (x y v w : Ext) → v ≡ x → w ≡ y → DifferenceFits x y → DifferenceFits v w
differ_as x y v w e f h = subst (λ s. DifferenceFits s w) (sym e) (subst (DifferenceFits x) (sym f) h)

-- ---- the sizes of a gap
pub gap_stands : (z : Sizes) (x y : Ext) → GridValue z x → GridValue z y → GapStands z (gap_of x y)
gap_stands z x Inf h k = tt
gap_stands z Inf (Fin y) h k = tt
gap_stands z (Fin x) (Fin y) h k = let v = value_difference_stands z x y h k in record { whole = v.whole; within = v.within }

pub larger_stands : (z : Sizes) (a b : Gap) → GapStands z a → GapStands z b → GapStands z (larger a b)
larger_stands z NoTime b h k = k
larger_stands z Never b h k = tt
larger_stands z (Is x) NoTime h k = h
larger_stands z (Is x) Never h k = tt
larger_stands z (Is x) (Is y) h k = elim (max_q_one x y) [ inl e ↦ subst (IsGapValue z) (sym e) h | inr e ↦ subst (IsGapValue z) (sym e) k ]

pub stretch_stands : (z : Sizes) (last t end : ℚ) (f g : Stretch) → StretchSizes z last f g t end → t <ℚ end → GapStands z (gap_along f g t end)
stretch_stands z last t end f g S some =
    let A = S.limited in
    let T = S.time in
    let high : t ≤ℚ last = le_of_lt T.before in
    let low : int (pos 0) ≤ℚ end = le_trans T.nonneg (le_of_lt some) in
    larger_stands z _ _ (gap_stands z f.at g.at S.first.at S.second.at)
    (larger_stands z _ _
    (gap_stands z (line_value f.line t) (line_value g.line t) (operand_line_value z last t f.line A S.first.line T.whole T.nonneg high) (operand_line_value z last t g.line A S.second.line T.whole T.nonneg high))
    (gap_stands z (line_value f.line end) (line_value g.line end) (operand_line_value z last end f.line A S.first.line S.whole low S.high) (operand_line_value z last end g.line A S.second.line S.whole low S.high)))

-- ---- the steps to it
lines_gap : (z : Sizes) (last t : ℚ) (f g : Stretch) → AreLimited z last → StretchStands z f → StretchStands z g → Whole z.dt t → int (pos 0) ≤ℚ t → t ≤ℚ last → LineGapFits f.line g.line t
lines_gap z last t f g A F G on low high = record {
  first = operand_line_fits z last t f.line A F.line on low high;
  second = operand_line_fits z last t g.line A G.line on low high;
  gap =
      differ z last (line_value f.line t) (line_value g.line t) A (operand_line_value z last t f.line A F.line on low high) (operand_line_value z last t g.line A G.line on low high);
}

pub stretch_fits : (z : Sizes) (last t end : ℚ) (f g : Stretch) → StretchSizes z last f g t end → t <ℚ end → GapFits f g t end
stretch_fits z last t end f g S some =
    let T = S.time in
    record {
      start = differ z last f.at g.at S.limited S.first.at S.second.at;
      after = lines_gap z last t f g S.limited S.first S.second T.whole T.nonneg (le_of_lt T.before);
      before = lines_gap z last end f g S.limited S.first S.second S.whole (le_trans T.nonneg (le_of_lt some)) S.high;
    }
