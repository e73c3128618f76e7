-- The gap of two sums on one stretch: its steps fit, and it stands.
use Rattle.std.specs.Prelude.{◌*◌}
use Rattle.std.proofs.Common.{arith, sym, subst, inl, inr}
use Rattle.rational.specs.Rational.{ℚ}
use Rattle.rational.specs.Extended.{Ext}
use Rattle.rational.specs.declared.Extended.TheVariants.{Fin, Inf}
use Rattle.rational.proofs.Grid.{whole_sub}
use Rattle.rational.proofs.Laws.{le_of_lt}
use Rattle.rational.proofs.MinMax.{max_q_one}
use Rattle.upp_curve.specs.affine_segment.Values.{line_value}
use Rattle.upp_normal.specs.declared.ahead.Stretch.{Stretch}
use Rattle.upp_limits.specs.Limits.{Sizes}
use Rattle.upp_normal.specs.Operand.{AreLimited, answer_room}
use Rattle.upp_normal.specs.Room.{TimeHasRoom}
use Rattle.curve_call.specs.Made.{ValueApartFits}
use Rattle.curve_call.specs.declared.gaps.Gap.{Gap}
use Rattle.curve_call.specs.declared.gaps.Gap.TheVariants.{NoTime, Never, Is}
use Rattle.curve_call.specs.GapSteps.{gap_of, larger, gap_along, DifferenceFits, LineGapFits, GapFits}
use Rattle.element_envelope.specs.SumWindows.{SumValueAt}
use Rattle.element_envelope.proofs.ElementSizes.{gap_within}
use Rattle.element_envelope.proofs.SumSteps.{place_room, line_fits_to, line_value_to}
use Rattle.element_envelope.proofs.SumLower.{room_apart}
use Rattle.curve_conv.specs.Stretches.{SumStretch, SumTimeIn}
use Rattle.curve_conv.specs.PartGaps.{IsPartGap, PartGapStands, SumTimeTo}

apart_differ : (x y : Ext) → ValueApartFits x y → DifferenceFits x y
apart_differ x Inf h = tt
apart_differ Inf (Fin y) h = tt
apart_differ (Fin x) (Fin y) h = h

-- ---- a time
here_to : (z : Sizes) (end t : ℚ) → SumTimeIn z end t → SumTimeTo z end t
here_to z end t T = record { place = T.start.place; nonneg = T.start.nonneg; most = le_of_lt T.start.before }

room_to : (z : Sizes) (end t : ℚ) → AreLimited z end → SumTimeTo z end t → TimeHasRoom (answer_room z end) t
room_to z end t A T = place_room z end t A T.place T.nonneg

differ_at : (z : Sizes) (end t : ℚ) (x y : Ext) → AreLimited z end → SumTimeTo z end t → SumValueAt z t x → SumValueAt z t y → DifferenceFits x y
differ_at z end t x y A T X Y = apart_differ x y (room_apart z end t x y A (room_to z end t A T) X Y)

line_stands : (z : Sizes) (end t u : ℚ) (s : Stretch) → AreLimited z end → SumTimeTo z end u → SumStretch z t s → SumValueAt z u (line_value s.line u)
line_stands z end t u s A T S = line_value_to z end u s.line A S.line T.nonneg T.most

-- ---- gaps
gap_stands : (z : Sizes) (end t : ℚ) (x y : Ext) → AreLimited z end → SumTimeTo z end t → SumValueAt z t x → SumValueAt z t y → PartGapStands z (gap_of x y)
gap_stands z end t x Inf A T X Y = tt
gap_stands z end t Inf (Fin y) A T X Y = tt
gap_stands z end t (Fin x) (Fin y) A T X Y =
    let R = room_to z end t A T in
    let size = R.value_size in
    record {
      grid = R.grid;
      some = R.some;
      base = R.base;
      room = omega (arith, size);
      whole = whole_sub (R.grid * z.ds) x y (X.whole R.grid R.base R.whole) (Y.whole R.grid R.base R.whole);
      within = gap_within z 7 7 x y X.within Y.within;
    }

pub larger_stands : (z : Sizes) (a b : Gap) → PartGapStands z a → PartGapStands z b → PartGapStands z (larger a b)
larger_stands z NoTime b h k = k
larger_stands z Never b h k = tt
larger_stands z (Is x) NoTime h k = h
larger_stands z (Is x) Never h k = tt
larger_stands z (Is x) (Is y) h k = elim (max_q_one x y) [ inl e ↦ subst (IsPartGap z) (sym e) h | inr e ↦ subst (IsPartGap z) (sym e) k ]

pub stretch_stands : (z : Sizes) (end t u : ℚ) (s r : Stretch) → SumTimeIn z end t → SumTimeTo z end u → SumStretch z t s → SumStretch z t r → PartGapStands z (gap_along s r t u)
stretch_stands z end t u s r T U S R =
    let H = here_to z end t T in
    let A = T.limited in
    larger_stands z (gap_of s.at r.at) _ (gap_stands z end t s.at r.at A H S.at R.at)
    (larger_stands z (gap_of (line_value s.line t) (line_value r.line t)) (gap_of (line_value s.line u) (line_value r.line u))
    (gap_stands z end t (line_value s.line t) (line_value r.line t) A H (line_stands z end t t s A H S) (line_stands z end t t r A H R))
    (gap_stands z end u (line_value s.line u) (line_value r.line u) A U (line_stands z end t u s A U S) (line_stands z end t u r A U R)))

-- ---- the steps to them
lines_gap : (z : Sizes) (end t u : ℚ) (s r : Stretch) → AreLimited z end → SumTimeTo z end u → SumStretch z t s → SumStretch z t r → LineGapFits s.line r.line u
lines_gap z end t u s r A U S R = record {
  first = line_fits_to z end u s.line A S.line U.place U.nonneg U.most;
  second = line_fits_to z end u r.line A R.line U.place U.nonneg U.most;
  gap = differ_at z end u (line_value s.line u) (line_value r.line u) A U (line_stands z end t u s A U S) (line_stands z end t u r A U R);
}

pub stretch_fits : (z : Sizes) (end t u : ℚ) (s r : Stretch) → SumTimeIn z end t → SumTimeTo z end u → SumStretch z t s → SumStretch z t r → GapFits s r t u
stretch_fits z end t u s r T U S R =
    let H = here_to z end t T in
    record {
      start = differ_at z end t s.at r.at T.limited H S.at R.at;
      after = lines_gap z end t t s r T.limited H S R;
      before = lines_gap z end t u s r T.limited U S R;
    }
