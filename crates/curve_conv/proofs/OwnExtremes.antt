-- What two curves do in the first period of their own: the windows over which it is read, and what is read.
use Rattle.std.specs.Prelude.{◌≡◌, pos}
use Rattle.std.proofs.Common.{sym, ap, ap₂, ◌∙◌, refl, subst}
use Rattle.rational.specs.Rational.{ℚ, ◌+ℚ◌, ◌≤ℚ◌, int}
use Rattle.rational.specs.declared.Extended.TheVariants.{Fin}
use Rattle.rational.proofs.Grid.{whole_int}
use Rattle.rational.proofs.Laws.{le_refl, le_lt_trans}
use Rattle.upp_curve.specs.Curve.{SpecCurve, value_at}
use Rattle.upp_curve.specs.Steady.{steady, rise_over}
use Rattle.upp_limits.specs.Limits.{Sizes}
use Rattle.upp_normal.specs.Ahead.{HasWindow, IsTimeIn}
use Rattle.curve_call.specs.Rises.{CurveRiseFits}
use Rattle.curve_call.proofs.CurveRises.{rise_is}
use Rattle.curve_call.specs.Bounds.{own_or}
use Rattle.curve_call.specs.Compared.{IsLookedAt}
use Rattle.curve_call.specs.Gaps.{InWindow, IsLargest}
use Rattle.curve_call.specs.Levels.{level_curve}
use Rattle.curve_call.proofs.MostAbove.{top_bounds, depth_bounds}
use Rattle.curve_call.proofs.OwnPeriods.{own_period_is, own_looked, named_windows}
use Rattle.curve_conv.specs.declared.extremes.Extremes.{Extremes}
use Rattle.curve_conv.specs.Late.{IsLateCall}
use Rattle.curve_conv.specs.LateBounds.{IsTop, IsDepth, AreCurveExtremes}
use Rattle.curve_conv.specs.Scans.{sizes_in}
use Rattle.curve_conv.proofs.BoundsFound.{slow_looked, fast_looked}

-- ---- what a gap to the level 0 says
pub top_bounds_named : (c d zero : SpecCurve) (from end q : ℚ) → d ≡ c → zero ≡ level_curve (int (pos 0)) → int (pos 0) ≤ℚ from → IsLargest (InWindow from end) (value_at d) (value_at zero) q → IsTop (value_at c) from end q
top_bounds_named c d zero from end q e f low L = λ t i.
    top_bounds c from end q t low (subst (λ k. IsLargest (InWindow from end) (value_at k) (value_at (level_curve (int (pos 0)))) q) e (subst (λ k. IsLargest (InWindow from end) (value_at d) (value_at k) q) f L)) i

pub depth_bounds_named : (c d zero : SpecCurve) (from end q : ℚ) → d ≡ c → zero ≡ level_curve (int (pos 0)) → int (pos 0) ≤ℚ from → IsLargest (InWindow from end) (value_at zero) (value_at d) q → IsDepth (value_at c) from end q
depth_bounds_named c d zero from end q e f low L = λ t i.
    depth_bounds c from end q t low (subst (λ k. IsLargest (InWindow from end) (value_at (level_curve (int (pos 0)))) (value_at k) q) e (subst (λ k. IsLargest (InWindow from end) (value_at k) (value_at d) q) f L)) i

-- ---- the windows
-- one period of its own after a curve repeats, and all before
pub record OwnWindows (z : Sizes) (x end : ℚ) (c : SpecCurve) : Type 0 where
  pub curve : HasWindow z end c
  pub zero : HasWindow z end (level_curve (int (pos 0)))
  pub start : IsTimeIn z end x
  pub first : IsTimeIn z end (int (pos 0))

own_windows : (z : Sizes) (x d own end : ℚ) (c : SpecCurve) → IsLookedAt z x d c → own ≡ own_or d c → end ≡ x +ℚ own → OwnWindows z x end c
own_windows z x d own end c L e f =
    let (W, Z, T) = named_windows z x d own end c (level_curve (int (pos 0))) L e f refl in
    record { curve = W; zero = Z; start = T; first = record { whole = whole_int z.dt (pos 0); nonneg = le_refl (int (pos 0)); before = le_lt_trans T.nonneg T.before } }

pub slow_windows : (slow fast : SpecCurve) (from d end x own last : ℚ) → IsLateCall slow fast from d end → x ≡ steady slow → own ≡ own_or d slow → last ≡ x +ℚ own → OwnWindows (sizes_in slow fast end) x last slow
slow_windows slow fast from d end x own last C e f g =
    own_windows (sizes_in slow fast end) x d own last slow (subst (λ y. IsLookedAt (sizes_in slow fast end) y d slow) (sym e) (slow_looked slow fast from d end C)) f g

pub fast_windows : (slow fast : SpecCurve) (from d end y own last : ℚ) → IsLateCall slow fast from d end → y ≡ steady fast → own ≡ own_or d fast → last ≡ y +ℚ own → OwnWindows (sizes_in slow fast end) y last fast
fast_windows slow fast from d end y own last C e f g =
    own_windows (sizes_in slow fast end) y d own last fast (subst (λ x. IsLookedAt (sizes_in slow fast end) x d fast) (sym e) (fast_looked slow fast from d end C)) f g

pub fast_own_fits : (slow fast : SpecCurve) (from d end own : ℚ) → IsLateCall slow fast from d end → own ≡ own_or d fast → CurveRiseFits fast own
fast_own_fits slow fast from d end own C e =
    let z = sizes_in slow fast end in
    let L = fast_looked slow fast from d end C in
    let K = own_looked z (steady fast) d fast L in
    let P = own_period_is z (steady fast) d fast L in
    let p = own_or d fast in
    subst (CurveRiseFits fast) (sym e) (rise_is z (steady fast +ℚ p) fast p K.limited K.curve.curve K.curve.stands K.curve.periods P.whole P.some (le_refl (steady fast +ℚ p))).fits

-- ---- what is read
pub extremes_are : (slow fast : SpecCurve) (d x p last y q end zero : ℚ) (e : Extremes) → x ≡ steady slow → y ≡ steady fast → p ≡ own_or d slow → q ≡ own_or d fast → last ≡ x +ℚ p → end ≡ y +ℚ q → zero ≡ int (pos 0)
    → IsTop (value_at slow) x last e.slow_top → IsDepth (value_at slow) zero last e.slow_depth → IsDepth (value_at fast) y end e.fast_depth → value_at fast y ≡ Fin e.fast_start → e.fast_rise ≡ rise_over fast q
    → AreCurveExtremes slow fast d e
extremes_are slow fast d x p last y q end zero e ex ey ep eq el ee ez top depth deep start rise =
    let slow_last : last ≡ steady slow +ℚ own_or d slow = el ∙ ap₂ (λ (a b : ℚ). a +ℚ b) ex ep in
    let fast_last : end ≡ steady fast +ℚ own_or d fast = ee ∙ ap₂ (λ (a b : ℚ). a +ℚ b) ey eq in
    record {
      slow_top = subst (λ a. IsTop (value_at slow) (steady slow) a e.slow_top) slow_last (subst (λ a. IsTop (value_at slow) a last e.slow_top) ex top);
      slow_depth = subst (λ a. IsDepth (value_at slow) (int (pos 0)) a e.slow_depth) slow_last (subst (λ a. IsDepth (value_at slow) a last e.slow_depth) ez depth);
      fast_depth = subst (λ a. IsDepth (value_at fast) (steady fast) a e.fast_depth) fast_last (subst (λ a. IsDepth (value_at fast) a end e.fast_depth) ey deep);
      fast_start = subst (λ a. value_at fast a ≡ Fin e.fast_start) ey start;
      fast_rise = rise ∙ ap (rise_over fast) eq;
    }
