-- Bounds of the number of periods in the fold of a closure, over curves.
use Rattle.curve_conv.proofs.BoundsFound.{slow_rate}
use Rattle.std.specs.Prelude.{◌≡◌, ℕ, suc, ◌+◌, ◌≤◌, pos, Bool, true, false, not, IsTrue, ◌↔◌, cond, List, [], ◌∷◌, None}
use Rattle.std.proofs.Common.{arith, sym, refl, ap, ap₂, ◌∙◌, subst, inl, inr, length, get_or, true≢false}
use Rattle.rational.specs.Rational.{ℚ, ◌+ℚ◌, ◌-ℚ◌, ◌*ℚ◌, ◌/ℚ◌, ◌≤ℚ◌, ◌<ℚ◌, int, le_q}
use Rattle.rational.specs.Extended.{Ext, ◌<ₑ◌, ◌≤ₑ◌, ◌+ₑ◌}
use Rattle.rational.specs.declared.Extended.TheVariants.{Fin, Inf}
use Rattle.rational.proofs.Grid.{whole_int}
use Rattle.rational.proofs.Linear.{with2, with3, with4, with5, with7}
use Rattle.rational.proofs.Laws.{le_refl, le_trans, le_of_lt, lt_le_trans, mul_nonneg, not_zero, le_of_not_lt}
use Rattle.rational.proofs.Integers.{nat_nonneg}
use Rattle.rational.proofs.Quotients.{div_unique}
use Rattle.rational.proofs.Whole.{one_more_times}
use Rattle.upp_curve.specs.declared.affine_segment.line.Piece.{Piece}
use Rattle.upp_curve.specs.affine_segment.Reading.{read, piece_value}
use Rattle.upp_curve.specs.affine_segment.Values.{line_value}
use Rattle.upp_curve.proofs.affine_segment.PieceIn.{piece_in_stop, read_is}
use Rattle.upp_curve.specs.declared.curve.Tail.{Tail}
use Rattle.upp_curve.specs.declared.curve.Tail.TheVariants.{Periodic}
use Rattle.upp_curve.specs.Curve.{SpecCurve, value_at}
use Rattle.upp_curve.specs.Curves.{IsCurve}
use Rattle.upp_curve.specs.Normal.{TailFits}
use Rattle.upp_curve.specs.Steady.{steady, steady_in, rate, rise_over}
use Rattle.upp_curve.proofs.Repeats.{repeated_first}
use Rattle.upp_normal.specs.Ahead.{IsTimeIn}
use Rattle.upp_normal.proofs.StretchValues.{value_periodic}
use Rattle.upp_normal.proofs.UnrollSteps.{ext_cases}
use Rattle.curve_call.specs.Rises.{CurveRiseFits}
use Rattle.curve_call.proofs.CurveRises.{rise_is}
use Rattle.curve_call.specs.Bounds.{own_or, IsFiniteLate}
use Rattle.curve_call.specs.Gaps.{InWindow, IsLargest}
use Rattle.curve_call.specs.Levels.{level_curve}
use Rattle.curve_call.proofs.OwnPeriods.{own_period_is, own_looked}
use Rattle.curve_call.proofs.RateRises.{rate_rise}
use Rattle.curve_call.proofs.MostAbove.{own_repeats, finite_rate, not_falling, rates_order, top_bounds, depth_bounds, depth_finite}
use Rattle.curve_conv.specs.Late.{IsLateAfter, IsLateCall}
use Rattle.curve_conv.specs.LateBounds.{IsTop, IsLateBounds}
use Rattle.curve_conv.specs.Scans.{sizes_in}
use Rattle.curve_conv.proofs.BoundsFound.{slow_looked, fast_looked}
use Rattle.curve_conv.proofs.FoundGaps.{number_found}
use Rattle.curve_conv.proofs.LateNumbers.{late_times, end_some}
use Rattle.subadd_closure.specs.QuickBounds.{Reaches, IsLevel, IsFloor, BeginsLate}
use Rattle.subadd_closure.proofs.QuickLate.{reach_from_zero, reach_from_start, late_by_level}

-- ---- what fits
pub slow_own_fits : (slow fast : SpecCurve) (from d end own : ℚ) → IsLateCall slow fast from d end → own ≡ own_or d slow → CurveRiseFits slow own
slow_own_fits slow fast from d end own C e =
    let z = sizes_in slow fast end in
    let L = slow_looked slow fast from d end C in
    let K = own_looked z (steady slow) d slow L in
    let P = own_period_is z (steady slow) d slow L in
    let p = own_or d slow in
    subst (CurveRiseFits slow) (sym e) (rise_is z (steady slow +ℚ p) slow p K.limited K.curve.curve K.curve.stands K.curve.periods P.whole P.some (le_refl (steady slow +ℚ p))).fits

pub slow_own_some : (slow fast : SpecCurve) (from d end own : ℚ) → IsLateCall slow fast from d end → own ≡ own_or d slow → int (pos 0) <ℚ own
slow_own_some slow fast from d end own C e =
    subst (λ p. int (pos 0) <ℚ p) (sym e) (own_period_is (sizes_in slow fast end) (steady slow) d slow (slow_looked slow fast from d end C)).some

pub fast_own_some : (slow fast : SpecCurve) (from d end own : ℚ) → IsLateCall slow fast from d end → own ≡ own_or d fast → int (pos 0) <ℚ own
fast_own_some slow fast from d end own C e =
    subst (λ p. int (pos 0) <ℚ p) (sym e) (own_period_is (sizes_in slow fast end) (steady fast) d fast (fast_looked slow fast from d end C)).some

-- times of the whole window
pub zero_in : (slow fast : SpecCurve) (from d end zero : ℚ) → IsLateCall slow fast from d end → zero ≡ int (pos 0) → IsTimeIn (sizes_in slow fast end) end zero
zero_in slow fast from d end zero C e =
    subst (IsTimeIn (sizes_in slow fast end) end) (sym e)
    record { whole = whole_int (sizes_in slow fast end).dt (pos 0); nonneg = le_refl (int (pos 0)); before = end_some slow fast from d end C }

pub start_in : (slow fast : SpecCurve) (from d end x : ℚ) → IsLateCall slow fast from d end → x ≡ steady slow → IsTimeIn (sizes_in slow fast end) end x
start_in slow fast from d end x C e =
    let T = late_times slow fast from d end C in
    subst (IsTimeIn (sizes_in slow fast end) end) (sym e)
    record { whole = T.first.whole; nonneg = T.first.nonneg; before = before (steady slow) (steady fast) from d end T.second.nonneg C.some C.from_is C.end_is }
  where
    before : (x y from d end : ℚ) → int (pos 0) ≤ℚ y → int (pos 0) <ℚ d → from ≡ x +ℚ y +ℚ d → end ≡ from +ℚ d → x <ℚ end
    before x y from d end a b e f = with5 x y from d end (λ c. omega (arith, c.le, c.lt, c.same))

-- ---- the line
pub line_run : (rise period t rate run : ℚ) → int (pos 0) <ℚ period → rate ≡ rise /ℚ period → run ≡ rate *ℚ t → (r : ℚ) → r *ℚ period ≡ rise → run ≡ r *ℚ t
line_run rise period t rate run some e f r h =
    f ∙ ap (λ z. z *ℚ t) (e ∙ div_unique rise period r (not_zero period some) h)

-- ---- rates
-- ---- levels
times_late : (x y d t : ℚ) → int (pos 0) ≤ℚ y → int (pos 0) <ℚ d → x +ℚ y +ℚ d ≤ℚ t → x ≤ℚ t
times_late x y d t low some far = with4 x y d t (λ c. omega (arith, c.le, c.lt, c.same))

times_after : (x y d t : ℚ) → int (pos 0) <ℚ d → x +ℚ y +ℚ d ≤ℚ t → x +ℚ y ≤ℚ t
times_after x y d t some far = with4 x y d t (λ c. omega (arith, c.le, c.lt, c.same))

here_in : (y q : ℚ) → int (pos 0) <ℚ q → InWindow y (y +ℚ q) y
here_in y q some = record { start = le_refl y; before = with2 y q (λ c. omega (arith, c.le, c.lt, c.same)) }

-- what is nowhere above a number is a number where it begins
finite_there : (y q top : ℚ) (c : SpecCurve) → int (pos 0) <ℚ q → IsTop (value_at c) y (y +ℚ q) top → IsFiniteLate y c
finite_there y q top c some up = elim (ext_cases (value_at c y)) [
  | inl e ↦ absurd (subst (λ v. v ≤ₑ Fin top) e (up y (here_in y q some)))
  | inr h ↦ record { at = y; late = le_refl y; value = h.0; is = h.1 }
]

pub level_zero : (slow fast : SpecCurve) (from d end x own last y zero top start rise run both level : ℚ) → IsLateCall slow fast from d end → x ≡ steady slow
    → own ≡ own_or d slow → last ≡ x +ℚ own → y ≡ steady fast → zero ≡ int (pos 0) → rise ≡ rise_over slow own
    → IsLargest (InWindow x last) (value_at slow) (value_at (level_curve (int (pos 0)))) top → value_at fast zero ≡ Fin start
    → ((r : ℚ) → r *ℚ own ≡ rise → run ≡ r *ℚ y) → both ≡ top +ℚ start → level ≡ both +ℚ run → IsLevel slow fast d level
level_zero slow fast from d end x own last y zero top start rise run both level C ex eo el ey ez er up at line eb ev r t rated nr far =
    let L = slow_looked slow fast from d end C in
    let z = sizes_in slow fast end in
    let T = late_times slow fast from d end C in
    let p = own_or d slow in
    let last_is : last ≡ steady slow +ℚ p = el ∙ ap₂ (λ (a b : ℚ). a +ℚ b) ex eo in
    let whole = subst (λ a. IsLargest (InWindow (steady slow) a) (value_at slow) (value_at (level_curve (int (pos 0)))) top) last_is
    (subst (λ a. IsLargest (InWindow a last) (value_at slow) (value_at (level_curve (int (pos 0)))) top) ex up) in
    let high : IsTop (value_at slow) (steady slow) (steady slow +ℚ p) top = λ s i. top_bounds slow (steady slow) (steady slow +ℚ p) top s T.first.nonneg whole i in
    let gone : run ≡ r *ℚ steady fast = line r (ap (λ q. r *ℚ q) eo ∙ rate_rise slow p r rated ∙ sym (er ∙ ap (rise_over slow) eo)) ∙ ap (λ q. r *ℚ q) ey in
    let is : level ≡ top +ℚ start +ℚ r *ℚ steady fast = ev ∙ ap₂ (λ (a b : ℚ). a +ℚ b) eb gone in
    let late = times_late (steady slow) (steady fast) d t T.second.nonneg C.some far in
    subst (λ l. Reaches (value_at slow) (value_at fast) (steady slow) (steady fast) r l t) (sym is)
    (reach_from_zero (value_at slow) (value_at fast) (steady slow) p (steady fast) (rise_over slow p) r top start t T.second.nonneg (le_trans T.first.nonneg late) late
    (own_period_is z (steady slow) d slow L).some (own_repeats z (steady slow) d slow L) (rate_rise slow p r rated) nr high (subst (λ q. value_at fast q ≡ Fin start) ez at))

pub level_start : (slow fast : SpecCurve) (from d end x y own last other start top rise run both level : ℚ) → IsLateCall slow fast from d end → x ≡ steady slow
    → y ≡ steady fast → own ≡ own_or d fast → last ≡ y +ℚ own → other ≡ own_or d slow → rise ≡ rise_over fast own → value_at slow x ≡ Fin start
    → IsLargest (InWindow y last) (value_at fast) (value_at (level_curve (int (pos 0)))) top
    → ((r : ℚ) → r *ℚ own ≡ rise → run ≡ r *ℚ other) → both ≡ start +ℚ top → level ≡ both +ℚ run → IsLevel slow fast d level
level_start slow fast from d end x y own last other start top rise run both level C ex ey eo el et er at up line eb ev r t rated nr far =
    let L = slow_looked slow fast from d end C in
    let M = fast_looked slow fast from d end C in
    let z = sizes_in slow fast end in
    let T = late_times slow fast from d end C in
    let p = own_or d slow in
    let q = own_or d fast in
    let last_is : last ≡ steady fast +ℚ q = el ∙ ap₂ (λ (a b : ℚ). a +ℚ b) ey eo in
    let whole = subst (λ a. IsLargest (InWindow (steady fast) a) (value_at fast) (value_at (level_curve (int (pos 0)))) top) last_is
    (subst (λ a. IsLargest (InWindow a last) (value_at fast) (value_at (level_curve (int (pos 0)))) top) ey up) in
    let high : IsTop (value_at fast) (steady fast) (steady fast +ℚ q) top = λ s i. top_bounds fast (steady fast) (steady fast +ℚ q) top s T.second.nonneg whole i in
    let (s, sped) = finite_rate z (steady fast) d fast M (finite_there (steady fast) q top fast (own_period_is z (steady fast) d fast M).some high) in
    let gone : run ≡ s *ℚ p = line s (ap (λ b. s *ℚ b) eo ∙ rate_rise fast q s sped ∙ sym (er ∙ ap (rise_over fast) eo)) ∙ ap (λ b. s *ℚ b) et in
    let is : level ≡ start +ℚ top +ℚ s *ℚ p = ev ∙ ap₂ (λ (a b : ℚ). a +ℚ b) eb gone in
    let less = rates_order slow fast r s rated sped C.slower in
    subst (λ l. Reaches (value_at slow) (value_at fast) (steady slow) (steady fast) r l t) (sym is)
    (reach_from_start (value_at slow) (value_at fast) (steady slow) p (steady fast) q (rise_over slow p) (rise_over fast q) r s top start t T.first.nonneg
    T.second.nonneg (times_after (steady slow) (steady fast) d t C.some far) (own_period_is z (steady slow) d slow L).some (own_period_is z (steady fast) d fast M).some
    (own_repeats z (steady slow) d slow L) (own_repeats z (steady fast) d fast M) (rate_rise slow p r rated) (rate_rise fast q s sped) nr (le_trans nr less)
    (subst (λ a. value_at slow a ≡ Fin start) ex at) high)

-- ---- floors
pub floor_is : (slow fast : SpecCurve) (from d end x p last y q late zero slow_depth fast_depth rise both floor : ℚ) → IsLateCall slow fast from d end
    → x ≡ steady slow → p ≡ own_or d slow → last ≡ x +ℚ p → y ≡ steady fast → q ≡ own_or d fast → late ≡ y +ℚ q → zero ≡ int (pos 0)
    → IsLargest (InWindow zero last) (value_at (level_curve (int (pos 0)))) (value_at slow) slow_depth
    → IsLargest (InWindow y late) (value_at (level_curve (int (pos 0)))) (value_at fast) fast_depth
    → rise ≡ rise_over fast q → both ≡ slow_depth +ℚ fast_depth → floor ≡ both +ℚ rise → IsFloor slow fast d floor
floor_is slow fast from d end x p last y q late zero slow_depth fast_depth rise both floor C ex ep el ey eq et ez low deep er eb ef =
    let T = late_times slow fast from d end C in
    let level = value_at (level_curve (int (pos 0))) in
    let last_is : last ≡ steady slow +ℚ own_or d slow = el ∙ ap₂ (λ (a b : ℚ). a +ℚ b) ex ep in
    let late_is : late ≡ steady fast +ℚ own_or d fast = et ∙ ap₂ (λ (a b : ℚ). a +ℚ b) ey eq in
    let one = subst (λ a. IsLargest (InWindow (int (pos 0)) a) level (value_at slow) slow_depth) last_is
    (subst (λ a. IsLargest (InWindow a last) level (value_at slow) slow_depth) ez low) in
    let two = subst (λ a. IsLargest (InWindow (steady fast) a) level (value_at fast) fast_depth) late_is
    (subst (λ a. IsLargest (InWindow a late) level (value_at fast) fast_depth) ey deep) in
    record {
      slow_depth = slow_depth;
      fast_depth = fast_depth;
      slow_is = λ s i. depth_bounds slow (int (pos 0)) (steady slow +ℚ own_or d slow) slow_depth s (le_refl (int (pos 0))) one i;
      fast_is = λ s i. depth_bounds fast (steady fast) (steady fast +ℚ own_or d fast) fast_depth s T.second.nonneg two i;
      finite = depth_finite (steady fast) d fast_depth fast two;
      sum = ef ∙ ap₂ (λ (a b : ℚ). a +ℚ b) eb (er ∙ ap (rise_over fast) eq);
    }

-- ---- enough periods
after_level : (slow fast : SpecCurve) (from d end level floor : ℚ) (n : ℕ) → IsLateCall slow fast from d end → ¬ (rate slow <ₑ rate (level_curve (int (pos 0))))
    → IsLevel slow fast d level → IsFloor slow fast d floor → level +ℚ floor ≤ℚ int (pos (n + 1)) *ℚ (rise_over fast d -ℚ rise_over slow d) → IsLateAfter slow fast from d n
after_level slow fast from d end level floor n C up V F bound = λ t h l.
    let z = sizes_in slow fast end in
    let L = slow_looked slow fast from d end C in
    let M = fast_looked slow fast from d end C in
    let (r, rated) = slow_rate slow fast C.slower in
    let (s, sped) = finite_rate z (steady fast) d fast M F.finite in
    let nr = not_falling slow r rated up in
    let less = rates_order slow fast r s rated sped C.slower in
    let q = own_or d fast in
    let run = int (pos n) *ℚ d in
    let more : int (pos 0) ≤ℚ run = mul_nonneg (nat_nonneg n) (le_of_lt C.some) in
    let far = past (steady slow) (steady fast) d from t run (int (pos (n + 1)) *ℚ d) C.from_is (one_more n) h in
    late_by_level (value_at slow) (value_at fast) (steady slow) (own_or d slow) (steady fast) q d (rise_over fast q) r s (rise_over slow d) (rise_over fast d) level
    F.slow_depth F.fast_depth (int (pos (n + 1))) t (own_period_is z (steady slow) d slow L).some (own_period_is z (steady fast) d fast M).some
    (own_repeats z (steady fast) d fast M) (rate_rise fast q s sped) (rate_rise slow d r rated) (rate_rise fast d s sped) (le_trans nr less) less F.slow_is F.fast_is
    (V r t rated nr (begun (steady slow) (steady fast) d from t run C.from_is more h))
    (subst (λ a. level +ℚ a ≤ℚ int (pos (n + 1)) *ℚ (rise_over fast d -ℚ rise_over slow d)) F.sum bound) far
  where
    one_more : (m : ℕ) → int (pos (m + 1)) *ℚ d ≡ int (pos m) *ℚ d +ℚ d
    one_more m = let next : m + 1 ≡ suc m = omega arith in ap (λ i. int (pos i) *ℚ d) next ∙ one_more_times m d

    past : (x y d from t v w : ℚ) → from ≡ x +ℚ y +ℚ d → w ≡ v +ℚ d → from +ℚ v ≤ℚ t → x +ℚ y +ℚ w ≤ℚ t
    past x y d from t v w start more late = with7 x y d from t v w (λ c. omega (arith, c.le, c.lt, c.same))

    begun : (x y d from t v : ℚ) → from ≡ x +ℚ y +ℚ d → int (pos 0) ≤ℚ v → from +ℚ v ≤ℚ t → x +ℚ y +ℚ d ≤ℚ t
    begun x y d from t v start more late = with7 x y d from t v v (λ c. omega (arith, c.le, c.lt, c.same))

pub bounds_by : (slow fast : SpecCurve) (from d end level floor gap lead : ℚ) (n : ℕ) → IsLateCall slow fast from d end → ¬ (rate slow <ₑ rate (level_curve (int (pos 0))))
    → IsLevel slow fast d level → IsFloor slow fast d floor → gap ≡ level +ℚ floor → lead ≡ rise_over fast d -ℚ rise_over slow d → gap ≤ℚ int (pos (n + 1)) *ℚ lead
    → IsLateBounds slow fast from d record { low = 0; high = n }
bounds_by slow fast from d end level floor gap lead n C up V F e k bound =
    let here = after_level slow fast from d end level floor n C up V F
    (subst (λ x. x ≤ℚ int (pos (n + 1)) *ℚ (rise_over fast d -ℚ rise_over slow d)) e (subst (λ y. gap ≤ℚ int (pos (n + 1)) *ℚ y) k bound)) in
    let N = number_found slow fast from d end n C here in
    record { number = N.number; is = N.is; low = omega arith; high = N.most; late = N.late }

-- ---- a curve that is infinite up to when it repeats
none_least : (slow fast : SpecCurve) (from d : ℚ) → BeginsLate slow → IsLateAfter slow fast from d 0
none_least slow fast from d late = λ t h l b below i early after.
    subst (λ v. Fin b ≤ₑ v +ₑ value_at fast i.second) (sym (late i.first early)) (above (value_at fast i.second) b)
  where
    above : (v : Ext) (b : ℚ) → Fin b ≤ₑ Inf +ₑ v
    above Inf b = tt
    above (Fin x) b = tt

pub bounds_late : (slow fast : SpecCurve) (from d end : ℚ) → IsLateCall slow fast from d end → BeginsLate slow
    → IsLateBounds slow fast from d record { low = 0; high = 0 }
bounds_late slow fast from d end C late =
    let N = number_found slow fast from d end 0 C (none_least slow fast from d late) in
    record { number = N.number; is = N.is; low = omega arith; high = N.most; late = N.late }

same_cond : (b : Bool) → ◌≡◌ {A = Ext} (cond b Inf Inf) Inf
same_cond true = refl
same_cond false = refl

nothing_read : (p q : Piece) (ps : List Piece) (t : ℚ) → p.at ≡ Inf → p.line ≡ None → t <ℚ q.x → read (p ∷ q ∷ ps) t ≡ Inf
unfolding piece_value
nothing_read p q ps t at line early =
    read_is p (q ∷ ps) t ∙ ap (λ o. piece_value o t) (piece_in_stop p q ps t early)
    ∙ ap₂ (λ (v w : Ext). cond (le_q t p.x) v w) at (ap (λ l. line_value l t) line) ∙ same_cond (le_q t p.x)

early_nothing : (c : SpecCurve) (p q : Piece) (ps : List Piece) (rank period rise t : ℚ) → IsCurve c → c.tail ≡ Periodic rank period rise
    → c.pieces ≡ p ∷ q ∷ ps → p.at ≡ Inf → p.line ≡ None → rank ≤ℚ q.x → t <ℚ rank → value_at c t ≡ Inf
early_nothing c p q ps rank period rise t C tail are at line late early =
    let some : int (pos 0) <ℚ period = (subst (TailFits c.pieces) tail C.normal.raw.tail).some in
    value_periodic c rank period rise t tail ∙ repeated_first (read c.pieces) rank period rise t some (before t rank period some early)
    ∙ ap (λ xs. read xs t) are ∙ nothing_read p q ps t at line (lt_le_trans early late)
  where
    before : (t rank period : ℚ) → int (pos 0) <ℚ period → t <ℚ rank → t <ℚ rank +ℚ period
    before t rank period some early = with3 t rank period (λ c. omega (arith, c.le, c.lt, c.same))

steady_rank : (c : SpecCurve) (rank period rise : ℚ) → c.tail ≡ Periodic rank period rise → steady c ≡ rank
unfolding steady
steady_rank c rank period rise e = ap (steady_in c.pieces) e

pub begins_late : (c : SpecCurve) (ps : List Piece) (p q : Piece) (tail : Tail) (rank period rise : ℚ) → IsCurve c → tail ≡ c.tail
    → tail ≡ Periodic rank period rise → ps ≡ c.pieces → 2 ≤ length ps → p ≡ get_or ps 0 p → q ≡ get_or ps 1 q → p.at ≡ Inf → p.line ≡ None
    → ¬ (q.x <ℚ rank) → BeginsLate c
begins_late c [] p q tail rank period rise C et e es some ep eq at line late = absurd (omega (arith, some))
begins_late c (a ∷ []) p q tail rank period rise C et e es some ep eq at line late = absurd (omega (arith, some))
begins_late c (a ∷ b ∷ ps) p q tail rank period rise C et e es some ep eq at line late = λ t early.
    early_nothing c a b ps rank period rise t C (sym et ∙ e) (sym es) (subst (λ z. z.at ≡ Inf) ep at) (subst (λ z. z.line ≡ None) ep line)
    (le_of_not_lt (subst (λ z. ¬ (z.x <ℚ rank)) eq late)) (subst (λ z. t <ℚ z) (steady_rank c rank period rise (sym et ∙ e)) early)

-- what a test denies
pub not_less : {A : Type 0} (r : Bool) → IsTrue (not r) → (IsTrue r ↔ A) → ¬ A
not_less true h both a = true≢false (sym h)
not_less false h both a = true≢false (sym (both.1 a))
