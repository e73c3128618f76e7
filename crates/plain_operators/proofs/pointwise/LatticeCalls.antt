-- The sizes and the times of a call on two curves that both repeat from its start on.
use Rattle.std.specs.Prelude.{◌≡◌, ℕ, suc, ◌+◌, ◌<◌, ◌^◌, pos, List}
use Rattle.std.proofs.Common.{arith, sym, ap, ◌∙◌, refl, subst}
use Rattle.rational.specs.Rational.{ℚ, neg_ℚ, ◌+ℚ◌, ◌-ℚ◌, ◌*ℚ◌, ◌≤ℚ◌, ◌<ℚ◌, int}
use Rattle.rational.specs.Ratio.{SumFits}
use Rattle.rational.specs.Grid.{Whole}
use Rattle.rational.proofs.Grid.{whole_neg, whole_sub, within_neg}
use Rattle.rational.proofs.Linear.{with2, with3, with4}
use Rattle.rational.proofs.Laws.{le_refl, le_trans, le_of_lt, one_mul, mul_nonneg}
use Rattle.rational.proofs.Integers.{nat_nonneg}
use Rattle.rational.proofs.Whole.{one_more_times}
use Rattle.rational.proofs.MinMax.{max_q_ge_left, max_q_ge_right}
use Rattle.upp_curve.specs.declared.affine_segment.line.Piece.{Piece}
use Rattle.upp_limits.specs.declared.op_kind.OpKind.{OpKind}
use Rattle.upp_limits.specs.declared.op_kind.OpKind.TheVariants.{Min, Max, PosDiff}
use Rattle.upp_curve.specs.Curve.{SpecCurve}
use Rattle.upp_curve.specs.Curves.{IsCurve}
use Rattle.upp_curve.specs.Steady.{steady, rise_over, IsWholePeriods}
use Rattle.upp_limits.specs.Periods.{common_period, both_steady, periods_after}
use Rattle.upp_limits.specs.Windows.{window_at}
use Rattle.upp_limits.specs.Limits.{Sizes, sizes_of, curve_numbers}
use Rattle.upp_limits.specs.Gauges.{numbers_over, gauge_over, gauge_at}
use Rattle.upp_limits.specs.Sized.{Stands, grid_of, times_largest}
use Rattle.upp_curve.specs.Unrolled.{unroll}
use Rattle.upp_normal.specs.Operand.{AreLimited}
use Rattle.upp_limits.proofs.NarrowSizes.{small_sum}
use Rattle.upp_limits.proofs.CurveStands.{are_sizes}
use Rattle.upp_limits.proofs.Stands.{sizes_stand}
use Rattle.curve_call.specs.Operands.{AreOperands}
use Rattle.curve_call.specs.declared.windows.CallWindow.{CallWindow}
use Rattle.curve_call.specs.CallWindows.{IsForward, SecondIsCurve, start_of, number_of, period_in}
use Rattle.curve_call.specs.Frames.{sizes_at}
use Rattle.curve_call.proofs.CurveTimes.{sum_fits, time_within}
use Rattle.curve_call.proofs.CallTimes.{first_stands, second_stands, IsCall, start_on, period_on, window_is}
use Rattle.curve_call.proofs.CallFits.{call_early}
use Rattle.curve_call.proofs.CurveRises.{IsRise, rise_is, common_first, common_second}
use Rattle.curve_call.proofs.Operands.{unrolled_pieces}
use Rattle.curve_call.specs.Compared.{AreCompared}
use Rattle.plain_operators.specs.declared.pointwise.lattice.Lattice.{Lattice}
use Rattle.plain_operators.specs.declared.pointwise.lattice.Lattice.TheVariants.{Lower, Upper, Excess}
use Rattle.plain_operators.specs.pointwise.Lattice.{kind_of}
use Rattle.curve_call.specs.FirstWindows.{IsFirstWindow}
use Rattle.plain_operators.specs.pointwise.LatticeCall.{LatticeCall}
use Rattle.upp_normal.proofs.AnswerRoom.{wide_narrow}

-- ---- from a kind of call
pub call_from : (op : OpKind) (f g h : SpecCurve) (k : ℕ) → IsCurve f → IsCurve h → SecondIsCurve op g → IsForward op → gauge_at op f g k 0 < 2 ^ 120 → number_of op k 0 ≡ k + 1
    → Stands (sizes_at op f g k 0) (curve_numbers (window_at op f g k 0) h)
    → steady f ≤ℚ start_of op f g → steady h ≤ℚ start_of op f g → IsWholePeriods f.tail (period_in op f g) → IsWholePeriods h.tail (period_in op f g)
    → LatticeCall f h (start_of op f g) (period_in op f g) (window_at op f g k 0) k (sizes_at op f g k 0)
unfolding gauge_over
call_from op f g h k F H G forward small number right early_f early_h whole_f whole_h =
    let end = window_at op f g k 0 in
    let n = numbers_over op f g end in
    let z = sizes_of end n in
    let stands = sizes_stand end n in
    let call : IsCall op f g z end = record { first = F; second = G; forward = forward; stands = stands } in
    let start = start_on op f g z end call in
    let period = period_on op f g z end call in
    let early = call_early op f g k 0 z end call in
    record {
      first = F;
      second = H;
      limited = record { sizes = are_sizes end n; gauge = small; some = le_trans start.nonneg early.start };
      left = first_stands op z end f g stands;
      right = right;
      start_whole = start.whole;
      nonneg = start.nonneg;
      period_whole = period.whole;
      above = period.above;
      left_steady = early_f;
      right_steady = early_h;
      left_periods = whole_f;
      right_periods = whole_h;
      ends = window_is op f g k 0 ∙ ap (λ m. periods_after (start_of op f g) m (period_in op f g)) number;
    }

pub lattice_call : (of : Lattice) (f g : SpecCurve) (k : ℕ) → IsCurve f → IsCurve g → gauge_at (kind_of of) f g k 0 < 2 ^ 120
    → LatticeCall f g (both_steady f g) (common_period f g) (window_at (kind_of of) f g k 0) k (sizes_at (kind_of of) f g k 0)
lattice_call Lower f g k F G small =
    let end = window_at Min f g k 0 in
    let stands = second_stands Min (sizes_at Min f g k 0) end f g (sizes_stand end (numbers_over Min f g end)) in
    call_from Min f g g k F G G tt small refl stands (max_q_ge_left (steady f) (steady g)) (max_q_ge_right (steady f) (steady g)) (common_first f g F G) (common_second f g F G)
lattice_call Upper f g k F G small =
    let end = window_at Max f g k 0 in
    let stands = second_stands Max (sizes_at Max f g k 0) end f g (sizes_stand end (numbers_over Max f g end)) in
    call_from Max f g g k F G G tt small refl stands (max_q_ge_left (steady f) (steady g)) (max_q_ge_right (steady f) (steady g)) (common_first f g F G) (common_second f g F G)
lattice_call Excess f g k F G small =
    let end = window_at PosDiff f g k 0 in
    let stands = second_stands PosDiff (sizes_at PosDiff f g k 0) end f g (sizes_stand end (numbers_over PosDiff f g end)) in
    call_from PosDiff f g g k F G G tt small refl stands (max_q_ge_left (steady f) (steady g)) (max_q_ge_right (steady f) (steady g)) (common_first f g F G) (common_second f g F G)

-- the same times under other names
pub at_times : (f g : SpecCurve) (s p e start period end : ℚ) (k : ℕ) (z : Sizes) → LatticeCall f g s p e k z → start ≡ s → period ≡ p → end ≡ e → LatticeCall f g start period end k z
at_times f g s p e start period end k z L a b c =
    subst (λ x. LatticeCall f g x period end k z) (sym a) (subst (λ y. LatticeCall f g s y end k z) (sym b) (subst (λ w. LatticeCall f g s p w k z) (sym c) L))

-- ---- its times
pub more_periods : (k : ℕ) (p : ℚ) → int (pos (k + 1)) *ℚ p ≡ int (pos k) *ℚ p +ℚ p
more_periods k p = let e : k + 1 ≡ suc k = omega arith in ap (λ n. int (pos n) *ℚ p) e ∙ one_more_times k p

-- from when on the answer repeats
pub from_is : (f g : SpecCurve) (s p e : ℚ) (k : ℕ) (z : Sizes) → LatticeCall f g s p e k z → e -ℚ p ≡ periods_after s k p
from_is f g s p e k z L =
    let run = int (pos k) *ℚ p in
    let ends : e ≡ s +ℚ (run +ℚ p) = L.ends ∙ ap (λ y. s +ℚ y) (more_periods k p) in
    with4 e s run p (λ c. omega (arith, c.le, c.lt, c.same))

pub from_late : (f g : SpecCurve) (s p e : ℚ) (k : ℕ) (z : Sizes) → LatticeCall f g s p e k z → s ≤ℚ e -ℚ p
from_late f g s p e k z L =
    let run = int (pos k) *ℚ p in
    let some : int (pos 0) ≤ℚ run = mul_nonneg (nat_nonneg k) (le_of_lt L.above) in
    subst (λ y. s ≤ℚ y) (sym (from_is f g s p e k z L)) (with2 s run (λ c. omega (arith, c.le, c.lt, c.same)))

pub one_period : (f g : SpecCurve) (s p e : ℚ) (k : ℕ) (z : Sizes) → LatticeCall f g s p e k z → s +ℚ p ≤ℚ e
one_period f g s p e k z L = let l = from_late f g s p e k z L in with3 s p e (λ c. omega (arith, c.le, c.lt, c.same))

pub some_end : (f g : SpecCurve) (s p e : ℚ) (k : ℕ) (z : Sizes) → LatticeCall f g s p e k z → int (pos 0) <ℚ e
some_end f g s p e k z L =
    let low = L.nonneg in
    let above = L.above in
    let l = one_period f g s p e k z L in
    with3 s p e (λ c. omega (arith, c.le, c.lt, c.same))

pub from_fits : (f g : SpecCurve) (s p e : ℚ) (k : ℕ) (z : Sizes) → LatticeCall f g s p e k z → SumFits e (neg_ℚ p)
from_fits f g s p e k z L =
    let A = L.limited in
    let V = int (pos z.largest) in
    let low = L.nonneg in
    let l = one_period f g s p e k z L in
    let early : p ≤ℚ e = with3 s p e (λ c. omega (arith, c.le, c.lt, c.same)) in
    sum_fits z e e (neg_ℚ p) A.sizes (wide_narrow z e A) A.sizes.window (whole_neg z.dt p L.period_whole) (time_within z e e A.sizes A.some (le_refl e))
    (within_neg V p (time_within z e p A.sizes (le_of_lt L.above) early))

pub from_whole : (f g : SpecCurve) (s p e : ℚ) (k : ℕ) (z : Sizes) → LatticeCall f g s p e k z → Whole z.dt (e -ℚ p)
from_whole f g s p e k z L = whole_sub z.dt e p L.limited.sizes.window L.period_whole

-- ---- the operands' pieces and rises
pub operands : (f g : SpecCurve) (s p e : ℚ) (k : ℕ) (z : Sizes) (ls rs : List Piece) → LatticeCall f g s p e k z → ls ≡ unroll f e → rs ≡ unroll g e → AreOperands z e ls rs
operands f g s p e k z ls rs L a b =
    let some = some_end f g s p e k z L in
    record { limited = L.limited; left = unrolled_pieces z e f ls L.first L.limited some L.left a; right = unrolled_pieces z e g rs L.second L.limited some L.right b }

pub earlier : (a s p e : ℚ) → a ≤ℚ s → s +ℚ p ≤ℚ e → a +ℚ p ≤ℚ e
earlier a s p e l m = with4 a s p e (λ c. omega (arith, c.le, c.lt, c.same))

pub left_rise : (f g : SpecCurve) (s p e : ℚ) (k : ℕ) (z : Sizes) → LatticeCall f g s p e k z → IsRise z f p
left_rise f g s p e k z L =
    rise_is z e f p L.limited L.first L.left L.left_periods L.period_whole L.above (earlier (steady f) s p e L.left_steady (one_period f g s p e k z L))

pub right_rise : (f g : SpecCurve) (s p e : ℚ) (k : ℕ) (z : Sizes) → LatticeCall f g s p e k z → IsRise z g p
right_rise f g s p e k z L =
    rise_is z e g p L.limited L.second L.right L.right_periods L.period_whole L.above (earlier (steady g) s p e L.right_steady (one_period f g s p e k z L))

pub rises_fit : (f g : SpecCurve) (s p e : ℚ) (k : ℕ) (z : Sizes) → LatticeCall f g s p e k z → SumFits (rise_over f p) (neg_ℚ (rise_over g p))
rises_fit f g s p e k z L =
    let a = left_rise f g s p e k z L in
    let b = right_rise f g s p e k z L in
    small_sum z e 3 3 (rise_over f p) (neg_ℚ (rise_over g p)) L.limited.sizes (wide_narrow z e L.limited) (omega arith) a.whole (whole_neg (grid_of z) (rise_over g p) b.whole) a.within
    (within_neg (times_largest 3 z) (rise_over g p) b.within)

-- ---- with no period: what the number of periods is looked for in
pub compared : (f g : SpecCurve) (s p e : ℚ) (z : Sizes) → LatticeCall f g s p e 0 z → AreCompared z s p f g
compared f g s p e z L =
    let ends : e ≡ s +ℚ p = L.ends ∙ ap (λ y. s +ℚ y) (one_mul p) in
    record {
      limited = subst (AreLimited z) ends L.limited;
      start = L.start_whole;
      some = L.above;
      first = record { curve = L.first; stands = subst (λ y. Stands z (curve_numbers y f)) ends L.left; steady_by = L.left_steady; periods = L.left_periods };
      second = record { curve = L.second; stands = subst (λ y. Stands z (curve_numbers y g)) ends L.right; steady_by = L.right_steady; periods = L.right_periods };
    }

start_both : (of : Lattice) (f g : SpecCurve) → start_of (kind_of of) f g ≡ both_steady f g
start_both Lower f g = refl
start_both Upper f g = refl
start_both Excess f g = refl

period_both : (of : Lattice) (f g : SpecCurve) → period_in (kind_of of) f g ≡ common_period f g
period_both Lower f g = refl
period_both Upper f g = refl
period_both Excess f g = refl

pub kind_start : (of : Lattice) (f g : SpecCurve) (s : ℚ) → s ≡ start_of (kind_of of) f g → s ≡ both_steady f g
kind_start of f g s e = e ∙ start_both of f g

pub kind_period : (of : Lattice) (f g : SpecCurve) (p : ℚ) → p ≡ period_in (kind_of of) f g → p ≡ common_period f g
kind_period of f g p e = e ∙ period_both of f g

pub first_compared : (of : Lattice) (f g : SpecCurve) (w : CallWindow) → IsCurve f → IsCurve g → IsFirstWindow (kind_of of) f g w → (z : Sizes) × AreCompared z w.start w.period f g
first_compared of f g w F G W =
    let z = sizes_at (kind_of of) f g 0 0 in
    let L = lattice_call of f g 0 F G W.gauge in (
      z,
      compared f g w.start w.period w.end z
          (at_times f g (both_steady f g) (common_period f g) (window_at (kind_of of) f g 0 0) w.start w.period w.end 0 z L (kind_start of f g w.start W.window.start) (kind_period of f g w.period W.window.period) W.window.end),
    )
