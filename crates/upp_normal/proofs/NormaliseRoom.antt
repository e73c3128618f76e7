-- Numbers that have room: the steps of a move and of a value fit, and moved pieces have room.
use Rattle.std.specs.Prelude.{◌≡◌, ℕ, ◌+◌, ◌*◌, ◌<◌, ◌≤◌, pos, Option, Some, None}
use Rattle.std.proofs.Common.{arith, sym, ap, ◌∙◌, subst, inl, inr}
use native.Mathlib.Nat.{dvd_trans, mul-dvd-mul_right, mul-le-mul_right, mul_comm, mul-pos, dvd-mul_right, le_of_dvd}
use Rattle.rational.specs.Rational.{ℚ, ◌+ℚ◌, ◌-ℚ◌, ◌*ℚ◌, ◌/ℚ◌, ◌≤ℚ◌, ◌<ℚ◌, neg_ℚ, int}
use Rattle.rational.specs.Ratio.{IsSmall, SumFits}
use Rattle.rational.specs.Grid.{Whole, Within}
use Rattle.rational.proofs.Grid.{whole_weaken, whole_add, whole_neg, whole_sub, whole_mul, within_weaken, within_nonneg, within_neg, within_add, within_sub, within_some}
use Rattle.rational.proofs.Sizes.{small_on_grid, sum_on_grid, quotient_on_grid}
use Rattle.rational.proofs.Integers.{nat_le, nat_nonneg}
use Rattle.upp_curve.proofs.Rules.{int_add, int_mul}
use Rattle.rational.proofs.Laws.{le_or_lt, le_of_lt, le_refl, le_trans, mul_le_mul, mul_le_mul_right, mul_nonneg, neg_mul}
use Rattle.rational.proofs.Whole.{not_zero}
use Rattle.rational.proofs.Linear.{with1, with2, with3}
use Rattle.rational.specs.Extended.{Ext, ◌+ₑ◌}
use Rattle.rational.specs.declared.Extended.TheVariants.{Fin, Inf}
use Rattle.upp_curve.specs.declared.affine_segment.line.Line.{Line}
use Rattle.upp_curve.specs.declared.affine_segment.line.Piece.{Piece}
use Rattle.upp_curve.specs.affine_segment.Values.{line_value}
use Rattle.upp_curve.specs.Unrolled.{line_later, later}
use Rattle.upp_curve.specs.affine_segment.Fits.{LineFitsAt}
use Rattle.upp_curve.specs.Readable.{SumFitsAt}
use Rattle.upp_curve.specs.Fitting.{LineLaterFits, LaterFits}
use Rattle.upp_normal.specs.Room.{top, Room, IsRoom, TimeHasRoom, many, ValueHasRoom, LineHasRoom, PieceHasRoom, IsMove}

-- ---- the grid of a time's values
abbrev pub fine : (m : Room) (x : ℚ) → TimeHasRoom m x → ℕ
fine m x T = T.grid * m.slopes

fine_some : (m : Room) (x : ℚ) (T : TimeHasRoom m x) → IsRoom m → 0 < fine m x T
fine_some m x T R = mul-pos T.some R.some_slopes

-- a times the largest value, over the grid, is at most the top where a is at most 8
many_top : (m : Room) (x : ℚ) (T : TimeHasRoom m x) (a : ℕ) → a ≤ 8 → many m a *ℚ int (pos (fine m x T)) ≤ℚ int (pos top)
many_top m x T a h =
    let v = m.largest in
    let k = fine m x T in
    let l : a * v * k ≤ 8 * v * k = mul-le-mul_right k (mul-le-mul_right v h) in
    let all : a * v * k ≤ top = omega (arith, l, T.value_size) in
    subst (λ z. z ≤ℚ int (pos top)) (int_mul (a * v) k) (nat_le (a * v * k) top all)

fine_top : (m : Room) (x : ℚ) (T : TimeHasRoom m x) → IsRoom m → fine m x T ≤ top
fine_top m x T R =
    let v = m.largest in
    let k = fine m x T in
    let one : 1 ≤ 8 * v = let h = R.some_largest in omega arith in
    let l : 1 * k ≤ 8 * v * k = mul-le-mul_right k one in
    omega (arith, l, T.value_size)

grid_top : (m : Room) (x : ℚ) (T : TimeHasRoom m x) → IsRoom m → T.grid ≤ top
grid_top m x T R =
    let l : T.grid ≤ fine m x T = le_of_dvd (fine_some m x T R) (dvd-mul_right T.grid m.slopes) in
    let h = fine_top m x T R in
    omega arith

many_sum : (m : Room) (a b : ℕ) → many m a +ℚ many m b ≡ many m (a + b)
many_sum m a b = sym (int_add (a * m.largest) (b * m.largest)) ∙ ap (λ n. int (pos n)) (sums a b m.largest)
  where
    sums : (a b v : ℕ) → a * v + b * v ≡ (a + b) * v
    sums a b v = omega arith

pub many_le : (m : Room) (a b : ℕ) → a ≤ b → many m a ≤ℚ many m b
many_le m a b h = nat_le (a * m.largest) (b * m.largest) (mul-le-mul_right m.largest h)

pub many_some : (m : Room) (a : ℕ) → int (pos 0) ≤ℚ many m a
many_some m a = nat_nonneg (a * m.largest)

-- two values of one time
sum_in : (m : Room) (x : ℚ) (T : TimeHasRoom m x) (a b : ℕ) (p q : ℚ) → IsRoom m → a + b ≤ 8 → Whole (fine m x T) p → Whole (fine m x T) q → Within (many m a) p → Within (many m b) q → SumFits p q
sum_in m x T a b p q R h wp wq ip iq =
    let k = fine m x T in
    sum_on_grid k (many m a) (many m b) p q (fine_some m x T R) (fine_top m x T R)
    (subst (λ z. z *ℚ int (pos k) ≤ℚ int (pos top)) (sym (many_sum m a b)) (many_top m x T (a + b) h)) wp wq ip iq

small_in : (m : Room) (x : ℚ) (T : TimeHasRoom m x) (a : ℕ) (p : ℚ) → IsRoom m → a ≤ 8 → Whole (fine m x T) p → Within (many m a) p → IsSmall p
small_in m x T a p R h w i = small_on_grid (fine m x T) (many m a) p (fine_some m x T R) (fine_top m x T R) (many_top m x T a h) w i

finer : (m : Room) (x : ℚ) (T : TimeHasRoom m x) (v : ℚ) → Whole (m.base * m.slopes) v → Whole (fine m x T) v
finer m x T v w = whole_weaken (m.base * m.slopes) (fine m x T) v (mul-dvd-mul_right m.base T.base m.slopes) w

-- ---- a slope times a time
slope_whole : (m : Room) (g : ℕ) (s t : ℚ) → Whole m.slopes s → Whole g t → Whole (g * m.slopes) (s *ℚ t)
slope_whole m g s t ws wt = subst (λ n. Whole n (s *ℚ t)) (mul_comm m.slopes g) (whole_mul m.slopes g s t ws wt)

slope_within : (v s t end : ℚ) → int (pos 0) ≤ℚ t → t ≤ℚ end → Within v (s *ℚ end) → Within v (s *ℚ t)
slope_within v s t end h l W = elim (le_or_lt (int (pos 0)) s) [
  | inl k ↦
      let a = mul_le_mul s k l in
      let b : int (pos 0) ≤ℚ s *ℚ t = mul_nonneg k h in
      let c = within_some v (s *ℚ end) W in
      let d = W.high in
      let x = s *ℚ t in
      let y = s *ℚ end in
      record { low = with2 v x (λ c. omega (arith, c.le, c.lt, c.same)); high = with3 v x y (λ c. omega (arith, c.le, c.lt, c.same)) }
  | inr k ↦
      let n = neg_ℚ s in
      let some : int (pos 0) ≤ℚ n = with1 s (λ c. omega (arith, c.le, c.lt, c.same)) in
      let x = s *ℚ t in
      let y = s *ℚ end in
      let a : neg_ℚ x ≤ℚ neg_ℚ y = subst (λ z. z ≤ℚ neg_ℚ y) (neg_mul s t) (subst (λ z. n *ℚ t ≤ℚ z) (neg_mul s end) (mul_le_mul n some l)) in
      let b : int (pos 0) ≤ℚ neg_ℚ x = subst (λ z. int (pos 0) ≤ℚ z) (neg_mul s t) (mul_nonneg some h) in
      let c = within_some v y W in
      let d = W.low in
      record { low = with3 v x y (λ c. omega (arith, c.le, c.lt, c.same)); high = with2 v x (λ c. omega (arith, c.le, c.lt, c.same)) }
]

-- ---- the value of a line
pub line_fits : (m : Room) (n : ℕ) (x : ℚ) (l : Option Line) → IsRoom m → n ≤ 7 → LineHasRoom m n l → TimeHasRoom m x → x ≤ℚ m.end → LineFitsAt x l
line_fits m n x None R h L T e = tt
line_fits m n x (Some l) R h L T e =
    let w = slope_whole m T.grid l.slope x L.slope T.whole in
    let i = slope_within (many m 1) l.slope x m.end T.low e L.rise in
    record {
      product = small_in m x T 1 (l.slope *ℚ x) R (omega arith) w i;
      sum = sum_in m x T n 1 l.icept (l.slope *ℚ x) R (omega arith) (finer m x T l.icept L.icept) w L.within i;
    }

-- the value of a line with room has room
pub line_value_room : (m : Room) (n : ℕ) (x : ℚ) (l : Option Line) → LineHasRoom m n l → (T : TimeHasRoom m x) → x ≤ℚ m.end → ValueHasRoom m (n + 1) T.grid (line_value l x)
line_value_room m n x None L T e = tt
line_value_room m n x (Some l) L T e =
    let w = slope_whole m T.grid l.slope x L.slope T.whole in
    let i = slope_within (many m 1) l.slope x m.end T.low e L.rise in
    record {
      whole = whole_add (fine m x T) l.icept (l.slope *ℚ x) (finer m x T l.icept L.icept) w;
      within = subst (λ v. Within v (l.icept +ℚ l.slope *ℚ x)) (many_sum m n 1) (within_add (many m n) (many m 1) l.icept (l.slope *ℚ x) L.within i);
    }

-- ---- a move
time_on : (m : Room) (x by : ℚ) → IsRoom m → (T : TimeHasRoom m x) → Whole m.times by → Whole T.grid by
time_on m x by R T w = whole_weaken m.times T.grid by (dvd_trans m.times R.nested T.base) w

pub time_moved : (m : Room) (x by rise : ℚ) → IsRoom m → IsMove m by rise → TimeHasRoom m x → TimeHasRoom m (x +ℚ by)
time_moved m x by rise R M T =
    let a = T.low in
    let b = M.low in
    record {
      grid = T.grid;
      some = T.some;
      base = T.base;
      whole = whole_add T.grid x by T.whole (time_on m x by R T M.time);
      low = with2 x by (λ c. omega (arith, c.le, c.lt, c.same));
      time_size = T.time_size;
      value_size = T.value_size;
    }

-- a slope times the move
move_whole : (m : Room) (s by : ℚ) → IsRoom m → Whole m.slopes s → Whole m.times by → Whole (m.base * m.slopes) (s *ℚ by)
move_whole m s by R ws wt = whole_weaken (m.times * m.slopes) (m.base * m.slopes) (s *ℚ by) (mul-dvd-mul_right m.times R.nested m.slopes) (slope_whole m m.times s by ws wt)

pub start_fits : (m : Room) (x by : ℚ) → IsRoom m → (T : TimeHasRoom m x) → Whole m.times by → int (pos 0) ≤ℚ by → x +ℚ by ≤ℚ m.end → SumFits x by
start_fits m x by R T w low e =
    let g = int (pos T.grid) in
    sum_on_grid T.grid x by x by T.some (grid_top m x T R) (le_trans (mul_le_mul_right g (nat_nonneg T.grid) e) T.time_size)
    T.whole (time_on m x by R T w) (within_nonneg x x T.low (le_refl x)) (within_nonneg by by low (le_refl by))

pub at_fits : (m : Room) (n : ℕ) (x rise : ℚ) (v : Ext) → IsRoom m → n ≤ 7 → (T : TimeHasRoom m x) → ValueHasRoom m n T.grid v → Whole (m.base * m.slopes) rise → Within (many m 1) rise → SumFitsAt v rise
at_fits m n x rise Inf R h T V w i = tt
at_fits m n x rise (Fin v) R h T V w i = sum_in m x T n 1 v rise R (omega arith) V.whole (finer m x T rise w) V.within i

line_later_fits : (m : Room) (n : ℕ) (x by rise : ℚ) (l : Option Line) → IsRoom m → n ≤ 6 → TimeHasRoom m x → LineHasRoom m n l → IsMove m by rise → by ≤ℚ m.end → LineLaterFits by rise l
line_later_fits m n x by rise None R h T L M e = tt
line_later_fits m n x by rise (Some l) R h T L M e =
    let k = fine m x T in
    let wi = finer m x T l.icept L.icept in
    let wr = finer m x T rise M.height in
    let wb = finer m x T (l.slope *ℚ by) (move_whole m l.slope by R L.slope M.time) in
    let ib = slope_within (many m 1) l.slope by m.end M.low e L.rise in
    let risen = subst (λ v. Within v (l.icept +ℚ rise)) (many_sum m n 1) (within_add (many m n) (many m 1) l.icept rise L.within M.within) in
    record {
      risen = sum_in m x T n 1 l.icept rise R (omega arith) wi wr L.within M.within;
      back = small_in m x T 1 (l.slope *ℚ by) R (omega arith) wb ib;
      moved = sum_in m x T (n + 1) 1 (l.icept +ℚ rise) (neg_ℚ (l.slope *ℚ by)) R (omega arith) (whole_add k l.icept rise wi wr) (whole_neg k (l.slope *ℚ by) wb) risen (within_neg (many m 1) (l.slope *ℚ by) ib);
    }

pub later_fits : (m : Room) (n : ℕ) (by rise : ℚ) (p : Piece) → IsRoom m → n ≤ 6 → PieceHasRoom m n p → IsMove m by rise → p.x +ℚ by ≤ℚ m.end → LaterFits by rise p
later_fits m n by rise p R h P M e =
    let T = P.time in
    let room : by ≤ℚ m.end = let x = p.x in let end = m.end in let low = T.low in with3 x by end (λ c. omega (arith, c.le, c.lt, c.same)) in
    record {
      start = start_fits m p.x by R T M.time M.low e;
      at = at_fits m n p.x rise p.at R (omega arith) T P.at M.height M.within;
      line = line_later_fits m n p.x by rise p.line R h T P.line M room;
    }

-- ---- the moved piece has room
at_moved : (m : Room) (n grid : ℕ) (rise : ℚ) (v : Ext) → ValueHasRoom m n grid v → Whole (grid * m.slopes) rise → Within (many m 1) rise → ValueHasRoom m (n + 2) grid (v +ₑ Fin rise)
at_moved m n grid rise Inf V w i = tt
at_moved m n grid rise (Fin v) V w i = record {
  whole = whole_add (grid * m.slopes) v rise V.whole w;
  within = within_weaken (many m (n + 1)) (many m (n + 2)) (v +ℚ rise) (many_le m (n + 1) (n + 2) (omega arith))
      (subst (λ y. Within y (v +ℚ rise)) (many_sum m n 1) (within_add (many m n) (many m 1) v rise V.within i));
}

line_moved_room : (m : Room) (n : ℕ) (by rise : ℚ) (l : Option Line) → IsRoom m → LineHasRoom m n l → IsMove m by rise → by ≤ℚ m.end → LineHasRoom m (n + 2) (line_later by rise l)
line_moved_room m n by rise None R L M e = tt
line_moved_room m n by rise (Some l) R L M e =
    let k = m.base * m.slopes in
    let b = l.slope *ℚ by in
    let ib = slope_within (many m 1) l.slope by m.end M.low e L.rise in
    let risen = subst (λ v. Within v (l.icept +ℚ rise)) (many_sum m n 1) (within_add (many m n) (many m 1) l.icept rise L.within M.within) in
    let sums : (n + 1) + 1 ≡ n + 2 = omega arith in
    record {
      icept = whole_sub k (l.icept +ℚ rise) b (whole_add k l.icept rise L.icept M.height) (move_whole m l.slope by R L.slope M.time);
      within = subst (λ v. Within v ((l.icept +ℚ rise) -ℚ b)) (many_sum m (n + 1) 1 ∙ ap (many m) sums) (within_sub (many m (n + 1)) (many m 1) (l.icept +ℚ rise) b risen ib);
      slope = L.slope;
      rise = L.rise;
    }

pub later_room : (m : Room) (n : ℕ) (by rise : ℚ) (p : Piece) → IsRoom m → PieceHasRoom m n p → IsMove m by rise → p.x +ℚ by ≤ℚ m.end → PieceHasRoom m (n + 2) (later by rise p)
unfolding time_moved
later_room m n by rise p R P M e =
    let T = P.time in
    let room : by ≤ℚ m.end = let x = p.x in let end = m.end in let low = T.low in with3 x by end (λ c. omega (arith, c.le, c.lt, c.same)) in
    record {
      time = time_moved m p.x by rise R M T;
      at = at_moved m n T.grid rise p.at P.at (finer m p.x T rise M.height) M.within;
      line = line_moved_room m n by rise p.line R P.line M room;
    }

-- ---- more room
pub piece_weaken : (m : Room) (a b : ℕ) (p : Piece) → a ≤ b → PieceHasRoom m a p → PieceHasRoom m b p
piece_weaken m a b p h P = record { time = P.time; at = value_weaken p.at P.at; line = line_weaken p.line P.line }
  where
    value_weaken : (v : Ext) → ValueHasRoom m a P.time.grid v → ValueHasRoom m b P.time.grid v
    value_weaken Inf V = tt
    value_weaken (Fin v) V = record { whole = V.whole; within = within_weaken (many m a) (many m b) v (many_le m a b h) V.within }

    line_weaken : (l : Option Line) → LineHasRoom m a l → LineHasRoom m b l
    line_weaken None L = tt
    line_weaken (Some l) L = record { icept = L.icept; within = within_weaken (many m a) (many m b) l.icept (many_le m a b h) L.within; slope = L.slope; rise = L.rise }

-- ---- the rate of a tail
pub rate_fits : (m : Room) (x period rise : ℚ) → IsRoom m → TimeHasRoom m x → IsMove m period rise → int (pos 0) <ℚ period → period ≤ℚ m.end → IsSmall (rise /ℚ period)
rate_fits m x period rise R T M some e =
    let k = m.base * m.slopes in
    let on : Whole k period = whole_weaken m.times k period (dvd_trans m.times R.nested (dvd-mul_right m.base m.slopes)) M.time in
    let some_k : 0 < k = mul-pos R.some_base R.some_slopes in
    let finer_k : k ≤ fine m x T = le_of_dvd (fine_some m x T R) (mul-dvd-mul_right m.base T.base m.slopes) in
    let top_k : many m 1 *ℚ int (pos k) ≤ℚ int (pos top) =
    le_trans (mul_le_mul (many m 1) (many_some m 1) (nat_le k (fine m x T) finer_k)) (many_top m x T 1 (omega arith)) in
    quotient_on_grid k (many m 1) m.end rise period some_k (not_zero period some) top_k R.rate M.height on M.within (within_nonneg m.end period (le_of_lt some) e)
