-- More periods look at no fewer pieces; so two numbers of periods can tell what each number between them comes to.
use Rattle.std.specs.Prelude.{◌≡◌, ℕ, ◌+◌, ◌<◌, ◌≤◌, ◌^◌, pos, List, [], ◌∷◌, length}
use Rattle.std.specs.List.{fold}
use Rattle.std.proofs.Common.{arith, refl, inl, inr, mul-le-mul}
use Rattle.rational.specs.Rational.{ℚ, ◌-ℚ◌, ◌/ℚ◌, ◌≤ℚ◌, ◌<ℚ◌, int}
use Rattle.rational.proofs.Laws.{le_or_lt, le_trans, lt_le_trans}
use Rattle.rational.proofs.Linear.{with3}
use Rattle.rational.proofs.MinMax.{lt_q_not}
use Rattle.rational.proofs.Over.{lt_q_out}
use Rattle.rational.proofs.Quotients.{div_mono}
use Rattle.upp_curve.specs.declared.affine_segment.line.Piece.{Piece}
use Rattle.upp_curve.specs.declared.curve.Tail.{Tail}
use Rattle.upp_curve.specs.declared.curve.Tail.TheVariants.{Periodic, Affine, Infinite}
use Rattle.upp_limits.specs.declared.op_kind.OpKind.{OpKind}
use Rattle.upp_limits.specs.declared.op_kind.OpKind.TheVariants.{Sum, Min, Max, PosDiff, PosMinus, Scale, Shift, RunSup, RunInf, FifoLeft, Convolve, Deconvolve, Horizontal, Vertical, Itself}
use Rattle.upp_limits.specs.declared.op_kind.OpFault.TheVariants.{TooMany, TooWide}
use Rattle.upp_limits.specs.Windows.{window_at}
use Rattle.upp_curve.specs.Curve.{SpecCurve}
use Rattle.upp_curve.specs.Curves.{IsCurve}
use Rattle.upp_limits.specs.Gauges.{tallied, tally_of, tally_over, tally_at, gauge_at}
use Rattle.upp_curve.specs.Unrolled.{upto, from, copies_below, counted, count}
use Rattle.min_plus.specs.WholeUp.{whole_up}
use Rattle.upp_limits.proofs.Rounding.{whole_up_least, whole_up_most}
use Rattle.upp_normal.proofs.StretchSizes.{some_period}
use Rattle.curve_call.specs.CallWindows.{IsForward}
use Rattle.curve_call.specs.FirstWindows.{IsRefusedBetween}
use Rattle.curve_call.proofs.FirstGate.{window_grows, gauge_grows}

upto_grows : (x y : ℚ) (ps : List Piece) → x ≤ℚ y → length (upto x ps) ≤ length (upto y ps)
unfolding upto
upto_grows x y [] h = omega arith
upto_grows x y (p ∷ ps) h = elim (le_or_lt x p.x) [
  | inl k ↦ rw (lt_q_not p.x x k) (omega arith)
  | inr k ↦ rw (lt_q_out p.x x k, lt_q_out p.x y (lt_le_trans k h)) (let l = upto_grows x y ps h in omega (arith, l))
]

whole_grows : (x y : ℚ) → x ≤ℚ y → whole_up x ≤ whole_up y
whole_grows x y h = whole_up_most x (whole_up y) (le_trans h (whole_up_least y))

copies_grow : (d x y : ℚ) (p : Piece) → int (pos 0) <ℚ d → x ≤ℚ y → copies_below d x p ≤ copies_below d y p
copies_grow d x y p some h = whole_grows ((x -ℚ p.x) /ℚ d) ((y -ℚ p.x) /ℚ d) (div_mono (x -ℚ p.x) (y -ℚ p.x) d some (less x y p.x h))
  where
    less : (x y z : ℚ) → x ≤ℚ y → x -ℚ z ≤ℚ y -ℚ z
    less x y z h = with3 x y z (λ c. omega (arith, c.le, c.lt, c.same))

sums_grow : (f g : Piece → ℕ) → ((p : Piece) → f p ≤ g p) → (ps : List Piece) (a b : ℕ) → a ≤ b → fold (λ (n : ℕ) (p : Piece). n + f p) a ps ≤ fold (λ (n : ℕ) (p : Piece). n + g p) b ps
sums_grow f g h [] a b l = l
sums_grow f g h (p ∷ ps) a b l = let k = h p in sums_grow f g h ps (a + f p) (b + g p) (omega (arith, k, l))

counted_grows : (c : SpecCurve) (tail : Tail) (x y : ℚ) → IsCurve c → c.tail ≡ tail → x ≤ℚ y → counted c.pieces tail x ≤ counted c.pieces tail y
counted_grows c (Periodic rank period rise) x y C e h =
    let some = (some_period c rank period rise C e).some in
    let a = upto_grows x y (upto rank c.pieces) h in
    let b = sums_grow (copies_below period x) (copies_below period y) (λ p. copies_grow period x y p some h) (from rank c.pieces) 0 0 (omega arith) in
    omega (arith, a, b)
counted_grows c (Affine rank) x y C e h = upto_grows x y c.pieces h
counted_grows c (Infinite rank) x y C e h = upto_grows x y c.pieces h

count_grows : (c : SpecCurve) (x y : ℚ) → IsCurve c → x ≤ℚ y → count c x ≤ count c y
unfolding count
count_grows c x y C h = counted_grows c c.tail x y C refl h

-- ---- the tally
kind_grows : (op : OpKind) (a b m n : ℕ) → a ≤ m → b ≤ n → tally_of (tallied op) a b ≤ tally_of (tallied op) m n
kind_grows Sum a b m n h k = omega arith
kind_grows Min a b m n h k = omega arith
kind_grows Max a b m n h k = omega arith
kind_grows PosDiff a b m n h k = omega arith
kind_grows (PosMinus l) a b m n h k = omega arith
kind_grows (Scale q) a b m n h k = h
kind_grows (Shift t) a b m n h k = h
kind_grows RunSup a b m n h k = h
kind_grows RunInf a b m n h k = h
kind_grows (FifoLeft theta) a b m n h k = omega arith
kind_grows Convolve a b m n h k = mul-le-mul h k
kind_grows Deconvolve a b m n h k = mul-le-mul h k
kind_grows Horizontal a b m n h k = omega arith
kind_grows Vertical a b m n h k = omega arith
kind_grows Itself a b m n h k = h

-- a longer window, no smaller tally
pub tally_rises : (op : OpKind) (f g : SpecCurve) (x y : ℚ) → IsCurve f → IsCurve g → x ≤ℚ y → tally_over op f g x ≤ tally_over op f g y
unfolding tally_over
tally_rises op f g x y F G h = kind_grows op (count f x) (count g x) (count f y) (count g y) (count_grows f x y F h) (count_grows g x y G h)

-- more periods, no smaller tally
pub tally_grows : (op : OpKind) (f g : SpecCurve) (k m i j : ℕ) → IsCurve f → IsCurve g → IsForward op → k ≤ i → m ≤ j → tally_at op f g k m ≤ tally_at op f g i j
tally_grows op f g k m i j is_f is_g forward h l = tally_rises op f g (window_at op f g k m) (window_at op f g i j) is_f is_g (window_grows op f g k m i j is_f is_g forward h l)

-- ---- between two numbers of periods
pub wide_between : (op : OpKind) (f g : SpecCurve) (low high : ℕ) → IsCurve f → IsCurve g → IsForward op → 2 ^ 120 ≤ gauge_at op f g low 0 → IsRefusedBetween op f g low high TooWide
wide_between op f g low high is_f is_g forward h k from to =
    let rises = gauge_grows op f g low 0 k 0 is_f is_g forward from (omega arith) in
    omega (arith, rises, h)

pub many_between : (op : OpKind) (f g : SpecCurve) (low high : ℕ) → IsCurve f → IsCurve g → IsForward op → 2 ^ 20 < tally_at op f g low 0 → gauge_at op f g high 0 < 2 ^ 120
    → IsRefusedBetween op f g low high TooMany
many_between op f g low high is_f is_g forward h l k from to =
    let gauge = gauge_grows op f g k 0 high 0 is_f is_g forward to (omega arith) in
    let tally = tally_grows op f g low 0 k 0 is_f is_g forward from (omega arith) in
    (omega (arith, gauge, l), omega (arith, tally, h))
