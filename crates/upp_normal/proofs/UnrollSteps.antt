-- Where the sizes of a call hold a curve's numbers, each step of writing out its periods fits.
use Rattle.std.specs.Prelude.{◌≡◌, ℕ, zero, suc, ◌*◌, ◌<◌, ◌≤◌, ◌^◌, ℤ, pos, ◌≤ℤ◌, ◌<ℤ◌, Bool, true, false, cond, List, [], ◌∷◌, Option, Some, None, ◌⊎◌}
use Rattle.std.proofs.Common.{arith, sym, ap, ap₂, ◌∙◌, refl, subst, inl, inr}
use Rattle.std.proofs.lemmas.Int.{ints}
use Rattle.rational.specs.Rational.{ℚ, ◌+ℚ◌, ◌-ℚ◌, ◌*ℚ◌, ◌≤ℚ◌, ◌<ℚ◌, int, neg_ℚ, le_q}
use Rattle.rational.specs.Ratio.{IsSmall}
use Rattle.rational.specs.Grid.{Whole, Within}
use Rattle.rational.specs.Whole.{periods}
use Rattle.rational.proofs.Grid.{whole_add, whole_neg, whole_times, within_add, within_neg, within_nonneg, within_weaken}
use Rattle.rational.proofs.Integers.{int_le, int_lt_out, mul_whole, nat_le_out, nat_lt, nat_nonneg}
use Rattle.rational.proofs.Laws.{le_of_lt, le_refl, le_trans, mul_assoc, mul_le_mul, mul_le_mul_right, mul_nonneg, mul_one, mul_pos, zero_mul}
use Rattle.rational.proofs.Linear.{with1, with2, with3, with5}
use Rattle.rational.proofs.Whole.{one_more_times, periods_low}
use Rattle.rational.specs.Extended.{Ext, ◌+ₑ◌}
use Rattle.rational.specs.declared.Extended.TheVariants.{Fin, Inf}
use Rattle.upp_curve.specs.declared.affine_segment.line.Line.{Line}
use Rattle.upp_curve.specs.declared.affine_segment.line.Piece.{Piece}
use Rattle.upp_curve.specs.affine_segment.Values.{line_at, line_value}
use Rattle.upp_curve.specs.declared.curve.Tail.{Tail}
use Rattle.upp_curve.specs.declared.curve.Tail.TheVariants.{Periodic, Affine, Infinite}
use Rattle.upp_curve.specs.Curve.{SpecCurve, repeated, value_at}
use Rattle.upp_curve.specs.Curves.{IsCurve}
use Rattle.upp_curve.specs.Fitting.{LaterFits, LineLaterFits}
use Rattle.upp_limits.specs.Limits.{Sizes}
use Rattle.upp_curve.specs.affine_segment.Pieces.{Each, HasStart, StartsAtZero}
use Rattle.upp_curve.specs.Normal.{IsNormal}
use Rattle.upp_curve.specs.Readable.{SumFitsAt}
use Rattle.upp_curve.specs.affine_segment.Reading.{piece_in, piece_value, read}
use Rattle.upp_limits.specs.Sized.{AreSizes, IsValue, LineStands, PeriodStands, ValueStands, grid_of, times_largest}
use Rattle.upp_curve.specs.Unrolled.{from, later, unroll, unrolled, upto}
use Rattle.upp_normal.specs.Unrolling.{IsOperandTo, TurnFits, TurnsFit}
use Rattle.upp_normal.proofs.Below.{cut_at_start, read_from_cut}
use Rattle.upp_limits.proofs.CurveStands.{tail_stands}
use Rattle.upp_limits.proofs.NarrowSizes.{IsNarrow, narrow_gauge, run_whole, run_within, small_number, small_sum, value_whole, value_within}
use Rattle.upp_curve.proofs.affine_segment.PieceOrder.{each_map}
use Rattle.upp_normal.proofs.NormaliseRank.{from_late}
use Rattle.upp_limits.proofs.OwnGauge.{end_within}
use Rattle.upp_limits.proofs.PieceLists.{starts_nonneg}
use Rattle.upp_normal.proofs.UnrolledValues.{line_value_later, each_up}
use Rattle.upp_normal.proofs.UnrolledPieces.{IsGiven, PieceStands, each_given, each_nonneg, each_span_out, each_with, no_later, operand_line, pieces_stand}
use Rattle.upp_curve.proofs.affine_segment.PieceIn.{low_start}
use Rattle.upp_limits.proofs.PieceCounts.{each_from}
use Rattle.upp_normal.proofs.NormaliseGrids.{IsNothing}
use Rattle.upp_normal.proofs.StretchSizes.{time_whole}

-- ---- times of the window
pub time_within : (z : Sizes) (end x : ℚ) → AreSizes z end → int (pos 0) ≤ℚ x → x ≤ℚ end → Within (times_largest 1 z) x
time_within z end x a low high =
    let V = int (pos z.largest) in
    let reach : end ≤ℚ V = end_within z end a (le_trans low high) in
    within_nonneg (times_largest 1 z) x low (with3 x end V (λ c. omega (arith, c.le, c.lt, c.same)))

-- a time of the window's grid and inside the window is small
pub time_small : (z : Sizes) (end x : ℚ) → AreSizes z end → IsNarrow z (2 ^ 122) → Whole z.dt x → int (pos 0) ≤ℚ x → x ≤ℚ end → IsSmall x
time_small z end x a n w low high = small_number z end 1 x a n (omega arith) (time_whole z x w) (time_within z end x a low high)

-- ---- a period is at least a step of the grid of times, so the window has few of them
few_times : (n d v : ℕ) (q end : ℚ) → 0 < d → Whole d q → int (pos 0) <ℚ q → int (pos n) *ℚ q ≤ℚ end → end ≤ℚ int (pos v) → n ≤ v * d
few_times n d v q end grid w some inside reach =
    let D = int (pos d) in
    let N = int (pos n) in
    let turn : int (pos 0) <ℚ q *ℚ D = mul_pos some (nat_lt 0 d grid) in
    let one : int (pos 1) ≤ℚ q *ℚ D =
    subst (λ x. int (pos 1) ≤ℚ x) (sym w.is) (int_le (pos 1) w.steps (next w.steps (int_lt_out (pos 0) w.steps (subst (λ x. int (pos 0) <ℚ x) w.is turn)))) in
    let low : N ≤ℚ (N *ℚ q) *ℚ D = subst (λ x. x ≤ℚ (N *ℚ q) *ℚ D) (mul_one N) (subst (λ x. N *ℚ int (pos 1) ≤ℚ x) (sym (mul_assoc N q D)) (mul_le_mul N (nat_nonneg n) one)) in
    let high : (N *ℚ q) *ℚ D ≤ℚ int (pos v) *ℚ D = mul_le_mul_right D (nat_nonneg d) (le_trans inside reach) in
    nat_le_out n (v * d) (subst (λ x. N ≤ℚ x) (mul_whole (pos v) (pos d) 0) (le_trans low high))
  where
    next : (s : ℤ) → pos 0 <ℤ s → pos 1 ≤ℤ s
    next s h = omega (arith, ints)

-- ---- heights of copies
-- n rises are at most three times the largest value
height_between : (V v h : ℚ) → Within V v → Within V (v +ℚ h) → Within (int (pos 2) *ℚ V) h
height_between V v h a b =
    let al = a.low in
    let ah = a.high in
    let bl = b.low in
    let bh = b.high in
    record { low = with3 V v h (λ c. omega (arith, c.le, c.lt, c.same)); high = with3 V v h (λ c. omega (arith, c.le, c.lt, c.same)) }

height_of : (z : Sizes) (w : Ext) (v h : ℚ) → w ≡ Fin v → ValueStands z w → ValueStands z (w +ₑ Fin h) → Within (times_largest 2 z) h
height_of z w v h e a b =
    let first : IsValue z v = subst (ValueStands z) e a in
    let second : IsValue z (v +ℚ h) = subst (λ x. ValueStands z (x +ₑ Fin h)) e b in
    height_between (int (pos z.largest)) v h first.within second.within

abbrev pub IsSomewhere : Piece → Type 0
IsSomewhere p = ((v : ℚ) × (p.at ≡ Fin v)) ⊎ ((l : Line) × (p.line ≡ Some l))

pub ext_cases : (x : Ext) → (x ≡ Inf) ⊎ ((v : ℚ) × (x ≡ Fin v))
ext_cases Inf = inl refl
ext_cases (Fin v) = inr (v, refl)

line_cases : (l : Option Line) → (l ≡ None) ⊎ ((m : Line) × (l ≡ Some m))
line_cases None = inl refl
line_cases (Some m) = inr (m, refl)

piece_cases : (p : Piece) → IsNothing p ⊎ IsSomewhere p
piece_cases p = elim (ext_cases p.at) [
  | inr v ↦ inr (inl v)
  | inl a ↦ elim (line_cases p.line) [
    | inr l ↦ inr (inr l)
    | inl l ↦ inl (a, l)
  ]
]

-- a piece with a property, and with a finite value
record Found (Q : Piece → Type 0) : Type 0 where
  piece : Piece
  has : Q piece
  some : IsSomewhere piece

some_piece : (Q : Piece → Type 0) (ps : List Piece) → Each Q ps → Each IsNothing ps ⊎ Found Q
some_piece Q [] h = inl tt
some_piece Q (p ∷ ps) h = elim (piece_cases p) [
  | inr s ↦ inr record { piece = p; has = h.0; some = s }
  | inl n ↦ elim (some_piece Q ps h.1) [
    | inl ns ↦ inl (n, ns)
    | inr f ↦ inr f
  ]
]

value_nowhere : (p : Piece) (t : ℚ) → IsNothing p → piece_value p t ≡ Inf
unfolding piece_value
value_nowhere p t h = either (le_q t p.x) p.at (line_value p.line t) h.0 (ap (λ l. line_value l t) h.1)
  where
    either : (b : Bool) (x y : Ext) → x ≡ Inf → y ≡ Inf → cond b x y ≡ Inf
    either true x y e f = e
    either false x y e f = f

in_nowhere : (p : Piece) (ps : List Piece) (t : ℚ) → Each IsNothing (p ∷ ps) → IsNothing (piece_in p ps t)
unfolding piece_in
in_nowhere p [] t h = h.0
in_nowhere p (q ∷ qs) t h = either (le_q q.x t) (piece_in q qs t) p (in_nowhere q qs t h.1) h.0
  where
    either : (b : Bool) (x y : Piece) → IsNothing x → IsNothing y → IsNothing (cond b x y)
    either true x y e f = e
    either false x y e f = f

read_nowhere : (p : Piece) (ps : List Piece) (t : ℚ) → Each IsNothing (p ∷ ps) → read (p ∷ ps) t ≡ Inf
unfolding read
read_nowhere p ps t h = value_nowhere (piece_in p ps t) t (in_nowhere p ps t h)

-- a curve whose period has no finite value is infinite from its rank on
repeats_nowhere : (ps : List Piece) (rank d c t : ℚ) → StartsAtZero ps → HasStart rank ps → int (pos 0) <ℚ d → Each IsNothing (from rank ps) → rank ≤ℚ t
    → value_at record { pieces = ps; tail = Periodic rank d c } t ≡ Inf
unfolding value_at repeated
repeats_nowhere ps rank d c t at0 has some none low =
    let cut = cut_at_start (int (pos 0) -ℚ int (pos 1)) rank ps (low_start ps at0) has in
    let n = int (pos (periods rank d t)) in
    let u = t -ℚ n *ℚ d in
    let k = periods_low rank d t some low in
    let late : rank ≤ℚ u = with3 rank t (n *ℚ d) (λ c. omega (arith, c.le, c.lt, c.same)) in
    let reads : read ps u ≡ Inf =
    ap (λ zs. read zs u) cut.whole
    ∙ read_from_cut cut.before cut.first cut.rest u (each_up cut.before rank u late cut.early) (subst (λ x. x ≤ℚ u) (sym cut.at) late)
    ∙ read_nowhere cut.first cut.rest u (subst (Each IsNothing) cut.from_is none) in
    ap (λ x. x +ₑ Fin (n *ℚ c)) reads

-- what stands of a piece of the period, and of its copies that start below the end
record TurnPiece (z : Sizes) (rank d c end : ℚ) (p : Piece) : Type 0 where
  low : rank ≤ℚ p.x
  high : p.x <ℚ rank +ℚ d
  nonneg : int (pos 0) ≤ℚ p.x
  copies : (n : ℕ) → p.x +ℚ int (pos n) *ℚ d <ℚ end → PieceStands z (later (int (pos n) *ℚ d) (int (pos n) *ℚ c) p)

itself : (z : Sizes) (rank d c end : ℚ) (p : Piece) → TurnPiece z rank d c end p → p.x <ℚ end → PieceStands z p
itself z rank d c end p t l =
    let none = zero_mul d in
    let x = p.x in
    subst (PieceStands z) (no_later d c p) (t.copies 0 (with3 x (int (pos 0) *ℚ d) end (λ c. omega (arith, c.le, c.lt, c.same))))

copy_height : (z : Sizes) (rank d c end : ℚ) (m : ℕ) (p : Piece) → int (pos 0) <ℚ d → TurnPiece z rank d c end p → IsSomewhere p → p.x +ℚ int (pos m) *ℚ d <ℚ end
    → Within (times_largest 2 z) (int (pos m) *ℚ c)
copy_height z rank d c end m p some t s l =
    let y = int (pos m) *ℚ d in
    let h = int (pos m) *ℚ c in
    let x = p.x in
    let nonneg : int (pos 0) ≤ℚ y = mul_nonneg (nat_nonneg m) (le_of_lt some) in
    let base = itself z rank d c end p t (with3 x y end (λ c. omega (arith, c.le, c.lt, c.same))) in
    let copy = t.copies m l in
    elim s [
      | inl v ↦ height_of z p.at v.0 h v.1 base.at copy.at
      | inr v ↦
          let back : (x +ℚ y) -ℚ y ≡ x = with2 x y (λ c. omega (arith, c.le, c.lt, c.same)) in
          height_of z (line_value p.line x) (line_at v.0 x) h (ap (λ k. line_value k x) v.1) base.after
          (subst (ValueStands z) (line_value_later p.line y h (x +ℚ y) ∙ ap (λ u. line_value p.line u +ₑ Fin h) back) copy.after)
    ]

height_within : (z : Sizes) (rank d c end : ℚ) (n : ℕ) → int (pos 0) <ℚ d → IsValue z c → Found (TurnPiece z rank d c end) → rank +ℚ int (pos n) *ℚ d <ℚ end
    → Within (times_largest 3 z) (int (pos n) *ℚ c)
height_within z rank d c end zero some v f l =
    let V = int (pos z.largest) in
    let nonneg : int (pos 0) ≤ℚ V = nat_nonneg z.largest in
    subst (Within (times_largest 3 z)) (sym (zero_mul c))
    (within_nonneg (times_largest 3 z) (int (pos 0)) (le_refl (int (pos 0))) (with1 V (λ c. omega (arith, c.le, c.lt, c.same))))
height_within z rank d c end (suc m) some v f l =
    let p = f.piece in
    let x = p.x in
    let V = int (pos z.largest) in
    let early = f.has.high in
    let one = one_more_times m d in
    let inside : x +ℚ int (pos m) *ℚ d <ℚ end = with5 x rank d end (int (pos m) *ℚ d) (λ c. omega (arith, c.le, c.lt, c.same)) in
    let before = copy_height z rank d c end m p some f.has f.some inside in
    let sum : times_largest 2 z +ℚ V ≡ times_largest 3 z = with1 V (λ c. omega (arith, c.le, c.lt, c.same)) in
    subst (λ b. Within b (int (pos (suc m)) *ℚ c)) sum
    (subst (Within (times_largest 2 z +ℚ V)) (sym (one_more_times m c)) (within_add (times_largest 2 z) V (int (pos m) *ℚ c) c before v.within))

-- ---- the steps of one copy
at_fits : (z : Sizes) (end : ℚ) (v : Ext) (h : ℚ) → AreSizes z end → IsNarrow z (2 ^ 122) → ValueStands z v → Whole (grid_of z) h → Within (times_largest 3 z) h → SumFitsAt v h
at_fits z end Inf h a n s w i = tt
at_fits z end (Fin v) h a n s w i = small_sum z end 1 3 v h a n (omega arith) (value_whole z v s) w (value_within z v s) i

line_fits : (z : Sizes) (end : ℚ) (l : Option Line) (x y h : ℚ) → AreSizes z end → IsNarrow z (2 ^ 122) → Whole z.dt x → int (pos 0) ≤ℚ x → x ≤ℚ end
    → ValueStands z (line_value l x) → LineStands z l → Whole z.dt y → int (pos 0) ≤ℚ y → y ≤ℚ end → Whole (grid_of z) h → Within (times_largest 3 z) h → LineLaterFits y h l
line_fits z end None x y h a n wx lx hx v s wy ly hy w i = tt
line_fits z end (Some l) x y h a n wx lx hx v s wy ly hy w i =
    let o = operand_line z end (Some l) x a wx lx hx v s in
    let k = l.icept in
    let run = l.slope *ℚ y in
    let V = int (pos z.largest) in
    let run_on = run_whole z l.slope y s wy in
    let run_in : Within (times_largest 1 z) run =
    within_weaken V (times_largest 1 z) run (with1 V (λ c. omega (arith, c.le, c.lt, c.same))) (run_within z end l.slope y a s ly hy) in
    let five : times_largest 2 z +ℚ times_largest 3 z ≡ times_largest 5 z = with1 V (λ c. omega (arith, c.le, c.lt, c.same)) in
    record {
      risen = small_sum z end 2 3 k h a n (omega arith) o.icept w o.within i;
      back = small_number z end 1 run a n (omega arith) run_on run_in;
      moved = small_sum z end 5 1 (k +ℚ h) (neg_ℚ run) a n (omega arith) (whole_add (grid_of z) k h o.icept w) (whole_neg (grid_of z) run run_on)
          (subst (λ b. Within b (k +ℚ h)) five (within_add (times_largest 2 z) (times_largest 3 z) k h o.within i)) (within_neg (times_largest 1 z) run run_in);
    }

copy_fits : (z : Sizes) (rank d c end y h : ℚ) (p : Piece) → AreSizes z end → IsNarrow z (2 ^ 122) → TurnPiece z rank d c end p → Whole z.dt y → int (pos 0) ≤ℚ y → y ≤ℚ end
    → Whole (grid_of z) h → Within (times_largest 3 z) h → p.x <ℚ end -ℚ y → LaterFits y h p
copy_fits z rank d c end y h p a n t wy ly hy w i l =
    let x = p.x in
    let early : x <ℚ end = with3 x y end (λ c. omega (arith, c.le, c.lt, c.same)) in
    let base = itself z rank d c end p t early in
    record {
      start = small_sum z end 1 1 x y a n (omega arith) (time_whole z x base.start) (time_whole z y wy)
          (time_within z end x a t.nonneg (le_of_lt early)) (time_within z end y a ly hy);
      at = at_fits z end p.at h a n base.at w i;
      line = line_fits z end p.line x y h a n base.start t.nonneg (le_of_lt early) base.after base.slope wy ly hy w i;
    }

-- ---- each copy of the period that begins before the end
turn_pieces : (z : Sizes) (ps : List Piece) (rank d c end : ℚ) → IsNormal record { pieces = ps; tail = Periodic rank d c } → Each (IsGiven (PieceStands z) rank d c end) ps
    → Each (TurnPiece z rank d c end) (from rank ps)
turn_pieces z ps rank d c end n h =
    let at0 = n.raw.starts in
    let low = from_late rank (int (pos 0) -ℚ int (pos 1)) ps (low_start ps at0) in
    let high = each_from (λ p. p.x <ℚ rank +ℚ d) rank ps n.raw.tail.starts in
    let nonneg = each_from (λ p. int (pos 0) ≤ℚ p.x) rank ps (each_nonneg ps (starts_nonneg ps at0)) in
    let given = each_from (IsGiven (PieceStands z) rank d c end) rank ps h in
    let places = each_with (λ p. p.x <ℚ rank +ℚ d) (λ p. int (pos 0) ≤ℚ p.x) (λ p. (p.x <ℚ rank +ℚ d) × (int (pos 0) ≤ℚ p.x)) (λ p a b. (a, b)) (from rank ps) high nonneg in
    each_with (λ p. (rank ≤ℚ p.x) × IsGiven (PieceStands z) rank d c end p) (λ p. (p.x <ℚ rank +ℚ d) × (int (pos 0) ≤ℚ p.x)) (TurnPiece z rank d c end)
    (λ p a b. record { low = a.0; high = b.0; nonneg = b.1; copies = a.1.again a.0 }) (from rank ps)
    (each_with (λ p. rank ≤ℚ p.x) (IsGiven (PieceStands z) rank d c end) (λ p. (rank ≤ℚ p.x) × IsGiven (PieceStands z) rank d c end p) (λ p a b. (a, b)) (from rank ps) low given)
    places

turn_fits : (z : Sizes) (ps : List Piece) (rank d c end : ℚ) (n : ℕ) → AreSizes z end → IsNarrow z (2 ^ 122) → int (pos 0) ≤ℚ rank → int (pos 0) <ℚ d → PeriodStands z d c
    → Each (TurnPiece z rank d c end) (from rank ps) → Found (TurnPiece z rank d c end) → rank +ℚ int (pos n) *ℚ d <ℚ end → TurnFits n d c end (from rank ps)
turn_fits z ps rank d c end n a narrow rank_low some stands pieces found inside =
    let y = int (pos n) *ℚ d in
    let h = int (pos n) *ℚ c in
    let low : int (pos 0) ≤ℚ y = mul_nonneg (nat_nonneg n) (le_of_lt some) in
    let high : y ≤ℚ end = with3 rank y end (λ c. omega (arith, c.le, c.lt, c.same)) in
    let some_end : int (pos 0) ≤ℚ end = le_trans low high in
    let whole : Whole z.dt y = whole_times z.dt (pos n) d stands.whole in
    let height_whole : Whole (grid_of z) h = whole_times (grid_of z) (pos n) c (value_whole z c stands.value) in
    let height_in = height_within z rank d c end n some stands.value found inside in
    let few = few_times n z.dt z.largest d end a.dt stands.whole some high (end_within z end a some_end) in
    let t = narrow.times in
    record {
      number = omega (arith, few, t);
      by = time_small z end y a narrow whole low high;
      height = small_number z end 3 h a narrow (omega arith) height_whole height_in;
      left = small_sum z end 1 1 end (neg_ℚ y) a narrow (omega arith) (time_whole z end a.window) (whole_neg (grid_of z) y (time_whole z y whole))
          (time_within z end end a some_end (le_refl end)) (within_neg (times_largest 1 z) y (time_within z end y a low high));
      copies = each_map (TurnPiece z rank d c end) (λ p. p.x <ℚ end -ℚ y → LaterFits y h p)
          (λ p t l. copy_fits z rank d c end y h p a narrow t whole low high height_whole height_in l) (from rank ps) pieces;
    }

-- the steps of writing out a periodic curve that is an operand to `end`
pub turns_fit : (ps : List Piece) (rank d c end : ℚ) → IsCurve record { pieces = ps; tail = Periodic rank d c } → IsOperandTo end record { pieces = ps; tail = Periodic rank d c }
    → TurnsFit ps rank d c end
turns_fit ps rank d c end is o = λ n inside.
    let curve : SpecCurve = record { pieces = ps; tail = Periodic rank d c } in
    let z = o.sizes in
    let a = o.limited.sizes in
    let small = o.limited.gauge in
    let normal = is.normal in
    let some = normal.raw.tail.some in
    let pieces = turn_pieces z ps rank d c end normal
    (each_given (PieceStands z) ps rank d c end some (each_span_out (PieceStands z) curve end (pieces_stand z end curve o.stands))) in
    let found : Found (TurnPiece z rank d c end) = elim (some_piece (TurnPiece z rank d c end) (from rank ps) pieces) [
      | inr f ↦ f
      | inl none ↦ absurd (normal.tail.not_one_line None (λ t low. repeats_nowhere ps rank d c t normal.raw.starts normal.rank_is_start some none low))
    ] in
    turn_fits z ps rank d c end n a (narrow_gauge z end a (omega (arith, small))) normal.raw.tail.nonneg some (tail_stands z end ps (Periodic rank d c) o.stands) pieces found inside

-- ---- the same, of the pieces and the tail that the code sees
seen_curve : (c : SpecCurve) (seen : List Piece) (tail k : Tail) → seen ≡ c.pieces → tail ≡ c.tail → tail ≡ k → c ≡ record { pieces = seen; tail = k }
seen_curve c seen tail k e f g = ap₂ (λ (ps : List Piece) (t : Tail). let d : SpecCurve = record { pieces = ps; tail = t } in d) (sym e) (sym f ∙ g)

pub turns_fit_of : (c : SpecCurve) (seen : List Piece) (tail : Tail) (rank d h end : ℚ) → IsCurve c → IsOperandTo end c → seen ≡ c.pieces → tail ≡ c.tail → tail ≡ Periodic rank d h
    → TurnsFit seen rank d h end
turns_fit_of c seen tail rank d h end is o e f g =
    let same = seen_curve c seen tail (Periodic rank d h) e f g in
    turns_fit seen rank d h end (subst IsCurve same is) (subst (IsOperandTo end) same o)

pub unroll_of : (c : SpecCurve) (seen : List Piece) (tail k : Tail) (end : ℚ) → seen ≡ c.pieces → tail ≡ c.tail → tail ≡ k → unrolled seen k end ≡ unroll c end
unfolding unroll
unroll_of c seen tail k end e f g = ap (λ d. unroll d end) (sym (seen_curve c seen tail k e f g))

plain_by : (seen : List Piece) (tail : Tail) (end : ℚ) → ((x y z : ℚ) → tail ≡ Periodic x y z → ⊥) → upto end seen ≡ unrolled seen tail end
plain_by seen (Periodic rank d h) end none = absurd (none rank d h refl)
plain_by seen (Affine rank) end none = refl
plain_by seen (Infinite rank) end none = refl

pub plain_unroll : (c : SpecCurve) (seen : List Piece) (tail : Tail) (end : ℚ) → seen ≡ c.pieces → tail ≡ c.tail → ((x y z : ℚ) → tail ≡ Periodic x y z → ⊥) → upto end seen ≡ unroll c end
plain_unroll c seen tail end e f none = plain_by seen tail end none ∙ unroll_of c seen tail tail end e f refl
