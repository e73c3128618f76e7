-- Pieces that bend only downwards between the times of a grid: where they repeat, the periods stand on that grid.
use Rattle.std.specs.Prelude.{◌≡◌, ℕ, suc, ◌<◌, ◌*◌, pos, false, List, [], ◌∷◌, Option, Some, None, ◌⊎◌}
use Rattle.std.proofs.Common.{arith, sym, ap, ap₂, ◌∙◌, refl, subst, inl, inr}
use Rattle.std.proofs.lemmas.Int.{ints}
use Rattle.rational.specs.Rational.{ℚ, ◌+ℚ◌, ◌-ℚ◌, ◌*ℚ◌, ◌/ℚ◌, ◌≤ℚ◌, ◌<ℚ◌, int}
use Rattle.rational.specs.Grid.{Whole}
use Rattle.rational.specs.Whole.{whole_part, periods}
use Rattle.rational.specs.Extended.{Ext, ◌≤ₑ◌, ◌+ₑ◌}
use Rattle.rational.specs.declared.Extended.TheVariants.{Fin, Inf}
use Rattle.rational.proofs.Linear.{with1, with2, with3, with4, with5, with7}
use Rattle.rational.proofs.Laws.{le_or_lt, lt_cases, le_refl, le_trans, le_of_lt, between, half, half_is, half_pos, mul_add, mul_sub, div_mul, mul_nonneg, mul_lt_mul_right, le_of_mul, lt_of_mul, not_zero, lt_trans}
use Rattle.rational.proofs.Integers.{nat_nonneg, nat_lt, int_lt_out}
use Rattle.rational.proofs.Whole.{whole_le, whole_gt}
use Rattle.upp_curve.specs.declared.affine_segment.line.Line.{Line}
use Rattle.upp_curve.specs.declared.affine_segment.line.Piece.{Piece}
use Rattle.upp_curve.specs.affine_segment.Values.{line_at, line_value}
use Rattle.upp_curve.specs.affine_segment.Reading.{read}
use Rattle.upp_curve.specs.affine_segment.Pieces.{Each, RisesFrom}
use Rattle.upp_curve.specs.Normal.{Continues, NoneContinues, FitsPeriod}
use Rattle.element_envelope.specs.Arches.{IsBare, IsAround, Arches}
use Rattle.std.proofs.lemmas.Nat.Gcd.{dvd_refl}
use native.Mathlib.Nat.{dvd-mul_left}
use Rattle.rational.proofs.Grid.{whole_int, whole_weaken}
use Rattle.upp_curve.specs.Curve.{repeated}
use Rattle.upp_curve.specs.Steady.{Repeats}
use Rattle.upp_limits.specs.Limits.{Sizes}
use Rattle.upp_limits.specs.Sized.{grid_of}
use Rattle.upp_normal.specs.Operand.{AreLimited}
use Rattle.upp_normal.specs.Bends.{ValueOn, LineOn, SlopeTurns, BendAfter, OnlyBend}
use Rattle.upp_normal.specs.Normalising.{IsMerged, OnGridsUnlessLine}
use Rattle.upp_normal.proofs.Bends.{bends_on}
use Rattle.upp_curve.proofs.affine_segment.PieceIn.{value_past, value_at_start, read_first, read_stop, read_go, read_one}
use Rattle.upp_normal.proofs.NormaliseForm.{each_part}
use Rattle.upp_normal.proofs.NormaliseGrids.{merge_of}
use Rattle.upp_curve.proofs.affine_segment.PieceOrder.{each_map}
use Rattle.curve_call.proofs.TailGrids.{TailOf, grids_nest}
use Rattle.element_envelope.specs.SumWindows.{SumValueAt, SumLineAt, SumPiece, SumWindow}
use Rattle.upp_curve.proofs.affine_segment.LineValues.{value_moved}

-- ---- where a time lies in a grid
-- the stretch of a bare grid round a time
pub record BareAt (T : ℕ) (x : ℚ) : Type 0 where
  pub low : ℚ
  pub high : ℚ
  pub bare : IsBare T low high
  pub nonneg : int (pos 0) ≤ℚ low
  pub past : low <ℚ x
  pub before : x <ℚ high

steps_between : (T n : ℕ) (t : ℚ) → 0 < T → int (pos n) <ℚ t *ℚ int (pos T) → t *ℚ int (pos T) <ℚ int (pos (suc n)) → ¬ (Whole T t)
steps_between T n t some a b w =
    let l = int_lt_out (pos n) w.steps (subst (λ v. int (pos n) <ℚ v) w.is a) in
    let m = int_lt_out w.steps (pos (suc n)) (subst (λ v. v <ℚ int (pos (suc n))) w.is b) in
    omega (arith, ints, l, m)

pub stands_or_bare : (T : ℕ) (x : ℚ) → 0 < T → int (pos 0) ≤ℚ x → Whole T x ⊎ BareAt T x
stands_or_bare T x some nonneg = by (lt_cases (int (pos n)) (x *ℚ D))
  where
    D : ℚ
    D = int (pos T)

    n : ℕ
    n = whole_part (x *ℚ D)

    above : int (pos 0) <ℚ D
    above = nat_lt 0 T some

    up : int (pos 0) ≤ℚ x *ℚ D
    up = mul_nonneg nonneg (nat_nonneg T)

    times : (y : ℚ) → (y /ℚ D) *ℚ D ≡ y
    times y = div_mul y D (not_zero D above)

    none : int (pos 0) ≤ℚ int (pos n) /ℚ D
    none = le_of_mul D (int (pos 0)) (int (pos n) /ℚ D) above (subst (λ v. int (pos 0) *ℚ D ≤ℚ v) (sym (times (int (pos n)))) (subst (λ v. v ≤ℚ int (pos n)) (sym (zero_times D)) (nat_nonneg n)))
      where
        zero_times : (y : ℚ) → int (pos 0) *ℚ y ≡ int (pos 0)
        zero_times y = with1 y (λ c. omega (arith, c.le, c.lt, c.same))

    by : (int (pos n) <ℚ x *ℚ D) ⊎ (int (pos n) ≡ x *ℚ D) ⊎ (x *ℚ D <ℚ int (pos n)) → Whole T x ⊎ BareAt T x
    by (inr (inl e)) = inl record { steps = pos n; is = sym e }
    by (inr (inr l)) = absurd (let a = whole_le (x *ℚ D) up in let p = int (pos n) in let q = x *ℚ D in with2 p q (λ c. omega (arith, c.le, c.lt, c.same)))
    by (inl l) = inr record {
      low = int (pos n) /ℚ D;
      high = int (pos (suc n)) /ℚ D;
      bare = λ t a b. steps_between T n t some
          (subst (λ v. v <ℚ t *ℚ D) (times (int (pos n))) (mul_lt D (int (pos n) /ℚ D) t above a))
          (subst (λ v. t *ℚ D <ℚ v) (times (int (pos (suc n)))) (mul_lt D t (int (pos (suc n)) /ℚ D) above b));
      nonneg = none;
      past = lt_of_mul D (int (pos n) /ℚ D) x above (subst (λ v. v <ℚ x *ℚ D) (sym (times (int (pos n)))) l);
      before = lt_of_mul D x (int (pos (suc n)) /ℚ D) above (subst (λ v. x *ℚ D <ℚ v) (sym (times (int (pos (suc n))))) (whole_gt (x *ℚ D)));
    }
      where
        mul_lt : (u a b : ℚ) → int (pos 0) <ℚ u → a <ℚ b → a *ℚ u <ℚ b *ℚ u
        mul_lt u a b h l = mul_lt_mul_right u h l

-- ---- three values round a time
-- p before it and q after it
record Sides (p q : Option Line) (at : Ext) (x h : ℚ) : Type 0 where
  some : int (pos 0) <ℚ h
  middle : line_value p (x -ℚ h) +ₑ line_value q (x +ℚ h) ≤ₑ at +ₑ at
  right : at +ₑ line_value q (x +ℚ (h +ℚ h)) ≤ₑ line_value q (x +ℚ h) +ₑ line_value q (x +ℚ h)
  left : line_value p (x -ℚ (h +ℚ h)) +ₑ at ≤ₑ line_value p (x -ℚ h) +ₑ line_value p (x -ℚ h)

-- q goes on with p, or the slope falls
abbrev Falls : Option Line → Option Line → Type 0
Falls None m = ⊥
Falls (Some l) None = ⊥
Falls (Some l) (Some m) = m.slope <ℚ l.slope

line_of : ℚ → ℚ → Line
line_of i s = record { icept = i; slope = s }

one_line : (l m : Line) (x : ℚ) → l.slope ≡ m.slope → line_at l x ≡ line_at m x → m ≡ l
unfolding line_of
one_line l m x s e =
    let i = l.icept in
    let j = m.icept in
    let p = l.slope *ℚ x in
    let q = m.slope *ℚ x in
    let f : p ≡ q = ap (λ r. r *ℚ x) s in
    let k : i ≡ j = with4 i j p q (λ c. omega (arith, c.le, c.lt, c.same)) in
    lines_same l m k s
  where
    lines_same : (l m : Line) → l.icept ≡ m.icept → l.slope ≡ m.slope → m ≡ l
    lines_same l m a b = ap₂ (λ (i s : ℚ). line_of i s) (sym a) (sym b)

line_back : (l : Line) (x h : ℚ) → line_at l (x -ℚ h) ≡ line_at l x -ℚ l.slope *ℚ h
line_back l x h =
    let i = l.icept in
    let p = l.slope *ℚ x in
    let q = l.slope *ℚ h in
    let a = l.slope *ℚ (x -ℚ h) in
    let e : a ≡ p -ℚ q = mul_sub l.slope x h in
    with4 i p q a (λ c. omega (arith, c.le, c.lt, c.same))

-- p, q the lines' values at x, a, b their rises over h; m, n, k, j the values around
levels : (v p q a b m n k j : ℚ) → m ≡ p -ℚ a → n ≡ q +ℚ b → k ≡ q +ℚ (b +ℚ b) → j ≡ p -ℚ (a +ℚ a) → m +ℚ n ≤ℚ v +ℚ v → v +ℚ k ≤ℚ n +ℚ n → j +ℚ v ≤ℚ m +ℚ m
    → (v ≤ℚ p) × (v ≤ℚ q) × (p +ℚ q +ℚ b ≤ℚ v +ℚ v +ℚ a)
levels v p q a b m n k j em en ek ej h l r = (
  with5 v p a m j (λ c. omega (arith, c.le, c.lt, c.same)),
  with5 v q b n k (λ c. omega (arith, c.le, c.lt, c.same)),
  with7 v p q a b m n (λ c. omega (arith, c.le, c.lt, c.same)),
)

both_lines : (l m : Line) (v x h : ℚ) → Sides (Some l) (Some m) (Fin v) x h → (v ≡ line_at l x) × (Some m ≡ Some l) ⊎ (m.slope <ℚ l.slope)
both_lines l m v x h S =
    let p = line_at l x in
    let q = line_at m x in
    let a = l.slope *ℚ h in
    let b = m.slope *ℚ h in
    let w =
    levels v p q a b (line_at l (x -ℚ h)) (line_at m (x +ℚ h)) (line_at m (x +ℚ (h +ℚ h))) (line_at l (x -ℚ (h +ℚ h))) (line_back l x h) (value_moved m x h)
    (value_moved m x (h +ℚ h) ∙ ap (λ y. q +ℚ y) (mul_add m.slope h h)) (line_back l x (h +ℚ h) ∙ ap (λ y. p -ℚ y) (mul_add l.slope h h)) S.middle S.right S.left in
    by p q a b w.0 w.1 w.2 refl refl refl refl (lt_cases m.slope l.slope)
  where
    by : (p q a b : ℚ) → v ≤ℚ p → v ≤ℚ q → p +ℚ q +ℚ b ≤ℚ v +ℚ v +ℚ a → p ≡ line_at l x → q ≡ line_at m x → a ≡ l.slope *ℚ h → b ≡ m.slope *ℚ h
        → (m.slope <ℚ l.slope) ⊎ (m.slope ≡ l.slope) ⊎ (l.slope <ℚ m.slope) → (v ≡ line_at l x) × (Some m ≡ Some l) ⊎ (m.slope <ℚ l.slope)
    by p q a b vp vq w ep eq ea eb (inl f) = inr f
    by p q a b vp vq w ep eq ea eb (inr (inl e)) =
        let ab : a ≡ b = ea ∙ ap (λ r. r *ℚ h) (sym e) ∙ sym eb in
        let same : v ≡ p = with5 v p q a b (λ c. omega (arith, c.le, c.lt, c.same)) in
        let other : p ≡ q = with5 v p q a b (λ c. omega (arith, c.le, c.lt, c.same)) in
        inl (same ∙ ep, ap Some (one_line l m x (sym e) (sym ep ∙ other ∙ eq)))
    by p q a b vp vq w ep eq ea eb (inr (inr f)) =
        let less : a <ℚ b = subst (λ y. y <ℚ b) (sym ea) (subst (λ y. l.slope *ℚ h <ℚ y) (sym eb) (mul_lt_mul_right h S.some f)) in
        absurd (with5 v p q a b (λ c. omega (arith, c.le, c.lt, c.same)))

sides_cases : (p q : Option Line) (at : Ext) (x h : ℚ) → Sides p q at x h → (at ≡ line_value p x) × (q ≡ p) ⊎ Falls p q
sides_cases None None Inf x h S = inl (refl, refl)
sides_cases None None (Fin v) x h S = absurd S.middle
sides_cases None (Some m) Inf x h S = absurd S.right
sides_cases None (Some m) (Fin v) x h S = absurd S.middle
sides_cases (Some l) None Inf x h S = absurd S.left
sides_cases (Some l) None (Fin v) x h S = absurd S.middle
sides_cases (Some l) (Some m) Inf x h S = absurd S.right
sides_cases (Some l) (Some m) (Fin v) x h S = elim (both_lines l m v x h S) [ inl e ↦ inl (ap Fin e.0, e.1) | inr f ↦ inr f ]

-- ---- neighbours
-- a positive number that is at most both
pub smaller : (a b : ℚ) → int (pos 0) <ℚ a → int (pos 0) <ℚ b → (m : ℚ) × (int (pos 0) <ℚ m) × (m ≤ℚ a) × (m ≤ℚ b)
smaller a b h k = elim (le_or_lt a b) [
  | inl l ↦ (a, h, le_refl a, l)
  | inr l ↦ (b, k, le_of_lt l, le_refl b)
]

-- f goes on with p's line from p on, has q's value at its start, and then q's line up to `next`
pub record GoesThrough (f : ℚ → Ext) (p q : Piece) (next : ℚ) : Type 0 where
  pub rises : p.x <ℚ q.x
  pub some : q.x <ℚ next
  pub first : (t : ℚ) → p.x <ℚ t → t <ℚ q.x → f t ≡ line_value p.line t
  pub at : f q.x ≡ q.at
  pub second : (t : ℚ) → q.x <ℚ t → t <ℚ next → f t ≡ line_value q.line t

-- within m of x
record Near (T : ℕ) (end x m h : ℚ) : Type 0 where
  bare : IsBare T (x -ℚ m) (x +ℚ m)
  nonneg : int (pos 0) ≤ℚ x -ℚ m
  most : x +ℚ m ≤ℚ end
  some : int (pos 0) <ℚ h
  twice : h +ℚ h <ℚ m

around : (T : ℕ) (end x m h y : ℚ) → Near T end x m h → x -ℚ m <ℚ y -ℚ h → y +ℚ h <ℚ x +ℚ m → IsAround T end (x -ℚ m) (x +ℚ m) y h
around T end x m h y N before after =
    record { bare = N.bare; nonneg = N.nonneg; most = N.most; before = before; after = after; some = le_of_lt N.some }

sides_of : (T : ℕ) (end x m h : ℚ) (f : ℚ → Ext) (p q : Piece) (next : ℚ) → q.x ≡ x → Arches T end f → GoesThrough f p q next → Near T end x m h → m ≤ℚ x -ℚ p.x → m ≤ℚ next -ℚ x
    → Sides p.line q.line q.at x h
sides_of T end x m h f p q next ex F G N lp ln =
    let s = N.some in
    let w = N.twice in
    let a = p.x in
    let back : f (x -ℚ h) ≡ line_value p.line (x -ℚ h) =
    G.first (x -ℚ h) (with4 a x m h (λ c. omega (arith, c.le, c.lt, c.same))) (subst (λ y. x -ℚ h <ℚ y) (sym ex) (with2 x h (λ c. omega (arith, c.le, c.lt, c.same)))) in
    let far : f (x -ℚ (h +ℚ h)) ≡ line_value p.line (x -ℚ (h +ℚ h)) =
    G.first (x -ℚ (h +ℚ h)) (with4 a x m h (λ c. omega (arith, c.le, c.lt, c.same))) (subst (λ y. x -ℚ (h +ℚ h) <ℚ y) (sym ex) (with2 x h (λ c. omega (arith, c.le, c.lt, c.same)))) in
    let forth : f (x +ℚ h) ≡ line_value q.line (x +ℚ h) =
    G.second (x +ℚ h) (subst (λ y. y <ℚ x +ℚ h) (sym ex) (with2 x h (λ c. omega (arith, c.le, c.lt, c.same)))) (with4 next x m h (λ c. omega (arith, c.le, c.lt, c.same))) in
    let late : f (x +ℚ (h +ℚ h)) ≡ line_value q.line (x +ℚ (h +ℚ h)) =
    G.second (x +ℚ (h +ℚ h)) (subst (λ y. y <ℚ x +ℚ (h +ℚ h)) (sym ex) (with2 x h (λ c. omega (arith, c.le, c.lt, c.same)))) (with4 next x m h (λ c. omega (arith, c.le, c.lt, c.same))) in
    let here : f x ≡ q.at = ap f (sym ex) ∙ G.at in
    let add = λ (u v : Ext). u +ₑ v in
    let mid = F (x -ℚ m) (x +ℚ m) x h (around T end x m h x N (with3 x m h (λ c. omega (arith, c.le, c.lt, c.same))) (with3 x m h (λ c. omega (arith, c.le, c.lt, c.same)))) in
    let right = F (x -ℚ m) (x +ℚ m) (x +ℚ h) h (around T end x m h (x +ℚ h) N (with3 x m h (λ c. omega (arith, c.le, c.lt, c.same))) (with3 x m h (λ c. omega (arith, c.le, c.lt, c.same)))) in
    let left = F (x -ℚ m) (x +ℚ m) (x -ℚ h) h (around T end x m h (x -ℚ h) N (with3 x m h (λ c. omega (arith, c.le, c.lt, c.same))) (with3 x m h (λ c. omega (arith, c.le, c.lt, c.same)))) in
    record {
      some = N.some;
      middle = subst (λ v. v ≤ₑ q.at +ₑ q.at) (ap₂ add back forth) (subst (λ v. f (x -ℚ h) +ₑ f (x +ℚ h) ≤ₑ v) (ap₂ add here here) mid);
      right = subst (λ v. v ≤ₑ line_value q.line (x +ℚ h) +ₑ line_value q.line (x +ℚ h))
          (ap₂ add (ap f (minus_plus x h) ∙ here) (ap f (twice x h) ∙ late)) (subst (λ v. f ((x +ℚ h) -ℚ h) +ₑ f ((x +ℚ h) +ℚ h) ≤ₑ v) (ap₂ add forth forth) right);
      left = subst (λ v. v ≤ₑ line_value p.line (x -ℚ h) +ₑ line_value p.line (x -ℚ h))
          (ap₂ add (ap f (twice_back x h) ∙ far) (ap f (plus_minus x h) ∙ here)) (subst (λ v. f ((x -ℚ h) -ℚ h) +ₑ f ((x -ℚ h) +ℚ h) ≤ₑ v) (ap₂ add back back) left);
    }
  where
    minus_plus : (x h : ℚ) → (x +ℚ h) -ℚ h ≡ x
    minus_plus x h = with2 x h (λ c. omega (arith, c.le, c.lt, c.same))

    plus_minus : (x h : ℚ) → (x -ℚ h) +ℚ h ≡ x
    plus_minus x h = with2 x h (λ c. omega (arith, c.le, c.lt, c.same))

    twice : (x h : ℚ) → (x +ℚ h) +ℚ h ≡ x +ℚ (h +ℚ h)
    twice x h = with2 x h (λ c. omega (arith, c.le, c.lt, c.same))

    twice_back : (x h : ℚ) → (x -ℚ h) -ℚ h ≡ x -ℚ (h +ℚ h)
    twice_back x h = with2 x h (λ c. omega (arith, c.le, c.lt, c.same))

near_of : (T : ℕ) (end x low high m n k h a next : ℚ) → IsBare T low high → int (pos 0) ≤ℚ low → next ≤ℚ end → m ≤ℚ x -ℚ low → m ≤ℚ high -ℚ x → n ≤ℚ x -ℚ a → n ≤ℚ next -ℚ x
    → k ≤ℚ m → k ≤ℚ n → int (pos 0) <ℚ h → h +ℚ h <ℚ k → Near T end x k h
near_of T end x low high m n k h a next bare some most ma mb na nb km kn sh hk = record {
  bare = λ t u v. bare t (with5 t x low k m (λ c. omega (arith, c.le, c.lt, c.same))) (with5 t x high k m (λ c. omega (arith, c.le, c.lt, c.same)));
  nonneg = with4 x low k m (λ c. omega (arith, c.le, c.lt, c.same));
  most = with5 x next k n end (λ c. omega (arith, c.le, c.lt, c.same));
  some = sh;
  twice = hk;
}

-- off the grid q goes on with p, or the slope falls
pub neighbours : (T : ℕ) (end : ℚ) (f : ℚ → Ext) (p q : Piece) (next : ℚ) → 0 < T → int (pos 0) ≤ℚ p.x → next ≤ℚ end → Arches T end f → GoesThrough f p q next
    → Whole T q.x ⊎ (Continues p q ⊎ Falls p.line q.line)
neighbours T end f p q next some nonneg most F G = elim (stands_or_bare T q.x some (le_trans nonneg (le_of_lt G.rises))) [
  | inl w ↦ inl w
  | inr B ↦ inr (at_bare B)
]
  where
    at_bare : BareAt T q.x → Continues p q ⊎ Falls p.line q.line
    at_bare B =
        let x = q.x in
        let a = p.x in
        let low = B.low in
        let high = B.high in
        let past = B.past in
        let before = B.before in
        let rises = G.rises in
        let up = G.some in
        let (m, sm, ma, mb) = smaller (x -ℚ low) (high -ℚ x) (with2 x low (λ c. omega (arith, c.le, c.lt, c.same))) (with2 x high (λ c. omega (arith, c.le, c.lt, c.same))) in
        let (n, sn, na, nb) = smaller (x -ℚ a) (next -ℚ x) (with2 x a (λ c. omega (arith, c.le, c.lt, c.same))) (with2 x next (λ c. omega (arith, c.le, c.lt, c.same))) in
        let (k, sk, km, kn) = smaller m n sm sn in
        let (y, ya, yb) = between (int (pos 0)) k sk in
        let h = half y in
        let e = half_is y in
        let N : Near T end x k h = near_of T end x low high m n k h a next B.bare B.nonneg most ma mb na nb km kn (half_pos ya) (subst (λ z. z <ℚ k) (sym e) yb) in
        sides_cases p.line q.line q.at x h (sides_of T end x k h f p q next refl F G N (le_trans kn na) (le_trans kn nb))

-- ---- pieces that read as f before `end`
-- where the piece after these starts
next_or : ℚ → List Piece → ℚ
next_or end [] = end
next_or end (p ∷ ps) = p.x

-- p and those after it
record ReadsAs (end : ℚ) (f : ℚ → Ext) (p : Piece) (ps : List Piece) : Type 0 where
  reads : (t : ℚ) → p.x ≤ℚ t → t <ℚ end → read (p ∷ ps) t ≡ f t
  rises : RisesFrom p.x ps
  before : Each (λ q. q.x <ℚ end) (p ∷ ps)

reads_tail : (end : ℚ) (f : ℚ → Ext) (p q : Piece) (qs : List Piece) → ReadsAs end f p (q ∷ qs) → ReadsAs end f q qs
reads_tail end f p q qs R = record {
  reads = λ t h l. sym (read_go p q qs t h) ∙ R.reads t (le_trans (le_of_lt R.rises.0) h) l;
  rises = R.rises.1;
  before = R.before.1;
}

after_first : (end : ℚ) (f : ℚ → Ext) (q : Piece) (qs : List Piece) (t : ℚ) → ReadsAs end f q qs → q.x <ℚ t → t <ℚ next_or end qs → f t ≡ line_value q.line t
unfolding next_or
after_first end f q [] t R past l = sym (R.reads t (le_of_lt past) l) ∙ read_one q t ∙ value_past q t past
after_first end f q (s ∷ ss) t R past l = sym (R.reads t (le_of_lt past) (lt_trans l R.before.1.0)) ∙ read_stop q s ss t l ∙ value_past q t past

at_first : (end : ℚ) (f : ℚ → Ext) (q : Piece) (qs : List Piece) → ReadsAs end f q qs → f q.x ≡ q.at
at_first end f q qs R = sym (R.reads q.x (le_refl q.x) R.before.0) ∙ read_first q qs q.x q.x R.rises (le_refl q.x) ∙ value_at_start q

next_past : (end : ℚ) (f : ℚ → Ext) (q : Piece) (qs : List Piece) → ReadsAs end f q qs → q.x <ℚ next_or end qs
unfolding next_or
next_past end f q [] R = R.before.0
next_past end f q (s ∷ ss) R = R.rises.0

next_most : (end : ℚ) (f : ℚ → Ext) (q : Piece) (qs : List Piece) → ReadsAs end f q qs → next_or end qs ≤ℚ end
unfolding next_or
next_most end f q [] R = le_refl end
next_most end f q (s ∷ ss) R = le_of_lt R.before.1.0

through : (end : ℚ) (f : ℚ → Ext) (p q : Piece) (qs : List Piece) → ReadsAs end f p (q ∷ qs) → GoesThrough f p q (next_or end qs)
unfolding next_or
through end f p q qs R =
    let S = reads_tail end f p q qs R in
    record {
      rises = R.rises.0;
      some = next_past end f q qs S;
      first = λ t h l. after_first end f p (q ∷ qs) t R h l;
      at = at_first end f q qs S;
      second = λ t h l. after_first end f q qs t S h l;
    }

-- ---- pieces of sums
-- a piece's numbers stand on the grids: its line's always, and its value where it starts on the grid
record OnSums (z : Sizes) (q : Piece) : Type 0 where
  line : LineOn z.ds (grid_of z) q.line
  at : Whole z.dt q.x → ValueOn (grid_of z) q.at

falls_turns : (l m : Option Line) → Falls l m → SlopeTurns false l m
falls_turns None m h = absurd h
falls_turns (Some l) None h = absurd h
falls_turns (Some l) (Some m) h = h

falls_some : (l m : Option Line) → Falls l m → m ≡ None → ⊥
falls_some None m h e = h
falls_some (Some l) None h e = h
falls_some (Some l) (Some m) h e = cc

bends_after : (z : Sizes) (end : ℚ) (f : ℚ → Ext) (p : Piece) (ps : List Piece) → 0 < z.dt → int (pos 0) ≤ℚ p.x → Arches z.dt end f → ReadsAs end f p ps → NoneContinues p ps → Each (OnSums z) ps
    → BendAfter false z.dt z.ds (grid_of z) p ps
bends_after z end f p [] some nonneg F R N E = tt
bends_after z end f p (q ∷ qs) some nonneg F R N E =
    let S = reads_tail end f p q qs R in
    let rest = bends_after z end f q qs some (le_trans nonneg (le_of_lt R.rises.0)) F S N.1 E.1 in
    elim (neighbours z.dt end f p q (next_or end qs) some nonneg (next_most end f q qs S) F (through end f p q qs R)) [
      | inl w ↦ (inl w, record { line = E.0.line; at = λ e. E.0.at w }, rest)
      | inr k ↦ elim k [
        | inl C ↦ absurd (N.0 C)
        | inr h ↦ (inr (falls_turns p.line q.line h), record { line = E.0.line; at = λ e. absurd (falls_some p.line q.line h e) }, rest)
      ]
    ]

-- ---- a window of sums
on_line : (z : Sizes) (l : Option Line) → SumLineAt z l → LineOn z.ds (grid_of z) l
on_line z None L = tt
on_line z (Some l) L = (L.icept, L.slope.whole)

on_value : (z : Sizes) (x : ℚ) (v : Ext) → SumValueAt z x v → Whole z.dt x → ValueOn (grid_of z) v
on_value z x Inf V w = tt
on_value z x (Fin v) V w = V.whole (z.dv * z.dt) (dvd_refl (z.dv * z.dt)) (whole_weaken z.dt (z.dv * z.dt) x (dvd-mul_left z.dt z.dv) w)

on_sums : (z : Sizes) (end : ℚ) (p : Piece) → SumPiece z end p → OnSums z p
on_sums z end p P = record { line = on_line z p.line P.line; at = on_value z p.x p.at P.at }

-- the merged pieces only bend where they are off the grid
merged_bend : (z : Sizes) (end : ℚ) (p : Piece) (ps kept : List Piece) → AreLimited z end → SumWindow z end (p ∷ ps) → Arches z.dt end (read (p ∷ ps)) → IsMerged p ps kept
    → OnlyBend false z.dt z.ds (grid_of z) (p ∷ kept)
merged_bend z end p ps kept A W F M =
    let each = each_part (SumPiece z end) kept ps M.part W.each.1 in
    let zero : Whole z.dt p.x = subst (Whole z.dt) (sym W.starts.0) (whole_int z.dt (pos 0)) in
    let first = on_sums z end p W.each.0 in
    let R : ReadsAs end (read (p ∷ ps)) p kept = record {
      reads = λ t h l. M.reads t;
      rises = M.rises;
      before = (W.each.0.start.before, each_map (SumPiece z end) (λ q. q.x <ℚ end) (λ q Q. Q.start.before) kept each);
    } in (
      record { line = first.line; at = λ e. first.at zero },
      bends_after z end (read (p ∷ ps)) p kept A.sizes.dt (subst (λ y. int (pos 0) ≤ℚ y) (sym W.starts.0) (le_refl (int (pos 0)))) F R M.none
          (each_map (SumPiece z end) (OnSums z) (λ q Q. on_sums z end q Q) kept each),
    )

-- ---- a tail of such pieces
same_grids : (T D : ℕ) (f g : ℚ → Ext) (from d c : ℚ) → ((t : ℚ) → f t ≡ g t) → OnGridsUnlessLine T D f from d c → OnGridsUnlessLine T D g from d c
same_grids T D f g from d c same F bent =
    let H = F (λ L. bent (L.0, λ t h. sym (same t) ∙ L.1 t h)) in
    record {
      time = λ n a R. H.time n a (back n R);
      value = λ n a R. H.value n a (back n R);
    }
  where
    back : (n : ℕ) → Repeats g from (d /ℚ int (pos n)) (c /ℚ int (pos n)) → Repeats f from (d /ℚ int (pos n)) (c /ℚ int (pos n))
    back n R = record { rule = λ t h. same (t +ℚ d /ℚ int (pos n)) ∙ R.rule t h ∙ ap (λ v. v +ₑ Fin (c /ℚ int (pos n))) (sym (same t)) }

same_repeated : (f g : ℚ → Ext) (from d c t : ℚ) → ((t : ℚ) → f t ≡ g t) → repeated f from d c t ≡ repeated g from d c t
unfolding repeated
same_repeated f g from d c t same = ap (λ v. v +ₑ Fin (int (pos (periods from d t)) *ℚ c)) (same (t -ℚ int (pos (periods from d t)) *ℚ d))

-- the periods of what repeats them stand on the grids
pub sums_on_grids : (z : Sizes) (end from period rise : ℚ) (ps : List Piece) → AreLimited z end → SumWindow z end ps → Arches z.dt end (read ps) → TailOf z end from period rise
    → OnGridsUnlessLine z.dt (grid_of z) (repeated (read ps) from period rise) from period rise
sums_on_grids z end from period rise [] A W F T = absurd W.starts
sums_on_grids z end from period rise (p ∷ ps) A W F T =
    let (kept, M) = merge_of p ps W.starts.1 in
    let each = each_part (SumPiece z end) kept ps M.part W.each.1 in
    let before : Each (λ q. q.x <ℚ end) (p ∷ kept) = (W.each.0.start.before, each_map (SumPiece z end) (λ q. q.x <ℚ end) (λ q Q. Q.start.before) kept each) in
    let fits : FitsPeriod (p ∷ kept) from period = record { nonneg = T.nonneg; some = T.some; starts = subst (λ y. Each (λ q. q.x <ℚ y) (p ∷ kept)) (sym T.ends) before } in
    same_grids z.dt (grid_of z) (repeated (read (p ∷ kept)) from period rise) (repeated (read (p ∷ ps)) from period rise) from period rise
    (λ t. same_repeated (read (p ∷ kept)) (read (p ∷ ps)) from period rise t M.reads)
    (bends_on false z.dt z.ds (grid_of z) (p ∷ kept) from period rise (grids_nest z) (W.starts.0, M.rises) fits (merged_bend z end p ps kept A W F M) T.time T.whole T.value)
