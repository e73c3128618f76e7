-- The pieces of sums of a line's values, read as spans and as copies of them, stand within the sizes of such sums.
use Rattle.std.specs.Prelude.{◌≡◌, ℕ, ◌+◌, ◌<◌, ◌≤◌, pos, Bool, cond, List, [], ◌∷◌, Option, Some, None}
use Rattle.std.specs.List.{AllByRecursion}
use Rattle.std.proofs.Common.{arith, ap, ◌∙◌, sym, subst, inl, inr}
use Rattle.rational.specs.Rational.{ℚ, ◌+ℚ◌, ◌-ℚ◌, ◌*ℚ◌, ◌≤ℚ◌, ◌<ℚ◌, int}
use Rattle.rational.specs.Extended.{Ext, ◌+ₑ◌}
use Rattle.rational.specs.declared.Extended.TheVariants.{Fin, Inf}
use Rattle.rational.specs.Grid.{Whole, Within}
use Rattle.rational.proofs.Grid.{whole_add, whole_times}
use Rattle.rational.proofs.Integers.{int_add, nat_le, nat_lt_out, nat_nonneg}
use Rattle.rational.proofs.Laws.{add_mul, antisym, le_of_lt, le_or_lt, le_trans, lt_of_mul, mul_add, mul_assoc, mul_comm, mul_le_mul_right, mul_nonneg, one_mul}
use Rattle.rational.proofs.Linear.{with1, with2, with3, with4, with5}
use Rattle.rational.proofs.MinMax.{lt_q_not}
use Rattle.rational.proofs.Over.{lt_q_out}
use Rattle.min_plus.specs.Functions.{zero_q}
use Rattle.min_plus.specs.closure_laws.Star.{nat_times}
use Rattle.upp_curve.specs.declared.affine_segment.line.Line.{Line}
use Rattle.upp_curve.specs.declared.affine_segment.line.Piece.{Piece}
use Rattle.upp_curve.specs.affine_segment.Pieces.{Each, start_after}
use Rattle.upp_curve.specs.affine_segment.Reading.{read}
use Rattle.upp_curve.specs.affine_segment.Values.{line_at, line_value}
use Rattle.upp_curve.specs.declared.curve.Tail.TheVariants.{Periodic, Affine}
use Rattle.upp_curve.specs.Unrolled.{copies_below, line_later}
use Rattle.upp_curve.proofs.affine_segment.PieceIn.{read_go, read_one, read_stop, value_by, value_past}
use Rattle.upp_limits.specs.Limits.{Sizes, limit_before}
use Rattle.upp_limits.specs.Sized.{AreSizes, IsSlope, IsValue, LineStands, SpanStands, ValueStands, grid_of, times_largest}
use Rattle.upp_limits.specs.Spans.{Span, copies_of, copy_of, next_later, once_below, span_below, spans}
use Rattle.upp_limits.proofs.Copies.{copies_in, every_copy}
use Rattle.subadd_closure.proofs.SumSizes.{slope_stands, sum_sizes, sum_stands, sums_end}

-- ---- what is known of a line, and of what is made of sums of its values
-- a line of a curve of the sizes z in a window up to `end`
pub record LineStandsIn (z : Sizes) (end : ℚ) (l : Line) : Type 0 where
  pub sizes : AreSizes z end
  pub icept : Whole (grid_of z) l.icept
  pub within : Within (times_largest 2 z) l.icept
  pub slope : IsSlope z l.slope

pub record IsTimeBy (z : Sizes) (w t : ℚ) : Type 0 where
  pub whole : Whole z.dt t
  pub low : zero_q ≤ℚ t
  pub high : t ≤ℚ w

abbrev pub IsNextBy : Sizes → ℚ → Option ℚ → Type 0
IsNextBy z w None = Unit {0}
IsNextBy z w (Some e) = IsTimeBy z w e

-- a sum of up to q values at times whose sum is x
abbrev pub IsSumAt : ℕ → Line → ℚ → Ext → Type 0
IsSumAt q l x Inf = Unit {0}
IsSumAt q l x (Fin v) = (i : ℕ) × (i ≤ q) × (v ≡ nat_times i l.icept +ℚ l.slope *ℚ x)

-- the line of such sums
abbrev pub IsSumLine : ℕ → Line → Option Line → Type 0
IsSumLine q l None = Unit {0}
IsSumLine q l (Some m) = (i : ℕ) × (i ≤ q) × (m.icept ≡ nat_times i l.icept) × (m.slope ≡ l.slope)

pub record IsSumPiece (z : Sizes) (w : ℚ) (q : ℕ) (l : Line) (p : Piece) : Type 0 where
  pub time : IsTimeBy z w p.x
  pub at : IsSumAt q l p.x p.at
  pub line : IsSumLine q l p.line

pub record IsSumSpan (z : Sizes) (w : ℚ) (q : ℕ) (l : Line) (s : Span) : Type 0 where
  pub piece : IsSumPiece z w q l s.piece
  pub next : IsNextBy z w s.next

-- ---- later ends
time_later : (z : Sizes) (v w t : ℚ) → v ≤ℚ w → IsTimeBy z v t → IsTimeBy z w t
time_later z v w t h k = record { whole = k.whole; low = k.low; high = le_trans k.high h }

end_later : (z : Sizes) (v w : ℚ) (o : Option ℚ) → v ≤ℚ w → IsNextBy z v o → IsNextBy z w o
end_later z v w None h k = tt
end_later z v w (Some e) h k = time_later z v w e h k

-- ---- they stand
module _ (z : Sizes) (end : ℚ) (l : Line) (h : LineStandsIn z end l) (n : ℕ) (some : 1 ≤ n) where
  pub sum_is_value : (i : ℕ) (t : ℚ) → i ≤ n → IsTimeBy z (sums_end n end) t
      → IsValue (sum_sizes n z) (nat_times i l.icept +ℚ l.slope *ℚ t)
  sum_is_value i t few time =
      sum_stands z end h.sizes n some i l.icept l.slope t few h.icept h.within h.slope time.whole time.low time.high

  at_stands : (q : ℕ) (x : ℚ) (v : Ext) → q ≤ n → IsTimeBy z (sums_end n end) x → IsSumAt q l x v → ValueStands (sum_sizes n z) v
  at_stands q x Inf few time k = tt
  at_stands q x (Fin v) few time k =
      let (i, by, is) = k in
      subst (IsValue (sum_sizes n z)) (sym is) (sum_is_value i x (omega (arith, by, few)) time)

  line_stands : (q : ℕ) (m : Option Line) (t : ℚ) → q ≤ n → IsTimeBy z (sums_end n end) t → IsSumLine q l m
      → ValueStands (sum_sizes n z) (line_value m t)
  line_stands q None t few time k = tt
  line_stands q (Some m) t few time k =
      let (i, by, icept, slope) = k in
      let is : line_at m t ≡ nat_times i l.icept +ℚ l.slope *ℚ t =
      ap (λ x. x +ℚ m.slope *ℚ t) icept ∙ ap (λ x. nat_times i l.icept +ℚ x *ℚ t) slope in
      subst (IsValue (sum_sizes n z)) (sym is) (sum_is_value i t (omega (arith, by, few)) time)

  limit_stands : (q : ℕ) (m : Option Line) (next : Option ℚ) → q ≤ n → IsNextBy z (sums_end n end) next → IsSumLine q l m
      → ValueStands (sum_sizes n z) (limit_before m next)
  limit_stands q m None few time k = tt
  limit_stands q m (Some e) few time k = line_stands q m e few time k

  slopes_stand : (q : ℕ) (m : Option Line) → IsSumLine q l m → LineStands (sum_sizes n z) m
  slopes_stand q None k = tt
  slopes_stand q (Some m) k =
      let (i, by, icept, slope) = k in
      subst (IsSlope (sum_sizes n z)) (sym slope) (slope_stands z end h.sizes n some l.slope h.slope)

  pub span_stands : (w : ℚ) (q : ℕ) (s : Span) → w ≤ℚ sums_end n end → q ≤ n → IsSumSpan z w q l s → SpanStands (sum_sizes n z) s
  span_stands w q s reach few k =
      let time = time_later z w (sums_end n end) s.piece.x reach k.piece.time in
      let next = end_later z w (sums_end n end) s.next reach k.next in
      record {
        start = time.whole;
        at = at_stands q s.piece.x s.piece.at few time k.piece.at;
        after = line_stands q s.piece.line s.piece.x few time k.piece.line;
        before = limit_stands q s.piece.line s.next few next k.piece.line;
        slope = slopes_stand q s.piece.line k.piece.line;
      }

  -- what is read of them
  piece_stands : (w : ℚ) (q : ℕ) (p : Piece) (t : ℚ) (v : Ext) → w ≤ℚ sums_end n end → q ≤ n → IsTimeBy z w t → IsSumPiece z w q l p
      → (t ≤ℚ p.x → v ≡ p.at) → (p.x <ℚ t → v ≡ line_value p.line t) → ValueStands (sum_sizes n z) v
  piece_stands w q p t v reach few time k by past = elim (le_or_lt t p.x) [
    | inl e ↦ subst (ValueStands (sum_sizes n z)) (sym (by e))
        (at_stands q p.x p.at few (time_later z w (sums_end n end) p.x reach k.time) k.at)
    | inr e ↦ subst (ValueStands (sum_sizes n z)) (sym (past e))
        (line_stands q p.line t few (time_later z w (sums_end n end) t reach time) k.line)
  ]

  pub read_stands : (w : ℚ) (q : ℕ) (ps : List Piece) (t : ℚ) → w ≤ℚ sums_end n end → q ≤ n → IsTimeBy z w t
      → Each (IsSumPiece z w q l) ps → ValueStands (sum_sizes n z) (read ps t)
  unfolding read
  read_stands w q [] t reach few time k = tt
  read_stands w q (p ∷ []) t reach few time k =
      piece_stands w q p t (read (p ∷ []) t) reach few time k.0 (λ e. read_one p t ∙ value_by p t e) (λ e. read_one p t ∙ value_past p t e)
  read_stands w q (p ∷ r ∷ rs) t reach few time k = elim (le_or_lt r.x t) [
    | inl go ↦ subst (ValueStands (sum_sizes n z)) (sym (read_go p r rs t go)) (read_stands w q (r ∷ rs) t reach few time k.1)
    | inr stop ↦ piece_stands w q p t (read (p ∷ r ∷ rs) t) reach few time k.0 (λ e. read_stop p r rs t stop ∙ value_by p t e)
        (λ e. read_stop p r rs t stop ∙ value_past p t e)
  ]

-- ---- from pieces to spans
next_of : (z : Sizes) (w : ℚ) (q : ℕ) (l : Line) (ps : List Piece) (e : Option ℚ) → Each (IsSumPiece z w q l) ps → IsNextBy z w e
    → IsNextBy z w (start_after ps e)
next_of z w q l [] e k h = h
next_of z w q l (p ∷ ps) e k h = k.0.time

pub periodic_spans : (z : Sizes) (w : ℚ) (q : ℕ) (l : Line) (R d c : ℚ) (ps : List Piece) → Each (IsSumPiece z w q l) ps
    → IsTimeBy z w (R +ℚ d) → AllByRecursion (IsSumSpan z w q l) (spans (Periodic R d c) ps)
unfolding spans
periodic_spans z w q l R d c [] k e = tt
periodic_spans z w q l R d c (p ∷ ps) k e = (
  record { piece = record { time = k.0.time; at = k.0.at; line = k.0.line }; next = next_of z w q l ps (Some (R +ℚ d)) k.1 e },
  periodic_spans z w q l R d c ps k.1 e,
)

pub affine_spans : (z : Sizes) (w : ℚ) (q : ℕ) (l : Line) (R : ℚ) (ps : List Piece) → Each (IsSumPiece z w q l) ps
    → AllByRecursion (IsSumSpan z w q l) (spans (Affine R) ps)
unfolding spans
affine_spans z w q l R [] k = tt
affine_spans z w q l R (p ∷ ps) k = (
  record { piece = record { time = k.0.time; at = k.0.at; line = k.0.line }; next = next_of z w q l ps None k.1 tt },
  affine_spans z w q l R ps k.1,
)

-- ---- copies, a period later and higher by the line's value at the period
module _ (l : Line) (d : ℚ) where
  more : (i j : ℕ) → nat_times (i + j) l.icept ≡ nat_times i l.icept +ℚ nat_times j l.icept
  more i j = ap (λ x. x *ℚ l.icept) (sym (int_add (pos i) (pos j))) ∙ add_mul (int (pos i)) (int (pos j)) l.icept

  rise_is : (j : ℕ) → nat_times j (line_at l d) ≡ nat_times j l.icept +ℚ l.slope *ℚ nat_times j d
  rise_is j =
      let J = int (pos j) in
      mul_add J l.icept (l.slope *ℚ d)
      ∙ ap (λ x. nat_times j l.icept +ℚ x) (sym (mul_assoc J l.slope d) ∙ ap (λ x. x *ℚ d) (mul_comm J l.slope) ∙ mul_assoc l.slope J d)

  moved_sum : (i j : ℕ) (x v : ℚ) → v ≡ nat_times i l.icept +ℚ l.slope *ℚ x
      → v +ℚ nat_times j (line_at l d) ≡ nat_times (i + j) l.icept +ℚ l.slope *ℚ (x +ℚ nat_times j d)
  moved_sum i j x v e =
      let r = rise_is j in
      let m = more i j in
      let s = mul_add l.slope x (nat_times j d) in
      sums v (nat_times j (line_at l d)) (nat_times i l.icept) (nat_times j l.icept) (l.slope *ℚ x) (l.slope *ℚ nat_times j d)
      (nat_times (i + j) l.icept) (l.slope *ℚ (x +ℚ nat_times j d)) e r m s
    where
      sums : (v c a b x y m s : ℚ) → v ≡ a +ℚ x → c ≡ b +ℚ y → m ≡ a +ℚ b → s ≡ x +ℚ y → v +ℚ c ≡ m +ℚ s
      sums v c a b x y m s e f g h =
          ap (λ t. t +ℚ c) e ∙ ap (λ t. (a +ℚ x) +ℚ t) f ∙ antisym (with4 a b x y (λ c. omega (arith, c.le, c.lt, c.same)))
          ∙ ap (λ t. t +ℚ (x +ℚ y)) (sym g) ∙ ap (λ t. m +ℚ t) (sym h)

  moved_icept : (i j : ℕ) (k s : ℚ) → k ≡ nat_times i l.icept → s ≡ l.slope
      → (k +ℚ nat_times j (line_at l d)) -ℚ s *ℚ nat_times j d ≡ nat_times (i + j) l.icept
  moved_icept i j k s e f =
      let r = rise_is j in
      let m = more i j in
      parts k (nat_times j (line_at l d)) (nat_times i l.icept) (nat_times j l.icept) (s *ℚ nat_times j d) (l.slope *ℚ nat_times j d)
      (nat_times (i + j) l.icept) e r m (ap (λ x. x *ℚ nat_times j d) f)
    where
      parts : (k c a b w y m : ℚ) → k ≡ a → c ≡ b +ℚ y → m ≡ a +ℚ b → w ≡ y → (k +ℚ c) -ℚ w ≡ m
      parts k c a b w y m e f g h =
          ap (λ t. (t +ℚ c) -ℚ w) e ∙ ap (λ t. (a +ℚ t) -ℚ w) f ∙ ap (λ t. (a +ℚ (b +ℚ y)) -ℚ t) h
          ∙ antisym (with3 a b y (λ c. omega (arith, c.le, c.lt, c.same))) ∙ sym g

  at_moved : (q j : ℕ) (x : ℚ) (v : Ext) → IsSumAt q l x v
      → IsSumAt (q + j) l (x +ℚ nat_times j d) (v +ₑ Fin (nat_times j (line_at l d)))
  at_moved q j x Inf h = tt
  at_moved q j x (Fin v) h =
      let (i, by, is) = h in
      (i + j, omega (arith, by), moved_sum i j x v is)

  line_moved : (q j : ℕ) (m : Option Line) → IsSumLine q l m
      → IsSumLine (q + j) l (line_later (nat_times j d) (nat_times j (line_at l d)) m)
  line_moved q j None h = tt
  line_moved q j (Some m) h =
      let (i, by, icept, slope) = h in
      (i + j, omega (arith, by), moved_icept i j m.icept m.slope icept slope, slope)

  time_moved : (z : Sizes) (v w t : ℚ) (j : ℕ) → Whole z.dt d → zero_q ≤ℚ d → IsTimeBy z v t → t +ℚ nat_times j d ≤ℚ w
      → IsTimeBy z w (t +ℚ nat_times j d)
  time_moved z v w t j on low h reach =
      let from = h.low in
      let J = nat_times j d in
      let up : zero_q ≤ℚ J = mul_nonneg (nat_nonneg j) low in
      record {
        whole = whole_add z.dt t J h.whole (whole_times z.dt (pos j) d on);
        low = with2 t J (λ c. omega (arith, c.le, c.lt, c.same));
        high = reach;
      }

  next_moved : (z : Sizes) (v w : ℚ) (o : Option ℚ) (j : ℕ) → Whole z.dt d → zero_q ≤ℚ d → IsNextBy z v o
      → v +ℚ nat_times j d ≤ℚ w → IsNextBy z w (next_later (nat_times j d) o)
  next_moved z v w None j on low h reach = tt
  next_moved z v w (Some e) j on low h reach =
      let by = h.high in
      let J = nat_times j d in
      time_moved z v w e j on low h (with4 e v J w (λ c. omega (arith, c.le, c.lt, c.same)))

  pub copy_is : (z : Sizes) (v w : ℚ) (q j : ℕ) (s : Span) → Whole z.dt d → zero_q ≤ℚ d → IsSumSpan z v q l s
      → v +ℚ nat_times j d ≤ℚ w → IsSumSpan z w (q + j) l (copy_of d (line_at l d) s j)
  copy_is z v w q j s on low h reach =
      let by = h.piece.time.high in
      let x = s.piece.x in
      let J = nat_times j d in
      record {
        piece = record {
          time = time_moved z v w s.piece.x j on low h.piece.time (with4 x v J w (λ c. omega (arith, c.le, c.lt, c.same)));
          at = at_moved q j s.piece.x s.piece.at h.piece.at;
          line = line_moved q j s.piece.line h.piece.line;
        };
        next = next_moved z v w s.next j on low h.next reach;
      }

-- ---- of what starts below an end
pub once_in : (P : Span → Type 0) (end : ℚ) (s : Span) → P s → AllByRecursion P (once_below end s)
once_in P end s h = elim (le_or_lt end s.piece.x) [
  | inl k ↦ subst (λ b. AllByRecursion P (cond b (s ∷ []) [])) (sym (lt_q_not s.piece.x end k)) tt
  | inr k ↦ subst (λ b. AllByRecursion P (cond b (s ∷ []) [])) (sym (lt_q_out s.piece.x end k)) (h, tt)
]

-- two periods after the rank there are two copies at most
few_copies : (R d : ℚ) (p : Piece) (j : ℕ) → zero_q <ℚ d → R ≤ℚ p.x → p.x +ℚ int (pos j) *ℚ d <ℚ R +ℚ int (pos 2) *ℚ d → j < 2
few_copies R d p j some past early =
    let x = p.x in
    let J = int (pos j) *ℚ d in
    let T = int (pos 2) *ℚ d in
    nat_lt_out j 2 (lt_of_mul d (int (pos j)) (int (pos 2)) some (with4 R x J T (λ c. omega (arith, c.le, c.lt, c.same))))

module _ (z : Sizes) (end : ℚ) (l : Line) (h : LineStandsIn z end l) (n : ℕ) (some : 1 ≤ n) where
  pub span_below_stands : (R d : ℚ) (q : ℕ) (s : Span) → zero_q <ℚ d → Whole z.dt d → q + 1 ≤ n
      → R +ℚ int (pos 2) *ℚ d ≤ℚ sums_end n end → IsSumSpan z (R +ℚ d) q l s
      → AllByRecursion (SpanStands (sum_sizes n z)) (span_below (Periodic R d (line_at l d)) (R +ℚ int (pos 2) *ℚ d) s)
  span_below_stands R d q s above on few reach k =
      let far = R +ℚ int (pos 2) *ℚ d in
      let P = SpanStands (sum_sizes n z) in
      let choice = λ (b : Bool). AllByRecursion P (cond b (once_below far s) (copies_of d (line_at l d) s (copies_below d far s.piece))) in
      elim (le_or_lt R s.piece.x) [
        | inl past ↦ subst choice (sym (lt_q_not s.piece.x R past))
            (every_copy P d (line_at l d) s (copies_below d far s.piece) (λ j less.
            let soon = few_copies R d s.piece j above past (copies_in d far s.piece j above less) in
            copied j (omega (arith, soon))))
        | inr early ↦ subst choice (sym (lt_q_out s.piece.x R early)) (once_in P far s (own q (omega (arith, few)) (R +ℚ d) shorter s k))
      ]
    where
      two_times : (d : ℚ) → int (pos 2) *ℚ d ≡ d +ℚ d
      two_times d = with1 d (λ c. omega (arith, c.le, c.lt, c.same))

      shorter : R +ℚ d ≤ℚ sums_end n end
      shorter =
          let w = sums_end n end in
          let T = int (pos 2) *ℚ d in
          let two : T ≡ d +ℚ d = two_times d in
          let low = le_of_lt above in
          with4 R d T w (λ c. omega (arith, c.le, c.lt, c.same))

      own : (q : ℕ) → q ≤ n → (w : ℚ) → w ≤ℚ sums_end n end → (s : Span) → IsSumSpan z w q l s → SpanStands (sum_sizes n z) s
      own q by w reach s k = span_stands z end l h n some w q s reach by k

      copied : (j : ℕ) → j ≤ 1 → SpanStands (sum_sizes n z) (copy_of d (line_at l d) s j)
      copied j by =
          let J = nat_times j d in
          let one : J ≤ℚ int (pos 1) *ℚ d = mul_le_mul_right d (le_of_lt above) (nat_le j 1 by) in
          let same : int (pos 1) *ℚ d ≡ d = one_mul d in
          let two = two_times d in
          let T = int (pos 2) *ℚ d in
          let E = int (pos 1) *ℚ d in
          own (q + j) (omega (arith, few, by)) (R +ℚ T) reach (copy_of d (line_at l d) s j)
          (copy_is l d z (R +ℚ d) (R +ℚ T) q j s on (le_of_lt above) k (with5 R d J T E (λ c. omega (arith, c.le, c.lt, c.same))))
