-- A curve by itself: its last piece gives the end of its window, and below a gauge of 2 ^ 128 the steps to that fit.
use Rattle.std.specs.Prelude.{◌≡◌, ℕ, suc, ◌+◌, ◌-◌, ◌*◌, ◌<◌, ◌≤◌, ◌^◌, pos, Bool, true, false, List, [], ◌∷◌, length, Option, None}
use Rattle.std.specs.List.{AllByRecursion}
use Rattle.std.proofs.Common.{arith, sym, ap, ◌∙◌, refl, subst, inl, inr, get_or}
use Rattle.std.proofs.lemmas.Bool.{cases_lt}
use Rattle.rational.specs.Rational.{ℚ, ◌+ℚ◌, ◌*ℚ◌, ◌≤ℚ◌, int}
use Rattle.rational.specs.Ratio.{SumFits}
use Rattle.rational.specs.Grid.{Whole}
use Rattle.rational.specs.declared.Extended.TheVariants.{Inf}
use Rattle.rational.proofs.Linear.{with2, with3}
use Rattle.rational.proofs.Laws.{le_trans, le_of_lt, antisym, mul_comm, mul_one, mul_le_mul_right}
use native.Mathlib.Nat.{mul-le-mul_right}
use Rattle.rational.proofs.Integers.{nat_le, nat_nonneg, int_add, mul_whole}
use Rattle.rational.proofs.Grid.{whole_int, whole_add, within_nonneg}
use Rattle.rational.proofs.Sizes.{largest_part, sum_on_grid}
use Rattle.upp_curve.specs.declared.affine_segment.line.Piece.{Piece}
use Rattle.upp_curve.specs.affine_segment.Values.{line_value}
use Rattle.upp_curve.specs.declared.curve.Tail.{Tail}
use Rattle.upp_curve.specs.declared.curve.Tail.TheVariants.{Periodic, Affine, Infinite}
use Rattle.upp_curve.specs.affine_segment.Reading.{read, piece_value}
use Rattle.upp_curve.specs.Curve.{SpecCurve}
use Rattle.upp_curve.specs.Steady.{last_of, same_ext, later_unless, steady}
use Rattle.upp_curve.specs.affine_segment.Fits.{LineFitsAt}
use Rattle.upp_curve.specs.affine_segment.Pieces.{Each, StartsAtZero}
use Rattle.upp_curve.specs.Normal.{IsRaw, TailFits}
use Rattle.upp_limits.specs.Periods.{HasPeriod, own_period}
use Rattle.upp_limits.specs.Spans.{Span, piece_read, end_of, spans}
use Rattle.upp_limits.specs.Limits.{Sizes, sizes_of, curve_numbers, gauge_of, own_end, own_sizes, own_gauge}
use Rattle.upp_limits.specs.Sized.{AreSizes, SpanStands}
use Rattle.upp_limits.specs.Seen.{RankLineFits, Knows}
use Rattle.upp_limits.specs.OwnWindow.{LastBy, end_from, affine_keeps, infinite_keeps, RankFits, EndFits, EndsAt}
use Rattle.upp_curve.proofs.Steady.{last_found}
use Rattle.upp_limits.proofs.PieceLists.{starts_nonneg}
use Rattle.upp_limits.proofs.Stands.{sizes_stand}
use Rattle.upp_limits.proofs.CurveStands.{are_sizes, own_are_sizes, own_stands}
use Rattle.upp_limits.proofs.NarrowSizes.{IsNarrow, narrow_gauge}
use Rattle.upp_limits.proofs.KnownNumbers.{start_fits, curve_known}
use Rattle.upp_curve.proofs.SteadyTimes.{later_at_least}

-- ---- the last piece
pub last_is : (p : Piece) (ps : List Piece) (d : Piece) → get_or (p ∷ ps) (length (p ∷ ps) - 1) d ≡ last_of p ps
last_is p [] d = refl
last_is p (q ∷ qs) d =
    let e : length (p ∷ q ∷ qs) - 1 ≡ suc (length (q ∷ qs) - 1) = omega arith in
    ap (λ i. get_or (p ∷ q ∷ qs) i d) e ∙ last_is q qs d

pub last_each : (P : Piece → Type 0) (p : Piece) (ps : List Piece) → Each P (p ∷ ps) → P (last_of p ps)
last_each P p [] h = h.0
last_each P p (q ∷ qs) h = last_each P q qs h.1

pub last_by : (p : Piece) (ps : List Piece) (tail : Tail) → TailFits (p ∷ ps) tail → LastBy (last_of p ps) tail
last_by p ps (Periodic rank period rise) h = tt
last_by p ps (Affine rank) h = last_each (λ q. q.x ≤ℚ rank) p ps h.starts
last_by p ps (Infinite rank) h = last_each (λ q. q.x ≤ℚ rank) p ps h.starts

read_rank : (p : Piece) (ps : List Piece) (rank : ℚ) → Each (λ q. q.x ≤ℚ rank) (p ∷ ps) → read (p ∷ ps) rank ≡ piece_value (last_of p ps) rank
unfolding read
read_rank p ps rank h = ap (λ q. piece_value q rank) (last_found p ps rank h.1)

-- it gives the end of the curve's window
pub end_is : (p : Piece) (ps : List Piece) (tail : Tail) → TailFits (p ∷ ps) tail → end_from (last_of p ps) tail ≡ own_end record { pieces = p ∷ ps; tail = tail }
unfolding own_end own_period steady
end_is p ps (Periodic rank period rise) h = refl
end_is p ps (Affine rank) h =
    ap (λ v. later_unless (same_ext v (line_value (last_of p ps).line rank)) rank +ℚ int (pos 1)) (sym (read_rank p ps rank h.starts))
end_is p ps (Infinite rank) h = ap (λ v. later_unless (same_ext v Inf) rank +ℚ int (pos 1)) (sym (read_rank p ps rank h.starts))

last_span : (Q : Span → Type 0) (tail : Tail) (p : Piece) (ps : List Piece) → AllByRecursion Q (spans tail (p ∷ ps)) → Q record { piece = piece_read tail (last_of p ps); next = end_of tail }
unfolding spans
last_span Q tail p [] h = h.0
last_span Q tail p (q ∷ qs) h = last_span Q tail q qs h.1

last_nonneg : (P : Piece → Type 0) (p : Piece) (ps : List Piece) → AllByRecursion P (p ∷ ps) → P (last_of p ps)
last_nonneg P p [] h = h.0
last_nonneg P p (q ∷ qs) h = last_nonneg P q qs h.1

-- ---- sums of times up to the window's end
pub end_within : (z : Sizes) (end : ℚ) → AreSizes z end → int (pos 0) ≤ℚ end → end ≤ℚ int (pos z.largest)
end_within z end a h =
    let S = int (pos z.steepness) in
    let e1 : end ≤ℚ S *ℚ end = subst (λ y. y ≤ℚ S *ℚ end) (mul_comm (int (pos 1)) end ∙ mul_one end) (mul_le_mul_right end h (nat_le 1 z.steepness a.steepness)) in
    le_trans e1 a.reach

pub twice_fits : (v d : ℕ) → v * d ≤ 2 ^ 122 → (int (pos v) +ℚ int (pos v)) *ℚ int (pos d) ≤ℚ int (pos largest_part)
twice_fits v d h =
    let e : (int (pos v) +ℚ int (pos v)) *ℚ int (pos d) ≡ int (pos ((v + v) * d)) = ap (λ x. x *ℚ int (pos d)) (int_add (pos v) (pos v)) ∙ mul_whole (pos (v + v)) (pos d) 0 in
    subst (λ x. x ≤ℚ int (pos largest_part)) (sym e) (nat_le ((v + v) * d) largest_part (omega (arith, h)))

pub time_sum : (z : Sizes) (end a b : ℚ) → AreSizes z end → IsNarrow z (2 ^ 122) → Whole z.dt a → Whole z.dt b → int (pos 0) ≤ℚ a → int (pos 0) ≤ℚ b → a ≤ℚ end → b ≤ℚ end → SumFits a b
time_sum z end a b s n wa wb na nb la lb =
    let v = end_within z end s (le_trans na la) in
    let V = int (pos z.largest) in
    let t = n.times in
    let one : 1 * z.dt ≤ z.largest * z.dt = mul-le-mul_right z.dt s.largest in
    sum_on_grid z.dt V V a b s.dt (omega (arith, t, one)) (twice_fits z.largest z.dt t) wa wb
    (within_nonneg V a na (le_trans la v)) (within_nonneg V b nb (le_trans lb v))

steady_whole : (z : Sizes) (b : Bool) (rank : ℚ) → Whole z.dt rank → Whole z.dt (later_unless b rank)
steady_whole z true rank w = w
steady_whole z false rank w = whole_add z.dt rank (int (pos 1)) w (whole_int z.dt (pos 1))

rank_fits : (z : Sizes) (end : ℚ) (b : Bool) (rank : ℚ) → AreSizes z end → IsNarrow z (2 ^ 122) → Whole z.dt rank → int (pos 0) ≤ℚ rank → end ≡ later_unless b rank +ℚ int (pos 1)
    → RankFits rank (later_unless b rank)
rank_fits z end b rank a n w h e =
    let s = later_unless b rank in
    let l : rank ≤ℚ s = later_at_least b rank in
    let one : Whole z.dt (int (pos 1)) = whole_int z.dt (pos 1) in
    let some : int (pos 0) ≤ℚ int (pos 1) = nat_nonneg 1 in
    let e1 : s ≤ℚ end = with2 s end (λ c. omega (arith, c.le, c.lt, c.same)) in
    let e2 : int (pos 1) ≤ℚ end = with3 rank s end (λ c. omega (arith, c.le, c.lt, c.same)) in
    record {
      first = time_sum z end rank (int (pos 1)) a n w one h some (le_trans l e1) e2;
      second = time_sum z end s (int (pos 1)) a n (steady_whole z b rank w) one (le_trans h l) some e1 e2;
    }

rank_line : (z : Sizes) (end : ℚ) (p : Piece) (rank : ℚ) (next : Option ℚ) → AreSizes z end → IsNarrow z (2 ^ 122) → p.x ≤ℚ rank → rank ≤ℚ end → int (pos 0) ≤ℚ p.x
    → SpanStands z record { piece = p; next = next } → RankLineFits p rank
rank_line z end p rank next a n h l some t = λ k.
    let e : p.x ≡ rank = antisym (h, k) in
    subst (λ y. LineFitsAt y p.line) e (start_fits z end p.line p.x a n t.start some (le_trans h l) t.slope t.after)

-- the steps to the end of the curve's own window fit
pub end_fits : (p : Piece) (ps : List Piece) (tail : Tail) → IsRaw record { pieces = p ∷ ps; tail = tail } → own_gauge record { pieces = p ∷ ps; tail = tail } < 2 ^ 128 → EndFits (last_of p ps) tail
end_fits p ps (Periodic rank period rise) raw small =
    let c : SpecCurve = record { pieces = p ∷ ps; tail = Periodic rank period rise } in
    let z = own_sizes c in
    let a = own_are_sizes c in
    let t = own_stands c raw in
    let h = raw.tail in
    let end : rank +ℚ period ≡ own_end c = end_is p ps (Periodic rank period rise) h in
    let some = h.some in
    let nonneg = h.nonneg in
    time_sum z (own_end c) rank period a (narrow_gauge z (own_end c) a small) t.rank t.tail.whole nonneg (le_of_lt some)
    (subst (λ y. rank ≤ℚ y) end (with2 rank period (λ c. omega (arith, c.le, c.lt, c.same)))) (subst (λ y. period ≤ℚ y) end (with2 rank period (λ c. omega (arith, c.le, c.lt, c.same))))
end_fits p ps (Affine rank) raw small =
    let c : SpecCurve = record { pieces = p ∷ ps; tail = Affine rank } in
    let z = own_sizes c in
    let a = own_are_sizes c in
    let t = own_stands c raw in
    let n = narrow_gauge z (own_end c) a small in
    let h = raw.tail in
    let b = affine_keeps (last_of p ps) rank in
    let end : own_end c ≡ later_unless b rank +ℚ int (pos 1) = sym (end_is p ps (Affine rank) h) in
    let s = later_unless b rank in
    let l : rank ≤ℚ s = later_at_least b rank in
    let far : rank ≤ℚ own_end c = subst (λ y. rank ≤ℚ y) (sym end) (with2 rank s (λ c. omega (arith, c.le, c.lt, c.same))) in
    record {
      line = rank_line z (own_end c) (last_of p ps) rank None a n (last_by p ps (Affine rank) h) far
          (last_nonneg (λ q. int (pos 0) ≤ℚ q.x) p ps (starts_nonneg (p ∷ ps) raw.starts)) (last_span (SpanStands z) (Affine rank) p ps t.spans);
      sums = rank_fits z (own_end c) b rank a n t.rank h.nonneg end;
    }
end_fits p ps (Infinite rank) raw small =
    let c : SpecCurve = record { pieces = p ∷ ps; tail = Infinite rank } in
    let z = own_sizes c in
    let a = own_are_sizes c in
    let t = own_stands c raw in
    let h = raw.tail in
    rank_fits z (own_end c) (infinite_keeps (last_of p ps) rank) rank a (narrow_gauge z (own_end c) a small) t.rank h.nonneg (sym (end_is p ps (Infinite rank) h))

-- ---- what is not known makes the gauge large
pub large : (n m : ℕ) → (n < m → ⊥) → m ≤ n
large n m h = elim (cases_lt n m) [ inl l ↦ absurd (h l) | inr l ↦ l ]

pub unknown_large : (end : ℚ) (c : SpecCurve) → StartsAtZero c.pieces → HasPeriod c.tail → (AllByRecursion (Knows c.tail end) (spans c.tail c.pieces) → ⊥)
    → 2 ^ 128 ≤ gauge_of (sizes_of end (curve_numbers end c))
unknown_large end c starts some h =
    let n = curve_numbers end c in
    large (gauge_of (sizes_of end n)) (2 ^ 128) (λ l. h (curve_known (sizes_of end n) end c (are_sizes end n) l starts some (sizes_stand end n)))

-- ---- by the piece at the last place
pub last_place : (ps : List Piece) (tail : Tail) (last : Piece) → IsRaw record { pieces = ps; tail = tail } → last ≡ get_or ps (length ps - 1) last → LastBy last tail
last_place [] tail last raw e = absurd raw.starts
last_place (p ∷ ps) tail last raw e = subst (λ q. LastBy q tail) (sym (e ∙ last_is p ps last)) (last_by p ps tail raw.tail)

pub end_place : (ps : List Piece) (tail : Tail) (last : Piece) → IsRaw record { pieces = ps; tail = tail } → last ≡ get_or ps (length ps - 1) last
    → end_from last tail ≡ own_end record { pieces = ps; tail = tail }
end_place [] tail last raw e = absurd raw.starts
end_place (p ∷ ps) tail last raw e = ap (λ q. end_from q tail) (e ∙ last_is p ps last) ∙ end_is p ps tail raw.tail

pub fits_place : (ps : List Piece) (tail : Tail) (last : Piece) → IsRaw record { pieces = ps; tail = tail } → last ≡ get_or ps (length ps - 1) last
    → own_gauge record { pieces = ps; tail = tail } < 2 ^ 128 → EndFits last tail
fits_place [] tail last raw e small = absurd raw.starts
fits_place (p ∷ ps) tail last raw e small = subst (λ q. EndFits q tail) (sym (e ∙ last_is p ps last)) (end_fits p ps tail raw small)

pub ends_at : (tail : Tail) (last : Piece) (end : ℚ) → end ≡ end_from last tail → EndsAt tail end
ends_at (Periodic rank period rise) last end e = e
ends_at (Affine rank) last end e = tt
ends_at (Infinite rank) last end e = tt

pub own_gauge_is : (c : SpecCurve) (end : ℚ) → end ≡ own_end c → gauge_of (sizes_of end (curve_numbers end c)) ≡ own_gauge c
unfolding own_sizes
own_gauge_is c end e = ap (λ x. gauge_of (sizes_of x (curve_numbers x c))) e

pub no_end_large : (ps : List Piece) (tail : Tail) (last : Piece) → IsRaw record { pieces = ps; tail = tail } → last ≡ get_or ps (length ps - 1) last → (EndFits last tail → ⊥)
    → 2 ^ 128 ≤ own_gauge record { pieces = ps; tail = tail }
no_end_large ps tail last raw e h = large (own_gauge record { pieces = ps; tail = tail }) (2 ^ 128) (λ l. h (fits_place ps tail last raw e l))
