-- The first and the last copy of each piece, with the rise, have the sizes of all copies.
use Rattle.std.specs.Prelude.{◌≡◌, ℕ, zero, suc, ◌≤◌, pos, Bool, true, false, cond, List, [], ◌∷◌, ◌++◌, Option, Some, None, map, ◌⊎◌}
use Rattle.std.specs.List.{AllByRecursion, flat_map}
use Rattle.std.proofs.Common.{arith, sym, ap, ◌∙◌, refl, subst, inl, inr}
use Rattle.rational.specs.Rational.{ℚ, ◌+ℚ◌, ◌-ℚ◌, ◌*ℚ◌, ◌≤ℚ◌, ◌<ℚ◌, int, lt_q}
use Rattle.rational.specs.Grid.{Whole, Within}
use Rattle.rational.specs.Extended.{Ext, ◌+ₑ◌}
use Rattle.rational.specs.declared.Extended.TheVariants.{Fin, Inf}
use Rattle.rational.proofs.Linear.{with1, with2, with5, with8}
use Rattle.rational.proofs.Laws.{le_or_lt, mul_add, mul_le_mul, mul_le_mul_right, mul_zero, sub_mul, le_of_lt}
use Rattle.rational.proofs.Integers.{nat_le, nat_nonneg}
use Rattle.rational.proofs.Grid.{whole_add, whole_times}
use Rattle.upp_curve.specs.declared.affine_segment.line.Line.{Line}
use Rattle.upp_curve.specs.affine_segment.Values.{line_value}
use Rattle.upp_curve.specs.declared.curve.Tail.{Tail}
use Rattle.upp_curve.specs.declared.curve.Tail.TheVariants.{Periodic, Affine, Infinite}
use Rattle.upp_limits.specs.declared.seen.Seen.{Seen}
use Rattle.upp_curve.specs.Curve.{SpecCurve}
use Rattle.upp_curve.specs.Steady.{rank_of}
use Rattle.upp_curve.specs.Unrolled.{line_later, copies_below}
use Rattle.upp_limits.specs.Spans.{Span, next_later, copy_of, copies_of, once_below, span_below, spans, spans_below}
use Rattle.upp_limits.specs.Limits.{Numbers, no_numbers, joined, stored_period, stored_rise, finite, limit_before, span_values, span_slopes, line_slope, curve_numbers}
use Rattle.upp_limits.specs.Seen.{seen_of, seen_risen}
use Rattle.upp_limits.specs.ClosedForm.{seen_values, span_numbers, last_numbers, copies_numbers, once_numbers, closed_span, closed_spans, tail_numbers, closed_numbers}
use Rattle.upp_limits.proofs.Every.{every_append, every_left, every_right, every_map, every_map_out, every_flat, every_flat_out, every_weaken}
use Rattle.upp_limits.proofs.Copies.{copy_zero, every_copy, copy_among}

-- ---- the values of a copy
pub line_moved : (l : Option Line) (d c t : ℚ) → line_value (line_later d c l) (t +ℚ d) ≡ line_value l t +ₑ Fin c
line_moved None d c t = refl
line_moved (Some l) d c t =
    let s = l.slope in
    let k = l.icept in
    let e = mul_add s t d in
    ap Fin (with5 k c (s *ℚ d) (s *ℚ t) (s *ℚ (t +ℚ d)) (λ c. omega (arith, c.le, c.lt, c.same)))

pub before_moved : (l : Option Line) (next : Option ℚ) (d c : ℚ) → limit_before (line_later d c l) (next_later d next) ≡ limit_before l next +ₑ Fin c
before_moved l None d c = refl
before_moved l (Some e) d c = line_moved l d c e

make : Ext → Ext → Ext → Seen
make a b c = record { at = a; after = b; before = c }

-- copy m is m rises higher
pub seen_copy : (d c : ℚ) (s : Span) (m : ℕ) → seen_of (copy_of d c s m) ≡ seen_risen (seen_of s) (int (pos m) *ℚ c)
unfolding make
seen_copy d c s m =
    let y = int (pos m) *ℚ d in
    let z = int (pos m) *ℚ c in
    let a = s.piece.at +ₑ Fin z in
    ap (λ v. make a v (limit_before (line_later y z s.piece.line) (next_later y s.next))) (line_moved s.piece.line y z s.piece.x)
    ∙ ap (λ v. make a (line_value s.piece.line s.piece.x +ₑ Fin z) v) (before_moved s.piece.line s.next y z)

pub slope_later : (d c : ℚ) (l : Option Line) → line_slope (line_later d c l) ≡ line_slope l
slope_later d c None = refl
slope_later d c (Some l) = refl

-- ---- properties that pass from two copies to those between them
pub record IsFilled (P : ℚ → Type 0) : Type 0 where
  pub between : (x c : ℚ) (n m : ℕ) → n ≤ m → P c → P x → P (x +ℚ int (pos m) *ℚ c) → P (x +ℚ int (pos n) *ℚ c)

pub whole_filled : (d : ℕ) → IsFilled (Whole d)
whole_filled d = record { between = λ x c n m h k l w. whole_add d x (int (pos n) *ℚ c) l (whole_times d (pos n) c k) }

rising_between : (x y n m : ℚ) → int (pos 0) ≤ℚ n → n ≤ℚ m → (b : ℚ) → Within b x → Within b (x +ℚ m *ℚ y) → int (pos 0) ≤ℚ y → Within b (x +ℚ n *ℚ y)
rising_between x y n m h k b i j s =
    let a = mul_le_mul_right y s h in
    let u = mul_le_mul_right y s k in
    let lx = i.low in
    let hx = i.high in
    let lm = j.low in
    let hm = j.high in
    let z : int (pos 0) *ℚ y ≡ int (pos 0) = with1 y (λ c. omega (arith, c.le, c.lt, c.same)) in
    record {
      low = with5 x b (n *ℚ y) (m *ℚ y) (int (pos 0) *ℚ y) (λ c. omega (arith, c.le, c.lt, c.same));
      high = with5 x b (n *ℚ y) (m *ℚ y) (int (pos 0) *ℚ y) (λ c. omega (arith, c.le, c.lt, c.same));
    }

falling_between : (x y n m : ℚ) → int (pos 0) ≤ℚ n → n ≤ℚ m → (b : ℚ) → Within b x → Within b (x +ℚ m *ℚ y) → y ≤ℚ int (pos 0) → Within b (x +ℚ n *ℚ y)
falling_between x y n m h k b i j s =
    let a : n *ℚ y ≤ℚ n *ℚ int (pos 0) = mul_le_mul n h s in
    let z = mul_zero n in
    let gap : int (pos 0) ≤ℚ m -ℚ n = with2 m n (λ c. omega (arith, c.le, c.lt, c.same)) in
    let u : (m -ℚ n) *ℚ y ≤ℚ (m -ℚ n) *ℚ int (pos 0) = mul_le_mul (m -ℚ n) gap s in
    let w = mul_zero (m -ℚ n) in
    let e = sub_mul m n y in
    let lx = i.low in
    let hx = i.high in
    let lm = j.low in
    let hm = j.high in
    record {
      low = with8 x b (n *ℚ y) (m *ℚ y) (n *ℚ int (pos 0)) ((m -ℚ n) *ℚ y) ((m -ℚ n) *ℚ int (pos 0)) y (λ c. omega (arith, c.le, c.lt, c.same));
      high = with8 x b (n *ℚ y) (m *ℚ y) (n *ℚ int (pos 0)) ((m -ℚ n) *ℚ y) ((m -ℚ n) *ℚ int (pos 0)) y (λ c. omega (arith, c.le, c.lt, c.same));
    }

pub within_filled : (b : ℚ) → IsFilled (Within b)
within_filled b = record { between = λ x c n m h k l w. by_sign x c n m h l w (le_or_lt (int (pos 0)) c) }
  where
    by_sign : (x c : ℚ) (n m : ℕ) → n ≤ m → Within b x → Within b (x +ℚ int (pos m) *ℚ c) → (int (pos 0) ≤ℚ c) ⊎ (c <ℚ int (pos 0)) → Within b (x +ℚ int (pos n) *ℚ c)
    by_sign x c n m h l w (inl s) = rising_between x c (int (pos n)) (int (pos m)) (nat_nonneg n) (nat_le n m h) b l w s
    by_sign x c n m h l w (inr s) = falling_between x c (int (pos n)) (int (pos m)) (nat_nonneg n) (nat_le n m h) b l w (le_of_lt s)

-- properties that pass to a whole number of periods later
pub record IsGrid (P : ℚ → Type 0) : Type 0 where
  pub later : (x d : ℚ) (n : ℕ) → P d → P x → P (x +ℚ int (pos n) *ℚ d)

pub whole_grid : (d : ℕ) → IsGrid (Whole d)
whole_grid d = record { later = λ x p n k l. whole_add d x (int (pos n) *ℚ p) l (whole_times d (pos n) p k) }

-- ---- of all numbers: T of each time, V of each value, S of each slope
pub record Holds (T V S : ℚ → Type 0) (n : Numbers) : Type 0 where
  pub times : AllByRecursion T n.times
  pub values : AllByRecursion V n.values
  pub slopes : AllByRecursion S n.slopes

pub record SpanHolds (T V S : ℚ → Type 0) (s : Span) : Type 0 where
  pub start : T s.piece.x
  pub values : AllByRecursion V (span_values s)
  pub slopes : AllByRecursion S (span_slopes s)

pub holds_joined : (T V S : ℚ → Type 0) (a b : Numbers) → Holds T V S a → Holds T V S b → Holds T V S (joined a b)
holds_joined T V S a b h k = record {
  times = every_append T a.times b.times h.times k.times;
  values = every_append V a.values b.values h.values k.values;
  slopes = every_append S a.slopes b.slopes h.slopes k.slopes;
}

pub holds_left : (T V S : ℚ → Type 0) (a b : Numbers) → Holds T V S (joined a b) → Holds T V S a
holds_left T V S a b h = record {
  times = every_left T a.times b.times h.times;
  values = every_left V a.values b.values h.values;
  slopes = every_left S a.slopes b.slopes h.slopes;
}

pub holds_right : (T V S : ℚ → Type 0) (a b : Numbers) → Holds T V S (joined a b) → Holds T V S b
holds_right T V S a b h = record {
  times = every_right T a.times b.times h.times;
  values = every_right V a.values b.values h.values;
  slopes = every_right S a.slopes b.slopes h.slopes;
}

-- ---- one span
span_in : (T V S : ℚ → Type 0) (s : Span) → Holds T V S (span_numbers s) → SpanHolds T V S s
span_in T V S s h = record { start = h.times.0; values = h.values; slopes = h.slopes }

pub span_out : (T V S : ℚ → Type 0) (s : Span) → SpanHolds T V S s → Holds T V S (span_numbers s)
span_out T V S s h = record { times = (h.start, tt); values = h.values; slopes = h.slopes }

ext_between : (V : ℚ → Type 0) → IsFilled V → (e : Ext) (c : ℚ) (n m : ℕ) → n ≤ m → V c → AllByRecursion V (finite e) → AllByRecursion V (finite (e +ₑ Fin (int (pos m) *ℚ c)))
    → AllByRecursion V (finite (e +ₑ Fin (int (pos n) *ℚ c)))
ext_between V f Inf c n m h k l w = tt
ext_between V f (Fin v) c n m h k l w = (f.between v c n m h k l.0 w.0, tt)

seen_between : (V : ℚ → Type 0) → IsFilled V → (s : Seen) (c : ℚ) (n m : ℕ) → n ≤ m → V c → AllByRecursion V (seen_values s)
    → AllByRecursion V (seen_values (seen_risen s (int (pos m) *ℚ c))) → AllByRecursion V (seen_values (seen_risen s (int (pos n) *ℚ c)))
seen_between V f s c n m h k l w =
    let y = Fin (int (pos m) *ℚ c) in
    let z = Fin (int (pos n) *ℚ c) in
    let l2 = every_left V (finite s.at ++ finite s.after) (finite s.before) l in
    let w2 = every_left V (finite (s.at +ₑ y) ++ finite (s.after +ₑ y)) (finite (s.before +ₑ y)) w in
    every_append V (finite (s.at +ₑ z) ++ finite (s.after +ₑ z)) (finite (s.before +ₑ z))
    (every_append V (finite (s.at +ₑ z)) (finite (s.after +ₑ z))
    (ext_between V f s.at c n m h k (every_left V (finite s.at) (finite s.after) l2) (every_left V (finite (s.at +ₑ y)) (finite (s.after +ₑ y)) w2))
    (ext_between V f s.after c n m h k (every_right V (finite s.at) (finite s.after) l2) (every_right V (finite (s.at +ₑ y)) (finite (s.after +ₑ y)) w2)))
    (ext_between V f s.before c n m h k (every_right V (finite s.at ++ finite s.after) (finite s.before) l) (every_right V (finite (s.at +ₑ y) ++ finite (s.after +ₑ y)) (finite (s.before +ₑ y)) w))

-- copy m has the start, the values and the slope that it should
copy_in : (T V S : ℚ → Type 0) (d c : ℚ) (s : Span) (m : ℕ) → IsGrid T → T d → T s.piece.x → AllByRecursion V (seen_values (seen_risen (seen_of s) (int (pos m) *ℚ c)))
    → AllByRecursion S (span_slopes s) → SpanHolds T V S (copy_of d c s m)
copy_in T V S d c s m g k l w r = record {
  start = g.later s.piece.x d m k l;
  values = subst (λ v. AllByRecursion V (seen_values v)) (sym (seen_copy d c s m)) w;
  slopes = subst (AllByRecursion S) (sym (slope_later (int (pos m) *ℚ d) (int (pos m) *ℚ c) s.piece.line)) r;
}

copies_in_closed : (T V S : ℚ → Type 0) (d c : ℚ) (s : Span) (n : ℕ) → IsGrid T → IsFilled V → T d → V c → Holds T V S (copies_numbers c s n)
    → AllByRecursion (SpanHolds T V S) (copies_of d c s n)
copies_in_closed T V S d c s zero g f k l h = every_copy (SpanHolds T V S) d c s 0 (λ m e. absurd (omega arith))
copies_in_closed T V S d c s (suc zero) g f k l h =
    every_copy (SpanHolds T V S) d c s 1 (λ m e.
    let z : 0 ≡ m = omega arith in
    subst (λ i. SpanHolds T V S (copy_of d c s i)) z (subst (SpanHolds T V S) (sym (copy_zero d c s)) (span_in T V S s h)))
copies_in_closed T V S d c s (suc (suc n)) g f k l h =
    let first = holds_left T V S (span_numbers s) (last_numbers (int (pos (suc n)) *ℚ c) s) h in
    let last = holds_right T V S (span_numbers s) (last_numbers (int (pos (suc n)) *ℚ c) s) h in
    every_copy (SpanHolds T V S) d c s (suc (suc n)) (λ m e.
    copy_in T V S d c s m g k first.times.0 (seen_between V f (seen_of s) c m (suc n) (omega arith) l first.values last.values) first.slopes)

closed_in_copies : (T V S : ℚ → Type 0) (d c : ℚ) (s : Span) (n : ℕ) → AllByRecursion (SpanHolds T V S) (copies_of d c s n) → Holds T V S (copies_numbers c s n)
closed_in_copies T V S d c s zero h = record { times = tt; values = tt; slopes = tt }
closed_in_copies T V S d c s (suc zero) h =
    span_out T V S s (subst (SpanHolds T V S) (copy_zero d c s) (copy_among (SpanHolds T V S) d c s 1 0 (omega arith) h))
closed_in_copies T V S d c s (suc (suc n)) h =
    let first = subst (SpanHolds T V S) (copy_zero d c s) (copy_among (SpanHolds T V S) d c s (suc (suc n)) 0 (omega arith) h) in
    let last = copy_among (SpanHolds T V S) d c s (suc (suc n)) (suc n) (omega arith) h in
    holds_joined T V S (span_numbers s) (last_numbers (int (pos (suc n)) *ℚ c) s) (span_out T V S s first)
    record { times = tt; values = subst (λ v. AllByRecursion V (seen_values v)) (seen_copy d c s (suc n)) last.values; slopes = tt }

once_in : (T V S : ℚ → Type 0) (b : Bool) (s : Span) → Holds T V S (cond b (span_numbers s) no_numbers) → AllByRecursion (SpanHolds T V S) (cond b (s ∷ []) [])
once_in T V S true s h = (span_in T V S s h, tt)
once_in T V S false s h = tt

once_back : (T V S : ℚ → Type 0) (b : Bool) (s : Span) → AllByRecursion (SpanHolds T V S) (cond b (s ∷ []) []) → Holds T V S (cond b (span_numbers s) no_numbers)
once_back T V S true s h = span_out T V S s h.0
once_back T V S false s h = record { times = tt; values = tt; slopes = tt }

by_test : (T V S : ℚ → Type 0) (b : Bool) (m n : Numbers) (xs ys : List Span) → (Holds T V S m → AllByRecursion (SpanHolds T V S) xs) → (Holds T V S n → AllByRecursion (SpanHolds T V S) ys)
    → Holds T V S (cond b m n) → AllByRecursion (SpanHolds T V S) (cond b xs ys)
by_test T V S true m n xs ys f g h = f h
by_test T V S false m n xs ys f g h = g h

by_test_back : (T V S : ℚ → Type 0) (b : Bool) (m n : Numbers) (xs ys : List Span) → (AllByRecursion (SpanHolds T V S) xs → Holds T V S m) → (AllByRecursion (SpanHolds T V S) ys → Holds T V S n)
    → AllByRecursion (SpanHolds T V S) (cond b xs ys) → Holds T V S (cond b m n)
by_test_back T V S true m n xs ys f g h = f h
by_test_back T V S false m n xs ys f g h = g h

below_in : (T V S : ℚ → Type 0) (tail : Tail) (end : ℚ) (s : Span) → IsGrid T → IsFilled V → Holds T V S (tail_numbers tail) → Holds T V S (closed_span tail end s)
    → AllByRecursion (SpanHolds T V S) (span_below tail end s)
below_in T V S (Periodic rank period rise) end s g f t h =
    by_test T V S (lt_q s.piece.x rank) (once_numbers end s) (copies_numbers rise s (copies_below period end s.piece)) (once_below end s) (copies_of period rise s (copies_below period end s.piece))
    (once_in T V S (lt_q s.piece.x end) s) (copies_in_closed T V S period rise s (copies_below period end s.piece) g f t.times.1.0 t.values.0) h
below_in T V S (Affine rank) end s g f t h = once_in T V S (lt_q s.piece.x end) s h
below_in T V S (Infinite rank) end s g f t h = once_in T V S (lt_q s.piece.x end) s h

below_back : (T V S : ℚ → Type 0) (tail : Tail) (end : ℚ) (s : Span) → AllByRecursion (SpanHolds T V S) (span_below tail end s) → Holds T V S (closed_span tail end s)
below_back T V S (Periodic rank period rise) end s h =
    by_test_back T V S (lt_q s.piece.x rank) (once_numbers end s) (copies_numbers rise s (copies_below period end s.piece)) (once_below end s) (copies_of period rise s (copies_below period end s.piece))
    (once_back T V S (lt_q s.piece.x end) s) (closed_in_copies T V S period rise s (copies_below period end s.piece)) h
below_back T V S (Affine rank) end s h = once_back T V S (lt_q s.piece.x end) s h
below_back T V S (Infinite rank) end s h = once_back T V S (lt_q s.piece.x end) s h

-- ---- all spans
pub closed_all : (T V S : ℚ → Type 0) (tail : Tail) (end : ℚ) (ss : List Span) → Holds T V S (closed_spans tail end ss) → AllByRecursion (λ s. Holds T V S (closed_span tail end s)) ss
unfolding closed_spans
closed_all T V S tail end [] h = tt
closed_all T V S tail end (s ∷ ss) h =
    (holds_left T V S (closed_span tail end s) (closed_spans tail end ss) h, closed_all T V S tail end ss (holds_right T V S (closed_span tail end s) (closed_spans tail end ss) h))

pub all_closed : (T V S : ℚ → Type 0) (tail : Tail) (end : ℚ) (ss : List Span) → AllByRecursion (λ s. Holds T V S (closed_span tail end s)) ss → Holds T V S (closed_spans tail end ss)
unfolding closed_spans
all_closed T V S tail end [] h = record { times = tt; values = tt; slopes = tt }
all_closed T V S tail end (s ∷ ss) h = holds_joined T V S (closed_span tail end s) (closed_spans tail end ss) h.0 (all_closed T V S tail end ss h.1)

-- ---- the numbers of the unrolled pieces, and those of the tail
split_tail : (T V S : ℚ → Type 0) (tail : Tail) (ts vs ss : List ℚ) → AllByRecursion T (rank_of tail ∷ stored_period tail ++ ts) → AllByRecursion V (stored_rise tail ++ vs) → AllByRecursion S ss
    → Holds T V S (tail_numbers tail) × AllByRecursion T ts × AllByRecursion V vs
split_tail T V S (Periodic rank period rise) ts vs ss h k l = (record { times = (h.0, (h.1.0, tt)); values = (k.0, tt); slopes = tt }, h.1.1, k.1)
split_tail T V S (Affine rank) ts vs ss h k l = (record { times = (h.0, tt); values = tt; slopes = tt }, h.1, k)
split_tail T V S (Infinite rank) ts vs ss h k l = (record { times = (h.0, tt); values = tt; slopes = tt }, h.1, k)

join_tail : (T V S : ℚ → Type 0) (tail : Tail) (ts vs : List ℚ) → Holds T V S (tail_numbers tail) → AllByRecursion T ts → AllByRecursion V vs
    → AllByRecursion T (rank_of tail ∷ stored_period tail ++ ts) × AllByRecursion V (stored_rise tail ++ vs)
join_tail T V S (Periodic rank period rise) ts vs h k l = ((h.times.0, (h.times.1.0, k)), (h.values.0, l))
join_tail T V S (Affine rank) ts vs h k l = ((h.times.0, k), l)
join_tail T V S (Infinite rank) ts vs h k l = ((h.times.0, k), l)

zip_holds : (T V S : ℚ → Type 0) (ss : List Span) → AllByRecursion (λ s. T s.piece.x) ss → AllByRecursion (λ s. AllByRecursion V (span_values s)) ss
    → AllByRecursion (λ s. AllByRecursion S (span_slopes s)) ss → AllByRecursion (SpanHolds T V S) ss
zip_holds T V S [] h k l = tt
zip_holds T V S (s ∷ ss) h k l = (record { start = h.0; values = k.0; slopes = l.0 }, zip_holds T V S ss h.1 k.1 l.1)

-- from the first and last copies to all
pub closed_to_all : (T V S : ℚ → Type 0) (end : ℚ) (c : SpecCurve) → IsGrid T → IsFilled V → Holds T V S (closed_numbers end c) → Holds T V S (curve_numbers end c)
unfolding spans_below
closed_to_all T V S end c g f h =
    let ss = spans c.tail c.pieces in
    let t = holds_left T V S (tail_numbers c.tail) (closed_spans c.tail end ss) h in
    let all = every_flat (SpanHolds T V S) (span_below c.tail end) ss
    (every_weaken (λ s k. below_in T V S c.tail end s g f t k) ss (closed_all T V S c.tail end ss (holds_right T V S (tail_numbers c.tail) (closed_spans c.tail end ss) h))) in
    let us = spans_below c end in
    let joint = join_tail T V S c.tail (map (λ s. s.piece.x) us) (flat_map span_values us) t
    (every_map T (λ s. s.piece.x) us (every_weaken (λ s k. k.start) us all)) (every_flat V span_values us (every_weaken (λ s k. k.values) us all)) in
    record { times = joint.0; values = joint.1; slopes = every_flat S span_slopes us (every_weaken (λ s k. k.slopes) us all) }

-- and back
pub all_to_closed : (T V S : ℚ → Type 0) (end : ℚ) (c : SpecCurve) → Holds T V S (curve_numbers end c) → Holds T V S (closed_numbers end c)
unfolding spans_below
all_to_closed T V S end c h =
    let ss = spans c.tail c.pieces in
    let us = spans_below c end in
    let parts = split_tail T V S c.tail (map (λ s. s.piece.x) us) (flat_map span_values us) (flat_map span_slopes us) h.times h.values h.slopes in
    let all = zip_holds T V S us (every_map_out T (λ s. s.piece.x) us parts.1) (every_flat_out V span_values us parts.2) (every_flat_out S span_slopes us h.slopes) in
    holds_joined T V S (tail_numbers c.tail) (closed_spans c.tail end ss) parts.0
    (all_closed T V S c.tail end ss (every_weaken (λ s k. below_back T V S c.tail end s k) ss (every_flat_out (SpanHolds T V S) (span_below c.tail end) ss all)))
