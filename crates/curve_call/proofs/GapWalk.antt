-- The walk over a window by stretches of both curves: each time on the way stands on the grids of the curves, so that it ends.
use Rattle.std.specs.Prelude.{◌≡◌, ℕ, suc, ◌<◌, pos, List, [], ◌∷◌, ◌++◌, Option, Some, None, map}
use Rattle.std.specs.List.{AllByRecursion}
use Rattle.std.proofs.Common.{arith, sym, ap, ◌∙◌, subst, inl, inr}
use Rattle.std.proofs.lemmas.Int.{ints}
use Rattle.rational.specs.Rational.{ℚ, ◌+ℚ◌, ◌-ℚ◌, ◌*ℚ◌, ◌≤ℚ◌, ◌<ℚ◌, int}
use Rattle.rational.specs.Grid.{Whole}
use Rattle.rational.specs.Gauge.{common_den}
use Rattle.rational.specs.MinMax.{min_q}
use Rattle.rational.specs.Whole.{whole_part}
use Rattle.rational.proofs.Linear.{with2, with3, with4, with6}
use Rattle.rational.specs.Extended.{Ext}
use Rattle.rational.proofs.Laws.{antisym, le_of_not_lt, le_refl, le_trans, le_of_lt, lt_le_trans, mul_pos, mul_nonneg, sub_mul}
use Rattle.rational.proofs.Integers.{nat_lt, nat_lt_out, nat_nonneg, nat_next, int_le, int_lt_out}
use Rattle.rational.proofs.Whole.{whole_le, whole_gt}
use Rattle.rational.proofs.Grid.{whole_sub}
use Rattle.rational.proofs.MinMax.{min_q_le_left, min_q_le_right, below_min_in, min_q_one}
use Rattle.upp_curve.specs.declared.affine_segment.line.Piece.{Piece}
use Rattle.upp_curve.specs.declared.curve.Tail.{Tail}
use Rattle.upp_curve.specs.declared.curve.Tail.TheVariants.{Periodic, Affine, Infinite}
use Rattle.upp_curve.specs.Curve.{SpecCurve, value_at}
use Rattle.upp_curve.specs.affine_segment.Pieces.{Each}
use Rattle.upp_curve.specs.Steady.{rank_of}
use Rattle.upp_limits.specs.Periods.{period_of}
use Rattle.upp_limits.specs.Limits.{Sizes, stored_period}
use Rattle.upp_normal.specs.declared.ahead.Stretch.{Stretch}
use Rattle.upp_normal.specs.Operand.{OperandLineAt}
use Rattle.upp_normal.specs.Ahead.{IsBeforeNext, AtNext, TimesStand, HasWindow, IsTimeIn, GridValue}
use Rattle.upp_limits.proofs.Every.{every_left, every_right, every_map_out}
use Rattle.upp_limits.proofs.CommonDen.{common_den_each, common_den_pos}
use Rattle.upp_normal.proofs.StretchSizes.{times_stand}
use Rattle.curve_call.specs.declared.gaps.Gap.{Gap}
use Rattle.curve_call.specs.declared.gaps.Gap.TheVariants.{NoTime}
use Rattle.curve_call.specs.Gaps.{InWindow, IsGap, IsGapUntil}
use Rattle.curve_call.specs.GapSteps.{larger, IsUntil, earlier_of, GapStands, StretchSizes}
use Rattle.curve_call.proofs.GapSizes.{larger_stands}
use Rattle.curve_call.proofs.GapParts.{window_more, window_none}

-- ---- one grid for all times on the way
curve_times : SpecCurve → List ℚ
curve_times c = rank_of c.tail ∷ stored_period c.tail ++ map (λ p. p.x) c.pieces

walk_times : SpecCurve → SpecCurve → ℚ → ℚ → List ℚ
walk_times f g from end = from ∷ end ∷ curve_times f ++ curve_times g

walk_grid : SpecCurve → SpecCurve → ℚ → ℚ → ℕ
walk_grid f g from end = common_den (walk_times f g from end)

each_piece : (d : ℕ) (ps : List Piece) → AllByRecursion (λ p. Whole d p.x) ps → Each (λ p. Whole d p.x) ps
each_piece d [] h = tt
each_piece d (p ∷ ps) h = (h.0, each_piece d ps h.1)

times_on : (d : ℕ) (c : SpecCurve) → AllByRecursion (Whole d) (curve_times c) → TimesStand d c
unfolding curve_times
times_on d c h = record {
  rank = h.0;
  period = period_on c.tail (every_left (Whole d) (stored_period c.tail) (map (λ p. p.x) c.pieces) h.1);
  starts = each_piece d c.pieces (every_map_out (Whole d) (λ p. p.x) c.pieces (every_right (Whole d) (stored_period c.tail) (map (λ p. p.x) c.pieces) h.1));
}
  where
    period_on : (tail : Tail) → AllByRecursion (Whole d) (stored_period tail) → AtNext (Whole d) (period_of tail)
    period_on (Periodic rank period rise) h = h.0
    period_on (Affine rank) h = tt
    period_on (Infinite rank) h = tt

record OnGrid (d : ℕ) (f g : SpecCurve) (from end : ℚ) : Type 0 where
  first : TimesStand d f
  second : TimesStand d g
  start : Whole d from
  last : Whole d end
  some : 0 < d

on_grid : (f g : SpecCurve) (from end : ℚ) → OnGrid (walk_grid f g from end) f g from end
unfolding walk_grid walk_times
on_grid f g from end =
    let d = common_den (walk_times f g from end) in
    let all = common_den_each (walk_times f g from end) in
    record {
      first = times_on d f (every_left (Whole d) (curve_times f) (curve_times g) all.1.1);
      second = times_on d g (every_right (Whole d) (curve_times f) (curve_times g) all.1.1);
      start = all.0;
      last = all.1.0;
      some = common_den_pos (walk_times f g from end);
    }

-- ---- how many steps of the grid are left
pub steps_left : SpecCurve → SpecCurve → ℚ → ℚ → ℚ → ℕ
steps_left f g from end t = whole_part ((end -ℚ t) *ℚ int (pos (walk_grid f g from end)))

pub one_step : (d : ℕ) (y : ℚ) → 0 < d → int (pos 0) <ℚ y → Whole d y → int (pos 1) ≤ℚ y *ℚ int (pos d)
one_step d y some past w =
    let p : int (pos 0) <ℚ y *ℚ int (pos d) = mul_pos past (nat_lt 0 d some) in
    let l = int_lt_out (pos 0) w.steps (subst (λ v. int (pos 0) <ℚ v) w.is p) in
    subst (λ v. int (pos 1) ≤ℚ v) (sym w.is) (int_le (pos 1) w.steps (omega (arith, ints, l)))

pub fewer_whole : (x y : ℚ) → int (pos 0) ≤ℚ x → x +ℚ int (pos 1) ≤ℚ y → whole_part x < whole_part y
fewer_whole x y some h =
    let low = whole_le x some in
    let high = whole_gt y in
    let e = nat_next (whole_part x) in
    let u = int (pos (whole_part x)) in
    let v = int (pos (suc (whole_part y))) in
    let w = int (pos (suc (whole_part x))) in
    let l = nat_lt_out (suc (whole_part x)) (suc (whole_part y)) (subst (λ m. m <ℚ v) (sym e) (with4 u v x y (λ c. omega (arith, c.le, c.lt, c.same)))) in
    omega (arith, l)

pub fewer_on_grid : (d : ℕ) (end t next : ℚ) → 0 < d → Whole d t → Whole d next → t <ℚ next → next ≤ℚ end → whole_part ((end -ℚ next) *ℚ int (pos d)) < whole_part ((end -ℚ t) *ℚ int (pos d))
fewer_on_grid d end t next some w v h k =
    let D = int (pos d) in
    let step = one_step d (next -ℚ t) some (with2 t next (λ c. omega (arith, c.le, c.lt, c.same))) (whole_sub d next t v w) in
    let left : int (pos 0) ≤ℚ (end -ℚ next) *ℚ D = mul_nonneg (with2 end next (λ c. omega (arith, c.le, c.lt, c.same))) (nat_nonneg d) in
    let a = sub_mul end next D in
    let b = sub_mul end t D in
    let e = sub_mul next t D in
    fewer_whole ((end -ℚ next) *ℚ D) ((end -ℚ t) *ℚ D) left
    (let x = (end -ℚ next) *ℚ D in let y = (end -ℚ t) *ℚ D in let z = (next -ℚ t) *ℚ D in
    less x y z (end *ℚ D) (next *ℚ D) (t *ℚ D) a b e step)
  where
    less : (x y z p q r : ℚ) → x ≡ p -ℚ q → y ≡ p -ℚ r → z ≡ q -ℚ r → int (pos 1) ≤ℚ z → x +ℚ int (pos 1) ≤ℚ y
    less x y z p q r a b e s = with6 x y z p q r (λ c. omega (arith, c.le, c.lt, c.same))

-- ---- what holds on the way
pub record GapWalk (f g : SpecCurve) (from end t : ℚ) (gap : Gap) : Type 0 where
  pub start : from ≤ℚ t
  pub before : t ≤ℚ end
  pub grid : (d : ℕ) → TimesStand d f → TimesStand d g → Whole d from → Whole d end → Whole d t
  pub gap_is : IsGap (InWindow from t) (value_at f) (value_at g) gap
  pub sizes : (z : Sizes) → HasWindow z end f → HasWindow z end g → IsTimeIn z end from → GapStands z gap

pub walk_time : (z : Sizes) (f g : SpecCurve) (from end t : ℚ) (gap : Gap) → HasWindow z end f → HasWindow z end g → IsTimeIn z end from → GapWalk f g from end t gap → t <ℚ end
    → IsTimeIn z end t
walk_time z f g from end t gap V W time inv h = record {
  whole = inv.grid z.dt (times_stand z end f V.curve V) (times_stand z end g W.curve W) time.whole V.limited.sizes.window;
  nonneg = le_trans time.nonneg inv.start;
  before = h;
}

-- the next time stands too, and is not past the window's end
pub record NextStands (z : Sizes) (end next : ℚ) : Type 0 where
  pub whole : Whole z.dt next
  pub high : next ≤ℚ end

-- ---- the next time
pub next_time : ℚ → Option ℚ → Option ℚ → ℚ
next_time end a b = earlier_of (earlier_of end a) b

pub record NextTime (t end next : ℚ) (a b : Option ℚ) : Type 0 where
  pub past : t <ℚ next
  pub high : next ≤ℚ end
  pub first : IsUntil next a
  pub second : IsUntil next b

pub earlier_past : (t end : ℚ) (a : Option ℚ) → t <ℚ end → IsBeforeNext t a → t <ℚ earlier_of end a
earlier_past t end None h k = h
earlier_past t end (Some e) h k = below_min_in end e t h k

pub earlier_high : (end : ℚ) (a : Option ℚ) → earlier_of end a ≤ℚ end
earlier_high end None = le_refl end
earlier_high end (Some e) = min_q_le_left end e

earlier_until : (end : ℚ) (a : Option ℚ) → IsUntil (earlier_of end a) a
earlier_until end None = tt
earlier_until end (Some e) = min_q_le_right end e

until_down : (s t : ℚ) (a : Option ℚ) → s ≤ℚ t → IsUntil t a → IsUntil s a
until_down s t None h k = tt
until_down s t (Some e) h k = le_trans h k

earlier_whole : (d : ℕ) (end : ℚ) (a : Option ℚ) → Whole d end → AtNext (Whole d) a → Whole d (earlier_of end a)
earlier_whole d end None h k = h
earlier_whole d end (Some e) h k = elim (min_q_one end e) [ inl i ↦ subst (Whole d) (sym i) h | inr i ↦ subst (Whole d) (sym i) k ]

pub next_is : (t end : ℚ) (a b : Option ℚ) → t <ℚ end → IsBeforeNext t a → IsBeforeNext t b → NextTime t end (next_time end a b) a b
unfolding next_time
next_is t end a b h k l =
    let first = earlier_of end a in
    record {
      past = earlier_past t first b (earlier_past t end a h k) l;
      high = le_trans (earlier_high first b) (earlier_high end a);
      first = until_down (earlier_of first b) first a (earlier_high first b) (earlier_until end a);
      second = earlier_until first b;
    }

pub next_whole : (d : ℕ) (end : ℚ) (a b : Option ℚ) → Whole d end → AtNext (Whole d) a → AtNext (Whole d) b → Whole d (next_time end a b)
unfolding next_time
next_whole d end a b h k l = earlier_whole d (earlier_of end a) b (earlier_whole d end a h k) l

-- ---- one step
pub walk_step : (f g : SpecCurve) (from end t next : ℚ) (a b : Option ℚ) (gap more : Gap) → GapWalk f g from end t gap → t <ℚ end → IsBeforeNext t a → IsBeforeNext t b
    → ((d : ℕ) → TimesStand d f → AtNext (Whole d) a) → ((d : ℕ) → TimesStand d g → AtNext (Whole d) b) → next ≡ next_time end a b
    → IsGap (InWindow t next) (value_at f) (value_at g) more → ((z : Sizes) → HasWindow z end f → HasWindow z end g → IsTimeIn z end from → GapStands z more)
    → GapWalk f g from end next (larger gap more)
walk_step f g from end t next a b gap more inv h k l A B e stretch stands =
    let N : NextTime t end next a b = subst (λ n. NextTime t end n a b) (sym e) (next_is t end a b h k l) in
    record {
      start = le_trans inv.start (le_of_lt N.past);
      before = N.high;
      grid = λ d F G s w. subst (Whole d) (sym e) (next_whole d end a b w (A d F) (B d G));
      gap_is = window_more from t next (value_at f) (value_at g) gap more inv.start N.past inv.gap_is stretch;
      sizes = λ z V W T. larger_stands z gap more (inv.sizes z V W T) (stands z V W T);
    }

pub walk_fewer : (f g : SpecCurve) (from end t next : ℚ) (gap more : Gap) → GapWalk f g from end t gap → GapWalk f g from end next more → t <ℚ next → steps_left f g from end next < steps_left f g from end t
unfolding steps_left
walk_fewer f g from end t next gap more here there h =
    let O = on_grid f g from end in
    fewer_on_grid (walk_grid f g from end) end t next O.some (here.grid (walk_grid f g from end) O.first O.second O.start O.last) (there.grid (walk_grid f g from end) O.first O.second O.start O.last) h there.before

pub walk_start : (f g : SpecCurve) (from end : ℚ) → from <ℚ end → GapWalk f g from end from NoTime
walk_start f g from end h = record {
  start = le_refl from;
  before = le_of_lt h;
  grid = λ d F G s w. s;
  gap_is = window_none from (value_at f) (value_at g);
  sizes = λ z V W T. tt;
}

pub next_stands : (z : Sizes) (f g : SpecCurve) (end t next : ℚ) (a b : Option ℚ) → HasWindow z end f → HasWindow z end g → t <ℚ end → IsBeforeNext t a → IsBeforeNext t b
    → ((d : ℕ) → TimesStand d f → AtNext (Whole d) a) → ((d : ℕ) → TimesStand d g → AtNext (Whole d) b) → next ≡ next_time end a b → NextStands z end next
next_stands z f g end t next a b V W h k l A B e = subst (NextStands z end) (sym e) record {
  whole = next_whole z.dt end a b V.limited.sizes.window (A z.dt (times_stand z end f V.curve V)) (B z.dt (times_stand z end g W.curve W));
  high = (next_is t end a b h k l).high;
}

-- at the end the window is whole
pub walk_end : (f g : SpecCurve) (from end t : ℚ) (gap : Gap) → GapWalk f g from end t gap → ¬ (t <ℚ end) → IsGap (InWindow from end) (value_at f) (value_at g) gap
walk_end f g from end t gap inv h = subst (λ u. IsGap (InWindow from u) (value_at f) (value_at g) gap) (antisym (inv.before, le_of_not_lt h)) inv.gap_is

-- before the first of two times it is before the end
pub before_first : (t last end soon : ℚ) → last ≡ min_q end soon → t <ℚ last → t <ℚ end
before_first t last end soon e h = lt_le_trans h (subst (λ x. x ≤ℚ end) (sym e) (min_q_le_left end soon))

-- after it the window was looked at as far as it has to be
pub walk_until : (f g : SpecCurve) (from end soon last t : ℚ) (gap : Gap) → GapWalk f g from end t gap → last ≡ min_q end soon → ¬ (t <ℚ last) → IsGapUntil from end soon (value_at f) (value_at g) gap
walk_until f g from end soon last t gap inv e h = record { until = t; most = inv.before; left = left; is = inv.gap_is }
  where
    none_left : (u : ℚ) → InWindow t end u → end ≤ℚ t → ⊥
    none_left u i k = let a = i.start in let b = i.before in with3 t end u (λ c. omega (arith, c.le, c.lt, c.same))

    left : (u : ℚ) → InWindow t end u → soon ≤ℚ u
    left u i = elim (min_q_one end soon) [
      | inl k ↦ absurd (none_left u i (subst (λ x. x ≤ℚ t) (e ∙ k) (le_of_not_lt h)))
      | inr k ↦ le_trans (subst (λ x. x ≤ℚ t) (e ∙ k) (le_of_not_lt h)) i.start
    ]

-- up to the end it is whole
pub until_end : (from end : ℚ) (f g : ℚ → Ext) (gap : Gap) → IsGapUntil from end end f g gap → IsGap (InWindow from end) f g gap
until_end from end f g gap U = subst (λ u. IsGap (InWindow from u) f g gap) (antisym (U.most, all)) U.is
  where
    past : (u : ℚ) → u <ℚ end → end ≤ℚ u → ⊥
    past u h k = with2 u end (λ c. omega (arith, c.le, c.lt, c.same))

    all : end ≤ℚ U.until
    all = le_of_not_lt (λ h. past U.until h (U.left U.until record { start = le_refl U.until; before = h }))

pub next_found : (end : ℚ) (a b : Option ℚ) (first next : ℚ) → first ≡ earlier_of end a → next ≡ earlier_of first b → next ≡ next_time end a b
unfolding next_time
next_found end a b first next e f = f ∙ ap (λ t. earlier_of t b) e

pub next_past : (end t next : ℚ) (a b : Option ℚ) → t <ℚ end → IsBeforeNext t a → IsBeforeNext t b → next ≡ next_time end a b → NextTime t end next a b
next_past end t next a b h k l e = subst (λ n. NextTime t end n a b) (sym e) (next_is t end a b h k l)

-- what the gap of the stretch needs
pub stretch_sizes : (z : Sizes) (f g : SpecCurve) (from end t next : ℚ) (gap : Gap) (slow fast : Stretch) → HasWindow z end f → HasWindow z end g → IsTimeIn z end from → GapWalk f g from end t gap → t <ℚ end
    → IsBeforeNext t slow.next → IsBeforeNext t fast.next → ((d : ℕ) → TimesStand d f → AtNext (Whole d) slow.next) → ((d : ℕ) → TimesStand d g → AtNext (Whole d) fast.next)
    → (IsTimeIn z end t → OperandLineAt z slow.line × GridValue z slow.at) → (IsTimeIn z end t → OperandLineAt z fast.line × GridValue z fast.at) → next ≡ next_time end slow.next fast.next
    → StretchSizes z end slow fast t next
stretch_sizes z f g from end t next gap slow fast V W time inv h k l A B F G e =
    let here = walk_time z f g from end t gap V W time inv h in
    let first = F here in
    let second = G here in
    let N = next_stands z f g end t next slow.next fast.next V W h k l A B e in
    record {
      limited = V.limited;
      first = record { at = first.1; line = first.0 };
      second = record { at = second.1; line = second.0 };
      time = here;
      whole = N.whole;
      high = N.high;
    }
