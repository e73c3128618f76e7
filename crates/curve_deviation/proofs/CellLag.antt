-- The lag of two rising lines over a stretch of each.
use Rattle.std.specs.Prelude.{◌≡◌, pos}
use Rattle.std.proofs.Common.{arith, sym, ap, ◌∙◌, subst, inl, inr}
use Rattle.rational.specs.Rational.{ℚ, ◌+ℚ◌, ◌-ℚ◌, ◌*ℚ◌, ◌≤ℚ◌, ◌<ℚ◌, int}
use Rattle.rational.specs.MinMax.{min_q, max_q}
use Rattle.rational.proofs.Linear.{with2, with3, with4}
use Rattle.rational.proofs.Laws.{le_trans, le_of_lt, le_or_lt, lt_le_trans, le_lt_trans, lt_irrefl, antisym, between, mul_comm, mul_le_mul_right, mul_lt_mul}
use Rattle.rational.proofs.Stretch.{rising_supremum}
use Rattle.rational.proofs.MinMax.{below_min_in, min_q_le_left, min_q_le_right, max_q_lt, max_q_ge_left, max_q_ge_right}
use Rattle.upp_curve.specs.declared.affine_segment.line.Line.{Line}
use Rattle.upp_curve.specs.affine_segment.Values.{line_at}
use Rattle.curve_deviation.specs.declared.cells.Cell.{Cell}
use Rattle.curve_deviation.specs.Cells.{RisingCell, IsCellLag, BehindBy}
use Rattle.upp_curve.proofs.affine_segment.LineValues.{value_later, value_rises, value_moved}

-- ---- times between
pub after_both : (lo w hi : ℚ) → lo <ℚ hi → w <ℚ hi → (m : ℚ) × (lo <ℚ m) × (w <ℚ m) × (m <ℚ hi)
after_both lo w hi h k =
    let (m, p, q) = between (max_q lo w) hi (max_q_lt lo w hi h k) in
    (m, le_lt_trans (max_q_ge_left lo w) p, le_lt_trans (max_q_ge_right lo w) p, q)

pub before_both : (lo hi w : ℚ) → lo <ℚ hi → lo <ℚ w → (m : ℚ) × (lo <ℚ m) × (m <ℚ hi) × (m <ℚ w)
before_both lo hi w h k =
    let (m, p, q) = between lo (min_q hi w) (below_min_in hi w lo h k) in
    (m, p, lt_le_trans q (min_q_le_left hi w), lt_le_trans q (min_q_le_right hi w))

apart : (z s u : ℚ) → z +ℚ s <ℚ u → z <ℚ u -ℚ s
apart z s u h = with3 z s u (λ c. omega (arith, c.le, c.lt, c.same))

apart_sooner : (z s u t : ℚ) → z +ℚ t <ℚ u → s <ℚ t → z <ℚ u -ℚ s
apart_sooner z s u t h k = with4 z s u t (λ c. omega (arith, c.le, c.lt, c.same))

before_gap : (z s u : ℚ) → s <ℚ u -ℚ z → z <ℚ u -ℚ s
before_gap z s u h = with3 z s u (λ c. omega (arith, c.le, c.lt, c.same))

-- ---- a line that does not fall

pub rises_more : (l : Line) (s u : ℚ) → int (pos 0) <ℚ l.slope → s <ℚ u → line_at l s <ℚ line_at l u
rises_more l s u h k =
    let m = mul_lt_mul l.slope h k in
    let i = l.icept in
    let p = l.slope *ℚ s in
    let q = l.slope *ℚ u in
    with3 i p q (λ c. omega (arith, c.le, c.lt, c.same))

not_earlier : (l : Line) (s u : ℚ) → int (pos 0) <ℚ l.slope → line_at l s ≤ℚ line_at l u → s ≤ℚ u
not_earlier l s u h k = elim (le_or_lt s u) [
  | inl m ↦ m
  | inr m ↦ absurd (lt_irrefl (line_at l s) (le_lt_trans k (rises_more l u s h m)))
]

-- a line that gets higher rises
pub gets_higher : (l : Line) (s u : ℚ) → int (pos 0) ≤ℚ l.slope → line_at l s <ℚ line_at l u → int (pos 0) <ℚ l.slope
gets_higher l s u h k = elim (le_or_lt l.slope (int (pos 0))) [
  | inl m ↦
      let e : l.slope *ℚ s ≡ l.slope *ℚ u = level l.slope s u (antisym (m, h)) in
      let i = l.icept in
      let p = l.slope *ℚ s in
      let q = l.slope *ℚ u in
      absurd (with3 i p q (λ c. omega (arith, c.le, c.lt, c.same)))
  | inr m ↦ m
]
  where
    level : (r s u : ℚ) → r ≡ int (pos 0) → r *ℚ s ≡ r *ℚ u
    level r s u e = ap (λ x. x *ℚ s) e ∙ with2 s u (λ c. omega (arith, c.le, c.lt, c.same)) ∙ ap (λ x. x *ℚ u) (sym e)

-- ---- both times as much later, or as much earlier
slide_on : (k l : Line) (s u d v w : ℚ) → l.slope ≤ℚ k.slope → int (pos 0) ≤ℚ d → line_at l u <ℚ line_at k s → v ≡ s +ℚ d → w ≡ u +ℚ d → line_at l w <ℚ line_at k v
slide_on k l s u d v w steep some below e f =
    let m = mul_le_mul_right d some steep in
    let a = line_at k s in
    let b = line_at l u in
    let p = l.slope *ℚ d in
    let q = k.slope *ℚ d in
    let far : b +ℚ p <ℚ a +ℚ q = add a b p q below m in
    subst (λ x. line_at l w <ℚ x) (sym (ap (line_at k) e ∙ value_moved k s d)) (subst (λ x. x <ℚ a +ℚ q) (sym (ap (line_at l) f ∙ value_moved l u d)) far)
  where
    add : (a b p q : ℚ) → b <ℚ a → p ≤ℚ q → b +ℚ p <ℚ a +ℚ q
    add a b p q h k = with4 a b p q (λ c. omega (arith, c.le, c.lt, c.same))

slide_back : (k l : Line) (s u d v w : ℚ) → k.slope ≤ℚ l.slope → int (pos 0) ≤ℚ d → line_at l u <ℚ line_at k s → s ≡ v +ℚ d → u ≡ w +ℚ d → line_at l w <ℚ line_at k v
slide_back k l s u d v w gentle some below e f =
    let m = mul_le_mul_right d some gentle in
    let a = line_at k v in
    let b = line_at l w in
    let p = l.slope *ℚ d in
    let q = k.slope *ℚ d in
    let near : b +ℚ p <ℚ a +ℚ q = subst (λ x. b +ℚ p <ℚ x) (ap (line_at k) e ∙ value_moved k v d) (subst (λ x. x <ℚ line_at k s) (ap (line_at l) f ∙ value_moved l w d) below) in
    take a b p q near m
  where
    take : (a b p q : ℚ) → b +ℚ p <ℚ a +ℚ q → q ≤ℚ p → b <ℚ a
    take a b p q h k = with4 a b p q (λ c. omega (arith, c.le, c.lt, c.same))

-- the second's line, as much later as the gap takes, is as high as the first
reached : (k l : Line) (t q : ℚ) → q *ℚ l.slope ≡ line_at k t -ℚ line_at l t → line_at l (t +ℚ q) ≡ line_at k t
reached k l t q e = value_moved l t q ∙ ap (λ x. line_at l t +ℚ x) (mul_comm l.slope q ∙ e) ∙ close (line_at l t) (line_at k t)
  where
    close : (a b : ℚ) → a +ℚ (b -ℚ a) ≡ b
    close a b = with2 a b (λ c. omega (arith, c.le, c.lt, c.same))

-- and the first's line was there as much earlier
left : (k l : Line) (t q : ℚ) → q *ℚ k.slope ≡ line_at k t -ℚ line_at l t → line_at k (t -ℚ q) ≡ line_at l t
left k l t q e =
    let a = line_at k (t -ℚ q) in
    let b = line_at k t in
    let g = k.slope *ℚ q in
    close a b g (line_at l t) (sym (value_moved k (t -ℚ q) q) ∙ ap (line_at k) (with2 t q (λ c. omega (arith, c.le, c.lt, c.same)))) (mul_comm k.slope q ∙ e)
  where
    close : (a b g v : ℚ) → a +ℚ g ≡ b → g ≡ b -ℚ v → a ≡ v
    close a b g v h k = with4 a b g v (λ c. omega (arith, c.le, c.lt, c.same))

-- two such times
behind_by : (c : Cell) {y : ℚ} (s u : ℚ) → c.start <ℚ s → s <ℚ c.end → c.from <ℚ u → u <ℚ c.until
    → line_at c.second u <ℚ line_at c.first s → y <ℚ u -ℚ s → BehindBy c y
behind_by c s u start end from until below more = record {
  first = s;
  second = u;
  start = start;
  end = end;
  from = from;
  until = until;
  below = below;
  more = more;
}

-- ---- the second is lower
-- where it ends below where the first starts
apart_below : (c : Cell) (s u : ℚ) → RisingCell c → line_at c.second c.until <ℚ line_at c.first c.start → c.start <ℚ s → u <ℚ c.until
    → line_at c.second u <ℚ line_at c.first s
apart_below c s u R below past end =
    le_lt_trans (value_rises c.second u c.until R.second (le_of_lt end)) (lt_le_trans below (value_rises c.first c.start s R.first (le_of_lt past)))

-- where the first is at x as high as the second's end
passing_below : (c : Cell) (x s u : ℚ) → RisingCell c → int (pos 0) <ℚ c.first.slope → line_at c.first x ≡ line_at c.second c.until → x <ℚ s → u <ℚ c.until
    → line_at c.second u <ℚ line_at c.first s
passing_below c x s u R some is past end =
    le_lt_trans (value_rises c.second u c.until R.second (le_of_lt end)) (subst (λ v. v <ℚ line_at c.first s) is (rises_more c.first x s some past))

-- where it is so at an earlier time of the first
starting_below : (c : Cell) (t s u : ℚ) → RisingCell c → line_at c.second u <ℚ line_at c.first t → t <ℚ s → line_at c.second u <ℚ line_at c.first s
starting_below c t s u R under past = lt_le_trans under (value_rises c.first t s R.first (le_of_lt past))

-- ---- the second ends below where the first starts
pub apart_lag : (c : Cell) → RisingCell c → line_at c.second c.until <ℚ line_at c.first c.start → IsCellLag c (c.until -ℚ c.start)
apart_lag c R below = record {
  most = λ s u b. inl (let h = b.start in let k = b.until in let y = c.until in let t = c.start in with4 s u y t (λ c. omega (arith, c.le, c.lt, c.same)));
  near = λ z l.
      let y = c.until in
      let t = c.start in
      let (s, s_past, s_end, s_near) = before_both c.start c.end (y -ℚ z) R.start (with3 y t z (λ c. omega (arith, c.le, c.lt, c.same))) in
      let (u, u_past, u_near, u_end) = after_both c.from (z +ℚ s) c.until R.from (with3 y s z (λ c. omega (arith, c.le, c.lt, c.same))) in
      inr (behind_by c s u s_past s_end u_past u_end
      (apart_below c s u R below s_past u_end)
      (apart z s u u_near));
}

-- ---- the first is the steeper one
-- and ends above where the second ends
pub passing_lag : (c : Cell) (q : ℚ) → RisingCell c → line_at c.first c.start ≤ℚ line_at c.second c.until → c.second.slope <ℚ c.first.slope → line_at c.second c.until <ℚ line_at c.first c.end
    → q *ℚ c.first.slope ≡ line_at c.first c.until -ℚ line_at c.second c.until → IsCellLag c q
passing_lag c q R low steep high e =
    let y = c.until in
    let k = c.first in
    let some : int (pos 0) <ℚ k.slope = le_lt_trans R.second steep in
    let is : line_at k (y -ℚ q) ≡ line_at c.second y = left k c.second y q e in
    record {
      most = λ s u b.
          let d = y -ℚ u in
          let h = b.until in
          let on : line_at c.second y <ℚ line_at k (y -ℚ (u -ℚ s)) = slide_on k c.second s u d (y -ℚ (u -ℚ s)) y (le_of_lt steep) (with2 y u (λ c. omega (arith, c.le, c.lt, c.same))) b.below
          (with3 y u s (λ c. omega (arith, c.le, c.lt, c.same))) (with2 y u (λ c. omega (arith, c.le, c.lt, c.same))) in
          let l = value_later k (y -ℚ q) (y -ℚ (u -ℚ s)) R.first (subst (λ x. x <ℚ line_at k (y -ℚ (u -ℚ s))) (sym is) on) in
          inl (with4 y q u s (λ c. omega (arith, c.le, c.lt, c.same)));
      near = λ z l.
          let first = not_earlier k c.start (y -ℚ q) some (subst (λ x. line_at k c.start ≤ℚ x) (sym is) low) in
          let last = value_later k (y -ℚ q) c.end R.first (subst (λ x. x <ℚ line_at k c.end) (sym is) high) in
          let (s, s_past, s_end, s_near) = before_both (y -ℚ q) c.end (y -ℚ z) last (with3 y q z (λ c. omega (arith, c.le, c.lt, c.same))) in
          let (u, u_past, u_near, u_end) = after_both c.from (z +ℚ s) c.until R.from (with3 y s z (λ c. omega (arith, c.le, c.lt, c.same))) in
          inr (behind_by c s u (le_lt_trans first s_past) s_end u_past u_end
          (passing_below c (y -ℚ q) s u R some is s_past u_end)
          (apart z s u u_near));
    }

-- the first's line at t is no higher than the second ends, but higher than it starts: that is as high q later
record IsMet (c : Cell) (t q : ℚ) : Type 0 where
  some : int (pos 0) <ℚ c.second.slope
  is : line_at c.second (t +ℚ q) ≡ line_at c.first t
  past : c.from <ℚ t +ℚ q
  early : t +ℚ q ≤ℚ c.until

met : (c : Cell) (t q : ℚ) → RisingCell c → line_at c.first t ≤ℚ line_at c.second c.until → line_at c.second c.from <ℚ line_at c.first t → q *ℚ c.second.slope ≡ line_at c.first t -ℚ line_at c.second t → IsMet c t q
met c t q R low high e =
    let l = c.second in
    let some : int (pos 0) <ℚ l.slope = gets_higher l c.from c.until R.second (lt_le_trans high low) in
    let is : line_at l (t +ℚ q) ≡ line_at c.first t = reached c.first l t q e in
    record {
      some = some;
      is = is;
      past = value_later l c.from (t +ℚ q) R.second (subst (λ x. line_at l c.from <ℚ x) (sym is) high);
      early = not_earlier l (t +ℚ q) c.until some (subst (λ x. x ≤ℚ line_at l c.until) (sym is) low);
    }

-- and lower just before
just_before : (c : Cell) (t q z : ℚ) → IsMet c t q → z <ℚ q → (u : ℚ) × (c.from <ℚ u) × (z +ℚ t <ℚ u) × (u <ℚ c.until) × (line_at c.second u <ℚ line_at c.first t)
just_before c t q z M h =
    let (u, u_past, u_near, u_end) = after_both c.from (z +ℚ t) (t +ℚ q) M.past (with3 z t q (λ c. omega (arith, c.le, c.lt, c.same))) in
    (u, u_past, u_near, lt_le_trans u_end M.early, subst (λ x. line_at c.second u <ℚ x) M.is (rises_more c.second u (t +ℚ q) M.some u_end))

-- it ends no higher than the second ends, but higher than the second starts
pub ending_lag : (c : Cell) (q : ℚ) → RisingCell c → c.second.slope <ℚ c.first.slope → line_at c.first c.end ≤ℚ line_at c.second c.until → line_at c.second c.from <ℚ line_at c.first c.end
    → q *ℚ c.second.slope ≡ line_at c.first c.end -ℚ line_at c.second c.end → IsCellLag c q
ending_lag c q R steep low high e =
    let t = c.end in
    let k = c.first in
    let l = c.second in
    let M = met c t q R low high e in
    record {
      most = λ s u b.
          let d = t -ℚ s in
          let h = b.end in
          let on : line_at l (t +ℚ (u -ℚ s)) <ℚ line_at k t = slide_on k l s u d t (t +ℚ (u -ℚ s)) (le_of_lt steep) (with2 t s (λ c. omega (arith, c.le, c.lt, c.same))) b.below
          (with2 t s (λ c. omega (arith, c.le, c.lt, c.same))) (with3 t s u (λ c. omega (arith, c.le, c.lt, c.same))) in
          let m = value_later l (t +ℚ (u -ℚ s)) (t +ℚ q) R.second (subst (λ x. line_at l (t +ℚ (u -ℚ s)) <ℚ x) (sym M.is) on) in
          inl (with4 t q u s (λ c. omega (arith, c.le, c.lt, c.same)));
      near = λ z h.
          let (u, u_past, u_near, u_end, under) = just_before c t q z M h in
          let (i, more) = (rising_supremum c.start t k.icept k.slope R.start R.first).near (line_at l u) under in
          let s = i.at in
          let s_end = i.below in
          inr (behind_by c s u i.above s_end u_past u_end
          more
          (apart_sooner z s u t u_near s_end));
    }

-- it ends no higher than the second starts
pub under_lag : (c : Cell) → RisingCell c → line_at c.first c.end ≤ℚ line_at c.second c.from → IsCellLag c (int (pos 0))
under_lag c R low = record {
  most = λ s u b.
      let up = value_rises c.second c.from u R.second (le_of_lt b.from) in
      let down = value_rises c.first s c.end R.first (le_of_lt b.end) in
      absurd (lt_irrefl (line_at c.second u) (lt_le_trans b.below (le_trans down (le_trans low up))));
  near = λ z l. inl l;
}

-- ---- the first is not the steeper one
-- and starts above where the second starts
pub starting_lag : (c : Cell) (q : ℚ) → RisingCell c → c.first.slope ≤ℚ c.second.slope → line_at c.first c.start ≤ℚ line_at c.second c.until → line_at c.second c.from <ℚ line_at c.first c.start
    → q *ℚ c.second.slope ≡ line_at c.first c.start -ℚ line_at c.second c.start → IsCellLag c q
starting_lag c q R gentle low high e =
    let t = c.start in
    let k = c.first in
    let l = c.second in
    let M = met c t q R low high e in
    record {
      most = λ s u b.
          let d = s -ℚ t in
          let h = b.start in
          let on : line_at l (t +ℚ (u -ℚ s)) <ℚ line_at k t = slide_back k l s u d t (t +ℚ (u -ℚ s)) gentle (with2 t s (λ c. omega (arith, c.le, c.lt, c.same))) b.below
          (with2 t s (λ c. omega (arith, c.le, c.lt, c.same))) (with3 t s u (λ c. omega (arith, c.le, c.lt, c.same))) in
          let m = value_later l (t +ℚ (u -ℚ s)) (t +ℚ q) R.second (subst (λ x. line_at l (t +ℚ (u -ℚ s)) <ℚ x) (sym M.is) on) in
          inl (with4 t q u s (λ c. omega (arith, c.le, c.lt, c.same)));
      near = λ z h.
          let (u, u_past, u_near, u_end, under) = just_before c t q z M h in
          let (s, s_past, s_end, s_near) = before_both t c.end (u -ℚ z) R.start (with3 u z t (λ c. omega (arith, c.le, c.lt, c.same))) in
          inr (behind_by c s u s_past s_end u_past u_end
          (starting_below c t s u R under s_past)
          (before_gap z s u s_near));
    }

-- it starts no higher than the second starts
pub owed_lag : (c : Cell) → RisingCell c → c.first.slope ≤ℚ c.second.slope → line_at c.first c.start ≤ℚ line_at c.second c.from → IsCellLag c (int (pos 0))
owed_lag c R gentle low = record {
  most = λ s u b.
      let x = c.from in
      let d = u -ℚ x in
      let v = x -ℚ (u -ℚ s) in
      let past = b.from in
      let end = b.end in
      let e = c.end in
      let back : line_at c.second x <ℚ line_at c.first v = slide_back c.first c.second s u d v x gentle (with2 u x (λ c. omega (arith, c.le, c.lt, c.same))) b.below
      (with3 u x s (λ c. omega (arith, c.le, c.lt, c.same))) (with2 u x (λ c. omega (arith, c.le, c.lt, c.same))) in
      inr record {
        start = value_later c.first c.start v R.first (le_lt_trans low back);
        end = with4 u x s e (λ c. omega (arith, c.le, c.lt, c.same));
        below = back;
      };
  near = λ z l. inl l;
}
