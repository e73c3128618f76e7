-- The splits of a time into the times of two elements, and the infimum of the sums over them.
use Rattle.std.specs.Prelude.{◌≡◌, pos, [], ◌∷◌}
use Rattle.std.proofs.Common.{arith, sym, ap, ◌∙◌, refl, subst}
use Rattle.rational.specs.Rational.{ℚ, ◌+ℚ◌, ◌-ℚ◌, ◌*ℚ◌, ◌≤ℚ◌, ◌<ℚ◌, int}
use Rattle.rational.specs.MinMax.{min_q, max_q}
use Rattle.rational.specs.Extended.{Ext, ◌<ₑ◌, ◌+ₑ◌}
use Rattle.rational.specs.declared.Extended.TheVariants.{Fin, Inf}
use Rattle.rational.specs.Bounds.{IsInfimum}
use Rattle.rational.specs.Stretch.{Between}
use Rattle.rational.proofs.Linear.{with2, with3, with5, with7, with_atoms}
use Rattle.rational.proofs.Laws.{le_lt_trans, mul_add, mul_sub, sub_mul}
use Rattle.rational.proofs.MinMax.{max_q_ge_left, max_q_ge_right, max_q_lt, below_min_in, below_min_out, min_q_left, min_q_is_right}
use Rattle.rational.proofs.ExtendedOrder.{same_le_ext}
use Rattle.rational.proofs.Bounds.{same_infimum}
use Rattle.rational.proofs.Stretch.{falling_infimum}
use Rattle.upp_curve.specs.declared.affine_segment.line.Line.{Line}
use Rattle.upp_curve.specs.declared.affine_segment.element.Element.TheVariants.{Open}
use Rattle.upp_curve.specs.affine_segment.Values.{line_at}
use Rattle.upp_curve.specs.affine_segment.Elements.{PairSplit, pair_sum}

-- ---- families with one value
pub one_value : {I : Type 0} (F : I → Ext) (q : ℚ) (i : I) → ((j : I) → F j ≡ Fin q) → IsInfimum F (Fin q)
one_value F q i h = record { below = λ j. same_le_ext (sym (h j)); near = λ y l. (i, subst (λ z. z <ₑ Fin y) (sym (h i)) l) }

-- ---- the times of the first in a split of t, where the second starts at g and ends at `end`
-- they are past the first's start and what leaves more than the second has
pub lo_of : ℚ → Ext → ℚ → ℚ
lo_of from Inf t = from
lo_of from (Fin e) t = max_q from (t -ℚ e)

-- and before the first's end and what leaves too little
pub hi_of : ℚ → Ext → ℚ → ℚ
hi_of g Inf t = t -ℚ g
hi_of g (Fin e) t = min_q e (t -ℚ g)

past_lo : (from : ℚ) (end : Ext) (t s : ℚ) → lo_of from end t <ℚ s → (from <ℚ s) × (Fin (t -ℚ s) <ₑ end)
unfolding lo_of
past_lo from Inf t s h = (h, tt)
past_lo from (Fin e) t s h = (
  le_lt_trans (max_q_ge_left from (t -ℚ e)) h,
  let p = le_lt_trans (max_q_ge_right from (t -ℚ e)) h in with3 t e s (λ c. omega (arith, c.le, c.lt, c.same)),
)

lo_past : (from : ℚ) (end : Ext) (t s : ℚ) → from <ℚ s → Fin (t -ℚ s) <ₑ end → lo_of from end t <ℚ s
unfolding lo_of
lo_past from Inf t s h b = h
lo_past from (Fin e) t s h b = max_q_lt from (t -ℚ e) s h (with3 t e s (λ c. omega (arith, c.le, c.lt, c.same)))

before_hi : (g : ℚ) (to : Ext) (t s : ℚ) → s <ℚ hi_of g to t → (Fin s <ₑ to) × (g <ℚ t -ℚ s)
unfolding hi_of
before_hi g Inf t s h = (tt, with3 g t s (λ c. omega (arith, c.le, c.lt, c.same)))
before_hi g (Fin e) t s h =
    let p = below_min_out e (t -ℚ g) s h in
    (p.0, let q = p.1 in with3 g t s (λ c. omega (arith, c.le, c.lt, c.same)))

hi_before : (g : ℚ) (to : Ext) (t s : ℚ) → Fin s <ₑ to → g <ℚ t -ℚ s → s <ℚ hi_of g to t
unfolding hi_of
hi_before g Inf t s b h = with3 g t s (λ c. omega (arith, c.le, c.lt, c.same))
hi_before g (Fin e) t s b h = below_min_in e (t -ℚ g) s b (with3 g t s (λ c. omega (arith, c.le, c.lt, c.same)))

-- there is room between
room : (f : ℚ) (to : Ext) (g : ℚ) (end : Ext) (t : ℚ) → Fin f <ₑ to → Fin g <ₑ end → f +ℚ g <ℚ t → Fin t <ₑ to +ₑ end
    → lo_of f end t <ℚ hi_of g to t
unfolding lo_of hi_of
room f Inf g Inf t p q h k = with3 f g t (λ c. omega (arith, c.le, c.lt, c.same))
room f (Fin e) g Inf t p q h k = below_min_in e (t -ℚ g) f p (with3 f g t (λ c. omega (arith, c.le, c.lt, c.same)))
room f Inf g (Fin d) t p q h k =
    max_q_lt f (t -ℚ d) (t -ℚ g) (with3 f g t (λ c. omega (arith, c.le, c.lt, c.same))) (with3 d g t (λ c. omega (arith, c.le, c.lt, c.same)))
room f (Fin e) g (Fin d) t p q h k =
    below_min_in e (t -ℚ g) (max_q f (t -ℚ d))
    (max_q_lt f (t -ℚ d) e p (with3 d e t (λ c. omega (arith, c.le, c.lt, c.same))))
    (max_q_lt f (t -ℚ d) (t -ℚ g) (with3 f g t (λ c. omega (arith, c.le, c.lt, c.same))) (with3 d g t (λ c. omega (arith, c.le, c.lt, c.same))))

-- a time that has a split is past the sum of the starts and before that of the ends
pub split_past : (f : ℚ) (to : Ext) (l : Line) (g : ℚ) (end : Ext) (m : Line) (t : ℚ) → PairSplit (Open f to l) (Open g end m) t → f +ℚ g <ℚ t
split_past f to l g end m t s =
    let x = s.first in
    let y = s.second in
    let p = s.first_in.past in
    let q = s.second_in.past in
    let e = s.whole in
    with5 f g t x y (λ c. omega (arith, c.le, c.lt, c.same))

pub split_before : (f : ℚ) (to : Ext) (l : Line) (g : ℚ) (end : Ext) (m : Line) (t : ℚ) → PairSplit (Open f to l) (Open g end m) t → Fin t <ₑ to +ₑ end
split_before f to l g end m t s = go to end s.first s.second s.first_in.before s.second_in.before s.whole
  where
    go : (to end : Ext) (x y : ℚ) → Fin x <ₑ to → Fin y <ₑ end → x +ℚ y ≡ t → Fin t <ₑ to +ₑ end
    go Inf end x y p q e = tt
    go (Fin a) Inf x y p q e = tt
    go (Fin a) (Fin b) x y p q e = with5 a b t x y (λ c. omega (arith, c.le, c.lt, c.same))

-- ---- the infimum over the splits into times of two segments, the first of smaller slope: the first is gone as far as it goes
-- the sum at a split, as a line in the first's time
sum_line : (l m : Line) (t s : ℚ) → (l.icept +ℚ m.icept +ℚ m.slope *ℚ t) +ℚ (l.slope -ℚ m.slope) *ℚ s ≡ line_at l s +ℚ line_at m (t -ℚ s)
sum_line l m t s =
    plain l.icept m.icept (m.slope *ℚ t) (l.slope *ℚ s) (m.slope *ℚ s) ((l.slope -ℚ m.slope) *ℚ s) (m.slope *ℚ (t -ℚ s)) (sub_mul l.slope m.slope s) (mul_sub m.slope t s)
  where
    plain : (i k mt ls ms d u : ℚ) → d ≡ ls -ℚ ms → u ≡ mt -ℚ ms → (i +ℚ k +ℚ mt) +ℚ d ≡ (i +ℚ ls) +ℚ (k +ℚ u)
    plain i k mt ls ms d u p q = with7 i k mt ls ms d u (λ c. omega (arith, c.le, c.lt, c.same))

pub segment_infimum : (f : ℚ) (to : Ext) (l : Line) (g : ℚ) (end : Ext) (m : Line) (t : ℚ) → Fin f <ₑ to → Fin g <ₑ end → l.slope ≤ℚ m.slope
    → f +ℚ g <ℚ t → Fin t <ₑ to +ₑ end
    → IsInfimum (pair_sum (Open f to l) (Open g end m) t) (Fin (line_at l (hi_of g to t) +ℚ line_at m (t -ℚ hi_of g to t)))
segment_infimum f to l g end m t p q h past early =
    let lo = lo_of f end t in
    let hi = hi_of g to t in
    let a = l.icept +ℚ m.icept +ℚ m.slope *ℚ t in
    let r = l.slope -ℚ m.slope in
    let falls : r ≤ℚ int (pos 0) = falling l.slope m.slope h in
    subst (λ z. IsInfimum (pair_sum (Open f to l) (Open g end m) t) (Fin z)) (sum_line l m t hi)
    (same_infimum {I = Between lo hi} {J = PairSplit (Open f to l) (Open g end m) t} (λ s. Fin (a +ℚ r *ℚ s.at)) (pair_sum (Open f to l) (Open g end m) t) (Fin (a +ℚ r *ℚ hi))
    (λ s. (split s, same_le_ext (ap Fin (sym (sum_line l m t s.at)))))
    (λ s. (time s, same_le_ext (ap Fin (sum_line l m t s.first ∙ ap (λ u. line_at l s.first +ℚ line_at m u) (rest s.first s.second s.whole)))))
    (falling_infimum lo hi a r (room f to g end t p q past early) falls))
  where
    falling : (x y : ℚ) → x ≤ℚ y → x -ℚ y ≤ℚ int (pos 0)
    falling x y h = with2 x y (λ c. omega (arith, c.le, c.lt, c.same))

    rest : (x y : ℚ) → x +ℚ y ≡ t → t -ℚ x ≡ y
    rest x y e = with3 t x y (λ c. omega (arith, c.le, c.lt, c.same))

    split : Between (lo_of f end t) (hi_of g to t) → PairSplit (Open f to l) (Open g end m) t
    split s =
        let x = s.at in
        let u = past_lo f end t x s.above in
        let v = before_hi g to t x s.below in
        record {
          first = x;
          second = t -ℚ x;
          first_in = record { past = u.0; before = v.0 };
          second_in = record { past = v.1; before = u.1 };
          whole = with2 t x (λ c. omega (arith, c.le, c.lt, c.same));
        }

    time : PairSplit (Open f to l) (Open g end m) t → Between (lo_of f end t) (hi_of g to t)
    time s =
        let e = rest s.first s.second s.whole in
        record {
          at = s.first;
          above = lo_past f end t s.first s.first_in.past (subst (λ z. Fin z <ₑ end) (sym e) s.second_in.before);
          below = hi_before g to t s.first s.first_in.before (subst (λ z. g <ℚ z) (sym e) s.second_in.past);
        }

-- ---- how far the first goes
-- to what the second's start leaves, where that is before its end
pub hi_short : (g : ℚ) (to : Ext) (t : ℚ) → Fin (t -ℚ g) <ₑ to → hi_of g to t ≡ t -ℚ g
unfolding hi_of
hi_short g Inf t h = refl
hi_short g (Fin e) t h = min_q_is_right e (t -ℚ g) (with3 e t g (λ c. omega (arith, c.le, c.lt, c.same)))

-- to its end, where that is before
pub hi_full : (g e t : ℚ) → e +ℚ g ≤ℚ t → hi_of g (Fin e) t ≡ e
unfolding hi_of
hi_full g e t h = min_q_left e (t -ℚ g) (with3 e t g (λ c. omega (arith, c.le, c.lt, c.same)))

-- ---- lines
-- a line n of l's slope that has l's value at x and c more at x + y is l, y later and c higher
pub moved_line : (l n : Line) (x y c t : ℚ) → n.slope ≡ l.slope → line_at n (x +ℚ y) ≡ line_at l x +ℚ c → line_at n t ≡ line_at l (t -ℚ y) +ℚ c
moved_line l n x y c t e h =
    let f : n.slope *ℚ t ≡ l.slope *ℚ t = ap (λ r. r *ℚ t) e in
    let g : n.slope *ℚ (x +ℚ y) ≡ l.slope *ℚ x +ℚ l.slope *ℚ y = ap (λ r. r *ℚ (x +ℚ y)) e ∙ mul_add l.slope x y in
    plain n.icept l.icept (n.slope *ℚ t) (l.slope *ℚ t) (n.slope *ℚ (x +ℚ y)) (l.slope *ℚ x) (l.slope *ℚ y) (l.slope *ℚ (t -ℚ y)) f g h (mul_sub l.slope t y)
  where
    plain : (k i nt lt nxy lx ly lty : ℚ) → nt ≡ lt → nxy ≡ lx +ℚ ly → k +ℚ nxy ≡ (i +ℚ lx) +ℚ c → lty ≡ lt -ℚ ly → k +ℚ nt ≡ (i +ℚ lty) +ℚ c
    plain k i nt lt nxy lx ly lty f g h m = with_atoms (k ∷ i ∷ nt ∷ lt ∷ nxy ∷ lx ∷ ly ∷ lty ∷ c ∷ []) (λ o. omega (arith, o.le, o.lt, o.same))

-- lines of one slope have one sum wherever t is split
pub parallel_sum : (l m : Line) (t x y : ℚ) → l.slope ≡ m.slope → line_at l x +ℚ line_at m (t -ℚ x) ≡ line_at l y +ℚ line_at m (t -ℚ y)
parallel_sum l m t x y e =
    sym (sum_line l m t x) ∙ ap (λ z. (l.icept +ℚ m.icept +ℚ m.slope *ℚ t) +ℚ z) (level_at x ∙ sym (level_at y)) ∙ sum_line l m t y
  where
    level_at : (z : ℚ) → (l.slope -ℚ m.slope) *ℚ z ≡ int (pos 0)
    level_at z =
        let p = sub_mul l.slope m.slope z in
        let q : l.slope *ℚ z ≡ m.slope *ℚ z = ap (λ r. r *ℚ z) e in
        with3 ((l.slope -ℚ m.slope) *ℚ z) (l.slope *ℚ z) (m.slope *ℚ z) (λ c. omega (arith, c.le, c.lt, c.same))
