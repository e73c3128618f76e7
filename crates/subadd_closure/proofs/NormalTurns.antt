-- The closures that rise and fall by their numbers are in normal form.
use Rattle.std.specs.Prelude.{◌≡◌, ◌≢◌, ℕ, zero, suc, ◌≤◌, pos, [], ◌∷◌, Some}
use Rattle.std.proofs.Common.{arith, sym, refl, ap, ◌∙◌, subst, inl, inr}
use Rattle.rational.specs.Rational.{ℚ, ◌+ℚ◌, ◌*ℚ◌, ◌≤ℚ◌, ◌<ℚ◌, int}
use Rattle.rational.specs.Extended.{Ext, ◌+ₑ◌}
use Rattle.rational.specs.declared.Extended.TheVariants.{Fin, Inf}
use Rattle.rational.proofs.Linear.{with1, with2, with3, with4}
use Rattle.rational.proofs.Laws.{le_trans, le_lt_trans, lt_irrefl, le_refl, le_of_lt, antisym, not_zero, mul_le_mul_right, mul_lt_mul, mul_nonneg}
use Rattle.rational.proofs.Integers.{nat_lt, nat_le, nat_nonneg}
use Rattle.rational.proofs.Whole.{one_more_times}
use Rattle.rational.proofs.Bounds.{infimum_unique}
use Rattle.rational.proofs.ExtendedOrder.{finite_below}
use Rattle.upp_curve.specs.declared.affine_segment.line.Line.{Line}
use Rattle.upp_curve.specs.affine_segment.Values.{line_at}
use Rattle.upp_curve.specs.declared.curve.Tail.TheVariants.{Periodic}
use Rattle.min_plus.specs.Functions.{zero_q}
use Rattle.upp_curve.specs.Curve.{SpecCurve, value_at}
use Rattle.upp_curve.specs.Steady.{Repeats}
use Rattle.upp_curve.specs.affine_segment.Pieces.{Each}
use Rattle.upp_curve.specs.Normal.{IsNormal}
use Rattle.upp_curve.proofs.Normal.{periodic_rule}
use Rattle.subadd_closure.specs.ElementClosures.{Turn, IsSegmentClosure}
use Rattle.subadd_closure.specs.ElementCurves.{turn, line_times, all_stretches, rising_closure, falling_closure}
use Rattle.subadd_closure.proofs.TurnNumbers.{turn_in, more}
use Rattle.subadd_closure.proofs.StretchReads.{IsLate, first_late, none_at_start}
use Rattle.subadd_closure.proofs.ClosureValues.{rising_values, falling_values, least_at, greatest_at}
use Rattle.subadd_closure.proofs.NormalClosures.{HasTurningTail, no_share, not_one, all_each, all_start, all_has, all_unmerged, rest_start}
use Rattle.min_plus.specs.closure_laws.Star.{nat_times}

-- infinity at y and a number a period later: no rule from a time up to y
no_lower : (f : ℚ → Ext) (x y d c q : ℚ) → x ≤ℚ y → f y ≡ Inf → f (y +ℚ d) ≡ Fin q → ¬ (Repeats f x d c)
no_lower f x y d c q h e g r = never (sym g ∙ r.rule y h ∙ ap (λ z. z +ₑ Fin c) e)
  where
    never : Fin q ≡ Inf → ⊥
    never e = cc

-- ---- what both tails share
module _ (a b : ℚ) (l : Line) (m : ℕ) (low : zero_q ≤ℚ a) (proper : a <ℚ b)
    (apart : (i : ℕ) → 1 ≤ i → suc i ≤ suc m → nat_times i b ≤ℚ nat_times (suc i) a)
    (joined : (i : ℕ) → suc m ≤ i → nat_times (suc i) a <ℚ nat_times i b) where
  some_end : zero_q <ℚ b
  some_end = le_lt_trans low proper

  late_last : (k : ℕ) → k ≡ m → IsLate a (Fin b) (suc k)
  late_last zero e = first_late a (Fin b)
  late_last (suc j) e = λ t h u. more a (Fin b) t (suc j) (le_of_lt some_end) (le_trans (apart (suc j) (omega arith) (omega arith)) h) u

  -- a value that both the curve and a known closure have
  same_closure : (t : ℚ) (v w : Ext) → IsSegmentClosure a (Fin b) l t v → IsSegmentClosure a (Fin b) l t w → v ≡ w
  same_closure t v w h k = infimum_unique (λ (u : Turn a (Fin b) t). Fin (nat_times (suc u.less_one) l.icept +ℚ l.slope *ℚ t)) v w h k

  none_at_last : IsSegmentClosure a (Fin b) l (nat_times (suc m) a) Inf
  none_at_last = none_at_start a (Fin b) l (suc m) (nat_times (suc m) a) low (late_last m refl) (le_refl (nat_times (suc m) a)) (le_refl (nat_times (suc m) a))

  -- where there is a turn the closure is a number
  some_value : (t : ℚ) (v : Ext) (n : ℕ) → IsSegmentClosure a (Fin b) l t v → nat_times (suc n) a <ℚ t → t <ℚ nat_times (suc n) b
      → (q : ℚ) × (v ≡ Fin q)
  some_value t v n h p q =
      finite_below v (nat_times (suc n) l.icept +ℚ l.slope *ℚ t) (h.below (turn_in a (Fin b) t n p q))

  -- all starts before the rank are up to that of the last stretch
  least_rank : (f : ℚ → Ext) (R d c q v : ℚ) (n N : ℕ) → f (nat_times (suc m) a) ≡ Inf → f (nat_times (suc m) a +ℚ d) ≡ Fin q
      → Each (λ p. p.x <ℚ R → ¬ (Repeats f p.x d c)) (all_stretches a b l m (turn R l n N ∷ []))
  least_rank f R d c q v n N e g =
      let y = nat_times (suc m) a in
      all_each a b l low proper (λ p. p.x <ℚ R → ¬ (Repeats f p.x d c)) (turn R l n N ∷ []) m
      (λ k. no_lower f zero_q y d c q (mul_nonneg (nat_nonneg (suc m)) low) e g)
      (λ i x z k. no_lower f (nat_times i a) y d c q (mul_le_mul_right a low (nat_le i (suc m) z)) e g)
      (λ i x z k. no_lower f (nat_times i b) y d c q (le_trans (apart i x z) (mul_le_mul_right a low (nat_le (suc i) (suc m) z))) e g)
      ((λ k. absurd (lt_irrefl R k)), tt)

  -- one more line is another line
  lines_differ : (n : ℕ) → l.icept ≢ zero_q → Some (line_times (suc n) l) ≡ Some (line_times n l) → ⊥
  lines_differ n k e =
      let same : nat_times (suc n) l.icept ≡ nat_times n l.icept = ap (λ (x : Line). x.icept) (some_same (line_times (suc n) l) (line_times n l) e) in
      let next = one_more_times n l.icept in
      k (none (nat_times n l.icept) (nat_times (suc n) l.icept) l.icept same next)
    where
      some_same : (x y : Line) → Some x ≡ Some y → x ≡ y
      some_same x y e = cc

      none : (x y k : ℚ) → y ≡ x → y ≡ x +ℚ k → k ≡ zero_q
      none x y k e f = antisym (with3 x y k (λ c. omega (arith, c.le, c.lt, c.same)))

  abbrev pub turned : ℚ → ℚ → ℕ → SpecCurve
  turned R d n = record { pieces = all_stretches a b l m (turn R l n (suc (suc m)) ∷ []); tail = Periodic R d (line_at l d) }

  -- a curve of the stretches that turns at R is in normal form
  turned_normal : (R d s : ℚ) (n : ℕ) → nat_times (suc m) a <ℚ R → zero_q <ℚ d → l.icept ≢ zero_q
      → Each (λ p. p.x <ℚ R +ℚ d) (all_stretches a b l m (turn R l n (suc (suc m)) ∷ []))
      → HasTurningTail (value_at (turned R d n)) R d (nat_times (suc (suc m)) l.icept) l.icept l.slope s
      → value_at (turned R d n) (nat_times (suc m) a) ≡ Inf → (q : ℚ) → value_at (turned R d n) (nat_times (suc m) a +ℚ d) ≡ Fin q
      → IsNormal (turned R d n)
  turned_normal R d s n past some lines early T none q number =
      let f = value_at (turned R d n) in
      record {
        raw = record {
          starts = all_start a b l low proper (turn R l n (suc (suc m)) ∷ []) m apart (past, tt);
          tail = record { nonneg = le_trans (mul_nonneg (nat_nonneg (suc m)) low) (le_of_lt past); some = some; starts = early };
        };
        rank_is_start = all_has a b l low proper R (turn R l n (suc (suc m)) ∷ []) m (inr (rest_start a b l low proper (turn R l n (suc (suc m)) ∷ []) R 0 m (inl refl)));
        no_merge = all_unmerged a b l low proper (turn R l n (suc (suc m)) ∷ []) m ((λ k. lines_differ (suc m) lines k.1), tt);
        tail = record {
          least_period = λ i two h. no_share f R d (nat_times (suc (suc m)) l.icept) l.icept l.slope s T i two h;
          least_rank = least_rank f R d (line_at l d) q q n (suc (suc m)) none number;
          not_one_line = not_one f R d (nat_times (suc (suc m)) l.icept) l.icept l.slope s T;
        };
      }

  before_end : (R d : ℚ) (n : ℕ) → nat_times (suc m) a <ℚ R → zero_q <ℚ d
      → Each (λ p. p.x <ℚ R +ℚ d) (all_stretches a b l m (turn R l n (suc (suc m)) ∷ []))
  before_end R d n past some =
      let y = nat_times (suc m) a in
      let base : zero_q ≤ℚ y = mul_nonneg (nat_nonneg (suc m)) low in
      let below : (x : ℚ) → x ≤ℚ y → x <ℚ R +ℚ d = λ x h. with4 x y R d (λ c. omega (arith, c.le, c.lt, c.same)) in
      all_each a b l low proper (λ p. p.x <ℚ R +ℚ d) (turn R l n (suc (suc m)) ∷ []) m
      (below zero_q base)
      (λ i x z. below (nat_times i a) (mul_le_mul_right a low (nat_le i (suc m) z)))
      (λ i x z. below (nat_times i b) (le_trans (apart i x z) (mul_le_mul_right a low (nat_le (suc i) (suc m) z))))
      (with2 R d (λ c. omega (arith, c.le, c.lt, c.same)), tt)

  pub rising_normal : zero_q <ℚ l.icept → IsNormal (rising_closure a b l m)
  rising_normal up =
      let c = rising_closure a b l m in
      let f = value_at c in
      let R = nat_times (suc m) b in
      let N = suc (suc m) in
      let y = nat_times (suc m) a in
      let end = one_more_times (suc m) b in
      let next = one_more_times (suc m) a in
      let reach = joined (suc m) (omega arith) in
      let nonneg : zero_q ≤ℚ R = mul_nonneg (nat_nonneg (suc m)) (le_of_lt some_end) in
      let base : zero_q ≤ℚ y = mul_nonneg (nat_nonneg (suc m)) low in
      let values = rising_values a b l m low proper apart joined (le_of_lt up) in
      let line_from : (t : ℚ) → R ≤ℚ t → t <ℚ R +ℚ b → f t ≡ Fin (line_at (line_times N l) t) =
      λ t h k. same_closure t (f t) (Fin (line_at (line_times N l) t)) (values t (le_trans nonneg h))
      (least_at a b l m low proper apart joined (le_of_lt up) (suc m) t (omega arith) h (subst (λ z. t <ℚ z) (sym end) k)) in
      let past : y <ℚ R = mul_lt_mul (int (pos (suc m))) (nat_lt 0 (suc m) (omega arith)) proper in
      let P = proper in
      let B = some_end in
      let over : nat_times N a <ℚ y +ℚ b = with4 y a b (nat_times N a) (λ c. omega (arith, c.le, c.lt, c.same)) in
      let under : y +ℚ b <ℚ nat_times N b = with4 y b R (nat_times N b) (λ c. omega (arith, c.le, c.lt, c.same)) in
      let later : zero_q ≤ℚ y +ℚ b = with2 y b (λ c. omega (arith, c.le, c.lt, c.same)) in
      let (q, number) = some_value (y +ℚ b) (f (y +ℚ b)) (suc m) (values (y +ℚ b) later) over under in
      let T : HasTurningTail f R b (nat_times N l.icept) l.icept l.slope zero_q = record {
        some = some_end;
        lines = not_zero l.icept up;
        below = inl refl;
        rank = line_at (line_times N l) R;
        rank_is = line_from R (le_refl R) (with2 R b (λ c. omega (arith, c.le, c.lt, c.same)));
        rank_line = add_zero (line_at (line_times N l) R);
        after = λ t h k. line_from t (le_of_lt h) k;
        rule = periodic_rule (all_stretches a b l m (turn R l N N ∷ [])) R b (line_at l b) some_end;
      } in
      turned_normal R b zero_q N past some_end (not_zero l.icept up) (before_end R b N past some_end) T
      (same_closure y (f y) Inf (values y base) none_at_last) q number
    where
      add_zero : (x : ℚ) → x +ℚ zero_q ≡ x
      add_zero x = antisym (with1 x (λ c. omega (arith, c.le, c.lt, c.same)))

  pub falling_normal : zero_q <ℚ a → l.icept <ℚ zero_q → IsNormal (falling_closure a b l m)
  falling_normal some down =
      let c = falling_closure a b l m in
      let f = value_at c in
      let N = suc (suc m) in
      let R = nat_times N a in
      let y = nat_times (suc m) a in
      let next = one_more_times (suc m) a in
      let after_that = one_more_times N a in
      let more_lines = one_more_times (suc m) l.icept in
      let reach = joined (suc m) (omega arith) in
      let S = some in
      let nonneg : zero_q ≤ℚ R = mul_nonneg (nat_nonneg N) low in
      let base : zero_q ≤ℚ y = mul_nonneg (nat_nonneg (suc m)) low in
      let values = falling_values a b l m low proper apart joined some (le_of_lt down) in
      let past : y <ℚ R = with3 y a R (λ c. omega (arith, c.le, c.lt, c.same)) in
      let at_rank : f R ≡ Fin (line_at (line_times (suc m) l) R) =
      same_closure R (f R) (Fin (line_at (line_times (suc m) l) R)) (values R nonneg)
      (greatest_at a b l m low proper apart joined (le_of_lt down) m R (omega arith) past (le_refl R)) in
      let line_after : (t : ℚ) → R <ℚ t → t <ℚ R +ℚ a → f t ≡ Fin (line_at (line_times N l) t) =
      λ t h k. same_closure t (f t) (Fin (line_at (line_times N l) t)) (values t (le_trans nonneg (le_of_lt h)))
      (greatest_at a b l m low proper apart joined (le_of_lt down) (suc m) t (omega arith) h (le_of_lt (subst (λ z. t <ℚ z) (sym after_that) k))) in
      let same : y +ℚ a ≡ R = sym next in
      let number : f (y +ℚ a) ≡ Fin (line_at (line_times (suc m) l) R) = ap f same ∙ at_rank in
      let T : HasTurningTail f R a (nat_times N l.icept) l.icept l.slope l.icept = record {
        some = some;
        lines = λ e. lt_irrefl zero_q (subst (λ z. z <ℚ zero_q) e down);
        below = inr refl;
        rank = line_at (line_times (suc m) l) R;
        rank_is = at_rank;
        rank_line = added (nat_times (suc m) l.icept) (nat_times N l.icept) l.icept (l.slope *ℚ R) more_lines;
        after = line_after;
        rule = periodic_rule (all_stretches a b l m (turn R l (suc m) N ∷ [])) R a (line_at l a) some;
      } in
      turned_normal R a l.icept (suc m) past some T.lines (before_end R a (suc m) past some) T
      (same_closure y (f y) Inf (values y base) none_at_last) (line_at (line_times (suc m) l) R) number
    where
      added : (x y k z : ℚ) → y ≡ x +ℚ k → (x +ℚ z) +ℚ k ≡ y +ℚ z
      added x y k z e = antisym (with4 x y k z (λ c. omega (arith, c.le, c.lt, c.same)))
