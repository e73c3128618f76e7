-- The curves of a segment's closure are in normal form.
use Rattle.std.specs.Prelude.{◌≡◌, ◌≢◌, ℕ, zero, suc, ◌+◌, ◌≤◌, pos, List, [], ◌∷◌, Option, Some, None, ◌⊎◌}
use Rattle.std.proofs.Common.{arith, sym, refl, ap, ◌∙◌, subst, inl, inr}
use Rattle.rational.specs.Rational.{ℚ, ◌+ℚ◌, ◌*ℚ◌, ◌/ℚ◌, ◌≤ℚ◌, ◌<ℚ◌, int}
use Rattle.rational.specs.Extended.{Ext, ◌+ₑ◌}
use Rattle.rational.specs.declared.Extended.TheVariants.{Fin, Inf}
use Rattle.rational.proofs.Linear.{with2, with3, with4, with6, with7}
use Rattle.rational.proofs.Laws.{le_trans, lt_le_trans, lt_irrefl, lt_trans, le_refl, le_of_lt, le_or_lt, antisym, between, add_mul, mul_add, mul_comm, mul_assoc, mul_one, one_mul, zero_mul, div_mul, mul_lt_mul, mul_le_mul_right, not_zero, mul_cancel, lt_of_mul, mul_nonneg}
use Rattle.rational.proofs.Integers.{nat_lt, nat_le, nat_nonneg}
use Rattle.rational.proofs.ExtendedOrder.{fin_same}
use Rattle.upp_curve.specs.declared.affine_segment.line.Line.{Line}
use Rattle.upp_curve.specs.declared.affine_segment.line.Piece.{Piece}
use Rattle.upp_curve.specs.affine_segment.Values.{line_at, line_value}
use Rattle.min_plus.specs.Functions.{zero_q}
use Rattle.upp_curve.specs.Steady.{Repeats, last_line}
use Rattle.upp_curve.specs.affine_segment.Pieces.{Each, HasStart, RisesFrom, StartsAtZero}
use Rattle.upp_curve.specs.Normal.{Continues, NoneContinues, NoMerge, IsNormal}
use Rattle.upp_curve.proofs.Unique.{lines_at_two}
use Rattle.subadd_closure.specs.ElementCurves.{stretch, line_times, stretches, all_stretches, level_closure}
use Rattle.subadd_closure.proofs.PieceReads.{gap_kept, gap_left, late_start, early_start}
use Rattle.upp_curve.specs.affine_segment.Reading.{nothing_at}
use Rattle.min_plus.specs.closure_laws.Star.{nat_times}

-- ---- the list
-- where the stretches lie: they end before the next begins, or just there
module _ (a b : ℚ) (l : Line) (low : zero_q ≤ℚ a) (proper : a <ℚ b) where
  further : (n : ℕ) → nat_times (suc n) a <ℚ nat_times (suc n) b
  further n = mul_lt_mul (int (pos (suc n))) (nat_lt 0 (suc n) (omega arith)) proper

  abbrev pub Apart : ℕ → ℕ → Type 0
  Apart n k = (i : ℕ) → n ≤ i → suc i ≤ k → nat_times i b ≤ℚ nat_times (suc i) a

  -- what holds of the stretches, of the gaps between them and of the rest holds of each
  each_stretch : (P : Piece → Type 0) (rest : List Piece) (n m k : ℕ) → suc n + m ≡ k
      → ((i : ℕ) → suc n ≤ i → i ≤ k → P (stretch a l i))
      → ((i : ℕ) → suc n ≤ i → suc i ≤ k → P (nothing_at (nat_times i b))) → Each P rest
      → Each P (stretch a l (suc n) ∷ stretches a b l (suc n) m rest)
  unfolding stretches
  each_stretch P rest n zero k e opens shut last = (opens (suc n) (omega arith) (omega arith), last)
  each_stretch P rest n (suc m) k e opens shut last =
      let more = each_stretch P rest (suc n) m k (omega arith) (λ i p q. opens i (omega arith) q) (λ i p q. shut i (omega arith) q) last in
      let x = nat_times (suc n) b in
      let y = nat_times (suc (suc n)) a in
      let ps = stretch a l (suc (suc n)) ∷ stretches a b l (suc (suc n)) m rest in (
        opens (suc n) (omega arith) (omega arith),
        elim (le_or_lt y x) [
          | inl none ↦ subst (Each P) (sym (gap_left x y ps none)) more
          | inr some ↦ subst (Each P) (sym (gap_kept x y ps some)) (shut (suc n) (omega arith) (omega arith), more)
        ],
      )

  rising : (rest : List Piece) (n m k : ℕ) → suc n + m ≡ k → Apart (suc n) k → RisesFrom (nat_times k a) rest
      → RisesFrom (nat_times (suc n) a) (stretches a b l (suc n) m rest)
  unfolding stretches
  rising rest n zero k e apart last =
      let same : k ≡ suc n = omega arith in
      subst (λ z. RisesFrom (nat_times z a) rest) same last
  rising rest n (suc m) k e apart last =
      let more = rising rest (suc n) m k (omega arith) (λ i p q. apart i (omega arith) q) last in
      let x = nat_times (suc n) b in
      let y = nat_times (suc (suc n)) a in
      let ps = stretch a l (suc (suc n)) ∷ stretches a b l (suc (suc n)) m rest in
      let reach = further n in
      let meet = apart (suc n) (omega arith) (omega arith) in
      elim (le_or_lt y x) [
        | inl none ↦ subst (RisesFrom (nat_times (suc n) a)) (sym (gap_left x y ps none)) (lt_le_trans reach meet, more)
        | inr some ↦ subst (RisesFrom (nat_times (suc n) a)) (sym (gap_kept x y ps some)) (reach, (some, more))
      ]

  last_start : (rest : List Piece) (n m k : ℕ) → suc n + m ≡ k → HasStart (nat_times k a) (stretch a l (suc n) ∷ stretches a b l (suc n) m rest)
  unfolding stretches
  last_start rest n zero k e = let same : suc n ≡ k = omega arith in inl (ap (λ z. nat_times z a) same)
  last_start rest n (suc m) k e =
      let more = last_start rest (suc n) m k (omega arith) in
      let x = nat_times (suc n) b in
      let y = nat_times (suc (suc n)) a in
      let ps = stretch a l (suc (suc n)) ∷ stretches a b l (suc (suc n)) m rest in
      elim (le_or_lt y x) [
        | inl none ↦ inr (subst (HasStart (nat_times k a)) (sym (gap_left x y ps none)) more)
        | inr some ↦ inr (subst (HasStart (nat_times k a)) (sym (gap_kept x y ps some)) (inr more))
      ]

  pub rest_start : (rest : List Piece) (z : ℚ) (n m : ℕ) → HasStart z rest → HasStart z (stretches a b l (suc n) m rest)
  unfolding stretches
  rest_start rest z n zero h = h
  rest_start rest z n (suc m) h =
      let more = rest_start rest z (suc n) m h in
      let x = nat_times (suc n) b in
      let y = nat_times (suc (suc n)) a in
      let ps = stretch a l (suc (suc n)) ∷ stretches a b l (suc (suc n)) m rest in
      elim (le_or_lt y x) [
        | inl none ↦ subst (HasStart z) (sym (gap_left x y ps none)) (inr more)
        | inr some ↦ subst (HasStart z) (sym (gap_kept x y ps some)) (inr (inr more))
      ]

  no_line : (p q : Piece) → p.line ≡ None → q.line ≢ None → ¬ (Continues p q)
  no_line p q e h c = h (c.1 ∙ e)

  no_value : (p q : Piece) (m : Line) → p.line ≡ Some m → q.at ≡ Inf → ¬ (Continues p q)
  no_value p q m e h c = never (line_at m q.x) (sym h ∙ c.0 ∙ ap (λ z. line_value z q.x) e)
    where
      never : (x : ℚ) → Inf ≡ Fin x → ⊥
      never x e = cc

  unmerged : (rest : List Piece) (n m k : ℕ) → suc n + m ≡ k → NoneContinues (stretch a l k) rest
      → NoneContinues (stretch a l (suc n)) (stretches a b l (suc n) m rest)
  unfolding stretches
  unmerged rest n zero k e last = let same : k ≡ suc n = omega arith in subst (λ z. NoneContinues (stretch a l z) rest) same last
  unmerged rest n (suc m) k e last =
      let more = unmerged rest (suc n) m k (omega arith) last in
      let p = stretch a l (suc n) in
      let q = stretch a l (suc (suc n)) in
      let x = nat_times (suc n) b in
      let y = nat_times (suc (suc n)) a in
      let ps = q ∷ stretches a b l (suc (suc n)) m rest in
      elim (le_or_lt y x) [
        | inl none ↦ subst (NoneContinues p) (sym (gap_left x y ps none)) (no_value p q (line_times (suc n) l) refl refl, more)
        | inr some ↦ subst (NoneContinues p) (sym (gap_kept x y ps some))
            (no_value p (nothing_at x) (line_times (suc n) l) refl refl, (no_line (nothing_at x) q refl (λ e. absurd (is_some e)), more))
      ]
    where
      is_some : {m : Line} → Some m ≡ None → ⊥
      is_some e = cc

  last_open : (n m k : ℕ) → suc n + m ≡ k → last_line (stretch a l (suc n) ∷ stretches a b l (suc n) m []) ≡ Some (line_times k l)
  unfolding stretches
  last_open n zero k e = let same : suc n ≡ k = omega arith in ap (λ z. Some (line_times z l)) same
  last_open n (suc m) k e =
      let more = last_open (suc n) m k (omega arith) in
      let p = stretch a l (suc n) in
      let x = nat_times (suc n) b in
      let y = nat_times (suc (suc n)) a in
      let ps = stretch a l (suc (suc n)) ∷ stretches a b l (suc (suc n)) m [] in
      elim (le_or_lt y x) [
        | inl none ↦ ap (λ z. last_line (p ∷ z)) (gap_left x y ps none) ∙ more
        | inr some ↦ ap (λ z. last_line (p ∷ z)) (gap_kept x y ps some) ∙ more
      ]

  -- ---- all of them, from 0 on
  pub all_each : (P : Piece → Type 0) (rest : List Piece) (m : ℕ) → P (nothing_at zero_q)
      → ((i : ℕ) → 1 ≤ i → i ≤ suc m → P (stretch a l i))
      → ((i : ℕ) → 1 ≤ i → suc i ≤ suc m → P (nothing_at (nat_times i b))) → Each P rest → Each P (all_stretches a b l m rest)
  all_each P rest m first opens shut last =
      let ps = stretch a l 1 ∷ stretches a b l 1 m rest in
      let more = each_stretch P rest 0 m (suc m) (omega arith) opens shut last in
      elim (le_or_lt a zero_q) [
        | inl none ↦ subst (Each P) (sym (early_start a ps none)) more
        | inr some ↦ subst (Each P) (sym (late_start a ps some)) (first, more)
      ]

  pub all_start : (rest : List Piece) (m : ℕ) → Apart 1 (suc m) → RisesFrom (nat_times (suc m) a) rest
      → StartsAtZero (all_stretches a b l m rest)
  all_start rest m apart last =
      let ps = stretch a l 1 ∷ stretches a b l 1 m rest in
      let more = rising rest 0 m (suc m) (omega arith) apart last in
      elim (le_or_lt a zero_q) [
        | inl none ↦ subst StartsAtZero (sym (early_start a ps none)) (one_mul a ∙ antisym (none, low), more)
        | inr some ↦ subst StartsAtZero (sym (late_start a ps some)) (refl, (subst (λ z. zero_q <ℚ z) (sym (one_mul a)) some, more))
      ]

  pub all_has : (z : ℚ) (rest : List Piece) (m : ℕ) → HasStart z (stretch a l 1 ∷ stretches a b l 1 m rest) → HasStart z (all_stretches a b l m rest)
  all_has z rest m h =
      let ps = stretch a l 1 ∷ stretches a b l 1 m rest in
      elim (le_or_lt a zero_q) [
        | inl none ↦ subst (HasStart z) (sym (early_start a ps none)) h
        | inr some ↦ subst (HasStart z) (sym (late_start a ps some)) (inr h)
      ]

  pub all_unmerged : (rest : List Piece) (m : ℕ) → NoneContinues (stretch a l (suc m)) rest → NoMerge (all_stretches a b l m rest)
  all_unmerged rest m last =
      let p = stretch a l 1 in
      let ps = p ∷ stretches a b l 1 m rest in
      let more = unmerged rest 0 m (suc m) (omega arith) last in
      elim (le_or_lt a zero_q) [
        | inl none ↦ subst NoMerge (sym (early_start a ps none)) more
        | inr some ↦ subst NoMerge (sym (late_start a ps some)) (no_line (nothing_at zero_q) p refl (λ e. absurd (is_some e)), more)
      ]
    where
      is_some : {m : Line} → Some m ≡ None → ⊥
      is_some e = cc

  pub all_last : (m : ℕ) → last_line (all_stretches a b l m []) ≡ Some (line_times (suc m) l)
  all_last m =
      let ps = stretch a l 1 ∷ stretches a b l 1 m [] in
      let more = last_open 0 m (suc m) (omega arith) in
      elim (le_or_lt a zero_q) [
        | inl none ↦ ap last_line (early_start a ps none) ∙ more
        | inr some ↦ ap last_line (late_start a ps some) ∙ more
      ]

  -- ---- one line from the last stretch on
  pub level_normal : (m : ℕ) → Apart 1 (suc m) → IsNormal (level_closure a b l m)
  level_normal m apart = record {
    raw = record {
      starts = all_start [] m apart tt;
      tail = record {
        nonneg = mul_nonneg (nat_nonneg (suc m)) low;
        starts = all_each (λ p. p.x ≤ℚ nat_times (suc m) a) [] m (mul_nonneg (nat_nonneg (suc m)) low)
            (λ i p q. mul_le_mul_right a low (nat_le i (suc m) q))
            (λ i p q. le_trans (apart i p q) (mul_le_mul_right a low (nat_le (suc i) (suc m) q))) tt;
      };
    };
    rank_is_start = all_has (nat_times (suc m) a) [] m (last_start [] 0 m (suc m) (omega arith));
    no_merge = all_unmerged [] m tt;
    tail = λ e. is_some (sym (all_last m) ∙ e);
  }
    where
      is_some : {m : Line} → Some m ≡ None → ⊥
      is_some e = cc

-- ---- a tail that turns
-- from the rank R on a line with k more each period d, and a rise of k + r d: at R it is s below the line, where s is 0
-- or k
pub record HasTurningTail (f : ℚ → Ext) (R d K k r s : ℚ) : Type 0 where
  pub some : zero_q <ℚ d
  pub lines : k ≢ zero_q
  pub below : (s ≡ zero_q) ⊎ (s ≡ k)
  pub rank : ℚ
  pub rank_is : f R ≡ Fin rank
  pub rank_line : rank +ℚ s ≡ K +ℚ r *ℚ R
  pub after : (t : ℚ) → R <ℚ t → t <ℚ R +ℚ d → f t ≡ Fin (K +ℚ r *ℚ t)
  pub rule : Repeats f R d (k +ℚ r *ℚ d)

-- a share of the period is no period
pub no_share : (f : ℚ → Ext) (R d K k r s : ℚ) → HasTurningTail f R d K k r s → (n : ℕ) → 2 ≤ n
    → ¬ (Repeats f R (d /ℚ int (pos n)) ((k +ℚ r *ℚ d) /ℚ int (pos n)))
no_share f R d K k r s T n two h =
    let M = int (pos n) in
    let some : zero_q <ℚ M = nat_lt 0 n (omega arith) in
    let share = d /ℚ M in
    let rise = (k +ℚ r *ℚ d) /ℚ M in
    let back : share *ℚ M ≡ d = div_mul d M (not_zero M some) in
    let back_rise : rise *ℚ M ≡ k +ℚ r *ℚ d = div_mul (k +ℚ r *ℚ d) M (not_zero M some) in
    let low : zero_q <ℚ share = lt_of_mul M zero_q share some (subst (λ z. zero_q *ℚ M <ℚ z) (sym back) (subst (λ z. z <ℚ d) (sym (zero_mul M)) T.some)) in
    let one : int (pos 1) <ℚ M = nat_lt 1 n (omega arith) in
    let longer : share *ℚ int (pos 1) <ℚ share *ℚ M = mul_lt_mul share low one in
    let high : share <ℚ d = subst (λ z. z <ℚ d) (mul_one share) (subst (λ z. share *ℚ int (pos 1) <ℚ z) back longer) in
    let t = R +ℚ share in
    let value : f t ≡ Fin (K +ℚ r *ℚ t) = T.after t (with2 R share (λ c. omega (arith, c.le, c.lt, c.same))) (with3 R share d (λ c. omega (arith, c.le, c.lt, c.same))) in
    let rule : f t ≡ Fin (T.rank +ℚ rise) = h.rule R (le_refl R) ∙ ap (λ z. z +ₑ Fin rise) T.rank_is in
    let line : K +ℚ r *ℚ t ≡ T.rank +ℚ rise = fin_same (sym value ∙ rule) in
    let over : r *ℚ t ≡ r *ℚ R +ℚ r *ℚ share = mul_add r R share in
    let first = T.rank_line in
    -- s + r share is the rise, so n s is k
    let gap : s +ℚ r *ℚ share ≡ rise = apart s (r *ℚ share) rise K (r *ℚ t) (r *ℚ R) T.rank line over first in
    let times : s *ℚ M +ℚ (r *ℚ share) *ℚ M ≡ k +ℚ r *ℚ d = sym (add_mul s (r *ℚ share) M) ∙ ap (λ z. z *ℚ M) gap ∙ back_rise in
    let same : (r *ℚ share) *ℚ M ≡ r *ℚ d = mul_assoc r share M ∙ ap (λ z. r *ℚ z) back in
    let whole : s *ℚ M ≡ k = left (s *ℚ M) ((r *ℚ share) *ℚ M) k (r *ℚ d) times same in
    elim T.below [
      | inl none ↦ T.lines (sym whole ∙ ap (λ z. z *ℚ M) none ∙ zero_mul M)
      | inr all ↦
          let all_times : k *ℚ M ≡ k *ℚ int (pos 1) = ap (λ z. z *ℚ M) (sym all) ∙ whole ∙ sym (mul_one k) in
          lt_irrefl M (subst (λ z. z <ℚ M) (sym (mul_cancel M (int (pos 1)) k T.lines (mul_comm M k ∙ all_times ∙ mul_comm k (int (pos 1))))) one)
    ]
  where
    apart : (s x y K u v w : ℚ) → K +ℚ u ≡ w +ℚ y → u ≡ v +ℚ x → w +ℚ s ≡ K +ℚ v → s +ℚ x ≡ y
    apart s x y K u v w e f g = antisym (with7 s x y K u v w (λ c. omega (arith, c.le, c.lt, c.same)))

    left : (x y k z : ℚ) → x +ℚ y ≡ k +ℚ z → y ≡ z → x ≡ k
    left x y k z e f = antisym (with4 x y k z (λ c. omega (arith, c.le, c.lt, c.same)))

-- no one line
pub not_one : (f : ℚ → Ext) (R d K k r s : ℚ) → HasTurningTail f R d K k r s → (m : Option Line) → ¬ ((t : ℚ) → R ≤ℚ t → f t ≡ line_value m t)
not_one f R d K k r s T m h =
    let L : Line = record { icept = K; slope = r } in
    let D = T.some in
    let (x, p, q) = between R (R +ℚ d) (with2 R d (λ c. omega (arith, c.le, c.lt, c.same))) in
    let (y, u, v) = between x (R +ℚ d) q in
    let first = sym (h x (le_of_lt p)) ∙ T.after x p q in
    let second = sym (h y (le_of_lt (lt_trans p u))) ∙ T.after y (lt_trans p u) v in
    let is : m ≡ Some L = lines_at_two m (Some L) x y u first second in
    let here : Fin T.rank ≡ Fin (K +ℚ r *ℚ R) = sym T.rank_is ∙ h R (le_refl R) ∙ ap (λ z. line_value z R) is in
    let later : R ≤ℚ R +ℚ d = with2 R d (λ c. omega (arith, c.le, c.lt, c.same)) in
    let end : Fin (T.rank +ℚ (k +ℚ r *ℚ d)) ≡ Fin (K +ℚ r *ℚ (R +ℚ d)) =
    ap (λ z. z +ₑ Fin (k +ℚ r *ℚ d)) (sym T.rank_is) ∙ sym (T.rule.rule R (le_refl R)) ∙ h (R +ℚ d) later ∙ ap (λ z. line_value z (R +ℚ d)) is in
    let over = mul_add r R d in
    T.lines (none T.rank K (r *ℚ R) k (r *ℚ d) (r *ℚ (R +ℚ d)) (fin_same here) (fin_same end) over)
  where
    none : (w K x k y z : ℚ) → w ≡ K +ℚ x → w +ℚ (k +ℚ y) ≡ K +ℚ z → z ≡ x +ℚ y → k ≡ zero_q
    none w K x k y z e f g = antisym (with6 w K x k y z (λ c. omega (arith, c.le, c.lt, c.same)))
