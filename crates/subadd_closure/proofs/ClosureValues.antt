-- The curves of a segment's closure have its values.
use Rattle.std.specs.Prelude.{◌≡◌, ℕ, suc, ◌+◌, ◌≤◌, pos, [], ◌∷◌}
use Rattle.std.proofs.Common.{arith, sym, refl, ap, ◌∙◌, subst, inl, inr}
use Rattle.rational.specs.Rational.{ℚ, ◌+ℚ◌, ◌-ℚ◌, ◌*ℚ◌, ◌≤ℚ◌, ◌<ℚ◌, int}
use Rattle.rational.specs.Whole.{periods}
use Rattle.rational.specs.Extended.{Ext, ◌+ₑ◌}
use Rattle.rational.specs.declared.Extended.TheVariants.{Fin, Inf}
use Rattle.rational.proofs.Linear.{with1, with2, with3, with4, with5, with7, with8}
use Rattle.rational.proofs.Laws.{le_trans, le_lt_trans, lt_le_trans, le_refl, le_of_lt, le_or_lt, antisym, add_mul, mul_add, mul_comm, mul_assoc, mul_nonneg, mul_zero, mul_le_mul_right, one_mul, lt_trans}
use Rattle.rational.proofs.Integers.{int_add, nat_nonneg, nat_le}
use Rattle.rational.proofs.Bounds.{infimum_unique}
use Rattle.rational.proofs.Whole.{one_more_times, periods_low, periods_high}
use Rattle.upp_curve.specs.declared.affine_segment.line.Line.{Line}
use Rattle.upp_curve.specs.affine_segment.Values.{line_at}
use Rattle.min_plus.specs.Functions.{zero_q}
use Rattle.upp_curve.specs.affine_segment.Reading.{read, piece_value, nothing_at}
use Rattle.upp_curve.specs.Curve.{repeated, value_at}
use Rattle.upp_curve.proofs.Repeats.{repeated_first}
use Rattle.subadd_closure.specs.ElementClosures.{Turn, IsSegmentClosure}
use Rattle.subadd_closure.specs.ElementCurves.{stretch, turn, line_times, all_stretches, stretches, from_zero, level_closure, rising_closure, falling_closure}
use Rattle.subadd_closure.proofs.PieceReads.{opening_past, opening_here, early_start, late_start}
use Rattle.subadd_closure.proofs.TurnNumbers.{fewer, more, least_turn, no_turn, least_up, least_down}
use Rattle.subadd_closure.proofs.StretchReads.{IsLate, none_at_start, all_read}
use Rattle.upp_curve.proofs.affine_segment.PieceIn.{read_go, read_one, read_stop, value_by, value_past, nothing_read}
use Rattle.min_plus.specs.closure_laws.Star.{nat_times}

pub times_add : (n j i : ℕ) (k : ℚ) → i ≡ n + j → nat_times i k ≡ nat_times n k +ℚ nat_times j k
times_add n j i k e =
    ap (λ z. nat_times z k) e ∙ ap (λ z. z *ℚ k) (sym (int_add (pos n) (pos j))) ∙ add_mul (int (pos n)) (int (pos j)) k

-- n lines and j rises are n + j lines, j periods later
pub moved_line : (l : Line) (n j i : ℕ) (s t d : ℚ) → i ≡ n + j → t ≡ s +ℚ nat_times j d
    → line_at (line_times n l) s +ℚ nat_times j (line_at l d) ≡ line_at (line_times i l) t
moved_line l n j i s t d m e =
    let a = times_add n j i l.icept m in
    let b = mul_add (int (pos j)) l.icept (l.slope *ℚ d) in
    let c : l.slope *ℚ t ≡ l.slope *ℚ s +ℚ l.slope *ℚ nat_times j d = ap (λ z. l.slope *ℚ z) e ∙ mul_add l.slope s (nat_times j d) in
    let f : int (pos j) *ℚ (l.slope *ℚ d) ≡ l.slope *ℚ nat_times j d =
    sym (mul_assoc (int (pos j)) l.slope d) ∙ ap (λ z. z *ℚ d) (mul_comm (int (pos j)) l.slope) ∙ mul_assoc l.slope (int (pos j)) d in
    added (nat_times n l.icept) (nat_times j l.icept) (nat_times i l.icept) (l.slope *ℚ s) (l.slope *ℚ t)
    (l.slope *ℚ nat_times j d) (int (pos j) *ℚ (l.slope *ℚ d)) (nat_times j (line_at l d)) a b c f
  where
    added : (nk jk k rs rt rj jr c : ℚ) → k ≡ nk +ℚ jk → c ≡ jk +ℚ jr → rt ≡ rs +ℚ rj → jr ≡ rj → (nk +ℚ rs) +ℚ c ≡ k +ℚ rt
    added nk jk k rs rt rj jr c p q r f = with8 nk jk k rs rt rj jr c (λ o. omega (arith, o.le, o.lt, o.same))

-- ---- past the rank of a tail
-- the time that is left, and how it lies
pub record Left (R d t : ℚ) : Type 0 where
  pub number : ℕ
  pub is : number ≡ periods R d t
  pub left : ℚ
  pub left_is : left ≡ t -ℚ nat_times number d
  pub back : t ≡ left +ℚ nat_times number d
  pub low : R ≤ℚ left
  pub high : left <ℚ R +ℚ d

pub left_of : (R d t : ℚ) → zero_q <ℚ d → R ≤ℚ t → Left R d t
left_of R d t some h =
    let j = periods R d t in
    let p = periods_low R d t some h in
    let q = periods_high R d t some in
    record {
      number = j;
      is = refl;
      left = t -ℚ nat_times j d;
      left_is = refl;
      back = with2 t (nat_times j d) (λ c. omega (arith, c.le, c.lt, c.same));
      low = with3 R t (nat_times j d) (λ c. omega (arith, c.le, c.lt, c.same));
      high = with4 R t d (nat_times j d) (λ c. omega (arith, c.le, c.lt, c.same));
    }

pub repeated_left : (f : ℚ → Ext) (R d c t : ℚ) (v : ℚ) (s : Left R d t) → f s.left ≡ Fin v
    → repeated f R d c t ≡ Fin (v +ℚ nat_times s.number c)
unfolding repeated
repeated_left f R d c t v s e =
    ap (λ n. f (t -ℚ nat_times n d) +ₑ Fin (nat_times n c)) (sym s.is)
    ∙ ap (λ z. f z +ₑ Fin (nat_times s.number c)) (sym s.left_is) ∙ ap (λ z. z +ₑ Fin (nat_times s.number c)) e

module _ (a b : ℚ) (l : Line) (m : ℕ) (low : zero_q ≤ℚ a) (proper : a <ℚ b)
    (apart : (i : ℕ) → 1 ≤ i → suc i ≤ suc m → nat_times i b ≤ℚ nat_times (suc i) a)
    (joined : (i : ℕ) → suc m ≤ i → nat_times (suc i) a <ℚ nat_times i b) where
  some_end : zero_q <ℚ b
  some_end = le_lt_trans low proper

  end_low : zero_q ≤ℚ b
  end_low = le_of_lt some_end

  abbrev pub C : ℚ → Ext → Type 0
  C t v = IsSegmentClosure a (Fin b) l t v

  -- from i b up to the next, i from the last stretch on, i and one more is the least number
  pub least_at : zero_q ≤ℚ l.icept → (i : ℕ) (t : ℚ) → suc m ≤ i → nat_times i b ≤ℚ t → t <ℚ nat_times (suc i) b
      → C t (Fin (line_at (line_times (suc i) l) t))
  least_at up i t h k g =
      least_turn a (Fin b) l t i (lt_le_trans (joined i h) k) g
      (λ u. least_up l.icept (suc i) (suc u.less_one) up (more a (Fin b) t i end_low k u))

  -- past i a up to the next, i from the last stretch on, i is the greatest number
  pub greatest_at : l.icept ≤ℚ zero_q → (i : ℕ) (t : ℚ) → suc m ≤ suc i → nat_times (suc i) a <ℚ t → t ≤ℚ nat_times (suc (suc i)) a
      → C t (Fin (line_at (line_times (suc i) l) t))
  greatest_at down i t h k g =
      least_turn a (Fin b) l t i k (le_lt_trans g (joined (suc i) h))
      (λ u. let x = fewer a (Fin b) t (suc (suc i)) low g u in
      least_down l.icept (suc i) (suc u.less_one) down (omega arith))

  -- the last stretch, up to where the next one is as low
  last_stretch : (t : ℚ) → nat_times (suc m) a ≤ℚ t → t <ℚ nat_times (suc m) b → IsLate a (Fin b) (suc m)
      → ((u : Turn a (Fin b) t) → nat_times (suc m) l.icept ≤ℚ nat_times (suc u.less_one) l.icept)
      → C t (piece_value (stretch a l (suc m)) t)
  last_stretch t h k late least = elim (le_or_lt t (nat_times (suc m) a)) [
    | inl here ↦ subst (λ z. IsSegmentClosure a (Fin b) l t z) (sym (opening_here (nat_times (suc m) a) (line_times (suc m) l) t here))
        (none_at_start a (Fin b) l (suc m) t low late h here)
    | inr some ↦ subst (λ z. IsSegmentClosure a (Fin b) l t z) (sym (opening_past (nat_times (suc m) a) (line_times (suc m) l) t some))
        (least_turn a (Fin b) l t m some k least)
  ]

  -- ---- rising
  rising_last : zero_q ≤ℚ l.icept → (t : ℚ) → nat_times (suc m) a ≤ℚ t → t <ℚ nat_times (suc m) b +ℚ b → IsLate a (Fin b) (suc m)
      → C t (read (stretch a l (suc m) ∷ turn (nat_times (suc m) b) l (suc (suc m)) (suc (suc m)) ∷ []) t)
  rising_last up t h high late =
      let R = nat_times (suc m) b in
      let p = stretch a l (suc m) in
      let q = turn R l (suc (suc m)) (suc (suc m)) in
      elim (le_or_lt R t) [
        | inl past ↦
            let value : piece_value q t ≡ Fin (line_at (line_times (suc (suc m)) l) t) = turn_value R t past in
            let next = one_more_times (suc m) b in
            subst (λ z. IsSegmentClosure a (Fin b) l t z) (sym (read_go p q [] t past ∙ read_one q t ∙ value))
            (least_at up (suc m) t (omega arith) past (subst (λ z. t <ℚ z) (sym next) high))
        | inr before ↦ subst (λ z. IsSegmentClosure a (Fin b) l t z) (sym (read_stop p q [] t before))
            (last_stretch t h before late (λ u. least_up l.icept (suc m) (suc u.less_one) up (late t h u)))
      ]
    where
      turn_value : (R t : ℚ) → R ≤ℚ t → piece_value (turn R l (suc (suc m)) (suc (suc m))) t ≡ Fin (line_at (line_times (suc (suc m)) l) t)
      turn_value R t h = elim (le_or_lt t R) [
        | inl here ↦ value_by (turn R l (suc (suc m)) (suc (suc m))) t here ∙ ap (λ z. Fin (line_at (line_times (suc (suc m)) l) z)) (antisym (h, here))
        | inr past ↦ value_past (turn R l (suc (suc m)) (suc (suc m))) t past
      ]

  rising_first : zero_q ≤ℚ l.icept → (t : ℚ) → zero_q ≤ℚ t → t <ℚ nat_times (suc m) b +ℚ b
      → C t (read (all_stretches a b l m (turn (nat_times (suc m) b) l (suc (suc m)) (suc (suc m)) ∷ [])) t)
  rising_first up t h high =
      all_read a b (nat_times (suc m) b +ℚ b) l m (turn (nat_times (suc m) b) l (suc (suc m)) (suc (suc m)) ∷ []) low end_low apart (rising_last up) t h high

  pub rising_values : zero_q ≤ℚ l.icept → (t : ℚ) → zero_q ≤ℚ t → C t (value_at (rising_closure a b l m) t)
  unfolding value_at
  rising_values up t h =
      let R = nat_times (suc m) b in
      let c = line_at l b in
      let f = read (all_stretches a b l m (turn R l (suc (suc m)) (suc (suc m)) ∷ [])) in
      elim (le_or_lt R t) [
        | inl past ↦
            let s = left_of R b t some_end past in
            let nonneg : zero_q ≤ℚ R = mul_nonneg (nat_nonneg (suc m)) end_low in
            let next = one_more_times (suc m) b in
            let x = rising_first up s.left (le_trans nonneg s.low) s.high in
            let y = least_at up (suc m) s.left (omega arith) s.low (subst (λ z. s.left <ℚ z) (sym next) s.high) in
            let same : f s.left ≡ Fin (line_at (line_times (suc (suc m)) l) s.left) =
            infimum_unique (λ (u : Turn a (Fin b) s.left). Fin (nat_times (suc u.less_one) l.icept +ℚ l.slope *ℚ s.left)) _ _ x y in
            let i = suc (m + s.number) in
            let value = repeated_left f R b c t (line_at (line_times (suc (suc m)) l) s.left) s same
            ∙ ap Fin (moved_line l (suc (suc m)) s.number (suc i) s.left t b (omega arith) s.back) in
            let up_to = times_add (suc m) s.number i b (omega arith) in
            let over = times_add (suc (suc m)) s.number (suc i) b (omega arith) in
            let L = s.low in
            let H = s.high in
            let B = s.back in
            subst (λ z. IsSegmentClosure a (Fin b) l t z) (sym value)
            (least_at up i t (omega arith)
            (placed_low R (nat_times s.number b) (nat_times i b) s.left t up_to L B)
            (placed_high R b (nat_times s.number b) (nat_times (suc (suc m)) b) (nat_times (suc i) b) s.left t next over H B))
        | inr early ↦
            let B = some_end in
            let high : t <ℚ R +ℚ b = with3 t R b (λ c. omega (arith, c.le, c.lt, c.same)) in
            subst (λ z. IsSegmentClosure a (Fin b) l t z) (sym (repeated_first f R b c t some_end high)) (rising_first up t h high)
      ]
    where
      placed_low : (R j k s t : ℚ) → k ≡ R +ℚ j → R ≤ℚ s → t ≡ s +ℚ j → k ≤ℚ t
      placed_low R j k s t p q r = with5 R j k s t (λ c. omega (arith, c.le, c.lt, c.same))

      placed_high : (R b j n k s t : ℚ) → n ≡ R +ℚ b → k ≡ n +ℚ j → s <ℚ R +ℚ b → t ≡ s +ℚ j → t <ℚ k
      placed_high R b j n k s t p q r e = with7 R b j n k s t (λ c. omega (arith, c.le, c.lt, c.same))

  -- ---- falling
  falling_last : l.icept ≤ℚ zero_q → (t : ℚ) → nat_times (suc m) a ≤ℚ t → t <ℚ nat_times (suc (suc m)) a +ℚ a → IsLate a (Fin b) (suc m)
      → C t (read (stretch a l (suc m) ∷ turn (nat_times (suc (suc m)) a) l (suc m) (suc (suc m)) ∷ []) t)
  falling_last down t h high late =
      let R = nat_times (suc (suc m)) a in
      let p = stretch a l (suc m) in
      let q = turn R l (suc m) (suc (suc m)) in
      elim (le_or_lt R t) [
        | inl past ↦ subst (λ z. IsSegmentClosure a (Fin b) l t z) (sym (read_go p q [] t past ∙ read_one q t)) (at_turn t past high)
        | inr before ↦ subst (λ z. IsSegmentClosure a (Fin b) l t z) (sym (read_stop p q [] t before))
            (last_stretch t h (lt_trans before (joined (suc m) (omega arith))) late
            (λ u. let x = fewer a (Fin b) t (suc (suc m)) low (le_of_lt before) u in
            least_down l.icept (suc m) (suc u.less_one) down (omega arith)))
      ]
    where
      at_turn : (t : ℚ) → nat_times (suc (suc m)) a ≤ℚ t → t <ℚ nat_times (suc (suc m)) a +ℚ a
          → IsSegmentClosure a (Fin b) l t (piece_value (turn (nat_times (suc (suc m)) a) l (suc m) (suc (suc m))) t)
      at_turn t h high =
          let R = nat_times (suc (suc m)) a in
          let q = turn R l (suc m) (suc (suc m)) in
          let next = one_more_times (suc m) a in
          let after = one_more_times (suc (suc m)) a in
          elim (le_or_lt t R) [
            | inl here ↦
                let same : t ≡ R = antisym (here, h) in
                let some : nat_times (suc m) a <ℚ t = stepped a (nat_times (suc m) a) R t next h high in
                subst (λ z. IsSegmentClosure a (Fin b) l t z)
                (sym (value_by q t here ∙ ap (λ z. Fin (line_at (line_times (suc m) l) z)) (sym same)))
                (greatest_at down m t (omega arith) some here)
            | inr past ↦ subst (λ z. IsSegmentClosure a (Fin b) l t z) (sym (value_past q t past))
                (greatest_at down (suc m) t (omega arith) past (le_of_lt (subst (λ z. t <ℚ z) (sym after) high)))
          ]
        where
          stepped : (a n R t : ℚ) → R ≡ n +ℚ a → R ≤ℚ t → t <ℚ R +ℚ a → n <ℚ t
          stepped a n R t e h k = with4 a n R t (λ c. omega (arith, c.le, c.lt, c.same))

  falling_first : l.icept ≤ℚ zero_q → (t : ℚ) → zero_q ≤ℚ t → t <ℚ nat_times (suc (suc m)) a +ℚ a
      → C t (read (all_stretches a b l m (turn (nat_times (suc (suc m)) a) l (suc m) (suc (suc m)) ∷ [])) t)
  falling_first down t h high =
      all_read a b (nat_times (suc (suc m)) a +ℚ a) l m (turn (nat_times (suc (suc m)) a) l (suc m) (suc (suc m)) ∷ []) low end_low apart (falling_last down) t h high

  -- i and one more lines at the time that is left: as many more as there are periods
  falling_moved : l.icept ≤ℚ zero_q → (f : ℚ → Ext) (R t : ℚ) (s : Left R a t) (i : ℕ) → suc m ≤ suc i → nat_times (suc i) a <ℚ s.left
      → s.left ≤ℚ nat_times (suc (suc i)) a → C s.left (f s.left) → C t (repeated f R a (line_at l a) t)
  falling_moved down f R t s i h k g x =
      let j = i + s.number in
      let y = greatest_at down i s.left h k g in
      let same : f s.left ≡ Fin (line_at (line_times (suc i) l) s.left) =
      infimum_unique (λ (u : Turn a (Fin b) s.left). Fin (nat_times (suc u.less_one) l.icept +ℚ l.slope *ℚ s.left)) _ _ x y in
      let value = repeated_left f R a (line_at l a) t (line_at (line_times (suc i) l) s.left) s same
      ∙ ap Fin (moved_line l (suc i) s.number (suc j) s.left t a (omega arith) s.back) in
      let under = times_add (suc i) s.number (suc j) a (omega arith) in
      let over = times_add (suc (suc i)) s.number (suc (suc j)) a (omega arith) in
      let B = s.back in
      subst (λ z. IsSegmentClosure a (Fin b) l t z) (sym value)
      (greatest_at down j t (omega arith)
      (placed_above (nat_times (suc i) a) (nat_times s.number a) (nat_times (suc j) a) s.left t under k B)
      (placed_under (nat_times (suc (suc i)) a) (nat_times s.number a) (nat_times (suc (suc j)) a) s.left t over g B))
    where
      placed_above : (n j k s t : ℚ) → k ≡ n +ℚ j → n <ℚ s → t ≡ s +ℚ j → k <ℚ t
      placed_above n j k s t p q r = with5 n j k s t (λ c. omega (arith, c.le, c.lt, c.same))

      placed_under : (n j k s t : ℚ) → k ≡ n +ℚ j → s ≤ℚ n → t ≡ s +ℚ j → t ≤ℚ k
      placed_under n j k s t p q r = with5 n j k s t (λ c. omega (arith, c.le, c.lt, c.same))

  pub falling_values : zero_q <ℚ a → l.icept ≤ℚ zero_q → (t : ℚ) → zero_q ≤ℚ t → C t (value_at (falling_closure a b l m) t)
  unfolding value_at
  falling_values some down t h =
      let R = nat_times (suc (suc m)) a in
      let f = read (all_stretches a b l m (turn R l (suc m) (suc (suc m)) ∷ [])) in
      let nonneg : zero_q ≤ℚ R = mul_nonneg (nat_nonneg (suc (suc m))) low in
      let next = one_more_times (suc m) a in
      let after = one_more_times (suc (suc m)) a in
      elim (le_or_lt R t) [
        | inl past ↦
            let s = left_of R a t some past in
            let L = s.low in
            let H = s.high in
            let x = falling_first down s.left (le_trans nonneg s.low) s.high in
            elim (le_or_lt s.left R) [
              | inl here ↦ falling_moved down f R t s m (omega arith) (before a (nat_times (suc m) a) R s.left some next L) here x
              | inr later ↦ falling_moved down f R t s (suc m) (omega arith) later (upto a R (nat_times (suc (suc (suc m))) a) s.left after H) x
            ]
        | inr early ↦
            let high : t <ℚ R +ℚ a = with3 t R a (λ c. omega (arith, c.le, c.lt, c.same)) in
            subst (λ z. IsSegmentClosure a (Fin b) l t z) (sym (repeated_first f R a (line_at l a) t some high)) (falling_first down t h high)
      ]
    where
      before : (a n R s : ℚ) → zero_q <ℚ a → R ≡ n +ℚ a → R ≤ℚ s → n <ℚ s
      before a n R s p e h = with4 a n R s (λ c. omega (arith, c.le, c.lt, c.same))

      upto : (a R k s : ℚ) → k ≡ R +ℚ a → s <ℚ R +ℚ a → s ≤ℚ k
      upto a R k s e h = with4 a R k s (λ c. omega (arith, c.le, c.lt, c.same))

  -- ---- level
  -- of the slope alone, one line from the last stretch on
  level_last : l.icept ≡ zero_q → (t : ℚ) → nat_times (suc m) a ≤ℚ t → IsLate a (Fin b) (suc m)
      → C t (read (stretch a l (suc m) ∷ []) t)
  level_last flat t h late = subst (λ z. IsSegmentClosure a (Fin b) l t z) (sym (read_one (stretch a l (suc m)) t))
      (elim (le_or_lt (nat_times (suc m) b) t) [
        | inl past ↦
            let R = nat_times (suc m) b in
            let s = left_of R b t some_end past in
            let i = suc (m + s.number) in
            let next = one_more_times (suc m) b in
            let up_to = times_add (suc m) s.number i b (omega arith) in
            let over = times_add (suc (suc m)) s.number (suc i) b (omega arith) in
            let L = s.low in
            let H = s.high in
            let B = s.back in
            let low_i = placed_low R (nat_times s.number b) (nat_times i b) s.left t up_to L B in
            let at_i = least_at (same_le (sym flat)) i t (omega arith) low_i
            (placed_high R b (nat_times s.number b) (nat_times (suc (suc m)) b) (nat_times (suc i) b) s.left t next over H B) in
            let meet = joined (suc m) (omega arith) in
            let reach : nat_times (suc m) a <ℚ t = lt_le_trans (le_lt_trans (mul_le_mul_right a low (nat_le (suc m) (suc (suc m)) (omega arith))) meet) past in
            subst (λ z. IsSegmentClosure a (Fin b) l t z) (sym (opening_past (nat_times (suc m) a) (line_times (suc m) l) t reach ∙ all_flat (suc m) (suc i) t)) at_i
        | inr before ↦ last_stretch t h before late (λ u. least_up l.icept (suc m) (suc u.less_one) (same_le (sym flat)) (late t h u))
      ])
    where
      same_le : {x y : ℚ} → x ≡ y → x ≤ℚ y
      same_le {x} {y} e = subst (λ z. x ≤ℚ z) e (le_refl x)

      all_flat : (n k : ℕ) (t : ℚ) → Fin (line_at (line_times n l) t) ≡ Fin (line_at (line_times k l) t)
      all_flat n k t =
          let none : (i : ℕ) → nat_times i l.icept ≡ zero_q = λ i. ap (λ z. nat_times i z) flat ∙ mul_zero (int (pos i)) in
          ap (λ z. Fin (z +ℚ l.slope *ℚ t)) (none n ∙ sym (none k))

      placed_low : (R j k s t : ℚ) → k ≡ R +ℚ j → R ≤ℚ s → t ≡ s +ℚ j → k ≤ℚ t
      placed_low R j k s t p q r = with5 R j k s t (λ c. omega (arith, c.le, c.lt, c.same))

      placed_high : (R b j n k s t : ℚ) → n ≡ R +ℚ b → k ≡ n +ℚ j → s <ℚ R +ℚ b → t ≡ s +ℚ j → t <ℚ k
      placed_high R b j n k s t p q r e = with7 R b j n k s t (λ c. omega (arith, c.le, c.lt, c.same))

  pub level_values : l.icept ≡ zero_q → (t : ℚ) → zero_q ≤ℚ t → C t (value_at (level_closure a b l m) t)
  unfolding value_at
  level_values flat t h =
      all_read a b (t +ℚ int (pos 1)) l m [] low end_low apart (λ s k g late. level_last flat s k late) t h
      (with1 t (λ c. omega (arith, c.le, c.lt, c.same)))

-- ---- without an end
-- one value is the least of a line that is at least 0 at 0
pub endless_values : (a : ℚ) (l : Line) → zero_q ≤ℚ a → zero_q ≤ℚ l.icept → (b t : ℚ) → zero_q ≤ℚ t
    → IsSegmentClosure a Inf l t (value_at (level_closure a b l 0) t)
unfolding value_at stretches
endless_values a l low up b t h =
    let p = stretch a l 1 in
    let one : nat_times 1 a ≡ a = one_mul a in
    elim (le_or_lt t a) [
      | inl early ↦ subst (λ z. IsSegmentClosure a Inf l t z) (sym (before t early))
          (no_turn a Inf l t (λ u. let x = fewer a Inf t 1 low (subst (λ z. t ≤ℚ z) (sym one) early) u in omega arith))
      | inr late ↦ subst (λ z. IsSegmentClosure a Inf l t z) (sym (past t late))
          (least_turn a Inf l t 0 (subst (λ z. z <ℚ t) (sym one) late) tt
          (λ u. least_up l.icept 1 (suc u.less_one) up (omega arith)))
    ]
  where
    past : (t : ℚ) → a <ℚ t → read (from_zero a (stretch a l 1 ∷ [])) t ≡ Fin (line_at (line_times 1 l) t)
    past t late =
        let p = stretch a l 1 in
        let one : nat_times 1 a ≡ a = one_mul a in
        let after : nat_times 1 a <ℚ t = subst (λ z. z <ℚ t) (sym one) late in
        let read_p = read_one p t ∙ opening_past (nat_times 1 a) (line_times 1 l) t after in
        elim (le_or_lt a zero_q) [
          | inl none ↦ ap (λ z. read z t) (early_start a (p ∷ []) none) ∙ read_p
          | inr some ↦ ap (λ z. read z t) (late_start a (p ∷ []) some) ∙ read_go (nothing_at zero_q) p [] t (le_of_lt after) ∙ read_p
        ]

    before : (t : ℚ) → t ≤ℚ a → read (from_zero a (stretch a l 1 ∷ [])) t ≡ Inf
    before t early =
        let p = stretch a l 1 in
        let one : nat_times 1 a ≡ a = one_mul a in
        let here : t ≤ℚ nat_times 1 a = subst (λ z. t ≤ℚ z) (sym one) early in
        let read_p = read_one p t ∙ opening_here (nat_times 1 a) (line_times 1 l) t here in
        elim (le_or_lt a zero_q) [
          | inl none ↦ ap (λ z. read z t) (early_start a (p ∷ []) none) ∙ read_p
          | inr some ↦ ap (λ z. read z t) (late_start a (p ∷ []) some)
              ∙ elim (le_or_lt (nat_times 1 a) t) [
                | inl reached ↦ read_go (nothing_at zero_q) p [] t reached ∙ read_p
                | inr not_yet ↦ read_stop (nothing_at zero_q) p [] t not_yet ∙ nothing_read zero_q t
              ]
        ]
