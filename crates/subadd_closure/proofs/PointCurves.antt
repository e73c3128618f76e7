-- The curves of a point's closure: their values and normal form.
use Rattle.std.specs.Prelude.{◌≡◌, ℕ, suc, ◌≤◌, pos, [], ◌∷◌, Option, Some, None}
use Rattle.std.proofs.Common.{arith, sym, refl, ap, ◌∙◌, subst, inl, inr}
use Rattle.rational.specs.Rational.{ℚ, ◌+ℚ◌, ◌-ℚ◌, ◌*ℚ◌, ◌/ℚ◌, ◌≤ℚ◌, ◌<ℚ◌, int}
use Rattle.rational.specs.Extended.{Ext, ◌+ₑ◌}
use Rattle.rational.specs.declared.Extended.TheVariants.{Fin, Inf}
use Rattle.rational.proofs.Linear.{with1, with2, with3, with5, with6}
use Rattle.rational.proofs.Laws.{le_trans, le_lt_trans, lt_le_trans, lt_irrefl, le_refl, le_of_lt, le_or_lt, antisym, mul_one, mul_zero, zero_mul, one_mul, mul_lt_mul, mul_lt_mul_right, mul_le_mul_right, lt_of_mul, div_mul, not_zero, between}
use Rattle.rational.proofs.Integers.{nat_lt, nat_le, le_or_more}
use Rattle.rational.proofs.Whole.{one_more_times}
use Rattle.rational.proofs.Bounds.{least_member, all_infinite}
use Rattle.rational.proofs.Over.{le_q_out}
use Rattle.rational.proofs.MinMax.{le_q_not}
use Rattle.upp_curve.specs.declared.affine_segment.line.Line.{Line}
use Rattle.upp_curve.specs.declared.affine_segment.line.Piece.{Piece}
use Rattle.upp_curve.specs.affine_segment.Values.{line_value}
use Rattle.min_plus.specs.Functions.{zero_q}
use Rattle.upp_curve.specs.affine_segment.Reading.{read, nothing_at}
use Rattle.upp_curve.specs.Curve.{value_at, repeated, cut}
use Rattle.upp_curve.specs.Steady.{Repeats}
use Rattle.upp_curve.specs.Normal.{IsNormal}
use Rattle.upp_curve.proofs.Repeats.{repeated_first}
use Rattle.subadd_closure.specs.ElementClosures.{Multiple, IsPointClosure}
use Rattle.subadd_closure.specs.ElementCurves.{point_closure, point_at_zero}
use Rattle.subadd_closure.proofs.ClosureValues.{Left, left_of, repeated_left}
use Rattle.upp_curve.proofs.affine_segment.PieceIn.{read_go, read_one, read_stop, value_by, value_past, nothing_read}
use Rattle.min_plus.specs.closure_laws.Star.{nat_times}

-- ---- the closure by a multiple
-- where t is n and one times a, and no other number of times, or each gives as much
least_multiple : (a v t : ℚ) (n : ℕ) → t ≡ nat_times (suc n) a
    → ((m : Multiple a t) → nat_times (suc n) v ≤ℚ nat_times (suc m.less_one) v) → IsPointClosure a v t (Fin (nat_times (suc n) v))
least_multiple a v t n e least =
    least_member (λ (m : Multiple a t). Fin (nat_times (suc m.less_one) v)) record { less_one = n; is = e } least

no_multiple : (a v t : ℚ) → ¬ (Multiple a t) → IsPointClosure a v t Inf
no_multiple a v t none = all_infinite (λ (m : Multiple a t). Fin (nat_times (suc m.less_one) v)) (λ m. absurd (none m))

-- ---- at 0
pub zero_values : (v : ℚ) → zero_q ≤ℚ v → (t : ℚ) → zero_q ≤ℚ t → IsPointClosure zero_q v t (value_at (point_at_zero v) t)
unfolding value_at cut
zero_values v low t h = elim (le_or_lt t zero_q) [
  | inl here ↦
      let value : cut (read (record { x = zero_q; at = Fin v; line = None } ∷ [])) zero_q t ≡ Fin (nat_times 1 v) =
      rw (le_q_out t zero_q here) (read_one record { x = zero_q; at = Fin v; line = None } t ∙ value_by record { x = zero_q; at = Fin v; line = None } t here ∙ ap Fin (sym (one_mul v))) in
      subst (λ z. IsPointClosure zero_q v t z) (sym value)
      (least_multiple zero_q v t 0 (antisym (here, h) ∙ sym (mul_zero (int (pos 1)))) (λ m. mul_le_mul_right v low (nat_le 1 (suc m.less_one) (omega arith))))
  | inr past ↦
      let value : cut (read (record { x = zero_q; at = Fin v; line = None } ∷ [])) zero_q t ≡ Inf = rw (le_q_not t zero_q past) refl in
      subst (λ z. IsPointClosure zero_q v t z) (sym value)
      (no_multiple zero_q v t (λ m. lt_irrefl zero_q (subst (λ z. zero_q <ℚ z) (m.is ∙ mul_zero (int (pos (suc m.less_one)))) past)))
]

pub zero_normal : (v : ℚ) → IsNormal (point_at_zero v)
zero_normal v = record {
  raw = record { starts = (refl, tt); tail = record { nonneg = le_refl zero_q; starts = (le_refl zero_q, tt) } };
  rank_is_start = inl refl;
  no_merge = tt;
  tail = refl;
}

-- ---- later
module _ (a v : ℚ) (some : zero_q <ℚ a) where
  point : Piece
  point = record { x = a; at = Fin v; line = None }

  point_read : (t : ℚ) → t ≤ℚ a → a ≤ℚ t → read (nothing_at zero_q ∷ point ∷ []) t ≡ Fin v
  unfolding point
  point_read t h k = read_go (nothing_at zero_q) record { x = a; at = Fin v; line = None } [] t k
      ∙ read_one record { x = a; at = Fin v; line = None } t ∙ value_by record { x = a; at = Fin v; line = None } t h

  late_read : (t : ℚ) → a <ℚ t → read (nothing_at zero_q ∷ point ∷ []) t ≡ Inf
  unfolding point
  late_read t h = read_go (nothing_at zero_q) record { x = a; at = Fin v; line = None } [] t (le_of_lt h)
      ∙ read_one record { x = a; at = Fin v; line = None } t ∙ value_past record { x = a; at = Fin v; line = None } t h

  early_read : (t : ℚ) → t <ℚ a → read (nothing_at zero_q ∷ point ∷ []) t ≡ Inf
  unfolding point
  early_read t h = read_stop (nothing_at zero_q) record { x = a; at = Fin v; line = None } [] t h ∙ nothing_read zero_q t

  repeated_none : (f : ℚ → Ext) (R d c t : ℚ) (s : Left R d t) → f s.left ≡ Inf → repeated f R d c t ≡ Inf
  unfolding repeated
  repeated_none f R d c t s e =
      ap (λ n. f (t -ℚ nat_times n d) +ₑ Fin (nat_times n c)) (sym s.is)
      ∙ ap (λ z. f z +ₑ Fin (nat_times s.number c)) (sym s.left_is) ∙ ap (λ z. z +ₑ Fin (nat_times s.number c)) e

  -- the numbers of two equal multiples are one
  one_number : (n m : ℕ) → nat_times n a ≡ nat_times m a → n ≡ m
  one_number n m e = elim (le_or_more n m) [
    | inl up ↦ elim (le_or_more m n) [
      | inl down ↦ omega arith
      | inr less ↦ absurd (lt_irrefl (nat_times n a) (subst (λ z. nat_times n a <ℚ z) (sym e) (mul_lt_mul_right a some (nat_lt n m (omega arith)))))
    ]
    | inr less ↦ absurd (lt_irrefl (nat_times m a) (subst (λ z. nat_times m a <ℚ z) e (mul_lt_mul_right a some (nat_lt m n (omega arith)))))
  ]

  pub point_values : (t : ℚ) → zero_q ≤ℚ t → IsPointClosure a v t (value_at (point_closure a v) t)
  unfolding value_at point
  point_values t h =
      let f = read (nothing_at zero_q ∷ record { x = a; at = Fin v; line = None } ∷ []) in
      elim (le_or_lt a t) [
        | inl past ↦
            let s = left_of a a t some past in
            let B = s.back in
            let H = s.high in
            let next = one_more_times s.number a in
            let next_value = one_more_times s.number v in
            elim (le_or_lt s.left a) [
              | inl here ↦
                  let same : s.left ≡ a = antisym (here, s.low) in
                  let is : t ≡ nat_times (suc s.number) a = placed s.left t (nat_times s.number a) (nat_times (suc s.number) a) same B next in
                  let value : repeated f a a v t ≡ Fin (nat_times (suc s.number) v) =
                  repeated_left f a a v t v s (point_read s.left here s.low) ∙ ap Fin (risen v (nat_times s.number v) (nat_times (suc s.number) v) next_value) in
                  subst (λ z. IsPointClosure a v t z) (sym value)
                  (least_multiple a v t s.number is (λ m. let one = one_number (suc s.number) (suc m.less_one) (sym is ∙ m.is) in
                  subst (λ z. nat_times (suc s.number) v ≤ℚ nat_times z v) one (le_refl (nat_times (suc s.number) v))))
              | inr later ↦
                  let after = one_more_times (suc s.number) a in
                  subst (λ z. IsPointClosure a v t z) (sym (repeated_none f a a v t s (late_read s.left later)))
                  (no_multiple a v t (λ m. between_two m s.number
                  (over s.left t (nat_times s.number a) (nat_times (suc s.number) a) later B next)
                  (under s.left t (nat_times s.number a) (nat_times (suc s.number) a) (nat_times (suc (suc s.number)) a) H B next after)))
            ]
        | inr early ↦
            let high : t <ℚ a +ℚ a = with2 t a (λ c. omega (arith, c.le, c.lt, c.same)) in
            subst (λ z. IsPointClosure a v t z) (sym (repeated_first f a a v t some high ∙ early_read t early))
            (no_multiple a v t (λ m. lt_irrefl t (lt_le_trans early
            (subst (λ z. a ≤ℚ z) (sym m.is) (subst (λ z. z ≤ℚ nat_times (suc m.less_one) a) (one_mul a)
            (mul_le_mul_right a (le_of_lt some) (nat_le 1 (suc m.less_one) (omega arith))))))))
      ]
    where
      placed : (s t j k : ℚ) → s ≡ a → t ≡ s +ℚ j → k ≡ j +ℚ a → t ≡ k
      placed s t j k e f g = antisym (with5 s t j k a (λ c. omega (arith, c.le, c.lt, c.same)))

      risen : (v j k : ℚ) → k ≡ j +ℚ v → v +ℚ j ≡ k
      risen v j k e = antisym (with3 v j k (λ c. omega (arith, c.le, c.lt, c.same)))

      over : (s t j k : ℚ) → a <ℚ s → t ≡ s +ℚ j → k ≡ j +ℚ a → k <ℚ t
      over s t j k e f g = with5 s t j k a (λ c. omega (arith, c.le, c.lt, c.same))

      under : (s t j k n : ℚ) → s <ℚ a +ℚ a → t ≡ s +ℚ j → k ≡ j +ℚ a → n ≡ k +ℚ a → t <ℚ n
      under s t j k n e f g i = with6 s t j k n a (λ c. omega (arith, c.le, c.lt, c.same))

      between_two : (m : Multiple a t) (n : ℕ) → nat_times (suc n) a <ℚ t → t <ℚ nat_times (suc (suc n)) a → ⊥
      between_two m n p q = elim (le_or_more (suc m.less_one) (suc n)) [
        | inl low ↦ lt_irrefl t (le_lt_trans (subst (λ z. z ≤ℚ nat_times (suc n) a) (sym m.is) (mul_le_mul_right a (le_of_lt some) (nat_le (suc m.less_one) (suc n) low))) p)
        | inr high ↦ lt_irrefl t (lt_le_trans q (subst (λ z. nat_times (suc (suc n)) a ≤ℚ z) (sym m.is) (mul_le_mul_right a (le_of_lt some) (nat_le (suc (suc n)) (suc m.less_one) high))))
      ]

  -- the values at 0, at a and just after it
  first_values : (t : ℚ) → zero_q ≤ℚ t → t <ℚ a +ℚ a → value_at (point_closure a v) t ≡ read (nothing_at zero_q ∷ record { x = a; at = Fin v; line = None } ∷ []) t
  unfolding value_at
  first_values t h k = repeated_first (read (nothing_at zero_q ∷ record { x = a; at = Fin v; line = None } ∷ [])) a a v t some k

  pub point_normal : IsNormal (point_closure a v)
  unfolding point
  point_normal =
      let c = point_closure a v in
      let f = value_at c in
      let at_zero : f zero_q ≡ Inf = first_values zero_q (le_refl zero_q) (with1 a (λ c. omega (arith, c.le, c.lt, c.same))) ∙ early_read zero_q some in
      let here : f a ≡ Fin v = first_values a (le_of_lt some) (with1 a (λ c. omega (arith, c.le, c.lt, c.same))) ∙ point_read a (le_refl a) (le_refl a) in
      let between_values : (t : ℚ) → a <ℚ t → t <ℚ a +ℚ a → f t ≡ Inf =
      λ t h k. first_values t (le_trans (le_of_lt some) (le_of_lt h)) k ∙ late_read t h in
      record {
        raw = record {
          starts = (refl, (some, tt));
          tail = record { nonneg = le_of_lt some; some = some; starts = (with1 a (λ c. omega (arith, c.le, c.lt, c.same)), (with1 a (λ c. omega (arith, c.le, c.lt, c.same)), tt)) };
        };
        rank_is_start = inr (inl refl);
        no_merge = ((λ k. never v k.0), tt);
        tail = record {
          least_period = λ n two r. no_part f n two here between_values r;
          least_rank = ((λ k r. no_rule f at_zero here r), ((λ k. absurd (lt_irrefl a k)), tt));
          not_one_line = λ m r. no_line f here between_values m r;
        };
      }
    where
      never : (x : ℚ) → Fin x ≡ Inf → ⊥
      never x e = cc

      no_rule : (f : ℚ → Ext) → f zero_q ≡ Inf → f a ≡ Fin v → ¬ (Repeats f zero_q a v)
      no_rule f e g r =
          let plus : zero_q +ℚ a ≡ a = antisym (with1 a (λ c. omega (arith, c.le, c.lt, c.same))) in
          never v (sym g ∙ ap f (sym plus) ∙ r.rule zero_q (le_refl zero_q) ∙ ap (λ z. z +ₑ Fin v) e)

      no_part : (f : ℚ → Ext) (n : ℕ) → 2 ≤ n → f a ≡ Fin v → ((t : ℚ) → a <ℚ t → t <ℚ a +ℚ a → f t ≡ Inf)
          → ¬ (Repeats f a (a /ℚ int (pos n)) (v /ℚ int (pos n)))
      no_part f n two here none r =
          let M = int (pos n) in
          let positive : zero_q <ℚ M = nat_lt 0 n (omega arith) in
          let share = a /ℚ M in
          let back : share *ℚ M ≡ a = div_mul a M (not_zero M positive) in
          let low : zero_q <ℚ share = lt_of_mul M zero_q share positive (subst (λ z. zero_q *ℚ M <ℚ z) (sym back) (subst (λ z. z <ℚ a) (sym (zero_mul M)) some)) in
          let one : int (pos 1) <ℚ M = nat_lt 1 n (omega arith) in
          let longer : share *ℚ int (pos 1) <ℚ share *ℚ M = mul_lt_mul share low one in
          let high : share <ℚ a = subst (λ z. z <ℚ a) (mul_one share) (subst (λ z. share *ℚ int (pos 1) <ℚ z) back longer) in
          let value = none (a +ℚ share) (with2 a share (λ c. omega (arith, c.le, c.lt, c.same))) (with2 a share (λ c. omega (arith, c.le, c.lt, c.same))) in
          never (v +ℚ v /ℚ M) (sym (r.rule a (le_refl a) ∙ ap (λ z. z +ₑ Fin (v /ℚ M)) here) ∙ value)

      no_line : (f : ℚ → Ext) → f a ≡ Fin v → ((t : ℚ) → a <ℚ t → t <ℚ a +ℚ a → f t ≡ Inf) → (m : Option Line)
          → ¬ ((t : ℚ) → a ≤ℚ t → f t ≡ line_value m t)
      no_line f here none None r = never v (sym here ∙ r a (le_refl a))
      no_line f here none (Some l) r =
          let (t, p, q) = between a (a +ℚ a) (with1 a (λ c. omega (arith, c.le, c.lt, c.same))) in
          never _ (sym (r t (le_of_lt p)) ∙ none t p q)
