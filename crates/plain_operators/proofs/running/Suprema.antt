-- The supremum over the times up to a time, taken further: by a value, and along a line.
use Rattle.std.specs.Prelude.{◌≡◌, ◌⊎◌}
use Rattle.std.proofs.Common.{sym, ap, ◌∙◌, subst, inl, inr}
use Rattle.rational.specs.Rational.{ℚ, ◌≤ℚ◌, ◌<ℚ◌}
use Rattle.rational.specs.MinMax.{max_q}
use Rattle.rational.specs.Extended.{Ext, ◌≤ₑ◌, ◌<ₑ◌}
use Rattle.rational.specs.Bounds.{IsSupremum}
use Rattle.rational.specs.Stretch.{Between}
use Rattle.rational.specs.declared.Extended.TheVariants.{Fin}
use Rattle.rational.proofs.Laws.{antisym, le_refl, le_of_lt, le_or_lt, le_trans, lt_irrefl, lt_le_trans, le_lt_trans}
use Rattle.rational.proofs.ExtendedOrder.{le_ext_trans, same_le_ext}
use Rattle.rational.proofs.MinMax.{max_q_one, max_q_ge_left, max_q_ge_right}
use Rattle.rational.proofs.Stretch.{line_supremum}
use Rattle.upp_curve.specs.declared.affine_segment.line.Line.{Line}
use Rattle.upp_curve.specs.affine_segment.Values.{line_at}
use Rattle.min_plus.specs.Functions.{zero_q, UpTo}
use Rattle.plain_operators.specs.running.Bends.{risen}
use Rattle.plain_operators.proofs.running.Levels.{line_top}

-- 0, or a time from 0 on that is before b
pub record Early (b : ℚ) : Type 0 where
  pub at : ℚ
  pub nonneg : zero_q ≤ℚ at
  pub early : (at ≡ zero_q) ⊎ (at <ℚ b)

abbrev pub IsEarly : (ℚ → Ext) → ℚ → ℚ → Type 0
IsEarly f b v = IsSupremum {I = Early b} (λ s. f s.at) (Fin v)

abbrev pub IsUpTo : (ℚ → Ext) → ℚ → ℚ → Type 0
IsUpTo f t v = IsSupremum {I = UpTo t} (λ s. f s.at) (Fin v)

-- at 0 there is only its value
pub early_start : (f : ℚ → Ext) (b v : ℚ) → b ≡ zero_q → f b ≡ Fin v → IsEarly f b v
early_start f b v e h = record {
  above = λ s. same_le_ext (ap f (only s) ∙ h);
  near = λ y l. (record { at = b; nonneg = subst (λ z. zero_q ≤ℚ z) (sym e) (le_refl zero_q); early = inl e }, subst (λ z. Fin y <ₑ z) (sym h) l);
}
  where
    only : (s : Early b) → s.at ≡ b
    only s = elim s.early [
      | inl z ↦ z ∙ sym e
      | inr l ↦ absurd (lt_irrefl zero_q (le_lt_trans s.nonneg (subst (λ z. s.at <ℚ z) e l)))
    ]

-- the value at x counts
pub upto_value : (f : ℚ → Ext) (x level v : ℚ) → zero_q ≤ℚ x → f x ≡ Fin v → IsEarly f x level → IsUpTo f x (max_q level v)
upto_value f x level v low h k = record { above = over; near = close }
  where
    over : (s : UpTo x) → f s.at ≤ₑ Fin (max_q level v)
    over s = elim (le_or_lt x s.at) [
      | inl l ↦ le_ext_trans (f s.at) (Fin v) (Fin (max_q level v)) (same_le_ext (ap f (antisym (s.most, l)) ∙ h)) (max_q_ge_right level v)
      | inr l ↦ le_ext_trans (f s.at) (Fin level) (Fin (max_q level v)) (k.above record { at = s.at; nonneg = s.nonneg; early = inr l }) (max_q_ge_left level v)
    ]

    close : (y : ℚ) → y <ℚ max_q level v → (s : UpTo x) × (Fin y <ₑ f s.at)
    close y l = elim (max_q_one level v) [
      | inl e ↦ let (s, m) = k.near y (subst (λ z. y <ℚ z) e l) in (record { at = s.at; nonneg = s.nonneg; most = soon s.at s.early }, m)
      | inr e ↦ (record { at = x; nonneg = low; most = le_refl x }, subst (λ z. Fin y <ₑ z) (sym h) (subst (λ z. y <ℚ z) e l))
    ]
      where
        soon : (u : ℚ) → ((u ≡ zero_q) ⊎ (u <ℚ x)) → u ≤ℚ x
        soon u (inl z) = subst (λ w. w ≤ℚ x) (sym z) low
        soon u (inr m) = le_of_lt m

-- between x and e it is the line l
abbrev pub IsLineOn : (ℚ → Ext) → ℚ → ℚ → Line → Type 0
IsLineOn f x e l = (t : ℚ) → x <ℚ t → t <ℚ e → f t ≡ Fin (line_at l t)

-- past x, up to s, which is before e
along : (f : ℚ → Ext) (x e t level : ℚ) (l : Line) (s : ℚ) → IsLineOn f x e l → x <ℚ s → s <ℚ e → s ≤ℚ t → f s ≤ₑ Fin (risen level l x t)
along f x e t level l s on past early most =
    le_ext_trans (f s) (Fin (max_q (line_at l x) (line_at l t))) (Fin (risen level l x t))
    (subst (λ z. z ≤ₑ Fin (max_q (line_at l x) (line_at l t))) (sym (on s past early)) (line_top l x s t (le_of_lt past) most))
    (max_q_ge_right level (max_q (line_at l x) (line_at l t)))

close_along : (f : ℚ → Ext) (x e t y : ℚ) (l : Line) → IsLineOn f x e l → x <ℚ t → t ≤ℚ e → y <ℚ max_q (line_at l x) (line_at l t)
    → (s : Between x t) × (Fin y <ₑ f s.at)
close_along f x e t y l on past most h =
    let (s, m) = (line_supremum x t l.icept l.slope past).near y h in
    (s, subst (λ z. Fin y <ₑ z) (sym (on s.at s.above (lt_le_trans s.below most))) m)

pub upto_line : (f : ℚ → Ext) (x e t level : ℚ) (l : Line) → zero_q ≤ℚ x → IsLineOn f x e l → x <ℚ t → t <ℚ e → IsUpTo f x level → IsUpTo f t (risen level l x t)
upto_line f x e t level l low on past early k = record { above = over; near = close }
  where
    over : (s : UpTo t) → f s.at ≤ₑ Fin (risen level l x t)
    over s = elim (le_or_lt s.at x) [
      | inl m ↦
          le_ext_trans (f s.at) (Fin level) (Fin (risen level l x t)) (k.above record { at = s.at; nonneg = s.nonneg; most = m })
          (max_q_ge_left level (max_q (line_at l x) (line_at l t)))
      | inr m ↦ along f x e t level l s.at on m (le_lt_trans s.most early) s.most
    ]

    close : (y : ℚ) → y <ℚ risen level l x t → (s : UpTo t) × (Fin y <ₑ f s.at)
    close y h = elim (max_q_one level (max_q (line_at l x) (line_at l t))) [
      | inl q ↦
          let (s, m) = k.near y (subst (λ z. y <ℚ z) q h) in (record { at = s.at; nonneg = s.nonneg; most = le_trans s.most (le_of_lt past) }, m)
      | inr q ↦
          let (s, m) = close_along f x e t y l on past (le_of_lt early) (subst (λ z. y <ℚ z) q h) in
          (record { at = s.at; nonneg = le_trans low (le_of_lt s.above); most = le_of_lt s.below }, m)
    ]

pub early_line : (f : ℚ → Ext) (x e level : ℚ) (l : Line) → zero_q ≤ℚ x → IsLineOn f x e l → x <ℚ e → IsUpTo f x level → IsEarly f e (risen level l x e)
early_line f x e level l low on past k = record { above = over; near = close }
  where
    over : (s : Early e) → f s.at ≤ₑ Fin (risen level l x e)
    over s = elim (le_or_lt s.at x) [
      | inl m ↦
          le_ext_trans (f s.at) (Fin level) (Fin (risen level l x e)) (k.above record { at = s.at; nonneg = s.nonneg; most = m })
          (max_q_ge_left level (max_q (line_at l x) (line_at l e)))
      | inr m ↦ late s m s.early
    ]
      where
        late : (s : Early e) → x <ℚ s.at → ((s.at ≡ zero_q) ⊎ (s.at <ℚ e)) → f s.at ≤ₑ Fin (risen level l x e)
        late s m (inl z) = absurd (lt_irrefl zero_q (le_lt_trans low (subst (λ w. x <ℚ w) z m)))
        late s m (inr q) = along f x e e level l s.at on m q (le_of_lt q)

    close : (y : ℚ) → y <ℚ risen level l x e → (s : Early e) × (Fin y <ₑ f s.at)
    close y h = elim (max_q_one level (max_q (line_at l x) (line_at l e))) [
      | inl q ↦
          let (s, m) = k.near y (subst (λ z. y <ℚ z) q h) in (record { at = s.at; nonneg = s.nonneg; early = inr (le_lt_trans s.most past) }, m)
      | inr q ↦
          let (s, m) = close_along f x e e y l on past (le_refl e) (subst (λ z. y <ℚ z) q h) in
          (record { at = s.at; nonneg = le_trans low (le_of_lt s.above); early = inr s.below }, m)
    ]
