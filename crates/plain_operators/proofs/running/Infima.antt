-- The infimum over the times from a time on that are before an end, taken further back: along a line, and by a value. A number counts as one more
-- value: the limit at the end, which no time there takes.
use Rattle.std.specs.Prelude.{◌≡◌, ◌⊎◌}
use Rattle.std.proofs.Common.{sym, ap, ◌∙◌, subst, inl, inr}
use Rattle.rational.specs.Rational.{ℚ, ◌≤ℚ◌, ◌<ℚ◌}
use Rattle.rational.specs.MinMax.{min_q, max_q}
use Rattle.rational.specs.Extended.{Ext, ◌≤ₑ◌, ◌<ₑ◌}
use Rattle.rational.specs.Bounds.{IsInfimum}
use Rattle.rational.specs.Stretch.{Between}
use Rattle.rational.specs.declared.Extended.TheVariants.{Fin}
use Rattle.rational.proofs.Laws.{antisym, le_refl, le_of_lt, le_or_lt, le_trans, lt_irrefl, lt_le_trans, le_lt_trans}
use Rattle.rational.proofs.ExtendedOrder.{le_ext_trans, same_le_ext}
use Rattle.rational.proofs.MinMax.{min_q_one, min_q_le_left, min_q_le_right, max_q_ge_left, max_q_ge_right, max_q_lt}
use Rattle.rational.proofs.Stretch.{line_infimum}
use Rattle.upp_curve.specs.declared.affine_segment.line.Line.{Line}
use Rattle.upp_curve.specs.affine_segment.Values.{line_at}
use Rattle.plain_operators.specs.running.Scans.{Until, IsInfimumUntil}
use Rattle.plain_operators.specs.running.Bends.{sunk}
use Rattle.plain_operators.proofs.running.Levels.{line_bottom}
use Rattle.plain_operators.proofs.running.Suprema.{IsLineOn}

-- the values from b on before `end`, and w
abbrev pub with_limit : (ℚ → Ext) → ℚ → (b end : ℚ) → Until b end ⊎ Unit {0} → Ext
with_limit f w b end (inl s) = f s.at
with_limit f w b end (inr u) = Fin w

abbrev pub IsLate : (ℚ → Ext) → ℚ → ℚ → ℚ → ℚ → Type 0
IsLate f w end b v = IsInfimum {I = Until b end ⊎ Unit {0}} (with_limit f w b end) (Fin v)

-- at the end there is only w
pub late_start : (f : ℚ → Ext) (w end : ℚ) → IsLate f w end end w
late_start f w end = record { below = under; near = λ y l. (inr tt, l) }
  where
    under : (i : Until end end ⊎ Unit {0}) → Fin w ≤ₑ with_limit f w end end i
    under (inl s) = absurd (lt_irrefl end (le_lt_trans s.least s.early))
    under (inr u) = le_refl w

close_along : (f : ℚ → Ext) (x e t y : ℚ) (l : Line) → IsLineOn f x e l → x ≤ℚ t → t <ℚ e → min_q (line_at l t) (line_at l e) <ℚ y
    → (s : Between t e) × (f s.at <ₑ Fin y)
close_along f x e t y l on past early h =
    let (s, m) = (line_infimum t e l.icept l.slope early).near y h in
    (s, subst (λ z. z <ₑ Fin y) (sym (on s.at (le_lt_trans past s.above) s.below)) m)

-- from a time on that is past x or at it; at x itself the value is left out
pub record Past (x t s : ℚ) : Type 0 where
  pub late : x <ℚ s
  pub from : t ≤ℚ s

along : (f : ℚ → Ext) (x e t level : ℚ) (l : Line) (s : ℚ) → IsLineOn f x e l → x <ℚ s → s <ℚ e → t ≤ℚ s → Fin (sunk level l e t) ≤ₑ f s
along f x e t level l s on past early from =
    le_ext_trans (Fin (sunk level l e t)) (Fin (min_q (line_at l t) (line_at l e))) (f s)
    (min_q_le_right level (min_q (line_at l t) (line_at l e)))
    (subst (λ z. Fin (min_q (line_at l t) (line_at l e)) ≤ₑ z) (sym (on s past early)) (line_bottom l t s e from (le_of_lt early)))

pub late_line : (f : ℚ → Ext) (w end x e t level : ℚ) (l : Line) → IsLineOn f x e l → e ≤ℚ end → x <ℚ t → t <ℚ e → IsLate f w end e level → IsLate f w end t (sunk level l e t)
late_line f w end x e t level l on most past early k = record { below = under; near = close }
  where
    under : (i : Until t end ⊎ Unit {0}) → Fin (sunk level l e t) ≤ₑ with_limit f w t end i
    under (inl s) = elim (le_or_lt e s.at) [
      | inl m ↦
          le_ext_trans (Fin (sunk level l e t)) (Fin level) (f s.at) (min_q_le_left level (min_q (line_at l t) (line_at l e)))
          (k.below (inl record { at = s.at; least = m; early = s.early }))
      | inr m ↦ along f x e t level l s.at on (lt_le_trans past s.least) m s.least
    ]
    under (inr u) = le_ext_trans (Fin (sunk level l e t)) (Fin level) (Fin w) (min_q_le_left level (min_q (line_at l t) (line_at l e))) (k.below (inr u))

    later : (y : ℚ) → (i : Until e end ⊎ Unit {0}) → with_limit f w e end i <ₑ Fin y → (j : Until t end ⊎ Unit {0}) × (with_limit f w t end j <ₑ Fin y)
    later y (inl s) m = (inl record { at = s.at; least = le_trans (le_of_lt early) s.least; early = s.early }, m)
    later y (inr u) m = (inr u, m)

    close : (y : ℚ) → sunk level l e t <ℚ y → (i : Until t end ⊎ Unit {0}) × (with_limit f w t end i <ₑ Fin y)
    close y h = elim (min_q_one level (min_q (line_at l t) (line_at l e))) [
      | inl q ↦ let (i, m) = k.near y (subst (λ z. z <ℚ y) q h) in later y i m
      | inr q ↦
          let (s, m) = close_along f x e t y l on (le_of_lt past) early (subst (λ z. z <ℚ y) q h) in
          (inl record { at = s.at; least = le_of_lt s.above; early = lt_le_trans s.below most }, m)
    ]

pub late_value : (f : ℚ → Ext) (w end x e level v : ℚ) (l : Line) → IsLineOn f x e l → e ≤ℚ end → x <ℚ e → f x ≡ Fin v → IsLate f w end e level
    → IsLate f w end x (min_q v (sunk level l e x))
late_value f w end x e level v l on most some h k = record { below = under; near = close }
  where
    under : (i : Until x end ⊎ Unit {0}) → Fin (min_q v (sunk level l e x)) ≤ₑ with_limit f w x end i
    under (inl s) = elim (le_or_lt e s.at) [
      | inl m ↦
          le_ext_trans (Fin (min_q v (sunk level l e x))) (Fin (sunk level l e x)) (f s.at) (min_q_le_right v (sunk level l e x))
          (le_ext_trans (Fin (sunk level l e x)) (Fin level) (f s.at) (min_q_le_left level (min_q (line_at l x) (line_at l e)))
          (k.below (inl record { at = s.at; least = m; early = s.early })))
      | inr m ↦ elim (le_or_lt s.at x) [
        | inl q ↦
            le_ext_trans (Fin (min_q v (sunk level l e x))) (Fin v) (f s.at) (min_q_le_left v (sunk level l e x)) (same_le_ext (sym h ∙ ap f (antisym (s.least, q))))
        | inr q ↦
            le_ext_trans (Fin (min_q v (sunk level l e x))) (Fin (sunk level l e x)) (f s.at) (min_q_le_right v (sunk level l e x)) (along f x e x level l s.at on q m s.least)
      ]
    ]
    under (inr u) =
        le_ext_trans (Fin (min_q v (sunk level l e x))) (Fin (sunk level l e x)) (Fin w) (min_q_le_right v (sunk level l e x))
        (le_ext_trans (Fin (sunk level l e x)) (Fin level) (Fin w) (min_q_le_left level (min_q (line_at l x) (line_at l e))) (k.below (inr u)))

    later : (y : ℚ) → (i : Until e end ⊎ Unit {0}) → with_limit f w e end i <ₑ Fin y → (j : Until x end ⊎ Unit {0}) × (with_limit f w x end j <ₑ Fin y)
    later y (inl s) m = (inl record { at = s.at; least = le_trans (le_of_lt some) s.least; early = s.early }, m)
    later y (inr u) m = (inr u, m)

    close : (y : ℚ) → min_q v (sunk level l e x) <ℚ y → (i : Until x end ⊎ Unit {0}) × (with_limit f w x end i <ₑ Fin y)
    close y h' = elim (min_q_one v (sunk level l e x)) [
      | inl q ↦ (inl record { at = x; least = le_refl x; early = lt_le_trans some most }, subst (λ z. z <ₑ Fin y) (sym h) (subst (λ z. z <ℚ y) q h'))
      | inr q ↦
          let g : sunk level l e x <ℚ y = subst (λ z. z <ℚ y) q h' in
          elim (min_q_one level (min_q (line_at l x) (line_at l e))) [
            | inl q' ↦ let (i, m) = k.near y (subst (λ z. z <ℚ y) q' g) in later y i m
            | inr q' ↦
                let (s, m) = close_along f x e x y l on (le_refl x) some (subst (λ z. z <ℚ y) q' g) in
                (inl record { at = s.at; least = le_of_lt s.above; early = lt_le_trans s.below most }, m)
          ]
    ]

-- the limit at the end of the last line is no value of its own
pub late_end : (f : ℚ → Ext) (end x t v : ℚ) (l : Line) → IsLineOn f x end l → x <ℚ end → t <ℚ end → IsLate f (line_at l end) end t v → IsInfimumUntil f end t (Fin v)
late_end f end x t v l on some early k = record { below = λ s. k.below (inl s); near = λ y h. let (i, m) = k.near y h in take y i m }
  where
    take : (y : ℚ) → (i : Until t end ⊎ Unit {0}) → with_limit f (line_at l end) t end i <ₑ Fin y → (s : Until t end) × (f s.at <ₑ Fin y)
    take y (inl s) m = (s, m)
    take y (inr u) m =
        let from = max_q x t in
        let (s, g) = close_along f x end from y l on (max_q_ge_left x t) (max_q_lt x t end some early) (le_lt_trans (min_q_le_right (line_at l from) (line_at l end)) m) in
        (record { at = s.at; least = le_trans (max_q_ge_right x t) (le_of_lt s.above); early = s.below }, g)
