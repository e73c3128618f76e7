-- How many periods are enough for the part of a convolution in which the slower curve repeats to have the least sums: the
-- slower lies below a line of its rate, the faster above one of its own.
use Rattle.std.specs.Prelude.{◌≡◌, pos, [], ◌∷◌}
use Rattle.std.proofs.Common.{arith, sym, ap₂, ◌∙◌, subst, inl, inr}
use Rattle.rational.specs.Rational.{ℚ, ◌+ℚ◌, ◌-ℚ◌, ◌*ℚ◌, ◌≤ℚ◌, ◌<ℚ◌, int}
use Rattle.rational.specs.Extended.{Ext, ◌≤ₑ◌, ◌+ₑ◌}
use Rattle.rational.specs.declared.Extended.TheVariants.{Fin, Inf}
use Rattle.rational.proofs.Linear.{with_atoms, with2, with4, with5}
use Rattle.rational.proofs.Laws.{le_trans, mul_le_mul, mul_add, sub_mul, sub_add}
use Rattle.rational.proofs.ExtendedOrder.{le_ext_trans, add_le_ext, le_ext_refl, same_le_ext}
use Rattle.upp_curve.specs.Steady.{Repeats}
use Rattle.upp_normal.proofs.UnrollSteps.{ext_cases}
use Rattle.min_plus.specs.Convolution.{Split}
use Rattle.upp_limits.specs.Windows.{IsLateLeast}
use Rattle.curve_call.proofs.MostAbove.{moved_back, times_rate}
use Rattle.curve_conv.specs.declared.extremes.Extremes.{Extremes}
use Rattle.curve_conv.specs.LateBounds.{AreExtremes, most_gap}

-- ---- what the slower has gained, and k times the lead, is at most what the faster has and a period of it more
gained_by : (n m k r s p q a b u v d w : ℚ) → r *ℚ p ≡ a → s *ℚ q ≡ b → r *ℚ d ≡ u → s *ℚ d ≡ v → int (pos 0) ≤ℚ r → r ≤ℚ s → n *ℚ p ≤ℚ w → w ≤ℚ m *ℚ q +ℚ q → k *ℚ d ≤ℚ w
    → n *ℚ a +ℚ k *ℚ (v -ℚ u) ≤ℚ m *ℚ b +ℚ b
gained_by n m k r s p q a b u v d w ea eb eu ev some less low high far =
    let c = s -ℚ r in
    let up : int (pos 0) ≤ℚ c = with2 r s (λ c. omega (arith, c.le, c.lt, c.same)) in
    let slow : n *ℚ a ≤ℚ r *ℚ w = subst (λ y. y ≤ℚ r *ℚ w) (sym (times_rate n r p a ea)) (mul_le_mul r some low) in
    let led : k *ℚ (v -ℚ u) ≡ c *ℚ (k *ℚ d) = times_rate k c d (v -ℚ u) (sub_mul s r d ∙ ap₂ (λ (x y : ℚ). x -ℚ y) ev eu) in
    let apart : k *ℚ (v -ℚ u) ≤ℚ s *ℚ w -ℚ r *ℚ w = subst (λ y. y ≤ℚ s *ℚ w -ℚ r *ℚ w) (sym led) (subst (λ y. c *ℚ (k *ℚ d) ≤ℚ y) (sub_mul s r w) (mul_le_mul c up far)) in
    let same : s *ℚ (m *ℚ q +ℚ q) ≡ m *ℚ b +ℚ b = mul_add s (m *ℚ q) q ∙ ap₂ (λ (x y : ℚ). x +ℚ y) (sym (times_rate m s q b eb)) eb in
    let fast : s *ℚ w ≤ℚ m *ℚ b +ℚ b = subst (λ y. s *ℚ w ≤ℚ y) same (mul_le_mul s (le_trans some less) high) in
    linear (n *ℚ a) (r *ℚ w) (s *ℚ w) (k *ℚ (v -ℚ u)) (m *ℚ b +ℚ b) slow apart fast
  where
    linear : (x y z l h : ℚ) → x ≤ℚ y → l ≤ℚ z -ℚ y → z ≤ℚ h → x +ℚ l ≤ℚ h
    linear x y z l h below lead end = with5 x y z l h (λ c. omega (arith, c.le, c.lt, c.same))

-- ---- over functions
-- f repeats from x on with the period p, by a, and g from y on with q, by b; over d they rise by u and by v, and f no faster
pub record Turning (f g : ℚ → Ext) (x p y q d a b u v : ℚ) : Type 0 where
  pub first_some : int (pos 0) <ℚ p
  pub second_some : int (pos 0) <ℚ q
  pub first : Repeats f x p a
  pub second : Repeats g y q b
  pub low : ℚ
  pub high : ℚ
  pub first_rate : low *ℚ p ≡ a
  pub second_rate : high *ℚ q ≡ b
  pub first_rise : low *ℚ d ≡ u
  pub second_rise : high *ℚ d ≡ v
  pub rises : int (pos 0) ≤ℚ low
  pub slower : low ≤ℚ high

at_most : (β top na start low depth b lead mb v w : ℚ) → β ≤ℚ top +ℚ na +ℚ start → na +ℚ lead ≤ℚ mb +ℚ b → top +ℚ low +ℚ depth +ℚ start +ℚ b ≤ℚ lead → int (pos 0) ≤ℚ v +ℚ low → int (pos 0) ≤ℚ w +ℚ depth
    → β ≤ℚ v +ℚ (w +ℚ mb)
at_most β top na start low depth b lead mb v w h i j k l =
    with_atoms (β ∷ top ∷ na ∷ start ∷ low ∷ depth ∷ b ∷ lead ∷ mb ∷ v ∷ w ∷ []) (λ c. omega (arith, c.le, c.lt, c.same))

-- k times d after both repeat, where k times the lead is the gap or more
pub late_enough : (f g : ℚ → Ext) (x p y q d a b u v : ℚ) (e : Extremes) (k t : ℚ) → int (pos 0) ≤ℚ x → int (pos 0) ≤ℚ y → int (pos 0) ≤ℚ k *ℚ d → Turning f g x p y q d a b u v → AreExtremes f g x p y q b e
    → most_gap e ≤ℚ k *ℚ (v -ℚ u) → x +ℚ y +ℚ k *ℚ d ≤ℚ t → IsLateLeast f g x y t
late_enough f g x p y q d a b u v e k t nx ny nd T E bound far = λ β below i early after.
    let s = t -ℚ y in
    let late : x ≤ℚ s = begun x y (k *ℚ d) t nd far in
    let split : Split t = record { first = s; second = y; first_nonneg = le_trans nx late; second_nonneg = ny; whole = sub_add t y } in
    let F = moved_back f x p a s T.first_some T.first late in
    let G = moved_back g y q b i.second T.second_some T.second after in
    let na = int (pos F.number) *ℚ a in
    let mb = int (pos G.number) *ℚ b in
    let past : s -ℚ x ≤ℚ i.second -ℚ y = later i.first i.second x y t early i.whole in
    let gain : na +ℚ k *ℚ (v -ℚ u) ≤ℚ mb +ℚ b =
    gained_by (int (pos F.number)) (int (pos G.number)) k T.low T.high p q a b u v d (s -ℚ x) T.first_rate T.second_rate T.first_rise T.second_rise T.rises T.slower F.low (le_trans past G.high)
    (run x y (k *ℚ d) t far) in
    let up : f s ≤ₑ Fin (e.slow_top +ℚ na) =
    subst (λ z. z ≤ₑ Fin (e.slow_top +ℚ na)) (sym F.is) (add_le_ext (f F.early) (Fin e.slow_top) (Fin na) (Fin na) (E.slow_top F.early F.among) (le_ext_refl (Fin na))) in
    let most : Fin β ≤ₑ Fin (e.slow_top +ℚ na +ℚ e.fast_start) =
    le_ext_trans (Fin β) (f s +ₑ g y) (Fin (e.slow_top +ℚ na +ℚ e.fast_start)) (below split late) (add_le_ext (f s) (Fin (e.slow_top +ℚ na)) (g y) (Fin e.fast_start) up (same_le_ext E.fast_start)) in
    subst (λ z. Fin β ≤ₑ f i.first +ₑ z) (sym G.is)
    (elim (ext_cases (f i.first)) [
      | inl h ↦ subst (λ z. Fin β ≤ₑ z +ₑ (g G.early +ₑ Fin mb)) (sym h) tt
      | inr (z, h) ↦ elim (ext_cases (g G.early)) [
        | inl l ↦ subst (λ r. Fin β ≤ₑ f i.first +ₑ (r +ₑ Fin mb)) (sym l) (subst (λ r. Fin β ≤ₑ r +ₑ Inf) (sym h) tt)
        | inr (w, l) ↦
            let slow : int (pos 0) ≤ℚ z +ℚ e.slow_depth = subst (λ r. Fin (int (pos 0)) ≤ₑ r +ₑ Fin e.slow_depth) h (E.slow_depth i.first record { start = i.first_nonneg; before = within x p i.first T.first_some early }) in
            let fast : int (pos 0) ≤ℚ w +ℚ e.fast_depth = subst (λ r. Fin (int (pos 0)) ≤ₑ r +ₑ Fin e.fast_depth) l (E.fast_depth G.early G.among) in
            let sums : β ≤ℚ z +ℚ (w +ℚ mb) =
            at_most β e.slow_top na e.fast_start e.slow_depth e.fast_depth e.fast_rise (k *ℚ (v -ℚ u)) mb z w most (subst (λ r. na +ℚ k *ℚ (v -ℚ u) ≤ℚ mb +ℚ r) (sym E.fast_rise) gain) bound slow fast in
            subst (λ r. Fin β ≤ₑ f i.first +ₑ (r +ₑ Fin mb)) (sym l) (subst (λ r. Fin β ≤ₑ r +ₑ (Fin w +ₑ Fin mb)) (sym h) sums)
      ]
    ])
  where
    begun : (x y w t : ℚ) → int (pos 0) ≤ℚ w → x +ℚ y +ℚ w ≤ℚ t → x ≤ℚ t -ℚ y
    begun x y w t a b = with4 x y w t (λ c. omega (arith, c.le, c.lt, c.same))

    run : (x y w t : ℚ) → x +ℚ y +ℚ w ≤ℚ t → w ≤ℚ t -ℚ y -ℚ x
    run x y w t a = with4 x y w t (λ c. omega (arith, c.le, c.lt, c.same))

    later : (i j x y t : ℚ) → i <ℚ x → i +ℚ j ≡ t → t -ℚ y -ℚ x ≤ℚ j -ℚ y
    later i j x y t a b = with5 i j x y t (λ c. omega (arith, c.le, c.lt, c.same))

    within : (x p i : ℚ) → int (pos 0) <ℚ p → i <ℚ x → i <ℚ x +ℚ p
    within x p i a b = with4 x p i i (λ c. omega (arith, c.le, c.lt, c.same))
