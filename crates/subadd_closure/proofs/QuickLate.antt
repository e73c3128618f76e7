-- How far up the part of a convolution reaches in which the slower function repeats, and that this bounds the number of
-- periods: over functions.
use Rattle.std.specs.Prelude.{◌≡◌, pos, [], ◌∷◌}
use Rattle.std.proofs.Common.{arith, sym, ap, ap₂, ◌∙◌, subst, inl, inr}
use Rattle.rational.specs.Rational.{ℚ, ◌+ℚ◌, ◌-ℚ◌, ◌*ℚ◌, ◌≤ℚ◌, ◌<ℚ◌, int}
use Rattle.rational.specs.Extended.{Ext, ◌≤ₑ◌, ◌+ₑ◌}
use Rattle.rational.specs.declared.Extended.TheVariants.{Fin, Inf}
use Rattle.rational.proofs.Linear.{with_atoms, with2, with3, with4, with5, with6}
use Rattle.rational.proofs.Laws.{le_refl, le_trans, le_of_lt, add_comm, add_zero, sub_add, mul_add, sub_mul, mul_le_mul, mul_nonneg}
use Rattle.rational.proofs.Integers.{nat_nonneg}
use Rattle.rational.proofs.ExtendedOrder.{le_ext_trans, add_le_ext, le_ext_refl, same_le_ext}
use Rattle.upp_curve.specs.Steady.{Repeats}
use Rattle.upp_normal.proofs.UnrollSteps.{ext_cases}
use Rattle.upp_limits.specs.Windows.{IsLateLeast}
use Rattle.curve_call.proofs.MostAbove.{moved_back, times_rate}
use Rattle.curve_call.proofs.Shifts.{later_value}
use Rattle.curve_conv.specs.LateBounds.{IsTop, IsDepth}
use Rattle.subadd_closure.specs.QuickBounds.{Reaches}
use Rattle.rational.proofs.Stretch.{not_earlier}

-- ---- up
-- a number of periods costs at most what the line does
run_most : (n r p a w : ℚ) → r *ℚ p ≡ a → int (pos 0) ≤ℚ r → n *ℚ p ≤ℚ w → n *ℚ a ≤ℚ r *ℚ w
run_most n r p a w e some low = subst (λ y. y ≤ℚ r *ℚ w) (sym (times_rate n r p a e)) (mul_le_mul r some low)

-- by the value of g at 0, where f is a number all through its period
pub reach_from_zero : (f g : ℚ → Ext) (x p y a r top start t : ℚ) → int (pos 0) ≤ℚ y → int (pos 0) ≤ℚ t → x ≤ℚ t → int (pos 0) <ℚ p
    → Repeats f x p a → r *ℚ p ≡ a → int (pos 0) ≤ℚ r → IsTop f x (x +ℚ p) top → g (int (pos 0)) ≡ Fin start
    → Reaches f g x y r (top +ℚ start +ℚ r *ℚ y) t
reach_from_zero f g x p y a r top start t ny nt late some R e nr up at =
    let F = moved_back f x p a t some R late in
    let na = int (pos F.number) *ℚ a in
    let w = t -ℚ y -ℚ x in
    let gone : t -ℚ x ≡ w +ℚ y = with3 t y x (λ c. omega (arith, c.le, c.lt, c.same)) in
    let line : r *ℚ (t -ℚ x) ≡ r *ℚ w +ℚ r *ℚ y = ap (λ z. r *ℚ z) gone ∙ mul_add r w y in
    let run : na ≤ℚ r *ℚ w +ℚ r *ℚ y = subst (λ z. na ≤ℚ z) line (run_most (int (pos F.number)) r p a (t -ℚ x) e nr F.low) in
    let high : f t ≤ₑ Fin (top +ℚ na) =
    subst (λ z. z ≤ₑ Fin (top +ℚ na)) (sym F.is) (add_le_ext (f F.early) (Fin top) (Fin na) (Fin na) (up F.early F.among) (le_ext_refl (Fin na))) in
    let sums : f t +ₑ g (int (pos 0)) ≤ₑ Fin (top +ℚ na +ℚ start) =
    add_le_ext (f t) (Fin (top +ℚ na)) (g (int (pos 0))) (Fin start) high (same_le_ext at) in
    record {
      split = record { first = t; second = int (pos 0); first_nonneg = nt; second_nonneg = le_refl (int (pos 0)); whole = add_zero t };
      late = late;
      most = le_ext_trans (f t +ₑ g (int (pos 0))) (Fin (top +ℚ na +ℚ start)) (Fin (top +ℚ start +ℚ r *ℚ y +ℚ r *ℚ w)) sums
          (ends top na start (r *ℚ y) (r *ℚ w) run);
    }
  where
    ends : (top na start u v : ℚ) → na ≤ℚ v +ℚ u → top +ℚ na +ℚ start ≤ℚ top +ℚ start +ℚ u +ℚ v
    ends top na start u v h = with5 top na start u v (λ c. omega (arith, c.le, c.lt, c.same))

-- a time and one later
later_nonneg : (x y : ℚ) → int (pos 0) ≤ℚ x → int (pos 0) ≤ℚ y → int (pos 0) ≤ℚ x +ℚ y
later_nonneg x y a b = with2 x y (λ c. omega (arith, c.le, c.lt, c.same))

-- by the value of f where it begins to repeat, where g is a number all through its period
pub reach_from_start : (f g : ℚ → Ext) (x p y q a b r s top start t : ℚ) → int (pos 0) ≤ℚ x → int (pos 0) ≤ℚ y → x +ℚ y ≤ℚ t → int (pos 0) <ℚ p
    → int (pos 0) <ℚ q → Repeats f x p a → Repeats g y q b → r *ℚ p ≡ a → s *ℚ q ≡ b → int (pos 0) ≤ℚ r → int (pos 0) ≤ℚ s → f x ≡ Fin start
    → IsTop g y (y +ℚ q) top → Reaches f g x y r (start +ℚ top +ℚ s *ℚ p) t
reach_from_start f g x p y q a b r s top start t nx ny far some each R Q e h nr ns at up =
    let late : x ≤ℚ t -ℚ y = with3 x y t (λ c. omega (arith, c.le, c.lt, c.same)) in
    let F = moved_back f x p a (t -ℚ y) some R late in
    let np = int (pos F.number) *ℚ p in
    let na = int (pos F.number) *ℚ a in
    let low = F.low in
    let high = F.high in
    let u = t -ℚ (x +ℚ np) in
    let after : y ≤ℚ u = with4 t y x np (λ c. omega (arith, c.le, c.lt, c.same)) in
    let soon : u -ℚ y ≤ℚ p = with5 t y x np p (λ c. omega (arith, c.le, c.lt, c.same)) in
    let G = moved_back g y q b u each Q after in
    let mb = int (pos G.number) *ℚ b in
    let gained : mb ≤ℚ s *ℚ p = le_trans (run_most (int (pos G.number)) s q b (u -ℚ y) h ns G.low) (mul_le_mul s ns soon) in
    let run : na ≤ℚ r *ℚ (t -ℚ y -ℚ x) = run_most (int (pos F.number)) r p a (t -ℚ y -ℚ x) e nr F.low in
    let first : f (x +ℚ np) ≡ Fin (start +ℚ na) = later_value f x p a x F.number (le_of_lt some) R (le_refl x) ∙ ap (λ z. z +ₑ Fin na) at in
    let second : g u ≤ₑ Fin (top +ℚ mb) =
    subst (λ z. z ≤ₑ Fin (top +ℚ mb)) (sym G.is) (add_le_ext (g G.early) (Fin top) (Fin mb) (Fin mb) (up G.early G.among) (le_ext_refl (Fin mb))) in
    let sums : f (x +ℚ np) +ₑ g u ≤ₑ Fin (start +ℚ na +ℚ (top +ℚ mb)) =
    add_le_ext (f (x +ℚ np)) (Fin (start +ℚ na)) (g u) (Fin (top +ℚ mb)) (same_le_ext first) second in
    let more : int (pos 0) ≤ℚ np = mul_nonneg (nat_nonneg F.number) (le_of_lt some) in
    record {
      split = record {
        first = x +ℚ np;
        second = u;
        first_nonneg = later_nonneg x np nx more;
        second_nonneg = le_trans ny after;
        whole = add_comm (x +ℚ np) (t -ℚ (x +ℚ np)) ∙ sub_add t (x +ℚ np);
      };
      late = not_earlier x np more;
      most = le_ext_trans (f (x +ℚ np) +ₑ g u) (Fin (start +ℚ na +ℚ (top +ℚ mb))) (Fin (start +ℚ top +ℚ s *ℚ p +ℚ r *ℚ (t -ℚ y -ℚ x))) sums
          (ends start na top mb (s *ℚ p) (r *ℚ (t -ℚ y -ℚ x)) run gained);
    }
  where
    ends : (start na top mb u v : ℚ) → na ≤ℚ v → mb ≤ℚ u → start +ℚ na +ℚ (top +ℚ mb) ≤ℚ start +ℚ top +ℚ u +ℚ v
    ends start na top mb u v h k = with6 start na top mb u v (λ c. omega (arith, c.le, c.lt, c.same))

-- ---- down
-- what g has from some time on is at least what a line has, less a period
line_below : (m s q b w v : ℚ) → s *ℚ q ≡ b → int (pos 0) ≤ℚ s → w ≤ℚ v → v ≤ℚ m *ℚ q +ℚ q → s *ℚ w ≤ℚ m *ℚ b +ℚ b
line_below m s q b w v e some less high =
    let same : s *ℚ (m *ℚ q +ℚ q) ≡ m *ℚ b +ℚ b = mul_add s (m *ℚ q) q ∙ ap₂ (λ (x y : ℚ). x +ℚ y) (sym (times_rate m s q b e)) e in
    subst (λ y. s *ℚ w ≤ℚ y) same (mul_le_mul s some (le_trans less high))

-- the lead over w is k times that over d or more
lead_over : (k r s d u v w : ℚ) → r *ℚ d ≡ u → s *ℚ d ≡ v → r ≤ℚ s → k *ℚ d ≤ℚ w → k *ℚ (v -ℚ u) ≤ℚ s *ℚ w -ℚ r *ℚ w
lead_over k r s d u v w eu ev less far =
    let c = s -ℚ r in
    let up : int (pos 0) ≤ℚ c = with2 r s (λ c. omega (arith, c.le, c.lt, c.same)) in
    let led : k *ℚ (v -ℚ u) ≡ c *ℚ (k *ℚ d) = times_rate k c d (v -ℚ u) (sub_mul s r d ∙ ap₂ (λ (x y : ℚ). x -ℚ y) ev eu) in
    subst (λ y. y ≤ℚ s *ℚ w -ℚ r *ℚ w) (sym led) (subst (λ y. c *ℚ (k *ℚ d) ≤ℚ y) (sub_mul s r w) (mul_le_mul c up far))

at_most : (β level rw slow fast b lead sw mb z g : ℚ) → β ≤ℚ level +ℚ rw → level +ℚ (slow +ℚ fast +ℚ b) ≤ℚ lead → lead ≤ℚ sw -ℚ rw → sw ≤ℚ mb +ℚ b
    → int (pos 0) ≤ℚ z +ℚ slow → int (pos 0) ≤ℚ g +ℚ fast → β ≤ℚ z +ℚ (g +ℚ mb)
at_most β level rw slow fast b lead sw mb z g h i j k l m =
    with_atoms (β ∷ level ∷ rw ∷ slow ∷ fast ∷ b ∷ lead ∷ sw ∷ mb ∷ z ∷ g ∷ []) (λ c. omega (arith, c.le, c.lt, c.same))

-- k times d after both repeat, where k times the lead is what lies between or more
pub late_by_level : (f g : ℚ → Ext) (x p y q d b r s u v level slow fast k t : ℚ) → int (pos 0) <ℚ p → int (pos 0) <ℚ q → Repeats g y q b → s *ℚ q ≡ b
    → r *ℚ d ≡ u → s *ℚ d ≡ v → int (pos 0) ≤ℚ s → r ≤ℚ s → IsDepth f (int (pos 0)) (x +ℚ p) slow → IsDepth g y (y +ℚ q) fast → Reaches f g x y r level t
    → level +ℚ (slow +ℚ fast +ℚ b) ≤ℚ k *ℚ (v -ℚ u) → x +ℚ y +ℚ k *ℚ d ≤ℚ t → IsLateLeast f g x y t
late_by_level f g x p y q d b r s u v level slow fast k t some each Q e eu ev ns less S D H bound far = λ β below i early after.
    let w = t -ℚ y -ℚ x in
    let G = moved_back g y q b i.second each Q after in
    let mb = int (pos G.number) *ℚ b in
    let kd = k *ℚ d in
    let run : kd ≤ℚ w = with4 x y kd t (λ c. omega (arith, c.le, c.lt, c.same)) in
    let past : w ≤ℚ i.second -ℚ y = later i.first i.second x y t early i.whole in
    let gain : s *ℚ w ≤ℚ mb +ℚ b = line_below (int (pos G.number)) s q b w (i.second -ℚ y) e ns past G.high in
    let led = lead_over k r s d u v w eu ev less run in
    let most : Fin β ≤ₑ Fin (level +ℚ r *ℚ w) =
    le_ext_trans (Fin β) (f H.split.first +ₑ g H.split.second) (Fin (level +ℚ r *ℚ w)) (below H.split H.late) H.most in
    subst (λ z. Fin β ≤ₑ f i.first +ₑ z) (sym G.is)
    (elim (ext_cases (f i.first)) [
      | inl h ↦ subst (λ z. Fin β ≤ₑ z +ₑ (g G.early +ₑ Fin mb)) (sym h) tt
      | inr (z, h) ↦ elim (ext_cases (g G.early)) [
        | inl l ↦ subst (λ r. Fin β ≤ₑ f i.first +ₑ (r +ₑ Fin mb)) (sym l) (subst (λ r. Fin β ≤ₑ r +ₑ Inf) (sym h) tt)
        | inr (m, l) ↦
            let one : int (pos 0) ≤ℚ z +ℚ slow = subst (λ r. Fin (int (pos 0)) ≤ₑ r +ₑ Fin slow) h (S i.first record { start = i.first_nonneg; before = within x p i.first some early }) in
            let two : int (pos 0) ≤ℚ m +ℚ fast = subst (λ r. Fin (int (pos 0)) ≤ₑ r +ₑ Fin fast) l (D G.early G.among) in
            let sums : β ≤ℚ z +ℚ (m +ℚ mb) = at_most β level (r *ℚ w) slow fast b (k *ℚ (v -ℚ u)) (s *ℚ w) mb z m most bound led gain one two in
            subst (λ r. Fin β ≤ₑ f i.first +ₑ (r +ₑ Fin mb)) (sym l) (subst (λ r. Fin β ≤ₑ r +ₑ (Fin m +ₑ Fin mb)) (sym h) sums)
      ]
    ])
  where
    later : (i j x y t : ℚ) → i <ℚ x → i +ℚ j ≡ t → t -ℚ y -ℚ x ≤ℚ j -ℚ y
    later i j x y t a b = with5 i j x y t (λ c. omega (arith, c.le, c.lt, c.same))

    within : (x p i : ℚ) → int (pos 0) <ℚ p → i <ℚ x → i <ℚ x +ℚ p
    within x p i a b = with3 x p i (λ c. omega (arith, c.le, c.lt, c.same))
