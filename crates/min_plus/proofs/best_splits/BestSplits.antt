-- A best split moved a little either way is no better: so the slope of the one before it is at most that of the other after it.
use Rattle.std.specs.Prelude.{◌≡◌, ◌⊎◌, Option, Some, None}
use Rattle.std.proofs.Common.{arith, sym, ap, ap₂, ◌∙◌, subst, inl, inr, refl}
use Rattle.rational.specs.Rational.{ℚ, ◌+ℚ◌, ◌-ℚ◌, ◌*ℚ◌, ◌≤ℚ◌, ◌<ℚ◌}
use Rattle.rational.specs.Extended.{Ext, ◌≤ₑ◌, ◌+ₑ◌}
use Rattle.rational.specs.declared.Extended.TheVariants.{Fin}
use Rattle.rational.specs.Line.{line_at}
use Rattle.rational.specs.MinMax.{min_q}
use Rattle.rational.specs.Stretch.{Between}
use Rattle.rational.proofs.Linear.{with2, with3, with4}
use Rattle.rational.proofs.Laws.{le_or_lt, le_of_lt, le_trans, lt_le_trans, lt_irrefl, antisym, half, half_is, half_pos, mul_lt_mul_right, mul_zero, add_zero, sub_mul}
use Rattle.rational.proofs.MinMax.{min_q_le_left}
use Rattle.rational.proofs.Bounds.{greatest}
use Rattle.rational.proofs.Stretch.{line_infimum}
use Rattle.min_plus.specs.Functions.{zero_q}
use Rattle.min_plus.specs.Convolution.{Split, IsConvolution}
use Rattle.min_plus.specs.best_splits.Turns.{Ray, IsBeside, IsAbove, BendsUp, TurnsUp}
use Rattle.min_plus.specs.best_splits.BestSplits.{BestSplitTurns}

-- what is at most a line just after a time is at most its limit there
limit_least : (x k r h : ℚ) → zero_q <ℚ h → ((d : ℚ) → zero_q <ℚ d → d <ℚ h → x ≤ℚ line_at k r d) → x ≤ℚ k
limit_least x k r h some below =
    let F : Between zero_q h → Ext = λ s. Fin (line_at k r s.at) in
    let least : x ≤ℚ min_q (line_at k r zero_q) (line_at k r h) =
    greatest F (Fin (min_q (line_at k r zero_q) (line_at k r h))) (Fin x) (line_infimum zero_q h k r some) (λ s. below s.at s.above s.below) in
    let start : line_at k r zero_q ≡ k = ap (λ z. k +ℚ z) (mul_zero r) ∙ add_zero k in
    subst (λ y. x ≤ℚ y) start (le_trans least (min_q_le_left (line_at k r zero_q) (line_at k r h)))

-- ---- a ray before one time and a ray after another, whose sums are nowhere below v + w
pub record Meet (p q : Ray) (v w : ℚ) : Type 0 where
  pub left : p.limit ≡ v
  pub right : q.limit ≡ w
  pub slopes : p.slope ≤ℚ q.slope

sum_line : (p q : Ray) (d : ℚ) → (p.limit -ℚ p.slope *ℚ d) +ℚ (q.limit +ℚ q.slope *ℚ d) ≡ line_at (p.limit +ℚ q.limit) (q.slope -ℚ p.slope) d
sum_line p q d =
    let k = p.limit in let l = q.limit in let a = p.slope *ℚ d in let b = q.slope *ℚ d in
    let e : (q.slope -ℚ p.slope) *ℚ d ≡ b -ℚ a = sub_mul q.slope p.slope d in
    regroup k l a b ∙ ap (λ z. (k +ℚ l) +ℚ z) (sym e)
  where
    regroup : (k l a b : ℚ) → (k -ℚ a) +ℚ (l +ℚ b) ≡ (k +ℚ l) +ℚ (b -ℚ a)
    regroup k l a b = with4 k l a b (λ c. omega (arith, c.le, c.lt, c.same))

rays_meet : (p q : Ray) (v w h : ℚ) → zero_q <ℚ h → ((d : ℚ) → zero_q <ℚ d → d <ℚ h → v +ℚ w ≤ℚ (p.limit -ℚ p.slope *ℚ d) +ℚ (q.limit +ℚ q.slope *ℚ d))
    → p.limit ≤ℚ v → q.limit ≤ℚ w → Meet p q v w
rays_meet p q v w h some below first second =
    let sums : v +ℚ w ≤ℚ p.limit +ℚ q.limit = limit_least (v +ℚ w) (p.limit +ℚ q.limit) (q.slope -ℚ p.slope) h some (λ d above less. subst (λ y. v +ℚ w ≤ℚ y) (sum_line p q d) (below d above less)) in
    let e = equal p.limit q.limit v w first second sums in
    record { left = e.0; right = e.1; slopes = slopes_are e.0 e.1 }
  where
    equal : (k l v w : ℚ) → k ≤ℚ v → l ≤ℚ w → v +ℚ w ≤ℚ k +ℚ l → (k ≡ v) × (l ≡ w)
    equal k l v w a b c = (
      antisym (a, with4 k l v w (λ c'. omega (arith, c'.le, c'.lt, c'.same))),
      antisym (b, with4 k l v w (λ c'. omega (arith, c'.le, c'.lt, c'.same))),
    )

    steeper : (k l a b : ℚ) → k +ℚ l ≤ℚ (k -ℚ a) +ℚ (l +ℚ b) → a ≤ℚ b
    steeper k l a b h = with4 k l a b (λ c. omega (arith, c.le, c.lt, c.same))

    slopes_are : p.limit ≡ v → q.limit ≡ w → p.slope ≤ℚ q.slope
    slopes_are e f = elim (le_or_lt p.slope q.slope) [
      | inl l ↦ l
      | inr l ↦
          let d = half h in
          let above : zero_q <ℚ d = half_pos some in
          let less : d <ℚ h = smaller d h (half_is h) above in
          let moved : p.limit +ℚ q.limit ≤ℚ (p.limit -ℚ p.slope *ℚ d) +ℚ (q.limit +ℚ q.slope *ℚ d) = rw (e, f) (rw (e, f) at (below d above less)) in
          let least : p.slope *ℚ d ≤ℚ q.slope *ℚ d = steeper p.limit q.limit (p.slope *ℚ d) (q.slope *ℚ d) moved in
          absurd (lt_irrefl (q.slope *ℚ d) (lt_le_trans (mul_lt_mul_right d above l) least))
    ]
      where
        smaller : (d h : ℚ) → d +ℚ d ≡ h → zero_q <ℚ d → d <ℚ h
        smaller d h e l = with2 d h (λ c. omega (arith, c.le, c.lt, c.same))

-- a ray that may be missing is above v, or it is one with a limit of at most v
abbrev Reaches : Option Ray → ℚ → Type 0
Reaches a v = (r : Ray) × (a ≡ Some r) × (r.limit ≤ℚ v)

reaches : (a : Option Ray) (v : ℚ) → IsAbove a v ⊎ Reaches a v
reaches None v = inl tt
reaches (Some r) v = elim (le_or_lt r.limit v) [ inl l ↦ inr (r, refl, l) | inr l ↦ inl l ]

-- ---- the split moved
moved_before : (f g : ℚ → Ext) (t h v w : ℚ) (split : Split t) (p q : Ray) (b c : Option Ray) → IsConvolution f g t (Fin (v +ℚ w)) → IsBeside f split.first h (Some p) b → IsBeside g split.second h c (Some q)
    → (d : ℚ) → zero_q <ℚ d → d <ℚ h → v +ℚ w ≤ℚ (p.limit -ℚ p.slope *ℚ d) +ℚ (q.limit +ℚ q.slope *ℚ d)
moved_before f g t h v w split p q b c best F G d above less =
    let s = split.first in
    let u = split.second in
    let early : h ≤ℚ s = room_is F.room in
    let nonneg : zero_q ≤ℚ s -ℚ d = with3 s d h (λ c. omega (arith, c.le, c.lt, c.same)) in
    let other : zero_q ≤ℚ u +ℚ d = later u d split.second_nonneg above in
    let new : Split t = record { first = s -ℚ d; second = u +ℚ d; first_nonneg = nonneg; second_nonneg = other; whole = same_whole s u d ∙ split.whole } in
    let values : f (s -ℚ d) +ₑ g (u +ℚ d) ≡ Fin ((p.limit -ℚ p.slope *ℚ d) +ℚ (q.limit +ℚ q.slope *ℚ d)) = ap₂ (λ x y. x +ₑ y) (F.before d above less nonneg) (G.after d above less) in
    subst (λ y. Fin (v +ℚ w) ≤ₑ y) values (best.below new)
  where
    room_is : (Some p ≡ None) ⊎ (h ≤ℚ split.first) → h ≤ℚ split.first
    room_is (inl e) = absurd (cc)
    room_is (inr l) = l

    later : (u d : ℚ) → zero_q ≤ℚ u → zero_q <ℚ d → zero_q ≤ℚ u +ℚ d
    later u d a b = with2 u d (λ c. omega (arith, c.le, c.lt, c.same))

    same_whole : (s u d : ℚ) → (s -ℚ d) +ℚ (u +ℚ d) ≡ s +ℚ u
    same_whole s u d = with3 s u d (λ c. omega (arith, c.le, c.lt, c.same))

moved_after : (f g : ℚ → Ext) (t h v w : ℚ) (split : Split t) (p q : Ray) (a d : Option Ray) → IsConvolution f g t (Fin (v +ℚ w)) → IsBeside f split.first h a (Some q) → IsBeside g split.second h (Some p) d
    → (e : ℚ) → zero_q <ℚ e → e <ℚ h → w +ℚ v ≤ℚ (p.limit -ℚ p.slope *ℚ e) +ℚ (q.limit +ℚ q.slope *ℚ e)
moved_after f g t h v w split p q a d best F G e above less =
    let s = split.first in
    let u = split.second in
    let early : h ≤ℚ u = room_is G.room in
    let nonneg : zero_q ≤ℚ u -ℚ e = with3 u e h (λ c. omega (arith, c.le, c.lt, c.same)) in
    let other : zero_q ≤ℚ s +ℚ e = later s e split.first_nonneg above in
    let new : Split t = record { first = s +ℚ e; second = u -ℚ e; first_nonneg = other; second_nonneg = nonneg; whole = same_whole s u e ∙ split.whole } in
    let low = p.limit -ℚ p.slope *ℚ e in
    let high = q.limit +ℚ q.slope *ℚ e in
    let values : f (s +ℚ e) +ₑ g (u -ℚ e) ≡ Fin (high +ℚ low) = ap₂ (λ x y. x +ₑ y) (F.after e above less) (G.before e above less nonneg) in
    let least : v +ℚ w ≤ℚ high +ℚ low = subst (λ y. Fin (v +ℚ w) ≤ₑ y) values (best.below new) in
    turned v w low high least
  where
    room_is : (Some p ≡ None) ⊎ (h ≤ℚ split.second) → h ≤ℚ split.second
    room_is (inl e) = absurd (cc)
    room_is (inr l) = l

    later : (u d : ℚ) → zero_q ≤ℚ u → zero_q <ℚ d → zero_q ≤ℚ u +ℚ d
    later u d a b = with2 u d (λ c. omega (arith, c.le, c.lt, c.same))

    same_whole : (s u d : ℚ) → (s +ℚ d) +ℚ (u -ℚ d) ≡ s +ℚ u
    same_whole s u d = with3 s u d (λ c. omega (arith, c.le, c.lt, c.same))

    turned : (v w x y : ℚ) → v +ℚ w ≤ℚ y +ℚ x → w +ℚ v ≤ℚ x +ℚ y
    turned v w x y h = with4 v w x y (λ c. omega (arith, c.le, c.lt, c.same))

-- ---- the law
bends : (a b : Option Ray) (p q : Ray) (v : ℚ) → a ≡ Some p → b ≡ Some q → p.limit ≡ v → q.limit ≡ v → p.slope ≤ℚ q.slope → BendsUp a b v
bends a b p q v e f x y l = rw (e, f) (x, y, l)

pub best_split_turns : BestSplitTurns
best_split_turns f g t h v w split a b c d B = turns (reaches a v) (reaches d w) (reaches c w) (reaches b v)
  where
    turns : IsAbove a v ⊎ Reaches a v → IsAbove d w ⊎ Reaches d w → IsAbove c w ⊎ Reaches c w → IsAbove b v ⊎ Reaches b v → TurnsUp a b v ⊎ TurnsUp c d w
    turns (inl x) D C E = inl (inl x)
    turns (inr A) (inl y) C E = inr (inr (inl y))
    turns (inr A) (inr D) (inl z) E = inr (inl z)
    turns (inr A) (inr D) (inr C) (inl z) = inl (inr (inl z))
    turns (inr (p, ep, lp)) (inr (q, eq, lq)) (inr (r, er, lr)) (inr (s, es, ls)) =
        let first = λ (z : Option Ray). IsBeside f split.first h z b in
        let second = λ (z : Option Ray). IsBeside g split.second h c z in
        let third = λ (z : Option Ray). IsBeside f split.first h a z in
        let fourth = λ (z : Option Ray). IsBeside g split.second h z d in
        let M : Meet p q v w = rays_meet p q v w h B.some (moved_before f g t h v w split p q b c B.best (subst first ep B.first) (subst second eq B.second)) lp lq in
        let N : Meet r s w v = rays_meet r s w v h B.some (moved_after f g t h v w split r s a d B.best (subst third es B.first) (subst fourth er B.second)) lr ls in
        elim (le_or_lt p.slope s.slope) [
          | inl l ↦ inl (inr (inr (bends a b p s v ep es M.left N.right l)))
          | inr l ↦ inr (inr (inr (bends c d r q w er eq N.left M.right (le_trans N.slopes (le_trans (le_of_lt l) M.slopes)))))
        ]
