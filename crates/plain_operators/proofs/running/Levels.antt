-- A line against a level on one stretch: which of the two is the greater, or the lesser, of all up to a time, or from it on.
use Rattle.std.specs.Prelude.{◌≡◌, pos, Some}
use Rattle.std.proofs.Common.{arith, sym, ap, ◌∙◌, subst, inl, inr}
use Rattle.rational.specs.Rational.{ℚ, ◌≤ℚ◌, ◌<ℚ◌, int}
use Rattle.rational.specs.MinMax.{min_q, max_q}
use Rattle.rational.specs.declared.Extended.TheVariants.{Fin}
use Rattle.rational.proofs.Linear.{with1}
use Rattle.rational.proofs.Laws.{antisym, le_refl, le_of_lt, le_or_lt, le_trans, zero_mul}
use Rattle.rational.proofs.Lines.{line_falls}
use Rattle.rational.proofs.MinMax.{max_q_le, max_q_ge_left, max_q_ge_right, min_q_ge, min_q_le_left, min_q_le_right}
use Rattle.upp_curve.specs.declared.affine_segment.line.Line.{Line}
use Rattle.upp_curve.specs.affine_segment.Values.{line_at}
use Rattle.plain_operators.specs.running.Scans.{flat}
use Rattle.plain_operators.specs.running.Bends.{risen, sunk, IsOn, TakesOver}
use Rattle.upp_curve.proofs.affine_segment.LineValues.{value_later, value_rises}

pub flat_at : (v t : ℚ) → line_at (flat v) t ≡ v
flat_at v t = rw (zero_mul t) (with1 v (λ c. omega (arith, c.le, c.lt, c.same)))

pub down : (l : Line) (s t : ℚ) → l.slope ≤ℚ int (pos 0) → s ≤ℚ t → line_at l t ≤ℚ line_at l s
down l s t r h = line_falls l.icept l.slope s t r h

-- a line is no higher between two times than at one of them, and no lower
pub line_top : (l : Line) (x s t : ℚ) → x ≤ℚ s → s ≤ℚ t → line_at l s ≤ℚ max_q (line_at l x) (line_at l t)
line_top l x s t h k = elim (le_or_lt (int (pos 0)) l.slope) [
  | inl r ↦ le_trans (value_rises l s t r k) (max_q_ge_right (line_at l x) (line_at l t))
  | inr r ↦ le_trans (down l x s (le_of_lt r) h) (max_q_ge_left (line_at l x) (line_at l t))
]

pub line_bottom : (l : Line) (t s e : ℚ) → t ≤ℚ s → s ≤ℚ e → min_q (line_at l t) (line_at l e) ≤ℚ line_at l s
line_bottom l t s e h k = elim (le_or_lt (int (pos 0)) l.slope) [
  | inl r ↦ le_trans (min_q_le_left (line_at l t) (line_at l e)) (value_rises l t s r h)
  | inr r ↦ le_trans (min_q_le_right (line_at l t) (line_at l e)) (down l s e (le_of_lt r) k)
]

-- ---- the greatest of three
top_first : (v a b : ℚ) → a ≤ℚ v → b ≤ℚ v → max_q v (max_q a b) ≡ v
top_first v a b h k = antisym (max_q_le v (max_q a b) v (le_refl v) (max_q_le a b v h k), max_q_ge_left v (max_q a b))

top_third : (v a b : ℚ) → v ≤ℚ b → a ≤ℚ b → max_q v (max_q a b) ≡ b
top_third v a b h k =
    antisym (max_q_le v (max_q a b) b h (max_q_le a b b k (le_refl b)), le_trans (max_q_ge_right a b) (max_q_ge_right v (max_q a b)))

top_two : (v a b : ℚ) → b ≤ℚ a → max_q v (max_q a b) ≡ max_q v a
top_two v a b h =
    antisym (
      max_q_le v (max_q a b) (max_q v a) (max_q_ge_left v a) (max_q_le a b (max_q v a) (max_q_ge_right v a) (le_trans h (max_q_ge_right v a))),
      max_q_le v a (max_q v (max_q a b)) (max_q_ge_left v (max_q a b)) (le_trans (max_q_ge_left a b) (max_q_ge_right v (max_q a b))),
    )

-- ---- the least of three
bottom_first : (v a b : ℚ) → v ≤ℚ a → v ≤ℚ b → min_q v (min_q a b) ≡ v
bottom_first v a b h k = antisym (min_q_le_left v (min_q a b), min_q_ge v (min_q a b) v (le_refl v) (min_q_ge a b v h k))

bottom_second : (v a b : ℚ) → a ≤ℚ v → a ≤ℚ b → min_q v (min_q a b) ≡ a
bottom_second v a b h k =
    antisym (le_trans (min_q_le_right v (min_q a b)) (min_q_le_left a b), min_q_ge v (min_q a b) a h (min_q_ge a b a (le_refl a) k))

bottom_ends : (v a b : ℚ) → b ≤ℚ a → min_q v (min_q a b) ≡ min_q v b
bottom_ends v a b h =
    antisym (
      min_q_ge v b (min_q v (min_q a b)) (min_q_le_left v (min_q a b)) (le_trans (min_q_le_right v (min_q a b)) (min_q_le_right a b)),
      min_q_ge v (min_q a b) (min_q v b) (min_q_le_left v b) (min_q_ge a b (min_q v b) (le_trans (min_q_le_right v b) h) (min_q_le_right v b)),
    )

-- ---- up to a time
pub sup_line : (v : ℚ) (l : Line) (x to : ℚ) → int (pos 0) <ℚ l.slope → v ≤ℚ line_at l x → IsOn (risen v l x) x to (Some l)
sup_line v l x to r h t p q =
    let m = value_rises l x t (le_of_lt r) (le_of_lt p) in
    ap Fin (sym (top_third v (line_at l x) (line_at l t) (le_trans h m) m))

pub sup_flat : (v : ℚ) (l : Line) (x to : ℚ) → int (pos 0) <ℚ l.slope → line_at l to ≤ℚ v → IsOn (risen v l x) x to (Some (flat v))
sup_flat v l x to r h t p q =
    let m = le_trans (value_rises l t to (le_of_lt r) (le_of_lt q)) h in
    ap Fin (flat_at v t ∙ sym (top_first v (line_at l x) (line_at l t) (le_trans (value_rises l x t (le_of_lt r) (le_of_lt p)) m) m))

pub sup_falls : (v : ℚ) (l : Line) (x to : ℚ) → l.slope ≤ℚ int (pos 0) → IsOn (risen v l x) x to (Some (flat (max_q v (line_at l x))))
sup_falls v l x to r t p q =
    ap Fin (flat_at (max_q v (line_at l x)) t ∙ sym (top_two v (line_at l x) (line_at l t) (down l x t r (le_of_lt p))))

pub sup_turn : (v : ℚ) (l : Line) (x to m : ℚ) → int (pos 0) <ℚ l.slope → line_at l x <ℚ v → v <ℚ line_at l to → line_at l m ≡ v
    → TakesOver (risen v l x) x to (flat v) record { x = m; at = Fin v; line = Some l }
sup_turn v l x to m r low high e =
    let rises : int (pos 0) ≤ℚ l.slope = le_of_lt r in
    let past : x <ℚ m = value_later l x m rises (subst (λ z. line_at l x <ℚ z) (sym e) low) in
    let early : m <ℚ to = value_later l m to rises (subst (λ z. z <ℚ line_at l to) (sym e) high) in
    let at : line_at l m ≤ℚ v = subst (λ z. line_at l m ≤ℚ z) e (le_refl (line_at l m)) in
    record {
      past = past;
      early = early;
      first = sup_flat v l x m r at;
      at = ap Fin (sym (top_first v (line_at l x) (line_at l m) (le_of_lt low) at));
      second = λ t p q.
          let above : v ≤ℚ line_at l t = subst (λ z. z ≤ℚ line_at l t) e (value_rises l m t rises (le_of_lt p)) in
          ap Fin (sym (top_third v (line_at l x) (line_at l t) above (le_trans (le_of_lt low) above)));
    }

-- ---- from a time on
pub inf_line : (v : ℚ) (l : Line) (x to : ℚ) → int (pos 0) <ℚ l.slope → line_at l to ≤ℚ v → IsOn (sunk v l to) x to (Some l)
inf_line v l x to r h t p q =
    let m = value_rises l t to (le_of_lt r) (le_of_lt q) in
    ap Fin (sym (bottom_second v (line_at l t) (line_at l to) (le_trans m h) m))

pub inf_flat : (v : ℚ) (l : Line) (x to : ℚ) → int (pos 0) <ℚ l.slope → v ≤ℚ line_at l x → IsOn (sunk v l to) x to (Some (flat v))
inf_flat v l x to r h t p q =
    let m = le_trans h (value_rises l x t (le_of_lt r) (le_of_lt p)) in
    ap Fin (flat_at v t ∙ sym (bottom_first v (line_at l t) (line_at l to) m (le_trans m (value_rises l t to (le_of_lt r) (le_of_lt q)))))

pub inf_falls : (v : ℚ) (l : Line) (x to : ℚ) → l.slope ≤ℚ int (pos 0) → IsOn (sunk v l to) x to (Some (flat (min_q v (line_at l to))))
inf_falls v l x to r t p q =
    ap Fin (flat_at (min_q v (line_at l to)) t ∙ sym (bottom_ends v (line_at l t) (line_at l to) (down l t to r (le_of_lt q))))

pub inf_turn : (v : ℚ) (l : Line) (x to m : ℚ) → int (pos 0) <ℚ l.slope → line_at l x <ℚ v → v <ℚ line_at l to → line_at l m ≡ v
    → TakesOver (sunk v l to) x to l record { x = m; at = Fin v; line = Some (flat v) }
inf_turn v l x to m r low high e =
    let rises : int (pos 0) ≤ℚ l.slope = le_of_lt r in
    let past : x <ℚ m = value_later l x m rises (subst (λ z. line_at l x <ℚ z) (sym e) low) in
    let early : m <ℚ to = value_later l m to rises (subst (λ z. z <ℚ line_at l to) (sym e) high) in
    let at : v ≤ℚ line_at l m = subst (λ z. z ≤ℚ line_at l m) e (le_refl (line_at l m)) in
    record {
      past = past;
      early = early;
      first = λ t p q.
          let below : line_at l t ≤ℚ v = subst (λ z. line_at l t ≤ℚ z) e (value_rises l t m rises (le_of_lt q)) in
          ap Fin (sym (bottom_second v (line_at l t) (line_at l to) below (le_trans below (le_of_lt high))));
      at = ap Fin (sym (bottom_first v (line_at l m) (line_at l to) at (le_of_lt high)));
      second = λ t p q.
          let above : v ≤ℚ line_at l t = le_trans at (value_rises l m t rises (le_of_lt p)) in
          ap Fin (flat_at v t ∙ sym (bottom_first v (line_at l t) (line_at l to) above (le_of_lt high)));
    }
