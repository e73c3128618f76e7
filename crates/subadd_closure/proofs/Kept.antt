-- A curve that is infinite at 0, finite past it and repeats later on: with a value at 0 that is not what the value a
-- period after 0 would ask for, it keeps its tail.
use Rattle.std.specs.Prelude.{◌≡◌, ◌≢◌, ℕ, pos, List}
use Rattle.std.proofs.Common.{arith, sym, ap, ◌∙◌, subst, inl, inr}
use Rattle.rational.specs.Rational.{ℚ, ◌+ℚ◌, ◌*ℚ◌, ◌/ℚ◌, ◌≤ℚ◌, ◌<ℚ◌, int}
use Rattle.rational.specs.Extended.{Ext, ◌+ₑ◌}
use Rattle.rational.specs.declared.Extended.TheVariants.{Fin, Inf}
use Rattle.rational.proofs.ExtendedOrder.{add_cancel_ext}
use Rattle.rational.proofs.Laws.{le_or_lt, le_refl, le_of_lt, above, div_mul, not_zero, mul_lt_mul_right}
use Rattle.rational.proofs.Linear.{with1, with2, with3}
use Rattle.upp_curve.specs.declared.affine_segment.line.Piece.{Piece}
use Rattle.upp_curve.specs.declared.curve.Tail.{Tail}
use Rattle.upp_curve.specs.declared.curve.Tail.TheVariants.{Periodic, Affine, Infinite}
use Rattle.upp_curve.specs.Curve.{SpecCurve, value_at, with_tail, repeated}
use Rattle.min_plus.specs.Functions.{zero_q}
use Rattle.upp_curve.specs.affine_segment.Pieces.{StartsAtZero}
use Rattle.upp_curve.specs.Normal.{TailFits, IsNormal}
use Rattle.upp_curve.specs.affine_segment.Reading.{read}
use Rattle.upp_curve.specs.Steady.{Repeats}
use Rattle.upp_curve.proofs.Repeats.{repeated_next, repeats_times}
use Rattle.subadd_closure.specs.Starting.{first_at, started_at, KeepsTail}
use Rattle.subadd_closure.proofs.Starts.{repeated_past, repeated_zero}
use Rattle.upp_curve.proofs.Steady.{cut_past}

-- g is infinite at 0, finite past 0, and from `from` > 0 on repeats with the period p and the rise y; at p it is not
-- `start` and the rise
pub record StartsAnew (g : ℚ → Ext) (from p y start : ℚ) : Type 0 where
  pub zero : g zero_q ≡ Inf
  pub finite : (t : ℚ) → zero_q <ℚ t → g t ≢ Inf
  pub late : zero_q <ℚ from
  pub some : zero_q <ℚ p
  pub rule : Repeats g from p y
  pub other : g p ≢ Fin (start +ℚ y)

-- some whole number of periods is past a time
periods_past : (from d : ℚ) → zero_q <ℚ d → (n : ℕ) × (from <ℚ int (pos n) *ℚ d)
periods_past from d some =
    let (n, far) = above (from /ℚ d) in
    (n, subst (λ x. x <ℚ int (pos n) *ℚ d) (div_mul from d (not_zero d some)) (mul_lt_mul_right d some far))

zero_left : (x : ℚ) → zero_q +ℚ x ≡ x
zero_left x = with1 x (λ c. omega (arith, c.le, c.lt, c.same))

-- h is `start` at 0 and g past 0: a rule of h from 0 on makes g at p what it is not
no_rule : (g h : ℚ → Ext) (from p y start d c : ℚ) → StartsAnew g from p y start → h zero_q ≡ Fin start
    → ((t : ℚ) → zero_q <ℚ t → h t ≡ g t) → zero_q <ℚ d → ¬ (Repeats h zero_q d c)
no_rule g h from p y start d c S e same some R =
    let (n, far) = periods_past from d some in
    let x = int (pos n) *ℚ d in
    let w = int (pos n) *ℚ c in
    let late = S.late in
    let up = S.some in
    let X : zero_q <ℚ x = with2 from x (λ o. omega (arith, o.le, o.lt, o.same)) in
    let Y : zero_q <ℚ p +ℚ x = with2 p x (λ o. omega (arith, o.le, o.lt, o.same)) in
    let M = repeats_times h zero_q d c n (le_of_lt some) R in
    let turned : p +ℚ x ≡ x +ℚ p = with2 p x (λ o. omega (arith, o.le, o.lt, o.same)) in
    let at_x : g x ≡ Fin (start +ℚ w) =
    sym (same x X) ∙ ap h (sym (zero_left x)) ∙ M.rule zero_q (le_refl zero_q) ∙ ap (λ v. v +ₑ Fin w) e in
    let on_p : g p +ₑ Fin w ≡ g (p +ℚ x) =
    ap (λ v. v +ₑ Fin w) (sym (same p up)) ∙ sym (M.rule p (le_of_lt up)) ∙ same (p +ℚ x) Y in
    let on_x : g (p +ℚ x) ≡ Fin ((start +ℚ w) +ℚ y) =
    ap g turned ∙ S.rule.rule x (le_of_lt far) ∙ ap (λ v. v +ₑ Fin y) at_x in
    let swapped : (start +ℚ w) +ℚ y ≡ (start +ℚ y) +ℚ w = with3 start w y (λ o. omega (arith, o.le, o.lt, o.same)) in
    S.other (add_cancel_ext (g p) (Fin (start +ℚ y)) w (on_p ∙ on_x ∙ ap Fin swapped))

-- ---- by the tail

late_rank : (f : ℚ → Ext) (rank d c : ℚ) → zero_q ≤ℚ rank → zero_q <ℚ d → repeated f rank d c zero_q ≡ Inf
    → ((t : ℚ) → zero_q <ℚ t → repeated f rank d c t ≢ Inf) → zero_q <ℚ rank
late_rank f rank d c low some e finite = elim (le_or_lt rank zero_q) [
  | inl h ↦
      let next = repeated_next f rank d c zero_q some h in
      absurd (finite (zero_q +ℚ d) (subst (λ x. zero_q <ℚ x) (sym (zero_left d)) some) (next ∙ ap (λ v. v +ₑ Fin c) e))
  | inr h ↦ h
]

keeps_by : (qs : List Piece) (tail : Tail) (from p y start : ℚ) → StartsAtZero qs → TailFits qs tail
    → StartsAnew (with_tail (read qs) tail) from p y start
    → KeepsTail (with_tail (read (first_at (Fin start) qs)) tail) tail
keeps_by qs (Affine rank) from p y start Q T S = tt
keeps_by qs (Infinite rank) from p y start Q T S =
    let low = T.nonneg in
    let later : rank <ℚ rank +ℚ int (pos 1) = with1 rank (λ o. omega (arith, o.le, o.lt, o.same)) in
    let past : zero_q <ℚ rank +ℚ int (pos 1) = with1 rank (λ o. omega (arith, o.le, o.lt, o.same)) in
    S.finite (rank +ℚ int (pos 1)) past (cut_past (read qs) rank (rank +ℚ int (pos 1)) later)
keeps_by qs (Periodic rank d c) from p y start Q T S =
    let late = late_rank (read qs) rank d c T.nonneg T.some S.zero S.finite in (
      late,
      no_rule (repeated (read qs) rank d c) (repeated (read (first_at (Fin start) qs)) rank d c) from p y start d c S
          (repeated_zero (Fin start) qs Q rank d c late T.some)
          (λ t h. repeated_past (Fin start) qs Q rank d c t late T.some h) T.some,
    )

pub keeps_tail : (c : SpecCurve) (from p y start : ℚ) → IsNormal c → StartsAnew (value_at c) from p y start
    → KeepsTail (value_at (started_at (Fin start) c)) c.tail
unfolding value_at
keeps_tail c from p y start N S = keeps_by c.pieces c.tail from p y start N.raw.starts N.raw.tail S
