-- The lower of two lines before and after they meet.
use Rattle.std.specs.Prelude.{◌≡◌, ◌≢◌, ◌⊎◌, Option, Some, None, IfSome}
use Rattle.std.proofs.Common.{arith, sym, ap, refl, inl, inr, ◌∙◌}
use Rattle.rational.specs.Rational.{ℚ, ◌+ℚ◌, ◌-ℚ◌, ◌*ℚ◌, ◌≤ℚ◌, ◌<ℚ◌}
use Rattle.rational.specs.MinMax.{min_q}
use Rattle.rational.specs.Extended.{Ext, ◌<ₑ◌}
use Rattle.rational.specs.declared.Extended.TheVariants.{Fin, Inf}
use Rattle.rational.proofs.Linear.{with2, with3, with4, with8}
use Rattle.rational.proofs.Laws.{le_or_lt, mul_sub, mul_le_mul_right, antisym}
use Rattle.rational.proofs.MinMax.{min_q_left, min_q_right, min_q_comm}
use Rattle.upp_curve.specs.declared.affine_segment.line.Line.{Line}
use Rattle.upp_curve.specs.declared.affine_segment.cut.Cut.{Cut}
use Rattle.upp_curve.specs.affine_segment.Values.{line_at}
use Rattle.upp_curve.specs.affine_segment.Cuts.{IsWithin, IsLowerAt, CutsAt, CrossAt, IsLowerCut, IsLowerThroughout}

-- ---- the lesser of two values
pub left_low : (x y : ℚ) → x ≤ℚ y → x ≡ min_q x y
left_low x y h = sym (min_q_left x y h)

right_low : (x y : ℚ) → y ≤ℚ x → y ≡ min_q x y
right_low x y h = elim (le_or_lt x y) [
  | inl l ↦ antisym (h, l) ∙ sym (min_q_left x y l)
  | inr l ↦ sym (min_q_right x y l)
]

-- ---- the steeper is the lower before, and the other after
before : (k r l q x t : ℚ) → q ≤ℚ r → k +ℚ r *ℚ x ≡ l +ℚ q *ℚ x → t ≤ℚ x → k +ℚ r *ℚ t ≤ℚ l +ℚ q *ℚ t
before k r l q x t h e b =
    let m : q *ℚ (x -ℚ t) ≤ℚ r *ℚ (x -ℚ t) = mul_le_mul_right (x -ℚ t) (with2 x t (λ c. omega (arith, c.le, c.lt, c.same))) h in
    plain (r *ℚ x) (r *ℚ t) (q *ℚ x) (q *ℚ t) (q *ℚ (x -ℚ t)) (r *ℚ (x -ℚ t)) m (mul_sub q x t) (mul_sub r x t) e
  where
    plain : (rx rt qx qt a b : ℚ) → a ≤ℚ b → a ≡ qx -ℚ qt → b ≡ rx -ℚ rt → k +ℚ rx ≡ l +ℚ qx → k +ℚ rt ≤ℚ l +ℚ qt
    plain rx rt qx qt a b m f g e = with8 k l rx rt qx qt a b (λ c. omega (arith, c.le, c.lt, c.same))

after : (k r l q x t : ℚ) → q ≤ℚ r → k +ℚ r *ℚ x ≡ l +ℚ q *ℚ x → x ≤ℚ t → l +ℚ q *ℚ t ≤ℚ k +ℚ r *ℚ t
after k r l q x t h e b =
    let m : q *ℚ (t -ℚ x) ≤ℚ r *ℚ (t -ℚ x) = mul_le_mul_right (t -ℚ x) (with2 x t (λ c. omega (arith, c.le, c.lt, c.same))) h in
    plain (r *ℚ x) (r *ℚ t) (q *ℚ x) (q *ℚ t) (q *ℚ (t -ℚ x)) (r *ℚ (t -ℚ x)) m (mul_sub q t x) (mul_sub r t x) e
  where
    plain : (rx rt qx qt a b : ℚ) → a ≤ℚ b → a ≡ qt -ℚ qx → b ≡ rt -ℚ rx → k +ℚ rx ≡ l +ℚ qx → l +ℚ qt ≤ℚ k +ℚ rt
    plain rx rt qx qt a b m f g e = with8 k l rx rt qx qt a b (λ c. omega (arith, c.le, c.lt, c.same))

-- ---- cuts
-- one line throughout
pub left_cut : (a b : Line) (from : ℚ) (to : Ext) → ((t : ℚ) → IsWithin from to t → line_at a t ≤ℚ line_at b t)
    → IsLowerCut a b from to record { low = a; at = None; after = a }
left_cut a b from to h = record { low = inl refl; after = inl refl; lower = (refl, λ t w. left_low (line_at a t) (line_at b t) (h t w)); turns = tt }

pub right_cut : (a b : Line) (from : ℚ) (to : Ext) → ((t : ℚ) → IsWithin from to t → line_at b t ≤ℚ line_at a t)
    → IsLowerCut a b from to record { low = b; at = None; after = b }
right_cut a b from to h = record { low = inr refl; after = inr refl; lower = (refl, λ t w. right_low (line_at a t) (line_at b t) (h t w)); turns = tt }

-- of two lines with one slope the one that is lower at 0
parallel : (k r l q t : ℚ) → r ≡ q → k ≤ℚ l → k +ℚ r *ℚ t ≤ℚ l +ℚ q *ℚ t
parallel k r l q t e h =
    let f : r *ℚ t ≡ q *ℚ t = ap (λ x. x *ℚ t) e in
    with4 k l (r *ℚ t) (q *ℚ t) (λ c. omega (arith, c.le, c.lt, c.same))

pub parallel_left : (a b : Line) → a.slope ≡ b.slope → a.icept ≤ℚ b.icept → IsLowerThroughout a b record { low = a; at = None; after = a }
parallel_left a b e h from to = left_cut a b from to (λ t w. parallel a.icept a.slope b.icept b.slope t e h)

pub parallel_right : (a b : Line) → a.slope ≡ b.slope → b.icept ≤ℚ a.icept → IsLowerThroughout a b record { low = b; at = None; after = b }
parallel_right a b e h from to = right_cut a b from to (λ t w. parallel b.icept b.slope a.icept a.slope t (sym e) h)

-- the steeper up to where they meet, and the other from there on
pub crossing_cut : (a b : Line) (x from : ℚ) (to : Ext) → b.slope ≤ℚ a.slope → a.slope ≢ b.slope
    → line_at a x ≡ line_at b x → from <ℚ x → Fin x <ₑ to
    → IsLowerCut a b from to record { low = a; at = Some x; after = b }
crossing_cut a b x from to h apart e past early = record {
  low = inl refl;
  after = inr refl;
  lower = (
    record { past = past; before = early },
    λ t w l. left_low (line_at a t) (line_at b t) (before a.icept a.slope b.icept b.slope x t h e l),
    λ t w l. right_low (line_at a t) (line_at b t) (after a.icept a.slope b.icept b.slope x t h e l),
  );
  turns = (apart, e);
}

-- they meet at `from` or before
pub crossed_cut : (a b : Line) (x from : ℚ) (to : Ext) → b.slope ≤ℚ a.slope → line_at a x ≡ line_at b x → x ≤ℚ from
    → IsLowerCut a b from to record { low = b; at = None; after = b }
crossed_cut a b x from to h e past =
    right_cut a b from to (λ t w. after a.icept a.slope b.icept b.slope x t h e (let p = w.past in with3 x from t (λ c. omega (arith, c.le, c.lt, c.same))))

-- they do not meet before `to`
pub uncrossed_cut : (a b : Line) (x from : ℚ) (to : Ext) → b.slope ≤ℚ a.slope → line_at a x ≡ line_at b x → ¬ (Fin x <ₑ to)
    → IsLowerCut a b from to record { low = a; at = None; after = a }
uncrossed_cut a b x from to h e none =
    left_cut a b from to (λ t w. before a.icept a.slope b.icept b.slope x t h e (end to t w.before none))
  where
    end : (to : Ext) (t : ℚ) → Fin t <ₑ to → ¬ (Fin x <ₑ to) → t ≤ℚ x
    end Inf t b none = absurd (none tt)
    end (Fin y) t b none = elim (le_or_lt y x) [ inl l ↦ with3 x y t (λ c. omega (arith, c.le, c.lt, c.same)) | inr l ↦ absurd (none l) ]

-- ---- the same cut with the lines the other way round
pub turned : (a b : Line) (from : ℚ) (to : Ext) (cut : Cut) → IsLowerCut a b from to cut → IsLowerCut b a from to cut
turned a b from to cut c = record { low = other c.low; after = other c.after; lower = by cut.at c.lower; turns = crossed cut.at c.turns }
  where
    other : {l : Line} → (l ≡ a) ⊎ (l ≡ b) → (l ≡ b) ⊎ (l ≡ a)
    other (inl e) = inr e
    other (inr e) = inl e

    at_time : (m : Line) (t : ℚ) → IsLowerAt a b m t → IsLowerAt b a m t
    at_time m t e = e ∙ min_q_comm (line_at a t) (line_at b t)

    by : (at : Option ℚ) → CutsAt a b from to cut.low at cut.after → CutsAt b a from to cut.low at cut.after
    by None h = (h.0, λ t w. at_time cut.low t (h.1 t w))
    by (Some x) h = (h.0, λ t w l. at_time cut.low t (h.1 t w l), λ t w l. at_time cut.after t (h.2 t w l))

    crossed : (at : Option ℚ) → IfSome at (CrossAt a b) → IfSome at (CrossAt b a)
    crossed None h = tt
    crossed (Some x) h = (λ e. h.0 (sym e), sym h.1)
