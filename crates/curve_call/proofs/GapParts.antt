-- Gaps at a time, on an open stretch of two lines, and over times put together.
use Rattle.std.specs.Prelude.{◌≡◌, Option, Some, None, ◌⊎◌}
use Rattle.std.proofs.Common.{arith, sym, ap, ap₂, ◌∙◌, refl, subst, inl, inr}
use Rattle.rational.specs.Rational.{ℚ, ◌+ℚ◌, ◌-ℚ◌, ◌*ℚ◌, ◌≤ℚ◌, ◌<ℚ◌}
use Rattle.rational.specs.MinMax.{max_q}
use Rattle.rational.specs.Line.{line_at as line_of}
use Rattle.rational.specs.Extended.{Ext, ◌≤ₑ◌, ◌<ₑ◌, ◌+ₑ◌}
use Rattle.rational.specs.declared.Extended.TheVariants.{Fin, Inf}
use Rattle.rational.proofs.Linear.{with2, with3, with5}
use Rattle.rational.proofs.Laws.{le_or_lt, le_refl, le_trans, le_of_lt, lt_le_trans, lt_cases, between, sub_mul}
use Rattle.rational.proofs.MinMax.{max_q_ge_left, max_q_ge_right, max_q_one}
use Rattle.rational.proofs.ExtendedOrder.{le_ext_trans, add_le_ext, le_ext_refl}
use Rattle.rational.proofs.Stretch.{line_supremum}
use Rattle.upp_curve.specs.declared.affine_segment.line.Line.{Line}
use Rattle.upp_curve.specs.affine_segment.Values.{line_at, line_value}
use Rattle.upp_normal.specs.declared.ahead.Stretch.{Stretch}
use Rattle.upp_normal.specs.Ahead.{IsBeforeNext, GoesOn}
use Rattle.curve_call.specs.declared.gaps.Gap.{Gap}
use Rattle.curve_call.specs.declared.gaps.Gap.TheVariants.{NoTime, Never, Is}
use Rattle.curve_call.specs.Gaps.{InWindow, IsWithin, IsMore, IsEndless, IsGap}
use Rattle.curve_call.specs.GapSteps.{gap_of, larger, IsUntil}

-- ---- one time
pub point_gap : (f g : ℚ → Ext) (t : ℚ) (x y : Ext) → f t ≡ x → g t ≡ y → IsGap (λ u. u ≡ t) f g (gap_of x y)
point_gap f g t x Inf h k = λ u e. ap g e ∙ k
point_gap f g t Inf (Fin b) h k = record { at = t; among = refl; top = h; value = b; below = k }
point_gap f g t (Fin a) (Fin b) h k = record {
  above = λ u e.
      subst (λ v. v ≤ₑ g u +ₑ Fin (a -ℚ b)) (sym (ap f e ∙ h)) (subst (λ v. Fin a ≤ₑ v +ₑ Fin (a -ℚ b)) (sym (ap g e ∙ k)) (with2 a b (λ c. omega (arith, c.le, c.lt, c.same))));
  near = λ y l. record {
    at = t;
    among = refl;
    more = subst (λ v. v +ₑ Fin y <ₑ f t) (sym k) (subst (λ v. Fin (b +ℚ y) <ₑ v) (sym h) (with3 a b y (λ c. omega (arith, c.le, c.lt, c.same))));
  };
}

-- ---- an open stretch
pub record Inside (from end t : ℚ) : Type 0 where
  pub past : from <ℚ t
  pub before : t <ℚ end

apart : (k l r q u : ℚ) → line_of (k -ℚ l) (r -ℚ q) u ≡ line_of k r u -ℚ line_of l q u
apart k l r q u = let e = sub_mul r q u in with5 k l (r *ℚ u) (q *ℚ u) ((r -ℚ q) *ℚ u) (λ c. omega (arith, c.le, c.lt, c.same))

pub line_gap : (f g : ℚ → Ext) (from end : ℚ) (l m : Option Line) → from <ℚ end → ((u : ℚ) → Inside from end u → f u ≡ line_value l u) → ((u : ℚ) → Inside from end u → g u ≡ line_value m u)
    → IsGap (Inside from end) f g (larger (gap_of (line_value l from) (line_value m from)) (gap_of (line_value l end) (line_value m end)))
line_gap f g from end l None some h k = k
line_gap f g from end None (Some m) some h k =
    let (u, p, q) = between from end some in
    let inside : Inside from end u = record { past = p; before = q } in
    record { at = u; among = inside; top = h u inside; value = line_at m u; below = k u inside }
line_gap f g from end (Some l) (Some m) some h k =
    let icept = l.icept -ℚ m.icept in
    let slope = l.slope -ℚ m.slope in
    let gap = λ (u : ℚ). line_at l u -ℚ line_at m u in
    let same : (u : ℚ) → line_of icept slope u ≡ gap u = λ u. apart l.icept m.icept l.slope m.slope u in
    let top : max_q (line_of icept slope from) (line_of icept slope end) ≡ max_q (gap from) (gap end) = ap₂ max_q (same from) (same end) in
    let S = line_supremum from end icept slope some in
    record {
      above = λ u i.
          let bound : line_of icept slope u ≤ℚ max_q (line_of icept slope from) (line_of icept slope end) = S.above record { at = u; above = i.past; below = i.before } in
          let most : gap u ≤ℚ max_q (gap from) (gap end) = subst (λ v. v ≤ℚ max_q (gap from) (gap end)) (same u) (subst (λ v. line_of icept slope u ≤ℚ v) top bound) in
          subst (λ v. v ≤ₑ g u +ₑ Fin (max_q (gap from) (gap end))) (sym (h u i))
          (subst (λ v. Fin (line_at l u) ≤ₑ v +ₑ Fin (max_q (gap from) (gap end))) (sym (k u i)) (at_most (line_at l u) (line_at m u) (max_q (gap from) (gap end)) most));
      near = λ y lower.
          let (i, more) = S.near y (subst (λ v. y <ℚ v) (sym top) lower) in
          let u = i.at in
          let inside : Inside from end u = record { past = i.above; before = i.below } in
          let over : y <ℚ gap u = subst (λ v. y <ℚ v) (same u) more in
          record {
            at = u;
            among = inside;
            more = subst (λ v. v +ₑ Fin y <ₑ f u) (sym (k u inside)) (subst (λ v. Fin (line_at m u +ℚ y) <ₑ v) (sym (h u inside)) (is_over (line_at l u) (line_at m u) y over));
          };
    }
  where
    at_most : (a b q : ℚ) → a -ℚ b ≤ℚ q → a ≤ℚ b +ℚ q
    at_most a b q h = with3 a b q (λ c. omega (arith, c.le, c.lt, c.same))

    is_over : (a b y : ℚ) → y <ℚ a -ℚ b → b +ℚ y <ℚ a
    is_over a b y h = with3 a b y (λ c. omega (arith, c.le, c.lt, c.same))

-- ---- times put together
-- the times of S are those of A and those of B
pub record IsUnion (S A B : ℚ → Type 0) : Type 0 where
  pub either : (u : ℚ) → S u → A u ⊎ B u
  pub first : (u : ℚ) → A u → S u
  pub second : (u : ℚ) → B u → S u

within_more : (A : ℚ → Type 0) (f g : ℚ → Ext) (p q : ℚ) → p ≤ℚ q → IsWithin A f g p → IsWithin A f g q
within_more A f g p q h w u i = le_ext_trans (f u) (g u +ₑ Fin p) (g u +ₑ Fin q) (w u i) (add_le_ext (g u) (g u) (Fin p) (Fin q) (le_ext_refl (g u)) h)

pub within_none : (A : ℚ → Type 0) (f g : ℚ → Ext) (q : ℚ) → ((u : ℚ) → A u → g u ≡ Inf) → IsWithin A f g q
within_none A f g q none u i = subst (λ v. f u ≤ₑ v +ₑ Fin q) (sym (none u i)) tt

more_in : (S A : ℚ → Type 0) (f g : ℚ → Ext) (y : ℚ) → ((u : ℚ) → A u → S u) → IsMore A f g y → IsMore S f g y
more_in S A f g y sub m = record { at = m.at; among = sub m.at m.among; more = m.more }

endless_in : (S A : ℚ → Type 0) (f g : ℚ → Ext) → ((u : ℚ) → A u → S u) → IsEndless A f g → IsEndless S f g
endless_in S A f g sub m = record { at = m.at; among = sub m.at m.among; top = m.top; value = m.value; below = m.below }

pub joined_gap : (S A B : ℚ → Type 0) (f g : ℚ → Ext) (a b : Gap) → IsUnion S A B → IsGap A f g a → IsGap B f g b → IsGap S f g (larger a b)
joined_gap S A B f g NoTime NoTime w h k = λ u i. elim (w.either u i) [ inl j ↦ h u j | inr j ↦ k u j ]
joined_gap S A B f g NoTime Never w h k = endless_in S B f g w.second k
joined_gap S A B f g NoTime (Is q) w h k = record {
  above = λ u i. elim (w.either u i) [ inl j ↦ within_none A f g q h u j | inr j ↦ k.above u j ];
  near = λ y l. more_in S B f g y w.second (k.near y l);
}
joined_gap S A B f g Never b w h k = endless_in S A f g w.first h
joined_gap S A B f g (Is p) NoTime w h k = record {
  above = λ u i. elim (w.either u i) [ inl j ↦ h.above u j | inr j ↦ within_none B f g p k u j ];
  near = λ y l. more_in S A f g y w.first (h.near y l);
}
joined_gap S A B f g (Is p) Never w h k = endless_in S B f g w.second k
joined_gap S A B f g (Is p) (Is q) w h k = record {
  above = λ u i. elim (w.either u i) [
    | inl j ↦ within_more A f g p (max_q p q) (max_q_ge_left p q) h.above u j
    | inr j ↦ within_more B f g q (max_q p q) (max_q_ge_right p q) k.above u j
  ];
  near = λ y l. elim (max_q_one p q) [
    | inl e ↦ more_in S A f g y w.first (h.near y (subst (λ v. y <ℚ v) e l))
    | inr e ↦ more_in S B f g y w.second (k.near y (subst (λ v. y <ℚ v) e l))
  ];
}

-- ---- a stretch of both
first_and_rest : (t end : ℚ) → t <ℚ end → IsUnion (InWindow t end) (λ u. u ≡ t) (Inside t end)
first_and_rest t end some = record {
  either = λ u i. elim (lt_cases t u) [
    | inl l ↦ inr record { past = l; before = i.before }
    | inr (inl e) ↦ inl (sym e)
    | inr (inr l) ↦ (let s = i.start in absurd (with2 t u (λ c. omega (arith, c.le, c.lt, c.same))))
  ];
  first = λ u e. record { start = subst (λ v. t ≤ℚ v) (sym e) (le_refl t); before = subst (λ v. v <ℚ end) (sym e) some };
  second = λ u i. record { start = le_of_lt i.past; before = i.before };
}

pub before_next : (u end : ℚ) (next : Option ℚ) → u <ℚ end → IsUntil end next → IsBeforeNext u next
before_next u end None h k = tt
before_next u end (Some e) h k = lt_le_trans h k

pub stretch_gap_is : (slow fast : ℚ → Ext) (f g : Stretch) (t end : ℚ) → t <ℚ end → GoesOn slow t f → GoesOn fast t g → IsUntil end f.next → IsUntil end g.next
    → IsGap (InWindow t end) slow fast (larger (gap_of f.at g.at) (larger (gap_of (line_value f.line t) (line_value g.line t)) (gap_of (line_value f.line end) (line_value g.line end))))
stretch_gap_is slow fast f g t end some F G h k =
    joined_gap (InWindow t end) (λ u. u ≡ t) (Inside t end) slow fast _ _ (first_and_rest t end some)
    (point_gap slow fast t f.at g.at (sym F.at) (sym G.at))
    (line_gap slow fast t end f.line g.line some (λ u i. F.line u i.past (before_next u end f.next i.before h)) (λ u i. G.line u i.past (before_next u end g.next i.before k)))

-- ---- one stretch more
two_windows : (from t next : ℚ) → from ≤ℚ t → t <ℚ next → IsUnion (InWindow from next) (InWindow from t) (InWindow t next)
two_windows from t next low some = record {
  either = λ u i. elim (le_or_lt t u) [ inl l ↦ inr record { start = l; before = i.before } | inr l ↦ inl record { start = i.start; before = l } ];
  first = λ u i. record { start = i.start; before = lt_le_trans i.before (le_of_lt some) };
  second = λ u i. record { start = le_trans low i.start; before = i.before };
}

pub window_more : (from t next : ℚ) (f g : ℚ → Ext) (a b : Gap) → from ≤ℚ t → t <ℚ next → IsGap (InWindow from t) f g a → IsGap (InWindow t next) f g b → IsGap (InWindow from next) f g (larger a b)
window_more from t next f g a b low some h k = joined_gap (InWindow from next) (InWindow from t) (InWindow t next) f g a b (two_windows from t next low some) h k

pub window_none : (from : ℚ) (f g : ℚ → Ext) → IsGap (InWindow from from) f g NoTime
window_none from f g = λ u i. let s = i.start in let b = i.before in absurd (with2 from u (λ c. omega (arith, c.le, c.lt, c.same)))
