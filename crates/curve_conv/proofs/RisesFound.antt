-- By how much a curve is at most above itself some time earlier or later, step by step.
use Rattle.std.specs.Prelude.{◌≡◌, ℕ, pos, [], ◌∷◌, Option, Some, None, IfSome}
use Rattle.std.proofs.Common.{arith, sym, subst, inl, inr}
use Rattle.rational.specs.Rational.{ℚ, ◌+ℚ◌, ◌-ℚ◌, ◌*ℚ◌, ◌≤ℚ◌, ◌<ℚ◌, int}
use Rattle.rational.specs.Grid.{Whole}
use Rattle.rational.specs.Line.{line_at as line_of}
use Rattle.rational.specs.MinMax.{max_q, min_q}
use Rattle.rational.specs.Extended.{Ext, ◌≤ₑ◌, ◌+ₑ◌}
use Rattle.rational.specs.declared.Extended.TheVariants.{Fin}
use Rattle.rational.proofs.Linear.{with_atoms, with2, with3, with4}
use Rattle.rational.proofs.Laws.{le_refl, le_trans, le_of_lt, lt_le_trans, lt_cases, mul_add, sub_mul}
use Rattle.rational.proofs.Grid.{whole_add, whole_sub}
use Rattle.rational.proofs.MinMax.{max_q_le, max_q_ge_left, max_q_ge_right, min_q_one, below_min_in, below_min_out}
use Rattle.rational.proofs.Stretch.{line_supremum}
use Rattle.rational.proofs.ExtendedOrder.{le_ext_trans, add_le_ext, le_ext_refl}
use Rattle.upp_curve.specs.declared.affine_segment.line.Line.{Line}
use Rattle.upp_curve.specs.affine_segment.Values.{line_at, line_value}
use Rattle.upp_curve.specs.Curve.{SpecCurve, value_at}
use Rattle.upp_limits.specs.Limits.{Sizes}
use Rattle.upp_normal.specs.declared.ahead.Stretch.{Stretch}
use Rattle.upp_normal.specs.Ahead.{AtNext, TimesStand, IsTimeIn, GoesOn}
use Rattle.upp_normal.proofs.StretchSizes.{times_stand}
use Rattle.curve_call.specs.GapSteps.{earlier_of}
use Rattle.curve_conv.specs.declared.rises.Looked.{Looked}
use Rattle.curve_conv.specs.Rises.{RisesAtMost, HasLaterIn, IsLookedUntil, IsNextTime}

-- ---- two values
pub more_above : (a b : Ext) (q r : ℚ) → q ≤ℚ r → b ≤ₑ a +ₑ Fin q → b ≤ₑ a +ₑ Fin r
more_above a b q r h k = le_ext_trans b (a +ₑ Fin q) (a +ₑ Fin r) k (add_le_ext a a (Fin q) (Fin r) (le_ext_refl a) h)

pub above_number : (x y gap most r : ℚ) → gap ≡ x -ℚ y → r ≡ max_q most gap → (most ≤ℚ r) × (x ≤ℚ y +ℚ r)
above_number x y gap most r e f =
    let low : gap ≤ℚ r = subst (λ k. gap ≤ℚ k) (sym f) (max_q_ge_right most gap) in
    (subst (λ k. most ≤ℚ k) (sym f) (max_q_ge_left most gap), over x y r (subst (λ k. k ≤ℚ r) e low))
  where
    over : (x y r : ℚ) → x -ℚ y ≤ℚ r → x ≤ℚ y +ℚ r
    over x y r h = with3 x y r (λ c. omega (arith, c.le, c.lt, c.same))

pub above_as : (b a v w : Ext) (most : ℚ) (r : Option ℚ) → b ≡ v → a ≡ w → IfSome r (λ q. (most ≤ℚ q) × (b ≤ₑ a +ₑ Fin q)) → IfSome r (λ q. (most ≤ℚ q) × (v ≤ₑ w +ₑ Fin q))
above_as b a v w most r e f h =
    subst (λ x. IfSome r (λ q. (most ≤ℚ q) × (x ≤ₑ w +ₑ Fin q))) e (subst (λ y. IfSome r (λ q. (most ≤ℚ q) × (b ≤ₑ y +ₑ Fin q))) f h)

-- ---- two lines between two times
apart : (k l m n d u : ℚ) → line_of (k +ℚ l *ℚ d -ℚ m) (l -ℚ n) u ≡ k +ℚ l *ℚ (u +ℚ d) -ℚ (m +ℚ n *ℚ u)
apart k l m n d u =
    let e = sub_mul l n u in
    let f = mul_add l u d in
    with_atoms (k ∷ (l *ℚ d) ∷ m ∷ (l *ℚ u) ∷ (n *ℚ u) ∷ ((l -ℚ n) *ℚ u) ∷ (l *ℚ (u +ℚ d)) ∷ []) (λ c. omega (arith, c.le, c.lt, c.same))

lines_between : (l m : Line) (d x u t r : ℚ) → x <ℚ t → t <ℚ u → line_at l (x +ℚ d) ≤ℚ line_at m x +ℚ r → line_at l (u +ℚ d) ≤ℚ line_at m u +ℚ r → line_at l (t +ℚ d) ≤ℚ line_at m t +ℚ r
lines_between l m d x u t r past before first last =
    let icept = l.icept +ℚ l.slope *ℚ d -ℚ m.icept in
    let slope = l.slope -ℚ m.slope in
    let gap = λ (s : ℚ). line_at l (s +ℚ d) -ℚ line_at m s in
    let same : (s : ℚ) → line_of icept slope s ≡ gap s = λ s. apart l.icept l.slope m.icept m.slope d s in
    let low : line_of icept slope x ≤ℚ r = subst (λ k. k ≤ℚ r) (sym (same x)) (under (line_at l (x +ℚ d)) (line_at m x) r first) in
    let high : line_of icept slope u ≤ℚ r = subst (λ k. k ≤ℚ r) (sym (same u)) (under (line_at l (u +ℚ d)) (line_at m u) r last) in
    let S = line_supremum x u icept slope (both x t u past before) in
    let bound : line_of icept slope t ≤ℚ max_q (line_of icept slope x) (line_of icept slope u) = S.above record { at = t; above = past; below = before } in
    over (line_at l (t +ℚ d)) (line_at m t) r (subst (λ k. k ≤ℚ r) (same t) (le_trans bound (max_q_le (line_of icept slope x) (line_of icept slope u) r low high)))
  where
    under : (a b r : ℚ) → a ≤ℚ b +ℚ r → a -ℚ b ≤ℚ r
    under a b r h = with3 a b r (λ c. omega (arith, c.le, c.lt, c.same))

    over : (a b r : ℚ) → a -ℚ b ≤ℚ r → a ≤ℚ b +ℚ r
    over a b r h = with3 a b r (λ c. omega (arith, c.le, c.lt, c.same))

    both : (x t u : ℚ) → x <ℚ t → t <ℚ u → x <ℚ u
    both x t u a b = with3 x t u (λ c. omega (arith, c.le, c.lt, c.same))

between : (there here : Option Line) (d x u t r : ℚ) → x <ℚ t → t <ℚ u → line_value there (x +ℚ d) ≤ₑ line_value here x +ₑ Fin r → line_value there (u +ℚ d) ≤ₑ line_value here u +ₑ Fin r
    → line_value there (t +ℚ d) ≤ₑ line_value here t +ₑ Fin r
between there None d x u t r past before first last = tt
between None (Some m) d x u t r past before first last = absurd first
between (Some l) (Some m) d x u t r past before first last = lines_between l m d x u t r past before first last

-- ---- the next time
pub earlier_time : (d first : ℚ) (here : Option ℚ) (u : ℚ) → u ≡ earlier_of first here → IsNextTime here None d first u
earlier_time d first None u e = record {
  past = λ t h k l. subst (λ x. t <ℚ x) (sym e) h;
  soon = λ t h. tt;
  late = λ t h. tt;
  grid = λ n a b f w. subst (Whole n) (sym e) f;
}
earlier_time d first (Some x) u e = record {
  past = λ t h k l. subst (λ y. t <ℚ y) (sym e) (below_min_in first x t h k);
  soon = λ t h. (below_min_out first x t (subst (λ y. t <ℚ y) e h)).1;
  late = λ t h. tt;
  grid = λ n a b f w. subst (Whole n) (sym e) (elim (min_q_one first x) [ inl i ↦ subst (Whole n) (sym i) f | inr i ↦ subst (Whole n) (sym i) a ]);
}

pub back_time : (d first : ℚ) (here : Option ℚ) (e near back u : ℚ) → near ≡ earlier_of first here → back ≡ e -ℚ d → u ≡ min_q near back → IsNextTime here (Some e) d first u
back_time d first here e near back u es eb eu =
    let E = earlier_time d first here near es in
    record {
      past = λ t h k l. subst (λ y. t <ℚ y) (sym eu) (below_min_in near back t (E.past t h k tt) (subst (λ y. t <ℚ y) (sym eb) (off t d e l)));
      soon = λ t h. E.soon t (below_min_out near back t (subst (λ y. t <ℚ y) eu h)).0;
      late = λ t h. on t d e (subst (λ y. t <ℚ y) eb (below_min_out near back t (subst (λ y. t <ℚ y) eu h)).1);
      grid = λ n a b f w. subst (Whole n) (sym eu) (elim (min_q_one near back) [
        | inl i ↦ subst (Whole n) (sym i) (E.grid n a tt f w)
        | inr i ↦ subst (Whole n) (sym i) (subst (Whole n) (sym eb) (whole_sub n e d b w))
      ]);
    }
  where
    off : (t d e : ℚ) → t +ℚ d <ℚ e → t <ℚ e -ℚ d
    off t d e h = with3 t d e (λ c. omega (arith, c.le, c.lt, c.same))

    on : (t d e : ℚ) → t <ℚ e -ℚ d → t +ℚ d <ℚ e
    on t d e h = with3 t d e (λ c. omega (arith, c.le, c.lt, c.same))

-- ---- one step
pub record StepTimes (z : Sizes) (end d x : ℚ) : Type 0 where
  pub here : IsTimeIn z end x
  pub later : IsTimeIn z end (x +ℚ d)

pub step_times : (z : Sizes) (end : ℚ) (c : SpecCurve) (begin first d : ℚ) (s : Looked) → HasLaterIn z end c begin first d → IsLookedUntil c begin first d s → s.until <ℚ first → StepTimes z end d s.until
step_times z end c begin first d s H L before =
    let w = L.grid z.dt (times_stand z end c H.window.curve H.window) H.start H.stop H.period in
    record {
      here = record { whole = w; nonneg = le_trans H.nonneg L.late; before = lt_le_trans before H.soon };
      later = record { whole = whole_add z.dt s.until d w H.period; nonneg = on begin s.until d H.later L.late; before = late s.until first d end before H.early };
    }
  where
    on : (b x d : ℚ) → int (pos 0) ≤ℚ b +ℚ d → b ≤ℚ x → int (pos 0) ≤ℚ x +ℚ d
    on b x d h k = with3 b x d (λ c. omega (arith, c.le, c.lt, c.same))

    late : (x first d end : ℚ) → x <ℚ first → first +ℚ d ≤ℚ end → x +ℚ d <ℚ end
    late x first d end a e = with4 x first d end (λ c. omega (arith, c.le, c.lt, c.same))

-- what the step found: each number is the one before or more
pub record StepFound (there here : Stretch) (d x u least : ℚ) (most : ℚ) : Type 0 where
  pub low : least ≤ℚ most
  pub start : there.at ≤ₑ here.at +ₑ Fin most
  pub after : line_value there.line (x +ℚ d) ≤ₑ line_value here.line x +ₑ Fin most
  pub last : line_value there.line (u +ℚ d) ≤ₑ line_value here.line u +ₑ Fin most

pub step_found : (there here : Stretch) (d x u least one two most : ℚ) → least ≤ℚ one → there.at ≤ₑ here.at +ₑ Fin one → one ≤ℚ two → line_value there.line (x +ℚ d) ≤ₑ line_value here.line x +ₑ Fin two → two ≤ℚ most
    → line_value there.line (u +ℚ d) ≤ₑ line_value here.line u +ₑ Fin most → StepFound there here d x u least most
step_found there here d x u least one two most a p b q e r = record {
  low = le_trans a (le_trans b e);
  start = more_above here.at there.at one most (le_trans b e) p;
  after = more_above (line_value here.line x) (line_value there.line (x +ℚ d)) two most e q;
  last = r;
}

pub step_on : (c : SpecCurve) (begin first d : ℚ) (s : Looked) (there here : Stretch) (u most : ℚ) → IsLookedUntil c begin first d s → s.until <ℚ first → GoesOn (value_at c) s.until here → GoesOn (value_at c) (s.until +ℚ d) there
    → ((n : ℕ) → TimesStand n c → AtNext (Whole n) here.next) → ((n : ℕ) → TimesStand n c → AtNext (Whole n) there.next) → IsNextTime here.next there.next d first u → StepFound there here d s.until u s.most most
    → IsLookedUntil c begin first d record { until = u; most = most }
step_on c begin first d s there here u most L before H T A B N F = record {
  late = le_trans L.late (le_of_lt past);
  grid = λ n C b f w. N.grid n (A n C) (B n C) f w;
  rises = rises;
}
  where
    past : s.until <ℚ u
    past = N.past s.until before H.next T.next

    on : (x t d : ℚ) → x <ℚ t → x +ℚ d <ℚ t +ℚ d
    on x t d h = with3 x t d (λ c. omega (arith, c.le, c.lt, c.same))

    rises : RisesAtMost (value_at c) d begin u most
    rises t i = elim (lt_cases t s.until) [
      | inl l ↦ more_above (value_at c t) (value_at c (t +ℚ d)) s.most most F.low (L.rises t record { start = i.start; before = l })
      | inr (inl e) ↦
          let p : value_at c (s.until +ℚ d) ≤ₑ value_at c s.until +ₑ Fin most = subst (λ v. v ≤ₑ value_at c s.until +ₑ Fin most) T.at (subst (λ v. there.at ≤ₑ v +ₑ Fin most) H.at F.start) in
          subst (λ x. value_at c (x +ℚ d) ≤ₑ value_at c x +ₑ Fin most) (sym e) p
      | inr (inr l) ↦
          let m = between there.line here.line d s.until u t most l i.before F.after F.last in
          let soon = H.line t l (N.soon t i.before) in
          let late = T.line (t +ℚ d) (on s.until t d l) (N.late t i.before) in
          subst (λ v. v ≤ₑ value_at c t +ₑ Fin most) (sym late) (subst (λ v. line_value there.line (t +ℚ d) ≤ₑ v +ₑ Fin most) (sym soon) m)
    ]

-- ---- before the first step, and after the last
pub none_looked : (c : SpecCurve) (begin first d least : ℚ) → IsLookedUntil c begin first d record { until = begin; most = least }
none_looked c begin first d least = record {
  late = le_refl begin;
  grid = λ n C b f w. b;
  rises = λ t i. absurd (empty t begin i.start i.before);
}
  where
    empty : (t begin : ℚ) → begin ≤ℚ t → t <ℚ begin → ⊥
    empty t begin a b = with2 t begin (λ c. omega (arith, c.le, c.lt, c.same))

pub all_looked : (c : SpecCurve) (begin first d : ℚ) (s : Looked) → IsLookedUntil c begin first d s → first ≤ℚ s.until → RisesAtMost (value_at c) d begin first s.most
all_looked c begin first d s L h = λ t i. L.rises t record { start = i.start; before = lt_le_trans i.before h }
