-- A window is short by a segment where its two marks say so; and the first of some points from which one is.
use Rattle.std.specs.Prelude.{◌≡◌, ◌⊎◌, ℕ, zero, suc, ◌+◌, ◌<◌, ◌≤◌, List, [], ◌∷◌, length, take, Some, None}
use Rattle.std.specs.List.{slice_index_or}
use Rattle.std.proofs.Common.{arith, inl, inr, refl, sym, subst, ◌∙◌, add-one}
use Rattle.rational.specs.Rational.{ℚ, ◌+ℚ◌, ◌≤ℚ◌, ◌<ℚ◌}
use Rattle.rational.proofs.Laws.{le_refl, lt_le_trans, lt_irrefl, le_of_not_lt}
use Rattle.flow_watch.specs.declared.watch_laws.mark.Mark.{Mark}
use Rattle.flow_watch.specs.declared.watch_laws.mark.Rule.{Rule}
use Rattle.flow_watch.specs.declared.watch_laws.point.Point.{Point}
use Rattle.flow_watch.specs.declared.watch_laws.point.Segment.{Segment}
use Rattle.flow_watch.specs.watch_laws.Marks.{IsPast, IsUnder}
use Rattle.flow_watch.specs.watch_laws.Shorts.{EachPoint, HasPoint, PointsRise, IsShortBy}
use Rattle.run_watch.specs.FirstEnds.{mark_of, rule_of, HoldsStarts, FitsMarks, FitsSegments}
use Rattle.run_watch.specs.WatchTimes.{StartsBy}
use Rattle.run_watch.specs.NearWindows.{IsLeast}
use Rattle.run_watch.proofs.LeastTimes.{points_taken}
use Rattle.run_watch.proofs.ShortMarks.{has_each, point_in, short_under, under_short}

-- ---- one window
pub record AreMarks (s : Segment) (a b : Point) (r : Rule) (x y : Mark) : Type 0 where
  pub rule : r ≡ rule_of s
  pub from : x ≡ mark_of s.slope a
  pub to : y ≡ mark_of s.slope b

pub marks : (s : Segment) (a b : Point) (r : Rule) (x y : Mark) → r ≡ rule_of s → x ≡ mark_of s.slope a → y ≡ mark_of s.slope b → AreMarks s a b r x y
marks s a b r x y e f g = record { rule = e; from = f; to = g }

as_under : (s : Segment) (a b : Point) (r : Rule) (x y : Mark) → AreMarks s a b r x y → IsShortBy s a b → IsUnder r x y
as_under s a b r x y m h =
    subst (λ (q : Rule). IsUnder q x y) (sym m.rule) (subst (λ (z : Mark). IsUnder (rule_of s) z y) (sym m.from) (subst (λ (z : Mark). IsUnder (rule_of s) (mark_of s.slope a) z) (sym m.to) (short_under s a b h)))

as_short : (s : Segment) (a b : Point) (r : Rule) (x y : Mark) → AreMarks s a b r x y → IsUnder r x y → IsShortBy s a b
as_short s a b r x y m h =
    under_short s a b (subst (λ (z : Mark). IsUnder (rule_of s) (mark_of s.slope a) z) m.to (subst (λ (z : Mark). IsUnder (rule_of s) z y) m.from (subst (λ (q : Rule). IsUnder q x y) m.rule h)))

pub too_near : (s : Segment) (a b : Point) (r : Rule) (x y : Mark) (q : ℚ) → AreMarks s a b r x y → q ≡ x.time +ℚ r.least → y.time <ℚ q → ¬ IsShortBy s a b
too_near s a b r x y q m e l h = lt_irrefl y.time (lt_le_trans (subst (λ z. y.time <ℚ z) e l) (as_under s a b r x y m h).far)

pub too_far : (s : Segment) (a b : Point) (r : Rule) (x y : Mark) → AreMarks s a b r x y → IsPast r.most x.time y.time → ¬ IsShortBy s a b
too_far s a b r x y m p h = (as_under s a b r x y m h).near p

pub short_here : (s : Segment) (a b : Point) (r : Rule) (x y : Mark) (q p : ℚ) → AreMarks s a b r x y → q ≡ x.time +ℚ r.least → ¬ (y.time <ℚ q) → ¬ IsPast r.most x.time y.time → p ≡ x.start_key +ℚ r.gap
    → (y.end_key <ℚ p → IsShortBy s a b) × (IsShortBy s a b → y.end_key <ℚ p)
short_here s a b r x y q p m e l n f = (
  λ h. as_short s a b r x y m record {
    far = subst (λ z. z ≤ℚ y.time) e (le_of_not_lt l);
    near = n;
    less = subst (λ z. y.end_key <ℚ z) f h;
  },
  λ h. subst (λ z. y.end_key <ℚ z) (sym f) (as_under s a b r x y m h).less,
)

-- ---- some points
pub points_push : (P : Point → Type 0) (ps : List Point) (k : ℕ) (p : Point) → k < length ps → p ≡ slice_index_or ps k p → EachPoint P (take k ps) → P p → EachPoint P (take (k + 1) ps)
points_push P ps k p l e h is = rw add-one (push ps k l e h)
  where
    push : (ps : List Point) (k : ℕ) → k < length ps → p ≡ slice_index_or ps k p → EachPoint P (take k ps) → EachPoint P (take (suc k) ps)
    push [] k l e h = absurd (omega arith)
    push (r ∷ ps) zero l e h = (subst P e is, tt)
    push (r ∷ ps) (suc k) l e h = (h.0, push ps k (omega arith) e h.1)

-- of points in order, one that is not among the first k is no earlier than the next
pub first_or_later : (ps : List Point) (k : ℕ) (a p : Point) → PointsRise ps → k < length ps → a ≡ slice_index_or ps k a → HasPoint p ps → HasPoint p (take k ps) ⊎ (a.time ≤ℚ p.time)
first_or_later [] k a p h l e has = absurd has
first_or_later (q ∷ ps) zero a p h l e has = elim has [
  | inl is ↦ inr (subst (λ (r : Point). a.time ≤ℚ r.time) (e ∙ sym is) (le_refl a.time))
  | inr m ↦ inr (subst (λ (r : Point). r.time ≤ℚ p.time) (sym e) (has_each (λ r. q.time ≤ℚ r.time) ps p h.0 m))
]
first_or_later (q ∷ ps) (suc k) a p h l e has = elim has [
  | inl is ↦ inl (inl is)
  | inr m ↦ elim (first_or_later ps k a p h.1 (omega arith) e m) [ inl n ↦ inl (inr n) | inr n ↦ inr n ]
]

pub first_by : (s : Segment) (ps qs : List Point) (k : ℕ) (a b : Point) → HoldsStarts s ps b.time b.time qs → k < length qs → a ≡ slice_index_or qs k a → EachPoint (λ p. ¬ IsShortBy s p b) (take k qs) → IsShortBy s a b
    → IsLeast (StartsBy ps b s) (Some a.time)
first_by s ps qs k a b h l e none is = (
  (a, h.are a (point_in qs k a l e), is, refl),
  λ t w.
      let (p, has, short, at) = w in
      elim (first_or_later qs k a p h.rise l e (h.all p b has (le_refl b.time) (le_refl b.time) short)) [
        | inl m ↦ absurd (has_each (λ p. ¬ IsShortBy s p b) (take k qs) p none m short)
        | inr m ↦ subst (λ x. a.time ≤ℚ x) (sym at) m
      ],
)

pub none_by_reach : (s : Segment) (ps qs : List Point) (k : ℕ) (b : Point) → HoldsStarts s ps b.time b.time qs → length qs ≤ k → EachPoint (λ p. ¬ IsShortBy s p b) (take k qs) → IsLeast (StartsBy ps b s) None
none_by_reach s ps qs k b h l none t w =
    let (p, has, short, at) = w in
    has_each (λ p. ¬ IsShortBy s p b) qs p (subst (EachPoint (λ p. ¬ IsShortBy s p b)) (points_taken qs k l) none) (h.all p b has (le_refl b.time) (le_refl b.time) short) short

-- ---- sizes
pub fits_at : (s : Segment) (ps : List Point) (k : ℕ) (p : Point) → k < length ps → p ≡ slice_index_or ps k p → FitsMarks ps s → FitsMarks (p ∷ []) s
fits_at s ps k p l e h = record {
  keys = (has_each _ ps p h.keys (point_in ps k p l e), tt);
  gap = h.gap;
  marks = (has_each _ ps p h.marks (point_in ps k p l e), tt);
}

pub fits_one : (ss : List Segment) (ps : List Point) (k : ℕ) (p : Point) → k < length ps → p ≡ slice_index_or ps k p → FitsSegments ps ss → FitsSegments (p ∷ []) ss
fits_one [] ps k p l e h = tt
fits_one (s ∷ ss) ps k p l e h = (fits_at s ps k p l e h.0, fits_one ss ps k p l e h.1)
