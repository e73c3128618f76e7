-- The points of sorted times: in order, and those of the times.
use Rattle.std.specs.Prelude.{◌≡◌, ℕ, zero, suc, ◌+◌, ◌<◌, ◌≤◌, pos, false, List, [], ◌∷◌, length, take, map, get_or, Contains, Option, Some, None, slice_get}
use Rattle.std.specs.List.{slice_index_or}
use Rattle.std.specs.List.Sorted.{IsSorted, IsPermutation}
use Rattle.std.specs.Ordering.{is_lt}
use Rattle.std.proofs.Common.{arith, inl, inr, refl, sym, subst, ap, ◌∙◌, add-one}
use Rattle.std.proofs.lemmas.List.Sorted.{Contains-permutation, IsPermutation-sym}
use Rattle.rational.specs.Rational.{ℚ, int, ◌≤ℚ◌}
use Rattle.rational.specs.Ratio.{cmp_q}
use Rattle.rational.proofs.Laws.{le_refl, le_trans, le_or_lt, le_of_lt, antisym}
use Rattle.rational.proofs.Linear.{with3}
use Rattle.flow_watch.specs.watch_laws.Affine.{EachTime, Among}
use Rattle.flow_watch.specs.declared.watch_laws.point.Point.{Point}
use Rattle.flow_watch.specs.declared.watch_laws.point.Segment.{Segment}
use Rattle.flow_watch.specs.watch_laws.Shorts.{EachPoint, HasPoint, EachSegment, HasSegment, PointsRise, IsShortBy, NoneShortTo}
use Rattle.run_watch.specs.declared.span.Ramp.{Ramp}
use Rattle.run_watch.specs.Ramps.{EachRamp, ReadsRamp}
use Rattle.run_watch.specs.declared.watched.Stretch.{Stretch}
use Rattle.run_watch.specs.Watching.{RiseFrom, HoldsTimes}
use Rattle.run_watch.specs.FirstEnds.{KeySteps, GapSteps, FitsMarks, FitsSegments, IsFirstEnd, mark_of, rule_of}
use Rattle.run_watch.specs.WatchTimes.{HaveSameTimes, point_at, IsShortTo, StartsTo}
use Rattle.run_watch.specs.NearWindows.{IsLeast}
use Rattle.run_watch.specs.IdleWindows.{IsShortWindow, NoneIsShort, IsFirstShort, NoneEndsBy, TimeFits, SegmentsFit}
use Rattle.flow_watch.specs.watch_laws.Marks.{FitsRule}
use Rattle.run_watch.proofs.ShortMarks.{has_each, point_in}
use Rattle.run_watch.proofs.ShortWindows.{first_or_later}
use Rattle.run_watch.proofs.LeastTimes.{points_taken}
use Rattle.run_laws.proofs.Times.{each_time_map}
use Rattle.flow_watch.proofs.step_lines.SortedParts.{no_less}

-- ---- membership
among_contains : (t : ℚ) (ts : List ℚ) → Among t ts → Contains ts t
among_contains t [] h = absurd h
among_contains t (x ∷ ts) h = elim h [
  | inl e ↦ (0, omega arith, sym e)
  | inr k ↦ let (i, l, is) = among_contains t ts k in (suc i, omega arith, is)
]

contains_among : (t : ℚ) (ts : List ℚ) → Contains ts t → Among t ts
contains_among t ts h = let (i, l, is) = h in go ts i l is
  where
    go : (ts : List ℚ) (i : ℕ) → i < length ts → get_or ts i t ≡ t → Among t ts
    go [] i l e = absurd (omega arith)
    go (x ∷ ts) zero l e = inl (sym e)
    go (x ∷ ts) (suc i) l e = inr (go ts i (omega arith) e)

pub among_sorted : (xs ys : List ℚ) (t : ℚ) → IsPermutation xs ys → Among t xs → Among t ys
among_sorted xs ys t p h = contains_among t ys (Contains-permutation xs ys t p (among_contains t xs h))

pub sorted_among : (xs ys : List ℚ) (t : ℚ) → IsPermutation xs ys → Among t ys → Among t xs
sorted_among xs ys t p h = among_sorted ys xs t (IsPermutation-sym xs ys p) h

pub each_time_from : (P : ℚ → Type 0) (ts : List ℚ) → ((t : ℚ) → Among t ts → P t) → EachTime P ts
each_time_from P [] f = tt
each_time_from P (t ∷ ts) f = (f t (inl refl), each_time_from P ts (λ u h. f u (inr h)))

pub each_time_among : (P : ℚ → Type 0) (ts : List ℚ) (t : ℚ) → EachTime P ts → Among t ts → P t
each_time_among P [] t h k = absurd k
each_time_among P (x ∷ ts) t h k = elim k [ inl e ↦ subst P (sym e) h.0 | inr l ↦ each_time_among P ts t h.1 l ]

pub each_same : (P : ℚ → Type 0) (xs ts : List ℚ) → HaveSameTimes xs ts → EachTime P xs → EachTime P ts
each_same P xs ts h k = each_time_from P ts (λ t a. each_time_among P xs t k (h.back t a))

pub among_at : (ts : List ℚ) (k : ℕ) (t : ℚ) → k < length ts → t ≡ slice_index_or ts k t → Among t ts
among_at [] k t l e = absurd (omega arith)
among_at (x ∷ ts) zero t l e = inl e
among_at (x ∷ ts) (suc k) t l e = inr (among_at ts k t (omega arith) e)

-- ---- order

tail_sorted : (x : ℚ) (ts : List ℚ) → IsSorted cmp_q (x ∷ ts) → IsSorted cmp_q ts
tail_sorted x ts h = λ k d a b. shifted ts k d (h (suc k) d (omega arith) (omega arith))
  where
    shifted : (ts : List ℚ) (k : ℕ) (d : ℚ) → is_lt (cmp_q (slice_index_or (x ∷ ts) (suc k + 1) d) (slice_index_or (x ∷ ts) (suc k) d)) ≡ false → is_lt (cmp_q (slice_index_or ts (k + 1) d) (slice_index_or ts k d)) ≡ false
    shifted ts k d e = rw add-one (rw add-one at e)

pub sorted_rise : (ts : List ℚ) → IsSorted cmp_q ts → (from : ℚ) × RiseFrom from ts
sorted_rise [] h = (int (pos 0), tt)
sorted_rise (x ∷ ts) h = (x, (le_refl x, go x ts h))
  where
    go : (x : ℚ) (ts : List ℚ) → IsSorted cmp_q (x ∷ ts) → RiseFrom x ts
    go x [] h = tt
    go x (t ∷ ts) h = (no_less x t (h 0 x (omega arith) (omega arith)), go t ts (tail_sorted x (t ∷ ts) h))

pub each_point_at : (P : Point → Type 0) (works : List Ramp) (ts : List ℚ) → EachTime (λ t. P (point_at works t)) ts → EachPoint P (map (point_at works) ts)
each_point_at P works [] h = tt
each_point_at P works (t ∷ ts) h = (h.0, each_point_at P works ts h.1)

later_times : (x : ℚ) (ts : List ℚ) → RiseFrom x ts → EachTime (λ t. x ≤ℚ t) ts
later_times x [] h = tt
later_times x (t ∷ ts) h = (h.0, each_time_map (λ u. t ≤ℚ u) (λ u. x ≤ℚ u) (λ u k. le_trans h.0 k) ts (later_times t ts h.1))

points_rise : (works : List Ramp) (from : ℚ) (ts : List ℚ) → RiseFrom from ts → PointsRise (map (point_at works) ts)
points_rise works from [] h = tt
points_rise works from (t ∷ ts) h = (each_point_at (λ q. t ≤ℚ q.time) works ts (later_times t ts h.1), points_rise works t ts h.1)

pub rise_of : (works : List Ramp) (ts : List ℚ) (ps : List Point) → ps ≡ map (point_at works) ts → (from : ℚ) × RiseFrom from ts → PointsRise ps
rise_of works ts ps e h = let (from, rise) = h in subst PointsRise (sym e) (points_rise works from ts rise)

-- ---- the points are those of the times
pub has_point_at : (works : List Ramp) (ts : List ℚ) (t : ℚ) → Among t ts → HasPoint (point_at works t) (map (point_at works) ts)
has_point_at works [] t h = absurd h
has_point_at works (x ∷ ts) t h = elim h [ inl e ↦ inl (ap (point_at works) e) | inr k ↦ inr (has_point_at works ts t k) ]

pub point_is : (works : List Ramp) (ts : List ℚ) (p : Point) → HasPoint p (map (point_at works) ts) → Among p.time ts × (p ≡ point_at works p.time)
point_is works [] p h = absurd h
point_is works (x ∷ ts) p h = elim h [
  | inl e ↦ (inl (ap (λ (q : Point). q.time) e), e ∙ ap (λ (q : Point). point_at works q.time) (sym e))
  | inr k ↦ let r = point_is works ts p k in (inr r.0, r.1)
]

-- ---- sizes
fits_by : (works : List Ramp) (ts : List ℚ) (s : Segment) → GapSteps s → EachTime (λ t. KeySteps s.slope (point_at works t)) ts
    → EachTime (λ t. FitsRule (rule_of s) (mark_of s.slope (point_at works t))) ts → FitsMarks (map (point_at works) ts) s
fits_by works ts s g k m = record {
  keys = each_point_at (KeySteps s.slope) works ts k;
  gap = g;
  marks = each_point_at (λ p. FitsRule (rule_of s) (mark_of s.slope p)) works ts m;
}

abbrev KeysAt : List Ramp → List Segment → ℚ → Type 0
KeysAt works ss t = EachSegment (λ s. KeySteps s.slope (point_at works t)) ss × EachSegment (λ s. FitsRule (rule_of s) (mark_of s.slope (point_at works t))) ss

all_fit : (works : List Ramp) (ts : List ℚ) (ss : List Segment) → EachSegment GapSteps ss → EachTime (KeysAt works ss) ts → FitsSegments (map (point_at works) ts) ss
all_fit works ts [] g h = tt
all_fit works ts (s ∷ ss) g h = (
  fits_by works ts s g.0 (each_time_map (KeysAt works (s ∷ ss)) (λ t. KeySteps s.slope (point_at works t)) (λ t k. k.0.0) ts h)
      (each_time_map (KeysAt works (s ∷ ss)) (λ t. FitsRule (rule_of s) (mark_of s.slope (point_at works t))) (λ t k. k.1.0) ts h),
  all_fit works ts ss g.1 (each_time_map (KeysAt works (s ∷ ss)) (KeysAt works ss) (λ t k. (k.0.1, k.1.1)) ts h),
)

pub fits_of : (works : List Ramp) (ts : List ℚ) (ss : List Segment) (ps : List Point) → ps ≡ map (point_at works) ts → SegmentsFit ss → EachTime (TimeFits ss works) ts → FitsSegments ps ss
fits_of works ts ss ps e g h =
    subst (λ (qs : List Point). FitsSegments qs ss) (sym e) (all_fit works ts ss g.gaps (each_time_map (TimeFits ss works) (KeysAt works ss) (λ t k. (k.keys, k.marks)) ts h))

-- ---- what the scan says of the times
none_in : (ss : List Segment) (ps es : List Point) (a b : Point) → EachSegment (λ s. EachPoint (NoneShortTo ps s) es) ss → HasPoint a ps → HasPoint b es → IsShortTo ss a b → ⊥
none_in ss ps es a b none ha hb is = let (s, has, short) = is in go ss none s has short
  where
    go : (ss : List Segment) → EachSegment (λ s. EachPoint (NoneShortTo ps s) es) ss → (s : Segment) → HasSegment s ss → IsShortBy s a b → ⊥
    go [] none s has short = has
    go (r ∷ ss) none s has short = elim has [
      | inl e ↦ has_each (λ a. ¬ IsShortBy r a b) ps a (has_each (NoneShortTo ps r) es b none.0 hb) ha (subst (λ (q : Segment). IsShortBy q a b) e short)
      | inr m ↦ go ss none.1 s m short
    ]

-- the points of the times xs, and the ends among them: each short window has one
pub record AreEnds (ss : List Segment) (works : List Ramp) (xs ts us : List ℚ) (ps es : List Point) : Type 0 where
  pub same : HaveSameTimes xs ts
  pub points : ps ≡ map (point_at works) ts
  pub ends : es ≡ map (point_at works) us
  pub are : (t : ℚ) → Among t us → Among t ts
  pub all : (a b : ℚ) → IsShortWindow ss works xs a b → Among b us

pub none_short : (ss : List Segment) (works : List Ramp) (xs ts us : List ℚ) (ps es : List Point) (k : ℕ) → AreEnds ss works xs ts us ps es → IsFirstEnd ss ss ps es k → length es ≤ k → NoneIsShort ss works xs
none_short ss works xs ts us ps es k A f l a b is =
    let start = subst (λ (qs : List Point). HasPoint (point_at works a) qs) (sym A.points) (has_point_at works ts a (A.same.into a is.from)) in
    let end = subst (λ (qs : List Point). HasPoint (point_at works b) qs) (sym (points_taken es k l)) (subst (λ (qs : List Point). HasPoint (point_at works b) qs) (sym A.ends) (has_point_at works us b (A.all a b is))) in
    none_in ss ps (take k es) (point_at works a) (point_at works b) f.none start end is.short

segment_start : (ss : List Segment) (s : Segment) → EachSegment (λ s. int (pos 0) ≤ℚ s.start) ss → HasSegment s ss → int (pos 0) ≤ℚ s.start
segment_start [] s h k = absurd k
segment_start (r ∷ ss) s h k = elim k [ inl e ↦ subst (λ (q : Segment). int (pos 0) ≤ℚ q.start) (sym e) h.0 | inr l ↦ segment_start ss s h.1 l ]

pub ordered : (ss : List Segment) (a b : Point) → EachSegment (λ s. int (pos 0) ≤ℚ s.start) ss → IsShortTo ss a b → a.time ≤ℚ b.time
ordered ss a b h is =
    let (s, has, short) = is in
    let low = segment_start ss s h has in
    let from = short.from in
    let x = s.start in
    let t = a.time in
    let u = b.time in
    with3 x t u (λ c. omega (arith, c.le, c.lt, c.same))

pub first_short : (ss : List Segment) (works : List Ramp) (xs ts us : List ℚ) (ps es : List Point) (k : ℕ) (a : ℚ) (b : Point) → AreEnds ss works xs ts us ps es → (from : ℚ) × RiseFrom from us → IsFirstEnd ss ss ps es k
    → k < length es → b ≡ slice_index_or es k b → IsLeast (StartsTo ps b ss) (Some a) → IsFirstShort ss works xs a b.time
first_short ss works xs ts us ps es k a b A order f l is start =
    let has_b = point_in es k b l is in
    let (s, listed, from) = start.0 in
    let (p, has_p, short, at_a) = from in
    let pa = point_is works ts p (subst (λ (qs : List Point). HasPoint p qs) A.points has_p) in
    let pb = point_is works us b (subst (λ (qs : List Point). HasPoint b qs) A.ends has_b) in
    let rise = rise_of works us es A.ends order in
    record {
      is = subst (λ x. IsShortWindow ss works xs x b.time) (sym at_a) record {
        from = A.same.back p.time pa.0;
        to = A.same.back b.time (A.are b.time pb.0);
        short = subst (λ (q : Point). IsShortTo ss q (point_at works b.time)) pa.1 (subst (λ (q : Point). IsShortTo ss p q) pb.1 (s, listed, short));
      };
      least = λ x y w.
          let has_x = subst (λ (qs : List Point). HasPoint (point_at works x) qs) (sym A.points) (has_point_at works ts x (A.same.into x w.from)) in
          let has_y = subst (λ (qs : List Point). HasPoint (point_at works y) qs) (sym A.ends) (has_point_at works us y (A.all x y w)) in
          elim (first_or_later es k b (point_at works y) rise l is has_y) [
            | inl m ↦ absurd (none_in ss ps (take k es) (point_at works x) (point_at works y) f.none has_x m w.short)
            | inr m ↦ elim (le_or_lt y b.time) [
              | inr n ↦ inl n
              | inl n ↦
                  let at : b.time ≡ y = antisym (m, n) in
                  let at_b : point_at works y ≡ b = ap (point_at works) (sym at) ∙ sym pb.1 in
                  let (r, has_r, less) = w.short in
                  inr (at, start.1 x (r, has_r, (point_at works x, has_x, subst (λ (q : Point). IsShortBy r (point_at works x) q) at_b less, refl)))
            ]
          ];
    }

abbrev unwrapped : Option Point → Point → Point
unwrapped None d = d
unwrapped (Some y) d = y

pub point_read : (ps : List Point) (k : ℕ) (b c : Point) → slice_get ps k ≡ Some c → k < length ps → c ≡ slice_index_or ps k b
point_read [] k b c at l = absurd (omega arith)
point_read (q ∷ ps) zero b c at l = ap (λ (o : Option Point). unwrapped o c) (sym at)
point_read (q ∷ ps) (suc k) b c at l = point_read ps k b c at (omega arith)

pub some_start : (ss : List Segment) (ps es : List Point) (k : ℕ) (b : Point) → IsFirstEnd ss ss ps es k → k < length es → b ≡ slice_index_or es k b → ((t : ℚ) → ¬ StartsTo ps b ss t) → ⊥
some_start ss ps es k b f l is none =
    let (c, at, there) = f.there l in
    let same : c ≡ b = point_read es k b c at l ∙ sym is in
    none there.start.time (there.segment, there.in_curve, (there.start, there.one_of, subst (λ (p : Point). IsShortBy there.segment there.start p) same there.short, refl))

-- the first end of a short window between the points of some times
pub window_at : (ss gs : List Segment) (works : List Ramp) (ts : List ℚ) (ps : List Point) (k : ℕ) (b : Point) → gs ≡ ss → ps ≡ map (point_at works) ts → IsFirstEnd gs gs ps ps k → k < length ps → b ≡ slice_index_or ps k b
    → (a : ℚ) × IsShortWindow ss works ts a b.time
window_at ss gs works ts ps k b g e f l is =
    let (c, at, there) = f.there l in
    let a = there.start in
    let same : c ≡ b = point_read ps k b c at l ∙ sym is in
    let pa = point_is works ts a (subst (λ (qs : List Point). HasPoint a qs) e there.one_of) in
    let pb = point_is works ts b (subst (λ (qs : List Point). HasPoint b qs) e (point_in ps k b l is)) in
    let short : IsShortTo gs a b = (there.segment, there.in_curve, subst (λ (p : Point). IsShortBy there.segment a p) same there.short) in (
      a.time,
      record {
        from = pa.0;
        to = pb.0;
        short = subst (λ (p : Point). IsShortTo ss p (point_at works b.time)) pa.1 (subst (λ (p : Point). IsShortTo ss a p) pb.1 (subst (λ (xs : List Segment). IsShortTo xs a b) g short));
      },
    )

-- and it is the least
pub least_end : (ss gs : List Segment) (works : List Ramp) (ts : List ℚ) (ps : List Point) (k : ℕ) (b : Point) → gs ≡ ss → (from : ℚ) × RiseFrom from ts → ps ≡ map (point_at works) ts → IsFirstEnd gs gs ps ps k → k < length ps
    → b ≡ slice_index_or ps k b → IsLeast (λ t. (a : ℚ) × IsShortWindow ss works ts a t) (Some b.time)
least_end ss gs works ts ps k b g order e f l is = (
  window_at ss gs works ts ps k b g e f l is,
  λ y w.
      let (x, k_is) = w in
      let has : (t : ℚ) → Among t ts → HasPoint (point_at works t) ps = λ t h. subst (λ (qs : List Point). HasPoint (point_at works t) qs) (sym e) (has_point_at works ts t h) in
      elim (first_or_later ps k b (point_at works y) (rise_of works ts ps e order) l is (has y k_is.to)) [
        | inl m ↦ absurd (none_in gs ps (take k ps) (point_at works x) (point_at works y) f.none (has x k_is.from) m (subst (λ (xs : List Segment). IsShortTo xs (point_at works x) (point_at works y)) (sym g) k_is.short))
        | inr m ↦ m
      ],
)

pub no_end : (ss gs : List Segment) (works : List Ramp) (ts : List ℚ) (ps : List Point) (k : ℕ) → gs ≡ ss → ps ≡ map (point_at works) ts → IsFirstEnd gs gs ps ps k → length ps ≤ k
    → (t : ℚ) → ¬ ((a : ℚ) × IsShortWindow ss works ts a t)
no_end ss gs works ts ps k g e f l t w =
    let (a, is) = w in
    none_short gs works ts ts ts ps ps k record { same = record { into = λ t h. h; back = λ t h. h }; points = e; ends = e; are = λ t h. h; all = λ x y v. v.to } f l a t
    (subst (λ (xs : List Segment). IsShortWindow xs works ts a t) (sym g) is)

-- ---- as the code finds them
pub first_end_of : (ss : List Segment) (ps qs es fs : List Point) (k : ℕ) → ps ≡ qs → es ≡ fs → IsFirstEnd ss ss ps es k → IsFirstEnd ss ss qs fs k
first_end_of ss ps qs es fs k e f h = subst (λ (rs : List Point). IsFirstEnd ss ss qs rs k) f (subst (λ (rs : List Point). IsFirstEnd ss ss rs es k) e h)

pub reads_of : (ss : List Segment) (works : List Ramp) (ts : List ℚ) → EachTime (TimeFits ss works) ts → EachTime (λ t. EachRamp (ReadsRamp t) works) ts
reads_of ss works ts h = each_time_map (TimeFits ss works) (λ t. EachRamp (ReadsRamp t) works) (λ t k. k.reads) ts h

pub start_of : (ss : List Segment) (ps qs : List Point) (b c : Point) (o p : Option ℚ) → ps ≡ qs → b ≡ c → o ≡ p → IsLeast (StartsTo ps b ss) o → IsLeast (StartsTo qs c ss) p
start_of ss ps qs b c o p e f g h =
    subst (λ (x : Option ℚ). IsLeast (StartsTo qs c ss) x) g (subst (λ (rs : List Point). IsLeast (StartsTo rs c ss) o) e (subst (λ (x : Point). IsLeast (StartsTo ps x ss) o) f h))

-- the watch points that are later than a time by which no short window ends are ends of all of them
pub are_ends : (ss : List Segment) (works : List Ramp) (s : Stretch) (after : ℚ) (xs ts us : List ℚ) (ps es : List Point) → HaveSameTimes xs ts → ps ≡ map (point_at works) ts → es ≡ map (point_at works) us
    → HoldsTimes record { start = after; end = s.end } ts us → EachTime (λ t. t ≤ℚ s.end) xs → NoneEndsBy ss works xs after → AreEnds ss works xs ts us ps es
are_ends ss works s after xs ts us ps es same e f h upto late = record {
  same = same;
  points = e;
  ends = f;
  are = h.are;
  all = λ a b w. h.inside b (same.into b w.to) (le_of_lt (late a b w)) (each_time_among (λ t. t ≤ℚ s.end) xs b upto w.to);
}

pub times_one : (works : List Ramp) (xs ts : List ℚ) → xs ≡ ts → map (point_at works) xs ≡ map (point_at works) ts
times_one works xs ts e = ap (map (point_at works)) e
