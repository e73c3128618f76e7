-- A short window that a stretch's own turns show is one between its watch points; so the first is among those up to its end.
use Rattle.std.specs.Prelude.{◌≡◌, ◌⊎◌, pos, List, [], ◌∷◌, Option, Some, None, IfSome}
use Rattle.std.proofs.Common.{arith, refl, sym, subst, inl, inr}
use Rattle.rational.specs.Rational.{ℚ, int, ◌+ℚ◌, ◌-ℚ◌, ◌*ℚ◌, ◌≤ℚ◌, ◌<ℚ◌}
use Rattle.rational.proofs.Laws.{le_refl, le_trans, le_or_lt, le_lt_trans}
use Rattle.rational.proofs.Linear.{with2}
use Rattle.upp_curve.specs.declared.affine_segment.line.Piece.{Piece}
use Rattle.upp_curve.specs.affine_segment.Pieces.{Each, HasStart}
use Rattle.upp_curve.specs.Curve.{SpecCurve}
use Rattle.upp_curve.specs.Unrolled.{unroll}
use Rattle.upp_limits.specs.Limits.{Sizes}
use Rattle.upp_normal.specs.Operand.{OperandPiece}
use Rattle.upp_normal.proofs.UnrolledPieces.{unroll_starts}
use Rattle.flow_watch.specs.watch_laws.Affine.{EachTime, Among}
use Rattle.flow_watch.specs.declared.watch_laws.point.Point.{Point}
use Rattle.flow_watch.specs.declared.watch_laws.point.Segment.{Segment}
use Rattle.flow_watch.specs.watch_laws.Laws.{MayServe}
use Rattle.flow_watch.specs.watch_laws.Segments.{segments}
use Rattle.flow_watch.specs.watch_laws.Shorts.{EachSegment, HasSegment}
use Rattle.flow_watch.proofs.watch_laws.CurveSegments.{segments_tell}
use Rattle.flow_watch.proofs.watch_laws.UnrolledStarts.{start_before, starts_again}
use Rattle.run_watch.specs.declared.span.Ramp.{Ramp}
use Rattle.run_watch.specs.declared.watched.Watched.{Watched}
use Rattle.run_watch.specs.declared.watched.Stretch.{Stretch}
use Rattle.run_watch.specs.Watching.{HoldsTimes}
use Rattle.run_watch.specs.WatchTimes.{around, watched_from, point_at, IsShortTo}
use Rattle.run_watch.specs.IdleWindows.{IsShortWindow, FindsShort, TimeFits}
use Rattle.run_watch.specs.NearWindows.{IsNearEnd, EndsShort, IsLeast}
use Rattle.run_watch.specs.Classes.{IsCycle, Recurs}
use Rattle.run_watch.specs.Held.{IsHeld}
use Rattle.run_watch.specs.Reaches.{within_reach}
use Rattle.run_watch.specs.Searches.{IsLookedAt, FindsIn}
use Rattle.run_watch.proofs.ClearStretches.{each_segment_has, no_longer}
use Rattle.run_watch.proofs.FoundTimes.{around_after, around_before, watched_in, in_watched, zero_start}
use Rattle.run_watch.proofs.HeldSizes.{time_fits}
use Rattle.run_watch.proofs.HeldTimes.{gaps_fit, watched_time}
use Rattle.run_watch.proofs.NearWindows.{stretch_stands, length_stands, end_some, near_pieces, near_segments, found_watched}
use Rattle.run_watch.proofs.Reaches.{shown_by_all}
use Rattle.run_watch.proofs.SortedPoints.{each_time_from, ordered, point_is}

-- ---- watch points
-- a turn moved by a start
moved_turn : (s : Stretch) (qs : List Piece) (ps : List ℚ) (p x t : ℚ) → Among p ps → HasStart x qs → (t ≡ p +ℚ x) ⊎ (t ≡ p -ℚ x) → s.start ≤ℚ t → t ≤ℚ s.end → Among t (watched_from s qs ps)
moved_turn s qs ps p x t has start is from upto = watched_in s qs ps p t has (elim is [
  | inl e ↦ subst (λ y. Among y (around s p qs)) (sym e) (around_after s p x qs start (subst (λ y. s.start ≤ℚ y) e from) (subst (λ y. y ≤ℚ s.end) e upto))
  | inr e ↦ subst (λ y. Among y (around s p qs)) (sym e) (around_before s p x qs start (subst (λ y. s.start ≤ℚ y) e from) (subst (λ y. y ≤ℚ s.end) e upto))
])

-- those of one stretch that are in another
in_other : (s u : Stretch) (qs : List Piece) (ps : List ℚ) (t : ℚ) → Among t (watched_from s qs ps) → u.start ≤ℚ t → t ≤ℚ u.end → Among t (watched_from u qs ps)
in_other s u qs ps t h from upto =
    let r = in_watched s qs ps t h in
    moved_turn u qs ps r.turn r.around_it.x t r.has r.around_it.start r.around_it.is from upto

pub from_start : (s : Stretch) (qs : List Piece) (ps : List ℚ) (t : ℚ) → Among t (watched_from s qs ps) → s.start ≤ℚ t
from_start s qs ps t h = (in_watched s qs ps t h).around_it.from

pub upto_end : (s : Stretch) (qs : List Piece) (ps : List ℚ) (t : ℚ) → Among t (watched_from s qs ps) → t ≤ℚ s.end
upto_end s qs ps t h = (in_watched s qs ps t h).around_it.upto

-- ---- a stretch that is cut
in_cut : (s : Stretch) (qs : List Piece) (ps : List ℚ) (t e : ℚ) → Among t (watched_from s qs ps) → t ≤ℚ e → Among t (watched_from record { start = s.start; end = e } qs ps)
in_cut s qs ps t e h l = in_other s record { start = s.start; end = e } qs ps t h (from_start s qs ps t h) l

of_cut : (s : Stretch) (qs : List Piece) (ps : List ℚ) (t e : ℚ) → e ≤ℚ s.end → Among t (watched_from record { start = s.start; end = e } qs ps) → Among t (watched_from s qs ps)
of_cut s qs ps t e l h =
    let cut : Stretch = record { start = s.start; end = e } in
    in_other cut s qs ps t h (from_start cut qs ps t h) (le_trans (upto_end cut qs ps t h) l)

-- where a short window ends at e, the first of the watch points up to e is the first of all
pub first_of_cut : (ss : List Segment) (works : List Ramp) (s : Stretch) (qs : List Piece) (ps : List ℚ) (a e : ℚ) (o : Option (ℚ × ℚ)) → EachSegment (λ g. int (pos 0) ≤ℚ g.start) ss → e ≤ℚ s.end
    → IsShortWindow ss works (watched_from s qs ps) a e → FindsShort ss works (watched_from record { start = s.start; end = e } qs ps) o → FindsShort ss works (watched_from s qs ps) o
first_of_cut ss works s qs ps a e None starts l w none =
    absurd (none a e record {
      from = in_cut s qs ps a e w.from (ordered ss (point_at works a) (point_at works e) starts w.short);
      to = in_cut s qs ps e e w.to (le_refl e);
      short = w.short;
    })
first_of_cut ss works s qs ps a e (Some found) starts l w f = record {
  is = record { from = of_cut s qs ps found.0 e l f.is.from; to = of_cut s qs ps found.1 e l f.is.to; short = f.is.short };
  least = λ x y k. elim (le_or_lt y e) [
    | inl m ↦ f.least x y record {
      from = in_cut s qs ps x e k.from (le_trans (ordered ss (point_at works x) (point_at works y) starts k.short) m);
      to = in_cut s qs ps y e k.to m;
      short = k.short;
    }
    | inr m ↦ inl (le_lt_trans (upto_end record { start = s.start; end = e } qs ps found.1 f.is.to) m)
  ];
}

-- ---- what a stretch's own turns show
pub end_within : (ss : List Segment) (works : List Ramp) (s : Stretch) (own all : List ℚ) (t : ℚ) → HoldsTimes s all own → EndsShort ss works s own t → t ≤ℚ s.end
end_within ss works s own all t H h = elim h [
  | inl pair ↦ let (a, w) = pair in H.upto t w.to
  | inr near ↦
      let (p, has, by) = near in
      let (g, listed, is) = by in
      elim is [
        | inl b ↦ subst (λ x. x ≤ℚ s.end) (sym b.1) (H.upto p.time (point_is works own p has).0)
        | inr b ↦ subst (λ x. x ≤ℚ s.end) (sym b.1) b.0.inside
      ]
]

segment_start : (qs : List Piece) (g : Segment) → HasSegment g (segments qs) → HasStart g.start qs
segment_start [] g h = h
segment_start (q ∷ qs) g h = elim h [ inl e ↦ inl (subst (λ (r : Segment). q.x ≡ r.start) (sym e) refl) | inr k ↦ inr (segment_start qs g k) ]

start_early : (z : Sizes) (end x : ℚ) (qs : List Piece) → Each (OperandPiece z end) qs → HasStart x qs → x <ℚ end
start_early z end x [] h k = absurd k
start_early z end x (q ∷ qs) h k = elim k [
  | inl e ↦ subst (λ y. y <ℚ end) e h.0.before
  | inr l ↦ start_early z end x qs h.1 l
]

record IsReached (w : Watched) (c : SpecCurve) (s : Stretch) (own all : List ℚ) : Type 0 where
  holds : HoldsTimes s all own
  some : int (pos 0) <ℚ w.end
  length : int (pos 0) <ℚ s.end -ℚ s.start
  most : s.end -ℚ s.start ≤ℚ w.end
  serves : MayServe c
  zero : HasStart (int (pos 0)) (unroll c w.end)
  starts : (x : ℚ) → HasStart x (unroll c (s.end -ℚ s.start)) → HasStart x (unroll c w.end)

reached : (w : Watched) (c : SpecCurve) (s : Stretch) (own all : List ℚ) → IsHeld w c → IsLookedAt w s own all → MayServe c → IsReached w c s own all
reached w c s own all h L M =
    let S = stretch_stands w c s own all h L in
    let H = length_stands h.sizes w.end s h.limited S in
    let some = end_some h.sizes w.end s S in
    let O = near_pieces w c s h H in
    record {
      holds = L.holds;
      some = some;
      length = H.some;
      most = H.most;
      serves = M;
      zero = zero_start (unroll c w.end) (unroll_starts c w.end some M.normal);
      starts = λ x k. start_before c w.end (s.end -ℚ s.start) x M.normal k (start_early h.sizes w.end x (unroll c (s.end -ℚ s.start)) O.each k);
    }

-- a window that is short by the pieces up to the stretch's length is short by those up to the run's end
short_by_all : (w : Watched) (c : SpecCurve) (s : Stretch) (own all : List ℚ) (works : List Ramp) (a b : ℚ) → IsReached w c s own all → s.start ≤ℚ a → a ≤ℚ b → b ≤ℚ s.end
    → IsShortTo (segments (unroll c (s.end -ℚ s.start))) (point_at works a) (point_at works b) → IsShortTo (segments (unroll c w.end)) (point_at works a) (point_at works b)
short_by_all w c s own all works a b R from forward upto h =
    let long = no_longer a b s.start s.end from upto in
    let less = (segments_tell c (s.end -ℚ s.start) (point_at works a) (point_at works b) R.serves R.length forward long).0 h in
    (segments_tell c w.end (point_at works a) (point_at works b) R.serves R.some forward (le_trans long R.most)).1 less

-- and the other way round
short_by_near : (w : Watched) (c : SpecCurve) (s : Stretch) (own all : List ℚ) (works : List Ramp) (a b : ℚ) → IsReached w c s own all → s.start ≤ℚ a → a ≤ℚ b → b ≤ℚ s.end
    → IsShortTo (segments (unroll c w.end)) (point_at works a) (point_at works b) → IsShortTo (segments (unroll c (s.end -ℚ s.start))) (point_at works a) (point_at works b)
short_by_near w c s own all works a b R from forward upto h =
    let long = no_longer a b s.start s.end from upto in
    let less = (segments_tell c w.end (point_at works a) (point_at works b) R.serves R.some forward (le_trans long R.most)).0 h in
    (segments_tell c (s.end -ℚ s.start) (point_at works a) (point_at works b) R.serves R.length forward long).1 less

-- so the first window by the ones is the first by the others
found_by_near : (w : Watched) (c : SpecCurve) (s : Stretch) (own all : List ℚ) (works : List Ramp) (t : ℚ) (o : Option (ℚ × ℚ)) → IsReached w c s own all → EachSegment (λ g. int (pos 0) ≤ℚ g.start) (segments (unroll c (s.end -ℚ s.start)))
    → EachSegment (λ g. int (pos 0) ≤ℚ g.start) (segments (unroll c w.end)) → t ≤ℚ s.end
    → FindsShort (segments (unroll c (s.end -ℚ s.start))) works (watched_from record { start = s.start; end = t } (unroll c w.end) all) o
    → FindsShort (segments (unroll c w.end)) works (watched_from record { start = s.start; end = t } (unroll c w.end) all) o
found_by_near w c s own all works t o R starts all_starts inside h = go o h
  where
    begun : (x : ℚ) → Among x (watched_from record { start = s.start; end = t } (unroll c w.end) all) → s.start ≤ℚ x
    begun x k = from_start record { start = s.start; end = t } (unroll c w.end) all x k

    ended : (x : ℚ) → Among x (watched_from record { start = s.start; end = t } (unroll c w.end) all) → x ≤ℚ s.end
    ended x k = le_trans (upto_end record { start = s.start; end = t } (unroll c w.end) all x k) inside

    by_near : (x y : ℚ) → IsShortWindow (segments (unroll c w.end)) works (watched_from record { start = s.start; end = t } (unroll c w.end) all) x y
        → IsShortWindow (segments (unroll c (s.end -ℚ s.start))) works (watched_from record { start = s.start; end = t } (unroll c w.end) all) x y
    by_near x y k = record {
      from = k.from;
      to = k.to;
      short = short_by_near w c s own all works x y R (begun x k.from) (ordered (segments (unroll c w.end)) (point_at works x) (point_at works y) all_starts k.short) (ended y k.to) k.short;
    }

    go : (o : Option (ℚ × ℚ)) → FindsShort (segments (unroll c (s.end -ℚ s.start))) works (watched_from record { start = s.start; end = t } (unroll c w.end) all) o
        → FindsShort (segments (unroll c w.end)) works (watched_from record { start = s.start; end = t } (unroll c w.end) all) o
    go None none = λ x y k. none x y (by_near x y k)
    go (Some found) f = record {
      is = record {
        from = f.is.from;
        to = f.is.to;
        short = short_by_all w c s own all works found.0 found.1 R (begun found.0 f.is.from)
            (ordered (segments (unroll c (s.end -ℚ s.start))) (point_at works found.0) (point_at works found.1) starts f.is.short) (ended found.1 f.is.to) f.is.short;
      };
      least = λ x y k. f.least x y (by_near x y k);
    }

own_watched : (w : Watched) (c : SpecCurve) (s : Stretch) (own all : List ℚ) (t : ℚ) → IsReached w c s own all → Among t own → Among t (watched_from s (unroll c w.end) all)
own_watched w c s own all t R m =
    let z = int (pos 0) in
    let same : t ≡ t +ℚ z = with2 t z (λ k. omega (arith, k.le, k.lt, k.same)) in
    moved_turn s (unroll c w.end) all t z t (R.holds.are t m) R.zero (inl same) (R.holds.from t m) (R.holds.upto t m)

abbrev EndsWatched : Watched → SpecCurve → Stretch → List ℚ → List Ramp → ℚ → Type 0
EndsWatched w c s all works t = (a : ℚ) × IsShortWindow (segments (unroll c w.end)) works (watched_from s (unroll c w.end) all) a t

near_watched : (w : Watched) (c : SpecCurve) (s : Stretch) (own all : List ℚ) (works : List Ramp) (q t : ℚ) (g : Segment) → IsReached w c s own all → Among q own → HasSegment g (segments (unroll c (s.end -ℚ s.start))) → int (pos 0) ≤ℚ g.start
    → IsNearEnd works s (point_at works q) g t → EndsWatched w c s all works t
near_watched w c s own all works q t g R m has low is =
    let x = g.start in
    let start = R.starts x (segment_start (unroll c (s.end -ℚ s.start)) g has) in
    elim is [
      | inl b ↦
          let back : q -ℚ x ≤ℚ q = with2 q x (λ k. omega (arith, k.le, k.lt, k.same)) in
          subst (EndsWatched w c s all works) (sym b.1) (
            q -ℚ x,
            record {
              from = moved_turn s (unroll c w.end) all q x (q -ℚ x) (R.holds.are q m) start (inr refl) b.0.inside (le_trans back (R.holds.upto q m));
              to = own_watched w c s own all q R m;
              short = short_by_all w c s own all works (q -ℚ x) q R b.0.inside back (R.holds.upto q m) (g, has, b.0.short);
            },
          )
      | inr b ↦
          let on : q ≤ℚ q +ℚ x = with2 q x (λ k. omega (arith, k.le, k.lt, k.same)) in
          subst (EndsWatched w c s all works) (sym b.1) (
            q,
            record {
              from = own_watched w c s own all q R m;
              to = moved_turn s (unroll c w.end) all q x (q +ℚ x) (R.holds.are q m) start (inl refl) (le_trans (R.holds.from q m) on) b.0.inside;
              short = short_by_all w c s own all works q (q +ℚ x) R (R.holds.from q m) on b.0.inside (g, has, b.0.short);
            },
          )
    ]

ends_watched : (w : Watched) (c : SpecCurve) (s : Stretch) (own all : List ℚ) (works : List Ramp) (t : ℚ) → IsReached w c s own all → EachSegment (λ g. int (pos 0) ≤ℚ g.start) (segments (unroll c (s.end -ℚ s.start)))
    → EndsShort (segments (unroll c (s.end -ℚ s.start))) works s own t → EndsWatched w c s all works t
ends_watched w c s own all works t R starts h = elim h [
  | inl pair ↦
      let (a, k) = pair in (
        a,
        record {
          from = own_watched w c s own all a R k.from;
          to = own_watched w c s own all t R k.to;
          short = short_by_all w c s own all works a t R (R.holds.from a k.from) (ordered (segments (unroll c (s.end -ℚ s.start))) (point_at works a) (point_at works t) starts k.short) (R.holds.upto t k.to) k.short;
        },
      )
  | inr near ↦
      let (p, has, by) = near in
      let (g, listed, is) = by in
      let at = point_is works own p has in
      near_watched w c s own all works p.time t g R at.0 listed (each_segment_has (λ r. int (pos 0) ≤ℚ r.start) (segments (unroll c (s.end -ℚ s.start))) g starts listed)
      (subst (λ (r : Point). IsNearEnd works s r g t) at.1 is)
]

-- ---- as the code has them
abbrev pub Looks : List Segment → List Ramp → Stretch → List ℚ → Option ℚ → Type 0
Looks gs rs s own o = IsLeast (EndsShort gs rs s own) o

pub looks_clear : (gs : List Segment) (rs : List Ramp) (s : Stretch) (own : List ℚ) (o : Option ℚ) → o ≡ None → Looks gs rs s own o → (t : ℚ) → ¬ EndsShort gs rs s own t
looks_clear gs rs s own o e h = subst (Looks gs rs s own) e h

-- what the look by the segments within reach finds, all of them show
pub looks_short : (reach : Option ℚ) (ns : List Piece) (gs : List Segment) (rs : List Ramp) (s : Stretch) (own : List ℚ) (o : Option ℚ) (t : ℚ) → gs ≡ within_reach reach (segments ns) → o ≡ Some t → Looks gs rs s own o
    → EndsShort (segments ns) rs s own t
looks_short reach ns gs rs s own o t e f h =
    shown_by_all reach (segments ns) rs s own t (subst (λ (xs : List Segment). EndsShort xs rs s own t) e (subst (Looks gs rs s own) f h).0)

pub near_watched_times : (w : Watched) (c : SpecCurve) (s : Stretch) (own all : List ℚ) (ns qs : List Piece) (t : ℚ) → IsHeld w c → IsLookedAt w s own all → t ≤ℚ s.end → ns ≡ unroll c (s.end -ℚ s.start) → qs ≡ unroll c w.end
    → EachTime (TimeFits (segments ns) w.works.items) (watched_from record { start = s.start; end = t } qs all)
near_watched_times w c s own all ns qs t h L inside n f =
    let far = s.end -ℚ s.start in
    let works = w.works.items in
    let S = stretch_stands w c s own all h L in
    let O = near_pieces w c s h (length_stands h.sizes w.end s h.limited S) in
    subst (λ (xs : List Piece). EachTime (TimeFits (segments xs) works) (watched_from record { start = s.start; end = t } qs all)) (sym n)
    (subst (λ (xs : List Piece). EachTime (TimeFits (segments (unroll c far)) works) (watched_from record { start = s.start; end = t } xs all)) (sym f)
    (each_time_from (TimeFits (segments (unroll c far)) works) (watched_from record { start = s.start; end = t } (unroll c w.end) all)
    (λ u k. time_fits h.sizes w.end u (unroll c far) works h.limited O h.works
    (watched_time w c all record { start = s.start; end = t } h (end_some h.sizes w.end s S) L.turns_are S.start.low (le_trans inside S.last.high) u k))))

-- the curve's pieces up to the run's end recur, where it repeats from 0 on
pub recurs : (w : Watched) (c : SpecCurve) (s : Stretch) (own all : List ℚ) (qs : List Piece) (t : ℚ) (cycle : Option ℚ) → IsHeld w c → IsLookedAt w s own all → t ≤ℚ s.end → qs ≡ unroll c w.end → IfSome cycle (IsCycle c)
    → IfSome cycle (Recurs w.end record { start = s.start; end = t } qs)
recurs w c s own all qs t None h L inside e k = k
recurs w c s own all qs t (Some d) h L inside e k =
    let S = stretch_stands w c s own all h L in
    record {
      some = k.some;
      on = λ x n start l.
          subst (λ (xs : List Piece). HasStart (x +ℚ int (pos n) *ℚ d) xs) (sym e)
          (starts_again c k.rank d k.rise w.end x n h.is.normal k.tail k.early (subst (λ (xs : List Piece). HasStart x xs) e start) l);
      low = S.start.low;
      high = le_trans inside S.last.high;
    }

-- what is found among the watch points up to the end of such a window, by the pieces up to the stretch's length
pub found_in_cut : (w : Watched) (c : SpecCurve) (s : Stretch) (own all : List ℚ) (works rs : List Ramp) (ns qs : List Piece) (gs : List Segment) (t : ℚ) (o : Option (ℚ × ℚ)) → IsHeld w c → IsLookedAt w s own all → MayServe c
    → works ≡ w.works.items → rs ≡ w.works.items → ns ≡ unroll c (s.end -ℚ s.start) → qs ≡ unroll c w.end → gs ≡ segments ns → EndsShort (segments ns) rs s own t → FindsShort gs works (watched_from record { start = s.start; end = t } qs all) o
    → FindsIn w c s own all o
found_in_cut w c s own all works rs ns qs gs t o h L M e e2 n f g ends found =
    let far = s.end -ℚ s.start in
    let R = reached w c s own all h L M in
    let near = subst (λ (xs : List Piece). EndsShort (segments xs) w.works.items s own t) n (subst (λ (xs : List Ramp). EndsShort (segments ns) xs s own t) e2 ends) in
    let starts = (near_segments w c s own all (unroll c far) h L refl).starts in
    let all_starts = (gaps_fit w c (unroll c w.end) h R.some refl).starts in
    let inside = end_within (segments (unroll c far)) w.works.items s own all t L.holds near in
    let (a, is) = ends_watched w c s own all w.works.items t R starts near in
    let here = subst (λ (xs : List Piece). FindsShort (segments (unroll c far)) w.works.items (watched_from record { start = s.start; end = t } xs all) o) f
    (subst (λ (xs : List Piece). FindsShort (segments xs) w.works.items (watched_from record { start = s.start; end = t } qs all) o) n
    (subst (λ (xs : List Segment). FindsShort xs w.works.items (watched_from record { start = s.start; end = t } qs all) o) g
    (subst (λ (xs : List Ramp). FindsShort gs xs (watched_from record { start = s.start; end = t } qs all) o) e found))) in
    found_watched w c s own all w.works.items (unroll c w.end) (segments (unroll c w.end)) o refl refl refl
    (first_of_cut (segments (unroll c w.end)) w.works.items s (unroll c w.end) all a t o all_starts inside is (found_by_near w c s own all w.works.items t o R starts all_starts inside here))
