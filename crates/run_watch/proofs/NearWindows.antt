-- The look at a stretch's own turns: step by step, and the sizes of its numbers.
use Rattle.std.specs.Prelude.{◌≡◌, ◌↔◌, ℕ, ◌<◌, pos, Bool, IsTrue, List, [], ◌∷◌, length, map, Option, Some, None, IfSome}
use Rattle.std.specs.List.{slice_index_or}
use Rattle.std.proofs.Common.{arith, refl, sym, subst, ap, inl, inr, ◌∙◌}
use Rattle.std.proofs.lemmas.Bool.{cases_Bool, and_parts}
use Rattle.rational.specs.Rational.{ℚ, int, ◌+ℚ◌, ◌-ℚ◌, ◌*ℚ◌, ◌≤ℚ◌, ◌<ℚ◌, lt_q, le_q}
use Rattle.rational.proofs.Laws.{le_refl, le_trans, le_of_lt, lt_le_trans, le_lt_trans, lt_irrefl, le_of_not_lt, mul_zero}
use Rattle.rational.proofs.Grid.{whole_add, whole_sub}
use Rattle.rational.proofs.Over.{lt_q_in}
use Rattle.rational.proofs.Linear.{with1, with2, with3}
use Rattle.upp_curve.specs.declared.affine_segment.line.Piece.{Piece}
use Rattle.upp_curve.proofs.affine_segment.PieceOrder.{each_map}
use Rattle.upp_curve.specs.Curve.{SpecCurve}
use Rattle.upp_curve.specs.Unrolled.{unroll}
use Rattle.upp_limits.specs.Limits.{Sizes}
use Rattle.upp_limits.proofs.Operands.{curve_period}
use Rattle.upp_normal.specs.Operand.{AreLimited, OperandPiece, OperandPieces}
use Rattle.upp_normal.specs.Unrolling.{IsOperandTo}
use Rattle.upp_normal.proofs.GaugeRises.{curve_earlier}
use Rattle.upp_normal.proofs.UnrolledPieces.{operand_pieces}
use Rattle.curve_call.proofs.OwnPeriods.{limited_less}
use Rattle.flow_watch.specs.watch_laws.Affine.{EachTime, Among}
use Rattle.flow_watch.specs.declared.watch_laws.point.Point.{Point}
use Rattle.flow_watch.specs.declared.watch_laws.point.Segment.{Segment}
use Rattle.flow_watch.specs.watch_laws.MarkSizes.{IsTime}
use Rattle.flow_watch.specs.watch_laws.Reaches.{HasReach}
use Rattle.flow_watch.specs.watch_laws.Segments.{segments}
use Rattle.flow_watch.specs.watch_laws.Shorts.{EachPoint, IsShortBy, IsPastEnd, segment_value}
use Rattle.run_watch.specs.declared.span.Ramp.{Ramp}
use Rattle.run_watch.specs.declared.watched.Watched.{Watched}
use Rattle.run_watch.specs.declared.watched.Stretch.{Stretch}
use Rattle.run_watch.specs.Ramps.{amount, spans_of, EachRamp, ReadsRamp}
use Rattle.run_watch.specs.Watching.{stops, next_after, stretches, stretches_in, turns, RiseFrom, HoldsTimes}
use Rattle.run_watch.specs.WatchTimes.{HaveSameTimes, point_at, watched_from}
use Rattle.run_watch.specs.FirstEnds.{FitsMarks, FitsSegments}
use Rattle.run_watch.specs.IdleWindows.{FindsShort, TimeFits, SegmentsFit}
use Rattle.run_watch.specs.NearWindows.{AsksNothing, FitsAt, FitsNear, FitsNearBy, IsNearEnd, IsShortAfter, IsShortBefore, IsNearEndOf, EndsShort, IsLeast}
use Rattle.run_watch.specs.Held.{AreHeld, IsHeld}
use Rattle.run_watch.specs.Reaches.{within_reach}
use Rattle.run_watch.specs.Searches.{segments_near, IsPart, IsLookedAt, IsClearStretch, FindsIn}
use Rattle.run_watch.proofs.FoundStretches.{HasStretch, ramp_in}
use Rattle.run_watch.proofs.FirstIdle.{stretch_times}
use Rattle.run_watch.proofs.HeldSizes.{IsHeldSegment, segments_held, segment_map, gap_steps, segment_keys, ramps_read, segments_fit, time_fits, times_sum_fit, times_differ, length_time}
use Rattle.run_watch.proofs.HeldTimes.{turns_time}
use Rattle.run_watch.proofs.IdleIn.{has_at, late_after}
use Rattle.run_watch.proofs.OwnTurns.{holds_same}
use Rattle.run_watch.proofs.Reaches.{fit_within, time_within, near_within}
use Rattle.run_laws.proofs.Times.{each_time_map}
use Rattle.run_watch.proofs.SortedPoints.{each_point_at, each_time_from, each_time_among, fits_of}

-- ---- points
pub points_fit : (ss gs : List Segment) (works : List Ramp) (ts : List ℚ) (ps : List Point) → gs ≡ ss → ps ≡ map (point_at works) ts → SegmentsFit ss → EachTime (TimeFits ss works) ts → FitsSegments ps gs
points_fit ss gs works ts ps e f g h = subst (FitsSegments ps) (sym e) (fits_of works ts ss ps f g h)

-- what is found near the turns
pub near_as : (ss gs : List Segment) (works : List Ramp) (s : Stretch) (ts : List ℚ) (ps : List Point) (o : Option ℚ) → gs ≡ ss → ps ≡ map (point_at works) ts → IsLeast (IsNearEndOf gs works s ps) o
    → IsLeast (IsNearEndOf ss works s (map (point_at works) ts)) o
near_as ss gs works s ts ps o e f h = subst (λ (xs : List Point). IsLeast (IsNearEndOf ss works s xs) o) f (subst (λ (xs : List Segment). IsLeast (IsNearEndOf xs works s ps) o) e h)

-- ---- a shorter window
piece_further : (z : Sizes) (end far : ℚ) (p : Piece) → far ≤ℚ end → OperandPiece z far p → OperandPiece z end p
piece_further z end far p l h = record { start = h.start; nonneg = h.nonneg; before = lt_le_trans h.before l; at = h.at; line = h.line }

pieces_further : (z : Sizes) (end far : ℚ) (ps : List Piece) → far ≤ℚ end → OperandPieces z far ps → OperandPieces z end ps
pieces_further z end far ps l h = record { starts = h.starts; each = each_map (OperandPiece z far) (OperandPiece z end) (λ p k. piece_further z end far p l k) ps h.each }

-- ---- a stretch that is looked at
next_later : (u end : ℚ) (ts : List ℚ) → u <ℚ end → u <ℚ next_after u end ts
next_later u end [] h = h
next_later u end (t ∷ ts) h = elim (cases_Bool (lt_q u t)) [
  | inl e ↦ rw e (lt_q_in u t e)
  | inr e ↦ rw e (next_later u end ts h)
]

forward_in : (w : Watched) (s : Stretch) → HasStretch s.start s.end (stretches w) → s.start <ℚ s.end
forward_in w s h =
    let f = ramp_in w (stops w) w.arrivals.items s.start s.end h in
    let r = f.ramp in
    let tests = and_parts (lt_q r.span.start w.end) (le_q r.before _) f.begins in
    let early : r.span.start <ℚ w.end = lt_q_in r.span.start w.end tests.0 in
    subst (λ x. x <ℚ s.end) f.start (subst (λ x. r.span.start <ℚ x) f.end (next_later r.span.start w.end (stops w) early))

pub record StretchStands (z : Sizes) (end : ℚ) (s : Stretch) : Type 0 where
  pub start : IsTime z end s.start
  pub last : IsTime z end s.end
  pub forward : s.start <ℚ s.end

pub stretch_stands : (w : Watched) (c : SpecCurve) (s : Stretch) (own all : List ℚ) (h : IsHeld w c) → IsLookedAt w s own all → StretchStands h.sizes w.end s
stretch_stands w c s own all h L =
    let z = h.sizes in
    let ends = stretch_times w c (stretches w) L.number L.whole h refl L.in_range L.is in
    record {
      start = subst (IsTime z w.end) (sym L.start) ends.0;
      last = elim L.turn [ inl e ↦ subst (IsTime z w.end) (sym e) ends.1 | inr m ↦ each_time_among (IsTime z w.end) all s.end (turns_time w c all h L.turns_are) m ];
      forward = L.forward;
    }

pub record HasLength (z : Sizes) (end far : ℚ) : Type 0 where
  pub limited : AreLimited z far
  pub some : int (pos 0) <ℚ far
  pub most : far ≤ℚ end

pub length_stands : (z : Sizes) (end : ℚ) (s : Stretch) → AreLimited z end → StretchStands z end s → HasLength z end (s.end -ℚ s.start)
length_stands z end s A S =
    let lower = s.start in
    let upper = s.end in
    let forward = S.forward in
    let T = length_time z end s.start s.end S.start S.last (le_of_lt S.forward) in
    record { limited = limited_less z end (s.end -ℚ s.start) A T.whole T.low T.high; some = with2 lower upper (λ k. omega (arith, k.le, k.lt, k.same)); most = T.high }

pub end_some : (z : Sizes) (end : ℚ) (s : Stretch) → StretchStands z end s → int (pos 0) <ℚ end
end_some z end s S =
    let lower = s.start in
    let upper = s.end in
    let a = S.start.low in
    let b = S.last.high in
    let c = S.forward in
    with3 lower upper end (λ k. omega (arith, k.le, k.lt, k.same))

pub length_operand : (w : Watched) (c : SpecCurve) (s : Stretch) (own all : List ℚ) → IsHeld w c → IsLookedAt w s own all → IsOperandTo (s.end -ℚ s.start) c
length_operand w c s own all h L =
    let H = length_stands h.sizes w.end s h.limited (stretch_stands w c s own all h L) in
    record { sizes = h.sizes; limited = H.limited; stands = curve_earlier h.sizes (s.end -ℚ s.start) w.end c (curve_period c h.is) H.most h.curve }

pub near_pieces : (w : Watched) (c : SpecCurve) (s : Stretch) (h : IsHeld w c) → HasLength h.sizes w.end (s.end -ℚ s.start) → OperandPieces h.sizes w.end (unroll c (s.end -ℚ s.start))
near_pieces w c s h H =
    let far = s.end -ℚ s.start in
    pieces_further h.sizes w.end far (unroll c far) H.most
    (operand_pieces h.sizes far c h.is H.limited H.some (curve_earlier h.sizes far w.end c (curve_period c h.is) H.most h.curve))

-- ---- the sizes of what is near its turns
at_time : (z : Sizes) (end t : ℚ) (g : Segment) (works : List Ramp) → AreLimited z end → AreHeld z end works → IsHeldSegment z end g → IsTime z end t → FitsAt works g t
at_time z end t g works A H G T =
    let k = segment_keys z end t g works A H G T in
    record { reads = ramps_read z end t works A H.each T; marks = record { keys = (k.0, tt); gap = gap_steps z end g A G; marks = (k.1, tt) } }

near_fits : (z : Sizes) (end t : ℚ) (g : Segment) (works : List Ramp) (s : Stretch) → AreLimited z end → AreHeld z end works → StretchStands z end s → IsTime z end t → IsHeldSegment z end g → FitsNear works s g (point_at works t)
near_fits z end t g works s A H S T G =
    let x = g.start in
    let start_low = S.start.low in
    let end_high = S.last.high in
    let low = T.low in
    let high = T.high in
    let low_g = G.start.low in
    let lower = s.start in
    let upper = s.end in
    record {
      after = times_sum_fit z end t x A T G.start;
      before = times_differ z end t x A T G.start;
      own = (at_time z end t g works A H G T).marks;
      later = λ l. at_time z end (t +ℚ x) g works A H G record {
        whole = whole_add z.dt t x T.whole G.start.whole;
        low = with2 t x (λ k. omega (arith, k.le, k.lt, k.same));
        high = le_trans l S.last.high;
      };
      earlier = λ l. at_time z end (t -ℚ x) g works A H G record {
        whole = whole_sub z.dt t x T.whole G.start.whole;
        low = le_trans S.start.low l;
        high = with3 t x end (λ k. omega (arith, k.le, k.lt, k.same));
      };
    }

-- the turns in the stretch are times of the run
own_times : (w : Watched) (c : SpecCurve) (s : Stretch) (own all : List ℚ) (h : IsHeld w c) → IsLookedAt w s own all → EachTime (IsTime h.sizes w.end) own
own_times w c s own all h L = each_time_from (IsTime h.sizes w.end) own (λ t m. each_time_among (IsTime h.sizes w.end) all t (turns_time w c all h L.turns_are) (L.holds.are t m))

pub near_segments : (w : Watched) (c : SpecCurve) (s : Stretch) (own all : List ℚ) (qs : List Piece) → IsHeld w c → IsLookedAt w s own all → qs ≡ unroll c (s.end -ℚ s.start) → SegmentsFit (segments qs)
near_segments w c s own all qs h L e =
    let O = near_pieces w c s h (length_stands h.sizes w.end s h.limited (stretch_stands w c s own all h L)) in
    subst (λ (xs : List Piece). SegmentsFit (segments xs)) (sym e) (segments_fit h.sizes w.end (unroll c (s.end -ℚ s.start)) h.limited O)

pub near_times : (w : Watched) (c : SpecCurve) (s : Stretch) (own all : List ℚ) (qs : List Piece) (works : List Ramp) → IsHeld w c → IsLookedAt w s own all → qs ≡ unroll c (s.end -ℚ s.start) → works ≡ w.works.items
    → EachTime (TimeFits (segments qs) works) own
near_times w c s own all qs works h L e f =
    let O = near_pieces w c s h (length_stands h.sizes w.end s h.limited (stretch_stands w c s own all h L)) in
    let far = s.end -ℚ s.start in
    subst (λ (rs : List Ramp). EachTime (TimeFits (segments qs) rs) own) (sym f)
    (subst (λ (xs : List Piece). EachTime (TimeFits (segments xs) w.works.items) own) (sym e)
    (each_time_from (TimeFits (segments (unroll c far)) w.works.items) own
    (λ t m. time_fits h.sizes w.end t (unroll c far) w.works.items h.limited O h.works (each_time_among (IsTime h.sizes w.end) own t (own_times w c s own all h L) m))))

pub near_turns : (w : Watched) (c : SpecCurve) (s : Stretch) (own all : List ℚ) (qs : List Piece) (works : List Ramp) → IsHeld w c → IsLookedAt w s own all → qs ≡ unroll c (s.end -ℚ s.start) → works ≡ w.works.items
    → EachPoint (FitsNearBy (segments qs) works s) (map (point_at works) own)
near_turns w c s own all qs works h L e f =
    let S = stretch_stands w c s own all h L in
    let O = near_pieces w c s h (length_stands h.sizes w.end s h.limited S) in
    let far = s.end -ℚ s.start in
    subst (λ (rs : List Ramp). EachPoint (FitsNearBy (segments qs) rs s) (map (point_at rs) own)) (sym f)
    (subst (λ (xs : List Piece). EachPoint (FitsNearBy (segments xs) w.works.items s) (map (point_at w.works.items) own)) (sym e)
    (each_point_at (FitsNearBy (segments (unroll c far)) w.works.items s) w.works.items own
    (each_time_from (λ t. FitsNearBy (segments (unroll c far)) w.works.items s (point_at w.works.items t)) own
    (λ t m. segment_map (IsHeldSegment h.sizes w.end) (λ g. FitsNear w.works.items s g (point_at w.works.items t))
    (λ g G. near_fits h.sizes w.end t g w.works.items s h.limited h.works S (each_time_among (IsTime h.sizes w.end) own t (own_times w c s own all h L) m) G)
    (segments (unroll c far)) (segments_held h.sizes w.end (unroll c far) O.each)))))

-- and by the segments within reach alone
pub early_segments : (w : Watched) (c : SpecCurve) (s : Stretch) (own all : List ℚ) (reach : Option ℚ) (gs : List Segment) → IsHeld w c → IsLookedAt w s own all → gs ≡ segments_near c s reach → SegmentsFit gs
early_segments w c s own all reach gs h L e =
    subst SegmentsFit (sym e) (fit_within reach (segments (unroll c (s.end -ℚ s.start))) (near_segments w c s own all (unroll c (s.end -ℚ s.start)) h L refl))

pub early_times : (w : Watched) (c : SpecCurve) (s : Stretch) (own all : List ℚ) (reach : Option ℚ) (gs : List Segment) (works : List Ramp) → IsHeld w c → IsLookedAt w s own all → gs ≡ segments_near c s reach → works ≡ w.works.items
    → EachTime (TimeFits gs works) own
early_times w c s own all reach gs works h L e f =
    let ss = segments (unroll c (s.end -ℚ s.start)) in
    subst (λ (xs : List Segment). EachTime (TimeFits xs works) own) (sym e)
    (each_time_map (TimeFits ss works) (TimeFits (within_reach reach ss) works) (λ t k. time_within reach ss works t k) own (near_times w c s own all (unroll c (s.end -ℚ s.start)) works h L refl f))

pub early_turns : (w : Watched) (c : SpecCurve) (s : Stretch) (own all : List ℚ) (reach : Option ℚ) (gs : List Segment) (works : List Ramp) → IsHeld w c → IsLookedAt w s own all → gs ≡ segments_near c s reach → works ≡ w.works.items
    → EachPoint (FitsNearBy gs works s) (map (point_at works) own)
early_turns w c s own all reach gs works h L e f =
    let ss = segments (unroll c (s.end -ℚ s.start)) in
    subst (λ (xs : List Segment). EachPoint (FitsNearBy xs works s) (map (point_at works) own)) (sym e)
    (near_within reach ss works s (map (point_at works) own) (near_turns w c s own all (unroll c (s.end -ℚ s.start)) works h L refl f))

pub all_part : (until : Option ℚ) (sorted : List ℚ) (s : Stretch) → IsPart until sorted s s
all_part until sorted s = record { start = refl; inside = le_refl s.end; end = inl refl }

-- the part up to the first of the turns that are in the rest
pub part_to : (sorted late : List ℚ) (s part : Stretch) (start t : ℚ) → HoldsTimes record { start = start; end = s.end } sorted late → 0 < length late → t ≡ slice_index_or late 0 t → part ≡ record { start = s.start; end = t }
    → IsPart (Some start) sorted s part
part_to sorted [] s part start t H l e f = absurd (omega arith)
part_to sorted (x ∷ late) s part start t H l e f =
    let m : Among t (x ∷ late) = inl e in
    subst (IsPart (Some start) sorted s) (sym f) record { start = refl; inside = H.upto t m; end = inr (H.are t m, H.from t m) }

-- a part that does not end late is all of it
pub all_of_it : (until : Option ℚ) (sorted : List ℚ) (s part : Stretch) → IsPart until sorted s part → ¬ IsPastEnd until part.end → part.end ≡ s.end
all_of_it until sorted s part P early = elim P.end [ inl e ↦ e | inr h ↦ absurd (early h.1) ]

-- a part of a stretch that begins before it is late
looked_at : (w : Watched) (until : Option ℚ) (ss : List Stretch) (k : ℕ) (s part : Stretch) (sorted own all : List ℚ) → ss ≡ stretches w → k < length ss → s ≡ slice_index_or ss k s → all ≡ turns w (stretches w)
    → ¬ IsPastEnd until s.start → IsPart until sorted s part → ((t : ℚ) → Among t sorted → Among t all) → HoldsTimes part all own → (from : ℚ) × RiseFrom from own → IsLookedAt w part own all
looked_at w until ss k s part sorted own all same l e f early P among holds rise = record {
  whole = s;
  number = k;
  in_range = subst (λ (xs : List Stretch). k < length xs) same l;
  is = subst (λ (xs : List Stretch). s ≡ slice_index_or xs k s) same e;
  start = P.start;
  forward = elim P.end [
    | inl is ↦ subst (λ x. x <ℚ part.end) (sym P.start) (subst (λ x. s.start <ℚ x) (sym is) (forward_in w s (subst (HasStretch s.start s.end) same (has_at ss k s l e))))
    | inr is ↦ subst (λ x. x <ℚ part.end) (sym P.start) (late_after until s.start part.end early is.1)
  ];
  inside = P.inside;
  turn = elim P.end [ inl is ↦ inl is | inr is ↦ inr (among part.end is.0) ];
  turns_are = f;
  holds = holds;
  rise = rise;
}

-- ---- as the code reads it
pub stretches_read : (w : Watched) (ss made : List Stretch) (read kept : List ℚ) → ss ≡ made → made ≡ stretches_in w read w.arrivals.items
    → read ≡ kept → kept ≡ stops w → ss ≡ stretches w
stretches_read w ss made read kept a b c d = a ∙ b ∙ ap (λ (ts : List ℚ). stretches_in w ts w.arrivals.items) (c ∙ d)

-- a part of a stretch, and the turns in it, which are found among the turns in order
pub looked_at_part : (w : Watched) (until : Option ℚ) (ss : List Stretch) (k : ℕ) (s part : Stretch) (turned sorted own : List ℚ)
    → ss ≡ stretches w → k < length ss → s ≡ slice_index_or ss k s → turned ≡ turns w (stretches w)
    → HaveSameTimes turned sorted → ¬ IsPastEnd until s.start → IsPart until sorted s part
    → HoldsTimes part sorted own → (from : ℚ) × RiseFrom from own → IsLookedAt w part own turned
looked_at_part w until ss k s part turned sorted own same l e turned_is times early P holds rise =
    looked_at w until ss k s part sorted own turned same l e turned_is early P (λ t m. times.back t m) (holds_same part turned sorted own times holds) rise

pub in_reach : (s : Stretch) (p : Point) (g : Segment) (u : ℚ) → u ≡ p.time +ℚ g.start → ¬ (s.end <ℚ u) → p.time +ℚ g.start ≤ℚ s.end
in_reach s p g u e n = subst (λ x. x ≤ℚ s.end) e (le_of_not_lt n)

pub in_reach_back : (s : Stretch) (p : Point) (g : Segment) (u : ℚ) → u ≡ p.time -ℚ g.start → ¬ (u <ℚ s.start) → s.start ≤ℚ p.time -ℚ g.start
in_reach_back s p g u e n = subst (λ x. s.start ≤ℚ x) e (le_of_not_lt n)

pub reads_as : (works : List Ramp) (g : Segment) (t u : ℚ) → u ≡ t → FitsAt works g t → EachRamp (ReadsRamp u) works
reads_as works g t u e h = subst (λ x. EachRamp (ReadsRamp x) works) (sym e) h.reads

point_as : (works : List Ramp) (t u v : ℚ) → u ≡ t → v ≡ amount (spans_of works) u → point_at works t ≡ record { time = u; work = v }
point_as works t u v e f =
    let made : ℚ → Point = λ x. record { time = u; work = x } in
    ap (point_at works) (sym e) ∙ ap made (sym f)

pub marks_as : (works : List Ramp) (g : Segment) (t u v : ℚ) → u ≡ t → v ≡ amount (spans_of works) u → FitsAt works g t → FitsMarks (record { time = u; work = v } ∷ []) g
marks_as works g t u v e f h = subst (λ (p : Point). FitsMarks (p ∷ []) g) (point_as works t u v e f) h.marks

pub after_is : (works : List Ramp) (s : Stretch) (p : Point) (g : Segment) (u v : ℚ) (b : Bool) → u ≡ p.time +ℚ g.start → v ≡ amount (spans_of works) u → ¬ (s.end <ℚ u) → IsTrue b ↔ IsShortBy g p record { time = u; work = v }
    → IsTrue b ↔ IsShortAfter works s p g
after_is works s p g u v b e f n h =
    let same = point_as works (p.time +ℚ g.start) u v e f in (
      λ k. record { inside = in_reach s p g u e n; short = subst (λ (q : Point). IsShortBy g p q) (sym same) (h.0 k) },
      λ k. h.1 (subst (λ (q : Point). IsShortBy g p q) same k.short),
    )

pub not_after : (works : List Ramp) (s : Stretch) (p : Point) (g : Segment) (u : ℚ) → u ≡ p.time +ℚ g.start → s.end <ℚ u → ¬ IsShortAfter works s p g
not_after works s p g u e l k = lt_irrefl s.end (lt_le_trans l (subst (λ x. x ≤ℚ s.end) (sym e) k.inside))

pub before_is : (works : List Ramp) (s : Stretch) (p : Point) (g : Segment) (u v : ℚ) (b : Bool) → u ≡ p.time -ℚ g.start → v ≡ amount (spans_of works) u → ¬ (u <ℚ s.start) → IsTrue b ↔ IsShortBy g record { time = u; work = v } p
    → IsTrue b ↔ IsShortBefore works s p g
before_is works s p g u v b e f n h =
    let same = point_as works (p.time -ℚ g.start) u v e f in (
      λ k. record { inside = in_reach_back s p g u e n; short = subst (λ (q : Point). IsShortBy g q p) (sym same) (h.0 k) },
      λ k. h.1 (subst (λ (q : Point). IsShortBy g q p) same k.short),
    )

pub not_before : (works : List Ramp) (s : Stretch) (p : Point) (g : Segment) (u : ℚ) → u ≡ p.time -ℚ g.start → u <ℚ s.start → ¬ IsShortBefore works s p g
not_before works s p g u e l k = lt_irrefl s.start (le_lt_trans (subst (λ x. s.start ≤ℚ x) (sym e) k.inside) l)

pub clear_as : (w : Watched) (c : SpecCurve) (s : Stretch) (own : List ℚ) (works : List Ramp) (reach : Option ℚ) (gs : List Segment) → works ≡ w.works.items → gs ≡ segments_near c s reach → IfSome reach (HasReach c)
    → ((t : ℚ) → ¬ EndsShort gs works s own t) → IsClearStretch w c s own
clear_as w c s own works reach gs e f R h = (
  reach,
  R,
  subst (λ (rs : List Ramp). (t : ℚ) → ¬ EndsShort (segments_near c s reach) rs s own t) e (subst (λ (xs : List Segment). (t : ℚ) → ¬ EndsShort xs works s own t) f h),
)

-- what is found between the watch points
pub found_watched : (w : Watched) (c : SpecCurve) (s : Stretch) (own all : List ℚ) (works : List Ramp) (qs : List Piece) (gs : List Segment) (o : Option (ℚ × ℚ)) → works ≡ w.works.items → qs ≡ unroll c w.end → gs ≡ segments qs
    → FindsShort gs works (watched_from s qs all) o → FindsIn w c s own all o
found_watched w c s own all works qs gs o e f g h =
    go o (subst (λ (rs : List Ramp). FindsShort (segments (unroll c w.end)) rs (watched_from s (unroll c w.end) all) o) e
    (subst (λ (xs : List Piece). FindsShort (segments xs) works (watched_from s xs all) o) f (subst (λ (xs : List Segment). FindsShort xs works (watched_from s qs all) o) g h)))
  where
    go : (o : Option (ℚ × ℚ)) → FindsShort (segments (unroll c w.end)) w.works.items (watched_from s (unroll c w.end) all) o → FindsIn w c s own all o
    go None k = inr k
    go (Some p) k = k

-- ---- windows without length
at_once : (a v k d : ℚ) → d ≡ int (pos 0) → v ≤ℚ int (pos 0) → a <ℚ a +ℚ (v +ℚ k *ℚ d) → ⊥
at_once a v k d none low h =
    let flat : a <ℚ a +ℚ (v +ℚ int (pos 0)) = subst (λ x. a <ℚ a +ℚ (v +ℚ x)) (ap (λ x. k *ℚ x) none ∙ mul_zero k) h in
    with2 a v (λ c. omega (arith, c.le, c.lt, c.same))

-- from a time to itself, none is short by a segment that asks nothing
none_at_once : (works : List Ramp) (t u : ℚ) (g : Segment) → AsksNothing g → t ≡ u
    → ¬ IsShortBy g (point_at works t) (point_at works u)
none_at_once works t u g ask same short =
    let less = subst (λ x. amount (spans_of works) u <ℚ amount (spans_of works) x +ℚ segment_value g (u -ℚ t)) same short.less in
    let from = ask.start in
    let none : (u -ℚ t) -ℚ g.start ≡ int (pos 0) =
    subst (λ x. (u -ℚ x) -ℚ g.start ≡ int (pos 0)) (sym same) (subst (λ x. (u -ℚ u) -ℚ x ≡ int (pos 0)) (sym from)
    (with1 u (λ c. omega (arith, c.le, c.lt, c.same)))) in
    at_once (amount (spans_of works) u) g.value g.slope ((u -ℚ t) -ℚ g.start) none ask.value less

pub no_near_end : (works : List Ramp) (s : Stretch) (p : Point) (g : Segment) → AsksNothing g
    → p ≡ point_at works p.time → (t : ℚ) → ¬ IsNearEnd works s p g t
no_near_end works s p g ask at t near = elim near [
  | inl before ↦
      none_at_once works (p.time -ℚ g.start) p.time g ask
      (subst (λ x. p.time -ℚ x ≡ p.time) (sym ask.start) (with1 p.time (λ c. omega (arith, c.le, c.lt, c.same))))
      (subst (λ q. IsShortBy g (point_at works (p.time -ℚ g.start)) q) at before.0.short)
  | inr after ↦
      none_at_once works p.time (p.time +ℚ g.start) g ask
      (subst (λ x. p.time ≡ p.time +ℚ x) (sym ask.start) (with1 p.time (λ c. omega (arith, c.le, c.lt, c.same))))
      (subst (λ q. IsShortBy g q (point_at works (p.time +ℚ g.start))) at after.0.short)
]

pub points_at : (works : List Ramp) (ts : List ℚ) → EachPoint (λ p. p ≡ point_at works p.time) (map (point_at works) ts)
points_at works [] = tt
points_at works (t ∷ ts) = (refl, points_at works ts)
