-- The segments within reach are some of all, and tell each window that is no longer than it.
use Rattle.std.specs.Prelude.{◌≡◌, ◌⊎◌, pos, true, false, List, [], ◌∷◌, Option, Some, None, IfSome}
use Rattle.std.proofs.Common.{refl, sym, subst, ◌∙◌, inl, inr, true≢false}
use Rattle.std.proofs.lemmas.Bool.{cases_Bool}
use Rattle.rational.specs.Rational.{ℚ, int, ◌-ℚ◌, ◌≤ℚ◌, ◌<ℚ◌}
use Rattle.rational.specs.Extended.{◌<ₑ◌, ◌+ₑ◌}
use Rattle.rational.specs.declared.Extended.TheVariants.{Fin}
use Rattle.rational.proofs.Laws.{lt_le_trans}
use Rattle.rational.proofs.Over.{lt_q_in, lt_q_out}
use Rattle.rational.proofs.MinMax.{lt_q_not}
use Rattle.upp_curve.specs.declared.curve.Tail.{Tail}
use Rattle.upp_curve.specs.declared.curve.Tail.TheVariants.{Periodic}
use Rattle.upp_curve.specs.Curve.{SpecCurve, value_at}
use Rattle.upp_curve.specs.Curves.{IsCurve}
use Rattle.upp_curve.specs.Normal.{FitsPeriod, TailFits}
use Rattle.run_laws.specs.Cards.{all, ServerStep}
use Rattle.run_laws.specs.Counts.{worked}
use Rattle.run_laws.specs.Servers.{Server}
use Rattle.run_laws.specs.Allows.{IsLawfulView}
use Rattle.flow_watch.specs.watch_laws.Breaks.{IsBreak}
use Rattle.flow_watch.specs.watch_laws.Laws.{MayServe}
use Rattle.flow_watch.specs.watch_laws.Reaches.{HasReach}
use Rattle.flow_watch.specs.watch_laws.Shorts.{EachPoint, EachSegment, HasSegment}
use Rattle.flow_watch.specs.watch_laws.Stretches.{IsTurn}
use Rattle.flow_watch.specs.watch_laws.Windows.{IsPair}
use Rattle.flow_watch.specs.declared.watch_laws.point.Point.{Point}
use Rattle.flow_watch.specs.declared.watch_laws.point.Segment.{Segment}
use Rattle.flow_watch.proofs.watch_laws.Premises.{turns_suffice_between}
use Rattle.flow_watch.proofs.watch_laws.Reaches.{reach_suffices}
use Rattle.run_watch.specs.declared.span.Ramp.{Ramp}
use Rattle.run_watch.specs.declared.watched.Stretch.{Stretch}
use Rattle.run_watch.specs.FirstEnds.{GapSteps, KeySteps, mark_of, rule_of}
use Rattle.run_watch.specs.IdleWindows.{TimeFits, SegmentsFit}
use Rattle.run_watch.specs.NearWindows.{FitsNear, FitsNearBy, EndsShort}
use Rattle.run_watch.specs.Reaches.{is_beyond, within_reach}
use Rattle.run_watch.specs.WatchTimes.{point_at}
use Rattle.flow_watch.specs.watch_laws.Marks.{FitsRule}

-- ---- the tail of a curve that repeats
pub fits_as : (c : SpecCurve) (rank period rise : ℚ) → IsCurve c → c.tail ≡ Periodic rank period rise → FitsPeriod c.pieces rank period
fits_as c rank period rise is e = subst (λ (t : Tail). TailFits c.pieces t) e is.normal.raw.tail

-- ---- some of all
pub segment_kept : (reach : Option ℚ) (ss : List Segment) (g : Segment) → HasSegment g (within_reach reach ss) → HasSegment g ss
segment_kept reach [] g h = h
segment_kept reach (r ∷ ss) g h = elim (cases_Bool (is_beyond reach r.start)) [
  | inl e ↦ inr (segment_kept reach ss g (rest (rw e at h)))
  | inr e ↦ elim (parts (rw e at h)) [ inl is ↦ inl is | inr k ↦ inr (segment_kept reach ss g k) ]
]
  where
    rest : HasSegment g (within_reach reach ss) → HasSegment g (within_reach reach ss)
    rest k = k

    parts : HasSegment g (r ∷ within_reach reach ss) → (g ≡ r) ⊎ HasSegment g (within_reach reach ss)
    parts k = k

not_beyond : (reach : Option ℚ) (x d : ℚ) → x ≤ℚ d → is_beyond reach d ≡ false → is_beyond reach x ≡ true → ⊥
not_beyond None x d l n h = true≢false (sym h)
not_beyond (Some r) x d l n h = true≢false (sym (lt_q_out r d (lt_le_trans (lt_q_in r x h) l)) ∙ n)

-- all that start by d, where d is within reach
pub kept_segment : (reach : Option ℚ) (ss : List Segment) (g : Segment) (d : ℚ) → HasSegment g ss → g.start ≤ℚ d → is_beyond reach d ≡ false → HasSegment g (within_reach reach ss)
kept_segment reach [] g d h l n = h
kept_segment reach (r ∷ ss) g d h l n = elim (cases_Bool (is_beyond reach r.start)) [
  | inl e ↦ elim h [
    | inl is ↦ absurd (not_beyond reach r.start d (subst (λ (x : Segment). x.start ≤ℚ d) is l) n e)
    | inr k ↦ rw e (kept_segment reach ss g d k l n)
  ]
  | inr e ↦ elim h [
    | inl is ↦ rw e (inl is)
    | inr k ↦ rw e (inr (kept_segment reach ss g d k l n))
  ]
]

-- ---- what holds of each
pub each_within : (P : Segment → Type 0) (reach : Option ℚ) (ss : List Segment) → EachSegment P ss → EachSegment P (within_reach reach ss)
each_within P reach [] h = tt
each_within P reach (r ∷ ss) h = elim (cases_Bool (is_beyond reach r.start)) [
  | inl e ↦ rw e (each_within P reach ss h.1)
  | inr e ↦ rw e (h.0, each_within P reach ss h.1)
]

pub fit_within : (reach : Option ℚ) (ss : List Segment) → SegmentsFit ss → SegmentsFit (within_reach reach ss)
fit_within reach ss h = record {
  gaps = each_within GapSteps reach ss h.gaps;
  starts = each_within (λ s. int (pos 0) ≤ℚ s.start) reach ss h.starts;
}

pub time_within : (reach : Option ℚ) (ss : List Segment) (works : List Ramp) (t : ℚ) → TimeFits ss works t → TimeFits (within_reach reach ss) works t
time_within reach ss works t h = record {
  reads = h.reads;
  keys = each_within (λ s. KeySteps s.slope (point_at works t)) reach ss h.keys;
  marks = each_within (λ s. FitsRule (rule_of s) (mark_of s.slope (point_at works t))) reach ss h.marks;
}

pub near_within : (reach : Option ℚ) (ss : List Segment) (works : List Ramp) (s : Stretch) (ps : List Point) → EachPoint (FitsNearBy ss works s) ps → EachPoint (FitsNearBy (within_reach reach ss) works s) ps
near_within reach ss works s [] h = tt
near_within reach ss works s (p ∷ ps) h = (each_within (λ g. FitsNear works s g p) reach ss h.0, near_within reach ss works s ps h.1)

-- ---- windows
-- one that these show is one that all show
pub shown_by_all : (reach : Option ℚ) (ss : List Segment) (works : List Ramp) (s : Stretch) (ts : List ℚ) (t : ℚ) → EndsShort (within_reach reach ss) works s ts t → EndsShort ss works s ts t
shown_by_all reach ss works s ts t h = elim h [
  | inl pair ↦
      let (a, k) = pair in
      let (g, has, short) = k.short in
      inl (a, record { from = k.from; to = k.to; short = (g, segment_kept reach ss g has, short) })
  | inr near ↦
      let (p, listed, by) = near in
      let (g, has, is) = by in
      inr (p, listed, (g, segment_kept reach ss g has, is))
]

-- between two turns a short window has one within reach
pub between_near : (server : Server) (end : ℚ) (V : List ServerStep) (c : SpecCurve) (reach : Option ℚ) (u e a b : ℚ) → IsLawfulView server end V → MayServe c → IfSome reach (HasReach c)
    → IsTurn end V u → IsTurn end V e → u ≤ℚ a → a <ℚ b → b ≤ℚ e → Fin (worked all V b) <ₑ (Fin (worked all V a) +ₑ value_at c (b -ℚ a))
    → (p q : ℚ) × (u ≤ℚ p) × (p <ℚ q) × (q ≤ℚ e) × IsPair (IsTurn end V) (IsBreak c) p q × (is_beyond reach (q -ℚ p) ≡ false)
    × (Fin (worked all V q) <ₑ (Fin (worked all V p) +ₑ value_at c (q -ℚ p)))
between_near server end V c None u e a b h M R at_u at_e first forward last less =
    let (p, q, from, on, upto, pair, short) = turns_suffice_between server end V c u e a b h M at_u at_e first forward last less in
    (p, q, from, on, upto, pair, refl, short)
between_near server end V c (Some reach) u e a b h M R at_u at_e first forward last less =
    let (p, q, from, on, upto, pair, near, short) = reach_suffices server end V c reach u e a b h M R at_u at_e first forward last less in
    (p, q, from, on, upto, pair, lt_q_not reach (q -ℚ p) near, short)
