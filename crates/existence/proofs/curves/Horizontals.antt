-- Two curves that rise have a horizontal deviation, or their call is over a limit.
use Rattle.std.specs.Prelude.{◌≢◌, ◌^◌, ◌⊎◌, Result, Ok, Err, Option, None, Some}
use Rattle.std.proofs.Common.{arith, refl, inl, inr}
use Rattle.std.proofs.lemmas.Bool.{cases_lt}
use Rattle.rational.specs.Rational.{ℚ}
use Rattle.rational.specs.Extended.{Ext, ◌<ₑ◌}
use Rattle.rational.specs.declared.Extended.TheVariants.{Fin, Inf}
use Rattle.rational.proofs.Laws.{le_or_lt, lt_irrefl, lt_le_trans}
use Rattle.min_plus.specs.Deviations.{IsHorizontalDeviation}
use Rattle.min_plus.specs.Functions.{IsFinite, IsRising}
use Rattle.upp_curve.specs.Curve.{SpecCurve, value_at}
use Rattle.upp_curve.specs.Curves.{IsCurve}
use Rattle.upp_curve.specs.Steady.{rate}
use Rattle.upp_limits.specs.declared.op_kind.OpKind.TheVariants.{Horizontal}
use Rattle.upp_limits.specs.declared.op_kind.OpFault.{OpFault}
use Rattle.upp_limits.specs.declared.op_kind.OpFault.TheVariants.{TooMany, TooWide, NoMemory}
use Rattle.upp_limits.specs.Gauges.{EndsAbove, IsKnownAtOnce, gauge_at}
use Rattle.upp_limits.specs.Levels.{level_of, IsLevelAbove}
use Rattle.upp_limits.proofs.LevelCurves.{levels_above}
use Rattle.curve_call.proofs.TailMoves.{rates_compared, not_both, not_same}
use Rattle.existence.proofs.curves.Answered.{limited}
use Rattle.net_cells.specs.Answers.{Deviates}
use Rattle.curve_deviation.specs.Stages.{AreFinite, AreFound, settled}
use Rattle.existence.proofs.curves.Verticals.{finite_or_not}
use Rattle.curve_deviation.proofs.HorizontalCall.{sizes_to, ready, deviation_is}
use Rattle.curve_deviation.proofs.KnownLags.{known_deviation, known_within}
use Rattle.curve_deviation.proofs.PeriodsFound.{found_least, found_wide, wide_call}
use Rattle.curve_deviation.proofs.SoonerLags.{all_periods}
use Rattle.existence.proofs.curves.HorizontalNumbers.{level_or, first_number, second_number}
use Rattle.existence.proofs.curves.HorizontalWalks.{longest_lag}

-- ---- whether it is known at once
levels_or : (x y : Option ℚ) → IsLevelAbove x y ⊎ ¬ (IsLevelAbove x y)
levels_or None y = inr (λ h. h)
levels_or (Some x) None = inr (λ h. h)
levels_or (Some x) (Some y) = elim (le_or_lt x y) [ inl h ↦ inr (λ l. lt_irrefl y (lt_le_trans l h)) | inr l ↦ inl l ]

ends_or : (f g : SpecCurve) → IsCurve f → IsCurve g → IsRising (value_at f) → IsRising (value_at g) → EndsAbove f g ⊎ ¬ (EndsAbove f g)
ends_or f g F G up rise = elim (level_or f) [
  | inr not ↦ inr (λ e. not e.level.0)
  | inl first ↦ elim (level_or g) [
    | inr not ↦ inr (λ e. not e.level.1)
    | inl second ↦
        let same = levels_above f g F G up rise first second in
        elim (levels_or (level_of f) (level_of g)) [ inl h ↦ inl (same.0 h) | inr not ↦ inr (λ e. not (same.1 e)) ]
  ]
]

known_or : (f g : SpecCurve) → IsCurve f → IsCurve g → IsFinite (value_at f) → IsRising (value_at f) → IsRising (value_at g) → IsKnownAtOnce Horizontal f g ⊎ ¬ (IsKnownAtOnce Horizontal f g)
known_or f g F G finite up rise = elim (rates_compared (rate g) (rate f)) [
  | inl faster ↦ inl (inr (inl faster))
  | inr (inl e) ↦ by_levels (not_same (rate g) (rate f) e)
  | inr (inr l) ↦ by_levels (not_both (rate f) (rate g) l)
]
  where
    by_levels : ¬ (rate g <ₑ rate f) → IsKnownAtOnce Horizontal f g ⊎ ¬ (IsKnownAtOnce Horizontal f g)
    by_levels slow = elim (ends_or f g F G up rise) [
      | inl ends ↦ inl (inr (inr ends))
      | inr not ↦ inr (λ k. elim k [
        | inl n ↦ n finite
        | inr (inl faster) ↦ slow faster
        | inr (inr ends) ↦ not ends
      ])
    ]

-- ---- the deviation
abbrev HasHorizontal : SpecCurve → SpecCurve → Type 0
HasHorizontal f g = (r : Result Ext OpFault) × Deviates Horizontal IsHorizontalDeviation f g r

wide_is : TooWide ≢ NoMemory
wide_is e = cc

many_is : TooMany ≢ NoMemory
many_is e = cc

-- both numbers, and the time from which on no lag is longer, are of a type that has no name here
by_numbers : (f g : SpecCurve) (p : _) → IsCurve f → IsCurve g → AreFinite f g → ¬ (IsKnownAtOnce Horizontal f g) → AreFound f g p → HasHorizontal f g
by_numbers f g p F G both looks A = elim (cases_lt (gauge_at Horizontal f g p.first p.second) (2 ^ 120)) [
  | inr over ↦ (Err TooWide, (wide_call f g looks (found_wide f g p F G A (omega (arith, over))), wide_is))
  | inl small ↦ elim (limited Horizontal f g p.first p.second F G looks (found_least f g p F G A small)) [
    | inl wide ↦ (Err TooWide, (wide, wide_is))
    | inr (inl many) ↦ (Err TooMany, (many, many_is))
    | inr (inr (r, R, within)) ↦
        let E = all_periods f g p.first p.until A.until in
        let (q, L) = longest_lag (sizes_to f g r.end) f g p.until r.end both (ready f g p r p.until both A R E) in
        (Ok (Fin q), (within, deviation_is f g p r p.until q both looks A R E L))
  ]
]

by_search : (f g : SpecCurve) → IsCurve f → IsCurve g → AreFinite f g → ¬ (IsKnownAtOnce Horizontal f g) → HasHorizontal f g
by_search f g F G both looks =
    let (j, first) = first_number f g F G both in
    let (m, second) = second_number f g j F G both in
    by_numbers f g record { first = j; second = m; until = settled f g j } F G both looks
    record { first = first; below = λ i h met. second.least i h (inl met); past = second.meets; until = refl }

pub horizontal_answered : (f g : SpecCurve) → IsCurve f → IsCurve g → IsFinite (value_at g) → IsRising (value_at f) → IsRising (value_at g) → HasHorizontal f g
horizontal_answered f g F G second up rise = elim (finite_or_not f F) [
  | inr not ↦ at_once (inl not)
  | inl first ↦ elim (known_or f g F G first up rise) [
    | inl known ↦ at_once known
    | inr looks ↦ by_search f g F G record { first = first; second = second; first_rises = up; second_rises = rise } looks
  ]
]
  where
    at_once : IsKnownAtOnce Horizontal f g → HasHorizontal f g
    at_once known = (Ok Inf, (known_within f g known, known_deviation f g F G second rise known))
