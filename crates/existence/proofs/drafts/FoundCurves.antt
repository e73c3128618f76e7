-- The text of a curve that is not refused has a curve within the limits, or is over one.
use Rattle.std.specs.Prelude.{◌≡◌, ◌^◌, pos, not, Bool, true, false, ◌&&◌, ◌||◌, List, Option, Some, None, Result, Ok, Err, IfOk, if◌then◌else◌}
use Rattle.std.proofs.Common.{refl, inl, inr}
use Rattle.std.proofs.lemmas.Bool.{cases_lt}
use Rattle.rational.specs.Rational.{int, ◌≤ℚ◌, ◌<ℚ◌}
use Rattle.rational.specs.declared.Extended.TheVariants.{Fin}
use Rattle.rational.proofs.Integers.{nat_nonneg}
use Rattle.rational.proofs.Laws.{le_of_not_lt, lt_of_not_le, antisym}
use Rattle.min_plus.specs.Continuity.{IsContinuous}
use Rattle.min_plus.specs.Functions.{zero_q, IsRising}
use Rattle.upp_curve.specs.Curve.{SpecCurve, value_at}
use Rattle.upp_curve.specs.Curves.{IsCurve}
use Rattle.upp_curve.specs.Kinds.{bucket, stair, rate_latency, gate}
use Rattle.upp_curve.specs.Normal.{IsNormal}
use Rattle.upp_curve.proofs.KindsAre.{kinds_are_normal}
use Rattle.upp_curve.proofs.ReadableKinds.{bucket_curve}
use Rattle.upp_limits.specs.declared.own_limits.OverLimit.{OverLimit}
use Rattle.upp_limits.specs.declared.own_limits.OverLimit.TheVariants.{TooMany, TooWide}
use Rattle.upp_limits.specs.Limits.{own_gauge, own_tally}
use Rattle.upp_limits.specs.OwnLimits.{IsWithinOwn}
use Rattle.curve_library.specs.declared.fault.CurveFault.{CurveFault}
use Rattle.curve_library.specs.declared.fault.CurveFault.TheVariants as faults
use Rattle.curve_library.specs.declared.texts.PieceText.{PieceText}
use Rattle.curve_library.specs.declared.texts.TailText.{TailText}
use Rattle.curve_library.specs.declared.texts.UseAs.{UseAs}
use Rattle.curve_library.specs.declared.texts.UseAs.TheVariants.{Arrival, Service}
use Rattle.curve_library.specs.Causes.{OneNegative, NoSlot, Passes, KeepsCauses}
use Rattle.curve_library.specs.Listed.{listed_curve, AreNonneg, HasLength, AreInOrder, IsWellFormed, HasShape}
use Rattle.curve_library.proofs.ListedParts.{raw_of}
use Rattle.net_model.specs.declared.fault.CurveRefusal.TheVariants.{NotRising, NotContinuous, NotZeroAtStart}
use Rattle.net_draft.specs.Made.{CurveAnswers, IsMade}
use Rattle.net_draft.specs.Refusals.{at_most_q, below_zero, is_zero, are_nonneg_texts, is_nonneg_end, has_length, starts_ascend, are_within_period, is_within, rises, joins, is_same, first_cause, first_of, shape_refusal, form_refusal, listed_refusal, refusal_of}
use Rattle.net_draft.specs.Texts.{CurveText, Bucket, Stair, RateLatency, Gate, Listed}
use Rattle.net_draft.specs.Values.{less}
use Rattle.net_draft.proofs.Decided.{Decides, less_decides, at_most_q_decides}
use Rattle.net_draft.proofs.ListedTests.{nonneg_decides, length_decides, order_decides, limits_decide}
use Rattle.net_draft.proofs.Told.{negative_decides, slot_decides, rising_of, smooth_of, start_of}
use Rattle.existence.proofs.curves.Forms.{own_curve}
use Rattle.existence.proofs.drafts.ReadTexts.{HasSmallBurst}
use Rattle.existence.proofs.scripts.Tests.{own_or}

pub record IsFoundCurve (text : CurveText) : Type 0 where
  pub made : Result SpecCurve OverLimit
  pub is : IsMade text made
  pub curve : IfOk made IsCurve

-- ---- kinds of curve
-- what passes both tests has neither cause
none_of : (n z : Bool) (N Z : Type 0) → Decides n N → Decides z Z → first_cause n z ≡ None → Passes N Z
none_of true z N Z d e h = absurd (let no : ⊥ = cc in no)
none_of false true N Z d e h = absurd (let no : ⊥ = cc in no)
none_of false false N Z d e h = record { nonneg = d; period = e }

-- a curve in normal form is within its own limits, or over one
kind_found : (text : CurveText) (N Z : Type 0) (c : SpecCurve) → ((a : Result SpecCurve CurveFault) → KeepsCauses N Z c a → CurveAnswers text a)
    → Passes N Z → IsNormal c → IsFoundCurve text
kind_found text N Z c answers passes normal = elim (own_or c normal) [
  | inl w ↦ record { made = Ok c; is = answers (Ok c) (passes, (refl, w.0)); curve = w.1 }
  | inr over ↦ record { made = Err over.0; is = answers (Err (faults.Op over.0)) (passes, over.1); curve = tt }
]

-- ---- lists
module _ (ps : List PieceText) (tail : Option TailText) where
  -- what no test refuses is well formed; within its limits it has its shape
  record IsShaped (u : UseAs) : Type 0 where
    formed : IsWellFormed ps tail
    shape : IsWithinOwn (listed_curve ps tail) → shape_refusal u (listed_curve ps tail) ≡ None

  formed_by : (u : UseAs) (A L O W : Bool) → Decides A (AreNonneg ps tail) → Decides L (HasLength tail) → Decides O (AreInOrder ps tail)
      → Decides W (IsWithinOwn (listed_curve ps tail)) → form_refusal A L O W (shape_refusal u (listed_curve ps tail)) ≡ None → IsShaped u
  formed_by u false L O W a l o w h = absurd (let no : ⊥ = cc in no)
  formed_by u true false O W a l o w h = absurd (let no : ⊥ = cc in no)
  formed_by u true true false W a l o w h = absurd (let no : ⊥ = cc in no)
  formed_by u true true true false a l o w h =
      record { formed = record { nonneg = a; length = l; order = o }; shape = λ within. absurd (w within) }
  formed_by u true true true true a l o w h = record { formed = record { nonneg = a; length = l; order = o }; shape = λ within. h }

  formed : (u : UseAs) → listed_refusal ps tail u ≡ None → IsShaped u
  unfolding listed_refusal
  formed u h =
      formed_by u (are_nonneg_texts ps && is_nonneg_end tail) (has_length tail) (starts_ascend ps && are_within_period tail ps) (is_within (listed_curve ps tail))
      (nonneg_decides ps tail) (length_decides tail) (order_decides ps tail) (limits_decide (listed_curve ps tail)) h

  arrival_by : (R : Bool) → Decides R (IsRising (value_at (listed_curve ps tail))) → (if R then None else Some NotRising) ≡ None
      → IsRising (value_at (listed_curve ps tail))
  arrival_by true d h = d
  arrival_by false d h = absurd (let no : ⊥ = cc in no)

  service_by : (R J Z : Bool) → Decides R (IsRising (value_at (listed_curve ps tail)))
      → (IsRising (value_at (listed_curve ps tail)) → Decides J (IsContinuous (value_at (listed_curve ps tail))))
      → Decides Z (value_at (listed_curve ps tail) zero_q ≡ Fin zero_q)
      → first_of (not R) (not J) (not Z) NotRising NotContinuous NotZeroAtStart ≡ None → HasShape Service (value_at (listed_curve ps tail))
  service_by false J Z d e z h = absurd (let no : ⊥ = cc in no)
  service_by true false Z d e z h = absurd (let no : ⊥ = cc in no)
  service_by true true false d e z h = absurd (let no : ⊥ = cc in no)
  service_by true true true d e z h = record { rises = d; smooth = e d; start = z }

  shaped : (u : UseAs) → IsWellFormed ps tail → shape_refusal u (listed_curve ps tail) ≡ None → HasShape u (value_at (listed_curve ps tail))
  unfolding shape_refusal
  shaped Arrival w h = arrival_by (rises (listed_curve ps tail)) (rising_of ps tail w) h
  shaped Service w h =
      let c = listed_curve ps tail in
      service_by (rises c) (joins c) (is_same (value_at c zero_q) (Fin zero_q)) (rising_of ps tail w) (smooth_of ps tail w) (start_of c) h

  list_found : (u : UseAs) → IsShaped u → IsFoundCurve (Listed ps tail u)
  list_found u s = elim (cases_lt (own_gauge (listed_curve ps tail)) (2 ^ 120)) [
    | inr wide ↦ record { made = Err TooWide; is = (s.formed, wide); curve = tt }
    | inl narrow ↦ elim (cases_lt (2 ^ 20) (own_tally (listed_curve ps tail))) [
      | inl many ↦ record { made = Err TooMany; is = (s.formed, (narrow, many)); curve = tt }
      | inr few ↦
          let within : IsWithinOwn (listed_curve ps tail) = record { narrow = narrow; few = few } in
          let (d, curve, same) = own_curve (listed_curve ps tail) (raw_of ps tail s.formed) narrow in
          record { made = Ok d; is = (s.formed, (same, within, shaped u s.formed (s.shape within))); curve = curve }
    ]
  ]

-- ---- all texts
pub curve_found : (t : CurveText) → refusal_of t ≡ None → HasSmallBurst t → IsFoundCurve t
unfolding refusal_of
curve_found (Bucket burst rate) h small =
    let p = none_of (below_zero burst || below_zero rate) false (OneNegative burst rate) ⊥ (negative_decides burst rate) (λ x. x) h in
    record { made = Ok (bucket burst rate); is = (p.nonneg, refl); curve = bucket_curve burst rate small }
curve_found (Stair packet period jitter) h small =
    let c = stair (int (pos packet)) period jitter in
    let p = none_of (below_zero jitter) (at_most_q period zero_q) (jitter <ℚ zero_q) (period ≤ℚ zero_q) (less_decides jitter zero_q) (at_most_q_decides period zero_q) h in
    kind_found (Stair packet period jitter) (jitter <ℚ zero_q) (period ≤ℚ zero_q) c (λ a k. k) p
    (kinds_are_normal.stair (int (pos packet)) period jitter (nat_nonneg packet) (lt_of_not_le p.period) (le_of_not_lt p.nonneg))
curve_found (RateLatency rate latency) h small =
    let p = none_of (below_zero rate || below_zero latency) false (OneNegative rate latency) ⊥ (negative_decides rate latency) (λ x. x) h in
    kind_found (RateLatency rate latency) (OneNegative rate latency) ⊥ (rate_latency rate latency) (λ a k. k) p
    (kinds_are_normal.rate_latency rate latency (le_of_not_lt (λ l. p.nonneg (inl l))) (le_of_not_lt (λ l. p.nonneg (inr l))))
curve_found (Gate rate cycle slot) h small =
    let p = none_of (below_zero rate || below_zero slot) (at_most_q cycle zero_q || (is_zero slot || less cycle slot)) (OneNegative rate slot) (NoSlot cycle slot)
    (negative_decides rate slot) (slot_decides cycle slot) h in
    let least : zero_q ≤ℚ slot = le_of_not_lt (λ l. p.nonneg (inr l)) in
    kind_found (Gate rate cycle slot) (OneNegative rate slot) (NoSlot cycle slot) (gate rate cycle slot) (λ a k. k) p
    (kinds_are_normal.gate rate cycle slot (le_of_not_lt (λ l. p.nonneg (inl l)))
    (lt_of_not_le (λ l. p.period (inr (inl (antisym (l, least)))))) (le_of_not_lt (λ l. p.period (inr (inr l)))))
curve_found (Listed pieces tail use_as) h small = list_found pieces tail use_as (formed pieces tail use_as h)
