-- What is answered to the text of a curve tells why it is refused.
use Rattle.std.specs.Prelude.{◌≡◌, ◌⊎◌, pos, Bool, false, ◌&&◌, ◌||◌, List, Option, Some, None, Result, Ok, Err}
use Rattle.std.proofs.Common.{refl, inl, inr}
use Rattle.rational.specs.Rational.{ℚ, int, ◌≤ℚ◌, ◌<ℚ◌}
use Rattle.rational.specs.declared.Extended.TheVariants.{Fin}
use Rattle.upp_curve.specs.Curve.{SpecCurve, value_at}
use Rattle.min_plus.specs.Functions.{zero_q, IsRising}
use Rattle.min_plus.specs.Continuity.{IsContinuous}
use Rattle.upp_curve.specs.Kinds.{stair, rate_latency, gate}
use Rattle.upp_limits.specs.OwnLimits.{IsWithinOwn}
use Rattle.upp_curve.proofs.RisingCurves.{GoesOn}
use Rattle.curve_library.specs.declared.texts.PieceText.{PieceText}
use Rattle.curve_library.specs.declared.texts.TailText.{TailText}
use Rattle.curve_library.specs.declared.texts.UseAs.{UseAs}
use Rattle.curve_library.specs.declared.texts.UseAs.TheVariants.{Arrival, Service}
use Rattle.curve_library.specs.declared.fault.CurveFault.{CurveFault}
use Rattle.curve_library.specs.declared.fault.CurveFault.TheVariants as faults
use Rattle.curve_library.specs.Causes.{OneNegative, NoSlot, KeepsCauses}
use Rattle.curve_library.specs.Listed.{listed_curve, text_tail, AreNonneg, HasLength, AreInOrder, IsWellFormed, HasShape, Jumps, StartsAboveZero, KeepsListed}
use Rattle.curve_library.proofs.Answering.{over_within}
use Rattle.curve_library.proofs.ListedParts.{raw_of}
use Rattle.net_model.specs.declared.fault.CurveRefusal.{CurveRefusal}
use Rattle.net_model.specs.declared.fault.CurveRefusal.TheVariants.{Negative, ZeroPeriod, NotRising, NotContinuous, NotZeroAtStart}
use Rattle.net_draft.specs.Texts.{CurveText, Bucket, Stair, RateLatency, Gate, Listed}
use Rattle.net_draft.specs.Values.{less}
use Rattle.net_draft.specs.Made.{CurveAnswers, KeepsBucket}
use Rattle.net_draft.specs.Refusals.{at_most_q, below_zero, is_zero, are_nonneg_texts, is_nonneg_end, has_length, starts_ascend, are_within_period, is_within, rises, joins, is_same, first_cause, shape_refusal, listed_refusal, refusal_of}
use Rattle.net_draft.proofs.Decided.{Decides, yes, no, either, less_decides, same_decides, at_most_q_decides, is_same_decides}
use Rattle.net_draft.proofs.ListedTests.{nonneg_decides, length_decides, order_decides, limits_decide, rising_decides, continuous_decides}

abbrev pub Tells : Option CurveRefusal → Result SpecCurve CurveFault → Type 0
Tells r (Ok made) = r ≡ None
Tells r (Err faults.Negative) = r ≡ Some Negative
Tells r (Err faults.ZeroPeriod) = r ≡ Some ZeroPeriod
Tells r (Err faults.NotRising) = r ≡ Some NotRising
Tells r (Err faults.NotContinuous) = r ≡ Some NotContinuous
Tells r (Err faults.NotZeroAtStart) = r ≡ Some NotZeroAtStart
Tells r (Err (faults.Op limit)) = r ≡ None
Tells r (Err faults.NoMemory) = Unit {0}

-- ---- two causes
causes_tell : (n z : Bool) (N Z : Type 0) (c : SpecCurve) (a : Result SpecCurve CurveFault) → Decides n N → Decides z Z → KeepsCauses N Z c a → Tells (first_cause n z) a
causes_tell n z N Z c (Ok made) d e h = rw (no n N d h.0.nonneg, no z Z e h.0.period) refl
causes_tell n z N Z c (Err faults.Negative) d e h = rw (yes n N d h) refl
causes_tell n z N Z c (Err faults.ZeroPeriod) d e h = rw (no n N d h.0, yes z Z e h.1) refl
causes_tell n z N Z c (Err faults.NotRising) d e h = absurd h
causes_tell n z N Z c (Err faults.NotContinuous) d e h = absurd h
causes_tell n z N Z c (Err faults.NotZeroAtStart) d e h = absurd h
causes_tell n z N Z c (Err (faults.Op limit)) d e h = rw (no n N d h.0.nonneg, no z Z e h.0.period) refl
causes_tell n z N Z c (Err faults.NoMemory) d e h = tt

bucket_tells : (n : Bool) (burst rate : ℚ) (a : Result SpecCurve CurveFault) → Decides n (OneNegative burst rate) → KeepsBucket burst rate a → Tells (first_cause n false) a
bucket_tells n b r (Ok made) d h = rw (no n (OneNegative b r) d h.0) refl
bucket_tells n b r (Err faults.Negative) d h = rw (yes n (OneNegative b r) d h) refl
bucket_tells n b r (Err faults.ZeroPeriod) d h = absurd h
bucket_tells n b r (Err faults.NotRising) d h = absurd h
bucket_tells n b r (Err faults.NotContinuous) d h = absurd h
bucket_tells n b r (Err faults.NotZeroAtStart) d h = absurd h
bucket_tells n b r (Err (faults.Op limit)) d h = absurd h
bucket_tells n b r (Err faults.NoMemory) d h = tt

pub negative_decides : (x y : ℚ) → Decides (below_zero x || below_zero y) (OneNegative x y)
negative_decides x y = either (below_zero x) (below_zero y) (x <ℚ zero_q) (y <ℚ zero_q) (less_decides x zero_q) (less_decides y zero_q)

pub slot_decides : (cycle slot : ℚ) → Decides (at_most_q cycle zero_q || (is_zero slot || less cycle slot)) (NoSlot cycle slot)
slot_decides c s =
    either (at_most_q c zero_q) (is_zero s || less c s) (c ≤ℚ zero_q) ((s ≡ zero_q) ⊎ (c <ℚ s)) (at_most_q_decides c zero_q)
    (either (is_zero s) (less c s) (s ≡ zero_q) (c <ℚ s) (same_decides s zero_q) (less_decides c s))

-- ---- shapes of well-formed lists
goes_on : (ps : List PieceText) (tail : Option TailText) → GoesOn (text_tail ps tail)
goes_on ps None = tt
goes_on ps (Some t) = tt

pub rising_of : (ps : List PieceText) (tail : Option TailText) → IsWellFormed ps tail → Decides (rises (listed_curve ps tail)) (IsRising (value_at (listed_curve ps tail)))
rising_of ps tail w = rising_decides (listed_curve ps tail) (raw_of ps tail w) (goes_on ps tail)

pub smooth_of : (ps : List PieceText) (tail : Option TailText) → IsWellFormed ps tail → IsRising (value_at (listed_curve ps tail))
    → Decides (joins (listed_curve ps tail)) (IsContinuous (value_at (listed_curve ps tail)))
smooth_of ps tail w rise = continuous_decides (listed_curve ps tail) (raw_of ps tail w) (goes_on ps tail) rise

pub start_of : (c : SpecCurve) → Decides (is_same (value_at c zero_q) (Fin zero_q)) (value_at c zero_q ≡ Fin zero_q)
start_of c = is_same_decides (value_at c zero_q) (Fin zero_q)

shaped : (ps : List PieceText) (tail : Option TailText) (u : UseAs) → IsWellFormed ps tail → HasShape u (value_at (listed_curve ps tail)) → shape_refusal u (listed_curve ps tail) ≡ None
unfolding shape_refusal
shaped ps tail Arrival w h = let c = listed_curve ps tail in rw (yes (rises c) (IsRising (value_at c)) (rising_of ps tail w) h) refl
shaped ps tail Service w h =
    let c = listed_curve ps tail in
    rw (
      yes (rises c) (IsRising (value_at c)) (rising_of ps tail w) h.rises,
      yes (joins c) (IsContinuous (value_at c)) (smooth_of ps tail w h.rises) h.smooth,
      yes (is_same (value_at c zero_q) (Fin zero_q)) (value_at c zero_q ≡ Fin zero_q) (start_of c) h.start,
    ) refl

falls : (ps : List PieceText) (tail : Option TailText) (u : UseAs) → IsWellFormed ps tail → ¬ (IsRising (value_at (listed_curve ps tail))) → shape_refusal u (listed_curve ps tail) ≡ Some NotRising
unfolding shape_refusal
falls ps tail Arrival w h = let c = listed_curve ps tail in rw (no (rises c) (IsRising (value_at c)) (rising_of ps tail w) h) refl
falls ps tail Service w h = let c = listed_curve ps tail in rw (no (rises c) (IsRising (value_at c)) (rising_of ps tail w) h) refl

jumps : (ps : List PieceText) (tail : Option TailText) (u : UseAs) → IsWellFormed ps tail → Jumps u (value_at (listed_curve ps tail)) → shape_refusal u (listed_curve ps tail) ≡ Some NotContinuous
unfolding shape_refusal
jumps ps tail Arrival w h = let e = h.service in absurd cc
jumps ps tail Service w h =
    let c = listed_curve ps tail in
    rw (yes (rises c) (IsRising (value_at c)) (rising_of ps tail w) h.rises, no (joins c) (IsContinuous (value_at c)) (smooth_of ps tail w h.rises) h.jumps) refl

lifted : (ps : List PieceText) (tail : Option TailText) (u : UseAs) → IsWellFormed ps tail → StartsAboveZero u (value_at (listed_curve ps tail)) → shape_refusal u (listed_curve ps tail) ≡ Some NotZeroAtStart
unfolding shape_refusal
lifted ps tail Arrival w h = let e = h.service in absurd cc
lifted ps tail Service w h =
    let c = listed_curve ps tail in
    rw (
      yes (rises c) (IsRising (value_at c)) (rising_of ps tail w) h.rises,
      yes (joins c) (IsContinuous (value_at c)) (smooth_of ps tail w h.rises) h.smooth,
      no (is_same (value_at c zero_q) (Fin zero_q)) (value_at c zero_q ≡ Fin zero_q) (start_of c) h.start,
    ) refl

-- ---- lists
-- what is well formed and within the limits is refused for its shape alone
by_shape : (ps : List PieceText) (tail : Option TailText) (u : UseAs) (r : Option CurveRefusal) → IsWellFormed ps tail → IsWithinOwn (listed_curve ps tail) → shape_refusal u (listed_curve ps tail) ≡ r
    → listed_refusal ps tail u ≡ r
unfolding listed_refusal
by_shape ps tail u r w i s =
    let c = listed_curve ps tail in
    rw (
      yes (are_nonneg_texts ps && is_nonneg_end tail) (AreNonneg ps tail) (nonneg_decides ps tail) w.nonneg,
      yes (has_length tail) (HasLength tail) (length_decides tail) w.length,
      yes (starts_ascend ps && are_within_period tail ps) (AreInOrder ps tail) (order_decides ps tail) w.order,
      yes (is_within c) (IsWithinOwn c) (limits_decide c) i,
    ) s

-- what is over a limit is not refused
past_limits : (ps : List PieceText) (tail : Option TailText) (u : UseAs) → IsWellFormed ps tail → ¬ (IsWithinOwn (listed_curve ps tail)) → listed_refusal ps tail u ≡ None
unfolding listed_refusal
past_limits ps tail u w i =
    let c = listed_curve ps tail in
    rw (
      yes (are_nonneg_texts ps && is_nonneg_end tail) (AreNonneg ps tail) (nonneg_decides ps tail) w.nonneg,
      yes (has_length tail) (HasLength tail) (length_decides tail) w.length,
      yes (starts_ascend ps && are_within_period tail ps) (AreInOrder ps tail) (order_decides ps tail) w.order,
      no (is_within c) (IsWithinOwn c) (limits_decide c) i,
    ) refl

listed_tells : (ps : List PieceText) (tail : Option TailText) (u : UseAs) (a : Result SpecCurve CurveFault) → KeepsListed ps tail u a → Tells (listed_refusal ps tail u) a
unfolding listed_refusal
listed_tells ps tail u (Ok made) h = by_shape ps tail u None h.0 h.1.1 (shaped ps tail u h.0 h.1.2)
listed_tells ps tail u (Err faults.Negative) h = rw (no (are_nonneg_texts ps && is_nonneg_end tail) (AreNonneg ps tail) (nonneg_decides ps tail) h) refl
listed_tells ps tail u (Err faults.ZeroPeriod) h =
    rw (yes (are_nonneg_texts ps && is_nonneg_end tail) (AreNonneg ps tail) (nonneg_decides ps tail) h.0, no (has_length tail) (HasLength tail) (length_decides tail) h.1) refl
listed_tells ps tail u (Err faults.NotRising) (inl h) =
    rw (
      yes (are_nonneg_texts ps && is_nonneg_end tail) (AreNonneg ps tail) (nonneg_decides ps tail) h.0,
      yes (has_length tail) (HasLength tail) (length_decides tail) h.1,
      no (starts_ascend ps && are_within_period tail ps) (AreInOrder ps tail) (order_decides ps tail) h.2,
    ) refl
listed_tells ps tail u (Err faults.NotRising) (inr h) = by_shape ps tail u (Some NotRising) h.0 h.1.0 (falls ps tail u h.0 h.1.1)
listed_tells ps tail u (Err faults.NotContinuous) h = by_shape ps tail u (Some NotContinuous) h.0 h.1.0 (jumps ps tail u h.0 h.1.1)
listed_tells ps tail u (Err faults.NotZeroAtStart) h = by_shape ps tail u (Some NotZeroAtStart) h.0 h.1.0 (lifted ps tail u h.0 h.1.1)
listed_tells ps tail u (Err (faults.Op limit)) h = past_limits ps tail u h.0 (over_within (listed_curve ps tail) limit h.1)
listed_tells ps tail u (Err faults.NoMemory) h = tt

-- ---- all texts
pub answers_tell : (t : CurveText) (a : Result SpecCurve CurveFault) → CurveAnswers t a → Tells (refusal_of t) a
unfolding refusal_of
answers_tell (Bucket b r) a h = bucket_tells (below_zero b || below_zero r) b r a (negative_decides b r) h
answers_tell (Stair l p j) a h =
    causes_tell (below_zero j) (at_most_q p zero_q) (j <ℚ zero_q) (p ≤ℚ zero_q) (stair (int (pos l)) p j) a (less_decides j zero_q) (at_most_q_decides p zero_q) h
answers_tell (RateLatency r t) a h = causes_tell (below_zero r || below_zero t) false (OneNegative r t) ⊥ (rate_latency r t) a (negative_decides r t) (λ x. x) h
answers_tell (Gate r c s) a h =
    causes_tell (below_zero r || below_zero s) (at_most_q c zero_q || (is_zero s || less c s)) (OneNegative r s) (NoSlot c s) (gate r c s) a (negative_decides r s) (slot_decides c s) h
answers_tell (Listed ps tail u) a h = listed_tells ps tail u a h
