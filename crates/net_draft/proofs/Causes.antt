-- A cause that the tests of a text find is there.
use Rattle.std.specs.Prelude.{◌≡◌, pos, Bool, true, false, not, if◌then◌else◌, ◌&&◌, ◌||◌, List, Option, Some, None, Ok, Err}
use Rattle.std.proofs.Common.{subst, refl, inl, inr}
use Rattle.rational.specs.Rational.{ℚ, int, ◌≤ℚ◌, ◌<ℚ◌}
use Rattle.rational.specs.declared.Extended.TheVariants.{Fin}
use Rattle.upp_curve.specs.Curve.{SpecCurve, value_at}
use Rattle.min_plus.specs.Functions.{zero_q, IsRising}
use Rattle.min_plus.specs.Continuity.{IsContinuous}
use Rattle.upp_curve.specs.Kinds.{stair, rate_latency, gate}
use Rattle.upp_limits.specs.OwnLimits.{IsWithinOwn}
use Rattle.curve_library.specs.declared.texts.PieceText.{PieceText}
use Rattle.curve_library.specs.declared.texts.TailText.{TailText}
use Rattle.curve_library.specs.declared.texts.UseAs.{UseAs}
use Rattle.curve_library.specs.declared.texts.UseAs.TheVariants.{Arrival, Service}
use Rattle.curve_library.specs.Causes.{OneNegative, NoSlot, KeepsCauses}
use Rattle.curve_library.specs.Listed.{listed_curve, AreNonneg, HasLength, AreInOrder, IsWellFormed, KeepsListed}
use Rattle.net_model.specs.declared.fault.CurveRefusal.{CurveRefusal}
use Rattle.net_model.specs.declared.fault.CurveRefusal.TheVariants.{Negative, ZeroPeriod, NotRising, NotContinuous, NotZeroAtStart}
use Rattle.net_draft.specs.Texts.{CurveText, Bucket, Stair, RateLatency, Gate, Listed}
use Rattle.net_draft.specs.Values.{less}
use Rattle.net_draft.specs.Made.{CurveAnswers, KeepsBucket}
use Rattle.net_draft.specs.Laws.{fault_for, RefusalsAreCauses}
use Rattle.net_draft.specs.Refusals.{at_most_q, below_zero, is_zero, are_nonneg_texts, is_nonneg_end, has_length, starts_ascend, are_within_period, is_within, rises, joins, is_same, first_cause, first_of, shape_refusal, form_refusal, listed_refusal, refusal_of}
use Rattle.net_draft.proofs.Decided.{Decides, less_decides, at_most_q_decides}
use Rattle.net_draft.proofs.ListedTests.{nonneg_decides, length_decides, order_decides, limits_decide}
use Rattle.net_draft.proofs.Told.{negative_decides, slot_decides, rising_of, smooth_of, start_of, answers_tell}

some_is : (a b : CurveRefusal) → Some a ≡ Some b → a ≡ b
some_is a b h = cc

-- ---- two causes
causes_back : (n z : Bool) (N Z : Type 0) (c : SpecCurve) (r : CurveRefusal) → Decides n N → Decides z Z → first_cause n z ≡ Some r → KeepsCauses N Z c (Err (fault_for r))
causes_back true z N Z c r d e h = subst (λ q. KeepsCauses N Z c (Err (fault_for q))) (some_is Negative r h) d
causes_back false true N Z c r d e h = subst (λ q. KeepsCauses N Z c (Err (fault_for q))) (some_is ZeroPeriod r h) (d, e)
causes_back false false N Z c r d e h = absurd cc

bucket_back : (n : Bool) (burst rate : ℚ) (r : CurveRefusal) → Decides n (OneNegative burst rate) → first_cause n false ≡ Some r → KeepsBucket burst rate (Err (fault_for r))
bucket_back true b q r d h = subst (λ k. KeepsBucket b q (Err (fault_for k))) (some_is Negative r h) d
bucket_back false b q r d h = absurd cc

-- ---- lists
module _ (ps : List PieceText) (tail : Option TailText) (r : CurveRefusal) (w : IsWellFormed ps tail) (i : IsWithinOwn (listed_curve ps tail)) where
  arrival_back : (R : Bool) → Decides R (IsRising (value_at (listed_curve ps tail))) → (if R then None else Some NotRising) ≡ Some r → KeepsListed ps tail Arrival (Err (fault_for r))
  arrival_back true d h = absurd cc
  arrival_back false d h = subst (λ q. KeepsListed ps tail Arrival (Err (fault_for q))) (some_is NotRising r h) (inr (w, (i, d)))

  service_back : (R J Z : Bool) → Decides R (IsRising (value_at (listed_curve ps tail))) → (IsRising (value_at (listed_curve ps tail)) → Decides J (IsContinuous (value_at (listed_curve ps tail))))
      → Decides Z (value_at (listed_curve ps tail) zero_q ≡ Fin zero_q) → first_of (not R) (not J) (not Z) NotRising NotContinuous NotZeroAtStart ≡ Some r
      → KeepsListed ps tail Service (Err (fault_for r))
  service_back false J Z d e z h = subst (λ q. KeepsListed ps tail Service (Err (fault_for q))) (some_is NotRising r h) (inr (w, (i, d)))
  service_back true false Z d e z h =
      subst (λ q. KeepsListed ps tail Service (Err (fault_for q))) (some_is NotContinuous r h) (w, (i, record { service = refl; rises = d; jumps = e d }))
  service_back true true false d e z h =
      subst (λ q. KeepsListed ps tail Service (Err (fault_for q))) (some_is NotZeroAtStart r h) (w, (i, record { service = refl; rises = d; smooth = e d; start = z }))
  service_back true true true d e z h = absurd cc

  shape_back : (u : UseAs) → shape_refusal u (listed_curve ps tail) ≡ Some r → KeepsListed ps tail u (Err (fault_for r))
  unfolding shape_refusal
  shape_back Arrival h = arrival_back (rises (listed_curve ps tail)) (rising_of ps tail w) h
  shape_back Service h =
      let c = listed_curve ps tail in
      service_back (rises c) (joins c) (is_same (value_at c zero_q) (Fin zero_q)) (rising_of ps tail w) (smooth_of ps tail w) (start_of c) h

form_back : (ps : List PieceText) (tail : Option TailText) (u : UseAs) (r : CurveRefusal) (A L O W : Bool) → Decides A (AreNonneg ps tail) → Decides L (HasLength tail) → Decides O (AreInOrder ps tail)
    → Decides W (IsWithinOwn (listed_curve ps tail)) → form_refusal A L O W (shape_refusal u (listed_curve ps tail)) ≡ Some r → KeepsListed ps tail u (Err (fault_for r))
form_back ps tail u r false L O W a l o w h = subst (λ q. KeepsListed ps tail u (Err (fault_for q))) (some_is Negative r h) a
form_back ps tail u r true false O W a l o w h = subst (λ q. KeepsListed ps tail u (Err (fault_for q))) (some_is ZeroPeriod r h) (a, l)
form_back ps tail u r true true false W a l o w h = subst (λ q. KeepsListed ps tail u (Err (fault_for q))) (some_is NotRising r h) (inl (a, l, o))
form_back ps tail u r true true true false a l o w h = absurd cc
form_back ps tail u r true true true true a l o w h = shape_back ps tail r (record { nonneg = a; length = l; order = o }) w u h

listed_back : (ps : List PieceText) (tail : Option TailText) (u : UseAs) (r : CurveRefusal) → listed_refusal ps tail u ≡ Some r → KeepsListed ps tail u (Err (fault_for r))
unfolding listed_refusal
listed_back ps tail u r h =
    form_back ps tail u r (are_nonneg_texts ps && is_nonneg_end tail) (has_length tail) (starts_ascend ps && are_within_period tail ps) (is_within (listed_curve ps tail))
    (nonneg_decides ps tail) (length_decides tail) (order_decides ps tail) (limits_decide (listed_curve ps tail)) h

-- ---- all texts
told_back : (t : CurveText) (r : CurveRefusal) → refusal_of t ≡ Some r → CurveAnswers t (Err (fault_for r))
unfolding refusal_of
told_back (Bucket b q) r h = bucket_back (below_zero b || below_zero q) b q r (negative_decides b q) h
told_back (Stair l p j) r h =
    causes_back (below_zero j) (at_most_q p zero_q) (j <ℚ zero_q) (p ≤ℚ zero_q) (stair (int (pos l)) p j) r (less_decides j zero_q) (at_most_q_decides p zero_q) h
told_back (RateLatency q t) r h = causes_back (below_zero q || below_zero t) false (OneNegative q t) ⊥ (rate_latency q t) r (negative_decides q t) (λ x. x) h
told_back (Gate q c s) r h =
    causes_back (below_zero q || below_zero s) (at_most_q c zero_q || (is_zero s || less c s)) (OneNegative q s) (NoSlot c s) (gate q c s) r (negative_decides q s) (slot_decides c s) h
told_back (Listed ps tail u) r h = listed_back ps tail u r h

found_back : (t : CurveText) (r : CurveRefusal) → CurveAnswers t (Err (fault_for r)) → refusal_of t ≡ Some r
found_back t Negative h = answers_tell t (Err (fault_for Negative)) h
found_back t ZeroPeriod h = answers_tell t (Err (fault_for ZeroPeriod)) h
found_back t NotRising h = answers_tell t (Err (fault_for NotRising)) h
found_back t NotContinuous h = answers_tell t (Err (fault_for NotContinuous)) h
found_back t NotZeroAtStart h = answers_tell t (Err (fault_for NotZeroAtStart)) h

pub refusals_are_causes : RefusalsAreCauses
refusals_are_causes t = record {
  told = told_back t;
  found = found_back t;
  passes = λ made h. answers_tell t (Ok made) h;
}
