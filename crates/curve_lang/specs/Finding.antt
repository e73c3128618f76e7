-- What calls of the evaluator find: what they make, or why there is none; how they follow one another; and how many
-- operators on curves are counted, `old` of them before and `new` by then. Want of memory may come at each place where a
-- call takes any, and what is counted by then tells which operators were made before it: so the limit of an operator that
-- is counted is never told as want of memory. (Own choice.)
use Rattle.std.specs.Prelude.{◌≡◌, ◌⊎◌, ℕ, pos, ◌+◌, ◌-◌, ◌≤◌, ◌<◌, ◌^◌, Result, Ok, Err}
use Rattle.rational.specs.Rational.{ℚ, int, ◌≤ℚ◌, ◌<ℚ◌}
use Rattle.rational.specs.MinMax.{max_q}
use Rattle.rational.specs.Extended.{Ext}
use Rattle.min_plus.specs.Functions.{zero_q, IsFinite, IsRising}
use Rattle.min_plus.specs.Convolution.{IsSubadditiveClosure}
use Rattle.min_plus.specs.Deviations.{IsVerticalDeviation}
use Rattle.upp_curve.specs.Curve.{SpecCurve, value_at}
use Rattle.upp_curve.specs.Curves.{IsCurve}
use Rattle.upp_curve.specs.Kinds.{bucket, rate_latency, stair, gate}
use Rattle.upp_limits.specs.declared.op_kind.OpKind.{OpKind}
use Rattle.upp_limits.specs.declared.op_kind.OpKind.TheVariants as calls
use Rattle.upp_limits.specs.declared.op_kind.OpFault.TheVariants as call_faults
use Rattle.upp_limits.specs.declared.own_limits.OverLimit.TheVariants as limits
use Rattle.upp_limits.specs.Limits.{own_end, time_alone, joined, curve_numbers, sizes_of, gauge_of}
use Rattle.upp_limits.specs.Gauges.{IsTooMany, IsTooWide}
use Rattle.upp_limits.specs.Outcome.{IsWithin}
use Rattle.upp_limits.specs.OwnLimits.{IsOver, IsWithinOwn}
use Rattle.curve_call.specs.Answers.{IsMadeBy}
use Rattle.curve_library.specs.Causes.{OneNegative, NoSlot}
use Rattle.subadd_closure.specs.Folds.{CloseAnswer}
use Rattle.subadd_closure.specs.FoldMemory.{CloseWants}
use Rattle.subadd_closure.specs.FoldWork.{fold_work}
use Rattle.input_texts.specs.declared.curve_script.keyword.NumberPair.{NumberPair}
use Rattle.input_texts.specs.declared.curve_script.keyword.NumberPair.TheVariants.{Bucket, Latency}
use Rattle.input_texts.specs.declared.curve_script.keyword.NumberTriple.{NumberTriple}
use Rattle.input_texts.specs.declared.curve_script.keyword.NumberTriple.TheVariants.{Stair, Gate}
use Rattle.input_texts.specs.declared.curve_script.keyword.CurveOperator.{CurveOperator}
use Rattle.input_texts.specs.declared.curve_script.keyword.CurveOperator.TheVariants.{Close, RunSup, RunInf}
use Rattle.input_texts.specs.declared.curve_script.keyword.NumberOperator.{NumberOperator}
use Rattle.input_texts.specs.declared.curve_script.keyword.NumberOperator.TheVariants.{PosMinus, Scale, Shift}
use Rattle.input_texts.specs.declared.curve_script.keyword.PairOperator.{PairOperator}
use Rattle.input_texts.specs.declared.curve_script.keyword.PairOperator.TheVariants.{Sum, Min, Max, Conv, PosDiff, Deconv}
use Rattle.input_texts.specs.declared.curve_script.fault.LangKind.{LangKind}
use Rattle.input_texts.specs.declared.curve_script.fault.LangKind.TheVariants.{C7, C8, TooMany, TooWide, NoMemory}
use Rattle.curve_lang.specs.Meaning.{FromZero}

-- a curve, or why there is none
abbrev pub Found : Type 0
Found = Result SpecCurve LangKind

-- ---- what is counted
-- no operator is
abbrev pub Still : {A : Type 0} → (Result A LangKind → Type 0) → Result A LangKind → (old new : ℕ) → Type 0
Still P r old new = P r × (new ≡ old)

-- one is
abbrev pub Once : {A : Type 0} → (Result A LangKind → Type 0) → Result A LangKind → (old new : ℕ) → Type 0
Once P r old new = P r × (new ≡ old + 1)

-- ---- one finding after another
-- r is what Q finds with what P finds, or why P finds nothing
pub data Then {A B : Type 0} (P : Result A LangKind → (old new : ℕ) → Type 0)
    (Q : A → Result B LangKind → (old new : ℕ) → Type 0) (r : Result B LangKind) (old new : ℕ) : Type 0 where
  goes_on : (x : A) (between : ℕ) → P (Ok x) old between → Q x r between new → Then P Q r old new
  stops : (k : LangKind) → P (Err k) old new → r ≡ Err k → Then P Q r old new

-- x, unless memory runs out
abbrev pub Gives : {A : Type 0} → A → Result A LangKind → Type 0
Gives x r = (r ≡ Ok x) ⊎ (r ≡ Err NoMemory)

-- what `next` finds where P holds, else C8
abbrev pub Guarded : {A : Type 0} → Type 0 → (Result A LangKind → (old new : ℕ) → Type 0) → Result A LangKind
    → (old new : ℕ) → Type 0
Guarded P next r old new = (P × next r old new) ⊎ (¬ P × Still (λ s. s ≡ Err C8) r old new)

-- ---- calls on curves
-- what a call on two curves finds by its limits; Q holds of what it makes
abbrev pub CallFinds : {A : Type 0} → OpKind → SpecCurve → SpecCurve → (A → Type 0) → Result A LangKind → Type 0
CallFinds op f g Q (Ok x) = IsWithin op f g × Q x
CallFinds op f g Q (Err TooMany) = IsTooMany op f g
CallFinds op f g Q (Err TooWide) = IsTooWide op f g
CallFinds op f g Q (Err NoMemory) = IsWithin op f g
CallFinds op f g Q (Err k) = ⊥

abbrev pub CurveFinds : OpKind → SpecCurve → SpecCurve → Found → Type 0
CurveFinds op f g r = CallFinds op f g (IsMadeBy op f g) r

-- the zero curve
abbrev pub zero_curve : SpecCurve
zero_curve = bucket zero_q zero_q

-- the call that tests whether f is anywhere below the zero curve z: how far z is above it
abbrev pub TestFinds : SpecCurve → SpecCurve → Result Ext LangKind → Type 0
TestFinds z f r = CallFinds calls.Vertical z f (IsVerticalDeviation (value_at z) (value_at f)) r

-- ---- kinds of curve
-- what a kind of curve finds: C7 where its numbers are refused, else c by its limits
abbrev pub KindFinds : Type 0 → SpecCurve → Found → Type 0
KindFinds Refused c (Ok h) = ¬ Refused × IsWithinOwn c × (h ≡ c)
KindFinds Refused c (Err C7) = Refused
KindFinds Refused c (Err TooMany) = ¬ Refused × IsOver c limits.TooMany
KindFinds Refused c (Err TooWide) = ¬ Refused × IsOver c limits.TooWide
KindFinds Refused c (Err NoMemory) = ¬ Refused × IsWithinOwn c
KindFinds Refused c (Err k) = ⊥

-- a token bucket has no limit
abbrev pub BucketFinds : Type 0 → SpecCurve → Found → Type 0
BucketFinds Refused c r = (Refused × (r ≡ Err C7)) ⊎ (¬ Refused × Gives c r)

-- the packet of a stair is a whole number from 1 to 2^24
pub record IsPacket (x : ℚ) : Type 0 where
  pub bits : ℕ
  pub is : x ≡ int (pos bits)
  pub some : 1 ≤ bits
  pub few : bits ≤ 2 ^ 24

abbrev pub NoStair : ℚ → ℚ → ℚ → Type 0
NoStair packet period jitter = ¬ (IsPacket packet) ⊎ ((jitter <ℚ zero_q) ⊎ (period ≤ℚ zero_q))

abbrev pub NoGate : ℚ → ℚ → ℚ → Type 0
NoGate rate cycle slot = OneNegative rate slot ⊎ NoSlot cycle slot

abbrev pub PairFinds : NumberPair → ℚ → ℚ → Found → Type 0
PairFinds Bucket burst rate r = BucketFinds (OneNegative burst rate) (bucket burst rate) r
PairFinds Latency rate latency r = KindFinds (OneNegative rate latency) (rate_latency rate latency) r

abbrev pub TripleFinds : NumberTriple → ℚ → ℚ → ℚ → Found → Type 0
TripleFinds Stair packet period jitter r = KindFinds (NoStair packet period jitter) (stair packet period jitter) r
TripleFinds Gate rate cycle slot r = KindFinds (NoGate rate cycle slot) (gate rate cycle slot) r

-- ---- operators on one curve
-- what the closure of f finds, by the first operator of its fold that is over a limit; where memory is wanting, by which
-- of them was counted last, or after all
abbrev pub CloseFinds : SpecCurve → Found → (old new : ℕ) → Type 0
CloseFinds f (Ok h) old new = CloseAnswer f (Ok h) × IsCurve h
    × FromZero (λ t. IsSubadditiveClosure (value_at f) t (value_at h t)) × (new ≡ old + fold_work f)
CloseFinds f (Err TooMany) old new = CloseAnswer f (Err call_faults.TooMany) × (new ≤ old + fold_work f)
CloseFinds f (Err TooWide) old new = CloseAnswer f (Err call_faults.TooWide) × (new ≤ old + fold_work f)
CloseFinds f (Err NoMemory) old new =
    ((old ≤ new) × CloseWants f (new - old)) ⊎ ((h : SpecCurve) × CloseAnswer f (Ok h) × (new ≡ old + fold_work f))
CloseFinds f (Err k) old new = ⊥

abbrev pub OneFinds : CurveOperator → SpecCurve → Found → (old new : ℕ) → Type 0
OneFinds Close f r old new = CloseFinds f r old new
OneFinds RunSup f r old new = Once (CurveFinds calls.RunSup f f) r old new
OneFinds RunInf f r old new = Once (CurveFinds calls.RunInf f f) r old new

-- ---- conditions
-- of an operator on two curves: the first of a positive difference is finite, and the second of a deconvolution
abbrev pub MayCall : PairOperator → SpecCurve → SpecCurve → Type 0
MayCall Sum f g = Unit {0}
MayCall Min f g = Unit {0}
MayCall Max f g = Unit {0}
MayCall Conv f g = Unit {0}
MayCall PosDiff f g = IsFinite (value_at f)
MayCall Deconv f g = IsFinite (value_at g)

-- and of one on a curve and a number
abbrev pub MayCallWith : NumberOperator → SpecCurve → ℚ → Type 0
MayCallWith PosMinus f l = IsFinite (value_at f) × (zero_q ≤ℚ l)
MayCallWith Scale f q = IsFinite (value_at f) × (zero_q ≤ℚ q)
MayCallWith Shift f d = zero_q ≤ℚ d

-- and of the delay of f at a service g
pub record MayWait (f g : SpecCurve) : Type 0 where
  pub finite : IsFinite (value_at g)
  pub first : IsRising (value_at f)
  pub second : IsRising (value_at g)

-- ---- the value at a time
-- the gauge of a curve up to a time: its own, but for the end of its window and for the time, which counts as one of
-- its times
abbrev pub value_end : SpecCurve → ℚ → ℚ
value_end f t = max_q t (own_end f)

abbrev pub value_gauge : SpecCurve → ℚ → ℕ
value_gauge f t = gauge_of (sizes_of (value_end f t) (joined (time_alone t) (curve_numbers (value_end f t) f)))

abbrev pub ValueFinds : SpecCurve → ℚ → Result Ext LangKind → Type 0
ValueFinds f t (Ok v) = (value_gauge f t < 2 ^ 120) × (v ≡ value_at f t)
ValueFinds f t (Err TooWide) = 2 ^ 120 ≤ value_gauge f t
ValueFinds f t (Err k) = ⊥
