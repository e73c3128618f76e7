-- Spans one after another, and how many bits they have up to a time. Own choice.
use Rattle.std.specs.Prelude.{◌≡◌, ℕ, ◌<◌, ◌≤◌, pos, true, false, ◌&&◌, List, [], ◌∷◌, length, get_or, map, if◌then◌else◌}
use Rattle.rational.specs.Rational.{ℚ, int, ◌+ℚ◌, ◌-ℚ◌, ◌*ℚ◌, ◌/ℚ◌, ◌≤ℚ◌, ◌<ℚ◌, neg_ℚ, lt_q, le_q}
use Rattle.rational.specs.Ratio.{IsSmall, SumFits}
use Rattle.run_laws.specs.Servers as servers
use Rattle.run_laws.specs.Counts.{when}
use Rattle.run_watch.specs.declared.span.Span.{Span}
use Rattle.run_watch.specs.declared.span.Ramp.{Ramp}

-- ---- spans
abbrev pub as_span : Span → servers.Span
as_span s = record { start = s.start; end = s.end; bits = s.bits }

-- their bits up to t
abbrev pub amount : List Span → ℚ → ℚ
amount [] t = int (pos 0)
amount (s ∷ ss) t = servers.clip (as_span s) t +ℚ amount ss t

-- bits a unit of time; 0 where they come at once
abbrev pub pace_in : Span → ℚ
pace_in s = if lt_q s.start s.end then s.bits /ℚ (s.end -ℚ s.start) else int (pos 0)

-- the pace just before t, and just after it
abbrev pub rate_before : List Span → ℚ → ℚ
rate_before [] t = int (pos 0)
rate_before (s ∷ ss) t = when (lt_q s.start t && le_q t s.end) (s.bits /ℚ (s.end -ℚ s.start)) +ℚ rate_before ss t

abbrev pub rate_after : List Span → ℚ → ℚ
rate_after [] t = int (pos 0)
rate_after (s ∷ ss) t = when (le_q s.start t && lt_q t s.end) (s.bits /ℚ (s.end -ℚ s.start)) +ℚ rate_after ss t

-- from `from` on, one after another
abbrev pub InOrder : ℚ → List Span → Type 0
InOrder from [] = Unit {0}
InOrder from (s ∷ ss) = (from ≤ℚ s.start) × (s.start ≤ℚ s.end) × InOrder s.end ss

-- and each takes some time
abbrev pub TakeTime : List Span → Type 0
TakeTime [] = Unit {0}
TakeTime (s ∷ ss) = (s.start <ℚ s.end) × TakeTime ss

-- ---- ramps
-- the ramps of spans after so many bits
abbrev pub ramps_after : ℚ → List Span → List Ramp
ramps_after done [] = []
ramps_after done (s ∷ ss) = record { span = s; before = done; after = done +ℚ s.bits; pace = pace_in s }
    ∷ ramps_after (done +ℚ s.bits) ss

pub record AreRamps (rs : List Ramp) : Type 0 where
  pub spans : List Span
  pub from : ℚ
  pub is : rs ≡ ramps_after (int (pos 0)) spans
  pub in_order : InOrder from spans

abbrev pub spans_of : List Ramp → List Span
spans_of rs = map (λ r. r.span) rs

-- the bits up to a time that is not after the ramp
abbrev pub part : Ramp → ℚ → ℚ
part r t = if lt_q r.span.start t then r.before +ℚ r.pace *ℚ (t -ℚ r.span.start) else r.before

-- the pace of a ramp just before a time that is not after its end, and just after one that is before its end
abbrev pub paced_before : Ramp → ℚ → ℚ
paced_before r t = if lt_q r.span.start t then r.pace else int (pos 0)

abbrev pub paced_after : Ramp → ℚ → ℚ
paced_after r t = if le_q r.span.start t then r.pace else int (pos 0)

-- the bits of all ramps
abbrev pub all_done : List Ramp → ℚ
all_done [] = int (pos 0)
all_done (r ∷ []) = r.after
all_done (r ∷ q ∷ rs) = all_done (q ∷ rs)

-- ---- the ramps that end before a time
-- each of the first k ends before t, or by t
abbrev pub EndBefore : ℚ → List Ramp → ℕ → Type 0
EndBefore t rs k = (i : ℕ) (d : Ramp) → 0 ≤ i → i < k → lt_q (get_or rs i d).span.end t ≡ true

abbrev pub EndBy : ℚ → List Ramp → ℕ → Type 0
EndBy t rs k = (i : ℕ) (d : Ramp) → 0 ≤ i → i < k → le_q (get_or rs i d).span.end t ≡ true

-- and none of the others does
pub record EndsBefore (t : ℚ) (rs : List Ramp) (k : ℕ) : Type 0 where
  pub few : k ≤ length rs
  pub before : EndBefore t rs k
  pub later : (i : ℕ) (d : Ramp) → k ≤ i → i < length rs → lt_q (get_or rs i d).span.end t ≡ false

pub record EndsBy (t : ℚ) (rs : List Ramp) (k : ℕ) : Type 0 where
  pub few : k ≤ length rs
  pub by : EndBy t rs k
  pub later : (i : ℕ) (d : Ramp) → k ≤ i → i < length rs → le_q (get_or rs i d).span.end t ≡ false

-- ---- sizes
-- the steps of making a ramp fit
pub record PaceFits (s : Span) : Type 0 where
  pub length : SumFits s.end (neg_ℚ s.start)
  pub pace : IsSmall (s.bits /ℚ (s.end -ℚ s.start))

pub record RampFits (done : ℚ) (s : Span) : Type 0 where
  pub sum : SumFits done s.bits
  pub pace : s.start <ℚ s.end → PaceFits s

abbrev pub RampsFit : ℚ → List Span → Type 0
RampsFit done [] = Unit {0}
RampsFit done (s ∷ ss) = RampFits done s × RampsFit (done +ℚ s.bits) ss

-- the steps of reading one at t fit
pub record PartFits (t : ℚ) (r : Ramp) : Type 0 where
  pub back : SumFits t (neg_ℚ r.span.start)
  pub product : IsSmall (r.pace *ℚ (t -ℚ r.span.start))
  pub sum : SumFits r.before (r.pace *ℚ (t -ℚ r.span.start))

abbrev pub ReadsRamp : ℚ → Ramp → Type 0
ReadsRamp t r = r.span.start <ℚ t → t ≤ℚ r.span.end → PartFits t r

abbrev pub EachRamp : (Ramp → Type 0) → List Ramp → Type 0
EachRamp P [] = Unit {0}
EachRamp P (r ∷ rs) = P r × EachRamp P rs
