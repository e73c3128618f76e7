-- A running supremum has an answer.
use Rattle.std.specs.Prelude.{ℕ, ◌<◌, ◌^◌}
use Rattle.std.proofs.Common.{refl, inl, inr}
use Rattle.std.proofs.lemmas.Bool.{cases_lt}
use Rattle.rational.specs.Rational.{ℚ, ◌+ℚ◌, ◌-ℚ◌, ◌<ℚ◌}
use Rattle.rational.proofs.Laws.{le_or_lt, le_refl, le_of_lt}
use Rattle.min_plus.specs.Functions.{zero_q, IsFinite, IsNonnegative}
use Rattle.upp_curve.specs.Curve.{SpecCurve, value_at}
use Rattle.upp_curve.specs.Curves.{IsCurve}
use Rattle.upp_curve.specs.Steady.{steady, rise_over}
use Rattle.upp_curve.specs.Unrolled.{unroll}
use Rattle.upp_limits.specs.declared.op_kind.OpKind.TheVariants.{RunSup}
use Rattle.upp_limits.specs.Gauges.{gauge_at}
use Rattle.upp_limits.specs.Periods.{own_period}
use Rattle.upp_limits.specs.Windows.{window_at}
use Rattle.curve_call.specs.declared.frame.Frame.{Frame}
use Rattle.curve_call.specs.declared.windows.CallWindow.{CallWindow}
use Rattle.curve_call.specs.Answers.{IsMadeBy}
use Rattle.curve_call.specs.Frames.{IsFrame, sizes_at}
use Rattle.curve_call.proofs.FirstGate.{first_gate}
use Rattle.curve_call.proofs.Limited.{run_sup_least}
use Rattle.existence.specs.curves.Answered.{HasAnswer}
use Rattle.existence.proofs.curves.Answered.{at_least, too_wide}
use Rattle.existence.proofs.curves.Windows.{answer_curve}
use Rattle.plain_operators.specs.running.Periods.{IsSupremumCall}
use Rattle.plain_operators.specs.running.Runs.{IsNumberOf}
use Rattle.plain_operators.proofs.running.Covers.{later_end}
use Rattle.existence.proofs.curves.Scans.{scan, between, cover}
use Rattle.plain_operators.proofs.running.RunFacts.{sup_facts, window_facts, run_window, run_fits, run_call}
use Rattle.plain_operators.proofs.running.SupremumCalls.{FoundNumber, first_period, found_number, flat_number, early_number}
use Rattle.plain_operators.proofs.running.SupremumRuns.{sup_answer, sup_value}
use Rattle.curve_call.specs.Calls.{Applies}

-- ---- the number of periods
covered : (f : SpecCurve) (start period rise : ℚ) → IsSupremumCall f start period rise → zero_q <ℚ rise → zero_q <ℚ start → (k : ℕ) × FoundNumber f start period rise k
covered f start period rise C rises first =
    let ps = f.pieces in
    let P = first_period f start period rise ps C refl rises first in
    let reach = start +ℚ period in
    let after = later_end start period P.some in
    let (early, before) = between ps reach zero_q start P.window P.fits (le_refl zero_q) P.first (le_of_lt after) P.nonneg in
    let (once, within) = between ps reach start reach P.window P.fits (le_of_lt P.first) after (le_refl reach) P.nonneg in
    let (k, enough) = cover early once rise rises in
    (k, found_number f start period rise ps k C refl rises record { early = early; once = once; before = before; within = within; cover = enough })

number : (f : SpecCurve) (start period rise : ℚ) → IsSupremumCall f start period rise → (k : ℕ) × FoundNumber f start period rise k
number f start period rise C = elim (le_or_lt rise zero_q) [
  | inl level ↦ (0, flat_number f start period rise C level)
  | inr rises ↦ elim (le_or_lt start zero_q) [
    | inl early ↦ (0, early_number f start period rise C early)
    | inr first ↦ covered f start period rise C rises first
  ]
]

number_of : (f : SpecCurve) → IsCurve f → IsFinite (value_at f) → IsNonnegative (value_at f) → gauge_at RunSup f f 0 0 < 2 ^ 120 → (k : ℕ) × IsNumberOf f k
number_of f F finite nonneg small =
    let w : CallWindow = record { start = steady f; period = own_period f; end = window_at RunSup f f 0 0 } in
    let facts = window_facts f w F record { start = refl; period = refl; end = refl } small in
    let rise = rise_over f w.period in
    let (k, N) = number f w.start w.period rise (run_call f w.start w.period rise w.end (sizes_at RunSup f f 0 0) facts finite nonneg refl) in
    (k, record { least = N.least; covered = N.covered })

-- ---- within both limits
made : (f : SpecCurve) (k : ℕ) → IsFinite (value_at f) → IsNonnegative (value_at f) → IsNumberOf f k → (r : Frame) → IsFrame RunSup f f k 0 r → (h : SpecCurve) × IsMadeBy RunSup f f h
made f k finite nonneg N r R =
    let z = sizes_at RunSup f f k 0 in
    let facts = sup_facts f k r R in
    let ps = unroll f r.end in
    let (qs, S) = scan ps r.end (run_window f r.start r.period r.end z facts finite) (run_fits f r.start r.period r.end z facts) in
    let from = r.end -ℚ r.period in
    let rise = rise_over f r.period in
    let (c, curve, same) = answer_curve qs from r.period rise r.times r.values (sup_answer f k r from rise ps qs R refl refl refl S) in
    (c, record { curve = curve; answers = sup_value f k r from rise ps qs c finite nonneg N R refl refl refl S same })

pub supremum_answered : (f : SpecCurve) → IsCurve f → IsFinite (value_at f) → IsNonnegative (value_at f) → HasAnswer (Applies RunSup f f)
supremum_answered f F finite nonneg = elim (cases_lt (gauge_at RunSup f f 0 0) (2 ^ 120)) [
  | inr wide ↦ too_wide RunSup f f (first_gate RunSup f f F F tt (λ h. h) wide)
  | inl small ↦
      let (k, N) = number_of f F finite nonneg small in
      at_least RunSup f f k 0 F tt (λ h. h) (run_sup_least f f k N.least) (made f k finite nonneg N)
]
