-- A split of which the first side is before the slower curve repeats, moved by some periods of the faster curve's own.
use Rattle.std.specs.Prelude.{◌≡◌, ℕ, pos}
use Rattle.std.proofs.Common.{sym, ap, ◌∙◌, subst}
use Rattle.rational.specs.Rational.{ℚ, ◌*ℚ◌, ◌≤ℚ◌, ◌<ℚ◌, int}
use Rattle.rational.specs.Grid.{Whole}
use Rattle.rational.proofs.Laws.{le_of_lt}
use Rattle.rational.proofs.Grid.{whole_times}
use Rattle.upp_curve.specs.Curve.{SpecCurve, value_at}
use Rattle.upp_curve.specs.Steady.{Repeats, steady, rise_over}
use Rattle.upp_curve.proofs.Repeats.{repeats_times}
use Rattle.curve_call.specs.Bounds.{own_or}
use Rattle.curve_call.proofs.OwnPeriods.{own_period_is}
use Rattle.curve_call.proofs.MostAbove.{own_repeats}
use Rattle.curve_conv.specs.Late.{IsLateCall}
use Rattle.curve_conv.specs.Moves.{IsMove}
use Rattle.curve_conv.specs.Scans.{sizes_in}
use Rattle.curve_conv.proofs.BoundsFound.{fast_looked}

-- ---- n periods of the faster curve's own
pub is_move : (slow fast : SpecCurve) (from d end own time b rise : ℚ) (n : ℕ) → IsLateCall slow fast from d end → own ≡ own_or d fast → time ≡ int (pos n) *ℚ own → b ≡ rise_over fast own → rise ≡ int (pos n) *ℚ b
    → int (pos 0) <ℚ time → time ≤ℚ d → IsMove (sizes_in slow fast end) fast d record { time = time; rise = rise }
is_move slow fast from d end own time b rise n C eo et eb er some early =
    let z = sizes_in slow fast end in
    let L = fast_looked slow fast from d end C in
    let P = own_period_is z (steady fast) d fast L in
    let p = own_or d fast in
    let a = rise_over fast p in
    let st : time ≡ int (pos n) *ℚ p = et ∙ ap (λ x. int (pos n) *ℚ x) eo in
    let sr : rise ≡ int (pos n) *ℚ a = er ∙ ap (λ x. int (pos n) *ℚ x) (eb ∙ ap (rise_over fast) eo) in
    let R : Repeats (value_at fast) (steady fast) (int (pos n) *ℚ p) (int (pos n) *ℚ a) = repeats_times (value_at fast) (steady fast) p a n (le_of_lt P.some) (own_repeats z (steady fast) d fast L) in
    record {
      some = some;
      early = early;
      whole = subst (Whole z.dt) (sym st) (whole_times z.dt (pos n) p P.whole);
      repeats = subst (λ r. Repeats (value_at fast) (steady fast) time r) (sym sr) (subst (λ t. Repeats (value_at fast) (steady fast) t (int (pos n) *ℚ a)) (sym st) R);
    }
