use Rattle.std.specs.Prelude.{◌≡◌}
use Rattle.std.proofs.Common.{inl, inr}
use Rattle.rational.specs.Rational.{ℚ, ◌≤ℚ◌}
use Rattle.rational.proofs.Laws.{le_of_not_lt}
use Rattle.upp_curve.specs.Curve.{value_at}
use Rattle.min_plus.specs.Functions.{zero_q}
use Rattle.upp_curve.specs.Kinds.{gate}
use Rattle.min_plus.specs.Formulas.{gate_value}
use Rattle.upp_curve.proofs.GateValues.{gate_is}
use Rattle.curve_library.specs.Causes.{OneNegative, NoSlot}
use Rattle.curve_library.proofs.Answering.{first_of, made_of, never_many}
use Rattle.curve_library.proofs.GateParts.{slots_of, gate_few}
use Rattle.curve_library.proofs.gates.gate.Goals as goal

pub returns-clause-first : goal.returns-clause-first
returns-clause-first c =
    let R = c.args.rate in
    let P = c.args.cycle in
    let s = c.args.slot in
    first_of (OneNegative R s) (NoSlot P s) (gate R P s) c.tested_gate.result c.tested_gate.ensures

pub returns-clause-value : goal.returns-clause-value
returns-clause-value c =
    let R = c.args.rate in
    let P = c.args.cycle in
    let s = c.args.slot in
    made_of (OneNegative R s) (NoSlot P s) (gate R P s) c.tested_gate.result (λ k. (t : ℚ) → zero_q ≤ℚ t → value_at k t ≡ gate_value R P s t) c.tested_gate.ensures
    (λ p t h.
    let fits = slots_of P s (le_of_not_lt (λ l. p.nonneg (inr l))) p.period in
    gate_is R P s t (le_of_not_lt (λ l. p.nonneg (inl l))) fits.some fits.fits h)

pub returns-clause-few : goal.returns-clause-few
returns-clause-few c =
    let R = c.args.rate in
    let P = c.args.cycle in
    let s = c.args.slot in
    never_many (OneNegative R s) (NoSlot P s) (gate R P s) c.tested_gate.result c.tested_gate.ensures
    (λ p.
    let fits = slots_of P s (le_of_not_lt (λ l. p.nonneg (inr l))) p.period in
    gate_few R P s (le_of_not_lt (λ l. p.nonneg (inl l))) fits.some fits.fits)
