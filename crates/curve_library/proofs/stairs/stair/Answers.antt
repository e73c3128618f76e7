use Rattle.std.specs.Prelude.{◌≡◌, pos}
use Rattle.rational.specs.Rational.{ℚ, int, ◌≤ℚ◌, ◌<ℚ◌}
use Rattle.rational.proofs.Laws.{le_of_not_lt, lt_of_not_le}
use Rattle.rational.proofs.Integers.{nat_nonneg}
use Rattle.upp_curve.specs.Curve.{value_at}
use Rattle.min_plus.specs.Functions.{zero_q}
use Rattle.upp_curve.specs.Kinds.{stair}
use Rattle.min_plus.specs.Formulas.{stair_value}
use Rattle.upp_curve.proofs.StairValues.{stair_is}
use Rattle.curve_library.proofs.Answering.{first_of, made_of, never_many}
use Rattle.curve_library.proofs.StairParts.{stair_few}
use Rattle.curve_library.proofs.stairs.stair.Goals as goal

pub returns-clause-first : goal.returns-clause-first
returns-clause-first c =
    let J = c.args.jitter in
    let P = c.args.period in
    first_of (J <ℚ zero_q) (P ≤ℚ zero_q) (stair (int (pos c.args.packet)) P J) c.tested_stair.result c.tested_stair.ensures

pub returns-clause-value : goal.returns-clause-value
returns-clause-value c =
    let l = int (pos c.args.packet) in
    let J = c.args.jitter in
    let P = c.args.period in
    made_of (J <ℚ zero_q) (P ≤ℚ zero_q) (stair l P J) c.tested_stair.result (λ k. (t : ℚ) → zero_q ≤ℚ t → value_at k t ≡ stair_value l P J t) c.tested_stair.ensures
    (λ p t h. stair_is l P J t (nat_nonneg c.args.packet) (lt_of_not_le p.period) (le_of_not_lt p.nonneg) h)

pub returns-clause-few : goal.returns-clause-few
returns-clause-few c =
    let l = int (pos c.args.packet) in
    let J = c.args.jitter in
    let P = c.args.period in
    never_many (J <ℚ zero_q) (P ≤ℚ zero_q) (stair l P J) c.tested_stair.result c.tested_stair.ensures
    (λ p. stair_few c.args.packet P J (lt_of_not_le p.period) (le_of_not_lt p.nonneg))
