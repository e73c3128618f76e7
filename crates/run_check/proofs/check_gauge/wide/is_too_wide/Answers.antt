use Rattle.std.proofs.Common.{◌≡◌, ◌<◌, ◌≤◌, ◌^◌, sym, ap, ◌∙◌, subst, arith, to_z}
use mir.Syntax.{w128}
use Rattle.std.proofs.lemmas.Int.{ints}
use Rattle.std.specs.Prelude.{IsTrue, IfSome, pos, ◌↔◌}
use Rattle.rational.specs.Rational.{int, ◌+ℚ◌}
use Rattle.rational.specs.Ratio.{SumFits}
use Rattle.rational.proofs.Gauges.{kept_one}
use Rattle.upp_limits.specs.Limits.{joined, time_alone, value_alone, sizes_of}
use Rattle.upp_limits.specs.Gathered.{Gathers}
use Rattle.run_laws.specs.Runs.{SpecRun}
use Rattle.sim_bounds.specs.window_numbers.Rated.{gauge_with}
use Rattle.sim_bounds.proofs.window_numbers.Missing.{told_wide}
use Rattle.run_check.specs.check_gauge.Runs.{last_time, total_bits}
use Rattle.run_check.specs.check_gauge.Gauge.{farthest, check_numbers, check_gauge}
use Rattle.run_check.proofs.check_gauge.Held.{all_numbers, gauge_is, fits}
use Rattle.run_check.proofs.check_gauge.Fitting.{far_fits}
use Rattle.run_check.proofs.check_gauge.Assembled.{time_first}
use Rattle.run_check.proofs.check_gauge.wide.is_too_wide.Goals as goal

pub returns-in-None : goal.returns-in-None
returns-in-None c =
    let net = c.args.net.now in
    let run = c.args.run.now in
    let fit : check_gauge net run < 2 ^ 120 → SumFits c.last_time-end.result c.largest_link.result = λ small.
    subst (λ t. SumFits t c.largest_link.result) (sym c.last_time-end.ensures)
    (subst (λ t. SumFits (last_time run) t) (sym c.largest_link.ensures) (far_fits net run (fits net run small))) in
    told_wide c.plus.result (check_gauge net run) c.in-None.is (λ small. c.plus.ensures.fits (fit small))

pub returns-in-Some-numbers_to : goal.returns-in-Some-numbers_to
returns-in-Some-numbers_to c =
    let net = c.args.net.now in
    let run = c.args.run.now in
    let numbers = check_numbers net run in
    let value = value_alone (int (pos (total_bits run.steps))) in
    let steps : c.deref.result.now ≡ run.steps = c.deref.ensures.value ∙ ap (λ (r : SpecRun). r.steps) c.run.view_is in
    let own : to_z w128 c.total_bits.result ≡ pos c.total_bits.result = omega (arith, ints) in
    let bits : c.from_whole-bits.result ≡ int (pos (total_bits run.steps)) = c.from_whole-bits.ensures ∙ ap int own ∙ ap (λ n. int (pos n)) (c.total_bits.ensures ∙ ap total_bits steps) in
    let t = c.in-Some.far in
    let far : t ≡ farthest net run =
    subst (λ o. IfSome o (λ x. x ≡ c.last_time-end.result +ℚ c.largest_link.result)) c.in-Some.is c.plus.ensures.value
    ∙ ap (λ x. x +ℚ c.largest_link.result) c.last_time-end.ensures ∙ ap (λ x. last_time run +ℚ x) c.largest_link.ensures in
    let all = all_numbers net run in
    let valued : Gathers c.with_value.result all =
    subst (λ x. Gathers c.with_value.result (joined numbers (value_alone x))) bits (c.with_value.ensures numbers c.in-Some-numbers_to.ensures.found) in
    let found : Gathers c.with_time.result (joined (time_alone t) all) = time_first c.with_time.result all t (c.with_time.ensures all valued) in
    let is = ap (λ x. gauge_with 1 (sizes_of x all)) far ∙ gauge_is net run in
    subst (λ g. IsTrue c.is_over.result ↔ (2 ^ 120 ≤ g)) is (c.is_over.ensures all 1 found kept_one)
