use Rattle.std.proofs.Common.{◌≡◌, length, sym, ap, ◌∙◌, subst, true≢false}
use Rattle.std.specs.List.{AllByRecursion}
use Rattle.rational.specs.Ratio.{IsSmall}
use Rattle.upp_limits.proofs.SpanNumbers.{if_some_map}
use Rattle.fraction128.specs.wide_sums.Sums.{IsFromZero, sum_of_products}
use Rattle.net_model.specs.stated_runs.FromTraces.{setup_of}
use Rattle.sim_bounds.specs.Horizons.{sum_below}
use Rattle.sim_bounds.specs.Way.{gated}
use Rattle.sim_bounds.proofs.sim_gauge.SpanSteps.{last_step, gated_small, horizon_is}
use Rattle.sim_bounds.proofs.sim_gauge.horizons.horizon.Goals as goal

pub sum_of_products-requires : goal.sum_of_products-requires
sum_of_products-requires c = record {
  from_zero = subst (λ ps. AllByRecursion IsFromZero ps) (sym c.deref.ensures.0) c.in_ok-products.ensures.from_zero;
  few = c.deref.ensures.1;
}

pub returns-in_err-plain-clause-fits : goal.returns-in_err-plain-clause-fits
returns-in_err-plain-clause-fits c = λ d e f. absurd (true≢false (sym (c.in_err-plain.ensures.fits d e f)))

pub returns-in_err-products-clause-fits : goal.returns-in_err-products-clause-fits
returns-in_err-products-clause-fits c = λ d e f. absurd (true≢false (sym (c.in_err-products.ensures.fits d e f)))

pub returns-in_err-gated-clause-fits : goal.returns-in_err-gated-clause-fits
returns-in_err-gated-clause-fits c = λ d e f.
    let is = ap sum_of_products c.deref.ensures.0 ∙ c.in_ok-products.ensures.value in
    absurd (c.in_err-gated.ensures (subst (λ t. IsSmall t) (sym is) (gated_small c.args.net.now c.args.trace.now d e f)))

pub returns-clause-value : goal.returns-clause-value
returns-clause-value c =
    let net = c.args.net.now in
    let trace = c.args.trace.now in
    let is : c.in_ok-gated.gated ≡ sum_below (gated (setup_of net trace)) (length net.servers) =
    c.in_ok-gated.ensures ∙ ap sum_of_products c.deref.ensures.0 ∙ c.in_ok-products.ensures.value in
    if_some_map c.plus.result _ _ (λ t e. e ∙ horizon_is net trace c.in_ok-plain.plain c.in_ok-gated.gated c.in_ok-plain.ensures.value is) c.plus.ensures.value

pub returns-clause-fits : goal.returns-clause-fits
returns-clause-fits c = λ d e f.
    let net = c.args.net.now in
    let trace = c.args.trace.now in
    let is : c.in_ok-gated.gated ≡ sum_below (gated (setup_of net trace)) (length net.servers) =
    c.in_ok-gated.ensures ∙ ap sum_of_products c.deref.ensures.0 ∙ c.in_ok-products.ensures.value in
    c.plus.ensures.fits (last_step net trace d e c.in_ok-plain.plain c.in_ok-gated.gated f c.in_ok-plain.ensures.value is)
