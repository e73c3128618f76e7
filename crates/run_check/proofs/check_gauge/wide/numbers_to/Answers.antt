use Rattle.std.proofs.Common.{◌≡◌, map, sym, ap, ◌∙◌, subst, true≢false}
use Rattle.upp_limits.specs.Limits.{no_numbers, joined, time_alone}
use Rattle.upp_limits.specs.Gathered.{Gathers}
use Rattle.upp_limits.specs.Sized.{HeldBy}
use Rattle.upp_limits.proofs.SpanNumbers.{if_some_map}
use Rattle.run_laws.specs.Runs.{SpecRun}
use Rattle.net_model.specs.Networks.{NetServer}
use Rattle.sim_bounds.specs.Gauge.{numbers_of_curves, arrivals_of}
use Rattle.sim_bounds.proofs.window_numbers.NetCurves.{services}
use Rattle.run_check.specs.check_gauge.Named.{links_and_rates, steps_numbers}
use Rattle.run_check.specs.check_gauge.Paces.{PacesFit}
use Rattle.run_check.proofs.check_gauge.Held.{fits}
use Rattle.run_check.proofs.check_gauge.Fitting.{all_paces_fit, curves_held}
use Rattle.run_check.proofs.check_gauge.Assembled.{ends, own_numbers, all_gathered}
use Rattle.run_check.proofs.check_gauge.wide.numbers_to.Goals as goal

pub returns-in_err-stepped-clause-fits : goal.returns-in_err-stepped-clause-fits
returns-in_err-stepped-clause-fits c = λ small.
    let net = c.args.net.now in
    let run = c.args.run.now in
    let steps : c.deref.result.now ≡ run.steps = c.deref.ensures.value ∙ ap (λ (r : SpecRun). r.steps) c.run.view_is in
    let some = c.in_err-stepped.ensures.fits (subst PacesFit (sym steps) (all_paces_fit net run (fits net run small) c.requires.from_zero)) in
    absurd (true≢false (sym some))

pub returns-in_err-served-clause-fits : goal.returns-in_err-served-clause-fits
returns-in_err-served-clause-fits c = λ small.
    let net = c.args.net.now in
    let run = c.args.run.now in
    let end = c.args.end in
    let held = curves_held net run end c.requires.end (fits net run small) in
    let some = c.in_err-served.ensures.fits held.sizes
    (subst (λ xs. HeldBy held.sizes end (numbers_of_curves end (map (λ (s : NetServer). s.service) xs))) (sym c.servers-servers.ensures.servers) held.services) in
    absurd (true≢false (sym some))

pub returns-clause-fits : goal.returns-clause-fits
returns-clause-fits c = λ small.
    let net = c.args.net.now in
    let run = c.args.run.now in
    let end = c.args.end in
    let held = curves_held net run end c.requires.end (fits net run small) in
    c.with_arrivals.ensures.fits held.sizes
    (subst (λ xs. HeldBy held.sizes end (numbers_of_curves end (arrivals_of xs))) (sym c.flows.ensures.flows) held.arrivals)

pub returns-clause-found : goal.returns-clause-found
returns-clause-found c =
    let net = c.args.net.now in
    let run = c.args.run.now in
    let end = c.args.end in
    let n1 = joined no_numbers (time_alone end) in
    let n2 = ends end run.end in
    let n3 = joined n2 (links_and_rates net.servers) in
    let n4 = own_numbers net run end in
    let n5 = joined n4 (services net end) in
    let steps : c.deref.result.now ≡ run.steps = c.deref.ensures.value ∙ ap (λ (r : SpecRun). r.steps) c.run.view_is in
    let last : c.run.inside.end ≡ run.end = ap (λ (r : SpecRun). r.end) c.run.view_is in
    let g2 = subst (λ t. Gathers c.with_time-ends.result (joined n1 (time_alone t))) last (c.with_time-ends.ensures n1 (c.with_time.ensures no_numbers c.nothing.ensures)) in
    let g3 = subst (λ xs. Gathers c.with_links_and_rates-named.result (joined n2 (links_and_rates xs))) c.servers-servers.ensures.servers (c.with_links_and_rates-named.ensures n2 g2) in
    let g4 = subst (λ xs. Gathers c.in_ok-stepped.stepped (joined n3 (steps_numbers xs))) steps (c.in_ok-stepped.ensures.value n3 g3) in
    let g5 = subst (λ xs. Gathers c.in_ok-served.served (joined n4 (numbers_of_curves end (map (λ (s : NetServer). s.service) xs)))) c.servers-servers.ensures.servers (c.in_ok-served.ensures.value n4 g4) in
    if_some_map c.with_arrivals.result _ _
    (λ g h. all_gathered g net run end c.requires.end (subst (λ xs. Gathers g (joined n5 (numbers_of_curves end (arrivals_of xs)))) c.flows.ensures.flows (h n5 g5)))
    c.with_arrivals.ensures.value
