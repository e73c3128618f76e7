use Rattle.std.proofs.Common.{map, sym, subst, true≢false}
use Rattle.upp_limits.specs.Limits.{no_numbers, joined, time_alone}
use Rattle.upp_limits.specs.Gathered.{Gathers}
use Rattle.upp_limits.specs.Sized.{HeldBy}
use Rattle.upp_limits.proofs.SpanNumbers.{if_some_map}
use Rattle.net_model.specs.Networks.{NetServer}
use Rattle.sim_bounds.specs.Gauge.{numbers_of_curves, arrivals_of}
use Rattle.sim_bounds.specs.sim_gauge.Named.{packet_numbers, stall_numbers, server_numbers}
use Rattle.sim_bounds.proofs.sim_gauge.Assembled.{all_gathered, curves_held}
use Rattle.sim_bounds.proofs.sim_gauge.wide.numbers_to.Goals as goal

pub returns-in_err-served-clause-fits : goal.returns-in_err-served-clause-fits
returns-in_err-served-clause-fits c = λ small.
    let end = c.args.end in
    let held = curves_held c.args.net.now c.args.trace.now end c.servers-servers.ensures.kept c.requires small in
    let some = c.in_err-served.ensures.fits held.sizes
    (subst (λ xs. HeldBy held.sizes end (numbers_of_curves end (map (λ (s : NetServer). s.service) xs))) (sym c.servers-servers.ensures.servers) held.services) in
    absurd (true≢false (sym some))

pub returns-clause-fits : goal.returns-clause-fits
returns-clause-fits c = λ small.
    let end = c.args.end in
    let held = curves_held c.args.net.now c.args.trace.now end c.servers-servers.ensures.kept c.requires small in
    c.with_arrivals.ensures.fits held.sizes
    (subst (λ xs. HeldBy held.sizes end (numbers_of_curves end (arrivals_of xs))) (sym c.flows.ensures.flows) held.arrivals)

pub returns-clause-found : goal.returns-clause-found
returns-clause-found c =
    let net = c.args.net.now in
    let trace = c.args.trace.now in
    let end = c.args.end in
    let n1 = time_alone end in
    let n2 = joined n1 (packet_numbers trace.packets) in
    let n3 = joined n2 (stall_numbers trace.stalls) in
    let n4 = joined n3 (server_numbers net.servers) in
    let n5 = joined n4 (numbers_of_curves end (map (λ (s : NetServer). s.service) net.servers)) in
    let g2 = subst (λ xs. Gathers c.with_packets-entered.result (joined n1 (packet_numbers xs))) c.packets-packets.ensures.packets
    (c.with_packets-entered.ensures n1 (c.with_time.ensures no_numbers c.nothing.ensures)) in
    let g3 = subst (λ xs. Gathers c.with_stalls-stalled.result (joined n2 (stall_numbers xs))) c.stalls.ensures.stalls (c.with_stalls-stalled.ensures n2 g2) in
    let g4 = subst (λ xs. Gathers c.with_servers-named.result (joined n3 (server_numbers xs))) c.servers-servers.ensures.servers (c.with_servers-named.ensures n3 g3) in
    let g5 = subst (λ xs. Gathers c.in_ok-served.served (joined n4 (numbers_of_curves end (map (λ (s : NetServer). s.service) xs)))) c.servers-servers.ensures.servers (c.in_ok-served.ensures.value n4 g4) in
    if_some_map c.with_arrivals.result _ _
    (λ g h. all_gathered g net trace end c.requires (subst (λ xs. Gathers g (joined n5 (numbers_of_curves end (arrivals_of xs)))) c.flows.ensures.flows (h n5 g5)))
    c.with_arrivals.ensures.value
