use Rattle.std.proofs.Common.{◌≡◌, ◌≤◌, ◌^◌, map, refl, sym, ap, ◌∙◌, subst, arith, to_z}
use mir.Syntax.{w128}
use Rattle.std.proofs.lemmas.Int.{ints}
use Rattle.std.specs.Prelude.{None, IsTrue, pos, sum_by, ◌↔◌}
use Rattle.std.specs.List.{AllByRecursion}
use Rattle.rational.specs.Rational.{ℚ, int, ◌<ℚ◌}
use Rattle.rational.specs.Gauge.{Kept}
use Rattle.upp_limits.specs.Limits.{joined, time_alone, value_alone, sizes_of}
use Rattle.upp_limits.specs.Gathered.{Gathers}
use Rattle.upp_limits.proofs.JoinedNumbers.{joined_assoc}
use Rattle.net_model.specs.declared.trace.TracePacket.{TracePacket}
use Rattle.net_model.specs.Networks.{NetServer}
use Rattle.net_model.specs.stated_runs.FromTraces.{setup_of}
use Rattle.sim_bounds.specs.Horizons.{horizon}
use Rattle.sim_bounds.specs.Gauge.{rates_of, common_num, simulation_numbers, simulation_gauge, grid_of, total_bits}
use Rattle.sim_bounds.proofs.WayFits.{horizon_fits}
use Rattle.sim_bounds.proofs.window_numbers.Missing.{told_wide}
use Rattle.sim_bounds.specs.window_numbers.Rated.{gauge_with}
use Rattle.sim_bounds.proofs.sim_gauge.Products.{gauge_is}
use Rattle.sim_bounds.proofs.sim_gauge.Rates.{server_rates}
use Rattle.sim_bounds.proofs.sim_gauge.wide.is_too_wide.Goals as goal

pub numerators-rates-requires : goal.numerators-rates-requires
numerators-rates-requires c =
    subst (λ xs. AllByRecursion (λ (s : NetServer). int (pos 0) <ℚ s.rate) xs) (sym c.servers.ensures.servers) (server_rates c.args.net.now c.servers.ensures.kept)

pub returns-in-None : goal.returns-in-None
returns-in-None c =
    let net = c.args.net.now in
    let trace = c.args.trace.now in
    told_wide {A = ℚ} None (simulation_gauge net trace) refl
    (λ small. c.in-None.ensures.fits (grid_of net trace) (horizon (setup_of net trace))
    (horizon_fits net trace c.servers.ensures.kept c.packets.ensures.kept c.requires.named c.requires.free small))

pub returns-in-Some-numbers_to : goal.returns-in-Some-numbers_to
returns-in-Some-numbers_to c =
    let net = c.args.net.now in
    let trace = c.args.trace.now in
    let numbers = simulation_numbers net trace in
    let value = value_alone (int (pos (total_bits trace))) in
    let own : to_z w128 c.bits_of.result ≡ pos c.bits_of.result = omega (arith, ints) in
    let bits : c.from_whole-bits.result ≡ int (pos (total_bits trace)) = c.from_whole-bits.ensures ∙ ap int own ∙ ap (λ n. int (pos n)) c.bits_of.ensures
    ∙ ap (λ ps. int (pos (sum_by (λ (p : TracePacket). p.bits) ps))) c.packets.ensures.packets in
    let all = joined numbers value in
    let r = common_num (rates_of net) in
    let t = c.in-Some.end in
    let end : t ≡ horizon (setup_of net trace) = c.in-Some.ensures.value in
    let found : Gathers c.with_value.result (joined (time_alone t) all) =
    subst (λ n. Gathers c.with_value.result n) (joined_assoc (time_alone t) numbers value)
    (subst (λ x. Gathers c.with_value.result (joined (joined (time_alone t) numbers) (value_alone x))) bits
    (c.with_value.ensures (joined (time_alone t) numbers) c.in-Some-numbers_to.ensures.found)) in
    let kept : Kept c.numerators-rates.result r = subst (λ xs. Kept c.numerators-rates.result (common_num (map (λ (s : NetServer). s.rate) xs))) c.servers.ensures.servers c.numerators-rates.ensures in
    let is = ap (λ x. gauge_with r (sizes_of x all)) end ∙ gauge_is net trace in
    subst (λ g. IsTrue c.is_over.result ↔ (2 ^ 120 ≤ g)) is (c.is_over.ensures all r found kept)
