-- Runs of the network that is written are runs of the one on the grid.
use Rattle.std.specs.Prelude.{◌≡◌, ℕ, zero, suc, ◌+◌, ◌*◌, ◌/◌, ◌%◌, ◌<◌, ◌≤◌, true, nat_le, List, Option, Some, None, length, get_or, slice_get, map, option_map}
use Rattle.std.proofs.Common.{arith, refl, sym, ap, subst}
use Rattle.std.proofs.lemmas.Bool.{leb-true}
use Rattle.std.proofs.lemmas.List.{length-map}
use Rattle.std.proofs.lemmas.List.Elements.{All-get_or}
use Rattle.std.proofs.lemmas.Option.{slice_get-get_or}
use Rattle.std.proofs.lemmas.Nat.{div-add-mod', mod_below}
use Rattle.std.proofs.Math.Nat.{mul-le-mul_left}
use Rattle.rational.specs.Rational.{ℚ, ◌*ℚ◌, ◌≤ℚ◌}
use Rattle.rational.specs.Extended.{◌≤ₑ◌}
use Rattle.rational.proofs.ExtendedOrder.{le_inf}
use Rattle.rational.proofs.Integers.{nat_nonneg}
use Rattle.min_plus.specs.Formulas.{stair_value}
use Rattle.run_laws.proofs.Weaker.{weaker_premises_kept}
use Rattle.run_laws.specs.Cards.{whole}
use Rattle.run_laws.specs.Runs.{SpecRun}
use Rattle.run_laws.specs.Weaker.{IsNowhereAbove}
use Rattle.arrival_lines.specs.Grid.{speed, micros}
use Rattle.arrival_lines.proofs.Units.{micros_some, speed_nonneg, micros_nonneg}
use Rattle.net_laws.specs.Multicast.{IsLawfulBy}
use Rattle.tree_runs.specs.Trees.{flat, flat_tree, next_servers, IsLawfulTree, KeepsTreePremises}
use Rattle.table_cells.specs.declared.amount.Amount.{Amount}
use Rattle.table_cells.specs.Amounts.{rounded_down, rounded_up}
use Rattle.tree_network.specs.Networks.{no_port, port_at}
use Rattle.tree_network.specs.declared.network.Gate.{Gate}
use Rattle.tree_network.specs.declared.network.Port.{Port}
use Rattle.tree_network.specs.declared.network.Link.{Link}
use Rattle.tree_network.specs.declared.network.Network.{Network}
use Rattle.port_bounds.specs.Ports.{server_of, curve_behind, service_curve}
use Rattle.document_rows.specs.declared.disciplines.GateRow.{GateRow}
use Rattle.document_rows.specs.PortRows.{PortText}
use Rattle.document_tables.specs.declared.links.LinkKeys.{LinkKeys}
use Rattle.document_tables.specs.Grids.{PortOnGrid, gate_on_grid, grid_port, megabit, microsecond, port_on_grid}
use Rattle.document_tables.specs.Ranges.{IsGateOrNone, IsPortText}
use Rattle.document_tables.proofs.NetworkFacts.{same_at, same_length}
use Rattle.tree_bounds.specs.guarantee.Guarantee.{frame_of, stair_in, stair_of}
use Rattle.tree_bounds.specs.guarantee.Routes.{routes_of, tree_of_link}
use Rattle.rounded_runs.specs.Laws.{WrittenRunsAreRuns}
use Rattle.rounded_runs.specs.Written.{exact, curve_written, service_written, stair_written, no_text, text_at, keys_at, IsRoundedLink, IsRounded, server_written, time_written, routes_written}
use Rattle.rounded_runs.proofs.Curves.{stair_above, latency_below, gate_below}
use Rattle.rounded_runs.proofs.Faster.{faster_is_lawful}
use Rattle.rounded_runs.proofs.Ports.{ports_as_fast, links_as_long}
use Rattle.rounded_runs.proofs.Units.{micros_up, micros_down, gap_down, speed_down, exact_on, exact_some, exact_le}

-- ---- links
reached : {a b : ℕ} → nat_le a b ≡ true → a ≤ b
reached {a} {b} h = leb-true a b h

-- a gap of a picosecond or more
some_part : (n b : ℕ) → 0 < b → b ≤ n → 0 < n / b
some_part n b some h = by (n / b) refl
  where
    by : (q : ℕ) → n / b ≡ q → 0 < q
    by zero e =
        let d = div-add-mod' n b in
        let r = mod_below n b some in
        let z = ap (λ q. q * b + n % b) e in
        absurd (omega (arith, d, r, z, h))
    by (suc q) e = omega arith

link_above : (overhead : ℕ) (keys : LinkKeys) (link : Link) → IsRoundedLink overhead keys link
    → IsNowhereAbove (stair_written overhead keys) (stair_in (Some link))
link_above overhead keys link r t start =
    let bottom = r.range.gap.amount.some in
    let gap : 0 < link.gap = rw r.gap (some_part (keys.gap.top * 1000000000) keys.gap.bottom bottom (reached r.range.gap.not_under)) in
    let less : micros link.gap ≤ℚ whole 1000 *ℚ exact keys.gap = rw r.gap (gap_down keys.gap bottom) in
    let more : exact keys.jitter ≤ℚ micros link.jitter = rw r.jitter (micros_up keys.jitter r.range.jitter.amount.some) in
    let P : ℕ → Type 0 = λ n. stair_value (whole n) (whole 1000 *ℚ exact keys.gap) (exact keys.jitter) t
    ≤ₑ stair_value (whole link.frame) (micros link.gap) (micros link.jitter) t in
    subst P r.frame
    (stair_above (whole link.frame) (whole 1000 *ℚ exact keys.gap) (micros link.gap) (exact keys.jitter) (micros link.jitter) t
    (nat_nonneg link.frame) (micros_some link.gap gap) less (exact_on keys.jitter) more start)

-- ---- ports
-- a cycle that has some slot in it is some time
some_cycle : (slot cycle : Amount) → 0 < cycle.bottom → 0 < slot.bottom → slot.bottom ≤ slot.top * 1000000
    → slot.top * cycle.bottom ≤ cycle.top * slot.bottom → 0 < cycle.top
some_cycle slot cycle some other reaches inside = by cycle.top refl
  where
    by : (top : ℕ) → cycle.top ≡ top → 0 < top
    by zero e =
        let one = mul-le-mul_left slot.top some in
        let none = ap (λ top. top * slot.bottom) e in
        absurd (omega (arith, one, none, inside, reaches, other))
    by (suc top) e = omega arith

service_below : (port : Port) (text : PortText) (gate : Option Gate) (row : Option GateRow) → gate ≡ option_map gate_on_grid row
    → IsGateOrNone row → speed port.rate ≤ℚ exact text.rate → exact text.latency ≤ℚ micros port.latency
    → IsNowhereAbove (curve_behind gate port) (curve_written row text)
service_below port text None None e range slower later t start =
    latency_below (exact text.rate) (speed port.rate) (exact text.latency) (micros port.latency) t (speed_nonneg port.rate) slower later
service_below port text (Some g) None e range slower later t start = absurd (cc)
service_below port text None (Some row) e range slower later t start = absurd (cc)
service_below port text (Some g) (Some row) e range slower later t start =
    let is : g ≡ gate_on_grid row = cc in
    let inside = reached range.within in
    let cycle = range.cycle.amount.some in
    let slot = range.slot.amount.some in
    let some = some_cycle row.slot row.cycle cycle slot (reached range.some) inside in
    let P : Gate → Type 0 = λ o. curve_behind (Some o) port t ≤ₑ curve_written (Some row) text t in
    subst P (sym is)
    (gate_below (exact text.rate) (speed port.rate) (exact row.cycle) (exact row.slot) (micros (rounded_up 1000000 row.cycle))
    (micros (rounded_down 1000000 row.slot)) (exact text.latency) (micros port.latency) t (speed_nonneg port.rate) slower
    (exact_some row.cycle some) (micros_up row.cycle cycle) (micros_nonneg (rounded_down 1000000 row.slot)) (micros_down row.slot slot)
    (exact_le row.slot row.cycle slot cycle inside) later start)

port_below : (port : Port) (text : PortText) → grid_port port ≡ port_on_grid text → IsPortText text
    → IsNowhereAbove (service_curve port) (service_written text)
port_below port text is range =
    let same_rate : rounded_down megabit text.rate ≡ port.rate = sym (ap (λ (p : PortOnGrid). p.rate) is) in
    let rate = subst (λ (n : ℕ). speed n ≤ℚ exact text.rate) same_rate (speed_down text.rate range.rate.amount.some) in
    let same_latency : rounded_up microsecond text.latency ≡ port.latency = sym (ap (λ (p : PortOnGrid). p.latency) is) in
    let latency = subst (λ (n : ℕ). exact text.latency ≤ℚ micros n) same_latency
    (micros_up text.latency range.latency.amount.some) in
    service_below port text port.gate text.gate (ap (λ (p : PortOnGrid). p.gate) is) range.gate rate latency

-- ---- runs
module _ (overhead : ℕ) (texts : List PortText) (keys : List LinkKeys) (net : Network) (r : IsRounded overhead texts keys net) where
  all_ports : (s : ℕ) → s < length net.ports.items → s < length texts
  all_ports s h = let n = same_length grid_port port_on_grid net.ports.items texts r.ports in omega (arith, h, n)

  port_is : (s : ℕ) → s < length net.ports.items → grid_port (port_at net s) ≡ port_on_grid (text_at texts s)
  port_is s h =
      same_at grid_port port_on_grid net.ports.items texts r.ports s no_port (get_or texts s no_text)
      (slice_get-get_or texts s no_text (all_ports s h))

  above : (flow : ℕ) → IsNowhereAbove (stair_written overhead (keys_at keys flow)) (stair_of net flow)
  above flow t start = by (slice_get net.links.items flow) refl
    where
      by : (o : Option Link) → slice_get net.links.items flow ≡ o → stair_written overhead (keys_at keys flow) t ≤ₑ stair_in o t
      by None e = le_inf (stair_written overhead (keys_at keys flow) t)
      by (Some link) e = link_above overhead (keys_at keys flow) link (r.links flow link e) t start

  below : (s : ℕ) → s < length net.ports.items → IsNowhereAbove (service_curve (port_at net s)) (service_written (text_at texts s))
  below s h =
      port_below (port_at net s) (text_at texts s) (port_is s h)
      (All-get_or IsPortText texts s no_text (all_ports s h) r.ranges)

  -- over ports that are as fast and links that are as long it is the same run
  lawful_on_grid : (run : SpecRun) → IsLawfulTree (routes_written texts net) run → IsLawfulTree (routes_of net) run
  lawful_on_grid run h =
      subst (λ (links : List ℚ). IsLawfulBy (record {
        servers = map server_of net.ports.items;
        links = links;
        flows = map flat_tree (map tree_of_link net.links.items);
      }) (next_servers (routes_of net)) run) (links_as_long net.ports.items texts r.ports r.ranges)
      (faster_is_lawful (map flat_tree (map tree_of_link net.links.items)) (map time_written texts) (map server_written texts)
      (map server_of net.ports.items) (next_servers (routes_of net)) (ports_as_fast net.ports.items texts r.ports r.ranges) run h)

  premises_on_grid : (run : SpecRun)
      → KeepsTreePremises (routes_written texts net) (frame_of net) (λ i. stair_written overhead (keys_at keys i))
      (λ s. service_written (text_at texts s)) run
      → KeepsTreePremises (routes_of net) (frame_of net) (λ i. stair_written overhead (keys_at keys i))
      (λ s. service_written (text_at texts s)) run
  premises_on_grid run h = record {
    sizes = h.sizes;
    arrivals = h.arrivals;
    service = λ s small.
        let n = length-map net.ports.items server_of in
        let m = length-map texts server_written in
        let few = all_ports s (omega (arith, small, n)) in
        h.service s (omega (arith, few, m));
  }

pub written_runs_are_runs : WrittenRunsAreRuns
written_runs_are_runs overhead texts keys net run r w = record {
  lawful = lawful_on_grid overhead texts keys net r run w.lawful;
  premises =
      weaker_premises_kept (flat (routes_of net)) run (frame_of net) (λ i. stair_written overhead (keys_at keys i)) (stair_of net)
      (λ s. service_written (text_at texts s)) (λ s. service_curve (port_at net s))
      (λ flow live. above overhead texts keys net r flow)
      (λ s small. let n = length-map net.ports.items server_of in below overhead texts keys net r s (omega (arith, small, n)))
      (premises_on_grid overhead texts keys net r run w.premises);
}
