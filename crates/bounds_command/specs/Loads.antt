-- The load of a queue: the rates of the links that pass it, together, over the rate of its port.
use Rattle.std.specs.Prelude.{◌≡◌, ◌<◌, ◌+◌, ◌*◌, ◌==◌, ℕ, List, [], length, set, get_or, sum_by, Option, Some, None, if◌then◌else◌}
use Rattle.std.specs.Int.{div_ceil}
use Rattle.tree_network.specs.Networks.{queues_of, no_port}
use Rattle.tree_network.specs.declared.network.Link.{Link}
use Rattle.tree_network.specs.declared.network.Port.{Port}
use Rattle.port_bounds.specs.Ports.{port_service}
use Rattle.tree_bounds.specs.guarantee.Loads.{brought_by}

-- the rates of these links there, as `rates_at` has those of all links of a network
abbrev pub rates_in : List Link → (s q : ℕ) → ℕ
rates_in links s q = sum_by (brought_by s q) links

-- one number for each queue of each of these ports: the rates of these links there
abbrev pub at : List (List ℕ) → (s q : ℕ) → ℕ
at rates s q = get_or (get_or rates s []) q 0

-- so much more at queue q of port s
abbrev pub with_more : List (List ℕ) → (s q rate : ℕ) → List (List ℕ)
with_more rates s q rate = set rates s (set (get_or rates s []) q (at rates s q + rate))

-- how many queues port s of these has
abbrev pub queues_in : List Port → ℕ → ℕ
queues_in ports s = queues_of (get_or ports s no_port).discipline

-- these are the rates of these links at each queue of these ports
pub record AreRates (ports : List Port) (links : List Link) (rates : List (List ℕ)) : Type 0 where
  pub ports_all : length rates ≡ length ports
  pub queues_all : (s : ℕ) → s < length ports → length (get_or rates s []) ≡ queues_in ports s
  pub each : (s q : ℕ) → s < length ports → q < queues_in ports s → at rates s q ≡ rates_in links s q

-- in thousandths, rounded up; none where a port's gate leaves nothing of its rate for them
abbrev pub load_at : ℕ → ℕ → Option ℕ
load_at rates rate =
    if rates == 0 then Some 0 else (if rate == 0 then None else Some (div_ceil (rates * 1000) rate))

-- over what the port's gate leaves of its rate
abbrev pub load_of : Port → ℕ → Option ℕ
load_of port rates = load_at rates (port_service port).rate
