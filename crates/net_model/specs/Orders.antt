-- The order in which the servers of a network are taken: at each turn the least of those that wait for none. (Own
-- choice.)
use Rattle.std.specs.Prelude.{◌≡◌, ℕ, ◌<◌, List, length, take, slice_index, Contains}
use Rattle.upp_limits.specs.Windows.{IsLeast}
use Rattle.net_model.specs.Networks.{Net}
use Rattle.net_model.specs.Walks.{IsNext}

-- a server that has no place yet, while each server that some flow passes right before it has one
pub record IsReady (net : Net) (placed : List ℕ) (server : ℕ) : Type 0 where
  pub in_range : server < length net.servers
  pub free : ¬ (Contains placed server)
  pub waits_for_none : (before : ℕ) → IsNext net before server → Contains placed before

-- all servers; at each place the least that is ready after those before it
pub record IsOrder (net : Net) (order : List ℕ) : Type 0 where
  pub all : length order ≡ length net.servers
  pub each : (place : ℕ) → place < length order → IsLeast (IsReady net (take place order)) (slice_index order place)
