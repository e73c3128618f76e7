-- In how many places a packet is: at servers, and on links.
use Rattle.std.specs.Prelude.{◌≡◌, ℕ, ◌+◌, ◌≤◌, ◌==◌, List, [], ◌∷◌, length, sum_by, if◌then◌else◌}
use Rattle.run_laws.specs.Cards.{Card}
use Rattle.run_laws.specs.Servers.{ServerState}
use Rattle.run_laws.specs.Lawful.{Due, RunState}

-- 1 where they are the same
abbrev pub one : ℕ → ℕ → ℕ
one a b = if a == b then 1 else 0

abbrev pub cards_of : ℕ → List Card → ℕ
cards_of p [] = 0
cards_of p (c ∷ cs) = one c.packet p + cards_of p cs

abbrev pub dues_of : ℕ → List Due → ℕ
dues_of p [] = 0
dues_of p (d ∷ ds) = one d.packet p + dues_of p ds

abbrev pub at_server : ℕ → ServerState → ℕ
at_server p σ = cards_of p σ.inside

abbrev pub places : RunState → ℕ → ℕ
places r p = sum_by (at_server p) r.servers + dues_of p r.due

-- in one at most, and in none before it has entered
pub record ArePlaced (r : RunState) : Type 0 where
  pub few : (p : ℕ) → places r p ≤ 1
  pub none : (p : ℕ) → length r.entered ≤ p → places r p ≡ 0
