-- The numbers on the way to the horizon. (Own choice.)
use Rattle.std.specs.Prelude.{Option, Some, None, ◌≡◌, ℕ, pos, ◌<◌, ◌≤◌, List, ◌++◌, length}
use Rattle.rational.specs.Rational.{ℚ, int, ◌+ℚ◌, ◌*ℚ◌, ◌/ℚ◌}
use Rattle.rational.specs.Ratio.{IsSmall}
use Rattle.run_laws.specs.Cards.{whole}
use Rattle.run_laws.specs.Routes.{link_at}
use Rattle.net_model.specs.stated_runs.Setups.{GateTimes, StallTimes, Setup, opening_of, rate_of}
use Rattle.net_model.specs.stated_runs.TimeGrids.{HasRoom, IsTime, AreStallTimes}
use Rattle.sim_bounds.specs.Horizons.{first_time, load, gate_ratio, stalled_for, sum_below}

-- ---- the two parts of a span
-- how long a server would work on all packets that pass it if it were always open
abbrev pub open_time : Setup → ℕ → ℚ
open_time S s = whole (load S s) /ℚ rate_of S s

-- how long a gate works on them, its closed times with it, but for one cycle; 0 where there is no gate. The slot is in the
-- denominator, so this may be on no grid that fits, where the sum over all gates is on that of the horizon
abbrev pub gated_time : Option GateTimes → ℚ → ℚ
gated_time None time = int (pos 0)
gated_time (Some g) time = (g.cycle /ℚ g.slot) *ℚ time

abbrev pub gated : Setup → ℕ → ℚ
gated S s = gated_time (opening_of S s).gate (open_time S s)

-- all else: the work of a server without a gate, or a gate's cycle; the stalls; the link
abbrev pub plain_time : Option GateTimes → ℚ → ℚ
plain_time None time = time
plain_time (Some g) time = g.cycle

abbrev pub plain_span : Setup → ℕ → ℚ
plain_span S s =
    plain_time (opening_of S s).gate (open_time S s) +ℚ stalled_for (opening_of S s).stalls +ℚ link_at S.net s

-- ---- each of them is a time of the grid up to the horizon e, but for a gate's cycle over its slot, whose parts have at
-- most 127 bits, and for how long one gate works, of which only the sum is such a time. So a sum of two of them has room
pub record HorizonFits (S : Setup) (d : ℕ) (e : ℚ) : Type 0 where
  pub room : HasRoom d e
  pub first : IsTime d e (first_time S)
  pub times : (s : ℕ) → s < length S.net.servers → IsTime d e (open_time S s)
  pub ratios : (s : ℕ) → s < length S.net.servers → IsSmall (gate_ratio (opening_of S s).gate)
  pub plain_times : (s : ℕ) → s < length S.net.servers → IsTime d e (plain_time (opening_of S s).gate (open_time S s))
  pub links : (s : ℕ) → s < length S.net.servers → IsTime d e (link_at S.net s)
  pub stall_times : (s : ℕ) → s < length S.net.servers → AreStallTimes d e (opening_of S s).stalls
  pub stalls : (s : ℕ) → s < length S.net.servers → (xs ys : List StallTimes) → (opening_of S s).stalls ≡ xs ++ ys
      → IsTime d e (stalled_for xs)
  pub closed : (s : ℕ) → s < length S.net.servers
      → IsTime d e (plain_time (opening_of S s).gate (open_time S s) +ℚ stalled_for (opening_of S s).stalls)
  pub plain_spans : (s : ℕ) → s < length S.net.servers → IsTime d e (plain_span S s)
  pub plain_sums : (k : ℕ) → k ≤ length S.net.servers → IsTime d e (first_time S +ℚ sum_below (plain_span S) k)
  pub gated_sum : IsTime d e (sum_below (gated S) (length S.net.servers))
