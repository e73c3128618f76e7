-- What a server of any discipline leaves to a class of packets, as one of its queues, when nothing is known of the
-- order in which it works: the service less what all other packets bring. It is counted from a time at which the whole
-- server is empty: where the class alone has nothing there, others may wait, and nothing bounds the work on what they
-- brought. (Le Boudec and Thiran, section 6.2: blind multiplexing.)
use Rattle.std.specs.Prelude.{pos, not, List}
use Rattle.rational.specs.Rational.{ℚ, int, ◌≤ℚ◌, ◌<ℚ◌}
use Rattle.rational.specs.Extended.{Ext}
use Rattle.min_plus.specs.Pointwise.{excess}
use Rattle.min_plus.specs.Running.{IsRunningSupremum}
use Rattle.run_laws.specs.Cards.{Class, all, ServerStep}
use Rattle.run_laws.specs.Servers.{Server}
use Rattle.run_laws.specs.Allows.{IsLawfulView}
use Rattle.run_laws.specs.Premises.{KeepsArrivals, KeepsService, IsZeroAtStart}
use Rattle.run_laws.specs.Counts.{arrived, departed}
use Rattle.run_laws.specs.Backlogged.{IsBacklogged}
use Rattle.run_laws.specs.Serves.{Serves, IsServed}

-- all packets but those of the class
abbrev pub others : Class → Class
others C c = not (C c)

-- the service less what the others bring; never below 0
abbrev pub rest_left : (ℚ → Ext) → (ℚ → Ext) → ℚ → Ext
rest_left β brought y = excess (β y) (brought y)

-- R is its running supremum
abbrev pub IsRestService : (ℚ → Ext) → (ℚ → Ext) → (ℚ → Ext) → Type 0
IsRestService β brought R = (t : ℚ) → int (pos 0) ≤ℚ t → IsRunningSupremum (rest_left β brought) t (R t)

-- the other packets keep the curve `brought`
abbrev pub RestServes : Type 0
RestServes = (server : Server) (end : ℚ) (view : List ServerStep) (C : Class) (β brought R : ℚ → Ext) →
    IsLawfulView server end view → KeepsService β end view → IsZeroAtStart β → KeepsArrivals (others C) brought view →
    IsRestService β brought R → Serves C R end view

-- ---- since when
-- a class that has not left whole by t is served since a backlogged period began: that of the class which `whose` names
abbrev pub RestServesSincePeriodOf : (Class → Class) → Type 0
RestServesSincePeriodOf whose = (server : Server) (end : ℚ) (view : List ServerStep) (C : Class)
    (β brought R : ℚ → Ext) →
    IsLawfulView server end view → KeepsService β end view → IsZeroAtStart β → KeepsArrivals (others C) brought view →
    IsRestService β brought R → (t : ℚ) → t ≤ℚ end → departed C view t <ℚ arrived C view t →
    (s : ℚ) × IsBacklogged (whose C) view s t × IsServed C R view t s

-- that of all packets, which is the server's; by the class's own it would be false (`worked_trees`)
abbrev pub RestServesSince : Type 0
RestServesSince = RestServesSincePeriodOf (λ C. all)
