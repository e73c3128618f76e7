-- What a queue of a priority server is served. (Le Boudec and Thiran, non-preemptive priority.)
use Rattle.std.specs.Prelude.{◌≡◌, ℕ, pos, List}
use Rattle.rational.specs.Rational.{ℚ, int, ◌≤ℚ◌}
use Rattle.rational.specs.Extended.{Ext}
use Rattle.rational.specs.declared.Extended.TheVariants.{Fin}
use Rattle.min_plus.specs.Pointwise.{excess}
use Rattle.min_plus.specs.Running.{IsRunningSupremum}
use Rattle.run_laws.specs.Cards.{whole, of_queue, before_queue, after_queue, ServerStep}
use Rattle.run_laws.specs.Servers.{Priority, Server}
use Rattle.run_laws.specs.Allows.{IsLawfulView}
use Rattle.run_laws.specs.Premises.{KeepsArrivals, KeepsService, KeepsSizes, IsZeroAtStart}
use Rattle.run_laws.specs.Serves.{Serves}

-- the service less what the higher queues bring, and less one packet of the lower ones; never below 0
abbrev pub priority_left : (ℚ → Ext) → (ℚ → Ext) → ℕ → ℚ → Ext
priority_left β higher lower y = excess (excess (β y) (higher y)) (Fin (whole lower))

-- R is its running supremum
abbrev pub IsPriorityService : (ℚ → Ext) → (ℚ → Ext) → ℕ → (ℚ → Ext) → Type 0
IsPriorityService β higher lower R = (t : ℚ) → int (pos 0) ≤ℚ t
    → IsRunningSupremum (priority_left β higher lower) t (R t)

-- the queues before queue i keep the curve `higher`; packets of the queues after it have at most `lower` bits
abbrev pub PriorityServes : Type 0
PriorityServes = (server : Server) (end : ℚ) (view : List ServerStep) (queues i lower : ℕ) (β higher R : ℚ → Ext) →
    IsLawfulView server end view → server.discipline ≡ Priority queues → KeepsService β end view → IsZeroAtStart β →
    KeepsArrivals (before_queue i) higher view → KeepsSizes (after_queue i) lower view →
    IsPriorityService β higher lower R → Serves (of_queue i) R end view
